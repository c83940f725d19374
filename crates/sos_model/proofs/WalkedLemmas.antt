-- Answers of a walk.
use Rattle.std.proofs.Common.{◌≡◌, ◌<◌, ◌≤◌, ◌+◌, ◌^◌, ℕ, ℤ, List, length, length-drop, take, drop, Option, None, Ok, Err, true, slice_set, refl, sym, ap, ◌∙◌, subst, arith}
use Rattle.std.specs.Prelude.{Result}
use Rattle.std.proofs.lemmas.List.{set-set, length-take-le}
use Rattle.quartz_expr.specs.Values.{Values, elements_in}
use Rattle.quartz_expr.specs.Vars.{Vars, count_of}
use Rattle.quartz_expr.specs.Typed.{AreSound, Fits}
use Rattle.sos_model.specs.Sound.{fits_store}
use Rattle.quartz_expr.specs.Terms.{Store, Term, scope}
use Rattle.quartz_expr.specs.React.{store_of}
use Rattle.sos_model.specs.declared.fault.WalkFault.{WalkFault}
use Rattle.sos_model.specs.declared.fault.WalkFault.TheVariants.{Missing, NoMemory}
use Rattle.sos_model.specs.declared.found.Found.{Found}
use Rattle.sos_model.specs.Found.{Finds, Walked, reaction_of}
use Rattle.sos_model.specs.Walk.{entered, read_as, walk}
use Rattle.sos_model.proofs.ArmLemmas.{finds_scope, fits_scope, lacks_scope}
use Rattle.sos_model.proofs.EnvLemmas.{length_set, set_back}
use Rattle.sos_model.proofs.RangeLemmas.{store_length}
use Rattle.sos_model.proofs.WriteLemmas.{few_elements}

-- where a part lacks a value its whole does
pub walked_err : (vs : Vars) (env env' : Values) (t u : Term) (xs ys : List ℤ) (e : WalkFault) → (walk vs env' u ys ≡ None → walk vs env t xs ≡ None) → Walked vs env' u ys (Err e) → Walked vs env t xs (Err e)
walked_err vs env env' t u xs ys Missing f h = f h
walked_err vs env env' t u xs ys NoMemory f h = tt

pub walked_is : (vs : Vars) (env env' : Values) (t u : Term) (xs : List ℤ) (r : Result Found WalkFault) → env ≡ env' → t ≡ u → Walked vs env' u xs r → Walked vs env t xs r
walked_is vs env env' t u xs r e f h = subst (λ (w : Term). Walked vs env w xs r) (sym f) (subst (λ (v : Values). Walked vs v u xs r) (sym e) h)

pub used_within : (vs : Vars) (env : Values) (t : Term) (xs : List ℤ) (n : ℕ) (f : Found) → Finds vs env t (drop n xs) f → n ≤ length xs → n + f.used ≤ length xs
used_within vs env t xs n f h l = let used = h.used in let long = length-drop n xs in omega (arith, used, long, l)

-- ---- scopes, from the environment inside

inside : (env : Values) (x : ℕ) (b r : List ℤ) → slice_set env x r ≡ env → slice_set (slice_set env x b) x r ≡ env
inside env x b r h = set-set env x b r ∙ h

pub left_ok : (vs : Vars) (env : Values) (x : ℕ) (s : Option Store) (u : Term) (xs b r : List ℤ) (store : Store) (f g : Found) → store ≡ store_of vs x s → length store ≤ length xs
    → r ≡ read_as vs x (take (length store) xs) → slice_set env x r ≡ env → Finds vs env u (drop (length store) xs) f
    → reaction_of (scope x s u) g ≡ entered vs x s u (take (length store) xs) (reaction_of u f) → g.used ≡ length (take (length store) xs) + f.used → Finds vs (slice_set env x b) (scope x s u) xs g
left_ok vs env x s u xs b r store f g e l k w h q n =
    let back : slice_set (slice_set env x b) x (read_as vs x (take (length store) xs)) ≡ env = ap (slice_set (slice_set env x b) x) (sym k) ∙ inside env x b r w in
    let long : length (take (length store) xs) ≡ length store = length-take-le (length store) xs l in
    finds_scope vs (slice_set env x b) (scope x s u) x s u xs (length store) f g refl (ap (λ (t : Store). length t) e) l
    (subst (λ (v : Values). Finds vs v u (drop (length store) xs) f) (sym back) h) q (n ∙ ap (λ (m : ℕ). m + f.used) long)

pub left_err : (vs : Vars) (env : Values) (x : ℕ) (s : Option Store) (u : Term) (xs b r : List ℤ) (store : Store) → store ≡ store_of vs x s → length store ≤ length xs
    → r ≡ read_as vs x (take (length store) xs) → slice_set env x r ≡ env → walk vs env u (drop (length store) xs) ≡ None → walk vs (slice_set env x b) (scope x s u) xs ≡ None
left_err vs env x s u xs b r store e l k w h =
    let back : slice_set (slice_set env x b) x (read_as vs x (take (length store) xs)) ≡ env = ap (slice_set (slice_set env x b) x) (sym k) ∙ inside env x b r w in
    lacks_scope vs (slice_set env x b) (scope x s u) x s u xs (length store) refl (ap (λ (t : Store). length t) e) l
    (subst (λ (v : Values). walk vs v u (drop (length store) xs) ≡ None) (sym back) h)

pub left_err_is : (vs : Vars) (env : Values) (x : ℕ) (s : Option Store) (u : Term) (xs b r : List ℤ) (store : Store) (inner : Result Found WalkFault) (e : WalkFault) → inner ≡ Err e
    → store ≡ store_of vs x s → length store ≤ length xs → r ≡ read_as vs x (take (length store) xs) → slice_set env x r ≡ env → Walked vs env u (drop (length store) xs) inner
    → Walked vs (slice_set env x b) (scope x s u) xs (Err e)
left_err_is vs env x s u xs b r store inner e i m l k w h =
    walked_err vs (slice_set env x b) env (scope x s u) u xs (drop (length store) xs) e (left_err vs env x s u xs b r store m l k w)
    (subst (λ (o : Result Found WalkFault). Walked vs env u (drop (length store) xs) o) i h)

pub left_ok_is : (vs : Vars) (env : Values) (x : ℕ) (s : Option Store) (u : Term) (xs b r front : List ℤ) (store : Store) (inner : Result Found WalkFault) (f g : Found) → inner ≡ Ok f
    → store ≡ store_of vs x s → length store ≤ length xs → r ≡ read_as vs x (take (length store) xs) → slice_set env x r ≡ env → Walked vs env u (drop (length store) xs) inner
    → front ≡ take (length store) xs → reaction_of (scope x s u) g ≡ entered vs x s u front (reaction_of u f) → g.used ≡ length front + f.used → Walked vs (slice_set env x b) (scope x s u) xs (Ok g)
left_ok_is vs env x s u xs b r front store inner f g i m l k w h p q n =
    left_ok vs env x s u xs b r store f g m l k w
    (subst (λ (o : Result Found WalkFault). Walked vs env u (drop (length store) xs) o) i h)
    (q ∙ ap (λ (v : List ℤ). entered vs x s u v (reaction_of u f)) p) (n ∙ ap (λ (v : List ℤ). length v + f.used) p)

-- ---- the environment of a scope's body

pub place_inside : (env env' : Values) (x : ℕ) (r : List ℤ) → env' ≡ slice_set env x r → x < length env → x < length env'
place_inside env env' x r e h = let long : length env' ≡ length env = ap (λ (l : Values). length l) e ∙ length_set env x r in omega (arith, long, h)

pub values_inside : (env env' : Values) (x : ℕ) (r : List ℤ) → env' ≡ slice_set env x r → slice_set env' x r ≡ env'
values_inside env env' x r e = ap (λ (l : Values). slice_set l x r) e ∙ set-set env x r r ∙ sym e

pub back_to : (env env' : Values) (x : ℕ) (r b : List ℤ) → env' ≡ slice_set env x r → b ≡ elements_in env x → env ≡ slice_set env' x b
back_to env env' x r b e h = sym (ap (λ (l : Values). slice_set l x b) e ∙ set_back env x r b h)

pub fits_entered : (vs : Vars) (env env' : Values) (x : ℕ) (s : Option Store) (xs r : List ℤ) (store : Store) → Fits vs env → x < length env → fits_store vs x s ≡ true → store ≡ store_of vs x s → length store ≤ length xs
    → r ≡ read_as vs x (take (length store) xs) → env' ≡ slice_set env x r → Fits vs env'
fits_entered vs env env' x s xs r store f h b e l k w =
    subst (λ (v : Values). Fits vs v) (sym (w ∙ ap (λ (u : List ℤ). slice_set env x u) k)) (fits_scope vs env x s xs (length store) f h b (ap (λ (t : Store). length t) e) l)

pub few_kept : (vs : Vars) (x : ℕ) (s : Option Store) (store : Store) → AreSound vs → fits_store vs x s ≡ true → store ≡ store_of vs x s → length store < 2 ^ 32
few_kept vs x s store a b e =
    let long : length store ≡ count_of vs x = ap (λ (t : Store). length t) e ∙ store_length vs x s b in
    let few : count_of vs x ≤ 64 = few_elements vs x a in
    omega (arith, long, few)
