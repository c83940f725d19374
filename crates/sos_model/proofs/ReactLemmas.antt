-- The walk finds the reactions of the relation, and all of them.
use Rattle.std.proofs.Common.{◌≡◌, ◌≤◌, ◌+◌, ℕ, suc, ℤ, pos, Bool, true, false, not, nat_le, nat_lt, List, [], ◌∷◌, ◌++◌, length, take, drop, map, Option, Some, None, option_map, slice_set, if◌then◌else◌, refl, sym, ap, ap₂, ◌∙◌, subst, arith, length-append}
use Rattle.std.proofs.lemmas.Bool.Decides.{nat_tests}
use Rattle.std.proofs.lemmas.List.{take-append-drop, length-take-le}
use Rattle.std.proofs.Math.Seq.{take-append_seam, drop-append_seam}
use Rattle.std.specs.Option.{option_and_then}
use Rattle.quartz_tree.specs.Tree.{Tree}
use Rattle.quartz_expr.specs.declared.act.Act.{Act}
use Rattle.quartz_expr.specs.Values.{Values, is_zero}
use Rattle.quartz_expr.specs.Vars.{Vars, count_of, storage_of}
use Rattle.quartz_expr.specs.Value.{value}
use Rattle.quartz_expr.specs.Faults.{faults, is_index_below}
use Rattle.quartz_expr.specs.Intervals.{range_of, is_in}
use Rattle.quartz_expr.specs.Writes.{act_if, in_range, target_index, write_acts, write_faults}
use Rattle.quartz_expr.specs.Terms.{Store, Term, nothing, pause, write, choose, seq, par, loop, abort, suspend, scope, Terms, none, part, is_instant}
use Rattle.quartz_expr.specs.Resolve.{resolved_store, values_of}
use Rattle.quartz_expr.specs.Tick.{tick}
use Rattle.quartz_expr.specs.React.{Met, Reaction, Reactions, ends, rests, goes_on, beside, store_of, meetings, scoped, React, ReactEach, AllResolved, of_nothing, of_pause, of_write, of_yes, of_no, of_none, of_turn, of_stop, of_par, of_loop, of_delayed_abort, of_delayed_suspend, of_spared_abort, of_spared_suspend, of_strong_abort, of_weak_abort, of_strong_suspend, of_weak_suspend, of_scope, of_nobody, of_beside, givens}
use Rattle.quartz_expr.proofs.LawLemmas.{stays_on, givens_append, givens_meetings}
use Rattle.sos_model.specs.Sound.{is_sound, are_sound, is_typed, fits_store}
use Rattle.sos_model.specs.Walk.{Walk, Walks, again, before_walks, chosen, delayed_guard, entered, found, guard_on, looped, on_reaction, read_as, spared_guard, stopped, stops_body, strong_guard, taken_by, tested_guard, together_walk, turned, walk, walk_all, walk_each, weak_guard}
use Rattle.sos_model.proofs.RangeLemmas.{AllIn, ActsLie, acts_append, acts_others, read_lies, resolved_length, store_lies, wanted_lie}
use Rattle.sos_model.specs.Read.{all_as_read, as_read, read_met}
use Rattle.quartz_expr.proofs.TruthLemmas.{and_parts, and_intro}

abbrev found_each : List ℤ → Reactions → Option Walks
found_each xs q = Some (record { reactions = q; rest = xs })

-- ---- what is read of given values

read_append : (vs : Vars) (a b : List Met) → map (read_met vs) (a ++ b) ≡ map (read_met vs) a ++ map (read_met vs) b
read_append vs [] b = refl
read_append vs (m ∷ a) b = ap (λ (l : List Met). read_met vs m ∷ l) (read_append vs a b)

read_meetings : (vs : Vars) (x : ℕ) (v w : List ℤ) → map (read_met vs) (meetings x v w) ≡ meetings x (read_as vs x v) w
read_meetings vs x [] w = refl
read_meetings vs x (z ∷ v) [] = refl
read_meetings vs x (z ∷ v) (y ∷ w) = ap (λ (l : List Met). record { var = x; given = in_range vs x z; wanted = y } ∷ l) (read_meetings vs x v w)

read_length : (vs : Vars) (x : ℕ) (v : List ℤ) → length (read_as vs x v) ≡ length v
read_length vs x [] = refl
read_length vs x (z ∷ v) = ap suc (read_length vs x v)

head_same : (m n : Met) (a b : List Met) → m ∷ a ≡ n ∷ b → m ≡ n
head_same m n a b e = cc

tail_same : (m n : Met) (a b : List Met) → m ∷ a ≡ n ∷ b → a ≡ b
tail_same m n a b e = cc

-- what was met, cut where what is read of it is
record Cut (vs : Vars) (ms a b : List Met) : Type 0 where
  front : List Met
  back : List Met
  whole : ms ≡ front ++ back
  fronts : map (read_met vs) front ≡ a
  backs : map (read_met vs) back ≡ b

cut : (vs : Vars) (ms a b : List Met) → map (read_met vs) ms ≡ a ++ b → Cut vs ms a b
cut vs ms [] b e = record { front = []; back = ms; whole = refl; fronts = refl; backs = e }
cut vs [] (n ∷ a) b e = absurd (cc)
cut vs (m ∷ ms) (n ∷ a) b e =
    let c = cut vs ms a b (tail_same (read_met vs m) n _ _ e) in
    record {
      front = m ∷ c.front;
      back = c.back;
      whole = ap (λ (l : List Met). m ∷ l) c.whole;
      fronts = ap₂ (λ (k : Met) (l : List Met). k ∷ l) (head_same (read_met vs m) n _ _ e) c.fronts;
      backs = c.backs;
    }

none_met : (vs : Vars) (ms : List Met) (ys : List ℤ) (q : Reaction) → map (read_met vs) ms ≡ [] → found (givens ms ++ ys) (record q { met = [] }) ≡ found ys (record q { met = ms })
none_met vs [] ys q e = refl
none_met vs (m ∷ ms) ys q e = absurd (cc)

nobody_met : (vs : Vars) (ms : List Met) (ys : List ℤ) (q : Reactions) → map (read_met vs) ms ≡ [] → found_each (givens ms ++ ys) (record q { met = [] }) ≡ found_each ys (record q { met = ms })
nobody_met vs [] ys q e = refl
nobody_met vs (m ∷ ms) ys q e = absurd (cc)

-- what was met of a scope, by the given values
given_met : (vs : Vars) (m : Met) (x : ℕ) (z y : ℤ) → read_met vs m ≡ record { var = x; given = z; wanted = y } → (m ≡ record { var = x; given = m.given; wanted = y }) × (in_range vs x m.given ≡ z)
given_met vs m x z y e =
    let var : m.var ≡ x = ap (λ (n : Met). n.var) e in
    let wanted : m.wanted ≡ y = ap (λ (n : Met). n.wanted) e in
    (λ i. record { var = var i; given = m.given; wanted = wanted i }, sym (ap (λ (n : ℕ). in_range vs n m.given) var) ∙ ap (λ (n : Met). n.given) e)

given_meetings : (vs : Vars) (x : ℕ) (a : List Met) (v w : List ℤ) → length v ≡ length w → map (read_met vs) a ≡ meetings x v w → (a ≡ meetings x (givens a) w) × (read_as vs x (givens a) ≡ v)
given_meetings vs x [] [] w l e = (refl, refl)
given_meetings vs x [] (z ∷ v) [] l e = absurd (omega (arith, l))
given_meetings vs x [] (z ∷ v) (y ∷ w) l e = absurd (cc)
given_meetings vs x (m ∷ a) [] w l e = absurd (cc)
given_meetings vs x (m ∷ a) (z ∷ v) [] l e = absurd (omega (arith, l))
given_meetings vs x (m ∷ a) (z ∷ v) (y ∷ w) l e =
    let one = given_met vs m x z y (head_same (read_met vs m) _ _ _ e) in
    let rest = given_meetings vs x a v w (omega (arith, l)) (tail_same (read_met vs m) _ _ _ e) in
    (ap₂ (λ (k : Met) (b : List Met). k ∷ b) one.0 rest.0, ap₂ (λ (k : ℤ) (b : List ℤ). k ∷ b) one.1 rest.1)

-- ---- acts lie in their ranges

act_lies : (vs : Vars) (b : Bool) (x : ℕ) (i z : ℤ) (d : Bool) → is_in (range_of vs x) z ≡ true → ActsLie vs (act_if b x i z d)
act_lies vs true x i z d h = (h, tt)
act_lies vs false x i z d h = tt

mutual
  pub acts_lie : (vs : Vars) (env : Values) (t : Term) (r : Reaction) → React vs env t r → ActsLie vs r.acts
  acts_lie vs env _ _ (of_nothing _) = tt
  acts_lie vs env _ _ (of_pause _) = tt
  acts_lie vs env _ _ (of_write _ x i e d p q) = act_lies vs (is_index_below (count_of vs x) (target_index vs env i)) x (target_index vs env i) (in_range vs x (value vs env e)) d (read_lies vs x (value vs env e))
  acts_lie vs env _ _ (of_yes _ c a b q h k) = acts_lie vs env a q k
  acts_lie vs env _ _ (of_no _ c a b q h k) = acts_lie vs env b q k
  acts_lie vs env _ _ (of_none _) = tt
  acts_lie vs env _ _ (of_turn _ t ts q p k h j) = acts_append vs q.acts p.acts (acts_lie vs env t q k) (acts_lie vs env (seq ts) p j)
  acts_lie vs env _ _ (of_stop _ t ts q k h) = acts_lie vs env t q k
  acts_lie vs env _ _ (of_par _ ts p k) = all_acts_lie vs env ts p k
  acts_lie vs env _ _ (of_loop _ t c q k) = acts_lie vs env _ q k
  acts_lie vs env _ _ (of_delayed_abort _ w t c q k) = acts_lie vs env t q k
  acts_lie vs env _ _ (of_delayed_suspend _ w t c q k) = acts_lie vs env t q k
  acts_lie vs env _ _ (of_spared_abort _ w t c q h k) = acts_lie vs env t q k
  acts_lie vs env _ _ (of_spared_suspend _ w t c q h k) = acts_lie vs env t q k
  acts_lie vs env _ _ (of_strong_abort _ t c h) = tt
  acts_lie vs env _ _ (of_weak_abort _ t c q h k) = acts_lie vs env t q k
  acts_lie vs env _ _ (of_strong_suspend _ t c h) = tt
  acts_lie vs env _ _ (of_weak_suspend _ t c q h k) = acts_lie vs env t q k
  acts_lie vs env _ _ (of_scope _ x s t v q l k) = acts_others vs x q.acts (acts_lie vs (slice_set env x v) t q k)

  all_acts_lie : (vs : Vars) (env : Values) (ts : Terms) (p : Reactions) → ReactEach vs env ts p → ActsLie vs p.acts
  all_acts_lie vs env _ _ (of_nobody _) = tt
  all_acts_lie vs env _ _ (of_beside _ t ts q p k h) = acts_append vs q.acts p.acts (acts_lie vs env t q k) (all_acts_lie vs env ts p h)

-- the values of a scope that is meant lie in the range
abbrev pub wanted_by : Vars → ℕ → Option Store → List Act → List ℤ
wanted_by vs x s ws = values_of (resolved_store (storage_of vs x) x ws 0 (store_of vs x s))

pub wanted_length : (vs : Vars) (x : ℕ) (s : Option Store) (ws : List Act) (v : List ℤ) → length v ≡ length (store_of vs x s) → length v ≡ length (wanted_by vs x s ws)
wanted_length vs x s ws v l = l ∙ sym (resolved_length (storage_of vs x) x 0 ws (store_of vs x s))

-- ---- wanted values lie in their ranges

abbrev pub AllWantedIn : Vars → List Met → Type 0
AllWantedIn vs [] = Unit {0}
AllWantedIn vs (m ∷ ms) = (is_in (range_of vs m.var) m.wanted ≡ true) × AllWantedIn vs ms

wanted_append : (vs : Vars) (a b : List Met) → AllWantedIn vs a → AllWantedIn vs b → AllWantedIn vs (a ++ b)
wanted_append vs [] b h k = k
wanted_append vs (m ∷ a) b h k = (h.0, wanted_append vs a b h.1 k)

wanted_meetings : (vs : Vars) (x : ℕ) (v w : List ℤ) → AllIn (range_of vs x) w → AllWantedIn vs (meetings x v w)
wanted_meetings vs x [] w h = tt
wanted_meetings vs x (z ∷ v) [] h = tt
wanted_meetings vs x (z ∷ v) (y ∷ w) h = (h.0, wanted_meetings vs x v w h.1)

-- what a scope wants lies in the range
pub scope_wants : (vs : Vars) (x : ℕ) (s : Option Store) (ws : List Act) → fits_store vs x s ≡ true → ActsLie vs ws → AllIn (range_of vs x) (wanted_by vs x s ws)
scope_wants vs x s ws f h = wanted_lie vs x 0 (storage_of vs x) ws (store_of vs x s) (store_lies vs x s f) h

mutual
  pub wanted_in : (vs : Vars) (env : Values) (t : Term) (r : Reaction) → React vs env t r → is_sound vs t ≡ true → AllWantedIn vs r.met
  wanted_in vs env _ _ (of_nothing _) h = tt
  wanted_in vs env _ _ (of_pause _) h = tt
  wanted_in vs env _ _ (of_write _ x i e d p q) h = tt
  wanted_in vs env _ _ (of_yes _ c a b q e k) h = wanted_in vs env a q k (and_parts (is_sound vs a) (is_sound vs b) (and_parts (is_typed vs c) _ h).1).0
  wanted_in vs env _ _ (of_no _ c a b q e k) h = wanted_in vs env b q k (and_parts (is_sound vs a) (is_sound vs b) (and_parts (is_typed vs c) _ h).1).1
  wanted_in vs env _ _ (of_none _) h = tt
  wanted_in vs env _ _ (of_turn _ t ts q p k e j) h =
      let f = and_parts (is_sound vs t) (are_sound vs ts) h in
      wanted_append vs q.met p.met (wanted_in vs env t q k f.0) (wanted_in vs env (seq ts) p j f.1)
  wanted_in vs env _ _ (of_stop _ t ts q k e) h = wanted_in vs env t q k (and_parts (is_sound vs t) (are_sound vs ts) h).0
  wanted_in vs env _ _ (of_par _ ts p k) h = all_wanted_in vs env ts p k h
  wanted_in vs env _ _ (of_loop _ t c q k) h =
      let f = and_parts (not (is_instant t)) _ h in
      let g = and_parts (is_typed vs c) (is_sound vs t) f.1 in
      wanted_in vs env _ q k (and_intro _ _ g.1 (and_intro _ _ (and_intro _ _ g.0 (and_intro _ _ h refl)) refl))
  wanted_in vs env _ _ (of_delayed_abort _ w t c q k) h = wanted_in vs env t q k (and_parts (is_typed vs c) (is_sound vs t) h).1
  wanted_in vs env _ _ (of_delayed_suspend _ w t c q k) h = wanted_in vs env t q k (and_parts (is_typed vs c) (is_sound vs t) h).1
  wanted_in vs env _ _ (of_spared_abort _ w t c q e k) h = wanted_in vs env t q k (and_parts (is_typed vs c) (is_sound vs t) h).1
  wanted_in vs env _ _ (of_spared_suspend _ w t c q e k) h = wanted_in vs env t q k (and_parts (is_typed vs c) (is_sound vs t) h).1
  wanted_in vs env _ _ (of_strong_abort _ t c e) h = tt
  wanted_in vs env _ _ (of_weak_abort _ t c q e k) h = wanted_in vs env t q k (and_parts (is_typed vs c) (is_sound vs t) h).1
  wanted_in vs env _ _ (of_strong_suspend _ t c e) h = tt
  wanted_in vs env _ _ (of_weak_suspend _ t c q e k) h = wanted_in vs env t q k (and_parts (is_typed vs c) (is_sound vs t) h).1
  wanted_in vs env _ _ (of_scope _ x s t v q l k) h =
      let f = and_parts (fits_store vs x s) (is_sound vs t) (and_parts (nat_lt x (length vs)) _ h).1 in
      wanted_append vs (meetings x v (wanted_by vs x s q.acts)) q.met
      (wanted_meetings vs x v (wanted_by vs x s q.acts) (scope_wants vs x s q.acts f.0 (acts_lie vs (slice_set env x v) t q k))) (wanted_in vs (slice_set env x v) t q k f.1)

  all_wanted_in : (vs : Vars) (env : Values) (ts : Terms) (p : Reactions) → ReactEach vs env ts p → are_sound vs ts ≡ true → AllWantedIn vs p.met
  all_wanted_in vs env _ _ (of_nobody _) h = tt
  all_wanted_in vs env _ _ (of_beside _ t ts q p k j) h =
      let f = and_parts (is_sound vs t) (are_sound vs ts) h in
      wanted_append vs q.met p.met (wanted_in vs env t q k f.0) (all_wanted_in vs env ts p j f.1)

-- ---- each walk is a reaction

-- where a walk finds something, it has the property
abbrev OnWalk : {A : Type 0} → (A → Type 0) → Option A → Type 0
OnWalk P None = Unit {0}
OnWalk P (Some w) = P w

on_map : {A B : Type 0} (P : A → Type 0) (Q : B → Type 0) (f : A → B) (o : Option A) → OnWalk P o → ((w : A) → P w → Q (f w)) → OnWalk Q (option_map f o)
on_map P Q f None h k = tt
on_map P Q f (Some w) h k = k w h

on_then : {A B : Type 0} (P : A → Type 0) (Q : B → Type 0) (f : A → Option B) (o : Option A) → OnWalk P o → ((w : A) → P w → OnWalk Q (f w)) → OnWalk Q (option_and_then f o)
on_then P Q f None h k = tt
on_then P Q f (Some w) h k = k w h

-- the walk is a reaction with what is read of the given values, which with those left are the list
abbrev Real : Vars → Values → Term → List ℤ → Walk → Type 0
Real vs env t xs w = React vs env t (as_read vs w.reaction) × (givens w.reaction.met ++ w.rest ≡ xs)

abbrev RealEach : Vars → Values → Terms → List ℤ → Walks → Type 0
RealEach vs env ts xs w = ReactEach vs env ts (all_as_read vs w.reactions) × (givens w.reactions.met ++ w.rest ≡ xs)

not_true : (b : Bool) → not b ≡ true → b ≡ false
not_true true h = absurd (cc)
not_true false h = refl

real_stop : (vs : Vars) (env : Values) (t : Term) (ts : Terms) (xs : List ℤ) (w : Walk) → Real vs env t xs w → w.reaction.ended ≡ false → Real vs env (seq (part t ts)) xs (on_reaction (stopped ts) w)
real_stop vs env t ts xs w k e = (of_stop env t ts (as_read vs w.reaction) k.0 e, k.1)

real_turn : (vs : Vars) (env : Values) (t : Term) (ts : Terms) (xs : List ℤ) (w : Walk) → Real vs env t xs w → w.reaction.ended ≡ true → (u : Walk) → Real vs env (seq ts) w.rest u
    → Real vs env (seq (part t ts)) xs (on_reaction (goes_on ts w.reaction) u)
real_turn vs env t ts xs w k e u j = (
  subst (λ (l : List Met). React vs env (seq (part t ts)) (record (goes_on ts w.reaction u.reaction) { met = l })) (sym (read_append vs w.reaction.met u.reaction.met))
      (of_turn env t ts (as_read vs w.reaction) (as_read vs u.reaction) k.0 e j.0),
  givens_append w.reaction.met u.reaction.met u.rest ∙ ap (λ (l : List ℤ). givens w.reaction.met ++ l) j.1 ∙ k.1,
)

real_turned : (vs : Vars) (env : Values) (t : Term) (ts : Terms) (xs : List ℤ) (w : Walk) → Real vs env t xs w → OnWalk (Real vs env (seq ts) w.rest) (walk_all vs env ts w.rest)
    → OnWalk (Real vs env (seq (part t ts)) xs) (turned ts w.reaction w.rest (walk_all vs env ts w.rest))
real_turned vs env t ts xs w k j = at w.reaction.ended refl
  where
    at : (b : Bool) → w.reaction.ended ≡ b → OnWalk (Real vs env (seq (part t ts)) xs) (if b then option_map (on_reaction (goes_on ts w.reaction)) (walk_all vs env ts w.rest) else found w.rest (stopped ts w.reaction))
    at true e = on_map (Real vs env (seq ts) w.rest) (Real vs env (seq (part t ts)) xs) (on_reaction (goes_on ts w.reaction)) (walk_all vs env ts w.rest) j (λ u l. real_turn vs env t ts xs w k e u l)
    at false e = real_stop vs env t ts xs w k e

real_beside : (vs : Vars) (env : Values) (t : Term) (ts : Terms) (xs : List ℤ) (w : Walk) → Real vs env t xs w → (u : Walks) → RealEach vs env ts w.rest u → RealEach vs env (part t ts) xs (before_walks w.reaction u)
real_beside vs env t ts xs w k u j = (
  subst (λ (l : List Met). ReactEach vs env (part t ts) (record (beside w.reaction u.reactions) { met = l })) (sym (read_append vs w.reaction.met u.reactions.met))
      (of_beside env t ts (as_read vs w.reaction) (all_as_read vs u.reactions) k.0 j.0),
  givens_append w.reaction.met u.reactions.met u.rest ∙ ap (λ (l : List ℤ). givens w.reaction.met ++ l) j.1 ∙ k.1,
)

-- a choice, by what its condition is
real_choice : (vs : Vars) (env : Values) (c : Tree ℕ) (a b : Term) (xs : List ℤ) → OnWalk (Real vs env a xs) (walk vs env a xs) → OnWalk (Real vs env b xs) (walk vs env b xs)
    → OnWalk (Real vs env (choose c a b) xs) (walk vs env (choose c a b) xs)
real_choice vs env c a b xs k j = at (is_zero (value vs env c)) refl
  where
    at : (z : Bool) → is_zero (value vs env c) ≡ z → OnWalk (Real vs env (choose c a b) xs) (option_map (on_reaction (chosen (faults vs env c) (choose c a b))) (if z then walk vs env b xs else walk vs env a xs))
    at true e = on_map (Real vs env b xs) (Real vs env (choose c a b) xs) (on_reaction (chosen (faults vs env c) (choose c a b))) (walk vs env b xs) j (λ w l. (of_no env c a b (as_read vs w.reaction) e l.0, l.1))
    at false e = on_map (Real vs env a xs) (Real vs env (choose c a b) xs) (on_reaction (chosen (faults vs env c) (choose c a b))) (walk vs env a xs) k (λ w l. (of_yes env c a b (as_read vs w.reaction) e l.0, l.1))

real_abort : (vs : Vars) (env : Values) (w i : Bool) (t : Term) (c : Tree ℕ) (xs : List ℤ) → OnWalk (Real vs env t xs) (walk vs env t xs) → OnWalk (Real vs env (abort w i t c) xs) (walk vs env (abort w i t c) xs)
real_abort vs env w false t c xs k =
    on_map (Real vs env t xs) (Real vs env (abort w false t c) xs) (on_reaction (delayed_guard true w t c)) (walk vs env t xs) k (λ u l. (of_delayed_abort env w t c (as_read vs u.reaction) l.0, l.1))
real_abort vs env false true t c xs k = at (is_zero (value vs env c)) refl
  where
    at : (z : Bool) → is_zero (value vs env c) ≡ z → OnWalk (Real vs env (abort false true t c) xs)
        (if stops_body false true z then found xs (strong_guard true (tick vs t) c (faults vs env c)) else option_map (on_reaction (tested_guard true false z c (faults vs env c))) (walk vs env t xs))
    at true e = on_map (Real vs env t xs) (Real vs env (abort false true t c) xs) (on_reaction (spared_guard true false c (faults vs env c))) (walk vs env t xs) k (λ u l. (of_spared_abort env false t c (as_read vs u.reaction) e l.0, l.1))
    at false e = (of_strong_abort env t c e, refl)
real_abort vs env true true t c xs k = at (is_zero (value vs env c)) refl
  where
    at : (z : Bool) → is_zero (value vs env c) ≡ z → OnWalk (Real vs env (abort true true t c) xs) (option_map (on_reaction (tested_guard true true z c (faults vs env c))) (walk vs env t xs))
    at true e = on_map (Real vs env t xs) (Real vs env (abort true true t c) xs) (on_reaction (spared_guard true true c (faults vs env c))) (walk vs env t xs) k (λ u l. (of_spared_abort env true t c (as_read vs u.reaction) e l.0, l.1))
    at false e = on_map (Real vs env t xs) (Real vs env (abort true true t c) xs) (on_reaction (weak_guard true c (faults vs env c))) (walk vs env t xs) k (λ u l. (of_weak_abort env t c (as_read vs u.reaction) e l.0, l.1))

real_suspend : (vs : Vars) (env : Values) (w i : Bool) (t : Term) (c : Tree ℕ) (xs : List ℤ) → OnWalk (Real vs env t xs) (walk vs env t xs) → OnWalk (Real vs env (suspend w i t c) xs) (walk vs env (suspend w i t c) xs)
real_suspend vs env w false t c xs k =
    on_map (Real vs env t xs) (Real vs env (suspend w false t c) xs) (on_reaction (delayed_guard false w t c)) (walk vs env t xs) k (λ u l. (of_delayed_suspend env w t c (as_read vs u.reaction) l.0, l.1))
real_suspend vs env false true t c xs k = at (is_zero (value vs env c)) refl
  where
    at : (z : Bool) → is_zero (value vs env c) ≡ z → OnWalk (Real vs env (suspend false true t c) xs)
        (if stops_body false true z then found xs (strong_guard false (tick vs t) c (faults vs env c)) else option_map (on_reaction (tested_guard false false z c (faults vs env c))) (walk vs env t xs))
    at true e = on_map (Real vs env t xs) (Real vs env (suspend false true t c) xs) (on_reaction (spared_guard false false c (faults vs env c))) (walk vs env t xs) k (λ u l. (of_spared_suspend env false t c (as_read vs u.reaction) e l.0, l.1))
    at false e = (of_strong_suspend env t c e, refl)
real_suspend vs env true true t c xs k = at (is_zero (value vs env c)) refl
  where
    at : (z : Bool) → is_zero (value vs env c) ≡ z → OnWalk (Real vs env (suspend true true t c) xs) (option_map (on_reaction (tested_guard false true z c (faults vs env c))) (walk vs env t xs))
    at true e = on_map (Real vs env t xs) (Real vs env (suspend true true t c) xs) (on_reaction (spared_guard false true c (faults vs env c))) (walk vs env t xs) k (λ u l. (of_spared_suspend env true t c (as_read vs u.reaction) e l.0, l.1))
    at false e = on_map (Real vs env t xs) (Real vs env (suspend true true t c) xs) (on_reaction (weak_guard false c (faults vs env c))) (walk vs env t xs) k (λ u l. (of_weak_suspend env t c (as_read vs u.reaction) e l.0, l.1))

-- a scope that takes these values
read_entered : (vs : Vars) (env : Values) (x : ℕ) (s : Option Store) (t : Term) (v : List ℤ) (q : Reaction) → length v ≡ length (store_of vs x s)
    → React vs (slice_set env x (read_as vs x v)) t (as_read vs q) → React vs env (scope x s t) (as_read vs (entered vs x s t v q))
read_entered vs env x s t v q l k =
    let w = wanted_by vs x s q.acts in
    let met : map (read_met vs) (meetings x v w ++ q.met) ≡ meetings x (read_as vs x v) w ++ map (read_met vs) q.met =
    read_append vs (meetings x v w) q.met ∙ ap (λ (l : List Met). l ++ map (read_met vs) q.met) (read_meetings vs x v w) in
    subst (λ (l : List Met). React vs env (scope x s t) (record (scoped vs x s t (read_as vs x v) q) { met = l })) (sym met)
    (of_scope env x s t (read_as vs x v) (as_read vs q) (read_length vs x v ∙ l) k)

real_entered : (vs : Vars) (env : Values) (x : ℕ) (s : Option Store) (t : Term) (xs : List ℤ) → nat_le (taken_by vs x s) (length xs) ≡ true
    → (u : Walk) → Real vs (slice_set env x (read_as vs x (take (taken_by vs x s) xs))) t (drop (taken_by vs x s) xs) u → Real vs env (scope x s t) xs (on_reaction (entered vs x s t (take (taken_by vs x s) xs)) u)
real_entered vs env x s t xs e u r =
    let n = taken_by vs x s in
    let v = take n xs in
    let w = wanted_by vs x s u.reaction.acts in
    let le : n ≤ length xs = grind (arith, nat_tests, e) in
    let long : length v ≡ n = length-take-le n xs le in (
      read_entered vs env x s t v u.reaction long r.0,
      givens_append (meetings x v w) u.reaction.met u.rest
          ∙ ap (λ (l : List ℤ). l ++ (givens u.reaction.met ++ u.rest)) (givens_meetings x v w (wanted_length vs x s u.reaction.acts v long))
          ∙ ap (λ (l : List ℤ). v ++ l) r.1 ∙ take-append-drop n xs,
    )

real_scope : (vs : Vars) (env : Values) (x : ℕ) (s : Option Store) (t : Term) (xs : List ℤ)
    → OnWalk (Real vs (slice_set env x (read_as vs x (take (taken_by vs x s) xs))) t (drop (taken_by vs x s) xs)) (walk vs (slice_set env x (read_as vs x (take (taken_by vs x s) xs))) t (drop (taken_by vs x s) xs))
    → OnWalk (Real vs env (scope x s t) xs) (walk vs env (scope x s t) xs)
real_scope vs env x s t xs k = at (nat_le (taken_by vs x s) (length xs)) refl
  where
    at : (b : Bool) → nat_le (taken_by vs x s) (length xs) ≡ b → OnWalk (Real vs env (scope x s t) xs)
        (if b then option_map (on_reaction (entered vs x s t (take (taken_by vs x s) xs))) (walk vs (slice_set env x (read_as vs x (take (taken_by vs x s) xs))) t (drop (taken_by vs x s) xs)) else None)
    at true e =
        on_map (Real vs (slice_set env x (read_as vs x (take (taken_by vs x s) xs))) t (drop (taken_by vs x s) xs)) (Real vs env (scope x s t) xs)
        (on_reaction (entered vs x s t (take (taken_by vs x s) xs))) (walk vs (slice_set env x (read_as vs x (take (taken_by vs x s) xs))) t (drop (taken_by vs x s) xs)) k
        (λ u l. real_entered vs env x s t xs e u l)
    at false e = tt

real_loop : (vs : Vars) (env : Values) (t : Term) (c : Tree ℕ) (xs : List ℤ) → is_instant t ≡ false → OnWalk (Real vs env t xs) (walk vs env t xs) → OnWalk (Real vs env (loop t c) xs) (walk vs env (loop t c) xs)
real_loop vs env t c xs e k =
    on_map (Real vs env t xs) (Real vs env (loop t c) xs) (on_reaction (looped t c)) (walk vs env t xs) k
    (λ u l. (of_loop env t c (stopped (again t c) (as_read vs u.reaction)) (of_stop env t (again t c) (as_read vs u.reaction) l.0 (stays_on vs env t (as_read vs u.reaction) e l.0)), l.1))

mutual
  pub real : (vs : Vars) (env : Values) (t : Term) (xs : List ℤ) → is_sound vs t ≡ true → OnWalk (Real vs env t xs) (walk vs env t xs)
  real vs env nothing xs h = (of_nothing env, refl)
  real vs env pause xs h = (of_pause env, refl)
  real vs env (write x i e d p q) xs h = (of_write env x i e d p q, refl)
  real vs env (choose c a b) xs h =
      let f = and_parts (is_sound vs a) (is_sound vs b) (and_parts (is_typed vs c) _ h).1 in
      real_choice vs env c a b xs (real vs env a xs f.0) (real vs env b xs f.1)
  real vs env (seq ts) xs h = real_all vs env ts xs h
  real vs env (par ts) xs h = on_map (RealEach vs env ts xs) (Real vs env (par ts) xs) together_walk (walk_each vs env ts xs) (real_each vs env ts xs h) (λ w k. (of_par env ts (all_as_read vs w.reactions) k.0, k.1))
  real vs env (loop t c) xs h =
      let f = and_parts (not (is_instant t)) _ h in
      real_loop vs env t c xs (not_true (is_instant t) f.0) (real vs env t xs (and_parts (is_typed vs c) (is_sound vs t) f.1).1)
  real vs env (abort w i t c) xs h = real_abort vs env w i t c xs (real vs env t xs (and_parts (is_typed vs c) (is_sound vs t) h).1)
  real vs env (suspend w i t c) xs h = real_suspend vs env w i t c xs (real vs env t xs (and_parts (is_typed vs c) (is_sound vs t) h).1)
  real vs env (scope x s t) xs h =
      let f = and_parts (fits_store vs x s) (is_sound vs t) (and_parts (nat_lt x (length vs)) _ h).1 in
      real_scope vs env x s t xs (real vs (slice_set env x (read_as vs x (take (taken_by vs x s) xs))) t (drop (taken_by vs x s) xs) f.1)

  real_all : (vs : Vars) (env : Values) (ts : Terms) (xs : List ℤ) → are_sound vs ts ≡ true → OnWalk (Real vs env (seq ts) xs) (walk_all vs env ts xs)
  real_all vs env none xs h = (of_none env, refl)
  real_all vs env (part t ts) xs h =
      let f = and_parts (is_sound vs t) (are_sound vs ts) h in
      on_then (Real vs env t xs) (Real vs env (seq (part t ts)) xs) (λ w. turned ts w.reaction w.rest (walk_all vs env ts w.rest)) (walk vs env t xs) (real vs env t xs f.0)
      (λ w k. real_turned vs env t ts xs w k (real_all vs env ts w.rest f.1))

  real_each : (vs : Vars) (env : Values) (ts : Terms) (xs : List ℤ) → are_sound vs ts ≡ true → OnWalk (RealEach vs env ts xs) (walk_each vs env ts xs)
  real_each vs env none xs h = (of_nobody env, refl)
  real_each vs env (part t ts) xs h =
      let f = and_parts (is_sound vs t) (are_sound vs ts) h in
      on_then (Real vs env t xs) (RealEach vs env (part t ts) xs) (λ w. option_map (before_walks w.reaction) (walk_each vs env ts w.rest)) (walk vs env t xs) (real vs env t xs f.0)
      (λ w k. on_map (RealEach vs env ts w.rest) (RealEach vs env (part t ts) xs) (before_walks w.reaction) (walk_each vs env ts w.rest) (real_each vs env ts w.rest f.1) (λ u j. real_beside vs env t ts xs w k u j))

at_walk : {A : Type 0} (P : A → Type 0) (o : Option A) (w : A) → o ≡ Some w → OnWalk P o → P w
at_walk P o w e h = subst (OnWalk P) e h

pub walk_reacts : (vs : Vars) (env : Values) (t : Term) (r : Reaction) (xs ys : List ℤ) → is_sound vs t ≡ true → walk vs env t xs ≡ found ys r → React vs env t (as_read vs r) × (givens r.met ++ ys ≡ xs)
walk_reacts vs env t r xs ys h e = at_walk (Real vs env t xs) (walk vs env t xs) (record { reaction = r; rest = ys }) e (real vs env t xs h)

-- ---- each reaction is a walk

chosen_by : (vs : Vars) (env : Values) (c : Tree ℕ) (a b : Term) (xs : List ℤ) (z : Bool) → is_zero (value vs env c) ≡ z
    → walk vs env (choose c a b) xs ≡ option_map (on_reaction (chosen (faults vs env c) (choose c a b))) (if z then walk vs env b xs else walk vs env a xs)
chosen_by vs env c a b xs z e = ap (λ (y : Bool). option_map (on_reaction (chosen (faults vs env c) (choose c a b))) (if y then walk vs env b xs else walk vs env a xs)) e

guarded_by : (vs : Vars) (env : Values) (a w : Bool) (t : Term) (c : Tree ℕ) (xs : List ℤ) (z : Bool) → is_zero (value vs env c) ≡ z
    → guard_on vs env a w true t c xs (walk vs env t xs)
    ≡ (if stops_body w true z then found xs (strong_guard a (tick vs t) c (faults vs env c)) else option_map (on_reaction (tested_guard a w z c (faults vs env c))) (walk vs env t xs))
guarded_by vs env a w t c xs z e = ap (λ (y : Bool). if stops_body w true y then found xs (strong_guard a (tick vs t) c (faults vs env c)) else option_map (on_reaction (tested_guard a w y c (faults vs env c))) (walk vs env t xs)) e

mapped : (f : Reaction → Reaction) (o : Option Walk) (ys : List ℤ) (q : Reaction) → o ≡ found ys q → option_map (on_reaction f) o ≡ found ys (f q)
mapped f o ys q e = ap (λ (o : Option Walk). option_map (on_reaction f) o) e

-- an immediate guard that is spared; a strong one has `w` false
spared_by : (vs : Vars) (env : Values) (a w : Bool) (t : Term) (c : Tree ℕ) (xs ys : List ℤ) (q : Reaction) → is_zero (value vs env c) ≡ true → walk vs env t xs ≡ found ys q
    → guard_on vs env a w true t c xs (walk vs env t xs) ≡ found ys (spared_guard a w c (faults vs env c) q)
spared_by vs env a true t c xs ys q e k = guarded_by vs env a true t c xs true e ∙ mapped (spared_guard a true c (faults vs env c)) (walk vs env t xs) ys q k
spared_by vs env a false t c xs ys q e k = guarded_by vs env a false t c xs true e ∙ mapped (spared_guard a false c (faults vs env c)) (walk vs env t xs) ys q k

turned_on : (vs : Vars) (env : Values) (t : Term) (ts : Terms) (xs zs : List ℤ) (q : Reaction) → walk vs env t xs ≡ found zs q → walk_all vs env (part t ts) xs ≡ turned ts q zs (walk_all vs env ts zs)
turned_on vs env t ts xs zs q e = ap (λ (o : Option Walk). option_and_then (λ (w : Walk). turned ts w.reaction w.rest (walk_all vs env ts w.rest)) o) e

stopped_walk : (vs : Vars) (env : Values) (t : Term) (ts : Terms) (xs ys : List ℤ) (q : Reaction) → walk vs env t xs ≡ found ys q → q.ended ≡ false → walk_all vs env (part t ts) xs ≡ found ys (stopped ts q)
stopped_walk vs env t ts xs ys q k e =
    turned_on vs env t ts xs ys q k ∙ ap (λ (z : Bool). if z then option_map (on_reaction (goes_on ts q)) (walk_all vs env ts ys) else found ys (stopped ts q)) e

turned_walk : (vs : Vars) (env : Values) (t : Term) (ts : Terms) (xs zs ys : List ℤ) (q p : Reaction) → walk vs env t xs ≡ found zs q → q.ended ≡ true → walk_all vs env ts zs ≡ found ys p
    → walk_all vs env (part t ts) xs ≡ found ys (goes_on ts q p)
turned_walk vs env t ts xs zs ys q p k e j =
    turned_on vs env t ts xs zs q k ∙ ap (λ (z : Bool). if z then option_map (on_reaction (goes_on ts q)) (walk_all vs env ts zs) else found zs (stopped ts q)) e
    ∙ mapped (goes_on ts q) (walk_all vs env ts zs) ys p j

scoped_walk : (vs : Vars) (env : Values) (x : ℕ) (s : Option Store) (t : Term) (u v zs ys : List ℤ) (q : Reaction) → length u ≡ taken_by vs x s → read_as vs x u ≡ v → walk vs (slice_set env x v) t zs ≡ found ys q
    → walk vs env (scope x s t) (u ++ zs) ≡ found ys (record (scoped vs x s t v q) { met = meetings x u (wanted_by vs x s q.acts) ++ q.met })
scoped_walk vs env x s t u v zs ys q l e k =
    let n = taken_by vs x s in
    let front : take n (u ++ zs) ≡ u = ap (λ (m : ℕ). take m (u ++ zs)) (sym l) ∙ take-append_seam u zs in
    let rest : drop n (u ++ zs) ≡ zs = ap (λ (m : ℕ). drop m (u ++ zs)) (sym l) ∙ drop-append_seam u zs in
    let long : length (u ++ zs) ≡ length u + length zs = length-append u zs in
    let enough : nat_le n (length (u ++ zs)) ≡ true = grind (arith, nat_tests, long, l) in
    let with = λ (a : List ℤ) (b : List ℤ). option_map (on_reaction (entered vs x s t a)) (walk vs (slice_set env x (read_as vs x a)) t b) in
    ap (λ (b : Bool). if b then with (take n (u ++ zs)) (drop n (u ++ zs)) else None) enough
    ∙ ap₂ with front rest
    ∙ ap (λ (a : List ℤ). option_map (on_reaction (entered vs x s t u)) (walk vs (slice_set env x a) t zs)) e
    ∙ mapped (entered vs x s t u) (walk vs (slice_set env x v) t zs) ys q k
    ∙ ap (λ (a : List ℤ). found ys (record (scoped vs x s t a q) { met = meetings x u (wanted_by vs x s q.acts) ++ q.met })) e

ended_twice : (b : Bool) → b ≡ true → b ≡ false → ⊥
ended_twice b e f = absurd (cc)

mutual
  pub walked : (vs : Vars) (env : Values) (t : Term) (r : Reaction) → React vs env t r → is_sound vs t ≡ true → (ms : List Met) → map (read_met vs) ms ≡ r.met → (ys : List ℤ)
      → walk vs env t (givens ms ++ ys) ≡ found ys (record r { met = ms })
  walked vs env _ _ (of_nothing _) h ms m ys = none_met vs ms ys (ends [] [] nothing) m
  walked vs env _ _ (of_pause _) h ms m ys = none_met vs ms ys (record { residual = nothing; held = pause; acts = []; faults = []; met = []; ended = false }) m
  walked vs env _ _ (of_write _ x i e d p q) h ms m ys = none_met vs ms ys (ends (write_acts vs env x i e d) (write_faults vs env x i e p q) (write x i e d p q)) m
  walked vs env _ _ (of_yes _ c a b q e k) h ms m ys =
      let f = and_parts (is_sound vs a) (is_sound vs b) (and_parts (is_typed vs c) _ h).1 in
      chosen_by vs env c a b (givens ms ++ ys) false e ∙ mapped (chosen (faults vs env c) (choose c a b)) (walk vs env a (givens ms ++ ys)) ys (record q { met = ms }) (walked vs env a q k f.0 ms m ys)
  walked vs env _ _ (of_no _ c a b q e k) h ms m ys =
      let f = and_parts (is_sound vs a) (is_sound vs b) (and_parts (is_typed vs c) _ h).1 in
      chosen_by vs env c a b (givens ms ++ ys) true e ∙ mapped (chosen (faults vs env c) (choose c a b)) (walk vs env b (givens ms ++ ys)) ys (record q { met = ms }) (walked vs env b q k f.1 ms m ys)
  walked vs env _ _ (of_none _) h ms m ys = none_met vs ms ys (ends [] [] (seq none)) m
  walked vs env _ _ (of_turn _ t ts q p k e j) h ms m ys =
      let f = and_parts (is_sound vs t) (are_sound vs ts) h in
      let c = cut vs ms q.met p.met m in
      ap (λ (l : List Met). walk_all vs env (part t ts) (givens l ++ ys)) c.whole
      ∙ ap (λ (l : List ℤ). walk_all vs env (part t ts) l) (givens_append c.front c.back ys)
      ∙ turned_walk vs env t ts (givens c.front ++ (givens c.back ++ ys)) (givens c.back ++ ys) ys (record q { met = c.front }) (record p { met = c.back })
      (walked vs env t q k f.0 c.front c.fronts (givens c.back ++ ys)) e (walked vs env (seq ts) p j f.1 c.back c.backs ys)
      ∙ ap (λ (l : List Met). found ys (record (goes_on ts q p) { met = l })) (sym c.whole)
  walked vs env _ _ (of_stop _ t ts q k e) h ms m ys =
      stopped_walk vs env t ts (givens ms ++ ys) ys (record q { met = ms }) (walked vs env t q k (and_parts (is_sound vs t) (are_sound vs ts) h).0 ms m ys) e
  walked vs env _ _ (of_par _ ts p k) h ms m ys = ap (λ (o : Option Walks). option_map together_walk o) (walked_each vs env ts p k h ms m ys)
  walked vs env _ _ (of_loop _ t c _ (of_turn _ _ _ q p k e j)) h ms m ys =
      absurd (ended_twice q.ended e (stays_on vs env t q (not_true (is_instant t) (and_parts (not (is_instant t)) _ h).0) k))
  walked vs env _ _ (of_loop _ t c _ (of_stop _ _ _ q k e)) h ms m ys =
      let f = and_parts (is_typed vs c) (is_sound vs t) (and_parts (not (is_instant t)) _ h).1 in
      mapped (looped t c) (walk vs env t (givens ms ++ ys)) ys (record q { met = ms }) (walked vs env t q k f.1 ms m ys)
  walked vs env _ _ (of_delayed_abort _ w t c q k) h ms m ys =
      mapped (delayed_guard true w t c) (walk vs env t (givens ms ++ ys)) ys (record q { met = ms }) (walked vs env t q k (and_parts (is_typed vs c) (is_sound vs t) h).1 ms m ys)
  walked vs env _ _ (of_delayed_suspend _ w t c q k) h ms m ys =
      mapped (delayed_guard false w t c) (walk vs env t (givens ms ++ ys)) ys (record q { met = ms }) (walked vs env t q k (and_parts (is_typed vs c) (is_sound vs t) h).1 ms m ys)
  walked vs env _ _ (of_spared_abort _ w t c q e k) h ms m ys =
      spared_by vs env true w t c (givens ms ++ ys) ys (record q { met = ms }) e (walked vs env t q k (and_parts (is_typed vs c) (is_sound vs t) h).1 ms m ys)
  walked vs env _ _ (of_spared_suspend _ w t c q e k) h ms m ys =
      spared_by vs env false w t c (givens ms ++ ys) ys (record q { met = ms }) e (walked vs env t q k (and_parts (is_typed vs c) (is_sound vs t) h).1 ms m ys)
  walked vs env _ _ (of_strong_abort _ t c e) h ms m ys =
      guarded_by vs env true false t c (givens ms ++ ys) false e ∙ none_met vs ms ys (ends [] (faults vs env c) (abort false true (tick vs t) c)) m
  walked vs env _ _ (of_weak_abort _ t c q e k) h ms m ys =
      guarded_by vs env true true t c (givens ms ++ ys) false e
      ∙ mapped (weak_guard true c (faults vs env c)) (walk vs env t (givens ms ++ ys)) ys (record q { met = ms }) (walked vs env t q k (and_parts (is_typed vs c) (is_sound vs t) h).1 ms m ys)
  walked vs env _ _ (of_strong_suspend _ t c e) h ms m ys =
      guarded_by vs env false false t c (givens ms ++ ys) false e ∙ none_met vs ms ys (rests (suspend false true (tick vs t) c) (faults vs env c)) m
  walked vs env _ _ (of_weak_suspend _ t c q e k) h ms m ys =
      guarded_by vs env false true t c (givens ms ++ ys) false e
      ∙ mapped (weak_guard false c (faults vs env c)) (walk vs env t (givens ms ++ ys)) ys (record q { met = ms }) (walked vs env t q k (and_parts (is_typed vs c) (is_sound vs t) h).1 ms m ys)
  walked vs env _ _ (of_scope _ x s t v q l k) h ms m ys =
      let f = and_parts (fits_store vs x s) (is_sound vs t) (and_parts (nat_lt x (length vs)) _ h).1 in
      let w = wanted_by vs x s q.acts in
      let c = cut vs ms (meetings x v w) q.met m in
      let g = given_meetings vs x c.front v w (wanted_length vs x s q.acts v l) c.fronts in
      let long : length (givens c.front) ≡ taken_by vs x s = sym (read_length vs x (givens c.front)) ∙ ap (λ (u : List ℤ). length u) g.1 ∙ l in
      ap (λ (l : List Met). walk vs env (scope x s t) (givens l ++ ys)) c.whole
      ∙ ap (λ (l : List ℤ). walk vs env (scope x s t) l) (givens_append c.front c.back ys)
      ∙ scoped_walk vs env x s t (givens c.front) v (givens c.back ++ ys) ys (record q { met = c.back }) long g.1 (walked vs (slice_set env x v) t q k f.1 c.back c.backs ys)
      ∙ ap (λ (l : List Met). found ys (record (scoped vs x s t v q) { met = l ++ c.back })) (sym g.0)
      ∙ ap (λ (l : List Met). found ys (record (scoped vs x s t v q) { met = l })) (sym c.whole)

  walked_each : (vs : Vars) (env : Values) (ts : Terms) (p : Reactions) → ReactEach vs env ts p → are_sound vs ts ≡ true → (ms : List Met) → map (read_met vs) ms ≡ p.met → (ys : List ℤ)
      → walk_each vs env ts (givens ms ++ ys) ≡ found_each ys (record p { met = ms })
  walked_each vs env _ _ (of_nobody _) h ms m ys = nobody_met vs ms ys (record { residuals = none; helds = none; acts = []; faults = []; met = []; ended = true }) m
  walked_each vs env _ _ (of_beside _ t ts q p k j) h ms m ys =
      let f = and_parts (is_sound vs t) (are_sound vs ts) h in
      let c = cut vs ms q.met p.met m in
      ap (λ (l : List Met). walk_each vs env (part t ts) (givens l ++ ys)) c.whole
      ∙ ap (λ (l : List ℤ). walk_each vs env (part t ts) l) (givens_append c.front c.back ys)
      ∙ ap (λ (o : Option Walk). option_and_then (λ (w : Walk). option_map (before_walks w.reaction) (walk_each vs env ts w.rest)) o) (walked vs env t q k f.0 c.front c.fronts (givens c.back ++ ys))
      ∙ ap (λ (o : Option Walks). option_map (before_walks (record q { met = c.front })) o) (walked_each vs env ts p j f.1 c.back c.backs ys)
      ∙ ap (λ (l : List Met). found_each ys (record (beside q p) { met = l })) (sym c.whole)

pub reaction_walks : (vs : Vars) (env : Values) (t : Term) (r : Reaction) (xs ys : List ℤ) → is_sound vs t ≡ true → React vs env t (as_read vs r) × (givens r.met ++ ys ≡ xs) → walk vs env t xs ≡ found ys r
reaction_walks vs env t r xs ys h k = ap (λ (l : List ℤ). walk vs env t l) (sym k.1) ∙ walked vs env t (as_read vs r) k.0 h r.met refl ys

-- ---- resolved reactions are read as they are

resolved_read : (vs : Vars) (ms : List Met) → AllWantedIn vs ms → AllResolved ms → map (read_met vs) ms ≡ ms
resolved_read vs [] h k = refl
resolved_read vs (m ∷ ms) h k =
    let within : is_in (range_of vs m.var) m.given ≡ true = ap (is_in (range_of vs m.var)) k.0 ∙ h.0 in
    let same : in_range vs m.var m.given ≡ m.given = ap (λ (b : Bool). if b then m.given else pos 0) within in
    ap₂ (λ (n : Met) (l : List Met). n ∷ l) (ap (λ (z : ℤ). record m { given = z }) same) (resolved_read vs ms h.1 k.1)

wanted_back : (vs : Vars) (ms : List Met) → AllWantedIn vs (map (read_met vs) ms) → AllWantedIn vs ms
wanted_back vs [] h = tt
wanted_back vs (m ∷ ms) h = (h.0, wanted_back vs ms h.1)

-- a reaction with what is read of resolved values is the reaction with these values
pub as_resolved : (vs : Vars) (env : Values) (t : Term) (r : Reaction) → is_sound vs t ≡ true → AllResolved r.met → React vs env t (as_read vs r) → React vs env t r
as_resolved vs env t r h k e =
    subst (λ (l : List Met). React vs env t (record r { met = l })) (resolved_read vs r.met (wanted_back vs r.met (wanted_in vs env t (as_read vs r) e h)) k) e

pub resolved_as : (vs : Vars) (env : Values) (t : Term) (r : Reaction) → is_sound vs t ≡ true → AllResolved r.met → React vs env t r → React vs env t (as_read vs r)
resolved_as vs env t r h k e = subst (λ (l : List Met). React vs env t (record r { met = l })) (sym (resolved_read vs r.met (wanted_in vs env t r e h) k)) e
