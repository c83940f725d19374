-- A module among modules, beside the whole in which its parameters stand first. Both show the same inputs, outputs and start
-- values at the parameters, by induction along them; locals are no outputs. So both have the same stores and conflicts.
use Rattle.std.proofs.Common.{◌≡◌, ◌<◌, ◌≤◌, ℕ, zero, suc, ◌+◌, ℤ, Bool, true, false, nat_lt, List, [], ◌∷◌, ◌++◌, length, map, replicate, Option, Some, None, unwrap_or, if◌then◌else◌, refl, sym, ap, ap₂, ◌∙◌, subst, arith}
use Rattle.std.proofs.lemmas.Bool.Decides.{nat_tests}
use Rattle.std.specs.Prelude.{◌==◌, slice_get}
use Rattle.quartz_tree.specs.declared.place.Place.{Place}
use Rattle.quartz_tree.specs.declared.declare.Storage.{Storage}
use Rattle.quartz_tree.specs.declared.declare.Flow.{Flow}
use Rattle.quartz_tree.specs.declared.declare.Flow.TheVariants.{Input, Output, Inner}
use Rattle.quartz_tree.specs.declared.declare.Ty.{Ty}
use Rattle.quartz_tree.specs.declared.declare.Var.{Var}
use Rattle.quartz_tree.specs.declared.fault.Fault.{Fault}
use Rattle.quartz_expr.specs.declared.act.Act.{Act}
use Rattle.quartz_expr.specs.Values.{Values, elements_in}
use Rattle.quartz_expr.specs.Vars.{Vars, read, base_of, length_of, count_of, storage_of, start_of, declared_at}
use Rattle.quartz_expr.specs.Intervals.{Interval, nought, range_of, type_interval}
use Rattle.quartz_expr.specs.Terms.{Store}
use Rattle.quartz_expr.specs.Resolve.{resolved_store, store_conflicts, fresh_store}
use Rattle.quartz_expr.specs.Steps.{if_output, outputs_from, outputs_of, environment, shown, after_input, after_output, next_stores, output_conflicts, first_list, rest_of}
use Rattle.framed_terms.specs.Framed.{Meanings}
use Rattle.framed_terms.specs.Similar.{Carry, IsLike, LikeTypes, Agree, SameActs}
use Rattle.framed_terms.proofs.ActLemmas.{Tells, same_resolved, same_conflicts}
use Rattle.framed_runs.specs.Parameters.{Alike, AllAlike, AllInner, front, Heads}

pub front_is : (n x y : ℕ) → front n x ≡ Some y → (x < n) × (x ≡ y)
front_is n x y e = at (nat_lt x n) refl e
  where
    at : (b : Bool) → nat_lt x n ≡ b → (if b then Some x else None) ≡ Some y → (x < n) × (x ≡ y)
    at true h e = (grind (arith, nat_tests, h), ap (λ (o : Option ℕ). unwrap_or o 0) e)
    at false h e = absurd (cc)

pub front_at : (n x : ℕ) → x < n → front n x ≡ Some x
front_at n x h = let t : nat_lt x n ≡ true = grind (arith, nat_tests, h) in ap (λ (b : Bool). if b then Some x else None) t

pub front_tells : (n x : ℕ) → Tells (front n) x x
front_tells n x z w e = ap (λ (k : ℕ). k == x) (front_is n z w e).1

-- ---- a parameter in both

record Both (vs ws : Vars) (x : ℕ) : Type 0 where
  left : Var
  right : Var
  at_left : slice_get vs x ≡ Some left
  at_right : slice_get ws x ≡ Some right
  alike : Alike left right

both : (ps qs ls ms : List Var) (x : ℕ) → AllAlike ps qs → x < length ps → Both (ps ++ ls) (qs ++ ms) x
both [] [] ls ms x a h = absurd (omega (arith, h))
both [] (q ∷ qs) ls ms x a h = absurd a
both (p ∷ ps) [] ls ms x a h = absurd a
both (p ∷ ps) (q ∷ qs) ls ms zero a h = record { left = p; right = q; at_left = refl; at_right = refl; alike = a.0 }
both (p ∷ ps) (q ∷ qs) ls ms (suc x) a h =
    let b = both ps qs ls ms x a.1 (omega (arith, h)) in
    record { left = b.left; right = b.right; at_left = b.at_left; at_right = b.at_right; alike = b.alike }

read_same : {A : Type 0} (d : A) (g : Var → A) (vs ws : Vars) (x : ℕ) (b : Both vs ws x) → g b.left ≡ g b.right → read d g (slice_get vs x) ≡ read d g (slice_get ws x)
read_same d g vs ws x b e = ap (read d g) b.at_left ∙ e ∙ sym (ap (read d g) b.at_right)

range_at : (vs : Vars) (x : ℕ) (v : Var) → slice_get vs x ≡ Some v → range_of vs x ≡ type_interval v.decl.ty
range_at vs x v e = ap (λ (o : Option Var). elim o as (λ _. Interval) [ None ↦ nought | Some w ↦ type_interval w.decl.ty ]) e

like_both : (vs ws : Vars) (x : ℕ) → Both vs ws x → IsLike vs ws x x
like_both vs ws x b = record {
  base = read_same _ (λ (v : Var). v.decl.ty.base) vs ws x b (ap (λ (t : Ty). t.base) b.alike.ty);
  len = read_same _ (λ (v : Var). v.decl.ty.len) vs ws x b (ap (λ (t : Ty). t.len) b.alike.ty);
  range = range_at vs x b.left b.at_left ∙ ap type_interval b.alike.ty ∙ sym (range_at ws x b.right b.at_right);
}

-- what an output is in both
pub record IsShared (vs ws : Vars) (x : ℕ) : Type 0 where
  pub storage : storage_of vs x ≡ storage_of ws x
  pub place : declared_at vs x ≡ declared_at ws x
  pub fresh : fresh_store vs x ≡ fresh_store ws x

shared_both : (vs ws : Vars) (x : ℕ) → Both vs ws x → IsShared vs ws x
shared_both vs ws x b = record {
  storage = read_same _ (λ (v : Var). v.decl.storage) vs ws x b b.alike.storage;
  place = read_same _ (λ (v : Var). v.decl.place) vs ws x b b.alike.place;
  fresh = ap₂ (λ (o : Option ℕ) (z : ℤ). replicate (unwrap_or o 1) (record { value = z; pending = None }))
      (read_same None (λ (v : Var). v.decl.ty.len) vs ws x b (ap (λ (t : Ty). t.len) b.alike.ty)) (read_same _ (λ (v : Var). v.start) vs ws x b b.alike.start);
}

-- ---- environments

environment_length : (vs : Vars) (is os : List (List ℤ)) → length (environment vs is os) ≡ length vs
environment_length [] is os = refl
environment_length (v ∷ vs) is os = ap suc (environment_length vs _ _)

-- what is shown of a variable, by its flow, type and start value
abbrev shown_of : Flow → Ty → ℤ → (is os : List (List ℤ)) → List ℤ
shown_of Input t z is os = first_list is
shown_of Output t z is os = first_list os
shown_of Inner t z is os = replicate (unwrap_or t.len 1) z

shown_is : (v : Var) (is os : List (List ℤ)) → shown v is os ≡ shown_of v.decl.flow v.decl.ty v.start is os
shown_is v is os = at v.decl.flow
  where
    at : (f : Flow) → shown (record v { decl = record v.decl { flow = f } }) is os ≡ shown_of f v.decl.ty v.start is os
    at Input = refl
    at Output = refl
    at Inner = refl

same_shown : (v w : Var) (is os : List (List ℤ)) → Alike v w → shown v is os ≡ shown w is os
same_shown v w is os a =
    shown_is v is os ∙ ap (λ (f : Flow). shown_of f v.decl.ty v.start is os) a.flow ∙ ap₂ (λ (t : Ty) (z : ℤ). shown_of w.decl.flow t z is os) a.ty a.start ∙ sym (shown_is w is os)

same_front : (ps qs ls ms : List Var) (is os : List (List ℤ)) (x : ℕ) → AllAlike ps qs → x < length ps → slice_get (environment (ps ++ ls) is os) x ≡ slice_get (environment (qs ++ ms) is os) x
same_front [] [] ls ms is os x a h = absurd (omega (arith, h))
same_front [] (q ∷ qs) ls ms is os x a h = absurd a
same_front (p ∷ ps) [] ls ms is os x a h = absurd a
same_front (p ∷ ps) (q ∷ qs) ls ms is os zero a h = ap (λ (l : List ℤ). Some l) (same_shown p q is os a.0)
same_front (p ∷ ps) (q ∷ qs) ls ms is os (suc x) a h =
    same_front ps qs ls ms _ _ x a.1 (omega (arith, h))
    ∙ ap (λ (f : Flow). slice_get (environment (qs ++ ms) (after_input f is) (after_output f os)) x) a.0.flow

-- ---- outputs

no_outputs : (ls : List Var) (n : ℕ) → AllInner ls → outputs_from n ls ≡ []
no_outputs [] n a = refl
no_outputs (l ∷ ls) n a = ap (λ (f : Flow). if_output f n (outputs_from (n + 1) ls)) a.0 ∙ no_outputs ls (n + 1) a.1

same_outputs : (ps qs ls ms : List Var) (n : ℕ) → AllAlike ps qs → AllInner ls → AllInner ms → outputs_from n (ps ++ ls) ≡ outputs_from n (qs ++ ms)
same_outputs [] [] ls ms n a g h = no_outputs ls n g ∙ sym (no_outputs ms n h)
same_outputs [] (q ∷ qs) ls ms n a g h = absurd a
same_outputs (p ∷ ps) [] ls ms n a g h = absurd a
same_outputs (p ∷ ps) (q ∷ qs) ls ms n a g h = ap₂ (λ (f : Flow) (l : List ℕ). if_output f n l) a.0.flow (same_outputs ps qs ls ms (n + 1) a.1 g h)

-- each of the numbers
abbrev pub Every : (ℕ → Type 0) → List ℕ → Type 0
Every P [] = Unit {0}
Every P (x ∷ xs) = P x × Every P xs

every_output : (P : ℕ → Type 0) (ps ls : List Var) (n : ℕ) → AllInner ls → ((x : ℕ) → n ≤ x → x < n + length ps → P x) → Every P (outputs_from n (ps ++ ls))
every_output P [] ls n a h = subst (λ (l : List ℕ). Every P l) (sym (no_outputs ls n a)) tt
every_output P (p ∷ ps) ls n a h = at p.decl.flow (every_output P ps ls (n + 1) a (λ x g k. h x (omega (arith, g)) (omega (arith, k))))
  where
    at : (f : Flow) → Every P (outputs_from (n + 1) (ps ++ ls)) → Every P (if_output f n (outputs_from (n + 1) (ps ++ ls)))
    at Input r = r
    at Output r = (h n (omega arith) (omega arith), r)
    at Inner r = r

same_fresh : (vs ws : Vars) (xs : List ℕ) → Every (IsShared vs ws) xs → map (fresh_store vs) xs ≡ map (fresh_store ws) xs
same_fresh vs ws [] a = refl
same_fresh vs ws (x ∷ xs) a = ap₂ (λ (s : Store) (l : List Store). s ∷ l) a.0.fresh (same_fresh vs ws xs a.1)

same_next : (vs ws : Vars) (f : Carry) (xs : List ℕ) (a b : List Act) (ss : List Store) → ((x : ℕ) → Tells f x x) → SameActs f a b → Every (IsShared vs ws) xs → next_stores vs xs a ss ≡ next_stores ws xs b ss
same_next vs ws f [] a b ss t s e = refl
same_next vs ws f (x ∷ xs) a b [] t s e = refl
same_next vs ws f (x ∷ xs) a b (k ∷ ss) t s e =
    ap₂ (λ (s : Store) (l : List Store). s ∷ l)
    (ap (λ (g : Storage). resolved_store g x a 0 k) e.0.storage ∙ same_resolved f (storage_of ws x) x x 0 a b k (t x) s)
    (same_next vs ws f xs a b ss t s e.1)

same_output_conflicts : (vs ws : Vars) (f : Carry) (xs : List ℕ) (a b : List Act) (os : List (List ℤ)) → ((x : ℕ) → Tells f x x) → SameActs f a b → Every (IsShared vs ws) xs
    → output_conflicts vs xs a os ≡ output_conflicts ws xs b os
same_output_conflicts vs ws f [] a b os t s e = refl
same_output_conflicts vs ws f (x ∷ xs) a b [] t s e = refl
same_output_conflicts vs ws f (x ∷ xs) a b (o ∷ os) t s e =
    ap₂ (λ (g h : List Fault). g ++ h)
    (ap (λ (p : Place). store_conflicts p x a 0 o) e.0.place ∙ same_conflicts f (declared_at ws x) x x 0 a b o (t x) s)
    (same_output_conflicts vs ws f xs a b os t s e.1)

-- ---- all of it

-- what a run needs of them
pub record Whole (us : Meanings) (vs ws : Vars) (f : Carry) : Type 0 where
  pub agrees : (is os : List (List ℤ)) → Agree us ws vs f (environment vs is os) (environment ws is os)
  pub tells : (x : ℕ) → Tells f x x
  pub outputs : outputs_of vs ≡ outputs_of ws
  pub shared : Every (IsShared vs ws) (outputs_of vs)

whole_at : (us : Meanings) (ps qs ls ms : List Var) → AllAlike ps qs → AllInner ls → AllInner ms → Whole us (ps ++ ls) (qs ++ ms) (front (length ps))
whole_at us ps qs ls ms a g h = record {
  agrees = λ is os. record {
    types = λ x y e. let k = front_is (length ps) x y e in subst (λ (z : ℕ). IsLike (ps ++ ls) (qs ++ ms) x z) k.1 (like_both _ _ x (both ps qs ls ms x a k.0));
    values = λ x y e.
        let k = front_is (length ps) x y e in
        ap (λ (o : Option (List ℤ)). unwrap_or o []) (same_front ps qs ls ms is os x a k.0) ∙ ap (λ (z : ℕ). elements_in (environment (qs ++ ms) is os) z) k.1;
    near = environment_length (ps ++ ls) is os;
    far = environment_length (qs ++ ms) is os;
  };
  tells = λ x. front_tells (length ps) x;
  outputs = same_outputs ps qs ls ms 0 a g h;
  shared = every_output (IsShared (ps ++ ls) (qs ++ ms)) ps ls 0 g (λ x k l. shared_both _ _ x (both ps qs ls ms x a (omega (arith, l))));
}

pub whole : (us : Meanings) (vs ws : Vars) (h : Heads vs ws) → Whole us vs ws (front (length h.params))
whole us vs ws h =
    subst (λ (u : Vars). Whole us u ws (front (length h.params))) (sym h.left)
    (subst (λ (u : Vars). Whole us (h.params ++ h.locals) u (front (length h.params))) (sym h.right) (whole_at us h.params h.firsts h.locals h.others h.alike h.inner_left h.inner_right))

pub same_starts : (us : Meanings) (vs ws : Vars) (f : Carry) → Whole us vs ws f → map (fresh_store vs) (outputs_of vs) ≡ map (fresh_store ws) (outputs_of ws)
same_starts us vs ws f h = same_fresh vs ws (outputs_of vs) h.shared ∙ ap (map (fresh_store ws)) h.outputs

pub same_stores_after : (us : Meanings) (vs ws : Vars) (f : Carry) (a b : List Act) (ss : List Store) → Whole us vs ws f → SameActs f a b → next_stores vs (outputs_of vs) a ss ≡ next_stores ws (outputs_of ws) b ss
same_stores_after us vs ws f a b ss h s = same_next vs ws f (outputs_of vs) a b ss h.tells s h.shared ∙ ap (λ (l : List ℕ). next_stores ws l b ss) h.outputs

pub same_conflicts_of : (us : Meanings) (vs ws : Vars) (f : Carry) (a b : List Act) (os : List (List ℤ)) → Whole us vs ws f → SameActs f a b → output_conflicts vs (outputs_of vs) a os ≡ output_conflicts ws (outputs_of ws) b os
same_conflicts_of us vs ws f a b os h s = same_output_conflicts vs ws f (outputs_of vs) a b os h.tells s h.shared ∙ ap (λ (l : List ℕ). output_conflicts ws l b os) h.outputs
