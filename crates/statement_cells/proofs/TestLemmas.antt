-- The tests of an expression raise its faults.
use Rattle.std.proofs.Common.{◌≡◌, ℕ, zero, suc, ◌-◌, ◌<◌, ◌≤◌, ℤ, pos, negsuc, ◌≤ℤ◌, Bool, true, false, not, ◌&&◌, ◌||◌, List, [], ◌∷◌, ◌++◌, Option, Some, None, refl, sym, ap, ap₂, ◌∙◌, append_assoc, append-nil, arith}
use Rattle.std.specs.Prelude.{int_le, int_lt, unwrap_or, if◌then◌else◌}
use Rattle.std.proofs.lemmas.Int.{ints}
use Rattle.std.proofs.lemmas.Bool.Decides.{nat_tests}
use Rattle.quartz_tree.specs.declared.place.Place.{Place}
use Rattle.quartz_tree.specs.declared.fault.Fault.{Fault}
use Rattle.quartz_tree.specs.declared.fault.Kind.{Kind as FaultKind}
use Rattle.quartz_tree.specs.declared.fault.Kind.TheVariants.{Index, Divisor}
use Rattle.quartz_tree.specs.declared.expr.Binary.{Binary}
use Rattle.quartz_tree.specs.declared.expr.Binary.TheVariants.{Cat}
use Rattle.quartz_tree.specs.Tree.{Tree as Expr}
use Rattle.quartz_expr.specs.declared.kind.ExprKind.{ExprKind as Kind}
use Rattle.quartz_expr.specs.declared.kind.ExprKind.TheVariants.{Boolean as boolean, Numeric as numeric, Vector as vector}
use Rattle.quartz_expr.specs.Values.{is_zero, same_value}
use Rattle.quartz_expr.specs.Vars.{Vars, count_of}
use Rattle.quartz_expr.specs.Value as expr_value
use Rattle.quartz_expr.specs.Faults.{fault_if, is_index_below, index_faults, divides, divisor_faults, faults}
use Rattle.quartz_expr.specs.Intervals.{Interval, span, Lies, is_in, is_inside, is_sound_type, is_sound_base, is_sound_length, interval}
use Rattle.quartz_expr.specs.Typed.{AreSound as AreSoundVars, IsTyped, have_sound_types}
use Rattle.quartz_expr.proofs.TypingLemmas.{Typed, of_truth, of_number, of_bits, of_named, of_element, of_not, of_neg, of_logical, of_bitwise, of_equation, of_order, of_cat, of_arithmetic, of_choice, of_bit, of_slice, of_to_nat, of_to_bv, of_paren, typed_of}
use Rattle.quartz_expr.proofs.WithinLemmas.{sound}
use Rattle.aif_cells.specs.declared.tree.TreeOne.TheVariants as tree_one
use Rattle.aif_cells.specs.declared.tree.TreeTwo.TheVariants as tree_two
use Rattle.aif_cells.specs.Tree.{Tree, one, two}
use Rattle.aif_cells.specs.Worth.{Assignment, holds, worth}
use Rattle.aif_cells.proofs.WorthLemmas.{holds_of_bool}
use Rattle.statement_cells.specs.Expressions.{Copies, env_of, Test, test_if, is_outside, literal, may_be_outside, index_tests, divisor_tests, tests_of, tree_of}
use Rattle.statement_cells.specs.Walk.{IsCurrent}
use Rattle.statement_cells.proofs.TreeValueLemmas.{tree_valued}
use Rattle.quartz_expr.proofs.TruthLemmas.{and_parts}
use Rattle.quartz_expr.proofs.RangeLemmas.{some_element}

-- the faults of the tests that hold
unfoldable pub raised_by : Assignment → List Test → List Fault
raised_by σ [] = []
raised_by σ (t ∷ ts) = fault_if (holds (worth σ t.tree)) t.kind t.place ++ raised_by σ ts

pub raised_by_both : (σ : Assignment) (ts us : List Test) → raised_by σ (ts ++ us) ≡ raised_by σ ts ++ raised_by σ us
unfolding raised_by
raised_by_both σ [] us = refl
raised_by_both σ (t ∷ ts) us = ap (λ l. fault_if (holds (worth σ t.tree)) t.kind t.place ++ l) (raised_by_both σ ts us)
    ∙ sym (append_assoc (fault_if (holds (worth σ t.tree)) t.kind t.place) (raised_by σ ts) (raised_by σ us))

-- ---- lists under a condition

-- what there is where the condition holds
abbrev pub where_true : {A : Type 0} → Bool → List A → List A
where_true b xs = if b then xs else []

pub where_both : {A : Type 0} (b : Bool) (xs ys : List A) → where_true b xs ++ where_true b ys ≡ where_true b (xs ++ ys)
where_both true xs ys = refl
where_both false xs ys = refl

pub where_none : {A : Type 0} (b : Bool) → where_true {A = A} b [] ≡ []
where_none true = refl
where_none false = refl

where_fault : (g b : Bool) (k : FaultKind) (p : Place) → fault_if (g && b) k p ≡ where_true g (fault_if b k p)
where_fault true b k p = refl
where_fault false b k p = refl

-- either side of a choice
where_chosen : {A : Type 0} (g z : Bool) (xs ys : List A) → where_true (g && not z) xs ++ where_true (g && z) ys ≡ where_true g (if z then ys else xs)
where_chosen true true xs ys = refl
where_chosen true false xs ys = append-nil xs
where_chosen false z xs ys = refl

-- ---- single tests

-- a test under a guard
pub guarded_test : (σ : Assignment) (needed : Bool) (g t : Tree) (b : Bool) (k : FaultKind) (p : Place) → (needed ≡ true → holds (worth σ t) ≡ b) → (needed ≡ false → b ≡ false)
    → raised_by σ (test_if needed (two tree_two.And g t) k p) ≡ where_true (holds (worth σ g)) (fault_if b k p)
unfolding raised_by
guarded_test σ true g t b k p e f =
    append-nil _ ∙ ap (λ s. fault_if s k p) (holds_of_bool (holds (worth σ g) && holds (worth σ t)) ∙ ap (λ s. holds (worth σ g) && s) (e refl)) ∙ where_fault (holds (worth σ g)) b k p
guarded_test σ false g t b k p e f = sym (ap (λ s. where_true (holds (worth σ g)) (fault_if s k p)) (f refl) ∙ where_none (holds (worth σ g)))

-- below 0, or at least n
outside_is : (σ : Assignment) (t : Tree) (n : ℕ) (z : ℤ) → worth σ t ≡ z → holds (worth σ (is_outside t (pos 0) (pos n))) ≡ not (is_index_below n z)
outside_is σ t n z e =
    holds_of_bool _ ∙ ap₂ (λ a b. a || b) (holds_of_bool (int_lt (worth σ t) (pos 0))) (holds_of_bool (int_le (pos n) (worth σ t)))
    ∙ ap (λ z. int_lt z (pos 0) || int_le (pos n) z) e ∙ at z
  where
    at : (z : ℤ) → (int_lt z (pos 0) || int_le (pos n) z) ≡ not (is_index_below n z)
    at (pos m) = grind (arith, ints, nat_tests)
    at (negsuc m) = grind (arith, ints, nat_tests)

not_is : (b : Bool) → not b ≡ false → b ≡ true
not_is true e = refl
not_is false e = absurd (cc)

-- what lies inside names an element
inside_names : (i : Interval) (n : ℕ) (z : ℤ) → 1 ≤ n → is_inside i (span (pos 0) (pos (n - 1))) ≡ true → Lies i z → is_index_below n z ≡ true
inside_names i n z h e l =
    let f = and_parts (int_le (pos 0) i.low) (int_le i.high (pos (n - 1))) e in
    let low : pos 0 ≤ℤ i.low = grind (arith, ints, f.0) in
    let high : i.high ≤ℤ pos (n - 1) = grind (arith, ints, f.1) in
    at z (omega (arith, ints, l.above)) (omega (arith, ints, l.below))
  where
    at : (z : ℤ) → pos 0 ≤ℤ z → z ≤ℤ pos (n - 1) → is_index_below n z ≡ true
    at (pos m) p q = let s : m < n = omega (arith, ints, q, h) in grind (arith, nat_tests, s)
    at (negsuc m) p q = absurd (omega (arith, ints, p))

-- what lies inside an interval lies in the one around it
pub inside_is_in : (i j : Interval) (z : ℤ) → not (is_inside i j) ≡ false → Lies i z → is_in j z ≡ true
inside_is_in i j z e l =
    let f = and_parts (int_le j.low i.low) (int_le i.high j.high) (not_is _ e) in
    let low : j.low ≤ℤ i.low = grind (arith, ints, f.0) in
    let high : i.high ≤ℤ j.high = grind (arith, ints, f.1) in
    let above : j.low ≤ℤ z = omega (arith, ints, l.above) in
    let below : z ≤ℤ j.high = omega (arith, ints, l.below) in
    grind (arith, ints, above, below)

zero_is : (z : ℤ) → same_value z (pos 0) ≡ is_zero z
zero_is (pos zero) = refl
zero_is (pos (suc n)) = grind (arith, nat_tests)
zero_is (negsuc n) = refl

-- an interval without 0 holds no 0
no_zero : (i : Interval) (z : ℤ) → Lies i z → is_in i (pos 0) ≡ false → is_zero z ≡ false
no_zero i (pos zero) l e = absurd (grind (arith, ints, e, l.above, l.below))
no_zero i (pos (suc n)) l e = refl
no_zero i (negsuc n) l e = refl

-- ---- expressions

module _ (vs : Vars) (σ : Assignment) (κ : Copies) (s : AreSoundVars vs) (c : IsCurrent vs σ κ) where
  abbrev val : Expr ℕ → ℤ
  val e = expr_value.value vs (env_of σ κ) e

  inside : (e : Expr ℕ) (k : Kind) → Typed vs e k → Lies (interval vs e) (val e)
  inside e k d = (sound vs (env_of σ κ) s.types c.fits e k d).inside

  pub index_raises : (x : ℕ) (i : Expr ℕ) (k : Kind) (p : Place) (g : Tree) → Typed vs i k → raised_by σ (index_tests vs κ g x i p) ≡ where_true (holds (worth σ g)) (index_faults vs x (val i) p)
  index_raises x i k p g d =
      guarded_test σ (may_be_outside vs x i) g (is_outside (tree_of vs κ i) (pos 0) (pos (count_of vs x))) (not (is_index_below (count_of vs x) (val i))) Index p
      (λ _. outside_is σ (tree_of vs κ i) (count_of vs x) (val i) (tree_valued vs σ κ s c i k d))
      (λ e. ap not (inside_names (interval vs i) (count_of vs x) (val i) (some_element vs x s.types) (not_is _ e) (inside i k d)))

  divisor_raises : (op : Binary) (b : Expr ℕ) (k : Kind) (p : Place) (g : Tree) → Typed vs b k → raised_by σ (divisor_tests vs κ g op b p) ≡ where_true (holds (worth σ g)) (divisor_faults op (val b) p)
  divisor_raises op b k p g d =
      guarded_test σ (divides op && is_in (interval vs b) (pos 0)) g (two tree_two.Eq (tree_of vs κ b) (literal (pos 0))) (divides op && is_zero (val b)) Divisor p
      (λ e. holds_of_bool (same_value (worth σ (tree_of vs κ b)) (pos 0)) ∙ ap (λ z. same_value z (pos 0)) (tree_valued vs σ κ s c b k d) ∙ zero_is (val b)
      ∙ sym (ap (λ a. a && is_zero (val b)) (and_parts (divides op) (is_in (interval vs b) (pos 0)) e).0))
      (λ e. spared (divides op) (is_in (interval vs b) (pos 0)) (is_zero (val b)) e (no_zero (interval vs b) (val b) (inside b k d)))
    where
      spared : (a b z : Bool) → (a && b) ≡ false → (b ≡ false → z ≡ false) → (a && z) ≡ false
      spared false b z e f = refl
      spared true b z e f = f e

  -- tests behind tests
  more_raised : (b : Bool) (ts us : List Test) (fs hs : List Fault) → raised_by σ ts ≡ where_true b fs → raised_by σ us ≡ where_true b hs → raised_by σ (ts ++ us) ≡ where_true b (fs ++ hs)
  more_raised b ts us fs hs e f = raised_by_both σ ts us ∙ ap₂ (λ k l. k ++ l) e f ∙ where_both b fs hs

  two_raise : (op : Binary) (a b : Expr ℕ) (p : Place) (k : Kind) (g : Tree) → Typed vs b k → raised_by σ (tests_of vs κ g a) ≡ where_true (holds (worth σ g)) (faults vs (env_of σ κ) a)
      → raised_by σ (tests_of vs κ g b) ≡ where_true (holds (worth σ g)) (faults vs (env_of σ κ) b)
      → raised_by σ (tests_of vs κ g a ++ (tests_of vs κ g b ++ divisor_tests vs κ g op b p)) ≡ where_true (holds (worth σ g)) (faults vs (env_of σ κ) a ++ (faults vs (env_of σ κ) b ++ divisor_faults op (val b) p))
  two_raise op a b p k g d e f =
      more_raised (holds (worth σ g)) (tests_of vs κ g a) _ (faults vs (env_of σ κ) a) _ e
      (more_raised (holds (worth σ g)) (tests_of vs κ g b) (divisor_tests vs κ g op b p) (faults vs (env_of σ κ) b) (divisor_faults op (val b) p) f (divisor_raises op b k p g d))

  none_raised : (b : Bool) → raised_by σ [] ≡ where_true b []
  unfolding raised_by
  none_raised b = sym (where_none b)

  pub tests_typed : (e : Expr ℕ) (k : Kind) → Typed vs e k → (g : Tree) → raised_by σ (tests_of vs κ g e) ≡ where_true (holds (worth σ g)) (faults vs (env_of σ κ) e)
  tests_typed _ _ (of_truth b p) g = none_raised (holds (worth σ g))
  tests_typed _ _ (of_number n p h) g = none_raised (holds (worth σ g))
  tests_typed _ _ (of_bits w n p low high h) g = none_raised (holds (worth σ g))
  tests_typed _ _ (of_named x p k h a e) g = none_raised (holds (worth σ g))
  tests_typed _ _ (of_element x i p k h a t e) g =
      more_raised (holds (worth σ g)) (tests_of vs κ g i) (index_tests vs κ g x i p) (faults vs (env_of σ κ) i) (index_faults vs x (val i) p) (tests_typed i numeric t g) (index_raises x i numeric p g t)
  tests_typed _ _ (of_not a p k t e) g = tests_typed a k t g
  tests_typed _ _ (of_neg a p t h) g = tests_typed a numeric t g
  tests_typed _ _ (of_logical op a b p e t u) g = two_raise op a b p boolean g u (tests_typed a boolean t g) (tests_typed b boolean u g)
  tests_typed _ _ (of_bitwise op a b p k e f t u) g = two_raise op a b p k g u (tests_typed a k t g) (tests_typed b k u g)
  tests_typed _ _ (of_equation op a b p k e t u) g = two_raise op a b p k g u (tests_typed a k t g) (tests_typed b k u g)
  tests_typed _ _ (of_order op a b p e t u) g = two_raise op a b p numeric g u (tests_typed a numeric t g) (tests_typed b numeric u g)
  tests_typed _ _ (of_cat a b p m n low high t u) g = two_raise Cat a b p (vector n) g u (tests_typed a (vector m) t g) (tests_typed b (vector n) u g)
  tests_typed _ _ (of_arithmetic op a b p e h t u) g = two_raise op a b p numeric g u (tests_typed a numeric t g) (tests_typed b numeric u g)
  tests_typed _ _ (of_choice d a b p k l t u) g =
      let z : Bool = is_zero (val d) in
      let v : worth σ (tree_of vs κ d) ≡ val d = tree_valued vs σ κ s c d boolean l in
      let first : Tree = two tree_two.And g (tree_of vs κ d) in
      let other : Tree = two tree_two.And g (one tree_one.Not (tree_of vs κ d)) in
      let x : holds (worth σ first) ≡ (holds (worth σ g) && not z) = holds_of_bool _ ∙ ap (λ y. holds (worth σ g) && holds y) v in
      let y : holds (worth σ other) ≡ (holds (worth σ g) && z) = holds_of_bool _ ∙ ap (λ b. holds (worth σ g) && b) (holds_of_bool _) ∙ ap (λ y. holds (worth σ g) && is_zero y) v in
      more_raised (holds (worth σ g)) (tests_of vs κ g d) (tests_of vs κ first a ++ tests_of vs κ other b) (faults vs (env_of σ κ) d) (if z then faults vs (env_of σ κ) b else faults vs (env_of σ κ) a)
      (tests_typed d boolean l g)
      (raised_by_both σ (tests_of vs κ first a) (tests_of vs κ other b)
      ∙ ap₂ (λ k l. k ++ l) (tests_typed a k t first ∙ ap (λ b. where_true b (faults vs (env_of σ κ) a)) x) (tests_typed b k u other ∙ ap (λ c. where_true c (faults vs (env_of σ κ) b)) y)
      ∙ where_chosen (holds (worth σ g)) z (faults vs (env_of σ κ) a) (faults vs (env_of σ κ) b))
  tests_typed _ _ (of_bit a high n p t h) g = tests_typed a (vector n) t g
  tests_typed _ _ (of_slice a high low n p t h j) g = tests_typed a (vector n) t g
  tests_typed _ _ (of_to_nat a n p t) g = tests_typed a (vector n) t g
  tests_typed _ _ (of_to_bv a n q p t low high h) g = tests_typed a numeric t g
  tests_typed _ _ (of_paren a p k t) g = tests_typed a k t g

-- where the guard holds, the tests of a typed expression raise its faults, and else none
pub tests_raise : (vs : Vars) (σ : Assignment) (κ : Copies) → AreSoundVars vs → IsCurrent vs σ κ → (e : Expr ℕ) → IsTyped vs e → (g : Tree)
    → raised_by σ (tests_of vs κ g e) ≡ (if holds (worth σ g) then faults vs (env_of σ κ) e else [])
tests_raise vs σ κ s c e h g = let d = typed_of vs e h.over h.written h.kinds h.bounds in tests_typed vs σ κ s c e d.0 d.2 g
