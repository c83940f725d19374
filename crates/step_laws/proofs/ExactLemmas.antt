-- The trees of typed expressions and of their tests are exact: each number that an operator makes in them is the one that
-- the expression has there, and that is small.
use Rattle.std.proofs.Common.{◌≡◌, ℕ, ◌-◌, ◌+◌, ◌/◌, ◌%◌, ◌^◌, ◌≤◌, ℤ, pos, negsuc, neg_ℤ, Bool, true, false, ◌||◌, ◌&&◌, List, [], ◌∷◌, ◌++◌, map, Option, Some, None, refl, sym, ap, ap₂, subst, arith}
use Rattle.std.specs.Prelude.{if◌then◌else◌}
use Rattle.std.specs.Int.{w64, cast_unsigned}
use Rattle.std.proofs.lemmas.Int.{ints}
use Rattle.std.proofs.Math.Nat.{one-le-pow, pow-le-pow_right}
use Rattle.quartz_tree.specs.declared.place.Place.{Place}
use Rattle.quartz_tree.specs.declared.fault.Kind.{Kind as FaultKind}
use Rattle.quartz_tree.specs.declared.fault.Kind.TheVariants.{Range, Index, Divisor}
use Rattle.quartz_tree.specs.declared.expr.Binary.{Binary}
use Rattle.quartz_tree.specs.declared.expr.Binary.TheVariants.{Iff, Implies, Or, Xor, And, Eq, Ne, Lt, Le, Gt, Ge, Cat, Add, Sub, Mul, Div, Rem}
use Rattle.quartz_tree.specs.Tree.{Tree as Expr}
use Rattle.quartz_expr.specs.Vars.{Vars, count_of}
use Rattle.quartz_expr.specs.Faults.{divides}
use Rattle.quartz_expr.specs.declared.kind.ExprKind.{ExprKind as Kind}
use Rattle.quartz_expr.specs.declared.kind.ExprKind.TheVariants.{Boolean as boolean, Numeric as numeric, Vector as vector}
use Rattle.quartz_expr.specs.Kinds.{is_numeric, kind}
use Rattle.quartz_expr.specs.Value as expr_value
use Rattle.quartz_expr.specs.Value.{bits_of, joined, width_in}
use Rattle.quartz_expr.specs.Intervals.{Lies, interval, is_in, range_of, span}
use Rattle.quartz_expr.specs.Typed.{AreSound as AreSoundVars, IsTyped}
use Rattle.quartz_expr.specs.Computable.{IsSmall}
use Rattle.quartz_expr.proofs.TypingLemmas.{is_arithmetic, is_bitwise, is_equation, is_logical, is_order, IsSoundKind, Typed, of_truth, of_number, of_bits, of_named, of_element, of_not, of_neg, of_logical, of_bitwise, of_equation, of_order, of_cat, of_arithmetic, of_choice, of_bit, of_slice, of_to_nat, of_to_bv, of_paren, typed_of}
use Rattle.quartz_expr.proofs.WithinLemmas.{Sound, kind_is, sound}
use Rattle.aif_cells.specs.declared.reference.Ref.{Ref}
use Rattle.aif_cells.specs.declared.reference.Ref.TheVariants as ref
use Rattle.aif_cells.specs.declared.tree.TreeOne.TheVariants as tree_one
use Rattle.aif_cells.specs.declared.tree.TreeTwo.TheVariants as tree_two
use Rattle.aif_cells.specs.Tree.{Tree, value, one, two, fit, trees}
use Rattle.aif_cells.specs.Worth.{Assignment, worth}
use Rattle.statement_cells.specs.Sound.{IsTypedIndex}
use Rattle.statement_cells.specs.Expressions.{Copies, Test, bitwise_of, complement_of, divisor_tests, element_tests, env_of, fitted_tree, index_tests, indexed, is_outside, may_be_outside, may_leave_range, range_tests, target_tests, test_if, tests_of, tree_of, two_of}
use Rattle.statement_cells.specs.Walk.{IsCurrent}
use Rattle.statement_cells.proofs.TreeValueLemmas.{tree_valued, wrapped_small}
use Rattle.step_laws.specs.Exact.{AreExact, IsExact, Stays}

mask_stays : (n : ℕ) → n ≤ 32 → Stays (pos (2 ^ n - 1))
mask_stays n h =
    let p : 2 ^ n ≤ 2 ^ 32 = pow-le-pow_right (omega arith) h in
    wrapped_small (pos (2 ^ n - 1)) (record { from = omega (arith, ints); upto = omega (arith, ints, p) })

slice_stays : (n high low : ℕ) (z : ℤ) → Lies (span (pos 0) (pos (2 ^ n - 1))) z → IsSmall (bits_of z high low) → Stays (pos (cast_unsigned w64 z / 2 ^ low % 2 ^ (high - low + 1)))
slice_stays n high low (pos m) h s = wrapped_small _ s
slice_stays n high low (negsuc m) h s = absurd (omega (arith, ints, h.above))

-- operators that compare and join
abbrev is_plain : Binary → Bool
is_plain op = is_logical op || (is_equation op || (is_order op || is_bitwise op))

logical_plain : (op : Binary) → is_logical op ≡ true → is_plain op ≡ true
logical_plain op e = ap (λ b. b || (is_equation op || (is_order op || is_bitwise op))) e

bitwise_plain : (op : Binary) → is_bitwise op ≡ true → is_plain op ≡ true
bitwise_plain Or e = refl
bitwise_plain Xor e = refl
bitwise_plain And e = refl
bitwise_plain _ e = absurd (cc)

equation_plain : (op : Binary) → is_equation op ≡ true → is_plain op ≡ true
equation_plain Eq e = refl
equation_plain Ne e = refl
equation_plain _ e = absurd (cc)

order_plain : (op : Binary) → is_order op ≡ true → is_plain op ≡ true
order_plain Lt e = refl
order_plain Le e = refl
order_plain Gt e = refl
order_plain Ge e = refl
order_plain _ e = absurd (cc)

module _ (σ : Assignment) where
  -- ---- operators

  values_exact : (rs : List Ref) → AreExact σ (trees (map value rs))
  values_exact [] = tt
  values_exact (r ∷ rs) = (tt, values_exact rs)

  indexed_exact : (rs : List Ref) (t : Tree) → IsExact σ t → IsExact σ (indexed rs t)
  indexed_exact rs (value (ref.Lit z)) h = tt
  indexed_exact rs t h = (h, values_exact rs)

  not_exact : (k : Kind) (t : Tree) → is_numeric k ≡ false → IsSoundKind k → IsExact σ t → IsExact σ (complement_of (Some k) t)
  not_exact boolean t e s h = (h, tt)
  not_exact numeric t e s h = absurd (cc)
  not_exact (vector n) t e s h = (h, mask_stays n s.1)

  or_exact : (o : Option Kind) (a b : Tree) → IsExact σ a → IsExact σ b → IsExact σ (bitwise_of o tree_two.Or tree_two.Bor a b)
  or_exact (Some (vector n)) a b p q = (p, q, tt)
  or_exact o a b p q = (p, q, tt)

  xor_exact : (o : Option Kind) (a b : Tree) → IsExact σ a → IsExact σ b → IsExact σ (bitwise_of o tree_two.Xor tree_two.Bxor a b)
  xor_exact (Some (vector n)) a b p q = (p, q, tt)
  xor_exact o a b p q = (p, q, tt)

  and_exact : (o : Option Kind) (a b : Tree) → IsExact σ a → IsExact σ b → IsExact σ (bitwise_of o tree_two.And tree_two.Band a b)
  and_exact (Some (vector n)) a b p q = (p, q, tt)
  and_exact o a b p q = (p, q, tt)

  plain_exact : (op : Binary) → is_plain op ≡ true → (o : Option Kind) (a b : Tree) → IsExact σ a → IsExact σ b → IsExact σ (two_of op o a b)
  plain_exact Iff e o a b p q = (p, q, tt)
  plain_exact Implies e o a b p q = ((p, tt), q, tt)
  plain_exact Or e o a b p q = or_exact o a b p q
  plain_exact Xor e o a b p q = xor_exact o a b p q
  plain_exact And e o a b p q = and_exact o a b p q
  plain_exact Eq e o a b p q = (p, q, tt)
  plain_exact Ne e o a b p q = (p, q, tt)
  plain_exact Lt e o a b p q = (p, q, tt)
  plain_exact Le e o a b p q = (p, q, tt)
  plain_exact Gt e o a b p q = (p, q, tt)
  plain_exact Ge e o a b p q = (p, q, tt)
  plain_exact _ e o a b p q = absurd (cc)

  arithmetic_exact : (op : Binary) → is_arithmetic op ≡ true → (o : Option Kind) (n : ℕ) (a b : Tree) → IsExact σ a → IsExact σ b → IsSmall (expr_value.apply_two op n (worth σ a) (worth σ b)) → IsExact σ (two_of op o a b)
  arithmetic_exact Add e o n a b p q h = (p, q, wrapped_small _ h)
  arithmetic_exact Sub e o n a b p q h = (p, q, wrapped_small _ h)
  arithmetic_exact Mul e o n a b p q h = (p, q, wrapped_small _ h)
  arithmetic_exact Div e o n a b p q h = (p, q, wrapped_small _ h)
  arithmetic_exact Rem e o n a b p q h = (p, q, tt)
  arithmetic_exact _ e o n a b p q h = absurd (cc)

  cat_exact : (o : Option Kind) (a b : Tree) → IsExact σ a → IsExact σ b → IsSmall (joined (width_in o) (worth σ a) (worth σ b)) → IsExact σ (two_of Cat o a b)
  cat_exact o a b p q h = (p, q, wrapped_small _ h)

  -- ---- tests

  abbrev pub TestsExact : List Test → Type 0
  TestsExact [] = Unit {0}
  TestsExact (t ∷ ts) = IsExact σ t.tree × TestsExact ts

  pub both_tests : (ts us : List Test) → TestsExact ts → TestsExact us → TestsExact (ts ++ us)
  both_tests [] us h g = g
  both_tests (t ∷ ts) us h g = (h.0, both_tests ts us h.1 g)

  one_test : (b : Bool) (t : Tree) (k : FaultKind) (p : Place) → IsExact σ t → TestsExact (test_if b t k p)
  one_test true t k p h = (h, tt)
  one_test false t k p h = tt

  module _ (vs : Vars) (κ : Copies) (types : AreSoundVars vs) (c : IsCurrent vs σ κ) where
    abbrev val : Expr ℕ → ℤ
    val e = expr_value.value vs (env_of σ κ) e

    well : (e : Expr ℕ) (k : Kind) → Typed vs e k → Sound k (interval vs e) (val e)
    well e k d = sound vs (env_of σ κ) types.types c.fits e k d

    -- the tree has the expression's value
    same : (e : Expr ℕ) (k : Kind) → Typed vs e k → worth σ (tree_of vs κ e) ≡ val e
    same e k d = tree_valued vs σ κ types c e k d

    -- what an operator makes of the values of trees is small where the expression's value is
    small_two : (op : Binary) (n : ℕ) (a b : Expr ℕ) (k l : Kind) → Typed vs a k → Typed vs b l → IsSmall (expr_value.apply_two op n (val a) (val b)) → IsSmall (expr_value.apply_two op n (worth σ (tree_of vs κ a)) (worth σ (tree_of vs κ b)))
    small_two op n a b k l t u h = subst IsSmall (ap₂ (expr_value.apply_two op n) (sym (same a k t)) (sym (same b l u))) h

    bits_exact : (a : Expr ℕ) (n high low : ℕ) → Typed vs a (vector n) → IsSmall (bits_of (val a) high low) → Stays (pos (cast_unsigned w64 (worth σ (tree_of vs κ a)) / 2 ^ low % 2 ^ (high - low + 1)))
    bits_exact a n high low t h =
        subst (λ z. Stays (pos (cast_unsigned w64 z / 2 ^ low % 2 ^ (high - low + 1)))) (sym (same a (vector n) t)) (slice_stays n high low (val a) ((well a (vector n) t).as_bits refl) h)

    pub exact : (e : Expr ℕ) (k : Kind) → Typed vs e k → IsExact σ (tree_of vs κ e)
    exact _ _ (of_truth b p) = tt
    exact _ _ (of_number n p h) = tt
    exact _ _ (of_bits w n p low high h) = tt
    exact _ _ (of_named x p k h a e) = tt
    exact _ _ (of_element x i p k h a t e) = indexed_exact _ (tree_of vs κ i) (exact i numeric t)
    exact _ _ (of_not a p k t e) = subst (λ o. IsExact σ (complement_of o (tree_of vs κ a))) (sym (kind_is vs a k t)) (not_exact k (tree_of vs κ a) e (well a k t).kind_sound (exact a k t))
    exact _ _ (of_neg a p t h) = (exact a numeric t, subst (λ z. Stays (neg_ℤ z)) (sym (same a numeric t)) (wrapped_small (neg_ℤ (val a)) (well _ _ (of_neg a p t h)).small))
    exact _ _ (of_logical op a b p e t u) = plain_exact op (logical_plain op e) (kind vs b) _ _ (exact a boolean t) (exact b boolean u)
    exact _ _ (of_bitwise op a b p k e f t u) = plain_exact op (bitwise_plain op e) (kind vs b) _ _ (exact a k t) (exact b k u)
    exact _ _ (of_equation op a b p k e t u) = plain_exact op (equation_plain op e) (kind vs b) _ _ (exact a k t) (exact b k u)
    exact _ _ (of_order op a b p e t u) = plain_exact op (order_plain op e) (kind vs b) _ _ (exact a numeric t) (exact b numeric u)
    exact _ _ (of_cat a b p m n low high t u) =
        cat_exact (kind vs b) (tree_of vs κ a) (tree_of vs κ b) (exact a (vector m) t) (exact b (vector n) u) (small_two Cat (width_in (kind vs b)) a b (vector m) (vector n) t u (well _ _ (of_cat a b p m n low high t u)).small)
    exact _ _ (of_arithmetic op a b p e h t u) =
        arithmetic_exact op e (kind vs b) (width_in (kind vs b)) _ _ (exact a numeric t) (exact b numeric u) (small_two op (width_in (kind vs b)) a b numeric numeric t u (well _ _ (of_arithmetic op a b p e h t u)).small)
    exact _ _ (of_choice d a b p k l t u) = (exact d boolean l, exact a k t, exact b k u)
    exact _ _ (of_bit a high n p t h) = (exact a (vector n) t, bits_exact a n high high t (well _ _ (of_bit a high n p t h)).small)
    exact _ _ (of_slice a high low n p t h j) = (exact a (vector n) t, bits_exact a n high low t (well _ _ (of_slice a high low n p t h j)).small)
    exact _ _ (of_to_nat a n p t) = exact a (vector n) t
    exact _ _ (of_to_bv a n q p t low high h) = exact a numeric t
    exact _ _ (of_paren a p k t) = exact a k t

    -- an expression that is typed
    pub typed_exact : (e : Expr ℕ) → IsTyped vs e → IsExact σ (tree_of vs κ e)
    typed_exact e h = let d = typed_of vs e h.over h.written h.kinds h.bounds in exact e d.0 d.2

    pub fitted_exact : (x : ℕ) (e : Expr ℕ) → IsTyped vs e → IsExact σ (fitted_tree vs κ x e)
    fitted_exact x e h = at (may_leave_range vs x e) (typed_exact e h)
      where
        at : (b : Bool) → IsExact σ (tree_of vs κ e) → IsExact σ (if b then fit (tree_of vs κ e) (range_of vs x).low (range_of vs x).high else tree_of vs κ e)
        at true g = g
        at false g = g

    -- ---- the tests of an expression

    index_exact : (g : Tree) (x : ℕ) (i : Expr ℕ) (p : Place) → IsExact σ g → IsExact σ (tree_of vs κ i) → TestsExact (index_tests vs κ g x i p)
    index_exact g x i p h t = one_test (may_be_outside vs x i) (two tree_two.And g (is_outside (tree_of vs κ i) (pos 0) (pos (count_of vs x)))) Index p (h, ((t, tt, tt), (t, tt, tt), tt), tt)

    divisor_exact : (g : Tree) (op : Binary) (b : Expr ℕ) (p : Place) → IsExact σ g → IsExact σ (tree_of vs κ b) → TestsExact (divisor_tests vs κ g op b p)
    divisor_exact g op b p h t = one_test (divides op && is_in (interval vs b) (pos 0)) (two tree_two.And g (two tree_two.Eq (tree_of vs κ b) (value (ref.Lit (pos 0))))) Divisor p (h, (t, tt, tt), tt)

    two_tests : (g : Tree) (op : Binary) (a b : Expr ℕ) (p : Place) → IsExact σ g → IsExact σ (tree_of vs κ b) → TestsExact (tests_of vs κ g a) → TestsExact (tests_of vs κ g b)
        → TestsExact (tests_of vs κ g a ++ (tests_of vs κ g b ++ divisor_tests vs κ g op b p))
    two_tests g op a b p h t l r = both_tests (tests_of vs κ g a) (tests_of vs κ g b ++ divisor_tests vs κ g op b p) l (both_tests (tests_of vs κ g b) (divisor_tests vs κ g op b p) r (divisor_exact g op b p h t))

    tests : (e : Expr ℕ) (k : Kind) → Typed vs e k → (g : Tree) → IsExact σ g → TestsExact (tests_of vs κ g e)
    tests _ _ (of_truth b p) g h = tt
    tests _ _ (of_number n p l) g h = tt
    tests _ _ (of_bits w n p low high l) g h = tt
    tests _ _ (of_named x p k l a e) g h = tt
    tests _ _ (of_element x i p k l a t e) g h = both_tests (tests_of vs κ g i) (index_tests vs κ g x i p) (tests i numeric t g h) (index_exact g x i p h (exact i numeric t))
    tests _ _ (of_not a p k t e) g h = tests a k t g h
    tests _ _ (of_neg a p t l) g h = tests a numeric t g h
    tests _ _ (of_logical op a b p e t u) g h = two_tests g op a b p h (exact b boolean u) (tests a boolean t g h) (tests b boolean u g h)
    tests _ _ (of_bitwise op a b p k e f t u) g h = two_tests g op a b p h (exact b k u) (tests a k t g h) (tests b k u g h)
    tests _ _ (of_equation op a b p k e t u) g h = two_tests g op a b p h (exact b k u) (tests a k t g h) (tests b k u g h)
    tests _ _ (of_order op a b p e t u) g h = two_tests g op a b p h (exact b numeric u) (tests a numeric t g h) (tests b numeric u g h)
    tests _ _ (of_cat a b p m n low high t u) g h = two_tests g Cat a b p h (exact b (vector n) u) (tests a (vector m) t g h) (tests b (vector n) u g h)
    tests _ _ (of_arithmetic op a b p e l t u) g h = two_tests g op a b p h (exact b numeric u) (tests a numeric t g h) (tests b numeric u g h)
    tests _ _ (of_choice d a b p k l t u) g h =
        let r : Tree = tree_of vs κ d in
        let i = exact d boolean l in
        let yes = tests a k t (two tree_two.And g r) (h, i, tt) in
        let no = tests b k u (two tree_two.And g (one tree_one.Not r)) (h, (i, tt), tt) in
        both_tests (tests_of vs κ g d) (tests_of vs κ (two tree_two.And g r) a ++ tests_of vs κ (two tree_two.And g (one tree_one.Not r)) b) (tests d boolean l g h)
        (both_tests (tests_of vs κ (two tree_two.And g r) a) (tests_of vs κ (two tree_two.And g (one tree_one.Not r)) b) yes no)
    tests _ _ (of_bit a high n p t l) g h = tests a (vector n) t g h
    tests _ _ (of_slice a high low n p t l j) g h = tests a (vector n) t g h
    tests _ _ (of_to_nat a n p t) g h = tests a (vector n) t g h
    tests _ _ (of_to_bv a n q p t low high l) g h = tests a numeric t g h
    tests _ _ (of_paren a p k t) g h = tests a k t g h

    pub typed_tests : (g : Tree) (e : Expr ℕ) → IsExact σ g → IsTyped vs e → TestsExact (tests_of vs κ g e)
    typed_tests g e i h = let d = typed_of vs e h.over h.written h.kinds h.bounds in tests e d.0 d.2 g i

    -- ---- the tests of a write

    pub target_exact : (g : Tree) (x : ℕ) (i : Option (Expr ℕ)) → IsExact σ g → IsTypedIndex vs x i → TestsExact (target_tests vs κ g i)
    target_exact g x None h t = tt
    target_exact g x (Some i) h t = typed_tests g i h t

    pub element_exact : (g : Tree) (x : ℕ) (i : Option (Expr ℕ)) (p : Place) → IsExact σ g → IsTypedIndex vs x i → TestsExact (element_tests vs κ g x i p)
    element_exact g x None p h t = tt
    element_exact g x (Some i) p h t = index_exact g x i p h (typed_exact i t)

    pub range_exact : (g : Tree) (x : ℕ) (e : Expr ℕ) (p : Place) → IsExact σ g → IsTyped vs e → TestsExact (range_tests vs κ g x e p)
    range_exact g x e p h t =
        let l = typed_exact e t in
        one_test (may_leave_range vs x e) (two tree_two.And g (two tree_two.Or (two tree_two.Lt (tree_of vs κ e) (value (ref.Lit (range_of vs x).low))) (two tree_two.Gt (tree_of vs κ e) (value (ref.Lit (range_of vs x).high))))) Range p
        (h, ((l, tt, tt), (l, tt, tt), tt), tt)
