-- The tree of a typed expression has the expression's value.
use Rattle.std.proofs.Common.{◌≡◌, ℕ, zero, suc, ◌-◌, ◌^◌, ◌<◌, ◌≤◌, ℤ, pos, negsuc, ◌-ℤ◌, neg_ℤ, Bool, true, false, not, ◌&&◌, ◌||◌, List, [], ◌∷◌, map, Option, Some, refl, sym, ap, ap₂, ◌∙◌, subst, arith}
use Rattle.std.specs.Prelude.{if◌then◌else◌}
use Rattle.std.specs.Int.{w64, int_bit_and, int_bit_or, int_bit_xor}
use Rattle.std.specs.Int.RustNames.{unsigned_abs, bit_and, bit_or, bit_xor}
use Rattle.std.specs.Int.Bits.{xor_add_and}
use Rattle.std.proofs.lemmas.Int.{ints, int_wrap_fits, fits_signed_from_abs, to_z_pos}
use Rattle.std.proofs.lemmas.Nat.{and_le_l, or_lt, xor_lt, and_mask}
use Rattle.std.proofs.Math.Nat.{mod-eq_of_lt, one-le-pow, pow-le-pow_right}
use Rattle.quartz_tree.specs.declared.expr.Binary.{Binary}
use Rattle.quartz_tree.specs.declared.expr.Binary.TheVariants.{Iff, Implies, Or, Xor, And, Eq, Ne, Lt, Le, Gt, Ge, Cat, Add, Sub, Mul, Div, Rem}
use Rattle.quartz_tree.specs.Tree.{Tree as Expr}
use Rattle.quartz_expr.specs.Values.{elements_in, element_at, of_bool, is_zero}
use Rattle.quartz_expr.specs.Vars.{Vars}
use Rattle.quartz_expr.specs.declared.kind.ExprKind.{ExprKind as Kind}
use Rattle.quartz_expr.specs.declared.kind.ExprKind.TheVariants.{Boolean as boolean, Numeric as numeric, Vector as vector}
use Rattle.quartz_expr.specs.Kinds.{is_numeric, kind}
use Rattle.quartz_expr.specs.Value as expr_value
use Rattle.quartz_expr.specs.Value.{complement, by_bits, joined, bits_of, width_in}
use Rattle.quartz_expr.specs.Intervals.{span, Lies, kind_interval, interval}
use Rattle.quartz_expr.specs.Typed.{AreSound as AreSoundVars, IsTyped}
use Rattle.quartz_expr.specs.Computable.{IsSmall}
use Rattle.quartz_expr.proofs.TypingLemmas.{is_logical, is_bitwise, is_equation, is_order, is_arithmetic, IsSoundKind, Typed, of_truth, of_number, of_bits, of_named, of_element, of_not, of_neg, of_logical, of_bitwise, of_equation, of_order, of_cat, of_arithmetic, of_choice, of_bit, of_slice, of_to_nat, of_to_bv, of_paren, typed_of}
use Rattle.quartz_expr.proofs.WithinLemmas.{kind_is, Sound, sound}
use Rattle.aif_cells.specs.declared.reference.Ref.{Ref}
use Rattle.aif_cells.specs.declared.reference.Ref.TheVariants as ref
use Rattle.aif_cells.specs.Tree.{Tree, value, trees}
use Rattle.aif_cells.specs.Worth as cell_value
use Rattle.aif_cells.specs.declared.tree.TreeTwo.TheVariants as two_op
use Rattle.quartz_expr.specs.Resolve.{same_bool}
use Rattle.aif_cells.specs.Worth.{Assignment, read, holds, worth, worths, wrapped, flipped, bits_between}
use Rattle.aif_cells.proofs.WorthLemmas.{holds_of_bool}
use Rattle.statement_cells.specs.Expressions.{Copies, refs_of, env_of, element_ref, indexed, complement_of, two_of, tree_of}
use Rattle.statement_cells.specs.Walk.{IsCurrent}

-- ---- numbers

-- a small number wraps to itself
pub wrapped_small : (z : ℤ) → IsSmall z → wrapped z ≡ z
wrapped_small z h = let small : unsigned_abs z < 2 ^ 63 = omega (arith, ints, h.from, h.upto) in int_wrap_fits w64 z (fits_signed_from_abs w64 z small)

power_small : (n : ℕ) → n ≤ 32 → 2 ^ n ≤ 2 ^ 32
power_small n h = pow-le-pow_right (omega arith) h

-- a truth value is 0 or 1
truth_is : (z : ℤ) → Lies (span (pos 0) (pos 1)) z → z ≡ of_bool (holds z)
truth_is (pos zero) h = refl
truth_is (pos (suc zero)) h = refl
truth_is (pos (suc (suc n))) h = absurd (omega (arith, ints, h.below))
truth_is (negsuc n) h = absurd (omega (arith, ints, h.above))

-- ---- bits

-- the bits of small natural numbers
and_is : (m n : ℕ) → m < 2 ^ 63 → int_bit_and w64 (pos m) (pos n) ≡ pos (bit_and m n)
and_is m n h = to_z_pos w64 (bit_and m n) (omega (arith, and_le_l m n, h))

or_is : (m n : ℕ) → m < 2 ^ 63 → n < 2 ^ 63 → int_bit_or w64 (pos m) (pos n) ≡ pos (bit_or m n)
or_is m n h j = to_z_pos w64 (bit_or m n) (or_lt 63 m n h j)

xor_is : (m n : ℕ) → m < 2 ^ 63 → n < 2 ^ 63 → int_bit_xor w64 (pos m) (pos n) ≡ pos (bit_xor m n)
xor_is m n h j = to_z_pos w64 (bit_xor m n) (xor_lt 63 m n h j)

flip_is : (n m : ℕ) → n ≤ 32 → m < 2 ^ n → flipped n (pos m) ≡ pos (2 ^ n - 1) -ℤ pos m
flip_is n m h j =
    let p = power_small n h in
    let q : 1 ≤ 2 ^ n = one-le-pow n 2 (omega arith) in
    let w : wrapped (pos (2 ^ n - 1)) ≡ pos (2 ^ n - 1) = wrapped_small (pos (2 ^ n - 1)) (record { from = omega (arith, ints); upto = omega (arith, ints, p) }) in
    let e : bit_and m (2 ^ n - 1) ≡ m = and_mask m n ∙ mod-eq_of_lt j in
    let s : bit_xor m (2 ^ n - 1) ≡ 2 ^ n - 1 - m = omega (arith, xor_add_and m (2 ^ n - 1), e) in
    let t : pos (2 ^ n - 1 - m) ≡ pos (2 ^ n - 1) -ℤ pos m = omega (arith, ints, j, q) in
    ap (int_bit_xor w64 (pos m)) w ∙ xor_is m (2 ^ n - 1) (omega (arith, j, p)) (omega (arith, p)) ∙ ap pos s ∙ t

-- ---- elements

-- the values of a variable's current copy
pub elements_are : (σ : Assignment) (κ : Copies) (x : ℕ) → elements_in (env_of σ κ) x ≡ map (read σ) (refs_of κ x)
elements_are σ [] x = refl
elements_are σ (c ∷ κ) zero = refl
elements_are σ (c ∷ κ) (suc x) = elements_are σ κ x

element_read : (σ : Assignment) (rs : List Ref) (z : ℤ) → read σ (element_ref rs z) ≡ element_at (map (read σ) rs) z
element_read σ rs (negsuc n) = refl
element_read σ [] (pos n) = refl
element_read σ (r ∷ rs) (pos zero) = refl
element_read σ (r ∷ rs) (pos (suc n)) = element_read σ rs (pos n)

worths_are : (σ : Assignment) (rs : List Ref) → worths σ (trees (map value rs)) ≡ map (read σ) rs
worths_are σ [] = refl
worths_are σ (r ∷ rs) = ap (λ l. read σ r ∷ l) (worths_are σ rs)

indexed_is : (σ : Assignment) (rs : List Ref) (t : Tree) → worth σ (indexed rs t) ≡ element_at (map (read σ) rs) (worth σ t)
indexed_is σ rs (value (ref.Lit z)) = element_read σ rs z
indexed_is σ rs t = ap (λ l. element_at l (worth σ t)) (worths_are σ rs)

-- ---- operators

-- a number of so many bits
natural : (n : ℕ) (z : ℤ) → Lies (span (pos 0) (pos (2 ^ n - 1))) z → (m : ℕ) × (z ≡ pos m) × (m < 2 ^ n)
natural n (pos m) h = let p = one-le-pow n 2 (omega arith) in (m, refl, omega (arith, ints, h.below, p))
natural n (negsuc m) h = absurd (omega (arith, ints, h.above))

module _ (σ : Assignment) where
  not_bits : (n : ℕ) (z : ℤ) → n ≤ 32 → Lies (span (pos 0) (pos (2 ^ n - 1))) z → flipped n z ≡ pos (2 ^ n - 1) -ℤ z
  not_bits n z h l =
      let m = natural n z l in
      ap (flipped n) (m.1) ∙ flip_is n m.0 h m.2 ∙ ap (λ x. pos (2 ^ n - 1) -ℤ x) (sym m.1)

  not_kind : (k : Kind) (t : Tree) → is_numeric k ≡ false → IsSoundKind k → Lies (kind_interval (Some k)) (worth σ t) → worth σ (complement_of (Some k) t) ≡ complement (Some k) (worth σ t)
  not_kind boolean t e s l = refl
  not_kind numeric t e s l = absurd (cc)
  not_kind (vector n) t e s l = not_bits n (worth σ t) s.1 l

  not_is : (o : Option Kind) (k : Kind) (t : Tree) (z : ℤ) → o ≡ Some k → is_numeric k ≡ false → IsSoundKind k → Lies (kind_interval (Some k)) z → worth σ t ≡ z → worth σ (complement_of o t) ≡ complement o z
  not_is o k t z f e s l w =
      subst (λ o. worth σ (complement_of o t) ≡ complement o z) (sym f)
      (not_kind k t e s (subst (Lies (kind_interval (Some k))) (sym w) l) ∙ ap (complement (Some k)) w)

  -- operators that give what their trees give, whatever their parts are
  abbrev is_direct : Binary → Bool
  is_direct op = is_logical op || (is_equation op || is_order op)

  direct_is : (op : Binary) → is_direct op ≡ true → (o : Option Kind) (n : ℕ) (a b : Tree) → worth σ (two_of op o a b) ≡ expr_value.apply_two op n (worth σ a) (worth σ b)
  direct_is Iff e o n a b = refl
  direct_is Implies e o n a b = ap (λ s. of_bool (s || holds (worth σ b))) (holds_of_bool (is_zero (worth σ a)))
  direct_is Eq e o n a b = refl
  direct_is Ne e o n a b = refl
  direct_is Lt e o n a b = refl
  direct_is Le e o n a b = refl
  direct_is Gt e o n a b = refl
  direct_is Ge e o n a b = refl
  direct_is _ e o n a b = absurd (cc)

  -- arithmetic within the machine's numbers
  arithmetic_is : (op : Binary) → is_arithmetic op ≡ true → (o : Option Kind) (n : ℕ) (a b : Tree) → IsSmall (expr_value.apply_two op n (worth σ a) (worth σ b)) → worth σ (two_of op o a b) ≡ expr_value.apply_two op n (worth σ a) (worth σ b)
  arithmetic_is Add e o n a b h = wrapped_small _ h
  arithmetic_is Sub e o n a b h = wrapped_small _ h
  arithmetic_is Mul e o n a b h = wrapped_small _ h
  arithmetic_is Div e o n a b h = wrapped_small _ h
  arithmetic_is Rem e o n a b h = refl
  arithmetic_is _ e o n a b h = absurd (cc)

  -- truth values bit by bit
  or_truth : (s t : Bool) → of_bool (holds (of_bool s) || holds (of_bool t)) ≡ by_bits bit_or (of_bool s) (of_bool t)
  or_truth true true = refl
  or_truth true false = refl
  or_truth false true = refl
  or_truth false false = refl

  and_truth : (s t : Bool) → of_bool (holds (of_bool s) && holds (of_bool t)) ≡ by_bits bit_and (of_bool s) (of_bool t)
  and_truth true true = refl
  and_truth true false = refl
  and_truth false true = refl
  and_truth false false = refl

  xor_truth : (s t : Bool) → of_bool (not (same_bool (holds (of_bool s)) (holds (of_bool t)))) ≡ by_bits bit_xor (of_bool s) (of_bool t)
  xor_truth true true = refl
  xor_truth true false = refl
  xor_truth false true = refl
  xor_truth false false = refl

  -- what is the same of two truth values is the same of numbers that are 0 or 1
  for_truths : (f g : ℤ → ℤ → ℤ) → ((s t : Bool) → f (of_bool s) (of_bool t) ≡ g (of_bool s) (of_bool t)) → (x y : ℤ) → Lies (span (pos 0) (pos 1)) x → Lies (span (pos 0) (pos 1)) y → f x y ≡ g x y
  for_truths f g h x y p q =
      subst (λ x. f x y ≡ g x y) (sym (truth_is x p)) (subst (λ y. f (of_bool (holds x)) y ≡ g (of_bool (holds x)) y) (sym (truth_is y q)) (h (holds x) (holds y)))

  -- and what is the same of natural numbers below a power of two
  for_naturals : (n : ℕ) (f g : ℤ → ℤ → ℤ) → ((l m : ℕ) → l < 2 ^ n → m < 2 ^ n → f (pos l) (pos m) ≡ g (pos l) (pos m)) → (x y : ℤ) → Lies (span (pos 0) (pos (2 ^ n - 1))) x → Lies (span (pos 0) (pos (2 ^ n - 1))) y → f x y ≡ g x y
  for_naturals n f g h x y p q =
      let l = natural n x p in
      let m = natural n y q in
      ap₂ f l.1 m.1 ∙ h l.0 m.0 l.2 m.2 ∙ ap₂ g (sym l.1) (sym m.1)

  below : (n m : ℕ) → n ≤ 32 → m < 2 ^ n → m < 2 ^ 63
  below n m h j = omega (arith, power_small n h, j)

  bitwise_kind : (op : Binary) (k : Kind) → is_bitwise op ≡ true → is_numeric k ≡ false → IsSoundKind k → (n : ℕ) (a b : Tree) → Lies (kind_interval (Some k)) (worth σ a) → Lies (kind_interval (Some k)) (worth σ b)
      → worth σ (two_of op (Some k) a b) ≡ expr_value.apply_two op n (worth σ a) (worth σ b)
  bitwise_kind Or boolean e f s n a b p q = for_truths (cell_value.apply_two two_op.Or) (by_bits bit_or) or_truth (worth σ a) (worth σ b) p q
  bitwise_kind Xor boolean e f s n a b p q = for_truths (cell_value.apply_two two_op.Xor) (by_bits bit_xor) xor_truth (worth σ a) (worth σ b) p q
  bitwise_kind And boolean e f s n a b p q = for_truths (cell_value.apply_two two_op.And) (by_bits bit_and) and_truth (worth σ a) (worth σ b) p q
  bitwise_kind Or (vector w) e f s n a b p q = for_naturals w (int_bit_or w64) (by_bits bit_or) (λ l m h j. or_is l m (below w l s.1 h) (below w m s.1 j)) (worth σ a) (worth σ b) p q
  bitwise_kind Xor (vector w) e f s n a b p q = for_naturals w (int_bit_xor w64) (by_bits bit_xor) (λ l m h j. xor_is l m (below w l s.1 h) (below w m s.1 j)) (worth σ a) (worth σ b) p q
  bitwise_kind And (vector w) e f s n a b p q = for_naturals w (int_bit_and w64) (by_bits bit_and) (λ l m h j. and_is l m (below w l s.1 h)) (worth σ a) (worth σ b) p q
  bitwise_kind Or numeric e f s n a b p q = absurd (cc)
  bitwise_kind Xor numeric e f s n a b p q = absurd (cc)
  bitwise_kind And numeric e f s n a b p q = absurd (cc)
  bitwise_kind _ k e f s n a b p q = absurd (cc)

  bitwise_is : (op : Binary) (o : Option Kind) (k : Kind) → o ≡ Some k → is_bitwise op ≡ true → is_numeric k ≡ false → IsSoundKind k → (n : ℕ) (a b : Tree) → Lies (kind_interval (Some k)) (worth σ a) → Lies (kind_interval (Some k)) (worth σ b)
      → worth σ (two_of op o a b) ≡ expr_value.apply_two op n (worth σ a) (worth σ b)
  bitwise_is op o k g e f s n a b p q = subst (λ o. worth σ (two_of op o a b) ≡ expr_value.apply_two op n (worth σ a) (worth σ b)) (sym g) (bitwise_kind op k e f s n a b p q)

  cat_is : (o : Option Kind) (a b : Tree) → IsSmall (joined (width_in o) (worth σ a) (worth σ b)) → worth σ (two_of Cat o a b) ≡ joined (width_in o) (worth σ a) (worth σ b)
  cat_is o a b h = wrapped_small _ h

  slice_is : (n high low : ℕ) (z : ℤ) → n ≤ 32 → Lies (span (pos 0) (pos (2 ^ n - 1))) z → IsSmall (bits_of z high low) → bits_between high low z ≡ bits_of z high low
  slice_is n high low (pos m) h l s = wrapped_small _ s
  slice_is n high low (negsuc m) h l s = absurd (omega (arith, ints, l.above))

-- ---- expressions

choose_turned : (s : Bool) (x y : ℤ) → (if not s then x else y) ≡ (if s then y else x)
choose_turned true x y = refl
choose_turned false x y = refl

module _ (vs : Vars) (σ : Assignment) (κ : Copies) (s : AreSoundVars vs) (c : IsCurrent vs σ κ) where
  abbrev val : Expr ℕ → ℤ
  val e = expr_value.value vs (env_of σ κ) e

  abbrev tr : Expr ℕ → ℤ
  tr e = worth σ (tree_of vs κ e)

  well : (e : Expr ℕ) (k : Kind) → Typed vs e k → Sound k (interval vs e) (val e)
  well e k d = sound vs (env_of σ κ) s.types c.fits e k d

  -- an operator of two parts whose trees have their values
  two_valued : (op : Binary) (a b : Expr ℕ) → tr a ≡ val a → tr b ≡ val b
      → worth σ (two_of op (kind vs b) (tree_of vs κ a) (tree_of vs κ b)) ≡ expr_value.apply_two op (width_in (kind vs b)) (tr a) (tr b)
      → worth σ (two_of op (kind vs b) (tree_of vs κ a) (tree_of vs κ b)) ≡ expr_value.apply_two op (width_in (kind vs b)) (val a) (val b)
  two_valued op a b g h e = e ∙ ap₂ (expr_value.apply_two op (width_in (kind vs b))) g h

  -- the same number is small where its parts are the same
  still_small : (op : Binary) (n : ℕ) (x y v w : ℤ) → x ≡ v → y ≡ w → IsSmall (expr_value.apply_two op n v w) → IsSmall (expr_value.apply_two op n x y)
  still_small op n x y v w g h l = subst IsSmall (ap₂ (expr_value.apply_two op n) (sym g) (sym h)) l

  pub tree_valued : (e : Expr ℕ) (k : Kind) → Typed vs e k → worth σ (tree_of vs κ e) ≡ expr_value.value vs (env_of σ κ) e
  tree_valued _ _ (of_truth b p) = refl
  tree_valued _ _ (of_number n p h) = refl
  tree_valued _ _ (of_bits w n p low high h) = refl
  tree_valued _ _ (of_named x p k h a e) = element_read σ (refs_of κ x) (pos 0) ∙ ap (λ l. element_at l (pos 0)) (sym (elements_are σ κ x))
  tree_valued _ _ (of_element x i p k h a t e) =
      indexed_is σ (refs_of κ x) (tree_of vs κ i) ∙ ap (λ l. element_at l (tr i)) (sym (elements_are σ κ x)) ∙ ap (element_at (elements_in (env_of σ κ) x)) (tree_valued i numeric t)
  tree_valued _ _ (of_not a p k t e) =
      let q = well a k t in
      not_is σ (kind vs a) k (tree_of vs κ a) (val a) (kind_is vs a k t) e q.kind_sound (q.as_bits e) (tree_valued a k t)
  tree_valued _ _ (of_neg a p t h) =
      let q = well _ _ (of_neg a p t h) in
      ap (λ z. wrapped (neg_ℤ z)) (tree_valued a numeric t) ∙ wrapped_small (neg_ℤ (val a)) q.small
  tree_valued _ _ (of_logical op a b p e t u) = two_valued op a b (tree_valued a boolean t) (tree_valued b boolean u) (direct_is σ op (grind (arith, e)) (kind vs b) _ _ _)
  tree_valued _ _ (of_bitwise op a b p k e f t u) =
      let g = tree_valued a k t in
      let h = tree_valued b k u in
      let q = well a k t in
      let r = well b k u in
      two_valued op a b g h (bitwise_is σ op (kind vs b) k (kind_is vs b k u) e f q.kind_sound _ _ _ (subst (Lies (kind_interval (Some k))) (sym g) (q.as_bits f)) (subst (Lies (kind_interval (Some k))) (sym h) (r.as_bits f)))
  tree_valued _ _ (of_equation op a b p k e t u) = two_valued op a b (tree_valued a k t) (tree_valued b k u) (direct_is σ op (grind (arith, e)) (kind vs b) _ _ _)
  tree_valued _ _ (of_order op a b p e t u) = two_valued op a b (tree_valued a numeric t) (tree_valued b numeric u) (direct_is σ op (grind (arith, e)) (kind vs b) _ _ _)
  tree_valued _ _ (of_cat a b p m n low high t u) =
      let g = tree_valued a (vector m) t in
      let h = tree_valued b (vector n) u in
      let q = well _ _ (of_cat a b p m n low high t u) in
      two_valued Cat a b g h (cat_is σ (kind vs b) (tree_of vs κ a) (tree_of vs κ b) (still_small Cat (width_in (kind vs b)) (tr a) (tr b) (val a) (val b) g h q.small))
  tree_valued _ _ (of_arithmetic op a b p e h t u) =
      let g = tree_valued a numeric t in
      let j = tree_valued b numeric u in
      let q = well _ _ (of_arithmetic op a b p e h t u) in
      two_valued op a b g j (arithmetic_is σ op e (kind vs b) _ _ _ (still_small op (width_in (kind vs b)) (tr a) (tr b) (val a) (val b) g j q.small))
  tree_valued _ _ (of_choice d a b p k l t u) =
      ap (λ z. if holds z then tr a else tr b) (tree_valued d boolean l) ∙ choose_turned (is_zero (val d)) (tr a) (tr b)
      ∙ ap₂ (λ x y. if is_zero (val d) then y else x) (tree_valued a k t) (tree_valued b k u)
  tree_valued _ _ (of_bit a high n p t h) =
      let q = well a (vector n) t in
      let r = well _ _ (of_bit a high n p t h) in
      ap (bits_between high high) (tree_valued a (vector n) t) ∙ slice_is σ n high high (val a) q.kind_sound.1 (q.as_bits refl) r.small
  tree_valued _ _ (of_slice a high low n p t h j) =
      let q = well a (vector n) t in
      let r = well _ _ (of_slice a high low n p t h j) in
      ap (bits_between high low) (tree_valued a (vector n) t) ∙ slice_is σ n high low (val a) q.kind_sound.1 (q.as_bits refl) r.small
  tree_valued _ _ (of_to_nat a n p t) = tree_valued a (vector n) t
  tree_valued _ _ (of_to_bv a n q p t low high h) = tree_valued a numeric t
  tree_valued _ _ (of_paren a p k t) = tree_valued a k t

-- the tree of a typed expression has its value under the values of the current copies
pub tree_value : (vs : Vars) (σ : Assignment) (κ : Copies) → AreSoundVars vs → IsCurrent vs σ κ → (e : Expr ℕ) → IsTyped vs e → worth σ (tree_of vs κ e) ≡ expr_value.value vs (env_of σ κ) e
tree_value vs σ κ s c e h = let d = typed_of vs e h.over h.written h.kinds h.bounds in tree_valued vs σ κ s c e d.0 d.2
