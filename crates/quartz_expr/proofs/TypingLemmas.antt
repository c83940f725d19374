-- Typed expressions by their form: what the lists of broken rules say where they are empty.
use Rattle.std.proofs.Common.{◌≡◌, ℕ, ◌+◌, ◌^◌, ◌<◌, ◌≤◌, Bool, true, false, List, [], ◌∷◌, ◌++◌, length, Option, Some, None, refl, sym, ap, ◌∙◌, subst, arith}
use Rattle.std.proofs.lemmas.Bool.Decides.{nat_tests}
use Rattle.std.specs.Prelude.{not, ◌&&◌, ◌||◌, nat_lt, nat_le, is_some, is_none}
use Rattle.quartz_tree.specs.declared.place.Place.{Place}
use Rattle.quartz_tree.specs.declared.expr.Unary.{Unary}
use Rattle.quartz_tree.specs.declared.expr.Unary.TheVariants.{Not, Neg}
use Rattle.quartz_tree.specs.declared.expr.Binary.{Binary}
use Rattle.quartz_tree.specs.declared.expr.Binary.TheVariants.{Iff, Implies, Or, Xor, And, Eq, Ne, Lt, Le, Gt, Ge, Cat, Add, Sub, Mul, Div, Rem}
use Rattle.quartz_tree.specs.Tree.{Tree, truth, number, bits, named, element, one, two, choice, slice, to_nat, to_bv, paren}
use Rattle.quartz_expr.specs.Vars.{Vars, base_of, is_array}
use Rattle.quartz_expr.specs.Kinds.{Kind, boolean, numeric, vector, counted, kind_of_base, same_kind, is_numeric, is_boolean, is_vector, kind_if, kind_with, one_kind, two_kind, choice_kind, slice_width, slice_kind, kind, place_if, is_index, kind_breaks}
use Rattle.quartz_expr.specs.Value.{width_in}
use Rattle.quartz_expr.specs.Intervals.{are_sound_bits, is_inside, is_small, one_interval, two_interval, is_sound_two, is_sound_slice, is_sound_target, bits_interval, interval, bound_breaks}
use Rattle.quartz_expr.specs.Typed.{is_over, has_sound_bits}
use Rattle.quartz_expr.proofs.TruthLemmas.{and_parts, and_intro, or_by_right, none_left}

-- the operators by what they ask of their parts
abbrev pub is_logical : Binary → Bool
is_logical Iff = true
is_logical Implies = true
is_logical _ = false

abbrev pub is_bitwise : Binary → Bool
is_bitwise Or = true
is_bitwise Xor = true
is_bitwise And = true
is_bitwise _ = false

abbrev pub is_equation : Binary → Bool
is_equation Eq = true
is_equation Ne = true
is_equation _ = false

abbrev pub is_order : Binary → Bool
is_order Lt = true
is_order Le = true
is_order Gt = true
is_order Ge = true
is_order _ = false

abbrev pub is_arithmetic : Binary → Bool
is_arithmetic Add = true
is_arithmetic Sub = true
is_arithmetic Mul = true
is_arithmetic Div = true
is_arithmetic Rem = true
is_arithmetic _ = false

-- the expression has that kind, and none of its parts leaves its bounds
pub data Typed (vs : Vars) : Tree ℕ → Kind → Type 0 where
  of_truth : (b : Bool) (p : Place) → Typed vs (truth b p) boolean
  of_number : (n : ℕ) (p : Place) → n ≤ 2 ^ 62 → Typed vs (number n p) numeric
  of_bits : (w n : ℕ) (p : Place) → 1 ≤ w → w ≤ 32 → n < 2 ^ w → Typed vs (bits w n p) (vector w)
  of_named : (x : ℕ) (p : Place) (k : Kind) → x < length vs → is_array vs x ≡ false → k ≡ kind_of_base (base_of vs x) → Typed vs (named x p) k
  of_element : (x : ℕ) (i : Tree ℕ) (p : Place) (k : Kind) → x < length vs → is_array vs x ≡ true → Typed vs i numeric → k ≡ kind_of_base (base_of vs x) → Typed vs (element x i p) k
  of_not : (a : Tree ℕ) (p : Place) (k : Kind) → Typed vs a k → is_numeric k ≡ false → Typed vs (one Not a p) k
  of_neg : (a : Tree ℕ) (p : Place) → Typed vs a numeric → is_small (one_interval Neg (Some numeric) (interval vs a)) ≡ true → Typed vs (one Neg a p) numeric
  of_logical : (op : Binary) (a b : Tree ℕ) (p : Place) → is_logical op ≡ true → Typed vs a boolean → Typed vs b boolean → Typed vs (two op a b p) boolean
  of_bitwise : (op : Binary) (a b : Tree ℕ) (p : Place) (k : Kind) → is_bitwise op ≡ true → is_numeric k ≡ false → Typed vs a k → Typed vs b k → Typed vs (two op a b p) k
  of_equation : (op : Binary) (a b : Tree ℕ) (p : Place) (k : Kind) → is_equation op ≡ true → Typed vs a k → Typed vs b k → Typed vs (two op a b p) boolean
  of_order : (op : Binary) (a b : Tree ℕ) (p : Place) → is_order op ≡ true → Typed vs a numeric → Typed vs b numeric → Typed vs (two op a b p) boolean
  of_cat : (a b : Tree ℕ) (p : Place) (m n : ℕ) → 1 ≤ m + n → m + n ≤ 32 → Typed vs a (vector m) → Typed vs b (vector n) → Typed vs (two Cat a b p) (vector (m + n))
  of_arithmetic : (op : Binary) (a b : Tree ℕ) (p : Place) → is_arithmetic op ≡ true → is_small (two_interval op (Some numeric) (interval vs a) (interval vs b)) ≡ true
      → Typed vs a numeric → Typed vs b numeric → Typed vs (two op a b p) numeric
  of_choice : (c a b : Tree ℕ) (p : Place) (k : Kind) → Typed vs c boolean → Typed vs a k → Typed vs b k → Typed vs (choice c a b p) k
  of_bit : (a : Tree ℕ) (high n : ℕ) (p : Place) → Typed vs a (vector n) → high < n → Typed vs (slice a high None p) boolean
  of_slice : (a : Tree ℕ) (high low n : ℕ) (p : Place) → Typed vs a (vector n) → high < n → low ≤ high → Typed vs (slice a high (Some low) p) (vector (slice_width high low))
  of_to_nat : (a : Tree ℕ) (n : ℕ) (p : Place) → Typed vs a (vector n) → Typed vs (to_nat a p) numeric
  of_to_bv : (a : Tree ℕ) (n : ℕ) (q p : Place) → Typed vs a numeric → 1 ≤ n → n ≤ 32 → is_inside (interval vs a) (bits_interval n) ≡ true → Typed vs (to_bv a n q p) (vector n)
  of_paren : (a : Tree ℕ) (p : Place) (k : Kind) → Typed vs a k → Typed vs (paren a p) k

-- a kind that an expression may have
abbrev pub IsSoundKind : Kind → Type 0
IsSoundKind boolean = Unit {0}
IsSoundKind numeric = Unit {0}
IsSoundKind (vector n) = (1 ≤ n) × (n ≤ 32)

pub counted_is : (n : ℕ) → 1 ≤ n → n ≤ 32 → counted n ≡ n
counted_is n h k = grind (arith, nat_tests)

sound_counted : (n : ℕ) → counted n ≤ 32 → (1 ≤ n) × (n ≤ 32)
sound_counted n h = (grind (arith, nat_tests), grind (arith, nat_tests))

pub not_broken : (b : Bool) (p : Place) → place_if b p ≡ [] → b ≡ false
not_broken true p e = absurd (cc)
not_broken false p e = refl

pub kept : (b : Bool) (p : Place) → place_if (not b) p ≡ [] → b ≡ true
kept true p e = refl
kept false p e = absurd (cc)

had : (b : Bool) (k : Kind) (p : Place) → place_if (is_none (kind_if b k)) p ≡ [] → b ≡ true
had true k p e = refl
had false k p e = absurd (cc)

same_is : (k l : Kind) → same_kind k l ≡ true → k ≡ l
same_is boolean boolean e = refl
same_is boolean numeric e = absurd (cc)
same_is boolean (vector n) e = absurd (cc)
same_is numeric boolean e = absurd (cc)
same_is numeric numeric e = refl
same_is numeric (vector n) e = absurd (cc)
same_is (vector m) boolean e = absurd (cc)
same_is (vector m) numeric e = absurd (cc)
same_is (vector m) (vector n) e = let f : m ≡ n = grind (arith, nat_tests, e) in ap vector f

vector_is : (k : Kind) → is_vector k ≡ true → (n : ℕ) × (k ≡ vector n)
vector_is boolean e = absurd (cc)
vector_is numeric e = absurd (cc)
vector_is (vector n) e = (n, refl)

-- an expression that is typed has a kind
abbrev pub Found : Vars → Tree ℕ → Type 0
Found vs t = (k : Kind) × (kind vs t ≡ Some k) × Typed vs t k

module _ (vs : Vars) where
  one_of : (op : Unary) (a : Tree ℕ) (p : Place) (k : Kind) → place_if (is_none (one_kind op k)) p ≡ [] → is_small (one_interval op (one_kind op k) (interval vs a)) ≡ true
      → Typed vs a k → (m : Kind) × (one_kind op k ≡ Some m) × Typed vs (one op a p) m
  one_of Not a p boolean e f t = (boolean, refl, of_not a p boolean t refl)
  one_of Not a p (vector n) e f t = (vector n, refl, of_not a p (vector n) t refl)
  one_of Not a p numeric e f t = absurd (cc)
  one_of Neg a p numeric e f t = (numeric, refl, of_neg a p t f)
  one_of Neg a p boolean e f t = absurd (cc)
  one_of Neg a p (vector n) e f t = absurd (cc)

  logical_of : (op : Binary) (a b : Tree ℕ) (p : Place) (k l : Kind) → is_logical op ≡ true → (is_boolean k && is_boolean l) ≡ true → Typed vs a k → Typed vs b l → Typed vs (two op a b p) boolean
  logical_of op a b p k l g e t u =
      let f = and_parts (is_boolean k) (is_boolean l) e in
      of_logical op a b p g (subst (Typed vs a) (same_is k boolean f.0) t) (subst (Typed vs b) (same_is l boolean f.1) u)

  bitwise_of : (op : Binary) (a b : Tree ℕ) (p : Place) (k l : Kind) → is_bitwise op ≡ true → (same_kind k l && not (is_numeric k)) ≡ true → Typed vs a k → Typed vs b l → Typed vs (two op a b p) k
  bitwise_of op a b p k l g e t u =
      let f = and_parts (same_kind k l) (not (is_numeric k)) e in
      of_bitwise op a b p k g (negated (is_numeric k) f.1) t (subst (Typed vs b) (sym (same_is k l f.0)) u)
    where
      negated : (b : Bool) → not b ≡ true → b ≡ false
      negated true e = absurd (cc)
      negated false e = refl

  order_of : (op : Binary) (a b : Tree ℕ) (p : Place) (k l : Kind) → is_order op ≡ true → (is_numeric k && is_numeric l) ≡ true → Typed vs a k → Typed vs b l → Typed vs (two op a b p) boolean
  order_of op a b p k l g e t u =
      let f = and_parts (is_numeric k) (is_numeric l) e in
      of_order op a b p g (subst (Typed vs a) (same_is k numeric f.0) t) (subst (Typed vs b) (same_is l numeric f.1) u)

  -- the kind of the whole plays no part in an arithmetic operator's interval
  arithmetic_of : (op : Binary) (a b : Tree ℕ) (p : Place) (k l : Kind) → is_arithmetic op ≡ true → (is_numeric k && is_numeric l) ≡ true → is_small (two_interval op (Some numeric) (interval vs a) (interval vs b)) ≡ true
      → Typed vs a k → Typed vs b l → Typed vs (two op a b p) numeric
  arithmetic_of op a b p k l g e s t u =
      let f = and_parts (is_numeric k) (is_numeric l) e in
      of_arithmetic op a b p g s (subst (Typed vs a) (same_is k numeric f.0) t) (subst (Typed vs b) (same_is l numeric f.1) u)

  cat_of : (a b : Tree ℕ) (p : Place) (k l : Kind) → (is_vector k && is_vector l) ≡ true → nat_le (width_in (two_kind Cat k l)) 32 ≡ true → Typed vs a k → Typed vs b l
      → (m : Kind) × (two_kind Cat k l ≡ Some m) × Typed vs (two Cat a b p) m
  cat_of a b p (vector m) (vector n) e f t u =
      let s = sound_counted (m + n) (grind (arith, nat_tests, f)) in
      (vector (m + n), ap (λ w. Some (vector w)) (counted_is (m + n) s.0 s.1), of_cat a b p m n s.0 s.1 t u)
  cat_of a b p boolean l e f t u = absurd (cc)
  cat_of a b p numeric l e f t u = absurd (cc)
  cat_of a b p (vector m) boolean e f t u = absurd (cc)
  cat_of a b p (vector m) numeric e f t u = absurd (cc)

  abbrev Made : Binary → Tree ℕ → Tree ℕ → Place → Kind → Kind → Type 0
  Made op a b p k l = (m : Kind) × (two_kind op k l ≡ Some m) × Typed vs (two op a b p) m

  two_of : (op : Binary) (a b : Tree ℕ) (p : Place) (k l : Kind) → place_if (is_none (two_kind op k l)) p ≡ []
      → is_sound_two op (two_kind op k l) (two_interval op (two_kind op k l) (interval vs a) (interval vs b)) ≡ true
      → Typed vs a k → Typed vs b l → Made op a b p k l
  two_of Iff a b p k l e f t u = let h = had (is_boolean k && is_boolean l) boolean p e in (boolean, ap (λ b. kind_if b boolean) h, logical_of Iff a b p k l refl h t u)
  two_of Implies a b p k l e f t u = let h = had (is_boolean k && is_boolean l) boolean p e in (boolean, ap (λ b. kind_if b boolean) h, logical_of Implies a b p k l refl h t u)
  two_of Or a b p k l e f t u = let h = had (same_kind k l && not (is_numeric k)) k p e in (k, ap (λ b. kind_if b k) h, bitwise_of Or a b p k l refl h t u)
  two_of Xor a b p k l e f t u = let h = had (same_kind k l && not (is_numeric k)) k p e in (k, ap (λ b. kind_if b k) h, bitwise_of Xor a b p k l refl h t u)
  two_of And a b p k l e f t u = let h = had (same_kind k l && not (is_numeric k)) k p e in (k, ap (λ b. kind_if b k) h, bitwise_of And a b p k l refl h t u)
  two_of Eq a b p k l e f t u = let h = had (same_kind k l) boolean p e in (boolean, ap (λ b. kind_if b boolean) h, of_equation Eq a b p k refl t (subst (Typed vs b) (sym (same_is k l h)) u))
  two_of Ne a b p k l e f t u = let h = had (same_kind k l) boolean p e in (boolean, ap (λ b. kind_if b boolean) h, of_equation Ne a b p k refl t (subst (Typed vs b) (sym (same_is k l h)) u))
  two_of Lt a b p k l e f t u = let h = had (is_numeric k && is_numeric l) boolean p e in (boolean, ap (λ b. kind_if b boolean) h, order_of Lt a b p k l refl h t u)
  two_of Le a b p k l e f t u = let h = had (is_numeric k && is_numeric l) boolean p e in (boolean, ap (λ b. kind_if b boolean) h, order_of Le a b p k l refl h t u)
  two_of Gt a b p k l e f t u = let h = had (is_numeric k && is_numeric l) boolean p e in (boolean, ap (λ b. kind_if b boolean) h, order_of Gt a b p k l refl h t u)
  two_of Ge a b p k l e f t u = let h = had (is_numeric k && is_numeric l) boolean p e in (boolean, ap (λ b. kind_if b boolean) h, order_of Ge a b p k l refl h t u)
  two_of Cat a b p k l e f t u = cat_of a b p k l (had (is_vector k && is_vector l) _ p e) f t u
  two_of Add a b p k l e f t u = let h = had (is_numeric k && is_numeric l) numeric p e in (numeric, ap (λ b. kind_if b numeric) h, arithmetic_of Add a b p k l refl h f t u)
  two_of Sub a b p k l e f t u = let h = had (is_numeric k && is_numeric l) numeric p e in (numeric, ap (λ b. kind_if b numeric) h, arithmetic_of Sub a b p k l refl h f t u)
  two_of Mul a b p k l e f t u = let h = had (is_numeric k && is_numeric l) numeric p e in (numeric, ap (λ b. kind_if b numeric) h, arithmetic_of Mul a b p k l refl h f t u)
  two_of Div a b p k l e f t u = let h = had (is_numeric k && is_numeric l) numeric p e in (numeric, ap (λ b. kind_if b numeric) h, arithmetic_of Div a b p k l refl h f t u)
  two_of Rem a b p k l e f t u = let h = had (is_numeric k && is_numeric l) numeric p e in (numeric, ap (λ b. kind_if b numeric) h, arithmetic_of Rem a b p k l refl h f t u)

  slice_of : (a : Tree ℕ) (high : ℕ) (low : Option ℕ) (p : Place) (k : Kind) → place_if (is_none (slice_kind high low k)) p ≡ [] → is_sound_slice (width_in (Some k)) high low ≡ true
      → Typed vs a k → (m : Kind) × (slice_kind high low k ≡ Some m) × Typed vs (slice a high low p) m
  slice_of a high None p (vector n) e f t = (boolean, refl, of_bit a high n p t (grind (arith, nat_tests, f)))
  slice_of a high (Some low) p (vector n) e f t =
      let g = and_parts (nat_lt high n) (nat_le low high) f in
      (vector (slice_width high low), refl, of_slice a high low n p t (grind (arith, nat_tests, g.0)) (grind (arith, nat_tests, g.1)))
  slice_of a high None p boolean e f t = absurd (cc)
  slice_of a high None p numeric e f t = absurd (cc)
  slice_of a high (Some low) p boolean e f t = absurd (cc)
  slice_of a high (Some low) p numeric e f t = absurd (cc)

  abbrev Broken : Tree ℕ → Place → Type 0
  Broken t p = place_if (is_none (kind vs t)) p ≡ []

  pub typed_of : (t : Tree ℕ) → is_over (length vs) t ≡ true → has_sound_bits t ≡ true → kind_breaks vs t ≡ [] → bound_breaks vs t ≡ [] → Found vs t
  typed_of (truth b p) o w e f = (boolean, refl, of_truth b p)
  typed_of (number n p) o w e f = let g = kept (nat_le n (2 ^ 62)) p f in (numeric, refl, of_number n p (grind (arith, nat_tests, g)))
  typed_of (bits w n p) o s e f =
      let g = and_parts (nat_le 1 w) (nat_le w 32 && nat_lt n (2 ^ w)) (kept (are_sound_bits w n) p f) in
      let h = and_parts (nat_le w 32) (nat_lt n (2 ^ w)) g.1 in
      let low : 1 ≤ w = grind (arith, nat_tests, g.0) in
      let high : w ≤ 32 = grind (arith, nat_tests, h.0) in
      (vector w, ap (λ m. Some (vector m)) (counted_is w low high), of_bits w n p low high (grind (arith, nat_tests, h.1)))
  typed_of (named x p) o s e f =
      let g = not_broken (is_array vs x) p e in
      (kind_of_base (base_of vs x), ap (λ b. kind_if (not b) (kind_of_base (base_of vs x))) g, of_named x p _ (grind (arith, nat_tests, o)) g refl)
  typed_of (element x i p) o s e f =
      let h = and_parts (nat_lt x (length vs)) (is_over (length vs) i) o in
      let g = none_left (place_if (not (is_array vs x && is_index (kind vs i))) p) (kind_breaks vs i) e in
      let a = typed_of i h.1 s g.1 f in
      let b = and_parts (is_array vs x) (is_index (kind vs i)) (kept _ p g.0) in
      let n : a.0 ≡ numeric = same_is a.0 numeric (subst (λ o. is_index o ≡ true) (a.1) b.1) in
      let m : kind vs i ≡ Some numeric = a.1 ∙ ap (λ k. Some k) n in
      (kind_of_base (base_of vs x), rw (m, b.0) refl, of_element x i p _ (grind (arith, nat_tests, h.0)) b.0 (subst (Typed vs i) n a.2) refl)
  typed_of (one op a p) o s e f =
      let g = none_left (kind_breaks vs a) _ e in
      let h = none_left (bound_breaks vs a) _ f in
      let b = typed_of a o s g.0 h.0 in
      let i = subst (λ o. place_if (is_some o && is_none (kind_with o (one_kind op))) p ≡ []) b.1 g.1 in
      let j = subst (λ o. is_small (one_interval op (kind_with o (one_kind op)) (interval vs a)) ≡ true) b.1 (kept _ p h.1) in
      let r = one_of op a p b.0 i j b.2 in
      (r.0, ap (λ o. kind_with o (one_kind op)) b.1 ∙ r.1, r.2)
  typed_of (two op a b p) o s e f =
      let ov = and_parts (is_over (length vs) a) (is_over (length vs) b) o in
      let sb = and_parts (has_sound_bits a) (has_sound_bits b) s in
      let g = none_left (kind_breaks vs a) _ e in
      let g' = none_left (kind_breaks vs b) _ g.1 in
      let h = none_left (bound_breaks vs a) _ f in
      let h' = none_left (bound_breaks vs b) _ h.1 in
      let q = typed_of a ov.0 sb.0 g.0 h.0 in
      let r = typed_of b ov.1 sb.1 g'.0 h'.0 in
      let w : (o l : Option Kind) → Option Kind = λ o l. kind_with o (λ k. kind_with l (two_kind op k)) in
      let i = subst (λ l. place_if (is_some l && is_none (w (Some q.0) l)) p ≡ []) r.1 (subst (λ o. place_if (is_some o && (is_some (kind vs b) && is_none (w o (kind vs b)))) p ≡ []) q.1 g'.1) in
      let j = subst (λ l. is_sound_two op (w (Some q.0) l) (two_interval op (w (Some q.0) l) (interval vs a) (interval vs b)) ≡ true) r.1
      (subst (λ o. is_sound_two op (w o (kind vs b)) (two_interval op (w o (kind vs b)) (interval vs a) (interval vs b)) ≡ true) q.1 (kept _ p h'.1)) in
      let m = two_of op a b p q.0 r.0 i j q.2 r.2 in
      (m.0, ap (λ o. w o (kind vs b)) q.1 ∙ ap (w (Some q.0)) r.1 ∙ m.1, m.2)
  typed_of (choice c a b p) o s e f =
      let ov = and_parts (is_over (length vs) c) _ o in
      let ov' = and_parts (is_over (length vs) a) (is_over (length vs) b) ov.1 in
      let sb = and_parts (has_sound_bits c) _ s in
      let sb' = and_parts (has_sound_bits a) (has_sound_bits b) sb.1 in
      let g = none_left (kind_breaks vs c) _ e in
      let g' = none_left (kind_breaks vs a) _ g.1 in
      let g'' = none_left (kind_breaks vs b) _ g'.1 in
      let h = none_left (bound_breaks vs c) _ f in
      let h' = none_left (bound_breaks vs a) _ h.1 in
      let u = typed_of c ov.0 sb.0 g.0 h.0 in
      let q = typed_of a ov'.0 sb'.0 g'.0 h'.0 in
      let r = typed_of b ov'.1 sb'.1 g''.0 h'.1 in
      let w : (n o l : Option Kind) → Option Kind = λ n o l. kind_with n (λ i. kind_with o (λ j. kind_with l (choice_kind i j))) in
      let i = subst (λ n. place_if (is_some n && (is_some (kind vs a) && (is_some (kind vs b) && is_none (w n (kind vs a) (kind vs b))))) p ≡ []) u.1 g''.1 in
      let i' = subst (λ n. place_if (is_some n && (is_some (kind vs b) && is_none (w (Some u.0) n (kind vs b)))) p ≡ []) q.1 i in
      let i'' = subst (λ n. place_if (is_some n && is_none (w (Some u.0) (Some q.0) n)) p ≡ []) r.1 i' in
      let m = had (is_boolean u.0 && same_kind q.0 r.0) q.0 p i'' in
      let n = and_parts (is_boolean u.0) (same_kind q.0 r.0) m in
      let whole : w (kind vs c) (kind vs a) (kind vs b) ≡ choice_kind u.0 q.0 r.0 = ap (λ n. w n (kind vs a) (kind vs b)) u.1 ∙ ap (λ n. w (Some u.0) n (kind vs b)) q.1 ∙ ap (w (Some u.0) (Some q.0)) r.1 in
      (q.0, whole ∙ ap (λ b. kind_if b q.0) m, of_choice c a b p q.0 (subst (Typed vs c) (same_is u.0 boolean n.0) u.2) q.2 (subst (Typed vs b) (sym (same_is q.0 r.0 n.1)) r.2))
  typed_of (slice a high low p) o s e f =
      let g = none_left (kind_breaks vs a) _ e in
      let h = none_left (bound_breaks vs a) _ f in
      let b = typed_of a o s g.0 h.0 in
      let i = subst (λ o. place_if (is_some o && is_none (kind_with o (slice_kind high low))) p ≡ []) b.1 g.1 in
      let j = subst (λ o. is_sound_slice (width_in o) high low ≡ true) b.1 (kept _ p h.1) in
      let r = slice_of a high low p b.0 i j b.2 in
      (r.0, ap (λ o. kind_with o (slice_kind high low)) b.1 ∙ r.1, r.2)
  typed_of (to_nat a p) o s e f =
      let g = none_left (kind_breaks vs a) _ e in
      let b = typed_of a o s g.0 f in
      let i = subst (λ o. place_if (is_some o && is_none (kind_with o (λ k. kind_if (is_vector k) numeric))) p ≡ []) b.1 g.1 in
      let v = had (is_vector b.0) numeric p i in
      let n = vector_is b.0 v in
      (numeric, ap (λ o. kind_with o (λ k. kind_if (is_vector k) numeric)) b.1 ∙ ap (λ b. kind_if b numeric) v, of_to_nat a n.0 p (subst (Typed vs a) n.1 b.2))
  typed_of (to_bv a n q p) o s e f =
      let g = none_left (kind_breaks vs a) _ e in
      let h = none_left (bound_breaks vs a) _ f in
      let h' = none_left (place_if (not (is_sound_target n)) q) _ h.1 in
      let b = typed_of a o s g.0 h.0 in
      let i = subst (λ o. place_if (is_some o && is_none (kind_with o (λ k. kind_if (is_numeric k) (vector (counted n))))) p ≡ []) b.1 g.1 in
      let v = had (is_numeric b.0) _ p i in
      let w = and_parts (nat_le 1 n) (nat_le n 32) (kept _ q h'.0) in
      let low : 1 ≤ n = grind (arith, nat_tests, w.0) in
      let high : n ≤ 32 = grind (arith, nat_tests, w.1) in (
        vector n,
        ap (λ o. kind_with o (λ k. kind_if (is_numeric k) (vector (counted n)))) b.1 ∙ ap (λ b. kind_if b (vector (counted n))) v ∙ ap (λ m. Some (vector m)) (counted_is n low high),
        of_to_bv a n q p (subst (Typed vs a) (same_is b.0 numeric v) b.2) low high (kept _ p h'.1),
      )
  typed_of (paren a p) o s e f = let b = typed_of a o s e f in (b.0, b.1, of_paren a p b.0 b.2)

-- bits that keep their bounds are written with a digit at least, and their value fits their digits
sound_bits : (w n : ℕ) → are_sound_bits w n ≡ true → (nat_le 1 w && (nat_lt 32 w || nat_lt n (2 ^ w))) ≡ true
sound_bits w n h =
    let g = and_parts (nat_le 1 w) (nat_le w 32 && nat_lt n (2 ^ w)) h in
    let k = and_parts (nat_le w 32) (nat_lt n (2 ^ w)) g.1 in
    and_intro (nat_le 1 w) (nat_lt 32 w || nat_lt n (2 ^ w)) g.0 (or_by_right (nat_lt 32 w) (nat_lt n (2 ^ w)) k.1)

-- so it is in an expression that breaks no bound
pub written_of : (vs : Vars) (t : Tree ℕ) → bound_breaks vs t ≡ [] → has_sound_bits t ≡ true
written_of vs (truth b p) f = refl
written_of vs (number n p) f = refl
written_of vs (bits w n p) f = sound_bits w n (kept (are_sound_bits w n) p f)
written_of vs (named x p) f = refl
written_of vs (element x i p) f = written_of vs i f
written_of vs (one op a p) f = written_of vs a (none_left (bound_breaks vs a) _ f).0
written_of vs (two op a b p) f =
    let h = none_left (bound_breaks vs a) _ f in
    and_intro (has_sound_bits a) (has_sound_bits b) (written_of vs a h.0) (written_of vs b (none_left (bound_breaks vs b) _ h.1).0)
written_of vs (choice c a b p) f =
    let h = none_left (bound_breaks vs c) _ f in
    let k = none_left (bound_breaks vs a) _ h.1 in
    and_intro (has_sound_bits c) (has_sound_bits a && has_sound_bits b) (written_of vs c h.0) (and_intro (has_sound_bits a) (has_sound_bits b) (written_of vs a k.0) (written_of vs b k.1))
written_of vs (slice a high low p) f = written_of vs a (none_left (bound_breaks vs a) _ f).0
written_of vs (to_nat a p) f = written_of vs a f
written_of vs (to_bv a n q p) f = written_of vs a (none_left (bound_breaks vs a) _ f).0
written_of vs (paren a p) f = written_of vs a f
