-- Expressions and writes over the variables of the whole have the same kinds, values and faults: by induction on that
-- they are the same, a line a form. A write then has the same index, the same test of its range and the same act.
use Rattle.std.proofs.Common.{◌≡◌, ℕ, ℤ, pos, Bool, true, false, not, List, [], ◌∷◌, ◌++◌, length, Option, Some, None, unwrap_or, if◌then◌else◌, refl, sym, ap, ap₂, ◌∙◌, subst}
use Rattle.std.specs.Prelude.{is_some, unsigned_abs, ◌&&◌}
use Rattle.quartz_tree.specs.declared.place.Place.{Place}
use Rattle.quartz_tree.specs.declared.declare.Base.{Base}
use Rattle.quartz_tree.specs.declared.fault.Fault.{Fault}
use Rattle.quartz_tree.specs.declared.fault.Kind.TheVariants.{Index, Divisor, Range}
use Rattle.quartz_tree.specs.Tree.{Tree, truth, number, bits, named, element, one, two, choice, slice, to_nat, to_bv, paren}
use Rattle.quartz_expr.specs.declared.act.Act.{Act}
use Rattle.quartz_expr.specs.Values.{Values, elements_in, element_at, is_zero}
use Rattle.quartz_expr.specs.Vars.{Vars, base_of, length_of, count_of}
use Rattle.quartz_expr.specs.declared.kind.ExprKind.{ExprKind as Kind}
use Rattle.quartz_expr.specs.declared.kind.ExprKind.TheVariants.{Numeric as numeric, Vector as vector}
use Rattle.quartz_expr.specs.Kinds.{kind, kind_if, kind_of_base, kind_with, one_kind, two_kind, choice_kind, slice_kind, is_numeric, is_vector, counted}
use Rattle.quartz_expr.specs.Value.{value, apply_one, apply_two, width_in, bits_of}
use Rattle.quartz_expr.specs.Faults.{faults, fault_if, is_index_below, index_faults, divisor_faults}
use Rattle.quartz_expr.specs.Intervals.{Interval, range_of, is_in}
use Rattle.quartz_expr.specs.Writes.{write_acts, write_faults, target_index, target_faults, in_range, act_if}
use Rattle.framed_terms.specs.Framed.{Meanings}
use Rattle.framed_terms.specs.Similar.{Carry, Same, s_truth, s_number, s_bits, s_named, s_element, s_one, s_two, s_choice, s_slice, s_to_nat, s_to_bv, s_paren, SameIndex, i_none, i_some, SameActs, a_none, a_more, LikeTypes, Agree}

module _ (us : Meanings) (ws : Vars) where
  pub same_kinds : (vs : Vars) (f : Carry) (a b : Tree ℕ) → LikeTypes us ws vs f → Same f a b → kind vs a ≡ kind ws b
  same_kinds vs f _ _ l (s_truth b p) = refl
  same_kinds vs f _ _ l (s_number n p) = refl
  same_kinds vs f _ _ l (s_bits w n p) = refl
  same_kinds vs f _ _ l (s_named x y p e) = let h = l x y e in ap₂ (λ (b : Base) (n : Option ℕ). kind_if (not (is_some n)) (kind_of_base b)) h.base h.len
  same_kinds vs f _ _ l (s_element x y i j p e s) =
      let h = l x y e in
      let g = same_kinds vs f i j l s in
      ap₂ (λ (o : Option Kind) (n : Option ℕ). kind_with o (λ k. kind_if (is_some n && is_numeric k) (kind_of_base (base_of vs x)))) g h.len
      ∙ ap (λ (b : Base). kind_with (kind ws j) (λ k. kind_if (is_some (length_of ws y) && is_numeric k) (kind_of_base b))) h.base
  same_kinds vs f _ _ l (s_one op a b p s) = ap (λ (o : Option Kind). kind_with o (one_kind op)) (same_kinds vs f a b l s)
  same_kinds vs f _ _ l (s_two op a b c d p s t) = ap₂ (λ (m n : Option Kind). kind_with m (λ k. kind_with n (two_kind op k))) (same_kinds vs f a b l s) (same_kinds vs f c d l t)
  same_kinds vs f _ _ l (s_choice a b c d e g p s t u) =
      ap₂ (λ (m n : Option Kind). kind_with m (λ l. kind_with n (λ k. kind_with (kind vs e) (choice_kind l k)))) (same_kinds vs f a b l s) (same_kinds vs f c d l t)
      ∙ ap (λ (o : Option Kind). kind_with (kind ws b) (λ l. kind_with (kind ws d) (λ k. kind_with o (choice_kind l k)))) (same_kinds vs f e g l u)
  same_kinds vs f _ _ l (s_slice a b h n p s) = ap (λ (o : Option Kind). kind_with o (slice_kind h n)) (same_kinds vs f a b l s)
  same_kinds vs f _ _ l (s_to_nat a b p s) = ap (λ (o : Option Kind). kind_with o (λ k. kind_if (is_vector k) numeric)) (same_kinds vs f a b l s)
  same_kinds vs f _ _ l (s_to_bv a b w q p s) = ap (λ (o : Option Kind). kind_with o (λ k. kind_if (is_numeric k) (vector (counted w)))) (same_kinds vs f a b l s)
  same_kinds vs f _ _ l (s_paren a b p s) = same_kinds vs f a b l s

  pub same_values : (vs : Vars) (f : Carry) (env all : Values) (a b : Tree ℕ) → Agree us ws vs f env all → Same f a b → value vs env a ≡ value ws all b
  same_values vs f env all _ _ g (s_truth b p) = refl
  same_values vs f env all _ _ g (s_number n p) = refl
  same_values vs f env all _ _ g (s_bits w n p) = refl
  same_values vs f env all _ _ g (s_named x y p e) = ap (λ (l : List ℤ). element_at l (pos 0)) (g.values x y e)
  same_values vs f env all _ _ g (s_element x y i j p e s) = ap₂ element_at (g.values x y e) (same_values vs f env all i j g s)
  same_values vs f env all _ _ g (s_one op a b p s) = ap₂ (apply_one op) (same_kinds vs f a b g.types s) (same_values vs f env all a b g s)
  same_values vs f env all _ _ g (s_two op a b c d p s t) =
      ap (λ (o : Option Kind). apply_two op (width_in o) (value vs env a) (value vs env c)) (same_kinds vs f c d g.types t)
      ∙ ap₂ (apply_two op (width_in (kind ws d))) (same_values vs f env all a b g s) (same_values vs f env all c d g t)
  same_values vs f env all _ _ g (s_choice a b c d e h p s t u) =
      ap (λ (z : ℤ). if is_zero z then value vs env e else value vs env c) (same_values vs f env all a b g s)
      ∙ ap₂ (λ (y z : ℤ). if is_zero (value ws all b) then y else z) (same_values vs f env all e h g u) (same_values vs f env all c d g t)
  same_values vs f env all _ _ g (s_slice a b h n p s) = ap (λ (z : ℤ). bits_of z h (unwrap_or n h)) (same_values vs f env all a b g s)
  same_values vs f env all _ _ g (s_to_nat a b p s) = same_values vs f env all a b g s
  same_values vs f env all _ _ g (s_to_bv a b w q p s) = same_values vs f env all a b g s
  same_values vs f env all _ _ g (s_paren a b p s) = same_values vs f env all a b g s

  same_counts : (vs : Vars) (f : Carry) (x y : ℕ) → LikeTypes us ws vs f → f x ≡ Some y → count_of vs x ≡ count_of ws y
  same_counts vs f x y l e = ap (λ (o : Option ℕ). unwrap_or o 1) (l x y e).len

  same_index_faults : (vs : Vars) (f : Carry) (x y : ℕ) (z w : ℤ) (p : Place) → LikeTypes us ws vs f → f x ≡ Some y → z ≡ w → index_faults vs x z p ≡ index_faults ws y w p
  same_index_faults vs f x y z w p l e h = ap₂ (λ (n : ℕ) (z : ℤ). fault_if (not (is_index_below n z)) Index p) (same_counts vs f x y l e) h

  pub same_faults : (vs : Vars) (f : Carry) (env all : Values) (a b : Tree ℕ) → Agree us ws vs f env all → Same f a b → faults vs env a ≡ faults ws all b
  same_faults vs f env all _ _ g (s_truth b p) = refl
  same_faults vs f env all _ _ g (s_number n p) = refl
  same_faults vs f env all _ _ g (s_bits w n p) = refl
  same_faults vs f env all _ _ g (s_named x y p e) = refl
  same_faults vs f env all _ _ g (s_element x y i j p e s) = ap₂ (λ (a b : List Fault). a ++ b) (same_faults vs f env all i j g s) (same_index_faults vs f x y _ _ p g.types e (same_values vs f env all i j g s))
  same_faults vs f env all _ _ g (s_one op a b p s) = same_faults vs f env all a b g s
  same_faults vs f env all _ _ g (s_two op a b c d p s t) =
      ap₂ (λ (a b : List Fault). a ++ b) (same_faults vs f env all a b g s)
      (ap₂ (λ (a b : List Fault). a ++ b) (same_faults vs f env all c d g t) (ap (λ (z : ℤ). divisor_faults op z p) (same_values vs f env all c d g t)))
  same_faults vs f env all _ _ g (s_choice a b c d e h p s t u) =
      ap₂ (λ (a b : List Fault). a ++ b) (same_faults vs f env all a b g s)
      (ap (λ (z : ℤ). if is_zero z then faults vs env e else faults vs env c) (same_values vs f env all a b g s)
      ∙ ap₂ (λ (y z : List Fault). if is_zero (value ws all b) then y else z) (same_faults vs f env all e h g u) (same_faults vs f env all c d g t))
  same_faults vs f env all _ _ g (s_slice a b h n p s) = same_faults vs f env all a b g s
  same_faults vs f env all _ _ g (s_to_nat a b p s) = same_faults vs f env all a b g s
  same_faults vs f env all _ _ g (s_to_bv a b w q p s) = same_faults vs f env all a b g s
  same_faults vs f env all _ _ g (s_paren a b p s) = same_faults vs f env all a b g s

  -- ---- writes

  same_targets : (vs : Vars) (f : Carry) (env all : Values) (i j : Option (Tree ℕ)) → Agree us ws vs f env all → SameIndex f i j → target_index vs env i ≡ target_index ws all j
  same_targets vs f env all _ _ g i_none = refl
  same_targets vs f env all _ _ g (i_some i j s) = same_values vs f env all i j g s

  same_target_faults : (vs : Vars) (f : Carry) (env all : Values) (i j : Option (Tree ℕ)) → Agree us ws vs f env all → SameIndex f i j → target_faults vs env i ≡ target_faults ws all j
  same_target_faults vs f env all _ _ g i_none = refl
  same_target_faults vs f env all _ _ g (i_some i j s) = same_faults vs f env all i j g s

  one_act : (f : Carry) (b : Bool) (x y : ℕ) (i z : ℤ) (d : Bool) → f x ≡ Some y → SameActs f (act_if b x i z d) (act_if b y i z d)
  one_act f true x y i z d e = a_more _ _ [] [] e refl refl refl a_none
  one_act f false x y i z d e = a_none

  same_ranges : (vs : Vars) (f : Carry) (x y : ℕ) → LikeTypes us ws vs f → f x ≡ Some y → range_of vs x ≡ range_of ws y
  same_ranges vs f x y l e = (l x y e).range

  acted : (y : ℕ) (b c : Bool) (m n z w : ℤ) (d : Bool) → b ≡ c → m ≡ n → z ≡ w → act_if b y m z d ≡ act_if c y n w d
  acted y b c m n z w d e g h = ap (λ (b : Bool). act_if b y m z d) e ∙ ap₂ (λ (m z : ℤ). act_if c y m z d) g h

  pub same_write_acts : (vs : Vars) (f : Carry) (env all : Values) (x y : ℕ) (i j : Option (Tree ℕ)) (e g : Tree ℕ) (d : Bool) → Agree us ws vs f env all
      → f x ≡ Some y → SameIndex f i j → Same f e g → SameActs f (write_acts vs env x i e d) (write_acts ws all y j g d)
  same_write_acts vs f env all x y i j e g d a h s t =
      let n : target_index vs env i ≡ target_index ws all j = same_targets vs f env all i j a s in
      let z : in_range vs x (value vs env e) ≡ in_range ws y (value ws all g) = ap₂ (λ (r : Interval) (z : ℤ). if is_in r z then z else pos 0) (same_ranges vs f x y a.types h) (same_values vs f env all e g a t) in
      let b : is_index_below (count_of vs x) (target_index vs env i) ≡ is_index_below (count_of ws y) (target_index ws all j) = ap₂ is_index_below (same_counts vs f x y a.types h) n in
      subst (λ (u : List Act). SameActs f (write_acts vs env x i e d) u) (acted y _ _ _ _ _ _ d b n z) (one_act f _ x y (target_index vs env i) (in_range vs x (value vs env e)) d h)

  pub same_write_faults : (vs : Vars) (f : Carry) (env all : Values) (x y : ℕ) (i j : Option (Tree ℕ)) (e g : Tree ℕ) (p q : Place) → Agree us ws vs f env all
      → f x ≡ Some y → SameIndex f i j → Same f e g → write_faults vs env x i e p q ≡ write_faults ws all y j g p q
  same_write_faults vs f env all x y i j e g p q a h s t =
      ap₂ (λ (a b : List Fault). a ++ b) (same_target_faults vs f env all i j a s)
      (ap₂ (λ (a b : List Fault). a ++ b) (same_faults vs f env all e g a t)
      (ap₂ (λ (a b : List Fault). a ++ b) (same_index_faults vs f x y _ _ q a.types h (same_targets vs f env all i j a s))
      (ap₂ (λ (r : Interval) (z : ℤ). fault_if (not (is_in r z)) Range p) (same_ranges vs f x y a.types h) (same_values vs f env all e g a t))))
