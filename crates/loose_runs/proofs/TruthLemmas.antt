-- What a guard that acts says of references is so in every solution.
use Rattle.std.proofs.Common.{◌≡◌, Bool, true, false, not, ◌&&◌, ◌||◌, List, refl, sym, ap, ◌∙◌}
use Rattle.aif_cells.specs.declared.reference.Ref.{Ref}
use Rattle.aif_cells.specs.Tree.{Tree}
use Rattle.aif_cells.specs.Worth.{Assignment, holds, truth, worth}
use Rattle.aif_cells.specs.Built.{Defined}
use Rattle.aif_cells.specs.Solution.{IsSolution}
use Rattle.aif_cells.proofs.WorthLemmas.{holds_of_bool}
use Rattle.write_conflicts.specs.Must.{Must, of_input, of_register, of_cell, of_cell_tree, of_not, of_left_and, of_right_and, of_left_or, of_right_or, of_both_or, of_both_and}
use Rattle.quartz_expr.proofs.TruthLemmas.{and_left, and_right, or_left, or_right}

pub one_of : (P : Type 0) (a b : Bool) → (a || b) ≡ true → (a ≡ true → P) → (b ≡ true → P) → P
one_of P true b e f g = f refl
one_of P false b e f g = g e

one_not : (P : Type 0) (a b : Bool) → (a && b) ≡ false → (a ≡ false → P) → (b ≡ false → P) → P
one_not P false b e f g = f refl
one_not P true b e f g = g e

module _ (cs : List Defined) (σ : Assignment) (solves : IsSolution σ cs) where
  abbrev is : Tree → Bool
  is t = holds (worth σ t)

  -- where a tree has the truth value of its sign, each reference that it gives has that of its own
  pub said : (t : Tree) (s : Bool) (r : Ref) (u : Bool) → Must cs t s r u → holds (worth σ t) ≡ s → truth σ r ≡ u
  said _ _ _ _ (of_input i s) h = h
  said _ _ _ _ (of_register k s) h = h
  said _ _ _ _ (of_cell c s) h = h
  said _ _ _ _ (of_cell_tree c s d r u there m) h = said d.tree s r u m (ap holds (sym (solves c d there refl)) ∙ h)
  said _ _ _ _ (of_not a s r u m) h = said a (not s) r u m (ap not (sym (holds_of_bool _) ∙ h))
  said _ _ _ _ (of_left_and a b r u m) h = said a true r u m (and_left (is a) (is b) (sym (holds_of_bool _) ∙ h))
  said _ _ _ _ (of_right_and a b r u m) h = said b true r u m (and_right (is a) (is b) (sym (holds_of_bool _) ∙ h))
  said _ _ _ _ (of_left_or a b r u m) h = said a false r u m (or_left (is a) (is b) (sym (holds_of_bool _) ∙ h))
  said _ _ _ _ (of_right_or a b r u m) h = said b false r u m (or_right (is a) (is b) (sym (holds_of_bool _) ∙ h))
  said _ _ _ _ (of_both_or a b r u m n) h = one_of (truth σ r ≡ u) (is a) (is b) (sym (holds_of_bool _) ∙ h) (said a true r u m) (said b true r u n)
  said _ _ _ _ (of_both_and a b r u m n) h = one_not (truth σ r ≡ u) (is a) (is b) (sym (holds_of_bool _) ∙ h) (said a false r u m) (said b false r u n)
