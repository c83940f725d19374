-- Cells behind others leave those that were there as they are.
use Rattle.std.proofs.Common.{◌≡◌, ℕ, zero, suc, ◌<◌, List, [], ◌∷◌, length, None, Some, ◌∙◌, arith}
use Rattle.std.specs.Prelude.{slice_get}
use Rattle.aif_cells.specs.Solution.{BoundCellsAreMet, ExtensionKeeps, ExtensionsFollow, FreeingKeeps}

none_is_not : {A : Type 0} (x : A) → None ≡ Some x → ⊥
none_is_not x e = cc

-- an item that is there has a number below the length
pub there : {A : Type 0} (xs : List A) (k : ℕ) (x : A) → slice_get xs k ≡ Some x → k < length xs
there [] k x e = absurd (none_is_not x e)
there (y ∷ ys) zero x e = omega arith
there (y ∷ ys) (suc k) x e = omega (arith, there ys k x e)

pub extension_keeps : ExtensionKeeps
extension_keeps free before after σ ext meets k c is bound = meets k c (ext.kept k (there before k c is) bound ∙ is) bound

pub extensions_follow : ExtensionsFollow
extensions_follow free a b c p q = record {
  longer = omega (arith, p.longer, q.longer);
  kept = λ k h f. q.kept k (omega (arith, p.longer, h)) f ∙ p.kept k h f;
}

pub freeing_keeps : FreeingKeeps
freeing_keeps f g h = record {
  met = λ σ cs meets k c is bound. meets k c is (h k bound);
  extended = λ before after ext. record { longer = ext.longer; kept = λ k i bound. ext.kept k i (h k bound) };
}

pub bound_cells_are_met : BoundCellsAreMet
bound_cells_are_met free σ n cs bound meets k c le is = meets k c is (bound k le (there cs k c is))
