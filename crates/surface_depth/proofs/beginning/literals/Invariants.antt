use Rattle.std.proofs.Common.{◌≡◌, replicate}
use Rattle.aif_cells.specs.declared.reference.Ref.TheVariants.{Lit}
use Rattle.surface_depth.proofs.beginning.literals.Given as goal

abbrev pub invariant-loop-element : goal.invariant-loop-element
invariant-loop-element l = l.values ≡ replicate l._element (Lit l.value)
