use Rattle.std.proofs.Common.{◌≡◌, map}
use Rattle.aif_cells.specs.declared.reference.Ref.TheVariants.{Input}
use Rattle.reincarnation.specs.Entering.{numbers_from}
use Rattle.surface_depth.proofs.beginning.inputs_from.Given as goal

abbrev pub invariant-loop-element : goal.invariant-loop-element
invariant-loop-element l = l.values ≡ map Input (numbers_from l.first l.element)
