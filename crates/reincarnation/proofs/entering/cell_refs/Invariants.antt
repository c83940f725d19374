use Rattle.std.proofs.Common.{◌≡◌, map, take}
use Rattle.aif_cells.specs.declared.reference.Ref.TheVariants.{Cell}
use Rattle.reincarnation.proofs.entering.cell_refs.Given as goal

abbrev pub invariant-loop-cell : goal.invariant-loop-cell
invariant-loop-cell l = l.references ≡ map Cell (take l.cell-index l.cells)
