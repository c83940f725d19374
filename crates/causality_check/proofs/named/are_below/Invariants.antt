use Rattle.std.proofs.Common.{◌<◌, All, take}
use Rattle.causality_check.proofs.named.are_below.Given as goal

abbrev pub invariant-loop-cell : goal.invariant-loop-cell
invariant-loop-cell l = All (λ d. d < l.count) (take l.cell-index l.cells)
