use Rattle.std.proofs.Common.{◌≡◌, ◌++◌, ℤ, List}
use Rattle.quartz_tree.specs.Least.{least_fault}
use Rattle.absence_reaction.specs.Meaning.{raised}
use Rattle.aif_cells.specs.declared.cells.Monitor.{Monitor}
use Rattle.aif_cells.specs.Worth.{listed}
use Rattle.cell_values.proofs.evaluating.least_raised.Given as goal

abbrev pub invariant-loop-monitor : goal.invariant-loop-monitor
invariant-loop-monitor l = (behind : List Monitor) × (l.monitor-iterator.iter.rest.now ++ behind ≡ l.aif.monitors)
    × ((is rs : List ℤ) → l.least ≡ least_fault (raised (listed is rs l.values) behind))
