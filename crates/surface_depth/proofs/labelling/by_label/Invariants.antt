use Rattle.std.proofs.Common.{◌≡◌, map, take}
use Rattle.statement_builder.specs.Built.{entry}
use Rattle.surface_depth.specs.Labelling.{by_label}
use Rattle.surface_depth.proofs.labelling.by_label.Given as goal

abbrev pub invariant-loop-entry : goal.invariant-loop-entry
invariant-loop-entry l = l.lists.items ≡ by_label 1 l.labels (map entry (take l.entry-index l.entries))
