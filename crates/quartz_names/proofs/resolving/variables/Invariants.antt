use Rattle.std.proofs.Common.{◌≡◌, ◌++◌, drop}
use Rattle.quartz_tree.specs.Kernel.{kernel}
use Rattle.quartz_names.specs.Resolving.{variables_from}
use Rattle.quartz_names.specs.Targets.{next_targets}
use Rattle.quartz_names.proofs.resolving.variables.Given as goal

abbrev pub invariant-loop-number : goal.invariant-loop-number
invariant-loop-number l = variables_from (next_targets (kernel l.body)) 0 l.decls ≡ l.vars ++ variables_from (next_targets (kernel l.body)) l.number (drop l.number l.decls)
