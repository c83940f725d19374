use Rattle.std.proofs.Common.{◌≤◌}
use Rattle.quartz_tree.specs.declared.stmt.Stmt.{size-Stmt}
use Rattle.quartz_tree.proofs.stmt.Stmt.+drop.Given as goal

abbrev pub invariant-loop-self : goal.invariant-loop-self
invariant-loop-self l = size-Stmt l.self ≤ size-Stmt l.initial.self
