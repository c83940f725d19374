use Rattle.std.proofs.Common.{◌≡◌, ◌+◌}
use Rattle.quartz_tree.specs.Kernel.{kernel}
use Rattle.statement_builder.specs.Chains.{chain_registers}
use Rattle.statement_builder.proofs.counting.chain_registers.Given as goal

abbrev pub invariant-loop-inner : goal.invariant-loop-inner
invariant-loop-inner l = l.total + chain_registers l.vars (kernel l.inner) ≡ chain_registers l.vars (kernel l.stmt)
