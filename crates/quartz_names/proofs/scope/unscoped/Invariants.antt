use Rattle.std.proofs.Common.{◌≡◌}
use Rattle.quartz_tree.specs.Kernel.{kernel}
use Rattle.quartz_names.specs.Unscoped.{IsNoDeeper}
use Rattle.quartz_names.specs.Unscoped.{unscoped as plain_unscoped}
use Rattle.quartz_names.proofs.scope.unscoped.Given as goal

abbrev pub invariant-loop-inner : goal.invariant-loop-inner
invariant-loop-inner l = record {
  inside : plain_unscoped (kernel l.inner) ≡ plain_unscoped (kernel l.stmt);
  no_deeper : IsNoDeeper l.inner l.stmt;
}
