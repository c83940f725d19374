use Rattle.std.proofs.Common.{◌≡◌, ◌-◌, ◌≤◌}
use Rattle.quartz_tree.specs.Kernel.{kernel}
use Rattle.quartz_names.specs.Numbering.{around}
use Rattle.quartz_names.proofs.kernel.around.Given as goal

abbrev pub invariant-loop-step : goal.invariant-loop-step
invariant-loop-step l = record {
  within : l.step ≤ l.end - l.first;
  inner : kernel l.inner ≡ around (l.end - l.step) l.step (kernel l.fn.body);
}
