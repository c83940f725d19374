use Rattle.std.proofs.Common.{◌≡◌, ◌+◌, length}
use Rattle.quartz_tree.specs.Kernel.{kernel}
use Rattle.quartz_expr.specs.Terms.{term_of}
use Rattle.quartz_names.specs.Unscoped.{unscoped}
use Rattle.reincarnation.specs.Carrying.{stores}
use Rattle.statement_cells.specs.Labels.{labels, registers}
use Rattle.surface_depth.specs.Carrying.{ChangesStores, scopes_of}
use Rattle.surface_depth.proofs.carrying.take_chain.Given as goal

abbrev pub invariant-loop-rest : goal.invariant-loop-rest
invariant-loop-rest l = record {
  carried : scopes_of l.copies l.initial.aif.vars l.first (term_of (kernel l.rest)) (stores l.aif.registers l.aif.cells) ≡ scopes_of l.copies l.initial.aif.vars l.initial.first (term_of (kernel l.stmt)) (stores l.initial.aif.registers l.initial.aif.cells);
  number : l.first + registers l.initial.aif.vars (term_of (kernel l.rest)) ≡ l.initial.first + registers l.initial.aif.vars (term_of (kernel l.stmt));
  labels : l.labels ≡ labels (term_of (kernel l.rest));
  unscoped : unscoped (kernel l.rest) ≡ unscoped (kernel l.stmt);
  rest : ChangesStores l.initial.aif l.aif;
  count : length l.aif.registers ≡ length l.initial.aif.registers;
}
