use Rattle.std.proofs.Common.{◌≡◌, ◌+◌, ◌*◌, drop, length, map}
use Rattle.quartz_tree.specs.Kernel.{kernel, kernels}
use Rattle.quartz_expr.specs.Terms.{terms_of}
use Rattle.reincarnation.specs.Carrying.{stores}
use Rattle.statement_cells.specs.Labels.{registers_all}
use Rattle.surface_depth.specs.Carrying.{ChangesStores, all_of}
use Rattle.surface_depth.proofs.carrying.+scopes.Given as goal

abbrev pub decreases-take_scopes : goal.decreases-take_scopes
decreases-take_scopes l = 3 * goal.size-take_scopes l + 1

abbrev pub decreases-take_inside : goal.decreases-take_inside
decreases-take_inside l = 3 * goal.size-take_inside l

abbrev pub decreases-take_all : goal.decreases-take_all
decreases-take_all l = 3 * goal.size-take_all l + 2

abbrev pub invariant-take_all-loop-stmt : goal.invariant-take_all-loop-stmt
invariant-take_all-loop-stmt l = record {
  carried : all_of l.copies l.initial.aif.vars l.behind (terms_of (kernels (map kernel (drop l.stmt-index l.stmts)))) (stores l.aif.registers l.aif.cells) ≡ all_of l.copies l.initial.aif.vars l.first (terms_of (kernels (map kernel l.stmts))) (stores l.initial.aif.registers l.initial.aif.cells);
  number : l.behind + registers_all l.initial.aif.vars (terms_of (kernels (map kernel (drop l.stmt-index l.stmts)))) ≡ l.first + registers_all l.initial.aif.vars (terms_of (kernels (map kernel l.stmts)));
  rest : ChangesStores l.initial.aif l.aif;
  count : length l.aif.registers ≡ length l.initial.aif.registers;
}
