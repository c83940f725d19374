use Rattle.std.proofs.Common.{◌≡◌, ◌≤◌, length, take}
use Rattle.quartz_tree.specs.Kernel.{kernel}
use Rattle.quartz_expr.specs.Terms.{term_of}
use Rattle.quartz_names.specs.Unscoped.{IsNoDeeper}
use Rattle.statement_cells.specs.Whole.{paths}
use Rattle.surface_depth.proofs.paths.enter_scopes.Given as goal

abbrev pub invariant-loop-inner : goal.invariant-loop-inner
invariant-loop-inner l = record {
  paths : paths l.front.items (term_of (kernel l.inner)) ≡ paths l.initial.front.items (term_of (kernel l.stmt));
  no_deeper : IsNoDeeper l.inner l.stmt;
  front : take (length l.initial.front.items) l.front.items ≡ l.initial.front.items;
  longer : length l.initial.front.items ≤ length l.front.items;
}
