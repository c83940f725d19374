use Rattle.std.proofs.Common.{◌≡◌, reverse}
use Rattle.quartz_tree.specs.Kernel.{kernel}
use Rattle.quartz_expr.specs.Terms.{term_of}
use Rattle.quartz_names.specs.Unscoped.{unscoped}
use Rattle.statement_cells.specs.Sound.{IsSound}
use Rattle.statement_builder.specs.Built.{IsOver}
use Rattle.statement_builder.specs.Scopes.{OpensAll}
use Rattle.statement_builder.proofs.builder.Builder.open_scopes.Given as goal

abbrev pub invariant-loop-inner : goal.invariant-loop-inner
invariant-loop-inner l = record {
  over : IsOver l.vars l.self;
  sound : IsSound l.vars (term_of (kernel l.inner));
  unscoped_is : unscoped (kernel l.inner) ≡ unscoped (kernel l.stmt);
  opens : OpensAll l.vars l.initial.self l.stored l.labels l.first (term_of (kernel l.stmt)) (reverse l.scopes.items) l.register (term_of (kernel l.inner)) l.self;
}
