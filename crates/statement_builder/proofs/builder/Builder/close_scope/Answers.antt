use Rattle.std.proofs.Common.{rules}
use Rattle.statement_builder.proofs.ScopeLemmas.{scope_closed}
use Rattle.statement_builder.proofs.builder.Builder.close_scope.Goals as goal

pub returns : goal.returns
returns c = scope_closed c.args.vars.now c.args.self.now c.args.scope c.end_writes-inner.result c.end_writes-inner.new.variables c.exchange-inside.new.copies c.close.new.aif c.in_ok-closed.closed.values c.in_ok-closed.closed.flags c.in_ok-closed.closed.pending
    c.requires (search rules) c.end_writes-inner.ensures.before c.end_writes-inner.ensures.after c.exchange-inside.ensures.after c.in_ok-closed.ensures.closed c.in_ok-closed.ensures.rest
