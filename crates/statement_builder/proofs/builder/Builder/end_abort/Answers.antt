use Rattle.statement_builder.proofs.GuardLemmas.{abort_ended}
use Rattle.statement_builder.proofs.builder.Builder.end_abort.Goals as goal

pub returns : goal.returns
returns c = abort_ended c.args.self.now c.and_of.new.self c.or_of.new.self c.args.inside c.args.cond c.args.end c.in_ok-aborted.aborted c.in_ok-made.made c.in_ok-aborted.ensures c.in_ok-made.ensures
