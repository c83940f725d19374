use Rattle.statement_builder.proofs.GuardLemmas.{other_made}
use Rattle.statement_builder.proofs.builder.Builder.other_side.Goals as goal

pub returns : goal.returns
returns c = other_made c.args.self.now c.not_of.new.self c.and_of.new.self c.args.cond c.args.go c.in_ok-unless.unless c.in_ok-made.made c.in_ok-unless.ensures c.in_ok-made.ensures
