use Rattle.statement_builder.proofs.JoinLemmas.{rest_made}
use Rattle.statement_builder.proofs.builder.Builder.end_or_rest.Goals as goal

pub returns : goal.returns
returns c = rest_made c.args.self.now c.in_of.new.self c.not_of.new.self c.or_of.new.self c.args.label c.args.labels c.args.end c.in_ok-within.within c.in_ok-rests.rests c.in_ok-made.made c.in_ok-within.ensures c.in_ok-rests.ensures c.in_ok-made.ensures
