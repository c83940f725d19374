use Rattle.statement_builder.proofs.ResumeLemmas.{pause_made}
use Rattle.statement_builder.proofs.builder.Builder.resume_pause.Goals as goal

pub returns : goal.returns
returns c = pause_made c.args.self.now c.stay_at.new.self c.and_of.new.self c.args.label c.args.res c.args.stay c.in_ok-end.end c.in_ok-stay_at.ensures c.in_ok-end.ensures
