use Rattle.causality_check.proofs.TurnLemmas.{adds_key}
use Rattle.causality_check.proofs.turns.add.Goals as goal

pub returns : goal.returns
returns c = adds_key c.args.ready.now.keys c.insert.new.self.keys c.args.cell c.in_ok-insert.ensures.keys
