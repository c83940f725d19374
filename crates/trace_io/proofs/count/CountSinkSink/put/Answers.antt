use Rattle.trace_io.proofs.CountLemmas.{gained_whole}
use Rattle.trace_io.proofs.count.CountSinkSink.put.Goals as goal

pub returns-clause-gained : goal.returns-clause-gained
returns-clause-gained c = gained_whole c.args.self.now c.add.new.self c.args.piece.now c.add.ensures.count c.add.ensures.last
