-- The line that was made is the one that is put.
use Rattle.std.proofs.Common.{rules}
use Rattle.outside.proofs.PutsLemmas.{puts_same}
use Rattle.trace_io.proofs.writer.TraceWriter.write_step.Goals as goal

pub returns-clause-puts : goal.returns-clause-puts
returns-clause-puts g c = puts_same (search rules) c.put_whole.ensures
