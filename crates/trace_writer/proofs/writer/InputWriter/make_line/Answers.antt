use Rattle.std.proofs.Common.{rules}
use Rattle.trace_writer.proofs.BackLemmas.{short_is}
use Rattle.trace_writer.proofs.writer.InputWriter.make_line.Goals as goal

pub returns-clause-short : goal.returns-clause-short
returns-clause-short c = short_is _ _ _ (search rules) c.make_line.ensures.text
