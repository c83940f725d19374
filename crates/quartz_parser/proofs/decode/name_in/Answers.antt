use Rattle.quartz_parser.proofs.ItemLemmas.{word_utf8}
use Rattle.quartz_parser.proofs.decode.name_in.Goals as goal

pub returns-in-Err : goal.returns-in-Err
returns-in-Err c = absurd (c.in-Err.ensures.cases.0 (word_utf8 c.args.word.now c.requires))
