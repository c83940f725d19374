use Rattle.quartz_lexer.specs.Spelling.{keywords}
use Rattle.quartz_lexer.proofs.Spellings.{is_listed-Decides}
use Rattle.quartz_lexer.proofs.piece.is_keyword.Goals as goal

pub returns : goal.returns
unfolding keywords
returns c = rw c.contains.ensures.value (is_listed-Decides keywords c.args.word.now)
