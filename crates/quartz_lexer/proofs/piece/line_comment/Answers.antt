use Rattle.quartz_lexer.proofs.Fronts.{line_piece}
use Rattle.quartz_lexer.proofs.piece.line_comment.Goals as goal

pub returns : goal.returns
returns c = rw c.run_len.ensures (line_piece c.args.text.now c.requires)
