use Rattle.std.proofs.lemmas.List.{take_rest}
use Rattle.quartz_lexer.proofs.Fronts.{block_piece, block_stuck}
use Rattle.quartz_lexer.proofs.piece.block_comment.Goals as goal

pub returns-in-Some : goal.returns-in-Some
returns-in-Some c = block_piece c.args.text.now c.in-Some.at c.requires (rw take_rest at c.in-Some.ensures)

pub returns-in-None : goal.returns-in-None
returns-in-None c = block_stuck c.args.text.now c.requires (rw take_rest at c.in-None.ensures)
