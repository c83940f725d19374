-- What is put, one after another, and the part of it where a put failed.
use Rattle.std.proofs.Common.{rules}
use Rattle.aif_cells.proofs.PutLemmas.{puts_more, puts_part}
use Rattle.aif_cells.specs.Put.{piece_text}
use Rattle.aif_cells.proofs.piece.put_pieces.Goals as goal

pub returns-in_err-put_piece : goal.returns-in_err-put_piece
returns-in_err-put_piece g c = puts_part piece_text c.args.pieces.now c.loop-piece.piece-index _ (search rules) (search rules) c.loop-piece.invariant c.in_err-put_piece.ensures

pub loop-piece-preserved : goal.loop-piece-preserved
loop-piece-preserved g c = puts_more piece_text c.args.pieces.now c.loop-piece.piece-index _ (search rules) c.loop-piece.invariant c.in_ok-put_piece.ensures
