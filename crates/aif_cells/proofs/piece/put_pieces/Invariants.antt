use Rattle.std.proofs.Common.{Ok, take}
use Rattle.outside.specs.Puts.{Puts}
use Rattle.aif_cells.specs.Put.{pieces_text}
use Rattle.aif_cells.proofs.piece.put_pieces.Given as goal

abbrev pub invariant-loop-piece : goal.invariant-loop-piece
invariant-loop-piece g l = Puts g.O.Sink.stands g.O.Sink.faults (Ok tt) l.initial.out l.out (pieces_text (take l.piece-index l.pieces))
