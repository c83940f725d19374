use Rattle.std.proofs.Common.{◌≡◌, drop, map}
use Rattle.quartz_lexer.specs.Piece.{first_len}
use Rattle.quartz_lexer.proofs.piece.first_len.Given as goal

abbrev pub invariant-loop-entry : goal.invariant-loop-entry
invariant-loop-entry l = first_len (map (λ s. s.now) (drop l.entry-index l.table)) l.text ≡ first_len (map (λ s. s.now) l.table) l.text
