use Rattle.std.proofs.Common.{◌≡◌, ◌<◌, arith, sym, ◌∙◌}
use Rattle.quartz_lexer.specs.Spelling.{signs}
use Rattle.quartz_lexer.specs.Piece.{first_len}
use Rattle.quartz_lexer.proofs.Fronts.{sign_piece, sign_stuck}
use Rattle.quartz_lexer.proofs.piece.sign.Goals as goal

pub returns-in-0 : goal.returns-in-0
unfolding signs
returns-in-0 c =
    let len : c.first_len.result ≡ first_len signs c.args.text.now = c.first_len.ensures in
    sign_stuck c.args.text.now c.requires (sym len ∙ c.in-0.is)

pub returns-in_default : goal.returns-in_default
unfolding signs
returns-in_default c =
    let len : c.first_len.result ≡ first_len signs c.args.text.now = c.first_len.ensures in
    let some : 0 < c.first_len.result = omega arith in
    rw len (sign_piece c.args.text.now c.requires (rw len at some))
