use Rattle.std.proofs.Common.{◌≡◌, ◌<◌, arith}
use Rattle.quartz_lexer.specs.Piece.{bit_digits}
use Rattle.quartz_lexer.proofs.Fronts.{bits_piece, number_piece, number_stuck}
use Rattle.quartz_lexer.proofs.piece.number.Goals as goal

pub overflow_add-result : goal.overflow_add-result
overflow_add-result c =
    let some : 0 < bit_digits c.args.text.now = rw c.bit_digits-bits.ensures at c.if-bits-gt0.true in
    let within = (bits_piece c.args.text.now some).1 in
    omega (arith, within)

pub returns-then-bits-gt0 : goal.returns-then-bits-gt0
returns-then-bits-gt0 c = rw c.bit_digits-bits.ensures (bits_piece c.args.text.now (rw c.bit_digits-bits.ensures at c.if-bits-gt0.true))

pub returns-then-len-le-MAX_DIGITS : goal.returns-then-len-le-MAX_DIGITS
returns-then-len-le-MAX_DIGITS c =
    let none : bit_digits c.args.text.now ≡ 0 = omega arith in
    rw c.run_len-len.ensures (number_piece c.args.text.now c.requires none (rw c.run_len-len.ensures at c.if-len-le-MAX_DIGITS.true))

pub returns-else-len-le-MAX_DIGITS : goal.returns-else-len-le-MAX_DIGITS
returns-else-len-le-MAX_DIGITS c = number_stuck c.args.text.now (rw c.run_len-len.ensures at c.if-len-le-MAX_DIGITS.false)
