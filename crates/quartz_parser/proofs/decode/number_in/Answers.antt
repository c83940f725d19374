use Rattle.std.proofs.Common.{◌+◌, ◌*◌, ◌-◌, ◌<◌, ◌^◌, get_or, sym, ◌∙◌, arith, subst}
use Rattle.quartz_parser.proofs.ItemLemmas.{digit_below, digits_fit, digits_more, more_digits}
use Rattle.quartz_parser.proofs.decode.number_in.Goals as goal

pub overflow_mul-value : goal.overflow_mul-value
overflow_mul-value c =
    let h = digits_fit c.args.base c.loop-digit.digit-index _ c.loop-digit.value 0 c.requires.positive c.loop-digit.invariant.1 c.requires.positive c.loop-digit-test.true c.requires.fits in
    omega (arith, h)

pub overflow_add-value : goal.overflow_add-value
overflow_add-value c =
    let d = digit_below c.args.base (get_or c.args.word.now c.loop-digit.digit-index 0) (c.requires.digits c.loop-digit.digit-index 0 c.loop-digit-test.true) in
    let h = digits_fit c.args.base c.loop-digit.digit-index _ c.loop-digit.value (get_or c.args.word.now c.loop-digit.digit-index 0 - 48) c.requires.positive c.loop-digit.invariant.1 d.1 c.loop-digit-test.true c.requires.fits in
    rw c.from.ensures (omega (arith, h))

pub loop-digit-preserved : goal.loop-digit-preserved
loop-digit-preserved c =
    let d = digit_below c.args.base (get_or c.args.word.now c.loop-digit.digit-index 0) (c.requires.digits c.loop-digit.digit-index 0 c.loop-digit-test.true) in
    rw c.from.ensures (
      sym (digits_more c.args.base c.loop-digit.value c.loop-digit.digit-index c.args.word.now c.loop-digit-test.true) ∙ c.loop-digit.invariant.0,
      more_digits c.args.base c.loop-digit.digit-index c.loop-digit.value _ c.loop-digit.invariant.1 d.1,
    )
