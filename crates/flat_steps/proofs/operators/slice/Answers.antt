use Rattle.std.proofs.Common.{◌+◌, ◌/◌, ◌%◌, ◌^◌, ap, ◌∙◌}
use Rattle.std.specs.Int.{w64, cast_unsigned}
use Rattle.std.proofs.lemmas.Int.{to_z-of_z}
use Rattle.aif_cells.proofs.WorthLemmas.{sliced}
use Rattle.flat_steps.proofs.operators.slice.Goals as goal

pub returns : goal.returns
returns c = sliced c.args.high c.args.low c.without_low-bits.result c.lowest.result c.args.a c.cast_signed.result c.ranges.a (record { sfits = c.cast_signed.type_inv }) c.cast_signed.ensures c.lowest.type_inv
    (c.lowest.ensures ∙ ap (λ k. c.without_low-bits.result % 2 ^ (k + 1)) c.saturating_sub.ensures)
    (c.without_low-bits.ensures ∙ ap (λ u. u / 2 ^ c.args.low) (c.cast_unsigned.ensures ∙ ap (cast_unsigned w64) (to_z-of_z w64 c.args.a c.ranges.a)))
