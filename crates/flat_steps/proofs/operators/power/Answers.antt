use Rattle.aif_cells.proofs.WorthLemmas.{power_great, power_small}
use Rattle.flat_steps.proofs.operators.power.Goals as goal

pub returns-then-exponent-lt64 : goal.returns-then-exponent-lt64
returns-then-exponent-lt64 c = power_small c.args.exponent c.cast_signed.result (record { sfits = c.cast_signed.type_inv }) c.cast_signed.ensures

pub returns-else-exponent-lt64 : goal.returns-else-exponent-lt64
returns-else-exponent-lt64 c = power_great c.args.exponent c.if-exponent-lt64.false
