use Rattle.std.proofs.Common.{arith}
use Rattle.std.proofs.lemmas.Nat.{and_le_l}
use Rattle.write_conflicts.proofs.ClashLemmas.{common_of, no_common}
use Rattle.write_conflicts.proofs.clash.have_common.Goals as goal

pub returns-then-v-w-eq0 : goal.returns-then-v-w-eq0
returns-then-v-w-eq0 c = no_common c.args.v c.args.w c.if-v-w-eq0.true

pub returns : goal.returns
returns c = common_of c.args.v c.args.w (omega (arith, c.ranges.v.fits, and_le_l c.args.v c.args.w)) (omega (arith, c.if-v-w-eq0.false))
