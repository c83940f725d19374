use Rattle.std.proofs.Common.{◌≢◌, length, arith}
use Rattle.std.proofs.lemmas.Grind.{common_steps}
use Rattle.quartz_names.proofs.KernelLemmas.{kernel_branches}
use Rattle.quartz_names.proofs.kernel.joined.Goals as goal

pub returns-then-len-ne1 : goal.returns-then-len-ne1
returns-then-len-ne1 c =
    let several : length c.args.branches.items ≢ 1 = grind (arith, common_steps) in
    kernel_branches c.args.branches several
