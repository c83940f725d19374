use Rattle.std.proofs.Common.{arith}
use Rattle.reincarnation.specs.Carrying.{stores}
use Rattle.surface_depth.proofs.CarryLemmas.{count_there}
use Rattle.surface_depth.proofs.carrying.carry_in.Goals as goal

pub returns-clause-count : goal.returns-clause-count
returns-clause-count c =
    count_there c.args.aif.now.vars c.args.var c.args.copies.now c.args.closed.now c.args.first (stores c.args.aif.now.registers c.args.aif.now.cells) (stores c.carry.new.aif.registers c.carry.new.aif.cells)
    (omega arith) c.in_ok-carry.ensures.carried
