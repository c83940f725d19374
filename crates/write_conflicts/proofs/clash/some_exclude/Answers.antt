use Rattle.std.proofs.Common.{map, arith}
use Rattle.write_conflicts.specs.Pairs.{steps_of}
use Rattle.write_conflicts.proofs.ClashLemmas.{all_more, all_none}
use Rattle.write_conflicts.proofs.clash.some_exclude.Goals as goal

pub loop-register-preserved : goal.loop-register-preserved
loop-register-preserved c = all_more (map steps_of c.args.paths.now) c.args.registers.now c.args.others.now c.loop-register.register-index 0 (omega (arith, c.loop-register-test.true)) c.loop-register.invariant c.if-excludes_some.ensures

pub returns : goal.returns
returns c = all_none (map steps_of c.args.paths.now) c.args.registers.now c.args.others.now c.loop-register.register-index (omega (arith, c.loop-register-test.false)) c.loop-register.invariant
