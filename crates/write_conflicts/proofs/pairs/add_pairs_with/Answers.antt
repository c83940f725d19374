use Rattle.std.proofs.Common.{length, arith}
use Rattle.write_conflicts.specs.Pairs.{scene}
use Rattle.write_conflicts.proofs.TallyLemmas.{first_less, row_done, row_more, row_starts}
use Rattle.write_conflicts.proofs.pairs.add_pairs_with.Goals as goal

pub loop-first-init : goal.loop-first-init
loop-first-init c = row_starts (scene c.args.aif.now) c.args.aif.now.actions c.args.earlier.now c.args.second c.requires.earlier (length c.args.aif.now.vars) c.args.found.now c.requires.tally

pub add_if_loose-requires-clause-in_turn : goal.add_if_loose-requires-clause-in_turn
add_if_loose-requires-clause-in_turn c = first_less (scene c.args.aif.now) c.args.aif.now.actions c.args.earlier.now c.args.second c.requires.earlier c.loop-first.first-index 0 (omega (arith, c.loop-first-test.true))

pub loop-first-preserved : goal.loop-first-preserved
loop-first-preserved c = row_more (scene c.args.aif.now) c.args.aif.now.actions c.args.earlier.now c.args.second c.requires.earlier (length c.args.aif.now.vars) c.loop-first.first-index c.loop-first.found c.add_if_loose.new.found (omega (arith, c.loop-first-test.true)) c.loop-first.invariant c.add_if_loose.ensures

pub returns : goal.returns
returns c = row_done (scene c.args.aif.now) c.args.aif.now.actions c.args.earlier.now c.args.second c.requires.earlier (length c.args.aif.now.vars) c.loop-first.first-index c.loop-first.found (omega (arith, c.loop-first-test.false)) c.loop-first.invariant
