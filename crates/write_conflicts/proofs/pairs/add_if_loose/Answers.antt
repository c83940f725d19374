use Rattle.std.proofs.Common.{length}
use Rattle.write_conflicts.specs.Pairs.{scene}
use Rattle.write_conflicts.proofs.TallyLemmas.{added_at, claimed_at, skipped_at}
use Rattle.write_conflicts.proofs.pairs.add_if_loose.Goals as goal

pub are_loose-requires : goal.are_loose-requires
are_loose-requires c = claimed_at (scene c.args.aif.now) c.args.aif.now.actions c.as_slice-actions.result.now c.as_slice-actions.ensures (length c.args.aif.now.vars) c.args.found.now c.args.first c.args.second _ c.requires.in_turn c.requires.within c.args.claims.now c.index-claims-first.result c.index-claims-second.result c.requires.claims c.index-claims-first.is c.index-claims-second.is

pub returns-then-not-are_loose : goal.returns-then-not-are_loose
returns-then-not-are_loose c = λ seen u p. skipped_at (scene c.args.aif.now) c.args.aif.now.actions c.as_slice-actions.result.now c.as_slice-actions.ensures (length c.args.aif.now.vars) c.args.found.now c.args.first c.args.second _ c.requires.in_turn c.requires.within c.if-not-are_loose.ensures seen p

pub returns : goal.returns
returns c = added_at (scene c.args.aif.now) c.args.aif.now.actions c.as_slice-actions.result.now c.as_slice-actions.ensures (length c.args.aif.now.vars) c.args.found.now c.args.first c.args.second _ c.requires.in_turn c.requires.within c.add.new.self c.if-not-are_loose.ensures c.add.ensures.count c.add.ensures.least c.add.ensures.loose
