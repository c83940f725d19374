use Rattle.std.proofs.Common.{rules, ◌≡◌, ◌∙◌, ◌+◌, ℕ, [], false, length, replicate, ap, arith}
use Rattle.write_conflicts.specs.Pairs.{scene}
use Rattle.write_conflicts.specs.Tallies.{IsSeen}
use Rattle.write_conflicts.proofs.TallyLemmas.{none_before, pairs_of, rows_none, tally_none}
use Rattle.write_conflicts.proofs.pairs.loose_pairs.Goals as goal

pub loop-second-init : goal.loop-second-init
loop-second-init c =
    let e : c.in_ok-rows.rows.items ≡ replicate (length c.args.aif.now.vars + 1) [] = search rules in
    record {
      rows = rows_none c.args.aif.now.actions (length c.args.aif.now.vars) c.in_ok-rows.rows.items e;
      tally = tally_none (scene c.args.aif.now) c.args.aif.now.actions (length c.args.aif.now.vars) (IsSeen [] 0) c.in_ok-found.found (λ i j t. none_before i j) c.in_ok-found.ensures.count c.in_ok-found.ensures.least (c.in_ok-found.ensures.loose ∙ ap (λ (n : ℕ). replicate n false) c.len.ensures);
    }

pub returns : goal.returns
returns c = pairs_of c.args.aif.now c.loop-second.found c.loop-second.second (omega (arith, c.loop-second-test.false, c.len-second-end.ensures)) c.loop-second.invariant.tally
