use Rattle.std.proofs.Common.{rules, ◌≡◌, ◌∙◌, ap, map, max, true, false, ◌-◌, length, arith}
use Rattle.std.specs.Prelude.{◌==◌}
use Rattle.aif_cells.specs.Tree.{tree}
use Rattle.write_conflicts.specs.Tables.{greatest_in, greatest_of_all}
use Rattle.write_conflicts.proofs.SaidLemmas.{greatest_back, greatest_by_any, tree_of_last, uncounted_choice}
use Rattle.write_conflicts.proofs.reach.+reach.Goals as goal

pub greatest_in-returns-in-Any : goal.greatest_in-returns-in-Any
greatest_in-returns-in-Any t c =
    let e : c.greatest_in-last.result ≡ greatest_in c.args.group (tree c.in-Any.last.value) = search rules in
    let f : c.greatest_in_any.result ≡ greatest_of_all (map (λ t. greatest_in c.args.group (tree t)) c.in-Any.items.items) c.greatest_in-last.result = search rules in
    greatest_by_any c.args.group c.args.t.now c.in-Any.items c.in-Any.last c.greatest_in-last.result c.greatest_in_any.result c.in-Any.is e f

pub greatest_in-returns-then-is_empty : goal.greatest_in-returns-then-is_empty
greatest_in-returns-then-is_empty t c =
    let a : (length c.in-Cases.arms.items == 0) ≡ true = search rules in
    let e : c.greatest_in-then-is_empty.result ≡ greatest_in c.args.group (tree c.in-Cases.last.value) = search rules in
    e ∙ ap (greatest_in c.args.group) (tree_of_last c.args.t.now c.in-Cases.arms c.in-Cases.last c.in-Cases.is a)

pub greatest_in-returns-else-is_empty : goal.greatest_in-returns-else-is_empty
greatest_in-returns-else-is_empty t c =
    let a : (length c.in-Cases.arms.items == 0) ≡ false = search rules in
    uncounted_choice c.args.group c.args.t.now c.in-Cases.arms c.in-Cases.last c.in-Cases.is a

pub greatest_in_any-loop-at-preserved : goal.greatest_in_any-loop-at-preserved
greatest_in_any-loop-at-preserved t c =
    let w : c.greatest_in.result ≡ greatest_in c.args.group (tree c.index-items-at.result) = search rules in
    let v : c.max-greatest.result ≡ max c.greatest_in.result c.loop-at.greatest = search rules in
    record {
      within = omega arith;
      joined = greatest_back c.args.group c.args.items.now c.loop-at.at (c.loop-at.at - 1) c.index-items-at.result c.args.last c.loop-at.greatest c.greatest_in.result c.max-greatest.result (omega arith) (omega arith) c.index-items-at.is c.loop-at.invariant.joined w v;
    }
