use Rattle.std.proofs.Common.{rules, ◌≡◌, ◌∙◌, ap, map, true, false, ◌-◌, length, arith}
use Rattle.std.specs.Prelude.{◌==◌}
use Rattle.aif_cells.specs.Tree.{tree}
use Rattle.write_conflicts.specs.Blocks.{disjoin_all, disjoined, nothing, said}
use Rattle.write_conflicts.proofs.SaidLemmas.{joined_back, said_by_any, silent_choice, tree_of_last}
use Rattle.write_conflicts.proofs.block.+said.Goals as goal

pub said_in-returns-in-Any : goal.said_in-returns-in-Any
said_in-returns-in-Any t c =
    let e : c.said_in-last.result ≡ said c.args.block c.args.table.now (tree c.in-Any.last.value) = search rules in
    let f : c.said_in_any.result ≡ disjoin_all (map (λ t. said c.args.block c.args.table.now (tree t)) c.in-Any.items.items) c.said_in-last.result = search rules in
    said_by_any c.args.block c.args.table.now c.args.t.now c.in-Any.items c.in-Any.last c.said_in-last.result c.said_in_any.result c.in-Any.is e f

pub said_in-returns-then-is_empty : goal.said_in-returns-then-is_empty
said_in-returns-then-is_empty t c =
    let a : (length c.in-Cases.arms.items == 0) ≡ true = search rules in
    let e : c.said_in-then-is_empty.result ≡ said c.args.block c.args.table.now (tree c.in-Cases.last.value) = search rules in
    e ∙ ap (said c.args.block c.args.table.now) (tree_of_last c.args.t.now c.in-Cases.arms c.in-Cases.last c.in-Cases.is a)

pub said_in-returns-else-is_empty : goal.said_in-returns-else-is_empty
said_in-returns-else-is_empty t c =
    let a : (length c.in-Cases.arms.items == 0) ≡ false = search rules in
    let e : c.nothing-else-is_empty.result ≡ nothing = search rules in
    silent_choice c.args.block c.args.table.now c.args.t.now c.in-Cases.arms c.in-Cases.last c.nothing-else-is_empty.result c.in-Cases.is a e

pub said_in_any-loop-at-preserved : goal.said_in_any-loop-at-preserved
said_in_any-loop-at-preserved t c =
    let w : c.said_in.result ≡ said c.args.block c.args.table.now (tree c.index-items-at.result) = search rules in
    let v : c.disjoin-all.result ≡ disjoined c.said_in.result c.loop-at.all = search rules in
    record {
      within = omega arith;
      joined = joined_back c.args.block c.args.table.now c.args.items.now c.loop-at.at (c.loop-at.at - 1) c.index-items-at.result c.args.last c.loop-at.all c.said_in.result c.disjoin-all.result (omega arith) (omega arith) c.index-items-at.is c.loop-at.invariant.joined w v;
    }
