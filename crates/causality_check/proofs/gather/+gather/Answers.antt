use Rattle.std.proofs.Common.{rules, ◌≡◌, ◌++◌, map, arith}
use Rattle.aif_cells.specs.Dependences.{cells_in}
use Rattle.aif_cells.specs.Tree.{tree}
use Rattle.causality_check.specs.Gather.{cells_in_arms, cells_in_each}
use Rattle.causality_check.proofs.GatherLemmas.{found_any, found_arms, found_cases, found_cat, found_each, found_sel}
use Rattle.causality_check.proofs.gather.+gather.Goals as goal

pub gather-returns-in_ok-gather_each-in-Sel : goal.gather-returns-in_ok-gather_each-in-Sel
gather-returns-in_ok-gather_each-in-Sel t c =
    let e : c.gather-in-Sel.new.found ≡ c.args.found.now ++ cells_in (tree c.in-Sel.index.value) = search rules in
    let f : c.gather_each.new.found ≡ c.gather-in-Sel.new.found ++ cells_in_each (map tree c.in-Sel.items.items) = search rules in
    found_sel c.args.t.now c.in-Sel.index c.in-Sel.items c.args.found.now c.gather-in-Sel.new.found c.gather_each.new.found c.in-Sel.is e f

pub gather-returns-in_ok-gather-in-Cat-2 : goal.gather-returns-in_ok-gather-in-Cat-2
gather-returns-in_ok-gather-in-Cat-2 t c =
    let e : c.gather-in-Cat.new.found ≡ c.args.found.now ++ cells_in (tree c.in-Cat.high.value) = search rules in
    let f : c.gather-in-Cat-2.new.found ≡ c.gather-in-Cat.new.found ++ cells_in (tree c.in-Cat.low.value) = search rules in
    found_cat c.args.t.now c.in-Cat.high c.in-Cat.low c.in-Cat.field-2 c.args.found.now c.gather-in-Cat.new.found c.gather-in-Cat-2.new.found c.in-Cat.is e f

pub gather-returns-in_ok-gather-in-Cases : goal.gather-returns-in_ok-gather-in-Cases
gather-returns-in_ok-gather-in-Cases t c =
    let e : c.gather_arms.new.found ≡ c.args.found.now ++ cells_in_arms (map (λ a. (tree a.0, tree a.1)) c.in-Cases.arms.items) = search rules in
    let f : c.gather-in-Cases.new.found ≡ c.gather_arms.new.found ++ cells_in (tree c.in-Cases.last.value) = search rules in
    found_cases c.args.t.now c.in-Cases.arms c.in-Cases.last c.args.found.now c.gather_arms.new.found c.gather-in-Cases.new.found c.in-Cases.is e f

pub gather-returns-in_ok-gather-in-Any : goal.gather-returns-in_ok-gather-in-Any
gather-returns-in_ok-gather-in-Any t c =
    let e : c.gather_each-in-Any.new.found ≡ c.args.found.now ++ cells_in_each (map tree c.in-Any.items.items) = search rules in
    let f : c.gather-in-Any.new.found ≡ c.gather_each-in-Any.new.found ++ cells_in (tree c.in-Any.last.value) = search rules in
    found_any c.args.t.now c.in-Any.items c.in-Any.last c.args.found.now c.gather_each-in-Any.new.found c.gather-in-Any.new.found c.in-Any.is e f

pub gather_each-loop-item-preserved : goal.gather_each-loop-item-preserved
gather_each-loop-item-preserved t c =
    let f : c.gather.new.found ≡ c.loop-item.found ++ cells_in (tree c.item-item.result) = search rules in
    found_each c.args.items.now c.loop-item.item-index c.item-item.result c.args.found.now c.loop-item.found c.gather.new.found (omega (arith, c.loop-item-test.true)) c.item-item.is c.loop-item.invariant f

pub gather_arms-loop-cond-preserved : goal.gather_arms-loop-cond-preserved
gather_arms-loop-cond-preserved t c =
    let f : c.gather.new.found ≡ c.loop-cond.found ++ cells_in (tree c.loop-cond-item.result.0) = search rules in
    let h : c.gather-in-loop-cond.new.found ≡ c.gather.new.found ++ cells_in (tree c.loop-cond-item.result.1) = search rules in
    found_arms c.args.arms.now c.loop-cond.cond-index c.loop-cond-item.result c.args.found.now c.loop-cond.found c.gather.new.found c.gather-in-loop-cond.new.found (omega (arith, c.loop-cond-test.true)) c.loop-cond-item.is c.loop-cond.invariant f h
