use Rattle.std.proofs.Common.{rules, ℕ, List, ◌≡◌, ◌∙◌, subst, sym, ap}
use Rattle.aif_cells.specs.declared.cells.Cell.{Cell}
use Rattle.aif_cells.specs.Built.{all_defined}
use Rattle.causality_check.specs.Gather.{needs_of}
use Rattle.causality_check.specs.Graph.{IsClosed}
use Rattle.causality_check.specs.Turns.{AllLeftAreHeldUp, AreInTurn, SomeIsLeft}
use Rattle.causality_check.proofs.OrderLemmas.{as_many, fault_is, has_no_cycle, is_closed, is_order, is_stuck, other_count}
use Rattle.causality_check.proofs.ordered.order.Goals as goal

-- the table that was gathered
graph_is : (cells read : List Cell) (rows g : List (List ℕ)) → g ≡ rows → rows ≡ needs_of (all_defined read) → read ≡ cells → g ≡ needs_of (all_defined cells)
graph_is cells read rows g e f h = e ∙ (f ∙ ap (λ (cs : List Cell). needs_of (all_defined cs)) h)

pub take_in_turn-requires-clause-closed : goal.take_in_turn-requires-clause-closed
take_in_turn-requires-clause-closed c =
    subst IsClosed (sym (graph_is c.args.aif.now.cells c.as_slice-cells.result.now c.in_ok-graph.graph.items c.as_slice.result.now c.as_slice.ensures.value c.in_ok-graph.ensures c.as_slice-cells.ensures)) (is_closed (all_defined c.args.aif.now.cells) c.requires.named)

pub returns-then-len-cells-clause-ordered : goal.returns-then-len-cells-clause-ordered
returns-then-len-cells-clause-ordered c =
    is_order (all_defined c.args.aif.now.cells) c.in_ok-order.order
    (subst (λ (g : List (List ℕ)). AreInTurn g c.in_ok-order.order) (graph_is c.args.aif.now.cells c.as_slice-cells.result.now c.in_ok-graph.graph.items c.as_slice.result.now c.as_slice.ensures.value c.in_ok-graph.ensures c.as_slice-cells.ensures) c.in_ok-order.ensures.in_turn)
    (as_many c.args.aif.now.cells c.as_slice-cells.result.now c.in_ok-order.order c.as_slice-cells.ensures (search rules))

pub returns-then-len-cells-clause-acyclic : goal.returns-then-len-cells-clause-acyclic
returns-then-len-cells-clause-acyclic c =
    has_no_cycle (all_defined c.args.aif.now.cells) c.in_ok-order.order
    (subst (λ (g : List (List ℕ)). AreInTurn g c.in_ok-order.order) (graph_is c.args.aif.now.cells c.as_slice-cells.result.now c.in_ok-graph.graph.items c.as_slice.result.now c.as_slice.ensures.value c.in_ok-graph.ensures c.as_slice-cells.ensures) c.in_ok-order.ensures.in_turn)
    (subst (λ (g : List (List ℕ)). SomeIsLeft g c.in_ok-order.order) (graph_is c.args.aif.now.cells c.as_slice-cells.result.now c.in_ok-graph.graph.items c.as_slice.result.now c.as_slice.ensures.value c.in_ok-graph.ensures c.as_slice-cells.ensures) c.in_ok-order.ensures.not_all)
    (as_many c.args.aif.now.cells c.as_slice-cells.result.now c.in_ok-order.order c.as_slice-cells.ensures (search rules))

pub cycle_in-requires-clause-closed : goal.cycle_in-requires-clause-closed
cycle_in-requires-clause-closed c =
    subst IsClosed (sym (graph_is c.args.aif.now.cells c.as_slice-cells.result.now c.in_ok-graph.graph.items c.as_slice-2.result.now c.as_slice-2.ensures.value c.in_ok-graph.ensures c.as_slice-cells.ensures)) (is_closed (all_defined c.args.aif.now.cells) c.requires.named)

pub cycle_in-requires-clause-stuck : goal.cycle_in-requires-clause-stuck
cycle_in-requires-clause-stuck c =
    let same : c.as_slice.result.now ≡ c.as_slice-2.result.now = c.as_slice.ensures.value ∙ sym c.as_slice-2.ensures.value in
    is_stuck c.as_slice-2.result.now c.in_ok-order.order
    (subst (λ (g : List (List ℕ)). AllLeftAreHeldUp g c.in_ok-order.order) same c.in_ok-order.ensures.held_up)
    (subst (λ (g : List (List ℕ)). SomeIsLeft g c.in_ok-order.order) same c.in_ok-order.ensures.not_all)
    (other_count c.args.aif.now.cells c.as_slice-cells.result.now c.in_ok-order.order c.as_slice-2.result.now c.as_slice-cells.ensures
    (graph_is c.args.aif.now.cells c.as_slice-cells.result.now c.in_ok-graph.graph.items c.as_slice-2.result.now c.as_slice-2.ensures.value c.in_ok-graph.ensures c.as_slice-cells.ensures)
    (search rules))

pub returns-clause-fault : goal.returns-clause-fault
returns-clause-fault c =
    fault_is c.args.aif.now.cells c.as_slice-cells.result.now c.in_ok-start.start c.index-cells-start.result c.in_ok-start.cycle.items c.as_slice-2.result.now c.as_slice-cells.ensures
    (graph_is c.args.aif.now.cells c.as_slice-cells.result.now c.in_ok-graph.graph.items c.as_slice-2.result.now c.as_slice-2.ensures.value c.in_ok-graph.ensures c.as_slice-cells.ensures)
    c.in_ok-start.ensures
