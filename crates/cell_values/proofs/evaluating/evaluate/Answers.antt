use Rattle.std.proofs.Common.{◌∙◌, subst, sym, List, ℕ}
use Rattle.std.specs.Int.{w64}
use Rattle.std.proofs.lemmas.Int.{to_z-of_z}
use Rattle.std.proofs.lemmas.List.{length-set}
use Rattle.aif_cells.specs.declared.cells.Cell.{Cell}
use Rattle.aif_cells.specs.Built.{all_defined}
use Rattle.aif_cells.specs.Order.{IsOrder}
use Rattle.aif_cells.specs.Solution.{IsSolution}
use Rattle.aif_cells.specs.Worth.{listed}
use Rattle.cell_values.proofs.DoneLemmas.{all_done, step_done}
use Rattle.cell_values.proofs.evaluating.evaluate.Goals as goal

pub loop-cell-preserved : goal.loop-cell-preserved
loop-cell-preserved c =
    let bs : List Cell = c.as_slice-cells.result.now in
    let order : List ℕ = c.as_slice-cell-items.result.now in
    let ordered : IsOrder (all_defined bs) order =
    subst (λ (xs : List ℕ). IsOrder (all_defined bs) xs) (sym c.as_slice-cell-items.ensures)
    (subst (λ (cs : List Cell). IsOrder (all_defined cs) c.args.order.now.cells) (sym c.as_slice-cells.ensures) c.requires.order) in
    record {
      room = length-set c.loop-cell.values _ _ ∙ c.loop-cell.invariant.room;
      done = step_done bs c.args.inputs.now c.args.registers.now c.loop-cell.values order c.loop-cell.cell-index _ _ ordered c.loop-cell-test.true c.loop-cell.invariant.room c.loop-cell.invariant.done
          (to_z-of_z w64 c.worth_of.result (record { sfits = c.worth_of.type_inv }) ∙ c.worth_of.ensures);
    }

pub returns-clause-solution : goal.returns-clause-solution
returns-clause-solution c =
    let order : List ℕ = c.as_slice-cell-items.result.now in
    subst (λ (cs : List Cell). IsSolution (listed c.args.inputs.now c.args.registers.now c.loop-cell.values) (all_defined cs)) c.as_slice-cells.ensures
    (all_done (all_defined c.as_slice-cells.result.now) c.args.inputs.now c.args.registers.now c.loop-cell.values order c.loop-cell.cell-index
    (subst (λ (xs : List ℕ). IsOrder (all_defined c.as_slice-cells.result.now) xs) (sym c.as_slice-cell-items.ensures)
    (subst (λ (cs : List Cell). IsOrder (all_defined cs) c.args.order.now.cells) (sym c.as_slice-cells.ensures) c.requires.order))
    c.loop-cell-test.false c.loop-cell.invariant.done)
