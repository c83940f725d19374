-- The cells of a whole module are in order.
use Rattle.std.proofs.Common.{◌∙◌, ℕ, Bool, List, length, All, ap, arith}
use Rattle.quartz_expr.specs.Steps.{outputs_of}
use Rattle.aif_cells.specs.declared.cells.Register.{Register}
use Rattle.absence_reaction.specs.Meaning.{is_among}
use Rattle.reincarnation.specs.Carrying.{Stores}
use Rattle.reincarnation.specs.Meaning.{ClosedIsBelow}
use Rattle.statement_cells.specs.Labels.{labels}
use Rattle.statement_cells.specs.Builder.{Builder}
use Rattle.statement_cells.specs.Walk.{cells_of}
use Rattle.statement_cells.specs.Whole.{ClosedOutput, Ended, beginning, body_built, compiled, ended, first_label, first_output, first_registers, first_scope, labels_taken, outputs_taken, registers_and_cells}
use Rattle.statement_cells.specs.Earlier.{CompiledNamesBefore, value_cells}
use Rattle.statement_cells.proofs.EarlierMoreLemmas.{actions_more, all_more, closed_more, monitors_more}
use Rattle.statement_cells.proofs.EarlierWholeLemmas.{GoesEnded, outputs_end}
use Rattle.statement_cells.proofs.EarlierTakenLemmas.{GoesTaken, StoresOrdered, first_nexts, labels_goes, outputs_ordered, scopes_ordered}

-- the body is built, its outputs are closed, and registers are told what they take, all in order
pub compiled_names_before : CompiledNamesBefore
compiled_names_before vs t =
    let free : ℕ → Bool = λ k. is_among k (value_cells vs t) in
    let ending : Ended = ended vs (beginning vs).outputs (first_output t) (body_built vs t) in
    let e : GoesEnded (body_built vs t) ending = outputs_end vs t (first_output t) in
    let rs : List Register = first_registers vs t in
    let l : GoesTaken ending.built (labels_taken first_label (labels t) rs ending.built) = labels_goes first_label (labels t) rs ending.built e.built (first_nexts (length ending.built.cells) vs t (outputs_of vs)) in
    let taken : List Register × Builder = labels_taken first_label (labels t) rs ending.built in
    let β : Builder = taken.1 in
    let n : ℕ = length β.cells in
    let σ : Stores = registers_and_cells taken.0 β in
    let s : StoresOrdered free n σ = record {
      count = omega arith;
      before = λ k d f dep. l.built.before k d (ap (λ r. is_among k (cells_of r)) (l.reserved ∙ e.reserved) ∙ f) dep;
      named = l.built.there.named;
      nexts = l.nexts;
    } in
    let closed : All (λ o. ClosedIsBelow n o.closed) ending.outputs =
    all_more (λ (o : ClosedOutput). ClosedIsBelow (length ending.built.cells) o.closed) (λ (o : ClosedOutput). ClosedIsBelow n o.closed) ending.outputs (λ o g. closed_more (length ending.built.cells) n l.later.longer o.closed g) e.outputs in
    let o = outputs_ordered free n vs ending.outputs σ closed s in
    let last = scopes_ordered free n vs β.entered β.depths l.built.there.entered l.built.there.depths t (first_scope vs t) (outputs_taken vs ending.outputs σ) o in
    let m : ℕ = length (compiled vs t).cells in
    record {
      before = last.before;
      named = last.named;
      monitors = monitors_more n m last.count β.monitors l.built.there.monitors;
      actions = actions_more n m last.count β.actions l.built.there.actions;
      nexts = last.nexts;
    }
