use Rattle.std.proofs.Common.{rules, ◌≡◌, map, length, ◌∙◌}
use Rattle.std.specs.Prelude.{◌==◌}
use Rattle.std.specs.Int.{w64}
use Rattle.std.specs.Int.RustNames.{FitsSigned}
use Rattle.std.proofs.lemmas.Int.{to_z-of_z}
use Rattle.quartz_expr.specs.Values.{element_at}
use Rattle.aif_cells.specs.Tree.{tree}
use Rattle.aif_cells.specs.Worth.{case_worth, listed, one_holds, worth}
use Rattle.aif_cells.proofs.TreeLemmas.{worth_by_any, worth_by_case, worth_by_last, worth_sel}
use Rattle.aif_cells.proofs.valuation.+worth.Goals as goal

pub worth_of-returns-in-Sel : goal.worth_of-returns-in-Sel
worth_of-returns-in-Sel t c =
    let e : c.worth_of-index.result ≡ worth (listed c.args.inputs.now c.args.registers.now c.args.cells.now) (tree c.in-Sel.index.value) = search rules in
    let f : c.select.result ≡ element_at (map (λ t. worth (listed c.args.inputs.now c.args.registers.now c.args.cells.now) (tree t)) c.in-Sel.items.items) c.worth_of-index.result = search rules in
    to_z-of_z w64 c.select.result (record { sfits = c.select.type_inv }) ∙ worth_sel (listed c.args.inputs.now c.args.registers.now c.args.cells.now) c.args.t.now c.in-Sel.index c.in-Sel.items c.worth_of-index.result c.select.result c.in-Sel.is e f

pub worth_of-returns-in-Some : goal.worth_of-returns-in-Some
worth_of-returns-in-Some t c =
    let e : c.first_case.result ≡ case_worth (listed c.args.inputs.now c.args.registers.now c.args.cells.now) (map (λ a. (tree a.0, tree a.1)) c.in-Cases.arms.items) = search rules in
    let f : FitsSigned w64 c.in-Some.value = search rules in
    to_z-of_z w64 c.in-Some.value f ∙ worth_by_case (listed c.args.inputs.now c.args.registers.now c.args.cells.now) c.args.t.now c.in-Cases.arms c.in-Cases.last c.first_case.result c.in-Some.value c.in-Cases.is e c.in-Some.is

pub worth_of-returns-in-None : goal.worth_of-returns-in-None
worth_of-returns-in-None t c =
    let e : c.first_case.result ≡ case_worth (listed c.args.inputs.now c.args.registers.now c.args.cells.now) (map (λ a. (tree a.0, tree a.1)) c.in-Cases.arms.items) = search rules in
    let f : c.worth_of-in-None.result ≡ worth (listed c.args.inputs.now c.args.registers.now c.args.cells.now) (tree c.in-Cases.last.value) = search rules in
    to_z-of_z w64 c.worth_of-in-None.result (record { sfits = c.worth_of-in-None.type_inv }) ∙ worth_by_last (listed c.args.inputs.now c.args.registers.now c.args.cells.now) c.args.t.now c.in-Cases.arms c.in-Cases.last c.first_case.result c.worth_of-in-None.result c.in-Cases.is e c.in-None.is f

pub worth_of-returns-in-Any : goal.worth_of-returns-in-Any
worth_of-returns-in-Any t c =
    let a : c.is_empty.result ≡ (length c.in-Any.items.items == 0) = search rules in
    let e : c.any_holds-one_holds.result ≡ one_holds (listed c.args.inputs.now c.args.registers.now c.args.cells.now) (map tree c.in-Any.items.items) = search rules in
    let f : c.worth_of-last.result ≡ worth (listed c.args.inputs.now c.args.registers.now c.args.cells.now) (tree c.in-Any.last.value) = search rules in
    to_z-of_z w64 c.either.result (record { sfits = c.either.type_inv }) ∙ worth_by_any (listed c.args.inputs.now c.args.registers.now c.args.cells.now) c.args.t.now c.in-Any.items c.in-Any.last c.is_empty.result c.any_holds-one_holds.result c.worth_of-last.result c.either.result c.in-Any.is a e f (search rules)
