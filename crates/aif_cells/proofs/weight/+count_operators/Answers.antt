-- The forms that hold lists, by the operators of these.
use Rattle.std.proofs.Common.{rules, ◌≡◌, arith}
use Rattle.std.specs.Prelude.{sum_by}
use Rattle.aif_cells.specs.Tree.{tree}
use Rattle.aif_cells.specs.Weight.{operators, held, item_operators, arm_operators, alternative_operators}
use Rattle.aif_cells.proofs.WeightLemmas.{operators_of_any, operators_of_cases, operators_of_sel}
use Rattle.aif_cells.proofs.weight.+count_operators.Goals as goal

pub count_operators-returns-in-Sel : goal.count_operators-returns-in-Sel
count_operators-returns-in-Sel t c =
    let whole = operators_of_sel c.args.t.now c.in-Sel.index c.in-Sel.items c.in-Sel.is in
    let selector : c.count_operators-selector.result ≡ held (operators (tree c.in-Sel.index.value)) = search rules in
    let choices : c.count_items-choices.result ≡ held (sum_by item_operators c.in-Sel.items.items) = search rules in
    omega (arith, whole, selector, choices)

pub count_operators-returns-in-Cases : goal.count_operators-returns-in-Cases
count_operators-returns-in-Cases t c =
    let whole = operators_of_cases c.args.t.now c.in-Cases.arms c.in-Cases.last c.in-Cases.is in
    let cases : c.count_arms-cases.result ≡ held (sum_by arm_operators c.in-Cases.arms.items) = search rules in
    let otherwise : c.count_operators-otherwise.result ≡ held (operators (tree c.in-Cases.last.value)) = search rules in
    omega (arith, whole, cases, otherwise)

pub count_operators-returns-in-Any : goal.count_operators-returns-in-Any
count_operators-returns-in-Any t c =
    let whole = operators_of_any c.args.t.now c.in-Any.items c.in-Any.last c.in-Any.is in
    let alternatives : c.count_alternatives-alternatives.result ≡ held (sum_by alternative_operators c.in-Any.items.items) = search rules in
    let rest : c.count_operators-rest.result ≡ held (operators (tree c.in-Any.last.value)) = search rules in
    omega (arith, whole, alternatives, rest)
