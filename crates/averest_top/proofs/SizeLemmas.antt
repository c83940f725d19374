-- A module has no more elements of outputs than cells.
use Rattle.std.proofs.Common.{◌≡◌, ◌≤◌, ◌+◌, ℕ, List, [], ◌∷◌, ◌++◌, length, map, true, slice_set, arith, length-append}
use Rattle.quartz_expr.specs.Vars.{Vars, count_of}
use Rattle.quartz_expr.specs.Steps.{outputs_of}
use Rattle.quartz_expr.specs.Terms.{Term}
use Rattle.aif_cells.specs.declared.reference.Ref.TheVariants as ref
use Rattle.aif_cells.specs.Worth.{Assignment, listed}
use Rattle.statement_cells.specs.Builder.{Builder, new_cells, one_ref, reserve, zero_ref}
use Rattle.statement_cells.specs.Expressions.{Copies}
use Rattle.statement_cells.specs.Meaning.{IsSoundModule}
use Rattle.statement_cells.specs.Surface.{surface}
use Rattle.statement_cells.specs.Whole.{Ended, beginning, begun, body_built, compiled, ended, first_copies, first_label, first_output, first_scope, nothing_built, output_cells}
use Rattle.statement_cells.proofs.EarlierWholeLemmas.{outputs_end}
use Rattle.statement_cells.proofs.ScopeGrowLemmas.{reserve_longer}
use Rattle.statement_cells.proofs.SurfaceGrowLemmas.{depth_grows, surface_grows}
use Rattle.statement_cells.proofs.WholeLemmas.{compiled_kept}
use Rattle.cell_run.proofs.ExecuteLemmas.{numbers_counted}
use Rattle.macro_steps.proofs.CompleteLemmas.{kept_longer}

-- each element of an output has a cell
outputs_begun : (vs : Vars) (xs : List ℕ) (κ : Copies) (β : Builder) → length (output_cells (begun vs xs κ β).outputs) + length β.cells ≡ length (begun vs xs κ β).built.cells
outputs_begun vs [] κ β = omega arith
outputs_begun vs (x ∷ xs) κ β =
    let ι : Copies = slice_set κ x (record { copy = 0; values = map ref.Cell (new_cells vs x β) }) in
    let γ : Builder = reserve vs x true β in
    let more : length (output_cells (begun vs xs ι γ).outputs) + length γ.cells ≡ length (begun vs xs ι γ).built.cells = outputs_begun vs xs ι γ in
    let longer : length γ.cells ≡ length β.cells + count_of vs x = reserve_longer vs x true β in
    let both : length (new_cells vs x β ++ output_cells (begun vs xs ι γ).outputs) ≡ length (new_cells vs x β) + length (output_cells (begun vs xs ι γ).outputs) = length-append (new_cells vs x β) (output_cells (begun vs xs ι γ).outputs) in
    let new : length (new_cells vs x β) ≡ count_of vs x = numbers_counted (length β.cells) (count_of vs x) in
    omega (arith, more, longer, both, new)

-- building the body and closing the outputs makes cells alone
pub outputs_few : (vs : Vars) (t : Term) → IsSoundModule vs t → length (compiled vs t).outputs ≤ length (compiled vs t).cells
outputs_few vs t sound =
    let any : Assignment = listed [] [] [] in
    let κ : Copies = (beginning vs).copies in
    let on_surface : Builder = (surface vs κ first_label (first_scope vs t) t (ref.Reg 0) one_ref (beginning vs).built).built in
    let ending : Ended = ended vs (beginning vs).outputs (first_output t) (body_built vs t) in
    let first : length (compiled vs t).outputs + 0 ≡ length (beginning vs).built.cells = outputs_begun vs (outputs_of vs) (first_copies vs 0) nothing_built in
    let upper : length (beginning vs).built.cells ≤ length on_surface.cells = (surface_grows vs any t κ first_label (first_scope vs t) (ref.Reg 0) one_ref (beginning vs).built sound.sound).longer in
    let lower : length on_surface.cells ≤ length (body_built vs t).cells = (depth_grows vs any t κ first_label (first_scope vs t) one_ref one_ref zero_ref on_surface sound.sound).longer in
    let closed : length (body_built vs t).cells ≤ length ending.built.cells = (outputs_end vs t (first_output t)).later.longer in
    let all : length ending.built.cells ≤ length (compiled vs t).cells = kept_longer ending.built.cells (compiled vs t).cells (compiled_kept vs t) in
    omega (arith, first, upper, lower, closed, all)
