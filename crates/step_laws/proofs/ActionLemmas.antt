-- The actions of a module are those of its body.
use Rattle.std.proofs.Common.{◌≡◌, ℕ, zero, suc, ◌+◌, List, [], ◌∷◌, refl, ◌∙◌}
use Rattle.quartz_expr.specs.Vars.{Vars}
use Rattle.quartz_expr.specs.Terms.{Term}
use Rattle.aif_cells.specs.declared.reference.Ref.{Ref}
use Rattle.aif_cells.specs.declared.reference.Ref.TheVariants as ref
use Rattle.aif_cells.specs.declared.cells.Register.{Register}
use Rattle.aif_cells.specs.declared.tree.TreeTwo.TheVariants as tree_two
use Rattle.aif_cells.specs.Tree.{two, value}
use Rattle.statement_cells.specs.Labels.{labels}
use Rattle.statement_cells.specs.Builder.{Builder, and_of, short_and}
use Rattle.statement_cells.specs.Whole.{OutputCopy, beginning, body_built, closed_output, compiled, ended, first_label, first_output, first_registers, label_taken, labels_taken, refs_for, staying, variable_registers}
use Rattle.step_laws.proofs.QuietLemmas.{pick_quiet}

and_actions : (a b : Ref) (β : Builder) → (and_of a b β).built.actions ≡ β.actions
unfolding and_of
and_actions a b β = (pick_quiet (short_and a b) (two tree_two.And (value a) (value b)) a b β).actions

staying_actions : (l : ℕ) (rs : List Ref) (β : Builder) → (staying l rs β).1.actions ≡ β.actions
staying_actions l [] β = refl
staying_actions l (r ∷ rs) β = staying_actions l rs (and_of (ref.Reg l) r β).built ∙ and_actions (ref.Reg l) r β

labels_actions : (n l : ℕ) (rs : List Register) (β : Builder) → (labels_taken l n rs β).1.actions ≡ β.actions
labels_actions zero l rs β = refl
labels_actions (suc n) l rs β = labels_actions n (l + 1) (label_taken l rs β).0 (label_taken l rs β).1 ∙ staying_actions l (refs_for l β.stays) β

ended_actions : (vs : Vars) (os : List OutputCopy) (v : ℕ) (β : Builder) → (ended vs os v β).built.actions ≡ β.actions
ended_actions vs [] v β = refl
ended_actions vs (o ∷ os) v β = ended_actions vs os (v + variable_registers vs o.var) (closed_output vs o v β).built

pub compiled_actions : (vs : Vars) (t : Term) → (compiled vs t).actions ≡ (body_built vs t).actions
compiled_actions vs t =
    labels_actions (labels t) first_label (first_registers vs t) (ended vs (beginning vs).outputs (first_output t) (body_built vs t)).built
    ∙ ended_actions vs (beginning vs).outputs (first_output t) (body_built vs t)
