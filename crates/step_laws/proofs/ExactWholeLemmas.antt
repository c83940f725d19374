-- The cells of a whole module are exact: those of its body, and what closing its outputs and telling registers what they
-- take adds to them.
use Rattle.std.proofs.Common.{◌≡◌, ℕ, zero, suc, ◌+◌, true, false, List, [], ◌∷◌, ◌++◌, Option, Some, None, refl}
use Rattle.std.specs.Prelude.{slice_get}
use Rattle.quartz_tree.specs.declared.declare.Var.{Var}
use Rattle.quartz_expr.specs.Vars.{Vars}
use Rattle.quartz_expr.specs.Terms.{Term, nothing, pause, write, choose, seq, par, loop, abort, suspend, scope, Terms, none, part}
use Rattle.aif_cells.specs.declared.reference.Ref.{Ref}
use Rattle.aif_cells.specs.declared.reference.Ref.TheVariants as ref
use Rattle.aif_cells.specs.declared.cells.Register.{Register}
use Rattle.aif_cells.specs.declared.tree.TreeTwo.TheVariants as tree_two
use Rattle.aif_cells.specs.Tree.{Tree, two, value}
use Rattle.aif_cells.specs.Worth.{Assignment}
use Rattle.absence_reaction.specs.declared.copy.VarCopy.{VarCopy}
use Rattle.reincarnation.specs.declared.copy.ClosedRefs.{ClosedRefs}
use Rattle.reincarnation.specs.declared.copy.Entered.{Entered}
use Rattle.reincarnation.specs.Carrying.{Stores}
use Rattle.statement_cells.specs.Labels.{labels, registers, scope_registers, shape_in}
use Rattle.statement_cells.specs.Builder.{Builder, DepthCopy, EnteredCopy, Short, first, second, both, and_of, built_of, new, nowhere, pick, short_and, writes_to}
use Rattle.statement_cells.specs.Whole.{ClosedOutput, Ended, OutputCopy, all_scopes_taken, beginning, body_built, carried_in, closed_output, compiled, depth_taken, depths_at, ended, entered_at, first_label, first_output, first_registers, first_scope, label_taken, labels_taken, outputs_taken, refs_for, registers_and_cells, scope_taken, scopes_taken, staying, variable_registers}
use Rattle.step_laws.proofs.ExactCellLemmas.{ExactCells, both_cells, carried_exact, closed_exact, join_refs}

module _ (vs : Vars) (σ : Assignment) where
  -- ---- the outputs

  -- the copy with which an output is closed
  abbrev output_copy : OutputCopy → (first : ℕ) → Builder → VarCopy
  output_copy o v β = record {
    var = o.var;
    copy = 0;
    stored = true;
    first = v;
    values = o.cells;
    now = writes_to o.var false β.writes;
    next = writes_to o.var true β.writes;
  }

  ended_exact : (os : List OutputCopy) (v : ℕ) (β : Builder) → ExactCells σ β.cells → ExactCells σ (ended vs os v β).built.cells
  ended_exact [] v β g = g
  ended_exact (o ∷ os) v β g = ended_exact os (v + variable_registers vs o.var) (closed_output vs o v β).built (closed_exact σ (shape_in vs o.var) (output_copy o v β) (built_of β) g)

  -- ---- labels

  pick_exact : (s : Short) (t : Tree) (a b : Ref) (β : Builder) → ExactCells σ (record { tree = t; place = nowhere } ∷ []) → ExactCells σ β.cells → ExactCells σ (pick s t a b β).built.cells
  unfolding new
  pick_exact first t a b β h g = g
  pick_exact second t a b β h g = g
  pick_exact both t a b β h g = both_cells σ β.cells (record { tree = t; place = nowhere } ∷ []) g h

  and_exact : (a b : Ref) (β : Builder) → ExactCells σ β.cells → ExactCells σ (and_of a b β).built.cells
  unfolding and_of
  and_exact a b β g = pick_exact (short_and a b) (two tree_two.And (value a) (value b)) a b β ((tt, tt, tt), tt) g

  staying_exact : (l : ℕ) (rs : List Ref) (β : Builder) → ExactCells σ β.cells → ExactCells σ (staying l rs β).1.cells
  staying_exact l [] β g = g
  staying_exact l (r ∷ rs) β g = staying_exact l rs (and_of (ref.Reg l) r β).built (and_exact (ref.Reg l) r β g)

  labels_exact : (n l : ℕ) (rs : List Register) (β : Builder) → ExactCells σ β.cells → ExactCells σ (labels_taken l n rs β).1.cells
  labels_exact zero l rs β g = g
  labels_exact (suc n) l rs β g =
      let s = staying l (refs_for l β.stays) β in
      labels_exact n (l + 1) (label_taken l rs β).0 (label_taken l rs β).1
      (join_refs σ nowhere (refs_for l β.entries ++ s.0) s.1.cells (staying_exact l (refs_for l β.stays) β g))

  -- ---- registers

  in_exact : (x : ℕ) (es : List Entered) (c : ClosedRefs) (v : ℕ) (τ : Stores) → ExactCells σ τ.cells → ExactCells σ (carried_in vs x es c v τ).cells
  in_exact x es c v τ g = by (slice_get vs x) refl
    where
      by : (o : Option Var) → slice_get vs x ≡ o → ExactCells σ (carried_in vs x es c v τ).cells
      by None e = rw e g
      by (Some w) e = rw e (carried_exact σ w es c v τ g)

  outputs_exact : (os : List ClosedOutput) (τ : Stores) → ExactCells σ τ.cells → ExactCells σ (outputs_taken vs os τ).cells
  outputs_exact [] τ g = g
  outputs_exact (o ∷ os) τ g = outputs_exact os (carried_in vs o.var [] o.closed o.first τ) (in_exact o.var [] o.closed o.first τ g)

  module _ (es : List EnteredCopy) where
    depth_exact : (bs : List DepthCopy) (τ : Stores) → ExactCells σ τ.cells → ExactCells σ (depth_taken vs es bs τ).cells
    depth_exact [] τ g = g
    depth_exact (d ∷ bs) τ g = depth_exact bs (carried_in vs d.var (entered_at d.first es) d.closed d.first τ) (in_exact d.var (entered_at d.first es) d.closed d.first τ g)

    module _ (ds : List DepthCopy) where
      own_exact : (n v : ℕ) (τ : Stores) → ExactCells σ τ.cells → ExactCells σ (scope_taken vs es ds n v τ).cells
      own_exact zero v τ g = g
      own_exact (suc n) v τ g = depth_exact (depths_at v ds) τ g

      mutual
        scopes_exact : (t : Term) (v : ℕ) (τ : Stores) → ExactCells σ τ.cells → ExactCells σ (scopes_taken vs es ds v t τ).cells
        scopes_exact nothing v τ g = g
        scopes_exact pause v τ g = g
        scopes_exact (write x i e d p q) v τ g = g
        scopes_exact (choose c a b) v τ g = scopes_exact b (v + registers vs a) (scopes_taken vs es ds v a τ) (scopes_exact a v τ g)
        scopes_exact (seq ts) v τ g = all_exact ts v τ g
        scopes_exact (par ts) v τ g = all_exact ts v τ g
        scopes_exact (loop t c) v τ g = scopes_exact t v τ g
        scopes_exact (abort w i t c) v τ g = scopes_exact t v τ g
        scopes_exact (suspend w i t c) v τ g = scopes_exact t v τ g
        scopes_exact (scope x s t) v τ g =
            let n : ℕ = scope_registers vs (labels t) x in
            scopes_exact t (v + n) (scope_taken vs es ds n v τ) (own_exact n v τ g)

        all_exact : (ts : Terms) (v : ℕ) (τ : Stores) → ExactCells σ τ.cells → ExactCells σ (all_scopes_taken vs es ds v ts τ).cells
        all_exact none v τ g = g
        all_exact (part t ts) v τ g = all_exact ts (v + registers vs t) (scopes_taken vs es ds v t τ) (scopes_exact t v τ g)

  -- ---- the whole

  pub compiled_exact : (t : Term) → ExactCells σ (body_built vs t).cells → ExactCells σ (compiled vs t).cells
  compiled_exact t g =
      let e : Ended = ended vs (beginning vs).outputs (first_output t) (body_built vs t) in
      let l = labels_taken first_label (labels t) (first_registers vs t) e.built in
      let τ : Stores = registers_and_cells l.0 l.1 in
      let h = labels_exact (labels t) first_label (first_registers vs t) e.built (ended_exact (beginning vs).outputs (first_output t) (body_built vs t) g) in
      scopes_exact l.1.entered l.1.depths t (first_scope vs t) (outputs_taken vs e.outputs τ) (outputs_exact e.outputs τ h)
