-- What is built behind the body keeps cells and monitors.
use Rattle.std.proofs.Common.{◌≡◌, ℕ, zero, suc, ◌+◌, List, [], ◌∷◌, ◌++◌, map, Option, Some, None, refl, ◌∙◌}
use Rattle.std.specs.Prelude.{filter, slice_get}
use Rattle.quartz_tree.specs.declared.place.Place.{Place}
use Rattle.quartz_tree.specs.declared.declare.Var.{Var}
use Rattle.quartz_expr.specs.Vars.{Vars}
use Rattle.quartz_expr.specs.Terms.{Term, nothing, pause, write, choose, seq, par, loop, abort, suspend, scope, Terms, none, part}
use Rattle.aif_cells.specs.declared.reference.Ref.{Ref}
use Rattle.aif_cells.specs.declared.reference.Ref.TheVariants as ref
use Rattle.aif_cells.specs.declared.cells.Register.{Register}
use Rattle.aif_cells.specs.Tree.{Tree, value}
use Rattle.aif_cells.specs.Built.{Defined, given_or_new, is_not_nought, join, join_alone, or_all}
use Rattle.aif_cells.proofs.SolutionLemmas.{there}
use Rattle.reincarnation.specs.declared.copy.ClosedRefs.{ClosedRefs}
use Rattle.reincarnation.specs.declared.copy.Entered.{Entered}
use Rattle.reincarnation.specs.Carrying.{Stores}
use Rattle.reincarnation.proofs.MeaningLemmas.{carrying_keeps}
use Rattle.statement_cells.specs.Labels.{labels, registers, scope_registers}
use Rattle.statement_cells.specs.Builder.{Builder, EnteredCopy, DepthCopy, Short, first, second, both, and_of, new, nowhere, pick}
use Rattle.statement_cells.specs.Whole.{ClosedOutput, all_scopes_taken, beginning, body_built, carried_in, compiled, depth_taken, depths_at, ended, entered_at, first_label, first_output, first_registers, first_scope, label_taken, labels_taken, outputs_taken, refs_for, registers_and_cells, scope_taken, scopes_taken, staying}
use Rattle.statement_cells.proofs.GrowLemmas.{get_front}

-- the cells that are there stay as they are
abbrev pub Kept : (before after : List Defined) → Type 0
Kept cs ds = (k : ℕ) (c : Defined) → slice_get cs k ≡ Some c → slice_get ds k ≡ Some c

-- more cells, and nothing else
pub record OnlyCells (before after : Builder) : Type 0 where
  pub cells : Kept before.cells after.cells
  pub monitors : after.monitors ≡ before.monitors
  pub entries : after.entries ≡ before.entries
  pub stays : after.stays ≡ before.stays
  pub entered : after.entered ≡ before.entered
  pub depths : after.depths ≡ before.depths

pub same_only : (β : Builder) → OnlyCells β β
same_only β = record { cells = λ k c e. e; monitors = refl; entries = refl; stays = refl; entered = refl; depths = refl }

pub follow_only : (a b c : Builder) → OnlyCells a b → OnlyCells b c → OnlyCells a c
follow_only a b c g h = record {
  cells = λ k d e. h.cells k d (g.cells k d e);
  monitors = h.monitors ∙ g.monitors;
  entries = h.entries ∙ g.entries;
  stays = h.stays ∙ g.stays;
  entered = h.entered ∙ g.entered;
  depths = h.depths ∙ g.depths;
}

new_only : (t : Tree) (β : Builder) → OnlyCells β (new t β).built
unfolding new
new_only t β = record { cells = λ k c e. get_front β.cells _ k c e; monitors = refl; entries = refl; stays = refl; entered = refl; depths = refl }

pick_only : (s : Short) (t : Tree) (a b : Ref) (β : Builder) → OnlyCells β (pick s t a b β).built
pick_only first t a b β = same_only β
pick_only second t a b β = same_only β
pick_only both t a b β = new_only t β

pub and_only : (a b : Ref) (β : Builder) → OnlyCells β (and_of a b β).built
unfolding and_of
and_only a b β = pick_only _ _ a b β

-- ---- labels

pub staying_only : (l : ℕ) (rs : List Ref) (β : Builder) → OnlyCells β (staying l rs β).1
staying_only l [] β = same_only β
staying_only l (r ∷ rs) β = follow_only β (and_of (ref.Reg l) r β).built _ (and_only (ref.Reg l) r β) (staying_only l rs (and_of (ref.Reg l) r β).built)

given_kept : (o : Option Ref) (t : Tree) (p : Place) (cs : List Defined) → Kept cs (given_or_new o t p cs).cells
given_kept (Some r) t p cs = λ k c e. e
given_kept None t p cs = λ k c e. get_front cs _ k c e

pub join_kept : (p : Place) (ts : List Tree) (cs : List Defined) → Kept cs (join p ts cs).cells
join_kept p ts cs = given_kept (join_alone (filter is_not_nought ts)) (or_all (filter is_not_nought ts)) p cs

pub label_only : (l : ℕ) (rs : List Register) (β : Builder) → OnlyCells β (label_taken l rs β).1
label_only l rs β =
    let s = staying l (refs_for l β.stays) β in
    let g = staying_only l (refs_for l β.stays) β in
    record {
      cells = λ k c e. join_kept nowhere (map value (refs_for l β.entries ++ s.0)) s.1.cells k c (g.cells k c e);
      monitors = g.monitors;
      entries = g.entries;
      stays = g.stays;
      entered = g.entered;
      depths = g.depths;
    }

pub labels_only : (n l : ℕ) (rs : List Register) (β : Builder) → OnlyCells β (labels_taken l n rs β).1
labels_only zero l rs β = same_only β
labels_only (suc n) l rs β = follow_only β (label_taken l rs β).1 _ (label_only l rs β) (labels_only n (l + 1) (label_taken l rs β).0 (label_taken l rs β).1)

-- ---- outputs and scopes

module _ (vs : Vars) where
  pub carried_kept : (x : ℕ) (es : List Entered) (c : ClosedRefs) (v : ℕ) (τ : Stores) → Kept τ.cells (carried_in vs x es c v τ).cells
  carried_kept x es c v τ = at (slice_get vs x) refl
    where
      at : (o : Option Var) → slice_get vs x ≡ o → Kept τ.cells (carried_in vs x es c v τ).cells
      at None e = rw e (λ k d is. is)
      at (Some w) e = rw e (λ k d is. (carrying_keeps w es c v τ).cells.kept k (there τ.cells k d is) refl ∙ is)

  pub outputs_kept : (os : List ClosedOutput) (τ : Stores) → Kept τ.cells (outputs_taken vs os τ).cells
  outputs_kept [] τ = λ k d is. is
  outputs_kept (o ∷ os) τ = λ k d is. outputs_kept os (carried_in vs o.var [] o.closed o.first τ) k d (carried_kept o.var [] o.closed o.first τ k d is)

  module _ (es : List EnteredCopy) (ds : List DepthCopy) where
    pub depth_kept : (bs : List DepthCopy) (τ : Stores) → Kept τ.cells (depth_taken vs es bs τ).cells
    depth_kept [] τ = λ k d is. is
    depth_kept (b ∷ bs) τ = λ k d is. depth_kept bs (carried_in vs b.var (entered_at b.first es) b.closed b.first τ) k d (carried_kept b.var (entered_at b.first es) b.closed b.first τ k d is)

    pub scope_kept : (n v : ℕ) (τ : Stores) → Kept τ.cells (scope_taken vs es ds n v τ).cells
    scope_kept zero v τ = λ k d is. is
    scope_kept (suc n) v τ = depth_kept (depths_at v ds) τ

    mutual
      pub scopes_kept : (t : Term) (v : ℕ) (τ : Stores) → Kept τ.cells (scopes_taken vs es ds v t τ).cells
      scopes_kept nothing v τ = λ k d is. is
      scopes_kept pause v τ = λ k d is. is
      scopes_kept (write x i e d p q) v τ = λ k d is. is
      scopes_kept (choose c a b) v τ = λ k d is. scopes_kept b (v + registers vs a) (scopes_taken vs es ds v a τ) k d (scopes_kept a v τ k d is)
      scopes_kept (seq ts) v τ = all_scopes_kept ts v τ
      scopes_kept (par ts) v τ = all_scopes_kept ts v τ
      scopes_kept (loop t c) v τ = scopes_kept t v τ
      scopes_kept (abort w i t c) v τ = scopes_kept t v τ
      scopes_kept (suspend w i t c) v τ = scopes_kept t v τ
      scopes_kept (scope x s t) v τ =
          let n = scope_registers vs (labels t) x in
          λ k d is. scopes_kept t (v + n) (scope_taken vs es ds n v τ) k d (scope_kept n v τ k d is)

      pub all_scopes_kept : (ts : Terms) (v : ℕ) (τ : Stores) → Kept τ.cells (all_scopes_taken vs es ds v ts τ).cells
      all_scopes_kept none v τ = λ k d is. is
      all_scopes_kept (part t ts) v τ = λ k d is. all_scopes_kept ts (v + registers vs t) (scopes_taken vs es ds v t τ) k d (scopes_kept t v τ k d is)

  -- the cells behind the closed outputs stay as they are, and the monitors are theirs
  pub compiled_kept : (t : Term) → Kept (ended vs (beginning vs).outputs (first_output t) (body_built vs t)).built.cells (compiled vs t).cells
  compiled_kept t =
      let e = ended vs (beginning vs).outputs (first_output t) (body_built vs t) in
      let l = labels_taken first_label (labels t) (first_registers vs t) e.built in
      let o = outputs_taken vs e.outputs (registers_and_cells l.0 l.1) in
      λ k d is. scopes_kept l.1.entered l.1.depths t (first_scope vs t) o k d (outputs_kept e.outputs (registers_and_cells l.0 l.1) k d ((labels_only (labels t) first_label (first_registers vs t) e.built).cells k d is))

  pub compiled_monitors : (t : Term) → (compiled vs t).monitors ≡ (ended vs (beginning vs).outputs (first_output t) (body_built vs t)).built.monitors
  compiled_monitors t = (labels_only (labels t) first_label (first_registers vs t) (ended vs (beginning vs).outputs (first_output t) (body_built vs t)).built).monitors
