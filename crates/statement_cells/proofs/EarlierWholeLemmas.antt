-- The body of a module in order: outputs' value cells are reserved, the body is built, and the outputs are closed.
use Rattle.std.proofs.Common.{◌≡◌, ◌∙◌, ℕ, zero, suc, ◌+◌, ◌≤◌, ◌<◌, ℤ, pos, true, false, List, [], ◌∷◌, length, map, All, refl, sym, ap, arith}
use Rattle.std.specs.Prelude.{Some, replicate, slice_get, slice_set}
use Rattle.std.proofs.lemmas.List.Elements.{All-cons, All-nil}
use Rattle.quartz_tree.specs.declared.declare.Flow.{Flow}
use Rattle.quartz_tree.specs.declared.declare.Flow.TheVariants.{Input, Output, Inner}
use Rattle.quartz_expr.specs.Vars.{Vars, count_of}
use Rattle.quartz_expr.specs.Steps.{outputs_of}
use Rattle.quartz_expr.specs.Terms.{Term}
use Rattle.aif_cells.specs.declared.reference.Ref.TheVariants as ref
use Rattle.aif_cells.specs.declared.cells.Monitor.{Monitor}
use Rattle.aif_cells.specs.Aif.{elements_of}
use Rattle.aif_cells.specs.Built.{Defined}
use Rattle.absence_reaction.specs.declared.copy.VarCopy.{VarCopy}
use Rattle.absence_reaction.specs.Closing.{closed_copy}
use Rattle.absence_reaction.specs.Earlier.{ActionIsBelow, IsBelow}
use Rattle.absence_reaction.specs.Meaning.{AreDistinctBelow, is_among}
use Rattle.reincarnation.specs.Entering.{numbers_from}
use Rattle.reincarnation.specs.Meaning.{ClosedIsBelow, EnteredIsBelow}
use Rattle.statement_cells.specs.Labels.{shape_in}
use Rattle.statement_cells.specs.Expressions.{Copies, Current}
use Rattle.statement_cells.specs.Builder.{Builder, DepthCopy, EnteredCopy, Entry, built_of, closed_refs, new_cells, reserve, writes_to}
use Rattle.statement_cells.specs.Walk.{cells_of}
use Rattle.statement_cells.specs.Whole.{Begun, ClosedOutput, Ended, OutputCopy, after_flow, beginning, begun, body_built, closed_output, ended, first_copies, first_copy, first_label, first_scope, nothing_built, variable_registers}
use Rattle.statement_cells.specs.Earlier.{IsOrdered, ScopeIsBelow}
use Rattle.statement_cells.proofs.ScopeGrowLemmas.{cells_both, reserve_longer}
use Rattle.statement_cells.proofs.ScopeCopyLemmas.{distinct_numbers}
use Rattle.statement_cells.proofs.EarlierTreeLemmas.{CopiesBelow}
use Rattle.statement_cells.proofs.EarlierLemmas.{CopiesHeld, Later, follows, literal_held, register_held, same, up_copies}
use Rattle.statement_cells.proofs.EarlierMoreLemmas.{closed_more}
use Rattle.statement_cells.proofs.EarlierCloseLemmas.{CanClose, closed_goes, closed_refs_below, written_below}
use Rattle.statement_cells.proofs.EarlierScopeLemmas.{among_new, reserve_goes, row_below, set_below}
use Rattle.statement_cells.proofs.EarlierSurfaceLemmas.{surface_goes}
use Rattle.statement_cells.proofs.EarlierDepthLemmas.{depth_goes}
use Rattle.quartz_expr.proofs.TruthLemmas.{or_left}

-- ---- the copies at the start

module _ (n : ℕ) where
  -- inputs name no cell
  inputs_below : (ks : List ℕ) → All (IsBelow n) (map ref.Input ks)
  inputs_below [] = All-nil (IsBelow n)
  inputs_below (k ∷ ks) = All-cons (IsBelow n) (ref.Input k) (map ref.Input ks) (All-nil (λ d. d < n)) (inputs_below ks)

  -- literals name no cell
  literals_below : (k : ℕ) (z : ℤ) → All (IsBelow n) (replicate k (ref.Lit z))
  literals_below zero z = All-nil (IsBelow n)
  literals_below (suc k) z = All-cons (IsBelow n) (ref.Lit z) (replicate k (ref.Lit z)) (All-nil (λ d. d < n)) (literals_below k z)

  -- neither does a copy at the start
  first_below : (f : Flow) (z : ℤ) (i k : ℕ) → All (IsBelow n) (first_copy f z i k).values
  first_below Input z i k = inputs_below (numbers_from i k)
  first_below Output z i k = All-nil (IsBelow n)
  first_below Inner z i k = literals_below k z

  -- they name no cell
  firsts_below : (vs : Vars) (i : ℕ) → CopiesBelow n (first_copies vs i)
  firsts_below [] i = All-nil (λ (c : Current). All (IsBelow n) c.values)
  firsts_below (v ∷ vs) i =
      All-cons (λ (c : Current). All (IsBelow n) c.values) (first_copy v.decl.flow v.start i (elements_of v)) (first_copies vs (after_flow v.decl.flow i (elements_of v)))
      (first_below v.decl.flow v.start i (elements_of v)) (firsts_below vs (after_flow v.decl.flow i (elements_of v)))

-- where nothing is built, all is in order
nothing_ordered : IsOrdered nothing_built
nothing_ordered = record {
  before = λ k d e dep. absurd (none_there k dep.1);
  there = record {
    named = λ k d dep. absurd (none_there k dep.1);
    monitors = All-nil (λ (m : Monitor). m.cell < 0);
    actions = All-nil (ActionIsBelow 0);
    writes = All-nil (ActionIsBelow 0);
    entries = All-nil (λ (e : Entry). IsBelow 0 e.under);
    stays = All-nil (λ (e : Entry). IsBelow 0 e.under);
    scopes = All-nil (ScopeIsBelow 0);
    entered = All-nil (λ (e : EnteredCopy). EnteredIsBelow 0 e.entered);
    depths = All-nil (λ (d : DepthCopy). ClosedIsBelow 0 d.closed);
  };
}
  where
    none_there : (k : ℕ) {c : Defined} → slice_get [] k ≡ Some c → ⊥
    none_there k e = absurd (cc)

-- ---- the outputs' value cells

-- an output's value cells are different reserved cells
record OutputHeld (β : Builder) (o : OutputCopy) : Type 0 where
  distinct : AreDistinctBelow (length β.cells) o.cells
  reserved : (k : ℕ) → is_among k (cells_of β.reserved) ≡ false → is_among k o.cells ≡ false

-- so it is for all outputs
abbrev OutputsHeld : Builder → List OutputCopy → Type 0
OutputsHeld β [] = Unit {0}
OutputsHeld β (o ∷ os) = OutputHeld β o × OutputsHeld β os

-- what is among so many is among more
distinct_more : (n m : ℕ) (ks : List ℕ) → n ≤ m → AreDistinctBelow n ks → AreDistinctBelow m ks
distinct_more n m [] le h = tt
distinct_more n m (k ∷ ks) le h = (omega (arith, h.0, le), h.1, distinct_more n m ks le h.2)

-- an output's value cells stay so
up_output : {β γ : Builder} {o : OutputCopy} → Later β γ → OutputHeld β o → OutputHeld γ o
up_output {β = β} {γ = γ} {o = o} g h = record {
  distinct = distinct_more (length β.cells) (length γ.cells) o.cells g.longer h.distinct;
  reserved = λ k e. h.reserved k (or_left (is_among k (cells_of β.reserved)) (is_among k (cells_of g.more)) (sym (cells_both β.reserved g.more k) ∙ (sym (ap (λ r. is_among k (cells_of r)) g.reserved) ∙ e)));
}

-- and so do those of all outputs
up_outputs : (os : List OutputCopy) {β γ : Builder} → Later β γ → OutputsHeld β os → OutputsHeld γ os
up_outputs [] g h = tt
up_outputs (o ∷ os) g h = (up_output g h.0, up_outputs os g h.1)

-- from a builder in order comes another one with current copies and outputs
record GoesBegun (before : Builder) (m : Begun) : Type 0 where
  later : Later before m.built
  built : IsOrdered m.built
  copies : CopiesHeld m.built m.copies
  outputs : OutputsHeld m.built m.outputs

-- the outputs' value cells are reserved in order
begun_goes : (vs : Vars) (xs : List ℕ) (κ : Copies) (β : Builder) → IsOrdered β → CopiesHeld β κ → GoesBegun β (begun vs xs κ β)
begun_goes vs [] κ β w ks = record { later = same β; built = w; copies = ks; outputs = tt }
begun_goes vs (x ∷ xs) κ β w ks =
    let r = reserve_goes vs x true β w in
    let m : ℕ = length (reserve vs x true β).cells in
    let its : Current = record { copy = 0; values = map ref.Cell (new_cells vs x β) } in
    let held : CopiesHeld (reserve vs x true β) (slice_set κ x its) = record {
      below = set_below m κ x its (row_below m (length β.cells) (count_of vs x) (omega (arith, reserve_longer vs x true β))) (up_copies r.later ks).below;
    } in
    let more = begun_goes vs xs (slice_set κ x its) (reserve vs x true β) r.built held in
    let own : OutputHeld (reserve vs x true β) (record { var = x; cells = new_cells vs x β }) = record {
      distinct = distinct_numbers vs x m (length β.cells) (count_of vs x) (omega (arith, reserve_longer vs x true β));
      reserved = among_new vs x true β;
    } in
    record { later = follows r.later more.later; built = more.built; copies = more.copies; outputs = (up_output more.later own, more.outputs) }

-- ---- the body

-- the body is built in order, and the outputs can be closed
record BodyGoes (vs : Vars) (t : Term) : Type 0 where
  built : IsOrdered (body_built vs t)
  outputs : OutputsHeld (body_built vs t) (beginning vs).outputs

-- the surface and the depth of the body are built in order
body_goes : (vs : Vars) (t : Term) → BodyGoes vs t
body_goes vs t =
    let b = begun_goes vs (outputs_of vs) (first_copies vs 0) nothing_built nothing_ordered (record { below = firsts_below 0 vs 0 }) in
    let s = surface_goes vs t first_label (first_scope vs t) b.built b.copies (register_held 0) (literal_held (pos 1)) in
    let d = depth_goes vs t first_label (first_scope vs t) s.built (up_copies s.later b.copies) (literal_held (pos 1)) (literal_held (pos 1)) (literal_held (pos 0)) in
    record { built = d.built; outputs = up_outputs (beginning vs).outputs (follows s.later d.later) b.outputs }

-- so is the body
pub body_ordered : (vs : Vars) (t : Term) → IsOrdered (body_built vs t)
body_ordered vs t = (body_goes vs t).built

-- ---- closing the outputs

-- from a builder in order comes another one with the same value cells, and what outputs are closed with is there
pub record GoesEnded (before : Builder) (m : Ended) : Type 0 where
  pub later : Later before m.built
  pub built : IsOrdered m.built
  pub reserved : m.built.reserved ≡ before.reserved
  pub outputs : All (λ o. ClosedIsBelow (length m.built.cells) o.closed) m.outputs

-- outputs are closed in order
ended_goes : (vs : Vars) (os : List OutputCopy) (v : ℕ) (β : Builder) → IsOrdered β → OutputsHeld β os → GoesEnded β (ended vs os v β)
ended_goes vs [] v β w h = record { later = same β; built = w; reserved = refl; outputs = All-nil (λ (o : ClosedOutput). ClosedIsBelow (length β.cells) o.closed) }
ended_goes vs (o ∷ os) v β w h =
    let c : VarCopy = record { var = o.var; copy = 0; stored = true; first = v; values = o.cells; now = writes_to o.var false β.writes; next = writes_to o.var true β.writes } in
    let can : CanClose c β = record {
      names = record {
        now = written_below o.var (length β.cells) false β.writes w.there.writes;
        next = written_below o.var (length β.cells) true β.writes w.there.writes;
        reserved = h.0.distinct;
      };
      reserved = h.0.reserved;
    } in
    let one = closed_goes (shape_in vs o.var) c β w can in
    let its = closed_refs_below (shape_in vs o.var) c β w can in
    let γ : Builder = (closed_output vs o v β).built in
    let more = ended_goes vs os (v + variable_registers vs o.var) γ one.built (up_outputs os one.later h.1) in
    let e : Ended = ended vs os (v + variable_registers vs o.var) γ in
    let closed : ClosedOutput = record { var = o.var; first = v; closed = closed_refs (closed_copy (shape_in vs o.var) c (built_of β)) } in
    record {
      later = follows one.later more.later;
      built = more.built;
      reserved = more.reserved;
      outputs = All-cons (λ (o : ClosedOutput). ClosedIsBelow (length e.built.cells) o.closed) closed e.outputs (closed_more (length γ.cells) (length e.built.cells) more.later.longer closed.closed its) more.outputs;
    }

-- the outputs of the body are closed in order
pub outputs_end : (vs : Vars) (t : Term) (v : ℕ) → GoesEnded (body_built vs t) (ended vs (beginning vs).outputs v (body_built vs t))
outputs_end vs t v =
    let b = body_goes vs t in
    ended_goes vs (beginning vs).outputs v (body_built vs t) b.built b.outputs
