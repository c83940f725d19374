-- The registers of the next step lie in their ranges.
use Rattle.std.proofs.Common.{◌≡◌, inl, inr, ℕ, zero, suc, ◌+◌, ◌≤◌, ◌<◌, ℤ, pos, List, [], ◌∷◌, ◌++◌, length, refl, sym, ap, ap₂, ◌∙◌, subst, arith}
use Rattle.std.specs.Prelude.{replicate, slice_get}
use Rattle.quartz_expr.specs.declared.act.Act.{Act}
use Rattle.quartz_expr.specs.Vars.{Vars, count_of}
use Rattle.quartz_expr.specs.Typed.{AllLie}
use Rattle.quartz_expr.specs.Intervals.{range_of}
use Rattle.quartz_expr.specs.Terms.{Term}
use Rattle.quartz_expr.specs.Steps.{State, environment, outputs_of}
use Rattle.aif_cells.specs.declared.reference.Ref.TheVariants as ref
use Rattle.aif_cells.specs.declared.cells.Register.{Register}
use Rattle.aif_cells.specs.Solution.{IsSolution}
use Rattle.aif_cells.specs.Worth.{Assignment, read}
use Rattle.absence_reaction.specs.declared.copy.Shape.{Shape}
use Rattle.absence_reaction.specs.Closing.{one_if}
use Rattle.quartz_tree.specs.Storage.{is_memorized}
use Rattle.reincarnation.specs.Carrying.{Stores}
use Rattle.statement_cells.specs.Labels.{labels, registers, shape_in}
use Rattle.statement_cells.specs.Builder.{Builder, DepthCopy, one_ref, zero_ref}
use Rattle.statement_cells.specs.Stands.{Registers}
use Rattle.statement_cells.specs.Surface.{surface}
use Rattle.statement_cells.specs.Walk.{CopyLies, DepthsLie, EnteredLie, Holds, acted, takes_copy}
use Rattle.statement_cells.specs.Whole.{ClosedOutput, Ended, beginning, body_built, carried_in, element_registers, ended, first_copies, first_label, first_output, first_registers, first_scope, labels_taken, nothing_built, output_registers, outputs_registers, outputs_taken, register_of, registers_and_cells, repeated, scopes_taken, variable_registers}
use Rattle.statement_cells.specs.Meaning.{IsSoundModule, IsStep, StandsFor, next_of, next_registers, outputs_in}
use Rattle.statement_cells.proofs.CarryLemmas.{AllLess, carried_holds, holds_agree, length_carried, outputs_others}
use Rattle.statement_cells.proofs.DepthLemmas.{depth_grown}
use Rattle.statement_cells.proofs.EndLemmas.{AllEnd, AllSay, recorded_inactive}
use Rattle.statement_cells.proofs.LabelLemmas.{labels_others}
use Rattle.statement_cells.proofs.LiesLemmas.{ActsLie, pendings_lie, react_acts}
use Rattle.statement_cells.proofs.NextLemmas.{begun_entered, count_registers, ended_only, outputs_less, solves_behind, the_end}
use Rattle.statement_cells.proofs.PlacedLemmas.{AllAt, surface_placed}
use Rattle.statement_cells.proofs.ScopeBelowLemmas.{scopes_below}
use Rattle.statement_cells.proofs.ScopeEnvLemmas.{length_map}
use Rattle.statement_cells.proofs.ScopeHoldLemmas.{AllD, depths_in}
use Rattle.statement_cells.proofs.ScopeTakesLemmas.{copy_in}
use Rattle.statement_cells.proofs.StartLemmas.{outputs_start}
use Rattle.statement_cells.proofs.WholeLemmas.{labels_only, outputs_kept}
use Rattle.macro_steps.specs.Ranges.{OutputsLie, RegistersLie}
use Rattle.macro_steps.proofs.CarryRangeLemmas.{copy_held, taken_lies, zero_scopes}
use Rattle.macro_steps.proofs.OpenLemmas.{IsOpen, Opened, opened, scopes_recorded}
use Rattle.macro_steps.proofs.StoreLemmas.{OutputsIn, outputs_resolved}
use Rattle.macro_steps.proofs.WantedLemmas.{At', body_kept}

-- ---- registers that weren't told yet take 0

abbrev pub ZeroNexts : List Register → Type 0
ZeroNexts [] = Unit {0}
ZeroNexts (x ∷ rs) = (x.next ≡ zero_ref) × ZeroNexts rs

pub zero_both : (a b : List Register) → ZeroNexts a → ZeroNexts b → ZeroNexts (a ++ b)
zero_both [] b g h = h
zero_both (x ∷ a) b g h = (g.0, zero_both a b g.1 h)

pub zero_replicate : (n : ℕ) (z : ℤ) → ZeroNexts (replicate n (register_of z))
zero_replicate zero z = tt
zero_replicate (suc n) z = (refl, zero_replicate n z)

pub zero_repeated : (n : ℕ) (rs : List Register) → ZeroNexts rs → ZeroNexts (repeated n rs)
zero_repeated zero rs h = tt
zero_repeated (suc n) rs h = zero_both rs (repeated n rs) h (zero_repeated n rs h)

pub zero_outputs : (vs : Vars) (xs : List ℕ) → ZeroNexts (outputs_registers vs xs)
zero_outputs vs [] = tt
zero_outputs vs (x ∷ xs) =
    let s : Shape = shape_in vs x in
    zero_both (repeated (count_of vs x) (element_registers s)) (outputs_registers vs xs)
    (zero_repeated (count_of vs x) (element_registers s) (zero_both (replicate (one_if (is_memorized s.storage)) (register_of s.start)) (replicate (one_if s.delayed + one_if s.delayed) (register_of (pos 0))) (zero_replicate (one_if (is_memorized s.storage)) s.start) (zero_replicate (one_if s.delayed + one_if s.delayed) (pos 0))))
    (zero_outputs vs xs)

pub zero_first : (vs : Vars) (t : Term) → ZeroNexts (first_registers vs t)
zero_first vs t = (refl, zero_both (replicate (labels t) (register_of (pos 0))) _ (zero_replicate (labels t) (pos 0)) (zero_both (outputs_registers vs (outputs_of vs)) (replicate (registers vs t) (register_of (pos 0))) (zero_outputs vs (outputs_of vs)) (zero_replicate (registers vs t) (pos 0))))

pub zero_next : (σ : Assignment) (rs : List Register) (r : ℕ) → ZeroNexts rs → next_of σ (slice_get rs r) ≡ pos 0
zero_next σ [] r h = refl
zero_next σ (x ∷ rs) zero h = ap (read σ) h.0
zero_next σ (x ∷ rs) (suc r) h = zero_next σ rs r h.1

-- ---- the registers of outputs

module _ (vs : Vars) (σ : Assignment) where
  outputs_lie : (xs : List ℕ) (v : ℕ) (ws : List Act) (os : List ClosedOutput) (zs : List (List ℤ)) (τ : Stores) (k : Registers) → AllSay vs σ xs v ws os zs → AllLess vs σ xs
      → OutputsIn vs xs zs → ActsLie vs ws → v + output_registers vs xs ≤ length τ.registers → IsSolution σ (outputs_taken vs os τ).cells
      → ((r : ℕ) → v ≤ r → r < v + output_registers vs xs → k r ≡ next_registers σ (outputs_taken vs os τ).registers r) → OutputsLie vs xs v k
  outputs_lie [] v ws [] [] τ k say less h g room sol agree = tt
  outputs_lie (x ∷ xs) v ws (o ∷ os) (z ∷ zs) τ k say less h g room sol agree =
      let n : ℕ = variable_registers vs x in
      let υ : Stores = carried_in vs o.var [] o.closed o.first τ in
      let here : υ ≡ carried_in vs x [] o.closed v τ = ap₂ (λ y u. carried_in vs y [] o.closed u τ) say.0 say.1 in
      let size : length υ.registers ≡ length τ.registers = length_carried vs σ o.var [] o.closed o.first τ in
      let solved : IsSolution σ (carried_in vs x [] o.closed v τ).cells = subst (λ (m : Stores). IsSolution σ m.cells) here (λ q d is b. sol q d (outputs_kept vs os υ q d is) b) in
      let own : Holds (takes_copy vs σ x v o.closed) k = holds_agree v n (takes_copy vs σ x v o.closed) k (next_registers σ (carried_in vs x [] o.closed v τ).registers) (copy_in vs σ x v o.closed)
      (λ r a b. agree r a (omega (arith, b)) ∙ ap (next_of σ) (outputs_others vs σ xs (v + n) ws os zs υ r say.3 (inl b) ∙ ap (λ (m : Stores). slice_get m.registers r) here))
      (carried_holds vs σ x [] o.closed v τ less.0 (omega (arith, room)) solved) in
      let lies : CopyLies vs σ x o.closed =
      (subst (AllLie (range_of vs x)) (sym say.2.values) h.0, subst (AllLie (range_of vs x)) (sym say.2.pending) (pendings_lie vs x ws 0 z g)) in
      (copy_held vs σ x v o.closed k lies own, outputs_lie xs (v + n) ws os zs υ k say.3 less.1 h.1 g (omega (arith, room, size)) sol (λ r a b. agree r (omega (arith, a)) (omega (arith, b))))
  outputs_lie [] v ws (o ∷ os) zs τ k say less h g room sol agree = absurd say
  outputs_lie [] v ws [] (z ∷ zs) τ k say less h g room sol agree = absurd say
  outputs_lie (x ∷ xs) v ws [] zs τ k say less h g room sol agree = absurd say
  outputs_lie (x ∷ xs) v ws (o ∷ os) [] τ k say less h g room sol agree = absurd say

-- ---- a whole step

module _ (vs : Vars) (t : Term) (s : State) (ins : List (List ℤ)) (σ : Assignment) (sound : IsSoundModule vs t) (stands : StandsFor vs t σ.registers s) (step : IsStep vs t ins σ) where
  -- a step is open
  pub step_opens : IsOpen vs t ins σ
  step_opens = record {
    inputs = step.inputs;
    has = step.has;
    met = λ k c is b. step.solution k c is refl;
    ranges = step.ranges;
    inactive = recorded_inactive σ (length (beginning vs).built.cells) (body_built vs t).cells (body_built vs t).scopes (λ k c le is. step.solution k c (body_kept vs t k c le is) refl) (scopes_recorded vs t sound σ);
  }

  abbrev finish : Ended
  finish = ended vs (beginning vs).outputs (first_output t) (body_built vs t)

  abbrev labelled : List Register × Builder
  labelled = labels_taken first_label (labels t) (first_registers vs t) finish.built

  abbrev before : Stores
  before = registers_and_cells labelled.0 labelled.1

  abbrev behind : Stores
  behind = outputs_taken vs finish.outputs before

  abbrev final : Stores
  final = scopes_taken vs labelled.1.entered labelled.1.depths (first_scope vs t) t behind

  the_says : AllEnd vs σ (outputs_of vs) (first_copies vs 0) nothing_built (first_output t) (body_built vs t) s.stores
  the_says = the_end vs t s ins σ sound stands step

  size_before : length labelled.0 ≡ 1 + (labels t + (output_registers vs (outputs_of vs) + registers vs t))
  size_before = count_registers vs t s ins σ sound stands step

  -- the registers of scopes take 0 before they are told what they take
  scopes_zero : (r : ℕ) → first_scope vs t ≤ r → next_registers σ behind.registers r ≡ pos 0
  scopes_zero r le =
      ap (next_of σ) (outputs_others vs σ (outputs_of vs) (first_output t) _ finish.outputs _ before r the_says.says (inr (omega (arith, le))) ∙ labels_others (labels t) first_label (first_registers vs t) finish.built r (inr (omega (arith, le))))
      ∙ zero_next σ (first_registers vs t) r (zero_first vs t)

  body_entered : AllAt vs (At' vs t) (body_built vs t).entered
  body_entered =
      let v : ℕ = first_scope vs t in
      let a = surface vs (beginning vs).copies first_label v t (ref.Reg 0) one_ref (beginning vs).built in
      let start = surface_placed vs (At' vs t) t (beginning vs).copies first_label v (ref.Reg 0) one_ref (beginning vs).built (λ x u h. h) in
      let goes = depth_grown vs (At' vs t) t (beginning vs).copies first_label v one_ref one_ref zero_ref a.built (λ x u h. h) in
      goes.entered (start.entered (subst (AllAt vs (At' vs t)) (sym (begun_entered vs (outputs_of vs) (first_copies vs 0) nothing_built).0) tt))

  body_depths : AllD vs σ (At' vs t) (body_built vs t).depths
  body_depths =
      let v : ℕ = first_scope vs t in
      let a = surface vs (beginning vs).copies first_label v t (ref.Reg 0) one_ref (beginning vs).built in
      let start = surface_placed vs (At' vs t) t (beginning vs).copies first_label v (ref.Reg 0) one_ref (beginning vs).built (λ x u h. h) in
      let goes = depth_grown vs (At' vs t) t (beginning vs).copies first_label v one_ref one_ref zero_ref a.built (λ x u h. h) in
      let none = (begun_entered vs (outputs_of vs) (first_copies vs 0) nothing_built).1 in
      subst (AllD vs σ (At' vs t)) (sym (goes.depths ∙ ap (λ (l : List DepthCopy). l ++ goes.more) (start.depths ∙ none))) (depths_in vs σ t v goes.more goes.of)

  module _ (lie : RegistersLie vs t σ.registers) where
    opened_here : Opened vs t sound ins σ step_opens s
    opened_here = opened vs t sound ins σ step_opens s stands

    acts_lie : ActsLie vs (acted vs σ (body_built vs t).writes)
    acts_lie = subst (ActsLie vs) opened_here.same_acts (react_acts vs (environment vs ins (outputs_in σ (beginning vs).outputs)) opened_here.term opened_here.said opened_here.says)

    -- the next registers lie in their ranges
    pub next_lie : RegistersLie vs t (next_registers σ final.registers)
    next_lie =
        let o = labels_only (labels t) first_label (first_registers vs t) finish.built in
        let e = ended_only vs (beginning vs).outputs (first_output t) (body_built vs t) in
        let es : labelled.1.entered ≡ (body_built vs t).entered = o.entered ∙ e.2 in
        let ds : labelled.1.depths ≡ (body_built vs t).depths = o.depths ∙ e.3 in
        let size : length behind.registers ≡ length labelled.0 = sym (length_map (λ x. x.initial) behind.registers) ∙ ap length (outputs_start vs finish.outputs before) ∙ length_map (λ x. x.initial) labelled.0 in
        let outs : OutputsIn vs (outputs_of vs) (outputs_in σ (beginning vs).outputs) =
        subst (OutputsIn vs (outputs_of vs)) (sym the_says.values) (outputs_resolved vs (outputs_of vs) (first_output t) σ.registers (acted vs σ (body_built vs t).writes) s.stores stands.stores lie.outputs acts_lie) in
        record {
          outputs = outputs_lie vs σ (outputs_of vs) (first_output t) (acted vs σ (body_built vs t).writes) finish.outputs (outputs_in σ (beginning vs).outputs) before (next_registers σ final.registers) the_says.says
              (outputs_less vs σ vs 0 (omega arith)) outs acts_lie (omega (arith, size_before)) (solves_behind vs t s ins σ sound stands step)
              (λ r g l. ap (next_of σ) (scopes_below vs σ labelled.1.entered labelled.1.depths t (first_scope vs t) behind r l));
          scopes = taken_lies vs σ t (first_scope vs t) labelled.1.entered (subst (AllAt vs (At' vs t)) (sym es) body_entered) (subst (EnteredLie vs σ) (sym es) opened_here.settled.1)
              labelled.1.depths (subst (AllD vs σ (At' vs t)) (sym ds) body_depths) (subst (DepthsLie vs σ) (sym ds) opened_here.settled.2)
              t (first_scope vs t) behind (omega (arith, size, size_before)) step.solution (zero_scopes vs σ t (first_scope vs t) (next_registers σ behind.registers) scopes_zero);
        }
