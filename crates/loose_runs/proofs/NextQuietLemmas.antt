-- Without delayed actions of a variable no flag of it is set: at the start, and behind each step.
use Rattle.std.proofs.Common.{◌≡◌, inl, inr, ℕ, zero, suc, ◌+◌, ◌≤◌, ◌<◌, ◌&&◌, ℤ, pos, Bool, true, false, List, [], ◌∷◌, ◌++◌, length, map, None, refl, sym, ap, ◌∙◌, subst, arith}
use Rattle.std.specs.Prelude.{replicate}
use Rattle.quartz_tree.specs.Kernel.{Kernel}
use Rattle.quartz_tree.specs.declared.declare.Storage.{Storage}
use Rattle.quartz_tree.specs.declared.declare.Storage.TheVariants.{Mem, Event}
use Rattle.quartz_expr.specs.declared.act.Kept.{Kept}
use Rattle.quartz_expr.specs.Vars.{Vars, count_of, start_of, storage_of}
use Rattle.quartz_expr.specs.Terms.{Term, term_of}
use Rattle.quartz_expr.specs.Resolve.{fresh_store}
use Rattle.quartz_expr.specs.Steps.{State, outputs_of}
use Rattle.aif_cells.specs.declared.reference.Ref.TheVariants as ref
use Rattle.aif_cells.specs.declared.cells.Register.{Register}
use Rattle.aif_cells.specs.Worth.{Assignment, holds}
use Rattle.absence_reaction.specs.declared.copy.Shape.{Shape}
use Rattle.absence_reaction.specs.Closing.{flag_of, pending_of}
use Rattle.reincarnation.specs.Carrying.{Stores}
use Rattle.statement_cells.specs.Labels.{is_delayed, labels, registers, shape_in}
use Rattle.statement_cells.specs.Builder.{Builder, DepthCopy, one_ref, zero_ref}
use Rattle.statement_cells.specs.Stands.{Registers, kept_from, plain_kept, some_if}
use Rattle.statement_cells.specs.Surface.{surface}
use Rattle.statement_cells.specs.Whole.{Ended, beginning, body_built, compiled, ended, first_copies, first_label, first_output, first_registers, first_scope, labels_taken, nothing_built, output_registers, outputs_taken, registers_and_cells, scopes_taken, variable_registers}
use Rattle.statement_cells.specs.Meaning.{IsSoundModule, IsStep, StandsFor, initial_registers, next_of, next_registers, plain_stores, stores_of}
use Rattle.statement_cells.proofs.CarryLemmas.{outputs_others}
use Rattle.statement_cells.proofs.DepthLemmas.{depth_grown}
use Rattle.statement_cells.proofs.EndLemmas.{AllEnd}
use Rattle.statement_cells.proofs.LabelLemmas.{labels_others}
use Rattle.statement_cells.proofs.NextLemmas.{begun_entered, count_registers, ended_only, outputs_less, solves_behind, the_end}
use Rattle.statement_cells.proofs.PlacedLemmas.{AllAt, At, surface_placed}
use Rattle.statement_cells.proofs.ScopeBelowLemmas.{scopes_below}
use Rattle.statement_cells.proofs.ScopeEnvLemmas.{length_map}
use Rattle.statement_cells.proofs.ScopeHoldLemmas.{AllD, depths_in, inside}
use Rattle.statement_cells.proofs.StartLemmas.{compiled_starts, initial_registers_stand, outputs_start, same_starts}
use Rattle.statement_cells.proofs.WholeLemmas.{labels_only}
use Rattle.loose_runs.proofs.AddLemmas.{DepthsFree, EnteredFree, OutAt}
use Rattle.loose_runs.proofs.EndAddLemmas.{quiet_depths, quiet_entered, quiet_outputs}
use Rattle.loose_runs.proofs.LooseLemmas.{QuietRegisters}
use Rattle.loose_runs.proofs.QuietLemmas.{NoFlag, outputs_free, taken_free}
use Rattle.macro_steps.proofs.NextRangeLemmas.{zero_first, zero_next}
use Rattle.macro_steps.proofs.SoundLemmas.{scopes_start_zero}
use Rattle.quartz_expr.proofs.TruthLemmas.{heads}

-- registers that are 0 are no flags
zero_free : (vs : Vars) (x v : ℕ) (k : Registers) → ((r : ℕ) → v ≤ r → k r ≡ pos 0) → NoFlag vs x v k
zero_free vs x v k h j l e = ap holds (h (flag_of (shape_in vs x) v j) (omega arith))

-- ---- where copies with registers stand

module _ (vs : Vars) (t : Term) where
  abbrev pub Here : ℕ → ℕ → Type 0
  Here = At vs (first_scope vs t) t

  pub entered_here : AllAt vs Here (body_built vs t).entered
  entered_here =
      let v : ℕ = first_scope vs t in
      let a = surface vs (beginning vs).copies first_label v t (ref.Reg 0) one_ref (beginning vs).built in
      let start = surface_placed vs Here t (beginning vs).copies first_label v (ref.Reg 0) one_ref (beginning vs).built (λ x u h. h) in
      let goes = depth_grown vs Here t (beginning vs).copies first_label v one_ref one_ref zero_ref a.built (λ x u h. h) in
      goes.entered (start.entered (subst (AllAt vs Here) (sym (begun_entered vs (outputs_of vs) (first_copies vs 0) nothing_built).0) tt))

  pub depths_here : (σ : Assignment) → AllD vs σ Here (body_built vs t).depths
  depths_here σ =
      let v : ℕ = first_scope vs t in
      let a = surface vs (beginning vs).copies first_label v t (ref.Reg 0) one_ref (beginning vs).built in
      let start = surface_placed vs Here t (beginning vs).copies first_label v (ref.Reg 0) one_ref (beginning vs).built (λ x u h. h) in
      let goes = depth_grown vs Here t (beginning vs).copies first_label v one_ref one_ref zero_ref a.built (λ x u h. h) in
      let none = (begun_entered vs (outputs_of vs) (first_copies vs 0) nothing_built).1 in
      subst (AllD vs σ Here) (sym (goes.depths ∙ ap (λ (l : List DepthCopy). l ++ goes.more) (start.depths ∙ none))) (depths_in vs σ t v goes.more goes.of)

-- ---- behind a step

module _ (vs : Vars) (t : Term) (s : State) (ins : List (List ℤ)) (σ : Assignment) (sound : IsSoundModule vs t) (stands : StandsFor vs t σ.registers s) (step : IsStep vs t ins σ) where
  abbrev finish : Ended
  finish = ended vs (beginning vs).outputs (first_output t) (body_built vs t)

  abbrev labelled : List Register × Builder
  labelled = labels_taken first_label (labels t) (first_registers vs t) finish.built

  abbrev before : Stores
  before = registers_and_cells labelled.0 labelled.1

  abbrev behind : Stores
  behind = outputs_taken vs finish.outputs before

  abbrev last : Stores
  last = scopes_taken vs labelled.1.entered labelled.1.depths (first_scope vs t) t behind

  the_says : AllEnd vs σ (outputs_of vs) (first_copies vs 0) nothing_built (first_output t) (body_built vs t) s.stores
  the_says = the_end vs t s ins σ sound stands step

  size_before : length labelled.0 ≡ 1 + (labels t + (output_registers vs (outputs_of vs) + registers vs t))
  size_before = count_registers vs t s ins σ sound stands step

  -- the registers of scopes take 0 before they are told what they take
  scopes_zero : (r : ℕ) → first_scope vs t ≤ r → next_registers σ behind.registers r ≡ pos 0
  scopes_zero r le =
      ap (next_of σ) (outputs_others vs σ (outputs_of vs) (first_output t) _ finish.outputs _ before r the_says.says (inr (omega (arith, le))) ∙ labels_others (labels t) first_label (first_registers vs t) finish.built r (inr (omega (arith, le))))
      ∙ zero_next σ (first_registers vs t) r (zero_first vs t)

  pub next_quiet : QuietRegisters vs t (next_registers σ (compiled vs t).registers)
  next_quiet q h =
      let o = labels_only (labels t) first_label (first_registers vs t) finish.built in
      let e = ended_only vs (beginning vs).outputs (first_output t) (body_built vs t) in
      let es : labelled.1.entered ≡ (body_built vs t).entered = o.entered ∙ e.2 in
      let ds : labelled.1.depths ≡ (body_built vs t).depths = o.depths ∙ e.3 in
      let size : length behind.registers ≡ length labelled.0 = sym (length_map (λ x. x.initial) behind.registers) ∙ ap length (outputs_start vs finish.outputs before) ∙ length_map (λ x. x.initial) labelled.0 in
      record {
        outputs = outputs_free vs σ q (outputs_of vs) (first_output t) _ finish.outputs _ before (next_registers σ last.registers) the_says.says
            (outputs_less vs σ vs 0 (omega arith)) (quiet_outputs vs t sound.sound q h) (omega (arith, size_before)) (solves_behind vs t s ins σ sound stands step)
            (λ r g l. ap (next_of σ) (scopes_below vs σ labelled.1.entered labelled.1.depths t (first_scope vs t) behind r l));
        scopes = taken_free vs σ q t (first_scope vs t) labelled.1.entered (subst (AllAt vs (Here vs t)) (sym es) (entered_here vs t)) (subst (EnteredFree q) (sym es) (quiet_entered vs t sound.sound q h))
            labelled.1.depths (subst (AllD vs σ (Here vs t)) (sym ds) (depths_here vs t σ)) (subst (DepthsFree q) (sym ds) (quiet_depths vs t sound.sound q h))
            t (first_scope vs t) behind (omega (arith, size, size_before)) step.solution
            (λ a p. let i = (inside vs σ t (first_scope vs t) q a p).from in zero_free vs q a (next_registers σ behind.registers) (λ r le. scopes_zero r (omega (arith, le, i))));
      }

-- ---- at the start

module _ (vs : Vars) (k : Registers) where
  plain_pending : (st : Storage) (a : Kept) → (plain_kept st a).pending ≡ a.pending
  plain_pending Mem a = refl
  plain_pending Event a = refl

  unset : (d b : Bool) (z : ℤ) → some_if (d && b) z ≡ None → d ≡ true → b ≡ false
  unset true true z e f = absurd (cc)
  unset true false z e f = refl
  unset false b z e f = absurd (cc)

  -- a fresh store has nothing pending
  fresh_free : (x v j n : ℕ) (z : ℤ) → map (plain_kept (storage_of vs x)) (replicate n (record { value = z; pending = None })) ≡ kept_from (shape_in vs x) k v j n
      → (i : ℕ) → i < n → is_delayed vs x ≡ true → holds (k (flag_of (shape_in vs x) v (j + i))) ≡ false
  fresh_free x v j zero z e i l d = absurd (omega (arith, l))
  fresh_free x v j (suc n) z e zero l d =
      let s : Shape = shape_in vs x in
      let a : Kept = record { value = z; pending = None } in
      let same : j ≡ j + zero = omega arith in
      subst (λ q. holds (k (flag_of s v q)) ≡ false) same
      (unset s.delayed (holds (k (flag_of s v j))) (k (pending_of s v j)) (ap (λ (b : Kept). b.pending) (sym (heads _ _ _ _ e).0) ∙ plain_pending (storage_of vs x) a) d)
  fresh_free x v j (suc n) z e (suc i) l d =
      let same : (j + 1) + i ≡ j + suc i = omega arith in
      subst (λ q. holds (k (flag_of (shape_in vs x) v q)) ≡ false) same (fresh_free x v (j + 1) n z (heads _ _ _ _ e).1 i (omega (arith, l)) d)

  outputs_start_free : (xs : List ℕ) (v : ℕ) → plain_stores vs xs (map (fresh_store vs) xs) ≡ stores_of vs xs v k → (q a : ℕ) → OutAt vs xs v q a → NoFlag vs q a k
  outputs_start_free [] v e q a h = absurd h
  outputs_start_free (x ∷ xs) v e q a (inl h) =
      subst (λ y. NoFlag vs y a k) (sym h.0) (subst (λ u. NoFlag vs x u k) (sym h.1)
      (λ j l d. let same : 0 + j ≡ j = omega arith in subst (λ i. holds (k (flag_of (shape_in vs x) v i)) ≡ false) same (fresh_free x v 0 (count_of vs x) (start_of vs x) (heads _ _ _ _ e).0 j l d)))
  outputs_start_free (x ∷ xs) v e q a (inr h) = outputs_start_free xs (v + variable_registers vs x) (heads _ _ _ _ e).1 q a h

pub initial_quiet : (vs : Vars) (body : Kernel) → QuietRegisters vs (term_of body) (initial_registers (compiled vs (term_of body)).registers)
initial_quiet vs body q h =
    let t : Term = term_of body in
    let k : Registers = initial_registers (compiled vs t).registers in
    let σ : Assignment = record { inputs = λ i. pos 0; registers = k; cells = λ i. pos 0 } in
    record {
      outputs = λ a p. outputs_start_free vs k (outputs_of vs) (first_output t) (initial_registers_stand vs body).stores q a p;
      scopes = λ a p.
          let i = (inside vs σ t (first_scope vs t) q a p).from in
          zero_free vs q a k (λ r le. same_starts (compiled vs t).registers (first_registers vs t) (compiled_starts vs t) r ∙ scopes_start_zero vs t r (omega (arith, le, i)));
    }
