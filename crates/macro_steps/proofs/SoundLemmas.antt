-- Solutions are macro steps, and registers go on lying in their ranges.
use Rattle.std.proofs.Common.{◌≡◌, ℕ, zero, suc, ◌+◌, ◌*◌, ◌≤◌, ◌<◌, ℤ, pos, Bool, true, false, List, [], ◌∷◌, ◌++◌, length, refl, sym, ap, ◌∙◌, subst, arith}
use Rattle.std.specs.Prelude.{replicate}
use Rattle.quartz_tree.specs.declared.declare.Storage.{Storage}
use Rattle.quartz_tree.specs.declared.declare.Storage.TheVariants.{Mem, Event}
use Rattle.quartz_expr.specs.Vars.{Vars, count_of, start_of, storage_of}
use Rattle.quartz_expr.specs.Intervals.{Interval, Lies, range_of}
use Rattle.quartz_expr.specs.Terms.{Term}
use Rattle.quartz_expr.specs.Steps.{outputs_of, State}
use Rattle.aif_cells.specs.declared.cells.Register.{Register}
use Rattle.absence_reaction.specs.declared.copy.Shape.{Shape}
use Rattle.absence_reaction.specs.Closing.{one_if, pending_of, register_of as register_at, registers_each}
use Rattle.quartz_tree.specs.Storage.{is_memorized}
use Rattle.statement_cells.specs.Labels.{is_delayed, labels, registers, shape_in}
use Rattle.statement_cells.specs.Stands.{Registers}
use Rattle.statement_cells.specs.Whole.{compiled, element_registers, first_output, first_registers, first_scope, output_registers, outputs_registers, register_of, repeated, variable_registers}
use Rattle.statement_cells.specs.Meaning.{IsStep, initial_registers, IsMacroStep, StandsFor, next_registers, IsSoundModule}
use Rattle.statement_cells.proofs.LiesLemmas.{zero_lies}
use Rattle.statement_cells.proofs.NextLemmas.{length_outputs, solution_is_macro_step}
use Rattle.statement_cells.proofs.ScopeGrowLemmas.{length_replicate}
use Rattle.statement_cells.proofs.StartLemmas.{InitialFrom, compiled_starts, from_first, from_second, initial_from, length_repeated, same_starts}
use Rattle.macro_steps.specs.Laws.{InitialRegistersLie, IsSolved}
use Rattle.macro_steps.specs.Ranges.{OutputsLie, RegistersLie}
use Rattle.macro_steps.proofs.CarryRangeLemmas.{zero_scopes}
use Rattle.macro_steps.proofs.NextRangeLemmas.{next_lie}
use Rattle.macro_steps.proofs.RangeLemmas.{solution_lies}
use Rattle.macro_steps.proofs.StoreLemmas.{start_lies}
use Rattle.aif_cells.specs.Worth.{Assignment}
use Rattle.aif_cells.specs.Order.{IsOrder}

-- ---- at the start

module _ (k : Registers) where
  element_lies : (i : Interval) (st : Storage) (d : Bool) (z : ℤ) (r p : ℕ) → p ≡ r + one_if (is_memorized st) + 1 → Lies i z → Lies i (pos 0)
      → InitialFrom k r (replicate (one_if (is_memorized st)) (register_of z) ++ replicate (one_if d + one_if d) (register_of (pos 0)))
      → (is_memorized st ≡ true → Lies i (k r)) × (d ≡ true → Lies i (k p))
  element_lies i Mem true z r p e l n h = (λ f. subst (Lies i) (sym h.0) l, λ f. subst (Lies i) (sym (ap k e ∙ h.1.1.0)) n)
  element_lies i Mem false z r p e l n h = (λ f. subst (Lies i) (sym h.0) l, λ f. absurd (cc))
  element_lies i Event true z r p e l n h = (λ f. absurd (cc), λ f. let g : p ≡ r + 1 = omega (arith, e) in subst (Lies i) (sym (ap k g ∙ h.1.0)) n)
  element_lies i Event false z r p e l n h = (λ f. absurd (cc), λ f. absurd (cc))

  length_element : (s : Shape) → length (element_registers s) ≡ registers_each s
  length_element s = let e : 1 * registers_each s ≡ registers_each s = omega arith in one (element_registers s) ∙ length_repeated k s 1 ∙ e
    where
      one : (rs : List Register) → length rs ≡ length (rs ++ [])
      one [] = refl
      one (x ∷ rs) = ap suc (one rs)

  variable_lies : (vs : Vars) (x v : ℕ) → Lies (range_of vs x) (start_of vs x) → (j n i : ℕ) → i < n → InitialFrom k (register_at (shape_in vs x) v j) (repeated n (element_registers (shape_in vs x)))
      → (is_memorized (storage_of vs x) ≡ true → Lies (range_of vs x) (k (register_at (shape_in vs x) v (j + i)))) × (is_delayed vs x ≡ true → Lies (range_of vs x) (k (pending_of (shape_in vs x) v (j + i))))
  variable_lies vs x v l j zero i less h = absurd (omega (arith, less))
  variable_lies vs x v l j (suc n) zero less h =
      let s : Shape = shape_in vs x in
      let e : j ≡ j + zero = omega arith in
      subst (λ q. (is_memorized (storage_of vs x) ≡ true → Lies (range_of vs x) (k (register_at s v q))) × (is_delayed vs x ≡ true → Lies (range_of vs x) (k (pending_of s v q)))) e
      (element_lies (range_of vs x) (storage_of vs x) (is_delayed vs x) (start_of vs x) (register_at s v j) (pending_of s v j) refl l (zero_lies vs x) (from_first k (element_registers s) (repeated n (element_registers s)) (register_at s v j) h))
  variable_lies vs x v l j (suc n) (suc i) less h =
      let s : Shape = shape_in vs x in
      let e : (j + 1) + i ≡ j + suc i = omega arith in
      let f : register_at s v j + registers_each s ≡ register_at s v (j + 1) = omega arith in
      subst (λ q. (is_memorized (storage_of vs x) ≡ true → Lies (range_of vs x) (k (register_at s v q))) × (is_delayed vs x ≡ true → Lies (range_of vs x) (k (pending_of s v q)))) e
      (variable_lies vs x v l (j + 1) n i (omega (arith, less))
      (subst (λ q. InitialFrom k q (repeated n (element_registers s))) (ap (λ m. register_at s v j + m) (length_element s) ∙ f) (from_second k (element_registers s) (repeated n (element_registers s)) (register_at s v j) h)))

  outputs_start_lie : (vs : Vars) → ((x : ℕ) → Lies (range_of vs x) (start_of vs x)) → (xs : List ℕ) (v : ℕ) → InitialFrom k v (outputs_registers vs xs) → OutputsLie vs xs v k
  outputs_start_lie vs starts [] v h = tt
  outputs_start_lie vs starts (x ∷ xs) v h =
      let s : Shape = shape_in vs x in
      let rs : List Register = repeated (count_of vs x) (element_registers s) in
      let own : InitialFrom k v rs = from_first k rs (outputs_registers vs xs) v h in
      let e : v ≡ register_at s v 0 = omega arith in (
        λ j l.
            let f : 0 + j ≡ j = omega arith in
            subst (λ q. (is_memorized (storage_of vs x) ≡ true → Lies (range_of vs x) (k (register_at s v q))) × (is_delayed vs x ≡ true → Lies (range_of vs x) (k (pending_of s v q)))) f
            (variable_lies vs x v (starts x) 0 (count_of vs x) j l (subst (λ q. InitialFrom k q rs) e own)),
        outputs_start_lie vs starts xs (v + variable_registers vs x) (subst (λ q. InitialFrom k (v + q) (outputs_registers vs xs)) (length_repeated k s (count_of vs x)) (from_second k rs (outputs_registers vs xs) v h)),
      )

-- what stands behind other registers
initial_behind : (a b : List Register) (r : ℕ) → initial_registers (a ++ b) (length a + r) ≡ initial_registers b r
initial_behind [] b r = let e : 0 + r ≡ r = omega arith in ap (initial_registers b) e
initial_behind (x ∷ a) b r = let e : suc (length a) + r ≡ suc (length a + r) = omega arith in ap (initial_registers (x ∷ (a ++ b))) e ∙ initial_behind a b r

zero_initial : (n r : ℕ) → initial_registers (replicate n (register_of (pos 0))) r ≡ pos 0
zero_initial zero r = refl
zero_initial (suc n) zero = refl
zero_initial (suc n) (suc r) = zero_initial n r

splits : (a b : ℕ) → b ≤ a → (m : ℕ) × (a ≡ b + m)
splits a zero le = (a, omega arith)
splits zero (suc b) le = absurd (omega (arith, le))
splits (suc a) (suc b) le = let r = splits a b (omega (arith, le)) in let e = r.1 in (r.0, omega (arith, e))

-- registers of scopes begin with 0
pub scopes_start_zero : (vs : Vars) (t : Term) (r : ℕ) → first_scope vs t ≤ r → initial_registers (first_registers vs t) r ≡ pos 0
scopes_start_zero vs t r le =
    let a : List Register = replicate (labels t) (register_of (pos 0)) in
    let b : List Register = outputs_registers vs (outputs_of vs) in
    let c : List Register = replicate (registers vs t) (register_of (pos 0)) in
    let m = splits r (first_scope vs t) le in
    let la : length a ≡ labels t = length_replicate (labels t) (register_of (pos 0)) in
    let lb : length b ≡ output_registers vs (outputs_of vs) = length_outputs vs (outputs_of vs) in
    let is = m.1 in
    let e : r ≡ suc (length a + (length b + m.0)) = omega (arith, la, lb, is) in
    ap (initial_registers (first_registers vs t)) e ∙ initial_behind a (b ++ c) (length b + m.0) ∙ initial_behind b c m.0 ∙ zero_initial (registers vs t) m.0

-- the initial registers lie in their ranges
pub initial_lie : InitialRegistersLie
initial_lie vs t sound =
    let nought : (r : ℕ) → 0 + r ≡ r = λ r. omega arith in
    let k : Registers = initial_registers (compiled vs t).registers in
    let same : (r : ℕ) → k r ≡ initial_registers (first_registers vs t) r = λ r. same_starts (compiled vs t).registers (first_registers vs t) (compiled_starts vs t) r in
    let all : InitialFrom k 0 (first_registers vs t) = initial_from k (first_registers vs t) 0 (λ r. ap k (nought r) ∙ same r) in
    let os = from_second k (replicate (labels t) (register_of (pos 0))) (outputs_registers vs (outputs_of vs) ++ replicate (registers vs t) (register_of (pos 0))) 1 all.1 in
    let outs = from_first k (outputs_registers vs (outputs_of vs)) (replicate (registers vs t) (register_of (pos 0))) (1 + length (replicate (labels t) (register_of (pos 0)))) os in
    record {
      outputs = outputs_start_lie k vs (start_lies vs sound.starts) (outputs_of vs) (first_output t)
          (subst (λ q. InitialFrom k (1 + q) (outputs_registers vs (outputs_of vs))) (length_replicate (labels t) (register_of (pos 0))) outs);
      scopes = zero_scopes vs (record { inputs = λ i. pos 0; registers = k; cells = λ i. pos 0 }) t (first_scope vs t) k (λ r le. same r ∙ scopes_start_zero vs t r le);
    }

-- a solution of cells that have an order is a macro step, and the next registers lie in their ranges
pub sound_by : (vs : Vars) (t : Term) (s : State) (ins : List (List ℤ)) (σ : Assignment) (order : List ℕ) → IsSoundModule vs t → IsOrder (compiled vs t).cells order → StandsFor vs t σ.registers s → IsSolved vs t ins σ
    → IsMacroStep vs t s ins σ × RegistersLie vs t (next_registers σ (compiled vs t).registers)
sound_by vs t s ins σ order sound is stands solved =
    let step : IsStep vs t ins σ = record { inputs = solved.inputs; has = solved.has; solution = solved.solution; ranges = solution_lies vs t s ins σ order sound is stands solved } in
    (solution_is_macro_step vs t s ins σ sound stands step, next_lie vs t s ins σ sound stands step solved.registers)
