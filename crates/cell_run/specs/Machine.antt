-- Cells that execute a module: from registers that stand for a state, a solution of the cells is a macro step of the state.
use Rattle.std.specs.Prelude.{◌≡◌, ℕ, ℤ, true, List, [], ◌∷◌, map}
use Rattle.quartz_tree.specs.declared.declare.Base.{Base}
use Rattle.quartz_tree.specs.Kernel.{Kernel}
use Rattle.quartz_expr.specs.Vars.{Vars}
use Rattle.quartz_expr.specs.Intervals.{base_interval, is_in}
use Rattle.quartz_expr.specs.Terms.{term_of}
use Rattle.quartz_expr.specs.Steps.{State, Macro, initial}
use Rattle.aif_cells.specs.declared.aif.Aif.{Aif}
use Rattle.aif_cells.specs.declared.cells.Register.{Register}
use Rattle.aif_cells.specs.Built.{all_defined}
use Rattle.aif_cells.specs.Order.{IsOrder}
use Rattle.aif_cells.specs.Solution.{IsSolution}
use Rattle.aif_cells.specs.Worth.{Assignment, listed, number_at, read}
use Rattle.absence_reaction.specs.Meaning.{raised}
use Rattle.statement_cells.specs.Meaning.{IsSoundModule, StandsFor}
use Rattle.statement_cells.specs.Whole.{compiled}
use Rattle.macro_steps.specs.Ranges.{RegistersLie}
use Rattle.trace_io.specs.Inputs.{input_types, output_types}
use Rattle.trace_io.specs.Story.{by_input, elements}

-- each value lies in the range of its type
abbrev pub AreOfTypes : List Base → List ℤ → Type 0
AreOfTypes [] [] = Unit {0}
AreOfTypes (b ∷ bs) (z ∷ zs) = (is_in (base_interval b) z ≡ true) × AreOfTypes bs zs
AreOfTypes _ _ = ⊥

-- what the registers hold in the first step, and in the next one
abbrev pub initials : List Register → List ℤ
initials rs = map (λ r. r.initial) rs

abbrev pub next_values : Assignment → List Register → List ℤ
next_values σ rs = map (λ r. read σ r.next) rs

-- the values of the outputs' cells
abbrev pub shown : (cells : List ℕ) → (values : List ℤ) → List ℤ
shown os zs = map (number_at zs) os

-- the registers stand for the state, and hold values in their ranges
abbrev pub Stands : Vars → Kernel → (registers : List ℤ) → State → Type 0
Stands vs body ks s = StandsFor vs (term_of body) (number_at ks) s × RegistersLie vs (term_of body) (number_at ks)

-- what the cells have is a macro step of the state: the outputs' values, each in its range, the faults of the monitors that
-- hold, and the next registers stand for the next state
pub record MakesStep (vs : Vars) (body : Kernel) (aif : Aif) (s : State) (registers inputs cells : List ℤ) : Type 0 where
  pub outs : List (List ℤ)
  pub next : State
  pub step : Macro vs s (by_input vs inputs) outs next (raised (listed inputs registers cells) aif.monitors)
  pub shows : shown aif.outputs cells ≡ elements outs
  pub lie : AreOfTypes (output_types vs) (elements outs)
  pub stands : Stands vs body (next_values (listed inputs registers cells) aif.registers) next

-- the first registers stand for the initial state, and each solution of the cells is a macro step
pub record Executes (vs : Vars) (body : Kernel) (aif : Aif) : Type 0 where
  pub vars : aif.vars ≡ vs
  pub start : Stands vs body (initials aif.registers) (initial vs body)
  pub step : (s : State) (registers inputs cells : List ℤ) → Stands vs body registers s → AreOfTypes (input_types vs) inputs
      → IsSolution (listed inputs registers cells) (all_defined aif.cells) → MakesStep vs body aif s registers inputs cells

-- the cells are those that the module is compiled to
pub record IsCompiled (vs : Vars) (body : Kernel) (aif : Aif) : Type 0 where
  pub vars : aif.vars ≡ vs
  pub outputs : aif.outputs ≡ (compiled vs (term_of body)).outputs
  pub registers : aif.registers ≡ (compiled vs (term_of body)).registers
  pub cells : all_defined aif.cells ≡ (compiled vs (term_of body)).cells
  pub monitors : aif.monitors ≡ (compiled vs (term_of body)).monitors

-- the cells that a module is compiled to execute it, where they have an order
abbrev pub CompiledCellsExecute : Type 0
CompiledCellsExecute = (vs : Vars) (body : Kernel) (aif : Aif) (order : List ℕ)
    → IsSoundModule vs (term_of body) → IsCompiled vs body aif → IsOrder (all_defined aif.cells) order → Executes vs body aif
