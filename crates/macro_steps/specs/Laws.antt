-- The solutions of a module's cells are its macro steps.
use Rattle.std.specs.Prelude.{◌≡◌, ◌↔◌, ℕ, ℤ, List, [], ◌<◌, length}
use Rattle.quartz_tree.specs.declared.fault.Fault.{Fault}
use Rattle.quartz_expr.specs.Vars.{Vars}
use Rattle.quartz_expr.specs.Terms.{Term}
use Rattle.quartz_expr.specs.Steps.{State, Macro}
use Rattle.quartz_expr.specs.Coherent.{IsCoherent}
use Rattle.aif_cells.specs.Built.{Defined}
use Rattle.aif_cells.specs.Worth.{Assignment}
use Rattle.aif_cells.specs.Solution.{IsSolution}
use Rattle.aif_cells.specs.Order.{IsOrder}
use Rattle.absence_reaction.specs.Meaning.{raised}
use Rattle.causality_check.specs.Order.{HasNoCycle, NamesCells}
use Rattle.statement_cells.specs.Walk.{AllInRange, met_by}
use Rattle.statement_cells.specs.Whole.{beginning, body_built, compiled}
use Rattle.statement_cells.specs.Meaning.{AreInputs, HasInputs, IsMacroStep, IsSoundModule, StandsFor, initial_registers, inputs_of, next_registers, outputs_in}
use Rattle.macro_steps.specs.Ranges.{RegistersLie}

-- the assignment solves the equations of all cells, for inputs in their ranges and registers in theirs
pub record IsSolved (vs : Vars) (body : Term) (ins : List (List ℤ)) (σ : Assignment) : Type 0 where
  pub inputs : AreInputs vs (inputs_of vs) ins
  pub has : HasInputs σ ins
  pub registers : RegistersLie vs body σ.registers
  pub solution : IsSolution σ (compiled vs body).cells

-- cells without a cycle have an order
abbrev pub AcyclicHasOrder : Type 0
AcyclicHasOrder = (cs : List Defined) → NamesCells cs → HasNoCycle cs → (order : List ℕ) × IsOrder cs order

-- and cells that have one have no cycle
abbrev pub OrderedIsAcyclic : Type 0
OrderedIsAcyclic = (cs : List Defined) (order : List ℕ) → IsOrder cs order → HasNoCycle cs

-- without a cycle, inputs and registers have one solution at most
abbrev pub SolutionIsOne : Type 0
SolutionIsOne = (cs : List Defined) (σ τ : Assignment) → NamesCells cs → HasNoCycle cs → σ.inputs ≡ τ.inputs → σ.registers ≡ τ.registers → IsSolution σ cs → IsSolution τ cs
    → (k : ℕ) → k < length cs → σ.cells k ≡ τ.cells k

-- without a cycle, the value cells of a solution lie in the ranges of their variables
abbrev pub ValuesLie : Type 0
ValuesLie = (vs : Vars) (body : Term) (s : State) (ins : List (List ℤ)) (σ : Assignment)
    → IsSoundModule vs body → HasNoCycle (compiled vs body).cells → StandsFor vs body σ.registers s → IsSolved vs body ins σ
    → AllInRange vs σ (body_built vs body).reserved

-- the initial registers of a module stand for its initial state, and lie in their ranges
abbrev pub InitialRegistersLie : Type 0
InitialRegistersLie = (vs : Vars) (body : Term) → IsSoundModule vs body → RegistersLie vs body (initial_registers (compiled vs body).registers)

-- without a cycle, a solution is a macro step of the state for which the registers stand: it has the values of
-- the outputs' cells and the faults of the monitors that hold, and the next registers stand for the next state and lie in
-- their ranges again
abbrev pub Soundness : Type 0
Soundness = (vs : Vars) (body : Term) (s : State) (ins : List (List ℤ)) (σ : Assignment)
    → IsSoundModule vs body → HasNoCycle (compiled vs body).cells → StandsFor vs body σ.registers s → IsSolved vs body ins σ
    → IsMacroStep vs body s ins σ × RegistersLie vs body (next_registers σ (compiled vs body).registers)

-- and each macro step of that state is that one
abbrev pub Completeness : Type 0
Completeness = (vs : Vars) (body : Term) (s : State) (ins : List (List ℤ)) (σ : Assignment) (outs : List (List ℤ)) (next : State) (fs : List Fault)
    → IsSoundModule vs body → HasNoCycle (compiled vs body).cells → StandsFor vs body σ.registers s → IsSolved vs body ins σ → Macro vs s ins outs next fs
    → (outs ≡ outputs_in σ (beginning vs).outputs) × (fs ≡ raised σ (compiled vs body).monitors) × StandsFor vs body (next_registers σ (compiled vs body).registers) next

-- a step has a fault exactly where no values of the outputs are coherent
abbrev pub Coherence : Type 0
Coherence = (vs : Vars) (body : Term) (s : State) (ins : List (List ℤ)) (σ : Assignment)
    → IsSoundModule vs body → HasNoCycle (compiled vs body).cells → StandsFor vs body σ.registers s → IsSolved vs body ins σ
    → (¬ (raised σ (compiled vs body).monitors ≡ [])) ↔ ((outs : List (List ℤ)) → ¬ IsCoherent vs s ins outs)

-- the scopes that the macro step meets are those of the active copies, in order, each with the values of the copy's cells
-- and of their trees
abbrev pub Marks : Type 0
Marks = (vs : Vars) (body : Term) (s : State) (ins : List (List ℤ)) (σ : Assignment) (outs : List (List ℤ)) (next : State) (fs : List Fault)
    → IsSoundModule vs body → HasNoCycle (compiled vs body).cells → StandsFor vs body σ.registers s → IsSolved vs body ins σ → (m : Macro vs s ins outs next fs)
    → m.reaction.met ≡ met_by σ (body_built vs body).scopes
