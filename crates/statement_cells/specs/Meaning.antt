-- What the cells of a whole module mean: the solution of their equations is the macro step of the state for which the
-- registers stand.
use Rattle.std.specs.Prelude.{◌≡◌, ◌⊎◌, ◌<◌, ℕ, ◌+◌, ℤ, pos, false, List, [], ◌∷◌, ◌++◌, length, map, slice_get, Option, Some, None, if◌then◌else◌}
use Rattle.quartz_tree.specs.declared.declare.Flow.{Flow}
use Rattle.quartz_tree.specs.declared.declare.Flow.TheVariants.{Input, Output, Inner}
use Rattle.quartz_expr.specs.Vars.{Vars, count_of, start_of}
use Rattle.quartz_expr.specs.Intervals.{Lies, range_of}
use Rattle.quartz_expr.specs.Typed.{AreSound as AreSoundVars, AllLie}
use Rattle.quartz_tree.specs.Kernel.{Kernel}
use Rattle.quartz_expr.specs.Terms.{Store, Term, nothing, term_of}
use Rattle.quartz_expr.specs.Steps.{State, Macro, outputs_of, initial}
use Rattle.aif_cells.specs.declared.cells.Register.{Register}
use Rattle.aif_cells.specs.Worth.{Assignment, number_at, read, holds}
use Rattle.aif_cells.specs.Solution.{IsSolution}
use Rattle.absence_reaction.specs.Meaning.{raised}
use Rattle.statement_cells.specs.Labels.{labels}
use Rattle.statement_cells.specs.Stands.{Marks, Registers, some, at, plain, plain_store, store_in, AtOne}
use Rattle.statement_cells.specs.Sound.{IsSound}
use Rattle.statement_cells.specs.Walk.{AllInRange}
use Rattle.statement_cells.specs.Whole.{OutputCopy, beginning, body_built, compiled, first_label, first_output, first_scope, variable_registers}

-- ---- the registers that stand for a state

-- a label is 1 where its register isn't 0
abbrev pub marks_of : Registers → Marks
marks_of k l = holds (k l)

-- the rest of the body for which labels and registers stand: Nothing without a label that is 1
abbrev pub rest_of_body : Vars → Term → Registers → Term
rest_of_body vs t k = if some (marks_of k) first_label (labels t) then at vs (marks_of k) k first_label (first_scope vs t) t else nothing

-- the stores of outputs, whose registers begin there, one after another
abbrev pub stores_of : Vars → List ℕ → (first : ℕ) → Registers → List Store
stores_of vs [] v k = []
stores_of vs (x ∷ xs) v k = store_in vs x k v ∷ stores_of vs xs (v + variable_registers vs x) k

-- stores in which no event's value is kept
abbrev pub plain_stores : Vars → List ℕ → List Store → List Store
plain_stores vs [] ss = ss
plain_stores vs (x ∷ xs) [] = []
plain_stores vs (x ∷ xs) (s ∷ ss) = plain_store vs x s ∷ plain_stores vs xs ss

-- the start flag is 1 and no label is, and the term is the body; or it is 0, and the term is the rest of the body.
-- Each output's registers are its store. The kept value of an event isn't compared
pub record StandsFor (vs : Vars) (body : Term) (k : Registers) (s : State) : Type 0 where
  pub term : ((k 0 ≡ pos 1) × (some (marks_of k) first_label (labels body) ≡ false) × (s.term ≡ body))
      ⊎ ((k 0 ≡ pos 0) × (plain vs s.term ≡ rest_of_body vs body k))
  pub at_one : AtOne (marks_of k) first_label body
  pub stores : plain_stores vs (outputs_of vs) s.stores ≡ stores_of vs (outputs_of vs) (first_output body) k

-- ---- a step

-- the values of the inputs' elements, one variable after another
abbrev pub elements : List (List ℤ) → List ℤ
elements [] = []
elements (z ∷ zs) = z ++ elements zs

-- the assignment has these inputs
abbrev pub HasInputs : Assignment → List (List ℤ) → Type 0
HasInputs σ ins = (i : ℕ) → σ.inputs i ≡ number_at (elements ins) i

-- the values of the outputs' cells, by output
abbrev pub outputs_in : Assignment → List OutputCopy → List (List ℤ)
outputs_in σ [] = []
outputs_in σ (o ∷ os) = map σ.cells o.cells ∷ outputs_in σ os

-- what a register takes, and 0 where there is none
abbrev pub next_of : Assignment → Option Register → ℤ
next_of σ None = pos 0
next_of σ (Some x) = read σ x.next

-- the registers of the next step
abbrev pub next_registers : Assignment → List Register → Registers
next_registers σ rs r = next_of σ (slice_get rs r)

-- the number before the others, if the variable is an input
abbrev pub if_input : Flow → ℕ → List ℕ → List ℕ
if_input Input n xs = n ∷ xs
if_input Output n xs = xs
if_input Inner n xs = xs

-- the numbers of the inputs in declared order, where the first variable has number n
abbrev pub inputs_from : ℕ → Vars → List ℕ
inputs_from n [] = []
inputs_from n (v ∷ vs) = if_input v.decl.flow n (inputs_from (n + 1) vs)

abbrev pub inputs_of : Vars → List ℕ
inputs_of vs = inputs_from 0 vs

-- each input has its elements, each in its range
abbrev pub AreInputs : Vars → List ℕ → List (List ℤ) → Type 0
AreInputs vs [] [] = Unit {0}
AreInputs vs (x ∷ xs) (z ∷ zs) = (length z ≡ count_of vs x) × AllLie (range_of vs x) z × AreInputs vs xs zs
AreInputs vs _ _ = ⊥

-- what a register begins with, and 0 where there is none
abbrev pub initial_of : Option Register → ℤ
initial_of None = pos 0
initial_of (Some x) = x.initial

-- the initial registers
abbrev pub initial_registers : List Register → Registers
initial_registers rs r = initial_of (slice_get rs r)

-- the initial registers of a module stand for its initial state
abbrev pub InitialRegistersStand : Type 0
InitialRegistersStand = (vs : Vars) (body : Kernel)
    → StandsFor vs (term_of body) (initial_registers (compiled vs (term_of body)).registers) (initial vs body)

-- ---- what a module needs, and what a step is

-- variables have sound types, and start values in their ranges; the body is sound
pub record IsSoundModule (vs : Vars) (body : Term) : Type 0 where
  pub types : AreSoundVars vs
  pub starts : (x : ℕ) → x < length vs → Lies (range_of vs x) (start_of vs x)
  pub sound : IsSound vs body

-- the assignment has inputs in their ranges, meets the equations of all cells, and gives each value cell a number in its
-- variable's range
pub record IsStep (vs : Vars) (body : Term) (ins : List (List ℤ)) (σ : Assignment) : Type 0 where
  pub inputs : AreInputs vs (inputs_of vs) ins
  pub has : HasInputs σ ins
  pub solution : IsSolution σ (compiled vs body).cells
  pub ranges : AllInRange vs σ (body_built vs body).reserved

-- a macro step of the state with the inputs and the values of the outputs' cells, whose faults are those of the monitors
-- that hold; the next registers stand for the state behind it
pub record IsMacroStep (vs : Vars) (body : Term) (s : State) (ins : List (List ℤ)) (σ : Assignment) : Type 0 where
  pub next : State
  pub step : Macro vs s ins (outputs_in σ (beginning vs).outputs) next (raised σ (compiled vs body).monitors)
  pub stands : StandsFor vs body (next_registers σ (compiled vs body).registers) next

-- where registers stand for a state, a solution with value cells in their ranges is a macro step of it
abbrev pub SolutionIsMacroStep : Type 0
SolutionIsMacroStep = (vs : Vars) (body : Term) (s : State) (ins : List (List ℤ)) (σ : Assignment)
    → IsSoundModule vs body → StandsFor vs body σ.registers s → IsStep vs body ins σ → IsMacroStep vs body s ins σ
