-- Runs that are computed: the cells of each step along an order, and the registers from each step to the next.
use Rattle.std.specs.Prelude.{◌≡◌, ℕ, ℤ, pos, List, [], ◌∷◌, length, map, replicate, slice_set, Option, Some, None}
use Rattle.quartz_tree.specs.declared.fault.Fault.{Fault}
use Rattle.quartz_tree.specs.Kernel.{Kernel}
use Rattle.quartz_tree.specs.Least.{least_fault}
use Rattle.quartz_expr.specs.Vars.{Vars}
use Rattle.quartz_expr.specs.Terms.{Term, term_of}
use Rattle.quartz_expr.specs.Runs.{Runs}
use Rattle.aif_cells.specs.declared.cells.Register.{Register}
use Rattle.aif_cells.specs.Built.{Defined}
use Rattle.aif_cells.specs.Worth.{Assignment, listed, read, worth}
use Rattle.aif_cells.specs.Solution.{IsSolution}
use Rattle.aif_cells.specs.Order.{IsOrder}
use Rattle.absence_reaction.specs.Meaning.{raised}
use Rattle.statement_cells.specs.Builder.{tree_at}
use Rattle.statement_cells.specs.Whole.{beginning, compiled}
use Rattle.statement_cells.specs.Meaning.{AreInputs, IsSoundModule, elements, inputs_of, outputs_in}

-- the values of cells, computed one after another along a list of cells
abbrev pub evaluated : (inputs registers : List ℤ) → List Defined → (order : List ℕ) → (values : List ℤ) → List ℤ
evaluated is rs cs [] zs = zs
evaluated is rs cs (k ∷ order) zs = evaluated is rs cs order (slice_set zs k (worth (listed is rs zs) (tree_at cs k)))

-- along an order this solves the equations of all cells, whatever the values were before
abbrev pub OrderSolves : Type 0
OrderSolves = (is rs : List ℤ) (cs : List Defined) (order : List ℕ) (zs : List ℤ) → IsOrder cs order → length zs ≡ length cs
    → IsSolution (listed is rs (evaluated is rs cs order zs)) cs

-- and the values are the same, whatever they were before
abbrev pub OrderForgets : Type 0
OrderForgets = (is rs : List ℤ) (cs : List Defined) (order : List ℕ) (zs ys : List ℤ) → IsOrder cs order → length zs ≡ length cs → length ys ≡ length cs
    → evaluated is rs cs order zs ≡ evaluated is rs cs order ys

-- the solution of one step
abbrev pub solved : List Defined → (order : List ℕ) → (registers : List ℤ) → (ins : List (List ℤ)) → Assignment
solved cs order rs ins = listed (elements ins) rs (evaluated (elements ins) rs cs order (replicate (length cs) (pos 0)))

-- the registers of the first step, and those of the next one
abbrev pub initial_values : List Register → List ℤ
initial_values rs = map (λ r. r.initial) rs

abbrev pub next_values : Assignment → List Register → List ℤ
next_values σ rs = map (λ r. read σ r.next) rs

-- the outputs of the steps without a fault, and the least fault of the step that has one, or none where the inputs end
pub record Outcome : Type 0 where
  pub outs : List (List (List ℤ))
  pub end : Option Fault

-- a step with its outputs before others, or with its fault
abbrev pub step_before : Option Fault → (outs : List (List ℤ)) → Outcome → Outcome
step_before (Some f) o more = record { outs = []; end = Some f }
step_before None o more = record { outs = o ∷ more.outs; end = more.end }

-- the solutions one after another, from these registers, up to the first step with a fault
abbrev pub computed_from : Vars → Term → (order : List ℕ) → (registers : List ℤ) → (ins : List (List (List ℤ))) → Outcome
computed_from vs t order rs [] = record { outs = []; end = None }
computed_from vs t order rs (i ∷ is) =
    let c = compiled vs t in
    let σ = solved c.cells order rs i in
    step_before (least_fault (raised σ c.monitors)) (outputs_in σ (beginning vs).outputs) (computed_from vs t order (next_values σ c.registers) is)

-- from the initial registers
abbrev pub computed_run : Vars → Kernel → (order : List ℕ) → (ins : List (List (List ℤ))) → Outcome
computed_run vs body order ins = computed_from vs (term_of body) order (initial_values (compiled vs (term_of body)).registers) ins

-- each step's inputs are values of the input variables
abbrev pub AllInputs : Vars → List (List (List ℤ)) → Type 0
AllInputs vs [] = Unit {0}
AllInputs vs (i ∷ is) = AreInputs vs (inputs_of vs) i × AllInputs vs is

-- what is computed is a run of the semantics
abbrev pub ComputedIsRun : Type 0
ComputedIsRun = (vs : Vars) (body : Kernel) (order : List ℕ) (ins : List (List (List ℤ))) → IsSoundModule vs (term_of body) → IsOrder (compiled vs (term_of body)).cells order → AllInputs vs ins
    → Runs vs body ins (computed_run vs body order ins).outs (computed_run vs body order ins).end

-- and the only one
abbrev pub RunIsComputed : Type 0
RunIsComputed = (vs : Vars) (body : Kernel) (order : List ℕ) (ins outs : List (List (List ℤ))) (end : Option Fault) → IsSoundModule vs (term_of body) → IsOrder (compiled vs (term_of body)).cells order
    → AllInputs vs ins → Runs vs body ins outs end → (outs ≡ (computed_run vs body order ins).outs) × (end ≡ (computed_run vs body order ins).end)
