-- What a run writes, and how it ends.
use Rattle.std.specs.Prelude.{◌≡◌, ℕ, ◌+◌, ◌<◌, ℤ, List, [], ◌∷◌, ◌++◌, take, drop, Option, Some, None, if◌then◌else◌}
use Rattle.quartz_tree.specs.declared.declare.Flow.TheVariants.{Input}
use Rattle.quartz_tree.specs.declared.fault.Fault.{Fault}
use Rattle.quartz_tree.specs.Kernel.{Kernel}
use Rattle.quartz_tree.specs.Least.{least_fault}
use Rattle.quartz_expr.specs.Vars.{Vars}
use Rattle.quartz_expr.specs.Steps.{State, Macro, initial}
use Rattle.trace_io.specs.Inputs.{same_flow, count_in}
use Rattle.trace_io.specs.Lines.{whole_lines}
use Rattle.trace_io.specs.Reading.{steps, steps_of}
use Rattle.trace_io.specs.Writing.{line_of}

-- how a run ends: the trace is over, its step k isn't readable, there are too many, or step k has a fault
pub data End : Type 0 where
  done : End
  bad : ℕ → End
  limit : End
  fault : ℕ → Fault → End

-- the inputs' elements, by input
abbrev pub by_input : Vars → List ℤ → List (List ℤ)
by_input [] zs = []
by_input (v ∷ vs) zs = if same_flow Input v.decl.flow then take (count_in v) zs ∷ by_input vs (drop (count_in v) zs) else by_input vs zs

-- the elements of all variables, one after another
abbrev pub elements : List (List ℤ) → List ℤ
elements [] = []
elements (zs ∷ rest) = zs ++ elements rest

-- from step k on, out of a state, over these steps of the trace: the lines written, and the end
pub data StoryFrom (vs : Vars) (greatest : ℕ) : (k : ℕ) → State → (steps : List (Option (List ℤ))) → (written : List (List ℕ)) → End → Type 0 where
  is_done : (k : ℕ) (s : State) → StoryFrom vs greatest k s [] [] done
  is_bad : (k : ℕ) (s : State) (rest : List (Option (List ℤ))) → StoryFrom vs greatest k s (None ∷ rest) [] (bad k)
  is_limit : (k : ℕ) (s : State) (zs : List ℤ) (rest : List (Option (List ℤ))) → k ≡ greatest → StoryFrom vs greatest k s (Some zs ∷ rest) [] limit
  is_fault : (k : ℕ) (s : State) (zs : List ℤ) (rest : List (Option (List ℤ))) (outs : List (List ℤ)) (t : State) (fs : List Fault) (f : Fault)
      → k < greatest → Macro vs s (by_input vs zs) outs t fs → least_fault fs ≡ Some f
      → StoryFrom vs greatest k s (Some zs ∷ rest) [] (fault k f)
  is_step : (k : ℕ) (s : State) (zs : List ℤ) (rest : List (Option (List ℤ))) (outs : List (List ℤ)) (t : State) (written : List (List ℕ)) (e : End)
      → k < greatest → Macro vs s (by_input vs zs) outs t []
      → StoryFrom vs greatest (k + 1) t rest written e → StoryFrom vs greatest k s (Some zs ∷ rest) (line_of vs (elements outs) ∷ written) e

-- the story of a body over a trace, in at most so many steps
abbrev pub Story : Vars → Kernel → (trace : List ℕ) → (greatest : ℕ) → (written : List (List ℕ)) → End → Type 0
Story vs body trace greatest = StoryFrom vs greatest 0 (initial vs body) (steps vs trace)

-- the story of the lines that stand whole in bytes that were taken, a header or not before them: what a run has written that a failed read stops, where it is done with them
abbrev pub WholeStory : Vars → Kernel → (taken : List ℕ) → (greatest : ℕ) → (written : List (List ℕ)) → End → Type 0
WholeStory vs body taken greatest = StoryFrom vs greatest 0 (initial vs body) (steps_of vs (whole_lines taken))
