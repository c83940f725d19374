-- What a run over a generated trace told.
use Rattle.std.specs.Prelude.{◌≡◌, ℕ, List, []}
use Rattle.quartz_tree.specs.Kernel.{Kernel}
use Rattle.quartz_expr.specs.Vars.{Vars}
use Rattle.outside.specs.Bytes.{Gains}
use Rattle.outside.specs.declared.status.Status.{Status}
use Rattle.outside.specs.declared.status.Status.TheVariants.{BadInput, RunFault, StepLimit, WriteFault}
use Rattle.outside.specs.declared.status.Status.TheVariants as status
use Rattle.trace_io.specs.Writing.{generated}
use Rattle.trace_io.specs.Story.{End, done, Story}
use Rattle.command_texts.specs.Texts.{summary_text}
use Rattle.command_texts.specs.Written.{IsWritten}
use Rattle.cell_run.specs.Told.{status_of}

-- a run that is done is told by the summary of its lines, and of any other the status is the end and nothing is put
abbrev pub Ends : (written : List (List ℕ)) → (before after : List ℕ → Type 0) → (out_rose : Type 0) → Status → End → Type 0
Ends written before after out_rose s done = IsWritten (summary_text written) before after out_rose s
Ends written before after out_rose s end = (s ≡ status_of end) × Gains before after []

-- a run of a body over the trace that a seed generates for so many steps has a story, and this is what is told of it
pub record Loaded (vs : Vars) (body : Kernel) (seed steps : ℕ) (before after : List ℕ → Type 0) (out_rose : Type 0) (status : Status) : Type 0 where
  pub written : List (List ℕ)
  pub end : End
  pub story : Story vs body (generated vs seed steps) 4294967295 written end
  pub ends : Ends written before after out_rose status end

-- the statuses of such a run
abbrev pub IsOfLoad : Status → Type 0
IsOfLoad status.Ok = Unit {0}
IsOfLoad (BadInput _) = Unit {0}
IsOfLoad (RunFault _ _ _) = Unit {0}
IsOfLoad StepLimit = Unit {0}
IsOfLoad WriteFault = Unit {0}
IsOfLoad _ = ⊥
