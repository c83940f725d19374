-- What a run has written, and how it ended.
use Rattle.std.specs.Prelude.{◌≡◌, ℕ, ◌+◌, ◌*◌, List, [], ◌++◌, Option, Some}
use Rattle.quartz_expr.specs.Vars.{Vars}
use Rattle.quartz_tree.specs.Kernel.{Kernel}
use Rattle.outside.specs.declared.status.Status.{Status}
use Rattle.outside.specs.declared.status.Status.TheVariants.{BadInput, StepLimit, RunFault, ReadFault, WriteFault}
use Rattle.outside.specs.declared.status.Status.TheVariants as status
use Rattle.outside.specs.Bytes.{Gains, GainsBegun}
use Rattle.trace_io.specs.Lines.{joined_lines}
use Rattle.trace_io.specs.Story.{End, done, bad, limit, fault, Story, WholeStory}

-- the status of a run that ends so
abbrev pub status_of : End → Status
status_of done = status.Ok
status_of (bad k) = BadInput k
status_of limit = StepLimit
status_of (fault k f) = RunFault k f.kind f.place

-- a run of a body over a trace told its story: the sink gained its lines, the status is its end, and with Ok no byte is left
pub record Told (vs : Vars) (body : Kernel) (trace : List ℕ) (greatest : ℕ) (before after : List ℕ → Type 0) (left : Option (List ℕ)) (status : Status) : Type 0 where
  pub written : List (List ℕ)
  pub end : End
  pub story : Story vs body trace greatest written end
  pub gained : Gains before after (joined_lines written)
  pub ends : status ≡ status_of end
  pub all_read : end ≡ done → left ≡ Some []

-- a read failed: the lines that stand whole in the bytes taken, a header aside, are at most so many steps, each readable and without a
-- fault, and the sink gained exactly their output lines
pub record ToldWhole (vs : Vars) (body : Kernel) (trace : List ℕ) (greatest : ℕ) (before after : List ℕ → Type 0) (left : Option (List ℕ)) : Type 0 where
  pub taken : List ℕ
  pub rest : List ℕ
  pub left_is : left ≡ Some rest
  pub cut : taken ++ rest ≡ trace
  pub written : List (List ℕ)
  pub story : WholeStory vs body taken greatest written done
  pub gained : Gains before after (joined_lines written)

-- a write failed: the sink gained a prefix of the story's lines that lacks at least one byte
pub record ToldBegun (vs : Vars) (body : Kernel) (trace : List ℕ) (greatest : ℕ) (before after : List ℕ → Type 0) : Type 0 where
  pub written : List (List ℕ)
  pub end : End
  pub story : Story vs body trace greatest written end
  pub gained : GainsBegun before after (joined_lines written)

-- what a status says of a run
abbrev pub Tells : (vs : Vars) (body : Kernel) (trace : List ℕ) (greatest : ℕ) (before after : List ℕ → Type 0) (left : Option (List ℕ)) → Status → Type 0
Tells vs body trace greatest before after left ReadFault = ToldWhole vs body trace greatest before after left
Tells vs body trace greatest before after left WriteFault = ToldBegun vs body trace greatest before after
Tells vs body trace greatest before after left status = Told vs body trace greatest before after left status

-- the statuses of a run
abbrev pub IsOfRun : Status → Type 0
IsOfRun status.Ok = Unit {0}
IsOfRun (BadInput _) = Unit {0}
IsOfRun (RunFault _ _ _) = Unit {0}
IsOfRun ReadFault = Unit {0}
IsOfRun WriteFault = Unit {0}
IsOfRun StepLimit = Unit {0}
IsOfRun _ = ⊥

-- how often a run in at most so many steps asks its source: 65,538 times for each line that it takes, which are those of the steps, a
-- header, and one behind the last step
abbrev pub calls_of_run : (greatest : ℕ) → ℕ
calls_of_run greatest = 65538 * (greatest + 2)
