-- What a command promises, over the shelf's texts, the trace, the output and the status.
use Rattle.std.specs.Prelude.{◌≡◌, ◌⊎◌, ℕ, List, take, Option, Some, None}
use Rattle.outside.specs.declared.status.Status.{Status}
use Rattle.outside.specs.declared.status.Status.TheVariants.{Usage, ModuleUnavailable, Refused, ReadFault, WriteFault, NoMemory}
use Rattle.quartz_tree.specs.Kernel.{Kernel}
use Rattle.quartz_tree.specs.Surfaces.{ModuleTree}
use Rattle.quartz_expr.specs.Vars.{Vars}
use Rattle.outside.specs.Bytes.{Gains}
use Rattle.trace_io.specs.Lines.{joined_lines}
use Rattle.trace_io.specs.Story.{End}
use Rattle.cell_run.specs.Told.{Told, ToldWhole, ToldBegun, status_of}
use Rattle.trace_writer.specs.declared.format.Format.{Format}
use Rattle.convert_run.specs.Told.{Converted, ConvertedWhole, ConvertedBegun}
use Rattle.quartz_build.specs.declared.fault.BuildFault.{BuildFault}
use Rattle.quartz_build.specs.declared.fault.BuildFault.TheVariants as fault
use Rattle.quartz_build.specs.Broken.{IsAccepted, Refuses}
use Rattle.averest_top.specs.declared.task.Task.{Task}
use Rattle.averest_top.specs.Commands.{most_converted, scrutiny_in}
use Rattle.averest_top.specs.Tasks.{Does, EndsAs}

-- a status comes exactly with its cause, but for want of memory
abbrev pub ComesWith : (status expected : Status) → (cause : Type 0) → Type 0
ComesWith status expected cause = (status ≡ expected → cause) × (cause → (status ≡ expected) ⊎ (status ≡ NoMemory))

-- the shelf tells its texts, and the first 65,537 bytes of the named one are these
pub record HasText (texts : Option (List ℕ → Option (List ℕ))) (name text : List ℕ) : Type 0 where
  pub told : List ℕ → Option (List ℕ)
  pub tells : texts ≡ Some told
  pub whole : List ℕ
  pub named : told name ≡ Some whole
  pub front : text ≡ take 65537 whole

-- the shelf tells its texts, and has none of that name
pub record LacksText (texts : Option (List ℕ → Option (List ℕ))) (name : List ℕ) : Type 0 where
  pub told : List ℕ → Option (List ℕ)
  pub tells : texts ≡ Some told
  pub none : told name ≡ None

-- want of memory, or a fault of the shelf
abbrev pub IsExcused : Status → (shelf_rose : Type 0) → Type 0
IsExcused status shelf_rose = (status ≡ NoMemory) ⊎ ((status ≡ ModuleUnavailable) × shelf_rose)

-- a run of a module over a trace, in at most so many steps: it is excused, or a read failed behind the lines that were done, or a
-- write failed within the story's lines, or it told its story
abbrev pub Outcome : Vars → Kernel → (trace : List ℕ) → (greatest : ℕ) → (before after : List ℕ → Type 0) → (left : Option (List ℕ)) → (shelf_rose input_rose out_rose : Type 0) → Status → Type 0
Outcome vs body trace greatest before after left shelf_rose input_rose out_rose status =
    IsExcused status shelf_rose
    ⊎ (((status ≡ ReadFault) × input_rose × ToldWhole vs body trace greatest before after left)
    ⊎ (((status ≡ WriteFault) × out_rose × ToldBegun vs body trace greatest before after)
    ⊎ Told vs body trace greatest before after left status))

-- a trace that is written anew: it is excused, or a read failed behind the lines that were done, or a write failed within the new bytes,
-- or all of it was written up to its end
abbrev pub NewOutcome : Format → Vars → (trace : List ℕ) → (before after : List ℕ → Type 0) → (left : Option (List ℕ)) → (shelf_rose input_rose out_rose : Type 0) → Status → Type 0
NewOutcome f vs trace before after left shelf_rose input_rose out_rose status =
    IsExcused status shelf_rose
    ⊎ (((status ≡ ReadFault) × input_rose × ConvertedWhole f vs trace most_converted before after left)
    ⊎ (((status ≡ WriteFault) × out_rose × ConvertedBegun f vs trace most_converted before after)
    ⊎ Converted f vs trace most_converted before after left status))

-- the status is the end of a story and the sink gained its lines, but for want of memory
abbrev pub HasTold : (before after : List ℕ → Type 0) → (written : List (List ℕ)) → End → Status → Type 0
HasTold before after written end status = (status ≡ NoMemory) ⊎ ((status ≡ status_of end) × Gains before after (joined_lines written))

-- the statuses with which nothing is read of the trace and nothing written
abbrev pub ComesBefore : Status → Type 0
ComesBefore Usage = Unit {0}
ComesBefore ModuleUnavailable = Unit {0}
ComesBefore (Refused _ _) = Unit {0}
ComesBefore NoMemory = Unit {0}
ComesBefore _ = ⊥

-- what can come of a task: it isn't begun, or it ends so
abbrev pub CanComeOf : Task → Status → Type 0
CanComeOf t status = ComesBefore status ⊎ EndsAs t status

-- what can come where this is asked of a module, or nothing is
abbrev pub CanCome : Option (List ℕ × Task) → Status → Type 0
CanCome None status = ComesBefore status
CanCome (Some asked) status = CanComeOf asked.1 status

-- the text is one module that breaks no rule, and the task is done with it
abbrev pub IsDone : (text : List ℕ) → Task → (left left' : Option (List ℕ)) → (before after : List ℕ → Type 0) → (input_rose out_rose : Type 0) → Status → Type 0
IsDone text t left left' before after input_rose out_rose status = (m : ModuleTree) × IsAccepted (scrutiny_in t) text m × Does t m left left' before after input_rose out_rose status

-- the status of a text that is refused
abbrev pub refusal_status : BuildFault → Status
refusal_status (fault.Refused rule place) = Refused rule place
refusal_status fault.NoMemory = NoMemory

-- what a status says of a task on a text: by which rule the text is refused, or that it is accepted and what was done
abbrev pub OfText : (text : List ℕ) → Task → (left left' : Option (List ℕ)) → (before after : List ℕ → Type 0) → (shelf_rose input_rose out_rose : Type 0) → Status → Type 0
OfText text t left left' before after shelf_rose input_rose out_rose NoMemory = Unit {0}
OfText text t left left' before after shelf_rose input_rose out_rose ModuleUnavailable = shelf_rose
OfText text t left left' before after shelf_rose input_rose out_rose (Refused rule place) = Refuses (scrutiny_in t) text rule place
OfText text t left left' before after shelf_rose input_rose out_rose Usage = ⊥
OfText text t left left' before after shelf_rose input_rose out_rose status = IsDone text t left left' before after input_rose out_rose status
