-- What the tasks do with a module.
use Rattle.std.specs.Prelude.{◌≡◌, ◌≤◌, ◌<◌, ◌↔◌, ◌^◌, ℕ, min, List, length, Option, Some, None, Contains}
use Rattle.quartz_tree.specs.Kernel.{Kernel}
use Rattle.quartz_tree.specs.Surfaces.{ModuleTree}
use Rattle.quartz_expr.specs.Vars.{Vars}
use Rattle.quartz_names.specs.Resolving.{resolved_body, resolved_vars}
use Rattle.outside.specs.declared.status.Status.{Status}
use Rattle.outside.specs.declared.status.Status.TheVariants.{BadInput, RunFault, ReadFault, WriteFault, StepLimit, NoMemory}
use Rattle.outside.specs.declared.status.Status.TheVariants as status
use Rattle.aif_cells.specs.declared.aif.Aif.{Aif}
use Rattle.aif_cells.specs.Aif.{input_count}
use Rattle.aif_cells.specs.Built.{all_defined}
use Rattle.aif_cells.specs.Order.{IsOrder}
use Rattle.aif_cells.specs.Text.{aif_text}
use Rattle.trace_io.specs.Inputs.{output_types}
use Rattle.write_conflicts.specs.declared.pairs.Pairs.{Pairs}
use Rattle.write_conflicts.specs.Loose.{IsLoosePair}
use Rattle.write_conflicts.specs.Pairs.{HasNoRepeats, greatest_count}
use Rattle.command_texts.specs.Texts.{accepted_text}
use Rattle.command_texts.specs.Written.{IsWritten}
use Rattle.command_texts.specs.Counted.{HaveShortLines}
use Rattle.cell_run.specs.Told.{Tells}
use Rattle.load_run.specs.Load.{Loaded}
use Rattle.trace_writer.specs.declared.format.Format.{Format}
use Rattle.trace_writer.specs.Anew.{format_of}
use Rattle.convert_run.specs.Told.{Converts}
use Rattle.quartz_build.specs.Broken.{compiled_of, scene_in}
use Rattle.quartz_build.specs.Parts.{IsAifOf}
use Rattle.quartz_build.specs.declared.building.Built.{Built}
use Rattle.averest_top.specs.declared.task.Task.{Task}
use Rattle.averest_top.specs.declared.task.Task.TheVariants as task
use Rattle.averest_top.specs.Commands.{most_converted}

-- a run of a body over the trace: a failed read or write is counted, and the status says what was told
abbrev pub RunsAs : (vs : Vars) (body : Kernel) (greatest : ℕ) (left left' : Option (List ℕ)) (before after : List ℕ → Type 0) (input_rose out_rose : Type 0) → Status → Type 0
RunsAs vs body greatest left left' before after input_rose out_rose s =
    (s ≡ ReadFault → input_rose) × (s ≡ WriteFault → out_rose) × ((trace : List ℕ) → left ≡ Some trace → Tells vs body trace greatest before after left' s)

-- the trace of the inputs among the variables is converted: a failed read or write is counted, and the status says what was told
abbrev pub ConvertsAs : Format → Vars → (left left' : Option (List ℕ)) (before after : List ℕ → Type 0) (input_rose out_rose : Type 0) → Status → Type 0
ConvertsAs f vs left left' before after input_rose out_rose s =
    (s ≡ ReadFault → input_rose) × (s ≡ WriteFault → out_rose) × ((trace : List ℕ) → left ≡ Some trace → Converts f vs trace most_converted before after left' s)

-- so many loose pairs of writes has a module, or more where that is the greatest count
pub record IsLooseCount (m : ModuleTree) (n : ℕ) : Type 0 where
  pub pairs : List (ℕ × ℕ)
  pub once : HasNoRepeats pairs
  pub exact : (i j : ℕ) → Contains pairs (i, j) ↔ IsLoosePair (scene_in m) (compiled_of m).actions i j
  pub counted : n ≡ min (length pairs) greatest_count

-- what is said of a module's size: its cells, its registers and its loose pairs
pub record SaysSize (m : ModuleTree) (before after : List ℕ → Type 0) (out_rose : Type 0) (s : Status) : Type 0 where
  pub loose : ℕ
  pub counted : IsLooseCount m loose
  pub written : IsWritten (accepted_text (length (compiled_of m).cells) (length (compiled_of m).registers) loose) before after out_rose s

-- the cells that a module is compiled to are written
pub record WritesCells (m : ModuleTree) (before after : List ℕ → Type 0) (out_rose : Type 0) (s : Status) : Type 0 where
  pub aif : Aif
  pub cells_are : IsAifOf m aif
  pub written : IsWritten (aif_text aif) before after out_rose s

-- what a task does with a module
abbrev pub Does : Task → ModuleTree → (left left' : Option (List ℕ)) → (before after : List ℕ → Type 0) → (input_rose out_rose : Type 0) → Status → Type 0
Does (task.Run greatest) m left left' before after input_rose out_rose s = RunsAs (resolved_vars m) (resolved_body m) greatest left left' before after input_rose out_rose s
Does (task.Check _) m left left' before after input_rose out_rose s = SaysSize m before after out_rose s
Does task.Aif m left left' before after input_rose out_rose s = WritesCells m before after out_rose s
Does (task.Load seed steps) m left left' before after input_rose out_rose s = Loaded (resolved_vars m) (resolved_body m) seed steps before after out_rose s
Does (task.Convert to) m left left' before after input_rose out_rose s = ConvertsAs (format_of to) (resolved_vars m) left left' before after input_rose out_rose s

-- ---- what was built

-- the parts of a module with which each task can be done
pub record IsReady (built : Built) : Type 0 where
  pub short : HaveShortLines built.aif.vars
  pub ordered : IsOrder (all_defined built.aif.cells) built.order.cells
  pub outputs : length (output_types built.aif.vars) ≤ length built.aif.outputs
  pub inputs : input_count built.aif.vars < 2 ^ 31

-- the number of loose pairs, where they were counted
abbrev pub loose_in : Option Pairs → ℕ
loose_in None = 0
loose_in (Some told) = told.count

-- the statuses with which some task ends
abbrev pub IsOfTask : Status → Type 0
IsOfTask status.Ok = Unit {0}
IsOfTask (BadInput _) = Unit {0}
IsOfTask (RunFault _ _ _) = Unit {0}
IsOfTask ReadFault = Unit {0}
IsOfTask WriteFault = Unit {0}
IsOfTask StepLimit = Unit {0}
IsOfTask NoMemory = Unit {0}
IsOfTask _ = ⊥

-- and those with which this one may end, whatever its text and its trace
abbrev pub EndsAs : Task → Status → Type 0
EndsAs t status.Ok = Unit {0}
EndsAs t WriteFault = Unit {0}
EndsAs t NoMemory = Unit {0}
EndsAs (task.Run _) ReadFault = Unit {0}
EndsAs (task.Run _) (BadInput _) = Unit {0}
EndsAs (task.Run _) (RunFault _ _ _) = Unit {0}
EndsAs (task.Run _) StepLimit = Unit {0}
EndsAs (task.Load _ _) (BadInput _) = Unit {0}
EndsAs (task.Load _ _) (RunFault _ _ _) = Unit {0}
EndsAs (task.Load _ _) StepLimit = Unit {0}
EndsAs (task.Convert _) ReadFault = Unit {0}
EndsAs (task.Convert _) (BadInput _) = Unit {0}
EndsAs (task.Convert _) StepLimit = Unit {0}
EndsAs _ _ = ⊥
