-- Which commands are built so far, and what they ask of which module.
use Rattle.std.specs.Prelude.{ℕ, Bool, true, false, List, Option, Some, None, option_map, option_and_then}
use Rattle.quartz_lexer.specs.Lexing.{origin}
use Rattle.outside.specs.declared.status.Status.{Status}
use Rattle.outside.specs.declared.status.Status.TheVariants.{Refused}
use Rattle.command_words.specs.declared.command.Command.{Command}
use Rattle.command_words.specs.declared.command.Command.TheVariants.{Run, Check, Aif, Plan, Load, Convert, Verify}
use Rattle.command_words.specs.Words.{meant}
use Rattle.cell_run.specs.Told.{calls_of_run}
use Rattle.quartz_build.specs.Broken.{Scrutiny, scrutiny_of}
use Rattle.averest_top.specs.declared.task.Task.{Task}
use Rattle.averest_top.specs.declared.task.Task.TheVariants as task

-- the module that a command names
abbrev pub module_in : Command → List ℕ
module_in (Run name _ _ _ _ _) = name
module_in (Check name _) = name
module_in (Aif name) = name
module_in (Plan name _) = name
module_in (Load name _ _ _ _ _) = name
module_in (Convert name _) = name
module_in (Verify name) = name

-- what a command asks of its module, where that is built: of runs, those without a witness. How a run is laid out changes nothing
abbrev pub task_in : Command → Option Task
task_in (Run _ _ _ _ greatest false) = Some (task.Run greatest)
task_in (Check _ strict) = Some (task.Check strict)
task_in (Aif _) = Some task.Aif
task_in (Load _ seed steps _ _ _) = Some (task.Load seed steps)
task_in (Convert _ to) = Some (task.Convert to)
task_in _ = None

-- the module, and what is asked of it
abbrev pub asked_in : Command → Option (List ℕ × Task)
asked_in c = option_map (λ t. (module_in c, t)) (task_in c)

-- those that the words mean
abbrev pub task_meant : List (List ℕ) → Option (List ℕ × Task)
task_meant words = option_and_then asked_in (meant words)

-- the status of a command that isn't built
abbrev pub not_built : Status
not_built = Refused 0 origin

-- ---- what a task needs

-- a task that reads the trace
abbrev pub reads_trace : Task → Bool
reads_trace (task.Run _) = true
reads_trace (task.Convert _) = true
reads_trace _ = false

-- in how many steps at most a trace is converted
abbrev pub most_converted : ℕ
most_converted = 4294967295

-- one that counts loose pairs of writes, and one that refuses them
abbrev pub wants_pairs_in : Task → Bool
wants_pairs_in (task.Check _) = true
wants_pairs_in _ = false

abbrev pub is_strict_in : Task → Bool
is_strict_in (task.Check strict) = strict
is_strict_in _ = false

-- how far it has its text judged
abbrev pub scrutiny_in : Task → Scrutiny
scrutiny_in t = scrutiny_of (is_strict_in t)

-- how often a task asks the source: not at all, where it doesn't read the trace
abbrev pub calls_of : Task → ℕ
calls_of (task.Run greatest) = calls_of_run greatest
calls_of (task.Convert _) = calls_of_run most_converted
calls_of _ = 0

-- how often what the words mean asks it
abbrev pub calls_asked : Option (List ℕ × Task) → ℕ
calls_asked None = 0
calls_asked (Some a) = calls_of a.1
