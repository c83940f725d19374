-- What the words of a command mean.
use Rattle.std.specs.Prelude.{◌≡◌, ⊤, ℕ, Bool, true, if◌then◌else◌, List, [], ◌∷◌, Option, Some, None, Result, Ok, Err, option_map, option_and_then, find, codes}
use Rattle.std.specs.Str.{bytes_eq}
use Rattle.command_words.specs.declared.command.Command.{Command}
use Rattle.command_words.specs.declared.command.Command.TheVariants.{Run, Check, Aif, Plan, Load, Convert, Verify}
use Rattle.command_words.specs.declared.words.Layout.{Layout}
use Rattle.command_words.specs.declared.command.WordsFault.{WordsFault}
use Rattle.command_words.specs.declared.command.WordsFault.TheVariants as fault
use Rattle.command_words.specs.declared.verb.Verb.{Verb}
use Rattle.command_words.specs.declared.verb.Verb.TheVariants as verb
use Rattle.command_words.specs.declared.arguments.Argument.{Argument}
use Rattle.command_words.specs.declared.arguments.Argument.TheVariants.{Stages, Workers, Ring, MaxSteps, Witness, Strict, Seed, Steps, To}
use Rattle.command_words.specs.Arguments.{Word, Given, given_by_words, module_in, flag_in, number_in}

abbrev pub verb_name : Verb → Word
verb_name verb.Run = codes "run"
verb_name verb.Check = codes "check"
verb_name verb.Aif = codes "aif"
verb_name verb.Plan = codes "plan"
verb_name verb.Load = codes "load"
verb_name verb.Convert = codes "convert"
verb_name verb.Verify = codes "verify"

abbrev pub verbs : List Verb
verbs = verb.Run ∷ verb.Check ∷ verb.Aif ∷ verb.Plan ∷ verb.Load ∷ verb.Convert ∷ verb.Verify ∷ []

-- the verb that is named so. No name is shortened
abbrev pub verb_among : List Verb → Word → Option Verb
verb_among vs w = find (λ v. bytes_eq (verb_name v) w) vs

abbrev pub options_of : Verb → List Argument
options_of verb.Run = Stages ∷ Workers ∷ Ring ∷ MaxSteps ∷ Witness ∷ []
options_of verb.Check = Strict ∷ []
options_of verb.Plan = Stages ∷ []
options_of verb.Load = Seed ∷ Steps ∷ Stages ∷ Workers ∷ Ring ∷ []
options_of verb.Convert = To ∷ []
options_of _ = []

-- ---- each command, from what its arguments are given

abbrev pub layout_with : Option ℕ → Option ℕ → Option ℕ → Option Layout
layout_with (Some stages) (Some workers) (Some ring) = Some (record { stages = stages; workers = workers; ring = ring })
layout_with _ _ _ = None

abbrev pub layout_in : Given → Option Layout
layout_in g = layout_with (number_in Stages (Some 1) 1 16 g) (number_in Workers (Some 1) 1 16 g) (number_in Ring (Some 4) 1 64 g)

abbrev pub run_with : Option Word → Option Layout → Option ℕ → Option Bool → Option Command
run_with (Some name) (Some l) (Some max_steps) (Some witness) = Some (Run name l.stages l.workers l.ring max_steps witness)
run_with _ _ _ _ = None

abbrev pub run_in : Given → Option Command
run_in g = run_with (module_in g) (layout_in g) (number_in MaxSteps (Some 4294967295) 1 4294967295 g) (flag_in Witness g)

abbrev pub check_with : Option Word → Option Bool → Option Command
check_with (Some name) (Some strict) = Some (Check name strict)
check_with _ _ = None

abbrev pub plan_with : Option Word → Option ℕ → Option Command
plan_with (Some name) (Some stages) = Some (Plan name stages)
plan_with _ _ = None

abbrev pub load_with : Option Word → Option ℕ → Option ℕ → Option Layout → Option Command
load_with (Some name) (Some seed) (Some steps) (Some l) = Some (Load name seed steps l.stages l.workers l.ring)
load_with _ _ _ _ = None

abbrev pub convert_with : Option Word → Option ℕ → Option Command
convert_with (Some name) (Some to) = Some (Convert name to)
convert_with _ _ = None

abbrev pub check_in : Given → Option Command
check_in g = check_with (module_in g) (flag_in Strict g)

abbrev pub plan_in : Given → Option Command
plan_in g = plan_with (module_in g) (number_in Stages None 1 16 g)

abbrev pub load_in : Given → Option Command
load_in g = load_with (module_in g) (number_in Seed None 0 18446744073709551615 g) (number_in Steps None 1 1000000 g) (layout_in g)

abbrev pub convert_in : Given → Option Command
convert_in g = convert_with (module_in g) (number_in To None 1 2 g)

abbrev pub command_in : Verb → Given → Option Command
command_in verb.Run g = run_in g
command_in verb.Check g = check_in g
command_in verb.Aif g = option_map Aif (module_in g)
command_in verb.Plan g = plan_in g
command_in verb.Load g = load_in g
command_in verb.Convert g = convert_in g
command_in verb.Verify g = option_map Verify (module_in g)

-- the command that the words are
abbrev pub meant : List Word → Option Command
meant [] = None
meant (w ∷ ws) = option_and_then (λ v. option_and_then (command_in v) (given_by_words (options_of v) ws)) (verb_among verbs w)

-- the command, unless it is a run with a witness
abbrev pub without_witness : Command → Option Command
without_witness (Run _ _ _ _ _ true) = None
without_witness c = Some c

-- the run that the words are to the resident program: `stay` in place of `run`, and no witness
abbrev pub meant_to_stay : List Word → Option Command
meant_to_stay [] = None
meant_to_stay (w ∷ ws) = if bytes_eq w (codes "stay") then option_and_then without_witness (meant (codes "run" ∷ ws)) else None

-- the answer is this command, or Usage where it is none, but for want of memory
abbrev pub Answers : Option Command → Result Command WordsFault → Type 0
Answers m (Ok c) = m ≡ Some c
Answers m (Err fault.Usage) = m ≡ None
Answers m (Err fault.NoMemory) = ⊤
