-- What the words behind a command's word give to its arguments.
use Rattle.std.specs.Prelude.{ℕ, Bool, true, false, ◌==◌, ◌&&◌, nat_le, List, [], ◌∷◌, Option, Some, None, option_map, option_and_then, is_some, find, if◌then◌else◌, codes}
use Rattle.std.specs.List.{list_any, before_first, after_first}
use Rattle.std.specs.Str.{bytes_eq, all_ascii_digits}
use Rattle.std.specs.Str.Parse.{digits_value, without_leading_plus}
use Rattle.command_words.specs.declared.arguments.Argument.{Argument}
use Rattle.command_words.specs.declared.arguments.Argument.TheVariants.{Module, Stages, Workers, Ring, MaxSteps, Witness, Strict, Seed, Steps, To}

abbrev pub Word : Type 0
Word = List ℕ

-- an argument with the text that it is given. An option without a value is given the empty text
abbrev pub Entry : Type 0
Entry = Argument × Word

-- as a user writes it, an option behind `--`. The module is no option
abbrev pub name_of : Argument → Word
name_of Module = codes "M"
name_of Stages = codes "stages"
name_of Workers = codes "workers"
name_of Ring = codes "ring"
name_of MaxSteps = codes "max-steps"
name_of Witness = codes "witness"
name_of Strict = codes "strict"
name_of Seed = codes "seed"
name_of Steps = codes "steps"
name_of To = codes "to"

abbrev pub takes_value : Argument → Bool
takes_value Witness = false
takes_value Strict = false
takes_value _ = true

-- ---- one word

-- where the reading of the words stands: options and modules may follow, or the value of this option, or each word is
-- a module
pub data Standing : Type 0 where
  Anywhere : Standing
  Behind : Argument → Standing
  OnlyModules : Standing

-- it begins with `-` and is longer than that
abbrev pub is_option : Word → Bool
is_option (c ∷ _ ∷ _) = c == 45
is_option _ = false

-- `name`, or `name=value`: the name, and the value if there is one
abbrev pub name_and_value : Word → Word × Option Word
name_and_value w = (
  before_first (λ c. c == 61) w,
  if list_any (λ c. c == 61) w then Some (after_first (λ c. c == 61) w) else None,
)

-- what stands behind `--`
abbrev pub behind_hyphens : Word → Option Word
behind_hyphens (c ∷ d ∷ w) = if (c == 45) && (d == 45) then Some w else None
behind_hyphens _ = None

-- the option that is named so. No name is shortened
abbrev pub option_named : List Argument → Word → Option Argument
option_named options name = find (λ a. bytes_eq (name_of a) name) options

-- what one word gives, and where the reading stands behind it
abbrev pub Step : Type 0
Step = Option Entry × Standing

-- an option with its value behind `=` or without one: its value is then the next word, if it takes one
abbrev pub option_step : Argument → Option Word → Option Step
option_step a (Some value) = if takes_value a then Some (Some (a, value), Anywhere) else None
option_step a None = if takes_value a then Some (None, Behind a) else Some (Some (a, []), Anywhere)

abbrev pub spelled_step : List Argument → Option Word → Option Step
spelled_step options None = None
spelled_step options (Some w) = option_and_then (λ a. option_step a (name_and_value w).1) (option_named options (name_and_value w).0)

-- none where the word may not stand there: an option that the command doesn't have, one with a value that it doesn't
-- take, or an option where a value is due. (A value is a number, so that `-` alone is none either.)
abbrev pub step : List Argument → Standing → Word → Option Step
step options Anywhere w =
    if bytes_eq w (codes "--") then Some (None, OnlyModules)
    else (if is_option w then spelled_step options (behind_hyphens w)
    else Some (Some (Module, w), Anywhere))
step options (Behind a) w = if is_option w then None else Some (Some (a, w), Anywhere)
step options OnlyModules w = Some (Some (Module, w), OnlyModules)

-- ---- all words

-- no option waits for its value
abbrev pub is_end : Standing → Bool
is_end (Behind _) = false
is_end _ = true

abbrev pub and_entry : Option Entry → List Entry → List Entry
and_entry None es = es
and_entry (Some e) es = e ∷ es

abbrev pub entries_behind : Option Step → (Standing → Option (List Entry)) → Option (List Entry)
entries_behind None rest = None
entries_behind (Some s) rest = option_map (and_entry s.0) (rest s.1)

-- what the words give, in their order, to a command with these options
abbrev pub entries : List Argument → Standing → List Word → Option (List Entry)
entries options standing [] = if is_end standing then Some [] else None
entries options standing (w ∷ ws) = entries_behind (step options standing w) (λ s. entries options s ws)

-- ---- the arguments

-- the texts that each argument is given
abbrev pub Given : Type 0
Given = Argument → List Word

abbrev pub given_by : List Entry → Given
given_by [] a = []
given_by (e ∷ es) a = if bytes_eq (name_of e.0) (name_of a) then e.1 ∷ given_by es a else given_by es a

-- what the words give to the arguments of a command with these options
abbrev pub given_by_words : List Argument → List Word → Option Given
given_by_words options ws = option_map given_by (entries options Anywhere ws)

abbrev pub at_most_one : List Word → Option (Option Word)
at_most_one [] = Some None
at_most_one (w ∷ []) = Some (Some w)
at_most_one _ = None

-- the one module
abbrev pub module_in : Given → Option Word
module_in g = option_and_then (λ w. w) (at_most_one (g Module))

-- whether an option without a value is given
abbrev pub flag_in : Argument → Given → Option Bool
flag_in a g = option_map is_some (at_most_one (g a))

-- ---- numbers

-- decimal digits, at least one
abbrev pub is_numeral : Word → Bool
is_numeral [] = false
is_numeral (c ∷ cs) = all_ascii_digits (c ∷ cs)

-- decimal digits, behind one `+` or not, of a number between low and high
abbrev pub number_within : (low high : ℕ) → Word → Option ℕ
number_within low high w =
    let digits = without_leading_plus w in
    let number = digits_value 10 digits in
    if is_numeral digits && (nat_le low number && nat_le number high) then Some number else None

abbrev pub number_or : Option ℕ → (low high : ℕ) → Option Word → Option ℕ
number_or default low high None = default
number_or default low high (Some w) = number_within low high w

-- the number of an option, or the default where it isn't given. An option without a default is needed
abbrev pub number_in : Argument → Option ℕ → (low high : ℕ) → Given → Option ℕ
number_in a default low high g = option_and_then (number_or default low high) (at_most_one (g a))
