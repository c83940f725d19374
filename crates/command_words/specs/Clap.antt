-- The command of clap that takes the options, as its parse reads it, and what it finds.
use Rattle.std.specs.Prelude.{ℕ, List, [], ◌∷◌, ◌++◌, map, Some, option_map, unwrap_or, if◌then◌else◌, codes, true}
use Rattle.clap.specs.Matches.{found_of, matched_of, raw_values}
use Rattle.clap.specs.declared.parser.matches.ArgMatches.{ArgMatches}
use Rattle.clap.specs.Words.{App, Rule, new_app, new_rule}
use Rattle.clap.specs.declared.builder.action.ArgAction.TheVariants.{Append}
use Rattle.command_words.specs.declared.arguments.Argument.{Argument}
use Rattle.command_words.specs.declared.arguments.Argument.TheVariants.{Module}
use Rattle.command_words.specs.Arguments.{Given, name_of, takes_value}

abbrev pub values_of : Argument → ℕ
values_of a = if takes_value a then 1 else 0

abbrev pub option_rule : Argument → Rule
option_rule a = record (new_rule (name_of a)) {
  long = Some (name_of a);
  action = Some Append;
  range = Some (record { start_inclusive = values_of a; end_inclusive = values_of a });
  missing = [] ∷ [];
}

abbrev pub module_rule : Rule
module_rule = record (new_rule (name_of Module)) { action = Some Append }

abbrev pub app_with : List Rule → App
app_with rules = record {
  top = record (new_app (codes "averest")).top { disable_help_flag = true; disable_version_flag = true; rules = rules };
  subs = [];
}

abbrev pub app : List Argument → App
app options = app_with (map option_rule options ++ module_rule ∷ [])

-- what each argument is given, as clap found it
abbrev pub given_in : ArgMatches → Given
given_in m a = unwrap_or (option_map raw_values (matched_of (found_of m) (name_of a))) []
