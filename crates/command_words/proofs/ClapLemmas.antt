-- What clap finds is what the grammar gives.
--
-- The plan. Each argument is told to clap so that its uses are kept in their order, and none is refused for being a second
-- one. So a parse has one row of texts for each argument that is given, and what the grammar gives to an argument are the
-- texts of its row. How often an argument may be given, and which numbers are good, is asked afterwards, and not here.
--
-- 1. The rows: a use of an option or a module adds its texts to the row of its name, and to no other.
-- 2. The command that clap builds of the options, and that each of its searches finds the option that the grammar finds.
-- 3. The walk over the words keeps rows, a use that is not yet added, and what waits for a value. `got` says at once whether
--    the walk from some place on meets a fault and, if not, what the rows tell at its end.
-- 4. One word: how each kind of word (`--`, a long option, a short one, any other) changes the walk, or where it is a fault.
-- 5. What a word looks like: `lexed` sorts the words into these kinds, for the tests of clap and for those of the grammar.
-- 6. All words: `tied` says by one induction over the words that `got` is what the grammar gives. It has two parts, for
--    a walk at which anything may follow and for one at which the value of an option has to.
-- 7. What a parse comes to: behind the walk nothing else fails and nothing else changes a row. So `as_given` says that a
--    parse fails exactly where the words give nothing, and else has what they give; `given_found` and `not_given` say
--    the same in the words of clap's contract.
use Rattle.std.proofs.Common.{◌≡◌, ◌∙◌, ◌&&◌, ◌||◌, ◌==◌, ◌<◌, ◌++◌, ℕ, Bool, cond, true, false, suc, refl, sym, ap, subst, arith, drop, take, ◌+◌, ◌≢◌, ⊎_elim, List, [], ◌∷◌, map, length, Option, Some, None, option_map, append-nil, append_assoc, true≢false, codes}
use Rattle.std.proofs.Math.Path.{fun_ext}
use Rattle.std.specs.Prelude.{⊤, not, is_some, unwrap_or, slice_get, option_and_then, IsUtf8}
use Rattle.std.specs.List.{All, slice_index_or, count_by, find, fold, list_all, list_any}
use Rattle.std.specs.Option.{option_map_or}
use Rattle.std.specs.Str.{bytes_eq, chars}
use Rattle.std.proofs.lemmas.Str.{IsUtf8-drop, IsCharBoundary-after_ascii, encodes-chars}
use Rattle.std.proofs.lemmas.Bool.Decides.{nat_tests}
use Rattle.std.proofs.lemmas.Slice.Eq.{bytes_eq-Decides}
use Rattle.clap.specs.Lexer.{long_of, short_of}
use Rattle.clap.specs.Matches.{found_of}
use Rattle.clap.specs.Values.{kind_of}
use Rattle.clap.proofs.WalkLemmas.{both, raw_values-rows}
use Rattle.clap.specs.Kinds.{HasKind, Kinds, IsAmong, or_else}
use Rattle.clap.specs.declared.error.Error.{Error}
use Rattle.clap.specs.declared.parser.matches.ArgMatches.{ArgMatches}
use Rattle.std.specs.Borrow.{Bor}
use Rattle.std.proofs.lemmas.List.{map-append, take_more}
use Rattle.clap.specs.Walk.{Held, finished, has_row, is_early_multiple, rows_after, rows_of, Row, Rule, Waiting, idle, option, positional, Walk, all_of, arg_by_id, arg_by_index, arg_by_long, arg_by_short, more_values, nothing_held, reading_by, settled, settled_rows, subcommand_met, Step, value, trailing, after_step, after_flag, long_met, word_met, long_word, plain_word, used, values_or_missing, walk_from, walked, with_values, with_default}
use Rattle.clap.specs.Takes.{is_given}
use Rattle.clap.specs.Simple.{App, HasMatchesOf, Shape, is_simple, entered, is_buildable, is_ready, is_ready_leaf, built, filled_from, marked_built, matches_of, names_of, new_rule, with_leaf_noted}
use Rattle.clap.specs.Faults.{built_fault, entered_fault, level_fault, defaults_fault, fault_of, flags_fault, is_free_app, is_simple_and_free, long_fault, settle_fault, step_fault, turn_fault, walk_fault, word_fault}
use Rattle.clap.specs.declared.builder.action.ArgAction.TheVariants.{Append}
use Rattle.clap.specs.declared.builder.value_parser.Reading.{Reading}
use Rattle.clap.specs.declared.builder.value_parser.ValueParser.TheVariants as vp
use Rattle.clap.specs.declared.parser.matches.ValueSource.TheVariants.{CommandLine}
use Rattle.clap.specs.declared.error.kind.ErrorKind.{ErrorKind}
use Rattle.clap.specs.declared.error.kind.ErrorKind.TheVariants as kind
use Rattle.command_words.specs.declared.arguments.Argument.{Argument}
use Rattle.command_words.specs.declared.arguments.Argument.TheVariants.{Module}
use Rattle.command_words.specs.Arguments.{Word, Entry, Given, Anywhere, Behind, OnlyModules, name_of, takes_value, is_option, behind_hyphens, name_and_value, option_named, option_step, entries, entries_behind, and_entry, given_by, given_by_words}
use Rattle.command_words.specs.Clap.{values_of, option_rule, module_rule, app_with, app, given_in}

-- ---- texts

same : (a b : Word) → bytes_eq a b ≡ true → a ≡ b
same a b = (bytes_eq-Decides a b).0

itself : (a : Word) → bytes_eq a a ≡ true
itself a = (bytes_eq-Decides a a).1 refl

-- ---- 1. the rows

-- the texts, if they are given to this one
abbrev if_named : Word → List Word → Word → List Word
if_named id texts other = cond (bytes_eq id other) texts []

abbrev texts_in : List Row → Word → List Word
texts_in rows id = unwrap_or (all_of id rows) []

texts_first : (r : Row) (rows : List Row) (id : Word) → texts_in (r ∷ rows) id ≡ cond (bytes_eq r.id id) r.values (texts_in rows id)
texts_first r rows id = go (bytes_eq r.id id)
  where
    go : (b : Bool) → unwrap_or (option_map (λ (q : Row). q.values) (cond b (Some r) (find (λ q. bytes_eq q.id id) rows))) [] ≡ cond b r.values (texts_in rows id)
    go true = refl
    go false = refl

-- a use adds its texts to those of its argument
texts_added : (id : Word) (how : Reading) (texts : List Word) (rows : List Row) (other : Word) → texts_in (with_values id how CommandLine texts rows) other ≡ texts_in rows other ++ if_named id texts other
texts_added id how texts [] other = texts_first _ [] other
texts_added id how texts (r ∷ rows) other = go (bytes_eq r.id id) refl (texts_added id how texts rows other)
  where
    rest : List Row
    rest = with_values id how CommandLine texts rows

    here : (b : Bool) → cond b (r.values ++ texts) (texts_in rows other) ≡ cond b r.values (texts_in rows other) ++ cond b texts []
    here true = refl
    here false = sym (append-nil _)

    later : bytes_eq r.id id ≡ false → (b : Bool) → bytes_eq r.id other ≡ b
        → cond b r.values (texts_in rows other ++ if_named id texts other) ≡ cond b r.values (texts_in rows other) ++ if_named id texts other
    later e false f = refl
    later e true f = go2 (bytes_eq id other) refl
      where
        go2 : (d : Bool) → bytes_eq id other ≡ d → r.values ≡ r.values ++ cond d texts []
        go2 false g = sym (append-nil _)
        go2 true g = absurd (true≢false (sym (ap (λ y. bytes_eq y id) (same r.id other f ∙ sym (same id other g)) ∙ itself id) ∙ e))

    go : (b : Bool) → bytes_eq r.id id ≡ b → texts_in rest other ≡ texts_in rows other ++ if_named id texts other
        → texts_in (cond b (more_values CommandLine texts r ++ rows) (r ∷ rest)) other ≡ texts_in (r ∷ rows) other ++ if_named id texts other
    go true e ih = texts_first _ rows other ∙ rw (texts_first r rows other, ← same r.id id e) (here (bytes_eq r.id other))
    go false e ih = texts_first r rest other ∙ rw (texts_first r rows other, ih) (later e (bytes_eq r.id other) refl)

-- ---- 2. the command that is built

abbrev made : (id : Word) (long : Option Word) (values : ℕ) (missing : List Word) (index : Option ℕ) → Rule
made id long values missing index = record (new_rule id) {
  long = long;
  action = Some Append;
  range = Some (record { start_inclusive = values; end_inclusive = values });
  missing = missing;
  parser = Some vp.String;
  index = index;
}

abbrev option_made : Argument → Rule
option_made a = made (name_of a) (Some (name_of a)) (values_of a) ([] ∷ []) None

abbrev module_made : Rule
module_made = made (name_of Module) None 1 [] (Some 1)

abbrev rules : List Argument → List Rule
rules options = map option_made options ++ module_made ∷ []

abbrev shape : List Rule → Shape
shape rs = record (with_leaf_noted (marked_built (app_with rs).top)) { rules = rs }

all_filled : (options : List Argument) → filled_from 1 (map option_rule options ++ module_rule ∷ []) ≡ rules options
all_filled [] = refl
all_filled (a ∷ rest) = ap (λ rs. option_made a ∷ rs) (all_filled rest)

is_built : (options : List Argument) → ◌≡◌ {A = App} (built (app options)) (record { top = shape (rules options); subs = [] })
is_built options = ap (λ rs. record { top = shape rs; subs = [] }) (all_filled options)

abbrev option_or : List Argument → Word → Option Rule → Option Rule
option_or options id other = option_map_or (λ a. Some (option_made a)) (option_named options id) other

by_long : (options : List Argument) (name : Word) → arg_by_long (rules options) name ≡ option_map option_made (option_named options name)
by_long [] name = refl
by_long (a ∷ rest) name = go (bytes_eq (name_of a) name) (by_long rest name)
  where
    go : (b : Bool) → arg_by_long (rules rest) name ≡ option_map option_made (option_named rest name)
        → cond (b || false) (Some (option_made a)) (arg_by_long (rules rest) name) ≡ option_map option_made (cond b (Some a) (option_named rest name))
    go true ih = refl
    go false ih = ih

by_short : (options : List Argument) (c : ℕ) → arg_by_short (rules options) c ≡ None
by_short [] c = refl
by_short (a ∷ rest) c = by_short rest c

by_place : (options : List Argument) → arg_by_index (rules options) 1 ≡ Some module_made
by_place [] = refl
by_place (a ∷ rest) = by_place rest

by_id : (options : List Argument) (id : Word) → arg_by_id (rules options) id ≡ option_or options id (arg_by_id (module_made ∷ []) id)
by_id [] id = refl
by_id (a ∷ rest) id = go (bytes_eq (name_of a) id) (by_id rest id)
  where
    go : (b : Bool) → arg_by_id (rules rest) id ≡ option_or rest id (arg_by_id (module_made ∷ []) id)
        → cond b (Some (option_made a)) (arg_by_id (rules rest) id) ≡ option_map_or (λ x. Some (option_made x)) (cond b (Some a) (option_named rest id)) (arg_by_id (module_made ∷ []) id)
    go true ih = refl
    go false ih = ih

-- an option that is found is found by its own name
found_named : (options : List Argument) (name : Word) (a : Argument) → option_named options name ≡ Some a → name_of a ≡ name
found_named [] name a e = absurd cc
found_named (o ∷ rest) name a e = go (bytes_eq (name_of o) name) refl (found_named rest name a) e
  where
    go : (b : Bool) → bytes_eq (name_of o) name ≡ b → (option_named rest name ≡ Some a → name_of a ≡ name) → cond b (Some o) (option_named rest name) ≡ Some a → name_of a ≡ name
    go true h ih f = let g : o ≡ a = cc in rw (← g) (same _ _ h)
    go false h ih f = ih f

found_itself : (options : List Argument) (name : Word) (a : Argument) → option_named options name ≡ Some a → option_named options (name_of a) ≡ Some a
found_itself options name a e = rw (found_named options name a e) e

option_here : (options : List Argument) (a : Argument) → option_named options (name_of a) ≡ Some a → arg_by_id (rules options) (name_of a) ≡ Some (option_made a)
option_here options a e = by_id options (name_of a) ∙ ap (λ o. option_map_or (λ x. Some (option_made x)) o (arg_by_id (module_made ∷ []) (name_of a))) e

module_here : (options : List Argument) → option_named options (name_of Module) ≡ None → arg_by_id (rules options) (name_of Module) ≡ Some module_made
module_here options free = by_id options (name_of Module) ∙ ap (λ o. option_map_or (λ x. Some (option_made x)) o (Some module_made)) free

-- ---- 3. the walk of clap

abbrev Pending : Type 0
Pending = Option (Word × List Word)

abbrev held : List Row → Pending → Held
held rows pending = record { rows = rows; pending = pending; skip = 0 }

abbrev at : Bool → Waiting → List Row → Pending → Walk
at is_trailing waiting rows pending = record { held = held rows pending; waiting = waiting; position = 1; is_trailing = is_trailing; stopped = None }

abbrev unless : Kinds → Given → Option Given
unless [] g = Some g
unless (k ∷ ks) g = None

abbrev rows_given : List Row → Given
rows_given rows a = texts_in rows (name_of a)

abbrev end_of : List Rule → Walk → List Word → Walk
end_of c w words = fold (walked c []) w words

-- what the arguments are given by the words from here on; none where a step fails
abbrev got : List Rule → Walk → List Word → Option Given
got c w words =
    unless (or_else (walk_fault (shape c) [] w words) (settle_fault c false (end_of c w words).held)) (rows_given (settled c (end_of c w words).held).rows)

module _ (c : List Rule) (w : Walk) (x : Word) (rest : List Word) where
  got_from : Kinds → Walk → Option Given
  got_from ks after =
      unless (or_else (or_else ks (walk_fault (shape c) [] after rest)) (settle_fault c false (end_of c after rest).held)) (rows_given (settled c (end_of c after rest).held).rows)

  got_by : (ks : Kinds) (after : Walk) → (turn_fault (shape c) [] w x ≡ ks) × (walked c [] w x ≡ after) → got c w (x ∷ rest) ≡ got_from ks after
  unfolding got_from walk_fault
  got_by ks after e = λ i. got_from (e.0 i) (e.1 i)

  got_next : (after : Walk) → (turn_fault (shape c) [] w x ≡ []) × (walked c [] w x ≡ after) → got c w (x ∷ rest) ≡ got c after rest
  unfolding got_from
  got_next after e = got_by [] after e

  got_none : (k : ErrorKind) (ks : Kinds) → turn_fault (shape c) [] w x ≡ k ∷ ks → got c w (x ∷ rest) ≡ None
  unfolding got_from
  got_none k ks e = got_by (k ∷ ks) _ (e, refl)

no_subcommand : (waiting : Waiting) (x : Word) → subcommand_met [] waiting x ≡ None
no_subcommand idle x = refl
no_subcommand (option id) x = refl
no_subcommand positional x = refl

-- ---- 4. one word

module _ (c : List Rule) (waiting : Waiting) (x : Word) (h : Held) where
  record Met (trailing : Bool) (ks : Kinds) (after : Held × Step) : Type 0 where
    fails : word_fault (shape c) [] trailing waiting x h ≡ ks
    is : word_met c [] trailing waiting 1 x h ≡ after

  separator : bytes_eq x (codes "--") ≡ true → Met false [] (h, trailing 1)
  separator e = record { fails = rw (no_subcommand waiting x, e) refl; is = rw (no_subcommand waiting x, e) refl }

  long : (name : Word) (v : Option Word) → bytes_eq x (codes "--") ≡ false → long_of x ≡ Some (name, v)
      → Met false (long_fault c false (arg_by_long c name) v h) (long_word c waiting x name v h)
  long name v e l = record { fails = rw (no_subcommand waiting x, e, l) refl; is = rw (no_subcommand waiting x, e, l) refl }

  plain_one : bytes_eq x (codes "--") ≡ false → long_of x ≡ None → short_of x ≡ None → Met false [] (plain_word c waiting x h)
  plain_one e l s = record { fails = rw (no_subcommand waiting x, e, l, s) refl; is = rw (no_subcommand waiting x, e, l, s) refl }

  behind_separator : Met true [] (h, value)
  behind_separator = record { fails = refl; is = refl }

module _ (c : List Rule) (waiting : Waiting) (rows : List Row) (pending : Pending) (x : Word) (t : Bool) where
  turned : (ks : Kinds) (after : Held × Step) → Met c waiting x (held rows pending) t ks after
      → (turn_fault (shape c) [] (at t waiting rows pending) x ≡ or_else ks (step_fault (shape c) 1 after.0 after.1))
      × (walked c [] (at t waiting rows pending) x ≡ after_step c x (at t waiting rows pending) after.0 after.1)
  unfolding walked
  turned ks after m = (rw (m.fails, m.is) refl, rw m.is refl)

-- what is held stands for what has been given: the pending use is fine, and makes the rows tell it
record Tells (c : List Rule) (rows : List Row) (pending : Pending) (before : Given) : Type 0 where
  passes : settle_fault c false (held rows pending) ≡ []
  texts : (a : Argument) → rows_given (settled_rows c pending rows) a ≡ before a

abbrev more : Given → Word → List Word → Given
more before id texts a = before a ++ if_named id texts (name_of a)

module _ (c : List Rule) (id : Word) (long : Option Word) (n : ℕ) (missing : List Word) (index : Option ℕ) (rows : List Row) (before : Given) where
  tells_used : (texts : List Word) → ((a : Argument) → rows_given rows a ≡ before a)
      → Tells c (used (made id long n missing index) texts rows) None (more before id (values_or_missing (made id long n missing index) texts))
  tells_used texts h = record {
    passes = refl;
    texts = λ a. texts_added id (reading_by (made id long n missing index)) (values_or_missing (made id long n missing index) texts) rows (name_of a) ∙ ap (λ ts. ts ++ if_named id (values_or_missing (made id long n missing index) texts) (name_of a)) (h a);
  }

  tells_pending : (x : Word) → n ≡ 1 → arg_by_id c id ≡ Some (made id long n missing index) → ((a : Argument) → rows_given rows a ≡ before a)
      → Tells c rows (Some (id, x ∷ [])) (more before id (x ∷ []))
  tells_pending x one here h = record {
    passes = rw (here, one) refl;
    texts = λ a. rw here (texts_added id (reading_by (made id long n missing index)) (x ∷ []) rows (name_of a) ∙ ap (λ ts. ts ++ if_named id (x ∷ []) (name_of a)) (h a));
  }

-- an option without its value is refused when the next word comes, or at the end
unfilled : (options : List Argument) (a : Argument) (rows : List Row) → option_named options (name_of a) ≡ Some a → takes_value a ≡ true
    → settle_fault (rules options) false (held rows (Some (name_of a, []))) ≡ kind.InvalidValue ∷ []
unfilled options a rows here takes = rw (option_here options a here, takes) refl

and_false : (b : Bool) → (b && false) ≡ false
and_false true = refl
and_false false = refl

or_false : (b : Bool) → (b || false) ≡ b
or_false true = refl
or_false false = refl

-- a word that is no option goes to the modules
module _ (options : List Argument) (waiting : Waiting) (rows : List Row) (pending : Pending) (x : Word) (t : Bool) where
  abbrev c : List Rule
  c = rules options

  abbrev here : Walk
  here = at t waiting rows pending

  to_module : Met c waiting x (held rows pending) t [] (held rows pending, value) → settle_fault c false (held rows pending) ≡ []
      → (turn_fault (shape c) [] here x ≡ []) × (walked c [] here x ≡ at t positional (settled_rows c pending rows) (Some (name_of Module, x ∷ [])))
  to_module m passes =
      let e = turned c waiting rows pending x t [] (held rows pending, value) m in (
        e.0 ∙ rw (by_place options, and_false, passes) refl,
        e.1 ∙ rw (by_place options, and_false, or_false t) refl,
      )

  refused_module : (k : ErrorKind) (ks : Kinds) → Met c waiting x (held rows pending) t [] (held rows pending, value) → settle_fault c false (held rows pending) ≡ k ∷ ks
      → turn_fault (shape c) [] here x ≡ k ∷ ks
  refused_module k ks m fails =
      let e = turned c waiting rows pending x t [] (held rows pending, value) m in e.0 ∙ rw (by_place options, and_false, fails) refl

-- a word that spells an option
module _ (options : List Argument) (waiting : Waiting) (rows : List Row) (pending : Pending) (x : Word) (name : Word)
    (apart : bytes_eq x (codes "--") ≡ false) where
  abbrev w : Walk
  w = at false waiting rows pending

  abbrev now : List Row
  now = settled_rows (rules options) pending rows

  abbrev Goes : Walk → Type 0
  Goes after = (turn_fault (shape (rules options)) [] w x ≡ []) × (walked (rules options) [] w x ≡ after)

  abbrev Fails : Type 0
  Fails = (k : ErrorKind) × (ks : Kinds) × (turn_fault (shape (rules options)) [] w x ≡ k ∷ ks)

  -- what the walk holds behind the word, and how it goes on
  abbrev behind : Option Word → Option Argument → Held × Step
  behind v o =
      let met = long_met (rules options) (option_map option_made o) v w.held in after_flag (rules options) waiting x met.0 met.1

  spelled : (v : Option Word) → long_of x ≡ Some (name, v) → (o : Option Argument) → option_named options name ≡ o
      → (turn_fault (shape (rules options)) [] w x ≡ or_else (long_fault (rules options) false (option_map option_made o) v w.held)
      (step_fault (shape (rules options)) 1 (behind v o).0 (behind v o).1))
      × (walked (rules options) [] w x ≡ after_step (rules options) x w (behind v o).0 (behind v o).1)
  spelled v l o e =
      let t = turned (rules options) waiting rows pending x false _ _ (long (rules options) waiting x w.held name v apart l) in
      let f = by_long options name ∙ ap (option_map option_made) e in
      (rw f at t.0, rw f at t.1)

  unknown : (v : Option Word) → long_of x ≡ Some (name, v) → option_named options name ≡ None → Fails
  unknown v l e = (_, _, (spelled v l None e).0)

  no_value : (v : Word) (a : Argument) → long_of x ≡ Some (name, Some v) → option_named options name ≡ Some a → takes_value a ≡ false → Fails
  no_value v a l e takes = (kind.TooManyValues, [], (spelled (Some v) l (Some a) e).0 ∙ rw takes refl)

  module _ (a : Argument) (e : option_named options name ≡ Some a) (passes : settle_fault (rules options) false w.held ≡ []) where
    with_value : (v : Word) → long_of x ≡ Some (name, Some v) → takes_value a ≡ true → Goes (at false idle (used (option_made a) (v ∷ []) now) None)
    with_value v l takes = let t = spelled (Some v) l (Some a) e in (t.0 ∙ rw (takes, passes) refl, t.1 ∙ rw takes refl)

    as_flag : long_of x ≡ Some (name, None) → takes_value a ≡ false → Goes (at false idle (used (option_made a) [] now) None)
    as_flag l takes = let t = spelled None l (Some a) e in (t.0 ∙ rw (takes, passes) refl, t.1 ∙ rw takes refl)

    waits_for : long_of x ≡ Some (name, None) → takes_value a ≡ true → Goes (at false (option (name_of a)) now (Some (name_of a, [])))
    waits_for l takes = let t = spelled None l (Some a) e in (t.0 ∙ rw (takes, passes) refl, t.1 ∙ rw takes refl)

  -- where the pending use is refused, each option is
  stopped : (v : Option Word) → long_of x ≡ Some (name, v) → (k : ErrorKind) (ks : Kinds) → settle_fault (rules options) false w.held ≡ k ∷ ks → Fails
  stopped v l k ks fails = go v (option_named options name) l refl
    where
      by_kind : (v : Option Word) (a : Argument) → long_of x ≡ Some (name, v) → option_named options name ≡ Some a → (b : Bool) → takes_value a ≡ b → Fails
      by_kind (Some v) a m e false takes = no_value v a m e takes
      by_kind (Some v) a m e true takes = (k, ks, (spelled (Some v) m (Some a) e).0 ∙ rw (takes, fails) refl)
      by_kind None a m e false takes = (k, ks, (spelled None m (Some a) e).0 ∙ rw (takes, fails) refl)
      by_kind None a m e true takes = (k, ks, (spelled None m (Some a) e).0 ∙ rw (takes, fails) refl)

      go : (v : Option Word) (o : Option Argument) → long_of x ≡ Some (name, v) → option_named options name ≡ o → Fails
      go v None m e = unknown v m e
      go v (Some a) m e = by_kind v a m e (takes_value a) refl

-- a word of one hyphen is no option, since none has a short name
short_refused : (options : List Argument) (waiting : Waiting) (rows : List Row) (pending : Pending) (x : Word) (f : ℕ) (rest : Word) (d : ℕ)
    → bytes_eq x (codes "--") ≡ false → long_of x ≡ None → short_of x ≡ Some (f ∷ rest) → slice_get (chars (f ∷ rest)) 0 ≡ Some d
    → turn_fault (shape (rules options)) [] (at false waiting rows pending) x ≡ kind.UnknownArgument ∷ []
unfolding flags_fault
short_refused options waiting rows pending x f rest d apart l s first =
    (turned (rules options) waiting rows pending x false (kind.UnknownArgument ∷ []) _
    (record { fails = rw (no_subcommand waiting x, apart, l, s, first, by_short options d) refl; is = refl })).0

-- a value in the next word
value_taken : (options : List Argument) (a : Argument) (rows : List Row) (x : Word) → option_named options (name_of a) ≡ Some a → takes_value a ≡ true
    → bytes_eq x (codes "--") ≡ false → long_of x ≡ None → short_of x ≡ None
    → (turn_fault (shape (rules options)) [] (at false (option (name_of a)) rows (Some (name_of a, []))) x ≡ [])
    × (walked (rules options) [] (at false (option (name_of a)) rows (Some (name_of a, []))) x ≡ at false idle rows (Some (name_of a, x ∷ [])))
value_taken options a rows x here takes apart l s =
    let waiting = option (name_of a) in
    let h = held rows (Some (name_of a, [])) in
    let t = turned (rules options) waiting rows (Some (name_of a, [])) x false [] (plain_word (rules options) waiting x h) (plain_one (rules options) waiting x h apart l s) in
    (t.0, t.1 ∙ rw (option_here options a here, itself (name_of a), takes) refl)

-- an option whose value doesn't come before `--` gets none
never_filled : (options : List Argument) (a : Argument) (waiting : Waiting) (rows : List Row) → option_named options (name_of a) ≡ Some a → takes_value a ≡ true
    → (words : List Word) → got (rules options) (at true waiting rows (Some (name_of a, []))) words ≡ None
unfolding walk_fault
never_filled options a waiting rows here takes [] = rw (unfilled options a rows here takes) refl
never_filled options a waiting rows here takes (x ∷ rest) =
    got_none (rules options) (at true waiting rows (Some (name_of a, []))) x rest _ _
    (refused_module options waiting rows (Some (name_of a, [])) x true kind.InvalidValue [] (behind_separator (rules options) waiting x (held rows (Some (name_of a, [])))) (unfilled options a rows here takes))

-- ---- 5. what a word looks like

data Lexed (x : Word) : Type 0 where
  a_separator : bytes_eq x (codes "--") ≡ true → is_option x ≡ true → Lexed x
  a_long : (text : Word) → bytes_eq x (codes "--") ≡ false → is_option x ≡ true → behind_hyphens x ≡ Some text → long_of x ≡ Some (name_and_value text) → Lexed x
  a_short : (f : ℕ) (rest : Word) → bytes_eq x (codes "--") ≡ false → is_option x ≡ true → behind_hyphens x ≡ None → long_of x ≡ None → short_of x ≡ Some (f ∷ rest)
      → x ≡ 45 ∷ f ∷ rest → Lexed x
  a_plain : bytes_eq x (codes "--") ≡ false → is_option x ≡ false → long_of x ≡ None → short_of x ≡ None → Lexed x

equal : (c d : ℕ) → (c == d) ≡ true → c ≡ d
equal c d e = grind (arith, nat_tests)

lexed : (x : Word) → Lexed x
lexed [] = a_plain refl refl refl refl
lexed (c ∷ []) = go (c == 45) refl
  where
    go : (b : Bool) → (c == 45) ≡ b → Lexed (c ∷ [])
    go true e = a_plain (rw e refl) refl (rw e refl) (rw e refl)
    go false e = a_plain (rw e refl) refl (rw e refl) (rw e refl)
lexed (c ∷ d ∷ []) = go (c == 45) (d == 45) refl refl
  where
    go : (b g : Bool) → (c == 45) ≡ b → (d == 45) ≡ g → Lexed (c ∷ d ∷ [])
    go true true e f = a_separator (rw (e, f) refl) e
    go true false e f = a_short d [] (rw (e, f) refl) e (rw (e, f) refl) (rw (e, f) refl) (rw (e, f) refl) (ap (λ y. y ∷ d ∷ []) (equal c 45 e))
    go false g e f = a_plain (rw e refl) e (rw e refl) (rw e refl)
lexed (c ∷ d ∷ g ∷ rest) = go (c == 45) (d == 45) refl refl
  where
    go : (b h : Bool) → (c == 45) ≡ b → (d == 45) ≡ h → Lexed (c ∷ d ∷ g ∷ rest)
    go true true e f = a_long (g ∷ rest) (rw (e, f) refl) e (rw (e, f) refl) (rw (e, f) refl)
    go true false e f = a_short d (g ∷ rest) (rw (e, f) refl) e (rw (e, f) refl) (rw (e, f) refl) (rw (e, f) refl) (ap (λ y. y ∷ d ∷ g ∷ rest) (equal c 45 e))
    go false h e f = a_plain (rw e refl) e (rw e refl) (rw e refl)

-- a text of characters that isn't empty has a first one
first_char : (f : ℕ) (rest : Word) → IsUtf8 (45 ∷ f ∷ rest) → (d : ℕ) × (slice_get (chars (f ∷ rest)) 0 ≡ Some d)
first_char f rest u = go (chars (f ∷ rest)) refl
  where
    behind : IsUtf8 (f ∷ rest)
    behind = IsUtf8-drop (45 ∷ f ∷ rest) 1 u (IsCharBoundary-after_ascii (45 ∷ f ∷ rest) 0 u (omega arith) (omega arith))

    go : (cs : List ℕ) → chars (f ∷ rest) ≡ cs → (d : ℕ) × (slice_get cs 0 ≡ Some d)
    go (d ∷ cs) e = (d, refl)
    go [] e = let none : ◌≡◌ {A = List ℕ} [] (f ∷ rest) = rw e at (encodes-chars (f ∷ rest) behind) in absurd cc

-- ---- 6. all words

abbrev AllText : List Word → Type 0
AllText [] = ⊤
AllText (x ∷ rest) = IsUtf8 x × AllText rest

-- what is given before, with what the words give
abbrev gives : Given → Option (List Entry) → Option Given
gives before es = option_map (λ es a. before a ++ given_by es a) es

gives_more : (before : Given) (a : Argument) (v : Word) (es : Option (List Entry)) → gives (more before (name_of a) (v ∷ [])) es ≡ gives before (option_map (and_entry (Some (a, v))) es)
gives_more before a v None = refl
gives_more before a v (Some es) = ap Some (fun_ext (λ x. go x (bytes_eq (name_of a) (name_of x))))
  where
    go : (x : Argument) (b : Bool) → (before x ++ cond b (v ∷ []) []) ++ given_by es x ≡ before x ++ cond b (v ∷ given_by es x) (given_by es x)
    go x true = append_assoc (before x) (v ∷ []) (given_by es x)
    go x false = append_assoc (before x) [] (given_by es x)

nothing_more : (before : Given) (es : Option (List Entry)) → gives before es ≡ gives before (option_map (and_entry None) es)
nothing_more before None = refl
nothing_more before (Some es) = refl

abbrev IsOpen : List Rule → Waiting → Type 0
IsOpen c waiting = (x : Word) (h : Held) → plain_word c waiting x h ≡ (h, value)

module _ (options : List Argument) (free : option_named options (name_of Module) ≡ None) where
  abbrev Open : List Word → Type 0
  Open words = (t : Bool) (waiting : Waiting) (rows : List Row) (pending : Pending) (before : Given) → IsOpen (rules options) waiting → Tells (rules options) rows pending before
      → got (rules options) (at t waiting rows pending) words ≡ gives before (entries options (cond t OnlyModules Anywhere) words)

  abbrev Waits : List Word → Type 0
  Waits words = (a : Argument) (rows : List Row) (before : Given) → option_named options (name_of a) ≡ Some a → takes_value a ≡ true
      → ((b : Argument) → rows_given rows b ≡ before b)
      → got (rules options) (at false (option (name_of a)) rows (Some (name_of a, []))) words ≡ gives before (entries options (Behind a) words)

  module _ (x : Word) (rest : List Word) (u : IsUtf8 x) (open_rest : Open rest) (waits_rest : Waits rest) where
    -- the word is a module
    of_module : (t : Bool) (waiting : Waiting) (rows : List Row) (pending : Pending) (before : Given) → Tells (rules options) rows pending before
        → Met (rules options) waiting x (held rows pending) t [] (held rows pending, value)
        → got (rules options) (at t waiting rows pending) (x ∷ rest) ≡ gives before (option_map (and_entry (Some (Module, x))) (entries options (cond t OnlyModules Anywhere) rest))
    of_module t waiting rows pending before tells m =
        let now = settled_rows (rules options) pending rows in
        got_next (rules options) (at t waiting rows pending) x rest (at t positional now (Some (name_of Module, x ∷ []))) (to_module options waiting rows pending x t m tells.passes)
        ∙ open_rest t positional now (Some (name_of Module, x ∷ [])) (more before (name_of Module) (x ∷ [])) (λ y h. refl)
        (tells_pending (rules options) (name_of Module) None 1 [] (Some 1) now before x refl (module_here options free) tells.texts)
        ∙ gives_more before Module x (entries options (cond t OnlyModules Anywhere) rest)

    -- the word spells an option
    module _ (waiting : Waiting) (rows : List Row) (pending : Pending) (before : Given) (tells : Tells (rules options) rows pending before) (apart : bytes_eq x (codes "--") ≡ false) (name : Word) where
      abbrev walk_now : Walk
      walk_now = at false waiting rows pending

      abbrev settled_now : List Row
      settled_now = settled_rows (rules options) pending rows

      fails : Fails options waiting rows pending x name apart → got (rules options) walk_now (x ∷ rest) ≡ None
      fails f = got_none (rules options) walk_now x rest f.0 f.1 f.2

      used_now : (a : Argument) (v : Word) (texts : List Word) → values_or_missing (option_made a) texts ≡ v ∷ []
          → Goes options waiting rows pending x name apart (at false idle (used (option_made a) texts settled_now) None)
          → got (rules options) walk_now (x ∷ rest) ≡ gives before (option_map (and_entry (Some (a, v))) (entries options Anywhere rest))
      used_now a v texts is goes =
          got_next (rules options) walk_now x rest (at false idle (used (option_made a) texts settled_now) None) goes
          ∙ open_rest false idle (used (option_made a) texts settled_now) None (more before (name_of a) (v ∷ [])) (λ y h. refl)
          (rw (← is) (tells_used (rules options) (name_of a) (Some (name_of a)) (values_of a) ([] ∷ []) None settled_now before texts tells.texts))
          ∙ gives_more before a v (entries options Anywhere rest)

      of_option : (v : Option Word) → long_of x ≡ Some (name, v) → (o : Option Argument) → option_named options name ≡ o
          → got (rules options) walk_now (x ∷ rest) ≡ gives before (entries_behind (option_and_then (λ a. option_step a v) o) (λ s. entries options s rest))
      of_option v l None e = fails (unknown options waiting rows pending x name apart v l e)
      of_option (Some v) l (Some a) e = go (takes_value a) refl
        where
          go : (b : Bool) → takes_value a ≡ b → got (rules options) walk_now (x ∷ rest) ≡ gives before (entries_behind (cond b (Some (Some (a, v), Anywhere)) None) (λ s. entries options s rest))
          go true takes = used_now a v (v ∷ []) refl (with_value options waiting rows pending x name apart a e tells.passes v l takes)
          go false takes = fails (no_value options waiting rows pending x name apart v a l e takes)
      of_option None l (Some a) e = go (takes_value a) refl
        where
          go : (b : Bool) → takes_value a ≡ b → got (rules options) walk_now (x ∷ rest) ≡ gives before (entries_behind (cond b (Some (None, Behind a)) (Some (Some (a, []), Anywhere))) (λ s. entries options s rest))
          go true takes =
              got_next (rules options) walk_now x rest (at false (option (name_of a)) settled_now (Some (name_of a, []))) (waits_for options waiting rows pending x name apart a e tells.passes l takes)
              ∙ waits_rest a settled_now before (found_itself options name a e) takes tells.texts ∙ nothing_more before (entries options (Behind a) rest)
          go false takes = used_now a [] [] refl (as_flag options waiting rows pending x name apart a e tells.passes l takes)

    -- the word, where options and modules may stand
    open_step : Open (x ∷ rest)
    open_step true waiting rows pending before idles tells = of_module true waiting rows pending before tells (behind_separator (rules options) waiting x (held rows pending))
    open_step false waiting rows pending before idles tells = go (lexed x)
      where
        go : Lexed x → got (rules options) (at false waiting rows pending) (x ∷ rest) ≡ gives before (entries options Anywhere (x ∷ rest))
        go (a_separator e o) = rw e (got_next (rules options) (at false waiting rows pending) x rest (at true waiting rows pending)
            (turned (rules options) waiting rows pending x false [] (held rows pending, trailing 1) (separator (rules options) waiting x (held rows pending) e))
            ∙ open_rest true waiting rows pending before idles tells ∙ nothing_more before (entries options OnlyModules rest))
        go (a_long text e o b l) = rw (e, o, b) (of_option waiting rows pending before tells e (name_and_value text).0 (name_and_value text).1 l (option_named options (name_and_value text).0) refl)
        go (a_short f more_of e o b l s is) =
            let d = first_char f more_of (subst IsUtf8 is u) in
            rw (e, o, b) (got_none (rules options) (at false waiting rows pending) x rest kind.UnknownArgument [] (short_refused options waiting rows pending x f more_of d.0 e l s d.1))
        go (a_plain e o l s) =
            let m = plain_one (rules options) waiting x (held rows pending) e l s in
            rw (e, o) (of_module false waiting rows pending before tells (record { fails = m.fails; is = m.is ∙ idles x (held rows pending) }))

    -- the word, where a value is due
    waits_step : Waits (x ∷ rest)
    waits_step a rows before here takes tells = go (lexed x)
      where
        go : Lexed x → got (rules options) (at false (option (name_of a)) rows (Some (name_of a, []))) (x ∷ rest) ≡ gives before (entries options (Behind a) (x ∷ rest))
        go (a_separator e o) = rw o (got_next (rules options) (at false (option (name_of a)) rows (Some (name_of a, []))) x rest (at true (option (name_of a)) rows (Some (name_of a, [])))
            (turned (rules options) (option (name_of a)) rows (Some (name_of a, [])) x false [] (held rows (Some (name_of a, [])), trailing 1) (separator (rules options) (option (name_of a)) x (held rows (Some (name_of a, []))) e))
            ∙ never_filled options a (option (name_of a)) rows here takes rest)
        go (a_long text e o b l) =
            let f = stopped options (option (name_of a)) rows (Some (name_of a, [])) x (name_and_value text).0 e (name_and_value text).1 l kind.InvalidValue [] (unfilled options a rows here takes) in
            rw o (got_none (rules options) (at false (option (name_of a)) rows (Some (name_of a, []))) x rest f.0 f.1 f.2)
        go (a_short f more_of e o b l s is) =
            let d = first_char f more_of (subst IsUtf8 is u) in
            rw o (got_none (rules options) (at false (option (name_of a)) rows (Some (name_of a, []))) x rest kind.UnknownArgument [] (short_refused options (option (name_of a)) rows (Some (name_of a, [])) x f more_of d.0 e l s d.1))
        go (a_plain e o l s) = rw o (got_next (rules options) (at false (option (name_of a)) rows (Some (name_of a, []))) x rest (at false idle rows (Some (name_of a, x ∷ []))) (value_taken options a rows x here takes e l s)
            ∙ open_rest false idle rows (Some (name_of a, x ∷ [])) (more before (name_of a) (x ∷ [])) (λ y h. refl)
            (tells_pending (rules options) (name_of a) (Some (name_of a)) (values_of a) ([] ∷ []) None rows before x (rw takes refl) (option_here options a here) tells)
            ∙ gives_more before a x (entries options Anywhere rest))

  open_end : Open []
  unfolding walk_fault
  open_end true waiting rows pending before idles tells = rw tells.passes (ap Some (fun_ext (λ a. tells.texts a ∙ sym (append-nil _))))
  open_end false waiting rows pending before idles tells = rw tells.passes (ap Some (fun_ext (λ a. tells.texts a ∙ sym (append-nil _))))

  waits_end : Waits []
  unfolding walk_fault
  waits_end a rows before here takes tells = rw (unfilled options a rows here takes) refl

  tied : (words : List Word) → AllText words → Open words × Waits words
  tied [] u = (open_end, waits_end)
  tied (x ∷ rest) u = let ih = tied rest u.1 in (open_step x rest u.0 ih.0 ih.1, waits_step x rest u.0 ih.0 ih.1)

  got_given : (words : List Word) → AllText words → got (rules options) (walk_from nothing_held) words ≡ given_by_words options words
  got_given words u = (tied words u).0 false idle [] None (λ a. []) (λ y h. refl) (record { passes = refl; texts = λ a. refl })

-- ---- 7. what a parse comes to

or_else_none : (ks : Kinds) → or_else ks [] ≡ ks
or_else_none [] = refl
or_else_none (k ∷ ks) = refl

no_defaults : (rows : List Row) (options : List Argument) → defaults_fault rows (rules options) ≡ []
unfolding defaults_fault
no_defaults rows options = go options
  where
    past : (b : Bool) (id : Word) (how : Reading) (ks : Kinds) (rest : List Row → Kinds) → rest rows ≡ [] → or_else (cond (b || true) [] ks) (rest (cond b rows rows)) ≡ []
    past true id how ks rest e = e
    past false id how ks rest e = e

    go : (os : List Argument) → defaults_fault rows (rules os) ≡ []
    go [] = past (has_row (name_of Module) rows) [] (reading_by module_made) _ (λ rs. defaults_fault rs []) refl
    go (a ∷ rest) = past (has_row (name_of a) rows) [] (reading_by module_made) _ (λ rs. defaults_fault rs (rules rest)) (go rest)

all_kept : (rows : List Row) (options : List Argument) → fold with_default rows (rules options) ≡ rows
all_kept rows options = go options
  where
    past : (b : Bool) (rest : List Row → List Row) → rest rows ≡ rows → rest (cond b rows rows) ≡ rows
    past true rest e = e
    past false rest e = e

    go : (os : List Argument) → fold with_default rows (rules os) ≡ rows
    go [] = past (has_row (name_of Module) rows) (λ rs. rs) refl
    go (a ∷ rest) = past (has_row (name_of a) rows) (λ rs. fold with_default rs (rules rest)) (go rest)

none_required : (rows : List Row) (options : List Argument) → list_any (λ r. r.required && not (is_given r.id rows)) (rules options) ≡ false
none_required rows [] = refl
none_required rows (a ∷ rest) = none_required rows rest

abbrev built_app : List Argument → App
built_app options = record { top = shape (rules options); subs = [] }

fault_is : (options : List Argument) (words : List Word)
    → built_fault (built_app options) nothing_held words ≡ or_else (walk_fault (shape (rules options)) [] (walk_from nothing_held) words)
    (settle_fault (rules options) false (end_of (rules options) (walk_from nothing_held) words).held)
fault_is options words = go (end_of (rules options) (walk_from nothing_held) words).stopped
  where
    end : Held
    end = (end_of (rules options) (walk_from nothing_held) words).held

    rows : List Row
    rows = (settled (rules options) end).rows

    go : (stop : Option (Word × List Word))
        → level_fault (shape (rules options)) [] nothing_held words (is_some (entered (built_app options) stop)) (entered_fault (built_app options) stop)
        ≡ or_else (walk_fault (shape (rules options)) [] (walk_from nothing_held) words) (settle_fault (rules options) false end)
    go None = rw (no_defaults rows options, none_required (finished (rules options) end) options, or_else_none (settle_fault (rules options) false end)) refl
    go (Some p) = rw (no_defaults rows options, none_required (finished (rules options) end) options, or_else_none (settle_fault (rules options) false end)) refl

-- a parse passes exactly where the words give something, and then its rows give that
module _ (options : List Argument) (free : option_named options (name_of Module) ≡ None) (words : List Word) (u : AllText (drop 1 words)) where
  abbrev faults : Kinds
  faults = fault_of (app options) words

  as_given : unless faults (rows_given (matches_of (app options) words)) ≡ given_by_words options (drop 1 words)
  as_given =
      let fault : faults ≡ or_else (walk_fault (shape (rules options)) [] (walk_from nothing_held) (drop 1 words)) (settle_fault (rules options) false (end_of (rules options) (walk_from nothing_held) (drop 1 words)).held) =
      ap (λ a. built_fault a nothing_held (drop 1 words)) (is_built options) ∙ fault_is options (drop 1 words) in
      let rows : matches_of (app options) words ≡ (settled (rules options) (end_of (rules options) (walk_from nothing_held) (drop 1 words)).held).rows =
      ap (λ (a : App). rows_after a.top.rules (names_of a) (drop 1 words)) (is_built options) ∙ all_kept _ options in
      (λ i. unless (fault i) (rows_given (rows i))) ∙ got_given options free (drop 1 words) u

  passed : (m : ArgMatches) → faults ≡ [] → rows_of (found_of m) ≡ matches_of (app options) words → given_by_words options (drop 1 words) ≡ Some (given_in m)
  passed m none is = sym as_given ∙ ap (λ ks. unless ks (rows_given (matches_of (app options) words))) none
      ∙ ap Some (fun_ext (λ a. ap (λ rows. texts_in rows (name_of a)) (sym is) ∙ ap (λ o. unwrap_or o []) (sym (raw_values-rows (found_of m) (name_of a)))))

  failed : (k : ErrorKind) → IsAmong k faults → given_by_words options (drop 1 words) ≡ None
  failed k among = sym (go faults among ∙ as_given)
    where
      go : (ks : Kinds) → IsAmong k ks → None ≡ unless ks (rows_given (matches_of (app options) words))
      go [] h = absurd h
      go (x ∷ ks) h = refl

abbrev one_place : List Argument → ℕ
one_place options = count_by (λ (r : Rule). is_some r.index) (rules options)

places : (options : List Argument) → one_place options ≡ 1
places [] = refl
places (a ∷ rest) = places rest

none_early : (options : List Argument) → list_any (is_early_multiple 1) (rules options) ≡ false
none_early [] = refl
none_early (a ∷ rest) = none_early rest

simple_before : (options : List Argument) → list_all (λ (r : Rule). r.is_simple) (map option_rule options ++ module_rule ∷ []) ≡ true
simple_before [] = refl
simple_before (a ∷ rest) = simple_before rest

simple_built : (options : List Argument) → list_all (λ (r : Rule). r.is_simple) (rules options) ≡ true
simple_built [] = refl
simple_built (a ∷ rest) = simple_built rest

free_built : (options : List Argument) → list_all (λ (r : Rule). r.is_free) (rules options) ≡ true
free_built [] = refl
free_built (a ∷ rest) = free_built rest

simple_and_free : (options : List Argument) → is_simple_and_free (app options) ≡ true
simple_and_free options =
    ap (λ (b : App). (is_buildable (app options) && (is_ready b.top && list_all is_ready_leaf b.subs)) && is_free_app b) (is_built options)
    ∙ rw (simple_before options, simple_built options, places options, none_early options, free_built options) refl

simple_only : (options : List Argument) → is_simple (app options) ≡ true
simple_only options = (both _ _ (simple_and_free options)).0

all_text : (words : List (Bor Word)) → All (λ w. IsUtf8 w.now) words → AllText (map (λ w. w.now) words)
all_text [] h = tt
all_text (w ∷ rest) h = (h 0 w (omega arith), all_text rest (λ k d l. h (suc k) d (omega arith)))

past_first : (words : List Word) → AllText words → AllText (drop 1 words)
past_first [] h = h
past_first (w ∷ rest) h = h.1

-- the same, as the clauses of a parse say it
module _ (options : List Argument) (words : List (Bor Word)) (a : App) (free : option_named options (name_of Module) ≡ None) (u : All (λ w. IsUtf8 w.now) words) (is : a ≡ app options) where
  abbrev texts : List Word
  texts = map (λ w. w.now) words

  pub given_found : (m : ArgMatches) → (is_simple_and_free a ≡ true → fault_of a texts ≡ []) → HasMatchesOf a texts m → given_by_words options (drop 1 texts) ≡ Some (given_in m)
  given_found m none has =
      passed options free texts (past_first texts (all_text words u)) m
      (subst (λ b. fault_of b texts ≡ []) is (none (ap is_simple_and_free is ∙ simple_and_free options)))
      ((has (ap is_simple is ∙ simple_only options)).0 ∙ ap (λ b. matches_of b texts) is)

  pub not_given : (e : Error) → (is_simple_and_free a ≡ true → HasKind (fault_of a texts) e) → kind_of e ≢ kind.OutOfMemory → given_by_words options (drop 1 texts) ≡ None
  not_given e has other =
      ⊎_elim (λ full. absurd (other full)) (λ among. failed options free texts (past_first texts (all_text words u)) (kind_of e) (subst (λ b. IsAmong (kind_of e) (fault_of b texts)) is among))
      (has (ap is_simple_and_free is ∙ simple_and_free options))

-- ---- lists that a loop goes through

pub mapped_more : {X Y : Type 0} (f : X → Y) (xs : List X) (i : ℕ) (d : X) → i < length xs → map f (take (i + 1) xs) ≡ map f (take i xs) ++ f (slice_index_or xs i d) ∷ []
mapped_more f xs i d l = ap (map f) (take_more xs i d l) ∙ map-append f (take i xs) (slice_index_or xs i d ∷ [])
