-- Which texts are accepted, and which are refused by which rule.
use Rattle.std.specs.Prelude.{◌≡◌, ℕ, Bool, true, false, List, [], ◌∷◌, Option, Some, None, if◌then◌else◌}
use Rattle.quartz_tree.specs.declared.place.Place.{Place}
use Rattle.quartz_tree.specs.Least.{is_before, least_place}
use Rattle.quartz_tree.specs.Surfaces.{ModuleTree}
use Rattle.quartz_lexer.specs.Lexing.{Lexeme, Lexes, Breaks, origin, place_after}
use Rattle.quartz_parser.specs.Parsing.{DerivesText, HasText, Breaks as Stops}
use Rattle.quartz_expr.specs.Terms.{Term, term_of}
use Rattle.quartz_names.specs.Resolving.{has_call, module_name_breaks, resolved_body, resolved_vars}
use Rattle.quartz_types.specs.Rules.{first_break, with_rule}
use Rattle.causality_check.specs.Order.{HasNoCycle, IsCycleAt}
use Rattle.statement_cells.specs.Whole.{Compiled, compiled}
use Rattle.surface_depth.specs.Compiling.{is_too_large}
use Rattle.write_conflicts.specs.Loose.{Scene, IsLoosePair, later_place}

-- ---- how far a text is judged

-- by the rules S1 to S7 on its front, which is the text, its names and its kinds; by S8 and S9 on its cells too; and strictly, which
-- is by S10 as well, so that loose pairs of writes are refused
pub data Scrutiny : Type 0 where
  Front : Scrutiny
  Cells : Scrutiny
  Strict : Scrutiny

abbrev pub judges_cells : Scrutiny → Bool
judges_cells Front = false
judges_cells _ = true

-- how far a text is judged of which cells are built
abbrev pub scrutiny_of : (is_strict : Bool) → Scrutiny
scrutiny_of true = Strict
scrutiny_of false = Cells

-- ---- the text and its kinds

-- the text has these modules
pub record IsTextOf (text : List ℕ) (modules : List ModuleTree) : Type 0 where
  pub tokens : List Lexeme
  pub lexes : Lexes text tokens
  pub derives : DerivesText tokens modules

-- rule 0, which stands for 'not built yet'
abbrev pub unbuilt : Option (ℕ × Place)
unbuilt = Some (0, origin)

-- the first of the rules S3 to S7 that a module breaks, and its least place. With a call no rule is asked, since calls are not linked
-- yet
abbrev pub typing_refusal : ModuleTree → Option (ℕ × Place)
typing_refusal m =
    if has_call m.body then unbuilt
    else with_rule 3 (least_place (module_name_breaks m)) (first_break (resolved_vars m) (resolved_body m))

-- the same of a text's modules, of which there has to be one
abbrev pub refusal_of : List ModuleTree → Option (ℕ × Place)
refusal_of (m ∷ []) = typing_refusal m
refusal_of _ = unbuilt

-- the text is refused by its front: S1 where it breaks into no tokens, S2 where these derive no modules, and else the first of the
-- rules S3 to S7 that the modules break
pub data BreaksEarly : List ℕ → (rule : ℕ) → Place → Type 0 where
  by_tokens : (text : List ℕ) (p : Place) → Breaks text p → BreaksEarly text 1 p
  by_grammar : (text : List ℕ) (tokens : List Lexeme) (p : Place) → Lexes text tokens → Stops HasText tokens (place_after origin text) p → BreaksEarly text 2 p
  by_rule : (text : List ℕ) (modules : List ModuleTree) (r : ℕ) (p : Place) → IsTextOf text modules → refusal_of modules ≡ Some (r, p) → BreaksEarly text r p

-- the text is this one module, which breaks none of the rules S1 to S7
pub record IsWellTyped (text : List ℕ) (source : ModuleTree) : Type 0 where
  pub read : IsTextOf text (source ∷ [])
  pub unbroken : typing_refusal source ≡ None

-- ---- the cells

-- the term of a module
abbrev pub term_in : ModuleTree → Term
term_in m = term_of (resolved_body m)

-- what a module is compiled to
abbrev pub compiled_of : ModuleTree → Compiled
compiled_of m = compiled (resolved_vars m) (term_in m)

-- what tells of a module's actions whether they can meet
abbrev pub scene_in : ModuleTree → Scene
scene_in m = record { cells = (compiled_of m).cells; ways = (compiled_of m).paths; made = (compiled_of m).made }

-- some loose pair of a module has this place: the later of the places of its two writes
pub record IsPlaceOfPair (m : ModuleTree) (p : Place) : Type 0 where
  pub i : ℕ
  pub j : ℕ
  pub pair : IsLoosePair (scene_in m) (compiled_of m).actions i j
  pub later : later_place pair.first.place pair.second.place ≡ p

-- the least place of a loose pair
pub record IsLeastPlace (m : ModuleTree) (p : Place) : Type 0 where
  pub of_pair : IsPlaceOfPair m p
  pub none_before : (q : Place) → IsPlaceOfPair m q → is_before q p ≡ false

-- the cells of a module are not too many, and they have no cycle
pub record CanRun (m : ModuleTree) : Type 0 where
  pub fits : is_too_large (resolved_vars m) (term_in m) ≡ false
  pub acyclic : HasNoCycle (compiled_of m).cells

-- a module has no loose pair of writes
abbrev pub HasNoPair : ModuleTree → Type 0
HasNoPair m = (i j : ℕ) → ¬ IsLoosePair (scene_in m) (compiled_of m).actions i j

-- a module is refused for its cells: S8 where they are too many; else S9 where they have a cycle, at the place of its first cell;
-- else, judged strictly, S10 at the least place of a loose pair
pub data BreaksLate (scrutiny : Scrutiny) (m : ModuleTree) : (rule : ℕ) → Place → Type 0 where
  by_size : judges_cells scrutiny ≡ true → is_too_large (resolved_vars m) (term_in m) ≡ true → BreaksLate scrutiny m 8 origin
  by_cycle : (cycle : List ℕ) (p : Place) → judges_cells scrutiny ≡ true → is_too_large (resolved_vars m) (term_in m) ≡ false → IsCycleAt (compiled_of m).cells cycle p → BreaksLate scrutiny m 9 p
  by_pair : (p : Place) → scrutiny ≡ Strict → CanRun m → IsLeastPlace m p → BreaksLate scrutiny m 10 p

-- and it breaks none of these rules
abbrev pub HasGoodCells : Scrutiny → ModuleTree → Type 0
HasGoodCells Front m = Unit {0}
HasGoodCells Cells m = CanRun m
HasGoodCells Strict m = CanRun m × HasNoPair m

-- ---- the whole

-- the text is refused by this rule at this place, the first that it breaks of those by which it is judged
pub data Refuses (scrutiny : Scrutiny) : List ℕ → (rule : ℕ) → Place → Type 0 where
  early : (text : List ℕ) (r : ℕ) (p : Place) → BreaksEarly text r p → Refuses scrutiny text r p
  late : (text : List ℕ) (m : ModuleTree) (r : ℕ) (p : Place) → IsWellTyped text m → BreaksLate scrutiny m r p → Refuses scrutiny text r p

-- the text is this one module, which breaks none of the rules by which it is judged
pub record IsAccepted (scrutiny : Scrutiny) (text : List ℕ) (source : ModuleTree) : Type 0 where
  pub typed : IsWellTyped text source
  pub good : HasGoodCells scrutiny source
