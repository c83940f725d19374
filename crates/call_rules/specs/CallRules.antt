-- The rules of calls, S11 to S14: where each is broken by the modules that the main one reaches.
use Rattle.std.specs.Prelude.{◌≡◌, ℕ, ◌<◌, ◌≤◌, Bool, true, false, ◌||◌, ◌&&◌, not, ◌==◌, is_none, List, [], ◌∷◌, ◌++◌, Contains, Option, Some, None}
use Rattle.quartz_tree.specs.declared.surface.Arg.{Arg}
use Rattle.quartz_tree.specs.declared.declare.Decl.{Decl}
use Rattle.quartz_tree.specs.declared.declare.Base.{Base}
use Rattle.quartz_tree.specs.declared.declare.Base.TheVariants as base
use Rattle.quartz_tree.specs.declared.declare.Storage.{Storage}
use Rattle.quartz_tree.specs.declared.declare.Storage.TheVariants.{Mem, Event}
use Rattle.quartz_tree.specs.declared.declare.Flow.{Flow}
use Rattle.quartz_tree.specs.declared.declare.Flow.TheVariants.{Input, Output}
use Rattle.quartz_tree.specs.declared.place.Place.{Place}
use Rattle.quartz_tree.specs.Least.{is_before}
use Rattle.quartz_tree.specs.Surfaces.{Word, ModuleTree}
use Rattle.quartz_expr.specs.Kinds.{place_if}
use Rattle.quartz_names.specs.NameRules.{repeated}
use Rattle.linked_trees.specs.Naming.{module_named}
use Rattle.call_rules.specs.Sizes.{level, level_in, size, size_of}
use Rattle.call_rules.specs.Around.{Declared}
use Rattle.call_rules.specs.Sites.{Site, IsCallAt, Reach, sites_in}

-- ---- S11: a call names no module

abbrev pub unknown : List ModuleTree → List Site → List Place
unknown ms [] = []
unknown ms (s ∷ ss) = place_if (is_none (module_named ms s.name)) s.place ++ unknown ms ss

-- ---- S13: arguments and parameters

abbrev pub same_base : Base → Base → Bool
same_base base.Bool base.Bool = true
same_base (base.Nat m) (base.Nat n) = m == n
same_base (base.Int m) (base.Int n) = m == n
same_base (base.Bv m) (base.Bv n) = m == n
same_base _ _ = false

abbrev pub same_length : Option ℕ → Option ℕ → Bool
same_length None None = true
same_length (Some m) (Some n) = m == n
same_length _ _ = false

abbrev pub same_storage : Storage → Storage → Bool
same_storage Mem Mem = true
same_storage Event Event = true
same_storage _ _ = false

-- an output can be passed what isn't an input and has the output's storage
abbrev pub may_pass : Flow → Storage → Flow → Storage → Bool
may_pass Output s Input t = false
may_pass Output s _ t = same_storage s t
may_pass _ s _ t = true

-- a parameter can be passed what is declared so
abbrev pub suits : Decl → Option Decl → Bool
suits p None = false
suits p (Some d) = same_base p.ty.base d.ty.base && (same_length p.ty.len d.ty.len && may_pass p.flow p.storage d.flow d.storage)

-- the arguments that don't suit their parameters
abbrev pub misfits : Declared → List Decl → List Arg → List Place
misfits sc [] args = []
misfits sc (p ∷ ps) [] = []
misfits sc (p ∷ ps) (a ∷ args) = place_if (not (suits p (sc a.name))) a.place ++ misfits sc ps args

abbrev pub as_many : List Decl → List Arg → Bool
as_many [] [] = true
as_many (p ∷ ps) (a ∷ args) = as_many ps args
as_many _ _ = false

abbrev pub is_repeated : List Place → Bool
is_repeated [] = false
is_repeated _ = true

-- a call whose numbers of arguments and parameters differ, or of a module two of whose parameters have one name; then the
-- arguments
abbrev pub unfit_at : Site → Option ModuleTree → List Place
unfit_at s None = []
unfit_at s (Some m) = place_if (not (as_many m.params s.args) || is_repeated (repeated m.params)) s.place ++ misfits s.around m.params s.args

abbrev pub unfit : List ModuleTree → List Site → List Place
unfit ms [] = []
unfit ms (s ∷ ss) = unfit_at s (module_named ms s.name) ++ unfit ms ss

-- ---- where each is broken

-- a module that the main one reaches breaks a rule of its calls at the place
pub record IsBrokenIn (ms : List ModuleTree) (main : Word) (breaks : List Site → List Place) (p : Place) : Type 0 where
  pub name : Word
  pub tree : ModuleTree
  pub reached : Reach ms main name
  pub found : module_named ms name ≡ Some tree
  pub broken : Contains (breaks (sites_in tree)) p

abbrev pub BreaksS11 : List ModuleTree → (main : Word) → Place → Type 0
BreaksS11 ms main p = IsBrokenIn ms main (unknown ms) p

-- S12: a call of a module that reaches the one in which the call stands
pub record BreaksS12 (ms : List ModuleTree) (main : Word) (p : Place) : Type 0 where
  pub caller : Word
  pub called : Word
  pub reached : Reach ms main caller
  pub calls : IsCallAt ms caller called p
  pub back : Reach ms called caller

abbrev pub BreaksS13 : List ModuleTree → (main : Word) → Place → Type 0
BreaksS13 ms main p = IsBrokenIn ms main (unfit ms) p

-- S14 is kept: the linked body has at most 65,536 statements and blocks and no level above 64, where calls go at most so deep
pub record KeepsS14 (ms : List ModuleTree) (depth : ℕ) (main : ModuleTree) : Type 0 where
  pub size : size (size_of ms depth) main.body ≤ 65536
  pub level : level (level_in ms depth) main.body ≤ 64

-- the least place of those at which a rule is broken
pub record IsLeast (Breaks : Place → Type 0) (p : Place) : Type 0 where
  pub broken : Breaks p
  pub least : (q : Place) → Breaks q → is_before q p ≡ false

-- the modules that the main one reaches keep S11 to S13, and heights of modules that fall with each call
pub record CallsKeep (ms : List ModuleTree) (main : Word) : Type 0 where
  pub height : Word → ℕ
  pub known : (x : Word) (t : ModuleTree) → Reach ms main x → module_named ms x ≡ Some t → unknown ms (sites_in t) ≡ []
  pub falls : (x y : Word) (p : Place) → Reach ms main x → IsCallAt ms x y p → height y < height x
  pub fit : (x : Word) (t : ModuleTree) → Reach ms main x → module_named ms x ≡ Some t → unfit ms (sites_in t) ≡ []
