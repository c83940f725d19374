-- What the parts of a build are to a text.
use Rattle.std.specs.Prelude.{◌≡◌, ℕ, Bool, true, false, List, ◌∷◌, [], map, Option, Some, None, Result, Ok, Err}
use Rattle.quartz_tree.specs.declared.place.Place.{Place}
use Rattle.quartz_tree.specs.Kernel.{Kernel, kernel}
use Rattle.quartz_tree.specs.Surfaces.{ModuleTree}
use Rattle.quartz_expr.specs.Vars.{Vars}
use Rattle.quartz_names.specs.Resolving.{resolved_body, resolved_vars}
use Rattle.quartz_names.specs.declared.resolving.Resolved.{Resolved}
use Rattle.quartz_types.specs.declared.typed.Typed.{Typed}
use Rattle.quartz_types.specs.Rules.{first_break}
use Rattle.aif_cells.specs.Aif.{input_count}
use Rattle.aif_cells.specs.Built.{all_defined}
use Rattle.aif_cells.specs.Order.{IsOrder}
use Rattle.aif_cells.specs.declared.aif.Aif.{Aif}
use Rattle.statement_cells.specs.Meaning.{IsSoundModule}
use Rattle.surface_depth.specs.Compiling.{compiled_in}
use Rattle.write_conflicts.specs.declared.pairs.Pairs.{Pairs}
use Rattle.write_conflicts.specs.Pairs.{ArePairsOf}
use Rattle.quartz_build.specs.declared.fault.BuildFault.{BuildFault}
use Rattle.quartz_build.specs.declared.fault.BuildFault.TheVariants.{Refused, NoMemory}
use Rattle.quartz_build.specs.declared.building.Built.{Built}
use Rattle.quartz_build.specs.Broken.{BreaksLate, Front, HasGoodCells, IsAccepted, Refuses, Scrutiny, Strict, compiled_of, refusal_of, typing_refusal, term_in}

-- the typed module is that of the tree: its name, its variables and its body
pub record IsTypedOf (m : ModuleTree) (t : Typed) : Type 0 where
  pub name_is : t.resolved.name ≡ m.name
  pub vars_are : t.resolved.vars ≡ resolved_vars m
  pub body_is : kernel t.resolved.body ≡ resolved_body m

-- the cells and all that goes with them are those that the module is compiled to
pub record IsAifOf (m : ModuleTree) (aif : Aif) : Type 0 where
  pub name_is : aif.name ≡ m.name
  pub vars_are : aif.vars ≡ resolved_vars m
  pub inputs_are : aif.inputs ≡ input_count (resolved_vars m)
  pub compiled_to : compiled_in aif ≡ compiled_of m

-- loose pairs are told exactly where they are wanted, and are those of the cells
abbrev pub AreWanted : (wants_pairs : Bool) → Aif → Option Pairs → Type 0
AreWanted true aif (Some told) = ArePairsOf aif told
AreWanted false aif None = Unit {0}
AreWanted _ aif _ = ⊥

-- the parts belong together, and to the module, whose term can be compiled
pub record ArePartsOf (wants_pairs : Bool) (m : ModuleTree) (built : Built) : Type 0 where
  pub cells_are : IsAifOf m built.aif
  pub ordered : IsOrder (all_defined built.aif.cells) built.order.cells
  pub sound : IsSoundModule (resolved_vars m) (term_in m)
  pub pairs_are : AreWanted wants_pairs built.aif built.pairs

-- what the front of a text answers: its only module, typed, or the first of the rules S1 to S7 that the text breaks
abbrev pub FrontAs : List ℕ → Result Typed BuildFault → Type 0
FrontAs text (Ok typed) = (m : ModuleTree) × IsAccepted Front text m × IsTypedOf m typed
FrontAs text (Err (Refused rule place)) = Refuses Front text rule place
FrontAs text (Err NoMemory) = Unit {0}

-- what the build of a text answers: the parts of its only module, or the first rule that the text breaks
abbrev pub BuildsAs : Scrutiny → (wants_pairs : Bool) → List ℕ → Result Built BuildFault → Type 0
BuildsAs scrutiny wants_pairs text (Ok built) = (m : ModuleTree) × IsAccepted scrutiny text m × ArePartsOf wants_pairs m built
BuildsAs scrutiny wants_pairs text (Err (Refused rule place)) = Refuses scrutiny text rule place
BuildsAs scrutiny wants_pairs text (Err NoMemory) = Unit {0}

-- ---- between the steps

-- what judging modules answers
abbrev pub JudgedAs : List ModuleTree → Result Typed BuildFault → Type 0
JudgedAs modules (Ok typed) = (m : ModuleTree) × (modules ≡ m ∷ []) × (typing_refusal m ≡ None) × IsTypedOf m typed
JudgedAs modules (Err (Refused rule place)) = refusal_of modules ≡ Some (rule, place)
JudgedAs modules (Err NoMemory) = Unit {0}

-- what checking a resolved module answers
abbrev pub CheckedAs : Resolved → Result Typed BuildFault → Type 0
CheckedAs resolved (Ok typed) = (typed.resolved ≡ resolved) × (first_break resolved.vars (kernel resolved.body) ≡ None)
CheckedAs resolved (Err (Refused rule place)) = first_break resolved.vars (kernel resolved.body) ≡ Some (rule, place)
CheckedAs resolved (Err NoMemory) = Unit {0}

-- what building the cells of a typed module answers
abbrev pub CellsAs : Scrutiny → (wants_pairs : Bool) → Typed → Result Built BuildFault → Type 0
CellsAs scrutiny wants_pairs typed (Ok built) = (m : ModuleTree) → IsTypedOf m typed → HasGoodCells scrutiny m × ArePartsOf wants_pairs m built
CellsAs scrutiny wants_pairs typed (Err (Refused rule place)) = (m : ModuleTree) → IsTypedOf m typed → BreaksLate scrutiny m rule place
CellsAs scrutiny wants_pairs typed (Err NoMemory) = Unit {0}

-- the place at which loose pairs are refused
abbrev pub refused_pair : Scrutiny → Option Pairs → Option Place
refused_pair Strict (Some told) = told.least
refused_pair _ _ = None

-- what was built is allowed but where its loose pairs are refused
abbrev pub AllowedAs : Scrutiny → Built → Result Built BuildFault → Type 0
AllowedAs scrutiny built (Ok allowed) = (allowed ≡ built) × (refused_pair scrutiny built.pairs ≡ None)
AllowedAs scrutiny built (Err (Refused rule place)) = (rule ≡ 10) × (refused_pair scrutiny built.pairs ≡ Some place)
AllowedAs scrutiny built (Err NoMemory) = ⊥
