-- A text has one verdict at most, and what a module is compiled to one text.
use Rattle.std.specs.Prelude.{◌≡◌, ◌⊎◌, ℕ, List}
use Rattle.quartz_tree.specs.declared.place.Place.{Place}
use Rattle.quartz_tree.specs.Surfaces.{ModuleTree}
use Rattle.quartz_names.specs.Resolving.{resolved_vars}
use Rattle.aif_cells.specs.declared.aif.Aif.{Aif}
use Rattle.aif_cells.specs.Text.{aif_text}
use Rattle.statement_cells.specs.Meaning.{IsSoundModule}
use Rattle.quartz_build.specs.Broken.{IsAccepted, IsWellTyped, Refuses, Scrutiny, term_in}
use Rattle.quartz_build.specs.Parts.{IsAifOf}

-- however far it is judged, a text is refused by at most one rule at one place, or accepted as at most one module, and never both
pub record HasOneVerdict (scrutiny : Scrutiny) (text : List ℕ) : Type 0 where
  pub one_refusal : (r s : ℕ) (p q : Place) → Refuses scrutiny text r p → Refuses scrutiny text s q → (r ≡ s) × (p ≡ q)
  pub one_module : (m n : ModuleTree) → IsAccepted scrutiny text m → IsAccepted scrutiny text n → m ≡ n
  pub not_both : (m : ModuleTree) (r : ℕ) (p : Place) → IsAccepted scrutiny text m → ¬ Refuses scrutiny text r p

abbrev pub TextsHaveOneVerdict : Type 0
TextsHaveOneVerdict = (scrutiny : Scrutiny) (text : List ℕ) → HasOneVerdict scrutiny text

-- and it is accepted as some module, or refused by some rule at some place
abbrev pub TextsHaveAVerdict : Type 0
TextsHaveAVerdict = (scrutiny : Scrutiny) (text : List ℕ) → ((m : ModuleTree) × IsAccepted scrutiny text m) ⊎ ((r : ℕ) × (p : Place) × Refuses scrutiny text r p)

-- whatever a module is compiled to has the same text
abbrev pub CellsHaveOneText : Type 0
CellsHaveOneText = (m : ModuleTree) (a b : Aif) → IsAifOf m a → IsAifOf m b → aif_text a ≡ aif_text b

-- a well-typed module meets what its compilation needs
abbrev pub WellTypedModulesAreSound : Type 0
WellTypedModulesAreSound = (text : List ℕ) (m : ModuleTree) → IsWellTyped text m → IsSoundModule (resolved_vars m) (term_in m)
