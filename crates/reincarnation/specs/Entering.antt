-- A new copy of a variable, with its reserved value cells.
use Rattle.std.specs.Prelude.{◌≡◌, ℕ, zero, suc, ◌+◌, Bool, List, [], ◌∷◌, ◌++◌, length, replicate, count_by, ◌==◌, pos}
use Rattle.quartz_tree.specs.declared.place.Place.{Place}
use Rattle.quartz_tree.specs.declared.declare.Var.{Var}
use Rattle.aif_cells.specs.declared.reference.Ref.TheVariants as ref
use Rattle.aif_cells.specs.declared.cells.Made.{Made}
use Rattle.aif_cells.specs.declared.aif.Aif.{Aif}
use Rattle.aif_cells.specs.Tree.{value}
use Rattle.aif_cells.specs.Built.{Defined, all_defined}
use Rattle.aif_cells.specs.Aif.{elements_of}

-- how many copies of a variable were made
abbrev pub copies_of : (var : ℕ) → List Made → ℕ
copies_of var made = count_by (λ m. m.var == var) made

-- so many numbers from the first on
abbrev pub numbers_from : (first count : ℕ) → List ℕ
numbers_from first zero = []
numbers_from first (suc count) = first ∷ numbers_from (first + 1) count

-- a cell that is to get its tree when its copy is closed
abbrev pub reserved : Place → Defined
reserved p = record { tree = value (ref.Lit (pos 0)); place = p }

-- a new copy has the number of those of its variable before it, is the last copy, and has a reserved cell for each
-- element behind all others; nothing else changes
pub record IsEntered (before : Aif) (var : ℕ) (stored : Bool) (v : Var) (copy : ℕ) (values : List ℕ) (after : Aif) : Type 0 where
  pub number : copy ≡ copies_of var before.made
  pub values_are : values ≡ numbers_from (length before.cells) (elements_of v)
  pub made : after.made ≡ before.made ++ record { var = var; stored = stored } ∷ []
  pub cells : all_defined after.cells ≡ all_defined before.cells ++ replicate (elements_of v) (reserved v.decl.place)
  pub rest : after ≡ record before { made = after.made; cells = after.cells }
