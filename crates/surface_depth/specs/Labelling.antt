-- What registers of labels take, over cells alone.
use Rattle.std.specs.Prelude.{ℕ, zero, suc, ◌+◌, pos, List, [], ◌∷◌, ◌++◌, map}
use Rattle.aif_cells.specs.declared.reference.Ref.{Ref}
use Rattle.aif_cells.specs.declared.reference.Ref.TheVariants as ref
use Rattle.aif_cells.specs.declared.tree.TreeTwo.TheVariants.{And}
use Rattle.aif_cells.specs.Tree.{value, two}
use Rattle.aif_cells.specs.Built.{Defined, Made, given, new, join}
use Rattle.reincarnation.specs.Carrying.{Stores, with_next}
use Rattle.statement_cells.specs.Builder.{Entry, zero_ref, nowhere}
use Rattle.statement_cells.specs.Whole.{refs_for}

-- a label that is 1 and stays
abbrev pub stays_in : (label : ℕ) → Ref → List Defined → Made
stays_in l (ref.Lit (pos zero)) cs = given zero_ref cs
stays_in l (ref.Lit z) cs = given (ref.Reg l) cs
stays_in l r cs = new (two And (value (ref.Reg l)) (value r)) nowhere cs

-- the references of several, and the cells behind them
pub record Staying : Type 0 where
  pub refs : List Ref
  pub cells : List Defined

abbrev pub staying_in : (label : ℕ) → List Ref → List Defined → Staying
staying_in l [] cs = record { refs = []; cells = cs }
staying_in l (r ∷ rs) cs =
    let m = stays_in l r cs in
    let more = staying_in l rs m.cells in
    record { refs = m.ref ∷ more.refs; cells = more.cells }

-- a label is 1 next where it is entered or stays
abbrev pub label_in : (label : ℕ) → (entered stays : List Ref) → Stores → Stores
label_in l es ss σ =
    let s = staying_in l ss σ.cells in
    let j = join nowhere (map value es ++ map value s.refs) s.cells in
    record { registers = with_next σ.registers l j.ref; cells = j.cells }

-- labels from the first on, with the references of each
abbrev pub labels_in : (label : ℕ) → (entered stays : List (List Ref)) → Stores → Stores
labels_in l [] ss σ = σ
labels_in l (e ∷ es) [] σ = σ
labels_in l (e ∷ es) (s ∷ ss) σ = labels_in (l + 1) es ss (label_in l e s σ)

-- the references of so many labels from the first on
abbrev pub by_label : (label count : ℕ) → List Entry → List (List Ref)
by_label l zero es = []
by_label l (suc n) es = refs_for l es ∷ by_label (l + 1) n es
