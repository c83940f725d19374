-- Cells as plain cells, and how they are made: each new one behind those that are there.
use Rattle.std.specs.Prelude.{zero, Bool, true, false, pos, Option, Some, None, List, [], ◌∷◌, ◌++◌, length, map, filter}
use Rattle.quartz_tree.specs.declared.place.Place.{Place}
use Rattle.aif_cells.specs.declared.reference.Ref.{Ref}
use Rattle.aif_cells.specs.declared.reference.Ref.TheVariants as ref
use Rattle.aif_cells.specs.declared.cells.Cell.{Cell}
use Rattle.aif_cells.specs.declared.tree.TreeTwo.TheVariants.{Or}
use Rattle.aif_cells.specs.Tree.{Tree, value, two, tree}

-- a cell with a plain tree
pub record Defined : Type 0 where
  pub tree : Tree
  pub place : Place

abbrev pub defined : Cell → Defined
defined c = record { tree = tree c.tree; place = c.place }

abbrev pub all_defined : List Cell → List Defined
all_defined cs = map defined cs

-- a reference, and the cells with those that were made for it
pub record Made : Type 0 where
  pub ref : Ref
  pub cells : List Defined

abbrev pub given : Ref → List Defined → Made
given r cs = record { ref = r; cells = cs }

-- a new cell behind all others
abbrev pub new : Tree → Place → List Defined → Made
new t p cs = record { ref = ref.Cell (length cs); cells = cs ++ record { tree = t; place = p } ∷ [] }

-- the reference that a tree is, if it is one
abbrev pub reference_in : Tree → Option Ref
reference_in (value r) = Some r
reference_in _ = None

-- anything but the literal 0
abbrev pub is_needed : Option Ref → Bool
is_needed (Some (ref.Lit (pos zero))) = false
is_needed _ = true

abbrev pub is_not_nought : Tree → Bool
is_not_nought t = is_needed (reference_in t)

-- trees joined by `or`, nested to the right
abbrev pub or_all : List Tree → Tree
or_all [] = value (ref.Lit (pos 0))
or_all (t ∷ []) = t
or_all (t ∷ u ∷ us) = two Or t (or_all (u ∷ us))

-- the reference that a join of trees is where it needs no cell: 0 of nothing, and of one reference itself
abbrev pub join_alone : List Tree → Option Ref
join_alone [] = Some (ref.Lit (pos 0))
join_alone (t ∷ []) = reference_in t
join_alone (t ∷ u ∷ us) = None

abbrev pub given_or_new : Option Ref → Tree → Place → List Defined → Made
given_or_new (Some r) t p cs = given r cs
given_or_new None t p cs = new t p cs

-- the join of trees, of which literals 0 are left out
abbrev pub join : Place → List Tree → List Defined → Made
join p ts cs = let left = filter is_not_nought ts in given_or_new (join_alone left) (or_all left) p cs
