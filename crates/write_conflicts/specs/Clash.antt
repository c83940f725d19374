-- Which actions can never act at once on one element.
use Rattle.std.specs.Prelude.{◌≡◌, ◌⊎◌, ℕ, zero, suc, Bool, true, false, not, ◌&&◌, ◌==◌, List, [], ◌∷◌, Option, Some, None, slice_get, if◌then◌else◌}
use Rattle.quartz_expr.specs.Values.{same_value}
use Rattle.quartz_expr.specs.Resolve.{same_bool}
use Rattle.aif_cells.specs.declared.reference.Ref.{Ref}
use Rattle.aif_cells.specs.declared.reference.Ref.TheVariants as ref
use Rattle.aif_cells.specs.declared.cells.Action.{Action}
use Rattle.aif_cells.specs.Tree.{value}
use Rattle.aif_cells.specs.Built.{Defined}
use Rattle.write_conflicts.specs.Must.{Must}

-- a step on the way from the body to a label: whether the statement is a parallel, and which of its parts it goes to
abbrev pub Step : Type 0
Step = Bool × ℕ

abbrev pub same_step : Step → Step → Bool
same_step s t = same_bool s.0 t.0 && (s.1 == t.1)

-- two ways first differ at a step that isn't a parallel's
abbrev pub are_apart : List Step → List Step → Bool
are_apart [] q = false
are_apart (s ∷ p) [] = false
are_apart (s ∷ p) (t ∷ q) = if same_step s t then are_apart p q else not s.0 && not t.0

-- the way to a label, whose registers follow the start flag's in the order of the ways
abbrev pub way_to : List (List Step) → (register : ℕ) → Option (List Step)
way_to ps zero = None
way_to ps (suc n) = slice_get ps n

-- two signed references that never hold at once: a reference with both signs; the start flag and a label; two labels whose ways
-- part at a step that isn't a parallel's
pub data Excludes (ps : List (List Step)) : Ref → Bool → Ref → Bool → Type 0 where
  opposite : (r : Ref) (s : Bool) → Excludes ps r s r (not s)
  at_start : (l : ℕ) (p : List Step) → way_to ps l ≡ Some p → Excludes ps (ref.Reg 0) true (ref.Reg l) true
  behind_start : (l : ℕ) (p : List Step) → way_to ps l ≡ Some p → Excludes ps (ref.Reg l) true (ref.Reg 0) true
  apart : (l m : ℕ) (p q : List Step) → way_to ps l ≡ Some p → way_to ps m ≡ Some q → are_apart p q ≡ true → Excludes ps (ref.Reg l) true (ref.Reg m) true

-- what one guard says excludes what the other says
pub record GuardsClash (cs : List Defined) (ps : List (List Step)) (g h : Ref) : Type 0 where
  pub first : Ref
  pub first_sign : Bool
  pub second : Ref
  pub second_sign : Bool
  pub says_first : Must cs (value g) true first first_sign
  pub says_second : Must cs (value h) true second second_sign
  pub excludes : Excludes ps first first_sign second second_sign

-- both indexes are literals, and they differ
abbrev pub indexes_differ : Option Ref → Option Ref → Bool
indexes_differ (Some (ref.Lit y)) (Some (ref.Lit z)) = not (same_value y z)
indexes_differ _ _ = false

-- two actions clash by their guards or by their indexes
abbrev pub Clash : List Defined → List (List Step) → (a b : Action) → Type 0
Clash cs ps a b = GuardsClash cs ps a.guard b.guard ⊎ (indexes_differ a.index b.index ≡ true)
