-- Which cells the cells of statements name: value cells may name later ones, and all others name only cells before them.
use Rattle.std.specs.Prelude.{◌≡◌, ℕ, ◌<◌, false, List, length, All}
use Rattle.quartz_expr.specs.Vars.{Vars}
use Rattle.quartz_expr.specs.Terms.{Term}
use Rattle.aif_cells.specs.declared.reference.Ref.{Ref}
use Rattle.aif_cells.specs.Dependences.{DependsOn}
use Rattle.absence_reaction.specs.Meaning.{is_among}
use Rattle.absence_reaction.specs.Earlier.{ActionIsBelow, IsBelow, MonitorsAreBelow}
use Rattle.reincarnation.specs.Meaning.{ClosedIsBelow, EnteredIsBelow, NextsAreBelow}
use Rattle.statement_cells.specs.Expressions.{Copies}
use Rattle.statement_cells.specs.Builder.{Activity, started, resumed, Builder, Entry, Made, Scoped}
use Rattle.statement_cells.specs.Surface.{surface, depth}
use Rattle.statement_cells.specs.Walk.{cells_of}
use Rattle.statement_cells.specs.Whole.{body_built, compiled}

-- ---- what is there

-- the reference with which a copy is active
abbrev pub ActivityIsBelow : (bound : ℕ) → Activity → Type 0
ActivityIsBelow n (started go) = IsBelow n go
ActivityIsBelow n (resumed l m res) = IsBelow n res

-- that reference is among so many, and stands before the copy's value cells
abbrev pub ScopeIsBelow : (bound : ℕ) → Scoped → Type 0
ScopeIsBelow n s = ActivityIsBelow n s.active × All (λ k. ActivityIsBelow k s.active) s.cells

-- the references of labels that are entered or stay
abbrev pub EntriesAreBelow : (bound : ℕ) → List Entry → Type 0
EntriesAreBelow n es = All (λ e. IsBelow n e.under) es

-- the cells that cells name, and those that the builder refers to, are among so many
pub record HoldsBelow (n : ℕ) (β : Builder) : Type 0 where
  pub named : (k d : ℕ) → DependsOn β.cells k d → d < n
  pub monitors : MonitorsAreBelow n β.monitors
  pub actions : All (ActionIsBelow n) β.actions
  pub writes : All (ActionIsBelow n) β.writes
  pub entries : EntriesAreBelow n β.entries
  pub stays : EntriesAreBelow n β.stays
  pub scopes : All (ScopeIsBelow n) β.scopes
  pub entered : All (λ e. EnteredIsBelow n e.entered) β.entered
  pub depths : All (λ d. ClosedIsBelow n d.closed) β.depths

-- they are all there
abbrev pub IsThere : Builder → Type 0
IsThere β = HoldsBelow (length β.cells) β

-- the cell that a reference names, if it names one, is there
abbrev pub IsRefThere : Builder → Ref → Type 0
IsRefThere β r = IsBelow (length β.cells) r

-- the values of the current copies are there
abbrev pub AreCopiesThere : Builder → Copies → Type 0
AreCopiesThere β κ = All (λ c. All (IsBelow (length β.cells)) c.values) κ

-- ---- what is named

-- each cell that is no value cell names only cells before it
abbrev pub NamesBefore : Builder → Type 0
NamesBefore β = (k d : ℕ) → is_among k (cells_of β.reserved) ≡ false → DependsOn β.cells k d → d < k

-- cells are in order, and all that is named is there
pub record IsOrdered (β : Builder) : Type 0 where
  pub before : NamesBefore β
  pub there : IsThere β

-- what is built is ordered, and the reference is to a cell that is there
pub record IsMadeInOrder (m : Made) : Type 0 where
  pub built : IsOrdered m.built
  pub ref : IsRefThere m.built m.ref

-- the surface of a statement is made in order
abbrev pub SurfaceNamesBefore : Type 0
SurfaceNamesBefore = (vs : Vars) (κ : Copies) (l v : ℕ) (s : Term) (go move : Ref) (β : Builder)
    → IsOrdered β → AreCopiesThere β κ → IsRefThere β go → IsRefThere β move
    → IsMadeInOrder (surface vs κ l v s go move β)

-- so is its depth
abbrev pub DepthNamesBefore : Type 0
DepthNamesBefore = (vs : Vars) (κ : Copies) (l v : ℕ) (s : Term) (res move stay : Ref) (β : Builder)
    → IsOrdered β → AreCopiesThere β κ → IsRefThere β res → IsRefThere β move → IsRefThere β stay
    → IsMadeInOrder (depth vs κ l v s res move stay β)

-- ---- the whole

-- the value cells of outputs and of scopes
abbrev pub value_cells : Vars → Term → List ℕ
value_cells vs t = cells_of (body_built vs t).reserved

-- in a whole module too; value cells name cells that are there, and monitors, actions and what registers take are on such
pub record IsCompiledInOrder (vs : Vars) (t : Term) : Type 0 where
  pub before : (k d : ℕ) → is_among k (value_cells vs t) ≡ false → DependsOn (compiled vs t).cells k d → d < k
  pub named : (k d : ℕ) → DependsOn (compiled vs t).cells k d → d < length (compiled vs t).cells
  pub monitors : MonitorsAreBelow (length (compiled vs t).cells) (compiled vs t).monitors
  pub actions : All (ActionIsBelow (length (compiled vs t).cells)) (compiled vs t).actions
  pub nexts : NextsAreBelow (length (compiled vs t).cells) (compiled vs t).registers

-- every module is compiled in order
abbrev pub CompiledNamesBefore : Type 0
CompiledNamesBefore = (vs : Vars) (t : Term) → IsCompiledInOrder vs t
