-- Scopes that are built, one in another.
use Rattle.std.specs.Prelude.{◌≡◌, ℕ, ◌+◌, Bool, List, [], ◌∷◌, ◌++◌, slice_get, Some, None}
use Rattle.quartz_expr.specs.Vars.{Vars}
use Rattle.quartz_expr.specs.Terms.{Term, scope}
use Rattle.aif_cells.specs.declared.reference.Ref.{Ref}
use Rattle.aif_cells.specs.declared.cells.Action.{Action}
use Rattle.reincarnation.specs.declared.copy.ClosedRefs.{ClosedRefs}
use Rattle.reincarnation.specs.Entering.{copies_of}
use Rattle.statement_cells.specs.Labels.{labels, scope_registers}
use Rattle.statement_cells.specs.Expressions.{Copies}
use Rattle.statement_cells.specs.Builder.{Activity, Builder as Plain, Made, close_scope, entering, new_cells, reserve, writes_to, writes_to_others}
use Rattle.statement_builder.specs.declared.builder.Builder.{Builder}
use Rattle.statement_builder.specs.declared.builder.OpenVar.{OpenVar}
use Rattle.statement_builder.specs.declared.scoping.Scope.{Scope}
use Rattle.statement_builder.specs.Built.{IsBuilt, IsOver, writes_of}

-- one copy more, to which nothing writes yet
abbrev pub fresh_open : OpenVar → OpenVar
fresh_open o = record { copies = o.copies + 1; now = []; next = [] }

-- the writes to the copy around stand again, and the number of copies stays
abbrev pub restored_open : (inner outer : OpenVar) → OpenVar
restored_open i o = record { copies = i.copies; now = o.now; next = o.next }

-- the writes in front of those of a copy of the variable that is opened
abbrev pub front_inside : (var : ℕ) → (front : List Action) → Plain → List Action
front_inside x front β = writes_to_others x (front ++ β.writes)

-- the scope's copy is the one that the definition reserves, and what was current around it is kept
pub record IsOpened (vs : Vars) (κ : Copies) (front : List Action) (β : Plain) (s : Scope) : Type 0 where
  pub copy : s.copy ≡ copies_of s.var β.made
  pub values : s.values ≡ new_cells vs s.var β
  pub current : slice_get κ s.var ≡ Some s.current
  pub outer : (d : Bool) → writes_of d s.outer ≡ writes_to s.var d (front ++ β.writes)

-- a scope is opened
pub record Opens (vs : Vars) (before : Builder) (x : ℕ) (stored : Bool) (first : ℕ) (s : Scope) (after : Builder) : Type 0 where
  pub var : s.var ≡ x
  pub stored_is : s.stored ≡ stored
  pub first_is : s.first ≡ first
  pub over : (ws : Vars) → IsOver ws before → IsOver ws after
  pub opened : (κ : Copies) (front : List Action) (β : Plain) → IsBuilt κ front before β → IsOpened vs κ front β s
  pub built : (κ : Copies) (front : List Action) (β : Plain) → IsBuilt κ front before β → IsBuilt (entering vs x κ β) (front_inside x front β) after (reserve vs x stored β)

-- a scope is closed, whose copy was opened before its body was built
pub record Closes (vs : Vars) (before : Builder) (s : Scope) (c : ClosedRefs) (after : Builder) : Type 0 where
  pub over : (ws : Vars) → IsOver ws before → IsOver ws after
  pub built : (κ : Copies) (front : List Action) (β inner : Plain) (active : Activity) → IsOpened vs κ front β s → IsBuilt (entering vs s.var κ β) (front_inside s.var front β) before inner
      → (c ≡ (close_scope vs s.var s.stored s.first active β inner).refs) × IsBuilt κ front after (close_scope vs s.var s.stored s.first active β inner).built

-- a scope ends whose body ends at a reference: its copy is closed, and kept if the scope has registers
pub record Ends (vs : Vars) (before : Builder) (s : Scope) (stored : Bool) (end : Ref) (f : Plain → Made → Made) (after : Builder) : Type 0 where
  pub over : (ws : Vars) → IsOver ws before → IsOver ws after
  pub built : (κ : Copies) (front : List Action) (β : Plain) (m : Made) → s.stored ≡ stored → IsOpened vs κ front β s → IsBuilt (entering vs s.var κ β) (front_inside s.var front β) before m.built → end ≡ m.ref
      → (end ≡ (f β m).ref) × IsBuilt κ front after (f β m).built

-- ---- the scopes around a statement

-- what stands around a statement, the first register of its scopes, and the statement
pub record State : Type 0 where
  pub copies : Copies
  pub front : List Action
  pub built : Plain
  pub register : ℕ
  pub term : Term

-- inside a scope, of whose body it is the term, with so many labels
abbrev pub inside : Vars → (stored : Bool) → (labels var : ℕ) → Term → State → State
inside vs stored n x t s = record {
  copies = entering vs x s.copies s.built;
  front = front_inside x s.front s.built;
  built = reserve vs x stored s.built;
  register = s.register + scope_registers vs n x;
  term = t;
}

-- from the outer state a scope was opened, and inside it is the inner state
pub record Enters (vs : Vars) (stored : Bool) (labels : ℕ) (outer : State) (s : Scope) (inner : State) : Type 0 where
  pub term : outer.term ≡ scope s.var None inner.term
  pub stored_is : s.stored ≡ stored
  pub first : s.first ≡ outer.register
  pub opened : IsOpened vs outer.copies outer.front outer.built s
  pub inner_is : inner ≡ inside vs stored labels s.var inner.term outer

-- the scopes were opened one in another, of which the innermost is the first
abbrev pub Nests : Vars → (stored : Bool) → (labels : ℕ) → List Scope → (outer inner : State) → Type 0
Nests vs stored n [] u s = s ≡ u
Nests vs stored n (o ∷ os) u s = (t : State) × Enters vs stored n t o s × Nests vs stored n os u t

-- the state inside the scopes that were opened
pub record IsInside (vs : Vars) (stored : Bool) (labels : ℕ) (scopes : List Scope) (register : ℕ) (term : Term) (outer : State) (b : Builder) : Type 0 where
  pub state : State
  pub built : IsBuilt state.copies state.front b state.built
  pub nests : Nests vs stored labels scopes outer state
  pub register_is : state.register ≡ register
  pub term_is : state.term ≡ term

-- the scopes around a statement are opened, up to that term
pub record OpensAll (vs : Vars) (before : Builder) (stored : Bool) (labels first : ℕ) (outer : Term) (scopes : List Scope) (register : ℕ) (inner : Term) (after : Builder) : Type 0 where
  pub over : (ws : Vars) → IsOver ws before → IsOver ws after
  pub inside_is : (κ : Copies) (front : List Action) (β : Plain) → IsBuilt κ front before β
      → IsInside vs stored labels scopes register inner (record { copies = κ; front = front; built = β; register = first; term = outer }) after

-- the scopes end from the innermost outwards: where the body ends as is said of the inner state, the whole ends as is said of the outer one
pub record EndsAll (vs : Vars) (before : Builder) (stored : Bool) (n : ℕ) (scopes : List Scope) (end : Ref) (f : State → Made) (after : Builder) : Type 0 where
  pub over : (ws : Vars) → IsOver ws before → IsOver ws after
  pub built : (u s : State) → Nests vs stored n scopes u s → n ≡ labels s.term → IsBuilt s.copies s.front before (f s).built → end ≡ (f s).ref → (end ≡ (f u).ref) × IsBuilt u.copies u.front after (f u).built
