-- Lists of values for the scopes of a term that are long enough.
use Rattle.std.specs.Prelude.{◌≡◌, ℕ, ◌+◌, ◌≤◌, ℤ, List, ◌++◌, length, None}
use Rattle.quartz_expr.specs.Values.{Values}
use Rattle.quartz_expr.specs.Vars.{Vars}
use Rattle.quartz_expr.specs.Terms.{Term, nothing, pause, write, choose, seq, par, loop, abort, suspend, scope, Terms, none, part}
use Rattle.sos_model.specs.Walk.{taken_by, walk}

-- the elements of all scopes in a term
abbrev mutual
  pub scope_elements : Vars → Term → ℕ
  scope_elements vs nothing = 0
  scope_elements vs pause = 0
  scope_elements vs (write _ _ _ _ _ _) = 0
  scope_elements vs (choose _ a b) = scope_elements vs a + scope_elements vs b
  scope_elements vs (seq ts) = elements_of_all vs ts
  scope_elements vs (par ts) = elements_of_all vs ts
  scope_elements vs (loop t _) = scope_elements vs t
  scope_elements vs (abort _ _ t _) = scope_elements vs t
  scope_elements vs (suspend _ _ t _) = scope_elements vs t
  scope_elements vs (scope x s t) = taken_by vs x s + scope_elements vs t

  pub elements_of_all : Vars → Terms → ℕ
  elements_of_all vs none = 0
  elements_of_all vs (part t ts) = scope_elements vs t + elements_of_all vs ts

-- a list with a value for each element of the scopes is not too short, whatever its values are
abbrev pub LongListsAreEnough : Type 0
LongListsAreEnough = (vs : Vars) (env : Values) (t : Term) (xs : List ℤ) → scope_elements vs t ≤ length xs → ¬ (walk vs env t xs ≡ None)

-- so each list is the front of one that is not too short
abbrev pub ShortListsAreCured : Type 0
ShortListsAreCured = (vs : Vars) (env : Values) (t : Term) (xs : List ℤ) → (more : List ℤ) × (¬ (walk vs env t (xs ++ more) ≡ None))
