-- What loose pairs say of runs.
use Rattle.std.specs.Prelude.{◌≡◌, ℕ, ◌<◌, ℤ, List, length, Contains, Some}
use Rattle.quartz_tree.specs.declared.place.Place.{Place}
use Rattle.quartz_tree.specs.declared.fault.Fault.{Fault}
use Rattle.quartz_tree.specs.declared.fault.Kind.TheVariants.{Conflict}
use Rattle.quartz_tree.specs.Kernel.{Kernel}
use Rattle.quartz_expr.specs.Vars.{Vars, declared_at}
use Rattle.quartz_expr.specs.Terms.{Term, term_of}
use Rattle.quartz_expr.specs.Steps.{State, Macro}
use Rattle.quartz_expr.specs.Runs.{Runs}
use Rattle.causality_check.specs.Order.{HasNoCycle}
use Rattle.statement_cells.specs.Whole.{compiled}
use Rattle.statement_cells.specs.Meaning.{AreInputs, IsSoundModule, inputs_of}
use Rattle.macro_steps.specs.Runs.{AllInputs}
use Rattle.write_conflicts.specs.Loose.{IsLooseVar, Scene}
use Rattle.loose_runs.specs.Reached.{Reached}

-- what a module's cells tell of its actions
abbrev pub scene_of : Vars → Term → Scene
scene_of vs t = record { cells = (compiled vs t).cells; ways = (compiled vs t).paths; made = (compiled vs t).made }

-- some loose pair of the module's actions writes the variable
abbrev pub IsFlagged : Vars → Term → (var : ℕ) → Type 0
IsFlagged vs t x = IsLooseVar (scene_of vs t) (compiled vs t).actions x

-- a step that some run comes to, for inputs that are values of the input variables
pub record IsRunStep (vs : Vars) (body : Kernel) (s : State) (ins outs : List (List ℤ)) (next : State) (fs : List Fault) : Type 0 where
  pub reached : Reached vs body s
  pub inputs : AreInputs vs (inputs_of vs) ins
  pub step : Macro vs s ins outs next fs

-- a flagged variable is declared at the place
pub record FlaggedAt (vs : Vars) (t : Term) (p : Place) : Type 0 where
  pub var : ℕ
  pub known : var < length vs
  pub place : declared_at vs var ≡ p
  pub flagged : IsFlagged vs t var

-- where a step of a run has a conflict, a flagged variable is declared at its place
abbrev pub LooseMeetsConflict : Type 0
LooseMeetsConflict = (vs : Vars) (body : Kernel) (s : State) (ins outs : List (List ℤ)) (next : State) (fs : List Fault) (f : Fault)
    → IsSoundModule vs (term_of body) → HasNoCycle (compiled vs (term_of body)).cells → IsRunStep vs body s ins outs next fs → Contains fs f → f.kind ≡ Conflict
    → FlaggedAt vs (term_of body) f.place

-- no flagged variable is declared at the place
abbrev pub NoneFlaggedAt : Vars → Term → Place → Type 0
NoneFlaggedAt vs t p = (x : ℕ) → x < length vs → declared_at vs x ≡ p → ¬ IsFlagged vs t x

-- then no step of a run has a conflict there
abbrev pub UnflaggedHasNoConflict : Type 0
UnflaggedHasNoConflict = (vs : Vars) (body : Kernel) (s : State) (ins outs : List (List ℤ)) (next : State) (fs : List Fault) (p : Place)
    → IsSoundModule vs (term_of body) → HasNoCycle (compiled vs (term_of body)).cells → IsRunStep vs body s ins outs next fs
    → NoneFlaggedAt vs (term_of body) p → ¬ Contains fs (record { place = p; kind = Conflict })

-- a run that ends with a conflict ends at a place where a flagged variable is declared
abbrev pub RunsEndFlagged : Type 0
RunsEndFlagged = (vs : Vars) (body : Kernel) (ins outs : List (List (List ℤ))) (f : Fault)
    → IsSoundModule vs (term_of body) → HasNoCycle (compiled vs (term_of body)).cells → AllInputs vs ins → Runs vs body ins outs (Some f) → f.kind ≡ Conflict
    → FlaggedAt vs (term_of body) f.place
