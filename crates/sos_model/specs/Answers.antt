-- What the walk of a term answers: a reaction, or the first value that isn't the resolved one.
use Rattle.std.specs.Prelude.{◌≡◌, ◌⊎◌, ℤ, if◌then◌else◌, List, [], ◌∷◌, ◌++◌, Option, Some, None, Result, Ok, Err}
use Rattle.quartz_expr.specs.Values.{Values, same_value}
use Rattle.quartz_expr.specs.Vars.{Vars}
use Rattle.quartz_expr.specs.Terms.{Term}
use Rattle.quartz_expr.specs.React as relation
use Rattle.quartz_expr.specs.React.{Met, Reacts, givens}
use Rattle.sos_model.specs.declared.fault.ReactFault.{ReactFault}
use Rattle.sos_model.specs.declared.fault.ReactFault.TheVariants.{NoMemory}
use Rattle.sos_model.specs.declared.react.Reaction.{Reaction}
use Rattle.sos_model.specs.FormTerms.{term}
use Rattle.sos_model.specs.Walk.{Walk, walk}

-- the first element of a scope whose given value isn't the wanted one
abbrev pub first_unresolved : List Met → Option Met
first_unresolved [] = None
first_unresolved (m ∷ ms) = if same_value m.given m.wanted then first_unresolved ms else Some m

-- the reaction with these scopes met
abbrev pub seen : Reaction → List Met → relation.Reaction
seen r ms = record { residual = term r.residual.form; held = term r.held.form; acts = r.writes.items; faults = r.faults.items; met = ms; ended = r.ended }

-- it is the term's reaction, and the values of its scopes are a front of the list
pub record IsReaction (vs : Vars) (env : Values) (t : Term) (xs : List ℤ) (r : Reaction) : Type 0 where
  pub met : List Met
  pub rest : List ℤ
  pub reacts : Reacts vs env t (seen r met)
  pub given : givens met ++ rest ≡ xs

-- the walk with these values meets scopes, and of the first element whose value isn't the resolved one these are the two
pub record IsUnresolved (vs : Vars) (env : Values) (t : Term) (xs : List ℤ) (wanted given : ℤ) : Type 0 where
  pub found : Walk
  pub walked : walk vs env t xs ≡ Some found
  pub meets : Met
  pub first : first_unresolved found.reaction.met ≡ Some meets
  pub wants : wanted ≡ meets.wanted
  pub gives : given ≡ meets.given

-- the answer is this error, unless memory lacks
abbrev pub FailsWith : Result Reaction ReactFault → ReactFault → Type 0
FailsWith (Ok r) f = ⊥
FailsWith (Err e) f = (e ≡ f) ⊎ (e ≡ NoMemory)
