-- What the code of a walk has found.
use Rattle.std.specs.Prelude.{◌≡◌, ◌≤◌, ℤ, List, length, drop, map, Option, None, Some, option_map}
use Rattle.std.specs.Prelude.{Result, Ok, Err}
use Rattle.quartz_expr.specs.Values.{Values}
use Rattle.quartz_expr.specs.Vars.{Vars}
use Rattle.quartz_expr.specs.Terms.{Term}
use Rattle.quartz_expr.specs.React.{Met, Reaction}
use Rattle.sos_model.specs.declared.fault.WalkFault.{WalkFault}
use Rattle.sos_model.specs.declared.fault.WalkFault.TheVariants.{Missing, NoMemory}
use Rattle.sos_model.specs.declared.found.Found.{Found}
use Rattle.sos_model.specs.declared.found.Meeting.{Meeting}
use Rattle.sos_model.specs.FormTerms.{term}
use Rattle.sos_model.specs.Walk.{walk}

abbrev pub met_of : Meeting → Met
met_of m = record { var = m.var; given = m.given; wanted = m.wanted }

-- what a term is held by: another one, or itself
abbrev pub held_or : Option Term → Term → Term
held_or None t = t
held_or (Some h) t = h

-- the reaction of a term that was found
abbrev pub reaction_of : Term → Found → Reaction
reaction_of t f = record { residual = term f.residual; held = held_or (option_map term f.held) t; acts = f.acts.items; faults = f.faults.items; met = map met_of f.met.items; ended = f.ended }

-- a walk found this, and so many values of the list were used
pub record Finds (vs : Vars) (env : Values) (t : Term) (xs : List ℤ) (f : Found) : Type 0 where
  pub walked : walk vs env t xs ≡ Some (record { reaction = reaction_of t f; rest = drop f.used xs })
  pub used : f.used ≤ length xs

-- what a walk answers: what it found, or that the list is too short, or nothing for want of memory
abbrev pub Walked : Vars → Values → Term → List ℤ → Result Found WalkFault → Type 0
Walked vs env t xs (Ok f) = Finds vs env t xs f
Walked vs env t xs (Err Missing) = walk vs env t xs ≡ None
Walked vs env t xs (Err NoMemory) = Unit {0}
