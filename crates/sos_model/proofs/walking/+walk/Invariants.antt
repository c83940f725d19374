use Rattle.std.proofs.Common.{◌≡◌, drop, map}
use Rattle.sos_model.specs.FormTerms.{term, terms}
use Rattle.sos_model.proofs.WalkLemmas.{Joins, Passes}
use Rattle.sos_model.proofs.walking.+walk.Given as goal

abbrev pub invariant-walk_in_order-loop-at : goal.invariant-walk_in_order-loop-at
invariant-walk_in_order-loop-at l = record {
  passes : Passes l.vars l.fn.env.values (terms (map term l.parts)) l.given (drop l.at l.parts) l.passed;
  same : l.env.values ≡ l.fn.env.values;
}

abbrev pub invariant-walk_beside-loop-part : goal.invariant-walk_beside-loop-part
invariant-walk_beside-loop-part l = record {
  joins : Joins l.vars l.fn.env.values (terms (map term l.parts)) l.given (drop l.part-index l.parts) l.all;
  same : l.env.values ≡ l.fn.env.values;
}
