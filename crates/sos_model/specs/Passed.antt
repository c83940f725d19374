-- What was passed of a sequence, or of a parallel, before the parts that are left.
use Rattle.std.specs.Prelude.{◌&&◌, List, [], ◌∷◌, ◌++◌, map, option_map}
use Rattle.quartz_expr.specs.Terms.{Term, Terms, part}
use Rattle.quartz_expr.specs.React.{Reaction, Reactions}
use Rattle.sos_model.specs.declared.passed.Passed.{Passed}
use Rattle.sos_model.specs.declared.passed.Beside.{Beside}
use Rattle.sos_model.specs.FormTerms.{term}
use Rattle.sos_model.specs.Found.{held_or, met_of}
use Rattle.sos_model.specs.Walk.{Walk, Walks}

-- the reaction of a sequence's parts that are left, behind those that were passed
abbrev pub behind : Passed → Reaction → Reaction
behind b p = record {
  residual = p.residual;
  held = held_or (option_map term b.held) p.held;
  acts = b.acts.items ++ p.acts;
  faults = b.faults.items ++ p.faults;
  met = map met_of b.met.items ++ p.met;
  ended = p.ended;
}

abbrev pub behind_walk : Passed → Walk → Walk
behind_walk b w = record { reaction = behind b w.reaction; rest = w.rest }

-- terms before others
abbrev pub before : List Term → Terms → Terms
before [] ts = ts
before (r ∷ rs) ts = part r (before rs ts)

-- the reactions of a parallel's parts that are left, behind those of the parts that were passed
abbrev pub behind_all : Beside → Reactions → Reactions
behind_all b p = record {
  residuals = before (map term b.residuals.items) p.residuals;
  helds = before (map term b.helds.items) p.helds;
  acts = b.acts.items ++ p.acts;
  faults = b.faults.items ++ p.faults;
  met = map met_of b.met.items ++ p.met;
  ended = b.ended && p.ended;
}

abbrev pub behind_walks : Beside → Walks → Walks
behind_walks b w = record { reactions = behind_all b w.reactions; rest = w.rest }
