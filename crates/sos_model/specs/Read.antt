-- What is read of the values that are given to scopes.
use Rattle.std.specs.Prelude.{map}
use Rattle.quartz_expr.specs.Vars.{Vars}
use Rattle.quartz_expr.specs.Writes.{in_range}
use Rattle.quartz_expr.specs.React.{Met, Reaction, Reactions}

-- an element with what is read of its given value: one that is out of its range is read as 0
abbrev pub read_met : Vars → Met → Met
read_met vs m = record m { given = in_range vs m.var m.given }

-- the reaction in which each scope takes what is read of its given values
abbrev pub as_read : Vars → Reaction → Reaction
as_read vs r = record r { met = map (read_met vs) r.met }

-- the same of the parts of a parallel
abbrev pub all_as_read : Vars → Reactions → Reactions
all_as_read vs r = record r { met = map (read_met vs) r.met }
