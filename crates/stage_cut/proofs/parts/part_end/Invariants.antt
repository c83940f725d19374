use Rattle.std.proofs.Common.{◌≡◌, ◌+◌}
use Rattle.stage_cut.specs.Division.{weight_between}
use Rattle.stage_cut.proofs.parts.part_end.Given as goal

-- what is left of the bound, and the weight of the cells so far
abbrev pub invariant-loop-end : goal.invariant-loop-end
invariant-loop-end l = l.left + weight_between l.weights l.from l.end ≡ l.bound
