use Rattle.std.proofs.Common.{◌≡◌, ◌+◌, drop}
use Rattle.aif_cells.specs.Aif.{input_count}
use Rattle.surface_depth.proofs.sizes.count_inputs.Given as goal

abbrev pub invariant-loop-var : goal.invariant-loop-var
invariant-loop-var l = l.total + input_count (drop l.var-index l.vars) ≡ input_count l.vars
