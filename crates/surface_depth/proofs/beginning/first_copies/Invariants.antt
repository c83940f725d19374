use Rattle.std.proofs.Common.{◌≡◌, ◌++◌, drop}
use Rattle.statement_cells.specs.Whole.{first_copies}
use Rattle.surface_depth.proofs.beginning.first_copies.Given as goal

abbrev pub invariant-loop-var : goal.invariant-loop-var
invariant-loop-var l = l.copies.items ++ first_copies (drop l.var-index l.vars) l.input ≡ first_copies l.vars 0
