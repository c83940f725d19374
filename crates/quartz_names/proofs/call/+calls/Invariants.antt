use Rattle.std.proofs.Common.{◌≡◌, map, drop}
use Rattle.quartz_tree.specs.Surfaces.{branch, branches_of, written}
use Rattle.quartz_names.specs.Resolving.{branch_has_call, have_call}
use Rattle.quartz_names.proofs.call.+calls.Given as goal

abbrev pub invariant-branch_has_call-loop-stmt : goal.invariant-branch_has_call-loop-stmt
invariant-branch_has_call-loop-stmt l = branch_has_call (branch (map written l.stmts)) ≡ branch_has_call (branch (map written (drop l.stmt-index l.stmts)))

abbrev pub invariant-has_call-loop-stmts : goal.invariant-has_call-loop-stmts
invariant-has_call-loop-stmts l = have_call (branches_of (map (λ b. branch (map written b.items)) l.stmts-items)) ≡ have_call (branches_of (map (λ b. branch (map written b.items)) (drop l.stmts-index l.stmts-items)))
