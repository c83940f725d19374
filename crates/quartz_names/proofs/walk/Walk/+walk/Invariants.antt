use Rattle.std.proofs.Common.{drop, map}
use Rattle.quartz_tree.specs.Kernel.{Kernel, kernel}
use Rattle.quartz_tree.specs.Surfaces.{branch, branches_of, written}
use Rattle.quartz_names.proofs.WalkLemmas.{BranchGoesOn, BranchesGoOn}
use Rattle.quartz_names.proofs.walk.Walk.+walk.Given as goal

abbrev pub invariant-branch-loop-stmt : goal.invariant-branch-loop-stmt
invariant-branch-loop-stmt l = BranchGoesOn l.initial.self l.self l.stmts (drop l.stmt-index l.stmts) l.parts.items

abbrev pub invariant-stmt-loop-stmts : goal.invariant-stmt-loop-stmts
invariant-stmt-loop-stmts l = BranchesGoOn l.initial.self l.self l.stmts-items (drop l.stmts-index l.stmts-items) l.parts.items
