use Rattle.std.proofs.Common.{◌≡◌, drop, is_some}
use Rattle.quartz_tree.specs.Least.{least_place, lesser_place}
use Rattle.quartz_names.specs.NameRules.{repeated, repeated_after}
use Rattle.quartz_names.specs.Walks.{scope_of}
use Rattle.quartz_names.proofs.walk.least_repeated.Given as goal

abbrev pub invariant-loop-decl : goal.invariant-loop-decl
invariant-loop-decl l = least_place (repeated l.decls) ≡ lesser_place l.least (least_place (repeated_after (λ y. is_some (scope_of l.seen y)) (drop l.decl-index l.decls)))
