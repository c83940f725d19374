use Rattle.std.proofs.Common.{◌≡◌, vec_len}
use Rattle.quartz_names.specs.Walks.{restored, scope_in}
use Rattle.quartz_names.proofs.walk.Walk.close.Given as goal

abbrev pub invariant-loop-last : goal.invariant-loop-last
invariant-loop-last l = record {
  names : restored (scope_in l.initial.self) l.initial.hidden.items ≡ restored (scope_in l.self) l.hidden.items;
  decls : l.self.decls ≡ l.initial.self.decls;
  broken : l.self.broken ≡ l.initial.self.broken;
}

abbrev pub decreases-loop-last : goal.decreases-loop-last
decreases-loop-last l = vec_len l.hidden
