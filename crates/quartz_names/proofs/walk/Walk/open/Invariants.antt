use Rattle.std.proofs.Common.{◌≡◌, ◌++◌, drop, take}
use Rattle.quartz_names.specs.Scopes.{declared}
use Rattle.quartz_names.specs.Walks.{count_in, hidden_by, scope_in}
use Rattle.quartz_names.proofs.walk.Walk.open.Given as goal

abbrev pub invariant-loop-decl : goal.invariant-loop-decl
invariant-loop-decl l = record {
  hidden : hidden_by (scope_in l.initial.self) (count_in l.initial.self) l.decls ≡ l.hidden.items ++ hidden_by (scope_in l.self) (count_in l.self) (drop l.decl-index l.decls);
  names : declared (scope_in l.initial.self) (count_in l.initial.self) l.decls ≡ declared (scope_in l.self) (count_in l.self) (drop l.decl-index l.decls);
  decls : l.self.decls ≡ l.initial.self.decls ++ take l.decl-index l.decls;
  broken : l.self.broken ≡ l.initial.self.broken;
}
