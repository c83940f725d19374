use Rattle.std.proofs.Common.{◌∙◌, ap, sym}
use Rattle.quartz_names.specs.Walks.{restored, scope_in}
use Rattle.quartz_names.proofs.ScopeLemmas.{restored_last}
use Rattle.quartz_names.proofs.walk.Walk.close.Goals as goal

pub loop-last-preserved : goal.loop-last-preserved
loop-last-preserved c = record {
  names = c.loop-last.invariant.names ∙ ap (restored (scope_in c.loop-last.self)) c.in-Some.ensures.items ∙ restored_last (scope_in c.loop-last.self) c.pop.new.self.items c.in-Some.last ∙ ap (λ s. restored s c.pop.new.self.items) (sym c.in_ok-set.ensures);
  decls = c.loop-last.invariant.decls;
  broken = c.loop-last.invariant.broken;
}
