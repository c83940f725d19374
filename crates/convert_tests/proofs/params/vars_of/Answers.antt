use Rattle.std.proofs.Common.{rules, ap, ◌∙◌, sym}
use Rattle.quartz_expr.specs.Intervals.{is_sound_type}
use Rattle.trace_io.proofs.TypeLemmas.{sound_pushed}
use Rattle.convert_tests.proofs.params.vars_of.Goals as goal

pub loop-param-preserved : goal.loop-param-preserved
loop-param-preserved c = record {
  few = search rules;
  types = sound_pushed c.loop-param.vars.items c.push.new.self.items c.in_ok-var.field-0 c.in_ok-push.ensures.items c.loop-param.invariant.types (ap is_sound_type c.in_ok-var.ensures ∙ (sym c.is_bounded.ensures ∙ c.if-not-is_bounded.false));
}
