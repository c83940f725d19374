use Rattle.std.proofs.Common.{rules, ◌∙◌}
use Rattle.trace_io.proofs.ValueLemmas.{one_more_digit}
use Rattle.trace_io.proofs.value.number_of.Goals as goal

pub loop-byte-preserved : goal.loop-byte-preserved
loop-byte-preserved c = record {
  within = search rules;
  value = c.loop-byte.invariant.value ∙ one_more_digit c.args.radix c.loop-byte.number c.with_digit-number.result c.loop-byte.byte-index c.args.digits.now (search rules) (search rules) (search rules) (search rules);
}
