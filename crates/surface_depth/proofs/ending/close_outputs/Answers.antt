use Rattle.std.proofs.Common.{rules, arith}
use Rattle.surface_depth.proofs.EndLemmas.{count_more, ends_more}
use Rattle.surface_depth.proofs.ending.close_outputs.Goals as goal

pub loop-output-preserved : goal.loop-output-preserved
loop-output-preserved c = record {
  over = c.in_ok-close_output.ensures.over c.loop-output.invariant.over;
  at = omega (arith, c.loop-output.invariant.at, count_more c.args.vars.now c.args.outputs.now c.loop-output.output-index c.output-item.result (omega arith) c.output-item.is);
  ends =
      ends_more c.args.vars.now c.args.builder.now c.loop-output.builder c.close_output.new.builder c.args.outputs.now c.loop-output.output-index c.args.first c.loop-output.register c.output-item.result
      c.loop-output.closed.items c.push.new.self.items c.in_ok-close_output.field-0 (omega arith) c.output-item.is (search rules) c.loop-output.invariant.at c.loop-output.invariant.ends c.in_ok-close_output.ensures;
}
