use Rattle.std.proofs.Common.{rules, arith}
use Rattle.surface_depth.proofs.BeginLemmas.{begins_more, below_these}
use Rattle.surface_depth.proofs.beginning.begin_outputs.Goals as goal

pub begin_output-requires-clause-var : goal.begin_output-requires-clause-var
begin_output-requires-clause-var c = below_these c.args.vars.now c.args.outputs.now c.loop-output.output-index c.requires.outputs (omega arith)

pub loop-output-preserved : goal.loop-output-preserved
loop-output-preserved c = record {
  over = c.in_ok-begin_output.ensures.begins.over c.loop-output.invariant.over;
  begins =
      begins_more c.args.vars.now c.args.builder.now c.loop-output.builder c.begin_output.new.builder c.args.outputs.now c.loop-output.output-index c.loop-output.copies.items c.push.new.self.items c.in_ok-begin_output.field-0
      (omega arith) c.in_ok-begin_output.ensures.var (search rules) c.loop-output.invariant.begins c.in_ok-begin_output.ensures.begins;
}
