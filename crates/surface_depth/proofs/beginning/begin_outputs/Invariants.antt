use Rattle.std.proofs.Common.{take}
use Rattle.statement_builder.specs.Built.{IsOver}
use Rattle.surface_depth.specs.Begins.{BeginsAll}
use Rattle.surface_depth.proofs.beginning.begin_outputs.Given as goal

abbrev pub invariant-loop-output : goal.invariant-loop-output
invariant-loop-output l = record {
  over : IsOver l.vars l.builder;
  begins : BeginsAll l.vars l.initial.builder (take l.output-index l.outputs) l.copies.items l.builder;
}
