use Rattle.std.proofs.Common.{◌≡◌, ◌+◌, map, take}
use Rattle.statement_builder.specs.Built.{IsOver}
use Rattle.surface_depth.specs.Begins.{output_copy}
use Rattle.surface_depth.specs.Ends.{EndsAll, count_of_outputs}
use Rattle.surface_depth.proofs.ending.close_outputs.Given as goal

abbrev pub invariant-loop-output : goal.invariant-loop-output
invariant-loop-output l = record {
  over : IsOver l.vars l.builder;
  at : l.register ≡ l.first + count_of_outputs l.vars (map output_copy (take l.output-index l.outputs));
  ends : EndsAll l.vars l.initial.builder (take l.output-index l.outputs) l.first l.closed.items l.builder;
}
