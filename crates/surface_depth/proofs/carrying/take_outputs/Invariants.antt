use Rattle.std.proofs.Common.{◌≡◌, drop, length, map}
use Rattle.reincarnation.specs.Carrying.{stores}
use Rattle.statement_cells.specs.Whole.{outputs_taken}
use Rattle.surface_depth.specs.Carrying.{ChangesStores, closed_output}
use Rattle.surface_depth.proofs.carrying.take_outputs.Given as goal

abbrev pub invariant-loop-output : goal.invariant-loop-output
invariant-loop-output l = record {
  carried : outputs_taken l.initial.aif.vars (map closed_output (drop l.output-index l.outputs)) (stores l.aif.registers l.aif.cells) ≡ outputs_taken l.initial.aif.vars (map closed_output l.outputs) (stores l.initial.aif.registers l.initial.aif.cells);
  rest : ChangesStores l.initial.aif l.aif;
  count : length l.aif.registers ≡ length l.initial.aif.registers;
}
