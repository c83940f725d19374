use Rattle.std.proofs.Common.{◌≡◌, drop, length, map}
use Rattle.reincarnation.specs.Carrying.{stores}
use Rattle.statement_builder.specs.Built.{depth_copy}
use Rattle.surface_depth.specs.Carrying.{ChangesStores, depths_from}
use Rattle.surface_depth.proofs.carrying.take_depths.Given as goal

abbrev pub invariant-loop-depth : goal.invariant-loop-depth
invariant-loop-depth l = record {
  carried : depths_from l.initial.aif.vars l.entered (map depth_copy (drop l.depth-index l.depths)) (stores l.aif.registers l.aif.cells) ≡ depths_from l.initial.aif.vars l.entered (map depth_copy l.depths) (stores l.initial.aif.registers l.initial.aif.cells);
  rest : ChangesStores l.initial.aif l.aif;
  count : length l.aif.registers ≡ length l.initial.aif.registers;
}
