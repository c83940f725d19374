use Rattle.std.proofs.Common.{◌≡◌, [], ◌++◌, drop, map, arith}
use Rattle.std.proofs.lemmas.List.{drop_all}
use Rattle.quartz_tree.specs.Kernel.{kernel, kernels}
use Rattle.quartz_names.specs.Targets.{all_next_targets}
use Rattle.quartz_names.proofs.TargetLemmas.{targets_done, targets_step}
use Rattle.quartz_names.proofs.WalkLemmas.{left_from}
use Rattle.quartz_names.proofs.target.+targets.Goals as goal

pub add_all_targets-loop-stmt-preserved : goal.add_all_targets-loop-stmt-preserved
add_all_targets-loop-stmt-preserved t c =
    targets_step _ c.loop-stmt.targets.items _ _ _ c.stmt-item.result (left_from c.args.stmts.now c.loop-stmt.stmt-index c.stmt-item.result (omega arith) c.stmt-item.is) c.in_ok-add_targets.ensures c.loop-stmt.invariant

pub add_all_targets-returns : goal.add_all_targets-returns
add_all_targets-returns t c = targets_done _ _ _ (drop_all c.loop-stmt.stmt-index c.args.stmts.now (omega arith)) c.loop-stmt.invariant
