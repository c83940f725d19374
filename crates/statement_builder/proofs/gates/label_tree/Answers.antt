use Rattle.std.proofs.Common.{arith, rules}
use Rattle.statement_cells.specs.Builder.{labels_tree}
use Rattle.statement_builder.proofs.GateLemmas.{label_more}
use Rattle.statement_builder.proofs.gates.label_tree.Goals as goal

pub loop-label-preserved : goal.loop-label-preserved
loop-label-preserved c = label_more c.loop-label.items.items c.push.new.self.items _ c.loop-label.label c.in_ok-last.last (labels_tree c.args.first c.args.more) (omega arith) (search rules) c.of_label.ensures c.loop-label.invariant
