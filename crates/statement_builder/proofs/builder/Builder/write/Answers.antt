use Rattle.std.specs.Prelude.{option_map}
use Rattle.quartz_tree.specs.Tree.{tree as plain}
use Rattle.statement_builder.proofs.TestLemmas.{all_written}
use Rattle.statement_builder.proofs.builder.Builder.write.Goals as goal

pub returns : goal.returns
returns c = all_written c.args.vars.now c.args.write.var (option_map plain c.args.write.index.now) (plain c.args.write.value.now) c.args.write.delayed c.args.write.place c.args.write.target_place c.args.go
    c.args.self.now c.watch_parts.new.self c.index_for.new.self c.watch_write.new.self c.value_for.new.self c.act.new.self c.in_ok-index.index c.in_ok-value.value c.copy_for-copy.result
    c.in_ok-watch_parts.ensures c.in_ok-index.ensures c.in_ok-watch_write.ensures c.in_ok-value.ensures c.copy_for-copy.ensures c.in_ok-act.ensures
