use Rattle.std.proofs.Common.{arith, rules}
use Rattle.statement_builder.proofs.JoinLemmas.{no_part_end, one_part_end}
use Rattle.statement_builder.proofs.builder.Builder.part_end.Goals as goal

pub returns-then-labels-eq0 : goal.returns-then-labels-eq0
returns-then-labels-eq0 c = no_part_end c.args.self.now c.args.label c.args.labels c.args.end _ (omega arith) (search rules)

pub returns : goal.returns
returns c = one_part_end c.args.self.now c.end_or_rest.new.self c.args.label c.args.labels c.args.end c.in_ok-made.made c.in_ok-alone.alone (λ e. omega arith) c.in_ok-made.ensures (search rules)
