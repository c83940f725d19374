use Rattle.std.proofs.Common.{arith}
use Rattle.quartz_tree.specs.Kernel.{kernel}
use Rattle.statement_builder.proofs.ChainLemmas.{labels_from_inside, registers_around, registers_from_inside}
use Rattle.statement_builder.proofs.counting.+counts.Goals as goal

pub count-returns-then-inner-eq0-clause-labels : goal.count-returns-then-inner-eq0-clause-labels
count-returns-then-inner-eq0-clause-labels t c = labels_from_inside (kernel c.args.stmt.now) (kernel c.unscoped.result.now) c.in_ok-inner.inner.labels c.unscoped.ensures.inside c.in_ok-inner.ensures.labels

pub count-returns-then-inner-eq0-clause-registers : goal.count-returns-then-inner-eq0-clause-registers
count-returns-then-inner-eq0-clause-registers t c = registers_from_inside c.args.vars.now (kernel c.args.stmt.now) (kernel c.unscoped.result.now) c.in_ok-inner.inner.labels c.in_ok-inner.inner.registers
    c.unscoped.ensures.inside c.in_ok-inner.ensures.labels (omega arith) c.in_ok-inner.ensures.registers

pub count-returns-clause-labels : goal.count-returns-clause-labels
count-returns-clause-labels t c = labels_from_inside (kernel c.args.stmt.now) (kernel c.unscoped.result.now) c.in_ok-inner.inner.labels c.unscoped.ensures.inside c.in_ok-inner.ensures.labels

pub count-returns-clause-registers : goal.count-returns-clause-registers
count-returns-clause-registers t c = registers_around c.args.vars.now (kernel c.args.stmt.now) (kernel c.unscoped.result.now) c.in_ok-inner.inner.labels c.in_ok-inner.inner.registers c.in_ok-scopes.scopes c.in_ok-plus.field-0
    c.unscoped.ensures.inside c.in_ok-inner.ensures.labels (λ e. omega arith) c.in_ok-inner.ensures.registers c.in_ok-scopes.ensures c.in_ok-plus.ensures
