use Rattle.std.proofs.Common.{rules, arith}
use Rattle.quartz_tree.specs.Kernel.{kernel}
use Rattle.quartz_expr.specs.Terms.{term_of}
use Rattle.surface_depth.proofs.WholeLemmas.{early_large}
use Rattle.surface_depth.proofs.compiling.compile.Goals as goal

pub returns-then-registers-sizes-gt-GREATEST_SIZE-clause-too_large : goal.returns-then-registers-sizes-gt-GREATEST_SIZE-clause-too_large
returns-then-registers-sizes-gt-GREATEST_SIZE-clause-too_large c = λ e.
    early_large c.args.typed.now.resolved.vars (term_of (kernel c.args.typed.now.resolved.body)) c.in_ok-sizes.sizes (search rules) (omega arith)
