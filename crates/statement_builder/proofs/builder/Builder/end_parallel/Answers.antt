use Rattle.std.proofs.Common.{List, subst}
use Rattle.aif_cells.specs.declared.reference.Ref.{Ref}
use Rattle.statement_cells.specs.Surface.{and_more}
use Rattle.statement_builder.specs.Built.{Makes}
use Rattle.statement_builder.proofs.JoinLemmas.{parallel_ended}
use Rattle.statement_builder.proofs.builder.Builder.end_parallel.Goals as goal

pub returns : goal.returns
returns c = parallel_ended c.args.vars.now c.args.self.now c.at_end.new.self c.in_of.new.self c.and_of.new.self c.and_more.new.self c.args.label c.in_ok-labels.field-0.labels c.args.parts.now c.args.ends.now c.in_ok-all.all c.args.res c.in_ok-within.within c.in_ok-inside.inside c.in_ok-made.made
    c.in_ok-all.ensures c.in_ok-labels.ensures.labels c.in_ok-within.ensures c.in_ok-inside.ensures (subst (λ (xs : List Ref). Makes c.and_of.new.self c.and_more.new.self c.in_ok-made.made (λ κ. and_more c.in_ok-inside.inside xs)) c.as_slice.ensures c.in_ok-made.ensures)
