use Rattle.std.proofs.Common.{drop}
use Rattle.aif_cells.specs.declared.reference.Ref.{Ref}
use Rattle.statement_cells.specs.Surface.{and_more}
use Rattle.statement_builder.specs.declared.builder.Builder.{Builder}
use Rattle.statement_builder.specs.Built.{Makes}
use Rattle.statement_builder.proofs.builder.Builder.and_more.Given as goal

abbrev pub invariant-loop-other : goal.invariant-loop-other
invariant-loop-other l = (b : Builder) (r : Ref) → Makes l.self b r (λ κ. and_more l.joined (drop l.other-index l.others)) → Makes l.initial.self b r (λ κ. and_more l.initial.joined l.others)
