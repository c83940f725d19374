use Rattle.std.proofs.Common.{◌++◌, List, drop}
use Rattle.aif_cells.specs.declared.reference.Ref.{Ref}
use Rattle.statement_cells.specs.Surface.{at_end}
use Rattle.statement_builder.specs.declared.builder.Builder.{Builder}
use Rattle.statement_builder.specs.Built.{MakesAll}
use Rattle.statement_builder.proofs.JoinLemmas.{terms}
use Rattle.statement_builder.proofs.builder.Builder.at_end.Given as goal

abbrev pub invariant-loop-at : goal.invariant-loop-at
invariant-loop-at l = (b : Builder) (rs : List Ref) → MakesAll l.self b rs (λ κ. at_end l.vars l.first (terms (drop l.at l.parts)) (drop l.at l.ends)) → MakesAll l.initial.self b (l.all ++ rs) (λ κ. at_end l.vars l.initial.first (terms l.parts) l.ends)
