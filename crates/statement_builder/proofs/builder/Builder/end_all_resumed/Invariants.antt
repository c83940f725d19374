use Rattle.std.proofs.Common.{reverse, vec_len}
use Rattle.aif_cells.specs.declared.reference.Ref.{Ref}
use Rattle.statement_cells.specs.Surface.{depth}
use Rattle.std.specs.Prelude.{true}
use Rattle.statement_builder.specs.declared.builder.Builder.{Builder}
use Rattle.statement_builder.specs.Built.{IsOver}
use Rattle.statement_builder.specs.Scopes.{EndsAll}
use Rattle.statement_builder.proofs.builder.Builder.end_all_resumed.Given as goal

abbrev pub invariant-loop-scope : goal.invariant-loop-scope
invariant-loop-scope l = record {
  over : IsOver l.vars l.self;
  ends : (res step stay : Ref) (b : Builder) → EndsAll l.vars l.self true l.labels (reverse l.left.items) l.end (λ s. depth l.vars s.copies l.label s.register s.term res step stay s.built) b
      → EndsAll l.vars l.initial.self true l.labels (reverse l.initial.left.items) l.end (λ s. depth l.vars s.copies l.label s.register s.term res step stay s.built) b;
}

abbrev pub decreases-loop-scope : goal.decreases-loop-scope
decreases-loop-scope l = vec_len l.left
