use Rattle.std.proofs.Common.{ℕ, reverse, vec_len}
use Rattle.statement_cells.specs.Surface.{surface}
use Rattle.std.specs.Prelude.{false}
use Rattle.statement_builder.specs.declared.builder.Builder.{Builder}
use Rattle.statement_builder.specs.Built.{IsOver}
use Rattle.statement_builder.specs.Scopes.{EndsAll}
use Rattle.statement_builder.proofs.builder.Builder.end_all_started.Given as goal

abbrev pub invariant-loop-scope : goal.invariant-loop-scope
invariant-loop-scope l = record {
  over : IsOver l.vars l.self;
  ends : (label : ℕ) (b : Builder) → EndsAll l.vars l.self false l.labels (reverse l.left.items) l.end (λ s. surface l.vars s.copies label s.register s.term l.go l.step s.built) b
      → EndsAll l.vars l.initial.self false l.labels (reverse l.initial.left.items) l.end (λ s. surface l.vars s.copies label s.register s.term l.go l.step s.built) b;
}

abbrev pub decreases-loop-scope : goal.decreases-loop-scope
decreases-loop-scope l = vec_len l.left
