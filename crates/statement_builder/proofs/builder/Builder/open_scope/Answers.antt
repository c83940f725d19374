use Rattle.std.proofs.Common.{ℕ, ◌∙◌, ap, map}
use Rattle.aif_cells.specs.declared.reference.Ref.TheVariants.{Cell}
use Rattle.statement_builder.proofs.ScopeLemmas.{scope_opened}
use Rattle.statement_builder.proofs.builder.Builder.open_scope.Goals as goal

pub returns : goal.returns
returns c = scope_opened c.args.vars.now c.args.self.now c.args.var c.args.first c.count_elements-count.result c.args.stored c.reserve.new.cells c.push.new.self c.begin_writes.new.variables c.exchange-current.new.copies c.declared_place-place.result
    c.in_ok-values.values c.in_ok-outer.outer c.in_ok-references.references c.exchange-current.result c.requires.over c.requires.var c.declared_place-place.ensures c.count_elements-count.ensures c.in_ok-values.ensures.numbers c.in_ok-values.ensures.cells
    c.in_ok-push.ensures.ok c.in_ok-outer.ensures.before c.in_ok-outer.ensures.after (c.in_ok-references.ensures ∙ ap (map (λ (n : ℕ). Cell n)) c.as_slice.ensures) c.exchange-current.ensures.before c.exchange-current.ensures.after
