use Rattle.std.proofs.Common.{rules, ℕ, List, ◌∙◌, drop, Contains, subst, sym, ap}
use Rattle.std.proofs.lemmas.List.{with_items_is}
use Rattle.causality_check.specs.declared.components.Mark.{Mark}
use Rattle.causality_check.specs.declared.components.Mark.TheVariants.{Closed}
use Rattle.causality_check.specs.Search.{mark_in}
use Rattle.causality_check.proofs.components.Search.close.Goals as goal

pub returns-clause-closed : goal.returns-clause-closed
returns-clause-closed c = λ a h.
    ap (λ (ms : List Mark). mark_in ms a) (with_items_is c.args.self.now.marks c.close_cells.new.marks (search rules))
    ∙ (c.close_cells.ensures.closed a (subst (λ (xs : List ℕ). Contains xs a) (sym (c.cells_from.ensures ∙ ap (drop c.args.start) c.deref.ensures.value)) h)
    ∙ ap Closed (c.len-component.ensures ∙ c.args.self.now.roots.ok.0))
