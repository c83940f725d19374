use Rattle.std.proofs.Common.{rules, ap, length}
use Rattle.aif_cells.specs.declared.aif.Aif.{Aif}
use Rattle.statement_cells.specs.Whole.{first_copies}
use Rattle.surface_depth.proofs.BeginLemmas.{fresh_built, fresh_over}
use Rattle.surface_depth.proofs.beginning.fresh_builder.Goals as goal

pub returns-clause-over : goal.returns-clause-over
returns-clause-over c = fresh_over _ c.args.vars.now (ap (λ (a : Aif). a.vars) c.in_ok-aif.ensures) c.in_ok-copies.ensures (search rules)

pub returns-clause-built : goal.returns-clause-built
returns-clause-built c =
    fresh_built _ (first_copies c.args.vars.now 0) (length c.args.vars.now) c.in_ok-copies.ensures (ap (λ (a : Aif). a.cells) c.in_ok-aif.ensures) (ap (λ (a : Aif). a.monitors) c.in_ok-aif.ensures)
    (ap (λ (a : Aif). a.actions) c.in_ok-aif.ensures) (ap (λ (a : Aif). a.made) c.in_ok-aif.ensures) (search rules) (search rules) (search rules) (search rules) (search rules)
