use Rattle.std.proofs.Common.{rules, ◌≡◌, max}
use Rattle.write_conflicts.proofs.ReachLemmas.{holds_group}
use Rattle.write_conflicts.proofs.reach.push_group.Goals as goal

pub returns-clause-held : goal.returns-clause-held
returns-clause-held c =
    let e : c.max-greatest.result ≡ max c.greatest_in_guards.result c.greatest_in_cells.result = search rules in
    holds_group c.args.cells.now c.args.actions.now c.push_blocks.new.blocks.items c.args.group c.greatest_in_cells.result c.greatest_in_guards.result c.max-greatest.result c.greatest_in_cells.ensures c.greatest_in_guards.ensures e c.in_ok-push_blocks.ensures.added
