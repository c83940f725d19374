use Rattle.std.proofs.Common.{rules, ◌≡◌, map, ap, ◌∙◌}
use Rattle.std.specs.Prelude.{slice_set}
use Rattle.aif_cells.specs.Tree.{tree}
use Rattle.aif_cells.specs.Built.{all_defined}
use Rattle.absence_reaction.specs.Closing.{built, closed_element}
use Rattle.absence_reaction.proofs.ElementLemmas.{cells_longer, closed_by, element_of, map_set}
use Rattle.absence_reaction.proofs.closing.close_element.Goals as goal

made : (c : goal.In_ok-watch-2) → element_of c.in_ok-flag.flag c.in_ok-pending.pending (built c.watch-2.new.cells c.watch-2.new.monitors) ≡ closed_element c.args.shape c.args.copy.now c.args.element c.args.cell (built c.args.cells.now c.args.monitors.now)
made c =
    closed_by c.args.shape c.args.copy.now c.args.element c.args.cell (built c.args.cells.now c.args.monitors.now)
    (all_defined c.set.new.self) (all_defined c.join.new.cells) (all_defined c.pending_in.new.cells) (map tree c.in_ok-guards.guards.items)
    c.in_ok-flag.flag c.in_ok-pending.pending c.has_pending-beside.result (built c.watch.new.cells c.watch.new.monitors) (built c.watch-2.new.cells c.watch-2.new.monitors)
    (ap all_defined c.set.ensures ∙ map_set c.args.cells.now c.args.cell (record { tree = c.in_ok-tree.tree; place = c.args.shape.place })
    ∙ ap (λ t. slice_set (all_defined c.args.cells.now) c.args.cell (record { tree = t; place = c.args.shape.place })) c.in_ok-tree.ensures)
    (search rules) (search rules) (search rules) (search rules) (search rules) (search rules)

pub returns-clause-made : goal.returns-clause-made
returns-clause-made c = made c

pub returns-clause-longer : goal.returns-clause-longer
returns-clause-longer c = cells_longer c.args.shape c.args.copy.now c.args.element c.args.cell c.args.cells.now c.watch-2.new.cells c.args.monitors.now c.watch-2.new.monitors c.in_ok-flag.flag c.in_ok-pending.pending (made c)
