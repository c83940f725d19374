use Rattle.std.proofs.Common.{List}
use Rattle.aif_cells.specs.declared.cells.Action.{Action}
use Rattle.aif_cells.specs.Built.{Defined, all_defined}
use Rattle.write_conflicts.specs.declared.block.Block.{Block}
use Rattle.write_conflicts.specs.declared.block.Group.TheVariants.{Inputs, Registers}
use Rattle.write_conflicts.proofs.ReachLemmas.{are_covered, still_held}
use Rattle.write_conflicts.proofs.reach.blocks_of.Goals as goal

pub returns : goal.returns
returns c =
    let cs : List Defined = all_defined c.args.cells.now in
    let actions : List Action = c.args.actions.now in
    let first : List Block = c.push_group.new.blocks.items in
    let second : List Block = c.push_group-2.new.blocks.items in
    let third : List Block = c.push_group-3.new.blocks.items in
    are_covered cs actions third
    (still_held cs actions second third Inputs c.in_ok-push_group-3.ensures.kept (still_held cs actions first second Inputs c.in_ok-push_group-2.ensures.kept c.in_ok-push_group.ensures.held))
    (still_held cs actions second third Registers c.in_ok-push_group-3.ensures.kept c.in_ok-push_group-2.ensures.held)
    c.in_ok-push_group-3.ensures.held
