use Rattle.std.proofs.Common.{rules}
use Rattle.causality_check.proofs.ShortestLemmas.{none_held_up}
use Rattle.causality_check.proofs.ordered.cycle_in.Goals as goal

pub unreachable-requires : goal.unreachable-requires
unreachable-requires c = none_held_up c.args.graph.now c.in_ok-ranks.ranks.items c.requires.stuck.0 c.requires.closed (search rules) c.requires.stuck.1 c.requires.stuck.2.0 c.requires.stuck.2.1 c.requires.stuck.2.2
