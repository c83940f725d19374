use Rattle.std.proofs.Common.{◌-◌, drop, get_or, length, pos, take}
use Rattle.aif_cells.specs.declared.reference.Ref.TheVariants.{Lit}
use Rattle.statement_builder.proofs.JoinLemmas.{and_none, and_some, no_items, some_items}
use Rattle.statement_builder.proofs.builder.Builder.and_all.Goals as goal

pub returns-then-is_empty : goal.returns-then-is_empty
returns-then-is_empty c = and_none c.args.self.now c.args.without c.args.all.now (no_items c.args.all.now c.if-is_empty.ensures)

pub returns : goal.returns
returns c = and_some c.args.self.now c.and_more.new.self c.args.without (get_or c.args.all.now 0 (Lit (pos 0))) c.in_ok-joined.joined (take (length c.args.all.now - 1) (drop 1 c.args.all.now)) c.args.all.now (some_items c.args.all.now (Lit (pos 0)) c.if-is_empty.ensures) c.in_ok-joined.ensures
