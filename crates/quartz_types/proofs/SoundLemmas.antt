-- The interval of an expression that breaks neither kinds nor bounds holds its values.
use Rattle.std.proofs.Common.{ℕ}
use Rattle.quartz_tree.specs.Tree.{Tree}
use Rattle.quartz_expr.specs.Intervals.{interval}
use Rattle.quartz_expr.specs.Vars.{Vars}
use Rattle.quartz_expr.proofs.TypingLemmas.{typed_of, written_of}
use Rattle.quartz_expr.proofs.WithinLemmas.{sound}
use Rattle.quartz_types.specs.Laws.{HoldsItsValues}

pub interval_holds : (vs : Vars) (t : Tree ℕ) → HoldsItsValues vs t (interval vs t)
interval_holds vs t types over kinds bounds env fits = let d = typed_of vs t over (written_of vs t bounds) kinds bounds in (sound vs env types fits t d.0 d.2).inside
