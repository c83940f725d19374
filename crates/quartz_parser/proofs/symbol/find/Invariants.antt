use Rattle.std.proofs.Common.{◌≡◌, map, drop}
use Rattle.quartz_parser.specs.Symbols.{find as found}
use Rattle.quartz_parser.proofs.symbol.find.Given as goal

abbrev pub invariant-loop-entry : goal.invariant-loop-entry
invariant-loop-entry l = found (map (λ e. (e.0.now, e.1)) (drop l.entry-index l.table)) l.text ≡ found (map (λ e. (e.0.now, e.1)) l.table) l.text
