use Rattle.std.proofs.Common.{drop}
use Rattle.quartz_expr.specs.Intervals.{span}
use Rattle.quartz_expr.specs.Typed.{AllLie}
use Rattle.sos_terms.proofs.fitting.all_lie.Given as goal

abbrev pub invariant-loop-element : goal.invariant-loop-element
invariant-loop-element l =
    let all = AllLie (span l.low l.high) l.elements in
    let left = AllLie (span l.low l.high) (drop l.element-index l.elements) in
    (left → all) × (all → left)
