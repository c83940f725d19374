use Rattle.std.proofs.Common.{◌∙◌, map, ap, arith}
use Rattle.std.proofs.lemmas.Result.{IfOk-weaker}
use Rattle.causality_check.specs.Search.{rank_of, table}
use Rattle.causality_check.proofs.SearchLemmas.{are_components}
use Rattle.causality_check.proofs.components.components.Goals as goal

pub returns : goal.returns
returns c = IfOk-weaker c.ranks.result _ _ (λ v e. are_components c.args.graph.now (table c.loop-root.search) v.items c.requires.closed c.loop-root.invariant.holds c.loop-root.invariant.none (λ a lt. c.loop-root.invariant.reached a (omega (arith, lt, c.loop-root-test.false))) (e ∙ ap (map rank_of) c.as_slice.ensures.value)) c.ranks.ensures
