use Rattle.std.proofs.Common.{◌∙◌, subst}
use Rattle.std.proofs.lemmas.Bool.{MatchBool-at_true, MatchBool-at_false}
use Rattle.causality_check.specs.Shortest.{NearestIs}
use Rattle.causality_check.proofs.ShortestLemmas.{nearest_first, nearest_skip, nearest_sooner, nearest_stays}
use Rattle.causality_check.proofs.cycle.nearer.Goals as goal

pub returns-in-None : goal.returns-in-None
returns-in-None c = λ ds ks e p. nearest_skip ds ks c.args.cell c.args.best (e ∙ c.in-None.is) p

pub returns-in-None-best : goal.returns-in-None-best
returns-in-None-best c = λ ds ks e p. nearest_first ds ks c.args.cell c.in-Some.steps (e ∙ c.in-Some.is) (subst (NearestIs ds ks) c.in-None-best.is p)

pub returns-then-is_sooner : goal.returns-then-is_sooner
returns-then-is_sooner c = λ ds ks e p. nearest_sooner ds ks c.args.cell c.in-Some.steps c.in-Some-best.found.0 c.in-Some-best.found.1 (e ∙ c.in-Some.is) (MatchBool-at_true _ _ c.if-is_sooner.true c.is_sooner.ensures) (subst (NearestIs ds ks) c.in-Some-best.is p)

pub returns-else-is_sooner : goal.returns-else-is_sooner
returns-else-is_sooner c = λ ds ks e p. nearest_stays ds ks c.args.cell c.in-Some.steps c.in-Some-best.found.0 c.in-Some-best.found.1 (e ∙ c.in-Some.is) (MatchBool-at_false _ _ c.if-is_sooner.false c.is_sooner.ensures) (subst (NearestIs ds ks) c.in-Some-best.is p)
