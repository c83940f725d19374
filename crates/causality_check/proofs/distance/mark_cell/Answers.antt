use Rattle.std.proofs.Common.{Some, [], ◌∷◌, set, subst, sym}
use Rattle.causality_check.specs.Shortest.{AreMarked}
use Rattle.causality_check.proofs.ShortestLemmas.{marked_new, marked_old}
use Rattle.causality_check.proofs.distance.mark_cell.Goals as goal

pub returns-in-Some : goal.returns-in-Some
returns-in-Some c = marked_old c.args.cell c.in-Some.field-0 c.args.level c.args.distances.now c.args.noted.now c.in-Some.is

pub returns-in_ok-push-in-None : goal.returns-in_ok-push-in-None
returns-in_ok-push-in-None c = subst (AreMarked (c.args.cell ∷ []) c.args.level c.args.distances.now (set c.args.distances.now c.args.cell (Some c.args.level)) c.args.noted.now) (sym c.in_ok-push-in-None.ensures.ok)
    (marked_new c.args.cell c.args.level c.args.distances.now c.args.noted.now c.requires c.in-None.is)
