use Rattle.write_conflicts.specs.Pairs.{scene}
use Rattle.write_conflicts.specs.Claims.{AreClaimsFrom}
use Rattle.write_conflicts.proofs.claims.claims_of.Given as goal

abbrev pub invariant-loop-at : goal.invariant-loop-at
invariant-loop-at l = AreClaimsFrom l.at (scene l.aif) l.blocks.items l.columns.items l.aif.actions l.claims.items
