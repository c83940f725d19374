use Rattle.walk_laws.proofs.EndLemmas.{cured, long_enough}
use Rattle.walk_laws.proofs.law.short_lists_are_cured.Goals as goal

pub returns : goal.returns
returns c = record { long = long_enough; cured = cured }
