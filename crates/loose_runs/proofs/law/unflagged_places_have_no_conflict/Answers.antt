use Rattle.loose_runs.proofs.RunLooseLemmas.{loose_meets_conflict, runs_end_flagged, unflagged_has_no_conflict}
use Rattle.loose_runs.proofs.law.unflagged_places_have_no_conflict.Goals as goal

pub returns : goal.returns
returns c = record { loose = loose_meets_conflict; place = unflagged_has_no_conflict; runs = runs_end_flagged }
