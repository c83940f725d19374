use Rattle.text_laws.proofs.ConflictLemmas.{stories_end_flagged, strict_steps_have_no_conflict, strict_stories_have_no_conflict, untold_has_no_conflict}
use Rattle.text_laws.proofs.law.conflicts_are_of_loose_pairs.Goals as goal

pub returns : goal.returns
returns c = record {
  place = untold_has_no_conflict;
  stories = stories_end_flagged;
  strict_steps = strict_steps_have_no_conflict;
  strict_stories = strict_stories_have_no_conflict;
}
