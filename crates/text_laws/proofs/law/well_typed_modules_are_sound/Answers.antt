use Rattle.text_laws.proofs.VerdictLemmas.{well_typed_is_sound}
use Rattle.text_laws.proofs.law.well_typed_modules_are_sound.Goals as goal

pub returns : goal.returns
returns c = well_typed_is_sound
