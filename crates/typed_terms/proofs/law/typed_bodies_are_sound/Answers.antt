use Rattle.typed_terms.proofs.TypedLemmas.{typed_is_sound}
use Rattle.typed_terms.proofs.law.typed_bodies_are_sound.Goals as goal

pub returns : goal.returns
returns c = typed_is_sound
