use Rattle.sos_terms.proofs.ReactLemmas.{typed_can_react}
use Rattle.sos_terms.proofs.starting.typed_bodies_react.Goals as goal

pub returns : goal.returns
returns c = typed_can_react
