use Rattle.framed_terms.proofs.LawLemmas.{framed_as_plain, plain_as_framed}
use Rattle.framed_terms.proofs.law.framed_terms_react_as_plain_ones.Goals as goal

pub returns : goal.returns
returns c = record { forth = framed_as_plain; back = plain_as_framed }
