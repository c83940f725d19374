-- Both laws of framed terms: the lemmas of the two directions, with their arguments in the order of the laws.
use Rattle.framed_terms.specs.Laws.{FramedReactAsPlain, PlainReactAsFramed}
use Rattle.framed_terms.proofs.ForwardLemmas.{forth}
use Rattle.framed_terms.proofs.BackLemmas.{back}

pub framed_as_plain : FramedReactAsPlain
framed_as_plain us ws vs f env all a t q g s h = forth us ws vs env a q h f all t g s

pub plain_as_framed : PlainReactAsFramed
plain_as_framed us ws vs f env all a t r g s h i = back us ws all t r h i vs f env a g s
