use Rattle.sos_model.proofs.ReactLemmas.{walk_reacts, reaction_walks}
use Rattle.sos_model.proofs.law.walks_are_reactions.Goals as goal

pub returns : goal.returns
returns c = λ vs env t r xs ys h. (walk_reacts vs env t r xs ys h, reaction_walks vs env t r xs ys h)
