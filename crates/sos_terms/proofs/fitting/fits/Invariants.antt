use Rattle.sos_terms.proofs.FitLemmas.{FitsUpto}
use Rattle.sos_terms.proofs.fitting.fits.Given as goal

abbrev pub invariant-loop-at : goal.invariant-loop-at
invariant-loop-at l = FitsUpto l.vars l.env.values l.at
