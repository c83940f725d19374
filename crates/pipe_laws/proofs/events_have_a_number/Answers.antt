-- The three laws on the number of events.
use Rattle.pipe_laws.proofs.events_have_a_number.Goals as goal
use Rattle.pipe_laws.proofs.CountLemmas.{counted, at_most_counted, formula}

pub returns : goal.returns
returns c = record { exact = counted; most = at_most_counted; formula = formula }
