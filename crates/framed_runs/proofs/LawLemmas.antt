-- Both laws of framed runs, each a half of `same_runs`.
use Rattle.framed_runs.specs.Laws.{FramedRunsArePlain, PlainRunsAreFramed}
use Rattle.framed_runs.proofs.RunLemmas.{same_runs}

pub framed_are_plain : FramedRunsArePlain
framed_are_plain us u ws body h ins outs end s = (same_runs us u ws body h s ins outs end).0

pub plain_are_framed : PlainRunsAreFramed
plain_are_framed us u ws body h ins outs end s = (same_runs us u ws body h s ins outs end).1
