use Rattle.std.proofs.Common.{inl}
use Rattle.averest_top.proofs.fetching.do_module.Goals as goal

pub returns-in-Err-clause-possible : goal.returns-in-Err-clause-possible
returns-in-Err-clause-possible g c = inl tt
