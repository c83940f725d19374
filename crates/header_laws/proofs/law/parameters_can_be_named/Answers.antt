use Rattle.header_laws.proofs.HeaderLemmas.{parameters_can_be_named}
use Rattle.header_laws.proofs.law.parameters_can_be_named.Goals as goal

pub returns : goal.returns
returns c = parameters_can_be_named
