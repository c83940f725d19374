use Rattle.step_laws.proofs.FirstLemmas.{initial_bits}
use Rattle.step_laws.proofs.law.registers_begin_as_bits.Goals as goal

pub returns : goal.returns
returns c = initial_bits
