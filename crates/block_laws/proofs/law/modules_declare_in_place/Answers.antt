use Rattle.block_laws.proofs.BlockLemmas.{modules_declare_in_place}
use Rattle.block_laws.proofs.law.modules_declare_in_place.Goals as goal

pub returns : goal.returns
returns c = modules_declare_in_place
