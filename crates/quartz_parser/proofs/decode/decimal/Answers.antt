use Rattle.std.proofs.Common.{arith}
use Rattle.quartz_parser.proofs.ItemLemmas.{decimal_fits}
use Rattle.quartz_parser.proofs.decode.decimal.Goals as goal

pub number_in-requires-clause-fits : goal.number_in-requires-clause-fits
number_in-requires-clause-fits c = decimal_fits c.args.word.now c.requires
