use Rattle.std.proofs.Common.{take, ap, ◌∙◌}
use Rattle.aif_cells.proofs.ListLemmas.{take_min}
use Rattle.aif_cells.proofs.text.first_of.Goals as goal

pub returns : goal.returns
returns c = ap (λ k. take k c.args.numbers.now) c.as_many.ensures ∙ take_min c.args.count c.args.numbers.now
