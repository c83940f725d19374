use Rattle.std.proofs.Common.{drop, ap, ◌∙◌}
use Rattle.std.proofs.lemmas.List.{take_rest}
use Rattle.aif_cells.proofs.ListLemmas.{drop_min}
use Rattle.aif_cells.proofs.text.behind.Goals as goal

pub returns : goal.returns
returns c = take_rest c.args.numbers.now c.as_many.result ∙ ap (λ k. drop k c.args.numbers.now) c.as_many.ensures ∙ drop_min c.args.count c.args.numbers.now
