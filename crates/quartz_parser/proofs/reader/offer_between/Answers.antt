use Rattle.std.proofs.Common.{sym, ◌∙◌}
use Rattle.quartz_parser.specs.Views.{token}
use Rattle.quartz_parser.proofs.ReaderLemmas.{module_begins, no_module_begins}
use Rattle.quartz_parser.proofs.reader.offer_between.Goals as goal

pub returns-then-is_mark-clause-is : goal.returns-then-is_mark-clause-is
returns-then-is_mark-clause-is c = λ many r p. module_begins many r (token c.args.item p) (sym (c.is_mark.ensures p) ∙ c.if-is_mark.true)

pub returns-else-is_mark-clause-is : goal.returns-else-is_mark-clause-is
returns-else-is_mark-clause-is c = λ many r p. no_module_begins many r (token c.args.item p) (sym (c.is_mark.ensures p) ∙ c.if-is_mark.false)
