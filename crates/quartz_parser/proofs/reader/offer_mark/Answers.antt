use Rattle.std.proofs.Common.{sym, ◌∙◌}
use Rattle.quartz_parser.specs.Views.{token}
use Rattle.quartz_parser.proofs.TokenLemmas.{expected, unexpected}
use Rattle.quartz_parser.proofs.reader.offer_mark.Goals as goal

pub returns-then-is_mark-clause-is : goal.returns-then-is_mark-clause-is
returns-then-is_mark-clause-is c = λ many r p. expected c.args.mark _ (token c.args.item p) (sym (c.is_mark.ensures p) ∙ c.if-is_mark.true)

pub returns-else-is_mark-clause-is : goal.returns-else-is_mark-clause-is
returns-else-is_mark-clause-is c = λ many r p. unexpected c.args.mark _ (token c.args.item p) (sym (c.is_mark.ensures p) ∙ c.if-is_mark.false)
