use Rattle.std.proofs.Common.{sym, ◌∙◌}
use Rattle.quartz_parser.specs.Views.{token}
use Rattle.quartz_parser.proofs.TokenLemmas.{no_length_opens}
use Rattle.quartz_parser.proofs.typed.head_without_storage.Goals as goal

pub returns-else-is_mark : goal.returns-else-is_mark
returns-else-is_mark c = λ next outer p. c.base.ensures next outer p ∙ sym (no_length_opens c.args.storage next (token c.args.item p) outer (sym (c.is_mark.ensures p) ∙ c.if-is_mark.false))
