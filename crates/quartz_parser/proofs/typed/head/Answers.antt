use Rattle.std.proofs.Common.{sym, ◌∙◌}
use Rattle.quartz_parser.specs.Views.{token}
use Rattle.quartz_parser.proofs.TokenLemmas.{with_storage, without_storage}
use Rattle.quartz_parser.proofs.typed.head.Goals as goal

pub returns-in-None : goal.returns-in-None
returns-in-None c = λ next outer p. c.head_without_storage.ensures next outer p ∙ sym (without_storage next (token c.args.item p) outer (c.in-None.ensures p))

pub returns-in-Some : goal.returns-in-Some
returns-in-Some c = λ next outer p. sym (with_storage _ next (token c.args.item p) outer (c.in-Some.ensures p))
