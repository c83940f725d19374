use Rattle.std.proofs.Common.{sym, ◌∙◌}
use Rattle.quartz_lexer.proofs.Fronts.{blank_piece}
use Rattle.quartz_lexer.proofs.piece.first_piece.Goals as goal

pub returns-then-is_blank : goal.returns-then-is_blank
returns-then-is_blank c = blank_piece c.args.text.now c.requires (sym c.is_blank.ensures ∙ c.if-is_blank.true)
