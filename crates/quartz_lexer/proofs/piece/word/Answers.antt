use Rattle.std.proofs.Common.{refl}
use Rattle.std.proofs.lemmas.Bool.{false≢true}
use Rattle.quartz_lexer.specs.declared.token.TokenKind.TheVariants.{Name, Keyword}
use Rattle.quartz_lexer.proofs.Fronts.{word_piece, word_begins}
use Rattle.quartz_lexer.proofs.piece.word.Goals as goal

pub returns-then-is_keyword : goal.returns-then-is_keyword
returns-then-is_keyword c =
    let listed = c.if-is_keyword.ensures.0 refl in
    rw c.run_len-len.ensures (word_piece Keyword c.args.text.now c.requires (rw c.run_len-len.ensures at listed))

pub returns-else-is_keyword : goal.returns-else-is_keyword
returns-else-is_keyword c =
    let absent = rw c.run_len-len.ensures at c.if-is_keyword.ensures.1 in
    rw c.run_len-len.ensures (word_piece Name c.args.text.now c.requires (word_begins c.args.text.now c.requires, λ h. false≢true (absent h)))
