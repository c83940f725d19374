use Rattle.std.proofs.Common.{◌≡◌, subst}
use Rattle.std.proofs.lemmas.List.{take_rest}
use Rattle.quartz_lexer.specs.Lexing.{origin, Breaks, too_long, lexemes}
use Rattle.quartz_lexer.proofs.Laws.{one_outcome}
use Rattle.quartz_lexer.proofs.Steps.{kept_none, breaks, whole_read, sum_fits, place_fits, kept_gap, kept_word}
use Rattle.quartz_lexer.proofs.scan.lex.Goals as goal
use Rattle.quartz_lexer.proofs.scan.lex.Goals.{in-Gap, in-Word+in_ok-push-in-Word}

pub returns-then-text-gt-MAX_BYTES-clause-broken : goal.returns-then-text-gt-MAX_BYTES-clause-broken
returns-then-text-gt-MAX_BYTES-clause-broken c = λ p e.
    let same : origin ≡ p = cc in
    subst (Breaks c.args.text.now) same (too_long c.args.text.now c.if-text-gt-MAX_BYTES.true)

pub loop-at-init : goal.loop-at-init
loop-at-init c = rw c.new-items.ensures.items (kept_none c.args.text.now c.if-text-gt-MAX_BYTES.false)

pub returns-in-Stuck-clause-broken : goal.returns-in-Stuck-clause-broken
returns-in-Stuck-clause-broken c = λ p e.
    let same : c.loop-at.place ≡ p = cc in
    subst (Breaks c.args.text.now) same
    (breaks c.args.text.now c.loop-at.at c.loop-at.place c.loop-at.items.items c.loop-at.invariant (rw take_rest at c.in-Stuck.ensures))

pub advance-place-requires-clause-line_fits : goal.advance-place-requires-clause-line_fits
advance-place-requires-clause-line_fits c =
    let fits = place_fits c.args.text.now c.loop-at.at c.loop-at.place c.loop-at.items.items c.loop-at.invariant in
    sum_fits c.args.text.now c.loop-at.at c.loop-at.place c.loop-at.items.items c.loop-at.invariant c.loop-at.place.line c.match-first_piece.end fits.line

pub advance-place-requires-clause-col_fits : goal.advance-place-requires-clause-col_fits
advance-place-requires-clause-col_fits c =
    let fits = place_fits c.args.text.now c.loop-at.at c.loop-at.place c.loop-at.items.items c.loop-at.invariant in
    sum_fits c.args.text.now c.loop-at.at c.loop-at.place c.loop-at.items.items c.loop-at.invariant c.loop-at.place.col c.match-first_piece.end fits.col

pub loop-at-preserved : goal.loop-at-preserved
loop-at-preserved c = elim c.match-first_piece.branch [
  | in-Gap w ↦
      let piece = rw take_rest at w.in-Gap.ensures in
      rw (c.advance-place.ensures, w.items-is)
      (kept_gap c.args.text.now c.loop-at.at c.loop-at.place c.loop-at.items.items c.loop-at.invariant w.in-Gap.len c.match-first_piece.end w.end-is piece)
  | in-Word+in_ok-push-in-Word w ↦
      let piece = rw take_rest at w.in-Word.ensures in
      rw (c.advance-place.ensures, w.items-is, w.in_ok-push-in-Word.ensures.items)
      (kept_word c.args.text.now c.loop-at.at c.loop-at.place c.loop-at.items.items c.loop-at.invariant w.in-Word.kind w.in-Word.len c.match-first_piece.end w.end-is piece)
]

pub returns-clause-unbroken : goal.returns-clause-unbroken
returns-clause-unbroken c = λ p.
    (one_outcome c.args.text.now).not_both (lexemes c.args.text.now c.loop-at.items.items) p
    (whole_read c.args.text.now c.loop-at.at c.loop-at.place c.loop-at.items.items c.loop-at.invariant c.loop-at-test.false)
