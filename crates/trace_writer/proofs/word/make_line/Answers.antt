use Rattle.std.proofs.Common.{◌++◌, ◌∷◌, [], List, ℕ, rules, arith, ap, ◌∙◌, w64}
use Rattle.std.proofs.lemmas.Int.{to_z-of_z}
use Rattle.trace_writer.proofs.LineLemmas.{line_over, word_more}
use Rattle.trace_writer.proofs.word.make_line.Goals as goal

pub loop-at-preserved : goal.loop-at-preserved
loop-at-preserved c = record {
  within = omega (arith, c.loop-at-test.true);
  end = c.loop-at.invariant.end;
  text = word_more c.args.format c.args.types.now c.args.last.now c.args.values.now c.loop-at.at _ _ _ _ _ c.loop-at.line.items c.push_blank.new.line.items c.push_word.new.line.items _
      (omega (arith, c.loop-at-test.true, c.loop-at.invariant.end)) (omega (arith, c.loop-at-test.true, c.loop-at.invariant.end)) (omega (arith, c.loop-at-test.true, c.loop-at.invariant.end))
      c.loop-at.invariant.text c.push_blank.ensures.text (to_z-of_z w64 c.value_at.result (record { sfits = c.value_at.type_inv }) ∙ c.value_at.ensures) (to_z-of_z w64 c.value_at-in-loop-at.result (record { sfits = c.value_at-in-loop-at.type_inv }) ∙ c.value_at-in-loop-at.ensures) c.push_word.ensures.text;
  size = omega (arith, c.push_word.ensures.size, c.push_blank.ensures.size, c.loop-at.invariant.size);
  room = search rules;
  stays = search rules;
}

pub returns-clause-text : goal.returns-clause-text
returns-clause-text c =
    c.push_reserved.ensures.items
    ∙ ap (λ (l : List ℕ). l ++ (10 ∷ [])) (line_over c.args.format c.args.types.now c.args.last.now c.args.values.now c.loop-at.at c.loop-at.line.items _
    (omega (arith, c.loop-at-test.false, c.loop-at.invariant.within, c.loop-at.invariant.end)) c.loop-at.invariant.text)
