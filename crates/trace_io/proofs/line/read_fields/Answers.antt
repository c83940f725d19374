use Rattle.std.proofs.Common.{rules, ◌∙◌}
use Rattle.std.proofs.lemmas.List.{take_rest}
use Rattle.trace_io.proofs.LineLemmas.{first_word, no_word, element_read, element_unread, element_missing, not_read, all_read}
use Rattle.trace_io.proofs.line.read_fields.Goals as goal

pub returns-then-end-eq0 : goal.returns-then-end-eq0
returns-then-end-eq0 c =
    not_read _ _ c.loop-field.last c.loop-field.invariant.same (element_missing c.args.may_keep c.args.fields.now c.loop-field.field-index c.loop-field.rest.now c.loop-field.last c.loop-field-test.true
    (no_word c.loop-field.rest.now c.trim_front-front.result.now c.word_length-end.result c.trim_front-front.ensures c.word_length-end.ensures.front c.if-end-eq0.true))

pub returns-then-not-place_value : goal.returns-then-not-place_value
returns-then-not-place_value c =
    not_read _ _ c.place_value.new.last c.loop-field.invariant.same
    (element_unread c.args.may_keep c.args.fields.now c.loop-field.field-index c.loop-field.rest.now c.trim_front-front.result.now c.word_length-end.result c.loop-field.last c.place_value.new.last c.place_value.result c.loop-field-test.true
    (first_word c.loop-field.rest.now c.trim_front-front.result.now c.word_length-end.result c.trim_front-front.ensures c.word_length-end.ensures.front c.word_length-end.ensures.behind c.word_length-end.ensures.within c.if-end-eq0.false)
    c.place_value.ensures c.if-not-place_value.true)

pub loop-field-preserved : goal.loop-field-preserved
loop-field-preserved c =
    let w = first_word c.loop-field.rest.now c.trim_front-front.result.now c.word_length-end.result c.trim_front-front.ensures c.word_length-end.ensures.front c.word_length-end.ensures.behind c.word_length-end.ensures.within c.if-end-eq0.false in
    record {
      long = search rules;
      same = c.loop-field.invariant.same ∙ simp take_rest (element_read c.args.may_keep c.args.fields.now c.loop-field.field-index c.loop-field.rest.now c.trim_front-front.result.now c.word_length-end.result c.loop-field.last c.place_value.new.last c.place_value.result c.loop-field-test.true w c.place_value.ensures c.if-not-place_value.false);
    }

pub returns : goal.returns
returns c =
    all_read c.args.may_keep c.args.fields.now c.loop-field.field-index c.loop-field.rest.now c.trim_front.result.now c.loop-field.last _ c.is_empty.result c.loop-field-test.false c.loop-field.invariant.same c.trim_front.ensures c.is_empty.ensures
