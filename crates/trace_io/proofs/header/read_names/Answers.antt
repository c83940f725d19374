use Rattle.std.proofs.Common.{rules, sym, ap, ap₂, refl, ◌∙◌, subst, List, ℕ, Bool, take, drop, arith}
use Rattle.std.proofs.lemmas.List.{take_rest}
use Rattle.trace_io.specs.declared.field.Field.{Field}
use Rattle.trace_io.specs.Lines.{words}
use Rattle.trace_io.specs.Scan.{AreFields, unblanked}
use Rattle.trace_io.specs.Header.{names_by, number_named, Adds}
use Rattle.trace_io.proofs.HeaderLemmas.{words_behind_blanks, trimmed_twice, not_listed, all_listed, word_at_front, front_shorter, is_some_text, is_no_text, name_refused, name_added}
use Rattle.trace_io.proofs.header.read_names.Goals as goal

pub loop-rest-init : goal.loop-rest-init
loop-rest-init c = record {
  same = ap₂ (λ (fs : List Field) (ws : List (List ℕ)). names_by c.args.inputs.now c.args.marks.now fs ws) (sym c.clear.ensures.items) (sym (words_behind_blanks c.args.text.now c.trim_front-rest.result.now c.trim_front-rest.ensures));
  trimmed = trimmed_twice c.args.text.now c.trim_front-rest.result.now c.trim_front-rest.ensures;
  long = refl;
  room = search rules;
  sound = λ n s. subst (λ (fs : List Field). AreFields n fs) (sym c.clear.ensures.items) (λ k d l. absurd (omega (arith, l)));
}

pub returns-then-not-add_named-clause-named : goal.returns-then-not-add_named-clause-named
returns-then-not-add_named-clause-named c =
    not_listed _ _ _ c.loop-rest.invariant.same
    (ap (names_by c.args.inputs.now c.loop-rest.marks c.loop-rest.fields.items) (word_at_front c.loop-rest.rest.now c.word_length-end.result c.loop-rest.invariant.trimmed c.word_length-end.ensures.front c.word_length-end.ensures.behind c.word_length-end.ensures.within (is_some_text c.loop-rest.rest.now c.is_empty.result c.is_empty.ensures c.loop-rest-test.true))
    ∙ name_refused c.args.inputs.now c.loop-rest.marks c.add_named.new.marks c.loop-rest.fields.items c.add_named.new.fields.items (take c.word_length-end.result c.loop-rest.rest.now) (words (drop c.word_length-end.result c.loop-rest.rest.now))
    (subst (λ (b : Bool). Adds (number_named c.args.inputs.now (take c.word_length-end.result c.loop-rest.rest.now)) c.args.inputs.now c.loop-rest.marks c.loop-rest.fields.items b c.add_named.new.marks c.add_named.new.fields.items) c.if-not-add_named.true c.add_named.ensures.named))

pub returns-then-not-add_named-clause-sound : goal.returns-then-not-add_named-clause-sound
returns-then-not-add_named-clause-sound c = λ n s. c.add_named.ensures.sound n s (c.loop-rest.invariant.sound n s)

pub loop-rest-smaller : goal.loop-rest-smaller
loop-rest-smaller c =
    front_shorter c.loop-rest.rest.now c.trim_front-rest-in-loop-rest.result.now c.word_length-end.result c.loop-rest.invariant.trimmed c.word_length-end.ensures.front c.word_length-end.ensures.within
    (is_some_text c.loop-rest.rest.now c.is_empty.result c.is_empty.ensures c.loop-rest-test.true) (c.trim_front-rest-in-loop-rest.ensures ∙ ap unblanked (take_rest c.loop-rest.rest.now c.word_length-end.result))

pub loop-rest-preserved : goal.loop-rest-preserved
loop-rest-preserved c =
    let front = c.trim_front-rest-in-loop-rest.ensures ∙ ap unblanked (take_rest c.loop-rest.rest.now c.word_length-end.result) in
    let behind = drop c.word_length-end.result c.loop-rest.rest.now in
    record {
      same = c.loop-rest.invariant.same
          ∙ (ap (names_by c.args.inputs.now c.loop-rest.marks c.loop-rest.fields.items) (word_at_front c.loop-rest.rest.now c.word_length-end.result c.loop-rest.invariant.trimmed c.word_length-end.ensures.front c.word_length-end.ensures.behind c.word_length-end.ensures.within (is_some_text c.loop-rest.rest.now c.is_empty.result c.is_empty.ensures c.loop-rest-test.true))
          ∙ (name_added c.args.inputs.now c.loop-rest.marks c.add_named.new.marks c.loop-rest.fields.items c.add_named.new.fields.items (take c.word_length-end.result c.loop-rest.rest.now) (words behind)
          (subst (λ (b : Bool). Adds (number_named c.args.inputs.now (take c.word_length-end.result c.loop-rest.rest.now)) c.args.inputs.now c.loop-rest.marks c.loop-rest.fields.items b c.add_named.new.marks c.add_named.new.fields.items) c.if-not-add_named.false c.add_named.ensures.named)
          ∙ ap (names_by c.args.inputs.now c.add_named.new.marks c.add_named.new.fields.items) (sym (words_behind_blanks behind c.trim_front-rest-in-loop-rest.result.now front))));
      trimmed = trimmed_twice behind c.trim_front-rest-in-loop-rest.result.now front;
      long = c.add_named.ensures.long ∙ c.loop-rest.invariant.long;
      room = c.add_named.ensures.room;
      sound = λ n s. c.add_named.ensures.sound n s (c.loop-rest.invariant.sound n s);
    }

pub returns-clause-named : goal.returns-clause-named
returns-clause-named c = all_listed _ c.args.inputs.now c.loop-rest.marks c.loop-rest.fields.items c.loop-rest.rest.now c.loop-rest.invariant.same (is_no_text c.loop-rest.rest.now c.is_empty.result c.is_empty.ensures c.loop-rest-test.false)
