use Rattle.std.proofs.Common.{◌≤◌, ◌+◌, ◌++◌, rules, ap, length, ◌∙◌, List}
use Rattle.std.specs.Prelude.{vec_capacity}
use Rattle.trace_io.specs.declared.field.Field.{Field}
use Rattle.trace_io.specs.Header.{Named}
use Rattle.trace_io.proofs.HeaderLemmas.{not_added, is_added, elements_fit, room_then, found_fields}
use Rattle.trace_io.proofs.header.add_named.Goals as goal

pub returns-then-marks-number-clause-named : goal.returns-then-marks-number-clause-named
returns-then-marks-number-clause-named c = not_added c.args.inputs.now c.args.marks.now c.args.fields.now.items _ c.in-Some.number (search rules) c.if-marks-number.true

pub unwrap-requires : goal.unwrap-requires
unwrap-requires c =
    let fit : length c.args.fields.now.items + length c.deref.result.now ≤ vec_capacity c.args.fields.now =
    elements_fit c.args.inputs.now c.args.marks.now c.in-Some.number c.args.fields.now.items c.deref.result.now _ c.requires.long c.in-Some.ensures.within c.if-marks-number.false c.requires.room
    (found_fields c.args.inputs.now c.in-Some.number c.index-inputs-number.result c.index-inputs-number.result c.deref.result.now c.in-Some.ensures.within (c.deref.ensures.value ∙ ap (λ (i : Named). i.fields) c.input.view_is) c.index-inputs-number.is) in
    search rules

pub returns-clause-named : goal.returns-clause-named
returns-clause-named c =
    is_added c.args.inputs.now c.args.marks.now c.args.fields.now.items c.extend_from_slice.new.self.items _ c.in-Some.number (search rules) c.if-marks-number.false
    ((search rules) ∙ ap (λ (l : List Field). c.args.fields.now.items ++ l) (found_fields c.args.inputs.now c.in-Some.number c.index-inputs-number.result c.index-inputs-number.result c.deref.result.now c.in-Some.ensures.within (c.deref.ensures.value ∙ ap (λ (i : Named). i.fields) c.input.view_is) c.index-inputs-number.is))

pub returns-clause-room : goal.returns-clause-room
returns-clause-room c =
    room_then c.args.inputs.now c.args.marks.now c.in-Some.number c.args.fields.now.items c.deref.result.now c.extend_from_slice.new.self.items _ _ c.requires.long c.in-Some.ensures.within c.if-marks-number.false c.requires.room
    (found_fields c.args.inputs.now c.in-Some.number c.index-inputs-number.result c.index-inputs-number.result c.deref.result.now c.in-Some.ensures.within (c.deref.ensures.value ∙ ap (λ (i : Named). i.fields) c.input.view_is) c.index-inputs-number.is) (search rules) (search rules)
