use Rattle.std.proofs.Common.{◌≡◌, ◌≤◌, true, false, rules, refl, ap, subst, sym, ◌∙◌, All, List, ℕ, length, arith}
use Rattle.std.proofs.lemmas.List.{length-replicate}
use Rattle.std.specs.Prelude.{pos, vec_capacity}
use Rattle.quartz_tree.specs.declared.declare.Flow.TheVariants.{Input}
use Rattle.quartz_tree.specs.declared.declare.Base.{Base}
use Rattle.quartz_expr.specs.Intervals.{is_sound_base}
use Rattle.trace_io.specs.Inputs.{input_types, fields_from}
use Rattle.trace_io.specs.Reading.{zeros}
use Rattle.trace_io.specs.Header.{Named, no_marks, unmarked_count}
use Rattle.trace_io.specs.Scan.{AreFields}
use Rattle.trace_io.proofs.TypeLemmas.{types_sound}
use Rattle.trace_io.proofs.HeaderLemmas.{inputs_sound, count_unmarked, count_fields}
use Rattle.trace_io.proofs.TraceLemmas.{new_means}
use Rattle.trace_io.proofs.reader.TraceReader.new.Goals as goal

pub fields_of-requires : goal.fields_of-requires
fields_of-requires c =
    let k : All (λ b. is_sound_base b ≡ true) c.in_ok-types.types.items = subst (λ (ts : List Base). All (λ b. is_sound_base b ≡ true) ts) (sym c.in_ok-types.ensures) (types_sound Input c.args.vars.now c.requires.types) in
    search rules

pub invariant_of-result : goal.invariant_of-result
invariant_of-result c =
    let counts : length c.in_ok-last.last.items ≡ length c.in_ok-types.types.items = search rules in
    let types : c.in_ok-types.types.items ≡ input_types c.args.vars.now = c.in_ok-types.ensures in
    let count : length c.in_ok-last.last.items ≡ length (input_types c.args.vars.now) = counts ∙ ap length types in
    let marks : c.in_ok-marks.marks.items ≡ no_marks c.in_ok-inputs.inputs.items = search rules in
    let room : length c.in_ok-fields.fields.items ≤ vec_capacity c.in_ok-fields.fields = search rules in
    let filled : length c.in_ok-fields.fields.items ≡ length c.in_ok-types.types.items = ap length (c.in_ok-fields.ensures.fields ∙ ap (fields_from 0) c.deref.ensures.value) ∙ count_fields 0 c.in_ok-types.types.items in
    let unmarked : unmarked_count c.in_ok-inputs.inputs.items c.in_ok-marks.marks.items ≡ length (input_types c.args.vars.now) =
    ap (unmarked_count c.in_ok-inputs.inputs.items) marks ∙ (ap (λ (is : List Named). unmarked_count is (no_marks is)) c.in_ok-inputs.ensures ∙ count_unmarked 0 c.args.vars.now) in (
      subst (λ (n : ℕ). AreFields n c.in_ok-fields.fields.items) (sym (counts ∙ ap length (sym c.deref.ensures.value))) c.in_ok-fields.ensures.sound,
      subst (λ (is : List Named). All (λ i. AreFields (length c.in_ok-last.last.items) i.fields) is) (sym c.in_ok-inputs.ensures) (inputs_sound (length c.in_ok-last.last.items) 0 c.args.vars.now (omega (arith, count)) c.requires.types),
      search rules,
      (let l : length c.in_ok-types.types.items ≡ length (input_types c.args.vars.now) = ap length types in omega (arith, unmarked, l, filled, room)),
      λ _. (marks, refl),
    )

pub returns-clause-means : goal.returns-clause-means
returns-clause-means c =
    let counts : c.in_ok-last.last.items ≡ zeros c.args.vars.now = search rules in
    new_means c.args.vars.now (record { course = record { held = c.in_ok-lines.lines; fields = c.in_ok-fields.fields.items; may_keep = false; last = c.in_ok-last.last.items }; inputs = c.in_ok-inputs.inputs.items; is_fresh = true }) refl c.in_ok-inputs.ensures (c.in_ok-fields.ensures.fields ∙ ap (fields_from 0) (c.deref.ensures.value ∙ c.in_ok-types.ensures)) refl counts (length-replicate (length (input_types c.args.vars.now)) (pos 0))
