use Rattle.std.proofs.Common.{rules, ◌≡◌, ap, length, map, arith}
use Rattle.statement_builder.specs.Built.{entry}
use Rattle.surface_depth.specs.Labelling.{by_label}
use Rattle.surface_depth.proofs.LabelLemmas.{builder_labelled, count_labels}
use Rattle.surface_depth.proofs.labelled.label_registers.Goals as goal

pub take_labels-requires-clause-both : goal.take_labels-requires-clause-both
take_labels-requires-clause-both c =
    let e : c.as_slice-3.result.now ≡ by_label 1 c.args.labels (map entry c.args.builder.now.entries) = search rules in
    let f : c.as_slice-4.result.now ≡ by_label 1 c.args.labels (map entry c.args.builder.now.stays) = search rules in
    omega (arith, ap length e, ap length f, count_labels c.args.labels 1 (map entry c.args.builder.now.entries), count_labels c.args.labels 1 (map entry c.args.builder.now.stays))

pub take_labels-requires-clause-room : goal.take_labels-requires-clause-room
take_labels-requires-clause-room c =
    let e : c.as_slice-3.result.now ≡ by_label 1 c.args.labels (map entry c.args.builder.now.entries) = search rules in
    omega (arith, ap length e, count_labels c.args.labels 1 (map entry c.args.builder.now.entries), c.requires.room)

pub returns-clause-taken : goal.returns-clause-taken
returns-clause-taken c =
    builder_labelled c.args.builder.now c.take_labels.new.cells c.args.registers.now c.take_labels.new.registers c.args.labels c.as_slice-3.result.now c.as_slice-4.result.now
    (search rules) (search rules) c.in_ok-take_labels.ensures.taken
