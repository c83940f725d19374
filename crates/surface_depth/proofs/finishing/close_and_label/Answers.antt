use Rattle.std.proofs.Common.{◌≡◌, ◌+◌, length, ◌∙◌, arith}
use Rattle.quartz_tree.specs.Kernel.{kernel}
use Rattle.quartz_expr.specs.Terms.{term_of}
use Rattle.surface_depth.proofs.WholeLemmas.{count_is, labelled_by}
use Rattle.surface_depth.proofs.finishing.close_and_label.Goals as goal

pub label_registers-requires-clause-few : goal.label_registers-requires-clause-few
label_registers-requires-clause-few c =
    let n : length c.in_ok-registers.registers ≡ 1 + (c.args.sizes.labels + (c.args.sizes.outputs + c.args.sizes.scopes)) =
    count_is c.as_slice-vars.result.now c.args.resolved.now.vars c.args.outputs.now c.args.sizes.labels c.args.sizes.outputs c.args.sizes.scopes c.in_ok-registers.registers
    c.as_slice-vars.ensures c.requires.outputs c.requires.sizes.outputs c.in_ok-registers.ensures in
    omega (arith, n, c.requires.few)

pub returns-clause-count : goal.returns-clause-count
returns-clause-count c =
    c.in_ok-label_registers.ensures.count
    ∙ count_is c.as_slice-vars.result.now c.args.resolved.now.vars c.args.outputs.now c.args.sizes.labels c.args.sizes.outputs c.args.sizes.scopes c.in_ok-registers.registers
    c.as_slice-vars.ensures c.requires.outputs c.requires.sizes.outputs c.in_ok-registers.ensures

pub returns-clause-labelled : goal.returns-clause-labelled
returns-clause-labelled c =
    labelled_by c.as_slice-vars.result.now c.args.resolved.now.vars (term_of (kernel c.args.resolved.now.body)) c.args.body.now.builder c.close_outputs.new.builder c.label_registers.new.builder
    c.args.body.now.outputs.items c.as_slice.result.now c.in_ok-closed.closed.items c.args.outputs.now c.in_ok-first.first c.args.sizes.labels c.args.sizes.scopes c.in_ok-registers.registers c.label_registers.new.registers
    c.as_slice-vars.ensures c.as_slice.ensures.value c.requires.body c.in_ok-closed.ensures.ends c.in_ok-first.ensures c.requires.sizes.labels_are c.requires.outputs c.requires.sizes.scopes c.in_ok-registers.ensures c.in_ok-label_registers.ensures.taken
