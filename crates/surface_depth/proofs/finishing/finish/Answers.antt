use Rattle.std.proofs.Common.{rules, ◌≡◌, ◌∙◌, ◌+◌, ◌≤◌, ap, length, map, List, Vec, Global, arith}
use Rattle.aif_cells.specs.declared.aif.Aif.{Aif}
use Rattle.aif_cells.specs.declared.cells.Register.{Register}
use Rattle.quartz_tree.specs.Kernel.{kernel}
use Rattle.quartz_expr.specs.Terms.{Term, term_of}
use Rattle.quartz_expr.specs.Vars.{Vars}
use Rattle.reincarnation.specs.Carrying.{stores}
use Rattle.statement_cells.specs.Labels.{registers}
use Rattle.statement_cells.specs.Whole.{first_scope, outputs_taken}
use Rattle.statement_builder.specs.declared.builder.Builder.{Builder}
use Rattle.surface_depth.specs.declared.beginning.OutputCopy.{OutputCopy}
use Rattle.surface_depth.specs.declared.carrying.ClosedOutput.{ClosedOutput}
use Rattle.surface_depth.specs.Begins.{output_copy}
use Rattle.surface_depth.specs.Carrying.{closed_output}
use Rattle.surface_depth.proofs.WholeLemmas.{module_compiled}
use Rattle.surface_depth.proofs.finishing.finish.Goals as goal

pub returns-clause-compiled : goal.returns-clause-compiled
returns-clause-compiled c =
    let vs : Vars = c.args.resolved.now.vars in
    let t : Term = term_of (kernel c.args.resolved.now.body) in
    let b : Builder = c.close_and_label.new.body.builder in
    let os : List OutputCopy = c.close_and_label.new.body.outputs.items in
    let rs : List Register = c.in_ok-closed.field-0.registers in
    let cs : List ClosedOutput = c.in_ok-closed.field-0.closed.items in
    let a : Aif = c.in_ok-aif.field-0.aif in
    let same : c.in_ok-first.first ≡ first_scope vs t = omega (arith, c.in_ok-first.ensures, c.in_ok-plus.ensures, c.requires.sizes.labels_are, c.requires.sizes.outputs) in
    let room : c.in_ok-first.first + registers vs t ≤ length rs = omega (arith, c.in_ok-first.ensures, c.in_ok-plus.ensures, c.requires.sizes.scopes, c.in_ok-closed.ensures.count) in
    let given : c.as_slice.result.now ≡ cs = search rules in
    module_compiled vs t b os cs rs a c.take_outputs.new.aif c.take_scopes.new.aif c.in_ok-aif.field-0.copies (length rs) c.in_ok-first.first
    (ap (λ (k : Vec OutputCopy Global). map output_copy k.items) c.in_ok-closed.ensures.outputs ∙ c.requires.body.outputs) c.in_ok-closed.ensures.labelled c.in_ok-aif.ensures.aif
    c.in_ok-aif.ensures.entered c.in_ok-aif.ensures.depths same room
    (c.in_ok-take_outputs.ensures.carried ∙ ap (λ (k : List ClosedOutput). outputs_taken a.vars (map closed_output k) (stores a.registers a.cells)) given)
    c.in_ok-take_outputs.ensures.rest c.in_ok-take_scopes.ensures.carried c.in_ok-take_scopes.ensures.rest
