use Rattle.std.proofs.Common.{◌++◌, arith}
use Rattle.statement_cells.specs.Whole.{element_registers, repeated}
use Rattle.surface_depth.proofs.RegisterLemmas.{elements_more}
use Rattle.surface_depth.proofs.registers.push_elements.Goals as goal

pub loop-element-preserved : goal.loop-element-preserved
loop-element-preserved c =
    elements_more c.loop-element.registers c.push_element.new.registers (c.args.registers.now ++ repeated c.args.count (element_registers c.args.shape)) (element_registers c.args.shape) c.args.count c.loop-element._element
    (omega (arith, c.loop-element-test.true)) c.in_ok-push_element.ensures c.loop-element.invariant
