use Rattle.std.proofs.Common.{◌∙◌, arith}
use Rattle.reincarnation.specs.Carrying.{carried_from, stores}
use Rattle.reincarnation.proofs.CarryLemmas.{element_more}
use Rattle.reincarnation.proofs.carrying.carry_all.Goals as goal

pub loop-element-preserved : goal.loop-element-preserved
loop-element-preserved c = record {
  at = omega (arith, c.loop-element.invariant.at);
  count = c.in_ok-carry_element.ensures.count ∙ c.loop-element.invariant.count;
  carried = element_more c.args.place c.args.copies.now c.args.depth.now c.args.parts.now c.loop-element.element c.args.count c.loop-element.register c.loop-element.registers c.carry_element.new.registers c.loop-element.cells c.carry_element.new.cells
      (carried_from c.args.place c.args.copies.now c.args.depth.now c.args.parts.now 0 c.args.count c.args.first (stores c.args.registers.now c.args.cells.now))
      (omega (arith, c.loop-element-test.true)) c.in_ok-carry_element.ensures.carried c.loop-element.invariant.carried;
}
