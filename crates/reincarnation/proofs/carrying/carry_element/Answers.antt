use Rattle.std.proofs.Common.{◌∙◌, get_or, length, ap, arith}
use Rattle.std.proofs.lemmas.List.{get_or_default}
use Rattle.reincarnation.specs.declared.copy.Part.TheVariants.{Value}
use Rattle.reincarnation.specs.Carrying.{carried_parts, stores}
use Rattle.reincarnation.proofs.CarryLemmas.{length-with_next, part_more}
use Rattle.reincarnation.proofs.carrying.carry_element.Goals as goal

pub set_next-requires : goal.set_next-requires
set_next-requires c = omega (arith, c.loop-part.invariant.at, c.loop-part.invariant.count, c.loop-part-test.true, c.requires.room)

pub overflow_add-register : goal.overflow_add-register
overflow_add-register c = record { fits = omega (arith, c.loop-part.invariant.at, c.loop-part-test.true, c.requires.room, c.requires.few) }

pub loop-part-preserved : goal.loop-part-preserved
loop-part-preserved c = record {
  at = omega (arith, c.loop-part.invariant.at);
  count = ap length c.set_next.ensures ∙ (length-with_next c.loop-part.registers c.loop-part.register c.in_ok-next.next ∙ c.loop-part.invariant.count);
  carried = part_more c.args.place c.args.copies.now c.args.depth.now c.args.element c.args.parts.now c.loop-part.part-index (get_or c.args.parts.now c.loop-part.part-index Value) c.loop-part.register c.loop-part.registers c.set_next.new.registers c.loop-part.cells c.take.new.cells c.in_ok-next.next
      (carried_parts c.args.place c.args.copies.now c.args.depth.now c.args.element c.args.parts.now c.args.first (stores c.args.registers.now c.args.cells.now))
      (omega (arith, c.loop-part-test.true)) (get_or_default c.args.parts.now c.loop-part.part-index Value (get_or c.args.parts.now c.loop-part.part-index Value) (omega (arith, c.loop-part-test.true))) c.in_ok-next.ensures c.set_next.ensures c.loop-part.invariant.carried;
}
