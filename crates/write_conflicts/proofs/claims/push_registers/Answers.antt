use Rattle.std.proofs.Common.{rules, ◌≡◌, arith}
use Rattle.write_conflicts.specs.declared.block.Group.TheVariants.{Registers}
use Rattle.write_conflicts.proofs.ClaimLemmas.{numbers_more, registers_all, registers_none}
use Rattle.write_conflicts.proofs.claims.push_registers.Goals as goal

pub returns-then-ne : goal.returns-then-ne
returns-then-ne c = registers_none c.args.numbers.now c.args.block c.args.word (λ e. absurd (search rules))

pub returns-then-word-eq0 : goal.returns-then-word-eq0
returns-then-word-eq0 c = registers_none c.args.numbers.now c.args.block c.args.word (λ e. search rules)

pub loop-bit-preserved : goal.loop-bit-preserved
loop-bit-preserved c = numbers_more c.args.numbers.now c.loop-bit.numbers c.push_number.new.numbers c.args.word c.args.block.at c.loop-bit.bit c.loop-bit.invariant c.in_ok-push_number.ensures

pub returns : goal.returns
returns c =
    let e : c.args.block.group ≡ Registers = search rules in
    registers_all c.args.numbers.now c.loop-bit.numbers c.args.block c.args.word c.loop-bit.bit e (omega arith) c.loop-bit.invariant
