-- The least fault of the parts and the whole, in the order of evaluation.
use Rattle.std.proofs.Common.{rules}
use Rattle.std.specs.Prelude.{ℤ}
use mir.Val.{to_z, of_z}
use mir.Syntax.{w64}
use Rattle.quartz_tree.specs.Tree.{tree}
use Rattle.quartz_expr.proofs.LeastLemmas.{element_fault, two_fault}
use Rattle.quartz_expr.proofs.evaluate.+evaluated.Goals as goal

-- a number as a call passes it
abbrev passed : ℤ → ℤ
passed z = to_z w64 (of_z w64 z)

pub returns-in-Element-clause-fault : goal.returns-in-Element-clause-fault
returns-in-Element-clause-fault t c =
    rw c.in-Element.is (element_fault c.args.vars.now c.args.env.now.values c.in-Element.var (tree c.in-Element.index.value) c.in-Element.place (passed c.evaluated-index.result.value) _ _ _
    (search rules) (search rules) c.index_fault.ensures c.lesser_of.ensures)

pub returns-in-Two-clause-fault : goal.returns-in-Two-clause-fault
returns-in-Two-clause-fault t c =
    rw c.in-Two.is (two_fault c.args.vars.now c.args.env.now.values c.in-Two.op (tree c.in-Two.left.value) (tree c.in-Two.right.value) c.in-Two.place (passed c.evaluated-right.result.value) _ _ _ _ _
    (search rules) (search rules) (search rules) c.divisor_fault-own.ensures c.lesser_of-in-Two.ensures c.lesser_of-in-Two-2.ensures)
