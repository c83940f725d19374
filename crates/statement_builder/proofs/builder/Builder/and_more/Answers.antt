use Rattle.std.proofs.Common.{◌+◌, arith, drop, get_or, pos}
use Rattle.std.proofs.Math.ListN.{drop_of_length-le}
use Rattle.std.proofs.lemmas.List.{drop_more}
use Rattle.aif_cells.specs.declared.reference.Ref.TheVariants.{Lit}
use Rattle.statement_builder.proofs.JoinLemmas.{and_none_more, and_one_more}
use Rattle.statement_builder.proofs.builder.Builder.and_more.Goals as goal

pub loop-other-init : goal.loop-other-init
loop-other-init c = λ b r h. h

pub loop-other-preserved : goal.loop-other-preserved
loop-other-preserved c = λ b r h. c.loop-other.invariant b r (and_one_more c.loop-other.self c.and_of.new.self b c.loop-other.joined (get_or c.args.others.now c.loop-other.other-index (Lit (pos 0))) c.in_ok-joined.joined
    (drop (c.loop-other.other-index + 1) c.args.others.now) (drop c.loop-other.other-index c.args.others.now) r (drop_more c.args.others.now c.loop-other.other-index (Lit (pos 0)) (omega arith)) c.in_ok-joined.ensures h)

pub returns : goal.returns
returns c = c.loop-other.invariant c.loop-other.self c.loop-other.joined (and_none_more c.loop-other.self c.loop-other.joined (drop c.loop-other.other-index c.args.others.now) (drop_of_length-le c.args.others.now c.loop-other-test.false))
