use Rattle.std.proofs.Common.{◌+◌, ◌∙◌, ◌++◌, List, [], append_assoc, append-nil, ap, arith, drop, get_or, pos, subst, sym}
use Rattle.std.proofs.Math.ListN.{drop_of_length-le}
use Rattle.std.proofs.lemmas.List.{drop_more}
use Rattle.aif_cells.specs.declared.reference.Ref.{Ref}
use Rattle.aif_cells.specs.declared.reference.Ref.TheVariants.{Lit}
use Rattle.quartz_names.proofs.WalkLemmas.{left_from}
use Rattle.statement_cells.specs.Surface.{at_end}
use Rattle.statement_builder.specs.Built.{MakesAll}
use Rattle.statement_builder.proofs.JoinLemmas.{terms}
use Rattle.statement_builder.proofs.JoinLemmas.{at_end_more, at_end_none}
use Rattle.statement_builder.proofs.builder.Builder.at_end.Goals as goal

pub loop-at-init : goal.loop-at-init
loop-at-init c = λ b rs h. subst (λ (xs : List Ref). MakesAll c.args.self.now b xs (λ κ. at_end c.args.vars.now c.args.label (terms c.args.parts.now) c.args.ends.now)) (sym (ap (λ (xs : List Ref). xs ++ rs) c.new-all.ensures)) h

pub loop-at-preserved : goal.loop-at-preserved
loop-at-preserved c = λ b rs h. subst (λ (xs : List Ref). MakesAll c.args.self.now b xs (λ κ. at_end c.args.vars.now c.args.label (terms c.args.parts.now) c.args.ends.now))
    (sym (ap (λ (xs : List Ref). xs ++ rs) c.in_ok-append.ensures ∙ append_assoc c.loop-at.all c.in_ok-part_end.field-0 rs))
    (c.loop-at.invariant b (c.in_ok-part_end.field-0 ++ rs) (at_end_more c.args.vars.now c.loop-at.self c.part_end.new.self b c.loop-at.first c.in_ok-first.first c.in_ok-labels.field-0.labels
    (drop (c.loop-at.at + 1) c.args.parts.now) (drop c.loop-at.at c.args.parts.now) c.index-parts-at.result (drop (c.loop-at.at + 1) c.args.ends.now) (drop c.loop-at.at c.args.ends.now) (get_or c.args.ends.now c.loop-at.at (Lit (pos 0)))
    c.in_ok-part_end.field-0 rs (left_from c.args.parts.now c.loop-at.at c.index-parts-at.result (omega arith) c.index-parts-at.is) (drop_more c.args.ends.now c.loop-at.at (Lit (pos 0)) (omega arith))
    c.in_ok-labels.ensures.labels c.in_ok-first.ensures c.in_ok-part_end.ensures h))

pub returns : goal.returns
returns c = subst (λ (xs : List Ref). MakesAll c.args.self.now c.loop-at.self xs (λ κ. at_end c.args.vars.now c.args.label (terms c.args.parts.now) c.args.ends.now)) (append-nil c.loop-at.all)
    (c.loop-at.invariant c.loop-at.self [] (at_end_none c.args.vars.now c.loop-at.self c.loop-at.first (drop c.loop-at.at c.args.parts.now) (drop c.loop-at.at c.args.ends.now) (drop_of_length-le c.args.parts.now c.loop-at-test.false)))
