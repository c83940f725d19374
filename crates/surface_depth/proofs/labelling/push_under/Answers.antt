use Rattle.std.proofs.Common.{List, ap, sym, ◌∙◌, arith}
use Rattle.aif_cells.specs.declared.reference.Ref.{Ref}
use Rattle.surface_depth.specs.Lists.{pushed}
use Rattle.surface_depth.proofs.LabelLemmas.{label_more}
use Rattle.surface_depth.proofs.labelling.push_under.Goals as goal

pub returns-in_ok-push_at-in-Some : goal.returns-in_ok-push_at-in-Some
returns-in_ok-push_at-in-Some c = λ n es h.
    c.in_ok-push_at-in-Some.ensures ∙ ap (λ (bs : List (List Ref)). pushed bs c.in-Some.at c.args.under) h
    ∙ sym (label_more n 1 c.in-Some.at es (record { label = c.args.label; under = c.args.under }) (omega (arith, c.in-Some.ensures)))
