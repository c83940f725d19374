-- What the semantics tells of an accepted text over a trace, a run has told.
use Rattle.std.proofs.Common.{inl, inr, ℕ, false, List, Option, ap, subst, ◌∙◌}
use Rattle.quartz_tree.specs.Surfaces.{ModuleTree}
use Rattle.quartz_names.specs.Resolving.{resolved_body, resolved_vars}
use Rattle.outside.specs.Bytes.{Gains}
use Rattle.outside.specs.declared.status.Status.{Status}
use Rattle.trace_io.specs.Lines.{joined_lines}
use Rattle.trace_io.specs.Story.{End, Story}
use Rattle.cell_run.specs.Told.{status_of}
use Rattle.quartz_build.specs.Broken.{Cells, IsAccepted}
use Rattle.text_laws.proofs.StoryLemmas.{stories_are_one}
use Rattle.averest_top.specs.Promise.{HasTold, Outcome}

pub has_told : (text : List ℕ) (m : ModuleTree) (trace : List ℕ) (greatest : ℕ) (before after : List ℕ → Type 0) (left : Option (List ℕ)) (shelf input out : Type 0) (s : Status) → IsAccepted Cells text m
    → Outcome (resolved_vars m) (resolved_body m) trace greatest before after left shelf input out s → ¬ shelf → ¬ input → ¬ out
    → (written : List (List ℕ)) (e : End) → Story (resolved_vars m) (resolved_body m) trace greatest written e → HasTold before after written e s
has_told text m trace greatest before after left shelf input out s accepted (inl (inl none)) no_shelf no_input no_out written e h = inl none
has_told text m trace greatest before after left shelf input out s accepted (inl (inr unavailable)) no_shelf no_input no_out written e h = absurd (no_shelf unavailable.1)
has_told text m trace greatest before after left shelf input out s accepted (inr (inl read)) no_shelf no_input no_out written e h = absurd (no_input read.1)
has_told text m trace greatest before after left shelf input out s accepted (inr (inr (inl write))) no_shelf no_input no_out written e h = absurd (no_out write.1)
has_told text m trace greatest before after left shelf input out s accepted (inr (inr (inr told))) no_shelf no_input no_out written e h =
    let one = stories_are_one text m trace greatest told.written written told.end e accepted told.story h in
    inr (told.ends ∙ ap status_of one.1, subst (λ (ls : List (List ℕ)). Gains before after (joined_lines ls)) one.0 told.gained)
