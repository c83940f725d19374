-- Conflicts of runs and stories are those of loose pairs.
use Rattle.std.proofs.Common.{◌≡◌, ◌<◌, ℕ, ◌+◌, ℤ, true, List, length, Option, Some, slice_get, refl, sym, ap, subst, subst₂, ◌∙◌}
use Rattle.quartz_tree.specs.declared.fault.Fault.{Fault}
use Rattle.quartz_tree.specs.declared.fault.Kind.TheVariants.{Conflict}
use Rattle.quartz_tree.specs.declared.place.Place.{Place}
use Rattle.quartz_tree.specs.Kernel.{Kernel}
use Rattle.quartz_tree.specs.Surfaces.{ModuleTree}
use Rattle.quartz_expr.specs.Steps.{State, initial}
use Rattle.quartz_expr.specs.Terms.{term_of}
use Rattle.quartz_expr.specs.Typed.{have_sound_types}
use Rattle.quartz_expr.specs.Vars.{Vars}
use Rattle.quartz_names.specs.Resolving.{resolved_body, resolved_vars}
use Rattle.aif_cells.specs.declared.aif.Aif.{Aif}
use Rattle.aif_cells.specs.declared.cells.Action.{Action}
use Rattle.causality_check.specs.Order.{HasNoCycle}
use Rattle.statement_cells.specs.Meaning.{IsSoundModule}
use Rattle.statement_cells.specs.Whole.{compiled}
use Rattle.trace_io.specs.Inputs.{input_types}
use Rattle.trace_io.specs.Lines.{lines}
use Rattle.trace_io.specs.Reading.{steps}
use Rattle.trace_io.specs.Story.{End, fault, StoryFrom, by_input, is_bad, is_done, is_fault, is_limit, is_step}
use Rattle.cell_run.proofs.InputLemmas.{AreStepsOf, have_zero, steps_are}
use Rattle.cell_run.proofs.TypedLemmas.{inputs_are}
use Rattle.write_conflicts.specs.Loose.{IsLooseVar, Scene}
use Rattle.write_conflicts.specs.Pairs.{ArePairsOf}
use Rattle.write_conflicts.specs.declared.pairs.Pairs.{Pairs}
use Rattle.loose_runs.specs.Laws.{FlaggedAt, IsFlagged}
use Rattle.loose_runs.specs.Reached.{Reached, at_start, by_step}
use Rattle.loose_runs.proofs.FaultLemmas.{least_in}
use Rattle.loose_runs.proofs.RunLooseLemmas.{loose_meets_conflict, unflagged_has_no_conflict}
use Rattle.quartz_build.specs.Broken.{IsAccepted, Strict, term_in}
use Rattle.quartz_build.specs.Parts.{IsAifOf}
use Rattle.text_laws.specs.Conflicts.{StoriesEndFlagged, StrictStepsHaveNoConflict, StrictStoriesHaveNoConflict, UntoldHasNoConflict}
use Rattle.text_laws.proofs.VerdictLemmas.{well_typed_is_sound}
use Rattle.quartz_build.proofs.BuildLemmas.{same_scene, same_actions}

-- ---- places where no variable is told to be loose

told_loose : (m : ModuleTree) (a : Aif) (told : Pairs) (x : ℕ) → IsAifOf m a → ArePairsOf a told → x < length (resolved_vars m) → IsFlagged (resolved_vars m) (term_in m) x → slice_get told.loose x ≡ Some true
told_loose m a told x i p less f =
    let known : x < length a.vars = subst (λ (vs : Vars). x < length vs) (sym i.vars_are) less in
    (p.flagged x known).1 (subst₂ (λ (s : Scene) (acts : List Action). IsLooseVar s acts x) (sym (same_scene m a i)) (sym (same_actions m a i)) f)

pub untold_has_no_conflict : UntoldHasNoConflict
untold_has_no_conflict text m a told p s ins outs next fs accepted i pairs untold run =
    unflagged_has_no_conflict (resolved_vars m) (resolved_body m) s ins outs next fs p (well_typed_is_sound text m accepted.typed) accepted.good.acyclic run
    (λ x less at f. untold x less at (told_loose m a told x i pairs less f))

-- ---- stories

same_fault : (j k : ℕ) (f g : Fault) → fault j f ≡ fault k g → f ≡ g
same_fault j k f g e = cc

module _ (vs : Vars) (body : Kernel) (sound : IsSoundModule vs (term_of body)) (acyclic : HasNoCycle (compiled vs (term_of body)).cells) (greatest : ℕ) where
  types : have_sound_types vs ≡ true
  types = sound.types.types

  ends_flagged : (k : ℕ) (s : State) (steps : List (Option (List ℤ))) (written : List (List ℕ)) (e : End) → StoryFrom vs greatest k s steps written e → Reached vs body s → AreStepsOf (input_types vs) steps
      → (j : ℕ) (f : Fault) → e ≡ fault j f → f.kind ≡ Conflict → FlaggedAt vs (term_of body) f.place
  ends_flagged _ _ _ _ _ (is_done k s) r a j f e c = absurd (cc)
  ends_flagged _ _ _ _ _ (is_bad k s rest) r a j f e c = absurd (cc)
  ends_flagged _ _ _ _ _ (is_limit k s zs rest _) r a j f e c = absurd (cc)
  ends_flagged _ _ _ _ _ (is_fault k s zs rest outs t fs g _ macro least) r a j f e c =
      let same : g ≡ f = same_fault k j g f e in
      loose_meets_conflict vs body s (by_input vs zs) outs t fs f sound acyclic
      (record { reached = r; inputs = inputs_are vs zs types a.0; step = macro }) (least_in fs f (least ∙ ap Some same)) c
  ends_flagged _ _ _ _ _ (is_step k s zs rest outs t written end _ macro more) r a j f e c =
      ends_flagged (k + 1) t rest written end more (by_step s (by_input vs zs) outs t r (inputs_are vs zs types a.0) macro) a.1 j f e c

  story_flagged : (trace : List ℕ) (written : List (List ℕ)) (k : ℕ) (f : Fault) → StoryFrom vs greatest 0 (initial vs body) (steps vs trace) written (fault k f) → f.kind ≡ Conflict → FlaggedAt vs (term_of body) f.place
  story_flagged trace written k f h c = ends_flagged 0 (initial vs body) (steps vs trace) written (fault k f) h at_start (steps_are vs (lines trace) (have_zero vs types)) k f refl c

pub stories_end_flagged : StoriesEndFlagged
stories_end_flagged text m trace greatest written k f accepted h c =
    story_flagged (resolved_vars m) (resolved_body m) (well_typed_is_sound text m accepted.typed) accepted.good.acyclic greatest trace written k f h c

-- ---- texts that are accepted strictly

no_flagged : (text : List ℕ) (m : ModuleTree) (p : Place) → IsAccepted Strict text m → FlaggedAt (resolved_vars m) (term_in m) p → ⊥
no_flagged text m p accepted a = accepted.good.1 a.flagged.i a.flagged.j a.flagged.pair

pub strict_steps_have_no_conflict : StrictStepsHaveNoConflict
strict_steps_have_no_conflict text m s ins outs next fs f accepted run c k =
    no_flagged text m f.place accepted
    (loose_meets_conflict (resolved_vars m) (resolved_body m) s ins outs next fs f (well_typed_is_sound text m accepted.typed) accepted.good.0.acyclic run c k)

pub strict_stories_have_no_conflict : StrictStoriesHaveNoConflict
strict_stories_have_no_conflict text m trace greatest written k f accepted h c =
    no_flagged text m f.place accepted
    (story_flagged (resolved_vars m) (resolved_body m) (well_typed_is_sound text m accepted.typed) accepted.good.0.acyclic greatest trace written k f h c)
