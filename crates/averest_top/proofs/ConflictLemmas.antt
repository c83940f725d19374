-- A run that ends with a conflict ends with one of a variable that a loose pair of writes writes.
use Rattle.std.proofs.Common.{◌≡◌, inl, inr, ℕ, false, true, List, Option, sym, subst, ◌∙◌}
use Rattle.quartz_tree.specs.declared.fault.Fault.{Fault}
use Rattle.quartz_tree.specs.declared.fault.Kind.TheVariants.{Conflict}
use Rattle.quartz_tree.specs.declared.place.Place.{Place}
use Rattle.quartz_tree.specs.Kernel.{Kernel}
use Rattle.quartz_tree.specs.Surfaces.{ModuleTree}
use Rattle.quartz_expr.specs.Vars.{Vars}
use Rattle.quartz_names.specs.Resolving.{resolved_body, resolved_vars}
use Rattle.outside.specs.declared.status.Status.{Status}
use Rattle.outside.specs.declared.status.Status.TheVariants.{RunFault}
use Rattle.trace_io.specs.Story.{End, Story, done, bad, limit, fault}
use Rattle.cell_run.specs.Told.{status_of}
use Rattle.loose_runs.specs.Laws.{FlaggedAt}
use Rattle.quartz_build.specs.Broken.{Cells, IsAccepted, Strict, term_in}
use Rattle.text_laws.proofs.ConflictLemmas.{stories_end_flagged, strict_stories_have_no_conflict}
use Rattle.averest_top.specs.Promise.{Outcome}

-- a story that ends with a conflict of a step, at a place
record EndsInConflict (vs : Vars) (body : Kernel) (trace : List ℕ) (greatest k : ℕ) (p : Place) : Type 0 where
  written : List (List ℕ)
  found : Fault
  story : Story vs body trace greatest written (fault k found)
  kind_is : found.kind ≡ Conflict
  place_is : found.place ≡ p

module _ (vs : Vars) (body : Kernel) (trace : List ℕ) (greatest k : ℕ) (p : Place) where
  by_end : (written : List (List ℕ)) (e : End) → Story vs body trace greatest written e → RunFault k Conflict p ≡ status_of e → EndsInConflict vs body trace greatest k p
  by_end written done h e = absurd (cc)
  by_end written (bad j) h e = absurd (cc)
  by_end written limit h e = absurd (cc)
  by_end written (fault j f) h e =
      let step : j ≡ k = cc in
      let kind : f.kind ≡ Conflict = cc in
      let place : f.place ≡ p = cc in
      record { written = written; found = f; story = subst (λ (i : ℕ). Story vs body trace greatest written (fault i f)) step h; kind_is = kind; place_is = place }

  conflict_in : (before after : List ℕ → Type 0) (left : Option (List ℕ)) (shelf input out : Type 0) (s : Status) → Outcome vs body trace greatest before after left shelf input out s → s ≡ RunFault k Conflict p
      → EndsInConflict vs body trace greatest k p
  conflict_in before after left shelf input out s (inl (inl none)) e = absurd (cc)
  conflict_in before after left shelf input out s (inl (inr unavailable)) e = let is = unavailable.0 in absurd (cc)
  conflict_in before after left shelf input out s (inr (inl read)) e = let is = read.0 in absurd (cc)
  conflict_in before after left shelf input out s (inr (inr (inl write))) e = let is = write.0 in absurd (cc)
  conflict_in before after left shelf input out s (inr (inr (inr told))) e = by_end told.written told.end told.story (sym e ∙ told.ends)

pub conflict_flagged : (text : List ℕ) (m : ModuleTree) (trace : List ℕ) (greatest k : ℕ) (p : Place) (before after : List ℕ → Type 0) (left : Option (List ℕ)) (shelf input out : Type 0) (s : Status) → IsAccepted Cells text m
    → Outcome (resolved_vars m) (resolved_body m) trace greatest before after left shelf input out s → s ≡ RunFault k Conflict p → FlaggedAt (resolved_vars m) (term_in m) p
conflict_flagged text m trace greatest k p before after left shelf input out s accepted o e =
    let c = conflict_in (resolved_vars m) (resolved_body m) trace greatest k p before after left shelf input out s o e in
    subst (FlaggedAt (resolved_vars m) (term_in m)) c.place_is (stories_end_flagged text m trace greatest c.written k c.found accepted c.story c.kind_is)

pub never_conflict : (text : List ℕ) (m : ModuleTree) (trace : List ℕ) (greatest k : ℕ) (p : Place) (before after : List ℕ → Type 0) (left : Option (List ℕ)) (shelf input out : Type 0) (s : Status) → IsAccepted Strict text m
    → Outcome (resolved_vars m) (resolved_body m) trace greatest before after left shelf input out s → s ≡ RunFault k Conflict p → ⊥
never_conflict text m trace greatest k p before after left shelf input out s accepted o e =
    let c = conflict_in (resolved_vars m) (resolved_body m) trace greatest k p before after left shelf input out s o e in
    strict_stories_have_no_conflict text m trace greatest c.written k c.found accepted c.story c.kind_is

-- a text that is accepted strictly is accepted
pub accepted_anyhow : (text : List ℕ) (m : ModuleTree) → IsAccepted Strict text m → IsAccepted Cells text m
accepted_anyhow text m a = record { typed = a.typed; good = a.good.0 }
