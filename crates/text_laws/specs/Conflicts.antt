-- What loose pairs of writes say of the runs of a text.
use Rattle.std.specs.Prelude.{◌≡◌, ℕ, ◌<◌, ℤ, true, List, length, Contains, slice_get, Some}
use Rattle.quartz_tree.specs.declared.place.Place.{Place}
use Rattle.quartz_tree.specs.declared.fault.Fault.{Fault}
use Rattle.quartz_tree.specs.declared.fault.Kind.TheVariants.{Conflict}
use Rattle.quartz_tree.specs.Surfaces.{ModuleTree}
use Rattle.quartz_expr.specs.Steps.{State}
use Rattle.quartz_expr.specs.Vars.{Vars, declared_at}
use Rattle.quartz_names.specs.Resolving.{resolved_body, resolved_vars}
use Rattle.aif_cells.specs.declared.aif.Aif.{Aif}
use Rattle.trace_io.specs.Story.{Story, fault}
use Rattle.write_conflicts.specs.declared.pairs.Pairs.{Pairs}
use Rattle.write_conflicts.specs.Pairs.{ArePairsOf}
use Rattle.loose_runs.specs.Laws.{FlaggedAt, IsRunStep}
use Rattle.quartz_build.specs.Broken.{Cells, IsAccepted, Strict, term_in}
use Rattle.quartz_build.specs.Parts.{IsAifOf}

-- no variable is declared at the place that is told to be loose
abbrev pub NoneToldAt : Vars → Pairs → Place → Type 0
NoneToldAt vs told p = (x : ℕ) → x < length vs → declared_at vs x ≡ p → ¬ (slice_get told.loose x ≡ Some true)

-- then no step of any run has a conflict there
abbrev pub UntoldHasNoConflict : Type 0
UntoldHasNoConflict = (text : List ℕ) (m : ModuleTree) (aif : Aif) (told : Pairs) (p : Place) (s : State) (ins outs : List (List ℤ)) (next : State) (fs : List Fault)
    → IsAccepted Cells text m → IsAifOf m aif → ArePairsOf aif told → NoneToldAt (resolved_vars m) told p
    → IsRunStep (resolved_vars m) (resolved_body m) s ins outs next fs → ¬ Contains fs (record { place = p; kind = Conflict })

-- a story that ends with a conflict ends at a place where a variable is declared that a loose pair writes
abbrev pub StoriesEndFlagged : Type 0
StoriesEndFlagged = (text : List ℕ) (m : ModuleTree) (trace : List ℕ) (greatest : ℕ) (written : List (List ℕ)) (k : ℕ) (f : Fault)
    → IsAccepted Cells text m → Story (resolved_vars m) (resolved_body m) trace greatest written (fault k f) → f.kind ≡ Conflict
    → FlaggedAt (resolved_vars m) (term_in m) f.place

-- a text that is accepted strictly has no conflict in any step of any run
abbrev pub StrictStepsHaveNoConflict : Type 0
StrictStepsHaveNoConflict = (text : List ℕ) (m : ModuleTree) (s : State) (ins outs : List (List ℤ)) (next : State) (fs : List Fault) (f : Fault)
    → IsAccepted Strict text m → IsRunStep (resolved_vars m) (resolved_body m) s ins outs next fs → Contains fs f → ¬ (f.kind ≡ Conflict)

-- and none of its stories ends with one
abbrev pub StrictStoriesHaveNoConflict : Type 0
StrictStoriesHaveNoConflict = (text : List ℕ) (m : ModuleTree) (trace : List ℕ) (greatest : ℕ) (written : List (List ℕ)) (k : ℕ) (f : Fault)
    → IsAccepted Strict text m → Story (resolved_vars m) (resolved_body m) trace greatest written (fault k f) → ¬ (f.kind ≡ Conflict)
