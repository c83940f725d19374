-- What an accepted text tells over a trace.
use Rattle.std.specs.Prelude.{◌≡◌, ℕ, List}
use Rattle.quartz_tree.specs.Surfaces.{ModuleTree}
use Rattle.quartz_names.specs.Resolving.{resolved_body, resolved_vars}
use Rattle.trace_io.specs.Story.{End, Story}
use Rattle.quartz_build.specs.Broken.{Cells, IsAccepted}

-- over one trace an accepted text has one story at most: the same lines, and the same end
abbrev pub StoriesAreOne : Type 0
StoriesAreOne = (text : List ℕ) (m : ModuleTree) (trace : List ℕ) (greatest : ℕ) (written others : List (List ℕ)) (end other : End)
    → IsAccepted Cells text m → Story (resolved_vars m) (resolved_body m) trace greatest written end → Story (resolved_vars m) (resolved_body m) trace greatest others other
    → (written ≡ others) × (end ≡ other)

-- and it has one, whatever the greatest number of steps
abbrev pub StoriesExist : Type 0
StoriesExist = (text : List ℕ) (m : ModuleTree) (trace : List ℕ) (greatest : ℕ)
    → IsAccepted Cells text m → (written : List (List ℕ)) × (end : End) × Story (resolved_vars m) (resolved_body m) trace greatest written end
