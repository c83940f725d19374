-- What holds of each module whose names are numbers.
use Rattle.std.specs.Prelude.{◌≡◌, ℕ, ◌<◌, true, length}
use Rattle.quartz_tree.specs.Kernel.{kernel}
use Rattle.quartz_names.specs.declared.resolving.Resolved.{Resolved}
use Rattle.quartz_names.specs.Numbered.{IsResolved, is_marked, is_numbered}
use Rattle.quartz_names.specs.Targets.{is_among, next_targets}

-- each variable that it names is one of its own, which are fewer than 2^32, each start value lies in its type's range, and
-- the targets of its delayed writes say that they are
abbrev pub ResolvedIsNumbered : Type 0
ResolvedIsNumbered = (r : Resolved) → IsResolved r → is_numbered r.vars (kernel r.body) ≡ true

-- a variable says that it is the target of a delayed write exactly where it is one
abbrev pub MarksAreTargets : Type 0
MarksAreTargets = (r : Resolved) → IsResolved r → (x : ℕ) → x < length r.vars → is_marked r.vars x ≡ is_among (next_targets (kernel r.body)) x
