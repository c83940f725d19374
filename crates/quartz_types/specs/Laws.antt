-- What the rules are for.
use Rattle.std.specs.Prelude.{◌≡◌, ℕ, true, false, [], length}
use Rattle.quartz_tree.specs.Kernel.{Kernel}
use Rattle.quartz_tree.specs.Tree.{Tree}
use Rattle.quartz_expr.specs.Intervals.{Interval, Lies, bound_breaks}
use Rattle.quartz_expr.specs.Kinds.{kind_breaks}
use Rattle.quartz_expr.specs.Typed.{Fits, have_sound_types, is_over}
use Rattle.quartz_expr.specs.Value.{value}
use Rattle.quartz_expr.specs.Values.{Values}
use Rattle.quartz_expr.specs.Vars.{Vars}
use Rattle.quartz_expr.specs.Terms.{is_instant, term_of}
use Rattle.quartz_expr.specs.React.{Reaction, React}

-- a statement that may not be instant doesn't end in the macro step in which it starts
abbrev pub NotInstantTakesAStep : Type 0
NotInstantTakesAStep = (vs : Vars) (env : Values) (k : Kernel) (r : Reaction) → is_instant (term_of k) ≡ false → React vs env (term_of k) r → r.ended ≡ false

-- Every value of an expression under an environment that fits lies in that interval, where the
-- expression names variables alone and breaks neither kinds nor bounds, and no type breaks its bounds.
abbrev pub HoldsItsValues : Vars → Tree ℕ → Interval → Type 0
HoldsItsValues vs t i = have_sound_types vs ≡ true → is_over (length vs) t ≡ true → kind_breaks vs t ≡ [] → bound_breaks vs t ≡ [] → (env : Values) → Fits vs env → Lies i (value vs env t)
