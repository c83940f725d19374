-- Laws of the walk, in the words of the relation of reactions.
use Rattle.std.specs.Prelude.{◌≡◌, ◌↔◌, ℤ, true, List, ◌++◌}
use Rattle.quartz_expr.specs.Values.{Values}
use Rattle.quartz_expr.specs.Vars.{Vars}
use Rattle.quartz_expr.specs.Terms.{Term}
use Rattle.quartz_expr.specs.React.{Reaction, React, givens}
use Rattle.sos_model.specs.Read.{as_read}
use Rattle.sos_model.specs.Sound.{is_sound}
use Rattle.sos_model.specs.Walk.{found, walk}

-- a walk finds a reaction and leaves a rest of the list exactly where the relation has that reaction with what is read of
-- the given values, and the given values with that rest behind them are the list
abbrev pub WalksAreReactions : Type 0
WalksAreReactions = (vs : Vars) (env : Values) (t : Term) (r : Reaction) (xs ys : List ℤ) → is_sound vs t ≡ true
    → (walk vs env t xs ≡ found ys r) ↔ (React vs env t (as_read vs r) × (givens r.met ++ ys ≡ xs))
