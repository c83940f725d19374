-- The run of a worked module, by computation.
use Rattle.std.proofs.Common.{◌≡◌, ℕ, ℤ, pos, List, [], ◌∷◌, None, refl}
use Rattle.std.specs.Int.{int_wrap}
use Rattle.statement_cells.specs.Builder.{or_of, and_of, not_of, cell_of, enter, act, new, watch, stay_at, reserve}
use Rattle.statement_cells.specs.Surface.{start, resume, tested, watched, written}
use Rattle.statement_cells.specs.Whole.{compiled}
use Rattle.statement_cells.proofs.ExampleLemmas.{body, counter}
use Rattle.macro_steps.specs.Runs.{computed_from, initial_values}

abbrev numbers : List ℕ → List (List (List ℤ))
numbers [] = []
numbers (n ∷ ns) = ((pos n ∷ []) ∷ []) ∷ numbers ns

-- a counter up to 3 counts from 0 on, and begins again
counts : computed_from counter body (0 ∷ 1 ∷ 2 ∷ 3 ∷ 4 ∷ 5 ∷ 6 ∷ []) (initial_values (compiled counter body).registers) ([] ∷ [] ∷ [] ∷ [] ∷ [] ∷ [] ∷ [])
    ≡ record { outs = numbers (0 ∷ 1 ∷ 2 ∷ 3 ∷ 0 ∷ 1 ∷ []); end = None }
unfolding resume or_of and_of not_of tested cell_of start enter written act new watch watched stay_at reserve int_wrap
counts = refl
