-- A pause that starts.
use Rattle.std.specs.Prelude.{ℕ}
use Rattle.aif_cells.specs.declared.reference.Ref.{Ref}
use Rattle.statement_cells.specs.Builder.{Builder as Plain, Made, and_of, enter, given, zero_ref}

-- its label is entered, and it doesn't end
abbrev pub paused : (label : ℕ) → (go step : Ref) → Plain → Made
paused l go step β =
    let g = and_of go step β in
    given zero_ref (enter l g.ref g.built)
