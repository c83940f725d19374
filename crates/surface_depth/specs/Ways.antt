-- The ways to labels.
use Rattle.std.specs.Prelude.{Bool, true, false, List, [], ◌∷◌}
use Rattle.aif_cells.specs.declared.cells.Path.{Path}
use Rattle.statement_cells.specs.Whole.{Step, one_step}

abbrev pub steps_of : Path → List Step
steps_of p = p.steps

-- the step to the body of a guard
abbrev pub within : (abort : Bool) → Step
within true = (false, 0)
within false = (false, 1)

-- the path of the wait of an immediate suspension
abbrev pub wait_paths : (abort immediate : Bool) → List Step → List (List Step)
wait_paths true i front = []
wait_paths false true front = one_step front false 0 ∷ []
wait_paths false false front = []
