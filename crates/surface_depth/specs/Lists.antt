-- Lists by number: what is known of each of so many numbers, in order.
use Rattle.std.specs.Prelude.{ℕ, zero, suc, ◌+◌, List, [], ◌∷◌, ◌++◌, slice_get, Option, Some, None}
use Rattle.reincarnation.specs.declared.copy.Entered.{Entered}
use Rattle.statement_cells.specs.Builder.{EnteredCopy, DepthCopy}
use Rattle.statement_cells.specs.Whole.{entered_at, depths_at}

-- one thing more in the list with that number, if there is one
abbrev pub pushed : {A : Type 0} → List (List A) → ℕ → A → List (List A)
pushed [] k r = []
pushed (b ∷ bs) zero r = (b ++ r ∷ []) ∷ bs
pushed (b ∷ bs) (suc k) r = b ∷ pushed bs k r

abbrev in_list : {A : Type 0} → Option (List A) → List A
in_list None = []
in_list (Some xs) = xs

-- the list with that number
abbrev pub list_at : {A : Type 0} → List (List A) → ℕ → List A
list_at bs k = in_list (slice_get bs k)

-- the copies without store whose registers begin at each of so many numbers from the first on
abbrev pub entered_by : (first count : ℕ) → List EnteredCopy → List (List Entered)
entered_by v zero es = []
entered_by v (suc n) es = entered_at v es ∷ entered_by (v + 1) n es

-- the copies with store whose registers begin there
abbrev pub depths_by : (first count : ℕ) → List DepthCopy → List (List DepthCopy)
depths_by v zero ds = []
depths_by v (suc n) ds = depths_at v ds ∷ depths_by (v + 1) n ds
