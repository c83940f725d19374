-- Values, and environments that give each variable the list of its elements.
use Rattle.std.specs.Prelude.{ℕ, zero, ℤ, pos, negsuc, Bool, true, false, ◌==◌, List, [], unwrap_or, slice_get}

-- an environment: by variable, the values of its elements
abbrev pub Values : Type 0
Values = List (List ℤ)

-- the elements of a variable; none where there is no such variable
abbrev pub elements_in : Values → ℕ → List ℤ
elements_in env x = unwrap_or (slice_get env x) []

-- the element with that index, or 0 where there is none
abbrev pub element_at : List ℤ → ℤ → ℤ
element_at zs (pos n) = unwrap_or (slice_get zs n) (pos 0)
element_at zs (negsuc n) = pos 0

-- true is 1
abbrev pub of_bool : Bool → ℤ
of_bool true = pos 1
of_bool false = pos 0

-- 0 is false, and every other number is true
abbrev pub is_zero : ℤ → Bool
is_zero (pos zero) = true
is_zero _ = false

-- the same number
abbrev pub same_value : ℤ → ℤ → Bool
same_value (pos m) (pos n) = m == n
same_value (negsuc m) (negsuc n) = m == n
same_value _ _ = false
