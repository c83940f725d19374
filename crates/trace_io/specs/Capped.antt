-- Numbers that stay below a bound which is greater than every value.
use Rattle.std.specs.Prelude.{ℕ, ◌-◌, ◌^◌, min, ℤ, pos, negsuc}

-- greater than each value of a type
abbrev pub most : ℕ
most = 2 ^ 40

-- the number, or the bound where it is greater
abbrev pub capped : ℕ → ℕ
capped n = min n most

-- the same on both sides of 0
abbrev pub capped_value : ℤ → ℤ
capped_value (pos n) = pos (min n most)
capped_value (negsuc n) = negsuc (min n (most - 1))
