-- The values of tokens.
use Rattle.std.specs.Prelude.{◌+◌, ◌&&◌, ℕ, Bool, true, false, nat_le}
use Rattle.quartz_parser.specs.declared.symbol.Symbol.{Symbol}
use Rattle.quartz_parser.specs.declared.symbol.Symbol.TheVariants as s

-- a digit of a base of at most 10
abbrev pub is_digit_of : (base : ℕ) → ℕ → Bool
is_digit_of base c = nat_le 48 c && nat_le c (47 + base)

-- the symbol has no value in its text
abbrev pub is_fixed : Symbol → Bool
is_fixed s.Name = false
is_fixed s.Number = false
is_fixed s.Bits = false
is_fixed _ = true
