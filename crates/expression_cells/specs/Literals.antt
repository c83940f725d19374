-- Expressions whose numbers fit those of trees.
use Rattle.std.specs.Prelude.{ℕ, ◌^◌, Bool, true, ◌&&◌, nat_le, nat_lt, Option, Some, None, unwrap_or}
use Rattle.quartz_tree.specs.Tree.{Tree, truth, number, bits, named, element, one, two, choice, slice, to_nat, to_bv, paren}
use Rattle.quartz_expr.specs.Vars.{Vars}
use Rattle.quartz_expr.specs.Typed.{IsTyped}

-- a number is at most 2^62, the value of bits is below 2^32, and so are the ends of a slice
abbrev pub fits : Tree ℕ → Bool
fits (truth _ _) = true
fits (number n _) = nat_le n (2 ^ 62)
fits (bits _ n _) = nat_lt n (2 ^ 32)
fits (named _ _) = true
fits (element _ i _) = fits i
fits (one _ a _) = fits a
fits (two _ a b _) = fits a && fits b
fits (choice c a b _) = fits c && (fits a && fits b)
fits (slice a high low _) = fits a && (nat_lt high (2 ^ 32) && nat_lt (unwrap_or low high) (2 ^ 32))
fits (to_nat a _) = fits a
fits (to_bv a _ _ _) = fits a
fits (paren a _) = fits a

-- an index that may be left out is typed
abbrev pub HasTypedIndex : Vars → Option (Tree ℕ) → Type 0
HasTypedIndex vs None = Unit {0}
HasTypedIndex vs (Some i) = IsTyped vs i
