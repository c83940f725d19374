-- What keeps an evaluation inside the machine's numbers: every part of the expression lies in
-- -2^62 to 2^62, and bits are read of values that aren't negative.
use Rattle.std.specs.Prelude.{ℕ, ◌^◌, ◌<◌, ◌≤◌, ℤ, pos, neg_ℤ, ◌≤ℤ◌, unwrap_or}
use Rattle.quartz_tree.specs.declared.expr.Binary.{Binary}
use Rattle.quartz_tree.specs.declared.expr.Binary.TheVariants.{Or, Xor, And, Cat}
use Rattle.quartz_tree.specs.Tree.{Tree, truth, number, bits, named, element, one, two, choice, slice, to_nat, to_bv, paren}
use Rattle.quartz_expr.specs.Values.{Values}
use Rattle.quartz_expr.specs.Vars.{Vars}
use Rattle.quartz_expr.specs.Kinds.{kind}
use Rattle.quartz_expr.specs.Value.{value, width_in}

-- from -2^62 to 2^62
pub record IsSmall (z : ℤ) : Type 0 where
  pub from : neg_ℤ (pos (2 ^ 62)) ≤ℤ z
  pub upto : z ≤ℤ pos (2 ^ 62)

-- what an operator asks of its parts, of which the right one has that many bits
abbrev pub Suits : Binary → ℕ → ℤ → ℤ → Type 0
Suits Or n a b = (pos 0 ≤ℤ a) × (pos 0 ≤ℤ b)
Suits Xor n a b = (pos 0 ≤ℤ a) × (pos 0 ≤ℤ b)
Suits And n a b = (pos 0 ≤ℤ a) × (pos 0 ≤ℤ b)
Suits Cat n a b = (n ≤ 32) × (pos 0 ≤ℤ a) × (pos 0 ≤ℤ b)
Suits _ n a b = Unit {0}

abbrev pub IsComputable : Vars → Values → Tree ℕ → Type 0
IsComputable vs env (truth _ _) = Unit {0}
IsComputable vs env (number n _) = n ≤ 2 ^ 62
IsComputable vs env (bits _ n _) = n < 2 ^ 32
IsComputable vs env (named _ _) = Unit {0}
IsComputable vs env (element _ i _) = IsComputable vs env i
IsComputable vs env (one _ a _) = IsComputable vs env a × IsSmall (value vs env a) × (width_in (kind vs a) ≤ 32)
IsComputable vs env (two op a b p) =
    IsComputable vs env a × IsComputable vs env b × IsSmall (value vs env a) × IsSmall (value vs env b)
    × IsSmall (value vs env (two op a b p)) × Suits op (width_in (kind vs b)) (value vs env a) (value vs env b)
IsComputable vs env (choice c a b _) = IsComputable vs env c × IsComputable vs env a × IsComputable vs env b
IsComputable vs env (slice a high low _) = IsComputable vs env a × (pos 0 ≤ℤ value vs env a) × (high < 32) × (unwrap_or low high ≤ high)
IsComputable vs env (to_nat a _) = IsComputable vs env a
IsComputable vs env (to_bv a _ _ _) = IsComputable vs env a
IsComputable vs env (paren a _) = IsComputable vs env a
