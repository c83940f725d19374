-- References that are literals, and what they leave of an `and`, an `or`.
use Rattle.std.specs.Prelude.{ℤ, pos, zero, Bool, true, false, Option, Some, None}
use Rattle.aif_cells.specs.declared.reference.Ref.{Ref}
use Rattle.aif_cells.specs.declared.reference.Ref.TheVariants.{Lit, Input, Reg, Cell}
use Rattle.statement_cells.specs.Builder as plain
use Rattle.statement_builder.specs.declared.gates.Short.{Short}
use Rattle.statement_builder.specs.declared.gates.Short.TheVariants.{First, Second, Both}

-- the number of a literal
abbrev pub literal_of : Ref → Option ℤ
literal_of (Lit z) = Some z
literal_of (Input i) = None
literal_of (Reg r) = None
literal_of (Cell k) = None

-- `not` of a reference that is a literal
abbrev pub negated : Ref → Option Ref
negated (Lit (pos zero)) = Some plain.one_ref
negated (Lit z) = Some plain.zero_ref
negated (Input i) = None
negated (Reg r) = None
negated (Cell k) = None

-- the literal 0
abbrev pub is_zero : Ref → Bool
is_zero (Lit (pos zero)) = true
is_zero r = false

abbrev pub short : Short → plain.Short
short First = plain.first
short Second = plain.second
short Both = plain.both
