-- Tokens as the grammar sees them.
use Rattle.std.specs.Prelude.{ℕ, Bool}
use Rattle.quartz_tree.specs.declared.place.Place.{Place}
use Rattle.quartz_tree.specs.declared.declare.Storage.{Storage}
use Rattle.quartz_tree.specs.declared.expr.Binary.{Binary}
use Rattle.quartz_tree.specs.Surfaces.{Word}
use Rattle.quartz_parser.specs.declared.symbol.Mark.{Mark}
use Rattle.quartz_parser.specs.declared.symbol.Scalar.{Scalar}

-- a token with what the grammar and the trees take of it
pub data Token : Type 0 where
  mark : Mark → Place → Token
  name : Word → Place → Token
  number : ℕ → Place → Token
  bits : (width value : ℕ) → Place → Token
  truth : Bool → Place → Token
  -- `event`, `mem`
  storage : Storage → Place → Token
  -- `nat`, `int`, `bv`
  sized : Scalar → Place → Token
  -- the signs between two operands, `-` too
  infix_sign : Binary → Place → Token
  -- `abort`, and `suspend` with false
  preempt : Bool → Place → Token
  other : Token
