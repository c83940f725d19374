-- Expressions as plain trees, with no pointers.
use Rattle.std.specs.Prelude.{ℕ, Bool, Option}
use Rattle.quartz_tree.specs.declared.expr.Expr.{Expr, Truth, Number, Bits, Named, Element', One', Two', Choice', Slice', ToNat', ToBv', Paren'}
use Rattle.quartz_tree.specs.declared.expr.Unary.{Unary}
use Rattle.quartz_tree.specs.declared.expr.Binary.{Binary}
use Rattle.quartz_tree.specs.declared.place.Place.{Place}

-- an expression over variables named by V
pub data Tree (V : Type 0) : Type 0 where
  truth : Bool → Place → Tree V
  number : ℕ → Place → Tree V
  bits : (width value : ℕ) → Place → Tree V
  named : V → Place → Tree V
  element : V → Tree V → Place → Tree V
  one : Unary → Tree V → Place → Tree V
  two : Binary → (left right : Tree V) → Place → Tree V
  choice : (c a b : Tree V) → Place → Tree V
  slice : Tree V → (high : ℕ) → (low : Option ℕ) → Place → Tree V
  to_nat : Tree V → Place → Tree V
  to_bv : Tree V → (width : ℕ) → (width_place place : Place) → Tree V
  paren : Tree V → Place → Tree V

-- the plain tree of an expression
abbrev pub tree : {V : Type 0} → Expr V → Tree V
tree (Truth value place) = truth value place
tree (Number value place) = number value place
tree (Bits width value place) = bits width value place
tree (Named var place) = named var place
tree (Element' var _ index place) = element var (tree index) place
tree (One' op _ part place) = one op (tree part) place
tree (Two' op _ left _ right place) = two op (tree left) (tree right) place
tree (Choice' _ c _ a _ b place) = choice (tree c) (tree a) (tree b) place
tree (Slice' _ part high low place) = slice (tree part) high low place
tree (ToNat' _ part place) = to_nat (tree part) place
tree (ToBv' _ part width width_place place) = to_bv (tree part) width width_place place
tree (Paren' _ part place) = paren (tree part) place

-- the place of an expression
abbrev pub place_of : {V : Type 0} → Tree V → Place
place_of (truth _ p) = p
place_of (number _ p) = p
place_of (bits _ _ p) = p
place_of (named _ p) = p
place_of (element _ _ p) = p
place_of (one _ _ p) = p
place_of (two _ _ _ p) = p
place_of (choice _ _ _ p) = p
place_of (slice _ _ _ p) = p
place_of (to_nat _ p) = p
place_of (to_bv _ _ _ p) = p
place_of (paren _ p) = p
