-- Expressions as trees of cells, and the tests of their faults.
use Rattle.std.specs.Prelude.{ℕ, ◌-◌, ℤ, pos, negsuc, Bool, true, false, not, ◌&&◌, List, [], ◌∷◌, ◌++◌, map, slice_get, Option, Some, None, unwrap_or, if◌then◌else◌}
use Rattle.quartz_tree.specs.declared.place.Place.{Place}
use Rattle.quartz_tree.specs.declared.fault.Kind.{Kind as FaultKind}
use Rattle.quartz_tree.specs.declared.fault.Kind.TheVariants.{Range, Index, Divisor}
use Rattle.quartz_tree.specs.declared.expr.Unary.{Unary}
use Rattle.quartz_tree.specs.declared.expr.Unary.TheVariants as unary
use Rattle.quartz_tree.specs.declared.expr.Binary.{Binary}
use Rattle.quartz_tree.specs.declared.expr.Binary.TheVariants as binary
use Rattle.quartz_tree.specs.Tree.{Tree as Expr}
use Rattle.quartz_tree.specs.Tree as expr
use Rattle.quartz_expr.specs.Values.{Values, of_bool}
use Rattle.quartz_expr.specs.Vars.{Vars, count_of}
use Rattle.quartz_expr.specs.Value.{width_in}
use Rattle.quartz_expr.specs.Faults.{divides}
use Rattle.quartz_expr.specs.declared.kind.ExprKind.{ExprKind as Kind}
use Rattle.quartz_expr.specs.declared.kind.ExprKind.TheVariants.{Vector as vector}
use Rattle.quartz_expr.specs.Kinds.{kind}
use Rattle.quartz_expr.specs.Intervals.{interval, is_in, is_inside, range_of, span}
use Rattle.aif_cells.specs.declared.reference.Ref.{Ref}
use Rattle.aif_cells.specs.declared.reference.Ref.TheVariants as ref
use Rattle.aif_cells.specs.declared.tree.TreeOne.TheVariants as tree_one
use Rattle.aif_cells.specs.declared.tree.TreeTwo.{TreeTwo}
use Rattle.aif_cells.specs.declared.tree.TreeTwo.TheVariants as tree_two
use Rattle.aif_cells.specs.Tree.{Tree, value, one, two, ite, sel, fit, bnot, cat, bits, trees}
use Rattle.aif_cells.specs.Worth.{Assignment, read}
-- the copy of a variable that a statement reads and writes: its number, and the references of its elements
pub use Rattle.statement_cells.specs.declared.current.Current.{Current}

-- ---- the current copies of variables

-- the current copy of each variable, by variable
abbrev pub Copies : Type 0
Copies = List Current

abbrev values_in : Option Current → List Ref
values_in None = []
values_in (Some c) = c.values

abbrev pub refs_of : Copies → ℕ → List Ref
refs_of κ x = values_in (slice_get κ x)

abbrev number_in : Option Current → ℕ
number_in None = 0
number_in (Some c) = c.copy

abbrev pub copy_of : Copies → ℕ → ℕ
copy_of κ x = number_in (slice_get κ x)

-- the values of the current copies
abbrev pub env_of : Assignment → Copies → Values
env_of σ κ = map (λ c. map (read σ) c.values) κ

-- ---- trees

abbrev pub literal : ℤ → Tree
literal z = value (ref.Lit z)

-- the element with that number, or 0 where there is none
abbrev pub element_ref : List Ref → ℤ → Ref
element_ref rs (pos n) = unwrap_or (slice_get rs n) (ref.Lit (pos 0))
element_ref rs (negsuc n) = ref.Lit (pos 0)

-- the element with a literal index, or one that is selected
abbrev pub indexed : List Ref → Tree → Tree
indexed rs (value (ref.Lit z)) = value (element_ref rs z)
indexed rs t = sel t (trees (map value rs))

-- `!` of a truth value, or of bits
abbrev pub complement_of : Option Kind → Tree → Tree
complement_of (Some (vector n)) t = bnot t n
complement_of _ t = one tree_one.Not t

abbrev pub one_of : Unary → Option Kind → Tree → Tree
one_of unary.Not k t = complement_of k t
one_of unary.Neg k t = one tree_one.Neg t

-- an operator on truth values, or the one on bits
abbrev pub bitwise_of : Option Kind → (on_truth on_bits : TreeTwo) → Tree → Tree → Tree
bitwise_of (Some (vector n)) f g a b = two g a b
bitwise_of _ f g a b = two f a b

abbrev pub two_of : Binary → Option Kind → Tree → Tree → Tree
two_of binary.Iff k a b = two tree_two.Eq a b
two_of binary.Implies k a b = two tree_two.Or (one tree_one.Not a) b
two_of binary.Or k a b = bitwise_of k tree_two.Or tree_two.Bor a b
two_of binary.Xor k a b = bitwise_of k tree_two.Xor tree_two.Bxor a b
two_of binary.And k a b = bitwise_of k tree_two.And tree_two.Band a b
two_of binary.Eq k a b = two tree_two.Eq a b
two_of binary.Ne k a b = two tree_two.Ne a b
two_of binary.Lt k a b = two tree_two.Lt a b
two_of binary.Le k a b = two tree_two.Le a b
two_of binary.Gt k a b = two tree_two.Gt a b
two_of binary.Ge k a b = two tree_two.Ge a b
two_of binary.Cat k a b = cat a b (width_in k)
two_of binary.Add k a b = two tree_two.Add a b
two_of binary.Sub k a b = two tree_two.Sub a b
two_of binary.Mul k a b = two tree_two.Mul a b
two_of binary.Div k a b = two tree_two.Div a b
two_of binary.Rem k a b = two tree_two.Rem a b

-- the tree of an expression
abbrev pub tree_of : Vars → Copies → Expr ℕ → Tree
tree_of vs κ (expr.truth b _) = literal (of_bool b)
tree_of vs κ (expr.number n _) = literal (pos n)
tree_of vs κ (expr.bits _ n _) = literal (pos n)
tree_of vs κ (expr.named x _) = value (element_ref (refs_of κ x) (pos 0))
tree_of vs κ (expr.element x i _) = indexed (refs_of κ x) (tree_of vs κ i)
tree_of vs κ (expr.one op a _) = one_of op (kind vs a) (tree_of vs κ a)
tree_of vs κ (expr.two op a b _) = two_of op (kind vs b) (tree_of vs κ a) (tree_of vs κ b)
tree_of vs κ (expr.choice c a b _) = ite (tree_of vs κ c) (tree_of vs κ a) (tree_of vs κ b)
tree_of vs κ (expr.slice a high low _) = bits (tree_of vs κ a) high (unwrap_or low high)
tree_of vs κ (expr.to_nat a _) = tree_of vs κ a
tree_of vs κ (expr.to_bv a _ _ _) = tree_of vs κ a
tree_of vs κ (expr.paren a _) = tree_of vs κ a

-- ---- tests of faults

-- a fault of that kind at that place, where the tree isn't 0
pub record Test : Type 0 where
  pub tree : Tree
  pub kind : FaultKind
  pub place : Place

-- a test, if it is needed
abbrev pub test_if : Bool → Tree → FaultKind → Place → List Test
test_if true t k p = record { tree = t; kind = k; place = p } ∷ []
test_if false t k p = []

-- the tree is below one number, or it is at least the other
abbrev pub is_outside : Tree → (from to : ℤ) → Tree
is_outside t a b = two tree_two.Or (two tree_two.Lt t (literal a)) (two tree_two.Ge t (literal b))

-- the index of an element may lie outside
abbrev pub may_be_outside : Vars → (var : ℕ) → (index : Expr ℕ) → Bool
may_be_outside vs x i = not (is_inside (interval vs i) (span (pos 0) (pos (count_of vs x - 1))))

-- under a guard, an index names no element
abbrev pub index_tests : Vars → Copies → (guard : Tree) → (var : ℕ) → (index : Expr ℕ) → Place → List Test
index_tests vs κ g x i p = test_if (may_be_outside vs x i) (two tree_two.And g (is_outside (tree_of vs κ i) (pos 0) (pos (count_of vs x)))) Index p

-- under a guard, a divisor is 0
abbrev pub divisor_tests : Vars → Copies → (guard : Tree) → Binary → (divisor : Expr ℕ) → Place → List Test
divisor_tests vs κ g op b p = test_if (divides op && is_in (interval vs b) (pos 0)) (two tree_two.And g (two tree_two.Eq (tree_of vs κ b) (literal (pos 0)))) Divisor p

-- the tests of an expression under a guard: of parts from left to right, of a part before the whole, and of the chosen side
abbrev pub tests_of : Vars → Copies → (guard : Tree) → Expr ℕ → List Test
tests_of vs κ g (expr.truth _ _) = []
tests_of vs κ g (expr.number _ _) = []
tests_of vs κ g (expr.bits _ _ _) = []
tests_of vs κ g (expr.named _ _) = []
tests_of vs κ g (expr.element x i p) = tests_of vs κ g i ++ index_tests vs κ g x i p
tests_of vs κ g (expr.one _ a _) = tests_of vs κ g a
tests_of vs κ g (expr.two op a b p) = tests_of vs κ g a ++ (tests_of vs κ g b ++ divisor_tests vs κ g op b p)
tests_of vs κ g (expr.choice c a b _) =
    let t = tree_of vs κ c in
    tests_of vs κ g c ++ (tests_of vs κ (two tree_two.And g t) a ++ tests_of vs κ (two tree_two.And g (one tree_one.Not t)) b)
tests_of vs κ g (expr.slice a _ _ _) = tests_of vs κ g a
tests_of vs κ g (expr.to_nat a _) = tests_of vs κ g a
tests_of vs κ g (expr.to_bv a _ _ _) = tests_of vs κ g a
tests_of vs κ g (expr.paren a _) = tests_of vs κ g a

-- ---- the tests of a write

abbrev pub target_tests : Vars → Copies → (guard : Tree) → Option (Expr ℕ) → List Test
target_tests vs κ g None = []
target_tests vs κ g (Some i) = tests_of vs κ g i

-- under a guard, the target's index names no element
abbrev pub element_tests : Vars → Copies → (guard : Tree) → (var : ℕ) → Option (Expr ℕ) → Place → List Test
element_tests vs κ g x None p = []
element_tests vs κ g x (Some i) p = index_tests vs κ g x i p

-- the value may lie outside the target's range
abbrev pub may_leave_range : Vars → (var : ℕ) → (value : Expr ℕ) → Bool
may_leave_range vs x e = not (is_inside (interval vs e) (range_of vs x))

-- under a guard, the value lies outside the target's range
abbrev pub range_tests : Vars → Copies → (guard : Tree) → (var : ℕ) → (value : Expr ℕ) → Place → List Test
range_tests vs κ g x e p =
    let t = tree_of vs κ e in
    let i = range_of vs x in
    test_if (may_leave_range vs x e) (two tree_two.And g (two tree_two.Or (two tree_two.Lt t (literal i.low)) (two tree_two.Gt t (literal i.high)))) Range p

-- what is written: the value, or 0 where it lies outside the target's range
abbrev pub fitted_tree : Vars → Copies → (var : ℕ) → (value : Expr ℕ) → Tree
fitted_tree vs κ x e =
    let t = tree_of vs κ e in
    let i = range_of vs x in
    if may_leave_range vs x e then fit t i.low i.high else t
