-- Which cells the trees of expressions and of tests name: those of the current copies and of the guard.
use Rattle.std.proofs.Common.{ℕ, zero, suc, ◌<◌, ℤ, pos, negsuc, Bool, true, false, ◌&&◌, List, [], ◌∷◌, ◌++◌, map, All, Option, Some, None}
use Rattle.std.specs.Prelude.{if◌then◌else◌}
use Rattle.std.proofs.lemmas.List.Elements.{All-append, All-cons, All-head, All-nil, All-tail}
use Rattle.quartz_tree.specs.declared.place.Place.{Place}
use Rattle.quartz_tree.specs.declared.fault.Kind.{Kind as FaultKind}
use Rattle.quartz_tree.specs.declared.fault.Kind.TheVariants.{Range, Index, Divisor}
use Rattle.quartz_tree.specs.declared.expr.Unary.{Unary}
use Rattle.quartz_tree.specs.declared.expr.Unary.TheVariants as unary
use Rattle.quartz_tree.specs.declared.expr.Binary.{Binary}
use Rattle.quartz_tree.specs.declared.expr.Binary.TheVariants as binary
use Rattle.quartz_tree.specs.Tree.{Tree as Expr}
use Rattle.quartz_tree.specs.Tree as expr
use Rattle.quartz_expr.specs.Vars.{Vars, count_of}
use Rattle.quartz_expr.specs.Faults.{divides}
use Rattle.quartz_expr.specs.declared.kind.ExprKind.{ExprKind as Kind}
use Rattle.quartz_expr.specs.declared.kind.ExprKind.TheVariants.{Vector as vector}
use Rattle.quartz_expr.specs.Kinds.{kind}
use Rattle.quartz_expr.specs.Intervals.{interval, is_in, range_of}
use Rattle.aif_cells.specs.declared.reference.Ref.{Ref}
use Rattle.aif_cells.specs.declared.reference.Ref.TheVariants as ref
use Rattle.aif_cells.specs.declared.tree.TreeOne.TheVariants as tree_one
use Rattle.aif_cells.specs.declared.tree.TreeTwo.{TreeTwo}
use Rattle.aif_cells.specs.declared.tree.TreeTwo.TheVariants as tree_two
use Rattle.aif_cells.specs.Tree.{Tree, value, one, two, fit, trees}
use Rattle.aif_cells.specs.Dependences.{cells_in, cells_in_all, cells_named}
use Rattle.absence_reaction.specs.Earlier.{IsBelow}
use Rattle.statement_cells.specs.Expressions.{Copies, Current, Test, bitwise_of, complement_of, element_ref, element_tests, fitted_tree, index_tests, indexed, is_outside, divisor_tests, may_be_outside, may_leave_range, one_of, range_tests, refs_of, target_tests, test_if, tests_of, tree_of, two_of}

-- the cells in a tree are among so many
abbrev pub Below : (bound : ℕ) → Tree → Type 0
Below n t = All (λ d. d < n) (cells_in t)

-- so are those in the trees of tests
abbrev pub TestsBelow : (bound : ℕ) → List Test → Type 0
TestsBelow n ts = All (λ t. Below n t.tree) ts

-- the current copies name cells among so many
abbrev pub CopiesBelow : (bound : ℕ) → Copies → Type 0
CopiesBelow n κ = All (λ c. All (IsBelow n) c.values) κ

module _ (n : ℕ) where
  -- no cells are among so many
  pub none_below : All (λ d. d < n) []
  none_below = All-nil (λ d. d < n)

  -- cells of two lists
  pub both_below : (xs ys : List ℕ) → All (λ d. d < n) xs → All (λ d. d < n) ys → All (λ d. d < n) (xs ++ ys)
  both_below xs ys p q = All-append (λ d. d < n) xs ys p q

  -- the references of the current copy
  refs_below : (κ : Copies) (x : ℕ) → CopiesBelow n κ → All (IsBelow n) (refs_of κ x)
  refs_below [] x h = All-nil (IsBelow n)
  refs_below (c ∷ κ) zero h = All-head (λ (c : Current). All (IsBelow n) c.values) c κ h
  refs_below (c ∷ κ) (suc x) h = refs_below κ x (All-tail (λ (c : Current). All (IsBelow n) c.values) c κ h)

  -- one of them, or 0
  element_below : (rs : List Ref) (z : ℤ) → All (IsBelow n) rs → IsBelow n (element_ref rs z)
  element_below rs (negsuc m) h = none_below
  element_below [] (pos m) h = none_below
  element_below (r ∷ rs) (pos zero) h = All-head (IsBelow n) r rs h
  element_below (r ∷ rs) (pos (suc m)) h = element_below rs (pos m) (All-tail (IsBelow n) r rs h)

  -- all of them as trees
  values_below : (rs : List Ref) → All (IsBelow n) rs → All (λ d. d < n) (cells_in_all (trees (map value rs)))
  values_below [] h = none_below
  values_below (r ∷ rs) h = both_below (cells_named r) (cells_in_all (trees (map value rs))) (All-head (IsBelow n) r rs h) (values_below rs (All-tail (IsBelow n) r rs h))

  -- an element
  indexed_below : (rs : List Ref) (t : Tree) → All (IsBelow n) rs → Below n t → Below n (indexed rs t)
  indexed_below rs (value (ref.Lit z)) h i = element_below rs z h
  indexed_below rs t h i = both_below (cells_in t) (cells_in_all (trees (map value rs))) i (values_below rs h)

  -- operators name what their operands do
  complement_below : (k : Option Kind) (t : Tree) → Below n t → Below n (complement_of k t)
  complement_below (Some (vector m)) t h = h
  complement_below k t h = h

  -- with one operand
  one_below : (op : Unary) (k : Option Kind) (t : Tree) → Below n t → Below n (one_of op k t)
  one_below unary.Not k t h = complement_below k t h
  one_below unary.Neg k t h = h

  -- on truth values or on bits
  bitwise_below : (k : Option Kind) (f g : TreeTwo) (a b : Tree) → All (λ d. d < n) (cells_in a ++ cells_in b) → Below n (bitwise_of k f g a b)
  bitwise_below (Some (vector m)) f g a b h = h
  bitwise_below k f g a b h = h

  -- with two operands
  two_below : (op : Binary) (k : Option Kind) (a b : Tree) → All (λ d. d < n) (cells_in a ++ cells_in b) → Below n (two_of op k a b)
  two_below binary.Iff k a b h = h
  two_below binary.Implies k a b h = h
  two_below binary.Or k a b h = bitwise_below k tree_two.Or tree_two.Bor a b h
  two_below binary.Xor k a b h = bitwise_below k tree_two.Xor tree_two.Bxor a b h
  two_below binary.And k a b h = bitwise_below k tree_two.And tree_two.Band a b h
  two_below binary.Eq k a b h = h
  two_below binary.Ne k a b h = h
  two_below binary.Lt k a b h = h
  two_below binary.Le k a b h = h
  two_below binary.Gt k a b h = h
  two_below binary.Ge k a b h = h
  two_below binary.Cat k a b h = h
  two_below binary.Add k a b h = h
  two_below binary.Sub k a b h = h
  two_below binary.Mul k a b h = h
  two_below binary.Div k a b h = h
  two_below binary.Rem k a b h = h

  module _ (vs : Vars) (κ : Copies) (there : CopiesBelow n κ) where
    -- the tree of an expression names only cells of current copies
    pub tree_below : (e : Expr ℕ) → Below n (tree_of vs κ e)
    tree_below (expr.truth b _) = none_below
    tree_below (expr.number m _) = none_below
    tree_below (expr.bits _ m _) = none_below
    tree_below (expr.named x _) = element_below (refs_of κ x) (pos 0) (refs_below κ x there)
    tree_below (expr.element x i _) = indexed_below (refs_of κ x) (tree_of vs κ i) (refs_below κ x there) (tree_below i)
    tree_below (expr.one op a _) = one_below op (kind vs a) (tree_of vs κ a) (tree_below a)
    tree_below (expr.two op a b _) = two_below op (kind vs b) (tree_of vs κ a) (tree_of vs κ b) (both_below (cells_in (tree_of vs κ a)) (cells_in (tree_of vs κ b)) (tree_below a) (tree_below b))
    tree_below (expr.choice c a b _) =
        both_below (cells_in (tree_of vs κ c)) (cells_in (tree_of vs κ a) ++ cells_in (tree_of vs κ b)) (tree_below c)
        (both_below (cells_in (tree_of vs κ a)) (cells_in (tree_of vs κ b)) (tree_below a) (tree_below b))
    tree_below (expr.slice a high low _) = tree_below a
    tree_below (expr.to_nat a _) = tree_below a
    tree_below (expr.to_bv a _ _ _) = tree_below a
    tree_below (expr.paren a _) = tree_below a

    -- so does what is written
    pub fitted_below : (x : ℕ) (e : Expr ℕ) → Below n (fitted_tree vs κ x e)
    fitted_below x e = at (may_leave_range vs x e)
      where
        at : (b : Bool) → Below n (if b then fit (tree_of vs κ e) (range_of vs x).low (range_of vs x).high else tree_of vs κ e)
        at true = tree_below e
        at false = tree_below e

    -- ---- tests

    -- a test, if it is needed
    test_below : (b : Bool) (t : Tree) (k : FaultKind) (p : Place) → Below n t → TestsBelow n (test_if b t k p)
    test_below true t k p h = All-cons (λ (t : Test). Below n t.tree) (record { tree = t; kind = k; place = p }) [] h (All-nil (λ (t : Test). Below n t.tree))
    test_below false t k p h = All-nil (λ (t : Test). Below n t.tree)

    -- a tree beside a literal
    beside_literal : (t : Tree) → Below n t → All (λ d. d < n) (cells_in t ++ [])
    beside_literal t h = both_below (cells_in t) [] h none_below

    -- two comparisons of a tree with literals under a guard
    guarded_below : (g t : Tree) → Below n g → Below n t → All (λ d. d < n) (cells_in g ++ ((cells_in t ++ []) ++ (cells_in t ++ [])))
    guarded_below g t p h = both_below (cells_in g) ((cells_in t ++ []) ++ (cells_in t ++ [])) p (both_below (cells_in t ++ []) (cells_in t ++ []) (beside_literal t h) (beside_literal t h))

    -- the tests of an index
    index_below : (g : Tree) (x : ℕ) (i : Expr ℕ) (p : Place) → Below n g → TestsBelow n (index_tests vs κ g x i p)
    index_below g x i p h = test_below (may_be_outside vs x i) (two tree_two.And g (is_outside (tree_of vs κ i) (pos 0) (pos (count_of vs x)))) Index p (guarded_below g (tree_of vs κ i) h (tree_below i))

    -- the tests of a divisor
    divisor_below : (g : Tree) (op : Binary) (b : Expr ℕ) (p : Place) → Below n g → TestsBelow n (divisor_tests vs κ g op b p)
    divisor_below g op b p h =
        test_below (divides op && is_in (interval vs b) (pos 0)) (two tree_two.And g (two tree_two.Eq (tree_of vs κ b) (value (ref.Lit (pos 0))))) Divisor p
        (both_below (cells_in g) (cells_in (tree_of vs κ b) ++ []) h (beside_literal (tree_of vs κ b) (tree_below b)))

    -- tests of two parts
    pub both_tests : (ts us : List Test) → TestsBelow n ts → TestsBelow n us → TestsBelow n (ts ++ us)
    both_tests ts us h i = All-append (λ (t : Test). Below n t.tree) ts us h i

    -- the tests of an expression
    pub tests_below : (g : Tree) (e : Expr ℕ) → Below n g → TestsBelow n (tests_of vs κ g e)
    tests_below g (expr.truth _ _) h = All-nil (λ (t : Test). Below n t.tree)
    tests_below g (expr.number _ _) h = All-nil (λ (t : Test). Below n t.tree)
    tests_below g (expr.bits _ _ _) h = All-nil (λ (t : Test). Below n t.tree)
    tests_below g (expr.named _ _) h = All-nil (λ (t : Test). Below n t.tree)
    tests_below g (expr.element x i p) h = both_tests (tests_of vs κ g i) (index_tests vs κ g x i p) (tests_below g i h) (index_below g x i p h)
    tests_below g (expr.one _ a _) h = tests_below g a h
    tests_below g (expr.two op a b p) h =
        both_tests (tests_of vs κ g a) (tests_of vs κ g b ++ divisor_tests vs κ g op b p) (tests_below g a h)
        (both_tests (tests_of vs κ g b) (divisor_tests vs κ g op b p) (tests_below g b h) (divisor_below g op b p h))
    tests_below g (expr.choice c a b _) h =
        let t : Tree = tree_of vs κ c in
        let i : All (λ d. d < n) (cells_in g ++ cells_in t) = both_below (cells_in g) (cells_in t) h (tree_below c) in
        both_tests (tests_of vs κ g c) (tests_of vs κ (two tree_two.And g t) a ++ tests_of vs κ (two tree_two.And g (one tree_one.Not t)) b) (tests_below g c h)
        (both_tests (tests_of vs κ (two tree_two.And g t) a) (tests_of vs κ (two tree_two.And g (one tree_one.Not t)) b)
        (tests_below (two tree_two.And g t) a i) (tests_below (two tree_two.And g (one tree_one.Not t)) b i))
    tests_below g (expr.slice a _ _ _) h = tests_below g a h
    tests_below g (expr.to_nat a _) h = tests_below g a h
    tests_below g (expr.to_bv a _ _ _) h = tests_below g a h
    tests_below g (expr.paren a _) h = tests_below g a h

    -- the tests of a target
    pub target_below : (g : Tree) (i : Option (Expr ℕ)) → Below n g → TestsBelow n (target_tests vs κ g i)
    target_below g None h = All-nil (λ (t : Test). Below n t.tree)
    target_below g (Some i) h = tests_below g i h

    -- the tests of a target's own index
    pub own_element_below : (g : Tree) (x : ℕ) (i : Option (Expr ℕ)) (p : Place) → Below n g → TestsBelow n (element_tests vs κ g x i p)
    own_element_below g x None p h = All-nil (λ (t : Test). Below n t.tree)
    own_element_below g x (Some i) p h = index_below g x i p h

    -- the tests of a range
    pub range_below : (g : Tree) (x : ℕ) (e : Expr ℕ) (p : Place) → Below n g → TestsBelow n (range_tests vs κ g x e p)
    range_below g x e p h =
        let t : Tree = tree_of vs κ e in
        test_below (may_leave_range vs x e) (two tree_two.And g (two tree_two.Or (two tree_two.Lt t (value (ref.Lit (range_of vs x).low))) (two tree_two.Gt t (value (ref.Lit (range_of vs x).high))))) Range p
        (guarded_below g t h (tree_below e))
