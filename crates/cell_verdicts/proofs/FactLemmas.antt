-- What a guard says is a list: by the form of its tree, and what cells' trees say along the order of the cells.
use Rattle.std.proofs.Common.{◌≡◌, ◌∙◌, ◌⊎◌, ◌↔◌, inl, inr, ℕ, suc, ℤ, pos, negsuc, Bool, true, false, not, List, [], ◌∷◌, ◌++◌, Contains, Option, Some, None, refl, sym, ap, ap₂, subst, arith}
use Rattle.std.specs.Prelude.{slice_get}
use Rattle.std.proofs.lemmas.Bool.{cases_eq}
use Rattle.std.proofs.lemmas.List.Elements.{Contains-append_cases, Contains-append_left, Contains-append_right}
use Rattle.aif_cells.specs.declared.reference.Ref.{Ref}
use Rattle.aif_cells.specs.declared.reference.Ref.TheVariants as ref
use Rattle.aif_cells.specs.declared.tree.TreeOne.TheVariants.{Not, Neg}
use Rattle.aif_cells.specs.declared.tree.TreeTwo.TheVariants.{And, Or}
use Rattle.aif_cells.specs.Tree.{Tree, value, one, two, ite, sel, fit, bnot, cat, bits}
use Rattle.aif_cells.specs.Built.{Defined}
use Rattle.aif_cells.specs.Dependences.{DependsOn, cells_in}
use Rattle.aif_cells.specs.Order.{IsOrder}
use Rattle.aif_cells.proofs.ItemLemmas.{in_cases, in_first, in_others}
use Rattle.aif_cells.proofs.SolutionLemmas.{there}
use Rattle.causality_check.proofs.GraphLemmas.{in_one, not_in_none}
use Rattle.macro_steps.proofs.OrderLemmas.{along, place_in}
use Rattle.write_conflicts.specs.Must.{Must, of_input, of_register, of_cell, of_cell_tree, of_not, of_left_and, of_right_and, of_left_or, of_right_or, of_both_or, of_both_and}
use Rattle.cell_verdicts.proofs.DecideLemmas.{member_of, same_bool}

-- ---- signed references

same_int : (y z : ℤ) → (y ≡ z) ⊎ (y ≡ z → ⊥)
same_int (pos m) (pos n) = elim (cases_eq m n) [ inl e ↦ inl (ap pos e) | inr d ↦ inr (λ e. let f : m ≡ n = cc in d f) ]
same_int (negsuc m) (negsuc n) = elim (cases_eq m n) [ inl e ↦ inl (ap negsuc e) | inr d ↦ inr (λ e. let f : m ≡ n = cc in d f) ]
same_int (pos m) (negsuc n) = inr (λ e. cc)
same_int (negsuc m) (pos n) = inr (λ e. cc)

pub same_ref : (x y : Ref) → (x ≡ y) ⊎ (x ≡ y → ⊥)
same_ref (ref.Lit y) (ref.Lit z) = elim (same_int y z) [ inl e ↦ inl (ap ref.Lit e) | inr d ↦ inr (λ e. let f : y ≡ z = cc in d f) ]
same_ref (ref.Input m) (ref.Input n) = elim (cases_eq m n) [ inl e ↦ inl (ap ref.Input e) | inr d ↦ inr (λ e. let f : m ≡ n = cc in d f) ]
same_ref (ref.Reg m) (ref.Reg n) = elim (cases_eq m n) [ inl e ↦ inl (ap ref.Reg e) | inr d ↦ inr (λ e. let f : m ≡ n = cc in d f) ]
same_ref (ref.Cell m) (ref.Cell n) = elim (cases_eq m n) [ inl e ↦ inl (ap ref.Cell e) | inr d ↦ inr (λ e. let f : m ≡ n = cc in d f) ]
same_ref x y = inr (λ e. cc)

abbrev pub Fact : Type 0
Fact = Ref × Bool

abbrev pub fact : Ref → Bool → Fact
fact r u = (r, u)

same_facts : (x y : Ref) (s t : Bool) → x ≡ y → s ≡ t → fact x s ≡ fact y t
same_facts x y s t e f = ap₂ fact e f

same_fact : (f g : Fact) → (f ≡ g) ⊎ (f ≡ g → ⊥)
same_fact f g = at (same_ref f.0 g.0) (same_bool f.1 g.1)
  where
    at : (f.0 ≡ g.0) ⊎ (f.0 ≡ g.0 → ⊥) → (f.1 ≡ g.1) ⊎ (f.1 ≡ g.1 → ⊥) → (f ≡ g) ⊎ (f ≡ g → ⊥)
    at (inl e) (inl h) = inl (same_facts f.0 g.0 f.1 g.1 e h)
    at (inr n) d = inr (λ p. n (ap (λ (k : Fact). k.0) p))
    at (inl e) (inr n) = inr (λ p. n (ap (λ (k : Fact). k.1) p))

-- those of two lists
record Shared (xs ys : List Fact) : Type 0 where
  facts : List Fact
  exact : (f : Fact) → Contains facts f ↔ (Contains xs f × Contains ys f)

shared : (xs ys : List Fact) → Shared xs ys
shared [] ys = record { facts = []; exact = λ f. (λ c. absurd (not_in_none f c), λ b. absurd (not_in_none f b.0)) }
shared (x ∷ xs) ys = at (member_of Fact same_fact ys x) (shared xs ys)
  where
    at : Contains ys x ⊎ (¬ Contains ys x) → Shared xs ys → Shared (x ∷ xs) ys
    at (inl c) rest = record {
      facts = x ∷ rest.facts;
      exact = λ f. (
        λ d. elim (in_cases x rest.facts f d) [
          | inl e ↦ (subst (Contains (x ∷ xs)) e (in_first x xs), subst (Contains ys) e c)
          | inr m ↦ (let b = (rest.exact f).0 m in (in_others x xs f b.0, b.1))
        ],
        λ b. elim (in_cases x xs f b.0) [
          | inl e ↦ subst (Contains (x ∷ rest.facts)) e (in_first x rest.facts)
          | inr m ↦ in_others x rest.facts f ((rest.exact f).1 (m, b.1))
        ],
      );
    }
    at (inr n) rest = record {
      facts = rest.facts;
      exact = λ f. (
        λ d. let b = (rest.exact f).0 d in (in_others x xs f b.0, b.1),
        λ b. elim (in_cases x xs f b.0) [
          | inl e ↦ absurd (n (subst (Contains ys) (sym e) b.1))
          | inr m ↦ (rest.exact f).1 (m, b.1)
        ],
      );
    }

unsome : (c d : Defined) → Some c ≡ Some d → c ≡ d
unsome c d e = cc

module _ (cs : List Defined) where
  -- all that a tree with this sign says
  pub record Told (t : Tree) (s : Bool) : Type 0 where
    pub facts : List Fact
    pub exact : (r : Ref) (u : Bool) → Contains facts (fact r u) ↔ Must cs t s r u

  silent : (t : Tree) (s : Bool) → ((r : Ref) (u : Bool) → Must cs t s r u → ⊥) → Told t s
  silent t s n = record { facts = []; exact = λ r u. (λ c. absurd (not_in_none (fact r u) c), λ m. absurd (n r u m)) }

  alone : (x : Ref) (s : Bool) → Must cs (value x) s x s → ((r : Ref) (u : Bool) → Must cs (value x) s r u → (r ≡ x) × (u ≡ s)) → Told (value x) s
  alone x s here back = record {
    facts = fact x s ∷ [];
    exact = λ r u. (
      λ c. subst (λ (f : Fact). Must cs (value x) s f.0 f.1) (in_one (fact x s) (fact r u) c) here,
      λ m. let e = back r u m in subst (Contains (fact x s ∷ [])) (same_facts x r s u (sym e.0) (sym e.1)) (in_first (fact x s) []),
    );
  }

  -- what one of two trees says, and what both say
  united : (t : Tree) (s : Bool) (a b : Tree) (v : Bool) → Told a v → Told b v → ((r : Ref) (u : Bool) → Must cs t s r u ↔ (Must cs a v r u ⊎ Must cs b v r u)) → Told t s
  united t s a b v p q one_of = record {
    facts = p.facts ++ q.facts;
    exact = λ r u. (
      λ c. (one_of r u).1 (elim (Contains-append_cases p.facts q.facts (fact r u) c) [ inl x ↦ inl ((p.exact r u).0 x) | inr y ↦ inr ((q.exact r u).0 y) ]),
      λ m. elim ((one_of r u).0 m) [
        | inl x ↦ Contains-append_left p.facts q.facts (fact r u) ((p.exact r u).1 x)
        | inr y ↦ Contains-append_right p.facts q.facts (fact r u) ((q.exact r u).1 y)
      ],
    );
  }

  agreed : (t : Tree) (s : Bool) (a b : Tree) (v : Bool) → Told a v → Told b v → ((r : Ref) (u : Bool) → Must cs t s r u ↔ (Must cs a v r u × Must cs b v r u)) → Told t s
  agreed t s a b v p q all_of = record {
    facts = z.facts;
    exact = λ r u. (
      λ c. let k = (z.exact (fact r u)).0 c in (all_of r u).1 ((p.exact r u).0 k.0, (q.exact r u).0 k.1),
      λ m. let k = (all_of r u).0 m in (z.exact (fact r u)).1 ((p.exact r u).1 k.0, (q.exact r u).1 k.1),
    );
  }
    where
      z : Shared p.facts q.facts
      z = shared p.facts q.facts

  -- ---- backwards, by the form of the tree

  not_back : (a : Tree) (s : Bool) (r : Ref) (u : Bool) → Must cs (one Not a) s r u → Must cs a (not s) r u
  not_back a s r u (of_not _ _ _ _ m) = m

  and_plus : (a b : Tree) (r : Ref) (u : Bool) → Must cs (two And a b) true r u → Must cs a true r u ⊎ Must cs b true r u
  and_plus a b r u (of_left_and _ _ _ _ m) = inl m
  and_plus a b r u (of_right_and _ _ _ _ m) = inr m

  and_minus : (a b : Tree) (r : Ref) (u : Bool) → Must cs (two And a b) false r u → Must cs a false r u × Must cs b false r u
  and_minus a b r u (of_both_and _ _ _ _ m n) = (m, n)

  or_plus : (a b : Tree) (r : Ref) (u : Bool) → Must cs (two Or a b) true r u → Must cs a true r u × Must cs b true r u
  or_plus a b r u (of_both_or _ _ _ _ m n) = (m, n)

  or_minus : (a b : Tree) (r : Ref) (u : Bool) → Must cs (two Or a b) false r u → Must cs a false r u ⊎ Must cs b false r u
  or_minus a b r u (of_left_or _ _ _ _ m) = inl m
  or_minus a b r u (of_right_or _ _ _ _ m) = inr m

  and_one : (a b : Tree) (r : Ref) (u : Bool) → Must cs a true r u ⊎ Must cs b true r u → Must cs (two And a b) true r u
  and_one a b r u (inl m) = of_left_and a b r u m
  and_one a b r u (inr m) = of_right_and a b r u m

  or_one : (a b : Tree) (r : Ref) (u : Bool) → Must cs a false r u ⊎ Must cs b false r u → Must cs (two Or a b) false r u
  or_one a b r u (inl m) = of_left_or a b r u m
  or_one a b r u (inr m) = of_right_or a b r u m

  input_back : (i : ℕ) (s : Bool) (r : Ref) (u : Bool) → Must cs (value (ref.Input i)) s r u → (r ≡ ref.Input i) × (u ≡ s)
  input_back i s r u (of_input _ _) = (refl, refl)

  register_back : (i : ℕ) (s : Bool) (r : Ref) (u : Bool) → Must cs (value (ref.Reg i)) s r u → (r ≡ ref.Reg i) × (u ≡ s)
  register_back i s r u (of_register _ _) = (refl, refl)

  cell_back : (c : ℕ) (s : Bool) (r : Ref) (u : Bool) → Must cs (value (ref.Cell c)) s r u → ((r ≡ ref.Cell c) × (u ≡ s)) ⊎ ((d : Defined) × (slice_get cs c ≡ Some d) × Must cs d.tree s r u)
  cell_back c s r u (of_cell _ _) = inl (refl, refl)
  cell_back c s r u (of_cell_tree _ _ d _ _ e m) = inr (d, e, m)

  -- a cell says itself and what its tree says
  of_row : (c : ℕ) (s : Bool) → ((d : Defined) → slice_get cs c ≡ Some d → Told d.tree s) → Told (value (ref.Cell c)) s
  of_row c s row = at (slice_get cs c) refl
    where
      never : (d : Defined) → None ≡ Some d → ⊥
      never d e = cc

      itself : slice_get cs c ≡ None → (r : Ref) (u : Bool) → ((r ≡ ref.Cell c) × (u ≡ s)) ⊎ ((d : Defined) × (slice_get cs c ≡ Some d) × Must cs d.tree s r u) → (r ≡ ref.Cell c) × (u ≡ s)
      itself e r u (inl p) = p
      itself e r u (inr (d, f, m)) = absurd (never d (sym e ∙ f))

      with_tree : (d : Defined) → slice_get cs c ≡ Some d → Told d.tree s → Told (value (ref.Cell c)) s
      with_tree d e p = record { facts = fact (ref.Cell c) s ∷ p.facts; exact = λ r u. (forth r u, back r u) }
        where
          forth : (r : Ref) (u : Bool) → Contains (fact (ref.Cell c) s ∷ p.facts) (fact r u) → Must cs (value (ref.Cell c)) s r u
          forth r u k = elim (in_cases (fact (ref.Cell c) s) p.facts (fact r u) k) [
            | inl q ↦ subst (λ (f : Fact). Must cs (value (ref.Cell c)) s f.0 f.1) q (of_cell c s)
            | inr m ↦ of_cell_tree c s d r u e ((p.exact r u).0 m)
          ]

          back : (r : Ref) (u : Bool) → Must cs (value (ref.Cell c)) s r u → Contains (fact (ref.Cell c) s ∷ p.facts) (fact r u)
          back r u m = elim (cell_back c s r u m) [
            | inl q ↦ subst (Contains (fact (ref.Cell c) s ∷ p.facts)) (same_facts (ref.Cell c) r s u (sym q.0) (sym q.1)) (in_first (fact (ref.Cell c) s) p.facts)
            | inr f ↦ in_others (fact (ref.Cell c) s) p.facts (fact r u) ((p.exact r u).1 (subst (λ (x : Defined). Must cs x.tree s r u) (unsome f.0 d (sym f.1 ∙ e)) f.2))
          ]

      at : (o : Option Defined) → slice_get cs c ≡ o → Told (value (ref.Cell c)) s
      at None e = alone (ref.Cell c) s (of_cell c s) (λ r u m. itself e r u (cell_back c s r u m))
      at (Some d) e = with_tree d e (row d e)

  -- what the trees of a tree's cells say
  abbrev RowsOf : Tree → Type 0
  RowsOf t = (c : ℕ) (d : Defined) → Contains (cells_in t) c → slice_get cs c ≡ Some d → (s : Bool) → Told d.tree s

  of_tree : (t : Tree) → RowsOf t → (s : Bool) → Told t s
  of_tree (value (ref.Lit z)) rows s = silent (value (ref.Lit z)) s (λ r u m. elim m [ ])
  of_tree (value (ref.Input i)) rows s = alone (ref.Input i) s (of_input i s) (input_back i s)
  of_tree (value (ref.Reg k)) rows s = alone (ref.Reg k) s (of_register k s) (register_back k s)
  of_tree (value (ref.Cell c)) rows s = of_row c s (λ d e. rows c d (in_first c []) e s)
  of_tree (one Not a) rows s =
      let p : Told a (not s) = of_tree a rows (not s) in
      record { facts = p.facts; exact = λ r u. (λ c. of_not a s r u ((p.exact r u).0 c), λ m. (p.exact r u).1 (not_back a s r u m)) }
  of_tree (one Neg a) rows s = silent (one Neg a) s (λ r u m. elim m [ ])
  of_tree (two And a b) rows true =
      united (two And a b) true a b true (of_tree a (λ c d m. rows c d (Contains-append_left (cells_in a) (cells_in b) c m)) true)
      (of_tree b (λ c d m. rows c d (Contains-append_right (cells_in a) (cells_in b) c m)) true) (λ r u. (and_plus a b r u, and_one a b r u))
  of_tree (two And a b) rows false =
      agreed (two And a b) false a b false (of_tree a (λ c d m. rows c d (Contains-append_left (cells_in a) (cells_in b) c m)) false)
      (of_tree b (λ c d m. rows c d (Contains-append_right (cells_in a) (cells_in b) c m)) false) (λ r u. (and_minus a b r u, λ m. of_both_and a b r u m.0 m.1))
  of_tree (two Or a b) rows true =
      agreed (two Or a b) true a b true (of_tree a (λ c d m. rows c d (Contains-append_left (cells_in a) (cells_in b) c m)) true)
      (of_tree b (λ c d m. rows c d (Contains-append_right (cells_in a) (cells_in b) c m)) true) (λ r u. (or_plus a b r u, λ m. of_both_or a b r u m.0 m.1))
  of_tree (two Or a b) rows false =
      united (two Or a b) false a b false (of_tree a (λ c d m. rows c d (Contains-append_left (cells_in a) (cells_in b) c m)) false)
      (of_tree b (λ c d m. rows c d (Contains-append_right (cells_in a) (cells_in b) c m)) false) (λ r u. (or_minus a b r u, or_one a b r u))
  of_tree (two op a b) rows s = silent (two op a b) s (λ r u m. elim m [ ])
  of_tree (ite c a b) rows s = silent (ite c a b) s (λ r u m. elim m [ ])
  of_tree (sel i ts) rows s = silent (sel i ts) s (λ r u m. elim m [ ])
  of_tree (fit a low high) rows s = silent (fit a low high) s (λ r u m. elim m [ ])
  of_tree (bnot a n) rows s = silent (bnot a n) s (λ r u m. elim m [ ])
  of_tree (cat a b n) rows s = silent (cat a b n) s (λ r u m. elim m [ ])
  of_tree (bits a high low) rows s = silent (bits a high low) s (λ r u m. elim m [ ])

  -- ---- along the order

  module _ (order : List ℕ) (is : IsOrder cs order) where
    abbrev TellsTree : ℕ → Type 0
    TellsTree k = (d : Defined) → slice_get cs k ≡ Some d → (s : Bool) → Told d.tree s

    step : (i k : ℕ) → slice_get order i ≡ Some k → ((d : ℕ) → DependsOn cs k d → TellsTree d) → TellsTree k
    step i k placed rows d e s = of_tree d.tree (λ c f m g. rows c (d, e, m) f g) s

    tells_tree : (k : ℕ) → TellsTree k
    tells_tree k d e s = let p = place_in cs order is k (there cs k d e) in along cs order is TellsTree step (suc p.0) p.0 k (omega arith) p.1 d e s

    pub told_of : (t : Tree) (s : Bool) → Told t s
    told_of t s = of_tree t (λ c d m e. tells_tree c d e) s
