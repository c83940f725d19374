-- What trees say, form by form, and that the words say the same.
use Rattle.std.proofs.Common.{◌≡◌, ◌∙◌, ℕ, ℤ, ◌+◌, ◌*◌, inl, inr, Bool, true, false, not, List, Some, None, Contains, refl, sym, subst, arith}
use Rattle.std.specs.Prelude.{◌↔◌, ◌⊎◌, bit_or, slice_get, slice_index_or}
use mathlib.Core.Logic.{⊎_elim}
use Rattle.std.specs.Int.{bit_at}
use Rattle.std.proofs.lemmas.List.Elements.{Contains-append_left, Contains-append_right}
use Rattle.aif_cells.specs.declared.reference.Ref.{Ref}
use Rattle.aif_cells.specs.declared.reference.Ref.TheVariants as ref
use Rattle.aif_cells.specs.declared.tree.TreeOne.TheVariants.{Not, Neg}
use Rattle.aif_cells.specs.declared.tree.TreeTwo.{TreeTwo}
use Rattle.aif_cells.specs.declared.tree.TreeTwo.TheVariants as two_op
use Rattle.aif_cells.specs.declared.tree.TreeTwo.TheVariants.{And, Or}
use Rattle.aif_cells.specs.Tree.{Tree, Trees, value, one, two, ite, sel, fit, bnot, cat, bits}
use Rattle.aif_cells.specs.Built.{Defined}
use Rattle.aif_cells.specs.Dependences.{cells_in}
use Rattle.write_conflicts.specs.declared.block.Block.{Block}
use Rattle.write_conflicts.specs.declared.block.Both.{Both}
use Rattle.write_conflicts.specs.Must.{Must, of_input, of_register, of_cell, of_cell_tree, of_not, of_left_and, of_right_and, of_left_or, of_right_or, of_both_or, of_both_and}
use Rattle.write_conflicts.specs.Blocks.{Marks, Says, bit_of, conjoined, disjoined, in_addition, nothing, number_in, own, ref_at, said, side_of, told, word_of}
use Rattle.write_conflicts.proofs.BitLemmas.{either_bit, no_bit, no_literal, marks_none, marks_own, marks_same, marks_shared, marks_united}

false_is_not : false ≡ true → ⊥
false_is_not e = cc

module _ (cs : List Defined) where
  -- ---- backwards, by the form of the tree

  not_back : (a : Tree) (s : Bool) (r : Ref) (t : Bool) → Must cs (one Not a) s r t → Must cs a (not s) r t
  not_back a s r t (of_not _ _ _ _ m) = m

  and_plus : (a b : Tree) (r : Ref) (t : Bool) → Must cs (two And a b) true r t → Must cs a true r t ⊎ Must cs b true r t
  and_plus a b r t (of_left_and _ _ _ _ m) = inl m
  and_plus a b r t (of_right_and _ _ _ _ m) = inr m

  and_minus : (a b : Tree) (r : Ref) (t : Bool) → Must cs (two And a b) false r t → Must cs a false r t × Must cs b false r t
  and_minus a b r t (of_both_and _ _ _ _ m n) = (m, n)

  or_plus : (a b : Tree) (r : Ref) (t : Bool) → Must cs (two Or a b) true r t → Must cs a true r t × Must cs b true r t
  or_plus a b r t (of_both_or _ _ _ _ m n) = (m, n)

  or_minus : (a b : Tree) (r : Ref) (t : Bool) → Must cs (two Or a b) false r t → Must cs a false r t ⊎ Must cs b false r t
  or_minus a b r t (of_left_or _ _ _ _ m) = inl m
  or_minus a b r t (of_right_or _ _ _ _ m) = inr m

  -- a cell says itself and what its tree says
  cell_back : (c : ℕ) (s : Bool) (r : Ref) (t : Bool) → Must cs (value (ref.Cell c)) s r t → ((r ≡ ref.Cell c) × (t ≡ s)) ⊎ ((d : Defined) × (slice_get cs c ≡ Some d) × Must cs d.tree s r t)
  cell_back c s r t (of_cell _ _) = inl (refl, refl)
  cell_back c s r t (of_cell_tree _ _ d _ _ e m) = inr (d, e, m)

  input_back : (i : ℕ) (s : Bool) (r : Ref) (t : Bool) → Must cs (value (ref.Input i)) s r t → (r ≡ ref.Input i) × (t ≡ s)
  input_back i s r t (of_input _ _) = (refl, refl)

  register_back : (i : ℕ) (s : Bool) (r : Ref) (t : Bool) → Must cs (value (ref.Reg i)) s r t → (r ≡ ref.Reg i) × (t ≡ s)
  register_back i s r t (of_register _ _) = (refl, refl)

  two_back : (op : TreeTwo) (a b : Tree) (s : Bool) (r : Ref) (t : Bool) → Must cs (two op a b) s r t → (op ≡ And) ⊎ (op ≡ Or)
  two_back op a b s r t (of_left_and _ _ _ _ m) = inl refl
  two_back op a b s r t (of_right_and _ _ _ _ m) = inl refl
  two_back op a b s r t (of_both_and _ _ _ _ m n) = inl refl
  two_back op a b s r t (of_left_or _ _ _ _ m) = inr refl
  two_back op a b s r t (of_right_or _ _ _ _ m) = inr refl
  two_back op a b s r t (of_both_or _ _ _ _ m n) = inr refl

  no_other : (op : TreeTwo) (a b : Tree) → (op ≡ And → ⊥) → (op ≡ Or → ⊥) → (s : Bool) (r : Ref) (t : Bool) → Must cs (two op a b) s r t → ⊥
  no_other op a b f g s r t m = elim (two_back op a b s r t m) [
    | inl e ↦ f e
    | inr e ↦ g e
  ]

  neg_says_nothing : (a : Tree) (s : Bool) (r : Ref) (t : Bool) → Must cs (one Neg a) s r t → ⊥
  neg_says_nothing a s r t m = elim m [ ]

  literal_says_nothing : (z : ℤ) (s : Bool) (r : Ref) (t : Bool) → Must cs (value (ref.Lit z)) s r t → ⊥
  literal_says_nothing z s r t m = elim m [ ]

  ite_says_nothing : (c a b : Tree) (s : Bool) (r : Ref) (t : Bool) → Must cs (ite c a b) s r t → ⊥
  ite_says_nothing c a b s r t m = elim m [ ]

  sel_says_nothing : (i : Tree) (ts : Trees) (s : Bool) (r : Ref) (t : Bool) → Must cs (sel i ts) s r t → ⊥
  sel_says_nothing i ts s r t m = elim m [ ]

  fit_says_nothing : (a : Tree) (low high : ℤ) (s : Bool) (r : Ref) (t : Bool) → Must cs (fit a low high) s r t → ⊥
  fit_says_nothing a low high s r t m = elim m [ ]

  bnot_says_nothing : (a : Tree) (n : ℕ) (s : Bool) (r : Ref) (t : Bool) → Must cs (bnot a n) s r t → ⊥
  bnot_says_nothing a n s r t m = elim m [ ]

  cat_says_nothing : (a b : Tree) (n : ℕ) (s : Bool) (r : Ref) (t : Bool) → Must cs (cat a b n) s r t → ⊥
  cat_says_nothing a b n s r t m = elim m [ ]

  bits_says_nothing : (a : Tree) (high low : ℕ) (s : Bool) (r : Ref) (t : Bool) → Must cs (bits a high low) s r t → ⊥
  bits_says_nothing a high low s r t m = elim m [ ]

  module _ (b : Block) where
    -- the words say a property of both signs and of references
    abbrev Words : Both → (Bool → Bool → Ref → Type 0) → Type 0
    Words v P = (s t : Bool) → Marks (word_of (side_of v s) t) b (P s t)

    words_added : (v w : Both) (P Q R : Bool → Bool → Ref → Type 0) → Words v P → Words w Q → ((s t : Bool) (x : Ref) → R s t x ↔ (P s t x ⊎ Q s t x)) → Words (in_addition v w) R
    words_added v w P Q R p q r true true = marks_united b v.plus.yes w.plus.yes (P true true) (Q true true) (R true true) (p true true) (q true true) (r true true)
    words_added v w P Q R p q r true false = marks_united b v.plus.no w.plus.no (P true false) (Q true false) (R true false) (p true false) (q true false) (r true false)
    words_added v w P Q R p q r false true = marks_united b v.minus.yes w.minus.yes (P false true) (Q false true) (R false true) (p false true) (q false true) (r false true)
    words_added v w P Q R p q r false false = marks_united b v.minus.no w.minus.no (P false false) (Q false false) (R false false) (p false false) (q false false) (r false false)

    pub nothing_says : (t : Tree) → ((s : Bool) (r : Ref) (u : Bool) → Must cs t s r u → ⊥) → Says cs b t nothing
    nothing_says t f true true = marks_none b (λ x. Must cs t true x true) (λ x m. f true x true m)
    nothing_says t f true false = marks_none b (λ x. Must cs t true x false) (λ x m. f true x false m)
    nothing_says t f false true = marks_none b (λ x. Must cs t false x true) (λ x m. f false x true m)
    nothing_says t f false false = marks_none b (λ x. Must cs t false x false) (λ x m. f false x false m)

    not_says : (a : Tree) (v : Both) → Says cs b a v → Says cs b (one Not a) (record { plus = v.minus; minus = v.plus })
    not_says a v p true t = marks_same b (word_of v.minus t) (λ x. Must cs a false x t) (λ x. Must cs (one Not a) true x t) (p false t) (λ x. (not_back a true x t, of_not a true x t))
    not_says a v p false t = marks_same b (word_of v.plus t) (λ x. Must cs a true x t) (λ x. Must cs (one Not a) false x t) (p true t) (λ x. (not_back a false x t, of_not a false x t))

    both_plus : (a c : Tree) (t : Bool) (x : Ref) → Must cs (two And a c) true x t ↔ (Must cs a true x t ⊎ Must cs c true x t)
    both_plus a c t x = (
      and_plus a c x t,
      λ m. elim m [
        | inl n ↦ of_left_and a c x t n
        | inr n ↦ of_right_and a c x t n
      ],
    )

    both_minus : (a c : Tree) (t : Bool) (x : Ref) → Must cs (two And a c) false x t ↔ (Must cs a false x t × Must cs c false x t)
    both_minus a c t x = (and_minus a c x t, λ m. of_both_and a c x t m.0 m.1)

    one_plus : (a c : Tree) (t : Bool) (x : Ref) → Must cs (two Or a c) true x t ↔ (Must cs a true x t × Must cs c true x t)
    one_plus a c t x = (or_plus a c x t, λ m. of_both_or a c x t m.0 m.1)

    one_minus : (a c : Tree) (t : Bool) (x : Ref) → Must cs (two Or a c) false x t ↔ (Must cs a false x t ⊎ Must cs c false x t)
    one_minus a c t x = (
      or_minus a c x t,
      λ m. elim m [
        | inl n ↦ of_left_or a c x t n
        | inr n ↦ of_right_or a c x t n
      ],
    )

    and_says : (a c : Tree) (v w : Both) → Says cs b a v → Says cs b c w → Says cs b (two And a c) (conjoined v w)
    and_says a c v w p q true true = marks_united b v.plus.yes w.plus.yes (λ x. Must cs a true x true) (λ x. Must cs c true x true) (λ x. Must cs (two And a c) true x true) (p true true) (q true true) (both_plus a c true)
    and_says a c v w p q true false = marks_united b v.plus.no w.plus.no (λ x. Must cs a true x false) (λ x. Must cs c true x false) (λ x. Must cs (two And a c) true x false) (p true false) (q true false) (both_plus a c false)
    and_says a c v w p q false true = marks_shared b v.minus.yes w.minus.yes (λ x. Must cs a false x true) (λ x. Must cs c false x true) (λ x. Must cs (two And a c) false x true) (p false true) (q false true) (both_minus a c true)
    and_says a c v w p q false false = marks_shared b v.minus.no w.minus.no (λ x. Must cs a false x false) (λ x. Must cs c false x false) (λ x. Must cs (two And a c) false x false) (p false false) (q false false) (both_minus a c false)

    or_says : (a c : Tree) (v w : Both) → Says cs b a v → Says cs b c w → Says cs b (two Or a c) (disjoined v w)
    or_says a c v w p q true true = marks_shared b v.plus.yes w.plus.yes (λ x. Must cs a true x true) (λ x. Must cs c true x true) (λ x. Must cs (two Or a c) true x true) (p true true) (q true true) (one_plus a c true)
    or_says a c v w p q true false = marks_shared b v.plus.no w.plus.no (λ x. Must cs a true x false) (λ x. Must cs c true x false) (λ x. Must cs (two Or a c) true x false) (p true false) (q true false) (one_plus a c false)
    or_says a c v w p q false true = marks_united b v.minus.yes w.minus.yes (λ x. Must cs a false x true) (λ x. Must cs c false x true) (λ x. Must cs (two Or a c) false x true) (p false true) (q false true) (one_minus a c true)
    or_says a c v w p q false false = marks_united b v.minus.no w.minus.no (λ x. Must cs a false x false) (λ x. Must cs c false x false) (λ x. Must cs (two Or a c) false x false) (p false false) (q false false) (one_minus a c false)

    -- ---- what a reference says

    own_words : (r : Ref) → Words (own b r) (λ s t x. (x ≡ r) × (t ≡ s))
    own_words r true true = marks_same b (bit_of b (number_in b.group r)) (λ x. x ≡ r) (λ x. (x ≡ r) × (true ≡ true)) (marks_own b r) (λ x. (λ e. e.0, λ e. (e, refl)))
    own_words r true false = marks_none b (λ x. (x ≡ r) × (false ≡ true)) (λ x e. false_is_not e.1)
    own_words r false true = marks_none b (λ x. (x ≡ r) × (true ≡ false)) (λ x e. false_is_not (sym e.1))
    own_words r false false = marks_same b (bit_of b (number_in b.group r)) (λ x. x ≡ r) (λ x. (x ≡ r) × (false ≡ false)) (marks_own b r) (λ x. (λ e. e.0, λ e. (e, refl)))

    nought_words : Words nothing (λ s t x. ⊥)
    nought_words true true = marks_none b (λ x. ⊥) (λ x e. e)
    nought_words true false = marks_none b (λ x. ⊥) (λ x e. e)
    nought_words false true = marks_none b (λ x. ⊥) (λ x e. e)
    nought_words false false = marks_none b (λ x. ⊥) (λ x e. e)

    literal_word : (z : ℤ) (R : Ref → Type 0) → ((x : Ref) → R x → ⊥) → Marks (bit_or (bit_of b (number_in b.group (ref.Lit z))) 0) b R
    literal_word z R f k l = (λ e. absurd (at (either_bit (bit_of b (number_in b.group (ref.Lit z))) 0 k e)), λ m. absurd (f (ref_at b k) m))
      where
        at : (bit_at (bit_of b (number_in b.group (ref.Lit z))) k ≡ 1) ⊎ (bit_at 0 k ≡ 1) → ⊥
        at (inl e) = no_literal b.group (64 * b.at + k) z ((marks_own b (ref.Lit z) k l).0 e)
        at (inr e) = no_bit k e

    literal_says : (τ : List Both) (z : ℤ) → Says cs b (value (ref.Lit z)) (in_addition (own b (ref.Lit z)) (told τ (ref.Lit z)))
    literal_says τ z true true = literal_word z (λ x. Must cs (value (ref.Lit z)) true x true) (λ x. literal_says_nothing z true x true)
    literal_says τ z true false = marks_united b 0 0 (λ x. ⊥) (λ x. ⊥) (λ x. Must cs (value (ref.Lit z)) true x false) (nought_words true true) (nought_words true true) (λ x. (λ m. absurd (literal_says_nothing z true x false m), ⊎_elim (λ e. absurd e) (λ e. absurd e)))
    literal_says τ z false true = marks_united b 0 0 (λ x. ⊥) (λ x. ⊥) (λ x. Must cs (value (ref.Lit z)) false x true) (nought_words true true) (nought_words true true) (λ x. (λ m. absurd (literal_says_nothing z false x true m), ⊎_elim (λ e. absurd e) (λ e. absurd e)))
    literal_says τ z false false = literal_word z (λ x. Must cs (value (ref.Lit z)) false x false) (λ x. literal_says_nothing z false x false)

    -- a reference that isn't a cell says itself alone
    alone_says : (r : Ref) → ((s t : Bool) (x : Ref) → Must cs (value r) s x t ↔ ((x ≡ r) × (t ≡ s))) → Says cs b (value r) (in_addition (own b r) nothing)
    alone_says r f = words_added (own b r) nothing (λ s t x. (x ≡ r) × (t ≡ s)) (λ s t x. ⊥) (λ s t x. Must cs (value r) s x t) (own_words r) nought_words
        (λ s t x. (λ m. inl ((f s t x).0 m), ⊎_elim (λ e. (f s t x).1 e) (λ e. absurd e)))

    -- what a cell's tree says
    abbrev TreeSays : (c : ℕ) → Bool → Bool → Ref → Type 0
    TreeSays c s t x = (d : Defined) × (slice_get cs c ≡ Some d) × Must cs d.tree s x t

    -- the row of a cell has what its tree says, and nothing where there is no such cell
    abbrev pub IsRow : (τ : List Both) (c : ℕ) → Type 0
    IsRow τ c = Words (slice_index_or τ c nothing) (TreeSays c)

    pub row_of_tree : (τ : List Both) (c : ℕ) (d : Defined) → slice_get cs c ≡ Some d → Says cs b d.tree (slice_index_or τ c nothing) → IsRow τ c
    row_of_tree τ c d e p s t = marks_same b (word_of (side_of (slice_index_or τ c nothing) s) t) (λ x. Must cs d.tree s x t) (TreeSays c s t) (p s t)
        (λ x. (λ m. subst (λ (f : Defined). Must cs f.tree s x t) (same m.0 (sym m.1 ∙ e)) m.2, λ m. (d, e, m)))
      where
        same : (f : Defined) → Some f ≡ Some d → f ≡ d
        same f q = cc

    pub row_of_none : (τ : List Both) (c : ℕ) → slice_get cs c ≡ None → slice_index_or τ c nothing ≡ nothing → IsRow τ c
    row_of_none τ c e f s t = subst (λ (v : Both). Marks (word_of (side_of v s) t) b (TreeSays c s t)) (sym f)
        (marks_same b (word_of (side_of nothing s) t) (λ x. ⊥) (TreeSays c s t) (nought_words s t) (λ x. (λ m. wrong m.0 (sym m.1 ∙ e), λ m. absurd m)))
      where
        wrong : (d : Defined) → Some d ≡ None → ⊥
        wrong d q = cc

    cell_says : (τ : List Both) (c : ℕ) → IsRow τ c → Says cs b (value (ref.Cell c)) (in_addition (own b (ref.Cell c)) (slice_index_or τ c nothing))
    cell_says τ c p = words_added (own b (ref.Cell c)) (slice_index_or τ c nothing) (λ s t x. (x ≡ ref.Cell c) × (t ≡ s)) (TreeSays c) (λ s t x. Must cs (value (ref.Cell c)) s x t) (own_words (ref.Cell c)) p
        (λ s t x. (cell_back c s x t, ⊎_elim (own_cell s t x) (λ m. of_cell_tree c s m.0 x t m.1 m.2)))
      where
        own_cell : (s t : Bool) (x : Ref) → (x ≡ ref.Cell c) × (t ≡ s) → Must cs (value (ref.Cell c)) s x t
        own_cell s t x e = subst (λ (y : Ref). Must cs (value (ref.Cell c)) s y t) (sym e.0) (subst (λ (u : Bool). Must cs (value (ref.Cell c)) s (ref.Cell c) u) (sym e.1) (of_cell c s))

    pub value_says : (τ : List Both) (r : Ref) → ((c : ℕ) → r ≡ ref.Cell c → IsRow τ c) → Says cs b (value r) (in_addition (own b r) (told τ r))
    value_says τ (ref.Lit z) f = literal_says τ z
    value_says τ (ref.Input i) f = alone_says (ref.Input i) (λ s t x. (input_back i s x t, at s t x))
      where
        at : (s t : Bool) (x : Ref) → (x ≡ ref.Input i) × (t ≡ s) → Must cs (value (ref.Input i)) s x t
        at s t x e = subst (λ (y : Ref). Must cs (value (ref.Input i)) s y t) (sym e.0) (subst (λ (u : Bool). Must cs (value (ref.Input i)) s (ref.Input i) u) (sym e.1) (of_input i s))
    value_says τ (ref.Reg i) f = alone_says (ref.Reg i) (λ s t x. (register_back i s x t, at s t x))
      where
        at : (s t : Bool) (x : Ref) → (x ≡ ref.Reg i) × (t ≡ s) → Must cs (value (ref.Reg i)) s x t
        at s t x e = subst (λ (y : Ref). Must cs (value (ref.Reg i)) s y t) (sym e.0) (subst (λ (u : Bool). Must cs (value (ref.Reg i)) s (ref.Reg i) u) (sym e.1) (of_register i s))
    value_says τ (ref.Cell c) f = cell_says τ c (f c refl)

    -- ---- what a tree says, by the rows of the cells that it names

    pub said_says : (τ : List Both) (t : Tree) → ((c : ℕ) → Contains (cells_in t) c → IsRow τ c) → Says cs b t (said b τ t)
    said_says τ (value r) f = value_says τ r (named r f)
      where
        named : (r : Ref) → ((c : ℕ) → Contains (cells_in (value r)) c → IsRow τ c) → (c : ℕ) → r ≡ ref.Cell c → IsRow τ c
        named (ref.Lit z) g c e = absurd (cc)
        named (ref.Input i) g c e = absurd (cc)
        named (ref.Reg i) g c e = absurd (cc)
        named (ref.Cell d) g c e = g c (0, omega arith, cc)
    said_says τ (one Not a) f = not_says a (said b τ a) (said_says τ a f)
    said_says τ (one Neg a) f = nothing_says (one Neg a) (neg_says_nothing a)
    said_says τ (two And a c) f = and_says a c (said b τ a) (said b τ c) (said_says τ a (λ k m. f k (Contains-append_left (cells_in a) (cells_in c) k m))) (said_says τ c (λ k m. f k (Contains-append_right (cells_in a) (cells_in c) k m)))
    said_says τ (two Or a c) f = or_says a c (said b τ a) (said b τ c) (said_says τ a (λ k m. f k (Contains-append_left (cells_in a) (cells_in c) k m))) (said_says τ c (λ k m. f k (Contains-append_right (cells_in a) (cells_in c) k m)))
    said_says τ (two two_op.Xor a c) f = nothing_says (two two_op.Xor a c) (no_other two_op.Xor a c (λ e. cc) (λ e. cc))
    said_says τ (two two_op.Eq a c) f = nothing_says (two two_op.Eq a c) (no_other two_op.Eq a c (λ e. cc) (λ e. cc))
    said_says τ (two two_op.Ne a c) f = nothing_says (two two_op.Ne a c) (no_other two_op.Ne a c (λ e. cc) (λ e. cc))
    said_says τ (two two_op.Lt a c) f = nothing_says (two two_op.Lt a c) (no_other two_op.Lt a c (λ e. cc) (λ e. cc))
    said_says τ (two two_op.Le a c) f = nothing_says (two two_op.Le a c) (no_other two_op.Le a c (λ e. cc) (λ e. cc))
    said_says τ (two two_op.Gt a c) f = nothing_says (two two_op.Gt a c) (no_other two_op.Gt a c (λ e. cc) (λ e. cc))
    said_says τ (two two_op.Ge a c) f = nothing_says (two two_op.Ge a c) (no_other two_op.Ge a c (λ e. cc) (λ e. cc))
    said_says τ (two two_op.Add a c) f = nothing_says (two two_op.Add a c) (no_other two_op.Add a c (λ e. cc) (λ e. cc))
    said_says τ (two two_op.Sub a c) f = nothing_says (two two_op.Sub a c) (no_other two_op.Sub a c (λ e. cc) (λ e. cc))
    said_says τ (two two_op.Mul a c) f = nothing_says (two two_op.Mul a c) (no_other two_op.Mul a c (λ e. cc) (λ e. cc))
    said_says τ (two two_op.Div a c) f = nothing_says (two two_op.Div a c) (no_other two_op.Div a c (λ e. cc) (λ e. cc))
    said_says τ (two two_op.Rem a c) f = nothing_says (two two_op.Rem a c) (no_other two_op.Rem a c (λ e. cc) (λ e. cc))
    said_says τ (two two_op.Band a c) f = nothing_says (two two_op.Band a c) (no_other two_op.Band a c (λ e. cc) (λ e. cc))
    said_says τ (two two_op.Bor a c) f = nothing_says (two two_op.Bor a c) (no_other two_op.Bor a c (λ e. cc) (λ e. cc))
    said_says τ (two two_op.Bxor a c) f = nothing_says (two two_op.Bxor a c) (no_other two_op.Bxor a c (λ e. cc) (λ e. cc))
    said_says τ (ite c a d) f = nothing_says (ite c a d) (ite_says_nothing c a d)
    said_says τ (sel i ts) f = nothing_says (sel i ts) (sel_says_nothing i ts)
    said_says τ (fit a low high) f = nothing_says (fit a low high) (fit_says_nothing a low high)
    said_says τ (bnot a n) f = nothing_says (bnot a n) (bnot_says_nothing a n)
    said_says τ (cat a c n) f = nothing_says (cat a c n) (cat_says_nothing a c n)
    said_says τ (bits a high low) f = nothing_says (bits a high low) (bits_says_nothing a high low)
