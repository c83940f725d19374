-- The value of a tree depends on the cells that it names alone.
use Rattle.std.proofs.Common.{◌≡◌, ◌∙◌, ℕ, zero, suc, ◌==◌, ◌||◌, ℤ, Bool, true, false, List, [], ◌∷◌, ◌++◌, Contains, refl, sym, ap, ap₂, arith}
use Rattle.std.specs.Prelude.{if◌then◌else◌}
use Rattle.std.proofs.lemmas.Bool.Decides.{nat_tests}
use Rattle.std.proofs.lemmas.List.Elements.{Contains-append_left, Contains-append_right}
use Rattle.quartz_expr.specs.Values.{element_at}
use Rattle.aif_cells.specs.declared.reference.Ref.{Ref}
use Rattle.aif_cells.specs.declared.reference.Ref.TheVariants as ref
use Rattle.aif_cells.specs.Tree.{Tree, value, one, two, ite, sel, fit, bnot, cat, bits, Trees, none, item}
use Rattle.aif_cells.specs.Worth.{Assignment, read, holds, apply_one, apply_two, fitted, flipped, stacked, bits_between, worth, worths}
use Rattle.aif_cells.specs.Dependences.{cells_in, cells_in_all, cells_named}
use Rattle.absence_reaction.specs.Meaning.{is_among}

module _ (σ : Assignment) (g : ℕ → ℤ) where
  -- the same inputs and registers, and other cells
  abbrev pub with_cells : Assignment
  with_cells = record σ { cells = g }

  -- the two have the same cells of the list
  abbrev pub AgreeOn : List ℕ → Type 0
  AgreeOn ks = (d : ℕ) → Contains ks d → σ.cells d ≡ g d

  read_agrees : (r : Ref) → AgreeOn (cells_named r) → read σ r ≡ read with_cells r
  read_agrees (ref.Lit z) h = refl
  read_agrees (ref.Input i) h = refl
  read_agrees (ref.Reg i) h = refl
  read_agrees (ref.Cell c) h = h c (0, omega arith, refl)

  first : (a b : List ℕ) → AgreeOn (a ++ b) → AgreeOn a
  first a b h d c = h d (Contains-append_left a b d c)

  second : (a b : List ℕ) → AgreeOn (a ++ b) → AgreeOn b
  second a b h d c = h d (Contains-append_right a b d c)

  mutual
    pub worth_agrees : (t : Tree) → AgreeOn (cells_in t) → worth σ t ≡ worth with_cells t
    worth_agrees (value r) h = read_agrees r h
    worth_agrees (one op a) h = ap (apply_one op) (worth_agrees a h)
    worth_agrees (two op a b) h = ap₂ (apply_two op) (worth_agrees a (first (cells_in a) (cells_in b) h)) (worth_agrees b (second (cells_in a) (cells_in b) h))
    worth_agrees (ite c a b) h =
        let more : AgreeOn (cells_in a ++ cells_in b) = second (cells_in c) (cells_in a ++ cells_in b) h in
        ap (λ z. if holds z then worth σ a else worth σ b) (worth_agrees c (first (cells_in c) (cells_in a ++ cells_in b) h))
        ∙ ap₂ (λ x y. if holds (worth with_cells c) then x else y) (worth_agrees a (first (cells_in a) (cells_in b) more)) (worth_agrees b (second (cells_in a) (cells_in b) more))
    worth_agrees (sel i ts) h = ap₂ element_at (worths_agree ts (second (cells_in i) (cells_in_all ts) h)) (worth_agrees i (first (cells_in i) (cells_in_all ts) h))
    worth_agrees (fit a low high) h = ap (fitted low high) (worth_agrees a h)
    worth_agrees (bnot a n) h = ap (flipped n) (worth_agrees a h)
    worth_agrees (cat a b n) h = ap₂ (stacked n) (worth_agrees a (first (cells_in a) (cells_in b) h)) (worth_agrees b (second (cells_in a) (cells_in b) h))
    worth_agrees (bits a high low) h = ap (bits_between high low) (worth_agrees a h)

    pub worths_agree : (ts : Trees) → AgreeOn (cells_in_all ts) → worths σ ts ≡ worths with_cells ts
    worths_agree none h = refl
    worths_agree (item t ts) h = ap₂ (λ z l. z ∷ l) (worth_agrees t (first (cells_in t) (cells_in_all ts) h)) (worths_agree ts (second (cells_in t) (cells_in_all ts) h))

-- ---- numbers of a list

pub among_contained : (xs : List ℕ) (d : ℕ) → Contains xs d → is_among d xs ≡ true
among_contained [] d (k, l, e) = absurd (omega (arith, l))
among_contained (x ∷ xs) d (zero, l, e) = ap (λ b. b || is_among d xs) (same (sym e))
  where
    same : d ≡ x → (d == x) ≡ true
    same e = grind (arith, nat_tests, e)
among_contained (x ∷ xs) d (suc k, l, e) = at (d == x) (among_contained xs d (k, omega (arith, l), e))
  where
    at : (b : Bool) → is_among d xs ≡ true → (b || is_among d xs) ≡ true
    at true h = refl
    at false h = h
