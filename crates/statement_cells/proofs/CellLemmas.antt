-- What the helpers of the builder give.
use Rattle.std.proofs.Common.{◌≡◌, ℕ, zero, suc, ◌+◌, ◌<◌, ◌&&◌, ◌||◌, not, Bool, true, false, [], ◌∷◌, ◌++◌, length, Option, Some, None, ℤ, pos, negsuc, refl, sym, ap, ◌∙◌, subst, arith}
use Rattle.std.specs.Prelude.{slice_get}
use Rattle.quartz_expr.specs.Values.{of_bool, is_zero}
use Rattle.quartz_expr.specs.Vars.{Vars}
use Rattle.aif_cells.specs.declared.reference.Ref.{Ref}
use Rattle.aif_cells.specs.declared.reference.Ref.TheVariants as ref
use Rattle.aif_cells.specs.declared.tree.TreeOne.TheVariants as tree_one
use Rattle.aif_cells.specs.declared.tree.TreeTwo.TheVariants as tree_two
use Rattle.aif_cells.specs.Tree.{Tree, value, one, two, ite, sel, fit, bnot, cat, bits}
use Rattle.aif_cells.specs.Worth.{Assignment, read, truth, worth, holds}
use Rattle.aif_cells.specs.Built.{Defined, reference_in}
use Rattle.aif_cells.proofs.WorthLemmas.{holds_of_bool}
use Rattle.absence_reaction.specs.Meaning.{is_among}
use Rattle.absence_reaction.proofs.ElementMeaning.{last_there}
use Rattle.statement_cells.specs.Builder.{Builder, Made, given, new, not_of, and_of, or_of, in_of, cell_of, given_or_new, pick, Short, first, second, both, short_and, short_or, labels_tree, zero_ref, one_ref, nowhere}
use Rattle.statement_cells.specs.Stands.{some}
use Rattle.statement_cells.specs.Walk.{AllInRange, Good, InactiveAreMet, IsBuilt, cells_of, now, trail, Settles}
use Rattle.statement_cells.proofs.BoolLemmas.{and_false, and_true, or_false, or_true}
use Rattle.statement_cells.proofs.GrowLemmas.{get_front}

is_not_there : (b : Bool) → (b ≡ true → ⊥) → b ≡ false
is_not_there true h = absurd (h refl)
is_not_there false h = refl

module _ (vs : Vars) (σ : Assignment) where
  -- a new cell has the value of its tree, and the cells before it are as good as before
  pub record Behind (β : Builder) (t : Tree) : Type 0 where
    pub good : Good vs σ β
    pub value : σ.cells (length β.cells) ≡ worth σ t

  pub behind : (β γ : Builder) (d : Defined) → γ.cells ≡ β.cells ++ d ∷ [] → γ.reserved ≡ β.reserved → γ.scopes ≡ β.scopes → IsBuilt vs β → Good vs σ γ → Behind β d.tree
  behind β γ d e f g w h =
      let free : (k : ℕ) → is_among k (cells_of γ.reserved) ≡ is_among k (cells_of β.reserved) = λ k. ap (λ r. is_among k (cells_of r)) f in
      let fresh : is_among (length β.cells) (cells_of β.reserved) ≡ false = is_not_there _ (λ there. too_great (w.cells (length β.cells) there)) in
      record {
        good = record {
          met = λ k c is bound. h.met k c (subst (λ cs. slice_get cs k ≡ Some c) (sym e) (get_front β.cells (d ∷ []) k c is)) (free k ∙ bound);
          ranges = subst (λ r. AllInRange vs σ r) f h.ranges;
          inactive = subst (λ s. InactiveAreMet σ s) g h.inactive;
        };
        value = h.met (length β.cells) d (subst (λ cs. slice_get cs (length β.cells) ≡ Some d) (sym e) (last_there β.cells d)) (free (length β.cells) ∙ fresh);
      }
    where
      too_great : length β.cells < length β.cells → ⊥
      too_great h = omega (arith, h)

  -- a helper's reference has this truth value; nothing else is said
  pub record Plain (β : Builder) (m : Made) (b : Bool) : Type 0 where
    pub good : Good vs σ β
    pub ref : truth σ m.ref ≡ b
    pub quiet : trail vs σ m.built ≡ trail vs σ β
    pub settled : Settles vs σ β m.built

  pub new_done : (t : Tree) (β : Builder) (b : Bool) → holds (worth σ t) ≡ b → IsBuilt vs β → Good vs σ (new t β).built → Plain β (new t β) b
  unfolding new trail
  new_done t β b e w h =
      let m = behind β (new t β).built (record { tree = t; place = nowhere }) refl refl refl w h in
      record { good = m.good; ref = ap holds m.value ∙ e; quiet = refl; settled = λ q. q }

  -- a literal, or what it leaves
  same_done : (r : Ref) (β : Builder) (b : Bool) → truth σ r ≡ b → Good vs σ β → Plain β (given r β) b
  same_done r β b e h = record { good = h; ref = e; quiet = refl; settled = λ q. q }

  pub not_done : (a : Ref) (β : Builder) → IsBuilt vs β → Good vs σ (not_of a β).built → Plain β (not_of a β) (not (truth σ a))
  unfolding not_of
  not_done (ref.Lit (pos zero)) β w h = same_done one_ref β true refl h
  not_done (ref.Lit (pos (suc n))) β w h = same_done zero_ref β false refl h
  not_done (ref.Lit (negsuc n)) β w h = same_done zero_ref β false refl h
  not_done a β w h = new_done (one tree_one.Not (value a)) β (not (truth σ a)) (negated (read σ a)) w h
    where
      negated : (z : ℤ) → holds (of_bool (is_zero z)) ≡ not (holds z)
      negated (pos zero) = refl
      negated (pos (suc n)) = refl
      negated (negsuc n) = refl

  abbrev pub pick_truth : Short → (a b c : Bool) → Bool
  pick_truth first a b c = a
  pick_truth second a b c = b
  pick_truth both a b c = c

  pick_done : (s : Short) (t : Tree) (a b : Ref) (β : Builder) (v : Bool) → holds (worth σ t) ≡ v → pick_truth s (truth σ a) (truth σ b) v ≡ v → IsBuilt vs β → Good vs σ (pick s t a b β).built → Plain β (pick s t a b β) v
  pick_done first t a b β v e f w h = same_done a β v f h
  pick_done second t a b β v e f w h = same_done b β v f h
  pick_done both t a b β v e f w h = new_done t β v e w h

  pub and_short : (a b : Ref) → pick_truth (short_and a b) (truth σ a) (truth σ b) (truth σ a && truth σ b) ≡ (truth σ a && truth σ b)
  and_short (ref.Lit (pos zero)) b = refl
  and_short (ref.Lit (pos (suc n))) (ref.Lit (pos zero)) = refl
  and_short (ref.Lit (negsuc n)) (ref.Lit (pos zero)) = refl
  and_short (ref.Lit (pos (suc n))) b = refl
  and_short (ref.Lit (negsuc n)) b = refl
  and_short a (ref.Lit (pos zero)) = sym (and_false (truth σ a))
  and_short a (ref.Lit (pos (suc n))) = sym (and_true (truth σ a))
  and_short a (ref.Lit (negsuc n)) = sym (and_true (truth σ a))
  and_short a b = refl

  or_short : (a b : Ref) → pick_truth (short_or a b) (truth σ a) (truth σ b) (truth σ a || truth σ b) ≡ (truth σ a || truth σ b)
  or_short (ref.Lit (pos zero)) b = refl
  or_short (ref.Lit (pos (suc n))) (ref.Lit (pos zero)) = refl
  or_short (ref.Lit (negsuc n)) (ref.Lit (pos zero)) = refl
  or_short (ref.Lit (pos (suc n))) b = refl
  or_short (ref.Lit (negsuc n)) b = refl
  or_short a (ref.Lit (pos zero)) = sym (or_false (truth σ a))
  or_short a (ref.Lit (pos (suc n))) = sym (or_true (truth σ a))
  or_short a (ref.Lit (negsuc n)) = sym (or_true (truth σ a))
  or_short a b = refl

  pub and_done : (a b : Ref) (β : Builder) → IsBuilt vs β → Good vs σ (and_of a b β).built → Plain β (and_of a b β) (truth σ a && truth σ b)
  unfolding and_of
  and_done a b β w h = pick_done (short_and a b) (two tree_two.And (value a) (value b)) a b β (truth σ a && truth σ b) (holds_of_bool (truth σ a && truth σ b)) (and_short a b) w h

  pub or_done : (a b : Ref) (β : Builder) → IsBuilt vs β → Good vs σ (or_of a b β).built → Plain β (or_of a b β) (truth σ a || truth σ b)
  unfolding or_of
  or_done a b β w h = pick_done (short_or a b) (two tree_two.Or (value a) (value b)) a b β (truth σ a || truth σ b) (holds_of_bool (truth σ a || truth σ b)) (or_short a b) w h

  labels_tree_is : (l n : ℕ) → holds (worth σ (labels_tree l n)) ≡ some (now σ) l (suc n)
  unfolding some
  labels_tree_is l zero = sym (or_false (truth σ (ref.Reg l)))
  labels_tree_is l (suc n) = holds_of_bool (truth σ (ref.Reg l) || holds (worth σ (labels_tree (l + 1) n))) ∙ ap (λ b. truth σ (ref.Reg l) || b) (labels_tree_is (l + 1) n)

  pub in_done : (l n : ℕ) (β : Builder) → IsBuilt vs β → Good vs σ (in_of l n β).built → Plain β (in_of l n β) (some (now σ) l n)
  unfolding in_of some
  in_done l zero β w h = same_done zero_ref β false refl h
  in_done l (suc zero) β w h = same_done (ref.Reg l) β (truth σ (ref.Reg l) || false) (sym (or_false (truth σ (ref.Reg l)))) h
  in_done l (suc (suc n)) β w h = new_done (labels_tree l (suc n)) β (some (now σ) l (suc (suc n))) (labels_tree_is l (suc n)) w h

  -- a cell of a tree has its value
  pub record Valued (β : Builder) (m : Made) (z : ℤ) : Type 0 where
    pub good : Good vs σ β
    pub value : read σ m.ref ≡ z
    pub quiet : trail vs σ m.built ≡ trail vs σ β
    pub settled : Settles vs σ β m.built

  reference_value : (t : Tree) (r : Ref) → reference_in t ≡ Some r → read σ r ≡ worth σ t
  reference_value (value q) r e = ap (read σ) (sym (same e))
    where
      same : {a b : Ref} → Some a ≡ Some b → a ≡ b
      same p = cc
  reference_value (one op a) r e = absurd (cc)
  reference_value (two op a b) r e = absurd (cc)
  reference_value (ite c a b) r e = absurd (cc)
  reference_value (sel i ts) r e = absurd (cc)
  reference_value (fit a low high) r e = absurd (cc)
  reference_value (bnot a n) r e = absurd (cc)
  reference_value (cat a b n) r e = absurd (cc)
  reference_value (bits a high low) r e = absurd (cc)

  given_or_new_done : (o : Option Ref) (t : Tree) (β : Builder) → reference_in t ≡ o → IsBuilt vs β → Good vs σ (given_or_new o t β).built → Valued β (given_or_new o t β) (worth σ t)
  unfolding new trail
  given_or_new_done (Some r) t β e w h = record { good = h; value = reference_value t r e; quiet = refl; settled = λ q. q }
  given_or_new_done None t β e w h =
      let m = behind β (new t β).built (record { tree = t; place = nowhere }) refl refl refl w h in
      record { good = m.good; value = m.value; quiet = refl; settled = λ q. q }

  pub cell_done : (t : Tree) (β : Builder) → IsBuilt vs β → Good vs σ (cell_of t β).built → Valued β (cell_of t β) (worth σ t)
  unfolding cell_of
  cell_done t β w h = given_or_new_done (reference_in t) t β refl w h
