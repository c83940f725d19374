-- What the registers of labels take: a label is 1 next where it is entered or stays.
use Rattle.std.proofs.Common.{◌≡◌, ◌⊎◌, inl, inr, ℕ, zero, suc, ◌+◌, ◌≤◌, ◌<◌, ◌==◌, ◌&&◌, ◌||◌, ℤ, pos, Bool, true, false, List, [], ◌∷◌, ◌++◌, length, map, refl, sym, ap, ap₂, ◌∙◌, subst, arith}
use Rattle.std.proofs.lemmas.Bool.Decides.{nat_tests}
use Rattle.std.specs.Prelude.{is_some, slice_get, if◌then◌else◌}
use Rattle.quartz_expr.specs.Resolve.{first_of_all}
use Rattle.quartz_expr.specs.Vars.{Vars}
use Rattle.aif_cells.specs.declared.reference.Ref.{Ref}
use Rattle.aif_cells.specs.declared.reference.Ref.TheVariants as ref
use Rattle.aif_cells.specs.declared.cells.Register.{Register}
use Rattle.aif_cells.specs.declared.tree.TreeTwo.TheVariants as tree_two
use Rattle.aif_cells.specs.Tree.{Tree, two, value}
use Rattle.aif_cells.specs.Built.{Defined, join}
use Rattle.aif_cells.specs.Solution.{IsSolution}
use Rattle.aif_cells.specs.Worth.{Assignment, holds, read, truth, worth}
use Rattle.aif_cells.proofs.WorthLemmas.{holds_of_bool}
use Rattle.absence_reaction.proofs.ElementMeaning.{flag_is, last_there}
use Rattle.absence_reaction.proofs.WriteLemmas.{acting}
use Rattle.reincarnation.specs.Carrying.{with_next}
use Rattle.statement_cells.specs.Builder.{Builder, Entry, Short, first, second, both, and_of, new, nowhere, pick, short_and, zero_ref}
use Rattle.statement_cells.specs.Walk.{marked, next_marks, now}
use Rattle.statement_cells.specs.Whole.{label_taken, labels_taken, refs_for, staying}
use Rattle.statement_cells.specs.Meaning.{next_of}
use Rattle.statement_cells.proofs.BoolLemmas.{and_false, or_assoc}
use Rattle.statement_cells.proofs.CellLemmas.{and_short, pick_truth}
use Rattle.statement_cells.proofs.WholeLemmas.{Kept, join_kept, label_only, labels_only, staying_only}
use Rattle.reincarnation.proofs.MeaningLemmas.{with_other}

-- ---- registers

pub length_with : (rs : List Register) (r : ℕ) (n : Ref) → length (with_next rs r n) ≡ length rs
length_with [] r n = refl
length_with (x ∷ rs) zero n = refl
length_with (x ∷ rs) (suc r) n = ap suc (length_with rs r n)

pub labels_others : (n l : ℕ) (rs : List Register) (β : Builder) (q : ℕ) → (q < l) ⊎ (l + n ≤ q) → slice_get (labels_taken l n rs β).0 q ≡ slice_get rs q
labels_others zero l rs β q h = refl
labels_others (suc n) l rs β q h =
    labels_others n (l + 1) (label_taken l rs β).0 (label_taken l rs β).1 q (elim h [ inl a ↦ inl (omega (arith, a)) | inr b ↦ inr (omega (arith, b)) ])
    ∙ with_other rs l _ q (elim h [ inl a ↦ inl a | inr b ↦ inr (omega (arith, b)) ])

-- ---- one of several references holds

abbrev pub any : Assignment → List Ref → Bool
any σ [] = false
any σ (r ∷ rs) = truth σ r || any σ rs

any_both : (σ : Assignment) (rs qs : List Ref) → any σ (rs ++ qs) ≡ (any σ rs || any σ qs)
any_both σ [] qs = refl
any_both σ (r ∷ rs) qs = ap (λ b. truth σ r || b) (any_both σ rs qs) ∙ sym (or_assoc (truth σ r) (any σ rs) (any σ qs))

marked_any : (σ : Assignment) (es : List Entry) (l : ℕ) → any σ (refs_for l es) ≡ marked σ es l
unfolding marked
marked_any σ [] l = refl
marked_any σ (e ∷ es) l = step (e.label == l) (marked_any σ es l)
  where
    step : (b : Bool) → any σ (refs_for l es) ≡ marked σ es l → any σ (if b then e.under ∷ refs_for l es else refs_for l es) ≡ ((b && truth σ e.under) || marked σ es l)
    step true h = ap (λ c. truth σ e.under || c) h
    step false h = h

abbrev arm : Ref → Tree × Tree
arm r = (value r, value zero_ref)

arms_any : (σ : Assignment) (rs : List Ref) → is_some (first_of_all (acting σ (map arm rs))) ≡ any σ rs
arms_any σ [] = refl
arms_any σ (r ∷ rs) = step (truth σ r) (acting σ (map arm rs)) (arms_any σ rs)
  where
    step : (b : Bool) (zs : List ℤ) → is_some (first_of_all zs) ≡ any σ rs → is_some (first_of_all (if b then pos 0 ∷ zs else zs)) ≡ (b || any σ rs)
    step true zs e = refl
    step false zs e = e

arms_values : (rs : List Ref) → map (λ a. a.0) (map arm rs) ≡ map value rs
arms_values [] = refl
arms_values (r ∷ rs) = ap (λ l. value r ∷ l) (arms_values rs)

module _ (σ : Assignment) where
  -- a join of references holds where one of them does
  join_any : (rs : List Ref) (cs : List Defined) → IsSolution σ (join nowhere (map value rs) cs).cells → truth σ (join nowhere (map value rs) cs).ref ≡ any σ rs
  join_any rs cs sol =
      let e : map (λ a. a.0) (map arm rs) ≡ map value rs = arms_values rs in
      subst (λ ts. IsSolution σ (join nowhere ts cs).cells → truth σ (join nowhere ts cs).ref ≡ any σ rs) e
      (λ h. flag_is σ (length cs) nowhere (map arm rs) cs (omega arith) (λ k c le is. h k c is refl) ∙ arms_any σ rs) sol

  new_reads : (t : Tree) (β : Builder) (b : Bool) → holds (worth σ t) ≡ b → IsSolution σ (new t β).built.cells → truth σ (new t β).ref ≡ b
  unfolding new
  new_reads t β b e sol = ap holds (sol (length β.cells) (record { tree = t; place = nowhere }) (last_there β.cells (record { tree = t; place = nowhere })) refl) ∙ e

  pick_reads : (vs : Vars) (s : Short) (t : Tree) (a b : Ref) (β : Builder) (v : Bool) → holds (worth σ t) ≡ v → pick_truth vs σ s (truth σ a) (truth σ b) v ≡ v → IsSolution σ (pick s t a b β).built.cells → truth σ (pick s t a b β).ref ≡ v
  pick_reads vs first t a b β v e f sol = f
  pick_reads vs second t a b β v e f sol = f
  pick_reads vs both t a b β v e f sol = new_reads t β v e sol

  and_reads : (a b : Ref) (β : Builder) → IsSolution σ (and_of a b β).built.cells → truth σ (and_of a b β).ref ≡ (truth σ a && truth σ b)
  unfolding and_of
  and_reads a b β sol = pick_reads [] (short_and a b) (two tree_two.And (value a) (value b)) a b β (truth σ a && truth σ b) (holds_of_bool (truth σ a && truth σ b)) (and_short [] σ a b) sol

  solves_before : (cs ds : List Defined) → Kept cs ds → IsSolution σ ds → IsSolution σ cs
  solves_before cs ds keep sol k c is b = sol k c (keep k c is) b

  spread : (a b c : Bool) → ((a && b) || (a && c)) ≡ (a && (b || c))
  spread true b c = refl
  spread false b c = refl

  staying_reads : (l : ℕ) (rs : List Ref) (β : Builder) → IsSolution σ (staying l rs β).1.cells → any σ (staying l rs β).0 ≡ (now σ l && any σ rs)
  staying_reads l [] β sol = sym (and_false (now σ l))
  staying_reads l (r ∷ rs) β sol =
      let m = and_of (ref.Reg l) r β in
      ap₂ (λ a b. a || b) (and_reads (ref.Reg l) r β (solves_before m.built.cells _ (staying_only l rs m.built).cells sol)) (staying_reads l rs m.built sol) ∙ spread (now σ l) (truth σ r) (any σ rs)

  with_same : (rs : List Register) (r : ℕ) (n : Ref) → r < length rs → next_of σ (slice_get (with_next rs r n) r) ≡ read σ n
  with_same [] r n h = absurd (omega (arith, h))
  with_same (x ∷ xs) zero n h = refl
  with_same (x ∷ xs) (suc r) n h = with_same xs r n (omega (arith, h))

  -- one label
  label_reads : (l : ℕ) (rs : List Register) (β : Builder) → l < length rs → IsSolution σ (label_taken l rs β).1.cells → holds (next_of σ (slice_get (label_taken l rs β).0 l)) ≡ next_marks σ β l
  label_reads l rs β less sol =
      let s = staying l (refs_for l β.stays) β in
      let all : List Ref = refs_for l β.entries ++ s.0 in
      ap holds (with_same rs l _ less) ∙ join_any all s.1.cells sol ∙ any_both σ (refs_for l β.entries) s.0
      ∙ ap₂ (λ a b. a || b) (marked_any σ β.entries l) (staying_reads l (refs_for l β.stays) β (solves_before s.1.cells _ (join_kept nowhere (map value all) s.1.cells) sol) ∙ ap (λ b. now σ l && b) (marked_any σ β.stays l))

  -- all labels
  pub labels_read : (n l : ℕ) (rs : List Register) (β : Builder) → l + n ≤ length rs → IsSolution σ (labels_taken l n rs β).1.cells → (i : ℕ) → l ≤ i → i < l + n
      → holds (next_of σ (slice_get (labels_taken l n rs β).0 i)) ≡ next_marks σ β i
  labels_read zero l rs β room sol i g h = absurd (omega (arith, g, h))
  labels_read (suc n) l rs β room sol i g h =
      let m = label_taken l rs β in
      let o = label_only l rs β in
      let size : length m.0 ≡ length rs = length_with rs l _ in
      at (l == i) refl (label_reads l rs β (omega (arith, room)) (solves_before m.1.cells _ (labels_only n (l + 1) m.0 m.1).cells sol))
      (λ p. labels_read n (l + 1) m.0 m.1 (omega (arith, room, size)) sol i p (omega (arith, h)) ∙ (ap₂ (λ es ss. marked σ es i || (now σ i && marked σ ss i)) o.entries o.stays))
    where
      same : (l == i) ≡ true → l ≡ i
      same e = grind (arith, nat_tests, e)

      after : (l == i) ≡ false → l + 1 ≤ i
      after e = grind (arith, nat_tests, e, g)

      at : (b : Bool) → (l == i) ≡ b → holds (next_of σ (slice_get (label_taken l rs β).0 l)) ≡ next_marks σ β l → (l + 1 ≤ i → holds (next_of σ (slice_get (labels_taken l (suc n) rs β).0 i)) ≡ next_marks σ β i)
          → holds (next_of σ (slice_get (labels_taken l (suc n) rs β).0 i)) ≡ next_marks σ β i
      at true e own rest =
          subst (λ q. holds (next_of σ (slice_get (labels_taken l (suc n) rs β).0 q)) ≡ next_marks σ β q) (same e)
          (ap (λ o. holds (next_of σ o)) (labels_others n (l + 1) (label_taken l rs β).0 (label_taken l rs β).1 l (inl (omega arith))) ∙ own)
      at false e own rest = rest (after e)
