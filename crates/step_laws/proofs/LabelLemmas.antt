-- The registers of labels take bits.
use Rattle.std.proofs.Common.{◌≡◌, ◌⊎◌, inl, inr, ℕ, zero, suc, ◌+◌, ◌≤◌, ◌<◌, ◌==◌, pos, Bool, true, false, List, [], ◌∷◌, ◌++◌, length, map, Some, None, refl, sym, ap, ◌∙◌, subst, arith}
use Rattle.std.specs.Prelude.{slice_get, if◌then◌else◌}
use Rattle.std.proofs.lemmas.Bool.Decides.{nat_tests}
use Rattle.quartz_expr.specs.Vars.{Vars}
use Rattle.aif_cells.specs.declared.reference.Ref.{Ref}
use Rattle.aif_cells.specs.declared.reference.Ref.TheVariants as ref
use Rattle.aif_cells.specs.declared.tree.TreeTwo.TheVariants as tree_two
use Rattle.aif_cells.specs.declared.cells.Action.{Action}
use Rattle.aif_cells.specs.declared.cells.Register.{Register}
use Rattle.aif_cells.specs.Tree.{Tree, two, value}
use Rattle.aif_cells.specs.Built.{Defined, join}
use Rattle.aif_cells.specs.Solution.{IsSolution}
use Rattle.aif_cells.specs.Worth.{Assignment, read, worth}
use Rattle.absence_reaction.specs.Closing.{arms_for}
use Rattle.absence_reaction.specs.Meaning.{GuardsAreBits, IsBit}
use Rattle.absence_reaction.proofs.ElementMeaning.{flag_bit, last_there}
use Rattle.reincarnation.specs.Carrying.{with_next}
use Rattle.statement_cells.specs.Builder.{Builder, Entry, Short, first, second, both, and_of, new, nowhere, pick, short_and, zero_ref}
use Rattle.statement_cells.specs.Whole.{label_taken, labels_taken, refs_for, staying}
use Rattle.statement_cells.specs.Meaning.{next_of}
use Rattle.statement_cells.proofs.LabelLemmas.{labels_others, length_with}
use Rattle.statement_cells.proofs.WholeLemmas.{Kept, join_kept, label_only, labels_only, staying_only}
use Rattle.step_laws.proofs.BitLemmas.{bool_bit}
use Rattle.step_laws.proofs.MadeLemmas.{Bit, UndersAreBits}

module _ (vs : Vars) (σ : Assignment) where
  abbrev RefsAreBits : List Ref → Type 0
  RefsAreBits [] = Unit {0}
  RefsAreBits (r ∷ rs) = Bit vs σ r × RefsAreBits rs

  refs_both : (a b : List Ref) → RefsAreBits a → RefsAreBits b → RefsAreBits (a ++ b)
  refs_both [] b g h = h
  refs_both (r ∷ a) b g h = (g.0, refs_both a b g.1 h)

  refs_bits : (l : ℕ) (es : List Entry) → UndersAreBits vs σ es → RefsAreBits (refs_for l es)
  refs_bits l [] h = tt
  refs_bits l (e ∷ es) h = by (e.label == l) (refs_bits l es h.1)
    where
      by : (b : Bool) → RefsAreBits (refs_for l es) → RefsAreBits (if b then e.under ∷ refs_for l es else refs_for l es)
      by true g = (h.0, g)
      by false g = g

  -- ---- joins

  -- an action under that guard, for all elements
  abbrev under : Ref → Action
  under r = record { guard = r; var = 0; copy = 0; index = None; value = zero_ref; delayed = false; place = nowhere }

  unders : (rs : List Ref) → map (λ a. a.0) (arms_for 0 (map under rs)) ≡ map value rs
  unders [] = refl
  unders (r ∷ rs) = ap (λ l. value r ∷ l) (unders rs)

  guards : (rs : List Ref) → RefsAreBits rs → GuardsAreBits σ (map under rs)
  guards [] h = tt
  guards (r ∷ rs) h = (h.0, guards rs h.1)

  join_bit : (rs : List Ref) (cs : List Defined) → RefsAreBits rs → IsSolution σ (join nowhere (map value rs) cs).cells → Bit vs σ (join nowhere (map value rs) cs).ref
  join_bit rs cs h sol =
      subst (λ ts. IsSolution σ (join nowhere ts cs).cells → Bit vs σ (join nowhere ts cs).ref) (unders rs)
      (λ met. flag_bit σ (length cs) nowhere 0 (map under rs) cs (omega arith) (guards rs h) (λ k c le is. met k c is refl)) sol

  -- ---- labels that stay

  new_bit : (t : Tree) (β : Builder) → IsBit (worth σ t) → IsSolution σ (new t β).built.cells → Bit vs σ (new t β).ref
  unfolding new
  new_bit t β w sol = subst IsBit (sym (sol (length β.cells) (record { tree = t; place = nowhere }) (last_there β.cells (record { tree = t; place = nowhere })) refl)) w

  pick_bit : (s : Short) (t : Tree) (a b : Ref) (β : Builder) → IsBit (worth σ t) → Bit vs σ a → Bit vs σ b → IsSolution σ (pick s t a b β).built.cells → Bit vs σ (pick s t a b β).ref
  pick_bit first t a b β w p q sol = p
  pick_bit second t a b β w p q sol = q
  pick_bit both t a b β w p q sol = new_bit t β w sol

  and_bit : (a b : Ref) (β : Builder) → Bit vs σ a → Bit vs σ b → IsSolution σ (and_of a b β).built.cells → Bit vs σ (and_of a b β).ref
  unfolding and_of
  and_bit a b β p q sol = pick_bit (short_and a b) (two tree_two.And (value a) (value b)) a b β (bool_bit _) p q sol

  solves : (cs ds : List Defined) → Kept cs ds → IsSolution σ ds → IsSolution σ cs
  solves cs ds keep sol k c is b = sol k c (keep k c is) b

  staying_bits : (l : ℕ) (rs : List Ref) (β : Builder) → Bit vs σ (ref.Reg l) → RefsAreBits rs → IsSolution σ (staying l rs β).1.cells → RefsAreBits (staying l rs β).0
  staying_bits l [] β p h sol = tt
  staying_bits l (r ∷ rs) β p h sol =
      let m = and_of (ref.Reg l) r β in
      (and_bit (ref.Reg l) r β p h.0 (solves m.built.cells _ (staying_only l rs m.built).cells sol), staying_bits l rs m.built p h.1 sol)

  -- ---- registers

  with_same : (rs : List Register) (r : ℕ) (n : Ref) → r < length rs → next_of σ (slice_get (with_next rs r n) r) ≡ read σ n
  with_same [] r n h = absurd (omega (arith, h))
  with_same (x ∷ xs) zero n h = refl
  with_same (x ∷ xs) (suc r) n h = with_same xs r n (omega (arith, h))

  label_bit : (l : ℕ) (rs : List Register) (β : Builder) → l < length rs → Bit vs σ (ref.Reg l) → UndersAreBits vs σ β.entries → UndersAreBits vs σ β.stays → IsSolution σ (label_taken l rs β).1.cells
      → IsBit (next_of σ (slice_get (label_taken l rs β).0 l))
  label_bit l rs β less p entries stays sol =
      let s = staying l (refs_for l β.stays) β in
      let all : List Ref = refs_for l β.entries ++ s.0 in
      subst IsBit (sym (with_same rs l _ less))
      (join_bit all s.1.cells (refs_both (refs_for l β.entries) s.0 (refs_bits l β.entries entries)
      (staying_bits l (refs_for l β.stays) β p (refs_bits l β.stays stays) (solves s.1.cells _ (join_kept nowhere (map value all) s.1.cells) sol))) sol)

  -- all labels
  pub labels_bits : (n l : ℕ) (rs : List Register) (β : Builder) → l + n ≤ length rs → ((i : ℕ) → l ≤ i → i < l + n → Bit vs σ (ref.Reg i)) → UndersAreBits vs σ β.entries → UndersAreBits vs σ β.stays
      → IsSolution σ (labels_taken l n rs β).1.cells → (i : ℕ) → l ≤ i → i < l + n → IsBit (next_of σ (slice_get (labels_taken l n rs β).0 i))
  labels_bits zero l rs β room p entries stays sol i g h = absurd (omega (arith, g, h))
  labels_bits (suc n) l rs β room p entries stays sol i g h =
      let m = label_taken l rs β in
      let o = label_only l rs β in
      let size : length m.0 ≡ length rs = length_with rs l _ in
      at (l == i) refl (label_bit l rs β (omega (arith, room)) (p l (omega arith) (omega arith)) entries stays (solves m.1.cells _ (labels_only n (l + 1) m.0 m.1).cells sol))
      (λ q. labels_bits n (l + 1) m.0 m.1 (omega (arith, room, size)) (λ j a b. p j (omega (arith, a)) (omega (arith, b))) (subst (UndersAreBits vs σ) (sym o.entries) entries) (subst (UndersAreBits vs σ) (sym o.stays) stays) sol i q (omega (arith, h)))
    where
      same : (l == i) ≡ true → l ≡ i
      same e = grind (arith, nat_tests, e)

      behind : (l == i) ≡ false → l + 1 ≤ i
      behind e = grind (arith, nat_tests, e, g)

      at : (b : Bool) → (l == i) ≡ b → IsBit (next_of σ (slice_get (label_taken l rs β).0 l)) → (l + 1 ≤ i → IsBit (next_of σ (slice_get (labels_taken l (suc n) rs β).0 i))) → IsBit (next_of σ (slice_get (labels_taken l (suc n) rs β).0 i))
      at true e own later =
          subst (λ q. IsBit (next_of σ (slice_get (labels_taken l (suc n) rs β).0 q))) (same e)
          (subst (λ o. IsBit (next_of σ o)) (sym (labels_others n (l + 1) (label_taken l rs β).0 (label_taken l rs β).1 l (inl (omega arith)))) own)
      at false e own later = later (behind e)
