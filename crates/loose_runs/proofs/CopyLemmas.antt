-- The monitors that closing a copy adds, each with the cells of its element.
use Rattle.std.proofs.Common.{◌≡◌, ℕ, ◌+◌, ◌<◌, ◌≤◌, ◌==◌, ◌||◌, nat_lt, pos, Bool, true, false, List, [], ◌∷◌, ◌++◌, length, map, Some, refl, sym, ap, ◌∙◌, arith, append-nil, append_assoc}
use Rattle.std.specs.Prelude.{slice_get, if◌then◌else◌}
use Rattle.std.proofs.lemmas.Bool.Decides.{nat_tests}
use Rattle.quartz_tree.specs.declared.place.Place.{Place}
use Rattle.quartz_tree.specs.declared.fault.Kind.TheVariants.{Conflict}
use Rattle.aif_cells.specs.declared.reference.Ref.{Ref}
use Rattle.aif_cells.specs.declared.reference.Ref.TheVariants as ref
use Rattle.aif_cells.specs.declared.cells.Monitor.{Monitor}
use Rattle.aif_cells.specs.Tree.{Tree, value, cases}
use Rattle.aif_cells.specs.Built.{Defined, or_all}
use Rattle.aif_cells.specs.Solution.{Extends}
use Rattle.aif_cells.proofs.SolutionLemmas.{there}
use Rattle.absence_reaction.specs.declared.copy.VarCopy.{VarCopy}
use Rattle.absence_reaction.specs.declared.copy.Shape.{Shape}
use Rattle.absence_reaction.specs.Closing.{Built, arms_for, can_conflict, closed_copy, closed_element, closed_from, conflict_made, disagrees, has_pending, pending_made, value_tree, watched_by}
use Rattle.absence_reaction.specs.Meaning.{AreDistinctBelow, is_among}
use Rattle.absence_reaction.proofs.CopyMeaning.{conflict_extends, element_extends, flagged, from_extends, last_of, pended, pending_extends, flag_extends, valued, value_there, watched_now, not_among}
use Rattle.absence_reaction.proofs.ElementMeaning.{last_there}
use Rattle.statement_cells.proofs.GrowLemmas.{HasTree}
use Rattle.aif_cells.proofs.ItemLemmas.{set_longer}

-- a monitor on a conflict of an element: of a write with the value, or of two delayed writes; the cells have numbers that
-- are in question
pub data CopySite (s : Shape) (c : VarCopy) (B : ℕ → Type 0) (cs : List Defined) (m : Monitor) : Type 0 where
  of_now : (j k : ℕ) → m.place ≡ s.place → j < length c.values → B k → B m.cell → HasTree cs k (value_tree s c j) → HasTree cs m.cell (or_all (map (disagrees (ref.Cell k)) (arms_for j c.now))) → CopySite s c B cs m
  of_next : (j k : ℕ) → m.place ≡ s.place → j < length c.values → B k → B m.cell → HasTree cs k (cases (arms_for j c.next) (value (ref.Lit (pos 0)))) → HasTree cs m.cell (or_all (map (disagrees (ref.Cell k)) (arms_for j c.next))) → CopySite s c B cs m

-- ---- monitors behind those that were there

abbrev pub AllOf : (Monitor → Type 0) → List Monitor → Type 0
AllOf Q [] = Unit {0}
AllOf Q (m ∷ ms) = Q m × AllOf Q ms

pub record AddedAll (Q : Monitor → Type 0) (before after : List Monitor) : Type 0 where
  pub more : List Monitor
  pub are : after ≡ before ++ more
  pub all : AllOf Q more

pub all_both : (Q : Monitor → Type 0) (ms ns : List Monitor) → AllOf Q ms → AllOf Q ns → AllOf Q (ms ++ ns)
all_both Q [] ns g h = h
all_both Q (m ∷ ms) ns g h = (g.0, all_both Q ms ns g.1 h)

none_added : (Q : Monitor → Type 0) (ms : List Monitor) → AddedAll Q ms ms
none_added Q ms = record { more = []; are = sym (append-nil ms); all = tt }

added_twice : (Q : Monitor → Type 0) (a b c : List Monitor) → AddedAll Q a b → AddedAll Q b c → AddedAll Q a c
added_twice Q a b c g h = record { more = g.more ++ h.more; are = h.are ∙ ap (λ l. l ++ h.more) g.are ∙ append_assoc a g.more h.more; all = all_both Q g.more h.more g.all h.all }

watched_added : (Q : Monitor → Type 0) (p : Place) (t : Tree) (b : Bool) (β : Built)
    → (b ≡ true → slice_get (if b then watched_by p t β else β).cells (length β.cells) ≡ Some (record { tree = t; place = p }) → Q (record { cell = length β.cells; place = p; kind = Conflict }))
    → AddedAll Q β.monitors (if b then watched_by p t β else β).monitors
watched_added Q p t true β f = record { more = record { cell = length β.cells; place = p; kind = Conflict } ∷ []; are = refl; all = (f refl (last_there β.cells (record { tree = t; place = p })), tt) }
watched_added Q p t false β f = none_added Q β.monitors

conflict_added : (Q : Monitor → Type 0) (p : Place) (beside : Bool) (v : Ref) (arms : List (Tree × Tree)) (β : Built)
    → (can_conflict beside (length arms) ≡ true → slice_get (conflict_made p beside v arms β).cells (length β.cells) ≡ Some (record { tree = or_all (map (disagrees v) arms); place = p }) → Q (record { cell = length β.cells; place = p; kind = Conflict }))
    → AddedAll Q β.monitors (conflict_made p beside v arms β).monitors
conflict_added Q p beside v arms β f = watched_added Q p (or_all (map (disagrees v) arms)) (can_conflict beside (length arms)) β f

-- the cell of a new pending value
pub record PendingCell (p : Place) (arms : List (Tree × Tree)) (cs : List Defined) : Type 0 where
  pub cell : ℕ
  pub named : (pending_made p arms cs).ref ≡ ref.Cell cell
  pub from : length cs ≤ cell
  pub tree : HasTree (pending_made p arms cs).cells cell (cases arms (value (ref.Lit (pos 0))))

pending_cell : (p : Place) (arms : List (Tree × Tree)) (cs : List Defined) → nat_lt 1 (length arms) ≡ true → PendingCell p arms cs
pending_cell p [] cs e = absurd (few e)
  where
    few : nat_lt 1 0 ≡ true → ⊥
    few e = grind (arith, nat_tests, e)
pending_cell p (a ∷ arms) cs e = record { cell = length cs; named = refl; from = omega arith; tree = record { place = p; is = last_there cs _ } }

-- ---- one element

module _ (s : Shape) (c : VarCopy) (B : ℕ → Type 0) (n : ℕ) (wide : (q : ℕ) → n ≤ q → B q) where
  -- the monitors of one element, seen from later cells that keep it
  element_sites : (cs : List Defined) (j k : ℕ) (β : Built) → n ≤ length β.cells → j < length c.values → B k → HasTree cs k (value_tree s c j)
      → ((q : ℕ) (d : Defined) → n ≤ q → slice_get (last_of s c j k β) q ≡ Some d → slice_get cs q ≡ Some d)
      → AddedAll (CopySite s c B cs) β.monitors (closed_element s c j k β).built.monitors
  element_sites cs j k β le less own tree keeps =
      added_twice (CopySite s c B cs) β.monitors (watched_now s c j k β).monitors (closed_element s c j k β).built.monitors
      (conflict_added (CopySite s c B cs) s.place (has_pending s c) (ref.Cell k) (arms_for j c.now) pending
      (λ can is. of_now j k refl less own (wide (length pending.cells) room) tree
      (record { place = s.place; is = keeps (length pending.cells) _ room (after_now.kept (length pending.cells) (there (watched_now s c j k β).cells (length pending.cells) _ is) refl ∙ is) })))
      (conflict_added (CopySite s c B cs) s.place false (pended s c j k β).ref (arms_for j c.next) (watched_now s c j k β)
      (λ can is. let p = pending_cell s.place (arms_for j c.next) (flagged s c j k β).cells can in
      of_next j p.cell refl less (wide p.cell (omega (arith, p.from, first))) (wide (length (watched_now s c j k β).cells) (omega (arith, room, now_longer)))
      (record { place = p.tree.place; is = keeps p.cell _ (omega (arith, p.from, first)) (after_pending.kept p.cell (there (pended s c j k β).cells p.cell _ p.tree.is) refl ∙ p.tree.is) })
      (record { place = s.place; is = keeps (length (watched_now s c j k β).cells) _ (omega (arith, room, now_longer)) (is ∙ ap (λ r. Some (record { tree = or_all (map (disagrees r) (arms_for j c.next)); place = s.place })) p.named) })))
    where
      pending : Built
      pending = record β { cells = (pended s c j k β).cells }

      first : n ≤ length (flagged s c j k β).cells
      first = omega (arith, le, set_longer β.cells k (record { tree = value_tree s c j; place = s.place }), (flag_extends s.place (arms_for j c.next) (valued s c j k β)).longer)

      room : n ≤ length pending.cells
      room = omega (arith, first, (pending_extends s.place (arms_for j c.next) (flagged s c j k β).cells).longer)

      now_longer : length pending.cells ≤ length (watched_now s c j k β).cells
      now_longer = (conflict_extends s.place (has_pending s c) (ref.Cell k) (arms_for j c.now) pending).longer

      after_now : Extends (λ q. false) (watched_now s c j k β).cells (last_of s c j k β)
      after_now = conflict_extends s.place false (pended s c j k β).ref (arms_for j c.next) (watched_now s c j k β)

      until_now : Extends (λ q. false) pending.cells (watched_now s c j k β).cells
      until_now = conflict_extends s.place (has_pending s c) (ref.Cell k) (arms_for j c.now) pending

      after_pending : Extends (λ q. false) pending.cells (last_of s c j k β)
      after_pending = record { longer = omega (arith, until_now.longer, after_now.longer); kept = λ q l f. after_now.kept q (omega (arith, l, until_now.longer)) f ∙ until_now.kept q l f }

  -- ---- all elements

  sites_from : (j : ℕ) (ks : List ℕ) (β : Built) → AreDistinctBelow n ks → n ≤ length β.cells → j + length ks ≡ length c.values → ((q : ℕ) → is_among q ks ≡ true → B q)
      → AddedAll (CopySite s c B (closed_from s c j ks β).built.cells) β.monitors (closed_from s c j ks β).built.monitors
  sites_from j [] β d le count own = none_added (CopySite s c B β.cells) β.monitors
  sites_from j (k ∷ ks) β d le count own =
      let cs = (closed_from s c j (k ∷ ks) β).built.cells in
      let e = (closed_element s c j k β).built in
      added_twice (CopySite s c B cs) β.monitors e.monitors (closed_from s c j (k ∷ ks) β).built.monitors
      (element_sites cs j k β le (omega (arith, count)) (own k (ap (λ b. b || is_among k ks) (self k))) (record { place = s.place; is = value_there s c n j k ks β d le })
      (λ q x m is. (from_extends s c (j + 1) ks e).kept q (there (last_of s c j k β) q x is) (not_among n q ks d.2 m) ∙ is))
      (sites_from (j + 1) ks e d.2 (omega (arith, le, (element_extends s c j k β).longer)) (omega (arith, count)) (λ q h. own q (later (q == k) h)))
    where
      self : (k : ℕ) → (k == k) ≡ true
      self k = grind (arith, nat_tests)

      later : (b : Bool) {e : Bool} → e ≡ true → (b || e) ≡ true
      later true h = refl
      later false h = h

-- the monitors that closing a copy adds
pub copy_sites : (s : Shape) (c : VarCopy) (B : ℕ → Type 0) (β : Built) → AreDistinctBelow (length β.cells) c.values → ((q : ℕ) → length β.cells ≤ q → B q) → ((q : ℕ) → is_among q c.values ≡ true → B q)
    → AddedAll (CopySite s c B (closed_copy s c β).built.cells) β.monitors (closed_copy s c β).built.monitors
copy_sites s c B β d wide own = sites_from s c B (length β.cells) wide 0 c.values β d (omega arith) (omega arith) own
