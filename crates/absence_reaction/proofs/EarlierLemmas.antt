-- Cells that closing adds name only cells before them.
use Rattle.std.proofs.Common.{◌≡◌, ◌∙◌, inl, inr, ℕ, ◌+◌, ◌<◌, ◌≤◌, pos, Bool, true, false, List, [], ◌∷◌, ◌++◌, length, map, All, Option, None, Some, refl, sym, ap, subst, arith, length-append}
use Rattle.std.specs.Prelude.{◌==◌, ◌||◌, filter, slice_get, slice_set, slice_index_or, if◌then◌else◌}
use Rattle.std.proofs.lemmas.Bool.{cases_lt}
use Rattle.std.proofs.lemmas.Bool.Decides.{nat_tests}
use Rattle.std.proofs.lemmas.List.Elements.{All-append, All-cons, All-contains, All-filter, All-head, All-nil, All-tail}
use Rattle.quartz_tree.specs.declared.place.Place.{Place}
use Rattle.quartz_tree.specs.declared.fault.Kind.TheVariants.{Conflict}
use Rattle.aif_cells.specs.declared.reference.Ref.{Ref}
use Rattle.aif_cells.specs.declared.reference.Ref.TheVariants as ref
use Rattle.aif_cells.specs.declared.cells.Action.{Action}
use Rattle.aif_cells.specs.declared.cells.Monitor.{Monitor}
use Rattle.aif_cells.specs.declared.tree.TreeTwo.TheVariants.{And, Eq}
use Rattle.aif_cells.specs.Tree.{Tree, value, one, two, ite, sel, fit, bnot, cat, bits, cases}
use Rattle.aif_cells.specs.Built.{Defined, Made, given_or_new, is_not_nought, join_alone, or_all, reference_in}
use Rattle.aif_cells.specs.Dependences.{cells_in, cells_named}
use Rattle.aif_cells.proofs.SolutionLemmas.{there}
use Rattle.quartz_expr.specs.Values.{same_value}
use Rattle.absence_reaction.specs.declared.copy.VarCopy.{VarCopy}
use Rattle.absence_reaction.specs.declared.copy.Shape.{Shape}
use Rattle.absence_reaction.specs.Closing.{Built, Copy, absence_of, arm_before, arms_for, can_conflict, closed_copy, closed_element, closed_from, conflict_made, disagrees, flag_made, flag_of, guard_for, has_pending, pending_made, pending_of, register_of, value_tree, watched_by}
use Rattle.quartz_tree.specs.Storage.{is_memorized}
use Rattle.absence_reaction.specs.Meaning.{AreDistinctBelow, is_among}
use Rattle.absence_reaction.specs.Earlier.{ActionIsBelow, ClosingNamesEarlier, IsBelow, IsIndexBelow, MonitorsAreBelow}
use Rattle.absence_reaction.proofs.CopyMeaning.{after_flag, after_pending, conflict_extends, element_extends, flag_extends, flagged, from_extends, get_other, last_of, pended, pending_extends, value_there, valued, watched_now}
use Rattle.aif_cells.proofs.ItemLemmas.{get_before, get_new, set_longer}

-- ---- trees

-- the cells in a tree are among so many
abbrev Below : (bound : ℕ) → Tree → Type 0
Below n t = All (λ d. d < n) (cells_in t)

below_more : (n m : ℕ) (ds : List ℕ) → n ≤ m → All (λ d. d < n) ds → All (λ d. d < m) ds
below_more n m ds le h k x lt = let at : slice_index_or ds k x < n = h k x lt in omega (arith, at, le)

both_below : (n : ℕ) (xs ys : List ℕ) → All (λ d. d < n) xs → All (λ d. d < n) ys → All (λ d. d < n) (xs ++ ys)
both_below n xs ys p q = All-append (λ d. d < n) xs ys p q

pub or_below : (n : ℕ) (ts : List Tree) → All (Below n) ts → Below n (or_all ts)
or_below n [] h = All-nil (λ d. d < n)
or_below n (t ∷ []) h = All-head (Below n) t [] h
or_below n (t ∷ u ∷ us) h = both_below n (cells_in t) (cells_in (or_all (u ∷ us))) (All-head (Below n) t (u ∷ us) h) (or_below n (u ∷ us) (All-tail (Below n) t (u ∷ us) h))

-- what is written under a guard
record ArmIsBelow (n : ℕ) (a : Tree × Tree) : Type 0 where
  guard : Below n a.0
  written : Below n a.1

cases_below : (n : ℕ) (arms : List (Tree × Tree)) (b : Tree) → All (ArmIsBelow n) arms → Below n b → Below n (cases arms b)
cases_below n [] b hs h = h
cases_below n (a ∷ arms) b hs h =
    let its : ArmIsBelow n a = All-head (ArmIsBelow n) a arms hs in
    both_below n (cells_in a.0) (cells_in a.1 ++ cells_in (cases arms b)) its.guard (both_below n (cells_in a.1) (cells_in (cases arms b)) its.written (cases_below n arms b (All-tail (ArmIsBelow n) a arms hs) h))

guards_below : (n : ℕ) (arms : List (Tree × Tree)) → All (ArmIsBelow n) arms → All (Below n) (map (λ a. a.0) arms)
guards_below n [] hs = All-nil (Below n)
guards_below n (a ∷ arms) hs = All-cons (Below n) a.0 (map (λ x. x.0) arms) (All-head (ArmIsBelow n) a arms hs).guard (guards_below n arms (All-tail (ArmIsBelow n) a arms hs))

differ_below : (n : ℕ) (r : Ref) (arms : List (Tree × Tree)) → IsBelow n r → All (ArmIsBelow n) arms → All (Below n) (map (disagrees r) arms)
differ_below n r [] h hs = All-nil (Below n)
differ_below n r (a ∷ arms) h hs =
    let its : ArmIsBelow n a = All-head (ArmIsBelow n) a arms hs in
    All-cons (Below n) (disagrees r a) (map (disagrees r) arms) (both_below n (cells_in a.0) (cells_in a.1 ++ cells_named r) its.guard (both_below n (cells_in a.1) (cells_named r) its.written h))
    (differ_below n r arms h (All-tail (ArmIsBelow n) a arms hs))

arms_more : (n m : ℕ) (arms : List (Tree × Tree)) → n ≤ m → All (ArmIsBelow n) arms → All (ArmIsBelow m) arms
arms_more n m arms le hs k d lt =
    let its : ArmIsBelow n (slice_index_or arms k d) = hs k d lt in
    record { guard = below_more n m (cells_in (slice_index_or arms k d).0) le its.guard; written = below_more n m (cells_in (slice_index_or arms k d).1) le its.written }

-- ---- actions

before_below : (n : ℕ) (g : Tree) (v : Ref) (arms : List (Tree × Tree)) → Below n g → IsBelow n v → All (ArmIsBelow n) arms → All (ArmIsBelow n) ((g, value v) ∷ arms)
before_below n g v arms p q hs = All-cons (ArmIsBelow n) (g, value v) arms (record { guard = p; written = q }) hs

-- the guard of an action at an index that is no literal
indexed_below : (n : ℕ) (j : ℕ) (g r : Ref) → IsBelow n g → IsBelow n r → Below n (two And (value g) (two Eq (value r) (value (ref.Lit (pos j)))))
indexed_below n j g r p q = both_below n (cells_named g) (cells_named r ++ []) p (both_below n (cells_named r) [] q (All-nil (λ d. d < n)))

at_literal : (n : ℕ) (b : Bool) (g v : Ref) (arms : List (Tree × Tree)) → IsBelow n g → IsBelow n v → All (ArmIsBelow n) arms → All (ArmIsBelow n) (arm_before (if b then Some (value g) else None) v arms)
at_literal n true g v arms p q hs = before_below n (value g) v arms p q hs
at_literal n false g v arms p q hs = hs

arm_below : (n j : ℕ) (g : Ref) (i : Option Ref) (v : Ref) (arms : List (Tree × Tree)) → IsBelow n g → IsIndexBelow n i → IsBelow n v → All (ArmIsBelow n) arms → All (ArmIsBelow n) (arm_before (guard_for j (value g) i) v arms)
arm_below n j g None v arms p q r hs = before_below n (value g) v arms p r hs
arm_below n j g (Some (ref.Lit z)) v arms p q r hs = at_literal n (same_value z (pos j)) g v arms p r hs
arm_below n j g (Some (ref.Input i)) v arms p q r hs = before_below n (two And (value g) (two Eq (value (ref.Input i)) (value (ref.Lit (pos j))))) v arms (indexed_below n j g (ref.Input i) p q) r hs
arm_below n j g (Some (ref.Reg i)) v arms p q r hs = before_below n (two And (value g) (two Eq (value (ref.Reg i)) (value (ref.Lit (pos j))))) v arms (indexed_below n j g (ref.Reg i) p q) r hs
arm_below n j g (Some (ref.Cell i)) v arms p q r hs = before_below n (two And (value g) (two Eq (value (ref.Cell i)) (value (ref.Lit (pos j))))) v arms (indexed_below n j g (ref.Cell i) p q) r hs

arms_below : (n j : ℕ) (actions : List Action) → All (ActionIsBelow n) actions → All (ArmIsBelow n) (arms_for j actions)
arms_below n j [] hs = All-nil (ArmIsBelow n)
arms_below n j (a ∷ more) hs =
    let its : ActionIsBelow n a = All-head (ActionIsBelow n) a more hs in
    arm_below n j a.guard a.index a.value (arms_for j more) its.guard its.index its.value (arms_below n j more (All-tail (ActionIsBelow n) a more hs))

absence_below : (n : ℕ) (v : Shape) (c : VarCopy) (j : ℕ) → Below n (absence_of v c j)
absence_below n v c j = by (is_memorized v.storage) c.stored
  where
    by : (m s : Bool) → Below n (if m then (if s then value (ref.Reg (register_of v c.first j)) else value (ref.Lit v.start)) else value (ref.Lit (pos 0)))
    by true true = All-nil (λ d. d < n)
    by true false = All-nil (λ d. d < n)
    by false s = All-nil (λ d. d < n)

value_below : (n : ℕ) (v : Shape) (c : VarCopy) (j : ℕ) → All (ActionIsBelow n) c.now → Below n (value_tree v c j)
value_below n v c j hs = by (has_pending v c) (cases (arms_for j c.now) (absence_of v c j)) (cases_below n (arms_for j c.now) (absence_of v c j) (arms_below n j c.now hs) (absence_below n v c j))
  where
    by : (b : Bool) (w : Tree) → Below n w → Below n (if b then ite (value (ref.Reg (flag_of v c.first j))) (value (ref.Reg (pending_of v c.first j))) w else w)
    by true w h = h
    by false w h = h

-- ---- cells

-- cells from number n on name only cells before them
abbrev LateNameEarlier : (n : ℕ) → List Defined → Type 0
LateNameEarlier n cs = (k : ℕ) (c : Defined) → n ≤ k → slice_get cs k ≡ Some c → Below k c.tree

no_late : (cs : List Defined) → LateNameEarlier (length cs) cs
no_late cs k c le is = let lt : k < length cs = there cs k c is in absurd (omega (arith, lt, le))

pub the_one : (x c : Defined) → Some x ≡ Some c → x ≡ c
the_one x c e = cc

pushed : (n : ℕ) (cs : List Defined) (x : Defined) → Below (length cs) x.tree → LateNameEarlier n cs → LateNameEarlier n (cs ++ x ∷ [])
pushed n cs x h late k c le is = elim (cases_lt k (length cs)) [
  | inl lt ↦ late k c le (sym (get_before cs (x ∷ []) k lt) ∙ is)
  | inr ge ↦
      let lt : k < length (cs ++ x ∷ []) = there (cs ++ x ∷ []) k c is in
      let at : k ≡ length cs = omega (arith, lt, ge, length-append cs (x ∷ [])) in
      let same : x ≡ c = the_one x c (sym (ap (slice_get (cs ++ x ∷ [])) at ∙ get_new cs x) ∙ is) in
      subst (λ (m : ℕ). Below m c.tree) (sym at) (subst (λ (y : Defined). Below (length cs) y.tree) same h)
]

above : (k q n : ℕ) → k < n → n ≤ q → (q == k) ≡ false
above k q n lt le = grind (arith, nat_tests, lt, le)

set_late : (n : ℕ) (cs : List Defined) (k : ℕ) (x : Defined) → k < n → LateNameEarlier n cs → LateNameEarlier n (slice_set cs k x)
set_late n cs k x lt late q c le is = late q c le (sym (get_other cs k q x (above k q n lt le)) ∙ is)

-- what a reference names is there, and so is what it is given
one_below : (n k : ℕ) → k < n → IsBelow n (ref.Cell k)
one_below n k lt = All-cons (λ d. d < n) k [] lt (All-nil (λ d. d < n))

record MadeIsSound (n : ℕ) (m : Made) : Type 0 where
  late : LateNameEarlier n m.cells
  ref : IsBelow (length m.cells) m.ref

new_sound : (n : ℕ) (t : Tree) (p : Place) (cs : List Defined) → Below (length cs) t → LateNameEarlier n cs → MadeIsSound n (given_or_new None t p cs)
new_sound n t p cs h late = record {
  late = pushed n cs (record { tree = t; place = p }) h late;
  ref = one_below (length (cs ++ record { tree = t; place = p } ∷ [])) (length cs) (omega (arith, length-append cs (record { tree = t; place = p } ∷ [])));
}

given_sound : (n : ℕ) (o : Option Ref) (t : Tree) (p : Place) (cs : List Defined) → ((r : Ref) → o ≡ Some r → IsBelow (length cs) r) → Below (length cs) t → LateNameEarlier n cs → MadeIsSound n (given_or_new o t p cs)
given_sound n (Some r) t p cs g h late = record { late = late; ref = g r refl }
given_sound n None t p cs g h late = new_sound n t p cs h late

reference_below : (n : ℕ) (t : Tree) (r : Ref) → reference_in t ≡ Some r → Below n t → IsBelow n r
reference_below n (value q) r e h = subst (IsBelow n) (same q r e) h
  where
    same : (q r : Ref) → Some q ≡ Some r → q ≡ r
    same q r e = cc
reference_below n (one _ _) r e h = absurd (cc)
reference_below n (two _ _ _) r e h = absurd (cc)
reference_below n (ite _ _ _) r e h = absurd (cc)
reference_below n (sel _ _) r e h = absurd (cc)
reference_below n (fit _ _ _) r e h = absurd (cc)
reference_below n (bnot _ _) r e h = absurd (cc)
reference_below n (cat _ _ _) r e h = absurd (cc)
reference_below n (bits _ _ _) r e h = absurd (cc)

alone_below : (n : ℕ) (ts : List Tree) (r : Ref) → join_alone ts ≡ Some r → All (Below n) ts → IsBelow n r
alone_below n [] r e h = subst (IsBelow n) (nought r e) (All-nil (λ d. d < n))
  where
    nought : (r : Ref) → Some (ref.Lit (pos 0)) ≡ Some r → ref.Lit (pos 0) ≡ r
    nought r e = cc
alone_below n (t ∷ []) r e h = reference_below n t r e (All-head (Below n) t [] h)
alone_below n (t ∷ u ∷ us) r e h = absurd (cc)

flag_sound : (n : ℕ) (p : Place) (arms : List (Tree × Tree)) (cs : List Defined) → All (ArmIsBelow (length cs)) arms → LateNameEarlier n cs → MadeIsSound n (flag_made p arms cs)
flag_sound n p arms cs hs late =
    let left : List Tree = filter is_not_nought (map (λ a. a.0) arms) in
    let below : All (Below (length cs)) left = All-filter is_not_nought (Below (length cs)) (map (λ a. a.0) arms) (guards_below (length cs) arms hs) in
    given_sound n (join_alone left) (or_all left) p cs (λ r e. alone_below (length cs) left r e below) (or_below (length cs) left below) late

pending_sound : (n : ℕ) (p : Place) (arms : List (Tree × Tree)) (cs : List Defined) → All (ArmIsBelow (length cs)) arms → LateNameEarlier n cs → MadeIsSound n (pending_made p arms cs)
pending_sound n p [] cs hs late = record { late = late; ref = All-nil (λ d. d < length cs) }
pending_sound n p (a ∷ arms) cs hs late = new_sound n (cases (a ∷ arms) (value (ref.Lit (pos 0)))) p cs (cases_below (length cs) (a ∷ arms) (value (ref.Lit (pos 0))) hs (All-nil (λ d. d < length cs))) late

watched_late : (n : ℕ) (b : Bool) (p : Place) (t : Tree) (β : Built) → Below (length β.cells) t → LateNameEarlier n β.cells → LateNameEarlier n (if b then watched_by p t β else β).cells
watched_late n true p t β h late = pushed n β.cells (record { tree = t; place = p }) h late
watched_late n false p t β h late = late

conflict_late : (n : ℕ) (p : Place) (beside : Bool) (r : Ref) (arms : List (Tree × Tree)) (β : Built) → IsBelow (length β.cells) r → All (ArmIsBelow (length β.cells)) arms → LateNameEarlier n β.cells → LateNameEarlier n (conflict_made p beside r arms β).cells
conflict_late n p beside r arms β h hs late = watched_late n (can_conflict beside (length arms)) p (or_all (map (disagrees r) arms)) β (or_below (length β.cells) (map (disagrees r) arms) (differ_below (length β.cells) r arms h hs)) late

-- ---- monitors

monitors_more : (n m : ℕ) (ms : List Monitor) → n ≤ m → MonitorsAreBelow n ms → MonitorsAreBelow m ms
monitors_more n m ms le hs k d lt = let at : (slice_index_or ms k d).cell < n = hs k d lt in omega (arith, at, le)

watched_monitors : (b : Bool) (p : Place) (t : Tree) (β : Built) → MonitorsAreBelow (length β.cells) β.monitors → MonitorsAreBelow (length (if b then watched_by p t β else β).cells) (if b then watched_by p t β else β).monitors
watched_monitors false p t β hs = hs
watched_monitors true p t β hs =
    let n : ℕ = length β.cells in
    let m : ℕ = length (watched_by p t β).cells in
    let more : m ≡ n + 1 = length-append β.cells (record { tree = t; place = p } ∷ []) in
    All-append (λ (x : Monitor). x.cell < m) β.monitors (record { cell = n; place = p; kind = Conflict } ∷ []) (monitors_more n m β.monitors (omega (arith, more)) hs)
    (All-cons (λ (x : Monitor). x.cell < m) (record { cell = n; place = p; kind = Conflict }) [] (omega (arith, more)) (All-nil (λ (x : Monitor). x.cell < m)))

-- ---- an element

record Sound (n : ℕ) (β : Built) : Type 0 where
  count : n ≤ length β.cells
  late : LateNameEarlier n β.cells

record CopyIsSound (n : ℕ) (k : Copy) : Type 0 where
  late : LateNameEarlier n k.built.cells
  given : All (IsBelow n) k.values
  flags : All (IsBelow (length k.built.cells)) k.flags
  pending : All (IsBelow (length k.built.cells)) k.pending

module _ (v : Shape) (c : VarCopy) (n : ℕ) (now : All (ActionIsBelow n) c.now) (next : All (ActionIsBelow n) c.next) where
  nows_at : (j m : ℕ) → n ≤ m → All (ArmIsBelow m) (arms_for j c.now)
  nows_at j m le = arms_more n m (arms_for j c.now) le (arms_below n j c.now now)

  nexts_at : (j m : ℕ) → n ≤ m → All (ArmIsBelow m) (arms_for j c.next)
  nexts_at j m le = arms_more n m (arms_for j c.next) le (arms_below n j c.next next)

  valued_count : (j k : ℕ) (β : Built) → n ≤ length β.cells → n ≤ length (valued v c j k β)
  valued_count j k β le = omega (arith, le, set_longer β.cells k (record { tree = value_tree v c j; place = v.place }))

  flagged_count : (j k : ℕ) (β : Built) → n ≤ length β.cells → n ≤ length (flagged v c j k β).cells
  flagged_count j k β le = omega (arith, valued_count j k β le, (flag_extends v.place (arms_for j c.next) (valued v c j k β)).longer)

  pended_count : (j k : ℕ) (β : Built) → n ≤ length β.cells → n ≤ length (pended v c j k β).cells
  pended_count j k β le = omega (arith, flagged_count j k β le, (pending_extends v.place (arms_for j c.next) (flagged v c j k β).cells).longer)

  watched_longer : (j k : ℕ) (β : Built) → length (pended v c j k β).cells ≤ length (watched_now v c j k β).cells
  watched_longer j k β = (conflict_extends v.place (has_pending v c) (ref.Cell k) (arms_for j c.now) (record β { cells = (pended v c j k β).cells })).longer

  element_flag : (j k : ℕ) (β : Built) → k < n → Sound n β → MadeIsSound n (flagged v c j k β)
  element_flag j k β lt s = flag_sound n v.place (arms_for j c.next) (valued v c j k β) (nexts_at j (length (valued v c j k β)) (valued_count j k β s.count))
      (set_late n β.cells k (record { tree = value_tree v c j; place = v.place }) lt s.late)

  element_pending : (j k : ℕ) (β : Built) → k < n → Sound n β → MadeIsSound n (pended v c j k β)
  element_pending j k β lt s = pending_sound n v.place (arms_for j c.next) (flagged v c j k β).cells (nexts_at j (length (flagged v c j k β).cells) (flagged_count j k β s.count)) (element_flag j k β lt s).late

  element_now : (j k : ℕ) (β : Built) → k < n → Sound n β → LateNameEarlier n (watched_now v c j k β).cells
  element_now j k β lt s =
      let m : ℕ = length (pended v c j k β).cells in
      let le : n ≤ m = pended_count j k β s.count in
      conflict_late n v.place (has_pending v c) (ref.Cell k) (arms_for j c.now) (record β { cells = (pended v c j k β).cells }) (one_below m k (omega (arith, lt, le))) (nows_at j m le) (element_pending j k β lt s).late

  element_late : (j k : ℕ) (β : Built) → k < n → Sound n β → LateNameEarlier n (last_of v c j k β)
  element_late j k β lt s =
      let m : ℕ = length (watched_now v c j k β).cells in
      let longer : length (pended v c j k β).cells ≤ m = watched_longer j k β in
      conflict_late n v.place false (pended v c j k β).ref (arms_for j c.next) (watched_now v c j k β)
      (below_more (length (pended v c j k β).cells) m (cells_named (pended v c j k β).ref) longer (element_pending j k β lt s).ref)
      (nexts_at j m (omega (arith, pended_count j k β s.count, longer))) (element_now j k β lt s)

  element_sound : (j k : ℕ) (β : Built) → k < n → Sound n β → Sound n (closed_element v c j k β).built
  element_sound j k β lt s = record { count = omega (arith, s.count, (element_extends v c j k β).longer); late = element_late j k β lt s }

  element_monitors : (j k : ℕ) (β : Built) → MonitorsAreBelow (length β.cells) β.monitors → MonitorsAreBelow (length (last_of v c j k β)) (closed_element v c j k β).built.monitors
  element_monitors j k β hs =
      let x : Defined = record { tree = value_tree v c j; place = v.place } in
      let longer : length β.cells ≤ length (pended v c j k β).cells = omega (
        arith,
        set_longer β.cells k x,
        (flag_extends v.place (arms_for j c.next) (valued v c j k β)).longer,
        (pending_extends v.place (arms_for j c.next) (flagged v c j k β).cells).longer,
      ) in
      watched_monitors (can_conflict false (length (arms_for j c.next))) v.place (or_all (map (disagrees (pended v c j k β).ref) (arms_for j c.next))) (watched_now v c j k β)
      (watched_monitors (can_conflict (has_pending v c) (length (arms_for j c.now))) v.place (or_all (map (disagrees (ref.Cell k)) (arms_for j c.now))) (record β { cells = (pended v c j k β).cells })
      (monitors_more (length β.cells) (length (pended v c j k β).cells) β.monitors longer hs))

  -- ---- all elements

  from_monitors : (j : ℕ) (ks : List ℕ) (β : Built) → MonitorsAreBelow (length β.cells) β.monitors → MonitorsAreBelow (length (closed_from v c j ks β).built.cells) (closed_from v c j ks β).built.monitors
  from_monitors j [] β hs = hs
  from_monitors j (k ∷ ks) β hs = from_monitors (j + 1) ks (closed_element v c j k β).built (element_monitors j k β hs)

  from_sound : (j : ℕ) (ks : List ℕ) (β : Built) → AreDistinctBelow n ks → Sound n β → CopyIsSound n (closed_from v c j ks β)
  from_sound j [] β d s = record { late = s.late; given = All-nil (IsBelow n); flags = All-nil (IsBelow (length β.cells)); pending = All-nil (IsBelow (length β.cells)) }
  from_sound j (k ∷ ks) β d s =
      let rest : Copy = closed_from v c (j + 1) ks (closed_element v c j k β).built in
      let its : CopyIsSound n rest = from_sound (j + 1) ks (closed_element v c j k β).built d.2 (element_sound j k β d.0 s) in
      let m : ℕ = length rest.built.cells in
      let last : length (last_of v c j k β) ≤ m = (from_extends v c (j + 1) ks (closed_element v c j k β).built).longer in
      let flag_le : length (flagged v c j k β).cells ≤ m = omega (arith, last, (after_flag v c j k β).longer) in
      let pending_le : length (pended v c j k β).cells ≤ m = omega (arith, last, (after_pending v c j k β).longer) in
      record {
        late = its.late;
        given = All-cons (IsBelow n) (ref.Cell k) rest.values (one_below n k d.0) its.given;
        flags = All-cons (IsBelow m) (flagged v c j k β).ref rest.flags (below_more (length (flagged v c j k β).cells) m (cells_named (flagged v c j k β).ref) flag_le (element_flag j k β d.0 s).ref) its.flags;
        pending = All-cons (IsBelow m) (pended v c j k β).ref rest.pending (below_more (length (pended v c j k β).cells) m (cells_named (pended v c j k β).ref) pending_le (element_pending j k β d.0 s).ref) its.pending;
      }

  value_early : (j k : ℕ) (ks : List ℕ) (β : Built) → AreDistinctBelow n (k ∷ ks) → n ≤ length β.cells → (x : Defined) → slice_get (closed_from v c j (k ∷ ks) β).built.cells k ≡ Some x → Below n x.tree
  value_early j k ks β d le x is = subst (λ (y : Defined). Below n y.tree) (the_one (record { tree = value_tree v c j; place = v.place }) x (sym (value_there v c n j k ks β d le) ∙ is)) (value_below n v c j now)

  values_early : (j : ℕ) (ks : List ℕ) (β : Built) → AreDistinctBelow n ks → n ≤ length β.cells → (q : ℕ) (x : Defined) → is_among q ks ≡ true → slice_get (closed_from v c j ks β).built.cells q ≡ Some x → Below n x.tree
  values_early j [] β d le q x e is = absurd (cc)
  values_early j (k ∷ ks) β d le q x e is =
      let longer : n ≤ length (last_of v c j k β) = omega (arith, le, (element_extends v c j k β).longer) in
      by (q == k) refl e (λ f. values_early (j + 1) ks (closed_element v c j k β).built d.2 longer q x f is)
    where
      the_same : (q k : ℕ) → (q == k) ≡ true → q ≡ k
      the_same q k f = grind (arith, nat_tests, f)

      by : (b : Bool) → (q == k) ≡ b → (b || is_among q ks) ≡ true → (is_among q ks ≡ true → Below n x.tree) → Below n x.tree
      by true f g rest = value_early j k ks β d le x (sym (ap (slice_get (closed_from v c j (k ∷ ks) β).built.cells) (the_same q k f)) ∙ is)
      by false f g rest = rest g

pub closing_names_earlier : ClosingNamesEarlier
closing_names_earlier v c before names =
    let n : ℕ = length before.cells in
    let whole : Copy = closed_copy v c before in
    let s : Sound n before = record { count = omega arith; late = no_late before.cells } in
    let its : CopyIsSound n whole = from_sound v c n names.now names.next 0 c.values before names.reserved s in
    record {
      new = λ k d le dep. All-contains (λ x. x < k) (cells_in dep.0.tree) d (its.late k dep.0 le dep.1) dep.2;
      values = λ k d e dep. All-contains (λ x. x < n) (cells_in dep.0.tree) d (values_early v c n names.now names.next 0 c.values before names.reserved s.count k dep.0 e dep.1) dep.2;
      given = its.given;
      flags = its.flags;
      pending = its.pending;
      monitors = from_monitors v c n names.now names.next 0 c.values before;
    }
