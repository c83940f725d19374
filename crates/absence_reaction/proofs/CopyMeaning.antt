-- Closing is resolving.
use Rattle.std.proofs.Common.{◌≡◌, ℕ, zero, suc, ◌+◌, ◌<◌, ◌≤◌, ℤ, pos, Bool, true, false, List, [], ◌∷◌, ◌++◌, length, map, Option, Some, None, refl, sym, ap, ap₂, ◌∙◌, arith, append_assoc, length-append}
use Rattle.std.specs.Prelude.{is_some, ◌||◌, ◌==◌, unwrap_or, filter, slice_get, slice_set, if◌then◌else◌}
use Rattle.std.proofs.lemmas.Bool.Decides.{nat_tests}
use Rattle.std.proofs.lemmas.List.{append-nil}
use Rattle.quartz_tree.specs.declared.place.Place.{Place}
use Rattle.quartz_tree.specs.declared.fault.Fault.{Fault}
use Rattle.quartz_tree.specs.declared.fault.Kind.TheVariants.{Conflict}
use Rattle.quartz_expr.specs.declared.act.Act.{Act}
use Rattle.quartz_expr.specs.declared.act.Kept.{Kept}
use Rattle.quartz_expr.specs.Terms.{Store}
use Rattle.quartz_expr.specs.Faults.{fault_if}
use Rattle.quartz_expr.specs.Resolve.{conflicts, differs_from, first_of_all, given_store, resolved, resolved_store, store_conflicts, values_of, writes_of}
use Rattle.aif_cells.specs.declared.reference.Ref.{Ref}
use Rattle.aif_cells.specs.declared.reference.Ref.TheVariants as ref
use Rattle.aif_cells.specs.declared.cells.Monitor.{Monitor}
use Rattle.aif_cells.specs.Tree.{Tree}
use Rattle.aif_cells.specs.Worth.{Assignment, read, truth, worth}
use Rattle.aif_cells.specs.Built.{Defined, Made, given_or_new, is_not_nought, join_alone, or_all}
use Rattle.aif_cells.specs.Solution.{Extends, MeetsFrom}
use Rattle.aif_cells.proofs.SolutionLemmas.{there}
use Rattle.absence_reaction.specs.declared.copy.VarCopy.{VarCopy}
use Rattle.absence_reaction.specs.declared.copy.Shape.{Shape}
use Rattle.absence_reaction.specs.Closing.{Built, arms_for, can_conflict, closed_copy, closed_element, closed_from, conflict_made, flag_made, has_pending, pending_made, value_tree, watched_by}
use Rattle.absence_reaction.specs.Meaning.{AreBits, AreDistinctBelow, AreWritesOf, ClosingGoesBack, ClosingKeeps, ClosingResolves, FlagsAreBits, GoesOnAt, GoesOnFrom, GuardsAreBits, IsBit, WriteAlike, copy_acts, given_values, is_among, or_nought, pendings_of, raised, tree_worth, worth_in}
use Rattle.absence_reaction.proofs.WriteLemmas.{acting, now_written, next_written}
use Rattle.absence_reaction.proofs.ElementMeaning.{conflict_is, first_differs, flag_bit, flag_is, pending_is, quiet_alone, quiet_beside, unpended, value_is}
use Rattle.quartz_expr.proofs.TruthLemmas.{or_parts}
use Rattle.aif_cells.proofs.ItemLemmas.{get_before, set_longer}

-- ---- what stays as it was

abbrev none_free : ℕ → Bool
none_free k = false

abbrev is_cell : ℕ → ℕ → Bool
is_cell n k = k == n

-- what was extended, and what was then extended
follow : (f : ℕ → Bool) {a b c : List Defined} → Extends f a b → Extends f b c → Extends f a c
follow f p q = record {
  longer = omega (arith, p.longer, q.longer);
  kept = λ k h e. q.kept k (omega (arith, p.longer, h)) e ∙ p.kept k h e;
}

-- more may be free
loosened : (f g : ℕ → Bool) {a b : List Defined} → ((k : ℕ) → g k ≡ false → f k ≡ false) → Extends f a b → Extends g a b
loosened f g h p = record { longer = p.longer; kept = λ k i e. p.kept k i (h k e) }

same_extends : (f : ℕ → Bool) (a : List Defined) → Extends f a a
same_extends f a = record { longer = omega arith; kept = λ k h e. refl }

appended : (xs ys : List Defined) → Extends none_free xs (xs ++ ys)
appended xs ys = record { longer = omega (arith, length-append xs ys); kept = λ k h e. get_before xs ys k h }

pub get_other : (cs : List Defined) (n k : ℕ) (x : Defined) → (k == n) ≡ false → slice_get (slice_set cs n x) k ≡ slice_get cs k
get_other [] n k x e = refl
get_other (c ∷ cs) zero zero x e = absurd (cc)
get_other (c ∷ cs) zero (suc k) x e = refl
get_other (c ∷ cs) (suc n) zero x e = refl
get_other (c ∷ cs) (suc n) (suc k) x e = get_other cs n k x (step n k e)
  where
    step : (n k : ℕ) → (suc k == suc n) ≡ false → (k == n) ≡ false
    step n k e = grind (arith, nat_tests, e)

get_set : (cs : List Defined) (k : ℕ) (x : Defined) → k < length cs → slice_get (slice_set cs k x) k ≡ Some x
get_set [] k x h = absurd (omega (arith, h))
get_set (c ∷ cs) zero x h = refl
get_set (c ∷ cs) (suc k) x h = get_set cs k x (omega (arith, h))

set_extends : (cs : List Defined) (n : ℕ) (x : Defined) → Extends (is_cell n) cs (slice_set cs n x)
set_extends cs n x = record { longer = omega (arith, set_longer cs n x); kept = λ k h e. get_other cs n k x e }

given_extends : (o : Option Ref) (t : Tree) (p : Place) (cs : List Defined) → Extends none_free cs (given_or_new o t p cs).cells
given_extends (Some r) t p cs = same_extends none_free cs
given_extends None t p cs = appended cs (record { tree = t; place = p } ∷ [])

pub flag_extends : (p : Place) (arms : List (Tree × Tree)) (cs : List Defined) → Extends none_free cs (flag_made p arms cs).cells
flag_extends p arms cs = let left : List Tree = filter is_not_nought (map (λ a. a.0) arms) in given_extends (join_alone left) (or_all left) p cs

pub pending_extends : (p : Place) (arms : List (Tree × Tree)) (cs : List Defined) → Extends none_free cs (pending_made p arms cs).cells
pending_extends p [] cs = same_extends none_free cs
pending_extends p (a ∷ arms) cs = given_extends None _ p cs

watched_extends : (b : Bool) (p : Place) (t : Tree) (β : Built) → Extends none_free β.cells (if b then watched_by p t β else β).cells
watched_extends true p t β = appended β.cells (record { tree = t; place = p } ∷ [])
watched_extends false p t β = same_extends none_free β.cells

pub conflict_extends : (p : Place) (beside : Bool) (r : Ref) (arms : List (Tree × Tree)) (β : Built) → Extends none_free β.cells (conflict_made p beside r arms β).cells
conflict_extends p beside r arms β = watched_extends (can_conflict beside (length arms)) p _ β

-- ---- the cells of an element, step by step

abbrev pub valued : Shape → VarCopy → (j k : ℕ) → Built → List Defined
valued v c j k β = slice_set β.cells k (record { tree = value_tree v c j; place = v.place })

abbrev pub flagged : Shape → VarCopy → (j k : ℕ) → Built → Made
flagged v c j k β = flag_made v.place (arms_for j c.next) (valued v c j k β)

abbrev pub pended : Shape → VarCopy → (j k : ℕ) → Built → Made
pended v c j k β = pending_made v.place (arms_for j c.next) (flagged v c j k β).cells

abbrev pub watched_now : Shape → VarCopy → (j k : ℕ) → Built → Built
watched_now v c j k β = conflict_made v.place (has_pending v c) (ref.Cell k) (arms_for j c.now) (record β { cells = (pended v c j k β).cells })

abbrev pub last_of : Shape → VarCopy → (j k : ℕ) → Built → List Defined
last_of v c j k β = (closed_element v c j k β).built.cells

after_first : (v : Shape) (c : VarCopy) (j k : ℕ) (β : Built) → Extends none_free (watched_now v c j k β).cells (last_of v c j k β)
after_first v c j k β = conflict_extends v.place false (pended v c j k β).ref (arms_for j c.next) (watched_now v c j k β)

pub after_pending : (v : Shape) (c : VarCopy) (j k : ℕ) (β : Built) → Extends none_free (pended v c j k β).cells (last_of v c j k β)
after_pending v c j k β = follow none_free (conflict_extends v.place (has_pending v c) (ref.Cell k) (arms_for j c.now) (record β { cells = (pended v c j k β).cells })) (after_first v c j k β)

pub after_flag : (v : Shape) (c : VarCopy) (j k : ℕ) (β : Built) → Extends none_free (flagged v c j k β).cells (last_of v c j k β)
after_flag v c j k β = follow none_free (pending_extends v.place (arms_for j c.next) (flagged v c j k β).cells) (after_pending v c j k β)

after_value : (v : Shape) (c : VarCopy) (j k : ℕ) (β : Built) → Extends none_free (valued v c j k β) (last_of v c j k β)
after_value v c j k β = follow none_free (flag_extends v.place (arms_for j c.next) (valued v c j k β)) (after_flag v c j k β)

pub element_extends : (v : Shape) (c : VarCopy) (j k : ℕ) (β : Built) → Extends (is_cell k) β.cells (last_of v c j k β)
element_extends v c j k β = follow (is_cell k) (set_extends β.cells k (record { tree = value_tree v c j; place = v.place })) (loosened none_free (is_cell k) (λ q e. refl) (after_value v c j k β))

pub from_extends : (v : Shape) (c : VarCopy) (j : ℕ) (ks : List ℕ) (β : Built) → Extends (λ q. is_among q ks) β.cells (closed_from v c j ks β).built.cells
from_extends v c j [] β = same_extends (λ q. false) β.cells
from_extends v c j (k ∷ ks) β = follow (λ q. is_among q (k ∷ ks))
    (loosened (is_cell k) (λ q. is_among q (k ∷ ks)) (λ q e. (or_parts (q == k) (is_among q ks) e).0) (element_extends v c j k β))
    (loosened (λ q. is_among q ks) (λ q. is_among q (k ∷ ks)) (λ q e. (or_parts (q == k) (is_among q ks) e).1) (from_extends v c (j + 1) ks (closed_element v c j k β).built))

-- ---- monitors come behind those that were there

abbrev Added : (before after : List Monitor) → Type 0
Added before after = (more : List Monitor) × (after ≡ before ++ more)

none_added : (ms : List Monitor) → Added ms ms
none_added ms = ([], sym (append-nil ms))

added_twice : (a b c : List Monitor) → Added a b → Added b c → Added a c
added_twice a b c p q = (p.0 ++ q.0, q.1 ∙ ap (λ l. l ++ q.0) p.1 ∙ append_assoc a p.0 q.0)

watched_added : (b : Bool) (p : Place) (t : Tree) (β : Built) → Added β.monitors (if b then watched_by p t β else β).monitors
watched_added true p t β = (record { cell = length β.cells; place = p; kind = Conflict } ∷ [], refl)
watched_added false p t β = none_added β.monitors

element_added : (v : Shape) (c : VarCopy) (j k : ℕ) (β : Built) → Added β.monitors (closed_element v c j k β).built.monitors
element_added v c j k β = added_twice β.monitors (watched_now v c j k β).monitors (closed_element v c j k β).built.monitors
    (watched_added (can_conflict (has_pending v c) (length (arms_for j c.now))) v.place _ (record β { cells = (pended v c j k β).cells }))
    (watched_added (can_conflict false (length (arms_for j c.next))) v.place _ (watched_now v c j k β))

from_added : (v : Shape) (c : VarCopy) (j : ℕ) (ks : List ℕ) (β : Built) → Added β.monitors (closed_from v c j ks β).built.monitors
from_added v c j [] β = none_added β.monitors
from_added v c j (k ∷ ks) β = added_twice β.monitors (closed_element v c j k β).built.monitors (closed_from v c j (k ∷ ks) β).built.monitors (element_added v c j k β) (from_added v c (j + 1) ks (closed_element v c j k β).built)

pub closing_keeps : ClosingKeeps
closing_keeps v c before =
    let added : Added before.monitors (closed_copy v c before).built.monitors = from_added v c 0 c.values before in
    record { cells = from_extends v c 0 c.values before; more = added.0; monitors = added.1 }

pub closing_goes_back : ClosingGoesBack
closing_goes_back v c before σ free meets k d is bound =
    let both : (free k ≡ false) × (is_among k c.values ≡ false) = or_parts (free k) (is_among k c.values) bound in
    meets k d ((from_extends v c 0 c.values before).kept k (there before.cells k d is) both.1 ∙ is) both.0

-- ---- one element

met_down : (σ : Assignment) (n : ℕ) (f : ℕ → Bool) {a b : List Defined} → Extends f a b → ((k : ℕ) → n ≤ k → f k ≡ false) → MeetsFrom σ n b → MeetsFrom σ n a
met_down σ n f {a} p h met k d le is = met k d le (p.kept k (there a k d is) (h k le) ∙ is)

always : (n : ℕ) → (k : ℕ) → n ≤ k → none_free k ≡ false
always n k le = refl

pending_read : (σ : Assignment) (n : ℕ) (v : Shape) (c : VarCopy) (j k : ℕ) (β : Built) → n ≤ length β.cells → MeetsFrom σ n (last_of v c j k β)
    → read σ (pended v c j k β).ref ≡ unwrap_or (first_of_all (acting σ (arms_for j c.next))) (pos 0)
pending_read σ n v c j k β h met =
    let le : n ≤ length (flagged v c j k β).cells = omega (arith, h, set_longer β.cells k (record { tree = value_tree v c j; place = v.place }), (flag_extends v.place (arms_for j c.next) (valued v c j k β)).longer) in
    pending_is σ n v.place (arms_for j c.next) (flagged v c j k β).cells le (met_down σ n none_free (after_pending v c j k β) (always n) met)

element_flag : (σ : Assignment) (n : ℕ) (v : Shape) (c : VarCopy) (j k : ℕ) (β : Built) → n ≤ length β.cells → MeetsFrom σ n (last_of v c j k β)
    → truth σ (closed_element v c j k β).flag ≡ is_some (first_of_all (acting σ (arms_for j c.next)))
element_flag σ n v c j k β h met =
    let le : n ≤ length (valued v c j k β) = omega (arith, h, set_longer β.cells k (record { tree = value_tree v c j; place = v.place })) in
    flag_is σ n v.place (arms_for j c.next) (valued v c j k β) le (met_down σ n none_free (after_flag v c j k β) (always n) met)

element_bit : (σ : Assignment) (n : ℕ) (v : Shape) (c : VarCopy) (j k : ℕ) (β : Built) → n ≤ length β.cells → GuardsAreBits σ c.next → MeetsFrom σ n (last_of v c j k β)
    → IsBit (read σ (closed_element v c j k β).flag)
element_bit σ n v c j k β h g met =
    let le : n ≤ length (valued v c j k β) = omega (arith, h, set_longer β.cells k (record { tree = value_tree v c j; place = v.place })) in
    flag_bit σ n v.place j c.next (valued v c j k β) le g (met_down σ n none_free (after_flag v c j k β) (always n) met)

quiet_now : (σ : Assignment) (v : Shape) (c : VarCopy) (j : ℕ) (z : ℤ) (b : Bool) → has_pending v c ≡ b → z ≡ worth σ (value_tree v c j) → can_conflict b (length (arms_for j c.now)) ≡ false → differs_from z (acting σ (arms_for j c.now)) ≡ false
quiet_now σ v c j z true e own f = quiet_beside σ z (arms_for j c.now) f
quiet_now σ v c j z false e own f = quiet_alone σ false z _ (arms_for j c.now) f (own ∙ unpended σ v c j e)

element_conflicts : (σ : Assignment) (n : ℕ) (v : Shape) (c : VarCopy) (j k : ℕ) (β : Built) → n ≤ length β.cells → MeetsFrom σ n (last_of v c j k β) → σ.cells k ≡ worth σ (value_tree v c j)
    → raised σ (closed_element v c j k β).built.monitors ≡ raised σ β.monitors ++ conflicts v.place (σ.cells k) (acting σ (arms_for j c.now)) (acting σ (arms_for j c.next))
element_conflicts σ n v c j k β h met own =
    let ys : List ℤ = acting σ (arms_for j c.now) in
    let zs : List ℤ = acting σ (arms_for j c.next) in
    let z : ℤ = read σ (pended v c j k β).ref in
    let start : List Fault = raised σ β.monitors in
    let pr : z ≡ unwrap_or (first_of_all zs) (pos 0) = pending_read σ n v c j k β h met in
    let le1 : n ≤ length (pended v c j k β).cells = omega (
      arith,
      h,
      set_longer β.cells k (record { tree = value_tree v c j; place = v.place }),
      (flag_extends v.place (arms_for j c.next) (valued v c j k β)).longer,
      (pending_extends v.place (arms_for j c.next) (flagged v c j k β).cells).longer,
    ) in
    let le2 : n ≤ length (watched_now v c j k β).cells = omega (arith, le1, (conflict_extends v.place (has_pending v c) (ref.Cell k) (arms_for j c.now) (record β { cells = (pended v c j k β).cells })).longer) in
    conflict_is σ n v.place false (pended v c j k β).ref (arms_for j c.next) (watched_now v c j k β) le2 (λ e. quiet_alone σ false z (pos 0) (arms_for j c.next) e pr) met
    ∙ ap (λ l. l ++ fault_if (differs_from z zs) Conflict v.place)
    (conflict_is σ n v.place (has_pending v c) (ref.Cell k) (arms_for j c.now) (record β { cells = (pended v c j k β).cells }) le1 (λ e. quiet_now σ v c j (σ.cells k) (has_pending v c) refl own e) (met_down σ n none_free (after_first v c j k β) (always n) met))
    ∙ append_assoc start (fault_if (differs_from (σ.cells k) ys) Conflict v.place) (fault_if (differs_from z zs) Conflict v.place)
    ∙ ap (λ b. start ++ (fault_if (differs_from (σ.cells k) ys) Conflict v.place ++ fault_if b Conflict v.place)) (first_differs z (pos 0) zs pr)

-- ---- all elements

pub not_among : (n q : ℕ) (ks : List ℕ) → AreDistinctBelow n ks → n ≤ q → is_among q ks ≡ false
not_among n q [] d h = refl
not_among n q (k ∷ ks) d h = ap (λ b. b || is_among q ks) (above k d.0) ∙ not_among n q ks d.2 h
  where
    above : (j : ℕ) → j < n → (q == j) ≡ false
    above j l = grind (arith, nat_tests, l, h)

-- the tree of a value cell
pub value_there : (v : Shape) (c : VarCopy) (n j k : ℕ) (ks : List ℕ) (β : Built) → AreDistinctBelow n (k ∷ ks) → n ≤ length β.cells
    → slice_get (closed_from v c j (k ∷ ks) β).built.cells k ≡ Some (record { tree = value_tree v c j; place = v.place })
value_there v c n j k ks β d h =
    let x : Defined = record { tree = value_tree v c j; place = v.place } in
    let there1 : k < length β.cells = omega (arith, d.0, h) in
    let there2 : k < length (valued v c j k β) = omega (arith, there1, set_longer β.cells k x) in
    let there3 : k < length (last_of v c j k β) = omega (arith, there2, (after_value v c j k β).longer) in
    (from_extends v c (j + 1) ks (closed_element v c j k β).built).kept k there3 d.1 ∙ (after_value v c j k β).kept k there2 refl ∙ get_set β.cells k x there1

-- the given value of each cell is the wanted one
abbrev Own : Assignment → List Defined → List ℕ → Type 0
Own σ cs [] = Unit {0}
Own σ cs (k ∷ ks) = (σ.cells k ≡ tree_worth σ cs k) × Own σ cs ks

module _ (σ : Assignment) (v : Shape) (c : VarCopy) (ws : List Act) (now : AreWritesOf c.var false (length c.values) c.now) (next : AreWritesOf c.var true (length c.values) c.next) (alike : WriteAlike c.var (length c.values) ws (copy_acts σ c)) (n : ℕ) where
  now_are : (j : ℕ) → j < length c.values → acting σ (arms_for j c.now) ≡ writes_of c.var j false ws
  now_are j h = sym (alike j false h ∙ now_written σ c j now next h)

  next_are : (j : ℕ) → j < length c.values → acting σ (arms_for j c.next) ≡ writes_of c.var j true ws
  next_are j h = sym (alike j true h ∙ next_written σ c j now next h)

  element_value : (j : ℕ) (k : Kept) → GoesOnAt c.stored σ v c j k → j < length c.values → worth σ (value_tree v c j) ≡ resolved v.storage k (writes_of c.var j false ws)
  element_value j k g h = value_is σ v c j k g ∙ ap (resolved v.storage k) (now_are j h)

  values_from : (j : ℕ) (ks : List ℕ) (s : Store) (β : Built) → j + length ks ≡ length c.values → AreDistinctBelow n ks → n ≤ length β.cells → GoesOnFrom σ v c j s ks
      → map (tree_worth σ (closed_from v c j ks β).built.cells) ks ≡ values_of (resolved_store v.storage c.var ws j s)
  values_from j [] [] β e d h g = refl
  values_from j [] (x ∷ s) β e d h g = absurd g
  values_from j (k ∷ ks) [] β e d h g = absurd g
  values_from j (k ∷ ks) (x ∷ s) β e d h g =
      let below : j < length c.values = omega (arith, e) in
      let counts : j + 1 + length ks ≡ length c.values = omega (arith, e) in
      let longer : n ≤ length (last_of v c j k β) = omega (arith, h, (element_extends v c j k β).longer) in
      ap₂ (λ x l. x ∷ l) (ap (worth_in σ) (value_there v c n j k ks β d h) ∙ element_value j x g.0 below) (values_from (j + 1) ks s (closed_element v c j k β).built counts d.2 longer g.1)

  met_element : (j k : ℕ) (ks : List ℕ) (β : Built) → AreDistinctBelow n ks → MeetsFrom σ n (closed_from v c j (k ∷ ks) β).built.cells → MeetsFrom σ n (last_of v c j k β)
  met_element j k ks β d met = met_down σ n (λ q. is_among q ks) (from_extends v c (j + 1) ks (closed_element v c j k β).built) (λ q le. not_among n q ks d le) met

  flags_from : (j : ℕ) (ks : List ℕ) (zs : List ℤ) (β : Built) → length zs ≡ length ks → j + length ks ≡ length c.values → AreDistinctBelow n ks → n ≤ length β.cells → MeetsFrom σ n (closed_from v c j ks β).built.cells
      → map (truth σ) (closed_from v c j ks β).flags ≡ map is_some (pendings_of (given_store c.var ws j zs))
  flags_from j [] [] β l e d h met = refl
  flags_from j [] (z ∷ zs) β l e d h met = absurd (omega (arith, l))
  flags_from j (k ∷ ks) [] β l e d h met = absurd (omega (arith, l))
  flags_from j (k ∷ ks) (z ∷ zs) β l e d h met =
      let below : j < length c.values = omega (arith, e) in
      let counts : j + 1 + length ks ≡ length c.values = omega (arith, e) in
      let longer : n ≤ length (last_of v c j k β) = omega (arith, h, (element_extends v c j k β).longer) in
      ap₂ (λ x l. x ∷ l) (element_flag σ n v c j k β h (met_element j k ks β d.2 met) ∙ ap (λ ys. is_some (first_of_all ys)) (next_are j below))
      (flags_from (j + 1) ks zs (closed_element v c j k β).built (omega (arith, l)) counts d.2 longer met)

  pending_from : (j : ℕ) (ks : List ℕ) (zs : List ℤ) (β : Built) → length zs ≡ length ks → j + length ks ≡ length c.values → AreDistinctBelow n ks → n ≤ length β.cells → MeetsFrom σ n (closed_from v c j ks β).built.cells
      → map (read σ) (closed_from v c j ks β).pending ≡ map or_nought (pendings_of (given_store c.var ws j zs))
  pending_from j [] [] β l e d h met = refl
  pending_from j [] (z ∷ zs) β l e d h met = absurd (omega (arith, l))
  pending_from j (k ∷ ks) [] β l e d h met = absurd (omega (arith, l))
  pending_from j (k ∷ ks) (z ∷ zs) β l e d h met =
      let below : j < length c.values = omega (arith, e) in
      let counts : j + 1 + length ks ≡ length c.values = omega (arith, e) in
      let longer : n ≤ length (last_of v c j k β) = omega (arith, h, (element_extends v c j k β).longer) in
      ap₂ (λ x l. x ∷ l) (pending_read σ n v c j k β h (met_element j k ks β d.2 met) ∙ ap (λ ys. or_nought (first_of_all ys)) (next_are j below))
      (pending_from (j + 1) ks zs (closed_element v c j k β).built (omega (arith, l)) counts d.2 longer met)

  conflicts_from : (j : ℕ) (ks : List ℕ) (β : Built) → j + length ks ≡ length c.values → AreDistinctBelow n ks → n ≤ length β.cells → MeetsFrom σ n (closed_from v c j ks β).built.cells → Own σ (closed_from v c j ks β).built.cells ks
      → raised σ (closed_from v c j ks β).built.monitors ≡ raised σ β.monitors ++ store_conflicts v.place c.var ws j (map (read σ) (closed_from v c j ks β).values)
  conflicts_from j [] β e d h met own = sym (append-nil (raised σ β.monitors))
  conflicts_from j (k ∷ ks) β e d h met own =
      let below : j < length c.values = omega (arith, e) in
      let counts : j + 1 + length ks ≡ length c.values = omega (arith, e) in
      let longer : n ≤ length (last_of v c j k β) = omega (arith, h, (element_extends v c j k β).longer) in
      let its : σ.cells k ≡ worth σ (value_tree v c j) = own.0 ∙ ap (worth_in σ) (value_there v c n j k ks β d h) in
      let rest : List Fault = store_conflicts v.place c.var ws (j + 1) (map (read σ) (closed_from v c (j + 1) ks (closed_element v c j k β).built).values) in
      let ys : List ℤ = acting σ (arms_for j c.now) in
      let zs : List ℤ = acting σ (arms_for j c.next) in
      conflicts_from (j + 1) ks (closed_element v c j k β).built counts d.2 longer met own.1
      ∙ ap (λ l. l ++ rest) (element_conflicts σ n v c j k β h (met_element j k ks β d.2 met) its)
      ∙ append_assoc (raised σ β.monitors) (conflicts v.place (σ.cells k) ys zs) rest
      ∙ ap₂ (λ a b. raised σ β.monitors ++ (conflicts v.place (σ.cells k) a b ++ rest)) (now_are j below) (next_are j below)

-- ---- the theorem

given_are : (v : Shape) (c : VarCopy) (j : ℕ) (ks : List ℕ) (β : Built) → (closed_from v c j ks β).values ≡ map ref.Cell ks
given_are v c j [] β = refl
given_are v c j (k ∷ ks) β = ap (λ l. ref.Cell k ∷ l) (given_are v c (j + 1) ks (closed_element v c j k β).built)

same_items : {x y : ℤ} {xs ys : List ℤ} → x ∷ xs ≡ y ∷ ys → (x ≡ y) × (xs ≡ ys)
same_items e = (cc, cc)

own_of : (σ : Assignment) (cs : List Defined) (ks : List ℕ) → map (read σ) (map ref.Cell ks) ≡ map (tree_worth σ cs) ks → Own σ cs ks
own_of σ cs [] e = tt
own_of σ cs (k ∷ ks) e = let both = same_items e in (both.0, own_of σ cs ks both.1)

as_many : (σ : Assignment) (ks : List ℕ) → length (map (read σ) (map ref.Cell ks)) ≡ length ks
as_many σ [] = refl
as_many σ (k ∷ ks) = ap suc (as_many σ ks)

pub closing_resolves : ClosingResolves
closing_resolves v c s ws before σ suits goes alike met =
    let n : ℕ = length before.cells in
    let cs : List Defined = (closed_copy v c before).built.cells in
    let zs : List ℤ = given_values σ (closed_copy v c before) in
    let count : 0 + length c.values ≡ length c.values = omega arith in
    let same : n ≤ length before.cells = omega arith in
    let given : (closed_copy v c before).values ≡ map ref.Cell c.values = given_are v c 0 c.values before in
    let many : length zs ≡ length c.values = ap (λ l. length (map (read σ) l)) given ∙ as_many σ c.values in
    record {
      given = given;
      values = values_from σ v c ws suits.now suits.next alike n 0 c.values s before count suits.reserved same goes;
      flags = flags_from σ v c ws suits.now suits.next alike n 0 c.values zs before many count suits.reserved same met;
      pending = pending_from σ v c ws suits.now suits.next alike n 0 c.values zs before many count suits.reserved same met;
      conflicts = λ e. conflicts_from σ v c ws suits.now suits.next alike n 0 c.values before count suits.reserved same met (own_of σ cs c.values (sym (ap (map (read σ)) given) ∙ e));
    }

bits_from : (σ : Assignment) (v : Shape) (c : VarCopy) (n j : ℕ) (ks : List ℕ) (β : Built) → AreDistinctBelow n ks → n ≤ length β.cells → GuardsAreBits σ c.next → MeetsFrom σ n (closed_from v c j ks β).built.cells
    → AreBits (map (read σ) (closed_from v c j ks β).flags)
bits_from σ v c n j [] β d h g met = tt
bits_from σ v c n j (k ∷ ks) β d h g met =
    let longer : n ≤ length (last_of v c j k β) = omega (arith, h, (element_extends v c j k β).longer) in
    let its : MeetsFrom σ n (last_of v c j k β) = met_down σ n (λ q. is_among q ks) (from_extends v c (j + 1) ks (closed_element v c j k β).built) (λ q le. not_among n q ks d.2 le) met in
    (element_bit σ n v c j k β h g its, bits_from σ v c n (j + 1) ks (closed_element v c j k β).built d.2 longer g met)

pub flags_are_bits : FlagsAreBits
flags_are_bits v c before σ d g met = bits_from σ v c (length before.cells) 0 c.values before d (omega arith) g met
