-- What the cells of one element mean.
use Rattle.std.proofs.Common.{subst, ◌≡◌, inl, inr, ℕ, zero, suc, ◌≤◌, ℤ, pos, negsuc, Bool, true, false, List, [], ◌∷◌, ◌++◌, length, map, Option, Some, None, refl, sym, ap, ap₂, ◌∙◌, arith, append_assoc}
use Rattle.std.specs.Prelude.{not, ◌&&◌, ◌||◌, nat_lt, unwrap_or, is_some, filter, slice_get, if◌then◌else◌}
use Rattle.std.proofs.lemmas.Bool.Decides.{nat_tests}
use Rattle.std.proofs.lemmas.List.{append-nil}
use Rattle.quartz_tree.specs.declared.place.Place.{Place}
use Rattle.quartz_tree.specs.declared.declare.Storage.{Storage}
use Rattle.quartz_tree.specs.declared.declare.Storage.TheVariants.{Mem, Event}
use Rattle.quartz_tree.specs.declared.fault.Kind.TheVariants.{Conflict}
use Rattle.quartz_expr.specs.declared.act.Kept.{Kept}
use Rattle.quartz_expr.specs.Values.{of_bool, same_value}
use Rattle.quartz_expr.specs.Faults.{fault_if}
use Rattle.quartz_expr.specs.Resolve.{absence, differ, differs_from, first_of_all, resolved}
use Rattle.quartz_expr.proofs.LawLemmas.{same_refl}
use Rattle.aif_cells.specs.declared.reference.Ref.{Ref}
use Rattle.aif_cells.specs.declared.reference.Ref.TheVariants as ref
use Rattle.aif_cells.specs.declared.cells.Action.{Action}
use Rattle.aif_cells.specs.declared.cells.Monitor.{Monitor}
use Rattle.aif_cells.specs.Tree.{Tree, value, one, two, ite, sel, fit, bnot, cat, bits, cases}
use Rattle.aif_cells.specs.Worth.{Assignment, holds, one_holds, read, truth, worth}
use Rattle.aif_cells.specs.Solution.{MeetsFrom}
use Rattle.aif_cells.specs.Built.{Defined, given_or_new, is_not_nought, join, join_alone, or_all, reference_in}
use Rattle.aif_cells.proofs.WorthLemmas.{holds_of_bool}
use Rattle.absence_reaction.specs.declared.copy.VarCopy.{VarCopy}
use Rattle.absence_reaction.specs.declared.copy.Shape.{Shape}
use Rattle.absence_reaction.specs.Closing.{Built, absence_of, arm_before, arms_for, guard_for, can_conflict, conflict_made, disagrees, flag_made, flag_of, has_pending, pending_made, pending_of, register_of, value_tree, watched_by}
use Rattle.quartz_tree.specs.Storage.{is_memorized}
use Rattle.absence_reaction.specs.Meaning.{GoesOnAt, GuardsAreBits, IsBit, raised}
use Rattle.absence_reaction.proofs.WriteLemmas.{acting}

-- ---- the value

-- the value of a chain is the first value that is written
first_is : (σ : Assignment) (arms : List (Tree × Tree)) (b : Tree) → worth σ (cases arms b) ≡ unwrap_or (first_of_all (acting σ arms)) (worth σ b)
first_is σ [] b = refl
first_is σ (a ∷ arms) b = step (holds (worth σ a.0)) (worth σ a.1) (acting σ arms) (worth σ b) (worth σ (cases arms b)) (first_is σ arms b)
  where
    step : (t : Bool) (y : ℤ) (ys : List ℤ) (z w : ℤ) → w ≡ unwrap_or (first_of_all ys) z → (if t then y else w) ≡ unwrap_or (first_of_all (if t then y ∷ ys else ys)) z
    step true y ys z w e = refl
    step false y ys z w e = e

-- a pending value stands before what is written
flagged : (h : Bool) (y w z : ℤ) → w ≡ z → (if h then y else w) ≡ unwrap_or (if h then Some y else None) z
flagged true y w z e = refl
flagged false y w z e = e

abbrev start_of_copy : Storage → (stored : Bool) → (r : ℕ) → ℤ → Tree
start_of_copy s stored r z = if is_memorized s then (if stored then value (ref.Reg r) else value (ref.Lit z)) else value (ref.Lit (pos 0))

abbrev kept_in : Assignment → Storage → (stored delays : Bool) → (r f p : ℕ) → ℤ → Kept
kept_in σ s stored d r f p z = if stored
    then record {
      value = if is_memorized s then σ.registers r else pos 0;
      pending = if d && holds (σ.registers f) then Some (σ.registers p) else None;
    }
    else record { value = z; pending = None }

value_by : (σ : Assignment) (s : Storage) (stored d : Bool) (r f p : ℕ) (z : ℤ) (arms : List (Tree × Tree))
    → worth σ (if stored && d then ite (value (ref.Reg f)) (value (ref.Reg p)) (cases arms (start_of_copy s stored r z)) else cases arms (start_of_copy s stored r z))
    ≡ resolved s (kept_in σ s stored d r f p z) (acting σ arms)
value_by σ Mem true true r f p z arms = flagged (holds (σ.registers f)) (σ.registers p) _ _ (first_is σ arms (value (ref.Reg r)))
value_by σ Mem true false r f p z arms = first_is σ arms (value (ref.Reg r))
value_by σ Mem false d r f p z arms = first_is σ arms (value (ref.Lit z))
value_by σ Event true true r f p z arms = flagged (holds (σ.registers f)) (σ.registers p) _ _ (first_is σ arms (value (ref.Lit (pos 0))))
value_by σ Event true false r f p z arms = first_is σ arms (value (ref.Lit (pos 0)))
value_by σ Event false d r f p z arms = first_is σ arms (value (ref.Lit (pos 0)))

abbrev kept_before : Assignment → Shape → VarCopy → (j : ℕ) → Kept
kept_before σ v c j = kept_in σ v.storage c.stored v.delayed (register_of v c.first j) (flag_of v c.first j) (pending_of v c.first j) v.start

value_before : (σ : Assignment) (v : Shape) (c : VarCopy) (j : ℕ) → worth σ (value_tree v c j) ≡ resolved v.storage (kept_before σ v c j) (acting σ (arms_for j c.now))
value_before σ v c j = value_by σ v.storage c.stored v.delayed (register_of v c.first j) (flag_of v c.first j) (pending_of v c.first j) v.start (arms_for j c.now)

-- nothing depends on the kept value of an event
same_absence : (s : Storage) (z r : ℤ) → (s ≡ Mem → z ≡ r) → absence s (if is_memorized s then r else pos 0) ≡ absence s z
same_absence Mem z r h = sym (h refl)
same_absence Event z r h = refl

resolved_by : (s : Storage) (k l : Kept) (now : List ℤ) → k.pending ≡ l.pending → absence s k.value ≡ absence s l.value → resolved s k now ≡ resolved s l now
resolved_by s k l now e f = ap₂ (λ p z. unwrap_or p (unwrap_or (first_of_all now) z)) e f

goes_on : (σ : Assignment) (v : Shape) (c : VarCopy) (j : ℕ) (k : Kept) (stored : Bool) (now : List ℤ) → GoesOnAt stored σ v c j k
    → resolved v.storage (kept_in σ v.storage stored v.delayed (register_of v c.first j) (flag_of v c.first j) (pending_of v c.first j) v.start) now ≡ resolved v.storage k now
goes_on σ v c j k true now h = resolved_by v.storage _ k now (sym h.1) (same_absence v.storage k.value (σ.registers (register_of v c.first j)) h.0)
goes_on σ v c j k false now h = ap (λ l. resolved v.storage l now) (sym h)

pub value_is : (σ : Assignment) (v : Shape) (c : VarCopy) (j : ℕ) (k : Kept) → GoesOnAt c.stored σ v c j k → worth σ (value_tree v c j) ≡ resolved v.storage k (acting σ (arms_for j c.now))
value_is σ v c j k h = value_before σ v c j ∙ goes_on σ v c j k c.stored (acting σ (arms_for j c.now)) h

-- where nothing can be pending the value is the first one that is written
pub unpended : (σ : Assignment) (v : Shape) (c : VarCopy) (j : ℕ) → has_pending v c ≡ false → worth σ (value_tree v c j) ≡ unwrap_or (first_of_all (acting σ (arms_for j c.now))) (worth σ (absence_of v c j))
unpended σ v c j e = ap (λ b. worth σ (if b then ite (value (ref.Reg (flag_of v c.first j))) (value (ref.Reg (pending_of v c.first j))) (cases (arms_for j c.now) (absence_of v c j)) else cases (arms_for j c.now) (absence_of v c j))) e ∙ first_is σ (arms_for j c.now) (absence_of v c j)

-- ---- joins

or-false : (b : Bool) → (b || false) ≡ b
or-false true = refl
or-false false = refl

join_holds : (σ : Assignment) (ts : List Tree) → holds (worth σ (or_all ts)) ≡ one_holds σ ts
join_holds σ [] = refl
join_holds σ (t ∷ []) = sym (or-false (holds (worth σ t)))
join_holds σ (t ∷ u ∷ us) = holds_of_bool (holds (worth σ t) || holds (worth σ (or_all (u ∷ us)))) ∙ ap (λ b. holds (worth σ t) || b) (join_holds σ (u ∷ us))

-- a literal 0 doesn't hold
nought : (σ : Assignment) (t : Tree) → is_not_nought t ≡ false → holds (worth σ t) ≡ false
nought σ (value (ref.Lit (pos zero))) e = refl
nought σ (value (ref.Lit (pos (suc n)))) e = absurd (cc)
nought σ (value (ref.Lit (negsuc n))) e = absurd (cc)
nought σ (value (ref.Input i)) e = absurd (cc)
nought σ (value (ref.Reg i)) e = absurd (cc)
nought σ (value (ref.Cell i)) e = absurd (cc)
nought σ (one op a) e = absurd (cc)
nought σ (two op a b) e = absurd (cc)
nought σ (ite c a b) e = absurd (cc)
nought σ (sel i ts) e = absurd (cc)
nought σ (fit a low high) e = absurd (cc)
nought σ (bnot a n) e = absurd (cc)
nought σ (cat a b n) e = absurd (cc)
nought σ (bits a high low) e = absurd (cc)

-- noughts may be left out of a join
without_noughts : (σ : Assignment) (ts : List Tree) → one_holds σ (filter is_not_nought ts) ≡ one_holds σ ts
without_noughts σ [] = refl
without_noughts σ (t ∷ ts) = step (is_not_nought t) (nought σ t) (without_noughts σ ts)
  where
    step : (b : Bool) → (b ≡ false → holds (worth σ t) ≡ false) → one_holds σ (filter is_not_nought ts) ≡ one_holds σ ts → one_holds σ (if b then t ∷ filter is_not_nought ts else filter is_not_nought ts) ≡ (holds (worth σ t) || one_holds σ ts)
    step true z e = ap (λ b. holds (worth σ t) || b) e
    step false z e = e ∙ ap (λ b. b || one_holds σ ts) (sym (z refl))

-- a new cell stands behind the others
pub last_there : {A : Type 0} (xs : List A) (x : A) → slice_get (xs ++ x ∷ []) (length xs) ≡ Some x
last_there [] x = refl
last_there (y ∷ xs) x = last_there xs x

alone_is : (σ : Assignment) (t : Tree) (r : Ref) → reference_in t ≡ Some r → read σ r ≡ worth σ t
alone_is σ (value q) r e = ap (λ o. read σ (unwrap_or o r)) (sym e)
alone_is σ (one op a) r e = absurd (cc)
alone_is σ (two op a b) r e = absurd (cc)
alone_is σ (ite c a b) r e = absurd (cc)
alone_is σ (sel i ts) r e = absurd (cc)
alone_is σ (fit a low high) r e = absurd (cc)
alone_is σ (bnot a n) r e = absurd (cc)
alone_is σ (cat a b n) r e = absurd (cc)
alone_is σ (bits a high low) r e = absurd (cc)

joined_alone : (σ : Assignment) (ts : List Tree) (r : Ref) → join_alone ts ≡ Some r → read σ r ≡ worth σ (or_all ts)
joined_alone σ [] r e = ap (λ o. read σ (unwrap_or o r)) (sym e)
joined_alone σ (t ∷ []) r e = alone_is σ t r e
joined_alone σ (t ∷ u ∷ us) r e = absurd (cc)

given_is : (σ : Assignment) (n : ℕ) (o : Option Ref) (ts : List Tree) (p : Place) (cs : List Defined) → n ≤ length cs → join_alone ts ≡ o → MeetsFrom σ n (given_or_new o (or_all ts) p cs).cells → read σ (given_or_new o (or_all ts) p cs).ref ≡ worth σ (or_all ts)
given_is σ n (Some r) ts p cs h e met = joined_alone σ ts r e
given_is σ n None ts p cs h e met = met (length cs) (record { tree = or_all ts; place = p }) h (last_there cs (record { tree = or_all ts; place = p }))

join_truth : (σ : Assignment) (n : ℕ) (p : Place) (ts : List Tree) (cs : List Defined) → n ≤ length cs → MeetsFrom σ n (join p ts cs).cells → truth σ (join p ts cs).ref ≡ one_holds σ ts
join_truth σ n p ts cs h met =
    let left : List Tree = filter is_not_nought ts in
    ap holds (given_is σ n (join_alone left) left p cs h refl met) ∙ join_holds σ left ∙ without_noughts σ ts

-- ---- what is pending

guards_hold : (σ : Assignment) (arms : List (Tree × Tree)) → one_holds σ (map (λ a. a.0) arms) ≡ is_some (first_of_all (acting σ arms))
guards_hold σ [] = refl
guards_hold σ (a ∷ arms) = step (holds (worth σ a.0)) (worth σ a.1) (acting σ arms) (one_holds σ (map (λ a. a.0) arms)) (guards_hold σ arms)
  where
    step : (t : Bool) (y : ℤ) (ys : List ℤ) (b : Bool) → b ≡ is_some (first_of_all ys) → (t || b) ≡ is_some (first_of_all (if t then y ∷ ys else ys))
    step true y ys b e = refl
    step false y ys b e = e

pub pending_is : (σ : Assignment) (n : ℕ) (p : Place) (arms : List (Tree × Tree)) (cs : List Defined) → n ≤ length cs → MeetsFrom σ n (pending_made p arms cs).cells → read σ (pending_made p arms cs).ref ≡ unwrap_or (first_of_all (acting σ arms)) (pos 0)
pending_is σ n p [] cs h met = refl
pending_is σ n p (a ∷ arms) cs h met =
    let t : Tree = cases (a ∷ arms) (value (ref.Lit (pos 0))) in
    met (length cs) (record { tree = t; place = p }) h (last_there cs (record { tree = t; place = p })) ∙ first_is σ (a ∷ arms) (value (ref.Lit (pos 0)))

pub flag_is : (σ : Assignment) (n : ℕ) (p : Place) (arms : List (Tree × Tree)) (cs : List Defined) → n ≤ length cs → MeetsFrom σ n (flag_made p arms cs).cells → truth σ (flag_made p arms cs).ref ≡ is_some (first_of_all (acting σ arms))
flag_is σ n p arms cs h met = join_truth σ n p (map (λ a. a.0) arms) cs h met ∙ guards_hold σ arms

-- ---- flags of guards that are bits

bit_of : (b : Bool) → IsBit (of_bool b)
bit_of true = inr refl
bit_of false = inl refl

-- each tree has the value 0 or 1
abbrev TreesAreBits : Assignment → List Tree → Type 0
TreesAreBits σ [] = Unit {0}
TreesAreBits σ (t ∷ ts) = IsBit (worth σ t) × TreesAreBits σ ts

joined_bit : (σ : Assignment) (ts : List Tree) → TreesAreBits σ ts → IsBit (worth σ (or_all ts))
joined_bit σ [] h = inl refl
joined_bit σ (t ∷ []) h = h.0
joined_bit σ (t ∷ u ∷ us) h = bit_of _

bits_left : (σ : Assignment) (ts : List Tree) → TreesAreBits σ ts → TreesAreBits σ (filter is_not_nought ts)
bits_left σ [] h = tt
bits_left σ (t ∷ ts) h = step (is_not_nought t) (bits_left σ ts h.1)
  where
    step : (b : Bool) → TreesAreBits σ (filter is_not_nought ts) → TreesAreBits σ (if b then t ∷ filter is_not_nought ts else filter is_not_nought ts)
    step true k = (h.0, k)
    step false k = k

bits_before : (σ : Assignment) (o : Option Tree) (v : Ref) (arms : List (Tree × Tree)) → ((g : Tree) → o ≡ Some g → IsBit (worth σ g)) → TreesAreBits σ (map (λ a. a.0) arms) → TreesAreBits σ (map (λ a. a.0) (arm_before o v arms))
bits_before σ None v arms g h = h
bits_before σ (Some t) v arms g h = (g t refl, h)

guard_bit : (σ : Assignment) (j : ℕ) (r : Ref) (i : Option Ref) (g : Tree) → IsBit (read σ r) → guard_for j (value r) i ≡ Some g → IsBit (worth σ g)
guard_bit σ j r None g h e = subst (λ t. IsBit (worth σ (unwrap_or t g))) e h
guard_bit σ j r (Some (ref.Lit z)) g h e = fixed_bit (same_value z (pos j)) e
  where
    fixed_bit : (b : Bool) → (if b then Some (value r) else None) ≡ Some g → IsBit (worth σ g)
    fixed_bit true e = subst (λ t. IsBit (worth σ (unwrap_or t g))) e h
    fixed_bit false e = absurd (cc)
guard_bit σ j r (Some (ref.Input i)) g h e = subst (λ t. IsBit (worth σ (unwrap_or t g))) e (bit_of _)
guard_bit σ j r (Some (ref.Reg i)) g h e = subst (λ t. IsBit (worth σ (unwrap_or t g))) e (bit_of _)
guard_bit σ j r (Some (ref.Cell i)) g h e = subst (λ t. IsBit (worth σ (unwrap_or t g))) e (bit_of _)

arms_bits : (σ : Assignment) (j : ℕ) (actions : List Action) → GuardsAreBits σ actions → TreesAreBits σ (map (λ a. a.0) (arms_for j actions))
arms_bits σ j [] h = tt
arms_bits σ j (a ∷ more) h = bits_before σ (guard_for j (value a.guard) a.index) a.value (arms_for j more) (λ g e. guard_bit σ j a.guard a.index g h.0 e) (arms_bits σ j more h.1)

pub flag_bit : (σ : Assignment) (n : ℕ) (p : Place) (j : ℕ) (actions : List Action) (cs : List Defined) → n ≤ length cs → GuardsAreBits σ actions → MeetsFrom σ n (flag_made p (arms_for j actions) cs).cells → IsBit (read σ (flag_made p (arms_for j actions) cs).ref)
flag_bit σ n p j actions cs h g met =
    let left : List Tree = filter is_not_nought (map (λ a. a.0) (arms_for j actions)) in
    subst IsBit (sym (given_is σ n (join_alone left) left p cs h refl met)) (joined_bit σ left (bits_left σ (map (λ a. a.0) (arms_for j actions)) (arms_bits σ j actions g)))

-- ---- conflicts

disagreeing : (σ : Assignment) (r : Ref) (arms : List (Tree × Tree)) → one_holds σ (map (disagrees r) arms) ≡ differs_from (read σ r) (acting σ arms)
disagreeing σ r [] = refl
disagreeing σ r (a ∷ arms) =
    ap (λ b. b || one_holds σ (map (disagrees r) arms)) (holds_of_bool _ ∙ ap (λ b. holds (worth σ a.0) && b) (holds_of_bool (not (same_value (worth σ a.1) (read σ r)))))
    ∙ step (holds (worth σ a.0)) (disagreeing σ r arms)
  where
    step : (t : Bool) → one_holds σ (map (disagrees r) arms) ≡ differs_from (read σ r) (acting σ arms)
        → ((t && not (same_value (worth σ a.1) (read σ r))) || one_holds σ (map (disagrees r) arms)) ≡ differs_from (read σ r) (if t then worth σ a.1 ∷ acting σ arms else acting σ arms)
    step true e = ap (λ b. not (same_value (worth σ a.1) (read σ r)) || b) e
    step false e = e

raised-append : (σ : Assignment) (xs ys : List Monitor) → raised σ (xs ++ ys) ≡ raised σ xs ++ raised σ ys
raised-append σ [] ys = refl
raised-append σ (m ∷ xs) ys = ap (λ l. fault_if (holds (σ.cells m.cell)) m.kind m.place ++ l) (raised-append σ xs ys) ∙ sym (append_assoc (fault_if (holds (σ.cells m.cell)) m.kind m.place) (raised σ xs) (raised σ ys))

watched_is : (σ : Assignment) (n : ℕ) (p : Place) (t : Tree) (β : Built) → n ≤ length β.cells → MeetsFrom σ n (watched_by p t β).cells → raised σ (watched_by p t β).monitors ≡ raised σ β.monitors ++ fault_if (holds (worth σ t)) Conflict p
watched_is σ n p t β h met =
    let k : ℕ = length β.cells in
    raised-append σ β.monitors (record { cell = k; place = p; kind = Conflict } ∷ [])
    ∙ ap (λ l. raised σ β.monitors ++ l) (append-nil (fault_if (holds (σ.cells k)) Conflict p) ∙ ap (λ z. fault_if (holds z) Conflict p) (met k (record { tree = t; place = p }) h (last_there β.cells (record { tree = t; place = p }))))

conflict_by : (σ : Assignment) (n : ℕ) (p : Place) (t : Tree) (β : Built) (b x : Bool) → n ≤ length β.cells → holds (worth σ t) ≡ x → (b ≡ false → x ≡ false) → MeetsFrom σ n (if b then watched_by p t β else β).cells
    → raised σ (if b then watched_by p t β else β).monitors ≡ raised σ β.monitors ++ fault_if x Conflict p
conflict_by σ n p t β true x h e f met = watched_is σ n p t β h met ∙ ap (λ b. raised σ β.monitors ++ fault_if b Conflict p) e
conflict_by σ n p t β false x h e f met = sym (append-nil (raised σ β.monitors)) ∙ ap (λ b. raised σ β.monitors ++ fault_if b Conflict p) (sym (f refl))

pub conflict_is : (σ : Assignment) (n : ℕ) (p : Place) (beside : Bool) (r : Ref) (arms : List (Tree × Tree)) (β : Built) → n ≤ length β.cells
    → (can_conflict beside (length arms) ≡ false → differs_from (read σ r) (acting σ arms) ≡ false) → MeetsFrom σ n (conflict_made p beside r arms β).cells
    → raised σ (conflict_made p beside r arms β).monitors ≡ raised σ β.monitors ++ fault_if (differs_from (read σ r) (acting σ arms)) Conflict p
conflict_is σ n p beside r arms β h quiet met =
    conflict_by σ n p (or_all (map (disagrees r) arms)) β (can_conflict beside (length arms)) (differs_from (read σ r) (acting σ arms)) h (join_holds σ (map (disagrees r) arms) ∙ disagreeing σ r arms) quiet met

-- ---- no conflict where there is no monitor

acting_few : (σ : Assignment) (arms : List (Tree × Tree)) → length (acting σ arms) ≤ length arms
acting_few σ [] = omega arith
acting_few σ (a ∷ arms) = step (holds (worth σ a.0)) (worth σ a.1) (acting σ arms) (length arms) (acting_few σ arms)
  where
    step : (t : Bool) (y : ℤ) (ys : List ℤ) (n : ℕ) → length ys ≤ n → length (if t then y ∷ ys else ys) ≤ suc n
    step true y ys n h = omega (arith, h)
    step false y ys n h = omega (arith, h)

-- a value that is the first of the values, if there is one, differs from them as the first does
pub first_differs : (z d : ℤ) (ys : List ℤ) → z ≡ unwrap_or (first_of_all ys) d → differs_from z ys ≡ differ ys
first_differs z d [] e = refl
first_differs z d (y ∷ ys) e = ap (λ x. differs_from x (y ∷ ys)) e ∙ ap (λ b. not b || differs_from y ys) (same_refl y)

few_agree : (ys : List ℤ) → length ys ≤ 1 → differ ys ≡ false
few_agree [] h = refl
few_agree (y ∷ []) h = refl
few_agree (y ∷ u ∷ us) h = absurd (omega (arith, h))

few_written : (b : Bool) (n : ℕ) → can_conflict b n ≡ false → n ≤ 1
few_written true n e = let f : nat_lt 0 n ≡ false = e in grind (arith, nat_tests, f)
few_written false n e = let f : nat_lt 1 n ≡ false = e in grind (arith, nat_tests, f)

-- of the first of the values
pub quiet_alone : (σ : Assignment) (b : Bool) (z d : ℤ) (arms : List (Tree × Tree)) → can_conflict b (length arms) ≡ false → z ≡ unwrap_or (first_of_all (acting σ arms)) d → differs_from z (acting σ arms) ≡ false
quiet_alone σ b z d arms e f = first_differs z d (acting σ arms) f ∙ few_agree (acting σ arms) (omega (arith, acting_few σ arms, few_written b (length arms) e))

none_written : (n : ℕ) → nat_lt 0 n ≡ false → n ≤ 0
none_written n e = grind (arith, nat_tests, e)

-- beside a pending value
pub quiet_beside : (σ : Assignment) (z : ℤ) (arms : List (Tree × Tree)) → can_conflict true (length arms) ≡ false → differs_from z (acting σ arms) ≡ false
quiet_beside σ z [] e = refl
quiet_beside σ z (a ∷ arms) e = absurd (omega (arith, none_written (suc (length arms)) e))
