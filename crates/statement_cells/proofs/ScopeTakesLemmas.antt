-- What the registers of a scope take of its closed copy, and the store for which they then stand.
use Rattle.std.proofs.Common.{◌≡◌, ℕ, zero, suc, ◌+◌, ◌*◌, ◌≤◌, ◌<◌, ◌==◌, ◌&&◌, nat_lt, ℤ, pos, Bool, true, false, List, [], ◌∷◌, length, map, Option, Some, None, refl, sym, ap, ap₂, ◌∙◌, subst, arith}
use Rattle.std.specs.Prelude.{is_some, if◌then◌else◌}
use Rattle.std.proofs.lemmas.Bool.Decides.{nat_tests}
use Rattle.quartz_tree.specs.declared.declare.Storage.{Storage}
use Rattle.quartz_tree.specs.declared.declare.Storage.TheVariants.{Mem, Event}
use Rattle.quartz_expr.specs.declared.act.Act.{Act}
use Rattle.quartz_expr.specs.declared.act.Kept.{Kept}
use Rattle.quartz_expr.specs.Vars.{Vars, count_of, storage_of}
use Rattle.quartz_expr.specs.Resolve.{first_of_all, given_store, writes_of}
use Rattle.aif_cells.specs.declared.reference.Ref.{Ref}
use Rattle.aif_cells.specs.Worth.{Assignment, holds, number_at, read, truth}
use Rattle.absence_reaction.specs.declared.copy.Shape.{Shape}
use Rattle.absence_reaction.specs.Closing.{flag_of, one_if, pending_of, register_of, registers_each}
use Rattle.quartz_tree.specs.Storage.{is_memorized}
use Rattle.absence_reaction.specs.Meaning.{or_nought, pendings_of}
use Rattle.reincarnation.specs.declared.copy.ClosedRefs.{ClosedRefs}
use Rattle.statement_cells.specs.Labels.{is_delayed, scope_registers, shape_in}
use Rattle.statement_cells.specs.Stands.{Registers, kept_from, kept_in, plain_kept, plain_store, some_if, store_in}
use Rattle.statement_cells.specs.Walk.{Holds, Takes, TakesIn, else_takes, no_takes, or_else, ref_at, takes_copy, takes_element, takes_from, takes_if, takes_one}
use Rattle.statement_cells.proofs.MarkLemmas.{holds_first, holds_second, takes_both, takes_left, takes_none, takes_right}

-- ---- ranges

apart : (m n : ℕ) → (m ≡ n → ⊥) → (m == n) ≡ false
apart m n h = at (m == n) refl
  where
    same : (m == n) ≡ true → m ≡ n
    same e = grind (arith, nat_tests, e)

    at : (b : Bool) → (m == n) ≡ b → b ≡ false
    at true e = absurd (h (same e))
    at false e = refl

one_in : (v n r : ℕ) (z : ℤ) → v ≤ r → r < v + n → TakesIn v n (takes_one r z)
one_in v n r z g h = record {
  below = λ i p. ap (λ b. if b then Some z else None) (apart r i (λ e. less i p e));
  above = λ i p. ap (λ b. if b then Some z else None) (apart r i (λ e. more i p e));
}
  where
    less : (i : ℕ) → i < v → r ≡ i → ⊥
    less i p e = omega (arith, g, p, e)

    more : (i : ℕ) → v + n ≤ i → r ≡ i → ⊥
    more i p e = omega (arith, h, p, e)

pub if_in : (v n : ℕ) (b : Bool) (f : Takes) → (b ≡ true → TakesIn v n f) → TakesIn v n (takes_if b f)
if_in v n true f h = h refl
if_in v n false f h = takes_none v n

-- what takes behind a range takes nothing of it
pub free_before : (v a b : ℕ) (f g : Takes) → TakesIn v a f → TakesIn (v + a) b g → (r : ℕ) (z : ℤ) → g r ≡ Some z → f r ≡ None
free_before v a b f g p q r z e = at (nat_lt r (v + a)) refl
  where
    wrong : None ≡ Some z → ⊥
    wrong e = cc

    less : nat_lt r (v + a) ≡ true → r < v + a
    less h = grind (arith, nat_tests, h)

    more : nat_lt r (v + a) ≡ false → v + a ≤ r
    more h = grind (arith, nat_tests, h)

    at : (t : Bool) → nat_lt r (v + a) ≡ t → f r ≡ None
    at true h = absurd (wrong (sym (q.below r (less h)) ∙ e))
    at false h = p.above r (more h)

module _ (σ : Assignment) (s : Shape) (v : ℕ) (c : ClosedRefs) where
  element_in : (j : ℕ) → TakesIn (register_of s v j) (registers_each s) (takes_element σ s v j c)
  element_in j =
      let r : ℕ = register_of s v j in
      let n : ℕ = registers_each s in
      takes_both r n (takes_if (is_memorized s.storage) (takes_one r (read σ (ref_at c.values j))))
      (takes_if s.delayed (else_takes (takes_one (flag_of s v j) (read σ (ref_at c.flags j))) (takes_one (pending_of s v j) (read σ (ref_at c.pending j)))))
      (if_in r n (is_memorized s.storage) (takes_one r (read σ (ref_at c.values j))) (λ e. own e))
      (if_in r n s.delayed (else_takes (takes_one (flag_of s v j) (read σ (ref_at c.flags j))) (takes_one (pending_of s v j) (read σ (ref_at c.pending j))))
      (λ e. takes_both r n (takes_one (flag_of s v j) (read σ (ref_at c.flags j))) (takes_one (pending_of s v j) (read σ (ref_at c.pending j))) (flag e) (pending e)))
    where
      own : is_memorized s.storage ≡ true → TakesIn (register_of s v j) (registers_each s) (takes_one (register_of s v j) (read σ (ref_at c.values j)))
      own e = let f : one_if (is_memorized s.storage) ≡ 1 = ap one_if e in one_in (register_of s v j) (registers_each s) (register_of s v j) (read σ (ref_at c.values j)) (omega arith) (omega (arith, f))

      flag : s.delayed ≡ true → TakesIn (register_of s v j) (registers_each s) (takes_one (flag_of s v j) (read σ (ref_at c.flags j)))
      flag e = let f : one_if s.delayed ≡ 1 = ap one_if e in one_in (register_of s v j) (registers_each s) (flag_of s v j) (read σ (ref_at c.flags j)) (omega arith) (omega (arith, f))

      pending : s.delayed ≡ true → TakesIn (register_of s v j) (registers_each s) (takes_one (pending_of s v j) (read σ (ref_at c.pending j)))
      pending e = let f : one_if s.delayed ≡ 1 = ap one_if e in one_in (register_of s v j) (registers_each s) (pending_of s v j) (read σ (ref_at c.pending j)) (omega arith) (omega (arith, f))

  next_register : (j : ℕ) → register_of s v (j + 1) ≡ register_of s v j + registers_each s
  next_register j = omega arith

  from_in : (j n : ℕ) → TakesIn (register_of s v j) (n * registers_each s) (takes_from σ s v j n c)
  from_in j zero = takes_none (register_of s v j) (zero * registers_each s)
  from_in j (suc n) =
      let r : ℕ = register_of s v j in
      let m : ℕ = registers_each s in
      let rest : TakesIn (r + m) (n * m) (takes_from σ s v (j + 1) n c) = subst (λ q. TakesIn q (n * m) (takes_from σ s v (j + 1) n c)) (next_register j) (from_in (j + 1) n) in
      let size : m + n * m ≡ suc n * m = omega arith in
      subst (λ q. TakesIn r q (takes_from σ s v j (suc n) c)) size
      (takes_both r (m + n * m) (takes_element σ s v j c) (takes_from σ s v (j + 1) n c) (takes_left r m (n * m) (takes_element σ s v j c) (element_in j)) (takes_right r m (n * m) (takes_from σ s v (j + 1) n c) rest))

  -- registers that hold what a copy has hold what each element has
  pub element_holds : (j n i : ℕ) (k : Registers) → i < n → Holds (takes_from σ s v j n c) k → Holds (takes_element σ s v (j + i) c) k
  element_holds j zero i k l h = absurd (omega (arith, l))
  element_holds j (suc n) zero k l h = let e : j ≡ j + zero = omega arith in subst (λ q. Holds (takes_element σ s v q c) k) e (holds_first (takes_element σ s v j c) (takes_from σ s v (j + 1) n c) k h)
  element_holds j (suc n) (suc i) k l h =
      let e : (j + 1) + i ≡ j + suc i = omega arith in
      let m : ℕ = registers_each s in
      let rest : TakesIn (register_of s v j + m) (n * m) (takes_from σ s v (j + 1) n c) = subst (λ q. TakesIn q (n * m) (takes_from σ s v (j + 1) n c)) (next_register j) (from_in (j + 1) n) in
      subst (λ q. Holds (takes_element σ s v q c) k) e
      (element_holds (j + 1) n i k (omega (arith, l)) (holds_second (takes_element σ s v j c) (takes_from σ s v (j + 1) n c) k
      (free_before (register_of s v j) m (n * m) (takes_element σ s v j c) (takes_from σ s v (j + 1) n c) (element_in j) rest) h))

  -- without registers nothing is taken
  nothing_taken : (j n : ℕ) → n * registers_each s ≡ 0 → takes_from σ s v j n c ≡ no_takes
  nothing_taken j n e = λ i r. at r (nat_lt r (register_of s v j)) refl i
    where
      in_none : TakesIn (register_of s v j) 0 (takes_from σ s v j n c)
      in_none = subst (λ q. TakesIn (register_of s v j) q (takes_from σ s v j n c)) e (from_in j n)

      less : (r : ℕ) → nat_lt r (register_of s v j) ≡ true → r < register_of s v j
      less r h = grind (arith, nat_tests, h)

      more : (r : ℕ) → nat_lt r (register_of s v j) ≡ false → register_of s v j + 0 ≤ r
      more r h = grind (arith, nat_tests, h)

      at : (r : ℕ) (t : Bool) → nat_lt r (register_of s v j) ≡ t → takes_from σ s v j n c r ≡ None
      at r true h = in_none.below r (less r h)
      at r false h = in_none.above r (more r h)

-- ---- what is held

same : (r : ℕ) → (r == r) ≡ true
same r = grind (arith, nat_tests)

next_is_other : (r n : ℕ) → n ≡ r + 1 → (r == n) ≡ false
next_is_other r n e = grind (arith, nat_tests, e)

-- registers that take an element's value, flag and pending value hold them
pub three_held : (m d : Bool) (r f p : ℕ) (x y z : ℤ) (k : Registers) → f ≡ r + one_if m → p ≡ f + 1
    → Holds (else_takes (takes_if m (takes_one r x)) (takes_if d (else_takes (takes_one f y) (takes_one p z)))) k
    → (m ≡ true → k r ≡ x) × (d ≡ true → (k f ≡ y) × (k p ≡ z))
three_held m d r f p x y z k ef ep h = (own m h, λ e. (flag m d ef e h, pending m d ef e h))
  where
    own : (m : Bool) → Holds (else_takes (takes_if m (takes_one r x)) (takes_if d (else_takes (takes_one f y) (takes_one p z)))) k → m ≡ true → k r ≡ x
    own true h e = h r x (ap (λ b. or_else (if b then Some x else None) (takes_if d (else_takes (takes_one f y) (takes_one p z)) r)) (same r))
    own false h e = absurd (cc)

    flag_taken : or_else (takes_one f y f) (takes_one p z f) ≡ Some y
    flag_taken = ap (λ b. or_else (if b then Some y else None) (takes_one p z f)) (same f)

    pending_taken : or_else (takes_one f y p) (takes_one p z p) ≡ Some z
    pending_taken = ap₂ (λ a b. or_else (if a then Some y else None) (if b then Some z else None)) (next_is_other f p ep) (same p)

    beyond : (q : ℕ) → r < q → (r == q) ≡ false
    beyond q l = grind (arith, nat_tests, l)

    flag : (m d : Bool) → f ≡ r + one_if m → d ≡ true → Holds (else_takes (takes_if m (takes_one r x)) (takes_if d (else_takes (takes_one f y) (takes_one p z)))) k → k f ≡ y
    flag true true g e h = h f y (ap (λ b. or_else (if b then Some x else None) (or_else (takes_one f y f) (takes_one p z f))) (beyond f (omega (arith, g))) ∙ flag_taken)
    flag false true g e h = h f y flag_taken
    flag m false g e h = absurd (cc)

    pending : (m d : Bool) → f ≡ r + one_if m → d ≡ true → Holds (else_takes (takes_if m (takes_one r x)) (takes_if d (else_takes (takes_one f y) (takes_one p z)))) k → k p ≡ z
    pending true true g e h = h p z (ap (λ b. or_else (if b then Some x else None) (or_else (takes_one f y p) (takes_one p z p))) (beyond p (omega (arith, g, ep))) ∙ pending_taken)
    pending false true g e h = h p z pending_taken
    pending m false g e h = absurd (cc)

-- ---- the values of a closed copy

read_at : (σ : Assignment) (rs : List Ref) (j : ℕ) → read σ (ref_at rs j) ≡ number_at (map (read σ) rs) j
read_at σ [] j = refl
read_at σ (r ∷ rs) zero = refl
read_at σ (r ∷ rs) (suc j) = read_at σ rs j

same_truths : {a b : Bool} {as' bs : List Bool} → a ∷ as' ≡ b ∷ bs → (a ≡ b) × (as' ≡ bs)
same_truths e = (cc, cc)

same_numbers : {a b : ℤ} {as' bs : List ℤ} → a ∷ as' ≡ b ∷ bs → (a ≡ b) × (as' ≡ bs)
same_numbers e = (cc, cc)

module _ (σ : Assignment) (x : ℕ) (ws : List Act) where
  flag_at : (n : ℕ) (zs : List ℤ) (fs : List Ref) → map (truth σ) fs ≡ map is_some (pendings_of (given_store x ws n zs)) → (j : ℕ) → j < length zs → truth σ (ref_at fs j) ≡ is_some (first_of_all (writes_of x (n + j) true ws))
  flag_at n [] fs e j l = absurd (omega (arith, l))
  flag_at n (z ∷ zs) [] e j l = absurd (cc)
  flag_at n (z ∷ zs) (f ∷ fs) e zero l = let q : n ≡ n + zero = omega arith in (same_truths e).0 ∙ ap (λ m. is_some (first_of_all (writes_of x m true ws))) q
  flag_at n (z ∷ zs) (f ∷ fs) e (suc j) l = let q : (n + 1) + j ≡ n + suc j = omega arith in flag_at (n + 1) zs fs (same_truths e).1 j (omega (arith, l)) ∙ ap (λ m. is_some (first_of_all (writes_of x m true ws))) q

  pending_at : (n : ℕ) (zs : List ℤ) (ps : List Ref) → map (read σ) ps ≡ map or_nought (pendings_of (given_store x ws n zs)) → (j : ℕ) → j < length zs → read σ (ref_at ps j) ≡ or_nought (first_of_all (writes_of x (n + j) true ws))
  pending_at n [] ps e j l = absurd (omega (arith, l))
  pending_at n (z ∷ zs) [] e j l = absurd (cc)
  pending_at n (z ∷ zs) (p ∷ ps) e zero l = let q : n ≡ n + zero = omega arith in (same_numbers e).0 ∙ ap (λ m. or_nought (first_of_all (writes_of x m true ws))) q
  pending_at n (z ∷ zs) (p ∷ ps) e (suc j) l = let q : (n + 1) + j ≡ n + suc j = omega arith in pending_at (n + 1) zs ps (same_numbers e).1 j (omega (arith, l)) ∙ ap (λ m. or_nought (first_of_all (writes_of x m true ws))) q

-- ---- the store

abbrev kept_of : ℤ → Option ℤ → Kept
kept_of z o = record { value = z; pending = o }

pended : (b : Bool) (p : ℤ) (o : Option ℤ) → b ≡ is_some o → p ≡ or_nought o → some_if b p ≡ o
pended b p (Some z) e f = ap₂ (λ c q. some_if c q) e f
pended b p None e f = ap₂ (λ c q. some_if c q) e f

-- what registers keep of an element
kept_is : (st : Storage) (d : Bool) (r f p z : ℤ) (o : Option ℤ) → (is_memorized st ≡ true → r ≡ z) → (d ≡ true → (holds f ≡ is_some o) × (p ≡ or_nought o)) → (d ≡ false → o ≡ None)
    → kept_of (if is_memorized st then r else pos 0) (some_if (d && holds f) p) ≡ plain_kept st (kept_of z o)
kept_is st d r f p z o own next none = at st own (later d next none)
  where
    later : (d : Bool) → (d ≡ true → (holds f ≡ is_some o) × (p ≡ or_nought o)) → (d ≡ false → o ≡ None) → some_if (d && holds f) p ≡ o
    later true g n = pended (holds f) p o (g refl).0 (g refl).1
    later false g n = sym (n refl)

    at : (st : Storage) → (is_memorized st ≡ true → r ≡ z) → some_if (d && holds f) p ≡ o → kept_of (if is_memorized st then r else pos 0) (some_if (d && holds f) p) ≡ plain_kept st (kept_of z o)
    at Mem g e = ap₂ kept_of (g refl) e
    at Event g e = ap (kept_of (pos 0)) e

stored_from : (s : Shape) (k : Registers) (v x : ℕ) (ws : List Act) (j : ℕ) (zs : List ℤ)
    → ((i : ℕ) → i < length zs → kept_in s k v (j + i) ≡ plain_kept s.storage (kept_of (number_at zs i) (first_of_all (writes_of x (j + i) true ws))))
    → kept_from s k v j (length zs) ≡ map (plain_kept s.storage) (given_store x ws j zs)
stored_from s k v x ws j [] h = refl
stored_from s k v x ws j (z ∷ zs) h =
    let e : j + zero ≡ j = omega arith in
    let f : (i : ℕ) → j + suc i ≡ (j + 1) + i = λ i. omega arith in
    ap₂ (λ a l. a ∷ l) (subst (λ q. kept_in s k v q ≡ plain_kept s.storage (kept_of z (first_of_all (writes_of x q true ws)))) e (h zero (omega arith)))
    (stored_from s k v x ws (j + 1) zs (λ i l. subst (λ q. kept_in s k v q ≡ plain_kept s.storage (kept_of (number_at zs i) (first_of_all (writes_of x q true ws)))) (f i) (h (suc i) (omega (arith, l)))))

-- a closed copy has given values, and what the acts write for the next step
pub record Says (vs : Vars) (σ : Assignment) (x : ℕ) (ws : List Act) (zs : List ℤ) (c : ClosedRefs) : Type 0 where
  pub count : length zs ≡ count_of vs x
  pub values : map (read σ) c.values ≡ zs
  pub flags : map (truth σ) c.flags ≡ map is_some (pendings_of (given_store x ws 0 zs))
  pub pending : map (read σ) c.pending ≡ map or_nought (pendings_of (given_store x ws 0 zs))
  pub none : is_delayed vs x ≡ false → (j : ℕ) → writes_of x j true ws ≡ []

module _ (vs : Vars) (σ : Assignment) (x v : ℕ) where
  -- registers that hold what a copy has are the store of the given values
  pub store_taken : (ws : List Act) (zs : List ℤ) (c : ClosedRefs) → Says vs σ x ws zs c → (k : Registers) → Holds (takes_copy vs σ x v c) k → store_in vs x k v ≡ plain_store vs x (given_store x ws 0 zs)
  store_taken ws zs c says k h = ap (kept_from (shape_in vs x) k v 0) (sym says.count) ∙ stored_from (shape_in vs x) k v x ws 0 zs (λ j l. subst (λ q. kept_in (shape_in vs x) k v q ≡ plain_kept (storage_of vs x) (kept_of (number_at zs j) (first_of_all (writes_of x q true ws)))) (sym (nought j)) (each j l))
    where
      nought : (j : ℕ) → 0 + j ≡ j
      nought j = omega arith

      each : (j : ℕ) → j < length zs → kept_in (shape_in vs x) k v j ≡ plain_kept (storage_of vs x) (kept_of (number_at zs j) (first_of_all (writes_of x j true ws)))
      each j l =
          let s = shape_in vs x in
          let less : j < count_of vs x = omega (arith, l, says.count) in
          let own : Holds (takes_element σ s v j c) k = subst (λ q. Holds (takes_element σ s v q c) k) (nought j) (element_holds σ s v c 0 (count_of vs x) j k less h) in
          let three = three_held (is_memorized s.storage) s.delayed (register_of s v j) (flag_of s v j) (pending_of s v j) (read σ (ref_at c.values j)) (read σ (ref_at c.flags j)) (read σ (ref_at c.pending j)) k refl refl own in
          kept_is s.storage s.delayed (k (register_of s v j)) (k (flag_of s v j)) (k (pending_of s v j)) (number_at zs j) (first_of_all (writes_of x j true ws))
          (λ e. three.0 e ∙ read_at σ c.values j ∙ ap (λ l. number_at l j) says.values)
          (λ e. (ap holds (three.1 e).0 ∙ flag_at σ x ws 0 zs c.flags says.flags j l ∙ ap (λ q. is_some (first_of_all (writes_of x q true ws))) (nought j), (three.1 e).1 ∙ pending_at σ x ws 0 zs c.pending says.pending j l ∙ ap (λ q. or_nought (first_of_all (writes_of x q true ws))) (nought j)))
          (λ e. ap first_of_all (says.none e j))

  -- ---- the registers of a scope

  -- what a closed copy has, if its scope has registers
  abbrev pub if_registers : (registers : ℕ) → Takes → Takes
  if_registers zero f = no_takes
  if_registers (suc _) f = f

  abbrev pub takes_here : (n : ℕ) → ClosedRefs → Takes
  takes_here n c = if_registers (scope_registers vs n x) (takes_copy vs σ x v c)

  pub copy_in : (c : ClosedRefs) → TakesIn v (count_of vs x * registers_each (shape_in vs x)) (takes_copy vs σ x v c)
  copy_in c = let e : register_of (shape_in vs x) v 0 ≡ v = omega arith in subst (λ q. TakesIn q (count_of vs x * registers_each (shape_in vs x)) (takes_copy vs σ x v c)) e (from_in σ (shape_in vs x) v c 0 (count_of vs x))

  if_registers_in : (n : ℕ) (f : Takes) → TakesIn v n f → TakesIn v n (if_registers n f)
  if_registers_in zero f h = takes_none v zero
  if_registers_in (suc n) f h = h

  -- they lie among the scope's own registers
  pub here_in : (n : ℕ) (c : ClosedRefs) → TakesIn v (scope_registers vs n x) (takes_here n c)
  here_in zero c = takes_none v zero
  here_in (suc n) c = if_registers_in (count_of vs x * registers_each (shape_in vs x)) (takes_copy vs σ x v c) (copy_in c)

  if_registers_held : (n : ℕ) (f : Takes) (k : Registers) → (n ≡ zero → f ≡ no_takes) → Holds (if_registers n f) k → Holds f k
  if_registers_held zero f k e h = subst (λ g. Holds g k) (sym (e refl)) h
  if_registers_held (suc n) f k e h = h

  -- registers of a scope with a label that hold what its copy has are the store of the given values
  pub here_held : (n : ℕ) (ws : List Act) (zs : List ℤ) (c : ClosedRefs) → Says vs σ x ws zs c → (n ≡ zero → ⊥) → (k : Registers) → Holds (takes_here n c) k → store_in vs x k v ≡ plain_store vs x (given_store x ws 0 zs)
  here_held zero ws zs c says some k h = absurd (some refl)
  here_held (suc n) ws zs c says some k h = store_taken ws zs c says k
      (if_registers_held (count_of vs x * registers_each (shape_in vs x)) (takes_copy vs σ x v c) k (λ e. nothing_taken σ (shape_in vs x) v c 0 (count_of vs x) e) h)
