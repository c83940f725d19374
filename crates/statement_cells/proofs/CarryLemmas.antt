-- Registers that were told what they take hold what the carried copy has.
use Rattle.std.proofs.Common.{◌≡◌, ◌⊎◌, inl, inr, ℕ, zero, suc, ◌+◌, ◌*◌, ◌≤◌, ◌<◌, ◌==◌, nat_lt, ℤ, Bool, true, false, List, [], ◌∷◌, ◌++◌, length, map, Option, Some, None, refl, sym, ap, ap₂, ◌∙◌, subst, arith}
use Rattle.std.proofs.lemmas.Bool.Decides.{nat_tests}
use Rattle.std.specs.Prelude.{slice_get, if◌then◌else◌}
use Rattle.quartz_tree.specs.declared.declare.Storage.{Storage}
use Rattle.quartz_tree.specs.declared.declare.Storage.TheVariants.{Mem, Event}
use Rattle.quartz_tree.specs.declared.declare.Var.{Var}
use Rattle.quartz_expr.specs.declared.act.Act.{Act}
use Rattle.quartz_expr.specs.Vars.{Vars, storage_of}
use Rattle.quartz_expr.specs.Terms.{Store}
use Rattle.quartz_expr.specs.Resolve.{given_store, kept, resolved, resolved_store, values_of, writes_of}
use Rattle.quartz_expr.specs.Steps.{next_stores}
use Rattle.aif_cells.specs.declared.cells.Register.{Register}
use Rattle.aif_cells.specs.Aif.{elements_of}
use Rattle.aif_cells.specs.Solution.{IsSolution}
use Rattle.aif_cells.specs.Worth.{Assignment, read}
use Rattle.absence_reaction.specs.declared.copy.Shape.{Shape}
use Rattle.absence_reaction.specs.Closing.{flag_of, one_if, pending_of, register_of, registers_each, shape_of}
use Rattle.quartz_tree.specs.Storage.{is_memorized}
use Rattle.reincarnation.specs.declared.copy.ClosedRefs.{ClosedRefs}
use Rattle.reincarnation.specs.declared.copy.Entered.{Entered}
use Rattle.reincarnation.specs.Carrying.{Stores, carried, delayed_parts, parts_of, ref_in, value_part}
use Rattle.reincarnation.specs.Meaning.{TakesStoreOf, carried_copy, next_at, register_at}
use Rattle.reincarnation.proofs.MeaningLemmas.{carries_one_store, carrying_keeps}
use Rattle.statement_cells.specs.Stands.{Registers, plain_store}
use Rattle.statement_cells.specs.Walk.{Holds, Takes, TakesIn, else_takes, or_else, ref_at, takes_copy, takes_element, takes_from, takes_if, takes_one}
use Rattle.statement_cells.specs.Whole.{ClosedOutput, carried_in, output_registers, outputs_taken, variable_registers}
use Rattle.statement_cells.specs.Meaning.{next_of, next_registers, plain_stores, stores_of}
use Rattle.statement_cells.proofs.EndLemmas.{AllSay}
use Rattle.statement_cells.proofs.ScopeEnvLemmas.{length_map}
use Rattle.statement_cells.proofs.StartLemmas.{carried_start}
use Rattle.statement_cells.proofs.ScopeTakesLemmas.{copy_in, store_taken}
use Rattle.statement_cells.proofs.WholeLemmas.{outputs_kept}

-- ---- what registers hold

module _ (k : Registers) where
  pub holds_else : (f g : Takes) → Holds f k → Holds g k → Holds (else_takes f g) k
  holds_else f g hf hg r z e = at (f r) refl e
    where
      at : (o : Option ℤ) → f r ≡ o → or_else o (g r) ≡ Some z → k r ≡ z
      at (Some y) p q = hf r z (p ∙ q)
      at None p q = hg r z q

  pub holds_if : (b : Bool) (f : Takes) → (b ≡ true → Holds f k) → Holds (takes_if b f) k
  holds_if true f h r z e = h refl r z e
  holds_if false f h r z e = absurd (cc)

  holds_one : (n : ℕ) (z : ℤ) → k n ≡ z → Holds (takes_one n z) k
  holds_one n z h r y e = at (n == r) refl e
    where
      same : (n == r) ≡ true → n ≡ r
      same p = grind (arith, nat_tests, p)

      value : Some z ≡ Some y → z ≡ y
      value p = cc

      at : (b : Bool) → (n == r) ≡ b → (if b then Some z else None) ≡ Some y → k r ≡ y
      at true p q = ap k (sym (same p)) ∙ h ∙ value q
      at false p q = absurd (cc)

-- what takes registers of a range alone depends on them alone
pub holds_agree : (v n : ℕ) (f : Takes) (k j : Registers) → TakesIn v n f → ((r : ℕ) → v ≤ r → r < v + n → k r ≡ j r) → Holds f j → Holds f k
holds_agree v n f k j inside agree h r z e = below (nat_lt r v) refl
  where
    none : f r ≡ None → None ≡ Some z
    none p = sym p ∙ e

    wrong : None ≡ Some z → ⊥
    wrong p = cc

    less : nat_lt r v ≡ true → r < v
    less p = grind (arith, nat_tests, p)

    more : nat_lt r v ≡ false → v ≤ r
    more p = grind (arith, nat_tests, p)

    under : nat_lt r (v + n) ≡ true → r < v + n
    under p = grind (arith, nat_tests, p)

    over : nat_lt r (v + n) ≡ false → v + n ≤ r
    over p = grind (arith, nat_tests, p)

    above : (b : Bool) → nat_lt r (v + n) ≡ b → v ≤ r → k r ≡ z
    above true p q = agree r q (under p) ∙ h r z e
    above false p q = absurd (wrong (none (inside.above r (over p))))

    below : (b : Bool) → nat_lt r v ≡ b → k r ≡ z
    below true p = absurd (wrong (none (inside.below r (less p))))
    below false p = above (nat_lt r (v + n)) refl (more p)

-- ---- one variable

next_read : (σ : Assignment) (rs : List Register) (r : ℕ) → next_registers σ rs r ≡ read σ (next_at rs r)
next_read σ rs r = at (slice_get rs r) refl
  where
    at : (o : Option Register) → slice_get rs r ≡ o → next_registers σ rs r ≡ read σ (next_at rs r)
    at None e = rw e refl
    at (Some x) e = rw e refl

length_parts : (st : Storage) (d : Bool) → length (value_part st ++ delayed_parts d) ≡ one_if (is_memorized st) + (one_if d + one_if d)
length_parts Mem true = refl
length_parts Mem false = refl
length_parts Event true = refl
length_parts Event false = refl

-- registers from number r on hold these values
abbrev ListHeld : Registers → (r : ℕ) → List ℤ → Type 0
ListHeld k r [] = Unit {0}
ListHeld k r (z ∷ zs) = (k r ≡ z) × ListHeld k (r + 1) zs

list_held : {P : Type 0} (k : Registers) (f : P → ℤ) (parts : List P) (r : ℕ) → ((i : ℕ) (p : P) → slice_get parts i ≡ Some p → k (r + i) ≡ f p) → ListHeld k r (map f parts)
list_held k f [] r h = tt
list_held k f (p ∷ ps) r h =
    let e : r ≡ r + zero = omega arith in
    let g : (i : ℕ) → (r + 1) + i ≡ r + suc i = λ i. omega arith in
    (ap k e ∙ h zero p refl, list_held k f ps (r + 1) (λ i q is. ap k (g i) ∙ h (suc i) q is))

module _ (σ : Assignment) (c : ClosedRefs) (j : ℕ) (k : Registers) where
  abbrev taken_here : (m d : Bool) → (r f p : ℕ) → Takes
  taken_here m d r f p = else_takes (takes_if m (takes_one r (read σ (ref_at c.values j)))) (takes_if d (else_takes (takes_one f (read σ (ref_at c.flags j))) (takes_one p (read σ (ref_at c.pending j)))))

  three_hold : (m d : Bool) (r f p : ℕ) → (m ≡ true → k r ≡ read σ (ref_at c.values j)) → (d ≡ true → (k f ≡ read σ (ref_at c.flags j)) × (k p ≡ read σ (ref_at c.pending j))) → Holds (taken_here m d r f p) k
  three_hold m d r f p own next =
      holds_else k (takes_if m (takes_one r (read σ (ref_at c.values j)))) (takes_if d (else_takes (takes_one f (read σ (ref_at c.flags j))) (takes_one p (read σ (ref_at c.pending j)))))
      (holds_if k m (takes_one r (read σ (ref_at c.values j))) (λ e. holds_one k r (read σ (ref_at c.values j)) (own e)))
      (holds_if k d (else_takes (takes_one f (read σ (ref_at c.flags j))) (takes_one p (read σ (ref_at c.pending j))))
      (λ e. holds_else k (takes_one f (read σ (ref_at c.flags j))) (takes_one p (read σ (ref_at c.pending j))) (holds_one k f (read σ (ref_at c.flags j)) (next e).0) (holds_one k p (read σ (ref_at c.pending j)) (next e).1)))

  parts_hold : (st : Storage) (d : Bool) (r f p : ℕ) → f ≡ r + one_if (is_memorized st) → p ≡ f + 1 → ListHeld k r (map (λ q. read σ (ref_in j q c)) (value_part st ++ delayed_parts d)) → Holds (taken_here (is_memorized st) d r f p) k
  parts_hold Mem true r f p ef ep h = three_hold true true r f p (λ e. h.0) (λ e. (ap k ef ∙ h.1.0, ap k (ep ∙ ap (λ n. n + 1) ef) ∙ h.1.1.0))
  parts_hold Mem false r f p ef ep h = three_hold true false r f p (λ e. h.0) (λ e. absurd (cc))
  parts_hold Event true r f p ef ep h =
      let g : f ≡ r = omega (arith, ef) in
      three_hold false true r f p (λ e. absurd (cc)) (λ e. (ap k g ∙ h.0, ap k (ep ∙ ap (λ n. n + 1) g) ∙ h.1.0))
  parts_hold Event false r f p ef ep h = three_hold false false r f p (λ e. absurd (cc)) (λ e. absurd (cc))

module _ (σ : Assignment) (w : Var) (v : ℕ) (c : ClosedRefs) (rs : List Register) (all : TakesStoreOf σ w v c rs) where
  abbrev sh : Shape
  sh = shape_of w

  abbrev k : Registers
  k = next_registers σ rs

  element_held : (j : ℕ) → j < elements_of w → Holds (takes_element σ sh v j c) k
  element_held j l =
      let n : length (parts_of w) ≡ registers_each sh = length_parts w.decl.storage w.delayed in
      let first : register_of sh v j ≡ v + j * length (parts_of w) = ap (λ m. v + j * m) (sym n) in
      let own : (i : ℕ) → register_of sh v j + i ≡ register_at w v j i = λ i. ap (λ m. m + i) first in
      parts_hold σ c j k w.decl.storage w.delayed (register_of sh v j) (flag_of sh v j) (pending_of sh v j) refl refl
      (list_held k (λ q. read σ (ref_in j q c)) (parts_of w) (register_of sh v j) (λ i p is. ap k (own i) ∙ next_read σ rs (register_at w v j i) ∙ all j i p l is))

  elements_held : (j n : ℕ) → j + n ≤ elements_of w → Holds (takes_from σ sh v j n c) k
  elements_held j zero l = λ r z e. absurd (cc)
  elements_held j (suc n) l = holds_else k (takes_element σ sh v j c) (takes_from σ sh v (j + 1) n c) (element_held j (omega (arith, l))) (elements_held (j + 1) n (omega (arith, l)))

module _ (vs : Vars) (σ : Assignment) where
  get_some : {A : Type 0} (xs : List A) (n : ℕ) → n < length xs → slice_get xs n ≡ None → ⊥
  get_some [] n h e = omega (arith, h)
  get_some (x ∷ xs) zero h e = absurd (cc)
  get_some (x ∷ xs) (suc n) h e = get_some xs n (omega (arith, h)) e

  -- registers of a variable hold what the carried copy has
  pub carried_holds : (x : ℕ) (es : List Entered) (c : ClosedRefs) (v : ℕ) (τ : Stores) → x < length vs → v + variable_registers vs x ≤ length τ.registers → IsSolution σ (carried_in vs x es c v τ).cells
      → Holds (takes_copy vs σ x v (carried_copy σ es c)) (next_registers σ (carried_in vs x es c v τ).registers)
  carried_holds x es c v τ less = at (slice_get vs x) refl
    where
      at : (o : Option Var) → slice_get vs x ≡ o → v + variable_registers vs x ≤ length τ.registers → IsSolution σ (carried_in vs x es c v τ).cells
          → Holds (takes_copy vs σ x v (carried_copy σ es c)) (next_registers σ (carried_in vs x es c v τ).registers)
      at None e = absurd (get_some vs x less e)
      at (Some w) e = rw e (λ room sol.
          let n : ℕ = elements_of w in
          let same : n * length (parts_of w) ≡ n * registers_each (shape_of w) = ap (λ m. n * m) (length_parts w.decl.storage w.delayed) in
          elements_held σ w v (carried_copy σ es c) (carried w es c v τ).registers
          (carries_one_store w es c v τ σ (omega (arith, room, same)) (λ q d le is. sol q d is refl)) 0 n (omega arith))

  -- all others take what they took
  pub carried_others : (x : ℕ) (es : List Entered) (c : ClosedRefs) (v : ℕ) (τ : Stores) (r : ℕ) → (r < v) ⊎ (v + variable_registers vs x ≤ r) → slice_get (carried_in vs x es c v τ).registers r ≡ slice_get τ.registers r
  carried_others x es c v τ r = at (slice_get vs x) refl
    where
      at : (o : Option Var) → slice_get vs x ≡ o → (r < v) ⊎ (v + variable_registers vs x ≤ r) → slice_get (carried_in vs x es c v τ).registers r ≡ slice_get τ.registers r
      at None e = rw e (λ h. refl)
      at (Some w) e = rw e (λ h.
          let n : ℕ = elements_of w in
          let same : n * length (parts_of w) ≡ n * registers_each (shape_of w) = ap (λ m. n * m) (length_parts w.decl.storage w.delayed) in
          (carrying_keeps w es c v τ).others r (elim h [ inl a ↦ inl a | inr b ↦ inr (omega (arith, b, same)) ]))

  -- ---- the outputs

  abbrev pub AllLess : List ℕ → Type 0
  AllLess [] = Unit {0}
  AllLess (x ∷ xs) = (x < length vs) × AllLess xs

  pub outputs_others : (xs : List ℕ) (v : ℕ) (ws : List Act) (os : List ClosedOutput) (zs : List (List ℤ)) (τ : Stores) (r : ℕ) → AllSay vs σ xs v ws os zs
      → (r < v) ⊎ (v + output_registers vs xs ≤ r) → slice_get (outputs_taken vs os τ).registers r ≡ slice_get τ.registers r
  outputs_others [] v ws [] [] τ r say h = refl
  outputs_others (x ∷ xs) v ws (o ∷ os) (z ∷ zs) τ r say h =
      outputs_others xs (v + variable_registers vs x) ws os zs (carried_in vs o.var [] o.closed o.first τ) r say.3 (elim h [ inl a ↦ inl (omega (arith, a)) | inr b ↦ inr (omega (arith, b)) ])
      ∙ ap (λ (m : Stores). slice_get m.registers r) (ap₂ (λ y u. carried_in vs y [] o.closed u τ) say.0 say.1)
      ∙ carried_others x [] o.closed v τ r (elim h [ inl a ↦ inl a | inr b ↦ inr (omega (arith, b)) ])
  outputs_others [] v ws (o ∷ os) zs τ r say h = absurd say
  outputs_others [] v ws [] (z ∷ zs) τ r say h = absurd say
  outputs_others (x ∷ xs) v ws [] zs τ r say h = absurd say
  outputs_others (x ∷ xs) v ws (o ∷ os) [] τ r say h = absurd say

  given_resolved : (st : Storage) (x : ℕ) (ws : List Act) (n : ℕ) (s : Store) → given_store x ws n (values_of (resolved_store st x ws n s)) ≡ resolved_store st x ws n s
  given_resolved st x ws n [] = refl
  given_resolved st x ws n (a ∷ s) = ap (λ l. kept (resolved st a (writes_of x n false ws)) (writes_of x n true ws) ∷ l) (given_resolved st x ws (n + 1) s)

  same_lists : {a b : List ℤ} {l m : List (List ℤ)} → a ∷ l ≡ b ∷ m → (a ≡ b) × (l ≡ m)
  same_lists e = (cc, cc)

  pub length_carried : (x : ℕ) (es : List Entered) (c : ClosedRefs) (v : ℕ) (τ : Stores) → length (carried_in vs x es c v τ).registers ≡ length τ.registers
  length_carried x es c v τ = sym (length_map (λ y. y.initial) (carried_in vs x es c v τ).registers) ∙ ap length (carried_start vs x es c v τ) ∙ length_map (λ y. y.initial) τ.registers

  -- the registers of outputs stand for the stores that the acts resolve
  pub outputs_stand : (xs : List ℕ) (v : ℕ) (ws : List Act) (ss : List Store) (os : List ClosedOutput) (zs : List (List ℤ)) (τ : Stores) (k : Registers) → AllSay vs σ xs v ws os zs → AllLess xs
      → zs ≡ map values_of (next_stores vs xs ws ss) → v + output_registers vs xs ≤ length τ.registers → IsSolution σ (outputs_taken vs os τ).cells
      → ((r : ℕ) → v ≤ r → r < v + output_registers vs xs → k r ≡ next_registers σ (outputs_taken vs os τ).registers r)
      → plain_stores vs xs (next_stores vs xs ws ss) ≡ stores_of vs xs v k
  outputs_stand [] v ws ss [] [] τ k say less e room sol agree = refl
  outputs_stand (x ∷ xs) v ws (s ∷ ss) (o ∷ os) (z ∷ zs) τ k say less e room sol agree =
      let n : ℕ = variable_registers vs x in
      let τ' : Stores = carried_in vs o.var [] o.closed o.first τ in
      let here : τ' ≡ carried_in vs x [] o.closed v τ = ap₂ (λ y u. carried_in vs y [] o.closed u τ) say.0 say.1 in
      let size : length τ'.registers ≡ length τ.registers = length_carried o.var [] o.closed o.first τ in
      let solved : IsSolution σ (carried_in vs x [] o.closed v τ).cells = subst (λ (m : Stores). IsSolution σ m.cells) here (λ q d is b. sol q d (outputs_kept vs os τ' q d is) b) in
      let own : Holds (takes_copy vs σ x v o.closed) k = holds_agree v n (takes_copy vs σ x v o.closed) k (next_registers σ (carried_in vs x [] o.closed v τ).registers) (copy_in vs σ x v o.closed)
      (λ r g h. agree r g (omega (arith, h)) ∙ ap (next_of σ) (outputs_others xs (v + n) ws os zs τ' r say.3 (inl h) ∙ ap (λ (m : Stores). slice_get m.registers r) here))
      (carried_holds x [] o.closed v τ less.0 (omega (arith, room)) solved) in
      let value : z ≡ values_of (resolved_store (storage_of vs x) x ws 0 s) = (same_lists e).0 in
      ap₂ (λ a l. a ∷ l)
      (ap (plain_store vs x) (sym (given_resolved (storage_of vs x) x ws 0 s) ∙ ap (given_store x ws 0) (sym value)) ∙ sym (store_taken vs σ x v ws z o.closed say.2 k own))
      (outputs_stand xs (v + n) ws ss os zs τ' k say.3 less.1 (same_lists e).1 (omega (arith, room, size)) sol (λ r g h. agree r (omega (arith, g)) (omega (arith, h))))
  outputs_stand (x ∷ xs) v ws [] (o ∷ os) (z ∷ zs) τ k say less e room sol agree = absurd (cc)
  outputs_stand [] v ws ss (o ∷ os) zs τ k say less e room sol agree = absurd say
  outputs_stand [] v ws ss [] (z ∷ zs) τ k say less e room sol agree = absurd say
  outputs_stand (x ∷ xs) v ws ss [] zs τ k say less e room sol agree = absurd say
  outputs_stand (x ∷ xs) v ws ss (o ∷ os) [] τ k say less e room sol agree = absurd say
