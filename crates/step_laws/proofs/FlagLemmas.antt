-- The flags of registers are bits behind each copy that is carried.
use Rattle.std.proofs.Common.{◌≡◌, ◌⊎◌, inl, inr, ℕ, zero, suc, ◌+◌, ◌≤◌, ◌<◌, ◌==◌, ℤ, Bool, true, false, List, [], ◌∷◌, length, map, Option, Some, None, refl, sym, ap, ap₂, ◌∙◌, subst, arith}
use Rattle.std.specs.Prelude.{slice_get, if◌then◌else◌}
use Rattle.std.proofs.lemmas.Bool.Decides.{nat_tests}
use Rattle.quartz_tree.specs.declared.declare.Var.{Var}
use Rattle.quartz_expr.specs.declared.act.Act.{Act}
use Rattle.quartz_expr.specs.Vars.{Vars, count_of}
use Rattle.quartz_expr.specs.Terms.{Term, nothing, pause, write, choose, seq, par, loop, abort, suspend, scope, Terms, none, part}
use Rattle.aif_cells.specs.Solution.{IsSolution}
use Rattle.aif_cells.specs.declared.reference.Ref.{Ref}
use Rattle.aif_cells.specs.Worth.{Assignment, read, truth}
use Rattle.absence_reaction.specs.Meaning.{AreBits, IsBit}
use Rattle.absence_reaction.specs.declared.copy.Shape.{Shape}
use Rattle.absence_reaction.specs.Closing.{flag_of, pending_of, register_of}
use Rattle.quartz_tree.specs.Storage.{is_memorized}
use Rattle.reincarnation.specs.declared.copy.ClosedRefs.{ClosedRefs}
use Rattle.reincarnation.specs.Carrying.{Stores}
use Rattle.reincarnation.specs.Meaning.{carried_copy}
use Rattle.statement_cells.specs.Labels.{is_delayed, labels, registers, registers_all, scope_registers, shape_in}
use Rattle.statement_cells.specs.Builder.{DepthCopy, EnteredCopy}
use Rattle.statement_cells.specs.Stands.{Registers}
use Rattle.statement_cells.specs.Walk.{Holds, ref_at, takes_copy}
use Rattle.statement_cells.specs.Whole.{ClosedOutput, all_scopes_taken, carried_in, depth_taken, depths_at, entered_at, output_registers, outputs_taken, scope_taken, scopes_taken, variable_registers}
use Rattle.statement_cells.specs.Meaning.{next_of, next_registers}
use Rattle.statement_cells.proofs.CarryLemmas.{AllLess, carried_holds, carried_others, holds_agree, length_carried, outputs_others}
use Rattle.statement_cells.proofs.EndLemmas.{AllSay}
use Rattle.statement_cells.proofs.PlacedLemmas.{At, AtAll}
use Rattle.statement_cells.proofs.ScopeHoldLemmas.{AllD, Inside, inside, inside_all, scope_is}
use Rattle.statement_cells.proofs.ScopeTakesLemmas.{copy_in, element_holds, three_held}
use Rattle.statement_cells.proofs.ScopeEnvLemmas.{length_map}
use Rattle.statement_cells.proofs.StartLemmas.{scope_start, scopes_start}
use Rattle.statement_cells.proofs.WholeLemmas.{all_scopes_kept, depth_kept, outputs_kept, scopes_kept}
use Rattle.aif_cells.proofs.SolutionLemmas.{there}
use Rattle.step_laws.specs.Bits.{HasBitFlags, IsOutputAt}
use Rattle.step_laws.proofs.BodyLemmas.{OutputFlags}
use Rattle.step_laws.proofs.MadeLemmas.{DepthFlags, EnteredFlags, FlagsOf}
use Rattle.macro_steps.proofs.CarryRangeLemmas.{element_inside, delayed_one}

-- ---- the flags of one variable

-- it depends on the variable's registers alone
flag_same : (vs : Vars) (x v : ℕ) (k j : Registers) → HasBitFlags vs x v k → ((r : ℕ) → v ≤ r → r < v + variable_registers vs x → j r ≡ k r) → HasBitFlags vs x v j
flag_same vs x v k j h same i l e =
    let s : Shape = shape_in vs x in
    let room = element_inside s v i (count_of vs x) l in
    let one = delayed_one s e in
    subst IsBit (sym (same (flag_of s v i) (omega arith) (omega (arith, room, one)))) (h i l e)

flag_at : (σ : Assignment) (rs : List Ref) (j : ℕ) → AreBits (map (read σ) rs) → IsBit (read σ (ref_at rs j))
flag_at σ [] j h = inl refl
flag_at σ (r ∷ rs) zero h = h.0
flag_at σ (r ∷ rs) (suc j) h = flag_at σ rs j h.1

-- registers that hold what a copy has whose flags are bits
copy_flags : (vs : Vars) (σ : Assignment) (x v : ℕ) (c : ClosedRefs) (k : Registers) → FlagsOf vs σ c → Holds (takes_copy vs σ x v c) k → HasBitFlags vs x v k
copy_flags vs σ x v c k free held j l e =
    let s : Shape = shape_in vs x in
    let nought : 0 + j ≡ j = omega arith in
    let own = element_holds σ s v c 0 (count_of vs x) j k l held in
    let three = three_held (is_memorized s.storage) s.delayed (register_of s v (0 + j)) (flag_of s v (0 + j)) (pending_of s v (0 + j)) (read σ (ref_at c.values (0 + j))) (read σ (ref_at c.flags (0 + j))) (read σ (ref_at c.pending (0 + j))) k refl refl own in
    subst (λ q. IsBit (k (flag_of s v q))) nought (subst IsBit (sym (three.1 e).0) (flag_at σ c.flags (0 + j) free))

-- ---- where scopes lie

-- registers of two variables are the same ones, or lie apart
abbrev Apart : Vars → (x a y b : ℕ) → Type 0
Apart vs x a y b = ((x ≡ y) × (a ≡ b)) ⊎ ((a + variable_registers vs x ≤ b) ⊎ (b + variable_registers vs y ≤ a))

module _ (vs : Vars) (σ : Assignment) where
  in_turn : (v n m x a y b : ℕ) → Inside vs σ v n x a → Inside vs σ (v + n) m y b → Apart vs x a y b
  in_turn v n m x a y b i j = let p = i.to in let q = j.from in inr (inl (omega (arith, p, q)))

  turned : (v n m x a y b : ℕ) → Inside vs σ (v + n) m x a → Inside vs σ v n y b → Apart vs x a y b
  turned v n m x a y b i j = let p = i.from in let q = j.to in inr (inr (omega (arith, p, q)))

  own_first : (z v n m x a y b : ℕ) → x ≡ z → a ≡ v → n ≡ variable_registers vs z → Inside vs σ (v + n) m y b → Apart vs x a y b
  own_first z v n m x a y b e f is j =
      let same : variable_registers vs x ≡ variable_registers vs z = ap (variable_registers vs) e in
      let q = j.from in inr (inl (omega (arith, f, is, same, q)))

  own_second : (z v n m x a y b : ℕ) → y ≡ z → b ≡ v → n ≡ variable_registers vs z → Inside vs σ (v + n) m x a → Apart vs x a y b
  own_second z v n m x a y b e f is j =
      let same : variable_registers vs y ≡ variable_registers vs z = ap (variable_registers vs) e in
      let q = j.from in inr (inr (omega (arith, f, is, same, q)))

  mutual
    apart : (t : Term) (v x a y b : ℕ) → At vs v t x a → At vs v t y b → Apart vs x a y b
    apart nothing v x a y b p q = absurd p
    apart pause v x a y b p q = absurd p
    apart (write z i f d g h) v x a y b p q = absurd p
    apart (choose c t u) v x a y b (inl p) (inl q) = apart t v x a y b p q
    apart (choose c t u) v x a y b (inr p) (inr q) = apart u (v + registers vs t) x a y b p q
    apart (choose c t u) v x a y b (inl p) (inr q) = in_turn v (registers vs t) (registers vs u) x a y b (inside vs σ t v x a p) (inside vs σ u (v + registers vs t) y b q)
    apart (choose c t u) v x a y b (inr p) (inl q) = turned v (registers vs t) (registers vs u) x a y b (inside vs σ u (v + registers vs t) x a p) (inside vs σ t v y b q)
    apart (seq ts) v x a y b p q = apart_all ts v x a y b p q
    apart (par ts) v x a y b p q = apart_all ts v x a y b p q
    apart (loop t c) v x a y b p q = apart t v x a y b p q
    apart (abort w i t c) v x a y b p q = apart t v x a y b p q
    apart (suspend w i t c) v x a y b p q = apart t v x a y b p q
    apart (scope z s t) v x a y b (inl p) (inl q) = inl (p.0 ∙ sym q.0, p.1 ∙ sym q.1)
    apart (scope z s t) v x a y b (inr p) (inr q) = apart t (v + scope_registers vs (labels t) z) x a y b p q
    apart (scope z s t) v x a y b (inl p) (inr q) =
        own_first z v (scope_registers vs (labels t) z) (registers vs t) x a y b p.0 p.1 (scope_is vs σ (labels t) z p.2) (inside vs σ t (v + scope_registers vs (labels t) z) y b q)
    apart (scope z s t) v x a y b (inr p) (inl q) =
        own_second z v (scope_registers vs (labels t) z) (registers vs t) x a y b q.0 q.1 (scope_is vs σ (labels t) z q.2) (inside vs σ t (v + scope_registers vs (labels t) z) x a p)

    apart_all : (ts : Terms) (v x a y b : ℕ) → AtAll vs v ts x a → AtAll vs v ts y b → Apart vs x a y b
    apart_all none v x a y b p q = absurd p
    apart_all (part t ts) v x a y b (inl p) (inl q) = apart t v x a y b p q
    apart_all (part t ts) v x a y b (inr p) (inr q) = apart_all ts (v + registers vs t) x a y b p q
    apart_all (part t ts) v x a y b (inl p) (inr q) = in_turn v (registers vs t) (registers_all vs ts) x a y b (inside vs σ t v x a p) (inside_all vs σ ts (v + registers vs t) y b q)
    apart_all (part t ts) v x a y b (inr p) (inl q) = turned v (registers vs t) (registers_all vs ts) x a y b (inside_all vs σ ts (v + registers vs t) x a p) (inside vs σ t v y b q)

  -- ---- carrying

  module _ (q : ℕ) (t : Term) (v : ℕ) where
    -- the flags of all scopes of the variable are bits
    abbrev pub ScopesBits : Registers → Type 0
    ScopesBits k = (a : ℕ) → At vs v t q a → HasBitFlags vs q a k

    module _ (es : List EnteredCopy) (bits_es : EnteredFlags vs σ es) where
      carried_bits : (a : ℕ) (fs : List EnteredCopy) (c : ClosedRefs) → EnteredFlags vs σ fs → FlagsOf vs σ c → FlagsOf vs σ (carried_copy σ (entered_at a fs) c)
      carried_bits a [] c l f = f
      carried_bits a (e ∷ fs) c l f = by (e.first == a) (carried_bits a fs c l.1 f)
        where
          chosen : (b : Bool) (d : ClosedRefs) → FlagsOf vs σ d → FlagsOf vs σ (if b then e.entered.closed else d)
          chosen true d w = l.0
          chosen false d w = w

          by : (b : Bool) → FlagsOf vs σ (carried_copy σ (entered_at a fs) c) → FlagsOf vs σ (carried_copy σ (if b then e.entered ∷ entered_at a fs else entered_at a fs) c)
          by true w = chosen (truth σ e.entered.enter) (carried_copy σ (entered_at a fs) c) w
          by false w = w

      abbrev regs : Stores → Registers
      regs τ = next_registers σ τ.registers

      one_carried : (x a : ℕ) (c : ClosedRefs) (τ : Stores) → At vs v t x a → FlagsOf vs σ c → v + registers vs t ≤ length τ.registers → IsSolution σ (carried_in vs x (entered_at a es) c a τ).cells
          → ScopesBits (regs τ) → ScopesBits (regs (carried_in vs x (entered_at a es) c a τ))
      one_carried x a c τ p f room = by (slice_get vs x) refl
        where
          by : (o : Option Var) → slice_get vs x ≡ o → IsSolution σ (carried_in vs x (entered_at a es) c a τ).cells → ScopesBits (regs τ) → ScopesBits (regs (carried_in vs x (entered_at a es) c a τ))
          by None e = rw e (λ sol h. h)
          by (Some w) e = λ sol h b r. on sol h b r (apart t v x a q b p r)
            where
              υ : Stores
              υ = carried_in vs x (entered_at a es) c a τ

              others : ScopesBits (regs τ) → (b : ℕ) → At vs v t q b → (a + variable_registers vs x ≤ b) ⊎ (b + variable_registers vs q ≤ a) → HasBitFlags vs q b (regs υ)
              others h b r (inl l) = flag_same vs q b (regs τ) (regs υ) (h b r) (λ i g m. ap (next_of σ) (carried_others vs σ x (entered_at a es) c a τ i (inr (omega (arith, l, g)))))
              others h b r (inr l) = flag_same vs q b (regs τ) (regs υ) (h b r) (λ i g m. ap (next_of σ) (carried_others vs σ x (entered_at a es) c a τ i (inl (omega (arith, l, m)))))

              own : IsSolution σ υ.cells → (b : ℕ) → At vs v t q b → x ≡ q → a ≡ b → HasBitFlags vs q b (regs υ)
              own sol b r e' f' =
                  let i = (inside vs σ t v x a p).to in
                  subst (λ y. HasBitFlags vs y b (regs υ)) e' (subst (λ u. HasBitFlags vs x u (regs υ)) f'
                  (copy_flags vs σ x a (carried_copy σ (entered_at a es) c) (regs υ) (carried_bits a es c bits_es f)
                  (carried_holds vs σ x (entered_at a es) c a τ (there vs x w e) (omega (arith, room, i)) sol)))

              on : IsSolution σ υ.cells → ScopesBits (regs τ) → (b : ℕ) → At vs v t q b → Apart vs x a q b → HasBitFlags vs q b (regs υ)
              on sol h b r (inl g) = own sol b r g.0 g.1
              on sol h b r (inr g) = others h b r g

      depth_bits : (bs : List DepthCopy) (τ : Stores) → AllD vs σ (At vs v t) bs → DepthFlags vs σ bs → v + registers vs t ≤ length τ.registers → IsSolution σ (depth_taken vs es bs τ).cells
          → ScopesBits (regs τ) → ScopesBits (regs (depth_taken vs es bs τ))
      depth_bits [] τ p l room sol h = h
      depth_bits (d ∷ bs) τ p l room sol h =
          let υ : Stores = carried_in vs d.var (entered_at d.first es) d.closed d.first τ in
          let size : length υ.registers ≡ length τ.registers = length_carried vs σ d.var (entered_at d.first es) d.closed d.first τ in
          depth_bits bs υ p.1 l.1 (omega (arith, room, size)) sol
          (one_carried d.var d.first d.closed τ p.0 l.0 room (λ k c is b. sol k c (depth_kept vs es [] bs υ k c is) b) h)

      some_at : (a : ℕ) (ds : List DepthCopy) → AllD vs σ (At vs v t) ds → AllD vs σ (At vs v t) (depths_at a ds)
      some_at a [] h = tt
      some_at a (d ∷ ds) h = by (d.first == a) (some_at a ds h.1)
        where
          by : (b : Bool) → AllD vs σ (At vs v t) (depths_at a ds) → AllD vs σ (At vs v t) (if b then d ∷ depths_at a ds else depths_at a ds)
          by true f = (h.0, f)
          by false f = f

      some_bits : (a : ℕ) (ds : List DepthCopy) → DepthFlags vs σ ds → DepthFlags vs σ (depths_at a ds)
      some_bits a [] h = tt
      some_bits a (d ∷ ds) h = by (d.first == a) (some_bits a ds h.1)
        where
          by : (b : Bool) → DepthFlags vs σ (depths_at a ds) → DepthFlags vs σ (if b then d ∷ depths_at a ds else depths_at a ds)
          by true f = (h.0, f)
          by false f = f

      length_by : (τ υ : Stores) → map (λ x. x.initial) υ.registers ≡ map (λ x. x.initial) τ.registers → length υ.registers ≡ length τ.registers
      length_by τ υ e = sym (length_map (λ x. x.initial) υ.registers) ∙ ap length e ∙ length_map (λ x. x.initial) τ.registers

      module _ (ds : List DepthCopy) (at_ds : AllD vs σ (At vs v t) ds) (bits_ds : DepthFlags vs σ ds) where
        own_bits : (n a : ℕ) (τ : Stores) → v + registers vs t ≤ length τ.registers → IsSolution σ (scope_taken vs es ds n a τ).cells → ScopesBits (regs τ) → ScopesBits (regs (scope_taken vs es ds n a τ))
        own_bits zero a τ room sol h = h
        own_bits (suc n) a τ room sol h = depth_bits (depths_at a ds) τ (some_at a ds at_ds) (some_bits a ds bits_ds) room sol h

        mutual
          pub taken_bits : (s : Term) (a : ℕ) (τ : Stores) → v + registers vs t ≤ length τ.registers → IsSolution σ (scopes_taken vs es ds a s τ).cells → ScopesBits (regs τ) → ScopesBits (regs (scopes_taken vs es ds a s τ))
          taken_bits nothing a τ room sol h = h
          taken_bits pause a τ room sol h = h
          taken_bits (write x i e d p w) a τ room sol h = h
          taken_bits (choose c s u) a τ room sol h =
              let υ : Stores = scopes_taken vs es ds a s τ in
              let size : length υ.registers ≡ length τ.registers = length_by τ υ (scopes_start vs es ds s a τ) in
              taken_bits u (a + registers vs s) υ (omega (arith, room, size)) sol (taken_bits s a τ room (λ k d is b. sol k d (scopes_kept vs es ds u (a + registers vs s) υ k d is) b) h)
          taken_bits (seq ts) a τ room sol h = all_taken_bits ts a τ room sol h
          taken_bits (par ts) a τ room sol h = all_taken_bits ts a τ room sol h
          taken_bits (loop s c) a τ room sol h = taken_bits s a τ room sol h
          taken_bits (abort w i s c) a τ room sol h = taken_bits s a τ room sol h
          taken_bits (suspend w i s c) a τ room sol h = taken_bits s a τ room sol h
          taken_bits (scope x y s) a τ room sol h =
              let n : ℕ = scope_registers vs (labels s) x in
              let υ : Stores = scope_taken vs es ds n a τ in
              let size : length υ.registers ≡ length τ.registers = length_by τ υ (scope_start vs es ds n a τ) in
              taken_bits s (a + n) υ (omega (arith, room, size)) sol (own_bits n a τ room (λ k d is b. sol k d (scopes_kept vs es ds s (a + n) υ k d is) b) h)

          all_taken_bits : (ts : Terms) (a : ℕ) (τ : Stores) → v + registers vs t ≤ length τ.registers → IsSolution σ (all_scopes_taken vs es ds a ts τ).cells → ScopesBits (regs τ) → ScopesBits (regs (all_scopes_taken vs es ds a ts τ))
          all_taken_bits none a τ room sol h = h
          all_taken_bits (part s ts) a τ room sol h =
              let υ : Stores = scopes_taken vs es ds a s τ in
              let size : length υ.registers ≡ length τ.registers = length_by τ υ (scopes_start vs es ds s a τ) in
              all_taken_bits ts (a + registers vs s) υ (omega (arith, room, size)) sol (taken_bits s a τ room (λ k d is b. sol k d (all_scopes_kept vs es ds ts (a + registers vs s) υ k d is) b) h)

  -- ---- the registers of outputs

  pub outputs_bits : (q : ℕ) (xs : List ℕ) (v : ℕ) (ws : List Act) (os : List ClosedOutput) (zs : List (List ℤ)) (τ : Stores) (k : Registers) → AllSay vs σ xs v ws os zs → AllLess vs σ xs
      → OutputFlags vs σ os → v + output_registers vs xs ≤ length τ.registers → IsSolution σ (outputs_taken vs os τ).cells
      → ((r : ℕ) → v ≤ r → r < v + output_registers vs xs → k r ≡ next_registers σ (outputs_taken vs os τ).registers r) → (a : ℕ) → IsOutputAt vs xs v q a → HasBitFlags vs q a k
  outputs_bits q [] v ws os zs τ k say less f room sol agree a h = absurd h
  outputs_bits q (x ∷ xs) v ws (o ∷ os) (z ∷ zs) τ k say less f room sol agree a h = by h (outputs_bits q xs (v + variable_registers vs x) ws os zs (carried_in vs o.var [] o.closed o.first τ) k say.3 less.1 f.1
      (let size : length (carried_in vs o.var [] o.closed o.first τ).registers ≡ length τ.registers = length_carried vs σ o.var [] o.closed o.first τ in omega (arith, room, size)) sol (λ r g l. agree r (omega (arith, g)) (omega (arith, l))) a)
    where
      υ : Stores
      υ = carried_in vs o.var [] o.closed o.first τ

      here : υ ≡ carried_in vs x [] o.closed v τ
      here = ap₂ (λ y u. carried_in vs y [] o.closed u τ) say.0 say.1

      solved : IsSolution σ (carried_in vs x [] o.closed v τ).cells
      solved = subst (λ (m : Stores). IsSolution σ m.cells) here (λ i d is b. sol i d (outputs_kept vs os υ i d is) b)

      own : Holds (takes_copy vs σ x v o.closed) k
      own = holds_agree v (variable_registers vs x) (takes_copy vs σ x v o.closed) k (next_registers σ (carried_in vs x [] o.closed v τ).registers) (copy_in vs σ x v o.closed)
          (λ r g l. agree r g (omega (arith, l)) ∙ ap (next_of σ) (outputs_others vs σ xs (v + variable_registers vs x) ws os zs υ r say.3 (inl l) ∙ ap (λ (m : Stores). slice_get m.registers r) here))
          (carried_holds vs σ x [] o.closed v τ less.0 (omega (arith, room)) solved)

      by : ((q ≡ x) × (a ≡ v)) ⊎ IsOutputAt vs xs (v + variable_registers vs x) q a → (IsOutputAt vs xs (v + variable_registers vs x) q a → HasBitFlags vs q a k) → HasBitFlags vs q a k
      by (inl e) g = subst (λ y. HasBitFlags vs y a k) (sym e.0) (subst (λ u. HasBitFlags vs x u k) (sym e.1) (copy_flags vs σ x v o.closed k f.0 own))
      by (inr e) g = g e
  outputs_bits q (x ∷ xs) v ws [] zs τ k say less f room sol agree a h = absurd say
  outputs_bits q (x ∷ xs) v ws (o ∷ os) [] τ k say less f room sol agree a h = absurd say
