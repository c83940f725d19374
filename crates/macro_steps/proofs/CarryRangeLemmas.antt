-- Registers lie in their ranges behind each copy that is carried.
use Rattle.std.proofs.Common.{◌≡◌, ◌⊎◌, inl, inr, ℕ, zero, suc, ◌+◌, ◌*◌, ◌≤◌, ◌<◌, ◌==◌, pos, Bool, true, false, List, [], ◌∷◌, length, map, Option, Some, None, refl, sym, ap, ◌∙◌, subst, arith}
use Rattle.std.specs.Prelude.{slice_get, if◌then◌else◌}
use Rattle.std.proofs.lemmas.Bool.Decides.{nat_tests}
use Rattle.std.proofs.Math.Nat.{mul-le-mul_right}
use Rattle.quartz_expr.specs.Vars.{Vars, count_of}
use Rattle.quartz_expr.specs.Intervals.{Interval, Lies, range_of}
use Rattle.quartz_expr.specs.Typed.{AllLie}
use Rattle.quartz_expr.specs.Terms.{Term, nothing, pause, write, choose, seq, par, loop, abort, suspend, scope, Terms, none, part}
use Rattle.aif_cells.specs.declared.reference.Ref.{Ref}
use Rattle.aif_cells.specs.Solution.{IsSolution}
use Rattle.aif_cells.specs.Worth.{Assignment, read, truth}
use Rattle.absence_reaction.specs.declared.copy.Shape.{Shape}
use Rattle.absence_reaction.specs.Closing.{flag_of, one_if, pending_of, register_of, registers_each}
use Rattle.quartz_tree.specs.Storage.{is_memorized}
use Rattle.reincarnation.specs.declared.copy.ClosedRefs.{ClosedRefs}
use Rattle.reincarnation.specs.Carrying.{Stores}
use Rattle.reincarnation.specs.Meaning.{carried_copy}
use Rattle.statement_cells.specs.Labels.{labels, registers, registers_all, scope_registers, shape_in}
use Rattle.statement_cells.specs.Builder.{DepthCopy, EnteredCopy}
use Rattle.statement_cells.specs.Stands.{Registers}
use Rattle.statement_cells.specs.Walk.{CopyLies, DepthsLie, EnteredLie, Holds, ref_at, takes_copy}
use Rattle.statement_cells.specs.Whole.{all_scopes_taken, carried_in, depth_taken, depths_at, entered_at, scope_taken, scopes_taken, variable_registers}
use Rattle.statement_cells.specs.Meaning.{next_of, next_registers}
use Rattle.statement_cells.proofs.CarryLemmas.{carried_holds, carried_others, length_carried}
use Rattle.statement_cells.proofs.LiesLemmas.{zero_lies}
use Rattle.statement_cells.proofs.PlacedLemmas.{AllAt, At, AtAll}
use Rattle.statement_cells.proofs.ScopeHoldLemmas.{AllD, Inside, inside, inside_all, scope_is}
use Rattle.statement_cells.proofs.ScopeTakesLemmas.{element_holds, three_held}
use Rattle.statement_cells.proofs.ScopeEnvLemmas.{length_map}
use Rattle.statement_cells.proofs.StartLemmas.{scope_start, scopes_start}
use Rattle.statement_cells.proofs.WholeLemmas.{all_scopes_kept, depth_kept, scopes_kept}
use Rattle.aif_cells.proofs.SolutionLemmas.{there}
use Rattle.quartz_tree.specs.declared.declare.Var.{Var}
use Rattle.macro_steps.specs.Ranges.{AllScopesLie, LieIn, ScopesLie}

-- ---- the registers of one variable

-- those of an element are among those of the variable
pub element_inside : (s : Shape) (v j n : ℕ) → j < n → register_of s v j + registers_each s ≤ v + n * registers_each s
element_inside s v j n l =
    let m : ℕ = registers_each s in
    let le : (j + 1) * m ≤ n * m = mul-le-mul_right m (omega (arith, l)) in
    let e : (j + 1) * m ≡ j * m + m = omega arith in
    omega (arith, le, e)

memorized_one : (s : Shape) → is_memorized s.storage ≡ true → one_if (is_memorized s.storage) ≡ 1
memorized_one s e = ap one_if e

pub delayed_one : (s : Shape) → s.delayed ≡ true → one_if s.delayed ≡ 1
delayed_one s e = ap one_if e

-- what lies depends on the variable's registers alone
lie_same : (vs : Vars) (x v : ℕ) (k j : Registers) → LieIn vs x v k → ((r : ℕ) → v ≤ r → r < v + variable_registers vs x → j r ≡ k r) → LieIn vs x v j
lie_same vs x v k j h same i l =
    let s : Shape = shape_in vs x in
    let room = element_inside s v i (count_of vs x) l in (
      λ e. let one = memorized_one s e in subst (Lies (range_of vs x)) (sym (same (register_of s v i) (omega arith) (omega (arith, room, one)))) ((h i l).0 e),
      λ e. let one = delayed_one s e in subst (Lies (range_of vs x)) (sym (same (pending_of s v i) (omega arith) (omega (arith, room, one)))) ((h i l).1 e),
    )

-- registers that are 0 lie in every range
pub zero_lie : (vs : Vars) (x v : ℕ) (k : Registers) → ((r : ℕ) → v ≤ r → k r ≡ pos 0) → LieIn vs x v k
zero_lie vs x v k h i l =
    let s : Shape = shape_in vs x in (
      λ e. subst (Lies (range_of vs x)) (sym (h (register_of s v i) (omega arith))) (zero_lies vs x),
      λ e. subst (Lies (range_of vs x)) (sym (h (pending_of s v i) (omega arith))) (zero_lies vs x),
    )

ref_lies : (i : Interval) (σ : Assignment) (rs : List Ref) (j : ℕ) → AllLie i (map (read σ) rs) → Lies i (pos 0) → Lies i (read σ (ref_at rs j))
ref_lies i σ [] j h z = z
ref_lies i σ (r ∷ rs) zero h z = h.0
ref_lies i σ (r ∷ rs) (suc j) h z = ref_lies i σ rs j h.1 z

-- registers that hold what a copy has in its range lie there
pub copy_held : (vs : Vars) (σ : Assignment) (x v : ℕ) (c : ClosedRefs) (k : Registers) → CopyLies vs σ x c → Holds (takes_copy vs σ x v c) k → LieIn vs x v k
copy_held vs σ x v c k lies held j l =
    let s : Shape = shape_in vs x in
    let nought : 0 + j ≡ j = omega arith in
    let own = element_holds σ s v c 0 (count_of vs x) j k l held in
    let three = three_held (is_memorized s.storage) s.delayed (register_of s v (0 + j)) (flag_of s v (0 + j)) (pending_of s v (0 + j)) (read σ (ref_at c.values (0 + j))) (read σ (ref_at c.flags (0 + j))) (read σ (ref_at c.pending (0 + j))) k refl refl own in (
      λ e. subst (λ q. Lies (range_of vs x) (k (register_of s v q))) nought (subst (Lies (range_of vs x)) (sym (three.0 e)) (ref_lies (range_of vs x) σ c.values (0 + j) lies.0 (zero_lies vs x))),
      λ e. subst (λ q. Lies (range_of vs x) (k (pending_of s v q))) nought (subst (Lies (range_of vs x)) (sym (three.1 e).1) (ref_lies (range_of vs x) σ c.pending (0 + j) lies.1 (zero_lies vs x))),
    )

-- ---- those of all scopes of a statement

module _ (vs : Vars) (σ : Assignment) where
  module _ (k j : Registers) where
    mutual
      scopes_same : (t : Term) (v : ℕ) → ScopesLie vs v t k → ((r : ℕ) → v ≤ r → r < v + registers vs t → j r ≡ k r) → ScopesLie vs v t j
      scopes_same nothing v h e = tt
      scopes_same pause v h e = tt
      scopes_same (write x i f d p q) v h e = tt
      scopes_same (choose c a b) v h e = (scopes_same a v h.0 (λ r g l. e r g (omega (arith, l))), scopes_same b (v + registers vs a) h.1 (λ r g l. e r (omega (arith, g)) (omega (arith, l))))
      scopes_same (seq ts) v h e = all_same ts v h e
      scopes_same (par ts) v h e = all_same ts v h e
      scopes_same (loop t c) v h e = scopes_same t v h e
      scopes_same (abort w i t c) v h e = scopes_same t v h e
      scopes_same (suspend w i t c) v h e = scopes_same t v h e
      scopes_same (scope x s t) v h e =
          let n : ℕ = scope_registers vs (labels t) x in (
            λ p. let is = scope_is vs σ (labels t) x p in lie_same vs x v k j (h.0 p) (λ r g l. e r g (omega (arith, l, is))),
            scopes_same t (v + n) h.1 (λ r g l. e r (omega (arith, g)) (omega (arith, l))),
          )

      all_same : (ts : Terms) (v : ℕ) → AllScopesLie vs v ts k → ((r : ℕ) → v ≤ r → r < v + registers_all vs ts → j r ≡ k r) → AllScopesLie vs v ts j
      all_same none v h e = tt
      all_same (part t ts) v h e = (scopes_same t v h.0 (λ r g l. e r g (omega (arith, l))), all_same ts (v + registers vs t) h.1 (λ r g l. e r (omega (arith, g)) (omega (arith, l))))

    module _ (x' v' : ℕ) (own : LieIn vs x' v' j) (others : (r : ℕ) → (r < v') ⊎ (v' + variable_registers vs x' ≤ r) → j r ≡ k r) where
      mutual
        -- where one scope's registers lie anew
        scopes_put : (t : Term) (v : ℕ) → At vs v t x' v' → ScopesLie vs v t k → ScopesLie vs v t j
        scopes_put nothing v a h = tt
        scopes_put pause v a h = tt
        scopes_put (write x i f d p q) v a h = tt
        scopes_put (choose c t u) v (inl a) h = (scopes_put t v a h.0, scopes_same u (v + registers vs t) h.1 (λ r g l. let i = (inside vs σ t v x' v' a).to in others r (inr (omega (arith, g, i)))))
        scopes_put (choose c t u) v (inr a) h = (scopes_same t v h.0 (λ r g l. let i = (inside vs σ u (v + registers vs t) x' v' a).from in others r (inl (omega (arith, l, i)))), scopes_put u (v + registers vs t) a h.1)
        scopes_put (seq ts) v a h = all_put ts v a h
        scopes_put (par ts) v a h = all_put ts v a h
        scopes_put (loop t c) v a h = scopes_put t v a h
        scopes_put (abort w i t c) v a h = scopes_put t v a h
        scopes_put (suspend w i t c) v a h = scopes_put t v a h
        scopes_put (scope x s t) v (inl a) h =
            let n : ℕ = scope_registers vs (labels t) x in
            let is = scope_is vs σ (labels t) x a.2 in
            let size : variable_registers vs x' ≡ variable_registers vs x = ap (variable_registers vs) a.0 in (
              λ p. subst (λ y. LieIn vs y v j) a.0 (subst (λ u. LieIn vs x' u j) a.1 own),
              scopes_same t (v + n) h.1 (λ r g l. others r (inr (omega (arith, g, is, size, a.1)))),
            )
        scopes_put (scope x s t) v (inr a) h =
            let n : ℕ = scope_registers vs (labels t) x in
            let i = (inside vs σ t (v + n) x' v' a).from in (
              λ p. let is = scope_is vs σ (labels t) x p in lie_same vs x v k j (h.0 p) (λ r g l. others r (inl (omega (arith, l, is, i)))),
              scopes_put t (v + n) a h.1,
            )

        all_put : (ts : Terms) (v : ℕ) → AtAll vs v ts x' v' → AllScopesLie vs v ts k → AllScopesLie vs v ts j
        all_put none v a h = tt
        all_put (part t ts) v (inl a) h = (scopes_put t v a h.0, all_same ts (v + registers vs t) h.1 (λ r g l. let i = (inside vs σ t v x' v' a).to in others r (inr (omega (arith, g, i)))))
        all_put (part t ts) v (inr a) h = (scopes_same t v h.0 (λ r g l. let i = (inside_all vs σ ts (v + registers vs t) x' v' a).from in others r (inl (omega (arith, l, i)))), all_put ts (v + registers vs t) a h.1)

  -- registers that are 0 lie in all ranges
  mutual
    pub zero_scopes : (t : Term) (v : ℕ) (k : Registers) → ((r : ℕ) → v ≤ r → k r ≡ pos 0) → ScopesLie vs v t k
    zero_scopes nothing v k h = tt
    zero_scopes pause v k h = tt
    zero_scopes (write x i f d p q) v k h = tt
    zero_scopes (choose c a b) v k h = (zero_scopes a v k h, zero_scopes b (v + registers vs a) k (λ r g. h r (omega (arith, g))))
    zero_scopes (seq ts) v k h = zero_all ts v k h
    zero_scopes (par ts) v k h = zero_all ts v k h
    zero_scopes (loop t c) v k h = zero_scopes t v k h
    zero_scopes (abort w i t c) v k h = zero_scopes t v k h
    zero_scopes (suspend w i t c) v k h = zero_scopes t v k h
    zero_scopes (scope x s t) v k h = (λ p. zero_lie vs x v k h, zero_scopes t (v + scope_registers vs (labels t) x) k (λ r g. h r (omega (arith, g))))

    pub zero_all : (ts : Terms) (v : ℕ) (k : Registers) → ((r : ℕ) → v ≤ r → k r ≡ pos 0) → AllScopesLie vs v ts k
    zero_all none v k h = tt
    zero_all (part t ts) v k h = (zero_scopes t v k h, zero_all ts (v + registers vs t) k (λ r g. h r (omega (arith, g))))

  -- two scopes of a statement whose registers begin there are one
  mutual
    at_one : (t : Term) (v x y a : ℕ) → At vs v t x a → At vs v t y a → x ≡ y
    at_one nothing v x y a p q = absurd p
    at_one pause v x y a p q = absurd p
    at_one (write z i f d g h) v x y a p q = absurd p
    at_one (choose c t u) v x y a (inl p) (inl q) = at_one t v x y a p q
    at_one (choose c t u) v x y a (inr p) (inr q) = at_one u (v + registers vs t) x y a p q
    at_one (choose c t u) v x y a (inl p) (inr q) = absurd (clash (inside vs σ t v x a p) (inside vs σ u (v + registers vs t) y a q))
      where
        clash : Inside vs σ v (registers vs t) x a → Inside vs σ (v + registers vs t) (registers vs u) y a → ⊥
        clash i j = let f = i.some in let g = i.to in let h = j.from in omega (arith, f, g, h)
    at_one (choose c t u) v x y a (inr p) (inl q) = absurd (clash (inside vs σ t v y a q) (inside vs σ u (v + registers vs t) x a p))
      where
        clash : Inside vs σ v (registers vs t) y a → Inside vs σ (v + registers vs t) (registers vs u) x a → ⊥
        clash i j = let f = i.some in let g = i.to in let h = j.from in omega (arith, f, g, h)
    at_one (seq ts) v x y a p q = at_one_all ts v x y a p q
    at_one (par ts) v x y a p q = at_one_all ts v x y a p q
    at_one (loop t c) v x y a p q = at_one t v x y a p q
    at_one (abort w i t c) v x y a p q = at_one t v x y a p q
    at_one (suspend w i t c) v x y a p q = at_one t v x y a p q
    at_one (scope z s t) v x y a (inl p) (inl q) = p.0 ∙ sym q.0
    at_one (scope z s t) v x y a (inr p) (inr q) = at_one t (v + scope_registers vs (labels t) z) x y a p q
    at_one (scope z s t) v x y a (inl p) (inr q) = absurd (clash p.1 p.2 (inside vs σ t (v + scope_registers vs (labels t) z) y a q))
      where
        clash : a ≡ v → 0 < scope_registers vs (labels t) z → Inside vs σ (v + scope_registers vs (labels t) z) (registers vs t) y a → ⊥
        clash e l j = let h = j.from in omega (arith, e, l, h)
    at_one (scope z s t) v x y a (inr p) (inl q) = absurd (clash q.1 q.2 (inside vs σ t (v + scope_registers vs (labels t) z) x a p))
      where
        clash : a ≡ v → 0 < scope_registers vs (labels t) z → Inside vs σ (v + scope_registers vs (labels t) z) (registers vs t) x a → ⊥
        clash e l j = let h = j.from in omega (arith, e, l, h)

    at_one_all : (ts : Terms) (v x y a : ℕ) → AtAll vs v ts x a → AtAll vs v ts y a → x ≡ y
    at_one_all none v x y a p q = absurd p
    at_one_all (part t ts) v x y a (inl p) (inl q) = at_one t v x y a p q
    at_one_all (part t ts) v x y a (inr p) (inr q) = at_one_all ts (v + registers vs t) x y a p q
    at_one_all (part t ts) v x y a (inl p) (inr q) = absurd (clash (inside vs σ t v x a p) (inside_all vs σ ts (v + registers vs t) y a q))
      where
        clash : Inside vs σ v (registers vs t) x a → Inside vs σ (v + registers vs t) (registers_all vs ts) y a → ⊥
        clash i j = let f = i.some in let g = i.to in let h = j.from in omega (arith, f, g, h)
    at_one_all (part t ts) v x y a (inr p) (inl q) = absurd (clash (inside vs σ t v y a q) (inside_all vs σ ts (v + registers vs t) x a p))
      where
        clash : Inside vs σ v (registers vs t) y a → Inside vs σ (v + registers vs t) (registers_all vs ts) x a → ⊥
        clash i j = let f = i.some in let g = i.to in let h = j.from in omega (arith, f, g, h)

  -- ---- carrying

  module _ (t : Term) (v : ℕ) (es : List EnteredCopy) (at_es : AllAt vs (At vs v t) es) (lie_es : EnteredLie vs σ es) where
    -- the copy that is carried lies in its range
    carried_lies : (x a : ℕ) (fs : List EnteredCopy) (c : ClosedRefs) → AllAt vs (At vs v t) fs → EnteredLie vs σ fs → At vs v t x a → CopyLies vs σ x c → CopyLies vs σ x (carried_copy σ (entered_at a fs) c)
    carried_lies x a [] c h l p q = q
    carried_lies x a (e ∷ fs) c h l p q = by (e.first == a) refl (carried_lies x a fs c h.1 l.1 p q)
      where
        same : (e.first == a) ≡ true → e.first ≡ a
        same g = grind (arith, nat_tests, g)

        own : (e.first == a) ≡ true → CopyLies vs σ x e.entered.closed
        own g = subst (λ y. CopyLies vs σ y e.entered.closed) (at_one t v e.var x a (subst (At vs v t e.var) (same g) h.0) p) l.0

        chosen : (b : Bool) (d : ClosedRefs) → CopyLies vs σ x e.entered.closed → CopyLies vs σ x d → CopyLies vs σ x (if b then e.entered.closed else d)
        chosen true d f g = f
        chosen false d f g = g

        by : (b : Bool) → (e.first == a) ≡ b → CopyLies vs σ x (carried_copy σ (entered_at a fs) c) → CopyLies vs σ x (carried_copy σ (if b then e.entered ∷ entered_at a fs else entered_at a fs) c)
        by true g f = chosen (truth σ e.entered.enter) (carried_copy σ (entered_at a fs) c) (own g) f
        by false g f = f

    abbrev regs : Stores → Registers
    regs τ = next_registers σ τ.registers

    one_carried : (x a : ℕ) (c : ClosedRefs) (τ : Stores) → At vs v t x a → CopyLies vs σ x c → v + registers vs t ≤ length τ.registers → IsSolution σ (carried_in vs x (entered_at a es) c a τ).cells
        → ScopesLie vs v t (regs τ) → ScopesLie vs v t (regs (carried_in vs x (entered_at a es) c a τ))
    one_carried x a c τ p lies room = by (slice_get vs x) refl
      where
        by : (o : Option Var) → slice_get vs x ≡ o → IsSolution σ (carried_in vs x (entered_at a es) c a τ).cells → ScopesLie vs v t (regs τ) → ScopesLie vs v t (regs (carried_in vs x (entered_at a es) c a τ))
        by None e = rw e (λ sol h. h)
        by (Some w) e = λ sol h.
            let i = (inside vs σ t v x a p).to in
            scopes_put (regs τ) (regs (carried_in vs x (entered_at a es) c a τ)) x a
            (copy_held vs σ x a (carried_copy σ (entered_at a es) c) (regs (carried_in vs x (entered_at a es) c a τ)) (carried_lies x a es c at_es lie_es p lies)
            (carried_holds vs σ x (entered_at a es) c a τ (there vs x w e) (omega (arith, room, i)) sol))
            (λ r f. ap (next_of σ) (carried_others vs σ x (entered_at a es) c a τ r f)) t v p h

    depth_lies : (bs : List DepthCopy) (τ : Stores) → AllD vs σ (At vs v t) bs → DepthsLie vs σ bs → v + registers vs t ≤ length τ.registers → IsSolution σ (depth_taken vs es bs τ).cells
        → ScopesLie vs v t (regs τ) → ScopesLie vs v t (regs (depth_taken vs es bs τ))
    depth_lies [] τ p l room sol h = h
    depth_lies (d ∷ bs) τ p l room sol h =
        let υ : Stores = carried_in vs d.var (entered_at d.first es) d.closed d.first τ in
        let size : length υ.registers ≡ length τ.registers = length_carried vs σ d.var (entered_at d.first es) d.closed d.first τ in
        depth_lies bs υ p.1 l.1 (omega (arith, room, size)) sol
        (one_carried d.var d.first d.closed τ p.0 l.0 room (λ k c is b. sol k c (depth_kept vs es [] bs υ k c is) b) h)

    some_at : (a : ℕ) (ds : List DepthCopy) → AllD vs σ (At vs v t) ds → AllD vs σ (At vs v t) (depths_at a ds)
    some_at a [] h = tt
    some_at a (d ∷ ds) h = by (d.first == a) (some_at a ds h.1)
      where
        by : (b : Bool) → AllD vs σ (At vs v t) (depths_at a ds) → AllD vs σ (At vs v t) (if b then d ∷ depths_at a ds else depths_at a ds)
        by true f = (h.0, f)
        by false f = f

    some_lie : (a : ℕ) (ds : List DepthCopy) → DepthsLie vs σ ds → DepthsLie vs σ (depths_at a ds)
    some_lie a [] h = tt
    some_lie a (d ∷ ds) h = by (d.first == a) (some_lie a ds h.1)
      where
        by : (b : Bool) → DepthsLie vs σ (depths_at a ds) → DepthsLie vs σ (if b then d ∷ depths_at a ds else depths_at a ds)
        by true f = (h.0, f)
        by false f = f

    length_by : (τ υ : Stores) → map (λ x. x.initial) υ.registers ≡ map (λ x. x.initial) τ.registers → length υ.registers ≡ length τ.registers
    length_by τ υ e = sym (length_map (λ x. x.initial) υ.registers) ∙ ap length e ∙ length_map (λ x. x.initial) τ.registers

    module _ (ds : List DepthCopy) (at_ds : AllD vs σ (At vs v t) ds) (lie_ds : DepthsLie vs σ ds) where
      own_lies : (n a : ℕ) (τ : Stores) → v + registers vs t ≤ length τ.registers → IsSolution σ (scope_taken vs es ds n a τ).cells → ScopesLie vs v t (regs τ) → ScopesLie vs v t (regs (scope_taken vs es ds n a τ))
      own_lies zero a τ room sol h = h
      own_lies (suc n) a τ room sol h = depth_lies (depths_at a ds) τ (some_at a ds at_ds) (some_lie a ds lie_ds) room sol h

      mutual
        pub taken_lies : (s : Term) (a : ℕ) (τ : Stores) → v + registers vs t ≤ length τ.registers → IsSolution σ (scopes_taken vs es ds a s τ).cells → ScopesLie vs v t (regs τ) → ScopesLie vs v t (regs (scopes_taken vs es ds a s τ))
        taken_lies nothing a τ room sol h = h
        taken_lies pause a τ room sol h = h
        taken_lies (write x i e d p q) a τ room sol h = h
        taken_lies (choose c s u) a τ room sol h =
            let υ : Stores = scopes_taken vs es ds a s τ in
            let size : length υ.registers ≡ length τ.registers = length_by τ υ (scopes_start vs es ds s a τ) in
            taken_lies u (a + registers vs s) υ (omega (arith, room, size)) sol (taken_lies s a τ room (λ k d is b. sol k d (scopes_kept vs es ds u (a + registers vs s) υ k d is) b) h)
        taken_lies (seq ts) a τ room sol h = all_taken_lie ts a τ room sol h
        taken_lies (par ts) a τ room sol h = all_taken_lie ts a τ room sol h
        taken_lies (loop s c) a τ room sol h = taken_lies s a τ room sol h
        taken_lies (abort w i s c) a τ room sol h = taken_lies s a τ room sol h
        taken_lies (suspend w i s c) a τ room sol h = taken_lies s a τ room sol h
        taken_lies (scope x y s) a τ room sol h =
            let n : ℕ = scope_registers vs (labels s) x in
            let υ : Stores = scope_taken vs es ds n a τ in
            let size : length υ.registers ≡ length τ.registers = length_by τ υ (scope_start vs es ds n a τ) in
            taken_lies s (a + n) υ (omega (arith, room, size)) sol (own_lies n a τ room (λ k d is b. sol k d (scopes_kept vs es ds s (a + n) υ k d is) b) h)

        all_taken_lie : (ts : Terms) (a : ℕ) (τ : Stores) → v + registers vs t ≤ length τ.registers → IsSolution σ (all_scopes_taken vs es ds a ts τ).cells → ScopesLie vs v t (regs τ) → ScopesLie vs v t (regs (all_scopes_taken vs es ds a ts τ))
        all_taken_lie none a τ room sol h = h
        all_taken_lie (part s ts) a τ room sol h =
            let υ : Stores = scopes_taken vs es ds a s τ in
            let size : length υ.registers ≡ length τ.registers = length_by τ υ (scopes_start vs es ds s a τ) in
            all_taken_lie ts (a + registers vs s) υ (omega (arith, room, size)) sol (taken_lies s a τ room (λ k d is b. sol k d (all_scopes_kept vs es ds ts (a + registers vs s) υ k d is) b) h)
