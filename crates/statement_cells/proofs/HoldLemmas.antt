-- The registers of scopes hold what they take: that of the first copy that was entered, else that of the copy with store.
use Rattle.std.proofs.Common.{◌≡◌, ◌⊎◌, inl, inr, ℕ, zero, suc, ◌+◌, ◌≤◌, ◌<◌, ◌==◌, ◌||◌, ℤ, Bool, true, false, List, [], ◌∷◌, ◌++◌, Option, Some, None, refl, sym, ap, ap₂, ◌∙◌, arith, append-nil, append_assoc}
use Rattle.std.proofs.lemmas.Bool.Decides.{nat_tests}
use Rattle.std.specs.Prelude.{is_some, if◌then◌else◌}
use Rattle.quartz_expr.specs.Vars.{Vars, count_of}
use Rattle.aif_cells.specs.Worth.{Assignment, read, truth}
use Rattle.absence_reaction.specs.declared.copy.Shape.{Shape}
use Rattle.absence_reaction.specs.Closing.{flag_of, pending_of, register_of}
use Rattle.quartz_tree.specs.Storage.{is_memorized}
use Rattle.reincarnation.specs.declared.copy.ClosedRefs.{ClosedRefs}
use Rattle.reincarnation.specs.declared.copy.Entered.{Entered}
use Rattle.reincarnation.specs.Meaning.{carried_copy}
use Rattle.statement_cells.specs.Labels.{shape_in}
use Rattle.statement_cells.specs.Builder.{DepthCopy, EnteredCopy}
use Rattle.statement_cells.specs.Stands.{Registers, some}
use Rattle.statement_cells.specs.Walk.{Holds, Takes, depth_takes, else_takes, entered_takes, now, or_else, takes_copy, takes_element, takes_from, takes_if, takes_one, ref_at}
use Rattle.statement_cells.specs.Whole.{depths_at, entered_at, variable_registers}
use Rattle.statement_cells.proofs.PlacedLemmas.{AllAt}
use Rattle.statement_cells.proofs.ScopeTakesLemmas.{copy_in}

-- ---- which registers a copy has

some_or : (a b : Option ℤ) → is_some (or_else a b) ≡ (is_some a || is_some b)
some_or (Some z) b = refl
some_or None b = refl

some_one : (n r : ℕ) (z y : ℤ) → is_some (takes_one n z r) ≡ is_some (takes_one n y r)
some_one n r z y = at (n == r)
  where
    at : (b : Bool) → is_some (if b then Some z else None) ≡ is_some (if b then Some y else None)
    at true = refl
    at false = refl

some_if_taken : (b : Bool) (f g : Takes) (r : ℕ) → is_some (f r) ≡ is_some (g r) → is_some (takes_if b f r) ≡ is_some (takes_if b g r)
some_if_taken true f g r e = e
some_if_taken false f g r e = refl

some_else : (f g f' g' : Takes) (r : ℕ) → is_some (f r) ≡ is_some (f' r) → is_some (g r) ≡ is_some (g' r) → is_some (else_takes f g r) ≡ is_some (else_takes f' g' r)
some_else f g f' g' r e h = some_or (f r) (g r) ∙ ap₂ (λ a b. a || b) e h ∙ sym (some_or (f' r) (g' r))

module _ (vs : Vars) (σ : Assignment) where
  abbrev later : Shape → (v j : ℕ) → ClosedRefs → Takes
  later s v j c = takes_if s.delayed (else_takes (takes_one (flag_of s v j) (read σ (ref_at c.flags j))) (takes_one (pending_of s v j) (read σ (ref_at c.pending j))))

  -- it doesn't depend on what the copy has
  some_from : (s : Shape) (v j n : ℕ) (c d : ClosedRefs) (r : ℕ) → is_some (takes_from σ s v j n c r) ≡ is_some (takes_from σ s v j n d r)
  some_from s v j zero c d r = refl
  some_from s v j (suc n) c d r =
      some_else (takes_element σ s v j c) (takes_from σ s v (j + 1) n c) (takes_element σ s v j d) (takes_from σ s v (j + 1) n d) r
      (some_else (takes_if (is_memorized s.storage) (takes_one (register_of s v j) (read σ (ref_at c.values j)))) (later s v j c) (takes_if (is_memorized s.storage) (takes_one (register_of s v j) (read σ (ref_at d.values j)))) (later s v j d) r
      (some_if_taken (is_memorized s.storage) (takes_one (register_of s v j) (read σ (ref_at c.values j))) (takes_one (register_of s v j) (read σ (ref_at d.values j))) r (some_one (register_of s v j) r _ _))
      (some_if_taken s.delayed (else_takes (takes_one (flag_of s v j) (read σ (ref_at c.flags j))) (takes_one (pending_of s v j) (read σ (ref_at c.pending j))))
      (else_takes (takes_one (flag_of s v j) (read σ (ref_at d.flags j))) (takes_one (pending_of s v j) (read σ (ref_at d.pending j)))) r
      (some_else (takes_one (flag_of s v j) (read σ (ref_at c.flags j))) (takes_one (pending_of s v j) (read σ (ref_at c.pending j))) (takes_one (flag_of s v j) (read σ (ref_at d.flags j))) (takes_one (pending_of s v j) (read σ (ref_at d.pending j))) r
      (some_one (flag_of s v j) r _ _) (some_one (pending_of s v j) r _ _))))
      (some_from s v (j + 1) n c d r)

  -- ---- other copies

  -- registers of the variable there, which are some, lie outside these
  abbrev pub Out : (v n : ℕ) → (x' v' : ℕ) → Type 0
  Out v n x' v' = (0 < variable_registers vs x') × ((v' + variable_registers vs x' ≤ v) ⊎ (v + n ≤ v'))

  pub out_none : (v n x' v' : ℕ) (c : ClosedRefs) (r : ℕ) → Out v n x' v' → v ≤ r → r < v + n → takes_copy vs σ x' v' c r ≡ None
  out_none v n x' v' c r o g l = at o.1
    where
      at : (v' + variable_registers vs x' ≤ v) ⊎ (v + n ≤ v') → takes_copy vs σ x' v' c r ≡ None
      at (inl h) = (copy_in vs σ x' v' c).above r (omega (arith, h, g))
      at (inr h) = (copy_in vs σ x' v' c).below r (omega (arith, h, l))

  pub if_none : (b : Bool) (f : Takes) (r : ℕ) → f r ≡ None → takes_if b f r ≡ None
  if_none true f r e = e
  if_none false f r e = refl

  -- ---- one scope

  module _ (x v n : ℕ) (r : ℕ) (g : v ≤ r) (l : r < v + n) where
    -- what the copies without store take
    abbrev pub taken_by : List Entered → Option ℤ
    taken_by [] = None
    taken_by (e ∷ es) = or_else (takes_if (truth σ e.enter) (takes_copy vs σ x v e.closed) r) (taken_by es)

    here_is : (v' : ℕ) → (v' == v) ≡ true → v' ≡ v
    here_is v' e = grind (arith, nat_tests, e)

    own_is : (v' : ℕ) → v' ≡ v → (v' == v) ≡ true
    own_is v' e = grind (arith, nat_tests, e)

    out_is : (x' v' : ℕ) → 0 < n → Out v n x' v' → (v' == v) ≡ false
    out_is x' v' some o = at (v' == v) refl
      where
        wrong : v' ≡ v → (v' + variable_registers vs x' ≤ v) ⊎ (v + n ≤ v') → ⊥
        wrong e (inl h) = omega (arith, e, h, o.0)
        wrong e (inr h) = omega (arith, e, h, some)

        at : (b : Bool) → (v' == v) ≡ b → b ≡ false
        at true e = absurd (wrong (here_is v' e) o.1)
        at false e = refl

    pub entered_here : (es : List EnteredCopy) → 0 < n → AllAt vs (λ x' v'. ((x' ≡ x) × (v' ≡ v)) ⊎ Out v n x' v') es → entered_takes vs σ es r ≡ taken_by (entered_at v es)
    unfolding entered_takes
    entered_here [] some h = refl
    entered_here (e ∷ es) some h = at h.0 (entered_here es some h.1)
      where
        at : ((e.var ≡ x) × (e.first ≡ v)) ⊎ Out v n e.var e.first → entered_takes vs σ es r ≡ taken_by (entered_at v es)
            → or_else (takes_if (truth σ e.entered.enter) (takes_copy vs σ e.var e.first e.entered.closed) r) (entered_takes vs σ es r) ≡ taken_by (if e.first == v then e.entered ∷ entered_at v es else entered_at v es)
        at (inl o) k =
            ap₂ (λ y w. or_else (takes_if (truth σ e.entered.enter) (takes_copy vs σ y w e.entered.closed) r) (entered_takes vs σ es r)) o.0 o.1
            ∙ ap (or_else (takes_if (truth σ e.entered.enter) (takes_copy vs σ x v e.entered.closed) r)) k
            ∙ sym (ap (λ b. taken_by (if b then e.entered ∷ entered_at v es else entered_at v es)) (own_is e.first o.1))
        at (inr o) k =
            ap (λ a. or_else a (entered_takes vs σ es r)) (if_none (truth σ e.entered.enter) (takes_copy vs σ e.var e.first e.entered.closed) r (out_none v n e.var e.first e.entered.closed r o g l)) ∙ k
            ∙ sym (ap (λ b. taken_by (if b then e.entered ∷ entered_at v es else entered_at v es)) (out_is e.var e.first some o))

    abbrev pub AllOut : List DepthCopy → Type 0
    AllOut [] = Unit {0}
    AllOut (d ∷ ds) = Out v n d.var d.first × AllOut ds

    depth_out : (ds es : List DepthCopy) → AllOut ds → depth_takes vs σ (ds ++ es) r ≡ depth_takes vs σ es r
    unfolding depth_takes
    depth_out [] es h = refl
    depth_out (d ∷ ds) es h =
        ap (λ a. or_else a (depth_takes vs σ (ds ++ es) r)) (if_none (some (now σ) d.label d.labels) (takes_copy vs σ d.var d.first d.closed) r (out_none v n d.var d.first d.closed r h.0 g l)) ∙ depth_out ds es h.1

    at_out : (ds es : List DepthCopy) → 0 < n → AllOut ds → depths_at v (ds ++ es) ≡ depths_at v es
    at_out [] es some h = refl
    at_out (d ∷ ds) es some h = ap (λ b. if b then d ∷ depths_at v (ds ++ es) else depths_at v (ds ++ es)) (out_is d.var d.first some h.0) ∙ at_out ds es some h.1

    -- the copy that is carried has what is taken
    pub carried_taken : (k : Registers) (es : List Entered) (d : ClosedRefs) (b : Bool) (z : ℤ) → Holds (takes_copy vs σ x v (carried_copy σ es d)) k
        → or_else (taken_by es) (takes_if b (takes_copy vs σ x v d) r) ≡ Some z → k r ≡ z
    carried_taken k [] d true z h e = h r z e
    carried_taken k [] d false z h e = absurd (cc)
    carried_taken k (e ∷ es) d b z h q = by (truth σ e.enter) (λ j p. carried_taken k es d b z j p) h q
      where
        none_is : (o : Option ℤ) → is_some o ≡ false → o ≡ None
        none_is (Some y) p = absurd (cc)
        none_is None p = refl

        copy_none : (c c' : ClosedRefs) → takes_copy vs σ x v c r ≡ None → takes_copy vs σ x v c' r ≡ None
        copy_none c c' p = none_is (takes_copy vs σ x v c' r) (some_from (shape_in vs x) v 0 (count_of vs x) c' c r ∙ ap is_some p)

        all_none : (c : ClosedRefs) (us : List Entered) → takes_copy vs σ x v c r ≡ None → taken_by us ≡ None
        all_none c [] p = refl
        all_none c (u ∷ us) p = ap (λ a. or_else a (taken_by us)) (if_none (truth σ u.enter) (takes_copy vs σ x v u.closed) r (copy_none c u.closed p)) ∙ all_none c us p

        first_taken : (o : Option ℤ) → takes_copy vs σ x v e.closed r ≡ o → Holds (takes_copy vs σ x v e.closed) k → or_else (or_else o (taken_by es)) (takes_if b (takes_copy vs σ x v d) r) ≡ Some z → k r ≡ z
        first_taken (Some y) p j w = j r z (p ∙ w)
        first_taken None p j w = absurd (wrong (sym (ap₂ or_else (all_none e.closed es p) (if_none b (takes_copy vs σ x v d) r (copy_none e.closed d p))) ∙ w))
          where
            wrong : None ≡ Some z → ⊥
            wrong m = cc

        by : (t : Bool) → (Holds (takes_copy vs σ x v (carried_copy σ es d)) k → or_else (taken_by es) (takes_if b (takes_copy vs σ x v d) r) ≡ Some z → k r ≡ z)
            → Holds (takes_copy vs σ x v (if t then e.closed else carried_copy σ es d)) k → or_else (or_else (takes_if t (takes_copy vs σ x v e.closed) r) (taken_by es)) (takes_if b (takes_copy vs σ x v d) r) ≡ Some z → k r ≡ z
        by true ih j w = first_taken (takes_copy vs σ x v e.closed r) refl j w
        by false ih j w = ih j w

    -- the only copy with store there
    pub depth_here : (front inner back : List DepthCopy) (d : DepthCopy) → AllOut front → AllOut inner → AllOut back → d.var ≡ x → d.first ≡ v
        → depth_takes vs σ (front ++ ((inner ++ d ∷ []) ++ back)) r ≡ takes_if (some (now σ) d.label d.labels) (takes_copy vs σ x v d.closed) r
    unfolding depth_takes
    depth_here front inner back d f i b e h =
        depth_out front ((inner ++ d ∷ []) ++ back) f ∙ ap (λ ds. depth_takes vs σ ds r) (append_assoc inner (d ∷ []) back) ∙ depth_out inner (d ∷ back) i
        ∙ ap₂ (λ y w. or_else (takes_if (some (now σ) d.label d.labels) (takes_copy vs σ y w d.closed) r) (depth_takes vs σ back r)) e h
        ∙ ap (or_else (takes_if (some (now σ) d.label d.labels) (takes_copy vs σ x v d.closed) r)) (ap (λ ds. depth_takes vs σ ds r) (sym (append-nil back)) ∙ depth_out back [] b)
        ∙ right_none (takes_if (some (now σ) d.label d.labels) (takes_copy vs σ x v d.closed) r)
      where
        right_none : (o : Option ℤ) → or_else o None ≡ o
        right_none (Some z) = refl
        right_none None = refl

    pub depths_here : (front inner back : List DepthCopy) (d : DepthCopy) → 0 < n → AllOut front → AllOut inner → AllOut back → d.first ≡ v → depths_at v (front ++ ((inner ++ d ∷ []) ++ back)) ≡ d ∷ []
    depths_here front inner back d some f i b h =
        at_out front ((inner ++ d ∷ []) ++ back) some f ∙ ap (depths_at v) (append_assoc inner (d ∷ []) back) ∙ at_out inner (d ∷ back) some i
        ∙ ap (λ t. if t then d ∷ depths_at v back else depths_at v back) (own_is d.first h) ∙ ap (λ ds. d ∷ ds) (ap (depths_at v) (sym (append-nil back)) ∙ at_out back [] some b)
