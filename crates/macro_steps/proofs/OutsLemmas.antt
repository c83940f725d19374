-- Values of value cells from given values of outputs.
use Rattle.std.proofs.Common.{◌≡◌, ◌⊎◌, inl, inr, ◌∙◌, ℕ, zero, suc, ◌+◌, ◌≤◌, ◌<◌, ◌==◌, ℤ, Bool, true, false, List, [], ◌∷◌, length, map, refl, sym, ap, ap₂, subst, arith}
use Rattle.std.specs.Prelude.{if◌then◌else◌, slice_set}
use Rattle.std.proofs.lemmas.Bool.Decides.{nat_tests}
use Rattle.quartz_expr.specs.Vars.{Vars, count_of, storage_of}
use Rattle.quartz_expr.specs.Intervals.{range_of}
use Rattle.quartz_expr.specs.Typed.{AllLie}
use Rattle.quartz_expr.specs.declared.act.Act.{Act}
use Rattle.quartz_expr.specs.Terms.{Store}
use Rattle.quartz_expr.specs.Resolve.{values_of}
use Rattle.quartz_expr.specs.Steps.{next_stores}
use Rattle.aif_cells.specs.declared.reference.Ref.TheVariants as ref
use Rattle.reincarnation.specs.Entering.{numbers_from}
use Rattle.statement_cells.specs.Builder.{Builder, new_cells, reserve, reserved_cells}
use Rattle.statement_cells.specs.Expressions.{Copies}
use Rattle.statement_cells.specs.Labels.{shape_in}
use Rattle.statement_cells.specs.Stands.{Registers}
use Rattle.statement_cells.specs.Whole.{OutputCopy, begun, variable_registers}
use Rattle.statement_cells.specs.Meaning.{plain_stores, stores_of}
use Rattle.statement_cells.proofs.BeginLemmas.{begun_grows}
use Rattle.statement_cells.proofs.ScopeEnvLemmas.{length_map}
use Rattle.statement_cells.proofs.ScopeGrowLemmas.{reserve_longer}
use Rattle.statement_cells.proofs.ScopeRunLemmas.{length_kept}
use Rattle.macro_steps.proofs.AbsentLemmas.{AllFit, fit_both}
use Rattle.macro_steps.proofs.StoreLemmas.{OutputsIn}
use Rattle.macro_steps.proofs.WantedLemmas.{outputs_reserved}
use Rattle.quartz_expr.proofs.LawLemmas.{resolved_length}
use Rattle.quartz_expr.proofs.TruthLemmas.{heads}

-- ---- the value of a cell

value_in : List ℕ → List ℤ → (k : ℕ) → (other : ℤ) → ℤ
value_in [] zs k z = z
value_in (j ∷ js) [] k z = z
value_in (j ∷ js) (y ∷ ys) k z = if k == j then y else value_in js ys k z

pub given_at : List OutputCopy → List (List ℤ) → (other : ℕ → ℤ) → ℕ → ℤ
given_at [] zs other k = other k
given_at (o ∷ os) [] other k = other k
given_at (o ∷ os) (z ∷ zs) other k = value_in o.cells z k (given_at os zs other k)

value_own : (j : ℕ) (js : List ℕ) (y : ℤ) (ys : List ℤ) (z : ℤ) → value_in (j ∷ js) (y ∷ ys) j z ≡ y
unfolding value_in
value_own j js y ys z = ap (λ b. if b then y else value_in js ys j z) (self j)
  where
    self : (k : ℕ) → (k == k) ≡ true
    self k = grind (arith, nat_tests)

value_other : (j : ℕ) (js : List ℕ) (y : ℤ) (ys : List ℤ) (k : ℕ) (z : ℤ) → (k ≡ j → ⊥) → value_in (j ∷ js) (y ∷ ys) k z ≡ value_in js ys k z
unfolding value_in
value_other j js y ys k z h = ap (λ b. if b then y else value_in js ys k z) (apart (k == j) refl)
  where
    same : (k == j) ≡ true → k ≡ j
    same e = grind (arith, nat_tests, e)

    apart : (b : Bool) → (k == j) ≡ b → (k == j) ≡ false
    apart true e = absurd (h (same e))
    apart false e = e

value_out : (n a : ℕ) (ys : List ℤ) (k : ℕ) (z : ℤ) → (k < a) ⊎ (a + n ≤ k) → value_in (numbers_from a n) ys k z ≡ z
unfolding value_in
value_out zero a ys k z h = refl
value_out (suc n) a [] k z h = refl
value_out (suc n) a (y ∷ ys) k z h = value_other a (numbers_from (a + 1) n) y ys k z (differ h) ∙ value_out n (a + 1) ys k z (further h)
  where
    differ : (k < a) ⊎ (a + suc n ≤ k) → k ≡ a → ⊥
    differ (inl l) e = omega (arith, l, e)
    differ (inr l) e = omega (arith, l, e)

    further : (k < a) ⊎ (a + suc n ≤ k) → (k < a + 1) ⊎ (a + 1 + n ≤ k)
    further (inl l) = inl (omega (arith, l))
    further (inr l) = inr (omega (arith, l))

values_here : (g z : ℕ → ℤ) (n a : ℕ) (ys : List ℤ) → length ys ≡ n → ((k : ℕ) → a ≤ k → k < a + n → g k ≡ value_in (numbers_from a n) ys k (z k)) → map g (numbers_from a n) ≡ ys
values_here g z zero a [] e h = refl
values_here g z zero a (y ∷ ys) e h = absurd (omega (arith, e))
values_here g z (suc n) a [] e h = absurd (omega (arith, e))
values_here g z (suc n) a (y ∷ ys) e h =
    ap₂ (λ u l. u ∷ l) (h a (omega arith) (omega arith) ∙ value_own a (numbers_from (a + 1) n) y ys (z a))
    (values_here g z n (a + 1) ys (omega (arith, e)) (λ k l m. h k (omega (arith, l)) (omega (arith, m)) ∙ value_other a (numbers_from (a + 1) n) y ys k (z k) (λ r. omega (arith, l, r))))

fit_here : (vs : Vars) (x : ℕ) (g : ℕ → ℤ) (n a : ℕ) (ys : List ℤ) → map g (numbers_from a n) ≡ ys → AllLie (range_of vs x) ys → AllFit vs g (reserved_cells x (numbers_from a n))
fit_here vs x g n a ys e h = at n a (subst (AllLie (range_of vs x)) (sym e) h)
  where
    at : (n a : ℕ) → AllLie (range_of vs x) (map g (numbers_from a n)) → AllFit vs g (reserved_cells x (numbers_from a n))
    at zero a h = tt
    at (suc n) a h = (h.0, at n (a + 1) h.1)

-- ---- outputs

-- each output has as many values as it has elements
abbrev pub CountsAre : Vars → List ℕ → List (List ℤ) → Type 0
CountsAre vs [] [] = Unit {0}
CountsAre vs (x ∷ xs) (z ∷ zs) = (length z ≡ count_of vs x) × CountsAre vs xs zs
CountsAre vs _ _ = ⊥

pub counts_are : (vs : Vars) (xs : List ℕ) (v : ℕ) (k : Registers) (ws : List Act) (ss : List Store) → plain_stores vs xs ss ≡ stores_of vs xs v k → CountsAre vs xs (map values_of (next_stores vs xs ws ss))
counts_are vs [] v k ws ss e = tt
counts_are vs (x ∷ xs) v k ws [] e = absurd (cc)
counts_are vs (x ∷ xs) v k ws (s ∷ ss) e =
    (resolved_length (storage_of vs x) x ws 0 s ∙ sym (length_map _ s) ∙ ap length (heads _ _ _ _ e).0 ∙ length_kept (shape_in vs x) k v 0 (count_of vs x), counts_are vs xs (v + variable_registers vs x) k ws ss (heads _ _ _ _ e).1)

-- the values of outputs' cells
abbrev pub outs_by : (ℕ → ℤ) → List OutputCopy → List (List ℤ)
outs_by g [] = []
outs_by g (o ∷ os) = map g o.cells ∷ outs_by g os

module _ (vs : Vars) (other : ℕ → ℤ) where
  abbrev behind : (x : ℕ) → Copies → Builder → Copies
  behind x κ β = slice_set κ x (record { copy = 0; values = map ref.Cell (new_cells vs x β) })

  pub given_out : (xs : List ℕ) (κ : Copies) (β : Builder) (zs : List (List ℤ)) (k : ℕ) → (k < length β.cells) ⊎ (length (begun vs xs κ β).built.cells ≤ k) → given_at (begun vs xs κ β).outputs zs other k ≡ other k
  unfolding given_at
  given_out [] κ β zs k h = refl
  given_out (x ∷ xs) κ β [] k h = refl
  given_out (x ∷ xs) κ β (z ∷ zs) k h =
      let β' : Builder = reserve vs x true β in
      value_out (count_of vs x) (length β.cells) z k (given_at (begun vs xs (behind x κ β) β').outputs zs other k) (own h) ∙ given_out xs (behind x κ β) β' zs k (further h)
    where
      own : (k < length β.cells) ⊎ (length (begun vs (x ∷ xs) κ β).built.cells ≤ k) → (k < length β.cells) ⊎ (length β.cells + count_of vs x ≤ k)
      own (inl l) = inl l
      own (inr l) = let more = (begun_grows vs xs (behind x κ β) (reserve vs x true β)).longer in inr (omega (arith, l, more, reserve_longer vs x true β))

      further : (k < length β.cells) ⊎ (length (begun vs (x ∷ xs) κ β).built.cells ≤ k) → (k < length (reserve vs x true β).cells) ⊎ (length (begun vs (x ∷ xs) κ β).built.cells ≤ k)
      further (inl l) = inl (omega (arith, l, reserve_longer vs x true β))
      further (inr l) = inr l

  -- the cells of outputs have the given values
  pub given_own : (g : ℕ → ℤ) (xs : List ℕ) (κ : Copies) (β : Builder) (zs : List (List ℤ)) → CountsAre vs xs zs
      → ((k : ℕ) → length β.cells ≤ k → k < length (begun vs xs κ β).built.cells → g k ≡ given_at (begun vs xs κ β).outputs zs other k) → outs_by g (begun vs xs κ β).outputs ≡ zs
  unfolding given_at
  given_own g [] κ β [] c h = refl
  given_own g (x ∷ xs) κ β (z ∷ zs) c h =
      let β' : Builder = reserve vs x true β in
      let size = reserve_longer vs x true β in
      let more = (begun_grows vs xs (behind x κ β) β').longer in
      ap₂ (λ a l. a ∷ l)
      (values_here g (given_at (begun vs xs (behind x κ β) β').outputs zs other) (count_of vs x) (length β.cells) z c.0 (λ k l m. h k l (omega (arith, m, size, more))))
      (given_own g xs (behind x κ β) β' zs c.1 (λ k l m. h k (omega (arith, l, size)) m ∙ value_out (count_of vs x) (length β.cells) z k (given_at (begun vs xs (behind x κ β) β').outputs zs other k) (inr (omega (arith, l, size)))))
  given_own g [] κ β (z ∷ zs) c h = absurd c
  given_own g (x ∷ xs) κ β [] c h = absurd c

  pub outs_fit : (g : ℕ → ℤ) (xs : List ℕ) (κ : Copies) (β : Builder) (zs : List (List ℤ)) → outs_by g (begun vs xs κ β).outputs ≡ zs → OutputsIn vs xs zs → AllFit vs g (outputs_reserved (begun vs xs κ β).outputs)
  outs_fit g [] κ β zs e h = tt
  outs_fit g (x ∷ xs) κ β [] e h = absurd h
  outs_fit g (x ∷ xs) κ β (z ∷ zs) e h =
      let β' : Builder = reserve vs x true β in
      fit_both vs g (reserved_cells x (new_cells vs x β)) (outputs_reserved (begun vs xs (behind x κ β) β').outputs) (fit_here vs x g (count_of vs x) (length β.cells) z (first e) h.0) (outs_fit g xs (behind x κ β) β' zs (rest e) h.1)
    where
      first : {a b : List ℤ} {l m : List (List ℤ)} → a ∷ l ≡ b ∷ m → a ≡ b
      first p = cc

      rest : {a b : List ℤ} {l m : List (List ℤ)} → a ∷ l ≡ b ∷ m → l ≡ m
      rest p = cc
