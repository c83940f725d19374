-- What value cells of scopes have where nothing is written, by number.
use Rattle.std.proofs.Common.{◌≡◌, ◌⊎◌, inl, inr, ℕ, zero, suc, ◌+◌, ◌≤◌, ◌<◌, ◌==◌, ℤ, pos, Bool, true, false, List, [], ◌∷◌, ◌++◌, length, refl, sym, ap, ◌∙◌, subst, arith}
use Rattle.std.specs.Prelude.{if◌then◌else◌}
use Rattle.std.proofs.lemmas.Bool.Decides.{nat_tests}
use Rattle.quartz_expr.specs.Vars.{Vars}
use Rattle.quartz_expr.specs.Intervals.{Lies, range_of}
use Rattle.quartz_expr.specs.Typed.{AllLie}
use Rattle.aif_cells.specs.Tree.{Tree}
use Rattle.aif_cells.specs.Built.{Defined}
use Rattle.aif_cells.specs.Worth.{Assignment, worth}
use Rattle.reincarnation.specs.Entering.{numbers_from}
use Rattle.statement_cells.specs.Builder.{Reserved, Scoped, reserved_cells}
use Rattle.statement_cells.specs.Walk.{worths_of}
use Rattle.statement_cells.proofs.GrowLemmas.{AllRecorded, AreBetween}
use Rattle.statement_cells.proofs.PlacedLemmas.{AllAbsent, AbsentAt, reserved_in}
use Rattle.statement_cells.proofs.ScopeGrowLemmas.{length_numbers}

module _ (σ : Assignment) where
  absent_in : List ℕ → List Tree → (k : ℕ) → (other : ℤ) → ℤ
  absent_in [] us k z = z
  absent_in (j ∷ js) [] k z = z
  absent_in (j ∷ js) (u ∷ us) k z = if k == j then worth σ u else absent_in js us k z

  pub absent_at : List Scoped → ℕ → ℤ
  absent_at [] k = pos 0
  absent_at (s ∷ ss) k = absent_in s.cells s.absent k (absent_at ss k)

  apart : (k j : ℕ) → (k ≡ j → ⊥) → (k == j) ≡ false
  apart k j h = at (k == j) refl
    where
      same : (k == j) ≡ true → k ≡ j
      same e = grind (arith, nat_tests, e)

      at : (b : Bool) → (k == j) ≡ b → b ≡ false
      at true e = absurd (h (same e))
      at false e = refl

  self : (k : ℕ) → (k == k) ≡ true
  self k = grind (arith, nat_tests)

  other_cell : (j : ℕ) (js : List ℕ) (u : Tree) (us : List Tree) (k : ℕ) (z : ℤ) → (k ≡ j → ⊥) → absent_in (j ∷ js) (u ∷ us) k z ≡ absent_in js us k z
  unfolding absent_in
  other_cell j js u us k z h = ap (λ b. if b then worth σ u else absent_in js us k z) (apart k j h)

  own_cell : (j : ℕ) (js : List ℕ) (u : Tree) (us : List Tree) (z : ℤ) → absent_in (j ∷ js) (u ∷ us) j z ≡ worth σ u
  unfolding absent_in
  own_cell j js u us z = ap (λ b. if b then worth σ u else absent_in js us j z) (self j)

  -- numbers outside have none
  absent_out : (n f : ℕ) (us : List Tree) (k : ℕ) (z : ℤ) → (k < f) ⊎ (f + n ≤ k) → absent_in (numbers_from f n) us k z ≡ z
  unfolding absent_in
  absent_out zero f us k z h = refl
  absent_out (suc n) f [] k z h = refl
  absent_out (suc n) f (u ∷ us) k z h = other_cell f (numbers_from (f + 1) n) u us k z (differ h) ∙ absent_out n (f + 1) us k z (further h)
    where
      differ : (k < f) ⊎ (f + suc n ≤ k) → k ≡ f → ⊥
      differ (inl l) e = omega (arith, l, e)
      differ (inr l) e = omega (arith, l, e)

      further : (k < f) ⊎ (f + suc n ≤ k) → (k < f + 1) ⊎ (f + 1 + n ≤ k)
      further (inl l) = inl (omega (arith, l))
      further (inr l) = inr (omega (arith, l))

  -- cells before those of all scopes have none
  pub absent_below : (lo hi : ℕ) (ss : List Scoped) (k : ℕ) → AreBetween lo hi ss → k < lo → absent_at ss k ≡ pos 0
  unfolding absent_at
  absent_below lo hi [] k h l = refl
  absent_below lo hi (s ∷ ss) k (f, n, le, e, more) l =
      ap (λ ks. absent_in ks s.absent k (absent_at ss k)) e ∙ absent_out n f s.absent k (absent_at ss k) (inl (omega (arith, le, l))) ∙ absent_below (f + n) hi ss k more (omega (arith, le, l))

  -- each cell has the value of its tree
  abbrev pub HaveValues : (g : ℕ → ℤ) → List ℕ → List Tree → Type 0
  HaveValues g [] [] = Unit {0}
  HaveValues g (k ∷ ks) (u ∷ us) = (g k ≡ worth σ u) × HaveValues g ks us
  HaveValues g _ _ = ⊥

  abbrev pub ScopesHaveValues : (g : ℕ → ℤ) → List Scoped → Type 0
  ScopesHaveValues g [] = Unit {0}
  ScopesHaveValues g (s ∷ ss) = HaveValues g s.cells s.absent × ScopesHaveValues g ss

  numbers_have : (g z : ℕ → ℤ) (n f : ℕ) (us : List Tree) → length us ≡ n → ((k : ℕ) → f ≤ k → g k ≡ absent_in (numbers_from f n) us k (z k)) → HaveValues g (numbers_from f n) us
  numbers_have g z zero f [] e h = tt
  numbers_have g z zero f (u ∷ us) e h = absurd (omega (arith, e))
  numbers_have g z (suc n) f [] e h = absurd (omega (arith, e))
  numbers_have g z (suc n) f (u ∷ us) e h =
      (h f (omega arith) ∙ own_cell f (numbers_from (f + 1) n) u us (z f), numbers_have g z n (f + 1) us (omega (arith, e)) (λ k l. h k (omega (arith, l)) ∙ other_cell f (numbers_from (f + 1) n) u us k (z k) (λ q. omega (arith, l, q))))

  scopes_have : (g : ℕ → ℤ) (n : ℕ) (cs : List Defined) (lo hi : ℕ) (ss : List Scoped) → AllRecorded n cs ss → AreBetween lo hi ss → ((k : ℕ) → lo ≤ k → g k ≡ absent_at ss k) → ScopesHaveValues g ss
  unfolding absent_at
  scopes_have g m cs lo hi [] r h e = tt
  scopes_have g m cs lo hi (s ∷ ss) r (f, n, le, same, more) e =
      let size : length s.absent ≡ n = r.1 ∙ ap length same ∙ length_numbers f n in (
        subst (λ ks. HaveValues g ks s.absent) (sym same) (numbers_have g (absent_at ss) n f s.absent size (λ k l. e k (omega (arith, le, l)) ∙ ap (λ ks. absent_in ks s.absent k (absent_at ss k)) same)),
        scopes_have g m cs (f + n) hi ss r.2 more (λ k l. e k (omega (arith, le, l)) ∙ ap (λ ks. absent_in ks s.absent k (absent_at ss k)) same ∙ absent_out n f s.absent k (absent_at ss k) (inr l)),
      )

  pub absents_have : (n : ℕ) (cs : List Defined) (lo hi : ℕ) (ss : List Scoped) → AllRecorded n cs ss → AreBetween lo hi ss → ScopesHaveValues (absent_at ss) ss
  absents_have n cs lo hi ss r h = scopes_have (absent_at ss) n cs lo hi ss r h (λ k l. refl)

-- each value cell has a value in its variable's range
abbrev pub AllFit : Vars → (ℕ → ℤ) → List Reserved → Type 0
AllFit vs g [] = Unit {0}
AllFit vs g (r ∷ rs) = Lies (range_of vs r.var) (g r.cell) × AllFit vs g rs

pub fit_both : (vs : Vars) (g : ℕ → ℤ) (rs qs : List Reserved) → AllFit vs g rs → AllFit vs g qs → AllFit vs g (rs ++ qs)
fit_both vs g [] qs h k = k
fit_both vs g (r ∷ rs) qs h k = (h.0, fit_both vs g rs qs h.1 k)

module _ (vs : Vars) (σ : Assignment) (g : ℕ → ℤ) where
  values_fit : (x : ℕ) (ks : List ℕ) (us : List Tree) → HaveValues σ g ks us → AllLie (range_of vs x) (worths_of σ us) → AllFit vs g (reserved_cells x ks)
  values_fit x [] [] h l = tt
  values_fit x (k ∷ ks) (u ∷ us) h l = (subst (Lies (range_of vs x)) (sym h.0) l.0, values_fit x ks us h.1 l.1)
  values_fit x [] (u ∷ us) h l = absurd h
  values_fit x (k ∷ ks) [] h l = absurd h

  pub scopes_fit : (P : ℕ → ℕ → Type 0) (ss : List Scoped) → ((s : Scoped) → AbsentAt vs P s → AllLie (range_of vs s.var) (worths_of σ s.absent)) → AllAbsent vs P ss → ScopesHaveValues σ g ss → AllFit vs g (reserved_in ss)
  scopes_fit P [] f a h = tt
  scopes_fit P (s ∷ ss) f a h = fit_both vs g (reserved_cells s.var s.cells) (reserved_in ss) (values_fit s.var s.cells s.absent h.0 (f s a.0)) (scopes_fit P ss f a.1 h.1)
