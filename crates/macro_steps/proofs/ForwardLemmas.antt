-- Cells that are computed in the order of their numbers, from values of those that are free.
use Rattle.std.proofs.Common.{◌≡◌, ◌∙◌, ℕ, zero, suc, ◌+◌, ◌<◌, ◌≤◌, ◌==◌, nat_lt, ℤ, Bool, true, false, List, length, Option, Some, None, refl, sym, ap, subst, arith}
use Rattle.std.specs.Prelude.{if◌then◌else◌, slice_get}
use Rattle.std.proofs.lemmas.Bool.Decides.{nat_tests}
use Rattle.aif_cells.specs.Built.{Defined}
use Rattle.aif_cells.specs.Worth.{Assignment, worth}
use Rattle.aif_cells.specs.Dependences.{DependsOn}
use Rattle.aif_cells.specs.Solution.{MeetsBut}
use Rattle.aif_cells.proofs.SolutionLemmas.{there}
use Rattle.statement_cells.specs.Builder.{tree_at}
use Rattle.macro_steps.proofs.AgreeLemmas.{with_cells, worth_agrees}

module _ (σ : Assignment) (cs : List Defined) (free : ℕ → Bool) where
  -- cells below a number are computed
  pub upto : (f : ℕ → ℤ) → ℕ → ℕ → ℤ
  upto f zero k = f k
  upto f (suc n) k = if k == n then (if free n then f n else worth (with_cells σ (upto f n)) (tree_at cs n)) else upto f n k

  -- all are
  abbrev pub forward : (ℕ → ℤ) → ℕ → ℤ
  forward f = upto f (length cs)

  self : (n : ℕ) → (n == n) ≡ true
  self n = grind (arith, nat_tests)

  other : (k n : ℕ) → k < n → (k == n) ≡ false
  other k n l = grind (arith, nat_tests, l)

  upto_self : (f : ℕ → ℤ) (n : ℕ) → upto f (suc n) n ≡ (if free n then f n else worth (with_cells σ (upto f n)) (tree_at cs n))
  unfolding upto
  upto_self f n = ap (λ b. if b then (if free n then f n else worth (with_cells σ (upto f n)) (tree_at cs n)) else upto f n n) (self n)

  upto_below : (f : ℕ → ℤ) (n k : ℕ) → k < n → upto f (suc n) k ≡ upto f n k
  unfolding upto
  upto_below f n k l = ap (λ b. if b then (if free n then f n else worth (with_cells σ (upto f n)) (tree_at cs n)) else upto f n k) (other k n l)

  -- what is computed stays
  stays_upto : (f : ℕ → ℤ) (m n k : ℕ) → k < n → upto f (m + n) k ≡ upto f n k
  stays_upto f zero n k l = let e : zero + n ≡ n = omega arith in ap (λ p. upto f p k) e
  stays_upto f (suc m) n k l = let e : suc m + n ≡ suc (m + n) = omega arith in ap (λ p. upto f p k) e ∙ upto_below f (m + n) k (omega (arith, l)) ∙ stays_upto f m n k l

  from_upto : (f : ℕ → ℤ) (n k : ℕ) → k < n → n ≤ length cs → forward f k ≡ upto f n k
  from_upto f n k l le = at (splits (length cs) n le)
    where
      splits : (a b : ℕ) → b ≤ a → (m : ℕ) × (a ≡ m + b)
      splits a zero le = (a, omega arith)
      splits zero (suc b) le = absurd (omega (arith, le))
      splits (suc a) (suc b) le = let r = splits a b (omega (arith, le)) in let e = r.1 in (r.0, omega (arith, e))

      at : (m : ℕ) × (length cs ≡ m + n) → forward f k ≡ upto f n k
      at (m, e) = ap (λ p. upto f p k) e ∙ stays_upto f m n k l

  past : (f : ℕ → ℤ) (n k : ℕ) → n ≤ k → upto f n k ≡ f k
  unfolding upto
  past f zero k le = refl
  past f (suc n) k le = ap (λ b. if b then (if free n then f n else worth (with_cells σ (upto f n)) (tree_at cs n)) else upto f n k) (above k n le) ∙ past f n k (omega (arith, le))
    where
      above : (k n : ℕ) → suc n ≤ k → (k == n) ≡ false
      above k n l = grind (arith, nat_tests, l)

  -- behind all cells nothing is computed
  pub forward_past : (f : ℕ → ℤ) (k : ℕ) → length cs ≤ k → forward f k ≡ f k
  forward_past f k le = past f (length cs) k le

  -- what is free has its given value
  pub forward_free : (f : ℕ → ℤ) (k : ℕ) → free k ≡ true → forward f k ≡ f k
  forward_free f k e = at (nat_lt k (length cs)) refl
    where
      less : nat_lt k (length cs) ≡ true → k < length cs
      less p = grind (arith, nat_tests, p)

      more : nat_lt k (length cs) ≡ false → length cs ≤ k
      more p = grind (arith, nat_tests, p)

      at : (b : Bool) → nat_lt k (length cs) ≡ b → forward f k ≡ f k
      at true p = let l : k < length cs = less p in from_upto f (suc k) k (omega arith) (omega (arith, l)) ∙ upto_self f k ∙ ap (λ b. if b then f k else worth (with_cells σ (upto f k)) (tree_at cs k)) e
      at false p = forward_past f k (more p)

  tree_is : (k : ℕ) (c : Defined) → slice_get cs k ≡ Some c → tree_at cs k ≡ c.tree
  tree_is k c e = rw e refl

  module _ (before : (k d : ℕ) → free k ≡ false → DependsOn cs k d → d < k) where
    -- all others meet their equations
    pub forward_meets : (f : ℕ → ℤ) → MeetsBut free (with_cells σ (forward f)) cs
    forward_meets f k c is e =
        let l : k < length cs = there cs k c is in
        from_upto f (suc k) k (omega arith) (omega (arith, l)) ∙ upto_self f k ∙ ap (λ b. if b then f k else worth (with_cells σ (upto f k)) (tree_at cs k)) e
        ∙ ap (worth (with_cells σ (upto f k))) (tree_is k c is)
        ∙ worth_agrees (with_cells σ (upto f k)) (forward f) c.tree (λ d named. let less : d < k = before k d e (c, is, named) in sym (from_upto f k d less (omega (arith, l))))

    one_same : (f g : ℕ → ℤ) (n : ℕ) → ((d : ℕ) → d < n → upto f n d ≡ upto g n d) → f n ≡ g n → upto f (suc n) n ≡ upto g (suc n) n
    one_same f g n inner e = upto_self f n ∙ own (free n) refl ∙ sym (upto_self g n)
      where
        trees : (o : Option Defined) → slice_get cs n ≡ o → free n ≡ false → worth (with_cells σ (upto f n)) (tree_at cs n) ≡ worth (with_cells σ (upto g n)) (tree_at cs n)
        trees None q e = rw q refl
        trees (Some c) q e =
            ap (worth (with_cells σ (upto f n))) (tree_is n c q) ∙ worth_agrees (with_cells σ (upto f n)) (upto g n) c.tree (λ d named. inner d (before n d e (c, q, named))) ∙ sym (ap (worth (with_cells σ (upto g n))) (tree_is n c q))

        own : (b : Bool) → free n ≡ b → (if b then f n else worth (with_cells σ (upto f n)) (tree_at cs n)) ≡ (if b then g n else worth (with_cells σ (upto g n)) (tree_at cs n))
        own true q = e
        own false q = trees (slice_get cs n) refl q

    upto_same : (f g : ℕ → ℤ) (n : ℕ) → ((k : ℕ) → k < n → f k ≡ g k) → (k : ℕ) → k < n → upto f n k ≡ upto g n k
    upto_same f g zero h k l = absurd (omega (arith, l))
    upto_same f g (suc n) h k l = at (nat_lt k n) refl (upto_same f g n (λ j q. h j (omega (arith, q))))
      where
        less : nat_lt k n ≡ true → k < n
        less p = grind (arith, nat_tests, p)

        same : nat_lt k n ≡ false → k ≡ n
        same p = grind (arith, nat_tests, p, l)

        at : (b : Bool) → nat_lt k n ≡ b → ((d : ℕ) → d < n → upto f n d ≡ upto g n d) → upto f (suc n) k ≡ upto g (suc n) k
        at true p inner = upto_below f n k (less p) ∙ inner k (less p) ∙ sym (upto_below g n k (less p))
        at false p inner = subst (λ j. upto f (suc n) j ≡ upto g (suc n) j) (sym (same p)) (one_same f g n inner (h n (omega arith)))

    -- cells below a number depend on free ones below it alone
    pub forward_same : (f g : ℕ → ℤ) (n : ℕ) → n ≤ length cs → ((k : ℕ) → k < n → f k ≡ g k) → (k : ℕ) → k < n → forward f k ≡ forward g k
    forward_same f g n le h k l = from_upto f n k l le ∙ upto_same f g n h k l ∙ sym (from_upto g n k l le)
