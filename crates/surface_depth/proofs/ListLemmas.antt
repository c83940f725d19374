-- Lists by number, with one thing more.
use Rattle.std.proofs.Common.{◌≡◌, ℕ, zero, suc, ◌<◌, ◌≤◌, List, [], ◌∷◌, ◌++◌, length, get_or, set, refl, ap, arith}
use Rattle.surface_depth.specs.Lists.{pushed}

module _ {A : Type 0} where
  pub pushed_set : (bs : List (List A)) (k : ℕ) (r : A) (b : List A) → k < length bs → b ≡ get_or bs k b → set bs k (b ++ r ∷ []) ≡ pushed bs k r
  pushed_set [] k r b h e = absurd (omega (arith, h))
  pushed_set (c ∷ bs) zero r b h e = ap (λ (x : List A). (x ++ r ∷ []) ∷ bs) e
  pushed_set (c ∷ bs) (suc k) r b h e = ap (λ (xs : List (List A)). c ∷ xs) (pushed_set bs k r b (omega (arith, h)) e)

  pub pushed_out : (bs : List (List A)) (k : ℕ) (r : A) → length bs ≤ k → bs ≡ pushed bs k r
  pushed_out [] k r h = refl
  pushed_out (c ∷ bs) zero r h = absurd (omega (arith, h))
  pushed_out (c ∷ bs) (suc k) r h = ap (λ (xs : List (List A)). c ∷ xs) (pushed_out bs k r (omega (arith, h)))
