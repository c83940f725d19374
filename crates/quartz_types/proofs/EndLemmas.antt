-- Intervals of four ends, and of a remainder.
use Rattle.std.proofs.Common.{◌≡◌, ◌≢◌, ℕ, zero, suc, ◌-◌, ◌==◌, ℤ, pos, neg_ℤ, ◌-ℤ◌, false, if◌then◌else◌, ap, ap₂, ◌∙◌, arith}
use Rattle.std.proofs.lemmas.Int.{ints}
use Rattle.std.proofs.lemmas.Bool.Decides.{nat_tests}
use Rattle.std.specs.Int.{int_max, int_min}
use Rattle.quartz_expr.specs.Intervals.{Interval, hull, nought, only, remainder_interval, size_of, span}

pub ends_are : (a b c d w x y z : ℤ) → a ≡ w → b ≡ x → c ≡ y → d ≡ z → hull (hull (only a) (only b)) (hull (only c) (only d)) ≡ hull (hull (only w) (only x)) (hull (only y) (only z))
ends_are a b c d w x y z e f g h = ap₂ hull (ap₂ (λ p q. hull (only p) (only q)) e f) (ap₂ (λ p q. hull (only p) (only q)) g h)

one_less : (m : ℕ) (g : ℤ) → g ≡ pos (suc m) → g -ℤ pos 1 ≡ pos (suc m - 1)
one_less m g e = omega (arith, ints, e)

not_nought : (m : ℕ) → (suc m == 0) ≡ false
not_nought m = grind (arith, nat_tests)

by_size : (n : ℕ) (l h g low high : ℤ) → g ≡ pos n → g ≢ pos 0 → low ≡ int_min (int_max (pos 0) (neg_ℤ l)) (g -ℤ pos 1) → high ≡ int_min (int_max (pos 0) h) (g -ℤ pos 1)
    → span (neg_ℤ low) high ≡ (if n == 0 then nought else span (neg_ℤ (int_min (int_max (pos 0) (neg_ℤ l)) (pos (n - 1)))) (int_min (int_max (pos 0) h) (pos (n - 1))))
by_size zero l h g low high e ne x y = absurd (ne e)
by_size (suc m) l h g low high e ne x y =
    let some : (suc m == 0) ≡ false = not_nought m in
    rw some (ap₂ (λ p q. span (neg_ℤ p) q) (x ∙ ap (int_min (int_max (pos 0) (neg_ℤ l))) (one_less m g e)) (y ∙ ap (int_min (int_max (pos 0) h)) (one_less m g e)))

pub remainder_is : (a b : Interval) (g low high : ℤ) → g ≡ pos (size_of b) → g ≢ pos 0 → low ≡ int_min (int_max (pos 0) (neg_ℤ a.low)) (g -ℤ pos 1) → high ≡ int_min (int_max (pos 0) a.high) (g -ℤ pos 1)
    → span (neg_ℤ low) high ≡ remainder_interval a b
remainder_is a b g low high e ne x y = by_size (size_of b) a.low a.high g low high e ne x y
