-- Truth values.
use Rattle.std.proofs.Common.{◌≡◌, ℤ, pos, negsuc, zero, suc, Bool, true, false, not, ◌&&◌, ◌||◌, refl}
use Rattle.quartz_expr.specs.Values.{is_zero}
use Rattle.aif_cells.specs.Worth.{holds}
use Rattle.quartz_expr.proofs.TruthLemmas.{and_intro, and_left, and_right}

pub and_false : (a : Bool) → (a && false) ≡ false
and_false true = refl
and_false false = refl

pub and_true : (a : Bool) → (a && true) ≡ a
and_true true = refl
and_true false = refl

pub or_false : (a : Bool) → (a || false) ≡ a
or_false true = refl
or_false false = refl

pub or_true : (a : Bool) → (a || true) ≡ true
or_true true = refl
or_true false = refl

pub not_true : (a : Bool) → not a ≡ true → a ≡ false
not_true true h = absurd (cc)
not_true false h = refl

pub or_assoc : (a b c : Bool) → ((a || b) || c) ≡ (a || (b || c))
or_assoc true b c = refl
or_assoc false b c = refl

-- a number holds where it isn't 0
pub zero_not : (z : ℤ) → is_zero z ≡ not (holds z)
zero_not (pos zero) = refl
zero_not (pos (suc n)) = refl
zero_not (negsuc n) = refl
