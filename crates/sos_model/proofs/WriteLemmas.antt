-- Arrays have few elements.
use Rattle.std.proofs.Common.{◌≡◌, ◌<◌, ◌≤◌, ◌^◌, ℕ, ℤ, pos, negsuc, true, unsigned_abs, arith}
use Rattle.std.proofs.lemmas.Bool.Decides.{nat_tests}
use Rattle.quartz_expr.specs.Vars.{Vars, count_of}
use Rattle.quartz_expr.specs.Faults.{is_index_below}
use Rattle.quartz_expr.specs.Typed.{AreSound}
use Rattle.quartz_expr.proofs.RangeLemmas.{count_small}

pub few_elements : (vs : Vars) (x : ℕ) → AreSound vs → count_of vs x ≤ 64
few_elements vs x h = count_small vs x h.types

pub small_index : (vs : Vars) (x : ℕ) (z : ℤ) → AreSound vs → is_index_below (count_of vs x) z ≡ true → unsigned_abs z < 2 ^ 32
small_index vs x (pos n) h b = let few : count_of vs x ≤ 64 = few_elements vs x h in grind (arith, nat_tests, b, few)
small_index vs x (negsuc n) h b = absurd (cc)
