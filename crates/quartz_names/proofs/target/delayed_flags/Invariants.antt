use Rattle.std.proofs.Common.{◌≡◌, ℕ, ◌<◌, ◌||◌, false, get_or, length, drop}
use Rattle.quartz_names.specs.Targets.{is_among}
use Rattle.quartz_names.proofs.target.delayed_flags.Given as goal

abbrev pub invariant-loop-target : goal.invariant-loop-target
invariant-loop-target l = record {
  length : length l.flags ≡ l.count;
  flags : (x : ℕ) → x < l.count → is_among l.target-items x ≡ (get_or l.flags x false || is_among (drop l.target-index l.target-items) x);
}
