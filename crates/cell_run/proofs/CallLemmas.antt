-- How often a source was asked.
use Rattle.std.proofs.Common.{◌≡◌, ◌≤◌, ◌+◌, ◌*◌, ℕ, Bool, true, false, ◌&&◌, if◌then◌else◌, Option, Some, None, refl, sym, subst, arith}
use Rattle.trace_io.specs.Held.{CalledAtMost}
use Rattle.trace_io.specs.Trace.{Trail, most_calls}
use Rattle.cell_run.specs.Room.{calls_before}
use Rattle.cell_run.specs.Told.{calls_of_run}
use Rattle.trace_io.proofs.TraceLemmas.{calls_together}
use Rattle.trace_io.proofs.ReadLemmas.{more_calls}

-- not at all
pub not_called : (n : ℕ) (c : Option ℕ) → CalledAtMost n c c
not_called n None = refl
not_called n (Some a) = (a, refl, omega arith)

-- a step more
step_calls : (fresh keeps : Bool) (k : ℕ) → calls_before fresh k + (if fresh && keeps then 131076 else 65538) ≤ 65538 * (k + 2)
step_calls true true k = omega arith
step_calls true false k = omega arith
step_calls false keeps k = omega arith

pub asked_again : (k : ℕ) (start now : Trail) (a b d : Option ℕ) → CalledAtMost (calls_before start.is_fresh k) a b → CalledAtMost (most_calls start now) b d → now.is_fresh ≡ false → CalledAtMost (calls_before now.is_fresh (k + 1)) a d
asked_again k start now a b d h n f =
    subst (λ (t : Bool). CalledAtMost (calls_before t (k + 1)) a d) (sym f)
    (more_calls (calls_before start.is_fresh k + most_calls start now) (65538 * (k + 1 + 1)) a d (same (step_calls start.is_fresh now.course.may_keep k)) (calls_together (calls_before start.is_fresh k) (most_calls start now) a b d h n))
  where
    same : {n : ℕ} → n ≤ 65538 * (k + 2) → n ≤ 65538 * (k + 1 + 1)
    same h = omega (arith, h)

-- the last step that a run asks for
pub asked_at_last : (most k : ℕ) (start now : Trail) (a b d : Option ℕ) → k ≤ most → CalledAtMost (calls_before start.is_fresh k) a b → CalledAtMost (most_calls start now) b d → CalledAtMost (calls_of_run most) a d
asked_at_last most k start now a b d l h n =
    more_calls (calls_before start.is_fresh k + most_calls start now) (calls_of_run most) a d (within (step_calls start.is_fresh now.course.may_keep k)) (calls_together (calls_before start.is_fresh k) (most_calls start now) a b d h n)
  where
    within : {n : ℕ} → n ≤ 65538 * (k + 2) → n ≤ 65538 * (most + 2)
    within h = omega (arith, l, h)
