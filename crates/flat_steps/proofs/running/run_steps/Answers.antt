-- A step of the list is within the slots, whose number stays.
use Rattle.std.proofs.Common.{ℕ, subst, sym}
use Rattle.flat_steps.specs.Steps.{AreWithin}
use Rattle.flat_steps.proofs.StepLemmas.{within_at}
use Rattle.flat_steps.proofs.running.run_steps.Goals as goal

pub value_of-requires : goal.value_of-requires
value_of-requires c =
    (within_at _ c.args.steps.now c.loop-step.step-index _ (subst (λ (n : ℕ). AreWithin n c.args.steps.now) (sym c.loop-step.auto.slots) c.requires) c.loop-step-test.true).1

pub bounds-slots-step : goal.bounds-slots-step
bounds-slots-step c =
    (within_at _ c.args.steps.now c.loop-step.step-index _ (subst (λ (n : ℕ). AreWithin n c.args.steps.now) (sym c.loop-step.auto.slots) c.requires) c.loop-step-test.true).0
