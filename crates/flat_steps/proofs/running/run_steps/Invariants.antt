use Rattle.std.proofs.Common.{◌≡◌, drop}
use Rattle.flat_steps.specs.Steps.{after}
use Rattle.flat_steps.proofs.running.run_steps.Given as goal

abbrev pub invariant-loop-step : goal.invariant-loop-step
invariant-loop-step l = after (drop l.step-index l.steps) l.slots ≡ after l.steps l.fn.slots
