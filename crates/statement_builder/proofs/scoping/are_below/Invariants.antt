use Rattle.std.proofs.Common.{drop}
use Rattle.absence_reaction.specs.Closing.{AreBelow}
use Rattle.statement_builder.proofs.scoping.are_below.Given as goal

abbrev pub invariant-loop-number : goal.invariant-loop-number
invariant-loop-number l = AreBelow l.bound (drop l.number-index l.numbers) → AreBelow l.bound l.numbers
