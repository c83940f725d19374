use Rattle.absence_reaction.proofs.CopyMeaning.{closing_goes_back, closing_keeps, closing_resolves, flags_are_bits}
use Rattle.absence_reaction.proofs.law.closing_is_resolving.Goals as goal

pub returns-clause-resolves : goal.returns-clause-resolves
returns-clause-resolves c = closing_resolves

pub returns-clause-bits : goal.returns-clause-bits
returns-clause-bits c = flags_are_bits

pub returns-clause-keeps : goal.returns-clause-keeps
returns-clause-keeps c = closing_keeps

pub returns-clause-back : goal.returns-clause-back
returns-clause-back c = closing_goes_back
