use Rattle.stage_cut.proofs.EvidenceLemmas.{starts_are_evidence}
use Rattle.stage_cut.proofs.evidence.places.Goals as goal

pub returns-clause-evidence : goal.returns-clause-evidence
returns-clause-evidence c =
    rw c.in_ok-insert.ensures.items
    (starts_are_evidence _ _ _ _ c.requires.feasible c.requires.least
    (λ plain. let plainly = c.is_plain.ensures.1 plain in cc plainly) c.in_ok-starts.ensures)
