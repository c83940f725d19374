-- What the list of places shows.
use Rattle.std.proofs.Common.{◌≡◌, ℕ, ◌+◌, ◌-◌, ◌<◌, ◌≤◌, ◌⊎◌, inl, inr, List, [], ◌∷◌, length, get_or, Contains, arith, rules, sym, ◌∙◌}
use Rattle.std.proofs.lemmas.List.Elements.{All-head, All-contains}
use Rattle.std.proofs.lemmas.Bool.{cases_lt}
use Rattle.stage_cut.specs.Division.{weight_between, part_weights, greatest, heaviest_part, RisesTo, IsFeasible, IsLeastPossible, NoneIsLighter}
use Rattle.stage_cut.specs.Greedy.{IsGreedy, IsGreedyRun}
use Rattle.stage_cut.specs.Evidence.{AreHeavyApart, IsEvidence, EvidenceSuffices}
use Rattle.stage_cut.proofs.WeightLemmas.{weight_between_one, weight_between_inside}
use Rattle.stage_cut.proofs.DivisionLemmas.{rises_up, cell_in_part, cells_in_parts, greatest_below}
use Rattle.stage_cut.proofs.GreedyLemmas.{greedy_division, greedy_heaviest, run_reaches, reaches_division, greedy_keeps}

-- one more place than parts, so two of them are in one part
pub two_in_a_part : (weights : List ℕ) (weight from place : ℕ) (places ends : List ℕ) → length places ≡ length ends
    → from ≤ place → AreHeavyApart weights weight place places → RisesTo (length weights) from ends
    → weight ≤ greatest (part_weights weights from ends)
two_in_a_part weights weight from place [] [] same behind heavy r = absurd (omega (arith, heavy, r))
two_in_a_part weights weight from place [] (end ∷ ends) same behind heavy r = absurd (omega (arith, same))
two_in_a_part weights weight from place (next ∷ places) [] same behind heavy r = absurd (omega (arith, same))
two_in_a_part weights weight from place (next ∷ places) (end ∷ ends) same behind heavy r =
    elim (cases_lt next end) [
      | inl inside ↦
          let wider = weight_between_inside weights from place (next + 1) end behind (omega (arith, heavy.0)) (omega arith) in
          omega (arith, heavy.1, wider)
      | inr past ↦
          let rest = two_in_a_part weights weight end next places ends (omega (arith, same)) past heavy.2 r.1 in
          omega arith
    ]

-- evidence for a weight shows that the heaviest part of each division weighs as much
pub evidence_least : (weights : List ℕ) (stages weight : ℕ) (places : List ℕ) → IsEvidence weights stages weight places
    → IsLeastPossible weights stages weight
evidence_least weights stages weight [] (inl none) ends division = omega arith
evidence_least weights stages weight [] (inr contained) ends division =
    All-contains (λ cell. cell ≤ heaviest_part weights ends) weights weight (cells_in_parts weights stages ends division) contained
evidence_least weights stages weight (place ∷ places) (count, heavy) ends division =
    two_in_a_part weights weight 0 place places ends (count ∙ sym division.count) (omega arith) heavy division.rising

-- so no division is lighter
least_excludes : (weights : List ℕ) (stages weight : ℕ) → 1 ≤ stages → IsLeastPossible weights stages weight
    → NoneIsLighter weights stages weight
least_excludes weights stages weight some least [] division all = absurd (omega (arith, division.count))
least_excludes weights stages weight some least (end ∷ ends) division all =
    let first : weight_between weights 0 end < weight = All-head (λ part. part < weight) _ (part_weights weights end ends) all in
    let below = greatest_below weight (part_weights weights 0 (end ∷ ends)) (omega arith) all in
    let above = least (end ∷ ends) division in
    absurd (omega arith)

pub evidence_suffices : (weights : List ℕ) (stages : ℕ) → 1 ≤ stages → EvidenceSuffices weights stages
evidence_suffices weights stages some weight places evidence =
    least_excludes weights stages weight some (evidence_least weights stages weight places evidence)

-- greedy parts with a bound one less, which stop before the end, where each cell alone is within the bound
heavy_apart : (weights : List ℕ) (weight at from : ℕ) (ends : List ℕ) → 1 ≤ weight
    → ((cell : ℕ) → cell < length weights → get_or weights cell 0 < weight)
    → RisesTo at from ends → at < length weights → IsGreedy weights (weight - 1) from ends → AreHeavyApart weights weight from ends
heavy_apart weights weight at from [] some light r stops g = omega (arith, r)
heavy_apart weights weight at from (end ∷ ends) some light r stops g =
    let behind = rises_up at end ends r.1 in
    let next = g.0.longest (end + 1) (omega arith) (omega arith) in
    let longer : from < end =
    elim (cases_lt from end) [
      | inl longer ↦ longer
      | inr empty ↦
          let too_long = g.0.longest (from + 1) (omega arith) (omega (arith, g.0.begins)) in
          let one = weight_between_one weights from (omega (arith, r.0)) in
          let cell = light from (omega (arith, r.0)) in
          absurd (omega arith)
    ] in
    (longer, omega arith, heavy_apart weights weight at end ends some light r.1 stops g.1)

-- the places at which greedy parts begin with a bound one less than the least are evidence for it
pub starts_are_evidence : (weights : List ℕ) (stages weight : ℕ) (ends : List ℕ) → IsFeasible weights stages weight
    → IsLeastPossible weights stages weight → ¬ ((weight ≡ 0) ⊎ Contains weights weight)
    → IsGreedyRun weights (weight - 1) stages ends → IsEvidence weights stages weight (0 ∷ ends)
starts_are_evidence weights stages weight ends (others, division, keeps) least hard greedy =
    let some : 1 ≤ weight = elim (cases_lt 0 weight) [ inl some ↦ some | inr none ↦ absurd (hard (inl (omega arith))) ] in
    let light : (cell : ℕ) → cell < length weights → get_or weights cell 0 < weight =
    λ cell within.
    let part = cell_in_part weights 0 others cell division.rising (omega arith) within in
    elim (cases_lt (get_or weights cell 0) weight) [
      | inl light ↦ light
      | inr heavy ↦ absurd (hard (inr (cell, within, search rules)))
    ] in
    let run = run_reaches weights (weight - 1) stages ends greedy in
    let stops : run.0 < length weights =
    elim (cases_lt run.0 (length weights)) [
      | inl stops ↦ stops
      | inr through ↦
          let above = least ends (reaches_division weights (weight - 1) stages ends run.0 run.1 (omega (arith, run.1.within))) in
          let below = greedy_keeps weights (weight - 1) 0 ends greedy.greedy in
          absurd (omega arith)
    ] in
    (greedy.count_is, heavy_apart weights weight run.0 0 ends some light run.1.rising stops greedy.greedy)

-- what the clauses of `cut` follow from
pub ruleset cut_lemmas = (evidence_suffices, greedy_division, greedy_heaviest)
