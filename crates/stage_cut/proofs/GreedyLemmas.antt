-- Parts that are each as long as a bound allows come at least as far as those of any division that keeps to it.
use Rattle.std.proofs.Common.{◌≡◌, ℕ, ◌+◌, ◌<◌, ◌≤◌, List, [], ◌∷◌, ◌++◌, length, get_or, arith, sym, ap, subst, refl, ◌∙◌, inl, inr, IsTrue, nat_eq, ◌↔◌}
use Rattle.std.proofs.lemmas.List.{length-append}
use Rattle.std.proofs.lemmas.Bool.{cases_lt, eqb-true, eq-eqb}
use Rattle.stage_cut.specs.Division.{weight_between, part_weights, greatest, heaviest_part, RisesTo, IsDivision, IsFeasible, IsLeastPossible}
use Rattle.stage_cut.specs.Greedy.{IsLongestPart, IsGreedy, IsGreedyRun}
use Rattle.stage_cut.proofs.WeightLemmas.{weight_between_more, weight_between_inside}
use Rattle.stage_cut.proofs.DivisionLemmas.{rises_up}

-- a part that stops where the next cell does not fit
pub longest_before : (weights : List ℕ) (bound from end left : ℕ) → from ≤ end → end < length weights
    → left + weight_between weights from end ≡ bound → left < get_or weights end 0 → IsLongestPart weights bound from end
longest_before weights bound from end left begins within so_far heavy = record {
  begins = begins;
  within = omega arith;
  fits = omega arith;
  longest = λ longer above below.
      let more = weight_between_more weights from end begins within in
      let inside = weight_between_inside weights from from (end + 1) longer (omega arith) (omega arith) (omega arith) in
      omega arith;
}

-- greedy parts keep to the bound
pub greedy_keeps : (weights : List ℕ) (bound from : ℕ) (ends : List ℕ) → IsGreedy weights bound from ends
    → greatest (part_weights weights from ends) ≤ bound
greedy_keeps weights bound from [] g = omega arith
greedy_keeps weights bound from (end ∷ ends) g =
    let rest = greedy_keeps weights bound end ends g.1 in
    let first = g.0.fits in
    omega arith

-- greedy parts that have come to a place
pub record Reaches (weights : List ℕ) (bound count : ℕ) (ends : List ℕ) (at : ℕ) : Type 0 where
  pub count_is : length ends ≡ count
  pub rising : RisesTo at 0 ends
  pub greedy : IsGreedy weights bound 0 ends
  pub within : at ≤ length weights

rises_push : (at end from : ℕ) (ends : List ℕ) → RisesTo at from ends → at ≤ end → RisesTo end from (ends ++ end ∷ [])
rises_push at end from [] r above = (omega arith, refl)
rises_push at end from (first ∷ ends) r above = (r.0, rises_push at end first ends r.1 above)

greedy_push : (weights : List ℕ) (bound at end from : ℕ) (ends : List ℕ) → RisesTo at from ends → IsGreedy weights bound from ends
    → IsLongestPart weights bound at end → IsGreedy weights bound from (ends ++ end ∷ [])
greedy_push weights bound at end from [] r g longest =
    let P : ℕ → Type 0 = λ place. IsLongestPart weights bound place end in
    (subst P (sym r) longest, tt)
greedy_push weights bound at end from (first ∷ ends) r g longest = (g.0, greedy_push weights bound at end first ends r.1 g.1 longest)

length_push : (ends : List ℕ) (end : ℕ) → length (ends ++ end ∷ []) ≡ length ends + 1
length_push ends end = length-append ends (end ∷ [])

-- one more part
pub reaches_more : (weights : List ℕ) (bound count : ℕ) (ends : List ℕ) (at end : ℕ) → Reaches weights bound count ends at
    → IsLongestPart weights bound at end → Reaches weights bound (count + 1) (ends ++ end ∷ []) end
reaches_more weights bound count ends at end so_far longest = record {
  count_is = length_push ends end ∙ ap (λ n. n + 1) so_far.count_is;
  rising = rises_push at end 0 ends so_far.rising longest.begins;
  greedy = greedy_push weights bound at end 0 ends so_far.rising so_far.greedy longest;
  within = longest.within;
}

-- where greedy parts end
last_end : (weights : List ℕ) (bound from : ℕ) (ends : List ℕ) → from ≤ length weights → IsGreedy weights bound from ends
    → (at : ℕ) × RisesTo at from ends × (at ≤ length weights)
last_end weights bound from [] within g = (from, refl, within)
last_end weights bound from (end ∷ ends) within g =
    let rest = last_end weights bound end ends g.0.within g.1 in
    (rest.0, (g.0.begins, rest.1), rest.2)

-- a run comes to some place
pub run_reaches : (weights : List ℕ) (bound count : ℕ) (ends : List ℕ) → IsGreedyRun weights bound count ends
    → (at : ℕ) × Reaches weights bound count ends at
run_reaches weights bound count ends run =
    let last = last_end weights bound 0 ends (omega arith) run.greedy in
    (last.0, record { count_is = run.count_is; rising = last.1; greedy = run.greedy; within = last.2 })

-- no division that keeps to the bound is ahead of the greedy parts, which began no earlier
outruns : (weights : List ℕ) (bound at from : ℕ) (ends : List ℕ) (other_from : ℕ) (others : List ℕ) → length ends ≡ length others
    → other_from ≤ from → RisesTo at from ends → IsGreedy weights bound from ends
    → RisesTo (length weights) other_from others → greatest (part_weights weights other_from others) ≤ bound → length weights ≤ at
outruns weights bound at from [] other_from [] same behind r g s keeps = omega (arith, r, s)
outruns weights bound at from [] other_from (other ∷ others) same behind r g s keeps = absurd (omega (arith, same))
outruns weights bound at from (end ∷ ends) other_from [] same behind r g s keeps = absurd (omega (arith, same))
outruns weights bound at from (end ∷ ends) other_from (other ∷ others) same behind r g s keeps =
    let within = rises_up (length weights) other others s.1 in
    let follows : other ≤ end =
    elim (cases_lt end other) [
      | inl ahead ↦
          let heavy = g.0.longest other ahead within in
          let inside = weight_between_inside weights other_from from other other behind (omega (arith, g.0.begins)) (omega arith) in
          absurd (omega arith)
      | inr not_ahead ↦ not_ahead
    ] in
    outruns weights bound at end ends other others (omega arith) follows r.1 g.1 s.1 (omega arith)

-- greedy parts that come to the end are a division that keeps to the bound
pub reaches_division : (weights : List ℕ) (bound stages : ℕ) (ends : List ℕ) (at : ℕ) → Reaches weights bound stages ends at
    → at ≡ length weights → IsDivision weights stages ends
reaches_division weights bound stages ends at run end =
    let P : ℕ → Type 0 = λ place. RisesTo place 0 ends in
    record { count = run.count_is; rising = subst P end run.rising }

-- so the bound is feasible
pub feasible_if_reached : (weights : List ℕ) (bound stages : ℕ) (ends : List ℕ) (at : ℕ) → Reaches weights bound stages ends at
    → at ≡ length weights → IsFeasible weights stages bound
feasible_if_reached weights bound stages ends at run end =
    (ends, reaches_division weights bound stages ends at run end, greedy_keeps weights bound 0 ends run.greedy)

-- and at a feasible bound they do come to the end
pub reached_if_feasible : (weights : List ℕ) (bound stages : ℕ) (ends : List ℕ) (at : ℕ) → Reaches weights bound stages ends at
    → IsFeasible weights stages bound → at ≡ length weights
reached_if_feasible weights bound stages ends at run (others, division, keeps) =
    let past = outruns weights bound at 0 ends 0 others (run.count_is ∙ sym division.count) (omega arith) run.rising run.greedy division.rising keeps in
    omega (arith, past, run.within)

-- the two together, as a test of the place reached tells
pub feasible_test : (weights : List ℕ) (bound stages count : ℕ) (ends : List ℕ) (at : ℕ) → count ≡ stages
    → Reaches weights bound count ends at → IsTrue (nat_eq at (length weights)) ↔ IsFeasible weights stages bound
feasible_test weights bound stages count ends at all so_far =
    let P : ℕ → Type 0 = λ n. Reaches weights bound n ends at in
    let run = subst P all so_far in (
      λ equal. feasible_if_reached weights bound stages ends at run (eqb-true at (length weights) equal),
      λ feasible. eq-eqb at (length weights) (reached_if_feasible weights bound stages ends at run feasible),
    )

-- the greedy parts at a feasible bound are a division
pub greedy_division : (weights : List ℕ) (bound stages : ℕ) (ends : List ℕ) → IsFeasible weights stages bound
    → IsGreedyRun weights bound stages ends → IsDivision weights stages ends
greedy_division weights bound stages ends feasible greedy =
    let run = run_reaches weights bound stages ends greedy in
    reaches_division weights bound stages ends run.0 run.1 (reached_if_feasible weights bound stages ends run.0 run.1 feasible)

-- at the least feasible bound their heaviest part weighs just that
pub greedy_heaviest : (weights : List ℕ) (bound stages : ℕ) (ends : List ℕ) → IsFeasible weights stages bound
    → IsLeastPossible weights stages bound → IsGreedyRun weights bound stages ends → heaviest_part weights ends ≡ bound
greedy_heaviest weights bound stages ends feasible least greedy =
    let above = least ends (greedy_division weights bound stages ends feasible greedy) in
    let below = greedy_keeps weights bound 0 ends greedy.greedy in
    omega arith
