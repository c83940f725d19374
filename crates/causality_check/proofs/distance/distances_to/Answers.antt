use Rattle.std.proofs.Common.{rules, ℕ, inl, inr, List, Option, None, Some, Bool, false, IsTrue, ◌↔◌, ◌≡◌, ◌∙◌, ◌<◌, ◌+◌, [], ◌∷◌, length, replicate, set, get_or, subst, sym, ap, arith}
use Rattle.std.proofs.lemmas.List.{get_or_past, with_items_is}
use Rattle.std.proofs.lemmas.List.Elements.{Contains-get_or}
use Rattle.std.proofs.lemmas.Bool.{cases_lt}
use Rattle.causality_check.specs.Graph.{IsClosed}
use Rattle.causality_check.specs.Shortest.{AreLevels, AreMarked, AreUsers, distance_at, users_of}
use Rattle.causality_check.proofs.GraphLemmas.{row_within}
use Rattle.causality_check.proofs.ShortestLemmas.{all_known, first_level, next_level}
use Rattle.causality_check.proofs.distance.distances_to.Goals as goal

users_closed : (g users us : List (List ℕ)) → us ≡ users → AreUsers g users → IsClosed us
users_closed g users us e p = subst IsClosed (sym e) (λ d k n. let lt : k < length g = row_within g k d (p.from d k n) in omega (arith, lt, p.count))

front_within : (g : List (List ℕ)) (goal : ℕ) (ds : List (Option ℕ)) (front : List ℕ) (level : ℕ) (xs : List ℕ) → xs ≡ front → AreLevels g goal ds front level → (k d : ℕ) → k < length xs → get_or xs k d < length g
front_within g goal ds front level xs e p k d lt = subst (λ (ys : List ℕ). k < length ys → get_or ys k d < length g) (sym e) (λ h. within (get_or front k d) (p.listed (get_or front k d) (Contains-get_or front k d h))) lt
  where
    within : (c : ℕ) → distance_at ds c ≡ Some level → c < length g
    within c f = elim (cases_lt c (length ds)) [ inl lt ↦ omega (arith, lt, p.count) | inr ge ↦ absurd (none_is (sym (get_or_past ds c None ge) ∙ f)) ]
      where
        none_is : None ≡ Some level → ⊥
        none_is q = cc

not_empty : (b : Bool) (xs : List ℕ) → (IsTrue b ↔ (xs ≡ [])) → b ≡ false → 0 < length xs
not_empty b [] h e = absurd (search (rules, h, e))
not_empty b (x ∷ xs) h e = omega arith

-- one level more, by what the code has done
level_more : (g users us : List (List ℕ)) (goal : ℕ) (ds new : List (Option ℕ)) (front xs next : List ℕ) (level : ℕ) → us ≡ users → xs ≡ front → AreUsers g users → 0 < length front → AreLevels g goal ds front level → AreMarked (users_of us xs) (level + 1) ds new [] next → AreLevels g goal new next (level + 1)
level_more g users us goal ds new front xs next level e f p some q m =
    next_level g users goal ds new front next level p some q (subst (λ (ys : List ℕ). AreMarked (users_of users ys) (level + 1) ds new [] next) f (subst (λ (vs : List (List ℕ)). AreMarked (users_of vs xs) (level + 1) ds new [] next) e m))

pub loop-alloc-init : goal.loop-alloc-init
loop-alloc-init c =
    let e : c.in_ok-distances.distances.items ≡ replicate (length c.args.graph.now) None = search rules in
    subst (λ (xs : List ℕ). AreLevels c.args.graph.now c.args.goal (set c.in_ok-distances.distances.items c.args.goal (Some 0)) xs 0) (sym c.in_ok-front.ensures)
    (first_level c.args.graph.now c.args.goal (set c.in_ok-distances.distances.items c.args.goal (Some 0)) c.requires.goal (ap (λ (ds : List (Option ℕ)). set ds c.args.goal (Some 0)) e))

pub spread-requires-clause-closed : goal.spread-requires-clause-closed
spread-requires-clause-closed c = users_closed c.args.graph.now c.in_ok-users.users.items c.as_slice.result.now c.as_slice.ensures.value c.in_ok-users.ensures

pub spread-requires-clause-front : goal.spread-requires-clause-front
spread-requires-clause-front c = λ k d lt.
    let h : get_or c.as_slice-in-loop-alloc.result.now k d < length c.args.graph.now = front_within c.args.graph.now c.args.goal c.loop-alloc.distances.items c.loop-alloc.front c.loop-alloc.level c.as_slice-in-loop-alloc.result.now c.as_slice-in-loop-alloc.ensures c.loop-alloc.invariant k d lt in
    let l : length c.as_slice.result.now ≡ length c.in_ok-users.users.items = ap length c.as_slice.ensures.value in
    omega (arith, h, l, c.in_ok-users.ensures.count)

pub loop-alloc-preserved : goal.loop-alloc-preserved
loop-alloc-preserved c =
    let some : 0 < length c.loop-alloc.front = not_empty c.is_empty.result c.loop-alloc.front c.is_empty.ensures c.loop-alloc-test.true in
    subst (λ (ds : List (Option ℕ)). AreLevels c.args.graph.now c.args.goal ds c.in_ok-front-2.front (c.loop-alloc.level + 1)) (sym (with_items_is c.loop-alloc.distances c.spread.new.distances (search rules)))
    (level_more c.args.graph.now c.in_ok-users.users.items c.as_slice.result.now c.args.goal c.loop-alloc.distances.items c.spread.new.distances c.loop-alloc.front c.as_slice-in-loop-alloc.result.now c.in_ok-front-2.front c.loop-alloc.level
    c.as_slice.ensures.value c.as_slice-in-loop-alloc.ensures c.in_ok-users.ensures some c.loop-alloc.invariant (search rules))

pub returns : goal.returns
returns c = all_known c.args.graph.now c.args.goal c.loop-alloc.distances.items c.loop-alloc.front c.loop-alloc.level (search rules) c.loop-alloc.invariant
