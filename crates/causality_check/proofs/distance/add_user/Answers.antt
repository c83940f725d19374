use Rattle.std.proofs.Common.{ℕ, List, ◌≡◌, ◌<◌, ◌+◌, ◌++◌, [], ◌∷◌, length, take, get_or, set, subst, sym, ap, ◌∙◌, arith}
use Rattle.std.proofs.lemmas.List.{get_or_read, take_more}
use Rattle.causality_check.specs.Graph.{row}
use Rattle.causality_check.specs.Shortest.{HaveUser}
use Rattle.causality_check.proofs.ShortestLemmas.{one_user}
use Rattle.causality_check.proofs.distance.add_user.Goals as goal

-- one more user, by what was read and pushed
more : (users before : List (List ℕ)) (needed : List ℕ) (i k : ℕ) (read pushed : List ℕ) → i < length needed → get_or needed i 0 < length users → read ≡ get_or users (get_or needed i 0) read → pushed ≡ read ++ k ∷ []
    → HaveUser (take i needed) k before users → HaveUser (take (i + 1) needed) k before (set users (get_or needed i 0) pushed)
more users before needed i k read pushed lt h e f p =
    let d : ℕ = get_or needed i 0 in
    let r : pushed ≡ row users d ++ k ∷ [] = f ∙ ap (λ (xs : List ℕ). xs ++ k ∷ []) (get_or_read users d read h e []) in
    subst (λ (xs : List ℕ). HaveUser xs k before (set users d pushed)) (sym (take_more needed i 0 lt))
    (subst (λ (ys : List ℕ). HaveUser (take i needed ++ d ∷ []) k before (set users d ys)) (sym r) (one_user users (take i needed) d k before h p))

pub loop-used-preserved : goal.loop-used-preserved
loop-used-preserved c =
    let lt : c.loop-used.used-index < length c.args.needed.now = omega (arith, c.loop-used-test.true) in
    let h : get_or c.args.needed.now c.loop-used.used-index 0 < length c.args.users.now.items = c.requires c.loop-used.used-index 0 lt in
    more c.loop-used.users.items c.args.users.now.items c.args.needed.now c.loop-used.used-index c.args.cell c.index_mut.result.now c.push.new.self lt (omega (arith, h, c.loop-used.invariant.same_length)) c.index_mut.ensures.value c.in_ok-push.ensures.ok c.loop-used.invariant
