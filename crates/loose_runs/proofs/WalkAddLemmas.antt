-- What the surface and the depth of a statement add.
use Rattle.std.proofs.Common.{◌≡◌, ℕ, zero, suc, ◌+◌, ◌<◌, true, false, List, length, pos, negsuc, arith}
use Rattle.quartz_tree.specs.Tree.{Tree as Expr}
use Rattle.quartz_expr.specs.Vars.{Vars}
use Rattle.quartz_expr.specs.Terms.{Term, nothing, pause, write, choose, seq, par, loop, abort, suspend, scope, Terms, none, part}
use Rattle.aif_cells.specs.declared.reference.Ref.{Ref}
use Rattle.aif_cells.specs.declared.reference.Ref.TheVariants as ref
use Rattle.statement_cells.specs.Labels.{labels, labels_all, registers, scope_registers}
use Rattle.statement_cells.specs.Expressions.{Copies}
use Rattle.statement_cells.specs.Builder.{Builder, Made, and_of, enter, entering, in_of, not_of, or_of, reserve, stay_at, zero_ref}
use Rattle.statement_cells.specs.Surface.{and_all, and_more, at_end, depth, if_labels, resume, resume_each, resume_in_turn, start, start_each, start_in_turn, surface, suspended, tested, unless_zero}
use Rattle.statement_cells.specs.Sound.{IsSound, AreSound}
use Rattle.loose_runs.proofs.AddLemmas.{Adds, follow, of_still, unchanged, written_adds}
use Rattle.loose_runs.proofs.ScopeAddLemmas.{entering_size, scope_resumed_adds, scope_started_adds}
use Rattle.loose_runs.proofs.StillLemmas.{and_all_still, and_more_still, and_still, end_still, enter_still, in_still, not_still, or_still, stay_still, suspended_still, tested_still}

module _ (vs : Vars) (O : ℕ → ℕ → Type 0) where
  follows : {κ : Copies} {a b c : Builder} → Adds vs O κ a b → Adds vs O κ b c → Adds vs O κ a c
  follows {κ = κ} g h = follow vs O κ g h

  module _ (κ : Copies) where
    not_adds : (a : Ref) (β : Builder) → Adds vs O κ β (not_of a β).built
    not_adds a β = of_still vs O κ (not_still a β)

    and_adds : (a b : Ref) (β : Builder) → Adds vs O κ β (and_of a b β).built
    and_adds a b β = of_still vs O κ (and_still a b β)

    or_adds : (a b : Ref) (β : Builder) → Adds vs O κ β (or_of a b β).built
    or_adds a b β = of_still vs O κ (or_still a b β)

    in_adds : (l n : ℕ) (β : Builder) → Adds vs O κ β (in_of l n β).built
    in_adds l n β = of_still vs O κ (in_still l n β)

    enter_adds : (l : ℕ) (r : Ref) (β : Builder) → Adds vs O κ β (enter l r β)
    enter_adds l r β = of_still vs O κ (enter_still l r β)

    stay_adds : (l : ℕ) (r : Ref) (β : Builder) → Adds vs O κ β (stay_at l r β)
    stay_adds l r β = of_still vs O κ (stay_still l r β)

    tested_adds : (c : Expr ℕ) (g : Ref) (β : Builder) → Adds vs O κ β (tested vs κ c g β).built
    tested_adds c g β = of_still vs O κ (tested_still vs κ c g β)

    and_more_adds : (rs : List Ref) (e : Ref) (β : Builder) → Adds vs O κ β (and_more e rs β).built
    and_more_adds rs e β = of_still vs O κ (and_more_still rs e β)

    and_all_adds : (rs : List Ref) (e : Ref) (β : Builder) → Adds vs O κ β (and_all e rs β).built
    and_all_adds rs e β = of_still vs O κ (and_all_still rs e β)

    at_end_adds : (ts : Terms) (l : ℕ) (rs : List Ref) (β : Builder) → Adds vs O κ β (at_end vs l ts rs β).built
    at_end_adds ts l rs β = of_still vs O κ (end_still vs ts l rs β)

    suspended_adds : (l n : ℕ) (c : Expr ℕ) (res move stay : Ref) (β : Builder) → Adds vs O κ β (suspended vs κ l n c res move stay β).built
    suspended_adds l n c res move stay β = of_still vs O κ (suspended_still vs κ l n c res move stay β)

    unless_zero_adds : (r : Ref) (β : Builder) (m : Made) → Adds vs O κ β m.built → Adds vs O κ β (unless_zero r β m).built
    unless_zero_adds (ref.Lit (pos zero)) β m g = unchanged vs O κ β
    unless_zero_adds (ref.Lit (pos (suc n))) β m g = g
    unless_zero_adds (ref.Lit (negsuc n)) β m g = g
    unless_zero_adds (ref.Input i) β m g = g
    unless_zero_adds (ref.Reg i) β m g = g
    unless_zero_adds (ref.Cell i) β m g = g

    if_labels_adds : (n : ℕ) (β : Builder) (m : Made) → (0 < n → Adds vs O κ β m.built) → Adds vs O κ β (if_labels n β m).built
    if_labels_adds zero β m g = unchanged vs O κ β
    if_labels_adds (suc n) β m g = g (omega arith)

  mutual
    unfolding start

    pub start_adds : (s : Term) (κ : Copies) → length κ ≡ length vs → (l v : ℕ) (go move : Ref) (β : Builder) → IsSound vs s → Adds vs O κ β (start vs κ l v s go move β).built
    start_adds nothing κ size l v go move β h = unchanged vs O κ β
    start_adds pause κ size l v go move β h = follows (and_adds κ go move β) (enter_adds κ l (and_of go move β).ref (and_of go move β).built)
    start_adds (write x i e d p q) κ size l v go move β h = written_adds vs O κ x i e d p q go β
    start_adds (choose c a b) κ size l v go move β h =
        let k = tested vs κ c go β in
        let g = and_of go k.ref k.built in
        let s = unless_zero g.ref g.built (start vs κ l v a g.ref move g.built) in
        let n = not_of k.ref s.built in
        let o = and_of go n.ref n.built in
        let t = unless_zero o.ref o.built (start vs κ (l + labels a) (v + registers vs a) b o.ref move o.built) in
        follows (tested_adds κ c go β) (follows (and_adds κ go k.ref k.built) (follows (unless_zero_adds κ g.ref g.built _ (start_adds a κ size l v g.ref move g.built h.1))
        (follows (not_adds κ k.ref s.built) (follows (and_adds κ go n.ref n.built) (follows (unless_zero_adds κ o.ref o.built _ (start_adds b κ size (l + labels a) (v + registers vs a) o.ref move o.built h.2))
        (or_adds κ s.ref t.ref t.built))))))
    start_adds (seq ts) κ size l v go move β h = start_in_turn_adds ts κ size l v go move β h
    start_adds (par ts) κ size l v go move β h =
        let s = start_each vs κ l v ts go move β in
        follows (start_each_adds ts κ size l v go move β h) (and_all_adds κ s.refs go s.built)
    start_adds (loop t c) κ size l v go move β h = unless_zero_adds κ go β _ (start_adds t κ size l v go move β h.2)
    start_adds (abort weak false t c) κ size l v go move β h = unless_zero_adds κ go β _ (start_adds t κ size l v go move β h.1)
    start_adds (abort false true t c) κ size l v go move β h =
        let k = tested vs κ c go β in
        let n = not_of k.ref k.built in
        let g = and_of go n.ref n.built in
        let s = unless_zero g.ref g.built (start vs κ l v t g.ref move g.built) in
        let o = and_of go k.ref s.built in
        follows (tested_adds κ c go β) (follows (not_adds κ k.ref k.built) (follows (and_adds κ go n.ref n.built) (follows (unless_zero_adds κ g.ref g.built _ (start_adds t κ size l v g.ref move g.built h.1))
        (follows (and_adds κ go k.ref s.built) (or_adds κ s.ref o.ref o.built)))))
    start_adds (abort true true t c) κ size l v go move β h =
        let k = tested vs κ c go β in
        let n = not_of k.ref k.built in
        let m = and_of move n.ref n.built in
        let s = unless_zero go m.built (start vs κ l v t go m.ref m.built) in
        let o = and_of go k.ref s.built in
        follows (tested_adds κ c go β) (follows (not_adds κ k.ref k.built) (follows (and_adds κ move n.ref n.built) (follows (unless_zero_adds κ go m.built _ (start_adds t κ size l v go m.ref m.built h.1))
        (follows (and_adds κ go k.ref s.built) (or_adds κ s.ref o.ref o.built)))))
    start_adds (suspend weak false t c) κ size l v go move β h = unless_zero_adds κ go β _ (start_adds t κ size l v go move β h.1)
    start_adds (suspend false true t c) κ size l v go move β h =
        let k = tested vs κ c go β in
        let b = and_of go k.ref k.built in
        let w = and_of b.ref move b.built in
        let e = enter l w.ref w.built in
        let n = not_of k.ref e in
        let g = and_of go n.ref n.built in
        follows (tested_adds κ c go β) (follows (and_adds κ go k.ref k.built) (follows (and_adds κ b.ref move b.built) (follows (enter_adds κ l w.ref w.built) (follows (not_adds κ k.ref e)
        (follows (and_adds κ go n.ref n.built) (unless_zero_adds κ g.ref g.built _ (start_adds t κ size (l + 1) v g.ref move g.built h.1)))))))
    start_adds (suspend true true t c) κ size l v go move β h =
        let k = tested vs κ c go β in
        let b = and_of go k.ref k.built in
        let w = and_of b.ref move b.built in
        let e = enter l w.ref w.built in
        let n = not_of k.ref e in
        let m = and_of move n.ref n.built in
        let s = unless_zero go m.built (start vs κ (l + 1) v t go m.ref m.built) in
        let o = not_of k.ref s.built in
        follows (tested_adds κ c go β) (follows (and_adds κ go k.ref k.built) (follows (and_adds κ b.ref move b.built) (follows (enter_adds κ l w.ref w.built) (follows (not_adds κ k.ref e)
        (follows (and_adds κ move n.ref n.built) (follows (unless_zero_adds κ go m.built _ (start_adds t κ size (l + 1) v go m.ref m.built h.1)) (follows (not_adds κ k.ref s.built) (and_adds κ s.ref o.ref o.built))))))))
    start_adds (scope x s t) κ size l v go move β h =
        let inner = reserve vs x false β in
        let κ' = entering vs x κ β in
        let n = scope_registers vs (labels t) x in
        let a = unless_zero go inner (start vs κ' l (v + n) t go move inner) in
        scope_started_adds vs O κ size x h.0 (labels t) v go move β a (unless_zero_adds κ' go inner _ (start_adds t κ' (entering_size vs O x κ β size) l (v + n) go move inner h.3))

    pub start_in_turn_adds : (ts : Terms) (κ : Copies) → length κ ≡ length vs → (l v : ℕ) (go move : Ref) (β : Builder) → AreSound vs ts → Adds vs O κ β (start_in_turn vs κ l v ts go move β).built
    start_in_turn_adds none κ size l v go move β h = unchanged vs O κ β
    start_in_turn_adds (part t ts) κ size l v go move β h =
        let s = unless_zero go β (start vs κ l v t go move β) in
        follows (unless_zero_adds κ go β _ (start_adds t κ size l v go move β h.0)) (start_in_turn_adds ts κ size (l + labels t) (v + registers vs t) s.ref move s.built h.1)

    pub start_each_adds : (ts : Terms) (κ : Copies) → length κ ≡ length vs → (l v : ℕ) (go move : Ref) (β : Builder) → AreSound vs ts → Adds vs O κ β (start_each vs κ l v ts go move β).built
    start_each_adds none κ size l v go move β h = unchanged vs O κ β
    start_each_adds (part t ts) κ size l v go move β h =
        let s = unless_zero go β (start vs κ l v t go move β) in
        follows (unless_zero_adds κ go β _ (start_adds t κ size l v go move β h.0)) (start_each_adds ts κ size (l + labels t) (v + registers vs t) go move s.built h.1)

  pub surface_adds : (s : Term) (κ : Copies) → length κ ≡ length vs → (l v : ℕ) (go move : Ref) (β : Builder) → IsSound vs s → Adds vs O κ β (surface vs κ l v s go move β).built
  surface_adds s κ size l v go move β h = unless_zero_adds κ go β _ (start_adds s κ size l v go move β h)

  mutual
    unfolding resume

    pub resume_adds : (s : Term) (κ : Copies) → length κ ≡ length vs → (l v : ℕ) (res move stay : Ref) (β : Builder) → IsSound vs s → 0 < labels s → Adds vs O κ β (resume vs κ l v s res move stay β).built
    resume_adds nothing κ size l v res move stay β h some = unchanged vs O κ β
    resume_adds pause κ size l v res move stay β h some = follows (stay_adds κ l stay β) (and_adds κ (ref.Reg l) res (stay_at l stay β))
    resume_adds (write x i e d p q) κ size l v res move stay β h some = unchanged vs O κ β
    resume_adds (choose c a b) κ size l v res move stay β h some =
        let s = if_labels (labels a) β (resume vs κ l v a res move stay β) in
        let t = if_labels (labels b) s.built (resume vs κ (l + labels a) (v + registers vs a) b res move stay s.built) in
        follows (if_labels_adds κ (labels a) β _ (λ some. resume_adds a κ size l v res move stay β h.1 some))
        (follows (if_labels_adds κ (labels b) s.built _ (λ some. resume_adds b κ size (l + labels a) (v + registers vs a) res move stay s.built h.2 some)) (or_adds κ s.ref t.ref t.built))
    resume_adds (seq ts) κ size l v res move stay β h some = resume_in_turn_adds ts κ size l v zero_ref res move stay β h
    resume_adds (par ts) κ size l v res move stay β h some =
        let s = resume_each vs κ l v ts res move stay β in
        let e = at_end vs l ts s.refs s.built in
        let i = in_of l (labels_all ts) e.built in
        let n = and_of i.ref res i.built in
        follows (resume_each_adds ts κ size l v res move stay β h) (follows (at_end_adds κ ts l s.refs s.built) (follows (in_adds κ l (labels_all ts) e.built)
        (follows (and_adds κ i.ref res i.built) (and_more_adds κ e.refs n.ref n.built))))
    resume_adds (loop t c) κ size l v res move stay β h some =
        let s = if_labels (labels t) β (resume vs κ l v t res move stay β) in
        let k = tested vs κ c s.ref s.built in
        let g = and_of s.ref k.ref k.built in
        let a = surface vs κ l v t g.ref move g.built in
        let n = not_of k.ref a.built in
        follows (if_labels_adds κ (labels t) β _ (λ some. resume_adds t κ size l v res move stay β h.2 some)) (follows (tested_adds κ c s.ref s.built) (follows (and_adds κ s.ref k.ref k.built)
        (follows (surface_adds t κ size l v g.ref move g.built h.2) (follows (not_adds κ k.ref a.built) (and_adds κ s.ref n.ref n.built)))))
    resume_adds (abort false immediate t c) κ size l v res move stay β h some =
        let i = in_of l (labels t) β in
        let n = and_of i.ref res i.built in
        let k = tested vs κ c n.ref n.built in
        let o = not_of k.ref k.built in
        let r = and_of res o.ref o.built in
        let s = if_labels (labels t) r.built (resume vs κ l v t r.ref move stay r.built) in
        let g = and_of n.ref k.ref s.built in
        follows (in_adds κ l (labels t) β) (follows (and_adds κ i.ref res i.built) (follows (tested_adds κ c n.ref n.built) (follows (not_adds κ k.ref k.built) (follows (and_adds κ res o.ref o.built)
        (follows (if_labels_adds κ (labels t) r.built _ (λ some. resume_adds t κ size l v r.ref move stay r.built h.1 some)) (follows (and_adds κ n.ref k.ref s.built) (or_adds κ s.ref g.ref g.built)))))))
    resume_adds (abort true immediate t c) κ size l v res move stay β h some =
        let i = in_of l (labels t) β in
        let n = and_of i.ref res i.built in
        let k = tested vs κ c n.ref n.built in
        let o = not_of k.ref k.built in
        let m = and_of move o.ref o.built in
        let s = if_labels (labels t) m.built (resume vs κ l v t res m.ref stay m.built) in
        let g = and_of n.ref k.ref s.built in
        follows (in_adds κ l (labels t) β) (follows (and_adds κ i.ref res i.built) (follows (tested_adds κ c n.ref n.built) (follows (not_adds κ k.ref k.built) (follows (and_adds κ move o.ref o.built)
        (follows (if_labels_adds κ (labels t) m.built _ (λ some. resume_adds t κ size l v res m.ref stay m.built h.1 some)) (follows (and_adds κ n.ref k.ref s.built) (or_adds κ s.ref g.ref g.built)))))))
    resume_adds (suspend false false t c) κ size l v res move stay β h some =
        let u = suspended vs κ l (labels t) c res move stay β in
        let o = not_of u.cond u.built in
        let q = and_of res o.ref o.built in
        follows (suspended_adds κ l (labels t) c res move stay β) (follows (not_adds κ u.cond u.built) (follows (and_adds κ res o.ref o.built)
        (if_labels_adds κ (labels t) q.built _ (λ some. resume_adds t κ size l v q.ref move u.stay q.built h.1 some))))
    resume_adds (suspend true false t c) κ size l v res move stay β h some =
        let u = suspended vs κ l (labels t) c res move stay β in
        let o = not_of u.cond u.built in
        let m = and_of move o.ref o.built in
        let s = if_labels (labels t) m.built (resume vs κ l v t res m.ref u.stay m.built) in
        let e = not_of u.cond s.built in
        follows (suspended_adds κ l (labels t) c res move stay β) (follows (not_adds κ u.cond u.built) (follows (and_adds κ move o.ref o.built)
        (follows (if_labels_adds κ (labels t) m.built _ (λ some. resume_adds t κ size l v res m.ref u.stay m.built h.1 some)) (follows (not_adds κ u.cond s.built) (and_adds κ s.ref e.ref e.built)))))
    resume_adds (suspend false true t c) κ size l v res move stay β h some =
        let u = suspended vs κ l (suc (labels t)) c res move stay β in
        let o = not_of u.cond u.built in
        let q = and_of res o.ref o.built in
        let w = stay_at l u.stay q.built in
        let g = and_of (ref.Reg l) q.ref w in
        let a = surface vs κ (l + 1) v t g.ref move g.built in
        let s = if_labels (labels t) a.built (resume vs κ (l + 1) v t q.ref move u.stay a.built) in
        follows (suspended_adds κ l (suc (labels t)) c res move stay β) (follows (not_adds κ u.cond u.built) (follows (and_adds κ res o.ref o.built) (follows (stay_adds κ l u.stay q.built)
        (follows (and_adds κ (ref.Reg l) q.ref w) (follows (surface_adds t κ size (l + 1) v g.ref move g.built h.1)
        (follows (if_labels_adds κ (labels t) a.built _ (λ some. resume_adds t κ size (l + 1) v q.ref move u.stay a.built h.1 some)) (or_adds κ a.ref s.ref s.built)))))))
    resume_adds (suspend true true t c) κ size l v res move stay β h some =
        let u = suspended vs κ l (suc (labels t)) c res move stay β in
        let o = not_of u.cond u.built in
        let m = and_of move o.ref o.built in
        let w = stay_at l u.stay m.built in
        let g = and_of (ref.Reg l) res w in
        let a = surface vs κ (l + 1) v t g.ref m.ref g.built in
        let s = if_labels (labels t) a.built (resume vs κ (l + 1) v t res m.ref u.stay a.built) in
        let b = or_of a.ref s.ref s.built in
        let e = not_of u.cond b.built in
        follows (suspended_adds κ l (suc (labels t)) c res move stay β) (follows (not_adds κ u.cond u.built) (follows (and_adds κ move o.ref o.built) (follows (stay_adds κ l u.stay m.built)
        (follows (and_adds κ (ref.Reg l) res w) (follows (surface_adds t κ size (l + 1) v g.ref m.ref g.built h.1)
        (follows (if_labels_adds κ (labels t) a.built _ (λ some. resume_adds t κ size (l + 1) v res m.ref u.stay a.built h.1 some)) (follows (or_adds κ a.ref s.ref s.built) (follows (not_adds κ u.cond b.built) (and_adds κ b.ref e.ref e.built)))))))))
    resume_adds (scope x s t) κ size l v res move stay β h some =
        let inner = reserve vs x true β in
        let κ' = entering vs x κ β in
        let n = scope_registers vs (labels t) x in
        let a = if_labels (labels t) inner (resume vs κ' l (v + n) t res move stay inner) in
        scope_resumed_adds vs O κ size x h.0 l (labels t) v some res β a (if_labels_adds κ' (labels t) inner _ (λ some. resume_adds t κ' (entering_size vs O x κ β size) l (v + n) res move stay inner h.3 some))

    pub resume_in_turn_adds : (ts : Terms) (κ : Copies) → length κ ≡ length vs → (l v : ℕ) (before res move stay : Ref) (β : Builder) → AreSound vs ts → Adds vs O κ β (resume_in_turn vs κ l v ts before res move stay β).built
    resume_in_turn_adds none κ size l v before res move stay β h = unchanged vs O κ β
    resume_in_turn_adds (part t ts) κ size l v before res move stay β h =
        let a = surface vs κ l v t before move β in
        let s = if_labels (labels t) a.built (resume vs κ l v t res move stay a.built) in
        let o = or_of a.ref s.ref s.built in
        follows (surface_adds t κ size l v before move β h.0) (follows (if_labels_adds κ (labels t) a.built _ (λ some. resume_adds t κ size l v res move stay a.built h.0 some))
        (follows (or_adds κ a.ref s.ref s.built) (resume_in_turn_adds ts κ size (l + labels t) (v + registers vs t) o.ref res move stay o.built h.1)))

    pub resume_each_adds : (ts : Terms) (κ : Copies) → length κ ≡ length vs → (l v : ℕ) (res move stay : Ref) (β : Builder) → AreSound vs ts → Adds vs O κ β (resume_each vs κ l v ts res move stay β).built
    resume_each_adds none κ size l v res move stay β h = unchanged vs O κ β
    resume_each_adds (part t ts) κ size l v res move stay β h =
        let s = if_labels (labels t) β (resume vs κ l v t res move stay β) in
        follows (if_labels_adds κ (labels t) β _ (λ some. resume_adds t κ size l v res move stay β h.0 some)) (resume_each_adds ts κ size (l + labels t) (v + registers vs t) res move stay s.built h.1)

  pub depth_adds : (s : Term) (κ : Copies) → length κ ≡ length vs → (l v : ℕ) (res move stay : Ref) (β : Builder) → IsSound vs s → Adds vs O κ β (depth vs κ l v s res move stay β).built
  depth_adds s κ size l v res move stay β h = if_labels_adds κ (labels s) β _ (λ some. resume_adds s κ size l v res move stay β h some)
