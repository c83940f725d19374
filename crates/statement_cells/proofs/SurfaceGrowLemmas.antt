-- How builders grow by the surface and the depth of a statement.
use Rattle.std.proofs.Common.{ℕ, zero, suc, ◌+◌, true, false, List, [], ◌∷◌, pos, negsuc}
use Rattle.quartz_tree.specs.Tree.{Tree as Expr}
use Rattle.quartz_expr.specs.Vars.{Vars}
use Rattle.quartz_expr.specs.Terms.{Term, nothing, pause, write, choose, seq, par, loop, abort, suspend, scope, Terms, none, part}
use Rattle.aif_cells.specs.declared.reference.Ref.{Ref}
use Rattle.aif_cells.specs.declared.reference.Ref.TheVariants as ref
use Rattle.aif_cells.specs.Worth.{Assignment}
use Rattle.statement_cells.specs.Labels.{labels, labels_all, registers}
use Rattle.statement_cells.specs.Expressions.{Copies}
use Rattle.statement_cells.specs.Builder.{Builder, Made, zero_ref, not_of, and_of, or_of, in_of, enter, stay_at}
use Rattle.statement_cells.specs.Surface.{unless_zero, if_labels, tested, MadeAll, and_more, and_all, start, start_in_turn, start_each, surface, at_end, all_if_labels, suspended, resume, resume_in_turn, resume_each, depth}
use Rattle.statement_cells.specs.Sound.{IsSound, AreSound}
use Rattle.statement_cells.proofs.GrowLemmas.{Grows, stays, then_grows, not_grows, and_grows, or_grows, in_grows, enter_grows, stay_grows}
use Rattle.statement_cells.proofs.WatchLemmas.{tested_grows}
use Rattle.statement_cells.proofs.WriteLemmas.{written_grows}
use Rattle.statement_cells.proofs.ScopeWalkLemmas.{start_scope_grows, resume_scope_grows}

module _ (vs : Vars) (σ : Assignment) where
  follows : {a b c : Builder} → Grows vs a b → Grows vs b c → Grows vs a c
  follows {a = a} {b = b} {c = c} g h = then_grows vs a b c g h

  pub unless_zero_grows : (r : Ref) (β : Builder) (m : Made) → Grows vs β m.built → Grows vs β (unless_zero r β m).built
  unless_zero_grows (ref.Lit (pos zero)) β m g = stays vs β
  unless_zero_grows (ref.Lit (pos (suc n))) β m g = g
  unless_zero_grows (ref.Lit (negsuc n)) β m g = g
  unless_zero_grows (ref.Input i) β m g = g
  unless_zero_grows (ref.Reg i) β m g = g
  unless_zero_grows (ref.Cell i) β m g = g

  pub if_labels_grows : (n : ℕ) (β : Builder) (m : Made) → Grows vs β m.built → Grows vs β (if_labels n β m).built
  if_labels_grows zero β m g = stays vs β
  if_labels_grows (suc n) β m g = g

  pub and_more_grows : (rs : List Ref) (e : Ref) (β : Builder) → Grows vs β (and_more e rs β).built
  unfolding and_more
  and_more_grows [] e β = stays vs β
  and_more_grows (r ∷ rs) e β = follows (and_grows vs e r β) (and_more_grows rs (and_of e r β).ref (and_of e r β).built)

  pub and_all_grows : (rs : List Ref) (e : Ref) (β : Builder) → Grows vs β (and_all e rs β).built
  unfolding and_all
  and_all_grows [] e β = stays vs β
  and_all_grows (r ∷ rs) e β = and_more_grows rs r β

  mutual
    unfolding start

    pub start_grows : (s : Term) (κ : Copies) (l v : ℕ) (go move : Ref) (β : Builder) → IsSound vs s → Grows vs β (start vs κ l v s go move β).built
    start_grows nothing κ l v go move β h = stays vs β
    start_grows pause κ l v go move β h = follows (and_grows vs go move β) (enter_grows vs l (and_of go move β).ref (and_of go move β).built)
    start_grows (write x i e d p q) κ l v go move β h = written_grows vs κ x i e d p q go β h
    start_grows (choose c a b) κ l v go move β h =
        let k = tested vs κ c go β in
        let g = and_of go k.ref k.built in
        let s = unless_zero g.ref g.built (start vs κ l v a g.ref move g.built) in
        let n = not_of k.ref s.built in
        let o = and_of go n.ref n.built in
        let t = unless_zero o.ref o.built (start vs κ (l + labels a) (v + registers vs a) b o.ref move o.built) in
        follows (tested_grows vs σ κ c go β) (follows (and_grows vs go k.ref k.built) (follows (unless_zero_grows g.ref g.built _ (start_grows a κ l v g.ref move g.built h.1))
        (follows (not_grows vs k.ref s.built) (follows (and_grows vs go n.ref n.built) (follows (unless_zero_grows o.ref o.built _ (start_grows b κ (l + labels a) (v + registers vs a) o.ref move o.built h.2))
        (or_grows vs s.ref t.ref t.built))))))
    start_grows (seq ts) κ l v go move β h = start_in_turn_grows ts κ l v go move β h
    start_grows (par ts) κ l v go move β h =
        let s = start_each vs κ l v ts go move β in
        follows (start_each_grows ts κ l v go move β h) (and_all_grows s.refs go s.built)
    start_grows (loop t c) κ l v go move β h = unless_zero_grows go β _ (start_grows t κ l v go move β h.2)
    start_grows (abort weak false t c) κ l v go move β h = unless_zero_grows go β _ (start_grows t κ l v go move β h.1)
    start_grows (abort false true t c) κ l v go move β h =
        let k = tested vs κ c go β in
        let n = not_of k.ref k.built in
        let g = and_of go n.ref n.built in
        let s = unless_zero g.ref g.built (start vs κ l v t g.ref move g.built) in
        let o = and_of go k.ref s.built in
        follows (tested_grows vs σ κ c go β) (follows (not_grows vs k.ref k.built) (follows (and_grows vs go n.ref n.built) (follows (unless_zero_grows g.ref g.built _ (start_grows t κ l v g.ref move g.built h.1))
        (follows (and_grows vs go k.ref s.built) (or_grows vs s.ref o.ref o.built)))))
    start_grows (abort true true t c) κ l v go move β h =
        let k = tested vs κ c go β in
        let n = not_of k.ref k.built in
        let m = and_of move n.ref n.built in
        let s = unless_zero go m.built (start vs κ l v t go m.ref m.built) in
        let o = and_of go k.ref s.built in
        follows (tested_grows vs σ κ c go β) (follows (not_grows vs k.ref k.built) (follows (and_grows vs move n.ref n.built) (follows (unless_zero_grows go m.built _ (start_grows t κ l v go m.ref m.built h.1))
        (follows (and_grows vs go k.ref s.built) (or_grows vs s.ref o.ref o.built)))))
    start_grows (suspend weak false t c) κ l v go move β h = unless_zero_grows go β _ (start_grows t κ l v go move β h.1)
    start_grows (suspend false true t c) κ l v go move β h =
        let k = tested vs κ c go β in
        let b = and_of go k.ref k.built in
        let w = and_of b.ref move b.built in
        let e = enter l w.ref w.built in
        let n = not_of k.ref e in
        let g = and_of go n.ref n.built in
        follows (tested_grows vs σ κ c go β) (follows (and_grows vs go k.ref k.built) (follows (and_grows vs b.ref move b.built) (follows (enter_grows vs l w.ref w.built) (follows (not_grows vs k.ref e)
        (follows (and_grows vs go n.ref n.built) (unless_zero_grows g.ref g.built _ (start_grows t κ (l + 1) v g.ref move g.built h.1)))))))
    start_grows (suspend true true t c) κ l v go move β h =
        let k = tested vs κ c go β in
        let b = and_of go k.ref k.built in
        let w = and_of b.ref move b.built in
        let e = enter l w.ref w.built in
        let n = not_of k.ref e in
        let m = and_of move n.ref n.built in
        let s = unless_zero go m.built (start vs κ (l + 1) v t go m.ref m.built) in
        let o = not_of k.ref s.built in
        follows (tested_grows vs σ κ c go β) (follows (and_grows vs go k.ref k.built) (follows (and_grows vs b.ref move b.built) (follows (enter_grows vs l w.ref w.built) (follows (not_grows vs k.ref e)
        (follows (and_grows vs move n.ref n.built) (follows (unless_zero_grows go m.built _ (start_grows t κ (l + 1) v go m.ref m.built h.1)) (follows (not_grows vs k.ref s.built) (and_grows vs s.ref o.ref o.built))))))))
    start_grows (scope x s t) κ l v go move β h =
        start_scope_grows vs x s t (λ κ l v go move β. unless_zero_grows go β _ (start_grows t κ l v go move β h.3)) κ l v go move β

    pub start_in_turn_grows : (ts : Terms) (κ : Copies) (l v : ℕ) (go move : Ref) (β : Builder) → AreSound vs ts → Grows vs β (start_in_turn vs κ l v ts go move β).built
    start_in_turn_grows none κ l v go move β h = stays vs β
    start_in_turn_grows (part t ts) κ l v go move β h =
        let s = unless_zero go β (start vs κ l v t go move β) in
        follows (unless_zero_grows go β _ (start_grows t κ l v go move β h.0)) (start_in_turn_grows ts κ (l + labels t) (v + registers vs t) s.ref move s.built h.1)

    pub start_each_grows : (ts : Terms) (κ : Copies) (l v : ℕ) (go move : Ref) (β : Builder) → AreSound vs ts → Grows vs β (start_each vs κ l v ts go move β).built
    start_each_grows none κ l v go move β h = stays vs β
    start_each_grows (part t ts) κ l v go move β h =
        let s = unless_zero go β (start vs κ l v t go move β) in
        follows (unless_zero_grows go β _ (start_grows t κ l v go move β h.0)) (start_each_grows ts κ (l + labels t) (v + registers vs t) go move s.built h.1)

  pub surface_grows : (s : Term) (κ : Copies) (l v : ℕ) (go move : Ref) (β : Builder) → IsSound vs s → Grows vs β (surface vs κ l v s go move β).built
  surface_grows s κ l v go move β h = unless_zero_grows go β _ (start_grows s κ l v go move β h)

  all_if_labels_grows : (n : ℕ) (β : Builder) (a b : MadeAll) → Grows vs β a.built → Grows vs β b.built → Grows vs β (all_if_labels vs n a b).built
  all_if_labels_grows zero β a b g h = g
  all_if_labels_grows (suc n) β a b g h = h

  pub at_end_grows : (ts : Terms) (l : ℕ) (rs : List Ref) (β : Builder) → Grows vs β (at_end vs l ts rs β).built
  unfolding at_end
  at_end_grows none l rs β = stays vs β
  at_end_grows (part t ts) l [] β = stays vs β
  at_end_grows (part t ts) l (r ∷ rs) β =
      let i = in_of l (labels t) β in
      let o = not_of i.ref i.built in
      let e = or_of r o.ref o.built in
      all_if_labels_grows (labels t) β _ _ (at_end_grows ts (l + labels t) rs β)
      (follows (in_grows vs l (labels t) β) (follows (not_grows vs i.ref i.built) (follows (or_grows vs r o.ref o.built) (at_end_grows ts (l + labels t) rs e.built))))

  pub suspended_grows : (κ : Copies) (l n : ℕ) (c : Expr ℕ) (res move stay : Ref) (β : Builder) → Grows vs β (suspended vs κ l n c res move stay β).built
  unfolding suspended
  suspended_grows κ l n c res move stay β =
      let i = in_of l n β in
      let a = and_of i.ref res i.built in
      let k = tested vs κ c a.ref a.built in
      let x = and_of move a.ref k.built in
      let y = and_of x.ref k.ref x.built in
      follows (in_grows vs l n β) (follows (and_grows vs i.ref res i.built) (follows (tested_grows vs σ κ c a.ref a.built) (follows (and_grows vs move a.ref k.built)
      (follows (and_grows vs x.ref k.ref x.built) (or_grows vs stay y.ref y.built)))))

  mutual
    unfolding resume

    pub resume_grows : (s : Term) (κ : Copies) (l v : ℕ) (res move stay : Ref) (β : Builder) → IsSound vs s → Grows vs β (resume vs κ l v s res move stay β).built
    resume_grows nothing κ l v res move stay β h = stays vs β
    resume_grows pause κ l v res move stay β h = follows (stay_grows vs l stay β) (and_grows vs (ref.Reg l) res (stay_at l stay β))
    resume_grows (write x i e d p q) κ l v res move stay β h = stays vs β
    resume_grows (choose c a b) κ l v res move stay β h =
        let s = if_labels (labels a) β (resume vs κ l v a res move stay β) in
        let t = if_labels (labels b) s.built (resume vs κ (l + labels a) (v + registers vs a) b res move stay s.built) in
        follows (if_labels_grows (labels a) β _ (resume_grows a κ l v res move stay β h.1))
        (follows (if_labels_grows (labels b) s.built _ (resume_grows b κ (l + labels a) (v + registers vs a) res move stay s.built h.2)) (or_grows vs s.ref t.ref t.built))
    resume_grows (seq ts) κ l v res move stay β h = resume_in_turn_grows ts κ l v zero_ref res move stay β h
    resume_grows (par ts) κ l v res move stay β h =
        let s = resume_each vs κ l v ts res move stay β in
        let e = at_end vs l ts s.refs s.built in
        let i = in_of l (labels_all ts) e.built in
        let n = and_of i.ref res i.built in
        follows (resume_each_grows ts κ l v res move stay β h) (follows (at_end_grows ts l s.refs s.built) (follows (in_grows vs l (labels_all ts) e.built)
        (follows (and_grows vs i.ref res i.built) (and_more_grows e.refs n.ref n.built))))
    resume_grows (loop t c) κ l v res move stay β h =
        let s = if_labels (labels t) β (resume vs κ l v t res move stay β) in
        let k = tested vs κ c s.ref s.built in
        let g = and_of s.ref k.ref k.built in
        let a = surface vs κ l v t g.ref move g.built in
        let n = not_of k.ref a.built in
        follows (if_labels_grows (labels t) β _ (resume_grows t κ l v res move stay β h.2)) (follows (tested_grows vs σ κ c s.ref s.built) (follows (and_grows vs s.ref k.ref k.built)
        (follows (surface_grows t κ l v g.ref move g.built h.2) (follows (not_grows vs k.ref a.built) (and_grows vs s.ref n.ref n.built)))))
    resume_grows (abort false immediate t c) κ l v res move stay β h =
        let i = in_of l (labels t) β in
        let n = and_of i.ref res i.built in
        let k = tested vs κ c n.ref n.built in
        let o = not_of k.ref k.built in
        let r = and_of res o.ref o.built in
        let s = if_labels (labels t) r.built (resume vs κ l v t r.ref move stay r.built) in
        let g = and_of n.ref k.ref s.built in
        follows (in_grows vs l (labels t) β) (follows (and_grows vs i.ref res i.built) (follows (tested_grows vs σ κ c n.ref n.built) (follows (not_grows vs k.ref k.built) (follows (and_grows vs res o.ref o.built)
        (follows (if_labels_grows (labels t) r.built _ (resume_grows t κ l v r.ref move stay r.built h.1)) (follows (and_grows vs n.ref k.ref s.built) (or_grows vs s.ref g.ref g.built)))))))
    resume_grows (abort true immediate t c) κ l v res move stay β h =
        let i = in_of l (labels t) β in
        let n = and_of i.ref res i.built in
        let k = tested vs κ c n.ref n.built in
        let o = not_of k.ref k.built in
        let m = and_of move o.ref o.built in
        let s = if_labels (labels t) m.built (resume vs κ l v t res m.ref stay m.built) in
        let g = and_of n.ref k.ref s.built in
        follows (in_grows vs l (labels t) β) (follows (and_grows vs i.ref res i.built) (follows (tested_grows vs σ κ c n.ref n.built) (follows (not_grows vs k.ref k.built) (follows (and_grows vs move o.ref o.built)
        (follows (if_labels_grows (labels t) m.built _ (resume_grows t κ l v res m.ref stay m.built h.1)) (follows (and_grows vs n.ref k.ref s.built) (or_grows vs s.ref g.ref g.built)))))))
    resume_grows (suspend false false t c) κ l v res move stay β h =
        let u = suspended vs κ l (labels t) c res move stay β in
        let o = not_of u.cond u.built in
        let q = and_of res o.ref o.built in
        follows (suspended_grows κ l (labels t) c res move stay β) (follows (not_grows vs u.cond u.built) (follows (and_grows vs res o.ref o.built)
        (if_labels_grows (labels t) q.built _ (resume_grows t κ l v q.ref move u.stay q.built h.1))))
    resume_grows (suspend true false t c) κ l v res move stay β h =
        let u = suspended vs κ l (labels t) c res move stay β in
        let o = not_of u.cond u.built in
        let m = and_of move o.ref o.built in
        let s = if_labels (labels t) m.built (resume vs κ l v t res m.ref u.stay m.built) in
        let e = not_of u.cond s.built in
        follows (suspended_grows κ l (labels t) c res move stay β) (follows (not_grows vs u.cond u.built) (follows (and_grows vs move o.ref o.built)
        (follows (if_labels_grows (labels t) m.built _ (resume_grows t κ l v res m.ref u.stay m.built h.1)) (follows (not_grows vs u.cond s.built) (and_grows vs s.ref e.ref e.built)))))
    resume_grows (suspend false true t c) κ l v res move stay β h =
        let u = suspended vs κ l (suc (labels t)) c res move stay β in
        let o = not_of u.cond u.built in
        let q = and_of res o.ref o.built in
        let w = stay_at l u.stay q.built in
        let g = and_of (ref.Reg l) q.ref w in
        let a = surface vs κ (l + 1) v t g.ref move g.built in
        let s = if_labels (labels t) a.built (resume vs κ (l + 1) v t q.ref move u.stay a.built) in
        follows (suspended_grows κ l (suc (labels t)) c res move stay β) (follows (not_grows vs u.cond u.built) (follows (and_grows vs res o.ref o.built) (follows (stay_grows vs l u.stay q.built)
        (follows (and_grows vs (ref.Reg l) q.ref w) (follows (surface_grows t κ (l + 1) v g.ref move g.built h.1)
        (follows (if_labels_grows (labels t) a.built _ (resume_grows t κ (l + 1) v q.ref move u.stay a.built h.1)) (or_grows vs a.ref s.ref s.built)))))))
    resume_grows (suspend true true t c) κ l v res move stay β h =
        let u = suspended vs κ l (suc (labels t)) c res move stay β in
        let o = not_of u.cond u.built in
        let m = and_of move o.ref o.built in
        let w = stay_at l u.stay m.built in
        let g = and_of (ref.Reg l) res w in
        let a = surface vs κ (l + 1) v t g.ref m.ref g.built in
        let s = if_labels (labels t) a.built (resume vs κ (l + 1) v t res m.ref u.stay a.built) in
        let b = or_of a.ref s.ref s.built in
        let e = not_of u.cond b.built in
        follows (suspended_grows κ l (suc (labels t)) c res move stay β) (follows (not_grows vs u.cond u.built) (follows (and_grows vs move o.ref o.built) (follows (stay_grows vs l u.stay m.built)
        (follows (and_grows vs (ref.Reg l) res w) (follows (surface_grows t κ (l + 1) v g.ref m.ref g.built h.1)
        (follows (if_labels_grows (labels t) a.built _ (resume_grows t κ (l + 1) v res m.ref u.stay a.built h.1)) (follows (or_grows vs a.ref s.ref s.built) (follows (not_grows vs u.cond b.built) (and_grows vs b.ref e.ref e.built)))))))))
    resume_grows (scope x s t) κ l v res move stay β h =
        resume_scope_grows vs x s t (λ κ l v res move stay β. if_labels_grows (labels t) β _ (resume_grows t κ l v res move stay β h.3)) κ l v res move stay β

    pub resume_in_turn_grows : (ts : Terms) (κ : Copies) (l v : ℕ) (before res move stay : Ref) (β : Builder) → AreSound vs ts → Grows vs β (resume_in_turn vs κ l v ts before res move stay β).built
    resume_in_turn_grows none κ l v before res move stay β h = stays vs β
    resume_in_turn_grows (part t ts) κ l v before res move stay β h =
        let a = surface vs κ l v t before move β in
        let s = if_labels (labels t) a.built (resume vs κ l v t res move stay a.built) in
        let o = or_of a.ref s.ref s.built in
        follows (surface_grows t κ l v before move β h.0) (follows (if_labels_grows (labels t) a.built _ (resume_grows t κ l v res move stay a.built h.0))
        (follows (or_grows vs a.ref s.ref s.built) (resume_in_turn_grows ts κ (l + labels t) (v + registers vs t) o.ref res move stay o.built h.1)))

    pub resume_each_grows : (ts : Terms) (κ : Copies) (l v : ℕ) (res move stay : Ref) (β : Builder) → AreSound vs ts → Grows vs β (resume_each vs κ l v ts res move stay β).built
    resume_each_grows none κ l v res move stay β h = stays vs β
    resume_each_grows (part t ts) κ l v res move stay β h =
        let s = if_labels (labels t) β (resume vs κ l v t res move stay β) in
        follows (if_labels_grows (labels t) β _ (resume_grows t κ l v res move stay β h.0)) (resume_each_grows ts κ (l + labels t) (v + registers vs t) res move stay s.built h.1)

  pub depth_grows : (s : Term) (κ : Copies) (l v : ℕ) (res move stay : Ref) (β : Builder) → IsSound vs s → Grows vs β (depth vs κ l v s res move stay β).built
  depth_grows s κ l v res move stay β h = if_labels_grows (labels s) β _ (resume_grows s κ l v res move stay β h)
