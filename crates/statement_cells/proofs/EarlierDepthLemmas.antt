-- Builders in order by the depth of a statement.
use Rattle.std.proofs.Common.{ℕ, zero, suc, ◌+◌, pos, true, false, List, [], ◌∷◌}
use Rattle.quartz_tree.specs.Tree.{Tree as Expr}
use Rattle.quartz_expr.specs.Vars.{Vars}
use Rattle.quartz_expr.specs.Terms.{Term, nothing, pause, write, choose, seq, par, loop, abort, suspend, scope, Terms, none, part}
use Rattle.aif_cells.specs.declared.reference.Ref.{Ref}
use Rattle.statement_cells.specs.Labels.{labels, labels_all, registers, scope_registers}
use Rattle.statement_cells.specs.Expressions.{Copies}
use Rattle.statement_cells.specs.Builder.{Builder, entering, reserve, zero_ref}
use Rattle.statement_cells.specs.Surface.{MadeAll, Suspended, all_if_labels, at_end, depth, resume, resume_each, resume_in_turn, suspended}
use Rattle.statement_cells.specs.Earlier.{IsOrdered, DepthNamesBefore}
use Rattle.statement_cells.proofs.EarlierLemmas.{CopiesHeld, Goes, Held, Later, and_goes, behind, follows, here, in_goes, literal_held, not_goes, or_goes, register_held, same, stay_goes, up, up_copies}
use Rattle.statement_cells.proofs.EarlierSurfaceLemmas.{AllHeld, GoesAll, first_held, labels_goes, more_goes, none_held, one_held, others_held, surface_goes, tested_goes, up_all}
use Rattle.statement_cells.proofs.EarlierScopeLemmas.{entering_held, reserve_goes, scope_resumed_goes}

module _ (vs : Vars) where
  -- ---- the ends of parts

  -- with labels or without
  all_labels_goes : (n : ℕ) (β : Builder) (a b : MadeAll) → GoesAll β a → GoesAll β b → GoesAll β (all_if_labels vs n a b)
  all_labels_goes zero β a b g h = g
  all_labels_goes (suc n) β a b g h = h

  -- where parts ended or are at rest
  at_end_goes : (ts : Terms) (l : ℕ) (rs : List Ref) (β : Builder) → IsOrdered β → AllHeld β rs → GoesAll β (at_end vs l ts rs β)
  unfolding at_end
  at_end_goes none l rs β w hs = record { later = same β; built = w; refs = none_held }
  at_end_goes (part t ts) l [] β w hs = record { later = same β; built = w; refs = none_held }
  at_end_goes (part t ts) l (r ∷ rs) β w hs =
      let i = in_goes l (labels t) w in
      let o = not_goes i.built i.ref in
      let l2 = follows i.later o.later in
      let e = or_goes o.built (up l2 (first_held hs)) o.ref in
      let l3 = follows l2 e.later in
      let more = at_end_goes ts (l + labels t) rs _ e.built (up_all l3 (others_held hs)) in
      all_labels_goes (labels t) β _ _ (at_end_goes ts (l + labels t) rs β w (others_held hs)) (record { later = follows l3 more.later; built = more.built; refs = one_held (up more.later e.ref) more.refs })

  -- ---- what a suspension begins with

  -- from a builder in order comes another one, and the references that a suspension begins with
  record GoesSuspended (before : Builder) (m : Suspended vs) : Type 0 where
    later : Later before m.built
    built : IsOrdered m.built
    cond : Held m.built m.cond
    stay : Held m.built m.stay

  -- a suspension begins in order
  suspended_goes : {κ : Copies} {res move stay : Ref} {β : Builder} (l n : ℕ) (c : Expr ℕ) → IsOrdered β → CopiesHeld β κ → Held β res → Held β move → Held β stay → GoesSuspended β (suspended vs κ l n c res move stay β)
  unfolding suspended
  suspended_goes l n c w ks rs ms ss =
      let i = in_goes l n w in
      let a = and_goes i.built i.ref (up i.later rs) in
      let l2 = follows i.later a.later in
      let k = tested_goes vs c a.built (up_copies l2 ks) a.ref in
      let l3 = follows l2 k.later in
      let x = and_goes k.built (up l3 ms) (up k.later a.ref) in
      let y = and_goes x.built x.ref (up x.later k.ref) in
      let l5 = follows l3 (follows x.later y.later) in
      let h = or_goes y.built (up l5 ss) y.ref in
      record { later = follows l5 h.later; built = h.built; cond = up (follows x.later (follows y.later h.later)) k.ref; stay = h.ref }

  -- ---- the depth

  mutual
    unfolding resume

    -- the depth of a statement with labels
    resume_goes : (s : Term) (κ : Copies) (l v : ℕ) (res move stay : Ref) (β : Builder) → IsOrdered β → CopiesHeld β κ → Held β res → Held β move → Held β stay → Goes β (resume vs κ l v s res move stay β)
    resume_goes nothing κ l v res move stay β w ks rs ms ss = here w (literal_held (pos 0))
    resume_goes pause κ l v res move stay β w ks rs ms ss =
        let e = stay_goes l w ss in
        behind e.later (and_goes e.built (register_held l) (up e.later rs))
    resume_goes (write x i e d p q) κ l v res move stay β w ks rs ms ss = here w (literal_held (pos 0))
    resume_goes (choose c a b) κ l v res move stay β w ks rs ms ss =
        let s = labels_goes (labels a) w (resume_goes a κ l v res move stay β w ks rs ms ss) in
        let l1 = s.later in
        let t = labels_goes (labels b) s.built (resume_goes b κ (l + labels a) (v + registers vs a) res move stay _ s.built (up_copies l1 ks) (up l1 rs) (up l1 ms) (up l1 ss)) in
        behind (follows l1 t.later) (or_goes t.built (up t.later s.ref) t.ref)
    resume_goes (seq ts) κ l v res move stay β w ks rs ms ss = turn_resumes ts κ l v zero_ref res move stay β w ks (literal_held (pos 0)) rs ms ss
    resume_goes (par ts) κ l v res move stay β w ks rs ms ss =
        let s = each_resumes ts κ l v res move stay β w ks rs ms ss in
        let e = at_end_goes ts l _ _ s.built s.refs in
        let i = in_goes l (labels_all ts) e.built in
        let l3 = follows s.later (follows e.later i.later) in
        let n = and_goes i.built i.ref (up l3 rs) in
        behind (follows l3 n.later) (more_goes _ _ _ n.built n.ref (up_all (follows i.later n.later) e.refs))
    resume_goes (loop t c) κ l v res move stay β w ks rs ms ss =
        let s = labels_goes (labels t) w (resume_goes t κ l v res move stay β w ks rs ms ss) in
        let k = tested_goes vs c s.built (up_copies s.later ks) s.ref in
        let l2 = follows s.later k.later in
        let g = and_goes k.built (up k.later s.ref) k.ref in
        let l3 = follows l2 g.later in
        let a = surface_goes vs t l v g.built (up_copies l3 ks) g.ref (up l3 ms) in
        let n = not_goes a.built (up (follows g.later a.later) k.ref) in
        behind (follows l3 (follows a.later n.later)) (and_goes n.built (up (follows k.later (follows g.later (follows a.later n.later))) s.ref) n.ref)
    resume_goes (abort false immediate t c) κ l v res move stay β w ks rs ms ss =
        let i = in_goes l (labels t) w in
        let n = and_goes i.built i.ref (up i.later rs) in
        let l2 = follows i.later n.later in
        let k = tested_goes vs c n.built (up_copies l2 ks) n.ref in
        let o = not_goes k.built k.ref in
        let l4 = follows l2 (follows k.later o.later) in
        let r = and_goes o.built (up l4 rs) o.ref in
        let l5 = follows l4 r.later in
        let s = labels_goes (labels t) r.built (resume_goes t κ l v _ move stay _ r.built (up_copies l5 ks) r.ref (up l5 ms) (up l5 ss)) in
        let ks6 = follows o.later (follows r.later s.later) in
        let h = and_goes s.built (up (follows k.later ks6) n.ref) (up ks6 k.ref) in
        behind (follows l5 (follows s.later h.later)) (or_goes h.built (up h.later s.ref) h.ref)
    resume_goes (abort true immediate t c) κ l v res move stay β w ks rs ms ss =
        let i = in_goes l (labels t) w in
        let n = and_goes i.built i.ref (up i.later rs) in
        let l2 = follows i.later n.later in
        let k = tested_goes vs c n.built (up_copies l2 ks) n.ref in
        let o = not_goes k.built k.ref in
        let l4 = follows l2 (follows k.later o.later) in
        let m = and_goes o.built (up l4 ms) o.ref in
        let l5 = follows l4 m.later in
        let s = labels_goes (labels t) m.built (resume_goes t κ l v res _ stay _ m.built (up_copies l5 ks) (up l5 rs) m.ref (up l5 ss)) in
        let ks6 = follows o.later (follows m.later s.later) in
        let h = and_goes s.built (up (follows k.later ks6) n.ref) (up ks6 k.ref) in
        behind (follows l5 (follows s.later h.later)) (or_goes h.built (up h.later s.ref) h.ref)
    resume_goes (suspend false false t c) κ l v res move stay β w ks rs ms ss =
        let u = suspended_goes l (labels t) c w ks rs ms ss in
        let o = not_goes u.built u.cond in
        let l2 = follows u.later o.later in
        let q = and_goes o.built (up l2 rs) o.ref in
        let l3 = follows l2 q.later in
        behind l3 (labels_goes (labels t) q.built (resume_goes t κ l v _ move _ _ q.built (up_copies l3 ks) q.ref (up l3 ms) (up (follows o.later q.later) u.stay)))
    resume_goes (suspend true false t c) κ l v res move stay β w ks rs ms ss =
        let u = suspended_goes l (labels t) c w ks rs ms ss in
        let o = not_goes u.built u.cond in
        let l2 = follows u.later o.later in
        let m = and_goes o.built (up l2 ms) o.ref in
        let l3 = follows l2 m.later in
        let ul = follows o.later m.later in
        let s = labels_goes (labels t) m.built (resume_goes t κ l v res _ _ _ m.built (up_copies l3 ks) (up l3 rs) m.ref (up ul u.stay)) in
        let e = not_goes s.built (up (follows ul s.later) u.cond) in
        behind (follows l3 (follows s.later e.later)) (and_goes e.built (up e.later s.ref) e.ref)
    resume_goes (suspend false true t c) κ l v res move stay β w ks rs ms ss =
        let u = suspended_goes l (suc (labels t)) c w ks rs ms ss in
        let o = not_goes u.built u.cond in
        let l2 = follows u.later o.later in
        let q = and_goes o.built (up l2 rs) o.ref in
        let y = stay_goes l q.built (up (follows o.later q.later) u.stay) in
        let g = and_goes y.built (register_held l) (up y.later q.ref) in
        let l5 = follows l2 (follows q.later (follows y.later g.later)) in
        let a = surface_goes vs t (l + 1) v g.built (up_copies l5 ks) g.ref (up l5 ms) in
        let l6 = follows l5 a.later in
        let from_q = follows y.later (follows g.later a.later) in
        let s = labels_goes (labels t) a.built (resume_goes t κ (l + 1) v _ move _ _ a.built (up_copies l6 ks) (up from_q q.ref) (up l6 ms) (up (follows o.later (follows q.later from_q)) u.stay)) in
        behind (follows l6 s.later) (or_goes s.built (up s.later a.ref) s.ref)
    resume_goes (suspend true true t c) κ l v res move stay β w ks rs ms ss =
        let u = suspended_goes l (suc (labels t)) c w ks rs ms ss in
        let o = not_goes u.built u.cond in
        let l2 = follows u.later o.later in
        let m = and_goes o.built (up l2 ms) o.ref in
        let l3 = follows l2 m.later in
        let y = stay_goes l m.built (up (follows o.later m.later) u.stay) in
        let l4 = follows l3 y.later in
        let g = and_goes y.built (register_held l) (up l4 rs) in
        let l5 = follows l4 g.later in
        let a = surface_goes vs t (l + 1) v g.built (up_copies l5 ks) g.ref (up (follows y.later g.later) m.ref) in
        let l6 = follows l5 a.later in
        let from_m = follows y.later (follows g.later a.later) in
        let from_u = follows o.later (follows m.later from_m) in
        let s = labels_goes (labels t) a.built (resume_goes t κ (l + 1) v res _ _ _ a.built (up_copies l6 ks) (up l6 rs) (up from_m m.ref) (up from_u u.stay)) in
        let b = or_goes s.built (up s.later a.ref) s.ref in
        let sb = follows s.later b.later in
        let e = not_goes b.built (up (follows from_u sb) u.cond) in
        behind (follows l6 (follows sb e.later)) (and_goes e.built (up e.later b.ref) e.ref)
    resume_goes (scope x s t) κ l v res move stay β w ks rs ms ss =
        let r = reserve_goes vs x true β w in
        let inner = reserve vs x true β in
        let held = entering_held vs x true κ β (up_copies r.later ks) in
        let i = labels_goes (labels t) r.built (resume_goes t (entering vs x κ β) l (v + scope_registers vs (labels t) x) res move stay inner r.built held (up r.later rs) (up r.later ms) (up r.later ss)) in
        scope_resumed_goes vs x (labels t) v l res β (depth vs (entering vs x κ β) l (v + scope_registers vs (labels t) x) t res move stay inner) w rs r i

    -- of parts in turn
    turn_resumes : (ts : Terms) (κ : Copies) (l v : ℕ) (before res move stay : Ref) (β : Builder) → IsOrdered β → CopiesHeld β κ → Held β before → Held β res → Held β move → Held β stay
        → Goes β (resume_in_turn vs κ l v ts before res move stay β)
    turn_resumes none κ l v before res move stay β w ks bs rs ms ss = here w bs
    turn_resumes (part t ts) κ l v before res move stay β w ks bs rs ms ss =
        let a = surface_goes vs t l v w ks bs ms in
        let l1 = a.later in
        let s = labels_goes (labels t) a.built (resume_goes t κ l v res move stay _ a.built (up_copies l1 ks) (up l1 rs) (up l1 ms) (up l1 ss)) in
        let o = or_goes s.built (up s.later a.ref) s.ref in
        let l3 = follows l1 (follows s.later o.later) in
        behind l3 (turn_resumes ts κ (l + labels t) (v + registers vs t) _ res move stay _ o.built (up_copies l3 ks) o.ref (up l3 rs) (up l3 ms) (up l3 ss))

    -- of parts beside each other
    each_resumes : (ts : Terms) (κ : Copies) (l v : ℕ) (res move stay : Ref) (β : Builder) → IsOrdered β → CopiesHeld β κ → Held β res → Held β move → Held β stay → GoesAll β (resume_each vs κ l v ts res move stay β)
    each_resumes none κ l v res move stay β w ks rs ms ss = record { later = same β; built = w; refs = none_held }
    each_resumes (part t ts) κ l v res move stay β w ks rs ms ss =
        let s = labels_goes (labels t) w (resume_goes t κ l v res move stay β w ks rs ms ss) in
        let l1 = s.later in
        let more = each_resumes ts κ (l + labels t) (v + registers vs t) res move stay _ s.built (up_copies l1 ks) (up l1 rs) (up l1 ms) (up l1 ss) in
        record { later = follows l1 more.later; built = more.built; refs = one_held (up more.later s.ref) more.refs }

  -- the depth of a statement
  pub depth_goes : {κ : Copies} {res move stay : Ref} {β : Builder} (s : Term) (l v : ℕ) → IsOrdered β → CopiesHeld β κ → Held β res → Held β move → Held β stay → Goes β (depth vs κ l v s res move stay β)
  depth_goes {κ = κ} {res = res} {move = move} {stay = stay} {β = β} s l v w ks rs ms ss = labels_goes (labels s) w (resume_goes s κ l v res move stay β w ks rs ms ss)

-- the depth of a statement is made in order
pub depth_names_before : DepthNamesBefore
depth_names_before vs κ l v s res move stay β w ks rs ms ss =
    let m : Goes β (depth vs κ l v s res move stay β) = depth_goes vs s l v w (record { below = ks }) (record { below = rs }) (record { below = ms }) (record { below = ss }) in
    record { built = m.built; ref = m.ref.below }
