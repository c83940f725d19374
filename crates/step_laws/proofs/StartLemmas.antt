-- The surface of a statement makes bits, form by form.
use Rattle.std.proofs.Common.{ℕ, ◌+◌, true, false, List, []}
use Rattle.quartz_expr.specs.Vars.{Vars}
use Rattle.quartz_expr.specs.Terms.{Term, nothing, pause, write, choose, seq, par, loop, abort, suspend, scope, Terms, none, part}
use Rattle.quartz_expr.specs.Typed.{AreSound as AreSoundVars}
use Rattle.aif_cells.specs.declared.reference.Ref.{Ref}
use Rattle.aif_cells.specs.Worth.{Assignment}
use Rattle.statement_cells.specs.Labels.{labels, registers, scope_registers}
use Rattle.statement_cells.specs.Expressions.{Copies}
use Rattle.statement_cells.specs.Builder.{Builder}
use Rattle.statement_cells.specs.Sound.{IsSound, AreSound}
use Rattle.statement_cells.specs.Surface.{start, start_each, start_in_turn, surface}
use Rattle.step_laws.specs.Conditions.{HasConditions, HaveConditions}
use Rattle.step_laws.proofs.CloseLemmas.{inside, starts_scope}
use Rattle.step_laws.proofs.MadeLemmas.{At, Makes, MakesAll, after, ands, ands_all, enters, follow, gives, nots, on, ors, rest, tests, unless, writes_step, zero_at}

module _ (vs : Vars) (σ : Assignment) (types : AreSoundVars vs) where
  mutual
    unfolding start start_in_turn start_each

    pub starts : (s : Term) → IsSound vs s → HasConditions vs s → {κ : Copies} (l v : ℕ) {go move : Ref} {β : Builder} → At vs σ κ β go → At vs σ κ β move → Makes vs σ κ β (start vs κ l v s go move β)
    starts nothing h c l v p q = gives vs σ p
    starts pause h c l v p q =
        let g = ands vs σ p q in
        let e = enters vs σ l g.at in
        record { step = follow vs σ g.step e; at = zero_at vs σ (on vs σ e g.at) }
    starts (write x i e d m n) h c l v p q =
        let s = writes_step vs σ x i e d m n types h p in
        record { step = s; at = on vs σ s p }
    starts (choose d a b) h c l v p q =
        let k = tests vs σ types d h.0 c.0 p in
        let g = ands vs σ (on vs σ k.step p) k.at in
        let t1 = follow vs σ k.step g.step in
        let s = unless vs σ g.at (starts a h.1 c.1 l v g.at (on vs σ t1 q)) in
        let t2 = follow vs σ t1 s.step in
        let n = nots vs σ (on vs σ s.step (on vs σ g.step k.at)) in
        let t3 = follow vs σ t2 n.step in
        let o = ands vs σ (on vs σ t3 p) n.at in
        let t4 = follow vs σ t3 o.step in
        let t = unless vs σ o.at (starts b h.2 c.2 (l + labels a) (v + registers vs a) o.at (on vs σ t4 q)) in
        after vs σ (follow vs σ t4 t.step) (ors vs σ (on vs σ t.step (on vs σ o.step (on vs σ n.step s.at))) t.at)
    starts (seq ts) h c l v p q = starts_in_turn ts h c l v p q
    starts (par ts) h c {κ = κ} l v {go = go} {move = move} {β = β} p q =
        let s = starts_each ts h c l v p q in
        after vs σ s.step (ands_all vs σ (start_each vs κ l v ts go move β).refs (on vs σ s.step p) s.at)
    starts (loop t d) h c l v p q =
        let s = unless vs σ p (starts t h.2 c.1 l v p q) in
        record { step = s.step; at = zero_at vs σ s.at }
    starts (abort weak false t d) h c l v p q = unless vs σ p (starts t h.1 c.1 l v p q)
    starts (abort false true t d) h c l v p q =
        let k = tests vs σ types d h.0 c.0 p in
        let n = nots vs σ k.at in
        let t1 = follow vs σ k.step n.step in
        let g = ands vs σ (on vs σ t1 p) n.at in
        let t2 = follow vs σ t1 g.step in
        let s = unless vs σ g.at (starts t h.1 c.1 l v g.at (on vs σ t2 q)) in
        let t3 = follow vs σ t2 s.step in
        let o = ands vs σ (on vs σ t3 p) (on vs σ s.step (on vs σ g.step (on vs σ n.step k.at))) in
        after vs σ (follow vs σ t3 o.step) (ors vs σ (on vs σ o.step s.at) o.at)
    starts (abort true true t d) h c l v p q =
        let k = tests vs σ types d h.0 c.0 p in
        let n = nots vs σ k.at in
        let t1 = follow vs σ k.step n.step in
        let m = ands vs σ (on vs σ t1 q) n.at in
        let t2 = follow vs σ t1 m.step in
        let s = unless vs σ (on vs σ t2 p) (starts t h.1 c.1 l v (on vs σ t2 p) m.at) in
        let t3 = follow vs σ t2 s.step in
        let o = ands vs σ (on vs σ t3 p) (on vs σ s.step (on vs σ m.step (on vs σ n.step k.at))) in
        after vs σ (follow vs σ t3 o.step) (ors vs σ (on vs σ o.step s.at) o.at)
    starts (suspend weak false t d) h c l v p q = unless vs σ p (starts t h.1 c.1 l v p q)
    starts (suspend false true t d) h c l v p q =
        let k = tests vs σ types d h.0 c.0 p in
        let b = ands vs σ (on vs σ k.step p) k.at in
        let t1 = follow vs σ k.step b.step in
        let w = ands vs σ b.at (on vs σ t1 q) in
        let e = enters vs σ l w.at in
        let t2 = follow vs σ t1 (follow vs σ w.step e) in
        let n = nots vs σ (on vs σ e (on vs σ w.step (on vs σ b.step k.at))) in
        let t3 = follow vs σ t2 n.step in
        let g = ands vs σ (on vs σ t3 p) n.at in
        let t4 = follow vs σ t3 g.step in
        after vs σ t4 (unless vs σ g.at (starts t h.1 c.1 (l + 1) v g.at (on vs σ t4 q)))
    starts (suspend true true t d) h c l v p q =
        let k = tests vs σ types d h.0 c.0 p in
        let b = ands vs σ (on vs σ k.step p) k.at in
        let t1 = follow vs σ k.step b.step in
        let w = ands vs σ b.at (on vs σ t1 q) in
        let e = enters vs σ l w.at in
        let t2 = follow vs σ t1 (follow vs σ w.step e) in
        let n = nots vs σ (on vs σ e (on vs σ w.step (on vs σ b.step k.at))) in
        let t3 = follow vs σ t2 n.step in
        let m = ands vs σ (on vs σ t3 q) n.at in
        let t4 = follow vs σ t3 m.step in
        let s = unless vs σ (on vs σ t4 p) (starts t h.1 c.1 (l + 1) v (on vs σ t4 p) m.at) in
        let t5 = follow vs σ t4 s.step in
        let o = nots vs σ (on vs σ s.step (on vs σ m.step (on vs σ n.step (on vs σ e (on vs σ w.step (on vs σ b.step k.at)))))) in
        after vs σ (follow vs σ t5 o.step) (ands vs σ (on vs σ o.step s.at) o.at)
    starts (scope x s t) h c {κ = κ} l v {β = β} p q =
        let i = inside vs σ x false h.0 p in
        starts_scope vs σ x (labels t) v p q (unless vs σ i (starts t h.3 c l (v + scope_registers vs (labels t) x) i (inside vs σ x false h.0 q)))

    pub starts_in_turn : (ts : Terms) → AreSound vs ts → HaveConditions vs ts → {κ : Copies} (l v : ℕ) {go move : Ref} {β : Builder} → At vs σ κ β go → At vs σ κ β move → Makes vs σ κ β (start_in_turn vs κ l v ts go move β)
    starts_in_turn none h c l v p q = gives vs σ p
    starts_in_turn (part t ts) h c l v p q =
        let s = unless vs σ p (starts t h.0 c.0 l v p q) in
        after vs σ s.step (starts_in_turn ts h.1 c.1 (l + labels t) (v + registers vs t) s.at (on vs σ s.step q))

    pub starts_each : (ts : Terms) → AreSound vs ts → HaveConditions vs ts → {κ : Copies} (l v : ℕ) {go move : Ref} {β : Builder} → At vs σ κ β go → At vs σ κ β move → MakesAll vs σ κ β (start_each vs κ l v ts go move β)
    starts_each none h c l v {β = β} p q = record { step = rest vs σ β; at = tt }
    starts_each (part t ts) h c l v p q =
        let s = unless vs σ p (starts t h.0 c.0 l v p q) in
        let more = starts_each ts h.1 c.1 (l + labels t) (v + registers vs t) (on vs σ s.step p) (on vs σ s.step q) in
        record { step = follow vs σ s.step more.step; at = (on vs σ more.step s.at, more.at) }

  pub surfaces : (s : Term) → IsSound vs s → HasConditions vs s → {κ : Copies} (l v : ℕ) {go move : Ref} {β : Builder} → At vs σ κ β go → At vs σ κ β move → Makes vs σ κ β (surface vs κ l v s go move β)
  surfaces s h c l v p q = unless vs σ p (starts s h c l v p q)
