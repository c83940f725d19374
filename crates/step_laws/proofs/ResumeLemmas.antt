-- The depth of a statement makes bits where its labels are bits, form by form.
use Rattle.std.proofs.Common.{◌≡◌, ℕ, zero, suc, ◌+◌, ◌≤◌, ◌<◌, true, false, List, [], ◌∷◌, arith}
use Rattle.quartz_tree.specs.Tree.{Tree as Expr}
use Rattle.quartz_expr.specs.Vars.{Vars}
use Rattle.quartz_expr.specs.Terms.{Term, nothing, pause, write, choose, seq, par, loop, abort, suspend, scope, Terms, none, part}
use Rattle.quartz_expr.specs.Typed.{AreSound as AreSoundVars, IsTyped}
use Rattle.aif_cells.specs.declared.reference.Ref.{Ref}
use Rattle.aif_cells.specs.declared.reference.Ref.TheVariants as ref
use Rattle.aif_cells.specs.Worth.{Assignment}
use Rattle.statement_cells.specs.Labels.{labels, labels_all, registers, scope_registers}
use Rattle.statement_cells.specs.Expressions.{Copies}
use Rattle.statement_cells.specs.Builder.{Builder, in_of}
use Rattle.statement_cells.specs.Sound.{IsSound, AreSound}
use Rattle.statement_cells.specs.Surface.{MadeAll, Suspended, all_if_labels, at_end, depth, resume, resume_each, resume_in_turn, suspended}
use Rattle.step_laws.specs.Conditions.{HasConditions, HaveConditions, IsCondition}
use Rattle.step_laws.proofs.CloseLemmas.{inside, resumes_scope}
use Rattle.step_laws.proofs.MadeLemmas.{AllAt, At, Bit, Makes, MakesAll, Step, after, ands, ands_more, follow, gives, if_some, ins, nots, on, on_all, ors, other, rest, stays_at, tests, zero_at}
use Rattle.step_laws.proofs.StartLemmas.{surfaces}

module _ (vs : Vars) (σ : Assignment) (types : AreSoundVars vs) (top : ℕ) (below : (i : ℕ) → i < top → Bit vs σ (ref.Reg i)) where
  label : {κ : Copies} {β : Builder} {r : Ref} (l : ℕ) → l < top → At vs σ κ β r → At vs σ κ β (ref.Reg l)
  label l less p = other vs σ (ref.Reg l) (below l less) p

  within : {κ : Copies} {β : Builder} {r : Ref} (l n : ℕ) → l + n ≤ top → At vs σ κ β r → Makes vs σ κ β (in_of l n β)
  within l n room p = ins vs σ l n p (λ i g h. below i (omega (arith, room, h)))

  -- ---- where parts end

  if_all : {κ : Copies} {β : Builder} {m o : MadeAll} (n : ℕ) → MakesAll vs σ κ β m → MakesAll vs σ κ β o → MakesAll vs σ κ β (all_if_labels vs n m o)
  if_all zero g h = g
  if_all (suc n) g h = h

  ends_all : (ts : Terms) {κ : Copies} (l : ℕ) (rs : List Ref) {β : Builder} {q : Ref} → l + labels_all ts ≤ top → At vs σ κ β q → AllAt vs σ κ β rs → MakesAll vs σ κ β (at_end vs l ts rs β)
  unfolding at_end
  ends_all none l rs {β = β} room p h = record { step = rest vs σ β; at = tt }
  ends_all (part t ts) l [] {β = β} room p h = record { step = rest vs σ β; at = tt }
  ends_all (part t ts) {κ = κ} l (r ∷ rs) room p h =
      let i = within l (labels t) (omega (arith, room)) p in
      let o = nots vs σ i.at in
      let t1 = follow vs σ i.step o.step in
      let e = ors vs σ (on vs σ t1 h.0) o.at in
      let t2 = follow vs σ t1 e.step in
      let more = ends_all ts (l + labels t) rs (omega (arith, room)) e.at (on_all vs σ κ rs t2 h.1) in
      if_all (labels t) (ends_all ts (l + labels t) rs (omega (arith, room)) p h.1) (record { step = follow vs σ t2 more.step; at = (on vs σ more.step e.at, more.at) })

  -- ---- suspensions

  record Suspends (κ : Copies) (β : Builder) (u : Suspended vs) : Type 0 where
    step : Step vs σ β u.built
    cond : At vs σ κ u.built u.cond
    stay : At vs σ κ u.built u.stay

  suspends : {κ : Copies} (l n : ℕ) (c : Expr ℕ) {res move stay : Ref} {β : Builder} → IsTyped vs c → IsCondition vs c → l + n ≤ top → At vs σ κ β res → At vs σ κ β move → At vs σ κ β stay
      → Suspends κ β (suspended vs κ l n c res move stay β)
  unfolding suspended
  suspends l n c t is room p q r =
      let i = within l n room p in
      let a = ands vs σ i.at (on vs σ i.step p) in
      let t1 = follow vs σ i.step a.step in
      let k = tests vs σ types c t is a.at in
      let t2 = follow vs σ t1 k.step in
      let x = ands vs σ (on vs σ t2 q) (on vs σ k.step a.at) in
      let t3 = follow vs σ t2 x.step in
      let y = ands vs σ x.at (on vs σ x.step k.at) in
      let t4 = follow vs σ t3 y.step in
      let h = ors vs σ (on vs σ t4 r) y.at in
      record { step = follow vs σ t4 h.step; cond = on vs σ h.step (on vs σ y.step (on vs σ x.step k.at)); stay = h.at }

  -- ---- the forms

  mutual
    unfolding resume resume_in_turn resume_each

    pub resumes : (s : Term) → IsSound vs s → HasConditions vs s → {κ : Copies} (l v : ℕ) {res move stay : Ref} {β : Builder} → l + labels s ≤ top → At vs σ κ β res → At vs σ κ β move → At vs σ κ β stay
        → Makes vs σ κ β (resume vs κ l v s res move stay β)
    resumes nothing h c l v room p q r = gives vs σ (zero_at vs σ p)
    resumes pause h c l v room p q r =
        let s = stays_at vs σ l r in
        after vs σ s (ands vs σ (label l (omega (arith, room)) (on vs σ s p)) (on vs σ s p))
    resumes (write x i e d m n) h c l v room p q r = gives vs σ (zero_at vs σ p)
    resumes (choose d a b) h c l v room p q r =
        let s = if_some vs σ (labels a) p (resumes a h.1 c.1 l v (omega (arith, room)) p q r) in
        let t = if_some vs σ (labels b) (on vs σ s.step p) (resumes b h.2 c.2 (l + labels a) (v + registers vs a) (omega (arith, room)) (on vs σ s.step p) (on vs σ s.step q) (on vs σ s.step r)) in
        after vs σ (follow vs σ s.step t.step) (ors vs σ (on vs σ t.step s.at) t.at)
    resumes (seq ts) h c l v room p q r = resumes_in_turn ts h c l v room (zero_at vs σ p) p q r
    resumes (par ts) h c {κ = κ} l v {res = res} {move = move} {stay = stay} {β = β} room p q r =
        let s = resumes_each ts h c l v room p q r in
        let e = ends_all ts l (resume_each vs κ l v ts res move stay β).refs room (on vs σ s.step p) s.at in
        let t1 = follow vs σ s.step e.step in
        let i = within l (labels_all ts) room (on vs σ t1 p) in
        let t2 = follow vs σ t1 i.step in
        let n = ands vs σ i.at (on vs σ t2 p) in
        let ends = (at_end vs l ts (resume_each vs κ l v ts res move stay β).refs (resume_each vs κ l v ts res move stay β).built).refs in
        after vs σ (follow vs σ t2 n.step) (ands_more vs σ ends n.at (on_all vs σ κ ends n.step (on_all vs σ κ ends i.step e.at)))
    resumes (loop t d) h c l v room p q r =
        let s = if_some vs σ (labels t) p (resumes t h.2 c.1 l v room p q r) in
        let k = tests vs σ types d h.1 c.0 s.at in
        let t1 = follow vs σ s.step k.step in
        let g = ands vs σ (on vs σ k.step s.at) k.at in
        let t2 = follow vs σ t1 g.step in
        let a = surfaces vs σ types t h.2 c.1 l v g.at (on vs σ t2 q) in
        let t3 = follow vs σ t2 a.step in
        let n = nots vs σ (on vs σ a.step (on vs σ g.step k.at)) in
        after vs σ (follow vs σ t3 n.step) (ands vs σ (on vs σ n.step (on vs σ a.step (on vs σ g.step (on vs σ k.step s.at)))) n.at)
    resumes (abort false immediate t d) h c l v room p q r =
        let i = within l (labels t) room p in
        let n = ands vs σ i.at (on vs σ i.step p) in
        let t1 = follow vs σ i.step n.step in
        let k = tests vs σ types d h.0 c.0 n.at in
        let t2 = follow vs σ t1 k.step in
        let o = nots vs σ k.at in
        let t3 = follow vs σ t2 o.step in
        let a = ands vs σ (on vs σ t3 p) o.at in
        let t4 = follow vs σ t3 a.step in
        let s = if_some vs σ (labels t) a.at (resumes t h.1 c.1 l v room a.at (on vs σ t4 q) (on vs σ t4 r)) in
        let t5 = follow vs σ t4 s.step in
        let k5 = on vs σ s.step (on vs σ a.step (on vs σ o.step k.at)) in
        let g = ands vs σ (on vs σ s.step (on vs σ a.step (on vs σ o.step (on vs σ k.step n.at)))) k5 in
        after vs σ (follow vs σ t5 g.step) (ors vs σ (on vs σ g.step s.at) g.at)
    resumes (abort true immediate t d) h c l v room p q r =
        let i = within l (labels t) room p in
        let n = ands vs σ i.at (on vs σ i.step p) in
        let t1 = follow vs σ i.step n.step in
        let k = tests vs σ types d h.0 c.0 n.at in
        let t2 = follow vs σ t1 k.step in
        let o = nots vs σ k.at in
        let t3 = follow vs σ t2 o.step in
        let m = ands vs σ (on vs σ t3 q) o.at in
        let t4 = follow vs σ t3 m.step in
        let s = if_some vs σ (labels t) (on vs σ t4 p) (resumes t h.1 c.1 l v room (on vs σ t4 p) m.at (on vs σ t4 r)) in
        let t5 = follow vs σ t4 s.step in
        let k5 = on vs σ s.step (on vs σ m.step (on vs σ o.step k.at)) in
        let g = ands vs σ (on vs σ s.step (on vs σ m.step (on vs σ o.step (on vs σ k.step n.at)))) k5 in
        after vs σ (follow vs σ t5 g.step) (ors vs σ (on vs σ g.step s.at) g.at)
    resumes (suspend false false t d) h c l v room p q r =
        let u = suspends l (labels t) d h.0 c.0 room p q r in
        let o = nots vs σ u.cond in
        let t1 = follow vs σ u.step o.step in
        let a = ands vs σ (on vs σ t1 p) o.at in
        let t2 = follow vs σ t1 a.step in
        after vs σ t2 (if_some vs σ (labels t) a.at (resumes t h.1 c.1 l v room a.at (on vs σ t2 q) (on vs σ a.step (on vs σ o.step u.stay))))
    resumes (suspend true false t d) h c l v room p q r =
        let u = suspends l (labels t) d h.0 c.0 room p q r in
        let o = nots vs σ u.cond in
        let t1 = follow vs σ u.step o.step in
        let m = ands vs σ (on vs σ t1 q) o.at in
        let t2 = follow vs σ t1 m.step in
        let s = if_some vs σ (labels t) m.at (resumes t h.1 c.1 l v room (on vs σ t2 p) m.at (on vs σ m.step (on vs σ o.step u.stay))) in
        let t3 = follow vs σ t2 s.step in
        let e = nots vs σ (on vs σ s.step (on vs σ m.step (on vs σ o.step u.cond))) in
        after vs σ (follow vs σ t3 e.step) (ands vs σ (on vs σ e.step s.at) e.at)
    resumes (suspend false true t d) h c l v room p q r =
        let u = suspends l (suc (labels t)) d h.0 c.0 room p q r in
        let o = nots vs σ u.cond in
        let t1 = follow vs σ u.step o.step in
        let a = ands vs σ (on vs σ t1 p) o.at in
        let t2 = follow vs σ t1 a.step in
        let stay2 = on vs σ a.step (on vs σ o.step u.stay) in
        let w = stays_at vs σ l stay2 in
        let t3 = follow vs σ t2 w in
        let g = ands vs σ (label l (omega (arith, room)) (on vs σ w a.at)) (on vs σ w a.at) in
        let t4 = follow vs σ t3 g.step in
        let b = surfaces vs σ types t h.1 c.1 (l + 1) v g.at (on vs σ t4 q) in
        let t5 = follow vs σ t4 b.step in
        let a5 = on vs σ b.step (on vs σ g.step (on vs σ w a.at)) in
        let s = if_some vs σ (labels t) a5 (resumes t h.1 c.1 (l + 1) v (omega (arith, room)) a5 (on vs σ t5 q) (on vs σ b.step (on vs σ g.step (on vs σ w stay2)))) in
        after vs σ (follow vs σ t5 s.step) (ors vs σ (on vs σ s.step b.at) s.at)
    resumes (suspend true true t d) h c l v room p q r =
        let u = suspends l (suc (labels t)) d h.0 c.0 room p q r in
        let o = nots vs σ u.cond in
        let t1 = follow vs σ u.step o.step in
        let m = ands vs σ (on vs σ t1 q) o.at in
        let t2 = follow vs σ t1 m.step in
        let stay2 = on vs σ m.step (on vs σ o.step u.stay) in
        let w = stays_at vs σ l stay2 in
        let t3 = follow vs σ t2 w in
        let g = ands vs σ (label l (omega (arith, room)) (on vs σ t3 p)) (on vs σ t3 p) in
        let t4 = follow vs σ t3 g.step in
        let m4 = on vs σ g.step (on vs σ w m.at) in
        let b = surfaces vs σ types t h.1 c.1 (l + 1) v g.at m4 in
        let t5 = follow vs σ t4 b.step in
        let s = if_some vs σ (labels t) b.at (resumes t h.1 c.1 (l + 1) v (omega (arith, room)) (on vs σ t5 p) (on vs σ b.step m4) (on vs σ b.step (on vs σ g.step (on vs σ w stay2)))) in
        let t6 = follow vs σ t5 s.step in
        let f = ors vs σ (on vs σ s.step b.at) s.at in
        let t7 = follow vs σ t6 f.step in
        let cond7 = on vs σ f.step (on vs σ s.step (on vs σ b.step (on vs σ g.step (on vs σ w (on vs σ m.step (on vs σ o.step u.cond)))))) in
        let e = nots vs σ cond7 in
        after vs σ (follow vs σ t7 e.step) (ands vs σ (on vs σ e.step f.at) e.at)
    resumes (scope x s t) h c l v room p q r =
        let i = inside vs σ x true h.0 p in
        resumes_scope vs σ x (labels t) v l p
        (if_some vs σ (labels t) i (resumes t h.3 c l (v + scope_registers vs (labels t) x) room i (inside vs σ x true h.0 q) (inside vs σ x true h.0 r)))

    pub resumes_in_turn : (ts : Terms) → AreSound vs ts → HaveConditions vs ts → {κ : Copies} (l v : ℕ) {before res move stay : Ref} {β : Builder} → l + labels_all ts ≤ top
        → At vs σ κ β before → At vs σ κ β res → At vs σ κ β move → At vs σ κ β stay → Makes vs σ κ β (resume_in_turn vs κ l v ts before res move stay β)
    resumes_in_turn none h c l v room b p q r = gives vs σ b
    resumes_in_turn (part t ts) h c l v room b p q r =
        let a = surfaces vs σ types t h.0 c.0 l v b q in
        let s = if_some vs σ (labels t) a.at (resumes t h.0 c.0 l v (omega (arith, room)) (on vs σ a.step p) (on vs σ a.step q) (on vs σ a.step r)) in
        let t1 = follow vs σ a.step s.step in
        let o = ors vs σ (on vs σ s.step a.at) s.at in
        let t2 = follow vs σ t1 o.step in
        after vs σ t2 (resumes_in_turn ts h.1 c.1 (l + labels t) (v + registers vs t) (omega (arith, room)) o.at (on vs σ t2 p) (on vs σ t2 q) (on vs σ t2 r))

    pub resumes_each : (ts : Terms) → AreSound vs ts → HaveConditions vs ts → {κ : Copies} (l v : ℕ) {res move stay : Ref} {β : Builder} → l + labels_all ts ≤ top
        → At vs σ κ β res → At vs σ κ β move → At vs σ κ β stay → MakesAll vs σ κ β (resume_each vs κ l v ts res move stay β)
    resumes_each none h c l v {β = β} room p q r = record { step = rest vs σ β; at = tt }
    resumes_each (part t ts) h c l v room p q r =
        let s = if_some vs σ (labels t) p (resumes t h.0 c.0 l v (omega (arith, room)) p q r) in
        let more = resumes_each ts h.1 c.1 (l + labels t) (v + registers vs t) (omega (arith, room)) (on vs σ s.step p) (on vs σ s.step q) (on vs σ s.step r) in
        record { step = follow vs σ s.step more.step; at = (on vs σ more.step s.at, more.at) }

  pub depths : (s : Term) → IsSound vs s → HasConditions vs s → {κ : Copies} (l v : ℕ) {res move stay : Ref} {β : Builder} → l + labels s ≤ top → At vs σ κ β res → At vs σ κ β move → At vs σ κ β stay
      → Makes vs σ κ β (depth vs κ l v s res move stay β)
  depths s h c l v room p q r = if_some vs σ (labels s) p (resumes s h c l v room p q r)
