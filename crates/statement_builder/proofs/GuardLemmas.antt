-- What choices and preemptions begin with, and how they end.
use Rattle.std.proofs.Common.{◌≡◌, ℕ, ◌+◌, refl, sym, ap, subst, Bool, true, false}
use Rattle.quartz_tree.specs.Tree.{Tree as Expr}
use Rattle.quartz_expr.specs.Vars.{Vars}
use Rattle.aif_cells.specs.declared.reference.Ref.{Ref}
use Rattle.aif_cells.specs.declared.reference.Ref.TheVariants as ref
use Rattle.statement_cells.specs.Expressions.{Copies}
use Rattle.statement_cells.specs.Builder.{Builder as Plain, zero_ref, not_of, and_of, or_of, in_of, enter, stay_at}
use Rattle.statement_cells.specs.Surface.{Suspended, tested, suspended}
use Rattle.statement_builder.specs.declared.builder.Builder.{Builder}
use Rattle.statement_builder.specs.declared.guarding.Guarded.{Guarded}
use Rattle.statement_builder.specs.declared.guarding.Stopped.{Stopped}
use Rattle.statement_builder.specs.declared.guarding.Suspension.{Suspension}
use Rattle.statement_builder.specs.declared.guarding.Side.{Side}
use Rattle.statement_builder.specs.Built.{Does, Gives, Makes, Suspends}
use Rattle.statement_builder.specs.Guards.{begun_abort, begun_guard, begun_immediate, begun_suspend, blocked, ended_abort, ended_guard, ended_immediate, ended_suspend, first_side, other_side, waited, woken}
use Rattle.statement_builder.proofs.StepLemmas.{bind_gives, done_then_gives, done_then_made, gives_same, kept, map_gives, of_made, then_made}

pub side_given : (b0 b1 b2 : Builder) (vs : Vars) (c : Expr ℕ) (go k g : Ref) → Makes b0 b1 k (λ κ. tested vs κ c go) → Makes b1 b2 g (λ κ. and_of go k)
    → Gives Side b0 b2 (record { cond = k; go = g }) (λ κ. first_side vs κ c go)
side_given b0 b1 b2 vs c go k g h1 h2 =
    bind_gives Ref Side b0 b1 b2 k (record { cond = k; go = g }) (λ κ β. ((tested vs κ c go β).ref, (tested vs κ c go β).built)) (λ x κ β. (record { cond = x; go = (and_of go x β).ref }, (and_of go x β).built))
    (of_made b0 b1 k (λ κ. tested vs κ c go) h1) (map_gives Ref Side b1 b2 g (λ y. record { cond = k; go = y }) (λ κ β. ((and_of go k β).ref, (and_of go k β).built)) (of_made b1 b2 g (λ κ. and_of go k) h2))

pub other_made : (b0 b1 b2 : Builder) (k go n r : Ref) → Makes b0 b1 n (λ κ. not_of k) → Makes b1 b2 r (λ κ. and_of go n) → Makes b0 b2 r (λ κ. other_side k go)
other_made b0 b1 b2 k go n r h1 h2 = then_made b0 b1 b2 n r (λ κ. not_of k) (λ x κ. and_of go x) h1 h2

-- ---- what a condition blocks

pub blocked_weak : (b b' : Builder) (w : Bool) (k n go step m : Ref) (l : ℕ) → w ≡ true → Makes b b' m (λ κ. and_of step n) → Gives Guarded b b' (record { cond = k; label = l; go = go; step = m }) (λ κ. blocked w k n l go step)
blocked_weak b b' w k n go step m l e h =
    subst (λ (x : Bool). Gives Guarded b b' (record { cond = k; label = l; go = go; step = m }) (λ κ. blocked x k n l go step)) (sym e)
    (map_gives Ref Guarded b b' m (λ y. record { cond = k; label = l; go = go; step = y }) (λ κ β. ((and_of step n β).ref, (and_of step n β).built)) (of_made b b' m (λ κ. and_of step n) h))

pub blocked_strong : (b b' : Builder) (w : Bool) (k n go step g : Ref) (l : ℕ) → w ≡ false → Makes b b' g (λ κ. and_of go n) → Gives Guarded b b' (record { cond = k; label = l; go = g; step = step }) (λ κ. blocked w k n l go step)
blocked_strong b b' w k n go step g l e h =
    subst (λ (x : Bool). Gives Guarded b b' (record { cond = k; label = l; go = g; step = step }) (λ κ. blocked x k n l go step)) (sym e)
    (map_gives Ref Guarded b b' g (λ y. record { cond = k; label = l; go = y; step = step }) (λ κ β. ((and_of go n β).ref, (and_of go n β).built)) (of_made b b' g (λ κ. and_of go n) h))

pub not_waited : (b : Builder) (a : Bool) (l : ℕ) (k go step : Ref) → a ≡ true → Gives ℕ b b l (λ κ. waited a l k go step)
not_waited b a l k go step e = subst (λ (x : Bool). Gives ℕ b b l (λ κ. waited x l k go step)) (sym e) (gives_same ℕ b l)

pub all_waited : (b0 b1 b2 b3 : Builder) (a : Bool) (l n : ℕ) (k go step x y : Ref) → a ≡ false → Makes b0 b1 x (λ κ. and_of go k) → Makes b1 b2 y (λ κ. and_of x step) → Does b2 b3 (λ κ. enter l y) → n ≡ l + 1
    → Gives ℕ b0 b3 n (λ κ. waited a l k go step)
all_waited b0 b1 b2 b3 a l n k go step x y e h1 h2 h3 f =
    subst (λ (m : ℕ). Gives ℕ b0 b3 m (λ κ. waited a l k go step)) (sym f) (subst (λ (z : Bool). Gives ℕ b0 b3 (l + 1) (λ κ. waited z l k go step)) (sym e)
    (bind_gives Ref ℕ b0 b1 b3 x (l + 1) (λ κ β. ((and_of go k β).ref, (and_of go k β).built)) (λ v κ β. (l + 1, enter l (and_of v step β).ref (and_of v step β).built)) (of_made b0 b1 x (λ κ. and_of go k) h1)
    (bind_gives Ref ℕ b1 b2 b3 y (l + 1) (λ κ β. ((and_of x step β).ref, (and_of x step β).built)) (λ v κ β. (l + 1, enter l v β)) (of_made b1 b2 y (λ κ. and_of x step) h2)
    (done_then_gives ℕ b2 b3 b3 (l + 1) (λ κ. enter l y) (λ κ β. (l + 1, β)) h3 (gives_same ℕ b3 (l + 1))))))

-- ---- preemptions that start

pub immediate_begun : (b0 b1 b2 b3 b4 : Builder) (vs : Vars) (a w : Bool) (c : Expr ℕ) (l v : ℕ) (go step k n : Ref) (g : Guarded)
    → Makes b0 b1 k (λ κ. tested vs κ c go) → Gives ℕ b1 b2 v (λ κ. waited a l k go step) → Makes b2 b3 n (λ κ. not_of k) → Gives Guarded b3 b4 g (λ κ. blocked w k n v go step)
    → Gives Guarded b0 b4 g (λ κ. begun_immediate vs κ a w c l go step)
immediate_begun b0 b1 b2 b3 b4 vs a w c l v go step k n g h1 h2 h3 h4 =
    bind_gives Ref Guarded b0 b1 b4 k g (λ κ β. ((tested vs κ c go β).ref, (tested vs κ c go β).built))
    (λ x κ β. blocked w x (not_of x (waited a l x go step β).1).ref (waited a l x go step β).0 go step (not_of x (waited a l x go step β).1).built) (of_made b0 b1 k (λ κ. tested vs κ c go) h1)
    (bind_gives ℕ Guarded b1 b2 b4 v g (λ κ β. waited a l k go step β) (λ u κ β. blocked w k (not_of k β).ref u go step (not_of k β).built) h2
    (bind_gives Ref Guarded b2 b3 b4 n g (λ κ β. ((not_of k β).ref, (not_of k β).built)) (λ m κ β. blocked w k m v go step β) (of_made b2 b3 n (λ κ. not_of k) h3) h4))

pub delayed_begun : (b : Builder) (vs : Vars) (a w i : Bool) (c : Expr ℕ) (l : ℕ) (go step : Ref) → i ≡ false → Gives Guarded b b (record { cond = zero_ref; label = l; go = go; step = step }) (λ κ. begun_guard vs κ a w i c l go step)
delayed_begun b vs a w i c l go step e =
    subst (λ (x : Bool). Gives Guarded b b (record { cond = zero_ref; label = l; go = go; step = step }) (λ κ. begun_guard vs κ a w x c l go step)) (sym e) (gives_same Guarded b (record { cond = zero_ref; label = l; go = go; step = step }))

pub guard_begun : (b b' : Builder) (vs : Vars) (a w i : Bool) (c : Expr ℕ) (l : ℕ) (go step : Ref) (g : Guarded) → i ≡ true → Gives Guarded b b' g (λ κ. begun_immediate vs κ a w c l go step) → Gives Guarded b b' g (λ κ. begun_guard vs κ a w i c l go step)
guard_begun b b' vs a w i c l go step g e h = subst (λ (x : Bool). Gives Guarded b b' g (λ κ. begun_guard vs κ a w x c l go step)) (sym e) h

pub abort_ended : (b0 b1 b2 : Builder) (n k e h r : Ref) → Makes b0 b1 h (λ κ. and_of n k) → Makes b1 b2 r (λ κ. or_of e h) → Makes b0 b2 r (λ κ. ended_abort n k e)
abort_ended b0 b1 b2 n k e h r h1 h2 = then_made b0 b1 b2 h r (λ κ. and_of n k) (λ x κ. or_of e x) h1 h2

pub strong_ended : (b : Builder) (w : Bool) (k e : Ref) → w ≡ false → Makes b b e (λ κ. ended_suspend w k e)
strong_ended b w k e f = subst (λ (x : Bool). Makes b b e (λ κ. ended_suspend x k e)) (sym f) (kept b e (λ κ. ended_suspend false k e) (λ κ β. refl))

pub weak_ended : (b0 b1 b2 : Builder) (w : Bool) (k e o r : Ref) → w ≡ true → Makes b0 b1 o (λ κ. not_of k) → Makes b1 b2 r (λ κ. and_of e o) → Makes b0 b2 r (λ κ. ended_suspend w k e)
weak_ended b0 b1 b2 w k e o r f h1 h2 = subst (λ (x : Bool). Makes b0 b2 r (λ κ. ended_suspend x k e)) (sym f) (then_made b0 b1 b2 o r (λ κ. not_of k) (λ x κ. and_of e x) h1 h2)

pub immediate_abort_ended : (b b' : Builder) (a w : Bool) (k go e r : Ref) → a ≡ true → Makes b b' r (λ κ. ended_abort go k e) → Makes b b' r (λ κ. ended_immediate a w k go e)
immediate_abort_ended b b' a w k go e r f h = subst (λ (x : Bool). Makes b b' r (λ κ. ended_immediate x w k go e)) (sym f) h

immediate_suspend_is : (b b' : Builder) (w : Bool) (k go e r : Ref) → Makes b b' r (λ κ. ended_suspend w k e) → Makes b b' r (λ κ. ended_immediate false w k go e)
immediate_suspend_is b b' false k go e r h = h
immediate_suspend_is b b' true k go e r h = h

pub immediate_suspend_ended : (b b' : Builder) (a w : Bool) (k go e r : Ref) → a ≡ false → Makes b b' r (λ κ. ended_suspend w k e) → Makes b b' r (λ κ. ended_immediate a w k go e)
immediate_suspend_ended b b' a w k go e r f h = subst (λ (x : Bool). Makes b b' r (λ κ. ended_immediate x w k go e)) (sym f) (immediate_suspend_is b b' w k go e r h)

pub delayed_ended : (b : Builder) (a w i : Bool) (k go e : Ref) → i ≡ false → Makes b b e (λ κ. ended_guard a w i k go e)
delayed_ended b a w i k go e f = subst (λ (x : Bool). Makes b b e (λ κ. ended_guard a w x k go e)) (sym f) (kept b e (λ κ. ended_guard a w false k go e) (λ κ β. refl))

pub guard_ended : (b b' : Builder) (a w i : Bool) (k go e r : Ref) → i ≡ true → Makes b b' r (λ κ. ended_immediate a w k go e) → Makes b b' r (λ κ. ended_guard a w i k go e)
guard_ended b b' a w i k go e r f h = subst (λ (x : Bool). Makes b b' r (λ κ. ended_guard a w x k go e)) (sym f) h

-- ---- preemptions that go on

pub abort_begun : (b0 b1 b2 b3 b4 b5 : Builder) (vs : Vars) (w : Bool) (c : Expr ℕ) (l n : ℕ) (res step i a k o : Ref) (g : Guarded)
    → Makes b0 b1 i (λ κ. in_of l n) → Makes b1 b2 a (λ κ. and_of i res) → Makes b2 b3 k (λ κ. tested vs κ c a) → Makes b3 b4 o (λ κ. not_of k) → Gives Guarded b4 b5 g (λ κ. blocked w k o l res step)
    → Gives Stopped b0 b5 (record { inside = a; body = g }) (λ κ. begun_abort vs κ w c l n res step)
abort_begun b0 b1 b2 b3 b4 b5 vs w c l n res step i a k o g h1 h2 h3 h4 h5 =
    bind_gives Ref Stopped b0 b1 b5 i s (λ κ β. ((in_of l n β).ref, (in_of l n β).built)) (λ x κ β. from_inside κ (and_of x res β).ref (and_of x res β).built) (of_made b0 b1 i (λ κ. in_of l n) h1)
    (bind_gives Ref Stopped b1 b2 b5 a s (λ κ β. ((and_of i res β).ref, (and_of i res β).built)) (λ x κ β. from_inside κ x β) (of_made b1 b2 a (λ κ. and_of i res) h2)
    (bind_gives Ref Stopped b2 b3 b5 k s (λ κ β. ((tested vs κ c a β).ref, (tested vs κ c a β).built)) (λ x κ β. from_cond a x β) (of_made b2 b3 k (λ κ. tested vs κ c a) h3)
    (bind_gives Ref Stopped b3 b4 b5 o s (λ κ β. ((not_of k β).ref, (not_of k β).built)) (λ x κ β. (record { inside = a; body = (blocked w k x l res step β).0 }, (blocked w k x l res step β).1)) (of_made b3 b4 o (λ κ. not_of k) h4)
    (map_gives Guarded Stopped b4 b5 g (λ y. record { inside = a; body = y }) (λ κ β. blocked w k o l res step β) h5))))
  where
    s : Stopped
    s = record { inside = a; body = g }

    from_cond : Ref → Ref → Plain → Stopped × Plain
    from_cond x y β = (record { inside = x; body = (blocked w y (not_of y β).ref l res step (not_of y β).built).0 }, (blocked w y (not_of y β).ref l res step (not_of y β).built).1)

    from_inside : Copies → Ref → Plain → Stopped × Plain
    from_inside κ x β = from_cond x (tested vs κ c x β).ref (tested vs κ c x β).built

-- a suspension's beginning as what is given
abbrev suspension_in : {vs : Vars} → Suspended vs → (Ref × Ref) × Plain
suspension_in h = ((h.cond, h.stay), h.built)

of_suspends : (vs : Vars) (b b' : Builder) (k h : Ref) (f : Copies → Plain → Suspended vs) → Suspends vs b b' k h f → Gives (Ref × Ref) b b' (k, h) (λ κ β. suspension_in (f κ β))
of_suspends vs b b' k h f s = record { over = s.over; made = λ κ front β i. let m = s.made κ front β i in (λ j. (m.0 j, m.1 j), m.2) }

pub suspends : (b0 b1 b2 b3 b4 b5 b6 : Builder) (vs : Vars) (c : Expr ℕ) (l n : ℕ) (res step stay i a k x y h : Ref)
    → Makes b0 b1 i (λ κ. in_of l n) → Makes b1 b2 a (λ κ. and_of i res) → Makes b2 b3 k (λ κ. tested vs κ c a) → Makes b3 b4 x (λ κ. and_of step a) → Makes b4 b5 y (λ κ. and_of x k) → Makes b5 b6 h (λ κ. or_of stay y)
    → Suspends vs b0 b6 k h (λ κ. suspended vs κ l n c res step stay)
unfolding suspended
suspends b0 b1 b2 b3 b4 b5 b6 vs c l n res step stay i a k x y h h1 h2 h3 h4 h5 h6 = record {
  over = all.over;
  made = λ κ front β o. let m = all.made κ front β o in (ap (λ (p : Ref × Ref). p.0) m.0, ap (λ (p : Ref × Ref). p.1) m.0, m.1);
}
  where
    from_moves : Ref → Ref → Plain → (Ref × Ref) × Plain
    from_moves z u β = ((z, (or_of stay (and_of u z β).ref (and_of u z β).built).ref), (or_of stay (and_of u z β).ref (and_of u z β).built).built)

    from_cond : Ref → Ref → Plain → (Ref × Ref) × Plain
    from_cond u z β = from_moves z (and_of step u β).ref (and_of step u β).built

    from_inside : Copies → Ref → Plain → (Ref × Ref) × Plain
    from_inside κ u β = from_cond u (tested vs κ c u β).ref (tested vs κ c u β).built

    all : Gives (Ref × Ref) b0 b6 (k, h) (λ κ β. from_inside κ (and_of (in_of l n β).ref res (in_of l n β).built).ref (and_of (in_of l n β).ref res (in_of l n β).built).built)
    all =
        bind_gives Ref (Ref × Ref) b0 b1 b6 i (k, h) (λ κ β. ((in_of l n β).ref, (in_of l n β).built)) (λ u κ β. from_inside κ (and_of u res β).ref (and_of u res β).built) (of_made b0 b1 i (λ κ. in_of l n) h1)
        (bind_gives Ref (Ref × Ref) b1 b2 b6 a (k, h) (λ κ β. ((and_of i res β).ref, (and_of i res β).built)) (λ u κ β. from_inside κ u β) (of_made b1 b2 a (λ κ. and_of i res) h2)
        (bind_gives Ref (Ref × Ref) b2 b3 b6 k (k, h) (λ κ β. ((tested vs κ c a β).ref, (tested vs κ c a β).built)) (λ u κ β. from_cond a u β) (of_made b2 b3 k (λ κ. tested vs κ c a) h3)
        (bind_gives Ref (Ref × Ref) b3 b4 b6 x (k, h) (λ κ β. ((and_of step a β).ref, (and_of step a β).built)) (λ u κ β. from_moves k u β) (of_made b3 b4 x (λ κ. and_of step a) h4)
        (bind_gives Ref (Ref × Ref) b4 b5 b6 y (k, h) (λ κ β. ((and_of x k β).ref, (and_of x k β).built)) (λ u κ β. ((k, (or_of stay u β).ref), (or_of stay u β).built)) (of_made b4 b5 y (λ κ. and_of x k) h5)
        (map_gives Ref (Ref × Ref) b5 b6 h (λ u. (k, u)) (λ κ β. ((or_of stay y β).ref, (or_of stay y β).built)) (of_made b5 b6 h (λ κ. or_of stay y) h6))))))

pub suspend_begun : (b0 b1 b2 b3 : Builder) (vs : Vars) (w : Bool) (c : Expr ℕ) (l n : ℕ) (res step stay k h o : Ref) (g : Guarded)
    → Suspends vs b0 b1 k h (λ κ. suspended vs κ l n c res step stay) → Makes b1 b2 o (λ κ. not_of k) → Gives Guarded b2 b3 g (λ κ. blocked w k o l res step)
    → Gives Suspension b0 b3 (record { stay = h; body = g }) (λ κ. begun_suspend vs κ w c l n res step stay)
suspend_begun b0 b1 b2 b3 vs w c l n res step stay k h o g h1 h2 h3 =
    bind_gives (Ref × Ref) Suspension b0 b1 b3 (k, h) (record { stay = h; body = g }) (λ κ β. suspension_in (suspended vs κ l n c res step stay β))
    (λ p κ β. (record { stay = p.1; body = (blocked w p.0 (not_of p.0 β).ref l res step (not_of p.0 β).built).0 }, (blocked w p.0 (not_of p.0 β).ref l res step (not_of p.0 β).built).1))
    (of_suspends vs b0 b1 k h (λ κ. suspended vs κ l n c res step stay) h1)
    (bind_gives Ref Suspension b1 b2 b3 o (record { stay = h; body = g }) (λ κ β. ((not_of k β).ref, (not_of k β).built)) (λ x κ β. (record { stay = h; body = (blocked w k x l res step β).0 }, (blocked w k x l res step β).1)) (of_made b1 b2 o (λ κ. not_of k) h2)
    (map_gives Guarded Suspension b2 b3 g (λ y. record { stay = h; body = y }) (λ κ β. blocked w k o l res step β) h3))

pub body_woken : (b0 b1 b2 : Builder) (l : ℕ) (go stay r : Ref) → Does b0 b1 (λ κ. stay_at l stay) → Makes b1 b2 r (λ κ. and_of (ref.Reg l) go) → Makes b0 b2 r (λ κ. woken l go stay)
body_woken b0 b1 b2 l go stay r h1 h2 = done_then_made b0 b1 b2 r (λ κ. stay_at l stay) (λ κ. and_of (ref.Reg l) go) h1 h2
