-- The depth of each form of statement.
use Rattle.std.proofs.Common.{◌≡◌, ◌∙◌, ◌≢◌, ℕ, zero, suc, ◌+◌, List, [], ◌∷◌, refl, sym, ap, subst, Bool, true, false, Option}
use Rattle.quartz_tree.specs.declared.place.Place.{Place}
use Rattle.quartz_tree.specs.declared.stmt.Stmt.{Stmt}
use Rattle.quartz_tree.specs.Tree.{Tree as Expr}
use Rattle.quartz_tree.specs.Kernel.{Kernel, kernel}
use Rattle.quartz_expr.specs.Vars.{Vars}
use Rattle.quartz_expr.specs.Terms.{Term, Terms, nothing, pause, write, choose, seq, par, loop, abort, suspend, term_of}
use Rattle.aif_cells.specs.declared.reference.Ref.{Ref}
use Rattle.aif_cells.specs.declared.reference.Ref.TheVariants as ref
use Rattle.quartz_names.specs.Unscoped.{unscoped}
use Rattle.statement_cells.specs.Labels.{labels, registers}
use Rattle.statement_cells.specs.Expressions.{Copies}
use Rattle.statement_cells.specs.Builder.{Builder as Plain, Made, and_of, given, or_of, stay_at, zero_ref}
use Rattle.statement_cells.specs.Surface.{depth, if_labels, resume, resume_each, resume_in_turn, surface, tested}
use Rattle.statement_builder.specs.declared.builder.Builder.{Builder}
use Rattle.statement_builder.specs.declared.guarding.Side.{Side}
use Rattle.statement_builder.specs.declared.guarding.Stopped.{Stopped}
use Rattle.statement_builder.specs.declared.guarding.Suspension.{Suspension}
use Rattle.statement_builder.specs.declared.scoping.Scope.{Scope}
use Rattle.statement_builder.specs.Built.{Does, Gives, Makes, MakesAll}
use Rattle.statement_builder.specs.Guards.{begun_abort, begun_suspend, ended_abort, ended_suspend, other_side, woken}
use Rattle.statement_builder.specs.Joins.{joined}
use Rattle.statement_builder.specs.Resumes.{paused_on, repeats, woken_body}
use Rattle.statement_builder.specs.Scopes.{EndsAll, OpensAll}
use Rattle.statement_builder.proofs.ChainLemmas.{labels_unscoped}
use Rattle.statement_builder.proofs.EndLemmas.{whole_made}
use Rattle.statement_builder.proofs.JoinLemmas.{terms}
use Rattle.statement_builder.proofs.StartLemmas.{all_then_made}
use Rattle.statement_builder.proofs.StepLemmas.{bind_gives, done_then_made, gives_then_made, kept, made_as, map_gives, of_made, then_made}

pub pause_made : (b0 b1 b2 : Builder) (l : ℕ) (res stay r : Ref) → Does b0 b1 (λ κ. stay_at l stay) → Makes b1 b2 r (λ κ. and_of (ref.Reg l) res) → Makes b0 b2 r (λ κ. paused_on l res stay)
pause_made b0 b1 b2 l res stay r h1 h2 = done_then_made b0 b1 b2 r (λ κ. stay_at l stay) (λ κ. and_of (ref.Reg l) res) h1 h2

pub repeat_given : (b0 b1 b2 : Builder) (vs : Vars) (c : Expr ℕ) (e k g : Ref) → Makes b0 b1 k (λ κ. tested vs κ c e) → Makes b1 b2 g (λ κ. and_of e k) → Gives Side b0 b2 (record { cond = k; go = g }) (λ κ. repeats vs κ c e)
repeat_given b0 b1 b2 vs c e k g h1 h2 =
    bind_gives Ref Side b0 b1 b2 k (record { cond = k; go = g }) (λ κ β. ((tested vs κ c e β).ref, (tested vs κ c e β).built)) (λ x κ β. (record { cond = x; go = (and_of e x β).ref }, (and_of e x β).built))
    (of_made b0 b1 k (λ κ. tested vs κ c e) h1) (map_gives Ref Side b1 b2 g (λ y. record { cond = k; go = y }) (λ κ β. ((and_of e k β).ref, (and_of e k β).built)) (of_made b1 b2 g (λ κ. and_of e k) h2))

pub body_started : (b0 b1 b2 : Builder) (vs : Vars) (l v w : ℕ) (t : Term) (go step stay g r : Ref) → Makes b0 b1 g (λ κ. woken w go stay) → Makes b1 b2 r (λ κ. surface vs κ l v t g step) → Makes b0 b2 r (λ κ. woken_body vs κ l v t w go step stay)
body_started b0 b1 b2 vs l v w t go step stay g r h1 h2 = then_made b0 b1 b2 g r (λ κ. woken w go stay) (λ x κ. surface vs κ l v t x step) h1 h2

-- a statement by another name
resume_as : (vs : Vars) (b b' : Builder) (l v : ℕ) (t u : Term) (res step stay r : Ref) → t ≡ u → Makes b b' r (λ κ. resume vs κ l v u res step stay) → Makes b b' r (λ κ. resume vs κ l v t res step stay)
resume_as vs b b' l v t u res step stay r e h = subst (λ (x : Term). Makes b b' r (λ κ. resume vs κ l v x res step stay)) (sym e) h

pub nothing_resumed : (vs : Vars) (b : Builder) (l v : ℕ) (t : Term) (res step stay : Ref) → t ≡ nothing → Makes b b zero_ref (λ κ. resume vs κ l v t res step stay)
unfolding resume
nothing_resumed vs b l v t res step stay e = resume_as vs b b l v t nothing res step stay zero_ref e (kept b zero_ref (λ κ. resume vs κ l v nothing res step stay) (λ κ β. refl))

pub pause_resumed : (vs : Vars) (b b' : Builder) (l v : ℕ) (t : Term) (res step stay r : Ref) → t ≡ pause → Makes b b' r (λ κ. paused_on l res stay) → Makes b b' r (λ κ. resume vs κ l v t res step stay)
unfolding resume
pause_resumed vs b b' l v t res step stay r e h = resume_as vs b b' l v t pause res step stay r e (made_as b b' r (λ κ. paused_on l res stay) (λ κ. resume vs κ l v pause res step stay) (λ κ β. refl) h)

pub write_resumed : (vs : Vars) (b : Builder) (l v x : ℕ) (i : Option (Expr ℕ)) (e : Expr ℕ) (d : Bool) (p q : Place) (t : Term) (res step stay : Ref) → t ≡ write x i e d p q → Makes b b zero_ref (λ κ. resume vs κ l v t res step stay)
unfolding resume
write_resumed vs b l v x i e d p q t res step stay f = resume_as vs b b l v t (write x i e d p q) res step stay zero_ref f (kept b zero_ref (λ κ. resume vs κ l v (write x i e d p q) res step stay) (λ κ β. refl))

pub choose_resumed : (vs : Vars) (b0 b1 b2 b3 : Builder) (l v m n : ℕ) (c : Expr ℕ) (x y t : Term) (res step stay xe ye r : Ref) → t ≡ choose c x y → m ≡ l + labels x → n ≡ v + registers vs x
    → Makes b0 b1 xe (λ κ. depth vs κ l v x res step stay) → Makes b1 b2 ye (λ κ. depth vs κ m n y res step stay) → Makes b2 b3 r (λ κ. or_of xe ye) → Makes b0 b3 r (λ κ. resume vs κ l v t res step stay)
unfolding resume
choose_resumed vs b0 b1 b2 b3 l v m n c x y t res step stay xe ye r e f g h1 h2 h3 =
    resume_as vs b0 b3 l v t (choose c x y) res step stay r e (made_as b0 b3 r (λ κ β. from (depth vs κ l v x res step stay β).ref κ (depth vs κ l v x res step stay β).built) (λ κ. resume vs κ l v (choose c x y) res step stay) (λ κ β. refl)
    (then_made b0 b1 b3 xe r (λ κ. depth vs κ l v x res step stay) from h1
    (then_made b1 b2 b3 ye r (λ κ. depth vs κ (l + labels x) (v + registers vs x) y res step stay) (λ w κ. or_of xe w) second h3)))
  where
    from : Ref → Copies → Plain → Made
    from w κ β = or_of w (depth vs κ (l + labels x) (v + registers vs x) y res step stay β).ref (depth vs κ (l + labels x) (v + registers vs x) y res step stay β).built

    second : Makes b1 b2 ye (λ κ. depth vs κ (l + labels x) (v + registers vs x) y res step stay)
    second = subst (λ (k : ℕ). Makes b1 b2 ye (λ κ. depth vs κ k (v + registers vs x) y res step stay)) f (subst (λ (k : ℕ). Makes b1 b2 ye (λ κ. depth vs κ m k y res step stay)) g h2)

pub seq_resumed : (vs : Vars) (b b' : Builder) (l v : ℕ) (ts : Terms) (t : Term) (res step stay r : Ref) → t ≡ seq ts → Makes b b' r (λ κ. resume_in_turn vs κ l v ts zero_ref res step stay) → Makes b b' r (λ κ. resume vs κ l v t res step stay)
unfolding resume
seq_resumed vs b b' l v ts t res step stay r e h =
    resume_as vs b b' l v t (seq ts) res step stay r e (made_as b b' r (λ κ. resume_in_turn vs κ l v ts zero_ref res step stay) (λ κ. resume vs κ l v (seq ts) res step stay) (λ κ β. refl) h)

pub par_resumed : (vs : Vars) (b0 b1 b2 : Builder) (l v : ℕ) (ts : Terms) (t : Term) (res step stay r : Ref) (rs us : List Ref) → t ≡ par ts → us ≡ rs → MakesAll b0 b1 rs (λ κ. resume_each vs κ l v ts res step stay) → Makes b1 b2 r (λ κ. joined vs l ts us res)
    → Makes b0 b2 r (λ κ. resume vs κ l v t res step stay)
unfolding resume
par_resumed vs b0 b1 b2 l v ts t res step stay r rs us e f h k =
    resume_as vs b0 b2 l v t (par ts) res step stay r e
    (made_as b0 b2 r (λ κ β. joined vs l ts (resume_each vs κ l v ts res step stay β).refs res (resume_each vs κ l v ts res step stay β).built) (λ κ. resume vs κ l v (par ts) res step stay) (λ κ β. refl)
    (all_then_made b0 b1 b2 rs r (λ κ. resume_each vs κ l v ts res step stay) (λ xs κ. joined vs l ts xs res) h (subst (λ (xs : List Ref). Makes b1 b2 r (λ κ. joined vs l ts xs res)) f k)))

pub loop_resumed : (vs : Vars) (b0 b1 b2 b3 b4 : Builder) (l v : ℕ) (x t : Term) (c : Expr ℕ) (res step stay e a r : Ref) (s : Side) → t ≡ loop x c
    → Makes b0 b1 e (λ κ. depth vs κ l v x res step stay) → Gives Side b1 b2 s (λ κ. repeats vs κ c e) → Makes b2 b3 a (λ κ. surface vs κ l v x s.go step) → Makes b3 b4 r (λ κ. other_side s.cond e)
    → Makes b0 b4 r (λ κ. resume vs κ l v t res step stay)
unfolding resume
loop_resumed vs b0 b1 b2 b3 b4 l v x t c res step stay e a r s f h1 h2 h3 h4 =
    resume_as vs b0 b4 l v t (loop x c) res step stay r f (made_as b0 b4 r (λ κ β. from (depth vs κ l v x res step stay β).ref κ (depth vs κ l v x res step stay β).built) (λ κ. resume vs κ l v (loop x c) res step stay) (λ κ β. refl)
    (then_made b0 b1 b4 e r (λ κ. depth vs κ l v x res step stay) from h1
    (gives_then_made Side b1 b2 b4 s r (λ κ. repeats vs κ c e) (from_side e) h2
    (then_made b2 b3 b4 a r (λ κ. surface vs κ l v x s.go step) (λ w κ. other_side s.cond e) h3 h4))))
  where
    from_side : Ref → Side → Copies → Plain → Made
    from_side w u κ β = other_side u.cond w (surface vs κ l v x u.go step β).built

    from : Ref → Copies → Plain → Made
    from w κ β = from_side w (repeats vs κ c w β).0 κ (repeats vs κ c w β).1

-- ---- preemptions

abort_resume : (vs : Vars) (κ : Copies) (w i : Bool) (l v : ℕ) (x : Term) (c : Expr ℕ) (res step stay : Ref) (β : Plain)
    → (let s = begun_abort vs κ w c l (labels x) res step β in let d = depth vs κ l v x s.0.body.go s.0.body.step stay s.1 in ended_abort s.0.inside s.0.body.cond d.ref d.built) ≡ resume vs κ l v (abort w i x c) res step stay β
unfolding resume
abort_resume vs κ true true l v x c res step stay β = refl
abort_resume vs κ true false l v x c res step stay β = refl
abort_resume vs κ false true l v x c res step stay β = refl
abort_resume vs κ false false l v x c res step stay β = refl

pub abort_resumed : (vs : Vars) (b0 b1 b2 b3 : Builder) (w i : Bool) (l v n : ℕ) (x t : Term) (c : Expr ℕ) (res step stay : Ref) (s : Stopped) (e r : Ref) → t ≡ abort w i x c → n ≡ labels t
    → Gives Stopped b0 b1 s (λ κ. begun_abort vs κ w c l n res step) → Makes b1 b2 e (λ κ. depth vs κ l v x s.body.go s.body.step stay) → Makes b2 b3 r (λ κ. ended_abort s.inside s.body.cond e)
    → Makes b0 b3 r (λ κ. resume vs κ l v t res step stay)
abort_resumed vs b0 b1 b2 b3 w i l v n x t c res step stay s e r f z h1 h2 h3 =
    resume_as vs b0 b3 l v t (abort w i x c) res step stay r f (made_as b0 b3 r (λ κ β. from (begun_abort vs κ w c l (labels x) res step β).0 κ (begun_abort vs κ w c l (labels x) res step β).1) (λ κ. resume vs κ l v (abort w i x c) res step stay)
    (λ κ β. abort_resume vs κ w i l v x c res step stay β)
    (gives_then_made Stopped b0 b1 b3 s r (λ κ. begun_abort vs κ w c l (labels x) res step) from (subst (λ (k : ℕ). Gives Stopped b0 b1 s (λ κ. begun_abort vs κ w c l k res step)) (z ∙ ap labels f) h1)
    (then_made b1 b2 b3 e r (λ κ. depth vs κ l v x s.body.go s.body.step stay) (λ y κ. ended_abort s.inside s.body.cond y) h2 h3)))
  where
    from : Stopped → Copies → Plain → Made
    from u κ β = ended_abort u.inside u.body.cond (depth vs κ l v x u.body.go u.body.step stay β).ref (depth vs κ l v x u.body.go u.body.step stay β).built

delayed_resume : (vs : Vars) (κ : Copies) (w : Bool) (l v : ℕ) (x : Term) (c : Expr ℕ) (res step stay : Ref) (β : Plain)
    → (let s = begun_suspend vs κ w c l (labels x) res step stay β in let d = depth vs κ l v x s.0.body.go s.0.body.step s.0.stay s.1 in ended_suspend w s.0.body.cond d.ref d.built) ≡ resume vs κ l v (suspend w false x c) res step stay β
unfolding resume
delayed_resume vs κ true l v x c res step stay β = refl
delayed_resume vs κ false l v x c res step stay β = refl

pub delayed_resumed : (vs : Vars) (b0 b1 b2 b3 : Builder) (w : Bool) (l v n : ℕ) (x t : Term) (c : Expr ℕ) (res step stay : Ref) (s : Suspension) (e r : Ref) → t ≡ suspend w false x c → n ≡ labels t
    → Gives Suspension b0 b1 s (λ κ. begun_suspend vs κ w c l n res step stay) → Makes b1 b2 e (λ κ. depth vs κ l v x s.body.go s.body.step s.stay) → Makes b2 b3 r (λ κ. ended_suspend w s.body.cond e)
    → Makes b0 b3 r (λ κ. resume vs κ l v t res step stay)
delayed_resumed vs b0 b1 b2 b3 w l v n x t c res step stay s e r f z h1 h2 h3 =
    resume_as vs b0 b3 l v t (suspend w false x c) res step stay r f (made_as b0 b3 r (λ κ β. from (begun_suspend vs κ w c l (labels x) res step stay β).0 κ (begun_suspend vs κ w c l (labels x) res step stay β).1) (λ κ. resume vs κ l v (suspend w false x c) res step stay)
    (λ κ β. delayed_resume vs κ w l v x c res step stay β)
    (gives_then_made Suspension b0 b1 b3 s r (λ κ. begun_suspend vs κ w c l (labels x) res step stay) from (subst (λ (k : ℕ). Gives Suspension b0 b1 s (λ κ. begun_suspend vs κ w c l k res step stay)) (z ∙ ap labels f) h1)
    (then_made b1 b2 b3 e r (λ κ. depth vs κ l v x s.body.go s.body.step s.stay) (λ y κ. ended_suspend w s.body.cond y) h2 h3)))
  where
    from : Suspension → Copies → Plain → Made
    from u κ β = ended_suspend w u.body.cond (depth vs κ l v x u.body.go u.body.step u.stay β).ref (depth vs κ l v x u.body.go u.body.step u.stay β).built

abbrev immediate_end : Vars → Copies → (weak : Bool) → (l v : ℕ) → Term → Suspension → Plain → Made
immediate_end vs κ w l v x u β =
    let a = woken_body vs κ (l + 1) v x l u.body.go u.body.step u.stay β in
    let d = depth vs κ (l + 1) v x u.body.go u.body.step u.stay a.built in
    let o = or_of a.ref d.ref d.built in
    ended_suspend w u.body.cond o.ref o.built

immediate_resume : (vs : Vars) (κ : Copies) (w : Bool) (l v : ℕ) (x : Term) (c : Expr ℕ) (res step stay : Ref) (β : Plain)
    → (let s = begun_suspend vs κ w c l (suc (labels x)) res step stay β in immediate_end vs κ w l v x s.0 s.1) ≡ resume vs κ l v (suspend w true x c) res step stay β
unfolding resume
immediate_resume vs κ true l v x c res step stay β = refl
immediate_resume vs κ false l v x c res step stay β = refl

label_kept : (vs : Vars) (κ : Copies) (w : Bool) (c : Expr ℕ) (l n : ℕ) (res step stay : Ref) (β : Plain) → (begun_suspend vs κ w c l n res step stay β).0.body.label ≡ l
label_kept vs κ true c l n res step stay β = refl
label_kept vs κ false c l n res step stay β = refl

pub immediate_resumed : (vs : Vars) (b0 b1 b2 b3 b4 b5 : Builder) (w : Bool) (l v n m : ℕ) (x t : Term) (c : Expr ℕ) (res step stay : Ref) (s : Suspension) (a e o r : Ref) → t ≡ suspend w true x c → n ≡ labels t → m ≡ l + 1
    → Gives Suspension b0 b1 s (λ κ. begun_suspend vs κ w c l n res step stay) → Makes b1 b2 a (λ κ. woken_body vs κ m v x s.body.label s.body.go s.body.step s.stay) → Makes b2 b3 e (λ κ. depth vs κ m v x s.body.go s.body.step s.stay)
    → Makes b3 b4 o (λ κ. or_of a e) → Makes b4 b5 r (λ κ. ended_suspend w s.body.cond o) → Makes b0 b5 r (λ κ. resume vs κ l v t res step stay)
immediate_resumed vs b0 b1 b2 b3 b4 b5 w l v n m x t c res step stay s a e o r f z y h1 h2 h3 h4 h5 =
    resume_as vs b0 b5 l v t (suspend w true x c) res step stay r f (made_as b0 b5 r (λ κ β. at_label (begun_suspend vs κ w c l (suc (labels x)) res step stay β).0 κ (begun_suspend vs κ w c l (suc (labels x)) res step stay β).1)
    (λ κ. resume vs κ l v (suspend w true x c) res step stay) (λ κ β. same κ β ∙ immediate_resume vs κ w l v x c res step stay β)
    (gives_then_made Suspension b0 b1 b5 s r (λ κ. begun_suspend vs κ w c l (suc (labels x)) res step stay) at_label (subst (λ (k : ℕ). Gives Suspension b0 b1 s (λ κ. begun_suspend vs κ w c l k res step stay)) (z ∙ ap labels f) h1)
    (then_made b1 b2 b5 a r (λ κ. woken_body vs κ (l + 1) v x s.body.label s.body.go s.body.step s.stay) (from_woken s) (subst (λ (k : ℕ). Makes b1 b2 a (λ κ. woken_body vs κ k v x s.body.label s.body.go s.body.step s.stay)) y h2)
    (then_made b2 b3 b5 e r (λ κ. depth vs κ (l + 1) v x s.body.go s.body.step s.stay) (λ d κ β. ended_suspend w s.body.cond (or_of a d β).ref (or_of a d β).built)
    (subst (λ (k : ℕ). Makes b2 b3 e (λ κ. depth vs κ k v x s.body.go s.body.step s.stay)) y h3)
    (then_made b3 b4 b5 o r (λ κ. or_of a e) (λ d κ. ended_suspend w s.body.cond d) h4 h5)))))
  where
    from_woken : Suspension → Ref → Copies → Plain → Made
    from_woken u d κ β =
        ended_suspend w u.body.cond (or_of d (depth vs κ (l + 1) v x u.body.go u.body.step u.stay β).ref (depth vs κ (l + 1) v x u.body.go u.body.step u.stay β).built).ref
        (or_of d (depth vs κ (l + 1) v x u.body.go u.body.step u.stay β).ref (depth vs κ (l + 1) v x u.body.go u.body.step u.stay β).built).built

    from_label : ℕ → Suspension → Copies → Plain → Made
    from_label k u κ β = from_woken u (woken_body vs κ (l + 1) v x k u.body.go u.body.step u.stay β).ref κ (woken_body vs κ (l + 1) v x k u.body.go u.body.step u.stay β).built

    at_label : Suspension → Copies → Plain → Made
    at_label u = from_label u.body.label u

    same : (κ : Copies) (β : Plain) → at_label (begun_suspend vs κ w c l (suc (labels x)) res step stay β).0 κ (begun_suspend vs κ w c l (suc (labels x)) res step stay β).1
        ≡ immediate_end vs κ w l v x (begun_suspend vs κ w c l (suc (labels x)) res step stay β).0 (begun_suspend vs κ w c l (suc (labels x)) res step stay β).1
    same κ β = ap (λ (k : ℕ). from_label k (begun_suspend vs κ w c l (suc (labels x)) res step stay β).0 κ (begun_suspend vs κ w c l (suc (labels x)) res step stay β).1) (label_kept vs κ w c l (suc (labels x)) res step stay β)

-- ---- parts

pub turn_resumed_more : (vs : Vars) (b0 b1 b2 b3 b : Builder) (l v m n : ℕ) (ss us : List Stmt) (s : Stmt) (before res step stay a d e r : Ref) → us ≡ s ∷ ss → m ≡ l + labels (term_of (kernel s)) → n ≡ v + registers vs (term_of (kernel s))
    → Makes b0 b1 a (λ κ. surface vs κ l v (term_of (kernel s)) before step) → Makes b1 b2 d (λ κ. depth vs κ l v (term_of (kernel s)) res step stay) → Makes b2 b3 e (λ κ. or_of a d)
    → Makes b3 b r (λ κ. resume_in_turn vs κ m n (terms ss) e res step stay) → Makes b0 b r (λ κ. resume_in_turn vs κ l v (terms us) before res step stay)
unfolding resume_in_turn
turn_resumed_more vs b0 b1 b2 b3 b l v m n ss us s before res step stay a d e r f g h k1 k2 k3 k4 =
    subst (λ (xs : List Stmt). Makes b0 b r (λ κ. resume_in_turn vs κ l v (terms xs) before res step stay)) (sym f)
    (then_made b0 b1 b a r (λ κ. surface vs κ l v (term_of (kernel s)) before step) (λ y κ β. from y (depth vs κ l v (term_of (kernel s)) res step stay β).ref κ (depth vs κ l v (term_of (kernel s)) res step stay β).built) k1
    (then_made b1 b2 b d r (λ κ. depth vs κ l v (term_of (kernel s)) res step stay) (λ y κ β. from a y κ β) k2
    (then_made b2 b3 b e r (λ κ. or_of a d) (λ y κ. resume_in_turn vs κ (l + labels (term_of (kernel s))) (v + registers vs (term_of (kernel s))) (terms ss) y res step stay) k3
    (subst (λ (k : ℕ). Makes b3 b r (λ κ. resume_in_turn vs κ k (v + registers vs (term_of (kernel s))) (terms ss) e res step stay)) g (subst (λ (k : ℕ). Makes b3 b r (λ κ. resume_in_turn vs κ m k (terms ss) e res step stay)) h k4)))))
  where
    from : Ref → Ref → Copies → Plain → Made
    from x y κ β = resume_in_turn vs κ (l + labels (term_of (kernel s))) (v + registers vs (term_of (kernel s))) (terms ss) (or_of x y β).ref res step stay (or_of x y β).built

pub turn_resumed_none : (vs : Vars) (b : Builder) (l v : ℕ) (ss : List Stmt) (before res step stay : Ref) → ss ≡ [] → Makes b b before (λ κ. resume_in_turn vs κ l v (terms ss) before res step stay)
unfolding resume_in_turn
turn_resumed_none vs b l v ss before res step stay e =
    subst (λ (xs : List Stmt). Makes b b before (λ κ. resume_in_turn vs κ l v (terms xs) before res step stay)) (sym e) (kept b before (λ κ. resume_in_turn vs κ l v (terms []) before res step stay) (λ κ β. refl))

pub each_resumed_more : (vs : Vars) (b0 b1 b : Builder) (l v m n : ℕ) (ss us : List Stmt) (s : Stmt) (res step stay e : Ref) (rs : List Ref) → us ≡ s ∷ ss → m ≡ l + labels (term_of (kernel s)) → n ≡ v + registers vs (term_of (kernel s))
    → Makes b0 b1 e (λ κ. depth vs κ l v (term_of (kernel s)) res step stay) → MakesAll b1 b rs (λ κ. resume_each vs κ m n (terms ss) res step stay) → MakesAll b0 b (e ∷ rs) (λ κ. resume_each vs κ l v (terms us) res step stay)
unfolding resume_each
each_resumed_more vs b0 b1 b l v m n ss us s res step stay e rs f g h k1 k2 =
    subst (λ (xs : List Stmt). MakesAll b0 b (e ∷ rs) (λ κ. resume_each vs κ l v (terms xs) res step stay)) (sym f) (record {
      over = λ qs o. k2.over qs (k1.over qs o);
      made = λ κ front β i.
          let rest : MakesAll b1 b rs (λ κ. resume_each vs κ (l + labels (term_of (kernel s))) (v + registers vs (term_of (kernel s))) (terms ss) res step stay) =
          subst (λ (k : ℕ). MakesAll b1 b rs (λ κ. resume_each vs κ k (v + registers vs (term_of (kernel s))) (terms ss) res step stay)) g (subst (λ (k : ℕ). MakesAll b1 b rs (λ κ. resume_each vs κ m k (terms ss) res step stay)) h k2) in
          let p = k1.made κ front β i in
          let q = rest.made κ front (depth vs κ l v (term_of (kernel s)) res step stay β).built p.1 in
          (λ j. p.0 j ∷ q.0 j, q.1);
    })

pub each_resumed_none : (vs : Vars) (b : Builder) (l v : ℕ) (ss : List Stmt) (res step stay : Ref) → ss ≡ [] → MakesAll b b [] (λ κ. resume_each vs κ l v (terms ss) res step stay)
unfolding resume_each
each_resumed_none vs b l v ss res step stay e = subst (λ (xs : List Stmt). MakesAll b b [] (λ κ. resume_each vs κ l v (terms xs) res step stay)) (sym e) (record { over = λ qs o. o; made = λ κ front β o. (refl, o) })

-- ---- the whole depth

none_labels : (n : ℕ) (β : Plain) (m : Made) → n ≡ 0 → if_labels n β m ≡ given zero_ref β
none_labels zero β m e = refl
none_labels (suc n) β m e = cc

some_labels : (n : ℕ) (β : Plain) (m : Made) → n ≢ 0 → if_labels n β m ≡ m
some_labels zero β m e = absurd (e refl)
some_labels (suc n) β m e = refl

pub no_depth : (vs : Vars) (b : Builder) (l v n : ℕ) (t : Term) (res step stay : Ref) → n ≡ labels t → n ≡ 0 → Makes b b zero_ref (λ κ. depth vs κ l v t res step stay)
no_depth vs b l v n t res step stay e z = kept b zero_ref (λ κ. depth vs κ l v t res step stay) (λ κ β. none_labels (labels t) β (resume vs κ l v t res step stay β) (sym e ∙ z))

pub depth_alone : (vs : Vars) (b b' : Builder) (l v n : ℕ) (t : Term) (res step stay r : Ref) → n ≡ labels t → n ≢ 0 → Makes b b' r (λ κ. resume vs κ l v t res step stay) → Makes b b' r (λ κ. depth vs κ l v t res step stay)
depth_alone vs b b' l v n t res step stay r e z h =
    made_as b b' r (λ κ. resume vs κ l v t res step stay) (λ κ. depth vs κ l v t res step stay) (λ κ β. sym (some_labels (labels t) β (resume vs κ l v t res step stay β) (λ i. z (e ∙ i)))) h

pub depth_scoped : (vs : Vars) (b0 b1 b2 b3 : Builder) (l v register n : ℕ) (k j : Kernel) (os : List Scope) (res step stay r : Ref) → n ≢ 0 → n ≡ labels (term_of k) → j ≡ unscoped k
    → OpensAll vs b0 true n v (term_of k) os register (term_of (unscoped k)) b1 → Makes b1 b2 r (λ κ. resume vs κ l register (term_of j) res step stay)
    → EndsAll vs b2 true n os r (λ s. depth vs s.copies l s.register s.term res step stay s.built) b3 → Makes b0 b3 r (λ κ. depth vs κ l v (term_of k) res step stay)
depth_scoped vs b0 b1 b2 b3 l v register n k j os res step stay r z e f h1 h2 h3 =
    whole_made vs b0 b1 b2 b3 true n v register (term_of k) (term_of (unscoped k)) os r (λ κ w t β. depth vs κ l w t res step stay β) (λ κ β. resume vs κ l register (term_of (unscoped k)) res step stay β)
    h1 (subst (λ (i : Kernel). Makes b1 b2 r (λ κ. resume vs κ l register (term_of i) res step stay)) f h2) h3 (e ∙ sym (labels_unscoped k))
    (λ κ β. sym (some_labels (labels (term_of (unscoped k))) β (resume vs κ l register (term_of (unscoped k)) res step stay β) (λ i. z (e ∙ (sym (labels_unscoped k) ∙ i)))))
