-- The surface of each form of statement.
use Rattle.std.proofs.Common.{◌≡◌, ◌∙◌, ℕ, ◌+◌, List, [], ◌∷◌, refl, sym, subst, Bool, true, false, Option}
use Rattle.quartz_tree.specs.declared.place.Place.{Place}
use Rattle.quartz_tree.specs.declared.stmt.Stmt.{Stmt}
use Rattle.quartz_tree.specs.Tree.{Tree as Expr}
use Rattle.quartz_tree.specs.Kernel.{Kernel, kernel}
use Rattle.quartz_expr.specs.Vars.{Vars}
use Rattle.quartz_expr.specs.Terms.{Term, Terms, nothing, pause, write, choose, seq, par, loop, guard_of, term_of}
use Rattle.aif_cells.specs.declared.reference.Ref.{Ref}
use Rattle.quartz_names.specs.Unscoped.{unscoped}
use Rattle.statement_cells.specs.Labels.{labels, registers}
use Rattle.statement_cells.specs.Expressions.{Copies}
use Rattle.statement_cells.specs.Builder.{Builder as Plain, Made, given, or_of, zero_ref}
use Rattle.statement_cells.specs.Surface.{MadeAll, and_all, start, start_each, start_in_turn, surface, written}
use Rattle.statement_builder.specs.declared.builder.Builder.{Builder}
use Rattle.statement_builder.specs.declared.guarding.Guarded.{Guarded}
use Rattle.statement_builder.specs.declared.guarding.Side.{Side}
use Rattle.statement_builder.specs.declared.scoping.Scope.{Scope}
use Rattle.statement_builder.specs.Built.{Does, Gives, IsBuilt, Makes, MakesAll}
use Rattle.statement_builder.specs.Guards.{begun_guard, ended_guard, first_side, other_side}
use Rattle.statement_builder.specs.Scopes.{EndsAll, OpensAll}
use Rattle.statement_builder.specs.Shorts.{is_zero}
use Rattle.statement_builder.specs.Starts.{paused}
use Rattle.statement_builder.proofs.ChainLemmas.{labels_unscoped}
use Rattle.statement_builder.proofs.EndLemmas.{whole_made}
use Rattle.statement_builder.proofs.JoinLemmas.{terms}
use Rattle.statement_builder.proofs.StepLemmas.{done_giving, gives_then_made, kept, made_as, then_made}
use Rattle.statement_builder.proofs.TestLemmas.{unless_other}

-- a statement by another name
start_as : (vs : Vars) (b b' : Builder) (l v : ℕ) (t u : Term) (go step r : Ref) → t ≡ u → Makes b b' r (λ κ. start vs κ l v u go step) → Makes b b' r (λ κ. start vs κ l v t go step)
start_as vs b b' l v t u go step r e h = subst (λ (x : Term). Makes b b' r (λ κ. start vs κ l v x go step)) (sym e) h

pub nothing_started : (vs : Vars) (b : Builder) (l v : ℕ) (t : Term) (go step : Ref) → t ≡ nothing → Makes b b go (λ κ. start vs κ l v t go step)
unfolding start
nothing_started vs b l v t go step e = start_as vs b b l v t nothing go step go e (kept b go (λ κ. start vs κ l v nothing go step) (λ κ β. refl))

pub pause_started : (vs : Vars) (b b' : Builder) (l v : ℕ) (t : Term) (go step r : Ref) → t ≡ pause → Makes b b' r (λ κ. paused l go step) → Makes b b' r (λ κ. start vs κ l v t go step)
unfolding start
pause_started vs b b' l v t go step r e h = start_as vs b b' l v t pause go step r e (made_as b b' r (λ κ. paused l go step) (λ κ. start vs κ l v pause go step) (λ κ β. refl) h)

pub write_started : (vs : Vars) (b b' : Builder) (l v x : ℕ) (i : Option (Expr ℕ)) (e : Expr ℕ) (d : Bool) (p q : Place) (t : Term) (go step : Ref) → t ≡ write x i e d p q
    → Does b b' (λ κ. written vs κ x i e d p q go) → Makes b b' go (λ κ. start vs κ l v t go step)
unfolding start
write_started vs b b' l v x i e d p q t go step f h =
    start_as vs b b' l v t (write x i e d p q) go step go f (made_as b b' go (λ κ β. given go (written vs κ x i e d p q go β)) (λ κ. start vs κ l v (write x i e d p q) go step) (λ κ β. refl) (done_giving b b' go (λ κ. written vs κ x i e d p q go) h))

pub choose_started : (vs : Vars) (b0 b1 b2 b3 b4 b5 : Builder) (l v m n : ℕ) (c : Expr ℕ) (x y t : Term) (go step : Ref) (s : Side) (xe o ye r : Ref) → t ≡ choose c x y → m ≡ l + labels x → n ≡ v + registers vs x
    → Gives Side b0 b1 s (λ κ. first_side vs κ c go) → Makes b1 b2 xe (λ κ. surface vs κ l v x s.go step) → Makes b2 b3 o (λ κ. other_side s.cond go) → Makes b3 b4 ye (λ κ. surface vs κ m n y o step) → Makes b4 b5 r (λ κ. or_of xe ye)
    → Makes b0 b5 r (λ κ. start vs κ l v t go step)
unfolding start
choose_started vs b0 b1 b2 b3 b4 b5 l v m n c x y t go step s xe o ye r e f g h1 h2 h3 h4 h5 =
    start_as vs b0 b5 l v t (choose c x y) go step r e (made_as b0 b5 r (λ κ β. from_side (first_side vs κ c go β).0 κ (first_side vs κ c go β).1) (λ κ. start vs κ l v (choose c x y) go step) (λ κ β. refl)
    (gives_then_made Side b0 b1 b5 s r (λ κ β. first_side vs κ c go β) from_side h1
    (then_made b1 b2 b5 xe r (λ κ. surface vs κ l v x s.go step) (λ w κ β. from_other w (other_side s.cond go β).ref κ (other_side s.cond go β).built) h2
    (then_made b2 b3 b5 o r (λ κ. other_side s.cond go) (λ w κ β. from_other xe w κ β) h3
    (then_made b3 b4 b5 ye r (λ κ. surface vs κ (l + labels x) (v + registers vs x) y o step) (λ w κ. or_of xe w) second h5)))))
  where
    from_other : Ref → Ref → Copies → Plain → Made
    from_other w p κ β = or_of w (surface vs κ (l + labels x) (v + registers vs x) y p step β).ref (surface vs κ (l + labels x) (v + registers vs x) y p step β).built

    from_side : Side → Copies → Plain → Made
    from_side u κ β =
        from_other (surface vs κ l v x u.go step β).ref (other_side u.cond go (surface vs κ l v x u.go step β).built).ref κ (other_side u.cond go (surface vs κ l v x u.go step β).built).built

    second : Makes b3 b4 ye (λ κ. surface vs κ (l + labels x) (v + registers vs x) y o step)
    second = subst (λ (k : ℕ). Makes b3 b4 ye (λ κ. surface vs κ k (v + registers vs x) y o step)) f (subst (λ (k : ℕ). Makes b3 b4 ye (λ κ. surface vs κ m k y o step)) g h4)

pub seq_started : (vs : Vars) (b b' : Builder) (l v : ℕ) (ts : Terms) (t : Term) (go step r : Ref) → t ≡ seq ts → Makes b b' r (λ κ. start_in_turn vs κ l v ts go step) → Makes b b' r (λ κ. start vs κ l v t go step)
unfolding start
seq_started vs b b' l v ts t go step r e h = start_as vs b b' l v t (seq ts) go step r e (made_as b b' r (λ κ. start_in_turn vs κ l v ts go step) (λ κ. start vs κ l v (seq ts) go step) (λ κ β. refl) h)

-- several references are made, and then one of them
pub all_then_made : (b0 b1 b2 : Builder) (rs : List Ref) (r : Ref) (f : Copies → Plain → MadeAll) (g : List Ref → Copies → Plain → Made) → MakesAll b0 b1 rs f → Makes b1 b2 r (g rs) → Makes b0 b2 r (λ κ β. g (f κ β).refs κ (f κ β).built)
all_then_made b0 b1 b2 rs r f g h k = record {
  over = λ vs o. k.over vs (h.over vs o);
  made = λ κ front β i.
      let first = h.made κ front β i in
      subst (λ (x : List Ref). (r ≡ (g x κ (f κ β).built).ref) × IsBuilt κ front b2 (g x κ (f κ β).built).built) first.0 (k.made κ front (f κ β).built first.1);
}

pub par_started : (vs : Vars) (b0 b1 b2 : Builder) (l v : ℕ) (ts : Terms) (t : Term) (go step r : Ref) (rs us : List Ref) → t ≡ par ts → us ≡ rs → MakesAll b0 b1 rs (λ κ. start_each vs κ l v ts go step) → Makes b1 b2 r (λ κ. and_all go us)
    → Makes b0 b2 r (λ κ. start vs κ l v t go step)
unfolding start
par_started vs b0 b1 b2 l v ts t go step r rs us e f h k =
    start_as vs b0 b2 l v t (par ts) go step r e (made_as b0 b2 r (λ κ β. and_all go (start_each vs κ l v ts go step β).refs (start_each vs κ l v ts go step β).built) (λ κ. start vs κ l v (par ts) go step) (λ κ β. refl)
    (all_then_made b0 b1 b2 rs r (λ κ. start_each vs κ l v ts go step) (λ xs κ. and_all go xs) h (subst (λ (xs : List Ref). Makes b1 b2 r (λ κ. and_all go xs)) f k)))

pub loop_started : (vs : Vars) (b b' : Builder) (l v : ℕ) (x t : Term) (c : Expr ℕ) (go step r : Ref) → t ≡ loop x c → Makes b b' r (λ κ. surface vs κ l v x go step) → Makes b b' zero_ref (λ κ. start vs κ l v t go step)
unfolding start
loop_started vs b b' l v x t c go step r e h =
    start_as vs b b' l v t (loop x c) go step zero_ref e (record { over = h.over; made = λ κ front β i. (refl, (h.made κ front β i).1) })

guard_start : (vs : Vars) (κ : Copies) (a w i : Bool) (l v : ℕ) (x : Term) (c : Expr ℕ) (go step : Ref) (β : Plain)
    → (let g = begun_guard vs κ a w i c l go step β in let s = surface vs κ g.0.label v x g.0.go g.0.step g.1 in ended_guard a w i g.0.cond go s.ref s.built) ≡ start vs κ l v (guard_of a w i x c) go step β
unfolding start
guard_start vs κ true true true l v x c go step β = refl
guard_start vs κ true true false l v x c go step β = refl
guard_start vs κ true false true l v x c go step β = refl
guard_start vs κ true false false l v x c go step β = refl
guard_start vs κ false true true l v x c go step β = refl
guard_start vs κ false true false l v x c go step β = refl
guard_start vs κ false false true l v x c go step β = refl
guard_start vs κ false false false l v x c go step β = refl

pub guard_started : (vs : Vars) (b0 b1 b2 b3 : Builder) (a w i : Bool) (l v : ℕ) (x t : Term) (c : Expr ℕ) (go step : Ref) (g : Guarded) (e r : Ref) → t ≡ guard_of a w i x c
    → Gives Guarded b0 b1 g (λ κ. begun_guard vs κ a w i c l go step) → Makes b1 b2 e (λ κ. surface vs κ g.label v x g.go g.step) → Makes b2 b3 r (λ κ. ended_guard a w i g.cond go e)
    → Makes b0 b3 r (λ κ. start vs κ l v t go step)
guard_started vs b0 b1 b2 b3 a w i l v x t c go step g e r f h1 h2 h3 =
    start_as vs b0 b3 l v t (guard_of a w i x c) go step r f (made_as b0 b3 r (λ κ β. from (begun_guard vs κ a w i c l go step β).0 κ (begun_guard vs κ a w i c l go step β).1) (λ κ. start vs κ l v (guard_of a w i x c) go step)
    (λ κ β. guard_start vs κ a w i l v x c go step β)
    (gives_then_made Guarded b0 b1 b3 g r (λ κ β. begun_guard vs κ a w i c l go step β) from h1
    (then_made b1 b2 b3 e r (λ κ. surface vs κ g.label v x g.go g.step) (λ y κ. ended_guard a w i g.cond go y) h2 h3)))
  where
    from : Guarded → Copies → Plain → Made
    from u κ β = ended_guard a w i u.cond go (surface vs κ u.label v x u.go u.step β).ref (surface vs κ u.label v x u.go u.step β).built

-- ---- parts

pub turn_more : (vs : Vars) (b0 b1 b : Builder) (l v m n : ℕ) (ss us : List Stmt) (s : Stmt) (go step e r : Ref) → us ≡ s ∷ ss → m ≡ l + labels (term_of (kernel s)) → n ≡ v + registers vs (term_of (kernel s))
    → Makes b0 b1 e (λ κ. surface vs κ l v (term_of (kernel s)) go step) → Makes b1 b r (λ κ. start_in_turn vs κ m n (terms ss) e step) → Makes b0 b r (λ κ. start_in_turn vs κ l v (terms us) go step)
unfolding start_in_turn
turn_more vs b0 b1 b l v m n ss us s go step e r f g h k1 k2 =
    subst (λ (xs : List Stmt). Makes b0 b r (λ κ. start_in_turn vs κ l v (terms xs) go step)) (sym f)
    (then_made b0 b1 b e r (λ κ. surface vs κ l v (term_of (kernel s)) go step) (λ y κ. start_in_turn vs κ (l + labels (term_of (kernel s))) (v + registers vs (term_of (kernel s))) (terms ss) y step) k1
    (subst (λ (k : ℕ). Makes b1 b r (λ κ. start_in_turn vs κ k (v + registers vs (term_of (kernel s))) (terms ss) e step)) g (subst (λ (k : ℕ). Makes b1 b r (λ κ. start_in_turn vs κ m k (terms ss) e step)) h k2)))

pub turn_none : (vs : Vars) (b : Builder) (l v : ℕ) (ss : List Stmt) (go step : Ref) → ss ≡ [] → Makes b b go (λ κ. start_in_turn vs κ l v (terms ss) go step)
unfolding start_in_turn
turn_none vs b l v ss go step e = subst (λ (xs : List Stmt). Makes b b go (λ κ. start_in_turn vs κ l v (terms xs) go step)) (sym e) (kept b go (λ κ. start_in_turn vs κ l v (terms []) go step) (λ κ β. refl))

pub each_more : (vs : Vars) (b0 b1 b : Builder) (l v m n : ℕ) (ss us : List Stmt) (s : Stmt) (go step e : Ref) (rs : List Ref) → us ≡ s ∷ ss → m ≡ l + labels (term_of (kernel s)) → n ≡ v + registers vs (term_of (kernel s))
    → Makes b0 b1 e (λ κ. surface vs κ l v (term_of (kernel s)) go step) → MakesAll b1 b rs (λ κ. start_each vs κ m n (terms ss) go step) → MakesAll b0 b (e ∷ rs) (λ κ. start_each vs κ l v (terms us) go step)
unfolding start_each
each_more vs b0 b1 b l v m n ss us s go step e rs f g h k1 k2 =
    subst (λ (xs : List Stmt). MakesAll b0 b (e ∷ rs) (λ κ. start_each vs κ l v (terms xs) go step)) (sym f) (record {
      over = λ qs o. k2.over qs (k1.over qs o);
      made = λ κ front β i.
          let rest : MakesAll b1 b rs (λ κ. start_each vs κ (l + labels (term_of (kernel s))) (v + registers vs (term_of (kernel s))) (terms ss) go step) =
          subst (λ (k : ℕ). MakesAll b1 b rs (λ κ. start_each vs κ k (v + registers vs (term_of (kernel s))) (terms ss) go step)) g (subst (λ (k : ℕ). MakesAll b1 b rs (λ κ. start_each vs κ m k (terms ss) go step)) h k2) in
          let p = k1.made κ front β i in
          let q = rest.made κ front (surface vs κ l v (term_of (kernel s)) go step β).built p.1 in
          (λ j. p.0 j ∷ q.0 j, q.1);
    })

pub each_none : (vs : Vars) (b : Builder) (l v : ℕ) (ss : List Stmt) (go step : Ref) → ss ≡ [] → MakesAll b b [] (λ κ. start_each vs κ l v (terms ss) go step)
unfolding start_each
each_none vs b l v ss go step e = subst (λ (xs : List Stmt). MakesAll b b [] (λ κ. start_each vs κ l v (terms xs) go step)) (sym e) (record { over = λ qs o. o; made = λ κ front β o. (refl, o) })

-- ---- the whole surface

pub surface_alone : (vs : Vars) (b b' : Builder) (l v : ℕ) (t : Term) (go step r : Ref) → false ≡ is_zero go → Makes b b' r (λ κ. start vs κ l v t go step) → Makes b b' r (λ κ. surface vs κ l v t go step)
surface_alone vs b b' l v t go step r e h = made_as b b' r (λ κ. start vs κ l v t go step) (λ κ. surface vs κ l v t go step) (λ κ β. sym (unless_other go β (start vs κ l v t go step β) (sym e))) h

pub surface_scoped : (vs : Vars) (b0 b1 b2 b3 : Builder) (l v register n : ℕ) (k j : Kernel) (os : List Scope) (go step r : Ref) → false ≡ is_zero go → n ≡ labels (term_of k) → j ≡ unscoped k
    → OpensAll vs b0 false n v (term_of k) os register (term_of (unscoped k)) b1 → Makes b1 b2 r (λ κ. start vs κ l register (term_of j) go step)
    → EndsAll vs b2 false n os r (λ s. surface vs s.copies l s.register s.term go step s.built) b3 → Makes b0 b3 r (λ κ. surface vs κ l v (term_of k) go step)
surface_scoped vs b0 b1 b2 b3 l v register n k j os go step r z e f h1 h2 h3 =
    whole_made vs b0 b1 b2 b3 false n v register (term_of k) (term_of (unscoped k)) os r (λ κ w t β. surface vs κ l w t go step β) (λ κ β. start vs κ l register (term_of (unscoped k)) go step β)
    h1 (subst (λ (i : Kernel). Makes b1 b2 r (λ κ. start vs κ l register (term_of i) go step)) f h2) h3 (e ∙ sym (labels_unscoped k))
    (λ κ β. sym (unless_other go β (start vs κ l register (term_of (unscoped k)) go step β) (sym z)))
