-- How scopes end, one in another.
use Rattle.std.proofs.Common.{◌≡◌, ◌∙◌, ℕ, zero, suc, ◌+◌, ◌≢◌, ◌++◌, List, [], ◌∷◌, map, reverse, refl, sym, ap, subst, Bool, true, false}
use Rattle.std.specs.Prelude.{None}
use Rattle.std.proofs.lemmas.List.{reverse-append}
use Rattle.quartz_expr.specs.Vars.{Vars}
use Rattle.quartz_expr.specs.Terms.{Term, scope}
use Rattle.aif_cells.specs.declared.reference.Ref.{Ref}
use Rattle.aif_cells.specs.declared.cells.Action.{Action}
use Rattle.reincarnation.specs.declared.copy.ClosedRefs.{ClosedRefs}
use Rattle.statement_cells.specs.Labels.{labels, scope_registers}
use Rattle.statement_cells.specs.Expressions.{Copies}
use Rattle.statement_cells.specs.Builder.{Activity, Builder as Plain, Made, DepthCopy as PlainDepth, EnteredCopy as PlainEntered, started, resumed, and_of, close_scope, entering, given, keep_depth, keep_entered, not_of, reserve}
use Rattle.statement_cells.specs.Surface.{depth, if_labels, resume, scope_resumed, scope_started, start, surface}
use Rattle.statement_cells.proofs.ScopeEndLemmas.{started_is, started_with}
use Rattle.statement_builder.specs.declared.builder.Builder.{Builder}
use Rattle.statement_builder.specs.declared.builder.DepthCopy.{DepthCopy}
use Rattle.statement_builder.specs.declared.builder.EnteredCopy.{EnteredCopy}
use Rattle.statement_builder.specs.declared.scoping.Scope.{Scope}
use Rattle.statement_builder.specs.Built.{IsBuilt, Makes, depth_copy, entered_copy}
use Rattle.statement_builder.specs.Scopes.{Closes, Ends, EndsAll, Enters, IsOpened, IsInside, Opens, OpensAll, State, front_inside, inside}
use Rattle.statement_builder.specs.Shorts.{is_zero}
use Rattle.statement_builder.proofs.StepLemmas.{then_made}
use Rattle.statement_builder.proofs.TestLemmas.{unless_other}

-- ---- one scope

-- a scope that was opened without store, or with one, is closed so
closed_as : (vs : Vars) (b b' : Builder) (s : Scope) (c : ClosedRefs) (stored : Bool) (κ : Copies) (front : List Action) (β inner : Plain) (active : Activity) → Closes vs b s c b' → s.stored ≡ stored → IsOpened vs κ front β s
    → IsBuilt (entering vs s.var κ β) (front_inside s.var front β) b inner → (c ≡ (close_scope vs s.var stored s.first active β inner).refs) × IsBuilt κ front b' (close_scope vs s.var stored s.first active β inner).built
closed_as vs b b' s c stored κ front β inner active h e o i =
    subst (λ (x : Bool). (c ≡ (close_scope vs s.var x s.first active β inner).refs) × IsBuilt κ front b' (close_scope vs s.var x s.first active β inner).built) e (h.built κ front β inner active o i)

started_plain : (vs : Vars) (n : ℕ) (s : Scope) (go step : Ref) (β : Plain) (m : Made) → scope_registers vs n s.var ≡ 0
    → scope_started vs s.var n s.first go step β m ≡ given m.ref (close_scope vs s.var false s.first (started go) β m.built).built
started_plain vs n s go step β m e =
    started_is vs s.var n s.first go step β m ∙ ap (λ (r : ℕ). started_with vs s.var s.first r go step (close_scope vs s.var false s.first (started go) β m.built) m.ref) e

pub started_ends : (vs : Vars) (b b' : Builder) (s : Scope) (n r : ℕ) (go step end : Ref) (c : ClosedRefs) → Closes vs b s c b' → r ≡ scope_registers vs n s.var → r ≡ 0 → Ends vs b s false end (scope_started vs s.var n s.first go step) b'
started_ends vs b b' s n r go step end c h e z = record {
  over = h.over;
  built = λ κ front β m stored o i f.
      subst (λ (q : Made). (end ≡ q.ref) × IsBuilt κ front b' q.built) (sym (started_plain vs n s go step β m (sym e ∙ z)))
      (f, (closed_as vs b b' s c false κ front β m.built (started go) h stored o i).1);
}

entered_more : (es : List EnteredCopy) (e : EnteredCopy) → map entered_copy (es ++ e ∷ []) ≡ map entered_copy es ++ entered_copy e ∷ []
entered_more [] e = refl
entered_more (d ∷ es) e = ap (λ (xs : List PlainEntered). entered_copy d ∷ xs) (entered_more es e)

depths_more : (ds : List DepthCopy) (d : DepthCopy) → map depth_copy (ds ++ d ∷ []) ≡ map depth_copy ds ++ depth_copy d ∷ []
depths_more [] d = refl
depths_more (e ∷ ds) d = ap (λ (xs : List PlainDepth). depth_copy e ∷ xs) (depths_more ds d)

-- one more copy that may have been entered
kept_entered : (κ : Copies) (front : List Action) (b : Builder) (β : Plain) (es : List EnteredCopy) (r x v : ℕ) (enter : Ref) (c : ClosedRefs) → IsBuilt κ front b β
    → es ≡ b.entered ++ record { var = x; first = v; entered = record { enter = enter; closed = c } } ∷ [] → IsBuilt κ front (record b { entered = es }) (keep_entered (suc r) x v enter c β)
unfolding keep_entered
kept_entered κ front b β es r x v enter c h e = record {
  current = h.current;
  cells = h.cells;
  monitors = h.monitors;
  actions = h.actions;
  made = h.made;
  entries = h.entries;
  stays = h.stays;
  entered = ap (map entered_copy) e ∙ (entered_more b.entered (record { var = x; first = v; entered = record { enter = enter; closed = c } })
      ∙ ap (λ (xs : List PlainEntered). xs ++ record { var = x; first = v; entered = record { enter = enter; closed = c } } ∷ []) h.entered);
  depths = h.depths;
  writes = h.writes;
  numbers = h.numbers;
}

kept_depth : (κ : Copies) (front : List Action) (b : Builder) (β : Plain) (ds : List DepthCopy) (r : ℕ) (d : DepthCopy) → IsBuilt κ front b β → ds ≡ b.depths ++ d ∷ [] → IsBuilt κ front (record b { depths = ds }) (keep_depth (suc r) (depth_copy d) β)
unfolding keep_depth
kept_depth κ front b β ds r d h e = record {
  current = h.current;
  cells = h.cells;
  monitors = h.monitors;
  actions = h.actions;
  made = h.made;
  entries = h.entries;
  stays = h.stays;
  entered = h.entered;
  depths = ap (map depth_copy) e ∙ (depths_more b.depths d ∙ ap (λ (xs : List PlainDepth). xs ++ depth_copy d ∷ []) h.depths);
  writes = h.writes;
  numbers = h.numbers;
}

some_number : (r : ℕ) → r ≢ 0 → (k : ℕ) × (r ≡ suc k)
some_number zero h = absurd (h refl)
some_number (suc k) h = (k, refl)

started_kept : (vs : Vars) (n k : ℕ) (s : Scope) (go step : Ref) (β : Plain) (m : Made) → scope_registers vs n s.var ≡ suc k
    → scope_started vs s.var n s.first go step β m ≡ started_with vs s.var s.first (suc k) go step (close_scope vs s.var false s.first (started go) β m.built) m.ref
started_kept vs n k s go step β m e =
    started_is vs s.var n s.first go step β m ∙ ap (λ (r : ℕ). started_with vs s.var s.first r go step (close_scope vs s.var false s.first (started go) β m.built) m.ref) e

pub started_keeps : (vs : Vars) (b0 b1 b2 b3 b4 : Builder) (s : Scope) (n r : ℕ) (go step end moves unless enter : Ref) (c : ClosedRefs) (es : List EnteredCopy) → Closes vs b0 s c b1 → r ≡ scope_registers vs n s.var → r ≢ 0
    → Makes b1 b2 moves (λ κ. and_of go step) → Makes b2 b3 unless (λ κ. not_of end) → Makes b3 b4 enter (λ κ. and_of moves unless)
    → es ≡ b4.entered ++ record { var = s.var; first = s.first; entered = record { enter = enter; closed = c } } ∷ []
    → Ends vs b0 s false end (scope_started vs s.var n s.first go step) (record b4 { entered = es })
started_keeps vs b0 b1 b2 b3 b4 s n r go step end moves unless enter c es h e z h1 h2 h3 f = record {
  over = λ ws o. let p = entering_made.over ws (h.over ws o) in record { vars = p.vars; variables = p.variables; copies = p.copies };
  built = λ κ front β m stored o i g.
      let k = some_number r z in
      let closed = closed_as vs b0 b1 s c false κ front β m.built (started go) h stored o i in
      let cl = close_scope vs s.var false s.first (started go) β m.built in
      let made = entering_made.made κ front cl.built closed.1 in
      let kept = kept_entered κ front b4 (from end cl.built).built es k.0 s.var s.first enter c made.1 f in
      let at_ref = subst (λ (x : Ref). IsBuilt κ front (record b4 { entered = es }) (keep_entered (suc k.0) s.var s.first x c (from end cl.built).built)) made.0 kept in
      let at_refs = subst (λ (x : ClosedRefs). IsBuilt κ front (record b4 { entered = es }) (keep_entered (suc k.0) s.var s.first (from end cl.built).ref x (from end cl.built).built)) closed.0 at_ref in
      let at_end = subst (λ (x : Ref). IsBuilt κ front (record b4 { entered = es }) (keep_entered (suc k.0) s.var s.first (from x cl.built).ref cl.refs (from x cl.built).built)) g at_refs in
      subst (λ (q : Made). (end ≡ q.ref) × IsBuilt κ front (record b4 { entered = es }) q.built) (sym (started_kept vs n k.0 s go step β m (sym e ∙ k.1))) (g, at_end);
}
  where
    from : Ref → Plain → Made
    from a γ = and_of (and_of go step γ).ref (not_of a (and_of go step γ).built).ref (not_of a (and_of go step γ).built).built

    entering_made : Makes b1 b4 enter (λ κ. from end)
    entering_made =
        then_made b1 b2 b4 moves enter (λ κ. and_of go step) (λ x κ γ. and_of x (not_of end γ).ref (not_of end γ).built) h1
        (then_made b2 b3 b4 unless enter (λ κ. not_of end) (λ x κ. and_of moves x) h2 h3)

-- ---- a scope that goes on

pub resumed_ends : (vs : Vars) (b b' : Builder) (s : Scope) (l n r : ℕ) (res end : Ref) (c : ClosedRefs) → Closes vs b s c b' → r ≡ scope_registers vs n s.var → r ≡ 0 → Ends vs b s true end (scope_resumed vs s.var l n s.first res) b'
unfolding scope_resumed keep_depth
resumed_ends vs b b' s l n r res end c h e z = record {
  over = h.over;
  built = λ κ front β m stored o i f.
      let cl = close_scope vs s.var true s.first (resumed l n res) β m.built in (
        f,
        subst (λ (k : ℕ). IsBuilt κ front b' (keep_depth k (record { var = s.var; label = l; labels = n; first = s.first; closed = cl.refs }) cl.built)) (sym z ∙ e)
            (closed_as vs b b' s c true κ front β m.built (resumed l n res) h stored o i).1,
      );
}

pub resumed_keeps : (vs : Vars) (b b' : Builder) (s : Scope) (l n r : ℕ) (res end : Ref) (c : ClosedRefs) (ds : List DepthCopy) → Closes vs b s c b' → r ≡ scope_registers vs n s.var → r ≢ 0
    → ds ≡ b'.depths ++ record { var = s.var; label = l; labels = n; first = s.first; closed = c } ∷ [] → Ends vs b s true end (scope_resumed vs s.var l n s.first res) (record b' { depths = ds })
unfolding scope_resumed
resumed_keeps vs b b' s l n r res end c ds h e z f = record {
  over = λ ws o. let p = h.over ws o in record { vars = p.vars; variables = p.variables; copies = p.copies };
  built = λ κ front β m stored o i g.
      let k = some_number r z in
      let closed = closed_as vs b b' s c true κ front β m.built (resumed l n res) h stored o i in
      let cl = close_scope vs s.var true s.first (resumed l n res) β m.built in
      let kept = kept_depth κ front b' cl.built ds k.0 (record { var = s.var; label = l; labels = n; first = s.first; closed = c }) closed.1 f in
      let at_refs = subst (λ (x : ClosedRefs). IsBuilt κ front (record b' { depths = ds }) (keep_depth (suc k.0) (record { var = s.var; label = l; labels = n; first = s.first; closed = x }) cl.built)) closed.0 kept in
      (g, subst (λ (q : ℕ). IsBuilt κ front (record b' { depths = ds }) (keep_depth q (record { var = s.var; label = l; labels = n; first = s.first; closed = cl.refs }) cl.built)) (sym k.1 ∙ e) at_refs);
}

-- ---- all scopes

-- where a state's term ends, by the end of the body
abbrev pub IsStep : (vs : Vars) (stored : Bool) (n : ℕ) (f : State → Made) (g : Scope → Plain → Made → Made) → Type 0
IsStep vs stored n f g = (u s : State) (o : Scope) → Enters vs stored n u o s → n ≡ labels s.term → f u ≡ g o u.built (f s)

pub all_end_more : (vs : Vars) (b0 b1 b : Builder) (stored : Bool) (n : ℕ) (os us : List Scope) (o : Scope) (end : Ref) (f : State → Made) (g : Scope → Plain → Made → Made)
    → os ≡ us ++ o ∷ [] → IsStep vs stored n f g → Ends vs b0 o stored end (g o) b1 → EndsAll vs b1 stored n (reverse us) end f b → EndsAll vs b0 stored n (reverse os) end f b
all_end_more vs b0 b1 b stored n os us o end f g e step one rest =
    subst (λ (xs : List Scope). EndsAll vs b0 stored n xs end f b) (sym (ap reverse e ∙ reverse-append us (o ∷ []))) (record {
      over = λ ws p. rest.over ws (one.over ws p);
      built = λ u s nests l h r.
          let t = nests.0 in
          let enters = nests.1 in
          let before : IsBuilt (entering vs o.var t.copies t.built) (front_inside o.var t.front t.built) b0 (f s).built = subst (λ (x : State). IsBuilt x.copies x.front b0 (f s).built) enters.inner_is h in
          let ended = one.built t.copies t.front t.built (f s) enters.stored_is enters.opened before r in
          let is = step t s o enters l in
          rest.built u t nests.2 (l ∙ sym (ap labels enters.term)) (subst (λ (m : Made). IsBuilt t.copies t.front b1 m.built) (sym is) ended.1) (ended.0 ∙ ap (λ (m : Made). m.ref) (sym is));
    })

pub all_end_none : (vs : Vars) (b : Builder) (stored : Bool) (n : ℕ) (os : List Scope) (end : Ref) (f : State → Made) → os ≡ [] → EndsAll vs b stored n (reverse os) end f b
all_end_none vs b stored n os end f e = subst (λ (xs : List Scope). EndsAll vs b stored n (reverse xs) end f b) (sym e) (record {
  over = λ ws p. p;
  built = λ u s nests l h r. (r ∙ ap (λ (x : State). (f x).ref) nests, subst (λ (x : State). IsBuilt x.copies x.front b (f x).built) nests h);
})

-- ---- states inside scopes

surface_of_scope : (vs : Vars) (κ : Copies) (l v n x : ℕ) (t : Term) (go step : Ref) (β : Plain) → is_zero go ≡ false → n ≡ labels t
    → surface vs κ l v (scope x None t) go step β ≡ scope_started vs x n v go step β (surface vs (entering vs x κ β) l (v + scope_registers vs n x) t go step (reserve vs x false β))
unfolding start
surface_of_scope vs κ l v n x t go step β z e =
    unless_other go β (start vs κ l v (scope x None t) go step β) z
    ∙ ap (λ (k : ℕ). scope_started vs x k v go step β (surface vs (entering vs x κ β) l (v + scope_registers vs k x) t go step (reserve vs x false β))) (sym e)

pub surface_step : (vs : Vars) (l n : ℕ) (go step : Ref) → is_zero go ≡ false
    → IsStep vs false n (λ s. surface vs s.copies l s.register s.term go step s.built) (λ o. scope_started vs o.var n o.first go step)
surface_step vs l n go step z u s o h e =
    ap (λ (t : Term). surface vs u.copies l u.register t go step u.built) h.term
    ∙ (surface_of_scope vs u.copies l u.register n o.var s.term go step u.built z e
    ∙ (ap (λ (v : ℕ). scope_started vs o.var n v go step u.built (at_state (inside vs false n o.var s.term u))) (sym h.first)
    ∙ ap (λ (x : State). scope_started vs o.var n o.first go step u.built (at_state x)) (sym h.inner_is)))
  where
    at_state : State → Made
    at_state x = surface vs x.copies l x.register x.term go step x.built

depth_of_scope : (vs : Vars) (κ : Copies) (l v n x : ℕ) (t : Term) (res step stay : Ref) (β : Plain) → n ≢ 0 → n ≡ labels t
    → depth vs κ l v (scope x None t) res step stay β ≡ scope_resumed vs x l n v res β (depth vs (entering vs x κ β) l (v + scope_registers vs n x) t res step stay (reserve vs x true β))
unfolding resume
depth_of_scope vs κ l v n x t res step stay β z e = with_labels n z
    ∙ ap (λ (k : ℕ). scope_resumed vs x l k v res β (depth vs (entering vs x κ β) l (v + scope_registers vs k x) t res step stay (reserve vs x true β))) (sym e)
  where
    with_labels : (k : ℕ) → k ≢ 0 → depth vs κ l v (scope x None t) res step stay β ≡ resume vs κ l v (scope x None t) res step stay β
    with_labels k y = some_labels (labels t) β (resume vs κ l v (scope x None t) res step stay β) (λ i. z (e ∙ i))
      where
        some_labels : (m : ℕ) (γ : Plain) (q : Made) → m ≢ 0 → if_labels m γ q ≡ q
        some_labels zero γ q i = absurd (i refl)
        some_labels (suc m) γ q i = refl

pub depth_step : (vs : Vars) (l n : ℕ) (res step stay : Ref) → n ≢ 0
    → IsStep vs true n (λ s. depth vs s.copies l s.register s.term res step stay s.built) (λ o. scope_resumed vs o.var l n o.first res)
depth_step vs l n res step stay z u s o h e =
    ap (λ (t : Term). depth vs u.copies l u.register t res step stay u.built) h.term
    ∙ (depth_of_scope vs u.copies l u.register n o.var s.term res step stay u.built z e
    ∙ (ap (λ (v : ℕ). scope_resumed vs o.var l n v res u.built (at_state (inside vs true n o.var s.term u))) (sym h.first)
    ∙ ap (λ (x : State). scope_resumed vs o.var l n o.first res u.built (at_state x)) (sym h.inner_is)))
  where
    at_state : State → Made
    at_state x = depth vs x.copies l x.register x.term res step stay x.built

-- ---- opening

pub opens_none : (vs : Vars) (b : Builder) (stored : Bool) (n first register : ℕ) (t u : Term) (os : List Scope) → os ≡ [] → register ≡ first → u ≡ t → OpensAll vs b stored n first t (reverse os) register u b
opens_none vs b stored n first register t u os e f g = record {
  over = λ ws p. p;
  inside_is = λ κ front β h. subst (λ (xs : List Scope). IsInside vs stored n (reverse xs) register u (record { copies = κ; front = front; built = β; register = first; term = t }) b) (sym e) (record {
    state = record { copies = κ; front = front; built = β; register = first; term = t };
    built = h;
    nests = refl;
    register_is = sym f;
    term_is = sym g;
  });
}

pub opens_more : (vs : Vars) (b0 b1 b2 : Builder) (stored : Bool) (n first register next x : ℕ) (t u w : Term) (os us : List Scope) (o : Scope)
    → OpensAll vs b0 stored n first t (reverse os) register u b1 → u ≡ scope x None w → Opens vs b1 x stored register o b2 → us ≡ os ++ o ∷ [] → next ≡ register + scope_registers vs n x
    → OpensAll vs b0 stored n first t (reverse us) next w b2
opens_more vs b0 b1 b2 stored n first register next x t u w os us o h e one f g = record {
  over = λ ws p. one.over ws (h.over ws p);
  inside_is = λ κ front β i.
      let k = h.inside_is κ front β i in
      let s = k.state in
      subst (λ (xs : List Scope). IsInside vs stored n xs next w (record { copies = κ; front = front; built = β; register = first; term = t }) b2) (sym (ap reverse f ∙ reverse-append os (o ∷ []))) (record {
        state = inside vs stored n o.var w s;
        built = subst (λ (y : ℕ). IsBuilt (entering vs y s.copies s.built) (front_inside y s.front s.built) b2 (reserve vs y stored s.built)) (sym one.var) (one.built s.copies s.front s.built k.built);
        nests = (
          s,
          record {
            term = k.term_is ∙ (e ∙ ap (λ (y : ℕ). scope y None w) (sym one.var));
            stored_is = one.stored_is;
            first = one.first_is ∙ sym k.register_is;
            opened = one.opened s.copies s.front s.built k.built;
            inner_is = refl;
          },
          k.nests,
        );
        register_is = ap (λ (y : ℕ). s.register + scope_registers vs n y) one.var ∙ (ap (λ (r : ℕ). r + scope_registers vs n x) k.register_is ∙ sym g);
        term_is = refl;
      });
}

-- ---- from the outermost scope to the statement inside, and back

pub whole_made : (vs : Vars) (b0 b1 b2 b3 : Builder) (stored : Bool) (n first register : ℕ) (t u : Term) (os : List Scope) (end : Ref) (h : Copies → ℕ → Term → Plain → Made) (g : Copies → Plain → Made)
    → OpensAll vs b0 stored n first t os register u b1 → Makes b1 b2 end g → EndsAll vs b2 stored n os end (λ s. h s.copies s.register s.term s.built) b3 → n ≡ labels u
    → ((κ : Copies) (β : Plain) → g κ β ≡ h κ register u β)
    → Makes b0 b3 end (λ κ. h κ first t)
whole_made vs b0 b1 b2 b3 stored n first register t u os end h g opens body ends l is = record {
  over = λ ws o. ends.over ws (body.over ws (opens.over ws o));
  made = λ κ front β i.
      let k = opens.inside_is κ front β i in
      let s = k.state in
      let m = body.made s.copies s.front s.built k.built in
      let e : g s.copies s.built ≡ h s.copies s.register s.term s.built = is s.copies s.built ∙ (ap (λ (r : ℕ). h s.copies r u s.built) (sym k.register_is) ∙ ap (λ (x : Term). h s.copies s.register x s.built) (sym k.term_is)) in
      let p = subst (λ (q : Made). (end ≡ q.ref) × IsBuilt s.copies s.front b2 q.built) e m in
      ends.built (record { copies = κ; front = front; built = β; register = first; term = t }) s k.nests (l ∙ ap labels (sym k.term_is)) p.1 p.0;
}
