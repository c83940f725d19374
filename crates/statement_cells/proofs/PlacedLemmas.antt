-- The copies with registers that a statement makes stand at its scopes: surfaces make no copy with store, and the depth
-- makes one for each scope.
use Rattle.std.proofs.Common.{◌≡◌, ◌⊎◌, inl, inr, ℕ, zero, suc, ◌+◌, ◌<◌, pos, negsuc, true, false, List, [], ◌∷◌, ◌++◌, refl, sym, ◌∙◌, subst, arith, Bool, length, ap, append_assoc, append-nil}
use Rattle.quartz_expr.specs.Vars.{Vars, count_of}
use Rattle.quartz_expr.specs.Terms.{Term, nothing, pause, write, choose, seq, par, loop, abort, suspend, scope, Terms, none, part}
use Rattle.aif_cells.specs.declared.reference.Ref.{Ref}
use Rattle.aif_cells.specs.declared.reference.Ref.TheVariants as ref
use Rattle.reincarnation.specs.declared.copy.ClosedRefs.{ClosedRefs}
use Rattle.statement_cells.specs.Labels.{labels, registers, scope_registers, shape_in}
use Rattle.statement_cells.specs.Expressions.{Copies}
use Rattle.statement_cells.specs.Builder.{started, Builder, Made, Closed, EnteredCopy, and_of, close_scope, enter, entering, keep_entered, not_of, reserve, Activity, Scoped, absent_from, copy_at, Reserved, reserved_cells, new_cells}
use Rattle.statement_cells.specs.Surface.{scope_started, start, start_each, start_in_turn, surface, tested, unless_zero}
use Rattle.statement_cells.proofs.PlaceLemmas.{Same, and_all_same, and_same, enter_same, not_same, or_same, tested_same, then_same, written_same}
use Rattle.statement_cells.proofs.ScopeEndLemmas.{started_is, started_with}
use Rattle.absence_reaction.specs.declared.copy.VarCopy.{VarCopy}
use Rattle.statement_cells.specs.Whole.{variable_registers}
use Rattle.statement_cells.proofs.ScopeGrowLemmas.{length_numbers}

-- the value cells of copies that are closed
abbrev pub reserved_in : List Scoped → List Reserved
reserved_in [] = []
reserved_in (s ∷ ss) = reserved_cells s.var s.cells ++ reserved_in ss

-- value cells are those, and others before them
abbrev pub Listed : (before : List Reserved) → Builder → Type 0
Listed rs β = β.reserved ≡ rs ++ reserved_in β.scopes

reserved_both : (ss us : List Scoped) → reserved_in (ss ++ us) ≡ reserved_in ss ++ reserved_in us
reserved_both [] us = refl
reserved_both (s ∷ ss) us = ap (λ l. reserved_cells s.var s.cells ++ l) (reserved_both ss us) ∙ sym (append_assoc (reserved_cells s.var s.cells) (reserved_in ss) (reserved_in us))

module _ (vs : Vars) where
  -- a scope of that variable, whose registers begin there, is part of the statement
  abbrev mutual
    pub At : (v : ℕ) → Term → (x' v' : ℕ) → Type 0
    At v nothing x' v' = ⊥
    At v pause x' v' = ⊥
    At v (write _ _ _ _ _ _) x' v' = ⊥
    At v (choose _ a b) x' v' = At v a x' v' ⊎ At (v + registers vs a) b x' v'
    At v (seq ts) x' v' = AtAll v ts x' v'
    At v (par ts) x' v' = AtAll v ts x' v'
    At v (loop t _) x' v' = At v t x' v'
    At v (abort _ _ t _) x' v' = At v t x' v'
    At v (suspend _ _ t _) x' v' = At v t x' v'
    At v (scope x _ t) x' v' = ((x' ≡ x) × (v' ≡ v) × (0 < scope_registers vs (labels t) x)) ⊎ At (v + scope_registers vs (labels t) x) t x' v'

    pub AtAll : (v : ℕ) → Terms → (x' v' : ℕ) → Type 0
    AtAll v none x' v' = ⊥
    AtAll v (part t ts) x' v' = At v t x' v' ⊎ AtAll (v + registers vs t) ts x' v'

  module _ (P : ℕ → ℕ → Type 0) where
    abbrev pub AllAt : List EnteredCopy → Type 0
    AllAt [] = Unit {0}
    AllAt (e ∷ es) = P e.var e.first × AllAt es

    -- what a copy has where nothing is written: it has no store, or stands at such a scope if its variable has registers
    pub record AbsentAt (s : Scoped) : Type 0 where
      pub copy : VarCopy
      pub absent : s.absent ≡ absent_from (shape_in vs s.var) copy 0 s.cells
      pub count : length s.cells ≡ count_of vs s.var
      pub at : (copy.stored ≡ false) ⊎ ((copy.stored ≡ true) × (0 < variable_registers vs s.var → P s.var copy.first))

    abbrev pub AllAbsent : List Scoped → Type 0
    AllAbsent [] = Unit {0}
    AllAbsent (s ∷ ss) = AbsentAt s × AllAbsent ss

    absent_both : (ss us : List Scoped) → AllAbsent ss → AllAbsent us → AllAbsent (ss ++ us)
    absent_both [] us g h = h
    absent_both (s ∷ ss) us g h = (g.0, absent_both ss us g.1 h)

    all_both : (es fs : List EnteredCopy) → AllAt es → AllAt fs → AllAt (es ++ fs)
    all_both [] fs g h = h
    all_both (e ∷ es) fs g h = (g.0, all_both es fs g.1 h)

    -- copies without store are added at such scopes, and none with store
    pub record Placed (before after : Builder) : Type 0 where
      pub entered : AllAt before.entered → AllAt after.entered
      pub depths : after.depths ≡ before.depths
      pub scopes : AllAbsent before.scopes → AllAbsent after.scopes
      pub listed : (rs : List Reserved) → Listed rs before → Listed rs after

    abbrev pub follow : {a b c : Builder} → Placed a b → Placed b c → Placed a c
    follow g h = record { entered = λ w. h.entered (g.entered w); depths = h.depths ∙ g.depths; scopes = λ w. h.scopes (g.scopes w); listed = λ rs w. h.listed rs (g.listed rs w) }

    abbrev pub of_same : {a b : Builder} → Same a b → Placed a b
    of_same g = record { entered = λ w. subst AllAt (sym g.entered) w; depths = g.depths; scopes = λ w. subst AllAbsent (sym g.scopes) w; listed = λ rs w. g.reserved ∙ w ∙ ap (λ ss. rs ++ reserved_in ss) (sym g.scopes) }

    pub rest : (β : Builder) → Placed β β
    rest β = record { entered = λ w. w; depths = refl; scopes = λ w. w; listed = λ rs w. w }

    unless_placed : (r : Ref) (β : Builder) (m : Made) → Placed β m.built → Placed β (unless_zero r β m).built
    unless_placed (ref.Lit (pos zero)) β m g = rest β
    unless_placed (ref.Lit (pos (suc n))) β m g = g
    unless_placed (ref.Lit (negsuc n)) β m g = g
    unless_placed (ref.Input i) β m g = g
    unless_placed (ref.Reg i) β m g = g
    unless_placed (ref.Cell i) β m g = g

    kept_placed : (r x v : ℕ) (e : Ref) (c : ClosedRefs) (β : Builder) → P x v → Placed β (keep_entered (suc r) x v e c β)
    unfolding keep_entered
    kept_placed r x v e c β h = record { entered = λ w. all_both β.entered _ w (h, tt); depths = refl; scopes = λ w. w; listed = λ rs w. w }

    started_placed : (x v r : ℕ) (go move : Ref) (c : Closed) (a : Ref) → (0 < r → P x v) → Placed c.built (started_with vs x v r go move c a).built
    started_placed x v zero go move c a h = rest c.built
    started_placed x v (suc r) go move c a h =
        let m = and_of go move c.built in
        let e = not_of a m.built in
        let n = and_of m.ref e.ref e.built in
        follow (of_same (then_same (and_same go move c.built) (then_same (not_same a m.built) (and_same m.ref e.ref e.built)))) (kept_placed r x v n.ref c.refs n.built (h (omega arith)))

    -- copies of others, and those that are reserved inside
    pub record Reserving (x : ℕ) (stored : Bool) (β : Builder) : Type 0 where
      pub entered : AllAt β.entered → AllAt (reserve vs x stored β).entered
      pub depths : (reserve vs x stored β).depths ≡ β.depths
      pub scopes : AllAbsent (reserve vs x stored β).scopes
      pub listed : Listed (reserve vs x stored β).reserved (reserve vs x stored β)

    pub reserving : (x : ℕ) (stored : Bool) (β : Builder) → Reserving x stored β
    unfolding reserve
    reserving x stored β = record { entered = λ w. w; depths = refl; scopes = tt; listed = sym (append-nil (β.reserved ++ reserved_cells x (new_cells vs x β))) }

    -- closing adds the copy
    pub close_absent : (x : ℕ) (stored : Bool) (v : ℕ) (a : Activity) (β inner : Builder) → (stored ≡ true → 0 < variable_registers vs x → P x v) → AllAbsent inner.scopes → AllAbsent β.scopes → AllAbsent (close_scope vs x stored v a β inner).built.scopes
    unfolding close_scope
    close_absent x stored v a β inner h g w = absent_both β.scopes _ w (record { copy = copy_at vs x stored v β inner; absent = refl; count = length_numbers (length β.cells) (count_of vs x); at = by_store stored h }, g)
      where
        by_store : (b : Bool) → (b ≡ true → 0 < variable_registers vs x → P x v) → (b ≡ false) ⊎ ((b ≡ true) × (0 < variable_registers vs x → P x v))
        by_store true h = inr (refl, h refl)
        by_store false h = inl refl

    pub close_listed : (x : ℕ) (stored : Bool) (v : ℕ) (a : Activity) (β inner : Builder) → Listed (reserve vs x stored β).reserved inner → (rs : List Reserved) → Listed rs β → Listed rs (close_scope vs x stored v a β inner).built
    unfolding close_scope reserve
    close_listed x stored v a β inner g rs w =
        let its : List Reserved = reserved_cells x (new_cells vs x β) in
        g ∙ append_assoc β.reserved its (reserved_in inner.scopes) ∙ ap (λ l. l ++ (its ++ reserved_in inner.scopes)) w ∙ append_assoc rs (reserved_in β.scopes) (its ++ reserved_in inner.scopes)
        ∙ ap (λ l. rs ++ l) (sym (reserved_both β.scopes (_ ∷ inner.scopes)))

    pub close_placed : (x : ℕ) (stored : Bool) (v : ℕ) (a : Activity) (β inner : Builder) → (stored ≡ true → 0 < variable_registers vs x → P x v) → Placed (reserve vs x stored β) inner → Placed β (close_scope vs x stored v a β inner).built
    unfolding close_scope
    close_placed x stored v a β inner h g =
        let r = reserving x stored β in
        record {
          entered = λ w. g.entered (r.entered w);
          depths = g.depths ∙ r.depths;
          scopes = close_absent x stored v a β inner h (g.scopes r.scopes);
          listed = close_listed x stored v a β inner (g.listed (reserve vs x stored β).reserved r.listed);
        }

    scope_placed : (x n v : ℕ) (go move : Ref) (β : Builder) (inner : Made) → (0 < scope_registers vs n x → P x v) → Placed (reserve vs x false β) inner.built → Placed β (scope_started vs x n v go move β inner).built
    scope_placed x n v go move β inner h g =
        subst (λ (m : Made). Placed β m.built) (sym (started_is vs x n v go move β inner))
        (follow (close_placed x false v (started go) β inner.built (λ e. absurd (cc)) g) (started_placed x v (scope_registers vs n x) go move (close_scope vs x false v (started go) β inner.built) inner.ref h))

    mutual
      unfolding start

      pub start_placed : (s : Term) (κ : Copies) (l v : ℕ) (go move : Ref) (β : Builder) → ((x' v' : ℕ) → At v s x' v' → P x' v') → Placed β (start vs κ l v s go move β).built
      start_placed nothing κ l v go move β h = rest β
      start_placed pause κ l v go move β h = of_same (then_same (and_same go move β) (enter_same l (and_of go move β).ref (and_of go move β).built))
      start_placed (write x i e d p q) κ l v go move β h = of_same (written_same vs κ x i e d p q go β)
      start_placed (choose c a b) κ l v go move β h =
          let k = tested vs κ c go β in
          let g = and_of go k.ref k.built in
          let s = unless_zero g.ref g.built (start vs κ l v a g.ref move g.built) in
          let n = not_of k.ref s.built in
          let o = and_of go n.ref n.built in
          let t = unless_zero o.ref o.built (start vs κ (l + labels a) (v + registers vs a) b o.ref move o.built) in
          follow (of_same (then_same (tested_same vs κ c go β) (and_same go k.ref k.built))) (follow (unless_placed g.ref g.built _ (start_placed a κ l v g.ref move g.built (λ x' v' p. h x' v' (inl p))))
          (follow (of_same (then_same (not_same k.ref s.built) (and_same go n.ref n.built))) (follow (unless_placed o.ref o.built _ (start_placed b κ (l + labels a) (v + registers vs a) o.ref move o.built (λ x' v' p. h x' v' (inr p)))) (of_same (or_same s.ref t.ref t.built)))))
      start_placed (seq ts) κ l v go move β h = turn_placed ts κ l v go move β h
      start_placed (par ts) κ l v go move β h =
          let s = start_each vs κ l v ts go move β in
          follow (each_placed ts κ l v go move β h) (of_same (and_all_same s.refs go s.built))
      start_placed (loop t c) κ l v go move β h = unless_placed go β _ (start_placed t κ l v go move β h)
      start_placed (abort weak false t c) κ l v go move β h = unless_placed go β _ (start_placed t κ l v go move β h)
      start_placed (abort false true t c) κ l v go move β h =
          let k = tested vs κ c go β in
          let n = not_of k.ref k.built in
          let g = and_of go n.ref n.built in
          let s = unless_zero g.ref g.built (start vs κ l v t g.ref move g.built) in
          let o = and_of go k.ref s.built in
          follow (of_same (then_same (tested_same vs κ c go β) (then_same (not_same k.ref k.built) (and_same go n.ref n.built)))) (follow (unless_placed g.ref g.built _ (start_placed t κ l v g.ref move g.built h))
          (of_same (then_same (and_same go k.ref s.built) (or_same s.ref o.ref o.built))))
      start_placed (abort true true t c) κ l v go move β h =
          let k = tested vs κ c go β in
          let n = not_of k.ref k.built in
          let m = and_of move n.ref n.built in
          let s = unless_zero go m.built (start vs κ l v t go m.ref m.built) in
          let o = and_of go k.ref s.built in
          follow (of_same (then_same (tested_same vs κ c go β) (then_same (not_same k.ref k.built) (and_same move n.ref n.built)))) (follow (unless_placed go m.built _ (start_placed t κ l v go m.ref m.built h))
          (of_same (then_same (and_same go k.ref s.built) (or_same s.ref o.ref o.built))))
      start_placed (suspend weak false t c) κ l v go move β h = unless_placed go β _ (start_placed t κ l v go move β h)
      start_placed (suspend false true t c) κ l v go move β h =
          let k = tested vs κ c go β in
          let b = and_of go k.ref k.built in
          let w = and_of b.ref move b.built in
          let e = enter l w.ref w.built in
          let n = not_of k.ref e in
          let g = and_of go n.ref n.built in
          follow (of_same (then_same (tested_same vs κ c go β) (then_same (and_same go k.ref k.built) (then_same (and_same b.ref move b.built) (then_same (enter_same l w.ref w.built) (then_same (not_same k.ref e) (and_same go n.ref n.built)))))))
          (unless_placed g.ref g.built _ (start_placed t κ (l + 1) v g.ref move g.built h))
      start_placed (suspend true true t c) κ l v go move β h =
          let k = tested vs κ c go β in
          let b = and_of go k.ref k.built in
          let w = and_of b.ref move b.built in
          let e = enter l w.ref w.built in
          let n = not_of k.ref e in
          let m = and_of move n.ref n.built in
          let s = unless_zero go m.built (start vs κ (l + 1) v t go m.ref m.built) in
          let o = not_of k.ref s.built in
          follow (of_same (then_same (tested_same vs κ c go β) (then_same (and_same go k.ref k.built) (then_same (and_same b.ref move b.built) (then_same (enter_same l w.ref w.built) (then_same (not_same k.ref e) (and_same move n.ref n.built)))))))
          (follow (unless_placed go m.built _ (start_placed t κ (l + 1) v go m.ref m.built h)) (of_same (then_same (not_same k.ref s.built) (and_same s.ref o.ref o.built))))
      start_placed (scope x z t) κ l v go move β h =
          let inner = reserve vs x false β in
          let s = unless_zero go inner (start vs (entering vs x κ β) l (v + scope_registers vs (labels t) x) t go move inner) in
          scope_placed x (labels t) v go move β s (λ p. h x v (inl (refl, refl, p)))
          (unless_placed go inner _ (start_placed t (entering vs x κ β) l (v + scope_registers vs (labels t) x) go move inner (λ x' v' p. h x' v' (inr p))))

      pub turn_placed : (ts : Terms) (κ : Copies) (l v : ℕ) (go move : Ref) (β : Builder) → ((x' v' : ℕ) → AtAll v ts x' v' → P x' v') → Placed β (start_in_turn vs κ l v ts go move β).built
      turn_placed none κ l v go move β h = rest β
      turn_placed (part t ts) κ l v go move β h =
          let s = unless_zero go β (start vs κ l v t go move β) in
          follow (unless_placed go β _ (start_placed t κ l v go move β (λ x' v' p. h x' v' (inl p)))) (turn_placed ts κ (l + labels t) (v + registers vs t) s.ref move s.built (λ x' v' p. h x' v' (inr p)))

      pub each_placed : (ts : Terms) (κ : Copies) (l v : ℕ) (go move : Ref) (β : Builder) → ((x' v' : ℕ) → AtAll v ts x' v' → P x' v') → Placed β (start_each vs κ l v ts go move β).built
      each_placed none κ l v go move β h = rest β
      each_placed (part t ts) κ l v go move β h =
          let s = unless_zero go β (start vs κ l v t go move β) in
          follow (unless_placed go β _ (start_placed t κ l v go move β (λ x' v' p. h x' v' (inl p)))) (each_placed ts κ (l + labels t) (v + registers vs t) go move s.built (λ x' v' p. h x' v' (inr p)))

    pub surface_placed : (s : Term) (κ : Copies) (l v : ℕ) (go move : Ref) (β : Builder) → ((x' v' : ℕ) → At v s x' v' → P x' v') → Placed β (surface vs κ l v s go move β).built
    surface_placed s κ l v go move β h = unless_placed go β _ (start_placed s κ l v go move β h)
