-- The depth of a statement makes one copy with store for each scope with registers.
use Rattle.std.proofs.Common.{◌≡◌, inl, inr, ℕ, zero, suc, ◌+◌, true, false, List, [], ◌∷◌, ◌++◌, refl, sym, ap, ◌∙◌, arith, append-nil, append_assoc, ◌<◌}
use Rattle.quartz_expr.specs.Vars.{Vars}
use Rattle.quartz_expr.specs.Terms.{Term, nothing, pause, write, choose, seq, par, loop, abort, suspend, scope, Terms, none, part}
use Rattle.aif_cells.specs.declared.reference.Ref.{Ref}
use Rattle.aif_cells.specs.declared.reference.Ref.TheVariants as ref
use Rattle.statement_cells.specs.Labels.{labels, labels_all, registers, scope_registers}
use Rattle.statement_cells.specs.Expressions.{Copies}
use Rattle.statement_cells.specs.Builder.{resumed, Builder, Made, Closed, DepthCopy, and_of, close_scope, entering, in_of, keep_depth, not_of, or_of, reserve, stay_at, zero_ref, Activity, Reserved}
use Rattle.statement_cells.specs.Surface.{at_end, depth, if_labels, resume, resume_each, resume_in_turn, scope_resumed, surface, suspended, tested}
use Rattle.statement_cells.proofs.PlaceLemmas.{Same, and_more_same, and_same, end_same, in_same, not_same, or_same, stay_same, suspended_same, tested_same, then_same}
use Rattle.statement_cells.proofs.PlacedLemmas.{AllAt, At, AtAll, Placed, follow, of_same, rest, surface_placed, AllAbsent, close_absent, reserving, Listed, close_listed}
use Rattle.statement_cells.specs.Whole.{variable_registers}

-- copies of two parts, one behind the other
pub record Both (P Q : List DepthCopy → Type 0) (ds : List DepthCopy) : Type 0 where
  pub first : List DepthCopy
  pub second : List DepthCopy
  pub splits : ds ≡ first ++ second
  pub left : P first
  pub right : Q second

abbrev pub own_depths : (registers : ℕ) → DepthCopy → List DepthCopy
own_depths zero d = []
own_depths (suc _) d = d ∷ []

-- the copy of a scope with registers behind those of its body
pub record Own (x v n : ℕ) (P : List DepthCopy → Type 0) (ds : List DepthCopy) : Type 0 where
  pub inner : List DepthCopy
  pub copy : DepthCopy
  pub splits : ds ≡ inner ++ own_depths n copy
  pub var : copy.var ≡ x
  pub first : copy.first ≡ v
  pub body : P inner

abbrev pub NoDepths : List DepthCopy → Type 0
NoDepths ds = ds ≡ []

module _ (vs : Vars) where
  -- one copy for each scope with registers
  abbrev mutual
    pub DepthsOf : (v : ℕ) → Term → List DepthCopy → Type 0
    DepthsOf v nothing = NoDepths
    DepthsOf v pause = NoDepths
    DepthsOf v (write _ _ _ _ _ _) = NoDepths
    DepthsOf v (choose _ a b) = Both (DepthsOf v a) (DepthsOf (v + registers vs a) b)
    DepthsOf v (seq ts) = DepthsOfAll v ts
    DepthsOf v (par ts) = DepthsOfAll v ts
    DepthsOf v (loop t _) = DepthsOf v t
    DepthsOf v (abort _ _ t _) = DepthsOf v t
    DepthsOf v (suspend _ _ t _) = DepthsOf v t
    DepthsOf v (scope x _ t) = Own x v (scope_registers vs (labels t) x) (DepthsOf (v + scope_registers vs (labels t) x) t)

    pub DepthsOfAll : (v : ℕ) → Terms → List DepthCopy → Type 0
    DepthsOfAll v none = NoDepths
    DepthsOfAll v (part t ts) = Both (DepthsOf v t) (DepthsOfAll (v + registers vs t) ts)

  -- a statement without labels has none
  mutual
    none_of : (t : Term) (v : ℕ) → labels t ≡ 0 → DepthsOf v t []
    none_of nothing v e = refl
    none_of pause v e = absurd (cc)
    none_of (write x i e d p q) v f = refl
    none_of (choose c a b) v e = record { first = []; second = []; splits = refl; left = none_of a v (omega (arith, e)); right = none_of b (v + registers vs a) (omega (arith, e)) }
    none_of (seq ts) v e = none_of_all ts v e
    none_of (par ts) v e = none_of_all ts v e
    none_of (loop t c) v e = none_of t v e
    none_of (abort w i t c) v e = none_of t v e
    none_of (suspend w true t c) v e = absurd (cc)
    none_of (suspend w false t c) v e = none_of t v e
    none_of (scope x s t) v e =
        let d : DepthCopy = record { var = x; label = 0; labels = 0; first = v; closed = record { values = []; flags = []; pending = [] } } in
        record { inner = []; copy = d; splits = sym (ap (λ n. own_depths (scope_registers vs n x) d) e); var = refl; first = refl; body = none_of t (v + scope_registers vs (labels t) x) e }

    none_of_all : (ts : Terms) (v : ℕ) → labels_all ts ≡ 0 → DepthsOfAll v ts []
    none_of_all none v e = refl
    none_of_all (part t ts) v e = record { first = []; second = []; splits = refl; left = none_of t v (omega (arith, e)); right = none_of_all ts (v + registers vs t) (omega (arith, e)) }

  module _ (P : ℕ → ℕ → Type 0) where
    -- copies with store are added
    pub record Grown (Q : List DepthCopy → Type 0) (before after : Builder) : Type 0 where
      pub entered : AllAt vs P before.entered → AllAt vs P after.entered
      pub more : List DepthCopy
      pub depths : after.depths ≡ before.depths ++ more
      pub of : Q more
      pub scopes : AllAbsent vs P before.scopes → AllAbsent vs P after.scopes
      pub listed : (rs : List Reserved) → Listed rs before → Listed rs after

    abbrev none_grown : {a b : Builder} → Placed vs P a b → Grown NoDepths a b
    none_grown {a = a} g = record { entered = g.entered; more = []; depths = g.depths ∙ sym (append-nil a.depths); of = refl; scopes = g.scopes; listed = g.listed }

    abbrev behind : {a b c : Builder} {Q : List DepthCopy → Type 0} → Placed vs P a b → Grown Q b c → Grown Q a c
    behind g h = record { entered = λ w. h.entered (g.entered w); more = h.more; depths = h.depths ∙ ap (λ l. l ++ h.more) g.depths; of = h.of; scopes = λ w. h.scopes (g.scopes w); listed = λ rs w. h.listed rs (g.listed rs w) }

    abbrev before : {a b c : Builder} {Q : List DepthCopy → Type 0} → Grown Q a b → Placed vs P b c → Grown Q a c
    before g h = record { entered = λ w. h.entered (g.entered w); more = g.more; depths = h.depths ∙ g.depths; of = g.of; scopes = λ w. h.scopes (g.scopes w); listed = λ rs w. h.listed rs (g.listed rs w) }

    abbrev two : {a b c : Builder} {Q R : List DepthCopy → Type 0} → Grown Q a b → Grown R b c → Grown (Both Q R) a c
    two {a = a} g h = record {
      entered = λ w. h.entered (g.entered w);
      more = g.more ++ h.more;
      depths = h.depths ∙ ap (λ l. l ++ h.more) g.depths ∙ append_assoc a.depths g.more h.more;
      of = record { first = g.more; second = h.more; splits = refl; left = g.of; right = h.of };
      scopes = λ w. h.scopes (g.scopes w);
      listed = λ rs w. h.listed rs (g.listed rs w);
    }

    if_grown : (t : Term) (v : ℕ) (β : Builder) (m : Made) → (0 < labels t → Grown (DepthsOf v t) β m.built) → Grown (DepthsOf v t) β (if_labels (labels t) β m).built
    if_grown t v β m g = at (labels t) refl
      where
        at : (n : ℕ) → labels t ≡ n → Grown (DepthsOf v t) β (if_labels n β m).built
        at zero e = record { entered = λ w. w; more = []; depths = sym (append-nil β.depths); of = none_of t v e; scopes = λ w. w; listed = λ rs w. w }
        at (suc n) e = g (omega (arith, e))

    kept_grown : (Q : List DepthCopy → Type 0) (x l m v n : ℕ) (c : Closed) (β : Builder) → Grown Q β c.built → Grown (Own x v n Q) β (keep_depth n (record { var = x; label = l; labels = m; first = v; closed = c.refs }) c.built)
    unfolding keep_depth
    kept_grown Q x l m v zero c β g = record {
      entered = g.entered;
      more = g.more;
      depths = g.depths;
      of = record { inner = g.more; copy = record { var = x; label = l; labels = m; first = v; closed = c.refs }; splits = sym (append-nil g.more); var = refl; first = refl; body = g.of };
      scopes = g.scopes;
      listed = g.listed;
    }
    kept_grown Q x l m v (suc n) c β g =
        let d : DepthCopy = record { var = x; label = l; labels = m; first = v; closed = c.refs } in
        record {
          entered = g.entered;
          more = g.more ++ d ∷ [];
          depths = ap (λ (ds : List DepthCopy). ds ++ d ∷ []) g.depths ∙ append_assoc β.depths g.more (d ∷ []);
          of = record { inner = g.more; copy = d; splits = refl; var = refl; first = refl; body = g.of };
          scopes = g.scopes;
          listed = g.listed;
        }

    -- closing adds the copy
    close_grown : (Q : List DepthCopy → Type 0) (x v : ℕ) (a : Activity) (β inner : Builder) → (0 < variable_registers vs x → P x v) → Grown Q (reserve vs x true β) inner → Grown Q β (close_scope vs x true v a β inner).built
    unfolding close_scope
    close_grown Q x v a β inner h g =
        let r = reserving vs P x true β in
        record { entered = λ w. g.entered (r.entered w); more = g.more; depths = g.depths ∙ ap (λ (ds : List DepthCopy). ds ++ g.more) r.depths; of = g.of; scopes = close_absent vs P x true v a β inner (λ e. h) (g.scopes r.scopes); listed = close_listed vs P x true v a β inner (g.listed (reserve vs x true β).reserved r.listed) }

    scope_grown : (Q : List DepthCopy → Type 0) (x l n v : ℕ) (res : Ref) (β : Builder) (inner : Made) → (0 < variable_registers vs x → P x v) → Grown Q (reserve vs x true β) inner.built → Grown (Own x v (scope_registers vs n x) Q) β (scope_resumed vs x l n v res β inner).built
    unfolding scope_resumed
    scope_grown Q x l n v res β inner h g = kept_grown Q x l n v (scope_registers vs n x) (close_scope vs x true v (resumed l n res) β inner.built) β (close_grown Q x v (resumed l n res) β inner.built h g)

    registers_there : (x n : ℕ) → 0 < n → 0 < variable_registers vs x → 0 < scope_registers vs n x
    registers_there x zero l p = absurd (omega (arith, l))
    registers_there x (suc n) l p = p

    abbrev quiet : {a b : Builder} → Same a b → Placed vs P a b
    quiet g = of_same vs P g

    mutual
      unfolding resume

      pub resume_grown : (s : Term) (κ : Copies) (l v : ℕ) (res move stay : Ref) (β : Builder) → ((x' v' : ℕ) → At vs v s x' v' → P x' v') → 0 < labels s → Grown (DepthsOf v s) β (resume vs κ l v s res move stay β).built
      resume_grown nothing κ l v res move stay β h some = none_grown (rest vs P β)
      resume_grown pause κ l v res move stay β h some = none_grown (quiet (then_same (stay_same l stay β) (and_same (ref.Reg l) res (stay_at l stay β))))
      resume_grown (write x i e d p q) κ l v res move stay β h some = none_grown (rest vs P β)
      resume_grown (choose c a b) κ l v res move stay β h some =
          let s = if_labels (labels a) β (resume vs κ l v a res move stay β) in
          let t = if_labels (labels b) s.built (resume vs κ (l + labels a) (v + registers vs a) b res move stay s.built) in
          before (two (if_grown a v β _ (λ some. resume_grown a κ l v res move stay β (λ x' v' p. h x' v' (inl p)) some)) (if_grown b (v + registers vs a) s.built _ (λ some. resume_grown b κ (l + labels a) (v + registers vs a) res move stay s.built (λ x' v' p. h x' v' (inr p)) some)))
          (quiet (or_same s.ref t.ref t.built))
      resume_grown (seq ts) κ l v res move stay β h some = turn_grown ts κ l v zero_ref res move stay β h
      resume_grown (par ts) κ l v res move stay β h some =
          let s = resume_each vs κ l v ts res move stay β in
          let e = at_end vs l ts s.refs s.built in
          let i = in_of l (labels_all ts) e.built in
          let n = and_of i.ref res i.built in
          before (each_grown ts κ l v res move stay β h) (quiet (then_same (end_same vs ts l s.refs s.built) (then_same (in_same l (labels_all ts) e.built) (then_same (and_same i.ref res i.built) (and_more_same e.refs n.ref n.built)))))
      resume_grown (loop t c) κ l v res move stay β h some =
          let s = if_labels (labels t) β (resume vs κ l v t res move stay β) in
          let k = tested vs κ c s.ref s.built in
          let g = and_of s.ref k.ref k.built in
          let a = surface vs κ l v t g.ref move g.built in
          let n = not_of k.ref a.built in
          before (if_grown t v β _ (λ some. resume_grown t κ l v res move stay β h some)) (follow vs P (quiet (then_same (tested_same vs κ c s.ref s.built) (and_same s.ref k.ref k.built)))
          (follow vs P (surface_placed vs P t κ l v g.ref move g.built h) (quiet (then_same (not_same k.ref a.built) (and_same s.ref n.ref n.built)))))
      resume_grown (abort false i t c) κ l v res move stay β h some =
          let i = in_of l (labels t) β in
          let n = and_of i.ref res i.built in
          let k = tested vs κ c n.ref n.built in
          let o = not_of k.ref k.built in
          let r = and_of res o.ref o.built in
          let s = if_labels (labels t) r.built (resume vs κ l v t r.ref move stay r.built) in
          let e = and_of n.ref k.ref s.built in
          behind (quiet (then_same (in_same l (labels t) β) (then_same (and_same i.ref res i.built) (then_same (tested_same vs κ c n.ref n.built) (then_same (not_same k.ref k.built) (and_same res o.ref o.built))))))
          (before (if_grown t v r.built _ (λ some. resume_grown t κ l v r.ref move stay r.built h some)) (quiet (then_same (and_same n.ref k.ref s.built) (or_same s.ref e.ref e.built))))
      resume_grown (abort true i t c) κ l v res move stay β h some =
          let i = in_of l (labels t) β in
          let n = and_of i.ref res i.built in
          let k = tested vs κ c n.ref n.built in
          let o = not_of k.ref k.built in
          let m = and_of move o.ref o.built in
          let s = if_labels (labels t) m.built (resume vs κ l v t res m.ref stay m.built) in
          let e = and_of n.ref k.ref s.built in
          behind (quiet (then_same (in_same l (labels t) β) (then_same (and_same i.ref res i.built) (then_same (tested_same vs κ c n.ref n.built) (then_same (not_same k.ref k.built) (and_same move o.ref o.built))))))
          (before (if_grown t v m.built _ (λ some. resume_grown t κ l v res m.ref stay m.built h some)) (quiet (then_same (and_same n.ref k.ref s.built) (or_same s.ref e.ref e.built))))
      resume_grown (suspend false false t c) κ l v res move stay β h some =
          let z = suspended vs κ l (labels t) c res move stay β in
          let o = not_of z.cond z.built in
          let q = and_of res o.ref o.built in
          behind (quiet (then_same (suspended_same vs κ l (labels t) c res move stay β) (then_same (not_same z.cond z.built) (and_same res o.ref o.built))))
          (if_grown t v q.built _ (λ some. resume_grown t κ l v q.ref move z.stay q.built h some))
      resume_grown (suspend true false t c) κ l v res move stay β h some =
          let z = suspended vs κ l (labels t) c res move stay β in
          let o = not_of z.cond z.built in
          let m = and_of move o.ref o.built in
          let s = if_labels (labels t) m.built (resume vs κ l v t res m.ref z.stay m.built) in
          let e = not_of z.cond s.built in
          behind (quiet (then_same (suspended_same vs κ l (labels t) c res move stay β) (then_same (not_same z.cond z.built) (and_same move o.ref o.built))))
          (before (if_grown t v m.built _ (λ some. resume_grown t κ l v res m.ref z.stay m.built h some)) (quiet (then_same (not_same z.cond s.built) (and_same s.ref e.ref e.built))))
      resume_grown (suspend false true t c) κ l v res move stay β h some =
          let z = suspended vs κ l (suc (labels t)) c res move stay β in
          let o = not_of z.cond z.built in
          let q = and_of res o.ref o.built in
          let g = and_of (ref.Reg l) q.ref (stay_at l z.stay q.built) in
          let a = surface vs κ (l + 1) v t g.ref move g.built in
          let s = if_labels (labels t) a.built (resume vs κ (l + 1) v t q.ref move z.stay a.built) in
          behind (follow vs P (quiet (then_same (suspended_same vs κ l (suc (labels t)) c res move stay β) (then_same (not_same z.cond z.built) (then_same (and_same res o.ref o.built) (then_same (stay_same l z.stay q.built) (and_same (ref.Reg l) q.ref (stay_at l z.stay q.built)))))))
          (surface_placed vs P t κ (l + 1) v g.ref move g.built h))
          (before (if_grown t v a.built _ (λ some. resume_grown t κ (l + 1) v q.ref move z.stay a.built h some)) (quiet (or_same a.ref s.ref s.built)))
      resume_grown (suspend true true t c) κ l v res move stay β h some =
          let z = suspended vs κ l (suc (labels t)) c res move stay β in
          let o = not_of z.cond z.built in
          let m = and_of move o.ref o.built in
          let g = and_of (ref.Reg l) res (stay_at l z.stay m.built) in
          let a = surface vs κ (l + 1) v t g.ref m.ref g.built in
          let s = if_labels (labels t) a.built (resume vs κ (l + 1) v t res m.ref z.stay a.built) in
          let b = or_of a.ref s.ref s.built in
          let e = not_of z.cond b.built in
          behind (follow vs P (quiet (then_same (suspended_same vs κ l (suc (labels t)) c res move stay β) (then_same (not_same z.cond z.built) (then_same (and_same move o.ref o.built) (then_same (stay_same l z.stay m.built) (and_same (ref.Reg l) res (stay_at l z.stay m.built)))))))
          (surface_placed vs P t κ (l + 1) v g.ref m.ref g.built h))
          (before (if_grown t v a.built _ (λ some. resume_grown t κ (l + 1) v res m.ref z.stay a.built h some)) (quiet (then_same (or_same a.ref s.ref s.built) (then_same (not_same z.cond b.built) (and_same b.ref e.ref e.built)))))
      resume_grown (scope x y t) κ l v res move stay β h some =
          let inner = reserve vs x true β in
          let s = if_labels (labels t) inner (resume vs (entering vs x κ β) l (v + scope_registers vs (labels t) x) t res move stay inner) in
          scope_grown (DepthsOf (v + scope_registers vs (labels t) x) t) x l (labels t) v res β s (λ p. h x v (inl (refl, refl, registers_there x (labels t) some p)))
          (if_grown t (v + scope_registers vs (labels t) x) inner _ (λ some. resume_grown t (entering vs x κ β) l (v + scope_registers vs (labels t) x) res move stay inner (λ x' v' p. h x' v' (inr p)) some))

      pub turn_grown : (ts : Terms) (κ : Copies) (l v : ℕ) (b res move stay : Ref) (β : Builder) → ((x' v' : ℕ) → AtAll vs v ts x' v' → P x' v') → Grown (DepthsOfAll v ts) β (resume_in_turn vs κ l v ts b res move stay β).built
      turn_grown none κ l v b res move stay β h = none_grown (rest vs P β)
      turn_grown (part t ts) κ l v b res move stay β h =
          let a = surface vs κ l v t b move β in
          let s = if_labels (labels t) a.built (resume vs κ l v t res move stay a.built) in
          let o = or_of a.ref s.ref s.built in
          two (behind (surface_placed vs P t κ l v b move β (λ x' v' p. h x' v' (inl p))) (before (if_grown t v a.built _ (λ some. resume_grown t κ l v res move stay a.built (λ x' v' p. h x' v' (inl p)) some)) (quiet (or_same a.ref s.ref s.built))))
          (turn_grown ts κ (l + labels t) (v + registers vs t) o.ref res move stay o.built (λ x' v' p. h x' v' (inr p)))

      pub each_grown : (ts : Terms) (κ : Copies) (l v : ℕ) (res move stay : Ref) (β : Builder) → ((x' v' : ℕ) → AtAll vs v ts x' v' → P x' v') → Grown (DepthsOfAll v ts) β (resume_each vs κ l v ts res move stay β).built
      each_grown none κ l v res move stay β h = none_grown (rest vs P β)
      each_grown (part t ts) κ l v res move stay β h =
          let s = if_labels (labels t) β (resume vs κ l v t res move stay β) in
          two (if_grown t v β _ (λ some. resume_grown t κ l v res move stay β (λ x' v' p. h x' v' (inl p)) some)) (each_grown ts κ (l + labels t) (v + registers vs t) res move stay s.built (λ x' v' p. h x' v' (inr p)))

    pub depth_grown : (s : Term) (κ : Copies) (l v : ℕ) (res move stay : Ref) (β : Builder) → ((x' v' : ℕ) → At vs v s x' v' → P x' v') → Grown (DepthsOf v s) β (depth vs κ l v s res move stay β).built
    depth_grown s κ l v res move stay β h = if_grown s v β _ (λ some. resume_grown s κ l v res move stay β h some)
