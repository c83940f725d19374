-- The surface of a statement, which starts it, and its depth, which goes on from its labels.
use Rattle.std.specs.Prelude.{ℕ, zero, suc, ◌+◌, pos, Bool, true, false, List, [], ◌∷◌, ◌++◌, Option, Some, None}
use Rattle.quartz_tree.specs.declared.place.Place.{Place}
use Rattle.quartz_tree.specs.Tree.{Tree as Expr}
use Rattle.quartz_expr.specs.Vars.{Vars}
use Rattle.quartz_expr.specs.Terms.{Term, nothing, pause, write, choose, seq, par, loop, abort, suspend, scope, Terms, none, part}
use Rattle.aif_cells.specs.declared.reference.Ref.{Ref}
use Rattle.aif_cells.specs.declared.reference.Ref.TheVariants as ref
use Rattle.aif_cells.specs.Tree.{value}
use Rattle.statement_cells.specs.Labels.{labels, labels_all, registers, scope_registers}
use Rattle.statement_cells.specs.Expressions.{Copies, copy_of, tree_of, tests_of, target_tests, element_tests, range_tests, fitted_tree}
use Rattle.statement_cells.specs.Builder.{Builder, Made, started, resumed, given, zero_ref, not_of, and_of, or_of, in_of, cell_of, enter, stay_at, act, watch, reserve, entering, close_scope, keep_entered, keep_depth}

-- with the literal 0 nothing is made
abbrev pub unless_zero : Ref → Builder → Made → Made
unless_zero (ref.Lit (pos zero)) β m = given zero_ref β
unless_zero _ β m = m

abbrev pub unless_zero_watch : Ref → Builder → Builder → Builder
unless_zero_watch (ref.Lit (pos zero)) β m = β
unless_zero_watch _ β m = m

-- without labels nothing is made
abbrev pub if_labels : (labels : ℕ) → Builder → Made → Made
if_labels zero β m = given zero_ref β
if_labels (suc _) β m = m

-- the monitors of an expression's faults under a guard
unfoldable pub watched : Vars → Copies → Expr ℕ → (guard : Ref) → Builder → Builder
watched vs κ e g β = unless_zero_watch g β (watch (tests_of vs κ (value g) e) β)

-- a condition, and the monitors of its faults
unfoldable pub tested : Vars → Copies → Expr ℕ → (guard : Ref) → Builder → Made
tested vs κ c g β = cell_of (tree_of vs κ c) (watched vs κ c g β)

-- ---- writes

-- an index, if there is one, and the builder behind it
pub record MadeIndex : Type 0 where
  pub ref : Option Ref
  pub built : Builder

abbrev pub some_index : Made → MadeIndex
some_index m = record { ref = Some m.ref; built = m.built }

abbrev pub index_of : Vars → Copies → Option (Expr ℕ) → Builder → MadeIndex
index_of vs κ None β = record { ref = None; built = β }
index_of vs κ (Some i) β = some_index (cell_of (tree_of vs κ i) β)

-- the monitors of a write's faults, and its action
unfoldable pub written : Vars → Copies → (var : ℕ) → Option (Expr ℕ) → Expr ℕ → (delayed : Bool) → (place target_place : Place) → (go : Ref) → Builder → Builder
written vs κ x i e d p q go β =
    let g = value go in
    let tested_parts = watch (target_tests vs κ g i ++ tests_of vs κ g e) β in
    let index = index_of vs κ i tested_parts in
    let tested = watch (element_tests vs κ g x i q ++ range_tests vs κ g x e p) index.built in
    let v = cell_of (fitted_tree vs κ x e) tested in
    act (record { guard = go; var = x; copy = copy_of κ x; index = index.ref; value = v.ref; delayed = d; place = p }) v.built

-- ---- scopes

-- closes the copy without store of a scope, and says where it is still active behind the step
unfoldable pub scope_started : Vars → (var : ℕ) → (labels first : ℕ) → (go move : Ref) → (before : Builder) → (inner : Made) → Made
scope_started vs x n v go move before inner = entered_if (scope_registers vs n x)
  where
    entered_if : ℕ → Made
    entered_if zero = given inner.ref (close_scope vs x false v (started go) before inner.built).built
    entered_if (suc r) =
        let c = close_scope vs x false v (started go) before inner.built in
        let m = and_of go move c.built in
        let e = not_of inner.ref m.built in
        let enters = and_of m.ref e.ref e.built in
        given inner.ref (keep_entered (suc r) x v enters.ref c.refs enters.built)

-- closes the copy with store of a scope
unfoldable pub scope_resumed : Vars → (var : ℕ) → (label labels first : ℕ) → (res : Ref) → (before : Builder) → (inner : Made) → Made
scope_resumed vs x l n v res before inner =
    let c = close_scope vs x true v (resumed l n res) before inner.built in
    given inner.ref (keep_depth (scope_registers vs n x) (record { var = x; label = l; labels = n; first = v; closed = c.refs }) c.built)

-- ---- several references

pub record MadeAll : Type 0 where
  pub refs : List Ref
  pub built : Builder

abbrev pub given_all : List Ref → Builder → MadeAll
given_all rs β = record { refs = rs; built = β }

-- the reference and all others, joined by `and` from left to right
unfoldable pub and_more : Ref → List Ref → Builder → Made
and_more e [] β = given e β
and_more e (r ∷ rs) β = let m = and_of e r β in and_more m.ref rs m.built

-- all of them hold; of none, it is the given one
unfoldable pub and_all : Ref → List Ref → Builder → Made
and_all e [] β = given e β
and_all e (r ∷ rs) β = and_more r rs β

-- ---- surface and depth

module _ (vs : Vars) where
  unfoldable mutual
    -- the surface where `go` isn't the literal 0
    pub start : Copies → (l v : ℕ) → Term → (go move : Ref) → Builder → Made
    start κ l v nothing go move β = given go β
    start κ l v pause go move β =
        let g = and_of go move β in
        given zero_ref (enter l g.ref g.built)
    start κ l v (write x i e d p q) go move β = given go (written vs κ x i e d p q go β)
    start κ l v (choose c a b) go move β =
        let k = tested vs κ c go β in
        let g = and_of go k.ref k.built in
        let s = unless_zero g.ref g.built (start κ l v a g.ref move g.built) in
        let n = not_of k.ref s.built in
        let h = and_of go n.ref n.built in
        let t = unless_zero h.ref h.built (start κ (l + labels a) (v + registers vs a) b h.ref move h.built) in
        or_of s.ref t.ref t.built
    start κ l v (seq ts) go move β = start_in_turn κ l v ts go move β
    start κ l v (par ts) go move β =
        let s = start_each κ l v ts go move β in
        and_all go s.refs s.built
    start κ l v (loop t c) go move β =
        let s = unless_zero go β (start κ l v t go move β) in
        given zero_ref s.built
    start κ l v (abort weak false t c) go move β = unless_zero go β (start κ l v t go move β)
    start κ l v (abort false true t c) go move β =
        let k = tested vs κ c go β in
        let n = not_of k.ref k.built in
        let g = and_of go n.ref n.built in
        let s = unless_zero g.ref g.built (start κ l v t g.ref move g.built) in
        let h = and_of go k.ref s.built in
        or_of s.ref h.ref h.built
    start κ l v (abort true true t c) go move β =
        let k = tested vs κ c go β in
        let n = not_of k.ref k.built in
        let m = and_of move n.ref n.built in
        let s = unless_zero go m.built (start κ l v t go m.ref m.built) in
        let h = and_of go k.ref s.built in
        or_of s.ref h.ref h.built
    start κ l v (suspend weak false t c) go move β = unless_zero go β (start κ l v t go move β)
    start κ l v (suspend false true t c) go move β =
        let k = tested vs κ c go β in
        let b = and_of go k.ref k.built in
        let w = and_of b.ref move b.built in
        let n = not_of k.ref (enter l w.ref w.built) in
        let g = and_of go n.ref n.built in
        unless_zero g.ref g.built (start κ (l + 1) v t g.ref move g.built)
    start κ l v (suspend true true t c) go move β =
        let k = tested vs κ c go β in
        let b = and_of go k.ref k.built in
        let w = and_of b.ref move b.built in
        let n = not_of k.ref (enter l w.ref w.built) in
        let m = and_of move n.ref n.built in
        let s = unless_zero go m.built (start κ (l + 1) v t go m.ref m.built) in
        let o = not_of k.ref s.built in
        and_of s.ref o.ref o.built
    start κ l v (scope x _ t) go move β =
        let inner = reserve vs x false β in
        let s = unless_zero go inner (start (entering vs x κ β) l (v + scope_registers vs (labels t) x) t go move inner) in
        scope_started vs x (labels t) v go move β s

    -- each part starts where the one before ends
    pub start_in_turn : Copies → (l v : ℕ) → Terms → (go move : Ref) → Builder → Made
    start_in_turn κ l v none go move β = given go β
    start_in_turn κ l v (part t ts) go move β =
        let s = unless_zero go β (start κ l v t go move β) in
        start_in_turn κ (l + labels t) (v + registers vs t) ts s.ref move s.built

    -- all parts start; where each of them ends
    pub start_each : Copies → (l v : ℕ) → Terms → (go move : Ref) → Builder → MadeAll
    start_each κ l v none go move β = given_all [] β
    start_each κ l v (part t ts) go move β =
        let s = unless_zero go β (start κ l v t go move β) in
        let more = start_each κ (l + labels t) (v + registers vs t) ts go move s.built in
        given_all (s.ref ∷ more.refs) more.built

  abbrev pub surface : Copies → (l v : ℕ) → Term → (go move : Ref) → Builder → Made
  surface κ l v t go move β = unless_zero go β (start κ l v t go move β)

  abbrev pub all_if_labels : (labels : ℕ) → (without those : MadeAll) → MadeAll
  all_if_labels zero m n = m
  all_if_labels (suc _) m n = n

  -- for each part with labels: it ended, where its reference holds, or it is at rest
  unfoldable pub at_end : (l : ℕ) → Terms → List Ref → Builder → MadeAll
  at_end l none rs β = given_all [] β
  at_end l (part t ts) [] β = given_all [] β
  at_end l (part t ts) (r ∷ rs) β =
      let i = in_of l (labels t) β in
      let o = not_of i.ref i.built in
      let e = or_of r o.ref o.built in
      let more = at_end (l + labels t) ts rs e.built in
      all_if_labels (labels t) (at_end (l + labels t) ts rs β) (given_all (e.ref ∷ more.refs) more.built)

  -- what a suspension begins with: its labels are alive, its condition, and where its labels stay
  pub record Suspended : Type 0 where
    pub cond : Ref
    pub stay : Ref
    pub built : Builder

  unfoldable pub suspended : Copies → (l n : ℕ) → Expr ℕ → (res move stay : Ref) → Builder → Suspended
  suspended κ l n c res move stay β =
      let i = in_of l n β in
      let a = and_of i.ref res i.built in
      let k = tested vs κ c a.ref a.built in
      let x = and_of move a.ref k.built in
      let y = and_of x.ref k.ref x.built in
      let h = or_of stay y.ref y.built in
      record { cond = k.ref; stay = h.ref; built = h.built }

  unfoldable mutual
    -- the depth of a statement with labels
    pub resume : Copies → (l v : ℕ) → Term → (res move stay : Ref) → Builder → Made
    resume κ l v nothing res move stay β = given zero_ref β
    resume κ l v pause res move stay β = and_of (ref.Reg l) res (stay_at l stay β)
    resume κ l v (write _ _ _ _ _ _) res move stay β = given zero_ref β
    resume κ l v (choose c a b) res move stay β =
        let s = if_labels (labels a) β (resume κ l v a res move stay β) in
        let t = if_labels (labels b) s.built (resume κ (l + labels a) (v + registers vs a) b res move stay s.built) in
        or_of s.ref t.ref t.built
    resume κ l v (seq ts) res move stay β = resume_in_turn κ l v ts zero_ref res move stay β
    resume κ l v (par ts) res move stay β =
        let s = resume_each κ l v ts res move stay β in
        let e = at_end l ts s.refs s.built in
        let i = in_of l (labels_all ts) e.built in
        let n = and_of i.ref res i.built in
        and_more n.ref e.refs n.built
    resume κ l v (loop t c) res move stay β =
        let s = if_labels (labels t) β (resume κ l v t res move stay β) in
        let k = tested vs κ c s.ref s.built in
        let g = and_of s.ref k.ref k.built in
        let a = surface κ l v t g.ref move g.built in
        let n = not_of k.ref a.built in
        and_of s.ref n.ref n.built
    resume κ l v (abort false _ t c) res move stay β =
        let i = in_of l (labels t) β in
        let n = and_of i.ref res i.built in
        let k = tested vs κ c n.ref n.built in
        let o = not_of k.ref k.built in
        let r = and_of res o.ref o.built in
        let s = if_labels (labels t) r.built (resume κ l v t r.ref move stay r.built) in
        let h = and_of n.ref k.ref s.built in
        or_of s.ref h.ref h.built
    resume κ l v (abort true _ t c) res move stay β =
        let i = in_of l (labels t) β in
        let n = and_of i.ref res i.built in
        let k = tested vs κ c n.ref n.built in
        let o = not_of k.ref k.built in
        let m = and_of move o.ref o.built in
        let s = if_labels (labels t) m.built (resume κ l v t res m.ref stay m.built) in
        let h = and_of n.ref k.ref s.built in
        or_of s.ref h.ref h.built
    resume κ l v (suspend false false t c) res move stay β =
        let h = suspended κ l (labels t) c res move stay β in
        let o = not_of h.cond h.built in
        let q = and_of res o.ref o.built in
        if_labels (labels t) q.built (resume κ l v t q.ref move h.stay q.built)
    resume κ l v (suspend true false t c) res move stay β =
        let h = suspended κ l (labels t) c res move stay β in
        let o = not_of h.cond h.built in
        let m = and_of move o.ref o.built in
        let s = if_labels (labels t) m.built (resume κ l v t res m.ref h.stay m.built) in
        let e = not_of h.cond s.built in
        and_of s.ref e.ref e.built
    resume κ l v (suspend false true t c) res move stay β =
        let h = suspended κ l (suc (labels t)) c res move stay β in
        let o = not_of h.cond h.built in
        let q = and_of res o.ref o.built in
        let g = and_of (ref.Reg l) q.ref (stay_at l h.stay q.built) in
        let a = surface κ (l + 1) v t g.ref move g.built in
        let s = if_labels (labels t) a.built (resume κ (l + 1) v t q.ref move h.stay a.built) in
        or_of a.ref s.ref s.built
    resume κ l v (suspend true true t c) res move stay β =
        let h = suspended κ l (suc (labels t)) c res move stay β in
        let o = not_of h.cond h.built in
        let m = and_of move o.ref o.built in
        let g = and_of (ref.Reg l) res (stay_at l h.stay m.built) in
        let a = surface κ (l + 1) v t g.ref m.ref g.built in
        let s = if_labels (labels t) a.built (resume κ (l + 1) v t res m.ref h.stay a.built) in
        let b = or_of a.ref s.ref s.built in
        let e = not_of h.cond b.built in
        and_of b.ref e.ref e.built
    resume κ l v (scope x _ t) res move stay β =
        let inner = reserve vs x true β in
        let s = if_labels (labels t) inner (resume (entering vs x κ β) l (v + scope_registers vs (labels t) x) t res move stay inner) in
        scope_resumed vs x l (labels t) v res β s

    -- each part goes on from its labels, and starts where the one before ends
    pub resume_in_turn : Copies → (l v : ℕ) → Terms → (before res move stay : Ref) → Builder → Made
    resume_in_turn κ l v none before res move stay β = given before β
    resume_in_turn κ l v (part t ts) before res move stay β =
        let a = surface κ l v t before move β in
        let s = if_labels (labels t) a.built (resume κ l v t res move stay a.built) in
        let o = or_of a.ref s.ref s.built in
        resume_in_turn κ (l + labels t) (v + registers vs t) ts o.ref res move stay o.built

    -- all parts go on; where each of them ends
    pub resume_each : Copies → (l v : ℕ) → Terms → (res move stay : Ref) → Builder → MadeAll
    resume_each κ l v none res move stay β = given_all [] β
    resume_each κ l v (part t ts) res move stay β =
        let s = if_labels (labels t) β (resume κ l v t res move stay β) in
        let more = resume_each κ (l + labels t) (v + registers vs t) ts res move stay s.built in
        given_all (s.ref ∷ more.refs) more.built

  abbrev pub depth : Copies → (l v : ℕ) → Term → (res move stay : Ref) → Builder → Made
  depth κ l v t res move stay β = if_labels (labels t) β (resume κ l v t res move stay β)
