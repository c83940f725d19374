-- What is built behind the closed copy of a scope: where it is still active, and what registers take.
use Rattle.std.proofs.Common.{◌≡◌, ℕ, zero, suc, ◌&&◌, not, Bool, true, false, List, [], ◌∷◌, ◌++◌, refl, sym, ap, ap₂, ◌∙◌, subst, append-nil}
use Rattle.quartz_tree.specs.declared.fault.Fault.{Fault}
use Rattle.quartz_expr.specs.Vars.{Vars}
use Rattle.quartz_expr.specs.React.{Met}
use Rattle.quartz_expr.specs.Resolve.{others}
use Rattle.aif_cells.specs.declared.reference.Ref.{Ref}
use Rattle.aif_cells.specs.Worth.{Assignment, truth}
use Rattle.absence_reaction.specs.Meaning.{raised}
use Rattle.reincarnation.specs.declared.copy.ClosedRefs.{ClosedRefs}
use Rattle.statement_cells.specs.Labels.{scope_registers}
use Rattle.statement_cells.specs.Stands.{some}
use Rattle.statement_cells.specs.Builder.{Builder, Closed, DepthCopy, Made, and_of, close_scope, given, keep_depth, keep_entered, not_of, reserve, resumed, started, EnteredCopy}
use Rattle.statement_cells.specs.Surface.{scope_resumed, scope_started}
use Rattle.statement_cells.specs.Walk.{Good, IsBuilt, Takes, Trail, acted, depth_takes, else_takes, entered_takes, met_by, next_marks, no_takes, no_trail, now, plus, takes_copy, takes_if, trail, Settles, CopyLies, EnteredLie, DepthsLie}
use Rattle.statement_cells.proofs.GrowLemmas.{Grows, and_grows, not_grows, stays, then_grows}
use Rattle.statement_cells.proofs.CellLemmas.{and_done, not_done}
use Rattle.statement_cells.proofs.TrailLemmas.{depth_both, entered_both, takes_none, union_none}
use Rattle.statement_cells.proofs.WatchLemmas.{nothing_added}
use Rattle.statement_cells.proofs.ScopeGrowLemmas.{close_grows, keep_depth_grows, keep_entered_grows}
use Rattle.statement_cells.proofs.ScopeTakesLemmas.{if_registers, takes_here}
use Rattle.statement_cells.proofs.ScopeCloseLemmas.{scope_trail}

-- registers alone
abbrev pub taking : Takes → Trail
taking f = record no_trail { takes = f }

abbrev pub defaulting : Takes → Trail
defaulting f = record no_trail { defaults = f }

-- what a scope adds, and what its registers take
pub taking_too : (x : ℕ) (ms : List Met) (fs : List Fault) (f : Takes) (o : Trail) → plus (scope_trail x ms fs no_takes no_takes o) (taking f) ≡ scope_trail x ms fs f no_takes o
taking_too x ms fs f o = λ i. record {
  acts = append-nil (others x o.acts) i;
  faults = append-nil (o.faults ++ fs) i;
  met = append-nil (ms ++ o.met) i;
  marks = union_none o.marks i;
  takes = ap (λ (a : Takes). else_takes a f) (takes_none o.takes) i;
  defaults = takes_none (else_takes o.defaults no_takes) i;
}

pub defaulting_too : (x : ℕ) (ms : List Met) (fs : List Fault) (f : Takes) (o : Trail) → plus (scope_trail x ms fs no_takes no_takes o) (defaulting f) ≡ scope_trail x ms fs no_takes f o
defaulting_too x ms fs f o = λ i. record {
  acts = append-nil (others x o.acts) i;
  faults = append-nil (o.faults ++ fs) i;
  met = append-nil (ms ++ o.met) i;
  marks = union_none o.marks i;
  takes = takes_none (else_takes o.takes no_takes) i;
  defaults = ap (λ (a : Takes). else_takes a f) (takes_none o.defaults) i;
}

none_if : (b : Bool) → takes_if b no_takes ≡ no_takes
none_if true = refl
none_if false = refl

-- what is built behind the closed copy of a scope that starts, by its registers
abbrev pub started_with : Vars → (x v : ℕ) → (registers : ℕ) → (go move : Ref) → Closed → (ref : Ref) → Made
started_with vs x v zero go move c a = given a c.built
started_with vs x v (suc r) go move c a =
    let m = and_of go move c.built in
    let e = not_of a m.built in
    let enters = and_of m.ref e.ref e.built in
    given a (keep_entered (suc r) x v enters.ref c.refs enters.built)

started_by : (vs : Vars) (x n v : ℕ) (go move : Ref) (β : Builder) (inner : Made) (r : ℕ) → scope_registers vs n x ≡ r
    → scope_started vs x n v go move β inner ≡ started_with vs x v r go move (close_scope vs x false v (started go) β inner.built) inner.ref
unfolding scope_started
started_by vs x n v go move β inner zero e = rw e refl
started_by vs x n v go move β inner (suc r) e = rw e refl

pub started_is : (vs : Vars) (x n v : ℕ) (go move : Ref) (β : Builder) (inner : Made)
    → scope_started vs x n v go move β inner ≡ started_with vs x v (scope_registers vs n x) go move (close_scope vs x false v (started go) β inner.built) inner.ref
started_is vs x n v go move β inner = started_by vs x n v go move β inner (scope_registers vs n x) refl

-- ---- growth

started_grows : (vs : Vars) (x v r : ℕ) (go move : Ref) (c : Closed) (a : Ref) → Grows vs c.built (started_with vs x v r go move c a).built
started_grows vs x v zero go move c a = stays vs c.built
started_grows vs x v (suc r) go move c a =
    let m = and_of go move c.built in
    let e = not_of a m.built in
    let enters = and_of m.ref e.ref e.built in
    then_grows vs c.built m.built _ (and_grows vs go move c.built)
    (then_grows vs m.built e.built _ (not_grows vs a m.built)
    (then_grows vs e.built enters.built _ (and_grows vs m.ref e.ref e.built) (keep_entered_grows vs (suc r) x v enters.ref c.refs enters.built)))

module _ (vs : Vars) (x n v : ℕ) where
  -- a builder grows by a scope that starts, if it grows by the body
  pub scope_started_grows : (go move : Ref) (β : Builder) (inner : Made) → Grows vs (reserve vs x false β) inner.built → Grows vs β (scope_started vs x n v go move β inner).built
  scope_started_grows go move β inner g =
      let c = close_scope vs x false v (started go) β inner.built in
      subst (λ (m : Made). Grows vs β m.built) (sym (started_is vs x n v go move β inner))
      (then_grows vs β c.built _ (close_grows vs x false v (started go) β inner.built g) (started_grows vs x v (scope_registers vs n x) go move c inner.ref))

  -- and by one that goes on
  pub scope_resumed_grows : (l : ℕ) (res : Ref) (β : Builder) (inner : Made) → Grows vs (reserve vs x true β) inner.built → Grows vs β (scope_resumed vs x l n v res β inner).built
  unfolding scope_resumed
  scope_resumed_grows l res β inner g =
      let c = close_scope vs x true v (resumed l n res) β inner.built in
      then_grows vs β c.built _ (close_grows vs x true v (resumed l n res) β inner.built g)
      (keep_depth_grows vs (scope_registers vs n x) (record { var = x; label = l; labels = n; first = v; closed = c.refs }) c.built)

-- ---- what is added

module _ (vs : Vars) (σ : Assignment) where
  -- a reference with this truth value, and what was added
  pub record Finished (lies : Type 0) (β : Builder) (m : Made) (b : Bool) (o : Trail) : Type 0 where
    pub good : Good vs σ β
    pub adds : trail vs σ m.built ≡ plus (trail vs σ β) o
    pub settled : lies → Settles vs σ β m.built
    pub ref : truth σ m.ref ≡ b

  entered_trail : (r x v : ℕ) (e : Ref) (c : ClosedRefs) (β : Builder) → trail vs σ (keep_entered (suc r) x v e c β) ≡ plus (trail vs σ β) (taking (takes_if (truth σ e) (takes_copy vs σ x v c)))
  unfolding keep_entered trail entered_takes
  entered_trail r x v e c β = λ i. record {
    acts = sym (append-nil (acted vs σ β.writes)) i;
    faults = sym (append-nil (raised σ β.monitors)) i;
    met = sym (append-nil (met_by σ β.scopes)) i;
    marks = sym (union_none (next_marks σ β)) i;
    takes = (entered_both vs σ β.entered (record { var = x; first = v; entered = record { enter = e; closed = c } } ∷ []) ∙ ap (else_takes (entered_takes vs σ β.entered)) (takes_none (takes_if (truth σ e) (takes_copy vs σ x v c)))) i;
    defaults = sym (takes_none (depth_takes vs σ β.depths)) i;
  }

  depth_trail : (r : ℕ) (d : DepthCopy) (β : Builder) → trail vs σ (keep_depth (suc r) d β) ≡ plus (trail vs σ β) (defaulting (takes_if (some (now σ) d.label d.labels) (takes_copy vs σ d.var d.first d.closed)))
  unfolding keep_depth trail depth_takes
  depth_trail r d β = λ i. record {
    acts = sym (append-nil (acted vs σ β.writes)) i;
    faults = sym (append-nil (raised σ β.monitors)) i;
    met = sym (append-nil (met_by σ β.scopes)) i;
    marks = sym (union_none (next_marks σ β)) i;
    takes = sym (takes_none (entered_takes vs σ β.entered)) i;
    defaults = (depth_both vs σ β.depths (d ∷ []) ∙ ap (else_takes (depth_takes vs σ β.depths)) (takes_none (takes_if (some (now σ) d.label d.labels) (takes_copy vs σ d.var d.first d.closed)))) i;
  }

  entered_good : (r x v : ℕ) (e : Ref) (c : ClosedRefs) (β : Builder) → Good vs σ (keep_entered (suc r) x v e c β) → Good vs σ β
  unfolding keep_entered
  entered_good r x v e c β h = record { met = h.met; ranges = h.ranges; inactive = h.inactive }

  entered_lie : (es fs : List EnteredCopy) → EnteredLie vs σ es → EnteredLie vs σ fs → EnteredLie vs σ (es ++ fs)
  entered_lie [] fs g h = h
  entered_lie (e ∷ es) fs g h = (g.0, entered_lie es fs g.1 h)

  depths_lie : (ds fs : List DepthCopy) → DepthsLie vs σ ds → DepthsLie vs σ fs → DepthsLie vs σ (ds ++ fs)
  depths_lie [] fs g h = h
  depths_lie (d ∷ ds) fs g h = (g.0, depths_lie ds fs g.1 h)

  entered_settled : (r x v : ℕ) (e : Ref) (c : ClosedRefs) (β : Builder) → CopyLies vs σ x c → Settles vs σ β (keep_entered (suc r) x v e c β)
  unfolding keep_entered
  entered_settled r x v e c β l q = (q.0, entered_lie β.entered _ q.1 (l, tt), q.2)

  depth_settled : (r : ℕ) (d : DepthCopy) (β : Builder) → CopyLies vs σ d.var d.closed → Settles vs σ β (keep_depth (suc r) d β)
  unfolding keep_depth
  depth_settled r d β l q = (q.0, q.1, depths_lie β.depths _ q.2 (l, tt))

  started_done : (x v r : ℕ) (go move : Ref) (c : Closed) (a : Ref) → IsBuilt vs c.built → Good vs σ (started_with vs x v r go move c a).built
      → Finished (CopyLies vs σ x c.refs) c.built (started_with vs x v r go move c a) (truth σ a) (taking (takes_if ((truth σ go && truth σ move) && not (truth σ a)) (if_registers vs σ x v r (takes_copy vs σ x v c.refs))))
  started_done x v zero go move c a w h = record {
    good = h;
    adds = (nothing_added vs σ c.built h).adds ∙ ap (λ f. plus (trail vs σ c.built) (taking f)) (sym (none_if ((truth σ go && truth σ move) && not (truth σ a))));
    settled = λ l q. q;
    ref = refl;
  }
  started_done x v (suc r) go move c a w h =
      let m = and_of go move c.built in
      let e = not_of a m.built in
      let enters = and_of m.ref e.ref e.built in
      let m_built = (and_grows vs go move c.built).built w in
      let e_built = (not_grows vs a m.built).built m_built in
      let d_u = and_done vs σ m.ref e.ref e.built e_built (entered_good r x v enters.ref c.refs enters.built h) in
      let d_e = not_done vs σ a m.built m_built d_u.good in
      let d_m = and_done vs σ go move c.built w d_e.good in
      record {
        good = d_m.good;
        adds = entered_trail r x v enters.ref c.refs enters.built
            ∙ ap₂ (λ (u : Trail) b. plus u (taking (takes_if b (takes_copy vs σ x v c.refs)))) (d_u.quiet ∙ d_e.quiet ∙ d_m.quiet) (d_u.ref ∙ ap₂ (λ y z. y && z) d_m.ref d_e.ref);
        settled = λ l q. entered_settled r x v enters.ref c.refs enters.built l (d_u.settled (d_e.settled (d_m.settled q)));
        ref = refl;
      }

  -- a scope that starts: its registers take the copy where control moves and the body didn't end
  pub scope_started_done : (x n v : ℕ) (go move : Ref) (β : Builder) (inner : Made) → IsBuilt vs (close_scope vs x false v (started go) β inner.built).built → Good vs σ (scope_started vs x n v go move β inner).built
      → Finished (CopyLies vs σ x (close_scope vs x false v (started go) β inner.built).refs) (close_scope vs x false v (started go) β inner.built).built (scope_started vs x n v go move β inner) (truth σ inner.ref)
      (taking (takes_if ((truth σ go && truth σ move) && not (truth σ inner.ref)) (takes_here vs σ x v n (close_scope vs x false v (started go) β inner.built).refs)))
  scope_started_done x n v go move β inner w h =
      let c = close_scope vs x false v (started go) β inner.built in
      let f : Takes = takes_if ((truth σ go && truth σ move) && not (truth σ inner.ref)) (takes_here vs σ x v n c.refs) in
      let e = started_is vs x n v go move β inner in
      subst (λ (m : Made). Finished (CopyLies vs σ x c.refs) c.built m (truth σ inner.ref) (taking f)) (sym e) (started_done x v (scope_registers vs n x) go move c inner.ref w (subst (λ (m : Made). Good vs σ m.built) e h))

  kept_done : (r : ℕ) (d : DepthCopy) (β : Builder) (a : Ref) → Good vs σ (keep_depth r d β)
      → Finished (CopyLies vs σ d.var d.closed) β (given a (keep_depth r d β)) (truth σ a) (defaulting (takes_if (some (now σ) d.label d.labels) (if_registers vs σ d.var d.first r (takes_copy vs σ d.var d.first d.closed))))
  unfolding keep_depth
  kept_done zero d β a h = record {
    good = h;
    adds = (nothing_added vs σ β h).adds ∙ ap (λ f. plus (trail vs σ β) (defaulting f)) (sym (none_if (some (now σ) d.label d.labels)));
    settled = λ l q. q;
    ref = refl;
  }
  kept_done (suc r) d β a h = record { good = record { met = h.met; ranges = h.ranges; inactive = h.inactive }; adds = depth_trail r d β; settled = λ l q. depth_settled r d β l q; ref = refl }

  -- a scope that goes on: where one of its labels is 1, its registers have the copy by default
  pub scope_resumed_done : (x l n v : ℕ) (res : Ref) (β : Builder) (inner : Made) → Good vs σ (scope_resumed vs x l n v res β inner).built
      → Finished (CopyLies vs σ x (close_scope vs x true v (resumed l n res) β inner.built).refs) (close_scope vs x true v (resumed l n res) β inner.built).built (scope_resumed vs x l n v res β inner) (truth σ inner.ref)
      (defaulting (takes_if (some (now σ) l n) (takes_here vs σ x v n (close_scope vs x true v (resumed l n res) β inner.built).refs)))
  unfolding scope_resumed
  scope_resumed_done x l n v res β inner h =
      let c = close_scope vs x true v (resumed l n res) β inner.built in
      kept_done (scope_registers vs n x) (record { var = x; label = l; labels = n; first = v; closed = c.refs }) c.built inner.ref h
