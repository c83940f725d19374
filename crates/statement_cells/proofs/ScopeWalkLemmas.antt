-- What a scope adds, where its body adds a run.
use Rattle.std.proofs.Common.{◌≡◌, [], ℕ, ◌+◌, ◌<◌, ◌&&◌, not, ℤ, Bool, true, false, List, length, Option, None, sym, ap, ◌∙◌, subst}
use Rattle.quartz_expr.specs.Values.{Values}
use Rattle.quartz_expr.specs.Vars.{Vars, count_of, declared_at, storage_of}
use Rattle.quartz_expr.specs.Terms.{Store, Term, scope}
use Rattle.quartz_expr.specs.React.{Met, meetings}
use Rattle.quartz_expr.specs.Resolve.{fresh_store, given_store, resolved_store, store_conflicts, values_of}
use Rattle.aif_cells.specs.declared.reference.Ref.{Ref}
use Rattle.aif_cells.specs.Worth.{Assignment, truth}
use Rattle.statement_cells.specs.Labels.{labels, scope_registers, shape_in}
use Rattle.statement_cells.specs.Expressions.{Copies, env_of}
use Rattle.statement_cells.specs.Builder.{Activity, Builder, Made, close_scope, entering, reserve, resumed, started}
use Rattle.statement_cells.specs.Surface.{depth, resume, start, surface}
use Rattle.statement_cells.specs.Stands.{AtOne, Marks, at, plain_store, some, store_in}
use Rattle.statement_cells.specs.Walk.{Good, IsBuilt, IsCurrent, Runs, Takes, Trail, Walked, acted, met_if, no_marks, no_takes, now, plus, takes_if, trail}
use Rattle.statement_cells.proofs.TrailLemmas.{plus_assoc}
use Rattle.statement_cells.proofs.GrowLemmas.{Grows}
use Rattle.statement_cells.proofs.ScopeGrowLemmas.{close_grows, length_replicate, reserve_grows}
use Rattle.statement_cells.proofs.ScopeCopyLemmas.{fresh_goes, stored_goes}
use Rattle.statement_cells.proofs.ScopeTakesLemmas.{here_held, here_in, takes_here}
use Rattle.statement_cells.proofs.ScopeEnvLemmas.{count_values, current_inside, env_entering, given_lie}
use Rattle.statement_cells.proofs.ScopeCloseLemmas.{Closing, absent_here, body_acts, close_settled, copy_lies, reserve_settled, wanted_unwritten, close_trail, closes, given_here, refs_here, reserve_good, scope_trail, wanted_here}
use Rattle.statement_cells.proofs.ScopeRunLemmas.{Closes, length_kept, resumes_scope, starts_scope}
use Rattle.statement_cells.proofs.ScopeEndLemmas.{defaulting, defaulting_too, scope_resumed_done, scope_resumed_grows, scope_started_done, scope_started_grows, taking, taking_too}
use Rattle.statement_cells.proofs.LiesLemmas.{ActsLie, react_acts}
use Rattle.quartz_expr.proofs.TruthLemmas.{and_left}

-- ---- the claims on a statement

-- builders grow by its surface, and by its depth
abbrev pub SurfaceGrows : Vars → Term → Type 0
SurfaceGrows vs t = (κ : Copies) (l v : ℕ) (go move : Ref) (β : Builder) → Grows vs β (surface vs κ l v t go move β).built

abbrev pub DepthGrows : Vars → Term → Type 0
DepthGrows vs t = (κ : Copies) (l v : ℕ) (res move stay : Ref) (β : Builder) → Grows vs β (depth vs κ l v t res move stay β).built

-- its surface adds a run of it, and its depth a run of what is left of it
abbrev pub SurfaceWalks : Vars → Assignment → Term → Type 0
SurfaceWalks vs σ t = (κ : Copies) (l v : ℕ) (go move : Ref) (β : Builder) → IsCurrent vs σ κ → IsBuilt vs β → Good vs σ (surface vs κ l v t go move β).built
    → Walked vs σ κ t no_marks l v t (truth σ go) (truth σ move) false β (surface vs κ l v t go move β)

abbrev pub DepthWalks : Vars → Assignment → Term → Type 0
DepthWalks vs σ t = (κ : Copies) (l v : ℕ) (res move stay : Ref) (β : Builder) → IsCurrent vs σ κ → IsBuilt vs β → AtOne (now σ) l t → (Good vs σ β → (truth σ res && (truth σ move && truth σ stay)) ≡ false)
    → Good vs σ (depth vs κ l v t res move stay β).built
    → Walked vs σ κ (at vs (now σ) σ.registers l v t) (now σ) l v t (some (now σ) l (labels t) && truth σ res) (truth σ move) (truth σ stay) β (depth vs κ l v t res move stay β)

-- ---- growth

module _ (vs : Vars) (x : ℕ) (s : Option Store) (t : Term) where
  -- builders grow by the surface of a scope
  pub start_scope_grows : SurfaceGrows vs t → (κ : Copies) (l v : ℕ) (go move : Ref) (β : Builder) → Grows vs β (start vs κ l v (scope x s t) go move β).built
  unfolding start
  start_scope_grows f κ l v go move β =
      scope_started_grows vs x (labels t) v go move β (surface vs (entering vs x κ β) l (v + scope_registers vs (labels t) x) t go move (reserve vs x false β))
      (f (entering vs x κ β) l (v + scope_registers vs (labels t) x) go move (reserve vs x false β))

  -- and by its depth
  pub resume_scope_grows : DepthGrows vs t → (κ : Copies) (l v : ℕ) (res move stay : Ref) (β : Builder) → Grows vs β (resume vs κ l v (scope x s t) res move stay β).built
  unfolding resume
  resume_scope_grows f κ l v res move stay β =
      scope_resumed_grows vs x (labels t) v l res β (depth vs (entering vs x κ β) l (v + scope_registers vs (labels t) x) t res move stay (reserve vs x true β))
      (f (entering vs x κ β) l (v + scope_registers vs (labels t) x) res move stay (reserve vs x true β))

-- ---- walks

module _ (vs : Vars) (σ : Assignment) (x : ℕ) (t : Term) where
  -- the closed copy, said without cells
  copy_closes : (stored : Bool) (v : ℕ) (active : Activity) (β inner : Builder) (s : Store) (c : Closing vs σ x stored v active β inner s) (o : Trail) → length s ≡ count_of vs x → acted vs σ inner.writes ≡ o.acts
      → Closes vs x v t s o.acts (given_here vs σ x stored v active β inner) (wanted_here vs σ x stored v active β inner) c.conflicts (takes_here vs σ x v (labels t) (refs_here vs σ x stored v active β inner))
  copy_closes stored v active β inner s c o size acts =
      let zs : List ℤ = given_here vs σ x stored v active β inner in
      record {
        count = count_values vs σ x β;
        stored = size;
        wants = c.wanted ∙ ap (λ a. values_of (resolved_store (storage_of vs x) x a 0 s)) acts;
        conflicts = λ e. c.conflicts_are e ∙ ap (λ a. store_conflicts (declared_at vs x) x a 0 zs) acts;
        within = here_in vs σ x v (labels t) (refs_here vs σ x stored v active β inner);
        stands = λ some k h. here_held vs σ x v (labels t) (acted vs σ inner.writes) zs (refs_here vs σ x stored v active β inner) c.says some k h ∙ ap (λ a. plain_store vs x (given_store x a 0 zs)) acts;
      }

  -- what doesn't react doesn't act
  idle_acts : (env : Values) (u : Term) (m : Marks) (l v : ℕ) (go move stay ended : Bool) (o : Trail) → go ≡ false → Runs vs env u m σ.registers l v t go move stay ended o → o.acts ≡ []
  idle_acts env u m l v true move stay ended o e h = absurd (cc)
  idle_acts env u m l v false move stay ended o e h = h.acts

  -- what reacts writes values in ranges
  runs_acts : (env : Values) (u : Term) (m : Marks) (l v : ℕ) (go move stay ended : Bool) (o : Trail) → Runs vs env u m σ.registers l v t go move stay ended o → ActsLie vs o.acts
  runs_acts env u m l v true move stay ended o h = subst (ActsLie vs) h.acts (react_acts vs env u h.reaction h.reacts)
  runs_acts env u m l v false move stay ended o h = subst (ActsLie vs) (sym h.acts) tt

  -- the surface of a scope adds a run of it
  pub start_scope_walks : x < length vs → SurfaceGrows vs t → SurfaceWalks vs σ t → (κ : Copies) (l v : ℕ) (go move : Ref) (β : Builder) → IsCurrent vs σ κ → IsBuilt vs β → Good vs σ (start vs κ l v (scope x None t) go move β).built
      → Walked vs σ κ (scope x None t) no_marks l v (scope x None t) (truth σ go) (truth σ move) false β (start vs κ l v (scope x None t) go move β)
  unfolding start close_scope
  start_scope_walks less grows walks κ l v go move β current built h =
      let n : ℕ = scope_registers vs (labels t) x in
      let inner : Builder = reserve vs x false β in
      let κ' : Copies = entering vs x κ β in
      let a : Made = surface vs κ' l (v + n) t go move inner in
      let g : Grows vs inner a.built = grows κ' l (v + n) go move inner in
      let c = close_scope vs x false v (started go) β a.built in
      let end = scope_started_done vs σ x (labels t) v go move β a ((close_grows vs x false v (started go) β a.built g).built built) h in
      let closing = closes vs σ x false v (started go) β a.built (fresh_store vs x) g built (fresh_goes vs σ x v β a.built 0 (length β.cells) (count_of vs x)) end.good in
      let w = walks κ' l (v + n) go move inner (current_inside vs σ x false κ β a.built less current g closing.good) ((reserve_grows vs x false β).built built) closing.good in
      let acts = body_acts vs σ x false v (started go) β a.built w.added w.adds in
      let calm : truth σ go ≡ false → wanted_here vs σ x false v (started go) β a.built ≡ absent_here vs σ x false v (started go) β a.built =
      λ e. wanted_unwritten vs σ x false v (started go) β a.built (fresh_store vs x) closing (acts ∙ idle_acts _ _ _ _ _ _ _ _ _ _ e w.runs) in
      let lies = copy_lies vs σ x false v (started go) β a.built (fresh_store vs x) closing (given_lie vs σ x false β a.built g closing.good) (subst (ActsLie vs) (sym acts) (runs_acts _ _ _ _ _ _ _ _ _ _ w.runs)) in
      let says = copy_closes false v (started go) β a.built (fresh_store vs x) closing w.added (length_replicate (count_of vs x) _) acts in
      let zs : List ℤ = given_here vs σ x false v (started go) β a.built in
      let us : List ℤ = wanted_here vs σ x false v (started go) β a.built in
      let f : Takes = takes_here vs σ x v (labels t) c.refs in
      let taken : Takes = takes_if ((truth σ go && truth σ move) && not (truth σ a.ref)) f in
      let ms : List Met = met_if (truth σ go) (meetings x zs us) in
      record {
        good = reserve_good vs σ x false β w.good closing.before built;
        added = scope_trail x ms closing.conflicts taken no_takes w.added;
        adds = end.adds ∙ ap (λ (u : Trail). plus u (taking taken)) (close_trail vs σ x false v (started go) β a.built (fresh_store vs x) closing w.added w.adds)
            ∙ plus_assoc (trail vs σ β) (scope_trail x ms closing.conflicts no_takes no_takes w.added) (taking taken)
            ∙ ap (plus (trail vs σ β)) (taking_too x ms closing.conflicts taken w.added);
        settled = λ q. end.settled lies (close_settled vs σ x false v (started go) β a.built calm q (w.settled (reserve_settled vs σ x false v (started go) β a.built q)));
        runs = subst (λ b. Runs vs (env_of σ κ) (scope x None t) no_marks σ.registers l v (scope x None t) (truth σ go) (truth σ move) false b (scope_trail x ms closing.conflicts taken no_takes w.added)) (sym end.ref)
            (starts_scope vs (env_of σ κ) x t l v zs us closing.conflicts f σ.registers (truth σ go) (truth σ move) (truth σ a.ref) w.added says (λ e. closing.inactive e (calm e))
            (subst (λ env. Runs vs env t no_marks σ.registers l (v + n) t (truth σ go) (truth σ move) false (truth σ a.ref) w.added) (env_entering vs σ x κ β) w.runs));
      }

  -- the depth of a scope adds a run of what is left of it
  pub resume_scope_walks : (s : Option Store) → x < length vs → DepthGrows vs t → DepthWalks vs σ t → (κ : Copies) (l v : ℕ) (res move stay : Ref) (β : Builder) → IsCurrent vs σ κ → IsBuilt vs β
      → AtOne (now σ) l (scope x s t) → (Good vs σ β → (truth σ res && (truth σ move && truth σ stay)) ≡ false) → Good vs σ (resume vs κ l v (scope x s t) res move stay β).built
      → Walked vs σ κ (at vs (now σ) σ.registers l v (scope x s t)) (now σ) l v (scope x s t) (some (now σ) l (labels (scope x s t)) && truth σ res) (truth σ move) (truth σ stay) β (resume vs κ l v (scope x s t) res move stay β)
  unfolding resume close_scope
  resume_scope_walks s less grows walks κ l v res move stay β current built one excl h =
      let n : ℕ = scope_registers vs (labels t) x in
      let inner : Builder = reserve vs x true β in
      let κ' : Copies = entering vs x κ β in
      let a : Made = depth vs κ' l (v + n) t res move stay inner in
      let g : Grows vs inner a.built = grows κ' l (v + n) res move stay inner in
      let active : Activity = resumed l (labels t) res in
      let c = close_scope vs x true v active β a.built in
      let end = scope_resumed_done vs σ x l (labels t) v res β a h in
      let store : Store = store_in vs x σ.registers v in
      let closing = closes vs σ x true v active β a.built store g built (stored_goes vs σ x v β a.built 0 (length β.cells) (count_of vs x)) end.good in
      let w = walks κ' l (v + n) res move stay inner (current_inside vs σ x true κ β a.built less current g closing.good) ((reserve_grows vs x true β).built built) one (λ y. excl (reserve_good vs σ x true β y closing.before built)) closing.good in
      let acts = body_acts vs σ x true v active β a.built w.added w.adds in
      let calm : (some (now σ) l (labels t) && truth σ res) ≡ false → wanted_here vs σ x true v active β a.built ≡ absent_here vs σ x true v active β a.built =
      λ e. wanted_unwritten vs σ x true v active β a.built store closing (acts ∙ idle_acts _ _ _ _ _ _ _ _ _ _ e w.runs) in
      let lies = copy_lies vs σ x true v active β a.built store closing (given_lie vs σ x true β a.built g closing.good) (subst (ActsLie vs) (sym acts) (runs_acts _ _ _ _ _ _ _ _ _ _ w.runs)) in
      let says = copy_closes true v active β a.built store closing w.added (length_kept (shape_in vs x) σ.registers v 0 (count_of vs x)) acts in
      let zs : List ℤ = given_here vs σ x true v active β a.built in
      let us : List ℤ = wanted_here vs σ x true v active β a.built in
      let f : Takes = takes_here vs σ x v (labels t) c.refs in
      let alive : Bool = some (now σ) l (labels t) && truth σ res in
      let default : Takes = takes_if (some (now σ) l (labels t)) f in
      let ms : List Met = met_if alive (meetings x zs us) in
      record {
        good = reserve_good vs σ x true β w.good closing.before built;
        added = scope_trail x ms closing.conflicts no_takes default w.added;
        adds = end.adds ∙ ap (λ (u : Trail). plus u (defaulting default)) (close_trail vs σ x true v active β a.built store closing w.added w.adds)
            ∙ plus_assoc (trail vs σ β) (scope_trail x ms closing.conflicts no_takes no_takes w.added) (defaulting default)
            ∙ ap (plus (trail vs σ β)) (defaulting_too x ms closing.conflicts default w.added);
        settled = λ q. end.settled lies (close_settled vs σ x true v active β a.built calm q (w.settled (reserve_settled vs σ x true v active β a.built q)));
        runs = subst (λ b. Runs vs (env_of σ κ) (at vs (now σ) σ.registers l v (scope x s t)) (now σ) σ.registers l v (scope x s t) alive (truth σ move) (truth σ stay) b (scope_trail x ms closing.conflicts no_takes default w.added)) (sym end.ref)
            (resumes_scope vs (env_of σ κ) x t l v zs us closing.conflicts f (now σ) σ.registers s alive (truth σ move) (truth σ stay) (truth σ a.ref) w.added says (λ e. closing.inactive e (calm e)) (λ e. and_left (some (now σ) l (labels t)) (truth σ res) e)
            (subst (λ env. Runs vs env (at vs (now σ) σ.registers l (v + n) t) (now σ) σ.registers l (v + n) t alive (truth σ move) (truth σ stay) (truth σ a.ref) w.added) (env_entering vs σ x κ β) w.runs));
      }
