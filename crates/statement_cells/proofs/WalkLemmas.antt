-- The walk through builders: what the surface of a statement adds is a run, form by form.
use Rattle.std.proofs.Common.{◌≡◌, ℕ, zero, suc, ◌+◌, Bool, true, false, ◌&&◌, ◌||◌, not, List, [], Option, pos, negsuc, refl, sym, ap, ◌∙◌, subst}
use Rattle.std.specs.Prelude.{if◌then◌else◌}
use Rattle.quartz_tree.specs.declared.place.Place.{Place}
use Rattle.quartz_tree.specs.declared.fault.Fault.{Fault}
use Rattle.quartz_tree.specs.Tree.{Tree as Expr}
use Rattle.quartz_expr.specs.declared.act.Act.{Act}
use Rattle.quartz_expr.specs.Values.{Values, is_zero}
use Rattle.quartz_expr.specs.Vars.{Vars}
use Rattle.quartz_expr.specs.Value.{value}
use Rattle.quartz_expr.specs.Faults.{faults}
use Rattle.quartz_expr.specs.Writes.{write_acts, write_faults}
use Rattle.quartz_expr.specs.React.{React, ends, of_nothing, of_write}
use Rattle.quartz_expr.specs.Typed.{AreSound as AreSoundVars}
use Rattle.quartz_expr.specs.Terms.{Term, nothing, write, choose, seq, loop, Terms, none, part}
use Rattle.aif_cells.specs.declared.reference.Ref.{Ref}
use Rattle.aif_cells.specs.declared.reference.Ref.TheVariants as ref
use Rattle.aif_cells.specs.Worth.{Assignment, truth}
use Rattle.statement_cells.specs.Labels.{labels, registers}
use Rattle.statement_cells.specs.Expressions.{Copies, env_of}
use Rattle.statement_cells.specs.Builder.{Builder, Made, given, zero_ref, not_of, and_of}
use Rattle.statement_cells.specs.Surface.{unless_zero, tested, start, start_in_turn, surface}
use Rattle.statement_cells.specs.Sound.{IsSound, AreSound}
use Rattle.statement_cells.specs.Walk.{Good, IsBuilt, IsCurrent, Trail, trail, plus, no_trail, no_marks, Walked}
use Rattle.statement_cells.proofs.MarkLemmas.{some_none, marks_none, takes_none}
use Rattle.statement_cells.proofs.TrailLemmas.{plus_none, plus_assoc}
use Rattle.statement_cells.proofs.GrowLemmas.{not_grows, and_grows}
use Rattle.statement_cells.proofs.CellLemmas.{not_done, and_done, or_done}
use Rattle.statement_cells.proofs.WatchLemmas.{Decided, tested_done, tested_grows, faulty}
use Rattle.statement_cells.proofs.PlainLemmas.{sound_fresh, sound_fresh_all}
use Rattle.statement_cells.proofs.WriteLemmas.{acting, written_adds}
use Rattle.statement_cells.proofs.RunLemmas.{raises, faults_if, Enters, starts_choose}
use Rattle.statement_cells.proofs.TurnLemmas.{starts_none, starts_turn}
use Rattle.statement_cells.proofs.LoopLemmas.{starts_loop}
use Rattle.statement_cells.proofs.SurfaceGrowLemmas.{unless_zero_grows, start_grows}

module _ (vs : Vars) (σ : Assignment) (types : AreSoundVars vs) where
  -- starting the statement is a run of it
  abbrev pub StartsWell : Term → Type 0
  StartsWell s = (κ : Copies) (l v : ℕ) (go move : Ref) (β : Builder) → IsCurrent vs σ κ → IsBuilt vs β → Good vs σ (start vs κ l v s go move β).built
      → Walked vs σ κ s no_marks l v s (truth σ go) (truth σ move) false β (start vs κ l v s go move β)

  abbrev pub SurfacesWell : Term → Type 0
  SurfacesWell s = (κ : Copies) (l v : ℕ) (go move : Ref) (β : Builder) → IsCurrent vs σ κ → IsBuilt vs β → Good vs σ (surface vs κ l v s go move β).built
      → Walked vs σ κ s no_marks l v s (truth σ go) (truth σ move) false β (surface vs κ l v s go move β)

  -- a statement that isn't started does nothing
  pub not_started : (env : Values) (l v : ℕ) (s : Term) (mv : Bool) → Enters vs env σ.registers l v s false mv false no_trail
  not_started env l v s mv = record {
    ends = refl;
    acts = refl;
    faults = refl;
    met = refl;
    marks = refl;
    takes = refl;
    held = λ on. let off = some_none l (labels s) in absurd (cc);
    bounded = record { marks = marks_none l (labels s); takes = takes_none v (registers vs s); defaults = takes_none v (registers vs s); rests = λ f. refl };
  }

  pub made_nothing : (κ : Copies) (l v : ℕ) (s : Term) (mv : Bool) (β : Builder) → Good vs σ β → Walked vs σ κ s no_marks l v s false mv false β (given zero_ref β)
  made_nothing κ l v s mv β h = record { good = h; added = no_trail; adds = sym (plus_none (trail vs σ β)); settled = λ q. q; runs = not_started (env_of σ κ) l v s mv }

  pub skips : (κ : Copies) (l v : ℕ) (s : Term) (go : Ref) (mv : Bool) (β : Builder) (m : Made) → (Good vs σ m.built → Walked vs σ κ s no_marks l v s (truth σ go) mv false β m) → Good vs σ (unless_zero go β m).built
      → Walked vs σ κ s no_marks l v s (truth σ go) mv false β (unless_zero go β m)
  skips κ l v s (ref.Lit (pos zero)) mv β m f h = made_nothing κ l v s mv β h
  skips κ l v s (ref.Lit (pos (suc n))) mv β m f h = f h
  skips κ l v s (ref.Lit (negsuc n)) mv β m f h = f h
  skips κ l v s (ref.Input i) mv β m f h = f h
  skips κ l v s (ref.Reg i) mv β m f h = f h
  skips κ l v s (ref.Cell i) mv β m f h = f h

  pub surfaces : (s : Term) → StartsWell s → SurfacesWell s
  surfaces s f κ l v go move β c w h = skips κ l v s go (truth σ move) β (start vs κ l v s go move β) (f κ l v go move β c w) h

  -- a run told with other truth values
  pub run_as : (env : Values) (l v : ℕ) (s : Term) (go go' mv mv' e e' : Bool) (o : Trail) → go ≡ go' → mv ≡ mv' → e ≡ e' → Enters vs env σ.registers l v s go mv e o → Enters vs env σ.registers l v s go' mv' e' o
  run_as env l v s go go' mv mv' e e' o p q r h =
      subst (λ x. Enters vs env σ.registers l v s x mv' e' o) p (subst (λ x. Enters vs env σ.registers l v s go x e' o) q (subst (λ x. Enters vs env σ.registers l v s go mv x o) r h))

  -- a condition fails where its reference doesn't hold
  pub fails : (z k : Bool) → k ≡ not z → z ≡ not k
  fails true k e = ap not (sym e)
  fails false k e = ap not (sym e)

  faulty_if : (b : Bool) (fs : List Fault) → faulty (if b then fs else []) ≡ raises (faults_if b fs)
  faulty_if true fs = refl
  faulty_if false fs = refl

  -- what a condition adds
  pub decided : (κ : Copies) {types : AreSoundVars vs} {cur : IsCurrent vs σ κ} (c : Expr ℕ) (go : Ref) (β : Builder) (m : Made) → Decided vs σ κ types cur c go β m
      → trail vs σ m.built ≡ plus (trail vs σ β) (raises (faults_if (truth σ go) (faults vs (env_of σ κ) c)))
  decided κ c go β m d = d.added.adds ∙ ap (plus (trail vs σ β)) (faulty_if (truth σ go) (faults vs (env_of σ κ) c))

  -- a choice starts
  pub starts_well_choose : (c : Expr ℕ) (a b : Term) → IsSound vs (choose c a b) → StartsWell a → StartsWell b → StartsWell (choose c a b)
  unfolding start
  starts_well_choose c a b sound f g κ l v go move β cur w h =
      let k = tested vs κ c go β in
      let i = and_of go k.ref k.built in
      let s = unless_zero i.ref i.built (start vs κ l v a i.ref move i.built) in
      let n = not_of k.ref s.built in
      let j = and_of go n.ref n.built in
      let t = unless_zero j.ref j.built (start vs κ (l + labels a) (v + registers vs a) b j.ref move j.built) in
      let wk = (tested_grows vs σ κ c go β).built w in
      let wi = (and_grows vs go k.ref k.built).built wk in
      let ws = (unless_zero_grows vs σ i.ref i.built _ (start_grows vs σ a κ l v i.ref move i.built sound.1)).built wi in
      let wn = (not_grows vs k.ref s.built).built ws in
      let wj = (and_grows vs go n.ref n.built).built wn in
      let wt = (unless_zero_grows vs σ j.ref j.built _ (start_grows vs σ b κ (l + labels a) (v + registers vs a) j.ref move j.built sound.2)).built wj in
      let po = or_done vs σ s.ref t.ref t.built wt h in
      let rt = surfaces b g κ (l + labels a) (v + registers vs a) j.ref move j.built cur wj po.good in
      let pj = and_done vs σ go n.ref n.built wn rt.good in
      let pn = not_done vs σ k.ref s.built ws pj.good in
      let rs = surfaces a f κ l v i.ref move i.built cur wi pn.good in
      let pi = and_done vs σ go k.ref k.built wk rs.good in
      let dk = tested_done vs σ κ types cur c go β sound.0 w pi.good in
      let env : Values = env_of σ κ in
      let kt : Bool = truth σ k.ref in
      let fs : List Fault = faults vs env c in
      record {
        good = dk.added.good;
        added = plus (raises (faults_if (truth σ go) fs)) (plus rs.added rt.added);
        adds = po.quiet ∙ rt.adds ∙ ap (λ (x : Trail). plus x rt.added) (pj.quiet ∙ pn.quiet ∙ rs.adds ∙ ap (λ (x : Trail). plus x rs.added) (pi.quiet ∙ decided κ c go β k dk))
            ∙ plus_assoc (plus (trail vs σ β) (raises (faults_if (truth σ go) fs))) rs.added rt.added
            ∙ plus_assoc (trail vs σ β) (raises (faults_if (truth σ go) fs)) (plus rs.added rt.added);
        settled = λ q. po.settled (rt.settled (pj.settled (pn.settled (rs.settled (pi.settled (dk.added.settled q))))));
        runs = run_as env l v (choose c a b) (truth σ go) (truth σ go) (truth σ move) (truth σ move) (truth σ s.ref || truth σ t.ref) _ _ refl refl (sym po.ref)
            (starts_choose vs env σ.registers c a b l v (truth σ go) kt (truth σ move) (truth σ s.ref) (truth σ t.ref) rs.added rt.added (fails (is_zero (value vs env c)) kt dk.ref)
            (run_as env l v a (truth σ i.ref) (truth σ go && kt) (truth σ move) (truth σ move) (truth σ s.ref) (truth σ s.ref) rs.added pi.ref refl refl rs.runs)
            (run_as env (l + labels a) (v + registers vs a) b (truth σ j.ref) (truth σ go && not kt) (truth σ move) (truth σ move) (truth σ t.ref) (truth σ t.ref) rt.added (pj.ref ∙ ap (λ x. truth σ go && x) pn.ref) refl refl rt.runs));
      }

  -- where control stands, nothing else being said
  pub start_ends : (env : Values) (l v : ℕ) (s : Term) (ws : List Act) (fs : List Fault) (go mv : Bool) → (go ≡ false → (ws ≡ []) × (fs ≡ [])) → React vs env s (ends ws fs s) → Enters vs env σ.registers l v s go mv go (record no_trail { acts = ws; faults = fs })
  start_ends env l v s ws fs true mv f r = record {
    reaction = ends ws fs s;
    reacts = r;
    ends = refl;
    acts = refl;
    met = refl;
    faults = λ a. refl;
    stops = λ x y. (refl, refl);
    goes = λ x y. absurd (cc);
    stays = λ x. (refl, refl);
    held = λ on. let off = some_none l (labels s) in absurd (cc);
    bounded = record { marks = marks_none l (labels s); takes = takes_none v (registers vs s); defaults = takes_none v (registers vs s); rests = λ f. refl };
  }
  start_ends env l v s ws fs false mv f r =
      let g = f refl in
      subst (λ (o : Trail). Enters vs env σ.registers l v s false mv false o) (λ i. record no_trail { acts = sym g.0 i; faults = sym g.1 i }) (not_started env l v s mv)

  pub starts_well_nothing : StartsWell nothing
  unfolding start
  starts_well_nothing κ l v go move β cur w h = record {
    good = h;
    added = no_trail;
    adds = sym (plus_none (trail vs σ β));
    settled = λ q. q;
    runs = start_ends (env_of σ κ) l v nothing [] [] (truth σ go) (truth σ move) (λ e. (refl, refl)) (of_nothing (env_of σ κ));
  }

  when : {A : Type 0} (b : Bool) (xs : List A) → b ≡ false → (if b then xs else []) ≡ []
  when true xs e = absurd (cc)
  when false xs e = refl

  written_run : (env : Values) (l v x : ℕ) (i : Option (Expr ℕ)) (e : Expr ℕ) (d : Bool) (p q : Place) (go mv : Bool)
      → Enters vs env σ.registers l v (write x i e d p q) go mv go (acting (if go then write_acts vs env x i e d else []) (if go then write_faults vs env x i e p q else []))
  written_run env l v x i e d p q true mv = start_ends env l v (write x i e d p q) (write_acts vs env x i e d) (write_faults vs env x i e p q) true mv (λ f. absurd (cc)) (of_write env x i e d p q)
  written_run env l v x i e d p q false mv = not_started env l v (write x i e d p q) mv

  pub starts_well_write : (x : ℕ) (i : Option (Expr ℕ)) (e : Expr ℕ) (d : Bool) (p q : Place) → IsSound vs (write x i e d p q) → StartsWell (write x i e d p q)
  unfolding start
  starts_well_write x i e d p q sound κ l v go move β cur w h =
      let a = written_adds vs σ κ types cur x i e d p q go β sound w h in
      record { good = a.good; added = _; adds = a.adds; settled = λ q. a.settled q; runs = written_run (env_of σ κ) l v x i e d p q (truth σ go) (truth σ move) }

  -- a loop starts
  pub starts_well_loop : (t : Term) (c : Expr ℕ) → IsSound vs (loop t c) → StartsWell t → StartsWell (loop t c)
  unfolding start
  starts_well_loop t c sound f κ l v go move β cur w h =
      let r = surfaces t f κ l v go move β cur w h in
      record { good = r.good; added = r.added; adds = r.adds; settled = λ q. r.settled q; runs = starts_loop vs (env_of σ κ) σ.registers l v t c (truth σ go) (truth σ move) _ r.added sound.0 (sound_fresh vs t sound.2) r.runs }

  -- a sequence starts, part by part
  abbrev pub PartsStartWell : Terms → Type 0
  PartsStartWell ss = (κ : Copies) (l v : ℕ) (go move : Ref) (β : Builder) → IsCurrent vs σ κ → IsBuilt vs β → Good vs σ (start_in_turn vs κ l v ss go move β).built
      → Walked vs σ κ (seq ss) no_marks l v (seq ss) (truth σ go) (truth σ move) false β (start_in_turn vs κ l v ss go move β)

  pub starts_well_none : PartsStartWell none
  unfolding start_in_turn
  starts_well_none κ l v go move β cur w h = record {
    good = h;
    added = no_trail;
    adds = sym (plus_none (trail vs σ β));
    settled = λ q. q;
    runs = starts_none vs (env_of σ κ) σ.registers l v (truth σ go) (truth σ move);
  }

  pub starts_well_turn : (s : Term) (ss : Terms) → AreSound vs (part s ss) → StartsWell s → PartsStartWell ss → PartsStartWell (part s ss)
  unfolding start_in_turn
  starts_well_turn s ss sound f g κ l v go move β cur w h =
      let m = unless_zero go β (start vs κ l v s go move β) in
      let wm = (unless_zero_grows vs σ go β _ (start_grows vs σ s κ l v go move β sound.0)).built w in
      let more = g κ (l + labels s) (v + registers vs s) m.ref move m.built cur wm h in
      let one = surfaces s f κ l v go move β cur w more.good in
      record {
        good = one.good;
        added = plus one.added more.added;
        adds = more.adds ∙ ap (λ (x : Trail). plus x more.added) one.adds ∙ plus_assoc (trail vs σ β) one.added more.added;
        settled = λ q. more.settled (one.settled q);
        runs = starts_turn vs (env_of σ κ) σ.registers l v s ss (truth σ go) (truth σ move) (truth σ m.ref) _ one.added more.added (sound_fresh_all vs ss sound.1) one.runs more.runs;
      }

  pub starts_well_seq : (ss : Terms) → PartsStartWell ss → StartsWell (seq ss)
  unfolding start
  starts_well_seq ss f κ l v go move β cur w h = f κ l v go move β cur w h
