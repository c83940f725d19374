-- The walk through builders: guards that start.
use Rattle.std.proofs.Common.{◌≡◌, ℕ, ◌+◌, Bool, true, false, ◌&&◌, ◌||◌, not, List, refl, sym, ap, ◌∙◌, subst}
use Rattle.quartz_tree.specs.declared.fault.Fault.{Fault}
use Rattle.quartz_tree.specs.Tree.{Tree as Expr}
use Rattle.quartz_expr.specs.Values.{Values, is_zero}
use Rattle.quartz_expr.specs.Vars.{Vars}
use Rattle.quartz_expr.specs.Value.{value}
use Rattle.quartz_expr.specs.Faults.{faults}
use Rattle.quartz_expr.specs.Typed.{AreSound as AreSoundVars}
use Rattle.quartz_expr.specs.Terms.{Term, pause, abort, suspend}
use Rattle.aif_cells.specs.declared.reference.Ref.{Ref}
use Rattle.aif_cells.specs.Worth.{Assignment, truth}
use Rattle.statement_cells.specs.Expressions.{env_of}
use Rattle.statement_cells.specs.Builder.{Builder, not_of, and_of, enter}
use Rattle.statement_cells.specs.Surface.{unless_zero, tested, start}
use Rattle.statement_cells.specs.Sound.{IsSound}
use Rattle.statement_cells.specs.Walk.{Good, Trail, trail, plus}
use Rattle.statement_cells.proofs.TrailLemmas.{plus_assoc, trail_enter, enter_settled}
use Rattle.statement_cells.proofs.GrowLemmas.{not_grows, and_grows, enter_grows}
use Rattle.statement_cells.proofs.CellLemmas.{not_done, and_done, or_done}
use Rattle.statement_cells.proofs.WatchLemmas.{tested_done, tested_grows}
use Rattle.statement_cells.proofs.PlainLemmas.{sound_fresh}
use Rattle.statement_cells.proofs.RunLemmas.{raises, faults_if, Enters}
use Rattle.statement_cells.proofs.PauseLemmas.{starts_pause}
use Rattle.statement_cells.proofs.AbortLemmas.{starts_delayed_abort, starts_strong_abort, starts_weak_abort}
use Rattle.statement_cells.proofs.SleepLemmas.{starts_delayed_suspend}
use Rattle.statement_cells.proofs.WaitLemmas.{waits}
use Rattle.statement_cells.proofs.ImmediateLemmas.{starts_strong_wait, starts_weak_wait}
use Rattle.statement_cells.proofs.SurfaceGrowLemmas.{unless_zero_grows, start_grows}
use Rattle.statement_cells.proofs.WalkLemmas.{StartsWell, surfaces, run_as, fails, decided}

module _ (vs : Vars) (σ : Assignment) (types : AreSoundVars vs) where
  -- entering a label leaves what is good
  pub enter_good : (l : ℕ) (r : Ref) (β : Builder) → Good vs σ (enter l r β) → Good vs σ β
  unfolding enter
  enter_good l r β h = record { met = h.met; ranges = h.ranges; inactive = h.inactive }

  pub starts_well_pause : StartsWell vs σ types pause
  unfolding start
  starts_well_pause κ l v go move β cur w h =
      let g = and_of go move β in
      let pg = and_done vs σ go move β w (enter_good l g.ref g.built h) in
      record {
        good = pg.good;
        added = waits l (truth σ g.ref);
        adds = trail_enter vs σ l g.ref g.built ∙ ap (λ (x : Trail). plus x (waits l (truth σ g.ref))) pg.quiet;
        settled = λ q. enter_settled vs σ l g.ref g.built (pg.settled q);
        runs = subst (λ b. Enters vs (env_of σ κ) σ.registers l v pause (truth σ go) (truth σ move) false (waits l b)) (sym pg.ref) (starts_pause vs (env_of σ κ) σ.registers l v (truth σ go) (truth σ move));
      }

  pub starts_well_delayed_abort : (t : Term) (weak : Bool) (c : Expr ℕ) → StartsWell vs σ types t → StartsWell vs σ types (abort weak false t c)
  unfolding start
  starts_well_delayed_abort t weak c f κ l v go move β cur w h =
      let r = surfaces vs σ types t f κ l v go move β cur w h in
      record { good = r.good; added = r.added; adds = r.adds; settled = λ q. r.settled q; runs = starts_delayed_abort vs (env_of σ κ) σ.registers l v t weak c (truth σ go) (truth σ move) _ r.added r.runs }

  pub starts_well_delayed_suspend : (t : Term) (weak : Bool) (c : Expr ℕ) → StartsWell vs σ types t → StartsWell vs σ types (suspend weak false t c)
  unfolding start
  starts_well_delayed_suspend t weak c f κ l v go move β cur w h =
      let r = surfaces vs σ types t f κ l v go move β cur w h in
      record { good = r.good; added = r.added; adds = r.adds; settled = λ q. r.settled q; runs = starts_delayed_suspend vs (env_of σ κ) σ.registers l v t weak c (truth σ go) (truth σ move) _ r.added r.runs }

  pub starts_well_strong_abort : (t : Term) (c : Expr ℕ) → IsSound vs (abort false true t c) → StartsWell vs σ types t → StartsWell vs σ types (abort false true t c)
  unfolding start
  starts_well_strong_abort t c sound f κ l v go move β cur w h =
      let k = tested vs κ c go β in
      let n = not_of k.ref k.built in
      let i = and_of go n.ref n.built in
      let s = unless_zero i.ref i.built (start vs κ l v t i.ref move i.built) in
      let j = and_of go k.ref s.built in
      let wk = (tested_grows vs σ κ c go β).built w in
      let wn = (not_grows vs k.ref k.built).built wk in
      let wi = (and_grows vs go n.ref n.built).built wn in
      let ws = (unless_zero_grows vs σ i.ref i.built _ (start_grows vs σ t κ l v i.ref move i.built sound.1)).built wi in
      let wj = (and_grows vs go k.ref s.built).built ws in
      let po = or_done vs σ s.ref j.ref j.built wj h in
      let pj = and_done vs σ go k.ref s.built ws po.good in
      let rs = surfaces vs σ types t f κ l v i.ref move i.built cur wi pj.good in
      let pi = and_done vs σ go n.ref n.built wn rs.good in
      let pn = not_done vs σ k.ref k.built wk pi.good in
      let dk = tested_done vs σ κ types cur c go β sound.0 w pn.good in
      let env : Values = env_of σ κ in
      let fs : List Fault = faults vs env c in
      let kt : Bool = truth σ k.ref in
      record {
        good = dk.added.good;
        added = plus (raises (faults_if (truth σ go) fs)) rs.added;
        adds = po.quiet ∙ pj.quiet ∙ rs.adds ∙ ap (λ (x : Trail). plus x rs.added) (pi.quiet ∙ pn.quiet ∙ decided vs σ types κ c go β k dk) ∙ plus_assoc (trail vs σ β) (raises (faults_if (truth σ go) fs)) rs.added;
        settled = λ q. po.settled (pj.settled (rs.settled (pi.settled (pn.settled (dk.added.settled q)))));
        runs = run_as vs σ types env l v (abort false true t c) (truth σ go) (truth σ go) (truth σ move) (truth σ move) (truth σ s.ref || (truth σ go && kt)) _ _ refl refl (ap (λ b. truth σ s.ref || b) (sym pj.ref) ∙ sym po.ref)
            (starts_strong_abort vs env σ.registers l v t c (truth σ go) kt (truth σ move) (truth σ s.ref) rs.added (fails vs σ types (is_zero (value vs env c)) kt dk.ref)
            (run_as vs σ types env l v t (truth σ i.ref) (truth σ go && not kt) (truth σ move) (truth σ move) (truth σ s.ref) (truth σ s.ref) rs.added (pi.ref ∙ ap (λ b. truth σ go && b) pn.ref) refl refl rs.runs));
      }

  pub starts_well_weak_abort : (t : Term) (c : Expr ℕ) → IsSound vs (abort true true t c) → StartsWell vs σ types t → StartsWell vs σ types (abort true true t c)
  unfolding start
  starts_well_weak_abort t c sound f κ l v go move β cur w h =
      let k = tested vs κ c go β in
      let n = not_of k.ref k.built in
      let m = and_of move n.ref n.built in
      let s = unless_zero go m.built (start vs κ l v t go m.ref m.built) in
      let j = and_of go k.ref s.built in
      let wk = (tested_grows vs σ κ c go β).built w in
      let wn = (not_grows vs k.ref k.built).built wk in
      let wm = (and_grows vs move n.ref n.built).built wn in
      let ws = (unless_zero_grows vs σ go m.built _ (start_grows vs σ t κ l v go m.ref m.built sound.1)).built wm in
      let wj = (and_grows vs go k.ref s.built).built ws in
      let po = or_done vs σ s.ref j.ref j.built wj h in
      let pj = and_done vs σ go k.ref s.built ws po.good in
      let rs = surfaces vs σ types t f κ l v go m.ref m.built cur wm pj.good in
      let pm = and_done vs σ move n.ref n.built wn rs.good in
      let pn = not_done vs σ k.ref k.built wk pm.good in
      let dk = tested_done vs σ κ types cur c go β sound.0 w pn.good in
      let env : Values = env_of σ κ in
      let fs : List Fault = faults vs env c in
      let kt : Bool = truth σ k.ref in
      record {
        good = dk.added.good;
        added = plus (raises (faults_if (truth σ go) fs)) rs.added;
        adds = po.quiet ∙ pj.quiet ∙ rs.adds ∙ ap (λ (x : Trail). plus x rs.added) (pm.quiet ∙ pn.quiet ∙ decided vs σ types κ c go β k dk) ∙ plus_assoc (trail vs σ β) (raises (faults_if (truth σ go) fs)) rs.added;
        settled = λ q. po.settled (pj.settled (rs.settled (pm.settled (pn.settled (dk.added.settled q)))));
        runs = run_as vs σ types env l v (abort true true t c) (truth σ go) (truth σ go) (truth σ move) (truth σ move) (truth σ s.ref || (truth σ go && kt)) _ _ refl refl (ap (λ b. truth σ s.ref || b) (sym pj.ref) ∙ sym po.ref)
            (starts_weak_abort vs env σ.registers l v t c (truth σ go) kt (truth σ move) (truth σ s.ref) rs.added (fails vs σ types (is_zero (value vs env c)) kt dk.ref)
            (run_as vs σ types env l v t (truth σ go) (truth σ go) (truth σ m.ref) (truth σ move && not kt) (truth σ s.ref) (truth σ s.ref) rs.added refl (pm.ref ∙ ap (λ b. truth σ move && b) pn.ref) refl rs.runs));
      }

  pub starts_well_strong_suspend : (t : Term) (c : Expr ℕ) → IsSound vs (suspend false true t c) → StartsWell vs σ types t → StartsWell vs σ types (suspend false true t c)
  unfolding start
  starts_well_strong_suspend t c sound f κ l v go move β cur w h =
      let k = tested vs κ c go β in
      let b = and_of go k.ref k.built in
      let x = and_of b.ref move b.built in
      let e = enter l x.ref x.built in
      let n = not_of k.ref e in
      let i = and_of go n.ref n.built in
      let wk = (tested_grows vs σ κ c go β).built w in
      let wb = (and_grows vs go k.ref k.built).built wk in
      let wx = (and_grows vs b.ref move b.built).built wb in
      let we = (enter_grows vs l x.ref x.built).built wx in
      let wn = (not_grows vs k.ref e).built we in
      let wi = (and_grows vs go n.ref n.built).built wn in
      let rs = surfaces vs σ types t f κ (l + 1) v i.ref move i.built cur wi h in
      let pi = and_done vs σ go n.ref n.built wn rs.good in
      let pn = not_done vs σ k.ref e we pi.good in
      let px = and_done vs σ b.ref move b.built wb (enter_good l x.ref x.built pn.good) in
      let pb = and_done vs σ go k.ref k.built wk px.good in
      let dk = tested_done vs σ κ types cur c go β sound.0 w pb.good in
      let env : Values = env_of σ κ in
      let fs : List Fault = faults vs env c in
      let kt : Bool = truth σ k.ref in
      let wt : truth σ x.ref ≡ ((truth σ go && kt) && truth σ move) = px.ref ∙ ap (λ y. y && truth σ move) pb.ref in
      record {
        good = dk.added.good;
        added = plus (raises (faults_if (truth σ go) fs)) (plus (waits l ((truth σ go && kt) && truth σ move)) rs.added);
        adds = rs.adds ∙ ap (λ (y : Trail). plus y rs.added) (pi.quiet ∙ pn.quiet ∙ trail_enter vs σ l x.ref x.built ∙ ap (λ y. plus (trail vs σ x.built) (waits l y)) wt
            ∙ ap (λ (y : Trail). plus y (waits l ((truth σ go && kt) && truth σ move))) (px.quiet ∙ pb.quiet ∙ decided vs σ types κ c go β k dk))
            ∙ plus_assoc (plus (trail vs σ β) (raises (faults_if (truth σ go) fs))) (waits l ((truth σ go && kt) && truth σ move)) rs.added
            ∙ plus_assoc (trail vs σ β) (raises (faults_if (truth σ go) fs)) (plus (waits l ((truth σ go && kt) && truth σ move)) rs.added);
        settled = λ q. rs.settled (pi.settled (pn.settled (enter_settled vs σ l x.ref x.built (px.settled (pb.settled (dk.added.settled q))))));
        runs = starts_strong_wait vs env σ.registers l v t c (truth σ go) kt (truth σ move) _ rs.added (sound_fresh vs t sound.1) (fails vs σ types (is_zero (value vs env c)) kt dk.ref)
            (run_as vs σ types env (l + 1) v t (truth σ i.ref) (truth σ go && not kt) (truth σ move) (truth σ move) _ _ rs.added (pi.ref ∙ ap (λ y. truth σ go && y) pn.ref) refl refl rs.runs);
      }

  pub starts_well_weak_suspend : (t : Term) (c : Expr ℕ) → IsSound vs (suspend true true t c) → StartsWell vs σ types t → StartsWell vs σ types (suspend true true t c)
  unfolding start
  starts_well_weak_suspend t c sound f κ l v go move β cur w h =
      let k = tested vs κ c go β in
      let b = and_of go k.ref k.built in
      let x = and_of b.ref move b.built in
      let e = enter l x.ref x.built in
      let n = not_of k.ref e in
      let m = and_of move n.ref n.built in
      let s = unless_zero go m.built (start vs κ (l + 1) v t go m.ref m.built) in
      let o = not_of k.ref s.built in
      let wk = (tested_grows vs σ κ c go β).built w in
      let wb = (and_grows vs go k.ref k.built).built wk in
      let wx = (and_grows vs b.ref move b.built).built wb in
      let we = (enter_grows vs l x.ref x.built).built wx in
      let wn = (not_grows vs k.ref e).built we in
      let wm = (and_grows vs move n.ref n.built).built wn in
      let ws = (unless_zero_grows vs σ go m.built _ (start_grows vs σ t κ (l + 1) v go m.ref m.built sound.1)).built wm in
      let wo = (not_grows vs k.ref s.built).built ws in
      let pf = and_done vs σ s.ref o.ref o.built wo h in
      let po = not_done vs σ k.ref s.built ws pf.good in
      let rs = surfaces vs σ types t f κ (l + 1) v go m.ref m.built cur wm po.good in
      let pm = and_done vs σ move n.ref n.built wn rs.good in
      let pn = not_done vs σ k.ref e we pm.good in
      let px = and_done vs σ b.ref move b.built wb (enter_good l x.ref x.built pn.good) in
      let pb = and_done vs σ go k.ref k.built wk px.good in
      let dk = tested_done vs σ κ types cur c go β sound.0 w pb.good in
      let env : Values = env_of σ κ in
      let fs : List Fault = faults vs env c in
      let kt : Bool = truth σ k.ref in
      let wt : truth σ x.ref ≡ ((truth σ go && kt) && truth σ move) = px.ref ∙ ap (λ y. y && truth σ move) pb.ref in
      record {
        good = dk.added.good;
        added = plus (raises (faults_if (truth σ go) fs)) (plus (waits l ((truth σ go && kt) && truth σ move)) rs.added);
        adds = pf.quiet ∙ po.quiet ∙ rs.adds ∙ ap (λ (y : Trail). plus y rs.added) (pm.quiet ∙ pn.quiet ∙ trail_enter vs σ l x.ref x.built ∙ ap (λ y. plus (trail vs σ x.built) (waits l y)) wt
            ∙ ap (λ (y : Trail). plus y (waits l ((truth σ go && kt) && truth σ move))) (px.quiet ∙ pb.quiet ∙ decided vs σ types κ c go β k dk))
            ∙ plus_assoc (plus (trail vs σ β) (raises (faults_if (truth σ go) fs))) (waits l ((truth σ go && kt) && truth σ move)) rs.added
            ∙ plus_assoc (trail vs σ β) (raises (faults_if (truth σ go) fs)) (plus (waits l ((truth σ go && kt) && truth σ move)) rs.added);
        settled = λ q. pf.settled (po.settled (rs.settled (pm.settled (pn.settled (enter_settled vs σ l x.ref x.built (px.settled (pb.settled (dk.added.settled q))))))));
        runs = run_as vs σ types env l v (suspend true true t c) (truth σ go) (truth σ go) (truth σ move) (truth σ move) (truth σ s.ref && not kt) _ _ refl refl (ap (λ y. truth σ s.ref && y) (sym po.ref) ∙ sym pf.ref)
            (starts_weak_wait vs env σ.registers l v t c (truth σ go) kt (truth σ move) (truth σ s.ref) rs.added (sound_fresh vs t sound.1) (fails vs σ types (is_zero (value vs env c)) kt dk.ref)
            (run_as vs σ types env (l + 1) v t (truth σ go) (truth σ go) (truth σ m.ref) (truth σ move && not kt) (truth σ s.ref) (truth σ s.ref) rs.added refl (pm.ref ∙ ap (λ y. truth σ move && y) pn.ref) refl rs.runs));
      }
