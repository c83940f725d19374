-- The walk through builders: pauses and suspensions that go on.
use Rattle.std.proofs.Common.{◌≡◌, ℕ, suc, ◌+◌, Bool, true, false, ◌&&◌, ◌||◌, not, List, refl, sym, ap, ◌∙◌}
use Rattle.quartz_tree.specs.declared.fault.Fault.{Fault}
use Rattle.quartz_tree.specs.Tree.{Tree as Expr}
use Rattle.quartz_expr.specs.Values.{Values, is_zero}
use Rattle.quartz_expr.specs.Vars.{Vars}
use Rattle.quartz_expr.specs.Value.{value}
use Rattle.quartz_expr.specs.Faults.{faults}
use Rattle.quartz_expr.specs.Typed.{AreSound as AreSoundVars, IsTyped}
use Rattle.quartz_expr.specs.Terms.{Term, pause, suspend}
use Rattle.aif_cells.specs.declared.reference.Ref.{Ref}
use Rattle.aif_cells.specs.declared.reference.Ref.TheVariants as ref
use Rattle.aif_cells.specs.Worth.{Assignment, truth}
use Rattle.statement_cells.specs.Labels.{labels}
use Rattle.statement_cells.specs.Expressions.{Copies, env_of}
use Rattle.statement_cells.specs.Builder.{Builder, not_of, and_of, or_of, in_of, stay_at}
use Rattle.statement_cells.specs.Surface.{if_labels, tested, surface, Suspended, suspended, resume}
use Rattle.statement_cells.specs.Sound.{IsSound}
use Rattle.statement_cells.specs.Stands.{some}
use Rattle.statement_cells.specs.Walk.{Good, IsBuilt, IsCurrent, Trail, trail, plus, now, Settles}
use Rattle.statement_cells.proofs.BoolLemmas.{and_false}
use Rattle.statement_cells.proofs.TrailLemmas.{plus_assoc, trail_stay, stay_settled}
use Rattle.statement_cells.proofs.GrowLemmas.{not_grows, and_grows, or_grows, in_grows, stay_grows}
use Rattle.statement_cells.proofs.CellLemmas.{not_done, and_done, or_done, in_done}
use Rattle.statement_cells.proofs.WatchLemmas.{tested_done, tested_grows}
use Rattle.statement_cells.proofs.PlainLemmas.{sound_fresh}
use Rattle.statement_cells.proofs.RunLemmas.{raises, faults_if}
use Rattle.statement_cells.proofs.PauseLemmas.{resumes_pause}
use Rattle.statement_cells.proofs.SleepLemmas.{stays_with, stays_spared, resumes_strong_suspend, resumes_weak_suspend}
use Rattle.statement_cells.proofs.WaitLemmas.{waits}
use Rattle.statement_cells.proofs.ImmediateLemmas.{resumes_strong_wait, resumes_weak_wait}
use Rattle.statement_cells.proofs.SurfaceGrowLemmas.{surface_grows, if_labels_grows, resume_grows, suspended_grows}
use Rattle.statement_cells.proofs.WalkLemmas.{StartsWell, surfaces, run_as, fails, decided}
use Rattle.statement_cells.proofs.ResumeLemmas.{GoesWell, depths, proceeds_as}

-- where a suspension spares its body, what is excluded stays excluded
pub strong_excluded : (res mv st g k : Bool) → (res && (mv && st)) ≡ false → ((res && not k) && (mv && stays_with st mv g k)) ≡ false
strong_excluded res mv st g true e = ap (λ b. b && (mv && stays_with st mv g true)) (and_false res)
strong_excluded true mv st g false e = ap (λ b. mv && b) (stays_spared st mv g) ∙ e
strong_excluded false mv st g false e = refl

pub weak_excluded : (res mv st g k : Bool) → (res && (mv && st)) ≡ false → (res && ((mv && not k) && stays_with st mv g k)) ≡ false
weak_excluded res mv st g true e = ap (λ b. res && (b && stays_with st mv g true)) (and_false mv) ∙ and_false res
weak_excluded res true st g false e = ap (λ b. res && b) (stays_spared st true g) ∙ e
weak_excluded res false st g false e = and_false res

module _ (vs : Vars) (σ : Assignment) (types : AreSoundVars vs) where
  pub stay_good : (l : ℕ) (r : Ref) (β : Builder) → Good vs σ (stay_at l r β) → Good vs σ β
  unfolding stay_at
  stay_good l r β h = record { met = h.met; ranges = h.ranges; inactive = h.inactive }

  pub goes_well_pause : GoesWell vs σ types pause
  unfolding resume
  goes_well_pause κ l v res move stay β cur w one excl h =
      let b = stay_at l stay β in
      let p = and_done vs σ (ref.Reg l) res b ((stay_grows vs l stay β).built w) h in
      let good = stay_good l stay β p.good in
      record {
        good = good;
        added = waits l (now σ l && truth σ stay);
        adds = p.quiet ∙ trail_stay vs σ l stay β;
        settled = λ q. p.settled (stay_settled vs σ l stay β q);
        runs = proceeds_as vs σ types (env_of σ κ) l v pause (truth σ res) (truth σ res) (truth σ move) (truth σ move) (truth σ stay) (truth σ stay) (now σ l && truth σ res) _ _ refl refl refl (sym p.ref)
            (resumes_pause vs (env_of σ κ) (now σ) σ.registers l v (truth σ res) (truth σ move) (truth σ stay) (excl good));
      }

  -- what a suspension begins with
  pub record Begun (κ : Copies) (l n : ℕ) (c : Expr ℕ) (res move stay : Ref) (β : Builder) (u : Suspended vs) : Type 0 where
    pub good : Good vs σ β
    pub cond : is_zero (value vs (env_of σ κ) c) ≡ not (truth σ u.cond)
    pub stays : truth σ u.stay ≡ stays_with (truth σ stay) (truth σ move) (some (now σ) l n && truth σ res) (truth σ u.cond)
    pub adds : trail vs σ u.built ≡ plus (trail vs σ β) (raises (faults_if (some (now σ) l n && truth σ res) (faults vs (env_of σ κ) c)))
    pub settled : Settles vs σ β u.built

  pub suspended_done : (κ : Copies) (l n : ℕ) (c : Expr ℕ) (res move stay : Ref) (β : Builder) → IsCurrent vs σ κ → IsTyped vs c → IsBuilt vs β → Good vs σ (suspended vs κ l n c res move stay β).built
      → Begun κ l n c res move stay β (suspended vs κ l n c res move stay β)
  unfolding suspended
  suspended_done κ l n c res move stay β cur typed w h =
      let i = in_of l n β in
      let a = and_of i.ref res i.built in
      let k = tested vs κ c a.ref a.built in
      let x = and_of move a.ref k.built in
      let y = and_of x.ref k.ref x.built in
      let wi = (in_grows vs l n β).built w in
      let wa = (and_grows vs i.ref res i.built).built wi in
      let wk = (tested_grows vs σ κ c a.ref a.built).built wa in
      let wx = (and_grows vs move a.ref k.built).built wk in
      let wy = (and_grows vs x.ref k.ref x.built).built wx in
      let ph = or_done vs σ stay y.ref y.built wy h in
      let py = and_done vs σ x.ref k.ref x.built wx ph.good in
      let px = and_done vs σ move a.ref k.built wk py.good in
      let dk = tested_done vs σ κ types cur c a.ref a.built typed wa px.good in
      let pa = and_done vs σ i.ref res i.built wi dk.added.good in
      let pi = in_done vs σ l n β w pa.good in
      let alive : truth σ a.ref ≡ (some (now σ) l n && truth σ res) = pa.ref ∙ ap (λ b. b && truth σ res) pi.ref in
      record {
        good = pi.good;
        cond = fails vs σ types (is_zero (value vs (env_of σ κ) c)) (truth σ k.ref) dk.ref;
        stays = ph.ref ∙ ap (λ b. truth σ stay || b) (py.ref ∙ ap (λ b. b && truth σ k.ref) (px.ref ∙ ap (λ b. truth σ move && b) alive));
        adds = ph.quiet ∙ py.quiet ∙ px.quiet ∙ decided vs σ types κ c a.ref a.built k dk
            ∙ ap (λ b. plus (trail vs σ a.built) (raises (faults_if b (faults vs (env_of σ κ) c)))) alive
            ∙ ap (λ (t : Trail). plus t (raises (faults_if (some (now σ) l n && truth σ res) (faults vs (env_of σ κ) c)))) (pa.quiet ∙ pi.quiet);
        settled = λ was. ph.settled (py.settled (px.settled (dk.added.settled (pa.settled (pi.settled was)))));
      }

  pub goes_well_strong_suspend : (t : Term) (c : Expr ℕ) → IsSound vs (suspend false false t c) → GoesWell vs σ types t → GoesWell vs σ types (suspend false false t c)
  unfolding resume
  goes_well_strong_suspend t c sound g κ l v res move stay β cur w one excl h =
      let u = suspended vs κ l (labels t) c res move stay β in
      let o = not_of u.cond u.built in
      let q = and_of res o.ref o.built in
      let wu = (suspended_grows vs σ κ l (labels t) c res move stay β).built w in
      let wo = (not_grows vs u.cond u.built).built wu in
      let wq = (and_grows vs res o.ref o.built).built wo in
      let rest : Good vs σ q.built → (truth σ q.ref && (truth σ move && truth σ u.stay)) ≡ false =
      λ x.
      let a = and_done vs σ res o.ref o.built wo x in
      let b = not_done vs σ u.cond u.built wu a.good in
      let d = suspended_done κ l (labels t) c res move stay β cur sound.0 w b.good in
      ap (λ y. y && (truth σ move && truth σ u.stay)) (a.ref ∙ ap (λ y. truth σ res && y) b.ref) ∙ ap (λ y. (truth σ res && not (truth σ u.cond)) && (truth σ move && y)) d.stays
      ∙ strong_excluded (truth σ res) (truth σ move) (truth σ stay) (some (now σ) l (labels t) && truth σ res) (truth σ u.cond) (excl d.good) in
      let rs = depths vs σ types t g κ l v q.ref move u.stay q.built cur wq one rest h in
      let pq = and_done vs σ res o.ref o.built wo rs.good in
      let po = not_done vs σ u.cond u.built wu pq.good in
      let d = suspended_done κ l (labels t) c res move stay β cur sound.0 w po.good in
      let env : Values = env_of σ κ in
      let fs : List Fault = faults_if (some (now σ) l (labels t) && truth σ res) (faults vs env c) in
      record {
        good = d.good;
        added = plus (raises fs) rs.added;
        adds = rs.adds ∙ ap (λ (x : Trail). plus x rs.added) (pq.quiet ∙ po.quiet ∙ d.adds) ∙ plus_assoc (trail vs σ β) (raises fs) rs.added;
        settled = λ was. rs.settled (pq.settled (po.settled (d.settled was)));
        runs = resumes_strong_suspend vs env (now σ) σ.registers l v t c (truth σ res) (truth σ u.cond) (truth σ move) (truth σ stay) _ rs.added one d.cond
            (proceeds_as vs σ types env l v t (truth σ q.ref) (truth σ res && not (truth σ u.cond)) (truth σ move) (truth σ move) (truth σ u.stay) _ _ _ rs.added (pq.ref ∙ ap (λ y. truth σ res && y) po.ref) refl d.stays refl rs.runs);
      }

  pub goes_well_weak_suspend : (t : Term) (c : Expr ℕ) → IsSound vs (suspend true false t c) → GoesWell vs σ types t → GoesWell vs σ types (suspend true false t c)
  unfolding resume
  goes_well_weak_suspend t c sound g κ l v res move stay β cur w one excl h =
      let u = suspended vs κ l (labels t) c res move stay β in
      let o = not_of u.cond u.built in
      let m = and_of move o.ref o.built in
      let s = if_labels (labels t) m.built (resume vs κ l v t res m.ref u.stay m.built) in
      let e = not_of u.cond s.built in
      let wu = (suspended_grows vs σ κ l (labels t) c res move stay β).built w in
      let wo = (not_grows vs u.cond u.built).built wu in
      let wm = (and_grows vs move o.ref o.built).built wo in
      let ws = (if_labels_grows vs σ (labels t) m.built _ (resume_grows vs σ t κ l v res m.ref u.stay m.built sound.1)).built wm in
      let we = (not_grows vs u.cond s.built).built ws in
      let pf = and_done vs σ s.ref e.ref e.built we h in
      let pe = not_done vs σ u.cond s.built ws pf.good in
      let rest : Good vs σ m.built → (truth σ res && (truth σ m.ref && truth σ u.stay)) ≡ false =
      λ x.
      let a = and_done vs σ move o.ref o.built wo x in
      let b = not_done vs σ u.cond u.built wu a.good in
      let d = suspended_done κ l (labels t) c res move stay β cur sound.0 w b.good in
      ap (λ y. truth σ res && (y && truth σ u.stay)) (a.ref ∙ ap (λ y. truth σ move && y) b.ref) ∙ ap (λ y. truth σ res && ((truth σ move && not (truth σ u.cond)) && y)) d.stays
      ∙ weak_excluded (truth σ res) (truth σ move) (truth σ stay) (some (now σ) l (labels t) && truth σ res) (truth σ u.cond) (excl d.good) in
      let rs = depths vs σ types t g κ l v res m.ref u.stay m.built cur wm one rest pe.good in
      let pm = and_done vs σ move o.ref o.built wo rs.good in
      let po = not_done vs σ u.cond u.built wu pm.good in
      let d = suspended_done κ l (labels t) c res move stay β cur sound.0 w po.good in
      let env : Values = env_of σ κ in
      let fs : List Fault = faults_if (some (now σ) l (labels t) && truth σ res) (faults vs env c) in
      record {
        good = d.good;
        added = plus (raises fs) rs.added;
        adds = pf.quiet ∙ pe.quiet ∙ rs.adds ∙ ap (λ (x : Trail). plus x rs.added) (pm.quiet ∙ po.quiet ∙ d.adds) ∙ plus_assoc (trail vs σ β) (raises fs) rs.added;
        settled = λ was. pf.settled (pe.settled (rs.settled (pm.settled (po.settled (d.settled was)))));
        runs = proceeds_as vs σ types env l v (suspend true false t c) (truth σ res) (truth σ res) (truth σ move) (truth σ move) (truth σ stay) (truth σ stay) (truth σ s.ref && not (truth σ u.cond)) _ _ refl refl refl
            (ap (λ y. truth σ s.ref && y) (sym pe.ref) ∙ sym pf.ref)
            (resumes_weak_suspend vs env (now σ) σ.registers l v t c (truth σ res) (truth σ u.cond) (truth σ move) (truth σ stay) (truth σ s.ref) rs.added one d.cond
            (proceeds_as vs σ types env l v t (truth σ res) (truth σ res) (truth σ m.ref) (truth σ move && not (truth σ u.cond)) (truth σ u.stay) _ _ _ rs.added refl (pm.ref ∙ ap (λ y. truth σ move && y) po.ref) d.stays refl rs.runs));
      }

  pub goes_well_strong_wait : (t : Term) (c : Expr ℕ) → IsSound vs (suspend false true t c) → StartsWell vs σ types t → GoesWell vs σ types t → GoesWell vs σ types (suspend false true t c)
  unfolding resume
  goes_well_strong_wait t c sound f g κ l v res move stay β cur w one excl h =
      let u = suspended vs κ l (suc (labels t)) c res move stay β in
      let o = not_of u.cond u.built in
      let q = and_of res o.ref o.built in
      let y = stay_at l u.stay q.built in
      let i = and_of (ref.Reg l) q.ref y in
      let a = surface vs κ (l + 1) v t i.ref move i.built in
      let s = if_labels (labels t) a.built (resume vs κ (l + 1) v t q.ref move u.stay a.built) in
      let wu = (suspended_grows vs σ κ l (suc (labels t)) c res move stay β).built w in
      let wo = (not_grows vs u.cond u.built).built wu in
      let wq = (and_grows vs res o.ref o.built).built wo in
      let wy = (stay_grows vs l u.stay q.built).built wq in
      let wi = (and_grows vs (ref.Reg l) q.ref y).built wy in
      let wa = (surface_grows vs σ t κ (l + 1) v i.ref move i.built sound.1).built wi in
      let ws = (if_labels_grows vs σ (labels t) a.built _ (resume_grows vs σ t κ (l + 1) v q.ref move u.stay a.built sound.1)).built wa in
      let pf = or_done vs σ a.ref s.ref s.built ws h in
      let env : Values = env_of σ κ in
      let go : Bool = some (now σ) l (suc (labels t)) && truth σ res in
      let fs : List Fault = faults_if go (faults vs env c) in
      let of_q : Good vs σ q.built → (truth σ q.ref && (truth σ move && truth σ u.stay)) ≡ false =
      λ x.
      let z = and_done vs σ res o.ref o.built wo x in
      let b = not_done vs σ u.cond u.built wu z.good in
      let d = suspended_done κ l (suc (labels t)) c res move stay β cur sound.0 w b.good in
      ap (λ y. y && (truth σ move && truth σ u.stay)) (z.ref ∙ ap (λ y. truth σ res && y) b.ref) ∙ ap (λ y. (truth σ res && not (truth σ u.cond)) && (truth σ move && y)) d.stays
      ∙ strong_excluded (truth σ res) (truth σ move) (truth σ stay) go (truth σ u.cond) (excl d.good) in
      let rest : Good vs σ a.built → (truth σ q.ref && (truth σ move && truth σ u.stay)) ≡ false =
      λ x. of_q (stay_good l u.stay q.built (and_done vs σ (ref.Reg l) q.ref y wy (surfaces vs σ types t f κ (l + 1) v i.ref move i.built cur wi x).good).good) in
      let rs = depths vs σ types t g κ (l + 1) v q.ref move u.stay a.built cur wa one.1 rest pf.good in
      let ra = surfaces vs σ types t f κ (l + 1) v i.ref move i.built cur wi rs.good in
      let pi = and_done vs σ (ref.Reg l) q.ref y wy ra.good in
      let gq = stay_good l u.stay q.built pi.good in
      let pq = and_done vs σ res o.ref o.built wo gq in
      let po = not_done vs σ u.cond u.built wu pq.good in
      let d = suspended_done κ l (suc (labels t)) c res move stay β cur sound.0 w po.good in
      let held : Bool = stays_with (truth σ stay) (truth σ move) go (truth σ u.cond) in
      let qt : truth σ q.ref ≡ (truth σ res && not (truth σ u.cond)) = pq.ref ∙ ap (λ y. truth σ res && y) po.ref in
      record {
        good = d.good;
        added = plus (raises fs) (plus (waits l (now σ l && held)) (plus ra.added rs.added));
        adds = pf.quiet ∙ rs.adds ∙ ap (λ (x : Trail). plus x rs.added) (ra.adds ∙ ap (λ (x : Trail). plus x ra.added) (pi.quiet ∙ trail_stay vs σ l u.stay q.built ∙ ap (λ b. plus (trail vs σ q.built) (waits l (now σ l && b))) d.stays
            ∙ ap (λ (x : Trail). plus x (waits l (now σ l && held))) (pq.quiet ∙ po.quiet ∙ d.adds)))
            ∙ plus_assoc (plus (plus (trail vs σ β) (raises fs)) (waits l (now σ l && held))) ra.added rs.added
            ∙ plus_assoc (plus (trail vs σ β) (raises fs)) (waits l (now σ l && held)) (plus ra.added rs.added)
            ∙ plus_assoc (trail vs σ β) (raises fs) (plus (waits l (now σ l && held)) (plus ra.added rs.added));
        settled = λ was. pf.settled (rs.settled (ra.settled (pi.settled (stay_settled vs σ l u.stay q.built (pq.settled (po.settled (d.settled was)))))));
        runs = proceeds_as vs σ types env l v (suspend false true t c) (truth σ res) (truth σ res) (truth σ move) (truth σ move) (truth σ stay) (truth σ stay) (truth σ a.ref || truth σ s.ref) _ _ refl refl refl (sym pf.ref)
            (resumes_strong_wait vs env (now σ) σ.registers l v t c (truth σ res) (truth σ u.cond) (truth σ move) (truth σ stay) (truth σ a.ref) (truth σ s.ref) ra.added rs.added (sound_fresh vs t sound.1) one (excl d.good) d.cond
            (run_as vs σ types env (l + 1) v t (truth σ i.ref) (now σ l && (truth σ res && not (truth σ u.cond))) (truth σ move) (truth σ move) (truth σ a.ref) (truth σ a.ref) ra.added (pi.ref ∙ ap (λ b. now σ l && b) qt) refl refl ra.runs)
            (proceeds_as vs σ types env (l + 1) v t (truth σ q.ref) (truth σ res && not (truth σ u.cond)) (truth σ move) (truth σ move) (truth σ u.stay) held (truth σ s.ref) (truth σ s.ref) rs.added qt refl d.stays refl rs.runs));
      }

  pub goes_well_weak_wait : (t : Term) (c : Expr ℕ) → IsSound vs (suspend true true t c) → StartsWell vs σ types t → GoesWell vs σ types t → GoesWell vs σ types (suspend true true t c)
  unfolding resume
  goes_well_weak_wait t c sound f g κ l v res move stay β cur w one excl h =
      let u = suspended vs κ l (suc (labels t)) c res move stay β in
      let o = not_of u.cond u.built in
      let m = and_of move o.ref o.built in
      let y = stay_at l u.stay m.built in
      let i = and_of (ref.Reg l) res y in
      let a = surface vs κ (l + 1) v t i.ref m.ref i.built in
      let s = if_labels (labels t) a.built (resume vs κ (l + 1) v t res m.ref u.stay a.built) in
      let b = or_of a.ref s.ref s.built in
      let e = not_of u.cond b.built in
      let wu = (suspended_grows vs σ κ l (suc (labels t)) c res move stay β).built w in
      let wo = (not_grows vs u.cond u.built).built wu in
      let wm = (and_grows vs move o.ref o.built).built wo in
      let wy = (stay_grows vs l u.stay m.built).built wm in
      let wi = (and_grows vs (ref.Reg l) res y).built wy in
      let wa = (surface_grows vs σ t κ (l + 1) v i.ref m.ref i.built sound.1).built wi in
      let ws = (if_labels_grows vs σ (labels t) a.built _ (resume_grows vs σ t κ (l + 1) v res m.ref u.stay a.built sound.1)).built wa in
      let wb = (or_grows vs a.ref s.ref s.built).built ws in
      let we = (not_grows vs u.cond b.built).built wb in
      let pf = and_done vs σ b.ref e.ref e.built we h in
      let pe = not_done vs σ u.cond b.built wb pf.good in
      let pb = or_done vs σ a.ref s.ref s.built ws pe.good in
      let env : Values = env_of σ κ in
      let go : Bool = some (now σ) l (suc (labels t)) && truth σ res in
      let fs : List Fault = faults_if go (faults vs env c) in
      let of_m : Good vs σ m.built → (truth σ res && (truth σ m.ref && truth σ u.stay)) ≡ false =
      λ x.
      let z = and_done vs σ move o.ref o.built wo x in
      let n = not_done vs σ u.cond u.built wu z.good in
      let d = suspended_done κ l (suc (labels t)) c res move stay β cur sound.0 w n.good in
      ap (λ y. truth σ res && (y && truth σ u.stay)) (z.ref ∙ ap (λ y. truth σ move && y) n.ref) ∙ ap (λ y. truth σ res && ((truth σ move && not (truth σ u.cond)) && y)) d.stays
      ∙ weak_excluded (truth σ res) (truth σ move) (truth σ stay) go (truth σ u.cond) (excl d.good) in
      let rest : Good vs σ a.built → (truth σ res && (truth σ m.ref && truth σ u.stay)) ≡ false =
      λ x. of_m (stay_good l u.stay m.built (and_done vs σ (ref.Reg l) res y wy (surfaces vs σ types t f κ (l + 1) v i.ref m.ref i.built cur wi x).good).good) in
      let rs = depths vs σ types t g κ (l + 1) v res m.ref u.stay a.built cur wa one.1 rest pb.good in
      let ra = surfaces vs σ types t f κ (l + 1) v i.ref m.ref i.built cur wi rs.good in
      let pi = and_done vs σ (ref.Reg l) res y wy ra.good in
      let gm = stay_good l u.stay m.built pi.good in
      let pm = and_done vs σ move o.ref o.built wo gm in
      let po = not_done vs σ u.cond u.built wu pm.good in
      let d = suspended_done κ l (suc (labels t)) c res move stay β cur sound.0 w po.good in
      let held : Bool = stays_with (truth σ stay) (truth σ move) go (truth σ u.cond) in
      let mt : truth σ m.ref ≡ (truth σ move && not (truth σ u.cond)) = pm.ref ∙ ap (λ y. truth σ move && y) po.ref in
      record {
        good = d.good;
        added = plus (raises fs) (plus (waits l (now σ l && held)) (plus ra.added rs.added));
        adds = pf.quiet ∙ pe.quiet ∙ pb.quiet ∙ rs.adds ∙ ap (λ (x : Trail). plus x rs.added) (ra.adds ∙ ap (λ (x : Trail). plus x ra.added) (pi.quiet ∙ trail_stay vs σ l u.stay m.built ∙ ap (λ b. plus (trail vs σ m.built) (waits l (now σ l && b))) d.stays
            ∙ ap (λ (x : Trail). plus x (waits l (now σ l && held))) (pm.quiet ∙ po.quiet ∙ d.adds)))
            ∙ plus_assoc (plus (plus (trail vs σ β) (raises fs)) (waits l (now σ l && held))) ra.added rs.added
            ∙ plus_assoc (plus (trail vs σ β) (raises fs)) (waits l (now σ l && held)) (plus ra.added rs.added)
            ∙ plus_assoc (trail vs σ β) (raises fs) (plus (waits l (now σ l && held)) (plus ra.added rs.added));
        settled = λ was. pf.settled (pe.settled (pb.settled (rs.settled (ra.settled (pi.settled (stay_settled vs σ l u.stay m.built (pm.settled (po.settled (d.settled was)))))))));
        runs = proceeds_as vs σ types env l v (suspend true true t c) (truth σ res) (truth σ res) (truth σ move) (truth σ move) (truth σ stay) (truth σ stay) ((truth σ a.ref || truth σ s.ref) && not (truth σ u.cond)) _ _ refl refl refl
            (ap (λ y. y && not (truth σ u.cond)) (sym pb.ref) ∙ ap (λ y. truth σ b.ref && y) (sym pe.ref) ∙ sym pf.ref)
            (resumes_weak_wait vs env (now σ) σ.registers l v t c (truth σ res) (truth σ u.cond) (truth σ move) (truth σ stay) (truth σ a.ref) (truth σ s.ref) ra.added rs.added (sound_fresh vs t sound.1) one (excl d.good) d.cond
            (run_as vs σ types env (l + 1) v t (truth σ i.ref) (now σ l && truth σ res) (truth σ m.ref) (truth σ move && not (truth σ u.cond)) (truth σ a.ref) (truth σ a.ref) ra.added pi.ref mt refl ra.runs)
            (proceeds_as vs σ types env (l + 1) v t (truth σ res) (truth σ res) (truth σ m.ref) (truth σ move && not (truth σ u.cond)) (truth σ u.stay) held (truth σ s.ref) (truth σ s.ref) rs.added refl mt d.stays refl rs.runs));
      }
