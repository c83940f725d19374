-- The walk through builders: what the depth of a statement adds is a run, form by form.
use Rattle.std.proofs.Common.{◌≡◌, ℕ, zero, suc, ◌+◌, Bool, true, false, ◌&&◌, ◌||◌, not, List, Option, refl, sym, ap, ◌∙◌, subst}
use Rattle.quartz_tree.specs.declared.place.Place.{Place}
use Rattle.quartz_tree.specs.declared.fault.Fault.{Fault}
use Rattle.quartz_tree.specs.Tree.{Tree as Expr}
use Rattle.quartz_expr.specs.Values.{Values, is_zero}
use Rattle.quartz_expr.specs.Vars.{Vars}
use Rattle.quartz_expr.specs.Value.{value}
use Rattle.quartz_expr.specs.Faults.{faults}
use Rattle.quartz_expr.specs.Typed.{AreSound as AreSoundVars}
use Rattle.quartz_expr.specs.Terms.{Term, nothing, write, choose, seq, loop, abort, Terms, none, part}
use Rattle.aif_cells.specs.declared.reference.Ref.{Ref}
use Rattle.aif_cells.specs.Worth.{Assignment, truth}
use Rattle.statement_cells.specs.Labels.{labels, labels_all, registers}
use Rattle.statement_cells.specs.Expressions.{Copies, env_of}
use Rattle.statement_cells.specs.Builder.{Builder, Made, zero_ref, not_of, and_of, or_of, in_of}
use Rattle.statement_cells.specs.Surface.{if_labels, tested, surface, resume, resume_in_turn, depth}
use Rattle.statement_cells.specs.Sound.{IsSound, AreSound}
use Rattle.statement_cells.specs.Stands.{some, at, AtOne, AtOneInTurn}
use Rattle.statement_cells.specs.Walk.{Good, IsBuilt, IsCurrent, Trail, trail, plus, no_trail, now, Runs, Walked, Settles}
use Rattle.statement_cells.proofs.MarkLemmas.{marks_none, takes_none, kept_free}
use Rattle.statement_cells.proofs.TrailLemmas.{plus_none, plus_assoc}
use Rattle.statement_cells.proofs.GrowLemmas.{not_grows, and_grows, or_grows, in_grows}
use Rattle.statement_cells.proofs.CellLemmas.{not_done, and_done, or_done, in_done}
use Rattle.statement_cells.proofs.WatchLemmas.{tested_done, tested_grows}
use Rattle.statement_cells.proofs.PlainLemmas.{sound_fresh, sound_fresh_all}
use Rattle.statement_cells.proofs.RunLemmas.{raises, faults_if, Proceeds, resumes_choose}
use Rattle.statement_cells.proofs.TurnLemmas.{InTurn, resumes_none, resumes_turn, resumes_seq, apart_next}
use Rattle.statement_cells.proofs.LoopLemmas.{resumes_loop}
use Rattle.statement_cells.proofs.AbortLemmas.{resumes_strong_abort, resumes_weak_abort}
use Rattle.statement_cells.proofs.SurfaceGrowLemmas.{surface_grows, if_labels_grows, resume_grows}
use Rattle.statement_cells.proofs.WalkLemmas.{StartsWell, surfaces, run_as, fails, decided}

module _ (vs : Vars) (σ : Assignment) (types : AreSoundVars vs) where
  -- going on with the statement is a run of it
  abbrev pub GoesWell : Term → Type 0
  GoesWell s = (κ : Copies) (l v : ℕ) (res move stay : Ref) (β : Builder) → IsCurrent vs σ κ → IsBuilt vs β → AtOne (now σ) l s → (Good vs σ β → (truth σ res && (truth σ move && truth σ stay)) ≡ false)
      → Good vs σ (resume vs κ l v s res move stay β).built
      → Walked vs σ κ (at vs (now σ) σ.registers l v s) (now σ) l v s (some (now σ) l (labels s) && truth σ res) (truth σ move) (truth σ stay) β (resume vs κ l v s res move stay β)

  abbrev pub DepthsWell : Term → Type 0
  DepthsWell s = (κ : Copies) (l v : ℕ) (res move stay : Ref) (β : Builder) → IsCurrent vs σ κ → IsBuilt vs β → AtOne (now σ) l s → (Good vs σ β → (truth σ res && (truth σ move && truth σ stay)) ≡ false)
      → Good vs σ (depth vs κ l v s res move stay β).built
      → Walked vs σ κ (at vs (now σ) σ.registers l v s) (now σ) l v s (some (now σ) l (labels s) && truth σ res) (truth σ move) (truth σ stay) β (depth vs κ l v s res move stay β)

  -- without a label that is 1 a statement rests
  pub rests : (env : Values) (l v : ℕ) (s : Term) (res mv st : Bool) → some (now σ) l (labels s) ≡ false → Proceeds vs env (now σ) σ.registers l v s res mv st false no_trail
  rests env l v s res mv st off =
      subst (λ x. Runs vs env (at vs (now σ) σ.registers l v s) (now σ) σ.registers l v s (x && res) mv st false no_trail) (sym off)
      (record {
        ends = refl;
        acts = refl;
        faults = refl;
        met = refl;
        marks = sym (kept_free (now σ) st l (labels s) off);
        takes = refl;
        held = λ on. absurd (cc);
        bounded = record { marks = marks_none l (labels s); takes = takes_none v (registers vs s); defaults = takes_none v (registers vs s); rests = λ f. refl };
      })

  unlabelled : (n : ℕ) (l : ℕ) → n ≡ zero → some (now σ) l n ≡ false
  unfolding some
  unlabelled zero l e = refl
  unlabelled (suc n) l e = absurd (cc)

  -- without labels nothing is made
  pub depths : (s : Term) → GoesWell s → DepthsWell s
  depths s f κ l v res move stay β cur w one excl h = either (labels s) refl h
    where
      either : (n : ℕ) → labels s ≡ n → Good vs σ (if_labels n β (resume vs κ l v s res move stay β)).built
          → Walked vs σ κ (at vs (now σ) σ.registers l v s) (now σ) l v s (some (now σ) l (labels s) && truth σ res) (truth σ move) (truth σ stay) β (if_labels n β (resume vs κ l v s res move stay β))
      either zero e g = record { good = g; added = no_trail; adds = sym (plus_none (trail vs σ β)); settled = λ q. q; runs = rests (env_of σ κ) l v s (truth σ res) (truth σ move) (truth σ stay) (unlabelled (labels s) l e) }
      either (suc n) e g = f κ l v res move stay β cur w one excl g

  less : (a b x : Bool) → (a && x) ≡ false → ((a && b) && x) ≡ false
  less true true x h = h
  less true false x h = refl
  less false b x h = refl

  less_move : (a m b st : Bool) → (a && (m && st)) ≡ false → (a && ((m && b) && st)) ≡ false
  less_move true true true st h = h
  less_move true true false st h = refl
  less_move true false b st h = refl
  less_move false m b st h = refl

  -- statements without labels have no depth
  pub goes_well_nothing : GoesWell nothing
  unfolding resume
  goes_well_nothing κ l v res move stay β cur w one excl h = record {
    good = h;
    added = no_trail;
    adds = sym (plus_none (trail vs σ β));
    settled = λ q. q;
    runs = rests (env_of σ κ) l v nothing (truth σ res) (truth σ move) (truth σ stay) (unlabelled 0 l refl);
  }

  pub goes_well_write : (x : ℕ) (i : Option (Expr ℕ)) (e : Expr ℕ) (d : Bool) (p q : Place) → GoesWell (write x i e d p q)
  unfolding resume
  goes_well_write x i e d p q κ l v res move stay β cur w one excl h = record {
    good = h;
    added = no_trail;
    adds = sym (plus_none (trail vs σ β));
    settled = λ q. q;
    runs = rests (env_of σ κ) l v (write x i e d p q) (truth σ res) (truth σ move) (truth σ stay) (unlabelled 0 l refl);
  }

  -- a run that goes on, told with other truth values
  pub proceeds_as : (env : Values) (l v : ℕ) (s : Term) (res res' mv mv' st st' e e' : Bool) (o : Trail) → res ≡ res' → mv ≡ mv' → st ≡ st' → e ≡ e'
      → Proceeds vs env (now σ) σ.registers l v s res mv st e o → Proceeds vs env (now σ) σ.registers l v s res' mv' st' e' o
  proceeds_as env l v s res res' mv mv' st st' e e' o p q r t h =
      subst (λ x. Proceeds vs env (now σ) σ.registers l v s x mv' st' e' o) p (subst (λ x. Proceeds vs env (now σ) σ.registers l v s res x st' e' o) q
      (subst (λ x. Proceeds vs env (now σ) σ.registers l v s res mv x e' o) r (subst (λ x. Proceeds vs env (now σ) σ.registers l v s res mv st x o) t h)))

  -- a choice goes on
  pub goes_well_choose : (c : Expr ℕ) (a b : Term) → IsSound vs (choose c a b) → GoesWell a → GoesWell b → GoesWell (choose c a b)
  unfolding resume
  goes_well_choose c a b sound f g κ l v res move stay β cur w one excl h =
      let s = if_labels (labels a) β (resume vs κ l v a res move stay β) in
      let t = if_labels (labels b) s.built (resume vs κ (l + labels a) (v + registers vs a) b res move stay s.built) in
      let ws = (if_labels_grows vs σ (labels a) β _ (resume_grows vs σ a κ l v res move stay β sound.1)).built w in
      let wt = (if_labels_grows vs σ (labels b) s.built _ (resume_grows vs σ b κ (l + labels a) (v + registers vs a) res move stay s.built sound.2)).built ws in
      let po = or_done vs σ s.ref t.ref t.built wt h in
      let rt = depths b g κ (l + labels a) (v + registers vs a) res move stay s.built cur ws one.2 (λ x. excl (depths a f κ l v res move stay β cur w one.1 excl x).good) po.good in
      let rs = depths a f κ l v res move stay β cur w one.1 excl rt.good in
      record {
        good = rs.good;
        added = plus rs.added rt.added;
        adds = po.quiet ∙ rt.adds ∙ ap (λ (x : Trail). plus x rt.added) rs.adds ∙ plus_assoc (trail vs σ β) rs.added rt.added;
        settled = λ q. po.settled (rt.settled (rs.settled q));
        runs = proceeds_as (env_of σ κ) l v (choose c a b) (truth σ res) (truth σ res) (truth σ move) (truth σ move) (truth σ stay) (truth σ stay) (truth σ s.ref || truth σ t.ref) _ _ refl refl refl (sym po.ref)
            (resumes_choose vs (env_of σ κ) (now σ) σ.registers c a b l v (truth σ res) (truth σ move) (truth σ stay) (truth σ s.ref) (truth σ t.ref) rs.added rt.added one rs.runs rt.runs);
      }

  -- a loop goes on, and starts again where its body ends
  pub goes_well_loop : (t : Term) (c : Expr ℕ) → IsSound vs (loop t c) → StartsWell vs σ types t → GoesWell t → GoesWell (loop t c)
  unfolding resume
  goes_well_loop t c sound f g κ l v res move stay β cur w one excl h =
      let s = if_labels (labels t) β (resume vs κ l v t res move stay β) in
      let k = tested vs κ c s.ref s.built in
      let i = and_of s.ref k.ref k.built in
      let a = surface vs κ l v t i.ref move i.built in
      let n = not_of k.ref a.built in
      let ws = (if_labels_grows vs σ (labels t) β _ (resume_grows vs σ t κ l v res move stay β sound.2)).built w in
      let wk = (tested_grows vs σ κ c s.ref s.built).built ws in
      let wi = (and_grows vs s.ref k.ref k.built).built wk in
      let wa = (surface_grows vs σ t κ l v i.ref move i.built sound.2).built wi in
      let wn = (not_grows vs k.ref a.built).built wa in
      let po = and_done vs σ s.ref n.ref n.built wn h in
      let pn = not_done vs σ k.ref a.built wa po.good in
      let ra = surfaces vs σ types t f κ l v i.ref move i.built cur wi pn.good in
      let pi = and_done vs σ s.ref k.ref k.built wk ra.good in
      let dk = tested_done vs σ κ types cur c s.ref s.built sound.1 ws pi.good in
      let rs = depths t g κ l v res move stay β cur w one excl dk.added.good in
      let env : Values = env_of σ κ in
      let fs : List Fault = faults vs env c in
      record {
        good = rs.good;
        added = plus rs.added (plus (raises (faults_if (truth σ s.ref) fs)) ra.added);
        adds = po.quiet ∙ pn.quiet ∙ ra.adds ∙ ap (λ (x : Trail). plus x ra.added) (pi.quiet ∙ decided vs σ types κ c s.ref s.built k dk ∙ ap (λ (x : Trail). plus x (raises (faults_if (truth σ s.ref) fs))) rs.adds)
            ∙ plus_assoc (plus (trail vs σ β) rs.added) (raises (faults_if (truth σ s.ref) fs)) ra.added
            ∙ plus_assoc (trail vs σ β) rs.added (plus (raises (faults_if (truth σ s.ref) fs)) ra.added);
        settled = λ q. po.settled (pn.settled (ra.settled (pi.settled (dk.added.settled (rs.settled q)))));
        runs = proceeds_as env l v (loop t c) (truth σ res) (truth σ res) (truth σ move) (truth σ move) (truth σ stay) (truth σ stay) (truth σ s.ref && not (truth σ k.ref)) _ _ refl refl refl
            (ap (λ x. truth σ s.ref && x) (sym pn.ref) ∙ sym po.ref)
            (resumes_loop vs env (now σ) σ.registers l v t c (truth σ res) (truth σ k.ref) (truth σ move) (truth σ stay) (truth σ s.ref) (truth σ a.ref) rs.added ra.added sound.0 (sound_fresh vs t sound.2) (fails vs σ types (is_zero (value vs env c)) (truth σ k.ref) dk.ref)
            rs.runs (run_as vs σ types env l v t (truth σ i.ref) (truth σ s.ref && truth σ k.ref) (truth σ move) (truth σ move) (truth σ a.ref) (truth σ a.ref) ra.added pi.ref refl refl ra.runs));
      }

  -- what the parts of a sequence add is a run of them
  pub record TurnWalked (κ : Copies) (l v : ℕ) (ss : Terms) (before res move stay : Bool) (β : Builder) (made : Made) : Type 0 where
    pub good : Good vs σ β
    pub added : Trail
    pub adds : trail vs σ made.built ≡ plus (trail vs σ β) added
    pub settled : Settles vs σ β made.built
    pub runs : InTurn vs (env_of σ κ) (now σ) σ.registers l v ss before res move stay (truth σ made.ref) added

  -- the parts go on, each where its labels are or where the one before ended
  abbrev pub PartsGoWell : Terms → Type 0
  PartsGoWell ss = (κ : Copies) (l v : ℕ) (before res move stay : Ref) (β : Builder) → IsCurrent vs σ κ → IsBuilt vs β → AtOneInTurn (now σ) l ss → (Good vs σ β → (truth σ res && (truth σ move && truth σ stay)) ≡ false)
      → (Good vs σ β → (truth σ before && some (now σ) l (labels_all ss)) ≡ false) → Good vs σ (resume_in_turn vs κ l v ss before res move stay β).built
      → TurnWalked κ l v ss (truth σ before) (truth σ res) (truth σ move) (truth σ stay) β (resume_in_turn vs κ l v ss before res move stay β)

  pub goes_well_none : PartsGoWell none
  unfolding resume_in_turn
  goes_well_none κ l v before res move stay β cur w one excl apart h = record {
    good = h;
    added = no_trail;
    adds = sym (plus_none (trail vs σ β));
    settled = λ q. q;
    runs = resumes_none vs (env_of σ κ) (now σ) σ.registers l v (truth σ before) (truth σ res) (truth σ move) (truth σ stay);
  }

  in_turn_as : (env : Values) (l v : ℕ) (ss : Terms) (b b' res mv st e : Bool) (o : Trail) → b ≡ b' → InTurn vs env (now σ) σ.registers l v ss b res mv st e o → InTurn vs env (now σ) σ.registers l v ss b' res mv st e o
  in_turn_as env l v ss b b' res mv st e o p h = subst (λ x. InTurn vs env (now σ) σ.registers l v ss x res mv st e o) p h

  pub goes_well_turn : (s : Term) (ss : Terms) → AreSound vs (part s ss) → StartsWell vs σ types s → GoesWell s → PartsGoWell ss → PartsGoWell (part s ss)
  unfolding resume_in_turn
  goes_well_turn s ss sound f g k κ l v before res move stay β cur w one excl apart h =
      let a = surface vs κ l v s before move β in
      let t = if_labels (labels s) a.built (resume vs κ l v s res move stay a.built) in
      let o = or_of a.ref t.ref t.built in
      let wa = (surface_grows vs σ s κ l v before move β sound.0).built w in
      let wt = (if_labels_grows vs σ (labels s) a.built _ (resume_grows vs σ s κ l v res move stay a.built sound.0)).built wa in
      let wo = (or_grows vs a.ref t.ref t.built).built wt in
      let env : Values = env_of σ κ in
      let kept : Good vs σ a.built → (truth σ res && (truth σ move && truth σ stay)) ≡ false = λ x. excl (surfaces vs σ types s f κ l v before move β cur w x).good in
      let clear : Good vs σ o.built → (truth σ o.ref && some (now σ) (l + labels s) (labels_all ss)) ≡ false =
      λ x.
      let y = or_done vs σ a.ref t.ref t.built wt x in
      let z = depths s g κ l v res move stay a.built cur wa one.1 kept y.good in
      let u = surfaces vs σ types s f κ l v before move β cur w z.good in
      ap (λ b. b && some (now σ) (l + labels s) (labels_all ss)) y.ref
      ∙ apart_next vs env (now σ) σ.registers l v s ss (truth σ before) (truth σ res) (truth σ move) (truth σ stay) (truth σ a.ref) (truth σ t.ref) u.added z.added one (apart u.good) u.runs z.runs in
      let more = k κ (l + labels s) (v + registers vs s) o.ref res move stay o.built cur wo one.2 (λ x. kept (depths s g κ l v res move stay a.built cur wa one.1 kept (or_done vs σ a.ref t.ref t.built wt x).good).good) clear h in
      let po = or_done vs σ a.ref t.ref t.built wt more.good in
      let rt = depths s g κ l v res move stay a.built cur wa one.1 kept po.good in
      let ra = surfaces vs σ types s f κ l v before move β cur w rt.good in
      record {
        good = ra.good;
        added = plus (plus ra.added rt.added) more.added;
        adds = more.adds ∙ ap (λ (x : Trail). plus x more.added) (po.quiet ∙ rt.adds ∙ ap (λ (x : Trail). plus x rt.added) ra.adds ∙ plus_assoc (trail vs σ β) ra.added rt.added)
            ∙ plus_assoc (trail vs σ β) (plus ra.added rt.added) more.added;
        settled = λ q. more.settled (po.settled (rt.settled (ra.settled q)));
        runs = resumes_turn vs env (now σ) σ.registers l v s ss (truth σ before) (truth σ res) (truth σ move) (truth σ stay) (truth σ a.ref) (truth σ t.ref) _ ra.added rt.added more.added (sound_fresh_all vs ss sound.1) one (apart ra.good)
            ra.runs rt.runs (in_turn_as env (l + labels s) (v + registers vs s) ss (truth σ o.ref) (truth σ a.ref || truth σ t.ref) (truth σ res) (truth σ move) (truth σ stay) _ more.added po.ref more.runs);
      }

  pub goes_well_seq : (ss : Terms) → PartsGoWell ss → GoesWell (seq ss)
  unfolding resume
  goes_well_seq ss f κ l v res move stay β cur w one excl h =
      let r = f κ l v zero_ref res move stay β cur w one excl (λ x. refl) h in
      record { good = r.good; added = r.added; adds = r.adds; settled = λ q. r.settled q; runs = resumes_seq vs (env_of σ κ) (now σ) σ.registers l v ss (truth σ res) (truth σ move) (truth σ stay) _ r.added r.runs }

  -- an abort goes on
  pub goes_well_strong_abort : (t : Term) (immediate : Bool) (c : Expr ℕ) → IsSound vs (abort false immediate t c) → GoesWell t → GoesWell (abort false immediate t c)
  unfolding resume
  goes_well_strong_abort t immediate c sound g κ l v res move stay β cur w one excl h =
      let i = in_of l (labels t) β in
      let n = and_of i.ref res i.built in
      let k = tested vs κ c n.ref n.built in
      let o = not_of k.ref k.built in
      let r = and_of res o.ref o.built in
      let s = if_labels (labels t) r.built (resume vs κ l v t r.ref move stay r.built) in
      let a = and_of n.ref k.ref s.built in
      let wi = (in_grows vs l (labels t) β).built w in
      let wn = (and_grows vs i.ref res i.built).built wi in
      let wk = (tested_grows vs σ κ c n.ref n.built).built wn in
      let wo = (not_grows vs k.ref k.built).built wk in
      let wr = (and_grows vs res o.ref o.built).built wo in
      let ws = (if_labels_grows vs σ (labels t) r.built _ (resume_grows vs σ t κ l v r.ref move stay r.built sound.1)).built wr in
      let wa = (and_grows vs n.ref k.ref s.built).built ws in
      let pf = or_done vs σ s.ref a.ref a.built wa h in
      let pa = and_done vs σ n.ref k.ref s.built ws pf.good in
      let env : Values = env_of σ κ in
      let fs : List Fault = faults vs env c in
      let kt : Bool = truth σ k.ref in
      let back : Good vs σ k.built → Good vs σ β =
      λ x. (in_done vs σ l (labels t) β w (and_done vs σ i.ref res i.built wi (tested_done vs σ κ types cur c n.ref n.built sound.0 wn x).added.good).good).good in
      let rest : Good vs σ r.built → (truth σ r.ref && (truth σ move && truth σ stay)) ≡ false =
      λ x. let y = and_done vs σ res o.ref o.built wo x in
      ap (λ b. b && (truth σ move && truth σ stay)) y.ref ∙ less (truth σ res) (truth σ o.ref) (truth σ move && truth σ stay) (excl (back (not_done vs σ k.ref k.built wk y.good).good)) in
      let rs = depths t g κ l v r.ref move stay r.built cur wr one rest pa.good in
      let pr = and_done vs σ res o.ref o.built wo rs.good in
      let po = not_done vs σ k.ref k.built wk pr.good in
      let dk = tested_done vs σ κ types cur c n.ref n.built sound.0 wn po.good in
      let pn = and_done vs σ i.ref res i.built wi dk.added.good in
      let pi = in_done vs σ l (labels t) β w pn.good in
      let alive : truth σ n.ref ≡ (some (now σ) l (labels t) && truth σ res) = pn.ref ∙ ap (λ b. b && truth σ res) pi.ref in
      record {
        good = pi.good;
        added = plus (raises (faults_if (truth σ n.ref) fs)) rs.added;
        adds = pf.quiet ∙ pa.quiet ∙ rs.adds ∙ ap (λ (x : Trail). plus x rs.added) (pr.quiet ∙ po.quiet ∙ decided vs σ types κ c n.ref n.built k dk ∙ ap (λ (x : Trail). plus x (raises (faults_if (truth σ n.ref) fs))) (pn.quiet ∙ pi.quiet))
            ∙ plus_assoc (trail vs σ β) (raises (faults_if (truth σ n.ref) fs)) rs.added;
        settled = λ q. pf.settled (pa.settled (rs.settled (pr.settled (po.settled (dk.added.settled (pn.settled (pi.settled q)))))));
        runs = subst (λ b. Proceeds vs env (now σ) σ.registers l v (abort false immediate t c) (truth σ res) (truth σ move) (truth σ stay) (truth σ (or_of s.ref a.ref a.built).ref) (plus (raises (faults_if b fs)) rs.added)) (sym alive)
            (proceeds_as env l v (abort false immediate t c) (truth σ res) (truth σ res) (truth σ move) (truth σ move) (truth σ stay) (truth σ stay) (truth σ s.ref || ((some (now σ) l (labels t) && truth σ res) && kt)) _ _ refl refl refl
            (ap (λ b. truth σ s.ref || b) (ap (λ b. b && kt) (sym alive) ∙ sym pa.ref) ∙ sym pf.ref)
            (resumes_strong_abort vs env (now σ) σ.registers l v t immediate c (truth σ res) kt (truth σ move) (truth σ stay) (truth σ s.ref) rs.added (excl pi.good) (fails vs σ types (is_zero (value vs env c)) kt dk.ref)
            (proceeds_as env l v t (truth σ r.ref) (truth σ res && not kt) (truth σ move) (truth σ move) (truth σ stay) (truth σ stay) (truth σ s.ref) (truth σ s.ref) rs.added (pr.ref ∙ ap (λ b. truth σ res && b) po.ref) refl refl refl rs.runs)));
      }

  pub goes_well_weak_abort : (t : Term) (immediate : Bool) (c : Expr ℕ) → IsSound vs (abort true immediate t c) → GoesWell t → GoesWell (abort true immediate t c)
  unfolding resume
  goes_well_weak_abort t immediate c sound g κ l v res move stay β cur w one excl h =
      let i = in_of l (labels t) β in
      let n = and_of i.ref res i.built in
      let k = tested vs κ c n.ref n.built in
      let o = not_of k.ref k.built in
      let m = and_of move o.ref o.built in
      let s = if_labels (labels t) m.built (resume vs κ l v t res m.ref stay m.built) in
      let a = and_of n.ref k.ref s.built in
      let wi = (in_grows vs l (labels t) β).built w in
      let wn = (and_grows vs i.ref res i.built).built wi in
      let wk = (tested_grows vs σ κ c n.ref n.built).built wn in
      let wo = (not_grows vs k.ref k.built).built wk in
      let wm = (and_grows vs move o.ref o.built).built wo in
      let ws = (if_labels_grows vs σ (labels t) m.built _ (resume_grows vs σ t κ l v res m.ref stay m.built sound.1)).built wm in
      let wa = (and_grows vs n.ref k.ref s.built).built ws in
      let pf = or_done vs σ s.ref a.ref a.built wa h in
      let pa = and_done vs σ n.ref k.ref s.built ws pf.good in
      let env : Values = env_of σ κ in
      let fs : List Fault = faults vs env c in
      let kt : Bool = truth σ k.ref in
      let back : Good vs σ k.built → Good vs σ β =
      λ x. (in_done vs σ l (labels t) β w (and_done vs σ i.ref res i.built wi (tested_done vs σ κ types cur c n.ref n.built sound.0 wn x).added.good).good).good in
      let rest : Good vs σ m.built → (truth σ res && (truth σ m.ref && truth σ stay)) ≡ false =
      λ x. let y = and_done vs σ move o.ref o.built wo x in
      ap (λ b. truth σ res && (b && truth σ stay)) y.ref ∙ less_move (truth σ res) (truth σ move) (truth σ o.ref) (truth σ stay) (excl (back (not_done vs σ k.ref k.built wk y.good).good)) in
      let rs = depths t g κ l v res m.ref stay m.built cur wm one rest pa.good in
      let pm = and_done vs σ move o.ref o.built wo rs.good in
      let po = not_done vs σ k.ref k.built wk pm.good in
      let dk = tested_done vs σ κ types cur c n.ref n.built sound.0 wn po.good in
      let pn = and_done vs σ i.ref res i.built wi dk.added.good in
      let pi = in_done vs σ l (labels t) β w pn.good in
      let alive : truth σ n.ref ≡ (some (now σ) l (labels t) && truth σ res) = pn.ref ∙ ap (λ b. b && truth σ res) pi.ref in
      record {
        good = pi.good;
        added = plus (raises (faults_if (truth σ n.ref) fs)) rs.added;
        adds = pf.quiet ∙ pa.quiet ∙ rs.adds ∙ ap (λ (x : Trail). plus x rs.added) (pm.quiet ∙ po.quiet ∙ decided vs σ types κ c n.ref n.built k dk ∙ ap (λ (x : Trail). plus x (raises (faults_if (truth σ n.ref) fs))) (pn.quiet ∙ pi.quiet))
            ∙ plus_assoc (trail vs σ β) (raises (faults_if (truth σ n.ref) fs)) rs.added;
        settled = λ q. pf.settled (pa.settled (rs.settled (pm.settled (po.settled (dk.added.settled (pn.settled (pi.settled q)))))));
        runs = subst (λ b. Proceeds vs env (now σ) σ.registers l v (abort true immediate t c) (truth σ res) (truth σ move) (truth σ stay) (truth σ (or_of s.ref a.ref a.built).ref) (plus (raises (faults_if b fs)) rs.added)) (sym alive)
            (proceeds_as env l v (abort true immediate t c) (truth σ res) (truth σ res) (truth σ move) (truth σ move) (truth σ stay) (truth σ stay) (truth σ s.ref || ((some (now σ) l (labels t) && truth σ res) && kt)) _ _ refl refl refl
            (ap (λ b. truth σ s.ref || b) (ap (λ b. b && kt) (sym alive) ∙ sym pa.ref) ∙ sym pf.ref)
            (resumes_weak_abort vs env (now σ) σ.registers l v t immediate c (truth σ res) kt (truth σ move) (truth σ stay) (truth σ s.ref) rs.added (excl pi.good) (fails vs σ types (is_zero (value vs env c)) kt dk.ref)
            (proceeds_as env l v t (truth σ res) (truth σ res) (truth σ m.ref) (truth σ move && not kt) (truth σ stay) (truth σ stay) (truth σ s.ref) (truth σ s.ref) rs.added refl (pm.ref ∙ ap (λ b. truth σ move && b) po.ref) refl refl rs.runs)));
      }
