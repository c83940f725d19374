-- The walk through builders: parallels.
use Rattle.std.proofs.Common.{◌≡◌, ℕ, zero, suc, ◌+◌, Bool, false, ◌&&◌, ◌||◌, not, List, [], ◌∷◌, map, refl, sym, ap, ap₂, ◌∙◌}
use Rattle.quartz_expr.specs.Vars.{Vars}
use Rattle.quartz_expr.specs.Typed.{AreSound as AreSoundVars}
use Rattle.quartz_expr.specs.Terms.{Term, par, Terms, none, part}
use Rattle.aif_cells.specs.declared.reference.Ref.{Ref}
use Rattle.aif_cells.specs.Worth.{Assignment, truth}
use Rattle.statement_cells.specs.Labels.{labels, labels_all, registers}
use Rattle.statement_cells.specs.Expressions.{Copies, env_of}
use Rattle.statement_cells.specs.Builder.{Builder, not_of, and_of, or_of, in_of}
use Rattle.statement_cells.specs.Surface.{unless_zero, if_labels, MadeAll, and_more, and_all, all_if_labels, at_end, start, start_each, resume, resume_each}
use Rattle.statement_cells.specs.Sound.{AreSound}
use Rattle.statement_cells.specs.Stands.{some, AtOneEach}
use Rattle.statement_cells.specs.Walk.{Good, IsBuilt, IsCurrent, Trail, trail, plus, no_trail, now, Settles}
use Rattle.statement_cells.proofs.TrailLemmas.{plus_none, plus_assoc}
use Rattle.statement_cells.proofs.GrowLemmas.{not_grows, and_grows, or_grows, in_grows}
use Rattle.statement_cells.proofs.CellLemmas.{Plain, not_done, and_done, or_done, in_done}
use Rattle.statement_cells.proofs.BesideLemmas.{more_hold, all_hold, skip_if, ends_of, EachEnters, EachProceeds, starts_nobody, starts_beside, starts_par, resumes_nobody, resumes_beside, resumes_par}
use Rattle.statement_cells.proofs.SurfaceGrowLemmas.{unless_zero_grows, start_grows, start_each_grows, if_labels_grows, resume_grows, resume_each_grows, at_end_grows}
use Rattle.statement_cells.proofs.WalkLemmas.{StartsWell, surfaces, run_as}
use Rattle.statement_cells.proofs.ResumeLemmas.{GoesWell, depths, proceeds_as}

module _ (vs : Vars) (σ : Assignment) where
  -- ---- several references joined by `and`

  and_more_done : (rs : List Ref) (e : Ref) (β : Builder) → IsBuilt vs β → Good vs σ (and_more e rs β).built → Plain vs σ β (and_more e rs β) (more_hold (truth σ e) (map (truth σ) rs))
  unfolding and_more
  and_more_done [] e β w h = record { good = h; ref = refl; quiet = refl; settled = λ q. q }
  and_more_done (r ∷ rs) e β w h =
      let m = and_of e r β in
      let more = and_more_done rs m.ref m.built ((and_grows vs e r β).built w) h in
      let p = and_done vs σ e r β w more.good in
      record { good = p.good; ref = more.ref ∙ ap (λ b. more_hold b (map (truth σ) rs)) p.ref; quiet = more.quiet ∙ p.quiet; settled = λ q. more.settled (p.settled q) }

  and_all_done : (rs : List Ref) (e : Ref) (β : Builder) → IsBuilt vs β → Good vs σ (and_all e rs β).built → Plain vs σ β (and_all e rs β) (all_hold (truth σ e) (map (truth σ) rs))
  unfolding and_all
  and_all_done [] e β w h = record { good = h; ref = refl; quiet = refl; settled = λ q. q }
  and_all_done (r ∷ rs) e β w h = and_more_done rs r β w h

  -- ---- the parts that have ended or are at rest

  -- references with these truth values, nothing else being said
  pub record PlainAll (β : Builder) (m : MadeAll) (bs : List Bool) : Type 0 where
    pub good : Good vs σ β
    pub refs : map (truth σ) m.refs ≡ bs
    pub quiet : trail vs σ m.built ≡ trail vs σ β
    pub settled : Settles vs σ β m.built

  ends_if : (n : ℕ) (β : Builder) (a b : MadeAll) (xs ys : List Bool) → (Good vs σ a.built → PlainAll β a xs) → (Good vs σ b.built → PlainAll β b ys) → Good vs σ (all_if_labels vs n a b).built
      → PlainAll β (all_if_labels vs n a b) (skip_if n xs ys)
  ends_if zero β a b xs ys f g h = f h
  ends_if (suc n) β a b xs ys f g h = g h

  at_end_done : (ts : Terms) (l : ℕ) (rs : List Ref) (β : Builder) → IsBuilt vs β → Good vs σ (at_end vs l ts rs β).built → PlainAll β (at_end vs l ts rs β) (ends_of (now σ) l ts (map (truth σ) rs))
  unfolding at_end
  at_end_done none l rs β w h = record { good = h; refs = refl; quiet = refl; settled = λ q. q }
  at_end_done (part t ts) l [] β w h = record { good = h; refs = refl; quiet = refl; settled = λ q. q }
  at_end_done (part t ts) l (r ∷ rs) β w h =
      let i = in_of l (labels t) β in
      let o = not_of i.ref i.built in
      let e = or_of r o.ref o.built in
      let wi = (in_grows vs l (labels t) β).built w in
      let wo = (not_grows vs i.ref i.built).built wi in
      let we = (or_grows vs r o.ref o.built).built wo in
      ends_if (labels t) β _ _ _ _ (at_end_done ts (l + labels t) rs β w)
      (λ x.
      let more = at_end_done ts (l + labels t) rs e.built we x in
      let pe = or_done vs σ r o.ref o.built wo more.good in
      let po = not_done vs σ i.ref i.built wi pe.good in
      let pi = in_done vs σ l (labels t) β w po.good in
      record {
        good = pi.good;
        refs = ap₂ (λ b bs. b ∷ bs) (pe.ref ∙ ap (λ b. truth σ r || b) (po.ref ∙ ap not pi.ref)) more.refs;
        quiet = more.quiet ∙ pe.quiet ∙ po.quiet ∙ pi.quiet;
        settled = λ q. more.settled (pe.settled (po.settled (pi.settled q)));
      }) h

module _ (vs : Vars) (σ : Assignment) (types : AreSoundVars vs) where
  -- ---- start

  pub record StartedEach (κ : Copies) (l v : ℕ) (ss : Terms) (go move : Bool) (β : Builder) (made : MadeAll) : Type 0 where
    pub good : Good vs σ β
    pub added : Trail
    pub adds : trail vs σ made.built ≡ plus (trail vs σ β) added
    pub settled : Settles vs σ β made.built
    pub runs : EachEnters vs (env_of σ κ) σ.registers l v ss go move (map (truth σ) made.refs) added

  abbrev pub EachStartsWell : Terms → Type 0
  EachStartsWell ss = (κ : Copies) (l v : ℕ) (go move : Ref) (β : Builder) → IsCurrent vs σ κ → IsBuilt vs β → Good vs σ (start_each vs κ l v ss go move β).built
      → StartedEach κ l v ss (truth σ go) (truth σ move) β (start_each vs κ l v ss go move β)

  pub nobody_starts : EachStartsWell none
  unfolding start_each
  nobody_starts κ l v go move β cur w h = record { good = h; added = no_trail; adds = sym (plus_none (trail vs σ β)); settled = λ q. q; runs = starts_nobody vs (env_of σ κ) σ.registers l v (truth σ go) (truth σ move) }

  pub beside_starts : (s : Term) (ss : Terms) → AreSound vs (part s ss) → StartsWell vs σ types s → EachStartsWell ss → EachStartsWell (part s ss)
  unfolding start_each
  beside_starts s ss sound f g κ l v go move β cur w h =
      let m = unless_zero go β (start vs κ l v s go move β) in
      let wm = (unless_zero_grows vs σ go β _ (start_grows vs σ s κ l v go move β sound.0)).built w in
      let more = g κ (l + labels s) (v + registers vs s) go move m.built cur wm h in
      let one = surfaces vs σ types s f κ l v go move β cur w more.good in
      record {
        good = one.good;
        added = plus one.added more.added;
        adds = more.adds ∙ ap (λ (x : Trail). plus x more.added) one.adds ∙ plus_assoc (trail vs σ β) one.added more.added;
        settled = λ q. more.settled (one.settled q);
        runs = starts_beside vs (env_of σ κ) σ.registers l v s ss (truth σ go) (truth σ move) (truth σ m.ref) _ one.added more.added one.runs more.runs;
      }

  pub starts_well_par : (ss : Terms) → AreSound vs ss → EachStartsWell ss → StartsWell vs σ types (par ss)
  unfolding start
  starts_well_par ss sound f κ l v go move β cur w h =
      let s = start_each vs κ l v ss go move β in
      let p = and_all_done vs σ s.refs go s.built ((start_each_grows vs σ ss κ l v go move β sound).built w) h in
      let r = f κ l v go move β cur w p.good in
      record {
        good = r.good;
        added = r.added;
        adds = p.quiet ∙ r.adds;
        settled = λ q. p.settled (r.settled q);
        runs = run_as vs σ types (env_of σ κ) l v (par ss) (truth σ go) (truth σ go) (truth σ move) (truth σ move) (all_hold (truth σ go) (map (truth σ) s.refs)) _ r.added refl refl (sym p.ref)
            (starts_par vs (env_of σ κ) σ.registers l v ss (truth σ go) (truth σ move) (map (truth σ) s.refs) r.added r.runs);
      }

  -- ---- depth

  pub record ResumedEach (κ : Copies) (l v : ℕ) (ss : Terms) (res move stay : Bool) (β : Builder) (made : MadeAll) : Type 0 where
    pub good : Good vs σ β
    pub added : Trail
    pub adds : trail vs σ made.built ≡ plus (trail vs σ β) added
    pub settled : Settles vs σ β made.built
    pub runs : EachProceeds vs (env_of σ κ) (now σ) σ.registers l v ss res move stay (map (truth σ) made.refs) added

  abbrev pub EachGoesWell : Terms → Type 0
  EachGoesWell ss = (κ : Copies) (l v : ℕ) (res move stay : Ref) (β : Builder) → IsCurrent vs σ κ → IsBuilt vs β → AtOneEach (now σ) l ss → (Good vs σ β → (truth σ res && (truth σ move && truth σ stay)) ≡ false)
      → Good vs σ (resume_each vs κ l v ss res move stay β).built
      → ResumedEach κ l v ss (truth σ res) (truth σ move) (truth σ stay) β (resume_each vs κ l v ss res move stay β)

  pub nobody_goes : EachGoesWell none
  unfolding resume_each
  nobody_goes κ l v res move stay β cur w one excl h = record {
    good = h;
    added = no_trail;
    adds = sym (plus_none (trail vs σ β));
    settled = λ q. q;
    runs = resumes_nobody vs (env_of σ κ) (now σ) σ.registers l v (truth σ res) (truth σ move) (truth σ stay);
  }

  pub beside_goes : (s : Term) (ss : Terms) → AreSound vs (part s ss) → GoesWell vs σ types s → EachGoesWell ss → EachGoesWell (part s ss)
  unfolding resume_each
  beside_goes s ss sound f g κ l v res move stay β cur w one excl h =
      let m = if_labels (labels s) β (resume vs κ l v s res move stay β) in
      let wm = (if_labels_grows vs σ (labels s) β _ (resume_grows vs σ s κ l v res move stay β sound.0)).built w in
      let more = g κ (l + labels s) (v + registers vs s) res move stay m.built cur wm one.1 (λ x. excl (depths vs σ types s f κ l v res move stay β cur w one.0 excl x).good) h in
      let first = depths vs σ types s f κ l v res move stay β cur w one.0 excl more.good in
      record {
        good = first.good;
        added = plus first.added more.added;
        adds = more.adds ∙ ap (λ (x : Trail). plus x more.added) first.adds ∙ plus_assoc (trail vs σ β) first.added more.added;
        settled = λ q. more.settled (first.settled q);
        runs = resumes_beside vs (env_of σ κ) (now σ) σ.registers l v s ss (truth σ res) (truth σ move) (truth σ stay) (truth σ m.ref) _ first.added more.added first.runs more.runs;
      }

  pub goes_well_par : (ss : Terms) → AreSound vs ss → EachGoesWell ss → GoesWell vs σ types (par ss)
  unfolding resume
  goes_well_par ss sound f κ l v res move stay β cur w one excl h =
      let s = resume_each vs κ l v ss res move stay β in
      let e = at_end vs l ss s.refs s.built in
      let i = in_of l (labels_all ss) e.built in
      let n = and_of i.ref res i.built in
      let ws = (resume_each_grows vs σ ss κ l v res move stay β sound).built w in
      let we = (at_end_grows vs σ ss l s.refs s.built).built ws in
      let wi = (in_grows vs l (labels_all ss) e.built).built we in
      let wn = (and_grows vs i.ref res i.built).built wi in
      let pm = and_more_done vs σ e.refs n.ref n.built wn h in
      let pn = and_done vs σ i.ref res i.built wi pm.good in
      let pi = in_done vs σ l (labels_all ss) e.built we pn.good in
      let pe = at_end_done vs σ ss l s.refs s.built ws pi.good in
      let r = f κ l v res move stay β cur w one excl pe.good in
      record {
        good = r.good;
        added = r.added;
        adds = pm.quiet ∙ pn.quiet ∙ pi.quiet ∙ pe.quiet ∙ r.adds;
        settled = λ q. pm.settled (pn.settled (pi.settled (pe.settled (r.settled q))));
        runs = proceeds_as vs σ types (env_of σ κ) l v (par ss) (truth σ res) (truth σ res) (truth σ move) (truth σ move) (truth σ stay) (truth σ stay)
            (more_hold (some (now σ) l (labels_all ss) && truth σ res) (ends_of (now σ) l ss (map (truth σ) s.refs))) _ r.added refl refl refl
            (ap₂ more_hold (ap (λ b. b && truth σ res) (sym pi.ref) ∙ sym pn.ref) (sym pe.refs) ∙ sym pm.ref)
            (resumes_par vs (env_of σ κ) (now σ) σ.registers l v ss (truth σ res) (truth σ move) (truth σ stay) (map (truth σ) s.refs) r.added r.runs);
      }
