-- What a whole module adds: the body, and the closed outputs.
use Rattle.std.proofs.Common.{◌≡◌, ◌⊎◌, inl, inr, ℕ, zero, suc, ◌+◌, ◌≤◌, ◌<◌, ◌==◌, Bool, true, false, List, [], ◌∷◌, ◌++◌, length, map, refl, sym, ap, ◌∙◌, subst, arith, append-nil, append_assoc}
use Rattle.std.specs.Prelude.{slice_set, if◌then◌else◌}
use Rattle.std.proofs.lemmas.Bool.Decides.{nat_tests}
use Rattle.quartz_tree.specs.declared.declare.Flow.{Flow}
use Rattle.quartz_tree.specs.declared.declare.Flow.TheVariants.{Input, Output, Inner}
use Rattle.quartz_expr.specs.Vars.{Vars, count_of}
use Rattle.quartz_expr.specs.Terms.{Term}
use Rattle.quartz_expr.specs.Steps.{outputs_of}
use Rattle.aif_cells.specs.declared.reference.Ref.TheVariants as ref
use Rattle.aif_cells.specs.declared.cells.Made.{Made as MadeCopy}
use Rattle.aif_cells.specs.declared.cells.Monitor.{Monitor}
use Rattle.aif_cells.specs.declared.cells.Register.{Register}
use Rattle.aif_cells.specs.Aif.{elements_of}
use Rattle.absence_reaction.specs.declared.copy.VarCopy.{VarCopy}
use Rattle.absence_reaction.specs.Closing.{closed_copy}
use Rattle.statement_cells.specs.Labels.{labels, shape_in}
use Rattle.statement_cells.specs.Expressions.{Copies, copy_of}
use Rattle.statement_cells.specs.declared.current.Current.{Current}
use Rattle.statement_cells.specs.Builder.{Builder, Short, first, second, both, and_of, built_of, new, new_cells, one_ref, pick, reserve, writes_to, zero_ref}
use Rattle.statement_cells.specs.Sound.{IsSound}
use Rattle.statement_cells.specs.Surface.{surface}
use Rattle.statement_cells.specs.Whole.{Ended, after_flow, beginning, begun, body_built, closed_output, compiled, ended, first_copies, first_copy, first_label, first_output, first_registers, first_scope, label_taken, labels_taken, nothing_built, refs_for, staying, variable_registers}
use Rattle.aif_cells.specs.Tree.{Tree}
use Rattle.aif_cells.specs.declared.reference.Ref.{Ref}
use Rattle.statement_cells.proofs.BeginLemmas.{begun_grows}
use Rattle.absence_reaction.proofs.CopyMeaning.{closing_keeps}
use Rattle.statement_cells.proofs.EndLemmas.{ended_keeps}
use Rattle.statement_cells.proofs.ScopeGrowLemmas.{among_numbers, length_numbers, reserve_longer}
use Rattle.statement_cells.proofs.WholeLemmas.{compiled_kept, compiled_monitors}
use Rattle.write_conflicts.specs.Loose.{is_stored}
use Rattle.loose_runs.proofs.AddLemmas.{Adds, AllSited, DepthsFree, EnteredFree, Among, AreCurrent, Known, Later, OutAt, OutputHere, OutputsFree, follow, sited_both, sited_later, stored_front}
use Rattle.loose_runs.proofs.CopyLemmas.{AddedAll, CopySite, copy_sites}
use Rattle.loose_runs.proofs.ListLemmas.{Drawn, IsQuiet, drawn_to, drawn_twice, quiet_drawn, quiet_next}
use Rattle.loose_runs.proofs.ScopeAddLemmas.{copies_sited, copy_quiet, distinct_numbers, writes_are}
use Rattle.loose_runs.proofs.WalkAddLemmas.{depth_adds, surface_adds}
use Rattle.statement_cells.proofs.ScopeEnvLemmas.{length_set}

-- ---- the copies at the start have number 0

abbrev AllFirst : Copies → Type 0
AllFirst [] = Unit {0}
AllFirst (c ∷ κ) = (c.copy ≡ 0) × AllFirst κ

first_number : (κ : Copies) (x : ℕ) → AllFirst κ → copy_of κ x ≡ 0
first_number [] x h = refl
first_number (c ∷ κ) zero h = h.0
first_number (c ∷ κ) (suc x) h = first_number κ x h.1

set_first : (κ : Copies) (x : ℕ) (d : Current) → d.copy ≡ 0 → AllFirst κ → AllFirst (slice_set κ x d)
set_first [] x d e h = tt
set_first (c ∷ κ) zero d e h = (e, h.1)
set_first (c ∷ κ) (suc x) d e h = (h.0, set_first κ x d e h.1)

firsts_first : (vs : Vars) (i : ℕ) → AllFirst (first_copies vs i)
firsts_first [] i = tt
firsts_first (v ∷ vs) i = (by v.decl.flow, firsts_first vs (after_flow v.decl.flow i (elements_of v)))
  where
    by : (f : Flow) → (first_copy f v.start i (elements_of v)).copy ≡ 0
    by Input = refl
    by Output = refl
    by Inner = refl

firsts_size : (vs : Vars) (i : ℕ) → length (first_copies vs i) ≡ length vs
firsts_size [] i = refl
firsts_size (v ∷ vs) i = ap suc (firsts_size vs (after_flow v.decl.flow i (elements_of v)))

-- copies that were made for outputs
abbrev made_for : List ℕ → List MadeCopy
made_for [] = []
made_for (x ∷ xs) = record { var = x; stored = true } ∷ made_for xs

abbrev IsOne : ℕ → List ℕ → Type 0
IsOne x [] = ⊥
IsOne x (y ∷ ys) = (x ≡ y) ⊎ IsOne x ys

made_stored : (xs : List ℕ) (x : ℕ) → IsOne x xs → is_stored (made_for xs) x 0 ≡ true
made_stored [] x h = absurd h
made_stored (y ∷ ys) x h = by (y == x) refl h (made_stored ys x)
  where
    other : (y == x) ≡ false → x ≡ y → ⊥
    other e f = grind (arith, nat_tests, e, f)

    by : (b : Bool) → (y == x) ≡ b → (x ≡ y) ⊎ IsOne x ys → (IsOne x ys → is_stored (made_for ys) x 0 ≡ true) → (if b then true else is_stored (made_for ys) x 0) ≡ true
    by true e h f = refl
    by false e (inl g) f = absurd (other e g)
    by false e (inr g) f = f g

module _ (vs : Vars) where
  begun_first : (xs : List ℕ) (κ : Copies) (β : Builder) → AllFirst κ → AllFirst (begun vs xs κ β).copies
  begun_first [] κ β h = h
  begun_first (x ∷ xs) κ β h = begun_first xs _ (reserve vs x true β) (set_first κ x (record { copy = 0; values = map ref.Cell (new_cells vs x β) }) refl h)

  begun_size : (xs : List ℕ) (κ : Copies) (β : Builder) → length (begun vs xs κ β).copies ≡ length κ
  begun_size [] κ β = refl
  begun_size (x ∷ xs) κ β = begun_size xs _ (reserve vs x true β) ∙ length_set κ x (record { copy = 0; values = map ref.Cell (new_cells vs x β) })

  -- what the outputs' copies leave
  record Begins (xs : List ℕ) (β γ : Builder) : Type 0 where
    actions : γ.actions ≡ β.actions
    monitors : γ.monitors ≡ β.monitors
    made : γ.made ≡ β.made ++ made_for xs
    writes : β.writes ≡ [] → γ.writes ≡ []
    entered : γ.entered ≡ β.entered
    depths : γ.depths ≡ β.depths

  begins : (xs : List ℕ) (κ : Copies) (β : Builder) → Begins xs β (begun vs xs κ β).built
  unfolding reserve
  begins [] κ β = record { actions = refl; monitors = refl; made = sym (append-nil β.made); writes = λ e. e; entered = refl; depths = refl }
  begins (x ∷ xs) κ β =
      let b = begins xs (slice_set κ x (record { copy = 0; values = map ref.Cell (new_cells vs x β) })) (reserve vs x true β) in
      record {
        actions = b.actions;
        monitors = b.monitors;
        made = b.made ∙ append_assoc β.made (record { var = x; stored = true } ∷ []) (made_for xs);
        writes = λ e. b.writes refl;
        entered = b.entered;
        depths = b.depths;
      }

  -- ---- closing the outputs

  record Ends (β γ : Builder) : Type 0 where
    actions : γ.actions ≡ β.actions
    made : γ.made ≡ β.made
    writes : γ.writes ≡ β.writes
    depths : γ.depths ≡ β.depths

  ends : (xs : List ℕ) (κ : Copies) (β : Builder) (v : ℕ) (inner : Builder) → Ends inner (ended vs (begun vs xs κ β).outputs v inner).built
  ends [] κ β v inner = record { actions = refl; made = refl; writes = refl; depths = refl }
  ends (x ∷ xs) κ β v inner =
      let e = ends xs (slice_set κ x (record { copy = 0; values = map ref.Cell (new_cells vs x β) })) (reserve vs x true β) (v + variable_registers vs x) (closed_output vs (record { var = x; cells = new_cells vs x β }) v inner).built in
      record { actions = e.actions; made = e.made; writes = e.writes; depths = e.depths }

  -- the variables are there
  abbrev pub AllThere : List ℕ → Type 0
  AllThere [] = Unit {0}
  AllThere (x ∷ xs) = (x < length vs) × AllThere xs

  -- cells that closing these outputs keeps
  abbrev Untouched : List ℕ → Copies → Builder → ℕ → Type 0
  Untouched xs κ β q = (q < length β.cells) ⊎ (length (begun vs xs κ β).built.cells ≤ q)

  module _ (O : ℕ → ℕ → Type 0) (κ0 : Copies) (firsts : AllFirst κ0) where
    -- the monitors of the closed outputs
    record Sites (before after : Builder) : Type 0 where
      more : List Monitor
      are : after.monitors ≡ before.monitors ++ more
      sited : AllSited vs O (λ q. Unit {0}) after more

    outputs_sited : (xs : List ℕ) (κ : Copies) (β : Builder) (v : ℕ) (inner : Builder) → AllThere xs → length (begun vs xs κ β).built.cells ≤ length inner.cells
        → Drawn inner.writes inner.actions → AreCurrent κ0 inner.writes → ((x : ℕ) → IsOne x xs → is_stored inner.made x 0 ≡ true) → ((x' v' : ℕ) → OutAt vs xs v x' v' → O x' v')
        → Sites inner (ended vs (begun vs xs κ β).outputs v inner).built
    outputs_sited [] κ β v inner less room drawn current stored at = record { more = []; are = sym (append-nil inner.monitors); sited = tt }
    outputs_sited (x ∷ xs) κ β v inner less room drawn current stored at =
        let κ' : Copies = slice_set κ x (record { copy = 0; values = map ref.Cell (new_cells vs x β) }) in
        let β' : Builder = reserve vs x true β in
        let v' : ℕ = v + variable_registers vs x in
        let one : Builder = (closed_output vs (record { var = x; cells = new_cells vs x β }) v inner).built in
        let final : Builder = (ended vs (begun vs (x ∷ xs) κ β).outputs v inner).built in
        let c : VarCopy = record { var = x; copy = 0; stored = true; first = v; values = new_cells vs x β; now = writes_to x false inner.writes; next = writes_to x true inner.writes } in
        let bigger : length inner.cells ≤ length one.cells = (closing_keeps (shape_in vs x) c (built_of inner)).cells.longer in
        let grown : length β'.cells ≤ length (begun vs xs κ' β').built.cells = (begun_grows vs xs κ' β').longer in
        let size : length β'.cells ≡ length β.cells + count_of vs x = reserve_longer vs x true β in
        let tail = outputs_sited xs κ' β' v' one less.1 (omega (arith, room, bigger)) drawn current (λ y h. stored y (inr h)) (λ y u h. at y u (inr h)) in
        let new : AddedAll (CopySite (shape_in vs x) c (Untouched xs κ' β') (closed_copy (shape_in vs x) c (built_of inner)).built.cells) inner.monitors one.monitors =
        copy_sites (shape_in vs x) c (Untouched xs κ' β') (built_of inner) (distinct_numbers (length inner.cells) (length β.cells) (count_of vs x) (omega (arith, room, grown, size)))
        (λ q l. inr (omega (arith, l, room))) (λ q e. let r = (among_numbers (length β.cells) (count_of vs x) q e).1 in inl (omega (arith, r, size))) in
        let known : Known vs O one x c = record {
          known = less.0;
          count = length_numbers (length β.cells) (count_of vs x);
          now = drawn_twice (writes_to x false inner.writes) inner.writes inner.actions (drawn_to x false inner.writes) drawn;
          next = drawn_twice (writes_to x true inner.writes) inner.writes inner.actions (drawn_to x true inner.writes) drawn;
          nows = writes_are κ0 x 0 false inner.writes current (first_number κ0 x firsts);
          nexts = writes_are κ0 x 0 true inner.writes current (first_number κ0 x firsts);
          stored = λ e. stored x (inl refl);
          placed = λ e f n. inl (at x v (inl (refl, refl)));
        } in
        let e = ends xs κ' β' v' one in
        let l : Later vs O (Untouched xs κ' β') one final = record {
          kept = λ k d b h. ended_keeps vs xs κ' β' v' one k d b h;
          more_actions = [];
          actions = e.actions ∙ sym (append-nil one.actions);
          more_made = [];
          made = e.made ∙ sym (append-nil one.made);
          depths = λ y u h. subst (Among y u) (sym e.depths) h;
        } in
        record {
          more = new.more ++ tail.more;
          are = tail.are ∙ ap (λ ms. ms ++ tail.more) new.are ∙ append_assoc inner.monitors new.more tail.more;
          sited = sited_both vs O (λ q. Unit {0}) final new.more tail.more
              (sited_later vs O (Untouched xs κ' β') (λ q. Unit {0}) (λ k h. tt) one final l new.more (copies_sited vs O (Untouched xs κ' β') one x c new.more known new.all))
              tail.sited;
        }

  -- without delayed actions outputs have no flags
  outputs_quiet : (q : ℕ) (xs : List ℕ) (κ : Copies) (β : Builder) (v : ℕ) (inner : Builder) → IsQuiet q inner.writes → OutputsFree q (ended vs (begun vs xs κ β).outputs v inner).outputs
  outputs_quiet q [] κ β v inner h = tt
  outputs_quiet q (x ∷ xs) κ β v inner h =
      let c : VarCopy = record { var = x; copy = 0; stored = true; first = v; values = new_cells vs x β; now = writes_to x false inner.writes; next = writes_to x true inner.writes } in (
        λ e. copy_quiet (shape_in vs x) c (built_of inner) (quiet_next x inner.writes (subst (λ y. IsQuiet y inner.writes) (sym e) h)),
        outputs_quiet q xs (slice_set κ x (record { copy = 0; values = map ref.Cell (new_cells vs x β) })) (reserve vs x true β) (v + variable_registers vs x) (closed_output vs (record { var = x; cells = new_cells vs x β }) v inner).built h,
      )

-- ---- the whole

-- labels add cells alone
record Labelled (before after : Builder) : Type 0 where
  actions : after.actions ≡ before.actions
  made : after.made ≡ before.made

new_labelled : (t : Tree) (β : Builder) → Labelled β (new t β).built
unfolding new
new_labelled t β = record { actions = refl; made = refl }

pick_labelled : (s : Short) (t : Tree) (a b : Ref) (β : Builder) → Labelled β (pick s t a b β).built
pick_labelled first t a b β = record { actions = refl; made = refl }
pick_labelled second t a b β = record { actions = refl; made = refl }
pick_labelled both t a b β = new_labelled t β

and_labelled : (a b : Ref) (β : Builder) → Labelled β (and_of a b β).built
unfolding and_of
and_labelled a b β = pick_labelled _ _ a b β

staying_labelled : (l : ℕ) (rs : List Ref) (β : Builder) → Labelled β (staying l rs β).1
staying_labelled l [] β = record { actions = refl; made = refl }
staying_labelled l (r ∷ rs) β =
    let a = and_labelled (ref.Reg l) r β in
    let m = staying_labelled l rs (and_of (ref.Reg l) r β).built in
    record { actions = m.actions ∙ a.actions; made = m.made ∙ a.made }

labels_labelled : (n l : ℕ) (rs : List Register) (β : Builder) → Labelled β (labels_taken l n rs β).1
labels_labelled zero l rs β = record { actions = refl; made = refl }
labels_labelled (suc n) l rs β =
    let s = staying_labelled l (refs_for l β.stays) β in
    let m = labels_labelled n (l + 1) (label_taken l rs β).0 (label_taken l rs β).1 in
    record { actions = m.actions ∙ s.actions; made = m.made ∙ s.made }

module _ (vs : Vars) (t : Term) (sound : IsSound vs t) where
  abbrev pub O : ℕ → ℕ → Type 0
  O = OutputHere vs t

  abbrev pub finish : Ended
  finish = ended vs (beginning vs).outputs (first_output t) (body_built vs t)

  begun_here : Begins vs (outputs_of vs) nothing_built (beginning vs).built
  begun_here = begins vs (outputs_of vs) (first_copies vs 0) nothing_built

  size : length (beginning vs).copies ≡ length vs
  size = begun_size vs (outputs_of vs) (first_copies vs 0) nothing_built ∙ firsts_size vs 0

  -- what the body adds
  pub body_adds : Adds vs O (beginning vs).copies (beginning vs).built (body_built vs t)
  body_adds =
      let v : ℕ = first_scope vs t in
      let s = surface vs (beginning vs).copies first_label v t (ref.Reg 0) one_ref (beginning vs).built in
      follow vs O (beginning vs).copies (surface_adds vs O t (beginning vs).copies size first_label v (ref.Reg 0) one_ref (beginning vs).built sound)
      (depth_adds vs O t (beginning vs).copies size first_label v one_ref one_ref zero_ref s.built sound)

  body_writes : (body_built vs t).writes ≡ body_adds.writes
  body_writes = body_adds.writes_are ∙ ap (λ l. l ++ body_adds.writes) (begun_here.writes refl)

  body_actions : (body_built vs t).actions ≡ body_adds.actions
  body_actions = body_adds.actions_are ∙ ap (λ l. l ++ body_adds.actions) begun_here.actions

  body_drawn : Drawn (body_built vs t).writes (body_built vs t).actions
  body_drawn = subst (Drawn (body_built vs t).writes) (sym body_actions) (subst (λ l. Drawn l body_adds.actions) (sym body_writes) body_adds.drawn)

  finish_ends : Ends vs (body_built vs t) finish.built
  finish_ends = ends vs (outputs_of vs) (first_copies vs 0) nothing_built (first_output t) (body_built vs t)

  labels_here : Labelled finish.built (labels_taken first_label (labels t) (first_registers vs t) finish.built).1
  labels_here = labels_labelled (labels t) first_label (first_registers vs t) finish.built

  -- the actions of the module are those of the body
  pub same_actions : (compiled vs t).actions ≡ body_adds.actions
  same_actions = labels_here.actions ∙ finish_ends.actions ∙ body_actions

  -- ---- without delayed actions

  pub quiet_entered : (q : ℕ) → IsQuiet q (compiled vs t).actions → EnteredFree q (body_built vs t).entered
  quiet_entered q h = body_adds.entered q (subst (IsQuiet q) same_actions h) (subst (EnteredFree q) (sym begun_here.entered) tt)

  pub quiet_depths : (q : ℕ) → IsQuiet q (compiled vs t).actions → DepthsFree q (body_built vs t).depths
  quiet_depths q h = body_adds.depths q (subst (IsQuiet q) same_actions h) (subst (DepthsFree q) (sym begun_here.depths) tt)

  pub quiet_outputs : (q : ℕ) → IsQuiet q (compiled vs t).actions → OutputsFree q finish.outputs
  quiet_outputs q h = outputs_quiet vs q (outputs_of vs) (first_copies vs 0) nothing_built (first_output t) (body_built vs t)
      (subst (IsQuiet q) (sym body_writes) (quiet_drawn q body_adds.writes body_adds.actions body_adds.drawn (subst (IsQuiet q) same_actions h)))

  -- ---- all monitors on conflicts

  abbrev pub final : Builder
  final = record finish.built { cells = (compiled vs t).cells; actions = (compiled vs t).actions; made = (compiled vs t).made }

  its_sites : AllThere vs (outputs_of vs) → Sites vs O (beginning vs).copies (begun_first vs (outputs_of vs) (first_copies vs 0) nothing_built (firsts_first vs 0)) (body_built vs t) finish.built
  its_sites there =
      outputs_sited vs O (beginning vs).copies (begun_first vs (outputs_of vs) (first_copies vs 0) nothing_built (firsts_first vs 0)) (outputs_of vs) (first_copies vs 0) nothing_built (first_output t) (body_built vs t)
      there body_adds.longer body_drawn (subst (AreCurrent (beginning vs).copies) (sym body_writes) body_adds.current)
      (λ x h. ap (λ ms. is_stored ms x 0) (body_adds.made_are ∙ ap (λ l. l ++ body_adds.made) begun_here.made) ∙ stored_front x 0 (made_for (outputs_of vs)) body_adds.made (made_stored (outputs_of vs) x h))
      (λ x' v' h. h)

  -- each monitor on a conflict belongs to a copy
  pub all_sited : AllThere vs (outputs_of vs) → AllSited vs O (λ q. Unit {0}) final (compiled vs t).monitors
  all_sited there =
      let n : ℕ = length (beginning vs).built.cells in
      let ends' = its_sites there in
      let kept_body : Later vs O (λ q. n ≤ q) (body_built vs t) finish.built = record {
        kept = λ k d b h. ended_keeps vs (outputs_of vs) (first_copies vs 0) nothing_built (first_output t) (body_built vs t) k d (inr b) h;
        more_actions = [];
        actions = finish_ends.actions ∙ sym (append-nil (body_built vs t).actions);
        more_made = [];
        made = finish_ends.made ∙ sym (append-nil (body_built vs t).made);
        depths = λ y u h. subst (Among y u) (sym finish_ends.depths) h;
      } in
      let kept_end : Later vs O (λ q. Unit {0}) finish.built final = record {
        kept = λ k d b h. compiled_kept vs t k d h;
        more_actions = [];
        actions = labels_here.actions ∙ sym (append-nil finish.built.actions);
        more_made = [];
        made = labels_here.made ∙ sym (append-nil finish.built.made);
        depths = λ y u h. h;
      } in
      let are : (compiled vs t).monitors ≡ body_adds.monitors ++ ends'.more =
      compiled_monitors vs t ∙ ends'.are ∙ ap (λ l. l ++ ends'.more) (body_adds.monitors_are ∙ ap (λ l. l ++ body_adds.monitors) begun_here.monitors) in
      subst (AllSited vs O (λ q. Unit {0}) final) (sym are)
      (sited_both vs O (λ q. Unit {0}) final body_adds.monitors ends'.more
      (sited_later vs O (λ q. Unit {0}) (λ q. Unit {0}) (λ k h. h) finish.built final kept_end body_adds.monitors
      (sited_later vs O (λ q. n ≤ q) (λ q. Unit {0}) (λ k h. tt) (body_built vs t) finish.built kept_body body_adds.monitors body_adds.sited))
      (sited_later vs O (λ q. Unit {0}) (λ q. Unit {0}) (λ k h. h) finish.built final kept_end ends'.more ends'.sited))

  pub final_depths : final.depths ≡ (body_built vs t).depths
  final_depths = finish_ends.depths
