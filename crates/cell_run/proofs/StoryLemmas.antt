-- The story of a run, step by step.
use Rattle.std.proofs.Common.{◌≡◌, ◌<◌, ◌≤◌, ◌+◌, ℕ, ℤ, Bool, true, false, ◌==◌, List, [], ◌∷◌, ◌++◌, Option, Some, None, Result, Ok, Err, refl, sym, ap, ap₂, subst, ◌∙◌, arith, append_assoc, append-nil, replicate, pos, length}
use Rattle.std.proofs.lemmas.Bool.Decides.{nat_tests}
use Rattle.std.proofs.lemmas.List.{length-replicate}
use Rattle.outside.specs.declared.status.Status.{Status}
use Rattle.outside.specs.declared.status.Status.TheVariants.{BadInput, RunFault, StepLimit}
use Rattle.outside.specs.declared.status.Status.TheVariants as status
use Rattle.outside.specs.Bytes.{Gains, GainsBegun}
use Rattle.outside.proofs.GainsLemmas.{gains_both, begun_first, begun_next}
use Rattle.quartz_tree.specs.declared.declare.Base.{Base}
use Rattle.quartz_tree.specs.declared.fault.Fault.{Fault}
use Rattle.quartz_tree.specs.Kernel.{Kernel}
use Rattle.quartz_tree.specs.Least.{least_fault}
use Rattle.quartz_expr.specs.Vars.{Vars}
use Rattle.quartz_expr.specs.Steps.{State, Macro, initial}
use Rattle.quartz_expr.specs.Intervals.{base_interval, is_in}
use Rattle.aif_cells.specs.declared.aif.Aif.{Aif}
use Rattle.aif_cells.specs.Built.{all_defined}
use Rattle.aif_cells.specs.Order.{IsOrder}
use Rattle.aif_cells.specs.Solution.{IsSolution}
use Rattle.aif_cells.specs.Worth.{listed}
use Rattle.absence_reaction.specs.Meaning.{raised}
use Rattle.macro_steps.specs.Runs.{OrderSolves, evaluated}
use Rattle.trace_io.specs.declared.step.ReadStep.{ReadStep}
use Rattle.trace_io.specs.declared.step.ReadStep.TheVariants.{Step, End as Over, Bad, ReadFault}
use Rattle.trace_io.specs.Lines.{lines, joined_lines, whole_lines}
use Rattle.trace_io.specs.Inputs.{input_types, output_types}
use Rattle.trace_io.specs.Reading.{steps, steps_of}
use Rattle.trace_io.specs.Trace.{Trail, Reader, coming, ReadTrace}
use Rattle.trace_io.specs.Values.{in_range}
use Rattle.trace_io.specs.Writing.{line_of, line_of_types, all_in_range}
use Rattle.trace_io.specs.Story.{End, done, bad, limit, fault, by_input, elements, StoryFrom, is_done, is_bad, is_limit, is_fault, is_step, Story}
use Rattle.trace_io.proofs.RunLemmas.{given_steps, IsIn, is_at_front, is_one_further, steps_so_far, steps_at_end, steps_at_bad, steps_at_failure, joined_both}
use Rattle.cell_run.specs.Machine.{AreOfTypes, Executes, MakesStep, Stands, initials, next_values, shown}
use Rattle.cell_run.specs.Room.{IsNew, CameTo, going}
use Rattle.cell_run.specs.Told.{status_of, Told, ToldWhole, ToldBegun, Tells}
use Rattle.cell_run.proofs.InputLemmas.{AreStepsOf, HaveZero, steps_are}
use Rattle.macro_steps.proofs.RunLemmas.{none_least}

-- what is known at the start of step k
pub record SoFar (vs : Vars) (body : Kernel) (trace : List ℕ) (most k : ℕ) (registers : List ℤ) (now : Trail) (left : Option (List ℕ)) (before after : List ℕ → Type 0) : Type 0 where
  pub given : List (List ℤ)
  pub at : IsIn vs trace now given left
  pub state : State
  pub stands : Stands vs body registers state
  pub written : List (List ℕ)
  pub gained : Gains before after (joined_lines written)
  pub goes_on : (rest : List (Option (List ℤ))) (more : List (List ℕ)) (e : End) → StoryFrom vs most k state rest more e
      → StoryFrom vs most 0 (initial vs body) (given_steps given ++ rest) (written ++ more) e

-- ---- small things

given_more : (given : List (List ℤ)) (zs : List ℤ) (rest : List (Option (List ℤ))) → given_steps (given ++ (zs ∷ [])) ++ rest ≡ given_steps given ++ (Some zs ∷ rest)
given_more [] zs rest = refl
given_more (ys ∷ given) zs rest = ap (λ (l : List (Option (List ℤ))). Some ys ∷ l) (given_more given zs rest)

steps_behind : (bs : List Base) (given : List (List ℤ)) (rest : List (Option (List ℤ))) → AreStepsOf bs (given_steps given ++ rest) → AreStepsOf bs rest
steps_behind bs [] rest h = h
steps_behind bs (zs ∷ given) rest h = steps_behind bs given rest h.1

abbrev stopped : Status → Result (Unit {0}) Status
stopped s = Err s

status_is : (s t : Status) → stopped s ≡ stopped t → t ≡ s
status_is s t e = cc e

-- values in their ranges are written as they are
value_stays : (b : Base) (z : ℤ) (t : Bool) → is_in (base_interval b) z ≡ t → t ≡ true → in_range b z ≡ z
value_stays b z true e h = (let q : is_in (base_interval b) z ≡ true = e in cc)
value_stays b z false e h = absurd (cc h)

pub values_stay : (bs : List Base) (zs : List ℤ) → AreOfTypes bs zs → all_in_range bs zs ≡ zs
values_stay [] [] h = refl
values_stay [] (z ∷ zs) h = absurd h
values_stay (b ∷ bs) [] h = absurd h
values_stay (b ∷ bs) (z ∷ zs) h = ap₂ (λ (x : ℤ) (xs : List ℤ). x ∷ xs) (value_stays b z (is_in (base_interval b) z) refl h.0) (values_stay bs zs h.1)

-- ---- a step of a module that cells execute

module _ (vs : Vars) (body : Kernel) (aif : Aif) (x : Executes vs body aif) (order : List ℕ) (ordered : IsOrder (all_defined aif.cells) order) (solves : OrderSolves) (most : ℕ) where
  -- an output line of a step
  abbrev line_after : (cells : List ℤ) → List ℕ
  line_after cells = line_of vs (shown aif.outputs cells)

  -- the story from a step on that has no fault
  story_with : (k : ℕ) (s : State) (ks zs cells : List ℤ) (m : MakesStep vs body aif s ks zs cells) (rest : List (Option (List ℤ))) (more : List (List ℕ)) (e : End)
      → least_fault (raised (listed zs ks cells) aif.monitors) ≡ None → k < most → StoryFrom vs most (k + 1) m.next rest more e
      → StoryFrom vs most k s (Some zs ∷ rest) (line_after cells ∷ more) e
  story_with k s ks zs cells m rest more e none b story =
      let step : Macro vs s (by_input vs zs) m.outs m.next [] = subst (Macro vs s (by_input vs zs) m.outs m.next) (none_least (raised (listed zs ks cells) aif.monitors) none) m.step in
      subst (λ (l : List ℕ). StoryFrom vs most k s (Some zs ∷ rest) (l ∷ more) e) (ap (line_of vs) (sym m.shows)) (is_step k s zs rest m.outs m.next more e b step story)

  -- each run has a story
  some_story : (coming_steps : List (Option (List ℤ))) → AreStepsOf (input_types vs) coming_steps → (k : ℕ) (s : State) (ks : List ℤ) → Stands vs body ks s → k ≤ most
      → (more : List (List ℕ)) × (e : End) × StoryFrom vs most k s coming_steps more e
  some_story [] are k s ks h b = ([], done, is_done k s)
  some_story (None ∷ rest) are k s ks h b = ([], bad k, is_bad k s rest)
  some_story (Some zs ∷ rest) are k s ks h b = by_test (k == most) refl (some_story rest are.1)
    where
      by_test : (t : Bool) → (k == most) ≡ t → ((j : ℕ) (u : State) (js : List ℤ) → Stands vs body js u → j ≤ most → (more : List (List ℕ)) × (e : End) × StoryFrom vs most j u rest more e)
          → (more : List (List ℕ)) × (e : End) × StoryFrom vs most k s (Some zs ∷ rest) more e
      by_test true e on =
          let last : k ≡ most = grind (arith, nat_tests, e) in
          ([], limit, is_limit k s zs rest last)
      by_test false e on =
          let less : k < most = grind (arith, nat_tests, e) in
          let none : List ℤ = replicate (length (all_defined aif.cells)) (pos 0) in
          let cells : List ℤ = evaluated zs ks (all_defined aif.cells) order none in
          let solution : IsSolution (listed zs ks cells) (all_defined aif.cells) = solves zs ks (all_defined aif.cells) order none ordered (length-replicate (length (all_defined aif.cells)) (pos 0)) in
          let m : MakesStep vs body aif s ks zs cells = x.step s ks zs cells h are.0 solution in
          by_fault cells m less (least_fault (raised (listed zs ks cells) aif.monitors)) refl
        where
          by_fault : (cells : List ℤ) (m : MakesStep vs body aif s ks zs cells) → k < most → (f : Option Fault) → least_fault (raised (listed zs ks cells) aif.monitors) ≡ f
              → (more : List (List ℕ)) × (e : End) × StoryFrom vs most k s (Some zs ∷ rest) more e
          by_fault cells m less (Some f) e = ([], fault k f, is_fault k s zs rest m.outs m.next (raised (listed zs ks cells) aif.monitors) f less m.step e)
          by_fault cells m less None e =
              let next = on (k + 1) m.next (next_values (listed zs ks cells) aif.registers) m.stands (omega (arith, less)) in
              (line_after cells ∷ next.0, next.1, story_with k s ks zs cells m rest next.0 next.1 e less next.2)

  module _ (zero : HaveZero (input_types vs)) (trace : List ℕ) (k : ℕ) (ks : List ℤ) (start now : Trail) (zs : List ℤ) (left0 left : Option (List ℕ)) (f0 f : ℕ) (c0 c : Option ℕ) (before mid after : List ℕ → Type 0) (s : SoFar vs body trace most k ks start left0 before mid) where
    -- the steps that come behind the next one, where it is read
    abbrev tail : ReadTrace start left0 f0 c0 Step now zs left f c → List (Option (List ℤ))
    tail r = coming now (lines (now.course.held.waiting ++ (is_one_further vs trace start now s.given zs left0 left f0 f c0 c s.at r).rest))

    all_steps : (r : ReadTrace start left0 f0 c0 Step now zs left f c) → steps vs trace ≡ given_steps s.given ++ (Some zs ∷ tail r)
    all_steps r =
        steps_so_far vs trace now now (s.given ++ (zs ∷ [])) zs left left f f c c (is_one_further vs trace start now s.given zs left0 left f0 f c0 c s.at r)
        ∙ given_more s.given zs (tail r)

    next_steps_are : (r : ReadTrace start left0 f0 c0 Step now zs left f c) → AreStepsOf (input_types vs) (Some zs ∷ tail r)
    next_steps_are r = steps_behind (input_types vs) s.given (Some zs ∷ tail r) (subst (AreStepsOf (input_types vs)) (all_steps r) (steps_are vs (lines trace) zero))

    told_by : (e : End) (rest : List (Option (List ℤ))) → steps vs trace ≡ given_steps s.given ++ rest → StoryFrom vs most k s.state rest [] e → (e ≡ done → left ≡ Some [])
        → Told vs body trace most before mid left (status_of e)
    told_by e rest are story a = record {
      written = s.written;
      end = e;
      story = subst (λ (ls : List (List ℕ)). Story vs body trace most ls e) (append-nil s.written)
          (subst (λ (xs : List (Option (List ℤ))). StoryFrom vs most 0 (initial vs body) xs (s.written ++ []) e) (sym are) (s.goes_on rest [] e story));
      gained = s.gained;
      ends = refl;
      all_read = a;
    }

    -- the trace is over
    ends_done : ReadTrace start left0 f0 c0 Over now zs left f c → Told vs body trace most before mid left status.Ok
    ends_done r =
        let over = steps_at_end vs trace start now s.given zs left0 left f0 f c0 c s.at r in
        told_by done [] (over.0 ∙ sym (append-nil (given_steps s.given))) (is_done k s.state) (λ _. over.1)

    -- its next step isn't readable
    ends_bad : ReadTrace start left0 f0 c0 Bad now zs left f c → Told vs body trace most before mid left (BadInput k)
    ends_bad r = told_by (bad k) (None ∷ []) (steps_at_bad vs trace start now s.given zs left0 left f0 f c0 c s.at r) (is_bad k s.state []) (λ h. absurd (not_done h))
      where
        not_done : bad k ≡ done → ⊥
        not_done h = cc h

    -- it goes on behind the greatest number of steps
    ends_limit : ReadTrace start left0 f0 c0 Step now zs left f c → k ≡ most → Told vs body trace most before mid left StepLimit
    ends_limit r e = told_by limit (Some zs ∷ tail r) (all_steps r) (is_limit k s.state zs (tail r) e) (λ h. absurd (not_done h))
      where
        not_done : limit ≡ done → ⊥
        not_done h = cc h

    -- a read failed
    read_failed : ReadTrace start left0 f0 c0 ReadFault now zs left f c → ToldWhole vs body trace most before mid left
    read_failed r =
        let (taken, rest, left_is, cut, given) = steps_at_failure vs trace start now s.given zs left0 left f0 f c0 c s.at r in
        record {
          taken = taken;
          rest = rest;
          left_is = left_is;
          cut = cut;
          written = s.written;
          story = subst (λ (ls : List (List ℕ)). StoryFrom vs most 0 (initial vs body) (steps_of vs (whole_lines taken)) ls done) (append-nil s.written)
              (subst (λ (xs : List (Option (List ℤ))). StoryFrom vs most 0 (initial vs body) xs (s.written ++ []) done) (append-nil (given_steps s.given) ∙ sym given)
              (s.goes_on [] [] done (is_done k s.state)));
          gained = s.gained;
        }

    -- a run that stops at a step that isn't read
    pub stops : (ended : Status) → CameTo k start left0 f0 c0 (Err ended) now zs left f c → Tells vs body trace most before mid left ended
    stops ended r = by_answer r.answer r.is r.read
      where
        Says : Status → Type 0
        Says y = Tells vs body trace most before mid left y

        by_answer : (a : ReadStep) → Err ended ≡ going k a → ReadTrace start left0 f0 c0 a now zs left f c → Says ended
        by_answer Step e t = absurd (cc e)
        by_answer Over e t = subst Says (status_is ended status.Ok e) (ends_done t)
        by_answer Bad e t = subst Says (status_is ended (BadInput k) e) (ends_bad t)
        by_answer ReadFault e t = subst Says (status_is ended status.ReadFault e) (read_failed t)

    -- a step that is read
    pub is_read : CameTo k start left0 f0 c0 (Ok tt) now zs left f c → ReadTrace start left0 f0 c0 Step now zs left f c
    is_read r = by_answer r.answer r.is r.read
      where
        by_answer : (a : ReadStep) → Ok tt ≡ going k a → ReadTrace start left0 f0 c0 a now zs left f c → ReadTrace start left0 f0 c0 Step now zs left f c
        by_answer Step e t = t
        by_answer Over e t = absurd (cc e)
        by_answer Bad e t = absurd (cc e)
        by_answer ReadFault e t = absurd (cc e)

    -- a run in which as many steps as may be are done
    pub stops_at_limit : CameTo k start left0 f0 c0 (Ok tt) now zs left f c → k ≡ most → Told vs body trace most before mid left StepLimit
    stops_at_limit r e = ends_limit (is_read r) e

    module _ (cells : List ℤ) (solution : IsSolution (listed zs ks cells) (all_defined aif.cells)) (came : CameTo k start left0 f0 c0 (Ok tt) now zs left f c) (b : k < most) where
      makes : MakesStep vs body aif s.state ks zs cells
      makes = x.step s.state ks zs cells s.stands (next_steps_are (is_read came)).0 solution

      -- the step has a fault
      pub stops_at_fault : (g : Fault) → Some g ≡ least_fault (raised (listed zs ks cells) aif.monitors) → Told vs body trace most before mid left (RunFault k g.kind g.place)
      stops_at_fault g e =
          let m = makes in
          told_by (fault k g) (Some zs ∷ tail (is_read came)) (all_steps (is_read came))
          (is_fault k s.state zs (tail (is_read came)) m.outs m.next (raised (listed zs ks cells) aif.monitors) g b m.step (sym e)) (λ h. absurd (not_done h))
        where
          not_done : fault k g ≡ done → ⊥
          not_done h = cc h

      module _ (none : None ≡ least_fault (raised (listed zs ks cells) aif.monitors)) where
        -- one more step, whose line is written
        pub one_more_step : Gains mid after (line_after cells) → SoFar vs body trace most (k + 1) (next_values (listed zs ks cells) aif.registers) now left before after
        one_more_step g =
            let m = makes in
            let line = line_after cells in
            record {
              given = s.given ++ (zs ∷ []);
              at = is_one_further vs trace start now s.given zs left0 left f0 f c0 c s.at (is_read came);
              state = m.next;
              stands = m.stands;
              written = s.written ++ (line ∷ []);
              gained = subst (Gains before after) (ap (λ (y : List ℕ). joined_lines s.written ++ y) (sym (append-nil line)) ∙ sym (joined_both s.written (line ∷ []))) (gains_both before mid after (joined_lines s.written) line s.gained g);
              goes_on = λ rest more e story.
                  subst (λ (ls : List (List ℕ)). StoryFrom vs most 0 (initial vs body) (given_steps (s.given ++ (zs ∷ [])) ++ rest) ls e) (sym (append_assoc s.written (line ∷ []) more))
                  (subst (λ (xs : List (Option (List ℤ))). StoryFrom vs most 0 (initial vs body) xs (s.written ++ (line ∷ more)) e) (sym (given_more s.given zs rest))
                  (s.goes_on (Some zs ∷ rest) (line ∷ more) e (story_with k s.state ks zs cells m rest more e (sym none) b story)));
            }

        -- its line was not written whole
        pub write_failed : GainsBegun mid after (line_after cells) → ToldBegun vs body trace most before after
        write_failed g =
            let m = makes in
            let r = is_read came in
            let line = line_after cells in
            let next = some_story (tail r) (next_steps_are r).1 (k + 1) m.next (next_values (listed zs ks cells) aif.registers) m.stands (omega (arith, b)) in
            record {
              written = s.written ++ (line ∷ next.0);
              end = next.1;
              story = subst (λ (xs : List (Option (List ℤ))). StoryFrom vs most 0 (initial vs body) xs (s.written ++ (line ∷ next.0)) next.1) (sym (all_steps r))
                  (s.goes_on (Some zs ∷ tail r) (line ∷ next.0) next.1 (story_with k s.state ks zs cells m (tail r) next.0 next.1 (sym none) b next.2));
              gained = subst (GainsBegun before after) (sym (joined_both s.written (line ∷ next.0)))
                  (begun_next before mid after (joined_lines s.written) (line ++ joined_lines next.0) s.gained (begun_first mid after line (joined_lines next.0) g));
            }

        -- the line that is written
        pub line_is : (writer : List Base) (values : List ℤ) → writer ≡ output_types aif.vars → values ≡ shown aif.outputs cells → line_of_types writer (all_in_range writer values) ≡ line_after cells
        line_is writer values w h =
            let m = makes in
            let types : writer ≡ output_types vs = w ∙ ap output_types x.vars in
            let values_are : values ≡ elements m.outs = h ∙ m.shows in
            ap₂ (λ (bs : List Base) (ys : List ℤ). line_of_types bs (all_in_range bs ys)) types values_are
            ∙ ap (line_of vs) (values_stay (output_types vs) (elements m.outs) m.lie ∙ sym m.shows)

-- at the start nothing was written
pub begins : (vs : Vars) (body : Kernel) (aif : Aif) (x : Executes vs body aif) (trace : List ℕ) (most : ℕ) (r : Reader) (ks : List ℤ) (left : Option (List ℕ)) (now : List ℕ → Type 0)
    → ks ≡ initials aif.registers → IsNew aif.vars r → left ≡ Some trace → SoFar vs body trace most 0 ks r.trail left now now
begins vs body aif x trace most r ks left now first new h =
    let n : IsNew vs r = subst (λ us. IsNew us r) x.vars new in
    record {
      given = [];
      at = subst (IsIn vs trace r.trail []) (sym h) (is_at_front vs trace r.trail n.means n.holds);
      state = initial vs body;
      stands = subst (λ (ys : List ℤ). Stands vs body ys (initial vs body)) (sym first) x.start;
      written = [];
      gained = λ bs held. subst now (sym (append-nil bs)) held;
      goes_on = λ rest more e story. story;
    }
