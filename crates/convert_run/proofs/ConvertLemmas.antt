-- Converting, step by step. What was written so far is the front of the tale, and the tale goes on with the step that comes: it is made
-- a line, or ends the tale. Each step's values lie in their ranges, so the line that the writer holds is that of the tale.
use Rattle.std.proofs.Common.{◌≡◌, ◌<◌, ◌+◌, ℕ, ℤ, Bool, true, false, ◌==◌, if◌then◌else◌, List, [], ◌∷◌, ◌++◌, length, take, Option, Some, None, Result, Ok, Err, refl, sym, ap, ap₂, subst, ◌∙◌, arith, append_assoc, append-nil}
use Rattle.std.proofs.lemmas.Bool.Decides.{nat_tests}
use Rattle.outside.specs.declared.status.Status.{Status}
use Rattle.outside.specs.declared.status.Status.TheVariants.{BadInput, StepLimit}
use Rattle.outside.specs.declared.status.Status.TheVariants as status
use Rattle.outside.specs.Bytes.{Gains, GainsBegun}
use Rattle.outside.proofs.GainsLemmas.{gains_both, begun_first, begun_next}
use Rattle.quartz_tree.specs.declared.declare.Base.{Base}
use Rattle.quartz_expr.specs.Vars.{Vars}
use Rattle.trace_io.specs.declared.step.ReadStep.{ReadStep}
use Rattle.trace_io.specs.declared.step.ReadStep.TheVariants.{Step, End as Over, Bad, ReadFault}
use Rattle.trace_io.specs.Lines.{lines, is_short, joined_lines, whole_lines}
use Rattle.trace_io.specs.Inputs.{input_types}
use Rattle.trace_io.specs.Reading.{steps, steps_of, zeros}
use Rattle.trace_io.specs.Trace.{Trail, Reader, coming, ReadTrace}
use Rattle.trace_io.specs.Writing.{all_in_range}
use Rattle.trace_io.specs.Story.{End, done, bad, limit}
use Rattle.trace_io.proofs.RunLemmas.{given_steps, IsIn, is_at_front, is_one_further, steps_so_far, steps_at_end, steps_at_bad, steps_at_failure, joined_both}
use Rattle.trace_writer.specs.declared.format.Format.{Format}
use Rattle.trace_writer.specs.Anew.{Tale, ends_with, with_line, tale_from, tale, bytes_of, new_header, new_line}
use Rattle.trace_writer.specs.Writer.{Pen, pen_after}
use Rattle.cell_run.specs.Machine.{AreOfTypes}
use Rattle.cell_run.specs.Room.{IsNew}
use Rattle.cell_run.specs.Told.{status_of}
use Rattle.cell_run.proofs.InputLemmas.{AreStepsOf, HaveZero, steps_are}
use Rattle.cell_run.proofs.StoryLemmas.{values_stay}
use Rattle.convert_run.specs.Room.{IsPenOf, Made, making}
use Rattle.convert_run.specs.Told.{tale_of, whole_tale, Converted, ConvertedWhole, ConvertedBegun, Converts}

-- lines before a tale
abbrev pub with_lines : List (List ℕ) → Tale → Tale
with_lines ls t = record { written = ls ++ t.written; end = t.end }

-- what is known at the start of step k
pub record SoFar (f : Format) (vs : Vars) (trace : List ℕ) (greatest k : ℕ) (pen : Pen) (now : Trail) (left : Option (List ℕ)) (before after : List ℕ → Type 0) : Type 0 where
  pub given : List (List ℤ)
  pub at : IsIn vs trace now given left
  pub pen_of : IsPenOf f vs pen
  pub written : List (List ℕ)
  pub gained : Gains before after (bytes_of f vs written)
  pub goes_on : (rest : List (Option (List ℤ))) → tale f vs greatest (given_steps given ++ rest) ≡ with_lines written (tale_from f (input_types vs) greatest k pen.last rest)

-- ---- small things

given_more : (given : List (List ℤ)) (zs : List ℤ) (rest : List (Option (List ℤ))) → given_steps (given ++ (zs ∷ [])) ++ rest ≡ given_steps given ++ (Some zs ∷ rest)
given_more [] zs rest = refl
given_more (ys ∷ given) zs rest = ap (λ (l : List (Option (List ℤ))). Some ys ∷ l) (given_more given zs rest)

steps_behind : (bs : List Base) (given : List (List ℤ)) (rest : List (Option (List ℤ))) → AreStepsOf bs (given_steps given ++ rest) → AreStepsOf bs rest
steps_behind bs [] rest h = h
steps_behind bs (zs ∷ given) rest h = steps_behind bs given rest h.1

all_taken : (bs : List Base) (zs : List ℤ) → AreOfTypes bs zs → take (length bs) zs ≡ zs
all_taken [] [] h = refl
all_taken [] (z ∷ zs) h = absurd h
all_taken (b ∷ bs) [] h = absurd h
all_taken (b ∷ bs) (z ∷ zs) h = ap (λ (l : List ℤ). z ∷ l) (all_taken bs zs h.1)

abbrev stopped : Status → Result (Unit {0}) Status
stopped s = Err s

status_is : (s t : Status) → stopped s ≡ stopped t → t ≡ s
status_is s t e = cc e

not_done_bad : (k : ℕ) → bad k ≡ done → ⊥
not_done_bad k h = cc h

not_done_limit : limit ≡ done → ⊥
not_done_limit h = cc h

-- the header and the lines, and others behind them
bytes_with : (f : Format) (vs : Vars) (ls ms : List (List ℕ)) → bytes_of f vs ls ++ joined_lines ms ≡ bytes_of f vs (ls ++ ms)
bytes_with f vs ls ms = append_assoc (new_header f vs) (joined_lines ls) (joined_lines ms) ∙ ap (λ (l : List ℕ). new_header f vs ++ l) (sym (joined_both ls ms))

-- ---- a step

module _ (f : Format) (vs : Vars) (zero : HaveZero (input_types vs)) (trace : List ℕ) (most k : ℕ) (pen new : Pen) (start now : Trail) (zs : List ℤ) (left0 left : Option (List ℕ)) (f0 f1 : ℕ) (c0 c1 : Option ℕ) (before mid after : List ℕ → Type 0) (s : SoFar f vs trace most k pen start left0 before mid) where
  -- the steps that come behind the next one, where it is read
  abbrev tail : ReadTrace start left0 f0 c0 Step now zs left f1 c1 → List (Option (List ℤ))
  tail r = coming now (lines (now.course.held.waiting ++ (is_one_further vs trace start now s.given zs left0 left f0 f1 c0 c1 s.at r).rest))

  all_steps : (r : ReadTrace start left0 f0 c0 Step now zs left f1 c1) → steps vs trace ≡ given_steps s.given ++ (Some zs ∷ tail r)
  all_steps r =
      steps_so_far vs trace now now (s.given ++ (zs ∷ [])) zs left left f1 f1 c1 c1 (is_one_further vs trace start now s.given zs left0 left f0 f1 c0 c1 s.at r)
      ∙ given_more s.given zs (tail r)

  -- its values lie in their ranges
  values_lie : ReadTrace start left0 f0 c0 Step now zs left f1 c1 → AreOfTypes (input_types vs) zs
  values_lie r = (steps_behind (input_types vs) s.given (Some zs ∷ tail r) (subst (AreStepsOf (input_types vs)) (all_steps r) (steps_are vs (lines trace) zero))).0

  -- so the line that was made is that of the step, and they are the last values
  line_is : ReadTrace start left0 f0 c0 Step now zs left f1 c1 → new ≡ pen_after pen zs → new.line ≡ new_line f (input_types vs) pen.last zs
  line_is r e =
      ap (λ (p : Pen). p.line) e
      ∙ (ap₂ (λ (g : Format) (bs : List Base). new_line g bs pen.last (all_in_range bs zs)) s.pen_of.format s.pen_of.types
      ∙ ap (new_line f (input_types vs) pen.last) (values_stay (input_types vs) zs (values_lie r)))

  last_is : ReadTrace start left0 f0 c0 Step now zs left f1 c1 → new ≡ pen_after pen zs → new.last ≡ zs
  last_is r e =
      ap (λ (p : Pen). p.last) e
      ∙ (ap (λ (bs : List Base). take (length bs) zs) s.pen_of.types ∙ all_taken (input_types vs) zs (values_lie r))

  told_by : (e : End) (rest : List (Option (List ℤ))) → steps vs trace ≡ given_steps s.given ++ rest → tale_from f (input_types vs) most k pen.last rest ≡ ends_with e → (e ≡ done → left ≡ Some [])
      → Converted f vs trace most before mid left (status_of e)
  told_by e rest are t a =
      let whole : tale_of f vs trace most ≡ with_lines s.written (ends_with e) = ap (tale f vs most) are ∙ (s.goes_on rest ∙ ap (with_lines s.written) t) in
      record {
        gained = subst (λ (x : Tale). Gains before mid (bytes_of f vs x.written)) (sym whole) (subst (λ (ls : List (List ℕ)). Gains before mid (bytes_of f vs ls)) (sym (append-nil s.written)) s.gained);
        ends = ap (λ (x : Tale). status_of x.end) (sym whole);
        all_read = λ d. a (ap (λ (x : Tale). x.end) (sym whole) ∙ d);
      }

  -- the trace is over
  ends_done : ReadTrace start left0 f0 c0 Over now zs left f1 c1 → Converted f vs trace most before mid left status.Ok
  ends_done r =
      let over = steps_at_end vs trace start now s.given zs left0 left f0 f1 c0 c1 s.at r in
      told_by done [] (over.0 ∙ sym (append-nil (given_steps s.given))) refl (λ _. over.1)

  -- its next step isn't readable
  ends_bad : ReadTrace start left0 f0 c0 Bad now zs left f1 c1 → Converted f vs trace most before mid left (BadInput k)
  ends_bad r = told_by (bad k) (None ∷ []) (steps_at_bad vs trace start now s.given zs left0 left f0 f1 c0 c1 s.at r) refl (λ h. absurd (not_done_bad k h))

  -- its line is too long
  ends_long : (r : ReadTrace start left0 f0 c0 Step now zs left f1 c1) → new ≡ pen_after pen zs → is_short new.line ≡ false → Converted f vs trace most before mid left (BadInput k)
  ends_long r e long =
      let line = new_line f (input_types vs) pen.last zs in
      told_by (bad k) (Some zs ∷ tail r) (all_steps r)
      (ap (λ (t : Bool). if t then (if k == most then ends_with limit else with_line line (tale_from f (input_types vs) most (k + 1) zs (tail r))) else ends_with (bad k)) (ap is_short (sym (line_is r e)) ∙ long))
      (λ h. absurd (not_done_bad k h))

  -- a read failed
  read_failed : ReadTrace start left0 f0 c0 ReadFault now zs left f1 c1 → ConvertedWhole f vs trace most before mid left
  read_failed r =
      let (taken, rest, left_is, cut, given) = steps_at_failure vs trace start now s.given zs left0 left f0 f1 c0 c1 s.at r in
      let whole : whole_tale f vs taken most ≡ with_lines s.written (ends_with done) = ap (tale f vs most) (given ∙ sym (append-nil (given_steps s.given))) ∙ s.goes_on [] in
      record {
        taken = taken;
        rest = rest;
        left_is = left_is;
        cut = cut;
        ends = ap (λ (x : Tale). x.end) whole;
        gained = subst (λ (x : Tale). Gains before mid (bytes_of f vs x.written)) (sym whole) (subst (λ (ls : List (List ℕ)). Gains before mid (bytes_of f vs ls)) (sym (append-nil s.written)) s.gained);
      }

  -- converting that stops at a step of which no line is made
  pub stops : (ended : Status) → Made k start pen left0 f0 c0 (Err ended) now new zs left f1 c1 → Converts f vs trace most before mid left ended
  stops ended m = by_answer m.answer (is_short new.line) refl m.is m.read m.made
    where
      Says : Status → Type 0
      Says y = Converts f vs trace most before mid left y

      by_answer : (a : ReadStep) (b : Bool) → is_short new.line ≡ b → Err ended ≡ making k a b → ReadTrace start left0 f0 c0 a now zs left f1 c1 → (a ≡ Step → new ≡ pen_after pen zs) → Says ended
      by_answer Step true q e t n = absurd (cc e)
      by_answer Step false q e t n = subst Says (status_is ended (BadInput k) e) (ends_long t (n refl) q)
      by_answer Over b q e t n = subst Says (status_is ended status.Ok e) (ends_done t)
      by_answer Bad b q e t n = subst Says (status_is ended (BadInput k) e) (ends_bad t)
      by_answer ReadFault b q e t n = subst Says (status_is ended status.ReadFault e) (read_failed t)

  -- a step of which a line is made
  record IsMade : Type 0 where
    read : ReadTrace start left0 f0 c0 Step now zs left f1 c1
    made : new ≡ pen_after pen zs
    short : is_short new.line ≡ true

  is_made : Made k start pen left0 f0 c0 (Ok tt) now new zs left f1 c1 → IsMade
  is_made m = by_answer m.answer (is_short new.line) refl m.is m.read m.made
    where
      by_answer : (a : ReadStep) (b : Bool) → is_short new.line ≡ b → Ok tt ≡ making k a b → ReadTrace start left0 f0 c0 a now zs left f1 c1 → (a ≡ Step → new ≡ pen_after pen zs) → IsMade
      by_answer Step true q e t n = record { read = t; made = n refl; short = q }
      by_answer Step false q e t n = absurd (cc e)
      by_answer Over b q e t n = absurd (cc e)
      by_answer Bad b q e t n = absurd (cc e)
      by_answer ReadFault b q e t n = absurd (cc e)

  line_short : (m : IsMade) → is_short (new_line f (input_types vs) pen.last zs) ≡ true
  line_short m = ap is_short (sym (line_is m.read m.made)) ∙ m.short

  -- as many steps as may be are converted
  pub stops_at_limit : Made k start pen left0 f0 c0 (Ok tt) now new zs left f1 c1 → k ≡ most → Converted f vs trace most before mid left StepLimit
  stops_at_limit made e =
      let m = is_made made in
      let line = new_line f (input_types vs) pen.last zs in
      told_by limit (Some zs ∷ tail m.read) (all_steps m.read)
      (ap₂ (λ (t u : Bool). if t then (if u then ends_with limit else with_line line (tale_from f (input_types vs) most (k + 1) zs (tail m.read))) else ends_with (bad k)) (line_short m) (last k most e))
      (λ h. absurd (not_done_limit h))
    where
      last : (a b : ℕ) → a ≡ b → (a == b) ≡ true
      last a b e = grind (arith, nat_tests, e)

  module _ (made : Made k start pen left0 f0 c0 (Ok tt) now new zs left f1 c1) (b : k < most) where
    -- the tale goes on with the line that is held
    tale_goes_on : (rest : List (Option (List ℤ))) → tale f vs most (given_steps s.given ++ (Some zs ∷ rest)) ≡ with_lines (s.written ++ (new.line ∷ [])) (tale_from f (input_types vs) most (k + 1) new.last rest)
    tale_goes_on rest =
        s.goes_on (Some zs ∷ rest)
        ∙ (ap (with_lines s.written) one ∙ ap (λ (ls : List (List ℕ)). record { written = ls; end = behind.end }) (sym (append_assoc s.written (new.line ∷ []) behind.written)))
      where
        m : IsMade
        m = is_made made

        behind : Tale
        behind = tale_from f (input_types vs) most (k + 1) new.last rest

        less : (a b : ℕ) → a < b → (a == b) ≡ false
        less a b h = grind (arith, nat_tests, h)

        line : List ℕ
        line = new_line f (input_types vs) pen.last zs

        one : tale_from f (input_types vs) most k pen.last (Some zs ∷ rest) ≡ with_line new.line behind
        one =
            ap₂ (λ (t u : Bool). if t then (if u then ends_with limit else with_line line (tale_from f (input_types vs) most (k + 1) zs rest)) else ends_with (bad k)) (line_short m) (less k most b)
            ∙ ap₂ (λ (l : List ℕ) (ys : List ℤ). with_line l (tale_from f (input_types vs) most (k + 1) ys rest)) (sym (line_is m.read m.made)) (sym (last_is m.read m.made))

    -- one more step, whose line is put
    pub one_more_step : Gains mid after new.line → SoFar f vs trace most (k + 1) new now left before after
    one_more_step g =
        let m = is_made made in
        record {
          given = s.given ++ (zs ∷ []);
          at = is_one_further vs trace start now s.given zs left0 left f0 f1 c0 c1 s.at m.read;
          pen_of = record { format = ap (λ (p : Pen). p.format) m.made ∙ s.pen_of.format; types = ap (λ (p : Pen). p.types) m.made ∙ s.pen_of.types };
          written = s.written ++ (new.line ∷ []);
          gained = subst (Gains before after) (ap (λ (l : List ℕ). bytes_of f vs s.written ++ l) (sym (append-nil new.line)) ∙ bytes_with f vs s.written (new.line ∷ []))
              (gains_both before mid after (bytes_of f vs s.written) new.line s.gained g);
          goes_on = λ rest. ap (tale f vs most) (given_more s.given zs rest) ∙ tale_goes_on rest;
        }

    -- its line was not put whole
    pub write_failed : GainsBegun mid after new.line → ConvertedBegun f vs trace most before after
    write_failed g =
        let m = is_made made in
        let others = (tale_from f (input_types vs) most (k + 1) new.last (tail m.read)).written in
        let whole : (tale_of f vs trace most).written ≡ s.written ++ (new.line ∷ others) =
        ap (λ (xs : List (Option (List ℤ))). (tale f vs most xs).written) (all_steps m.read) ∙ (ap (λ (x : Tale). x.written) (tale_goes_on (tail m.read)) ∙ append_assoc s.written (new.line ∷ []) others) in
        record {
          gained = subst (GainsBegun before after) (bytes_with f vs s.written (new.line ∷ others) ∙ ap (bytes_of f vs) (sym whole))
              (begun_next before mid after (bytes_of f vs s.written) (new.line ++ joined_lines others) s.gained (begun_first mid after new.line (joined_lines others) g));
        }

-- the header was not put whole
pub header_failed : (f : Format) (vs : Vars) (trace : List ℕ) (most : ℕ) (header : List ℕ) (before after : List ℕ → Type 0) → header ≡ new_header f vs → GainsBegun before after header → ConvertedBegun f vs trace most before after
header_failed f vs trace most header before after e g = record {
  gained = begun_first before after (new_header f vs) (joined_lines (tale_of f vs trace most).written) (subst (GainsBegun before after) e g);
}

-- the header is put, and no line
pub begins : (f : Format) (vs : Vars) (trace : List ℕ) (most : ℕ) (pen : Pen) (r : Reader) (left : Option (List ℕ)) (before after : List ℕ → Type 0) → IsNew vs r → IsPenOf f vs pen → pen.last ≡ zeros vs → pen.line ≡ new_header f vs
    → left ≡ Some trace → Gains before after pen.line → SoFar f vs trace most 0 pen r.trail left before after
begins f vs trace most pen r left before after new pen_of last header h g = record {
  given = [];
  at = subst (IsIn vs trace r.trail []) (sym h) (is_at_front vs trace r.trail new.means new.holds);
  pen_of = pen_of;
  written = [];
  gained = subst (Gains before after) (header ∙ sym (append-nil (new_header f vs))) g;
  goes_on = λ rest. ap (λ (ys : List ℤ). tale_from f (input_types vs) most 0 ys rest) (sym last);
}
