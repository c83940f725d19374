-- A converted trace is read back. The lines that were written are the lines of the bytes; behind the header, or without one, each is read
-- as the step of which it was made, out of the values of the step before.
use Rattle.std.proofs.Common.{◌≡◌, ◌↔◌, ◌+◌, ℕ, suc, ℤ, pos, Bool, true, false, ◌==◌, if◌then◌else◌, List, [], ◌∷◌, ◌++◌, length, Option, Some, None, refl, sym, ap, ap₂, subst, ◌∙◌, arith, append_assoc, All}
use Rattle.std.proofs.lemmas.List.{length-replicate}
use Rattle.quartz_tree.specs.Kernel.{Kernel}
use Rattle.quartz_tree.specs.declared.declare.Base.{Base}
use Rattle.quartz_tree.specs.declared.declare.Flow.TheVariants.{Input}
use Rattle.quartz_expr.specs.Vars.{Vars}
use Rattle.quartz_expr.specs.Steps.{initial}
use Rattle.quartz_expr.specs.Intervals.{is_sound_base}
use Rattle.quartz_expr.specs.Typed.{AreSound}
use Rattle.trace_io.specs.declared.field.Field.{Field}
use Rattle.trace_io.specs.Lines.{lines, is_short, joined_lines}
use Rattle.trace_io.specs.Inputs.{input_types, fields_from}
use Rattle.trace_io.specs.Held.{IsClosed}
use Rattle.trace_io.specs.Values.{value_text}
use Rattle.trace_io.specs.Reading.{steps, steps_of, zeros, head, headed_steps, line_steps, next_steps, up_to_none}
use Rattle.trace_io.specs.Writing.{line_of_types, rest_of_line}
use Rattle.trace_io.specs.Story.{End, Story, StoryFrom, done, bad, limit}
use Rattle.trace_io.proofs.TypeLemmas.{types_sound}
use Rattle.trace_io.proofs.LinesLemmas.{closed_front}
use Rattle.trace_io.proofs.FormatLemmas.{line_of_format_1, line_of_format_2}
use Rattle.trace_writer.specs.declared.format.Format.{Format}
use Rattle.trace_writer.specs.declared.format.Format.TheVariants.{Plain, Headed}
use Rattle.trace_writer.specs.Anew.{Tale, ends_with, with_line, tale_from, tale, bytes_of, input_names, spaced_words, joined_words, new_header, new_words, new_line}
use Rattle.trace_writer.proofs.BackLemmas.{AreOpen, AreSoundBases, spaced_open, open_closed, line_closed, line_plain, line_back}
use Rattle.cell_run.specs.Machine.{AreOfTypes}
use Rattle.cell_run.proofs.InputLemmas.{AreStepsOf, have_zero, steps_are}
use Rattle.cell_run.proofs.StoryLemmas.{values_stay}
use Rattle.trace_writer.specs.Words.{CanBeNamed}
use Rattle.convert_laws.specs.Laws.{CanBeHeaded, converted, NewTracesSayTheSame, NewTracesRunTheSame, PlainLinesAreAsOutputs}
use Rattle.convert_laws.proofs.NamedLemmas.{header_back}

-- ---- the lines of steps that are all converted

-- each step is a line that isn't too long
data Told (f : Format) (bs : List Base) : (last : List ℤ) → List (Option (List ℤ)) → List (List ℕ) → Type 0 where
  over : (ys : List ℤ) → Told f bs ys [] []
  more : (ys zs : List ℤ) (rest : List (Option (List ℤ))) (ls : List (List ℕ)) → AreOfTypes bs zs → is_short (new_line f bs ys zs) ≡ true → Told f bs zs rest ls
      → Told f bs ys (Some zs ∷ rest) (new_line f bs ys zs ∷ ls)

told : (f : Format) (bs : List Base) (most k : ℕ) (ys : List ℤ) (ss : List (Option (List ℤ))) → AreStepsOf bs ss → (tale_from f bs most k ys ss).end ≡ done → Told f bs ys ss (tale_from f bs most k ys ss).written
told f bs most k ys [] a e = over ys
told f bs most k ys (None ∷ rest) a e = absurd (cc e)
told f bs most k ys (Some zs ∷ rest) a e = by_tests (is_short (new_line f bs ys zs)) refl (k == most) e (told f bs most (k + 1) zs rest a.1)
  where
    behind : Tale
    behind = tale_from f bs most (k + 1) zs rest

    by_tests : (t : Bool) → is_short (new_line f bs ys zs) ≡ t → (u : Bool) → (if t then (if u then ends_with limit else with_line (new_line f bs ys zs) behind) else ends_with (bad k)).end ≡ done
        → (behind.end ≡ done → Told f bs zs rest behind.written)
        → Told f bs ys (Some zs ∷ rest) (if t then (if u then ends_with limit else with_line (new_line f bs ys zs) behind) else ends_with (bad k)).written
    by_tests true s false e on = more ys zs rest behind.written a.0 s (on e)
    by_tests true s true e on = absurd (cc e)
    by_tests false s u e on = absurd (cc e)

as_many : (bs : List Base) (zs : List ℤ) → AreOfTypes bs zs → length zs ≡ length bs
as_many [] [] h = refl
as_many [] (z ∷ zs) h = absurd h
as_many (b ∷ bs) [] h = absurd h
as_many (b ∷ bs) (z ∷ zs) h = ap suc (as_many bs zs h.1)

lines_back : (f : Format) (bs : List Base) (ys : List ℤ) (ss : List (Option (List ℤ))) (ls : List (List ℕ)) → AreSoundBases bs → Told f bs ys ss ls → lines (joined_lines ls) ≡ ls
lines_back f bs _ _ _ s (over ys) = refl
lines_back f bs _ _ _ s (more ys zs rest ls lie short t) =
    closed_front (new_line f bs ys zs) (joined_lines ls) (line_closed f bs ys zs s (values_stay bs zs lie)) ∙ ap (λ (l : List (List ℕ)). new_line f bs ys zs ∷ l) (lines_back f bs zs rest ls s t)

-- ---- format 1

plain_back : (vs : Vars) (ys : List ℤ) (ss : List (Option (List ℤ))) (ls : List (List ℕ)) → AreSoundBases (input_types vs) → length ys ≡ length (input_types vs) → Told Plain (input_types vs) ys ss ls → line_steps vs ls ≡ ss
plain_back vs _ _ _ s h (over ys) = refl
plain_back vs _ _ _ s h (more ys zs rest ls lie short t) =
    let bs = input_types vs in
    ap (λ (x : Option (List ℤ)). up_to_none x (λ (v : List ℤ). line_steps vs ls)) (sym (line_of_format_1 vs ys (new_line Plain bs ys zs) h) ∙ line_back Plain bs ys zs h (as_many bs zs lie) s (values_stay bs zs lie) short)
    ∙ ap (λ (xs : List (Option (List ℤ))). Some zs ∷ xs) (plain_back vs zs rest ls s (as_many bs zs lie) t)

plain_steps : (vs : Vars) (ys : List ℤ) (ss : List (Option (List ℤ))) (ls : List (List ℕ)) → AreSoundBases (input_types vs) → Told Plain (input_types vs) ys ss ls → steps_of vs ls ≡ line_steps vs ls
plain_steps vs _ _ _ s (over ys) = refl
plain_steps vs _ _ _ s (more ys zs rest ls lie short t) =
    let line = new_line Plain (input_types vs) ys zs in
    ap (λ (b : Bool). if b then headed_steps vs (head vs line) ls else line_steps vs (line ∷ ls)) (line_plain (input_types vs) ys zs s (values_stay (input_types vs) zs lie))

-- ---- format 2

headed_back : (bs : List Base) (ys : List ℤ) (ss : List (Option (List ℤ))) (ls : List (List ℕ)) → AreSoundBases bs → length ys ≡ length bs → Told Headed bs ys ss ls → next_steps (fields_from 0 bs) ys ls ≡ ss
headed_back bs _ _ _ s h (over ys) = refl
headed_back bs _ _ _ s h (more ys zs rest ls lie short t) =
    ap (λ (x : Option (List ℤ)). up_to_none x (λ (v : List ℤ). next_steps (fields_from 0 bs) v ls))
    (sym (line_of_format_2 (fields_from 0 bs) ys (new_line Headed bs ys zs)) ∙ line_back Headed bs ys zs h (as_many bs zs lie) s (values_stay bs zs lie) short)
    ∙ ap (λ (xs : List (Option (List ℤ))). Some zs ∷ xs) (headed_back bs zs rest ls s (as_many bs zs lie) t)

header_closed : (vs : Vars) → CanBeNamed vs → IsClosed (new_header Headed vs)
header_closed vs c =
    let plain : AreOpen (35 ∷ spaced_words (input_names vs)) = (refl, refl, spaced_open (input_names vs) c.words) in
    open_closed (35 ∷ spaced_words (input_names vs)) plain

-- ---- both

zeros_long : (vs : Vars) → length (zeros vs) ≡ length (input_types vs)
zeros_long vs = length-replicate (length (input_types vs)) (pos 0)

same_of : (f : Format) (vs : Vars) (ss : List (Option (List ℤ))) (ls : List (List ℕ)) → AreSoundBases (input_types vs) → CanBeHeaded f vs → Told f (input_types vs) (zeros vs) ss ls → steps vs (bytes_of f vs ls) ≡ ss
same_of Plain vs ss ls s c t =
    ap (steps_of vs) (lines_back Plain (input_types vs) (zeros vs) ss ls s t)
    ∙ (plain_steps vs (zeros vs) ss ls s t ∙ plain_back vs (zeros vs) ss ls s (zeros_long vs) t)
same_of Headed vs ss ls s c t =
    ap (steps_of vs) (closed_front (new_header Headed vs) (joined_lines ls) (header_closed vs c) ∙ ap (λ (l : List (List ℕ)). new_header Headed vs ∷ l) (lines_back Headed (input_types vs) (zeros vs) ss ls s t))
    ∙ (ap (λ (x : Option (List Field)). headed_steps vs x ls) (header_back vs c) ∙ headed_back (input_types vs) (zeros vs) ss ls s (zeros_long vs) t)

sound_bases : (bs : List Base) → All (λ b. is_sound_base b ≡ true) bs → AreSoundBases bs
sound_bases [] h = tt
sound_bases (b ∷ bs) h = (h 0 b (omega arith), sound_bases bs (λ k d l. h (suc k) d (omega (arith, l))))

pub new_traces_say_the_same : NewTracesSayTheSame
new_traces_say_the_same f vs greatest trace sound c e =
    same_of f vs (steps vs trace) (tale f vs greatest (steps vs trace)).written (sound_bases (input_types vs) (types_sound Input vs sound.types)) c
    (told f (input_types vs) greatest 0 (zeros vs) (steps vs trace) (steps_are vs (lines trace) (have_zero vs sound.types)) e)

pub new_traces_run_the_same : NewTracesRunTheSame
new_traces_run_the_same f vs greatest trace sound c e body most written end =
    let same = new_traces_say_the_same f vs greatest trace sound c e in
    (λ story. subst (λ (ss : List (Option (List ℤ))). over_steps ss) (sym same) story, λ story. subst (λ (ss : List (Option (List ℤ))). over_steps ss) same story)
  where
    over_steps : List (Option (List ℤ)) → Type 0
    over_steps ss = StoryFrom vs most 0 (initial vs body) ss written end

-- ---- lines of format 1

spaced_is : (bs : List Base) (ys zs : List ℤ) → length ys ≡ length bs → spaced_words (new_words Plain bs ys zs) ++ (10 ∷ []) ≡ rest_of_line bs zs
spaced_is [] ys zs h = refl
spaced_is (b ∷ bs) [] zs h = absurd (omega (arith, h))
spaced_is (b ∷ bs) (y ∷ ys) [] h = refl
spaced_is (b ∷ bs) (y ∷ ys) (z ∷ zs) h =
    ap (λ (l : List ℕ). 32 ∷ l) (append_assoc (value_text b z) (spaced_words (new_words Plain bs ys zs)) (10 ∷ []) ∙ ap (λ (l : List ℕ). value_text b z ++ l) (spaced_is bs ys zs (omega (arith, h))))

line_is : (bs : List Base) (ys zs : List ℤ) → length ys ≡ length bs → new_line Plain bs ys zs ≡ line_of_types bs zs
line_is [] ys zs h = refl
line_is (b ∷ bs) [] zs h = absurd (omega (arith, h))
line_is (b ∷ bs) (y ∷ ys) [] h = refl
line_is (b ∷ bs) (y ∷ ys) (z ∷ zs) h =
    append_assoc (value_text b z) (spaced_words (new_words Plain bs ys zs)) (10 ∷ []) ∙ ap (λ (l : List ℕ). value_text b z ++ l) (spaced_is bs ys zs (omega (arith, h)))

pub plain_lines_are_as_outputs : PlainLinesAreAsOutputs
plain_lines_are_as_outputs vs last values h = line_is (input_types vs) last values h
