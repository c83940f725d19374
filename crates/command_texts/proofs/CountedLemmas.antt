-- What a counting sink tells of a run over a generated trace.
use Rattle.std.proofs.Common.{◌≡◌, ◌≤◌, ◌+◌, ◌*◌, ℕ, suc, ℤ, List, [], ◌∷◌, ◌++◌, length, Option, Some, None, refl, sym, ap, ap₂, subst, ◌∙◌, arith, length-append}
use Rattle.quartz_tree.specs.declared.declare.Flow.TheVariants.{Input, Output}
use Rattle.quartz_expr.specs.Vars.{Vars}
use Rattle.quartz_expr.specs.Steps.{State, initial}
use Rattle.trace_io.specs.Lines.{joined_lines, lines}
use Rattle.trace_io.specs.Inputs.{input_types, output_types}
use Rattle.trace_io.specs.Reading.{line_steps, reads_line, up_to_none}
use Rattle.trace_io.specs.Writing.{generated}
use Rattle.trace_io.specs.Held.{IsClosed}
use Rattle.trace_io.specs.Counting.{longest_line}
use Rattle.trace_io.specs.Story.{End, done, StoryFrom, is_done, is_bad, is_limit, is_fault, is_step}
use Rattle.trace_io.proofs.TallyLemmas.{AreLines, tells_lines}
use Rattle.trace_io.proofs.TallyLemmas as tally
use Rattle.command_texts.specs.Texts.{last_of}
use Rattle.command_texts.specs.Counted.{CountedRunIsTold, HaveShortLines}
use Rattle.command_texts.proofs.SmallLemmas.{AreOfSmall, run_small}
use Rattle.command_texts.proofs.LineLemmas.{closed_line, generated_counted, generated_plain, short_line, types_sound}

-- ---- a line for each step

abbrev AreRead : List (Option (List ℤ)) → Type 0
AreRead [] = Unit {0}
AreRead (None ∷ rest) = ⊥
AreRead (Some zs ∷ rest) = AreRead rest

-- a run that is done wrote a line for each step, each of which was read
done_counts : (vs : Vars) (greatest k : ℕ) (s : State) (steps : List (Option (List ℤ))) (written : List (List ℕ)) (e : End) → e ≡ done → StoryFrom vs greatest k s steps written e
    → (length written ≡ length steps) × AreRead steps
done_counts vs g k s _ _ _ h (is_done _ _) = (refl, tt)
done_counts vs g k s _ _ _ h (is_bad _ _ _) = absurd (cc h)
done_counts vs g k s _ _ _ h (is_limit _ _ _ _ _) = absurd (cc h)
done_counts vs g k s _ _ _ h (is_fault _ _ _ _ _ _ _ _ _ _ _) = absurd (cc h)
done_counts vs g k s _ _ _ h (is_step _ _ zs rest outs t written e _ m more) =
    let r = done_counts vs g (k + 1) t rest written e h more in
    (ap suc r.0, r.1)

-- and there is a step for each line
read_counts : (vs : Vars) (ls : List (List ℕ)) → AreRead (line_steps vs ls) → length (line_steps vs ls) ≡ length ls
read_counts vs [] h = refl
read_counts vs (line ∷ rest) h = by_line (reads_line vs line) (read_counts vs rest) h
  where
    by_line : (x : Option (List ℤ)) → (AreRead (line_steps vs rest) → length (line_steps vs rest) ≡ length rest) → AreRead (up_to_none x (λ zs. line_steps vs rest))
        → length (up_to_none x (λ zs. line_steps vs rest)) ≡ suc (length rest)
    by_line None f h = absurd h
    by_line (Some zs) f h = ap suc (f h)

-- ---- the lines

are_lines : (vs : Vars) → HaveShortLines vs → (ls : List (List ℕ)) → AreOfSmall vs ls → AreLines ls
are_lines vs h [] a = tt
are_lines vs h (l ∷ ls) a =
    let zs : List ℤ = a.0.0 in
    let sound = types_sound Output vs h.types.types in (
      subst IsClosed (sym a.0.1) (closed_line (output_types vs) zs a.0.2),
      subst (λ (x : List ℕ). length x ≤ longest_line) (sym a.0.1) (short_line (output_types vs) zs 65536 sound a.0.2 h.few (omega arith)),
      are_lines vs h ls a.1,
    )

few_bytes : (ls : List (List ℕ)) → AreLines ls → length (joined_lines ls) ≤ length ls * 2293760
few_bytes [] h = omega arith
few_bytes (l ∷ ls) h =
    let short : length l ≤ 2293760 = h.1 in
    let rest : length (joined_lines ls) ≤ length ls * 2293760 = few_bytes ls h.2 in
    let both : length (l ++ joined_lines ls) ≡ length l + length (joined_lines ls) = length-append l (joined_lines ls) in
    omega (arith, short, rest, both)

same_last : (ls : List (List ℕ)) → tally.last_of ls ≡ last_of ls
same_last [] = refl
same_last (l ∷ []) = refl
same_last (l ∷ m ∷ ls) = same_last (m ∷ ls)

-- ---- the whole

pub counted_run_is_told : CountedRunIsTold
counted_run_is_told vs body seed n greatest written t h few story stands =
    let sound = types_sound Input vs h.types.types in
    let plain : StoryFrom vs greatest 0 (initial vs body) (line_steps vs (lines (generated vs seed n))) written done =
    subst (λ (ss : List (Option (List ℤ))). StoryFrom vs greatest 0 (initial vs body) ss written done) (generated_plain vs (input_types vs) seed n sound) story in
    let counts = done_counts vs greatest 0 (initial vs body) (line_steps vs (lines (generated vs seed n))) written done refl plain in
    let counted : length written ≡ n = counts.0 ∙ (read_counts vs (lines (generated vs seed n)) counts.1 ∙ generated_counted (input_types vs) seed n sound) in
    let are : AreLines written = are_lines vs h written (run_small vs body greatest (line_steps vs (lines (generated vs seed n))) written done h.starts plain) in
    let bytes : length (joined_lines written) ≤ length written * 2293760 = few_bytes written are in
    let told = tells_lines t written are (omega (arith, counted, few, bytes)) stands in
    (counted, ap₂ (λ (c : ℕ) (l : List ℕ). record { count = c; last = l }) told.0 (told.1 ∙ same_last written))
