-- The two formats as one way of reading: in format 1 all elements in declared order, none of which may keep its value; in format 2 those
-- that the header names, each of which may.
use Rattle.std.proofs.Common.{◌≡◌, ◌+◌, ℕ, ℤ, true, false, if◌then◌else◌, List, [], ◌∷◌, ◌++◌, length, Option, Some, None, refl, sym, ap, ◌∙◌, arith, append_assoc, length-append}
use Rattle.std.specs.Prelude.{slice_set, option_map, option_and_then}
use Rattle.quartz_tree.specs.declared.declare.Base.{Base}
use Rattle.quartz_expr.specs.Vars.{Vars}
use Rattle.trace_io.specs.declared.field.Field.{Field}
use Rattle.trace_io.specs.Lines.{lines, words, text_in, is_short}
use Rattle.trace_io.specs.Values.{reads_value}
use Rattle.trace_io.specs.Inputs.{input_types, fields_from}
use Rattle.trace_io.specs.Reading.{before_values, reads_values, reads_line, next_value, reads_fields, reads_next, line_steps, next_steps, up_to_none}
use Rattle.trace_io.specs.Scan.{reads_by}
use Rattle.trace_io.specs.Next.{line_by}

-- format 2

and_then_same : (f g : List ℤ → Option (List ℤ)) (x : Option (List ℤ)) → ((zs : List ℤ) → f zs ≡ g zs) → option_and_then f x ≡ option_and_then g x
and_then_same f g None h = refl
and_then_same f g (Some zs) h = h zs

keeping : (fs : List Field) (ws : List (List ℕ)) (last : List ℤ) → reads_by true fs ws last ≡ reads_fields fs ws last
keeping [] [] last = refl
keeping [] (w ∷ ws) last = refl
keeping (f ∷ fs) [] last = refl
keeping (f ∷ fs) (w ∷ ws) last = and_then_same (reads_by true fs ws) (reads_fields fs ws) (next_value f w last) (λ zs. keeping fs ws zs)

pub line_of_format_2 : (fs : List Field) (last : List ℤ) (line : List ℕ) → line_by true fs last line ≡ reads_next fs last line
line_of_format_2 fs last line = ap (λ (x : Option (List ℤ)). if is_short line then x else None) (keeping fs (words (text_in line)) last)

-- format 1

set_behind : (pre : List ℤ) (y z : ℤ) (rest : List ℤ) → slice_set (pre ++ (y ∷ rest)) (length pre) z ≡ (pre ++ (z ∷ [])) ++ rest
set_behind [] y z rest = refl
set_behind (x ∷ xs) y z rest = ap (λ (l : List ℤ). x ∷ l) (set_behind xs y z rest)

not_keeping : (n : ℕ) (types : List Base) (ws : List (List ℕ)) (pre last : List ℤ) → length pre ≡ n → length last ≡ length types
    → reads_by false (fields_from n types) ws (pre ++ last) ≡ option_map (λ zs. pre ++ zs) (reads_values types ws)
not_keeping n [] [] pre [] h k = refl
not_keeping n [] [] pre (z ∷ zs) h k = absurd (omega (arith, k))
not_keeping n [] (w ∷ ws) pre last h k = refl
not_keeping n (b ∷ bs) [] pre last h k = refl
not_keeping n (b ∷ bs) (w ∷ ws) pre [] h k = absurd (omega (arith, k))
not_keeping n (b ∷ bs) (w ∷ ws) pre (y ∷ last) h k = step (reads_value b w) (λ z. not_keeping (n + 1) bs ws (pre ++ (z ∷ [])) last (more z) (omega (arith, k)))
  where
    more : (z : ℤ) → length (pre ++ (z ∷ [])) ≡ n + 1
    more z = let e : length (pre ++ (z ∷ [])) ≡ length pre + 1 = length-append pre (z ∷ []) in omega (arith, e, h)

    behind : (z : ℤ) (x : Option (List ℤ)) → option_map (λ zs. (pre ++ (z ∷ [])) ++ zs) x ≡ option_map (λ zs. pre ++ zs) (before_values (Some z) x)
    behind z None = refl
    behind z (Some zs) = ap Some (append_assoc pre (z ∷ []) zs)

    step : (x : Option ℤ) → ((z : ℤ) → reads_by false (fields_from (n + 1) bs) ws ((pre ++ (z ∷ [])) ++ last) ≡ option_map (λ zs. (pre ++ (z ∷ [])) ++ zs) (reads_values bs ws))
        → option_and_then (reads_by false (fields_from (n + 1) bs) ws) (option_map (λ z. slice_set (pre ++ (y ∷ last)) n z) x) ≡ option_map (λ zs. pre ++ zs) (before_values x (reads_values bs ws))
    step None t = none (reads_values bs ws)
      where
        none : (v : Option (List ℤ)) → None ≡ option_map (λ zs. pre ++ zs) (before_values None v)
        none None = refl
        none (Some zs) = refl
    step (Some z) t =
        ap (reads_by false (fields_from (n + 1) bs) ws) (ap (λ (i : ℕ). slice_set (pre ++ (y ∷ last)) i z) (sym h) ∙ set_behind pre y z last) ∙ (t z ∙ behind z (reads_values bs ws))

same_option : (x : Option (List ℤ)) → option_map (λ zs. [] ++ zs) x ≡ x
same_option None = refl
same_option (Some zs) = refl

pub line_of_format_1 : (vs : Vars) (last : List ℤ) (line : List ℕ) → length last ≡ length (input_types vs) → line_by false (fields_from 0 (input_types vs)) last line ≡ reads_line vs line
line_of_format_1 vs last line h =
    ap (λ (x : Option (List ℤ)). if is_short line then x else None) (not_keeping 0 (input_types vs) (words (text_in line)) [] last refl h ∙ same_option (reads_values (input_types vs) (words (text_in line))))

-- a step that is read is the first of the steps, and those behind it are the others
pub steps_of_format_1 : (vs : Vars) (bytes rest line : List ℕ) (last zs : List ℤ) → lines bytes ≡ line ∷ lines rest → length last ≡ length (input_types vs)
    → line_by false (fields_from 0 (input_types vs)) last line ≡ Some zs → line_steps vs (lines bytes) ≡ Some zs ∷ line_steps vs (lines rest)
steps_of_format_1 vs bytes rest line last zs e h r =
    ap (line_steps vs) e ∙ ap (λ (x : Option (List ℤ)). up_to_none x (λ ys. line_steps vs (lines rest))) (sym (line_of_format_1 vs last line h) ∙ r)

pub steps_of_format_2 : (fs : List Field) (bytes rest line : List ℕ) (last zs : List ℤ) → lines bytes ≡ line ∷ lines rest
    → line_by true fs last line ≡ Some zs → next_steps fs last (lines bytes) ≡ Some zs ∷ next_steps fs zs (lines rest)
steps_of_format_2 fs bytes rest line last zs e r =
    ap (next_steps fs last) e ∙ ap (λ (x : Option (List ℤ)). up_to_none x (λ ys. next_steps fs ys (lines rest))) (sym (line_of_format_2 fs last line) ∙ r)

-- a line that isn't readable is the last step, and none
pub bad_of_format_1 : (vs : Vars) (bytes line : List ℕ) (others : List (List ℕ)) (last : List ℤ) → lines bytes ≡ line ∷ others → length last ≡ length (input_types vs)
    → line_by false (fields_from 0 (input_types vs)) last line ≡ None → line_steps vs (lines bytes) ≡ None ∷ []
bad_of_format_1 vs bytes line others last e h r =
    ap (line_steps vs) e ∙ ap (λ (x : Option (List ℤ)). up_to_none x (λ ys. line_steps vs others)) (sym (line_of_format_1 vs last line h) ∙ r)

pub bad_of_format_2 : (fs : List Field) (bytes line : List ℕ) (others : List (List ℕ)) (last : List ℤ) → lines bytes ≡ line ∷ others
    → line_by true fs last line ≡ None → next_steps fs last (lines bytes) ≡ None ∷ []
bad_of_format_2 fs bytes line others last e r =
    ap (next_steps fs last) e ∙ ap (λ (x : Option (List ℤ)). up_to_none x (λ ys. next_steps fs ys others)) (sym (line_of_format_2 fs last line) ∙ r)
