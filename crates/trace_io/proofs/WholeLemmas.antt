-- The lines that are whole in bytes that were taken, and the steps that they give.
use Rattle.std.proofs.Common.{◌≡◌, ◌≤◌, ℕ, Bool, true, false, ◌&&◌, ◌||◌, ◌==◌, nat_le, if◌then◌else◌, List, [], ◌∷◌, ◌++◌, length, refl, sym, ap, ap₂, subst, ◌∙◌, arith, append_assoc, append-nil}
use Rattle.std.specs.List.{filter}
use Rattle.std.proofs.lemmas.Bool.Decides.{nat_tests}
use Rattle.trace_io.specs.Lines.{lines, before_first, joined_lines, without_last, is_ended, is_whole, whole_lines}
use Rattle.trace_io.specs.Held.{has_line_end, IsClosed}
use Rattle.trace_io.specs.Trace.{are_ended}
use Rattle.trace_io.proofs.LinesLemmas.{closed_front, open_alone}

-- no LF stands before the last byte of a line
abbrev AreOpen : List (List ℕ) → Type 0
AreOpen [] = Unit {0}
AreOpen (line ∷ rest) = (has_line_end (without_last 10 line) ≡ false) × AreOpen rest

open_before : (c : ℕ) (ls : List (List ℕ)) → (c == 10) ≡ false → AreOpen ls → AreOpen (before_first c ls)
open_before c [] e o = (ap (λ (b : Bool). has_line_end (if b then [] else c ∷ [])) e ∙ ap (λ (b : Bool). b || false) e, tt)
open_before c ([] ∷ ls) e o = (ap (λ (b : Bool). has_line_end (if b then [] else c ∷ [])) e ∙ ap (λ (b : Bool). b || false) e, o.1)
open_before c ((d ∷ l) ∷ ls) e o = (ap₂ (λ (a b : Bool). a || b) e o.0, o.1)

lines_open : (bytes : List ℕ) → AreOpen (lines bytes)
lines_open [] = tt
lines_open (c ∷ text) = step (c == 10) refl (lines_open text)
  where
    step : (b : Bool) → (c == 10) ≡ b → AreOpen (lines text) → AreOpen (if b then (c ∷ []) ∷ lines text else before_first c (lines text))
    step true e o = (ap (λ (b : Bool). has_line_end (if b then [] else c ∷ [])) e, o)
    step false e o = open_before c (lines text) e o

both_open : (ls others : List (List ℕ)) → AreOpen (ls ++ others) → AreOpen ls
both_open [] others o = tt
both_open (l ∷ ls) others o = (o.0, both_open ls others o.1)

last_is : (line : List ℕ) → is_ended line ≡ true → line ≡ without_last 10 line ++ (10 ∷ [])
last_is [] e = absurd (cc e)
last_is (c ∷ []) e = ap (λ (x : ℕ). x ∷ []) (is_lf c e) ∙ ap (λ (b : Bool). (if b then [] else c ∷ []) ++ (10 ∷ [])) (sym e)
  where
    is_lf : (c : ℕ) → (c == 10) ≡ true → c ≡ 10
    is_lf c e = grind (arith, nat_tests, e)
last_is (c ∷ d ∷ cs) e = ap (λ (l : List ℕ). c ∷ l) (last_is (d ∷ cs) e)

both_true : (a b : Bool) → (a && b) ≡ true → (a ≡ true) × (b ≡ true)
both_true true b e = (refl, e)
both_true false b e = absurd (cc e)

closed_line : (line : List ℕ) → is_ended line ≡ true → has_line_end (without_last 10 line) ≡ false → IsClosed line
closed_line line e o = record { front = without_last 10 line; is = last_is line e; open_front = o }

-- ended lines before some bytes are the first of all lines
lines_behind : (ls : List (List ℕ)) (bytes : List ℕ) → are_ended ls ≡ true → AreOpen ls → lines (joined_lines ls ++ bytes) ≡ ls ++ lines bytes
lines_behind [] bytes e o = refl
lines_behind (l ∷ ls) bytes e o =
    let (a, b) = both_true (is_ended l) (are_ended ls) e in
    ap lines (append_assoc l (joined_lines ls) bytes) ∙ (closed_front l (joined_lines ls ++ bytes) (closed_line l a o.0) ∙ ap (λ (x : List (List ℕ)). l ∷ x) (lines_behind ls bytes b o.1))

ended_whole : (ls others : List (List ℕ)) → are_ended ls ≡ true → filter is_whole (ls ++ others) ≡ ls ++ filter is_whole others
ended_whole [] others e = refl
ended_whole (l ∷ ls) others e =
    let (a, b) = both_true (is_ended l) (are_ended ls) e in
    ap (λ (t : Bool). if t || nat_le 65537 (length l) then l ∷ filter is_whole (ls ++ others) else filter is_whole (ls ++ others)) a ∙ ap (λ (x : List (List ℕ)). l ∷ x) (ended_whole ls others b)

none_whole : (part : List ℕ) → has_line_end part ≡ false → length part ≤ 65536 → filter is_whole (lines part) ≡ []
none_whole [] e h = refl
none_whole (c ∷ cs) e h =
    ap (filter is_whole) (open_alone c cs e)
    ∙ ap₂ (λ (a b : Bool). if a || b then (c ∷ cs) ∷ [] else []) (not_ended (c ∷ cs) e) (too_short (length (c ∷ cs)) h)
  where
    not_ended : (l : List ℕ) → has_line_end l ≡ false → is_ended l ≡ false
    not_ended [] e = refl
    not_ended (c ∷ []) e = left (c == 10) e
      where
        left : (b : Bool) → (b || false) ≡ false → b ≡ false
        left false e = refl
        left true e = absurd (cc e)
    not_ended (c ∷ d ∷ cs) e = not_ended (d ∷ cs) (right (c == 10) (has_line_end (d ∷ cs)) e)
      where
        right : (a b : Bool) → (a || b) ≡ false → b ≡ false
        right false b e = e
        right true b e = absurd (cc e)

    too_short : (n : ℕ) → n ≤ 65536 → nat_le 65537 n ≡ false
    too_short n h = grind (arith, nat_tests, h)

-- of lines that were taken and the front of one more, the lines are whole
pub whole_taken : (ls others : List (List ℕ)) (bytes part : List ℕ) → lines bytes ≡ ls ++ others → are_ended ls ≡ true → has_line_end part ≡ false → length part ≤ 65536 → whole_lines (joined_lines ls ++ part) ≡ ls
whole_taken ls others bytes part cut e o h =
    ap (filter is_whole) (lines_behind ls part e (both_open ls others (subst AreOpen cut (lines_open bytes))))
    ∙ (ended_whole ls (lines part) e ∙ (ap (λ (x : List (List ℕ)). ls ++ x) (none_whole part o h) ∙ append-nil ls))
