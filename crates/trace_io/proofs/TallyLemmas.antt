-- What a counting sink tells of lines that were put.
use Rattle.std.proofs.Common.{◌≡◌, ◌<◌, ◌≤◌, ◌+◌, ◌^◌, ◌⊎◌, inl, inr, ℕ, Bool, true, false, ◌||◌, ◌==◌, if◌then◌else◌, List, [], ◌∷◌, ◌++◌, length, refl, sym, ap, ap₂, subst, ◌∙◌, arith, append_assoc, append-nil, length-append}
use Rattle.std.specs.Prelude.{nat_lt}
use Rattle.std.proofs.lemmas.Bool.Decides.{nat_tests}
use Rattle.trace_io.specs.Lines.{joined_lines, is_ended}
use Rattle.trace_io.specs.Held.{has_line_end, IsClosed}
use Rattle.trace_io.specs.Counting.{Tally, longest_line, line_with, last_line, grows_long, StandsFor}
use Rattle.quartz_expr.proofs.TruthLemmas.{or_parts}
use Rattle.trace_io.proofs.LinesLemmas.{ended_at}

-- the last of some lines
abbrev pub last_of : List (List ℕ) → List ℕ
last_of [] = []
last_of (l ∷ []) = l
last_of (l ∷ m ∷ ls) = last_of (m ∷ ls)

-- each of the lines has its LF, none before it, and isn't longer than the longest one
abbrev pub AreLines : List (List ℕ) → Type 0
AreLines [] = Unit {0}
AreLines (l ∷ ls) = IsClosed l × (length l ≤ longest_line) × AreLines ls

-- a new line begins behind this one
abbrev IsBehind : List ℕ → Type 0
IsBehind line = (line ≡ []) ⊎ (is_ended line ≡ true)

begins : (line : List ℕ) (c : ℕ) → IsBehind line → line_with line c ≡ c ∷ []
begins line c (inl e) = ap (λ (l : List ℕ). line_with l c) e
begins line c (inr e) = ap (λ (b : Bool). if b then c ∷ [] else line ++ (c ∷ [])) e

not_ended : (l : List ℕ) → has_line_end l ≡ false → is_ended l ≡ false
not_ended [] e = refl
not_ended (c ∷ []) e = (or_parts (c == 10) false e).0
not_ended (c ∷ d ∷ cs) e = not_ended (d ∷ cs) (or_parts (c == 10) (has_line_end (d ∷ cs)) e).1

open_both : (xs ys : List ℕ) → has_line_end (xs ++ ys) ≡ false → has_line_end xs ≡ false
open_both [] ys e = refl
open_both (c ∷ cs) ys e = let (a, b) = or_parts (c == 10) (has_line_end (cs ++ ys)) e in ap₂ (λ (x y : Bool). x || y) a (open_both cs ys b)

goes_on : (line : List ℕ) (c : ℕ) → has_line_end line ≡ false → line_with line c ≡ line ++ (c ∷ [])
goes_on line c e = ap (λ (b : Bool). if b then c ∷ [] else line ++ (c ∷ [])) (not_ended line e)

not_over : (n : ℕ) → n ≤ longest_line → nat_lt longest_line n ≡ false
not_over n h = grind (arith, nat_tests, h)

-- bytes without an LF, and the LF, make one line
module _ (rest : List ℕ) where
  last_further : (line front : List ℕ) → has_line_end (line ++ front) ≡ false → last_line line (front ++ (10 ∷ rest)) ≡ last_line (line ++ (front ++ (10 ∷ []))) rest
  last_further line [] e = ap (λ (l : List ℕ). last_line l rest) (goes_on line 10 (ap has_line_end (sym (append-nil line)) ∙ e))
  last_further line (c ∷ cs) e =
      let same : (line ++ (c ∷ [])) ++ cs ≡ line ++ (c ∷ cs) = append_assoc line (c ∷ []) cs in
      ap (λ (l : List ℕ). last_line l (cs ++ (10 ∷ rest))) (goes_on line c (open_both line (c ∷ cs) e))
      ∙ (last_further (line ++ (c ∷ [])) cs (ap has_line_end same ∙ e) ∙ ap (λ (l : List ℕ). last_line l rest) (append_assoc line (c ∷ []) (cs ++ (10 ∷ []))))

  grows_further : (line front : List ℕ) → has_line_end (line ++ front) ≡ false → length (line ++ (front ++ (10 ∷ []))) ≤ longest_line → grows_long line (front ++ (10 ∷ rest)) ≡ grows_long (line ++ (front ++ (10 ∷ []))) rest
  grows_further line [] e h =
      ap (λ (b : Bool). b || grows_long (line_with line 10) rest) (not_over (length line) (let k : length (line ++ (10 ∷ [])) ≡ length line + 1 = length-append line (10 ∷ []) in omega (arith, k, h)))
      ∙ ap (λ (l : List ℕ). grows_long l rest) (goes_on line 10 (ap has_line_end (sym (append-nil line)) ∙ e))
  grows_further line (c ∷ cs) e h =
      let same : (line ++ (c ∷ [])) ++ cs ≡ line ++ (c ∷ cs) = append_assoc line (c ∷ []) cs in
      let all : (line ++ (c ∷ [])) ++ (cs ++ (10 ∷ [])) ≡ line ++ ((c ∷ cs) ++ (10 ∷ [])) = append_assoc line (c ∷ []) (cs ++ (10 ∷ [])) in
      ap (λ (b : Bool). b || grows_long (line_with line c) (cs ++ (10 ∷ rest))) (not_over (length line) (let k : length (line ++ ((c ∷ cs) ++ (10 ∷ []))) ≡ length line + length ((c ∷ cs) ++ (10 ∷ [])) = length-append line ((c ∷ cs) ++ (10 ∷ [])) in omega (arith, k, h)))
      ∙ (ap (λ (l : List ℕ). grows_long l (cs ++ (10 ∷ rest))) (goes_on line c (open_both line (c ∷ cs) e))
      ∙ (grows_further (line ++ (c ∷ [])) cs (ap has_line_end same ∙ e) (subst (λ (l : List ℕ). length l ≤ longest_line) (sym all) h) ∙ ap (λ (l : List ℕ). grows_long l rest) all))

-- from a line's end on, a line more
next_last : (line front rest : List ℕ) → IsBehind line → has_line_end front ≡ false → last_line line (front ++ (10 ∷ rest)) ≡ last_line (front ++ (10 ∷ [])) rest
next_last line [] rest b e = ap (λ (l : List ℕ). last_line l rest) (begins line 10 b)
next_last line (c ∷ cs) rest b e = ap (λ (l : List ℕ). last_line l (cs ++ (10 ∷ rest))) (begins line c b) ∙ last_further rest (c ∷ []) cs e

next_grows : (line front rest : List ℕ) → IsBehind line → has_line_end front ≡ false → length line ≤ longest_line → length (front ++ (10 ∷ [])) ≤ longest_line → grows_long line (front ++ (10 ∷ rest)) ≡ grows_long (front ++ (10 ∷ [])) rest
next_grows line [] rest b e h k = ap (λ (t : Bool). t || grows_long (line_with line 10) rest) (not_over (length line) h) ∙ ap (λ (l : List ℕ). grows_long l rest) (begins line 10 b)
next_grows line (c ∷ cs) rest b e h k = ap (λ (t : Bool). t || grows_long (line_with line c) (cs ++ (10 ∷ rest))) (not_over (length line) h) ∙ (ap (λ (l : List ℕ). grows_long l (cs ++ (10 ∷ rest))) (begins line c b) ∙ grows_further rest (c ∷ []) cs e k)

-- the line behind these, where there is one
abbrev last_with : List ℕ → List (List ℕ) → List ℕ
last_with line [] = line
last_with line (l ∷ ls) = last_with l ls

lines_last : (line : List ℕ) (ls : List (List ℕ)) → IsBehind line → AreLines ls → last_line line (joined_lines ls) ≡ last_with line ls
lines_last line [] b k = refl
lines_last line (l ∷ ls) b k =
    let c = k.0 in
    ap (λ (x : List ℕ). last_line line (x ++ joined_lines ls)) c.is
    ∙ (ap (last_line line) (append_assoc c.front (10 ∷ []) (joined_lines ls))
    ∙ (next_last line c.front (joined_lines ls) b c.open_front
    ∙ (ap (λ (x : List ℕ). last_line x (joined_lines ls)) (sym c.is) ∙ lines_last l ls (inr (ap is_ended c.is ∙ ended_at c.front)) k.2)))

lines_grow : (line : List ℕ) (ls : List (List ℕ)) → IsBehind line → length line ≤ longest_line → AreLines ls → grows_long line (joined_lines ls) ≡ false
lines_grow line [] b h k = not_over (length line) h
lines_grow line (l ∷ ls) b h k =
    let c = k.0 in
    ap (λ (x : List ℕ). grows_long line (x ++ joined_lines ls)) c.is
    ∙ (ap (grows_long line) (append_assoc c.front (10 ∷ []) (joined_lines ls))
    ∙ (next_grows line c.front (joined_lines ls) b c.open_front h (subst (λ (x : List ℕ). length x ≤ longest_line) c.is k.1)
    ∙ (ap (λ (x : List ℕ). grows_long x (joined_lines ls)) (sym c.is) ∙ lines_grow l ls (inr (ap is_ended c.is ∙ ended_at c.front)) k.1 k.2)))

last_same : (ls : List (List ℕ)) → last_with [] ls ≡ last_of ls
last_same [] = refl
last_same (l ∷ []) = refl
last_same (l ∷ m ∷ ls) = last_same (m ∷ ls)

-- a new sink stands for no bytes
pub stands_for_none : StandsFor (record { count = 0; last = [] }) []
stands_for_none = inl (refl, refl)

-- where it stands for lines, none of which is too long, and there aren't too many bytes, it tells their number and the last line
pub tells_lines : (t : Tally) (ls : List (List ℕ)) → AreLines ls → length (joined_lines ls) < 2 ^ 64 → StandsFor t (joined_lines ls) → (t.count ≡ length (joined_lines ls)) × (t.last ≡ last_of ls)
tells_lines t ls k h (inl (a, b)) = (sym a, sym b ∙ (lines_last [] ls (inl refl) k ∙ last_same ls))
tells_lines t ls k h (inr (inl e)) = absurd (cc (sym (lines_grow [] ls (inl refl) (omega arith) k) ∙ e))
tells_lines t ls k h (inr (inr e)) = absurd (omega (arith, e, h))
