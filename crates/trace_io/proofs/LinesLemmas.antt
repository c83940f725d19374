-- Lines at the front of some bytes.
use Rattle.std.proofs.Common.{◌≡◌, ◌<◌, ◌≤◌, ◌+◌, ◌-◌, ℕ, zero, suc, Bool, true, false, ◌||◌, ◌==◌, nat_le, if◌then◌else◌, List, [], ◌∷◌, ◌++◌, length, take, drop, get_or, refl, sym, ap, ap₂, subst, ◌∙◌, arith, append_assoc, length-append}
use Rattle.std.proofs.lemmas.Bool.Decides.{nat_tests}
use Rattle.std.proofs.Math.Seq.{take-nil}
use Rattle.std.proofs.lemmas.List.{take-append-drop, take_more, drop-drop}
use Rattle.trace_io.specs.Lines.{lines, before_first, without_last, is_short, is_ended}
use Rattle.trace_io.specs.Held.{has_line_end, IsClosed, Came, StartsLong}
use Rattle.quartz_expr.proofs.TruthLemmas.{or_parts}

-- a byte that is no LF before some text
other_byte : (c : ℕ) (text : List ℕ) → (c == 10) ≡ false → lines (c ∷ text) ≡ before_first c (lines text)
other_byte c text e = ap (λ (b : Bool). if b then (c ∷ []) ∷ lines text else before_first c (lines text)) e

-- bytes up to an LF are the first line
closed_at : (front rest : List ℕ) → has_line_end front ≡ false → lines (front ++ (10 ∷ rest)) ≡ (front ++ (10 ∷ [])) ∷ lines rest
closed_at [] rest e = refl
closed_at (c ∷ cs) rest e = other_byte c (cs ++ (10 ∷ rest)) (or_parts (c == 10) (has_line_end cs) e).0 ∙ ap (before_first c) (closed_at cs rest (or_parts (c == 10) (has_line_end cs) e).1)

pub closed_front : (line rest : List ℕ) → IsClosed line → lines (line ++ rest) ≡ line ∷ lines rest
closed_front line rest k =
    let e : line ++ rest ≡ k.front ++ (10 ∷ rest) = ap (λ (l : List ℕ). l ++ rest) k.is ∙ append_assoc k.front (10 ∷ []) rest in
    ap lines e ∙ (closed_at k.front rest k.open_front ∙ ap (λ (l : List ℕ). l ∷ lines rest) (sym k.is))

-- bytes without an LF are the only line, or the front of the first one
pub open_alone : (c : ℕ) (cs : List ℕ) → has_line_end (c ∷ cs) ≡ false → lines (c ∷ cs) ≡ (c ∷ cs) ∷ []
open_alone c [] e = other_byte c [] (or_parts (c == 10) false e).0
open_alone c (d ∷ ds) e = other_byte c (d ∷ ds) (or_parts (c == 10) (has_line_end (d ∷ ds)) e).0 ∙ ap (before_first c) (open_alone d ds (or_parts (c == 10) (has_line_end (d ∷ ds)) e).1)

pub record FirstLine (front bytes : List ℕ) : Type 0 where
  pub more : List ℕ
  pub others : List (List ℕ)
  pub is : lines bytes ≡ (front ++ more) ∷ others

before_some : (c : ℕ) (ls : List (List ℕ)) → (more : List ℕ) × (others : List (List ℕ)) × (before_first c ls ≡ (c ∷ more) ∷ others)
before_some c [] = ([], [], refl)
before_some c (l ∷ ls) = (l, ls, refl)

open_front : (c : ℕ) (cs rest : List ℕ) → has_line_end (c ∷ cs) ≡ false → FirstLine (c ∷ cs) ((c ∷ cs) ++ rest)
open_front c [] rest e =
    let (m, o, k) = before_some c (lines rest) in
    record { more = m; others = o; is = other_byte c rest (or_parts (c == 10) false e).0 ∙ k }
open_front c (d ∷ ds) rest e =
    let f = open_front d ds rest (or_parts (c == 10) (has_line_end (d ∷ ds)) e).1 in
    record { more = f.more; others = f.others; is = other_byte c ((d ∷ ds) ++ rest) (or_parts (c == 10) (has_line_end (d ∷ ds)) e).0 ∙ ap (before_first c) f.is }

-- without its LF a line is no shorter than a front without one
long_still : (xs ys : List ℕ) → has_line_end xs ≡ false → length xs ≤ length (without_last 10 (xs ++ ys))
long_still [] ys e = omega arith
long_still (c ∷ []) [] e = subst (λ (b : Bool). 1 ≤ length (if b then [] else c ∷ [])) (sym (or_parts (c == 10) false e).0) (omega arith)
long_still (c ∷ []) (y ∷ ys) e = omega arith
long_still (c ∷ d ∷ xs) ys e = let k : length (d ∷ xs) ≤ length (without_last 10 ((d ∷ xs) ++ ys)) = long_still (d ∷ xs) ys (or_parts (c == 10) (has_line_end (d ∷ xs)) e).1 in omega (arith, k)

pub starts_long : (xs rest bytes : List ℕ) → has_line_end xs ≡ false → 65536 < length xs → xs ++ rest ≡ bytes → StartsLong bytes
starts_long [] rest bytes e h k = absurd (omega (arith, h))
starts_long (c ∷ cs) rest bytes e h k =
    let f = open_front c cs rest e in
    let m = long_still (c ∷ cs) f.more e in
    record { line = (c ∷ cs) ++ f.more; others = f.others; is = ap lines (sym k) ∙ f.is; long = over (length (without_last 10 ((c ∷ cs) ++ f.more))) (omega (arith, m, h)) }
  where
    over : (n : ℕ) → 65536 < n → nat_le n 65536 ≡ false
    over n h = grind (arith, nat_tests)

-- a line isn't longer without its LF
no_longer : (c : ℕ) (xs : List ℕ) → length (without_last c xs) ≤ length xs
no_longer c [] = omega arith
no_longer c (x ∷ []) = step (x == c)
  where
    step : (b : Bool) → length (if b then [] else x ∷ []) ≤ 1
    step true = omega arith
    step false = omega arith
no_longer c (x ∷ y ∷ xs) = let k : length (without_last c (y ∷ xs)) ≤ length (y ∷ xs) = no_longer c (y ∷ xs) in omega (arith, k)

at_most : (n : ℕ) → n ≤ 65536 → nat_le n 65536 ≡ true
at_most n h = grind (arith, nat_tests)

pub short_open : (line : List ℕ) → length line ≤ 65536 → is_short line ≡ true
short_open line h = at_most (length (without_last 10 line)) (let k : length (without_last 10 line) ≤ length line = no_longer 10 line in omega (arith, k, h))

unended_front : (front : List ℕ) → without_last 10 (front ++ (10 ∷ [])) ≡ front
unended_front [] = refl
unended_front (c ∷ []) = refl
unended_front (c ∷ d ∷ cs) = ap (λ (l : List ℕ). c ∷ l) (unended_front (d ∷ cs))

pub short_closed : (line : List ℕ) → IsClosed line → length line ≤ 65537 → is_short line ≡ true
short_closed line k h =
    let e : length line ≡ length k.front + 1 = ap length k.is ∙ length-append k.front (10 ∷ []) in
    ap is_short k.is ∙ (ap (λ (l : List ℕ). nat_le (length l) 65536) (unended_front k.front) ∙ at_most (length k.front) (omega (arith, e, h)))

-- a line with its LF at the end is ended
pub ended_at : (front : List ℕ) → is_ended (front ++ (10 ∷ [])) ≡ true
ended_at [] = refl
ended_at (c ∷ []) = refl
ended_at (c ∷ d ∷ cs) = ended_at (d ∷ cs)

pub closed_ended : (line : List ℕ) → IsClosed line → is_ended line ≡ true
closed_ended line k = ap is_ended k.is ∙ ended_at k.front

-- an LF among bytes one after another
pub line_end_append : (xs ys : List ℕ) → has_line_end (xs ++ ys) ≡ (has_line_end xs || has_line_end ys)
line_end_append [] ys = refl
line_end_append (c ∷ cs) ys = ap (λ (b : Bool). c == 10 || b) (line_end_append cs ys) ∙ grouped (c == 10) (has_line_end cs) (has_line_end ys)
  where
    grouped : (a b d : Bool) → (a || (b || d)) ≡ ((a || b) || d)
    grouped true b d = refl
    grouped false b d = refl

-- a line with one byte more
pub still_open_with : (xs : List ℕ) (c : ℕ) → has_line_end xs ≡ false → ¬ (c ≡ 10) → has_line_end (xs ++ (c ∷ [])) ≡ false
still_open_with xs c e h = line_end_append xs (c ∷ []) ∙ ap₂ (λ (a b : Bool). a || b) e (differs c h)
  where
    differs : (c : ℕ) → ¬ (c ≡ 10) → (c == 10 || false) ≡ false
    differs c h = grind (arith, nat_tests)

-- what a line and the bytes that wait come to stays the same where bytes are moved
pub moved_all : (line bytes new : List ℕ) (n : ℕ) → new ≡ line ++ take n bytes → new ++ drop n bytes ≡ line ++ bytes
moved_all line bytes new n e = ap (λ (l : List ℕ). l ++ drop n bytes) e ∙ (append_assoc line (take n bytes) (drop n bytes) ∙ ap (λ (l : List ℕ). line ++ l) (take-append-drop n bytes))

-- one byte more is added
pub added_more : (line bytes now new : List ℕ) (n : ℕ) → n < length bytes → now ≡ line ++ take n bytes → new ≡ now ++ (get_or bytes n 0 ∷ []) → new ≡ line ++ take (n + 1) bytes
added_more line bytes now new n h e f =
    f ∙ (ap (λ (l : List ℕ). l ++ (get_or bytes n 0 ∷ [])) e ∙ (append_assoc line (take n bytes) (get_or bytes n 0 ∷ []) ∙ ap (λ (l : List ℕ). line ++ l) (sym (take_more bytes n 0 h))))

drop_of_take : (n m : ℕ) (xs : List ℕ) → drop n (take m xs) ≡ take (m - n) (drop n xs)
drop_of_take zero m xs = let e : m ≡ m - 0 = omega arith in ap (λ (k : ℕ). take k xs) e
drop_of_take (suc n) zero xs = let e : 0 ≡ 0 - suc n = omega arith in ap (λ (k : ℕ). take k (drop (suc n) xs)) e
drop_of_take (suc n) (suc m) [] = sym (take-nil (suc m - suc n))
drop_of_take (suc n) (suc m) (x ∷ xs) = let e : m - n ≡ suc m - suc n = omega arith in drop_of_take n m xs ∙ ap (λ (k : ℕ). take k (drop n xs)) e

-- what waits behind the first n of the bytes that waited
rest_waits : (chunk : List ℕ) (at upto n : ℕ) → drop n (take (upto - at) (drop at chunk)) ≡ take (upto - (at + n)) (drop (at + n) chunk)
rest_waits chunk at upto n = drop_of_take n (upto - at) (drop at chunk) ∙ ap₂ (λ (m : ℕ) (l : List ℕ). take m l) (fewer at upto n) (drop-drop n at chunk)
  where
    fewer : (a u n : ℕ) → u - a - n ≡ u - (a + n)
    fewer a u n = omega arith

pub kept_waiting : (chunk bytes line new : List ℕ) (at upto n : ℕ) → bytes ≡ chunk → new ≡ line ++ take n (take (upto - at) (drop at bytes))
    → new ++ take (upto - (at + n)) (drop (at + n) chunk) ≡ line ++ take (upto - at) (drop at chunk)
kept_waiting chunk bytes line new at upto n b e =
    ap (λ (l : List ℕ). new ++ l) (sym (rest_waits chunk at upto n)) ∙ moved_all line (take (upto - at) (drop at chunk)) new n (e ∙ ap (λ (l : List ℕ). line ++ take n (take (upto - at) (drop at l))) b)

pub came_waiting : (chunk bytes new : List ℕ) (at upto n : ℕ) (closes : Bool) → bytes ≡ chunk → Came closes new (drop n (take (upto - at) (drop at bytes))) → Came closes new (take (upto - (at + n)) (drop (at + n) chunk))
came_waiting chunk bytes new at upto n closes b k = subst (Came closes new) (ap (λ (l : List ℕ). drop n (take (upto - at) (drop at l))) b ∙ rest_waits chunk at upto n) k
