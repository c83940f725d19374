-- Counting bytes and keeping the last line.
use Rattle.std.proofs.Common.{◌≡◌, ◌<◌, ◌≤◌, ◌+◌, ◌-◌, ◌^◌, ◌⊎◌, inl, inr, ℕ, zero, suc, Bool, true, false, ◌||◌, ◌==◌, List, [], ◌∷◌, ◌++◌, length, take, drop, get_or, min, refl, sym, ap, subst, ◌∙◌, arith, length-append}
use Rattle.std.specs.Prelude.{nat_lt}
use Rattle.std.proofs.lemmas.List.{drop_more}
use Rattle.std.proofs.Math.ListN.{drop_of_length-le}
use Rattle.std.proofs.lemmas.Bool.Decides.{nat_tests}
use Rattle.outside.specs.Bytes.{Gains}
use Rattle.trace_io.specs.Lines.{is_ended}
use Rattle.trace_io.specs.Counting.{Tally, longest_line, line_with, last_line, grows_long, StandsFor}

-- the last byte says whether a line has its LF
pub ended_by : (xs : List ℕ) (n : ℕ) → length xs ≡ suc n → is_ended xs ≡ (get_or xs n 0 == 10)
ended_by [] n h = absurd (omega (arith, h))
ended_by (c ∷ []) zero h = refl
ended_by (c ∷ []) (suc n) h = absurd (omega (arith, h))
ended_by (c ∷ d ∷ xs) zero h = absurd (omega (arith, h))
ended_by (c ∷ d ∷ xs) (suc n) h = ended_by (d ∷ xs) n (omega (arith, h))

pub ended_last : (xs : List ℕ) (b : Bool) → 1 ≤ length xs → b ≡ (get_or xs (length xs - 1) 0 == 10) → b ≡ is_ended xs
ended_last xs b h e = e ∙ sym (ended_by xs (length xs - 1) (omega (arith, h)))

-- where a line is too long already, the bytes behind it make one
long_already : (line bytes : List ℕ) → longest_line < length line → grows_long line bytes ≡ true
long_already line [] h = over (length line) h
  where
    over : (n : ℕ) → longest_line < n → nat_lt longest_line n ≡ true
    over n h = grind (arith, nat_tests)
long_already line (c ∷ cs) h = ap (λ (b : Bool). b || grows_long (line_with line c) cs) (over (length line) h)
  where
    over : (n : ℕ) → longest_line < n → nat_lt longest_line n ≡ true
    over n h = grind (arith, nat_tests)

long_behind : (line : List ℕ) (c : ℕ) (cs : List ℕ) → grows_long (line_with line c) cs ≡ true → grows_long line (c ∷ cs) ≡ true
long_behind line c cs e = ap (λ (b : Bool). nat_lt longest_line (length line) || b) e ∙ always (nat_lt longest_line (length line))
  where
    always : (b : Bool) → (b || true) ≡ true
    always true = refl
    always false = refl

-- what adding bytes came to so far: the last line is that of the bytes left, or it was too long
abbrev pub Kept : (start bytes line rest : List ℕ) → Type 0
Kept start bytes line rest = ((last_line start bytes ≡ last_line line rest) × (grows_long line rest ≡ true → grows_long start bytes ≡ true)) ⊎ (grows_long start bytes ≡ true)

pub kept_more : (start bytes line new : List ℕ) (i : ℕ) → i < length bytes → Kept start bytes line (drop i bytes) → (new ≡ line_with line (get_or bytes i 0)) ⊎ (longest_line < length (line_with line (get_or bytes i 0)))
    → Kept start bytes new (drop (i + 1) bytes)
kept_more start bytes line new i h (inr k) w = inr k
kept_more start bytes line new i h (inl (k, g)) (inl w) =
    inl (
      k ∙ (ap (last_line line) (drop_more bytes i 0 h) ∙ ap (λ (l : List ℕ). last_line l (drop (i + 1) bytes)) (sym w)),
      λ x. g (ap (grows_long line) (drop_more bytes i 0 h) ∙ long_behind line (get_or bytes i 0) (drop (i + 1) bytes) (ap (λ (l : List ℕ). grows_long l (drop (i + 1) bytes)) (sym w) ∙ x)),
    )
kept_more start bytes line new i h (inl (k, g)) (inr w) =
    inr (g (ap (grows_long line) (drop_more bytes i 0 h) ∙ long_behind line (get_or bytes i 0) (drop (i + 1) bytes) (long_already (line_with line (get_or bytes i 0)) (drop (i + 1) bytes) w)))

pub kept_all : (start bytes line : List ℕ) (i : ℕ) → length bytes ≤ i → Kept start bytes line (drop i bytes) → (line ≡ last_line start bytes) ⊎ (grows_long start bytes ≡ true)
kept_all start bytes line i h (inr k) = inr k
kept_all start bytes line i h (inl (k, g)) = inl (sym (k ∙ ap (last_line line) (drop_of_length-le bytes h)))

-- bytes behind bytes
last_append : (line xs ys : List ℕ) → last_line line (xs ++ ys) ≡ last_line (last_line line xs) ys
last_append line [] ys = refl
last_append line (x ∷ xs) ys = last_append (line_with line x) xs ys

long_first : (line xs ys : List ℕ) → grows_long line xs ≡ true → grows_long line (xs ++ ys) ≡ true
long_first line [] ys e = long_already line ys (over (length line) e)
  where
    over : (n : ℕ) → nat_lt longest_line n ≡ true → longest_line < n
    over n e = grind (arith, nat_tests)
long_first line (x ∷ xs) ys e = step (nat_lt longest_line (length line)) e (long_first (line_with line x) xs ys)
  where
    step : (b : Bool) → (b || grows_long (line_with line x) xs) ≡ true → (grows_long (line_with line x) xs ≡ true → grows_long (line_with line x) (xs ++ ys) ≡ true) → (b || grows_long (line_with line x) (xs ++ ys)) ≡ true
    step true e k = refl
    step false e k = k e

long_next : (line xs ys : List ℕ) → grows_long (last_line line xs) ys ≡ true → grows_long line (xs ++ ys) ≡ true
long_next line [] ys e = e
long_next line (x ∷ xs) ys e = long_behind line x (xs ++ ys) (long_next (line_with line x) xs ys e)

-- a tally with a piece more stands for each list with the piece behind it
pub stands_more : (old new : Tally) (piece : List ℕ) → new.count ≡ min (old.count + length piece) (2 ^ 64 - 1) → (new.last ≡ last_line old.last piece) ⊎ (grows_long old.last piece ≡ true)
    → Gains (StandsFor old) (StandsFor new) piece
stands_more old new piece c l bytes (inr (inl g)) = inr (inl (long_first [] bytes piece g))
stands_more old new piece c l bytes (inr (inr g)) = inr (inr (let k : length (bytes ++ piece) ≡ length bytes + length piece = length-append bytes piece in omega (arith, k, g)))
stands_more old new piece c (inr g) bytes (inl (m, e)) = inr (inl (long_next [] bytes piece (ap (λ (x : List ℕ). grows_long x piece) e ∙ g)))
stands_more old new piece c (inl g) bytes (inl (m, e)) =
    let k : length (bytes ++ piece) ≡ length bytes + length piece = length-append bytes piece in
    which (split (length (bytes ++ piece)) (old.count + length piece) (omega (arith, k, m)))
  where
    split : (a b : ℕ) → a ≡ b → (a ≡ min b (2 ^ 64 - 1)) ⊎ (2 ^ 64 - 1 < a)
    split a b h = grind arith

    which : (length (bytes ++ piece) ≡ min (old.count + length piece) (2 ^ 64 - 1)) ⊎ (2 ^ 64 - 1 < length (bytes ++ piece)) → StandsFor new (bytes ++ piece)
    which (inl x) = inl (x ∙ sym c, last_append [] bytes piece ∙ (ap (λ (y : List ℕ). last_line y piece) e ∙ sym g))
    which (inr x) = inr (inr x)

take_all : (xs : List ℕ) → take (length xs) xs ≡ xs
take_all [] = refl
take_all (x ∷ xs) = ap (λ (l : List ℕ). x ∷ l) (take_all xs)

pub gained_whole : (old new : Tally) (piece : List ℕ) → new.count ≡ min (old.count + length piece) (2 ^ 64 - 1) → (new.last ≡ last_line old.last piece) ⊎ (grows_long old.last piece ≡ true)
    → Gains (StandsFor old) (StandsFor new) (take (length piece) piece)
gained_whole old new piece c l = subst (Gains (StandsFor old) (StandsFor new)) (sym (take_all piece)) (stands_more old new piece c l)
