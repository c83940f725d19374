-- Runs of bytes that pass a test, and lists that are split in two.
use Rattle.std.proofs.Common.{◌≡◌, ℕ, suc, ◌<◌, ◌≤◌, Bool, true, false, List, [], ◌∷◌, ◌++◌, length, take, drop, slice_index, refl, sym, ap, ◌∙◌, arith, one-add, take_at, drop_at}
use Rattle.std.specs.List.{AllPass, prefix_len}
use Rattle.std.proofs.lemmas.List.Elements.{All-head, All-tail}
use Rattle.std.proofs.lemmas.List.Sums.{prefix_len_passes}
use Rattle.std.proofs.lemmas.List.Folds.{length-prefix_len}
use Rattle.std.proofs.lemmas.List.{get_or-take}

-- one more byte that passes, and one that does not
pub prefix_len_yes : (p : ℕ → Bool) (c : ℕ) (cs : List ℕ) → p c ≡ true → prefix_len p (c ∷ cs) ≡ suc (prefix_len p cs)
prefix_len_yes p c cs h = rw h (one-add (prefix_len p cs))

pub prefix_len_no : (p : ℕ → Bool) (c : ℕ) (cs : List ℕ) → p c ≡ false → prefix_len p (c ∷ cs) ≡ 0
prefix_len_no p c cs h = rw h refl

-- the run is of the class
pub run_passes : (p : ℕ → Bool) (text : List ℕ) → AllPass p (take (prefix_len p text) text)
run_passes p text k d h =
    let lt : k < prefix_len p text = rw length-prefix_len at h in
    rw get_or-take (prefix_len_passes p text k d lt)

-- no front of the class is longer than the run
pub run_bound : (p : ℕ → Bool) (front more : List ℕ) → AllPass p front → length front ≤ prefix_len p (front ++ more)
run_bound p [] more h = omega arith
run_bound p (c ∷ cs) more h =
    let here : p c ≡ true = All-head (λ x. p x ≡ true) c cs h in
    let rest = run_bound p cs more (All-tail (λ x. p x ≡ true) c cs h) in
    rw (prefix_len_yes p c (cs ++ more) here) (omega (arith, rest))

pub front_bound : (p : ℕ → Bool) (text front more : List ℕ) → text ≡ front ++ more → AllPass p front → length front ≤ prefix_len p text
front_bound p text front more e h = rw e (run_bound p front more h)

-- lists that are split at one length
pub split_same : (a b c d : List ℕ) → a ++ b ≡ c ++ d → length a ≡ length c → (a ≡ c) × (b ≡ d)
split_same a b c d e l =
    let front : take (length a) (a ++ b) ≡ take (length a) (c ++ d) = ap (take (length a)) e in
    let back : drop (length a) (a ++ b) ≡ drop (length a) (c ++ d) = ap (drop (length a)) e in (
      sym (take_at a b (length a) refl) ∙ front ∙ take_at c d (length a) (sym l),
      sym (drop_at a b (length a) refl) ∙ back ∙ drop_at c d (length a) (sym l),
    )

-- the first byte of a text is that of its front
pub head_of : (text front more : List ℕ) → text ≡ front ++ more → 0 < length front → slice_index front 0 ≡ slice_index text 0
head_of text [] more e h = absurd (omega arith)
head_of text (c ∷ cs) more e h = ap (λ t. slice_index t 0) (sym e)

-- a text that isn't empty has a first byte
pub first_byte : (text : List ℕ) → 0 < length text → (tail : List ℕ) × (text ≡ slice_index text 0 ∷ tail)
first_byte [] h = absurd (omega arith)
first_byte (c ∷ cs) h = (cs, refl)
