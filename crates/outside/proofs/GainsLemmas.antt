-- Gains one after another.
use Rattle.std.proofs.Common.{◌≡◌, ◌<◌, ℕ, zero, suc, ◌+◌, List, [], ◌∷◌, ◌++◌, length, take, drop, refl, sym, ap, ◌∙◌, subst, append_assoc, arith}
use Rattle.std.proofs.Math.Seq.{take-add}
use Rattle.outside.specs.Bytes.{Gains, GainsBegun, StillStands}

-- a prefix and then some of what follows it
pub gains_more : (before mid after : List ℕ → Type 0) (piece : List ℕ) (at n : ℕ) → Gains before mid (take at piece) → Gains mid after (take n (drop at piece)) → Gains before after (take (at + n) piece)
gains_more before mid after piece at n g k bs h =
    subst after (append_assoc bs (take at piece) (take n (drop at piece)) ∙ ap (λ l. bs ++ l) (sym (take-add at n piece))) (k (bs ++ take at piece) (g bs h))

-- two pieces
pub gains_both : (before mid after : List ℕ → Type 0) (xs ys : List ℕ) → Gains before mid xs → Gains mid after ys → Gains before after (xs ++ ys)
gains_both before mid after xs ys g k bs h = subst after (append_assoc bs xs ys) (k (bs ++ xs) (g bs h))

-- a failure takes nothing
pub gains_still : (before mid after : List ℕ → Type 0) (xs : List ℕ) → Gains before mid xs → StillStands mid after → Gains before after xs
gains_still before mid after xs g s bs h = s (bs ++ xs) (g bs h)

take_first : (n : ℕ) (xs ys : List ℕ) → n < length xs → take n (xs ++ ys) ≡ take n xs
take_first n [] ys h = absurd (omega (arith, h))
take_first zero (x ∷ xs) ys h = refl
take_first (suc n) (x ∷ xs) ys h = ap (λ (l : List ℕ). x ∷ l) (take_first n xs ys (omega (arith, h)))

shorter_first : (n : ℕ) (xs ys : List ℕ) → n < length xs → n < length (xs ++ ys)
shorter_first n [] ys h = absurd (omega (arith, h))
shorter_first zero (x ∷ xs) ys h = omega arith
shorter_first (suc n) (x ∷ xs) ys h = let k : n < length (xs ++ ys) = shorter_first n xs ys (omega (arith, h)) in omega (arith, k)

take_behind : (n : ℕ) (xs ys : List ℕ) → take (length xs + n) (xs ++ ys) ≡ xs ++ take n ys
take_behind n [] ys =
    let e : 0 + n ≡ n = omega arith in
    ap (λ (m : ℕ). take m ys) e
take_behind n (x ∷ xs) ys =
    let e : suc (length xs) + n ≡ suc (length xs + n) = omega arith in
    ap (λ (m : ℕ). take m (x ∷ (xs ++ ys))) e ∙ ap (λ (l : List ℕ). x ∷ l) (take_behind n xs ys)

shorter_behind : (n : ℕ) (xs ys : List ℕ) → n < length ys → length xs + n < length (xs ++ ys)
shorter_behind n [] ys h = omega (arith, h)
shorter_behind n (x ∷ xs) ys h = let k : length xs + n < length (xs ++ ys) = shorter_behind n xs ys h in omega (arith, k)

-- a piece that was not put whole, with more to come
pub begun_first : (before after : List ℕ → Type 0) (xs ys : List ℕ) → GainsBegun before after xs → GainsBegun before after (xs ++ ys)
begun_first before after xs ys (n, h, g) = (n, shorter_first n xs ys h, subst (Gains before after) (sym (take_first n xs ys h)) g)

-- and one behind a piece that was
pub begun_next : (before mid after : List ℕ → Type 0) (xs ys : List ℕ) → Gains before mid xs → GainsBegun mid after ys → GainsBegun before after (xs ++ ys)
begun_next before mid after xs ys g (n, h, k) =
    (length xs + n, shorter_behind n xs ys h, subst (Gains before after) (sym (take_behind n xs ys)) (gains_both before mid after xs (take n ys) g k))
