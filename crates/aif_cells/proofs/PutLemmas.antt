-- Puts of a list's items one after another.
use Rattle.std.proofs.Common.{◌≡◌, ℕ, zero, suc, ◌+◌, ◌<◌, List, [], ◌∷◌, ◌++◌, length, take, drop, get_or, refl, sym, ap, ◌∙◌, append_assoc, zero-add, arith}
use Rattle.std.specs.Prelude.{Result, Ok, Err}
use Rattle.std.specs.Result.{IsErr}
use Rattle.std.proofs.lemmas.List.{append-nil, take_more, drop_more, take-append-drop}
use Rattle.outside.specs.Puts.{Puts}
use Rattle.outside.specs.declared.source.Failed.{Failed}
use Rattle.outside.proofs.PutsLemmas.{puts_first, puts_then, puts_same}
use Rattle.aif_cells.specs.Text.{texts}

pub texts-append : {A : Type 0} (f : ℕ → A → List ℕ) (n : ℕ) (xs ys : List A) → texts f n (xs ++ ys) ≡ texts f n xs ++ texts f (n + length xs) ys
texts-append f n [] ys = ap (λ k. texts f k ys) (omega arith)
texts-append f n (x ∷ xs) ys =
    let e : n + 1 + length xs ≡ n + length (x ∷ xs) = omega arith in
    ap (λ l. f n x ++ l) (texts-append f (n + 1) xs ys ∙ ap (λ k. texts f (n + 1) xs ++ texts f k ys) e) ∙ sym (append_assoc (f n x) (texts f (n + 1) xs) (texts f (n + length (x ∷ xs)) ys))

pub length-take_below : {A : Type 0} (i : ℕ) (xs : List A) → i < length xs → length (take i xs) ≡ i
length-take_below zero xs h = refl
length-take_below (suc i) [] h = absurd (omega arith)
length-take_below (suc i) (x ∷ xs) h = let e : length (take i xs) ≡ i = length-take_below i xs (omega arith) in omega (arith, e)

-- one more item
pub texts_more : {A : Type 0} (f : ℕ → A → List ℕ) (xs : List A) (i : ℕ) (d : A) → i < length xs → texts f 0 (take (i + 1) xs) ≡ texts f 0 (take i xs) ++ f i (get_or xs i d)
texts_more f xs i d h =
    ap (texts f 0) (take_more xs i d h) ∙ texts-append f 0 (take i xs) (get_or xs i d ∷ [])
    ∙ ap (λ l. texts f 0 (take i xs) ++ l) (append-nil (f (0 + length (take i xs)) (get_or xs i d)) ∙ ap (λ k. f k (get_or xs i d)) (zero-add (length (take i xs)) ∙ length-take_below i xs h))

-- an item, with those before it and behind it
texts_apart : {A : Type 0} (f : ℕ → A → List ℕ) (xs : List A) (i : ℕ) (d : A) → i < length xs
    → texts f 0 xs ≡ texts f 0 (take i xs) ++ (f i (get_or xs i d) ++ texts f (i + 1) (drop (i + 1) xs))
texts_apart f xs i d h =
    let len : 0 + length (take i xs) ≡ i = zero-add (length (take i xs)) ∙ length-take_below i xs h in
    ap (texts f 0) (sym (take-append-drop i xs)) ∙ texts-append f 0 (take i xs) (drop i xs)
    ∙ ap (λ k. texts f 0 (take i xs) ++ texts f k (drop i xs)) len
    ∙ ap (λ l. texts f 0 (take i xs) ++ texts f i l) (drop_more xs i d h)

-- a loop over a list's items: one more is put
pub puts_more : {S A : Type 0} {stands : S → List ℕ → Type 0} {faults : S → ℕ} {u v : Unit {0}} {before mid after : S} (f : ℕ → A → List ℕ) (xs : List A) (i : ℕ) (d : A) → i < length xs
    → Puts stands faults (Ok u) before mid (texts f 0 (take i xs)) → Puts stands faults (Ok v) mid after (f i (get_or xs i d)) → Puts stands faults (Ok v) before after (texts f 0 (take (i + 1) xs))
puts_more f xs i d h p q = puts_same (sym (texts_more f xs i d h)) (puts_then p q)

-- or a part of it, which is a part of all
pub puts_part : {S A : Type 0} {stands : S → List ℕ → Type 0} {faults : S → ℕ} {u : Unit {0}} {r : Result (Unit {0}) Failed} {e : Failed} {before mid after : S} (f : ℕ → A → List ℕ) (xs : List A) (i : ℕ) (d : A) → i < length xs → IsErr r
    → Puts stands faults (Ok u) before mid (texts f 0 (take i xs)) → Puts stands faults (Err e) mid after (f i (get_or xs i d)) → Puts stands faults r before after (texts f 0 xs)
puts_part f xs i d h k p q = puts_same (sym (texts_apart f xs i d h)) (puts_then p (puts_first (texts f (i + 1) (drop (i + 1) xs)) k q))

-- a fact, with its statement written out
pub the : (X : Type 0) → X → X
the X x = x
