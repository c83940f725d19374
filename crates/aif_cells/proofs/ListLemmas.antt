-- Lines of inputs and outputs, numbers that count up, and closing parentheses, one more at a time.
use Rattle.std.proofs.Common.{◌≡◌, ℕ, zero, suc, ◌+◌, ◌-◌, ◌<◌, ◌≤◌, List, [], ◌∷◌, ◌++◌, length, take, drop, get_or, refl, sym, ap, ◌∙◌, append_assoc, zero-add, arith}
use Rattle.std.specs.Prelude.{codes, decimal, min}
use Rattle.std.proofs.lemmas.List.{append-nil, take_more, drop_more, take-append-drop}
use Rattle.quartz_tree.specs.declared.declare.Var.{Var}
use Rattle.aif_cells.specs.Aif.{input_elements, output_elements, input_count, output_count}
use Rattle.aif_cells.specs.Text.{counted_from, input_lines, input_text, number_text, output_lines, output_text, texts}
use Rattle.aif_cells.specs.Put.{closes}
use Rattle.aif_cells.proofs.PutLemmas.{texts-append, length-take_below}

-- ---- numbers that count up

counted_split : (n i c : ℕ) → i ≤ c → counted_from n c ≡ counted_from n i ++ counted_from (n + i) (c - i)
counted_split n zero c h = let a : n ≡ n + 0 = omega arith in let b : c ≡ c - 0 = omega arith in ap (λ k. counted_from k c) a ∙ ap (counted_from (n + 0)) b
counted_split n (suc i) zero h = absurd (omega arith)
counted_split n (suc i) (suc c) h =
    let a : n + 1 + i ≡ n + suc i = omega arith in
    let b : c - i ≡ suc c - suc i = omega arith in
    ap (λ l. n ∷ l) (counted_split (n + 1) i c (omega arith) ∙ ap (λ k. counted_from (n + 1) i ++ counted_from k (c - i)) a ∙ ap (λ k. counted_from (n + 1) i ++ counted_from (n + suc i) k) b)

pub counted_more : (w : List ℕ) (n i : ℕ) → texts (number_text w) 0 (counted_from n (i + 1)) ≡ texts (number_text w) 0 (counted_from n i) ++ (w ++ decimal (n + i))
counted_more w n i =
    let one : i + 1 - i ≡ 1 = omega arith in
    ap (texts (number_text w) 0) (counted_split n i (i + 1) (omega arith) ∙ ap (λ k. counted_from n i ++ counted_from (n + i) k) one)
    ∙ texts-append (number_text w) 0 (counted_from n i) ((n + i) ∷ []) ∙ ap (λ l. texts (number_text w) 0 (counted_from n i) ++ l) (append-nil (w ++ decimal (n + i)))

pub counted_apart : (w : List ℕ) (n i c : ℕ) → i < c → texts (number_text w) 0 (counted_from n c)
    ≡ (texts (number_text w) 0 (counted_from n i) ++ (w ++ decimal (n + i))) ++ texts (number_text w) (0 + length (counted_from n (i + 1))) (counted_from (n + (i + 1)) (c - (i + 1)))
counted_apart w n i c h =
    ap (texts (number_text w) 0) (counted_split n (i + 1) c (omega arith)) ∙ texts-append (number_text w) 0 (counted_from n (i + 1)) (counted_from (n + (i + 1)) (c - (i + 1)))
    ∙ ap (λ l. l ++ texts (number_text w) (0 + length (counted_from n (i + 1))) (counted_from (n + (i + 1)) (c - (i + 1)))) (counted_more w n i)

-- ---- closing parentheses

closes_add : (n m : ℕ) → closes n ++ closes m ≡ closes (n + m)
closes_add zero m = ap closes (sym (zero-add m))
closes_add (suc n) m = let e : suc (n + m) ≡ suc n + m = omega arith in let f : List ℕ → List ℕ = λ l. 41 ∷ l in ap f (closes_add n m) ∙ ap closes e

pub closes_more : (n : ℕ) → closes (n + 1) ≡ closes n ++ codes ")"
closes_more n = sym (closes_add n 1)

pub closes_apart : (n c : ℕ) → n < c → closes c ≡ (closes n ++ codes ")") ++ closes (c - (n + 1))
closes_apart n c h =
    let e : c ≡ n + 1 + (c - (n + 1)) = omega arith in
    ap closes e ∙ sym (closes_add (n + 1) (c - (n + 1))) ∙ ap (λ l. l ++ closes (c - (n + 1))) (closes_more n)

-- ---- inputs

input_lines-append : (n f : ℕ) (xs ys : List Var) → input_lines n f (xs ++ ys) ≡ input_lines n f xs ++ input_lines (n + length xs) (f + input_count xs) ys
input_lines-append n f [] ys = let a : n ≡ n + 0 = omega arith in let b : f ≡ f + 0 = omega arith in ap (λ k. input_lines k f ys) a ∙ ap (λ k. input_lines (n + 0) k ys) b
input_lines-append n f (x ∷ xs) ys =
    let a : n + 1 + length xs ≡ n + length (x ∷ xs) = omega arith in
    let b : f + input_elements x + input_count xs ≡ f + input_count (x ∷ xs) = omega arith in
    ap (λ l. input_text n f x ++ l) (input_lines-append (n + 1) (f + input_elements x) xs ys
    ∙ ap (λ k. input_lines (n + 1) (f + input_elements x) xs ++ input_lines k (f + input_elements x + input_count xs) ys) a
    ∙ ap (λ k. input_lines (n + 1) (f + input_elements x) xs ++ input_lines (n + length (x ∷ xs)) k ys) b)
    ∙ sym (append_assoc (input_text n f x) (input_lines (n + 1) (f + input_elements x) xs) (input_lines (n + length (x ∷ xs)) (f + input_count (x ∷ xs)) ys))

input_count-append : (xs ys : List Var) → input_count (xs ++ ys) ≡ input_count xs + input_count ys
input_count-append [] ys = omega arith
input_count-append (x ∷ xs) ys = let e : input_count (xs ++ ys) ≡ input_count xs + input_count ys = input_count-append xs ys in omega (arith, e)

pub input_count_more : (xs : List Var) (i : ℕ) (d : Var) → i < length xs → input_count (take (i + 1) xs) ≡ input_count (take i xs) + input_elements (get_or xs i d)
input_count_more xs i d h =
    let e : input_elements (get_or xs i d) + 0 ≡ input_elements (get_or xs i d) = omega arith in
    ap input_count (take_more xs i d h) ∙ input_count-append (take i xs) (get_or xs i d ∷ []) ∙ ap (λ k. input_count (take i xs) + k) e

-- an input's elements, with those before it, are among all
pub input_count_within : (xs : List Var) (i : ℕ) (d : Var) → i < length xs → input_count (take i xs) + input_elements (get_or xs i d) ≤ input_count xs
input_count_within xs i d h =
    let e : input_count (take i xs ++ drop i xs) ≡ input_count (take i xs) + input_count (drop i xs) = input_count-append (take i xs) (drop i xs) in
    let f : input_count (drop i xs) ≡ input_elements (get_or xs i d) + input_count (drop (i + 1) xs) = ap input_count (drop_more xs i d h) in
    let k : input_count (take i xs ++ drop i xs) ≡ input_count xs = ap input_count (take-append-drop i xs) in
    omega (arith, e, f, k)

pub input_lines_more : (xs : List Var) (i : ℕ) (d : Var) → i < length xs → input_lines 0 0 (take (i + 1) xs) ≡ input_lines 0 0 (take i xs) ++ input_text i (input_count (take i xs)) (get_or xs i d)
input_lines_more xs i d h =
    let a : 0 + length (take i xs) ≡ i = zero-add (length (take i xs)) ∙ length-take_below i xs h in
    let b : 0 + input_count (take i xs) ≡ input_count (take i xs) = omega arith in
    ap (input_lines 0 0) (take_more xs i d h) ∙ input_lines-append 0 0 (take i xs) (get_or xs i d ∷ [])
    ∙ ap (λ l. input_lines 0 0 (take i xs) ++ l) (append-nil (input_text (0 + length (take i xs)) (0 + input_count (take i xs)) (get_or xs i d))
    ∙ ap (λ k. input_text k (0 + input_count (take i xs)) (get_or xs i d)) a ∙ ap (λ k. input_text i k (get_or xs i d)) b)

pub input_lines_apart : (xs : List Var) (i : ℕ) (d : Var) → i < length xs → input_lines 0 0 xs
    ≡ (input_lines 0 0 (take i xs) ++ input_text i (input_count (take i xs)) (get_or xs i d)) ++ input_lines (0 + length (take (i + 1) xs)) (0 + input_count (take (i + 1) xs)) (drop (i + 1) xs)
input_lines_apart xs i d h =
    ap (input_lines 0 0) (sym (take-append-drop (i + 1) xs)) ∙ input_lines-append 0 0 (take (i + 1) xs) (drop (i + 1) xs)
    ∙ ap (λ l. l ++ input_lines (0 + length (take (i + 1) xs)) (0 + input_count (take (i + 1) xs)) (drop (i + 1) xs)) (input_lines_more xs i d h)

-- ---- outputs

drop-nil : (n : ℕ) → drop {A = ℕ} n [] ≡ []
drop-nil zero = refl
drop-nil (suc n) = refl

drop-drop : (a b : ℕ) (l : List ℕ) → drop b (drop a l) ≡ drop (a + b) l
drop-drop zero b l = ap (λ k. drop k l) (sym (zero-add b))
drop-drop (suc a) b [] = drop-nil b ∙ sym (drop-nil (suc a + b))
drop-drop (suc a) b (x ∷ l) = let e : suc (a + b) ≡ suc a + b = omega arith in drop-drop a b l ∙ ap (λ k. drop k (x ∷ l)) e

output_lines-append : (n : ℕ) (cs : List ℕ) (xs ys : List Var) → output_lines n cs (xs ++ ys) ≡ output_lines n cs xs ++ output_lines (n + length xs) (drop (output_count xs) cs) ys
output_lines-append n cs [] ys = let a : n ≡ n + 0 = omega arith in ap (λ k. output_lines k cs ys) a
output_lines-append n cs (x ∷ xs) ys =
    let a : n + 1 + length xs ≡ n + length (x ∷ xs) = omega arith in
    let rest : List ℕ = drop (output_elements x) cs in
    ap (λ l. output_text n cs x ++ l) (output_lines-append (n + 1) rest xs ys
    ∙ ap (λ k. output_lines (n + 1) rest xs ++ output_lines k (drop (output_count xs) rest) ys) a
    ∙ ap (λ l. output_lines (n + 1) rest xs ++ output_lines (n + length (x ∷ xs)) l ys) (drop-drop (output_elements x) (output_count xs) cs))
    ∙ sym (append_assoc (output_text n cs x) (output_lines (n + 1) rest xs) (output_lines (n + length (x ∷ xs)) (drop (output_count (x ∷ xs)) cs) ys))

output_count-append : (xs ys : List Var) → output_count (xs ++ ys) ≡ output_count xs + output_count ys
output_count-append [] ys = omega arith
output_count-append (x ∷ xs) ys = let e : output_count (xs ++ ys) ≡ output_count xs + output_count ys = output_count-append xs ys in omega (arith, e)

output_count_more : (xs : List Var) (i : ℕ) (d : Var) → i < length xs → output_count (take (i + 1) xs) ≡ output_count (take i xs) + output_elements (get_or xs i d)
output_count_more xs i d h =
    let e : output_elements (get_or xs i d) + 0 ≡ output_elements (get_or xs i d) = omega arith in
    ap output_count (take_more xs i d h) ∙ output_count-append (take i xs) (get_or xs i d ∷ []) ∙ ap (λ k. output_count (take i xs) + k) e

-- what is left behind as many as there are is what is left behind so many
pub drop_min : (n : ℕ) (l : List ℕ) → drop (min n (length l)) l ≡ drop n l
drop_min n [] = drop-nil (min n 0) ∙ sym (drop-nil n)
drop_min zero (x ∷ l) = let e : min zero (length (x ∷ l)) ≡ zero = omega arith in ap (λ k. drop k (x ∷ l)) e
drop_min (suc n) (x ∷ l) = let e : min (suc n) (length (x ∷ l)) ≡ suc (min n (length l)) = omega arith in ap (λ k. drop k (x ∷ l)) e ∙ drop_min n l

take-nil : (n : ℕ) → take {A = ℕ} n [] ≡ []
take-nil zero = refl
take-nil (suc n) = refl

pub take_min : (n : ℕ) (l : List ℕ) → take (min n (length l)) l ≡ take n l
take_min n [] = take-nil (min n 0) ∙ sym (take-nil n)
take_min zero (x ∷ l) = let e : min zero (length (x ∷ l)) ≡ zero = omega arith in ap (λ k. take k (x ∷ l)) e
take_min (suc n) (x ∷ l) = let e : min (suc n) (length (x ∷ l)) ≡ suc (min n (length l)) = omega arith in ap (λ k. take k (x ∷ l)) e ∙ ap (λ m. x ∷ m) (take_min n l)

pub output_lines_more : (cs : List ℕ) (xs : List Var) (i : ℕ) (d : Var) → i < length xs → output_lines 0 cs (take (i + 1) xs) ≡ output_lines 0 cs (take i xs) ++ output_text i (drop (output_count (take i xs)) cs) (get_or xs i d)
output_lines_more cs xs i d h =
    let a : 0 + length (take i xs) ≡ i = zero-add (length (take i xs)) ∙ length-take_below i xs h in
    let left : List ℕ = drop (output_count (take i xs)) cs in
    ap (output_lines 0 cs) (take_more xs i d h) ∙ output_lines-append 0 cs (take i xs) (get_or xs i d ∷ [])
    ∙ ap (λ l. output_lines 0 cs (take i xs) ++ l) (append-nil (output_text (0 + length (take i xs)) left (get_or xs i d)) ∙ ap (λ k. output_text k left (get_or xs i d)) a)

pub output_lines_apart : (cs : List ℕ) (xs : List Var) (i : ℕ) (d : Var) → i < length xs → output_lines 0 cs xs
    ≡ (output_lines 0 cs (take i xs) ++ output_text i (drop (output_count (take i xs)) cs) (get_or xs i d)) ++ output_lines (0 + length (take (i + 1) xs)) (drop (output_count (take (i + 1) xs)) cs) (drop (i + 1) xs)
output_lines_apart cs xs i d h =
    ap (output_lines 0 cs) (sym (take-append-drop (i + 1) xs)) ∙ output_lines-append 0 cs (take (i + 1) xs) (drop (i + 1) xs)
    ∙ ap (λ l. l ++ output_lines (0 + length (take (i + 1) xs)) (drop (output_count (take (i + 1) xs)) cs) (drop (i + 1) xs)) (output_lines_more cs xs i d h)

-- the elements of one more input have numbers below the number of all
pub within_inputs : (xs : List Var) (i : ℕ) (x : Var) (first : ℕ) → i < length xs → x ≡ get_or xs i x → first ≡ input_count (take i xs) → first + input_elements x ≤ input_count xs
within_inputs xs i x first h e f = let k : input_elements x ≡ input_elements (get_or xs i x) = ap input_elements e in omega (arith, k, f, input_count_within xs i x h)

pub counted_on : (xs : List Var) (i : ℕ) (x : Var) (first n : ℕ) → i < length xs → x ≡ get_or xs i x → first ≡ input_count (take i xs) → n ≡ input_elements x → first + n ≡ input_count (take (i + 1) xs)
counted_on xs i x first n h e f m = let k : input_elements x ≡ input_elements (get_or xs i x) = ap input_elements e in omega (arith, k, f, m, input_count_more xs i x h)

-- the text of an input, by the numbers that the loop keeps
pub input_text_is : (xs : List Var) (i : ℕ) (x : Var) (first : ℕ) → x ≡ get_or xs i x → first ≡ input_count (take i xs) → input_text i first x ≡ input_text i (input_count (take i xs)) (get_or xs i x)
input_text_is xs i x first e f = ap (λ k. input_text i k x) f ∙ ap (input_text i (input_count (take i xs))) e

pub output_text_is : (cs left : List ℕ) (xs : List Var) (i : ℕ) (x : Var) → x ≡ get_or xs i x → left ≡ drop (output_count (take i xs)) cs → output_text i left x ≡ output_text i (drop (output_count (take i xs)) cs) (get_or xs i x)
output_text_is cs left xs i x e f = ap (λ l. output_text i l x) f ∙ ap (output_text i (drop (output_count (take i xs)) cs)) e

pub left_on : (cs left after : List ℕ) (xs : List Var) (i : ℕ) (x : Var) (n : ℕ) → i < length xs → x ≡ get_or xs i x → left ≡ drop (output_count (take i xs)) cs → n ≡ output_elements x → after ≡ drop n left → after ≡ drop (output_count (take (i + 1) xs)) cs
left_on cs left after xs i x n h e f m k =
    k ∙ ap (drop n) f ∙ drop-drop (output_count (take i xs)) n cs
    ∙ ap (λ j. drop (output_count (take i xs) + j) cs) (m ∙ ap output_elements e) ∙ ap (λ j. drop j cs) (sym (output_count_more xs i x h))
