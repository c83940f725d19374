-- One more reserved cell.
use Rattle.std.proofs.Common.{◌≡◌, ◌∙◌, ℕ, zero, suc, ◌+◌, List, [], ◌∷◌, ◌++◌, length, replicate, sym, ap, append_assoc, arith}
use Rattle.std.proofs.lemmas.List.{length-map, length-append, length-replicate, replicate_more}
use Rattle.aif_cells.specs.declared.cells.Cell.{Cell}
use Rattle.aif_cells.specs.Built.{Defined, all_defined, defined}
use Rattle.reincarnation.specs.Entering.{numbers_from}

pub numbers_more : (first n : ℕ) → numbers_from first (n + 1) ≡ numbers_from first n ++ (first + n) ∷ []
numbers_more first zero = let e : first ≡ first + 0 = omega arith in ap (λ (k : ℕ). k ∷ []) e
numbers_more first (suc n) =
    let e : first + 1 + n ≡ first + suc n = omega arith in
    let f : suc n + 1 ≡ suc (n + 1) = omega arith in
    ap (numbers_from first) f ∙ ap (λ (xs : List ℕ). first ∷ xs) (numbers_more (first + 1) n ∙ ap (λ (k : ℕ). numbers_from (first + 1) n ++ k ∷ []) e)

-- how many cells there are behind so many reserved ones
cells_count : (before now : List Cell) (n : ℕ) (d : Defined) → all_defined now ≡ all_defined before ++ replicate n d → length now ≡ length before + n
cells_count before now n d e =
    let a : length (all_defined now) ≡ length now = length-map now defined in
    let b : length (all_defined before) ≡ length before = length-map before defined in
    let c : length (all_defined before ++ replicate n d) ≡ length (all_defined before) + length (replicate n d) = length-append (all_defined before) (replicate n d) in
    let f : length (all_defined now) ≡ length (all_defined before ++ replicate n d) = ap length e in
    omega (arith, a, b, c, f, length-replicate n d)

pub more_numbers : (before now : List Cell) (numbers after : List ℕ) (n number : ℕ) (d : Defined) → numbers ≡ numbers_from (length before) n → all_defined now ≡ all_defined before ++ replicate n d → number ≡ length now → after ≡ numbers ++ number ∷ [] → after ≡ numbers_from (length before) (n + 1)
more_numbers before now numbers after n number d e f g h =
    h ∙ (ap (λ (xs : List ℕ). xs ++ number ∷ []) e ∙ (ap (λ (k : ℕ). numbers_from (length before) n ++ k ∷ []) (g ∙ cells_count before now n d f) ∙ sym (numbers_more (length before) n)))

pub more_cells : (before now after : List Cell) (n : ℕ) (d : Defined) → all_defined now ≡ all_defined before ++ replicate n d → all_defined after ≡ all_defined now ++ d ∷ [] → all_defined after ≡ all_defined before ++ replicate (n + 1) d
more_cells before now after n d e f =
    f ∙ (ap (λ (xs : List Defined). xs ++ d ∷ []) e ∙ (append_assoc (all_defined before) (replicate n d) (d ∷ []) ∙ ap (λ (xs : List Defined). all_defined before ++ xs) (replicate_more n d)))
