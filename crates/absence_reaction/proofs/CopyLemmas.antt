-- The elements of a copy, one more at a time.
use Rattle.std.proofs.Common.{◌≡◌, ℕ, zero, suc, ◌+◌, ◌<◌, List, [], ◌∷◌, ◌++◌, length, drop, get_or, refl, sym, ap, ◌∙◌, arith, append_assoc}
use Rattle.std.proofs.lemmas.List.{drop_more}
use Rattle.aif_cells.specs.declared.reference.Ref.{Ref}
use Rattle.aif_cells.specs.declared.reference.Ref.TheVariants as ref
use Rattle.absence_reaction.specs.declared.copy.VarCopy.{VarCopy}
use Rattle.absence_reaction.specs.declared.copy.Shape.{Shape}
use Rattle.absence_reaction.specs.Closing.{AreBelow, Built, Copy, Element, closed_element, closed_from}

-- a copy behind elements that were closed before
abbrev pub behind : (values flags pending : List Ref) → Copy → Copy
behind vs fs ps c = record { values = vs ++ c.values; flags = fs ++ c.flags; pending = ps ++ c.pending; built = c.built }

pub behind_nothing : (c : Copy) → behind [] [] [] c ≡ c
behind_nothing c = refl

abbrev pub element_before : (k : ℕ) → Element → Copy → Copy
element_before k e c = record { values = ref.Cell k ∷ c.values; flags = e.flag ∷ c.flags; pending = e.pending ∷ c.pending; built = c.built }

append-one : (xs ys : List Ref) (x : Ref) → (xs ++ x ∷ []) ++ ys ≡ xs ++ x ∷ ys
append-one xs ys x = append_assoc xs (x ∷ []) ys

behind_more : (vs fs ps : List Ref) (k : ℕ) (e : Element) (c : Copy) → behind (vs ++ ref.Cell k ∷ []) (fs ++ e.flag ∷ []) (ps ++ e.pending ∷ []) c ≡ behind vs fs ps (element_before k e c)
behind_more vs fs ps k e c i = record {
  values = append-one vs c.values (ref.Cell k) i;
  flags = append-one fs c.flags e.flag i;
  pending = append-one ps c.pending e.pending i;
  built = c.built;
}

-- one element more is closed
pub closed_more : (v : Shape) (c : VarCopy) (j d : ℕ) (ks : List ℕ) (vs fs ps : List Ref) (e : Element) (β : Built) (whole : Copy) → j < length ks
    → behind vs fs ps (closed_from v c j (drop j ks) β) ≡ whole → e ≡ closed_element v c j (get_or ks j d) β
    → behind (vs ++ ref.Cell (get_or ks j d) ∷ []) (fs ++ e.flag ∷ []) (ps ++ e.pending ∷ []) (closed_from v c (j + 1) (drop (j + 1) ks) e.built) ≡ whole
closed_more v c j d ks vs fs ps e β whole h inv made =
    let k : ℕ = get_or ks j d in
    behind_more vs fs ps k e (closed_from v c (j + 1) (drop (j + 1) ks) e.built)
    ∙ ap (λ x. behind vs fs ps (element_before k x (closed_from v c (j + 1) (drop (j + 1) ks) x.built))) made
    ∙ ap (λ l. behind vs fs ps (closed_from v c j l β)) (sym (drop_more ks j d h)) ∙ inv

-- each number of a list below a bound is
pub below_at : (n : ℕ) (ks : List ℕ) (i d : ℕ) → AreBelow n ks → i < length ks → get_or ks i d < n
below_at n [] i d a h = absurd (omega arith)
below_at n (k ∷ ks) zero d a h = a.0
below_at n (k ∷ ks) (suc i) d a h = below_at n ks i d a.1 (omega arith)

pub below_in : (n : ℕ) (ks xs : List ℕ) (i : ℕ) → xs ≡ ks → AreBelow n ks → i < length xs → get_or xs i 0 < n
below_in n ks xs i e a h =
    let f : get_or xs i 0 ≡ get_or ks i 0 = ap (λ l. get_or l i 0) e in
    let g : length xs ≡ length ks = ap length e in
    omega (arith, f, below_at n ks i 0 a (omega arith))
