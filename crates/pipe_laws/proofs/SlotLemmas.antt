-- Slots over one step. A slot that is set gets the solution's value, so it never spoils one that agrees.
use Rattle.std.proofs.Common.{inl, inr, ◌≡◌, ℕ, ◌<◌, List, [], ◌∷◌, ◌++◌, refl, sym, ap, ◌∙◌, subst, arith}
use Rattle.std.specs.Prelude.{suc, length, map, get_or, set}
use Rattle.std.proofs.lemmas.Bool.{cases_eq}
use Rattle.std.proofs.lemmas.List.{get_or-set_same, get_or-set_other, length-set}
use Rattle.pipe_laws.specs.Slots.{Agree, Within, assign, read, OneStep}

assign_length : (xs vs m : List ℕ) → length (assign xs vs m) ≡ length m
assign_length [] vs m = refl
assign_length (x ∷ xs) [] m = refl
assign_length (x ∷ xs) (v ∷ vs) m = assign_length xs vs (set m x v) ∙ length-set m x v

agree_append : (sol : ℕ → ℕ) (xs ys m : List ℕ) → Agree sol xs m → Agree sol ys m → Agree sol (xs ++ ys) m
agree_append sol [] ys m a b = b
agree_append sol (x ∷ xs) ys m a b = (a.0, agree_append sol xs ys m a.1 b)

agree_left : (sol : ℕ → ℕ) (xs ys m : List ℕ) → Agree sol (xs ++ ys) m → Agree sol xs m
agree_left sol [] ys m a = tt
agree_left sol (x ∷ xs) ys m a = (a.0, agree_left sol xs ys m a.1)

within_left : (xs ys m : List ℕ) → Within (xs ++ ys) m → Within xs m
within_left [] ys m a = tt
within_left (x ∷ xs) ys m a = (a.0, within_left xs ys m a.1)

within_right : (xs ys m : List ℕ) → Within (xs ++ ys) m → Within ys m
within_right [] ys m a = a
within_right (x ∷ xs) ys m a = within_right xs ys m a.1

within_same : (xs m n : List ℕ) → length m ≡ length n → Within xs m → Within xs n
within_same [] m n e a = tt
within_same (x ∷ xs) m n e a = ((let l = a.0 in omega (arith, l, e)), within_same xs m n e a.1)

-- a slot that gets the solution's value
set_keeps : (sol : ℕ → ℕ) (ys m : List ℕ) (x v : ℕ) → x < length m → v ≡ sol x → Agree sol ys m → Agree sol ys (set m x v)
set_keeps sol [] m x v l e a = tt
set_keeps sol (y ∷ ys) m x v l e a = (
  elim (cases_eq y x) [
    | inl s ↦ subst (λ i. get_or (set m x v) i 0 ≡ sol i) (sym s) (get_or-set_same m x v 0 l ∙ e)
    | inr n ↦ get_or-set_other m x y v 0 n ∙ a.0
  ],
  set_keeps sol ys m x v l e a.1,
)

assign_keeps : (sol : ℕ → ℕ) (xs ys m : List ℕ) → Within xs m → Agree sol ys m → Agree sol ys (assign xs (map sol xs) m)
assign_keeps sol [] ys m w a = a
assign_keeps sol (x ∷ xs) ys m w a = assign_keeps sol xs ys (set m x (sol x)) (within_same xs m (set m x (sol x)) (sym (length-set m x (sol x))) w.1) (set_keeps sol ys m x (sol x) w.0 refl a)

assign_sets : (sol : ℕ → ℕ) (xs m : List ℕ) → Within xs m → Agree sol xs (assign xs (map sol xs) m)
assign_sets sol [] m w = tt
assign_sets sol (x ∷ xs) m w =
    let n = within_same xs m (set m x (sol x)) (sym (length-set m x (sol x))) w.1 in
    let one = assign_keeps sol xs (x ∷ []) (set m x (sol x)) n (get_or-set_same m x (sol x) 0 w.0, tt) in
    (one.0, assign_sets sol xs (set m x (sol x)) n)

read_agrees : (sol : ℕ → ℕ) (xs m : List ℕ) → Agree sol xs m → read xs m ≡ map sol xs
read_agrees sol [] m a = refl
read_agrees sol (x ∷ xs) m a = ap (λ v. v ∷ read xs m) a.0 ∙ ap (λ vs. sol x ∷ vs) (read_agrees sol xs m a.1)

pub one_step : OneStep
one_step p sol slots is k m e kept =
    let s = sol k in
    let w = is.within m e in
    let m1 = assign p.carried (map s p.carried) m in
    let l1 = assign_length p.carried (map s p.carried) m in
    let wc = within_left p.carried (p.fed ++ p.kept) m w in
    let wf = within_same p.fed m m1 (sym l1) (within_left p.fed p.kept m (within_right p.carried (p.fed ++ p.kept) m w)) in
    let m2 = assign p.fed (map s p.fed) m1 in
    let l2 = assign_length p.fed (map s p.fed) m1 in
    let a1 = assign_keeps s p.fed p.carried m1 wf (assign_sets s p.carried m wc) in
    let a2 = assign_sets s p.fed m1 wf in
    let a3 = assign_keeps s p.fed p.kept m1 wf (assign_keeps s p.carried p.kept m wc kept) in
    let r = is.runs k m2 (l2 ∙ l1 ∙ e) (agree_append s p.carried (p.fed ++ p.kept) m2 a1 (agree_append s p.fed p.kept m2 a2 a3)) in
    let m3 = p.code m2 in
    let wk = within_right p.fed p.kept m3 (within_right p.carried (p.fed ++ p.kept) m3 (is.within m3 r.0)) in
    let q = read_agrees s p.nexts m3 (is.kept_from k m3 r.1) ∙ sym (is.steps k) in
    (r.1, subst (λ vs. Agree (sol (suc k)) p.kept (assign p.kept vs m3)) (sym q) (assign_sets (sol (suc k)) p.kept m3 wk))
