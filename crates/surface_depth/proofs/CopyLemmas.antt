-- Copies of scopes by the number of their first register, with one more.
use Rattle.std.proofs.Common.{◌≡◌, ℕ, zero, suc, ◌+◌, ◌<◌, Bool, true, false, List, [], ◌∷◌, ◌++◌, length, map, replicate, take, get_or, refl, sym, ap, ◌∙◌, arith}
use Rattle.std.proofs.lemmas.List.{take_more}
use Rattle.std.specs.Prelude.{◌==◌, if◌then◌else◌}
use Rattle.std.proofs.lemmas.Bool.Decides.{nat_tests}
use Rattle.reincarnation.specs.declared.copy.Entered.{Entered}
use Rattle.statement_cells.specs.Builder.{EnteredCopy, DepthCopy}
use Rattle.statement_cells.specs.Whole.{entered_at, depths_at}
use Rattle.statement_builder.specs.declared.builder.DepthCopy.{DepthCopy as CodeCopy}
use Rattle.statement_builder.specs.declared.builder.EnteredCopy.{EnteredCopy as CodeEntered}
use Rattle.statement_builder.specs.Built.{depth_copy, entered_copy}
use Rattle.surface_depth.specs.Lists.{depths_by, entered_by, pushed}
use Rattle.surface_depth.proofs.LabelLemmas.{other}

same : (l m : ℕ) → l ≡ m → (m == l) ≡ true
same l m h = grind (arith, nat_tests, h)

-- ---- copies without store

-- the copies of a number, with one more
one_more_entered : (l : ℕ) (es : List EnteredCopy) (e : EnteredCopy) (b : Bool) → (e.first == l) ≡ b → entered_at l (es ++ e ∷ []) ≡ entered_at l es ++ (if b then e.entered ∷ [] else [])
one_more_entered l [] e b h = ap (λ (q : Bool). if q then e.entered ∷ [] else []) h
one_more_entered l (d ∷ es) e b h = at (d.first == l) (entered_at l (es ++ e ∷ [])) (one_more_entered l es e b h)
  where
    at : (q : Bool) (xs : List Entered) → xs ≡ entered_at l es ++ (if b then e.entered ∷ [] else []) → (if q then d.entered ∷ xs else xs) ≡ (if q then d.entered ∷ entered_at l es else entered_at l es) ++ (if b then e.entered ∷ [] else [])
    at true xs k = ap (λ (ys : List Entered). d.entered ∷ ys) k
    at false xs k = k

append-nil-entered : (xs : List Entered) → xs ++ [] ≡ xs
append-nil-entered [] = refl
append-nil-entered (x ∷ xs) = ap (λ (ys : List Entered). x ∷ ys) (append-nil-entered xs)

-- a copy of a number before the first one changes nothing
entered_below : (n l : ℕ) (es : List EnteredCopy) (e : EnteredCopy) → e.first < l → entered_by l n (es ++ e ∷ []) ≡ entered_by l n es
entered_below zero l es e h = refl
entered_below (suc n) l es e h =
    let f : entered_at l (es ++ e ∷ []) ≡ entered_at l es = one_more_entered l es e false (other l e.first (λ k. omega (arith, h, k))) ∙ append-nil-entered (entered_at l es) in
    ap (λ (xs : List Entered). xs ∷ entered_by (l + 1) n (es ++ e ∷ [])) f ∙ ap (λ (xs : List (List Entered)). entered_at l es ∷ xs) (entered_below n (l + 1) es e (omega (arith, h)))

-- one copy more
pub entered_more : (n l k : ℕ) (es : List EnteredCopy) (e : EnteredCopy) → e.first ≡ l + k → entered_by l n (es ++ e ∷ []) ≡ pushed (entered_by l n es) k e.entered
entered_more zero l k es e h = refl
entered_more (suc n) l zero es e h =
    let f : entered_at l (es ++ e ∷ []) ≡ entered_at l es ++ e.entered ∷ [] = one_more_entered l es e true (same l e.first (omega (arith, h))) in
    ap (λ (xs : List Entered). xs ∷ entered_by (l + 1) n (es ++ e ∷ [])) f ∙ ap (λ (xs : List (List Entered)). (entered_at l es ++ e.entered ∷ []) ∷ xs) (entered_below n (l + 1) es e (omega (arith, h)))
entered_more (suc n) l (suc k) es e h =
    let f : entered_at l (es ++ e ∷ []) ≡ entered_at l es = one_more_entered l es e false (other l e.first (λ m. omega (arith, h, m))) ∙ append-nil-entered (entered_at l es) in
    ap (λ (xs : List Entered). xs ∷ entered_by (l + 1) n (es ++ e ∷ [])) f ∙ ap (λ (xs : List (List Entered)). entered_at l es ∷ xs) (entered_more n (l + 1) k es e (omega (arith, h)))

no_entered : (n l : ℕ) → entered_by l n [] ≡ replicate n []
no_entered zero l = refl
no_entered (suc n) l = ap (λ (xs : List (List Entered)). [] ∷ xs) (no_entered n (l + 1))

pub entered_none : (n l : ℕ) → replicate n [] ≡ entered_by l n []
entered_none n l = sym (no_entered n l)

-- ---- copies with store

-- the copies of a number, with one more
one_more_depths : (l : ℕ) (es : List DepthCopy) (e : DepthCopy) (b : Bool) → (e.first == l) ≡ b → depths_at l (es ++ e ∷ []) ≡ depths_at l es ++ (if b then e ∷ [] else [])
one_more_depths l [] e b h = ap (λ (q : Bool). if q then e ∷ [] else []) h
one_more_depths l (d ∷ es) e b h = at (d.first == l) (depths_at l (es ++ e ∷ [])) (one_more_depths l es e b h)
  where
    at : (q : Bool) (xs : List DepthCopy) → xs ≡ depths_at l es ++ (if b then e ∷ [] else []) → (if q then d ∷ xs else xs) ≡ (if q then d ∷ depths_at l es else depths_at l es) ++ (if b then e ∷ [] else [])
    at true xs k = ap (λ (ys : List DepthCopy). d ∷ ys) k
    at false xs k = k

append-nil-depths : (xs : List DepthCopy) → xs ++ [] ≡ xs
append-nil-depths [] = refl
append-nil-depths (x ∷ xs) = ap (λ (ys : List DepthCopy). x ∷ ys) (append-nil-depths xs)

-- a copy of a number before the first one changes nothing
depths_below : (n l : ℕ) (es : List DepthCopy) (e : DepthCopy) → e.first < l → depths_by l n (es ++ e ∷ []) ≡ depths_by l n es
depths_below zero l es e h = refl
depths_below (suc n) l es e h =
    let f : depths_at l (es ++ e ∷ []) ≡ depths_at l es = one_more_depths l es e false (other l e.first (λ k. omega (arith, h, k))) ∙ append-nil-depths (depths_at l es) in
    ap (λ (xs : List DepthCopy). xs ∷ depths_by (l + 1) n (es ++ e ∷ [])) f ∙ ap (λ (xs : List (List DepthCopy)). depths_at l es ∷ xs) (depths_below n (l + 1) es e (omega (arith, h)))

-- one copy more
pub depths_more : (n l k : ℕ) (es : List DepthCopy) (e : DepthCopy) → e.first ≡ l + k → depths_by l n (es ++ e ∷ []) ≡ pushed (depths_by l n es) k e
depths_more zero l k es e h = refl
depths_more (suc n) l zero es e h =
    let f : depths_at l (es ++ e ∷ []) ≡ depths_at l es ++ e ∷ [] = one_more_depths l es e true (same l e.first (omega (arith, h))) in
    ap (λ (xs : List DepthCopy). xs ∷ depths_by (l + 1) n (es ++ e ∷ [])) f ∙ ap (λ (xs : List (List DepthCopy)). (depths_at l es ++ e ∷ []) ∷ xs) (depths_below n (l + 1) es e (omega (arith, h)))
depths_more (suc n) l (suc k) es e h =
    let f : depths_at l (es ++ e ∷ []) ≡ depths_at l es = one_more_depths l es e false (other l e.first (λ m. omega (arith, h, m))) ∙ append-nil-depths (depths_at l es) in
    ap (λ (xs : List DepthCopy). xs ∷ depths_by (l + 1) n (es ++ e ∷ [])) f ∙ ap (λ (xs : List (List DepthCopy)). depths_at l es ∷ xs) (depths_more n (l + 1) k es e (omega (arith, h)))

-- ---- a loop's step

map_more : {X Y : Type 0} (f : X → Y) (xs : List X) (x : X) → map f (xs ++ x ∷ []) ≡ map f xs ++ f x ∷ []
map_more f [] x = refl
map_more f (y ∷ xs) x = ap (λ (ys : List _). f y ∷ ys) (map_more f xs x)

taken_more : {X Y : Type 0} (f : X → Y) (xs : List X) (i : ℕ) (x : X) → i < length xs → x ≡ get_or xs i x → map f (take (i + 1) xs) ≡ map f (take i xs) ++ f x ∷ []
taken_more f xs i x h e = ap (map f) (take_more xs i x h) ∙ map_more f (take i xs) (get_or xs i x) ∙ ap (λ y. map f (take i xs) ++ f y ∷ []) (sym e)

pub entered_step : (n : ℕ) (cs : List CodeEntered) (i : ℕ) (x : CodeEntered) (e : Entered) (bs after : List (List Entered)) → i < length cs → x ≡ get_or cs i x → e ≡ x.entered
    → bs ≡ entered_by 0 n (map entered_copy (take i cs)) → after ≡ pushed bs x.first e → after ≡ entered_by 0 n (map entered_copy (take (i + 1) cs))
entered_step n cs i x e bs after h is same start step =
    step ∙ ap (λ (ys : List (List Entered)). pushed ys x.first e) start ∙ ap (pushed (entered_by 0 n (map entered_copy (take i cs))) x.first) same
    ∙ sym (entered_more n 0 x.first (map entered_copy (take i cs)) (entered_copy x) (omega arith)) ∙ ap (entered_by 0 n) (sym (taken_more entered_copy cs i x h is))

mapped_pushed : (bs : List (List CodeCopy)) (k : ℕ) (r : CodeCopy) → map (map depth_copy) (pushed bs k r) ≡ pushed (map (map depth_copy) bs) k (depth_copy r)
mapped_pushed [] k r = refl
mapped_pushed (b ∷ bs) zero r = ap (λ (x : List DepthCopy). x ∷ map (map depth_copy) bs) (map_more depth_copy b r)
mapped_pushed (b ∷ bs) (suc k) r = ap (λ (x : List (List DepthCopy)). map depth_copy b ∷ x) (mapped_pushed bs k r)

mapped_none : (n l : ℕ) → map (map depth_copy) (replicate n []) ≡ depths_by l n []
mapped_none zero l = refl
mapped_none (suc n) l = ap (λ (xs : List (List DepthCopy)). [] ∷ xs) (mapped_none n (l + 1))

pub depths_start : (n : ℕ) (bs : List (List CodeCopy)) → bs ≡ replicate n [] → map (map depth_copy) bs ≡ depths_by 0 n []
depths_start n bs e = ap (map (map depth_copy)) e ∙ mapped_none n 0

pub depths_step : (n : ℕ) (cs : List CodeCopy) (i : ℕ) (x d : CodeCopy) (bs after : List (List CodeCopy)) → i < length cs → x ≡ get_or cs i x → d ≡ x
    → map (map depth_copy) bs ≡ depths_by 0 n (map depth_copy (take i cs)) → after ≡ pushed bs x.first d → map (map depth_copy) after ≡ depths_by 0 n (map depth_copy (take (i + 1) cs))
depths_step n cs i x d bs after h is same start step =
    ap (map (map depth_copy)) step ∙ mapped_pushed bs x.first d ∙ ap (λ (ys : List (List DepthCopy)). pushed ys x.first (depth_copy d)) start
    ∙ ap (λ (y : CodeCopy). pushed (depths_by 0 n (map depth_copy (take i cs))) x.first (depth_copy y)) same
    ∙ sym (depths_more n 0 x.first (map depth_copy (take i cs)) (depth_copy x) (omega arith)) ∙ ap (depths_by 0 n) (sym (taken_more depth_copy cs i x h is))
