-- Labels whose ways part at a step that isn't a parallel's are never both 1.
use Rattle.std.proofs.Common.{◌≡◌, ◌⊎◌, inl, inr, ℕ, zero, suc, ◌+◌, ◌<◌, ◌≤◌, ◌==◌, Bool, true, false, not, ◌&&◌, List, [], ◌∷◌, ◌++◌, length, Some, refl, sym, ap, ap₂, ◌∙◌, arith, append-nil, append_assoc, length-append}
use Rattle.std.specs.Prelude.{slice_get, if◌then◌else◌}
use Rattle.std.proofs.lemmas.Bool.Decides.{nat_tests}
use Rattle.std.proofs.lemmas.Option.{slice_get_within}
use Rattle.quartz_expr.specs.Terms.{Term, nothing, pause, write, choose, seq, par, loop, abort, suspend, scope, Terms, none, part}
use Rattle.statement_cells.specs.Labels.{labels, labels_all}
use Rattle.statement_cells.specs.Stands.{Marks, some, AtOne, AtOneInTurn, AtOneEach}
use Rattle.statement_cells.specs.Whole.{Step, one_step, paths, paths_all}
use Rattle.statement_cells.proofs.MarkLemmas.{free_at}
use Rattle.write_conflicts.specs.Clash.{are_apart, same_step}
use Rattle.quartz_expr.proofs.TruthLemmas.{and_intro}

-- ---- items of two lists

pub some_same : {A : Type 0} {x y : A} → Some x ≡ Some y → x ≡ y
some_same e = cc

get_split : {A : Type 0} (xs ys : List A) (i : ℕ) (p : A) → slice_get (xs ++ ys) i ≡ Some p → (slice_get xs i ≡ Some p) ⊎ ((k : ℕ) × (i ≡ length xs + k) × (slice_get ys k ≡ Some p))
get_split [] ys i p e = inr (i, omega arith, e)
get_split (x ∷ xs) ys zero p e = inl e
get_split (x ∷ xs) ys (suc i) p e = by (get_split xs ys i p e)
  where
    by : (slice_get xs i ≡ Some p) ⊎ ((k : ℕ) × (i ≡ length xs + k) × (slice_get ys k ≡ Some p)) → (slice_get xs i ≡ Some p) ⊎ ((k : ℕ) × (suc i ≡ suc (length xs) + k) × (slice_get ys k ≡ Some p))
    by (inl h) = inl h
    by (inr (k, f, h)) = inr (k, omega (arith, f), h)

-- ---- the paths of a statement

mutual
  pub count_paths : (t : Term) (front : List Step) → length (paths front t) ≡ labels t
  count_paths nothing front = refl
  count_paths pause front = refl
  count_paths (write x i e d p q) front = refl
  count_paths (choose c a b) front = length-append (paths (one_step front false 0) a) (paths (one_step front false 1) b) ∙ ap₂ (λ x y. x + y) (count_paths a (one_step front false 0)) (count_paths b (one_step front false 1))
  count_paths (seq ts) front = count_all ts front false 0
  count_paths (par ts) front = count_all ts front true 0
  count_paths (loop t c) front = count_paths t (one_step front false 0)
  count_paths (abort w i t c) front = count_paths t (one_step front false 0)
  count_paths (suspend w true t c) front = ap suc (count_paths t (one_step front false 1))
  count_paths (suspend w false t c) front = count_paths t (one_step front false 1)
  count_paths (scope x s t) front = count_paths t (one_step front false 0)

  count_all : (ts : Terms) (front : List Step) (b : Bool) (n : ℕ) → length (paths_all front b n ts) ≡ labels_all ts
  count_all none front b n = refl
  count_all (part t ts) front b n = length-append (paths (one_step front b n) t) (paths_all front b (n + 1) ts) ∙ ap₂ (λ x y. x + y) (count_paths t (one_step front b n)) (count_all ts front b (n + 1))

-- the path goes on from that way
abbrev Under : List Step → List Step → Type 0
Under front p = (more : List Step) × (p ≡ front ++ more)

under_step : (front : List Step) (b : Bool) (n : ℕ) (p : List Step) → Under (one_step front b n) p → Under front p
under_step front b n p (more, e) = ((b, n) ∷ more, e ∙ append_assoc front ((b, n) ∷ []) more)

mutual
  under : (t : Term) (front : List Step) (i : ℕ) (p : List Step) → slice_get (paths front t) i ≡ Some p → Under front p
  under nothing front i p e = absurd (cc)
  under pause front zero p e = ([], sym (some_same e) ∙ sym (append-nil front))
  under pause front (suc i) p e = absurd (cc)
  under (write x j f d u w) front i p e = absurd (cc)
  under (choose c a b) front i p e = by (get_split (paths (one_step front false 0) a) (paths (one_step front false 1) b) i p e) (under a (one_step front false 0) i p) (λ k. under b (one_step front false 1) k p)
    where
      by : (slice_get (paths (one_step front false 0) a) i ≡ Some p) ⊎ ((k : ℕ) × (i ≡ length (paths (one_step front false 0) a) + k) × (slice_get (paths (one_step front false 1) b) k ≡ Some p))
          → (slice_get (paths (one_step front false 0) a) i ≡ Some p → Under (one_step front false 0) p) → ((k : ℕ) → slice_get (paths (one_step front false 1) b) k ≡ Some p → Under (one_step front false 1) p) → Under front p
      by (inl h) left right = under_step front false 0 p (left h)
      by (inr (k, f, h)) left right = under_step front false 1 p (right k h)
  under (seq ts) front i p e = let u = under_all ts front false 0 i p e in under_step front false u.0 p u.2
  under (par ts) front i p e = let u = under_all ts front true 0 i p e in under_step front true u.0 p u.2
  under (loop t c) front i p e = under_step front false 0 p (under t (one_step front false 0) i p e)
  under (abort w j t c) front i p e = under_step front false 0 p (under t (one_step front false 0) i p e)
  under (suspend w true t c) front zero p e = under_step front false 0 p ([], sym (some_same e) ∙ sym (append-nil (one_step front false 0)))
  under (suspend w true t c) front (suc i) p e = under_step front false 1 p (under t (one_step front false 1) i p e)
  under (suspend w false t c) front i p e = under_step front false 1 p (under t (one_step front false 1) i p e)
  under (scope x s t) front i p e = under_step front false 0 p (under t (one_step front false 0) i p e)

  under_all : (ts : Terms) (front : List Step) (b : Bool) (n i : ℕ) (p : List Step) → slice_get (paths_all front b n ts) i ≡ Some p → (k : ℕ) × (n ≤ k) × Under (one_step front b k) p
  under_all none front b n i p e = absurd (cc)
  under_all (part t ts) front b n i p e = by (get_split (paths (one_step front b n) t) (paths_all front b (n + 1) ts) i p e) (under t (one_step front b n) i p) (λ k. under_all ts front b (n + 1) k p)
    where
      by : (slice_get (paths (one_step front b n) t) i ≡ Some p) ⊎ ((k : ℕ) × (i ≡ length (paths (one_step front b n) t) + k) × (slice_get (paths_all front b (n + 1) ts) k ≡ Some p))
          → (slice_get (paths (one_step front b n) t) i ≡ Some p → Under (one_step front b n) p)
          → ((k : ℕ) → slice_get (paths_all front b (n + 1) ts) k ≡ Some p → (j : ℕ) × (n + 1 ≤ j) × Under (one_step front b j) p) → (k : ℕ) × (n ≤ k) × Under (one_step front b k) p
      by (inl h) left right = (n, omega arith, left h)
      by (inr (k, f, h)) left right = let u = right k h in let le = u.1 in (u.0, omega (arith, le), u.2)

-- ---- where ways part

same_self : (s : Step) → same_step s s ≡ true
same_self (true, n) = grind (arith, nat_tests)
same_self (false, n) = grind (arith, nat_tests)

same_front : (front p q : List Step) → are_apart (front ++ p) (front ++ q) ≡ are_apart p q
same_front [] p q = refl
same_front (s ∷ front) p q = ap (λ b. if b then are_apart (front ++ p) (front ++ q) else not s.0 && not s.0) (same_self s) ∙ same_front front p q

self_apart : (p : List Step) → are_apart p p ≡ false
self_apart [] = refl
self_apart (s ∷ p) = ap (λ b. if b then are_apart p p else not s.0 && not s.0) (same_self s) ∙ self_apart p

-- two parts of a parallel are not apart
beside_apart : (front p q : List Step) (j k : ℕ) → (j == k) ≡ false → Under (one_step front true j) p → Under (one_step front true k) q → are_apart p q ≡ false
beside_apart front p q j k e (more, f) (rest, g) =
    ap₂ are_apart (f ∙ append_assoc front ((true, j) ∷ []) more) (g ∙ append_assoc front ((true, k) ∷ []) rest)
    ∙ same_front front ((true, j) ∷ more) ((true, k) ∷ rest)
    ∙ ap (λ b. if b then are_apart more rest else false) e

other_part : (front p q : List Step) (j n k : ℕ) → j < n → n ≤ k → Under (one_step front true j) p → Under (one_step front true k) q → are_apart p q ≡ false
other_part front p q j n k less more u w = beside_apart front p q j k differs u w
  where
    differs : (j == k) ≡ false
    differs = grind (arith, nat_tests, less, more)

part_before : (front p q : List Step) (j n k : ℕ) → j < n → n ≤ k → Under (one_step front true k) p → Under (one_step front true j) q → are_apart p q ≡ false
part_before front p q j n k less more u w = beside_apart front p q k j differs u w
  where
    differs : (k == j) ≡ false
    differs = grind (arith, nat_tests, less, more)

pub clashes : (b : Bool) → b ≡ false → b ≡ true → ⊥
clashes true e f = cc
clashes false e f = cc

module _ (m : Marks) where
  -- a label that is 1 is one of some
  some_at : (l n i : ℕ) → i < n → m (l + i) ≡ true → some m l n ≡ true
  some_at l n i less e = by (some m l n) refl
    where
      by : (b : Bool) → some m l n ≡ b → some m l n ≡ true
      by true f = f
      by false f = absurd (clashes (m (l + i)) (free_at m l n f (l + i) (omega arith) (omega (arith, less))) e)

  -- not both parts have one
  mixed : (l n k i j : ℕ) → (some m l n && some m (l + n) k) ≡ false → i < n → j < k → m (l + i) ≡ true → m ((l + n) + j) ≡ true → ⊥
  mixed l n k i j free less more e f = clashes _ free (and_intro (some m l n) (some m (l + n) k) (some_at l n i less e) (some_at (l + n) k j more f))

  module _ (l n : ℕ) (xs ys : List (List Step)) (count : length xs ≡ n) where
    abbrev There : ℕ → List Step → Type 0
    There i p = (slice_get xs i ≡ Some p) ⊎ ((k : ℕ) × (i ≡ length xs + k) × (slice_get ys k ≡ Some p))

    moved : (i k : ℕ) → i ≡ length xs + k → m (l + i) ≡ true → m ((l + n) + k) ≡ true
    moved i k e h = let same : (l + n) + k ≡ l + i = omega (arith, e, count) in ap m same ∙ h

    -- two parts one behind the other: both labels in one of them, or one in each
    in_two : (size : ℕ) → length ys ≡ size → (p q : List Step) → ((i j : ℕ) → slice_get xs i ≡ Some p → slice_get xs j ≡ Some q → m (l + i) ≡ true → m (l + j) ≡ true → ⊥)
        → ((i j : ℕ) → slice_get ys i ≡ Some p → slice_get ys j ≡ Some q → m ((l + n) + i) ≡ true → m ((l + n) + j) ≡ true → ⊥)
        → ((i j : ℕ) → i < n → j < size → slice_get xs i ≡ Some p → slice_get ys j ≡ Some q → m (l + i) ≡ true → m ((l + n) + j) ≡ true → ⊥)
        → ((i j : ℕ) → i < n → j < size → slice_get xs i ≡ Some q → slice_get ys j ≡ Some p → m (l + i) ≡ true → m ((l + n) + j) ≡ true → ⊥)
        → (i j : ℕ) → There i p → There j q → m (l + i) ≡ true → m (l + j) ≡ true → ⊥
    in_two size total p q left right across back i j (inl a) (inl b) e f = left i j a b e f
    in_two size total p q left right across back i j (inr (u, g, a)) (inr (w, h, b)) e f = right u w a b (moved i u g e) (moved j w h f)
    in_two size total p q left right across back i j (inl a) (inr (w, h, b)) e f =
        let x = slice_get_within xs i p a in
        let y = slice_get_within ys w q b in
        across i w (omega (arith, x, count)) (omega (arith, y, total)) a b e (moved j w h f)
    in_two size total p q left right across back i j (inr (u, g, a)) (inl b) e f =
        let x = slice_get_within xs j q b in
        let y = slice_get_within ys u p a in
        back j u (omega (arith, x, count)) (omega (arith, y, total)) b a f (moved i u g e)

  mutual
    -- two labels that are apart are never both 1
    pub never_both : (t : Term) (l : ℕ) (front : List Step) → AtOne m l t → (p q : List Step) → are_apart p q ≡ true → (i j : ℕ) → slice_get (paths front t) i ≡ Some p → slice_get (paths front t) j ≡ Some q → m (l + i) ≡ true → m (l + j) ≡ true → ⊥
    never_both nothing l front h p q far i j a b e f = cc
    never_both pause l front h p q far zero zero a b e f = clashes (are_apart p q) (ap₂ are_apart (sym (some_same a)) (sym (some_same b)) ∙ self_apart front) far
    never_both pause l front h p q far (suc i) j a b e f = cc
    never_both pause l front h p q far zero (suc j) a b e f = cc
    never_both (write x k g d u w) l front h p q far i j a b e f = cc
    never_both (choose c s t) l front h p q far i j a b e f =
        let xs = paths (one_step front false 0) s in
        let ys = paths (one_step front false 1) t in
        in_two l (labels s) xs ys (count_paths s (one_step front false 0)) (labels t) (count_paths t (one_step front false 1)) p q
        (never_both s l (one_step front false 0) h.1 p q far) (never_both t (l + labels s) (one_step front false 1) h.2 p q far)
        (λ i j u w _ _ e f. mixed l (labels s) (labels t) i j h.0 u w e f) (λ i j u w _ _ e f. mixed l (labels s) (labels t) i j h.0 u w e f)
        i j (get_split xs ys i p a) (get_split xs ys j q b) e f
    never_both (seq ts) l front h p q far i j a b e f = never_in_turn ts l front 0 h p q far i j a b e f
    never_both (par ts) l front h p q far i j a b e f = never_in_each ts l front 0 h p q far i j a b e f
    never_both (loop t c) l front h p q far i j a b e f = never_both t l (one_step front false 0) h p q far i j a b e f
    never_both (abort w k t c) l front h p q far i j a b e f = never_both t l (one_step front false 0) h p q far i j a b e f
    never_both (suspend w false t c) l front h p q far i j a b e f = never_both t l (one_step front false 1) h p q far i j a b e f
    never_both (suspend w true t c) l front h p q far i j a b e f =
        let xs = one_step front false 0 ∷ [] in
        let ys = paths (one_step front false 1) t in
        in_two l 1 xs ys refl (labels t) (count_paths t (one_step front false 1)) p q
        (λ i j a b e f. clashes (are_apart p q) (alone (one_step front false 0) p q i j a b) far)
        (never_both t (l + 1) (one_step front false 1) h.1 p q far)
        (λ i j u w _ _ e f. apart i j u w e f) (λ i j u w _ _ e f. apart i j u w e f)
        i j (get_split xs ys i p a) (get_split xs ys j q b) e f
      where
        alone : (r p q : List Step) (i j : ℕ) → slice_get (r ∷ []) i ≡ Some p → slice_get (r ∷ []) j ≡ Some q → are_apart p q ≡ false
        alone r p q zero zero a b = ap₂ are_apart (sym (some_same a)) (sym (some_same b)) ∙ self_apart r
        alone r p q (suc i) j a b = absurd (cc)
        alone r p q zero (suc j) a b = absurd (cc)

        apart : (i j : ℕ) → i < 1 → j < labels t → m (l + i) ≡ true → m ((l + 1) + j) ≡ true → ⊥
        apart i j u w e f =
            let first : l ≡ l + i = omega (arith, u) in
            clashes _ h.0 (and_intro (m l) (some m (l + 1) (labels t)) (ap m first ∙ e) (some_at (l + 1) (labels t) j w f))
    never_both (scope x s t) l front h p q far i j a b e f = never_both t l (one_step front false 0) h p q far i j a b e f

    never_in_turn : (ts : Terms) (l : ℕ) (front : List Step) (n : ℕ) → AtOneInTurn m l ts → (p q : List Step) → are_apart p q ≡ true → (i j : ℕ) → slice_get (paths_all front false n ts) i ≡ Some p → slice_get (paths_all front false n ts) j ≡ Some q → m (l + i) ≡ true → m (l + j) ≡ true → ⊥
    never_in_turn none l front n h p q far i j a b e f = cc
    never_in_turn (part t ts) l front n h p q far i j a b e f =
        let xs = paths (one_step front false n) t in
        let ys = paths_all front false (n + 1) ts in
        in_two l (labels t) xs ys (count_paths t (one_step front false n)) (labels_all ts) (count_all ts front false (n + 1)) p q
        (never_both t l (one_step front false n) h.1 p q far) (never_in_turn ts (l + labels t) front (n + 1) h.2 p q far)
        (λ i j u w _ _ e f. mixed l (labels t) (labels_all ts) i j h.0 u w e f) (λ i j u w _ _ e f. mixed l (labels t) (labels_all ts) i j h.0 u w e f)
        i j (get_split xs ys i p a) (get_split xs ys j q b) e f

    never_in_each : (ts : Terms) (l : ℕ) (front : List Step) (n : ℕ) → AtOneEach m l ts → (p q : List Step) → are_apart p q ≡ true → (i j : ℕ) → slice_get (paths_all front true n ts) i ≡ Some p → slice_get (paths_all front true n ts) j ≡ Some q → m (l + i) ≡ true → m (l + j) ≡ true → ⊥
    never_in_each none l front n h p q far i j a b e f = cc
    never_in_each (part t ts) l front n h p q far i j a b e f =
        let xs = paths (one_step front true n) t in
        let ys = paths_all front true (n + 1) ts in
        in_two l (labels t) xs ys (count_paths t (one_step front true n)) (labels_all ts) (count_all ts front true (n + 1)) p q
        (never_both t l (one_step front true n) h.0 p q far) (never_in_each ts (l + labels t) front (n + 1) h.1 p q far)
        (λ i j _ _ a b _ _. let u = under_all ts front true (n + 1) j q b in clashes (are_apart p q) (other_part front p q n (n + 1) u.0 (omega arith) u.1 (under t (one_step front true n) i p a) u.2) far)
        (λ i j _ _ a b _ _. let u = under_all ts front true (n + 1) j p b in clashes (are_apart p q) (part_before front p q n (n + 1) u.0 (omega arith) u.1 u.2 (under t (one_step front true n) i q a)) far)
        i j (get_split xs ys i p a) (get_split xs ys j q b) e f
