-- Labels that are 1, what registers take, and the terms for which they stand.
use Rattle.std.proofs.Common.{◌≡◌, ℕ, zero, suc, ◌+◌, ◌≤◌, ◌<◌, ◌==◌, Bool, true, false, ◌&&◌, ◌||◌, nat_lt, Option, Some, None, ℤ, refl, sym, ap, ap₂, ◌∙◌, arith}
use Rattle.std.specs.Prelude.{if◌then◌else◌}
use Rattle.std.proofs.lemmas.Bool.Decides.{nat_tests}
use Rattle.quartz_expr.specs.Vars.{Vars}
use Rattle.quartz_expr.specs.Terms.{Term, nothing, pause, write, choose, seq, par, loop, abort, suspend, scope, Terms, none, part}
use Rattle.quartz_expr.specs.React.{sequence}
use Rattle.statement_cells.specs.Labels.{labels, labels_all, registers, scope_registers}
use Rattle.statement_cells.specs.Stands.{Marks, Registers, some, at, at_in_turn, at_each, AtOne, AtOneInTurn, AtOneEach, store_in}
use Rattle.statement_cells.specs.Walk.{no_marks, union, MarksIn, TakesIn, Takes, no_takes, or_else, else_takes, is_within, kept_marks, Holds}
use Rattle.statement_cells.proofs.BoolLemmas.{and_false, or_false, or_assoc}
use Rattle.quartz_expr.proofs.TruthLemmas.{or_left, or_right}

-- ---- labels of a range

pub some_split : (m : Marks) (l n k : ℕ) → some m l (n + k) ≡ (some m l n || some m (l + n) k)
unfolding some
some_split m l zero k =
    let e : l ≡ l + zero = omega arith in
    let f : zero + k ≡ k = omega arith in
    ap₂ (λ x y. some m x y) e f
some_split m l (suc n) k =
    let e : suc n + k ≡ suc (n + k) = omega arith in
    let f : (l + 1) + n ≡ l + suc n = omega arith in
    ap (some m l) e ∙ ap (λ b. m l || b) (some_split m (l + 1) n k ∙ ap (λ x. some m (l + 1) n || some m x k) f) ∙ sym (or_assoc (m l) (some m (l + 1) n) (some m (l + suc n) k))

pub some_free : (m : Marks) (l n : ℕ) → ((i : ℕ) → l ≤ i → i < l + n → m i ≡ false) → some m l n ≡ false
unfolding some
some_free m l zero h = refl
some_free m l (suc n) h = ap₂ (λ x y. x || y) (h l (omega arith) (omega arith)) (some_free m (l + 1) n (λ i p q. h i (omega arith) (omega arith)))

pub some_none : (l n : ℕ) → some no_marks l n ≡ false
some_none l n = some_free no_marks l n (λ i p q. refl)

pub some_after : (m : Marks) (l n k : ℕ) → MarksIn l n m → some m (l + n) k ≡ false
some_after m l n k w = some_free m (l + n) k (λ i p q. w.above i p)

pub some_before : (m : Marks) (l n k : ℕ) → MarksIn (l + n) k m → some m l n ≡ false
some_before m l n k w = some_free m l n (λ i p q. w.below i q)

pub free_left : (m : Marks) (l n k : ℕ) → some m l (n + k) ≡ false → some m l n ≡ false
free_left m l n k h = or_left (some m l n) (some m (l + n) k) (sym (some_split m l n k) ∙ h)

pub free_right : (m : Marks) (l n k : ℕ) → some m l (n + k) ≡ false → some m (l + n) k ≡ false
free_right m l n k h = or_right (some m l n) (some m (l + n) k) (sym (some_split m l n k) ∙ h)

-- no label of the range is 1
pub free_at : (m : Marks) (l n : ℕ) → some m l n ≡ false → (i : ℕ) → l ≤ i → i < l + n → m i ≡ false
unfolding some
free_at m l zero h i p q = absurd (omega (arith, p, q))
free_at m l (suc n) h i p q = at_first (nat_lt l i) refl (λ e. free_at m (l + 1) n (or_right (m l) (some m (l + 1) n) h) i e (omega (arith, q)))
  where
    after : nat_lt l i ≡ true → l + 1 ≤ i
    after e = grind (arith, nat_tests)

    same : nat_lt l i ≡ false → l ≡ i
    same e = grind (arith, nat_tests)

    at_first : (b : Bool) → nat_lt l i ≡ b → (l + 1 ≤ i → m i ≡ false) → m i ≡ false
    at_first true e k = k (after e)
    at_first false e k = ap m (sym (same e)) ∙ or_left (m l) (some m (l + 1) n) h

-- ---- at most one part has a label that is 1

mutual
  unfolding some

  pub at_one_free : (s : Term) (m : Marks) (l : ℕ) → some m l (labels s) ≡ false → AtOne m l s
  at_one_free nothing m l h = tt
  at_one_free pause m l h = tt
  at_one_free (write x i e d p q) m l h = tt
  at_one_free (choose c a b) m l h =
      let p = free_left m l (labels a) (labels b) h in
      let q = free_right m l (labels a) (labels b) h in
      (ap (λ x. x && some m (l + labels a) (labels b)) p, at_one_free a m l p, at_one_free b m (l + labels a) q)
  at_one_free (seq ts) m l h = at_one_in_turn_free ts m l h
  at_one_free (par ts) m l h = at_one_each_free ts m l h
  at_one_free (loop t c) m l h = at_one_free t m l h
  at_one_free (abort weak immediate t c) m l h = at_one_free t m l h
  at_one_free (suspend weak true t c) m l h =
      let p = or_left (m l) (some m (l + 1) (labels t)) h in
      (ap (λ x. x && some m (l + 1) (labels t)) p, at_one_free t m (l + 1) (or_right (m l) (some m (l + 1) (labels t)) h))
  at_one_free (suspend weak false t c) m l h = at_one_free t m l h
  at_one_free (scope x s t) m l h = at_one_free t m l h

  pub at_one_in_turn_free : (ts : Terms) (m : Marks) (l : ℕ) → some m l (labels_all ts) ≡ false → AtOneInTurn m l ts
  at_one_in_turn_free none m l h = tt
  at_one_in_turn_free (part t ts) m l h =
      let p = free_left m l (labels t) (labels_all ts) h in
      let q = free_right m l (labels t) (labels_all ts) h in
      (ap (λ x. x && some m (l + labels t) (labels_all ts)) p, at_one_free t m l p, at_one_in_turn_free ts m (l + labels t) q)

  pub at_one_each_free : (ts : Terms) (m : Marks) (l : ℕ) → some m l (labels_all ts) ≡ false → AtOneEach m l ts
  at_one_each_free none m l h = tt
  at_one_each_free (part t ts) m l h =
      (at_one_free t m l (free_left m l (labels t) (labels_all ts) h), at_one_each_free ts m (l + labels t) (free_right m l (labels t) (labels_all ts) h))

-- ---- ranges

pub marks_left : (l n k : ℕ) (m : Marks) → MarksIn l n m → MarksIn l (n + k) m
marks_left l n k m w = record { below = w.below; above = λ i h. w.above i (omega (arith, h)) }

pub marks_right : (l n k : ℕ) (m : Marks) → MarksIn (l + n) k m → MarksIn l (n + k) m
marks_right l n k m w = record { below = λ i h. w.below i (omega (arith, h)); above = λ i h. w.above i (omega (arith, h)) }

pub marks_none : (l n : ℕ) → MarksIn l n no_marks
marks_none l n = record { below = λ i h. refl; above = λ i h. refl }

pub marks_both : (l n : ℕ) (a b : Marks) → MarksIn l n a → MarksIn l n b → MarksIn l n (union a b)
marks_both l n a b p q = record { below = λ i h. ap₂ (λ x y. x || y) (p.below i h) (q.below i h); above = λ i h. ap₂ (λ x y. x || y) (p.above i h) (q.above i h) }

pub takes_left : (v n k : ℕ) (f : Takes) → TakesIn v n f → TakesIn v (n + k) f
takes_left v n k f w = record { below = w.below; above = λ i h. w.above i (omega (arith, h)) }

pub takes_right : (v n k : ℕ) (f : Takes) → TakesIn (v + n) k f → TakesIn v (n + k) f
takes_right v n k f w = record { below = λ i h. w.below i (omega (arith, h)); above = λ i h. w.above i (omega (arith, h)) }

pub takes_none : (v n : ℕ) → TakesIn v n no_takes
takes_none v n = record { below = λ i h. refl; above = λ i h. refl }

pub takes_both : (v n : ℕ) (f g : Takes) → TakesIn v n f → TakesIn v n g → TakesIn v n (else_takes f g)
takes_both v n f g p q = record { below = λ i h. ap₂ or_else (p.below i h) (q.below i h); above = λ i h. ap₂ or_else (p.above i h) (q.above i h) }

pub union_none : (m : Marks) → union m no_marks ≡ m
union_none m = λ j i. or_false (m i) j

pub union_assoc : (m n k : Marks) → union (union m n) k ≡ union m (union n k)
union_assoc m n k = λ j i. or_assoc (m i) (n i) (k i) j

or_else_none : (a : Option ℤ) → or_else a None ≡ a
or_else_none (Some z) = refl
or_else_none None = refl

pub or_else_assoc : (a b c : Option ℤ) → or_else (or_else a b) c ≡ or_else a (or_else b c)
or_else_assoc (Some z) b c = refl
or_else_assoc None b c = refl

pub else_none : (f : Takes) → else_takes f no_takes ≡ f
else_none f = λ j r. or_else_none (f r) j

pub else_assoc : (f g h : Takes) → else_takes (else_takes f g) h ≡ else_takes f (else_takes g h)
else_assoc f g h = λ j r. or_else_assoc (f r) (g r) (h r) j

-- what takes the first of two holds what the first takes
pub holds_first : (f g : Takes) (k : Registers) → Holds (else_takes f g) k → Holds f k
holds_first f g k h r z e = h r z (ap (λ o. or_else o (g r)) e)

-- and what the second takes, where the first takes nothing
pub holds_second : (f g : Takes) (k : Registers) → ((r : ℕ) (z : ℤ) → g r ≡ Some z → f r ≡ None) → Holds (else_takes f g) k → Holds g k
holds_second f g k free h r z e = h r z (ap₂ or_else (free r z e) e)

-- ---- agreement

-- marks that are the same among the n labels from l on
abbrev pub Agree : (m n : Marks) (l k : ℕ) → Type 0
Agree m n l k = (i : ℕ) → l ≤ i → i < l + k → m i ≡ n i

pub agree_left : (m n : Marks) (l a b : ℕ) → Agree m n l (a + b) → Agree m n l a
agree_left m n l a b h i p q = h i p (omega (arith, q))

pub agree_right : (m n : Marks) (l a b : ℕ) → Agree m n l (a + b) → Agree m n (l + a) b
agree_right m n l a b h i p q = h i (omega (arith, p)) (omega (arith, q))

pub agree_next : (m n : Marks) (l a : ℕ) → Agree m n l (suc a) → Agree m n (l + 1) a
agree_next m n l a h i p q = h i (omega (arith, p)) (omega (arith, q))

pub some_agree : (m n : Marks) (l k : ℕ) → Agree m n l k → some m l k ≡ some n l k
unfolding some
some_agree m n l zero h = refl
some_agree m n l (suc k) h = ap₂ (λ x y. x || y) (h l (omega arith) (omega arith)) (some_agree m n (l + 1) k (agree_next m n l k h))

module _ (vs : Vars) (k : Registers) where
  mutual
    pub at_agree : (s : Term) (m n : Marks) (l v : ℕ) → Agree m n l (labels s) → at vs m k l v s ≡ at vs n k l v s
    at_agree nothing m n l v h = refl
    at_agree pause m n l v h = refl
    at_agree (write x i e d p q) m n l v h = refl
    at_agree (choose c a b) m n l v h =
        let p = agree_left m n l (labels a) (labels b) h in
        ap₂ (λ (x : Bool) y. if x then y else at vs m k (l + labels a) (v + registers vs a) b) (some_agree m n l (labels a) p) (at_agree a m n l v p)
        ∙ ap (λ y. if some n l (labels a) then at vs n k l v a else y) (at_agree b m n (l + labels a) (v + registers vs a) (agree_right m n l (labels a) (labels b) h))
    at_agree (seq ts) m n l v h = at_in_turn_agree ts m n l v h
    at_agree (par ts) m n l v h = ap par (at_each_agree ts m n l v h)
    at_agree (loop t c) m n l v h = ap (λ u. seq (part u (part (choose c (loop t c) nothing) none))) (at_agree t m n l v h)
    at_agree (abort weak immediate t c) m n l v h = ap (λ u. abort weak true u c) (at_agree t m n l v h)
    at_agree (suspend weak true t c) m n l v h =
        ap₂ (λ (x : Bool) y. suspend weak true (if x then t else y) c) (h l (omega arith) (omega arith)) (at_agree t m n (l + 1) v (agree_next m n l (labels t) h))
    at_agree (suspend weak false t c) m n l v h = ap (λ u. suspend weak true u c) (at_agree t m n l v h)
    at_agree (scope x s t) m n l v h = ap (λ u. scope x (Some (store_in vs x k v)) u) (at_agree t m n l (v + scope_registers vs (labels t) x) h)

    pub at_in_turn_agree : (ts : Terms) (m n : Marks) (l v : ℕ) → Agree m n l (labels_all ts) → at_in_turn vs m k l v ts ≡ at_in_turn vs n k l v ts
    at_in_turn_agree none m n l v h = refl
    at_in_turn_agree (part t ts) m n l v h =
        let p = agree_left m n l (labels t) (labels_all ts) h in
        ap₂ (λ (x : Bool) y. if x then sequence y ts else at_in_turn vs m k (l + labels t) (v + registers vs t) ts) (some_agree m n l (labels t) p) (at_agree t m n l v p)
        ∙ ap (λ y. if some n l (labels t) then sequence (at vs n k l v t) ts else y) (at_in_turn_agree ts m n (l + labels t) (v + registers vs t) (agree_right m n l (labels t) (labels_all ts) h))

    pub at_each_agree : (ts : Terms) (m n : Marks) (l v : ℕ) → Agree m n l (labels_all ts) → at_each vs m k l v ts ≡ at_each vs n k l v ts
    at_each_agree none m n l v h = refl
    at_each_agree (part t ts) m n l v h =
        let p = agree_left m n l (labels t) (labels_all ts) h in
        ap₂ part (ap₂ (λ (x : Bool) y. if x then y else nothing) (some_agree m n l (labels t) p) (at_agree t m n l v p))
        (at_each_agree ts m n (l + labels t) (v + registers vs t) (agree_right m n l (labels t) (labels_all ts) h))

mutual
  pub at_one_agree : (s : Term) (m n : Marks) (l : ℕ) → Agree m n l (labels s) → AtOne n l s → AtOne m l s
  at_one_agree nothing m n l h o = tt
  at_one_agree pause m n l h o = tt
  at_one_agree (write x i e d p q) m n l h o = tt
  at_one_agree (choose c a b) m n l h o =
      let p = agree_left m n l (labels a) (labels b) h in
      let q = agree_right m n l (labels a) (labels b) h in
      (ap₂ (λ x y. x && y) (some_agree m n l (labels a) p) (some_agree m n (l + labels a) (labels b) q) ∙ o.0, at_one_agree a m n l p o.1, at_one_agree b m n (l + labels a) q o.2)
  at_one_agree (seq ts) m n l h o = at_one_in_turn_agree ts m n l h o
  at_one_agree (par ts) m n l h o = at_one_each_agree ts m n l h o
  at_one_agree (loop t c) m n l h o = at_one_agree t m n l h o
  at_one_agree (abort weak immediate t c) m n l h o = at_one_agree t m n l h o
  at_one_agree (suspend weak true t c) m n l h o =
      let q = agree_next m n l (labels t) h in
      (ap₂ (λ x y. x && y) (h l (omega arith) (omega arith)) (some_agree m n (l + 1) (labels t) q) ∙ o.0, at_one_agree t m n (l + 1) q o.1)
  at_one_agree (suspend weak false t c) m n l h o = at_one_agree t m n l h o
  at_one_agree (scope x s t) m n l h o = at_one_agree t m n l h o

  pub at_one_in_turn_agree : (ts : Terms) (m n : Marks) (l : ℕ) → Agree m n l (labels_all ts) → AtOneInTurn n l ts → AtOneInTurn m l ts
  at_one_in_turn_agree none m n l h o = tt
  at_one_in_turn_agree (part t ts) m n l h o =
      let p = agree_left m n l (labels t) (labels_all ts) h in
      let q = agree_right m n l (labels t) (labels_all ts) h in
      (ap₂ (λ x y. x && y) (some_agree m n l (labels t) p) (some_agree m n (l + labels t) (labels_all ts) q) ∙ o.0, at_one_agree t m n l p o.1, at_one_in_turn_agree ts m n (l + labels t) q o.2)

  pub at_one_each_agree : (ts : Terms) (m n : Marks) (l : ℕ) → Agree m n l (labels_all ts) → AtOneEach n l ts → AtOneEach m l ts
  at_one_each_agree none m n l h o = tt
  at_one_each_agree (part t ts) m n l h o =
      (at_one_agree t m n l (agree_left m n l (labels t) (labels_all ts) h) o.0, at_one_each_agree ts m n (l + labels t) (agree_right m n l (labels t) (labels_all ts) h) o.1)

-- ---- labels that stay

within_yes : (l n i : ℕ) → l ≤ i → i < l + n → is_within l n i ≡ true
within_yes l zero i p q = absurd (omega (arith, p, q))
within_yes l (suc n) i p q = either (l == i) refl (λ e. within_yes (l + 1) n i e (omega (arith, q)))
  where
    after : (l == i) ≡ false → l + 1 ≤ i
    after e = grind (arith, nat_tests)

    either : (b : Bool) → (l == i) ≡ b → (l + 1 ≤ i → is_within (l + 1) n i ≡ true) → (b || is_within (l + 1) n i) ≡ true
    either true e f = refl
    either false e f = f (after e)

pub within_no : (l n i : ℕ) → is_within l n i ≡ true → (l ≤ i) × (i < l + n)
within_no l zero i h = absurd (cc)
within_no l (suc n) i h = either (l == i) refl (within_no (l + 1) n i) h
  where
    same : (l == i) ≡ true → l ≡ i
    same e = grind (arith, nat_tests)

    either : (b : Bool) → (l == i) ≡ b → (is_within (l + 1) n i ≡ true → (l + 1 ≤ i) × (i < (l + 1) + n)) → (b || is_within (l + 1) n i) ≡ true → (l ≤ i) × (i < l + suc n)
    either true e f g = let j = same e in (omega (arith, j), omega (arith, j))
    either false e f g = let r = f g in (omega (arith, r.0), omega (arith, r.1))

pub within_split : (l n k i : ℕ) → is_within l (n + k) i ≡ (is_within l n i || is_within (l + n) k i)
within_split l zero k i =
    let e : l ≡ l + zero = omega arith in
    let f : zero + k ≡ k = omega arith in
    ap₂ (λ x y. is_within x y i) e f
within_split l (suc n) k i =
    let e : suc n + k ≡ suc (n + k) = omega arith in
    let f : (l + 1) + n ≡ l + suc n = omega arith in
    ap (λ x. is_within l x i) e ∙ ap (λ b. (l == i) || b) (within_split (l + 1) n k i ∙ ap (λ x. is_within (l + 1) n i || is_within x k i) f) ∙ sym (or_assoc (l == i) (is_within (l + 1) n i) (is_within (l + suc n) k i))

and_one : (a b : Bool) → b ≡ true → (a && b) ≡ a
and_one true b h = h
and_one false b h = refl

pub kept_agree : (p : Marks) (l n : ℕ) → Agree (kept_marks p true l n) p l n
kept_agree p l n i a b = and_one (p i) (is_within l n i) (within_yes l n i a b)

pub kept_in : (p : Marks) (st : Bool) (l n : ℕ) → MarksIn l n (kept_marks p st l n)
kept_in p st l n = record { below = λ i h. out i (is_within l n i) refl (λ g. less i (within_no l n i g) h); above = λ i h. out i (is_within l n i) refl (λ g. more i (within_no l n i g) h) }
  where
    less : (i : ℕ) → (l ≤ i) × (i < l + n) → i < l → ⊥
    less i g h = omega (arith, g.0, h)

    more : (i : ℕ) → (l ≤ i) × (i < l + n) → l + n ≤ i → ⊥
    more i g h = omega (arith, g.1, h)

    out : (i : ℕ) (b : Bool) → is_within l n i ≡ b → (is_within l n i ≡ true → ⊥) → (st && (p i && is_within l n i)) ≡ false
    out i true e f = absurd (f e)
    out i false e f = ap (λ x. st && (p i && x)) e ∙ ap (λ x. st && x) (and_false (p i)) ∙ and_false st

pub kept_free : (p : Marks) (st : Bool) (l n : ℕ) → some p l n ≡ false → kept_marks p st l n ≡ no_marks
kept_free p st l n h = λ j i. one i (is_within l n i) refl j
  where
    one : (i : ℕ) (b : Bool) → is_within l n i ≡ b → (st && (p i && is_within l n i)) ≡ false
    one i true e = let g = within_no l n i e in ap (λ x. st && (x && is_within l n i)) (free_at p l n h i g.0 g.1) ∙ and_false st
    one i false e = ap (λ x. st && (p i && x)) e ∙ ap (λ x. st && x) (and_false (p i)) ∙ and_false st

pub kept_not : (p : Marks) (l n : ℕ) → kept_marks p false l n ≡ no_marks
kept_not p l n = refl

spread : (st x a b : Bool) → (st && (x && (a || b))) ≡ ((st && (x && a)) || (st && (x && b)))
spread false x a b = refl
spread true false a b = refl
spread true true a b = refl

pub kept_split : (p : Marks) (st : Bool) (l n k : ℕ) → kept_marks p st l (n + k) ≡ union (kept_marks p st l n) (kept_marks p st (l + n) k)
kept_split p st l n k = λ j i. (ap (λ x. st && (p i && x)) (within_split l n k i) ∙ spread st (p i) (is_within l n i) (is_within (l + n) k i)) j
