-- What the counts of a script say. A move that comes next in a step isn't counted yet, one more move adds
-- its own count alone, and a cursor stands at a step's begin or within it.
use Rattle.std.proofs.Common.{inl, inr, ◌≡◌, ℕ, ◌+◌, ◌<◌, ◌≤◌, true, false, List, [], ◌∷◌, Some, refl, sym, ap, ◌∙◌, subst, arith}
use Rattle.std.specs.Prelude.{◌⊎◌, if◌then◌else◌, zero, suc, length, take, slice_get}
use Rattle.std.proofs.lemmas.Bool.Decides.{nat_tests, leb_tells, eqb_tells}
use Rattle.std.proofs.lemmas.Bool.{cases_lt}
use Rattle.std.proofs.lemmas.Option.{same_Some, none-some}
use Rattle.pipe_laws.specs.Machine.{Ring, Link, Free, Feed, Move, Push, Pop, same_ring, hit, times, Script, before, Cursor, stepped, next, cursor, done_at, Each}

pub times_take : (m : Move) (xs : List Move) (i : ℕ) → times m (take i xs) ≤ times m xs
times_take m [] zero = omega arith
times_take m [] (suc i) = omega arith
times_take m (x ∷ xs) zero = omega arith
times_take m (x ∷ xs) (suc i) = let h = times_take m xs i in omega (arith, h)

pub times_more : (m : Move) (xs : List Move) (i : ℕ) (x : Move) → slice_get xs i ≡ Some x → times m (take (suc i) xs) ≡ times m (take i xs) + hit m x
times_more m [] i x e = absurd (none-some x e)
times_more m (y ∷ xs) zero x e = let h = ap (hit m) (same_Some y x e) in omega (arith, h)
times_more m (y ∷ xs) (suc i) x e = let h = times_more m xs i x e in omega (arith, h)

pub times_all : (m : Move) (xs : List Move) (i : ℕ) → length xs ≤ i → times m (take i xs) ≡ times m xs
times_all m [] zero h = refl
times_all m [] (suc i) h = refl
times_all m (x ∷ xs) zero h = absurd (omega (arith, h))
times_all m (x ∷ xs) (suc i) h = let e = times_all m xs i (omega (arith, h)) in omega (arith, e)

pub before_rises : (s : Script) (m : Move) (k j : ℕ) → k ≤ j → before s m k ≤ before s m j
before_rises s m zero zero h = omega arith
before_rises s m (suc k) zero h = absurd (omega (arith, h))
before_rises s m k (suc j) h =
    elim (cases_lt k (suc j)) [ inl l ↦ (let r = before_rises s m k j (omega (arith, l)) in omega (arith, r)) | inr g ↦ (let e : k ≡ suc j = omega (arith, h, g) in subst (λ i. before s m k ≤ before s m i) e (omega arith)) ]

-- a move and itself
ring_self : (r : Ring) → same_ring r r ≡ true
ring_self (Link i) = grind (arith, nat_tests)
ring_self Free = refl
ring_self (Feed i) = grind (arith, nat_tests)

pub ring_is : (r q : Ring) → (same_ring r q ≡ false) ⊎ ((same_ring r q ≡ true) × (r ≡ q))
ring_is (Link i) (Link j) = elim (eqb_tells i j) [ inl h ↦ inr (h.0, ap Link h.1) | inr h ↦ inl h.0 ]
ring_is (Link i) Free = inl refl
ring_is (Link i) (Feed j) = inl refl
ring_is Free (Link j) = inl refl
ring_is Free Free = inr (refl, refl)
ring_is Free (Feed j) = inl refl
ring_is (Feed i) (Link j) = inl refl
ring_is (Feed i) Free = inl refl
ring_is (Feed i) (Feed j) = elim (eqb_tells i j) [ inl h ↦ inr (h.0, ap Feed h.1) | inr h ↦ inl h.0 ]

pub hit_self : (m : Move) → hit m m ≡ 1
hit_self (Push r) = ap (λ b. if b then 1 else 0) (ring_self r)
hit_self (Pop r) = ap (λ b. if b then 1 else 0) (ring_self r)

pub hit_is : (m x : Move) → (hit m x ≡ 0) ⊎ ((hit m x ≡ 1) × (m ≡ x))
hit_is (Push r) (Push q) = elim (ring_is r q) [ inl h ↦ inl (ap (λ b. if b then 1 else 0) h) | inr h ↦ inr (ap (λ b. if b then 1 else 0) h.0, ap Push h.1) ]
hit_is (Push r) (Pop q) = inl refl
hit_is (Pop r) (Push q) = inl refl
hit_is (Pop r) (Pop q) = elim (ring_is r q) [ inl h ↦ inl (ap (λ b. if b then 1 else 0) h) | inr h ↦ inr (ap (λ b. if b then 1 else 0) h.0, ap Pop h.1) ]

-- a move that comes next in a step is not yet counted
pub done_lt : (s : Script) (m : Move) (c : Cursor) → slice_get (s c.step) c.done ≡ Some m → done_at s m c < before s m (suc c.step)
done_lt s m c e =
    let a = times_more m (s c.step) c.done m e in
    let b = times_take m (s c.step) (suc c.done) in
    let h = hit_self m in omega (arith, a, b, h)

pub each_at : (P : Move → Type 0) (xs : List Move) (i : ℕ) (x : Move) → Each P xs → slice_get xs i ≡ Some x → P x
each_at P [] i x h e = absurd (none-some x e)
each_at P (y ∷ xs) zero x h e = subst P (same_Some y x e) h.0
each_at P (y ∷ xs) (suc i) x h e = each_at P xs i x h.1 e

-- one more move
pub done_next : (s : Script) (m x : Move) (c : Cursor) → slice_get (s c.step) c.done ≡ Some x → done_at s m (next s c) ≡ done_at s m c + hit m x
done_next s m x c e =
    let a = times_more m (s c.step) c.done x e in
    elim (leb_tells (suc (suc c.done)) (length (s c.step))) [
      | inl h ↦ ap (λ b. done_at s m (stepped c b)) h.0 ∙ omega (arith, a)
      | inr h ↦ ap (λ b. done_at s m (stepped c b)) h.0 ∙ (let f = times_all m (s c.step) (suc c.done) (omega (arith, h.1)) in omega (arith, a, f))
    ]

-- where a cursor can stand
next_within : (s : Script) (c : Cursor) → ((next s c).done ≡ 0) ⊎ ((next s c).done < length (s (next s c).step))
next_within s c = elim (leb_tells (suc (suc c.done)) (length (s c.step))) [
  | inl h ↦ inr (subst (λ b. (stepped c b).done < length (s (stepped c b).step)) (sym h.0) (omega (arith, h.1)))
  | inr h ↦ inl (ap (λ b. (stepped c b).done) h.0)
]

pub cursor_within : (s : Script) (p : ℕ) → ((cursor s p).done ≡ 0) ⊎ ((cursor s p).done < length (s (cursor s p).step))
cursor_within s zero = inl refl
cursor_within s (suc p) = next_within s (cursor s p)
