-- Lists that actors make in any order are those that they make one step after another. By induction on a
-- bound for step and actor: an item that was popped was pushed at a place of its maker. If all places of
-- the maker before that one have lesser keys, its run there is that of the streams. Else its first place
-- with a greater key has more pushes than the item's number, or wants nothing any more; neither can be.
use Rattle.std.proofs.Common.{inl, inr, ◌≡◌, ℕ, ◌+◌, ◌-◌, ◌*◌, ◌<◌, ◌≤◌, Bool, true, false, nat_lt, List, [], ◌∷◌, ◌++◌, Option, Some, None, refl, sym, ap, ◌∙◌, subst, arith}
use Rattle.std.specs.Prelude.{◌⊎◌, zero, suc, length, slice_get, if◌then◌else◌}
use Rattle.std.proofs.lemmas.Bool.Decides.{leb_tells}
use Rattle.std.proofs.lemmas.Bool.{cases_lt}
use Rattle.std.proofs.lemmas.Option.{none-some, same_Some, slice_get_within}
use Rattle.std.proofs.Math.Nat.{mul-le-mul_right}
use Rattle.std.proofs.lemmas.List.{length-append}
use Rattle.pipe_laws.specs.Machine.{Ring, Move, Push, Pop, same_ring, times, Script, Cursor, stepped, next, cursor, coming, done_at, place, Behind}
use Rattle.pipe_laws.specs.Flow.{Flow, Run, taken, after, run, pushed, sent, Begins, Solves, PopLaw, PopsTied, AreLists, Streams}
use Rattle.pipe_laws.proofs.Counts.{each_at, done_lt, done_next, times_all, hit_self, ring_is}

pub get_left : {A : Type 0} → (xs ys : List A) (i : ℕ) → i < length xs → slice_get (xs ++ ys) i ≡ slice_get xs i
get_left [] ys i l = absurd (omega (arith, l))
get_left (x ∷ xs) ys zero l = refl
get_left (x ∷ xs) ys (suc i) l = get_left xs ys i (omega (arith, l))

pub get_right : {A : Type 0} → (xs ys : List A) (i : ℕ) → length xs ≤ i → slice_get (xs ++ ys) i ≡ slice_get ys (i - length xs)
get_right [] ys i l = ap (slice_get ys) (omega arith)
get_right (x ∷ xs) ys zero l = absurd (omega (arith, l))
get_right (x ∷ xs) ys (suc i) l = get_right xs ys i (omega (arith, l)) ∙ ap (slice_get ys) (omega arith)

pub get_none : {A : Type 0} → (xs : List A) (i : ℕ) → slice_get xs i ≡ None → length xs ≤ i
get_none [] i e = omega arith
get_none (x ∷ xs) zero e = absurd (none-some x (sym e))
get_none (x ∷ xs) (suc i) e = let l = get_none xs i e in omega (arith, l)

-- at a place with no move, the counts stay
pub done_idle : (s : Script) (m : Move) (c : Cursor) → slice_get (s c.step) c.done ≡ None → done_at s m (next s c) ≡ done_at s m c
done_idle s m c e =
    let l = get_none (s c.step) c.done e in
    elim (leb_tells (suc (suc c.done)) (length (s c.step))) [
      | inl h ↦ absurd (let k = h.1 in omega (arith, k, l))
      | inr h ↦ ap (λ b. done_at s m (stepped c b)) h.0 ∙ (let f = times_all m (s c.step) c.done l in omega (arith, f))
    ]

-- places rise, and so do counts and steps
done_rises : (s : Script) (m : Move) (p q : ℕ) → p ≤ q → done_at s m (cursor s p) ≤ done_at s m (cursor s q)
done_rises s m zero zero h = omega arith
done_rises s m (suc p) zero h = absurd (omega (arith, h))
done_rises s m p (suc q) h = elim (cases_lt p (suc q)) [
  | inl l ↦ (let r = done_rises s m p q (omega (arith, l)) in let o = one (coming s q) refl in omega (arith, r, o))
  | inr g ↦ (let e : p ≡ suc q = omega (arith, h, g) in subst (λ i. done_at s m (cursor s p) ≤ done_at s m (cursor s i)) e (omega arith))
]
  where
    one : (o : Option Move) → coming s q ≡ o → done_at s m (cursor s q) ≤ done_at s m (cursor s (suc q))
    one None e = let d = done_idle s m (cursor s q) e in omega (arith, d)
    one (Some x) e = let d = done_next s m x (cursor s q) e in omega (arith, d)

step_rises : (s : Script) (p q : ℕ) → p ≤ q → (cursor s p).step ≤ (cursor s q).step
step_rises s zero zero h = omega arith
step_rises s (suc p) zero h = absurd (omega (arith, h))
step_rises s p (suc q) h = elim (cases_lt p (suc q)) [
  | inl l ↦ (let r = step_rises s p q (omega (arith, l)) in let o = one (nat_lt (suc (cursor s q).done) (length (s (cursor s q).step))) in omega (arith, r, o))
  | inr g ↦ (let e : p ≡ suc q = omega (arith, h, g) in subst (λ i. (cursor s p).step ≤ (cursor s i).step) e (omega arith))
]
  where
    one : (b : Bool) → (cursor s q).step ≤ (stepped (cursor s q) b).step
    one true = omega arith
    one false = omega arith

pub item_at : {A : Type 0} → (xs : List A) (i : ℕ) → i < length xs → (x : A) × (slice_get xs i ≡ Some x)
item_at [] i l = absurd (omega (arith, l))
item_at (x ∷ xs) zero l = (x, refl)
item_at (x ∷ xs) (suc i) l = item_at xs i (omega (arith, l))

module _ {X M : Type 0} (f : Flow X M) where
  abbrev moves_at : (inp : Ring → List X) (a p : ℕ) → List Move
  moves_at inp a p = (run f inp a p).moves

  wanted : (inp : Ring → List X) (a p : ℕ) → Option Move
  wanted inp a p = f.wants a (run f inp a p).memory

  -- moves rise with places
  moves_next : (inp : Ring → List X) (a : ℕ) (s : Run M) (m : Move) (o : Option Move) → times m s.moves ≤ times m (after f inp a s o).moves
  moves_next inp a s m None = omega arith
  moves_next inp a s m (Some (Push r)) = omega arith
  moves_next inp a s m (Some (Pop r)) = omega arith

  pub moves_rise : (inp : Ring → List X) (a p q : ℕ) (m : Move) → p ≤ q → times m (moves_at inp a p) ≤ times m (moves_at inp a q)
  moves_rise inp a zero zero m h = omega arith
  moves_rise inp a (suc p) zero m h = absurd (omega (arith, h))
  moves_rise inp a p (suc q) m h = elim (cases_lt p (suc q)) [
    | inl l ↦ (let r = moves_rise inp a p q m (omega (arith, l)) in let o = moves_next inp a (run f inp a q) m (f.wants a (run f inp a q).memory) in omega (arith, r, o))
    | inr g ↦ (let e : p ≡ suc q = omega (arith, h, g) in subst (λ i. times m (moves_at inp a p) ≤ times m (moves_at inp a i)) e (omega arith))
  ]

  pub sent_length : (inp : Ring → List X) (a p : ℕ) (r : Ring) → length (sent f inp a p r) ≡ times (Push r) (moves_at inp a p)
  sent_length inp a zero r = refl
  sent_length inp a (suc p) r = length-append (sent f inp a p r) (pushed f inp a (run f inp a p) r (f.wants a (run f inp a p).memory)) ∙ one (sent_length inp a p r) (f.wants a (run f inp a p).memory)
    where
      one : length (sent f inp a p r) ≡ times (Push r) (moves_at inp a p) → (o : Option Move) → length (sent f inp a p r) + length (pushed f inp a (run f inp a p) r o) ≡ times (Push r) (after f inp a (run f inp a p) o).moves
      one i None = omega (arith, i)
      one i (Some (Pop q)) = omega (arith, i)
      one i (Some (Push q)) = let b = by (same_ring r q) in omega (arith, i, b)
        where
          by : (b : Bool) → length (if b then f.giving a r (run f inp a p).memory ∷ [] else []) ≡ (if b then 1 else 0)
          by true = refl
          by false = refl

  -- the move that pushed an item
  record Pusher (inp : Ring → List X) (a p : ℕ) (r : Ring) (i : ℕ) (x : X) : Type 0 where
    at : ℕ
    early : at < p
    move : f.wants a (run f inp a at).memory ≡ Some (Push r)
    number : times (Push r) (moves_at inp a at) ≡ i
    item : x ≡ f.giving a r (run f inp a at).memory

  pusher : (inp : Ring → List X) (a p : ℕ) (r : Ring) (i : ℕ) (x : X) → slice_get (sent f inp a p r) i ≡ Some x → Pusher inp a p r i x
  pusher inp a zero r i x e = absurd (none-some x e)
  pusher inp a (suc p) r i x e = elim (cases_lt i (length (sent f inp a p r))) [
    | inl l ↦ (
        let h = pusher inp a p r i x (sym (get_left (sent f inp a p r) (pushed f inp a (run f inp a p) r (f.wants a (run f inp a p).memory)) i l) ∙ e) in
        record { at = h.at; early = (let k = h.early in omega (arith, k)); move = h.move; number = h.number; item = h.item })
    | inr g ↦ last g (f.wants a (run f inp a p).memory) refl (sym (get_right (sent f inp a p r) (pushed f inp a (run f inp a p) r (f.wants a (run f inp a p).memory)) i g) ∙ e)
  ]
    where
      last : length (sent f inp a p r) ≤ i → (o : Option Move) → f.wants a (run f inp a p).memory ≡ o → slice_get (pushed f inp a (run f inp a p) r o) (i - length (sent f inp a p r)) ≡ Some x → Pusher inp a (suc p) r i x
      last g None c h = absurd (none-some x h)
      last g (Some (Pop q)) c h = absurd (none-some x h)
      last g (Some (Push q)) c h = elim (ring_is r q) [
        | inl n ↦ absurd (none-some x (sym (ap (λ b. slice_get (if b then f.giving a r (run f inp a p).memory ∷ [] else []) (i - length (sent f inp a p r))) n) ∙ h))
        | inr y ↦ (
            let k = sym (ap (λ b. slice_get (if b then f.giving a r (run f inp a p).memory ∷ [] else []) (i - length (sent f inp a p r))) y.0) ∙ h in
            let w = slice_get_within (f.giving a r (run f inp a p).memory ∷ []) (i - length (sent f inp a p r)) x k in
            let z : i - length (sent f inp a p r) ≡ 0 = omega (arith, w) in
            let n = sent_length inp a p r in
            record {
              at = p;
              early = omega arith;
              move = c ∙ ap (λ t. Some (Push t)) (sym y.1);
              number = omega (arith, n, g, z);
              item = sym (same_Some _ _ (sym (ap (λ j. slice_get (f.giving a r (run f inp a p).memory ∷ []) j) z) ∙ k));
            })
      ]

module _ {X M : Type 0} (f : Flow X M) (streams : Ring → List X) (ties : PopsTied f.net) (firsts : (r : Ring) → f.net.first r ≡ length (f.initial r)) (solves : Solves f streams)
    (ps : List ℕ) (inp : Ring → List X) (lists : AreLists f ps inp) where
  abbrev scr : ℕ → Script
  scr = f.net.script

  abbrev key : ℕ → ℕ → ℕ
  key a q = (cursor (scr a) q).step * f.net.actors + a

  abbrev Same : ℕ → Type 0
  Same n = (a p : ℕ) → a < f.net.actors → p ≤ place ps a → ((q : ℕ) → q < p → key a q < n) → run f inp a p ≡ run f streams a p

  -- along the streams the moves are those of the script
  pub counted : (a p : ℕ) (m : Move) → a < f.net.actors → times m (run f streams a p).moves ≡ done_at (scr a) m (cursor (scr a) p)
  counted a zero m l = refl
  counted a (suc p) m l = ap (λ o. times m (after f streams a (run f streams a p) o).moves) (solves.follows a p l) ∙ one (counted a p m l) (coming (scr a) p) refl
    where
      one : times m (run f streams a p).moves ≡ done_at (scr a) m (cursor (scr a) p) → (o : Option Move) → coming (scr a) p ≡ o → times m (after f streams a (run f streams a p) o).moves ≡ done_at (scr a) m (cursor (scr a) (suc p))
      one i None e = let d = done_idle (scr a) m (cursor (scr a) p) e in omega (arith, i, d)
      one i (Some (Push r)) e = let d = done_next (scr a) m (Push r) (cursor (scr a) p) e in omega (arith, i, d)
      one i (Some (Pop r)) e = let d = done_next (scr a) m (Pop r) (cursor (scr a) p) e in omega (arith, i, d)

  -- all places before p have keys below n, or there is a first that has not
  record Late (a p n : ℕ) : Type 0 where
    at : ℕ
    early : at < p
    late : n ≤ key a at
    first : (q : ℕ) → q < at → key a q < n

  look : (a p n : ℕ) → ((q : ℕ) → q < p → key a q < n) ⊎ Late a p n
  look a zero n = inl (λ q l. absurd (omega (arith, l)))
  look a (suc p) n = elim (look a p n) [
    | inl all ↦ (elim (cases_lt (key a p) n) [
      | inl y ↦ inl (λ q l. elim (cases_lt q p) [ inl s ↦ all q s | inr g ↦ (let e : p ≡ q = omega (arith, l, g) in subst (λ j. key a j < n) e y) ])
      | inr g ↦ inr (record { at = p; early = omega arith; late = g; first = all })
    ])
    | inr h ↦ inr (record { at = h.at; early = (let k = h.early in omega (arith, k)); late = h.late; first = h.first })
  ]

  behind : (a b k j : ℕ) → a < f.net.actors → b < f.net.actors → k * f.net.actors + a ≤ j * f.net.actors + b → Behind a k b j
  behind a b k j l u h = (
    elim (cases_lt j k) [ inl o ↦ absurd (let m = mul-le-mul_right f.net.actors (let t : suc j ≤ k = omega (arith, o) in t) in omega (arith, m, h, u)) | inr g ↦ g ],
    λ e. elim (cases_lt k j) [ inl o ↦ o | inr g ↦ absurd (let m = mul-le-mul_right f.net.actors g in omega (arith, m, h, e)) ],
  )

  -- an item that was sent by places that are known is that of the stream
  item_same : (b p i : ℕ) (r : Ring) (x : X) → b < f.net.actors → (h : Pusher f inp b p r i x) → run f inp b h.at ≡ run f streams b h.at → slice_get (streams r) (length (f.initial r) + i) ≡ Some x
  item_same b p i r x l h m =
      let w = sym (ap (λ s. f.wants b s.memory) m) ∙ h.move in
      let n = counted b h.at (Push r) l in
      let o = ap (λ s. times (Push r) s.moves) m in
      let c = h.number in
      let e : done_at (scr b) (Push r) (cursor (scr b) h.at) ≡ i = omega (arith, n, o, c) in
      ap (λ j. slice_get (streams r) (length (f.initial r) + j)) (sym e) ∙ solves.gives b h.at r l (sym (solves.follows b h.at l) ∙ w) ∙ ap Some (ap (λ s. f.giving b r s.memory) (sym m) ∙ sym h.item)

  -- an item of a ring, from the start or pushed by places that are known
  ring_same : (b p i : ℕ) (r : Ring) (x : X) → b < f.net.actors → slice_get (f.initial r ++ sent f inp b p r) i ≡ Some x →
      ((h : Pusher f inp b p r (i - length (f.initial r)) x) → length (f.initial r) ≤ i → run f inp b h.at ≡ run f streams b h.at) → slice_get (streams r) i ≡ Some x
  ring_same b p i r x l e known = elim (cases_lt i (length (f.initial r))) [
    | inl m ↦ solves.starts r i m ∙ sym (get_left (f.initial r) (sent f inp b p r) i m) ∙ e
    | inr g ↦ (
        let h = pusher f inp b p r (i - length (f.initial r)) x (sym (get_right (f.initial r) (sent f inp b p r) i g) ∙ e) in
        ap (slice_get (streams r)) (omega (arith, g)) ∙ item_same b p (i - length (f.initial r)) r x l h (known h g))
  ]

  -- an actor that wants nothing stays so
  stopped : (b p q : ℕ) → p ≤ q → f.wants b (run f inp b p).memory ≡ None → run f inp b q ≡ run f inp b p
  stopped b p zero l n = let e : 0 ≡ p = omega (arith, l) in ap (run f inp b) e
  stopped b p (suc q) l n = elim (cases_lt p (suc q)) [
    | inl m ↦ (let s = stopped b p q (omega (arith, m)) n in ap (λ s. after f inp b s (f.wants b s.memory)) s ∙ ap (after f inp b (run f inp b p)) n)
    | inr g ↦ (let e : suc q ≡ p = omega (arith, l, g) in ap (run f inp b) e)
  ]

  popped : (n a p : ℕ) (r : Ring) → Same n → a < f.net.actors → suc p ≤ place ps a → key a p < suc n → run f inp a p ≡ run f streams a p → coming (scr a) p ≡ Some (Pop r) →
      PopLaw f.net a (cursor (scr a) p).step (Pop r) → slice_get (inp r) (times (Pop r) (run f streams a p).moves) ≡ slice_get (streams r) (times (Pop r) (run f streams a p).moves)
  popped n a p r same l w k m e law =
      let i = times (Pop r) (run f streams a p).moves in
      let wi = ap (λ s. f.wants a s.memory) m ∙ solves.follows a p l ∙ e in
      let c = ap (λ o. times (Pop r) (after f inp a (run f inp a p) o).moves) wi in
      let o = hit_self (Pop r) in
      let z = moves_rise f inp a (suc p) (place ps a) (Pop r) w in
      let y = ap (λ b. times (Pop r) (run f inp b (place ps b)).moves) law.0 in
      let g = lists.popped r in
      let q = ap (λ s. times (Pop r) s.moves) m in
      let within : i < length (inp r) = omega (arith, c, o, z, y, g, q) in
      let x = item_at (inp r) i within in
      x.1 ∙ sym (ring_same (f.net.maker r) (place ps (f.net.maker r)) i r x.0 law.1 (lists.in_order r i within ∙ x.1) (λ h g. known x.0 h g))
    where
      known : (x : X) (h : Pusher f inp (f.net.maker r) (place ps (f.net.maker r)) r (times (Pop r) (run f streams a p).moves - length (f.initial r)) x) →
          length (f.initial r) ≤ times (Pop r) (run f streams a p).moves → run f inp (f.net.maker r) h.at ≡ run f streams (f.net.maker r) h.at
      known x h g = elim (look (f.net.maker r) h.at (key a p)) [
        | inl all ↦ same (f.net.maker r) h.at law.1 (let v = h.early in omega (arith, v)) (λ q v. (let c = all q v in omega (arith, c, k)))
        | inr late ↦ (
            let b = f.net.maker r in
            let u = law.1 in
            let s = same b late.at u (let v = h.early in let o = late.early in omega (arith, v, o)) (λ q v. (let c = late.first q v in omega (arith, c, k))) in
            let beh = behind a b (cursor (scr a) p).step (cursor (scr b) late.at).step l u late.late in
            let fi = firsts r in
            let c = done_lt (scr a) (Pop r) (cursor (scr a) p) e in
            let ca = counted a p (Pop r) l in
            let cb = counted b late.at (Push r) u in
            let sb = ap (λ s. times (Push r) s.moves) s in
            let up = moves_rise f inp b late.at h.at (Push r) (let o = late.early in omega (arith, o)) in
            let num = h.number in
            let w = ap (λ s. f.wants b s.memory) s ∙ solves.follows b late.at u in
            elim (law.2 (cursor (scr b) late.at).step beh) [
              | inl lw ↦ absurd (omega (arith, lw, c, ca, cb, sb, up, num, g, fi))
              | inr none ↦ absurd (
                  let idle = ap (λ xs. slice_get xs (cursor (scr b) late.at).done) (none (cursor (scr b) late.at).step (omega arith)) in
                  let still = stopped b late.at h.at (let o = late.early in omega (arith, o)) (w ∙ idle) in
                  none-some (Push r) (sym (w ∙ idle) ∙ sym (ap (λ s. f.wants b s.memory) still) ∙ h.move))
            ])
      ]

  inner : (n : ℕ) → Same n → Same (suc n)
  inner n same a zero l w early = refl
  inner n same a (suc p) l w early = start (inner n same a p l (omega (arith, w)) (λ q h. early q (omega (arith, h))))
    where
      one : run f inp a p ≡ run f streams a p → (o : Option Move) → coming (scr a) p ≡ o → after f inp a (run f streams a p) o ≡ after f streams a (run f streams a p) o
      one m None e = refl
      one m (Some (Push r)) e = refl
      one m (Some (Pop r)) e =
          let t = each_at (PopLaw f.net a (cursor (scr a) p).step) (scr a (cursor (scr a) p).step) (cursor (scr a) p).done (Pop r) (ties a (cursor (scr a) p).step l) e in
          let s = run f streams a p in
          ap (λ v. let u : Run M = record { memory = taken f inp a r s.memory v; moves = Pop r ∷ s.moves } in u) (popped n a p r same l w (early p (omega arith)) m e t)

      start : run f inp a p ≡ run f streams a p → run f inp a (suc p) ≡ run f streams a (suc p)
      start m =
          ap (λ s. after f inp a s (f.wants a s.memory)) m
          ∙ ap (after f inp a (run f streams a p)) (solves.follows a p l)
          ∙ one m (coming (scr a) p) refl
          ∙ ap (after f streams a (run f streams a p)) (sym (solves.follows a p l))

  same : (n : ℕ) → Same n
  same zero a zero l w early = refl
  same zero a (suc p) l w early = absurd (let k = early 0 (omega arith) in omega (arith, k))
  same (suc n) a p l w early = inner n (same n) a p l w early

  pub run_same : (a p : ℕ) → a < f.net.actors → p ≤ place ps a → run f inp a p ≡ run f streams a p
  run_same a p l w = same (suc (key a p)) a p l w (λ q h. (let u = mul-le-mul_right f.net.actors (step_rises (scr a) q p (omega (arith, h))) in omega (arith, u)))

  pub sent_begins : (a : ℕ) (r : Ring) → a < f.net.actors → Begins (f.initial r ++ sent f inp a (place ps a) r) (streams r)
  sent_begins a r l i w =
      let x = item_at (f.initial r ++ sent f inp a (place ps a) r) i w in
      ring_same a (place ps a) i r x.0 l x.1 (λ h g. run_same a h.at l (let v = h.early in omega (arith, v))) ∙ sym x.1

pub streams_begin : (X M : Type 0) → Streams X M
streams_begin X M f streams ties firsts solves ps inp lists a l =
    (run_same f streams ties firsts solves ps inp lists a (place ps a) l (omega arith), λ r. sent_begins f streams ties firsts solves ps inp lists a r l)
