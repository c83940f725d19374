-- Each event keeps what was received a prefix of what was sent. An actor's run reads only the items below
-- its own counts of pops, so lists that grow change nothing of what was.
use Rattle.std.proofs.Common.{inl, inr, ◌≡◌, ℕ, ◌+◌, ◌-◌, ◌<◌, Bool, true, false, List, [], ◌∷◌, ◌++◌, Option, Some, None, refl, sym, ap, ◌∙◌, subst, arith, append_assoc, append-nil}
use Rattle.std.specs.Prelude.{◌≢◌, zero, suc, length, slice_get, if◌then◌else◌}
use Rattle.std.proofs.lemmas.Bool.{cases_lt, cases_eq}
use Rattle.std.proofs.lemmas.List.{get_or-set_same, get_or-set_other, length-set, length-append}
use Rattle.std.proofs.lemmas.Option.{slice_get_within}
use Rattle.pipe_laws.specs.Machine.{Ring, Move, Push, Pop, same_ring, hit, times, place, moved}
use Rattle.pipe_laws.specs.Flow.{Flow, Run, taken, after, run, pushed, sent, Begins}
use Rattle.pipe_laws.specs.World.{World, gain, actor, put_in, wish, Allowed, happens, Owns, IsWorld, Worlds}
use Rattle.pipe_laws.proofs.Counts.{hit_self, hit_is, ring_is}
use Rattle.pipe_laws.proofs.FlowLemmas.{get_left, get_right, item_at, moves_rise}

begins_within : {A : Type 0} → (xs ys : List A) → Begins xs ys → (i : ℕ) → i < length xs → i < length ys
begins_within xs ys h i l = let x = item_at xs i l in slice_get_within ys i x.0 (h i l ∙ x.1)

begins_more : {A : Type 0} → (xs ys zs : List A) → Begins xs ys → Begins xs (ys ++ zs)
begins_more xs ys zs h i l = get_left ys zs i (begins_within xs ys h i l) ∙ h i l

module _ {X M : Type 0} (f : Flow X M) (owns : Owns f) where
  -- an actor pops on its own rings alone
  others : (inp : Ring → List X) (a p : ℕ) (r : Ring) → f.net.taker r ≢ a → times (Pop r) (run f inp a p).moves ≡ 0
  others inp a zero r n = refl
  others inp a (suc p) r n = one (others inp a p r n) (f.wants a (run f inp a p).memory) refl
    where
      one : times (Pop r) (run f inp a p).moves ≡ 0 → (o : Option Move) → f.wants a (run f inp a p).memory ≡ o → times (Pop r) (after f inp a (run f inp a p) o).moves ≡ 0
      one i None e = i
      one i (Some (Push q)) e = omega (arith, i)
      one i (Some (Pop q)) e = elim (hit_is (Pop r) (Pop q)) [
        | inl z ↦ omega (arith, i, z)
        | inr y ↦ absurd (n (owns.pops a (run f inp a p).memory r (e ∙ ap Some (sym y.1))))
      ]

  -- what is received later changes nothing before
  stable : (inp inp' : Ring → List X) (a p : ℕ) → ((r : Ring) (i : ℕ) → i < times (Pop r) (run f inp a p).moves → slice_get (inp' r) i ≡ slice_get (inp r) i) → run f inp' a p ≡ run f inp a p
  stable inp inp' a zero h = refl
  stable inp inp' a (suc p) h =
      ap (λ s. after f inp' a s (f.wants a s.memory)) (stable inp inp' a p (λ r i l. h r i (let u = moves_rise f inp a p (suc p) (Pop r) (omega arith) in omega (arith, l, u))))
      ∙ one (f.wants a (run f inp a p).memory) refl
    where
      one : (o : Option Move) → f.wants a (run f inp a p).memory ≡ o → after f inp' a (run f inp a p) o ≡ after f inp a (run f inp a p) o
      one None e = refl
      one (Some (Push r)) e = refl
      one (Some (Pop r)) e =
          let s = run f inp a p in
          let o = hit_self (Pop r) in
          let c = ap (λ o. times (Pop r) (after f inp a s o).moves) e in
          ap (λ v. let u : Run M = record { memory = taken f inp a r s.memory v; moves = Pop r ∷ s.moves } in u) (h r (times (Pop r) s.moves) (omega (arith, c, o)))

  sent_stable : (inp inp' : Ring → List X) (a p : ℕ) (q : Ring) → ((r : Ring) (i : ℕ) → i < times (Pop r) (run f inp a p).moves → slice_get (inp' r) i ≡ slice_get (inp r) i) → sent f inp' a p q ≡ sent f inp a p q
  sent_stable inp inp' a zero q h = refl
  sent_stable inp inp' a (suc p) q h =
      let g : (r : Ring) (i : ℕ) → i < times (Pop r) (run f inp a p).moves → slice_get (inp' r) i ≡ slice_get (inp r) i = λ r i l. h r i (let u = moves_rise f inp a p (suc p) (Pop r) (omega arith) in omega (arith, l, u)) in
      ap (λ s. sent f inp' a p q ++ pushed f inp' a s q (f.wants a s.memory)) (stable inp inp' a p g)
      ∙ ap (λ l. l ++ pushed f inp' a (run f inp a p) q (f.wants a (run f inp a p).memory)) (sent_stable inp inp' a p q g)
      ∙ ap (λ l. sent f inp a p q ++ l) (same_pushed (f.wants a (run f inp a p).memory))
    where
      same_pushed : (o : Option Move) → pushed f inp' a (run f inp a p) q o ≡ pushed f inp a (run f inp a p) q o
      same_pushed None = refl
      same_pushed (Some (Pop r)) = refl
      same_pushed (Some (Push r)) = refl

  module _ (w : World X) (is : IsWorld f w) where
    pops_within : (a : ℕ) (r : Ring) (i : ℕ) → i < times (Pop r) (actor f w a).moves → i < length (w.received r)
    pops_within a r i l = elim (cases_eq (f.net.taker r) a) [
      | inl e ↦ (let p = is.popped r in let q = ap (λ b. times (Pop r) (actor f w b).moves) e in omega (arith, l, p, q))
      | inr n ↦ absurd (let z = others w.received a (place w.places a) r n in omega (arith, l, z))
    ]

    -- one more move of a over lists that only grew
    module _ (a : ℕ) (l : a < f.net.actors) (inp : Ring → List X) (grew : (r : Ring) (i : ℕ) → i < length (w.received r) → slice_get (inp r) i ≡ slice_get (w.received r) i) where
      abbrev w' : World X
      w' = record { places = moved w.places a; received = inp }

      kept : (b : ℕ) → run f inp b (place w.places b) ≡ actor f w b
      kept b = stable w.received inp b (place w.places b) (λ r i m. grew r i (pops_within b r i m))

      mine : actor f w' a ≡ after f inp a (actor f w a) (wish f w a)
      mine = ap (run f inp a) (get_or-set_same w.places a (suc (place w.places a)) 0 (let n = is.actors in omega (arith, n, l))) ∙ ap (λ s. after f inp a s (f.wants a s.memory)) (kept a)

      theirs : (b : ℕ) → b ≢ a → actor f w' b ≡ actor f w b
      theirs b n = ap (run f inp b) (get_or-set_other w.places a b (suc (place w.places a)) 0 n) ∙ kept b

      sent_kept : (b : ℕ) (r : Ring) → sent f inp b (place w.places b) r ≡ sent f w.received b (place w.places b) r
      sent_kept b r = sent_stable w.received inp b (place w.places b) r (λ q i m. grew q i (pops_within b q i m))

      -- what was put in only grows
      put_more : (r : Ring) → (zs : List X) × (put_in f w' r ≡ put_in f w r ++ zs)
      put_more r = elim (cases_eq (f.net.maker r) a) [
        | inl e ↦ (
            let m = f.net.maker r in
            let z = pushed f inp m (run f inp m (place w.places m)) r (f.wants m (run f inp m (place w.places m)).memory) in (
              z,
              ap (λ p. f.initial r ++ sent f inp m p r) (subst (λ i. place (moved w.places a) i ≡ suc (place w.places i)) (sym e) (get_or-set_same w.places a (suc (place w.places a)) 0 (let n = is.actors in omega (arith, n, l))))
                  ∙ ap (λ s. f.initial r ++ (s ++ z)) (sent_kept m r) ∙ sym (append_assoc (f.initial r) (sent f w.received m (place w.places m) r) z),
            ))
        | inr n ↦ ([], ap (λ p. f.initial r ++ sent f inp (f.net.maker r) p r) (get_or-set_other w.places a (f.net.maker r) (suc (place w.places a)) 0 n) ∙ ap (λ s. f.initial r ++ s) (sent_kept (f.net.maker r) r) ∙ sym (append-nil (put_in f w r)))
      ]

      still : (r : Ring) (xs : List X) → Begins xs (put_in f w r) → Begins xs (put_in f w' r)
      still r xs h = let z = put_more r in subst (λ ys. Begins xs ys) (sym z.1) (begins_more xs (put_in f w r) z.0 h)

    abbrev got_list : Ring → Ring → List X
    got_list r q = if same_ring r q then gain (w.received q) (slice_get (put_in f w q) (length (w.received q))) else w.received q

    gain_grows : (xs : List X) (o : Option X) (i : ℕ) → i < length xs → slice_get (gain xs o) i ≡ slice_get xs i
    gain_grows xs None i l = refl
    gain_grows xs (Some x) i l = get_left xs (x ∷ []) i l

    event : (a : ℕ) → a < f.net.actors → (o : Option Move) → wish f w a ≡ o → Allowed f w o → IsWorld f (happens f w a o)
    event a l None e ok = absurd ok
    event a l (Some (Push r)) e ok = record {
      actors = length-set w.places a (suc (place w.places a)) ∙ is.actors;
      popped = λ q. elim (cases_eq (f.net.taker q) a) [
        | inl t ↦ (
            let m = ap (λ s. times (Pop q) s.moves) (mine a l w.received (λ r i l. refl)) in
            let c = ap (λ o. times (Pop q) (after f w.received a (actor f w a) o).moves) e in
            let p = is.popped q in
            let u = ap (λ b. times (Pop q) (actor f w b).moves) t in
            let v = ap (λ b. times (Pop q) (actor f (record { places = moved w.places a; received = w.received }) b).moves) t in
            omega (arith, m, c, p, u, v))
        | inr n ↦ ap (λ s. times (Pop q) s.moves) (theirs a l w.received (λ r i l. refl) (f.net.taker q) n) ∙ is.popped q
      ];
      in_order = λ q. still a l w.received (λ r i l. refl) q (w.received q) (is.in_order q);
    }
    event a l (Some (Pop r)) e ok = record {
      actors = length-set w.places a (suc (place w.places a)) ∙ is.actors;
      popped = λ q. elim (cases_eq (f.net.taker q) a) [
        | inl t ↦ (
            let m = ap (λ s. times (Pop q) s.moves) (mine a l (got_list r) grew) in
            let c = ap (λ o. times (Pop q) (after f (got_list r) a (actor f w a) o).moves) e in
            let p = is.popped q in
            let u = ap (λ b. times (Pop q) (actor f w b).moves) t in
            let v = ap (λ b. times (Pop q) (actor f (record { places = moved w.places a; received = got_list r }) b).moves) t in
            elim (ring_is r q) [
              | inl z ↦ (
                  let g = ap (λ b. length (if b then gain (w.received q) (slice_get (put_in f w q) (length (w.received q))) else w.received q)) z in
                  elim (hit_is (Pop q) (Pop r)) [
                    | inl y ↦ omega (arith, m, c, p, u, v, g, y)
                    | inr y ↦ absurd (ring_differs q r z y.1)
                  ])
              | inr z ↦ (
                  let g = ap (λ b. length (if b then gain (w.received q) (slice_get (put_in f w q) (length (w.received q))) else w.received q)) z.0 in
                  let h = ap (λ x. hit (Pop q) (Pop x)) z.1 in let o = hit_self (Pop q) in
                  let n = gains q (subst (λ x. length (w.received x) < length (put_in f w x)) z.1 ok) in
                  omega (arith, m, c, p, u, v, g, h, o, n))
            ])
        | inr n ↦ ap (λ s. times (Pop q) s.moves) (theirs a l (got_list r) grew (f.net.taker q) n) ∙ is.popped q ∙ elim (ring_is r q) [
          | inl z ↦ sym (ap (λ b. length (if b then gain (w.received q) (slice_get (put_in f w q) (length (w.received q))) else w.received q)) z)
          | inr z ↦ absurd (n (ap f.net.taker (sym z.1) ∙ owns.pops a (actor f w a).memory r e))
        ]
      ];
      in_order = λ q. still a l (got_list r) grew q (got_list r q) (elim (ring_is r q) [
        | inl z ↦ subst (λ b. Begins (if b then gain (w.received q) (slice_get (put_in f w q) (length (w.received q))) else w.received q) (put_in f w q)) (sym z) (is.in_order q)
        | inr z ↦ subst (λ b. Begins (if b then gain (w.received q) (slice_get (put_in f w q) (length (w.received q))) else w.received q) (put_in f w q)) (sym z.0)
            (one_more (w.received q) (put_in f w q) (is.in_order q) (subst (λ x. length (w.received x) < length (put_in f w x)) z.1 ok))
      ]);
    }
      where
        grew : (q : Ring) (i : ℕ) → i < length (w.received q) → slice_get (got_list r q) i ≡ slice_get (w.received q) i
        grew q i l = by (same_ring r q)
          where
            by : (b : Bool) → slice_get (if b then gain (w.received q) (slice_get (put_in f w q) (length (w.received q))) else w.received q) i ≡ slice_get (w.received q) i
            by true = gain_grows (w.received q) (slice_get (put_in f w q) (length (w.received q))) i l
            by false = refl

        ring_differs : (q r : Ring) → same_ring r q ≡ false → Pop q ≡ Pop r → ⊥
        ring_differs q r z y =
            let a = ap (λ b. (if b then 1 else 0)) z in
            let b : hit (Pop r) (Pop q) ≡ hit (Pop r) (Pop r) = ap (hit (Pop r)) y in
            let c = hit_self (Pop r) in
            let d : hit (Pop r) (Pop q) ≡ 0 = a in absurd (omega (arith, b, c, d))

        gains : (q : Ring) → length (w.received q) < length (put_in f w q) → length (gain (w.received q) (slice_get (put_in f w q) (length (w.received q)))) ≡ length (w.received q) + 1
        gains q l = let x = item_at (put_in f w q) (length (w.received q)) l in ap (λ o. length (gain (w.received q) o)) x.1 ∙ length-append (w.received q) (x.0 ∷ [])

        one_more : (xs ys : List X) → Begins xs ys → length xs < length ys → Begins (gain xs (slice_get ys (length xs))) ys
        one_more xs ys h l =
            let x = item_at ys (length xs) l in
            subst (λ o. Begins (gain xs o) ys) (sym x.1) (λ i m. elim (cases_lt i (length xs)) [
              | inl s ↦ h i s ∙ sym (get_left xs (x.0 ∷ []) i s)
              | inr g ↦ (
                  let n = length-append xs (x.0 ∷ []) in
                  let e : length xs ≡ i = omega (arith, m, g, n) in
                  subst (λ j. slice_get ys j ≡ slice_get (xs ++ x.0 ∷ []) j) e (x.1 ∙ sym (get_right xs (x.0 ∷ []) (length xs) (omega arith) ∙ ap (slice_get (x.0 ∷ [])) (let z : length xs - length xs ≡ 0 = omega arith in z))))
            ])

pub worlds : (X M : Type 0) → Worlds X M
worlds X M f owns w [] is r = is
worlds X M f owns w (a ∷ rest) is r = worlds X M f owns (happens f w a (wish f w a)) rest (event f owns w is a r.0 (wish f w a) refl r.1) r.2
