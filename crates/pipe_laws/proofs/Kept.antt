-- Each step that can be taken keeps a state. An actor is a ring's maker, its taker or neither, so of a
-- ring's two counts at most one changes, by at most one.
use Rattle.std.proofs.Common.{inl, inr, ◌≡◌, ℕ, ◌+◌, ◌<◌, ◌≤◌, List, [], ◌∷◌, Option, Some, None, refl, sym, ap, ◌∙◌, subst, arith}
use Rattle.std.specs.Prelude.{◌≢◌, suc, length}
use Rattle.std.proofs.lemmas.Bool.{cases_eq}
use Rattle.std.proofs.lemmas.List.{get_or-set_same, get_or-set_other, length-set}
use Rattle.pipe_laws.specs.Machine.{Ring, Move, Push, Pop, hit, cursor, coming, done_at, Net, place, put, got, Finds, moved, IsState, Apart, StatesKept}
use Rattle.pipe_laws.proofs.Counts.{done_next, hit_is}

module _ (net : Net) (ps : List ℕ) where
  abbrev count_of : List ℕ → Move → ℕ → ℕ
  count_of qs m a = done_at (net.script a) m (cursor (net.script a) (place qs a))

  self : (a : ℕ) (m x : Move) → a < length ps → coming (net.script a) (place ps a) ≡ Some x → count_of (moved ps a) m a ≡ count_of ps m a + hit m x
  self a m x h e = ap (λ p. done_at (net.script a) m (cursor (net.script a) p)) (get_or-set_same ps a (suc (place ps a)) 0 h) ∙ done_next (net.script a) m x (cursor (net.script a) (place ps a)) e

  other : (a b : ℕ) (m : Move) → b ≢ a → count_of (moved ps a) m b ≡ count_of ps m b
  other a b m n = ap (λ p. done_at (net.script b) m (cursor (net.script b) p)) (get_or-set_other ps a b (suc (place ps a)) 0 n)

  -- a ring's two counts after a step
  step_ring : Apart net → (a : ℕ) (x : Move) → a < length ps → coming (net.script a) (place ps a) ≡ Some x → Finds net ps (Some x) → (r : Ring) →
      got net ps r ≤ put net ps r → put net ps r ≤ got net ps r + net.slots r →
      (got net (moved ps a) r ≤ put net (moved ps a) r) × (put net (moved ps a) r ≤ got net (moved ps a) r + net.slots r)
  step_ring apart a x h e f r items room = elim (cases_eq (net.maker r) a) [
    | inl m ↦ (
        let t = other a (net.taker r) (Pop r) (λ o. apart r (m ∙ sym o)) in
        let p = ap (count_of (moved ps a) (Push r)) m ∙ self a (Push r) x h e ∙ ap (λ n. n + hit (Push r) x) (ap (count_of ps (Push r)) (sym m)) in
        elim (hit_is (Push r) x) [
          | inl z ↦ (omega (arith, t, p, z, items), omega (arith, t, p, z, room))
          | inr z ↦ (let g = subst (λ y. Finds net ps (Some y)) (sym z.1) f in let o = z.0 in (omega (arith, t, p, o, items), omega (arith, t, p, o, room, g)))
        ])
    | inr m ↦ (
        let p = other a (net.maker r) (Push r) m in
        elim (cases_eq (net.taker r) a) [
          | inl t ↦ (
              let q = ap (count_of (moved ps a) (Pop r)) t ∙ self a (Pop r) x h e ∙ ap (λ n. n + hit (Pop r) x) (ap (count_of ps (Pop r)) (sym t)) in
              elim (hit_is (Pop r) x) [
                | inl z ↦ (omega (arith, q, p, z, items), omega (arith, q, p, z, room))
                | inr z ↦ (let g = subst (λ y. Finds net ps (Some y)) (sym z.1) f in let o = z.0 in (omega (arith, q, p, o, items, g), omega (arith, q, p, o, room)))
              ])
          | inr t ↦ (let q = other a (net.taker r) (Pop r) t in (omega (arith, q, p, items), omega (arith, q, p, room)))
        ])
  ]

  step_state : Apart net → (a : ℕ) (o : Option Move) → coming (net.script a) (place ps a) ≡ o → a < net.actors → Finds net ps o → IsState net ps → IsState net (moved ps a)
  step_state apart a None e h f s = absurd f
  step_state apart a (Some x) e h f s =
      let w : a < length ps = (let l = s.actors in omega (arith, l, h)) in
      record { actors = length-set ps a (suc (place ps a)) ∙ s.actors; items = λ r. (step_ring apart a x w e f r (s.items r) (s.room r)).0; room = λ r. (step_ring apart a x w e f r (s.items r) (s.room r)).1 }

pub kept : StatesKept
kept net apart ps [] s r = s
kept net apart ps (a ∷ rest) s r = kept net apart (moved ps a) rest (step_state net ps apart a _ refl r.0.0 r.0.1 s) r.1
