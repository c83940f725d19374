-- Some actor can always move. Among the actors at the least step take the first in the order of data
-- flow. All that its next move waits for comes from an actor that stands behind it, by step and then by
-- data flow, and that actor has done it.
use Rattle.std.proofs.Common.{inl, inr, ◌≡◌, ℕ, ◌<◌, ◌≤◌, List, Option, Some, None, refl, sym, ap, ◌∙◌, subst, arith}
use Rattle.std.specs.Prelude.{zero, suc, length}
use Rattle.std.proofs.lemmas.Bool.{cases_lt}
use Rattle.std.proofs.lemmas.Option.{slice_get-get_or, none-some}
use Rattle.pipe_laws.specs.Machine.{Free, Move, Push, Pop, cursor, coming, done_at, Net, place, Finds, Can, Law, Tied, NeverStuck}
use Rattle.pipe_laws.proofs.Counts.{each_at, done_lt, cursor_within}

record Least (f : ℕ → ℕ) (n : ℕ) : Type 0 where
  at : ℕ
  within : at < n
  least : (b : ℕ) → b < n → f at ≤ f b
  first : (b : ℕ) → b < at → f at < f b

least_of : (f : ℕ → ℕ) (n : ℕ) → 0 < n → Least f n
least_of f zero h = absurd (omega (arith, h))
least_of f (suc zero) h = record { at = 0; within = omega arith; least = λ b l. (let e : b ≡ 0 = omega (arith, l) in subst (λ i. f 0 ≤ f i) (sym e) (omega arith)); first = λ b l. absurd (omega (arith, l)) }
least_of f (suc (suc n)) h =
    let r = least_of f (suc n) (omega arith) in
    elim (cases_lt (f (suc n)) (f r.at)) [
      | inl l ↦ record {
        at = suc n;
        within = omega arith;
        least = λ b m. elim (cases_lt b (suc n)) [ inl o ↦ (let q = r.least b o in omega (arith, q, l)) | inr o ↦ (let e : b ≡ suc n = omega (arith, m, o) in subst (λ i. f (suc n) ≤ f i) (sym e) (omega arith)) ];
        first = λ b m. (let q = r.least b m in omega (arith, q, l));
      }
      | inr g ↦ record {
        at = r.at;
        within = (let w = r.within in omega (arith, w));
        least = λ b m. elim (cases_lt b (suc n)) [ inl o ↦ r.least b o | inr o ↦ (let e : b ≡ suc n = omega (arith, m, o) in subst (λ i. f r.at ≤ f i) (sym e) g) ];
        first = r.first;
      }
    ]

module _ (net : Net) (last : ℕ) (tied : Tied net last) (ps : List ℕ) where
  step_of : ℕ → ℕ
  step_of a = (cursor (net.script a) (place ps a)).step

  abbrev count_of : Move → ℕ → ℕ
  count_of m a = done_at (net.script a) m (cursor (net.script a) (place ps a))

  finds : (l : Least step_of net.actors) → (cursor (net.script l.at) (place ps l.at)).step ≤ last → (o : Option Move) → coming (net.script l.at) (place ps l.at) ≡ o → Finds net ps o
  unfolding step_of
  finds l k None e =
      let s = net.script l.at in let c = cursor s (place ps l.at) in
      let n = tied.some_left l.at c.step l.within k in
      let w : c.done < length (s c.step) = elim (cursor_within s (place ps l.at)) [ inl z ↦ omega (arith, z, n) | inr z ↦ z ] in
      absurd (none-some _ (sym e ∙ slice_get-get_or (s c.step) c.done (Push Free) w))
  finds l k (Some (Pop r)) e =
      let s = net.script l.at in let c = cursor s (place ps l.at) in
      let t = each_at (Law net l.at c.step) (s c.step) c.done (Pop r) (tied.each l.at c.step l.within k) e in
      let law = t.2 (step_of (net.maker r)) (l.least (net.maker r) t.1, l.first (net.maker r)) in
      let d = done_lt s (Pop r) c e in
      let same = ap (count_of (Pop r)) t.0 in
      omega (arith, law, d, same)
  finds l k (Some (Push r)) e =
      let s = net.script l.at in let c = cursor s (place ps l.at) in
      let t = each_at (Law net l.at c.step) (s c.step) c.done (Push r) (tied.each l.at c.step l.within k) e in
      let law = t.2 (step_of (net.taker r)) (l.least (net.taker r) t.1, l.first (net.taker r)) in
      let d = done_lt s (Push r) c e in
      let same = ap (count_of (Push r)) t.0 in
      omega (arith, law, d, same)

  stuck_never : (w : ℕ) → w < net.actors → (cursor (net.script w) (place ps w)).step ≤ last → (a : ℕ) × Can net ps a
  unfolding step_of
  stuck_never w h k =
      let l = least_of step_of net.actors (omega (arith, h)) in
      let q = l.least w h in
      (l.at, (l.within, finds l (omega (arith, q, k)) _ refl))

pub never : NeverStuck
never net last tied ps w h k = stuck_never net last tied ps w h k
