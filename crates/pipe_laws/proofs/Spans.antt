-- How often a move stands in the steps before k, in numbers. A move that stands g times in each step from
-- lo to hi, and in no other, stands g * (min k hi - lo) times in the steps before k.
use Rattle.std.proofs.Common.{inl, inr, ◌≡◌, ℕ, ◌+◌, ◌-◌, ◌*◌, ◌<◌, ◌≤◌, min, Bool, true, false, List, [], ◌∷◌, ◌++◌, refl, sym, ap, ◌∙◌, subst, arith}
use Rattle.std.specs.Prelude.{◌≢◌, ◌==◌, if◌then◌else◌, zero, suc, length, get_or, replicate}
use Rattle.std.proofs.lemmas.Bool.Decides.{nat_tests, eqb_tells}
use Rattle.std.proofs.lemmas.Bool.{cases_lt}
use Rattle.pipe_laws.specs.Machine.{Feed, Move, Push, Pop, hit, times, Script, before, Each}
use Rattle.pipe_laws.specs.Pipe.{FeedShape, when, ins, outs}
use Rattle.pipe_laws.proofs.Counts.{hit_self}

-- a move that stands g times in each step from lo to hi, and in no other
pub before_span : (s : Script) (m : Move) (g lo hi : ℕ) → ((k : ℕ) → lo ≤ k → k < hi → times m (s k) ≡ g) → ((k : ℕ) → k < lo → times m (s k) ≡ 0) → ((k : ℕ) → hi ≤ k → times m (s k) ≡ 0) →
    (k : ℕ) → before s m k ≡ g * (min k hi - lo)
before_span s m g lo hi within low high zero = let e : min 0 hi - lo ≡ 0 = omega arith in (omega arith) ∙ sym (ap (λ n. g * n) e)
before_span s m g lo hi within low high (suc k) =
    let r = before_span s m g lo hi within low high k in
    elim (cases_lt k lo) [
      | inl l ↦ (
          let t = low k l in
          let a : min k hi - lo ≡ 0 = omega (arith, l) in
          let b : min (suc k) hi - lo ≡ 0 = omega (arith, l) in
          let a' = ap (λ n. g * n) a in let b' = ap (λ n. g * n) b in
          omega (arith, r, t, a', b'))
      | inr l ↦ elim (cases_lt k hi) [
        | inl u ↦ (
            let t = within k l u in
            let e : min (suc k) hi - lo ≡ (min k hi - lo) + 1 = omega (arith, l, u) in
            let e' = ap (λ n. g * n) e in
            omega (arith, r, t, e'))
        | inr u ↦ (
            let t = high k u in
            let e : min (suc k) hi - lo ≡ min k hi - lo = omega (arith, l, u) in
            let e' = ap (λ n. g * n) e in
            omega (arith, r, t, e'))
      ]
    ]

pub times_append : (m : Move) (xs ys : List Move) → times m (xs ++ ys) ≡ times m xs + times m ys
times_append m [] ys = omega arith
times_append m (x ∷ xs) ys = let e = times_append m xs ys in omega (arith, e)

pub times_replicate : (m x : Move) (g : ℕ) → times m (replicate g x) ≡ g * hit m x
times_replicate m x zero = omega arith
times_replicate m x (suc g) = let e = times_replicate m x g in omega (arith, e)

-- a move that is none of the feeds' moves
pub ins_none : (m : Move) → ((j : ℕ) → hit m (Pop (Feed j)) ≡ 0) → (s i : ℕ) (fs : List FeedShape) → times m (ins s i fs) ≡ 0
ins_none m z s i [] = refl
ins_none m z s i (f ∷ fs) =
    times_append m (when (f.reader == s) (replicate f.regs (Pop (Feed i)))) (ins s (suc i) fs)
    ∙ (let a = when_none (f.reader == s) in let b = ins_none m z s (suc i) fs in omega (arith, a, b))
  where
    when_none : (b : Bool) → times m (when b (replicate f.regs (Pop (Feed i)))) ≡ 0
    when_none true = times_replicate m (Pop (Feed i)) f.regs ∙ (let q = ap (λ n. f.regs * n) (z i) in omega (arith, q))
    when_none false = refl

pub outs_none : (m : Move) → ((j : ℕ) → hit m (Push (Feed j)) ≡ 0) → (s i : ℕ) (fs : List FeedShape) → times m (outs s i fs) ≡ 0
outs_none m z s i [] = refl
outs_none m z s i (f ∷ fs) =
    times_append m (when (f.source == s) (replicate f.regs (Push (Feed i)))) (outs s (suc i) fs)
    ∙ (let a = when_none (f.source == s) in let b = outs_none m z s (suc i) fs in omega (arith, a, b))
  where
    when_none : (b : Bool) → times m (when b (replicate f.regs (Push (Feed i)))) ≡ 0
    when_none true = times_replicate m (Push (Feed i)) f.regs ∙ (let q = ap (λ n. f.regs * n) (z i) in omega (arith, q))
    when_none false = refl

abbrev pub none : FeedShape
none = record { source = 1; reader = 0; regs = 0 }

feed_hit : (i j : ℕ) → i ≢ j → hit (Pop (Feed i)) (Pop (Feed j)) ≡ 0
feed_hit i j n = elim (eqb_tells i j) [ inl h ↦ absurd (n h.1) | inr h ↦ ap (λ b. if b then 1 else 0) h.0 ]

-- a feed that stands before those of the list
ins_before : (s i j : ℕ) (fs : List FeedShape) → j < i → times (Pop (Feed j)) (ins s i fs) ≡ 0
ins_before s i j [] l = refl
ins_before s i j (f ∷ fs) l =
    times_append (Pop (Feed j)) (when (f.reader == s) (replicate f.regs (Pop (Feed i)))) (ins s (suc i) fs)
    ∙ (let a = when_none (f.reader == s) in let b = ins_before s (suc i) j fs (omega (arith, l)) in omega (arith, a, b))
  where
    when_none : (b : Bool) → times (Pop (Feed j)) (when b (replicate f.regs (Pop (Feed i)))) ≡ 0
    when_none true = times_replicate (Pop (Feed j)) (Pop (Feed i)) f.regs ∙ (let q = ap (λ n. f.regs * n) (feed_hit j i (λ e. absurd (omega (arith, e, l)))) in omega (arith, q))
    when_none false = refl

pub ins_times : (i q : ℕ) (fs : List FeedShape) → q < length fs → times (Pop (Feed (i + q))) (ins (get_or fs q none).reader i fs) ≡ (get_or fs q none).regs
ins_times i q [] l = absurd (omega (arith, l))
ins_times i zero (f ∷ fs) l =
    let n : i + 0 ≡ i = omega arith in
    ap (λ j. times (Pop (Feed j)) (ins f.reader i (f ∷ fs))) n
    ∙ times_append (Pop (Feed i)) (when (f.reader == f.reader) (replicate f.regs (Pop (Feed i)))) (ins f.reader (suc i) fs)
    ∙ (let e : (f.reader == f.reader) ≡ true = grind (arith, nat_tests) in
    let a = ap (λ b. times (Pop (Feed i)) (when b (replicate f.regs (Pop (Feed i))))) e ∙ times_replicate (Pop (Feed i)) (Pop (Feed i)) f.regs in
    let o = ap (λ n. f.regs * n) (hit_self (Pop (Feed i))) in
    let b = ins_before f.reader (suc i) i fs (omega arith) in
    omega (arith, a, b, o))
ins_times i (suc q) (f ∷ fs) l =
    let n : i + suc q ≡ suc i + q = omega arith in
    ap (λ j. times (Pop (Feed j)) (ins (get_or fs q none).reader i (f ∷ fs))) n
    ∙ times_append (Pop (Feed (suc i + q))) (when (f.reader == (get_or fs q none).reader) (replicate f.regs (Pop (Feed i)))) (ins (get_or fs q none).reader (suc i) fs)
    ∙ (let a = when_none (f.reader == (get_or fs q none).reader) in
    let b = ins_times (suc i) q fs (omega (arith, l)) in
    omega (arith, a, b))
  where
    when_none : (b : Bool) → times (Pop (Feed (suc i + q))) (when b (replicate f.regs (Pop (Feed i)))) ≡ 0
    when_none true = times_replicate (Pop (Feed (suc i + q))) (Pop (Feed i)) f.regs ∙ (let z = ap (λ n. f.regs * n) (feed_hit (suc i + q) i (λ e. absurd (omega (arith, e)))) in omega (arith, z))
    when_none false = refl

out_hit : (i j : ℕ) → i ≢ j → hit (Push (Feed i)) (Push (Feed j)) ≡ 0
out_hit i j n = elim (eqb_tells i j) [ inl h ↦ absurd (n h.1) | inr h ↦ ap (λ b. if b then 1 else 0) h.0 ]

outs_before : (s i j : ℕ) (fs : List FeedShape) → j < i → times (Push (Feed j)) (outs s i fs) ≡ 0
outs_before s i j [] l = refl
outs_before s i j (f ∷ fs) l =
    times_append (Push (Feed j)) (when (f.source == s) (replicate f.regs (Push (Feed i)))) (outs s (suc i) fs)
    ∙ (let a = when_none (f.source == s) in let b = outs_before s (suc i) j fs (omega (arith, l)) in omega (arith, a, b))
  where
    when_none : (b : Bool) → times (Push (Feed j)) (when b (replicate f.regs (Push (Feed i)))) ≡ 0
    when_none true = times_replicate (Push (Feed j)) (Push (Feed i)) f.regs ∙ (let q = ap (λ n. f.regs * n) (out_hit j i (λ e. absurd (omega (arith, e, l)))) in omega (arith, q))
    when_none false = refl

pub outs_times : (i q : ℕ) (fs : List FeedShape) → q < length fs → times (Push (Feed (i + q))) (outs (get_or fs q none).source i fs) ≡ (get_or fs q none).regs
outs_times i q [] l = absurd (omega (arith, l))
outs_times i zero (f ∷ fs) l =
    let n : i + 0 ≡ i = omega arith in
    ap (λ j. times (Push (Feed j)) (outs f.source i (f ∷ fs))) n
    ∙ times_append (Push (Feed i)) (when (f.source == f.source) (replicate f.regs (Push (Feed i)))) (outs f.source (suc i) fs)
    ∙ (let e : (f.source == f.source) ≡ true = grind (arith, nat_tests) in
    let a = ap (λ b. times (Push (Feed i)) (when b (replicate f.regs (Push (Feed i))))) e ∙ times_replicate (Push (Feed i)) (Push (Feed i)) f.regs in
    let o = ap (λ n. f.regs * n) (hit_self (Push (Feed i))) in
    let b = outs_before f.source (suc i) i fs (omega arith) in
    omega (arith, a, b, o))
outs_times i (suc q) (f ∷ fs) l =
    let n : i + suc q ≡ suc i + q = omega arith in
    ap (λ j. times (Push (Feed j)) (outs (get_or fs q none).source i (f ∷ fs))) n
    ∙ times_append (Push (Feed (suc i + q))) (when (f.source == (get_or fs q none).source) (replicate f.regs (Push (Feed i)))) (outs (get_or fs q none).source (suc i) fs)
    ∙ (let a = when_none (f.source == (get_or fs q none).source) in
    let b = outs_times (suc i) q fs (omega (arith, l)) in
    omega (arith, a, b))
  where
    when_none : (b : Bool) → times (Push (Feed (suc i + q))) (when b (replicate f.regs (Push (Feed i)))) ≡ 0
    when_none true = times_replicate (Push (Feed (suc i + q))) (Push (Feed i)) f.regs ∙ (let z = ap (λ n. f.regs * n) (out_hit (suc i + q) i (λ e. absurd (omega (arith, e)))) in omega (arith, z))
    when_none false = refl

-- a fact of each feed move
pub each_append : (P : Move → Type 0) (xs ys : List Move) → Each P xs → Each P ys → Each P (xs ++ ys)
each_append P [] ys a b = b
each_append P (x ∷ xs) ys a b = (a.0, each_append P xs ys a.1 b)

each_replicate : (P : Move → Type 0) (g : ℕ) (x : Move) → P x → Each P (replicate g x)
each_replicate P zero x p = tt
each_replicate P (suc g) x p = (p, each_replicate P g x p)

pub each_in : (P : Move → Type 0) (s i : ℕ) (fs : List FeedShape) → ((q : ℕ) → q < length fs → (get_or fs q none).reader ≡ s → P (Pop (Feed (i + q)))) → Each P (ins s i fs)
each_in P s i [] h = tt
each_in P s i (f ∷ fs) h =
    each_append P (when (f.reader == s) (replicate f.regs (Pop (Feed i)))) (ins s (suc i) fs) (head (f.reader == s) refl)
    (each_in P s (suc i) fs (λ q l e. (let n : i + suc q ≡ suc i + q = omega arith in subst (λ j. P (Pop (Feed j))) n (h (suc q) (omega (arith, l)) e))))
  where
    head : (b : Bool) → (f.reader == s) ≡ b → Each P (when b (replicate f.regs (Pop (Feed i))))
    head true e = each_replicate P f.regs (Pop (Feed i)) (let n : i + 0 ≡ i = omega arith in let r : f.reader ≡ s = grind (arith, nat_tests, e) in subst (λ j. P (Pop (Feed j))) n (h 0 (omega arith) r))
    head false e = tt

pub each_out : (P : Move → Type 0) (s i : ℕ) (fs : List FeedShape) → ((q : ℕ) → q < length fs → (get_or fs q none).source ≡ s → P (Push (Feed (i + q)))) → Each P (outs s i fs)
each_out P s i [] h = tt
each_out P s i (f ∷ fs) h =
    each_append P (when (f.source == s) (replicate f.regs (Push (Feed i)))) (outs s (suc i) fs) (head (f.source == s) refl)
    (each_out P s (suc i) fs (λ q l e. (let n : i + suc q ≡ suc i + q = omega arith in subst (λ j. P (Push (Feed j))) n (h (suc q) (omega (arith, l)) e))))
  where
    head : (b : Bool) → (f.source == s) ≡ b → Each P (when b (replicate f.regs (Push (Feed i))))
    head true e = each_replicate P f.regs (Push (Feed i)) (let n : i + 0 ≡ i = omega arith in let r : f.source ≡ s = grind (arith, nat_tests, e) in subst (λ j. P (Push (Feed j))) n (h 0 (omega arith) r))
    head false e = tt

pub ins_here : (j : ℕ) (fs : List FeedShape) → j < length fs → times (Pop (Feed j)) (ins (get_or fs j none).reader 0 fs) ≡ (get_or fs j none).regs
ins_here j fs l = let e : 0 + j ≡ j = omega arith in subst (λ i. times (Pop (Feed i)) (ins (get_or fs j none).reader 0 fs) ≡ (get_or fs j none).regs) e (ins_times 0 j fs l)

pub outs_here : (j : ℕ) (fs : List FeedShape) → j < length fs → times (Push (Feed j)) (outs (get_or fs j none).source 0 fs) ≡ (get_or fs j none).regs
outs_here j fs l = let e : 0 + j ≡ j = omega arith in subst (λ i. times (Push (Feed i)) (outs (get_or fs j none).source 0 fs) ≡ (get_or fs j none).regs) e (outs_times 0 j fs l)
