-- The scripts of a pipeline are tied. Each ring's pushes and pops are counted by spans; the laws of moves
-- are then inequalities over minima, ring by ring, and a script's list of moves takes them one by one.
use Rattle.std.proofs.Common.{inl, inr, ◌≡◌, ℕ, ◌+◌, ◌-◌, ◌*◌, ◌<◌, ◌≤◌, min, Bool, true, false, nat_lt, List, [], ◌∷◌, ◌++◌, refl, sym, ap, ◌∙◌, subst, arith}
use Rattle.std.specs.Prelude.{zero, suc, length, nat_le}
use Rattle.std.proofs.lemmas.Bool.Decides.{nat_tests}
use Rattle.std.proofs.lemmas.Bool.{cases_lt}
use Rattle.std.proofs.Math.Nat.{mul-le-mul_left}
use Rattle.pipe_laws.specs.Machine.{Link, Free, Feed, Move, Push, Pop, hit, times, before, Each, Law}
use Rattle.pipe_laws.specs.Pipe.{Shape, feed, when, ins, outs, reader_moves, stage_moves, writer_moves, later_script, script, net, IsShape, ScriptsAreTied}
use Rattle.pipe_laws.proofs.Counts.{hit_self}
use Rattle.pipe_laws.proofs.Spans.{before_span, times_append, ins_none, outs_none, ins_here, outs_here, each_append, each_in, each_out}

pub lt_true : (a b : ℕ) → a < b → nat_lt a b ≡ true
lt_true a b l = grind (arith, nat_tests, l)

pub lt_false : (a b : ℕ) → b ≤ a → nat_lt a b ≡ false
lt_false a b l = grind (arith, nat_tests, l)

pub le_true : (a b : ℕ) → a ≤ b → nat_le a b ≡ true
le_true a b l = grind (arith, nat_tests, l)

pub le_false : (a b : ℕ) → b < a → nat_le a b ≡ false
le_false a b l = grind (arith, nat_tests, l)

module _ (h : Shape) where
  abbrev pub fed : ℕ → Bool → Bool → List Move
  fed s later carries = when carries (when later (ins s 0 h.feeds) ++ outs s 0 h.feeds)

  stage_live : (m : Move) (s : ℕ) (later carries : Bool) → times m (stage_moves h s true later carries) ≡ hit m (Pop (Link s)) + times m (fed s later carries) + hit m (Push (Link (suc s)))
  stage_live m s later carries = let e = times_append m (fed s later carries) (Push (Link (suc s)) ∷ []) in omega (arith, e)

  -- a move that is no feed's
  fed_none : (m : Move) → ((j : ℕ) → hit m (Pop (Feed j)) ≡ 0) → ((j : ℕ) → hit m (Push (Feed j)) ≡ 0) → (s : ℕ) (later carries : Bool) → times m (fed s later carries) ≡ 0
  fed_none m a b s later false = refl
  fed_none m a b s false true = outs_none m b s 0 h.feeds
  fed_none m a b s true true = times_append m (ins s 0 h.feeds) (outs s 0 h.feeds) ∙ (let x = ins_none m a s 0 h.feeds in let y = outs_none m b s 0 h.feeds in omega (arith, x, y))

  -- the moves on links: one in each step, End's included
  stage_link : (m : Move) (s : ℕ) → hit m (Pop (Link s)) + hit m (Push (Link (suc s))) ≡ 1 → ((j : ℕ) → hit m (Pop (Feed j)) ≡ 0) → ((j : ℕ) → hit m (Push (Feed j)) ≡ 0) →
      s < h.stages → (k : ℕ) → before (script h (suc s)) m k ≡ min k (suc h.steps)
  stage_link m s one a b l k =
      ap (λ t. before (later_script h s t) m k) (lt_true s h.stages l)
      ∙ before_span (later_script h s true) m 1 0 (suc h.steps)
      (λ i _ u. ap (λ t. times m (stage_moves h s t (nat_lt 0 i) (nat_lt i h.steps))) (le_true i h.steps (omega (arith, u)))
      ∙ stage_live m s (nat_lt 0 i) (nat_lt i h.steps) ∙ (let z = fed_none m a b s (nat_lt 0 i) (nat_lt i h.steps) in omega (arith, z, one)))
      (λ i l. absurd (omega (arith, l)))
      (λ i u. ap (λ t. times m (stage_moves h s t (nat_lt 0 i) (nat_lt i h.steps))) (le_false i h.steps (omega (arith, u))))
      k
      ∙ omega arith

  pub stage_pops : (s : ℕ) → s < h.stages → (k : ℕ) → before (script h (suc s)) (Pop (Link s)) k ≡ min k (suc h.steps)
  stage_pops s = stage_link (Pop (Link s)) s (let o = hit_self (Pop (Link s)) in omega (arith, o)) (λ j. refl) (λ j. refl)

  pub stage_pushes : (s : ℕ) → s < h.stages → (k : ℕ) → before (script h (suc s)) (Push (Link (suc s))) k ≡ min k (suc h.steps)
  stage_pushes s = stage_link (Push (Link (suc s))) s (let o = hit_self (Push (Link (suc s))) in omega (arith, o)) (λ j. refl) (λ j. refl)

  reader_each : (m : Move) → hit m (Pop Free) + hit m (Push (Link 0)) ≡ 1 → (k : ℕ) → before (script h 0) m k ≡ min k (suc h.steps)
  reader_each m one k =
      before_span (script h 0) m 1 0 (suc h.steps)
      (λ i _ u. ap (λ t. times m (reader_moves t)) (le_true i h.steps (omega (arith, u))) ∙ omega (arith, one))
      (λ i l. absurd (omega (arith, l)))
      (λ i u. ap (λ t. times m (reader_moves t)) (le_false i h.steps (omega (arith, u)))) k
      ∙ omega arith

  pub link_pushes : (i : ℕ) → i ≤ h.stages → (k : ℕ) → before (script h i) (Push (Link i)) k ≡ min k (suc h.steps)
  link_pushes zero l = reader_each (Push (Link 0)) refl
  link_pushes (suc s) l = stage_pushes s (omega (arith, l))

  pub free_pops : (k : ℕ) → before (script h 0) (Pop Free) k ≡ min k (suc h.steps)
  free_pops = reader_each (Pop Free) refl

  pub writer_pops : (k : ℕ) → before (script h (suc h.stages)) (Pop (Link h.stages)) k ≡ min k (suc h.lines)
  writer_pops k =
      ap (λ t. before (later_script h h.stages t) (Pop (Link h.stages)) k) (lt_false h.stages h.stages (omega arith))
      ∙ before_span (later_script h h.stages false) (Pop (Link h.stages)) 1 0 (suc h.lines)
      (λ i _ u. ap (λ t. times (Pop (Link h.stages)) (writer_moves h.stages t (nat_lt i h.lines))) (le_true i h.lines (omega (arith, u))) ∙ one (nat_lt i h.lines))
      (λ i l. absurd (omega (arith, l)))
      (λ i u. ap (λ t. times (Pop (Link h.stages)) (writer_moves h.stages t (nat_lt i h.lines))) (le_false i h.lines (omega (arith, u)))) k
      ∙ omega arith
    where
      one : (b : Bool) → times (Pop (Link h.stages)) (writer_moves h.stages true b) ≡ 1
      one true = let o = hit_self (Pop (Link h.stages)) in omega (arith, o)
      one false = let o = hit_self (Pop (Link h.stages)) in omega (arith, o)

  pub writer_frees : (k : ℕ) → before (script h (suc h.stages)) (Push Free) k ≡ min k h.lines
  writer_frees k =
      ap (λ t. before (later_script h h.stages t) (Push Free) k) (lt_false h.stages h.stages (omega arith))
      ∙ before_span (later_script h h.stages false) (Push Free) 1 0 h.lines
      (λ i _ u. ap (λ t. times (Push Free) (writer_moves h.stages t (nat_lt i h.lines))) (le_true i h.lines (omega (arith, u))) ∙ ap (λ t. times (Push Free) (writer_moves h.stages true t)) (lt_true i h.lines u))
      (λ i l. absurd (omega (arith, l)))
      (λ i u. ap (λ t. times (Push Free) (writer_moves h.stages (nat_le i h.lines) t)) (lt_false i h.lines u) ∙ no (nat_le i h.lines)) k
      ∙ omega arith
    where
      no : (b : Bool) → times (Push Free) (writer_moves h.stages b false) ≡ 0
      no true = refl
      no false = refl

  -- the moves on a feed: its registers in each step but End'(feed h j).source, for the reader from step 1 on
  pub feed_pushes : (j : ℕ) → j < length h.feeds → (feed h j).source < h.stages → (k : ℕ) → before (script h (suc (feed h j).source)) (Push (Feed j)) k ≡ (feed h j).regs * min k h.steps
  feed_pushes j l u k =
      ap (λ t. before (later_script h (feed h j).source t) (Push (Feed j)) k) (lt_true (feed h j).source h.stages u)
      ∙ before_span (later_script h (feed h j).source true) (Push (Feed j)) (feed h j).regs 0 h.steps
      (λ i _ v. ap (λ t. times (Push (Feed j)) (stage_moves h (feed h j).source t (nat_lt 0 i) (nat_lt i h.steps))) (le_true i h.steps (omega (arith, v)))
      ∙ stage_live (Push (Feed j)) (feed h j).source (nat_lt 0 i) (nat_lt i h.steps)
      ∙ (let z = ap (λ t. times (Push (Feed j)) (fed (feed h j).source (nat_lt 0 i) t)) (lt_true i h.steps v) in let y = yes' (nat_lt 0 i) in omega (arith, z, y)))
      (λ i l. absurd (omega (arith, l)))
      (λ i v. ap (λ t. times (Push (Feed j)) (stage_moves h (feed h j).source (nat_le i h.steps) (nat_lt 0 i) t)) (lt_false i h.steps v) ∙ no (nat_le i h.steps) (nat_lt 0 i)) k
      ∙ (let e = ap (λ n. (feed h j).regs * n) (let q : min k h.steps - 0 ≡ min k h.steps = omega arith in q) in omega (arith, e))
    where
      yes' : (b : Bool) → times (Push (Feed j)) (fed (feed h j).source b true) ≡ (feed h j).regs
      yes' true = times_append (Push (Feed j)) (ins (feed h j).source 0 h.feeds) (outs (feed h j).source 0 h.feeds) ∙ (let x = ins_none (Push (Feed j)) (λ i. refl) (feed h j).source 0 h.feeds in let y = outs_here j h.feeds l in omega (arith, x, y))
      yes' false = outs_here j h.feeds l

      no : (a b : Bool) → times (Push (Feed j)) (stage_moves h (feed h j).source a b false) ≡ 0
      no true b = refl
      no false b = refl

  pub feed_pops : (j : ℕ) → j < length h.feeds → (feed h j).reader < h.stages → (k : ℕ) → before (script h (suc (feed h j).reader)) (Pop (Feed j)) k ≡ (feed h j).regs * (min k h.steps - 1)
  feed_pops j l u k =
      ap (λ t. before (later_script h (feed h j).reader t) (Pop (Feed j)) k) (lt_true (feed h j).reader h.stages u)
      ∙ before_span (later_script h (feed h j).reader true) (Pop (Feed j)) (feed h j).regs 1 h.steps
      (λ i w v. ap (λ t. times (Pop (Feed j)) (stage_moves h (feed h j).reader t (nat_lt 0 i) (nat_lt i h.steps))) (le_true i h.steps (omega (arith, v)))
      ∙ stage_live (Pop (Feed j)) (feed h j).reader (nat_lt 0 i) (nat_lt i h.steps)
      ∙ (let z = ap (λ t. times (Pop (Feed j)) (fed (feed h j).reader (nat_lt 0 i) t)) (lt_true i h.steps v) in let z' = ap (λ t. times (Pop (Feed j)) (fed (feed h j).reader t true)) (lt_true 0 i (omega (arith, w))) in let y = all in omega (arith, z, z', y)))
      (λ i w. ap (λ t. times (Pop (Feed j)) (stage_moves h (feed h j).reader (nat_le i h.steps) t (nat_lt i h.steps))) (lt_false 0 i (omega (arith, w))) ∙ early (nat_le i h.steps) (nat_lt i h.steps))
      (λ i v. ap (λ t. times (Pop (Feed j)) (stage_moves h (feed h j).reader (nat_le i h.steps) (nat_lt 0 i) t)) (lt_false i h.steps v) ∙ no (nat_le i h.steps) (nat_lt 0 i)) k
    where
      all : times (Pop (Feed j)) (fed (feed h j).reader true true) ≡ (feed h j).regs
      all = times_append (Pop (Feed j)) (ins (feed h j).reader 0 h.feeds) (outs (feed h j).reader 0 h.feeds) ∙ (let x = outs_none (Pop (Feed j)) (λ i. refl) (feed h j).reader 0 h.feeds in let y = ins_here j h.feeds l in omega (arith, x, y))

      early : (a b : Bool) → times (Pop (Feed j)) (stage_moves h (feed h j).reader a false b) ≡ 0
      early true true = let e = times_append (Pop (Feed j)) (outs (feed h j).reader 0 h.feeds) (Push (Link (suc (feed h j).reader)) ∷ []) in let x = outs_none (Pop (Feed j)) (λ i. refl) (feed h j).reader 0 h.feeds in omega (arith, x, e)
      early true false = refl
      early false b = refl

      no : (a b : Bool) → times (Pop (Feed j)) (stage_moves h (feed h j).reader a b false) ≡ 0
      no true b = refl
      no false b = refl

  -- a link's pops, the writer's among them
  pub link_pops : (s : ℕ) → s ≤ h.stages → h.lines ≤ h.steps → (k : ℕ) → (before (script h (suc s)) (Pop (Link s)) k ≤ k) × (min k (suc h.lines) ≤ before (script h (suc s)) (Pop (Link s)) k)
  link_pops s l m k = elim (cases_lt s h.stages) [
    | inl a ↦ (let p = stage_pops s a k in (omega (arith, p), omega (arith, p, m)))
    | inr a ↦ (
        let z : h.stages ≡ s = omega (arith, a, l) in
        let p = subst (λ n. before (script h (suc n)) (Pop (Link n)) k ≡ min k (suc h.lines)) z (writer_pops k) in
        (omega (arith, p), omega (arith, p)))
  ]

  -- the laws, by ring
  module _ (ok : IsShape h) (k : ℕ) (within : k ≤ h.lines) where
    push_link : (i : ℕ) → i ≤ h.stages → Law (net h) i k (Push (Link i))
    push_link i l = (
      refl,
      omega (arith, l),
      λ j b. (
          let p = link_pushes i l (suc k) in let q = (link_pops i l ok.lines j).1 in let f = ok.ring in let c = b.0 in let m = ok.lines in omega (arith, p, q, f, c, m, within)),
    )

    pop_link : (s : ℕ) → s ≤ h.stages → Law (net h) (suc s) k (Pop (Link s))
    pop_link s l = (
      refl,
      omega (arith, l),
      λ j b. (
          let p = link_pushes s l j in let q = (link_pops s l ok.lines (suc k)).0 in let c = b.1 (omega arith) in let m = ok.lines in omega (arith, p, q, c, m, within)),
    )

    pop_free : Law (net h) 0 k (Pop Free)
    pop_free = (refl, omega arith, λ j b. (let p = free_pops (suc k) in let q = writer_frees j in let f = ok.packets in let c = b.0 in omega (arith, p, q, f, c, within)))

    push_free : Law (net h) (suc h.stages) k (Push Free)
    push_free = (refl, omega arith, λ j b. (let p = writer_frees (suc k) in let q = free_pops j in let f = ok.packets in let c = b.1 (omega arith) in let m = ok.lines in omega (arith, p, q, f, c, m, within)))

    pop_feed : (q : ℕ) → q < length h.feeds → (s : ℕ) → (feed h q).reader ≡ s → Law (net h) (suc s) k (Pop (Feed q))
    pop_feed q l s e = subst (λ s. Law (net h) (suc s) k (Pop (Feed q))) e (
        let o = ok.forward q l in (
          refl,
          (let u = o.1 in omega (arith, u)),
          λ j b. (
              let x = feed_pops q l (let u = o.0 in let v = o.1 in omega (arith, u, v)) (suc k) in
              let y = feed_pushes q l o.1 j in
              let c = b.0 in
              let m : min (suc k) h.steps - 1 ≤ min j h.steps = omega (arith, c) in
              let r = mul-le-mul_left (feed h q).regs m in
              omega (arith, x, y, r)),
        ))

    push_feed : (q : ℕ) → q < length h.feeds → (s : ℕ) → (feed h q).source ≡ s → Law (net h) (suc s) k (Push (Feed q))
    push_feed q l s e = subst (λ s. Law (net h) (suc s) k (Push (Feed q))) e (
        let o = ok.forward q l in (
          refl,
          (let u = o.0 in let v = o.1 in omega (arith, u, v)),
          λ j b. (
              let x = feed_pops q l (let u = o.0 in let v = o.1 in omega (arith, u, v)) j in
              let y = feed_pushes q l o.1 (suc k) in
              let c = b.1 (let u = o.0 in omega (arith, u)) in
              let m : min (suc k) h.steps ≤ (min j h.steps - 1) + 1 = omega (arith, c) in
              let r = mul-le-mul_left (feed h q).regs m in
              omega (arith, x, y, r)),
        ))

    out_laws : (s : ℕ) → Each (Law (net h) (suc s) k) (outs s 0 h.feeds)
    out_laws s = each_out (Law (net h) (suc s) k) s 0 h.feeds (λ q l e. subst (λ i. Law (net h) (suc s) k (Push (Feed i))) (omega arith) (push_feed q l s e))

    fed_laws : (s : ℕ) (later carries : Bool) → Each (Law (net h) (suc s) k) (fed s later carries)
    fed_laws s later false = tt
    fed_laws s false true = out_laws s
    fed_laws s true true =
        each_append (Law (net h) (suc s) k) (ins s 0 h.feeds) (outs s 0 h.feeds)
        (each_in (Law (net h) (suc s) k) s 0 h.feeds (λ q l e. subst (λ i. Law (net h) (suc s) k (Pop (Feed i))) (omega arith) (pop_feed q l s e)))
        (out_laws s)

    stage_laws : (s : ℕ) → s < h.stages → Each (Law (net h) (suc s) k) (stage_moves h s true (nat_lt 0 k) (nat_lt k h.steps))
    stage_laws s l = (
      pop_link s (omega (arith, l)),
      each_append (Law (net h) (suc s) k) (fed s (nat_lt 0 k) (nat_lt k h.steps)) (Push (Link (suc s)) ∷ []) (fed_laws s (nat_lt 0 k) (nat_lt k h.steps)) (push_link (suc s) (omega (arith, l)), tt),
    )

    writer_laws : (b : Bool) → Each (Law (net h) (suc h.stages) k) (writer_moves h.stages true b)
    writer_laws true = (pop_link h.stages (omega arith), (push_free, tt))
    writer_laws false = (pop_link h.stages (omega arith), tt)

    laws : (a : ℕ) → a < h.stages + 2 → Each (Law (net h) a k) (script h a k)
    laws zero l = subst (λ b. Each (Law (net h) 0 k) (reader_moves b)) (sym (le_true k h.steps (let l = ok.lines in omega (arith, l, within)))) (pop_free, (push_link 0 (omega arith), tt))
    laws (suc s) l = elim (cases_lt s h.stages) [
      | inl a ↦ subst (λ b. Each (Law (net h) (suc s) k) (later_script h s b k)) (sym (lt_true s h.stages a))
          (subst (λ b. Each (Law (net h) (suc s) k) (stage_moves h s b (nat_lt 0 k) (nat_lt k h.steps))) (sym (le_true k h.steps (let l = ok.lines in omega (arith, l, within)))) (stage_laws s a))
      | inr a ↦ (
          let z : h.stages ≡ s = omega (arith, a, l) in
          subst (λ n. Each (Law (net h) (suc n) k) (script h (suc n) k)) z
          (subst (λ b. Each (Law (net h) (suc h.stages) k) (later_script h h.stages b k)) (sym (lt_false h.stages h.stages (omega arith)))
          (subst (λ b. Each (Law (net h) (suc h.stages) k) (writer_moves h.stages b (nat_lt k h.lines))) (sym (le_true k h.lines within)) (writer_laws (nat_lt k h.lines)))))
    ]

    some_left : (a : ℕ) → a < h.stages + 2 → 0 < length (script h a k)
    some_left zero l = subst (λ b. 0 < length (reader_moves b)) (sym (le_true k h.steps (let l = ok.lines in omega (arith, l, within)))) (omega arith)
    some_left (suc s) l = some (nat_lt s h.stages)
      where
        some : (b : Bool) → 0 < length (later_script h s b k)
        some true = subst (λ b. 0 < length (stage_moves h s b (nat_lt 0 k) (nat_lt k h.steps))) (sym (le_true k h.steps (let l = ok.lines in omega (arith, l, within)))) (omega arith)
        some false = subst (λ b. 0 < length (writer_moves s b (nat_lt k h.lines))) (sym (le_true k h.lines within)) (omega arith)

pub tied : ScriptsAreTied
tied h ok = record { some_left = λ a k l w. some_left h ok k w a l; each = λ a k l w. laws h ok k w a l }
