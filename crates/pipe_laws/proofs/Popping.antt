-- In a pipeline each item that is popped was pushed by a move that comes first, in every step. The counts
-- are those of the tied scripts; the free ring's pops have no pushes once the writer came to its end.
use Rattle.std.proofs.Common.{inl, inr, ◌≡◌, ℕ, ◌+◌, ◌-◌, ◌<◌, ◌≤◌, min, Bool, true, false, nat_lt, [], ◌∷◌, refl, sym, ap, ◌∙◌, subst, arith}
use Rattle.std.specs.Prelude.{zero, suc, length, nat_le}
use Rattle.std.proofs.lemmas.Bool.{cases_lt}
use Rattle.std.proofs.Math.Nat.{mul-le-mul_left}
use Rattle.pipe_laws.specs.Machine.{Link, Free, Feed, Push, Pop, Each}
use Rattle.pipe_laws.specs.Flow.{PopLaw}
use Rattle.pipe_laws.specs.Pipe.{Shape, feed, when, ins, outs, reader_moves, stage_moves, writer_moves, later_script, script, net, IsShape, PopsAreTied}
use Rattle.pipe_laws.proofs.Spans.{each_append, each_in, each_out}
use Rattle.pipe_laws.proofs.Tied.{fed, link_pops, link_pushes, free_pops, writer_frees, feed_pops, feed_pushes, lt_true, lt_false, le_false}

module _ (h : Shape) (ok : IsShape h) (k : ℕ) where
  pop_link : (s : ℕ) → s ≤ h.stages → k ≤ h.steps → PopLaw (net h) (suc s) k (Pop (Link s))
  pop_link s l w = (refl, omega (arith, l), λ j b. inl (let p = link_pushes h s l j in let q = (link_pops h s l ok.lines (suc k)).0 in let c = b.1 (omega arith) in omega (arith, p, q, c, w)))

  pop_free : PopLaw (net h) 0 k (Pop Free)
  pop_free = (
    refl,
    omega arith,
    λ j b. elim (cases_lt h.lines k) [
      | inl late ↦ inr (λ i m. ap (λ t. later_script h h.stages t i) (lt_false h.stages h.stages (omega arith))
          ∙ ap (λ t. writer_moves h.stages t (nat_lt i h.lines)) (le_false i h.lines (let c = b.0 in omega (arith, late, m, c))))
      | inr g ↦ inl (let p = free_pops h (suc k) in let q = writer_frees h j in let f = ok.packets in let c = b.0 in omega (arith, p, q, f, c, g))
    ],
  )

  pop_feed : (q : ℕ) → q < length h.feeds → (s : ℕ) → (feed h q).reader ≡ s → PopLaw (net h) (suc s) k (Pop (Feed q))
  pop_feed q l s e = subst (λ s. PopLaw (net h) (suc s) k (Pop (Feed q))) e (
      let o = ok.forward q l in (
        refl,
        (let u = o.1 in omega (arith, u)),
        λ j b. inl (
            let x = feed_pops h q l (let u = o.0 in let v = o.1 in omega (arith, u, v)) (suc k) in
            let y = feed_pushes h q l o.1 j in
            let c = b.0 in
            let m : min (suc k) h.steps - 1 ≤ min j h.steps = omega (arith, c) in
            let r = mul-le-mul_left (feed h q).regs m in
            omega (arith, x, y, r)),
      ))

  out_laws : (s : ℕ) → Each (PopLaw (net h) (suc s) k) (outs s 0 h.feeds)
  out_laws s = each_out (PopLaw (net h) (suc s) k) s 0 h.feeds (λ q l e. subst (λ i. PopLaw (net h) (suc s) k (Push (Feed i))) (omega arith) (let r : suc (feed h q).source ≡ suc s = ap suc e in r))

  fed_laws : (s : ℕ) (later carries : Bool) → Each (PopLaw (net h) (suc s) k) (fed h s later carries)
  fed_laws s later false = tt
  fed_laws s false true = out_laws s
  fed_laws s true true =
      each_append (PopLaw (net h) (suc s) k) (ins s 0 h.feeds) (outs s 0 h.feeds)
      (each_in (PopLaw (net h) (suc s) k) s 0 h.feeds (λ q l e. subst (λ i. PopLaw (net h) (suc s) k (Pop (Feed i))) (omega arith) (pop_feed q l s e)))
      (out_laws s)

  stage_laws : (s : ℕ) → s < h.stages → (b : Bool) → nat_le k h.steps ≡ b → Each (PopLaw (net h) (suc s) k) (stage_moves h s b (nat_lt 0 k) (nat_lt k h.steps))
  stage_laws s l false e = tt
  stage_laws s l true e = (
    pop_link s (omega (arith, l)) (below e),
    each_append (PopLaw (net h) (suc s) k) (fed h s (nat_lt 0 k) (nat_lt k h.steps)) (Push (Link (suc s)) ∷ []) (fed_laws s (nat_lt 0 k) (nat_lt k h.steps)) (refl, tt),
  )
    where
      below : nat_le k h.steps ≡ true → k ≤ h.steps
      below e = elim (cases_lt h.steps k) [ inl g ↦ absurd (true_false (sym e ∙ le_false k h.steps g)) | inr g ↦ g ]
        where
          true_false : true ≡ false → ⊥
          true_false p = let n = ap (λ b. length (when b (Pop Free ∷ []))) p in omega (arith, n)

  writer_laws : (live writes : Bool) → nat_le k h.lines ≡ live → Each (PopLaw (net h) (suc h.stages) k) (writer_moves h.stages live writes)
  writer_laws false writes e = tt
  writer_laws true true e = (pop_link h.stages (omega arith) (below e), (refl, tt))
    where
      below : nat_le k h.lines ≡ true → k ≤ h.steps
      below e = elim (cases_lt h.lines k) [ inl g ↦ absurd (let n = ap (λ b. length (when b (Pop Free ∷ []))) (sym e ∙ le_false k h.lines g) in omega (arith, n)) | inr g ↦ (let o = ok.lines in omega (arith, o, g)) ]
  writer_laws true false e = (pop_link h.stages (omega arith) (elim (cases_lt h.lines k) [ inl g ↦ absurd (let n = ap (λ b. length (when b (Pop Free ∷ []))) (sym e ∙ le_false k h.lines g) in omega (arith, n)) | inr g ↦ (let o = ok.lines in omega (arith, o, g)) ]), tt)

  reader_laws : (b : Bool) → Each (PopLaw (net h) 0 k) (reader_moves b)
  reader_laws true = (pop_free, (refl, tt))
  reader_laws false = tt

  laws : (a : ℕ) → a < h.stages + 2 → Each (PopLaw (net h) a k) (script h a k)
  laws zero l = reader_laws (nat_le k h.steps)
  laws (suc s) l = elim (cases_lt s h.stages) [
    | inl a ↦ subst (λ b. Each (PopLaw (net h) (suc s) k) (later_script h s b k)) (sym (lt_true s h.stages a)) (stage_laws s a (nat_le k h.steps) refl)
    | inr a ↦ (
        let z : h.stages ≡ s = omega (arith, a, l) in
        subst (λ n. Each (PopLaw (net h) (suc n) k) (script h (suc n) k)) z
        (subst (λ b. Each (PopLaw (net h) (suc h.stages) k) (later_script h h.stages b k)) (sym (lt_false h.stages h.stages (omega arith))) (writer_laws (nat_le k h.lines) (nat_lt k h.lines) refl)))
  ]

pub pops_tied : PopsAreTied
pops_tied h ok a k l = laws h ok k a l
