-- Reading a line from a source piece by piece.
use Rattle.std.proofs.Common.{◌≡◌, ◌<◌, ◌≤◌, ◌+◌, ◌-◌, ◌⊎◌, inl, inr, ℕ, suc, Bool, true, false, ◌==◌, if◌then◌else◌, List, [], ◌∷◌, ◌++◌, length, take, drop, Option, Some, None, refl, sym, ap, ap₂, subst, ◌∙◌, arith, append_assoc, append-nil, length-append, ◌↔◌}
use Rattle.std.specs.Prelude.{min}
use Rattle.std.proofs.lemmas.Bool.Decides.{nat_tests}
use Rattle.std.proofs.lemmas.List.{take-append-drop}
use Rattle.std.proofs.Math.Seq.{take-nil, drop-nil}
use Rattle.outside.specs.Bytes.{Rose, Counted, one_more, greatest_count}
use Rattle.trace_io.specs.declared.lines.Found.{Found}
use Rattle.trace_io.specs.declared.lines.Found.TheVariants as found
use Rattle.trace_io.specs.Lines.{lines, is_short}
use Rattle.trace_io.specs.Held.{Held, has_line_end, Came, Finds, CalledAtMost, Read, Reading, Begun}
use Rattle.trace_io.proofs.LinesLemmas.{closed_front, closed_ended, open_alone, starts_long, short_closed, short_open}

-- a greater bound on calls
pub more_calls : (m n : ℕ) (a b : Option ℕ) → m ≤ n → CalledAtMost m a b → CalledAtMost n a b
more_calls m n None b h k = k
more_calls m n (Some x) b h k = (k.0, k.1, omega (arith, h, k.2))

-- one call more
one_call : (m : ℕ) (a b d : Option ℕ) → CalledAtMost m a b → Counted b d → CalledAtMost (m + 1) a d
one_call m None b d k h = none b d k h
  where
    none : (b d : Option ℕ) → b ≡ None → Counted b d → d ≡ None
    none None d k h = h
    none (Some x) d k h = absurd (cc k)
one_call m (Some x) b d k h = some b d k.1 k.2 h
  where
    some : (b d : Option ℕ) → b ≡ Some k.0 → k.0 ≤ x + m → Counted b d → (y : ℕ) × (d ≡ Some y) × (y ≤ x + (m + 1))
    some None d e l h = absurd (cc e)
    some (Some z) d e l h = let same : z ≡ k.0 = cc e in (one_more z, h, bound z (omega (arith, same, l)))
      where
        bound : (z : ℕ) → z ≤ x + m → min (z + 1) greatest_count ≤ x + (m + 1)
        bound z l = omega (arith, l)

-- what stands in the line, waits and is left stays together where bytes are moved
together : (line waiting old now rest all : List ℕ) → old ++ now ≡ line ++ waiting → line ++ (waiting ++ rest) ≡ all → old ++ (now ++ rest) ≡ all
together line waiting old now rest all k j = sym (append_assoc old now rest) ∙ (ap (λ (l : List ℕ). l ++ rest) k ∙ (append_assoc line waiting rest ∙ j))

-- at the start nothing is in the line
pub started : (start h : Held) (left : Option (List ℕ)) (faults : ℕ) (calls : Option ℕ) → h.line ≡ [] → h.waiting ≡ start.waiting → h.ended ≡ start.ended → Reading start left faults calls h left faults calls
started start h left faults calls e f g = record {
  still_open = rw e refl;
  short = rw e (omega arith);
  never_falls = omega arith;
  counted = none calls;
  told = λ bytes l u. (bytes, l, ap₂ (λ (x y : List ℕ). x ++ (y ++ bytes)) e f, λ d. u (sym g ∙ d));
}
  where
    none : (c : Option ℕ) → CalledAtMost (length h.line + min 1 (length h.waiting)) c c
    none None = refl
    none (Some n) = (n, refl, omega arith)

module _ (start h h1 : Held) (left0 : Option (List ℕ)) (f0 : ℕ) (c0 : Option ℕ) (left : Option (List ℕ)) (f : ℕ) (c : Option ℕ)
    (r : Reading start left0 f0 c0 h left f c) (kept : h1.line ++ h1.waiting ≡ h.line ++ h.waiting) (same : h1.ended ≡ h.ended) where
  few : CalledAtMost 65538 c0 c
  few = more_calls (length h.line + min 1 (length h.waiting)) 65538 c0 c (bound (length h.line) (length h.waiting) r.short) r.counted
    where
      bound : (a b : ℕ) → a ≤ 65536 → a + min 1 b ≤ 65538
      bound a b h = omega arith

  -- an LF came
  pub line_read : (came : Bool) → came ≡ true → Came came h1.line h1.waiting → length h1.line ≤ 65537 → Read start left0 f0 c0 found.Line h1 left f c
  line_read came e k within = record {
    never_falls = r.never_falls;
    counted = few;
    rose = λ x. absurd (cc x);
    asked = λ x. absurd (cc x);
    told = λ bytes l u. (let t = r.told bytes l u in
        let all = together h.line h.waiting h1.line h1.waiting t.0 (start.waiting ++ bytes) kept t.2 in
        let closed = subst (λ (b : Bool). Came b h1.line h1.waiting) e k in
        ((t.0, t.1, ap lines (sym all) ∙ closed_front h1.line (h1.waiting ++ t.0) closed, short_closed h1.line closed within, all, inl (closed_ended h1.line closed)), λ d. t.1 ∙ ap Some (t.3 (sym same ∙ d))));
  }

  -- too many bytes came
  pub too_long : (came : Bool) → came ≡ false → Came came h1.line h1.waiting → 65536 < length h1.line → Read start left0 f0 c0 found.TooLong h1 left f c
  too_long came e k long = record {
    never_falls = r.never_falls;
    counted = few;
    rose = λ x. absurd (cc x);
    asked = λ x. absurd (cc x);
    told = λ bytes l u. (let t = r.told bytes l u in (
      starts_long h1.line (h1.waiting ++ t.0) (start.waiting ++ bytes) (subst (λ (b : Bool). Came b h1.line h1.waiting) e k).0 long (together h.line h.waiting h1.line h1.waiting t.0 (start.waiting ++ bytes) kept t.2),
      λ d. t.1 ∙ ap Some (t.3 (sym same ∙ d)),
    ));
  }

  -- no byte waits where the line isn't too long
  none_wait : (came : Bool) → came ≡ false → Came came h1.line h1.waiting → length h1.line ≤ 65536 → h1.waiting ≡ []
  none_wait came e k short = which ((subst (λ (b : Bool). Came b h1.line h1.waiting) e k).1)
    where
      which : (h1.waiting ≡ []) ⊎ (length h1.line ≡ 65537) → h1.waiting ≡ []
      which (inl w) = w
      which (inr l) = absurd (omega (arith, l, short))

  all_in_line : (came : Bool) → came ≡ false → Came came h1.line h1.waiting → length h1.line ≤ 65536 → (rest all : List ℕ) → h.line ++ (h.waiting ++ rest) ≡ all → h1.line ++ rest ≡ all
  all_in_line came e k short rest all j = ap (λ (w : List ℕ). h1.line ++ (w ++ rest)) (sym (none_wait came e k short)) ∙ together h.line h.waiting h1.line h1.waiting rest all kept j

  -- the moved bytes are all in the line, so it is at least as long as what was there, and one byte longer where some waited
  grown : (came : Bool) → came ≡ false → Came came h1.line h1.waiting → length h1.line ≤ 65536 → length h.line + min 1 (length h.waiting) ≤ length h1.line
  grown came e k short =
      let w = none_wait came e k short in
      let all : length h1.line + length h1.waiting ≡ length h.line + length h.waiting = sym (length-append h1.line h1.waiting) ∙ (ap length kept ∙ length-append h.line h.waiting) in
      let none : length h1.waiting ≡ 0 = ap length w in
      omega (arith, all, none)

  not_failed : (b : Bool) → (if b then found.End else found.Line) ≡ found.Failed → ⊥
  not_failed true e = cc e
  not_failed false e = cc e

  finds : (line all : List ℕ) → length line ≤ 65536 → has_line_end line ≡ false → line ≡ all → (h : Held) → h.line ≡ line → h.waiting ≡ [] → h.ended ≡ true → (left : Option (List ℕ)) → left ≡ Some [] → Finds (if length line == 0 then found.End else found.Line) all h left
  finds [] all short e j h k w ends left l = (sym j, l, w)
  finds (c ∷ cs) all short e j h k w ends left l = rw (nonzero (length cs)) (
    [],
    l,
    ap lines (sym j) ∙ (open_alone c cs e ∙ ap₂ (λ (x y : List ℕ). x ∷ lines (y ++ [])) (sym k) (sym w)),
    ap is_short k ∙ short_open (c ∷ cs) short,
    ap₂ (λ (x y : List ℕ). x ++ (y ++ [])) k w ∙ (append-nil (c ∷ cs) ∙ j),
    inr (ends, w),
  )
    where
      nonzero : (n : ℕ) → (suc n == 0) ≡ false
      nonzero n = grind (arith, nat_tests)

  -- the source has ended
  pub ended_here : (came : Bool) → came ≡ false → Came came h1.line h1.waiting → length h1.line ≤ 65536 → h1.ended ≡ true
      → (fnd : Found) → fnd ≡ (if length h1.line == 0 then found.End else found.Line) → Read start left0 f0 c0 fnd h1 left f c
  ended_here came e k short ends fnd is = record {
    never_falls = r.never_falls;
    counted = few;
    rose = λ x. absurd (not_failed (length h1.line == 0) (sym is ∙ x));
    asked = λ x. absurd (not_failed (length h1.line == 0) (sym is ∙ x));
    told = λ bytes l u. (let t = r.told bytes l u in
        let nil = t.3 (sym same ∙ ends) in
        let all = sym (append-nil h1.line) ∙ (ap (λ (x : List ℕ). h1.line ++ x) (sym nil) ∙ all_in_line came e k short t.0 (start.waiting ++ bytes) t.2) in (
          subst (λ (x : Found). Finds x (start.waiting ++ bytes) h1 left) (sym is) (finds h1.line (start.waiting ++ bytes) short (subst (λ (b : Bool). Came b h1.line h1.waiting) e k).0 all h1 refl (none_wait came e k short) ends left (t.1 ∙ ap Some nil)),
          λ d. t.1 ∙ ap Some nil,
        ));
  }

  module _ (h2 : Held) (left2 : Option (List ℕ)) (f2 : ℕ) (c2 : Option ℕ) (came : Bool) (e : came ≡ false) (k : Came came h1.line h1.waiting) (short : length h1.line ≤ 65536)
      (falls : f ≤ f2) (counts : Counted c c2) where
    still : has_line_end h1.line ≡ false
    still = (subst (λ (b : Bool). Came b h1.line h1.waiting) e k).0

    one_more_call : CalledAtMost (length h.line + min 1 (length h.waiting) + 1) c0 c2
    one_more_call = one_call (length h.line + min 1 (length h.waiting)) c0 c c2 r.counted counts

    few_more : CalledAtMost 65538 c0 c2
    few_more = more_calls (length h.line + min 1 (length h.waiting) + 1) 65538 c0 c2 (bound (length h.line) (length h.waiting) r.short) one_more_call
      where
        bound : (a b : ℕ) → a ≤ 65536 → a + min 1 b + 1 ≤ 65538
        bound a b h = omega arith

    -- it ends now
    pub ended_now : (n : ℕ) → n ≡ 0 → h2.line ≡ h1.line → length h2.waiting ≡ n → h2.ended ≡ true
        → ((rest : List ℕ) → left ≡ Some rest → (left2 ≡ Some (drop n rest)) × (h2.waiting ≡ take n rest) × ((n ≡ 0) ↔ (rest ≡ [])))
        → (fnd : Found) → fnd ≡ (if length h2.line == 0 then found.End else found.Line) → Read start left0 f0 c0 fnd h2 left2 f2 c2
    ended_now n z line count ends moved fnd is = record {
      never_falls = omega (arith, r.never_falls, falls);
      counted = few_more;
      rose = λ x. absurd (not_failed (length h2.line == 0) (sym is ∙ x));
      asked = λ x. absurd (not_failed (length h2.line == 0) (sym is ∙ x));
      told = λ bytes l u. (let t = r.told bytes l u in
          let m = moved t.0 t.1 in
          let nil = m.2.0 z in
          let none : left2 ≡ Some [] = m.0 ∙ ap Some (ap (λ (x : List ℕ). drop n x) nil ∙ drop-nil n) in
          let all = line ∙ (sym (append-nil h1.line) ∙ (ap (λ (x : List ℕ). h1.line ++ x) (sym nil) ∙ all_in_line came e k short t.0 (start.waiting ++ bytes) t.2)) in (
            subst (λ (x : Found). Finds x (start.waiting ++ bytes) h2 left2) (sym is) (finds h2.line (start.waiting ++ bytes) (subst (λ (x : List ℕ). length x ≤ 65536) (sym line) short) (subst (λ (x : List ℕ). has_line_end x ≡ false) (sym line) still) all h2 refl (m.1 ∙ (ap (λ (x : List ℕ). take n x) nil ∙ take-nil n)) ends left2 none),
            λ d. none,
          ));
    }

    -- the read failed
    pub read_failed : h2 ≡ h1 → left2 ≡ left → Rose f f2 → start.ended ≡ false → Read start left0 f0 c0 found.Failed h2 left2 f2 c2
    read_failed same2 kept2 rises goes = record {
      never_falls = omega (arith, r.never_falls, falls);
      counted = few_more;
      rose = λ x. risen rises;
      asked = λ x. goes;
      told = λ bytes l u. (let t = r.told bytes l u in (
        (
          t.0,
          kept2 ∙ t.1,
          ap (λ (x : Held). x.waiting) same2 ∙ none_wait came e k short,
          ap (λ (x : Held). x.line ++ t.0) same2 ∙ all_in_line came e k short t.0 (start.waiting ++ bytes) t.2,
          ap (λ (x : Held). has_line_end x.line) same2 ∙ still,
          subst (λ (x : Held). length x.line ≤ 65536) (sym same2) short,
        ),
        λ d. kept2 ∙ (t.1 ∙ ap Some (t.3 (sym same ∙ (ap (λ (x : Held). x.ended) (sym same2) ∙ d)))),
      ));
    }
      where
        risen : Rose f f2 → Rose f0 f2
        risen (inl x) = inl (omega (arith, r.never_falls, x))
        risen (inr x) = inr x

    -- some bytes came
    pub some_came : (n : ℕ) → ¬ (n ≡ 0) → h2.line ≡ h1.line → length h2.waiting ≡ n → h1.ended ≡ false → ((h2.ended ≡ true) ↔ ((n ≡ 0) ⊎ (h1.ended ≡ true)))
        → ((rest : List ℕ) → left ≡ Some rest → (left2 ≡ Some (drop n rest)) × (h2.waiting ≡ take n rest) × ((n ≡ 0) ↔ (rest ≡ [])))
        → Reading start left0 f0 c0 h2 left2 f2 c2
    some_came n u line count goes ends moved = record {
      still_open = subst (λ (x : List ℕ). has_line_end x ≡ false) (sym line) still;
      short = subst (λ (x : List ℕ). length x ≤ 65536) (sym line) short;
      never_falls = omega (arith, r.never_falls, falls);
      counted = more_calls (length h.line + min 1 (length h.waiting) + 1) (length h2.line + min 1 (length h2.waiting)) c0 c2 (bound (grown came e k short) (ap length line) count) one_more_call;
      told = λ bytes l v. (let t = r.told bytes l v in
          let m = moved t.0 t.1 in (
            drop n t.0,
            m.0,
            ap₂ (λ (x y : List ℕ). x ++ (y ++ drop n t.0)) line m.1 ∙ (ap (λ (x : List ℕ). h1.line ++ x) (take-append-drop n t.0) ∙ all_in_line came e k short t.0 (start.waiting ++ bytes) t.2),
            λ d. absurd (never (ends.0 d)),
          ));
    }
      where
        bound : length h.line + min 1 (length h.waiting) ≤ length h1.line → length h2.line ≡ length h1.line → length h2.waiting ≡ n → length h.line + min 1 (length h.waiting) + 1 ≤ length h2.line + min 1 (length h2.waiting)
        bound a b d = let p : ¬ (length h2.waiting ≡ 0) = λ z. u (sym d ∙ z) in omega (arith, a, b, p)

        never : (n ≡ 0) ⊎ (h1.ended ≡ true) → ⊥
        never (inl z) = u z
        never (inr z) = cc (goes, z)

    pub smaller : (n : ℕ) → ¬ (n ≡ 0) → h2.line ≡ h1.line → length h2.waiting ≡ n → 65538 - (length h2.line + min 1 (length h2.waiting)) < 65538 - (length h.line + min 1 (length h.waiting))
    smaller n u line count =
        let a = grown came e k short in
        let b : length h2.line ≡ length h1.line = ap length line in
        let p : ¬ (length h2.waiting ≡ 0) = λ z. u (sym count ∙ z) in
        omega (arith, a, b, p, short)

  -- after that it has begun
  pub has_begun : (U : Type 0) (came : Bool) → came ≡ false → Came came h1.line h1.waiting → length h1.line ≤ 65536 → h1.ended ≡ false → Begun start h U → (has_line_end start.waiting ≡ false) × (start.ended ≡ false)
  has_begun U came e k short goes (inl (a, b, d, t)) =
      let w = none_wait came e k short in
      let line : h1.line ≡ start.waiting = sym (append-nil h1.line) ∙ (ap (λ (x : List ℕ). h1.line ++ x) (sym w) ∙ (kept ∙ ap₂ (λ (x y : List ℕ). x ++ y) a b)) in
      (ap has_line_end (sym line) ∙ (subst (λ (b : Bool). Came b h1.line h1.waiting) e k).0, sym d ∙ (sym same ∙ goes))
  has_begun U came e k short goes (inr b) = b

pub over : {b d : Bool} → (b ≡ false) × (d ≡ false) → (b ≡ true) ⊎ (d ≡ true) → ⊥
over (x, y) (inl z) = cc (x, z)
over (x, y) (inr z) = cc (y, z)

-- nothing was done
pub untouched : (start h : Held) (U : Type 0) → Begun start h U → (has_line_end start.waiting ≡ true) ⊎ (start.ended ≡ true) → U
untouched start h U (inl (a, b, d, t)) s = t
untouched start h U (inr b) s = absurd (over b s)
