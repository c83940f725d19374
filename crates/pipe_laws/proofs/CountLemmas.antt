-- The number of events. A place is the number of moves in the steps before and in this one, each event adds
-- one to the sum of places, and where nobody can move all places stand behind the last step. The formula
-- adds up the reader's, the stages' and the writer's moves.
use Rattle.std.proofs.Common.{inl, inr, ◌≡◌, ℕ, ◌+◌, ◌-◌, ◌*◌, ◌<◌, ◌≤◌, Bool, true, false, nat_lt, List, [], ◌∷◌, ◌++◌, Option, Some, None, refl, sym, ap, ◌∙◌, subst, arith}
use Rattle.std.specs.Prelude.{◌==◌, zero, suc, length, get_or, replicate}
use Rattle.std.proofs.lemmas.Bool.Decides.{nat_tests, leb_tells, eqb_tells}
use Rattle.std.proofs.lemmas.Bool.{cases_lt, cases_eq}
use Rattle.std.proofs.lemmas.List.{get_or-set_same, get_or-set_other, length-set, length-append, length-replicate}
use Rattle.std.proofs.lemmas.Option.{slice_get_within}
use Rattle.pipe_laws.specs.Machine.{Move, Script, Push, Pop, Feed, Link, stepped, cursor, coming, Net, place, Finds, Can, moved, Runs, all_moved}
use Rattle.pipe_laws.specs.Pipe.{FeedShape, Shape, IsShape, when, ins, outs, reader_moves, stage_moves, writer_moves, later_script, script, net}
use Rattle.pipe_laws.specs.Count.{offset, total, start, Ends, Counted, AtMost, registers, Formula}
use Rattle.pipe_laws.proofs.Counts.{cursor_within}
use Rattle.pipe_laws.proofs.Stuck.{never}
use Rattle.pipe_laws.proofs.Tied.{lt_true, lt_false, le_true, le_false}

abbrev OnTrack : Script → ℕ → Type 0
OnTrack s p = p ≡ offset s (cursor s p).step + (cursor s p).done

track_next : (s : Script) (p : ℕ) (x : Move) → OnTrack s p → coming s p ≡ Some x → OnTrack s (suc p)
track_next s p x t e =
    let w = slice_get_within (s (cursor s p).step) (cursor s p).done x e in
    elim (leb_tells (suc (suc (cursor s p).done)) (length (s (cursor s p).step))) [
      | inl h ↦ subst (λ b. suc p ≡ offset s (stepped (cursor s p) b).step + (stepped (cursor s p) b).done) (sym h.0) (omega (arith, t))
      | inr h ↦ subst (λ b. suc p ≡ offset s (stepped (cursor s p) b).step + (stepped (cursor s p) b).done) (sym h.0) (let g = h.1 in omega (arith, t, w, g))
    ]

total_same : (f g : ℕ → ℕ) (n : ℕ) → ((a : ℕ) → a < n → f a ≡ g a) → total f n ≡ total g n
total_same f g zero h = refl
total_same f g (suc n) h = let r = total_same f g n (λ a l. h a (omega (arith, l))) in let e = h n (omega arith) in omega (arith, r, e)

total_most : (f g : ℕ → ℕ) (n : ℕ) → ((a : ℕ) → a < n → f a ≤ g a) → total f n ≤ total g n
total_most f g zero h = omega arith
total_most f g (suc n) h = let r = total_most f g n (λ a l. h a (omega (arith, l))) in let e = h n (omega arith) in omega (arith, r, e)

total_moved : (ps : List ℕ) (a n : ℕ) → a < n → n ≤ length ps → total (place (moved ps a)) n ≡ suc (total (place ps) n)
total_moved ps a zero l m = absurd (omega (arith, l))
total_moved ps a (suc n) l m = elim (cases_eq a n) [
  | inl e ↦ (
      let r = total_same (place (moved ps a)) (place ps) n (λ b o. get_or-set_other ps a b (suc (place ps a)) 0 (λ q. absurd (omega (arith, q, o, e)))) in
      let w = get_or-set_same ps a (suc (place ps a)) 0 (omega (arith, l, m)) in
      let w' = subst (λ i. place (moved ps a) i ≡ suc (place ps i)) e w in
      omega (arith, r, w'))
  | inr e ↦ (
      let r = total_moved ps a n (let d : ¬ (a ≡ n) = e in elim (cases_lt a n) [ inl y ↦ y | inr g ↦ absurd (d (omega (arith, l, g))) ]) (omega (arith, m)) in
      let w = get_or-set_other ps a n (suc (place ps a)) 0 (λ q. e (sym q)) in
      omega (arith, r, w))
]

record After (net : Net) (ps : List ℕ) (count : ℕ) : Type 0 where
  actors : length ps ≡ net.actors
  tracked : (a : ℕ) → a < net.actors → OnTrack (net.script a) (place ps a)
  events : total (place ps) net.actors ≡ count

some_coming : (net : Net) (ps : List ℕ) (o : Option Move) → Finds net ps o → (x : Move) × (o ≡ Some x)
some_coming net ps None h = absurd h
some_coming net ps (Some x) h = (x, refl)

after_one : (net : Net) (ps : List ℕ) (count a : ℕ) → Can net ps a → After net ps count → After net (moved ps a) (suc count)
after_one net ps count a can h =
    let x = some_coming net ps (coming (net.script a) (place ps a)) can.1 in
    let n = h.actors in let l = can.0 in
    record {
      actors = length-set ps a (suc (place ps a)) ∙ h.actors;
      tracked = λ b m. elim (cases_eq b a) [
        | inl e ↦ subst (λ i. OnTrack (net.script i) (place (moved ps a) i)) (sym e)
            (subst (λ p. OnTrack (net.script a) p) (sym (get_or-set_same ps a (suc (place ps a)) 0 (omega (arith, n, l)))) (track_next (net.script a) (place ps a) x.0 (h.tracked a l) x.1))
        | inr d ↦ subst (λ p. OnTrack (net.script b) p) (sym (get_or-set_other ps a b (suc (place ps a)) 0 d)) (h.tracked b m)
      ];
      events = total_moved ps a net.actors l (omega (arith, n)) ∙ ap suc h.events;
    }

after_all : (net : Net) (ps : List ℕ) (count : ℕ) (events : List ℕ) → Runs net ps events → After net ps count → After net (all_moved ps events) (count + length events)
after_all net ps count [] r h = subst (λ n. After net ps n) (omega arith) h
after_all net ps count (a ∷ rest) r h = subst (λ n. After net (all_moved (moved ps a) rest) n) (omega arith) (after_all net (moved ps a) (suc count) rest r.1 (after_one net ps count a r.0 h))

pub zeros : (n a : ℕ) → place (replicate n 0) a ≡ 0
zeros zero a = refl
zeros (suc n) zero = refl
zeros (suc n) (suc a) = zeros n a

total_zero : (f : ℕ → ℕ) (n : ℕ) → ((a : ℕ) → f a ≡ 0) → total f n ≡ 0
total_zero f zero h = refl
total_zero f (suc n) h = let r = total_zero f n h in let e = h n in omega (arith, r, e)

at_start : (net : Net) → After net (start net) 0
at_start net = record {
  actors = length-replicate net.actors 0;
  tracked = λ a l. subst (λ p. OnTrack (net.script a) p) (sym (zeros net.actors a)) refl;
  events = total_zero (place (start net)) net.actors (zeros net.actors);
}

offset_flat : (s : Script) (last k : ℕ) → ((j : ℕ) → last < j → s j ≡ []) → last < k → offset s k ≡ offset s (suc last)
offset_flat s last zero h l = absurd (omega (arith, l))
offset_flat s last (suc k) h l = elim (cases_lt last k) [
  | inl m ↦ (let r = offset_flat s last k h m in let e = ap length (h k m) in omega (arith, r, e))
  | inr g ↦ (let e : last ≡ k = omega (arith, l, g) in ap (λ j. offset s (suc j)) (sym e))
]

offset_rises : (s : Script) (k j : ℕ) → k ≤ j → offset s k ≤ offset s j
offset_rises s k zero h = let e : k ≡ 0 = omega (arith, h) in subst (λ i. offset s i ≤ 0) (sym e) (omega arith)
offset_rises s k (suc j) h = elim (cases_lt k (suc j)) [
  | inl l ↦ (let r = offset_rises s k j (omega (arith, l)) in omega (arith, r))
  | inr g ↦ (let e : k ≡ suc j = omega (arith, h, g) in subst (λ i. offset s k ≤ offset s i) e (omega arith))
]

-- a place behind the last step, and any place
at_end : (s : Script) (last p : ℕ) → ((j : ℕ) → last < j → s j ≡ []) → OnTrack s p → last < (cursor s p).step → p ≡ offset s (suc last)
at_end s last p h t l =
    let f = offset_flat s last (cursor s p).step h l in
    let e = ap length (h (cursor s p).step l) in
    let z : (cursor s p).done ≡ 0 = elim (cursor_within s p) [ inl y ↦ y | inr y ↦ absurd (omega (arith, y, e)) ] in
    omega (arith, t, f, z)

at_most : (s : Script) (last p : ℕ) → ((j : ℕ) → last < j → s j ≡ []) → OnTrack s p → p ≤ offset s (suc last)
at_most s last p h t = elim (cases_lt last (cursor s p).step) [
  | inl l ↦ (let e = at_end s last p h t l in omega (arith, e))
  | inr g ↦ (
      let r = offset_rises s (suc (cursor s p).step) (suc last) (omega (arith, g)) in
      elim (cursor_within s p) [ inl y ↦ omega (arith, t, r, y) | inr y ↦ omega (arith, t, r, y) ])
]

pub counted : Counted
counted net last tied ends events runs none =
    let h = after_all net (start net) 0 events runs (at_start net) in
    let e = h.events in
    let t = total_same (place (all_moved (start net) events)) (λ a. offset (net.script a) (suc last)) net.actors (λ a l.
    at_end (net.script a) last (place (all_moved (start net) events) a) (λ j. ends a j l) (h.tracked a l)
    (elim (cases_lt last (cursor (net.script a) (place (all_moved (start net) events) a)).step) [
      | inl y ↦ y
      | inr g ↦ absurd (let c = never net last tied (all_moved (start net) events) a l g in none c.0 c.1)
    ])) in
    omega (arith, e, t)

pub at_most_counted : AtMost
at_most_counted net last ends events runs =
    let h = after_all net (start net) 0 events runs (at_start net) in
    let e = h.events in
    let t = total_most (place (all_moved (start net) events)) (λ a. offset (net.script a) (suc last)) net.actors (λ a l. at_most (net.script a) last (place (all_moved (start net) events) a) (λ j. ends a j l) (h.tracked a l)) in
    omega (arith, e, t)

-- the formula
total_add : (f g : ℕ → ℕ) (n : ℕ) → total (λ a. f a + g a) n ≡ total f n + total g n
total_add f g zero = refl
total_add f g (suc n) = let r = total_add f g n in omega (arith, r)

total_one : (c g n : ℕ) → c < n → total (λ s. length (when (c == s) (replicate g (Pop (Feed 0))))) n ≡ g
total_one c g zero l = absurd (omega (arith, l))
total_one c g (suc n) l = elim (eqb_tells c n) [
  | inl h ↦ (
      let e = ap (λ b. length (when b (replicate g (Pop (Feed 0))))) h.0 ∙ length-replicate g (Pop (Feed 0)) in
      let z = total_none c g n (let q = h.1 in omega (arith, q)) in omega (arith, e, z))
  | inr h ↦ (
      let e = ap (λ b. length (when b (replicate g (Pop (Feed 0))))) h.0 in
      let r = total_one c g n (elim (cases_lt c n) [ inl y ↦ y | inr o ↦ absurd (h.1 (omega (arith, l, o))) ]) in omega (arith, e, r))
]
  where
    total_none : (c g n : ℕ) → n ≤ c → total (λ s. length (when (c == s) (replicate g (Pop (Feed 0))))) n ≡ 0
    total_none c g zero l = refl
    total_none c g (suc n) l =
        let r = total_none c g n (omega (arith, l)) in
        let b : (c == n) ≡ false = grind (arith, nat_tests, l) in
        let e = ap (λ b. length (when b (replicate g (Pop (Feed 0))))) b in omega (arith, r, e)

when_length : (b : Bool) (g : ℕ) (x y : Move) → length (when b (replicate g x)) ≡ length (when b (replicate g y))
when_length true g x y = length-replicate g x ∙ sym (length-replicate g y)
when_length false g x y = refl

none : FeedShape
none = record { source = 1; reader = 0; regs = 0 }

outs_total : (n i : ℕ) (fs : List FeedShape) → ((j : ℕ) → j < length fs → (get_or fs j (record { source = 1; reader = 0; regs = 0 })).source < n) → total (λ s. length (outs s i fs)) n ≡ registers fs
outs_total n i [] h = total_zero (λ s. 0) n (λ a. refl)
outs_total n i (f ∷ fs) h =
    total_same (λ s. length (outs s i (f ∷ fs))) (λ s. length (when (f.source == s) (replicate f.regs (Pop (Feed 0)))) + length (outs s (suc i) fs)) n
    (λ s l. length-append (when (f.source == s) (replicate f.regs (Push (Feed i)))) (outs s (suc i) fs) ∙ ap (λ m. m + length (outs s (suc i) fs)) (when_length (f.source == s) f.regs (Push (Feed i)) (Pop (Feed 0))))
    ∙ total_add (λ s. length (when (f.source == s) (replicate f.regs (Pop (Feed 0))))) (λ s. length (outs s (suc i) fs)) n
    ∙ (let a = total_one f.source f.regs n (h 0 (omega arith)) in let r = outs_total n (suc i) fs (λ j l. h (suc j) (omega (arith, l))) in omega (arith, a, r))

ins_total : (n i : ℕ) (fs : List FeedShape) → ((j : ℕ) → j < length fs → (get_or fs j (record { source = 1; reader = 0; regs = 0 })).reader < n) → total (λ s. length (ins s i fs)) n ≡ registers fs
ins_total n i [] h = total_zero (λ s. 0) n (λ a. refl)
ins_total n i (f ∷ fs) h =
    total_same (λ s. length (ins s i (f ∷ fs))) (λ s. length (when (f.reader == s) (replicate f.regs (Pop (Feed 0)))) + length (ins s (suc i) fs)) n
    (λ s l. length-append (when (f.reader == s) (replicate f.regs (Pop (Feed i)))) (ins s (suc i) fs) ∙ ap (λ m. m + length (ins s (suc i) fs)) (when_length (f.reader == s) f.regs (Pop (Feed i)) (Pop (Feed 0))))
    ∙ total_add (λ s. length (when (f.reader == s) (replicate f.regs (Pop (Feed 0))))) (λ s. length (ins s (suc i) fs)) n
    ∙ (let a = total_one f.reader f.regs n (h 0 (omega arith)) in let r = ins_total n (suc i) fs (λ j l. h (suc j) (omega (arith, l))) in omega (arith, a, r))

-- the first actor apart
total_first : (f : ℕ → ℕ) (n : ℕ) → total f (suc n) ≡ f 0 + total (λ a. f (suc a)) n
total_first f zero = omega arith
total_first f (suc n) = let r = total_first f n in omega (arith, r)

module _ (h : Shape) (ok : IsShape h) where
  reader_offset : (k : ℕ) → k ≤ suc h.steps → offset (script h 0) k ≡ 2 * k
  reader_offset zero l = refl
  reader_offset (suc k) l = let r = reader_offset k (omega (arith, l)) in let e = ap (λ b. length (reader_moves b)) (le_true k h.steps (omega (arith, l))) in omega (arith, r, e)

  fed_length : (s : ℕ) (later : Bool) → length (stage_moves h s true later true) ≡ 2 + length (when later (ins s 0 h.feeds)) + length (outs s 0 h.feeds)
  fed_length s later =
      let a = length-append (when later (ins s 0 h.feeds) ++ outs s 0 h.feeds) (Push (Link (suc s)) ∷ []) in
      let b = length-append (when later (ins s 0 h.feeds)) (outs s 0 h.feeds) in omega (arith, a, b)

  stage_offset : (s k : ℕ) → k ≤ h.steps → offset (later_script h s true) k ≡ 2 * k + length (outs s 0 h.feeds) * k + length (ins s 0 h.feeds) * (k - 1)
  stage_offset s zero l = let z : length (ins s 0 h.feeds) * (0 - 1) ≡ 0 = ap (λ n. length (ins s 0 h.feeds) * n) (let q : 0 - 1 ≡ 0 = omega arith in q) ∙ omega arith in omega (arith, z)
  stage_offset s (suc k) l =
      let r = stage_offset s k (omega (arith, l)) in
      let e = ap (λ b. length (stage_moves h s b (nat_lt 0 k) (nat_lt k h.steps))) (le_true k h.steps (omega (arith, l))) in
      let c = ap (λ b. length (stage_moves h s true (nat_lt 0 k) b)) (lt_true k h.steps (omega (arith, l))) in
      let f = fed_length s (nat_lt 0 k) in
      let g = later k in
      omega (arith, r, e, c, f, g)
    where
      later : (k : ℕ) → length (ins s 0 h.feeds) * (k - 1) + length (when (nat_lt 0 k) (ins s 0 h.feeds)) ≡ length (ins s 0 h.feeds) * (suc k - 1)
      later zero = ap (λ n. length (ins s 0 h.feeds) * n + 0) (let q : 0 - 1 ≡ 1 - 1 = omega arith in q) ∙ omega arith
      later (suc k) =
          let b = ap (λ b. length (when b (ins s 0 h.feeds))) (lt_true 0 (suc k) (omega arith)) in
          let a = ap (λ n. length (ins s 0 h.feeds) * n) (let q : suc k - 1 ≡ k = omega arith in q) in
          let d = ap (λ n. length (ins s 0 h.feeds) * n) (let q : suc (suc k) - 1 ≡ k + 1 = omega arith in q) in
          omega (arith, a, b, d)

  stage_total : (s : ℕ) → s < h.stages → offset (script h (suc s)) (suc h.steps) ≡ 2 * (h.steps + 1) + (length (outs s 0 h.feeds) * h.steps + length (ins s 0 h.feeds) * (h.steps - 1))
  stage_total s l =
      ap (λ b. offset (later_script h s b) (suc h.steps)) (lt_true s h.stages l)
      ∙ (let r = stage_offset s h.steps (omega arith) in
      let e = ap (λ b. length (stage_moves h s b (nat_lt 0 h.steps) (nat_lt h.steps h.steps))) (le_true h.steps h.steps (omega arith)) in
      let c = ap (λ b. length (stage_moves h s true (nat_lt 0 h.steps) b)) (lt_false h.steps h.steps (omega arith)) in
      omega (arith, r, e, c))

  writer_offset : (k : ℕ) → k ≤ h.lines → offset (later_script h h.stages false) k ≡ 2 * k
  writer_offset zero l = refl
  writer_offset (suc k) l =
      let r = writer_offset k (omega (arith, l)) in
      let e = ap (λ b. length (writer_moves h.stages b (nat_lt k h.lines))) (le_true k h.lines (omega (arith, l))) in
      let c = ap (λ b. length (writer_moves h.stages true b)) (lt_true k h.lines (omega (arith, l))) in
      omega (arith, r, e, c)

  writer_ends : (k : ℕ) → h.lines < k → later_script h h.stages false k ≡ []
  writer_ends k l = ap (λ b. writer_moves h.stages b (nat_lt k h.lines)) (le_false k h.lines l)

  writer_total : offset (script h (suc h.stages)) (suc h.steps) ≡ 2 * h.lines + 1
  writer_total =
      ap (λ b. offset (later_script h h.stages b) (suc h.steps)) (lt_false h.stages h.stages (omega arith))
      ∙ offset_flat (later_script h h.stages false) h.lines (suc h.steps) writer_ends (let m = ok.lines in omega (arith, m))
      ∙ (let r = writer_offset h.lines (omega arith) in
      let e = ap (λ b. length (writer_moves h.stages b (nat_lt h.lines h.lines))) (le_true h.lines h.lines (omega arith)) in
      let c = ap (λ b. length (writer_moves h.stages true b)) (lt_false h.lines h.lines (omega arith)) in
      omega (arith, r, e, c))

  scripts_end : Ends (net h) h.steps
  scripts_end zero k l m = ap reader_moves (le_false k h.steps m)
  scripts_end (suc s) k l m = elim (cases_lt s h.stages) [
    | inl a ↦ ap (λ b. later_script h s b k) (lt_true s h.stages a) ∙ ap (λ b. stage_moves h s b (nat_lt 0 k) (nat_lt k h.steps)) (le_false k h.steps m)
    | inr a ↦ ap (λ b. later_script h s b k) (lt_false s h.stages a) ∙ ap (λ b. writer_moves s b (nat_lt k h.lines)) (le_false k h.lines (let o = ok.lines in omega (arith, o, m)))
  ]

  total_times : (f g : ℕ → ℕ) (c x y n : ℕ) → total (λ s. c + (f s * x + g s * y)) n ≡ c * n + (total f n * x + total g n * y)
  total_times f g c x y zero = omega arith
  total_times f g c x y (suc n) = let r = total_times f g c x y n in omega (arith, r)

  all_offsets : total (λ a. offset (script h a) (suc h.steps)) (suc (suc h.stages)) ≡ 2 * (h.steps + 1) * (h.stages + 1) + 2 * h.lines + 1 + registers h.feeds * (h.steps + (h.steps - 1))
  all_offsets =
      let w = writer_total in
      let f = total_first (λ a. offset (script h a) (suc h.steps)) h.stages in
      let r = reader_offset (suc h.steps) (omega arith) in
      let s = total_same (λ s. offset (script h (suc s)) (suc h.steps)) (λ s. 2 * (h.steps + 1) + (length (outs s 0 h.feeds) * h.steps + length (ins s 0 h.feeds) * (h.steps - 1))) h.stages stage_total in
      let t = total_times (λ s. length (outs s 0 h.feeds)) (λ s. length (ins s 0 h.feeds)) (2 * (h.steps + 1)) h.steps (h.steps - 1) h.stages in
      let o = ap (λ n. n * h.steps) (outs_total h.stages 0 h.feeds (λ j l. (ok.forward j l).1)) in
      let i = ap (λ n. n * (h.steps - 1)) (ins_total h.stages 0 h.feeds (λ j l. (let x = (ok.forward j l).0 in let y = (ok.forward j l).1 in omega (arith, x, y)))) in
      omega (arith, w, f, r, s, t, o, i)

pub formula : Formula
formula h ok = (scripts_end h ok, ap (total (λ a. offset ((net h).script a) (suc h.steps))) (let q : h.stages + 2 ≡ suc (suc h.stages) = omega arith in q) ∙ all_offsets h ok)
