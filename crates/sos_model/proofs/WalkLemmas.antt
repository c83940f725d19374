-- What the code of a walk has found so far, and what it finds next.
use Rattle.std.proofs.Common.{◌≡◌, ◌<◌, ◌≤◌, ◌+◌, ℕ, zero, suc, ℤ, Bool, true, false, List, [], ◌∷◌, length, length-drop, get_or, take, drop, map, Option, Some, None, option_map, if◌then◌else◌, refl, sym, ap, ◌∙◌, subst, arith, ◌-◌}
use Rattle.std.proofs.lemmas.List.{drop_more, take_rest}
use Rattle.std.proofs.Math.Seq.{drop-nil}
use Rattle.std.specs.Option.{option_and_then}
use Rattle.quartz_expr.specs.Values.{Values}
use Rattle.quartz_expr.specs.Vars.{Vars}
use Rattle.quartz_expr.specs.Terms.{Term, seq, par, Terms, none, part}
use Rattle.quartz_expr.specs.React.{Reaction, Reactions, ends, goes_on, beside, together}
use Rattle.sos_model.specs.declared.form.Form.{Form}
use Rattle.sos_model.specs.declared.found.Found.{Found}
use Rattle.sos_model.specs.declared.passed.Passed.{Passed}
use Rattle.sos_model.specs.declared.passed.Beside.{Beside}
use Rattle.sos_model.specs.FormTerms.{term, terms}
use Rattle.sos_model.specs.Found.{Finds, reaction_of}
use Rattle.sos_model.specs.Passed.{behind, behind_all, behind_walk, behind_walks}
use Rattle.sos_model.specs.Sound.{is_sound, are_sound}
use Rattle.sos_model.specs.Walk.{Walk, Walks, before_walks, found, on_reaction, stopped, together_walk, turned, walk, walk_all, walk_each}
use Rattle.quartz_expr.proofs.TruthLemmas.{and_parts}

-- ---- one form

pub finds_now : (vs : Vars) (env : Values) (t : Term) (xs : List ℤ) (f : Found) (q : Reaction) → walk vs env t xs ≡ found xs q → reaction_of t f ≡ q → f.used ≡ 0 → Finds vs env t xs f
finds_now vs env t xs f q e h u = record {
  walked = e ∙ ap (λ (r : Reaction). found xs r) (sym h) ∙ ap (λ (n : ℕ). found (drop n xs) (reaction_of t f)) (sym u);
  used = omega (arith, u);
}

pub finds_as : (vs : Vars) (env : Values) (t u : Term) (xs : List ℤ) (m : Reaction → Reaction) (f g : Found) → Finds vs env u xs f → walk vs env t xs ≡ option_map (on_reaction m) (walk vs env u xs)
    → reaction_of t g ≡ m (reaction_of u f) → g.used ≡ f.used → Finds vs env t xs g
finds_as vs env t u xs m f g h e r n = record {
  walked = e ∙ ap (λ (o : Option Walk). option_map (on_reaction m) o) h.walked ∙ ap (λ (q : Reaction). found (drop f.used xs) q) (sym r) ∙ ap (λ (k : ℕ). found (drop k xs) (reaction_of t g)) (sym n);
  used = omega (arith, n, h.used);
}

pub lacks_as : (vs : Vars) (env : Values) (t u : Term) (xs : List ℤ) (m : Reaction → Reaction) → walk vs env t xs ≡ option_map (on_reaction m) (walk vs env u xs) → walk vs env u xs ≡ None → walk vs env t xs ≡ None
lacks_as vs env t u xs m e h = e ∙ ap (λ (o : Option Walk). option_map (on_reaction m) o) h

-- ---- parts

pub part_at : (fs : List Form) (i : ℕ) (f : Form) → i < length fs → f ≡ get_or fs i f → terms (map term (drop i fs)) ≡ part (term f) (terms (map term (drop (i + 1) fs)))
part_at fs i f h e = ap (λ (l : List Form). terms (map term l)) (drop_more fs i f h) ∙ ap (λ (g : Form). part (term g) (terms (map term (drop (i + 1) fs)))) (sym e)

sound_left : (vs : Vars) (fs : List Form) (i : ℕ) → are_sound vs (terms (map term fs)) ≡ true → are_sound vs (terms (map term (drop i fs))) ≡ true
sound_left vs fs zero h = h
sound_left vs [] (suc i) h = refl
sound_left vs (f ∷ fs) (suc i) h = sound_left vs fs i (and_parts (is_sound vs (term f)) _ h).1

pub sound_part : (vs : Vars) (fs : List Form) (i : ℕ) (f : Form) → i < length fs → f ≡ get_or fs i f → are_sound vs (terms (map term fs)) ≡ true → is_sound vs (term f) ≡ true
sound_part vs fs i f h e k =
    let l : are_sound vs (part (term f) (terms (map term (drop (i + 1) fs)))) ≡ true = ap (are_sound vs) (sym (part_at fs i f h e)) ∙ sound_left vs fs i k in
    (and_parts (is_sound vs (term f)) _ l).0

pub drop_twice : {A : Type 0} (m n : ℕ) (xs : List A) → drop n (drop m xs) ≡ drop (m + n) xs
drop_twice zero n xs = let e : n ≡ 0 + n = omega arith in ap (λ (k : ℕ). drop k xs) e
drop_twice (suc m) n [] = drop-nil n ∙ sym (drop-nil (suc m + n))
drop_twice (suc m) n (x ∷ xs) = let e : suc (m + n) ≡ suc m + n = omega arith in drop_twice m n xs ∙ ap (λ (k : ℕ). drop k (x ∷ xs)) e

-- ---- sequences

-- a walk passed so many parts of a sequence
pub record Passes (vs : Vars) (env : Values) (ts : Terms) (xs : List ℤ) (left : List Form) (b : Passed) : Type 0 where
  pub walked : walk_all vs env ts xs ≡ option_map (behind_walk b) (walk_all vs env (terms (map term left)) (drop b.used xs))
  pub used : b.used ≤ length xs

nothing_behind : (b : Passed) → ((p : Reaction) → behind b p ≡ p) → (o : Option Walk) → o ≡ option_map (behind_walk b) o
nothing_behind b h None = refl
nothing_behind b h (Some w) = ap (λ (q : Reaction). found w.rest q) (sym (h w.reaction))

pub passes_none : (vs : Vars) (env : Values) (fs : List Form) (xs : List ℤ) (b : Passed) → ((p : Reaction) → behind b p ≡ p) → b.used ≡ 0 → Passes vs env (terms (map term fs)) xs (drop 0 fs) b
passes_none vs env fs xs b h u = record {
  walked = nothing_behind b h (walk_all vs env (terms (map term fs)) xs) ∙ ap (λ (n : ℕ). option_map (behind_walk b) (walk_all vs env (terms (map term fs)) (drop n xs))) (sym u);
  used = omega (arith, u);
}

more_behind : (b c : Passed) (ts : Terms) (q : Reaction) → ((p : Reaction) → behind c p ≡ behind b (goes_on ts q p)) → (o : Option Walk)
    → option_map (behind_walk b) (option_map (on_reaction (goes_on ts q)) o) ≡ option_map (behind_walk c) o
more_behind b c ts q h None = refl
more_behind b c ts q h (Some w) = ap (λ (p : Reaction). found w.rest p) (sym (h w.reaction))

-- the walk of the parts from one on, by what the walk of this part finds
from_part : (vs : Vars) (env : Values) (fs : List Form) (i : ℕ) (f : Form) (xs : List ℤ) (g : Found) → i < length fs → f ≡ get_or fs i f → Finds vs env (term f) xs g
    → walk_all vs env (terms (map term (drop i fs))) xs ≡ turned (terms (map term (drop (i + 1) fs))) (reaction_of (term f) g) (drop g.used xs) (walk_all vs env (terms (map term (drop (i + 1) fs))) (drop g.used xs))
from_part vs env fs i f xs g h e k =
    let ts = terms (map term (drop (i + 1) fs)) in
    ap (λ (t : Terms). walk_all vs env t xs) (part_at fs i f h e)
    ∙ ap (λ (o : Option Walk). option_and_then (λ (w : Walk). turned ts w.reaction w.rest (walk_all vs env ts w.rest)) o) k.walked

pub passes_more : (vs : Vars) (env : Values) (ts : Terms) (xs : List ℤ) (fs : List Form) (i : ℕ) (f : Form) (b c : Passed) (g : Found) → Passes vs env ts xs (drop i fs) b
    → i < length fs → f ≡ get_or fs i f → Finds vs env (term f) (drop b.used xs) g → g.ended ≡ true
    → ((p : Reaction) → behind c p ≡ behind b (goes_on (terms (map term (drop (i + 1) fs))) (reaction_of (term f) g) p)) → c.used ≡ b.used + g.used → Passes vs env ts xs (drop (i + 1) fs) c
passes_more vs env ts xs fs i f b c g h l e k d m u =
    let us = terms (map term (drop (i + 1) fs)) in
    let more = more_behind b c us (reaction_of (term f) g) m in
    let walked_on = λ (ys : List ℤ). walk_all vs env us ys in
    record {
      walked = h.walked
          ∙ ap (λ (o : Option Walk). option_map (behind_walk b) o) (from_part vs env fs i f (drop b.used xs) g l e k)
          ∙ ap (λ (z : Bool). option_map (behind_walk b) (if z then option_map (on_reaction (goes_on us (reaction_of (term f) g))) (walked_on (drop g.used (drop b.used xs))) else found (drop g.used (drop b.used xs)) (stopped us (reaction_of (term f) g)))) d
          ∙ more (walked_on (drop g.used (drop b.used xs)))
          ∙ ap (λ (ys : List ℤ). option_map (behind_walk c) (walked_on ys)) (drop_twice b.used g.used xs ∙ ap (λ (n : ℕ). drop n xs) (sym u));
      used = let n = k.used in let m = h.used in let long = length-drop b.used xs in omega (arith, u, n, m, long);
    }

pub passes_stop : (vs : Vars) (env : Values) (ts : Terms) (xs : List ℤ) (fs : List Form) (i : ℕ) (f : Form) (b : Passed) (g r : Found) → Passes vs env ts xs (drop i fs) b
    → i < length fs → f ≡ get_or fs i f → Finds vs env (term f) (drop b.used xs) g → g.ended ≡ false
    → reaction_of (seq ts) r ≡ behind b (stopped (terms (map term (drop (i + 1) fs))) (reaction_of (term f) g)) → r.used ≡ b.used + g.used → Finds vs env (seq ts) xs r
passes_stop vs env ts xs fs i f b g r h l e k d m u =
    let us = terms (map term (drop (i + 1) fs)) in
    let ys = drop g.used (drop b.used xs) in
    record {
      walked = h.walked
          ∙ ap (λ (o : Option Walk). option_map (behind_walk b) o) (from_part vs env fs i f (drop b.used xs) g l e k)
          ∙ ap (λ (z : Bool). option_map (behind_walk b) (if z then option_map (on_reaction (goes_on us (reaction_of (term f) g))) (walk_all vs env us ys) else found ys (stopped us (reaction_of (term f) g)))) d
          ∙ ap (λ (q : Reaction). found ys q) (sym m)
          ∙ ap (λ (zs : List ℤ). found zs (reaction_of (seq ts) r)) (drop_twice b.used g.used xs ∙ ap (λ (n : ℕ). drop n xs) (sym u));
      used = let n = k.used in let m = h.used in let long = length-drop b.used xs in omega (arith, u, n, m, long);
    }

pub passes_lack : (vs : Vars) (env : Values) (ts : Terms) (xs : List ℤ) (fs : List Form) (i : ℕ) (f : Form) (b : Passed) → Passes vs env ts xs (drop i fs) b
    → i < length fs → f ≡ get_or fs i f → walk vs env (term f) (drop b.used xs) ≡ None → walk_all vs env ts xs ≡ None
passes_lack vs env ts xs fs i f b h l e k =
    let us = terms (map term (drop (i + 1) fs)) in
    h.walked
    ∙ ap (λ (t : Terms). option_map (behind_walk b) (walk_all vs env t (drop b.used xs))) (part_at fs i f l e)
    ∙ ap (λ (o : Option Walk). option_map (behind_walk b) (option_and_then (λ (w : Walk). turned us w.reaction w.rest (walk_all vs env us w.rest)) o)) k

pub passes_all : (vs : Vars) (env : Values) (ts : Terms) (xs : List ℤ) (left : List Form) (b : Passed) (r : Found) → Passes vs env ts xs left b → left ≡ []
    → reaction_of (seq ts) r ≡ behind b (ends [] [] (seq none)) → r.used ≡ b.used → Finds vs env (seq ts) xs r
passes_all vs env ts xs left b r h e m u = record {
  walked = h.walked
      ∙ ap (λ (l : List Form). option_map (behind_walk b) (walk_all vs env (terms (map term l)) (drop b.used xs))) e
      ∙ ap (λ (q : Reaction). found (drop b.used xs) q) (sym m)
      ∙ ap (λ (n : ℕ). found (drop n xs) (reaction_of (seq ts) r)) (sym u);
  used = let n = h.used in omega (arith, u, n);
}

-- ---- parallels

abbrev found_each : List ℤ → Reactions → Option Walks
found_each xs q = Some (record { reactions = q; rest = xs })

-- a walk passed so many parts of a parallel
pub record Joins (vs : Vars) (env : Values) (ts : Terms) (xs : List ℤ) (left : List Form) (b : Beside) : Type 0 where
  pub walked : walk_each vs env ts xs ≡ option_map (behind_walks b) (walk_each vs env (terms (map term left)) (drop b.used xs))
  pub used : b.used ≤ length xs

none_behind : (b : Beside) → ((p : Reactions) → behind_all b p ≡ p) → (o : Option Walks) → o ≡ option_map (behind_walks b) o
none_behind b h None = refl
none_behind b h (Some w) = ap (λ (q : Reactions). found_each w.rest q) (sym (h w.reactions))

pub joins_none : (vs : Vars) (env : Values) (fs : List Form) (xs : List ℤ) (b : Beside) → ((p : Reactions) → behind_all b p ≡ p) → b.used ≡ 0 → Joins vs env (terms (map term fs)) xs (drop 0 fs) b
joins_none vs env fs xs b h u = record {
  walked = none_behind b h (walk_each vs env (terms (map term fs)) xs) ∙ ap (λ (n : ℕ). option_map (behind_walks b) (walk_each vs env (terms (map term fs)) (drop n xs))) (sym u);
  used = omega (arith, u);
}

more_beside : (b c : Beside) (q : Reaction) → ((p : Reactions) → behind_all c p ≡ behind_all b (beside q p)) → (o : Option Walks)
    → option_map (behind_walks b) (option_map (before_walks q) o) ≡ option_map (behind_walks c) o
more_beside b c q h None = refl
more_beside b c q h (Some w) = ap (λ (p : Reactions). found_each w.rest p) (sym (h w.reactions))

pub joins_more : (vs : Vars) (env : Values) (ts : Terms) (xs : List ℤ) (fs : List Form) (i : ℕ) (f : Form) (b c : Beside) (g : Found) → Joins vs env ts xs (drop i fs) b
    → i < length fs → f ≡ get_or fs i f → Finds vs env (term f) (drop b.used xs) g
    → ((p : Reactions) → behind_all c p ≡ behind_all b (beside (reaction_of (term f) g) p)) → c.used ≡ b.used + g.used → Joins vs env ts xs (drop (i + 1) fs) c
joins_more vs env ts xs fs i f b c g h l e k m u =
    let us = terms (map term (drop (i + 1) fs)) in
    let on = λ (ys : List ℤ). walk_each vs env us ys in
    record {
      walked = h.walked
          ∙ ap (λ (t : Terms). option_map (behind_walks b) (walk_each vs env t (drop b.used xs))) (part_at fs i f l e)
          ∙ ap (λ (o : Option Walk). option_map (behind_walks b) (option_and_then (λ (w : Walk). option_map (before_walks w.reaction) (walk_each vs env us w.rest)) o)) k.walked
          ∙ more_beside b c (reaction_of (term f) g) m (on (drop g.used (drop b.used xs)))
          ∙ ap (λ (ys : List ℤ). option_map (behind_walks c) (on ys)) (drop_twice b.used g.used xs ∙ ap (λ (n : ℕ). drop n xs) (sym u));
      used = let n = k.used in let m = h.used in let long = length-drop b.used xs in omega (arith, u, n, m, long);
    }

pub joins_lack : (vs : Vars) (env : Values) (ts : Terms) (xs : List ℤ) (fs : List Form) (i : ℕ) (f : Form) (b : Beside) → Joins vs env ts xs (drop i fs) b
    → i < length fs → f ≡ get_or fs i f → walk vs env (term f) (drop b.used xs) ≡ None → walk vs env (par ts) xs ≡ None
joins_lack vs env ts xs fs i f b h l e k =
    let us = terms (map term (drop (i + 1) fs)) in
    ap (λ (o : Option Walks). option_map together_walk o) (h.walked
    ∙ ap (λ (t : Terms). option_map (behind_walks b) (walk_each vs env t (drop b.used xs))) (part_at fs i f l e)
    ∙ ap (λ (o : Option Walk). option_map (behind_walks b) (option_and_then (λ (w : Walk). option_map (before_walks w.reaction) (walk_each vs env us w.rest)) o)) k)

pub joins_all : (vs : Vars) (env : Values) (ts : Terms) (xs : List ℤ) (left : List Form) (b : Beside) (r : Found) → Joins vs env ts xs left b → left ≡ []
    → reaction_of (par ts) r ≡ together (behind_all b (record { residuals = none; helds = none; acts = []; faults = []; met = []; ended = true })) → r.used ≡ b.used → Finds vs env (par ts) xs r
joins_all vs env ts xs left b r h e m u = record {
  walked = ap (λ (o : Option Walks). option_map together_walk o) (h.walked
      ∙ ap (λ (l : List Form). option_map (behind_walks b) (walk_each vs env (terms (map term l)) (drop b.used xs))) e)
      ∙ ap (λ (q : Reaction). found (drop b.used xs) q) (sym m)
      ∙ ap (λ (n : ℕ). found (drop n xs) (reaction_of (par ts) r)) (sym u);
  used = let n = h.used in omega (arith, u, n);
}

-- ---- as the loops have it: slices to the end, and an environment that is the same again

pub same_finds : (vs : Vars) (env env' : Values) (t : Term) (xs ys : List ℤ) (g : Found) → Finds vs env' t ys g → env' ≡ env → ys ≡ xs → Finds vs env t xs g
same_finds vs env env' t xs ys g h e k = subst (λ (v : Values). Finds vs v t xs g) e (subst (λ (l : List ℤ). Finds vs env' t l g) k h)

pub passes_on : (vs : Vars) (env env' : Values) (ts : Terms) (xs : List ℤ) (fs : List Form) (i : ℕ) (f : Form) (b c : Passed) (g : Found) → Passes vs env ts xs (drop i fs) b
    → Finds vs env' (term f) (take (length xs - b.used) (drop b.used xs)) g → env' ≡ env → i < length fs → f ≡ get_or fs i f → g.ended ≡ true
    → ((p : Reaction) → behind c p ≡ behind b (goes_on (terms (map term (take (length fs - (i + 1)) (drop (i + 1) fs)))) (reaction_of (term f) g) p)) → c.used ≡ b.used + g.used → Passes vs env ts xs (drop (i + 1) fs) c
passes_on vs env env' ts xs fs i f b c g h k e l n d m u =
    passes_more vs env ts xs fs i f b c g h l n (same_finds vs env env' (term f) (drop b.used xs) (take (length xs - b.used) (drop b.used xs)) g k e (take_rest xs b.used)) d
    (λ p. m p ∙ ap (λ (l : List Form). behind b (goes_on (terms (map term l)) (reaction_of (term f) g) p)) (take_rest fs (i + 1))) u

pub joins_on : (vs : Vars) (env env' : Values) (ts : Terms) (xs : List ℤ) (fs : List Form) (i : ℕ) (f : Form) (b c : Beside) (g : Found) → Joins vs env ts xs (drop i fs) b
    → Finds vs env' (term f) (take (length xs - b.used) (drop b.used xs)) g → env' ≡ env → i < length fs → f ≡ get_or fs i f
    → ((p : Reactions) → behind_all c p ≡ behind_all b (beside (reaction_of (term f) g) p)) → c.used ≡ b.used + g.used → Joins vs env ts xs (drop (i + 1) fs) c
joins_on vs env env' ts xs fs i f b c g h k e l n m u =
    joins_more vs env ts xs fs i f b c g h l n (same_finds vs env env' (term f) (drop b.used xs) (take (length xs - b.used) (drop b.used xs)) g k e (take_rest xs b.used)) m u
