-- A walk with a value for each element of the term's scopes comes to an end: by induction on the
-- term, each part leaves as many values as those behind it need.
use Rattle.std.proofs.Common.{◌≡◌, ◌∙◌, ℕ, zero, suc, ◌+◌, ◌-◌, ◌≤◌, ℤ, pos, Bool, true, false, nat_le, List, ◌++◌, length, take, drop, replicate, Option, Some, None, option_map, slice_set, if◌then◌else◌, refl, sym, ap, subst, arith, length-append, length-drop}
use Rattle.std.specs.Option.{option_and_then}
use Rattle.std.proofs.lemmas.Bool.Decides.{nat_tests}
use Rattle.quartz_tree.specs.Tree.{Tree}
use Rattle.quartz_expr.specs.Values.{Values, is_zero}
use Rattle.quartz_expr.specs.Vars.{Vars}
use Rattle.quartz_expr.specs.Value.{value}
use Rattle.quartz_expr.specs.Faults.{faults}
use Rattle.quartz_expr.specs.Terms.{Store, Term, nothing, pause, write, choose, seq, par, loop, abort, suspend, scope, Terms, none, part}
use Rattle.quartz_expr.specs.Tick.{tick}
use Rattle.quartz_expr.specs.React.{Reaction, goes_on}
use Rattle.sos_model.specs.Walk.{Walk, Walks, before_walks, chosen, entered, found, guard_on, guarded, looped, on_reaction, read_as, stopped, stops_body, strong_guard, taken_by, together_walk, turned, walk, walk_all, walk_each}
use Rattle.walk_laws.specs.Enough.{LongListsAreEnough, ShortListsAreCured, elements_of_all, scope_elements}

-- it comes to an end, and used at most so many of the values
record Ends (n : ℕ) (xs : List ℤ) (o : Option Walk) : Type 0 where
  made : Walk
  is : o ≡ Some made
  left : length xs ≤ length made.rest + n

-- the same of the parts of a parallel
record EachEnds (n : ℕ) (xs : List ℤ) (o : Option Walks) : Type 0 where
  made : Walks
  is : o ≡ Some made
  left : length xs ≤ length made.rest + n

ends_found : (n : ℕ) (xs : List ℤ) (q : Reaction) → Ends n xs (found xs q)
ends_found n xs q = record { made = record { reaction = q; rest = xs }; is = refl; left = omega arith }

ends_mapped : {n : ℕ} {xs : List ℤ} {o : Option Walk} (f : Reaction → Reaction) → Ends n xs o → Ends n xs (option_map (on_reaction f) o)
ends_mapped f h = record { made = on_reaction f h.made; is = ap (option_map (on_reaction f)) h.is; left = h.left }

ends_wider : {n : ℕ} (m : ℕ) {xs : List ℤ} {o : Option Walk} → n ≤ m → Ends n xs o → Ends m xs o
ends_wider m le h = let left = h.left in record { made = h.made; is = h.is; left = omega (arith, left, le) }

-- what goes on behind a walk that ended
ends_behind : {n m : ℕ} {xs : List ℤ} {o : Option Walk} (f : Walk → Option Walk) → Ends n xs o
    → ((w : Walk) → length xs ≤ length w.rest + n → Ends m w.rest (f w)) → Ends (n + m) xs (option_and_then f o)
ends_behind f h g =
    let p = g h.made h.left in
    let left = h.left in
    let more = p.left in
    record { made = p.made; is = ap (option_and_then f) h.is ∙ p.is; left = omega (arith, left, more) }

each_behind : {n m : ℕ} {xs : List ℤ} {o : Option Walk} (f : Walk → Option Walks) → Ends n xs o
    → ((w : Walk) → length xs ≤ length w.rest + n → EachEnds m w.rest (f w)) → EachEnds (n + m) xs (option_and_then f o)
each_behind f h g =
    let p = g h.made h.left in
    let left = h.left in
    let more = p.left in
    record { made = p.made; is = ap (option_and_then f) h.is ∙ p.is; left = omega (arith, left, more) }

ends_turned : (ts : Terms) (q : Reaction) (n : ℕ) (xs : List ℤ) (o : Option Walk) → Ends n xs o → Ends n xs (turned ts q xs o)
ends_turned ts q n xs o h = at q.ended
  where
    at : (b : Bool) → Ends n xs (if b then option_map (on_reaction (goes_on ts q)) o else found xs (stopped ts q))
    at true = ends_mapped (goes_on ts q) h
    at false = ends_found n xs (stopped ts q)

module _ (vs : Vars) where
  ends_guarded : (env : Values) (a w i : Bool) (t : Term) (c : Tree ℕ) (n : ℕ) (xs : List ℤ) (o : Option Walk) → Ends n xs o → Ends n xs (guard_on vs env a w i t c xs o)
  ends_guarded env a w i t c n xs o h = at (stops_body w i (is_zero (value vs env c)))
    where
      at : (b : Bool) → Ends n xs (if b then found xs (strong_guard a (tick vs t) c (faults vs env c)) else option_map (on_reaction (guarded vs env a w i t c)) o)
      at true = ends_found n xs (strong_guard a (tick vs t) c (faults vs env c))
      at false = ends_mapped (guarded vs env a w i t c) h

  -- the list has the values that a scope takes
  has_taken : (k n : ℕ) (xs : List ℤ) → k + n ≤ length xs → nat_le k (length xs) ≡ true
  has_taken k n xs room = let le : k ≤ length xs = omega (arith, room) in grind (arith, nat_tests, le)

  ends_scope : (env : Values) (x : ℕ) (s : Option Store) (t : Term) (n : ℕ) (xs : List ℤ) → taken_by vs x s + n ≤ length xs
      → Ends n (drop (taken_by vs x s) xs) (walk vs (slice_set env x (read_as vs x (take (taken_by vs x s) xs))) t (drop (taken_by vs x s) xs)) → Ends (taken_by vs x s + n) xs (walk vs env (scope x s t) xs)
  ends_scope env x s t n xs room h =
      let k : ℕ = taken_by vs x s in
      let within : Option Walk = option_map (on_reaction (entered vs x s t (take k xs))) (walk vs (slice_set env x (read_as vs x (take k xs))) t (drop k xs)) in
      let reached : walk vs env (scope x s t) xs ≡ within = ap (λ (b : Bool). if b then within else None) (has_taken k n xs room) in
      let p : Ends n (drop k xs) within = ends_mapped (entered vs x s t (take k xs)) h in
      let left : length (drop k xs) ≤ length p.made.rest + n = p.left in
      let long : length (drop k xs) ≡ length xs - k = length-drop k xs in
      subst (Ends (k + n) xs) (sym reached) (record { made = p.made; is = p.is; left = omega (arith, left, long, room) })

  mutual
    ends : (t : Term) (env : Values) (xs : List ℤ) → scope_elements vs t ≤ length xs → Ends (scope_elements vs t) xs (walk vs env t xs)
    ends nothing env xs room = ends_found 0 xs _
    ends pause env xs room = ends_found 0 xs _
    ends (write x i e d p q) env xs room = ends_found 0 xs _
    ends (choose c a b) env xs room = ends_mapped (chosen (faults vs env c) (choose c a b)) (at (is_zero (value vs env c)) (ends a env xs (omega (arith, room))) (ends b env xs (omega (arith, room))))
      where
        at : (y : Bool) → Ends (scope_elements vs a) xs (walk vs env a xs) → Ends (scope_elements vs b) xs (walk vs env b xs)
            → Ends (scope_elements vs a + scope_elements vs b) xs (if y then walk vs env b xs else walk vs env a xs)
        at true g h = ends_wider (scope_elements vs a + scope_elements vs b) (omega arith) h
        at false g h = ends_wider (scope_elements vs a + scope_elements vs b) (omega arith) g
    ends (seq ts) env xs room = ends_all ts env xs room
    ends (par ts) env xs room = let h = each_ends ts env xs room in record { made = together_walk h.made; is = ap (option_map together_walk) h.is; left = h.left }
    ends (loop t c) env xs room = ends_mapped (looped t c) (ends t env xs room)
    ends (abort w i t c) env xs room = ends_guarded env true w i t c (scope_elements vs t) xs (walk vs env t xs) (ends t env xs room)
    ends (suspend w i t c) env xs room = ends_guarded env false w i t c (scope_elements vs t) xs (walk vs env t xs) (ends t env xs room)
    ends (scope x s t) env xs room =
        let k : ℕ = taken_by vs x s in
        let long : length (drop k xs) ≡ length xs - k = length-drop k xs in
        ends_scope env x s t (scope_elements vs t) xs room (ends t (slice_set env x (read_as vs x (take k xs))) (drop k xs) (omega (arith, room, long)))

    ends_all : (ts : Terms) (env : Values) (xs : List ℤ) → elements_of_all vs ts ≤ length xs → Ends (elements_of_all vs ts) xs (walk_all vs env ts xs)
    ends_all none env xs room = ends_found 0 xs _
    ends_all (part t ts) env xs room =
        ends_behind (λ w. turned ts w.reaction w.rest (walk_all vs env ts w.rest)) (ends t env xs (omega (arith, room)))
        (λ w left. ends_turned ts w.reaction (elements_of_all vs ts) w.rest (walk_all vs env ts w.rest) (ends_all ts env w.rest (omega (arith, room, left))))

    each_ends : (ts : Terms) (env : Values) (xs : List ℤ) → elements_of_all vs ts ≤ length xs → EachEnds (elements_of_all vs ts) xs (walk_each vs env ts xs)
    each_ends none env xs room = record { made = _; is = refl; left = omega arith }
    each_ends (part t ts) env xs room =
        each_behind (λ w. option_map (before_walks w.reaction) (walk_each vs env ts w.rest)) (ends t env xs (omega (arith, room)))
        (λ w left.
        let h = each_ends ts env w.rest (omega (arith, room, left)) in
        record { made = before_walks w.reaction h.made; is = ap (option_map (before_walks w.reaction)) h.is; left = h.left })

-- where a walk ends, it is something
not_none : (o : Option Walk) (w : Walk) → o ≡ Some w → ¬ (o ≡ None)
not_none o w e f = let g : Some w ≡ None = sym e ∙ f in absurd (cc)

pub long_enough : LongListsAreEnough
long_enough vs env t xs room = let h = ends vs t env xs room in not_none (walk vs env t xs) h.made h.is

length_zeros : (n : ℕ) → length (replicate n (pos 0)) ≡ n
length_zeros zero = refl
length_zeros (suc n) = ap suc (length_zeros n)

pub cured : ShortListsAreCured
cured vs env t xs =
    let zeros : List ℤ = replicate (scope_elements vs t) (pos 0) in
    let size : length (xs ++ zeros) ≡ length xs + length zeros = length-append xs zeros in
    let own : length zeros ≡ scope_elements vs t = length_zeros (scope_elements vs t) in
    (zeros, long_enough vs env t (xs ++ zeros) (omega (arith, size, own)))
