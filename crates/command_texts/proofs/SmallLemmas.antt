-- The values of a run are small, in the acts of its reactions, in stores, and in its outputs.
use Rattle.std.proofs.Common.{◌≡◌, ◌<◌, ◌≤◌, ◌⊎◌, inl, inr, ◌-◌, ◌^◌, ◌≤ℤ◌, ℕ, zero, suc, ◌+◌, ℤ, pos, negsuc, neg_ℤ, Bool, true, false, ◌&&◌, ◌==◌, nat_le, if◌then◌else◌, List, [], ◌∷◌, ◌++◌, length, map, replicate, Option, Some, None, unwrap_or, refl, sym, subst, arith}
use Rattle.std.proofs.Math.Nat.{pow-le-pow_right}
use Rattle.std.proofs.lemmas.Int.{ints}
use Rattle.std.proofs.lemmas.Bool.Decides.{nat_tests}
use Rattle.quartz_tree.specs.declared.declare.Base.{Base}
use Rattle.quartz_tree.specs.declared.declare.Base.TheVariants as base
use Rattle.quartz_tree.specs.declared.declare.Storage.{Storage}
use Rattle.quartz_tree.specs.declared.declare.Storage.TheVariants.{Mem, Event}
use Rattle.quartz_tree.specs.declared.declare.Ty.{Ty}
use Rattle.quartz_tree.specs.Kernel.{Kernel}
use Rattle.quartz_expr.specs.declared.act.Act.{Act}
use Rattle.quartz_expr.specs.Vars.{Vars, count_of, start_of, storage_of}
use Rattle.quartz_expr.specs.Values.{Values}
use Rattle.quartz_expr.specs.Intervals.{Interval, Lies, base_interval, is_in, is_sound_base, is_sound_length, is_sound_type, nought, range_of, sound_or_nought, type_interval}
use Rattle.quartz_expr.specs.Faults.{is_index_below}
use Rattle.quartz_expr.specs.Terms.{Store, Term, Terms}
use Rattle.quartz_expr.specs.Writes.{act_if, in_range, target_index}
use Rattle.quartz_expr.specs.Value.{value}
use Rattle.quartz_expr.specs.Resolve.{absence, first_of_all, fresh_store, is_write_of, others, resolved_store, values_of, writes_of}
use Rattle.quartz_expr.specs.React.{Reaction, Reactions, React, ReactEach, of_nothing, of_pause, of_write, of_yes, of_no, of_none, of_turn, of_stop, of_par, of_loop, of_delayed_abort, of_delayed_suspend, of_spared_abort, of_spared_suspend, of_strong_abort, of_weak_abort, of_strong_suspend, of_weak_suspend, of_scope, of_nobody, of_beside}
use Rattle.quartz_expr.specs.Steps.{State, initial, next_stores, outputs_of, state_after}
use Rattle.trace_io.specs.Story.{End, StoryFrom, is_done, is_bad, is_limit, is_fault, is_step, elements}
use Rattle.trace_io.specs.Writing.{line_of}
use Rattle.quartz_expr.proofs.TruthLemmas.{and_left}

-- at most 2^32 away from 0
abbrev pub IsSmall : ℤ → Type 0
IsSmall (pos n) = n ≤ 4294967296
IsSmall (negsuc n) = n < 4294967296

abbrev pub AreSmall : List ℤ → Type 0
AreSmall [] = Unit {0}
AreSmall (z ∷ zs) = IsSmall z × AreSmall zs

-- ---- values in ranges

low_end : (b : Base) → is_sound_base b ≡ true → neg_ℤ (pos 4294967296) ≤ℤ (base_interval b).low
low_end base.Bool h = grind (arith, ints)
low_end (base.Nat n) h = grind (arith, ints)
low_end (base.Int n) h = grind (arith, ints, nat_tests)
low_end (base.Bv n) h = grind (arith, ints)

high_end : (b : Base) → is_sound_base b ≡ true → (base_interval b).high ≤ℤ pos 4294967296
high_end base.Bool h = grind (arith, ints)
high_end (base.Nat n) h = grind (arith, ints, nat_tests)
high_end (base.Int n) h = grind (arith, ints, nat_tests)
high_end (base.Bv n) h = ends n (few n h)
  where
    few : (n : ℕ) → (nat_le 1 n && nat_le n 32) ≡ true → n ≤ 32
    few n h = grind (arith, nat_tests)

    ends : (n : ℕ) → n ≤ 32 → pos (2 ^ n - 1) ≤ℤ pos 4294967296
    ends n h = let k : 2 ^ n ≤ 2 ^ 32 = pow-le-pow_right {n = 2} (omega arith) h in grind (arith, ints)

small_between : (low high z : ℤ) → neg_ℤ (pos 4294967296) ≤ℤ low → high ≤ℤ pos 4294967296 → low ≤ℤ z → z ≤ℤ high → IsSmall z
small_between low high (pos n) l h a b = omega (arith, ints, l, h, a, b)
small_between low high (negsuc n) l h a b = omega (arith, ints, l, h, a, b)

in_small : (i : Interval) (z : ℤ) → neg_ℤ (pos 4294967296) ≤ℤ i.low → i.high ≤ℤ pos 4294967296 → is_in i z ≡ true → IsSmall z
in_small i z l h e =
    let below : i.low ≤ℤ z = grind (arith, ints, e) in
    let above : z ≤ℤ i.high = grind (arith, ints, e) in
    small_between i.low i.high z l h below above

pub base_small : (b : Base) (z : ℤ) → is_sound_base b ≡ true → is_in (base_interval b) z ≡ true → IsSmall z
base_small b z s e = in_small (base_interval b) z (low_end b s) (high_end b s) e

-- ---- any variable's range is small

record IsNarrow (i : Interval) : Type 0 where
  low : neg_ℤ (pos 4294967296) ≤ℤ i.low
  high : i.high ≤ℤ pos 4294967296

nought_narrow : IsNarrow nought
nought_narrow = record { low = omega (arith, ints); high = omega (arith, ints) }

type_narrow : (t : Ty) → IsNarrow (type_interval t)
type_narrow t = by_test (is_sound_type t) refl
  where
    by_test : (b : Bool) → is_sound_type t ≡ b → IsNarrow (sound_or_nought b (base_interval t.base))
    by_test true e =
        let s : is_sound_base t.base ≡ true = and_left (is_sound_base t.base) (is_sound_length t.len) e in
        record { low = low_end t.base s; high = high_end t.base s }
    by_test false e = nought_narrow

range_narrow : (vs : Vars) (x : ℕ) → IsNarrow (range_of vs x)
range_narrow [] x = nought_narrow
range_narrow (v ∷ vs) zero = type_narrow v.decl.ty
range_narrow (v ∷ vs) (suc x) = range_narrow vs x

lies_small : (vs : Vars) (x : ℕ) (z : ℤ) → Lies (range_of vs x) z → IsSmall z
lies_small vs x z h = let n = range_narrow vs x in small_between (range_of vs x).low (range_of vs x).high z n.low n.high h.above h.below

in_range_small : (vs : Vars) (x : ℕ) (z : ℤ) → IsSmall (in_range vs x z)
in_range_small vs x z = by_test (is_in (range_of vs x) z) refl
  where
    by_test : (b : Bool) → is_in (range_of vs x) z ≡ b → IsSmall (if b then z else pos 0)
    by_test true e = let n = range_narrow vs x in in_small (range_of vs x) z n.low n.high e
    by_test false e = omega arith

-- ---- acts

abbrev ActsAreSmall : List Act → Type 0
ActsAreSmall [] = Unit {0}
ActsAreSmall (a ∷ ws) = IsSmall a.value × ActsAreSmall ws

both_small : (ws us : List Act) → ActsAreSmall ws → ActsAreSmall us → ActsAreSmall (ws ++ us)
both_small [] us h k = k
both_small (a ∷ ws) us h k = (h.0, both_small ws us h.1 k)

act_small : (b : Bool) (x : ℕ) (i z : ℤ) (d : Bool) → IsSmall z → ActsAreSmall (act_if b x i z d)
act_small true x i z d h = (h, tt)
act_small false x i z d h = tt

others_small : (x : ℕ) (ws : List Act) → ActsAreSmall ws → ActsAreSmall (others x ws)
others_small x [] h = tt
others_small x (a ∷ ws) h = by_test (a.var == x) (others_small x ws h.1)
  where
    by_test : (b : Bool) → ActsAreSmall (others x ws) → ActsAreSmall (if b then others x ws else a ∷ others x ws)
    by_test true k = k
    by_test false k = (h.0, k)

mutual
  react_small : (vs : Vars) (env : Values) (t : Term) (r : Reaction) → React vs env t r → ActsAreSmall r.acts
  react_small vs env _ _ (of_nothing _) = tt
  react_small vs env _ _ (of_pause _) = tt
  react_small vs env _ _ (of_write _ x i e d p q) =
      act_small (is_index_below (count_of vs x) (target_index vs env i)) x (target_index vs env i) (in_range vs x (value vs env e)) d (in_range_small vs x (value vs env e))
  react_small vs env _ _ (of_yes _ c a b q h k) = react_small vs env a q k
  react_small vs env _ _ (of_no _ c a b q h k) = react_small vs env b q k
  react_small vs env _ _ (of_none _) = tt
  react_small vs env _ _ (of_turn _ t ts q p k f h) = both_small q.acts p.acts (react_small vs env t q k) (react_small vs env _ p h)
  react_small vs env _ _ (of_stop _ t ts q k f) = react_small vs env t q k
  react_small vs env _ _ (of_par _ ts p k) = each_small vs env ts p k
  react_small vs env _ _ (of_loop _ t c q k) = react_small vs env _ q k
  react_small vs env _ _ (of_delayed_abort _ w t c q k) = react_small vs env t q k
  react_small vs env _ _ (of_delayed_suspend _ w t c q k) = react_small vs env t q k
  react_small vs env _ _ (of_spared_abort _ w t c q h k) = react_small vs env t q k
  react_small vs env _ _ (of_spared_suspend _ w t c q h k) = react_small vs env t q k
  react_small vs env _ _ (of_strong_abort _ t c h) = tt
  react_small vs env _ _ (of_weak_abort _ t c q h k) = react_small vs env t q k
  react_small vs env _ _ (of_strong_suspend _ t c h) = tt
  react_small vs env _ _ (of_weak_suspend _ t c q h k) = react_small vs env t q k
  react_small vs env _ _ (of_scope _ x s t v q l k) = others_small x q.acts (react_small vs _ t q k)

  each_small : (vs : Vars) (env : Values) (ts : Terms) (p : Reactions) → ReactEach vs env ts p → ActsAreSmall p.acts
  each_small vs env _ _ (of_nobody _) = tt
  each_small vs env _ _ (of_beside _ t ts q p k h) = both_small q.acts p.acts (react_small vs env t q k) (each_small vs env ts p h)

-- ---- stores

abbrev IsSmallOrNone : Option ℤ → Type 0
IsSmallOrNone None = Unit {0}
IsSmallOrNone (Some z) = IsSmall z

abbrev IsSmallStore : Store → Type 0
IsSmallStore [] = Unit {0}
IsSmallStore (k ∷ ks) = IsSmall k.value × IsSmallOrNone k.pending × IsSmallStore ks

abbrev AreSmallStores : List Store → Type 0
AreSmallStores [] = Unit {0}
AreSmallStores (s ∷ ss) = IsSmallStore s × AreSmallStores ss

written_small : (x n : ℕ) (d : Bool) (ws : List Act) → ActsAreSmall ws → AreSmall (writes_of x n d ws)
written_small x n d [] h = tt
written_small x n d (a ∷ ws) h = by_test (is_write_of x n d a) (written_small x n d ws h.1)
  where
    by_test : (b : Bool) → AreSmall (writes_of x n d ws) → AreSmall (if b then a.value ∷ writes_of x n d ws else writes_of x n d ws)
    by_test true k = (h.0, k)
    by_test false k = k

first_small : (zs : List ℤ) → AreSmall zs → IsSmallOrNone (first_of_all zs)
first_small [] h = tt
first_small (z ∷ zs) h = h.0

some_small : (o : Option ℤ) (z : ℤ) → IsSmallOrNone o → IsSmall z → IsSmall (unwrap_or o z)
some_small None z h k = k
some_small (Some y) z h k = h

absence_small : (s : Storage) (z : ℤ) → IsSmall z → IsSmall (absence s z)
absence_small Mem z h = h
absence_small Event z h = omega arith

resolved_small : (s : Storage) (x : ℕ) (ws : List Act) (n : ℕ) (ks : Store) → ActsAreSmall ws → IsSmallStore ks → IsSmallStore (resolved_store s x ws n ks)
resolved_small s x ws n [] h k = tt
resolved_small s x ws n (e ∷ ks) h k =
    (some_small e.pending _ k.1 (some_small (first_of_all (writes_of x n false ws)) _ (first_small _ (written_small x n false ws h)) (absence_small s e.value k.0)), first_small _ (written_small x n true ws h), resolved_small s x ws (n + 1) ks h k.2)

stores_small : (vs : Vars) (xs : List ℕ) (ws : List Act) (ss : List Store) → ActsAreSmall ws → AreSmallStores ss → AreSmallStores (next_stores vs xs ws ss)
stores_small vs [] ws ss h k = tt
stores_small vs (x ∷ xs) ws [] h k = tt
stores_small vs (x ∷ xs) ws (s ∷ ss) h k = (resolved_small (storage_of vs x) x ws 0 s h k.0, stores_small vs xs ws ss h k.1)

start_small : (vs : Vars) (x : ℕ) → ((y : ℕ) → y < length vs → Lies (range_of vs y) (start_of vs y)) → IsSmall (start_of vs x)
start_small vs x h = which (split x (length vs))
  where
    split : (n m : ℕ) → (n < m) ⊎ (m ≤ n)
    split n m = grind arith

    behind : (us : Vars) (n : ℕ) → length us ≤ n → start_of us n ≡ pos 0
    behind [] n l = refl
    behind (u ∷ us) zero l = absurd (omega (arith, l))
    behind (u ∷ us) (suc n) l = behind us n (omega (arith, l))

    which : (x < length vs) ⊎ (length vs ≤ x) → IsSmall (start_of vs x)
    which (inl l) = lies_small vs x (start_of vs x) (h x l)
    which (inr l) = subst IsSmall (sym (behind vs x l)) (omega arith)

fresh_small : (n : ℕ) (z : ℤ) → IsSmall z → IsSmallStore (replicate n (record { value = z; pending = None }))
fresh_small zero z h = tt
fresh_small (suc n) z h = (h, tt, fresh_small n z h)

initial_small : (vs : Vars) (xs : List ℕ) → ((x : ℕ) → IsSmall (start_of vs x)) → AreSmallStores (map (fresh_store vs) xs)
initial_small vs [] h = tt
initial_small vs (x ∷ xs) h = (fresh_small (count_of vs x) (start_of vs x) (h x), initial_small vs xs h)

-- ---- outputs

both_are_small : (ys zs : List ℤ) → AreSmall ys → AreSmall zs → AreSmall (ys ++ zs)
both_are_small [] zs h k = k
both_are_small (y ∷ ys) zs h k = (h.0, both_are_small ys zs h.1 k)

values_small : (ks : Store) → IsSmallStore ks → AreSmall (values_of ks)
values_small [] h = tt
values_small (k ∷ ks) h = (h.0, values_small ks h.2)

shown_small : (ss : List Store) → AreSmallStores ss → AreSmall (elements (map values_of ss))
shown_small [] h = tt
shown_small (s ∷ ss) h = both_are_small (values_of s) (elements (map values_of ss)) (values_small s h.0) (shown_small ss h.1)

-- the lines are output lines of small values
abbrev pub AreOfSmall : Vars → List (List ℕ) → Type 0
AreOfSmall vs [] = Unit {0}
AreOfSmall vs (l ∷ ls) = ((zs : List ℤ) × (l ≡ line_of vs zs) × AreSmall zs) × AreOfSmall vs ls

story_small : (vs : Vars) (greatest k : ℕ) (s : State) (steps : List (Option (List ℤ))) (written : List (List ℕ)) (e : End) → AreSmallStores s.stores → StoryFrom vs greatest k s steps written e → AreOfSmall vs written
story_small vs g k s _ _ _ h (is_done _ _) = tt
story_small vs g k s _ _ _ h (is_bad _ _ _) = tt
story_small vs g k s _ _ _ h (is_limit _ _ _ _ _) = tt
story_small vs g k s _ _ _ h (is_fault _ _ _ _ _ _ _ _ _ _ _) = tt
story_small vs g k s _ _ _ h (is_step _ _ zs rest outs t written e _ m more) =
    let next : AreSmallStores (state_after vs s m.reaction).stores = stores_small vs (outputs_of vs) m.reaction.acts s.stores (react_small vs _ s.term m.reaction m.reacts.walked) h in
    let small : AreSmall (elements outs) = subst (λ (os : List (List ℤ)). AreSmall (elements os)) (sym m.resolved) (shown_small _ next) in
    ((elements outs, refl, small), story_small vs g (k + 1) t rest written e (subst (λ (u : State). AreSmallStores u.stores) (sym m.goes) next) more)

-- each line of a run is an output line of small values
pub run_small : (vs : Vars) (body : Kernel) (greatest : ℕ) (steps : List (Option (List ℤ))) (written : List (List ℕ)) (e : End) → ((x : ℕ) → x < length vs → Lies (range_of vs x) (start_of vs x))
    → StoryFrom vs greatest 0 (initial vs body) steps written e → AreOfSmall vs written
run_small vs body g steps written e h story = story_small vs g 0 (initial vs body) steps written e (initial_small vs (outputs_of vs) (λ x. start_small vs x h)) story
