-- What lies in a variable's range: 0, what is read of given values, what acts write, and what stores keep and resolve to.
use Rattle.std.proofs.Common.{◌≡◌, ℕ, zero, suc, ◌+◌, ◌==◌, ℤ, pos, Bool, true, false, List, [], ◌∷◌, ◌++◌, map, length, Option, Some, None, if◌then◌else◌, unwrap_or, option_map, replicate, refl, ap, ap₂, ◌∙◌, subst, arith}
use Rattle.std.proofs.lemmas.List.{length-map}
use Rattle.std.proofs.lemmas.Bool.Decides.{nat_tests}
use Rattle.quartz_tree.specs.declared.declare.Storage.{Storage}
use Rattle.quartz_tree.specs.declared.declare.Storage.TheVariants.{Mem, Event}
use Rattle.quartz_expr.specs.declared.act.Act.{Act}
use Rattle.quartz_expr.specs.declared.act.Kept.{Kept}
use Rattle.quartz_expr.specs.Vars.{Vars, count_of, start_of, storage_of}
use Rattle.quartz_expr.specs.Intervals.{Interval, is_in, range_of}
use Rattle.quartz_expr.specs.Terms.{Store}
use Rattle.quartz_expr.specs.Writes.{in_range}
use Rattle.quartz_expr.specs.Resolve.{absence, absent, first_of_all, given_store, is_write_of, kept, others, resolved, resolved_store, values_of, writes_of}
use Rattle.quartz_expr.specs.Tick.{advanced}
use Rattle.quartz_expr.specs.React.{store_of}
use Rattle.sos_model.specs.Sound.{fits_store, lie_kept, lies_kept}
use Rattle.sos_model.specs.Walk.{read_as}
use Rattle.quartz_expr.proofs.TruthLemmas.{and_parts, and_intro}
use Rattle.quartz_expr.proofs.RangeLemmas.{zero_in_type}

-- ---- 0

pub zero_in : (vs : Vars) (x : ℕ) → is_in (range_of vs x) (pos 0) ≡ true
zero_in [] x = refl
zero_in (v ∷ vs) zero = zero_in_type v.decl.ty
zero_in (v ∷ vs) (suc x) = zero_in vs x

-- ---- values

abbrev pub AllIn : Interval → List ℤ → Type 0
AllIn i [] = Unit {0}
AllIn i (z ∷ zs) = (is_in i z ≡ true) × AllIn i zs

pub read_lies : (vs : Vars) (x : ℕ) (z : ℤ) → is_in (range_of vs x) (in_range vs x z) ≡ true
read_lies vs x z = at (is_in (range_of vs x) z) refl
  where
    at : (b : Bool) → is_in (range_of vs x) z ≡ b → is_in (range_of vs x) (if b then z else pos 0) ≡ true
    at true e = e
    at false e = zero_in vs x

pub read_lie : (vs : Vars) (x : ℕ) (zs : List ℤ) → AllIn (range_of vs x) (read_as vs x zs)
read_lie vs x [] = tt
read_lie vs x (z ∷ zs) = (read_lies vs x z, read_lie vs x zs)

-- what lies in the range is read as it is
pub read_same : (vs : Vars) (x : ℕ) (zs : List ℤ) → AllIn (range_of vs x) zs → read_as vs x zs ≡ zs
read_same vs x [] h = refl
read_same vs x (z ∷ zs) h = ap₂ (λ (y : ℤ) (l : List ℤ). y ∷ l) (ap (λ (b : Bool). if b then z else pos 0) h.0) (read_same vs x zs h.1)

-- ---- acts

abbrev pub ActsLie : Vars → List Act → Type 0
ActsLie vs [] = Unit {0}
ActsLie vs (a ∷ ws) = (is_in (range_of vs a.var) a.value ≡ true) × ActsLie vs ws

pub acts_append : (vs : Vars) (us ws : List Act) → ActsLie vs us → ActsLie vs ws → ActsLie vs (us ++ ws)
acts_append vs [] ws h k = k
acts_append vs (a ∷ us) ws h k = (h.0, acts_append vs us ws h.1 k)

act_or_not : (vs : Vars) (a : Act) (ws : List Act) (b : Bool) → is_in (range_of vs a.var) a.value ≡ true → ActsLie vs ws → ActsLie vs (if b then ws else a ∷ ws)
act_or_not vs a ws true h k = k
act_or_not vs a ws false h k = (h, k)

pub acts_others : (vs : Vars) (x : ℕ) (ws : List Act) → ActsLie vs ws → ActsLie vs (others x ws)
acts_others vs x [] h = tt
acts_others vs x (a ∷ ws) h = act_or_not vs a (others x ws) (a.var == x) h.0 (acts_others vs x ws h.1)

same_var : (x n : ℕ) (d : Bool) (a : Act) → is_write_of x n d a ≡ true → a.var ≡ x
same_var x n d a e = let same : (a.var == x) ≡ true = (and_parts (a.var == x) _ e).0 in grind (arith, nat_tests, same)

write_or_not : (vs : Vars) (x n : ℕ) (d : Bool) (a : Act) (zs : List ℤ) (b : Bool) → is_write_of x n d a ≡ b → is_in (range_of vs a.var) a.value ≡ true → AllIn (range_of vs x) zs
    → AllIn (range_of vs x) (if b then a.value ∷ zs else zs)
write_or_not vs x n d a zs true e h k = (subst (λ (y : ℕ). is_in (range_of vs y) a.value ≡ true) (same_var x n d a e) h, k)
write_or_not vs x n d a zs false e h k = k

pub writes_lie : (vs : Vars) (x n : ℕ) (d : Bool) (ws : List Act) → ActsLie vs ws → AllIn (range_of vs x) (writes_of x n d ws)
writes_lie vs x n d [] h = tt
writes_lie vs x n d (a ∷ ws) h = write_or_not vs x n d a (writes_of x n d ws) (is_write_of x n d a) refl h.0 (writes_lie vs x n d ws h.1)

-- ---- stores

first_lies : (i : Interval) (z : ℤ) (zs : List ℤ) → is_in i z ≡ true → AllIn i zs → is_in i (unwrap_or (first_of_all zs) z) ≡ true
first_lies i z [] h k = h
first_lies i z (y ∷ zs) h k = k.0

pub kept_lies : (i : Interval) (z : ℤ) (zs : List ℤ) → is_in i z ≡ true → AllIn i zs → lies_kept i (kept z zs) ≡ true
kept_lies i z zs h k = and_intro _ _ h (first_lies i z zs h k)

absence_lies : (vs : Vars) (x : ℕ) (s : Storage) (z : ℤ) → is_in (range_of vs x) z ≡ true → is_in (range_of vs x) (absence s z) ≡ true
absence_lies vs x Mem z h = h
absence_lies vs x Event z h = zero_in vs x

pub resolved_lies : (vs : Vars) (x : ℕ) (s : Storage) (k : Kept) (zs : List ℤ) → lies_kept (range_of vs x) k ≡ true → AllIn (range_of vs x) zs → is_in (range_of vs x) (resolved s k zs) ≡ true
resolved_lies vs x s k zs h l = at k.pending (and_parts _ _ h).1
  where
    at : (p : Option ℤ) → is_in (range_of vs x) (unwrap_or p k.value) ≡ true → is_in (range_of vs x) (unwrap_or p (unwrap_or (first_of_all zs) (absence s k.value))) ≡ true
    at None e = first_lies (range_of vs x) (absence s k.value) zs (absence_lies vs x s k.value (and_parts _ _ h).0) l
    at (Some z) e = e

pub wanted_lie : (vs : Vars) (x n : ℕ) (st : Storage) (ws : List Act) (s : Store) → lie_kept (range_of vs x) s ≡ true → ActsLie vs ws → AllIn (range_of vs x) (values_of (resolved_store st x ws n s))
wanted_lie vs x n st ws [] h k = tt
wanted_lie vs x n st ws (e ∷ s) h k =
    let b = and_parts (lies_kept (range_of vs x) e) (lie_kept (range_of vs x) s) h in
    (resolved_lies vs x st e (writes_of x n false ws) b.0 (writes_lie vs x n false ws k), wanted_lie vs x (n + 1) st ws s b.1 k)

pub given_lie : (vs : Vars) (x n : ℕ) (ws : List Act) (zs : List ℤ) → AllIn (range_of vs x) zs → ActsLie vs ws → lie_kept (range_of vs x) (given_store x ws n zs) ≡ true
given_lie vs x n ws [] h k = refl
given_lie vs x n ws (z ∷ zs) h k =
    and_intro _ _ (kept_lies (range_of vs x) z (writes_of x n true ws) h.0 (writes_lie vs x n true ws k)) (given_lie vs x (n + 1) ws zs h.1 k)

pub given_length : (x n : ℕ) (ws : List Act) (zs : List ℤ) → length (given_store x ws n zs) ≡ length zs
given_length x n ws [] = refl
given_length x n ws (z ∷ zs) = ap suc (given_length x (n + 1) ws zs)

pub resolved_length : (s : Storage) (x n : ℕ) (ws : List Act) (ks : Store) → length (values_of (resolved_store s x ws n ks)) ≡ length ks
resolved_length s x n ws [] = refl
resolved_length s x n ws (k ∷ ks) = ap suc (resolved_length s x (n + 1) ws ks)

-- a fresh store
fresh_lie : (i : Interval) (n : ℕ) (z : ℤ) → is_in i z ≡ true → lie_kept i (replicate n (record { value = z; pending = None })) ≡ true
fresh_lie i zero z h = refl
fresh_lie i (suc n) z h = and_intro _ _ (and_intro _ _ h h) (fresh_lie i n z h)

fresh_length : {A : Type 0} (n : ℕ) (a : A) → length (replicate n a) ≡ n
fresh_length zero a = refl
fresh_length (suc n) a = ap suc (fresh_length n a)

pub store_lies : (vs : Vars) (x : ℕ) (s : Option Store) → fits_store vs x s ≡ true → lie_kept (range_of vs x) (store_of vs x s) ≡ true
store_lies vs x None h = fresh_lie (range_of vs x) (count_of vs x) (start_of vs x) h
store_lies vs x (Some s) h = (and_parts (length s == count_of vs x) _ h).1

pub store_length : (vs : Vars) (x : ℕ) (s : Option Store) → fits_store vs x s ≡ true → length (store_of vs x s) ≡ count_of vs x
store_length vs x None h = fresh_length (count_of vs x) (record { value = start_of vs x; pending = None })
store_length vs x (Some s) h = let same : (length s == count_of vs x) ≡ true = (and_parts (length s == count_of vs x) _ h).0 in grind (arith, nat_tests, same)

-- a store that a scope leaves fits
pub new_fits : (vs : Vars) (x : ℕ) (ws : List Act) (zs : List ℤ) → length zs ≡ count_of vs x → AllIn (range_of vs x) zs → ActsLie vs ws → fits_store vs x (Some (given_store x ws 0 zs)) ≡ true
new_fits vs x ws zs l h k =
    let long : length (given_store x ws 0 zs) ≡ count_of vs x = given_length x 0 ws zs ∙ l in
    and_intro _ _ (grind (arith, nat_tests, long)) (given_lie vs x 0 ws zs h k)

-- an advanced store
absent_lie : (vs : Vars) (x : ℕ) (st : Storage) (s : Store) → lie_kept (range_of vs x) s ≡ true → lie_kept (range_of vs x) (map (absent st) s) ≡ true
absent_lie vs x st [] h = refl
absent_lie vs x st (k ∷ s) h =
    let b = and_parts (lies_kept (range_of vs x) k) (lie_kept (range_of vs x) s) h in
    and_intro _ _ (kept_lies (range_of vs x) (resolved st k []) [] (resolved_lies vs x st k [] b.0 tt) tt) (absent_lie vs x st s b.1)

pub advanced_fits : (vs : Vars) (x : ℕ) (s : Option Store) → fits_store vs x s ≡ true → fits_store vs x (option_map (advanced vs x) s) ≡ true
advanced_fits vs x None h = h
advanced_fits vs x (Some s) h =
    let b = and_parts (length s == count_of vs x) (lie_kept (range_of vs x) s) h in
    let same : (length s == count_of vs x) ≡ true = b.0 in
    let long : length (map (absent (storage_of vs x)) s) ≡ length s = simp length-map in
    and_intro _ _ (grind (arith, nat_tests, same, long)) (absent_lie vs x (storage_of vs x) s b.1)
