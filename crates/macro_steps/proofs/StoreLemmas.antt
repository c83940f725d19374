-- What terms and copies keep lies in ranges where registers do.
use Rattle.std.proofs.Common.{◌≡◌, ◌⊎◌, inl, inr, ℕ, zero, suc, ◌+◌, ◌*◌, ◌≤◌, ◌<◌, ◌&&◌, ◌||◌, nat_lt, ℤ, pos, Bool, true, false, List, [], ◌∷◌, length, map, Some, None, refl, sym, ap, ap₂, ◌∙◌, subst, arith}
use Rattle.std.specs.Prelude.{replicate, slice_get, if◌then◌else◌}
use Rattle.std.proofs.lemmas.Bool.Decides.{nat_tests}
use Rattle.std.proofs.Math.Nat.{mul-lt-mul_of_pos_left}
use Rattle.quartz_tree.specs.declared.place.Place.{Place}
use Rattle.quartz_tree.specs.declared.declare.Storage.{Storage}
use Rattle.quartz_tree.specs.declared.declare.Storage.TheVariants.{Mem, Event}
use Rattle.quartz_expr.specs.declared.act.Act.{Act}
use Rattle.quartz_expr.specs.Vars.{Vars, count_of, start_of, storage_of}
use Rattle.quartz_expr.specs.Intervals.{Interval, Lies, range_of}
use Rattle.quartz_expr.specs.Typed.{AllLie}
use Rattle.quartz_expr.specs.Resolve.{absence, fresh_store, values_of}
use Rattle.quartz_expr.specs.Steps.{next_stores}
use Rattle.quartz_expr.specs.Terms.{Store, Term, nothing, pause, write, choose, seq, par, loop, abort, suspend, scope, Terms, none, part}
use Rattle.quartz_expr.specs.React.{sequence}
use Rattle.aif_cells.specs.Worth.{Assignment, holds, worth}
use Rattle.absence_reaction.specs.declared.copy.Shape.{Shape}
use Rattle.absence_reaction.specs.declared.copy.VarCopy.{VarCopy}
use Rattle.absence_reaction.specs.Closing.{flag_of, one_if, pending_of, register_of, registers_each, value_tree}
use Rattle.quartz_tree.specs.Storage.{is_memorized}
use Rattle.statement_cells.specs.Labels.{is_delayed, labels, registers, scope_registers, shape_in}
use Rattle.statement_cells.specs.Builder.{Scoped, absent_from}
use Rattle.statement_cells.specs.Sound.{IsSound, AreSound}
use Rattle.statement_cells.specs.Stands.{Marks, Registers, at, at_each, at_in_turn, kept_from, plain_kept, plain_store, some, some_if, store_in}
use Rattle.statement_cells.specs.Walk.{worths_of}
use Rattle.statement_cells.specs.Whole.{first_label, first_scope, variable_registers}
use Rattle.statement_cells.specs.Meaning.{IsSoundModule, marks_of, plain_stores, rest_of_body, stores_of}
use Rattle.statement_cells.proofs.LiesLemmas.{ActsLie, PendingLies, StoreLies, TermLies, TermsLie, store_resolved, zero_lies}
use Rattle.statement_cells.proofs.MarkLemmas.{some_split}
use Rattle.statement_cells.proofs.PlacedLemmas.{AbsentAt}
use Rattle.macro_steps.specs.Ranges.{AllScopesLie, LieIn, OutputsLie, ScopesLie}
use Rattle.macro_steps.proofs.AgreeLemmas.{with_cells}
use Rattle.quartz_expr.proofs.TruthLemmas.{heads}

-- ---- stores in registers

memorized_some : (s : Storage) (d : Bool) → is_memorized s ≡ true → 0 < one_if (is_memorized s) + (one_if d + one_if d)
memorized_some Mem d e = omega arith
memorized_some Event d e = absurd (cc)

delayed_some : (s : Storage) (d : Bool) → d ≡ true → 0 < one_if (is_memorized s) + (one_if d + one_if d)
delayed_some s true e = omega arith
delayed_some s false e = absurd (cc)

some_registers : (n m j : ℕ) → j < n → 0 < m → 0 < n * m
some_registers n m j l h = let big : 0 < n = omega (arith, l) in let more : n * 0 < n * m = mul-lt-mul_of_pos_left h big in omega (arith, more)

module _ (vs : Vars) (x v : ℕ) (k : Registers) (h : 0 < variable_registers vs x → LieIn vs x v k) where
  kept_lies : (st : Storage) (d : Bool) (r f p : ℤ) → (is_memorized st ≡ true → Lies (range_of vs x) r) → (d ≡ true → Lies (range_of vs x) p)
      → Lies (range_of vs x) (absence st (if is_memorized st then r else pos 0)) × PendingLies (range_of vs x) (some_if (d && holds f) p)
  kept_lies st d r f p g e = (value st g, pending d (holds f) e)
    where
      value : (st : Storage) → (is_memorized st ≡ true → Lies (range_of vs x) r) → Lies (range_of vs x) (absence st (if is_memorized st then r else pos 0))
      value Mem g = g refl
      value Event g = zero_lies vs x

      pending : (d b : Bool) → (d ≡ true → Lies (range_of vs x) p) → PendingLies (range_of vs x) (some_if (d && b) p)
      pending true true e = e refl
      pending true false e = tt
      pending false b e = tt

  from_lies : (j n : ℕ) → j + n ≤ count_of vs x → StoreLies vs x (kept_from (shape_in vs x) k v j n)
  from_lies j zero le = tt
  from_lies j (suc n) le =
      let s : Shape = shape_in vs x in
      let less : j < count_of vs x = omega (arith, le) in (
        kept_lies (storage_of vs x) (is_delayed vs x) (k (register_of s v j)) (k (flag_of s v j)) (k (pending_of s v j))
            (λ e. (h (some_registers (count_of vs x) (registers_each s) j less (memorized_some (storage_of vs x) (is_delayed vs x) e)) j less).0 e)
            (λ e. (h (some_registers (count_of vs x) (registers_each s) j less (delayed_some (storage_of vs x) (is_delayed vs x) e)) j less).1 e),
        from_lies (j + 1) n (omega (arith, le)),
      )

  -- a store in registers that lie in the range lies there
  pub store_lies : StoreLies vs x (store_in vs x k v)
  store_lies = from_lies 0 (count_of vs x) (omega arith)

-- a fresh store lies in the range of its variable
pub fresh_lies : (vs : Vars) (x : ℕ) → Lies (range_of vs x) (start_of vs x) → StoreLies vs x (fresh_store vs x)
fresh_lies vs x h = all (count_of vs x)
  where
    value : (st : Storage) → Lies (range_of vs x) (absence st (start_of vs x))
    value Mem = h
    value Event = zero_lies vs x

    all : (n : ℕ) → StoreLies vs x (replicate n (record { value = start_of vs x; pending = None }))
    all zero = tt
    all (suc n) = ((value (storage_of vs x), tt), all n)

-- the kept value of an event plays no part
pub unplain_lies : (vs : Vars) (x : ℕ) (s : Store) → StoreLies vs x (plain_store vs x s) → StoreLies vs x s
unplain_lies vs x [] h = tt
unplain_lies vs x (k ∷ s) h = (one (storage_of vs x) h.0, unplain_lies vs x s h.1)
  where
    one : (st : Storage) → Lies (range_of vs x) (absence st (plain_kept st k).value) × PendingLies (range_of vs x) (plain_kept st k).pending → Lies (range_of vs x) (absence st k.value) × PendingLies (range_of vs x) k.pending
    one Mem g = g
    one Event g = (g.0, g.1)

-- ---- terms

module _ (vs : Vars) where
  mutual
    -- a statement has no stores but fresh ones
    pub sound_lies : (t : Term) → IsSound vs t → TermLies vs t
    sound_lies nothing h = tt
    sound_lies pause h = tt
    sound_lies (write x i e d p q) h = tt
    sound_lies (choose c a b) h = (sound_lies a h.1, sound_lies b h.2)
    sound_lies (seq ts) h = sound_all ts h
    sound_lies (par ts) h = sound_all ts h
    sound_lies (loop t c) h = sound_lies t h.2
    sound_lies (abort w i t c) h = sound_lies t h.1
    sound_lies (suspend w i t c) h = sound_lies t h.1
    sound_lies (scope x None t) h = (fresh_lies vs x h.2, sound_lies t h.3)
    sound_lies (scope x (Some s) t) h = absurd h.1

    pub sound_all : (ts : Terms) → AreSound vs ts → TermsLie vs ts
    sound_all none h = tt
    sound_all (part t ts) h = (sound_lies t h.0, sound_all ts h.1)

  sequence_lies : (t : Term) (ts : Terms) → TermLies vs t → TermsLie vs ts → TermLies vs (sequence t ts)
  sequence_lies t none h g = h
  sequence_lies t (part u ts) h g = (h, g)

  some_labels : (m : Marks) (l n : ℕ) → some m l n ≡ true → 0 < n
  unfolding some
  some_labels m l zero e = absurd (cc)
  some_labels m l (suc n) e = omega arith

  some_wait : (m : Marks) (l n : ℕ) → some m l (suc n) ≡ (m l || some m (l + 1) n)
  unfolding some
  some_wait m l n = refl

  there_are : (n x : ℕ) → 0 < n → 0 < variable_registers vs x → 0 < scope_registers vs n x
  there_are zero x l h = absurd (omega (arith, l))
  there_are (suc n) x l h = h

  module _ (m : Marks) (k : Registers) where
    mutual
      -- what is left of a statement has the stores of its scopes
      pub at_lies : (s : Term) (l v : ℕ) → IsSound vs s → ScopesLie vs v s k → some m l (labels s) ≡ true → TermLies vs (at vs m k l v s)
      at_lies nothing l v h g e = tt
      at_lies pause l v h g e = tt
      at_lies (write x i f d p q) l v h g e = tt
      at_lies (choose c a b) l v h g e = by (some m l (labels a)) refl (at_lies a l v h.1 g.0) (at_lies b (l + labels a) (v + registers vs a) h.2 g.1)
        where
          by : (c : Bool) → some m l (labels a) ≡ c → (some m l (labels a) ≡ true → TermLies vs (at vs m k l v a))
              → (some m (l + labels a) (labels b) ≡ true → TermLies vs (at vs m k (l + labels a) (v + registers vs a) b))
              → TermLies vs (if c then at vs m k l v a else at vs m k (l + labels a) (v + registers vs a) b)
          by true q f f' = f q
          by false q f f' = f' (sym (ap (λ c. c || some m (l + labels a) (labels b)) q) ∙ (sym (some_split m l (labels a) (labels b)) ∙ e))
      at_lies (seq ts) l v h g e = turn_lies ts l v h g
      at_lies (par ts) l v h g e = each_lies ts l v h g
      at_lies (loop t c) l v h g e = (at_lies t l v h.2 g e, ((sound_lies t h.2, tt), tt))
      at_lies (abort w i t c) l v h g e = at_lies t l v h.1 g e
      at_lies (suspend w false t c) l v h g e = at_lies t l v h.1 g e
      at_lies (suspend w true t c) l v h g e = by (m l) (λ q. at_lies t (l + 1) v h.1 g q) (sym (some_wait m l (labels t)) ∙ e)
        where
          by : (b : Bool) → (some m (l + 1) (labels t) ≡ true → TermLies vs (at vs m k (l + 1) v t)) → (b || some m (l + 1) (labels t)) ≡ true → TermLies vs (if b then t else at vs m k (l + 1) v t)
          by true f q = sound_lies t h.1
          by false f q = f q
      at_lies (scope x s t) l v h g e =
          (store_lies vs x v k (λ p. g.0 (there_are (labels t) x (some_labels m l (labels t) e) p)), at_lies t l (v + scope_registers vs (labels t) x) h.3 g.1 e)

      turn_lies : (ts : Terms) (l v : ℕ) → AreSound vs ts → AllScopesLie vs v ts k → TermLies vs (at_in_turn vs m k l v ts)
      turn_lies none l v h g = tt
      turn_lies (part t ts) l v h g = by (some m l (labels t)) refl (at_lies t l v h.0 g.0) (turn_lies ts (l + labels t) (v + registers vs t) h.1 g.1)
        where
          by : (c : Bool) → some m l (labels t) ≡ c → (some m l (labels t) ≡ true → TermLies vs (at vs m k l v t)) → TermLies vs (at_in_turn vs m k (l + labels t) (v + registers vs t) ts)
              → TermLies vs (if c then sequence (at vs m k l v t) ts else at_in_turn vs m k (l + labels t) (v + registers vs t) ts)
          by true q f f' = sequence_lies (at vs m k l v t) ts (f q) (sound_all ts h.1)
          by false q f f' = f'

      each_lies : (ts : Terms) (l v : ℕ) → AreSound vs ts → AllScopesLie vs v ts k → TermsLie vs (at_each vs m k l v ts)
      each_lies none l v h g = tt
      each_lies (part t ts) l v h g = (by (some m l (labels t)) refl (at_lies t l v h.0 g.0), each_lies ts (l + labels t) (v + registers vs t) h.1 g.1)
        where
          by : (c : Bool) → some m l (labels t) ≡ c → (some m l (labels t) ≡ true → TermLies vs (at vs m k l v t)) → TermLies vs (if c then at vs m k l v t else nothing)
          by true q f = f q
          by false q f = tt

-- the rest of the body
pub rest_lies : (vs : Vars) (t : Term) (k : Registers) → IsSoundModule vs t → ScopesLie vs (first_scope vs t) t k → TermLies vs (rest_of_body vs t k)
rest_lies vs t k sound h = by (some (marks_of k) first_label (labels t)) refl
  where
    by : (b : Bool) → some (marks_of k) first_label (labels t) ≡ b → TermLies vs (if b then at vs (marks_of k) k first_label (first_scope vs t) t else nothing)
    by true e = at_lies vs (marks_of k) k t first_label (first_scope vs t) sound.sound h e
    by false e = tt

-- ---- the stores of outputs

-- each output's values lie in its range
abbrev pub OutputsIn : Vars → List ℕ → List (List ℤ) → Type 0
OutputsIn vs [] [] = Unit {0}
OutputsIn vs (x ∷ xs) (z ∷ zs) = AllLie (range_of vs x) z × OutputsIn vs xs zs
OutputsIn vs _ _ = ⊥

-- what outputs resolve to lies in their ranges
pub outputs_resolved : (vs : Vars) (xs : List ℕ) (v : ℕ) (k : Registers) (ws : List Act) (ss : List Store) → plain_stores vs xs ss ≡ stores_of vs xs v k → OutputsLie vs xs v k → ActsLie vs ws
    → OutputsIn vs xs (map values_of (next_stores vs xs ws ss))
outputs_resolved vs [] v k ws ss e h g = tt
outputs_resolved vs (x ∷ xs) v k ws [] e h g = absurd (cc)
outputs_resolved vs (x ∷ xs) v k ws (s ∷ ss) e h g =
    let own : StoreLies vs x (plain_store vs x s) = subst (StoreLies vs x) (sym (heads _ _ _ _ e).0) (store_lies vs x v k (λ p. h.0)) in
    (store_resolved vs x ws 0 s (unplain_lies vs x s own) g, outputs_resolved vs xs (v + variable_registers vs x) k ws ss (heads _ _ _ _ e).1 h.1 g)

-- ---- what copies have where nothing is written

absent_one : (i : Interval) (σ : Assignment) (stored delayed : Bool) (storage : Storage) (z : ℤ) (p : Place) (c : VarCopy) (j : ℕ)
    → (stored ≡ false → Lies i z) → Lies i (pos 0)
    → (stored ≡ true → is_memorized storage ≡ true → Lies i (σ.registers (register_of (record { storage = storage; delayed = delayed; start = z; place = p }) c.first j)))
    → (stored ≡ true → delayed ≡ true → Lies i (σ.registers (pending_of (record { storage = storage; delayed = delayed; start = z; place = p }) c.first j)))
    → Lies i (worth σ (value_tree (record { storage = storage; delayed = delayed; start = z; place = p }) (record c { stored = stored; now = [] }) j))
absent_one i σ false delayed Mem z p c j start nought r q = start refl
absent_one i σ false delayed Event z p c j start nought r q = nought
absent_one i σ true false Mem z p c j start nought r q = r refl refl
absent_one i σ true false Event z p c j start nought r q = nought
absent_one i σ true true Mem z p c j start nought r q = either (holds (σ.registers (flag_of (record { storage = Mem; delayed = true; start = z; place = p }) c.first j))) _ _ (q refl refl) (r refl refl)
  where
    either : (b : Bool) (x y : ℤ) → Lies i x → Lies i y → Lies i (if b then x else y)
    either true x y g h = g
    either false x y g h = h
absent_one i σ true true Event z p c j start nought r q = either (holds (σ.registers (flag_of (record { storage = Event; delayed = true; start = z; place = p }) c.first j))) _ _ (q refl refl) nought
  where
    either : (b : Bool) (x y : ℤ) → Lies i x → Lies i y → Lies i (if b then x else y)
    either true x y g h = g
    either false x y g h = h

-- it names no cells
absent_same : (σ : Assignment) (g : ℕ → ℤ) (stored delayed : Bool) (storage : Storage) (z : ℤ) (p : Place) (c : VarCopy) (j : ℕ)
    → worth (with_cells σ g) (value_tree (record { storage = storage; delayed = delayed; start = z; place = p }) (record c { stored = stored; now = [] }) j)
    ≡ worth σ (value_tree (record { storage = storage; delayed = delayed; start = z; place = p }) (record c { stored = stored; now = [] }) j)
absent_same σ g false delayed Mem z p c j = refl
absent_same σ g false delayed Event z p c j = refl
absent_same σ g true false Mem z p c j = refl
absent_same σ g true false Event z p c j = refl
absent_same σ g true true Mem z p c j = refl
absent_same σ g true true Event z p c j = refl

absents_same : (σ : Assignment) (g : ℕ → ℤ) (s : Shape) (c : VarCopy) (j : ℕ) (ks : List ℕ) → worths_of (with_cells σ g) (absent_from s c j ks) ≡ worths_of σ (absent_from s c j ks)
absents_same σ g s c j [] = refl
absents_same σ g s c j (k ∷ ks) = ap₂ (λ z l. z ∷ l) (absent_same σ g c.stored s.delayed s.storage s.start s.place c j) (absents_same σ g s c (j + 1) ks)

pub start_lies : (vs : Vars) → ((x : ℕ) → x < length vs → Lies (range_of vs x) (start_of vs x)) → (x : ℕ) → Lies (range_of vs x) (start_of vs x)
start_lies vs h x = by (nat_lt x (length vs)) refl
  where
    less : nat_lt x (length vs) ≡ true → x < length vs
    less p = grind (arith, nat_tests, p)

    more : nat_lt x (length vs) ≡ false → length vs ≤ x
    more p = grind (arith, nat_tests, p)

    past : {A : Type 0} (xs : List A) (x : ℕ) → length xs ≤ x → slice_get xs x ≡ None
    past [] x l = refl
    past (y ∷ xs) zero l = absurd (omega (arith, l))
    past (y ∷ xs) (suc x) l = past xs x (omega (arith, l))

    outside : slice_get vs x ≡ None → Lies (range_of vs x) (start_of vs x)
    outside e = subst (λ z. Lies (range_of vs x) z) (sym (rw e refl)) (zero_lies vs x)

    by : (b : Bool) → nat_lt x (length vs) ≡ b → Lies (range_of vs x) (start_of vs x)
    by true p = h x (less p)
    by false p = outside (past vs x (more p))

module _ (vs : Vars) (P : ℕ → ℕ → Type 0) (σ : Assignment) (starts : (x : ℕ) → x < length vs → Lies (range_of vs x) (start_of vs x)) (lies : (x v : ℕ) → P x v → LieIn vs x v σ.registers) where
  absents_from : (x : ℕ) (c : VarCopy) (j : ℕ) (ks : List ℕ) → (c.stored ≡ false) ⊎ ((c.stored ≡ true) × (0 < variable_registers vs x → P x c.first)) → j + length ks ≤ count_of vs x
      → AllLie (range_of vs x) (worths_of σ (absent_from (shape_in vs x) c j ks))
  absents_from x c j [] h le = tt
  absents_from x c j (k ∷ ks) h le =
      let s : Shape = shape_in vs x in
      let less : j < count_of vs x = omega (arith, le) in (
        absent_one (range_of vs x) σ c.stored (is_delayed vs x) (storage_of vs x) (start_of vs x) s.place c j (λ e. start_lies vs starts x) (zero_lies vs x)
            (λ e f. (lies x c.first (place h e (some_registers (count_of vs x) (registers_each s) j less (memorized_some (storage_of vs x) (is_delayed vs x) f))) j less).0 f)
            (λ e f. (lies x c.first (place h e (some_registers (count_of vs x) (registers_each s) j less (delayed_some (storage_of vs x) (is_delayed vs x) f))) j less).1 f),
        absents_from x c (j + 1) ks h (omega (arith, le)),
      )
    where
      place : (c.stored ≡ false) ⊎ ((c.stored ≡ true) × (0 < variable_registers vs x → P x c.first)) → c.stored ≡ true → 0 < variable_registers vs x → P x c.first
      place (inl e) f p = absurd (wrong (sym e ∙ f))
        where
          wrong : false ≡ true → ⊥
          wrong q = cc
      place (inr q) f p = q.1 p

  -- what a copy has where nothing is written lies in its range
  pub absent_lies : (s : Scoped) → AbsentAt vs P s → AllLie (range_of vs s.var) (worths_of σ s.absent)
  absent_lies s a = subst (λ us. AllLie (range_of vs s.var) (worths_of σ us)) (sym a.absent) (absents_from s.var a.copy 0 s.cells a.at (let e = a.count in omega (arith, e)))

  -- and doesn't depend on cells
  pub absent_is : (g : ℕ → ℤ) (s : Scoped) → AbsentAt vs P s → worths_of (with_cells σ g) s.absent ≡ worths_of σ s.absent
  absent_is g s a = ap (worths_of (with_cells σ g)) a.absent ∙ absents_same σ g (shape_in vs s.var) a.copy 0 s.cells ∙ ap (worths_of σ) (sym a.absent)
