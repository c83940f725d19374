-- The registers of all scopes of a statement hold what they take: by its parts.
use Rattle.std.proofs.Common.{◌≡◌, ◌⊎◌, inl, inr, ℕ, zero, suc, ◌+◌, ◌≤◌, ◌<◌, nat_lt, ℤ, Bool, true, false, List, [], ◌∷◌, ◌++◌, length, Option, Some, None, refl, sym, ap, ap₂, ◌∙◌, subst, arith, append_assoc}
use Rattle.std.proofs.lemmas.Bool.Decides.{nat_tests}
use Rattle.std.specs.Prelude.{map}
use Rattle.quartz_expr.specs.Vars.{Vars}
use Rattle.quartz_expr.specs.Terms.{Store, Term, nothing, pause, write, choose, seq, par, loop, abort, suspend, scope, Terms, none, part}
use Rattle.aif_cells.specs.Solution.{IsSolution}
use Rattle.aif_cells.specs.Worth.{Assignment, truth}
use Rattle.reincarnation.specs.Carrying.{Stores}
use Rattle.reincarnation.specs.Meaning.{carried_copy}
use Rattle.statement_cells.specs.Labels.{labels, registers, registers_all, scope_registers}
use Rattle.statement_cells.specs.Builder.{DepthCopy, EnteredCopy}
use Rattle.statement_cells.specs.Sound.{AreSound, IsSound}
use Rattle.statement_cells.specs.Stands.{Registers, some}
use Rattle.statement_cells.specs.Walk.{Holds, depth_takes, else_takes, entered_takes, now, or_else, takes_copy}
use Rattle.statement_cells.specs.Whole.{all_scopes_taken, carried_in, depth_taken, depths_at, entered_at, scope_taken, scopes_taken, variable_registers}
use Rattle.statement_cells.specs.Meaning.{next_of, next_registers}
use Rattle.statement_cells.proofs.CarryLemmas.{carried_holds}
use Rattle.statement_cells.proofs.DepthLemmas.{Both, DepthsOf, DepthsOfAll, own_depths}
use Rattle.statement_cells.proofs.HoldLemmas.{Out, if_none, out_none, carried_taken, depth_here, depths_here, entered_here}
use Rattle.statement_cells.proofs.PlacedLemmas.{AllAt, At, AtAll}
use Rattle.statement_cells.proofs.ScopeBelowLemmas.{all_scopes_below, scopes_below}
use Rattle.statement_cells.proofs.ScopeEnvLemmas.{length_map}
use Rattle.statement_cells.proofs.ScopeHoldLemmas.{AllD, Inside, before_out, behind_out, both_d, depths_in, depths_in_all, inside, inside_all, map_d, map_e, out_all, out_left, out_right, own_d, scope_is}
use Rattle.statement_cells.proofs.StartLemmas.{scope_start, scopes_start}
use Rattle.statement_cells.proofs.WholeLemmas.{all_scopes_kept, scopes_kept}

module _ (vs : Vars) (σ : Assignment) (es : List EnteredCopy) (ds : List DepthCopy) where
  abbrev regs : Stores → Registers
  regs τ = next_registers σ τ.registers

  -- registers of a range hold what they take
  abbrev pub HoldsIn : (v n : ℕ) → Registers → Type 0
  HoldsIn v n k = (r : ℕ) (z : ℤ) → v ≤ r → r < v + n → else_takes (entered_takes vs σ es) (depth_takes vs σ ds) r ≡ Some z → k r ≡ z

  -- the copies of a part, and those of others, which lie outside
  pub record Placing (v n : ℕ) (A : ℕ → ℕ → Type 0) (Q : List DepthCopy → Type 0) : Type 0 where
    pub entered : AllAt vs (λ x' v'. A x' v' ⊎ Out vs σ v n x' v') es
    pub front : List DepthCopy
    pub more : List DepthCopy
    pub back : List DepthCopy
    pub splits : ds ≡ front ++ (more ++ back)
    pub front_out : AllD vs σ (Out vs σ v n) front
    pub back_out : AllD vs σ (Out vs σ v n) back
    pub of : Q more

  module _ (v a b : ℕ) (A B : ℕ → ℕ → Type 0) (P Q : List DepthCopy → Type 0)
      (in_a : (x' v' : ℕ) → A x' v' → Inside vs σ v a x' v') (in_b : (x' v' : ℕ) → B x' v' → Inside vs σ (v + a) b x' v')
      (of_a : (l : List DepthCopy) → P l → AllD vs σ A l) (of_b : (l : List DepthCopy) → Q l → AllD vs σ B l)
      (h : Placing v (a + b) (λ x' v'. A x' v' ⊎ B x' v') (Both P Q)) where
    first_place : Placing v a A P
    first_place = record {
      entered = map_e vs σ (λ x' v'. (A x' v' ⊎ B x' v') ⊎ Out vs σ v (a + b) x' v') (λ x' v'. A x' v' ⊎ Out vs σ v a x' v') to es h.entered;
      front = h.front;
      more = h.of.first;
      back = h.of.second ++ h.back;
      splits = h.splits ∙ ap (λ l. h.front ++ l) (ap (λ l. l ++ h.back) h.of.splits ∙ append_assoc h.of.first h.of.second h.back);
      front_out = map_d vs σ (Out vs σ v (a + b)) (Out vs σ v a) (out_left vs σ v a b) h.front h.front_out;
      back_out = both_d vs σ (Out vs σ v a) h.of.second h.back (map_d vs σ B (Out vs σ v a) (λ x' v' p. before_out vs σ v a b x' v' (in_b x' v' p)) h.of.second (of_b h.of.second h.of.right))
          (map_d vs σ (Out vs σ v (a + b)) (Out vs σ v a) (out_left vs σ v a b) h.back h.back_out);
      of = h.of.left;
    }
      where
        to : (x' v' : ℕ) → (A x' v' ⊎ B x' v') ⊎ Out vs σ v (a + b) x' v' → A x' v' ⊎ Out vs σ v a x' v'
        to x' v' (inl (inl p)) = inl p
        to x' v' (inl (inr p)) = inr (before_out vs σ v a b x' v' (in_b x' v' p))
        to x' v' (inr o) = inr (out_left vs σ v a b x' v' o)

    second_place : Placing (v + a) b B Q
    second_place = record {
      entered = map_e vs σ (λ x' v'. (A x' v' ⊎ B x' v') ⊎ Out vs σ v (a + b) x' v') (λ x' v'. B x' v' ⊎ Out vs σ (v + a) b x' v') to es h.entered;
      front = h.front ++ h.of.first;
      more = h.of.second;
      back = h.back;
      splits = h.splits ∙ ap (λ l. h.front ++ l) (ap (λ l. l ++ h.back) h.of.splits ∙ append_assoc h.of.first h.of.second h.back) ∙ sym (append_assoc h.front h.of.first (h.of.second ++ h.back));
      front_out = both_d vs σ (Out vs σ (v + a) b) h.front h.of.first (map_d vs σ (Out vs σ v (a + b)) (Out vs σ (v + a) b) (out_right vs σ v a b) h.front h.front_out)
          (map_d vs σ A (Out vs σ (v + a) b) (λ x' v' p. behind_out vs σ v a b x' v' (in_a x' v' p)) h.of.first (of_a h.of.first h.of.left));
      back_out = map_d vs σ (Out vs σ v (a + b)) (Out vs σ (v + a) b) (out_right vs σ v a b) h.back h.back_out;
      of = h.of.right;
    }
      where
        to : (x' v' : ℕ) → (A x' v' ⊎ B x' v') ⊎ Out vs σ v (a + b) x' v' → B x' v' ⊎ Out vs σ (v + a) b x' v'
        to x' v' (inl (inl p)) = inr (behind_out vs σ v a b x' v' (in_a x' v' p))
        to x' v' (inl (inr p)) = inl p
        to x' v' (inr o) = inr (out_right vs σ v a b x' v' o)

  -- two ranges one behind the other
  two_hold : (v a b : ℕ) (j k : Registers) → ((r : ℕ) → r < v + a → k r ≡ j r) → HoldsIn v a j → HoldsIn (v + a) b k → HoldsIn v (a + b) k
  two_hold v a b j k keep f g r z from to e = at (nat_lt r (v + a)) refl
    where
      less : nat_lt r (v + a) ≡ true → r < v + a
      less p = grind (arith, nat_tests, p)

      more : nat_lt r (v + a) ≡ false → v + a ≤ r
      more p = grind (arith, nat_tests, p)

      at : (t : Bool) → nat_lt r (v + a) ≡ t → k r ≡ z
      at true p = keep r (less p) ∙ f r z from (less p) e
      at false p = g r z (more p) (omega (arith, to)) e

  nothing_holds : (v : ℕ) (k : Registers) → HoldsIn v 0 k
  nothing_holds v k r z from to e = absurd (omega (arith, from, to))

  -- the registers of one scope
  own_holds : (x v n : ℕ) (τ : Stores) → x < length vs → (0 < n → n ≡ variable_registers vs x) → AllAt vs (λ x' v'. ((x' ≡ x) × (v' ≡ v)) ⊎ Out vs σ v n x' v') es
      → (front inner back : List DepthCopy) (d : DepthCopy) → ds ≡ front ++ ((inner ++ own_depths n d) ++ back) → AllD vs σ (Out vs σ v n) front → AllD vs σ (Out vs σ v n) inner → AllD vs σ (Out vs σ v n) back
      → d.var ≡ x → d.first ≡ v → v + n ≤ length τ.registers → IsSolution σ (scope_taken vs es ds n v τ).cells → HoldsIn v n (regs (scope_taken vs es ds n v τ))
  own_holds x v zero τ less size entered front inner back d splits f i b ev ef room sol r z from to e = absurd (omega (arith, from, to))
  own_holds x v (suc m) τ less size entered front inner back d splits f i b ev ef room sol r z g l e =
      let n : ℕ = suc m in
      let is : n ≡ variable_registers vs x = size (omega arith) in
      let fo = out_all vs σ x v n r g l front f in
      let io = out_all vs σ x v n r g l inner i in
      let bo = out_all vs σ x v n r g l back b in
      let ent = entered_here vs σ x v n r g l es (omega arith) entered in
      let dep = ap (λ bs. depth_takes vs σ bs r) splits ∙ depth_here vs σ x v n r g l front inner back d fo io bo ev ef in
      let there : depths_at v ds ≡ d ∷ [] = ap (depths_at v) splits ∙ depths_here vs σ x v n r g l front inner back d (omega arith) fo io bo ef in
      let τ' : Stores = carried_in vs x (entered_at v es) d.closed v τ in
      let same : depth_taken vs es (depths_at v ds) τ ≡ τ' = ap (λ bs. depth_taken vs es bs τ) there ∙ ap₂ (λ y u. carried_in vs y (entered_at u es) d.closed u τ) ev ef in
      let held : Holds (takes_copy vs σ x v (carried_copy σ (entered_at v es) d.closed)) (regs τ') =
      carried_holds vs σ x (entered_at v es) d.closed v τ less (omega (arith, room, is)) (subst (λ (u : Stores). IsSolution σ u.cells) same sol) in
      ap (λ (u : Stores). next_registers σ u.registers r) same
      ∙ carried_taken vs σ x v n r g l (regs τ') (entered_at v es) d.closed (some (now σ) d.label d.labels) z held (sym (ap₂ or_else ent dep) ∙ e)

  length_by : (τ υ : Stores) → (map (λ x. x.initial) υ.registers ≡ map (λ x. x.initial) τ.registers) → length υ.registers ≡ length τ.registers
  length_by τ υ e = sym (length_map (λ x. x.initial) υ.registers) ∙ ap length e ∙ length_map (λ x. x.initial) τ.registers

  own_inside : (x n v x' v' : ℕ) → x' ≡ x → v' ≡ v → 0 < scope_registers vs n x → Inside vs σ v (scope_registers vs n x) x' v'
  own_inside x n v x' v' e f taken =
      let is : scope_registers vs n x ≡ variable_registers vs x = scope_is vs σ n x taken in
      let same : variable_registers vs x' ≡ variable_registers vs x = ap (variable_registers vs) e in
      record { some = omega (arith, taken, is, same); from = omega (arith, f); to = omega (arith, f, is, same) }

  module _ (x : ℕ) (y : Option Store) (t : Term) (v : ℕ) where
    abbrev n : ℕ
    n = scope_registers vs (labels t) x

    own_entered : (x' v' : ℕ) → At vs v (scope x y t) x' v' ⊎ Out vs σ v (n + registers vs t) x' v' → ((x' ≡ x) × (v' ≡ v)) ⊎ Out vs σ v n x' v'
    own_entered x' v' (inl (inl q)) = inl (q.0, q.1)
    own_entered x' v' (inl (inr q)) = inr (before_out vs σ v n (registers vs t) x' v' (inside vs σ t (v + n) x' v' q))
    own_entered x' v' (inr o) = inr (out_left vs σ v n (registers vs t) x' v' o)

    body_entered : (x' v' : ℕ) → At vs v (scope x y t) x' v' ⊎ Out vs σ v (n + registers vs t) x' v' → At vs (v + n) t x' v' ⊎ Out vs σ (v + n) (registers vs t) x' v'
    body_entered x' v' (inl (inl q)) = inr (behind_out vs σ v n (registers vs t) x' v' (own_inside x (labels t) v x' v' q.0 q.1 q.2))
    body_entered x' v' (inl (inr q)) = inl q
    body_entered x' v' (inr o) = inr (out_right vs σ v n (registers vs t) x' v' o)

    -- the copies of the body of a scope
    body_place : Placing v (n + registers vs t) (At vs v (scope x y t)) (DepthsOf vs v (scope x y t)) → Placing (v + n) (registers vs t) (At vs (v + n) t) (DepthsOf vs (v + n) t)
    body_place p = record {
      entered = map_e vs σ (λ x' v'. At vs v (scope x y t) x' v' ⊎ Out vs σ v (n + registers vs t) x' v') (λ x' v'. At vs (v + n) t x' v' ⊎ Out vs σ (v + n) (registers vs t) x' v') body_entered es p.entered;
      front = p.front;
      more = p.of.inner;
      back = own_depths n p.of.copy ++ p.back;
      splits = p.splits ∙ ap (λ l. p.front ++ l) (ap (λ l. l ++ p.back) p.of.splits ∙ append_assoc p.of.inner (own_depths n p.of.copy) p.back);
      front_out = map_d vs σ (Out vs σ v (n + registers vs t)) (Out vs σ (v + n) (registers vs t)) (out_right vs σ v n (registers vs t)) p.front p.front_out;
      back_out = both_d vs σ (Out vs σ (v + n) (registers vs t)) (own_depths n p.of.copy) p.back
          (own_d vs σ (Out vs σ (v + n) (registers vs t)) n p.of.copy (λ q. behind_out vs σ v n (registers vs t) p.of.copy.var p.of.copy.first (own_inside x (labels t) v p.of.copy.var p.of.copy.first p.of.var p.of.first q)))
          (map_d vs σ (Out vs σ v (n + registers vs t)) (Out vs σ (v + n) (registers vs t)) (out_right vs σ v n (registers vs t)) p.back p.back_out);
      of = p.of.body;
    }

  mutual
    -- the registers of all scopes of a statement
    pub scopes_hold : (s : Term) (v : ℕ) (τ : Stores) → IsSound vs s → Placing v (registers vs s) (At vs v s) (DepthsOf vs v s) → v + registers vs s ≤ length τ.registers
        → IsSolution σ (scopes_taken vs es ds v s τ).cells → HoldsIn v (registers vs s) (regs (scopes_taken vs es ds v s τ))
    scopes_hold nothing v τ h p room sol = nothing_holds v (regs τ)
    scopes_hold pause v τ h p room sol = nothing_holds v (regs τ)
    scopes_hold (write x i e d q w) v τ h p room sol = nothing_holds v (regs τ)
    scopes_hold (choose c a b) v τ h p room sol =
        let m : Stores = scopes_taken vs es ds v a τ in
        let u : Stores = scopes_taken vs es ds (v + registers vs a) b m in
        let size : length m.registers ≡ length τ.registers = length_by τ m (scopes_start vs es ds a v τ) in
        two_hold v (registers vs a) (registers vs b) (regs m) (regs u) (λ r l. ap (next_of σ) (scopes_below vs σ es ds b (v + registers vs a) m r l))
        (scopes_hold a v τ h.1 (first_place v (registers vs a) (registers vs b) (At vs v a) (At vs (v + registers vs a) b) (DepthsOf vs v a) (DepthsOf vs (v + registers vs a) b) (inside vs σ a v) (inside vs σ b (v + registers vs a)) (depths_in vs σ a v) (depths_in vs σ b (v + registers vs a)) p) (omega (arith, room))
        (λ k c is f. sol k c (scopes_kept vs es ds b (v + registers vs a) m k c is) f))
        (scopes_hold b (v + registers vs a) m h.2 (second_place v (registers vs a) (registers vs b) (At vs v a) (At vs (v + registers vs a) b) (DepthsOf vs v a) (DepthsOf vs (v + registers vs a) b) (inside vs σ a v) (inside vs σ b (v + registers vs a)) (depths_in vs σ a v) (depths_in vs σ b (v + registers vs a)) p) (omega (arith, room, size)) sol)
    scopes_hold (seq ts) v τ h p room sol = all_hold ts v τ h p room sol
    scopes_hold (par ts) v τ h p room sol = all_hold ts v τ h p room sol
    scopes_hold (loop t c) v τ h p room sol = scopes_hold t v τ h.2 p room sol
    scopes_hold (abort w i t c) v τ h p room sol = scopes_hold t v τ h.1 p room sol
    scopes_hold (suspend w i t c) v τ h p room sol = scopes_hold t v τ h.1 p room sol
    scopes_hold (scope x y t) v τ h p room sol =
        let n : ℕ = scope_registers vs (labels t) x in
        let b : ℕ = registers vs t in
        let m : Stores = scope_taken vs es ds n v τ in
        let u : Stores = scopes_taken vs es ds (v + n) t m in
        let size : length m.registers ≡ length τ.registers = length_by τ m (scope_start vs es ds n v τ) in
        two_hold v n b (regs m) (regs u) (λ r l. ap (next_of σ) (scopes_below vs σ es ds t (v + n) m r l))
        (own_holds x v n τ h.0 (λ q. scope_is vs σ (labels t) x q)
        (map_e vs σ (λ x' v'. At vs v (scope x y t) x' v' ⊎ Out vs σ v (n + b) x' v') (λ x' v'. ((x' ≡ x) × (v' ≡ v)) ⊎ Out vs σ v n x' v') (own_entered x y t v) es p.entered)
        p.front p.of.inner p.back p.of.copy (p.splits ∙ ap (λ l. p.front ++ (l ++ p.back)) p.of.splits)
        (map_d vs σ (Out vs σ v (n + b)) (Out vs σ v n) (out_left vs σ v n b) p.front p.front_out)
        (map_d vs σ (At vs (v + n) t) (Out vs σ v n) (λ x' v' q. before_out vs σ v n b x' v' (inside vs σ t (v + n) x' v' q)) p.of.inner (depths_in vs σ t (v + n) p.of.inner p.of.body))
        (map_d vs σ (Out vs σ v (n + b)) (Out vs σ v n) (out_left vs σ v n b) p.back p.back_out)
        p.of.var p.of.first (omega (arith, room)) (λ k c is f. sol k c (scopes_kept vs es ds t (v + n) m k c is) f))
        (scopes_hold t (v + n) m h.3 (body_place x y t v p) (omega (arith, room, size)) sol)

    pub all_hold : (ts : Terms) (v : ℕ) (τ : Stores) → AreSound vs ts → Placing v (registers_all vs ts) (AtAll vs v ts) (DepthsOfAll vs v ts) → v + registers_all vs ts ≤ length τ.registers
        → IsSolution σ (all_scopes_taken vs es ds v ts τ).cells → HoldsIn v (registers_all vs ts) (regs (all_scopes_taken vs es ds v ts τ))
    all_hold none v τ h p room sol = nothing_holds v (regs τ)
    all_hold (part t ts) v τ h p room sol =
        let a : ℕ = registers vs t in
        let b : ℕ = registers_all vs ts in
        let m : Stores = scopes_taken vs es ds v t τ in
        let u : Stores = all_scopes_taken vs es ds (v + a) ts m in
        let size : length m.registers ≡ length τ.registers = length_by τ m (scopes_start vs es ds t v τ) in
        two_hold v a b (regs m) (regs u) (λ r l. ap (next_of σ) (all_scopes_below vs σ es ds ts (v + a) m r l))
        (scopes_hold t v τ h.0 (first_place v a b (At vs v t) (AtAll vs (v + a) ts) (DepthsOf vs v t) (DepthsOfAll vs (v + a) ts) (inside vs σ t v) (inside_all vs σ ts (v + a)) (depths_in vs σ t v) (depths_in_all vs σ ts (v + a)) p) (omega (arith, room))
        (λ k c is f. sol k c (all_scopes_kept vs es ds ts (v + a) m k c is) f))
        (all_hold ts (v + a) m h.1 (second_place v a b (At vs v t) (AtAll vs (v + a) ts) (DepthsOf vs v t) (DepthsOfAll vs (v + a) ts) (inside vs σ t v) (inside_all vs σ ts (v + a)) (depths_in vs σ t v) (depths_in_all vs σ ts (v + a)) p) (omega (arith, room, size)) sol)

  -- ---- all registers

  entered_none : (r : ℕ) (us : List EnteredCopy) → AllAt vs (Out vs σ r 1) us → entered_takes vs σ us r ≡ None
  unfolding entered_takes
  entered_none r [] h = refl
  entered_none r (e ∷ us) h =
      ap (λ a. or_else a (entered_takes vs σ us r)) (if_none vs σ (truth σ e.entered.enter) (takes_copy vs σ e.var e.first e.entered.closed) r (out_none vs σ r 1 e.var e.first e.entered.closed r h.0 (omega arith) (omega arith))) ∙ entered_none r us h.1

  depth_none : (r : ℕ) (bs : List DepthCopy) → AllD vs σ (Out vs σ r 1) bs → depth_takes vs σ bs r ≡ None
  unfolding depth_takes
  depth_none r [] h = refl
  depth_none r (d ∷ bs) h =
      ap (λ a. or_else a (depth_takes vs σ bs r)) (if_none vs σ (some (now σ) d.label d.labels) (takes_copy vs σ d.var d.first d.closed) r (out_none vs σ r 1 d.var d.first d.closed r h.0 (omega arith) (omega arith))) ∙ depth_none r bs h.1

  -- outside the range nothing is taken
  pub holds_all : (v n : ℕ) (k : Registers) → AllAt vs (Inside vs σ v n) es → AllD vs σ (Inside vs σ v n) ds → HoldsIn v n k → Holds (else_takes (entered_takes vs σ es) (depth_takes vs σ ds)) k
  holds_all v n k he hd h r z e = below (nat_lt r v) refl
    where
      wrong : None ≡ Some z → ⊥
      wrong p = cc

      outside : ((x' v' : ℕ) → Inside vs σ v n x' v' → Out vs σ r 1 x' v') → k r ≡ z
      outside f = absurd (wrong (sym (ap₂ or_else (entered_none r es (map_e vs σ (Inside vs σ v n) (Out vs σ r 1) f es he)) (depth_none r ds (map_d vs σ (Inside vs σ v n) (Out vs σ r 1) f ds hd))) ∙ e))

      less : nat_lt r v ≡ true → r < v
      less p = grind (arith, nat_tests, p)

      more : nat_lt r v ≡ false → v ≤ r
      more p = grind (arith, nat_tests, p)

      under : nat_lt r (v + n) ≡ true → r < v + n
      under p = grind (arith, nat_tests, p)

      over : nat_lt r (v + n) ≡ false → v + n ≤ r
      over p = grind (arith, nat_tests, p)

      under_out : r < v → (x' v' : ℕ) → Inside vs σ v n x' v' → Out vs σ r 1 x' v'
      under_out p x' v' i = let f = i.from in (i.some, inr (omega (arith, p, f)))

      over_out : v + n ≤ r → (x' v' : ℕ) → Inside vs σ v n x' v' → Out vs σ r 1 x' v'
      over_out p x' v' i = let f = i.to in (i.some, inl (omega (arith, p, f)))

      above : (b : Bool) → nat_lt r (v + n) ≡ b → v ≤ r → k r ≡ z
      above true p q = h r z q (under p) e
      above false p q = outside (over_out (over p))

      below : (b : Bool) → nat_lt r v ≡ b → k r ≡ z
      below true p = outside (under_out (less p))
      below false p = above (nat_lt r (v + n)) refl (more p)
