-- The initial registers stand for the initial state.
use Rattle.std.proofs.Common.{◌≡◌, inl, ℕ, zero, suc, ◌+◌, ◌*◌, ◌≤◌, ◌<◌, ◌&&◌, ℤ, pos, Bool, true, false, List, [], ◌∷◌, ◌++◌, length, map, Option, Some, None, refl, sym, ap, ap₂, ◌∙◌, subst, arith, length-append}
use Rattle.std.proofs.lemmas.Bool.Decides.{nat_tests}
use Rattle.std.specs.Prelude.{◌==◌, slice_get, replicate, if◌then◌else◌}
use Rattle.quartz_tree.specs.declared.declare.Storage.{Storage}
use Rattle.quartz_tree.specs.declared.declare.Storage.TheVariants.{Mem, Event}
use Rattle.quartz_tree.specs.declared.declare.Var.{Var}
use Rattle.quartz_expr.specs.declared.act.Kept.{Kept}
use Rattle.quartz_expr.specs.Vars.{Vars, count_of}
use Rattle.quartz_expr.specs.Terms.{Term, nothing, pause, write, choose, seq, par, loop, abort, suspend, scope, Terms, none, part, term_of}
use Rattle.quartz_expr.specs.Resolve.{fresh_store}
use Rattle.quartz_expr.specs.Steps.{outputs_of}
use Rattle.aif_cells.specs.declared.reference.Ref.{Ref}
use Rattle.aif_cells.specs.declared.cells.Register.{Register}
use Rattle.aif_cells.specs.Worth.{holds}
use Rattle.absence_reaction.specs.declared.copy.Shape.{Shape}
use Rattle.absence_reaction.specs.Closing.{one_if, registers_each, register_of as register_at, flag_of, pending_of}
use Rattle.quartz_tree.specs.Storage.{is_memorized}
use Rattle.reincarnation.specs.declared.copy.ClosedRefs.{ClosedRefs}
use Rattle.reincarnation.specs.declared.copy.Entered.{Entered}
use Rattle.reincarnation.specs.Carrying.{Stores, with_next}
use Rattle.reincarnation.proofs.MeaningLemmas.{carrying_keeps}
use Rattle.statement_cells.specs.Labels.{labels, registers, shape_in, scope_registers}
use Rattle.statement_cells.specs.Builder.{Builder, EnteredCopy, DepthCopy}
use Rattle.statement_cells.specs.Stands.{Registers, kept_from, plain_kept, some, some_if}
use Rattle.statement_cells.specs.Whole.{ClosedOutput, all_scopes_taken, beginning, body_built, carried_in, compiled, depth_taken, depths_at, element_registers, ended, entered_at, first_label, first_output, first_registers, first_scope, label_taken, labels_taken, outputs_registers, outputs_taken, register_of, registers_and_cells, repeated, scope_taken, scopes_taken, variable_registers}
use Rattle.statement_cells.specs.Meaning.{InitialRegistersStand, initial_registers, marks_of, plain_stores, stores_of}
use Rattle.statement_cells.proofs.MarkLemmas.{at_one_free, some_free}
use Rattle.statement_cells.proofs.ScopeGrowLemmas.{length_replicate}

-- ---- registers begin with what they began with

abbrev pub starts : List Register → List ℤ
starts rs = map (λ x. x.initial) rs

pub with_starts : (rs : List Register) (r : ℕ) (n : Ref) → starts (with_next rs r n) ≡ starts rs
with_starts [] r n = refl
with_starts (x ∷ rs) zero n = refl
with_starts (x ∷ rs) (suc r) n = ap (λ (zs : List ℤ). x.initial ∷ zs) (with_starts rs r n)

pub labels_start : (n l : ℕ) (rs : List Register) (β : Builder) → starts (labels_taken l n rs β).0 ≡ starts rs
labels_start zero l rs β = refl
labels_start (suc n) l rs β = labels_start n (l + 1) (label_taken l rs β).0 (label_taken l rs β).1 ∙ with_starts rs l _

module _ (vs : Vars) where
  pub carried_start : (x : ℕ) (es : List Entered) (c : ClosedRefs) (v : ℕ) (τ : Stores) → starts (carried_in vs x es c v τ).registers ≡ starts τ.registers
  carried_start x es c v τ = at (slice_get vs x) refl
    where
      at : (o : Option Var) → slice_get vs x ≡ o → starts (carried_in vs x es c v τ).registers ≡ starts τ.registers
      at None e = rw e refl
      at (Some w) e = rw e ((carrying_keeps w es c v τ).starts)

  pub outputs_start : (os : List ClosedOutput) (τ : Stores) → starts (outputs_taken vs os τ).registers ≡ starts τ.registers
  outputs_start [] τ = refl
  outputs_start (o ∷ os) τ = outputs_start os (carried_in vs o.var [] o.closed o.first τ) ∙ carried_start o.var [] o.closed o.first τ

  module _ (es : List EnteredCopy) (ds : List DepthCopy) where
    depth_start : (bs : List DepthCopy) (τ : Stores) → starts (depth_taken vs es bs τ).registers ≡ starts τ.registers
    depth_start [] τ = refl
    depth_start (d ∷ bs) τ = depth_start bs (carried_in vs d.var (entered_at d.first es) d.closed d.first τ) ∙ carried_start d.var (entered_at d.first es) d.closed d.first τ

    pub scope_start : (n v : ℕ) (τ : Stores) → starts (scope_taken vs es ds n v τ).registers ≡ starts τ.registers
    scope_start zero v τ = refl
    scope_start (suc n) v τ = depth_start (depths_at v ds) τ

    mutual
      pub scopes_start : (t : Term) (v : ℕ) (τ : Stores) → starts (scopes_taken vs es ds v t τ).registers ≡ starts τ.registers
      scopes_start nothing v τ = refl
      scopes_start pause v τ = refl
      scopes_start (write x i e d p q) v τ = refl
      scopes_start (choose c a b) v τ = scopes_start b (v + registers vs a) (scopes_taken vs es ds v a τ) ∙ scopes_start a v τ
      scopes_start (seq ts) v τ = all_scopes_start ts v τ
      scopes_start (par ts) v τ = all_scopes_start ts v τ
      scopes_start (loop t c) v τ = scopes_start t v τ
      scopes_start (abort w i t c) v τ = scopes_start t v τ
      scopes_start (suspend w i t c) v τ = scopes_start t v τ
      scopes_start (scope x s t) v τ =
          let n = scope_registers vs (labels t) x in
          scopes_start t (v + n) (scope_taken vs es ds n v τ) ∙ scope_start n v τ

      pub all_scopes_start : (ts : Terms) (v : ℕ) (τ : Stores) → starts (all_scopes_taken vs es ds v ts τ).registers ≡ starts τ.registers
      all_scopes_start none v τ = refl
      all_scopes_start (part t ts) v τ = all_scopes_start ts (v + registers vs t) (scopes_taken vs es ds v t τ) ∙ scopes_start t v τ

  -- the registers of a module begin as they were made
  pub compiled_starts : (t : Term) → starts (compiled vs t).registers ≡ starts (first_registers vs t)
  compiled_starts t =
      let e = ended vs (beginning vs).outputs (first_output t) (body_built vs t) in
      let l = labels_taken first_label (labels t) (first_registers vs t) e.built in
      let o = outputs_taken vs e.outputs (registers_and_cells l.0 l.1) in
      scopes_start l.1.entered l.1.depths t (first_scope vs t) o ∙ outputs_start e.outputs (registers_and_cells l.0 l.1) ∙ labels_start (labels t) first_label (first_registers vs t) e.built

pub same_starts : (rs qs : List Register) → starts rs ≡ starts qs → (r : ℕ) → initial_registers rs r ≡ initial_registers qs r
same_starts [] [] e r = refl
same_starts [] (y ∷ qs) e r = absurd (cc)
same_starts (x ∷ rs) [] e r = absurd (cc)
same_starts (x ∷ rs) (y ∷ qs) e zero = first e
  where
    first : {a b : ℤ} {l m : List ℤ} → a ∷ l ≡ b ∷ m → a ≡ b
    first e = cc
same_starts (x ∷ rs) (y ∷ qs) e (suc r) = same_starts rs qs (rest e) r
  where
    rest : {a b : ℤ} {l m : List ℤ} → a ∷ l ≡ b ∷ m → l ≡ m
    rest e = cc

-- ---- what the registers hold at the start

-- registers from number v on hold what these begin with
abbrev pub InitialFrom : Registers → ℕ → List Register → Type 0
InitialFrom k v [] = Unit {0}
InitialFrom k v (x ∷ rs) = (k v ≡ x.initial) × InitialFrom k (v + 1) rs

module _ (k : Registers) where
  pub initial_from : (rs : List Register) (v : ℕ) → ((r : ℕ) → k (v + r) ≡ initial_registers rs r) → InitialFrom k v rs
  initial_from [] v h = tt
  initial_from (x ∷ rs) v h =
      let e : v + zero ≡ v = omega arith in
      let f : (r : ℕ) → (v + 1) + r ≡ v + suc r = λ r. omega arith in
      (subst (λ q. k q ≡ x.initial) e (h zero), initial_from rs (v + 1) (λ r. ap k (f r) ∙ h (suc r)))

  pub from_first : (a b : List Register) (v : ℕ) → InitialFrom k v (a ++ b) → InitialFrom k v a
  from_first [] b v h = tt
  from_first (x ∷ a) b v h = (h.0, from_first a b (v + 1) h.1)

  pub from_second : (a b : List Register) (v : ℕ) → InitialFrom k v (a ++ b) → InitialFrom k (v + length a) b
  from_second [] b v h = let e : v ≡ v + zero = omega arith in subst (λ q. InitialFrom k q b) e h
  from_second (x ∷ a) b v h = let e : (v + 1) + length a ≡ v + suc (length a) = omega arith in subst (λ q. InitialFrom k q b) e (from_second a b (v + 1) h.1)

  labels_rest : (n v i : ℕ) → InitialFrom k v (replicate n (register_of (pos 0))) → v ≤ i → i < v + n → marks_of k i ≡ false
  labels_rest zero v i h g l = absurd (omega (arith, g, l))
  labels_rest (suc n) v i h g l = at (v == i) refl (λ p. labels_rest n (v + 1) i h.1 p (omega (arith, l)))
    where
      same : (v == i) ≡ true → v ≡ i
      same e = grind (arith, nat_tests, e)

      after : (v == i) ≡ false → v + 1 ≤ i
      after e = grind (arith, nat_tests, e, g)

      at : (b : Bool) → (v == i) ≡ b → (v + 1 ≤ i → marks_of k i ≡ false) → marks_of k i ≡ false
      at true e f = ap (marks_of k) (sym (same e)) ∙ ap holds h.0
      at false e f = f (after e)

  abbrev kept_of : ℤ → Option ℤ → Kept
  kept_of z o = record { value = z; pending = o }

  element_starts : (st : Storage) (d : Bool) (z : ℤ) (r f p : ℕ) → f ≡ r + one_if (is_memorized st)
      → InitialFrom k r (replicate (one_if (is_memorized st)) (register_of z) ++ replicate (one_if d + one_if d) (register_of (pos 0)))
      → kept_of (if is_memorized st then k r else pos 0) (some_if (d && holds (k f)) (k p)) ≡ plain_kept st (kept_of z None)
  element_starts Mem true z r f p e h = ap₂ (λ a b. kept_of a (some_if (holds b) (k p))) h.0 (ap k e ∙ h.1.0)
  element_starts Mem false z r f p e h = ap (λ a. kept_of a None) h.0
  element_starts Event true z r f p e h = let g : f ≡ r = omega (arith, e) in ap (λ b. kept_of (pos 0) (some_if (holds b) (k p))) (ap k g ∙ h.0)
  element_starts Event false z r f p e h = refl

  length_element : (s : Shape) → length (element_registers s) ≡ registers_each s
  length_element s =
      length-append (replicate (one_if (is_memorized s.storage)) (register_of s.start)) (replicate (one_if s.delayed + one_if s.delayed) (register_of (pos 0)))
      ∙ ap₂ (λ a b. a + b) (length_replicate (one_if (is_memorized s.storage)) (register_of s.start)) (length_replicate (one_if s.delayed + one_if s.delayed) (register_of (pos 0)))

  pub length_repeated : (s : Shape) (n : ℕ) → length (repeated n (element_registers s)) ≡ n * registers_each s
  length_repeated s zero = omega arith
  length_repeated s (suc n) =
      let e : registers_each s + n * registers_each s ≡ suc n * registers_each s = omega arith in
      length-append (element_registers s) (repeated n (element_registers s)) ∙ ap₂ (λ a b. a + b) (length_element s) (length_repeated s n) ∙ e

  -- the registers of so many elements hold start values, with nothing pending
  kept_starts : (s : Shape) (v j n : ℕ) → InitialFrom k (register_at s v j) (repeated n (element_registers s))
      → kept_from s k v j n ≡ map (plain_kept s.storage) (replicate n (kept_of s.start None))
  kept_starts s v j zero h = refl
  kept_starts s v j (suc n) h =
      let e : register_at s v j + registers_each s ≡ register_at s v (j + 1) = omega arith in
      let own = from_first (element_registers s) (repeated n (element_registers s)) (register_at s v j) h in
      let others = from_second (element_registers s) (repeated n (element_registers s)) (register_at s v j) h in
      ap₂ (λ a l. a ∷ l) (element_starts s.storage s.delayed s.start (register_at s v j) (flag_of s v j) (pending_of s v j) refl own)
      (kept_starts s v (j + 1) n (subst (λ q. InitialFrom k q (repeated n (element_registers s))) (ap (λ m. register_at s v j + m) (length_element s) ∙ e) others))

  module _ (vs : Vars) where
    stores_start : (xs : List ℕ) (v : ℕ) → InitialFrom k v (outputs_registers vs xs) → plain_stores vs xs (map (fresh_store vs) xs) ≡ stores_of vs xs v k
    stores_start [] v h = refl
    stores_start (x ∷ xs) v h =
        let s = shape_in vs x in
        let rs : List Register = repeated (count_of vs x) (element_registers s) in
        let own : InitialFrom k v rs = from_first rs (outputs_registers vs xs) v h in
        let e : v ≡ register_at s v 0 = omega arith in
        ap₂ (λ a l. a ∷ l) (sym (kept_starts s v 0 (count_of vs x) (subst (λ q. InitialFrom k q rs) e own)))
        (stores_start xs (v + variable_registers vs x) (subst (λ q. InitialFrom k (v + q) (outputs_registers vs xs)) (length_repeated s (count_of vs x)) (from_second rs (outputs_registers vs xs) v h)))

-- the initial registers of a module stand for its initial state
pub initial_registers_stand : InitialRegistersStand
initial_registers_stand vs body =
    let t : Term = term_of body in
    let nought : (r : ℕ) → 0 + r ≡ r = λ r. omega arith in
    let k : Registers = initial_registers (compiled vs t).registers in
    let all : InitialFrom k 0 (first_registers vs t) = initial_from k (first_registers vs t) 0 (λ r. ap k (nought r) ∙ same_starts (compiled vs t).registers (first_registers vs t) (compiled_starts vs t) r) in
    let behind : InitialFrom k 1 (replicate (labels t) (register_of (pos 0)) ++ (outputs_registers vs (outputs_of vs) ++ replicate (registers vs t) (register_of (pos 0)))) = all.1 in
    let ls = from_first k (replicate (labels t) (register_of (pos 0))) (outputs_registers vs (outputs_of vs) ++ replicate (registers vs t) (register_of (pos 0))) 1 behind in
    let os = from_second k (replicate (labels t) (register_of (pos 0))) (outputs_registers vs (outputs_of vs) ++ replicate (registers vs t) (register_of (pos 0))) 1 behind in
    let outs = from_first k (outputs_registers vs (outputs_of vs)) (replicate (registers vs t) (register_of (pos 0))) (1 + length (replicate (labels t) (register_of (pos 0)))) os in
    let none : some (marks_of k) first_label (labels t) ≡ false = some_free (marks_of k) first_label (labels t) (λ i g l. labels_rest k (labels t) 1 i ls g l) in
    record {
      term = inl (all.0, none, refl);
      at_one = at_one_free t (marks_of k) first_label none;
      stores = stores_start k vs (outputs_of vs) (first_output t) (subst (λ q. InitialFrom k (1 + q) (outputs_registers vs (outputs_of vs))) (length_replicate (labels t) (register_of (pos 0))) outs);
    }
