-- What registers of a variable take, by what is known of the variable.
use Rattle.std.proofs.Common.{◌≡◌, ℕ, zero, suc, ◌+◌, ◌*◌, ◌<◌, ◌≤◌, ◌^◌, Bool, true, false, List, [], ◌∷◌, ◌++◌, length, map, pos, Some, None, refl, ap, ◌∙◌, subst, arith}
use Rattle.std.specs.Prelude.{slice_get}
use Rattle.quartz_tree.specs.declared.declare.Storage.{Storage}
use Rattle.quartz_tree.specs.declared.declare.Storage.TheVariants.{Mem, Event}
use Rattle.quartz_tree.specs.declared.declare.Var.{Var}
use Rattle.quartz_expr.specs.Vars.{Vars, count_of}
use Rattle.quartz_expr.specs.Typed.{have_sound_types}
use Rattle.aif_cells.specs.Aif.{elements_of}
use Rattle.aif_cells.specs.Worth.{Assignment}
use Rattle.absence_reaction.specs.Closing.{one_if}
use Rattle.quartz_tree.specs.Storage.{is_memorized}
use Rattle.reincarnation.specs.declared.copy.ClosedRefs.{ClosedRefs}
use Rattle.reincarnation.specs.declared.copy.Entered.{Entered}
use Rattle.reincarnation.specs.Carrying.{Stores, carried, delayed_parts, parts_of, value_part}
use Rattle.statement_cells.specs.Whole.{carried_in, variable_registers}
use Rattle.statement_cells.proofs.CarryLemmas.{length_carried}
use Rattle.surface_depth.specs.Lists.{list_at}
use Rattle.quartz_expr.proofs.RangeLemmas.{count_small}

count_parts : (st : Storage) (d : Bool) → one_if (is_memorized st) + (one_if d + one_if d) ≡ length (value_part st ++ delayed_parts d)
count_parts Mem true = refl
count_parts Mem false = refl
count_parts Event true = refl
count_parts Event false = refl

registers_there : (vs : Vars) (x : ℕ) (v : Var) → slice_get vs x ≡ Some v → variable_registers vs x ≡ elements_of v * length (parts_of v)
registers_there vs x v e = rw e (ap (λ (m : ℕ). elements_of v * m) (count_parts v.decl.storage v.delayed))

elements_there : (vs : Vars) (x : ℕ) (v : Var) → slice_get vs x ≡ Some v → count_of vs x ≡ elements_of v
elements_there vs x v e = rw e refl

pub few_there : (vs : Vars) (x : ℕ) (v : Var) → slice_get vs x ≡ Some v → have_sound_types vs ≡ true → elements_of v < 2 ^ 64
few_there vs x v e h =
    let few : count_of vs x ≤ 64 = count_small vs x h in
    let same : count_of vs x ≡ elements_of v = elements_there vs x v e in
    omega (arith, few, same)

pub room_there : (vs : Vars) (x n k : ℕ) (v : Var) → slice_get vs x ≡ Some v → n + variable_registers vs x ≤ k → n + elements_of v * length (parts_of v) ≤ k
room_there vs x n k v e h = subst (λ (m : ℕ). n + m ≤ k) (registers_there vs x v e) h

pub there : (vs : Vars) (x : ℕ) → x < length vs → (v : Var) × (slice_get vs x ≡ Some v)
there [] x h = absurd (omega (arith, h))
there (v ∷ vs) zero h = (v, refl)
there (v ∷ vs) (suc x) h = there vs x (omega (arith, h))

nowhere : (vs : Vars) (x : ℕ) → length vs ≤ x → slice_get vs x ≡ None
nowhere [] x h = refl
nowhere (v ∷ vs) zero h = absurd (omega (arith, h))
nowhere (v ∷ vs) (suc x) h = nowhere vs x (omega (arith, h))

-- a variable that exists
pub carried_there : (vs : Vars) (x : ℕ) (es : List Entered) (c : ClosedRefs) (n : ℕ) (σ τ : Stores) → x < length vs → ((v : Var) → slice_get vs x ≡ Some v → τ ≡ carried v es c n σ) → τ ≡ carried_in vs x es c n σ
carried_there vs x es c n σ τ h f = let v = there vs x h in rw v.1 (f v.0 v.1)

pub carried_nowhere : (vs : Vars) (x : ℕ) (es : List Entered) (c : ClosedRefs) (n : ℕ) (σ : Stores) → length vs ≤ x → σ ≡ carried_in vs x es c n σ
carried_nowhere vs x es c n σ h = rw (nowhere vs x h) refl

zeros : Assignment
zeros = record { inputs = λ k. pos 0; registers = λ k. pos 0; cells = λ k. pos 0 }

pub count_carried : (vs : Vars) (x : ℕ) (es : List Entered) (c : ClosedRefs) (n : ℕ) (σ τ : Stores) → τ ≡ carried_in vs x es c n σ → length τ.registers ≡ length σ.registers
count_carried vs x es c n σ τ e = ap (λ (υ : Stores). length υ.registers) e ∙ length_carried vs zeros x es c n σ

-- the list with a number among lists of which each was mapped
pub mapped_at : {A B : Type 0} (f : A → B) (xs : List (List A)) (k : ℕ) → list_at (map (map f) xs) k ≡ map f (list_at xs k)
mapped_at f [] k = refl
mapped_at f (x ∷ xs) zero = refl
mapped_at f (x ∷ xs) (suc k) = mapped_at f xs k

pub count_there : (vs : Vars) (x : ℕ) (es : List Entered) (c : ClosedRefs) (n : ℕ) (σ τ : Stores) → x < length vs → ((v : Var) → slice_get vs x ≡ Some v → τ ≡ carried v es c n σ) → length τ.registers ≡ length σ.registers
count_there vs x es c n σ τ h f = count_carried vs x es c n σ τ (carried_there vs x es c n σ τ h f)
