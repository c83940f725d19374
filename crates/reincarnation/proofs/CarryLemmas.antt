-- One more register, and one more element.
use Rattle.std.proofs.Common.{◌≡◌, ◌∙◌, ℕ, zero, suc, ◌+◌, ◌-◌, ◌<◌, ◌≤◌, List, [], ◌∷◌, length, drop, get_or, set, refl, sym, ap, arith}
use Rattle.std.specs.Prelude.{Some, slice_get}
use Rattle.std.proofs.lemmas.List.{drop_more}
use Rattle.quartz_tree.specs.declared.place.Place.{Place}
use Rattle.quartz_tree.specs.declared.declare.Var.{Var}
use Rattle.aif_cells.specs.declared.reference.Ref.{Ref}
use Rattle.aif_cells.specs.declared.cells.Cell.{Cell}
use Rattle.aif_cells.specs.declared.cells.Register.{Register}
use Rattle.aif_cells.specs.Built.{Made, all_defined}
use Rattle.reincarnation.specs.declared.copy.ClosedRefs.{ClosedRefs}
use Rattle.reincarnation.specs.declared.copy.Entered.{Entered}
use Rattle.reincarnation.specs.declared.copy.Part.{Part}
use Rattle.reincarnation.specs.Carrying.{Stores, carried_from, carried_part, carried_parts, stores, taken, with_next}

pub next_is : (xs : List Register) (k : ℕ) (x : Register) (n : Ref) → k < length xs → x ≡ get_or xs k x → set xs k (record { initial = x.initial; next = n }) ≡ with_next xs k n
next_is [] k x n h e = refl
next_is (y ∷ xs) zero x n h e = ap (λ (z : Register). record { initial = z.initial; next = n } ∷ xs) e
next_is (y ∷ xs) (suc k) x n h e = ap (λ (zs : List Register). y ∷ zs) (next_is xs k x n (omega (arith, h)) e)

pub length-with_next : (xs : List Register) (k : ℕ) (n : Ref) → length (with_next xs k n) ≡ length xs
length-with_next [] k n = refl
length-with_next (x ∷ xs) zero n = refl
length-with_next (x ∷ xs) (suc k) n = ap suc (length-with_next xs k n)

pub part_more : (place : Place) (es : List Entered) (depth : ClosedRefs) (j : ℕ) (parts : List Part) (i : ℕ) (p : Part) (r : ℕ) (regs regs' : List Register) (cs cs' : List Cell) (next : Ref) (target : Stores)
    → i < length parts → p ≡ get_or parts i p → record { ref = next; cells = all_defined cs' } ≡ taken place es depth j p (all_defined cs) → regs' ≡ with_next regs r next
    → carried_parts place es depth j (drop i parts) r (stores regs cs) ≡ target
    → carried_parts place es depth j (drop (i + 1) parts) (r + 1) (stores regs' cs') ≡ target
part_more place es depth j parts i p r regs regs' cs cs' next target lt is e f h =
    let refs : next ≡ (taken place es depth j p (all_defined cs)).ref = ap (λ (m : Made). m.ref) e in
    let cells : all_defined cs' ≡ (taken place es depth j p (all_defined cs)).cells = ap (λ (m : Made). m.cells) e in
    let registers : regs' ≡ with_next regs r (taken place es depth j p (all_defined cs)).ref = f ∙ ap (with_next regs r) refs in
    let step : stores regs' cs' ≡ carried_part place es depth j p r (stores regs cs) = λ k. record { registers = registers k; cells = cells k } in
    let front : drop i parts ≡ p ∷ drop (i + 1) parts = drop_more parts i p lt ∙ ap (λ (q : Part). q ∷ drop (i + 1) parts) (sym is) in
    ap (carried_parts place es depth j (drop (i + 1) parts) (r + 1)) step ∙ (sym (ap (λ (ps : List Part). carried_parts place es depth j ps r (stores regs cs)) front) ∙ h)

pub element_more : (place : Place) (es : List Entered) (depth : ClosedRefs) (parts : List Part) (j count r : ℕ) (regs regs' : List Register) (cs cs' : List Cell) (target : Stores)
    → j < count → stores regs' cs' ≡ carried_parts place es depth j parts r (stores regs cs)
    → carried_from place es depth parts j (count - j) r (stores regs cs) ≡ target
    → carried_from place es depth parts (j + 1) (count - (j + 1)) (r + length parts) (stores regs' cs') ≡ target
element_more place es depth parts j count r regs regs' cs cs' target lt e h =
    let n : count - j ≡ suc (count - (j + 1)) = omega (arith, lt) in
    ap (carried_from place es depth parts (j + 1) (count - (j + 1)) (r + length parts)) e ∙ (sym (ap (λ (m : ℕ). carried_from place es depth parts j m r (stores regs cs)) n) ∙ h)

pub elements_end : (place : Place) (es : List Entered) (depth : ClosedRefs) (parts : List Part) (j count r : ℕ) (σ target : Stores) → count ≤ j → carried_from place es depth parts j (count - j) r σ ≡ target → σ ≡ target
elements_end place es depth parts j count r σ target le h = let n : count - j ≡ 0 = omega (arith, le) in sym (ap (λ (m : ℕ). carried_from place es depth parts j m r σ) n) ∙ h

pub var_at : (vs : List Var) (k : ℕ) → k < length vs → (v : Var) × (slice_get vs k ≡ Some v)
var_at [] k h = absurd (omega (arith, h))
var_at (v ∷ vs) zero h = (v, refl)
var_at (v ∷ vs) (suc k) h = var_at vs k (omega (arith, h))
