use Rattle.std.proofs.Common.{ℕ, List, ◌≡◌, ◌∙◌, ◌+◌, ◌*◌, ◌≤◌, length, Some, subst, sym, ap, arith}
use Rattle.std.specs.Prelude.{slice_get}
use Rattle.quartz_tree.specs.declared.declare.Var.{Var}
use Rattle.aif_cells.specs.Aif.{elements_of}
use Rattle.reincarnation.specs.Carrying.{parts_of}
use Rattle.reincarnation.proofs.CarryLemmas.{var_at}
use Rattle.reincarnation.proofs.carrying.carry.Goals as goal

-- what is read in the list of variables is read of the variable
of_list : (vs read : List Var) (k : ℕ) (v : Var) → read ≡ vs → slice_get vs k ≡ Some v → slice_get read k ≡ Some v
of_list vs read k v e f = ap (λ (xs : List Var). slice_get xs k) e ∙ f

pub carry_all-requires-clause-room : goal.carry_all-requires-clause-room
carry_all-requires-clause-room c =
    let v : (v : Var) × (slice_get c.args.aif.now.vars c.args.var ≡ Some v) = var_at c.args.aif.now.vars c.args.var c.requires.var in
    let n : c.elements_in-count.result ≡ elements_of v.0 = c.elements_in-count.ensures v.0 (of_list c.args.aif.now.vars c.as_slice-2.result.now c.args.var v.0 c.as_slice-2.ensures v.1) in
    let p : length c.as_slice-4.result.now ≡ length (parts_of v.0) = ap length (c.as_slice-4.ensures.value ∙ c.in_ok-parts.ensures v.0 (of_list c.args.aif.now.vars c.as_slice-3.result.now c.args.var v.0 c.as_slice-3.ensures v.1)) in
    let e : elements_of v.0 * length (parts_of v.0) ≡ c.elements_in-count.result * length c.as_slice-4.result.now = ap (λ (k : ℕ). k * length (parts_of v.0)) (sym n) ∙ ap (λ (k : ℕ). c.elements_in-count.result * k) (sym p) in
    subst (λ (k : ℕ). c.args.first + k ≤ length c.args.aif.now.registers) e (c.requires.registers v.0 v.1)

pub carry_all-requires-clause-count : goal.carry_all-requires-clause-count
carry_all-requires-clause-count c =
    let v : (v : Var) × (slice_get c.args.aif.now.vars c.args.var ≡ Some v) = var_at c.args.aif.now.vars c.args.var c.requires.var in
    let n : c.elements_in-count.result ≡ elements_of v.0 = c.elements_in-count.ensures v.0 (of_list c.args.aif.now.vars c.as_slice-2.result.now c.args.var v.0 c.as_slice-2.ensures v.1) in
    omega (arith, n, c.requires.elements v.0 v.1)
