-- Registers begin as bits.
use Rattle.std.proofs.Common.{◌≡◌, inl, inr, ℕ, zero, suc, ◌+◌, ◌*◌, ◌≤◌, ◌<◌, ◌==◌, ℤ, pos, Bool, true, false, List, [], ◌∷◌, ◌++◌, length, refl, sym, ap, ◌∙◌, subst, arith}
use Rattle.std.specs.Prelude.{replicate}
use Rattle.std.proofs.lemmas.Bool.Decides.{nat_tests}
use Rattle.quartz_tree.specs.declared.declare.Storage.{Storage}
use Rattle.quartz_tree.specs.declared.declare.Storage.TheVariants.{Mem, Event}
use Rattle.quartz_tree.specs.Storage.{is_memorized}
use Rattle.quartz_expr.specs.Vars.{Vars, count_of}
use Rattle.quartz_expr.specs.Terms.{Term}
use Rattle.quartz_expr.specs.Steps.{outputs_of}
use Rattle.aif_cells.specs.declared.cells.Register.{Register}
use Rattle.aif_cells.specs.Worth.{Assignment}
use Rattle.absence_reaction.specs.declared.copy.Shape.{Shape}
use Rattle.absence_reaction.specs.Closing.{flag_of, one_if, register_of as register_at, registers_each}
use Rattle.absence_reaction.specs.Meaning.{IsBit}
use Rattle.statement_cells.specs.Labels.{is_delayed, labels, registers, shape_in}
use Rattle.statement_cells.specs.Stands.{Registers}
use Rattle.statement_cells.specs.Whole.{compiled, element_registers, first_label, first_output, first_registers, first_scope, outputs_registers, register_of, repeated, variable_registers}
use Rattle.statement_cells.specs.Meaning.{initial_registers}
use Rattle.statement_cells.proofs.ScopeGrowLemmas.{length_replicate}
use Rattle.statement_cells.proofs.ScopeHoldLemmas.{inside}
use Rattle.statement_cells.proofs.StartLemmas.{InitialFrom, compiled_starts, from_first, from_second, initial_from, length_repeated, same_starts}
use Rattle.macro_steps.proofs.SoundLemmas.{scopes_start_zero}
use Rattle.step_laws.specs.Bits.{HasBitFlags, IsOutputAt}
use Rattle.step_laws.specs.Laws.{InitialRegistersAreBits}
use Rattle.step_laws.proofs.NextLemmas.{placed}

module _ (k : Registers) where
  -- so many registers that begin with 0
  zeros : (n v i : ℕ) → InitialFrom k v (replicate n (register_of (pos 0))) → v ≤ i → i < v + n → k i ≡ pos 0
  zeros zero v i h g l = absurd (omega (arith, g, l))
  zeros (suc n) v i h g l = by (v == i) refl (λ m. zeros n (v + 1) i h.1 m (omega (arith, l)))
    where
      same : (v == i) ≡ true → v ≡ i
      same e = grind (arith, nat_tests, e)

      behind : (v == i) ≡ false → v + 1 ≤ i
      behind e = grind (arith, nat_tests, e, g)

      by : (b : Bool) → (v == i) ≡ b → (v + 1 ≤ i → k i ≡ pos 0) → k i ≡ pos 0
      by true e f = ap k (sym (same e)) ∙ h.0
      by false e f = f (behind e)

  -- the flag of an element
  element_flag : (st : Storage) (d : Bool) (z : ℤ) (r f : ℕ) → f ≡ r + one_if (is_memorized st)
      → InitialFrom k r (replicate (one_if (is_memorized st)) (register_of z) ++ replicate (one_if d + one_if d) (register_of (pos 0))) → d ≡ true → k f ≡ pos 0
  element_flag Mem true z r f e h g = ap k e ∙ h.1.0
  element_flag Event true z r f e h g = let same : f ≡ r = omega (arith, e) in ap k same ∙ h.0
  element_flag st false z r f e h g = absurd (cc)

  length_element : (s : Shape) → length (element_registers s) ≡ registers_each s
  length_element s = let e : 1 * registers_each s ≡ registers_each s = omega arith in one (element_registers s) ∙ length_repeated k s 1 ∙ e
    where
      one : (rs : List Register) → length rs ≡ length (rs ++ [])
      one [] = refl
      one (x ∷ rs) = ap suc (one rs)

  variable_flag : (vs : Vars) (x v j n i : ℕ) → i < n → InitialFrom k (register_at (shape_in vs x) v j) (repeated n (element_registers (shape_in vs x))) → is_delayed vs x ≡ true → k (flag_of (shape_in vs x) v (j + i)) ≡ pos 0
  variable_flag vs x v j zero i less h d = absurd (omega (arith, less))
  variable_flag vs x v j (suc n) zero less h d =
      let s : Shape = shape_in vs x in
      let e : j ≡ j + zero = omega arith in
      subst (λ q. k (flag_of s v q) ≡ pos 0) e
      (element_flag s.storage s.delayed s.start (register_at s v j) (flag_of s v j) refl (from_first k (element_registers s) (repeated n (element_registers s)) (register_at s v j) h) d)
  variable_flag vs x v j (suc n) (suc i) less h d =
      let s : Shape = shape_in vs x in
      let e : (j + 1) + i ≡ j + suc i = omega arith in
      let f : register_at s v j + registers_each s ≡ register_at s v (j + 1) = omega arith in
      subst (λ q. k (flag_of s v q) ≡ pos 0) e
      (variable_flag vs x v (j + 1) n i (omega (arith, less))
      (subst (λ q. InitialFrom k q (repeated n (element_registers s))) (ap (λ m. register_at s v j + m) (length_element s) ∙ f) (from_second k (element_registers s) (repeated n (element_registers s)) (register_at s v j) h)) d)

  output_flags : (vs : Vars) (xs : List ℕ) (v : ℕ) → InitialFrom k v (outputs_registers vs xs) → (x a : ℕ) → IsOutputAt vs xs v x a → HasBitFlags vs x a k
  output_flags vs [] v h x a at = absurd at
  output_flags vs (y ∷ ys) v h x a (inl at) =
      let s : Shape = shape_in vs y in
      let rs : List Register = repeated (count_of vs y) (element_registers s) in
      let own : InitialFrom k v rs = from_first k rs (outputs_registers vs ys) v h in
      let e : v ≡ register_at s v 0 = omega arith in
      subst (λ z. HasBitFlags vs z a k) (sym at.0) (subst (λ u. HasBitFlags vs y u k) (sym at.1)
      (λ j l d.
      let f : 0 + j ≡ j = omega arith in
      inl (subst (λ q. k (flag_of s v q) ≡ pos 0) f (variable_flag vs y v 0 (count_of vs y) j l (subst (λ q. InitialFrom k q rs) e own) d))))
  output_flags vs (y ∷ ys) v h x a (inr at) =
      let s : Shape = shape_in vs y in
      let rs : List Register = repeated (count_of vs y) (element_registers s) in
      output_flags vs ys (v + variable_registers vs y) (subst (λ q. InitialFrom k (v + q) (outputs_registers vs ys)) (length_repeated k s (count_of vs y)) (from_second k rs (outputs_registers vs ys) v h)) x a at

pub initial_bits : InitialRegistersAreBits
initial_bits vs t =
    let nought : (r : ℕ) → 0 + r ≡ r = λ r. omega arith in
    let k : Registers = initial_registers (compiled vs t).registers in
    let same : (r : ℕ) → k r ≡ initial_registers (first_registers vs t) r = λ r. same_starts (compiled vs t).registers (first_registers vs t) (compiled_starts vs t) r in
    let all : InitialFrom k 0 (first_registers vs t) = initial_from k (first_registers vs t) 0 (λ r. ap k (nought r) ∙ same r) in
    let ls : List Register = replicate (labels t) (register_of (pos 0)) in
    let more : List Register = outputs_registers vs (outputs_of vs) ++ replicate (registers vs t) (register_of (pos 0)) in
    let os = from_second k ls more 1 all.1 in
    let outs = from_first k (outputs_registers vs (outputs_of vs)) (replicate (registers vs t) (register_of (pos 0))) (1 + length ls) os in
    let σ : Assignment = record { inputs = λ i. pos 0; registers = k; cells = λ i. pos 0 } in
    record {
      start = inr all.0;
      labels = λ l g h. inl (zeros k (labels t) 1 l (from_first k ls more 1 all.1) g (omega (arith, h)));
      outputs = output_flags k vs (outputs_of vs) (first_output t) (subst (λ q. InitialFrom k (1 + q) (outputs_registers vs (outputs_of vs))) (length_replicate (labels t) (register_of (pos 0))) outs);
      scopes = λ x v at j l d.
          let i = (inside vs σ t (first_scope vs t) x v (placed vs t (first_scope vs t) x v at)).from in
          let r : ℕ = flag_of (shape_in vs x) v j in
          inl (same r ∙ scopes_start_zero vs t r (omega (arith, i)));
    }
