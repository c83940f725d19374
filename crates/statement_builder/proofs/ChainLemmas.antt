-- Scopes around a statement, one in another.
use Rattle.std.proofs.Common.{◌≡◌, ◌∙◌, ℕ, zero, suc, ◌+◌, ◌≢◌, refl, sym, ap, arith, false}
use Rattle.quartz_tree.specs.Kernel.{Kernel, nothing, pause, write, choose, seq, par, loop, guard, local}
use Rattle.quartz_expr.specs.Vars.{Vars}
use Rattle.quartz_expr.specs.Terms.{term_of}
use Rattle.quartz_names.specs.Unscoped.{unscoped}
use Rattle.statement_cells.specs.Labels.{labels, registers, scope_registers}
use Rattle.statement_cells.specs.Whole.{variable_registers}
use Rattle.statement_builder.specs.Chains.{chain_registers, is_scope}

pub labels_unscoped : (k : Kernel) → labels (term_of (unscoped k)) ≡ labels (term_of k)
labels_unscoped nothing = refl
labels_unscoped pause = refl
labels_unscoped (write x i e d p q) = refl
labels_unscoped (choose c a b) = refl
labels_unscoped (seq ks) = refl
labels_unscoped (par ks) = refl
labels_unscoped (loop k c p) = refl
labels_unscoped (guard a w i k c) = refl
labels_unscoped (local x k) = labels_unscoped k

pub scope_registers_some : (vs : Vars) (n x : ℕ) → n ≢ 0 → scope_registers vs n x ≡ variable_registers vs x
scope_registers_some vs zero x h = absurd (h refl)
scope_registers_some vs (suc n) x h = refl

plus_zero : (n : ℕ) → n ≡ 0 + n
plus_zero n = omega arith

pub registers_without_labels : (vs : Vars) (k : Kernel) → labels (term_of k) ≡ 0 → registers vs (term_of (unscoped k)) ≡ registers vs (term_of k)
registers_without_labels vs nothing h = refl
registers_without_labels vs pause h = refl
registers_without_labels vs (write x i e d p q) h = refl
registers_without_labels vs (choose c a b) h = refl
registers_without_labels vs (seq ks) h = refl
registers_without_labels vs (par ks) h = refl
registers_without_labels vs (loop k c p) h = refl
registers_without_labels vs (guard a w i k c) h = refl
registers_without_labels vs (local x k) h =
    registers_without_labels vs k h ∙ (plus_zero (registers vs (term_of k)) ∙ ap (λ (n : ℕ). scope_registers vs n x + registers vs (term_of k)) (sym h))

plus_three : (a b c d r : ℕ) → b + c ≡ r → d ≡ a → a + b + c ≡ d + r
plus_three a b c d r e f = omega arith

pub registers_with_labels : (vs : Vars) (k : Kernel) → labels (term_of k) ≢ 0 → chain_registers vs k + registers vs (term_of (unscoped k)) ≡ registers vs (term_of k)
registers_with_labels vs nothing h = sym (plus_zero 0)
registers_with_labels vs pause h = sym (plus_zero 0)
registers_with_labels vs (write x i e d p q) h = sym (plus_zero 0)
registers_with_labels vs (choose c a b) h = sym (plus_zero (registers vs (term_of (choose c a b))))
registers_with_labels vs (seq ks) h = sym (plus_zero (registers vs (term_of (seq ks))))
registers_with_labels vs (par ks) h = sym (plus_zero (registers vs (term_of (par ks))))
registers_with_labels vs (loop k c p) h = sym (plus_zero (registers vs (term_of (loop k c p))))
registers_with_labels vs (guard a w i k c) h = sym (plus_zero (registers vs (term_of (guard a w i k c))))
registers_with_labels vs (local x k) h =
    plus_three (variable_registers vs x) (chain_registers vs k) (registers vs (term_of (unscoped k))) (scope_registers vs (labels (term_of k)) x) (registers vs (term_of k))
    (registers_with_labels vs k h) (scope_registers_some vs (labels (term_of k)) x h)

pub no_scope_inside : (k : Kernel) → is_scope (unscoped k) ≡ false
no_scope_inside nothing = refl
no_scope_inside pause = refl
no_scope_inside (write x i e d p q) = refl
no_scope_inside (choose c a b) = refl
no_scope_inside (seq ks) = refl
no_scope_inside (par ks) = refl
no_scope_inside (loop k c p) = refl
no_scope_inside (guard a w i k c) = refl
no_scope_inside (local x k) = no_scope_inside k

-- ---- the counts of a statement from those of the statement inside the scopes

pub labels_from_inside : (k j : Kernel) (n : ℕ) → j ≡ unscoped k → n ≡ labels (term_of j) → n ≡ labels (term_of k)
labels_from_inside k j n e h = h ∙ (ap (λ (i : Kernel). labels (term_of i)) e ∙ labels_unscoped k)

pub registers_from_inside : (vs : Vars) (k j : Kernel) (l n : ℕ) → j ≡ unscoped k → l ≡ labels (term_of j) → l ≡ 0 → n ≡ registers vs (term_of j) → n ≡ registers vs (term_of k)
registers_from_inside vs k j l n e f z h = h ∙ (ap (λ (i : Kernel). registers vs (term_of i)) e ∙ registers_without_labels vs k (sym (labels_from_inside k j l e f) ∙ z))

pub registers_around : (vs : Vars) (k j : Kernel) (l n m r : ℕ) → j ≡ unscoped k → l ≡ labels (term_of j) → l ≢ 0 → n ≡ registers vs (term_of j) → m ≡ chain_registers vs k → r ≡ m + n → r ≡ registers vs (term_of k)
registers_around vs k j l n m r e f z h g i =
    i ∙ (ap (λ (a : ℕ). a + n) g ∙ (ap (λ (a : ℕ). chain_registers vs k + a) (h ∙ ap (λ (o : Kernel). registers vs (term_of o)) e) ∙ registers_with_labels vs k (λ w. z (labels_from_inside k j l e f ∙ w))))
