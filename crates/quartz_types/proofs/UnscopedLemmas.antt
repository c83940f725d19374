-- The rules say of a statement what they say of it without the scopes around it.
use Rattle.std.proofs.Common.{◌≡◌, refl}
use Rattle.quartz_tree.specs.Kernel.{Kernel, nothing, pause, write, choose, seq, par, loop, guard, local}
use Rattle.quartz_expr.specs.Terms.{is_instant, term_of}
use Rattle.quartz_expr.specs.Vars.{Vars}
use Rattle.quartz_names.specs.Unscoped.{unscoped}
use Rattle.quartz_types.specs.Rules.{input_writes, instant_loops, stmt_bound_breaks, stmt_kind_breaks}

pub inputs_unscoped : (vs : Vars) (k : Kernel) → input_writes vs (unscoped k) ≡ input_writes vs k
inputs_unscoped vs nothing = refl
inputs_unscoped vs pause = refl
inputs_unscoped vs (write x i e d p q) = refl
inputs_unscoped vs (choose c a b) = refl
inputs_unscoped vs (seq ks) = refl
inputs_unscoped vs (par ks) = refl
inputs_unscoped vs (loop k c p) = refl
inputs_unscoped vs (guard a w i k c) = refl
inputs_unscoped vs (local x k) = inputs_unscoped vs k

pub bounds_unscoped : (vs : Vars) (k : Kernel) → stmt_bound_breaks vs (unscoped k) ≡ stmt_bound_breaks vs k
bounds_unscoped vs nothing = refl
bounds_unscoped vs pause = refl
bounds_unscoped vs (write x i e d p q) = refl
bounds_unscoped vs (choose c a b) = refl
bounds_unscoped vs (seq ks) = refl
bounds_unscoped vs (par ks) = refl
bounds_unscoped vs (loop k c p) = refl
bounds_unscoped vs (guard a w i k c) = refl
bounds_unscoped vs (local x k) = bounds_unscoped vs k

pub kinds_unscoped : (vs : Vars) (k : Kernel) → stmt_kind_breaks vs (unscoped k) ≡ stmt_kind_breaks vs k
kinds_unscoped vs nothing = refl
kinds_unscoped vs pause = refl
kinds_unscoped vs (write x i e d p q) = refl
kinds_unscoped vs (choose c a b) = refl
kinds_unscoped vs (seq ks) = refl
kinds_unscoped vs (par ks) = refl
kinds_unscoped vs (loop k c p) = refl
kinds_unscoped vs (guard a w i k c) = refl
kinds_unscoped vs (local x k) = kinds_unscoped vs k

pub loops_unscoped : (k : Kernel) → instant_loops (unscoped k) ≡ instant_loops k
loops_unscoped nothing = refl
loops_unscoped pause = refl
loops_unscoped (write x i e d p q) = refl
loops_unscoped (choose c a b) = refl
loops_unscoped (seq ks) = refl
loops_unscoped (par ks) = refl
loops_unscoped (loop k c p) = refl
loops_unscoped (guard a w i k c) = refl
loops_unscoped (local x k) = loops_unscoped k

pub instant_unscoped : (k : Kernel) → is_instant (term_of (unscoped k)) ≡ is_instant (term_of k)
instant_unscoped nothing = refl
instant_unscoped pause = refl
instant_unscoped (write x i e d p q) = refl
instant_unscoped (choose c a b) = refl
instant_unscoped (seq ks) = refl
instant_unscoped (par ks) = refl
instant_unscoped (loop k c p) = refl
instant_unscoped (guard a w i k c) = refl
instant_unscoped (local x k) = instant_unscoped k
