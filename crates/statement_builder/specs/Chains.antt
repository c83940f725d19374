-- The scopes around a statement, one in another.
use Rattle.std.specs.Prelude.{ℕ, ◌+◌, Bool, true, false}
use Rattle.quartz_tree.specs.Kernel.{Kernel, nothing, pause, write, choose, seq, par, loop, guard, local}
use Rattle.quartz_expr.specs.Vars.{Vars}
use Rattle.statement_cells.specs.Whole.{variable_registers}

-- the statement is a scope
abbrev pub is_scope : Kernel → Bool
is_scope nothing = false
is_scope pause = false
is_scope (write x i e d p q) = false
is_scope (choose c a b) = false
is_scope (seq ks) = false
is_scope (par ks) = false
is_scope (loop k c p) = false
is_scope (guard a w i k c) = false
is_scope (local x k) = true

-- the registers of the variables of the scopes around a statement
abbrev pub chain_registers : Vars → Kernel → ℕ
chain_registers vs nothing = 0
chain_registers vs pause = 0
chain_registers vs (write x i e d p q) = 0
chain_registers vs (choose c a b) = 0
chain_registers vs (seq ks) = 0
chain_registers vs (par ks) = 0
chain_registers vs (loop k c p) = 0
chain_registers vs (guard a w i k c) = 0
chain_registers vs (local x k) = variable_registers vs x + chain_registers vs k
