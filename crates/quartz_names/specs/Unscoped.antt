-- A statement inside the scopes around it.
use Rattle.std.specs.Prelude.{◌≤◌}
use Rattle.quartz_tree.specs.declared.stmt.Stmt.{Stmt, size-Stmt}
use Rattle.quartz_tree.specs.Kernel.{Kernel, nothing, pause, write, choose, seq, par, loop, guard, local}

-- the statement inside all scopes that stand around it, one in another
abbrev pub unscoped : Kernel → Kernel
unscoped nothing = nothing
unscoped pause = pause
unscoped (write x i e d p q) = write x i e d p q
unscoped (choose c a b) = choose c a b
unscoped (seq ks) = seq ks
unscoped (par ks) = par ks
unscoped (loop k c p) = loop k c p
unscoped (guard a w i k c) = guard a w i k c
unscoped (local x k) = unscoped k

-- the first statement is nested no deeper than the second
abbrev pub IsNoDeeper : Stmt → Stmt → Type 0
IsNoDeeper s t = size-Stmt s ≤ size-Stmt t
