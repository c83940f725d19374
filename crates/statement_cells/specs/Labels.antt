-- The labels of a statement, and the registers of its scopes.
use Rattle.std.specs.Prelude.{ℕ, zero, suc, ◌+◌, ◌*◌, Bool, true, false, slice_get}
use Rattle.quartz_expr.specs.Vars.{Vars, read, count_of, storage_of, start_of, declared_at}
use Rattle.quartz_expr.specs.Terms.{Term, nothing, pause, write, choose, seq, par, loop, abort, suspend, scope, Terms, none, part}
use Rattle.absence_reaction.specs.declared.copy.Shape.{Shape}
use Rattle.absence_reaction.specs.Closing.{registers_each}

-- some `next` targets the variable
abbrev pub is_delayed : Vars → ℕ → Bool
is_delayed vs x = read false (λ v. v.delayed) (slice_get vs x)

-- what closing asks of a variable
abbrev pub shape_in : Vars → ℕ → Shape
shape_in vs x = record { storage = storage_of vs x; delayed = is_delayed vs x; start = start_of vs x; place = declared_at vs x }

-- one label for each pause, and one for the wait of each immediate suspension, which is before those of its body
abbrev mutual
  pub labels : Term → ℕ
  labels nothing = 0
  labels pause = 1
  labels (write _ _ _ _ _ _) = 0
  labels (choose _ a b) = labels a + labels b
  labels (seq ts) = labels_all ts
  labels (par ts) = labels_all ts
  labels (loop t _) = labels t
  labels (abort _ _ t _) = labels t
  labels (suspend _ true t _) = suc (labels t)
  labels (suspend _ false t _) = labels t
  labels (scope _ _ t) = labels t

  pub labels_all : Terms → ℕ
  labels_all none = 0
  labels_all (part t ts) = labels t + labels_all ts

-- the registers of a scope's variable, if its body has a label
abbrev pub scope_registers : Vars → (labels : ℕ) → (var : ℕ) → ℕ
scope_registers vs zero x = 0
scope_registers vs (suc _) x = count_of vs x * registers_each (shape_in vs x)

-- the registers of a statement's scopes, those of an outer scope before those of an inner one
abbrev mutual
  pub registers : Vars → Term → ℕ
  registers vs nothing = 0
  registers vs pause = 0
  registers vs (write _ _ _ _ _ _) = 0
  registers vs (choose _ a b) = registers vs a + registers vs b
  registers vs (seq ts) = registers_all vs ts
  registers vs (par ts) = registers_all vs ts
  registers vs (loop t _) = registers vs t
  registers vs (abort _ _ t _) = registers vs t
  registers vs (suspend _ _ t _) = registers vs t
  registers vs (scope x _ t) = scope_registers vs (labels t) x + registers vs t

  pub registers_all : Vars → Terms → ℕ
  registers_all vs none = 0
  registers_all vs (part t ts) = registers vs t + registers_all vs ts
