-- Registers that are 0 or 1: the start flag, the labels, and the flags of pending values.
use Rattle.std.specs.Prelude.{◌≡◌, ◌⊎◌, ◌≤◌, ◌<◌, ℕ, ◌+◌, true, List, [], ◌∷◌}
use Rattle.quartz_expr.specs.Vars.{Vars, count_of}
use Rattle.quartz_expr.specs.Steps.{outputs_of}
use Rattle.quartz_expr.specs.Terms.{Term, nothing, pause, write, choose, seq, par, loop, abort, suspend, scope, Terms, none, part}
use Rattle.absence_reaction.specs.Closing.{flag_of}
use Rattle.absence_reaction.specs.Meaning.{IsBit}
use Rattle.statement_cells.specs.Labels.{is_delayed, labels, registers, scope_registers, shape_in}
use Rattle.statement_cells.specs.Stands.{Registers}
use Rattle.statement_cells.specs.Whole.{first_label, first_output, first_scope, variable_registers}

-- x is one of the outputs, and its registers begin at v, where those of all of them begin at the first one
abbrev pub IsOutputAt : Vars → (outputs : List ℕ) → (first : ℕ) → (x v : ℕ) → Type 0
IsOutputAt vs [] first x v = ⊥
IsOutputAt vs (y ∷ ys) first x v = ((x ≡ y) × (v ≡ first)) ⊎ IsOutputAt vs ys (first + variable_registers vs y) x v

-- a scope of x is part of the statement, and its registers begin at v, where those of all its scopes begin at the first one
abbrev mutual
  pub IsScopeAt : Vars → (first : ℕ) → Term → (x v : ℕ) → Type 0
  IsScopeAt vs first nothing x v = ⊥
  IsScopeAt vs first pause x v = ⊥
  IsScopeAt vs first (write _ _ _ _ _ _) x v = ⊥
  IsScopeAt vs first (choose _ a b) x v = IsScopeAt vs first a x v ⊎ IsScopeAt vs (first + registers vs a) b x v
  IsScopeAt vs first (seq ts) x v = IsScopeInAt vs first ts x v
  IsScopeAt vs first (par ts) x v = IsScopeInAt vs first ts x v
  IsScopeAt vs first (loop t _) x v = IsScopeAt vs first t x v
  IsScopeAt vs first (abort _ _ t _) x v = IsScopeAt vs first t x v
  IsScopeAt vs first (suspend _ _ t _) x v = IsScopeAt vs first t x v
  IsScopeAt vs first (scope y _ t) x v =
      ((x ≡ y) × (v ≡ first) × (0 < scope_registers vs (labels t) y)) ⊎ IsScopeAt vs (first + scope_registers vs (labels t) y) t x v

  pub IsScopeInAt : Vars → (first : ℕ) → Terms → (x v : ℕ) → Type 0
  IsScopeInAt vs first none x v = ⊥
  IsScopeInAt vs first (part t ts) x v = IsScopeAt vs first t x v ⊎ IsScopeInAt vs (first + registers vs t) ts x v

-- the flags of a delayed variable's elements, whose registers begin there, are 0 or 1
abbrev pub HasBitFlags : Vars → (x v : ℕ) → Registers → Type 0
HasBitFlags vs x v k = (j : ℕ) → j < count_of vs x → is_delayed vs x ≡ true → IsBit (k (flag_of (shape_in vs x) v j))

-- the start flag, the labels of the body, and the flags of outputs and of scopes are 0 or 1
pub record RegistersAreBits (vs : Vars) (body : Term) (k : Registers) : Type 0 where
  pub start : IsBit (k 0)
  pub labels : (l : ℕ) → first_label ≤ l → l < first_output body → IsBit (k l)
  pub outputs : (x v : ℕ) → IsOutputAt vs (outputs_of vs) (first_output body) x v → HasBitFlags vs x v k
  pub scopes : (x v : ℕ) → IsScopeAt vs (first_scope vs body) body x v → HasBitFlags vs x v k
