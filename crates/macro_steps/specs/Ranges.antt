-- Registers that lie in the ranges of their variables.
use Rattle.std.specs.Prelude.{◌≡◌, ℕ, ◌+◌, ◌<◌, true, List, [], ◌∷◌}
use Rattle.quartz_expr.specs.Vars.{Vars, count_of, storage_of}
use Rattle.quartz_expr.specs.Intervals.{Lies, range_of}
use Rattle.quartz_expr.specs.Steps.{outputs_of}
use Rattle.quartz_expr.specs.Terms.{Term, nothing, pause, write, choose, seq, par, loop, abort, suspend, scope, Terms, none, part}
use Rattle.absence_reaction.specs.Closing.{register_of, pending_of}
use Rattle.quartz_tree.specs.Storage.{is_memorized}
use Rattle.statement_cells.specs.Labels.{is_delayed, labels, registers, scope_registers, shape_in}
use Rattle.statement_cells.specs.Stands.{Registers}
use Rattle.statement_cells.specs.Whole.{first_output, first_scope, variable_registers}

-- the registers of a variable, which begin there, hold kept and pending values in its range
abbrev pub LieIn : Vars → (var first : ℕ) → Registers → Type 0
LieIn vs x v k = (j : ℕ) → j < count_of vs x
    → (is_memorized (storage_of vs x) ≡ true → Lies (range_of vs x) (k (register_of (shape_in vs x) v j)))
    × (is_delayed vs x ≡ true → Lies (range_of vs x) (k (pending_of (shape_in vs x) v j)))

-- those of outputs, one after another
abbrev pub OutputsLie : Vars → List ℕ → (first : ℕ) → Registers → Type 0
OutputsLie vs [] v k = Unit {0}
OutputsLie vs (x ∷ xs) v k = LieIn vs x v k × OutputsLie vs xs (v + variable_registers vs x) k

-- those of a statement's scopes, whether they are entered or not
abbrev mutual
  pub ScopesLie : Vars → (first : ℕ) → Term → Registers → Type 0
  ScopesLie vs v nothing k = Unit {0}
  ScopesLie vs v pause k = Unit {0}
  ScopesLie vs v (write _ _ _ _ _ _) k = Unit {0}
  ScopesLie vs v (choose _ a b) k = ScopesLie vs v a k × ScopesLie vs (v + registers vs a) b k
  ScopesLie vs v (seq ts) k = AllScopesLie vs v ts k
  ScopesLie vs v (par ts) k = AllScopesLie vs v ts k
  ScopesLie vs v (loop t _) k = ScopesLie vs v t k
  ScopesLie vs v (abort _ _ t _) k = ScopesLie vs v t k
  ScopesLie vs v (suspend _ _ t _) k = ScopesLie vs v t k
  ScopesLie vs v (scope x _ t) k = (0 < scope_registers vs (labels t) x → LieIn vs x v k) × ScopesLie vs (v + scope_registers vs (labels t) x) t k

  pub AllScopesLie : Vars → (first : ℕ) → Terms → Registers → Type 0
  AllScopesLie vs v none k = Unit {0}
  AllScopesLie vs v (part t ts) k = ScopesLie vs v t k × AllScopesLie vs (v + registers vs t) ts k

-- the registers of a module's outputs and scopes hold values in their ranges
pub record RegistersLie (vs : Vars) (body : Term) (k : Registers) : Type 0 where
  pub outputs : OutputsLie vs (outputs_of vs) (first_output body) k
  pub scopes : ScopesLie vs (first_scope vs body) body k
