-- What registers of scopes take, from the copies by the number of their first register.
use Rattle.std.specs.Prelude.{◌≡◌, ℕ, zero, suc, ◌+◌, List, [], ◌∷◌, map}
use Rattle.quartz_expr.specs.Vars.{Vars}
use Rattle.quartz_expr.specs.Terms.{Term, nothing, pause, write, choose, seq, par, loop, abort, suspend, scope, Terms, none, part}
use Rattle.aif_cells.specs.declared.aif.Aif.{Aif}
use Rattle.reincarnation.specs.declared.copy.Entered.{Entered}
use Rattle.reincarnation.specs.Carrying.{Stores}
use Rattle.statement_cells.specs.Labels.{labels, registers, scope_registers}
use Rattle.statement_cells.specs.Builder.{DepthCopy}
use Rattle.statement_cells.specs.Whole.{ClosedOutput as PlainOutput, carried_in}
use Rattle.statement_builder.specs.Built.{depth_copy}
use Rattle.surface_depth.specs.declared.carrying.ClosedOutput.{ClosedOutput}
use Rattle.surface_depth.specs.declared.carrying.ScopeCopies.{ScopeCopies}
use Rattle.surface_depth.specs.Lists.{list_at}

abbrev pub closed_output : ClosedOutput → PlainOutput
closed_output o = record { var = o.var; first = o.first; closed = o.closed }

-- registers and cells change alone
abbrev pub ChangesStores : (before after : Aif) → Type 0
ChangesStores a b = b ≡ record a { registers = b.registers; cells = b.cells }

abbrev pub depths_from : Vars → (entered : List (List Entered)) → List DepthCopy → Stores → Stores
depths_from vs es [] σ = σ
depths_from vs es (d ∷ ds) σ = depths_from vs es ds (carried_in vs d.var (list_at es d.first) d.closed d.first σ)

-- a scope with registers
abbrev pub scope_from : Vars → (entered : List (List Entered)) → (depths : List (List DepthCopy)) → (registers first : ℕ) → Stores → Stores
scope_from vs es ds zero v σ = σ
scope_from vs es ds (suc _) v σ = depths_from vs es (list_at ds v) σ

-- scopes with registers in textual order
abbrev mutual
  pub scopes_from : Vars → (entered : List (List Entered)) → (depths : List (List DepthCopy)) → (first : ℕ) → Term → Stores → Stores
  scopes_from vs es ds v nothing σ = σ
  scopes_from vs es ds v pause σ = σ
  scopes_from vs es ds v (write _ _ _ _ _ _) σ = σ
  scopes_from vs es ds v (choose _ a b) σ = scopes_from vs es ds (v + registers vs a) b (scopes_from vs es ds v a σ)
  scopes_from vs es ds v (seq ts) σ = all_from vs es ds v ts σ
  scopes_from vs es ds v (par ts) σ = all_from vs es ds v ts σ
  scopes_from vs es ds v (loop t _) σ = scopes_from vs es ds v t σ
  scopes_from vs es ds v (abort _ _ t _) σ = scopes_from vs es ds v t σ
  scopes_from vs es ds v (suspend _ _ t _) σ = scopes_from vs es ds v t σ
  scopes_from vs es ds v (scope x _ t) σ =
      let n = scope_registers vs (labels t) x in
      scopes_from vs es ds (v + n) t (scope_from vs es ds n v σ)

  pub all_from : Vars → (entered : List (List Entered)) → (depths : List (List DepthCopy)) → (first : ℕ) → Terms → Stores → Stores
  all_from vs es ds v none σ = σ
  all_from vs es ds v (part t ts) σ = all_from vs es ds (v + registers vs t) ts (scopes_from vs es ds v t σ)

-- the copies by number that code has
abbrev pub scopes_of : ScopeCopies → Vars → (first : ℕ) → Term → Stores → Stores
scopes_of c vs v t σ = scopes_from vs c.entered.items (map (map depth_copy) c.depths.items) v t σ

abbrev pub all_of : ScopeCopies → Vars → (first : ℕ) → Terms → Stores → Stores
all_of c vs v ts σ = all_from vs c.entered.items (map (map depth_copy) c.depths.items) v ts σ
