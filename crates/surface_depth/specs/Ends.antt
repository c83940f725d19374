-- How outputs' copies are closed.
use Rattle.std.specs.Prelude.{◌≡◌, ℕ, ◌+◌, Bool, true, false, ◌&&◌, nat_lt, List, [], ◌∷◌, map, slice_get}
use Rattle.quartz_expr.specs.Vars.{Vars}
use Rattle.absence_reaction.specs.declared.copy.VarCopy.{VarCopy}
use Rattle.statement_cells.specs.Expressions.{Copies}
use Rattle.statement_cells.specs.Builder.{Builder as Plain}
use Rattle.statement_cells.specs.Whole.{OutputCopy as PlainOutput, closed_output as plain_closed, ended, variable_registers}
use Rattle.statement_builder.specs.declared.builder.Builder.{Builder}
use Rattle.statement_builder.specs.Built.{IsBuilt, IsOver, open_writes}
use Rattle.surface_depth.specs.declared.beginning.OutputCopy.{OutputCopy}
use Rattle.surface_depth.specs.declared.carrying.ClosedOutput.{ClosedOutput}
use Rattle.surface_depth.specs.Begins.{output_copy}
use Rattle.surface_depth.specs.Carrying.{closed_output}

abbrev pub are_below : (bound : ℕ) → List ℕ → Bool
are_below n [] = true
are_below n (k ∷ ks) = nat_lt k n && are_below n ks

-- the copy with store of an output, with what the builder knows of the writes to it
abbrev pub open_copy : Builder → OutputCopy → (first : ℕ) → VarCopy
open_copy b o v = record {
  var = o.var;
  copy = 0;
  stored = true;
  first = v;
  values = o.cells;
  now = open_writes false (slice_get b.variables.items o.var);
  next = open_writes true (slice_get b.variables.items o.var);
}

-- an output's copy is closed
pub record Ends (vs : Vars) (before : Builder) (o : OutputCopy) (first : ℕ) (c : ClosedOutput) (after : Builder) : Type 0 where
  pub over : IsOver vs before → IsOver vs after
  pub ended : (κ : Copies) (β : Plain) → IsBuilt κ [] before β
      → (closed_output c ∷ [] ≡ (plain_closed vs (output_copy o) first β).outputs) × IsBuilt κ [] after (plain_closed vs (output_copy o) first β).built

-- the registers of these outputs
abbrev pub count_of_outputs : Vars → List PlainOutput → ℕ
count_of_outputs vs [] = 0
count_of_outputs vs (o ∷ os) = variable_registers vs o.var + count_of_outputs vs os

-- the copies of these outputs are closed
pub record EndsAll (vs : Vars) (before : Builder) (os : List OutputCopy) (first : ℕ) (cs : List ClosedOutput) (after : Builder) : Type 0 where
  pub over : IsOver vs before → IsOver vs after
  pub ended : (κ : Copies) (β : Plain) → IsBuilt κ [] before β
      → (map closed_output cs ≡ (ended vs (map output_copy os) first β).outputs) × IsBuilt κ [] after (ended vs (map output_copy os) first β).built
