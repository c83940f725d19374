-- The cells of a whole module as an `Aif`, and when they are too many.
use Rattle.std.specs.Prelude.{◌≡◌, ℕ, ◌+◌, Bool, nat_lt, List, [], length, map}
use Rattle.quartz_expr.specs.Vars.{Vars}
use Rattle.quartz_expr.specs.Terms.{Term}
use Rattle.aif_cells.specs.declared.aif.Aif.{Aif}
use Rattle.aif_cells.specs.declared.cells.Register.{Register}
use Rattle.aif_cells.specs.Aif.{input_count}
use Rattle.aif_cells.specs.Built.{all_defined}
use Rattle.quartz_expr.specs.Steps.{outputs_of}
use Rattle.statement_cells.specs.Labels.{labels, registers}
use Rattle.surface_depth.specs.declared.sizes.Sizes.{Sizes}
use Rattle.statement_cells.specs.Builder.{Builder as Plain, one_ref, zero_ref}
use Rattle.statement_cells.specs.Expressions.{Copies}
use Rattle.statement_cells.specs.Surface.{depth, surface}
use Rattle.statement_builder.specs.declared.counting.Numbers.{Numbers}
use Rattle.aif_cells.specs.declared.reference.Ref.TheVariants as ref
use Rattle.statement_cells.specs.Whole.{Compiled, Ended, beginning, body_built, compiled, ended, first_label, first_output, first_registers, labels_taken, output_cells, output_registers, paths}
use Rattle.statement_builder.specs.declared.builder.Builder.{Builder}
use Rattle.statement_builder.specs.Built.{IsBuilt, IsOver}
use Rattle.surface_depth.specs.declared.beginning.OutputCopy.{OutputCopy}
use Rattle.surface_depth.specs.declared.carrying.ClosedOutput.{ClosedOutput}
use Rattle.surface_depth.specs.Begins.{output_copy}
use Rattle.surface_depth.specs.Carrying.{closed_output}
use Rattle.surface_depth.specs.Ways.{steps_of}

-- what is compiled, as an `Aif` has it
abbrev pub compiled_in : Aif → Compiled
compiled_in a = record {
  outputs = a.outputs;
  paths = map steps_of a.paths;
  made = a.made;
  registers = a.registers;
  cells = all_defined a.cells;
  actions = a.actions;
  monitors = a.monitors;
}

-- the cells, the registers and the elements of inputs together
abbrev pub size_of : Vars → Term → ℕ
size_of vs t = length (compiled vs t).cells + length (compiled vs t).registers + input_count vs

-- there are more than 65,536 of them
abbrev pub is_too_large : Vars → Term → Bool
is_too_large vs t = nat_lt 65536 (size_of vs t)

-- ---- the stages

-- the body is built, and the outputs are reserved
pub record IsBody (vs : Vars) (t : Term) (b : Builder) (os : List OutputCopy) : Type 0 where
  pub outputs : map output_copy os ≡ (beginning vs).outputs
  pub built : IsBuilt (beginning vs).copies [] b (body_built vs t)

-- the outputs are closed
unfoldable pub ended_of : Vars → Term → Ended
ended_of vs t = ended vs (beginning vs).outputs (first_output t) (body_built vs t)

-- the labels' registers are told what they take
unfoldable pub labelled_of : Vars → Term → List Register × Plain
labelled_of vs t = labels_taken first_label (labels t) (first_registers vs t) (ended_of vs t).built

pub record IsLabelled (vs : Vars) (t : Term) (b : Builder) (cs : List ClosedOutput) (rs : List Register) : Type 0 where
  pub closed : map closed_output cs ≡ (ended_of vs t).outputs
  pub registers : rs ≡ (labelled_of vs t).0
  pub built : IsBuilt (beginning vs).copies [] b (labelled_of vs t).1

-- the counts are those of the module
pub record HasSizes (vs : Vars) (t : Term) (s : Sizes) : Type 0 where
  pub inputs : s.inputs ≡ input_count vs
  pub labels_are : s.labels ≡ labels t
  pub outputs : s.outputs ≡ output_registers vs (outputs_of vs)
  pub scopes : s.scopes ≡ registers vs t

-- the module before its registers of outputs and scopes are told what they take
pub record IsAssembled (vs : Vars) (t : Term) (b : Builder) (os : List OutputCopy) (rs : List Register) (a : Aif) : Type 0 where
  pub vars : a.vars ≡ vs
  pub outputs : a.outputs ≡ output_cells (map output_copy os)
  pub paths : map steps_of a.paths ≡ paths [] t
  pub registers : a.registers ≡ rs
  pub made : a.made ≡ b.aif.made
  pub cells : a.cells ≡ b.aif.cells
  pub actions : a.actions ≡ b.aif.actions
  pub monitors : a.monitors ≡ b.aif.monitors

-- the body is built from its labels and registers on
pub record BuildsBody (vs : Vars) (before : Builder) (first : Numbers) (t : Term) (after : Builder) : Type 0 where
  pub over : IsOver vs before → IsOver vs after
  pub built : (κ : Copies) (β : Plain) → IsBuilt κ [] before β
      → IsBuilt κ [] after (depth vs κ first.label first.register t one_ref one_ref zero_ref (surface vs κ first.label first.register t (ref.Reg 0) one_ref β).built).built
