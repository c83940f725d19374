-- The whole of cells, registers, actions and monitors.
use Rattle.std.specs.Prelude.{ℕ, ◌+◌, pos, Bool, true, false, List, [], ◌∷◌, if◌then◌else◌, unwrap_or}
use Rattle.quartz_tree.specs.declared.declare.Var.{Var}
use Rattle.quartz_tree.specs.declared.declare.Flow.{Flow}
use Rattle.quartz_tree.specs.declared.declare.Flow.TheVariants.{Input, Output, Inner}
use Rattle.aif_cells.specs.declared.reference.Ref.TheVariants as ref
use Rattle.aif_cells.specs.declared.cells.Register.{Register}
use Rattle.aif_cells.specs.declared.aif.Aif.{Aif}

-- how many elements a variable has
abbrev pub elements_of : Var → ℕ
elements_of v = unwrap_or v.decl.ty.len 1

abbrev pub is_input : Flow → Bool
is_input Input = true
is_input Output = false
is_input Inner = false

abbrev pub is_output : Flow → Bool
is_output Input = false
is_output Output = true
is_output Inner = false

abbrev pub is_local : Flow → Bool
is_local Input = false
is_local Output = false
is_local Inner = true

-- how many elements of inputs, and of outputs, a variable adds
abbrev pub input_elements : Var → ℕ
input_elements v = if is_input v.decl.flow then elements_of v else 0

abbrev pub output_elements : Var → ℕ
output_elements v = if is_output v.decl.flow then elements_of v else 0

-- the number of the inputs' elements, and of the outputs'
abbrev pub input_count : List Var → ℕ
input_count [] = 0
input_count (v ∷ vs) = input_elements v + input_count vs

abbrev pub output_count : List Var → ℕ
output_count [] = 0
output_count (v ∷ vs) = output_elements v + output_count vs

-- the start flag: 1 in the first step, and 0 from then on
abbrev pub start_flag : Register
start_flag = record { initial = pos 1; next = ref.Lit (pos 0) }

-- no cells and no copies, and register 0 alone
abbrev pub empty_aif : List ℕ → List Var → Aif
empty_aif name vs = record {
  name = name;
  vars = vs;
  inputs = input_count vs;
  outputs = [];
  paths = [];
  made = [];
  registers = start_flag ∷ [];
  cells = [];
  actions = [];
  monitors = [];
}
