-- The elements of a module's inputs and outputs, in declared order.
use Rattle.std.specs.Prelude.{ℕ, ◌+◌, Bool, true, false, ◌&&◌, not, List, [], ◌∷◌, ◌++◌, replicate, unwrap_or, Option, Some, None, if◌then◌else◌}
use Rattle.std.specs.Str.{bytes_eq}
use Rattle.std.specs.List.{list_any}
use Rattle.quartz_tree.specs.declared.declare.Base.{Base}
use Rattle.quartz_tree.specs.declared.declare.Flow.{Flow}
use Rattle.quartz_tree.specs.declared.declare.Flow.TheVariants.{Input, Output, Inner}
use Rattle.quartz_tree.specs.declared.declare.Var.{Var}
use Rattle.quartz_expr.specs.Vars.{Vars}
use Rattle.trace_io.specs.declared.field.Field.{Field}

abbrev pub same_flow : Flow → Flow → Bool
same_flow Input Input = true
same_flow Output Output = true
same_flow Inner Inner = true
same_flow _ _ = false

-- how many elements a variable has: one, if it is a scalar
abbrev pub count_in : Var → ℕ
count_in v = unwrap_or v.decl.ty.len 1

-- the scalar type of each element of a variable
abbrev pub scalars : Var → List Base
scalars v = replicate (count_in v) v.decl.ty.base

-- the scalar types of the elements of the variables with that flow
abbrev pub types_with : Flow → Vars → List Base
types_with f [] = []
types_with f (v ∷ vs) = if same_flow f v.decl.flow then scalars v ++ types_with f vs else types_with f vs

-- those of the inputs' elements, and of the outputs'
abbrev pub input_types : Vars → List Base
input_types = types_with Input

abbrev pub output_types : Vars → List Base
output_types = types_with Output

-- elements of these types, the first of which has that place among all
abbrev pub fields_from : ℕ → List Base → List Field
fields_from n [] = []
fields_from n (b ∷ bs) = record { place = n; base = b } ∷ fields_from (n + 1) bs

-- the elements of the first input with that name, where the elements of the variables are counted from n; none where no input has it
abbrev pub fields_named : ℕ → Vars → (name : List ℕ) → Option (List Field)
fields_named n [] name = None
fields_named n (v ∷ vs) name =
    if same_flow Input v.decl.flow
    then (if bytes_eq v.decl.name name then Some (fields_from n (scalars v)) else fields_named (n + count_in v) vs name)
    else fields_named n vs name

-- no two of the words are the same
abbrev pub are_different : List (List ℕ) → Bool
are_different [] = true
are_different (w ∷ ws) = not (list_any (bytes_eq w) ws) && are_different ws

-- some elements, and then those that follow
abbrev pub and_then_fields : Option (List Field) → Option (List Field) → Option (List Field)
and_then_fields (Some fs) (Some gs) = Some (fs ++ gs)
and_then_fields _ _ = None

-- the elements of the inputs with these names, one after another; none where a name is no input's
abbrev pub all_named : Vars → (names : List (List ℕ)) → Option (List Field)
all_named vs [] = Some []
all_named vs (name ∷ names) = and_then_fields (fields_named 0 vs name) (all_named vs names)
