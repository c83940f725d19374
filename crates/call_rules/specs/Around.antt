-- What each name is declared as, where a statement stands.
use Rattle.std.specs.Prelude.{List, [], ◌∷◌, Option, Some, None, if◌then◌else◌}
use Rattle.std.specs.Str.{bytes_eq}
use Rattle.quartz_tree.specs.declared.declare.Decl.{Decl}
use Rattle.quartz_tree.specs.Surfaces.{Word}

abbrev pub Declared : Type 0
Declared = Word → Option Decl

abbrev pub nothing_declared : Declared
nothing_declared _ = None

-- where one declaration hides what stood before
abbrev pub hidden_by : Declared → Decl → Declared
hidden_by sc d = λ y. if bytes_eq d.name y then Some d else sc y

-- behind the declarations of a list, which hide what stood before; the first of two with one name counts
abbrev pub declaring : Declared → List Decl → Declared
declaring sc [] = sc
declaring sc (d ∷ ds) = hidden_by (declaring sc ds) d
