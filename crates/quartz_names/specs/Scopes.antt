-- What names stand for.
use Rattle.std.specs.Prelude.{ℕ, ◌+◌, List, [], ◌∷◌, Option, Some, None, unwrap_or, if◌then◌else◌}
use Rattle.std.specs.Str.{bytes_eq}
use Rattle.quartz_tree.specs.declared.declare.Decl.{Decl}
use Rattle.quartz_tree.specs.Surfaces.{Word}

-- a scope: the number of the variable for which each name stands, if it stands for one
abbrev pub Scope : Type 0
Scope = Word → Option ℕ

-- no name stands for a variable
abbrev pub no_names : Scope
no_names _ = None

-- the scope in which one name stands for this instead
abbrev pub standing : Scope → Word → Option ℕ → Scope
standing sc x n = λ y. if bytes_eq x y then n else sc y

-- the scope behind the declarations of a parameter list or of a block's head: their variables are
-- numbered from n on, and hide what their names stood for before
abbrev pub declared : Scope → ℕ → List Decl → Scope
declared sc n [] = sc
declared sc n (d ∷ ds) = declared (standing sc d.name (Some n)) (n + 1) ds

-- the number for which a name stands; 0 for a name that stands for none, which breaks the rule of names
abbrev pub number_in : Scope → Word → ℕ
number_in sc x = unwrap_or (sc x) 0
