-- The variables of a program, which stand beside its environments.
use Rattle.std.specs.Prelude.{ℕ, ℤ, pos, Bool, List, Option, Some, None, is_some, unwrap_or, slice_get}
use Rattle.quartz_tree.specs.declared.place.Place.{Place}
use Rattle.quartz_tree.specs.declared.declare.Var.{Var}
use Rattle.quartz_tree.specs.declared.declare.Base.{Base}
use Rattle.quartz_tree.specs.declared.declare.Base.TheVariants.{Bool as bool_type}
use Rattle.quartz_tree.specs.declared.declare.Storage.{Storage}
use Rattle.quartz_tree.specs.declared.declare.Storage.TheVariants.{Mem}

-- the variables by number
abbrev pub Vars : Type 0
Vars = List Var

-- what is read of a variable, or a default where there is no such variable
abbrev pub read : {A : Type 0} → A → (Var → A) → Option Var → A
read d f None = d
read d f (Some v) = f v

-- the scalar type of a variable's elements
abbrev pub base_of : Vars → ℕ → Base
base_of vs x = read bool_type (λ v. v.decl.ty.base) (slice_get vs x)

-- the length of an array, or nothing for a scalar
abbrev pub length_of : Vars → ℕ → Option ℕ
length_of vs x = read None (λ v. v.decl.ty.len) (slice_get vs x)

abbrev pub is_array : Vars → ℕ → Bool
is_array vs x = is_some (length_of vs x)

-- how many elements a variable has: one, if it is a scalar
abbrev pub count_of : Vars → ℕ → ℕ
count_of vs x = unwrap_or (length_of vs x) 1

abbrev pub storage_of : Vars → ℕ → Storage
storage_of vs x = read Mem (λ v. v.decl.storage) (slice_get vs x)

-- the start value of each of its elements
abbrev pub start_of : Vars → ℕ → ℤ
start_of vs x = read (pos 0) (λ v. v.start) (slice_get vs x)

-- the place of its name in the declaration
abbrev pub declared_at : Vars → ℕ → Place
declared_at vs x = read (record { line = 0; col = 0 }) (λ v. v.decl.place) (slice_get vs x)
