-- Kernel statements as plain trees.
use Rattle.std.specs.Prelude.{ℕ, Bool, List, [], ◌∷◌, Option, option_map}
use Rattle.quartz_tree.specs.declared.stmt.Stmt.{Stmt}
use Rattle.quartz_tree.specs.declared.stmt.Stmt.TheOpen.{Stmt-F}
use Rattle.quartz_tree.specs.declared.stmt.Stmt.TheFolds.{fold-Stmt}
use Rattle.quartz_tree.specs.declared.place.Place.{Place}
use Rattle.quartz_tree.specs.Tree.{Tree, tree}

-- a kernel statement, and a list of them
mutual
  pub data Kernel : Type 0 where
    nothing : Kernel
    pause : Kernel
    write : (var : ℕ) → (index : Option (Tree ℕ)) → (value : Tree ℕ) → (delayed : Bool) → (place target_place : Place) → Kernel
    choose : Tree ℕ → (a b : Kernel) → Kernel
    seq : Kernels → Kernel
    par : Kernels → Kernel
    loop : Kernel → Tree ℕ → Place → Kernel
    guard : (abort weak immediate : Bool) → Kernel → Tree ℕ → Kernel
    local : (var : ℕ) → Kernel → Kernel

  pub data Kernels : Type 0 where
    none : Kernels
    part : Kernel → Kernels → Kernels

abbrev pub kernels : List Kernel → Kernels
kernels [] = none
kernels (k ∷ ks) = part k (kernels ks)

-- one level, with the plain tree of each part in its place
abbrev pub kernel_step : Stmt-F Kernel → Kernel
kernel_step Stmt-F.Nothing = nothing
kernel_step Stmt-F.Pause = pause
kernel_step (Stmt-F.Write var index value delayed place target_place) = write var (option_map tree index) (tree value) delayed place target_place
kernel_step (Stmt-F.Choose c a b) = choose (tree c) a.value b.value
kernel_step (Stmt-F.Seq parts) = seq (kernels parts.items)
kernel_step (Stmt-F.Par parts) = par (kernels parts.items)
kernel_step (Stmt-F.Loop body c place) = loop body.value (tree c) place
kernel_step (Stmt-F.Guard abort weak immediate body c) = guard abort weak immediate body.value (tree c)
kernel_step (Stmt-F.Local var body) = local var body.value

-- the plain tree of a kernel statement
abbrev pub kernel : Stmt → Kernel
kernel = fold-Stmt Kernel kernel_step
