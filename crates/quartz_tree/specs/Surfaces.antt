-- Statements and modules as written, as plain trees with no pointers.
use Rattle.std.specs.Prelude.{ℕ, Bool, List, [], ◌∷◌, Option, Some, None, map, option_map}
use Rattle.quartz_tree.specs.declared.surface.Surface.{Surface}
use Rattle.quartz_tree.specs.declared.surface.Surface.TheOpen.{Surface-F}
use Rattle.quartz_tree.specs.declared.surface.Surface.TheFolds.{fold-Surface}
use Rattle.quartz_tree.specs.declared.surface.Target.{Target}
use Rattle.quartz_tree.specs.declared.surface.Arg.{Arg}
use Rattle.quartz_tree.specs.declared.surface.Module.{Module}
use Rattle.quartz_tree.specs.declared.declare.Decl.{Decl}
use Rattle.quartz_tree.specs.declared.place.Place.{Place}
use Rattle.quartz_tree.specs.Tree.{Tree, tree}

-- the bytes of a name
abbrev pub Word : Type 0
Word = List ℕ

-- the left side of a write
pub record Goal : Type 0 where
  pub name : Word
  pub index : Option (Tree Word)
  pub place : Place

abbrev pub goal_of : Target → Goal
goal_of t = record { name = t.name; index = option_map tree t.index; place = t.place }

-- a statement as written, the statements of a branch in order, and the branches of a block in order
mutual
  pub data Written : Type 0 where
    empty : Written
    pause : Written
    halt : Place → Written
    await : (immediate : Bool) → Tree Word → Place → Written
    emit : (delayed : Bool) → Goal → Place → Written
    write : (delayed : Bool) → Goal → Tree Word → Place → Written
    block : List Decl → Branches → Written
    choose : Tree Word → (a b : Written) → Written
    choose_one : Tree Word → Written → Written
    loop : Written → Place → Written
    always : Written → Place → Written
    while : Tree Word → Written → Place → Written
    do_while : Written → Tree Word → Place → Written
    guard : (abort weak immediate : Bool) → Written → Tree Word → Written
    call : Word → List Arg → Place → Written

  pub data Branch : Type 0 where
    done : Branch
    then : Written → Branch → Branch

  pub data Branches : Type 0 where
    none : Branches
    beside : Branch → Branches → Branches

abbrev pub branch : List Written → Branch
branch [] = done
branch (s ∷ rest) = then s (branch rest)

abbrev pub branches_of : List Branch → Branches
branches_of [] = none
branches_of (b ∷ rest) = beside b (branches_of rest)

-- an `if`, with its `else` where it has one
abbrev pub if_of : Tree Word → Written → Option Written → Written
if_of c a None = choose_one c a
if_of c a (Some b) = choose c a b

-- one level, with the plain tree of each statement in its place
abbrev pub written_step : Surface-F Written → Written
written_step Surface-F.Empty = empty
written_step Surface-F.Pause = pause
written_step (Surface-F.Halt place) = halt place
written_step (Surface-F.Await immediate c place) = await immediate (tree c) place
written_step (Surface-F.Emit delayed target place) = emit delayed (goal_of target) place
written_step (Surface-F.Write delayed target value place) = write delayed (goal_of target) (tree value) place
written_step (Surface-F.Block decls branches) = block decls.items (branches_of (map (λ b. branch b.items) branches.items))
written_step (Surface-F.If c a b) = if_of (tree c) a.value (option_map (λ w. w.value) b)
written_step (Surface-F.Loop body place) = loop body.value place
written_step (Surface-F.Always body place) = always body.value place
written_step (Surface-F.While c body place) = while (tree c) body.value place
written_step (Surface-F.Do body c place) = do_while body.value (tree c) place
written_step (Surface-F.Guard abort weak immediate body c) = guard abort weak immediate body.value (tree c)
written_step (Surface-F.Call name args place) = call name args.items place

-- the plain tree of a statement
abbrev pub written : Surface → Written
written = fold-Surface Written written_step

-- a module as written
pub record ModuleTree : Type 0 where
  pub name : Word
  pub params : List Decl
  pub body : Written

-- the plain tree of a module
abbrev pub module_tree : Module → ModuleTree
module_tree m = record { name = m.name; params = m.params.items; body = written m.body }
