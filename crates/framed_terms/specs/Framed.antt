-- Terms of modules that call one another. A call stands for the called module's body, and a frame for
-- what is left of it. The variables of each module are numbered for itself.
use Rattle.std.specs.Prelude.{ℕ, Bool, List, [], ◌∷◌, Option, Some, None, map, replicate, slice_get, unwrap_or, option_map}
use Rattle.quartz_tree.specs.declared.declare.Var.{Var}
use Rattle.quartz_tree.specs.declared.place.Place.{Place}
use Rattle.quartz_tree.specs.Surfaces.{Word}
use Rattle.quartz_tree.specs.Tree.{Tree}
use Rattle.quartz_expr.specs.declared.act.Act.{Act}
use Rattle.quartz_expr.specs.Values.{Values, elements_in}
use Rattle.quartz_expr.specs.Vars.{Vars}
use Rattle.quartz_expr.specs.Terms.{Store}
use Rattle.quartz_expr.specs.Tick.{advanced}

-- a term, and a list of terms
mutual
  pub data Framed : Type 0 where
    nothing : Framed
    pause : Framed
    write : (var : ℕ) → (index : Option (Tree ℕ)) → (value : Tree ℕ) → (delayed : Bool) → (place target_place : Place) → Framed
    choose : Tree ℕ → (a b : Framed) → Framed
    seq : FramedList → Framed
    par : FramedList → Framed
    loop : Framed → Tree ℕ → Framed
    abort : (weak immediate : Bool) → Framed → Tree ℕ → Framed
    suspend : (weak immediate : Bool) → Framed → Tree ℕ → Framed
    scope : (var : ℕ) → Option Store → Framed → Framed
    call : (name : Word) → (args : List ℕ) → Framed
    frame : (name : Word) → (args : List ℕ) → Framed → Framed

  pub data FramedList : Type 0 where
    none : FramedList
    part : Framed → FramedList → FramedList

-- a module: its variables, parameters first, and the term of its body
pub record Meaning : Type 0 where
  pub vars : Vars
  pub body : Framed

-- what each name of a module means
abbrev pub Meanings : Type 0
Meanings = Word → Meaning

-- the environment of a called module: a parameter has the value of its argument, and a local stands at
-- its start values, which nothing reads outside the local's scope
abbrev pub inside : Vars → (args : List ℕ) → Values → Values
inside [] args env = []
inside (v ∷ vs) [] env = replicate (unwrap_or v.decl.ty.len 1) v.start ∷ inside vs [] env
inside (v ∷ vs) (a ∷ args) env = elements_in env a ∷ inside vs args env

-- a write to a parameter as one to its argument
abbrev pub passed_act : (args : List ℕ) → Act → Act
passed_act args a = record a { var = unwrap_or (slice_get args a.var) 0 }

abbrev pub passed : (args : List ℕ) → List Act → List Act
passed args ws = map (passed_act args) ws

-- each store has the values that it has with no writes, with nothing pending; a scope without a store
-- gets none, and a frame's scopes are those of its module
module _ (us : Meanings) where
  abbrev mutual
    pub tick : Vars → Framed → Framed
    tick vs nothing = nothing
    tick vs pause = pause
    tick vs (write x i e delayed p q) = write x i e delayed p q
    tick vs (choose c a b) = choose c (tick vs a) (tick vs b)
    tick vs (seq ts) = seq (tick_all vs ts)
    tick vs (par ts) = par (tick_all vs ts)
    tick vs (loop t c) = loop (tick vs t) c
    tick vs (abort weak immediate t c) = abort weak immediate (tick vs t) c
    tick vs (suspend weak immediate t c) = suspend weak immediate (tick vs t) c
    tick vs (scope x s t) = scope x (option_map (advanced vs x) s) (tick vs t)
    tick vs (call m args) = call m args
    tick vs (frame m args t) = frame m args (tick (us m).vars t)

    pub tick_all : Vars → FramedList → FramedList
    tick_all vs none = none
    tick_all vs (part t ts) = part (tick vs t) (tick_all vs ts)
