-- The variables of a module beside those of the whole into which it is linked: its parameters come first in both.
use Rattle.std.specs.Prelude.{◌≡◌, ℕ, nat_lt, List, [], ◌∷◌, ◌++◌, Some, None, if◌then◌else◌}
use Rattle.quartz_tree.specs.declared.declare.Flow.TheVariants.{Inner}
use Rattle.quartz_tree.specs.declared.declare.Var.{Var}
use Rattle.quartz_expr.specs.Vars.{Vars}
use Rattle.framed_terms.specs.Similar.{Carry}

-- the same parameter, but for its name and whether some `next` targets it
pub record Alike (v w : Var) : Type 0 where
  pub ty : v.decl.ty ≡ w.decl.ty
  pub storage : v.decl.storage ≡ w.decl.storage
  pub flow : v.decl.flow ≡ w.decl.flow
  pub place : v.decl.place ≡ w.decl.place
  pub start : v.start ≡ w.start

abbrev pub AllAlike : List Var → List Var → Type 0
AllAlike [] [] = Unit {0}
AllAlike (v ∷ vs) (w ∷ ws) = Alike v w × AllAlike vs ws
AllAlike _ _ = ⊥

-- all are locals
abbrev pub AllInner : List Var → Type 0
AllInner [] = Unit {0}
AllInner (v ∷ vs) = (v.decl.flow ≡ Inner) × AllInner vs

-- the parameters are visible
abbrev pub front : ℕ → Carry
front n = λ x. if nat_lt x n then Some x else None

-- the module's variables and those of the whole: the same parameters, then locals
pub record Heads (vs ws : Vars) : Type 0 where
  pub params : List Var
  pub firsts : List Var
  pub locals : List Var
  pub others : List Var
  pub left : vs ≡ params ++ locals
  pub right : ws ≡ firsts ++ others
  pub alike : AllAlike params firsts
  pub inner_left : AllInner locals
  pub inner_right : AllInner others
