-- Statements whose conditions are truth values.
use Rattle.std.specs.Prelude.{◌≡◌, ℕ, Some}
use Rattle.quartz_tree.specs.Tree.{Tree as Expr}
use Rattle.quartz_expr.specs.Vars.{Vars}
use Rattle.quartz_expr.specs.declared.kind.ExprKind.TheVariants.{Boolean as boolean}
use Rattle.quartz_expr.specs.Kinds.{kind}
use Rattle.quartz_expr.specs.Terms.{Term, nothing, pause, write, choose, seq, par, loop, abort, suspend, scope, Terms, none, part}

abbrev pub IsCondition : Vars → Expr ℕ → Type 0
IsCondition vs c = kind vs c ≡ Some boolean

-- each condition of the statement is a truth value
abbrev mutual
  pub HasConditions : Vars → Term → Type 0
  HasConditions vs nothing = Unit {0}
  HasConditions vs pause = Unit {0}
  HasConditions vs (write _ _ _ _ _ _) = Unit {0}
  HasConditions vs (choose c a b) = IsCondition vs c × HasConditions vs a × HasConditions vs b
  HasConditions vs (seq ts) = HaveConditions vs ts
  HasConditions vs (par ts) = HaveConditions vs ts
  HasConditions vs (loop t c) = IsCondition vs c × HasConditions vs t
  HasConditions vs (abort _ _ t c) = IsCondition vs c × HasConditions vs t
  HasConditions vs (suspend _ _ t c) = IsCondition vs c × HasConditions vs t
  HasConditions vs (scope _ _ t) = HasConditions vs t

  pub HaveConditions : Vars → Terms → Type 0
  HaveConditions vs none = Unit {0}
  HaveConditions vs (part t ts) = HasConditions vs t × HaveConditions vs ts
