-- The guard under which a part of an expression is evaluated, as a tree.
use Rattle.std.specs.Prelude.{Bool, true, false, ◌&&◌}
use Rattle.quartz_tree.specs.Tree.{tree as plain}
use Rattle.quartz_expr.specs.Vars.{Vars}
use Rattle.aif_cells.specs.declared.tree.TreeOne.TheVariants.{Not}
use Rattle.aif_cells.specs.declared.tree.TreeTwo.TheVariants.{And}
use Rattle.aif_cells.specs.Tree.{Tree, value, one, two}
use Rattle.statement_cells.specs.Expressions.{Copies, tree_of}
use Rattle.expression_cells.specs.declared.guard.Guard.{Guard, Given, Side'}
use Rattle.expression_cells.specs.Literals.{fits}

-- a condition that holds, or one that doesn't
abbrev pub side : Bool → Tree → Tree
side true t = t
side false t = one Not t

-- the first guard, and the conditions of the choices inside it
abbrev pub guard_in : Vars → Copies → Guard → Tree
guard_in vs κ (Given r) = value r
guard_in vs κ (Side' _ outer cond holds) = two And (guard_in vs κ outer) (side holds (tree_of vs κ (plain cond.now)))

-- the numbers of its conditions fit those of trees
abbrev pub fits_guard : Guard → Bool
fits_guard (Given r) = true
fits_guard (Side' _ outer cond holds) = fits_guard outer && fits (plain cond.now)
