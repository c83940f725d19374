-- Derived forms of statements: those that stand for other ones.
use Rattle.std.specs.Prelude.{Bool, true, false, ◌||◌}
use Rattle.quartz_tree.specs.Surfaces.{Written, empty, pause, halt, await, emit, write, block, choose, choose_one, loop, always, while, do_while, guard, call, Branch, done, then, Branches, none, beside}

-- a derived form stands in the statement
abbrev mutual
  pub has_derived : Written → Bool
  has_derived empty = false
  has_derived pause = false
  has_derived (halt _) = true
  has_derived (await _ _ _) = true
  has_derived (emit _ _ _) = true
  has_derived (write _ _ _ _) = false
  has_derived (block _ bs) = branches_have_derived bs
  has_derived (choose _ a b) = has_derived a || has_derived b
  has_derived (choose_one _ a) = has_derived a
  has_derived (loop _ _) = true
  has_derived (always _ _) = true
  has_derived (while _ _ _) = true
  has_derived (do_while s _ _) = has_derived s
  has_derived (guard _ _ _ s _) = has_derived s
  has_derived (call _ _ _) = false

  pub branch_has_derived : Branch → Bool
  branch_has_derived done = false
  branch_has_derived (then s rest) = has_derived s || branch_has_derived rest

  pub branches_have_derived : Branches → Bool
  branches_have_derived none = false
  branches_have_derived (beside b rest) = branch_has_derived b || branches_have_derived rest
