-- The derived forms of statements, replaced by kernel forms.
use Rattle.std.specs.Prelude.{Bool, true, false, []}
use Rattle.quartz_tree.specs.declared.expr.Unary.TheVariants.{Not}
use Rattle.quartz_tree.specs.declared.place.Place.{Place}
use Rattle.quartz_tree.specs.Tree.{Tree, truth, one, place_of}
use Rattle.quartz_tree.specs.Surfaces.{Word, Written, empty, pause, halt, await, emit, write, block, choose, choose_one, loop, always, while, do_while, guard, call, Branch, done, then, Branches, none, beside}

-- `true`
abbrev pub true_at : Place → Tree Word
true_at p = truth true p

-- `!c`, at the place of c
abbrev pub negated : Tree Word → Tree Word
negated c = one Not c (place_of c)

-- `do s while(true)`
abbrev pub forever : Written → Place → Written
forever s p = do_while s (true_at p) p

-- `if(c) do s while(c)`
abbrev pub while_of : Tree Word → Written → Place → Written
while_of c s p = choose_one c (do_while s c p)

-- `do pause while(!c)`, and `while(!c) pause` where it is immediate
abbrev pub await_of : (immediate : Bool) → Tree Word → Place → Written
await_of false c p = do_while pause (negated c) p
await_of true c p = while_of (negated c) pause p

-- `{ s pause; }`
abbrev pub then_pause : Written → Written
then_pause s = block [] (beside (then s (then pause done)) none)

-- the statement with its derived forms replaced; every part that is made for a derived form has
-- that statement's place, but the `!` of an await, which has its condition's
abbrev mutual
  pub expanded : Written → Written
  expanded empty = empty
  expanded pause = pause
  expanded (halt p) = forever pause p
  expanded (await immediate c p) = await_of immediate c p
  expanded (emit delayed g p) = write delayed g (true_at p) p
  expanded (write delayed g e p) = write delayed g e p
  expanded (block ds bs) = block ds (expanded_branches bs)
  expanded (choose c a b) = choose c (expanded a) (expanded b)
  expanded (choose_one c a) = choose_one c (expanded a)
  expanded (loop s p) = forever (expanded s) p
  expanded (always s p) = forever (then_pause (expanded s)) p
  expanded (while c s p) = while_of c (expanded s) p
  expanded (do_while s c p) = do_while (expanded s) c p
  expanded (guard abort weak immediate s c) = guard abort weak immediate (expanded s) c
  expanded (call m args p) = call m args p

  pub expanded_branch : Branch → Branch
  expanded_branch done = done
  expanded_branch (then s rest) = then (expanded s) (expanded_branch rest)

  pub expanded_branches : Branches → Branches
  expanded_branches none = none
  expanded_branches (beside b rest) = beside (expanded_branch b) (expanded_branches rest)
