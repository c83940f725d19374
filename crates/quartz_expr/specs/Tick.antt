-- A term whose variables advance while it does nothing.
use Rattle.std.specs.Prelude.{ℕ, map, option_map}
use Rattle.quartz_expr.specs.Vars.{Vars, storage_of}
use Rattle.quartz_expr.specs.Terms.{Store, Term, nothing, pause, write, choose, seq, par, loop, abort, suspend, scope, Terms, none, part}
use Rattle.quartz_expr.specs.Resolve.{absent}

-- each element of a store after a macro step with no writes
abbrev pub advanced : Vars → (var : ℕ) → Store → Store
advanced vs x s = map (absent (storage_of vs x)) s

-- each store has the values that it has with no writes, with nothing pending; a scope without a store gets none
abbrev mutual
  pub tick : Vars → Term → Term
  tick vs nothing = nothing
  tick vs pause = pause
  tick vs (write x i e delayed p q) = write x i e delayed p q
  tick vs (choose c a b) = choose c (tick vs a) (tick vs b)
  tick vs (seq ts) = seq (tick_all vs ts)
  tick vs (par ts) = par (tick_all vs ts)
  tick vs (loop t c) = loop (tick vs t) c
  tick vs (abort weak immediate t c) = abort weak immediate (tick vs t) c
  tick vs (suspend weak immediate t c) = suspend weak immediate (tick vs t) c
  tick vs (scope x s t) = scope x (option_map (advanced vs x) s) (tick vs t)

  pub tick_all : Vars → Terms → Terms
  tick_all vs none = none
  tick_all vs (part t ts) = part (tick vs t) (tick_all vs ts)
