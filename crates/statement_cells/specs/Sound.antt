-- Statements that can be compiled: their expressions are typed, their variables exist, no loop's body may be instant, and no
-- scope has a store.
use Rattle.std.specs.Prelude.{◌≡◌, ℕ, ◌<◌, true, false, length, Option, Some, None}
use Rattle.quartz_tree.specs.Tree.{Tree as Expr}
use Rattle.quartz_expr.specs.Vars.{Vars, count_of, start_of}
use Rattle.quartz_expr.specs.Intervals.{Lies, range_of}
use Rattle.quartz_expr.specs.Typed.{IsTyped}
use Rattle.statement_cells.specs.Labels.{is_delayed}
use Rattle.quartz_expr.specs.Terms.{Store, Term, nothing, pause, write, choose, seq, par, loop, abort, suspend, scope, Terms, none, part, is_instant}

-- a write has a typed index, or its target has one element
abbrev pub IsTypedIndex : Vars → (var : ℕ) → Option (Expr ℕ) → Type 0
IsTypedIndex vs x None = count_of vs x ≡ 1
IsTypedIndex vs x (Some i) = IsTyped vs i

abbrev pub HasNoStore : Option Store → Type 0
HasNoStore None = Unit {0}
HasNoStore (Some s) = ⊥

abbrev mutual
  pub IsSound : Vars → Term → Type 0
  IsSound vs nothing = Unit {0}
  IsSound vs pause = Unit {0}
  IsSound vs (write x i e d _ _) = (x < length vs) × IsTypedIndex vs x i × IsTyped vs e × (d ≡ true → is_delayed vs x ≡ true)
  IsSound vs (choose c a b) = IsTyped vs c × IsSound vs a × IsSound vs b
  IsSound vs (seq ts) = AreSound vs ts
  IsSound vs (par ts) = AreSound vs ts
  IsSound vs (loop t c) = (is_instant t ≡ false) × IsTyped vs c × IsSound vs t
  IsSound vs (abort _ _ t c) = IsTyped vs c × IsSound vs t
  IsSound vs (suspend _ _ t c) = IsTyped vs c × IsSound vs t
  IsSound vs (scope x s t) = (x < length vs) × HasNoStore s × Lies (range_of vs x) (start_of vs x) × IsSound vs t

  pub AreSound : Vars → Terms → Type 0
  AreSound vs none = Unit {0}
  AreSound vs (part t ts) = IsSound vs t × AreSound vs ts
