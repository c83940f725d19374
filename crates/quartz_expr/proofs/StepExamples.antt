-- Reactions and macro steps of worked examples, derived by the rules.
use Rattle.std.proofs.Common.{◌≡◌, refl}
use Rattle.std.specs.Prelude.{ℕ, ℤ, pos, true, false, List, [], ◌∷◌, Option, Some, None}
use Rattle.quartz_tree.specs.declared.place.Place.{Place}
use Rattle.quartz_tree.specs.declared.fault.Kind.TheVariants.{Conflict}
use Rattle.quartz_tree.specs.declared.declare.Var.{Var}
use Rattle.quartz_tree.specs.declared.declare.Base.{Base}
use Rattle.quartz_tree.specs.declared.declare.Base.TheVariants as base
use Rattle.quartz_tree.specs.declared.declare.Flow.{Flow}
use Rattle.quartz_tree.specs.declared.declare.Flow.TheVariants.{Output, Inner}
use Rattle.quartz_tree.specs.declared.declare.Storage.{Storage}
use Rattle.quartz_tree.specs.declared.declare.Storage.TheVariants.{Mem, Event}
use Rattle.quartz_tree.specs.declared.expr.Binary.TheVariants.{Add, Rem}
use Rattle.quartz_tree.specs.Tree.{Tree, truth, number, named, two}
use Rattle.quartz_tree.specs.Kernel.{Kernel}
use Rattle.quartz_tree.specs.Kernel as kernel
use Rattle.quartz_expr.specs.Values.{Values}
use Rattle.quartz_expr.specs.Vars.{Vars}
use Rattle.quartz_expr.specs.Terms.{Store, Term, nothing, pause, write, choose, seq, loop, abort, suspend, scope, none, part}
use Rattle.quartz_expr.specs.React.{React, Reaction, of_nothing, of_pause, of_write, of_yes, of_turn, of_stop, of_par, of_nobody, of_beside, of_loop, of_delayed_abort, of_strong_abort, of_weak_abort, of_weak_suspend, of_scope}
use Rattle.quartz_expr.specs.Runs.{Runs, of_end, of_step, of_fault}

abbrev at : ℕ → Place
at n = record { line = 1; col = n }

abbrev var : Base → Storage → Flow → ℤ → Var
var b s f z = record {
  decl = record { name = []; ty = record { base = b; len = None }; storage = s; flow = f; place = at 90; base_place = at 91; len_place = at 92; init = None };
  delayed = true;
  start = z;
}

abbrev yes : Tree ℕ
yes = truth true (at 1)

-- ---- nat{4} !n, loop { next(n) = (n + 1) % 4; pause; }

abbrev counter : Vars
counter = var (base.Nat 4) Mem Output (pos 0) ∷ []

abbrev more : Tree ℕ
more = two Rem (two Add (named 0 (at 3)) (number 1 (at 3)) (at 3)) (number 4 (at 3)) (at 3)

abbrev body : Kernel
body = kernel.loop (kernel.seq (kernel.part (kernel.write 0 None more true (at 2) (at 2)) (kernel.part kernel.pause kernel.none))) yes (at 1)

abbrev count : Term
count = write 0 None more true (at 2) (at 2)

abbrev rounds : Term
rounds = loop (seq (part count (part pause none))) yes

-- one round of the loop: the write, and then the pause
abbrev round : (env : Values) → (r : Reaction) × React counter env rounds r
round env = (_, of_loop env (seq (part count (part pause none))) yes _ (of_stop env _ _ _ (of_turn env count (part pause none) _ _ (of_write env 0 None more true (at 2) (at 2)) refl (of_stop env pause none _ (of_pause env) refl)) refl))

-- what is left after a round, and how it goes on
abbrev later : Term
later = seq (part nothing (part (choose yes rounds nothing) none))

abbrev again : (env : Values) → (r : Reaction) × React counter env later r
again env = (_, of_turn env nothing _ _ _ (of_nothing env) refl (of_stop env (choose yes rounds nothing) none _ (of_yes env yes rounds nothing _ refl ((round env).1)) refl))

abbrev one_kept : ℤ → Option ℤ → List Store
one_kept z p = (record { value = z; pending = p } ∷ []) ∷ []

-- three empty lines give 0, 1 and 2
counter_run : Runs counter body ([] ∷ [] ∷ [] ∷ []) (((pos 0 ∷ []) ∷ []) ∷ ((pos 1 ∷ []) ∷ []) ∷ ((pos 2 ∷ []) ∷ []) ∷ []) None
counter_run =
    of_step _ _ _ (record { term = later; stores = one_kept (pos 0) (Some (pos 1)) }) _ _ _ (record { reaction = (round ((pos 0 ∷ []) ∷ [])).0; reacts = record { walked = (round _).1; resolved = tt }; resolved = refl; goes = refl; fails = refl })
    (of_step _ _ _ (record { term = later; stores = one_kept (pos 1) (Some (pos 2)) }) _ _ _ (record { reaction = (again ((pos 1 ∷ []) ∷ [])).0; reacts = record { walked = (again _).1; resolved = tt }; resolved = refl; goes = refl; fails = refl })
    (of_step _ _ _ (record { term = later; stores = one_kept (pos 2) (Some (pos 3)) }) _ _ _ (record { reaction = (again ((pos 2 ∷ []) ∷ [])).0; reacts = record { walked = (again _).1; resolved = tt }; resolved = refl; goes = refl; fails = refl })
    (of_end _)))

-- ---- bool !x, next(x) = true; || next(x) = false;

abbrev twice : Vars
twice = var base.Bool Mem Output (pos 0) ∷ []

abbrev differ_later : Kernel
differ_later = kernel.par (kernel.part (kernel.write 0 None yes true (at 2) (at 2)) (kernel.part (kernel.write 0 None (truth false (at 4)) true (at 3) (at 3)) kernel.none))

-- an empty line gives a conflict at the variable's place, and no output
conflict_run : Runs twice differ_later ([] ∷ []) [] (Some (record { place = at 90; kind = Conflict }))
conflict_run =
    of_fault _ _ ((pos 0 ∷ []) ∷ []) (record { term = nothing; stores = one_kept (pos 0) (Some (pos 1)) }) (record { place = at 90; kind = Conflict } ∷ []) _ _
    (record { reaction = _; reacts = record { walked = of_par _ _ _ (of_beside _ _ _ _ _ (of_write _ 0 None yes true (at 2) (at 2)) (of_beside _ _ _ _ _ (of_write _ 0 None (truth false (at 4)) true (at 3) (at 3)) (of_nobody _))); resolved = tt }; resolved = refl; goes = refl; fails = refl }) refl

-- ---- the eight guards around a body that writes and then pauses, where the condition is true

abbrev events : Vars
events = var base.Bool Event Output (pos 0) ∷ var base.Bool Mem Inner (pos 0) ∷ []

abbrev still : Values
still = (pos 1 ∷ []) ∷ (pos 0 ∷ []) ∷ []

abbrev mark : Term
mark = write 0 None yes false (at 5) (at 5)

abbrev task : Term
task = seq (part mark (part pause (part mark none)))

-- the body writes, and is left with its last part
abbrev task_reacts : (r : Reaction) × React events still task r
task_reacts = (_, of_turn still mark _ _ _ (of_write still 0 None yes false (at 5) (at 5)) refl (of_stop still pause _ _ (of_pause still) refl))

task_left : task_reacts.0.residual ≡ seq (part nothing (part mark none))
task_left = refl

-- the delayed forms don't test the condition
abbrev delayed_abort : (r : Reaction) × React events still (abort true false task yes) r
delayed_abort = (_, of_delayed_abort still true task yes _ task_reacts.1)

delayed_left : delayed_abort.0.residual ≡ abort true true (seq (part nothing (part mark none))) yes
delayed_left = refl

-- strong abort ends without the write, weak abort after it
abbrev strong_abort : (r : Reaction) × React events still (abort false true task yes) r
strong_abort = (_, of_strong_abort still task yes refl)

strong_acts : strong_abort.0.acts ≡ []
strong_acts = refl

abbrev weak_abort : (r : Reaction) × React events still (abort true true task yes) r
weak_abort = (_, of_weak_abort still task yes _ refl task_reacts.1)

weak_acts : weak_abort.0.acts ≡ record { var = 0; element = 0; value = pos 1; delayed = false } ∷ []
weak_acts = refl

weak_ended : weak_abort.0.ended ≡ true
weak_ended = refl

-- weak suspension acts, and control stays where it was
abbrev weak_suspend : (r : Reaction) × React events still (suspend true true task yes) r
weak_suspend = (_, of_weak_suspend still task yes _ refl task_reacts.1)

weak_stays : weak_suspend.0.residual ≡ suspend true true task yes
weak_stays = refl

-- a scope of a memorized variable that is written now and in the next step, with a pending value
abbrev inner : Term
inner = seq (part (write 1 None yes true (at 6) (at 6)) (part pause none))

abbrev old : Store
old = record { value = pos 0; pending = Some (pos 0) } ∷ []

abbrev inner_reacts : (r : Reaction) × React events still inner r
inner_reacts = (_, of_turn still _ _ _ _ (of_write still 1 None yes true (at 6) (at 6)) refl (of_stop still pause none _ (of_pause still) refl))

abbrev stored_scope : (r : Reaction) × React events still (scope 1 (Some old) inner) r
stored_scope = (_, of_scope still 1 (Some old) inner (pos 0 ∷ []) _ refl inner_reacts.1)

abbrev fresh_scope : (r : Reaction) × React events still (scope 1 None inner) r
fresh_scope = (_, of_scope still 1 None inner (pos 0 ∷ []) _ refl inner_reacts.1)

abbrev suspended : {t : Term} → (r : Reaction) × React events still t r → Reaction
suspended {t = t} k = (weakly t k.0 k.1).0
  where
    weakly : (t : Term) (r : Reaction) → React events still t r → (q : Reaction) × React events still (suspend true true t yes) q
    weakly t r k = (_, of_weak_suspend still t yes r refl k)

-- the store's new value is held, and the value of a fresh scope is not
stored_held : (suspended stored_scope).held ≡ suspend true true (scope 1 (Some (record { value = pos 0; pending = Some (pos 1) } ∷ [])) inner) yes
stored_held = refl

fresh_held : (suspended fresh_scope).held ≡ suspend true true (scope 1 None inner) yes
fresh_held = refl
