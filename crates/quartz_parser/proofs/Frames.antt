-- What waits, with one more on top.
use Rattle.std.proofs.Common.{◌≡◌, ◌<◌, ◌-◌, ℕ, Bool, true, false, nat_lt, length, List, [], ◌∷◌, ◌++◌, Option, Some, None, refl, sym, ap, ◌∙◌, arith}
use Rattle.std.specs.Prelude.{if◌then◌else◌, Result, Ok, Err, IfOk}
use Rattle.std.proofs.lemmas.Bool.Decides.{nat_tests}
use Rattle.quartz_tree.specs.Tree.{Tree}
use Rattle.quartz_tree.specs.Surfaces.{Word, Written}
use Rattle.quartz_parser.specs.declared.statement.Open.{Open}
use Rattle.quartz_parser.specs.StatementViews.{opened, open_next}
use Rattle.quartz_parser.specs.declared.marks.Marks.{Marks}
use Rattle.quartz_parser.specs.declared.expression.Pending.{Pending}
use Rattle.quartz_parser.specs.Machine.{State, want, only}
use Rattle.quartz_parser.specs.Views.{behind, resumed, expr_next}

-- a test that holds
pub passed : {A : Type 0} (m n : ℕ) (x y : A) → m < n → (if nat_lt m n then x else y) ≡ x
passed m n x y h = grind (arith, nat_tests)

pub expr_push : (fs : List Pending) (f : Pending) (k : Tree Word → State) → expr_next (fs ++ f ∷ []) k ≡ resumed f.begun f.room.row f.room.levels f.place (expr_next fs k)
expr_push [] f k = refl
expr_push (g ∷ fs) f k = expr_push fs f (resumed g.begun g.room.row g.room.levels g.place k)

pub nested : (ps qs : List Pending) (f : Pending) (ms : Marks) (row levels : ℕ) (k : Tree Word → State) → qs ≡ ps ++ f ∷ [] → levels ≡ f.room.levels - 1 →
    behind ms (want row levels (expr_next qs k)) ≡ behind ms (want row (f.room.levels - 1) (resumed f.begun f.room.row f.room.levels f.place (expr_next ps k)))
nested ps qs f ms row levels k e l =
    ap (λ n. behind ms (want row n (expr_next qs k))) l ∙ ap (λ n. behind ms (want row (f.room.levels - 1) n)) (ap (λ l. expr_next l k) e ∙ expr_push ps f k)

-- what holds of a value in an `Ok` with what follows from it
pub also : {T E : Type 0} {P Q : T → Type 0} (r : Result T E) → IfOk r P → ((x : T) → P x → Q x) → IfOk r Q
also (Ok x) p f = f x p
also (Err e) p f = p

pub if_true : {A : Type 0} (b : Bool) (x y : A) → b ≡ true → x ≡ (if b then x else y)
if_true b x y e = ap (λ c. if c then x else y) (sym e)

pub open_push : (fs : List Open) (f : Open) (k : Written → State) → open_next (fs ++ f ∷ []) k ≡ opened f (open_next fs k)
open_push [] f k = refl
open_push (g ∷ fs) f k = open_push fs f (opened g k)

-- a statement that waits on top
pub open_pushed : (fs gs : List Open) (f : Open) (k : Written → State) → gs ≡ fs ++ f ∷ [] → open_next gs k ≡ opened f (open_next fs k)
open_pushed fs gs f k e = ap (λ l. open_next l k) e ∙ open_push fs f k

-- what waits on top goes on
pub expr_popped : (ps qs : List Pending) (w : Pending) (k : Tree Word → State) (e : Tree Word) → ps ≡ qs ++ w ∷ [] →
    resumed w.begun w.room.row w.room.levels w.place (expr_next qs k) e ≡ expr_next ps k e
expr_popped ps qs w k e h = sym (ap (λ l. expr_next l k e) h ∙ ap (λ f. f e) (expr_push qs w k))

pub none_waits : (ps : List Pending) (k : Tree Word → State) (e : Tree Word) → length ps ≡ 0 → k e ≡ expr_next ps k e
none_waits [] k e h = refl
none_waits (p ∷ ps) k e h = absurd (omega arith)

pub if_false : {A : Type 0} (b : Bool) (x y : A) → b ≡ false → y ≡ (if b then x else y)
if_false b x y e = ap (λ c. if c then x else y) (sym e)

pub open_popped : (ps qs : List Open) (w : Open) (k : Written → State) (s : Written) → ps ≡ qs ++ w ∷ [] → opened w (open_next qs k) s ≡ open_next ps k s
open_popped ps qs w k s h = sym (ap (λ l. open_next l k s) h ∙ ap (λ f. f s) (open_push qs w k))
