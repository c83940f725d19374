-- The cells, registers, actions and monitors of worked modules, by computation.
use Rattle.std.proofs.Common.{◌≡◌, refl}
use Rattle.std.specs.Prelude.{ℕ, pos, true, false, List, [], ◌∷◌, None}
use Rattle.quartz_tree.specs.declared.place.Place.{Place}
use Rattle.quartz_tree.specs.declared.fault.Kind.TheVariants.{Conflict}
use Rattle.quartz_tree.specs.declared.declare.Base.TheVariants as base
use Rattle.quartz_tree.specs.declared.declare.Flow.TheVariants.{Output, Inner}
use Rattle.quartz_tree.specs.declared.declare.Storage.TheVariants.{Mem, Event}
use Rattle.quartz_tree.specs.declared.expr.Binary.TheVariants.{Add, Rem}
use Rattle.quartz_tree.specs.Tree.{Tree as Expr}
use Rattle.quartz_tree.specs.Tree as expr
use Rattle.quartz_expr.specs.Vars.{Vars}
use Rattle.quartz_expr.specs.Terms.{Term, nothing, pause, write, choose, seq, loop, scope, none, part}
use Rattle.aif_cells.specs.declared.reference.Ref.{Ref}
use Rattle.aif_cells.specs.declared.reference.Ref.TheVariants as ref
use Rattle.aif_cells.specs.declared.tree.TreeOne.TheVariants as tree_one
use Rattle.aif_cells.specs.declared.tree.TreeTwo.TheVariants as tree_two
use Rattle.aif_cells.specs.declared.cells.Action.{Action}
use Rattle.aif_cells.specs.declared.cells.Monitor.{Monitor}
use Rattle.aif_cells.specs.declared.cells.Register.{Register}
use Rattle.aif_cells.specs.declared.cells.Made.{Made as MadeCopy}
use Rattle.aif_cells.specs.Tree.{Tree, value, one, two, ite}
use Rattle.aif_cells.specs.Built.{Defined}
use Rattle.statement_cells.specs.Builder.{nowhere, or_of, and_of, not_of, cell_of, enter, act, new, watch, stay_at, reserve, close_scope, keep_entered, keep_depth}
use Rattle.statement_cells.specs.Surface.{start, resume, tested, watched, written, scope_started, scope_resumed}
use Rattle.statement_cells.specs.Whole.{compiled}

abbrev pub at : ℕ → Place
at n = record { line = 1; col = n }

-- ---- `module Counter(nat{4} !n) { loop { next(n) = (n + 1) % 4; pause; } }`

abbrev pub counter : Vars
counter = record {
  decl = record { name = []; ty = record { base = base.Nat 4; len = None }; storage = Mem; flow = Output; place = at 24; base_place = at 20; len_place = at 16; init = None };
  delayed = true;
  start = pos 0;
} ∷ []

-- `(n + 1) % 4`
abbrev pub more : Expr ℕ
more = expr.two Rem (expr.paren (expr.two Add (expr.named 0 (at 47)) (expr.number 1 (at 51)) (at 49)) (at 46)) (expr.number 4 (at 56)) (at 54)

abbrev pub body : Term
body = seq (part (loop (seq (part (write 0 None more true (at 36) (at 41)) (part pause none))) (expr.truth true (at 29))) none)

abbrev lit : ℕ → Tree
lit n = value (ref.Lit (pos n))

abbrev reg : ℕ → Tree
reg r = value (ref.Reg r)

abbrev cell : ℕ → Tree
cell c = value (ref.Cell c)

abbrev placed : Place → Tree → Defined
placed p t = record { tree = t; place = p }

abbrev next_up : Tree
next_up = two tree_two.Rem (two tree_two.Add (cell 0) (lit 1)) (lit 4)

abbrev differs : ℕ → ℕ → ℕ → Tree
differs r v p = two tree_two.And (reg r) (two tree_two.Ne (cell v) (cell p))

abbrev counter_cells : List Defined
counter_cells =
    placed (at 24) (ite (reg 3) (reg 4) (reg 2))
    ∷ placed nowhere next_up
    ∷ placed nowhere next_up
    ∷ placed (at 24) (two tree_two.Or (reg 0) (reg 1))
    ∷ placed (at 24) (ite (reg 0) (cell 1) (ite (reg 1) (cell 2) (lit 0)))
    ∷ placed (at 24) (two tree_two.Or (differs 0 1 4) (differs 1 2 4))
    ∷ placed nowhere (two tree_two.Or (reg 0) (reg 1))
    ∷ []

abbrev register : ℕ → Ref → Register
register z r = record { initial = pos z; next = r }

abbrev counter_registers : List Register
counter_registers = register 1 (ref.Lit (pos 0)) ∷ register 0 (ref.Cell 6) ∷ register 0 (ref.Cell 0) ∷ register 0 (ref.Cell 3) ∷ register 0 (ref.Cell 4) ∷ []

abbrev next_write : (guard value : Ref) → Action
next_write g v = record { guard = g; var = 0; copy = 0; index = None; value = v; delayed = true; place = at 36 }

abbrev counter_actions : List Action
counter_actions = next_write (ref.Reg 0) (ref.Cell 1) ∷ next_write (ref.Reg 1) (ref.Cell 2) ∷ []

abbrev counter_monitors : List Monitor
counter_monitors = record { cell = 5; place = at 24; kind = Conflict } ∷ []

counter_has_cells : (compiled counter body).cells ≡ counter_cells
unfolding resume or_of and_of not_of tested cell_of start enter written act new watch watched stay_at reserve
counter_has_cells = refl

counter_has_registers : (compiled counter body).registers ≡ counter_registers
unfolding resume or_of and_of not_of tested cell_of start enter written act new watch watched stay_at reserve
counter_has_registers = refl

counter_has_actions : (compiled counter body).actions ≡ counter_actions
unfolding resume or_of and_of not_of tested cell_of start enter written act new watch watched stay_at reserve
counter_has_actions = refl

counter_has_monitors : (compiled counter body).monitors ≡ counter_monitors
unfolding resume or_of and_of not_of tested cell_of start enter written act new watch watched stay_at reserve
counter_has_monitors = refl

counter_has_outputs : (compiled counter body).outputs ≡ 0 ∷ []
counter_has_outputs = refl

counter_has_copies : (compiled counter body).made ≡ record { var = 0; stored = true } ∷ []
unfolding resume or_of and_of not_of tested cell_of start enter written act new watch watched stay_at reserve
counter_has_copies = refl

counter_has_paths : (compiled counter body).paths ≡ ((false, 0) ∷ (false, 0) ∷ (false, 1) ∷ []) ∷ []
counter_has_paths = refl

-- ---- `module Schizo(event !o) { loop { bool x; if(x) o = true; pause; x = true; } }`

abbrev schizo : Vars
schizo =
    record {
      decl = record { name = []; ty = record { base = base.Bool; len = None }; storage = Event; flow = Output; place = at 22; base_place = at 15; len_place = at 15; init = None };
      delayed = false;
      start = pos 0;
    }
    ∷ record {
      decl = record { name = []; ty = record { base = base.Bool; len = None }; storage = Mem; flow = Inner; place = at 39; base_place = at 34; len_place = at 34; init = None };
      delayed = false;
      start = pos 0;
    }
    ∷ []

abbrev set_true : (var column value_column : ℕ) → Term
set_true x n m = write x None (expr.truth true (at m)) false (at n) (at n)

abbrev schizo_body : Term
schizo_body = seq (part (loop (scope 1 None (seq (part (choose (expr.named 1 (at 45)) (set_true 0 48 52) nothing) (part pause (part (set_true 1 65 69) none))))) (expr.truth true (at 27))) none)

abbrev or_cells : ℕ → ℕ → Tree
or_cells a b = two tree_two.Or (cell a) (cell b)

abbrev sets_again : ℕ → Tree
sets_again g = two tree_two.And (cell g) (two tree_two.Ne (lit 1) (cell 0))

abbrev schizo_cells : List Defined
schizo_cells =
    placed (at 22) (ite (cell 2) (lit 1) (ite (cell 8) (lit 1) (lit 0)))
    ∷ placed (at 39) (lit 0)
    ∷ placed nowhere (two tree_two.And (reg 0) (cell 1))
    ∷ placed nowhere (one tree_one.Not (cell 1))
    ∷ placed nowhere (two tree_two.And (reg 0) (cell 3))
    ∷ placed nowhere (or_cells 2 4)
    ∷ placed (at 39) (ite (reg 1) (lit 1) (reg 2))
    ∷ placed (at 39) (lit 0)
    ∷ placed nowhere (two tree_two.And (reg 1) (cell 7))
    ∷ placed nowhere (one tree_one.Not (cell 7))
    ∷ placed nowhere (two tree_two.And (reg 1) (cell 9))
    ∷ placed nowhere (or_cells 8 10)
    ∷ placed (at 22) (two tree_two.Or (sets_again 2) (sets_again 8))
    ∷ placed nowhere (or_cells 5 11)
    ∷ placed (at 39) (ite (reg 0) (cell 1) (ite (reg 1) (cell 7) (cell 6)))
    ∷ []

abbrev now_write : (guard : Ref) → (var copy column : ℕ) → Action
now_write g x c n = record { guard = g; var = x; copy = c; index = None; value = ref.Lit (pos 1); delayed = false; place = at n }

abbrev schizo_actions : List Action
schizo_actions = now_write (ref.Cell 2) 0 0 48 ∷ now_write (ref.Reg 1) 1 1 65 ∷ now_write (ref.Cell 8) 0 0 48 ∷ []

abbrev schizo_copies : List MadeCopy
schizo_copies = record { var = 0; stored = true } ∷ record { var = 1; stored = false } ∷ record { var = 1; stored = true } ∷ record { var = 1; stored = false } ∷ []

schizo_has_cells : (compiled schizo schizo_body).cells ≡ schizo_cells
unfolding resume or_of and_of not_of tested cell_of start enter written act new watch watched stay_at reserve close_scope scope_started scope_resumed keep_entered keep_depth
schizo_has_cells = refl

schizo_has_registers : (compiled schizo schizo_body).registers ≡ register 1 (ref.Lit (pos 0)) ∷ register 0 (ref.Cell 13) ∷ register 0 (ref.Cell 14) ∷ []
unfolding resume or_of and_of not_of tested cell_of start enter written act new watch watched stay_at reserve close_scope scope_started scope_resumed keep_entered keep_depth
schizo_has_registers = refl

schizo_has_actions : (compiled schizo schizo_body).actions ≡ schizo_actions
unfolding resume or_of and_of not_of tested cell_of start enter written act new watch watched stay_at reserve close_scope scope_started scope_resumed keep_entered keep_depth
schizo_has_actions = refl

schizo_has_monitors : (compiled schizo schizo_body).monitors ≡ record { cell = 12; place = at 22; kind = Conflict } ∷ []
unfolding resume or_of and_of not_of tested cell_of start enter written act new watch watched stay_at reserve close_scope scope_started scope_resumed keep_entered keep_depth
schizo_has_monitors = refl

schizo_has_copies : (compiled schizo schizo_body).made ≡ schizo_copies
unfolding resume or_of and_of not_of tested cell_of start enter written act new watch watched stay_at reserve close_scope scope_started scope_resumed keep_entered keep_depth
schizo_has_copies = refl

schizo_has_outputs : (compiled schizo schizo_body).outputs ≡ 0 ∷ []
schizo_has_outputs = refl

schizo_has_paths : (compiled schizo schizo_body).paths ≡ ((false, 0) ∷ (false, 0) ∷ (false, 0) ∷ (false, 1) ∷ []) ∷ []
schizo_has_paths = refl
