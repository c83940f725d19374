-- The reader: one pass, one token at a time. A state says what is to come, and what to do with it.
--
-- What it is for: the code is compared with it, a token at a time, and it alone with the grammar; `parse` and
-- `parse_text` are proved through it, and `law_of_reading` says that it agrees with the grammar.
use Rattle.std.specs.Prelude.{ℕ, Bool, true, false, ◌&&◌, ◌-◌, nat_lt, nat_le, ◌==◌, List, [], ◌∷◌, ◌++◌, Option, Some, None, option_and_then, if◌then◌else◌}
use Rattle.quartz_tree.specs.declared.place.Place.{Place}
use Rattle.quartz_tree.specs.declared.declare.Base.{Base}
use Rattle.quartz_tree.specs.declared.declare.Base.TheVariants as base
use Rattle.quartz_tree.specs.declared.declare.Storage.{Storage}
use Rattle.quartz_tree.specs.declared.declare.Storage.TheVariants.{Mem}
use Rattle.quartz_tree.specs.declared.declare.Flow.TheVariants.{Input, Output, Inner}
use Rattle.quartz_tree.specs.declared.declare.Start.TheVariants as start
use Rattle.quartz_tree.specs.declared.declare.Init.{Init}
use Rattle.quartz_tree.specs.declared.declare.Decl.{Decl}
use Rattle.quartz_tree.specs.declared.expr.Unary.TheVariants.{Not, Neg}
use Rattle.quartz_tree.specs.declared.expr.Binary.TheVariants.{Sub}
use Rattle.quartz_tree.specs.declared.surface.Arg.{Arg}
use Rattle.quartz_tree.specs.Tree as tree
use Rattle.quartz_tree.specs.Tree.{Tree}
use Rattle.quartz_tree.specs.Surfaces as plain
use Rattle.quartz_tree.specs.Surfaces.{Word, Goal, Written, Branch, ModuleTree, branch, branches_of}
use Rattle.quartz_parser.specs.declared.declaring.Typing.{Typing}
use Rattle.quartz_parser.specs.declared.symbol.Mark.{Mark}
use Rattle.quartz_parser.specs.declared.symbol.Mark.TheVariants as m
use Rattle.quartz_parser.specs.declared.symbol.Scalar.{Scalar}
use Rattle.quartz_parser.specs.Tokens.{Token, mark, name, number, bits, truth, storage, sized, infix_sign, preempt}
use Rattle.quartz_parser.specs.Grammar.{row, left_row, right_row, level, typing, array_typing, declared_as, taken, sized_base}

pub data State : Type 0 where
  -- a mark, a name, a number
  expect : Mark → State → State
  a_name : (Word → Place → State) → State
  a_number : (ℕ → Place → State) → State
  -- an expression of at least this row and at most so many levels
  want : (n d : ℕ) → (Tree Word → State) → State
  -- a name that begins one, and a part of one that may go on
  after_name : (n d : ℕ) → Word → Place → (Tree Word → State) → State
  tail : (n d : ℕ) → Tree Word → (Tree Word → State) → State
  -- behind `{` and a number
  after_high : (n d : ℕ) → Tree Word → ℕ → Place → (Tree Word → State) → State
  -- a type's base, and a type that may be left out behind its storage
  a_base : (Base → Option Place → State) → State
  stored : Storage → (Typing → State) → State
  a_const : (Init → State) → State
  -- a start value that may be left out
  init : (Option Init → State) → State
  flow : Typing → (Decl → State) → State
  first_param : (List Decl → State) → State
  after_param : List Decl → Typing → (List Decl → State) → State
  next_param : List Decl → Typing → (List Decl → State) → State
  -- an index that may be left out
  subscript : Word → Place → (Goal → State) → State
  -- a block's declarations, and one that isn't closed; so many levels are left for the statements
  decls : (d : ℕ) → List Decl → (Written → State) → State
  open_decls : (d : ℕ) → List Decl → Typing → (Written → State) → State
  -- a block's statements
  ready : (d : ℕ) → List Decl → List Branch → List Written → (Written → State) → State
  -- a statement of at most so many levels, and what may have begun one
  stmt : (d : ℕ) → (Written → State) → State
  after_word : Word → Place → (Written → State) → State
  labelled : (Written → State) → State
  after_immediate : (d : ℕ) → Place → (Written → State) → State
  after_weak : (d : ℕ) → (Written → State) → State
  after_mode : (d : ℕ) → (weak immediate : Bool) → (Written → State) → State
  after_emit : Place → (Written → State) → State
  first_arg : Word → Place → (Written → State) → State
  after_arg : Word → Place → List Arg → (Written → State) → State
  after_if : (d : ℕ) → Tree Word → Written → (Written → State) → State
  -- the one module is read, and so many are
  alone : ModuleTree → State
  several : List ModuleTree → State

-- the tightest row that takes the expression
abbrev pub tightest : Tree Word → ℕ
tightest (tree.two op _ _ _) = row op
tightest (tree.choice _ _ _ _) = 0
tightest (tree.one _ _ _) = 11
tightest (tree.slice _ _ _ _) = 12
tightest _ = 13

abbrev pub target : (Goal → State) → State
target next = a_name (λ x p. subscript x p next)

-- `( expr )`, and `expr ;`
abbrev pub condition : (Tree Word → State) → State
condition next = expect m.Open (want 0 64 (λ c. expect m.Close (next c)))

abbrev pub right_side : (Tree Word → State) → State
right_side next = want 0 64 (λ e. expect m.Semicolon (next e))

-- only where the test holds
abbrev pub only : Bool → State → Option State
only b s = if b then Some s else None

-- an expression begins, with its first token
abbrev pub want_on : (n d : ℕ) → (Tree Word → State) → Token → Option State
want_on n d next (truth b p) = Some (tail n d (tree.truth b p) next)
want_on n d next (number k p) = Some (tail n d (tree.number k p) next)
want_on n d next (bits w k p) = Some (tail n d (tree.bits w k p) next)
want_on n d next (name x p) = Some (after_name n d x p next)
want_on n d next (mark m.Bang p) = only (nat_lt 1 d) (want 11 (d - 1) (λ e. tail n d (tree.one Not e p) next))
want_on n d next (infix_sign Sub p) = only (nat_lt 1 d) (want 11 (d - 1) (λ e. tail n d (tree.one Neg e p) next))
want_on n d next (mark m.Open p) = only (nat_lt 1 d) (want 0 (d - 1) (λ e. expect m.Close (tail n d (tree.paren e p) next)))
want_on n d next (mark m.ToNat p) = only (nat_lt 1 d) (expect m.Open (want 0 (d - 1) (λ e. expect m.Close (tail n d (tree.to_nat e p) next))))
want_on n d next (mark m.ToBv p) =
    only (nat_lt 1 d) (expect m.Open (want 0 (d - 1) (λ e. expect m.Comma (a_number (λ k q. expect m.Close (tail n d (tree.to_bv e k q p) next))))))
want_on n d next _ = None

-- an expression goes on, or else what is around it
abbrev pub tail_on : (n d : ℕ) → Tree Word → (Tree Word → State) → Token → Option State → Option State
tail_on n d e next (infix_sign op p) outer =
    if nat_le n (row op) && (nat_le (left_row (row op)) (tightest e) && nat_lt (level e) d) then Some (want (right_row (row op)) (d - 1) (λ b. tail n d (tree.two op e b p) next)) else outer
tail_on n d e next (mark m.Question p) outer =
    if nat_le n 0 && (nat_le 1 (tightest e) && nat_lt (level e) d) then Some (want 0 (d - 1) (λ a. expect m.Colon (want 0 (d - 1) (λ b. tail n d (tree.choice e a b p) next)))) else outer
tail_on n d e next (mark m.OpenBrace p) outer = if nat_le 12 (tightest e) && nat_lt (level e) d then Some (a_number (λ h q. after_high n d e h p next)) else outer
tail_on n d e next _ outer = outer

abbrev pub after_name_on : (n d : ℕ) → Word → Place → (Tree Word → State) → Token → Option State → Option State
after_name_on n d x p next (mark m.OpenBracket q) outer = only (nat_lt 1 d) (want 0 (d - 1) (λ e. expect m.CloseBracket (tail n d (tree.element x e p) next)))
after_name_on n d x p next t outer = tail_on n d (tree.named x p) next t outer

abbrev pub after_high_on : (n d : ℕ) → Tree Word → ℕ → Place → (Tree Word → State) → Token → Option State
after_high_on n d e h p next (mark m.CloseBrace q) = Some (tail n d (tree.slice e h None p) next)
after_high_on n d e h p next (mark m.Colon q) = Some (a_number (λ l r. expect m.CloseBrace (tail n d (tree.slice e h (Some l) p) next)))
after_high_on n d e h p next _ = None

-- `{ number }` behind `nat`, `int` or `bv`
abbrev pub size : Scalar → (Base → Option Place → State) → State
size k next = expect m.OpenBrace (a_number (λ n r. expect m.CloseBrace (next (sized_base k n) (Some r))))

abbrev pub base_on : (Base → Option Place → State) → Token → Option State → Option State
base_on next (mark m.Bool p) outer = Some (next base.Bool None)
base_on next (sized k p) outer = Some (size k next)
base_on next _ outer = outer

abbrev pub type_on : Storage → (Typing → State) → Token → Option State → Option State
type_on s next (mark m.OpenBracket o) outer = Some (a_number (λ n q. expect m.CloseBracket (a_base (λ b p. next (array_typing s b p n q)))))
type_on s next t outer = base_on (λ b p. next (typing s b p)) t outer

abbrev pub head_on : (Typing → State) → Token → Option State → Option State
head_on next (storage s p) outer = Some (stored s next)
head_on next t outer = type_on Mem next t outer

abbrev pub const_on : (Init → State) → Token → Option State
const_on next (truth b p) = Some (next (record { value = start.Truth b; place = p }))
const_on next (number n p) = Some (next (record { value = start.Number false n; place = p }))
const_on next (infix_sign Sub p) = Some (a_number (λ n q. next (record { value = start.Number true n; place = p })))
const_on next (bits w n p) = Some (next (record { value = start.Bits w n; place = p }))
const_on next _ = None

abbrev pub init_on : (Option Init → State) → Token → Option State → Option State
init_on next (mark m.Equals p) outer = Some (a_const (λ i. next (Some i)))
init_on next _ outer = outer

abbrev pub flow_on : Typing → (Decl → State) → Token → Option State → Option State
flow_on t next (mark m.Question q) outer = Some (a_name (λ x p. next (declared_as t Input x p None)))
flow_on t next (mark m.Bang q) outer = Some (a_name (λ x p. init (λ i. next (declared_as t Output x p i))))
flow_on t next _ outer = outer

-- a parameter more
abbrev pub param_more : List Decl → (List Decl → State) → Decl → State
param_more ds next e = after_param (ds ++ e ∷ []) (taken e) next

abbrev pub first_param_on : (List Decl → State) → Token → Option State
first_param_on next (mark m.Close p) = Some (next [])
first_param_on next t = head_on (λ ty. flow ty (λ d. after_param (d ∷ []) (taken d) next)) t None

abbrev pub after_param_on : List Decl → Typing → (List Decl → State) → Token → Option State
after_param_on ds last next (mark m.Comma p) = Some (next_param ds last next)
after_param_on ds last next (mark m.Close p) = Some (next ds)
after_param_on ds last next _ = None

abbrev pub subscript_on : Word → Place → (Goal → State) → Token → Option State → Option State
subscript_on x p next (mark m.OpenBracket q) outer = Some (want 0 64 (λ e. expect m.CloseBracket (next (record { name = x; index = Some e; place = p }))))
subscript_on x p next _ outer = outer

-- the body of an abort or suspend, and its condition
abbrev pub guarded : (d : ℕ) → (abort weak immediate : Bool) → (Written → State) → State
guarded d abort weak immediate next =
    stmt (d - 1) (λ w. expect m.When (condition (λ c. expect m.Semicolon (next (plain.guard abort weak immediate w c)))))

abbrev pub awaited : (immediate : Bool) → Place → (Written → State) → State
awaited immediate p next = condition (λ c. expect m.Semicolon (next (plain.await immediate c p)))

-- a statement begins, with its first token
abbrev pub stmt_on : (d : ℕ) → (Written → State) → Token → Option State
stmt_on d next (mark m.Semicolon p) = Some (next plain.empty)
stmt_on d next (mark m.Nothing p) = Some (expect m.Semicolon (next plain.empty))
stmt_on d next (mark m.Pause p) = Some (expect m.Semicolon (next plain.pause))
stmt_on d next (mark m.Halt p) = Some (expect m.Semicolon (next (plain.halt p)))
stmt_on d next (mark m.Await p) = Some (awaited false p next)
stmt_on d next (mark m.Immediate p) = Some (after_immediate d p next)
stmt_on d next (mark m.Emit p) = Some (after_emit p next)
stmt_on d next (mark m.Next p) = Some (expect m.Open (target (λ g. expect m.Close (expect m.Equals (right_side (λ e. next (plain.write true g e p)))))))
stmt_on d next (mark m.OpenBrace p) = Some (decls (d - 1) [] next)
stmt_on d next (mark m.If p) = only (nat_lt 1 d) (condition (λ c. stmt (d - 1) (λ a. after_if d c a next)))
stmt_on d next (mark m.Loop p) = only (nat_lt 1 d) (stmt (d - 1) (λ w. next (plain.loop w p)))
stmt_on d next (mark m.Always p) = only (nat_lt 1 d) (stmt (d - 1) (λ w. next (plain.always w p)))
stmt_on d next (mark m.While p) = only (nat_lt 1 d) (condition (λ c. stmt (d - 1) (λ w. next (plain.while c w p))))
stmt_on d next (mark m.Do p) =
    only (nat_lt 1 d) (stmt (d - 1) (λ w. expect m.While (condition (λ c. expect m.Semicolon (next (plain.do_while w c p))))))
stmt_on d next (mark m.Weak p) = only (nat_lt 1 d) (after_weak d next)
stmt_on d next (preempt abort p) = only (nat_lt 1 d) (guarded d abort false false next)
stmt_on d next (name x p) = Some (after_word x p next)
stmt_on d next _ = None

abbrev pub after_word_on : Word → Place → (Written → State) → Token → Option State
after_word_on x p next (mark m.Colon q) = Some (labelled next)
after_word_on x p next (mark m.Open q) = Some (first_arg x p next)
after_word_on x p next (mark m.Equals q) = Some (right_side (λ e. next (plain.write false (record { name = x; index = None; place = p }) e p)))
after_word_on x p next (mark m.OpenBracket q) =
    Some (want 0 64 (λ i. expect m.CloseBracket (expect m.Equals (right_side (λ e. next (plain.write false (record { name = x; index = Some i; place = p }) e p))))))
after_word_on x p next _ = None

abbrev pub labelled_on : (Written → State) → Token → Option State
labelled_on next (mark m.Pause p) = Some (expect m.Semicolon (next plain.pause))
labelled_on next (mark m.Halt p) = Some (expect m.Semicolon (next (plain.halt p)))
labelled_on next (mark m.Await p) = Some (awaited false p next)
labelled_on next (mark m.Immediate p) = Some (expect m.Await (awaited true p next))
labelled_on next _ = None

abbrev pub after_immediate_on : (d : ℕ) → Place → (Written → State) → Token → Option State
after_immediate_on d p next (mark m.Await q) = Some (awaited true p next)
after_immediate_on d p next (mark m.Weak q) = only (nat_lt 1 d) (after_mode d true true next)
after_immediate_on d p next (preempt abort q) = only (nat_lt 1 d) (guarded d abort false true next)
after_immediate_on d p next _ = None

abbrev pub after_weak_on : (d : ℕ) → (Written → State) → Token → Option State
after_weak_on d next (mark m.Immediate q) = Some (after_mode d true true next)
after_weak_on d next (preempt abort q) = Some (guarded d abort true false next)
after_weak_on d next _ = None

abbrev pub after_mode_on : (d : ℕ) → (weak immediate : Bool) → (Written → State) → Token → Option State
after_mode_on d weak immediate next (preempt abort q) = Some (guarded d abort weak immediate next)
after_mode_on d weak immediate next _ = None

abbrev pub after_emit_on : Place → (Written → State) → Token → Option State
after_emit_on p next (name x q) = Some (subscript x q (λ g. expect m.Semicolon (next (plain.emit false g p))))
after_emit_on p next (mark m.Open q) = Some (target (λ g. expect m.Close (expect m.Semicolon (next (plain.emit false g p)))))
after_emit_on p next (mark m.Next q) = Some (expect m.Open (target (λ g. expect m.Close (expect m.Semicolon (next (plain.emit true g p))))))
after_emit_on p next _ = None

abbrev pub first_arg_on : Word → Place → (Written → State) → Token → Option State
first_arg_on x p next (mark m.Close q) = Some (expect m.Semicolon (next (plain.call x [] p)))
first_arg_on x p next (name y q) = Some (after_arg x p (record { name = y; place = q } ∷ []) next)
first_arg_on x p next _ = None

abbrev pub after_arg_on : Word → Place → List Arg → (Written → State) → Token → Option State
after_arg_on x p ys next (mark m.Close q) = Some (expect m.Semicolon (next (plain.call x ys p)))
after_arg_on x p ys next (mark m.Comma q) = Some (a_name (λ y r. after_arg x p (ys ++ record { name = y; place = r } ∷ []) next))
after_arg_on x p ys next _ = None

abbrev pub after_if_on : (d : ℕ) → Tree Word → Written → (Written → State) → Token → Option State → Option State
after_if_on d c a next (mark m.Else p) outer = Some (stmt (d - 1) (λ b. next (plain.choose c a b)))
after_if_on d c a next _ outer = outer

-- a block goes on, or ends
abbrev pub ready_on : (d : ℕ) → List Decl → List Branch → List Written → (Written → State) → Token → Option State
ready_on d ds bs ws next (mark m.Bars p) = Some (ready d ds (bs ++ branch ws ∷ []) [] next)
ready_on d ds bs ws next (mark m.CloseBrace p) = Some (next (plain.block ds (branches_of (bs ++ branch ws ∷ []))))
ready_on d ds bs ws next t = if nat_lt 0 d then stmt_on d (λ w. ready d ds bs (ws ++ w ∷ []) next) t else None

-- a local of this type
abbrev pub local : (d : ℕ) → List Decl → Typing → (Written → State) → State
local d ds t next = a_name (λ x p. init (λ i. open_decls d (ds ++ declared_as t Inner x p i ∷ []) t next))

abbrev pub open_decls_on : (d : ℕ) → List Decl → Typing → (Written → State) → Token → Option State
open_decls_on d ds t next (mark m.Comma p) = Some (local d ds t next)
open_decls_on d ds t next (mark m.Semicolon p) = Some (decls d ds next)
open_decls_on d ds t next _ = None

-- what comes behind `module`
abbrev pub header : (ModuleTree → State) → State
header next = a_name (λ x q. expect m.Open (first_param (λ ds. expect m.OpenBrace (decls 63 [] (λ b. next (record { name = x; params = ds; body = b }))))))

abbrev pub several_on : List ModuleTree → Token → Option State
several_on ms (mark m.Module p) = Some (header (λ n. several (ms ++ n ∷ [])))
several_on ms _ = None

abbrev pub name_on : (Word → Place → State) → Token → Option State
name_on next (name x p) = Some (next x p)
name_on next _ = None

abbrev pub number_on : (ℕ → Place → State) → Token → Option State
number_on next (number n p) = Some (next n p)
number_on next _ = None

-- marks by number
abbrev pub rank : Mark → ℕ
rank m.Module = 0
rank m.Bool = 1
rank m.Nothing = 2
rank m.Pause = 3
rank m.Halt = 4
rank m.Await = 5
rank m.Immediate = 6
rank m.Weak = 7
rank m.When = 8
rank m.Emit = 9
rank m.Next = 10
rank m.If = 11
rank m.Else = 12
rank m.Loop = 13
rank m.Always = 14
rank m.While = 15
rank m.Do = 16
rank m.ToNat = 17
rank m.ToBv = 18
rank m.Open = 19
rank m.Close = 20
rank m.OpenBrace = 21
rank m.CloseBrace = 22
rank m.OpenBracket = 23
rank m.CloseBracket = 24
rank m.Comma = 25
rank m.Semicolon = 26
rank m.Colon = 27
rank m.Question = 28
rank m.Bang = 29
rank m.Equals = 30
rank m.Bars = 31

abbrev pub expect_on : Mark → State → Token → Option State
expect_on k next (mark j p) = only (rank j == rank k) next
expect_on k next _ = None

-- the state behind a token, and none where no text goes on with it
abbrev pub step : State → Token → Option State
step (expect k next) t = expect_on k next t
step (a_name next) t = name_on next t
step (a_number next) t = number_on next t
step (want n d next) t = want_on n d next t
step (after_name n d x p next) t = after_name_on n d x p next t (step (next (tree.named x p)) t)
step (tail n d e next) t = tail_on n d e next t (step (next e) t)
step (after_high n d e h p next) t = after_high_on n d e h p next t
step (a_base next) t = base_on next t None
step (stored s next) t = type_on s next t (step (next (typing s base.Bool None)) t)
step (a_const next) t = const_on next t
step (init next) t = init_on next t (step (next None) t)
step (flow ty next) t = flow_on ty next t None
step (first_param next) t = first_param_on next t
step (after_param ds last next) t = after_param_on ds last next t
step (next_param ds last next) t = flow_on last (param_more ds next) t (head_on (λ ty. flow ty (param_more ds next)) t None)
step (subscript x p next) t = subscript_on x p next t (step (next (record { name = x; index = None; place = p })) t)
step (decls d ds next) t = head_on (λ ty. local d ds ty next) t (ready_on d ds [] [] next t)
step (open_decls d ds ty next) t = open_decls_on d ds ty next t
step (ready d ds bs ws next) t = ready_on d ds bs ws next t
step (stmt d next) t = stmt_on d next t
step (after_word x p next) t = after_word_on x p next t
step (labelled next) t = labelled_on next t
step (after_immediate d p next) t = after_immediate_on d p next t
step (after_weak d next) t = after_weak_on d next t
step (after_mode d weak immediate next) t = after_mode_on d weak immediate next t
step (after_emit p next) t = after_emit_on p next t
step (first_arg x p next) t = first_arg_on x p next t
step (after_arg x p ys next) t = after_arg_on x p ys next t
step (after_if d c a next) t = after_if_on d c a next t (step (next (plain.choose_one c a)) t)
step (alone n) t = None
step (several ns) t = several_on ns t

-- the modules that were read, where the tokens may end here
abbrev pub ended : State → Option (List ModuleTree)
ended (tail n d e next) = ended (next e)
ended (after_name n d x p next) = ended (next (tree.named x p))
ended (stored s next) = ended (next (typing s base.Bool None))
ended (init next) = ended (next None)
ended (subscript x p next) = ended (next (record { name = x; index = None; place = p }))
ended (after_if d c a next) = ended (next (plain.choose_one c a))
ended (alone n) = Some (n ∷ [])
ended (several (n ∷ ns)) = Some (n ∷ ns)
ended _ = None

-- the state behind these tokens
abbrev pub run : State → List Token → Option State
run s [] = Some s
run s (t ∷ ts) = option_and_then (λ s'. run s' ts) (step s t)

-- where one module, and where a text begins
abbrev pub module_start : State
module_start = expect m.Module (header alone)

abbrev pub text_start : State
text_start = several []
