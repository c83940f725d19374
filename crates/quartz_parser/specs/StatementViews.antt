-- What the program's values for statements stand for in the reader.
use Rattle.std.specs.Prelude.{◌≡◌, ◌<◌, ◌+◌, ◌*◌, ℕ, Bool, true, false, ◌-◌, length, List, [], ◌∷◌, ◌++◌, Option, Some, None, map}
use Rattle.quartz_tree.specs.declared.place.Place.{Place}
use Rattle.quartz_tree.specs.declared.declare.Decl.{Decl}
use Rattle.quartz_tree.specs.declared.declare.Flow.TheVariants.{Inner}
use Rattle.quartz_tree.specs.Tree.{Tree, tree}
use Rattle.quartz_tree.specs.Surfaces as plain
use Rattle.quartz_tree.specs.Surfaces.{Word, Goal, Written, Branch, branch, goal_of, written}
use Rattle.quartz_parser.specs.declared.symbol.Mark.TheVariants as m
use Rattle.quartz_parser.specs.declared.marks.Marks.{Marks}
use Rattle.quartz_parser.specs.declared.marks.Marks.TheVariants.{Zero}
use Rattle.quartz_parser.specs.declared.statement.Locals.{Locals}
use Rattle.quartz_parser.specs.declared.statement.Block.{Block}
use Rattle.quartz_parser.specs.declared.statement.Open.{Open}
use Rattle.quartz_parser.specs.declared.statement.Open.TheVariants as o
use Rattle.quartz_parser.specs.declared.statement.Aim.{Aim}
use Rattle.quartz_parser.specs.declared.statement.Aim.TheVariants.{Emit, EmitIn, WriteNext, Assign}
use Rattle.quartz_parser.specs.declared.statement.Wish.{Wish}
use Rattle.quartz_parser.specs.declared.statement.Wish.TheVariants as h
use Rattle.quartz_parser.specs.declared.statement.Part.{Part}
use Rattle.quartz_parser.specs.declared.statement.Part.TheVariants as p
use Rattle.quartz_parser.specs.declared.statement.Turn.{Turn}
use Rattle.quartz_parser.specs.declared.statement.Move.{Move}
use Rattle.quartz_parser.specs.declared.statement.Move.TheVariants.{Taken, Past, Over, Stuck}
use Rattle.quartz_parser.specs.declared.statement.Leaving.{Leaving}
use Rattle.quartz_parser.specs.declared.statement.Leaving.TheVariants as lv
use Rattle.quartz_parser.specs.Grammar.{declared_as}
use Rattle.quartz_parser.specs.Tokens.{Token}
use Rattle.quartz_parser.specs.Machine.{State, expect, a_name, want, subscript, decls, open_decls, ready, stmt, after_word, labelled, after_immediate, after_weak, after_mode, after_emit, first_arg, after_arg, after_if, condition, right_side, local, target, step, ended}
use Rattle.quartz_parser.specs.Views.{behind, expr_next, operand, type_state, init_state}

abbrev pub branches : Block → List Branch
branches b = map (λ l. branch (map written l.items)) b.branches.items

-- what a statement around one does with it
abbrev pub opened : Open → (Written → State) → Written → State
opened (o.Block b) next w = ready b.levels b.decls.items (branches b) (map written b.statements.items ++ w ∷ []) next
opened (o.Yes d c) next a = after_if d (tree c) a next
opened (o.No c a) next b = next (plain.choose (tree c) (written a) b)
opened (o.Loop p) next w = next (plain.loop w p)
opened (o.Always p) next w = next (plain.always w p)
opened (o.While c p) next w = next (plain.while (tree c) w p)
opened (o.Do p) next w = expect m.While (condition (λ c. expect m.Semicolon (next (plain.do_while w c p))))
opened (o.Guard g) next w = expect m.When (condition (λ c. expect m.Semicolon (next (plain.guard g.abort g.weak g.immediate w c))))

-- what all that wait for a statement do with it, the last of them first
abbrev pub open_next : List Open → (Written → State) → Written → State
open_next [] next = next
open_next (f ∷ fs) next = open_next fs (opened f next)

-- what a target is for
abbrev pub aim_next : Aim → (Written → State) → Goal → State
aim_next (Emit p) next g = expect m.Semicolon (next (plain.emit false g p))
aim_next (EmitIn delayed p) next g = expect m.Close (expect m.Semicolon (next (plain.emit delayed g p)))
aim_next (WriteNext p) next g = expect m.Close (expect m.Equals (right_side (λ e. next (plain.write true g e p))))
aim_next Assign next g = expect m.Equals (right_side (λ e. next (plain.write false g e g.place)))

-- what an expression is for
abbrev pub wish_next : Wish → (Written → State) → Tree Word → State
wish_next (h.Await immediate p) next c = expect m.Close (expect m.Semicolon (next (plain.await immediate c p)))
wish_next (h.If d) next c = expect m.Close (stmt (d - 1) (λ a. after_if d c a next))
wish_next (h.While d p) next c = expect m.Close (stmt (d - 1) (λ w. next (plain.while c w p)))
wish_next (h.Do w p) next c = expect m.Close (expect m.Semicolon (next (plain.do_while (written w) c p)))
wish_next (h.Guard g w) next c = expect m.Close (expect m.Semicolon (next (plain.guard g.abort g.weak g.immediate (written w) c)))
wish_next (h.Value delayed t p) next e = expect m.Semicolon (next (plain.write delayed (goal_of t) e p))
wish_next (h.Index x p aim) next e = expect m.CloseBracket (aim_next aim next (record { name = x; index = Some e; place = p }))

abbrev pub part_state : Part → (Written → State) → State
part_state (p.Expr e) next = operand e.room e.piece (expr_next e.pending.items (wish_next e.wish next))
part_state (p.LocalType t l) next = type_state t (λ ty. local l.levels l.decls.items ty next)
part_state (p.LocalName ty l) next = local l.levels l.decls.items ty next
part_state (p.LocalInit i ty x p l) next = init_state i (λ v. open_decls l.levels (l.decls.items ++ declared_as ty Inner x p v ∷ []) ty next)
part_state (p.Declared ty l) next = open_decls l.levels l.decls.items ty next
part_state (p.Locals l) next = decls l.levels l.decls.items next
part_state (p.Ready b) next = ready b.levels b.decls.items (branches b) (map written b.statements.items) next
part_state (p.Begin d) next = stmt d next
part_state (p.AfterWord x p) next = after_word x p next
part_state p.Labelled next = labelled next
part_state (p.AfterImmediate d p) next = after_immediate d p next
part_state (p.AfterWeak d) next = after_weak d next
part_state (p.AfterMode d weak immediate) next = after_mode d weak immediate next
part_state (p.AfterEmit p) next = after_emit p next
part_state (p.FirstArg x p) next = first_arg x p next
part_state (p.AfterArg x p ys) next = after_arg x p ys.items next
part_state (p.NextArg x p ys) next = a_name (λ y r. after_arg x p (ys.items ++ record { name = y; place = r } ∷ []) next)
part_state (p.TargetName aim) next = target (aim_next aim next)
part_state (p.AfterTarget x p aim) next = subscript x p (aim_next aim next)
part_state (p.Aimed aim t) next = aim_next aim next (goal_of t)
part_state (p.AfterIf d c a) next = after_if d (tree c) (written a) next
part_state (p.Done w) next = next (written w)

abbrev pub turn_state : Turn → (Written → State) → State
turn_state x next = behind x.marks (part_state x.part next)

-- the state behind a token, by what it does to a statement
abbrev pub moved : Move → (Written → State) → Token → Option State
moved (Taken x) next t = Some (turn_state x next)
moved (Past x) next t = step (turn_state x next) t
moved (Over w) next t = step (next (written w)) t
moved Stuck next t = None

-- the modules that were read, by what is left of a statement where the tokens end
abbrev pub left : Leaving → (Written → State) → Option (List plain.ModuleTree)
left (lv.Past x) next = ended (turn_state x next)
left (lv.Over w) next = ended (next (written w))
left lv.Stuck next = None

-- the token makes of what waited before, and of what is to come, what waits after it and the move
abbrev pub Turns : Move → (before after : List Open) → Token → ((Written → State) → Token → Option State) → Type 0
Turns x before after t reads = (k : Written → State) → moved x (open_next after k) t ≡ reads (open_next before k) t

-- how often the token can still be for what comes in place of this, where so many wait for a statement
abbrev pub weight : Marks → Part → ℕ → ℕ
weight Zero (p.Expr e) n = 1 + (length e.pending.items + 2 * n)
weight Zero (p.LocalType _ _) n = 1 + 2 * n
weight Zero (p.LocalInit _ _ _ _ _) n = 1 + 2 * n
weight Zero (p.AfterTarget _ _ _) n = 1 + 2 * n
weight Zero (p.Aimed _ _) n = 1 + 2 * n
weight Zero (p.AfterIf _ _ _) n = 1 + 2 * n
weight Zero (p.Done _) n = 1 + 2 * n
weight _ _ n = 0

-- the move passes the token on to what can pass it on less often
abbrev pub Falls : Move → (waiting before : ℕ) → Type 0
Falls (Past x) n w = weight x.marks x.part n < w
Falls (Over s) n w = 2 * n < w
Falls (Taken x) n w = Unit {0}
Falls Stuck n w = Unit {0}

-- the state behind a token that is not passed on
abbrev pub taken : Option Turn → (Written → State) → Option State
taken None next = None
taken (Some x) next = Some (turn_state x next)

-- the same of what waited before and waits after it
abbrev pub Takes : Option Turn → (before after : List Open) → Token → ((Written → State) → Token → Option State) → Type 0
Takes x before after t reads = (k : Written → State) → taken x (open_next after k) ≡ reads (open_next before k) t

-- the same whatever the token is
abbrev pub Leads : Option Turn → (before after : List Open) → ((Written → State) → Option State) → Type 0
Leads x before after reads = (k : Written → State) → taken x (open_next after k) ≡ reads (open_next before k)

-- what is left is to be seen from what leaves less
abbrev pub LeavesLess : Leaving → (waiting before : ℕ) → Type 0
LeavesLess (lv.Past x) n w = weight x.marks x.part n < w
LeavesLess (lv.Over s) n w = 2 * n < w
LeavesLess lv.Stuck n w = Unit {0}
