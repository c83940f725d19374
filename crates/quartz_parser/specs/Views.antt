-- What the program's values stand for in the reader.
use Rattle.std.specs.Prelude.{◌≡◌, ◌==◌, ℕ, Bool, true, false, ◌-◌, length, List, [], ◌∷◌, Option, Some, None}
use Rattle.quartz_tree.specs.declared.place.Place.{Place}
use Rattle.quartz_tree.specs.declared.declare.Base.{Base}
use Rattle.quartz_tree.specs.declared.declare.Storage.{Storage}
use Rattle.quartz_tree.specs.declared.declare.Init.{Init}
use Rattle.quartz_tree.specs.declared.declare.Start.TheVariants as start
use Rattle.quartz_tree.specs.Tree as tree
use Rattle.quartz_tree.specs.Tree.{Tree, tree as plain}
use Rattle.quartz_tree.specs.Surfaces.{Word}
use Rattle.quartz_parser.specs.declared.item.Item.{Item}
use Rattle.quartz_parser.specs.declared.item.Item.TheVariants as i
use Rattle.quartz_parser.specs.declared.marks.Marks.{Marks}
use Rattle.quartz_parser.specs.declared.marks.Marks.TheVariants.{Zero, One, Two}
use Rattle.quartz_parser.specs.declared.symbol.Mark.{Mark}
use Rattle.quartz_parser.specs.declared.symbol.Mark.TheVariants as m
use Rattle.quartz_parser.specs.declared.rated.Rated.{Rated}
use Rattle.quartz_parser.specs.declared.expression.Room.{Room}
use Rattle.quartz_parser.specs.declared.expression.Begun.{Begun}
use Rattle.quartz_parser.specs.declared.expression.Begun.TheVariants as b
use Rattle.quartz_parser.specs.declared.expression.Pending.{Pending}
use Rattle.quartz_parser.specs.declared.expression.Piece.{Piece}
use Rattle.quartz_parser.specs.declared.expression.Piece.TheVariants.{Whole, AfterName, Tail, High, AfterHigh, Low, Width}
use Rattle.quartz_parser.specs.declared.expression.Next.{Next}
use Rattle.quartz_parser.specs.declared.expression.Outcome.{Outcome}
use Rattle.quartz_parser.specs.declared.expression.Outcome.TheVariants.{Taken, Over, Stuck}
use Rattle.quartz_parser.specs.declared.typed.Shape.{Shape}
use Rattle.quartz_parser.specs.declared.typed.Shape.TheVariants.{Single, Array}
use Rattle.quartz_parser.specs.declared.typed.TypePart.{TypePart}
use Rattle.quartz_parser.specs.declared.typed.TypePart.TheVariants.{Stored, Len, Element, Size}
use Rattle.quartz_parser.specs.declared.typed.TypePart.TheVariants as t
use Rattle.quartz_parser.specs.declared.typed.NextType.{NextType}
use Rattle.quartz_parser.specs.declared.typed.TypeOutcome.{TypeOutcome}
use Rattle.quartz_parser.specs.declared.typed.TypeOutcome.TheVariants as ty
use Rattle.quartz_parser.specs.declared.typed.InitPart.{InitPart}
use Rattle.quartz_parser.specs.declared.typed.InitPart.TheVariants.{Equals, Constant, Negative}
use Rattle.quartz_parser.specs.declared.typed.InitPart.TheVariants as it
use Rattle.quartz_parser.specs.declared.typed.InitOutcome.{InitOutcome}
use Rattle.quartz_parser.specs.declared.typed.InitOutcome.TheVariants as io
use Rattle.quartz_parser.specs.declared.declaring.Typing.{Typing}
use Rattle.quartz_parser.specs.Grammar.{typing, array_typing, sized_base}
use Rattle.quartz_parser.specs.Tokens.{Token, mark, name, number, bits, truth, storage, sized, infix_sign, preempt, other}
use Rattle.quartz_parser.specs.Machine.{State, expect, a_number, want, after_name, tail, after_high, a_base, stored, a_const, init, step, rank}

abbrev pub token : Item → Place → Token
token (i.Mark k) p = mark k p
token (i.Name x) p = name x.now p
token (i.Number n) p = number n p
token (i.Bits w n) p = bits w n p
token (i.Truth b) p = truth b p
token (i.Storage s) p = storage s p
token (i.Scalar k) p = sized k p
token (i.Infix op) p = infix_sign op p
token (i.Preempt abort) p = preempt abort p
token i.Other p = other

-- the token is this mark
abbrev pub is_mark : Mark → Token → Bool
is_mark k (mark j _) = rank j == rank k
is_mark k _ = false

-- a state behind marks
abbrev pub behind : Marks → State → State
behind Zero s = s
behind (One j) s = expect j s
behind (Two j k) s = expect j (expect k s)

-- what an expression around one does with it
abbrev pub resumed : Begun → (n d : ℕ) → Place → (Tree Word → State) → Tree Word → State
resumed (b.One op) n d p next e = tail n d (tree.one op e p) next
resumed (b.Right op a) n d p next e = tail n d (tree.two op (plain a.expr) e p) next
resumed (b.Yes c) n d p next a = expect m.Colon (want 0 (d - 1) (λ e. tail n d (tree.choice (plain c.expr) a e p) next))
resumed (b.No c a) n d p next e = tail n d (tree.choice (plain c.expr) (plain a.expr) e p) next
resumed b.Paren n d p next e = expect m.Close (tail n d (tree.paren e p) next)
resumed b.ToNat n d p next e = expect m.Close (tail n d (tree.to_nat e p) next)
resumed b.ToBv n d p next e = expect m.Comma (a_number (λ k q. expect m.Close (tail n d (tree.to_bv e k q p) next)))
resumed (b.Index x) n d p next e = expect m.CloseBracket (tail n d (tree.element x e p) next)

-- what all that wait for an expression do with it, the last of them first
abbrev pub expr_next : List Pending → (Tree Word → State) → Tree Word → State
expr_next [] next = next
expr_next (f ∷ fs) next = expr_next fs (resumed f.begun f.room.row f.room.levels f.place next)

abbrev pub operand : Room → Piece → (Tree Word → State) → State
operand r Whole next = want r.row r.levels next
operand r (AfterName x p) next = after_name r.row r.levels x p next
operand r (Tail e) next = tail r.row r.levels (plain e.expr) next
operand r (High e p) next = a_number (λ h q. after_high r.row r.levels (plain e.expr) h p next)
operand r (AfterHigh e h p) next = after_high r.row r.levels (plain e.expr) h p next
operand r (Low e h p) next = a_number (λ l q. expect m.CloseBrace (tail r.row r.levels (tree.slice (plain e.expr) h (Some l) p) next))
operand r (Width e p) next = a_number (λ k q. expect m.Close (tail r.row r.levels (tree.to_bv (plain e.expr) k q p) next))

abbrev pub next_state : Next → (Tree Word → State) → State
next_state x next = behind x.marks (operand x.room x.piece next)

-- the state behind a token, by what it does to an expression
abbrev pub outcome : Outcome → (Tree Word → State) → Token → Option State
outcome (Taken x) next t = Some (next_state x next)
outcome (Over e) next t = step (next (plain e.expr)) t
outcome Stuck next t = None

abbrev pub is_over : Outcome → Bool
is_over (Over e) = true
is_over (Taken x) = false
is_over Stuck = false

-- the token makes of what waited before, and of what is to come, what waits after it and the outcome
abbrev pub Moves : Outcome → (before after : List Pending) → Token → ((Tree Word → State) → Token → Option State) → Type 0
Moves o before after t reads = (k : Tree Word → State) → outcome o (expr_next after k) t ≡ reads (expr_next before k) t

-- the storage that the token is
abbrev pub storage_of : Token → Option Storage
storage_of (storage s _) = Some s
storage_of _ = None

-- the type of a base by its shape
abbrev pub shaped : Storage → Shape → Base → Option Place → Typing
shaped s Single b p = typing s b p
shaped s (Array n q) b p = array_typing s b p n q

abbrev pub type_state : TypePart → (Typing → State) → State
type_state (Stored s) next = stored s next
type_state (Len s) next = a_number (λ n q. expect m.CloseBracket (a_base (λ b p. next (array_typing s b p n q))))
type_state (Element s h) next = a_base (λ b p. next (shaped s h b p))
type_state (Size k s h) next = a_number (λ n r. expect m.CloseBrace (next (shaped s h (sized_base k n) (Some r))))
type_state (t.Nothing ty) next = next ty

-- the state behind a token that may begin a type, or else what is around it
abbrev pub reads_type : Option NextType → (Typing → State) → Option State → Option State
reads_type None next outer = outer
reads_type (Some x) next outer = Some (behind x.marks (type_state x.part next))

abbrev pub type_outcome : TypeOutcome → (Typing → State) → Token → Option State
type_outcome (ty.Taken x) next t = Some (behind x.marks (type_state x.part next))
type_outcome (ty.Over typing) next t = step (next typing) t
type_outcome ty.Stuck next t = None

abbrev pub init_state : InitPart → (Option Init → State) → State
init_state Equals next = init next
init_state Constant next = a_const (λ i. next (Some i))
init_state (Negative p) next = a_number (λ n q. next (Some (record { value = start.Number true n; place = p })))
init_state (it.Nothing i) next = next (Some i)

abbrev pub init_outcome : InitOutcome → (Option Init → State) → Token → Option State
init_outcome (io.Taken part) next t = Some (init_state part next)
init_outcome (io.Over i) next t = step (next i) t
init_outcome io.Stuck next t = None

-- where no mark has to come first, as many wait as before
abbrev pub WaitsAsBefore : Marks → (before after : List Pending) → Type 0
WaitsAsBefore Zero before after = length after ≡ length before
WaitsAsBefore _ before after = Unit {0}
