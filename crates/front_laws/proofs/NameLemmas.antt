-- Each name token of a lexed text is a word; and rule by rule, what derives from such tokens has words for names,
-- and such tokens are left.
use Rattle.std.proofs.Common.{◌≡◌, ℕ, Bool, true, false, not, ◌&&◌, List, [], ◌∷◌, ◌++◌, Option, All, Contains, refl, ⊎_elim, arith}
use Rattle.std.specs.Str.{bytes_eq}
use Rattle.std.proofs.lemmas.Bool.{and_parts, cases_Bool, false≢true}
use Rattle.std.proofs.lemmas.List.Elements.{All-contains, All-head, All-push, All-tail}
use Rattle.quartz_tree.specs.declared.place.Place.{Place}
use Rattle.quartz_tree.specs.declared.declare.Base.{Base}
use Rattle.quartz_tree.specs.declared.declare.Decl.{Decl}
use Rattle.quartz_tree.specs.declared.declare.Init.{Init}
use Rattle.quartz_tree.specs.declared.declare.Storage.{Storage}
use Rattle.quartz_tree.specs.declared.surface.Arg.{Arg}
use Rattle.quartz_tree.specs.Tree.{Tree}
use Rattle.quartz_tree.specs.Surfaces.{Word, Goal, Written, Branch, ModuleTree, branch, branches_of}
use Rattle.quartz_lexer.specs.declared.token.TokenKind.{TokenKind}
use Rattle.quartz_lexer.specs.declared.token.TokenKind.TheVariants as kind
use Rattle.quartz_lexer.specs.Spelling.{is_word_byte, IsWord, Spells}
use Rattle.quartz_lexer.specs.Lexing.{Lexeme, Lexes, Reads, done, gap, token}
use Rattle.quartz_parser.specs.declared.declaring.Typing.{Typing}
use Rattle.quartz_parser.specs.declared.symbol.Symbol.{Symbol}
use Rattle.quartz_parser.specs.declared.symbol.Symbol.TheVariants as s
use Rattle.quartz_parser.specs.Tokens.{Token, name}
use Rattle.quartz_parser.specs.Grammar as g
use Rattle.quartz_parser.specs.Grammar.{IsExpr, IsWhole, IsBase, IsType, IsHead, IsConst, IsInit, IsFlow, IsParams, IsParamList, IsLocal, IsDecls, IsOpenDecls, IsTarget, IsLabel, IsMode, IsNames, IsArgs, IsStmt, IsSeq, IsBranches, IsBlock, IsModule, IsText}
use Rattle.quartz_parser.specs.Parsing.{DerivesText}
use Rattle.quartz_parser.specs.Symbols.{find, keywords, signs, symbol_of, token_with, tokens_of}
use Rattle.front_laws.specs.Names.{WordsIn, WordsInGoal, WordsInDecls, WordsInArgs, WordsInStmt, WordsInBranch, WordsInBranches, WordsInModule}

-- the dot is no byte of a word
pub words_hold_no_dot : (x : Word) → IsWord x → ¬ (Contains x 46)
words_hold_no_dot x w c = false≢true (All-contains (λ b. is_word_byte b ≡ true) x 46 w.goes_on c)

-- the name of a token, where it has one, is a word
abbrev TokenWord : Token → Type 0
TokenWord (name x _) = IsWord x
TokenWord _ = Unit {0}

data Worded : List Token → Type 0 where
  over : Worded []
  more : {t : Token} {ts : List Token} → TokenWord t → Worded ts → Worded (t ∷ ts)

first : {t : Token} {ts : List Token} → Worded (t ∷ ts) → TokenWord t
first (more h w) = h

rest : {t : Token} {ts : List Token} → Worded (t ∷ ts) → Worded ts
rest (more h w) = w

-- no keyword and no sign is a name
abbrev is_name : Symbol → Bool
is_name s.Name = true
is_name _ = false

abbrev no_names : List (List ℕ × Symbol) → Bool
no_names [] = true
no_names (e ∷ es) = not (is_name e.1) && no_names es

symbol_word : (k : Symbol) (x : List ℕ) (p : Place) → not (is_name k) ≡ true → TokenWord (token_with k x p)
symbol_word (s.Mark k) x p h = tt
symbol_word s.Name x p h = absurd (false≢true h)
symbol_word s.Number x p h = tt
symbol_word s.Bits x p h = tt
symbol_word (s.Truth b) x p h = tt
symbol_word (s.Storage k) x p h = tt
symbol_word (s.Scalar k) x p h = tt
symbol_word (s.Infix op) x p h = tt
symbol_word (s.Preempt b) x p h = tt
symbol_word s.Other x p h = tt

found_word : (table : List (List ℕ × Symbol)) (x : List ℕ) (p : Place) → no_names table ≡ true → TokenWord (token_with (find table x) x p)
found_word [] x p h = tt
found_word (e ∷ es) x p h =
    let parts = and_parts (not (is_name e.1)) (no_names es) h in
    ⊎_elim (λ yes. rw yes (symbol_word e.1 x p parts.0)) (λ no. rw no (found_word es x p parts.1)) (cases_Bool (bytes_eq e.0 x))

token_word : (k : TokenKind) (x : List ℕ) (p : Place) → Spells k x → TokenWord (token_with (symbol_of k x) x p)
token_word kind.Name x p h = h.0
token_word kind.Keyword x p h = found_word keywords x p refl
token_word kind.Number x p h = tt
token_word kind.Bits x p h = tt
token_word kind.Sign x p h = found_word signs x p refl

reads_words : (p : Place) (text : List ℕ) (ls : List Lexeme) (q : Place) (left : List ℕ) → Reads p text ls q left → Worded (tokens_of ls)
reads_words _ _ _ _ _ (done p text) = over
reads_words _ _ _ _ _ (gap p bytes back ls q left k r) = reads_words _ back ls q left r
reads_words _ _ _ _ _ (token p k word back ls q left t r) = more (token_word k word p t.spelled) (reads_words _ back ls q left r)

-- lists of declarations and of arguments
no_decls : WordsInDecls []
no_decls k d l = absurd (omega (arith, l))

push_decl : (ds : List Decl) (d : Decl) → WordsInDecls ds → IsWord d.name → WordsInDecls (ds ++ d ∷ [])
push_decl ds d h k = All-push (λ d. IsWord d.name) ds d h k

no_args : WordsInArgs []
no_args k d l = absurd (omega (arith, l))

push_arg : (xs : List Arg) (x : Arg) → WordsInArgs xs → IsWord x.name → WordsInArgs (xs ++ x ∷ [])
push_arg xs x h k = All-push (λ x. IsWord x.name) xs x h k

-- expressions
expr_words : {n : ℕ} {ts us : List Token} {e : Tree Word} → IsExpr n ts us e → Worded ts → WordsIn e × Worded us
expr_words (g.expr_looser h _) w = expr_words h w
expr_words (g.expr_choice h k l) w =
    let c = expr_words h w in
    let a = expr_words k (rest c.1) in
    let b = expr_words l (rest a.1) in
    ((c.0, a.0, b.0), b.1)
expr_words (g.expr_binary h k) w =
    let a = expr_words h w in
    let b = expr_words k (rest a.1) in
    ((a.0, b.0), b.1)
expr_words (g.expr_not h) w = expr_words h (rest w)
expr_words (g.expr_minus h) w = expr_words h (rest w)
expr_words (g.expr_bit h) w = let e = expr_words h w in (e.0, rest (rest (rest e.1)))
expr_words (g.expr_slice h) w = let e = expr_words h w in (e.0, rest (rest (rest (rest (rest e.1)))))
expr_words g.expr_truth w = (tt, rest w)
expr_words g.expr_number w = (tt, rest w)
expr_words g.expr_bits w = (tt, rest w)
expr_words g.expr_named w = (first w, rest w)
expr_words (g.expr_element h) w = let e = expr_words h (rest (rest w)) in ((first w, e.0), rest e.1)
expr_words (g.expr_to_nat h) w = let e = expr_words h (rest (rest w)) in (e.0, rest e.1)
expr_words (g.expr_to_bv h) w = let e = expr_words h (rest (rest w)) in (e.0, rest (rest (rest e.1)))
expr_words (g.expr_paren h) w = let e = expr_words h (rest w) in (e.0, rest e.1)

whole_words : {ts us : List Token} {e : Tree Word} → IsWhole ts us e → Worded ts → WordsIn e × Worded us
whole_words h w = expr_words h.shape w

-- types and start values have no names
base_rest : {ts us : List Token} {b : Base} {p : Option Place} → IsBase ts us b p → Worded ts → Worded us
base_rest g.base_bool w = rest w
base_rest g.base_sized w = rest (rest (rest (rest w)))

type_rest : {s : Storage} {ts us : List Token} {t : Typing} → IsType s ts us t → Worded ts → Worded us
type_rest (g.type_scalar h) w = base_rest h w
type_rest (g.type_array h) w = base_rest h (rest (rest (rest w)))

head_rest : {ts us : List Token} {t : Typing} → IsHead ts us t → Worded ts → Worded us
head_rest (g.head_unstored h) w = type_rest h w
head_rest (g.head_stored h) w = type_rest h (rest w)
head_rest g.head_untyped w = rest w

const_rest : {ts us : List Token} {i : Init} → IsConst ts us i → Worded ts → Worded us
const_rest g.const_truth w = rest w
const_rest g.const_number w = rest w
const_rest g.const_minus w = rest (rest w)
const_rest g.const_bits w = rest w

init_rest : {ts us : List Token} {i : Option Init} → IsInit ts us i → Worded ts → Worded us
init_rest g.init_without w = w
init_rest (g.init_with h) w = const_rest h (rest w)

-- parameters and locals
flow_words : {t : Typing} {ts us : List Token} {d : Decl} → IsFlow t ts us d → Worded ts → IsWord d.name × Worded us
flow_words g.flow_input w = (first (rest w), rest (rest w))
flow_words (g.flow_output h) w = (first (rest w), init_rest h (rest (rest w)))

params_words : {ts us : List Token} {ds : List Decl} {d : Decl} → IsParams ts us ds d → Worded ts → WordsInDecls ds × Worded us
params_words (g.params_first h k) w = let d = flow_words k (head_rest h w) in (push_decl [] _ no_decls d.0, d.1)
params_words (g.params_typed h k l) w =
    let ds = params_words h w in
    let d = flow_words l (head_rest k (rest ds.1)) in
    (push_decl _ _ ds.0 d.0, d.1)
params_words (g.params_same h k) w =
    let ds = params_words h w in
    let d = flow_words k (rest ds.1) in
    (push_decl _ _ ds.0 d.0, d.1)

list_words : {ts us : List Token} {ds : List Decl} → IsParamList ts us ds → Worded ts → WordsInDecls ds × Worded us
list_words g.list_none w = (no_decls, rest w)
list_words (g.list_some h) w = let ds = params_words h w in (ds.0, rest ds.1)

local_words : {t : Typing} {ts us : List Token} {d : Decl} → IsLocal t ts us d → Worded ts → IsWord d.name × Worded us
local_words (g.local_one h) w = (first w, init_rest h (rest w))

mutual
  decls_words : {ts us : List Token} {ds : List Decl} → IsDecls ts us ds → Worded ts → WordsInDecls ds × Worded us
  decls_words g.decls_none w = (no_decls, w)
  decls_words (g.decls_closed h) w = let ds = open_words h w in (ds.0, rest ds.1)

  open_words : {ts us : List Token} {ds : List Decl} {t : Typing} → IsOpenDecls ts us ds t → Worded ts → WordsInDecls ds × Worded us
  open_words (g.open_head h k l) w =
      let ds = decls_words h w in
      let d = local_words l (head_rest k ds.1) in
      (push_decl _ _ ds.0 d.0, d.1)
  open_words (g.open_also h k) w =
      let ds = open_words h w in
      let d = local_words k (rest ds.1) in
      (push_decl _ _ ds.0 d.0, d.1)

-- targets, labels, modes and arguments
target_words : {ts us : List Token} {goal : Goal} → IsTarget ts us goal → Worded ts → WordsInGoal goal × Worded us
target_words g.target_scalar w = ((first w, tt), rest w)
target_words (g.target_element h) w = let e = whole_words h (rest (rest w)) in ((first w, e.0), rest e.1)

label_rest : {ts us : List Token} → IsLabel ts us → Worded ts → Worded us
label_rest g.label_without w = w
label_rest g.label_with w = rest (rest w)

mode_rest : {ts us : List Token} {weak immediate : Bool} → IsMode ts us weak immediate → Worded ts → Worded us
mode_rest g.mode_plain w = w
mode_rest g.mode_weak w = rest w
mode_rest g.mode_immediate w = rest w
mode_rest g.mode_weak_immediate w = rest (rest w)
mode_rest g.mode_immediate_weak w = rest (rest w)

listed_words : {ts us : List Token} {xs : List Arg} → IsNames ts us xs → Worded ts → WordsInArgs xs × Worded us
listed_words g.names_first w = (push_arg [] _ no_args (first w), rest w)
listed_words (g.names_also h) w =
    let xs = listed_words h w in
    let u = rest xs.1 in
    (push_arg _ _ xs.0 (first u), rest u)

args_words : {ts us : List Token} {xs : List Arg} → IsArgs ts us xs → Worded ts → WordsInArgs xs × Worded us
args_words g.args_none w = (no_args, rest w)
args_words (g.args_some h) w = let xs = listed_words h w in (xs.0, rest xs.1)

-- statements in a row, and branches beside one another
branch_words : (ws : List Written) → All WordsInStmt ws → WordsInBranch (branch ws)
branch_words [] h = tt
branch_words (w ∷ ws) h = (All-head WordsInStmt w ws h, branch_words ws (All-tail WordsInStmt w ws h))

branches_words : (bs : List Branch) → All WordsInBranch bs → WordsInBranches (branches_of bs)
branches_words [] h = tt
branches_words (b ∷ bs) h = (All-head WordsInBranch b bs h, branches_words bs (All-tail WordsInBranch b bs h))

no_statements : All WordsInStmt []
no_statements k d l = absurd (omega (arith, l))

no_branches : All WordsInBranch []
no_branches k d l = absurd (omega (arith, l))

mutual
  stmt_words : {ts us : List Token} {s : Written} → IsStmt ts us s → Worded ts → WordsInStmt s × Worded us
  stmt_words g.stmt_empty w = (tt, rest w)
  stmt_words g.stmt_nothing w = (tt, rest (rest w))
  stmt_words (g.stmt_pause h) w = (tt, rest (rest (label_rest h w)))
  stmt_words (g.stmt_halt h) w = (tt, rest (rest (label_rest h w)))
  stmt_words (g.stmt_await h k) w = let c = whole_words k (rest (rest (label_rest h w))) in (c.0, rest (rest c.1))
  stmt_words (g.stmt_await_now h k) w = let c = whole_words k (rest (rest (rest (label_rest h w)))) in (c.0, rest (rest c.1))
  stmt_words (g.stmt_emit h) w = let t = target_words h (rest w) in (t.0, rest t.1)
  stmt_words (g.stmt_emit_in h) w = let t = target_words h (rest (rest w)) in (t.0, rest (rest t.1))
  stmt_words (g.stmt_emit_next h) w = let t = target_words h (rest (rest (rest w))) in (t.0, rest (rest t.1))
  stmt_words (g.stmt_write h k) w =
      let t = target_words h w in
      let e = whole_words k (rest t.1) in
      ((t.0, e.0), rest e.1)
  stmt_words (g.stmt_write_next h k) w =
      let t = target_words h (rest (rest w)) in
      let e = whole_words k (rest (rest t.1)) in
      ((t.0, e.0), rest e.1)
  stmt_words (g.stmt_inner h) w = block_words h w
  stmt_words (g.stmt_if_alone h k _) w =
      let c = whole_words h (rest (rest w)) in
      let a = stmt_words k (rest c.1) in
      ((c.0, a.0), a.1)
  stmt_words (g.stmt_if_else h k l) w =
      let c = whole_words h (rest (rest w)) in
      let a = stmt_words k (rest c.1) in
      let b = stmt_words l (rest a.1) in
      ((c.0, a.0, b.0), b.1)
  stmt_words (g.stmt_loop h) w = stmt_words h (rest w)
  stmt_words (g.stmt_always h) w = stmt_words h (rest w)
  stmt_words (g.stmt_while h k) w =
      let c = whole_words h (rest (rest w)) in
      let a = stmt_words k (rest c.1) in
      ((c.0, a.0), a.1)
  stmt_words (g.stmt_do_while h k) w =
      let a = stmt_words h (rest w) in
      let c = whole_words k (rest (rest a.1)) in
      ((a.0, c.0), rest (rest c.1))
  stmt_words (g.stmt_guard h k l) w =
      let a = stmt_words k (rest (mode_rest h w)) in
      let c = whole_words l (rest (rest a.1)) in
      ((a.0, c.0), rest (rest c.1))
  stmt_words (g.stmt_call h) w = let xs = args_words h (rest (rest w)) in ((first w, xs.0), rest xs.1)

  seq_words : {ts us : List Token} {ws : List Written} → IsSeq ts us ws → Worded ts → All WordsInStmt ws × Worded us
  seq_words g.seq_none w = (no_statements, w)
  seq_words (g.seq_also h k) w =
      let ws = seq_words h w in
      let s = stmt_words k ws.1 in
      (All-push WordsInStmt _ _ ws.0 s.0, s.1)

  beside_words : {ts us : List Token} {bs : List Branch} → IsBranches ts us bs → Worded ts → All WordsInBranch bs × Worded us
  beside_words (g.branches_first h) w = let ws = seq_words h w in (All-push WordsInBranch [] _ no_branches (branch_words _ ws.0), ws.1)
  beside_words (g.branches_also h k) w =
      let bs = beside_words h w in
      let ws = seq_words k (rest bs.1) in
      (All-push WordsInBranch _ _ bs.0 (branch_words _ ws.0), ws.1)

  block_words : {ts us : List Token} {s : Written} → IsBlock ts us s → Worded ts → WordsInStmt s × Worded us
  block_words (g.block_one h k) w =
      let ds = decls_words h (rest w) in
      let bs = beside_words k ds.1 in
      ((ds.0, branches_words _ bs.0), rest bs.1)

-- modules and texts
module_words : {ts us : List Token} {m : ModuleTree} → IsModule ts us m → Worded ts → WordsInModule m × Worded us
module_words (g.module_one h k _) w =
    let u = rest w in
    let ds = list_words h (rest (rest u)) in
    let b = block_words k ds.1 in
    (record { name = first u; params = ds.0; body = b.0 }, b.1)

no_modules : All WordsInModule []
no_modules k d l = absurd (omega (arith, l))

text_words : {ts us : List Token} {ms : List ModuleTree} → IsText ts us ms → Worded ts → All WordsInModule ms × Worded us
text_words (g.text_first h) w = let m = module_words h w in (All-push WordsInModule [] _ no_modules m.0, m.1)
text_words (g.text_also h k) w =
    let ms = text_words h w in
    let m = module_words k ms.1 in
    (All-push WordsInModule _ _ ms.0 m.0, m.1)

pub names_are_words : (text : List ℕ) (ls : List Lexeme) (ms : List ModuleTree) → Lexes text ls → DerivesText ls ms → All WordsInModule ms
names_are_words text ls ms l d = (text_words d (reads_words _ text ls _ _ l.reads)).0
