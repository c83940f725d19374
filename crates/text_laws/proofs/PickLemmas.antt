-- The places at which a module declares its variables are places of names among its tokens, in their order.
use Rattle.std.proofs.Common.{◌≡◌, ℕ, Bool, List, [], ◌∷◌, ◌++◌, map, Option, refl, sym, ap, subst, ◌∙◌, append_assoc, append-nil}
use Rattle.quartz_tree.specs.declared.place.Place.{Place}
use Rattle.quartz_tree.specs.declared.declare.Decl.{Decl}
use Rattle.quartz_tree.specs.declared.declare.Init.{Init}
use Rattle.quartz_tree.specs.declared.declare.Base.{Base}
use Rattle.quartz_tree.specs.declared.declare.Storage.{Storage}
use Rattle.quartz_tree.specs.declared.surface.Arg.{Arg}
use Rattle.quartz_tree.specs.Tree.{Tree}
use Rattle.quartz_tree.specs.Surfaces.{Word, Goal, Written, Branch, branch, branches_of, ModuleTree}
use Rattle.quartz_tree.specs.Expand.{expanded, expanded_branch, expanded_branches}
use Rattle.quartz_parser.specs.declared.declaring.Typing.{Typing}
use Rattle.quartz_parser.specs.Tokens.{Token, name}
use Rattle.quartz_parser.specs.Grammar as g
use Rattle.quartz_parser.specs.Grammar.{IsExpr, IsBase, IsType, IsHead, IsConst, IsInit, IsFlow, IsParams, IsParamList, IsLocal, IsDecls, IsOpenDecls, IsTarget, IsLabel, IsMode, IsNames, IsArgs, IsStmt, IsSeq, IsBranches, IsBlock, IsModule, IsText}
use Rattle.quartz_names.specs.Numbering.{locals, locals_of_branch, locals_of_branches}
use Rattle.quartz_names.specs.Resolving.{declarations}

-- from these tokens on up to those, the places are those of some of the names between, in their order
pub data Picks : List Token → List Token → List Place → Type 0 where
  stop : {us : List Token} → Picks us us []
  skip : {t : Token} {ts us : List Token} {ps : List Place} → Picks ts us ps → Picks (t ∷ ts) us ps
  pick : {x : Word} {p : Place} {ts us : List Token} {ps : List Place} → Picks ts us ps → Picks (name x p ∷ ts) us (p ∷ ps)

join : {ts us vs : List Token} {ps qs : List Place} → Picks ts us ps → Picks us vs qs → Picks ts vs (ps ++ qs)
join stop b = b
join (skip a) b = skip (join a b)
join (pick a) b = pick (join a b)

-- with no place behind
onward : {ts us vs : List Token} {ps : List Place} → Picks ts us ps → Picks us vs [] → Picks ts vs ps
onward stop b = b
onward (skip a) b = skip (onward a b)
onward (pick a) b = pick (onward a b)

forget : {ts us : List Token} {ps : List Place} → Picks ts us ps → Picks ts us []
forget stop = stop
forget (skip a) = skip (forget a)
forget (pick a) = skip (forget a)

off : {t : Token} {us : List Token} → Picks (t ∷ us) us []
off = skip stop

-- ---- expressions

expr : {n : ℕ} {ts us : List Token} {e : Tree Word} → IsExpr n ts us e → Picks ts us []
expr (g.expr_looser a _) = expr a
expr (g.expr_choice c a b) = onward (expr c) (skip (onward (expr a) (skip (expr b))))
expr (g.expr_binary a b) = onward (expr a) (skip (expr b))
expr (g.expr_not a) = skip (expr a)
expr (g.expr_minus a) = skip (expr a)
expr (g.expr_bit a) = onward (expr a) (skip (skip off))
expr (g.expr_slice a) = onward (expr a) (skip (skip (skip (skip off))))
expr g.expr_truth = off
expr g.expr_number = off
expr g.expr_bits = off
expr g.expr_named = off
expr (g.expr_element a) = skip (skip (onward (expr a) off))
expr (g.expr_to_nat a) = skip (skip (onward (expr a) off))
expr (g.expr_to_bv a) = skip (skip (onward (expr a) (skip (skip off))))
expr (g.expr_paren a) = skip (onward (expr a) off)

-- ---- declarations

abbrev pub places : List Decl → List Place
places ds = map (λ (d : Decl). d.place) ds

places_of_both : (ds es : List Decl) → places (ds ++ es) ≡ places ds ++ places es
places_of_both [] es = refl
places_of_both (d ∷ ds) es = ap (λ (ps : List Place). d.place ∷ ps) (places_of_both ds es)

both : {ts us vs : List Token} (ds es : List Decl) → Picks ts us (places ds) → Picks us vs (places es) → Picks ts vs (places (ds ++ es))
both {ts = ts} {vs = vs} ds es a b = subst (Picks ts vs) (sym (places_of_both ds es)) (join a b)

base : {ts us : List Token} {b : Base} {p : Option Place} → IsBase ts us b p → Picks ts us []
base g.base_bool = off
base g.base_sized = skip (skip (skip off))

type_of : {s : Storage} {ts us : List Token} {t : Typing} → IsType s ts us t → Picks ts us []
type_of (g.type_scalar b) = base b
type_of (g.type_array b) = skip (skip (skip (base b)))

head : {ts us : List Token} {t : Typing} → IsHead ts us t → Picks ts us []
head (g.head_unstored t) = type_of t
head (g.head_stored t) = skip (type_of t)
head g.head_untyped = off

constant : {ts us : List Token} {i : Init} → IsConst ts us i → Picks ts us []
constant g.const_truth = off
constant g.const_number = off
constant g.const_minus = skip off
constant g.const_bits = off

init : {ts us : List Token} {i : Option Init} → IsInit ts us i → Picks ts us []
init g.init_without = stop
init (g.init_with c) = skip (constant c)

flow : {t : Typing} {ts us : List Token} {d : Decl} → IsFlow t ts us d → Picks ts us (d.place ∷ [])
flow g.flow_input = skip (pick stop)
flow (g.flow_output i) = skip (pick (init i))

params : {ts us : List Token} {ds : List Decl} {d : Decl} → IsParams ts us ds d → Picks ts us (places ds)
params (g.params_first h f) = join (head h) (flow f)
params (g.params_typed {ds = ds} {e = e} r h f) = both ds (e ∷ []) (params r) (skip (join (head h) (flow f)))
params (g.params_same {ds = ds} {e = e} r f) = both ds (e ∷ []) (params r) (skip (flow f))

param_list : {ts us : List Token} {ds : List Decl} → IsParamList ts us ds → Picks ts us (places ds)
param_list g.list_none = off
param_list (g.list_some r) = onward (params r) off

local : {t : Typing} {ts us : List Token} {d : Decl} → IsLocal t ts us d → Picks ts us (d.place ∷ [])
local (g.local_one i) = pick (init i)

mutual
  decls : {ts us : List Token} {ds : List Decl} → IsDecls ts us ds → Picks ts us (places ds)
  decls g.decls_none = stop
  decls (g.decls_closed o) = onward (open_decls o) off

  open_decls : {ts us : List Token} {ds : List Decl} {t : Typing} → IsOpenDecls ts us ds t → Picks ts us (places ds)
  open_decls (g.open_head {ds = ds} {d = d} r h l) = both ds (d ∷ []) (decls r) (join (head h) (local l))
  open_decls (g.open_also {ds = ds} {d = d} o l) = both ds (d ∷ []) (open_decls o) (skip (local l))

-- ---- statements

target : {ts us : List Token} {w : Goal} → IsTarget ts us w → Picks ts us []
target g.target_scalar = off
target (g.target_element e) = skip (skip (onward (expr e.shape) off))

label : {ts us : List Token} → IsLabel ts us → Picks ts us []
label g.label_without = stop
label g.label_with = skip off

mode : {ts us : List Token} {w i : Bool} → IsMode ts us w i → Picks ts us []
mode g.mode_plain = stop
mode g.mode_weak = off
mode g.mode_immediate = off
mode g.mode_weak_immediate = skip off
mode g.mode_immediate_weak = skip off

names : {ts us : List Token} {xs : List Arg} → IsNames ts us xs → Picks ts us []
names g.names_first = off
names (g.names_also r) = onward (names r) (skip off)

args : {ts us : List Token} {xs : List Arg} → IsArgs ts us xs → Picks ts us []
args g.args_none = off
args (g.args_some r) = onward (names r) off

abbrev inner : Written → List Decl
inner w = locals (expanded w)

abbrev inner_of_branch : List Written → List Decl
inner_of_branch ws = locals_of_branch (expanded_branch (branch ws))

abbrev inner_of_branches : List Branch → List Decl
inner_of_branches bs = locals_of_branches (expanded_branches (branches_of bs))

-- a statement more in a branch, and a branch more in a block
branch_also : (ws : List Written) (w : Written) → inner_of_branch (ws ++ w ∷ []) ≡ inner_of_branch ws ++ inner w
branch_also [] w = append-nil (inner w)
branch_also (v ∷ ws) w = ap (λ (ds : List Decl). inner v ++ ds) (branch_also ws w) ∙ sym (append_assoc (inner v) (inner_of_branch ws) (inner w))

branches_also : (bs : List Branch) (ws : List Written) → inner_of_branches (bs ++ branch ws ∷ []) ≡ inner_of_branches bs ++ inner_of_branch ws
branches_also [] ws = append-nil (inner_of_branch ws)
branches_also (b ∷ bs) ws =
    let front : List Decl = locals_of_branch (expanded_branch b) in
    ap (λ (ds : List Decl). front ++ ds) (branches_also bs ws) ∙ sym (append_assoc front (inner_of_branches bs) (inner_of_branch ws))

-- what `always` adds declares nothing
around_pause : (ds : List Decl) → (ds ++ []) ++ [] ≡ ds
around_pause ds = append-nil (ds ++ []) ∙ append-nil ds

mutual
  stmt : {ts us : List Token} {w : Written} → IsStmt ts us w → Picks ts us (places (inner w))
  stmt g.stmt_empty = off
  stmt g.stmt_nothing = skip off
  stmt (g.stmt_pause l) = onward (label l) (skip off)
  stmt (g.stmt_halt l) = onward (label l) (skip off)
  stmt (g.stmt_await l c) = onward (label l) (skip (skip (onward (expr c.shape) (skip off))))
  stmt (g.stmt_await_now l c) = onward (label l) (skip (skip (skip (onward (expr c.shape) (skip off)))))
  stmt (g.stmt_emit t) = skip (onward (target t) off)
  stmt (g.stmt_emit_in t) = skip (skip (onward (target t) (skip off)))
  stmt (g.stmt_emit_next t) = skip (skip (skip (onward (target t) (skip off))))
  stmt (g.stmt_write t e) = onward (target t) (skip (onward (expr e.shape) off))
  stmt (g.stmt_write_next t e) = skip (skip (onward (target t) (skip (skip (onward (expr e.shape) off)))))
  stmt (g.stmt_inner b) = block b
  stmt (g.stmt_if_alone c a _) = skip (skip (join (expr c.shape) (skip (stmt a))))
  stmt (g.stmt_if_else {a = a} {b = b} c s t) = skip (skip (join (expr c.shape) (skip (both (inner a) (inner b) (stmt s) (skip (stmt t))))))
  stmt (g.stmt_loop s) = skip (stmt s)
  stmt (g.stmt_always {ts = ts} {us = us} {w = w} s) = skip (subst (λ (ds : List Decl). Picks ts us (places ds)) (sym (around_pause (inner w))) (stmt s))
  stmt (g.stmt_while c s) = skip (skip (join (expr c.shape) (skip (stmt s))))
  stmt (g.stmt_do_while s c) = skip (onward (stmt s) (skip (skip (onward (expr c.shape) (skip off)))))
  stmt (g.stmt_guard m s c) = join (mode m) (skip (onward (stmt s) (skip (skip (onward (expr c.shape) (skip off))))))
  stmt (g.stmt_call a) = skip (skip (onward (args a) off))

  seq : {ts us : List Token} {ws : List Written} → IsSeq ts us ws → Picks ts us (places (inner_of_branch ws))
  seq g.seq_none = stop
  seq {ts = ts} (g.seq_also {vs = vs} {ws = ws} {w = w} r s) =
      subst (λ (ds : List Decl). Picks ts vs (places ds)) (sym (branch_also ws w)) (both (inner_of_branch ws) (inner w) (seq r) (stmt s))

  branches : {ts us : List Token} {bs : List Branch} → IsBranches ts us bs → Picks ts us (places (inner_of_branches bs))
  branches {ts = ts} (g.branches_first {us = us} {ws = ws} s) =
      subst (λ (ds : List Decl). Picks ts us (places ds)) (sym (append-nil (inner_of_branch ws))) (seq s)
  branches {ts = ts} (g.branches_also {vs = vs} {bs = bs} {ws = ws} r s) =
      subst (λ (ds : List Decl). Picks ts vs (places ds)) (sym (branches_also bs ws)) (both (inner_of_branches bs) (inner_of_branch ws) (branches r) (skip (seq s)))

  block : {ts us : List Token} {w : Written} → IsBlock ts us w → Picks ts us (places (inner w))
  block (g.block_one {ds = ds} {bs = bs} d r) = skip (both ds (inner_of_branches bs) (decls d) (onward (branches r) off))

-- ---- modules and texts

module_of : {ts us : List Token} {m : ModuleTree} → IsModule ts us m → Picks ts us (places (declarations m))
module_of (g.module_one {ds = ds} {b = b} l s _) = skip (skip (skip (both ds (inner b) (param_list l) (block s))))

-- so are the declarations of each module of a list
abbrev pub EachPicks : List Token → List Token → List ModuleTree → Type 0
EachPicks ts us [] = Unit {0}
EachPicks ts us (m ∷ ms) = Picks ts us (places (declarations m)) × EachPicks ts us ms

each_also : {ts us vs : List Token} (ms : List ModuleTree) (m : ModuleTree) → EachPicks ts us ms → Picks us vs [] → Picks ts vs (places (declarations m)) → EachPicks ts vs (ms ++ m ∷ [])
each_also [] m e behind p = (p, tt)
each_also (k ∷ ms) m e behind p = (onward e.0 behind, each_also ms m e.1 behind p)

text_picks : {ts us : List Token} {ms : List ModuleTree} → IsText ts us ms → EachPicks ts us ms × Picks ts us []
text_picks (g.text_first m) = ((module_of m, tt), forget (module_of m))
text_picks (g.text_also {ms = ms} {m = m} r s) =
    let front = text_picks r in
    let last = module_of s in
    (each_also ms m front.0 (forget last) (join front.1 last), onward front.1 (forget last))

pub each_picks : {ts us : List Token} {ms : List ModuleTree} → IsText ts us ms → EachPicks ts us ms
each_picks t = (text_picks t).0
