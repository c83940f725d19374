-- Rule by rule: the declarations of a parameter list are inputs and outputs, those of a block's head are locals, and so are all that the
-- statements of its branches declare, also once their derived forms are replaced.
use Rattle.std.proofs.Common.{◌≡◌, ◌⊎◌, true, inl, inr, List, [], ◌∷◌, ◌++◌, All, refl, arith}
use Rattle.std.proofs.lemmas.List.Elements.{All-head, All-push, All-tail}
use Rattle.quartz_tree.specs.declared.declare.Decl.{Decl}
use Rattle.quartz_tree.specs.declared.declare.Flow.TheVariants.{Input, Output, Inner}
use Rattle.quartz_tree.specs.Expand.{expanded, expanded_branch, expanded_branches}
use Rattle.quartz_tree.specs.Surfaces.{Written, Branch, ModuleTree, branch, branches_of}
use Rattle.quartz_parser.specs.declared.declaring.Typing.{Typing}
use Rattle.quartz_parser.specs.Tokens.{Token}
use Rattle.quartz_parser.specs.Grammar as g
use Rattle.quartz_parser.specs.Grammar.{IsFlow, IsParams, IsParamList, IsLocal, IsDecls, IsOpenDecls, IsStmt, IsSeq, IsBranches, IsBlock, IsModule, IsText}
use Rattle.quartz_names.specs.Numbering.{locals, locals_of_branch, locals_of_branches}
use Rattle.block_laws.specs.Laws.{AreOuter, AreInner, is_block, DeclaresInPlace, ModulesDeclareInPlace}

-- ---- lists of declarations

outer_push : (ds : List Decl) (d : Decl) → AreOuter ds → (d.flow ≡ Input) ⊎ (d.flow ≡ Output) → AreOuter (ds ++ d ∷ [])
outer_push [] d h k = (k, tt)
outer_push (e ∷ ds) d h k = (h.0, outer_push ds d h.1 k)

inner_both : (ds es : List Decl) → AreInner ds → AreInner es → AreInner (ds ++ es)
inner_both [] es h k = k
inner_both (d ∷ ds) es h k = (h.0, inner_both ds es h.1 k)

inner_push : (ds : List Decl) (d : Decl) → AreInner ds → d.flow ≡ Inner → AreInner (ds ++ d ∷ [])
inner_push ds d h k = inner_both ds (d ∷ []) h (k, tt)

-- ---- parameters

flow_outer : {t : Typing} {ts us : List Token} {d : Decl} → IsFlow t ts us d → (d.flow ≡ Input) ⊎ (d.flow ≡ Output)
flow_outer g.flow_input = inl refl
flow_outer (g.flow_output _) = inr refl

params_outer : {ts us : List Token} {ds : List Decl} {d : Decl} → IsParams ts us ds d → AreOuter ds
params_outer (g.params_first _ h) = (flow_outer h, tt)
params_outer (g.params_typed {ds} {e} h _ k) = outer_push ds e (params_outer h) (flow_outer k)
params_outer (g.params_same {ds} {e} h k) = outer_push ds e (params_outer h) (flow_outer k)

list_outer : {ts us : List Token} {ds : List Decl} → IsParamList ts us ds → AreOuter ds
list_outer g.list_none = tt
list_outer (g.list_some h) = params_outer h

-- ---- heads of blocks

local_inner : {t : Typing} {ts us : List Token} {d : Decl} → IsLocal t ts us d → d.flow ≡ Inner
local_inner (g.local_one _) = refl

mutual
  decls_inner : {ts us : List Token} {ds : List Decl} → IsDecls ts us ds → AreInner ds
  decls_inner g.decls_none = tt
  decls_inner (g.decls_closed h) = open_inner h

  open_inner : {ts us : List Token} {ds : List Decl} {t : Typing} → IsOpenDecls ts us ds t → AreInner ds
  open_inner (g.open_head {ds} {d} h _ k) = inner_push ds d (decls_inner h) (local_inner k)
  open_inner (g.open_also {ds} {d} h k) = inner_push ds d (open_inner h) (local_inner k)

-- ---- statements

abbrev InStmt : Written → Type 0
InStmt w = AreInner (locals (expanded w))

abbrev InBranch : Branch → Type 0
InBranch b = AreInner (locals_of_branch (expanded_branch b))

branch_inner : (ws : List Written) → All InStmt ws → InBranch (branch ws)
branch_inner [] h = tt
branch_inner (w ∷ ws) h = inner_both (locals (expanded w)) (locals_of_branch (expanded_branch (branch ws))) (All-head InStmt w ws h) (branch_inner ws (All-tail InStmt w ws h))

branches_inner : (bs : List Branch) → All InBranch bs → AreInner (locals_of_branches (expanded_branches (branches_of bs)))
branches_inner [] h = tt
branches_inner (b ∷ bs) h = inner_both (locals_of_branch (expanded_branch b)) (locals_of_branches (expanded_branches (branches_of bs))) (All-head InBranch b bs h) (branches_inner bs (All-tail InBranch b bs h))

no_statements : All InStmt []
no_statements k d l = absurd (omega (arith, l))

no_branches : All InBranch []
no_branches k d l = absurd (omega (arith, l))

-- behind a pause that is added
always_inner : (ds : List Decl) → AreInner ds → AreInner ((ds ++ []) ++ [])
always_inner ds h = inner_both (ds ++ []) [] (inner_both ds [] h tt) tt

mutual
  stmt_inner : {ts us : List Token} {w : Written} → IsStmt ts us w → InStmt w
  stmt_inner g.stmt_empty = tt
  stmt_inner g.stmt_nothing = tt
  stmt_inner (g.stmt_pause _) = tt
  stmt_inner (g.stmt_halt _) = tt
  stmt_inner (g.stmt_await _ _) = tt
  stmt_inner (g.stmt_await_now _ _) = tt
  stmt_inner (g.stmt_emit _) = tt
  stmt_inner (g.stmt_emit_in _) = tt
  stmt_inner (g.stmt_emit_next _) = tt
  stmt_inner (g.stmt_write _ _) = tt
  stmt_inner (g.stmt_write_next _ _) = tt
  stmt_inner (g.stmt_inner h) = block_inner h
  stmt_inner (g.stmt_if_alone _ h _) = stmt_inner h
  stmt_inner (g.stmt_if_else {a} {b} _ h k) = inner_both (locals (expanded a)) (locals (expanded b)) (stmt_inner h) (stmt_inner k)
  stmt_inner (g.stmt_loop h) = stmt_inner h
  stmt_inner (g.stmt_always {w} h) = always_inner (locals (expanded w)) (stmt_inner h)
  stmt_inner (g.stmt_while _ h) = stmt_inner h
  stmt_inner (g.stmt_do_while h _) = stmt_inner h
  stmt_inner (g.stmt_guard _ h _) = stmt_inner h
  stmt_inner (g.stmt_call _) = tt

  seq_inner : {ts us : List Token} {ws : List Written} → IsSeq ts us ws → All InStmt ws
  seq_inner g.seq_none = no_statements
  seq_inner (g.seq_also {ws} {w} h k) = All-push InStmt ws w (seq_inner h) (stmt_inner k)

  beside_inner : {ts us : List Token} {bs : List Branch} → IsBranches ts us bs → All InBranch bs
  beside_inner (g.branches_first {ws} h) = All-push InBranch [] (branch ws) no_branches (branch_inner ws (seq_inner h))
  beside_inner (g.branches_also {bs} {ws} h k) = All-push InBranch bs (branch ws) (beside_inner h) (branch_inner ws (seq_inner k))

  block_inner : {ts us : List Token} {w : Written} → IsBlock ts us w → InStmt w
  block_inner (g.block_one {ds} {bs} h k) = inner_both ds (locals_of_branches (expanded_branches (branches_of bs))) (decls_inner h) (branches_inner bs (beside_inner k))

block_is : {ts us : List Token} {w : Written} → IsBlock ts us w → is_block w ≡ true
block_is (g.block_one _ _) = refl

-- ---- modules and texts

module_in_place : {ts us : List Token} {m : ModuleTree} → IsModule ts us m → DeclaresInPlace m
module_in_place (g.module_one h k _) = record { params = list_outer h; body = block_is k; inner = block_inner k }

no_modules : All DeclaresInPlace []
no_modules k d l = absurd (omega (arith, l))

text_in_place : {ts us : List Token} {ms : List ModuleTree} → IsText ts us ms → All DeclaresInPlace ms
text_in_place (g.text_first {m} h) = All-push DeclaresInPlace [] m no_modules (module_in_place h)
text_in_place (g.text_also {ms} {m} h k) = All-push DeclaresInPlace ms m (text_in_place h) (module_in_place k)

pub modules_declare_in_place : ModulesDeclareInPlace
modules_declare_in_place lexemes modules h = text_in_place h
