-- Declarations, statements and modules that derive are read.
use Rattle.std.proofs.Common.{◌≡◌, ◌≤◌, ◌<◌, ℕ, Bool, true, false, ◌-◌, nat_lt, List, [], ◌∷◌, ◌++◌, Option, Some, None, refl, ap, ◌∙◌, arith}
use Rattle.std.specs.Prelude.{if◌then◌else◌, option_and_then}
use Rattle.quartz_tree.specs.declared.place.Place.{Place}
use Rattle.quartz_tree.specs.declared.declare.Base.{Base}
use Rattle.quartz_tree.specs.declared.declare.Base.TheVariants as base
use Rattle.quartz_tree.specs.declared.declare.Storage.{Storage}
use Rattle.quartz_tree.specs.declared.declare.Storage.TheVariants.{Mem}
use Rattle.quartz_tree.specs.declared.declare.Flow.TheVariants.{Output, Inner}
use Rattle.quartz_tree.specs.declared.declare.Init.{Init}
use Rattle.quartz_tree.specs.declared.declare.Decl.{Decl}
use Rattle.quartz_tree.specs.declared.surface.Arg.{Arg}
use Rattle.quartz_tree.specs.Tree.{Tree}
use Rattle.quartz_tree.specs.Surfaces as plain
use Rattle.quartz_tree.specs.Surfaces.{Word, Goal, Written, Branch, Branches, ModuleTree, branch, branches_of}
use Rattle.quartz_parser.specs.declared.declaring.Typing.{Typing}
use Rattle.quartz_parser.specs.declared.symbol.Mark.TheVariants as m
use Rattle.quartz_parser.specs.Tokens.{Token, mark, name, number, storage, sized, preempt}
use Rattle.quartz_parser.specs.Grammar as g
use Rattle.quartz_parser.specs.Grammar.{row, left_row, right_row, level, height, greatest, greatest_of, typing, array_typing, declared_as, taken, sized_base, begins_else, IsExpr, IsWhole, IsBase, IsType, IsHead, IsConst, IsInit, IsFlow, IsParams, IsParamList, IsLocal, IsDecls, IsOpenDecls, IsTarget, IsLabel, IsMode, IsNames, IsArgs, IsStmt, IsSeq, IsBranches, IsBlock, IsModule, IsText}
use Rattle.quartz_parser.specs.Machine.{State, expect, want, a_base, stored, a_const, init, flow, first_param, after_param, next_param, subscript, decls, open_decls, ready, stmt, first_arg, after_arg, after_if, several, base_on, type_on, head_on, param_more, target, condition, right_side, stmt_on, local, header, step}
use Rattle.quartz_parser.proofs.ReadsExpr.{reading, reads_expr, goes_only, lt_true}

-- an expression by itself, up to a mark
reads_condition : {ts us : List Token} {e : Tree Word} {q : Place} → IsWhole ts (mark m.Close q ∷ us) e → (next : Tree Word → State) → reading ts (want 0 64 (λ e. expect m.Close (next e))) ≡ reading us (next e)
reads_condition w next = reads_expr w.shape 0 64 (λ e. expect m.Close (next e)) (omega arith) (omega arith) w.shallow tt

reads_right : {ts us : List Token} {e : Tree Word} {q : Place} → IsWhole ts (mark m.Semicolon q ∷ us) e → (next : Tree Word → State) → reading ts (want 0 64 (λ e. expect m.Semicolon (next e))) ≡ reading us (next e)
reads_right w next = reads_expr w.shape 0 64 (λ e. expect m.Semicolon (next e)) (omega arith) (omega arith) w.shallow tt

reads_index : {ts us : List Token} {e : Tree Word} {q : Place} → IsWhole ts (mark m.CloseBracket q ∷ us) e → (next : Tree Word → State) → reading ts (want 0 64 (λ e. expect m.CloseBracket (next e))) ≡ reading us (next e)
reads_index w next = reads_expr w.shape 0 64 (λ e. expect m.CloseBracket (next e)) (omega arith) (omega arith) w.shallow tt

-- the tokens that begin a base, a type, and a type with its storage
abbrev IsBaseToken : Token → Type 0
IsBaseToken (mark m.Bool _) = Unit {0}
IsBaseToken (sized _ _) = Unit {0}
IsBaseToken _ = ⊥

abbrev IsTypeToken : Token → Type 0
IsTypeToken (mark m.OpenBracket _) = Unit {0}
IsTypeToken t = IsBaseToken t

abbrev IsHeadToken : Token → Type 0
IsHeadToken (storage _ _) = Unit {0}
IsHeadToken t = IsTypeToken t

-- no type begins here, and no `=` comes
abbrev Untyped : List Token → Type 0
Untyped (mark m.Bool _ ∷ _) = ⊥
Untyped (mark m.OpenBracket _ ∷ _) = ⊥
Untyped (sized _ _ ∷ _) = ⊥
Untyped _ = Unit {0}

abbrev Unset : List Token → Type 0
Unset (mark m.Equals _ ∷ _) = ⊥
Unset _ = Unit {0}

reads_base : {ts us : List Token} {b : Base} {p : Option Place} → IsBase ts us b p → (s : State) (next : Base → Option Place → State)
    → ((t : Token) → IsBaseToken t → step s t ≡ base_on next t None) → reading ts s ≡ reading us (next b p)
reads_base (g.base_bool {us = us} {p = p}) s next h = ap (option_and_then (reading us)) (h (mark m.Bool p) tt)
reads_base (g.base_sized {us = us} {k = k} {n = n} {p = p} {q = q} {r = r} {s = o}) s next h =
    ap (option_and_then (reading (mark m.OpenBrace q ∷ number n r ∷ mark m.CloseBrace o ∷ us))) (h (sized k p) tt)

base_is_type : (st : Storage) (next : Typing → State) (s : State) → ((t : Token) → IsTypeToken t → step s t ≡ type_on st next t None)
    → (t : Token) → IsBaseToken t → step s t ≡ base_on (λ b p. next (typing st b p)) t None
base_is_type st next s h (mark m.Bool p) i = h (mark m.Bool p) tt
base_is_type st next s h (sized k p) i = h (sized k p) tt
base_is_type st next s h _ i = absurd i

base_itself : (next : Base → Option Place → State) (t : Token) → IsBaseToken t → step (a_base next) t ≡ base_on next t None
base_itself next t i = refl

reads_type : {st : Storage} {ts us : List Token} {ty : Typing} → IsType st ts us ty → (s : State) (next : Typing → State)
    → ((t : Token) → IsTypeToken t → step s t ≡ type_on st next t None) → reading ts s ≡ reading us (next ty)
reads_type {st} (g.type_scalar x) s next h = reads_base x s (λ b p. next (typing st b p)) (base_is_type st next s h)
reads_type {st} (g.type_array {ts = ts} {n = n} {q = q} {r = r} {o = o} x) s next h =
    ap (option_and_then (reading (number n q ∷ mark m.CloseBracket r ∷ ts))) (h (mark m.OpenBracket o) tt)
    ∙ reads_base x (a_base (λ b p. next (array_typing st b p n q))) (λ b p. next (array_typing st b p n q)) (base_itself (λ b p. next (array_typing st b p n q)))

stored_type : (st : Storage) (next : Typing → State) (t : Token) → IsTypeToken t → step (stored st next) t ≡ type_on st next t None
stored_type st next (mark m.OpenBracket p) i = refl
stored_type st next (mark m.Bool p) i = refl
stored_type st next (sized k p) i = refl
stored_type st next _ i = absurd i

type_is_head : (next : Typing → State) (s : State) → ((t : Token) → IsHeadToken t → step s t ≡ head_on next t None) → (t : Token) → IsTypeToken t → step s t ≡ type_on Mem next t None
type_is_head next s h (mark m.OpenBracket p) i = h (mark m.OpenBracket p) tt
type_is_head next s h (mark m.Bool p) i = h (mark m.Bool p) tt
type_is_head next s h (sized k p) i = h (sized k p) tt
type_is_head next s h _ i = absurd i

stored_falls : (st : Storage) (next : Typing → State) (us : List Token) → Untyped us → reading us (stored st next) ≡ reading us (next (typing st base.Bool None))
stored_falls st next [] u = refl
stored_falls st next (mark m.Bool p ∷ us) u = absurd u
stored_falls st next (mark m.OpenBracket p ∷ us) u = absurd u
stored_falls st next (sized k p ∷ us) u = absurd u
stored_falls st next (t ∷ us) u = refl

reads_head : {ts us : List Token} {ty : Typing} → IsHead ts us ty → (s : State) (next : Typing → State) → ((t : Token) → IsHeadToken t → step s t ≡ head_on next t None) → Untyped us → reading ts s ≡ reading us (next ty)
reads_head (g.head_unstored x) s next h u = reads_type x s next (type_is_head next s h)
reads_head (g.head_stored {ts = ts} {s = st} {p = p} x) s next h u = ap (option_and_then (reading ts)) (h (storage st p) tt) ∙ reads_type x (stored st next) next (stored_type st next)
reads_head (g.head_untyped {us = us} {s = st} {p = p}) s next h u = ap (option_and_then (reading us)) (h (storage st p) tt) ∙ stored_falls st next us u

reads_const : {ts us : List Token} {i : Init} → IsConst ts us i → (next : Init → State) → reading ts (a_const next) ≡ reading us (next i)
reads_const g.const_truth next = refl
reads_const g.const_number next = refl
reads_const g.const_minus next = refl
reads_const g.const_bits next = refl

init_falls : (next : Option Init → State) (us : List Token) → Unset us → reading us (init next) ≡ reading us (next None)
init_falls next [] u = refl
init_falls next (mark m.Equals p ∷ us) u = absurd u
init_falls next (t ∷ us) u = refl

reads_init : {ts us : List Token} {i : Option Init} → IsInit ts us i → (next : Option Init → State) → Unset us → reading ts (init next) ≡ reading us (next i)
reads_init {us = us} g.init_without next u = init_falls next us u
reads_init (g.init_with c) next u = reads_const c (λ i. next (Some i))

flow_untyped : {ty : Typing} {ts us : List Token} {d : Decl} → IsFlow ty ts us d → Untyped ts
flow_untyped g.flow_input = tt
flow_untyped (g.flow_output _) = tt

local_untyped : {ty : Typing} {ts us : List Token} {d : Decl} → IsLocal ty ts us d → Untyped ts
local_untyped (g.local_one _) = tt

reads_flow : {ty : Typing} {ts us : List Token} {d : Decl} → IsFlow ty ts us d → (next : Decl → State) → Unset us → reading ts (flow ty next) ≡ reading us (next d)
reads_flow g.flow_input next u = refl
reads_flow {ty} (g.flow_output {x = x} {p = p} i) next u = reads_init i (λ i. next (declared_as ty Output x p i)) u

reads_same : (ds : List Decl) (d : Decl) {e : Decl} {ts us : List Token} → IsFlow (taken d) ts us e → (next : List Decl → State) → Unset us → reading ts (next_param ds (taken d) next) ≡ reading us (after_param (ds ++ e ∷ []) (taken e) next)
reads_same ds d g.flow_input next u = refl
reads_same ds d (g.flow_output {x = x} {p = p} i) next u = reads_init i (λ i. param_more ds next (declared_as (taken d) Output x p i)) u

first_param_head : (next : List Decl → State) (t : Token) → IsHeadToken t → step (first_param next) t ≡ head_on (λ ty. flow ty (λ d. after_param (d ∷ []) (taken d) next)) t None
first_param_head next (storage s p) i = refl
first_param_head next (mark m.OpenBracket p) i = refl
first_param_head next (mark m.Bool p) i = refl
first_param_head next (sized k p) i = refl
first_param_head next _ i = absurd i

next_param_head : (ds : List Decl) (d : Typing) (next : List Decl → State) (t : Token) → IsHeadToken t → step (next_param ds d next) t ≡ head_on (λ ty. flow ty (param_more ds next)) t None
next_param_head ds d next (storage s p) i = refl
next_param_head ds d next (mark m.OpenBracket p) i = refl
next_param_head ds d next (mark m.Bool p) i = refl
next_param_head ds d next (sized k p) i = refl
next_param_head ds d next _ i = absurd i

reads_params : {ts us : List Token} {ds : List Decl} {d : Decl} → IsParams ts us ds d → (next : List Decl → State) → Unset us → reading ts (first_param next) ≡ reading us (after_param ds (taken d) next)
reads_params (g.params_first {t = t} h f) next u =
    reads_head h (first_param next) (λ ty. flow ty (λ d. after_param (d ∷ []) (taken d) next)) (first_param_head next) (flow_untyped f) ∙ reads_flow f (λ d. after_param (d ∷ []) (taken d) next) u
reads_params (g.params_typed {ds = ds} {d = d} r h f) next u =
    reads_params r next tt ∙ reads_head h (next_param ds (taken d) next) (λ ty. flow ty (param_more ds next)) (next_param_head ds (taken d) next) (flow_untyped f) ∙ reads_flow f (param_more ds next) u
reads_params (g.params_same {ds = ds} {d = d} r f) next u = reads_params r next tt ∙ reads_same ds d f next u

reads_list : {ts us : List Token} {ds : List Decl} → IsParamList ts us ds → (next : List Decl → State) → reading ts (first_param next) ≡ reading us (next ds)
reads_list g.list_none next = refl
reads_list (g.list_some r) next = reads_params r next tt

decls_head : (d : ℕ) (ds : List Decl) (next : Written → State) (t : Token) → IsHeadToken t → step (decls d ds next) t ≡ head_on (λ ty. local d ds ty next) t None
decls_head d ds next (storage s p) i = refl
decls_head d ds next (mark m.OpenBracket p) i = refl
decls_head d ds next (mark m.Bool p) i = refl
decls_head d ds next (sized k p) i = refl
decls_head d ds next _ i = absurd i

reads_local : {ty : Typing} {ts us : List Token} {e : Decl} → IsLocal ty ts us e → (d : ℕ) (ds : List Decl) (next : Written → State) → Unset us → reading ts (local d ds ty next) ≡ reading us (open_decls d (ds ++ e ∷ []) ty next)
reads_local {ty} (g.local_one {x = x} {p = p} i) d ds next u = reads_init i (λ i. open_decls d (ds ++ declared_as ty Inner x p i ∷ []) ty next) u

mutual
  reads_decls : {ts us : List Token} {ds : List Decl} → IsDecls ts us ds → (d : ℕ) (next : Written → State) → reading ts (decls d [] next) ≡ reading us (decls d ds next)
  reads_decls g.decls_none d next = refl
  reads_decls (g.decls_closed o) d next = reads_open o d next tt

  reads_open : {ts us : List Token} {ds : List Decl} {ty : Typing} → IsOpenDecls ts us ds ty → (d : ℕ) (next : Written → State) → Unset us → reading ts (decls d [] next) ≡ reading us (open_decls d ds ty next)
  reads_open (g.open_head {ds = ds} r h l) d next u =
      reads_decls r d next ∙ reads_head h (decls d ds next) (λ ty. local d ds ty next) (decls_head d ds next) (local_untyped l) ∙ reads_local l d ds next u
  reads_open (g.open_also {ds = ds} o l) d next u = reads_open o d next tt ∙ reads_local l d ds next u

-- a statement begins here
abbrev Starts : List Token → Type 0
Starts [] = ⊥
Starts (mark m.Bars _ ∷ _) = ⊥
Starts (mark m.CloseBrace _ ∷ _) = ⊥
Starts (mark m.Bool _ ∷ _) = ⊥
Starts (mark m.OpenBracket _ ∷ _) = ⊥
Starts (storage _ _ ∷ _) = ⊥
Starts (sized _ _ ∷ _) = ⊥
Starts _ = Unit {0}

stmt_starts : {ts us : List Token} {w : Written} → IsStmt ts us w → Starts ts
stmt_starts g.stmt_empty = tt
stmt_starts g.stmt_nothing = tt
stmt_starts (g.stmt_pause g.label_without) = tt
stmt_starts (g.stmt_pause g.label_with) = tt
stmt_starts (g.stmt_halt g.label_without) = tt
stmt_starts (g.stmt_halt g.label_with) = tt
stmt_starts (g.stmt_await g.label_without _) = tt
stmt_starts (g.stmt_await g.label_with _) = tt
stmt_starts (g.stmt_await_now g.label_without _) = tt
stmt_starts (g.stmt_await_now g.label_with _) = tt
stmt_starts (g.stmt_emit _) = tt
stmt_starts (g.stmt_emit_in _) = tt
stmt_starts (g.stmt_emit_next _) = tt
stmt_starts (g.stmt_write g.target_scalar _) = tt
stmt_starts (g.stmt_write (g.target_element _) _) = tt
stmt_starts (g.stmt_write_next _ _) = tt
stmt_starts (g.stmt_inner (g.block_one _ _)) = tt
stmt_starts (g.stmt_if_alone _ _ _) = tt
stmt_starts (g.stmt_if_else _ _ _) = tt
stmt_starts (g.stmt_loop _) = tt
stmt_starts (g.stmt_always _) = tt
stmt_starts (g.stmt_while _ _) = tt
stmt_starts (g.stmt_do_while _ _) = tt
stmt_starts (g.stmt_guard g.mode_plain _ _) = tt
stmt_starts (g.stmt_guard g.mode_weak _ _) = tt
stmt_starts (g.stmt_guard g.mode_immediate _ _) = tt
stmt_starts (g.stmt_guard g.mode_weak_immediate _ _) = tt
stmt_starts (g.stmt_guard g.mode_immediate_weak _ _) = tt
stmt_starts (g.stmt_call _) = tt

-- no declaration begins here
abbrev Undeclared : List Token → Type 0
Undeclared (mark m.Bool _ ∷ _) = ⊥
Undeclared (mark m.OpenBracket _ ∷ _) = ⊥
Undeclared (storage _ _ ∷ _) = ⊥
Undeclared (sized _ _ ∷ _) = ⊥
Undeclared _ = Unit {0}

starts_undeclared : (ts : List Token) → Starts ts → Undeclared ts
starts_undeclared [] s = tt
starts_undeclared (mark m.Bool _ ∷ _) s = s
starts_undeclared (mark m.OpenBracket _ ∷ _) s = s
starts_undeclared (storage _ _ ∷ _) s = s
starts_undeclared (sized _ _ ∷ _) s = s
starts_undeclared _ s = tt

seq_undeclared : {ts us : List Token} {ws : List Written} → IsSeq ts us ws → Undeclared us → Undeclared ts
seq_undeclared g.seq_none u = u
seq_undeclared (g.seq_also {us = us} r s) u = seq_undeclared r (starts_undeclared us (stmt_starts s))

branches_undeclared : {ts us : List Token} {bs : List Branch} → IsBranches ts us bs → Undeclared us → Undeclared ts
branches_undeclared (g.branches_first s) u = seq_undeclared s u
branches_undeclared (g.branches_also b s) u = branches_undeclared b tt

decls_fall : (d : ℕ) (ds : List Decl) (next : Written → State) (us : List Token) → Undeclared us → reading us (decls d ds next) ≡ reading us (ready d ds [] [] next)
decls_fall d ds next [] u = refl
decls_fall d ds next (mark m.Bool _ ∷ us) u = absurd u
decls_fall d ds next (mark m.OpenBracket _ ∷ us) u = absurd u
decls_fall d ds next (storage _ _ ∷ us) u = absurd u
decls_fall d ds next (sized _ _ ∷ us) u = absurd u
decls_fall d ds next (t ∷ us) u = refl

if_goes : (b : Bool) (o : Option State) (us : List Token) → b ≡ true → option_and_then (reading us) (if b then o else None) ≡ option_and_then (reading us) o
if_goes true o us h = refl
if_goes false o us h = absurd (cc)

ready_goes : (d : ℕ) (ds : List Decl) (bs : List Branch) (ws : List Written) (next : Written → State) (us : List Token) → 0 < d → Starts us
    → reading us (ready d ds bs ws next) ≡ reading us (stmt d (λ w. ready d ds bs (ws ++ w ∷ []) next))
ready_goes d ds bs ws next [] lt s = absurd s
ready_goes d ds bs ws next (mark m.Bars _ ∷ us) lt s = absurd s
ready_goes d ds bs ws next (mark m.CloseBrace _ ∷ us) lt s = absurd s
ready_goes d ds bs ws next (t ∷ us) lt s = if_goes (nat_lt 0 d) (stmt_on d (λ w. ready d ds bs (ws ++ w ∷ []) next) t) us (lt_true 0 d lt)

height_pos : (w : Written) → 0 < height w
height_pos plain.empty = omega arith
height_pos plain.pause = omega arith
height_pos (plain.halt _) = omega arith
height_pos (plain.await _ _ _) = omega arith
height_pos (plain.emit _ _ _) = omega arith
height_pos (plain.write _ _ _ _) = omega arith
height_pos (plain.block _ bs) = omega arith
height_pos (plain.choose _ a b) = omega arith
height_pos (plain.choose_one _ a) = omega arith
height_pos (plain.loop s _) = omega arith
height_pos (plain.always s _) = omega arith
height_pos (plain.while _ s _) = omega arith
height_pos (plain.do_while s _ _) = omega arith
height_pos (plain.guard _ _ _ s _) = omega arith
height_pos (plain.call _ _ _) = omega arith

greatest_before : (ws : List Written) (w : Written) → greatest (branch ws) ≤ greatest (branch (ws ++ w ∷ []))
greatest_before [] w = omega arith
greatest_before (v ∷ ws) w = let h = greatest_before ws w in omega (arith, h)

greatest_last : (ws : List Written) (w : Written) → height w ≤ greatest (branch (ws ++ w ∷ []))
greatest_last [] w = omega arith
greatest_last (v ∷ ws) w = let h = greatest_last ws w in omega (arith, h)

greatest_of_before : (bs : List Branch) (b : Branch) → greatest_of (branches_of bs) ≤ greatest_of (branches_of (bs ++ b ∷ []))
greatest_of_before [] b = omega arith
greatest_of_before (c ∷ bs) b = let h = greatest_of_before bs b in omega (arith, h)

greatest_of_last : (bs : List Branch) (b : Branch) → greatest b ≤ greatest_of (branches_of (bs ++ b ∷ []))
greatest_of_last [] b = omega arith
greatest_of_last (c ∷ bs) b = let h = greatest_of_last bs b in omega (arith, h)

if_falls : (d : ℕ) (c : Tree Word) (a : Written) (next : Written → State) (us : List Token) → begins_else us ≡ false → reading us (after_if d c a next) ≡ reading us (next (plain.choose_one c a))
if_falls d c a next [] h = refl
if_falls d c a next (mark m.Else p ∷ us) h = absurd (cc)
if_falls d c a next (t ∷ us) h = refl

reads_names : {ts us : List Token} {ys : List Arg} → IsNames ts us ys → (x : Word) (p : Place) (next : Written → State) → reading ts (first_arg x p next) ≡ reading us (after_arg x p ys next)
reads_names g.names_first x p next = refl
reads_names (g.names_also r) x p next = reads_names r x p next

-- a target up to the mark behind it
abbrev Unindexed : List Token → Type 0
Unindexed (mark m.OpenBracket _ ∷ _) = ⊥
Unindexed _ = Unit {0}

subscript_falls : (x : Word) (p : Place) (next : Goal → State) (us : List Token) → Unindexed us → reading us (subscript x p next) ≡ reading us (next (record { name = x; index = None; place = p }))
subscript_falls x p next [] u = refl
subscript_falls x p next (mark m.OpenBracket q ∷ us) u = absurd u
subscript_falls x p next (t ∷ us) u = refl

reads_target : {ts us : List Token} {c : Goal} → IsTarget ts us c → (next : Goal → State) → Unindexed us → reading ts (target next) ≡ reading us (next c)
reads_target (g.target_scalar {us = us} {x = x} {p = p}) next u = subscript_falls x p next us u
reads_target (g.target_element {x = x} {p = p} w) next u = reads_index w (λ e. next (record { name = x; index = Some e; place = p }))

-- the branches so far, and the one that is being read
record Reads (d : ℕ) (ds : List Decl) (next : Written → State) (ts us : List Token) (bs : List Branch) : Type 0 where
  before : List Branch
  last : List Written
  all : before ++ branch last ∷ [] ≡ bs
  same : reading ts (ready d ds [] [] next) ≡ reading us (ready d ds before last next)

mutual
  reads_stmt : {ts us : List Token} {w : Written} → IsStmt ts us w → (d : ℕ) (next : Written → State) → height w ≤ d → reading ts (stmt d next) ≡ reading us (next w)
  reads_stmt g.stmt_empty d next h = refl
  reads_stmt g.stmt_nothing d next h = refl
  reads_stmt (g.stmt_pause g.label_without) d next h = refl
  reads_stmt (g.stmt_pause g.label_with) d next h = refl
  reads_stmt (g.stmt_halt g.label_without) d next h = refl
  reads_stmt (g.stmt_halt g.label_with) d next h = refl
  reads_stmt (g.stmt_await {p = p} g.label_without w) d next h = reads_condition w (λ c. expect m.Semicolon (next (plain.await false c p)))
  reads_stmt (g.stmt_await {p = p} g.label_with w) d next h = reads_condition w (λ c. expect m.Semicolon (next (plain.await false c p)))
  reads_stmt (g.stmt_await_now {p = p} g.label_without w) d next h = reads_condition w (λ c. expect m.Semicolon (next (plain.await true c p)))
  reads_stmt (g.stmt_await_now {p = p} g.label_with w) d next h = reads_condition w (λ c. expect m.Semicolon (next (plain.await true c p)))
  reads_stmt (g.stmt_emit g.target_scalar) d next h = refl
  reads_stmt (g.stmt_emit {p = p} (g.target_element {x = x} {p = q} w)) d next h = reads_index w (λ e. expect m.Semicolon (next (plain.emit false (record { name = x; index = Some e; place = q }) p)))
  reads_stmt (g.stmt_emit_in {p = p} t) d next h = reads_target t (λ c. expect m.Close (expect m.Semicolon (next (plain.emit false c p)))) tt
  reads_stmt (g.stmt_emit_next {p = p} t) d next h = reads_target t (λ c. expect m.Close (expect m.Semicolon (next (plain.emit true c p)))) tt
  reads_stmt (g.stmt_write (g.target_scalar {x = x} {p = p}) w) d next h = reads_right w (λ e. next (plain.write false (record { name = x; index = None; place = p }) e p))
  reads_stmt (g.stmt_write (g.target_element {x = x} {p = p} i) w) d next h =
      reads_index i (λ i. expect m.Equals (right_side (λ e. next (plain.write false (record { name = x; index = Some i; place = p }) e p)))) ∙ reads_right w (λ e. next (plain.write false (record { name = x; index = Some _; place = p }) e p))
  reads_stmt (g.stmt_write_next {g = c} {p = p} t w) d next h =
      reads_target t (λ c. expect m.Close (expect m.Equals (right_side (λ e. next (plain.write true c e p))))) tt ∙ reads_right w (λ e. next (plain.write true c e p))
  reads_stmt (g.stmt_inner b) d next h = reads_block b d next h
  reads_stmt (g.stmt_if_alone {ts = ts} {us = us} {vs = vs} {c = c} {a = a} {q = q} w s free) d next h =
      let pos = height_pos a in
      goes_only (nat_lt 1 d) _ (mark m.Open q ∷ ts) (lt_true 1 d (omega (arith, h, pos))) ∙ reads_condition w (λ c. stmt (d - 1) (λ a. after_if d c a next))
      ∙ reads_stmt s (d - 1) (λ a. after_if d c a next) (omega (arith, h)) ∙ if_falls d c a next us free
  reads_stmt (g.stmt_if_else {ts = ts} {vs = vs} {c = c} {a = a} {b = b} {q = q} w s t) d next h =
      let pos = height_pos a in
      goes_only (nat_lt 1 d) _ (mark m.Open q ∷ ts) (lt_true 1 d (omega (arith, h, pos))) ∙ reads_condition w (λ c. stmt (d - 1) (λ a. after_if d c a next))
      ∙ reads_stmt s (d - 1) (λ a. after_if d c a next) (omega (arith, h)) ∙ reads_stmt t (d - 1) (λ b. next (plain.choose c a b)) (omega (arith, h))
  reads_stmt (g.stmt_loop {ts = ts} {w = w} {p = p} s) d next h =
      let pos = height_pos w in goes_only (nat_lt 1 d) _ ts (lt_true 1 d (omega (arith, h, pos))) ∙ reads_stmt s (d - 1) (λ w. next (plain.loop w p)) (omega (arith, h))
  reads_stmt (g.stmt_always {ts = ts} {w = w} {p = p} s) d next h =
      let pos = height_pos w in goes_only (nat_lt 1 d) _ ts (lt_true 1 d (omega (arith, h, pos))) ∙ reads_stmt s (d - 1) (λ w. next (plain.always w p)) (omega (arith, h))
  reads_stmt (g.stmt_while {ts = ts} {c = c} {w = w} {p = p} {q = q} k s) d next h =
      let pos = height_pos w in
      goes_only (nat_lt 1 d) _ (mark m.Open q ∷ ts) (lt_true 1 d (omega (arith, h, pos))) ∙ reads_condition k (λ c. stmt (d - 1) (λ w. next (plain.while c w p)))
      ∙ reads_stmt s (d - 1) (λ w. next (plain.while c w p)) (omega (arith, h))
  reads_stmt (g.stmt_do_while {ts = ts} {w = w} {p = p} s k) d next h =
      let pos = height_pos w in
      goes_only (nat_lt 1 d) _ ts (lt_true 1 d (omega (arith, h, pos)))
      ∙ reads_stmt s (d - 1) (λ w. expect m.While (condition (λ c. expect m.Semicolon (next (plain.do_while w c p))))) (omega (arith, h))
      ∙ reads_condition k (λ c. expect m.Semicolon (next (plain.do_while w c p)))
  reads_stmt (g.stmt_guard {vs = vs} {abort = abort} {w = w} g.mode_plain s k) d next h =
      let pos = height_pos w in
      goes_only (nat_lt 1 d) _ vs (lt_true 1 d (omega (arith, h, pos)))
      ∙ reads_stmt s (d - 1) (λ w. expect m.When (condition (λ c. expect m.Semicolon (next (plain.guard abort false false w c))))) (omega (arith, h))
      ∙ reads_condition k (λ c. expect m.Semicolon (next (plain.guard abort false false w c)))
  reads_stmt (g.stmt_guard {vs = vs} {abort = abort} {w = w} (g.mode_weak {p = p}) s k) d next h =
      let pos = height_pos w in
      goes_only (nat_lt 1 d) _ (preempt abort _ ∷ vs) (lt_true 1 d (omega (arith, h, pos)))
      ∙ reads_stmt s (d - 1) (λ w. expect m.When (condition (λ c. expect m.Semicolon (next (plain.guard abort true false w c))))) (omega (arith, h))
      ∙ reads_condition k (λ c. expect m.Semicolon (next (plain.guard abort true false w c)))
  reads_stmt (g.stmt_guard {vs = vs} {abort = abort} {w = w} (g.mode_immediate {p = p}) s k) d next h =
      let pos = height_pos w in
      goes_only (nat_lt 1 d) _ vs (lt_true 1 d (omega (arith, h, pos)))
      ∙ reads_stmt s (d - 1) (λ w. expect m.When (condition (λ c. expect m.Semicolon (next (plain.guard abort false true w c))))) (omega (arith, h))
      ∙ reads_condition k (λ c. expect m.Semicolon (next (plain.guard abort false true w c)))
  reads_stmt (g.stmt_guard {vs = vs} {abort = abort} {w = w} (g.mode_weak_immediate {q = q}) s k) d next h =
      let pos = height_pos w in
      goes_only (nat_lt 1 d) _ (mark m.Immediate q ∷ preempt abort _ ∷ vs) (lt_true 1 d (omega (arith, h, pos)))
      ∙ reads_stmt s (d - 1) (λ w. expect m.When (condition (λ c. expect m.Semicolon (next (plain.guard abort true true w c))))) (omega (arith, h))
      ∙ reads_condition k (λ c. expect m.Semicolon (next (plain.guard abort true true w c)))
  reads_stmt (g.stmt_guard {vs = vs} {abort = abort} {w = w} (g.mode_immediate_weak {q = q}) s k) d next h =
      let pos = height_pos w in
      goes_only (nat_lt 1 d) _ (preempt abort _ ∷ vs) (lt_true 1 d (omega (arith, h, pos)))
      ∙ reads_stmt s (d - 1) (λ w. expect m.When (condition (λ c. expect m.Semicolon (next (plain.guard abort true true w c))))) (omega (arith, h))
      ∙ reads_condition k (λ c. expect m.Semicolon (next (plain.guard abort true true w c)))
  reads_stmt (g.stmt_call g.args_none) d next h = refl
  reads_stmt (g.stmt_call {x = x} {p = p} (g.args_some r)) d next h = reads_names r x p next

  reads_seq : {ts us : List Token} {ws : List Written} → IsSeq ts us ws → (d : ℕ) (ds : List Decl) (bs : List Branch) (next : Written → State) → greatest (branch ws) ≤ d
      → reading ts (ready d ds bs [] next) ≡ reading us (ready d ds bs ws next)
  reads_seq g.seq_none d ds bs next h = refl
  reads_seq (g.seq_also {us = us} {ws = ws} {w = w} r s) d ds bs next h =
      let before = greatest_before ws w in let last = greatest_last ws w in let pos = height_pos w in
      reads_seq r d ds bs next (omega (arith, h, before)) ∙ ready_goes d ds bs ws next us (omega (arith, h, last, pos)) (stmt_starts s)
      ∙ reads_stmt s d (λ w. ready d ds bs (ws ++ w ∷ []) next) (omega (arith, h, last))

  reads_branches : {ts us : List Token} {bs : List Branch} → IsBranches ts us bs → (d : ℕ) (ds : List Decl) (next : Written → State) → greatest_of (branches_of bs) ≤ d → Reads d ds next ts us bs
  reads_branches (g.branches_first {ws = ws} s) d ds next h =
      record { before = []; last = ws; all = refl; same = reads_seq s d ds [] next (omega (arith, h)) }
  reads_branches (g.branches_also {us = us} {bs = bs} {ws = ws} {p = p} b s) d ds next h =
      let before = greatest_of_before bs (branch ws) in let last = greatest_of_last bs (branch ws) in
      let r = reads_branches b d ds next (omega (arith, h, before)) in
      record { before = bs; last = ws; all = refl; same = r.same ∙ ap (λ l. reading us (ready d ds l [] next)) r.all ∙ reads_seq s d ds bs next (omega (arith, h, last)) }

  reads_block : {ts us : List Token} {w : Written} → IsBlock ts us w → (d : ℕ) (next : Written → State) → height w ≤ d → reading ts (stmt d next) ≡ reading us (next w)
  reads_block (g.block_one {us = us} {vs = vs} {ds = ds} {bs = bs} s b) d next h =
      let r = reads_branches b (d - 1) ds next (omega (arith, h)) in
      reads_decls s (d - 1) next ∙ decls_fall (d - 1) ds next us (branches_undeclared b tt) ∙ r.same ∙ ap (λ l. reading vs (next (plain.block ds (branches_of l)))) r.all

-- the body of a module
reads_body : {ts us : List Token} {w : Written} → IsBlock ts us w → (next : Written → State) → height w ≤ 64 → reading ts (expect m.OpenBrace (decls 63 [] next)) ≡ reading us (next w)
reads_body (g.block_one {p = p} s b) next h = reads_block (g.block_one {p = p} s b) 64 next h

reads_header : (x : Word) {ts us vs : List Token} {ds : List Decl} {b : Written} → IsParamList ts us ds → IsBlock us vs b → height b ≤ 64 → (q r : Place) (next : ModuleTree → State)
    → reading (name x q ∷ mark m.Open r ∷ ts) (header next) ≡ reading vs (next (record { name = x; params = ds; body = b }))
reads_header x {ds = ds} l b h q r next =
    reads_list l (λ ds. expect m.OpenBrace (decls 63 [] (λ b. next (record { name = x; params = ds; body = b })))) ∙ reads_body b (λ b. next (record { name = x; params = ds; body = b })) h

pub reads_module : {ts us : List Token} {n : ModuleTree} → IsModule ts us n → (next : ModuleTree → State) → reading ts (expect m.Module (header next)) ≡ reading us (next n)
reads_module (g.module_one {x = x} {q = q} {r = r} l b h) next = reads_header x l b h q r next

reads_more : {ts us : List Token} {n : ModuleTree} → IsModule ts us n → (ns : List ModuleTree) → reading ts (several ns) ≡ reading us (several (ns ++ n ∷ []))
reads_more (g.module_one {x = x} {q = q} {r = r} l b h) ns = reads_header x l b h q r (λ n. several (ns ++ n ∷ []))

pub reads_text : {ts us : List Token} {ns : List ModuleTree} → IsText ts us ns → reading ts (several []) ≡ reading us (several ns)
reads_text (g.text_first s) = reads_more s []
reads_text (g.text_also {ms = ns} r s) = reads_text r ∙ reads_more s ns
