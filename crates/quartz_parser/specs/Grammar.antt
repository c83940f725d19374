-- The grammar, rule by rule, as relations between a list of tokens and what is left of it.
use Rattle.std.specs.Prelude.{◌≡◌, ◌≤◌, ◌+◌, ◌==◌, if◌then◌else◌, ℕ, Bool, true, false, List, [], ◌∷◌, ◌++◌, Option, Some, None, unwrap_or, max}
use Rattle.quartz_tree.specs.declared.place.Place.{Place}
use Rattle.quartz_tree.specs.declared.declare.Base.{Base}
use Rattle.quartz_tree.specs.declared.declare.Base.TheVariants as base
use Rattle.quartz_tree.specs.declared.declare.Storage.{Storage}
use Rattle.quartz_tree.specs.declared.declare.Storage.TheVariants.{Mem}
use Rattle.quartz_tree.specs.declared.declare.Flow.{Flow}
use Rattle.quartz_tree.specs.declared.declare.Flow.TheVariants.{Input, Output, Inner}
use Rattle.quartz_tree.specs.declared.declare.Start.TheVariants as start
use Rattle.quartz_tree.specs.declared.declare.Init.{Init}
use Rattle.quartz_tree.specs.declared.declare.Decl.{Decl}
use Rattle.quartz_tree.specs.declared.expr.Unary.TheVariants.{Not, Neg}
use Rattle.quartz_tree.specs.declared.expr.Binary.{Binary}
use Rattle.quartz_tree.specs.declared.expr.Binary.TheVariants.{Iff, Implies, Or, Xor, And, Eq, Ne, Lt, Le, Gt, Ge, Cat, Add, Sub, Mul, Div, Rem}
use Rattle.quartz_tree.specs.declared.surface.Arg.{Arg}
use Rattle.quartz_tree.specs.Tree as tree
use Rattle.quartz_tree.specs.Tree.{Tree}
use Rattle.quartz_tree.specs.Surfaces as plain
use Rattle.quartz_tree.specs.Surfaces.{Word, Goal, Written, Branch, Branches, ModuleTree, branch, branches_of}
use Rattle.quartz_parser.specs.declared.declaring.Typing.{Typing}
use Rattle.quartz_parser.specs.declared.symbol.Mark.TheVariants as m
use Rattle.quartz_parser.specs.declared.symbol.Scalar.{Scalar}
use Rattle.quartz_parser.specs.Tokens.{Token, mark, name, number, bits, truth, storage, sized, infix_sign, preempt}
use Rattle.quartz_parser.specs.declared.symbol.Scalar.TheVariants.{Nat, Int, Bv}

-- the binary operators' rows, the loosest first
abbrev pub row : Binary → ℕ
row Iff = 1
row Implies = 2
row Or = 3
row Xor = 4
row And = 5
row Eq = 6
row Ne = 6
row Lt = 7
row Le = 7
row Gt = 7
row Ge = 7
row Cat = 8
row Add = 9
row Sub = 9
row Mul = 10
row Div = 10
row Rem = 10

-- implication is right associative, and the others are left associative
abbrev pub left_row : ℕ → ℕ
left_row r = if r == 2 then 3 else r

abbrev pub right_row : ℕ → ℕ
right_row r = if r == 2 then 2 else r + 1

-- the level of an expression
abbrev pub level : Tree Word → ℕ
level (tree.truth _ _) = 1
level (tree.number _ _) = 1
level (tree.bits _ _ _) = 1
level (tree.named _ _) = 1
level (tree.element _ e _) = level e + 1
level (tree.one _ e _) = level e + 1
level (tree.two _ a b _) = max (level a) (level b) + 1
level (tree.choice c a b _) = max (level c) (max (level a) (level b)) + 1
level (tree.slice e _ _ _) = level e + 1
level (tree.to_nat e _) = level e + 1
level (tree.to_bv e _ _ _) = level e + 1
level (tree.paren e _) = level e + 1

-- the level of a statement
abbrev mutual
  pub height : Written → ℕ
  height plain.empty = 1
  height plain.pause = 1
  height (plain.halt _) = 1
  height (plain.await _ _ _) = 1
  height (plain.emit _ _ _) = 1
  height (plain.write _ _ _ _) = 1
  height (plain.block _ bs) = greatest_of bs + 1
  height (plain.choose _ a b) = max (height a) (height b) + 1
  height (plain.choose_one _ a) = height a + 1
  height (plain.loop s _) = height s + 1
  height (plain.always s _) = height s + 1
  height (plain.while _ s _) = height s + 1
  height (plain.do_while s _ _) = height s + 1
  height (plain.guard _ _ _ s _) = height s + 1
  height (plain.call _ _ _) = 1

  -- the greatest level in a branch, and in branches
  pub greatest : Branch → ℕ
  greatest plain.done = 0
  greatest (plain.then s rest) = max (height s) (greatest rest)

  pub greatest_of : Branches → ℕ
  greatest_of plain.none = 0
  greatest_of (plain.beside b rest) = max (greatest b) (greatest_of rest)

-- an expression by its row: 0 is a whole one, 1 to 10 are those of the binary operators, 11 that of `!` and `-`, 12 that of
-- the bits of a word, and 13 that of names, literals, conversions and parentheses
pub data IsExpr : ℕ → List Token → List Token → Tree Word → Type 0 where
  expr_looser : {n r : ℕ} {ts us : List Token} {e : Tree Word} → IsExpr r ts us e → n ≤ r → IsExpr n ts us e
  expr_choice : {ts us vs ws : List Token} {c a b : Tree Word} {p q : Place}
      → IsExpr 1 ts (mark m.Question p ∷ us) c → IsExpr 0 us (mark m.Colon q ∷ vs) a → IsExpr 0 vs ws b → IsExpr 0 ts ws (tree.choice c a b p)
  expr_binary : {op : Binary} {ts us vs : List Token} {a b : Tree Word} {p : Place}
      → IsExpr (left_row (row op)) ts (infix_sign op p ∷ us) a → IsExpr (right_row (row op)) us vs b → IsExpr (row op) ts vs (tree.two op a b p)
  expr_not : {ts us : List Token} {e : Tree Word} {p : Place} → IsExpr 11 ts us e → IsExpr 11 (mark m.Bang p ∷ ts) us (tree.one Not e p)
  expr_minus : {ts us : List Token} {e : Tree Word} {p : Place} → IsExpr 11 ts us e → IsExpr 11 (infix_sign Sub p ∷ ts) us (tree.one Neg e p)
  expr_bit : {ts us : List Token} {e : Tree Word} {h : ℕ} {p q r : Place}
      → IsExpr 12 ts (mark m.OpenBrace p ∷ number h q ∷ mark m.CloseBrace r ∷ us) e → IsExpr 12 ts us (tree.slice e h None p)
  expr_slice : {ts us : List Token} {e : Tree Word} {h l : ℕ} {p q r s o : Place}
      → IsExpr 12 ts (mark m.OpenBrace p ∷ number h q ∷ mark m.Colon r ∷ number l s ∷ mark m.CloseBrace o ∷ us) e → IsExpr 12 ts us (tree.slice e h (Some l) p)
  expr_truth : {us : List Token} {b : Bool} {p : Place} → IsExpr 13 (truth b p ∷ us) us (tree.truth b p)
  expr_number : {us : List Token} {n : ℕ} {p : Place} → IsExpr 13 (number n p ∷ us) us (tree.number n p)
  expr_bits : {us : List Token} {w n : ℕ} {p : Place} → IsExpr 13 (bits w n p ∷ us) us (tree.bits w n p)
  expr_named : {us : List Token} {x : Word} {p : Place} → IsExpr 13 (name x p ∷ us) us (tree.named x p)
  expr_element : {ts us : List Token} {x : Word} {e : Tree Word} {p q r : Place}
      → IsExpr 0 ts (mark m.CloseBracket r ∷ us) e → IsExpr 13 (name x p ∷ mark m.OpenBracket q ∷ ts) us (tree.element x e p)
  expr_to_nat : {ts us : List Token} {e : Tree Word} {p q r : Place}
      → IsExpr 0 ts (mark m.Close r ∷ us) e → IsExpr 13 (mark m.ToNat p ∷ mark m.Open q ∷ ts) us (tree.to_nat e p)
  expr_to_bv : {ts us : List Token} {e : Tree Word} {n : ℕ} {p q r s o : Place}
      → IsExpr 0 ts (mark m.Comma r ∷ number n s ∷ mark m.Close o ∷ us) e → IsExpr 13 (mark m.ToBv p ∷ mark m.Open q ∷ ts) us (tree.to_bv e n s p)
  expr_paren : {ts us : List Token} {e : Tree Word} {p q : Place} → IsExpr 0 ts (mark m.Close q ∷ us) e → IsExpr 13 (mark m.Open p ∷ ts) us (tree.paren e p)

-- an expression by itself has at most 64 levels
pub record IsWhole (ts us : List Token) (e : Tree Word) : Type 0 where
  pub shape : IsExpr 0 ts us e
  pub shallow : level e ≤ 64

abbrev pub typing : Storage → Base → Option Place → Typing
typing s b p = record { storage = s; ty = record { base = b; len = None }; base_place = p; len_place = None }

abbrev pub array_typing : Storage → Base → Option Place → ℕ → Place → Typing
array_typing s b p n q = record { storage = s; ty = record { base = b; len = Some n }; base_place = p; len_place = Some q }

-- a declared name; a place that its type doesn't have is the name's
abbrev pub declared_as : Typing → Flow → Word → Place → Option Init → Decl
declared_as t flow x p init =
    record { name = x; ty = t.ty; storage = t.storage; flow = flow; place = p; base_place = unwrap_or t.base_place p; len_place = unwrap_or t.len_place p; init = init }

-- what a parameter of the third form takes from the one before
abbrev pub taken : Decl → Typing
taken d = record { storage = d.storage; ty = d.ty; base_place = Some d.base_place; len_place = Some d.len_place }

abbrev pub sized_base : Scalar → ℕ → Base
sized_base Nat n = base.Nat n
sized_base Int n = base.Int n
sized_base Bv n = base.Bv n

pub data IsBase : List Token → List Token → Base → Option Place → Type 0 where
  base_bool : {us : List Token} {p : Place} → IsBase (mark m.Bool p ∷ us) us base.Bool None
  base_sized : {us : List Token} {k : Scalar} {n : ℕ} {p q r s : Place}
      → IsBase (sized k p ∷ mark m.OpenBrace q ∷ number n r ∷ mark m.CloseBrace s ∷ us) us (sized_base k n) (Some r)

-- a type, under its storage
pub data IsType (s : Storage) : List Token → List Token → Typing → Type 0 where
  type_scalar : {ts us : List Token} {b : Base} {p : Option Place} → IsBase ts us b p → IsType s ts us (typing s b p)
  type_array : {ts us : List Token} {b : Base} {p : Option Place} {n : ℕ} {q r o : Place}
      → IsBase ts us b p → IsType s (mark m.OpenBracket o ∷ number n q ∷ mark m.CloseBracket r ∷ ts) us (array_typing s b p n q)

-- `[storage] type`, or a storage alone
pub data IsHead : List Token → List Token → Typing → Type 0 where
  head_unstored : {ts us : List Token} {t : Typing} → IsType Mem ts us t → IsHead ts us t
  head_stored : {ts us : List Token} {s : Storage} {t : Typing} {p : Place} → IsType s ts us t → IsHead (storage s p ∷ ts) us t
  head_untyped : {us : List Token} {s : Storage} {p : Place} → IsHead (storage s p ∷ us) us (typing s base.Bool None)

pub data IsConst : List Token → List Token → Init → Type 0 where
  const_truth : {us : List Token} {b : Bool} {p : Place} → IsConst (truth b p ∷ us) us (record { value = start.Truth b; place = p })
  const_number : {us : List Token} {n : ℕ} {p : Place} → IsConst (number n p ∷ us) us (record { value = start.Number false n; place = p })
  const_minus : {us : List Token} {n : ℕ} {p q : Place} → IsConst (infix_sign Sub p ∷ number n q ∷ us) us (record { value = start.Number true n; place = p })
  const_bits : {us : List Token} {w n : ℕ} {p : Place} → IsConst (bits w n p ∷ us) us (record { value = start.Bits w n; place = p })

-- `[ "=" const ]`
pub data IsInit : List Token → List Token → Option Init → Type 0 where
  init_without : {us : List Token} → IsInit us us None
  init_with : {ts us : List Token} {i : Init} {p : Place} → IsConst ts us i → IsInit (mark m.Equals p ∷ ts) us (Some i)

-- a flow mark with the name of a parameter of this type
pub data IsFlow (t : Typing) : List Token → List Token → Decl → Type 0 where
  flow_input : {us : List Token} {x : Word} {p q : Place} → IsFlow t (mark m.Question q ∷ name x p ∷ us) us (declared_as t Input x p None)
  flow_output : {ts us : List Token} {x : Word} {i : Option Init} {p q : Place} → IsInit ts us i → IsFlow t (mark m.Bang q ∷ name x p ∷ ts) us (declared_as t Output x p i)

-- one or more parameters, and the last of them
pub data IsParams : List Token → List Token → List Decl → Decl → Type 0 where
  params_first : {ts us vs : List Token} {t : Typing} {d : Decl} → IsHead ts us t → IsFlow t us vs d → IsParams ts vs (d ∷ []) d
  params_typed : {ts us vs ws : List Token} {ds : List Decl} {d e : Decl} {t : Typing} {p : Place}
      → IsParams ts (mark m.Comma p ∷ us) ds d → IsHead us vs t → IsFlow t vs ws e → IsParams ts ws (ds ++ e ∷ []) e
  params_same : {ts us vs : List Token} {ds : List Decl} {d e : Decl} {p : Place}
      → IsParams ts (mark m.Comma p ∷ us) ds d → IsFlow (taken d) us vs e → IsParams ts vs (ds ++ e ∷ []) e

-- the parameters with the parenthesis behind them
pub data IsParamList : List Token → List Token → List Decl → Type 0 where
  list_none : {us : List Token} {p : Place} → IsParamList (mark m.Close p ∷ us) us []
  list_some : {ts us : List Token} {ds : List Decl} {d : Decl} {p : Place} → IsParams ts (mark m.Close p ∷ us) ds d → IsParamList ts us ds

-- a declared local of this type
pub data IsLocal (t : Typing) : List Token → List Token → Decl → Type 0 where
  local_one : {ts us : List Token} {x : Word} {i : Option Init} {p : Place} → IsInit ts us i → IsLocal t (name x p ∷ ts) us (declared_as t Inner x p i)

-- the declarations of a block, and those of which the last isn't closed yet
mutual
  pub data IsDecls : List Token → List Token → List Decl → Type 0 where
    decls_none : {us : List Token} → IsDecls us us []
    decls_closed : {ts us : List Token} {ds : List Decl} {t : Typing} {p : Place} → IsOpenDecls ts (mark m.Semicolon p ∷ us) ds t → IsDecls ts us ds

  pub data IsOpenDecls : List Token → List Token → List Decl → Typing → Type 0 where
    open_head : {ts us vs ws : List Token} {ds : List Decl} {t : Typing} {d : Decl}
        → IsDecls ts us ds → IsHead us vs t → IsLocal t vs ws d → IsOpenDecls ts ws (ds ++ d ∷ []) t
    open_also : {ts us vs : List Token} {ds : List Decl} {t : Typing} {d : Decl} {p : Place}
        → IsOpenDecls ts (mark m.Comma p ∷ us) ds t → IsLocal t us vs d → IsOpenDecls ts vs (ds ++ d ∷ []) t

-- the left side of a write
pub data IsTarget : List Token → List Token → Goal → Type 0 where
  target_scalar : {us : List Token} {x : Word} {p : Place} → IsTarget (name x p ∷ us) us (record { name = x; index = None; place = p })
  target_element : {ts us : List Token} {x : Word} {e : Tree Word} {p q r : Place}
      → IsWhole ts (mark m.CloseBracket r ∷ us) e → IsTarget (name x p ∷ mark m.OpenBracket q ∷ ts) us (record { name = x; index = Some e; place = p })

-- `[label]`
pub data IsLabel : List Token → List Token → Type 0 where
  label_without : {us : List Token} → IsLabel us us
  label_with : {us : List Token} {x : Word} {p q : Place} → IsLabel (name x p ∷ mark m.Colon q ∷ us) us

-- whether it is weak, and whether it is immediate
pub data IsMode : List Token → List Token → (weak immediate : Bool) → Type 0 where
  mode_plain : {us : List Token} → IsMode us us false false
  mode_weak : {us : List Token} {p : Place} → IsMode (mark m.Weak p ∷ us) us true false
  mode_immediate : {us : List Token} {p : Place} → IsMode (mark m.Immediate p ∷ us) us false true
  mode_weak_immediate : {us : List Token} {p q : Place} → IsMode (mark m.Weak p ∷ mark m.Immediate q ∷ us) us true true
  mode_immediate_weak : {us : List Token} {p q : Place} → IsMode (mark m.Immediate p ∷ mark m.Weak q ∷ us) us true true

-- one or more names with commas between them
pub data IsNames : List Token → List Token → List Arg → Type 0 where
  names_first : {us : List Token} {x : Word} {p : Place} → IsNames (name x p ∷ us) us (record { name = x; place = p } ∷ [])
  names_also : {ts us : List Token} {xs : List Arg} {x : Word} {p q : Place} → IsNames ts (mark m.Comma q ∷ name x p ∷ us) xs → IsNames ts us (xs ++ record { name = x; place = p } ∷ [])

-- the arguments of a call with the parenthesis behind them
pub data IsArgs : List Token → List Token → List Arg → Type 0 where
  args_none : {us : List Token} {p : Place} → IsArgs (mark m.Close p ∷ us) us []
  args_some : {ts us : List Token} {xs : List Arg} {p : Place} → IsNames ts (mark m.Close p ∷ us) xs → IsArgs ts us xs

-- an `else` comes next
abbrev pub begins_else : List Token → Bool
begins_else (mark m.Else _ ∷ _) = true
begins_else _ = false

mutual
  pub data IsStmt : List Token → List Token → Written → Type 0 where
    stmt_empty : {us : List Token} {p : Place} → IsStmt (mark m.Semicolon p ∷ us) us plain.empty
    stmt_nothing : {us : List Token} {p q : Place} → IsStmt (mark m.Nothing p ∷ mark m.Semicolon q ∷ us) us plain.empty
    stmt_pause : {ts us : List Token} {p q : Place} → IsLabel ts (mark m.Pause p ∷ mark m.Semicolon q ∷ us) → IsStmt ts us plain.pause
    stmt_halt : {ts us : List Token} {p q : Place} → IsLabel ts (mark m.Halt p ∷ mark m.Semicolon q ∷ us) → IsStmt ts us (plain.halt p)
    stmt_await : {ts us vs : List Token} {c : Tree Word} {p q r s : Place}
        → IsLabel ts (mark m.Await p ∷ mark m.Open q ∷ vs) → IsWhole vs (mark m.Close r ∷ mark m.Semicolon s ∷ us) c → IsStmt ts us (plain.await false c p)
    stmt_await_now : {ts us vs : List Token} {c : Tree Word} {p q r s o : Place}
        → IsLabel ts (mark m.Immediate p ∷ mark m.Await o ∷ mark m.Open q ∷ vs) → IsWhole vs (mark m.Close r ∷ mark m.Semicolon s ∷ us) c
        → IsStmt ts us (plain.await true c p)
    stmt_emit : {ts us : List Token} {g : Goal} {p q : Place} → IsTarget ts (mark m.Semicolon q ∷ us) g → IsStmt (mark m.Emit p ∷ ts) us (plain.emit false g p)
    stmt_emit_in : {ts us : List Token} {g : Goal} {p q r s : Place}
        → IsTarget ts (mark m.Close r ∷ mark m.Semicolon s ∷ us) g → IsStmt (mark m.Emit p ∷ mark m.Open q ∷ ts) us (plain.emit false g p)
    stmt_emit_next : {ts us : List Token} {g : Goal} {p q r s o : Place}
        → IsTarget ts (mark m.Close r ∷ mark m.Semicolon s ∷ us) g → IsStmt (mark m.Emit p ∷ mark m.Next o ∷ mark m.Open q ∷ ts) us (plain.emit true g p)
    stmt_write : {ts us vs : List Token} {g : Goal} {e : Tree Word} {p q : Place}
        → IsTarget ts (mark m.Equals p ∷ vs) g → IsWhole vs (mark m.Semicolon q ∷ us) e → IsStmt ts us (plain.write false g e g.place)
    stmt_write_next : {ts us vs : List Token} {g : Goal} {e : Tree Word} {p q r s o : Place}
        → IsTarget ts (mark m.Close r ∷ mark m.Equals o ∷ vs) g → IsWhole vs (mark m.Semicolon s ∷ us) e
        → IsStmt (mark m.Next p ∷ mark m.Open q ∷ ts) us (plain.write true g e p)
    stmt_inner : {ts us : List Token} {w : Written} → IsBlock ts us w → IsStmt ts us w
    -- an `else` belongs to the nearest `if` that has none
    stmt_if_alone : {ts us vs : List Token} {c : Tree Word} {a : Written} {p q r : Place}
        → IsWhole ts (mark m.Close r ∷ vs) c → IsStmt vs us a → begins_else us ≡ false → IsStmt (mark m.If p ∷ mark m.Open q ∷ ts) us (plain.choose_one c a)
    stmt_if_else : {ts us vs ws : List Token} {c : Tree Word} {a b : Written} {p q r s : Place}
        → IsWhole ts (mark m.Close r ∷ vs) c → IsStmt vs (mark m.Else s ∷ ws) a → IsStmt ws us b → IsStmt (mark m.If p ∷ mark m.Open q ∷ ts) us (plain.choose c a b)
    stmt_loop : {ts us : List Token} {w : Written} {p : Place} → IsStmt ts us w → IsStmt (mark m.Loop p ∷ ts) us (plain.loop w p)
    stmt_always : {ts us : List Token} {w : Written} {p : Place} → IsStmt ts us w → IsStmt (mark m.Always p ∷ ts) us (plain.always w p)
    stmt_while : {ts us vs : List Token} {c : Tree Word} {w : Written} {p q r : Place}
        → IsWhole ts (mark m.Close r ∷ vs) c → IsStmt vs us w → IsStmt (mark m.While p ∷ mark m.Open q ∷ ts) us (plain.while c w p)
    stmt_do_while : {ts us vs : List Token} {c : Tree Word} {w : Written} {p q r s o : Place}
        → IsStmt ts (mark m.While o ∷ mark m.Open q ∷ vs) w → IsWhole vs (mark m.Close r ∷ mark m.Semicolon s ∷ us) c
        → IsStmt (mark m.Do p ∷ ts) us (plain.do_while w c p)
    stmt_guard : {ts us vs ws : List Token} {abort weak immediate : Bool} {c : Tree Word} {w : Written} {p q r s o : Place}
        → IsMode ts (preempt abort p ∷ vs) weak immediate → IsStmt vs (mark m.When o ∷ mark m.Open q ∷ ws) w
        → IsWhole ws (mark m.Close r ∷ mark m.Semicolon s ∷ us) c → IsStmt ts us (plain.guard abort weak immediate w c)
    stmt_call : {ts us : List Token} {x : Word} {args : List Arg} {p q r : Place}
        → IsArgs ts (mark m.Semicolon r ∷ us) args → IsStmt (name x p ∷ mark m.Open q ∷ ts) us (plain.call x args p)

  -- `{ stmt }`
  pub data IsSeq : List Token → List Token → List Written → Type 0 where
    seq_none : {us : List Token} → IsSeq us us []
    seq_also : {ts us vs : List Token} {ws : List Written} {w : Written} → IsSeq ts us ws → IsStmt us vs w → IsSeq ts vs (ws ++ w ∷ [])

  -- `seq { "||" seq }`
  pub data IsBranches : List Token → List Token → List Branch → Type 0 where
    branches_first : {ts us : List Token} {ws : List Written} → IsSeq ts us ws → IsBranches ts us (branch ws ∷ [])
    branches_also : {ts us vs : List Token} {bs : List Branch} {ws : List Written} {p : Place}
        → IsBranches ts (mark m.Bars p ∷ us) bs → IsSeq us vs ws → IsBranches ts vs (bs ++ branch ws ∷ [])

  pub data IsBlock : List Token → List Token → Written → Type 0 where
    block_one : {ts us vs : List Token} {ds : List Decl} {bs : List Branch} {p q : Place}
        → IsDecls ts us ds → IsBranches us (mark m.CloseBrace q ∷ vs) bs → IsBlock (mark m.OpenBrace p ∷ ts) vs (plain.block ds (branches_of bs))

-- a module, whose block has at most 64 levels
pub data IsModule : List Token → List Token → ModuleTree → Type 0 where
  module_one : {ts us vs : List Token} {x : Word} {ds : List Decl} {b : Written} {p q r : Place}
      → IsParamList ts us ds → IsBlock us vs b → height b ≤ 64
      → IsModule (mark m.Module p ∷ name x q ∷ mark m.Open r ∷ ts) vs (record { name = x; params = ds; body = b })

-- `module { module }`
pub data IsText : List Token → List Token → List ModuleTree → Type 0 where
  text_first : {ts us : List Token} {m : ModuleTree} → IsModule ts us m → IsText ts us (m ∷ [])
  text_also : {ts us vs : List Token} {ms : List ModuleTree} {m : ModuleTree} → IsText ts us ms → IsModule us vs m → IsText ts vs (ms ++ m ∷ [])
