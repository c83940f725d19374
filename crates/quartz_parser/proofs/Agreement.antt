-- The reader and the grammar agree.
use Rattle.std.proofs.Common.{◌≡◌, ◌≤◌, ℕ, true, false, List, [], ◌∷◌, ◌++◌, Option, Some, None, refl, sym, ap, ◌∙◌, subst, arith}
use Rattle.std.specs.Prelude.{option_and_then}
use Rattle.std.proofs.Common.{codes, append-nil}
use Rattle.quartz_lexer.specs.declared.token.TokenKind.{TokenKind}
use Rattle.quartz_lexer.specs.declared.token.TokenKind.TheVariants as kind
use Rattle.quartz_lexer.specs.Lexing.{Lexeme}
use Rattle.quartz_parser.specs.Symbols.{token_of, tokens_of}
use Rattle.quartz_parser.specs.Parsing.{DerivesModule, DerivesText, HasModule, HasText, Begins, Breaks, at_token, at_end, HasOneModule, HasOneText, ReadsModules, ReadsTexts}
use Rattle.quartz_parser.proofs.Invariant.{Aim, one, many, Alone, Several, Inv, InvO}
use Rattle.quartz_parser.proofs.Kept.{kept, header_inv, joined, greatest_of_more}
use Rattle.quartz_parser.proofs.ReadsExpr.{reading}
use Rattle.quartz_parser.proofs.ReadsStmt.{reads_module, reads_text}
use Rattle.quartz_tree.specs.declared.place.Place.{Place}
use Rattle.quartz_tree.specs.declared.declare.Base.TheVariants as base
use Rattle.quartz_tree.specs.declared.declare.Flow.TheVariants.{Input}
use Rattle.quartz_tree.specs.declared.declare.Start.TheVariants as start
use Rattle.quartz_tree.specs.declared.declare.Decl.{Decl}
use Rattle.quartz_tree.specs.Tree as tree
use Rattle.quartz_tree.specs.Tree.{Tree}
use Rattle.quartz_tree.specs.Surfaces as plain
use Rattle.quartz_tree.specs.Surfaces.{Word, Goal, Written, Branch, Branches, ModuleTree, branch, branches_of}
use Rattle.quartz_parser.specs.declared.declaring.Typing.{Typing}
use Rattle.quartz_parser.specs.declared.symbol.Mark.{Mark}
use Rattle.quartz_parser.specs.declared.symbol.Mark.TheVariants as m
use Rattle.quartz_parser.specs.Tokens.{Token, mark, name}
use Rattle.quartz_parser.specs.Grammar as g
use Rattle.quartz_parser.specs.Grammar.{row, left_row, right_row, level, height, greatest, greatest_of, typing, array_typing, declared_as, taken, sized_base, begins_else, IsExpr, IsWhole, IsBase, IsType, IsHead, IsConst, IsInit, IsFlow, IsParams, IsParamList, IsLocal, IsDecls, IsOpenDecls, IsTarget, IsLabel, IsMode, IsNames, IsArgs, IsStmt, IsSeq, IsBranches, IsBlock, IsModule, IsText}
use Rattle.quartz_parser.specs.Machine.{State, expect, a_name, a_number, want, after_name, tail, after_high, a_base, stored, a_const, init, flow, first_param, after_param, next_param, subscript, decls, open_decls, ready, stmt, after_word, labelled, after_immediate, after_weak, after_mode, after_emit, first_arg, after_arg, after_if, alone, several, step, ended, run, module_start, text_start}

abbrev here_is : TokenKind → List ℕ → Lexeme
here_is k text = record { kind = k; text = text; place = record { line = 1; col = 1 } }

-- a token that is this mark
abbrev marked : Mark → Lexeme
marked m.Module = here_is kind.Keyword (codes "module")
marked m.Bool = here_is kind.Keyword (codes "bool")
marked m.Nothing = here_is kind.Keyword (codes "nothing")
marked m.Pause = here_is kind.Keyword (codes "pause")
marked m.Halt = here_is kind.Keyword (codes "halt")
marked m.Await = here_is kind.Keyword (codes "await")
marked m.Immediate = here_is kind.Keyword (codes "immediate")
marked m.Weak = here_is kind.Keyword (codes "weak")
marked m.When = here_is kind.Keyword (codes "when")
marked m.Emit = here_is kind.Keyword (codes "emit")
marked m.Next = here_is kind.Keyword (codes "next")
marked m.If = here_is kind.Keyword (codes "if")
marked m.Else = here_is kind.Keyword (codes "else")
marked m.Loop = here_is kind.Keyword (codes "loop")
marked m.Always = here_is kind.Keyword (codes "always")
marked m.While = here_is kind.Keyword (codes "while")
marked m.Do = here_is kind.Keyword (codes "do")
marked m.ToNat = here_is kind.Keyword (codes "bv2nat")
marked m.ToBv = here_is kind.Keyword (codes "nat2bv")
marked m.Open = here_is kind.Sign (codes "(")
marked m.Close = here_is kind.Sign (codes ")")
marked m.OpenBrace = here_is kind.Sign (codes "{")
marked m.CloseBrace = here_is kind.Sign (codes "}")
marked m.OpenBracket = here_is kind.Sign (codes "[")
marked m.CloseBracket = here_is kind.Sign (codes "]")
marked m.Comma = here_is kind.Sign (codes ",")
marked m.Semicolon = here_is kind.Sign (codes ";")
marked m.Colon = here_is kind.Sign (codes ":")
marked m.Question = here_is kind.Sign (codes "?")
marked m.Bang = here_is kind.Sign (codes "!")
marked m.Equals = here_is kind.Sign (codes "=")
marked m.Bars = here_is kind.Sign (codes "||")

marked_is : (k : Mark) → token_of (marked k) ≡ mark k (record { line = 1; col = 1 })
marked_is m.Module = refl
marked_is m.Bool = refl
marked_is m.Nothing = refl
marked_is m.Pause = refl
marked_is m.Halt = refl
marked_is m.Await = refl
marked_is m.Immediate = refl
marked_is m.Weak = refl
marked_is m.When = refl
marked_is m.Emit = refl
marked_is m.Next = refl
marked_is m.If = refl
marked_is m.Else = refl
marked_is m.Loop = refl
marked_is m.Always = refl
marked_is m.While = refl
marked_is m.Do = refl
marked_is m.ToNat = refl
marked_is m.ToBv = refl
marked_is m.Open = refl
marked_is m.Close = refl
marked_is m.OpenBrace = refl
marked_is m.CloseBrace = refl
marked_is m.OpenBracket = refl
marked_is m.CloseBracket = refl
marked_is m.Comma = refl
marked_is m.Semicolon = refl
marked_is m.Colon = refl
marked_is m.Question = refl
marked_is m.Bang = refl
marked_is m.Equals = refl
marked_is m.Bars = refl

abbrev x_name : Lexeme
x_name = here_is kind.Name (codes "x")

-- tokens that end what a state has begun
abbrev pub closers : State → List Lexeme
closers (expect k next) = marked k ∷ closers next
closers (a_name next) = x_name ∷ closers (next (codes "x") (record { line = 1; col = 1 }))
closers (a_number next) = here_is kind.Number (codes "1") ∷ closers (next 1 (record { line = 1; col = 1 }))
closers (want n d next) = x_name ∷ closers (next (tree.named (codes "x") (record { line = 1; col = 1 })))
closers (after_name n d x p next) = closers (next (tree.named x p))
closers (tail n d e next) = closers (next e)
closers (after_high n d e h p next) = marked m.CloseBrace ∷ closers (next (tree.slice e h None p))
closers (a_base next) = marked m.Bool ∷ closers (next base.Bool None)
closers (stored s next) = closers (next (typing s base.Bool None))
closers (a_const next) = here_is kind.Keyword (codes "true") ∷ closers (next (record { value = start.Truth true; place = record { line = 1; col = 1 } }))
closers (init next) = closers (next None)
closers (flow t next) = marked m.Question ∷ x_name ∷ closers (next (declared_as t Input (codes "x") (record { line = 1; col = 1 }) None))
closers (first_param next) = marked m.Close ∷ closers (next [])
closers (after_param ds d next) = marked m.Close ∷ closers (next ds)
closers (next_param ds d next) = marked m.Question ∷ x_name ∷ marked m.Close ∷ closers (next (ds ++ declared_as d Input (codes "x") (record { line = 1; col = 1 }) None ∷ []))
closers (subscript x p next) = closers (next (record { name = x; index = None; place = p }))
closers (decls d ds next) = marked m.CloseBrace ∷ closers (next (plain.block ds (branches_of (branch [] ∷ []))))
closers (open_decls d ds t next) = marked m.Semicolon ∷ marked m.CloseBrace ∷ closers (next (plain.block ds (branches_of (branch [] ∷ []))))
closers (ready d ds bs ws next) = marked m.CloseBrace ∷ closers (next (plain.block ds (branches_of (bs ++ branch ws ∷ []))))
closers (stmt d next) = marked m.Semicolon ∷ closers (next plain.empty)
closers (after_word x p next) = marked m.Open ∷ marked m.Close ∷ marked m.Semicolon ∷ closers (next (plain.call x [] p))
closers (labelled next) = marked m.Pause ∷ marked m.Semicolon ∷ closers (next plain.pause)
closers (after_immediate d p next) =
    marked m.Await ∷ marked m.Open ∷ x_name ∷ marked m.Close ∷ marked m.Semicolon ∷ closers (next (plain.await true (tree.named (codes "x") (record { line = 1; col = 1 })) p))
closers (after_weak d next) =
    here_is kind.Keyword (codes "abort") ∷ marked m.Semicolon ∷ marked m.When ∷ marked m.Open ∷ x_name ∷ marked m.Close ∷ marked m.Semicolon
    ∷ closers (next (plain.guard true true false plain.empty (tree.named (codes "x") (record { line = 1; col = 1 }))))
closers (after_mode d weak immediate next) =
    here_is kind.Keyword (codes "abort") ∷ marked m.Semicolon ∷ marked m.When ∷ marked m.Open ∷ x_name ∷ marked m.Close ∷ marked m.Semicolon
    ∷ closers (next (plain.guard true weak immediate plain.empty (tree.named (codes "x") (record { line = 1; col = 1 }))))
closers (after_emit p next) = x_name ∷ marked m.Semicolon ∷ closers (next (plain.emit false (record { name = codes "x"; index = None; place = record { line = 1; col = 1 } }) p))
closers (first_arg x p next) = marked m.Close ∷ marked m.Semicolon ∷ closers (next (plain.call x [] p))
closers (after_arg x p ys next) = marked m.Close ∷ marked m.Semicolon ∷ closers (next (plain.call x ys p))
closers (after_if d c a next) = marked m.Else ∷ marked m.Semicolon ∷ closers (next (plain.choose c a plain.empty))
closers (alone n) = []
closers (several []) = marked m.Module ∷ x_name ∷ marked m.Open ∷ marked m.Close ∷ marked m.OpenBrace ∷ marked m.CloseBrace ∷ []
closers (several (n ∷ ns)) = []

-- what is read at the end
abbrev Final : Aim → Type 0
Final (one all) = (n : ModuleTree) × IsModule all [] n
Final (many all) = (ns : List ModuleTree) × IsText all [] ns

one_final : (aim : Aim) (n : ModuleTree) → Alone aim n [] → Final aim
one_final (one all) n h = (n, h)
one_final (many all) n h = absurd h

some_final : (aim : Aim) (n : ModuleTree) (ns : List ModuleTree) → Several aim (n ∷ ns) [] → Final aim
some_final (one all) n ns h = absurd h
some_final (many all) n ns h = (n ∷ ns, h)

no_final : (aim : Aim) → Several aim [] (tokens_of (closers (several []))) → Final aim
no_final (one all) h = absurd h
no_final (many all) h = (
  _,
  subst (λ l. IsText l [] (record { name = codes "x"; params = []; body = plain.block [] (branches_of (branch [] ∷ [])) } ∷ [])) (sym h)
      (g.text_first (g.module_one g.list_none (g.block_one g.decls_none (g.branches_first g.seq_none)) (omega arith))),
)

x_expr : {n : ℕ} {us : List Token} {p : Place} → n ≤ 13 → IsExpr n (name (codes "x") p ∷ us) us (tree.named (codes "x") p)
x_expr h = g.expr_looser g.expr_named h

x_whole : {us : List Token} {p : Place} → IsWhole (name (codes "x") p ∷ us) us (tree.named (codes "x") p)
x_whole = record { shape = x_expr (omega arith); shallow = omega arith }

same_more : (from rest : List Token) (ds : List Decl) (d : Decl) (last : Typing) (x : Word) (r q p o : Place) → IsParams from (mark m.Comma r ∷ mark m.Question q ∷ name x p ∷ mark m.Close o ∷ rest) ds d → taken d ≡ last
    → IsParamList from rest (ds ++ declared_as last Input x p None ∷ [])
same_more from rest ds d last x r q p o h e = subst (λ y. IsParamList from rest (ds ++ declared_as y Input x p None ∷ [])) e (g.list_some {p = o} (g.params_same h (g.flow_input {q = q})))

module _ (W : Aim) where
  finish : (s : State) → Inv W s (tokens_of (closers s)) → Final W
  finish (expect k next) i = finish next (i (record { line = 1; col = 1 }) (tokens_of (closers next)) (ap (λ t. t ∷ tokens_of (closers next)) (marked_is k)))
  finish (a_name next) i = finish (next (codes "x") (record { line = 1; col = 1 })) (i _ _ _ refl)
  finish (a_number next) i = finish (next 1 (record { line = 1; col = 1 })) (i _ _ _ refl)
  finish (want n d next) i = finish (next (tree.named (codes "x") (record { line = 1; col = 1 }))) (i.2 _ _ (x_expr (omega (arith, i.1))) i.0)
  finish (after_name n d x p next) i = finish (next (tree.named x p)) (i.2 _ _ (g.expr_looser g.expr_named (omega (arith, i.1))) i.0)
  finish (tail n d e next) i = finish (next e) (i.5 _ _ (g.expr_looser i.1 i.4) i.2)
  finish (after_high n d e h p next) i = finish (next (tree.slice e h None p)) (i.4 _ _ (g.expr_looser (g.expr_bit i.1.1) (omega (arith, i.3))) (omega (arith, i.2)))
  finish (a_base next) i = finish (next base.Bool None) (i _ _ _ g.base_bool)
  finish (stored s next) i = finish (next (typing s base.Bool None)) i.0
  finish (a_const next) i = finish (next (record { value = start.Truth true; place = record { line = 1; col = 1 } })) (i _ _ g.const_truth)
  finish (init next) i = finish (next None) (i _ _ g.init_without)
  finish (flow t next) i = finish (next (declared_as t Input (codes "x") (record { line = 1; col = 1 }) None)) (i _ _ g.flow_input)
  finish (first_param next) i = finish (next []) (i _ _ g.list_none)
  finish (after_param ds d next) i = finish (next ds) (i.2 _ _ (g.list_some i.1.1))
  finish (next_param ds d next) i =
      finish (next (ds ++ declared_as d Input (codes "x") (record { line = 1; col = 1 }) None ∷ [])) (i.2 _ _ (same_more i.0 _ ds i.1.0 d (codes "x") i.1.1 _ _ _ i.1.2 i.1.3))
  finish (subscript x p next) i = finish (next (record { name = x; index = None; place = p })) (i _ _ g.target_scalar)
  finish (decls d ds next) i = finish (next (plain.block ds (branches_of (branch [] ∷ [])))) (i.2 _ _ _ _ i.1 _ (g.branches_first g.seq_none) (omega arith))
  finish (open_decls d ds t next) i = finish (next (plain.block ds (branches_of (branch [] ∷ [])))) (i.2 _ _ _ _ (g.decls_closed i.1) _ (g.branches_first g.seq_none) (omega arith))
  finish (ready d ds bs ws next) i =
      finish (next (plain.block ds (branches_of (bs ++ branch ws ∷ []))))
      (i.4 (tokens_of (closers (next (plain.block ds (branches_of (bs ++ branch ws ∷ [])))))) (bs ++ branch ws ∷ []) (record { line = 1; col = 1 })
      (joined bs i.0 i.1.0 _ ws i.1.1 i.1.2) (greatest_of_more d bs (branch ws) i.2 i.3))
  finish (stmt d next) i = finish (next plain.empty) (i.1 _ _ g.stmt_empty i.0)
  finish (after_word x p next) i = finish (next (plain.call x [] p)) (i _ _ (g.stmt_call g.args_none) (omega arith))
  finish (labelled next) i = finish (next plain.pause) (i.3 _ _ (g.stmt_pause g.label_with) (omega arith))
  finish (after_immediate d p next) i = finish (next (plain.await true (tree.named (codes "x") (record { line = 1; col = 1 })) p)) (i.1 _ _ (g.stmt_await_now g.label_without x_whole) i.0)
  finish (after_weak d next) i =
      finish (next (plain.guard true true false plain.empty (tree.named (codes "x") (record { line = 1; col = 1 })))) (i.1.1 _ _ (g.stmt_guard g.mode_weak g.stmt_empty x_whole) (omega (arith, i.0)))
  finish (after_mode d weak immediate next) i =
      finish (next (plain.guard true weak immediate plain.empty (tree.named (codes "x") (record { line = 1; col = 1 })))) (i.1.2 _ _ (g.stmt_guard i.1.1 g.stmt_empty x_whole) (omega (arith, i.0)))
  finish (after_emit p next) i = finish (next (plain.emit false (record { name = codes "x"; index = None; place = record { line = 1; col = 1 } }) p)) (i _ _ (g.stmt_emit g.target_scalar) (omega arith))
  finish (first_arg x p next) i = finish (next (plain.call x [] p)) (i _ _ [] _ g.args_none refl)
  finish (after_arg x p ys next) i = finish (next (plain.call x ys p)) (i.2 _ _ ys _ (g.args_some i.1) refl)
  finish (after_if d c a next) i = finish (next (plain.choose c a plain.empty)) (i.3 _ _ _ plain.empty refl g.stmt_empty (omega (arith, i.0)))
  finish (alone n) i = one_final W n i
  finish (several []) i = no_final W i
  finish (several (n ∷ ns)) i = some_final W n ns i

  kept_all : (ts : List Token) (s s' : State) (here : List Token) → Inv W s (ts ++ here) → run s ts ≡ Some s' → Inv W s' here
  kept_all [] s s' here i h = let same : s ≡ s' = cc in subst (λ q. Inv W q here) same i
  kept_all (t ∷ ts) s s' here i h = at (step s t) (kept W s t (ts ++ here) i) h (λ q. kept_all ts q s' here)
    where
      at : (o : Option State) → InvO W o (ts ++ here) → option_and_then (λ q. run q ts) o ≡ Some s' → ((q : State) → Inv W q (ts ++ here) → run q ts ≡ Some s' → Inv W s' here) → Inv W s' here
      at None i g go = absurd (cc)
      at (Some q) i g go = go q i g

-- what the modules are
abbrev Result : Aim → List ModuleTree → Type 0
Result (one all) ms = (n : ModuleTree) × (ms ≡ n ∷ []) × IsModule all [] n
Result (many all) ms = IsText all [] ms

one_result : (aim : Aim) (n : ModuleTree) (ms : List ModuleTree) → Alone aim n [] → Some (n ∷ []) ≡ Some ms → Result aim ms
one_result (one all) n ms h e = let same : n ∷ [] ≡ ms = cc in (n, sym same, h)
one_result (many all) n ms h e = absurd h

some_result : (aim : Aim) (n : ModuleTree) (ns ms : List ModuleTree) → Several aim (n ∷ ns) [] → Some (n ∷ ns) ≡ Some ms → Result aim ms
some_result (one all) n ns ms h e = absurd h
some_result (many all) n ns ms h e = let same : n ∷ ns ≡ ms = cc in subst (λ l. IsText all [] l) same h

sound : (aim : Aim) (s : State) (ms : List ModuleTree) → Inv aim s [] → ended s ≡ Some ms → Result aim ms
sound aim (tail n d e next) ms i h = sound aim (next e) ms (i.5 _ _ (g.expr_looser i.1 i.4) i.2) h
sound aim (after_name n d x p next) ms i h = sound aim (next (tree.named x p)) ms (i.2 _ _ (g.expr_looser g.expr_named (omega (arith, i.1))) i.0) h
sound aim (stored s next) ms i h = sound aim (next (typing s base.Bool None)) ms i.0 h
sound aim (init next) ms i h = sound aim (next None) ms (i _ _ g.init_without) h
sound aim (subscript x p next) ms i h = sound aim (next (record { name = x; index = None; place = p })) ms (i _ _ g.target_scalar) h
sound aim (after_if d c a next) ms i h = sound aim (next (plain.choose_one c a)) ms (i.2 refl) h
sound aim (alone n) ms i h = one_result aim n ms i h
sound aim (several (n ∷ ns)) ms i h = some_result aim n ns ms i h
sound aim _ ms i h = absurd (cc)

reading-append : (xs ys : List Token) (s : State) → reading (xs ++ ys) s ≡ option_and_then (reading ys) (run s xs)
reading-append [] ys s = refl
reading-append (x ∷ xs) ys s = at (step s x) (reading-append xs ys)
  where
    at : (o : Option State) → ((q : State) → reading (xs ++ ys) q ≡ option_and_then (reading ys) (run q xs)) → option_and_then (reading (xs ++ ys)) o ≡ option_and_then (reading ys) (option_and_then (λ q. run q xs) o)
    at None go = refl
    at (Some q) go = go q

run-append : (xs ys : List Token) (s q : State) → run s xs ≡ Some q → run s (xs ++ ys) ≡ run q ys
run-append [] ys s q h = let same : s ≡ q = cc in ap (λ q. run q ys) same
run-append (x ∷ xs) ys s q h = at (step s x) h (λ r. run-append xs ys r q)
  where
    at : (o : Option State) → option_and_then (λ r. run r xs) o ≡ Some q → ((r : State) → run r xs ≡ Some q → run r (xs ++ ys) ≡ run q ys) → option_and_then (λ r. run r (xs ++ ys)) o ≡ run q ys
    at None g go = absurd (cc)
    at (Some r) g go = go r g

tokens-append : (xs ys : List Lexeme) → tokens_of (xs ++ ys) ≡ tokens_of xs ++ tokens_of ys
tokens-append [] ys = refl
tokens-append (x ∷ xs) ys = ap (λ l. token_of x ∷ l) (tokens-append xs ys)

-- the place at which reading these tokens stops, if it does
abbrev fault : State → List Lexeme → Place → Option Place
fault s [] end = elim (ended s) [ None ↦ Some end | Some ms ↦ None ]
fault s (l ∷ ls) end = elim (step s (token_of l)) [ None ↦ Some l.place | Some q ↦ fault q ls end ]

fault_at : (front : List Lexeme) (s q : State) (l : Lexeme) (back : List Lexeme) (end : Place) → run s (tokens_of front) ≡ Some q → step q (token_of l) ≡ None → fault s (front ++ l ∷ back) end ≡ Some l.place
fault_at [] s q l back end h k =
    let same : step s (token_of l) ≡ None = cc in
    ap (λ o. elim o as (λ (o : Option State). Option Place) [ None ↦ Some l.place | Some q ↦ fault q back end ]) same
fault_at (x ∷ xs) s q l back end h k = at (step s (token_of x)) h (λ r g. fault_at xs r q l back end g k)
  where
    at : (o : Option State) → option_and_then (λ r. run r (tokens_of xs)) o ≡ Some q → ((r : State) → run r (tokens_of xs) ≡ Some q → fault r (xs ++ l ∷ back) end ≡ Some l.place)
        → elim o as (λ (o : Option State). Option Place) [ None ↦ Some x.place | Some r ↦ fault r (xs ++ l ∷ back) end ] ≡ Some l.place
    at None g go = absurd (cc)
    at (Some r) g go = go r g

fault_end : (ls : List Lexeme) (s q : State) (end : Place) → run s (tokens_of ls) ≡ Some q → ended q ≡ None → fault s ls end ≡ Some end
fault_end [] s q end h k =
    let same : ended s ≡ None = cc in
    ap (λ o. elim o as (λ (o : Option (List ModuleTree)). Option Place) [ None ↦ Some end | Some ms ↦ None ]) same
fault_end (x ∷ xs) s q end h k = at (step s (token_of x)) h (λ r g. fault_end xs r q end g k)
  where
    at : (o : Option State) → option_and_then (λ r. run r (tokens_of xs)) o ≡ Some q → ((r : State) → run r (tokens_of xs) ≡ Some q → fault r xs end ≡ Some end)
        → elim o as (λ (o : Option State). Option Place) [ None ↦ Some x.place | Some r ↦ fault r xs end ] ≡ Some end
    at None g go = absurd (cc)
    at (Some r) g go = go r g

fault_unread : (ls : List Lexeme) (s : State) (end p : Place) → fault s ls end ≡ Some p → reading (tokens_of ls) s ≡ None
fault_unread [] s end p h = at (ended s) h
  where
    at : (o : Option (List ModuleTree)) → elim o as (λ (o : Option (List ModuleTree)). Option Place) [ None ↦ Some end | Some ms ↦ None ] ≡ Some p → o ≡ None
    at None g = refl
    at (Some ms) g = absurd (cc)
fault_unread (x ∷ xs) s end p h = at (step s (token_of x)) h (λ r. fault_unread xs r end p)
  where
    at : (o : Option State) → elim o as (λ (o : Option State). Option Place) [ None ↦ Some x.place | Some r ↦ fault r xs end ] ≡ Some p → ((r : State) → fault r xs end ≡ Some p → reading (tokens_of xs) r ≡ None)
        → option_and_then (reading (tokens_of xs)) o ≡ None
    at None g go = refl
    at (Some r) g go = go r g

-- a start, what it is to read, and what its tokens then derive
module _ (s : State) (P : List Lexeme → Type 0) (aim : List Token → Aim) (begin : (all : List Token) → Inv (aim all) s all) (final : (ls : List Lexeme) → Final (aim (tokens_of ls)) → P ls)
    (result : (ls : List Lexeme) (ms : List ModuleTree) → Result (aim (tokens_of ls)) ms → P ls) (read : (ls : List Lexeme) → P ls → (ms : List ModuleTree) × (reading (tokens_of ls) s ≡ Some ms)) where
  begins : (front : List Lexeme) (q : State) → run s (tokens_of front) ≡ Some q → Begins P front
  begins front q h =
      let all = tokens_of front ++ tokens_of (closers q) in
      (closers q, final (front ++ closers q) (subst (λ l. Final (aim l)) (sym (tokens-append front (closers q))) (finish (aim all) q (kept_all (aim all) (tokens_of front) s q (tokens_of (closers q)) (begin all) h))))

  stuck : (front : List Lexeme) → run s (tokens_of front) ≡ None → ¬ (Begins P front)
  stuck front h b =
      let r = read (front ++ b.0) b.1 in
      let e : reading (tokens_of front ++ tokens_of b.0) s ≡ Some r.0 = ap (λ l. reading l s) (sym (tokens-append front b.0)) ∙ r.1 in
      let k = reading-append (tokens_of front) (tokens_of b.0) s in
      let none : option_and_then (reading (tokens_of b.0)) (run s (tokens_of front)) ≡ None = ap (option_and_then (reading (tokens_of b.0))) h in
      absurd (cc)

  whole : (ls : List Lexeme) (q : State) → run s (tokens_of ls) ≡ Some q → reading (tokens_of ls) s ≡ ended q
  whole ls q h = ap (λ l. reading l s) (sym (append-nil (tokens_of ls))) ∙ reading-append (tokens_of ls) [] s ∙ ap (option_and_then (reading [])) h

  next_run : (front : List Lexeme) (l : Lexeme) (q : State) → run s (tokens_of front) ≡ Some q → run s (tokens_of (front ++ l ∷ [])) ≡ option_and_then Some (step q (token_of l))
  next_run front l q h = ap (run s) (tokens-append front (l ∷ [])) ∙ run-append (tokens_of front) (token_of l ∷ []) s q h

  done : (ls : List Lexeme) (q : State) (ms : List ModuleTree) → run s (tokens_of ls) ≡ Some q → ended q ≡ Some ms → Result (aim (tokens_of ls)) ms
  done ls q ms h k =
      let all = tokens_of ls in
      sound (aim all) q ms (kept_all (aim all) all s q [] (subst (λ l. Inv (aim all) s l) (sym (append-nil all)) (begin all)) h) k

  broken_at : (ls front back : List Lexeme) (l : Lexeme) (end : Place) (q : State) → ls ≡ front ++ l ∷ back → run s (tokens_of front) ≡ Some q → step q (token_of l) ≡ None → Breaks P ls end l.place
  broken_at ls front back l end q e h k = at_token front l back e (begins front q h) (stuck (front ++ l ∷ []) (next_run front l q h ∙ ap (option_and_then Some) k))

  broken_end : (ls : List Lexeme) (end : Place) (q : State) → run s (tokens_of ls) ≡ Some q → ended q ≡ None → Breaks P ls end end
  broken_end ls end q h k = at_end (begins ls q h) (λ p. let r = read ls p in let w = whole ls q h in absurd (cc))

  located : (ls : List Lexeme) (end p : Place) → Breaks P ls end p → fault s ls end ≡ Some p
  located ls end _ (at_token front l back e b nb) = subst (λ x. fault s x end ≡ Some l.place) (sym e) (at (run s (tokens_of front)) refl)
    where
      on : (q : State) → run s (tokens_of front) ≡ Some q → (o : Option State) → step q (token_of l) ≡ o → fault s (front ++ l ∷ back) end ≡ Some l.place
      on q h None k = fault_at front s q l back end h k
      on q h (Some r) k = absurd (nb (begins (front ++ l ∷ []) r (next_run front l q h ∙ ap (option_and_then Some) k)))

      at : (o : Option State) → run s (tokens_of front) ≡ o → fault s (front ++ l ∷ back) end ≡ Some l.place
      at None h = absurd (stuck front h b)
      at (Some q) h = on q h (step q (token_of l)) refl
  located ls end _ (at_end b np) = at (run s (tokens_of ls)) refl
    where
      on : (q : State) → run s (tokens_of ls) ≡ Some q → (o : Option (List ModuleTree)) → ended q ≡ o → fault s ls end ≡ Some end
      on q h None k = fault_end ls s q end h k
      on q h (Some ms) k = absurd (np (result ls ms (done ls q ms h k)))

      at : (o : Option State) → run s (tokens_of ls) ≡ o → fault s ls end ≡ Some end
      at None h = absurd (stuck ls h b)
      at (Some q) h = on q h (ended q) refl

  one_place : (ls : List Lexeme) (end p q : Place) → Breaks P ls end p → Breaks P ls end q → p ≡ q
  one_place ls end p q b c = let x = located ls end p b in let y = located ls end q c in cc

  not_both : (ls : List Lexeme) (end p : Place) → P ls → ¬ (Breaks P ls end p)
  not_both ls end p h b = let r = read ls h in let n = fault_unread ls s end p (located ls end p b) in absurd (cc)

module_begin : (all : List Token) → Inv (one all) module_start all
module_begin all = λ p here eq. header_inv (one all) alone here p (λ rest n x. subst (λ l. IsModule l rest n) (sym eq) x)

module_final : (ls : List Lexeme) → Final (one (tokens_of ls)) → HasModule ls
module_final ls f = f

module_result : (ls : List Lexeme) (ms : List ModuleTree) → Result (one (tokens_of ls)) ms → HasModule ls
module_result ls ms r = (r.0, r.2)

module_read : (ls : List Lexeme) → HasModule ls → (ms : List ModuleTree) × (reading (tokens_of ls) module_start ≡ Some ms)
module_read ls h = (h.0 ∷ [], reads_module h.1 alone)

text_final : (ls : List Lexeme) → Final (many (tokens_of ls)) → HasText ls
text_final ls f = f

text_result : (ls : List Lexeme) (ms : List ModuleTree) → Result (many (tokens_of ls)) ms → HasText ls
text_result ls ms r = (ms, r)

ended_several : (ns : List ModuleTree) (n : ModuleTree) → ended (several (ns ++ n ∷ [])) ≡ Some (ns ++ n ∷ [])
ended_several [] n = refl
ended_several (k ∷ ns) n = refl

text_ended : {ts us : List Token} {ns : List ModuleTree} → IsText ts us ns → ended (several ns) ≡ Some ns
text_ended (g.text_first _) = refl
text_ended (g.text_also {ms = ns} {m = n} _ _) = ended_several ns n

text_reading : (ls : List Lexeme) (ns : List ModuleTree) → DerivesText ls ns → reading (tokens_of ls) text_start ≡ Some ns
text_reading ls ns t = reads_text t ∙ text_ended t

text_read : (ls : List Lexeme) → HasText ls → (ms : List ModuleTree) × (reading (tokens_of ls) text_start ≡ Some ms)
text_read ls h = (h.0, text_reading ls h.0 h.1)

-- one module
pub module_broken_at : (ls front back : List Lexeme) (l : Lexeme) (end : Place) (q : State) → ls ≡ front ++ l ∷ back → run module_start (tokens_of front) ≡ Some q → step q (token_of l) ≡ None → Breaks HasModule ls end l.place
module_broken_at = broken_at module_start HasModule one module_begin module_final module_result module_read

pub module_broken_end : (ls : List Lexeme) (end : Place) (q : State) → run module_start (tokens_of ls) ≡ Some q → ended q ≡ None → Breaks HasModule ls end end
module_broken_end = broken_end module_start HasModule one module_begin module_final module_result module_read

pub module_done : (ls : List Lexeme) (q : State) (n : ModuleTree) → run module_start (tokens_of ls) ≡ Some q → ended q ≡ Some (n ∷ []) → DerivesModule ls n
module_done ls q n h k =
    let r = done module_start HasModule one module_begin module_final module_result module_read ls q (n ∷ []) h k in
    let same : n ≡ r.0 = cc in subst (λ x. DerivesModule ls x) (sym same) r.2

one_tree : (ls : List Lexeme) (n k : ModuleTree) → DerivesModule ls n → DerivesModule ls k → n ≡ k
one_tree ls n k x y = let a = reads_module x alone in let b = reads_module y alone in cc

pub one_module : (ls : List Lexeme) → HasOneModule ls
one_module ls = record {
  one_tree = one_tree ls;
  one_place = one_place module_start HasModule one module_begin module_final module_result module_read ls;
  not_both = λ n end p d. not_both module_start HasModule one module_begin module_final module_result module_read ls end p (n, d);
}

-- a text
pub text_broken_at : (ls front back : List Lexeme) (l : Lexeme) (end : Place) (q : State) → ls ≡ front ++ l ∷ back → run text_start (tokens_of front) ≡ Some q → step q (token_of l) ≡ None → Breaks HasText ls end l.place
text_broken_at = broken_at text_start HasText many (λ all. refl) text_final text_result text_read

pub text_broken_end : (ls : List Lexeme) (end : Place) (q : State) → run text_start (tokens_of ls) ≡ Some q → ended q ≡ None → Breaks HasText ls end end
text_broken_end = broken_end text_start HasText many (λ all. refl) text_final text_result text_read

pub text_done : (ls : List Lexeme) (q : State) (ns : List ModuleTree) → run text_start (tokens_of ls) ≡ Some q → ended q ≡ Some ns → DerivesText ls ns
text_done ls q ns h k = done text_start HasText many (λ all. refl) text_final text_result text_read ls q ns h k

one_list : (ls : List Lexeme) (ns ks : List ModuleTree) → DerivesText ls ns → DerivesText ls ks → ns ≡ ks
one_list ls ns ks x y = let a = text_reading ls ns x in let b = text_reading ls ks y in cc

pub one_text : (ls : List Lexeme) → HasOneText ls
one_text ls = record {
  one_list = one_list ls;
  one_place = one_place text_start HasText many (λ all. refl) text_final text_result text_read ls;
  not_both = λ ns end p d. not_both text_start HasText many (λ all. refl) text_final text_result text_read ls end p (ns, d);
}

pub reads_modules : (ls : List Lexeme) → ReadsModules ls
reads_modules ls = record { derived = module_done ls; broken_at = module_broken_at ls; broken_end = module_broken_end ls }

pub reads_texts : (ls : List Lexeme) → ReadsTexts ls
reads_texts ls = record { derived = text_done ls; broken_at = text_broken_at ls; broken_end = text_broken_end ls }
