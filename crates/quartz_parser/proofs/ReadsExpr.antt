-- What derives is read.
use Rattle.std.proofs.Common.{◌≡◌, ◌≤◌, ◌<◌, ℕ, Bool, true, false, ◌&&◌, ◌+◌, ◌-◌, nat_lt, nat_le, List, [], ◌∷◌, Option, Some, refl, ap, ◌∙◌, arith}
use Rattle.std.specs.Prelude.{if◌then◌else◌, option_and_then, ◌==◌}
use Rattle.std.proofs.lemmas.Bool.Decides.{nat_tests}
use Rattle.quartz_tree.specs.declared.place.Place.{Place}
use Rattle.quartz_tree.specs.declared.expr.Unary.TheVariants.{Not, Neg}
use Rattle.quartz_tree.specs.declared.expr.Binary.{Binary}
use Rattle.quartz_tree.specs.declared.expr.Binary.TheVariants.{Iff, Implies, Or, Xor, And, Eq, Ne, Lt, Le, Gt, Ge, Cat, Add, Sub, Mul, Div, Rem}
use Rattle.quartz_tree.specs.Tree as tree
use Rattle.quartz_tree.specs.Tree.{Tree}
use Rattle.quartz_tree.specs.Surfaces.{Word, ModuleTree}
use Rattle.quartz_parser.specs.declared.symbol.Mark.TheVariants as m
use Rattle.quartz_parser.specs.Tokens.{Token, mark, number, infix_sign}
use Rattle.quartz_parser.specs.Grammar as g
use Rattle.quartz_parser.specs.Grammar.{row, left_row, right_row, level, height, greatest, greatest_of, typing, array_typing, declared_as, taken, sized_base, begins_else, IsExpr, IsWhole, IsBase, IsType, IsHead, IsConst, IsInit, IsFlow, IsParams, IsParamList, IsLocal, IsDecls, IsOpenDecls, IsTarget, IsLabel, IsMode, IsNames, IsArgs, IsStmt, IsSeq, IsBranches, IsBlock, IsModule, IsText}
use Rattle.quartz_parser.specs.Machine.{State, expect, a_number, want, after_name, tail, after_high, tightest, only, step, ended}
use Rattle.quartz_parser.proofs.Kept.{level_pos, row_small, right_small, eq_test}

-- what a state reads of all these tokens
abbrev pub reading : List Token → State → Option (List ModuleTree)
reading [] s = ended s
reading (t ∷ ts) s = option_and_then (reading ts) (step s t)

pub lt_true : (a b : ℕ) → a < b → nat_lt a b ≡ true
lt_true a b h = grind (arith, nat_tests)

le_true : (a b : ℕ) → a ≤ b → nat_le a b ≡ true
le_true a b h = grind (arith, nat_tests)

le_false : (a b : ℕ) → b < a → nat_le a b ≡ false
le_false a b h = grind (arith, nat_tests)

both_true : (a b : Bool) → a ≡ true → b ≡ true → (a && b) ≡ true
both_true a b h k = cc

only_true : (b : Bool) (s : State) → b ≡ true → only b s ≡ Some s
only_true true s h = refl
only_true false s h = absurd (cc)

if_true : {A : Type 0} (b : Bool) (x y : A) → b ≡ true → (if b then x else y) ≡ x
if_true true x y h = refl
if_true false x y h = absurd (cc)

if_false : {A : Type 0} (b : Bool) (x y : A) → b ≡ false → (if b then x else y) ≡ y
if_false true x y h = absurd (cc)
if_false false x y h = refl

first_false : (a b : Bool) → a ≡ false → (a && b) ≡ false
first_false a b h = cc

-- a token that is taken only where a test holds
pub goes_only : (b : Bool) (s : State) (ts : List Token) → b ≡ true → option_and_then (reading ts) (only b s) ≡ reading ts s
goes_only b s ts h = ap (option_and_then (reading ts)) (only_true b s h)

goes_if : (b : Bool) (s : State) (o : Option State) (ts : List Token) → b ≡ true → option_and_then (reading ts) (if b then Some s else o) ≡ reading ts s
goes_if b s o ts h = ap (option_and_then (reading ts)) (if_true b (Some s) o h)

row_pos : (op : Binary) → 1 ≤ row op
row_pos Iff = omega arith
row_pos Implies = omega arith
row_pos Or = omega arith
row_pos Xor = omega arith
row_pos And = omega arith
row_pos Eq = omega arith
row_pos Ne = omega arith
row_pos Lt = omega arith
row_pos Le = omega arith
row_pos Gt = omega arith
row_pos Ge = omega arith
row_pos Cat = omega arith
row_pos Add = omega arith
row_pos Sub = omega arith
row_pos Mul = omega arith
row_pos Div = omega arith
row_pos Rem = omega arith

row_left : (r : ℕ) → r ≤ left_row r
row_left r = at (r == 2) refl
  where
    at : (b : Bool) → (r == 2) ≡ b → r ≤ (if b then 3 else r)
    at true h = let e = eq_test r 2 h in omega (arith, e)
    at false h = omega arith

row_right : (r : ℕ) → r ≤ right_row r
row_right r = at (r == 2) refl
  where
    at : (b : Bool) → (r == 2) ≡ b → r ≤ (if b then 2 else r + 1)
    at true h = let e = eq_test r 2 h in omega (arith, e)
    at false h = omega arith

not_eq : (a b : ℕ) → (a == b) ≡ false → (a ≡ b) → ⊥
not_eq a b h e = grind (arith, nat_tests)

-- an operator whose left side takes row r is looser than the right side of row r
looser_than : (s r : ℕ) → left_row s ≤ r → s < right_row r
looser_than s r h = at (s == 2) (r == 2) refl refl h
  where
    at : (a b : Bool) → (s == 2) ≡ a → (r == 2) ≡ b → (if a then 3 else s) ≤ r → s < (if b then 2 else r + 1)
    at true true e f k = let u = eq_test s 2 e in let v = eq_test r 2 f in omega (arith, u, v, k)
    at true false e f k = let u = eq_test s 2 e in omega (arith, u, k)
    at false true e f k = let v = eq_test r 2 f in let n = not_eq s 2 e in omega (arith, v, k, n)
    at false false e f k = omega (arith, k)

-- an expression of this row ends before these tokens
abbrev Ends : ℕ → List Token → Type 0
Ends r (infix_sign op _ ∷ _) = left_row (row op) ≤ r
Ends r (mark m.Question _ ∷ _) = 1 ≤ r
Ends r (mark m.OpenBrace _ ∷ _) = 12 ≤ r
Ends r (mark m.OpenBracket _ ∷ _) = ⊥
Ends r _ = Unit {0}

ends_mono : (n r : ℕ) (us : List Token) → n ≤ r → Ends n us → Ends r us
ends_mono n r (infix_sign op _ ∷ _) h e = omega (arith, h, e)
ends_mono n r (mark m.Question _ ∷ _) h e = omega (arith, h, e)
ends_mono n r (mark m.OpenBrace _ ∷ _) h e = omega (arith, h, e)
ends_mono n r (mark m.OpenBracket _ ∷ _) h e = e
ends_mono n r _ h e = tt

-- they don't go on with an expression that is to have row n at least
abbrev Quiet : ℕ → List Token → Type 0
Quiet n (infix_sign op _ ∷ _) = row op < n
Quiet n (mark m.Question _ ∷ _) = 0 < n
Quiet n (mark m.OpenBrace _ ∷ _) = ⊥
Quiet n (mark m.OpenBracket _ ∷ _) = ⊥
Quiet n _ = Unit {0}

quiet_outside : (us : List Token) → Ends 0 us → Quiet 0 us
quiet_outside (infix_sign op _ ∷ _) e = let p = row_pos op in let l = row_left (row op) in omega (arith, p, l, e)
quiet_outside (mark m.Question _ ∷ _) e = omega (arith, e)
quiet_outside (mark m.OpenBrace _ ∷ _) e = absurd (omega (arith, e))
quiet_outside (mark m.OpenBracket _ ∷ _) e = e
quiet_outside _ e = tt

quiet_unary : (us : List Token) → Ends 11 us → Quiet 11 us
quiet_unary (infix_sign op _ ∷ _) e = let p = row_small op in omega (arith, p)
quiet_unary (mark m.Question _ ∷ _) e = omega (arith, e)
quiet_unary (mark m.OpenBrace _ ∷ _) e = absurd (omega (arith, e))
quiet_unary (mark m.OpenBracket _ ∷ _) e = e
quiet_unary _ e = tt

quiet_right : (r : ℕ) (us : List Token) → r ≤ 10 → Ends r us → Quiet (right_row r) us
quiet_right r (infix_sign op _ ∷ _) s e = looser_than (row op) r e
quiet_right r (mark m.Question _ ∷ _) s e = let k = row_right r in omega (arith, k, e)
quiet_right r (mark m.OpenBrace _ ∷ _) s e = absurd (omega (arith, e, s))
quiet_right r (mark m.OpenBracket _ ∷ _) s e = e
quiet_right r _ s e = tt

falls : (n d : ℕ) (e : Tree Word) (next : Tree Word → State) (us : List Token) → Quiet n us → reading us (tail n d e next) ≡ reading us (next e)
falls n d e next [] q = refl
falls n d e next (infix_sign op p ∷ us) q =
    ap (option_and_then (reading us)) (if_false _ (Some (want (right_row (row op)) (d - 1) (λ b. tail n d (tree.two op e b p) next))) (step (next e) (infix_sign op p)) (first_false _ _ (le_false n (row op) q)))
falls n d e next (mark m.Question p ∷ us) q =
    ap (option_and_then (reading us))
    (if_false _ (Some (want 0 (d - 1) (λ a. expect m.Colon (want 0 (d - 1) (λ b. tail n d (tree.choice e a b p) next))))) (step (next e) (mark m.Question p)) (first_false _ _ (le_false n 0 q)))
falls n d e next (mark m.OpenBrace p ∷ us) q = absurd q
falls n d e next (mark m.OpenBracket p ∷ us) q = absurd q
falls n d e next (t ∷ us) q = refl

named_falls : (n d : ℕ) (x : Word) (p : Place) (next : Tree Word → State) (r : ℕ) (us : List Token) → Ends r us → reading us (after_name n d x p next) ≡ reading us (tail n d (tree.named x p) next)
named_falls n d x p next r [] e = refl
named_falls n d x p next r (mark m.OpenBracket q ∷ us) e = absurd e
named_falls n d x p next r (t ∷ us) e = refl

-- an expression of row r is at least as tight
tight : {r : ℕ} {ts us : List Token} {e : Tree Word} → IsExpr r ts us e → r ≤ tightest e
tight (g.expr_looser s h) = let k = tight s in omega (arith, k, h)
tight (g.expr_choice _ _ _) = omega arith
tight (g.expr_binary _ _) = omega arith
tight (g.expr_not _) = omega arith
tight (g.expr_minus _) = omega arith
tight (g.expr_bit _) = omega arith
tight (g.expr_slice _) = omega arith
tight g.expr_truth = omega arith
tight g.expr_number = omega arith
tight g.expr_bits = omega arith
tight g.expr_named = omega arith
tight (g.expr_element _) = omega arith
tight (g.expr_to_nat _) = omega arith
tight (g.expr_to_bv _) = omega arith
tight (g.expr_paren _) = omega arith

pub reads_expr : {r : ℕ} {ts us : List Token} {e : Tree Word} → IsExpr r ts us e → (n d : ℕ) (next : Tree Word → State) → n ≤ r → n ≤ 11 → level e ≤ d → Ends r us
    → reading ts (want n d next) ≡ reading us (tail n d e next)
reads_expr {us = us} (g.expr_looser {n = s} {r = r} t h) n d next le small l end = reads_expr t n d next (omega (arith, le, h)) small l (ends_mono s r us h end)
reads_expr (g.expr_choice {us = us} {vs = vs} {ws = ws} {c = c} {a = a} {b = b} {p = p} s t u) n d next le small l end =
    let pos = level_pos c in
    reads_expr s n d next (omega (arith, le)) small (omega (arith, l)) (omega arith)
    ∙ goes_if _ (want 0 (d - 1) (λ a. expect m.Colon (want 0 (d - 1) (λ b. tail n d (tree.choice c a b p) next)))) (step (next c) (mark m.Question p)) us
    (both_true _ _ (le_true n 0 le) (both_true _ _ (le_true 1 (tightest c) (tight s)) (lt_true (level c) d (omega (arith, l)))))
    ∙ reads_expr t 0 (d - 1) (λ a. expect m.Colon (want 0 (d - 1) (λ b. tail n d (tree.choice c a b p) next))) (omega arith) (omega arith) (omega (arith, l)) tt
    ∙ reads_expr u 0 (d - 1) (λ b. tail n d (tree.choice c a b p) next) (omega arith) (omega arith) (omega (arith, l)) end
    ∙ falls 0 (d - 1) b (λ b. tail n d (tree.choice c a b p) next) ws (quiet_outside ws end)
reads_expr (g.expr_binary {op = op} {us = us} {vs = vs} {a = a} {b = b} {p = p} s t) n d next le small l end =
    let left = row_left (row op) in let right = row_right (row op) in let up = right_small (row op) in let ten = row_small op in
    reads_expr s n d next (omega (arith, le, left)) small (omega (arith, l)) (omega arith)
    ∙ goes_if _ (want (right_row (row op)) (d - 1) (λ b. tail n d (tree.two op a b p) next)) (step (next a) (infix_sign op p)) us
    (both_true _ _ (le_true n (row op) le) (both_true _ _ (le_true (left_row (row op)) (tightest a) (tight s)) (lt_true (level a) d (omega (arith, l)))))
    ∙ reads_expr t (right_row (row op)) (d - 1) (λ b. tail n d (tree.two op a b p) next) (omega arith) (omega (arith, up, ten)) (omega (arith, l)) (ends_mono (row op) (right_row (row op)) vs right end)
    ∙ falls (right_row (row op)) (d - 1) b (λ b. tail n d (tree.two op a b p) next) vs (quiet_right (row op) vs ten end)
reads_expr (g.expr_not {ts = ts} {us = us} {e = e} {p = p} s) n d next le small l end =
    let pos = level_pos e in
    goes_only (nat_lt 1 d) _ ts (lt_true 1 d (omega (arith, l, pos)))
    ∙ reads_expr s 11 (d - 1) (λ e. tail n d (tree.one Not e p) next) (omega arith) (omega arith) (omega (arith, l)) end
    ∙ falls 11 (d - 1) e (λ e. tail n d (tree.one Not e p) next) us (quiet_unary us end)
reads_expr (g.expr_minus {ts = ts} {us = us} {e = e} {p = p} s) n d next le small l end =
    let pos = level_pos e in
    goes_only (nat_lt 1 d) _ ts (lt_true 1 d (omega (arith, l, pos)))
    ∙ reads_expr s 11 (d - 1) (λ e. tail n d (tree.one Neg e p) next) (omega arith) (omega arith) (omega (arith, l)) end
    ∙ falls 11 (d - 1) e (λ e. tail n d (tree.one Neg e p) next) us (quiet_unary us end)
reads_expr (g.expr_bit {us = us} {e = e} {h = h} {p = p} {q = q} {r = r} s) n d next le small l end =
    reads_expr s n d next le small (omega (arith, l)) (omega arith)
    ∙ goes_if _ (a_number (λ h q. after_high n d e h p next)) (step (next e) (mark m.OpenBrace p)) (number h q ∷ mark m.CloseBrace r ∷ us)
    (both_true _ _ (le_true 12 (tightest e) (tight s)) (lt_true (level e) d (omega (arith, l))))
reads_expr (g.expr_slice {us = us} {e = e} {h = h} {l = low} {p = p} {q = q} {r = r} {s = s'} {o = o} s) n d next le small l end =
    reads_expr s n d next le small (omega (arith, l)) (omega arith)
    ∙ goes_if _ (a_number (λ h q. after_high n d e h p next)) (step (next e) (mark m.OpenBrace p)) (number h q ∷ mark m.Colon r ∷ number low s' ∷ mark m.CloseBrace o ∷ us)
    (both_true _ _ (le_true 12 (tightest e) (tight s)) (lt_true (level e) d (omega (arith, l))))
reads_expr g.expr_truth n d next le small l end = refl
reads_expr g.expr_number n d next le small l end = refl
reads_expr g.expr_bits n d next le small l end = refl
reads_expr (g.expr_named {us = us} {x = x} {p = p}) n d next le small l end = named_falls n d x p next 13 us end
reads_expr (g.expr_element {ts = ts} {us = us} {x = x} {e = e} {p = p} {q = q} {r = r} s) n d next le small l end =
    let pos = level_pos e in
    goes_only (nat_lt 1 d) _ ts (lt_true 1 d (omega (arith, l, pos)))
    ∙ reads_expr s 0 (d - 1) (λ e. expect m.CloseBracket (tail n d (tree.element x e p) next)) (omega arith) (omega arith) (omega (arith, l)) tt
reads_expr (g.expr_to_nat {ts = ts} {us = us} {e = e} {p = p} {q = q} {r = r} s) n d next le small l end =
    let pos = level_pos e in
    goes_only (nat_lt 1 d) _ (mark m.Open q ∷ ts) (lt_true 1 d (omega (arith, l, pos)))
    ∙ reads_expr s 0 (d - 1) (λ e. expect m.Close (tail n d (tree.to_nat e p) next)) (omega arith) (omega arith) (omega (arith, l)) tt
reads_expr (g.expr_to_bv {ts = ts} {us = us} {e = e} {n = k} {p = p} {q = q} {r = r} {s = s'} {o = o} s) n d next le small l end =
    let pos = level_pos e in
    goes_only (nat_lt 1 d) _ (mark m.Open q ∷ ts) (lt_true 1 d (omega (arith, l, pos)))
    ∙ reads_expr s 0 (d - 1) (λ e. expect m.Comma (a_number (λ k q. expect m.Close (tail n d (tree.to_bv e k q p) next)))) (omega arith) (omega arith) (omega (arith, l)) tt
reads_expr (g.expr_paren {ts = ts} {us = us} {e = e} {p = p} {q = q} s) n d next le small l end =
    let pos = level_pos e in
    goes_only (nat_lt 1 d) _ ts (lt_true 1 d (omega (arith, l, pos)))
    ∙ reads_expr s 0 (d - 1) (λ e. expect m.Close (tail n d (tree.paren e p) next)) (omega arith) (omega arith) (omega (arith, l)) tt
