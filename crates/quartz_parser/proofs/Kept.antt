-- A token keeps what a state has read.
use Rattle.std.proofs.Common.{◌≡◌, ◌≤◌, ◌<◌, ℕ, Bool, true, false, ◌&&◌, ◌+◌, ◌-◌, nat_lt, nat_le, List, [], ◌∷◌, ◌++◌, Option, Some, None, refl, sym, ap, ◌∙◌, subst, arith}
use Rattle.std.specs.Prelude.{if◌then◌else◌, ◌==◌}
use Rattle.std.proofs.lemmas.Bool.Decides.{nat_tests}
use Rattle.quartz_tree.specs.declared.place.Place.{Place}
use Rattle.quartz_tree.specs.declared.declare.Base.{Base}
use Rattle.quartz_tree.specs.declared.declare.Base.TheVariants as base
use Rattle.quartz_tree.specs.declared.declare.Storage.{Storage}
use Rattle.quartz_tree.specs.declared.declare.Storage.TheVariants.{Mem}
use Rattle.quartz_tree.specs.declared.declare.Flow.TheVariants.{Input, Output, Inner}
use Rattle.quartz_tree.specs.declared.declare.Start.TheVariants as start
use Rattle.quartz_tree.specs.declared.declare.Init.{Init}
use Rattle.quartz_tree.specs.declared.declare.Decl.{Decl}
use Rattle.quartz_tree.specs.declared.expr.Binary.{Binary}
use Rattle.quartz_tree.specs.declared.expr.Binary.TheVariants.{Iff, Implies, Or, Xor, And, Eq, Ne, Lt, Le, Gt, Ge, Cat, Add, Sub, Mul, Div, Rem}
use Rattle.quartz_tree.specs.declared.surface.Arg.{Arg}
use Rattle.quartz_tree.specs.Tree as tree
use Rattle.quartz_tree.specs.Tree.{Tree}
use Rattle.quartz_tree.specs.Surfaces as plain
use Rattle.quartz_tree.specs.Surfaces.{Word, Goal, Written, Branch, Branches, ModuleTree, branch, branches_of}
use Rattle.quartz_parser.specs.declared.declaring.Typing.{Typing}
use Rattle.quartz_parser.specs.declared.symbol.Mark.{Mark}
use Rattle.quartz_parser.specs.declared.symbol.Mark.TheVariants as m
use Rattle.quartz_parser.specs.Tokens.{Token, mark, name, number, bits, truth, storage, sized, infix_sign, preempt}
use Rattle.quartz_parser.specs.Grammar as g
use Rattle.quartz_parser.specs.Grammar.{row, left_row, right_row, level, height, greatest, greatest_of, typing, array_typing, declared_as, taken, sized_base, begins_else, IsExpr, IsWhole, IsBase, IsType, IsHead, IsConst, IsInit, IsFlow, IsParams, IsParamList, IsLocal, IsDecls, IsOpenDecls, IsTarget, IsLabel, IsMode, IsNames, IsArgs, IsStmt, IsSeq, IsBranches, IsBlock, IsModule, IsText}
use Rattle.quartz_parser.specs.Machine.{State, expect, a_name, a_number, want, after_name, tail, after_high, a_base, stored, a_const, init, flow, first_param, after_param, next_param, subscript, decls, open_decls, ready, stmt, after_word, labelled, after_immediate, after_weak, after_mode, after_emit, first_arg, after_arg, after_if, alone, several, only, want_on, tail_on, after_name_on, after_high_on, base_on, type_on, head_on, const_on, init_on, flow_on, param_more, first_param_on, after_param_on, subscript_on, guarded, awaited, target, condition, right_side, stmt_on, after_word_on, labelled_on, after_immediate_on, after_weak_on, after_mode_on, after_emit_on, first_arg_on, after_arg_on, after_if_on, ready_on, local, open_decls_on, header, several_on, name_on, number_on, rank, expect_on, step}
use Rattle.quartz_parser.proofs.Invariant.{Front, Read, Aim, one, many, Several, Inv, InvO}

pub lt_test : (a b : ℕ) → nat_lt a b ≡ true → a < b
lt_test a b h = grind (arith, nat_tests)

pub le_test : (a b : ℕ) → nat_le a b ≡ true → a ≤ b
le_test a b h = grind (arith, nat_tests)

pub eq_test : (a b : ℕ) → (a == b) ≡ true → a ≡ b
eq_test a b h = grind (arith, nat_tests)

and_test : (a b : Bool) → (a && b) ≡ true → (a ≡ true) × (b ≡ true)
and_test true b h = (refl, h)
and_test false b h = absurd (cc)

pub level_pos : (e : Tree Word) → 1 ≤ level e
level_pos (tree.truth _ _) = omega arith
level_pos (tree.number _ _) = omega arith
level_pos (tree.bits _ _ _) = omega arith
level_pos (tree.named _ _) = omega arith
level_pos (tree.element _ e _) = omega arith
level_pos (tree.one _ e _) = omega arith
level_pos (tree.two _ a b _) = omega arith
level_pos (tree.choice c a b _) = omega arith
level_pos (tree.slice e _ _ _) = omega arith
level_pos (tree.to_nat e _) = omega arith
level_pos (tree.to_bv e _ _ _) = omega arith
level_pos (tree.paren e _) = omega arith

-- the mark of a number
unrank : ℕ → Mark
unrank n = if n == 0 then m.Module else (if n == 1 then m.Bool else (if n == 2 then m.Nothing else (if n == 3 then m.Pause else (if n == 4 then m.Halt else (if n == 5 then m.Await else (if n == 6 then m.Immediate else (if n == 7 then m.Weak else (if n == 8 then m.When else (if n == 9 then m.Emit else (if n == 10 then m.Next else (if n == 11 then m.If else (if n == 12 then m.Else else (if n == 13 then m.Loop else (if n == 14 then m.Always else (if n == 15 then m.While else (if n == 16 then m.Do else (if n == 17 then m.ToNat else (if n == 18 then m.ToBv else (if n == 19 then m.Open else (if n == 20 then m.Close else (if n == 21 then m.OpenBrace else (if n == 22 then m.CloseBrace else (if n == 23 then m.OpenBracket else (if n == 24 then m.CloseBracket else (if n == 25 then m.Comma else (if n == 26 then m.Semicolon else (if n == 27 then m.Colon else (if n == 28 then m.Question else (if n == 29 then m.Bang else (if n == 30 then m.Equals else (m.Bars)))))))))))))))))))))))))))))))

unrank-rank : (k : Mark) → unrank (rank k) ≡ k
unfolding unrank
unrank-rank m.Module = refl
unrank-rank m.Bool = refl
unrank-rank m.Nothing = refl
unrank-rank m.Pause = refl
unrank-rank m.Halt = refl
unrank-rank m.Await = refl
unrank-rank m.Immediate = refl
unrank-rank m.Weak = refl
unrank-rank m.When = refl
unrank-rank m.Emit = refl
unrank-rank m.Next = refl
unrank-rank m.If = refl
unrank-rank m.Else = refl
unrank-rank m.Loop = refl
unrank-rank m.Always = refl
unrank-rank m.While = refl
unrank-rank m.Do = refl
unrank-rank m.ToNat = refl
unrank-rank m.ToBv = refl
unrank-rank m.Open = refl
unrank-rank m.Close = refl
unrank-rank m.OpenBrace = refl
unrank-rank m.CloseBrace = refl
unrank-rank m.OpenBracket = refl
unrank-rank m.CloseBracket = refl
unrank-rank m.Comma = refl
unrank-rank m.Semicolon = refl
unrank-rank m.Colon = refl
unrank-rank m.Question = refl
unrank-rank m.Bang = refl
unrank-rank m.Equals = refl
unrank-rank m.Bars = refl

pub same_rank : (j k : Mark) → (rank j == rank k) ≡ true → j ≡ k
same_rank j k h = sym (unrank-rank j) ∙ ap unrank (eq_test (rank j) (rank k) h) ∙ unrank-rank k

pub row_small : (op : Binary) → row op ≤ 10
row_small Iff = omega arith
row_small Implies = omega arith
row_small Or = omega arith
row_small Xor = omega arith
row_small And = omega arith
row_small Eq = omega arith
row_small Ne = omega arith
row_small Lt = omega arith
row_small Le = omega arith
row_small Gt = omega arith
row_small Ge = omega arith
row_small Cat = omega arith
row_small Add = omega arith
row_small Sub = omega arith
row_small Mul = omega arith
row_small Div = omega arith
row_small Rem = omega arith

pub right_small : (r : ℕ) → right_row r ≤ r + 1
right_small r = at (r == 2) refl
  where
    at : (b : Bool) → (r == 2) ≡ b → (if b then 2 else r + 1) ≤ r + 1
    at true h = let e = eq_test r 2 h in omega (arith, e)
    at false h = omega arith

-- the levels of one more statement, and of one more branch
pub greatest_more : (d : ℕ) (ws : List Written) (w : Written) → greatest (branch ws) ≤ d → height w ≤ d → greatest (branch (ws ++ w ∷ [])) ≤ d
greatest_more d [] w h k = omega arith
greatest_more d (v ∷ ws) w h k = let r = greatest_more d ws w (omega (arith, h)) k in omega (arith, r, h)

pub greatest_of_more : (d : ℕ) (bs : List Branch) (b : Branch) → greatest_of (branches_of bs) ≤ d → greatest b ≤ d → greatest_of (branches_of (bs ++ b ∷ [])) ≤ d
greatest_of_more d [] b h k = omega arith
greatest_of_more d (c ∷ bs) b h k = let r = greatest_of_more d bs b (omega (arith, h)) k in omega (arith, r, h)

front_of : (bs : List Branch) (b : Branch) (mid here : List Token) (p : Place) → IsBranches mid (mark m.Bars p ∷ here) (bs ++ b ∷ []) → Front (bs ++ b ∷ []) mid here
front_of [] b mid here p x = (p, x)
front_of (c ∷ bs) b mid here p x = (p, x)

pub joined : (bs : List Branch) (mid cur here : List Token) (ws : List Written) → Front bs mid cur → IsSeq cur here ws → IsBranches mid here (bs ++ branch ws ∷ [])
joined [] mid cur here ws f s = g.branches_first (subst (λ l. IsSeq l here ws) (sym f) s)
joined (b ∷ bs) mid cur here ws f s = g.branches_also f.1 s

read_more : (ns : List ModuleTree) (n : ModuleTree) (all here rest : List Token) → Read ns all here → IsModule here rest n → Read (ns ++ n ∷ []) all rest
read_more [] n all here rest r s = g.text_first (subst (λ l. IsModule l rest n) (sym r) s)
read_more (k ∷ ns) n all here rest r s = g.text_also r s

whole_then : {us rest vs : List Token} {c : Tree Word} {k : Mark} {r : Place} → IsWhole us (mark k r ∷ rest) c → rest ≡ vs → IsWhole us (mark k r ∷ vs) c
whole_then {us} {rest} {vs} {c} {k} {r} w e = subst (λ l. IsWhole us (mark k r ∷ l) c) e w

whole_cut : {us rest vs : List Token} {c : Tree Word} → IsWhole us rest c → rest ≡ vs → IsWhole us vs c
whole_cut {us} {rest} {vs} {c} w e = subst (λ l. IsWhole us l c) e w

expr_cut : {n : ℕ} {us rest vs : List Token} {c : Tree Word} → IsExpr n us rest c → rest ≡ vs → IsExpr n us vs c
expr_cut {n} {us} {rest} {vs} {c} w e = subst (λ l. IsExpr n us l c) e w

stmt_cut : {us rest vs : List Token} {w : Written} → IsStmt us rest w → rest ≡ vs → IsStmt us vs w
stmt_cut {us} {rest} {vs} {w} s e = subst (λ l. IsStmt us l w) e s

stmt_at : {us vs rest : List Token} {w : Written} {t : Token} → us ≡ vs → IsStmt (t ∷ vs) rest w → IsStmt (t ∷ us) rest w
stmt_at {us} {vs} {rest} {w} {t} e s = subst (λ l. IsStmt (t ∷ l) rest w) (sym e) s

stmt_at₂ : {us vs rest : List Token} {w : Written} {t u : Token} → us ≡ vs → IsStmt (t ∷ u ∷ vs) rest w → IsStmt (t ∷ u ∷ us) rest w
stmt_at₂ {us} {vs} {rest} {w} {t} {u} e s = subst (λ l. IsStmt (t ∷ u ∷ l) rest w) (sym e) s

stmt_at₃ : {us vs rest : List Token} {w : Written} {t u v : Token} → us ≡ vs → IsStmt (t ∷ u ∷ v ∷ vs) rest w → IsStmt (t ∷ u ∷ v ∷ us) rest w
stmt_at₃ {us} {vs} {rest} {w} {t} {u} {v} e s = subst (λ l. IsStmt (t ∷ u ∷ v ∷ l) rest w) (sym e) s

target_cut : {us rest vs : List Token} {c : Goal} → IsTarget us rest c → rest ≡ vs → IsTarget us vs c
target_cut {us} {rest} {vs} {c} w e = subst (λ l. IsTarget us l c) e w

several_more : (aim : Aim) (ns : List ModuleTree) (n : ModuleTree) (here rest : List Token) → Several aim ns here → IsModule here rest n → Several aim (ns ++ n ∷ []) rest
several_more (one all) ns n here rest r s = absurd r
several_more (many all) ns n here rest r s = read_more ns n all here rest r s

module _ (W : Aim) where
  only_kept : (b : Bool) (s : State) (here : List Token) → (b ≡ true → Inv W s here) → InvO W (only b s) here
  only_kept true s here f = f refl
  only_kept false s here f = tt

  choice_kept : (b : Bool) (s : State) (o : Option State) (here : List Token) → (b ≡ true → Inv W s here) → InvO W o here → InvO W (if b then Some s else o) here
  choice_kept true s o here f k = f refl
  choice_kept false s o here f k = k

  if_kept : (b : Bool) (o : Option State) (here : List Token) → (b ≡ true → InvO W o here) → InvO W (if b then o else None) here
  if_kept true o here f = f refl
  if_kept false o here f = tt

  -- an expression by itself, up to a mark
  whole_inv : (k : Mark) (next : Tree Word → State) (here : List Token)
      → ((r : Place) (rest : List Token) (e : Tree Word) → IsWhole here (mark k r ∷ rest) e → Inv W (next e) rest) → Inv W (want 0 64 (λ e. expect k (next e))) here
  whole_inv k next here f = (omega arith, omega arith, λ rest e s l. λ r us eq. f r us e (record { shape = expr_cut s eq; shallow = l }))

  condition_inv : (next : Tree Word → State) (here : List Token)
      → ((q : Place) (us rest : List Token) (c : Tree Word) (r : Place) → here ≡ mark m.Open q ∷ us → IsWhole us (mark m.Close r ∷ rest) c → Inv W (next c) rest) → Inv W (condition next) here
  condition_inv next here f = λ q us eq. whole_inv m.Close next us (λ r rest c w. f q us rest c r eq w)

  awaited_inv : (immediate : Bool) (p : Place) (next : Written → State) (here : List Token)
      → ((q : Place) (us vs : List Token) (c : Tree Word) (r s : Place) → here ≡ mark m.Open q ∷ us → IsWhole us (mark m.Close r ∷ mark m.Semicolon s ∷ vs) c → Inv W (next (plain.await immediate c p)) vs)
      → Inv W (awaited immediate p next) here
  awaited_inv immediate p next here f = condition_inv (λ c. expect m.Semicolon (next (plain.await immediate c p))) here (λ q us rest c r eq w. λ s vs eq2. f q us vs c r s eq (whole_then w eq2))

  target_inv : (next : Goal → State) (here : List Token) → ((rest : List Token) (g : Goal) → IsTarget here rest g → Inv W (next g) rest) → Inv W (target next) here
  target_inv next here f = λ x p us eq. λ rest c t. f rest c (subst (λ l. IsTarget l rest c) (sym eq) t)

  guarded_inv : (d : ℕ) (abort weak immediate : Bool) (next : Written → State) (here from : List Token) (p : Place) → 1 < d → IsMode from (preempt abort p ∷ here) weak immediate
      → ((rest : List Token) (w : Written) → IsStmt from rest w → height w ≤ d → Inv W (next w) rest) → Inv W (guarded d abort weak immediate next) here
  guarded_inv d abort weak immediate next here from p lt mode f = (
    omega (arith, lt),
    λ rest w s l. λ o us eq. condition_inv (λ c. expect m.Semicolon (next (plain.guard abort weak immediate w c))) us (λ q vs rest2 c r eq2 wh. λ s2 ws eq3.
        f ws _ (g.stmt_guard mode (stmt_cut s (eq ∙ ap (λ l. mark m.When o ∷ l) eq2)) (whole_then wh eq3)) (omega (arith, l, lt))),
  )

  want_kept : (n d : ℕ) (next : Tree Word → State) (here : List Token) (t : Token) → Inv W (want n d next) (t ∷ here) → InvO W (want_on n d next t) here
  want_kept n d next here (truth b p) i = (truth b p ∷ here, g.expr_truth, i.0, i.1, omega (arith, i.1), i.2)
  want_kept n d next here (number k p) i = (number k p ∷ here, g.expr_number, i.0, i.1, omega (arith, i.1), i.2)
  want_kept n d next here (bits w k p) i = (bits w k p ∷ here, g.expr_bits, i.0, i.1, omega (arith, i.1), i.2)
  want_kept n d next here (name x p) i = i
  want_kept n d next here (mark m.Bang p) i =
      only_kept (nat_lt 1 d) _ here (λ h. let lt = lt_test 1 d h in (omega (arith, lt), omega arith, λ rest e s l. (mark m.Bang p ∷ here, g.expr_not s, omega (arith, l, lt), i.1, i.1, i.2)))
  want_kept n d next here (infix_sign Sub p) i =
      only_kept (nat_lt 1 d) _ here (λ h. let lt = lt_test 1 d h in (omega (arith, lt), omega arith, λ rest e s l. (infix_sign Sub p ∷ here, g.expr_minus s, omega (arith, l, lt), i.1, i.1, i.2)))
  want_kept n d next here (mark m.Open p) i =
      only_kept (nat_lt 1 d) _ here
      (λ h. let lt = lt_test 1 d h in (omega (arith, lt), omega arith, λ rest e s l. λ q us eq. (mark m.Open p ∷ here, g.expr_paren (expr_cut s eq), omega (arith, l, lt), i.1, omega (arith, i.1), i.2)))
  want_kept n d next here (mark m.ToNat p) i =
      only_kept (nat_lt 1 d) _ here
      (λ h. let lt = lt_test 1 d h in λ q us eq. (
        omega (arith, lt),
        omega arith,
        λ rest e s l. λ r vs eq2.
            (mark m.ToNat p ∷ here, subst (λ l. IsExpr 13 (mark m.ToNat p ∷ l) vs (tree.to_nat e p)) (sym eq) (g.expr_to_nat (expr_cut s eq2)), omega (arith, l, lt), i.1, omega (arith, i.1), i.2),
      ))
  want_kept n d next here (mark m.ToBv p) i =
      only_kept (nat_lt 1 d) _ here
      (λ h. let lt = lt_test 1 d h in λ q us eq. (
        omega (arith, lt),
        omega arith,
        λ rest e s l. λ r vs eq2. λ k o ws eq3. λ a xs eq4. (
          mark m.ToBv p ∷ here,
          subst (λ l. IsExpr 13 (mark m.ToBv p ∷ l) xs (tree.to_bv e k o p)) (sym eq)
              (g.expr_to_bv (expr_cut s (eq2 ∙ ap (λ l. mark m.Comma r ∷ l) (eq3 ∙ ap (λ l. number k o ∷ l) eq4)))),
          omega (arith, l, lt),
          i.1,
          omega (arith, i.1),
          i.2,
        ),
      ))
  want_kept n d next here _ i = tt

  tail_kept : (n d : ℕ) (e : Tree Word) (next : Tree Word → State) (here : List Token) (t : Token) (outer : Option State)
      → Inv W (tail n d e next) (t ∷ here) → InvO W outer here → InvO W (tail_on n d e next t outer) here
  tail_kept n d e next here (infix_sign op p) outer i o =
      choice_kept _ _ outer here (λ h.
      let a = and_test _ _ h in let b = and_test _ _ a.1 in let le = le_test _ _ a.0 in let left = le_test _ _ b.0 in let lt = lt_test _ _ b.1 in
      let pos = level_pos e in let small = row_small op in let right = right_small (row op) in
      (omega (arith, lt, pos), omega (arith, small, right), λ rest b s l. (i.0, g.expr_binary (g.expr_looser i.1 left) s, omega (arith, l, lt), i.3, le, i.5))) o
  tail_kept n d e next here (mark m.Question p) outer i o =
      choice_kept _ _ outer here (λ h.
      let a = and_test _ _ h in let b = and_test _ _ a.1 in let le = le_test _ _ a.0 in let left = le_test _ _ b.0 in let lt = lt_test _ _ b.1 in
      let pos = level_pos e in (
        omega (arith, lt, pos),
        omega arith,
        λ rest x s l. λ q us eq. (
          omega (arith, lt, pos),
          omega arith,
          λ rest2 y s2 l2.
              (i.0, g.expr_choice (g.expr_looser i.1 left) (expr_cut s eq) s2, omega (arith, l, l2, lt), i.3, le, i.5),
        ),
      )) o
  tail_kept n d e next here (mark m.OpenBrace p) outer i o =
      choice_kept _ _ outer here (λ h.
      let a = and_test _ _ h in let left = le_test _ _ a.0 in let lt = lt_test _ _ a.1 in
      λ k q us eq. (i.0, (q, expr_cut (g.expr_looser i.1 left) (ap (λ l. mark m.OpenBrace p ∷ l) eq)), lt, i.3, i.5)) o
  tail_kept n d e next here _ outer i o = o

  after_name_kept : (n d : ℕ) (x : Word) (p : Place) (next : Tree Word → State) (here : List Token) (t : Token) (outer : Option State)
      → Inv W (after_name n d x p next) (t ∷ here) → InvO W outer here → InvO W (after_name_on n d x p next t outer) here
  after_name_kept n d x p next here (mark m.OpenBracket q) outer i o =
      only_kept (nat_lt 1 d) _ here (λ h. let lt = lt_test 1 d h in (
        omega (arith, lt),
        omega arith,
        λ rest e s l. λ r us eq.
            (name x p ∷ mark m.OpenBracket q ∷ here, g.expr_element (expr_cut s eq), omega (arith, l, lt), i.1, omega (arith, i.1), i.2),
      ))
  after_name_kept n d x p next here t outer i o = tail_kept n d (tree.named x p) next here t outer (name x p ∷ t ∷ here, g.expr_named, i.0, i.1, omega (arith, i.1), i.2) o

  after_high_kept : (n d : ℕ) (e : Tree Word) (h : ℕ) (p : Place) (next : Tree Word → State) (here : List Token) (t : Token)
      → Inv W (after_high n d e h p next) (t ∷ here) → InvO W (after_high_on n d e h p next t) here
  after_high_kept n d e h p next here (mark m.CloseBrace q) i = (i.0, g.expr_bit i.1.1, omega (arith, i.2), i.3, omega (arith, i.3), i.4)
  after_high_kept n d e h p next here (mark m.Colon q) i =
      λ k r us eq. λ s vs eq2. (i.0, g.expr_slice (expr_cut i.1.1 (ap (λ l. mark m.OpenBrace p ∷ number h i.1.0 ∷ mark m.Colon q ∷ l) (eq ∙ ap (λ l. number k r ∷ l) eq2))), omega (arith, i.2), i.3, omega (arith, i.3), i.4)
  after_high_kept n d e h p next here _ i = tt

  base_kept : (next : Base → Option Place → State) (here : List Token) (t : Token) (outer : Option State) → Inv W (a_base next) (t ∷ here) → InvO W outer here → InvO W (base_on next t outer) here
  base_kept next here (mark m.Bool p) outer i o = i here base.Bool None g.base_bool
  base_kept next here (sized k p) outer i o =
      λ q us eq. λ n r vs eq2. λ s ws eq3. i ws _ _
      (subst (λ l. IsBase (sized k p ∷ l) ws (sized_base k n) (Some r)) (sym (eq ∙ ap (λ l. mark m.OpenBrace q ∷ l) (eq2 ∙ ap (λ l. number n r ∷ l) eq3))) g.base_sized)
  base_kept next here _ outer i o = o

  type_kept : (s : Storage) (next : Typing → State) (here : List Token) (t : Token) (outer : Option State)
      → ((rest : List Token) (ty : Typing) → IsType s (t ∷ here) rest ty → Inv W (next ty) rest) → InvO W outer here → InvO W (type_on s next t outer) here
  type_kept s next here (mark m.OpenBracket o) outer i k =
      λ n q us eq. λ r vs eq2. λ ws b bp isb. i ws _
      (subst (λ l. IsType s (mark m.OpenBracket o ∷ l) ws (array_typing s b bp n q)) (sym (eq ∙ ap (λ l. number n q ∷ l) eq2)) (g.type_array isb))
  type_kept s next here t outer i k = base_kept (λ b p. next (typing s b p)) here t outer (λ rest b p x. i rest _ (g.type_scalar x)) k

  head_kept : (next : Typing → State) (here : List Token) (t : Token) (outer : Option State)
      → ((rest : List Token) (ty : Typing) → IsHead (t ∷ here) rest ty → Inv W (next ty) rest) → InvO W outer here → InvO W (head_on next t outer) here
  head_kept next here (storage s p) outer i o = (i here _ g.head_untyped, λ rest ty h. i rest ty (g.head_stored h))
  head_kept next here t outer i o = type_kept Mem next here t outer (λ rest ty h. i rest ty (g.head_unstored h)) o

  const_kept : (next : Init → State) (here : List Token) (t : Token) → Inv W (a_const next) (t ∷ here) → InvO W (const_on next t) here
  const_kept next here (truth b p) i = i here _ g.const_truth
  const_kept next here (number n p) i = i here _ g.const_number
  const_kept next here (infix_sign Sub p) i = λ n q us eq. i us (record { value = start.Number true n; place = p }) (subst (λ l. IsConst (infix_sign Sub p ∷ l) us (record { value = start.Number true n; place = p })) (sym eq) g.const_minus)
  const_kept next here (bits w n p) i = i here _ g.const_bits
  const_kept next here _ i = tt

  init_kept : (next : Option Init → State) (here : List Token) (t : Token) (outer : Option State) → Inv W (init next) (t ∷ here) → InvO W outer here → InvO W (init_on next t outer) here
  init_kept next here (mark m.Equals p) outer i o = λ rest c h. i rest (Some c) (g.init_with h)
  init_kept next here _ outer i o = o

  flow_kept : (ty : Typing) (next : Decl → State) (here : List Token) (t : Token) (outer : Option State) → Inv W (flow ty next) (t ∷ here) → InvO W outer here → InvO W (flow_on ty next t outer) here
  flow_kept ty next here (mark m.Question q) outer i o = λ x p us eq. i us _ (subst (λ l. IsFlow ty (mark m.Question q ∷ l) us (declared_as ty Input x p None)) (sym eq) g.flow_input)
  flow_kept ty next here (mark m.Bang q) outer i o =
      λ x p us eq. λ rest c h. i rest _ (subst (λ l. IsFlow ty (mark m.Bang q ∷ l) rest (declared_as ty Output x p c)) (sym eq) (g.flow_output h))
  flow_kept ty next here _ outer i o = o

  first_param_kept : (next : List Decl → State) (here : List Token) (t : Token) → Inv W (first_param next) (t ∷ here) → InvO W (first_param_on next t) here
  first_param_kept next here (mark m.Close p) i = i here [] g.list_none
  first_param_kept next here t i = head_kept (λ ty. flow ty (λ d. after_param (d ∷ []) (taken d) next)) here t None (λ rest ty h. λ rest2 d f. (t ∷ here, (d, g.params_first h f, refl), i)) tt

  after_param_kept : (ds : List Decl) (d : Typing) (next : List Decl → State) (here : List Token) (t : Token) → Inv W (after_param ds d next) (t ∷ here) → InvO W (after_param_on ds d next t) here
  after_param_kept ds d next here (mark m.Comma p) i = (i.0, (i.1.0, p, i.1.1, i.1.2), i.2)
  after_param_kept ds d next here (mark m.Close p) i = i.2 here ds (g.list_some i.1.1)
  after_param_kept ds d next here _ i = tt

  subscript_kept : (x : Word) (p : Place) (next : Goal → State) (here : List Token) (t : Token) (outer : Option State)
      → Inv W (subscript x p next) (t ∷ here) → InvO W outer here → InvO W (subscript_on x p next t outer) here
  subscript_kept x p next here (mark m.OpenBracket q) outer i o = whole_inv m.CloseBracket (λ e. next (record { name = x; index = Some e; place = p })) here (λ r rest e w. i rest _ (g.target_element w))
  subscript_kept x p next here _ outer i o = o

  stmt_kept : (d : ℕ) (next : Written → State) (here : List Token) (t : Token) → Inv W (stmt d next) (t ∷ here) → InvO W (stmt_on d next t) here
  stmt_kept d next here (mark m.Semicolon p) i = i.1 here _ g.stmt_empty i.0
  stmt_kept d next here (mark m.Nothing p) i = λ q us eq. i.1 us _ (stmt_at eq g.stmt_nothing) i.0
  stmt_kept d next here (mark m.Pause p) i = λ q us eq. i.1 us _ (stmt_at eq (g.stmt_pause g.label_without)) i.0
  stmt_kept d next here (mark m.Halt p) i = λ q us eq. i.1 us _ (stmt_at eq (g.stmt_halt g.label_without)) i.0
  stmt_kept d next here (mark m.Await p) i = awaited_inv false p next here (λ q us vs c r s eq w. i.1 vs _ (stmt_at eq (g.stmt_await g.label_without w)) i.0)
  stmt_kept d next here (mark m.Immediate p) i = i
  stmt_kept d next here (mark m.Emit p) i = λ rest w s l. i.1 rest w s (omega (arith, l, i.0))
  stmt_kept d next here (mark m.Next p) i =
      λ q us eq. target_inv (λ c. expect m.Close (expect m.Equals (right_side (λ e. next (plain.write true c e p))))) us (λ rest c t. λ r vs eq2. λ o ws eq3. whole_inv m.Semicolon (λ e. next (plain.write true c e p)) ws (λ s rest2 e w.
      i.1 rest2 _ (stmt_at eq (g.stmt_write_next (target_cut t (eq2 ∙ ap (λ l. mark m.Close r ∷ l) eq3)) w)) i.0))
  stmt_kept d next here (mark m.OpenBrace p) i =
      (here, g.decls_none, λ rest bs mid es isd q b l. i.1 rest _ (g.stmt_inner (g.block_one isd b)) (omega (arith, l, i.0)))
  stmt_kept d next here (mark m.If p) i =
      only_kept (nat_lt 1 d) _ here (λ h. let lt = lt_test 1 d h in condition_inv (λ c. stmt (d - 1) (λ a. after_if d c a next)) here (λ q us rest c r eq w. (
        omega (arith, lt),
        λ rest2 a sa la. (
          lt,
          omega (arith, la, lt),
          λ free. i.1 rest2 _ (stmt_at eq (g.stmt_if_alone w sa free)) (omega (arith, la, lt)),
          λ p2 us2 rest3 b eq2 sb lb.
              i.1 rest3 _ (stmt_at eq (g.stmt_if_else w (stmt_cut sa eq2) sb)) (omega (arith, la, lb, lt)),
        ),
      )))
  stmt_kept d next here (mark m.Loop p) i = only_kept (nat_lt 1 d) _ here (λ h. let lt = lt_test 1 d h in (omega (arith, lt), λ rest w s l. i.1 rest _ (g.stmt_loop s) (omega (arith, l, lt))))
  stmt_kept d next here (mark m.Always p) i = only_kept (nat_lt 1 d) _ here (λ h. let lt = lt_test 1 d h in (omega (arith, lt), λ rest w s l. i.1 rest _ (g.stmt_always s) (omega (arith, l, lt))))
  stmt_kept d next here (mark m.While p) i =
      only_kept (nat_lt 1 d) _ here (λ h. let lt = lt_test 1 d h in condition_inv (λ c. stmt (d - 1) (λ w. next (plain.while c w p))) here (λ q us rest c r eq w. (
        omega (arith, lt),
        λ rest2 s ss l.
            i.1 rest2 _ (stmt_at eq (g.stmt_while w ss)) (omega (arith, l, lt)),
      )))
  stmt_kept d next here (mark m.Do p) i =
      only_kept (nat_lt 1 d) _ here (λ h. let lt = lt_test 1 d h in (
        omega (arith, lt),
        λ rest w s l. λ o us eq. condition_inv (λ c. expect m.Semicolon (next (plain.do_while w c p))) us (λ q vs rest2 c r eq2 wh. λ s2 ws eq3.
            i.1 ws _ (g.stmt_do_while (stmt_cut s (eq ∙ ap (λ l. mark m.While o ∷ l) eq2)) (whole_then wh eq3)) (omega (arith, l, lt))),
      ))
  stmt_kept d next here (mark m.Weak p) i = only_kept (nat_lt 1 d) _ here (λ h. (lt_test 1 d h, (p, i.1)))
  stmt_kept d next here (preempt abort p) i = only_kept (nat_lt 1 d) _ here (λ h. guarded_inv d abort false false next here (preempt abort p ∷ here) p (lt_test 1 d h) g.mode_plain i.1)
  stmt_kept d next here (name x p) i = λ rest w s l. i.1 rest w s (omega (arith, l, i.0))
  stmt_kept d next here _ i = tt

  after_word_kept : (x : Word) (p : Place) (next : Written → State) (here : List Token) (t : Token) → Inv W (after_word x p next) (t ∷ here) → InvO W (after_word_on x p next t) here
  after_word_kept x p next here (mark m.Colon q) i = (x, p, q, i)
  after_word_kept x p next here (mark m.Open q) i = λ rest us ys r a eq. i us _ (g.stmt_call (subst (λ l. IsArgs here l ys) eq a)) (omega arith)
  after_word_kept x p next here (mark m.Equals q) i = whole_inv m.Semicolon (λ e. next (plain.write false (record { name = x; index = None; place = p }) e p)) here (λ r rest e w. i rest _ (g.stmt_write g.target_scalar w) (omega arith))
  after_word_kept x p next here (mark m.OpenBracket q) i =
      whole_inv m.CloseBracket (λ k. expect m.Equals (right_side (λ e. next (plain.write false (record { name = x; index = Some k; place = p }) e p)))) here (λ r rest k w. λ o us eq. whole_inv m.Semicolon (λ e. next (plain.write false (record { name = x; index = Some k; place = p }) e p)) us (λ s rest2 e w2. i rest2 _ (g.stmt_write (g.target_element (whole_then w eq)) w2) (omega arith)))
  after_word_kept x p next here _ i = tt

  labelled_kept : (next : Written → State) (here : List Token) (t : Token) → Inv W (labelled next) (t ∷ here) → InvO W (labelled_on next t) here
  labelled_kept next here (mark m.Pause p) i = λ r us eq. i.3 us _ (stmt_at₃ eq (g.stmt_pause g.label_with)) (omega arith)
  labelled_kept next here (mark m.Halt p) i = λ r us eq. i.3 us _ (stmt_at₃ eq (g.stmt_halt g.label_with)) (omega arith)
  labelled_kept next here (mark m.Await p) i = awaited_inv false p next here (λ q us vs c r s eq w. i.3 vs _ (stmt_at₃ eq (g.stmt_await g.label_with w)) (omega arith))
  labelled_kept next here (mark m.Immediate p) i =
      λ o us eq. awaited_inv true p next us (λ q vs ws c r s eq2 w. i.3 ws _ (stmt_at₃ (eq ∙ ap (λ l. mark m.Await o ∷ l) eq2) (g.stmt_await_now g.label_with w)) (omega arith))
  labelled_kept next here _ i = tt

  after_immediate_kept : (d : ℕ) (p : Place) (next : Written → State) (here : List Token) (t : Token) → Inv W (after_immediate d p next) (t ∷ here) → InvO W (after_immediate_on d p next t) here
  after_immediate_kept d p next here (mark m.Await o) i = awaited_inv true p next here (λ q us vs c r s eq w. i.1 vs _ (stmt_at₂ eq (g.stmt_await_now g.label_without w)) i.0)
  after_immediate_kept d p next here (mark m.Weak q) i = only_kept (nat_lt 1 d) _ here (λ h. (lt_test 1 d h, (mark m.Immediate p ∷ mark m.Weak q ∷ here, g.mode_immediate_weak, i.1)))
  after_immediate_kept d p next here (preempt abort q) i =
      only_kept (nat_lt 1 d) _ here (λ h. guarded_inv d abort false true next here (mark m.Immediate p ∷ preempt abort q ∷ here) q (lt_test 1 d h) g.mode_immediate i.1)
  after_immediate_kept d p next here _ i = tt

  after_weak_kept : (d : ℕ) (next : Written → State) (here : List Token) (t : Token) → Inv W (after_weak d next) (t ∷ here) → InvO W (after_weak_on d next t) here
  after_weak_kept d next here (mark m.Immediate q) i = (i.0, (mark m.Weak i.1.0 ∷ mark m.Immediate q ∷ here, g.mode_weak_immediate, i.1.1))
  after_weak_kept d next here (preempt abort q) i = guarded_inv d abort true false next here (mark m.Weak i.1.0 ∷ preempt abort q ∷ here) q i.0 g.mode_weak i.1.1
  after_weak_kept d next here _ i = tt

  after_mode_kept : (d : ℕ) (weak immediate : Bool) (next : Written → State) (here : List Token) (t : Token) → Inv W (after_mode d weak immediate next) (t ∷ here) → InvO W (after_mode_on d weak immediate next t) here
  after_mode_kept d weak immediate next here (preempt abort q) i = guarded_inv d abort weak immediate next here i.1.0 q i.0 i.1.1 i.1.2
  after_mode_kept d weak immediate next here _ i = tt

  after_emit_kept : (p : Place) (next : Written → State) (here : List Token) (t : Token) → Inv W (after_emit p next) (t ∷ here) → InvO W (after_emit_on p next t) here
  after_emit_kept p next here (name x q) i = λ rest c t. λ s us eq. i us _ (g.stmt_emit (target_cut t eq)) (omega arith)
  after_emit_kept p next here (mark m.Open q) i = target_inv (λ c. expect m.Close (expect m.Semicolon (next (plain.emit false c p)))) here (λ rest c t. λ r us eq. λ s vs eq2. i vs _ (g.stmt_emit_in (target_cut t (eq ∙ ap (λ l. mark m.Close r ∷ l) eq2))) (omega arith))
  after_emit_kept p next here (mark m.Next q) i =
      λ o xs eq0. target_inv (λ c. expect m.Close (expect m.Semicolon (next (plain.emit true c p)))) xs (λ rest c t. λ r us eq. λ s vs eq2. i vs _ (stmt_at₂ eq0 (g.stmt_emit_next (target_cut t (eq ∙ ap (λ l. mark m.Close r ∷ l) eq2)))) (omega arith))
  after_emit_kept p next here _ i = tt

  first_arg_kept : (x : Word) (p : Place) (next : Written → State) (here : List Token) (t : Token) → Inv W (first_arg x p next) (t ∷ here) → InvO W (first_arg_on x p next t) here
  first_arg_kept x p next here (mark m.Close q) i = λ s us eq. i here us [] s g.args_none eq
  first_arg_kept x p next here (name y q) i = (name y q ∷ here, g.names_first, i)
  first_arg_kept x p next here _ i = tt

  after_arg_kept : (x : Word) (p : Place) (ys : List Arg) (next : Written → State) (here : List Token) (t : Token) → Inv W (after_arg x p ys next) (t ∷ here) → InvO W (after_arg_on x p ys next t) here
  after_arg_kept x p ys next here (mark m.Close q) i = λ s us eq. i.2 here us ys s (g.args_some i.1) eq
  after_arg_kept x p ys next here (mark m.Comma q) i = λ y r us eq. (i.0, g.names_also (subst (λ l. IsNames i.0 (mark m.Comma q ∷ l) ys) eq i.1), i.2)
  after_arg_kept x p ys next here _ i = tt

  after_if_kept : (d : ℕ) (c : Tree Word) (a : Written) (next : Written → State) (here : List Token) (t : Token) (outer : Option State)
      → Inv W (after_if d c a next) (t ∷ here) → (begins_else (t ∷ here) ≡ false → InvO W outer here) → InvO W (after_if_on d c a next t outer) here
  after_if_kept d c a next here (mark m.Else p) outer i o = (omega (arith, i.0), λ rest b s l. i.3 p here rest b refl s (omega (arith, l, i.0)))
  after_if_kept d c a next here _ outer i o = o refl

  ready_stmt : (d : ℕ) (ds : List Decl) (bs : List Branch) (ws : List Written) (next : Written → State) (here : List Token)
      → 0 < d → Inv W (ready d ds bs ws next) here → Inv W (stmt d (λ w. ready d ds bs (ws ++ w ∷ []) next)) here
  ready_stmt d ds bs ws next here lt i =
      (omega (arith, lt), λ rest w s l. (i.0, (i.1.0, i.1.1, g.seq_also i.1.2 s), i.2, greatest_more d ws w i.3 l, i.4))

  ready_kept : (d : ℕ) (ds : List Decl) (bs : List Branch) (ws : List Written) (next : Written → State) (here : List Token) (t : Token)
      → Inv W (ready d ds bs ws next) (t ∷ here) → InvO W (ready_on d ds bs ws next t) here
  ready_kept d ds bs ws next here (mark m.Bars p) i =
      (i.0, (here, front_of bs (branch ws) i.0 here p (joined bs i.0 i.1.0 (mark m.Bars p ∷ here) ws i.1.1 i.1.2), g.seq_none), greatest_of_more d bs (branch ws) i.2 i.3, omega arith, i.4)
  ready_kept d ds bs ws next here (mark m.CloseBrace p) i =
      i.4 here (bs ++ branch ws ∷ []) p (joined bs i.0 i.1.0 (mark m.CloseBrace p ∷ here) ws i.1.1 i.1.2) (greatest_of_more d bs (branch ws) i.2 i.3)
  ready_kept d ds bs ws next here t i = if_kept (nat_lt 0 d) _ here (λ h. stmt_kept d (λ w. ready d ds bs (ws ++ w ∷ []) next) here t (ready_stmt d ds bs ws next (t ∷ here) (lt_test 0 d h) i))

  open_decls_kept : (d : ℕ) (ds : List Decl) (ty : Typing) (next : Written → State) (here : List Token) (t : Token) → Inv W (open_decls d ds ty next) (t ∷ here) → InvO W (open_decls_on d ds ty next t) here
  open_decls_kept d ds ty next here (mark m.Comma p) i =
      λ x q us eq. λ rest c h. (i.0, g.open_also i.1 (subst (λ l. IsLocal ty l rest (declared_as ty Inner x q c)) (sym eq) (g.local_one h)), i.2)
  open_decls_kept d ds ty next here (mark m.Semicolon p) i = (i.0, g.decls_closed i.1, i.2)
  open_decls_kept d ds ty next here _ i = tt

  pub header_inv : (next : ModuleTree → State) (here : List Token) (p : Place) → ((rest : List Token) (n : ModuleTree) → IsModule (mark m.Module p ∷ here) rest n → Inv W (next n) rest) → Inv W (header next) here
  header_inv next here p f =
      λ x q us eq. λ r vs eq2. λ rest ds pl. λ o ws eq3. (
        ws,
        g.decls_none,
        λ rest2 bs mid es isd q2 b l. f rest2 _
            (subst (λ l. IsModule (mark m.Module p ∷ l) rest2 (record { name = x; params = ds; body = plain.block es (branches_of bs) })) (sym (eq ∙ ap (λ l. name x q ∷ l) eq2))
            (g.module_one (subst (λ l. IsParamList vs l ds) eq3 pl) (g.block_one isd b) (omega (arith, l)))),
      )

  several_kept : (ns : List ModuleTree) (here : List Token) (t : Token) → Inv W (several ns) (t ∷ here) → InvO W (several_on ns t) here
  several_kept ns here (mark m.Module p) i = header_inv (λ n. several (ns ++ n ∷ [])) here p (λ rest n s. several_more W ns n (mark m.Module p ∷ here) rest i s)
  several_kept ns here _ i = tt

  expect_kept : (k : Mark) (next : State) (here : List Token) (t : Token) → Inv W (expect k next) (t ∷ here) → InvO W (expect_on k next t) here
  expect_kept k next here (mark j p) i = only_kept (rank j == rank k) next here (λ h. i p here (ap (λ k. mark k p ∷ here) (same_rank j k h)))
  expect_kept k next here _ i = tt

  name_kept : (next : Word → Place → State) (here : List Token) (t : Token) → Inv W (a_name next) (t ∷ here) → InvO W (name_on next t) here
  name_kept next here (name x p) i = i x p here refl
  name_kept next here _ i = tt

  number_kept : (next : ℕ → Place → State) (here : List Token) (t : Token) → Inv W (a_number next) (t ∷ here) → InvO W (number_on next t) here
  number_kept next here (number n p) i = i n p here refl
  number_kept next here _ i = tt

  pub kept : (s : State) (t : Token) (here : List Token) → Inv W s (t ∷ here) → InvO W (step s t) here
  kept (expect k next) t here i = expect_kept k next here t i
  kept (a_name next) t here i = name_kept next here t i
  kept (a_number next) t here i = number_kept next here t i
  kept (want n d next) t here i = want_kept n d next here t i
  kept (after_name n d x p next) t here i =
      after_name_kept n d x p next here t _ i (kept (next (tree.named x p)) t here (i.2 (t ∷ here) _ (g.expr_looser g.expr_named (omega (arith, i.1))) i.0))
  kept (tail n d e next) t here i = tail_kept n d e next here t _ i (kept (next e) t here (i.5 (t ∷ here) e (g.expr_looser i.1 i.4) i.2))
  kept (after_high n d e h p next) t here i = after_high_kept n d e h p next here t i
  kept (a_base next) t here i = base_kept next here t None i tt
  kept (stored s next) t here i = type_kept s next here t _ i.1 (kept (next (typing s base.Bool None)) t here i.0)
  kept (a_const next) t here i = const_kept next here t i
  kept (init next) t here i = init_kept next here t _ i (kept (next None) t here (i (t ∷ here) None g.init_without))
  kept (flow ty next) t here i = flow_kept ty next here t None i tt
  kept (first_param next) t here i = first_param_kept next here t i
  kept (after_param ds d next) t here i = after_param_kept ds d next here t i
  kept (next_param ds d next) t here i =
      flow_kept d (param_more ds next) here t _ (λ rest e f. (i.0, (e, g.params_same i.1.2 (subst (λ y. IsFlow y (t ∷ here) rest e) (sym i.1.3) f), refl), i.2))
      (head_kept (λ ty. flow ty (param_more ds next)) here t None (λ rest ty h. λ rest2 e f. (i.0, (e, g.params_typed i.1.2 h f, refl), i.2)) tt)
  kept (subscript x p next) t here i = subscript_kept x p next here t _ i (kept (next (record { name = x; index = None; place = p })) t here (i (t ∷ here) _ g.target_scalar))
  kept (decls d ds next) t here i =
      head_kept (λ ty. local d ds ty next) here t _
      (λ rest ty h. λ x q us eq. λ rest2 c k. (i.0, g.open_head i.1 h (subst (λ l. IsLocal ty l rest2 (declared_as ty Inner x q c)) (sym eq) (g.local_one k)), i.2))
      (ready_kept d ds [] [] next here t (t ∷ here, (t ∷ here, refl, g.seq_none), omega arith, omega arith, λ rest cs p b l. i.2 rest cs (t ∷ here) ds i.1 p b l))
  kept (open_decls d ds ty next) t here i = open_decls_kept d ds ty next here t i
  kept (ready d ds bs ws next) t here i = ready_kept d ds bs ws next here t i
  kept (stmt d next) t here i = stmt_kept d next here t i
  kept (after_word x p next) t here i = after_word_kept x p next here t i
  kept (labelled next) t here i = labelled_kept next here t i
  kept (after_immediate d p next) t here i = after_immediate_kept d p next here t i
  kept (after_weak d next) t here i = after_weak_kept d next here t i
  kept (after_mode d weak immediate next) t here i = after_mode_kept d weak immediate next here t i
  kept (after_emit p next) t here i = after_emit_kept p next here t i
  kept (first_arg x p next) t here i = first_arg_kept x p next here t i
  kept (after_arg x p ys next) t here i = after_arg_kept x p ys next here t i
  kept (after_if d c a next) t here i = after_if_kept d c a next here t _ i (λ h. kept (next (plain.choose_one c a)) t here (i.2 h))
  kept (alone n) t here i = tt
  kept (several ns) t here i = several_kept ns here t i
