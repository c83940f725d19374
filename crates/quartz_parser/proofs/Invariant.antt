-- What a reader's state has read so far, and that a token keeps it.
use Rattle.std.proofs.Common.{◌≡◌, ◌≤◌, ◌<◌, ℕ, false, List, [], ◌∷◌, Option, Some, None}
use Rattle.quartz_tree.specs.declared.place.Place.{Place}
use Rattle.quartz_tree.specs.declared.declare.Base.{Base}
use Rattle.quartz_tree.specs.declared.declare.Base.TheVariants as base
use Rattle.quartz_tree.specs.declared.declare.Init.{Init}
use Rattle.quartz_tree.specs.declared.declare.Decl.{Decl}
use Rattle.quartz_tree.specs.declared.surface.Arg.{Arg}
use Rattle.quartz_tree.specs.Tree.{Tree}
use Rattle.quartz_tree.specs.Surfaces as plain
use Rattle.quartz_tree.specs.Surfaces.{Word, Goal, Written, Branch, Branches, ModuleTree, branch, branches_of}
use Rattle.quartz_parser.specs.declared.declaring.Typing.{Typing}
use Rattle.quartz_parser.specs.declared.symbol.Mark.TheVariants as m
use Rattle.quartz_parser.specs.Tokens.{Token, mark, name, number}
use Rattle.quartz_parser.specs.Grammar.{level, height, greatest, greatest_of, typing, taken, begins_else, IsExpr, IsBase, IsType, IsConst, IsInit, IsFlow, IsParams, IsParamList, IsDecls, IsOpenDecls, IsTarget, IsMode, IsNames, IsArgs, IsStmt, IsSeq, IsBranches, IsModule, IsText}
use Rattle.quartz_parser.specs.Machine.{State, expect, a_name, a_number, want, after_name, tail, after_high, a_base, stored, a_const, init, flow, first_param, after_param, next_param, subscript, decls, open_decls, ready, stmt, after_word, labelled, after_immediate, after_weak, after_mode, after_emit, first_arg, after_arg, after_if, alone, several, tightest}

-- the branches before the one that is being read
abbrev pub Front : List Branch → List Token → List Token → Type 0
Front [] mid here = mid ≡ here
Front (b ∷ bs) mid here = (p : Place) × IsBranches mid (mark m.Bars p ∷ here) (b ∷ bs)

-- the modules before the one that is being read
abbrev pub Read : List ModuleTree → List Token → List Token → Type 0
Read [] all here = all ≡ here
Read (n ∷ ns) all here = IsText all here (n ∷ ns)

-- all the tokens, and whether they are to be one module or a text
pub data Aim : Type 0 where
  one : List Token → Aim
  many : List Token → Aim

abbrev pub Alone : Aim → ModuleTree → List Token → Type 0
Alone (one all) n here = IsModule all here n
Alone (many all) n here = ⊥

abbrev pub Several : Aim → List ModuleTree → List Token → Type 0
Several (one all) ns here = ⊥
Several (many all) ns here = Read ns all here

-- of all the tokens those before `here` are what the state says
abbrev pub Inv : Aim → State → List Token → Type 0
Inv W (expect k next) here = (p : Place) (rest : List Token) → here ≡ mark k p ∷ rest → Inv W next rest
Inv W (a_name next) here = (x : Word) (p : Place) (rest : List Token) → here ≡ name x p ∷ rest → Inv W (next x p) rest
Inv W (a_number next) here = (k : ℕ) (p : Place) (rest : List Token) → here ≡ number k p ∷ rest → Inv W (next k p) rest
Inv W (want n d next) here = (1 ≤ d) × (n ≤ 11) × ((rest : List Token) (e : Tree Word) → IsExpr n here rest e → level e ≤ d → Inv W (next e) rest)
Inv W (after_name n d x p next) here = (1 ≤ d) × (n ≤ 11) × ((rest : List Token) (e : Tree Word) → IsExpr n (name x p ∷ here) rest e → level e ≤ d → Inv W (next e) rest)
Inv W (tail n d e next) here =
    (from : List Token) × IsExpr (tightest e) from here e × (level e ≤ d) × (n ≤ 11) × (n ≤ tightest e)
    × ((rest : List Token) (f : Tree Word) → IsExpr n from rest f → level f ≤ d → Inv W (next f) rest)
Inv W (after_high n d e h p next) here =
    (from : List Token) × ((q : Place) × IsExpr 12 from (mark m.OpenBrace p ∷ number h q ∷ here) e) × (level e < d) × (n ≤ 11)
    × ((rest : List Token) (f : Tree Word) → IsExpr n from rest f → level f ≤ d → Inv W (next f) rest)
Inv W (a_base next) here = (rest : List Token) (b : Base) (p : Option Place) → IsBase here rest b p → Inv W (next b p) rest
Inv W (stored s next) here = Inv W (next (typing s base.Bool None)) here × ((rest : List Token) (t : Typing) → IsType s here rest t → Inv W (next t) rest)
Inv W (a_const next) here = (rest : List Token) (i : Init) → IsConst here rest i → Inv W (next i) rest
Inv W (init next) here = (rest : List Token) (i : Option Init) → IsInit here rest i → Inv W (next i) rest
Inv W (flow t next) here = (rest : List Token) (d : Decl) → IsFlow t here rest d → Inv W (next d) rest
Inv W (first_param next) here = (rest : List Token) (ds : List Decl) → IsParamList here rest ds → Inv W (next ds) rest
Inv W (after_param ds last next) here = (from : List Token) × ((d : Decl) × IsParams from here ds d × (taken d ≡ last)) × ((rest : List Token) (es : List Decl) → IsParamList from rest es → Inv W (next es) rest)
Inv W (next_param ds last next) here =
    (from : List Token) × ((d : Decl) × (p : Place) × IsParams from (mark m.Comma p ∷ here) ds d × (taken d ≡ last)) × ((rest : List Token) (es : List Decl) → IsParamList from rest es → Inv W (next es) rest)
Inv W (subscript x p next) here = (rest : List Token) (g : Goal) → IsTarget (name x p ∷ here) rest g → Inv W (next g) rest
Inv W (decls d ds next) here =
    (from : List Token) × IsDecls from here ds × ((rest : List Token) (bs : List Branch) → (mid : List Token) → (es : List Decl) → IsDecls from mid es → (p : Place) → IsBranches mid (mark m.CloseBrace p ∷ rest) bs → greatest_of (branches_of bs) ≤ d → Inv W (next (plain.block es (branches_of bs))) rest)
Inv W (open_decls d ds t next) here =
    (from : List Token) × IsOpenDecls from here ds t × ((rest : List Token) (bs : List Branch) → (mid : List Token) → (es : List Decl) → IsDecls from mid es → (p : Place) → IsBranches mid (mark m.CloseBrace p ∷ rest) bs → greatest_of (branches_of bs) ≤ d → Inv W (next (plain.block es (branches_of bs))) rest)
Inv W (ready d ds bs ws next) here =
    (mid : List Token) × ((cur : List Token) × Front bs mid cur × IsSeq cur here ws) × (greatest_of (branches_of bs) ≤ d) × (greatest (branch ws) ≤ d)
    × ((rest : List Token) (cs : List Branch) → (p : Place) → IsBranches mid (mark m.CloseBrace p ∷ rest) cs → greatest_of (branches_of cs) ≤ d → Inv W (next (plain.block ds (branches_of cs))) rest)
Inv W (stmt d next) here = (1 ≤ d) × ((rest : List Token) (w : Written) → IsStmt here rest w → height w ≤ d → Inv W (next w) rest)
Inv W (after_word x p next) here = (rest : List Token) (w : Written) → IsStmt (name x p ∷ here) rest w → height w ≤ 1 → Inv W (next w) rest
Inv W (labelled next) here =
    (x : Word) × (p q : Place) × ((rest : List Token) (w : Written) → IsStmt (name x p ∷ mark m.Colon q ∷ here) rest w → height w ≤ 1 → Inv W (next w) rest)
Inv W (after_immediate d p next) here = (1 ≤ d) × ((rest : List Token) (w : Written) → IsStmt (mark m.Immediate p ∷ here) rest w → height w ≤ d → Inv W (next w) rest)
Inv W (after_weak d next) here = (1 < d) × ((p : Place) × ((rest : List Token) (w : Written) → IsStmt (mark m.Weak p ∷ here) rest w → height w ≤ d → Inv W (next w) rest))
Inv W (after_mode d weak immediate next) here =
    (1 < d) × ((from : List Token) × IsMode from here weak immediate × ((rest : List Token) (w : Written) → IsStmt from rest w → height w ≤ d → Inv W (next w) rest))
Inv W (after_emit p next) here = (rest : List Token) (w : Written) → IsStmt (mark m.Emit p ∷ here) rest w → height w ≤ 1 → Inv W (next w) rest
Inv W (first_arg x p next) here = (rest us : List Token) (ys : List Arg) (q : Place) → IsArgs here rest ys → rest ≡ mark m.Semicolon q ∷ us → Inv W (next (plain.call x ys p)) us
Inv W (after_arg x p ys next) here =
    (from : List Token) × IsNames from here ys × ((rest us : List Token) (zs : List Arg) (q : Place) → IsArgs from rest zs → rest ≡ mark m.Semicolon q ∷ us → Inv W (next (plain.call x zs p)) us)
Inv W (after_if d c a next) here =
    (1 < d) × (height a < d) × (begins_else here ≡ false → Inv W (next (plain.choose_one c a)) here)
    × ((p : Place) (us rest : List Token) (b : Written) → here ≡ mark m.Else p ∷ us → IsStmt us rest b → height b < d → Inv W (next (plain.choose c a b)) rest)
Inv W (alone n) here = Alone W n here
Inv W (several ns) here = Several W ns here

abbrev pub InvO : Aim → Option State → List Token → Type 0
InvO W None here = Unit {0}
InvO W (Some s) here = Inv W s here
