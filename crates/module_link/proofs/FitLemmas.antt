-- The rules of calls make calls fit: what S13 asks of the arguments is what the theorem asks, over the variables that
-- their names stand for.
use Rattle.std.proofs.Common.{◌≡◌, ◌<◌, ℕ, ◌+◌, Bool, true, false, ◌||◌, ◌&&◌, not, List, [], ◌∷◌, ◌++◌, length, Option, Some, None, refl, sym, ap, ap₂, ◌∙◌, subst, arith}
use Rattle.std.proofs.lemmas.Bool.Decides.{nat_tests}
use Rattle.std.specs.List.{AllByRecursion}
use Rattle.std.specs.Prelude.{◌==◌, slice_get}
use Rattle.quartz_tree.specs.declared.declare.Base.{Base}
use Rattle.quartz_tree.specs.declared.declare.Base.TheVariants as base
use Rattle.quartz_tree.specs.declared.declare.Decl.{Decl}
use Rattle.quartz_tree.specs.declared.declare.Ty.{Ty}
use Rattle.quartz_tree.specs.declared.place.Place.{Place}
use Rattle.quartz_tree.specs.declared.surface.Arg.{Arg}
use Rattle.quartz_tree.specs.Expand.{expanded, expanded_branch, expanded_branches}
use Rattle.quartz_tree.specs.Surfaces.{Word, Written, empty, pause, halt, await, emit, write, block, choose, choose_one, loop, always, while, do_while, guard, call, Branch, done, then, Branches, none, beside, ModuleTree}
use Rattle.quartz_expr.specs.Kinds.{place_if}
use Rattle.quartz_expr.specs.Vars.{Vars}
use Rattle.quartz_expr.proofs.TruthLemmas.{and_left, and_right, none_left}
use Rattle.quartz_names.specs.NameRules.{repeated}
use Rattle.quartz_names.specs.Numbering.{locals, locals_of_branch, locals_of_branches}
use Rattle.quartz_names.specs.Scopes.{Scope, declared}
use Rattle.linked_trees.specs.Fit.{AllPlain, ArgsSuit, Calls, CallsInBranch, CallsInBranches, IsArg}
use Rattle.linked_trees.specs.Naming.{module_named}
use Rattle.linked_trees.proofs.NameLemmas.{Has, has_parts}
use Rattle.call_rules.specs.Around.{Declared, declaring}
use Rattle.call_rules.specs.CallRules.{as_many, is_repeated, may_pass, misfits, same_base, same_length, suits, unfit, unfit_at}
use Rattle.call_rules.specs.Sites.{Site, sites, sites_of_branch, sites_of_branches}
use Rattle.module_link.proofs.KnownLemmas.{Differ, KnownAs, Knows, known_behind}
use Rattle.module_link.proofs.RepeatLemmas.{Lists, ListsOfBranch, ListsOfBranches}
use Rattle.module_link.proofs.SiteLemmas.{every_parts}

-- ---- arguments

same_number : (m n : ℕ) → (m == n) ≡ true → m ≡ n
same_number m n e = grind (arith, nat_tests, e)

base_same : (a b : Base) → same_base a b ≡ true → a ≡ b
base_same base.Bool base.Bool e = refl
base_same (base.Nat m) (base.Nat n) e = ap base.Nat (same_number m n e)
base_same (base.Int m) (base.Int n) e = ap base.Int (same_number m n e)
base_same (base.Bv m) (base.Bv n) e = ap base.Bv (same_number m n e)
base_same _ _ e = absurd (cc)

length_same : (a b : Option ℕ) → same_length a b ≡ true → a ≡ b
length_same None None e = refl
length_same (Some m) (Some n) e = ap Some (same_number m n e)
length_same None (Some n) e = absurd (cc)
length_same (Some m) None e = absurd (cc)

not_placed : (b : Bool) (p : Place) → place_if (not b) p ≡ [] → b ≡ true
not_placed true p e = refl
not_placed false p e = absurd (cc)

arg_suits : (vs : Vars) (sc : Scope) (around : Declared) (p : Decl) (a : Arg) → Knows vs sc around → suits p (around a.name) ≡ true → IsArg vs sc p a
arg_suits vs sc around p a k e = at (around a.name) refl e
  where
    at : (o : Option Decl) → around a.name ≡ o → suits p o ≡ true → IsArg vs sc p a
    at None g h = absurd (cc)
    at (Some d) g h =
        let n : KnownAs vs (sc a.name) d = k a.name d g in
        let b : p.ty.base ≡ d.ty.base = base_same p.ty.base d.ty.base (and_left (same_base p.ty.base d.ty.base) _ h) in
        let l : p.ty.len ≡ d.ty.len = length_same p.ty.len d.ty.len (and_left (same_length p.ty.len d.ty.len) _ (and_right (same_base p.ty.base d.ty.base) _ h)) in
        let t : p.ty ≡ d.ty = ap₂ (λ (b : Base) (l : Option ℕ). record { base = b; len = l }) b l in
        record { number = n.number; var = n.var; stands = n.stands; at = n.at; ty = ap (λ (d : Decl). d.ty) n.decl ∙ sym t }

args_suit : (vs : Vars) (sc : Scope) (around : Declared) (ps : List Decl) (args : List Arg) → Knows vs sc around → as_many ps args ≡ true → misfits around ps args ≡ [] → ArgsSuit vs sc ps args
args_suit vs sc around [] [] k m e = tt
args_suit vs sc around [] (a ∷ args) k m e = absurd (cc)
args_suit vs sc around (p ∷ ps) [] k m e = absurd (cc)
args_suit vs sc around (p ∷ ps) (a ∷ args) k m e =
    let h = none_left (place_if (not (suits p (around a.name))) a.place) _ e in
    (arg_suits vs sc around p a k (not_placed (suits p (around a.name)) a.place h.0), args_suit vs sc around ps args k m h.1)

-- ---- calls

-- what the rules say of a call
pub record IsKept (ms : List ModuleTree) (counts : Word → Type 0) (height : Word → ℕ) (top : ℕ) (s : Site) : Type 0 where
  pub called : ModuleTree
  pub found : module_named ms s.name ≡ Some called
  pub counted : counts s.name
  pub lower : height s.name < top
  pub many : as_many called.params s.args ≡ true
  pub apart : repeated called.params ≡ []
  pub suited : misfits s.around called.params s.args ≡ []

plain_parts : (is_plain : Word → Bool) (ds es : List Decl) → AllPlain is_plain (ds ++ es) → AllPlain is_plain ds × AllPlain is_plain es
plain_parts is_plain [] es h = (tt, h)
plain_parts is_plain (d ∷ ds) es h = let g = plain_parts is_plain ds es h.1 in ((h.0, g.0), g.1)

module _ (is_plain : Word → Bool) (ms : List ModuleTree) (counts : Word → Type 0) (height : Word → ℕ) (top : ℕ) (vs : Vars) where
  abbrev Kept : List Site → Type 0
  Kept ss = AllByRecursion (IsKept ms counts height top) ss

  kept_parts : (xs ys : List Site) → Kept (xs ++ ys) → Kept xs × Kept ys
  kept_parts xs ys h = every_parts (IsKept ms counts height top) xs ys h

  mutual
    pub calls_fit : (w : Written) (sc : Scope) (around : Declared) (n : ℕ) → Knows vs sc around → Has vs n (locals (expanded w)) → AllPlain is_plain (locals (expanded w)) → Lists w → Kept (sites around w) → Calls is_plain ms counts height top vs sc n w
    calls_fit empty sc around n k h p l r = tt
    calls_fit pause sc around n k h p l r = tt
    calls_fit (halt z) sc around n k h p l r = tt
    calls_fit (await i d z) sc around n k h p l r = tt
    calls_fit (emit d g z) sc around n k h p l r = tt
    calls_fit (write d g v z) sc around n k h p l r = tt
    calls_fit (block ds bs) sc around n k h p l r =
        let i = has_parts vs n ds _ h in
        let j = plain_parts is_plain ds _ p in
        (j.0, branches_fit bs (declared sc n ds) (declaring around ds) (n + length ds) (known_behind vs sc around n ds k i.0 l.0) i.1 j.1 l.1 r)
    calls_fit (choose d a b) sc around n k h p l r =
        let i = has_parts vs n (locals (expanded a)) _ h in
        let j = plain_parts is_plain (locals (expanded a)) _ p in
        let q = kept_parts (sites around a) (sites around b) r in
        (calls_fit a sc around n k i.0 j.0 l.0 q.0, calls_fit b sc around (n + length (locals (expanded a))) k i.1 j.1 l.1 q.1)
    calls_fit (choose_one d a) sc around n k h p l r = calls_fit a sc around n k h p l r
    calls_fit (loop a z) sc around n k h p l r = calls_fit a sc around n k h p l r
    calls_fit (always a z) sc around n k h p l r =
        let i = has_parts vs n (locals (expanded a) ++ []) _ h in
        let j = plain_parts is_plain (locals (expanded a) ++ []) _ p in
        calls_fit a sc around n k (has_parts vs n (locals (expanded a)) _ i.0).0 (plain_parts is_plain (locals (expanded a)) _ j.0).0 l r
    calls_fit (while d a z) sc around n k h p l r = calls_fit a sc around n k h p l r
    calls_fit (do_while a d z) sc around n k h p l r = calls_fit a sc around n k h p l r
    calls_fit (guard b w i a d) sc around n k h p l r = calls_fit a sc around n k h p l r
    calls_fit (call m args z) sc around n k h p l r =
        let g = r.0 in
        record { called = g.called; found = g.found; counted = g.counted; lower = g.lower; suits = args_suit vs sc around g.called.params args k g.many g.suited }

    branch_fits : (b : Branch) (sc : Scope) (around : Declared) (n : ℕ) → Knows vs sc around → Has vs n (locals_of_branch (expanded_branch b)) → AllPlain is_plain (locals_of_branch (expanded_branch b)) → ListsOfBranch b → Kept (sites_of_branch around b)
        → CallsInBranch is_plain ms counts height top vs sc n b
    branch_fits done sc around n k h p l r = tt
    branch_fits (then a rest) sc around n k h p l r =
        let i = has_parts vs n (locals (expanded a)) _ h in
        let j = plain_parts is_plain (locals (expanded a)) _ p in
        let q = kept_parts (sites around a) (sites_of_branch around rest) r in
        (calls_fit a sc around n k i.0 j.0 l.0 q.0, branch_fits rest sc around (n + length (locals (expanded a))) k i.1 j.1 l.1 q.1)

    branches_fit : (bs : Branches) (sc : Scope) (around : Declared) (n : ℕ) → Knows vs sc around → Has vs n (locals_of_branches (expanded_branches bs)) → AllPlain is_plain (locals_of_branches (expanded_branches bs)) → ListsOfBranches bs → Kept (sites_of_branches around bs)
        → CallsInBranches is_plain ms counts height top vs sc n bs
    branches_fit none sc around n k h p l r = tt
    branches_fit (beside b rest) sc around n k h p l r =
        let i = has_parts vs n (locals_of_branch (expanded_branch b)) _ h in
        let j = plain_parts is_plain (locals_of_branch (expanded_branch b)) _ p in
        let q = kept_parts (sites_of_branch around b) (sites_of_branches around rest) r in
        (branch_fits b sc around n k i.0 j.0 l.0 q.0, branches_fit rest sc around (n + length (locals_of_branch (expanded_branch b))) k i.1 j.1 l.1 q.1)
