-- What a walk does, form by form.
use Rattle.std.proofs.Common.{◌≡◌, ℕ, ◌+◌, ◌-◌, Bool, Vec, Global, List, [], ◌∷◌, ◌++◌, map, drop, get_or, ◌<◌, ◌≤◌, ◌||◌, length, Option, None, option_map, refl, sym, ap, ap₂, ◌∙◌, append_assoc, arith, length-append}
use Rattle.std.proofs.lemmas.List.{append-nil, drop_more}
use Rattle.std.specs.Str.{bytes_eq}
use Rattle.quartz_tree.specs.declared.declare.Decl.{Decl}
use Rattle.quartz_tree.specs.declared.place.Place.{Place}
use Rattle.quartz_tree.specs.declared.stmt.Stmt.{Stmt}
use Rattle.quartz_tree.specs.declared.stmt.Stmt.TheVariants.{Nothing, Seq}
use Rattle.quartz_tree.specs.declared.surface.Surface.{Surface}
use Rattle.quartz_tree.specs.Kernel as kernel
use Rattle.quartz_tree.specs.Kernel.{Kernel, kernels, kernel as kernel_of}
use Rattle.quartz_tree.specs.Least.{least_place, lesser_place}
use Rattle.quartz_tree.specs.Surfaces.{Word, Goal, Written, written, pause, write, block, choose, choose_one, do_while, guard, Branch, done, then, Branches, none, beside, branch, branches_of, ModuleTree}
use Rattle.quartz_tree.specs.Expand.{expanded}
use Rattle.quartz_tree.specs.Tree.{Tree}
use Rattle.quartz_expr.specs.Kinds.{place_if}
use Rattle.quartz_names.specs.declared.walk.Hidden.{Hidden}
use Rattle.quartz_names.specs.declared.walk.Walk.{Walk}
use Rattle.quartz_names.specs.Scopes.{Scope, no_names, declared, number_in}
use Rattle.quartz_names.specs.Numbering.{renamed, locals, locals_of_branch, locals_of_branches, numbered, numbered_branch, numbered_branches, around, joined}
use Rattle.quartz_names.specs.NameRules.{repeated, repeated_after, undeclared, undeclared_at, undeclared_in_goal, undeclared_in_index, name_breaks, name_breaks_in_branch, name_breaks_in_branches}
use Rattle.quartz_names.specs.Resolving.{body_scope, declarations, module_name_breaks, resolved_body}
use Rattle.quartz_names.specs.Walks.{Notes, Walks, WalksBranch, WalksBranches, scope_in, scope_of, count_in, restored, hidden_by}
use Rattle.quartz_names.proofs.LeastLemmas.{lesser_none, lesser_twice}
use Rattle.quartz_names.proofs.KernelLemmas.{kernel_nothing, kernel_seq}
use Rattle.quartz_names.proofs.ScopeLemmas.{restored_declared}

-- a walk from a state whose scope and count are known
record From (sc : Scope) (n : ℕ) (before after : Walk) (w : Written) (k : Kernel) : Type 0 where
  pub body : k ≡ numbered sc n w
  pub names : scope_in after ≡ sc
  pub count : count_in after ≡ n + length (locals w)
  pub broken : after.broken ≡ lesser_place before.broken (least_place (name_breaks sc n w))

from : (sc : Scope) (n : ℕ) (a b : Walk) (w : Written) (k : Kernel) → scope_in a ≡ sc → count_in a ≡ n → Walks a b w k → From sc n a b w k
from sc n a b w k e f h = record {
  body = h.body ∙ ap₂ (λ s m. numbered s m w) e f;
  names = h.names ∙ e;
  count = ap length h.decls ∙ length-append a.decls (locals w) ∙ ap (λ m. m + length (locals w)) f;
  broken = h.broken ∙ ap₂ (λ s m. lesser_place a.broken (least_place (name_breaks s m w))) e f;
}

-- a statement without locals and without names
pub walks_still : (a : Walk) (w : Written) (k : Kernel) → k ≡ numbered (scope_in a) (count_in a) w → locals w ≡ [] → name_breaks (scope_in a) (count_in a) w ≡ [] → Walks a a w k
walks_still a w k body bare clean = record {
  body = body;
  names = refl;
  decls = sym (append-nil a.decls) ∙ ap (λ ds. a.decls ++ ds) (sym bare);
  broken = sym (lesser_none a.broken) ∙ ap (λ ps. lesser_place a.broken (least_place ps)) (sym clean);
}

pub walks_choose : (a b c d : Walk) (t : Tree Word) (r : Tree ℕ) (w v : Written) (k j : Kernel) → r ≡ renamed (scope_in a) t → Notes a b (undeclared (scope_in a) t) → Walks b c w k → Walks c d v j
    → Walks a d (choose t w v) (kernel.choose r k j)
walks_choose a b c d t r w v k j e u h g =
    let x : From (scope_in a) (count_in a) b c w k = from (scope_in a) (count_in a) b c w k u.names (ap length u.decls) h in
    let y : From (scope_in a) (count_in a + length (locals w)) c d v j = from (scope_in a) (count_in a + length (locals w)) c d v j x.names x.count g in
    record {
      body = cc (e, x.body, y.body);
      names = y.names;
      decls = g.decls ∙ ap (λ ds. ds ++ locals v) (h.decls ∙ ap (λ ds. ds ++ locals w) u.decls) ∙ append_assoc a.decls (locals w) (locals v);
      broken =
          let xs = name_breaks (scope_in a) (count_in a) w in
          let ys = name_breaks (scope_in a) (count_in a + length (locals w)) v in
          lesser_twice a.broken b.broken d.broken (undeclared (scope_in a) t) (xs ++ ys) u.broken (lesser_twice b.broken c.broken d.broken xs ys x.broken y.broken);
    }

pub walks_choose_one : (a b c : Walk) (t : Tree Word) (r : Tree ℕ) (w : Written) (k : Kernel) → r ≡ renamed (scope_in a) t → Notes a b (undeclared (scope_in a) t) → Walks b c w k
    → Walks a c (choose_one t w) (kernel.choose r k kernel.nothing)
walks_choose_one a b c t r w k e u h =
    let x : From (scope_in a) (count_in a) b c w k = from (scope_in a) (count_in a) b c w k u.names (ap length u.decls) h in
    record {
      body = cc (e, x.body);
      names = x.names;
      decls = h.decls ∙ ap (λ ds. ds ++ locals w) u.decls;
      broken = lesser_twice a.broken b.broken c.broken (undeclared (scope_in a) t) (name_breaks (scope_in a) (count_in a) w) u.broken x.broken;
    }

pub walks_do_while : (a b c : Walk) (t : Tree Word) (r : Tree ℕ) (w : Written) (k : Kernel) (p : Place) → Walks a b w k → r ≡ renamed (scope_in b) t → Notes b c (undeclared (scope_in b) t)
    → Walks a c (do_while w t p) (kernel.loop k r p)
walks_do_while a b c t r w k p h e u = record {
  body = cc (h.body, e, h.names);
  names = u.names ∙ h.names;
  decls = u.decls ∙ h.decls;
  broken = lesser_twice a.broken b.broken c.broken (name_breaks (scope_in a) (count_in a) w) (undeclared (scope_in a) t) h.broken (u.broken ∙ ap (λ s. lesser_place b.broken (least_place (undeclared s t))) h.names);
}

pub walks_guard : (a b c : Walk) (t : Tree Word) (r : Tree ℕ) (w : Written) (k : Kernel) (abort weak immediate : Bool) → Walks a b w k → r ≡ renamed (scope_in b) t → Notes b c (undeclared (scope_in b) t)
    → Walks a c (guard abort weak immediate w t) (kernel.guard abort weak immediate k r)
walks_guard a b c t r w k abort weak immediate h e u = record {
  body = cc (h.body, e, h.names);
  names = u.names ∙ h.names;
  decls = u.decls ∙ h.decls;
  broken = lesser_twice a.broken b.broken c.broken (name_breaks (scope_in a) (count_in a) w) (undeclared (scope_in a) t) h.broken (u.broken ∙ ap (λ s. lesser_place b.broken (least_place (undeclared s t))) h.names);
}

-- behind the declarations of a block stand its branches, and then the names are put back
pub walks_block : (a b c d : Walk) (ds : List Decl) (bs : Branches) (hs : List Hidden) (ks : List Kernel) (k : Kernel) (first end : ℕ) → hs ≡ hidden_by (scope_in a) (count_in a) ds
    → scope_in b ≡ declared (scope_in a) (count_in a) ds → b.decls ≡ a.decls ++ ds → b.broken ≡ lesser_place a.broken (least_place (repeated ds))
    → WalksBranches b c bs ks → scope_in d ≡ restored (scope_in c) hs → d.decls ≡ c.decls → d.broken ≡ c.broken
    → first ≡ count_in a → end ≡ count_in b → k ≡ around first (end - first) (joined (kernels ks)) → Walks a d (block ds bs) k
walks_block a b c d ds bs hs ks k first end hides names decls broken h back same still f e body =
    let counted : count_in b ≡ count_in a + length ds = ap length decls ∙ length-append a.decls ds in
    let size : end - first ≡ length ds = omega (arith, counted, f, e) in
    let inner : kernels ks ≡ numbered_branches (declared (scope_in a) (count_in a) ds) (count_in a + length ds) bs = h.body ∙ ap₂ (λ s m. numbered_branches s m bs) names counted in
    record {
      body = body ∙ cc (f, size, inner);
      names = back ∙ ap₂ restored (h.names ∙ names) hides ∙ restored_declared (scope_in a) (count_in a) ds;
      decls = same ∙ h.decls ∙ ap (λ es. es ++ locals_of_branches bs) decls ∙ append_assoc a.decls ds (locals_of_branches bs);
      broken = lesser_twice a.broken b.broken d.broken (repeated ds) (name_breaks_in_branches (declared (scope_in a) (count_in a) ds) (count_in a + length ds) bs) broken (still ∙ h.broken ∙ ap₂ (λ s m. lesser_place b.broken (least_place (name_breaks_in_branches s m bs))) names counted);
    }

pub branch_end : (a : Walk) → WalksBranch a a done []
branch_end a = record { body = refl; names = refl; decls = sym (append-nil a.decls); broken = sym (lesser_none a.broken) }

branch_more : (a b c : Walk) (w : Written) (k : Kernel) (rest : Branch) (ks : List Kernel) → Walks a b w k → WalksBranch b c rest ks → WalksBranch a c (then w rest) (k ∷ ks)
branch_more a b c w k rest ks h g =
    let counted : count_in b ≡ count_in a + length (locals w) = ap length h.decls ∙ length-append a.decls (locals w) in
    record {
      body = ap₂ kernel.part h.body (g.body ∙ ap₂ (λ s m. numbered_branch s m rest) h.names counted);
      names = g.names ∙ h.names;
      decls = g.decls ∙ ap (λ ds. ds ++ locals_of_branch rest) h.decls ∙ append_assoc a.decls (locals w) (locals_of_branch rest);
      broken = lesser_twice a.broken b.broken c.broken (name_breaks (scope_in a) (count_in a) w) (name_breaks_in_branch (scope_in a) (count_in a + length (locals w)) rest) h.broken (g.broken ∙ ap₂ (λ s m. lesser_place b.broken (least_place (name_breaks_in_branch s m rest))) h.names counted);
    }

pub branches_end : (a : Walk) → WalksBranches a a none []
branches_end a = record { body = refl; names = refl; decls = sym (append-nil a.decls); broken = sym (lesser_none a.broken) }

branches_more : (a b c : Walk) (s : Branch) (js : List Kernel) (rest : Branches) (ks : List Kernel) → WalksBranch a b s js → WalksBranches b c rest ks → WalksBranches a c (beside s rest) (kernel.seq (kernels js) ∷ ks)
branches_more a b c s js rest ks h g =
    let counted : count_in b ≡ count_in a + length (locals_of_branch s) = ap length h.decls ∙ length-append a.decls (locals_of_branch s) in
    record {
      body = ap₂ (λ x y. kernel.part (kernel.seq x) y) h.body (g.body ∙ ap₂ (λ s m. numbered_branches s m rest) h.names counted);
      names = g.names ∙ h.names;
      decls = g.decls ∙ ap (λ ds. ds ++ locals_of_branches rest) h.decls ∙ append_assoc a.decls (locals_of_branch s) (locals_of_branches rest);
      broken = lesser_twice a.broken b.broken c.broken (name_breaks_in_branch (scope_in a) (count_in a) s) (name_breaks_in_branches (scope_in a) (count_in a + length (locals_of_branch s)) rest) h.broken (g.broken ∙ ap₂ (λ s m. lesser_place b.broken (least_place (name_breaks_in_branches s m rest))) h.names counted);
    }

-- what is walked from here on completes what was walked from the start, which gave these parts
abbrev pub BranchGoesOn : (start here : Walk) (whole rest : List Surface) (parts : List Stmt) → Type 0
BranchGoesOn start here whole rest parts = (after : Walk) (ks : List Kernel) → WalksBranch here after (branch (map written rest)) ks → WalksBranch start after (branch (map written whole)) (map kernel_of parts ++ ks)

pub branch_step : (start a b : Walk) (whole rest more : List Surface) (x : Surface) (parts : List Stmt) (s : Stmt) → rest ≡ x ∷ more → Walks a b (written x) (kernel_of s) → BranchGoesOn start a whole rest parts
    → BranchGoesOn start b whole more (parts ++ s ∷ [])
branch_step start a b whole rest more x parts s e h inv after ks g =
    let onward : WalksBranch a after (branch (map written rest)) (kernel_of s ∷ ks) = rw e (branch_more a b after (written x) (kernel_of s) (branch (map written more)) ks h g) in
    rw (last_moved parts s ks) (inv after (kernel_of s ∷ ks) onward)
  where
    last_moved : (parts : List Stmt) (s : Stmt) (ks : List Kernel) → map kernel_of (parts ++ s ∷ []) ++ ks ≡ map kernel_of parts ++ (kernel_of s ∷ ks)
    last_moved [] s ks = refl
    last_moved (p ∷ ps) s ks = ap (λ ys. kernel_of p ∷ ys) (last_moved ps s ks)

abbrev Stmts : Type 0
Stmts = Vec Surface Global

abbrev plain : Stmts → Branch
plain b = branch (map written b.items)

abbrev pub BranchesGoOn : (start here : Walk) (whole rest : List Stmts) (parts : List Stmt) → Type 0
BranchesGoOn start here whole rest parts = (after : Walk) (ks : List Kernel) → WalksBranches here after (branches_of (map plain rest)) ks → WalksBranches start after (branches_of (map plain whole)) (map kernel_of parts ++ ks)

pub branches_step : (start a b : Walk) (whole rest more : List Stmts) (x : Stmts) (parts : List Stmt) (v : Vec Stmt Global) → rest ≡ x ∷ more → WalksBranch a b (plain x) (map kernel_of v.items) → BranchesGoOn start a whole rest parts
    → BranchesGoOn start b whole more (parts ++ Seq v ∷ [])
branches_step start a b whole rest more x parts v e h inv after ks g =
    let onward : WalksBranches a after (branches_of (map plain rest)) (kernel.seq (kernels (map kernel_of v.items)) ∷ ks) = rw e (branches_more a b after (plain x) (map kernel_of v.items) (branches_of (map plain more)) ks h g) in
    rw (last_seq parts v ks) (inv after (kernel.seq (kernels (map kernel_of v.items)) ∷ ks) onward)
  where
    last_seq : (parts : List Stmt) (v : Vec Stmt Global) (ks : List Kernel) → map kernel_of (parts ++ Seq v ∷ []) ++ ks ≡ map kernel_of parts ++ (kernel.seq (kernels (map kernel_of v.items)) ∷ ks)
    last_seq [] v ks = ap (λ k. k ∷ ks) (kernel_seq v)
    last_seq (p ∷ ps) v ks = ap (λ ys. kernel_of p ∷ ys) (last_seq ps v ks)

-- at the start there is nothing yet, and at the end nothing is left
pub branch_start : (start : Walk) (whole : List Surface) → BranchGoesOn start start whole whole []
branch_start start whole after ks g = g

pub branch_done : (start here : Walk) (whole rest : List Surface) (parts : List Stmt) → rest ≡ [] → BranchGoesOn start here whole rest parts → WalksBranch start here (branch (map written whole)) (map kernel_of parts)
branch_done start here whole rest parts e inv =
    let last : WalksBranch here here (branch (map written rest)) [] = rw e (branch_end here) in
    rw (append-nil (map kernel_of parts)) at (inv here [] last)

pub branches_start : (start : Walk) (whole : List Stmts) → BranchesGoOn start start whole whole []
branches_start start whole after ks g = g

pub branches_done : (start here : Walk) (whole rest : List Stmts) (parts : List Stmt) → rest ≡ [] → BranchesGoOn start here whole rest parts → WalksBranches start here (branches_of (map plain whole)) (map kernel_of parts)
branches_done start here whole rest parts e inv =
    let last : WalksBranches here here (branches_of (map plain rest)) [] = rw e (branches_end here) in
    rw (append-nil (map kernel_of parts)) at (inv here [] last)

-- the item at an index is the first of what is left
pub left_from : {X : Type 0} → (xs : List X) (i : ℕ) (x : X) → i < length xs → x ≡ get_or xs i x → drop i xs ≡ x ∷ drop (i + 1) xs
left_from xs i x h e = drop_more xs i x h ∙ ap (λ y. y ∷ drop (i + 1) xs) (sym e)

pub walks_as : (a b : Walk) (w v : Written) (k j : Kernel) → w ≡ v → k ≡ j → Walks a b v j → Walks a b w k
walks_as a b w v k j e f h = rw (e, f) h

pub walks_write : (a b c d : Walk) (g : Goal) (e : Tree Word) (delayed : Bool) (p : Place) (x : ℕ) (i : Option (Tree ℕ)) (v : Tree ℕ) (place : Option Place)
    → place ≡ least_place (undeclared_at (scope_in a) g.name g.place) → b.names ≡ a.names → b.decls ≡ a.decls → b.broken ≡ lesser_place a.broken place
    → x ≡ number_in (scope_in b) g.name → i ≡ option_map (renamed (scope_in b)) g.index → Notes b c (undeclared_in_index (scope_in b) g.index)
    → v ≡ renamed (scope_in c) e → Notes c d (undeclared (scope_in c) e) → Walks a d (write delayed g e p) (kernel.write x i v delayed p g.place)
walks_write a b c d g e delayed p x i v place here names decls broken xe ie index ve value =
    let sb : scope_in b ≡ scope_in a = ap scope_of names in
    let sc : scope_in c ≡ scope_in a = index.names ∙ sb in
    let x' : x ≡ number_in (scope_in a) g.name = xe ∙ ap (λ s. number_in s g.name) sb in
    let i' : i ≡ option_map (renamed (scope_in a)) g.index = ie ∙ ap (λ s. option_map (renamed s) g.index) sb in
    let v' : v ≡ renamed (scope_in a) e = ve ∙ ap (λ s. renamed s e) sc in
    let first : b.broken ≡ lesser_place a.broken (least_place (undeclared_at (scope_in a) g.name g.place)) = broken ∙ ap (lesser_place a.broken) here in
    let second : c.broken ≡ lesser_place b.broken (least_place (undeclared_in_index (scope_in a) g.index)) = index.broken ∙ ap (λ s. lesser_place b.broken (least_place (undeclared_in_index s g.index))) sb in
    let third : d.broken ≡ lesser_place c.broken (least_place (undeclared (scope_in a) e)) = value.broken ∙ ap (λ s. lesser_place c.broken (least_place (undeclared s e))) sc in
    record {
      body = cc (x', i', v');
      names = value.names ∙ sc;
      decls = value.decls ∙ index.decls ∙ decls ∙ sym (append-nil a.decls);
      broken = lesser_twice a.broken c.broken d.broken (undeclared_in_goal (scope_in a) g) (undeclared (scope_in a) e) (lesser_twice a.broken b.broken c.broken (undeclared_at (scope_in a) g.name g.place) (undeclared_in_index (scope_in a) g.index) first second) third;
    }

-- one declaration more of a list
pub repeated_step : (s : Word → Bool) (d : Decl) (rest : List Decl) (l new : Option Place) → new ≡ lesser_place l (least_place (place_if (s d.name) d.place))
    → lesser_place l (least_place (repeated_after s (d ∷ rest))) ≡ lesser_place new (least_place (repeated_after (λ y. bytes_eq d.name y || s y) rest))
repeated_step s d rest l new e = sym (lesser_twice l new _ (place_if (s d.name) d.place) (repeated_after (λ y. bytes_eq d.name y || s y) rest) e refl)

-- declarations don't lower the count
pub count_rises : (a b : Walk) (ds : List Decl) (first end : ℕ) → b.decls ≡ a.decls ++ ds → first ≡ count_in a → end ≡ count_in b → first ≤ end
count_rises a b ds first end e f g =
    let counted : count_in b ≡ count_in a + length ds = ap length e ∙ length-append a.decls ds in
    omega (arith, counted, f, g)

-- a form that an expanded statement doesn't have
pub walks_nothing : (a : Walk) (w v : Written) → w ≡ v → kernel.nothing ≡ numbered (scope_in a) (count_in a) v → locals v ≡ [] → name_breaks (scope_in a) (count_in a) v ≡ [] → Walks a a w (kernel_of Nothing)
walks_nothing a w v e body bare clean = walks_as a a w v (kernel_of Nothing) kernel.nothing e kernel_nothing (walks_still a v kernel.nothing body bare clean)

-- a whole module: its parameters, and then its body
pub record WalksModule (after : Walk) (m : ModuleTree) (k : Kernel) : Type 0 where
  pub body : k ≡ resolved_body m
  pub decls : after.decls ≡ declarations m
  pub broken : after.broken ≡ least_place (module_name_breaks m)

pub walks_module : (a b c : Walk) (m : ModuleTree) (w : Written) (k : Kernel) → scope_in a ≡ no_names → a.decls ≡ [] → a.broken ≡ None
    → scope_in b ≡ declared (scope_in a) (count_in a) m.params → b.decls ≡ a.decls ++ m.params → b.broken ≡ lesser_place a.broken (least_place (repeated m.params))
    → w ≡ expanded m.body → Walks b c w k → WalksModule c m k
walks_module a b c m w k names decls clean bs bd bb e h =
    let counted : count_in a ≡ 0 = ap length decls in
    let scope : scope_in b ≡ body_scope m = bs ∙ ap₂ (λ s n. declared s n m.params) names counted in
    let listed : b.decls ≡ m.params = bd ∙ ap (λ ds. ds ++ m.params) decls in
    let first : b.broken ≡ lesser_place None (least_place (repeated m.params)) = bb ∙ ap (λ p. lesser_place p (least_place (repeated m.params))) clean in
    let x : From (body_scope m) (length m.params) b c w k = from (body_scope m) (length m.params) b c w k scope (ap length listed) h in
    let second : c.broken ≡ lesser_place b.broken (least_place (name_breaks (body_scope m) (length m.params) (expanded m.body))) = x.broken ∙ ap (λ v. lesser_place b.broken (least_place (name_breaks (body_scope m) (length m.params) v))) e in
    record {
      body = x.body ∙ ap (numbered (body_scope m) (length m.params)) e;
      decls = h.decls ∙ ap₂ (λ ds v. ds ++ locals v) listed e;
      broken = lesser_twice None b.broken c.broken (repeated m.params) (name_breaks (body_scope m) (length m.params) (expanded m.body)) first second;
    }
