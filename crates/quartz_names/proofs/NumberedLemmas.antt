-- What holds of a module whose names are numbers.
use Rattle.std.proofs.Common.{◌≡◌, ℕ, zero, suc, ◌+◌, ◌<◌, ◌≤◌, Bool, true, false, List, [], ◌∷◌, ◌++◌, length, Option, Some, None, option_map, unwrap_or, if◌then◌else◌, refl, sym, ap, ap₂, subst, ◌∙◌, length-append, arith}
use Rattle.std.specs.Prelude.{◌&&◌, ◌||◌, ◌==◌, ◌^◌, nat_lt, is_none, ℤ, pos}
use mathlib.Core.Bool.{Bool-set}
use Rattle.std.proofs.Math.Logic.{∥∥₁_elim}
use Rattle.std.proofs.lemmas.Int.{ints}
use Rattle.std.specs.Str.{bytes_eq}
use Rattle.std.proofs.lemmas.Bool.Decides.{nat_tests}
use Rattle.quartz_tree.specs.declared.declare.Base.{Base}
use Rattle.quartz_tree.specs.declared.declare.Base.TheVariants as base
use Rattle.quartz_tree.specs.declared.declare.Decl.{Decl}
use Rattle.quartz_tree.specs.declared.declare.Init.{Init}
use Rattle.quartz_tree.specs.declared.declare.Ty.{Ty}
use Rattle.quartz_tree.specs.declared.place.Place.{Place}
use Rattle.quartz_tree.specs.declared.surface.Module.{Module}
use Rattle.quartz_names.specs.declared.resolving.Resolved.{Resolved}
use Rattle.quartz_tree.specs.Kernel as kernel
use Rattle.quartz_tree.specs.Kernel.{Kernel, Kernels, kernel as kernel_of}
use Rattle.quartz_tree.specs.Least.{least_place, lesser_place}
use Rattle.quartz_tree.specs.Surfaces.{Word, Goal, Written, empty, pause, halt, await, emit, write, block, choose, choose_one, loop, always, while, do_while, guard, call, Branch, done, then as followed, Branches, none, beside, ModuleTree, module_tree}
use Rattle.quartz_tree.specs.Expand.{expanded}
use Rattle.quartz_tree.specs.Tree.{Tree, truth, number, bits, named, element, one, two, choice, slice, to_nat, to_bv, paren}
use Rattle.quartz_expr.specs.Kinds.{place_if}
use Rattle.quartz_expr.specs.Typed.{is_over}
use Rattle.quartz_names.specs.Scopes.{Scope, no_names, standing, declared, number_in}
use Rattle.quartz_names.specs.Numbering.{renamed, locals, locals_of_branch, locals_of_branches, around, joined, numbered, numbered_branch, numbered_branches}
use Rattle.quartz_names.specs.NameRules.{undeclared, undeclared_at, undeclared_in_index, undeclared_in_goal, name_breaks, name_breaks_in_branch, name_breaks_in_branches, repeated}
use Rattle.quartz_names.specs.Resolving.{body_scope, declarations, module_name_breaks, resolved_body, resolved_vars, variables_from}
use Rattle.quartz_names.specs.Targets.{all_next_targets, is_among, next_targets}
use Rattle.quartz_names.specs.Laws.{ResolvedIsNumbered, MarksAreTargets}
use Rattle.quartz_names.specs.Numbered.{IsResolved, Resolves, are_marked, index_is_over, is_marked, is_numbered, starts_lie, stmt_is_over, stmts_are_over}
use Rattle.quartz_names.specs.Starts.{has_kind_of, is_within, constant_value, start_of_init, start_value}
use Rattle.quartz_expr.specs.Intervals.{base_interval, is_in, is_sound_base, is_sound_length, sound_or_nought, type_interval}
use Rattle.quartz_expr.proofs.TruthLemmas.{and_intro, and_left, and_right, none_left}
use Rattle.quartz_expr.proofs.RangeLemmas.{zero_in_base, zero_in_type}
use Rattle.quartz_names.proofs.TargetLemmas.{variables_length}

-- names stand for variables below N
abbrev Below : Scope → ℕ → Type 0
Below sc N = (x : Word) (k : ℕ) → sc x ≡ Some k → k < N

none_below : (N : ℕ) → Below no_names N
none_below N x k e = absurd (cc)

standing_below : (sc : Scope) (N : ℕ) (x : Word) (n : ℕ) → Below sc N → n < N → Below (standing sc x (Some n)) N
standing_below sc N x n h less y k e = either (bytes_eq x y) e
  where
    either : (b : Bool) → (if b then Some n else sc y) ≡ Some k → k < N
    either true e = let f : n ≡ k = cc in subst (λ m. m < N) f less
    either false e = h y k e

declared_below : (ds : List Decl) (sc : Scope) (n N : ℕ) → Below sc N → n + length ds ≤ N → Below (declared sc n ds) N
declared_below [] sc n N h le = h
declared_below (d ∷ ds) sc n N h le = declared_below ds (standing sc d.name (Some n)) (n + 1) N (standing_below sc N d.name n h (omega arith)) (omega arith)

module _ (N : ℕ) where
  number_below : (sc : Scope) (x : Word) (p : Place) → Below sc N → undeclared_at sc x p ≡ [] → nat_lt (number_in sc x) N ≡ true
  number_below sc x p h e = found (sc x) refl e
    where
      found : (o : Option ℕ) → sc x ≡ o → place_if (is_none o) p ≡ [] → nat_lt (unwrap_or o 0) N ≡ true
      found (Some k) f e = let less : k < N = h x k f in grind (arith, nat_tests, less)
      found None f e = absurd (cc)

  renamed_over : (sc : Scope) (t : Tree Word) → Below sc N → undeclared sc t ≡ [] → is_over N (renamed sc t) ≡ true
  renamed_over sc (truth b p) h e = refl
  renamed_over sc (number n p) h e = refl
  renamed_over sc (bits w n p) h e = refl
  renamed_over sc (named x p) h e = number_below sc x p h e
  renamed_over sc (element x i p) h e =
      let g = none_left (undeclared_at sc x p) (undeclared sc i) e in
      and_intro (nat_lt (number_in sc x) N) (is_over N (renamed sc i)) (number_below sc x p h g.0) (renamed_over sc i h g.1)
  renamed_over sc (one op a p) h e = renamed_over sc a h e
  renamed_over sc (two op a b p) h e =
      let g = none_left (undeclared sc a) (undeclared sc b) e in
      and_intro (is_over N (renamed sc a)) (is_over N (renamed sc b)) (renamed_over sc a h g.0) (renamed_over sc b h g.1)
  renamed_over sc (choice c a b p) h e =
      let f = none_left (undeclared sc c) _ e in
      let g = none_left (undeclared sc a) (undeclared sc b) f.1 in
      and_intro (is_over N (renamed sc c)) (is_over N (renamed sc a) && is_over N (renamed sc b)) (renamed_over sc c h f.0)
      (and_intro (is_over N (renamed sc a)) (is_over N (renamed sc b)) (renamed_over sc a h g.0) (renamed_over sc b h g.1))
  renamed_over sc (slice a high low p) h e = renamed_over sc a h e
  renamed_over sc (to_nat a p) h e = renamed_over sc a h e
  renamed_over sc (to_bv a w q p) h e = renamed_over sc a h e
  renamed_over sc (paren a p) h e = renamed_over sc a h e

  index_over : (sc : Scope) (i : Option (Tree Word)) → Below sc N → undeclared_in_index sc i ≡ [] → index_is_over N (option_map (renamed sc) i) ≡ true
  index_over sc None h e = refl
  index_over sc (Some i) h e = renamed_over sc i h e

  around_over : (n count : ℕ) (k : Kernel) → n + count ≤ N → stmt_is_over N k ≡ true → stmt_is_over N (around n count k) ≡ true
  around_over n zero k le h = h
  around_over n (suc count) k le h =
      let first : nat_lt n N ≡ true = grind (arith, nat_tests, le) in
      and_intro (nat_lt n N) (stmt_is_over N (around (n + 1) count k)) first (around_over (n + 1) count k (omega arith) h)

  joined_over : (ks : Kernels) → stmts_are_over N ks ≡ true → stmt_is_over N (joined ks) ≡ true
  joined_over kernel.none h = h
  joined_over (kernel.part k kernel.none) h = only (stmt_is_over N k) h
    where
      only : (b : Bool) → (b && true) ≡ true → b ≡ true
      only true e = refl
      only false e = absurd (cc)
  joined_over (kernel.part k (kernel.part j ks)) h = h

  write_over : (sc : Scope) (g : Goal) (e : Tree Word) → Below sc N → undeclared_in_goal sc g ++ undeclared sc e ≡ []
      → (nat_lt (number_in sc g.name) N && (index_is_over N (option_map (renamed sc) g.index) && is_over N (renamed sc e))) ≡ true
  write_over sc g e h b =
      let f = none_left (undeclared_in_goal sc g) (undeclared sc e) b in
      let k = none_left (undeclared_at sc g.name g.place) (undeclared_in_index sc g.index) f.0 in
      and_intro (nat_lt (number_in sc g.name) N) _ (number_below sc g.name g.place h k.0)
      (and_intro (index_is_over N (option_map (renamed sc) g.index)) (is_over N (renamed sc e)) (index_over sc g.index h k.1) (renamed_over sc e h f.1))

  mutual
    numbered_over : (w : Written) (sc : Scope) (n : ℕ) → Below sc N → n + length (locals w) ≤ N → name_breaks sc n w ≡ [] → stmt_is_over N (numbered sc n w) ≡ true
    numbered_over empty sc n h le b = refl
    numbered_over pause sc n h le b = refl
    numbered_over (halt p) sc n h le b = refl
    numbered_over (await i c p) sc n h le b = refl
    numbered_over (emit d g p) sc n h le b = refl
    numbered_over (write delayed g e p) sc n h le b = write_over sc g e h b
    numbered_over (block ds bs) sc n h le b =
        let size : length (ds ++ locals_of_branches bs) ≡ length ds + length (locals_of_branches bs) = length-append ds (locals_of_branches bs) in
        let head : n + length ds ≤ N = omega (arith, le, size) in
        let all : (n + length ds) + length (locals_of_branches bs) ≤ N = omega (arith, le, size) in
        around_over n (length ds) _ head (joined_over (numbered_branches (declared sc n ds) (n + length ds) bs) (branches_over bs (declared sc n ds) (n + length ds) (declared_below ds sc n N h head) all (none_left (repeated ds) _ b).1))
    numbered_over (choose c v w) sc n h le b =
        let size : length (locals v ++ locals w) ≡ length (locals v) + length (locals w) = length-append (locals v) (locals w) in
        let first : n + length (locals v) ≤ N = omega (arith, le, size) in
        let second : (n + length (locals v)) + length (locals w) ≤ N = omega (arith, le, size) in
        let f = none_left (undeclared sc c) _ b in
        let g = none_left (name_breaks sc n v) _ f.1 in
        and_intro (is_over N (renamed sc c)) _ (renamed_over sc c h f.0)
        (and_intro (stmt_is_over N (numbered sc n v)) _ (numbered_over v sc n h first g.0) (numbered_over w sc (n + length (locals v)) h second g.1))
    numbered_over (choose_one c v) sc n h le b =
        let f = none_left (undeclared sc c) _ b in
        and_intro (is_over N (renamed sc c)) _ (renamed_over sc c h f.0) (and_intro (stmt_is_over N (numbered sc n v)) true (numbered_over v sc n h le f.1) refl)
    numbered_over (loop v p) sc n h le b = refl
    numbered_over (always v p) sc n h le b = refl
    numbered_over (while c v p) sc n h le b = refl
    numbered_over (do_while v c p) sc n h le b =
        let f = none_left (name_breaks sc n v) _ b in
        and_intro (stmt_is_over N (numbered sc n v)) _ (numbered_over v sc n h le f.0) (renamed_over sc c h f.1)
    numbered_over (guard abort weak immediate v c) sc n h le b =
        let f = none_left (name_breaks sc n v) _ b in
        and_intro (stmt_is_over N (numbered sc n v)) _ (numbered_over v sc n h le f.0) (renamed_over sc c h f.1)
    numbered_over (call m args p) sc n h le b = refl

    branch_over : (s : Branch) (sc : Scope) (n : ℕ) → Below sc N → n + length (locals_of_branch s) ≤ N → name_breaks_in_branch sc n s ≡ [] → stmts_are_over N (numbered_branch sc n s) ≡ true
    branch_over done sc n h le b = refl
    branch_over (followed w s) sc n h le b =
        let size : length (locals w ++ locals_of_branch s) ≡ length (locals w) + length (locals_of_branch s) = length-append (locals w) (locals_of_branch s) in
        let first : n + length (locals w) ≤ N = omega (arith, le, size) in
        let second : (n + length (locals w)) + length (locals_of_branch s) ≤ N = omega (arith, le, size) in
        let f = none_left (name_breaks sc n w) _ b in
        and_intro (stmt_is_over N (numbered sc n w)) _ (numbered_over w sc n h first f.0) (branch_over s sc (n + length (locals w)) h second f.1)

    branches_over : (bs : Branches) (sc : Scope) (n : ℕ) → Below sc N → n + length (locals_of_branches bs) ≤ N → name_breaks_in_branches sc n bs ≡ [] → stmts_are_over N (numbered_branches sc n bs) ≡ true
    branches_over none sc n h le b = refl
    branches_over (beside s bs) sc n h le b =
        let size : length (locals_of_branch s ++ locals_of_branches bs) ≡ length (locals_of_branch s) + length (locals_of_branches bs) = length-append (locals_of_branch s) (locals_of_branches bs) in
        let first : n + length (locals_of_branch s) ≤ N = omega (arith, le, size) in
        let second : (n + length (locals_of_branch s)) + length (locals_of_branches bs) ≤ N = omega (arith, le, size) in
        let f = none_left (name_breaks_in_branch sc n s) _ b in
        and_intro (stmts_are_over N (numbered_branch sc n s)) _ (branch_over s sc n h first f.0) (branches_over bs sc (n + length (locals_of_branch s)) h second f.1)

pub no_place : (ps : List Place) → least_place ps ≡ None → ps ≡ []
no_place [] e = refl
no_place (p ∷ ps) e = absurd (some (least_place ps) e)
  where
    some : (o : Option Place) → lesser_place (Some p) o ≡ None → ⊥
    some None e = cc
    some (Some q) e = either _ e
      where
        either : (b : Bool) → (if b then Some q else Some p) ≡ None → ⊥
        either true e = cc
        either false e = cc

body_names_variables : (m : ModuleTree) → least_place (module_name_breaks m) ≡ None → stmt_is_over (length (resolved_vars m)) (resolved_body m) ≡ true
body_names_variables m e =
    let clean = no_place (module_name_breaks m) e in
    let body = (none_left (repeated m.params) _ clean).1 in
    let count : length (resolved_vars m) ≡ length m.params + length (locals (expanded m.body)) = variables_length (next_targets (resolved_body m)) 0 (declarations m) ∙ length-append m.params (locals (expanded m.body)) in
    let N = length (resolved_vars m) in
    let head : 0 + length m.params ≤ N = omega (arith, count) in
    let all : length m.params + length (locals (expanded m.body)) ≤ N = omega (arith, count) in
    numbered_over N (expanded m.body) (body_scope m) (length m.params) (declared_below m.params no_names 0 N (none_below N) head) all body

-- ---- start values

start_lies : (d : Decl) → is_in (type_interval d.ty) (start_value d) ≡ true
start_lies d = of_init d.init
  where
    of_constant : (a b : Bool) (z : ℤ) → (b ≡ true → is_in (type_interval d.ty) z ≡ true) → is_in (type_interval d.ty) (if a && b then z else pos 0) ≡ true
    of_constant true true z f = f refl
    of_constant true false z f = zero_in_type d.ty
    of_constant false b z f = zero_in_type d.ty

    second : (a b : Bool) → (a && b) ≡ true → b ≡ true
    second true b h = h
    second false b h = absurd (cc)

    of_init : (i : Option Init) → is_in (type_interval d.ty) (start_of_init d.ty i) ≡ true
    of_init None = zero_in_type d.ty
    of_init (Some i) = of_constant (has_kind_of d.ty i.value) (is_within d.ty i.value) (constant_value i.value) (second _ (is_in (type_interval d.ty) (constant_value i.value)))

all_starts_lie : (targets : List ℕ) (n : ℕ) (ds : List Decl) → starts_lie (variables_from targets n ds) ≡ true
all_starts_lie targets n [] = refl
all_starts_lie targets n (d ∷ ds) = and_intro (is_in (type_interval d.ty) (start_value d)) _ (start_lies d) (all_starts_lie targets (n + 1) ds)

-- ---- targets of `next`

flag_at : (targets : List ℕ) (n : ℕ) (ds : List Decl) (x : ℕ) → x < length ds → is_marked (variables_from targets n ds) x ≡ is_among targets (n + x)
flag_at targets n [] x h = absurd (omega (arith, h))
flag_at targets n (d ∷ ds) zero h = let e : n ≡ n + zero = omega arith in ap (is_among targets) e
flag_at targets n (d ∷ ds) (suc x) h = let e : (n + 1) + x ≡ n + suc x = omega arith in flag_at targets (n + 1) ds x (omega (arith, h)) ∙ ap (is_among targets) e

flag_is : (targets : List ℕ) (ds : List Decl) (x : ℕ) → x < length ds → is_marked (variables_from targets 0 ds) x ≡ is_among targets x
flag_is targets ds x h = let e : 0 + x ≡ x = omega arith in flag_at targets 0 ds x h ∙ ap (is_among targets) e

either_among : {P : Type 0} → (a b : Bool) → (a || b) ≡ true → (a ≡ true → P) → (b ≡ true → P) → P
either_among true b h f g = f refl
either_among false b h f g = g h

among_both : (xs ys : List ℕ) (x : ℕ) → is_among (xs ++ ys) x ≡ (is_among xs x || is_among ys x)
among_both [] ys x = refl
among_both (y ∷ xs) ys x = ap (λ b. (y == x) || b) (among_both xs ys x) ∙ or_assoc (y == x) (is_among xs x) (is_among ys x)
  where
    or_assoc : (a b c : Bool) → (a || (b || c)) ≡ ((a || b) || c)
    or_assoc true b c = refl
    or_assoc false b c = refl

module _ (N : ℕ) where
  two_below : (xs ys : List ℕ) (x : ℕ) → (is_among xs x ≡ true → x < N) → (is_among ys x ≡ true → x < N) → is_among (xs ++ ys) x ≡ true → x < N
  two_below xs ys x f g h = either_among (is_among xs x) (is_among ys x) (sym (among_both xs ys x) ∙ h) f g

  one_below : (y x : ℕ) → nat_lt y N ≡ true → is_among (y ∷ []) x ≡ true → x < N
  one_below y x h e = grind (arith, nat_tests, h, e)

  mutual
    targets_below : (k : Kernel) → stmt_is_over N k ≡ true → (x : ℕ) → is_among (next_targets k) x ≡ true → x < N
    targets_below kernel.nothing h x e = absurd (cc)
    targets_below kernel.pause h x e = absurd (cc)
    targets_below (kernel.write y i v true p q) h x e = one_below y x (and_left _ _ h) e
    targets_below (kernel.write y i v false p q) h x e = absurd (cc)
    targets_below (kernel.choose c a b) h x e =
        let r = and_right (is_over N c) _ h in
        two_below (next_targets a) (next_targets b) x (targets_below a (and_left _ _ r) x) (targets_below b (and_right (stmt_is_over N a) _ r) x) e
    targets_below (kernel.seq ks) h x e = all_targets_below ks h x e
    targets_below (kernel.par ks) h x e = all_targets_below ks h x e
    targets_below (kernel.loop k c p) h x e = targets_below k (and_left _ _ h) x e
    targets_below (kernel.guard a w i k c) h x e = targets_below k (and_left _ _ h) x e
    targets_below (kernel.local y k) h x e = targets_below k (and_right (nat_lt y N) _ h) x e

    all_targets_below : (ks : Kernels) → stmts_are_over N ks ≡ true → (x : ℕ) → is_among (all_next_targets ks) x ≡ true → x < N
    all_targets_below kernel.none h x e = absurd (cc)
    all_targets_below (kernel.part k ks) h x e =
        two_below (next_targets k) (all_next_targets ks) x (targets_below k (and_left _ _ h) x) (all_targets_below ks (and_right (stmt_is_over N k) _ h) x) e

marked_all : (targets : List ℕ) (ds : List Decl) (xs : List ℕ) → ((x : ℕ) → is_among xs x ≡ true → is_among targets x ≡ true) → ((x : ℕ) → is_among xs x ≡ true → x < length ds) → are_marked (variables_from targets 0 ds) xs ≡ true
marked_all targets ds [] f g = refl
marked_all targets ds (x ∷ xs) f g =
    and_intro (is_marked (variables_from targets 0 ds) x) _ (flag_is targets ds x (g x (first xs)) ∙ f x (first xs))
    (marked_all targets ds xs (λ y h. f y (later y h)) (λ y h. g y (later y h)))
  where
    first : (ys : List ℕ) → ((x == x) || is_among ys x) ≡ true
    first ys = grind (arith, nat_tests)

    later : (y : ℕ) → is_among xs y ≡ true → ((x == y) || is_among xs y) ≡ true
    later y h = or_right (x == y) (is_among xs y) h
      where
        or_right : (a b : Bool) → b ≡ true → (a || b) ≡ true
        or_right true b e = refl
        or_right false b e = e

-- what holds of a resolved module
pub numbered_well : (m : ModuleTree) → least_place (module_name_breaks m) ≡ None → length (resolved_vars m) < 2 ^ 32 → is_numbered (resolved_vars m) (resolved_body m) ≡ true
numbered_well m e few =
    let N = length (resolved_vars m) in
    let targets = next_targets (resolved_body m) in
    let over = body_names_variables m e in
    let count : length (resolved_vars m) ≡ length (declarations m) = variables_length targets 0 (declarations m) in
    let small : nat_lt N (2 ^ 32) ≡ true = grind (arith, nat_tests, few) in
    and_intro (nat_lt N (2 ^ 32)) _ small (and_intro (starts_lie (resolved_vars m)) _ (all_starts_lie targets 0 (declarations m))
    (and_intro (stmt_is_over N (resolved_body m)) _ over (marked_all targets (declarations m) targets (λ x h. h) (λ x h. subst (λ n. x < n) count (targets_below N (resolved_body m) over x h)))))

-- ---- laws

-- what was made of a module is what resolving gives
pub resolved_from : (m : Module) (r : Resolved) → Resolves m r → IsResolved r
resolved_from m r h = ∣ (m, h) ∣₁

numbered_from : (r : Resolved) (m : Module) → Resolves m r → is_numbered r.vars (kernel_of r.body) ≡ true
numbered_from r m h =
    let t = module_tree m in
    let few : length (resolved_vars t) < 2 ^ 32 = subst (λ vs. length vs < 2 ^ 32) h.vars h.few in
    ap₂ is_numbered h.vars h.body ∙ numbered_well t h.unbroken few

pub resolved_is_numbered : ResolvedIsNumbered
resolved_is_numbered r some = ∥∥₁_elim some (Bool-set _ _) (λ h. numbered_from r h.0 h.1)

marked_from : (r : Resolved) (m : Module) → Resolves m r → (x : ℕ) → x < length r.vars → is_marked r.vars x ≡ is_among (next_targets (kernel_of r.body)) x
marked_from r m h x less =
    let ds = declarations (module_tree m) in
    let targets = next_targets (resolved_body (module_tree m)) in
    let short : x < length (resolved_vars (module_tree m)) = subst (λ vs. x < length vs) h.vars less in
    ap (λ vs. is_marked vs x) h.vars ∙ flag_is targets ds x (subst (λ n. x < n) (variables_length targets 0 ds) short) ∙ ap (λ k. is_among (next_targets k) x) (sym h.body)

pub marks_are_targets : MarksAreTargets
marks_are_targets r some x less = ∥∥₁_elim some (Bool-set _ _) (λ h. marked_from r h.0 h.1 x less)
