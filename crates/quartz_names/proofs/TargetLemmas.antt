-- How flags and variables follow from the targets of `next`.
use Rattle.std.proofs.Common.{◌≡◌, ℕ, suc, ◌+◌, ◌<◌, ◌≤◌, ◌==◌, ◌||◌, Bool, true, false, List, [], ◌∷◌, ◌++◌, map, get_or, length, refl, sym, ap, ◌∙◌, append_assoc, arith, get_or-set_same, get_or-set_other}
use Rattle.std.proofs.Math.ListN.{set}
use Rattle.std.proofs.lemmas.List.{append-nil}
use Rattle.std.proofs.lemmas.Bool.Decides.{Decides-eqb}
use Rattle.quartz_tree.specs.declared.declare.Decl.{Decl}
use Rattle.quartz_tree.specs.declared.declare.Var.{Var}
use Rattle.quartz_tree.specs.declared.stmt.Stmt.{Stmt}
use Rattle.quartz_tree.specs.Kernel.{Kernel, kernel, kernels, nothing, pause, write, choose, seq, par, loop, guard, local}
use Rattle.quartz_names.specs.Resolving.{variables_from}
use Rattle.quartz_names.specs.Starts.{start_value}
use Rattle.quartz_names.specs.Targets.{all_next_targets, is_among, next_targets}
use Rattle.quartz_names.specs.Unscoped.{unscoped}

-- a statement's targets are added
pub targets_step : (all old new : List ℕ) (left rest : List Stmt) (s : Stmt) → left ≡ s ∷ rest → new ≡ old ++ next_targets (kernel s) → all ≡ old ++ all_next_targets (kernels (map kernel left))
    → all ≡ new ++ all_next_targets (kernels (map kernel rest))
targets_step all old new left rest s e f h =
    let more = all_next_targets (kernels (map kernel rest)) in
    h ∙ ap (λ l. old ++ all_next_targets (kernels (map kernel l))) e ∙ sym (append_assoc old (next_targets (kernel s)) more) ∙ ap (λ ts. ts ++ more) (sym f)

pub targets_done : (all old : List ℕ) (left : List Stmt) → left ≡ [] → all ≡ old ++ all_next_targets (kernels (map kernel left)) → old ≡ all
targets_done all old left e h = sym (h ∙ ap (λ l. old ++ all_next_targets (kernels (map kernel l))) e ∙ append-nil old)

or_true : (f : Bool) → (f || true) ≡ true
or_true true = refl
or_true false = refl

by_test : (b f g r : Bool) → (b ≡ true → g ≡ true) → (b ≡ false → g ≡ f) → (f || (b || r)) ≡ (g || r)
by_test true f g r same other = or_true f ∙ sym (ap (λ x. x || r) (same refl))
by_test false f g r same other = ap (λ x. x || r) (sym (other refl))

-- a target's flag is set
pub mark_step : (flags new : List Bool) (rest : List ℕ) (t x : ℕ) → x < length flags → new ≡ set flags t true → (get_or flags x false || is_among (t ∷ rest) x) ≡ (get_or new x false || is_among rest x)
mark_step flags new rest t x h e =
    by_test (t == x) (get_or flags x false) (get_or new x false) (is_among rest x)
    (λ b. ap (λ l. get_or l x false) e ∙ ap (λ y. get_or (set flags t true) y false) (sym ((Decides-eqb t x).0 b)) ∙ get_or-set_same flags t true false (omega (arith, h, (Decides-eqb t x).0 b)))
    (λ b. ap (λ l. get_or l x false) e ∙ get_or-set_other flags t x true false (λ s. cc (b, (Decides-eqb t x).1 (sym s))))

-- a target that no flag stands for
pub mark_skip : (flags : List Bool) (rest : List ℕ) (t x : ℕ) → x < length flags → length flags ≤ t → (get_or flags x false || is_among (t ∷ rest) x) ≡ (get_or flags x false || is_among rest x)
mark_skip flags rest t x h k =
    by_test (t == x) (get_or flags x false) (get_or flags x false) (is_among rest x)
    (λ b. absurd (let s : t ≡ x = (Decides-eqb t x).0 b in omega (arith, h, k, s)))
    (λ b. refl)

-- one variable more
pub variables_step : (targets : List ℕ) (all old new : List Var) (n : ℕ) (left rest : List Decl) (d : Decl) (delayed : Bool) → left ≡ d ∷ rest → delayed ≡ is_among targets n
    → new ≡ old ++ record { decl = d; delayed = delayed; start = start_value d } ∷ [] → all ≡ old ++ variables_from targets n left → all ≡ new ++ variables_from targets (n + 1) rest
variables_step targets all old new n left rest d delayed e f g h =
    let first : Var = record { decl = d; delayed = is_among targets n; start = start_value d } in
    let more : List Var = variables_from targets (n + 1) rest in
    let made : new ≡ old ++ first ∷ [] = g ∙ ap (λ b. old ++ record { decl = d; delayed = b; start = start_value d } ∷ []) f in
    h ∙ ap (λ l. old ++ variables_from targets n l) e ∙ sym (append_assoc old (first ∷ []) more) ∙ ap (λ vs. vs ++ more) (sym made)

pub variables_length : (targets : List ℕ) (n : ℕ) (ds : List Decl) → length (variables_from targets n ds) ≡ length ds
variables_length targets n [] = refl
variables_length targets n (d ∷ ds) = ap suc (variables_length targets (n + 1) ds)

or_false : (f : Bool) → (f || false) ≡ f
or_false true = refl
or_false false = refl

-- once no target is left, the flags are those of all
pub marks_done : (all left : List ℕ) (f : Bool) (x : ℕ) → left ≡ [] → is_among all x ≡ (f || is_among left x) → f ≡ is_among all x
marks_done all left f x e h = sym (h ∙ ap (λ l. f || is_among l x) e ∙ or_false f)

-- scopes around a statement add no targets
pub targets_unscoped : (k : Kernel) → next_targets (unscoped k) ≡ next_targets k
targets_unscoped nothing = refl
targets_unscoped pause = refl
targets_unscoped (write x i e d p q) = refl
targets_unscoped (choose c a b) = refl
targets_unscoped (seq ks) = refl
targets_unscoped (par ks) = refl
targets_unscoped (loop k c p) = refl
targets_unscoped (guard a w i k c) = refl
targets_unscoped (local x k) = targets_unscoped k
