-- The term of each form of statement, and that its parts are smaller.
use Rattle.std.proofs.Common.{◌≡◌, ◌∙◌, ℕ, ◌<◌, ◌≤◌, Bool, true, false, List, ◌∷◌, length, get_or, sym, ap, subst, rules, Option, option_map, Vec, Box, Global}
use denote.Param.Weighed.{most, at_most}
use Rattle.quartz_tree.specs.declared.expr.Expr.{Expr}
use Rattle.quartz_tree.specs.declared.place.Place.{Place}
use Rattle.quartz_tree.specs.declared.stmt.Stmt.{Stmt, size-Stmt}
use Rattle.quartz_tree.specs.declared.stmt.Stmt.TheVariants.{Nothing, Pause, Write, Choose, Seq, Par, Loop, Guard}
use Rattle.quartz_tree.specs.declared.stmt.Stmt.TheViews.{the_lemmas}
use Rattle.quartz_tree.specs.Tree.{Tree as Plain, tree}
use Rattle.quartz_expr.specs.Typed.{IsTyped}
use Rattle.quartz_tree.specs.Kernel as plain
use Rattle.quartz_tree.specs.Kernel.{Kernel, kernel, kernels}
use Rattle.quartz_expr.specs.Vars.{Vars}
use Rattle.quartz_expr.specs.Terms.{Term, nothing, pause, write, choose, seq, par, loop, guard_of, term_of}
use Rattle.quartz_names.specs.Unscoped.{unscoped}
use Rattle.quartz_names.proofs.KernelLemmas.{kernel_choose, kernel_guard, kernel_loop, kernel_nothing, kernel_par, kernel_pause, kernel_seq, kernel_write}
use Rattle.statement_cells.specs.Sound.{AreSound, IsSound}
use Rattle.statement_builder.proofs.JoinLemmas.{terms}

pub nothing_is : (s : Stmt) → s ≡ Nothing → term_of (kernel s) ≡ nothing
nothing_is s e = ap (λ (x : Stmt). term_of (kernel x)) e ∙ ap term_of kernel_nothing

pub pause_is : (s : Stmt) → s ≡ Pause → term_of (kernel s) ≡ pause
pause_is s e = ap (λ (x : Stmt). term_of (kernel x)) e ∙ ap term_of kernel_pause

pub write_is : (s : Stmt) (x : ℕ) (i : Option (Expr ℕ)) (e : Expr ℕ) (d : Bool) (p q : Place) → s ≡ Write x i e d p q → term_of (kernel s) ≡ write x (option_map tree i) (tree e) d p q
write_is s x i e d p q h = ap (λ (x : Stmt). term_of (kernel x)) h ∙ ap term_of (kernel_write x i e d p q)

pub choose_is : (s : Stmt) (c : Expr ℕ) (a b : Box Stmt Global) (x y : Stmt) → s ≡ Choose c a b → x ≡ a.value → y ≡ b.value → term_of (kernel s) ≡ choose (tree c) (term_of (kernel x)) (term_of (kernel y))
choose_is s c a b x y h e f =
    ap (λ (x : Stmt). term_of (kernel x)) h ∙ (ap term_of (kernel_choose c a b)
    ∙ (ap (λ (z : Stmt). choose (tree c) (term_of (kernel z)) (term_of (kernel b.value))) (sym e) ∙ ap (λ (z : Stmt). choose (tree c) (term_of (kernel x)) (term_of (kernel z))) (sym f)))

pub seq_is : (s : Stmt) (v : Vec Stmt Global) (ss : List Stmt) → s ≡ Seq v → ss ≡ v.items → term_of (kernel s) ≡ seq (terms ss)
seq_is s v ss h e = ap (λ (x : Stmt). term_of (kernel x)) h ∙ (ap term_of (kernel_seq v) ∙ ap (λ (us : List Stmt). seq (terms us)) (sym e))

pub par_is : (s : Stmt) (v : Vec Stmt Global) (ss : List Stmt) → s ≡ Par v → ss ≡ v.items → term_of (kernel s) ≡ par (terms ss)
par_is s v ss h e = ap (λ (x : Stmt). term_of (kernel x)) h ∙ (ap term_of (kernel_par v) ∙ ap (λ (us : List Stmt). par (terms us)) (sym e))

pub loop_is : (s : Stmt) (k : Box Stmt Global) (c : Expr ℕ) (p : Place) (x : Stmt) → s ≡ Loop k c p → x ≡ k.value → term_of (kernel s) ≡ loop (term_of (kernel x)) (tree c)
loop_is s k c p x h e = ap (λ (x : Stmt). term_of (kernel x)) h ∙ (ap term_of (kernel_loop k c p) ∙ ap (λ (z : Stmt). loop (term_of (kernel z)) (tree c)) (sym e))

pub guard_is : (s : Stmt) (a w i : Bool) (k : Box Stmt Global) (c : Expr ℕ) (x : Stmt) → s ≡ Guard a w i k c → x ≡ k.value → term_of (kernel s) ≡ guard_of a w i (term_of (kernel x)) (tree c)
guard_is s a w i k c x h e = ap (λ (x : Stmt). term_of (kernel x)) h ∙ (ap term_of (kernel_guard a w i k c) ∙ ap (λ (z : Stmt). guard_of a w i (term_of (kernel z)) (tree c)) (sym e))

-- ---- sound parts

pub sound_inside : (vs : Vars) (k : Kernel) → IsSound vs (term_of k) → IsSound vs (term_of (unscoped k))
sound_inside vs plain.nothing h = h
sound_inside vs plain.pause h = h
sound_inside vs (plain.write x i e d p q) h = h
sound_inside vs (plain.choose c a b) h = h
sound_inside vs (plain.seq ks) h = h
sound_inside vs (plain.par ks) h = h
sound_inside vs (plain.loop k c p) h = h
sound_inside vs (plain.guard a w i k c) h = h
sound_inside vs (plain.local x k) h = sound_inside vs k h.3

pub sound_next : (vs : Vars) (us ss : List Stmt) (s : Stmt) → us ≡ s ∷ ss → AreSound vs (terms us) → IsSound vs (term_of (kernel s)) × AreSound vs (terms ss)
sound_next vs us ss s e h = subst (λ (xs : List Stmt). AreSound vs (terms xs)) e h

-- ---- parts are smaller

pub part_smaller : (ss : List Stmt) (i : ℕ) (s : Stmt) → i < length ss → s ≡ get_or ss i s → size-Stmt s ≤ most size-Stmt ss
part_smaller ss i s h e = subst (λ (x : Stmt). size-Stmt x ≤ most size-Stmt ss) (sym e) (at_most size-Stmt ss i s h)

pub guard_smaller : (s : Stmt) (a w i : Bool) (k : Box Stmt Global) (c : Expr ℕ) (x : Stmt) → s ≡ Guard a w i k c → x ≡ k.value → size-Stmt x < size-Stmt s
guard_smaller s a w i k c x h e = search (rules, the_lemmas)

pub sound_guard : (vs : Vars) (a w i : Bool) (t : Term) (c : Plain ℕ) → IsSound vs (guard_of a w i t c) → IsTyped vs c × IsSound vs t
sound_guard vs true w i t c h = h
sound_guard vs false w i t c h = h
