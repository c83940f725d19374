-- The plain tree of each form of kernel statement.
use Rattle.std.proofs.Common.{◌≡◌, ◌≢◌, ℕ, ◌+◌, Bool, List, [], ◌∷◌, map, length, refl, add-one, Option, option_map, Vec, Box, Global, sym, ap, ◌∙◌}
use Rattle.quartz_tree.specs.declared.expr.Expr.{Expr}
use Rattle.quartz_tree.specs.declared.place.Place.{Place}
use Rattle.quartz_tree.specs.declared.stmt.Stmt.{Stmt, Stmt-F, fold-roll-Stmt}
use Rattle.quartz_tree.specs.declared.stmt.Stmt.TheVariants.{Nothing, Pause, Write, Choose, Seq, Par, Loop, Guard, Local, rolls-Nothing, rolls-Pause, rolls-Write, rolls-Choose, rolls-Seq, rolls-Par, rolls-Loop, rolls-Guard, rolls-Local}
use Rattle.std.proofs.lemmas.List.{length-map}
use Rattle.quartz_tree.specs.Tree.{tree}
use Rattle.quartz_tree.specs.Kernel as plain
use Rattle.quartz_tree.specs.Kernel.{Kernel, kernel, kernel_step, kernels}
use Rattle.quartz_names.specs.Numbering.{around, joined}

pub kernel_nothing : kernel Nothing ≡ plain.nothing
kernel_nothing = ap kernel (sym rolls-Nothing) ∙ fold-roll-Stmt Kernel kernel_step Stmt-F.Nothing

pub kernel_pause : kernel Pause ≡ plain.pause
kernel_pause = ap kernel (sym rolls-Pause) ∙ fold-roll-Stmt Kernel kernel_step Stmt-F.Pause

pub kernel_write : (x : ℕ) (i : Option (Expr ℕ)) (e : Expr ℕ) (delayed : Bool) (p q : Place) → kernel (Write x i e delayed p q) ≡ plain.write x (option_map tree i) (tree e) delayed p q
kernel_write x i e d p q = ap kernel (sym (rolls-Write x i e d p q)) ∙ fold-roll-Stmt Kernel kernel_step (Stmt-F.Write x i e d p q)

pub kernel_choose : (c : Expr ℕ) (a b : Box Stmt Global) → kernel (Choose c a b) ≡ plain.choose (tree c) (kernel a.value) (kernel b.value)
kernel_choose c a b = ap kernel (sym (rolls-Choose c a b)) ∙ fold-roll-Stmt Kernel kernel_step (Stmt-F.Choose c a b)

pub kernel_seq : (v : Vec Stmt Global) → kernel (Seq v) ≡ plain.seq (kernels (map kernel v.items))
kernel_seq v = ap kernel (sym (rolls-Seq v)) ∙ fold-roll-Stmt Kernel kernel_step (Stmt-F.Seq v)

pub kernel_par : (v : Vec Stmt Global) → kernel (Par v) ≡ plain.par (kernels (map kernel v.items))
kernel_par v = ap kernel (sym (rolls-Par v)) ∙ fold-roll-Stmt Kernel kernel_step (Stmt-F.Par v)

pub kernel_loop : (k : Box Stmt Global) (c : Expr ℕ) (p : Place) → kernel (Loop k c p) ≡ plain.loop (kernel k.value) (tree c) p
kernel_loop k c p = ap kernel (sym (rolls-Loop k c p)) ∙ fold-roll-Stmt Kernel kernel_step (Stmt-F.Loop k c p)

pub kernel_guard : (abort weak immediate : Bool) (k : Box Stmt Global) (c : Expr ℕ) → kernel (Guard abort weak immediate k c) ≡ plain.guard abort weak immediate (kernel k.value) (tree c)
kernel_guard a w i k c = ap kernel (sym (rolls-Guard a w i k c)) ∙ fold-roll-Stmt Kernel kernel_step (Stmt-F.Guard a w i k c)

pub kernel_local : (x : ℕ) (k : Box Stmt Global) → kernel (Local x k) ≡ plain.local x (kernel k.value)
kernel_local x k = ap kernel (sym (rolls-Local x k)) ∙ fold-roll-Stmt Kernel kernel_step (Stmt-F.Local x k)

joined_par : (ks : List Kernel) → length ks ≢ 1 → joined (kernels ks) ≡ plain.par (kernels ks)
joined_par [] h = refl
joined_par (k ∷ []) h = absurd (h refl)
joined_par (k ∷ l ∷ ks) h = refl

-- several branches are in parallel
pub kernel_branches : (v : Vec Stmt Global) → length v.items ≢ 1 → kernel (Par v) ≡ joined (kernels (map kernel v.items))
kernel_branches v h = kernel_par v ∙ sym (joined_par (map kernel v.items) (λ e. h (sym (length-map v.items kernel) ∙ e)))

-- one Local more around a statement
pub around_more : (n m count : ℕ) (k j : Kernel) → n ≡ m + 1 → j ≡ around n count k → plain.local m j ≡ around m (count + 1) k
around_more n m count k j e h = ap (plain.local m) (h ∙ ap (λ x. around x count k) e) ∙ ap (λ c. around m c k) (sym (add-one count))
