-- Terms: what is left to do. A kernel statement is a term whose scopes have no store.
use Rattle.std.specs.Prelude.{ℕ, Bool, true, false, not, ◌&&◌, ◌||◌, List, Option, Some, None}
use Rattle.quartz_tree.specs.declared.place.Place.{Place}
use Rattle.quartz_tree.specs.Tree.{Tree}
use Rattle.quartz_tree.specs.Kernel.{Kernel, Kernels}
use Rattle.quartz_tree.specs.Kernel as kernel
use Rattle.quartz_expr.specs.declared.act.Kept.{Kept}

-- what a variable keeps of each element
abbrev pub Store : Type 0
Store = List Kept

-- a term, and a list of terms
mutual
  pub data Term : Type 0 where
    nothing : Term
    pause : Term
    write : (var : ℕ) → (index : Option (Tree ℕ)) → (value : Tree ℕ) → (delayed : Bool) → (place target_place : Place) → Term
    choose : Tree ℕ → (a b : Term) → Term
    seq : Terms → Term
    par : Terms → Term
    loop : Term → Tree ℕ → Term
    abort : (weak immediate : Bool) → Term → Tree ℕ → Term
    suspend : (weak immediate : Bool) → Term → Tree ℕ → Term
    scope : (var : ℕ) → Option Store → Term → Term

  pub data Terms : Type 0 where
    none : Terms
    part : Term → Terms → Terms

-- the guard of that form
abbrev pub guard_of : (is_abort weak immediate : Bool) → Term → Tree ℕ → Term
guard_of true weak immediate t c = abort weak immediate t c
guard_of false weak immediate t c = suspend weak immediate t c

-- the term of a kernel statement
abbrev mutual
  pub term_of : Kernel → Term
  term_of kernel.nothing = nothing
  term_of kernel.pause = pause
  term_of (kernel.write x i e delayed p q) = write x i e delayed p q
  term_of (kernel.choose c a b) = choose c (term_of a) (term_of b)
  term_of (kernel.seq ks) = seq (terms_of ks)
  term_of (kernel.par ks) = par (terms_of ks)
  term_of (kernel.loop k c _) = loop (term_of k) c
  term_of (kernel.guard is_abort weak immediate k c) = guard_of is_abort weak immediate (term_of k) c
  term_of (kernel.local x k) = scope x None (term_of k)

  pub terms_of : Kernels → Terms
  terms_of kernel.none = none
  terms_of (kernel.part k ks) = part (term_of k) (terms_of ks)

-- the term may end in the macro step in which it starts
abbrev mutual
  pub is_instant : Term → Bool
  is_instant nothing = true
  is_instant pause = false
  is_instant (write _ _ _ _ _ _) = true
  is_instant (choose _ a b) = is_instant a || is_instant b
  is_instant (seq ts) = are_instant ts
  is_instant (par ts) = are_instant ts
  is_instant (loop t _) = is_instant t
  is_instant (abort _ true _ _) = true
  is_instant (abort _ false t _) = is_instant t
  is_instant (suspend _ _ t _) = is_instant t
  is_instant (scope _ _ t) = is_instant t

  -- all parts may be instant
  pub are_instant : Terms → Bool
  are_instant none = true
  are_instant (part t ts) = is_instant t && are_instant ts

-- no loop has a body that may be instant
abbrev mutual
  pub has_sound_loops : Term → Bool
  has_sound_loops nothing = true
  has_sound_loops pause = true
  has_sound_loops (write _ _ _ _ _ _) = true
  has_sound_loops (choose _ a b) = has_sound_loops a && has_sound_loops b
  has_sound_loops (seq ts) = have_sound_loops ts
  has_sound_loops (par ts) = have_sound_loops ts
  has_sound_loops (loop t _) = not (is_instant t) && has_sound_loops t
  has_sound_loops (abort _ _ t _) = has_sound_loops t
  has_sound_loops (suspend _ _ t _) = has_sound_loops t
  has_sound_loops (scope _ _ t) = has_sound_loops t

  pub have_sound_loops : Terms → Bool
  have_sound_loops none = true
  have_sound_loops (part t ts) = has_sound_loops t && have_sound_loops ts

-- no scope has a store
abbrev mutual
  pub is_fresh : Term → Bool
  is_fresh nothing = true
  is_fresh pause = true
  is_fresh (write _ _ _ _ _ _) = true
  is_fresh (choose _ a b) = is_fresh a && is_fresh b
  is_fresh (seq ts) = are_fresh ts
  is_fresh (par ts) = are_fresh ts
  is_fresh (loop t _) = is_fresh t
  is_fresh (abort _ _ t _) = is_fresh t
  is_fresh (suspend _ _ t _) = is_fresh t
  is_fresh (scope _ None t) = is_fresh t
  is_fresh (scope _ (Some _) t) = false

  pub are_fresh : Terms → Bool
  are_fresh none = true
  are_fresh (part t ts) = is_fresh t && are_fresh ts
