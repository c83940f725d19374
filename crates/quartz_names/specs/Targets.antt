-- The variables that some `next` targets.
use Rattle.std.specs.Prelude.{ℕ, ◌==◌, Bool, true, false, ◌||◌, List, [], ◌∷◌, ◌++◌}
use Rattle.quartz_tree.specs.Kernel.{Kernel, nothing, pause, write, choose, seq, par, loop, guard, local, Kernels, none, part}

-- the number is one of the list
abbrev pub is_among : List ℕ → ℕ → Bool
is_among [] x = false
is_among (y ∷ ys) x = (y == x) || is_among ys x

-- the targets of the delayed writes of a statement, in textual order
abbrev mutual
  pub next_targets : Kernel → List ℕ
  next_targets nothing = []
  next_targets pause = []
  next_targets (write x _ _ true _ _) = x ∷ []
  next_targets (write _ _ _ false _ _) = []
  next_targets (choose _ a b) = next_targets a ++ next_targets b
  next_targets (seq ks) = all_next_targets ks
  next_targets (par ks) = all_next_targets ks
  next_targets (loop k _ _) = next_targets k
  next_targets (guard _ _ _ k _) = next_targets k
  next_targets (local _ k) = next_targets k

  pub all_next_targets : Kernels → List ℕ
  all_next_targets none = []
  all_next_targets (part k ks) = next_targets k ++ all_next_targets ks
