-- The term for which labels and registers stand.
use Rattle.std.specs.Prelude.{◌≡◌, ℕ, zero, suc, ◌+◌, ℤ, pos, Bool, true, false, ◌&&◌, ◌||◌, [], ◌∷◌, map, option_map, Option, Some, None, if◌then◌else◌}
use Rattle.quartz_tree.specs.declared.declare.Storage.{Storage}
use Rattle.quartz_tree.specs.declared.declare.Storage.TheVariants.{Mem, Event}
use Rattle.quartz_expr.specs.declared.act.Kept.{Kept}
use Rattle.quartz_expr.specs.Vars.{Vars, count_of, storage_of}
use Rattle.quartz_expr.specs.Terms.{Store, Term, nothing, pause, write, choose, seq, par, loop, abort, suspend, scope, Terms, none, part}
use Rattle.quartz_expr.specs.React.{sequence}
use Rattle.aif_cells.specs.Worth.{holds}
use Rattle.absence_reaction.specs.declared.copy.Shape.{Shape}
use Rattle.absence_reaction.specs.Closing.{register_of, flag_of, pending_of}
use Rattle.quartz_tree.specs.Storage.{is_memorized}
use Rattle.statement_cells.specs.Labels.{labels, labels_all, registers, scope_registers, shape_in}

-- which labels are 1
abbrev pub Marks : Type 0
Marks = ℕ → Bool

-- what registers hold
abbrev pub Registers : Type 0
Registers = ℕ → ℤ

-- one of the n labels from l on is 1
unfoldable pub some : Marks → (l n : ℕ) → Bool
some m l zero = false
some m l (suc n) = m l || some m (l + 1) n

-- ---- stores

-- a value, if there is one
abbrev pub some_if : Bool → ℤ → Option ℤ
some_if true z = Some z
some_if false z = None

-- what registers from the first one on keep of element j; an event has none for its value
abbrev pub kept_in : Shape → Registers → (first j : ℕ) → Kept
kept_in s k v j = record {
  value = if is_memorized s.storage then k (register_of s v j) else pos 0;
  pending = some_if (s.delayed && holds (k (flag_of s v j))) (k (pending_of s v j));
}

-- of so many elements from number j on
abbrev pub kept_from : Shape → Registers → (first j count : ℕ) → Store
kept_from s k v j zero = []
kept_from s k v j (suc n) = kept_in s k v j ∷ kept_from s k v (j + 1) n

-- the store that the registers from the first one on keep of a variable
abbrev pub store_in : Vars → (var : ℕ) → Registers → (first : ℕ) → Store
store_in vs x k v = kept_from (shape_in vs x) k v 0 (count_of vs x)

-- the value of an event isn't kept: it counts as 0
abbrev pub plain_kept : Storage → Kept → Kept
plain_kept Mem k = k
plain_kept Event k = record k { value = pos 0 }

abbrev pub plain_store : Vars → (var : ℕ) → Store → Store
plain_store vs x s = map (plain_kept (storage_of vs x)) s

-- a term in whose stores no event's value is kept
abbrev mutual
  pub plain : Vars → Term → Term
  plain vs nothing = nothing
  plain vs pause = pause
  plain vs (write x i e d p q) = write x i e d p q
  plain vs (choose c a b) = choose c (plain vs a) (plain vs b)
  plain vs (seq ts) = seq (plain_all vs ts)
  plain vs (par ts) = par (plain_all vs ts)
  plain vs (loop t c) = loop (plain vs t) c
  plain vs (abort weak immediate t c) = abort weak immediate (plain vs t) c
  plain vs (suspend weak immediate t c) = suspend weak immediate (plain vs t) c
  plain vs (scope x s t) = scope x (option_map (plain_store vs x) s) (plain vs t)

  pub plain_all : Vars → Terms → Terms
  plain_all vs none = none
  plain_all vs (part t ts) = part (plain vs t) (plain_all vs ts)

-- ---- terms

-- what is left of a statement with a label that is 1; its labels begin with number l, and its registers with number v
abbrev mutual
  pub at : Vars → Marks → Registers → (l v : ℕ) → Term → Term
  at vs m k l v nothing = nothing
  at vs m k l v pause = nothing
  at vs m k l v (write _ _ _ _ _ _) = nothing
  at vs m k l v (choose c a b) = if some m l (labels a) then at vs m k l v a else at vs m k (l + labels a) (v + registers vs a) b
  at vs m k l v (seq ts) = at_in_turn vs m k l v ts
  at vs m k l v (par ts) = par (at_each vs m k l v ts)
  at vs m k l v (loop t c) = seq (part (at vs m k l v t) (part (choose c (loop t c) nothing) none))
  at vs m k l v (abort weak _ t c) = abort weak true (at vs m k l v t) c
  at vs m k l v (suspend weak false t c) = suspend weak true (at vs m k l v t) c
  at vs m k l v (suspend weak true t c) = suspend weak true (if m l then t else at vs m k (l + 1) v t) c
  at vs m k l v (scope x _ t) = scope x (Some (store_in vs x k v)) (at vs m k l (v + scope_registers vs (labels t) x) t)

  -- the part with a label that is 1, and the parts behind it
  pub at_in_turn : Vars → Marks → Registers → (l v : ℕ) → Terms → Term
  at_in_turn vs m k l v none = nothing
  at_in_turn vs m k l v (part t ts) =
      if some m l (labels t) then sequence (at vs m k l v t) ts else at_in_turn vs m k (l + labels t) (v + registers vs t) ts

  -- each part, which is Nothing without a label that is 1
  pub at_each : Vars → Marks → Registers → (l v : ℕ) → Terms → Terms
  at_each vs m k l v none = none
  at_each vs m k l v (part t ts) =
      part (if some m l (labels t) then at vs m k l v t else nothing) (at_each vs m k (l + labels t) (v + registers vs t) ts)

-- two labels that are 1 lie in different parts of a parallel
abbrev mutual
  pub AtOne : Marks → (l : ℕ) → Term → Type 0
  AtOne m l nothing = Unit {0}
  AtOne m l pause = Unit {0}
  AtOne m l (write _ _ _ _ _ _) = Unit {0}
  AtOne m l (choose _ a b) = ((some m l (labels a) && some m (l + labels a) (labels b)) ≡ false) × AtOne m l a × AtOne m (l + labels a) b
  AtOne m l (seq ts) = AtOneInTurn m l ts
  AtOne m l (par ts) = AtOneEach m l ts
  AtOne m l (loop t _) = AtOne m l t
  AtOne m l (abort _ _ t _) = AtOne m l t
  AtOne m l (suspend _ false t _) = AtOne m l t
  AtOne m l (suspend _ true t _) = ((m l && some m (l + 1) (labels t)) ≡ false) × AtOne m (l + 1) t
  AtOne m l (scope _ _ t) = AtOne m l t

  pub AtOneInTurn : Marks → (l : ℕ) → Terms → Type 0
  AtOneInTurn m l none = Unit {0}
  AtOneInTurn m l (part t ts) = ((some m l (labels t) && some m (l + labels t) (labels_all ts)) ≡ false) × AtOne m l t × AtOneInTurn m (l + labels t) ts

  pub AtOneEach : Marks → (l : ℕ) → Terms → Type 0
  AtOneEach m l none = Unit {0}
  AtOneEach m l (part t ts) = AtOne m l t × AtOneEach m (l + labels t) ts
