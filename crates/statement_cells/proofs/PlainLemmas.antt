-- Terms without stores and terms that labels and registers stand for: no event's value is kept in them.
use Rattle.std.proofs.Common.{◌≡◌, ℕ, zero, suc, ◌+◌, pos, Bool, true, false, ◌∷◌, Some, None, refl, sym, ap, ap₂, ◌∙◌}
use Rattle.std.specs.Prelude.{map, if◌then◌else◌}
use Rattle.quartz_tree.specs.declared.declare.Storage.{Storage}
use Rattle.quartz_tree.specs.declared.declare.Storage.TheVariants.{Mem, Event}
use Rattle.quartz_expr.specs.Vars.{Vars}
use Rattle.quartz_expr.specs.Terms.{Term, nothing, pause, write, choose, seq, par, loop, abort, suspend, scope, Terms, none, part, is_fresh, are_fresh}
use Rattle.quartz_expr.specs.Tick.{tick, tick_all}
use Rattle.quartz_expr.specs.React.{sequence}
use Rattle.quartz_expr.proofs.LawLemmas.{tick_fresh}
use Rattle.absence_reaction.specs.declared.copy.Shape.{Shape}
use Rattle.absence_reaction.specs.Closing.{register_of}
use Rattle.quartz_tree.specs.Storage.{is_memorized}
use Rattle.statement_cells.specs.Labels.{labels, registers, scope_registers, shape_in}
use Rattle.statement_cells.specs.Stands.{Marks, Registers, some, plain, plain_all, plain_kept, plain_store, kept_in, kept_from, store_in, at, at_in_turn, at_each}
use Rattle.statement_cells.specs.Sound.{IsSound, AreSound}
use Rattle.quartz_expr.proofs.TruthLemmas.{and_intro, and_left, and_right}

-- ---- terms without stores

mutual
  -- a sound statement has no stores
  pub sound_fresh : (vs : Vars) (t : Term) → IsSound vs t → is_fresh t ≡ true
  sound_fresh vs nothing h = refl
  sound_fresh vs pause h = refl
  sound_fresh vs (write x i e d p q) h = refl
  sound_fresh vs (choose c a b) h = and_intro (is_fresh a) (is_fresh b) (sound_fresh vs a h.1) (sound_fresh vs b h.2)
  sound_fresh vs (seq ts) h = sound_fresh_all vs ts h
  sound_fresh vs (par ts) h = sound_fresh_all vs ts h
  sound_fresh vs (loop t c) h = sound_fresh vs t h.2
  sound_fresh vs (abort w i t c) h = sound_fresh vs t h.1
  sound_fresh vs (suspend w i t c) h = sound_fresh vs t h.1
  sound_fresh vs (scope x None t) h = sound_fresh vs t h.3
  sound_fresh vs (scope x (Some s) t) h = absurd h.1

  pub sound_fresh_all : (vs : Vars) (ts : Terms) → AreSound vs ts → are_fresh ts ≡ true
  sound_fresh_all vs none h = refl
  sound_fresh_all vs (part t ts) h = and_intro (is_fresh t) (are_fresh ts) (sound_fresh vs t h.0) (sound_fresh_all vs ts h.1)

mutual
  -- a term without stores is plain
  pub plain_fresh : (vs : Vars) (t : Term) → is_fresh t ≡ true → plain vs t ≡ t
  plain_fresh vs nothing f = refl
  plain_fresh vs pause f = refl
  plain_fresh vs (write x i e d p q) f = refl
  plain_fresh vs (choose c a b) f = ap₂ (choose c) (plain_fresh vs a (and_left (is_fresh a) (is_fresh b) f)) (plain_fresh vs b (and_right (is_fresh a) (is_fresh b) f))
  plain_fresh vs (seq ts) f = ap seq (plain_fresh_all vs ts f)
  plain_fresh vs (par ts) f = ap par (plain_fresh_all vs ts f)
  plain_fresh vs (loop t c) f = ap (λ u. loop u c) (plain_fresh vs t f)
  plain_fresh vs (abort w i t c) f = ap (λ u. abort w i u c) (plain_fresh vs t f)
  plain_fresh vs (suspend w i t c) f = ap (λ u. suspend w i u c) (plain_fresh vs t f)
  plain_fresh vs (scope x None t) f = ap (λ u. scope x None u) (plain_fresh vs t f)
  plain_fresh vs (scope x (Some s) t) f = absurd (cc)

  pub plain_fresh_all : (vs : Vars) (ts : Terms) → are_fresh ts ≡ true → plain_all vs ts ≡ ts
  plain_fresh_all vs none f = refl
  plain_fresh_all vs (part t ts) f = ap₂ part (plain_fresh vs t (and_left (is_fresh t) (are_fresh ts) f)) (plain_fresh_all vs ts (and_right (is_fresh t) (are_fresh ts) f))

-- nothing advances in parts without stores
pub tick_all_fresh : (vs : Vars) (ts : Terms) → are_fresh ts ≡ true → tick_all vs ts ≡ ts
tick_all_fresh vs none f = refl
tick_all_fresh vs (part t ts) f = ap₂ part (tick_fresh vs t (and_left (is_fresh t) (are_fresh ts) f)) (tick_all_fresh vs ts (and_right (is_fresh t) (are_fresh ts) f))

-- a term without stores is plain after a step without writes too
pub plain_tick_fresh : (vs : Vars) (t : Term) → is_fresh t ≡ true → plain vs (tick vs t) ≡ t
plain_tick_fresh vs t f = ap (plain vs) (tick_fresh vs t f) ∙ plain_fresh vs t f

-- ---- sequences

pub plain_sequence : (vs : Vars) (t : Term) (ts : Terms) → are_fresh ts ≡ true → plain vs (sequence t ts) ≡ sequence (plain vs t) ts
plain_sequence vs t none f = refl
plain_sequence vs t (part u us) f = ap (λ ws. seq (part (plain vs t) ws)) (plain_fresh_all vs (part u us) f)

pub tick_sequence : (vs : Vars) (t : Term) (ts : Terms) → are_fresh ts ≡ true → tick vs (sequence t ts) ≡ sequence (tick vs t) ts
tick_sequence vs t none f = refl
tick_sequence vs t (part u us) f = ap (λ ws. seq (part (tick vs t) ws)) (tick_all_fresh vs (part u us) f)

-- ---- terms that labels and registers stand for

plain_kept_in : (s : Shape) (k : Registers) (v j : ℕ) → plain_kept s.storage (kept_in s k v j) ≡ kept_in s k v j
plain_kept_in s k v j = by_storage s.storage refl
  where
    by_storage : (z : Storage) → s.storage ≡ z → plain_kept s.storage (kept_in s k v j) ≡ kept_in s k v j
    by_storage Mem e = ap (λ z. plain_kept z (kept_in s k v j)) e
    by_storage Event e =
        ap (λ z. plain_kept z (kept_in s k v j)) e
        ∙ (λ i. record (kept_in s k v j) { value = ap (λ z. if is_memorized z then k (register_of s v j) else pos 0) (sym e) i })

plain_kept_from : (s : Shape) (k : Registers) (v j n : ℕ) → map (plain_kept s.storage) (kept_from s k v j n) ≡ kept_from s k v j n
plain_kept_from s k v j zero = refl
plain_kept_from s k v j (suc n) = ap₂ (λ a ks. a ∷ ks) (plain_kept_in s k v j) (plain_kept_from s k v (j + 1) n)

-- in the store that registers keep no event has a value
pub plain_store_in : (vs : Vars) (x : ℕ) (k : Registers) (v : ℕ) → plain_store vs x (store_in vs x k v) ≡ store_in vs x k v
plain_store_in vs x k v = plain_kept_from (shape_in vs x) k v 0 _

plain_if : (vs : Vars) (b : Bool) (t u : Term) → plain vs (if b then t else u) ≡ (if b then plain vs t else plain vs u)
plain_if vs true t u = refl
plain_if vs false t u = refl

module _ (vs : Vars) (m : Marks) (k : Registers) where
  mutual
    -- what is left of a statement without stores is plain
    pub plain_at : (s : Term) (l v : ℕ) → is_fresh s ≡ true → plain vs (at vs m k l v s) ≡ at vs m k l v s
    plain_at nothing l v f = refl
    plain_at pause l v f = refl
    plain_at (write x i e d p q) l v f = refl
    plain_at (choose c a b) l v f =
        plain_if vs (some m l (labels a)) _ _
        ∙ ap₂ (λ t u. if some m l (labels a) then t else u) (plain_at a l v (and_left (is_fresh a) (is_fresh b) f)) (plain_at b (l + labels a) (v + registers vs a) (and_right (is_fresh a) (is_fresh b) f))
    plain_at (seq ts) l v f = plain_at_in_turn ts l v f
    plain_at (par ts) l v f = ap par (plain_at_each ts l v f)
    plain_at (loop t c) l v f = ap₂ (λ u w. seq (part u (part (choose c (loop w c) nothing) none))) (plain_at t l v f) (plain_fresh vs t f)
    plain_at (abort w i t c) l v f = ap (λ u. abort w true u c) (plain_at t l v f)
    plain_at (suspend w false t c) l v f = ap (λ u. suspend w true u c) (plain_at t l v f)
    plain_at (suspend w true t c) l v f =
        ap (λ u. suspend w true u c) (plain_if vs (m l) _ _ ∙ ap₂ (λ t u. if m l then t else u) (plain_fresh vs t f) (plain_at t (l + 1) v f))
    plain_at (scope x None t) l v f = ap₂ (λ s u. scope x (Some s) u) (plain_store_in vs x k v) (plain_at t l (v + scope_registers vs (labels t) x) f)
    plain_at (scope x (Some s) t) l v f = absurd (cc)

    pub plain_at_in_turn : (ts : Terms) (l v : ℕ) → are_fresh ts ≡ true → plain vs (at_in_turn vs m k l v ts) ≡ at_in_turn vs m k l v ts
    plain_at_in_turn none l v f = refl
    plain_at_in_turn (part t ts) l v f =
        plain_if vs (some m l (labels t)) _ _
        ∙ ap₂ (λ y z. if some m l (labels t) then y else z)
        (plain_sequence vs (at vs m k l v t) ts (and_right (is_fresh t) (are_fresh ts) f) ∙ ap (λ u. sequence u ts) (plain_at t l v (and_left (is_fresh t) (are_fresh ts) f)))
        (plain_at_in_turn ts (l + labels t) (v + registers vs t) (and_right (is_fresh t) (are_fresh ts) f))

    pub plain_at_each : (ts : Terms) (l v : ℕ) → are_fresh ts ≡ true → plain_all vs (at_each vs m k l v ts) ≡ at_each vs m k l v ts
    plain_at_each none l v f = refl
    plain_at_each (part t ts) l v f =
        ap₂ part (plain_if vs (some m l (labels t)) _ _ ∙ ap (λ y. if some m l (labels t) then y else nothing) (plain_at t l v (and_left (is_fresh t) (are_fresh ts) f)))
        (plain_at_each ts (l + labels t) (v + registers vs t) (and_right (is_fresh t) (are_fresh ts) f))
