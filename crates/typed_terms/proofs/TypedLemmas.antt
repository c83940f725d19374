-- The body of a typed module can be compiled.
use Rattle.std.proofs.Common.{◌≡◌, ℕ, zero, suc, ◌<◌, ◌^◌, ℤ, Bool, true, false, List, [], ◌∷◌, ◌++◌, length, Option, Some, None, refl, arith}
use Rattle.std.specs.Prelude.{not, ◌&&◌, nat_lt, is_some, unwrap_or}
use Rattle.std.proofs.lemmas.Int.{ints}
use Rattle.std.proofs.lemmas.Bool.Decides.{nat_tests}
use Rattle.quartz_tree.specs.declared.declare.Decl.{Decl}
use Rattle.quartz_tree.specs.declared.place.Place.{Place}
use Rattle.quartz_tree.specs.Kernel.{Kernel, Kernels, kernel as kernel_of, nothing, pause, write, choose, seq, par, loop, guard, local, none, part}
use Rattle.quartz_tree.specs.Least.{least_place}
use Rattle.quartz_tree.specs.Tree.{Tree, place_of}
use Rattle.quartz_expr.specs.Vars.{Vars, is_array, length_of, start_of}
use Rattle.quartz_expr.specs.Kinds.{kind, kind_breaks, place_if}
use Rattle.quartz_expr.specs.Intervals.{Interval, Lies, bound_breaks, is_in, is_sound_base, is_sound_type, range_of, type_breaks, type_interval}
use Rattle.quartz_expr.specs.Typed.{IsTyped, have_sound_types, is_over}
use Rattle.quartz_expr.specs.Terms.{is_instant, term_of, terms_of}
use Rattle.quartz_expr.proofs.TypingLemmas.{written_of, not_broken}
use Rattle.quartz_names.specs.Numbered.{are_marked, index_is_over, is_numbered, starts_lie, stmt_is_over, stmts_are_over}
use Rattle.quartz_names.specs.Targets.{all_next_targets, next_targets}
use Rattle.quartz_names.proofs.NumberedLemmas.{no_place, resolved_is_numbered}
use Rattle.quartz_types.specs.Rules.{all_instant_loops, condition_kind_breaks, constant_kind_breaks, index_bound_breaks, target_kind_breaks, declared_bound_breaks, first_break, input_writes, instant_loops, is_condition, module_bound_breaks, module_kind_breaks, stmt_bound_breaks, stmt_kind_breaks, stmts_bound_breaks, stmts_kind_breaks, with_rule}
use Rattle.statement_cells.specs.Labels.{is_delayed}
use Rattle.statement_cells.specs.Meaning.{IsSoundModule}
use Rattle.statement_cells.specs.Sound.{AreSound, IsSound, IsTypedIndex}
use Rattle.typed_terms.specs.Laws.{TypedBodiesAreSound}
use Rattle.quartz_expr.proofs.TruthLemmas.{and_parts, and_intro, none_left}
use Rattle.quartz_expr.proofs.RangeLemmas.{in_lies}

-- ---- no rule is broken

not_false : (b : Bool) → not b ≡ false → b ≡ true
not_false true e = refl
not_false false e = absurd (cc)

-- ---- variables

start_in : (vs : Vars) (x : ℕ) → starts_lie vs ≡ true → x < length vs → Lies (range_of vs x) (start_of vs x)
start_in [] x e h = absurd (omega (arith, h))
start_in (v ∷ vs) zero e h = in_lies (type_interval v.decl.ty) v.start (and_parts _ _ e).0
start_in (v ∷ vs) (suc x) e h = start_in vs x (and_parts (is_in (type_interval v.decl.ty) v.start) _ e).1 (omega (arith, h))

sound_type : (d : Decl) → type_breaks d ≡ [] → is_sound_type d.ty ≡ true
sound_type d e =
    let f = none_left (place_if (not (is_sound_base d.ty.base)) d.base_place) _ e in
    let base = not_false _ (not_broken _ _ f.0) in
    let size = not_false _ (not_broken _ _ f.1) in
    and_intro _ _ base size

sound_types : (vs : Vars) → declared_bound_breaks vs ≡ [] → have_sound_types vs ≡ true
sound_types [] e = refl
sound_types (v ∷ vs) e =
    let f = none_left _ (declared_bound_breaks vs) e in
    let head = sound_type v.decl (none_left (type_breaks v.decl) _ f.0).0 in
    and_intro _ _ head (sound_types vs f.1)

-- ---- expressions

module _ (vs : Vars) where
  typed : (e : Tree ℕ) → is_over (length vs) e ≡ true → kind_breaks vs e ≡ [] → bound_breaks vs e ≡ [] → IsTyped vs e
  typed e over kinds bounds = record { over = over; written = written_of vs e bounds; kinds = kinds; bounds = bounds }

  condition : (c : Tree ℕ) → is_over (length vs) c ≡ true → kind_breaks vs c ++ place_if (not (is_condition (kind vs c))) (place_of c) ≡ [] → bound_breaks vs c ≡ [] → IsTyped vs c
  condition c over kinds bounds = typed c over (none_left (kind_breaks vs c) _ kinds).0 bounds

  one_element : (o : Option ℕ) → is_some o ≡ false → unwrap_or o 1 ≡ 1
  one_element None e = refl
  one_element (Some n) e = absurd (cc)

  index_typed : (x : ℕ) (i : Option (Tree ℕ)) (q : Place) → index_is_over (length vs) i ≡ true → target_kind_breaks vs x i q ≡ [] → index_bound_breaks vs i ≡ [] → IsTypedIndex vs x i
  index_typed x None q over kinds bounds = one_element (length_of vs x) (not_broken (is_array vs x) q kinds)
  index_typed x (Some i) q over kinds bounds =
      let f = none_left (place_if (not (is_array vs x)) q) _ kinds in
      typed i over (none_left (kind_breaks vs i) _ f.1).0 bounds

  target_marked : (x : ℕ) (i : Option (Tree ℕ)) (e : Tree ℕ) (d : Bool) (p q : Place) → are_marked vs (next_targets (write x i e d p q)) ≡ true → d ≡ true → is_delayed vs x ≡ true
  target_marked x i e true p q marked h = (and_parts (is_delayed vs x) true marked).0
  target_marked x i e false p q marked h = absurd (cc)

  marked_both : (xs ys : List ℕ) → are_marked vs (xs ++ ys) ≡ true → (are_marked vs xs ≡ true) × (are_marked vs ys ≡ true)
  marked_both [] ys e = (refl, e)
  marked_both (x ∷ xs) ys e =
      let f = and_parts (is_delayed vs x) _ e in
      let g = marked_both xs ys f.1 in
      (rw (f.0) g.0, g.1)

  module _ (starts : starts_lie vs ≡ true) where
    mutual
      sound_stmt : (k : Kernel) → stmt_is_over (length vs) k ≡ true → stmt_kind_breaks vs k ≡ [] → stmt_bound_breaks vs k ≡ [] → instant_loops k ≡ [] → are_marked vs (next_targets k) ≡ true → IsSound vs (term_of k)
      sound_stmt nothing over kinds bounds loops marked = tt
      sound_stmt pause over kinds bounds loops marked = tt
      sound_stmt (write x i e d p q) over kinds bounds loops marked =
          let o = and_parts (nat_lt x (length vs)) _ over in
          let o2 = and_parts (index_is_over (length vs) i) _ o.1 in
          let k = none_left (target_kind_breaks vs x i q) _ kinds in
          let k2 = none_left (kind_breaks vs e) _ k.1 in
          let b = none_left (index_bound_breaks vs i) _ bounds in
          let named : nat_lt x (length vs) ≡ true = o.0 in
          (grind (arith, nat_tests, named), index_typed x i q o2.0 k.0 b.0, typed e o2.1 k2.0 b.1, target_marked x i e d p q marked)
      sound_stmt (choose c a b) over kinds bounds loops marked =
          let o = and_parts (is_over (length vs) c) _ over in
          let o2 = and_parts (stmt_is_over (length vs) a) _ o.1 in
          let k = none_left (condition_kind_breaks vs c) _ kinds in
          let k2 = none_left (stmt_kind_breaks vs a) _ k.1 in
          let d = none_left (bound_breaks vs c) _ bounds in
          let d2 = none_left (stmt_bound_breaks vs a) _ d.1 in
          let l = none_left (instant_loops a) _ loops in
          let m = marked_both (next_targets a) (next_targets b) marked in
          (condition c o.0 k.0 d.0, sound_stmt a o2.0 k2.0 d2.0 l.0 m.0, sound_stmt b o2.1 k2.1 d2.1 l.1 m.1)
      sound_stmt (seq ks) over kinds bounds loops marked = sound_stmts ks over kinds bounds loops marked
      sound_stmt (par ks) over kinds bounds loops marked = sound_stmts ks over kinds bounds loops marked
      sound_stmt (loop k c p) over kinds bounds loops marked =
          let o = and_parts (stmt_is_over (length vs) k) _ over in
          let f = none_left (stmt_kind_breaks vs k) _ kinds in
          let d = none_left (stmt_bound_breaks vs k) _ bounds in
          let l = none_left (place_if (is_instant (term_of k)) p) _ loops in
          (not_broken _ p l.0, condition c o.1 f.1 d.1, sound_stmt k o.0 f.0 d.0 l.1 marked)
      sound_stmt (guard true weak immediate k c) over kinds bounds loops marked =
          let o = and_parts (stmt_is_over (length vs) k) _ over in
          let f = none_left (stmt_kind_breaks vs k) _ kinds in
          let d = none_left (stmt_bound_breaks vs k) _ bounds in
          (condition c o.1 f.1 d.1, sound_stmt k o.0 f.0 d.0 loops marked)
      sound_stmt (guard false weak immediate k c) over kinds bounds loops marked =
          let o = and_parts (stmt_is_over (length vs) k) _ over in
          let f = none_left (stmt_kind_breaks vs k) _ kinds in
          let d = none_left (stmt_bound_breaks vs k) _ bounds in
          (condition c o.1 f.1 d.1, sound_stmt k o.0 f.0 d.0 loops marked)
      sound_stmt (local x k) over kinds bounds loops marked =
          let o = and_parts (nat_lt x (length vs)) _ over in
          let named : nat_lt x (length vs) ≡ true = o.0 in
          let less : x < length vs = grind (arith, nat_tests, named) in
          (less, tt, start_in vs x starts less, sound_stmt k o.1 kinds bounds loops marked)

      sound_stmts : (ks : Kernels) → stmts_are_over (length vs) ks ≡ true → stmts_kind_breaks vs ks ≡ [] → stmts_bound_breaks vs ks ≡ [] → all_instant_loops ks ≡ [] → are_marked vs (all_next_targets ks) ≡ true → AreSound vs (terms_of ks)
      sound_stmts none over kinds bounds loops marked = tt
      sound_stmts (part k ks) over kinds bounds loops marked =
          let o = and_parts (stmt_is_over (length vs) k) _ over in
          let f = none_left (stmt_kind_breaks vs k) _ kinds in
          let d = none_left (stmt_bound_breaks vs k) _ bounds in
          let l = none_left (instant_loops k) _ loops in
          let m = marked_both (next_targets k) (all_next_targets ks) marked in
          (sound_stmt k o.0 f.0 d.0 l.0 m.0, sound_stmts ks o.1 f.1 d.1 l.1 m.1)

-- ---- modules

no_rule : (r : ℕ) (ps : List Place) (later : Option (ℕ × Place)) → with_rule r (least_place ps) later ≡ None → (ps ≡ []) × (later ≡ None)
no_rule r ps later e = either (least_place ps) refl e
  where
    either : (o : Option Place) → least_place ps ≡ o → with_rule r o later ≡ None → (ps ≡ []) × (later ≡ None)
    either None f e = (no_place ps f, e)
    either (Some p) f e = absurd (cc)

pub sound_module : (vs : Vars) (k : Kernel) → is_numbered vs k ≡ true → first_break vs k ≡ None → IsSoundModule vs (term_of k)
sound_module vs k numbered unbroken =
    let r4 = no_rule 4 (module_kind_breaks vs k) _ unbroken in
    let r5 = no_rule 5 (module_bound_breaks vs k) _ r4.1 in
    let r6 = no_rule 6 (input_writes vs k) _ r5.1 in
    let r7 = no_rule 7 (instant_loops k) None r6.1 in
    let kinds = none_left (constant_kind_breaks vs) _ r4.0 in
    let bounds = none_left (declared_bound_breaks vs) _ r5.0 in
    let n = and_parts (nat_lt (length vs) (2 ^ 32)) _ numbered in
    let n2 = and_parts (starts_lie vs) _ n.1 in
    let n3 = and_parts (stmt_is_over (length vs) k) _ n2.1 in
    let small : nat_lt (length vs) (2 ^ 32) ≡ true = n.0 in
    record {
      types = record { few = grind (arith, nat_tests, small); types = sound_types vs bounds.0 };
      starts = λ x less. start_in vs x n2.0 less;
      sound = sound_stmt vs n2.0 k n3.0 kinds.1 bounds.1 r7.0 n3.1;
    }

pub typed_is_sound : TypedBodiesAreSound
typed_is_sound t = sound_module t.resolved.vars (kernel_of t.resolved.body) (resolved_is_numbered t.resolved t.origin) t.sound
