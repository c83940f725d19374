-- The conditions of typed modules are truth values, by the rule of kinds.
use Rattle.std.proofs.Common.{◌≡◌, ℕ, Bool, true, false, List, [], ◌++◌, Option, Some, None, refl, sym, ap, ◌∙◌, subst}
use Rattle.std.specs.Prelude.{not}
use Rattle.quartz_tree.specs.declared.place.Place.{Place}
use Rattle.quartz_tree.specs.Kernel.{Kernel, Kernels, kernel as kernel_of, nothing, pause, write, choose, seq, par, loop, guard, local, none, part}
use Rattle.quartz_tree.specs.Least.{least_place}
use Rattle.quartz_tree.specs.Tree.{Tree, place_of}
use Rattle.quartz_expr.specs.Vars.{Vars}
use Rattle.quartz_expr.specs.declared.kind.ExprKind.{ExprKind as Kind}
use Rattle.quartz_expr.specs.declared.kind.ExprKind.TheVariants.{Boolean as boolean, Numeric as numeric, Vector as vector}
use Rattle.quartz_expr.specs.Kinds.{is_boolean, kind, kind_breaks}
use Rattle.quartz_expr.specs.Terms.{term_of, terms_of}
use Rattle.quartz_expr.specs.Typed.{IsTyped}
use Rattle.quartz_expr.proofs.TruthLemmas.{none_left}
use Rattle.quartz_expr.proofs.TypingLemmas.{kept, typed_of}
use Rattle.quartz_names.proofs.NumberedLemmas.{no_place}
use Rattle.quartz_types.specs.Rules.{condition_kind_breaks, constant_kind_breaks, first_break, is_condition, module_kind_breaks, stmt_kind_breaks, stmts_kind_breaks, with_rule}
use Rattle.statement_cells.specs.Sound.{AreSound, IsSound}
use Rattle.typed_terms.proofs.TypedLemmas.{typed_is_sound}
use Rattle.step_laws.specs.Conditions.{HasConditions, HaveConditions, IsCondition}
use Rattle.step_laws.specs.Laws.{TypedModulesHaveConditions}

is_bool : (k : Kind) → is_boolean k ≡ true → k ≡ boolean
is_bool boolean e = refl
is_bool numeric e = absurd (cc)
is_bool (vector n) e = absurd (cc)

module _ (vs : Vars) where
  -- a typed condition that breaks no rule of kinds
  condition : (c : Tree ℕ) → IsTyped vs c → condition_kind_breaks vs c ≡ [] → IsCondition vs c
  condition c t e =
      let d = typed_of vs c t.over t.written t.kinds t.bounds in
      let fine : is_condition (kind vs c) ≡ true = kept (is_condition (kind vs c)) (place_of c) (none_left (kind_breaks vs c) _ e).1 in
      d.1 ∙ ap (λ k. Some k) (is_bool d.0 (subst (λ o. is_condition o ≡ true) d.1 fine))

  mutual
    conditions : (k : Kernel) → IsSound vs (term_of k) → stmt_kind_breaks vs k ≡ [] → HasConditions vs (term_of k)
    conditions nothing h e = tt
    conditions pause h e = tt
    conditions (write x i v d p q) h e = tt
    conditions (choose c a b) h e =
        let f = none_left (condition_kind_breaks vs c) _ e in
        let g = none_left (stmt_kind_breaks vs a) _ f.1 in
        (condition c h.0 f.0, conditions a h.1 g.0, conditions b h.2 g.1)
    conditions (seq ks) h e = all_conditions ks h e
    conditions (par ks) h e = all_conditions ks h e
    conditions (loop k c p) h e = let f = none_left (stmt_kind_breaks vs k) _ e in (condition c h.1 f.1, conditions k h.2 f.0)
    conditions (guard true weak immediate k c) h e = let f = none_left (stmt_kind_breaks vs k) _ e in (condition c h.0 f.1, conditions k h.1 f.0)
    conditions (guard false weak immediate k c) h e = let f = none_left (stmt_kind_breaks vs k) _ e in (condition c h.0 f.1, conditions k h.1 f.0)
    conditions (local x k) h e = conditions k h.3 e

    all_conditions : (ks : Kernels) → AreSound vs (terms_of ks) → stmts_kind_breaks vs ks ≡ [] → HaveConditions vs (terms_of ks)
    all_conditions none h e = tt
    all_conditions (part k ks) h e = let f = none_left (stmt_kind_breaks vs k) _ e in (conditions k h.0 f.0, all_conditions ks h.1 f.1)

no_rule : (r : ℕ) (ps : List Place) (later : Option (ℕ × Place)) → with_rule r (least_place ps) later ≡ None → ps ≡ []
no_rule r ps later e = either (least_place ps) refl e
  where
    either : (o : Option Place) → least_place ps ≡ o → with_rule r o later ≡ None → ps ≡ []
    either None f e = no_place ps f
    either (Some p) f e = absurd (cc)

pub typed_conditions : TypedModulesHaveConditions
typed_conditions t =
    let vs : Vars = t.resolved.vars in
    let k : Kernel = kernel_of t.resolved.body in
    conditions vs k (typed_is_sound t).sound (none_left (constant_kind_breaks vs) _ (no_rule 4 (module_kind_breaks vs k) _ t.sound)).1
