-- Numbers that are 0 or 1: truth values, what lies from 0 to 1, and the values of conditions.
use Rattle.std.proofs.Common.{◌≡◌, inl, inr, ℕ, zero, suc, ℤ, pos, negsuc, Bool, true, false, Some, refl, sym, ◌∙◌, subst, arith}
use Rattle.std.proofs.lemmas.Int.{ints}
use Rattle.quartz_tree.specs.Tree.{Tree as Expr}
use Rattle.quartz_expr.specs.Values.{Values, of_bool}
use Rattle.quartz_expr.specs.Vars.{Vars}
use Rattle.quartz_expr.specs.declared.kind.ExprKind.{ExprKind as Kind}
use Rattle.quartz_expr.specs.declared.kind.ExprKind.TheVariants.{Boolean as boolean}
use Rattle.quartz_expr.specs.Kinds.{is_numeric}
use Rattle.quartz_expr.specs.Value.{value}
use Rattle.quartz_expr.specs.Intervals.{Lies, kind_interval, span}
use Rattle.quartz_expr.specs.Typed.{AreSound, Fits, IsTyped}
use Rattle.quartz_expr.proofs.TypingLemmas.{typed_of}
use Rattle.quartz_expr.proofs.WithinLemmas.{sound}
use Rattle.absence_reaction.specs.Meaning.{IsBit}
use Rattle.step_laws.specs.Conditions.{IsCondition}

pub bool_bit : (b : Bool) → IsBit (of_bool b)
bool_bit true = inr refl
bool_bit false = inl refl

pub lies_bit : (z : ℤ) → Lies (span (pos 0) (pos 1)) z → IsBit z
lies_bit (pos zero) h = inl refl
lies_bit (pos (suc zero)) h = inr refl
lies_bit (pos (suc (suc n))) h = absurd (omega (arith, ints, h.below))
lies_bit (negsuc n) h = absurd (omega (arith, ints, h.above))

same_kinds : {k m : Kind} → Some k ≡ Some m → k ≡ m
same_kinds e = cc

-- the value of a typed condition
pub condition_bit : (vs : Vars) (env : Values) (c : Expr ℕ) → AreSound vs → IsTyped vs c → IsCondition vs c → Fits vs env → IsBit (value vs env c)
condition_bit vs env c types t is fits =
    let d = typed_of vs c t.over t.written t.kinds t.bounds in
    let same : d.0 ≡ boolean = same_kinds (sym d.1 ∙ is) in
    let plain : is_numeric d.0 ≡ false = subst (λ k. is_numeric k ≡ false) (sym same) refl in
    lies_bit (value vs env c) (subst (λ k. Lies (kind_interval (Some k)) (value vs env c)) same ((sound vs env types.types fits c d.0 d.2).as_bits plain))
