-- Environments that fit, one variable after another.
use Rattle.std.proofs.Common.{◌≡◌, ◌<◌, ◌≤◌, ◌+◌, ℕ, zero, suc, nat_lt, Bool, true, false, slice_get, ℤ, List, [], ◌∷◌, length, get_or, drop, Some, unwrap_or, refl, sym, ap, ◌∙◌, subst, arith}
use Rattle.std.proofs.lemmas.Bool.Decides.{nat_tests}
use Rattle.quartz_tree.specs.declared.declare.Var.{Var}
use Rattle.quartz_expr.specs.Values.{Values, elements_in}
use Rattle.quartz_expr.specs.Vars.{Vars, count_of}
use Rattle.quartz_expr.specs.Intervals.{Interval, Lies, range_of, type_interval}
use Rattle.quartz_expr.specs.Typed.{AllLie, Fits}

-- what fits of the first variables
pub record FitsUpto (vs : Vars) (env : Values) (n : ℕ) : Type 0 where
  pub counts : (x : ℕ) → x < n → length (elements_in env x) ≡ count_of vs x
  pub ranges : (x : ℕ) → x < n → AllLie (range_of vs x) (elements_in env x)

range_at : (vs : Vars) (n : ℕ) (v : Var) → slice_get vs n ≡ Some v → range_of vs n ≡ type_interval v.decl.ty
range_at [] n v h = absurd (cc)
range_at (w ∷ vs) zero v h = let same : w ≡ v = cc in ap (λ (u : Var). type_interval u.decl.ty) same
range_at (w ∷ vs) (suc n) v h = range_at vs n v h

count_at : (vs : Vars) (n : ℕ) (v : Var) → slice_get vs n ≡ Some v → count_of vs n ≡ unwrap_or v.decl.ty.len 1
count_at [] n v h = absurd (cc)
count_at (w ∷ vs) zero v h = let same : w ≡ v = cc in ap (λ (u : Var). unwrap_or u.decl.ty.len 1) same
count_at (w ∷ vs) (suc n) v h = count_at vs n v h

got : (vs : Vars) (n : ℕ) (v : Var) → slice_get vs n ≡ Some v → n < length vs
got [] n v h = absurd (cc)
got (w ∷ vs) zero v h = omega arith
got (w ∷ vs) (suc n) v h = let less = got vs n v h in omega (arith, less)

pub fits_none : (vs : Vars) (env : Values) → FitsUpto vs env 0
fits_none vs env = record { counts = λ x h. absurd (omega (arith, h)); ranges = λ x h. absurd (omega (arith, h)) }

-- for a number below n + 1: it is below n, or n
below_more : (P : ℕ → Type 0) (n : ℕ) → ((x : ℕ) → x < n → P x) → P n → (x : ℕ) → x < n + 1 → P x
below_more P n f p x h = at (nat_lt x n) refl
  where
    at : (b : Bool) → nat_lt x n ≡ b → P x
    at true e = f x (grind (arith, nat_tests, e))
    at false e = let same : n ≡ x = grind (arith, nat_tests, e, h) in subst P same p

pub fits_more : (vs : Vars) (env : Values) (n : ℕ) (v : Var) → FitsUpto vs env n → slice_get vs n ≡ Some v → length (elements_in env n) ≡ unwrap_or v.decl.ty.len 1
    → AllLie (type_interval v.decl.ty) (elements_in env n) → FitsUpto vs env (n + 1)
fits_more vs env n v h e c r = record {
  counts = below_more (λ x. length (elements_in env x) ≡ count_of vs x) n h.counts (c ∙ sym (count_at vs n v e));
  ranges = below_more (λ x. AllLie (range_of vs x) (elements_in env x)) n h.ranges (subst (λ (i : Interval). AllLie i (elements_in env n)) (sym (range_at vs n v e)) r);
}

pub fits_all : (vs : Vars) (env : Values) (n : ℕ) → FitsUpto vs env n → length vs ≤ n → Fits vs env
fits_all vs env n h e = record { counts = λ x k. h.counts x (omega (arith, k, e)); ranges = λ x k. h.ranges x (omega (arith, k, e)) }

-- what fits of a variable, if all do
pub fits_at : (vs : Vars) (env : Values) (n : ℕ) (v : Var) → Fits vs env → slice_get vs n ≡ Some v → (length (elements_in env n) ≡ unwrap_or v.decl.ty.len 1) × AllLie (type_interval v.decl.ty) (elements_in env n)
fits_at vs env n v h e =
    let less = got vs n v e in
    (h.counts n less ∙ count_at vs n v e, subst (λ (i : Interval). AllLie i (elements_in env n)) (range_at vs n v e) (h.ranges n less))
