-- The types of elements are within their bounds.
use Rattle.std.proofs.Common.{◌≡◌, ◌<◌, ℕ, zero, suc, Bool, true, false, ◌&&◌, if◌then◌else◌, [], ◌∷◌, ◌++◌, length, get_or, ap, ◌∙◌, arith, All}
use Rattle.std.proofs.lemmas.List.Elements.{All-append, All-replicate}
use Rattle.quartz_tree.specs.declared.declare.Var.{Var}
use Rattle.quartz_tree.specs.declared.declare.Flow.{Flow}
use Rattle.quartz_expr.specs.Vars.{Vars}
use Rattle.quartz_expr.specs.Intervals.{is_sound_base, is_sound_length, is_sound_type}
use Rattle.quartz_expr.specs.Typed.{have_sound_types}
use Rattle.trace_io.specs.Inputs.{same_flow, scalars, count_in, types_with}
use Rattle.quartz_expr.proofs.TruthLemmas.{and_parts}

-- each variable of sound types has one
pub sound_at : (vs : Vars) (i : ℕ) (d : Var) → have_sound_types vs ≡ true → i < length vs → is_sound_type (get_or vs i d).decl.ty ≡ true
sound_at [] i d e h = absurd (omega (arith, h))
sound_at (v ∷ vs) zero d e h = (and_parts (is_sound_type v.decl.ty) (have_sound_types vs) e).0
sound_at (v ∷ vs) (suc i) d e h = sound_at vs i d (and_parts (is_sound_type v.decl.ty) (have_sound_types vs) e).1 (omega (arith, h))

-- a sound type has a sound base
pub base_sound : (v : Var) → is_sound_type v.decl.ty ≡ true → is_sound_base v.decl.ty.base ≡ true
base_sound v e = (and_parts (is_sound_base v.decl.ty.base) (is_sound_length v.decl.ty.len) e).0

-- one variable more
pub sound_pushed : (vs new : Vars) (v : Var) → new ≡ vs ++ (v ∷ []) → have_sound_types vs ≡ true → is_sound_type v.decl.ty ≡ true → have_sound_types new ≡ true
sound_pushed vs new v e s t = ap have_sound_types e ∙ behind vs s
  where
    behind : (vs : Vars) → have_sound_types vs ≡ true → have_sound_types (vs ++ (v ∷ [])) ≡ true
    behind [] s = ap (λ (b : Bool). b && true) t
    behind (w ∷ ws) s = step (is_sound_type w.decl.ty) s (behind ws)
      where
        step : (b : Bool) → (b && have_sound_types ws) ≡ true → (have_sound_types ws ≡ true → have_sound_types (ws ++ (v ∷ [])) ≡ true) → (b && have_sound_types (ws ++ (v ∷ []))) ≡ true
        step true s k = k s
        step false s k = absurd (cc s)

-- the types of the elements with a flow are sound
pub types_sound : (f : Flow) (vs : Vars) → have_sound_types vs ≡ true → All (λ b. is_sound_base b ≡ true) (types_with f vs)
types_sound f [] e = λ k d h. absurd (omega (arith, h))
types_sound f (v ∷ vs) e = step (same_flow f v.decl.flow) (types_sound f vs (and_parts (is_sound_type v.decl.ty) (have_sound_types vs) e).1)
  where
    step : (b : Bool) → All (λ b. is_sound_base b ≡ true) (types_with f vs) → All (λ b. is_sound_base b ≡ true) (if b then scalars v ++ types_with f vs else types_with f vs)
    step true k = All-append (λ b. is_sound_base b ≡ true) (scalars v) (types_with f vs) (All-replicate (λ b. is_sound_base b ≡ true) (count_in v) v.decl.ty.base (base_sound v (and_parts (is_sound_type v.decl.ty) (have_sound_types vs) e).0)) k
    step false k = k
