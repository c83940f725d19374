-- The copies inside a scope are current where its new value cells lie in their range.
use Rattle.std.proofs.Common.{◌≡◌, ℕ, zero, suc, ◌<◌, ◌==◌, ℤ, Bool, true, false, List, [], ◌∷◌, ◌++◌, length, map, refl, sym, ap, ◌∙◌, subst, arith}
use Rattle.std.specs.Prelude.{slice_set}
use Rattle.std.proofs.lemmas.Bool.Decides.{nat_tests}
use Rattle.quartz_expr.specs.Values.{Values, elements_in}
use Rattle.quartz_expr.specs.Vars.{Vars, count_of}
use Rattle.quartz_expr.specs.Intervals.{range_of}
use Rattle.quartz_expr.specs.Typed.{AllLie, Fits}
use Rattle.aif_cells.specs.declared.reference.Ref.TheVariants as ref
use Rattle.aif_cells.specs.Worth.{Assignment, read}
use Rattle.reincarnation.specs.Entering.{copies_of}
use Rattle.statement_cells.specs.Expressions.{Copies, env_of}
use Rattle.statement_cells.specs.Builder.{Builder, entering, new_cells, reserve, reserved_cells}
use Rattle.statement_cells.specs.Walk.{AllInRange, IsCurrent, cell_values}
use Rattle.statement_cells.proofs.ScopeEnvLemmas.{count_values, env_entering, length_map, length_set, ranges_second, values_lie}

set_here : (env : Values) (x : ℕ) (zs : List ℤ) → x < length env → elements_in (slice_set env x zs) x ≡ zs
set_here [] x zs h = absurd (omega (arith, h))
set_here (y ∷ env) zero zs h = refl
set_here (y ∷ env) (suc x) zs h = set_here env x zs (omega (arith, h))

set_other : (env : Values) (x y : ℕ) (zs : List ℤ) → (y == x) ≡ false → elements_in (slice_set env x zs) y ≡ elements_in env y
set_other [] x y zs h = refl
set_other (e ∷ env) zero zero zs h = absurd (cc)
set_other (e ∷ env) zero (suc y) zs h = refl
set_other (e ∷ env) (suc x) zero zs h = refl
set_other (e ∷ env) (suc x) (suc y) zs h = set_other env x y zs (step h)
  where
    step : (suc y == suc x) ≡ false → (y == x) ≡ false
    step h = grind (arith, nat_tests, h)

-- with values of one variable that lie in its range the environment fits
fits_set : (vs : Vars) (env : Values) (x : ℕ) (zs : List ℤ) → x < length env → length zs ≡ count_of vs x → AllLie (range_of vs x) zs → Fits vs env → Fits vs (slice_set env x zs)
fits_set vs env x zs less count lie f = record { counts = λ y l. counts y l (y == x) refl; ranges = λ y l. ranges y l (y == x) refl }
  where
    same : (y : ℕ) → (y == x) ≡ true → x ≡ y
    same y e = grind (arith, nat_tests, e)

    counts : (y : ℕ) → y < length vs → (b : Bool) → (y == x) ≡ b → length (elements_in (slice_set env x zs) y) ≡ count_of vs y
    counts y l true e = subst (λ y. length (elements_in (slice_set env x zs) y) ≡ count_of vs y) (same y e) (ap length (set_here env x zs less) ∙ count)
    counts y l false e = ap length (set_other env x y zs e) ∙ f.counts y l

    ranges : (y : ℕ) → y < length vs → (b : Bool) → (y == x) ≡ b → AllLie (range_of vs y) (elements_in (slice_set env x zs) y)
    ranges y l true e = subst (λ y. AllLie (range_of vs y) (elements_in (slice_set env x zs) y)) (same y e) (subst (AllLie (range_of vs x)) (sym (set_here env x zs less)) lie)
    ranges y l false e = subst (AllLie (range_of vs y)) (sym (set_other env x y zs e)) (f.ranges y l)

pub current_in : (vs : Vars) (σ : Assignment) (x : ℕ) (stored : Bool) (κ : Copies) (β : Builder) → x < length vs → IsCurrent vs σ κ → AllInRange vs σ (reserve vs x stored β).reserved → IsCurrent vs σ (entering vs x κ β)
unfolding reserve
current_in vs σ x stored κ β less c h =
    let own : AllInRange vs σ (reserved_cells x (new_cells vs x β)) = ranges_second vs σ β.reserved (reserved_cells x (new_cells vs x β)) h in
    let size : length (env_of σ κ) ≡ length vs = length_map (λ c. map (read σ) c.values) κ ∙ c.all in
    record {
      all = length_set κ x (record { copy = copies_of x β.made; values = map ref.Cell (new_cells vs x β) }) ∙ c.all;
      fits = subst (Fits vs) (sym (env_entering vs σ x κ β)) (fits_set vs (env_of σ κ) x (cell_values σ (new_cells vs x β)) (omega (arith, less, size)) (count_values vs σ x β) (values_lie vs σ x (new_cells vs x β) own) c.fits);
    }
