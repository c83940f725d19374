-- What registers of scopes take, from the copies by number, is what the definition says.
use Rattle.std.proofs.Common.{◌≡◌, ℕ, zero, suc, ◌+◌, ◌<◌, ◌≤◌, Bool, true, false, List, [], ◌∷◌, refl, sym, ap, ◌∙◌, subst, arith}
use Rattle.std.specs.Prelude.{◌==◌, if◌then◌else◌}
use Rattle.std.proofs.lemmas.Bool.Decides.{nat_tests}
use Rattle.quartz_expr.specs.Vars.{Vars}
use Rattle.quartz_expr.specs.Terms.{Term, nothing, pause, write, choose, seq, par, loop, abort, suspend, scope, Terms, none, part}
use Rattle.reincarnation.specs.declared.copy.Entered.{Entered}
use Rattle.reincarnation.specs.Carrying.{Stores}
use Rattle.statement_cells.specs.Labels.{labels, registers, registers_all, scope_registers}
use Rattle.statement_cells.specs.Builder.{EnteredCopy, DepthCopy}
use Rattle.statement_cells.specs.Whole.{all_scopes_taken, carried_in, depth_taken, depths_at, entered_at, scope_taken, scopes_taken}
use Rattle.surface_depth.specs.Lists.{depths_by, entered_by, list_at}
use Rattle.surface_depth.specs.Carrying.{all_from, depths_from, scope_from, scopes_from}

list_entered : (n l k : ℕ) (es : List EnteredCopy) → k < n → list_at (entered_by l n es) k ≡ entered_at (l + k) es
list_entered zero l k es h = absurd (omega (arith, h))
list_entered (suc n) l zero es h = let e : l ≡ l + 0 = omega arith in ap (λ (m : ℕ). entered_at m es) e
list_entered (suc n) l (suc k) es h = let e : l + 1 + k ≡ l + suc k = omega arith in list_entered n (l + 1) k es (omega (arith, h)) ∙ ap (λ (m : ℕ). entered_at m es) e

list_depths : (n l k : ℕ) (ds : List DepthCopy) → k < n → list_at (depths_by l n ds) k ≡ depths_at (l + k) ds
list_depths zero l k ds h = absurd (omega (arith, h))
list_depths (suc n) l zero ds h = let e : l ≡ l + 0 = omega arith in ap (λ (m : ℕ). depths_at m ds) e
list_depths (suc n) l (suc k) ds h = let e : l + 1 + k ≡ l + suc k = omega arith in list_depths n (l + 1) k ds (omega (arith, h)) ∙ ap (λ (m : ℕ). depths_at m ds) e

entered_there : (n k : ℕ) (es : List EnteredCopy) → k < n → list_at (entered_by 0 n es) k ≡ entered_at k es
entered_there n k es h = let e : 0 + k ≡ k = omega arith in list_entered n 0 k es h ∙ ap (λ (m : ℕ). entered_at m es) e

depths_there : (n k : ℕ) (ds : List DepthCopy) → k < n → list_at (depths_by 0 n ds) k ≡ depths_at k ds
depths_there n k ds h = let e : 0 + k ≡ k = omega arith in list_depths n 0 k ds h ∙ ap (λ (m : ℕ). depths_at m ds) e

is_first : (a v : ℕ) → (a == v) ≡ true → a ≡ v
is_first a v h = grind (arith, nat_tests, h)

module _ (vs : Vars) (n : ℕ) (es : List EnteredCopy) where
  depth_step : (d : DepthCopy) (v : ℕ) (ds : List DepthCopy) (b : Bool) (σ : Stores) → (d.first == v) ≡ b → v < n
      → ((τ : Stores) → depths_from vs (entered_by 0 n es) (depths_at v ds) τ ≡ depth_taken vs es (depths_at v ds) τ)
      → depths_from vs (entered_by 0 n es) (if b then d ∷ depths_at v ds else depths_at v ds) σ ≡ depth_taken vs es (if b then d ∷ depths_at v ds else depths_at v ds) σ
  depth_step d v ds true σ e h f =
      let same : d.first ≡ v = is_first d.first v e in
      ap (λ (xs : List Entered). depths_from vs (entered_by 0 n es) (depths_at v ds) (carried_in vs d.var xs d.closed d.first σ)) (entered_there n d.first es (subst (λ m. m < n) (sym same) h))
      ∙ f (carried_in vs d.var (entered_at d.first es) d.closed d.first σ)
  depth_step d v ds false σ e h f = f σ

  depths_are : (v : ℕ) (ds : List DepthCopy) (σ : Stores) → v < n → depths_from vs (entered_by 0 n es) (depths_at v ds) σ ≡ depth_taken vs es (depths_at v ds) σ
  depths_are v [] σ h = refl
  depths_are v (d ∷ ds) σ h = depth_step d v ds (d.first == v) σ refl h (λ τ. depths_are v ds τ h)

  module _ (ds : List DepthCopy) where
    scope_is : (k v : ℕ) (σ : Stores) → v + k ≤ n → scope_from vs (entered_by 0 n es) (depths_by 0 n ds) k v σ ≡ scope_taken vs es ds k v σ
    scope_is zero v σ h = refl
    scope_is (suc k) v σ h =
        ap (λ (xs : List DepthCopy). depths_from vs (entered_by 0 n es) xs σ) (depths_there n v ds (omega (arith, h))) ∙ depths_are v ds σ (omega (arith, h))

    mutual
      pub scopes_are : (t : Term) (v : ℕ) (σ : Stores) → v + registers vs t ≤ n → scopes_from vs (entered_by 0 n es) (depths_by 0 n ds) v t σ ≡ scopes_taken vs es ds v t σ
      scopes_are nothing v σ h = refl
      scopes_are pause v σ h = refl
      scopes_are (write x i e d p q) v σ h = refl
      scopes_are (choose c a b) v σ h =
          ap (scopes_from vs (entered_by 0 n es) (depths_by 0 n ds) (v + registers vs a) b) (scopes_are a v σ (omega (arith, h))) ∙ scopes_are b (v + registers vs a) (scopes_taken vs es ds v a σ) (omega (arith, h))
      scopes_are (seq ts) v σ h = all_are ts v σ h
      scopes_are (par ts) v σ h = all_are ts v σ h
      scopes_are (loop t c) v σ h = scopes_are t v σ h
      scopes_are (abort w i t c) v σ h = scopes_are t v σ h
      scopes_are (suspend w i t c) v σ h = scopes_are t v σ h
      scopes_are (scope x s t) v σ h =
          let k : ℕ = scope_registers vs (labels t) x in
          ap (scopes_from vs (entered_by 0 n es) (depths_by 0 n ds) (v + k) t) (scope_is k v σ (omega (arith, h))) ∙ scopes_are t (v + k) (scope_taken vs es ds k v σ) (omega (arith, h))

      all_are : (ts : Terms) (v : ℕ) (σ : Stores) → v + registers_all vs ts ≤ n → all_from vs (entered_by 0 n es) (depths_by 0 n ds) v ts σ ≡ all_scopes_taken vs es ds v ts σ
      all_are none v σ h = refl
      all_are (part t ts) v σ h =
          ap (all_from vs (entered_by 0 n es) (depths_by 0 n ds) (v + registers vs t) ts) (scopes_are t v σ (omega (arith, h))) ∙ all_are ts (v + registers vs t) (scopes_taken vs es ds v t σ) (omega (arith, h))
