-- Scopes leave the registers before theirs as they are.
use Rattle.std.proofs.Common.{◌≡◌, inl, ℕ, zero, suc, ◌+◌, ◌<◌, ◌==◌, Bool, true, false, List, [], ◌∷◌, refl, ◌∙◌, subst, arith}
use Rattle.std.proofs.lemmas.Bool.Decides.{nat_tests}
use Rattle.std.specs.Prelude.{slice_get, if◌then◌else◌}
use Rattle.quartz_expr.specs.Vars.{Vars}
use Rattle.quartz_expr.specs.Terms.{Term, nothing, pause, write, choose, seq, par, loop, abort, suspend, scope, Terms, none, part}
use Rattle.aif_cells.specs.Worth.{Assignment}
use Rattle.reincarnation.specs.Carrying.{Stores}
use Rattle.statement_cells.specs.Labels.{labels, registers, scope_registers}
use Rattle.statement_cells.specs.Builder.{DepthCopy, EnteredCopy}
use Rattle.statement_cells.specs.Whole.{all_scopes_taken, carried_in, depth_taken, depths_at, entered_at, scope_taken, scopes_taken}
use Rattle.statement_cells.proofs.CarryLemmas.{carried_others}

module _ (vs : Vars) (σ : Assignment) (es : List EnteredCopy) where
  depth_below : (ds : List DepthCopy) (v : ℕ) (τ : Stores) (r : ℕ) → r < v → slice_get (depth_taken vs es (depths_at v ds) τ).registers r ≡ slice_get τ.registers r
  depth_below [] v τ r l = refl
  depth_below (d ∷ ds) v τ r l = at (d.first == v) refl (λ m. depth_below ds v m r l)
    where
      same : (d.first == v) ≡ true → v ≡ d.first
      same e = grind (arith, nat_tests, e)

      at : (b : Bool) → (d.first == v) ≡ b → ((m : Stores) → slice_get (depth_taken vs es (depths_at v ds) m).registers r ≡ slice_get m.registers r)
          → slice_get (depth_taken vs es (if b then d ∷ depths_at v ds else depths_at v ds) τ).registers r ≡ slice_get τ.registers r
      at true e h = h (carried_in vs d.var (entered_at d.first es) d.closed d.first τ) ∙ carried_others vs σ d.var (entered_at d.first es) d.closed d.first τ r (inl (subst (λ n. r < n) (same e) l))
      at false e h = h τ

  pub scope_below : (ds : List DepthCopy) (n v : ℕ) (τ : Stores) (r : ℕ) → r < v → slice_get (scope_taken vs es ds n v τ).registers r ≡ slice_get τ.registers r
  scope_below ds zero v τ r l = refl
  scope_below ds (suc n) v τ r l = depth_below ds v τ r l

  module _ (ds : List DepthCopy) where
    mutual
      pub scopes_below : (t : Term) (v : ℕ) (τ : Stores) (r : ℕ) → r < v → slice_get (scopes_taken vs es ds v t τ).registers r ≡ slice_get τ.registers r
      scopes_below nothing v τ r l = refl
      scopes_below pause v τ r l = refl
      scopes_below (write x i e d p q) v τ r l = refl
      scopes_below (choose c a b) v τ r l = scopes_below b (v + registers vs a) (scopes_taken vs es ds v a τ) r (omega (arith, l)) ∙ scopes_below a v τ r l
      scopes_below (seq ts) v τ r l = all_scopes_below ts v τ r l
      scopes_below (par ts) v τ r l = all_scopes_below ts v τ r l
      scopes_below (loop t c) v τ r l = scopes_below t v τ r l
      scopes_below (abort w i t c) v τ r l = scopes_below t v τ r l
      scopes_below (suspend w i t c) v τ r l = scopes_below t v τ r l
      scopes_below (scope x s t) v τ r l =
          let n = scope_registers vs (labels t) x in
          scopes_below t (v + n) (scope_taken vs es ds n v τ) r (omega (arith, l)) ∙ scope_below ds n v τ r l

      pub all_scopes_below : (ts : Terms) (v : ℕ) (τ : Stores) (r : ℕ) → r < v → slice_get (all_scopes_taken vs es ds v ts τ).registers r ≡ slice_get τ.registers r
      all_scopes_below none v τ r l = refl
      all_scopes_below (part t ts) v τ r l = all_scopes_below ts (v + registers vs t) (scopes_taken vs es ds v t τ) r (omega (arith, l)) ∙ scopes_below t v τ r l
