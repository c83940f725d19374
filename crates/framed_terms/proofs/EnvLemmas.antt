-- Environments that agree on what is visible. In a scope both are set at the same variable, which no visible one was before;
-- in a frame a parameter has the elements of its argument, and the argument agreed.
use Rattle.std.proofs.Common.{◌≡◌, ◌≤◌, ◌<◌, ℕ, zero, suc, ℤ, Bool, true, false, List, [], ◌∷◌, length, Option, Some, None, unwrap_or, if◌then◌else◌, refl, sym, ap, ◌∙◌, subst, arith}
use Rattle.std.proofs.lemmas.Bool.Decides.{nat_tests}
use Rattle.std.proofs.lemmas.List.{length-set}
use Rattle.std.specs.Prelude.{◌==◌, slice_get, slice_set}
use Rattle.quartz_tree.specs.declared.declare.Var.{Var}
use Rattle.quartz_tree.specs.Surfaces.{Word}
use Rattle.quartz_expr.specs.Values.{Values, elements_in}
use Rattle.quartz_expr.specs.Vars.{Vars}
use Rattle.framed_terms.specs.Framed.{Meanings, inside}
use Rattle.framed_terms.specs.Similar.{Carry, carried, inner, opened, LikeTypes, IsLocal, IsLike, Suits, Agree}
use Rattle.framed_terms.proofs.ActLemmas.{IsNew, opened_else}

get_other : (xs : Values) (n k : ℕ) (v : List ℤ) → (k == n) ≡ false → slice_get (slice_set xs n v) k ≡ slice_get xs k
get_other [] n k v e = refl
get_other (x ∷ xs) zero zero v e = absurd (cc)
get_other (x ∷ xs) zero (suc k) v e = refl
get_other (x ∷ xs) (suc n) zero v e = refl
get_other (x ∷ xs) (suc n) (suc k) v e = get_other xs n k v (step n k e)
  where
    step : (n k : ℕ) → (suc k == suc n) ≡ false → (k == n) ≡ false
    step n k e = grind (arith, nat_tests, e)

get_set : (xs : Values) (k : ℕ) (v : List ℤ) → k < length xs → slice_get (slice_set xs k v) k ≡ Some v
get_set [] k v h = absurd (omega (arith, h))
get_set (x ∷ xs) zero v h = refl
get_set (x ∷ xs) (suc k) v h = get_set xs k v (omega (arith, h))

elements_other : (env : Values) (x z : ℕ) (v : List ℤ) → (z == x) ≡ false → elements_in (slice_set env x v) z ≡ elements_in env z
elements_other env x z v e = ap (λ (o : Option (List ℤ)). unwrap_or o []) (get_other env x z v e)

elements_set : (env : Values) (x z : ℕ) (v : List ℤ) → (z == x) ≡ true → x < length env → elements_in (slice_set env x v) z ≡ v
elements_set env x z v e h = ap (λ (n : ℕ). elements_in (slice_set env x v) n) (same z x e) ∙ ap (λ (o : Option (List ℤ)). unwrap_or o []) (get_set env x v h)
  where
    same : (z x : ℕ) → (z == x) ≡ true → z ≡ x
    same z x e = grind (arith, nat_tests, e)

some_same : (y w : ℕ) → Some y ≡ Some w → y ≡ w
some_same y w e = ap (λ o. unwrap_or o 0) e

equal_test : (y w : ℕ) → y ≡ w → (w == y) ≡ true
equal_test y w e = grind (arith, nat_tests, e)

number : (z x : ℕ) → (z == x) ≡ true → z ≡ x
number z x e = grind (arith, nat_tests, e)

like_at : (vs ws : Vars) (x y z w : ℕ) → z ≡ x → w ≡ y → IsLike vs ws x y → IsLike vs ws z w
like_at vs ws x y z w e h l = subst (λ (n : ℕ). IsLike vs ws n w) (sym e) (subst (λ (n : ℕ). IsLike vs ws x n) (sym h) l)

inside_length : (vs : Vars) (args : List ℕ) (env : Values) → length (inside vs args env) ≡ length vs
inside_length [] args env = refl
inside_length (v ∷ vs) [] env = ap suc (inside_length vs [] env)
inside_length (v ∷ vs) (a ∷ args) env = ap suc (inside_length vs args env)

inside_at : (vs : Vars) (args : List ℕ) (env : Values) (p a : ℕ) → length args ≤ length vs → slice_get args p ≡ Some a → slice_get (inside vs args env) p ≡ Some (elements_in env a)
inside_at vs [] env p a h e = absurd (cc)
inside_at [] (b ∷ args) env p a h e = absurd (omega (arith, h))
inside_at (v ∷ vs) (b ∷ args) env zero a h e = ap (λ (n : ℕ). Some (elements_in env n)) (some_same b a e)
inside_at (v ∷ vs) (b ∷ args) env (suc p) a h e = inside_at vs args env p a (omega (arith, h)) e

module _ (us : Meanings) (ws : Vars) where
  pub opened_agrees : (vs : Vars) (f : Carry) (env all : Values) (x y : ℕ) (v : List ℤ) → IsLocal us ws vs f x y → Agree us ws vs f env all
      → Agree us ws vs (opened f x y) (slice_set env x v) (slice_set all y v)
  opened_agrees vs f env all x y v l a = record {
    types = λ z w e. like z w (z == x) refl e;
    values = λ z w e. same z w (z == x) refl e;
    near = length-set env x v ∙ a.near;
    far = length-set all y v ∙ a.far;
  }
    where
      like : (z w : ℕ) (b : Bool) → (z == x) ≡ b → (if b then Some y else f z) ≡ Some w → IsLike vs ws z w
      like z w true h e = like_at vs ws x y z w (number z x h) (sym (some_same y w e)) l.like
      like z w false h e = a.types z w e

      same : (z w : ℕ) (b : Bool) → (z == x) ≡ b → (if b then Some y else f z) ≡ Some w → elements_in (slice_set env x v) z ≡ elements_in (slice_set all y v) w
      same z w true h e = elements_set env x z v h (omega (arith, l.near, a.near)) ∙ sym (elements_set all y w v (equal_test y w (some_same y w e)) (omega (arith, l.far, a.far)))
      same z w false h e = elements_other env x z v h ∙ a.values z w e ∙ sym (elements_other all y w v (l.new z w e))

  pub inner_agrees : (vs : Vars) (f : Carry) (env all : Values) (m : Word) (args : List ℕ) → Suits us ws f m args → Agree us ws vs f env all
      → Agree us ws (us m).vars (inner f args) (inside (us m).vars args env) all
  inner_agrees vs f env all m args s a = record {
    types = s.types;
    values = λ p w e. same p w (slice_get args p) refl e;
    near = inside_length (us m).vars args env;
    far = a.far;
  }
    where
      same : (p w : ℕ) (o : Option ℕ) → slice_get args p ≡ o → carried f o ≡ Some w → elements_in (inside (us m).vars args env) p ≡ elements_in all w
      same p w None h e = absurd (cc)
      same p w (Some x) h e = ap (λ (o : Option (List ℤ)). unwrap_or o []) (inside_at (us m).vars args env p x s.few h) ∙ a.values x w e
