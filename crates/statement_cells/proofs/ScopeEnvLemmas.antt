-- The environment inside a scope.
use Rattle.std.proofs.Common.{◌≡◌, ℕ, zero, suc, ◌<◌, ◌==◌, ℤ, Bool, true, false, List, [], ◌∷◌, ◌++◌, length, map, refl, sym, ap, ◌∙◌, subst, arith}
use Rattle.std.specs.Prelude.{slice_set}
use Rattle.std.proofs.lemmas.Bool.Decides.{nat_tests}
use Rattle.quartz_expr.specs.Values.{Values, elements_in}
use Rattle.quartz_expr.specs.Vars.{Vars, count_of}
use Rattle.quartz_expr.specs.Intervals.{range_of}
use Rattle.quartz_expr.specs.Typed.{AllLie, Fits}
use Rattle.aif_cells.specs.declared.reference.Ref.TheVariants as ref
use Rattle.aif_cells.specs.Worth.{Assignment, read}
use Rattle.reincarnation.specs.Entering.{copies_of}
use Rattle.statement_cells.specs.Expressions.{Copies, env_of}
use Rattle.statement_cells.specs.Builder.{Builder, Reserved, entering, new_cells, reserve, reserved_cells}
use Rattle.statement_cells.specs.Walk.{AllInRange, Good, IsCurrent, cell_values}
use Rattle.statement_cells.proofs.GrowLemmas.{Grows}
use Rattle.statement_cells.proofs.ScopeGrowLemmas.{length_numbers}

-- ---- lists

pub length_set : {A : Type 0} (xs : List A) (n : ℕ) (a : A) → length (slice_set xs n a) ≡ length xs
length_set [] n a = refl
length_set (x ∷ xs) zero a = refl
length_set (x ∷ xs) (suc n) a = ap suc (length_set xs n a)

map_set : {A : Type 0} {B : Type 0} (f : A → B) (xs : List A) (n : ℕ) (a : A) → map f (slice_set xs n a) ≡ slice_set (map f xs) n (f a)
map_set f [] n a = refl
map_set f (x ∷ xs) zero a = refl
map_set f (x ∷ xs) (suc n) a = ap (λ l. f x ∷ l) (map_set f xs n a)

pub length_map : {A : Type 0} {B : Type 0} (f : A → B) (xs : List A) → length (map f xs) ≡ length xs
length_map f [] = refl
length_map f (x ∷ xs) = ap suc (length_map f xs)

set_here : (env : Values) (x : ℕ) (zs : List ℤ) → x < length env → elements_in (slice_set env x zs) x ≡ zs
set_here [] x zs h = absurd (omega (arith, h))
set_here (y ∷ env) zero zs h = refl
set_here (y ∷ env) (suc x) zs h = set_here env x zs (omega (arith, h))

set_other : (env : Values) (x y : ℕ) (zs : List ℤ) → (y == x) ≡ false → elements_in (slice_set env x zs) y ≡ elements_in env y
set_other [] x y zs h = refl
set_other (e ∷ env) zero zero zs h = absurd (cc)
set_other (e ∷ env) zero (suc y) zs h = refl
set_other (e ∷ env) (suc x) zero zs h = refl
set_other (e ∷ env) (suc x) (suc y) zs h = set_other env x y zs (step h)
  where
    step : (suc y == suc x) ≡ false → (y == x) ≡ false
    step h = grind (arith, nat_tests, h)

-- the environment fits with other values of a variable that lie in its range
fits_set : (vs : Vars) (env : Values) (x : ℕ) (zs : List ℤ) → x < length env → length zs ≡ count_of vs x → AllLie (range_of vs x) zs → Fits vs env → Fits vs (slice_set env x zs)
fits_set vs env x zs less count lie f = record { counts = λ y l. counts y l (y == x) refl; ranges = λ y l. ranges y l (y == x) refl }
  where
    same : (y : ℕ) → (y == x) ≡ true → x ≡ y
    same y e = grind (arith, nat_tests, e)

    counts : (y : ℕ) → y < length vs → (b : Bool) → (y == x) ≡ b → length (elements_in (slice_set env x zs) y) ≡ count_of vs y
    counts y l true e = subst (λ y. length (elements_in (slice_set env x zs) y) ≡ count_of vs y) (same y e) (ap length (set_here env x zs less) ∙ count)
    counts y l false e = ap length (set_other env x y zs e) ∙ f.counts y l

    ranges : (y : ℕ) → y < length vs → (b : Bool) → (y == x) ≡ b → AllLie (range_of vs y) (elements_in (slice_set env x zs) y)
    ranges y l true e = subst (λ y. AllLie (range_of vs y) (elements_in (slice_set env x zs) y)) (same y e) (subst (AllLie (range_of vs x)) (sym (set_here env x zs less)) lie)
    ranges y l false e = subst (AllLie (range_of vs y)) (sym (set_other env x y zs e)) (f.ranges y l)

module _ (vs : Vars) (σ : Assignment) where
  pub cells_read : (ks : List ℕ) → map (read σ) (map ref.Cell ks) ≡ cell_values σ ks
  cells_read [] = refl
  cells_read (k ∷ ks) = ap (λ l. σ.cells k ∷ l) (cells_read ks)

  -- inside the scope its variable has the values of the new cells
  pub env_entering : (x : ℕ) (κ : Copies) (β : Builder) → env_of σ (entering vs x κ β) ≡ slice_set (env_of σ κ) x (cell_values σ (new_cells vs x β))
  env_entering x κ β = map_set (λ c. map (read σ) c.values) κ x (record { copy = copies_of x β.made; values = map ref.Cell (new_cells vs x β) }) ∙ ap (slice_set (env_of σ κ) x) (cells_read (new_cells vs x β))

  pub ranges_first : (a b : List Reserved) → AllInRange vs σ (a ++ b) → AllInRange vs σ a
  ranges_first [] b h = tt
  ranges_first (r ∷ a) b h = (h.0, ranges_first a b h.1)

  pub ranges_second : (a b : List Reserved) → AllInRange vs σ (a ++ b) → AllInRange vs σ b
  ranges_second [] b h = h
  ranges_second (r ∷ a) b h = ranges_second a b h.1

  pub values_lie : (x : ℕ) (ks : List ℕ) → AllInRange vs σ (reserved_cells x ks) → AllLie (range_of vs x) (cell_values σ ks)
  values_lie x [] h = tt
  values_lie x (k ∷ ks) h = (h.0, values_lie x ks h.1)

  pub count_values : (x : ℕ) (β : Builder) → length (cell_values σ (new_cells vs x β)) ≡ count_of vs x
  count_values x β = length_map σ.cells (new_cells vs x β) ∙ length_numbers (length β.cells) (count_of vs x)

  -- the new cells lie in the range of the scope's variable
  pub given_lie : (x : ℕ) (stored : Bool) (β inner : Builder) → Grows vs (reserve vs x stored β) inner → Good vs σ inner → AllLie (range_of vs x) (cell_values σ (new_cells vs x β))
  unfolding reserve
  given_lie x stored β inner g h =
      values_lie x (new_cells vs x β) (ranges_second β.reserved (reserved_cells x (new_cells vs x β)) (ranges_first (β.reserved ++ reserved_cells x (new_cells vs x β)) g.more (subst (AllInRange vs σ) g.reserved h.ranges)))

  -- the copies inside the scope are current
  pub current_inside : (x : ℕ) (stored : Bool) (κ : Copies) (β inner : Builder) → x < length vs → IsCurrent vs σ κ → Grows vs (reserve vs x stored β) inner → Good vs σ inner → IsCurrent vs σ (entering vs x κ β)
  unfolding reserve
  current_inside x stored κ β inner less c g h =
      let own : AllInRange vs σ (reserved_cells x (new_cells vs x β)) =
      ranges_second β.reserved (reserved_cells x (new_cells vs x β)) (ranges_first (β.reserved ++ reserved_cells x (new_cells vs x β)) g.more (subst (AllInRange vs σ) g.reserved h.ranges)) in
      let size : length (env_of σ κ) ≡ length vs = length_map (λ c. map (read σ) c.values) κ ∙ c.all in
      record {
        all = length_set κ x (record { copy = copies_of x β.made; values = map ref.Cell (new_cells vs x β) }) ∙ c.all;
        fits = subst (Fits vs) (sym (env_entering x κ β)) (fits_set vs (env_of σ κ) x (cell_values σ (new_cells vs x β)) (omega (arith, less, size)) (count_values x β) (values_lie x (new_cells vs x β) own) c.fits);
      }
