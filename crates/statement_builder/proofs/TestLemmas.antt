-- Conditions, their monitors, and writes.
use Rattle.std.proofs.Common.{◌≡◌, ◌∙◌, ℕ, zero, suc, ◌++◌, List, [], refl, sym, ap, subst, Bool, true, false, Option, Some, None, pos, negsuc}
use Rattle.std.specs.Prelude.{option_map}
use Rattle.quartz_tree.specs.declared.expr.Expr.{Expr as Boxes}
use Rattle.quartz_tree.specs.declared.place.Place.{Place}
use Rattle.quartz_tree.specs.Tree.{Tree as Expr, tree as plain}
use Rattle.quartz_expr.specs.Vars.{Vars}
use Rattle.aif_cells.specs.declared.reference.Ref.{Ref}
use Rattle.aif_cells.specs.declared.reference.Ref.TheVariants as ref
use Rattle.aif_cells.specs.Tree.{Tree, value}
use Rattle.statement_cells.specs.Expressions.{Copies, Test, copy_of, element_tests, fitted_tree, range_tests, target_tests, tests_of, tree_of}
use Rattle.statement_cells.specs.Builder.{Builder as Plain, Made, act, cell_of, watch}
use Rattle.statement_cells.specs.Surface.{index_of, tested, unless_zero, watched, written}
use Rattle.expression_cells.specs.declared.fault_test.Test.{Test as BoxedTest}
use Rattle.expression_cells.specs.Tests.{all_tests}
use Rattle.statement_builder.specs.declared.builder.Builder.{Builder}
use Rattle.statement_builder.specs.Built.{Does, IsBuilt, Makes, MakesIndex}
use Rattle.statement_builder.specs.Shorts.{is_zero}
use Rattle.statement_builder.proofs.StepLemmas.{done_as, done_then_made, nothing_done}

-- ---- what was made of the current copies

pub made_of_copies : (b b' : Builder) (r : Ref) (cs : Copies) (f : Copies → Copies → Plain → Made) → cs ≡ b.copies.items → Makes b b' r (f cs) → Makes b b' r (λ κ. f κ κ)
made_of_copies b b' r cs f e h = record {
  over = h.over;
  made = λ κ front β k. subst (λ (c : Copies). (r ≡ (f c κ β).ref) × IsBuilt κ front b' (f c κ β).built) (e ∙ k.current) (h.made κ front β k);
}

pub done_of_copies : (b b' : Builder) (cs : Copies) (f : Copies → Copies → Plain → Plain) → cs ≡ b.copies.items → Does b b' (f cs) → Does b b' (λ κ. f κ κ)
done_of_copies b b' cs f e h = record {
  over = h.over;
  built = λ κ front β k. subst (λ (c : Copies). IsBuilt κ front b' (f c κ β)) (e ∙ k.current) (h.built κ front β k);
}

pub cell_of_copies : (b b' : Builder) (r : Ref) (cs : Copies) (t : Tree) (f : Copies → Tree) → cs ≡ b.copies.items → t ≡ f cs → Makes b b' r (λ κ. cell_of t) → Makes b b' r (λ κ. cell_of (f κ))
cell_of_copies b b' r cs t f e g h = made_of_copies b b' r cs (λ c κ. cell_of (f c)) e (subst (λ (u : Tree). Makes b b' r (λ κ. cell_of u)) g h)

pub watch_of_copies : (b b' : Builder) (cs : Copies) (ts : List Test) (f : Copies → List Test) → cs ≡ b.copies.items → ts ≡ f cs → Does b b' (λ κ. watch ts) → Does b b' (λ κ. watch (f κ))
watch_of_copies b b' cs ts f e g h = done_of_copies b b' cs (λ c κ. watch (f c)) e (subst (λ (us : List Test). Does b b' (λ κ. watch us)) g h)

-- tests behind none, and more behind them
pub tests_alone : (ts us : List BoxedTest) (xs : List Test) → ts ≡ [] → all_tests us ≡ all_tests ts ++ xs → all_tests us ≡ xs
tests_alone ts us xs e f = f ∙ ap (λ (vs : List BoxedTest). all_tests vs ++ xs) e

pub tests_both : (ts us vs : List BoxedTest) (xs ys : List Test) → ts ≡ [] → all_tests us ≡ all_tests ts ++ xs → all_tests vs ≡ all_tests us ++ ys → all_tests vs ≡ xs ++ ys
tests_both ts us vs xs ys e f g = g ∙ ap (λ (zs : List Test). zs ++ ys) (tests_alone ts us xs e f)

-- ---- a guard that is the literal 0

watched_zero : (vs : Vars) (κ : Copies) (e : Expr ℕ) (g : Ref) (β : Plain) → is_zero g ≡ true → watched vs κ e g β ≡ β
unfolding watched
watched_zero vs κ e (ref.Lit (pos zero)) β h = refl
watched_zero vs κ e (ref.Lit (pos (suc n))) β h = cc
watched_zero vs κ e (ref.Lit (negsuc n)) β h = cc
watched_zero vs κ e (ref.Input i) β h = cc
watched_zero vs κ e (ref.Reg i) β h = cc
watched_zero vs κ e (ref.Cell i) β h = cc

watched_other : (vs : Vars) (κ : Copies) (e : Expr ℕ) (g : Ref) (β : Plain) → is_zero g ≡ false → watch (tests_of vs κ (value g) e) β ≡ watched vs κ e g β
unfolding watched
watched_other vs κ e (ref.Lit (pos zero)) β h = cc
watched_other vs κ e (ref.Lit (pos (suc n))) β h = refl
watched_other vs κ e (ref.Lit (negsuc n)) β h = refl
watched_other vs κ e (ref.Input i) β h = refl
watched_other vs κ e (ref.Reg i) β h = refl
watched_other vs κ e (ref.Cell i) β h = refl

pub unless_other : (g : Ref) (β : Plain) (m : Made) → is_zero g ≡ false → unless_zero g β m ≡ m
unless_other (ref.Lit (pos zero)) β m h = cc
unless_other (ref.Lit (pos (suc n))) β m h = refl
unless_other (ref.Lit (negsuc n)) β m h = refl
unless_other (ref.Input i) β m h = refl
unless_other (ref.Reg i) β m h = refl
unless_other (ref.Cell i) β m h = refl

pub not_watched : (b : Builder) (vs : Vars) (e : Expr ℕ) (g : Ref) → true ≡ is_zero g → Does b b (λ κ. watched vs κ e g)
not_watched b vs e g h = nothing_done b (λ κ. watched vs κ e g) (λ κ β. watched_zero vs κ e g β (sym h))

pub all_watched : (b b' : Builder) (vs : Vars) (e : Expr ℕ) (g : Ref) → false ≡ is_zero g → Does b b' (λ κ. watch (tests_of vs κ (value g) e)) → Does b b' (λ κ. watched vs κ e g)
all_watched b b' vs e g h k = done_as b b' (λ κ. watch (tests_of vs κ (value g) e)) (λ κ. watched vs κ e g) (λ κ β. watched_other vs κ e g β (sym h)) k

pub both_tested : (b0 b1 b2 : Builder) (vs : Vars) (c : Expr ℕ) (g r : Ref) → Does b0 b1 (λ κ. watched vs κ c g) → Makes b1 b2 r (λ κ. cell_of (tree_of vs κ c)) → Makes b0 b2 r (λ κ. tested vs κ c g)
unfolding tested
both_tested b0 b1 b2 vs c g r h k = done_then_made b0 b1 b2 r (λ κ. watched vs κ c g) (λ κ. cell_of (tree_of vs κ c)) h k

-- ---- writes

pub no_index : (b : Builder) (vs : Vars) (i : Option (Boxes ℕ)) → i ≡ None → MakesIndex b b None (λ κ. index_of vs κ (option_map plain i))
no_index b vs i e = subst (λ (o : Option (Boxes ℕ)). MakesIndex b b None (λ κ. index_of vs κ (option_map plain o))) (sym e) (record { over = λ vs h. h; made = λ κ front β h. (refl, h) })

pub one_index : (b b' : Builder) (r : Ref) (vs : Vars) (i : Option (Boxes ℕ)) (e : Boxes ℕ) → i ≡ Some e → Makes b b' r (λ κ. cell_of (tree_of vs κ (plain e))) → MakesIndex b b' (Some r) (λ κ. index_of vs κ (option_map plain i))
one_index b b' r vs i e f h = subst (λ (o : Option (Boxes ℕ)). MakesIndex b b' (Some r) (λ κ. index_of vs κ (option_map plain o))) (sym f) (record {
  over = h.over;
  made = λ κ front β k. let m = h.made κ front β k in (ap (λ (x : Ref). Some x) m.0, m.1);
})

pub all_written : (vs : Vars) (x : ℕ) (i : Option (Expr ℕ)) (e : Expr ℕ) (d : Bool) (p q : Place) (go : Ref) (b0 b1 b2 b3 b4 b5 : Builder) (index : Option Ref) (v : Ref) (copy : ℕ)
    → Does b0 b1 (λ κ. watch (target_tests vs κ (value go) i ++ tests_of vs κ (value go) e)) → MakesIndex b1 b2 index (λ κ. index_of vs κ i)
    → Does b2 b3 (λ κ. watch (element_tests vs κ (value go) x i q ++ range_tests vs κ (value go) x e p)) → Makes b3 b4 v (λ κ. cell_of (fitted_tree vs κ x e))
    → copy ≡ copy_of b4.copies.items x → Does b4 b5 (λ κ. act (record { guard = go; var = x; copy = copy; index = index; value = v; delayed = d; place = p }))
    → Does b0 b5 (λ κ. written vs κ x i e d p q go)
unfolding written
all_written vs x i e d p q go b0 b1 b2 b3 b4 b5 index v copy h1 h2 h3 h4 c h5 = record {
  over = λ ws o. h5.over ws (h4.over ws (h3.over ws (h2.over ws (h1.over ws o))));
  built = λ κ front β o.
      let β1 = watch (target_tests vs κ (value go) i ++ tests_of vs κ (value go) e) β in
      let k2 = h2.made κ front β1 (h1.built κ front β o) in
      let β3 = watch (element_tests vs κ (value go) x i q ++ range_tests vs κ (value go) x e p) (index_of vs κ i β1).built in
      let k4 = h4.made κ front β3 (h3.built κ front (index_of vs κ i β1).built k2.1) in
      let β4 = (cell_of (fitted_tree vs κ x e) β3).built in
      let after = λ (n : ℕ) (j : Option Ref) (w : Ref). IsBuilt κ front b5 (act (record { guard = go; var = x; copy = n; index = j; value = w; delayed = d; place = p }) β4) in
      let k5 : IsBuilt κ front b5 (act (record { guard = go; var = x; copy = copy; index = index; value = v; delayed = d; place = p }) β4) = h5.built κ front β4 k4.1 in
      subst (λ (n : ℕ). after n (index_of vs κ i β1).ref (cell_of (fitted_tree vs κ x e) β3).ref) (c ∙ ap (λ (cs : Copies). copy_of cs x) k4.1.current)
      (subst (λ (j : Option Ref). after copy j (cell_of (fitted_tree vs κ x e) β3).ref) k2.0
      (subst (λ (w : Ref). after copy index w) k4.0 k5));
}
