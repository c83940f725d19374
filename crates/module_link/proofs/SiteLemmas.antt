-- What the rules say of each call in a list, where the list breaks none.
use Rattle.std.proofs.Common.{◌≡◌, ◌<◌, ℕ, zero, suc, Bool, true, false, ◌||◌, not, List, [], ◌∷◌, ◌++◌, length, Contains, Option, Some, None, is_none, refl, sym, ap, ◌∙◌, subst, arith, get_or}
use Rattle.std.specs.List.{AllByRecursion}
use Rattle.quartz_tree.specs.declared.place.Place.{Place}
use Rattle.quartz_tree.specs.Surfaces.{Word, ModuleTree}
use Rattle.quartz_expr.specs.Kinds.{place_if}
use Rattle.quartz_expr.proofs.TruthLemmas.{none_left}
use Rattle.quartz_names.specs.NameRules.{repeated}
use Rattle.linked_trees.specs.Naming.{module_named}
use Rattle.call_rules.specs.CallRules.{as_many, is_repeated, misfits, unfit, unfit_at, unknown}
use Rattle.call_rules.specs.Sites.{IsCallAt, Site, sites_in}

-- ---- members

pub every_append : {A : Type 0} (P : A → Type 0) (xs ys : List A) → AllByRecursion P xs → AllByRecursion P ys → AllByRecursion P (xs ++ ys)
every_append P [] ys g h = h
every_append P (x ∷ xs) ys g h = (g.0, every_append P xs ys g.1 h)

pub every_parts : {A : Type 0} (P : A → Type 0) (xs ys : List A) → AllByRecursion P (xs ++ ys) → AllByRecursion P xs × AllByRecursion P ys
every_parts P [] ys h = (tt, h)
every_parts P (x ∷ xs) ys h = let g = every_parts P xs ys h.1 in ((h.0, g.0), g.1)

every_at : {A : Type 0} (P : A → Type 0) (xs : List A) (x : A) (n : ℕ) → n < length xs → get_or xs n x ≡ x → AllByRecursion P xs → P x
every_at P [] x n l e h = absurd (omega (arith, l))
every_at P (y ∷ xs) x zero l e h = subst P e h.0
every_at P (y ∷ xs) x (suc n) l e h = every_at P xs x n (omega (arith, l)) e h.1

pub every_among : {A : Type 0} (P : A → Type 0) (xs : List A) (x : A) → Contains xs x → AllByRecursion P xs → P x
every_among P xs x c h = every_at P xs x c.0 c.1 c.2 h

-- from what holds of each member
pub all_from : {A : Type 0} (P : A → Type 0) (xs : List A) → ((x : A) → Contains xs x → P x) → AllByRecursion P xs
all_from P [] h = tt
all_from P (x ∷ xs) h = (h x (0, omega arith, refl), all_from P xs (λ y c. h y (suc c.0, omega (arith, c.1), c.2)))

-- ---- calls that are known

pub same_tree : (a b : ModuleTree) → Some a ≡ Some b → a ≡ b
same_tree a b e = cc

pub record IsFound (ms : List ModuleTree) (x : Word) : Type 0 where
  pub tree : ModuleTree
  pub found : module_named ms x ≡ Some tree

found_at : (ms : List ModuleTree) (x : Word) (p : Place) → place_if (is_none (module_named ms x)) p ≡ [] → IsFound ms x
found_at ms x p e = at (module_named ms x) refl e
  where
    at : (o : Option ModuleTree) → module_named ms x ≡ o → place_if (is_none o) p ≡ [] → IsFound ms x
    at None g h = absurd (cc)
    at (Some t) g h = record { tree = t; found = g }

pub all_found : (ms : List ModuleTree) (ss : List Site) → unknown ms ss ≡ [] → AllByRecursion (λ (s : Site). IsFound ms s.name) ss
all_found ms [] e = tt
all_found ms (s ∷ ss) e = let h = none_left (place_if (is_none (module_named ms s.name)) s.place) _ e in (found_at ms s.name s.place h.0, all_found ms ss h.1)

pub call_found : (ms : List ModuleTree) (x y : Word) (p : Place) (t : ModuleTree) → IsCallAt ms x y p → module_named ms x ≡ Some t → unknown ms (sites_in t) ≡ [] → IsFound ms y
call_found ms x y p t c e k =
    let among : Contains (sites_in t) c.site = subst (λ (q : ModuleTree). Contains (sites_in q) c.site) (same_tree c.tree t (sym c.found ∙ e)) c.among in
    subst (IsFound ms) c.name (every_among (λ (s : Site). IsFound ms s.name) (sites_in t) c.site among (all_found ms (sites_in t) k))

-- ---- what S13 says of a call

pub record IsFit (s : Site) (m : ModuleTree) : Type 0 where
  pub many : as_many m.params s.args ≡ true
  pub apart : repeated m.params ≡ []
  pub suited : misfits s.around m.params s.args ≡ []

counts_right : (a b : Bool) (p : Place) → place_if (not a || b) p ≡ [] → (a ≡ true) × (b ≡ false)
counts_right true true p e = absurd (cc)
counts_right true false p e = (refl, refl)
counts_right false b p e = absurd (cc)

none_repeated : (ps : List Place) → is_repeated ps ≡ false → ps ≡ []
none_repeated [] e = refl
none_repeated (p ∷ ps) e = absurd (cc)

fit_at : (s : Site) (m : ModuleTree) → unfit_at s (Some m) ≡ [] → IsFit s m
fit_at s m e =
    let h = none_left (place_if (not (as_many m.params s.args) || is_repeated (repeated m.params)) s.place) _ e in
    let g = counts_right (as_many m.params s.args) (is_repeated (repeated m.params)) s.place h.0 in
    record { many = g.0; apart = none_repeated (repeated m.params) g.1; suited = h.1 }

module _ (ms : List ModuleTree) where
  pub record IsFitCall (s : Site) : Type 0 where
    pub tree : ModuleTree
    pub found : module_named ms s.name ≡ Some tree
    pub fit : IsFit s tree

  pub all_fit : (ss : List Site) → AllByRecursion (λ (s : Site). IsFound ms s.name) ss → unfit ms ss ≡ [] → AllByRecursion IsFitCall ss
  all_fit [] f e = tt
  all_fit (s ∷ ss) f e =
      let h = none_left (unfit_at s (module_named ms s.name)) _ e in
      (record { tree = f.0.tree; found = f.0.found; fit = fit_at s f.0.tree (ap (unfit_at s) (sym f.0.found) ∙ h.0) }, all_fit ss f.1 h.1)

  pub call_fits : (x y : Word) (p : Place) (t u : ModuleTree) → IsCallAt ms x y p → module_named ms x ≡ Some t → module_named ms y ≡ Some u → unknown ms (sites_in t) ≡ [] → unfit ms (sites_in t) ≡ [] → repeated u.params ≡ []
  call_fits x y p t u c e g k f =
      let among : Contains (sites_in t) c.site = subst (λ (q : ModuleTree). Contains (sites_in q) c.site) (same_tree c.tree t (sym c.found ∙ e)) c.among in
      let h : IsFitCall c.site = every_among IsFitCall (sites_in t) c.site among (all_fit (sites_in t) (all_found ms (sites_in t) k) f) in
      let same : h.tree ≡ u = same_tree h.tree u (sym h.found ∙ (ap (module_named ms) c.name ∙ g)) in
      subst (λ (q : ModuleTree). repeated q.params ≡ []) same h.fit.apart
