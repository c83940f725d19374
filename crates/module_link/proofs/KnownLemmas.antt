-- What is declared where a statement stands is a variable that its name stands for. Scopes let the last of two
-- declarations of one list count and the rules of calls the first; where no list repeats a name, both mean the same.
use Rattle.std.proofs.Common.{◌≡◌, ℕ, ◌+◌, Bool, true, false, ◌||◌, List, [], ◌∷◌, ◌++◌, map, Option, Some, None, unwrap_or, if◌then◌else◌, refl, sym, ap, ◌∙◌, subst}
use Rattle.std.proofs.lemmas.Slice.Eq.{bytes_eq-Decides}
use Rattle.std.specs.Bool.{Decides}
use Rattle.std.specs.Prelude.{slice_get}
use Rattle.std.specs.Str.{bytes_eq}
use Rattle.quartz_tree.specs.declared.declare.Decl.{Decl}
use Rattle.quartz_tree.specs.declared.declare.Var.{Var}
use Rattle.quartz_tree.specs.declared.place.Place.{Place}
use Rattle.quartz_tree.specs.Surfaces.{Word}
use Rattle.quartz_expr.specs.Kinds.{place_if}
use Rattle.quartz_expr.specs.Vars.{Vars}
use Rattle.quartz_expr.proofs.TruthLemmas.{none_left}
use Rattle.quartz_names.specs.NameRules.{repeated, repeated_after}
use Rattle.quartz_names.specs.Scopes.{Scope, declared, standing}
use Rattle.linked_trees.specs.Linking.{local_name, renamed_decl}
use Rattle.linked_trees.proofs.NameLemmas.{Has}
use Rattle.linked_trees.proofs.ScopeLemmas.{equal_names}
use Rattle.call_rules.specs.Around.{Declared, declaring}

-- ---- lists that repeat no name

abbrev pub NotIn : Word → List Decl → Type 0
NotIn x [] = Unit {0}
NotIn x (d ∷ ds) = (d.name ≡ x → ⊥) × NotIn x ds

abbrev pub Differ : List Decl → Type 0
Differ [] = Unit {0}
Differ (d ∷ ds) = NotIn d.name ds × Differ ds

not_placed : (b : Bool) (p : Place) → place_if b p ≡ [] → b ≡ true → ⊥
not_placed true p e h = absurd (cc)
not_placed false p e h = absurd (cc)

or_right : (a b : Bool) → b ≡ true → (a || b) ≡ true
or_right true b e = refl
or_right false b e = e

or_left : (a b : Bool) → a ≡ true → (a || b) ≡ true
or_left true b e = refl
or_left false b e = absurd (cc)

same_name : (x : Word) → bytes_eq x x ≡ true
same_name x = at (bytes_eq x x) (bytes_eq-Decides x x)
  where
    at : (b : Bool) → Decides b (x ≡ x) → b ≡ true
    at true h = refl
    at false h = h.1 refl

apart_names : (x y : Word) → (x ≡ y → ⊥) → bytes_eq x y ≡ false
apart_names x y n = at (bytes_eq x y) refl
  where
    at : (b : Bool) → bytes_eq x y ≡ b → b ≡ false
    at true e = absurd (n (equal_names x y e))
    at false e = refl

not_in_after : (seen : Word → Bool) (x : Word) (ds : List Decl) → seen x ≡ true → repeated_after seen ds ≡ [] → NotIn x ds
not_in_after seen x [] s e = tt
not_in_after seen x (d ∷ ds) s e =
    let h = none_left (place_if (seen d.name) d.place) _ e in
    ((λ q. not_placed (seen d.name) d.place h.0 (ap seen q ∙ s)), not_in_after (λ y. bytes_eq d.name y || seen y) x ds (or_right (bytes_eq d.name x) (seen x) s) h.1)

differ_after : (seen : Word → Bool) (ds : List Decl) → repeated_after seen ds ≡ [] → Differ ds
differ_after seen [] e = tt
differ_after seen (d ∷ ds) e =
    let h = none_left (place_if (seen d.name) d.place) _ e in (
      not_in_after (λ y. bytes_eq d.name y || seen y) d.name ds (or_left (bytes_eq d.name d.name) (seen d.name) (same_name d.name)) h.1,
      differ_after (λ y. bytes_eq d.name y || seen y) ds h.1,
    )

pub unrepeated : (ds : List Decl) → repeated ds ≡ [] → Differ ds
unrepeated ds e = differ_after (λ _. false) ds e

-- renaming keeps repetitions
module _ (dotted : Word → ℕ → Word) (o : Option ℕ) where
  not_in_renamed : (x : Word) (ds : List Decl) → NotIn (local_name dotted o x) (map (renamed_decl dotted o) ds) → NotIn x ds
  not_in_renamed x [] h = tt
  not_in_renamed x (d ∷ ds) h = ((λ q. h.0 (ap (local_name dotted o) q)), not_in_renamed x ds h.1)

  differ_renamed : (ds : List Decl) → Differ (map (renamed_decl dotted o) ds) → Differ ds
  differ_renamed [] h = tt
  differ_renamed (d ∷ ds) h = (not_in_renamed d.name ds h.0, differ_renamed ds h.1)

  pub unrepeated_renamed : (ds : List Decl) → repeated (map (renamed_decl dotted o) ds) ≡ [] → Differ ds
  unrepeated_renamed ds e = differ_renamed ds (unrepeated (map (renamed_decl dotted o) ds) e)

-- ---- what is declared

-- a name that stands for this stands for a variable that is declared so
pub record KnownAs (vs : Vars) (o : Option ℕ) (d : Decl) : Type 0 where
  pub number : ℕ
  pub var : Var
  pub stands : o ≡ Some number
  pub at : slice_get vs number ≡ Some var
  pub decl : var.decl ≡ d

abbrev pub Knows : Vars → Scope → Declared → Type 0
Knows vs sc around = (x : Word) (d : Decl) → around x ≡ Some d → KnownAs vs (sc x) d

declared_other : (sc : Scope) (n : ℕ) (ds : List Decl) (y : Word) → NotIn y ds → declared sc n ds y ≡ sc y
declared_other sc n [] y h = refl
declared_other sc n (d ∷ ds) y h = declared_other (standing sc d.name (Some n)) (n + 1) ds y h.1 ∙ ap (λ (b : Bool). if b then Some n else sc y) (apart_names d.name y h.0)

known_at : (vs : Vars) (sc : Scope) (around : Declared) (n : ℕ) (ds : List Decl) (y : Word) (d : Decl) → ((e : Decl) → around y ≡ Some e → KnownAs vs (sc y) e) → Has vs n ds → Differ ds
    → declaring around ds y ≡ Some d → KnownAs vs (declared sc n ds y) d
known_at vs sc around n [] y d k h u e = k d e
known_at vs sc around n (c ∷ ds) y d k h u e =
    at (bytes_eq c.name y) refl e
    (λ q i. known_at vs (standing sc c.name (Some n)) around (n + 1) ds y d (λ f j. subst (λ (o : Option ℕ). KnownAs vs o f) (sym (ap (λ (b : Bool). if b then Some n else sc y) q)) (k f j)) h.1 u.1 i)
  where
    at : (b : Bool) → bytes_eq c.name y ≡ b → (if b then Some c else declaring around ds y) ≡ Some d
        → (bytes_eq c.name y ≡ false → declaring around ds y ≡ Some d → KnownAs vs (declared (standing sc c.name (Some n)) (n + 1) ds y) d) → KnownAs vs (declared (standing sc c.name (Some n)) (n + 1) ds y) d
    at true q i rest = record {
      number = n;
      var = h.0.var;
      stands = declared_other (standing sc c.name (Some n)) (n + 1) ds y (subst (λ (x : Word). NotIn x ds) (equal_names c.name y q) u.0) ∙ ap (λ (b : Bool). if b then Some n else sc y) q;
      at = h.0.at;
      decl = h.0.decl ∙ ap (λ (o : Option Decl). unwrap_or o c) i;
    }
    at false q i rest = rest q i

pub known_behind : (vs : Vars) (sc : Scope) (around : Declared) (n : ℕ) (ds : List Decl) → Knows vs sc around → Has vs n ds → Differ ds → Knows vs (declared sc n ds) (declaring around ds)
known_behind vs sc around n ds k h u y d e = known_at vs sc around n ds y d (k y) h u e
