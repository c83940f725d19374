-- Scopes as a table keeps them, and names that are put back.
use Rattle.std.proofs.Common.{◌≡◌, ℕ, ◌+◌, Bool, true, false, List, [], ◌∷◌, ◌++◌, Option, Some, None, is_some, ◌||◌, cond, if◌then◌else◌, refl, sym, ap, ◌∙◌}
use Rattle.std.proofs.Math.Path.{fun_ext}
use Rattle.std.specs.Bool.{Decides}
use Rattle.std.specs.Str.{bytes_eq}
use Rattle.std.proofs.lemmas.Slice.Eq.{bytes_eq-Decides}
use Rattle.quartz_tree.specs.declared.declare.Decl.{Decl}
use Rattle.quartz_tree.specs.Surfaces.{Word}
use Rattle.quartz_names.specs.declared.walk.Hidden.{Hidden}
use Rattle.quartz_names.specs.Scopes.{Scope, standing, declared}
use Rattle.quartz_names.specs.declared.names.Names.{Names}
use Rattle.quartz_names.specs.Walks.{flat, scope_of, restored, hidden_by}
use Rattle.indexmap.specs.IndexMap.{UpdatesBy, get_by_text}
use Rattle.std.specs.String.{string_bytes, string_eq}
use Rattle.std.proofs.lemmas.Map.Text.{hash_map_updates_text}

-- putting back what a name stood for
at_test : (b : Bool) (sc : Scope) (x y : Word) (n : Option ℕ) → Decides b (x ≡ y) → (if b then sc x else (if b then n else sc y)) ≡ sc y
at_test true sc x y n h = ap sc (h.0 refl)
at_test false sc x y n h = refl

same_there : (sc : Scope) (x : Word) (n : Option ℕ) (y : Word) → standing (standing sc x n) x (sc x) y ≡ sc y
same_there sc x n y = at_test (bytes_eq x y) sc x y n (bytes_eq-Decides x y)

pub put_back : (sc : Scope) (x : Word) (n : Option ℕ) → standing (standing sc x n) x (sc x) ≡ sc
put_back sc x n = fun_ext (same_there sc x n)

-- names that are put back stand for what they stood for before the declarations
pub restored_declared : (sc : Scope) (n : ℕ) (ds : List Decl) → restored (declared sc n ds) (hidden_by sc n ds) ≡ sc
restored_declared sc n [] = refl
restored_declared sc n (d ∷ ds) = ap (λ s. standing s d.name (sc d.name)) (restored_declared (standing sc d.name (Some n)) (n + 1) ds) ∙ put_back sc d.name (Some n)

-- the last of a list is put back first
pub restored_last : (sc : Scope) (hs : List Hidden) (h : Hidden) → restored sc (hs ++ h ∷ []) ≡ restored (standing sc h.name h.number) hs
restored_last sc [] h = refl
restored_last sc (g ∷ gs) h = ap (λ s. standing s g.name g.number) (restored_last sc gs h)

flat_at : (b : Bool) (n : Option ℕ) (o : Option (Option ℕ)) → flat (cond b (Some n) o) ≡ (if b then n else flat o)
flat_at true n o = refl
flat_at false n o = refl

-- a table after an insertion
pub set_stands : (ns ms : Names) (x : Word) (n : Option ℕ) → UpdatesBy string_eq (λ k. bytes_eq x (string_bytes k)) ns.numbers ms.numbers (Some n) → scope_of ms ≡ standing (scope_of ns) x n
set_stands ns ms x n u = fun_ext (λ q. ap flat (hash_map_updates_text x ns.numbers ms.numbers (Some n) u q) ∙ flat_at (bytes_eq x q) n (get_by_text ns.numbers q))

-- the names that were seen, once one more is
seen_test : (b : Bool) (o : Option ℕ) → is_some (if b then Some 0 else o) ≡ (b || is_some o)
seen_test true o = refl
seen_test false o = refl

pub seen_after : (sc new : Scope) (x : Word) → new ≡ standing sc x (Some 0) → ◌≡◌ {A = Word → Bool} (λ y. bytes_eq x y || is_some (sc y)) (λ y. is_some (new y))
seen_after sc new x e = fun_ext (λ y. sym (ap (λ s. is_some (s y)) e ∙ seen_test (bytes_eq x y) (sc y)))
