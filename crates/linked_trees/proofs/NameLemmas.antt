-- Names in a called block stand for the variables of the whole that its own names stand for: expressions by induction, where
-- the linked module names nothing that is undeclared. Variables and their declarations, by number.
use Rattle.std.proofs.Common.{◌≡◌, ◌<◌, ◌≤◌, ℕ, zero, suc, ◌+◌, Bool, true, false, List, [], ◌∷◌, ◌++◌, length, map, Option, Some, None, option_map, unwrap_or, is_none, refl, sym, ap, ap₂, ◌∙◌, subst, arith}
use Rattle.std.specs.Prelude.{slice_get}
use Rattle.quartz_tree.specs.declared.place.Place.{Place}
use Rattle.quartz_tree.specs.declared.declare.Decl.{Decl}
use Rattle.quartz_tree.specs.declared.declare.Var.{Var}
use Rattle.quartz_tree.specs.declared.declare.Ty.{Ty}
use Rattle.quartz_tree.specs.declared.declare.Init.{Init}
use Rattle.quartz_tree.specs.declared.expr.Unary.TheVariants.{Not}
use Rattle.quartz_tree.specs.Surfaces.{Word, Goal}
use Rattle.quartz_tree.specs.Tree.{Tree, truth, number, bits, named, element, one, two, choice, slice, to_nat, to_bv, paren, place_of}
use Rattle.quartz_tree.specs.Expand.{negated}
use Rattle.quartz_expr.specs.Kinds.{place_if}
use Rattle.quartz_expr.specs.Vars.{Vars}
use Rattle.quartz_expr.proofs.TruthLemmas.{none_left}
use Rattle.quartz_names.specs.Scopes.{Scope, number_in}
use Rattle.quartz_names.specs.Numbering.{renamed}
use Rattle.quartz_names.specs.NameRules.{undeclared_at, undeclared, undeclared_in_index, undeclared_in_goal}
use Rattle.quartz_names.specs.Starts.{start_value}
use Rattle.framed_terms.specs.Similar.{Carry, carried, Same, SameIndex, i_none, i_some, s_truth, s_number, s_bits, s_named, s_element, s_one, s_two, s_choice, s_slice, s_to_nat, s_to_bv, s_paren}
use Rattle.linked_trees.specs.Naming.{Names}
use Rattle.linked_trees.specs.Linking.{respelled, respelled_goal}

-- each name stands for what it stands for in the whole
abbrev pub AgreeOn : Scope → Scope → Names → Carry → Type 0
AgreeOn sc all s f = (x : Word) → all (s x) ≡ carried f (sc x)

pub seen : (sc all : Scope) (s : Names) (f : Carry) (x : Word) (p : Place) → AgreeOn sc all s f → undeclared_at all (s x) p ≡ [] → f (number_in sc x) ≡ Some (number_in all (s x))
seen sc all s f x p g h = at (sc x) (all (s x)) (g x) h
  where
    at : (o u : Option ℕ) → u ≡ carried f o → place_if (is_none u) p ≡ [] → f (unwrap_or o 0) ≡ Some (unwrap_or u 0)
    at None None e h = absurd (cc)
    at None (Some y) e h = absurd (cc)
    at (Some z) None e h = absurd (cc)
    at (Some z) (Some y) e h = sym e

pub same_expr : (sc all : Scope) (s : Names) (f : Carry) (e : Tree Word) → AgreeOn sc all s f → undeclared all (respelled s e) ≡ [] → Same f (renamed sc e) (renamed all (respelled s e))
same_expr sc all s f (truth b p) g h = s_truth b p
same_expr sc all s f (number n p) g h = s_number n p
same_expr sc all s f (bits w n p) g h = s_bits w n p
same_expr sc all s f (named x p) g h = s_named _ _ p (seen sc all s f x p g h)
same_expr sc all s f (element x i p) g h =
    let k = none_left (undeclared_at all (s x) p) _ h in
    s_element _ _ _ _ p (seen sc all s f x p g k.0) (same_expr sc all s f i g k.1)
same_expr sc all s f (one op a p) g h = s_one op _ _ p (same_expr sc all s f a g h)
same_expr sc all s f (two op a b p) g h =
    let k = none_left (undeclared all (respelled s a)) _ h in
    s_two op _ _ _ _ p (same_expr sc all s f a g k.0) (same_expr sc all s f b g k.1)
same_expr sc all s f (choice c a b p) g h =
    let k = none_left (undeclared all (respelled s c)) _ h in
    let l = none_left (undeclared all (respelled s a)) _ k.1 in
    s_choice _ _ _ _ _ _ p (same_expr sc all s f c g k.0) (same_expr sc all s f a g l.0) (same_expr sc all s f b g l.1)
same_expr sc all s f (slice a hi lo p) g h = s_slice _ _ hi lo p (same_expr sc all s f a g h)
same_expr sc all s f (to_nat a p) g h = s_to_nat _ _ p (same_expr sc all s f a g h)
same_expr sc all s f (to_bv a w q p) g h = s_to_bv _ _ w q p (same_expr sc all s f a g h)
same_expr sc all s f (paren a p) g h = s_paren _ _ p (same_expr sc all s f a g h)

pub same_index : (sc all : Scope) (s : Names) (f : Carry) (i : Option (Tree Word)) → AgreeOn sc all s f → undeclared_in_index all (option_map (respelled s) i) ≡ []
    → SameIndex f (option_map (renamed sc) i) (option_map (renamed all) (option_map (respelled s) i))
same_index sc all s f None g h = i_none
same_index sc all s f (Some i) g h = i_some _ _ (same_expr sc all s f i g h)

pub same_place : (s : Names) (e : Tree Word) → place_of (respelled s e) ≡ place_of e
same_place s (truth b p) = refl
same_place s (number n p) = refl
same_place s (bits w n p) = refl
same_place s (named x p) = refl
same_place s (element x i p) = refl
same_place s (one op a p) = refl
same_place s (two op a b p) = refl
same_place s (choice c a b p) = refl
same_place s (slice a h l p) = refl
same_place s (to_nat a p) = refl
same_place s (to_bv a w q p) = refl
same_place s (paren a p) = refl

pub same_negated : (sc all : Scope) (s : Names) (f : Carry) (c : Tree Word) → AgreeOn sc all s f → undeclared all (negated (respelled s c)) ≡ [] → Same f (renamed sc (negated c)) (renamed all (negated (respelled s c)))
same_negated sc all s f c g h =
    subst (λ (p : Place). Same f (one Not (renamed sc c) (place_of c)) (one Not (renamed all (respelled s c)) p)) (sym (same_place s c)) (s_one Not _ _ (place_of c) (same_expr sc all s f c g h))

-- ---- variables and their declarations

pub record IsDecl (vs : Vars) (x : ℕ) (d : Decl) : Type 0 where
  pub var : Var
  pub at : slice_get vs x ≡ Some var
  pub decl : var.decl ≡ d
  pub start : var.start ≡ start_value d

-- the variables from x on have these declarations
abbrev pub Has : Vars → ℕ → List Decl → Type 0
Has vs x [] = Unit {0}
Has vs x (d ∷ ds) = IsDecl vs x d × Has vs (x + 1) ds

pub has_parts : (vs : Vars) (x : ℕ) (ds es : List Decl) → Has vs x (ds ++ es) → Has vs x ds × Has vs (x + length ds) es
has_parts vs x [] es h = (tt, subst (λ (n : ℕ). Has vs n es) (omega arith) h)
has_parts vs x (d ∷ ds) es h =
    let g = has_parts vs (x + 1) ds es h.1 in
    ((h.0, g.0), subst (λ (n : ℕ). Has vs n es) (omega arith) g.1)
