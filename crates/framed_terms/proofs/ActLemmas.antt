-- Acts over the variables of the whole are the same writes. An act is one of x exactly where its fellow is one of y, so
-- what is written, resolved and in conflict is the same; leaving a scope takes the same acts away, and leaving a frame turns
-- acts on parameters into acts on what the parameters are.
use Rattle.std.proofs.Common.{◌≡◌, ℕ, ◌+◌, ℤ, Bool, true, false, List, [], ◌∷◌, ◌++◌, map, Option, Some, None, unwrap_or, if◌then◌else◌, refl, sym, ap, ap₂, ◌∙◌, subst, arith}
use Rattle.std.proofs.lemmas.Bool.Decides.{nat_tests}
use Rattle.std.specs.Prelude.{◌==◌, ◌&&◌, slice_get}
use Rattle.quartz_tree.specs.declared.place.Place.{Place}
use Rattle.quartz_tree.specs.declared.declare.Storage.{Storage}
use Rattle.quartz_tree.specs.declared.fault.Fault.{Fault}
use Rattle.quartz_expr.specs.declared.act.Act.{Act}
use Rattle.quartz_expr.specs.declared.act.Kept.{Kept}
use Rattle.quartz_expr.specs.Terms.{Store}
use Rattle.quartz_expr.specs.Resolve.{same_bool, is_write_of, writes_of, others, given_store, resolved_store, store_conflicts, conflicts, kept, resolved}
use Rattle.framed_terms.specs.Framed.{passed, passed_act}
use Rattle.framed_terms.specs.Similar.{Carry, carried, inner, opened, SameActs, a_none, a_more}

pub same_append : (f : Carry) (a b c d : List Act) → SameActs f a b → SameActs f c d → SameActs f (a ++ c) (b ++ d)
same_append f _ _ c d a_none s = s
same_append f _ _ c d (a_more a b ws us e g h k t) s = a_more a b (ws ++ c) (us ++ d) e g h k (same_append f ws us c d t s)

-- an act is one of x exactly where it is one of y
abbrev pub Tells : Carry → (x y : ℕ) → Type 0
Tells f x y = (z w : ℕ) → f z ≡ Some w → (z == x) ≡ (w == y)

same_test : (x y n : ℕ) (d : Bool) (a b : Act) → (a.var == x) ≡ (b.var == y) → a.element ≡ b.element → a.delayed ≡ b.delayed → is_write_of x n d a ≡ is_write_of y n d b
same_test x y n d a b e g h = ap₂ (λ (p q : Bool). p && q) e (ap₂ (λ (p : ℕ) (q : Bool). (p == n) && same_bool q d) g h)

pub same_writes : (f : Carry) (x y n : ℕ) (d : Bool) (a b : List Act) → Tells f x y → SameActs f a b → writes_of x n d a ≡ writes_of y n d b
same_writes f x y n d _ _ l a_none = refl
same_writes f x y n d _ _ l (a_more a b ws us e g h k t) =
    let r : writes_of x n d ws ≡ writes_of y n d us = same_writes f x y n d ws us l t in
    ap (λ (c : Bool). if c then a.value ∷ writes_of x n d ws else writes_of x n d ws) (same_test x y n d a b (l a.var b.var e) g k)
    ∙ ap₂ (λ (z : ℤ) (l : List ℤ). if is_write_of y n d b then z ∷ l else l) h r

pub same_given : (f : Carry) (x y n : ℕ) (a b : List Act) (v : List ℤ) → Tells f x y → SameActs f a b → given_store x a n v ≡ given_store y b n v
same_given f x y n a b [] l s = refl
same_given f x y n a b (z ∷ v) l s = ap₂ (λ (ws : List ℤ) (ks : Store). kept z ws ∷ ks) (same_writes f x y n true a b l s) (same_given f x y (n + 1) a b v l s)

pub same_resolved : (f : Carry) (s : Storage) (x y n : ℕ) (a b : List Act) (ks : Store) → Tells f x y → SameActs f a b → resolved_store s x a n ks ≡ resolved_store s y b n ks
same_resolved f s x y n a b [] l t = refl
same_resolved f s x y n a b (k ∷ ks) l t =
    ap₂ (λ (r : Kept) (ks : Store). r ∷ ks) (ap₂ (λ (u w : List ℤ). kept (resolved s k u) w) (same_writes f x y n false a b l t) (same_writes f x y n true a b l t)) (same_resolved f s x y (n + 1) a b ks l t)

pub same_conflicts : (f : Carry) (p : Place) (x y n : ℕ) (a b : List Act) (v : List ℤ) → Tells f x y → SameActs f a b → store_conflicts p x a n v ≡ store_conflicts p y b n v
same_conflicts f p x y n a b [] l s = refl
same_conflicts f p x y n a b (z ∷ v) l s =
    ap₂ (λ (g h : List Fault). g ++ h) (ap₂ (conflicts p z) (same_writes f x y n false a b l s) (same_writes f x y n true a b l s)) (same_conflicts f p x y (n + 1) a b v l s)

-- ---- a scope's variable

-- no visible variable is y
abbrev pub IsNew : Carry → ℕ → Type 0
IsNew f y = (z w : ℕ) → f z ≡ Some w → (w == y) ≡ false

same_number : (y w : ℕ) → y ≡ w → (w == y) ≡ true
same_number y w e = grind (arith, nat_tests, e)

some_same : (y w : ℕ) → Some y ≡ Some w → y ≡ w
some_same y w e = ap (λ o. unwrap_or o 0) e

pub opened_tells : (f : Carry) (x y : ℕ) → IsNew f y → Tells (opened f x y) x y
opened_tells f x y n z w e = at (z == x) e
  where
    at : (b : Bool) → (if b then Some y else f z) ≡ Some w → b ≡ (w == y)
    at true e = sym (same_number y w (some_same y w e))
    at false e = sym (n z w e)

pub opened_else : (f : Carry) (x y z w : ℕ) → (z == x) ≡ false → opened f x y z ≡ Some w → f z ≡ Some w
opened_else f x y z w h e = ap (λ (b : Bool). if b then Some y else f z) (sym h) ∙ e

pub same_others : (f : Carry) (x y : ℕ) (a b : List Act) → IsNew f y → SameActs (opened f x y) a b → SameActs f (others x a) (others y b)
same_others f x y _ _ n a_none = a_none
same_others f x y _ _ n (a_more a b ws us e g h k t) = at (a.var == x) (b.var == y) refl (opened_tells f x y n a.var b.var e) (same_others f x y ws us n t)
  where
    at : (c d : Bool) → (a.var == x) ≡ c → c ≡ d → SameActs f (others x ws) (others y us) → SameActs f (if c then others x ws else a ∷ others x ws) (if d then others y us else b ∷ others y us)
    at true true i j r = r
    at true false i j r = absurd (cc)
    at false true i j r = absurd (cc)
    at false false i j r = a_more a b _ _ (opened_else f x y a.var b.var i e) g h k r

-- ---- a parameter

argument : (f : Carry) (o : Option ℕ) (w : ℕ) → carried f o ≡ Some w → f (unwrap_or o 0) ≡ Some w
argument f None w e = absurd (cc)
argument f (Some x) w e = e

pub same_passed : (f : Carry) (args : List ℕ) (a b : List Act) → SameActs (inner f args) a b → SameActs f (passed args a) b
same_passed f args _ _ a_none = a_none
same_passed f args _ _ (a_more a b ws us e g h k t) = a_more (passed_act args a) b (passed args ws) us (argument f (slice_get args a.var) b.var e) g h k (same_passed f args ws us t)
