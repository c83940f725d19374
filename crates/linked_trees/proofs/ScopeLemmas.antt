-- The scope of a module beside that of the whole: what a name becomes stands for what the name stands for. This goes on behind
-- a declaration, whose new variable no visible one is, since its number is the next one; and whose new name no visible one
-- has, since it has the number of its call.
use Rattle.std.proofs.Common.{◌≡◌, ◌<◌, ◌≤◌, ℕ, zero, suc, ◌+◌, ℤ, Bool, true, false, List, [], ◌∷◌, ◌++◌, length, map, Option, Some, None, unwrap_or, if◌then◌else◌, refl, sym, ap, ap₂, ◌∙◌, subst, arith}
use Rattle.std.proofs.lemmas.Bool.Decides.{nat_tests}
use Rattle.std.proofs.lemmas.Slice.Eq.{bytes_eq-Decides}
use Rattle.std.specs.Bool.{Decides}
use Rattle.std.specs.Prelude.{◌==◌, slice_get}
use Rattle.std.specs.Str.{bytes_eq}
use Rattle.quartz_tree.specs.declared.declare.Decl.{Decl}
use Rattle.quartz_tree.specs.declared.declare.Var.{Var}
use Rattle.quartz_tree.specs.declared.declare.Ty.{Ty}
use Rattle.quartz_tree.specs.Surfaces.{Word}
use Rattle.quartz_expr.specs.Vars.{Vars, read}
use Rattle.quartz_expr.specs.Intervals.{Interval, nought, range_of, type_interval}
use Rattle.quartz_expr.specs.Terms.{term_of}
use Rattle.quartz_tree.specs.Kernel.{Kernel}
use Rattle.quartz_tree.specs.Kernel as kernel
use Rattle.quartz_names.specs.Scopes.{Scope, standing, declared}
use Rattle.quartz_names.specs.Numbering as numbering
use Rattle.quartz_names.specs.Starts.{start_value}
use Rattle.framed_terms.specs.Framed.{Framed, Meanings}
use Rattle.framed_terms.specs.Similar.{Carry, carried, opened, IsLike, LikeTypes, IsLocal, Sim, s_scope}
use Rattle.linked_trees.specs.Naming.{Names, given}
use Rattle.linked_trees.specs.Framing.{around}
use Rattle.linked_trees.specs.Linking.{local_name, renamed_decl, entered}
use Rattle.linked_trees.specs.Dotted.{Dots}
use Rattle.linked_trees.proofs.NameLemmas.{AgreeOn, IsDecl, Has}

-- ---- names

pub equal_names : (x y : Word) → bytes_eq x y ≡ true → x ≡ y
equal_names x y e = at (bytes_eq x y) (bytes_eq-Decides x y) e
  where
    at : (b : Bool) → Decides b (x ≡ y) → b ≡ true → x ≡ y
    at true h e = h.0 refl
    at false h e = absurd (cc)

pub other_names : (x y : Word) → bytes_eq x y ≡ false → x ≡ y → ⊥
other_names x y e g = at (bytes_eq x y) (bytes_eq-Decides x y) e
  where
    at : (b : Bool) → Decides b (x ≡ y) → b ≡ false → ⊥
    at true h e = absurd (cc)
    at false h e = let k : false ≡ true = h.1 g in absurd (cc)

-- where one of two names is given something else
pub by_name : {A : Type 0} (P : A → Type 0) (x y : Word) (a b : A) → (x ≡ y → P a) → ((x ≡ y → ⊥) → P b) → P (if bytes_eq x y then a else b)
by_name {A} P x y a b g h = at (bytes_eq x y) refl
  where
    at : (c : Bool) → bytes_eq x y ≡ c → P (if c then a else b)
    at true e = g (equal_names x y e)
    at false e = h (other_names x y e)

-- ---- declared variables are alike

read_at : {A : Type 0} (d : A) (g : Var → A) (vs : Vars) (x : ℕ) (v : Var) → slice_get vs x ≡ Some v → read d g (slice_get vs x) ≡ g v
read_at d g vs x v e = ap (read d g) e

range_at : (vs : Vars) (x : ℕ) (v : Var) → slice_get vs x ≡ Some v → range_of vs x ≡ type_interval v.decl.ty
range_at vs x v e = ap (λ (o : Option Var). elim o as (λ _. Interval) [ None ↦ nought | Some w ↦ type_interval w.decl.ty ]) e

pub like_at : (vs ws : Vars) (x y : ℕ) (v w : Var) → slice_get vs x ≡ Some v → slice_get ws y ≡ Some w → v.decl.ty ≡ w.decl.ty → IsLike vs ws x y
like_at vs ws x y v w e g h = record {
  base = read_at _ (λ (v : Var). v.decl.ty.base) vs x v e ∙ ap (λ (t : Ty). t.base) h ∙ sym (read_at _ (λ (v : Var). v.decl.ty.base) ws y w g);
  len = read_at _ (λ (v : Var). v.decl.ty.len) vs x v e ∙ ap (λ (t : Ty). t.len) h ∙ sym (read_at _ (λ (v : Var). v.decl.ty.len) ws y w g);
  range = range_at vs x v e ∙ ap type_interval h ∙ sym (range_at ws y w g);
}

placed : {A : Type 0} (xs : List A) (x : ℕ) (v : A) → slice_get xs x ≡ Some v → x < length xs
placed [] x v e = absurd (cc)
placed (y ∷ ys) zero v e = omega arith
placed (y ∷ ys) (suc x) v e = let h : x < length ys = placed ys x v e in omega (arith, h)

same_read : {A : Type 0} (d : A) (g : Var → A) (vs ws : Vars) (x y : ℕ) (v w : Var) → slice_get vs x ≡ Some v → slice_get ws y ≡ Some w → g v ≡ g w → read d g (slice_get vs x) ≡ read d g (slice_get ws y)
same_read d g vs ws x y v w e h k = read_at d g vs x v e ∙ k ∙ sym (read_at d g ws y w h)

-- ---- both scopes

module _ (is_plain : Word → Bool) (dotted : Word → ℕ → Word) (most : ℕ) (us : Meanings) (ws : Vars) where
  -- in the call o, where the next call has the number c, and n and k are the numbers of the next locals
  pub record Scopes (o : Option ℕ) (vs : Vars) (c : ℕ) (sc all : Scope) (s : Names) (f : Carry) (n k : ℕ) : Type 0 where
    pub agree : AgreeOn sc all s f
    pub fresh : (x : Word) (m : ℕ) → c ≤ m → m < most → all (dotted x m) ≡ None
    pub own : (x d : Word) → s x ≡ local_name dotted o d → x ≡ d
    pub old : (x d : Word) (m z : ℕ) → sc x ≡ Some z → c ≤ m → m < most → s x ≡ dotted d m → ⊥
    pub early : (d x : Word) (m : ℕ) → is_plain d ≡ true → c ≤ m → m < most → local_name dotted o d ≡ dotted x m → ⊥
    pub near : (x : Word) (z : ℕ) → sc x ≡ Some z → z < n
    pub below : (z w : ℕ) → f z ≡ Some w → w < k
    pub types : LikeTypes us ws vs f

  pub later : (o : Option ℕ) (vs : Vars) (c i : ℕ) (sc all : Scope) (s : Names) (f : Carry) (n k a b : ℕ) → Scopes o vs c sc all s f n k → Scopes o vs (c + i) sc all s f (n + a) (k + b)
  later o vs c i sc all s f n k a b h = record {
    agree = h.agree;
    fresh = λ x m e b. h.fresh x m (omega (arith, e)) b;
    own = h.own;
    old = λ x d m z e g b. h.old x d m z e (omega (arith, g)) b;
    early = λ d x m p e b. h.early d x m p (omega (arith, e)) b;
    near = λ x z e. let g = h.near x z e in omega (arith, g);
    below = λ z w e. let g = h.below z w e in omega (arith, g);
    types = h.types;
  }

  differs : (n z : ℕ) → z < n → (z == n) ≡ false
  differs n z h = grind (arith, nat_tests, h)

  pub local_at : (o : Option ℕ) (vs : Vars) (f : Carry) (n k : ℕ) (d : Decl) → ((z w : ℕ) → f z ≡ Some w → w < k) → IsDecl vs n d → IsDecl ws k (renamed_decl dotted o d) → IsLocal us ws vs f n k
  local_at o vs f n k d b g h =
      let d_is : g.var.decl ≡ d = g.decl in
      record {
        near = placed vs n g.var g.at;
        far = placed ws k h.var h.at;
        new = λ z w e. differs k w (b z w e);
        like = like_at vs ws n k g.var h.var g.at h.at (ap (λ (d : Decl). d.ty) g.decl ∙ sym (ap (λ (d : Decl). d.ty) h.decl));
        storage = same_read _ (λ (v : Var). v.decl.storage) vs ws n k g.var h.var g.at h.at (ap (λ (d : Decl). d.storage) g.decl ∙ sym (ap (λ (d : Decl). d.storage) h.decl));
        start = same_read _ (λ (v : Var). v.start) vs ws n k g.var h.var g.at h.at (g.start ∙ sym h.start);
        place = same_read _ (λ (v : Var). v.decl.place) vs ws n k g.var h.var g.at h.at (ap (λ (d : Decl). d.place) g.decl ∙ sym (ap (λ (d : Decl). d.place) h.decl));
      }

  opened_same : (f : Carry) (n k : ℕ) → opened f n k n ≡ Some k
  opened_same f n k = let e : (n == n) ≡ true = grind (arith, nat_tests) in ap (λ (b : Bool). if b then Some k else f n) e

  opened_else : (f : Carry) (n k : ℕ) (o : Option ℕ) → ((z : ℕ) → o ≡ Some z → z < n) → carried (opened f n k) o ≡ carried f o
  opened_else f n k None h = refl
  opened_else f n k (Some z) h = ap (λ (b : Bool). if b then Some k else f z) (differs n z (h z refl))

  -- behind a declaration
  same_local : Dots is_plain dotted most → (o : Option ℕ) (x y : Word) → local_name dotted o x ≡ local_name dotted o y → x ≡ y
  same_local h None x y e = e
  same_local h (Some n) x y e = h.name x y n e

  pub behind : Dots is_plain dotted most → (o : Option ℕ) (vs : Vars) (c : ℕ) (sc all : Scope) (s : Names) (f : Carry) (n k : ℕ) (d : Decl) → is_plain d.name ≡ true → IsLocal us ws vs f n k → Scopes o vs c sc all s f n k
      → Scopes o vs c (standing sc d.name (Some n)) (standing all (local_name dotted o d.name) (Some k)) (given s d.name (local_name dotted o d.name)) (opened f n k) (n + 1) (k + 1)
  behind dots o vs c sc all s f n k d p l h = record {
    agree = λ x. agrees x;
    fresh = λ x m e b. by_name (λ (u : Option ℕ). u ≡ None) (local_name dotted o d.name) (dotted x m) (Some k) (all (dotted x m)) (λ g. absurd (h.early d.name x m p e b g)) (λ g. h.fresh x m e b);
    own = λ x y e. owns x y e;
    old = λ x y m z e g b. olds x y m z e g b;
    early = h.early;
    near = λ x z e. nears x z e;
    below = λ z w e. belows z w (z == n) e;
    types = λ z w e. types z w (z == n) refl e;
  }
    where
      agrees : (x : Word) → standing all (local_name dotted o d.name) (Some k) (given s d.name (local_name dotted o d.name) x) ≡ carried (opened f n k) (standing sc d.name (Some n) x)
      agrees x = at (bytes_eq d.name x) (equal_names d.name x) (other_names d.name x)
        where
          at : (b : Bool) → (b ≡ true → d.name ≡ x) → (b ≡ false → d.name ≡ x → ⊥)
              → standing all (local_name dotted o d.name) (Some k) (if b then local_name dotted o d.name else s x) ≡ carried (opened f n k) (if b then Some n else sc x)
          at true g i = by_name (λ (u : Option ℕ). u ≡ opened f n k n) (local_name dotted o d.name) (local_name dotted o d.name) (Some k) (all (local_name dotted o d.name)) (λ j. sym (opened_same f n k)) (λ j. absurd (j refl))
          at false g i =
              by_name (λ (u : Option ℕ). u ≡ carried (opened f n k) (sc x)) (local_name dotted o d.name) (s x) (Some k) (all (s x)) (λ j. absurd (i refl (sym (h.own x d.name (sym j)))))
              (λ j. h.agree x ∙ sym (opened_else f n k (sc x) (h.near x)))

      owns : (x y : Word) → given s d.name (local_name dotted o d.name) x ≡ local_name dotted o y → x ≡ y
      owns x y = by_name (λ (w : Word). w ≡ local_name dotted o y → x ≡ y) d.name x (local_name dotted o d.name) (s x) (λ g e. sym g ∙ same_local dots o d.name y e) (λ g e. h.own x y e)

      olds : (x y : Word) (m z : ℕ) → standing sc d.name (Some n) x ≡ Some z → c ≤ m → m < most → given s d.name (local_name dotted o d.name) x ≡ dotted y m → ⊥
      olds x y m z e g r = at (bytes_eq d.name x) e
        where
          at : (b : Bool) → (if b then Some n else sc x) ≡ Some z → (if b then local_name dotted o d.name else s x) ≡ dotted y m → ⊥
          at true e i = h.early d.name y m p g r i
          at false e i = h.old x y m z e g r i

      nears : (x : Word) (z : ℕ) → standing sc d.name (Some n) x ≡ Some z → z < n + 1
      nears x z = at (bytes_eq d.name x)
        where
          at : (b : Bool) → (if b then Some n else sc x) ≡ Some z → z < n + 1
          at true e = let i : n ≡ z = ap (λ (o : Option ℕ). unwrap_or o 0) e in omega (arith, i)
          at false e = let i = h.near x z e in omega (arith, i)

      belows : (z w : ℕ) (b : Bool) → (if b then Some k else f z) ≡ Some w → w < k + 1
      belows z w true e = let i : k ≡ w = ap (λ (o : Option ℕ). unwrap_or o 0) e in omega (arith, i)
      belows z w false e = let i = h.below z w e in omega (arith, i)

      types : (z w : ℕ) (b : Bool) → (z == n) ≡ b → (if b then Some k else f z) ≡ Some w → IsLike vs ws z w
      types z w true g e =
          let i : n ≡ z = grind (arith, nat_tests, g) in
          let j : k ≡ w = ap (λ (o : Option ℕ). unwrap_or o 0) e in
          subst (λ (q : ℕ). IsLike vs ws q w) i (subst (λ (q : ℕ). IsLike vs ws n q) j l.like)
      types z w false g e = h.types z w e
