-- Blocks and calls: the scopes behind a block's head, one declaration after another; and the scopes at the start of a called
-- block, one parameter after another, from a scope in which nothing is visible.
use Rattle.std.proofs.Common.{◌≡◌, ◌<◌, ◌≤◌, ℕ, zero, suc, ◌+◌, Bool, true, false, List, [], ◌∷◌, ◌++◌, length, map, Option, Some, None, unwrap_or, if◌then◌else◌, refl, sym, ap, ap₂, ◌∙◌, subst, arith, append_assoc}
use Rattle.std.proofs.lemmas.Bool.Decides.{nat_tests}
use Rattle.std.specs.Prelude.{◌==◌, ◌||◌, slice_get}
use Rattle.std.specs.Str.{bytes_eq}
use Rattle.quartz_tree.specs.declared.surface.Arg.{Arg}
use Rattle.quartz_tree.specs.declared.declare.Decl.{Decl}
use Rattle.quartz_tree.specs.declared.declare.Var.{Var}
use Rattle.quartz_tree.specs.Kernel.{Kernel}
use Rattle.quartz_tree.specs.Surfaces.{Word, ModuleTree}
use Rattle.quartz_expr.specs.Vars.{Vars}
use Rattle.quartz_expr.specs.Terms.{term_of}
use Rattle.quartz_names.specs.Scopes.{Scope, standing, declared, no_names, number_in}
use Rattle.quartz_names.specs.Numbering as numbering
use Rattle.quartz_names.specs.Resolving.{variables_from}
use Rattle.quartz_names.specs.Starts.{start_value}
use Rattle.quartz_names.specs.Targets.{is_among}
use Rattle.framed_terms.specs.Framed.{Framed, Meanings}
use Rattle.framed_terms.specs.Similar.{Carry, carried, inner, opened, IsLike, LikeTypes, IsLocal, Suits, Sim, s_scope}
use Rattle.linked_trees.specs.Naming.{Names, given}
use Rattle.linked_trees.specs.Framing.{around, numbers_of}
use Rattle.linked_trees.specs.Linking.{local_name, renamed_decl, entered, passes, spelled_args}
use Rattle.linked_trees.proofs.NameLemmas.{AgreeOn, IsDecl, Has}
use Rattle.linked_trees.specs.Dotted.{Dots}
use Rattle.linked_trees.specs.Fit.{IsArg, ArgsSuit, AllPlain}
use Rattle.linked_trees.proofs.ScopeLemmas.{Scopes, behind, local_at, like_at, by_name, equal_names, other_names}

-- ---- what the called module is given

like_trans : (us vs ws : Vars) (x y z : ℕ) → IsLike us vs x y → IsLike vs ws y z → IsLike us ws x z
like_trans us vs ws x y z g h = record { base = g.base ∙ h.base; len = g.len ∙ h.len; range = g.range ∙ h.range }

number_is : (sc : Scope) (a : Word) (n : ℕ) → sc a ≡ Some n → number_in sc a ≡ n
number_is sc a n e = ap (λ (o : Option ℕ). unwrap_or o 0) e

arg_like : (uv vs : Vars) (sc : Scope) (i : ℕ) (ps : List Decl) (args : List Arg) (j x : ℕ) → ArgsSuit vs sc ps args → Has uv i ps → slice_get (numbers_of sc args) j ≡ Some x → IsLike uv vs (i + j) x
arg_like uv vs sc i [] [] j x g h e = absurd (cc)
arg_like uv vs sc i [] (a ∷ args) j x g h e = absurd g
arg_like uv vs sc i (p ∷ ps) [] j x g h e = absurd g
arg_like uv vs sc i (p ∷ ps) (a ∷ args) zero x g h e =
    let k : g.0.number ≡ x = sym (number_is sc a.name g.0.number g.0.stands) ∙ ap (λ (o : Option ℕ). unwrap_or o 0) e in
    let l : IsLike uv vs i g.0.number = like_at uv vs i g.0.number h.0.var g.0.var h.0.at g.0.at (ap (λ (d : Decl). d.ty) h.0.decl ∙ sym g.0.ty) in
    subst (λ (n : ℕ). IsLike uv vs n x) (omega arith) (subst (λ (n : ℕ). IsLike uv vs i n) k l)
arg_like uv vs sc i (p ∷ ps) (a ∷ args) (suc j) x g h e = subst (λ (n : ℕ). IsLike uv vs n x) (omega arith) (arg_like uv vs sc (i + 1) ps args j x g.1 h.1 e)

pub same_many : (vs : Vars) (sc : Scope) (ps : List Decl) (args : List Arg) → ArgsSuit vs sc ps args → length (numbers_of sc args) ≡ length ps
same_many vs sc [] [] g = refl
same_many vs sc [] (a ∷ args) g = absurd g
same_many vs sc (p ∷ ps) [] g = absurd g
same_many vs sc (p ∷ ps) (a ∷ args) g = ap suc (same_many vs sc ps args g.1)

-- the numbers of a list, by index from i on
abbrev At : List ℕ → ℕ → List ℕ → Type 0
At ns i [] = Unit {0}
At ns i (x ∷ xs) = (slice_get ns i ≡ Some x) × At ns (i + 1) xs

get_behind : {A : Type 0} (pre : List A) (x : A) (xs : List A) → slice_get (pre ++ x ∷ xs) (length pre) ≡ Some x
get_behind [] x xs = refl
get_behind (p ∷ pre) x xs = get_behind pre x xs

length_more : {A : Type 0} (pre : List A) (x : A) → length (pre ++ x ∷ []) ≡ length pre + 1
length_more [] x = refl
length_more (p ∷ pre) x = let e : length (pre ++ x ∷ []) ≡ length pre + 1 = length_more pre x in omega (arith, e)

more_append : {A : Type 0} (pre : List A) (x : A) (xs : List A) → pre ++ x ∷ xs ≡ (pre ++ x ∷ []) ++ xs
more_append [] x xs = refl
more_append (p ∷ pre) x xs = ap (λ l. p ∷ l) (more_append pre x xs)

at_from : (ns pre xs : List ℕ) → ns ≡ pre ++ xs → At ns (length pre) xs
at_from ns pre [] e = tt
at_from ns pre (x ∷ xs) e = (
  ap (λ (l : List ℕ). slice_get l (length pre)) e ∙ get_behind pre x xs,
  subst (λ (n : ℕ). At ns n xs) (length_more pre x) (at_from ns (pre ++ x ∷ []) xs (e ∙ more_append pre x xs)),
)

has_from : (vs pre : Vars) (ts : List ℕ) (ds : List Decl) → vs ≡ pre ++ variables_from ts (length pre) ds → Has vs (length pre) ds
has_from vs pre ts [] e = tt
has_from vs pre ts (d ∷ ds) e =
    let v : Var = record { decl = d; delayed = is_among ts (length pre); start = start_value d } in (
      record { var = v; at = ap (λ (l : Vars). slice_get l (length pre)) e ∙ get_behind pre v _; decl = refl; start = refl },
      subst (λ (n : ℕ). Has vs n ds) (length_more pre v)
          (has_from vs (pre ++ v ∷ []) ts ds (e ∙ more_append pre v _ ∙ ap (λ (n : ℕ). (pre ++ v ∷ []) ++ variables_from ts n ds) (sym (length_more pre v)))),
    )

pub has_all : (ts : List ℕ) (ds : List Decl) → Has (variables_from ts 0 ds) 0 ds
has_all ts ds = has_from (variables_from ts 0 ds) [] ts ds refl

pub has_length : (ts : List ℕ) (n : ℕ) (ds : List Decl) → length (variables_from ts n ds) ≡ length ds
has_length ts n [] = refl
has_length ts n (d ∷ ds) = ap suc (has_length ts (n + 1) ds)

module _ (is_plain : Word → Bool) (dotted : Word → ℕ → Word) (most : ℕ) (us : Meanings) (ws : Vars) where
  moved : (o : Option ℕ) (vs : Vars) (c : ℕ) (sc all : Scope) (s : Names) (f : Carry) (n k a b : ℕ) → n ≡ a → k ≡ b → Scopes is_plain dotted most us ws o vs c sc all s f n k → Scopes is_plain dotted most us ws o vs c sc all s f a b
  moved o vs c sc all s f n k a b e g h = subst (λ (i : ℕ). Scopes is_plain dotted most us ws o vs c sc all s f i b) e (subst (λ (i : ℕ). Scopes is_plain dotted most us ws o vs c sc all s f n i) g h)

  -- ---- a block's declarations

  pub around_sim : Dots is_plain dotted most → (o : Option ℕ) (vs : Vars) (c : ℕ) (ds : List Decl) (sc all : Scope) (s : Names) (f : Carry) (n k : ℕ) (a : Framed) (b : Kernel) → AllPlain is_plain ds
      → Scopes is_plain dotted most us ws o vs c sc all s f n k → Has vs n ds → Has ws k (map (renamed_decl dotted o) ds)
      → ((g : Carry) → Scopes is_plain dotted most us ws o vs c (declared sc n ds) (declared all k (map (renamed_decl dotted o) ds)) (entered dotted o s ds) g (n + length ds) (k + length (map (renamed_decl dotted o) ds)) → Sim us ws vs g a (term_of b))
      → Sim us ws vs f (around n (length ds) a) (term_of (numbering.around k (length (map (renamed_decl dotted o) ds)) b))
  around_sim dots o vs c [] sc all s f n k a b p h g l r =
      r f (subst (λ (i : ℕ). Scopes is_plain dotted most us ws o vs c sc all s f i (k + 0)) (omega arith) (subst (λ (i : ℕ). Scopes is_plain dotted most us ws o vs c sc all s f n i) (omega arith) h))
  around_sim dots o vs c (d ∷ ds) sc all s f n k a b p h g l r =
      let e : IsLocal us ws vs f n k = local_at is_plain dotted most us ws o vs f n k d h.below g.0 l.0 in
      s_scope vs f n k None _ _ e
      (around_sim dots o vs c ds _ _ _ (opened f n k) (n + 1) (k + 1) a b p.1 (behind is_plain dotted most us ws dots o vs c sc all s f n k d p.0 e h) g.1 l.1
      (λ q i. r q (moved o vs c _ _ _ q _ _ _ _ (omega arith) (omega arith) i)))

  -- ---- a call's parameters

  record Passing (all : Scope) (f : Carry) (ns : List ℕ) (c i : ℕ) (s : Names) (sc : Scope) : Type 0 where
    agree : AgreeOn sc all s (inner f ns)
    own : (x d : Word) → s x ≡ dotted d c → x ≡ d
    old : (x d : Word) (m z : ℕ) → sc x ≡ Some z → suc c ≤ m → m < most → s x ≡ dotted d m → ⊥
    near : (x : Word) (z : ℕ) → sc x ≡ Some z → z < i

  step : (o : Option ℕ) (vs : Vars) (c : ℕ) (sc all : Scope) (s : Names) (f : Carry) (n k : ℕ) → Scopes is_plain dotted most us ws o vs c sc all s f n k → c < most → (ns : List ℕ) (i : ℕ) (t : Names) (tc : Scope) (p : Decl) (a : Arg)
      → IsArg vs sc p a → slice_get ns i ≡ Some (number_in sc a.name) → Passing all f ns c i t tc → Passing all f ns c (i + 1) (given t p.name (s a.name)) (standing tc p.name (Some i))
  step o vs c sc all s f n k h room ns i t tc p a g e l = record {
    agree = λ x. agrees x (bytes_eq p.name x);
    own = λ x d. by_name (λ (w : Word). w ≡ dotted d c → x ≡ d) p.name x (s a.name) (t x) (λ j e. absurd (h.old a.name d c g.number g.stands (omega arith) room e)) (λ j e. l.own x d e);
    old = λ x d m z u v b. olds x d m z v b (bytes_eq p.name x) u;
    near = λ x z. nears x z (bytes_eq p.name x);
  }
    where
      passed : all (s a.name) ≡ inner f ns i
      passed = h.agree a.name ∙ ap (carried f) g.stands ∙ ap f (sym (number_is sc a.name g.number g.stands)) ∙ ap (carried f) (sym e)

      agrees : (x : Word) (b : Bool) → all (if b then s a.name else t x) ≡ carried (inner f ns) (if b then Some i else tc x)
      agrees x true = passed
      agrees x false = l.agree x

      olds : (x d : Word) (m z : ℕ) → suc c ≤ m → m < most → (b : Bool) → (if b then Some i else tc x) ≡ Some z → (if b then s a.name else t x) ≡ dotted d m → ⊥
      olds x d m z v r true u w = h.old a.name d m g.number g.stands (omega (arith, v)) r w
      olds x d m z v r false u w = l.old x d m z u v r w

      nears : (x : Word) (z : ℕ) (b : Bool) → (if b then Some i else tc x) ≡ Some z → z < i + 1
      nears x z true e = let j : i ≡ z = ap (λ (o : Option ℕ). unwrap_or o 0) e in omega (arith, j)
      nears x z false e = let j = l.near x z e in omega (arith, j)

  passing : (o : Option ℕ) (vs : Vars) (c : ℕ) (sc all : Scope) (s : Names) (f : Carry) (n k : ℕ) → Scopes is_plain dotted most us ws o vs c sc all s f n k → c < most → (ns : List ℕ) (i : ℕ) (t : Names) (tc : Scope) (ps : List Decl) (args : List Arg)
      → ArgsSuit vs sc ps args → At ns i (numbers_of sc args) → Passing all f ns c i t tc → Passing all f ns c (i + length ps) (passes t ps (spelled_args s args)) (declared tc i ps)
  passing o vs c sc all s f n k h room ns i t tc [] [] g e l = subst (λ (j : ℕ). Passing all f ns c j t tc) (omega arith) l
  passing o vs c sc all s f n k h room ns i t tc [] (a ∷ args) g e l = absurd g
  passing o vs c sc all s f n k h room ns i t tc (p ∷ ps) [] g e l = absurd g
  passing o vs c sc all s f n k h room ns i t tc (p ∷ ps) (a ∷ args) g e l =
      subst (λ (j : ℕ). Passing all f ns c j (passes (given t p.name (s a.name)) ps (spelled_args s args)) (declared (standing tc p.name (Some i)) (i + 1) ps)) (omega arith)
      (passing o vs c sc all s f n k h room ns (i + 1) _ _ ps args g.1 e.1 (step o vs c sc all s f n k h room ns i t tc p a g.0 e.0 l))

  -- the scopes at the start of a called block
  pub called_scopes : Dots is_plain dotted most → (o : Option ℕ) (vs uv : Vars) (c : ℕ) (sc all : Scope) (s : Names) (f : Carry) (n k : ℕ) (ps : List Decl) (args : List Arg) → Scopes is_plain dotted most us ws o vs c sc all s f n k → c < most
      → ArgsSuit vs sc ps args → Has uv 0 ps
      → Scopes is_plain dotted most us ws (Some c) uv (suc c) (declared no_names 0 ps) all (passes (λ y. dotted y c) ps (spelled_args s args)) (inner f (numbers_of sc args)) (length ps) k
  called_scopes dots o vs uv c sc all s f n k ps args h room g l =
      let ns : List ℕ = numbers_of sc args in
      let start : Passing all f ns c 0 (λ y. dotted y c) no_names = record {
        agree = λ x. h.fresh x c (omega arith) room;
        own = λ x d e. dots.name x d c e;
        old = λ x d m z e i b u. absurd (cc);
        near = λ x z e. absurd (cc);
      } in
      let p : Passing all f ns c (0 + length ps) (passes (λ y. dotted y c) ps (spelled_args s args)) (declared no_names 0 ps) = passing o vs c sc all s f n k h room ns 0 _ _ ps args g (at_from ns [] ns refl) start in
      record {
        agree = p.agree;
        fresh = λ x m e b. h.fresh x m (omega (arith, e)) b;
        own = p.own;
        old = p.old;
        early = λ d x m q e b u. let i : c ≡ m = dots.number d x c m room b u in absurd (omega (arith, i, e));
        near = λ x z e. let i : z < 0 + length ps = p.near x z e in omega (arith, i);
        below = λ z w e. belows z w (slice_get ns z) e;
        types = λ z w e. types z w (slice_get ns z) refl e;
      }
    where
      belows : (z w : ℕ) (q : Option ℕ) → carried f q ≡ Some w → w < k
      belows z w None e = absurd (cc)
      belows z w (Some x) e = h.below x w e

      types : (z w : ℕ) (q : Option ℕ) → slice_get (numbers_of sc args) z ≡ q → carried f q ≡ Some w → IsLike uv ws z w
      types z w None i e = absurd (cc)
      types z w (Some x) i e = like_trans uv vs ws z x w (subst (λ (j : ℕ). IsLike uv vs j x) (omega arith) (arg_like uv vs sc 0 ps args z x g l i)) (h.types x w e)
