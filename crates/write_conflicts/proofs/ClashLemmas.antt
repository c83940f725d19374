-- Whether guards, indexes and actions clash, by what is kept of the actions.
use Rattle.std.proofs.Common.{◌≡◌, ◌∙◌, ℕ, zero, suc, ◌<◌, ◌≤◌, ◌+◌, ◌-◌, ◌^◌, inl, inr, Bool, true, false, not, List, [], ◌∷◌, length, map, take, drop, Contains, get_or, Option, Some, None, refl, sym, ap, subst, arith}
use Rattle.std.specs.Prelude.{◌⊎◌, bit_and, slice_get, slice_index_or}
use Rattle.std.specs.Bool.{MatchBool}
use Rattle.std.specs.Int.{bit_at}
use Rattle.std.proofs.lemmas.List.{take_more, take_all}
use Rattle.std.proofs.lemmas.List.Elements.{Contains-push_cases}
use Rattle.aif_cells.specs.declared.cells.Action.{Action}
use Rattle.aif_cells.specs.declared.cells.Path.{Path}
use Rattle.aif_cells.specs.declared.reference.Ref.{Ref}
use Rattle.aif_cells.specs.declared.reference.Ref.TheVariants as ref
use Rattle.aif_cells.specs.Tree.{value}
use Rattle.write_conflicts.specs.declared.block.Group.TheVariants as group
use Rattle.write_conflicts.specs.declared.block.Block.{Block}
use Rattle.write_conflicts.specs.declared.claims.Claims.{Claims}
use Rattle.write_conflicts.specs.Must.{Must}
use Rattle.write_conflicts.specs.Clash.{Clash, Excludes, GuardsClash, Step, are_apart, indexes_differ, way_to, opposite, at_start, behind_start, apart}
use Rattle.write_conflicts.specs.Loose.{AreLoose, Scene, alike, is_stored, pending_first, pending_second}
use Rattle.write_conflicts.specs.Pairs.{steps_of}
use Rattle.write_conflicts.specs.Blocks.{ref_at}
use Rattle.write_conflicts.specs.Tables.{HasPlace}
use Rattle.write_conflicts.specs.Claims.{AreBothClaimed, AreOpposed, HaveCommon, IsClaimOf, Meets, SomeExclude, is_way, registers_exclude, ways_part}
use Rattle.write_conflicts.proofs.BitLemmas.{and_both, and_left, and_right, no_bit, some_bit}
use Rattle.aif_cells.proofs.ItemLemmas.{at_place}

-- ---- common bits
pub common_of : (v w : ℕ) → bit_and v w < 2 ^ 64 → 0 < bit_and v w → HaveCommon v w
common_of v w f h = let b = some_bit (bit_and v w) f h in (b.0, b.1, and_left v w b.0 b.2, and_right v w b.0 b.2)

pub no_common : (v w : ℕ) → bit_and v w ≡ 0 → HaveCommon v w → ⊥
no_common v w e c = no_bit c.0 (sym (ap (λ (n : ℕ). bit_at n c.0) e) ∙ and_both v w c.0 c.2 c.3)

-- ---- lists without one that does
pub take_cases : {A : Type 0} (xs : List A) (i : ℕ) (d x : A) → i < length xs → Contains (take (i + 1) xs) x → Contains (take i xs) x ⊎ (get_or xs i d ≡ x)
take_cases xs i d x l m = Contains-push_cases (take i xs) (get_or xs i d) x (subst (λ ys. Contains ys x) (take_more xs i d l) m)

pub in_all : {A : Type 0} (xs : List A) (i : ℕ) (x : A) → length xs ≤ i → Contains xs x → Contains (take i xs) x
in_all xs i x l m = subst (λ ys. Contains ys x) (sym (take_all i xs l)) m

-- what is said of none of the words before a place, said of one more
pub meets_more : (no : List (ℕ × ℕ)) (yes : List ℕ) (i : ℕ) (d : ℕ × ℕ) → i < length no → ((p w : ℕ) → Contains (take i no) (p, w) → HaveCommon w (slice_index_or yes p 0) → ⊥)
    → (HaveCommon (get_or no i d).1 (slice_index_or yes (get_or no i d).0 0) → ⊥) → (p w : ℕ) → Contains (take (i + 1) no) (p, w) → HaveCommon w (slice_index_or yes p 0) → ⊥
meets_more ws vs i d l f g p w m h = at (take_cases ws i d (p, w) l m)
  where
    at : Contains (take i ws) (p, w) ⊎ (get_or ws i d ≡ (p, w)) → ⊥
    at (inl n) = f p w n h
    at (inr e) = g (subst (λ (q : ℕ × ℕ). HaveCommon q.1 (slice_index_or vs q.0 0)) (sym e) h)

pub meets_none : (no : List (ℕ × ℕ)) (yes : List ℕ) (i : ℕ) → length no ≤ i → ((p w : ℕ) → Contains (take i no) (p, w) → HaveCommon w (slice_index_or yes p 0) → ⊥) → Meets no yes → ⊥
meets_none ws vs i l f m = f m.place m.word (in_all ws i (m.place, m.word) l m.denied) m.common

-- a way that ends where the other goes on isn't apart from it
apart_from_none : (p : List Step) → are_apart p [] ≡ false
apart_from_none [] = refl
apart_from_none (s ∷ p) = refl

pub apart_short : (p q : List Step) (i : ℕ) → length q ≤ i → are_apart (drop i p) (drop i q) ≡ false
apart_short p [] zero l = apart_from_none p
apart_short [] [] (suc i) l = refl
apart_short (s ∷ p) [] (suc i) l = apart_from_none (drop i p)
apart_short p (t ∷ q) zero l = absurd (omega (arith, l))
apart_short [] (t ∷ q) (suc i) l = refl
apart_short (s ∷ p) (t ∷ q) (suc i) l = apart_short p q i (omega (arith, l))

-- ---- labels
label_back : (paths : List Path) (l : ℕ) → is_way (way_to (map steps_of paths) l) ≡ true → (l ≡ suc (l - 1)) × (l - 1 < length paths)
label_back paths zero e = absurd (cc)
label_back paths (suc n) e = let q : suc n - 1 ≡ n = omega arith in (omega arith, omega (arith, q, at paths n e))
  where
    at : (xs : List Path) (k : ℕ) → is_way (slice_get (map steps_of xs) k) ≡ true → k < length xs
    at [] k f = absurd (cc)
    at (x ∷ xs) zero f = omega arith
    at (x ∷ xs) (suc k) f = omega (arith, at xs k f)

way_at : (paths : List Path) (k : ℕ) (d : Path) → k < length paths → slice_get (map steps_of paths) k ≡ Some (get_or paths k d).steps
way_at [] k d l = absurd (omega (arith, l))
way_at (x ∷ xs) zero d l = refl
way_at (x ∷ xs) (suc k) d l = way_at xs k d (omega (arith, l))

pub labels_apart : (paths : List Path) (l m : ℕ) (x y : Path) (r : Bool) → is_way (way_to (map steps_of paths) l) ≡ true → is_way (way_to (map steps_of paths) m) ≡ true → x ≡ get_or paths (l - 1) x → y ≡ get_or paths (m - 1) y → r ≡ are_apart x.steps y.steps
    → r ≡ ways_part (way_to (map steps_of paths) l) (way_to (map steps_of paths) m)
labels_apart paths l m x y r e f g h q = q ∙ (ap (λ (o : Option (List Step)). ways_part o (Some y.steps)) (sym (way l x e g)) ∙ ap (ways_part (way_to (map steps_of paths) l)) (sym (way m y f h)))
  where
    way : (k : ℕ) (z : Path) → is_way (way_to (map steps_of paths) k) ≡ true → z ≡ get_or paths (k - 1) z → way_to (map steps_of paths) k ≡ Some z.steps
    way k z u v = let b = label_back paths k u in ap (way_to (map steps_of paths)) b.0 ∙ (way_at paths (k - 1) z b.1 ∙ ap (λ (p : Path). Some p.steps) (sym v))

-- ---- registers that exclude one another
registers_out : (ps : List (List Step)) (l m : ℕ) → registers_exclude ps l m ≡ true → Excludes ps (ref.Reg l) true (ref.Reg m) true
registers_out ps zero m e = at (way_to ps m) refl e
  where
    at : (o : Option (List Step)) → way_to ps m ≡ o → is_way o ≡ true → Excludes ps (ref.Reg 0) true (ref.Reg m) true
    at None f g = absurd (cc)
    at (Some p) f g = at_start m p f
registers_out ps (suc l) zero e = at (way_to ps (suc l)) refl e
  where
    at : (o : Option (List Step)) → way_to ps (suc l) ≡ o → is_way o ≡ true → Excludes ps (ref.Reg (suc l)) true (ref.Reg 0) true
    at None f g = absurd (cc)
    at (Some p) f g = behind_start (suc l) p f
registers_out ps (suc l) (suc m) e = at (way_to ps (suc l)) (way_to ps (suc m)) refl refl e
  where
    at : (o q : Option (List Step)) → way_to ps (suc l) ≡ o → way_to ps (suc m) ≡ q → ways_part o q ≡ true → Excludes ps (ref.Reg (suc l)) true (ref.Reg (suc m)) true
    at None q f g h = absurd (cc)
    at (Some p) None f g h = absurd (cc)
    at (Some p) (Some q) f g h = apart (suc l) (suc m) p q f g h

-- backwards: a reference with both signs, or registers that exclude one another
pub record AreRegisters (ps : List (List Step)) (x y : Ref) (s t : Bool) : Type 0 where
  pub first : ℕ
  pub second : ℕ
  pub is_first : x ≡ ref.Reg first
  pub is_second : y ≡ ref.Reg second
  pub first_plus : s ≡ true
  pub second_plus : t ≡ true
  pub exclude : registers_exclude ps first second ≡ true

start_excludes : (ps : List (List Step)) (l : ℕ) (p : List Step) → way_to ps l ≡ Some p → registers_exclude ps 0 l ≡ true
start_excludes ps l p e = ap is_way e

label_excludes : (ps : List (List Step)) (l : ℕ) (p : List Step) → way_to ps l ≡ Some p → registers_exclude ps l 0 ≡ true
label_excludes ps zero p e = absurd (cc)
label_excludes ps (suc l) p e = ap is_way e

labels_exclude : (ps : List (List Step)) (l m : ℕ) (p q : List Step) → way_to ps l ≡ Some p → way_to ps m ≡ Some q → are_apart p q ≡ true → registers_exclude ps l m ≡ true
labels_exclude ps zero m p q e f h = absurd (cc)
labels_exclude ps (suc l) zero p q e f h = absurd (cc)
labels_exclude ps (suc l) (suc m) p q e f h = ap (λ (o : Option (List Step)). ways_part o (way_to ps (suc m))) e ∙ (ap (ways_part (Some p)) f ∙ h)

excludes_back : (ps : List (List Step)) (x : Ref) (s : Bool) (y : Ref) (t : Bool) → Excludes ps x s y t → ((x ≡ y) × (t ≡ not s)) ⊎ AreRegisters ps x y s t
excludes_back ps x s y t (opposite _ _) = inl (refl, refl)
excludes_back ps x s y t (at_start l p e) = inr (record { first = 0; second = l; is_first = refl; is_second = refl; first_plus = refl; second_plus = refl; exclude = start_excludes ps l p e })
excludes_back ps x s y t (behind_start l p e) = inr (record { first = l; second = 0; is_first = refl; is_second = refl; first_plus = refl; second_plus = refl; exclude = label_excludes ps l p e })
excludes_back ps x s y t (apart l m p q e f h) = inr (record { first = l; second = m; is_first = refl; is_second = refl; first_plus = refl; second_plus = refl; exclude = labels_exclude ps l m p q e f h })

-- ---- guards that clash
module _ (s : Scene) (bs : List Block) where
  meets_out : (a b : Action) (c d : Claims) → IsClaimOf s bs a c → IsClaimOf s bs b d → Meets c.no d.yes → (x : Ref) × Must s.cells (value a.guard) true x false × Must s.cells (value b.guard) true x true
  meets_out a b c d p q m =
      let lt = p.no_within m.place m.word m.denied in
      let e = at_place bs m.place (record { group = group.Inputs; at = 0 }) lt in
      let k = m.common.0 in
      let block = get_or bs m.place (record { group = group.Inputs; at = 0 }) in
      (ref_at block k, ((p.no m.place m.word block e m.denied) k m.common.1).0 m.common.2, ((q.yes m.place block e) k m.common.1).0 m.common.3)

  meets_in : (a b : Action) (c d : Claims) → IsClaimOf s bs a c → IsClaimOf s bs b d → (x : Ref) → Must s.cells (value a.guard) true x false → Must s.cells (value b.guard) true x true → Meets c.no d.yes
  meets_in a b c d p q x m n =
      let h : HasPlace bs x = p.covered x false m in
      let m' : Must s.cells (value a.guard) true (ref_at h.block h.at_bit) false = subst (λ (y : Ref). Must s.cells (value a.guard) true y false) (sym h.is_there) m in
      let n' : Must s.cells (value b.guard) true (ref_at h.block h.at_bit) true = subst (λ (y : Ref). Must s.cells (value b.guard) true y true) (sym h.is_there) n in
      let w = p.no_all h.at_block h.at_bit h.block h.is_block h.within m' in
      record {
        place = h.at_block;
        word = w.0;
        denied = w.1;
        common = (h.at_bit, h.within, ((p.no h.at_block w.0 h.block h.is_block w.1) h.at_bit h.within).1 m', ((q.yes h.at_block h.block h.is_block) h.at_bit h.within).1 n');
      }

  pub opposed_clash : (a b : Action) (c d : Claims) → IsClaimOf s bs a c → IsClaimOf s bs b d → AreOpposed s.ways c d → GuardsClash s.cells s.ways a.guard b.guard
  opposed_clash a b c d p q (inl m) = let r = meets_out a b c d p q m in record { first = r.0; first_sign = false; second = r.0; second_sign = true; says_first = r.1; says_second = r.2; excludes = opposite r.0 false }
  opposed_clash a b c d p q (inr (inl m)) = let r = meets_out b a d c q p m in record { first = r.0; first_sign = true; second = r.0; second_sign = false; says_first = r.2; says_second = r.1; excludes = opposite r.0 true }
  opposed_clash a b c d p q (inr (inr m)) = record { first = ref.Reg m.first; first_sign = true; second = ref.Reg m.second; second_sign = true; says_first = (p.registers m.first).0 m.in_first; says_second = (q.registers m.second).0 m.in_second; excludes = registers_out s.ways m.first m.second m.exclude }

  pub clash_opposed : (a b : Action) (c d : Claims) → IsClaimOf s bs a c → IsClaimOf s bs b d → GuardsClash s.cells s.ways a.guard b.guard → AreOpposed s.ways c d
  clash_opposed a b c d p q g = at (excludes_back s.ways g.first g.first_sign g.second g.second_sign g.excludes)
    where
      by_sign : (t : Bool) (x : Ref) → Must s.cells (value a.guard) true x t → Must s.cells (value b.guard) true x (not t) → AreOpposed s.ways c d
      by_sign true x m n = inr (inl (meets_in b a d c q p x n m))
      by_sign false x m n = inl (meets_in a b c d p q x m n)

      at : ((g.first ≡ g.second) × (g.second_sign ≡ not g.first_sign)) ⊎ AreRegisters s.ways g.first g.second g.first_sign g.second_sign → AreOpposed s.ways c d
      at (inl e) = by_sign g.first_sign g.first g.says_first (subst (λ (y : Ref). Must s.cells (value b.guard) true y (not g.first_sign)) (sym e.0) (subst (Must s.cells (value b.guard) true g.second) e.1 g.says_second))
      at (inr r) = inr (inr (record {
        first = r.first;
        second = r.second;
        in_first = (p.registers r.first).1 (subst (λ (x : Ref). Must s.cells (value a.guard) true x true) r.is_first (subst (Must s.cells (value a.guard) true g.first) r.first_plus g.says_first));
        in_second = (q.registers r.second).1 (subst (λ (x : Ref). Must s.cells (value b.guard) true x true) r.is_second (subst (Must s.cells (value b.guard) true g.second) r.second_plus g.says_second));
        exclude = r.exclude;
      }))

-- ---- one more register that excludes none
pub exclude_more : (ps : List (List Step)) (l : ℕ) (ms : List ℕ) (i d : ℕ) → i < length ms → ((m : ℕ) → Contains (take i ms) m → registers_exclude ps l m ≡ false) → registers_exclude ps l (get_or ms i d) ≡ false
    → (m : ℕ) → Contains (take (i + 1) ms) m → registers_exclude ps l m ≡ false
exclude_more ps l ms i d lt f g m n = at (take_cases ms i d m lt n)
  where
    at : Contains (take i ms) m ⊎ (get_or ms i d ≡ m) → registers_exclude ps l m ≡ false
    at (inl h) = f m h
    at (inr e) = ap (registers_exclude ps l) (sym e) ∙ g

not_both : (b : Bool) → b ≡ true → b ≡ false → ⊥
not_both b e f = cc

single : (l k : ℕ) → Contains (l ∷ []) k → l ≡ k
single l k (zero, lt, e) = e
single l k (suc n, lt, e) = absurd (omega (arith, lt))

pub exclude_none : (ps : List (List Step)) (l : ℕ) (ms : List ℕ) (i : ℕ) → length ms ≤ i → ((m : ℕ) → Contains (take i ms) m → registers_exclude ps l m ≡ false) → SomeExclude ps (l ∷ []) ms → ⊥
exclude_none ps l ms i le f s = not_both (registers_exclude ps l s.second) (ap (λ (k : ℕ). registers_exclude ps k s.second) (single l s.first s.in_first) ∙ s.exclude) (f s.second (in_all ms i s.second le s.in_second))

pub one_excludes : (ps : List (List Step)) (l : ℕ) (ms : List ℕ) (m : ℕ) → Contains ms m → registers_exclude ps l m ≡ true → SomeExclude ps (l ∷ []) ms
one_excludes ps l ms m n e = record { first = l; second = m; in_first = (0, omega arith, refl); in_second = n; exclude = e }

pub some_excludes : (ps : List (List Step)) (ls ms : List ℕ) (l : ℕ) → Contains ls l → SomeExclude ps (l ∷ []) ms → SomeExclude ps ls ms
some_excludes ps ls ms l n s = record { first = s.first; second = s.second; in_first = subst (Contains ls) (single l s.first s.in_first) n; in_second = s.in_second; exclude = s.exclude }

pub all_more : (ps : List (List Step)) (ls ms : List ℕ) (i d : ℕ) → i < length ls → ((l m : ℕ) → Contains (take i ls) l → Contains ms m → registers_exclude ps l m ≡ false) → (SomeExclude ps (get_or ls i d ∷ []) ms → ⊥)
    → (l m : ℕ) → Contains (take (i + 1) ls) l → Contains ms m → registers_exclude ps l m ≡ false
all_more ps ls ms i d lt f g l m n o = at (take_cases ls i d l lt n)
  where
    at : Contains (take i ls) l ⊎ (get_or ls i d ≡ l) → registers_exclude ps l m ≡ false
    at (inl h) = f l m h o
    at (inr e) = ap (λ (k : ℕ). registers_exclude ps k m) (sym e) ∙ test (registers_exclude ps (get_or ls i d) m) refl
      where
        test : (b : Bool) → registers_exclude ps (get_or ls i d) m ≡ b → registers_exclude ps (get_or ls i d) m ≡ false
        test true q = absurd (g (one_excludes ps (get_or ls i d) ms m o q))
        test false q = q

pub all_none : (ps : List (List Step)) (ls ms : List ℕ) (i : ℕ) → length ls ≤ i → ((l m : ℕ) → Contains (take i ls) l → Contains ms m → registers_exclude ps l m ≡ false) → SomeExclude ps ls ms → ⊥
all_none ps ls ms i le f s = not_both (registers_exclude ps s.first s.second) s.exclude (f s.first s.second (in_all ls i s.first le s.in_first) s.in_second)

-- ---- actions
pub clash_by_guards : (s : Scene) (a b : Action) (c d : Claims) (r : Bool) → AreBothClaimed s a b c d → indexes_differ a.index b.index ≡ false → MatchBool r (AreOpposed s.ways c d) (AreOpposed s.ways c d → ⊥) → MatchBool r (Clash s.cells s.ways a b) (Clash s.cells s.ways a b → ⊥)
clash_by_guards s a b c d true p e m = inl (opposed_clash s p.blocks a b c d p.first p.second m)
clash_by_guards s a b c d false p e m = λ q. elim q [
  | inl g ↦ m (clash_opposed s p.blocks a b c d p.first p.second g)
  | inr h ↦ not_both (indexes_differ a.index b.index) h e
]

pub meets_by : (s : Scene) (a b : Action) (r : Bool) → a.copy ≡ b.copy → MatchBool r (Clash s.cells s.ways a b) (Clash s.cells s.ways a b → ⊥) → MatchBool (not r) ((a.copy ≡ b.copy) × (Clash s.cells s.ways a b → ⊥)) ((a.copy ≡ b.copy) × (Clash s.cells s.ways a b → ⊥) → ⊥)
meets_by s a b true e m = λ q. q.1 m
meets_by s a b false e m = (e, m)

pub loose_vars : (s : Scene) (a b : Action) → AreLoose s a b → a.var ≡ b.var
loose_vars s a b (alike v c d n) = v
loose_vars s a b (pending_first v d e t) = v
loose_vars s a b (pending_second v d e t) = v

pub loose_alike : (s : Scene) (a b : Action) (r : Bool) → a.var ≡ b.var → a.delayed ≡ b.delayed → MatchBool r ((a.copy ≡ b.copy) × (Clash s.cells s.ways a b → ⊥)) ((a.copy ≡ b.copy) × (Clash s.cells s.ways a b → ⊥) → ⊥) → MatchBool r (AreLoose s a b) (AreLoose s a b → ⊥)
loose_alike s a b true v d m = alike v m.0 d m.1
loose_alike s a b false v d m = none
  where
    none : AreLoose s a b → ⊥
    none (alike _ c _ n) = m (c, n)
    none (pending_first _ e f t) = not_both a.delayed e (d ∙ f)
    none (pending_second _ e f t) = not_both b.delayed f (sym d ∙ e)

pub loose_first : (s : Scene) (a b : Action) (r : Bool) → a.var ≡ b.var → a.delayed ≡ true → b.delayed ≡ false → r ≡ is_stored s.made b.var b.copy → MatchBool r (AreLoose s a b) (AreLoose s a b → ⊥)
loose_first s a b true v d e f = pending_first v d e (sym f)
loose_first s a b false v d e f = none
  where
    none : AreLoose s a b → ⊥
    none (alike _ _ h _) = not_both a.delayed d (h ∙ e)
    none (pending_first _ _ _ t) = not_both (is_stored s.made b.var b.copy) t (sym f)
    none (pending_second _ h _ _) = not_both a.delayed d h

pub loose_second : (s : Scene) (a b : Action) (r : Bool) → a.var ≡ b.var → a.delayed ≡ false → b.delayed ≡ true → r ≡ is_stored s.made a.var a.copy → MatchBool r (AreLoose s a b) (AreLoose s a b → ⊥)
loose_second s a b true v d e f = pending_second v d e (sym f)
loose_second s a b false v d e f = none
  where
    none : AreLoose s a b → ⊥
    none (alike _ _ h _) = not_both b.delayed e (sym h ∙ d)
    none (pending_first _ h _ _) = not_both a.delayed h d
    none (pending_second _ _ _ t) = not_both (is_stored s.made a.var a.copy) t (sym f)
