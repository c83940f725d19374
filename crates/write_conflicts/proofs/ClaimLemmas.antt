-- What is kept of an action, gathered block by block.
use Rattle.std.proofs.Common.{◌≡◌, ◌∙◌, ℕ, zero, suc, ◌<◌, ◌≤◌, ◌+◌, ◌*◌, ◌/◌, ◌^◌, inl, inr, Bool, true, false, List, [], ◌∷◌, ◌++◌, length, set, Contains, get_or, Some, refl, sym, ap, subst, arith}
use Rattle.std.specs.Prelude.{◌↔◌, ◌⊎◌, bit_and, slice_get, slice_index_or}
use Rattle.std.specs.Int.{bit_at}
use Rattle.std.proofs.lemmas.Nat.Bits.{bit_at-lt, shr_and_one}
use Rattle.std.proofs.lemmas.List.Elements.{Contains-append_left, Contains-push, Contains-push_cases}
use Rattle.aif_cells.specs.declared.cells.Action.{Action}
use Rattle.aif_cells.specs.declared.cells.Made.{Made}
use Rattle.aif_cells.specs.declared.reference.Ref.{Ref}
use Rattle.aif_cells.specs.declared.reference.Ref.TheVariants as ref
use Rattle.aif_cells.specs.Tree.{value}
use Rattle.write_conflicts.specs.declared.block.Block.{Block}
use Rattle.write_conflicts.specs.declared.block.Group.{Group}
use Rattle.write_conflicts.specs.declared.block.Group.TheVariants as group
use Rattle.write_conflicts.specs.declared.block.Said.{Said}
use Rattle.write_conflicts.specs.declared.claims.Claims.{Claims}
use Rattle.write_conflicts.specs.Must.{Must}
use Rattle.write_conflicts.specs.Loose.{Scene, is_stored}
use Rattle.write_conflicts.specs.Blocks.{Marks, ref_at, ref_of, silent}
use Rattle.write_conflicts.specs.Tables.{AreColumns, AreCovered, HasPlace, said_at}
use Rattle.write_conflicts.specs.Claims.{AreClaimsFrom, AreClaimsOf, AreYes, IsClaimButYes, IsClaimOf, IsDenied, IsDeniedAt, IsNumber, IsNumberAt, IsRegisterOf, SaysRegister}
use Rattle.write_conflicts.proofs.BitLemmas.{no_bit}
use Rattle.write_conflicts.proofs.OrderLemmas.{get_push, got_at, past, set_other, set_same, split}
use Rattle.std.proofs.Math.ListN.{length-set}
use Rattle.std.proofs.lemmas.List.{get_or_default}
use Rattle.aif_cells.proofs.ItemLemmas.{at_place}
use Rattle.aif_cells.proofs.SolutionLemmas.{there}

-- ---- one more item, or none
pushed : {A : Type 0} (xs new : List A) (y : A) (P : A → Type 0) → new ≡ xs ++ y ∷ [] → P y → ((x : A) → P x → y ≡ x) → (x : A) → Contains new x ↔ (Contains xs x ⊎ P x)
pushed xs new y P e p f x = (
  λ m. elim (Contains-push_cases xs y x (subst (λ ys. Contains ys x) e m)) [
    | inl n ↦ inl n
    | inr q ↦ inr (subst P q p)
  ],
  λ m. subst (λ ys. Contains ys x) (sym e) (elim m [
    | inl n ↦ Contains-append_left xs (y ∷ []) x n
    | inr q ↦ subst (Contains (xs ++ y ∷ [])) (f x q) (Contains-push xs y)
  ]),
)

left_out : {A : Type 0} (xs : List A) (P : A → Type 0) → ((x : A) → P x → ⊥) → (x : A) → Contains xs x ↔ (Contains xs x ⊎ P x)
left_out xs P f x = (
  λ m. inl m,
  λ m. elim m [
    | inl n ↦ n
    | inr q ↦ absurd (f x q)
  ],
)

pub denied_pushed : (xs new : List (ℕ × ℕ)) (place word : ℕ) → new ≡ xs ++ (place, word) ∷ [] → (word ≡ 0 → ⊥) → (p w : ℕ) → Contains new (p, w) ↔ (Contains xs (p, w) ⊎ IsDeniedAt place word p w)
denied_pushed xs new place word e f p w = pushed xs new (place, word) (λ q. IsDeniedAt place word q.0 q.1) e (refl, refl, f) (λ q d. pair q d.0 d.1) (p, w)
  where
    pair : (q : ℕ × ℕ) → q.0 ≡ place → q.1 ≡ word → (place, word) ≡ q
    pair (a, b) g h = cc

pub denied_left : (xs : List (ℕ × ℕ)) (place word : ℕ) → word ≡ 0 → (p w : ℕ) → Contains xs (p, w) ↔ (Contains xs (p, w) ⊎ IsDeniedAt place word p w)
denied_left xs place word e p w = left_out xs (λ q. IsDeniedAt place word q.0 q.1) (λ q d. d.2 (d.1 ∙ e)) (p, w)

pub number_pushed : (xs new : List ℕ) (w at k n : ℕ) → new ≡ xs ++ n ∷ [] → n ≡ 64 * at + k → (bit_and (w / 2 ^ k) 1 ≡ 0 → ⊥) → (l : ℕ) → Contains new l ↔ (Contains xs l ⊎ IsNumberAt w at k l)
number_pushed xs new w at k n e f g = pushed xs new n (IsNumberAt w at k) e (set, f) (λ l d. f ∙ sym d.1)
  where
    set : bit_at w k ≡ 1
    set = let h : bit_at w k ≡ 0 → ⊥ = (λ z. g (shr_and_one w k ∙ z)) in let b = bit_at-lt w k in one (bit_at w k) h b
      where
        one : (b : ℕ) → (b ≡ 0 → ⊥) → b < 2 → b ≡ 1
        one zero h l = absurd (h refl)
        one (suc b) h l = omega (arith, l)

pub number_left : (xs : List ℕ) (w at k : ℕ) → bit_and (w / 2 ^ k) 1 ≡ 0 → (l : ℕ) → Contains xs l ↔ (Contains xs l ⊎ IsNumberAt w at k l)
number_left xs w at k e = left_out xs (IsNumberAt w at k) (λ l d. wrong (sym (shr_and_one w k) ∙ e) d.0)
  where
    wrong : bit_at w k ≡ 0 → bit_at w k ≡ 1 → ⊥
    wrong z o = omega (arith, z, o)

-- ---- one more step of a loop
pub numbers_more : (xs mid new : List ℕ) (w at n : ℕ) → ((l : ℕ) → Contains mid l ↔ (Contains xs l ⊎ IsNumber w at n l)) → ((l : ℕ) → Contains new l ↔ (Contains mid l ⊎ IsNumberAt w at n l)) → (l : ℕ) → Contains new l ↔ (Contains xs l ⊎ IsNumber w at (n + 1) l)
numbers_more xs mid new w at n f g l = (λ m. forth ((g l).0 m), λ m. (g l).1 (back m))
  where
    wider : IsNumber w at n l → IsNumber w at (n + 1) l
    wider d = (d.0, omega (arith, d.1), d.2)

    forth : Contains mid l ⊎ IsNumberAt w at n l → Contains xs l ⊎ IsNumber w at (n + 1) l
    forth (inl m) = elim ((f l).0 m) [
      | inl h ↦ inl h
      | inr d ↦ inr (wider d)
    ]
    forth (inr d) = inr (n, omega arith, d)

    back : Contains xs l ⊎ IsNumber w at (n + 1) l → Contains mid l ⊎ IsNumberAt w at n l
    back (inl m) = inl ((f l).1 (inl m))
    back (inr d) = last (split d.0 n d.1)
      where
        last : (d.0 < n) ⊎ (d.0 ≡ n) → Contains mid l ⊎ IsNumberAt w at n l
        last (inl h) = inl ((f l).1 (inr (d.0, h, d.2)))
        last (inr h) = inr (subst (λ (k : ℕ). IsNumberAt w at k l) h d.2)

pub numbers_none : (xs : List ℕ) (w at : ℕ) (l : ℕ) → Contains xs l ↔ (Contains xs l ⊎ IsNumber w at 0 l)
numbers_none xs w at = left_out xs (IsNumber w at 0) (λ l d. omega (arith, d.1))

pub registers_none : (xs : List ℕ) (b : Block) (w : ℕ) → ((b.group ≡ group.Registers) → w ≡ 0) → (l : ℕ) → Contains xs l ↔ (Contains xs l ⊎ IsRegisterOf b w l)
registers_none xs b w f = left_out xs (IsRegisterOf b w) (λ l d. no_bit d.1.0 (sym (ap (λ (v : ℕ). bit_at v d.1.0) (f d.0)) ∙ d.1.2.0))

pub registers_all : (xs new : List ℕ) (b : Block) (w n : ℕ) → b.group ≡ group.Registers → n ≡ 64 → ((l : ℕ) → Contains new l ↔ (Contains xs l ⊎ IsNumber w b.at n l)) → (l : ℕ) → Contains new l ↔ (Contains xs l ⊎ IsRegisterOf b w l)
registers_all xs new b w n e s f l = (
  λ m. elim ((f l).0 m) [
    | inl h ↦ inl h
    | inr d ↦ inr (e, subst (λ (j : ℕ). IsNumber w b.at j l) s d)
  ],
  λ m. elim m [
    | inl h ↦ (f l).1 (inl h)
    | inr d ↦ (f l).1 (inr (subst (λ (j : ℕ). IsNumber w b.at j l) (sym s) d.1))
  ],
)

module _ (columns : List (List Said)) (i : ℕ) where
  pub denied_more : (mid new : List (ℕ × ℕ)) (n : ℕ) → ((p w : ℕ) → Contains mid (p, w) ↔ IsDenied columns i n p w) → ((p w : ℕ) → Contains new (p, w) ↔ (Contains mid (p, w) ⊎ IsDeniedAt n (said_at columns n i).no p w)) → (p w : ℕ) → Contains new (p, w) ↔ IsDenied columns i (n + 1) p w
  denied_more mid new n f g p w = (λ m. forth ((g p w).0 m), λ d. (g p w).1 (back d (split p n d.0)))
    where
      forth : Contains mid (p, w) ⊎ IsDeniedAt n (said_at columns n i).no p w → IsDenied columns i (n + 1) p w
      forth (inl m) = let d = (f p w).0 m in (omega (arith, d.0), d.1, d.2)
      forth (inr d) = (omega (arith, d.0), d.1 ∙ ap (λ (q : ℕ). (said_at columns q i).no) (sym d.0), d.2)

      back : IsDenied columns i (n + 1) p w → (p < n) ⊎ (p ≡ n) → Contains mid (p, w) ⊎ IsDeniedAt n (said_at columns n i).no p w
      back d (inl h) = inl ((f p w).1 (h, d.1, d.2))
      back d (inr h) = inr (h, d.1 ∙ ap (λ (q : ℕ). (said_at columns q i).no) h, d.2)

  pub denied_none : (p w : ℕ) → Contains {X = ℕ × ℕ} [] (p, w) ↔ IsDenied columns i 0 p w
  denied_none p w = (λ m. absurd (omega (arith, m.1)), λ d. absurd (omega (arith, d.0)))

  module _ (bs : List Block) where
    pub says_more : (mid new : List ℕ) (n : ℕ) (b : Block) → slice_get bs n ≡ Some b → ((l : ℕ) → Contains mid l ↔ SaysRegister bs columns i n l) → ((l : ℕ) → Contains new l ↔ (Contains mid l ⊎ IsRegisterOf b (said_at columns n i).yes l)) → (l : ℕ) → Contains new l ↔ SaysRegister bs columns i (n + 1) l
    says_more mid new n b e f g l = (λ m. forth ((g l).0 m), λ d. (g l).1 (back d (split d.place n d.before)))
      where
        forth : Contains mid l ⊎ IsRegisterOf b (said_at columns n i).yes l → SaysRegister bs columns i (n + 1) l
        forth (inl m) = let d = (f l).0 m in record { place = d.place; before = (let h = d.before in omega (arith, h)); block = d.block; is_block = d.is_block; register = d.register }
        forth (inr d) = record { place = n; before = omega arith; block = b; is_block = e; register = d }

        back : (d : SaysRegister bs columns i (n + 1) l) → (d.place < n) ⊎ (d.place ≡ n) → Contains mid l ⊎ IsRegisterOf b (said_at columns n i).yes l
        back d (inl h) = inl ((f l).1 (record { place = d.place; before = h; block = d.block; is_block = d.is_block; register = d.register }))
        back d (inr h) = inr (subst (λ (c : Block). IsRegisterOf c (said_at columns n i).yes l) (same d.block (sym d.is_block ∙ (ap (slice_get bs) h ∙ e))) (subst (λ (q : ℕ). IsRegisterOf d.block (said_at columns q i).yes l) h d.register))
          where
            same : (c : Block) → Some c ≡ Some b → c ≡ b
            same c q = cc

    pub says_none : (l : ℕ) → Contains [] l ↔ SaysRegister bs columns i 0 l
    says_none l = (λ m. absurd (omega (arith, m.1)), λ d. (let h = d.before in absurd (omega (arith, h))))

module _ (columns : List (List Said)) (i : ℕ) where
  pub denied_by : (mid new : List (ℕ × ℕ)) (n : ℕ) (v : Said) → v ≡ said_at columns n i → ((p w : ℕ) → Contains mid (p, w) ↔ IsDenied columns i n p w) → ((p w : ℕ) → Contains new (p, w) ↔ (Contains mid (p, w) ⊎ IsDeniedAt n v.no p w)) → (p w : ℕ) → Contains new (p, w) ↔ IsDenied columns i (n + 1) p w
  denied_by mid new n v e f g = denied_more columns i mid new n f (subst (λ (u : Said). (p w : ℕ) → Contains new (p, w) ↔ (Contains mid (p, w) ⊎ IsDeniedAt n u.no p w)) e g)

  pub says_by : (bs : List Block) (mid new : List ℕ) (n : ℕ) (b : Block) (v : Said) → slice_get bs n ≡ Some b → v ≡ said_at columns n i → ((l : ℕ) → Contains mid l ↔ SaysRegister bs columns i n l) → ((l : ℕ) → Contains new l ↔ (Contains mid l ⊎ IsRegisterOf b v.yes l)) → (l : ℕ) → Contains new l ↔ SaysRegister bs columns i (n + 1) l
  says_by bs mid new n b v e q f g = says_more columns i bs mid new n b e f (subst (λ (u : Said). (l : ℕ) → Contains new l ↔ (Contains mid l ⊎ IsRegisterOf b u.yes l)) q g)

module _ (columns : List (List Said)) (i : ℕ) where
  pub says_at : (bs : List Block) (mid new : List ℕ) (n : ℕ) (d : Block) (v : Said) → n < length bs → v ≡ said_at columns n i → ((l : ℕ) → Contains mid l ↔ SaysRegister bs columns i n l) → ((l : ℕ) → Contains new l ↔ (Contains mid l ⊎ IsRegisterOf (get_or bs n d) v.yes l)) → (l : ℕ) → Contains new l ↔ SaysRegister bs columns i (n + 1) l
  says_at bs mid new n d v h q f g = says_by columns i bs mid new n (get_or bs n d) v (at_place bs n d h) q f g

-- what is said by a block that is there, and by one that isn't
pub in_column : (columns : List (List Said)) (p i : ℕ) (d col : List Said) (r : Said) → p < length columns → col ≡ get_or columns p d → r ≡ slice_index_or col i silent → r ≡ said_at columns p i
in_column columns p i d col r l e f = f ∙ ap (λ (xs : List Said). slice_index_or xs i silent) (e ∙ get_or_default columns p d [] l)

pub no_column : (columns : List (List Said)) (p i : ℕ) → length columns ≤ p → silent ≡ said_at columns p i
no_column columns p i l = sym (ap (λ (xs : List Said). slice_index_or xs i silent) (past columns p [] l))

pub stored_is : (ms made : List Made) (actions : List Action) (i : ℕ) (d a : Action) (r : Bool) → ms ≡ made → slice_get actions i ≡ Some a → r ≡ is_stored ms (get_or actions i d).var (get_or actions i d).copy → r ≡ is_stored made a.var a.copy
stored_is ms made actions i d a r m e f = f ∙ (ap (λ (x : Action). is_stored ms x.var x.copy) (got_at actions i d a e) ∙ ap (λ (xs : List Made). is_stored xs a.var a.copy) m)

-- ---- the claims of an action
registers_of_group : (g : Group) (n l : ℕ) → ref_of g n ≡ ref.Reg l → (g ≡ group.Registers) × (n ≡ l)
registers_of_group group.Inputs n l e = absurd (cc)
registers_of_group group.Registers n l e = (refl, cc)
registers_of_group group.Cells n l e = absurd (cc)

module _ (s : Scene) (bs : List Block) (actions : List Action) (columns : List (List Said)) (covered : AreCovered s.cells bs actions) (cols : AreColumns s.cells bs actions columns) where
  pub claim_is : (i : ℕ) (a : Action) (c : Claims) → slice_get actions i ≡ Some a
      → AreYes columns i c.yes
      → ((p w : ℕ) → Contains c.no (p, w) ↔ IsDenied columns i (length columns) p w)
      → ((l : ℕ) → Contains c.registers l ↔ SaysRegister bs columns i (length bs) l)
      → c.stored ≡ is_stored s.made a.var a.copy → IsClaimOf s bs a c
  claim_is i a c e plus minus registers stored = record {
    covered = covered i a e;
    yes = λ p b f. subst (λ (w : ℕ). Marks w b (λ x. Must s.cells (value a.guard) true x true)) (sym (plus p (within p b f))) (cols.tells p i b a f e).yes;
    no = λ p w b f m. subst (λ (v : ℕ). Marks v b (λ x. Must s.cells (value a.guard) true x false)) (sym ((minus p w).0 m).1) (cols.tells p i b a f e).no;
    no_all = λ p k b f l m. ((said_at columns p i).no, (minus p (said_at columns p i).no).1 (within p b f, refl, λ z. no_bit k (sym (ap (λ (v : ℕ). bit_at v k) z) ∙ ((cols.tells p i b a f e).no k l).1 m)));
    no_within = λ p w m. (let h = ((minus p w).0 m).0 in let size = cols.size in omega (arith, h, size));
    registers = λ l. (λ m. (registered l ((registers l).0 m)), λ m. (registers l).1 (found l m (covered i a e (ref.Reg l) true m)));
    stored = stored;
  }
    where
      within : (p : ℕ) (b : Block) → slice_get bs p ≡ Some b → p < length columns
      within p b f = let h : p < length bs = there bs p b f in let size = cols.size in omega (arith, h, size)

      registered : (l : ℕ) → SaysRegister bs columns i (length bs) l → Must s.cells (value a.guard) true (ref.Reg l) true
      registered l d =
          let m : Must s.cells (value a.guard) true (ref_at d.block d.register.1.0) true = ((cols.tells d.place i d.block a d.is_block e).yes d.register.1.0 d.register.1.1).0 d.register.1.2.0 in
          let q : ref_at d.block d.register.1.0 ≡ ref.Reg l = ap (λ (g : Group). ref_of g (64 * d.block.at + d.register.1.0)) d.register.0 ∙ ap ref.Reg (sym d.register.1.2.1) in
          subst (λ (x : Ref). Must s.cells (value a.guard) true x true) q m

      found : (l : ℕ) → Must s.cells (value a.guard) true (ref.Reg l) true → HasPlace bs (ref.Reg l) → SaysRegister bs columns i (length bs) l
      found l m h =
          let g : (h.block.group ≡ group.Registers) × (64 * h.block.at + h.at_bit ≡ l) = registers_of_group h.block.group (64 * h.block.at + h.at_bit) l h.is_there in
          let bit : bit_at (said_at columns h.at_block i).yes h.at_bit ≡ 1 = ((cols.tells h.at_block i h.block a h.is_block e).yes h.at_bit h.within).1 (subst (λ (x : Ref). Must s.cells (value a.guard) true x true) (sym h.is_there) m) in
          record { place = h.at_block; before = there bs h.at_block h.block h.is_block; block = h.block; is_block = h.is_block; register = (g.0, (h.at_bit, h.within, (bit, sym g.1))) }

-- one more action's claims
pub claims_at : (s : Scene) (bs : List Block) (columns : List (List Said)) (actions : List Action) (claims new : List Claims) (n : ℕ) (x : Claims) → new ≡ claims ++ x ∷ [] → length claims ≡ n → ((a : Action) → slice_get actions n ≡ Some a → IsClaimButYes s bs columns n a x)
    → ((i : ℕ) (a : Action) (c : Claims) → slice_get actions i ≡ Some a → slice_get claims i ≡ Some c → IsClaimButYes s bs columns i a c)
    → (i : ℕ) (a : Action) (c : Claims) → slice_get actions i ≡ Some a → slice_get new i ≡ Some c → IsClaimButYes s bs columns i a c
claims_at s bs columns actions claims new n x q size f g i a c e h = at (get_push claims x i c (ap (λ (xs : List Claims). slice_get xs i) (sym q) ∙ h))
  where
    at : (slice_get claims i ≡ Some c) ⊎ ((i ≡ length claims) × (x ≡ c)) → IsClaimButYes s bs columns i a c
    at (inl r) = g i a c e r
    at (inr r) = subst (λ (k : ℕ). IsClaimButYes s bs columns k a c) (sym (r.0 ∙ size)) (subst (IsClaimButYes s bs columns n a) r.1 (f a (ap (slice_get actions) (sym (r.0 ∙ size)) ∙ e)))

-- the words of one more action
module _ (s : Scene) (bs : List Block) (columns : List (List Said)) (actions : List Action) (claims : List Claims) (n : ℕ) (p : AreClaimsFrom n s bs columns actions claims) where
  pub claims_filled : (d : Claims) (ys : List ℕ) → n < length claims → AreYes columns n ys → AreClaimsFrom (n + 1) s bs columns actions (set claims n (record (get_or claims n d) { yes = ys }))
  claims_filled d ys l f = record {
    size = length-set claims n (record (get_or claims n d) { yes = ys }) ∙ p.size;
    before = λ i a c lt e h. at i a c e h (split i n lt);
    behind = λ i a c le e h. p.behind i a c (omega (arith, le)) e (sym (set_other claims n i (record (get_or claims n d) { yes = ys }) (λ q. omega (arith, le, q))) ∙ h);
  }
    where
      same : (b c : Claims) → Some b ≡ Some c → b ≡ c
      same b c q = cc

      at : (i : ℕ) (a : Action) (c : Claims) → slice_get actions i ≡ Some a → slice_get (set claims n (record (get_or claims n d) { yes = ys })) i ≡ Some c → (i < n) ⊎ (i ≡ n) → IsClaimOf s bs a c
      at i a c e h (inl lt) = p.before i a c lt e (sym (set_other claims n i (record (get_or claims n d) { yes = ys }) (λ q. omega (arith, lt, q))) ∙ h)
      at i a c e h (inr q) =
          let r : record (get_or claims n d) { yes = ys } ≡ c = same (record (get_or claims n d) { yes = ys }) c (sym (ap (slice_get (set claims n (record (get_or claims n d) { yes = ys }))) q ∙ set_same claims n (record (get_or claims n d) { yes = ys }) l) ∙ h) in
          subst (IsClaimOf s bs a) r (p.behind n a (get_or claims n d) (omega arith) (ap (slice_get actions) (sym q) ∙ e) (at_place claims n d l) ys f)

  pub claims_filled_at : (x : Claims) (cols : List (List Said)) (ys : List ℕ) → x ≡ get_or claims n x → n < length claims → cols ≡ columns → AreYes cols n ys → AreClaimsFrom (n + 1) s bs columns actions (set claims n (record x { yes = ys }))
  claims_filled_at x cols ys e l q f = subst (λ (c : Claims). AreClaimsFrom (n + 1) s bs columns actions (set claims n (record c { yes = ys }))) (sym e) (claims_filled x ys l (subst (λ (xs : List (List Said)). AreYes xs n ys) q f))

  pub claims_whole : length actions ≤ n → AreClaimsOf s actions claims
  claims_whole l = record { blocks = bs; size = p.size; each = λ i a c e h. p.before i a c (let t = there actions i a e in omega (arith, t, l)) e h }
