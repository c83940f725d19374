-- Registers carry the store of one copy.
use Rattle.std.proofs.Common.{◌≡◌, ◌∙◌, ◌⊎◌, inl, inr, ℕ, zero, suc, ◌+◌, ◌*◌, ◌<◌, ◌≤◌, ℤ, pos, Bool, true, false, List, [], ◌∷◌, ◌++◌, length, map, replicate, All, Contains, Option, Some, option_map, unwrap_or, refl, sym, ap, subst, arith, length-append}
use Rattle.std.specs.Prelude.{slice_get, slice_index_or, if◌then◌else◌}
use Rattle.std.proofs.lemmas.Bool.{cases_lt}
use Rattle.std.proofs.lemmas.List.{length-replicate}
use Rattle.std.proofs.lemmas.List.Elements.{All-append, All-cons, All-contains, All-head, All-nil, All-tail}
use Rattle.quartz_tree.specs.declared.place.Place.{Place}
use Rattle.aif_cells.specs.declared.reference.Ref.{Ref}
use Rattle.aif_cells.specs.declared.reference.Ref.TheVariants as ref
use Rattle.aif_cells.specs.declared.cells.Register.{Register}
use Rattle.aif_cells.specs.Aif.{elements_of}
use Rattle.aif_cells.specs.Tree.{cases, value}
use Rattle.aif_cells.specs.Built.{Defined, Made, all_defined}
use Rattle.aif_cells.specs.Dependences.{cells_in, cells_named}
use Rattle.aif_cells.specs.Solution.{Extends, MeetsFrom}
use Rattle.aif_cells.specs.Worth.{Assignment, read, truth, worth}
use Rattle.aif_cells.proofs.SolutionLemmas.{there}
use Rattle.reincarnation.specs.declared.copy.ClosedRefs.{ClosedRefs}
use Rattle.reincarnation.specs.declared.copy.Entered.{Entered}
use Rattle.reincarnation.specs.declared.copy.Part.{Part}
use Rattle.reincarnation.specs.declared.copy.Part.TheVariants.{Value, Flag, Pending}
use Rattle.reincarnation.specs.Carrying.{Stores, arm_of, carried, carried_from, carried_part, carried_parts, parts_of, ref_in, taken, with_next}
use Rattle.reincarnation.specs.Entering.{reserved}
use Rattle.reincarnation.specs.Meaning.{CarriesOneStore, CarryingGoesBack, CarryingKeeps, CarryingNamesEarlier, ClosedIsBelow, DepthIsCarried, EnteredIsBelow, EnteredIsCarried, EnteringReserves, IsBelow, carried_copy, next_at}
use Rattle.reincarnation.proofs.CarryLemmas.{length-with_next}
use Rattle.aif_cells.proofs.ItemLemmas.{get_before, get_new}

-- ---- which copy is carried

chosen : (b : Bool) (c d : ClosedRefs) → b ≡ false → (if b then c else d) ≡ d
chosen false c d e = refl
chosen true c d e = absurd (cc)

chosen_first : (b : Bool) (c d : ClosedRefs) → b ≡ true → (if b then c else d) ≡ c
chosen_first true c d e = refl
chosen_first false c d e = absurd (cc)

pub depth_is_carried : DepthIsCarried
depth_is_carried σ [] depth none = refl
depth_is_carried σ (e ∷ es) depth none =
    chosen (truth σ e.enter) e.closed (carried_copy σ es depth) (All-head (λ (x : Entered). truth σ x.enter ≡ false) e es none)
    ∙ depth_is_carried σ es depth (All-tail (λ (x : Entered). truth σ x.enter ≡ false) e es none)

pub entered_is_carried : EnteredIsCarried
entered_is_carried σ [] e rest depth none is = chosen_first (truth σ e.enter) e.closed (carried_copy σ rest depth) is
entered_is_carried σ (x ∷ front) e rest depth none is =
    chosen (truth σ x.enter) x.closed (carried_copy σ (front ++ e ∷ rest) depth) (All-head (λ (y : Entered). truth σ y.enter ≡ false) x front none)
    ∙ entered_is_carried σ front e rest depth (All-tail (λ (y : Entered). truth σ y.enter ≡ false) x front none) is

-- ---- cells come behind those that were there

abbrev none_free : ℕ → Bool
none_free k = false

follow : {a b c : List Defined} → Extends none_free a b → Extends none_free b c → Extends none_free a c
follow p q = record {
  longer = omega (arith, p.longer, q.longer);
  kept = λ k h e. q.kept k (omega (arith, p.longer, h)) e ∙ p.kept k h e;
}

same_extends : (a : List Defined) → Extends none_free a a
same_extends a = record { longer = omega arith; kept = λ k h e. refl }

appended : (xs ys : List Defined) → Extends none_free xs (xs ++ ys)
appended xs ys = record { longer = omega (arith, length-append xs ys); kept = λ k h e. get_before xs ys k h }

taken_extends : (place : Place) (es : List Entered) (depth : ClosedRefs) (j : ℕ) (p : Part) (cs : List Defined) → Extends none_free cs (taken place es depth j p cs).cells
taken_extends place [] depth j p cs = same_extends cs
taken_extends place (e ∷ es) depth j p cs = appended cs (record { tree = cases (map (arm_of j p) (e ∷ es)) (value (ref_in j p depth)); place = place } ∷ [])

met_down : (σ : Assignment) (n : ℕ) {a b : List Defined} → Extends none_free a b → MeetsFrom σ n b → MeetsFrom σ n a
met_down σ n {a} p met k d le is = met k d le (p.kept k (there a k d is) refl ∙ is)

-- ---- registers

with_same : (rs : List Register) (r : ℕ) (n : Ref) → r < length rs → next_at (with_next rs r n) r ≡ n
with_same [] r n h = absurd (omega (arith, h))
with_same (x ∷ xs) zero n h = refl
with_same (x ∷ xs) (suc r) n h = with_same xs r n (omega (arith, h))

pub with_other : (rs : List Register) (r : ℕ) (n : Ref) (q : ℕ) → (q < r) ⊎ (r + 1 ≤ q) → slice_get (with_next rs r n) q ≡ slice_get rs q
with_other [] r n q h = refl
with_other (x ∷ xs) zero n zero h = absurd (elim h [ inl a ↦ omega (arith, a) | inr b ↦ omega (arith, b) ])
with_other (x ∷ xs) zero n (suc q) h = refl
with_other (x ∷ xs) (suc r) n zero h = refl
with_other (x ∷ xs) (suc r) n (suc q) h = with_other xs r n q (elim h [ inl a ↦ inl (omega (arith, a)) | inr b ↦ inr (omega (arith, b)) ])

with_starts : (rs : List Register) (r : ℕ) (n : Ref) → map (λ x. x.initial) (with_next rs r n) ≡ map (λ x. x.initial) rs
with_starts [] r n = refl
with_starts (x ∷ xs) zero n = refl
with_starts (x ∷ xs) (suc r) n = ap (λ (zs : List ℤ). x.initial ∷ zs) (with_starts xs r n)

-- ---- what a cell that was made for a register has

-- a chain of choices has what the carried copy has
chain_reads : (σ : Assignment) (es : List Entered) (depth : ClosedRefs) (j : ℕ) (p : Part) → worth σ (cases (map (arm_of j p) es) (value (ref_in j p depth))) ≡ read σ (ref_in j p (carried_copy σ es depth))
chain_reads σ [] depth j p = refl
chain_reads σ (e ∷ es) depth j p = step (truth σ e.enter) e.closed (carried_copy σ es depth) (worth σ (cases (map (arm_of j p) es) (value (ref_in j p depth)))) (chain_reads σ es depth j p)
  where
    step : (b : Bool) (c d : ClosedRefs) (w : ℤ) → w ≡ read σ (ref_in j p d) → (if b then read σ (ref_in j p c) else w) ≡ read σ (ref_in j p (if b then c else d))
    step true c d w f = refl
    step false c d w f = f

taken_reads : (σ : Assignment) (n : ℕ) (place : Place) (es : List Entered) (depth : ClosedRefs) (j : ℕ) (p : Part) (cs : List Defined) → n ≤ length cs → MeetsFrom σ n (taken place es depth j p cs).cells
    → read σ (taken place es depth j p cs).ref ≡ read σ (ref_in j p (carried_copy σ es depth))
taken_reads σ n place [] depth j p cs le met = refl
taken_reads σ n place (e ∷ es) depth j p cs le met =
    let x : Defined = record { tree = cases (map (arm_of j p) (e ∷ es)) (value (ref_in j p depth)); place = place } in
    met (length cs) x le (get_new cs x) ∙ chain_reads σ (e ∷ es) depth j p

module _ (place : Place) (es : List Entered) (depth : ClosedRefs) where
  -- ---- what stays as it was

  parts_extends : (j : ℕ) (ps : List Part) (r : ℕ) (τ : Stores) → Extends none_free τ.cells (carried_parts place es depth j ps r τ).cells
  parts_extends j [] r τ = same_extends τ.cells
  parts_extends j (p ∷ ps) r τ = follow (taken_extends place es depth j p τ.cells) (parts_extends j ps (r + 1) (carried_part place es depth j p r τ))

  from_extends : (ps : List Part) (j count r : ℕ) (τ : Stores) → Extends none_free τ.cells (carried_from place es depth ps j count r τ).cells
  from_extends ps j zero r τ = same_extends τ.cells
  from_extends ps j (suc count) r τ = follow (parts_extends j ps r τ) (from_extends ps (j + 1) count (r + length ps) (carried_parts place es depth j ps r τ))

  parts_starts : (j : ℕ) (ps : List Part) (r : ℕ) (τ : Stores) → map (λ x. x.initial) (carried_parts place es depth j ps r τ).registers ≡ map (λ x. x.initial) τ.registers
  parts_starts j [] r τ = refl
  parts_starts j (p ∷ ps) r τ = parts_starts j ps (r + 1) (carried_part place es depth j p r τ) ∙ with_starts τ.registers r (taken place es depth j p τ.cells).ref

  from_starts : (ps : List Part) (j count r : ℕ) (τ : Stores) → map (λ x. x.initial) (carried_from place es depth ps j count r τ).registers ≡ map (λ x. x.initial) τ.registers
  from_starts ps j zero r τ = refl
  from_starts ps j (suc count) r τ = from_starts ps (j + 1) count (r + length ps) (carried_parts place es depth j ps r τ) ∙ parts_starts j ps r τ

  parts_count : (j : ℕ) (ps : List Part) (r : ℕ) (τ : Stores) → length (carried_parts place es depth j ps r τ).registers ≡ length τ.registers
  parts_count j [] r τ = refl
  parts_count j (p ∷ ps) r τ = parts_count j ps (r + 1) (carried_part place es depth j p r τ) ∙ length-with_next τ.registers r (taken place es depth j p τ.cells).ref

  parts_others : (j : ℕ) (ps : List Part) (r : ℕ) (τ : Stores) (q : ℕ) → (q < r) ⊎ (r + length ps ≤ q) → slice_get (carried_parts place es depth j ps r τ).registers q ≡ slice_get τ.registers q
  parts_others j [] r τ q h = refl
  parts_others j (p ∷ ps) r τ q h =
      parts_others j ps (r + 1) (carried_part place es depth j p r τ) q (elim h [ inl a ↦ inl (omega (arith, a)) | inr b ↦ inr (omega (arith, b)) ])
      ∙ with_other τ.registers r (taken place es depth j p τ.cells).ref q (elim h [ inl a ↦ inl a | inr b ↦ inr (omega (arith, b)) ])

  from_others : (ps : List Part) (j count r : ℕ) (τ : Stores) (q : ℕ) → (q < r) ⊎ (r + count * length ps ≤ q) → slice_get (carried_from place es depth ps j count r τ).registers q ≡ slice_get τ.registers q
  from_others ps j zero r τ q h = refl
  from_others ps j (suc count) r τ q h =
      let more : r + suc count * length ps ≡ r + length ps + count * length ps = omega arith in
      from_others ps (j + 1) count (r + length ps) (carried_parts place es depth j ps r τ) q (elim h [ inl a ↦ inl (omega (arith, a)) | inr b ↦ inr (omega (arith, b, more)) ])
      ∙ parts_others j ps r τ q (elim h [ inl a ↦ inl a | inr b ↦ inr (omega (arith, b, more)) ])

  -- ---- what the registers take

  next_stays : (rs qs : List Register) (r : ℕ) → slice_get rs r ≡ slice_get qs r → next_at rs r ≡ next_at qs r
  next_stays rs qs r e = ap (λ (o : Option Register). unwrap_or (option_map (λ x. x.next) o) (ref.Lit (pos 0))) e

  parts_read : (σ : Assignment) (n : ℕ) (j : ℕ) (ps : List Part) (r : ℕ) (τ : Stores) (i : ℕ) (p : Part) → slice_get ps i ≡ Some p → r + length ps ≤ length τ.registers → n ≤ length τ.cells
      → MeetsFrom σ n (carried_parts place es depth j ps r τ).cells → read σ (next_at (carried_parts place es depth j ps r τ).registers (r + i)) ≡ read σ (ref_in j p (carried_copy σ es depth))
  parts_read σ n j [] r τ i p is room le met = absurd (cc)
  parts_read σ n j (q ∷ ps) r τ zero p is room le met =
      let m : Made = taken place es depth j q τ.cells in
      let τ' : Stores = carried_part place es depth j q r τ in
      let zero_more : r + 0 ≡ r = omega arith in
      let same : q ≡ p = cc in
      ap (λ (k : ℕ). read σ (next_at (carried_parts place es depth j ps (r + 1) τ').registers k)) zero_more
      ∙ ap (read σ) (next_stays (carried_parts place es depth j ps (r + 1) τ').registers τ'.registers r (parts_others j ps (r + 1) τ' r (inl (omega arith))))
      ∙ ap (read σ) (with_same τ.registers r m.ref (omega (arith, room)))
      ∙ taken_reads σ n place es depth j q τ.cells le (met_down σ n (parts_extends j ps (r + 1) τ') met)
      ∙ ap (λ (x : Part). read σ (ref_in j x (carried_copy σ es depth))) same
  parts_read σ n j (q ∷ ps) r τ (suc i) p is room le met =
      let τ' : Stores = carried_part place es depth j q r τ in
      let count : length τ'.registers ≡ length τ.registers = length-with_next τ.registers r (taken place es depth j q τ.cells).ref in
      let longer : length τ.cells ≤ length τ'.cells = (taken_extends place es depth j q τ.cells).longer in
      let at : r + suc i ≡ r + 1 + i = omega arith in
      ap (λ (k : ℕ). read σ (next_at (carried_parts place es depth j (q ∷ ps) r τ).registers k)) at
      ∙ parts_read σ n j ps (r + 1) τ' i p is (omega (arith, room, count)) (omega (arith, le, longer)) met

  from_read : (σ : Assignment) (n : ℕ) (ps : List Part) (j count r : ℕ) (τ : Stores) (k i : ℕ) (p : Part) → k < count → slice_get ps i ≡ Some p → r + count * length ps ≤ length τ.registers → n ≤ length τ.cells
      → MeetsFrom σ n (carried_from place es depth ps j count r τ).cells → read σ (next_at (carried_from place es depth ps j count r τ).registers (r + k * length ps + i)) ≡ read σ (ref_in (j + k) p (carried_copy σ es depth))
  from_read σ n ps j zero r τ k i p h is room le met = absurd (omega (arith, h))
  from_read σ n ps j (suc count) r τ zero i p h is room le met =
      let τ' : Stores = carried_parts place es depth j ps r τ in
      let after : Stores = carried_from place es depth ps (j + 1) count (r + length ps) τ' in
      let inside : i < length ps = there ps i p is in
      let at : r + 0 * length ps + i ≡ r + i = omega arith in
      let first : j + 0 ≡ j = omega arith in
      let more : r + suc count * length ps ≡ r + length ps + count * length ps = omega arith in
      ap (λ (m : ℕ). read σ (next_at after.registers m)) at
      ∙ ap (read σ) (next_stays after.registers τ'.registers (r + i) (from_others ps (j + 1) count (r + length ps) τ' (r + i) (inl (omega (arith, inside)))))
      ∙ parts_read σ n j ps r τ i p is (omega (arith, room, more)) le (met_down σ n (from_extends ps (j + 1) count (r + length ps) τ') met)
      ∙ ap (λ (m : ℕ). read σ (ref_in m p (carried_copy σ es depth))) (sym first)
  from_read σ n ps j (suc count) r τ (suc k) i p h is room le met =
      let τ' : Stores = carried_parts place es depth j ps r τ in
      let after : Stores = carried_from place es depth ps (j + 1) count (r + length ps) τ' in
      let more : r + suc count * length ps ≡ r + length ps + count * length ps = omega arith in
      let at : r + suc k * length ps + i ≡ r + length ps + k * length ps + i = omega arith in
      let element : j + 1 + k ≡ j + suc k = omega arith in
      let longer : length τ.cells ≤ length τ'.cells = (parts_extends j ps r τ).longer in
      ap (λ (m : ℕ). read σ (next_at after.registers m)) at
      ∙ from_read σ n ps (j + 1) count (r + length ps) τ' k i p (omega (arith, h)) is (omega (arith, room, more, parts_count j ps r τ)) (omega (arith, le, longer)) met
      ∙ ap (λ (m : ℕ). read σ (ref_in m p (carried_copy σ es depth))) element

pub carries_one_store : CarriesOneStore
carries_one_store v es depth first before σ room met j i p h is =
    let element : 0 + j ≡ j = omega arith in
    from_read v.decl.place es depth σ (length before.cells) (parts_of v) 0 (elements_of v) first before j i p h is room (omega arith) met
    ∙ ap (λ (m : ℕ). read σ (ref_in m p (carried_copy σ es depth))) element

pub carrying_keeps : CarryingKeeps
carrying_keeps v es depth first before = record {
  cells = from_extends v.decl.place es depth (parts_of v) 0 (elements_of v) first before;
  starts = from_starts v.decl.place es depth (parts_of v) 0 (elements_of v) first before;
  others = from_others v.decl.place es depth (parts_of v) 0 (elements_of v) first before;
}

pub carrying_goes_back : CarryingGoesBack
carrying_goes_back v es depth first before σ free meets k c is bound = meets k c ((from_extends v.decl.place es depth (parts_of v) 0 (elements_of v) first before).kept k (there before.cells k c is) refl ∙ is) bound

-- ---- which cells are named

below_more : (n m : ℕ) (ds : List ℕ) → n ≤ m → All (λ d. d < n) ds → All (λ d. d < m) ds
below_more n m ds le h k x lt = let at : slice_index_or ds k x < n = h k x lt in omega (arith, at, le)

listed_below : (n : ℕ) (rs : List Ref) (j : ℕ) → All (IsBelow n) rs → IsBelow n (slice_index_or rs j (ref.Lit (pos 0)))
listed_below n [] j h = All-nil (λ d. d < n)
listed_below n (r ∷ rs) zero h = All-head (IsBelow n) r rs h
listed_below n (r ∷ rs) (suc j) h = listed_below n rs j (All-tail (IsBelow n) r rs h)

ref_below : (n : ℕ) (j : ℕ) (p : Part) (c : ClosedRefs) → ClosedIsBelow n c → IsBelow n (ref_in j p c)
ref_below n j Value c h = listed_below n c.values j h.values
ref_below n j Flag c h = listed_below n c.flags j h.flags
ref_below n j Pending c h = listed_below n c.pending j h.pending

chain_below : (n : ℕ) (es : List Entered) (depth : ClosedRefs) (j : ℕ) (p : Part) → All (EnteredIsBelow n) es → ClosedIsBelow n depth → All (λ d. d < n) (cells_in (cases (map (arm_of j p) es) (value (ref_in j p depth))))
chain_below n [] depth j p hs h = ref_below n j p depth h
chain_below n (e ∷ es) depth j p hs h =
    let its : EnteredIsBelow n e = All-head (EnteredIsBelow n) e es hs in
    let rest : List ℕ = cells_in (cases (map (arm_of j p) es) (value (ref_in j p depth))) in
    All-append (λ d. d < n) (cells_named e.enter) (cells_named (ref_in j p e.closed) ++ rest) its.enter
    (All-append (λ d. d < n) (cells_named (ref_in j p e.closed)) rest (ref_below n j p e.closed its.closed) (chain_below n es depth j p (All-tail (EnteredIsBelow n) e es hs) h))

-- cells from number n on depend on cells below n alone
abbrev LateNameEarly : (n : ℕ) → List Defined → Type 0
LateNameEarly n cs = (k : ℕ) (c : Defined) → n ≤ k → slice_get cs k ≡ Some c → All (λ d. d < n) (cells_in c.tree)

pushed : (n : ℕ) (cs : List Defined) (x : Defined) → All (λ d. d < n) (cells_in x.tree) → LateNameEarly n cs → LateNameEarly n (cs ++ x ∷ [])
pushed n cs x h late k c le is = elim (cases_lt k (length cs)) [
  | inl lt ↦ late k c le (sym (get_before cs (x ∷ []) k lt) ∙ is)
  | inr ge ↦
      let lt : k < length (cs ++ x ∷ []) = there (cs ++ x ∷ []) k c is in
      let at : k ≡ length cs = omega (arith, lt, ge, length-append cs (x ∷ [])) in
      let same : Some x ≡ Some c = sym (ap (slice_get (cs ++ x ∷ [])) at ∙ get_new cs x) ∙ is in
      subst (λ (y : Defined). All (λ d. d < n) (cells_in y.tree)) (the_one x c same) h
]
  where
    the_one : (x c : Defined) → Some x ≡ Some c → x ≡ c
    the_one x c e = cc

taken_late : (n : ℕ) (place : Place) (es : List Entered) (depth : ClosedRefs) (j : ℕ) (p : Part) (cs : List Defined) → All (EnteredIsBelow n) es → ClosedIsBelow n depth → LateNameEarly n cs → LateNameEarly n (taken place es depth j p cs).cells
taken_late n place [] depth j p cs hs h late = late
taken_late n place (e ∷ es) depth j p cs hs h late = pushed n cs (record { tree = cases (map (arm_of j p) (e ∷ es)) (value (ref_in j p depth)); place = place }) (chain_below n (e ∷ es) depth j p hs h) late

-- what a register takes is there
taken_below : (n : ℕ) (place : Place) (es : List Entered) (depth : ClosedRefs) (j : ℕ) (p : Part) (cs : List Defined) → n ≤ length cs → ClosedIsBelow n depth → IsBelow (length (taken place es depth j p cs).cells) (taken place es depth j p cs).ref
taken_below n place [] depth j p cs le h = below_more n (length cs) (cells_named (ref_in j p depth)) le (ref_below n j p depth h)
taken_below n place (e ∷ es) depth j p cs le h =
    let x : Defined = record { tree = cases (map (arm_of j p) (e ∷ es)) (value (ref_in j p depth)); place = place } in
    All-cons (λ d. d < length (cs ++ x ∷ [])) (length cs) [] (omega (arith, length-append cs (x ∷ []))) (All-nil (λ d. d < length (cs ++ x ∷ [])))

nexts_with : (n : ℕ) (rs : List Register) (r : ℕ) (x : Ref) → IsBelow n x → All (λ y. IsBelow n y.next) rs → All (λ y. IsBelow n y.next) (with_next rs r x)
nexts_with n [] r x h hs = All-nil (λ (y : Register). IsBelow n y.next)
nexts_with n (y ∷ rs) zero x h hs = All-cons (λ (y : Register). IsBelow n y.next) (record y { next = x }) rs h (All-tail (λ (y : Register). IsBelow n y.next) y rs hs)
nexts_with n (y ∷ rs) (suc r) x h hs = All-cons (λ (y : Register). IsBelow n y.next) y (with_next rs r x) (All-head (λ (y : Register). IsBelow n y.next) y rs hs) (nexts_with n rs r x h (All-tail (λ (y : Register). IsBelow n y.next) y rs hs))

nexts_more : (n m : ℕ) (rs : List Register) → n ≤ m → All (λ y. IsBelow n y.next) rs → All (λ y. IsBelow m y.next) rs
nexts_more n m rs le hs k d lt = below_more n m (cells_named (slice_index_or rs k d).next) le (hs k d lt)

-- what holds while more registers get what they take
record Sound (P : Type 0) (n : ℕ) (τ : Stores) : Type 0 where
  count : n ≤ length τ.cells
  late : LateNameEarly n τ.cells
  nexts : P → All (λ y. IsBelow (length τ.cells) y.next) τ.registers

module _ (P : Type 0) (n : ℕ) (place : Place) (es : List Entered) (depth : ClosedRefs) (hs : All (EnteredIsBelow n) es) (h : ClosedIsBelow n depth) where
  part_sound : (j : ℕ) (p : Part) (r : ℕ) (τ : Stores) → Sound P n τ → Sound P n (carried_part place es depth j p r τ)
  part_sound j p r τ s =
      let longer : length τ.cells ≤ length (taken place es depth j p τ.cells).cells = (taken_extends place es depth j p τ.cells).longer in
      record {
        count = omega (arith, s.count, longer);
        late = taken_late n place es depth j p τ.cells hs h s.late;
        nexts = λ q. nexts_with (length (taken place es depth j p τ.cells).cells) τ.registers r (taken place es depth j p τ.cells).ref (taken_below n place es depth j p τ.cells s.count h)
            (nexts_more (length τ.cells) (length (taken place es depth j p τ.cells).cells) τ.registers longer (s.nexts q));
      }

  parts_sound : (j : ℕ) (ps : List Part) (r : ℕ) (τ : Stores) → Sound P n τ → Sound P n (carried_parts place es depth j ps r τ)
  parts_sound j [] r τ s = s
  parts_sound j (p ∷ ps) r τ s = parts_sound j ps (r + 1) (carried_part place es depth j p r τ) (part_sound j p r τ s)

  from_sound : (ps : List Part) (j count r : ℕ) (τ : Stores) → Sound P n τ → Sound P n (carried_from place es depth ps j count r τ)
  from_sound ps j zero r τ s = s
  from_sound ps j (suc count) r τ s = from_sound ps (j + 1) count (r + length ps) (carried_parts place es depth j ps r τ) (parts_sound j ps r τ s)

no_late : (cs : List Defined) → LateNameEarly (length cs) cs
no_late cs k c le is = let lt : k < length cs = there cs k c is in absurd (omega (arith, lt, le))

pub carrying_names_earlier : CarryingNamesEarlier
carrying_names_earlier v es depth first before hs h =
    let n : ℕ = length before.cells in
    let P : Type 0 = All (λ (y : Register). IsBelow n y.next) before.registers in
    let s : Sound P n (carried v es depth first before) = from_sound P n v.decl.place es depth hs h (parts_of v) 0 (elements_of v) first before (record { count = omega arith; late = no_late before.cells; nexts = λ q. q }) in
    record {
      cells = λ k d le dep. All-contains (λ x. x < n) (cells_in dep.0.tree) d (s.late k dep.0 le dep.1) dep.2;
      nexts = s.nexts;
    }

-- ---- a new copy

pub copied : (n k : ℕ) (x c : Defined) → slice_get (replicate n x) k ≡ Some c → x ≡ c
copied zero k x c e = absurd (cc)
copied (suc n) zero x c e = cc
copied (suc n) (suc k) x c e = copied n k x c e

pub last_is : (xs : List Defined) (n k : ℕ) (x c : Defined) → length xs ≤ k → slice_get (xs ++ replicate n x) k ≡ Some c → x ≡ c
last_is [] n k x c le e = copied n k x c e
last_is (y ∷ xs) n zero x c le e = absurd (omega (arith, le))
last_is (y ∷ xs) n (suc k) x c le e = last_is xs n k x c (omega (arith, le)) e

no_contents : (d : ℕ) → Contains [] d → ⊥
no_contents d h = omega (arith, h.1)

pub entering_reserves : EnteringReserves
entering_reserves before var stored v copy values after entered =
    let xs : List Defined = all_defined before.cells in
    let x : Defined = reserved v.decl.place in
    let n : ℕ = elements_of v in
    let many : length (xs ++ replicate n x) ≡ length xs + n = length-append xs (replicate n x) ∙ ap (λ (m : ℕ). length xs + m) (length-replicate n x) in
    record {
      cells = subst (λ (ys : List Defined). Extends none_free xs ys) (sym entered.cells) (appended xs (replicate n x));
      count = ap length entered.cells ∙ many;
      free = λ k d le dep. no_contents d (subst (λ (c : Defined). Contains (cells_in c.tree) d) (sym (last_is xs n k x dep.0 le (sym (ap (λ (ys : List Defined). slice_get ys k) entered.cells) ∙ dep.1))) dep.2);
    }
