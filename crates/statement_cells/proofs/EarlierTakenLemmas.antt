-- What registers take is made in order.
use Rattle.std.proofs.Common.{◌≡◌, ◌∙◌, inl, inr, ℕ, zero, suc, ◌+◌, ◌≤◌, ◌<◌, ◌==◌, ℤ, pos, Bool, true, false, List, [], ◌∷◌, ◌++◌, length, map, All, None, refl, sym, arith}
use Rattle.std.specs.Prelude.{filter, replicate, if◌then◌else◌}
use Rattle.std.proofs.lemmas.Bool.{cases_lt}
use Rattle.std.proofs.lemmas.List.Elements.{All-append, All-cons, All-filter, All-head, All-nil, All-tail}
use Rattle.quartz_tree.specs.declared.declare.Var.{Var}
use Rattle.quartz_expr.specs.Vars.{Vars, count_of}
use Rattle.quartz_expr.specs.Terms.{Term, nothing, pause, write, choose, seq, par, loop, abort, suspend, scope, Terms, none, part}
use Rattle.aif_cells.specs.declared.reference.Ref.{Ref}
use Rattle.aif_cells.specs.declared.reference.Ref.TheVariants as ref
use Rattle.aif_cells.specs.declared.cells.Register.{Register}
use Rattle.aif_cells.specs.Tree.{Tree, value}
use Rattle.aif_cells.specs.Built.{Made as MadeCells, given_or_new, is_not_nought, join_alone, or_all}
use Rattle.aif_cells.specs.Dependences.{DependsOn, cells_in}
use Rattle.absence_reaction.specs.declared.copy.Shape.{Shape}
use Rattle.absence_reaction.specs.Closing.{one_if}
use Rattle.quartz_tree.specs.Storage.{is_memorized}
use Rattle.absence_reaction.specs.Earlier.{IsBelow}
use Rattle.reincarnation.specs.declared.copy.ClosedRefs.{ClosedRefs}
use Rattle.reincarnation.specs.declared.copy.Entered.{Entered}
use Rattle.reincarnation.specs.Carrying.{Stores, carried, with_next}
use Rattle.reincarnation.specs.Meaning.{ClosedIsBelow, EnteredIsBelow, NextsAreBelow}
use Rattle.reincarnation.proofs.MeaningLemmas.{carrying_keeps, carrying_names_earlier}
use Rattle.statement_cells.specs.Labels.{labels, registers, scope_registers, shape_in}
use Rattle.statement_cells.specs.Builder.{Builder, DepthCopy, EnteredCopy, Entry, Made, Short, first, second, both, and_of, new, nowhere, pick}
use Rattle.statement_cells.specs.Whole.{ClosedOutput, all_scopes_taken, carried_in, depth_taken, depths_at, element_registers, entered_at, label_taken, labels_taken, outputs_registers, outputs_taken, refs_for, register_of, repeated, scope_taken, scopes_taken, staying}
use Rattle.statement_cells.specs.Earlier.{EntriesAreBelow, IsOrdered}
use Rattle.statement_cells.proofs.EarlierTreeLemmas.{Below}
use Rattle.statement_cells.proofs.EarlierLemmas.{Goes, Later, and_goes, follows, here, literal_held, new_goes, register_held, same}
use Rattle.statement_cells.proofs.EarlierMoreLemmas.{all_more, closed_more, entered_more, ref_more}
use Rattle.statement_cells.proofs.EarlierSurfaceLemmas.{AllHeld, first_held, none_held, one_held, others_held, up_all}
use Rattle.absence_reaction.proofs.EarlierLemmas.{or_below}

-- ---- registers

-- one register takes something else
nexts_with : (n : ℕ) (rs : List Register) (r : ℕ) (x : Ref) → IsBelow n x → NextsAreBelow n rs → NextsAreBelow n (with_next rs r x)
nexts_with n [] r x h hs = All-nil (λ (y : Register). IsBelow n y.next)
nexts_with n (y ∷ rs) zero x h hs = All-cons (λ (y : Register). IsBelow n y.next) (record y { next = x }) rs h (All-tail (λ (y : Register). IsBelow n y.next) y rs hs)
nexts_with n (y ∷ rs) (suc r) x h hs = All-cons (λ (y : Register). IsBelow n y.next) y (with_next rs r x) (All-head (λ (y : Register). IsBelow n y.next) y rs hs) (nexts_with n rs r x h (All-tail (λ (y : Register). IsBelow n y.next) y rs hs))

-- what is among so many is among more
nexts_more : (n m : ℕ) (rs : List Register) → n ≤ m → NextsAreBelow n rs → NextsAreBelow m rs
nexts_more n m rs le hs = all_more (λ (y : Register). IsBelow n y.next) (λ (y : Register). IsBelow m y.next) rs (λ y h. ref_more n m le y.next h) hs

module _ (n : ℕ) where
  -- of two lists
  both_nexts : (rs qs : List Register) → NextsAreBelow n rs → NextsAreBelow n qs → NextsAreBelow n (rs ++ qs)
  both_nexts rs qs h g = All-append (λ (y : Register). IsBelow n y.next) rs qs h g

  -- registers that are alike
  alike_nexts : (k : ℕ) (z : ℤ) → NextsAreBelow n (replicate k (register_of z))
  alike_nexts zero z = All-nil (λ (y : Register). IsBelow n y.next)
  alike_nexts (suc k) z = All-cons (λ (y : Register). IsBelow n y.next) (register_of z) (replicate k (register_of z)) (All-nil (λ d. d < n)) (alike_nexts k z)

  -- an element's registers
  element_nexts : (s : Shape) → NextsAreBelow n (element_registers s)
  element_nexts s = both_nexts (replicate (one_if (is_memorized s.storage)) (register_of s.start)) (replicate (one_if s.delayed + one_if s.delayed) (register_of (pos 0))) (alike_nexts (one_if (is_memorized s.storage)) s.start) (alike_nexts (one_if s.delayed + one_if s.delayed) (pos 0))

  -- and those of many elements
  repeated_nexts : (k : ℕ) (rs : List Register) → NextsAreBelow n rs → NextsAreBelow n (repeated k rs)
  repeated_nexts zero rs h = All-nil (λ (y : Register). IsBelow n y.next)
  repeated_nexts (suc k) rs h = both_nexts rs (repeated k rs) h (repeated_nexts k rs h)

  -- the outputs' registers
  outputs_nexts : (vs : Vars) (xs : List ℕ) → NextsAreBelow n (outputs_registers vs xs)
  outputs_nexts vs [] = All-nil (λ (y : Register). IsBelow n y.next)
  outputs_nexts vs (x ∷ xs) = both_nexts (repeated (count_of vs x) (element_registers (shape_in vs x))) (outputs_registers vs xs) (repeated_nexts (count_of vs x) (element_registers (shape_in vs x)) (element_nexts (shape_in vs x))) (outputs_nexts vs xs)

  -- what registers take at first is no cell
  pub first_nexts : (vs : Vars) (t : Term) (xs : List ℕ) → NextsAreBelow n (register_of (pos 1) ∷ (replicate (labels t) (register_of (pos 0)) ++ (outputs_registers vs xs ++ replicate (registers vs t) (register_of (pos 0)))))
  first_nexts vs t xs =
      let last = replicate (registers vs t) (register_of (pos 0)) in
      All-cons (λ (y : Register). IsBelow n y.next) (register_of (pos 1)) (replicate (labels t) (register_of (pos 0)) ++ (outputs_registers vs xs ++ last)) (All-nil (λ d. d < n))
      (both_nexts (replicate (labels t) (register_of (pos 0))) (outputs_registers vs xs ++ last) (alike_nexts (labels t) (pos 0))
      (both_nexts (outputs_registers vs xs) last (outputs_nexts vs xs) (alike_nexts (registers vs t) (pos 0))))

-- ---- joins

-- what is made of a builder's cells, and the builder behind it
abbrev made_in : Builder → MadeCells → Made
made_in β j = record { ref = j.ref; built = record β { cells = j.cells } }

-- a join on a new cell
new_join : (t : Tree) (β : Builder) → IsOrdered β → Below (length β.cells) t → Goes β (made_in β (given_or_new None t nowhere β.cells))
unfolding new
new_join t β w h = new_goes t β w h

-- a join is made in order
join_goes : (ts : List Tree) (β : Builder) → IsOrdered β → All (Below (length β.cells)) ts → Goes β (made_in β (given_or_new (join_alone ts) (or_all ts) nowhere β.cells))
join_goes [] β w h = here w (literal_held (pos 0))
join_goes (value r ∷ []) β w h = here w (record { below = All-head (Below (length β.cells)) (value r) [] h })
join_goes (t ∷ []) β w h = new_join t β w (All-head (Below (length β.cells)) t [] h)
join_goes (t ∷ u ∷ us) β w h = new_join (or_all (t ∷ u ∷ us)) β w (or_below (length β.cells) (t ∷ u ∷ us) h)

-- references as trees
values_below : (n : ℕ) (rs : List Ref) → All (IsBelow n) rs → All (Below n) (map value rs)
values_below n [] h = All-nil (Below n)
values_below n (r ∷ rs) h = All-cons (Below n) (value r) (map value rs) (All-head (IsBelow n) r rs h) (values_below n rs (All-tail (IsBelow n) r rs h))

-- ---- labels

-- what literals leave reserves no value cell
pick_reserved : (s : Short) (t : Tree) (a b : Ref) (β : Builder) → (pick s t a b β).built.reserved ≡ β.reserved
unfolding new
pick_reserved first t a b β = refl
pick_reserved second t a b β = refl
pick_reserved both t a b β = refl

-- and neither does `and`
and_reserved : (a b : Ref) (β : Builder) → (and_of a b β).built.reserved ≡ β.reserved
unfolding and_of
and_reserved a b β = pick_reserved _ _ a b β

-- the references of a label
refs_for_below : (n l : ℕ) (es : List Entry) → EntriesAreBelow n es → All (IsBelow n) (refs_for l es)
refs_for_below n l [] h = All-nil (IsBelow n)
refs_for_below n l (e ∷ es) h = at (e.label == l) (refs_for_below n l es (All-tail (λ (e : Entry). IsBelow n e.under) e es h))
  where
    at : (b : Bool) → All (IsBelow n) (refs_for l es) → All (IsBelow n) (if b then e.under ∷ refs_for l es else refs_for l es)
    at true g = All-cons (IsBelow n) e.under (refs_for l es) (All-head (λ (e : Entry). IsBelow n e.under) e es h) g
    at false g = g

-- from a builder in order comes another one with the same value cells, and references in it
record GoesStaying (before : Builder) (m : List Ref × Builder) : Type 0 where
  later : Later before m.1
  built : IsOrdered m.1
  reserved : m.1.reserved ≡ before.reserved
  refs : AllHeld m.1 m.0

-- a label stays
staying_goes : (l : ℕ) (rs : List Ref) (β : Builder) → IsOrdered β → AllHeld β rs → GoesStaying β (staying l rs β)
staying_goes l [] β w hs = record { later = same β; built = w; reserved = refl; refs = none_held }
staying_goes l (r ∷ rs) β w hs =
    let m : Goes β (and_of (ref.Reg l) r β) = and_goes w (register_held l) (first_held hs) in
    let γ : Builder = (and_of (ref.Reg l) r β).built in
    let more = staying_goes l rs γ m.built (up_all m.later (others_held hs)) in
    record { later = follows m.later more.later; built = more.built; reserved = more.reserved ∙ and_reserved (ref.Reg l) r β; refs = one_held (record { below = ref_more (length γ.cells) _ more.later.longer _ m.ref.below }) more.refs }

-- from a builder in order comes another one with the same value cells, and registers take what is there
pub record GoesTaken (before : Builder) (m : List Register × Builder) : Type 0 where
  pub later : Later before m.1
  pub built : IsOrdered m.1
  pub reserved : m.1.reserved ≡ before.reserved
  pub nexts : NextsAreBelow (length m.1.cells) m.0

-- one label is told what it takes
label_goes : (l : ℕ) (rs : List Register) (β : Builder) → IsOrdered β → NextsAreBelow (length β.cells) rs → GoesTaken β (label_taken l rs β)
label_goes l rs β w h =
    let n : ℕ = length β.cells in
    let stays = refs_for l β.stays in
    let s = staying_goes l stays β w (record { below = refs_for_below n l β.stays w.there.stays }) in
    let γ : Builder = (staying l stays β).1 in
    let k : ℕ = length γ.cells in
    let entries : AllHeld γ (refs_for l β.entries) = up_all s.later (record { below = refs_for_below n l β.entries w.there.entries }) in
    let refs : List Ref = refs_for l β.entries ++ (staying l stays β).0 in
    let ts : List Tree = map value refs in
    let below : All (Below k) ts = values_below k refs (All-append (IsBelow k) (refs_for l β.entries) (staying l stays β).0 entries.below s.refs.below) in
    let j = join_goes (filter is_not_nought ts) γ s.built (All-filter is_not_nought (Below k) ts below) in
    let all = follows s.later j.later in
    record {
      later = record { longer = all.longer; more = all.more; reserved = all.reserved };
      built = j.built;
      reserved = s.reserved;
      nexts = nexts_with _ rs l _ j.ref.below (nexts_more n _ rs all.longer h);
    }

-- so many labels are
pub labels_goes : (l k : ℕ) (rs : List Register) (β : Builder) → IsOrdered β → NextsAreBelow (length β.cells) rs → GoesTaken β (labels_taken l k rs β)
labels_goes l zero rs β w h = record { later = same β; built = w; reserved = refl; nexts = h }
labels_goes l (suc k) rs β w h =
    let m = label_goes l rs β w h in
    let more = labels_goes (l + 1) k (label_taken l rs β).0 (label_taken l rs β).1 m.built m.nexts in
    record { later = follows m.later more.later; built = more.built; reserved = more.reserved ∙ m.reserved; nexts = more.nexts }

-- ---- stores

-- but for the free ones, cells name only cells before them; so many are there at least
pub record StoresOrdered (free : ℕ → Bool) (n : ℕ) (σ : Stores) : Type 0 where
  pub count : n ≤ length σ.cells
  pub before : (k d : ℕ) → free k ≡ false → DependsOn σ.cells k d → d < k
  pub named : (k d : ℕ) → DependsOn σ.cells k d → d < length σ.cells
  pub nexts : NextsAreBelow (length σ.cells) σ.registers

module _ (free : ℕ → Bool) (n : ℕ) where
  -- carrying a store leaves cells in order
  carried_ordered : (v : Var) (es : List Entered) (c : ClosedRefs) (i : ℕ) (σ : Stores) → All (EnteredIsBelow n) es → ClosedIsBelow n c → StoresOrdered free n σ → StoresOrdered free n (carried v es c i σ)
  carried_ordered v es c i σ hs h s =
      let m : ℕ = length σ.cells in
      let names = carrying_names_earlier v es c i σ (all_more (EnteredIsBelow n) (EnteredIsBelow m) es (λ e g. entered_more n m s.count e g) hs) (closed_more n m s.count c h) in
      let keeps = carrying_keeps v es c i σ in
      record {
        count = omega (arith, s.count, keeps.cells.longer);
        before = λ k d f dep. elim (cases_lt k m) [
          | inl lt ↦ s.before k d f (dep.0, sym (keeps.cells.kept k lt refl) ∙ dep.1, dep.2)
          | inr ge ↦ let less : d < m = names.cells k d ge dep in omega (arith, less, ge)
        ];
        named = λ k d dep. elim (cases_lt k m) [
          | inl lt ↦ let less : d < m = s.named k d (dep.0, sym (keeps.cells.kept k lt refl) ∙ dep.1, dep.2) in omega (arith, less, keeps.cells.longer)
          | inr ge ↦ let less : d < m = names.cells k d ge dep in omega (arith, less, keeps.cells.longer)
        ];
        nexts = names.nexts s.nexts;
      }

  -- so it does for a variable with that number
  in_ordered : (vs : Vars) (x : ℕ) (es : List Entered) (c : ClosedRefs) (i : ℕ) (σ : Stores) → All (EnteredIsBelow n) es → ClosedIsBelow n c → StoresOrdered free n σ → StoresOrdered free n (carried_in vs x es c i σ)
  in_ordered [] x es c i σ hs h s = s
  in_ordered (v ∷ vs) zero es c i σ hs h s = carried_ordered v es c i σ hs h s
  in_ordered (v ∷ vs) (suc x) es c i σ hs h s = in_ordered vs x es c i σ hs h s

  -- for all outputs
  pub outputs_ordered : (vs : Vars) (os : List ClosedOutput) (σ : Stores) → All (λ o. ClosedIsBelow n o.closed) os → StoresOrdered free n σ → StoresOrdered free n (outputs_taken vs os σ)
  outputs_ordered vs [] σ hs s = s
  outputs_ordered vs (o ∷ os) σ hs s =
      outputs_ordered vs os (carried_in vs o.var [] o.closed o.first σ) (All-tail (λ (o : ClosedOutput). ClosedIsBelow n o.closed) o os hs)
      (in_ordered vs o.var [] o.closed o.first σ (All-nil (EnteredIsBelow n)) (All-head (λ (o : ClosedOutput). ClosedIsBelow n o.closed) o os hs) s)

  -- the copies of a scope that may have been entered
  entered_at_below : (v : ℕ) (es : List EnteredCopy) → All (λ e. EnteredIsBelow n e.entered) es → All (EnteredIsBelow n) (entered_at v es)
  entered_at_below v [] h = All-nil (EnteredIsBelow n)
  entered_at_below v (e ∷ es) h = at (e.first == v) (entered_at_below v es (All-tail (λ (e : EnteredCopy). EnteredIsBelow n e.entered) e es h))
    where
      at : (b : Bool) → All (EnteredIsBelow n) (entered_at v es) → All (EnteredIsBelow n) (if b then e.entered ∷ entered_at v es else entered_at v es)
      at true g = All-cons (EnteredIsBelow n) e.entered (entered_at v es) (All-head (λ (e : EnteredCopy). EnteredIsBelow n e.entered) e es h) g
      at false g = g

  -- and those with store
  depths_at_below : (v : ℕ) (ds : List DepthCopy) → All (λ d. ClosedIsBelow n d.closed) ds → All (λ d. ClosedIsBelow n d.closed) (depths_at v ds)
  depths_at_below v [] h = h
  depths_at_below v (d ∷ ds) h = at (d.first == v) (depths_at_below v ds (All-tail (λ (d : DepthCopy). ClosedIsBelow n d.closed) d ds h))
    where
      at : (b : Bool) → All (λ d. ClosedIsBelow n d.closed) (depths_at v ds) → All (λ d. ClosedIsBelow n d.closed) (if b then d ∷ depths_at v ds else depths_at v ds)
      at true g = All-cons (λ (d : DepthCopy). ClosedIsBelow n d.closed) d (depths_at v ds) (All-head (λ (d : DepthCopy). ClosedIsBelow n d.closed) d ds h) g
      at false g = g

  module _ (vs : Vars) (es : List EnteredCopy) (ds : List DepthCopy) (hs : All (λ e. EnteredIsBelow n e.entered) es) (gs : All (λ d. ClosedIsBelow n d.closed) ds) where
    -- for copies with store
    depth_ordered : (us : List DepthCopy) (σ : Stores) → All (λ d. ClosedIsBelow n d.closed) us → StoresOrdered free n σ → StoresOrdered free n (depth_taken vs es us σ)
    depth_ordered [] σ h s = s
    depth_ordered (d ∷ us) σ h s =
        depth_ordered us (carried_in vs d.var (entered_at d.first es) d.closed d.first σ) (All-tail (λ (d : DepthCopy). ClosedIsBelow n d.closed) d us h)
        (in_ordered vs d.var (entered_at d.first es) d.closed d.first σ (entered_at_below d.first es hs) (All-head (λ (d : DepthCopy). ClosedIsBelow n d.closed) d us h) s)

    -- for a scope with registers
    scope_ordered : (r v : ℕ) (σ : Stores) → StoresOrdered free n σ → StoresOrdered free n (scope_taken vs es ds r v σ)
    scope_ordered zero v σ s = s
    scope_ordered (suc r) v σ s = depth_ordered (depths_at v ds) σ (depths_at_below v ds gs) s

    mutual
      -- for all scopes of a statement
      pub scopes_ordered : (t : Term) (v : ℕ) (σ : Stores) → StoresOrdered free n σ → StoresOrdered free n (scopes_taken vs es ds v t σ)
      scopes_ordered nothing v σ s = s
      scopes_ordered pause v σ s = s
      scopes_ordered (write _ _ _ _ _ _) v σ s = s
      scopes_ordered (choose _ a b) v σ s = scopes_ordered b (v + registers vs a) (scopes_taken vs es ds v a σ) (scopes_ordered a v σ s)
      scopes_ordered (seq ts) v σ s = all_ordered ts v σ s
      scopes_ordered (par ts) v σ s = all_ordered ts v σ s
      scopes_ordered (loop t _) v σ s = scopes_ordered t v σ s
      scopes_ordered (abort _ _ t _) v σ s = scopes_ordered t v σ s
      scopes_ordered (suspend _ _ t _) v σ s = scopes_ordered t v σ s
      scopes_ordered (scope x _ t) v σ s =
          let r : ℕ = scope_registers vs (labels t) x in
          scopes_ordered t (v + r) (scope_taken vs es ds r v σ) (scope_ordered r v σ s)

      -- and of its parts
      all_ordered : (ts : Terms) (v : ℕ) (σ : Stores) → StoresOrdered free n σ → StoresOrdered free n (all_scopes_taken vs es ds v ts σ)
      all_ordered none v σ s = s
      all_ordered (part t ts) v σ s = all_ordered ts (v + registers vs t) (scopes_taken vs es ds v t σ) (scopes_ordered t v σ s)
