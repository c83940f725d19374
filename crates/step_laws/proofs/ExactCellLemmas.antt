-- Cells whose trees are exact, and that closing a copy, joining references and carrying a store add only such: their trees
-- compare, choose and join what is there.
use Rattle.std.proofs.Common.{◌≡◌, ℕ, zero, suc, ◌+◌, pos, Bool, true, false, List, [], ◌∷◌, ◌++◌, length, map, All, Option, Some, None, subst}
use Rattle.std.specs.Prelude.{filter, replicate, slice_get, slice_set, if◌then◌else◌}
use Rattle.std.proofs.lemmas.List.Elements.{All-append, All-cons, All-filter, All-head, All-nil, All-tail}
use Rattle.quartz_tree.specs.declared.place.Place.{Place}
use Rattle.quartz_tree.specs.declared.declare.Var.{Var}
use Rattle.quartz_tree.specs.Storage.{is_memorized}
use Rattle.quartz_expr.specs.Values.{same_value}
use Rattle.quartz_expr.specs.Vars.{Vars}
use Rattle.aif_cells.specs.declared.reference.Ref.{Ref}
use Rattle.aif_cells.specs.declared.reference.Ref.TheVariants as ref
use Rattle.aif_cells.specs.declared.cells.Action.{Action}
use Rattle.aif_cells.specs.Tree.{Tree, value, ite, cases}
use Rattle.aif_cells.specs.Built.{Defined, Made, given_or_new, is_not_nought, join, join_alone, or_all}
use Rattle.aif_cells.specs.Aif.{elements_of}
use Rattle.aif_cells.specs.Worth.{Assignment}
use Rattle.absence_reaction.specs.declared.copy.VarCopy.{VarCopy}
use Rattle.absence_reaction.specs.declared.copy.Shape.{Shape}
use Rattle.absence_reaction.specs.Closing.{Built, Element, absence_of, arm_before, arms_for, can_conflict, closed_copy, closed_element, closed_from, conflict_made, disagrees, flag_made, flag_of, guard_for, has_pending, pending_made, pending_of, register_of, value_tree, watched_by}
use Rattle.reincarnation.specs.declared.copy.ClosedRefs.{ClosedRefs}
use Rattle.reincarnation.specs.declared.copy.Entered.{Entered}
use Rattle.reincarnation.specs.Carrying.{Stores, arm_of, carried, carried_from, carried_part, carried_parts, parts_of, ref_in, taken}
use Rattle.reincarnation.specs.Entering.{reserved}
use Rattle.step_laws.specs.Exact.{IsExact}

module _ (σ : Assignment) where
  abbrev pub ExactCells : List Defined → Type 0
  ExactCells [] = Unit {0}
  ExactCells (c ∷ cs) = IsExact σ c.tree × ExactCells cs

  pub both_cells : (cs ds : List Defined) → ExactCells cs → ExactCells ds → ExactCells (cs ++ ds)
  both_cells [] ds h g = g
  both_cells (c ∷ cs) ds h g = (h.0, both_cells cs ds h.1 g)

  cells_with : (cs : List Defined) (k : ℕ) (c : Defined) → ExactCells cs → IsExact σ c.tree → ExactCells (slice_set cs k c)
  cells_with [] k c h g = tt
  cells_with (d ∷ cs) zero c h g = (g, h.1)
  cells_with (d ∷ cs) (suc k) c h g = (h.0, cells_with cs k c h.1 g)

  pub cell_in : (cs : List Defined) → ExactCells cs → (k : ℕ) (c : Defined) → slice_get cs k ≡ Some c → IsExact σ c.tree
  cell_in [] h k c e = absurd (cc)
  cell_in (d ∷ cs) h zero c e = subst (λ (x : Defined). IsExact σ x.tree) (same e) h.0
    where
      same : Some d ≡ Some c → d ≡ c
      same p = cc
  cell_in (d ∷ cs) h (suc k) c e = cell_in cs h.1 k c e

  pub reserved_exact : (n : ℕ) (p : Place) → ExactCells (replicate n (reserved p))
  reserved_exact zero p = tt
  reserved_exact (suc n) p = (tt, reserved_exact n p)

  -- ---- joins

  or_all_exact : (ts : List Tree) → All (IsExact σ) ts → IsExact σ (or_all ts)
  or_all_exact [] h = tt
  or_all_exact (t ∷ []) h = All-head (IsExact σ) t [] h
  or_all_exact (t ∷ u ∷ us) h = (All-head (IsExact σ) t (u ∷ us) h, or_all_exact (u ∷ us) (All-tail (IsExact σ) t (u ∷ us) h), tt)

  given_exact : (o : Option Ref) (t : Tree) (p : Place) (cs : List Defined) → IsExact σ t → ExactCells cs → ExactCells (given_or_new o t p cs).cells
  given_exact (Some r) t p cs h g = g
  given_exact None t p cs h g = both_cells cs (record { tree = t; place = p } ∷ []) g (h, tt)

  join_exact : (p : Place) (ts : List Tree) (cs : List Defined) → All (IsExact σ) ts → ExactCells cs → ExactCells (join p ts cs).cells
  join_exact p ts cs h g =
      let left : List Tree = filter is_not_nought ts in
      given_exact (join_alone left) (or_all left) p cs (or_all_exact left (All-filter is_not_nought (IsExact σ) ts h)) g

  values_exact : (rs : List Ref) → All (IsExact σ) (map value rs)
  values_exact [] = All-nil (IsExact σ)
  values_exact (r ∷ rs) = All-cons (IsExact σ) (value r) (map value rs) tt (values_exact rs)

  pub join_refs : (p : Place) (rs : List Ref) (cs : List Defined) → ExactCells cs → ExactCells (join p (map value rs) cs).cells
  join_refs p rs cs g = join_exact p (map value rs) cs (values_exact rs) g

  -- ---- what is written

  abbrev ArmsExact : List (Tree × Tree) → Type 0
  ArmsExact [] = Unit {0}
  ArmsExact (a ∷ more) = IsExact σ a.0 × IsExact σ a.1 × ArmsExact more

  abbrev GuardExact : Option Tree → Type 0
  GuardExact None = Unit {0}
  GuardExact (Some t) = IsExact σ t

  guard_exact : (j : ℕ) (g : Tree) (o : Option Ref) → IsExact σ g → GuardExact (guard_for j g o)
  guard_exact j g None h = h
  guard_exact j g (Some (ref.Lit z)) h = at (same_value z (pos j))
    where
      at : (b : Bool) → GuardExact (if b then Some g else None)
      at true = h
      at false = tt
  guard_exact j g (Some (ref.Input i)) h = (h, (tt, tt, tt), tt)
  guard_exact j g (Some (ref.Reg i)) h = (h, (tt, tt, tt), tt)
  guard_exact j g (Some (ref.Cell i)) h = (h, (tt, tt, tt), tt)

  before_exact : (o : Option Tree) (v : Ref) (arms : List (Tree × Tree)) → GuardExact o → ArmsExact arms → ArmsExact (arm_before o v arms)
  before_exact None v arms g h = h
  before_exact (Some t) v arms g h = (g, tt, h)

  arms_exact : (j : ℕ) (ws : List Action) → ArmsExact (arms_for j ws)
  arms_exact j [] = tt
  arms_exact j (a ∷ ws) = before_exact (guard_for j (value a.guard) a.index) a.value (arms_for j ws) (guard_exact j (value a.guard) a.index tt) (arms_exact j ws)

  cases_exact : (arms : List (Tree × Tree)) (b : Tree) → ArmsExact arms → IsExact σ b → IsExact σ (cases arms b)
  cases_exact [] b h g = g
  cases_exact (a ∷ arms) b h g = (h.0, h.1, cases_exact arms b h.2 g)

  guards_exact : (arms : List (Tree × Tree)) → ArmsExact arms → All (IsExact σ) (map (λ a. a.0) arms)
  guards_exact [] h = All-nil (IsExact σ)
  guards_exact (a ∷ arms) h = All-cons (IsExact σ) a.0 (map (λ x. x.0) arms) h.0 (guards_exact arms h.2)

  differ_exact : (v : Ref) (arms : List (Tree × Tree)) → ArmsExact arms → All (IsExact σ) (map (disagrees v) arms)
  differ_exact v [] h = All-nil (IsExact σ)
  differ_exact v (a ∷ arms) h = All-cons (IsExact σ) (disagrees v a) (map (disagrees v) arms) (h.0, (h.1, tt, tt), tt) (differ_exact v arms h.2)

  -- ---- closing

  module _ (s : Shape) (c : VarCopy) where
    absence_exact : (j : ℕ) → IsExact σ (absence_of s c j)
    absence_exact j = at (is_memorized s.storage) c.stored
      where
        at : (m st : Bool) → IsExact σ (if m then (if st then value (ref.Reg (register_of s c.first j)) else value (ref.Lit s.start)) else value (ref.Lit (pos 0)))
        at true true = tt
        at true false = tt
        at false st = tt

    value_exact : (j : ℕ) → IsExact σ (value_tree s c j)
    value_exact j = at (has_pending s c) (cases_exact (arms_for j c.now) (absence_of s c j) (arms_exact j c.now) (absence_exact j))
      where
        at : (b : Bool) → IsExact σ (cases (arms_for j c.now) (absence_of s c j))
            → IsExact σ (if b then ite (value (ref.Reg (flag_of s c.first j))) (value (ref.Reg (pending_of s c.first j))) (cases (arms_for j c.now) (absence_of s c j)) else cases (arms_for j c.now) (absence_of s c j))
        at true h = (tt, tt, h)
        at false h = h

    pending_exact : (p : Place) (arms : List (Tree × Tree)) (cs : List Defined) → ArmsExact arms → ExactCells cs → ExactCells (pending_made p arms cs).cells
    pending_exact p [] cs h g = g
    pending_exact p (a ∷ arms) cs h g = both_cells cs (record { tree = cases (a ∷ arms) (value (ref.Lit (pos 0))); place = p } ∷ []) g (cases_exact (a ∷ arms) (value (ref.Lit (pos 0))) h tt, tt)

    conflict_exact : (p : Place) (beside : Bool) (v : Ref) (arms : List (Tree × Tree)) (β : Built) → ArmsExact arms → ExactCells β.cells → ExactCells (conflict_made p beside v arms β).cells
    conflict_exact p beside v arms β h g = at (can_conflict beside (length arms))
      where
        at : (b : Bool) → ExactCells (if b then watched_by p (or_all (map (disagrees v) arms)) β else β).cells
        at true = both_cells β.cells (record { tree = or_all (map (disagrees v) arms); place = p } ∷ []) g (or_all_exact (map (disagrees v) arms) (differ_exact v arms h), tt)
        at false = g

    element_exact : (j k : ℕ) (β : Built) → ExactCells β.cells → ExactCells (closed_element s c j k β).built.cells
    element_exact j k β g =
        let p : Place = s.place in
        let nows = arms_for j c.now in
        let nexts = arms_for j c.next in
        let valued : List Defined = slice_set β.cells k (record { tree = value_tree s c j; place = p }) in
        let flag : Made = flag_made p nexts valued in
        let pending : Made = pending_made p nexts flag.cells in
        let conflict : Built = conflict_made p (has_pending s c) (ref.Cell k) nows (record β { cells = pending.cells }) in
        let a = cells_with β.cells k (record { tree = value_tree s c j; place = p }) g (value_exact j) in
        let b : ExactCells flag.cells = join_exact p (map (λ x. x.0) nexts) valued (guards_exact nexts (arms_exact j c.next)) a in
        let d : ExactCells pending.cells = pending_exact p nexts flag.cells (arms_exact j c.next) b in
        let e : ExactCells conflict.cells = conflict_exact p (has_pending s c) (ref.Cell k) nows (record β { cells = pending.cells }) (arms_exact j c.now) d in
        conflict_exact p false pending.ref nexts conflict (arms_exact j c.next) e

    elements_exact : (j : ℕ) (ks : List ℕ) (β : Built) → ExactCells β.cells → ExactCells (closed_from s c j ks β).built.cells
    elements_exact j [] β g = g
    elements_exact j (k ∷ ks) β g = elements_exact (j + 1) ks (closed_element s c j k β).built (element_exact j k β g)

    pub closed_exact : (β : Built) → ExactCells β.cells → ExactCells (closed_copy s c β).built.cells
    closed_exact β g = elements_exact 0 c.values β g

  -- ---- carrying

  entered_exact : (j : ℕ) (p : _) (es : List Entered) → ArmsExact (map (arm_of j p) es)
  entered_exact j p [] = tt
  entered_exact j p (e ∷ es) = (tt, tt, entered_exact j p es)

  taken_exact : (place : Place) (es : List Entered) (d : ClosedRefs) (j : ℕ) (p : _) (cs : List Defined) → ExactCells cs → ExactCells (taken place es d j p cs).cells
  taken_exact place [] d j p cs g = g
  taken_exact place (e ∷ es) d j p cs g =
      both_cells cs (record { tree = cases (map (arm_of j p) (e ∷ es)) (value (ref_in j p d)); place = place } ∷ []) g
      (cases_exact (map (arm_of j p) (e ∷ es)) (value (ref_in j p d)) (entered_exact j p (e ∷ es)) tt, tt)

  parts_exact : (place : Place) (es : List Entered) (d : ClosedRefs) (j : ℕ) (ps : List _) (r : ℕ) (τ : Stores) → ExactCells τ.cells → ExactCells (carried_parts place es d j ps r τ).cells
  parts_exact place es d j [] r τ g = g
  parts_exact place es d j (p ∷ ps) r τ g = parts_exact place es d j ps (r + 1) (carried_part place es d j p r τ) (taken_exact place es d j p τ.cells g)

  from_exact : (place : Place) (es : List Entered) (d : ClosedRefs) (ps : List _) (j n r : ℕ) (τ : Stores) → ExactCells τ.cells → ExactCells (carried_from place es d ps j n r τ).cells
  from_exact place es d ps j zero r τ g = g
  from_exact place es d ps j (suc n) r τ g = from_exact place es d ps (j + 1) n (r + length ps) (carried_parts place es d j ps r τ) (parts_exact place es d j ps r τ g)

  pub carried_exact : (v : Var) (es : List Entered) (d : ClosedRefs) (r : ℕ) (τ : Stores) → ExactCells τ.cells → ExactCells (carried v es d r τ).cells
  carried_exact v es d r τ g = from_exact v.decl.place es d (parts_of v) 0 (elements_of v) r τ g
