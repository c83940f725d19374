-- A conflict of an element is one of two actions that write it, or of one beside a pending value.
use Rattle.std.proofs.Common.{◌≡◌, ◌⊎◌, inl, inr, ℕ, ◌&&◌, ◌||◌, not, pos, Bool, true, false, List, [], ◌∷◌, map, Option, Some, None, refl, sym, ap, ◌∙◌}
use Rattle.std.specs.Prelude.{if◌then◌else◌}
use Rattle.quartz_expr.specs.Values.{of_bool, same_value}
use Rattle.quartz_expr.proofs.LawLemmas.{same_refl}
use Rattle.aif_cells.specs.declared.reference.Ref.{Ref}
use Rattle.aif_cells.specs.declared.reference.Ref.TheVariants as ref
use Rattle.aif_cells.specs.declared.tree.TreeTwo.TheVariants.{And, Eq}
use Rattle.aif_cells.specs.declared.cells.Action.{Action}
use Rattle.aif_cells.specs.Tree.{Tree, value, two, ite, cases}
use Rattle.aif_cells.specs.Worth.{Assignment, holds, one_holds, read, truth, worth}
use Rattle.aif_cells.specs.Built.{or_all}
use Rattle.aif_cells.proofs.WorthLemmas.{holds_of_bool}
use Rattle.absence_reaction.specs.declared.copy.VarCopy.{VarCopy}
use Rattle.absence_reaction.specs.declared.copy.Shape.{Shape}
use Rattle.absence_reaction.specs.Closing.{absence_of, arm_before, arms_for, disagrees, flag_of, guard_for, pending_of, value_tree}
use Rattle.write_conflicts.specs.Clash.{indexes_differ}
use Rattle.loose_runs.proofs.ListLemmas.{Before, Is, before_first, before_later, is_later}
use Rattle.loose_runs.proofs.TruthLemmas.{one_of}
use Rattle.loose_runs.proofs.WayLemmas.{clashes, some_same}
use Rattle.quartz_expr.proofs.TruthLemmas.{and_left, and_right}
use Rattle.quartz_expr.proofs.CoherentLemmas.{same_is}

-- ---- which element an action writes

-- the index, if there is one, is the element's number
abbrev pub IsAt : Assignment → (j : ℕ) → Option Ref → Type 0
IsAt σ j None = Unit {0}
IsAt σ j (Some r) = read σ r ≡ pos j

-- the action writes that element
pub record Writes (σ : Assignment) (j : ℕ) (a : Action) : Type 0 where
  pub acts : truth σ a.guard ≡ true
  pub at : IsAt σ j a.index

-- actions that write one element have no literal indexes that differ
pub at_alike : (σ : Assignment) (j : ℕ) (x y : Option Ref) → IsAt σ j x → IsAt σ j y → indexes_differ x y ≡ true → ⊥
at_alike σ j (Some (ref.Lit y)) (Some (ref.Lit z)) g h e = clashes (not (same_value y z)) (ap (λ w. not (same_value y w)) (h ∙ sym g) ∙ ap not (same_refl y)) e
at_alike σ j None y g h e = cc
at_alike σ j (Some (ref.Input i)) y g h e = cc
at_alike σ j (Some (ref.Reg i)) y g h e = cc
at_alike σ j (Some (ref.Cell i)) y g h e = cc
at_alike σ j (Some (ref.Lit y)) None g h e = cc
at_alike σ j (Some (ref.Lit y)) (Some (ref.Input i)) g h e = cc
at_alike σ j (Some (ref.Lit y)) (Some (ref.Reg i)) g h e = cc
at_alike σ j (Some (ref.Lit y)) (Some (ref.Cell i)) g h e = cc

module _ (σ : Assignment) (j : ℕ) where
  tested : (g r : Ref) (t : Tree) → Some (two And (value g) (two Eq (value r) (value (ref.Lit (pos j))))) ≡ Some t → holds (worth σ t) ≡ true → (truth σ g ≡ true) × (read σ r ≡ pos j)
  tested g r t e h =
      let both : (truth σ g && holds (of_bool (same_value (read σ r) (pos j)))) ≡ true =
      sym (holds_of_bool (truth σ g && holds (of_bool (same_value (read σ r) (pos j))))) ∙ ap (λ u. holds (worth σ u)) (some_same e) ∙ h in (
        and_left (truth σ g) _ both,
        same_is (read σ r) (pos j) (sym (holds_of_bool (same_value (read σ r) (pos j))) ∙ and_right (truth σ g) _ both),
      )

  -- where the guard for the element holds, the action writes it
  reached : (g : Ref) (i : Option Ref) (t : Tree) → guard_for j (value g) i ≡ Some t → holds (worth σ t) ≡ true → (truth σ g ≡ true) × IsAt σ j i
  reached g None t e h = (ap (λ u. holds (worth σ u)) (some_same e) ∙ h, tt)
  reached g (Some (ref.Lit z)) t e h = by (same_value z (pos j)) refl e
    where
      by : (b : Bool) → same_value z (pos j) ≡ b → (if b then Some (value g) else None) ≡ Some t → (truth σ g ≡ true) × (z ≡ pos j)
      by true f e = (ap (λ u. holds (worth σ u)) (some_same e) ∙ h, same_is z (pos j) f)
      by false f e = absurd (cc)
  reached g (Some (ref.Input i)) t e h = tested g (ref.Input i) t e h
  reached g (Some (ref.Reg i)) t e h = tested g (ref.Reg i) t e h
  reached g (Some (ref.Cell i)) t e h = tested g (ref.Cell i) t e h

  writes_by : (a : Action) (t : Tree) → guard_for j (value a.guard) a.index ≡ Some t → holds (worth σ t) ≡ true → Writes σ j a
  writes_by a t e h = let r = reached a.guard a.index t e h in record { acts = r.0; at = r.1 }

  -- an action of the list writes the element
  pub record One (l : List Action) : Type 0 where
    pub action : Action
    pub is : Is action l
    pub writes : Writes σ j action

  -- two of them do
  pub record Two (l : List Action) : Type 0 where
    pub first : Action
    pub second : Action
    pub before : Before first second l
    pub first_writes : Writes σ j first
    pub second_writes : Writes σ j second

  one_later : (a : Action) (l : List Action) → One l → One (a ∷ l)
  one_later a l o = record { action = o.action; is = is_later o.action a l o.is; writes = o.writes }

  two_later : (a : Action) (l : List Action) → Two l → Two (a ∷ l)
  two_later a l o = record { first = o.first; second = o.second; before = before_later o.first o.second a l o.before; first_writes = o.first_writes; second_writes = o.second_writes }

  two_here : (a : Action) (l : List Action) → Writes σ j a → One l → Two (a ∷ l)
  two_here a l w o = record { first = a; second = o.action; before = before_first a o.action l o.is; first_writes = w; second_writes = o.writes }

  module _ (v : Ref) where
    -- some action that writes the element writes another value
    abbrev Disagree : List Action → Type 0
    Disagree l = one_holds σ (map (disagrees v) (arms_for j l)) ≡ true

    differs_first : (t : Tree) (w : Ref) → holds (worth σ (disagrees v (t, value w))) ≡ true → holds (worth σ t) ≡ true
    differs_first t w h = and_left (holds (worth σ t)) _ (sym (holds_of_bool _) ∙ h)

    differs_second : (t : Tree) (w : Ref) → holds (worth σ (disagrees v (t, value w))) ≡ true → read σ v ≡ read σ w → ⊥
    differs_second t w h e =
        let unlike : not (same_value (read σ w) (read σ v)) ≡ true = sym (holds_of_bool _) ∙ and_right (holds (worth σ t)) _ (sym (holds_of_bool _) ∙ h) in
        clashes (not (same_value (read σ w) (read σ v))) (ap (λ z. not (same_value (read σ w) z)) e ∙ ap not (same_refl (read σ w))) unlike

    one_acts : (l : List Action) → Disagree l → One l
    one_acts [] h = absurd (cc)
    one_acts (a ∷ l) h = by (guard_for j (value a.guard) a.index) refl (one_acts l) h
      where
        by : (o : Option Tree) → guard_for j (value a.guard) a.index ≡ o → (Disagree l → One l) → one_holds σ (map (disagrees v) (arm_before o a.value (arms_for j l))) ≡ true → One (a ∷ l)
        by None e f h = one_later a l (f h)
        by (Some t) e f h =
            one_of (One (a ∷ l)) (holds (worth σ (disagrees v (t, value a.value)))) _ h
            (λ d. record { action = a; is = record { number = 0; is = refl }; writes = writes_by a t e (differs_first t a.value d) })
            (λ r. one_later a l (f r))

    -- the value is the first one that is written: then two write
    two_act : (l : List Action) (b : Tree) → read σ v ≡ worth σ (cases (arms_for j l) b) → Disagree l → Two l
    two_act [] b z h = absurd (cc)
    two_act (a ∷ l) b z h = by (guard_for j (value a.guard) a.index) refl (two_act l b) z h
      where
        by : (o : Option Tree) → guard_for j (value a.guard) a.index ≡ o → (read σ v ≡ worth σ (cases (arms_for j l) b) → Disagree l → Two l)
            → read σ v ≡ worth σ (cases (arm_before o a.value (arms_for j l)) b) → one_holds σ (map (disagrees v) (arm_before o a.value (arms_for j l))) ≡ true → Two (a ∷ l)
        by None e f z h = two_later a l (f z h)
        by (Some t) e f z h = on (holds (worth σ t)) refl z
          where
            on : (c : Bool) → holds (worth σ t) ≡ c → read σ v ≡ (if c then read σ a.value else worth σ (cases (arms_for j l) b)) → Two (a ∷ l)
            on true g z = one_of (Two (a ∷ l)) (holds (worth σ (disagrees v (t, value a.value)))) _ h
                (λ d. absurd (differs_second t a.value d z))
                (λ r. two_here a l (writes_by a t e g) (one_acts l r))
            on false g z = one_of (Two (a ∷ l)) (holds (worth σ (disagrees v (t, value a.value)))) _ h
                (λ d. absurd (clashes (holds (worth σ t)) g (differs_first t a.value d)))
                (λ r. two_later a l (f z r))

  or_holds : (ts : List Tree) → holds (worth σ (or_all ts)) ≡ true → one_holds σ ts ≡ true
  or_holds [] h = absurd (cc)
  or_holds (t ∷ []) h = ap (λ b. b || false) h
  or_holds (t ∷ u ∷ us) h = one_of (one_holds σ (t ∷ u ∷ us) ≡ true) (holds (worth σ t)) (holds (worth σ (or_all (u ∷ us)))) (sym (holds_of_bool _) ∙ h)
      (λ e. ap (λ b. b || one_holds σ (u ∷ us)) e) (λ e. or_second (holds (worth σ t)) (or_holds (u ∷ us) e))
    where
      or_second : (a : Bool) {b : Bool} → b ≡ true → (a || b) ≡ true
      or_second true e = refl
      or_second false e = e

  -- ---- the conflicts of an element

  -- a write beside a pending value
  pub record Beside (s : Shape) (c : VarCopy) : Type 0 where
    pub one : One c.now
    pub stored : c.stored ≡ true
    pub delayed : s.delayed ≡ true
    pub flag : holds (σ.registers (flag_of s c.first j)) ≡ true

  -- where a write differs from the value, two write, or one writes beside a pending value
  pub now_explained : (s : Shape) (c : VarCopy) (k : ℕ) → σ.cells k ≡ worth σ (value_tree s c j) → holds (worth σ (or_all (map (disagrees (ref.Cell k)) (arms_for j c.now)))) ≡ true
      → Two c.now ⊎ Beside s c
  now_explained s c k z h = by c.stored refl s.delayed refl z
    where
      others : Disagree (ref.Cell k) c.now
      others = or_holds (map (disagrees (ref.Cell k)) (arms_for j c.now)) h

      by : (b : Bool) → c.stored ≡ b → (d : Bool) → s.delayed ≡ d
          → σ.cells k ≡ worth σ (if b && d then ite (value (ref.Reg (flag_of s c.first j))) (value (ref.Reg (pending_of s c.first j))) (cases (arms_for j c.now) (absence_of s c j)) else cases (arms_for j c.now) (absence_of s c j))
          → Two c.now ⊎ Beside s c
      by false e d f z = inl (two_act (ref.Cell k) c.now (absence_of s c j) z others)
      by true e false f z = inl (two_act (ref.Cell k) c.now (absence_of s c j) z others)
      by true e true f z = on (holds (σ.registers (flag_of s c.first j))) refl z
        where
          on : (q : Bool) → holds (σ.registers (flag_of s c.first j)) ≡ q → σ.cells k ≡ (if q then σ.registers (pending_of s c.first j) else worth σ (cases (arms_for j c.now) (absence_of s c j))) → Two c.now ⊎ Beside s c
          on true g z = inr (record { one = one_acts (ref.Cell k) c.now others; stored = e; delayed = f; flag = g })
          on false g z = inl (two_act (ref.Cell k) c.now (absence_of s c j) z others)

  pub next_explained : (l : List Action) (k : ℕ) → σ.cells k ≡ worth σ (cases (arms_for j l) (value (ref.Lit (pos 0)))) → holds (worth σ (or_all (map (disagrees (ref.Cell k)) (arms_for j l)))) ≡ true → Two l
  next_explained l k z h = two_act (ref.Cell k) l (value (ref.Lit (pos 0))) z (or_holds (map (disagrees (ref.Cell k)) (arms_for j l)) h)
