-- What is written to the copy of a scope, and from what it goes on.
use Rattle.std.proofs.Common.{◌≡◌, ℕ, zero, suc, ◌+◌, ◌≤◌, ◌==◌, ◌&&◌, ℤ, pos, Bool, true, false, List, [], ◌∷◌, ◌++◌, length, Some, None, refl, sym, ap, ap₂, ◌∙◌, subst, arith, append-nil, append_assoc}
use Rattle.std.specs.Prelude.{replicate, unsigned_abs, if◌then◌else◌}
use Rattle.std.proofs.lemmas.Bool.Decides.{nat_tests}
use Rattle.quartz_tree.specs.declared.declare.Storage.TheVariants.{Mem}
use Rattle.quartz_expr.specs.declared.act.Act.{Act}
use Rattle.quartz_expr.specs.Vars.{Vars, count_of, start_of}
use Rattle.quartz_expr.specs.Faults.{is_index_below}
use Rattle.quartz_expr.specs.Writes.{act_if}
use Rattle.quartz_expr.specs.Resolve.{is_write_of, others, same_bool, writes_of}
use Rattle.aif_cells.specs.declared.cells.Action.{Action}
use Rattle.aif_cells.specs.Worth.{Assignment, holds, read, truth}
use Rattle.absence_reaction.specs.Closing.{flag_of, pending_of, register_of}
use Rattle.quartz_tree.specs.Storage.{is_memorized}
use Rattle.absence_reaction.specs.Meaning.{AreDistinctBelow, AreWritesOf, GoesOnFrom, IsCopyToClose, WriteAlike, act_of, acts_of, copy_acts, index_read}
use Rattle.reincarnation.specs.Entering.{numbers_from}
use Rattle.statement_cells.specs.Labels.{is_delayed, shape_in}
use Rattle.statement_cells.specs.Stands.{kept_from, some_if}
use Rattle.statement_cells.specs.Builder.{Builder, action_if, copy_at, writes_to, writes_to_others}
use Rattle.statement_cells.specs.Walk.{AreSoundWrites, acted}
use Rattle.statement_cells.proofs.ScopeGrowLemmas.{below_numbers, length_numbers}
use Rattle.statement_cells.proofs.BoolLemmas.{and_false}
use Rattle.quartz_expr.proofs.TruthLemmas.{and_left, and_right}

same_is : (a b : Bool) → same_bool a b ≡ true → a ≡ b
same_is true b h = sym h
same_is false false h = refl
same_is false true h = absurd (cc)

number_is : (m n : ℕ) → (m == n) ≡ true → m ≡ n
number_is m n h = grind (arith, nat_tests, h)

-- ---- the copy that is closed

module _ (vs : Vars) (x : ℕ) where
  -- the actions on the variable are writes of it
  pub writes_of_it : (d : Bool) (ws : List Action) → AreSoundWrites vs ws → AreWritesOf x d (count_of vs x) (writes_to x d ws)
  writes_of_it d [] h = tt
  writes_of_it d (a ∷ ws) h = at ((a.var == x) && same_bool a.delayed d) refl (writes_of_it d ws h.1)
    where
      at : (b : Bool) → ((a.var == x) && same_bool a.delayed d) ≡ b → AreWritesOf x d (count_of vs x) (writes_to x d ws) → AreWritesOf x d (count_of vs x) (action_if b a (writes_to x d ws))
      at true e g =
          let same : a.var ≡ x = number_is a.var x (and_left (a.var == x) (same_bool a.delayed d) e) in
          (record { var = same; delayed = same_is a.delayed d (and_right (a.var == x) (same_bool a.delayed d) e); indexed = λ i. sym (ap (count_of vs) same) ∙ h.0.indexed i }, g)
      at false e g = g

  -- no action is delayed on a variable that no `next` targets
  pub none_delayed : (ws : List Action) → is_delayed vs x ≡ false → AreSoundWrites vs ws → writes_to x true ws ≡ []
  none_delayed [] n h = refl
  none_delayed (a ∷ ws) n h = at ((a.var == x) && same_bool a.delayed true) refl ∙ none_delayed ws n h.1
    where
      wrong : true ≡ false → ⊥
      wrong e = cc

      at : (b : Bool) → ((a.var == x) && same_bool a.delayed true) ≡ b → action_if b a (writes_to x true ws) ≡ writes_to x true ws
      at true e =
          let same : a.var ≡ x = number_is a.var x (and_left (a.var == x) (same_bool a.delayed true) e) in
          let there : is_delayed vs a.var ≡ true = h.0.delayed (same_is a.delayed true (and_right (a.var == x) (same_bool a.delayed true) e)) in
          absurd (wrong (sym there ∙ ap (is_delayed vs) same ∙ n))
      at false e = refl

  pub distinct_numbers : (m f n : ℕ) → f + n ≤ m → AreDistinctBelow m (numbers_from f n)
  distinct_numbers m f zero h = tt
  distinct_numbers m f (suc n) h = (omega (arith, h), below_numbers (f + 1) n f (omega arith), distinct_numbers m (f + 1) n (omega (arith, h)))

  -- a reserved copy can be closed
  pub suits : (stored : Bool) (v : ℕ) (β inner : Builder) → AreSoundWrites vs inner.writes → length β.cells + count_of vs x ≤ length inner.cells → IsCopyToClose (copy_at vs x stored v β inner) inner.cells
  suits stored v β inner h less =
      let many : count_of vs x ≡ length (numbers_from (length β.cells) (count_of vs x)) = sym (length_numbers (length β.cells) (count_of vs x)) in
      record {
        now = subst (λ n. AreWritesOf x false n (writes_to x false inner.writes)) many (writes_of_it false inner.writes h);
        next = subst (λ n. AreWritesOf x true n (writes_to x true inner.writes)) many (writes_of_it true inner.writes h);
        reserved = distinct_numbers (length inner.cells) (length β.cells) (count_of vs x) less;
      }

-- ---- acts

written_step : (b : Bool) (z : ℤ) (l m n : List ℤ) → n ≡ l ++ m → (if b then z ∷ n else n) ≡ (if b then z ∷ l else l) ++ m
written_step true z l m n e = ap (λ k. z ∷ k) e
written_step false z l m n e = e

writes_both : (x j : ℕ) (d : Bool) (ws us : List Act) → writes_of x j d (ws ++ us) ≡ writes_of x j d ws ++ writes_of x j d us
writes_both x j d [] us = refl
writes_both x j d (a ∷ ws) us = written_step (is_write_of x j d a) a.value (writes_of x j d ws) (writes_of x j d us) (writes_of x j d (ws ++ us)) (writes_both x j d ws us)

middle : (p q r : Bool) → (p && r) ≡ false → (p && (q && r)) ≡ false
middle true q r h = ap (λ b. q && b) h ∙ and_false q
middle false q r h = refl

-- an act on another variable, or of the other kind
quiet : (t : Bool) (x y j : ℕ) (i z : ℤ) (d e : Bool) → ((y == x) && same_bool e d) ≡ false → writes_of x j d (act_if t y i z e) ≡ []
quiet true x y j i z d e h = ap (λ b. if b then z ∷ [] else []) (middle (y == x) (unsigned_abs i == j) (same_bool e d) h)
quiet false x y j i z d e h = refl

others_both : (x : ℕ) (ws us : List Act) → others x (ws ++ us) ≡ others x ws ++ others x us
others_both x [] us = refl
others_both x (a ∷ ws) us = at (a.var == x) (others_both x ws us)
  where
    at : (b : Bool) → others x (ws ++ us) ≡ others x ws ++ others x us → (if b then others x (ws ++ us) else a ∷ others x (ws ++ us)) ≡ (if b then others x ws else a ∷ others x ws) ++ others x us
    at true e = e
    at false e = ap (λ l. a ∷ l) e

others_own : (t : Bool) (x y : ℕ) (i z : ℤ) (d : Bool) → (y == x) ≡ true → others x (act_if t y i z d) ≡ []
others_own true x y i z d e = ap (λ b. if b then [] else act_if true y i z d) e
others_own false x y i z d e = refl

others_other : (t : Bool) (x y : ℕ) (i z : ℤ) (d : Bool) → (y == x) ≡ false → others x (act_if t y i z d) ≡ act_if t y i z d
others_other true x y i z d e = ap (λ b. if b then [] else act_if true y i z d) e
others_other false x y i z d e = refl

module _ (σ : Assignment) (n : ℕ) where
  acts_both : (ws us : List Action) → acts_of σ n (ws ++ us) ≡ acts_of σ n ws ++ acts_of σ n us
  acts_both [] us = refl
  acts_both (a ∷ ws) us = ap (λ l. act_of σ n a ++ l) (acts_both ws us) ∙ sym (append_assoc (act_of σ n a) (acts_of σ n ws) (acts_of σ n us))

  -- actions of one kind write nothing of the other
  other_kind : (x j : ℕ) (d e : Bool) (ws : List Action) → same_bool e d ≡ false → writes_of x j d (acts_of σ n (writes_to x e ws)) ≡ []
  other_kind x j d e [] h = refl
  other_kind x j d e (a ∷ ws) h = at ((a.var == x) && same_bool a.delayed e) refl (other_kind x j d e ws h)
    where
      at : (b : Bool) → ((a.var == x) && same_bool a.delayed e) ≡ b → writes_of x j d (acts_of σ n (writes_to x e ws)) ≡ [] → writes_of x j d (acts_of σ n (action_if b a (writes_to x e ws))) ≡ []
      at true f g =
          let same : a.delayed ≡ e = same_is a.delayed e (and_right (a.var == x) (same_bool a.delayed e) f) in
          let i : ℤ = index_read σ a.index in
          writes_both x j d (act_of σ n a) (acts_of σ n (writes_to x e ws))
          ∙ ap₂ (λ k l. k ++ l) (quiet (truth σ a.guard && is_index_below n i) x a.var j i (read σ a.value) d a.delayed (ap (λ b. (a.var == x) && same_bool b d) same ∙ ap (λ b. (a.var == x) && b) h ∙ and_false (a.var == x))) g
      at false f g = g

module _ (vs : Vars) (σ : Assignment) (x : ℕ) where
  -- what all acts write to an element, the actions on its variable write
  kept_writes : (j : ℕ) (d : Bool) (ws : List Action) → writes_of x j d (acted vs σ ws) ≡ writes_of x j d (acts_of σ (count_of vs x) (writes_to x d ws))
  unfolding acted
  kept_writes j d [] = refl
  kept_writes j d (a ∷ ws) = writes_both x j d (act_of σ (count_of vs a.var) a) (acted vs σ ws) ∙ at ((a.var == x) && same_bool a.delayed d) refl (kept_writes j d ws)
    where
      at : (b : Bool) → ((a.var == x) && same_bool a.delayed d) ≡ b → writes_of x j d (acted vs σ ws) ≡ writes_of x j d (acts_of σ (count_of vs x) (writes_to x d ws))
          → writes_of x j d (act_of σ (count_of vs a.var) a) ++ writes_of x j d (acted vs σ ws) ≡ writes_of x j d (acts_of σ (count_of vs x) (action_if b a (writes_to x d ws)))
      at true e g =
          let same : a.var ≡ x = number_is a.var x (and_left (a.var == x) (same_bool a.delayed d) e) in
          ap₂ (λ (n : ℕ) l. writes_of x j d (act_of σ n a) ++ l) (ap (count_of vs) same) g ∙ sym (writes_both x j d (act_of σ (count_of vs x) a) (acts_of σ (count_of vs x) (writes_to x d ws)))
      at false e g =
          let i : ℤ = index_read σ a.index in
          ap₂ (λ k l. k ++ l) (quiet (truth σ a.guard && is_index_below (count_of vs a.var) i) x a.var j i (read σ a.value) d a.delayed e) g

  -- no write is delayed of a variable that no `next` targets
  pub none_next : (j : ℕ) (ws : List Action) → is_delayed vs x ≡ false → AreSoundWrites vs ws → writes_of x j true (acted vs σ ws) ≡ []
  none_next j ws n h = kept_writes j true ws ∙ ap (λ l. writes_of x j true (acts_of σ (count_of vs x) l)) (none_delayed vs x ws n h)

  -- all acts write to the variable what the acts of its copy write
  pub alike : (stored : Bool) (v : ℕ) (β inner : Builder) → WriteAlike x (length (numbers_from (length β.cells) (count_of vs x))) (acted vs σ inner.writes) (copy_acts σ (copy_at vs x stored v β inner))
  alike stored v β inner j d h = at d ∙ ap (λ m. writes_of x j d (acts_of σ m (writes_to x false inner.writes ++ writes_to x true inner.writes))) (sym (length_numbers (length β.cells) (count_of vs x)))
    where
      n : ℕ
      n = count_of vs x

      now : List Action
      now = writes_to x false inner.writes

      next : List Action
      next = writes_to x true inner.writes

      apart : (d : Bool) → writes_of x j d (acts_of σ n (now ++ next)) ≡ writes_of x j d (acts_of σ n now) ++ writes_of x j d (acts_of σ n next)
      apart d = ap (writes_of x j d) (acts_both σ n now next) ∙ writes_both x j d (acts_of σ n now) (acts_of σ n next)

      at : (d : Bool) → writes_of x j d (acted vs σ inner.writes) ≡ writes_of x j d (acts_of σ n (now ++ next))
      at false = kept_writes j false inner.writes ∙ sym (append-nil (writes_of x j false (acts_of σ n now))) ∙ ap (λ l. writes_of x j false (acts_of σ n now) ++ l) (sym (other_kind σ n x j false true inner.writes refl)) ∙ sym (apart false)
      at true = kept_writes j true inner.writes ∙ ap (λ l. l ++ writes_of x j true (acts_of σ n next)) (sym (other_kind σ n x j true false inner.writes refl)) ∙ sym (apart true)

  -- the acts on others are the acts of the actions on others
  pub others_are : (ws : List Action) → acted vs σ (writes_to_others x ws) ≡ others x (acted vs σ ws)
  unfolding acted
  others_are [] = refl
  others_are (a ∷ ws) = at (a.var == x) refl (others_are ws) ∙ sym (others_both x (act_of σ (count_of vs a.var) a) (acted vs σ ws))
    where
      at : (b : Bool) → (a.var == x) ≡ b → acted vs σ (writes_to_others x ws) ≡ others x (acted vs σ ws)
          → acted vs σ (if b then writes_to_others x ws else a ∷ writes_to_others x ws) ≡ others x (act_of σ (count_of vs a.var) a) ++ others x (acted vs σ ws)
      at true e g =
          let i : ℤ = index_read σ a.index in
          g ∙ ap (λ l. l ++ others x (acted vs σ ws)) (sym (others_own (truth σ a.guard && is_index_below (count_of vs a.var) i) x a.var i (read σ a.value) a.delayed e))
      at false e g =
          let i : ℤ = index_read σ a.index in
          ap₂ (λ k l. k ++ l) (sym (others_other (truth σ a.guard && is_index_below (count_of vs a.var) i) x a.var i (read σ a.value) a.delayed e)) g

-- ---- what the copy goes on from

module _ (vs : Vars) (σ : Assignment) (x v : ℕ) (β inner : Builder) where
  -- a copy without store starts from the start value
  pub fresh_goes : (j f n : ℕ) → GoesOnFrom σ (shape_in vs x) (copy_at vs x false v β inner) j (replicate n (record { value = start_of vs x; pending = None })) (numbers_from f n)
  fresh_goes j f zero = tt
  fresh_goes j f (suc n) = (refl, fresh_goes (j + 1) (f + 1) n)

  pended : (b : Bool) (z : ℤ) → some_if b z ≡ (if b then Some z else None)
  pended true z = refl
  pended false z = refl

  -- a copy with store goes on from its registers
  pub stored_goes : (j f n : ℕ) → GoesOnFrom σ (shape_in vs x) (copy_at vs x true v β inner) j (kept_from (shape_in vs x) σ.registers v j n) (numbers_from f n)
  stored_goes j f zero = tt
  stored_goes j f (suc n) =
      let s = shape_in vs x in (
        (
          λ (h : s.storage ≡ Mem). ap (λ t. if is_memorized t then σ.registers (register_of s v j) else pos 0) h,
          pended (s.delayed && holds (σ.registers (flag_of s v j))) (σ.registers (pending_of s v j)),
        ),
        stored_goes (j + 1) (f + 1) n,
      )
