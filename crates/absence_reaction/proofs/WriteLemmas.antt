-- What acts write to an element is what its arms write whose guards hold.
use Rattle.std.proofs.Common.{◌≡◌, ℕ, ◌<◌, ℤ, pos, negsuc, Bool, true, false, List, [], ◌∷◌, ◌++◌, length, Option, Some, None, refl, sym, ap, ◌∙◌, arith, append_assoc}
use Rattle.std.specs.Prelude.{◌&&◌, ◌==◌, nat_lt, unsigned_abs, if◌then◌else◌}
use Rattle.std.proofs.lemmas.Bool.Decides.{nat_tests}
use Rattle.std.proofs.lemmas.List.{append-nil}
use Rattle.quartz_expr.specs.declared.act.Act.{Act}
use Rattle.quartz_expr.specs.Values.{of_bool, same_value}
use Rattle.quartz_expr.specs.Faults.{is_index_below}
use Rattle.quartz_expr.specs.Writes.{act_if}
use Rattle.quartz_expr.specs.Resolve.{is_write_of, same_bool, writes_of}
use Rattle.aif_cells.specs.declared.reference.Ref.{Ref}
use Rattle.aif_cells.specs.declared.reference.Ref.TheVariants as ref
use Rattle.aif_cells.specs.declared.cells.Action.{Action}
use Rattle.aif_cells.specs.Tree.{Tree, value}
use Rattle.aif_cells.specs.Worth.{Assignment, holds, read, truth, worth}
use Rattle.aif_cells.proofs.WorthLemmas.{holds_of_bool}
use Rattle.absence_reaction.specs.declared.copy.VarCopy.{VarCopy}
use Rattle.absence_reaction.specs.Closing.{arm_before, arms_for, guard_for}
use Rattle.absence_reaction.specs.Meaning.{AreWritesOf, IsWriteOf, act_of, acts_of, copy_acts, index_read}

-- the values that arms write whose guards hold
abbrev pub acting : Assignment → List (Tree × Tree) → List ℤ
acting σ [] = []
acting σ (a ∷ arms) = if holds (worth σ a.0) then worth σ a.1 ∷ acting σ arms else acting σ arms

-- ---- tests

and-true : (b : Bool) → (b && true) ≡ b
and-true true = refl
and-true false = refl

and-false : (b : Bool) → (b && false) ≡ false
and-false true = refl
and-false false = refl

same_number : (n : ℕ) → (n == n) ≡ true
same_number n = grind (arith, nat_tests)

same_truth : (b : Bool) → same_bool b b ≡ true
same_truth true = refl
same_truth false = refl

abbrev alone_if : Bool → ℤ → List ℤ
alone_if b v = if b then v ∷ [] else []

-- ---- one act

act_at : (t s : Bool) (x j k : ℕ) (v : ℤ) (d : Bool) → (k == j) ≡ s → (s ≡ true → t ≡ true) → writes_of x j d (act_if t x (pos k) v d) ≡ alone_if s v
act_at true s x j k v d e h =
    ap (λ q. alone_if (q && ((k == j) && same_bool d d)) v) (same_number x) ∙ ap (λ q. alone_if ((k == j) && q) v) (same_truth d)
    ∙ ap (λ q. alone_if q v) (and-true (k == j)) ∙ ap (λ q. alone_if q v) e
act_at false true x j k v d e h = absurd (cc (h refl))
act_at false false x j k v d e h = refl

in_bound : (k j n : ℕ) → j < n → (k == j) ≡ true → nat_lt k n ≡ true
in_bound k j n h e = grind (arith, nat_tests, h, e)

-- a write of an element, with its index among so many
indexed_write : (b : Bool) (x n j : ℕ) (z v : ℤ) (d : Bool) → j < n → writes_of x j d (act_if (b && is_index_below n z) x z v d) ≡ alone_if (b && same_value z (pos j)) v
indexed_write false x n j z v d h = refl
indexed_write true x n j (negsuc k) v d h = refl
indexed_write true x n j (pos k) v d h = act_at (nat_lt k n) (k == j) x j k v d refl (in_bound k j n h)

-- an act of the other kind
other_act : (t : Bool) (x y j : ℕ) (z v : ℤ) (d e : Bool) → same_bool d e ≡ false → writes_of x j e (act_if t y z v d) ≡ []
other_act true x y j z v d e h =
    ap (λ q. alone_if ((y == x) && ((unsigned_abs z == j) && q)) v) h ∙ ap (λ q. alone_if ((y == x) && q) v) (and-false (unsigned_abs z == j))
    ∙ ap (λ q. alone_if q v) (and-false (y == x))
other_act false x y j z v d e h = refl

-- ---- an action

-- an arm with a test of the index
tested : (σ : Assignment) (j : ℕ) (g r w : Ref) → alone_if (truth σ g && same_value (read σ r) (pos j)) (read σ w)
    ≡ alone_if (holds (of_bool (holds (read σ g) && holds (of_bool (same_value (read σ r) (pos j)))))) (read σ w)
tested σ j g r w =
    ap (λ q. alone_if q (read σ w)) (ap (λ q. holds (read σ g) && q) (sym (holds_of_bool (same_value (read σ r) (pos j))))
    ∙ sym (holds_of_bool (holds (read σ g) && holds (of_bool (same_value (read σ r) (pos j))))))

-- an arm whose index is a literal
fixed : (σ : Assignment) (s : Bool) (g w : Ref) → alone_if (truth σ g && s) (read σ w) ≡ acting σ (arm_before (if s then Some (value g) else None) w [])
fixed σ true g w = ap (λ q. alone_if q (read σ w)) (and-true (truth σ g))
fixed σ false g w = ap (λ q. alone_if q (read σ w)) (and-false (truth σ g))

only_one : (j n : ℕ) → j < n → n ≡ 1 → (0 == j) ≡ true
only_one j n h e = grind (arith, nat_tests, h, e)

write_is : (σ : Assignment) (x n j : ℕ) (g w : Ref) (i : Option Ref) (d : Bool) → j < n → (i ≡ None → n ≡ 1)
    → writes_of x j d (act_if (truth σ g && is_index_below n (index_read σ i)) x (index_read σ i) (read σ w) d) ≡ acting σ (arm_before (guard_for j (value g) i) w [])
write_is σ x n j g w None d h e = indexed_write (truth σ g) x n j (pos 0) (read σ w) d h ∙ ap (λ q. alone_if (truth σ g && q) (read σ w)) (only_one j n h (e refl)) ∙ ap (λ q. alone_if q (read σ w)) (and-true (truth σ g))
write_is σ x n j g w (Some (ref.Lit z)) d h e = indexed_write (truth σ g) x n j z (read σ w) d h ∙ fixed σ (same_value z (pos j)) g w
write_is σ x n j g w (Some (ref.Input i)) d h e = indexed_write (truth σ g) x n j (read σ (ref.Input i)) (read σ w) d h ∙ tested σ j g (ref.Input i) w
write_is σ x n j g w (Some (ref.Reg i)) d h e = indexed_write (truth σ g) x n j (read σ (ref.Reg i)) (read σ w) d h ∙ tested σ j g (ref.Reg i) w
write_is σ x n j g w (Some (ref.Cell i)) d h e = indexed_write (truth σ g) x n j (read σ (ref.Cell i)) (read σ w) d h ∙ tested σ j g (ref.Cell i) w

action_writes : (σ : Assignment) (x n j : ℕ) (d : Bool) (a : Action) → j < n → IsWriteOf x d n a → writes_of x j d (act_of σ n a) ≡ acting σ (arm_before (guard_for j (value a.guard) a.index) a.value [])
action_writes σ x n j d a h is =
    let z : ℤ = index_read σ a.index in
    let acts : Bool = truth σ a.guard && is_index_below n z in
    ap (λ y. writes_of x j d (act_if acts y z (read σ a.value) a.delayed)) is.var ∙ ap (λ q. writes_of x j d (act_if acts x z (read σ a.value) q)) is.delayed
    ∙ write_is σ x n j a.guard a.value a.index d h is.indexed

-- ---- many actions

write_step : (q : Bool) (v : ℤ) (l m n : List ℤ) → n ≡ l ++ m → (if q then v ∷ n else n) ≡ (if q then v ∷ l else l) ++ m
write_step true v l m n e = ap (λ k. v ∷ k) e
write_step false v l m n e = e

writes-append : (x j : ℕ) (d : Bool) (xs ys : List Act) → writes_of x j d (xs ++ ys) ≡ writes_of x j d xs ++ writes_of x j d ys
writes-append x j d [] ys = refl
writes-append x j d (a ∷ xs) ys = write_step (is_write_of x j d a) a.value (writes_of x j d xs) (writes_of x j d ys) (writes_of x j d (xs ++ ys)) (writes-append x j d xs ys)

acting_apart : (σ : Assignment) (o : Option Tree) (w : Ref) (arms : List (Tree × Tree)) → acting σ (arm_before o w arms) ≡ acting σ (arm_before o w []) ++ acting σ arms
acting_apart σ None w arms = refl
acting_apart σ (Some g) w arms = write_step (holds (worth σ g)) (read σ w) [] (acting σ arms) (acting σ arms) refl

actions_write : (σ : Assignment) (x n j : ℕ) (d : Bool) (actions : List Action) → j < n → AreWritesOf x d n actions → writes_of x j d (acts_of σ n actions) ≡ acting σ (arms_for j actions)
actions_write σ x n j d [] h is = refl
actions_write σ x n j d (a ∷ more) h is =
    let o : Option Tree = guard_for j (value a.guard) a.index in
    writes-append x j d (act_of σ n a) (acts_of σ n more)
    ∙ ap (λ l. l ++ writes_of x j d (acts_of σ n more)) (action_writes σ x n j d a h is.0)
    ∙ ap (λ l. acting σ (arm_before o a.value []) ++ l) (actions_write σ x n j d more h is.1) ∙ sym (acting_apart σ o a.value (arms_for j more))

other_writes : (σ : Assignment) (x n j : ℕ) (d e : Bool) (actions : List Action) → same_bool d e ≡ false → AreWritesOf x d n actions → writes_of x j e (acts_of σ n actions) ≡ []
other_writes σ x n j d e [] h is = refl
other_writes σ x n j d e (a ∷ more) h is =
    let z : ℤ = index_read σ a.index in
    writes-append x j e (act_of σ n a) (acts_of σ n more)
    ∙ ap (λ l. l ++ writes_of x j e (acts_of σ n more)) (other_act (truth σ a.guard && is_index_below n z) x a.var j z (read σ a.value) a.delayed e (ap (λ q. same_bool q e) is.0.delayed ∙ h))
    ∙ other_writes σ x n j d e more h is.1

acts-append : (σ : Assignment) (n : ℕ) (xs ys : List Action) → acts_of σ n (xs ++ ys) ≡ acts_of σ n xs ++ acts_of σ n ys
acts-append σ n [] ys = refl
acts-append σ n (a ∷ xs) ys = ap (λ l. act_of σ n a ++ l) (acts-append σ n xs ys) ∙ sym (append_assoc (act_of σ n a) (acts_of σ n xs) (acts_of σ n ys))

-- ---- a copy

-- the now-values that are written to element j
pub now_written : (σ : Assignment) (c : VarCopy) (j : ℕ) → AreWritesOf c.var false (length c.values) c.now → AreWritesOf c.var true (length c.values) c.next → j < length c.values
    → writes_of c.var j false (copy_acts σ c) ≡ acting σ (arms_for j c.now)
now_written σ c j a b h =
    let n : ℕ = length c.values in
    ap (writes_of c.var j false) (acts-append σ n c.now c.next) ∙ writes-append c.var j false (acts_of σ n c.now) (acts_of σ n c.next)
    ∙ ap (λ l. l ++ writes_of c.var j false (acts_of σ n c.next)) (actions_write σ c.var n j false c.now h a)
    ∙ ap (λ l. acting σ (arms_for j c.now) ++ l) (other_writes σ c.var n j true false c.next refl b) ∙ append-nil (acting σ (arms_for j c.now))

-- the next-values that are written to element j
pub next_written : (σ : Assignment) (c : VarCopy) (j : ℕ) → AreWritesOf c.var false (length c.values) c.now → AreWritesOf c.var true (length c.values) c.next → j < length c.values
    → writes_of c.var j true (copy_acts σ c) ≡ acting σ (arms_for j c.next)
next_written σ c j a b h =
    let n : ℕ = length c.values in
    ap (writes_of c.var j true) (acts-append σ n c.now c.next) ∙ writes-append c.var j true (acts_of σ n c.now) (acts_of σ n c.next)
    ∙ ap (λ l. l ++ writes_of c.var j true (acts_of σ n c.next)) (other_writes σ c.var n j false true c.now refl a)
    ∙ actions_write σ c.var n j true c.next h b
