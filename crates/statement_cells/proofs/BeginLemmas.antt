-- The copies with which the body begins: they have the values of inputs and outputs.
use Rattle.std.proofs.Common.{◌≡◌, ℕ, zero, suc, ◌+◌, ◌<◌, ℤ, true, List, [], ◌∷◌, ◌++◌, length, map, refl, sym, ap, ap₂, ◌∙◌, subst, arith, length-append, append_assoc}
use Rattle.std.specs.Prelude.{slice_set, replicate}
use Rattle.quartz_tree.specs.declared.declare.Flow.{Flow}
use Rattle.quartz_tree.specs.declared.declare.Flow.TheVariants.{Input, Output, Inner}
use Rattle.quartz_tree.specs.declared.declare.Var.{Var}
use Rattle.quartz_expr.specs.Values.{Values, elements_in}
use Rattle.quartz_expr.specs.Vars.{Vars, count_of, start_of}
use Rattle.quartz_expr.specs.Intervals.{Interval, Lies, range_of}
use Rattle.quartz_expr.specs.Typed.{AllLie, Fits}
use Rattle.quartz_expr.specs.Steps.{environment, first_list, if_output, outputs_from, rest_of}
use Rattle.aif_cells.specs.Aif.{elements_of}
use Rattle.aif_cells.specs.declared.reference.Ref.TheVariants as ref
use Rattle.aif_cells.specs.Worth.{Assignment, number_at, read}
use Rattle.reincarnation.specs.Entering.{numbers_from}
use Rattle.statement_cells.specs.Expressions.{Copies, Current, env_of}
use Rattle.statement_cells.specs.Builder.{Builder, Reserved, new_cells, reserve, reserved_cells}
use Rattle.statement_cells.specs.Walk.{AllInRange, IsCurrent, acted, cell_values, met_by, no_trail, Trail, trail}
use Rattle.statement_cells.specs.Whole.{Begun, after_flow, beginning, begun, first_copies, first_copy, nothing_built}
use Rattle.statement_cells.specs.Meaning.{AreInputs, HasInputs, elements, if_input, inputs_from, inputs_of, outputs_in}
use Rattle.statement_cells.proofs.GrowLemmas.{Grows, stays, then_grows}
use Rattle.statement_cells.proofs.ScopeGrowLemmas.{reserve_grows}
use Rattle.statement_cells.proofs.ScopeEnvLemmas.{cells_read, count_values, length_map, ranges_first, ranges_second, values_lie}

-- ---- environments that fit

-- each of these variables has its elements, each in its range
abbrev pub ItemsFit : Vars → Values → Type 0
ItemsFit [] [] = Unit {0}
ItemsFit (u ∷ us) (e ∷ env) = (length e ≡ elements_of u) × AllLie (range_of (u ∷ us) 0) e × ItemsFit us env
ItemsFit _ _ = ⊥

item_count : (us : Vars) (env : Values) → ItemsFit us env → (x : ℕ) → x < length us → length (elements_in env x) ≡ count_of us x
item_count [] [] h x l = absurd (omega (arith, l))
item_count (u ∷ us) (e ∷ env) h zero l = h.0
item_count (u ∷ us) (e ∷ env) h (suc x) l = item_count us env h.2 x (omega (arith, l))
item_count [] (e ∷ env) h x l = absurd h
item_count (u ∷ us) [] h x l = absurd h

item_range : (us : Vars) (env : Values) → ItemsFit us env → (x : ℕ) → x < length us → AllLie (range_of us x) (elements_in env x)
item_range [] [] h x l = absurd (omega (arith, l))
item_range (u ∷ us) (e ∷ env) h zero l = h.1
item_range (u ∷ us) (e ∷ env) h (suc x) l = item_range us env h.2 x (omega (arith, l))
item_range [] (e ∷ env) h x l = absurd h
item_range (u ∷ us) [] h x l = absurd h

item_all : (us : Vars) (env : Values) → ItemsFit us env → length env ≡ length us
item_all [] [] h = refl
item_all (u ∷ us) (e ∷ env) h = ap suc (item_all us env h.2)
item_all [] (e ∷ env) h = absurd h
item_all (u ∷ us) [] h = absurd h

-- ---- the variable behind others

count_behind : (q us : Vars) → count_of (q ++ us) (length q) ≡ count_of us 0
count_behind [] us = refl
count_behind (w ∷ q) us = count_behind q us

range_behind : (q us : Vars) → range_of (q ++ us) (length q) ≡ range_of us 0
range_behind [] us = refl
range_behind (w ∷ q) us = range_behind q us

start_behind : (q us : Vars) → start_of (q ++ us) (length q) ≡ start_of us 0
start_behind [] us = refl
start_behind (w ∷ q) us = start_behind q us

set_behind : (p : Copies) (c d : Current) (r : Copies) → slice_set (p ++ c ∷ r) (length p) d ≡ p ++ d ∷ r
set_behind [] c d r = refl
set_behind (a ∷ p) c d r = ap (λ l. a ∷ l) (set_behind p c d r)

one_more : {A : Type 0} (p : List A) (a : A) (n : ℕ) → length p ≡ n → length (p ++ a ∷ []) ≡ n + 1
one_more p a n e = length-append p (a ∷ []) ∙ ap (λ m. m + 1) e

env_input : (u : Var) (us : Vars) (is os : List (List ℤ)) → u.decl.flow ≡ Input → environment (u ∷ us) is os ≡ first_list is ∷ environment us (rest_of is) os
env_input u us is os e = rw e refl

env_output : (u : Var) (us : Vars) (is os : List (List ℤ)) → u.decl.flow ≡ Output → environment (u ∷ us) is os ≡ first_list os ∷ environment us is (rest_of os)
env_output u us is os e = rw e refl

env_inner : (u : Var) (us : Vars) (is os : List (List ℤ)) → u.decl.flow ≡ Inner → environment (u ∷ us) is os ≡ replicate (elements_of u) u.start ∷ environment us is os
env_inner u us is os e = rw e refl

-- ---- the values of inputs

all_lie_replicate : (i : Interval) (n : ℕ) (z : ℤ) → Lies i z → AllLie i (replicate n z)
all_lie_replicate i zero z h = tt
all_lie_replicate i (suc n) z h = (h, all_lie_replicate i n z h)

length_of_replicate : (n : ℕ) (z : ℤ) → length (replicate n z) ≡ n
length_of_replicate zero z = refl
length_of_replicate (suc n) z = ap suc (length_of_replicate n z)

module _ (σ : Assignment) where
  literals_read : (n : ℕ) (z : ℤ) → map (read σ) (replicate n (ref.Lit z)) ≡ replicate n z
  literals_read zero z = refl
  literals_read (suc n) z = ap (λ l. z ∷ l) (literals_read n z)

  inputs_read : (z more : List ℤ) (i : ℕ) → ((j : ℕ) → σ.inputs (i + j) ≡ number_at (z ++ more) j) → map (read σ) (map ref.Input (numbers_from i (length z))) ≡ z
  inputs_read [] more i h = refl
  inputs_read (a ∷ z) more i h =
      let e : i ≡ i + zero = omega arith in
      let f : (j : ℕ) → (i + 1) + j ≡ i + suc j = λ j. omega arith in
      ap₂ (λ b l. b ∷ l) (ap σ.inputs e ∙ h zero) (inputs_read z more (i + 1) (λ j. ap σ.inputs (f j) ∙ h (suc j)))

  inputs_rest : (z more : List ℤ) (i : ℕ) → ((j : ℕ) → σ.inputs (i + j) ≡ number_at (z ++ more) j) → (j : ℕ) → σ.inputs ((i + length z) + j) ≡ number_at more j
  inputs_rest [] more i h j = let e : (i + zero) + j ≡ i + j = omega arith in ap σ.inputs e ∙ h j
  inputs_rest (a ∷ z) more i h j =
      let e : (i + suc (length z)) + j ≡ ((i + 1) + length z) + j = omega arith in
      let f : (j : ℕ) → (i + 1) + j ≡ i + suc j = λ j. omega arith in
      ap σ.inputs e ∙ inputs_rest z more (i + 1) (λ j. ap σ.inputs (f j) ∙ h (suc j)) j

-- ---- the beginning grows

module _ (vs : Vars) where
  pub begun_grows : (xs : List ℕ) (κ : Copies) (β : Builder) → Grows vs β (begun vs xs κ β).built
  begun_grows [] κ β = stays vs β
  begun_grows (x ∷ xs) κ β = then_grows vs β (reserve vs x true β) _ (reserve_grows vs x true β) (begun_grows xs _ (reserve vs x true β))

  quiet : (σ : Assignment) (x : ℕ) (β : Builder) → trail vs σ β ≡ no_trail → trail vs σ (reserve vs x true β) ≡ no_trail
  unfolding reserve trail acted met_by
  quiet σ x β e = λ i. record {
    acts = [];
    faults = ap (λ (t : Trail). t.faults) e i;
    met = [];
    marks = ap (λ (t : Trail). t.marks) e i;
    takes = ap (λ (t : Trail). t.takes) e i;
    defaults = ap (λ (t : Trail). t.defaults) e i;
  }

  -- it says nothing
  pub begun_trail : (σ : Assignment) (xs : List ℕ) (κ : Copies) (β : Builder) → trail vs σ β ≡ no_trail → trail vs σ (begun vs xs κ β).built ≡ no_trail
  begun_trail σ [] κ β e = e
  begun_trail σ (x ∷ xs) κ β e = begun_trail σ xs _ (reserve vs x true β) (quiet σ x β e)

  -- the copies with which these variables begin, behind those of others
  pub record Begins (σ : Assignment) (us : Vars) (p : Copies) (b : Begun) (ins : List (List ℤ)) : Type 0 where
    pub tail : Copies
    pub copies : b.copies ≡ p ++ tail
    pub env : env_of σ tail ≡ environment us ins (outputs_in σ b.outputs)
    pub fits : ItemsFit us (env_of σ tail)

  module _ (σ : Assignment) (starts : (x : ℕ) → x < length vs → Lies (range_of vs x) (start_of vs x)) where
    abbrev BeginWell : Vars → Type 0
    BeginWell us = (q : Vars) (p : Copies) (n i : ℕ) (β : Builder) (ins : List (List ℤ)) → vs ≡ q ++ us → length q ≡ n → length p ≡ n
        → AreInputs vs (inputs_from n us) ins → ((j : ℕ) → σ.inputs (i + j) ≡ number_at (elements ins) j)
        → AllInRange vs σ (begun vs (outputs_from n us) (p ++ first_copies us i) β).built.reserved
        → Begins σ us p (begun vs (outputs_from n us) (p ++ first_copies us i) β) ins

    module _ (u : Var) (us q : Vars) (n : ℕ) (e : vs ≡ q ++ u ∷ us) (a : length q ≡ n) where
      count_is : count_of vs n ≡ elements_of u
      count_is = ap₂ (λ (w : Vars) m. count_of w m) e (sym a) ∙ count_behind q (u ∷ us)

      range_is : range_of vs n ≡ range_of (u ∷ us) 0
      range_is = ap₂ (λ (w : Vars) m. range_of w m) e (sym a) ∙ range_behind q (u ∷ us)

      start_is : start_of vs n ≡ u.start
      start_is = ap₂ (λ (w : Vars) m. start_of w m) e (sym a) ∙ start_behind q (u ∷ us)

      less : n < length vs
      less = let s : length vs ≡ length q + suc (length us) = ap length e ∙ length-append q (u ∷ us) in omega (arith, s, a)

      -- the variable's copy is one more behind those before it
      module _ (p : Copies) (b : length p ≡ n) (c : Current) (i' : ℕ) (β : Builder) (ih : BeginWell us) (ins : List (List ℤ)) where
        next : AreInputs vs (inputs_from (n + 1) us) ins → ((j : ℕ) → σ.inputs (i' + j) ≡ number_at (elements ins) j)
            → AllInRange vs σ (begun vs (outputs_from (n + 1) us) (p ++ c ∷ first_copies us i') β).built.reserved
            → Begins σ us (p ++ c ∷ []) (begun vs (outputs_from (n + 1) us) (p ++ c ∷ first_copies us i') β) ins
        next h g r =
            let same : (p ++ c ∷ []) ++ first_copies us i' ≡ p ++ c ∷ first_copies us i' = append_assoc p (c ∷ []) (first_copies us i') in
            subst (λ κ. Begins σ us (p ++ c ∷ []) (begun vs (outputs_from (n + 1) us) κ β) ins) same
            (ih (q ++ u ∷ []) (p ++ c ∷ []) (n + 1) i' β ins (e ∙ sym (append_assoc q (u ∷ []) us)) (one_more q u n a) (one_more p c n b) h g
            (subst (λ κ. AllInRange vs σ (begun vs (outputs_from (n + 1) us) κ β).built.reserved) (sym same) r))

      own_lie : (β : Builder) (m : List Reserved) → AllInRange vs σ ((reserve vs n true β).reserved ++ m) → AllLie (range_of vs n) (cell_values σ (new_cells vs n β))
      unfolding reserve
      own_lie β m r = values_lie vs σ n (new_cells vs n β) (ranges_second vs σ β.reserved (reserved_cells n (new_cells vs n β)) (ranges_first vs σ (β.reserved ++ reserved_cells n (new_cells vs n β)) m r))

      begins_input : BeginWell us → u.decl.flow ≡ Input → (p : Copies) (i : ℕ) (β : Builder) (ins : List (List ℤ)) → length p ≡ n
          → AreInputs vs (n ∷ inputs_from (n + 1) us) ins → ((j : ℕ) → σ.inputs (i + j) ≡ number_at (elements ins) j)
          → AllInRange vs σ (begun vs (outputs_from (n + 1) us) (p ++ first_copy Input u.start i (elements_of u) ∷ first_copies us (i + elements_of u)) β).built.reserved
          → Begins σ (u ∷ us) p (begun vs (outputs_from (n + 1) us) (p ++ first_copy Input u.start i (elements_of u) ∷ first_copies us (i + elements_of u)) β) ins
      begins_input ih f p i β [] b h g r = absurd h
      begins_input ih f p i β (z ∷ zs) b h g r =
          let c : Current = first_copy Input u.start i (elements_of u) in
          let size : length z ≡ elements_of u = h.0 ∙ count_is in
          let rest : (j : ℕ) → σ.inputs ((i + elements_of u) + j) ≡ number_at (elements zs) j = λ j. subst (λ m. σ.inputs ((i + m) + j) ≡ number_at (elements zs) j) size (inputs_rest σ z (elements zs) i g j) in
          let own : map (read σ) c.values ≡ z = subst (λ m. map (read σ) (map ref.Input (numbers_from i m)) ≡ z) size (inputs_read σ z (elements zs) i g) in
          let k = next p b c (i + elements_of u) β ih zs h.2 rest r in
          record {
            tail = c ∷ k.tail;
            copies = k.copies ∙ append_assoc p (c ∷ []) k.tail;
            env = ap₂ (λ x l. x ∷ l) own k.env ∙ sym (env_input u us (z ∷ zs) (outputs_in σ _) f);
            fits = (ap length own ∙ size, subst (AllLie (range_of (u ∷ us) 0)) (sym own) (subst (λ v. AllLie v z) range_is h.1), k.fits);
          }

      begins_output : BeginWell us → u.decl.flow ≡ Output → (p : Copies) (i : ℕ) (β : Builder) (ins : List (List ℤ)) → length p ≡ n
          → AreInputs vs (inputs_from (n + 1) us) ins → ((j : ℕ) → σ.inputs (i + j) ≡ number_at (elements ins) j)
          → AllInRange vs σ (begun vs (n ∷ outputs_from (n + 1) us) (p ++ first_copy Output u.start i (elements_of u) ∷ first_copies us i) β).built.reserved
          → Begins σ (u ∷ us) p (begun vs (n ∷ outputs_from (n + 1) us) (p ++ first_copy Output u.start i (elements_of u) ∷ first_copies us i) β) ins
      begins_output ih f p i β ins b h g r =
          let c : Current = record { copy = 0; values = map ref.Cell (new_cells vs n β) } in
          let old : Current = first_copy Output u.start i (elements_of u) in
          let set : slice_set (p ++ old ∷ first_copies us i) n c ≡ p ++ c ∷ first_copies us i = subst (λ m. slice_set (p ++ old ∷ first_copies us i) m c ≡ p ++ c ∷ first_copies us i) b (set_behind p old c (first_copies us i)) in
          let more : Begun = begun vs (outputs_from (n + 1) us) (slice_set (p ++ old ∷ first_copies us i) n c) (reserve vs n true β) in
          let own : map (read σ) c.values ≡ cell_values σ (new_cells vs n β) = cells_read vs σ (new_cells vs n β) in
          let grows = begun_grows (outputs_from (n + 1) us) (slice_set (p ++ old ∷ first_copies us i) n c) (reserve vs n true β) in
          let k : Begins σ us (p ++ c ∷ []) more ins =
          subst (λ κ. Begins σ us (p ++ c ∷ []) (begun vs (outputs_from (n + 1) us) κ (reserve vs n true β)) ins) (sym set)
          (next p b c i (reserve vs n true β) ih ins h g (subst (λ κ. AllInRange vs σ (begun vs (outputs_from (n + 1) us) κ (reserve vs n true β)).built.reserved) set r)) in
          record {
            tail = c ∷ k.tail;
            copies = k.copies ∙ append_assoc p (c ∷ []) k.tail;
            env = ap₂ (λ x l. x ∷ l) own k.env ∙ sym (env_output u us ins (cell_values σ (new_cells vs n β) ∷ outputs_in σ more.outputs) f);
            fits = (
              ap length own ∙ count_values vs σ n β ∙ count_is,
              subst (AllLie (range_of (u ∷ us) 0)) (sym own) (subst (λ v. AllLie v (cell_values σ (new_cells vs n β))) range_is (own_lie β grows.more (subst (AllInRange vs σ) grows.reserved r))),
              k.fits,
            );
          }

      begins_inner : BeginWell us → u.decl.flow ≡ Inner → (p : Copies) (i : ℕ) (β : Builder) (ins : List (List ℤ)) → length p ≡ n
          → AreInputs vs (inputs_from (n + 1) us) ins → ((j : ℕ) → σ.inputs (i + j) ≡ number_at (elements ins) j)
          → AllInRange vs σ (begun vs (outputs_from (n + 1) us) (p ++ first_copy Inner u.start i (elements_of u) ∷ first_copies us i) β).built.reserved
          → Begins σ (u ∷ us) p (begun vs (outputs_from (n + 1) us) (p ++ first_copy Inner u.start i (elements_of u) ∷ first_copies us i) β) ins
      begins_inner ih f p i β ins b h g r =
          let c : Current = first_copy Inner u.start i (elements_of u) in
          let own : map (read σ) c.values ≡ replicate (elements_of u) u.start = literals_read σ (elements_of u) u.start in
          let k = next p b c i β ih ins h g r in
          let lies : Lies (range_of (u ∷ us) 0) u.start = subst (λ v. Lies v u.start) range_is (subst (Lies (range_of vs n)) start_is (starts n less)) in
          record {
            tail = c ∷ k.tail;
            copies = k.copies ∙ append_assoc p (c ∷ []) k.tail;
            env = ap₂ (λ x l. x ∷ l) own k.env ∙ sym (env_inner u us ins (outputs_in σ _) f);
            fits = (ap length own ∙ length_of_replicate (elements_of u) u.start, subst (AllLie (range_of (u ∷ us) 0)) (sym own) (all_lie_replicate (range_of (u ∷ us) 0) (elements_of u) u.start lies), k.fits);
          }

    begins : (us : Vars) → BeginWell us
    begins [] q p n i β ins e a b h g r = record { tail = []; copies = refl; env = refl; fits = tt }
    begins (u ∷ us) q p n i β ins e a b h g r = by_flow u.decl.flow refl (begins us) h r
      where
        by_flow : (f : Flow) → u.decl.flow ≡ f → BeginWell us → AreInputs vs (if_input f n (inputs_from (n + 1) us)) ins
            → AllInRange vs σ (begun vs (if_output f n (outputs_from (n + 1) us)) (p ++ first_copy f u.start i (elements_of u) ∷ first_copies us (after_flow f i (elements_of u))) β).built.reserved
            → Begins σ (u ∷ us) p (begun vs (if_output f n (outputs_from (n + 1) us)) (p ++ first_copy f u.start i (elements_of u) ∷ first_copies us (after_flow f i (elements_of u))) β) ins
        by_flow Input f ih h r = begins_input u us q n e a ih f p i β ins b h g r
        by_flow Output f ih h r = begins_output u us q n e a ih f p i β ins b h g r
        by_flow Inner f ih h r = begins_inner u us q n e a ih f p i β ins b h g r

    -- the first copies are current, and their values are those of the inputs and the outputs
    pub record Current0 (ins : List (List ℤ)) : Type 0 where
      pub current : IsCurrent vs σ (beginning vs).copies
      pub env : env_of σ (beginning vs).copies ≡ environment vs ins (outputs_in σ (beginning vs).outputs)

    pub first_current : (ins : List (List ℤ)) → AreInputs vs (inputs_of vs) ins → HasInputs σ ins → AllInRange vs σ (beginning vs).built.reserved → Current0 ins
    first_current ins h g r =
        let nought : (j : ℕ) → 0 + j ≡ j = λ j. omega arith in
        let b = begins vs [] [] 0 0 nothing_built ins refl refl refl h (λ j. ap σ.inputs (nought j) ∙ g j) r in
        record {
          current = record {
            all = sym (length_map (λ c. map (read σ) c.values) (beginning vs).copies) ∙ ap (λ (κ : Copies). length (env_of σ κ)) b.copies ∙ item_all vs (env_of σ b.tail) b.fits;
            fits = subst (λ (κ : Copies). Fits vs (env_of σ κ)) (sym b.copies) (record { counts = item_count vs (env_of σ b.tail) b.fits; ranges = item_range vs (env_of σ b.tail) b.fits });
          };
          env = ap (env_of σ) b.copies ∙ b.env;
        }
