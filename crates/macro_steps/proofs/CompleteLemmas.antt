-- Each macro step of the state for which registers stand is the solution of the cells.
use Rattle.std.proofs.Common.{◌≡◌, ◌⊎◌, inl, inr, ◌∙◌, ℕ, zero, suc, ◌+◌, ◌≤◌, ◌<◌, ◌==◌, ◌||◌, nat_lt, ℤ, pos, Bool, true, false, List, [], ◌∷◌, ◌++◌, length, map, All, Some, None, refl, sym, ap, ap₂, subst, arith, append-nil}
use Rattle.std.specs.Prelude.{slice_get, slice_set, if◌then◌else◌}
use Rattle.std.proofs.lemmas.Bool.Decides.{nat_tests}
use Rattle.std.proofs.lemmas.List.Elements.{All-head, All-tail}
use Rattle.quartz_tree.specs.declared.fault.Fault.{Fault}
use Rattle.quartz_expr.specs.declared.act.Act.{Act}
use Rattle.quartz_expr.specs.Values.{Values}
use Rattle.quartz_expr.specs.Vars.{Vars, count_of}
use Rattle.quartz_expr.specs.Intervals.{Lies, range_of}
use Rattle.quartz_expr.specs.Terms.{Term, nothing, pause, write, choose, seq, par, loop, abort, suspend, scope, Terms, none, part}
use Rattle.quartz_expr.specs.Resolve.{values_of}
use Rattle.quartz_expr.specs.React.{AllResolved, Met, React, Reaction, givens, meetings}
use Rattle.quartz_expr.specs.Steps.{State, Macro, environment, next_stores, outputs_of}
use Rattle.aif_cells.specs.declared.reference.Ref.TheVariants as ref
use Rattle.aif_cells.specs.Tree.{Tree}
use Rattle.aif_cells.specs.Built.{Defined}
use Rattle.aif_cells.specs.Worth.{Assignment, worth}
use Rattle.aif_cells.specs.Dependences.{DependsOn}
use Rattle.aif_cells.specs.Order.{IsOrder}
use Rattle.aif_cells.proofs.SolutionLemmas.{there}
use Rattle.absence_reaction.specs.Meaning.{is_among}
use Rattle.reincarnation.specs.Entering.{numbers_from}
use Rattle.statement_cells.specs.Labels.{labels}
use Rattle.statement_cells.specs.Builder.{Builder, Reserved, Scoped, new_cells, reserve, reserved_cells, tree_at}
use Rattle.statement_cells.specs.Earlier.{ScopeIsBelow}
use Rattle.statement_cells.specs.Expressions.{Copies}
use Rattle.statement_cells.specs.Stands.{plain, plain_all, some}
use Rattle.statement_cells.specs.Walk.{AreMetOrAbsent, InactiveAreAbsent, InactiveAreMet, acted, cell_values, cells_of, is_active, met_by, met_if, worths_of}
use Rattle.statement_cells.specs.Whole.{OutputCopy, beginning, begun, body_built, compiled, first_copies, first_label, first_output, first_scope, nothing_built}
use Rattle.statement_cells.specs.Meaning.{IsSoundModule, StandsFor, marks_of, outputs_in, rest_of_body}
use Rattle.statement_cells.proofs.BeginLemmas.{begun_grows}
use Rattle.statement_cells.proofs.EarlierWholeLemmas.{body_ordered}
use Rattle.statement_cells.proofs.EndLemmas.{ended_longer, wanted_in}
use Rattle.statement_cells.proofs.GrowLemmas.{AllRecorded, AreBetween, HasTree, HaveTrees, between_bounds}
use Rattle.statement_cells.proofs.LiesLemmas.{ActsLie, MetLie, TermLies, TermsLie, react_acts, react_met}
use Rattle.statement_cells.proofs.PlacedLemmas.{AllAbsent, reserved_in}
use Rattle.statement_cells.proofs.ScopeGrowLemmas.{has_tree, reserve_longer}
use Rattle.statement_cells.proofs.WholeLemmas.{Kept, compiled_kept}
use Rattle.macro_steps.specs.Laws.{IsSolved}
use Rattle.macro_steps.proofs.AbsentLemmas.{AllFit, HaveValues, ScopesHaveValues, fit_both}
use Rattle.macro_steps.proofs.AgreeLemmas.{worth_agrees}
use Rattle.macro_steps.proofs.FillLemmas.{Fills, GivenLie, reaction_filled}
use Rattle.macro_steps.proofs.ForwardLemmas.{forward_free, forward_past}
use Rattle.macro_steps.proofs.GuessLemmas.{AllActive, Filled, RestAbsent, fill, filled, solved_by, same_values, same_fit}
use Rattle.macro_steps.proofs.OpenLemmas.{IsOpen, Opened, body_grows, finished, opened, scopes_between, scopes_recorded}
use Rattle.macro_steps.proofs.OrderLemmas.{along_order, cell_at}
use Rattle.macro_steps.proofs.OutsLemmas.{CountsAre, counts_are, given_at, given_out, given_own, outs_by, outs_fit}
use Rattle.macro_steps.proofs.RangeLemmas.{all_cells, computed, computed_meets, is_value, opens, unwritten, unwritten_fit, unwritten_have}
use Rattle.macro_steps.proofs.StoreLemmas.{OutputsIn, absent_is, outputs_resolved, rest_lies, sound_lies, unplain_lies}
use Rattle.macro_steps.proofs.WantedLemmas.{At', begun_reserved, body_absent, body_kept, body_listed, outputs_reserved, scope_place}

-- ---- terms that lie in ranges

module _ (vs : Vars) where
  mutual
    unplain_term : (t : Term) → TermLies vs (plain vs t) → TermLies vs t
    unplain_term nothing h = tt
    unplain_term pause h = tt
    unplain_term (write x i e d p q) h = tt
    unplain_term (choose c a b) h = (unplain_term a h.0, unplain_term b h.1)
    unplain_term (seq ts) h = unplain_all ts h
    unplain_term (par ts) h = unplain_all ts h
    unplain_term (loop t c) h = unplain_term t h
    unplain_term (abort w i t c) h = unplain_term t h
    unplain_term (suspend w i t c) h = unplain_term t h
    unplain_term (scope x None t) h = (h.0, unplain_term t h.1)
    unplain_term (scope x (Some s) t) h = (unplain_lies vs x s h.0, unplain_term t h.1)

    unplain_all : (ts : Terms) → TermsLie vs (plain_all vs ts) → TermsLie vs ts
    unplain_all none h = tt
    unplain_all (part t ts) h = (unplain_term t h.0, unplain_all ts h.1)

-- given values that are wanted ones
given_wanted : (vs : Vars) (ms : List Met) → AllResolved ms → MetLie vs ms → GivenLie vs ms
given_wanted vs [] h g = tt
given_wanted vs (m ∷ ms) h g = (subst (Lies (range_of vs m.var)) (sym h.0) g.0, given_wanted vs ms h.1 g.1)

-- ---- copies in order

actives : (n : ℕ) (ss : List Scoped) → All (ScopeIsBelow n) ss → AllActive ss
actives n [] h = tt
actives n (s ∷ ss) h = ((All-head (ScopeIsBelow n) s ss h).1, actives n ss (All-tail (ScopeIsBelow n) s ss h))

-- ---- cells that have the values of their trees

-- each value cell has the value of its tree
abbrev AllMet : Assignment → List Defined → List Reserved → Type 0
AllMet τ cs [] = Unit {0}
AllMet τ cs (r ∷ rs) = (u : Tree) × HasTree cs r.cell u × (τ.cells r.cell ≡ worth τ u) × AllMet τ cs rs

met_both : (τ : Assignment) (cs : List Defined) (rs qs : List Reserved) → AllMet τ cs rs → AllMet τ cs qs → AllMet τ cs (rs ++ qs)
met_both τ cs [] qs g h = h
met_both τ cs (r ∷ rs) qs (u, tree, e, more) h = (u, tree, e, met_both τ cs rs qs more h)

met_at : (τ : Assignment) (cs : List Defined) (rs : List Reserved) (k : ℕ) (c : Defined) → AllMet τ cs rs → is_among k (cells_of rs) ≡ true → slice_get cs k ≡ Some c → τ.cells k ≡ worth τ c.tree
met_at τ cs [] k c h e is = absurd (cc)
met_at τ cs (r ∷ rs) k c (u, tree, eq, more) e is = by (k == r.cell) refl (met_at τ cs rs k c more)
  where
    same : (k == r.cell) ≡ true → r.cell ≡ k
    same p = grind (arith, nat_tests, p)

    trees : {a b : Defined} → Some a ≡ Some b → a.tree ≡ b.tree
    trees p = let q : _ ≡ _ = unsome p in ap (λ (d : Defined). d.tree) q
      where
        unsome : {a b : Defined} → Some a ≡ Some b → a ≡ b
        unsome p = cc

    here : r.cell ≡ k → τ.cells k ≡ worth τ c.tree
    here p = ap τ.cells (sym p) ∙ eq ∙ ap (worth τ) (trees (sym tree.is ∙ (ap (slice_get cs) p ∙ is)))

    by : (b : Bool) → (k == r.cell) ≡ b → (is_among k (cells_of rs) ≡ true → slice_get cs k ≡ Some c → τ.cells k ≡ worth τ c.tree) → τ.cells k ≡ worth τ c.tree
    by true p f = here (same p)
    by false p f = f (sym (ap (λ b. b || is_among k (cells_of rs)) p) ∙ e) is

module _ (τ : Assignment) (cs : List Defined) where
  lists_met : (n : ℕ) (bs : List Defined) (x : ℕ) (ks : List ℕ) (ts : List Tree) → ((k : ℕ) (d : Defined) → n ≤ k → slice_get bs k ≡ Some d → slice_get cs k ≡ Some d) → HaveTrees n bs ks ts → cell_values τ ks ≡ worths_of τ ts → AllMet τ cs (reserved_cells x ks)
  lists_met n bs x [] [] kept h e = tt
  lists_met n bs x (k ∷ ks) (u ∷ ts) kept h e = (u, record { place = h.1.place; is = kept k _ h.0 h.1.is }, first e, lists_met n bs x ks ts kept h.2 (rest e))
    where
      first : {a b : ℤ} {l m : List ℤ} → a ∷ l ≡ b ∷ m → a ≡ b
      first p = cc

      rest : {a b : ℤ} {l m : List ℤ} → a ∷ l ≡ b ∷ m → l ≡ m
      rest p = cc
  lists_met n bs x [] (u ∷ ts) kept h e = absurd h
  lists_met n bs x (k ∷ ks) [] kept h e = absurd h

  numbers_met : (fs : List Defined) (x a n : ℕ) → Kept fs cs → a + n ≤ length fs → cell_values τ (numbers_from a n) ≡ worths_of τ (map (tree_at fs) (numbers_from a n)) → AllMet τ cs (reserved_cells x (numbers_from a n))
  numbers_met fs x a zero kept le e = tt
  numbers_met fs x a (suc n) kept le e =
      let t = has_tree fs a (omega (arith, le)) in
      (tree_at fs a, record { place = t.place; is = kept a _ t.is }, first e, numbers_met fs x (a + 1) n kept (omega (arith, le)) (rest e))
    where
      first : {a b : ℤ} {l m : List ℤ} → a ∷ l ≡ b ∷ m → a ≡ b
      first p = cc

      rest : {a b : ℤ} {l m : List ℤ} → a ∷ l ≡ b ∷ m → l ≡ m
      rest p = cc

  outputs_met : (vs : Vars) (fs : List Defined) (xs : List ℕ) (κ : Copies) (β : Builder) → Kept fs cs → length (begun vs xs κ β).built.cells ≤ length fs
      → outputs_in τ (begun vs xs κ β).outputs ≡ wanted_in vs τ fs (begun vs xs κ β).outputs → AllMet τ cs (outputs_reserved (begun vs xs κ β).outputs)
  outputs_met vs fs [] κ β kept le e = tt
  outputs_met vs fs (x ∷ xs) κ β kept le e =
      let κ' : Copies = slice_set κ x (record { copy = 0; values = map ref.Cell (new_cells vs x β) }) in
      let β' : Builder = reserve vs x true β in
      let longer = (begun_grows vs xs κ' β').longer in
      met_both τ cs (reserved_cells x (new_cells vs x β)) (outputs_reserved (begun vs xs κ' β').outputs)
      (numbers_met fs x (length β.cells) (count_of vs x) kept (omega (arith, le, longer, reserve_longer vs x true β)) (first e)) (outputs_met vs fs xs κ' β' kept le (rest e))
    where
      first : {a b : List ℤ} {l m : List (List ℤ)} → a ∷ l ≡ b ∷ m → a ≡ b
      first p = cc

      rest : {a b : List ℤ} {l m : List (List ℤ)} → a ∷ l ≡ b ∷ m → l ≡ m
      rest p = cc

  resolved_parts : (ms ns : List Met) → AllResolved (ms ++ ns) → AllResolved ms × AllResolved ns
  resolved_parts [] ns h = (tt, h)
  resolved_parts (m ∷ ms) ns h = let r = resolved_parts ms ns h.1 in ((h.0, r.0), r.1)

  meetings_resolved : (x : ℕ) (zs us : List ℤ) → length zs ≡ length us → AllResolved (meetings x zs us) → zs ≡ us
  meetings_resolved x [] [] e h = refl
  meetings_resolved x (z ∷ zs) (u ∷ us) e h = ap₂ (λ a l. a ∷ l) h.0 (meetings_resolved x zs us (omega (arith, e)) h.1)
  meetings_resolved x [] (u ∷ us) e h = absurd (omega (arith, e))
  meetings_resolved x (z ∷ zs) [] e h = absurd (omega (arith, e))

  same_length : (n : ℕ) (bs : List Defined) (ks : List ℕ) (ts : List Tree) → HaveTrees n bs ks ts → length (cell_values τ ks) ≡ length (worths_of τ ts)
  same_length n bs [] [] h = refl
  same_length n bs (k ∷ ks) (u ∷ ts) h = ap suc (same_length n bs ks ts h.2)
  same_length n bs [] (u ∷ ts) h = absurd h
  same_length n bs (k ∷ ks) [] h = absurd h

  -- the cells of copies, where those that are active have resolved values and the others what they have where nothing is written
  abbrev RestValues : List Scoped → Type 0
  RestValues [] = Unit {0}
  RestValues (s ∷ ss) = (is_active τ s.active ≡ false → cell_values τ s.cells ≡ worths_of τ s.absent) × RestValues ss

  scopes_met : (n : ℕ) (bs : List Defined) (ss : List Scoped) → ((k : ℕ) (d : Defined) → n ≤ k → slice_get bs k ≡ Some d → slice_get cs k ≡ Some d) → AllRecorded n bs ss → InactiveAreAbsent τ ss
      → RestValues ss → AllResolved (met_by τ ss) → AllMet τ cs (reserved_in ss)
  unfolding met_by
  scopes_met n bs [] kept h g a m = tt
  scopes_met n bs (s ∷ ss) kept h g a m =
      let parts = resolved_parts (met_if (is_active τ s.active) (meetings s.var (cell_values τ s.cells) (worths_of τ s.trees))) (met_by τ ss) m in
      met_both τ cs (reserved_cells s.var s.cells) (reserved_in ss) (lists_met n bs s.var s.cells s.trees kept h.0 (by (is_active τ s.active) refl parts.0)) (scopes_met n bs ss kept h.2 g.1 a.1 parts.1)
    where
      by : (b : Bool) → is_active τ s.active ≡ b → AllResolved (met_if b (meetings s.var (cell_values τ s.cells) (worths_of τ s.trees))) → cell_values τ s.cells ≡ worths_of τ s.trees
      by true e q = meetings_resolved s.var (cell_values τ s.cells) (worths_of τ s.trees) (same_length n bs s.cells s.trees h.0) q
      by false e q = a.0 e ∙ sym (g.0 e)

-- ---- one list of cells behind another

pub kept_longer : (cs ds : List Defined) → Kept cs ds → length cs ≤ length ds
kept_longer cs ds kept = at (length cs) refl
  where
    at : (n : ℕ) → length cs ≡ n → length cs ≤ length ds
    at zero e = omega (arith, e)
    at (suc n) e =
        let c = cell_at cs n (omega (arith, e)) in
        let l : n < length ds = there ds n c.0 (kept n c.0 c.1) in
        omega (arith, e, l)

among_cells : (x : ℕ) (ks : List ℕ) (rs : List Reserved) (k : ℕ) → is_among k ks ≡ true → is_among k (cells_of (reserved_cells x ks ++ rs)) ≡ true
among_cells x [] rs k e = absurd (cc)
among_cells x (j ∷ ks) rs k e = by (k == j) e (among_cells x ks rs k)
  where
    by : (b : Bool) → (b || is_among k ks) ≡ true → (is_among k ks ≡ true → is_among k (cells_of (reserved_cells x ks ++ rs)) ≡ true) → (b || is_among k (cells_of (reserved_cells x ks ++ rs))) ≡ true
    by true q f = refl
    by false q f = f q

among_behind : (rs qs : List Reserved) (k : ℕ) → is_among k (cells_of qs) ≡ true → is_among k (cells_of (rs ++ qs)) ≡ true
among_behind [] qs k e = e
among_behind (r ∷ rs) qs k e = by (k == r.cell) (among_behind rs qs k e)
  where
    by : (b : Bool) → is_among k (cells_of (rs ++ qs)) ≡ true → (b || is_among k (cells_of (rs ++ qs))) ≡ true
    by true f = refl
    by false f = f

among_front : (rs qs : List Reserved) (k : ℕ) → is_among k (cells_of rs) ≡ true → is_among k (cells_of (rs ++ qs)) ≡ true
among_front [] qs k e = absurd (cc)
among_front (r ∷ rs) qs k e = by (k == r.cell) e (among_front rs qs k)
  where
    by : (b : Bool) → (b || is_among k (cells_of rs)) ≡ true → (is_among k (cells_of rs) ≡ true → is_among k (cells_of (rs ++ qs)) ≡ true) → (b || is_among k (cells_of (rs ++ qs))) ≡ true
    by true q f = refl
    by false q f = f q

fit_second : (vs : Vars) (h : ℕ → ℤ) (rs qs : List Reserved) → AllFit vs h (rs ++ qs) → AllFit vs h qs
fit_second vs h [] qs q = q
fit_second vs h (r ∷ rs) qs q = fit_second vs h rs qs q.1

module _ (vs : Vars) (σ : Assignment) (g h : ℕ → ℤ) where
  have_between : (lo hi : ℕ) (ss : List Scoped) → AreBetween lo hi ss → ((k : ℕ) → lo ≤ k → k < hi → g k ≡ h k) → ScopesHaveValues σ h ss → ScopesHaveValues σ g ss
  have_between lo hi [] w e q = tt
  have_between lo hi (s ∷ ss) (a, n, low, eq, more) e q =
      let bound = between_bounds (a + n) hi ss more in (
        subst (λ ks. HaveValues σ g ks s.absent) (sym eq) (same_values vs s.var g g h σ n a s.absent (λ k l m. e k (omega (arith, l, low)) (omega (arith, m, bound))) (subst (λ ks. HaveValues σ h ks s.absent) eq q.0)),
        have_between (a + n) hi ss more (λ k l m. e k (omega (arith, l, low)) m) q.1,
      )

  fit_between : (lo hi : ℕ) (ss : List Scoped) → AreBetween lo hi ss → ((k : ℕ) → lo ≤ k → k < hi → g k ≡ h k) → AllFit vs h (reserved_in ss) → AllFit vs g (reserved_in ss)
  fit_between lo hi [] w e q = tt
  fit_between lo hi (s ∷ ss) (a, n, low, eq, more) e q =
      let bound = between_bounds (a + n) hi ss more in
      let parts = fit_parts (reserved_cells s.var s.cells) (reserved_in ss) q in
      fit_both vs g (reserved_cells s.var s.cells) (reserved_in ss)
      (subst (λ ks. AllFit vs g (reserved_cells s.var ks)) (sym eq) (same_fit vs s.var g g h n a (λ k l m. e k (omega (arith, l, low)) (omega (arith, m, bound))) (subst (λ ks. AllFit vs h (reserved_cells s.var ks)) eq parts.0)))
      (fit_between (a + n) hi ss more (λ k l m. e k (omega (arith, l, low)) m) parts.1)
    where
      fit_parts : (rs qs : List Reserved) → AllFit vs h (rs ++ qs) → AllFit vs h rs × AllFit vs h qs
      fit_parts [] qs q = (tt, q)
      fit_parts (r ∷ rs) qs q = let z = fit_parts rs qs q.1 in ((q.0, z.0), z.1)

-- the cells of outputs are value cells
begun_all : (vs : Vars) (xs : List ℕ) (κ : Copies) (β : Builder) (k : ℕ) → length β.cells ≤ k → k < length (begun vs xs κ β).built.cells → is_among k (cells_of (outputs_reserved (begun vs xs κ β).outputs)) ≡ true
begun_all vs [] κ β k l m = absurd (omega (arith, l, m))
begun_all vs (x ∷ xs) κ β k l m = by (nat_lt k (length β.cells + count_of vs x)) refl (begun_all vs xs (slice_set κ x (record { copy = 0; values = map ref.Cell (new_cells vs x β) })) (reserve vs x true β) k)
  where
    less : nat_lt k (length β.cells + count_of vs x) ≡ true → k < length β.cells + count_of vs x
    less p = grind (arith, nat_tests, p)

    more : nat_lt k (length β.cells + count_of vs x) ≡ false → length β.cells + count_of vs x ≤ k
    more p = grind (arith, nat_tests, p)

    own : (n a : ℕ) (rs : List Reserved) → a ≤ k → k < a + n → is_among k (cells_of (reserved_cells x (numbers_from a n) ++ rs)) ≡ true
    own zero a rs l m = absurd (omega (arith, l, m))
    own (suc n) a rs l m = at (k == a) refl (own n (a + 1) rs)
      where
        apart : (k == a) ≡ false → a + 1 ≤ k
        apart e = grind (arith, nat_tests, e, l)

        at : (b : Bool) → (k == a) ≡ b → (a + 1 ≤ k → k < a + 1 + n → is_among k (cells_of (reserved_cells x (numbers_from (a + 1) n) ++ rs)) ≡ true) → (b || is_among k (cells_of (reserved_cells x (numbers_from (a + 1) n) ++ rs))) ≡ true
        at true e f = refl
        at false e f = f (apart e) (omega (arith, m))

    by : (b : Bool) → nat_lt k (length β.cells + count_of vs x) ≡ b
        → (length (reserve vs x true β).cells ≤ k → k < length (begun vs xs (slice_set κ x (record { copy = 0; values = map ref.Cell (new_cells vs x β) })) (reserve vs x true β)).built.cells → is_among k (cells_of (outputs_reserved (begun vs xs (slice_set κ x (record { copy = 0; values = map ref.Cell (new_cells vs x β) })) (reserve vs x true β)).outputs)) ≡ true)
        → is_among k (cells_of (reserved_cells x (new_cells vs x β) ++ outputs_reserved (begun vs xs (slice_set κ x (record { copy = 0; values = map ref.Cell (new_cells vs x β) })) (reserve vs x true β)).outputs)) ≡ true
    by true p f = own (count_of vs x) (length β.cells) (outputs_reserved (begun vs xs (slice_set κ x (record { copy = 0; values = map ref.Cell (new_cells vs x β) })) (reserve vs x true β)).outputs) l (less p)
    by false p f = let q = more p in among_behind (reserved_cells x (new_cells vs x β)) (outputs_reserved (begun vs xs (slice_set κ x (record { copy = 0; values = map ref.Cell (new_cells vs x β) })) (reserve vs x true β)).outputs) k (f (omega (arith, q, reserve_longer vs x true β)) m)

-- ---- a macro step

module _ (vs : Vars) (t : Term) (s : State) (ins : List (List ℤ)) (σ : Assignment) (order : List ℕ)
    (sound : IsSoundModule vs t) (is : IsOrder (compiled vs t).cells order) (stands : StandsFor vs t σ.registers s) (solved : IsSolved vs t ins σ) where
  abbrev scopes : List Scoped
  scopes = (body_built vs t).scopes

  abbrev many : ℕ
  many = length (compiled vs t).cells

  abbrev low : ℕ
  low = length (beginning vs).built.cells

  abbrev high : ℕ
  high = length (body_built vs t).cells

  high_low : high ≤ many
  high_low =
      let a = ended_longer vs (outputs_of vs) (first_copies vs 0) nothing_built (first_output t) (body_built vs t) in
      let b = kept_longer (finished vs t).built.cells (compiled vs t).cells (compiled_kept vs t) in
      omega (arith, a, b)

  low_high : low ≤ high
  low_high = (body_grows vs t sound σ).longer

  other : ℕ → ℤ
  other k = if nat_lt k many then unwritten vs t sound σ k else σ.cells k

  other_below : (k : ℕ) → k < many → other k ≡ unwritten vs t sound σ k
  unfolding other
  other_below k l = ap (λ b. if b then unwritten vs t sound σ k else σ.cells k) (test l)
    where
      test : k < many → nat_lt k many ≡ true
      test l = grind (arith, nat_tests, l)

  other_above : (k : ℕ) → many ≤ k → other k ≡ σ.cells k
  unfolding other
  other_above k l = ap (λ b. if b then unwritten vs t sound σ k else σ.cells k) (test l)
    where
      test : many ≤ k → nat_lt k many ≡ false
      test l = grind (arith, nat_tests, l)

  -- the value cells of scopes, and of outputs
  scope_values : (k : ℕ) → is_among k (cells_of (reserved_in scopes)) ≡ true → is_value vs t sound σ k ≡ true
  scope_values k e = subst (λ rs. is_among k (cells_of rs) ≡ true) (sym (body_listed vs t)) (among_behind (beginning vs).built.reserved (reserved_in scopes) k e)

  output_values : (k : ℕ) → k < low → is_value vs t sound σ k ≡ true
  output_values k l =
      subst (λ rs. is_among k (cells_of rs) ≡ true) (sym (body_listed vs t)) (among_front (beginning vs).built.reserved (reserved_in scopes) k
      (subst (λ rs. is_among k (cells_of rs) ≡ true) (sym (begun_reserved vs (outputs_of vs) (first_copies vs 0) nothing_built)) (begun_all vs (outputs_of vs) (first_copies vs 0) nothing_built k (omega arith) l)))

  -- the term's stores lie in ranges
  term_lies : TermLies vs s.term
  term_lies = by stands.term
    where
      by : ((σ.registers 0 ≡ pos 1) × (some (marks_of σ.registers) first_label (labels t) ≡ false) × (s.term ≡ t)) ⊎ ((σ.registers 0 ≡ pos 0) × (plain vs s.term ≡ rest_of_body vs t σ.registers)) → TermLies vs s.term
      by (inl h) = subst (TermLies vs) (sym h.2) (sound_lies vs t sound.sound)
      by (inr h) = unplain_term vs s.term (subst (TermLies vs) (sym h.1) (rest_lies vs t σ.registers sound solved.registers.scopes))

  module _ (outs : List (List ℤ)) (next : State) (fs : List Fault) (m : Macro vs s ins outs next fs) where
    abbrev r : Reaction
    r = m.reaction

    abbrev env : Values
    env = environment vs ins outs

    base : ℕ → ℤ
    base = given_at (beginning vs).outputs outs other

    base_behind : (k : ℕ) → low ≤ k → base k ≡ other k
    unfolding base
    base_behind k l = given_out vs other (outputs_of vs) (first_copies vs 0) nothing_built outs k (inr l)

    base_unwritten : (k : ℕ) → low ≤ k → k < high → base k ≡ unwritten vs t sound σ k
    base_unwritten k l h = base_behind k l ∙ other_below k (omega (arith, h, high_low))

    base_fit : AllFit vs base (reserved_in scopes)
    base_fit =
        fit_between vs σ base (unwritten vs t sound σ) low high scopes (scopes_between vs t sound σ) base_unwritten
        (fit_second vs (unwritten vs t sound σ) (beginning vs).built.reserved (reserved_in scopes) (subst (AllFit vs (unwritten vs t sound σ)) (body_listed vs t) (unwritten_fit vs t sound σ solved.registers)))

    base_have : ScopesHaveValues σ base scopes
    base_have = have_between vs σ base (unwritten vs t sound σ) low high scopes (scopes_between vs t sound σ) base_unwritten (unwritten_have vs t sound σ)

    guess : ℕ → ℤ
    guess = fill vs t sound σ base scopes (givens r.met)

    the_fill : Filled vs t sound σ low high scopes base guess (givens r.met)
    unfolding guess
    the_fill = filled vs t sound σ base low (body_built vs t).cells scopes low high base (givens r.met) (scopes_between vs t sound σ) (scopes_recorded vs t sound σ)
        (actives high scopes (body_ordered vs t).there.scopes) high_low scope_values (λ k l. refl) base_fit base_have

    abbrev τ : Assignment
    τ = solved_by vs t sound σ guess

    value_is : (k : ℕ) → is_value vs t sound σ k ≡ true → τ.cells k ≡ guess k
    value_is k e = forward_free σ (all_cells vs t sound σ) (is_value vs t sound σ) guess k e

    acts_lie : ActsLie vs r.acts
    acts_lie = react_acts vs env s.term r m.reacts.walked

    outs_lie : OutputsIn vs (outputs_of vs) outs
    outs_lie = subst (OutputsIn vs (outputs_of vs)) (sym m.resolved) (outputs_resolved vs (outputs_of vs) (first_output t) σ.registers r.acts s.stores stands.stores solved.registers.outputs acts_lie)

    outs_counted : CountsAre vs (outputs_of vs) outs
    outs_counted = subst (CountsAre vs (outputs_of vs)) (sym m.resolved) (counts_are vs (outputs_of vs) (first_output t) σ.registers r.acts s.stores stands.stores)

    guess_outs : outs_by guess (beginning vs).outputs ≡ outs
    unfolding base
    guess_outs = given_own vs other guess (outputs_of vs) (first_copies vs 0) nothing_built outs outs_counted (λ k l h. the_fill.same k h)

    by_cells : (ρ : Assignment) (os : List OutputCopy) → outputs_in ρ os ≡ outs_by ρ.cells os
    by_cells ρ [] = refl
    by_cells ρ (o ∷ os) = ap (λ l. map ρ.cells o.cells ∷ l) (by_cells ρ os)

    outs_are : outputs_in τ (beginning vs).outputs ≡ outs
    unfolding base
    outs_are = by_cells τ (beginning vs).outputs ∙ given_own vs other τ.cells (outputs_of vs) (first_copies vs 0) nothing_built outs outs_counted (λ k l h. value_is k (output_values k h) ∙ the_fill.same k h)

    all_fit : AllFit vs guess (body_built vs t).reserved
    all_fit =
        subst (AllFit vs guess) (sym (body_listed vs t)) (fit_both vs guess (beginning vs).built.reserved (reserved_in scopes)
        (subst (AllFit vs guess) (sym (begun_reserved vs (outputs_of vs) (first_copies vs 0) nothing_built)) (outs_fit vs other guess (outputs_of vs) (first_copies vs 0) nothing_built outs guess_outs outs_lie)) the_fill.fit)

    -- what copies that aren't active have
    have_list : (ks : List ℕ) (us : List Tree) → ((k : ℕ) → is_among k ks ≡ true → is_value vs t sound σ k ≡ true) → HaveValues σ guess ks us → cell_values τ ks ≡ worths_of σ us
    have_list [] [] v h = refl
    have_list (k ∷ ks) (u ∷ us) v h = ap₂ (λ a l. a ∷ l) (value_is k (v k (own k (is_among k ks))) ∙ h.0) (have_list ks us (λ j e. v j (more (j == k) (is_among j ks) e)) h.1)
      where
        own : (k : ℕ) (b : Bool) → ((k == k) || b) ≡ true
        own k b = grind (arith, nat_tests)

        more : (c b : Bool) → b ≡ true → (c || b) ≡ true
        more true b e = refl
        more false b e = e
    have_list [] (u ∷ us) v h = absurd h
    have_list (k ∷ ks) [] v h = absurd h

    rest_values : (ss : List Scoped) → ((k : ℕ) → is_among k (cells_of (reserved_in ss)) ≡ true → is_value vs t sound σ k ≡ true) → AllAbsent vs (At' vs t) ss → RestAbsent vs t sound σ guess ss → RestValues τ (compiled vs t).cells ss
    rest_values [] v a h = tt
    rest_values (c ∷ ss) v a h = (
      λ e. have_list c.cells c.absent (λ k q. v k (among_cells c.var c.cells (reserved_in ss) k q)) (h.0 e)
          ∙ sym (absent_is vs (At' vs t) σ sound.starts (λ x u b. scope_place vs σ.registers x u t (first_scope vs t) solved.registers.scopes b) (computed vs t sound σ guess) c a.0),
      rest_values ss (λ k q. v k (among_behind (reserved_cells c.var c.cells) (reserved_in ss) k q)) a.1 h.1,
    )

    rests : RestValues τ (compiled vs t).cells scopes
    rests = rest_values scopes scope_values (body_absent vs t) the_fill.absent

    either_list : (n : ℕ) (bs : List Defined) (ks : List ℕ) (ts us : List Tree) → HaveTrees n bs ks ts → length us ≡ length ks → cell_values τ ks ≡ worths_of τ us → AreMetOrAbsent τ ks ts us
    either_list n bs [] [] [] h l e = tt
    either_list n bs (k ∷ ks) (u ∷ ts) (w ∷ us) h l e = (inr (first e), either_list n bs ks ts us h.2 (omega (arith, l)) (tail e))
      where
        first : {a b : ℤ} {l m : List ℤ} → a ∷ l ≡ b ∷ m → a ≡ b
        first p = cc

        tail : {a b : ℤ} {l m : List ℤ} → a ∷ l ≡ b ∷ m → l ≡ m
        tail p = cc
    either_list n bs [] [] (w ∷ us) h l e = absurd (omega (arith, l))
    either_list n bs (k ∷ ks) (u ∷ ts) [] h l e = absurd (omega (arith, l))
    either_list n bs [] (u ∷ ts) us h l e = absurd h
    either_list n bs (k ∷ ks) [] us h l e = absurd h

    inactive : (n : ℕ) (bs : List Defined) (ss : List Scoped) → AllRecorded n bs ss → RestValues τ (compiled vs t).cells ss → InactiveAreMet τ ss
    inactive n bs [] h q = tt
    inactive n bs (c ∷ ss) h q = (λ e. either_list n bs c.cells c.trees c.absent h.0 h.1 (q.0 e), inactive n bs ss h.2 q.1)

    free : IsOpen vs t ins τ
    free = opens vs t sound σ ins guess solved.inputs solved.has all_fit (inactive low (body_built vs t).cells scopes (scopes_recorded vs t sound σ) rests)

    walk : Opened vs t sound ins τ free s
    walk = opened vs t sound ins τ free s stands

    -- the walk is the macro step's reaction
    walk_is : walk.reaction ≡ r
    walk_is =
        reaction_filled vs env s.term walk.reaction r [] the_fill.rest (subst (λ zs. React vs (environment vs ins zs) s.term walk.reaction) outs_are walk.reacts) m.reacts.walked
        (given_wanted vs r.met m.reacts.resolved (react_met vs env s.term r term_lies m.reacts.walked))
        (subst (λ l. Fills vs walk.reaction.met l the_fill.rest) (sym (append-nil (givens r.met))) (subst (λ ms. Fills vs ms (givens r.met) the_fill.rest) (sym walk.met) the_fill.fills))

    met_is : r.met ≡ met_by τ scopes
    met_is = ap (λ (q : Reaction). q.met) (sym walk_is) ∙ walk.met

    acts_are : r.acts ≡ acted vs τ (body_built vs t).writes
    acts_are = ap (λ (q : Reaction). q.acts) (sym walk_is) ∙ walk.acts

    outs_wanted : outputs_in τ (beginning vs).outputs ≡ wanted_in vs τ (finished vs t).built.cells (beginning vs).outputs
    outs_wanted = outs_are ∙ m.resolved ∙ ap (λ (l : List Act). map values_of (next_stores vs (outputs_of vs) l s.stores)) acts_are ∙ sym walk.wanted

    all_met : AllMet τ (compiled vs t).cells (body_built vs t).reserved
    all_met =
        let long = ended_longer vs (outputs_of vs) (first_copies vs 0) nothing_built (first_output t) (body_built vs t) in
        subst (AllMet τ (compiled vs t).cells) (sym (body_listed vs t)) (met_both τ (compiled vs t).cells (beginning vs).built.reserved (reserved_in scopes)
        (subst (AllMet τ (compiled vs t).cells) (sym (begun_reserved vs (outputs_of vs) (first_copies vs 0) nothing_built))
        (outputs_met τ (compiled vs t).cells vs (finished vs t).built.cells (outputs_of vs) (first_copies vs 0) nothing_built (compiled_kept vs t) (omega (arith, long, low_high)) outs_wanted))
        (scopes_met τ (compiled vs t).cells low (body_built vs t).cells scopes (body_kept vs t) (scopes_recorded vs t sound σ) walk.settled.0 rests (subst AllResolved met_is m.reacts.resolved)))

    -- all equations hold
    solution : (k : ℕ) (c : Defined) → slice_get (compiled vs t).cells k ≡ Some c → τ.cells k ≡ worth τ c.tree
    solution k c e = by (is_value vs t sound σ k) refl
      where
        by : (b : Bool) → is_value vs t sound σ k ≡ b → τ.cells k ≡ worth τ c.tree
        by true p = met_at τ (compiled vs t).cells (body_built vs t).reserved k c all_met p e
        by false p = computed_meets vs t sound σ guess k c e p

    -- so the cells are those of the solution
    cells_are : (k : ℕ) → τ.cells k ≡ σ.cells k
    unfolding base
    cells_are k = by (nat_lt k many) refl
      where
        less : nat_lt k many ≡ true → k < many
        less p = grind (arith, nat_tests, p)

        more : nat_lt k many ≡ false → many ≤ k
        more p = grind (arith, nat_tests, p)

        step : (j : ℕ) → j < many → ((d : ℕ) → DependsOn (compiled vs t).cells j d → τ.cells d ≡ σ.cells d) → τ.cells j ≡ σ.cells j
        step j l f =
            let c = cell_at (compiled vs t).cells j l in
            solution j c.0 c.1 ∙ sym (worth_agrees σ (computed vs t sound σ guess) c.0.tree (λ d named. sym (f d (c.0, c.1, named)))) ∙ sym (solved.solution j c.0 c.1 refl)

        by : (b : Bool) → nat_lt k many ≡ b → τ.cells k ≡ σ.cells k
        by true p = along_order (compiled vs t).cells order is (λ j. τ.cells j ≡ σ.cells j) step k (less p)
        by false p =
            let le = more p in
            forward_past σ (all_cells vs t sound σ) (is_value vs t sound σ) guess k le ∙ the_fill.above k (omega (arith, le, high_low)) ∙ base_behind k (omega (arith, le, high_low, low_high)) ∙ other_above k le

    same : τ ≡ σ
    same = λ i. record σ { cells = λ k. cells_are k i }

    -- the outputs are those of the solution, and the scopes have its values
    pub only_outs : outs ≡ outputs_in σ (beginning vs).outputs
    only_outs = sym outs_are ∙ ap (λ (ρ : Assignment). outputs_in ρ (beginning vs).outputs) same

    pub only_met : r.met ≡ met_by σ scopes
    only_met = met_is ∙ ap (λ (ρ : Assignment). met_by ρ scopes) same
