-- The trees of value cells have values in ranges, where value cells are free.
use Rattle.std.proofs.Common.{◌≡◌, ◌⊎◌, inl, inr, ℕ, zero, suc, ◌+◌, ◌≤◌, ℤ, Bool, true, false, List, [], ◌∷◌, ◌++◌, length, map, Some, refl, sym, ap, ◌∙◌, subst, arith, append_assoc, append-nil}
use Rattle.std.specs.Prelude.{slice_get, slice_set}
use Rattle.quartz_expr.specs.Vars.{Vars, count_of}
use Rattle.quartz_expr.specs.Intervals.{Lies, range_of}
use Rattle.quartz_expr.specs.Typed.{AllLie}
use Rattle.quartz_expr.specs.Terms.{Term, nothing, pause, write, choose, seq, par, loop, abort, suspend, scope, Terms, none, part}
use Rattle.quartz_expr.specs.React.{Met, meetings}
use Rattle.quartz_expr.specs.Steps.{State, environment, outputs_of}
use Rattle.aif_cells.specs.declared.reference.Ref.TheVariants as ref
use Rattle.aif_cells.specs.Tree.{Tree}
use Rattle.aif_cells.specs.Built.{Defined}
use Rattle.aif_cells.specs.Worth.{Assignment, worth}
use Rattle.reincarnation.specs.Entering.{numbers_from}
use Rattle.statement_cells.specs.Labels.{registers}
use Rattle.statement_cells.specs.Builder.{Builder, Reserved, Scoped, new_cells, one_ref, reserve, reserved_cells, tree_at, zero_ref}
use Rattle.statement_cells.specs.Expressions.{Copies}
use Rattle.statement_cells.specs.Stands.{Registers}
use Rattle.statement_cells.specs.Surface.{surface}
use Rattle.statement_cells.specs.Walk.{InactiveAreAbsent, is_active, met_by, met_if, worths_of, cell_values}
use Rattle.statement_cells.specs.Whole.{OutputCopy, beginning, begun, body_built, compiled, first_copies, first_label, first_output, first_scope, nothing_built}
use Rattle.statement_cells.specs.Meaning.{IsSoundModule, StandsFor, outputs_in, rest_of_body}
use Rattle.statement_cells.proofs.BeginLemmas.{begun_grows}
use Rattle.statement_cells.proofs.EndLemmas.{ended_keeps, ended_longer, wanted_in}
use Rattle.statement_cells.proofs.GrowLemmas.{AllRecorded, HasTree, HaveTrees}
use Rattle.statement_cells.proofs.DepthLemmas.{depth_grown}
use Rattle.statement_cells.proofs.LiesLemmas.{ActsLie, MetLie, TermLies, react_acts, react_met}
use Rattle.statement_cells.proofs.PlacedLemmas.{AbsentAt, AllAbsent, At, AtAll, Listed, reserved_in, surface_placed}
use Rattle.statement_cells.proofs.ScopeGrowLemmas.{has_tree, reserve_longer}
use Rattle.statement_cells.proofs.WholeLemmas.{Kept, compiled_kept}
use Rattle.macro_steps.specs.Ranges.{AllScopesLie, LieIn, RegistersLie, ScopesLie}
use Rattle.macro_steps.proofs.OpenLemmas.{IsOpen, Opened, body_grows, finished, scopes_recorded}
use Rattle.macro_steps.proofs.StoreLemmas.{OutputsIn, absent_lies, outputs_resolved, rest_lies, sound_lies}

-- ---- where registers lie

module _ (vs : Vars) (k : Registers) (x' v' : ℕ) where
  mutual
    -- those of a scope of the statement do
    pub scope_place : (t : Term) (v : ℕ) → ScopesLie vs v t k → At vs v t x' v' → LieIn vs x' v' k
    scope_place nothing v h a = absurd a
    scope_place pause v h a = absurd a
    scope_place (write x i e d p q) v h a = absurd a
    scope_place (choose c s u) v h (inl a) = scope_place s v h.0 a
    scope_place (choose c s u) v h (inr a) = scope_place u (v + registers vs s) h.1 a
    scope_place (seq ts) v h a = scope_place_all ts v h a
    scope_place (par ts) v h a = scope_place_all ts v h a
    scope_place (loop t c) v h a = scope_place t v h a
    scope_place (abort w i t c) v h a = scope_place t v h a
    scope_place (suspend w i t c) v h a = scope_place t v h a
    scope_place (scope x s t) v h (inl a) = subst (λ y. LieIn vs y v' k) (sym a.0) (subst (λ u. LieIn vs x u k) (sym a.1) (h.0 a.2))
    scope_place (scope x s t) v h (inr a) = scope_place t _ h.1 a

    scope_place_all : (ts : Terms) (v : ℕ) → AllScopesLie vs v ts k → AtAll vs v ts x' v' → LieIn vs x' v' k
    scope_place_all none v h a = absurd a
    scope_place_all (part t ts) v h (inl a) = scope_place t v h.0 a
    scope_place_all (part t ts) v h (inr a) = scope_place_all ts (v + registers vs t) h.1 a

-- ---- the copies of scopes

module _ (vs : Vars) (t : Term) where
  abbrev pub At' : ℕ → ℕ → Type 0
  At' = At vs (first_scope vs t) t

  begun_absent : (xs : List ℕ) (κ : Copies) (β : Builder) → AllAbsent vs At' β.scopes → AllAbsent vs At' (begun vs xs κ β).built.scopes
  unfolding reserve
  begun_absent [] κ β h = h
  begun_absent (x ∷ xs) κ β h = begun_absent xs _ (reserve vs x true β) tt

  pub body_absent : AllAbsent vs At' (body_built vs t).scopes
  body_absent =
      let v : ℕ = first_scope vs t in
      let s = surface vs (beginning vs).copies first_label v t (ref.Reg 0) one_ref (beginning vs).built in
      let start = surface_placed vs At' t (beginning vs).copies first_label v (ref.Reg 0) one_ref (beginning vs).built (λ x u h. h) in
      let goes = depth_grown vs At' t (beginning vs).copies first_label v one_ref one_ref zero_ref s.built (λ x u h. h) in
      goes.scopes (start.scopes (begun_absent (outputs_of vs) (first_copies vs 0) nothing_built tt))

  begun_listed : (xs : List ℕ) (κ : Copies) (β : Builder) → Listed β.reserved β → Listed (begun vs xs κ β).built.reserved (begun vs xs κ β).built
  unfolding reserve
  begun_listed [] κ β h = h
  begun_listed (x ∷ xs) κ β h = begun_listed xs _ (reserve vs x true β) (sym (append-nil (β.reserved ++ reserved_cells x (new_cells vs x β))))

  -- value cells are those of outputs, and those of the scopes' copies
  pub body_listed : Listed (beginning vs).built.reserved (body_built vs t)
  body_listed =
      let v : ℕ = first_scope vs t in
      let s = surface vs (beginning vs).copies first_label v t (ref.Reg 0) one_ref (beginning vs).built in
      let start = surface_placed vs At' t (beginning vs).copies first_label v (ref.Reg 0) one_ref (beginning vs).built (λ x u h. h) in
      let goes = depth_grown vs At' t (beginning vs).copies first_label v one_ref one_ref zero_ref s.built (λ x u h. h) in
      let rs : List Reserved = (beginning vs).built.reserved in
      goes.listed rs (start.listed rs (begun_listed (outputs_of vs) (first_copies vs 0) nothing_built refl))

-- ---- value cells and their trees

-- each value cell has a tree whose value lies in the range of its variable
abbrev pub Wanted : Vars → Assignment → List Defined → List Reserved → Type 0
Wanted vs σ cs [] = Unit {0}
Wanted vs σ cs (r ∷ rs) = (t : Tree) × HasTree cs r.cell t × Lies (range_of vs r.var) (worth σ t) × Wanted vs σ cs rs

pub wanted_both : (vs : Vars) (σ : Assignment) (cs : List Defined) (rs qs : List Reserved) → Wanted vs σ cs rs → Wanted vs σ cs qs → Wanted vs σ cs (rs ++ qs)
wanted_both vs σ cs [] qs g h = h
wanted_both vs σ cs (r ∷ rs) qs (t, there, lies, more) h = (t, there, lies, wanted_both vs σ cs rs qs more h)

abbrev pub outputs_reserved : List OutputCopy → List Reserved
outputs_reserved [] = []
outputs_reserved (o ∷ os) = reserved_cells o.var o.cells ++ outputs_reserved os

met_first : (vs : Vars) (ms ns : List Met) → MetLie vs (ms ++ ns) → MetLie vs ms × MetLie vs ns
met_first vs [] ns h = (tt, h)
met_first vs (m ∷ ms) ns h = let r = met_first vs ms ns h.1 in ((h.0, r.0), r.1)

meetings_back : (vs : Vars) (x : ℕ) (zs us : List ℤ) → length zs ≡ length us → MetLie vs (meetings x zs us) → AllLie (range_of vs x) us
meetings_back vs x zs [] e h = tt
meetings_back vs x [] (u ∷ us) e h = absurd (omega (arith, e))
meetings_back vs x (z ∷ zs) (u ∷ us) e h = (h.0, meetings_back vs x zs us (omega (arith, e)) h.1)

module _ (vs : Vars) (σ : Assignment) (cs : List Defined) where
  have_wanted : (n : ℕ) (bs : List Defined) (x : ℕ) (ks : List ℕ) (ts : List Tree) → ((k : ℕ) (d : Defined) → n ≤ k → slice_get bs k ≡ Some d → slice_get cs k ≡ Some d) → HaveTrees n bs ks ts
      → AllLie (range_of vs x) (worths_of σ ts) → Wanted vs σ cs (reserved_cells x ks)
  have_wanted n bs x [] [] kept h g = tt
  have_wanted n bs x (k ∷ ks) (t ∷ ts) kept h g = (t, record { place = h.1.place; is = kept k _ h.0 h.1.is }, g.0, have_wanted n bs x ks ts kept h.2 g.1)
  have_wanted n bs x [] (t ∷ ts) kept h g = absurd h
  have_wanted n bs x (k ∷ ks) [] kept h g = absurd h

  same_length : (n : ℕ) (bs : List Defined) (ks : List ℕ) (ts : List Tree) → HaveTrees n bs ks ts → length (cell_values σ ks) ≡ length (worths_of σ ts)
  same_length n bs [] [] h = refl
  same_length n bs (k ∷ ks) (t ∷ ts) h = ap suc (same_length n bs ks ts h.2)
  same_length n bs [] (t ∷ ts) h = absurd h
  same_length n bs (k ∷ ks) [] h = absurd h

  module _ (P : ℕ → ℕ → Type 0) (absents : (s : Scoped) → AbsentAt vs P s → AllLie (range_of vs s.var) (worths_of σ s.absent)) where
    scopes_wanted : (n : ℕ) (bs : List Defined) (ss : List Scoped) → ((k : ℕ) (d : Defined) → n ≤ k → slice_get bs k ≡ Some d → slice_get cs k ≡ Some d) → AllRecorded n bs ss → InactiveAreAbsent σ ss
        → AllAbsent vs P ss → MetLie vs (met_by σ ss) → Wanted vs σ cs (reserved_in ss)
    unfolding met_by
    scopes_wanted n bs [] kept h g a m = tt
    scopes_wanted n bs (s ∷ ss) kept h g a m =
        let parts = met_first vs (met_if (is_active σ s.active) (meetings s.var (cell_values σ s.cells) (worths_of σ s.trees))) (met_by σ ss) m in
        wanted_both vs σ cs (reserved_cells s.var s.cells) (reserved_in ss) (have_wanted n bs s.var s.cells s.trees kept h.0 (by (is_active σ s.active) refl parts.0)) (scopes_wanted n bs ss kept h.2 g.1 a.1 parts.1)
      where
        by : (b : Bool) → is_active σ s.active ≡ b → MetLie vs (met_if b (meetings s.var (cell_values σ s.cells) (worths_of σ s.trees))) → AllLie (range_of vs s.var) (worths_of σ s.trees)
        by true e q = meetings_back vs s.var (cell_values σ s.cells) (worths_of σ s.trees) (same_length n bs s.cells s.trees h.0) q
        by false e q = subst (AllLie (range_of vs s.var)) (sym (g.0 e)) (absents s a.0)

  numbers_wanted : (fs : List Defined) (x f n : ℕ) → Kept fs cs → f + n ≤ length fs → AllLie (range_of vs x) (worths_of σ (map (tree_at fs) (numbers_from f n))) → Wanted vs σ cs (reserved_cells x (numbers_from f n))
  numbers_wanted fs x f zero kept le h = tt
  numbers_wanted fs x f (suc n) kept le h =
      let t = has_tree fs f (omega (arith, le)) in
      (tree_at fs f, record { place = t.place; is = kept f _ t.is }, h.0, numbers_wanted fs x (f + 1) n kept (omega (arith, le)) h.1)

  outputs_wanted : (fs : List Defined) (xs : List ℕ) (κ : Copies) (β : Builder) → Kept fs cs → length (begun vs xs κ β).built.cells ≤ length fs → OutputsIn vs xs (wanted_in vs σ fs (begun vs xs κ β).outputs)
      → Wanted vs σ cs (outputs_reserved (begun vs xs κ β).outputs)
  outputs_wanted fs [] κ β kept le h = tt
  outputs_wanted fs (x ∷ xs) κ β kept le h =
      let β' : Builder = reserve vs x true β in
      let κ' : Copies = slice_set κ x (record { copy = 0; values = map ref.Cell (new_cells vs x β) }) in
      let longer = (begun_grows vs xs κ' β').longer in
      wanted_both vs σ cs (reserved_cells x (new_cells vs x β)) (outputs_reserved (begun vs xs κ' β').outputs)
      (numbers_wanted fs x (length β.cells) (count_of vs x) kept (omega (arith, le, longer, reserve_longer vs x true β)) h.0) (outputs_wanted fs xs κ' β' kept le h.1)

pub begun_reserved : (vs : Vars) (xs : List ℕ) (κ : Copies) (β : Builder) → (begun vs xs κ β).built.reserved ≡ β.reserved ++ outputs_reserved (begun vs xs κ β).outputs
unfolding reserve
begun_reserved vs [] κ β = sym (append-nil β.reserved)
begun_reserved vs (x ∷ xs) κ β = begun_reserved vs xs _ (reserve vs x true β) ∙ append_assoc β.reserved (reserved_cells x (new_cells vs x β)) (outputs_reserved (begun vs xs _ (reserve vs x true β)).outputs)

-- the cells that the body made stay, but for value cells of outputs
pub body_kept : (vs : Vars) (t : Term) (k : ℕ) (d : Defined) → length (beginning vs).built.cells ≤ k → slice_get (body_built vs t).cells k ≡ Some d → slice_get (compiled vs t).cells k ≡ Some d
body_kept vs t k d le is = compiled_kept vs t k d (ended_keeps vs (outputs_of vs) (first_copies vs 0) nothing_built (first_output t) (body_built vs t) k d (inr le) is)

-- ---- a whole step

module _ (vs : Vars) (t : Term) (sound : IsSoundModule vs t) (ins : List (List ℤ)) (σ : Assignment) (free : IsOpen vs t ins σ) (s : State) (lie : RegistersLie vs t σ.registers) where
  term_lies : (o : Opened vs t sound ins σ free s) → TermLies vs o.term
  term_lies o = by o.rests
    where
      by : (o.term ≡ t) ⊎ (o.term ≡ rest_of_body vs t σ.registers) → TermLies vs o.term
      by (inl e) = subst (TermLies vs) (sym e) (sound_lies vs t sound.sound)
      by (inr e) = subst (TermLies vs) (sym e) (rest_lies vs t σ.registers sound lie.scopes)

  -- the trees of all value cells have values in their ranges
  pub all_wanted : (o : Opened vs t sound ins σ free s) → StandsFor vs t σ.registers s → Wanted vs σ (compiled vs t).cells (body_built vs t).reserved
  all_wanted o stands =
      let env = environment vs ins (outputs_in σ (beginning vs).outputs) in
      let acts : ActsLie vs _ = subst (ActsLie vs) o.same_acts (react_acts vs env o.term o.said o.says) in
      let met : MetLie vs (met_by σ (body_built vs t).scopes) = subst (MetLie vs) o.same_met (react_met vs env o.term o.said (term_lies o) o.says) in
      let outs : OutputsIn vs (outputs_of vs) (wanted_in vs σ (finished vs t).built.cells (beginning vs).outputs) =
      subst (OutputsIn vs (outputs_of vs)) (sym o.wanted) (outputs_resolved vs (outputs_of vs) (first_output t) σ.registers _ s.stores stands.stores lie.outputs acts) in
      let absents = absent_lies vs (At' vs t) σ sound.starts (λ x v a. scope_place vs σ.registers x v t (first_scope vs t) lie.scopes a) in
      subst (Wanted vs σ (compiled vs t).cells) (sym (body_listed vs t))
      (wanted_both vs σ (compiled vs t).cells (beginning vs).built.reserved (reserved_in (body_built vs t).scopes)
      (subst (Wanted vs σ (compiled vs t).cells) (sym (begun_reserved vs (outputs_of vs) (first_copies vs 0) nothing_built))
      (outputs_wanted vs σ (compiled vs t).cells (finished vs t).built.cells (outputs_of vs) (first_copies vs 0) nothing_built (compiled_kept vs t) longer outs))
      (scopes_wanted vs σ (compiled vs t).cells (At' vs t) absents (length (beginning vs).built.cells) (body_built vs t).cells (body_built vs t).scopes (body_kept vs t) (scopes_recorded vs t sound σ) o.settled.0 (body_absent vs t) met))
    where
      longer : length (beginning vs).built.cells ≤ length (finished vs t).built.cells
      longer =
          let more = (body_grows vs t sound σ).longer in
          let last = ended_longer vs (outputs_of vs) (first_copies vs 0) nothing_built (first_output t) (body_built vs t) in
          omega (arith, more, last)
