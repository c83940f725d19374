-- The body of a module makes bits, and so do its outputs.
use Rattle.std.proofs.Common.{◌≡◌, inl, inr, ℕ, zero, suc, ◌+◌, ◌≤◌, ◌<◌, pos, true, false, List, [], ◌∷◌, ◌++◌, length, map, Some, refl, sym, ap, ◌∙◌, subst, arith}
use Rattle.std.specs.Prelude.{replicate, slice_get, slice_set}
use Rattle.quartz_expr.specs.Vars.{Vars, count_of, declared_at}
use Rattle.quartz_expr.specs.Terms.{Term}
use Rattle.quartz_expr.specs.Steps.{outputs_of}
use Rattle.aif_cells.specs.declared.reference.Ref.TheVariants as ref
use Rattle.aif_cells.specs.Built.{Defined}
use Rattle.aif_cells.specs.Solution.{IsSolution}
use Rattle.aif_cells.specs.Worth.{Assignment, read, worth}
use Rattle.absence_reaction.specs.declared.copy.VarCopy.{VarCopy}
use Rattle.absence_reaction.specs.Closing.{Copy, closed_copy}
use Rattle.absence_reaction.specs.Meaning.{GuardsAreBits}
use Rattle.absence_reaction.proofs.CopyMeaning.{closing_keeps, flags_are_bits}
use Rattle.reincarnation.specs.Entering.{reserved}
use Rattle.statement_cells.specs.Labels.{labels, shape_in}
use Rattle.statement_cells.specs.Expressions.{Copies}
use Rattle.statement_cells.specs.Builder.{Builder, built_of, new_cells, one_ref, reserve, writes_to, zero_ref}
use Rattle.statement_cells.specs.Surface.{depth, surface}
use Rattle.statement_cells.specs.Walk.{IsBuilt, IsCurrent}
use Rattle.statement_cells.specs.Whole.{ClosedOutput, beginning, begun, body_built, closed_output, ended, first_copies, first_label, first_output, first_scope, nothing_built, variable_registers}
use Rattle.statement_cells.specs.Meaning.{IsSoundModule}
use Rattle.statement_cells.proofs.BeginLemmas.{begun_grows}
use Rattle.statement_cells.proofs.EndLemmas.{ended_keeps}
use Rattle.statement_cells.proofs.ScopeGrowLemmas.{reserve_longer}
use Rattle.step_laws.specs.Conditions.{HasConditions}
use Rattle.step_laws.proofs.CloseLemmas.{distinct, guards_to}
use Rattle.step_laws.proofs.ExactCellLemmas.{both_cells, reserved_exact}
use Rattle.step_laws.proofs.MadeLemmas.{At, Bit, BitsIn, Fair, FlagsOf, Step, follow, on, other}
use Rattle.step_laws.proofs.ResumeLemmas.{depths}
use Rattle.step_laws.proofs.StartLemmas.{surfaces}

module _ (vs : Vars) (σ : Assignment) where
  begun_bits : (xs : List ℕ) (κ : Copies) (β : Builder) → BitsIn vs σ β → BitsIn vs σ (begun vs xs κ β).built
  unfolding reserve
  begun_bits [] κ β p = p
  begun_bits (x ∷ xs) κ β p = begun_bits xs _ (reserve vs x true β) (record { cells = both_cells σ β.cells (replicate (count_of vs x) (reserved (declared_at vs x))) p.cells (reserved_exact σ (count_of vs x) (declared_at vs x)); actions = p.actions; writes = tt; entries = p.entries; stays = p.stays; entered = p.entered; depths = p.depths })

  -- ---- the body

  module _ (t : Term) (sound : IsSoundModule vs t) (conditions : HasConditions vs t) (below : (i : ℕ) → i < first_output t → Bit vs σ (ref.Reg i)) where
    begun_built : IsBuilt vs (beginning vs).built
    begun_built = (begun_grows vs (outputs_of vs) (first_copies vs 0) nothing_built).built (record { cells = λ k e. absurd (cc); writes = tt })

    pub body_step : IsCurrent vs σ (beginning vs).copies → Step vs σ (beginning vs).built (body_built vs t)
    body_step current =
        let κ : Copies = (beginning vs).copies in
        let go : At vs σ κ (beginning vs).built (ref.Reg 0) = record { built = begun_built; current = λ h. current; bit = λ h. below 0 (omega arith) } in
        let one : At vs σ κ (beginning vs).built one_ref = other vs σ one_ref (inr refl) go in
        let never : At vs σ κ (beginning vs).built zero_ref = other vs σ zero_ref (inl refl) go in
        let s = surfaces vs σ sound.types t sound.sound conditions first_label (first_scope vs t) go one in
        let d = depths vs σ sound.types (first_output t) below t sound.sound conditions first_label (first_scope vs t) (omega arith) (on vs σ s.step one) (on vs σ s.step one) (on vs σ s.step never) in
        follow vs σ s.step d.step

    pub body_bits : IsCurrent vs σ (beginning vs).copies → Fair vs σ (body_built vs t) → BitsIn vs σ (body_built vs t)
    body_bits current fair = (body_step current).bits fair (begun_bits (outputs_of vs) (first_copies vs 0) nothing_built (record { cells = tt; actions = tt; writes = tt; entries = tt; stays = tt; entered = tt; depths = tt }))

  -- ---- the outputs

  abbrev pub OutputFlags : List ClosedOutput → Type 0
  OutputFlags [] = Unit {0}
  OutputFlags (o ∷ os) = FlagsOf vs σ o.closed × OutputFlags os

  pub output_flags : (xs : List ℕ) (κ : Copies) (β : Builder) (v : ℕ) (inner : Builder) → length (begun vs xs κ β).built.cells ≤ length inner.cells → GuardsAreBits σ inner.writes
      → IsSolution σ (ended vs (begun vs xs κ β).outputs v inner).built.cells → OutputFlags (ended vs (begun vs xs κ β).outputs v inner).outputs
  output_flags [] κ β v inner longer guards sol = tt
  output_flags (x ∷ xs) κ β v inner longer guards sol =
      let κ' : Copies = slice_set κ x (record { copy = 0; values = map ref.Cell (new_cells vs x β) }) in
      let β' : Builder = reserve vs x true β in
      let copy : VarCopy = record {
        var = x;
        copy = 0;
        stored = true;
        first = v;
        values = new_cells vs x β;
        now = writes_to x false inner.writes;
        next = writes_to x true inner.writes;
      } in
      let closed : Copy = closed_copy (shape_in vs x) copy (built_of inner) in
      let one : Builder = (closed_output vs (record { var = x; cells = new_cells vs x β }) v inner).built in
      let bigger : length inner.cells ≤ length one.cells = (closing_keeps (shape_in vs x) copy (built_of inner)).cells.longer in
      let more : length β'.cells ≤ length (begun vs xs κ' β').built.cells = (begun_grows vs xs κ' β').longer in
      let size : length β'.cells ≡ length β.cells + count_of vs x = reserve_longer vs x true β in
      let met : (k : ℕ) (d : Defined) → length inner.cells ≤ k → slice_get one.cells k ≡ Some d → σ.cells k ≡ worth σ d.tree =
      λ k d le is. sol k d (ended_keeps vs xs κ' β' (v + variable_registers vs x) one k d (inr (omega (arith, longer, le))) is) refl in (
        flags_are_bits (shape_in vs x) copy (built_of inner) σ (distinct (length inner.cells) (length β.cells) (count_of vs x) (omega (arith, longer, more, size))) (guards_to σ x true inner.writes guards) met,
        output_flags xs κ' β' (v + variable_registers vs x) one (omega (arith, longer, bigger)) guards sol,
      )
