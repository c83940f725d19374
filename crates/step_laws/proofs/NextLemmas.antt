-- Macro steps keep bits.
use Rattle.std.proofs.Common.{◌≡◌, ◌⊎◌, inl, inr, ℕ, zero, suc, ◌+◌, ◌≤◌, ◌<◌, ℤ, pos, List, [], ◌∷◌, ◌++◌, length, map, Some, refl, sym, ap, ◌∙◌, subst, arith}
use Rattle.std.specs.Prelude.{slice_get}
use Rattle.quartz_expr.specs.Vars.{Vars}
use Rattle.quartz_expr.specs.Terms.{Term, nothing, pause, write, choose, seq, par, loop, abort, suspend, scope, Terms, none, part}
use Rattle.quartz_expr.specs.Steps.{State, outputs_of}
use Rattle.aif_cells.specs.declared.reference.Ref.{Ref}
use Rattle.aif_cells.specs.declared.reference.Ref.TheVariants as ref
use Rattle.aif_cells.specs.declared.cells.Action.{Action}
use Rattle.aif_cells.specs.declared.cells.Register.{Register}
use Rattle.aif_cells.specs.Built.{Defined}
use Rattle.aif_cells.specs.Solution.{IsSolution}
use Rattle.aif_cells.specs.Worth.{Assignment}
use Rattle.absence_reaction.specs.Closing.{flag_of}
use Rattle.absence_reaction.specs.Meaning.{GuardsAreBits, IsBit}
use Rattle.reincarnation.specs.Carrying.{Stores}
use Rattle.statement_cells.specs.Labels.{labels, registers, scope_registers, shape_in}
use Rattle.statement_cells.specs.Builder.{Builder, DepthCopy, one_ref, zero_ref}
use Rattle.statement_cells.specs.Stands.{Registers}
use Rattle.statement_cells.specs.Surface.{surface}
use Rattle.statement_cells.specs.Walk.{AllInRange, IsCurrent}
use Rattle.statement_cells.specs.Whole.{Ended, beginning, body_built, compiled, ended, first_copies, first_label, first_output, first_registers, first_scope, labels_taken, nothing_built, output_registers, outputs_taken, registers_and_cells, scopes_taken}
use Rattle.statement_cells.specs.Meaning.{IsSoundModule, IsStep, StandsFor, next_of, next_registers}
use Rattle.statement_cells.proofs.BeginLemmas.{first_current}
use Rattle.statement_cells.proofs.CarryLemmas.{outputs_others}
use Rattle.statement_cells.proofs.DepthLemmas.{depth_grown}
use Rattle.statement_cells.proofs.EndLemmas.{AllEnd}
use Rattle.statement_cells.proofs.GrowLemmas.{Grows, then_grows}
use Rattle.statement_cells.proofs.LabelLemmas.{labels_others}
use Rattle.statement_cells.proofs.NextLemmas.{begun_entered, count_first, count_registers, ended_only, outputs_less, solves_behind, the_end}
use Rattle.statement_cells.proofs.PlacedLemmas.{At, AtAll, surface_placed}
use Rattle.statement_cells.proofs.ScopeBelowLemmas.{scopes_below}
use Rattle.statement_cells.proofs.ScopeEnvLemmas.{length_map, ranges_first}
use Rattle.statement_cells.proofs.ScopeHoldLemmas.{AllD, depths_in, inside}
use Rattle.statement_cells.proofs.StartLemmas.{outputs_start}
use Rattle.statement_cells.proofs.SurfaceGrowLemmas.{depth_grows, surface_grows}
use Rattle.statement_cells.proofs.WholeLemmas.{compiled_kept, labels_only, outputs_kept}
use Rattle.causality_check.specs.Order.{HasNoCycle}
use Rattle.macro_steps.specs.Laws.{IsSolved}
use Rattle.macro_steps.proofs.AcyclicLemmas.{acyclic_has_order}
use Rattle.macro_steps.proofs.NextRangeLemmas.{zero_first, zero_next}
use Rattle.macro_steps.proofs.RangeLemmas.{solution_lies}
use Rattle.statement_cells.proofs.EarlierCompiledLemmas.{compiled_names_before}
use Rattle.step_laws.specs.Bits.{HasBitFlags, IsScopeAt, IsScopeInAt, RegistersAreBits}
use Rattle.step_laws.specs.Conditions.{HasConditions}
use Rattle.step_laws.specs.Exact.{IsExact, TreesAreExact}
use Rattle.step_laws.specs.Laws.{StepsKeepBits}
use Rattle.step_laws.proofs.ActionLemmas.{compiled_actions}
use Rattle.step_laws.proofs.BodyLemmas.{OutputFlags, body_bits, output_flags}
use Rattle.step_laws.proofs.ExactCellLemmas.{cell_in}
use Rattle.step_laws.proofs.ExactWholeLemmas.{compiled_exact}
use Rattle.step_laws.proofs.FlagLemmas.{outputs_bits, taken_bits}
use Rattle.step_laws.proofs.LabelLemmas.{labels_bits}
use Rattle.step_laws.proofs.MadeLemmas.{Bit, BitsIn, DepthFlags, EnteredFlags, Fair, UndersAreBits}

-- ---- scopes, as the proofs of placing name them

module _ (vs : Vars) where
  mutual
    pub placed : (t : Term) (first x v : ℕ) → IsScopeAt vs first t x v → At vs first t x v
    placed nothing first x v h = absurd h
    placed pause first x v h = absurd h
    placed (write y i e d p q) first x v h = absurd h
    placed (choose c a b) first x v (inl h) = inl (placed a first x v h)
    placed (choose c a b) first x v (inr h) = inr (placed b (first + registers vs a) x v h)
    placed (seq ts) first x v h = placed_in ts first x v h
    placed (par ts) first x v h = placed_in ts first x v h
    placed (loop t c) first x v h = placed t first x v h
    placed (abort w i t c) first x v h = placed t first x v h
    placed (suspend w i t c) first x v h = placed t first x v h
    placed (scope y s t) first x v (inl h) = inl h
    placed (scope y s t) first x v (inr h) = inr (placed t (first + scope_registers vs (labels t) y) x v h)

    placed_in : (ts : Terms) (first x v : ℕ) → IsScopeInAt vs first ts x v → AtAll vs first ts x v
    placed_in none first x v h = absurd h
    placed_in (part t ts) first x v (inl h) = inl (placed t first x v h)
    placed_in (part t ts) first x v (inr h) = inr (placed_in ts (first + registers vs t) x v h)

-- ---- one step

module _ (vs : Vars) (t : Term) (s : State) (ins : List (List ℤ)) (σ : Assignment) (sound : IsSoundModule vs t) (conditions : HasConditions vs t) (stands : StandsFor vs t σ.registers s) (step : IsStep vs t ins σ)
    (bits : RegistersAreBits vs t σ.registers) where
  abbrev body : Builder
  body = body_built vs t

  abbrev finish : Ended
  finish = ended vs (beginning vs).outputs (first_output t) body

  abbrev labelled : List Register × Builder
  labelled = labels_taken first_label (labels t) (first_registers vs t) finish.built

  abbrev before : Stores
  before = registers_and_cells labelled.0 labelled.1

  abbrev behind : Stores
  behind = outputs_taken vs finish.outputs before

  abbrev last : Stores
  last = scopes_taken vs labelled.1.entered labelled.1.depths (first_scope vs t) t behind

  abbrev k' : Registers
  k' = next_registers σ last.registers

  the_says : AllEnd vs σ (outputs_of vs) (first_copies vs 0) nothing_built (first_output t) body s.stores
  the_says = the_end vs t s ins σ sound stands step

  size_before : length labelled.0 ≡ 1 + (labels t + (output_registers vs (outputs_of vs) + registers vs t))
  size_before = count_registers vs t s ins σ sound stands step

  -- the start flag and the labels are bits
  below : (i : ℕ) → i < first_output t → Bit vs σ (ref.Reg i)
  below zero l = bits.start
  below (suc i) l = bits.labels (suc i) (omega arith) l

  body_grows : Grows vs (beginning vs).built body
  body_grows =
      let a = surface vs (beginning vs).copies first_label (first_scope vs t) t (ref.Reg 0) one_ref (beginning vs).built in
      then_grows vs (beginning vs).built a.built body (surface_grows vs σ t (beginning vs).copies first_label (first_scope vs t) (ref.Reg 0) one_ref (beginning vs).built sound.sound)
      (depth_grows vs σ t (beginning vs).copies first_label (first_scope vs t) one_ref one_ref zero_ref a.built sound.sound)

  current : IsCurrent vs σ (beginning vs).copies
  current = (first_current vs σ sound.starts ins step.inputs step.has (ranges_first vs σ (beginning vs).built.reserved body_grows.more (subst (AllInRange vs σ) body_grows.reserved step.ranges))).current

  fair : Fair vs σ body
  fair = record { met = the_says.good.met; ranges = the_says.good.ranges }

  its_bits : BitsIn vs σ body
  its_bits = body_bits vs σ t sound conditions below current fair

  -- ---- guards

  pub guards_bits : GuardsAreBits σ (compiled vs t).actions
  guards_bits = subst (GuardsAreBits σ) (sym (compiled_actions vs t)) its_bits.actions

  -- ---- cells

  pub exact_cells : (q : ℕ) (d : Defined) → slice_get (compiled vs t).cells q ≡ Some d → IsExact σ d.tree
  exact_cells q d e = cell_in σ (compiled vs t).cells (compiled_exact vs σ t its_bits.cells) q d e

  -- ---- the start flag and the labels

  first_kept : (r : ℕ) → r < first_output t → slice_get last.registers r ≡ slice_get labelled.0 r
  first_kept r l =
      scopes_below vs σ labelled.1.entered labelled.1.depths t (first_scope vs t) behind r (omega (arith, l))
      ∙ outputs_others vs σ (outputs_of vs) (first_output t) _ finish.outputs _ before r the_says.says (inl l)

  flag_next : IsBit (k' 0)
  flag_next = subst (λ o. IsBit (next_of σ o)) (sym (first_kept 0 (omega arith) ∙ labels_others (labels t) first_label (first_registers vs t) finish.built 0 (inl (omega arith)))) (inl refl)

  solves_labels : IsSolution σ labelled.1.cells
  solves_labels q d is b = solves_behind vs t s ins σ sound stands step q d (outputs_kept vs finish.outputs before q d is) b

  labels_next : (l : ℕ) → first_label ≤ l → l < first_output t → IsBit (k' l)
  labels_next l g h =
      let e = ended_only vs (beginning vs).outputs (first_output t) body in
      let size = count_first vs t in
      subst (λ o. IsBit (next_of σ o)) (sym (first_kept l h))
      (labels_bits vs σ (labels t) first_label (first_registers vs t) finish.built (omega (arith, size)) (λ i a b. below i (omega (arith, b))) (subst (UndersAreBits vs σ) (sym e.0) its_bits.entries) (subst (UndersAreBits vs σ) (sym e.1) its_bits.stays)
      solves_labels l g (omega (arith, h)))

  -- ---- flags

  solves_finish : IsSolution σ finish.built.cells
  solves_finish q d is b = step.solution q d (compiled_kept vs t q d is) refl

  closed_outputs : OutputFlags vs σ finish.outputs
  closed_outputs = output_flags vs σ (outputs_of vs) (first_copies vs 0) nothing_built (first_output t) body body_grows.longer its_bits.writes solves_finish

  scopes_zero : (r : ℕ) → first_scope vs t ≤ r → next_registers σ behind.registers r ≡ pos 0
  scopes_zero r le =
      ap (next_of σ) (outputs_others vs σ (outputs_of vs) (first_output t) _ finish.outputs _ before r the_says.says (inr (omega (arith, le))) ∙ labels_others (labels t) first_label (first_registers vs t) finish.built r (inr (omega (arith, le))))
      ∙ zero_next σ (first_registers vs t) r (zero_first vs t)

  -- registers of scopes that aren't told anything take 0
  zero_flags : (x v : ℕ) → first_scope vs t ≤ v → HasBitFlags vs x v (next_registers σ behind.registers)
  zero_flags x v le j less d = inl (scopes_zero (flag_of (shape_in vs x) v j) (omega (arith, le)))

  body_depths : AllD vs σ (At vs (first_scope vs t) t) body.depths
  body_depths =
      let v : ℕ = first_scope vs t in
      let a = surface vs (beginning vs).copies first_label v t (ref.Reg 0) one_ref (beginning vs).built in
      let start = surface_placed vs (At vs v t) t (beginning vs).copies first_label v (ref.Reg 0) one_ref (beginning vs).built (λ x u h. h) in
      let goes = depth_grown vs (At vs v t) t (beginning vs).copies first_label v one_ref one_ref zero_ref a.built (λ x u h. h) in
      let none = (begun_entered vs (outputs_of vs) (first_copies vs 0) nothing_built).1 in
      subst (AllD vs σ (At vs v t)) (sym (goes.depths ∙ ap (λ (l : List DepthCopy). l ++ goes.more) (start.depths ∙ none))) (depths_in vs σ t v goes.more goes.of)

  scope_flags : (x v : ℕ) → IsScopeAt vs (first_scope vs t) t x v → HasBitFlags vs x v k'
  scope_flags x v at =
      let o = labels_only (labels t) first_label (first_registers vs t) finish.built in
      let e = ended_only vs (beginning vs).outputs (first_output t) body in
      let es : labelled.1.entered ≡ body.entered = o.entered ∙ e.2 in
      let ds : labelled.1.depths ≡ body.depths = o.depths ∙ e.3 in
      let size : length behind.registers ≡ length labelled.0 = sym (length_map (λ x. x.initial) behind.registers) ∙ ap length (outputs_start vs finish.outputs before) ∙ length_map (λ x. x.initial) labelled.0 in
      taken_bits vs σ x t (first_scope vs t) labelled.1.entered (subst (EnteredFlags vs σ) (sym es) its_bits.entered)
      labelled.1.depths (subst (AllD vs σ (At vs (first_scope vs t) t)) (sym ds) body_depths) (subst (DepthFlags vs σ) (sym ds) its_bits.depths)
      t (first_scope vs t) behind (omega (arith, size, size_before)) step.solution
      (λ a p. zero_flags x a (inside vs σ t (first_scope vs t) x a p).from) v (placed vs t (first_scope vs t) x v at)

  pub next_bits : RegistersAreBits vs t k'
  next_bits = record {
    start = flag_next;
    labels = labels_next;
    outputs = λ x v at.
        outputs_bits vs σ x (outputs_of vs) (first_output t) _ finish.outputs _ before k' the_says.says
        (outputs_less vs σ vs 0 (omega arith)) closed_outputs (omega (arith, size_before)) (solves_behind vs t s ins σ sound stands step)
        (λ r g l. ap (next_of σ) (scopes_below vs σ labelled.1.entered labelled.1.depths t (first_scope vs t) behind r l)) v at;
    scopes = scope_flags;
  }

-- the step of a solution
step_of : (vs : Vars) (t : Term) (s : State) (ins : List (List ℤ)) (σ : Assignment) → IsSoundModule vs t → HasNoCycle (compiled vs t).cells → StandsFor vs t σ.registers s → IsSolved vs t ins σ → IsStep vs t ins σ
step_of vs t s ins σ sound acyclic stands solved =
    let order = acyclic_has_order (compiled vs t).cells (compiled_names_before vs t).named acyclic in
    record { inputs = solved.inputs; has = solved.has; solution = solved.solution; ranges = solution_lies vs t s ins σ order.0 sound order.1 stands solved }

pub steps_keep : StepsKeepBits
steps_keep vs t s ins σ sound conditions acyclic stands solved bits =
    let step : IsStep vs t ins σ = step_of vs t s ins σ sound acyclic stands solved in
    (guards_bits vs t s ins σ sound conditions stands step bits, next_bits vs t s ins σ sound conditions stands step bits)

pub trees_exact : TreesAreExact
trees_exact vs t s ins σ sound conditions acyclic stands solved bits q d e = exact_cells vs t s ins σ sound conditions stands (step_of vs t s ins σ sound acyclic stands solved) bits q d e
