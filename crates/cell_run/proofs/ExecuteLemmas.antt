-- The cells that a module is compiled to execute it.
use Rattle.std.proofs.Common.{◌≡◌, ◌∙◌, ◌+◌, append_assoc, true, if◌then◌else◌, ℕ, zero, suc, ℤ, List, [], ◌∷◌, ◌++◌, length, map, slice_set, refl, sym, ap, ap₂, subst}
use Rattle.std.proofs.lemmas.List.{map-append, length-append, length-replicate, length_push}
use Rattle.quartz_tree.specs.declared.declare.Flow.{Flow}
use Rattle.quartz_tree.specs.declared.declare.Flow.TheVariants.{Input, Output, Inner}
use Rattle.reincarnation.specs.Entering.{numbers_from}
use Rattle.quartz_tree.specs.Kernel.{Kernel}
use Rattle.quartz_expr.specs.Vars.{Vars, count_of}
use Rattle.quartz_expr.specs.Terms.{Term, term_of}
use Rattle.quartz_expr.specs.Typed.{Fits}
use Rattle.quartz_expr.specs.Steps.{State, Macro, if_output, initial, outputs_from, outputs_of}
use Rattle.aif_cells.specs.declared.aif.Aif.{Aif}
use Rattle.aif_cells.specs.declared.reference.Ref.TheVariants as ref
use Rattle.aif_cells.specs.declared.cells.Register.{Register}
use Rattle.aif_cells.specs.Built.{Defined, all_defined}
use Rattle.aif_cells.specs.Order.{IsOrder}
use Rattle.aif_cells.specs.Solution.{IsSolution}
use Rattle.aif_cells.specs.Worth.{Assignment, listed, number_at}
use Rattle.absence_reaction.specs.Meaning.{raised}
use Rattle.statement_cells.specs.Builder.{Builder, new_cells, reserve}
use Rattle.statement_cells.specs.Expressions.{Copies}
use Rattle.statement_cells.specs.Walk.{AllInRange}
use Rattle.statement_cells.specs.Whole.{OutputCopy, beginning, begun, body_built, compiled, first_copies, nothing_built, output_cells}
use Rattle.statement_cells.specs.Meaning.{IsMacroStep, IsSoundModule, StandsFor, initial_registers, next_registers, outputs_in}
use Rattle.statement_cells.proofs.BeginLemmas.{Current0, first_current}
use Rattle.statement_cells.proofs.ScopeEnvLemmas.{ranges_first}
use Rattle.statement_cells.proofs.StartLemmas.{initial_registers_stand}
use Rattle.macro_steps.specs.Laws.{IsSolved}
use Rattle.macro_steps.specs.Ranges.{RegistersLie}
use Rattle.macro_steps.proofs.OpenLemmas.{body_grows}
use Rattle.macro_steps.proofs.AcyclicLemmas.{ordered_is_acyclic}
use Rattle.macro_steps.proofs.SoundLemmas.{initial_lie}
use Rattle.macro_steps.proofs.StatedLemmas.{soundness, values_lie}
use Rattle.causality_check.specs.Order.{HasNoCycle}
use Rattle.trace_io.specs.Inputs.{count_in, input_types, output_types, same_flow, scalars, types_with}
use Rattle.trace_io.specs.Story.{by_input, elements}
use Rattle.cell_run.specs.Machine.{AreOfTypes, CompiledCellsExecute, Executes, IsCompiled, MakesStep, Stands, initials, next_values, shown}
use Rattle.cell_run.proofs.TypedLemmas.{count_behind, elements_of_inputs, inputs_are, outputs_are}

same_functions : (f g : ℕ → ℤ) → ((n : ℕ) → f n ≡ g n) → f ≡ g
same_functions f g h = λ i n. h n i

-- ---- registers

firsts_are : (rs : List Register) (n : ℕ) → number_at (initials rs) n ≡ initial_registers rs n
firsts_are [] n = refl
firsts_are (r ∷ rs) zero = refl
firsts_are (r ∷ rs) (suc n) = firsts_are rs n

nexts_are : (σ : Assignment) (rs : List Register) (n : ℕ) → number_at (next_values σ rs) n ≡ next_registers σ rs n
nexts_are σ [] n = refl
nexts_are σ (r ∷ rs) zero = refl
nexts_are σ (r ∷ rs) (suc n) = nexts_are σ rs n

-- ---- outputs

shown_are : (zs : List ℤ) (σ : Assignment) → σ.cells ≡ number_at zs → (os : List OutputCopy) → shown (output_cells os) zs ≡ elements (outputs_in σ os)
shown_are zs σ e [] = refl
shown_are zs σ e (o ∷ os) =
    map-append (number_at zs) o.cells (output_cells os)
    ∙ ap₂ (λ (f : ℕ → ℤ) (ys : List ℤ). map f o.cells ++ ys) (sym e) (shown_are zs σ e os)

one_for_each : (vs : Vars) (σ : Assignment) (xs : List ℕ) (κ : Copies) (β : Builder) → length (outputs_in σ (begun vs xs κ β).outputs) ≡ length xs
one_for_each vs σ [] κ β = refl
one_for_each vs σ (x ∷ xs) κ β = ap suc (one_for_each vs σ xs _ _)

-- there is a cell for each element of an output
pub numbers_counted : (n k : ℕ) → length (numbers_from n k) ≡ k
numbers_counted n zero = refl
numbers_counted n (suc k) = ap suc (numbers_counted (n + 1) k)

outputs_behind : (vs : Vars) (us q : Vars) (n : ℕ) (κ : Copies) (β : Builder) → vs ≡ q ++ us → n ≡ length q → length (output_cells (begun vs (outputs_from n us) κ β).outputs) ≡ length (types_with Output us)
outputs_behind vs [] q n κ β e a = refl
outputs_behind vs (v ∷ us) q n κ β e a = by_flow v.decl.flow (λ (ι : Copies) (γ : Builder). outputs_behind vs us (q ++ v ∷ []) (n + 1) ι γ (e ∙ sym (append_assoc q (v ∷ []) us)) (ap (λ (m : ℕ). m + 1) a ∙ sym (length_push q v)))
  where
    by_flow : (f : Flow) → ((ι : Copies) (γ : Builder) → length (output_cells (begun vs (outputs_from (n + 1) us) ι γ).outputs) ≡ length (types_with Output us))
        → length (output_cells (begun vs (if_output f n (outputs_from (n + 1) us)) κ β).outputs) ≡ length (if same_flow Output f then scalars v ++ types_with Output us else types_with Output us)
    by_flow Input on = on κ β
    by_flow Inner on = on κ β
    by_flow Output on =
        let counted : count_of vs n ≡ count_in v = ap₂ (λ (ws : Vars) (m : ℕ). count_of ws m) e a ∙ count_behind q v us in
        let ι : Copies = slice_set κ n (record { copy = 0; values = map ref.Cell (new_cells vs n β) }) in
        let γ : Builder = reserve vs n true β in
        length-append (new_cells vs n β) (output_cells (begun vs (outputs_from (n + 1) us) ι γ).outputs)
        ∙ (ap₂ (λ (x y : ℕ). x + y) (numbers_counted (length β.cells) (count_of vs n) ∙ (counted ∙ sym (length-replicate (count_in v) v.decl.ty.base))) (on ι γ)
        ∙ sym (length-append (scalars v) (types_with Output us)))

pub outputs_counted : (vs : Vars) (body : Kernel) (aif : Aif) → IsCompiled vs body aif → length aif.outputs ≡ length (output_types aif.vars)
outputs_counted vs body aif c =
    ap length c.outputs ∙ (outputs_behind vs vs [] 0 (first_copies vs 0) nothing_built refl refl ∙ ap (λ (us : Vars). length (output_types us)) (sym c.vars))

-- ---- the whole

module _ (vs : Vars) (body : Kernel) (aif : Aif) (order : List ℕ) (sound : IsSoundModule vs (term_of body)) (c : IsCompiled vs body aif) (o : IsOrder (all_defined aif.cells) order) where
  abbrev t : Term
  t = term_of body

  ordered : IsOrder (compiled vs t).cells order
  ordered = subst (λ (cs : List Defined). IsOrder cs order) c.cells o

  acyclic : HasNoCycle (compiled vs t).cells
  acyclic = ordered_is_acyclic (compiled vs t).cells order ordered

  stands_for : (k : ℕ → ℤ) (ks : List ℤ) (s : State) → ((n : ℕ) → number_at ks n ≡ k n) → StandsFor vs t k s → RegistersLie vs t k → Stands vs body ks s
  stands_for k ks s e h l =
      let same : k ≡ number_at ks = sym (same_functions (number_at ks) k e) in
      (subst (λ (f : ℕ → ℤ). StandsFor vs t f s) same h, subst (RegistersLie vs t) same l)

  module _ (s : State) (ks zs cells : List ℤ) (stands : Stands vs body ks s) (typed : AreOfTypes (input_types vs) zs) (solution : IsSolution (listed zs ks cells) (all_defined aif.cells)) where
    abbrev σ : Assignment
    σ = listed zs ks cells

    abbrev ins : List (List ℤ)
    ins = by_input vs zs

    solved : IsSolved vs t ins σ
    solved = record {
      inputs = inputs_are vs zs sound.types.types typed;
      has = λ i. ap (λ (ys : List ℤ). number_at ys i) (sym (elements_of_inputs vs zs typed));
      registers = stands.1;
      solution = subst (IsSolution σ) c.cells solution;
    }

    lie : AllInRange vs σ (body_built vs t).reserved
    lie = values_lie vs t s ins σ sound acyclic stands.0 solved

    steps : IsMacroStep vs t s ins σ × RegistersLie vs t (next_registers σ (compiled vs t).registers)
    steps = soundness vs t s ins σ sound acyclic stands.0 solved

    macro : IsMacroStep vs t s ins σ
    macro = steps.0

    current : Current0 vs σ sound.starts ins
    current =
        let g = body_grows vs t sound σ in
        first_current vs σ sound.starts ins solved.inputs solved.has (ranges_first vs σ (beginning vs).built.reserved g.more (subst (AllInRange vs σ) g.reserved lie))

    makes_step : MakesStep vs body aif s ks zs cells
    makes_step = record {
      outs = outputs_in σ (beginning vs).outputs;
      next = macro.next;
      step = subst (λ ms. Macro vs s ins (outputs_in σ (beginning vs).outputs) macro.next (raised σ ms)) (sym c.monitors) macro.step;
      shows = ap (λ (os : List ℕ). shown os cells) c.outputs ∙ shown_are cells σ refl (beginning vs).outputs;
      lie = outputs_are vs 0 ins (outputs_in σ (beginning vs).outputs) sound.types.types (one_for_each vs σ (outputs_of vs) _ _) (subst (Fits vs) current.env current.current.fits);
      stands = subst (λ (rs : List Register). Stands vs body (next_values σ rs) macro.next) (sym c.registers)
          (stands_for (next_registers σ (compiled vs t).registers) (next_values σ (compiled vs t).registers) macro.next (nexts_are σ (compiled vs t).registers) macro.stands
          steps.1);
    }

  pub executes : Executes vs body aif
  executes = record {
    vars = c.vars;
    start = subst (λ (rs : List Register). Stands vs body (initials rs) (initial vs body)) (sym c.registers)
        (stands_for (initial_registers (compiled vs t).registers) (initials (compiled vs t).registers) (initial vs body) (firsts_are (compiled vs t).registers) (initial_registers_stand vs body) (initial_lie vs t sound));
    step = λ s ks zs cells stands typed solution. makes_step s ks zs cells stands typed solution;
  }

pub compiled_cells_execute : CompiledCellsExecute
compiled_cells_execute vs body aif order sound c o = executes vs body aif order sound c o
