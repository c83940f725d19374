-- The story of an accepted text is the one that its cells compute.
use Rattle.std.proofs.Common.{◌≡◌, ◌<◌, ℕ, ◌+◌, ℤ, pos, Bool, true, false, List, [], ◌∷◌, ◌≤◌, length, Option, Some, None, if◌then◌else◌, refl, sym, ap, ap₂, subst, ◌∙◌, arith}
use Rattle.std.specs.Prelude.{◌==◌}
use Rattle.std.proofs.lemmas.Bool.Decides.{nat_tests}
use Rattle.quartz_tree.specs.declared.fault.Fault.{Fault}
use Rattle.quartz_tree.specs.Kernel.{Kernel}
use Rattle.quartz_tree.specs.Least.{least_fault}
use Rattle.quartz_tree.specs.Surfaces.{ModuleTree}
use Rattle.quartz_expr.specs.Steps.{State, Macro, initial}
use Rattle.quartz_expr.specs.Terms.{Term, term_of}
use Rattle.quartz_expr.specs.Typed.{have_sound_types}
use Rattle.quartz_expr.specs.Vars.{Vars}
use Rattle.quartz_names.specs.Resolving.{resolved_body, resolved_vars}
use Rattle.aif_cells.specs.declared.cells.Register.{Register}
use Rattle.aif_cells.specs.Order.{IsOrder}
use Rattle.aif_cells.specs.Worth.{Assignment, number_at}
use Rattle.absence_reaction.specs.Meaning.{raised}
use Rattle.statement_cells.specs.Meaning.{AreInputs, IsMacroStep, IsSoundModule, StandsFor, initial_registers, inputs_of, next_registers, outputs_in}
use Rattle.statement_cells.specs.Stands.{Registers}
use Rattle.statement_cells.specs.Whole.{beginning, compiled}
use Rattle.statement_cells.proofs.EarlierCompiledLemmas.{compiled_names_before}
use Rattle.statement_cells.proofs.ScopeGrowLemmas.{length_replicate}
use Rattle.statement_cells.proofs.StartLemmas.{initial_registers_stand}
use Rattle.macro_steps.specs.Laws.{IsSolved}
use Rattle.macro_steps.specs.Ranges.{RegistersLie}
use Rattle.macro_steps.specs.Runs.{initial_values, next_values, solved}
use Rattle.macro_steps.proofs.AcyclicLemmas.{acyclic_has_order}
use Rattle.macro_steps.proofs.CoherenceLemmas.{complete}
use Rattle.macro_steps.proofs.EvaluateLemmas.{order_solves}
use Rattle.macro_steps.proofs.SoundLemmas.{initial_lie, sound_by}
use Rattle.trace_io.specs.Inputs.{input_types}
use Rattle.trace_io.specs.Lines.{lines}
use Rattle.trace_io.specs.Reading.{steps}
use Rattle.trace_io.specs.Story.{End, done, bad, limit, fault, StoryFrom, by_input, elements, is_bad, is_done, is_fault, is_limit, is_step}
use Rattle.trace_io.specs.Writing.{line_of}
use Rattle.cell_run.proofs.InputLemmas.{AreStepsOf, have_zero, steps_are}
use Rattle.cell_run.proofs.TypedLemmas.{inputs_are}
use Rattle.quartz_build.specs.Broken.{Cells, IsAccepted}
use Rattle.text_laws.specs.Stories.{StoriesAreOne, StoriesExist}
use Rattle.text_laws.proofs.VerdictLemmas.{well_typed_is_sound}
use Rattle.macro_steps.proofs.RunLemmas.{initial_listed, next_listed, none_least}

-- lines, and an end
record Telling : Type 0 where
  written : List (List ℕ)
  end : End

-- the end at a step with a fault, or the line of the step and what follows
abbrev goes_on : (k : ℕ) → (line : List ℕ) → Option Fault → Telling → Telling
goes_on k line (Some f) more = record { written = []; end = fault k f }
goes_on k line None more = record { written = line ∷ more.written; end = more.end }

is_itself : (k n : ℕ) → k ≡ n → (k == n) ≡ true
is_itself k n e = grind (arith, nat_tests, e)

is_other : (k n : ℕ) → k < n → (k == n) ≡ false
is_other k n h = grind (arith, nat_tests, h)

module _ (vs : Vars) (body : Kernel) (sound : IsSoundModule vs (term_of body)) (order : List ℕ) (is : IsOrder (compiled vs (term_of body)).cells order) (greatest : ℕ) where
  abbrev t : Term
  t = term_of body

  abbrev regs : List Register
  regs = (compiled vs t).registers

  abbrev step_of : List ℤ → List ℤ → Assignment
  step_of rs zs = solved (compiled vs t).cells order rs (by_input vs zs)

  abbrev faults_of : List ℤ → List ℤ → List Fault
  faults_of rs zs = raised (step_of rs zs) (compiled vs t).monitors

  abbrev outs_of : List ℤ → List ℤ → List (List ℤ)
  outs_of rs zs = outputs_in (step_of rs zs) (beginning vs).outputs

  -- what the cells tell, from registers on
  abbrev tells : (k : ℕ) → List ℤ → List (Option (List ℤ)) → Telling
  tells k rs [] = record { written = []; end = done }
  tells k rs (None ∷ rest) = record { written = []; end = bad k }
  tells k rs (Some zs ∷ rest) =
      if k == greatest then record { written = []; end = limit }
      else goes_on k (line_of vs (elements (outs_of rs zs))) (least_fault (faults_of rs zs)) (tells (k + 1) (next_values (step_of rs zs) regs) rest)

  -- registers that stand for a state, in their ranges
  record Stood (rs : List ℤ) (s : State) : Type 0 where
    stands : StandsFor vs t (number_at rs) s
    lie : RegistersLie vs t (number_at rs)

  stood_at : (k : Registers) (rs : List ℤ) (s : State) → k ≡ number_at rs → StandsFor vs t k s → RegistersLie vs t k → Stood rs s
  stood_at k rs s e a b = record { stands = subst (λ j. StandsFor vs t j s) e a; lie = subst (RegistersLie vs t) e b }

  is_solved : (rs : List ℤ) (s : State) (zs : List ℤ) → Stood rs s → AreInputs vs (inputs_of vs) (by_input vs zs) → IsSolved vs t (by_input vs zs) (step_of rs zs)
  is_solved rs s zs h inputs = record {
    inputs = inputs;
    has = λ j. refl;
    registers = h.lie;
    solution = order_solves _ rs (compiled vs t).cells order _ is (length_replicate (length (compiled vs t).cells) (pos 0));
  }

  module _ (rs : List ℤ) (s : State) (zs : List ℤ) (h : Stood rs s) (inputs : AreInputs vs (inputs_of vs) (by_input vs zs)) (outs : List (List ℤ)) (u : State) (fs : List Fault) (m : Macro vs s (by_input vs zs) outs u fs) where
    -- a macro step is that of the cells
    only : (outs ≡ outs_of rs zs) × (fs ≡ faults_of rs zs) × StandsFor vs t (next_registers (step_of rs zs) regs) u
    only = complete vs t s (by_input vs zs) (step_of rs zs) order sound is h.stands (is_solved rs s zs h inputs) outs u fs m

    stood_next : Stood (next_values (step_of rs zs) regs) u
    stood_next =
        stood_at (next_registers (step_of rs zs) regs) (next_values (step_of rs zs) regs) u (λ j r. next_listed (step_of rs zs) regs r j) only.2
        (sound_by vs t s (by_input vs zs) (step_of rs zs) order sound is h.stands (is_solved rs s zs h inputs)).1

  types : have_sound_types vs ≡ true
  types = sound.types.types

  abbrev IsTold : (k : ℕ) (rs : List ℤ) (steps : List (Option (List ℤ))) (written : List (List ℕ)) (e : End) → Type 0
  IsTold k rs steps written e = (written ≡ (tells k rs steps).written) × (e ≡ (tells k rs steps).end)

  -- a story is what the cells tell
  story_told : (k : ℕ) (s : State) (steps : List (Option (List ℤ))) (written : List (List ℕ)) (e : End) → StoryFrom vs greatest k s steps written e → (rs : List ℤ) → Stood rs s → AreStepsOf (input_types vs) steps → IsTold k rs steps written e
  story_told _ _ _ _ _ (is_done k s) rs h a = (refl, refl)
  story_told _ _ _ _ _ (is_bad k s rest) rs h a = (refl, refl)
  story_told _ _ _ _ _ (is_limit k s zs rest l) rs h a = by (k == greatest) (is_itself k greatest l)
    where
      more : Telling
      more = goes_on k (line_of vs (elements (outs_of rs zs))) (least_fault (faults_of rs zs)) (tells (k + 1) (next_values (step_of rs zs) regs) rest)

      by : (b : Bool) → b ≡ true → ([] ≡ (if b then record { written = []; end = limit } else more).written) × (limit ≡ (if b then record { written = []; end = limit } else more).end)
      by true e = (refl, refl)
      by false e = absurd (cc)
  story_told _ _ _ _ _ (is_fault k s zs rest outs u fs f l m least) rs h a =
      by (k == greatest) (least_fault (faults_of rs zs)) (is_other k greatest l) (sym (ap least_fault (only rs s zs h (inputs_are vs zs types a.0) outs u fs m).1) ∙ least)
    where
      next : Telling
      next = tells (k + 1) (next_values (step_of rs zs) regs) rest

      by : (b : Bool) (o : Option Fault) → b ≡ false → o ≡ Some f
          → ([] ≡ (if b then record { written = []; end = limit } else goes_on k (line_of vs (elements (outs_of rs zs))) o next).written)
          × (fault k f ≡ (if b then record { written = []; end = limit } else goes_on k (line_of vs (elements (outs_of rs zs))) o next).end)
      by true o e q = absurd (cc)
      by false None e q = absurd (cc)
      by false (Some g) e q = let same : f ≡ g = cc in (refl, ap (fault k) same)
  story_told _ _ _ _ _ (is_step k s zs rest outs u written end l m r) rs h a =
      by (k == greatest) (least_fault (faults_of rs zs)) (is_other k greatest l) (sym (ap least_fault one.1))
      (story_told (k + 1) u rest written end r (next_values (step_of rs zs) regs) (stood_next rs s zs h inputs outs u [] m) a.1)
    where
      inputs : AreInputs vs (inputs_of vs) (by_input vs zs)
      inputs = inputs_are vs zs types a.0

      one : (outs ≡ outs_of rs zs) × ([] ≡ faults_of rs zs) × StandsFor vs t (next_registers (step_of rs zs) regs) u
      one = only rs s zs h inputs outs u [] m

      next : Telling
      next = tells (k + 1) (next_values (step_of rs zs) regs) rest

      by : (b : Bool) (o : Option Fault) → b ≡ false → o ≡ None → (written ≡ next.written) × (end ≡ next.end)
          → (line_of vs (elements outs) ∷ written ≡ (if b then record { written = []; end = limit } else goes_on k (line_of vs (elements (outs_of rs zs))) o next).written)
          × (end ≡ (if b then record { written = []; end = limit } else goes_on k (line_of vs (elements (outs_of rs zs))) o next).end)
      by true o e q i = absurd (cc)
      by false (Some g) e q i = absurd (cc)
      by false None e q i = (ap₂ (λ (os : List (List ℤ)) (ls : List (List ℕ)). line_of vs (elements os) ∷ ls) one.0 i.0, i.1)

  stood_first : Stood (initial_values regs) (initial vs body)
  stood_first = stood_at (initial_registers regs) (initial_values regs) (initial vs body) (λ j r. initial_listed regs r j) (initial_registers_stand vs body) (initial_lie vs t sound)

  whole_told : (trace : List ℕ) (written : List (List ℕ)) (e : End) → StoryFrom vs greatest 0 (initial vs body) (steps vs trace) written e → IsTold 0 (initial_values regs) (steps vs trace) written e
  whole_told trace written e h = story_told 0 (initial vs body) (steps vs trace) written e h (initial_values regs) stood_first (steps_are vs (lines trace) (have_zero vs types))

  -- what the cells tell is a story
  told_is_story : (k : ℕ) (s : State) (rs : List ℤ) (steps : List (Option (List ℤ))) → Stood rs s → AreStepsOf (input_types vs) steps → k ≤ greatest
      → StoryFrom vs greatest k s steps (tells k rs steps).written (tells k rs steps).end
  told_is_story k s rs [] h a le = is_done k s
  told_is_story k s rs (None ∷ rest) h a le = is_bad k s rest
  told_is_story k s rs (Some zs ∷ rest) h a le = by (k == greatest) refl (told_is_story (k + 1) here.0.next (next_values (step_of rs zs) regs) rest after a.1)
    where
      here : IsMacroStep vs t s (by_input vs zs) (step_of rs zs) × RegistersLie vs t (next_registers (step_of rs zs) regs)
      here = sound_by vs t s (by_input vs zs) (step_of rs zs) order sound is h.stands (is_solved rs s zs h (inputs_are vs zs types a.0))

      after : Stood (next_values (step_of rs zs) regs) here.0.next
      after = stood_at (next_registers (step_of rs zs) regs) (next_values (step_of rs zs) regs) here.0.next (λ j r. next_listed (step_of rs zs) regs r j) here.0.stands here.1

      next : Telling
      next = tells (k + 1) (next_values (step_of rs zs) regs) rest

      line : List ℕ
      line = line_of vs (elements (outs_of rs zs))

      goes : (o : Option Fault) → least_fault (faults_of rs zs) ≡ o → k < greatest → StoryFrom vs greatest (k + 1) here.0.next rest next.written next.end
          → StoryFrom vs greatest k s (Some zs ∷ rest) (goes_on k line o next).written (goes_on k line o next).end
      goes (Some f) e lt r = is_fault k s zs rest (outs_of rs zs) here.0.next (faults_of rs zs) f lt here.0.step e
      goes None e lt r =
          is_step k s zs rest (outs_of rs zs) here.0.next next.written next.end lt
          (subst (λ (fs : List Fault). Macro vs s (by_input vs zs) (outs_of rs zs) here.0.next fs) (none_least (faults_of rs zs) e) here.0.step) r

      by : (b : Bool) → (k == greatest) ≡ b → (k + 1 ≤ greatest → StoryFrom vs greatest (k + 1) here.0.next rest next.written next.end)
          → StoryFrom vs greatest k s (Some zs ∷ rest)
          (if b then record { written = []; end = limit } else goes_on k line (least_fault (faults_of rs zs)) next).written
          (if b then record { written = []; end = limit } else goes_on k line (least_fault (faults_of rs zs)) next).end
      by true e r = let same : k ≡ greatest = grind (arith, nat_tests, e) in is_limit k s zs rest same
      by false e r = let less : k < greatest = grind (arith, nat_tests, e, le) in goes (least_fault (faults_of rs zs)) refl less (r (omega (arith, less)))

  whole_exists : (trace : List ℕ) → StoryFrom vs greatest 0 (initial vs body) (steps vs trace) (tells 0 (initial_values regs) (steps vs trace)).written (tells 0 (initial_values regs) (steps vs trace)).end
  whole_exists trace = told_is_story 0 (initial vs body) (initial_values regs) (steps vs trace) stood_first (steps_are vs (lines trace) (have_zero vs types)) (omega arith)

-- the cells of an accepted text have an order
ordered : (text : List ℕ) (m : ModuleTree) → IsAccepted Cells text m → (order : List ℕ) × IsOrder (compiled (resolved_vars m) (term_of (resolved_body m))).cells order
ordered text m accepted =
    let cells = (compiled (resolved_vars m) (term_of (resolved_body m))).cells in
    acyclic_has_order cells (compiled_names_before (resolved_vars m) (term_of (resolved_body m))).named accepted.good.acyclic

pub stories_exist : StoriesExist
stories_exist text m trace greatest accepted =
    let vs : Vars = resolved_vars m in
    let body : Kernel = resolved_body m in
    let sound : IsSoundModule vs (term_of body) = well_typed_is_sound text m accepted.typed in
    let along = ordered text m accepted in
    (_, _, whole_exists vs body sound along.0 along.1 greatest trace)

pub stories_are_one : StoriesAreOne
stories_are_one text m trace greatest written others end other accepted a b =
    let vs : Vars = resolved_vars m in
    let body : Kernel = resolved_body m in
    let sound : IsSoundModule vs (term_of body) = well_typed_is_sound text m accepted.typed in
    let along = ordered text m accepted in
    let one = whole_told vs body sound along.0 along.1 greatest trace written end a in
    let two = whole_told vs body sound along.0 along.1 greatest trace others other b in
    (one.0 ∙ sym two.0, one.1 ∙ sym two.1)
