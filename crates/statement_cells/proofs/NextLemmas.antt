-- The next registers stand for the next state.
use Rattle.std.proofs.Common.{◌≡◌, ◌⊎◌, inl, inr, ℕ, suc, ◌+◌, ◌≤◌, ◌<◌, ◌&&◌, ◌||◌, ℤ, pos, true, false, List, [], ◌∷◌, ◌++◌, length, map, refl, sym, ap, ap₂, ◌∙◌, subst, arith, append-nil, length-append}
use Rattle.std.specs.Prelude.{replicate, slice_get}
use Rattle.quartz_tree.specs.declared.declare.Flow.{Flow}
use Rattle.quartz_tree.specs.declared.declare.Flow.TheVariants.{Input, Output, Inner}
use Rattle.quartz_tree.specs.declared.fault.Fault.{Fault}
use Rattle.quartz_expr.specs.declared.act.Act.{Act}
use Rattle.quartz_expr.specs.Vars.{Vars, count_of}
use Rattle.quartz_expr.specs.Terms.{Term}
use Rattle.quartz_expr.specs.Resolve.{values_of}
use Rattle.quartz_expr.specs.React.{AllResolved}
use Rattle.quartz_expr.specs.Steps.{State, environment, if_output, next_stores, output_conflicts, outputs_from, outputs_of, state_after}
use Rattle.aif_cells.specs.declared.reference.Ref.TheVariants as ref
use Rattle.aif_cells.specs.declared.cells.Register.{Register}
use Rattle.aif_cells.specs.Solution.{IsSolution}
use Rattle.aif_cells.specs.Worth.{Assignment, holds}
use Rattle.reincarnation.specs.Carrying.{Stores}
use Rattle.statement_cells.specs.Labels.{labels, registers, shape_in}
use Rattle.statement_cells.specs.Builder.{Builder, DepthCopy, EnteredCopy, one_ref, reserve, zero_ref}
use Rattle.statement_cells.specs.Expressions.{Copies}
use Rattle.statement_cells.specs.Surface.{surface}
use Rattle.statement_cells.specs.Stands.{Registers, plain, some}
use Rattle.statement_cells.specs.Walk.{Holds, acted, depth_takes, entered_takes, else_takes, marked, next_marks, now, trail}
use Rattle.statement_cells.specs.Whole.{Ended, begun, OutputCopy, closed_output, beginning, body_built, element_registers, ended, first_copies, first_label, first_output, first_registers, first_scope, labels_taken, nothing_built, output_registers, outputs_registers, outputs_taken, register_of, registers_and_cells, repeated, scopes_taken, variable_registers}
use Rattle.statement_cells.specs.Meaning.{IsMacroStep, IsSoundModule, IsStep, SolutionIsMacroStep, StandsFor, marks_of, next_of, next_registers, outputs_in, plain_stores, rest_of_body, stores_of}
use Rattle.statement_cells.proofs.CarryLemmas.{AllLess, outputs_others, outputs_stand}
use Rattle.statement_cells.proofs.EndLemmas.{AllEnd}
use Rattle.statement_cells.proofs.DepthLemmas.{DepthsOf, depth_grown}
use Rattle.statement_cells.proofs.HoldLemmas.{Out}
use Rattle.statement_cells.proofs.PlacedLemmas.{AllAt, At, surface_placed}
use Rattle.statement_cells.proofs.ScopeHoldLemmas.{AllD, Inside, depths_in, inside, map_d, map_e}
use Rattle.statement_cells.proofs.ScopesNextLemmas.{Placing, holds_all, scopes_hold}
use Rattle.statement_cells.proofs.LabelLemmas.{labels_others, labels_read}
use Rattle.statement_cells.proofs.MarkLemmas.{Agree, at_one_agree}
use Rattle.statement_cells.proofs.PlainLemmas.{plain_fresh, sound_fresh}
use Rattle.statement_cells.proofs.ScopeBelowLemmas.{scopes_below}
use Rattle.statement_cells.proofs.ScopeEnvLemmas.{length_map}
use Rattle.statement_cells.proofs.ScopeGrowLemmas.{length_replicate}
use Rattle.statement_cells.proofs.StartLemmas.{labels_start, length_repeated, outputs_start}
use Rattle.statement_cells.proofs.StepLemmas.{Stepped, all_end, first_step, later_step}
use Rattle.statement_cells.proofs.UnplainLemmas.{Alike, ReactsAlike, alike_plain, plains_alike, unplain}
use Rattle.statement_cells.proofs.WholeLemmas.{labels_only, outputs_kept, scopes_kept}

-- ---- outputs are variables

module _ (vs : Vars) (σ : Assignment) where
  less_by : (f : Flow) (n : ℕ) (xs : List ℕ) → n < length vs → AllLess vs σ xs → AllLess vs σ (if_output f n xs)
  less_by Input n xs l h = h
  less_by Output n xs l h = (l, h)
  less_by Inner n xs l h = h

  pub outputs_less : (us : Vars) (n : ℕ) → n + length us ≤ length vs → AllLess vs σ (outputs_from n us)
  outputs_less [] n l = tt
  outputs_less (u ∷ us) n l = less_by u.decl.flow n (outputs_from (n + 1) us) (omega (arith, l)) (outputs_less us (n + 1) (omega (arith, l)))

-- ---- the registers' numbers

pub length_outputs : (vs : Vars) (xs : List ℕ) → length (outputs_registers vs xs) ≡ output_registers vs xs
length_outputs vs [] = refl
length_outputs vs (x ∷ xs) = length-append (repeated (count_of vs x) (element_registers (shape_in vs x))) (outputs_registers vs xs) ∙ ap₂ (λ a b. a + b) (length_repeated (λ r. pos 0) (shape_in vs x) (count_of vs x)) (length_outputs vs xs)

pub count_first : (vs : Vars) (t : Term) → length (first_registers vs t) ≡ 1 + (labels t + (output_registers vs (outputs_of vs) + registers vs t))
count_first vs t =
    ap suc (length-append (replicate (labels t) (register_of (pos 0))) (outputs_registers vs (outputs_of vs) ++ replicate (registers vs t) (register_of (pos 0)))
    ∙ ap₂ (λ a b. a + b) (length_replicate (labels t) (register_of (pos 0)))
    (length-append (outputs_registers vs (outputs_of vs)) (replicate (registers vs t) (register_of (pos 0))) ∙ ap₂ (λ a b. a + b) (length_outputs vs (outputs_of vs)) (length_replicate (registers vs t) (register_of (pos 0)))))
    ∙ one (labels t + (output_registers vs (outputs_of vs) + registers vs t))
  where
    one : (n : ℕ) → suc n ≡ 1 + n
    one n = omega arith

-- closing outputs leaves all but cells and monitors as it is
pub ended_only : (vs : Vars) (os : List OutputCopy) (v : ℕ) (β : Builder) → ((ended vs os v β).built.entries ≡ β.entries) × ((ended vs os v β).built.stays ≡ β.stays) × ((ended vs os v β).built.entered ≡ β.entered) × ((ended vs os v β).built.depths ≡ β.depths)
ended_only vs [] v β = (refl, refl, refl, refl)
ended_only vs (o ∷ os) v β = ended_only vs os (v + variable_registers vs o.var) (closed_output vs o v β).built

pub begun_entered : (vs : Vars) (xs : List ℕ) (κ : Copies) (β : Builder) → ((begun vs xs κ β).built.entered ≡ β.entered) × ((begun vs xs κ β).built.depths ≡ β.depths)
unfolding reserve
begun_entered vs [] κ β = (refl, refl)
begun_entered vs (x ∷ xs) κ β = begun_entered vs xs _ (reserve vs x true β)

trail_takes : (vs : Vars) (σ : Assignment) (β : Builder) → else_takes (trail vs σ β).takes (trail vs σ β).defaults ≡ else_takes (entered_takes vs σ β.entered) (depth_takes vs σ β.depths)
unfolding trail
trail_takes vs σ β = refl

trail_marks : (vs : Vars) (σ : Assignment) (β : Builder) (i : ℕ) → (trail vs σ β).marks i ≡ next_marks σ β i
unfolding trail
trail_marks vs σ β i = refl

module _ (vs : Vars) (t : Term) (s : State) (ins : List (List ℤ)) (σ : Assignment) (sound : IsSoundModule vs t) (stands : StandsFor vs t σ.registers s) (step : IsStep vs t ins σ) where
  abbrev body : Builder
  body = body_built vs t

  abbrev finish : Ended
  finish = ended vs (beginning vs).outputs (first_output t) body

  abbrev labelled : List Register × Builder
  labelled = labels_taken first_label (labels t) (first_registers vs t) finish.built

  abbrev before : Stores
  before = registers_and_cells labelled.0 labelled.1

  abbrev behind : Stores
  behind = outputs_taken vs finish.outputs before

  abbrev final : Stores
  final = scopes_taken vs labelled.1.entered labelled.1.depths (first_scope vs t) t behind

  abbrev k' : Registers
  k' = next_registers σ final.registers

  pub solves_behind : IsSolution σ behind.cells
  solves_behind q d is b = step.solution q d (scopes_kept vs labelled.1.entered labelled.1.depths t (first_scope vs t) behind q d is) b

  solves_labels : IsSolution σ labelled.1.cells
  solves_labels q d is b = solves_behind q d (outputs_kept vs finish.outputs before q d is) b

  pub the_end : AllEnd vs σ (outputs_of vs) (first_copies vs 0) nothing_built (first_output t) body s.stores
  the_end = all_end vs t σ sound ins step s.stores stands.stores

  pub count_registers : length labelled.0 ≡ 1 + (labels t + (output_registers vs (outputs_of vs) + registers vs t))
  count_registers =
      sym (length_map (λ x. x.initial) labelled.0) ∙ ap length (labels_start (labels t) first_label (first_registers vs t) finish.built) ∙ length_map (λ x. x.initial) (first_registers vs t)
      ∙ count_first vs t

  -- what stands before the registers of outputs is as the labels left it
  first_kept : (r : ℕ) → r < first_output t → slice_get final.registers r ≡ slice_get labelled.0 r
  first_kept r l =
      scopes_below vs σ labelled.1.entered labelled.1.depths t (first_scope vs t) behind r (omega (arith, l))
      ∙ outputs_others vs σ (outputs_of vs) (first_output t) _ finish.outputs _ before r the_end.says (inl l)

  -- the start flag is 0 from then on
  flag_next : k' 0 ≡ pos 0
  flag_next = ap (next_of σ) (first_kept 0 (omega arith) ∙ labels_others (labels t) first_label (first_registers vs t) finish.built 0 (inl (omega arith)))

  -- labels are 1 as the cells say
  labels_next : Agree (marks_of k') (trail vs σ body).marks first_label (labels t)
  labels_next i g l =
      ap (λ o. holds (next_of σ o)) (first_kept i (omega (arith, l)))
      ∙ labels_read σ (labels t) first_label (first_registers vs t) finish.built room solves_labels i g l
      ∙ ended_marks ∙ sym (trail_marks vs σ body i)
    where
      room : first_label + labels t ≤ length (first_registers vs t)
      room = let size = count_first vs t in omega (arith, size)

      ended_marks : next_marks σ finish.built i ≡ next_marks σ body i
      ended_marks = let e = ended_only vs (beginning vs).outputs (first_output t) body in ap₂ (λ es ss. marked σ es i || (now σ i && marked σ ss i)) e.0 e.1

  -- the registers of scopes hold what they take
  scopes_next : Holds (else_takes (trail vs σ body).takes (trail vs σ body).defaults) k'
  scopes_next =
      let v : ℕ = first_scope vs t in
      let o = labels_only (labels t) first_label (first_registers vs t) finish.built in
      let e = ended_only vs (beginning vs).outputs (first_output t) body in
      let es : labelled.1.entered ≡ body.entered = o.entered ∙ e.2 in
      let ds : labelled.1.depths ≡ body.depths = o.depths ∙ e.3 in
      let start = surface_placed vs (At vs v t) t (beginning vs).copies first_label v (ref.Reg 0) one_ref (beginning vs).built (λ x' v' h. h) in
      let s = surface vs (beginning vs).copies first_label v t (ref.Reg 0) one_ref (beginning vs).built in
      let goes = depth_grown vs (At vs v t) t (beginning vs).copies first_label v one_ref one_ref zero_ref s.built (λ x' v' h. h) in
      let begun = begun_entered vs (outputs_of vs) (first_copies vs 0) nothing_built in
      let entered : AllAt vs (At vs v t) labelled.1.entered = subst (AllAt vs (At vs v t)) (sym es) (goes.entered (start.entered (subst (AllAt vs (At vs v t)) (sym begun.0) tt))) in
      let grown : labelled.1.depths ≡ goes.more = ds ∙ goes.depths ∙ ap (λ (l : List DepthCopy). l ++ goes.more) (start.depths ∙ begun.1) in
      let place : Placing vs σ labelled.1.entered labelled.1.depths v (registers vs t) (At vs v t) (DepthsOf vs v t) =
      record {
        entered = map_e vs σ (At vs v t) (λ x' v'. At vs v t x' v' ⊎ Out vs σ v (registers vs t) x' v') (λ x' v' h. inl h) labelled.1.entered entered;
        front = [];
        more = goes.more;
        back = [];
        splits = grown ∙ sym (append-nil goes.more);
        front_out = tt;
        back_out = tt;
        of = goes.of;
      } in
      let inner : AllD vs σ (At vs v t) labelled.1.depths = subst (AllD vs σ (At vs v t)) (sym grown) (depths_in vs σ t v goes.more goes.of) in
      let size : length behind.registers ≡ length labelled.0 = sym (length_map (λ x. x.initial) behind.registers) ∙ ap length (outputs_start vs finish.outputs before) ∙ length_map (λ x. x.initial) labelled.0 in
      let all = holds_all vs σ labelled.1.entered labelled.1.depths v (registers vs t) k' (map_e vs σ (At vs v t) (Inside vs σ v (registers vs t)) (inside vs σ t v) labelled.1.entered entered)
      (map_d vs σ (At vs v t) (Inside vs σ v (registers vs t)) (inside vs σ t v) labelled.1.depths inner)
      (scopes_hold vs σ labelled.1.entered labelled.1.depths t v behind sound.sound place (omega (arith, size, count_registers)) step.solution) in
      subst (λ f. Holds f k') (ap₂ (λ (a : List EnteredCopy) (b : List DepthCopy). else_takes (entered_takes vs σ a) (depth_takes vs σ b)) es ds ∙ sym (trail_takes vs σ body)) all

  outputs_next : (ws : List Act) → ws ≡ acted vs σ body.writes → plain_stores vs (outputs_of vs) (next_stores vs (outputs_of vs) ws s.stores) ≡ stores_of vs (outputs_of vs) (first_output t) k'
  outputs_next ws e =
      ap (λ (l : List Act). plain_stores vs (outputs_of vs) (next_stores vs (outputs_of vs) l s.stores)) e
      ∙ outputs_stand vs σ (outputs_of vs) (first_output t) (acted vs σ body.writes) s.stores finish.outputs (outputs_in σ (beginning vs).outputs) before k' the_end.says (outputs_less vs σ vs 0 (omega arith))
      the_end.values (omega (arith, count_registers)) solves_behind
      (λ r g l. ap (next_of σ) (scopes_below vs σ labelled.1.entered labelled.1.depths t (first_scope vs t) behind r l))

  module _ (u : Term) (same : plain vs s.term ≡ u) (w : Stepped vs t σ sound ins step s.stores u) where
    alike : ReactsAlike vs (environment vs ins (outputs_in σ (beginning vs).outputs)) s.term w.reaction
    alike = unplain vs (environment vs ins (outputs_in σ (beginning vs).outputs)) s.term u w.reaction (subst (Alike vs s.term) same (alike_plain vs s.term)) w.reacts.walked

    macro : IsMacroStep vs t s ins σ
    macro = record {
      next = state_after vs s alike.reaction;
      step = record {
        reaction = alike.reaction;
        reacts = record { walked = alike.reacts; resolved = subst AllResolved (sym alike.met) w.reacts.resolved };
        resolved = w.values ∙ ap (λ (l : List Act). map values_of (next_stores vs (outputs_of vs) l s.stores)) (sym alike.acts);
        goes = refl;
        fails = w.faults ∙ ap₂ (λ (fs : List Fault) (l : List Act). fs ++ output_conflicts vs (outputs_of vs) l (outputs_in σ (beginning vs).outputs)) (sym alike.faults) (sym alike.acts);
      };
      stands = record {
        term = inr (flag_next, plains_alike vs alike.reaction.residual w.reaction.residual alike.residual ∙ sym (w.goes k' labels_next scopes_next));
        at_one = at_one_agree t (marks_of k') (trail vs σ body).marks first_label labels_next w.at_one;
        stores = outputs_next alike.reaction.acts (alike.acts ∙ w.acts);
      };
    }

-- where registers stand for a state, a solution is a macro step of it
pub solution_is_macro_step : SolutionIsMacroStep
solution_is_macro_step vs t s ins σ sound stands step = by_term stands.term
  where
    by_term : ((σ.registers 0 ≡ pos 1) × (some (marks_of σ.registers) first_label (labels t) ≡ false) × (s.term ≡ t)) ⊎ ((σ.registers 0 ≡ pos 0) × (plain vs s.term ≡ rest_of_body vs t σ.registers)) → IsMacroStep vs t s ins σ
    by_term (inl h) = macro vs t s ins σ sound stands step t (ap (plain vs) h.2 ∙ plain_fresh vs t (sound_fresh vs t sound.sound)) (first_step vs t σ sound ins step s.stores stands.stores stands.at_one (ap holds h.0) h.1)
    by_term (inr h) = macro vs t s ins σ sound stands step (rest_of_body vs t σ.registers) h.1 (later_step vs t σ sound ins step s.stores stands.stores stands.at_one (ap holds h.0))
