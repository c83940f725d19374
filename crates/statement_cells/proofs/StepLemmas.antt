-- One step: under the solution of all cells the body reacts, and the outputs have the values that are resolved.
use Rattle.std.proofs.Common.{◌≡◌, inr, ℕ, ℤ, true, false, List, [], ◌∷◌, ◌++◌, length, map, refl, sym, ap, ap₂, ◌∙◌, subst, arith, ◌≤◌}
use Rattle.std.specs.Prelude.{Some, slice_get}
use Rattle.quartz_tree.specs.declared.fault.Fault.{Fault}
use Rattle.quartz_expr.specs.declared.act.Act.{Act}
use Rattle.quartz_expr.specs.Vars.{Vars}
use Rattle.quartz_expr.specs.Terms.{Store, Term}
use Rattle.quartz_expr.specs.Resolve.{values_of}
use Rattle.quartz_expr.specs.React.{AllResolved, React, Reaction, Reacts}
use Rattle.quartz_expr.specs.Steps.{environment, next_stores, output_conflicts, outputs_of}
use Rattle.aif_cells.specs.declared.reference.Ref.TheVariants as ref
use Rattle.aif_cells.specs.Built.{Defined}
use Rattle.aif_cells.specs.Solution.{IsSolution}
use Rattle.aif_cells.specs.Worth.{Assignment, truth, worth}
use Rattle.absence_reaction.specs.Meaning.{raised}
use Rattle.statement_cells.specs.Labels.{labels}
use Rattle.statement_cells.specs.Builder.{Builder, Scoped, one_ref, reserve, zero_ref}
use Rattle.statement_cells.specs.Expressions.{Copies, env_of}
use Rattle.statement_cells.specs.Surface.{surface}
use Rattle.statement_cells.specs.Stands.{AtOne, Registers, plain, some}
use Rattle.statement_cells.specs.Walk.{AllInRange, Holds, InactiveAreMet, IsBuilt, acted, else_takes, met_by, now, trail}
use Rattle.statement_cells.specs.Whole.{Ended, OutputCopy, beginning, begun, body_built, compiled, ended, first_copies, first_label, first_output, first_scope, nothing_built}
use Rattle.statement_cells.specs.Meaning.{IsSoundModule, IsStep, marks_of, outputs_in, plain_stores, rest_of_body, stores_of}
use Rattle.statement_cells.proofs.BeginLemmas.{Current0, begun_grows, first_current}
use Rattle.statement_cells.proofs.BodyLemmas.{Says, first_says, later_says}
use Rattle.statement_cells.proofs.EndLemmas.{AllEnd, AreMet, end_all, ended_keeps, met_resolved, recorded_inactive, recorded_met}
use Rattle.statement_cells.proofs.GrowLemmas.{AllRecorded, Grows, then_grows}
use Rattle.statement_cells.proofs.MarkLemmas.{Agree}
use Rattle.statement_cells.proofs.ScopeEnvLemmas.{ranges_first}
use Rattle.statement_cells.proofs.SurfaceGrowLemmas.{depth_grows, surface_grows}
use Rattle.statement_cells.proofs.WholeLemmas.{compiled_kept, compiled_monitors}

module _ (vs : Vars) where
  reserved_recorded : (n : ℕ) (cs : List Defined) (x : ℕ) (β : Builder) → AllRecorded n cs (reserve vs x true β).scopes
  unfolding reserve
  reserved_recorded n cs x β = tt

  -- no scope is recorded at the beginning
  begun_recorded : (n : ℕ) (cs : List Defined) (xs : List ℕ) (κ : Copies) (β : Builder) → AllRecorded n cs β.scopes → AllRecorded n cs (begun vs xs κ β).built.scopes
  begun_recorded n cs [] κ β h = h
  begun_recorded n cs (x ∷ xs) κ β h = begun_recorded n cs xs _ (reserve vs x true β) (reserved_recorded n cs x β)

pub trail_acts : (vs : Vars) (σ : Assignment) (β : Builder) → (trail vs σ β).acts ≡ acted vs σ β.writes
unfolding trail
trail_acts vs σ β = refl

pub trail_met : (vs : Vars) (σ : Assignment) (β : Builder) → (trail vs σ β).met ≡ met_by σ β.scopes
unfolding trail
trail_met vs σ β = refl

pub trail_faults : (vs : Vars) (σ : Assignment) (β : Builder) → (trail vs σ β).faults ≡ raised σ β.monitors
unfolding trail
trail_faults vs σ β = refl

module _ (vs : Vars) (t : Term) (σ : Assignment) (sound : IsSoundModule vs t) (ins : List (List ℤ)) (step : IsStep vs t ins σ) where
  abbrev outs : List OutputCopy
  outs = (beginning vs).outputs

  abbrev body : Builder
  body = body_built vs t

  abbrev finish : Ended
  finish = ended vs outs (first_output t) body

  body_grows : Grows vs (beginning vs).built body
  body_grows =
      let s = surface vs (beginning vs).copies first_label (first_scope vs t) t (ref.Reg 0) one_ref (beginning vs).built in
      then_grows vs (beginning vs).built s.built body (surface_grows vs σ t (beginning vs).copies first_label (first_scope vs t) (ref.Reg 0) one_ref (beginning vs).built sound.sound)
      (depth_grows vs σ t (beginning vs).copies first_label (first_scope vs t) one_ref one_ref zero_ref s.built sound.sound)

  begun_built : IsBuilt vs (beginning vs).built
  begun_built = (begun_grows vs (outputs_of vs) (first_copies vs 0) nothing_built).built (record { cells = λ k e. absurd (cc); writes = tt })

  solves_end : IsSolution σ finish.built.cells
  solves_end k c is bound = step.solution k c (compiled_kept vs t k c is) refl

  recorded_here : (P : List Scoped → Type 0) → (((k : ℕ) (c : Defined) → length (beginning vs).built.cells ≤ k → slice_get body.cells k ≡ Some c → σ.cells k ≡ worth σ c.tree) → AllRecorded (length (beginning vs).built.cells) body.cells body.scopes → P body.scopes) → P body.scopes
  recorded_here P f =
      let n : ℕ = length (beginning vs).built.cells in
      f (λ k c le is. solves_end k c (ended_keeps vs (outputs_of vs) (first_copies vs 0) nothing_built (first_output t) body k c (inr le) is) refl)
      (body_grows.recorded n (omega arith) (begun_recorded vs n (beginning vs).built.cells (outputs_of vs) (first_copies vs 0) nothing_built tt))

  inactive_met : InactiveAreMet σ body.scopes
  inactive_met = recorded_here (InactiveAreMet σ) (recorded_inactive σ (length (beginning vs).built.cells) body.cells body.scopes)

  -- the value cells of all scopes meet their equations
  pub scopes_met : AreMet σ body.scopes
  scopes_met = recorded_here (AreMet σ) (recorded_met σ (length (beginning vs).built.cells) body.cells body.scopes)

  pub all_end : (ss : List Store) → plain_stores vs (outputs_of vs) ss ≡ stores_of vs (outputs_of vs) (first_output t) σ.registers → AllEnd vs σ (outputs_of vs) (first_copies vs 0) nothing_built (first_output t) body ss
  all_end ss e = end_all vs σ (outputs_of vs) (first_copies vs 0) nothing_built (first_output t) body ss body_grows.longer (body_grows.built begun_built) body_grows.more body_grows.reserved e solves_end step.ranges inactive_met

  current : Current0 vs σ sound.starts ins
  current = first_current vs σ sound.starts ins step.inputs step.has (ranges_first vs σ (beginning vs).built.reserved body_grows.more (subst (AllInRange vs σ) body_grows.reserved step.ranges))

  -- the term reacts as the cells say
  pub record Stepped (ss : List Store) (u : Term) : Type 0 where
    pub reaction : Reaction
    pub reacts : Reacts vs (environment vs ins (outputs_in σ outs)) u reaction
    pub acts : reaction.acts ≡ acted vs σ body.writes
    pub values : outputs_in σ outs ≡ map values_of (next_stores vs (outputs_of vs) reaction.acts ss)
    pub faults : raised σ (compiled vs t).monitors ≡ reaction.faults ++ output_conflicts vs (outputs_of vs) reaction.acts (outputs_in σ outs)
    pub goes : (k : Registers) → Agree (marks_of k) (trail vs σ body).marks first_label (labels t) → Holds (else_takes (trail vs σ body).takes (trail vs σ body).defaults) k → rest_of_body vs t k ≡ plain vs reaction.residual
    pub at_one : AtOne (trail vs σ body).marks first_label t

  stepped : (ss : List Store) (u : Term) → AllEnd vs σ (outputs_of vs) (first_copies vs 0) nothing_built (first_output t) body ss → Says vs t (env_of σ (beginning vs).copies) u (trail vs σ body) → Stepped ss u
  stepped ss u e s =
      let ws : s.reaction.acts ≡ acted vs σ body.writes = s.acts ∙ trail_acts vs σ body in
      let met : s.reaction.met ≡ met_by σ body.scopes = s.met ∙ trail_met vs σ body in
      let resolved : AllResolved (met_by σ body.scopes) = met_resolved σ body.scopes scopes_met in
      let own : s.reaction.faults ≡ raised σ body.monitors = s.faults (subst AllResolved (sym (trail_met vs σ body)) resolved) ∙ trail_faults vs σ body in
      record {
        reaction = s.reaction;
        reacts = record { walked = subst (λ env. React vs env u s.reaction) current.env s.reacts; resolved = subst AllResolved (sym met) resolved };
        acts = ws;
        values = e.values ∙ ap (λ (l : List Act). map values_of (next_stores vs (outputs_of vs) l ss)) (sym ws);
        faults = ap (raised σ) (compiled_monitors vs t) ∙ e.conflicts ∙ ap₂ (λ (fs : List Fault) (l : List Act). fs ++ output_conflicts vs (outputs_of vs) l (outputs_in σ outs)) (sym own) (sym ws);
        goes = s.goes;
        at_one = s.at_one;
      }

  module _ (ss : List Store) (stores : plain_stores vs (outputs_of vs) ss ≡ stores_of vs (outputs_of vs) (first_output t) σ.registers) (one : AtOne (now σ) first_label t) where
    -- in the first step the body reacts
    pub first_step : truth σ (ref.Reg 0) ≡ true → some (now σ) first_label (labels t) ≡ false → Stepped ss t
    first_step e f = let end = all_end ss stores in stepped ss t end (first_says vs t σ sound current.current end.good one e f)

    -- in all others what is left of it does
    pub later_step : truth σ (ref.Reg 0) ≡ false → Stepped ss (rest_of_body vs t σ.registers)
    later_step e = let end = all_end ss stores in stepped ss (rest_of_body vs t σ.registers) end (later_says vs t σ sound current.current end.good one e)
