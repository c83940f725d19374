-- A step in which value cells are free: the term reacts, and value cells have trees that say what is resolved.
use Rattle.std.proofs.Common.{◌≡◌, ◌⊎◌, inl, inr, ℕ, ℤ, pos, true, false, List, [], ◌∷◌, length, map, refl, ap, ◌∙◌, subst, arith}
use Rattle.quartz_expr.specs.Vars.{Vars}
use Rattle.quartz_expr.specs.Terms.{Store, Term}
use Rattle.quartz_expr.specs.Resolve.{values_of}
use Rattle.quartz_expr.specs.React.{React, Reaction}
use Rattle.quartz_expr.specs.Steps.{State, environment, next_stores, outputs_of}
use Rattle.aif_cells.specs.declared.reference.Ref.TheVariants as ref
use Rattle.aif_cells.specs.Built.{Defined}
use Rattle.aif_cells.specs.Solution.{MeetsBut}
use Rattle.aif_cells.specs.Worth.{Assignment, holds}
use Rattle.absence_reaction.specs.Meaning.{is_among}
use Rattle.statement_cells.specs.Labels.{labels}
use Rattle.statement_cells.specs.Builder.{Builder, one_ref, reserve, zero_ref}
use Rattle.statement_cells.specs.Expressions.{Copies, env_of}
use Rattle.statement_cells.specs.Surface.{surface}
use Rattle.statement_cells.specs.Stands.{plain, some}
use Rattle.statement_cells.specs.Walk.{AllInRange, InactiveAreMet, IsBuilt, Settled, acted, met_by, trail}
use Rattle.statement_cells.specs.Whole.{Ended, beginning, begun, body_built, compiled, ended, first_copies, first_label, first_output, first_scope, nothing_built}
use Rattle.statement_cells.specs.Earlier.{value_cells}
use Rattle.statement_cells.specs.Meaning.{AreInputs, HasInputs, IsSoundModule, StandsFor, inputs_of, marks_of, outputs_in, plain_stores, rest_of_body, stores_of}
use Rattle.statement_cells.proofs.BeginLemmas.{Current0, begun_grows, first_current}
use Rattle.statement_cells.proofs.BodyLemmas.{Says, body_settled, first_says, later_says}
use Rattle.statement_cells.proofs.EndLemmas.{OpenEnd, open_all, wanted_in}
use Rattle.statement_cells.proofs.GrowLemmas.{AllRecorded, AreBetween, Grows, then_grows}
use Rattle.statement_cells.proofs.PlainLemmas.{plain_fresh, sound_fresh}
use Rattle.statement_cells.proofs.ScopeEnvLemmas.{ranges_first}
use Rattle.statement_cells.proofs.StepLemmas.{trail_acts, trail_met}
use Rattle.statement_cells.proofs.SurfaceGrowLemmas.{depth_grows, surface_grows}
use Rattle.statement_cells.proofs.UnplainLemmas.{Alike, ReactsAlike, alike_plain, unplain}
use Rattle.statement_cells.proofs.WholeLemmas.{compiled_kept}

-- all cells but value cells meet their equations, value cells lie in their ranges, and those of copies that aren't active
-- meet their equations or have what they have where nothing is written
pub record IsOpen (vs : Vars) (t : Term) (ins : List (List ℤ)) (σ : Assignment) : Type 0 where
  pub inputs : AreInputs vs (inputs_of vs) ins
  pub has : HasInputs σ ins
  pub met : MeetsBut (λ k. is_among k (value_cells vs t)) σ (compiled vs t).cells
  pub ranges : AllInRange vs σ (body_built vs t).reserved
  pub inactive : InactiveAreMet σ (body_built vs t).scopes

-- the body with the outputs closed
abbrev pub finished : Vars → Term → Ended
finished vs t = ended vs (beginning vs).outputs (first_output t) (body_built vs t)

module _ (vs : Vars) (t : Term) (sound : IsSoundModule vs t) where
  pub body_grows : (σ : Assignment) → Grows vs (beginning vs).built (body_built vs t)
  body_grows σ =
      let s = surface vs (beginning vs).copies first_label (first_scope vs t) t (ref.Reg 0) one_ref (beginning vs).built in
      then_grows vs (beginning vs).built s.built (body_built vs t) (surface_grows vs σ t (beginning vs).copies first_label (first_scope vs t) (ref.Reg 0) one_ref (beginning vs).built sound.sound)
      (depth_grows vs σ t (beginning vs).copies first_label (first_scope vs t) one_ref one_ref zero_ref s.built sound.sound)

  pub begun_built : IsBuilt vs (beginning vs).built
  begun_built = (begun_grows vs (outputs_of vs) (first_copies vs 0) nothing_built).built (record { cells = λ k e. absurd (cc); writes = tt })

  none_recorded : (n : ℕ) (cs : List Defined) (x : ℕ) (β : Builder) → AllRecorded n cs (reserve vs x true β).scopes
  unfolding reserve
  none_recorded n cs x β = tt

  begun_recorded : (n : ℕ) (cs : List Defined) (xs : List ℕ) (κ : Copies) (β : Builder) → AllRecorded n cs β.scopes → AllRecorded n cs (begun vs xs κ β).built.scopes
  begun_recorded n cs [] κ β h = h
  begun_recorded n cs (x ∷ xs) κ β h = begun_recorded n cs xs _ (reserve vs x true β) (none_recorded n cs x β)

  -- the recorded trees of scopes are those of the body's cells
  pub scopes_recorded : (σ : Assignment) → AllRecorded (length (beginning vs).built.cells) (body_built vs t).cells (body_built vs t).scopes
  scopes_recorded σ =
      let n : ℕ = length (beginning vs).built.cells in
      (body_grows σ).recorded n (omega arith) (begun_recorded n (beginning vs).built.cells (outputs_of vs) (first_copies vs 0) nothing_built tt)

  none_between : (x : ℕ) (β : Builder) → AreBetween (length (reserve vs x true β).cells) (length (reserve vs x true β).cells) (reserve vs x true β).scopes
  unfolding reserve
  none_between x β = omega arith

  begun_between : (xs : List ℕ) (κ : Copies) (β : Builder) → AreBetween (length β.cells) (length β.cells) β.scopes
      → AreBetween (length (begun vs xs κ β).built.cells) (length (begun vs xs κ β).built.cells) (begun vs xs κ β).built.scopes
  begun_between [] κ β h = h
  begun_between (x ∷ xs) κ β h = begun_between xs _ (reserve vs x true β) (none_between x β)

  -- their value cells stand in order
  pub scopes_between : (σ : Assignment) → AreBetween (length (beginning vs).built.cells) (length (body_built vs t).cells) (body_built vs t).scopes
  scopes_between σ = (body_grows σ).placed (length (beginning vs).built.cells) (begun_between (outputs_of vs) (first_copies vs 0) nothing_built (omega arith))

  module _ (ins : List (List ℤ)) (σ : Assignment) (free : IsOpen vs t ins σ) where
    met_finished : MeetsBut (λ k. is_among k (value_cells vs t)) σ (finished vs t).built.cells
    met_finished k c e b = free.met k c (compiled_kept vs t k c e) b

    open_end : (ss : List Store) → plain_stores vs (outputs_of vs) ss ≡ stores_of vs (outputs_of vs) (first_output t) σ.registers → OpenEnd vs σ (outputs_of vs) (first_copies vs 0) nothing_built (first_output t) (body_built vs t) ss
    open_end ss e =
        let g = body_grows σ in
        open_all vs σ (outputs_of vs) (first_copies vs 0) nothing_built (first_output t) (body_built vs t) ss g.longer (g.built begun_built) g.more g.reserved e met_finished free.ranges free.inactive

    current : Current0 vs σ sound.starts ins
    current =
        let g = body_grows σ in
        first_current vs σ sound.starts ins free.inputs free.has (ranges_first vs σ (beginning vs).built.reserved g.more (subst (AllInRange vs σ) g.reserved free.ranges))

    -- a term reacts with what the cells say, and the trees of outputs' value cells have the values that are resolved
    pub record Opened (s : State) : Type 0 where
      pub term : Term
      pub alike : plain vs s.term ≡ term
      pub said : Reaction
      pub says : React vs (environment vs ins (outputs_in σ (beginning vs).outputs)) term said
      pub reaction : Reaction
      pub reacts : React vs (environment vs ins (outputs_in σ (beginning vs).outputs)) s.term reaction
      pub acts : reaction.acts ≡ acted vs σ (body_built vs t).writes
      pub same_acts : said.acts ≡ acted vs σ (body_built vs t).writes
      pub met : reaction.met ≡ met_by σ (body_built vs t).scopes
      pub same_met : said.met ≡ met_by σ (body_built vs t).scopes
      pub wanted : wanted_in vs σ (finished vs t).built.cells (beginning vs).outputs ≡ map values_of (next_stores vs (outputs_of vs) (acted vs σ (body_built vs t).writes) s.stores)
      pub settled : Settled vs σ (body_built vs t)
      pub rests : (term ≡ t) ⊎ (term ≡ rest_of_body vs t σ.registers)

    opened_by : (s : State) (u : Term) → plain vs s.term ≡ u → (u ≡ t) ⊎ (u ≡ rest_of_body vs t σ.registers) → OpenEnd vs σ (outputs_of vs) (first_copies vs 0) nothing_built (first_output t) (body_built vs t) s.stores
        → Settled vs σ (body_built vs t) → Says vs t (env_of σ (beginning vs).copies) u (trail vs σ (body_built vs t)) → Opened s
    opened_by s u same rests end settled h =
        let env = environment vs ins (outputs_in σ (beginning vs).outputs) in
        let r : React vs env u h.reaction = subst (λ e. React vs e u h.reaction) current.env h.reacts in
        let a : ReactsAlike vs env s.term h.reaction = unplain vs env s.term u h.reaction (subst (Alike vs s.term) same (alike_plain vs s.term)) r in
        record {
          term = u;
          alike = same;
          said = h.reaction;
          says = r;
          reaction = a.reaction;
          reacts = a.reacts;
          acts = a.acts ∙ h.acts ∙ trail_acts vs σ (body_built vs t);
          same_acts = h.acts ∙ trail_acts vs σ (body_built vs t);
          met = a.met ∙ h.met ∙ trail_met vs σ (body_built vs t);
          same_met = h.met ∙ trail_met vs σ (body_built vs t);
          wanted = end.wanted;
          settled = settled;
          rests = rests;
        }

    pub opened : (s : State) → StandsFor vs t σ.registers s → Opened s
    opened s stands = by_term stands.term
      where
        end : OpenEnd vs σ (outputs_of vs) (first_copies vs 0) nothing_built (first_output t) (body_built vs t) s.stores
        end = open_end s.stores stands.stores

        settled : Settled vs σ (body_built vs t)
        settled = body_settled vs t σ sound current.current end.good stands.at_one

        by_term : ((σ.registers 0 ≡ pos 1) × (some (marks_of σ.registers) first_label (labels t) ≡ false) × (s.term ≡ t)) ⊎ ((σ.registers 0 ≡ pos 0) × (plain vs s.term ≡ rest_of_body vs t σ.registers)) → Opened s
        by_term (inl h) = opened_by s t (ap (plain vs) h.2 ∙ plain_fresh vs t (sound_fresh vs t sound.sound)) (inl refl) end settled (first_says vs t σ sound current.current end.good stands.at_one (ap holds h.0) h.1)
        by_term (inr h) = opened_by s (rest_of_body vs t σ.registers) h.1 (inr refl) end settled (later_says vs t σ sound current.current end.good stands.at_one (ap holds h.0))
