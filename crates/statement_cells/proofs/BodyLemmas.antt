-- The body of a module reacts: it starts in the first step, and goes on from its labels in all others.
use Rattle.std.proofs.Common.{◌≡◌, ℕ, ◌&&◌, Bool, true, false, [], refl, sym, ap, ◌∙◌, subst, List, ◌∷◌}
use Rattle.std.specs.Prelude.{if◌then◌else◌}
use Rattle.quartz_expr.specs.Values.{Values}
use Rattle.quartz_expr.specs.Vars.{Vars}
use Rattle.quartz_expr.specs.Terms.{Term, nothing}
use Rattle.quartz_expr.specs.React.{AllResolved, React, Reaction, ends}
use Rattle.quartz_expr.specs.Steps.{outputs_of}
use Rattle.aif_cells.specs.declared.reference.Ref.TheVariants as ref
use Rattle.aif_cells.specs.Worth.{Assignment, truth}
use Rattle.statement_cells.specs.Labels.{labels}
use Rattle.statement_cells.specs.Builder.{Made, one_ref, zero_ref, Builder, reserve}
use Rattle.statement_cells.specs.Expressions.{Copies, env_of}
use Rattle.statement_cells.specs.Surface.{surface, depth}
use Rattle.statement_cells.specs.Stands.{AtOne, Marks, Registers, at, plain, some}
use Rattle.statement_cells.specs.Walk.{Good, Holds, Idle, IsBuilt, IsCurrent, Live, Runs, Trail, Walked, acted, depth_takes, else_takes, entered_takes, marked, met_by, next_marks, no_marks, no_takes, no_trail, now, plus, trail, Settled}
use Rattle.statement_cells.specs.Whole.{beginning, body_built, first_label, first_scope, nothing_built, begun}
use Rattle.statement_cells.specs.Meaning.{IsSoundModule, marks_of, rest_of_body}
use Rattle.statement_cells.proofs.BeginLemmas.{begun_grows, begun_trail}
use Rattle.statement_cells.proofs.BoolLemmas.{and_false, and_true}
use Rattle.statement_cells.proofs.MarkLemmas.{Agree, at_agree, at_one_free, kept_not, some_agree, some_none}
use Rattle.statement_cells.proofs.OpenWalkLemmas.{all_go_on, all_start}
use Rattle.statement_cells.proofs.ReactLemmas.{leaves}
use Rattle.statement_cells.proofs.SurfaceGrowLemmas.{surface_grows}
use Rattle.statement_cells.proofs.TrailLemmas.{plus_none}

-- the term reacts, and what was added says so
pub record Says (vs : Vars) (t : Term) (env : Values) (u : Term) (o : Trail) : Type 0 where
  pub reaction : Reaction
  pub reacts : React vs env u reaction
  pub acts : reaction.acts ≡ o.acts
  pub met : reaction.met ≡ o.met
  pub faults : AllResolved o.met → reaction.faults ≡ o.faults
  pub goes : (k : Registers) → Agree (marks_of k) o.marks first_label (labels t) → Holds (else_takes o.takes o.defaults) k → rest_of_body vs t k ≡ plain vs reaction.residual
  pub at_one : AtOne o.marks first_label t

-- what doesn't react without a label that is 1 adds nothing
idle_nothing : (vs : Vars) (m : Marks) (now : Registers) (l v : ℕ) (s : Term) (ended : Bool) (o : Trail) → Idle vs m now l v s false ended o → some m l (labels s) ≡ false → o ≡ no_trail
idle_nothing vs m now l v s ended o h e = λ i. record {
  acts = h.acts i;
  faults = h.faults i;
  met = h.met i;
  marks = (h.marks ∙ kept_not m l (labels s)) i;
  takes = h.takes i;
  defaults = h.bounded.rests e i;
}

none_said : (vs : Vars) (σ : Assignment) → trail vs σ nothing_built ≡ no_trail
unfolding trail acted met_by marked entered_takes depth_takes
none_said vs σ = λ i. record { acts = []; faults = []; met = []; marks = λ l. none_marked l i; takes = no_takes; defaults = no_takes }
  where
    none_marked : (l : ℕ) → next_marks σ nothing_built l ≡ false
    none_marked l = and_false (now σ l)

module _ (vs : Vars) (t : Term) where
  rest_if : (k : Registers) (b : Bool) → some (marks_of k) first_label (labels t) ≡ b → rest_of_body vs t k ≡ (if b then at vs (marks_of k) k first_label (first_scope vs t) t else nothing)
  rest_if k b e = ap (λ c. if c then at vs (marks_of k) k first_label (first_scope vs t) t else nothing) e

  -- a term that is alive reacts
  live_says : (env : Values) (u : Term) (m : Marks) (stay ended : Bool) (o : Trail) → Live vs env u m first_label (first_scope vs t) t true stay ended o → Says vs t env u o
  live_says env u m stay true o h =
      let stopped = h.stops refl refl in
      let none : some o.marks first_label (labels t) ≡ false = ap (λ n. some n first_label (labels t)) stopped.0 ∙ some_none first_label (labels t) in
      record {
        reaction = h.reaction;
        reacts = h.reacts;
        acts = h.acts;
        met = h.met;
        faults = h.faults;
        goes = λ k agree holds. rest_if k false (some_agree (marks_of k) o.marks first_label (labels t) agree ∙ none) ∙ ap (plain vs) (sym (leaves vs env u h.reaction h.reacts h.ends));
        at_one = at_one_free t o.marks first_label none;
      }
  live_says env u m stay false o h =
      let went = h.goes refl refl in
      record {
        reaction = h.reaction;
        reacts = h.reacts;
        acts = h.acts;
        met = h.met;
        faults = h.faults;
        goes = λ k agree holds. rest_if k true (some_agree (marks_of k) o.marks first_label (labels t) agree ∙ went.0) ∙ at_agree vs k t (marks_of k) o.marks first_label (first_scope vs t) agree ∙ went.2 k holds;
        at_one = went.1;
      }

  -- Nothing reacts without a label that is 1
  nothing_says : (env : Values) → Says vs t env nothing no_trail
  nothing_says env = record {
    reaction = ends [] [] nothing;
    reacts = React.of_nothing env;
    acts = refl;
    met = refl;
    faults = λ h. refl;
    goes = λ k agree holds. rest_if k false (some_agree (marks_of k) no_marks first_label (labels t) agree ∙ some_none first_label (labels t));
    at_one = at_one_free t no_marks first_label (some_none first_label (labels t));
  }

  module _ (σ : Assignment) (sound : IsSoundModule vs t) (current : IsCurrent vs σ (beginning vs).copies) (good : Good vs σ (body_built vs t)) (one : AtOne (now σ) first_label t) where
    abbrev κ : Copies
    κ = (beginning vs).copies

    abbrev started : Made
    started = surface vs κ first_label (first_scope vs t) t (ref.Reg 0) one_ref (beginning vs).built

    abbrev resumed : Made
    resumed = depth vs κ first_label (first_scope vs t) t one_ref one_ref zero_ref started.built

    begun_built : IsBuilt vs (beginning vs).built
    begun_built = (begun_grows vs (outputs_of vs) _ nothing_built).built (record { cells = λ k e. absurd (cc); writes = tt })

    depth_walk : Walked vs σ κ (at vs (now σ) σ.registers first_label (first_scope vs t) t) (now σ) first_label (first_scope vs t) t (some (now σ) first_label (labels t) && true) true false started.built (depth vs κ first_label (first_scope vs t) t one_ref one_ref zero_ref started.built)
    depth_walk =
        let grows = surface_grows vs σ t κ first_label (first_scope vs t) (ref.Reg 0) one_ref (beginning vs).built sound.sound in
        all_go_on vs σ κ first_label (first_scope vs t) t one_ref one_ref zero_ref started.built sound.types current sound.sound (grows.built begun_built) one refl good

    surface_walk : Walked vs σ κ t no_marks first_label (first_scope vs t) t (truth σ (ref.Reg 0)) true false (beginning vs).built started
    surface_walk = all_start vs σ κ first_label (first_scope vs t) t (ref.Reg 0) one_ref (beginning vs).built sound.types current sound.sound begun_built depth_walk.good

    adds : trail vs σ (body_built vs t) ≡ plus surface_walk.added depth_walk.added
    adds = depth_walk.adds ∙ ap (λ (o : Trail). plus o depth_walk.added) (surface_walk.adds ∙ ap (λ (o : Trail). plus o surface_walk.added) (begun_trail vs σ (outputs_of vs) _ nothing_built (none_said vs σ)))

    begun_settled : (xs : List ℕ) (κ : Copies) (β : Builder) → Settled vs σ β → Settled vs σ (begun vs xs κ β).built
    unfolding reserve
    begun_settled [] κ β q = q
    begun_settled (x ∷ xs) κ β q = begun_settled xs _ (reserve vs x true β) (tt, q.1, q.2)

    -- all closed copies are settled
    pub body_settled : Settled vs σ (body_built vs t)
    body_settled = depth_walk.settled (surface_walk.settled (begun_settled (outputs_of vs) _ nothing_built (tt, tt, tt)))

    -- in the first step the body reacts
    pub first_says : truth σ (ref.Reg 0) ≡ true → some (now σ) first_label (labels t) ≡ false → Says vs t (env_of σ κ) t (trail vs σ (body_built vs t))
    first_says e f =
        let idle : depth_walk.added ≡ no_trail = idle_nothing vs (now σ) σ.registers first_label (first_scope vs t) t (truth σ resumed.ref) depth_walk.added (subst (λ b. Runs vs (env_of σ κ) (at vs (now σ) σ.registers first_label (first_scope vs t) t) (now σ) σ.registers first_label (first_scope vs t) t b true false (truth σ resumed.ref) depth_walk.added) (and_true (some (now σ) first_label (labels t)) ∙ f) depth_walk.runs) f in
        subst (Says vs t (env_of σ κ) t) (sym (adds ∙ ap (plus surface_walk.added) idle ∙ plus_none surface_walk.added))
        (live_says (env_of σ κ) t no_marks false (truth σ started.ref) surface_walk.added (subst (λ b. Runs vs (env_of σ κ) t no_marks σ.registers first_label (first_scope vs t) t b true false (truth σ started.ref) surface_walk.added) e surface_walk.runs))

    -- in all others what is left of it does
    pub later_says : truth σ (ref.Reg 0) ≡ false → Says vs t (env_of σ κ) (rest_of_body vs t σ.registers) (trail vs σ (body_built vs t))
    later_says e =
        let idle : surface_walk.added ≡ no_trail = idle_nothing vs no_marks σ.registers first_label (first_scope vs t) t (truth σ started.ref) surface_walk.added (subst (λ b. Runs vs (env_of σ κ) t no_marks σ.registers first_label (first_scope vs t) t b true false (truth σ started.ref) surface_walk.added) e surface_walk.runs) (some_none first_label (labels t)) in
        subst (Says vs t (env_of σ κ) (rest_of_body vs t σ.registers)) (sym (adds ∙ ap (λ (o : Trail). plus o depth_walk.added) idle)) (by_labels (some (now σ) first_label (labels t)) refl)
      where
        by_labels : (b : Bool) → some (now σ) first_label (labels t) ≡ b → Says vs t (env_of σ κ) (rest_of_body vs t σ.registers) depth_walk.added
        by_labels true f = subst (λ u. Says vs t (env_of σ κ) u depth_walk.added) (sym (rest_if σ.registers true f))
            (live_says (env_of σ κ) (at vs (now σ) σ.registers first_label (first_scope vs t) t) (now σ) false (truth σ resumed.ref) depth_walk.added
            (subst (λ b. Runs vs (env_of σ κ) (at vs (now σ) σ.registers first_label (first_scope vs t) t) (now σ) σ.registers first_label (first_scope vs t) t b true false (truth σ resumed.ref) depth_walk.added) (and_true (some (now σ) first_label (labels t)) ∙ f) depth_walk.runs))
        by_labels false f =
            let idle : depth_walk.added ≡ no_trail = idle_nothing vs (now σ) σ.registers first_label (first_scope vs t) t (truth σ resumed.ref) depth_walk.added (subst (λ b. Runs vs (env_of σ κ) (at vs (now σ) σ.registers first_label (first_scope vs t) t) (now σ) σ.registers first_label (first_scope vs t) t b true false (truth σ resumed.ref) depth_walk.added) (and_true (some (now σ) first_label (labels t)) ∙ f) depth_walk.runs) f in
            subst (λ u. Says vs t (env_of σ κ) u depth_walk.added) (sym (rest_if σ.registers false f)) (subst (Says vs t (env_of σ κ) nothing) (sym idle) (nothing_says (env_of σ κ)))
