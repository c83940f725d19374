-- Two actions that clash never meet.
use Rattle.std.proofs.Common.{◌≡◌, ◌⊎◌, inl, inr, ℕ, zero, suc, ◌+◌, ◌<◌, [], pos, Bool, true, false, not, List, Option, Some, None, sym, ap, ◌∙◌, arith}
use Rattle.std.specs.Prelude.{slice_get}
use Rattle.std.proofs.lemmas.Option.{slice_get_within}
use Rattle.quartz_expr.specs.Values.{same_value}
use Rattle.quartz_expr.specs.Vars.{Vars}
use Rattle.quartz_expr.specs.Terms.{Term}
use Rattle.quartz_expr.specs.Steps.{State}
use Rattle.quartz_expr.proofs.LawLemmas.{same_refl}
use Rattle.aif_cells.specs.declared.reference.Ref.{Ref}
use Rattle.aif_cells.specs.declared.reference.Ref.TheVariants as ref
use Rattle.aif_cells.specs.Tree.{value}
use Rattle.aif_cells.specs.Worth.{Assignment, holds, truth}
use Rattle.aif_cells.specs.Solution.{IsSolution}
use Rattle.absence_reaction.specs.Meaning.{index_read}
use Rattle.statement_cells.specs.Labels.{labels}
use Rattle.statement_cells.specs.Stands.{some}
use Rattle.statement_cells.specs.Whole.{Step, compiled, first_label, paths}
use Rattle.statement_cells.specs.Meaning.{StandsFor, marks_of, rest_of_body}
use Rattle.statement_cells.specs.Stands.{plain}
use Rattle.statement_cells.proofs.MarkLemmas.{free_at}
use Rattle.write_conflicts.specs.Clash.{Excludes, opposite, at_start, behind_start, apart, GuardsClash, indexes_differ, way_to}
use Rattle.loose_runs.specs.Meeting.{ClashingNeverMeet}
use Rattle.loose_runs.proofs.TruthLemmas.{said}
use Rattle.loose_runs.proofs.WayLemmas.{clashes, count_paths, never_both}

unsaid : (b u : Bool) → b ≡ u → b ≡ not u → ⊥
unsaid true true e f = cc
unsaid true false e f = cc
unsaid false true e f = cc
unsaid false false e f = cc

-- literal indexes that differ are read as different numbers
pub unlike : (σ : Assignment) (x y : Option Ref) → indexes_differ x y ≡ true → index_read σ x ≡ index_read σ y → ⊥
unlike σ (Some (ref.Lit y)) (Some (ref.Lit z)) e f = clashes (not (same_value y z)) (ap (λ w. not (same_value y w)) (sym f) ∙ ap not (same_refl y)) e
unlike σ None y e f = cc
unlike σ (Some (ref.Input i)) y e f = cc
unlike σ (Some (ref.Reg i)) y e f = cc
unlike σ (Some (ref.Cell i)) y e f = cc
unlike σ (Some (ref.Lit y)) None e f = cc
unlike σ (Some (ref.Lit y)) (Some (ref.Input i)) e f = cc
unlike σ (Some (ref.Lit y)) (Some (ref.Reg i)) e f = cc
unlike σ (Some (ref.Lit y)) (Some (ref.Cell i)) e f = cc

-- the label of a way
record Label (ps : List (List Step)) (l : ℕ) (p : List Step) : Type 0 where
  number : ℕ
  register : l ≡ 1 + number
  way : slice_get ps number ≡ Some p

label_of : (ps : List (List Step)) (l : ℕ) (p : List Step) → way_to ps l ≡ Some p → Label ps l p
label_of ps zero p e = absurd (cc)
label_of ps (suc n) p e = record { number = n; register = omega arith; way = e }

module _ (vs : Vars) (body : Term) (s : State) (σ : Assignment) (stands : StandsFor vs body σ.registers s) (solves : IsSolution σ (compiled vs body).cells) where
  -- the start flag and a label are never both 1
  flag_alone : (l : ℕ) (p : List Step) → way_to (compiled vs body).paths l ≡ Some p → truth σ (ref.Reg 0) ≡ true → truth σ (ref.Reg l) ≡ true → ⊥
  flag_alone l p is e f = by stands.term
    where
      its : Label (paths [] body) l p
      its = label_of (paths [] body) l p is

      below : its.number < labels body
      below = let size = count_paths body [] in let less = slice_get_within (paths [] body) its.number p its.way in omega (arith, size, less)

      by : ((σ.registers 0 ≡ pos 1) × (some (marks_of σ.registers) first_label (labels body) ≡ false) × (s.term ≡ body)) ⊎ ((σ.registers 0 ≡ pos 0) × (plain vs s.term ≡ rest_of_body vs body σ.registers)) → ⊥
      by (inl h) = clashes (truth σ (ref.Reg l)) (ap (marks_of σ.registers) its.register ∙ free_at (marks_of σ.registers) first_label (labels body) h.1 (1 + its.number) (omega arith) (omega (arith, below))) f
      by (inr h) = clashes (truth σ (ref.Reg 0)) (ap holds h.0) e

  -- what excludes each other is never both so
  excluded : (r : Ref) (u : Bool) (q : Ref) (w : Bool) → Excludes (compiled vs body).paths r u q w → truth σ r ≡ u → truth σ q ≡ w → ⊥
  excluded _ _ _ _ (opposite r u) e f = unsaid (truth σ r) u e f
  excluded _ _ _ _ (at_start l p is) e f = flag_alone l p is e f
  excluded _ _ _ _ (behind_start l p is) e f = flag_alone l p is f e
  excluded _ _ _ _ (apart l m p q a b far) e f =
      let first = label_of (paths [] body) l p a in
      let second = label_of (paths [] body) m q b in
      never_both (marks_of σ.registers) body 1 [] stands.at_one p q far first.number second.number first.way second.way
      (ap (marks_of σ.registers) (sym first.register) ∙ e) (ap (marks_of σ.registers) (sym second.register) ∙ f)

  -- guards that clash never both hold
  pub never_both_guards : (g h : Ref) → GuardsClash (compiled vs body).cells (compiled vs body).paths g h → truth σ g ≡ true → truth σ h ≡ true → ⊥
  never_both_guards g h c e f =
      excluded c.first c.first_sign c.second c.second_sign c.excludes
      (said (compiled vs body).cells σ solves (value g) true c.first c.first_sign c.says_first e)
      (said (compiled vs body).cells σ solves (value h) true c.second c.second_sign c.says_second f)

pub clashing_never_meet : ClashingNeverMeet
clashing_never_meet vs body s σ a b stands solves clash meet = by clash
  where
    by : GuardsClash (compiled vs body).cells (compiled vs body).paths a.guard b.guard ⊎ (indexes_differ a.index b.index ≡ true) → ⊥
    by (inl c) = never_both_guards vs body s σ stands solves a.guard b.guard c meet.first meet.second
    by (inr e) = unlike σ a.index b.index e meet.alike
