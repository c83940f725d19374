-- Which monitor raises a fault, and that the least fault of a list is one of it.
use Rattle.std.proofs.Common.{◌≡◌, ◌⊎◌, inl, inr, ℕ, zero, suc, Bool, true, false, List, [], ◌∷◌, Contains, Some, None, refl, ap, ◌∙◌, subst, arith}
use Rattle.std.specs.Prelude.{Option, if◌then◌else◌}
use Rattle.std.proofs.lemmas.List.Elements.{Contains-append_cases, Contains-append_right}
use Rattle.quartz_tree.specs.declared.fault.Fault.{Fault}
use Rattle.quartz_tree.specs.Least.{is_sooner, least_fault, lesser_fault}
use Rattle.quartz_expr.specs.Vars.{Vars}
use Rattle.quartz_expr.specs.Faults.{fault_if}
use Rattle.aif_cells.specs.declared.cells.Monitor.{Monitor}
use Rattle.aif_cells.specs.Worth.{Assignment, holds}
use Rattle.absence_reaction.specs.Meaning.{raised}
use Rattle.statement_cells.proofs.CarryLemmas.{AllLess}
use Rattle.loose_runs.proofs.CopyLemmas.{AllOf}
use Rattle.loose_runs.proofs.EndAddLemmas.{AllThere}
use Rattle.loose_runs.proofs.WayLemmas.{some_same}

-- ---- the monitor that raises a fault

pub record Raises (σ : Assignment) (Q : Monitor → Type 0) (f : Fault) : Type 0 where
  pub monitor : Monitor
  pub has : Q monitor
  pub raised : holds (σ.cells monitor.cell) ≡ true
  pub place : monitor.place ≡ f.place
  pub kind : monitor.kind ≡ f.kind

only_one : (g f : Fault) → Contains (g ∷ []) f → g ≡ f
only_one g f (zero, l, e) = e
only_one g f (suc k, l, e) = absurd (omega (arith, l))

not_in_none : (f : Fault) → Contains [] f → ⊥
not_in_none f (k, l, e) = omega (arith, l)

raised_one : (σ : Assignment) (Q : Monitor → Type 0) (m : Monitor) (f : Fault) → Q m → (b : Bool) → holds (σ.cells m.cell) ≡ b → Contains (fault_if b m.kind m.place) f → Raises σ Q f
raised_one σ Q m f q true e c =
    let same : record { place = m.place; kind = m.kind } ≡ f = only_one (record { place = m.place; kind = m.kind }) f c in
    record { monitor = m; has = q; raised = e; place = ap (λ (g : Fault). g.place) same; kind = ap (λ (g : Fault). g.kind) same }
raised_one σ Q m f q false e c = absurd (not_in_none f c)

pub raised_by : (σ : Assignment) (Q : Monitor → Type 0) (ms : List Monitor) (f : Fault) → AllOf Q ms → Contains (raised σ ms) f → Raises σ Q f
raised_by σ Q [] f h c = absurd (not_in_none f c)
raised_by σ Q (m ∷ ms) f h c = by (Contains-append_cases (fault_if (holds (σ.cells m.cell)) m.kind m.place) (raised σ ms) f c) (raised_by σ Q ms f h.1)
  where
    by : Contains (fault_if (holds (σ.cells m.cell)) m.kind m.place) f ⊎ Contains (raised σ ms) f → (Contains (raised σ ms) f → Raises σ Q f) → Raises σ Q f
    by (inl d) g = raised_one σ Q m f h.0 (holds (σ.cells m.cell)) refl d
    by (inr d) g = g d

pub all_there : (vs : Vars) (σ : Assignment) (xs : List ℕ) → AllLess vs σ xs → AllThere vs xs
all_there vs σ [] h = tt
all_there vs σ (x ∷ xs) h = (h.0, all_there vs σ xs h.1)

-- ---- the least fault

pub least_in : (fs : List Fault) (f : Fault) → least_fault fs ≡ Some f → Contains fs f
least_in [] f e = absurd (cc)
least_in (g ∷ fs) f e = by (least_fault fs) refl e (least_in fs f)
  where
    here : (h : Fault) → h ≡ f → Contains (h ∷ fs) f
    here h e = subst (λ y. Contains (h ∷ fs) y) e (0, omega arith, refl)

    or_behind : (b : Bool) (h : Fault) → (if b then Some h else Some g) ≡ Some f → (Some h ≡ Some f → Contains fs f) → Contains (g ∷ fs) f
    or_behind true h e k = Contains-append_right (g ∷ []) fs f (k e)
    or_behind false h e k = here g (some_same e)

    by : (o : Option Fault) → least_fault fs ≡ o → lesser_fault (Some g) o ≡ Some f → (least_fault fs ≡ Some f → Contains fs f) → Contains (g ∷ fs) f
    by None l e k = here g (some_same e)
    by (Some h) l e k = or_behind (is_sooner h g) h e (λ q. k (l ∙ q))
