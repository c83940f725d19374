-- What follows without a cycle, from an order of the cells.
use Rattle.std.proofs.Common.{ℕ, List, ◌∙◌, refl, sym, subst, ◌≡◌}
use Rattle.quartz_expr.specs.Vars.{Vars}
use Rattle.quartz_expr.specs.Terms.{Term}
use Rattle.aif_cells.specs.Order.{IsOrder}
use Rattle.causality_check.specs.Order.{HasNoCycle}
use Rattle.statement_cells.specs.Whole.{compiled}
use Rattle.statement_cells.proofs.EarlierCompiledLemmas.{compiled_names_before}
use Rattle.macro_steps.specs.Laws.{Coherence, Completeness, Marks, SolutionIsOne, Soundness, ValuesLie}
use Rattle.macro_steps.proofs.AcyclicLemmas.{acyclic_has_order}
use Rattle.macro_steps.proofs.CoherenceLemmas.{coherent_by, complete}
use Rattle.macro_steps.proofs.CompleteLemmas.{only_met}
use Rattle.macro_steps.proofs.RangeLemmas.{solution_lies}
use Rattle.macro_steps.proofs.SoundLemmas.{sound_by}
use Rattle.aif_cells.specs.Worth.{Assignment}
use Rattle.aif_cells.specs.Solution.{IsSolution}
use Rattle.macro_steps.proofs.OrderLemmas.{along_order, cell_at}
use Rattle.macro_steps.proofs.AgreeLemmas.{worth_agrees}

-- the cells of a module without a cycle have an order
order_of : (vs : Vars) (t : Term) → HasNoCycle (compiled vs t).cells → (order : List ℕ) × IsOrder (compiled vs t).cells order
order_of vs t acyclic = acyclic_has_order (compiled vs t).cells (compiled_names_before vs t).named acyclic

pub values_lie : ValuesLie
values_lie vs t s ins σ sound acyclic stands solved = let o = order_of vs t acyclic in solution_lies vs t s ins σ o.0 sound o.1 stands solved

pub soundness : Soundness
soundness vs t s ins σ sound acyclic stands solved = let o = order_of vs t acyclic in sound_by vs t s ins σ o.0 sound o.1 stands solved

pub completeness : Completeness
completeness vs t s ins σ outs next fs sound acyclic stands solved m = let o = order_of vs t acyclic in complete vs t s ins σ o.0 sound o.1 stands solved outs next fs m

pub coherence : Coherence
coherence vs t s ins σ sound acyclic stands solved = let o = order_of vs t acyclic in coherent_by vs t s ins σ o.0 sound o.1 stands solved

pub marks : Marks
marks vs t s ins σ outs next fs sound acyclic stands solved m = let o = order_of vs t acyclic in only_met vs t s ins σ o.0 sound o.1 stands solved outs next fs m

-- inputs and registers have one solution at most
pub solution_is_one : SolutionIsOne
solution_is_one cs σ τ names acyclic inputs registers a b k l =
    let o = acyclic_has_order cs names acyclic in
    let ρ : Assignment = record { inputs = σ.inputs; registers = σ.registers; cells = τ.cells } in
    let path : ρ ≡ τ = λ i. record { inputs = inputs i; registers = registers i; cells = τ.cells } in
    let b' : IsSolution ρ cs = subst (λ (π : Assignment). IsSolution π cs) (sym path) b in
    along_order cs o.0 o.1 (λ j. σ.cells j ≡ τ.cells j)
    (λ j m f. let c = cell_at cs j m in a j c.0 c.1 refl ∙ worth_agrees σ τ.cells c.0.tree (λ d named. f d (c.0, c.1, named)) ∙ sym (b' j c.0 c.1 refl))
    k l
