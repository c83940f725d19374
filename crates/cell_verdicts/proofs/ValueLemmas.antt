-- Cells other than value cells name cells before them. The cell behind the first one of a named cycle lies on a cycle too, and so not before it.
use Rattle.std.proofs.Common.{◌≡◌, ◌<◌, ◌≤◌, ℕ, Bool, true, false, List, [], ◌∷◌, ◌++◌, refl, arith}
use Rattle.quartz_tree.specs.declared.place.Place.{Place}
use Rattle.quartz_expr.specs.Terms.{Term}
use Rattle.quartz_expr.specs.Vars.{Vars}
use Rattle.aif_cells.specs.Built.{Defined}
use Rattle.aif_cells.specs.Dependences.{DependsOn}
use Rattle.aif_cells.specs.Order.{IsCycle, IsNamedCycle, LeadsTo}
use Rattle.absence_reaction.specs.Meaning.{is_among}
use Rattle.statement_cells.specs.Earlier.{value_cells}
use Rattle.statement_cells.specs.Whole.{compiled}
use Rattle.statement_cells.proofs.EarlierCompiledLemmas.{compiled_names_before}
use Rattle.cell_verdicts.specs.Laws.{CyclesBeginAtValueCells}

module _ (cs : List Defined) where
  -- a way to a cell, and on to one that it depends on
  one_on : (k target x : ℕ) (path : List ℕ) → LeadsTo cs k x path → DependsOn cs k target → LeadsTo cs target x (path ++ k ∷ [])
  one_on k target x [] l d = (l, d)
  one_on k target x (j ∷ path) l d = (l.0, one_on k target j path l.1 d)

  -- the first cell of a cycle depends on one that is not before it, where it is the least on any cycle
  not_before : (k : ℕ) (path : List ℕ) → IsNamedCycle cs k path → ((d : ℕ) → DependsOn cs k d → d < k) → ⊥
  not_before k [] named before =
      let less : k < k = before k named.cycle in
      omega (arith, less)
  not_before k (j ∷ path) named before =
      let less : j < k = before j named.cycle.0 in
      let le : k ≤ j = named.first j (path ++ k ∷ []) (one_on k j j path named.cycle.1 named.cycle.0) in
      omega (arith, less, le)

pub cycles_begin_at_value_cells : CyclesBeginAtValueCells
cycles_begin_at_value_cells vs t k path p c = at (is_among k (value_cells vs t)) refl
  where
    at : (b : Bool) → is_among k (value_cells vs t) ≡ b → is_among k (value_cells vs t) ≡ true
    at true e = e
    at false e = absurd (not_before (compiled vs t).cells k path c.0 (λ d dep. (compiled_names_before vs t).before k d e dep))
