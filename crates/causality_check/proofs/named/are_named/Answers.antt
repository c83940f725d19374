use Rattle.std.proofs.Common.{ℕ, List, ◌≡◌, ◌∙◌, Bool, true, false, ap}
use Rattle.std.specs.Bool.{MatchBool}
use Rattle.aif_cells.specs.declared.cells.Cell.{Cell}
use Rattle.aif_cells.specs.Built.{Defined, all_defined}
use Rattle.causality_check.specs.Gather.{needs_of}
use Rattle.causality_check.specs.Graph.{IsClosed}
use Rattle.causality_check.specs.Order.{NamesCells}
use Rattle.causality_check.proofs.OrderLemmas.{named_from, unnamed_from}
use Rattle.causality_check.proofs.named.are_named.Goals as goal

named : (b : Bool) (cs : List Defined) (g : List (List ℕ)) → g ≡ needs_of cs → MatchBool b (IsClosed g) (IsClosed g → ⊥) → MatchBool b (NamesCells cs) (NamesCells cs → ⊥)
named true cs g e m = named_from cs g e m
named false cs g e m = unnamed_from cs g e m

pub returns : goal.returns
returns c = named c.is_closed-closed.result (all_defined c.args.aif.now.cells) c.as_slice-2.result.now (c.as_slice-2.ensures.value ∙ (c.in_ok-graph.ensures ∙ ap (λ (cs : List Cell). needs_of (all_defined cs)) c.as_slice.ensures)) c.is_closed-closed.ensures
