use Rattle.std.proofs.Common.{List, map, sym, subst}
use Rattle.std.specs.Bool.{MatchBool}
use Rattle.aif_cells.specs.declared.cells.Path.{Path}
use Rattle.write_conflicts.specs.Claims.{AreOpposed}
use Rattle.write_conflicts.specs.Pairs.{scene, steps_of}
use Rattle.write_conflicts.proofs.ClashLemmas.{clash_by_guards}
use Rattle.write_conflicts.proofs.clash.clash.Goals as goal

pub returns-else-indexes_differ : goal.returns-else-indexes_differ
returns-else-indexes_differ c =
    clash_by_guards (scene c.args.aif.now) c.args.a.now c.args.b.now c.args.claims.now c.args.others.now c.guards_clash.result c.requires (sym c.if-indexes_differ.ensures)
    (subst (λ (ps : List Path). MatchBool c.guards_clash.result (AreOpposed (map steps_of ps) c.args.claims.now c.args.others.now) (AreOpposed (map steps_of ps) c.args.claims.now c.args.others.now → ⊥)) c.as_slice.ensures c.guards_clash.ensures)
