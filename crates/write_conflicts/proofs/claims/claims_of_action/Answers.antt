use Rattle.std.proofs.Common.{◌≡◌, ◌∙◌, List, Some, ap}
use Rattle.std.specs.Prelude.{slice_get}
use Rattle.aif_cells.specs.declared.cells.Action.{Action}
use Rattle.write_conflicts.specs.Pairs.{scene}
use Rattle.write_conflicts.proofs.ClaimLemmas.{claim_is, stored_is}
use Rattle.write_conflicts.proofs.claims.claims_of_action.Goals as goal

pub returns : goal.returns
returns c = λ a e ys f.
    let g : slice_get c.as_slice.result.now c.args.at ≡ Some a = ap (λ (xs : List Action). slice_get xs c.args.at) c.as_slice.ensures ∙ e in
    claim_is (scene c.args.aif.now) c.args.blocks.now c.args.aif.now.actions c.args.columns.now c.requires.covered c.requires.columns c.args.at a _ e f c.in_ok-no_of.ensures c.in_ok-registers_of.ensures
    (stored_is c.as_slice-2.result.now c.args.aif.now.made c.as_slice.result.now c.args.at _ a c.is_stored.result c.as_slice-2.ensures g c.is_stored.ensures)
