use Rattle.std.proofs.Common.{List, ◌≡◌, ◌∙◌, get_or, subst}
use Rattle.aif_cells.specs.declared.cells.Register.{Register}
use Rattle.reincarnation.proofs.CarryLemmas.{next_is}
use Rattle.surface_depth.proofs.labelling.set_next.Goals as goal

pub returns : goal.returns
returns c = c.set.ensures ∙ next_is c.args.registers.now c.args.register c.register_at-changed.result c.args.next c.requires (subst (λ (xs : List Register). c.register_at-changed.result ≡ get_or xs c.args.register c.register_at-changed.result) c.as_slice.ensures c.register_at-changed.ensures)
