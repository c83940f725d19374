use Rattle.std.proofs.Common.{rules, ◌≡◌, [], ◌∷◌, ◌++◌, sym}
use Rattle.aif_cells.proofs.MakingLemmas.{or_all_is, if_ok_as}
use Rattle.aif_cells.proofs.making.any_of.Goals as goal

pub returns-in-Some : goal.returns-in-Some
returns-in-Some c =
    let e : c.args.items.items ≡ c.pop.new.self.items ++ c.in-Some.last ∷ [] = search rules in
    if_ok_as c.alternatives.result (sym (or_all_is c.pop.new.self.items c.args.items.items c.in-Some.last e)) c.alternatives.ensures
