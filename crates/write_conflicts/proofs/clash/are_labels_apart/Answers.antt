use Rattle.std.proofs.Common.{rules, ◌≡◌, true, map}
use Rattle.write_conflicts.specs.Clash.{are_apart, way_to}
use Rattle.write_conflicts.specs.Claims.{is_way}
use Rattle.write_conflicts.specs.Pairs.{steps_of}
use Rattle.write_conflicts.proofs.ClashLemmas.{labels_apart}
use Rattle.write_conflicts.proofs.clash.are_labels_apart.Goals as goal

pub returns : goal.returns
returns c =
    let e : is_way (way_to (map steps_of c.args.paths.now) c.args.register) ≡ true = search rules in
    let f : is_way (way_to (map steps_of c.args.paths.now) c.args.other) ≡ true = search rules in
    let g : c.are_apart.result ≡ are_apart c.index-paths-register.result.steps c.index-paths-other.result.steps = search rules in
    labels_apart c.args.paths.now c.args.register c.args.other c.index-paths-register.result c.index-paths-other.result c.are_apart.result e f c.index-paths-register.is c.index-paths-other.is g
