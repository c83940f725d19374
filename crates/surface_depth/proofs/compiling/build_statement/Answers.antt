use Rattle.std.proofs.Common.{[]}
use Rattle.surface_depth.proofs.compiling.build_statement.Goals as goal

pub returns : goal.returns
returns c = record {
  over = λ h. c.in_ok-depth.ensures.over c.args.vars.now (c.in_ok-surface.ensures.over c.args.vars.now h);
  built = λ κ β h. (c.in_ok-depth.ensures.made κ [] _ (c.in_ok-surface.ensures.made κ [] β h).1).1;
}
