use Rattle.std.proofs.Common.{◌≡◌, ◌≤◌, true, length}
use Rattle.quartz_expr.specs.Typed.{have_sound_types}
use Rattle.convert_tests.proofs.params.vars_of.Given as goal

abbrev pub invariant-loop-param : goal.invariant-loop-param
invariant-loop-param l = record {
  few : length l.vars.items ≤ 64;
  types : have_sound_types l.vars.items ≡ true;
}
