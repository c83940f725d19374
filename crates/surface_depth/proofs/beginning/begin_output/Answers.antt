use Rattle.std.proofs.Common.{rules, refl}
use Rattle.surface_depth.proofs.BeginLemmas.{output_begun}
use Rattle.surface_depth.proofs.beginning.begin_output.Goals as goal

pub returns-clause-begins : goal.returns-clause-begins
returns-clause-begins c =
    output_begun c.args.vars.now c.args.builder.now _ _ (search rules) (search rules) (search rules) (search rules) (search rules) refl refl refl refl refl refl refl
