use Rattle.std.proofs.Common.{◌≡◌, true, List, All, rules, sym, subst}
use Rattle.quartz_tree.specs.declared.declare.Base.{Base}
use Rattle.quartz_tree.specs.declared.declare.Flow.TheVariants.{Input}
use Rattle.quartz_expr.specs.Intervals.{is_sound_base}
use Rattle.trace_io.proofs.TypeLemmas.{types_sound}
use Rattle.trace_writer.proofs.writer.InputWriter.new.Goals as goal

pub invariant_of-result : goal.invariant_of-result
invariant_of-result c = (subst (λ (ts : List Base). All (λ b. is_sound_base b ≡ true) ts) (sym c.in_ok-types.ensures) (types_sound Input c.args.vars.now c.requires.types), search rules, search rules)
