use Rattle.std.proofs.Common.{◌≡◌, true, subst, sym}
use Rattle.quartz_tree.specs.declared.declare.Var.{Var}
use Rattle.quartz_expr.specs.Intervals.{is_sound_type}
use Rattle.trace_io.proofs.TypeLemmas.{sound_at}
use Rattle.trace_io.proofs.types.types_of.Goals as goal

pub push_scalars-requires : goal.push_scalars-requires
push_scalars-requires c = subst (λ (v : Var). is_sound_type v.decl.ty ≡ true) (sym c.var-item.is) (sound_at c.args.vars.now c.loop-var.var-index c.var-item.result c.requires c.loop-var-test.true)
