use Rattle.std.proofs.Common.{inl, inr, sym, subst}
use Rattle.quartz_expr.specs.Typed.{AreSound}
use Rattle.averest_top.proofs.TaskLemmas.{convert_told}
use Rattle.averest_top.proofs.doing.convert_built.Goals as goal

pub convert_trace-requires : goal.convert_trace-requires
convert_trace-requires g c = subst AreSound (sym c.as_slice-vars.ensures) c.requires.ready.short.types

pub returns-in-Ok-clause-ends : goal.returns-in-Ok-clause-ends
returns-in-Ok-clause-ends g c = inr c.in-Ok.ensures.of_convert

pub returns-in-Ok-clause-done : goal.returns-in-Ok-clause-done
returns-in-Ok-clause-done g c =
    inr (
      c.in-Ok.ensures.read_fault,
      c.in-Ok.ensures.write_fault,
      convert_told _ _ _ _ _ _ _ _ c.in-Ok.status c.of_number-format.ensures c.as_slice-vars.ensures c.in-Ok.ensures.told,
    )
