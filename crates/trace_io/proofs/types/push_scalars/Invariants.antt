use Rattle.std.proofs.Common.{◌≡◌, ◌≤◌, ◌++◌, replicate}
use Rattle.trace_io.specs.Inputs.{count_in}
use Rattle.trace_io.proofs.types.push_scalars.Given as goal

abbrev pub invariant-loop : goal.invariant-loop
invariant-loop l = record {
  within : l.counter ≤ l.end;
  end : l.end ≡ count_in l.var;
  types : l.types.items ≡ l.initial.types.items ++ replicate l.counter l.var.decl.ty.base;
}
