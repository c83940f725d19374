use Rattle.std.proofs.Common.{◌≡◌, ◌≤◌, ◌++◌, length, drop}
use Rattle.std.specs.Prelude.{vec_capacity}
use Rattle.trace_io.specs.Writing.{drawn_values, number_behind}
use Rattle.trace_io.proofs.generate.draw_values.Given as goal

abbrev pub invariant-loop-base : goal.invariant-loop-base
invariant-loop-base l = record {
  many : length l.values.items ≡ l.base-index;
  values : l.values.items ++ drawn_values (drop l.base-index l.types) l.last ≡ drawn_values l.types l.number;
  number : number_behind (drop l.base-index l.types) l.last ≡ number_behind l.types l.number;
  room : length l.types ≤ vec_capacity l.values;
  stays : vec_capacity l.initial.values ≤ vec_capacity l.values;
}
