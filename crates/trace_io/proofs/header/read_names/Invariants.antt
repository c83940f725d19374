use Rattle.std.proofs.Common.{◌≡◌, ◌≤◌, ◌+◌, ℕ, [], All, length}
use Rattle.std.specs.Prelude.{vec_capacity}
use Rattle.trace_io.specs.Lines.{words}
use Rattle.trace_io.specs.Scan.{AreFields, unblanked}
use Rattle.trace_io.specs.Header.{names_by, unmarked_count}
use Rattle.trace_io.proofs.header.read_names.Given as goal

abbrev pub invariant-loop-rest : goal.invariant-loop-rest
invariant-loop-rest l = record {
  same : names_by l.inputs l.initial.marks [] (words l.text) ≡ names_by l.inputs l.marks l.fields.items (words l.rest);
  trimmed : unblanked l.rest ≡ l.rest;
  long : length l.marks ≡ length l.initial.marks;
  room : length l.fields.items + unmarked_count l.inputs l.marks ≤ vec_capacity l.fields;
  sound : (n : ℕ) → All (λ i. AreFields n i.fields) l.inputs → AreFields n l.fields.items;
}

abbrev pub decreases-loop-rest : goal.decreases-loop-rest
decreases-loop-rest l = length l.rest
