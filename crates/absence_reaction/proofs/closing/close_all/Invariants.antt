use Rattle.std.proofs.Common.{◌≡◌, ◌≤◌, drop, length}
use Rattle.absence_reaction.specs.Closing.{built, closed_copy, closed_from}
use Rattle.absence_reaction.proofs.CopyLemmas.{behind}
use Rattle.absence_reaction.proofs.closing.close_all.Given as goal

abbrev pub invariant-loop-element : goal.invariant-loop-element
invariant-loop-element l = record {
  longer : length l.initial.cells ≤ length l.cells;
  made : behind l.values l.flags l.pending (closed_from l.shape l.copy l.element (drop l.element l.copy.values) (built l.cells l.monitors)) ≡ closed_copy l.shape l.copy (built l.initial.cells l.initial.monitors);
}
