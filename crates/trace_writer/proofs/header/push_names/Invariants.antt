use Rattle.std.proofs.Common.{◌≡◌, ◌≤◌, ◌++◌, drop}
use Rattle.std.specs.Prelude.{vec_capacity}
use Rattle.trace_writer.specs.Anew.{input_names, spaced_words}
use Rattle.trace_writer.proofs.header.push_names.Given as goal

abbrev pub invariant-loop-var : goal.invariant-loop-var
invariant-loop-var l = record {
  text : l.line.items ++ spaced_words (input_names (drop l.var-index l.vars)) ≡ l.initial.line.items ++ spaced_words (input_names l.vars);
  room : vec_capacity l.initial.line ≤ vec_capacity l.line;
}
