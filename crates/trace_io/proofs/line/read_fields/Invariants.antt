use Rattle.std.proofs.Common.{◌≡◌, length, drop}
use Rattle.trace_io.specs.Lines.{words}
use Rattle.trace_io.specs.Scan.{reads_by}
use Rattle.trace_io.proofs.line.read_fields.Given as goal

abbrev pub invariant-loop-field : goal.invariant-loop-field
invariant-loop-field l = record {
  long : length l.last ≡ length l.initial.last;
  same : reads_by l.may_keep l.fields (words l.text) l.initial.last ≡ reads_by l.may_keep (drop l.field-index l.fields) (words l.rest) l.last;
}
