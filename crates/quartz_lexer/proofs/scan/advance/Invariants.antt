use Rattle.std.proofs.Common.{◌≡◌, ◌<◌, ◌+◌, ◌-◌, ◌^◌, length, drop}
use Rattle.quartz_lexer.specs.Lexing.{place_after}
use Rattle.quartz_lexer.proofs.scan.advance.Given as goal

abbrev pub invariant-loop-byte : goal.invariant-loop-byte
invariant-loop-byte l = record {
  same : place_after l.place (drop l.byte-index l.bytes) ≡ place_after l.initial.place l.bytes;
  line : l.place.line + (length l.bytes - l.byte-index) < 2 ^ 32;
  col : l.place.col + (length l.bytes - l.byte-index) < 2 ^ 32;
}
