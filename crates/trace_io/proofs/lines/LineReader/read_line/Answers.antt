use Rattle.std.proofs.Common.{rules, ap, inl, inr, refl}
use Rattle.trace_io.specs.Held.{Held}
use Rattle.trace_io.proofs.ReadLemmas.{started, line_read, too_long, ended_here, ended_now, read_failed, some_came, smaller, has_begun, untouched, over}
use Rattle.trace_io.proofs.lines.LineReader.read_line.Goals as goal

pub loop-self-init : goal.loop-self-init
loop-self-init g c =
    record {
      reading = started c.args.self.now _ _ _ _ c.clear.ensures.items (ap (λ (h : Held). h.waiting) c.self.view_is) (ap (λ (h : Held). h.ended) c.self.view_is);
      begun = inl (c.clear.ensures.items, ap (λ (h : Held). h.waiting) c.self.view_is, ap (λ (h : Held). h.ended) c.self.view_is, refl);
    }

pub returns-then-len-gt-LONGEST-clause-read : goal.returns-then-len-gt-LONGEST-clause-read
returns-then-len-gt-LONGEST-clause-read g c =
    too_long c.args.self.now c.loop-self.self c.move_waiting.new.self _ _ _ _ _ _ c.loop-self.invariant.reading c.move_waiting.ensures.kept c.move_waiting.ensures.same c.move_waiting.result c.loop-self-test.true c.move_waiting.ensures.came
    (search rules)

pub returns-then-len-gt-LONGEST-clause-stays : goal.returns-then-len-gt-LONGEST-clause-stays
returns-then-len-gt-LONGEST-clause-stays g c = untouched c.args.self.now c.loop-self.self _ c.loop-self.invariant.begun

pub returns-then-self-clause-read : goal.returns-then-self-clause-read
returns-then-self-clause-read g c =
    ended_here c.args.self.now c.loop-self.self c.move_waiting.new.self _ _ _ _ _ _ c.loop-self.invariant.reading c.move_waiting.ensures.kept c.move_waiting.ensures.same c.move_waiting.result c.loop-self-test.true c.move_waiting.ensures.came
    (search rules) (search rules) c.found_at_end.result c.found_at_end.ensures

pub returns-then-self-clause-stays : goal.returns-then-self-clause-stays
returns-then-self-clause-stays g c = untouched c.args.self.now c.loop-self.self _ c.loop-self.invariant.begun

pub returns-in-Ok-eq0-clause-read : goal.returns-in-Ok-eq0-clause-read
returns-in-Ok-eq0-clause-read g c =
    ended_now c.args.self.now c.loop-self.self c.move_waiting.new.self _ _ _ _ _ _ c.loop-self.invariant.reading c.move_waiting.ensures.kept c.move_waiting.ensures.same c.take_chunk.new.self _ _ _ c.move_waiting.result c.loop-self-test.true c.move_waiting.ensures.came (search rules) c.take_chunk.ensures.never_falls c.take_chunk.ensures.counted
    c.in-Ok-eq0.field-0 (search rules) c.take_chunk.ensures.line c.in-Ok-eq0.ensures.count (c.in-Ok-eq0.ensures.ended.1 (inl (search rules))) c.in-Ok-eq0.ensures.moved c.found_at_end-in-Ok-eq0.result c.found_at_end-in-Ok-eq0.ensures

pub returns-in-Ok-eq0-clause-stays : goal.returns-in-Ok-eq0-clause-stays
returns-in-Ok-eq0-clause-stays g c =
    λ s. absurd (over (has_begun c.args.self.now c.loop-self.self c.move_waiting.new.self _ _ _ _ _ _ c.loop-self.invariant.reading c.move_waiting.ensures.kept c.move_waiting.ensures.same _ c.move_waiting.result c.loop-self-test.true c.move_waiting.ensures.came (search rules) (search rules) c.loop-self.invariant.begun) s)

pub loop-self-smaller : goal.loop-self-smaller
loop-self-smaller g c =
    smaller c.args.self.now c.loop-self.self c.move_waiting.new.self _ _ _ _ _ _ c.loop-self.invariant.reading c.move_waiting.ensures.kept c.move_waiting.ensures.same c.take_chunk.new.self (g.S.Source.left c.take_chunk.new.input) _ _ c.move_waiting.result c.loop-self-test.true c.move_waiting.ensures.came (search rules) c.take_chunk.ensures.never_falls c.take_chunk.ensures.counted
    c.in-Ok.field-0 c.in-Ok.field-0-test.1 c.take_chunk.ensures.line c.in-Ok.ensures.count

pub loop-self-preserved : goal.loop-self-preserved
loop-self-preserved g c =
    record {
      reading = some_came c.args.self.now c.loop-self.self c.move_waiting.new.self _ _ _ _ _ _ c.loop-self.invariant.reading c.move_waiting.ensures.kept c.move_waiting.ensures.same c.take_chunk.new.self _ _ _ c.move_waiting.result c.loop-self-test.true c.move_waiting.ensures.came (search rules) c.take_chunk.ensures.never_falls c.take_chunk.ensures.counted
          c.in-Ok.field-0 c.in-Ok.field-0-test.1 c.take_chunk.ensures.line c.in-Ok.ensures.count (search rules) c.in-Ok.ensures.ended c.in-Ok.ensures.moved;
      begun = inr (has_begun c.args.self.now c.loop-self.self c.move_waiting.new.self _ _ _ _ _ _ c.loop-self.invariant.reading c.move_waiting.ensures.kept c.move_waiting.ensures.same _ c.move_waiting.result c.loop-self-test.true c.move_waiting.ensures.came (search rules) (search rules) c.loop-self.invariant.begun);
    }

pub returns-in-Err-clause-read : goal.returns-in-Err-clause-read
returns-in-Err-clause-read g c =
    read_failed c.args.self.now c.loop-self.self c.move_waiting.new.self _ _ _ _ _ _ c.loop-self.invariant.reading c.move_waiting.ensures.kept c.move_waiting.ensures.same c.take_chunk.new.self _ _ _ c.move_waiting.result c.loop-self-test.true c.move_waiting.ensures.came (search rules) c.take_chunk.ensures.never_falls c.take_chunk.ensures.counted
    c.in-Err.ensures.same c.in-Err.ensures.kept c.in-Err.ensures.rose
    (has_begun c.args.self.now c.loop-self.self c.move_waiting.new.self _ _ _ _ _ _ c.loop-self.invariant.reading c.move_waiting.ensures.kept c.move_waiting.ensures.same _ c.move_waiting.result c.loop-self-test.true c.move_waiting.ensures.came (search rules) (search rules) c.loop-self.invariant.begun).1

pub returns-in-Err-clause-stays : goal.returns-in-Err-clause-stays
returns-in-Err-clause-stays g c =
    λ s. absurd (over (has_begun c.args.self.now c.loop-self.self c.move_waiting.new.self _ _ _ _ _ _ c.loop-self.invariant.reading c.move_waiting.ensures.kept c.move_waiting.ensures.same _ c.move_waiting.result c.loop-self-test.true c.move_waiting.ensures.came (search rules) (search rules) c.loop-self.invariant.begun) s)

pub returns-clause-read : goal.returns-clause-read
returns-clause-read g c =
    line_read c.args.self.now c.loop-self.self c.move_waiting.new.self _ _ _ _ _ _ c.loop-self.invariant.reading c.move_waiting.ensures.kept c.move_waiting.ensures.same c.move_waiting.result c.loop-self-test.false c.move_waiting.ensures.came c.move_waiting.ensures.within

pub returns-clause-stays : goal.returns-clause-stays
returns-clause-stays g c = untouched c.args.self.now c.loop-self.self _ c.loop-self.invariant.begun
