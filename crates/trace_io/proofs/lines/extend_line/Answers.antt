use Rattle.std.proofs.Common.{◌≡◌, false, List, ℕ, get_or, rules, sym, subst}
use Rattle.trace_io.specs.Held.{has_line_end}
use Rattle.trace_io.proofs.LinesLemmas.{still_open_with, added_more}
use Rattle.trace_io.proofs.lines.extend_line.Goals as goal

pub loop-count-preserved : goal.loop-count-preserved
loop-count-preserved c = record {
  within = search rules;
  added = added_more c.args.line.now.items c.args.bytes.now c.loop-count.line.items c.push_reserved.new.self.items c.loop-count.count c.loop-count-test.true c.loop-count.invariant.added c.push_reserved.ensures.items;
  still_open = subst (λ (l : List ℕ). has_line_end l ≡ false) (sym c.push_reserved.ensures.items) (still_open_with c.loop-count.line.items (get_or c.args.bytes.now c.loop-count.count 0) c.loop-count.invariant.still_open c.if-byte-eq10.false);
  short = search rules;
  room = search rules;
  stays = search rules;
}
