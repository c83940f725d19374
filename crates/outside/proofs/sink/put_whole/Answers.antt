use Rattle.std.proofs.Common.{rules}
use Rattle.std.proofs.lemmas.List.{take_rest}
use Rattle.outside.proofs.GainsLemmas.{gains_more}
use Rattle.outside.proofs.sink.put_whole.Goals as goal

pub loop-at-preserved : goal.loop-at-preserved
loop-at-preserved g c = record {
  within = search rules;
  never_falls = search rules;
  gained = gains_more (g.O.Sink.stands c.args.out.now) (g.O.Sink.stands c.loop-at.out) (g.O.Sink.stands c.put.new.self) c.args.piece.now c.loop-at.at c.in_ok-at.field-0 c.loop-at.invariant.gained (simp take_rest at c.in_ok-at.ensures.gained);
}
