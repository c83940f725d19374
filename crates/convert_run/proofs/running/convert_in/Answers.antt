use Rattle.std.proofs.Common.{◌≡◌, ◌+◌, ℕ, rules, arith, refl, subst}
use Rattle.cell_run.proofs.CallLemmas.{not_called, asked_again}
use Rattle.cell_run.proofs.InputLemmas.{have_zero}
use Rattle.convert_run.proofs.ConvertLemmas.{SoFar, begins, header_failed, stops, stops_at_limit, one_more_step, write_failed}
use Rattle.convert_run.proofs.running.convert_in.Goals as goal

pub returns-in-Err-clause-told : goal.returns-in-Err-clause-told
returns-in-Err-clause-told g c = λ f vs sound r trace e.
    header_failed f vs trace c.args.most_steps c.args.room.now.writer.line (g.O.Sink.stands c.args.out.now) (g.O.Sink.stands c.put_line.new.out) r.header c.in-Err.ensures.begun

pub loop-step-init : goal.loop-step-init
loop-step-init g c = record {
  room = search rules;
  goes_on = search rules;
  input_counts = search rules;
  out_counts = search rules;
  asked = not_called _ _;
  told = λ f vs sound r trace e. begins f vs trace c.args.most_steps c.args.room.now.writer c.args.room.now.reader _ (g.O.Sink.stands c.args.out.now) (g.O.Sink.stands c.put_line.new.out)
      r.new r.pen r.last r.header e c.in_default.ensures.gained;
}

pub returns-in-Err-make_step-clause-told : goal.returns-in-Err-make_step-clause-told
returns-in-Err-make_step-clause-told g c = λ f vs sound r trace e.
    stops f vs (have_zero vs sound.types) trace c.args.most_steps c.loop-step.step c.loop-step.room.writer c.make_step.new.room.writer
    c.loop-step.room.reader.trail c.make_step.new.room.reader.trail c.make_step.new.room.packet.values.items _ _ _ _ _ _ (g.O.Sink.stands c.args.out.now) (g.O.Sink.stands c.loop-step.out) (g.O.Sink.stands c.loop-step.out)
    (c.loop-step.invariant.told f vs sound r trace e) c.in-Err-make_step.status c.in-Err-make_step.ensures.made

pub returns-in-Err-put_line-clause-told : goal.returns-in-Err-put_line-clause-told
returns-in-Err-put_line-clause-told g c = λ f vs sound r trace e.
    write_failed f vs (have_zero vs sound.types) trace c.args.most_steps c.loop-step.step c.loop-step.room.writer c.make_step.new.room.writer
    c.loop-step.room.reader.trail c.make_step.new.room.reader.trail c.make_step.new.room.packet.values.items _ _ _ _ _ _ (g.O.Sink.stands c.args.out.now) (g.O.Sink.stands c.loop-step.out) (g.O.Sink.stands c.put_line-in-loop-step.new.out)
    (c.loop-step.invariant.told f vs sound r trace e) c.in_default-make_step.ensures.made c.loop-step-test.true c.in-Err-put_line.ensures.begun

pub loop-step-preserved : goal.loop-step-preserved
loop-step-preserved g c = record {
  room = search rules;
  goes_on = search rules;
  input_counts = search rules;
  out_counts = search rules;
  asked = asked_again c.loop-step.step c.loop-step.room.reader.trail c.make_step.new.room.reader.trail _ _ _ c.loop-step.invariant.asked c.in_default-make_step.ensures.made.read.counted (search rules);
  told = λ f vs sound r trace e.
      one_more_step f vs (have_zero vs sound.types) trace c.args.most_steps c.loop-step.step c.loop-step.room.writer c.make_step.new.room.writer
      c.loop-step.room.reader.trail c.make_step.new.room.reader.trail c.make_step.new.room.packet.values.items _ _ _ _ _ _ (g.O.Sink.stands c.args.out.now) (g.O.Sink.stands c.loop-step.out) (g.O.Sink.stands c.put_line-in-loop-step.new.out)
      (c.loop-step.invariant.told f vs sound r trace e) c.in_default-make_step.ensures.made c.loop-step-test.true c.in_default-put_line.ensures.gained;
}

pub returns-in-Ok-clause-told : goal.returns-in-Ok-clause-told
returns-in-Ok-clause-told g c = λ f vs sound r trace e.
    let last : c.loop-step.step ≡ c.args.most_steps = omega arith in
    let so_far = subst (λ (k : ℕ). SoFar f vs trace c.args.most_steps k c.loop-step.room.writer c.loop-step.room.reader.trail (g.S.Source.left c.loop-step.input) (g.O.Sink.stands c.args.out.now) (g.O.Sink.stands c.loop-step.out)) last
    (c.loop-step.invariant.told f vs sound r trace e) in
    stops_at_limit f vs (have_zero vs sound.types) trace c.args.most_steps c.args.most_steps c.loop-step.room.writer c.make_step-2.new.room.writer
    c.loop-step.room.reader.trail c.make_step-2.new.room.reader.trail c.make_step-2.new.room.packet.values.items _ _ _ _ _ _ (g.O.Sink.stands c.args.out.now) (g.O.Sink.stands c.loop-step.out) (g.O.Sink.stands c.loop-step.out)
    so_far c.in-Ok.ensures.made refl

pub returns-in-Err-make_step-2-clause-told : goal.returns-in-Err-make_step-2-clause-told
returns-in-Err-make_step-2-clause-told g c = λ f vs sound r trace e.
    let last : c.loop-step.step ≡ c.args.most_steps = omega arith in
    let so_far = subst (λ (k : ℕ). SoFar f vs trace c.args.most_steps k c.loop-step.room.writer c.loop-step.room.reader.trail (g.S.Source.left c.loop-step.input) (g.O.Sink.stands c.args.out.now) (g.O.Sink.stands c.loop-step.out)) last
    (c.loop-step.invariant.told f vs sound r trace e) in
    stops f vs (have_zero vs sound.types) trace c.args.most_steps c.args.most_steps c.loop-step.room.writer c.make_step-2.new.room.writer
    c.loop-step.room.reader.trail c.make_step-2.new.room.reader.trail c.make_step-2.new.room.packet.values.items _ _ _ _ _ _ (g.O.Sink.stands c.args.out.now) (g.O.Sink.stands c.loop-step.out) (g.O.Sink.stands c.loop-step.out)
    so_far c.in-Err-make_step-2.status c.in-Err-make_step-2.ensures.made
