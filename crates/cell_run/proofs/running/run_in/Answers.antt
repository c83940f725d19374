use Rattle.std.proofs.Common.{◌≡◌, ◌+◌, ◌∙◌, List, ℕ, ℤ, true, rules, arith, refl, ap, ap₂, sym, subst}
use Rattle.quartz_expr.specs.Typed.{have_sound_types}
use Rattle.aif_cells.specs.Worth.{listed}
use Rattle.macro_steps.proofs.EvaluateLemmas.{order_solves}
use Rattle.trace_io.specs.Held.{CalledAtMost}
use Rattle.trace_io.specs.Trace.{Reader}
use Rattle.outside.specs.Bytes.{Gains, GainsBegun}
use Rattle.cell_run.specs.Machine.{next_values}
use Rattle.cell_run.specs.Room.{calls_before}
use Rattle.cell_run.proofs.CallLemmas.{not_called, asked_again}
use Rattle.cell_run.proofs.InputLemmas.{have_zero}
use Rattle.cell_run.proofs.StoryLemmas.{SoFar, begins, stops, stops_at_limit, stops_at_fault, one_more_step, write_failed, line_is}
use Rattle.cell_run.proofs.running.run_in.Goals as goal

pub loop-step-init : goal.loop-step-init
loop-step-init g c = record {
  fits = c.requires.room.fits;
  goes_on = c.requires.room.new.goes_on;
  input_counts = search rules;
  out_counts = search rules;
  asked = not_called _ _;
  told = λ vs body x trace e. begins vs body c.args.aif.now x trace c.args.most_steps c.args.room.now.reader c.args.room.now.registers.items _ _ c.requires.room.first c.requires.room.new e;
}

pub returns-in-Err-clause-told : goal.returns-in-Err-clause-told
returns-in-Err-clause-told g c = λ vs body x trace e.
    stops vs body c.args.aif.now x c.args.order.now.cells c.requires.order order_solves c.args.most_steps
    (have_zero vs (subst (λ us. have_sound_types us ≡ true) x.vars c.requires.vars.types)) trace c.loop-step.step c.loop-step.room.registers.items
    c.loop-step.room.reader.trail c.read_step.new.room.reader.trail c.read_step.new.room.packet.values.items _ _ _ _ _ _ _ _ (g.O.Sink.stands c.loop-step.out)
    (c.loop-step.invariant.told vs body x trace e) c.in-Err.status c.in-Err.ensures.came

pub returns-in-Some-clause-told : goal.returns-in-Some-clause-told
returns-in-Some-clause-told g c = λ vs body x trace e.
    stops_at_fault vs body c.args.aif.now x c.args.order.now.cells c.requires.order order_solves c.args.most_steps
    (have_zero vs (subst (λ us. have_sound_types us ≡ true) x.vars c.requires.vars.types)) trace c.loop-step.step c.read_step.new.room.registers.items
    c.loop-step.room.reader.trail c.read_step.new.room.reader.trail c.read_step.new.room.packet.values.items _ _ _ _ _ _ _ _ (g.O.Sink.stands c.loop-step.out)
    (subst (λ (ks : List ℤ). SoFar vs body trace c.args.most_steps c.loop-step.step ks c.loop-step.room.reader.trail (g.S.Source.left c.loop-step.input) (g.O.Sink.stands c.args.out.now) (g.O.Sink.stands c.loop-step.out))
    (sym c.in_default.ensures.registers_stay) (c.loop-step.invariant.told vs body x trace e))
    c.react.new.room.cells.items c.in-Some.ensures.solution c.in_default.ensures.came c.loop-step-test.true c.in-Some.fault c.in-Some.ensures.fault

pub returns-in-Err-write_step-clause-told : goal.returns-in-Err-write_step-clause-told
returns-in-Err-write_step-clause-told g c = λ vs body x trace e.
    let zs : List ℤ = c.read_step.new.room.packet.values.items in
    let ks : List ℤ = c.read_step.new.room.registers.items in
    let cells : List ℤ = c.react.new.room.cells.items in
    let zero = have_zero vs (subst (λ us. have_sound_types us ≡ true) x.vars c.requires.vars.types) in
    let so_far = subst (λ (js : List ℤ). SoFar vs body trace c.args.most_steps c.loop-step.step js c.loop-step.room.reader.trail (g.S.Source.left c.loop-step.input) (g.O.Sink.stands c.args.out.now) (g.O.Sink.stands c.loop-step.out))
    (sym c.in_default.ensures.registers_stay) (c.loop-step.invariant.told vs body x trace e) in
    let line = line_is vs body c.args.aif.now x c.args.order.now.cells c.requires.order order_solves c.args.most_steps zero trace c.loop-step.step ks
    c.loop-step.room.reader.trail c.read_step.new.room.reader.trail zs _ _ _ _ _ _ _ _ (g.O.Sink.stands c.write_step.new.out) so_far
    cells c.in_default-react.ensures.solution c.in_default.ensures.came c.loop-step-test.true c.in_default-react.ensures.fault
    c.go_on.new.room.writer c.go_on.new.room.packet.values.items c.go_on.ensures.room_stays.writer c.go_on.ensures.shows in
    write_failed vs body c.args.aif.now x c.args.order.now.cells c.requires.order order_solves c.args.most_steps zero trace c.loop-step.step ks
    c.loop-step.room.reader.trail c.read_step.new.room.reader.trail zs _ _ _ _ _ _ _ _ (g.O.Sink.stands c.write_step.new.out) so_far
    cells c.in_default-react.ensures.solution c.in_default.ensures.came c.loop-step-test.true c.in_default-react.ensures.fault
    (subst (GainsBegun (g.O.Sink.stands c.loop-step.out) (g.O.Sink.stands c.write_step.new.out)) line c.in-Err-write_step.ensures.puts.begun)

pub loop-step-preserved : goal.loop-step-preserved
loop-step-preserved g c = record {
  fits = record {
    registers = c.go_on.ensures.room_stays.registers;
    next = c.go_on.ensures.room_stays.next;
    cells = c.go_on.ensures.room_stays.cells;
    inputs = c.go_on.ensures.room_stays.inputs;
    outputs = c.go_on.ensures.room_stays.outputs;
    writer = c.in_default-write_step.ensures.same ∙ c.go_on.ensures.room_stays.writer;
  };
  goes_on = search rules;
  input_counts = search rules;
  out_counts = search rules;
  asked = subst (λ (r : Reader). CalledAtMost (calls_before r.trail.is_fresh (c.loop-step.step + 1)) (g.S.Source.calls c.args.input.now) (g.S.Source.calls c.read_step.new.input)) (sym (c.go_on.ensures.reader_stays ∙ c.in_default-react.ensures.stays.2))
      (asked_again c.loop-step.step c.loop-step.room.reader.trail c.read_step.new.room.reader.trail _ _ _ c.loop-step.invariant.asked c.in_default.ensures.came.read.counted (search rules));
  told = λ vs body x trace e. (
      let zs : List ℤ = c.read_step.new.room.packet.values.items in
      let ks : List ℤ = c.read_step.new.room.registers.items in
      let cells : List ℤ = c.react.new.room.cells.items in
      let zero = have_zero vs (subst (λ us. have_sound_types us ≡ true) x.vars c.requires.vars.types) in
      let so_far = subst (λ (js : List ℤ). SoFar vs body trace c.args.most_steps c.loop-step.step js c.loop-step.room.reader.trail (g.S.Source.left c.loop-step.input) (g.O.Sink.stands c.args.out.now) (g.O.Sink.stands c.loop-step.out))
      (sym c.in_default.ensures.registers_stay) (c.loop-step.invariant.told vs body x trace e) in
      let line = line_is vs body c.args.aif.now x c.args.order.now.cells c.requires.order order_solves c.args.most_steps zero trace c.loop-step.step ks
      c.loop-step.room.reader.trail c.read_step.new.room.reader.trail zs _ _ _ _ _ _ _ _ (g.O.Sink.stands c.write_step.new.out) so_far
      cells c.in_default-react.ensures.solution c.in_default.ensures.came c.loop-step-test.true c.in_default-react.ensures.fault
      c.go_on.new.room.writer c.go_on.new.room.packet.values.items c.go_on.ensures.room_stays.writer c.go_on.ensures.shows in
      let registers_are : c.go_on.new.room.registers.items ≡ next_values (listed zs ks cells) c.args.aif.now.registers =
      c.go_on.ensures.registers ∙ ap₂ (λ (is rs : List ℤ). next_values (listed is rs cells) c.args.aif.now.registers) (ap (λ p. p.values.items) c.in_default-react.ensures.stays.1) c.in_default-react.ensures.stays.0 in
      subst (λ (r : Reader). SoFar vs body trace c.args.most_steps (c.loop-step.step + 1) c.go_on.new.room.registers.items r.trail (g.S.Source.left c.read_step.new.input) (g.O.Sink.stands c.args.out.now) (g.O.Sink.stands c.write_step.new.out))
      (sym (c.go_on.ensures.reader_stays ∙ c.in_default-react.ensures.stays.2))
      (subst (λ (js : List ℤ). SoFar vs body trace c.args.most_steps (c.loop-step.step + 1) js c.read_step.new.room.reader.trail (g.S.Source.left c.read_step.new.input) (g.O.Sink.stands c.args.out.now) (g.O.Sink.stands c.write_step.new.out))
      (sym registers_are)
      (one_more_step vs body c.args.aif.now x c.args.order.now.cells c.requires.order order_solves c.args.most_steps zero trace c.loop-step.step ks
      c.loop-step.room.reader.trail c.read_step.new.room.reader.trail zs _ _ _ _ _ _ _ _ (g.O.Sink.stands c.write_step.new.out) so_far
      cells c.in_default-react.ensures.solution c.in_default.ensures.came c.loop-step-test.true c.in_default-react.ensures.fault
      (subst (Gains (g.O.Sink.stands c.loop-step.out) (g.O.Sink.stands c.write_step.new.out)) line c.in_default-write_step.ensures.puts.gained))));
}

pub returns-in-Ok-clause-told : goal.returns-in-Ok-clause-told
returns-in-Ok-clause-told g c = λ vs body x trace e.
    let zero = have_zero vs (subst (λ us. have_sound_types us ≡ true) x.vars c.requires.vars.types) in
    let last : c.loop-step.step ≡ c.args.most_steps = omega arith in
    let so_far = subst (λ (k : ℕ). SoFar vs body trace c.args.most_steps k c.loop-step.room.registers.items c.loop-step.room.reader.trail (g.S.Source.left c.loop-step.input) (g.O.Sink.stands c.args.out.now) (g.O.Sink.stands c.loop-step.out)) last
    (c.loop-step.invariant.told vs body x trace e) in
    stops_at_limit vs body c.args.aif.now x c.args.order.now.cells c.requires.order order_solves c.args.most_steps zero trace c.args.most_steps c.loop-step.room.registers.items
    c.loop-step.room.reader.trail c.read_step-2.new.room.reader.trail c.read_step-2.new.room.packet.values.items _ _ _ _ _ _ _ _ (g.O.Sink.stands c.loop-step.out) so_far c.in-Ok.ensures.came refl

pub returns-in-Err-read_step-clause-told : goal.returns-in-Err-read_step-clause-told
returns-in-Err-read_step-clause-told g c = λ vs body x trace e.
    let zero = have_zero vs (subst (λ us. have_sound_types us ≡ true) x.vars c.requires.vars.types) in
    let last : c.loop-step.step ≡ c.args.most_steps = omega arith in
    let so_far = subst (λ (k : ℕ). SoFar vs body trace c.args.most_steps k c.loop-step.room.registers.items c.loop-step.room.reader.trail (g.S.Source.left c.loop-step.input) (g.O.Sink.stands c.args.out.now) (g.O.Sink.stands c.loop-step.out)) last
    (c.loop-step.invariant.told vs body x trace e) in
    stops vs body c.args.aif.now x c.args.order.now.cells c.requires.order order_solves c.args.most_steps zero trace c.args.most_steps c.loop-step.room.registers.items
    c.loop-step.room.reader.trail c.read_step-2.new.room.reader.trail c.read_step-2.new.room.packet.values.items _ _ _ _ _ _ _ _ (g.O.Sink.stands c.loop-step.out) so_far c.in-Err-read_step.status c.in-Err-read_step.ensures.came
