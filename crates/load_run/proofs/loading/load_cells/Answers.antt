use Rattle.std.proofs.Common.{◌≡◌, ◌<◌, ◌^◌, ◌∙◌, List, ℕ, Option, Some, rules, ap, sym, subst}
use Rattle.quartz_expr.specs.Vars.{Vars}
use Rattle.outside.specs.Bytes.{Rose}
use Rattle.trace_io.specs.Counting.{StandsFor, Tally}
use Rattle.trace_io.specs.Generator.{Generator, bytes_left}
use Rattle.trace_io.specs.Writing.{generated}
use Rattle.command_texts.specs.Counted.{HaveShortLines}
use Rattle.cell_run.specs.Told.{Tells}
use Rattle.load_run.proofs.LoadLemmas.{kept_gains, loaded}
use Rattle.load_run.proofs.loading.load_cells.Goals as goal

pub returns-clause-told : goal.returns-clause-told
returns-clause-told g c = λ vs body x.
    let before : List ℕ → Type 0 = g.O.Sink.stands c.args.out.now in
    let after : List ℕ → Type 0 = g.O.Sink.stands c.end_run.new.out in
    let same : c.as_slice.result.now ≡ vs = c.as_slice.ensures ∙ x.vars in
    let few : c.args.steps < 2 ^ 32 = search rules in
    let left : ◌≡◌ {A = Option (List ℕ)} (Some (bytes_left c.in_ok-trace.trace)) (Some (generated vs c.args.seed c.args.steps)) =
    ap (λ (t : Generator). Some (bytes_left t)) c.in_ok-trace.ensures ∙ ap (λ (us : Vars). Some (generated us c.args.seed c.args.steps)) same in
    loaded vs body c.args.seed c.args.steps c.run_cells.new.out (Some (bytes_left c.run_cells.new.input)) before after (Rose (g.O.Sink.faults c.args.out.now) (g.O.Sink.faults c.end_run.new.out)) c.end_run.result
    (subst HaveShortLines x.vars c.requires.vars) few c.in_ok-status.status c.in_ok-status.ensures.of_run c.in_ok-status.ensures.read_fault c.in_ok-status.ensures.write_fault c.end_run.ensures.written
    (kept_gains before after c.in_ok-status.status c.end_run.result _ (λ e. ap (λ o. g.O.Sink.stands o) (sym e)) c.end_run.ensures.kept)
    (subst (λ (t : Tally). Tells vs body (generated vs c.args.seed c.args.steps) 4294967295 (StandsFor t) (StandsFor c.run_cells.new.out) (Some (bytes_left c.run_cells.new.input)) c.in_ok-status.status) c.in_ok-counted.ensures
    (c.in_ok-status.ensures.told vs body x (generated vs c.args.seed c.args.steps) left))
