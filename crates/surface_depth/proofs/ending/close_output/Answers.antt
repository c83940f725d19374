use Rattle.std.proofs.Common.{rules, ◌≡◌, true, sym, subst}
use Rattle.reincarnation.specs.declared.copy.ClosedRefs.{ClosedRefs}
use Rattle.surface_depth.specs.Ends.{Ends}
use Rattle.surface_depth.proofs.EndLemmas.{output_ended}
use Rattle.surface_depth.proofs.ending.close_output.Goals as goal

pub returns : goal.returns
returns c =
    let can : c.can_close.result ≡ true = search rules in
    subst (λ (k : ClosedRefs). Ends c.args.vars.now c.args.builder.now c.args.output.now c.args.first (record { var = c.args.output.now.var; first = c.args.first; closed = k }) (record c.args.builder.now { aif = c.close.new.aif }))
    (sym c.refs_of.ensures)
    (output_ended c.args.vars.now c.args.builder.now c.close.new.aif c.args.output.now c.args.first c.in_ok-copy.copy c.in_ok-closed.closed c.requires (c.can_close.ensures.var can) c.in_ok-copy.ensures c.in_ok-closed.ensures.closed c.in_ok-closed.ensures.rest)
