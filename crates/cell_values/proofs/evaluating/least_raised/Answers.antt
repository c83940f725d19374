use Rattle.std.proofs.Common.{◌∙◌, ◌∷◌, ◌++◌, [], List, refl, sym, ap, append_assoc, append-nil, rules}
use Rattle.quartz_tree.specs.Least.{least_fault, lesser_fault}
use Rattle.absence_reaction.specs.Meaning.{raised}
use Rattle.aif_cells.specs.declared.cells.Monitor.{Monitor}
use Rattle.aif_cells.specs.Worth.{holds, listed, number_at}
use Rattle.cell_values.proofs.RaisedLemmas.{all_behind, first_raised}
use Rattle.cell_values.proofs.evaluating.least_raised.Goals as goal

pub loop-monitor-init : goal.loop-monitor-init
loop-monitor-init c = ([], append-nil _ ∙ search rules, λ is rs. refl)

pub loop-monitor-preserved : goal.loop-monitor-preserved
loop-monitor-preserved c =
    let m : Monitor = c.in-Some.monitor.now in
    let behind : List Monitor = c.loop-monitor.invariant.0 in (
      m ∷ behind,
      sym (append_assoc c.next.new.self.iter.rest.now (m ∷ []) behind) ∙ (ap (λ (ms : List Monitor). ms ++ behind) (sym c.in-Some.ensures.steps) ∙ c.loop-monitor.invariant.1),
      λ is rs.
          c.lesser_of-least.ensures
          ∙ (ap (λ f. lesser_fault f c.loop-monitor.least) c.fault_of.ensures
          ∙ (ap (lesser_fault _) (c.loop-monitor.invariant.2 is rs)
          ∙ first_raised (holds (number_at c.args.values.now m.cell)) m.kind m.place (raised (listed is rs c.args.values.now) behind))),
    )

pub returns : goal.returns
returns c = λ is rs.
    c.loop-monitor.invariant.2 is rs
    ∙ ap (λ (ms : List Monitor). least_fault (raised (listed is rs c.args.values.now) ms)) (all_behind c.loop-monitor.monitor-iterator.iter.rest.now c.loop-monitor.invariant.0 c.args.aif.now.monitors c.in-None.ensures.steps.0 c.loop-monitor.invariant.1)
