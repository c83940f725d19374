use Rattle.std.proofs.Common.{rules}
use Rattle.statement_cells.specs.Surface.{depth, scope_resumed}
use Rattle.std.specs.Prelude.{true}
use Rattle.statement_builder.proofs.EndLemmas.{all_end_more, all_end_none, depth_step}
use Rattle.statement_builder.proofs.builder.Builder.end_all_resumed.Goals as goal

pub loop-scope-init : goal.loop-scope-init
loop-scope-init c = record { over = c.requires.over; ends = λ res step stay b h. h }

pub loop-scope-preserved : goal.loop-scope-preserved
loop-scope-preserved c = record {
  over = (c.in_ok-end_resumed.ensures c.args.end).over c.args.vars.now c.loop-scope.invariant.over;
  ends = λ res step stay b h. c.loop-scope.invariant.ends res step stay b (all_end_more c.args.vars.now c.loop-scope.self c.end_resumed.new.self b true c.args.labels c.loop-scope.left.items c.pop.new.self.items c.in-Some.scope c.args.end
      (λ s. depth c.args.vars.now s.copies c.args.label s.register s.term res step stay s.built) (λ o. scope_resumed c.args.vars.now o.var c.args.label c.args.labels o.first res)
      (search rules) (depth_step c.args.vars.now c.args.label c.args.labels res step stay c.requires.some) (c.in_ok-end_resumed.ensures res) h);
}

pub returns : goal.returns
returns c = λ res step stay. c.loop-scope.invariant.ends res step stay c.loop-scope.self (all_end_none c.args.vars.now c.loop-scope.self true c.args.labels c.loop-scope.left.items c.args.end (λ s. depth c.args.vars.now s.copies c.args.label s.register s.term res step stay s.built) (search rules))
