use Rattle.std.proofs.Common.{rules}
use Rattle.statement_cells.specs.Surface.{scope_started, surface}
use Rattle.std.specs.Prelude.{false}
use Rattle.statement_builder.proofs.EndLemmas.{all_end_more, all_end_none, surface_step}
use Rattle.statement_builder.proofs.builder.Builder.end_all_started.Goals as goal

pub loop-scope-init : goal.loop-scope-init
loop-scope-init c = record { over = c.requires.over; ends = λ label b h. h }

pub loop-scope-preserved : goal.loop-scope-preserved
loop-scope-preserved c = record {
  over = c.in_ok-end_started.ensures.over c.args.vars.now c.loop-scope.invariant.over;
  ends = λ label b h. c.loop-scope.invariant.ends label b (all_end_more c.args.vars.now c.loop-scope.self c.end_started.new.self b false c.args.labels c.loop-scope.left.items c.pop.new.self.items c.in-Some.scope c.args.end
      (λ s. surface c.args.vars.now s.copies label s.register s.term c.args.go c.args.step s.built) (λ o. scope_started c.args.vars.now o.var c.args.labels o.first c.args.go c.args.step)
      (search rules) (surface_step c.args.vars.now label c.args.labels c.args.go c.args.step c.requires.starts) c.in_ok-end_started.ensures h);
}

pub returns : goal.returns
returns c = λ label. c.loop-scope.invariant.ends label c.loop-scope.self (all_end_none c.args.vars.now c.loop-scope.self false c.args.labels c.loop-scope.left.items c.args.end (λ s. surface c.args.vars.now s.copies label s.register s.term c.args.go c.args.step s.built) (search rules))
