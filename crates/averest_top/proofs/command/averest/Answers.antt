use Rattle.outside.specs.Bytes.{Rose}
use Rattle.averest_top.specs.declared.task.Task.TheVariants as task
use Rattle.averest_top.proofs.PromiseLemmas.{accepted_does, accepted_else, new_outcome, refused_exactly, run_outcome}
use Rattle.averest_top.proofs.CompleteLemmas.{has_told}
use Rattle.averest_top.proofs.ConflictLemmas.{accepted_anyhow, conflict_flagged, never_conflict}
use Rattle.averest_top.proofs.command.averest.Goals as goal

pub returns-clause-refused : goal.returns-clause-refused
returns-clause-refused g c = λ name text t m h r p. refused_exactly text t _ _ _ _ _ _ _ c.obey-status.result (c.obey-status.ensures.of_text name text t m h) r p

pub returns-clause-accepted : goal.returns-clause-accepted
returns-clause-accepted g c = λ name text t m h. accepted_else text t _ _ _ _ _ _ _ c.obey-status.result (c.obey-status.ensures.of_text name text t m h)

pub returns-clause-story : goal.returns-clause-story
returns-clause-story g c = λ name text most m h tree trace a e. run_outcome text most _ _ _ _ _ _ _ c.obey-status.result (c.obey-status.ensures.of_text name text (task.Run most) m h) tree trace a e

pub returns-clause-complete : goal.returns-clause-complete
returns-clause-complete g c = λ name text most m h tree trace a e no_shelf no_input no_out written end s.
    has_told text tree trace most _ _ _ _ _ _ c.obey-status.result a
    (run_outcome text most _ _ _ _ _ _ _ c.obey-status.result (c.obey-status.ensures.of_text name text (task.Run most) m h) tree trace a e) no_shelf no_input no_out written end s

pub returns-clause-size : goal.returns-clause-size
returns-clause-size g c = λ name text strict m h tree a. accepted_does text (task.Check strict) (g.S.Source.left c.args.input.now) (g.S.Source.left c.obey-status.new.input) _ _ _ (Rose (g.S.Source.faults c.args.input.now) (g.S.Source.faults c.obey-status.new.input)) _ c.obey-status.result (c.obey-status.ensures.of_text name text (task.Check strict) m h) tree a

pub returns-clause-cells : goal.returns-clause-cells
returns-clause-cells g c = λ name text m h tree a. accepted_does text task.Aif (g.S.Source.left c.args.input.now) (g.S.Source.left c.obey-status.new.input) _ _ _ (Rose (g.S.Source.faults c.args.input.now) (g.S.Source.faults c.obey-status.new.input)) _ c.obey-status.result (c.obey-status.ensures.of_text name text task.Aif m h) tree a

pub returns-clause-load : goal.returns-clause-load
returns-clause-load g c = λ name text seed steps m h tree a. accepted_does text (task.Load seed steps) (g.S.Source.left c.args.input.now) (g.S.Source.left c.obey-status.new.input) _ _ _ (Rose (g.S.Source.faults c.args.input.now) (g.S.Source.faults c.obey-status.new.input)) _ c.obey-status.result (c.obey-status.ensures.of_text name text (task.Load seed steps) m h) tree a

pub returns-clause-conflicts : goal.returns-clause-conflicts
returns-clause-conflicts g c = λ name text most m h tree trace a e k p s.
    conflict_flagged text tree trace most k p _ _ _ _ _ _ c.obey-status.result a
    (run_outcome text most _ _ _ _ _ _ _ c.obey-status.result (c.obey-status.ensures.of_text name text (task.Run most) m h) tree trace a e) s

pub returns-clause-tight : goal.returns-clause-tight
returns-clause-tight g c = λ name text most m h tree trace a e k p s.
    never_conflict text tree trace most k p _ _ _ _ _ _ c.obey-status.result a
    (run_outcome text most _ _ _ _ _ _ _ c.obey-status.result (c.obey-status.ensures.of_text name text (task.Run most) m h) tree trace (accepted_anyhow text tree a) e) s

pub returns-clause-convert : goal.returns-clause-convert
returns-clause-convert g c = λ name text to m h tree trace a e. new_outcome text to _ _ _ _ _ _ _ c.obey-status.result (c.obey-status.ensures.of_text name text (task.Convert to) m h) tree trace a e
