use Rattle.std.proofs.Common.{inr}
use Rattle.averest_top.proofs.TaskLemmas.{converts, parts_execute, says_size, writes_cells}
use Rattle.averest_top.proofs.EndLemmas.{convert_ends, load_ends, run_ends, written_ends}
use Rattle.averest_top.proofs.doing.do_task.Goals as goal

pub returns-in-Run-clause-done : goal.returns-in-Run-clause-done
returns-in-Run-clause-done g c = rw c.in-Run.is (λ m p. c.run_built.ensures.done _ _ (parts_execute _ m c.args.built.now p))

pub returns-in-Check-clause-done : goal.returns-in-Check-clause-done
returns-in-Check-clause-done g c = rw c.in-Check.is (λ m p. inr (says_size m c.args.built.now _ _ _ c.check_built.result p c.check_built.ensures.written))

pub returns-in-Aif-clause-done : goal.returns-in-Aif-clause-done
returns-in-Aif-clause-done g c = rw c.in-Aif.is (λ m p. inr (writes_cells _ m c.args.built.now _ _ _ c.write_built.result p c.write_built.ensures.written))

pub returns-in-Load-clause-done : goal.returns-in-Load-clause-done
returns-in-Load-clause-done g c = rw c.in-Load.is (λ m p. c.load_built.ensures.done _ _ (parts_execute _ m c.args.built.now p))

pub returns-in-Run-clause-ends : goal.returns-in-Run-clause-ends
returns-in-Run-clause-ends g c = rw c.in-Run.is (run_ends c.in-Run.most_steps c.run_built.result c.run_built.ensures.of_task)

pub returns-in-Check-clause-ends : goal.returns-in-Check-clause-ends
returns-in-Check-clause-ends g c = written_ends c.args.task c.check_built.result c.check_built.ensures.ends

pub returns-in-Aif-clause-ends : goal.returns-in-Aif-clause-ends
returns-in-Aif-clause-ends g c = written_ends c.args.task c.write_built.result c.write_built.ensures.ends

pub returns-in-Load-clause-ends : goal.returns-in-Load-clause-ends
returns-in-Load-clause-ends g c = rw c.in-Load.is (load_ends c.in-Load.seed c.in-Load.steps c.load_built.result c.load_built.ensures.of_task c.load_built.ensures.no_read_fault)

pub returns-in-Convert-clause-done : goal.returns-in-Convert-clause-done
returns-in-Convert-clause-done g c = rw c.in-Convert.is (λ m p. converts _ m c.args.built.now _ _ _ _ _ _ _ c.convert_built.result p c.convert_built.ensures.done)

pub returns-in-Convert-clause-of_task : goal.returns-in-Convert-clause-of_task
returns-in-Convert-clause-of_task g c = (convert_ends c.in-Convert.to c.convert_built.result c.convert_built.ensures.ends).0

pub returns-in-Convert-clause-ends : goal.returns-in-Convert-clause-ends
returns-in-Convert-clause-ends g c = rw c.in-Convert.is ((convert_ends c.in-Convert.to c.convert_built.result c.convert_built.ensures.ends).1)
