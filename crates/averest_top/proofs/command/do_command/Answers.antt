use Rattle.std.proofs.Common.{◌≡◌, ◌⊎◌, ℕ, List, subst}
use Rattle.outside.specs.Bytes.{Rose, Unfetched}
use Rattle.outside.specs.declared.status.Status.TheVariants as status
use Rattle.trace_io.specs.Held.{CalledAtMost}
use Rattle.averest_top.specs.declared.task.Task.{Task}
use Rattle.averest_top.specs.Promise.{HasText, LacksText, OfText}
use Rattle.averest_top.proofs.CommandLemmas.{calls_of_task, never_asked, same_task}
use Rattle.averest_top.specs.Commands.{asked_in}
use Rattle.averest_top.proofs.EndLemmas.{comes_before, comes_of_task}
use Rattle.averest_top.proofs.command.do_command.Goals as goal

pub returns-in-Some-clause-asked : goal.returns-in-Some-clause-asked
returns-in-Some-clause-asked g c = subst (λ (n : ℕ). CalledAtMost n (g.S.Source.calls c.args.input.now) (g.S.Source.calls c.do_module.new.input)) (calls_of_task c.args.command.now c.in-Some.task c.in-Some.ensures) c.do_module.ensures.asked

pub returns-in-Some-clause-unavailable : goal.returns-in-Some-clause-unavailable
returns-in-Some-clause-unavailable g c = λ name t a.
    same_task (λ (n : List ℕ) (u : Task). c.do_module.result ≡ status.ModuleUnavailable → Unfetched (g.F.Shelf.texts c.args.shelf.now) n (g.F.Shelf.faults c.args.shelf.now) (g.F.Shelf.faults c.do_module.new.shelf))
    c.args.command.now c.module_of.result.now c.in-Some.task name t c.module_of.ensures c.in-Some.ensures a c.do_module.ensures.unavailable

pub returns-in-Some-clause-absent : goal.returns-in-Some-clause-absent
returns-in-Some-clause-absent g c = λ name t a.
    same_task (λ (n : List ℕ) (u : Task). LacksText (g.F.Shelf.texts c.args.shelf.now) n → (c.do_module.result ≡ status.ModuleUnavailable) ⊎ (c.do_module.result ≡ status.NoMemory))
    c.args.command.now c.module_of.result.now c.in-Some.task name t c.module_of.ensures c.in-Some.ensures a c.do_module.ensures.absent

pub returns-in-Some-clause-of_text : goal.returns-in-Some-clause-of_text
returns-in-Some-clause-of_text g c = λ name text t a h.
    same_task
    (λ (n : List ℕ) (u : Task). HasText (g.F.Shelf.texts c.args.shelf.now) n text →
    OfText text u (g.S.Source.left c.args.input.now) (g.S.Source.left c.do_module.new.input) (g.O.Sink.stands c.args.out.now) (g.O.Sink.stands c.do_module.new.out)
    (Rose (g.F.Shelf.faults c.args.shelf.now) (g.F.Shelf.faults c.do_module.new.shelf)) (Rose (g.S.Source.faults c.args.input.now) (g.S.Source.faults c.do_module.new.input)) (Rose (g.O.Sink.faults c.args.out.now) (g.O.Sink.faults c.do_module.new.out)) c.do_module.result)
    c.args.command.now c.module_of.result.now c.in-Some.task name t c.module_of.ensures c.in-Some.ensures a (c.do_module.ensures.of_text text) h

pub returns-in-None-clause-unavailable : goal.returns-in-None-clause-unavailable
returns-in-None-clause-unavailable g c = λ name t a. never_asked c.args.command.now name t c.in-None.ensures a

pub returns-in-None-clause-absent : goal.returns-in-None-clause-absent
returns-in-None-clause-absent g c = λ name t a. never_asked c.args.command.now name t c.in-None.ensures a

pub returns-in-None-clause-of_text : goal.returns-in-None-clause-of_text
returns-in-None-clause-of_text g c = λ name text t a. never_asked c.args.command.now name t c.in-None.ensures a

pub returns-in-Some-clause-possible : goal.returns-in-Some-clause-possible
returns-in-Some-clause-possible g c = comes_of_task c.args.command.now c.in-Some.task c.do_module.result c.in-Some.ensures c.do_module.ensures.possible

pub returns-in-None-clause-possible : goal.returns-in-None-clause-possible
returns-in-None-clause-possible g c = comes_before (asked_in c.args.command.now) c.status_of_fault.result (rw c.status_of_fault.ensures tt)
