use Rattle.std.proofs.Common.{Ok, Err, inl, inr}
use Rattle.averest_top.specs.Commands.{wants_pairs_in}
use Rattle.averest_top.proofs.PromiseLemmas.{built_for, done_text, refused_text, strict_wants}
use Rattle.averest_top.proofs.TaskLemmas.{parts_ready}
use Rattle.averest_top.proofs.EndLemmas.{refusal_before}
use Rattle.averest_top.proofs.fetching.do_text.Goals as goal

pub build-requires : goal.build-requires
build-requires g c = strict_wants c.args.task _ _ c.is_strict.ensures c.wants_pairs.ensures

pub do_task-requires : goal.do_task-requires
do_task-requires g c = record { ready = parts_ready c.is_strict.result c.wants_pairs.result c.args.text.now c.in-Ok.ensures.0 c.in-Ok.built c.in-Ok.ensures.1 c.in-Ok.ensures.2 }

pub returns-in-Ok-clause-of_text : goal.returns-in-Ok-clause-of_text
returns-in-Ok-clause-of_text g c =
    let b = built_for c.args.text.now c.args.task c.is_strict.result c.wants_pairs.result (Ok c.in-Ok.built) c.is_strict.ensures c.wants_pairs.ensures c.in-Ok.ensures in
    done_text c.args.text.now c.args.task _ _ _ _ _ _ _ b.0 c.do_task.result b.1 c.do_task.ensures.of_task (c.do_task.ensures.done b.0 b.2)

pub returns-in-Err-clause-of_text : goal.returns-in-Err-clause-of_text
returns-in-Err-clause-of_text g c =
    rw c.status_of_fault.ensures (refused_text c.args.text.now c.args.task _ _ _ _ _ _ _ (wants_pairs_in c.args.task) c.in-Err.fault
    (built_for c.args.text.now c.args.task c.is_strict.result c.wants_pairs.result (Err c.in-Err.fault) c.is_strict.ensures c.wants_pairs.ensures c.in-Err.ensures))

pub returns-in-Ok-clause-possible : goal.returns-in-Ok-clause-possible
returns-in-Ok-clause-possible g c = inr c.do_task.ensures.ends

pub returns-in-Err-clause-possible : goal.returns-in-Err-clause-possible
returns-in-Err-clause-possible g c = rw c.status_of_fault.ensures (inl (refusal_before c.in-Err.fault))
