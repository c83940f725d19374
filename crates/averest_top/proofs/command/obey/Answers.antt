use Rattle.std.specs.Prelude.{Some, None}
use Rattle.averest_top.proofs.CommandLemmas.{no_task, task_of_words}
use Rattle.averest_top.proofs.EndLemmas.{comes_of_words}
use Rattle.averest_top.proofs.command.obey.Goals as goal

pub returns-in-Ok-clause-absent : goal.returns-in-Ok-clause-absent
returns-in-Ok-clause-absent g c = λ name t m l. c.do_command.ensures.absent name t (task_of_words c.args.words.now _ (Some (name, t)) c.in-Ok.ensures.command m) l

pub returns-in-Ok-clause-of_text : goal.returns-in-Ok-clause-of_text
returns-in-Ok-clause-of_text g c = λ name text t m h. c.do_command.ensures.of_text name text t (task_of_words c.args.words.now _ (Some (name, t)) c.in-Ok.ensures.command m) h

pub returns-in-Ok-clause-unavailable : goal.returns-in-Ok-clause-unavailable
returns-in-Ok-clause-unavailable g c = λ name t m s. c.do_command.ensures.unavailable name t (task_of_words c.args.words.now _ (Some (name, t)) c.in-Ok.ensures.command m) s

pub returns-in-Ok-clause-untaken : goal.returns-in-Ok-clause-untaken
returns-in-Ok-clause-untaken g c = λ name t m r. c.do_command.ensures.untaken name t (task_of_words c.args.words.now _ (Some (name, t)) c.in-Ok.ensures.command m) r

pub returns-in-Ok-clause-unasked : goal.returns-in-Ok-clause-unasked
returns-in-Ok-clause-unasked g c = λ m. c.do_command.ensures.unasked (no_task _ (task_of_words c.args.words.now _ None c.in-Ok.ensures.command m))

pub returns-in-Ok-clause-possible : goal.returns-in-Ok-clause-possible
returns-in-Ok-clause-possible g c = comes_of_words c.args.words.now _ c.do_command.result c.in-Ok.ensures.command c.do_command.ensures.possible
