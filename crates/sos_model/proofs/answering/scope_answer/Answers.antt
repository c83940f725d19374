use Rattle.std.proofs.Common.{option_map, take, rules}
use Rattle.sos_model.specs.FormTerms.{term}
use Rattle.sos_model.proofs.WalkedLemmas.{left_err_is, left_ok_is}
use Rattle.sos_model.proofs.answering.scope_answer.Goals as goal

pub returns-in-Err-clause-walked : goal.returns-in-Err-clause-walked
returns-in-Err-clause-walked c =
    left_err_is c.args.vars.now c.args.env.now.values c.args.scope.var (option_map (λ v. v.items) c.args.scope.store.now) (term c.args.scope.body.now) c.args.given.now c.args.before c.args.entry.read.items
    c.args.entry.store.items c.args.inner _ c.in-Err.is c.requires.store c.requires.enough c.requires.read c.requires.within c.requires.walked

pub returns-in_ok-leave-in-Ok-clause-walked : goal.returns-in_ok-leave-in-Ok-clause-walked
returns-in_ok-leave-in-Ok-clause-walked c =
    left_ok_is c.args.vars.now c.args.env.now.values c.args.scope.var (option_map (λ v. v.items) c.args.scope.store.now) (term c.args.scope.body.now) c.args.given.now c.args.before c.args.entry.read.items
    (take c.len.result c.args.given.now) c.args.entry.store.items c.args.inner c.in-Ok.found _ c.in-Ok.is c.requires.store c.requires.enough c.requires.read c.requires.within c.requires.walked
    (search rules) (search rules) (search rules)
