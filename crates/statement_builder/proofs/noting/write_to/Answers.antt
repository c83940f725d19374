use Rattle.std.proofs.Common.{rules, ◌≡◌, ◌∙◌, ap, get_or}
use Rattle.std.specs.Prelude.{Some}
use Rattle.std.proofs.lemmas.Option.{slice_get-get_or}
use Rattle.statement_builder.specs.declared.builder.OpenVar.{OpenVar}
use Rattle.statement_builder.proofs.NotingLemmas.{more_writes}
use Rattle.statement_builder.proofs.noting.write_to.Goals as goal

pub returns : goal.returns
returns c =
    let read : get_or c.args.variables.now.items c.args.action.var c.index_mut.result.now ≡ c.index_mut.result.now = search rules in
    more_writes c.args.variables.now.items c.args.action c.index_mut.result.now c.write_more.new.variable c.requires
    (slice_get-get_or c.args.variables.now.items c.args.action.var c.index_mut.result.now c.requires ∙ ap (λ (o : OpenVar). Some o) read) c.in_ok-write_more.ensures
