use Rattle.std.proofs.Common.{sym, ap, ◌∙◌}
use Rattle.std.specs.Prelude.{option_map}
use Rattle.quartz_parser.specs.ReaderViews.{control_state}
use Rattle.quartz_parser.proofs.ReaderLemmas.{read_on, stops_on}
use Rattle.quartz_parser.proofs.parsing.read.Goals as goal

pub loop-token-preserved : goal.loop-token-preserved
loop-token-preserved c =
    read_on c.args.many c.args.text.now c.args.tokens.now.items.items c.deref-token-items.result.now c.loop-token.token-index _ (control_state c.args.many c.loop-token.control c.loop-token.reader) c.read_item-item.result
    (control_state c.args.many c.in-Some.next c.take.new.reader) c.deref-token-items.ensures.value c.loop-token-test.true c.loop-token.invariant c.read_item-item.ensures
    (sym c.in_ok-next.ensures ∙ ap (option_map (λ x. control_state c.args.many x c.take.new.reader)) c.in-Some.is)

pub returns-in-None-clause-broken : goal.returns-in-None-clause-broken
returns-in-None-clause-broken c = λ p e.
    stops_on c.args.many c.args.text.now c.args.tokens.now.items.items c.deref-token-items.result.now c.loop-token.token-index _ (control_state c.args.many c.loop-token.control c.loop-token.reader) c.read_item-item.result
    p c.deref-token-items.ensures.value c.loop-token-test.true c.loop-token.invariant c.read_item-item.ensures
    (sym c.in_ok-next.ensures ∙ ap (option_map (λ x. control_state c.args.many x c.take.new.reader)) c.in-None.is) e
