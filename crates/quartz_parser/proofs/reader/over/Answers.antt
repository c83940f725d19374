use Rattle.std.proofs.Common.{◌∙◌}
use Rattle.quartz_tree.specs.Surfaces.{written}
use Rattle.quartz_parser.specs.StatementViews.{open_next}
use Rattle.quartz_parser.specs.ReaderViews.{body_next}
use Rattle.quartz_parser.proofs.Frames.{open_popped}
use Rattle.quartz_parser.proofs.reader.over.Goals as goal

pub returns-in_ok-turn-in-Some-clause-is : goal.returns-in_ok-turn-in-Some-clause-is
returns-in_ok-turn-in-Some-clause-is c =
    c.in_ok-turn-in-Some.ensures.is (open_next c.pop.new.self.items (body_next c.args.many c.args.reader.now))
    ∙ open_popped c.args.reader.now.waiting.items c.pop.new.self.items c.in-Some.waiting (body_next c.args.many c.args.reader.now) (written c.args.inner) c.in-Some.ensures.items
