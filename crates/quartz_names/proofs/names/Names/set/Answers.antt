use Rattle.std.proofs.Common.{◌∙◌, ap}
use Rattle.quartz_names.specs.Scopes.{standing}
use Rattle.quartz_names.specs.Walks.{scope_of}
use Rattle.quartz_names.proofs.ScopeLemmas.{set_stands}
use Rattle.quartz_names.proofs.names.Names.set.Goals as goal

pub returns : goal.returns
returns c = set_stands c.args.self.now (record { numbers = c.insert.new.self }) _ _ c.in_ok-insert.ensures.updates ∙ ap (λ x. standing (scope_of c.args.self.now) x c.args.number) (c.in_ok-key.ensures.ok ∙ c.text.ensures)
