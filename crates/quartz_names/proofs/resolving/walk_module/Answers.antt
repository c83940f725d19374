use Rattle.std.proofs.Common.{◌≡◌, ◌++◌, ◌∙◌, ap}
use Rattle.quartz_tree.specs.Kernel.{kernel}
use Rattle.quartz_tree.specs.Least.{least_place, lesser_place}
use Rattle.quartz_tree.specs.Surfaces.{module_tree, written}
use Rattle.quartz_names.specs.NameRules.{repeated}
use Rattle.quartz_names.specs.Scopes.{declared}
use Rattle.quartz_names.specs.Walks.{count_in, scope_in}
use Rattle.quartz_names.proofs.WalkLemmas.{WalksModule, walks_module}
use Rattle.quartz_names.proofs.resolving.walk_module.Goals as goal

pub returns-clause-broken : goal.returns-clause-broken
returns-clause-broken c =
    (walks_module c.args.walk.now c.open.new.self c.stmt.new.self (module_tree c.args.«module».now) (written c.in_ok-expanded.expanded) (kernel c.in_ok-body.body)
    c.requires.names c.requires.decls c.requires.broken
    (c.in_ok-open.ensures.names ∙ ap (declared (scope_in c.args.walk.now) (count_in c.args.walk.now)) c.deref.ensures.value)
    (c.in_ok-open.ensures.decls ∙ ap (λ ds. c.args.walk.now.decls ++ ds) c.deref.ensures.value)
    (c.in_ok-open.ensures.broken ∙ ap (λ ds. lesser_place c.args.walk.now.broken (least_place (repeated ds))) c.deref.ensures.value)
    c.in_ok-expanded.ensures c.in_ok-body.ensures).broken
