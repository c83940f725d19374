use Rattle.std.proofs.Common.{◌∙◌, ap, refl}
use Rattle.quartz_tree.specs.Surfaces.{goal_of}
use Rattle.quartz_tree.specs.Tree.{tree}
use Rattle.quartz_names.proofs.KernelLemmas.{kernel_write}
use Rattle.quartz_names.proofs.WalkLemmas.{walks_as, walks_write}
use Rattle.quartz_names.proofs.walk.Walk.write.Goals as goal

pub returns : goal.returns
returns c =
    walks_as _ _ _ _ _ _ refl (kernel_write c.number_in-var.result c.in_ok-index.index c.in_ok-read.field-0 c.args.delayed c.args.place c.args.target.now.place)
    (walks_write c.args.self.now c.note.new.self c.read_index.new.self c.read.new.self (goal_of c.args.target.now) (tree c.args.value.now) c.args.delayed c.args.place _ _ _ _
    c.undeclared_at-unknown.ensures c.note.ensures.names c.note.ensures.decls c.note.ensures.broken
    c.number_in-var.ensures c.in_ok-index.ensures.read c.in_ok-index.ensures.notes c.in_ok-read.ensures.read c.in_ok-read.ensures.notes)
