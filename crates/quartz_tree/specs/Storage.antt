-- What a variable holds in a step in which nothing writes it.
use Rattle.std.specs.Prelude.{Bool, true, false}
use Rattle.quartz_tree.specs.declared.declare.Storage.{Storage}
use Rattle.quartz_tree.specs.declared.declare.Storage.TheVariants.{Mem, Event}

-- its previous value
abbrev pub is_memorized : Storage → Bool
is_memorized Mem = true
is_memorized Event = false
