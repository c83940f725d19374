-- What a typed module is to its cells.
use Rattle.quartz_tree.specs.Kernel.{kernel}
use Rattle.quartz_expr.specs.Terms.{term_of}
use Rattle.quartz_types.specs.declared.typed.Typed.{Typed}
use Rattle.statement_cells.specs.Meaning.{IsSoundModule}

-- a typed module meets what its compilation needs
abbrev pub TypedBodiesAreSound : Type 0
TypedBodiesAreSound = (t : Typed) → IsSoundModule t.resolved.vars (term_of (kernel t.resolved.body))
