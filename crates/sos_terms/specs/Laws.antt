-- What a typed module is to the semantics.
use Rattle.std.specs.Prelude.{◌≡◌, true}
use Rattle.quartz_tree.specs.Kernel.{kernel}
use Rattle.quartz_expr.specs.Terms.{term_of}
use Rattle.quartz_expr.specs.Typed.{AreSound}
use Rattle.quartz_types.specs.declared.typed.Typed.{Typed}
use Rattle.sos_model.specs.Sound.{is_sound}

-- the variables and the body of a typed module meet what a walk of its term needs
abbrev pub TypedBodiesReact : Type 0
TypedBodiesReact = (t : Typed) → AreSound t.resolved.vars × (is_sound t.resolved.vars (term_of (kernel t.resolved.body)) ≡ true)
