-- What the program's values for the heads of modules stand for in the reader.
use Rattle.std.specs.Prelude.{◌≡◌, List, [], ◌∷◌, ◌++◌, Option, Some, None}
use Rattle.quartz_tree.specs.declared.declare.Decl.{Decl}
use Rattle.quartz_tree.specs.declared.declare.Flow.TheVariants.{Input, Output}
use Rattle.quartz_tree.specs.Surfaces.{Word, ModuleTree}
use Rattle.quartz_parser.specs.declared.symbol.Mark.TheVariants as m
use Rattle.quartz_parser.specs.declared.heading.Header.{Header}
use Rattle.quartz_parser.specs.declared.heading.Heading.{Heading}
use Rattle.quartz_parser.specs.declared.heading.Heading.TheVariants as h
use Rattle.quartz_parser.specs.declared.heading.Course.{Course}
use Rattle.quartz_parser.specs.declared.heading.Course.TheVariants.{Taken, Body, Stuck}
use Rattle.quartz_parser.specs.Grammar.{declared_as}
use Rattle.quartz_parser.specs.Tokens.{Token}
use Rattle.quartz_parser.specs.Machine.{State, expect, a_name, first_param, after_param, next_param, flow, init, decls, param_more, step}
use Rattle.quartz_parser.specs.Views.{behind, type_state, init_state}

-- what comes behind the parameters
abbrev pub params_next : Word → (ModuleTree → State) → List Decl → State
params_next x next ds = expect m.OpenBrace (decls 63 [] (λ b. next (record { name = x; params = ds; body = b })))

abbrev pub heading_state : Heading → Word → List Decl → (ModuleTree → State) → State
heading_state h.Named x ds next = a_name (λ y q. expect m.Open (first_param (params_next y next)))
heading_state h.First x ds next = first_param (params_next x next)
heading_state (h.AfterParam last) x ds next = after_param ds last (params_next x next)
heading_state (h.Next last) x ds next = next_param ds last (params_next x next)
heading_state (h.Type part) x ds next = type_state part (λ ty. flow ty (param_more ds (params_next x next)))
heading_state (h.Input ty) x ds next = a_name (λ y p. param_more ds (params_next x next) (declared_as ty Input y p None))
heading_state (h.Output ty) x ds next = a_name (λ y p. init (λ i. param_more ds (params_next x next) (declared_as ty Output y p i)))
heading_state (h.Init part ty y p) x ds next = init_state part (λ i. param_more ds (params_next x next) (declared_as ty Output y p i))

-- the state behind a token, by what it does before the body
abbrev pub course : Course → Word → List Decl → (ModuleTree → State) → Option State
course (Taken marks h) x ds next = Some (behind marks (heading_state h x ds next))
course Body x ds next = Some (params_next x next ds)
course Stuck x ds next = None

-- the token makes of the header before, where this was to come, the header after it and the course
abbrev pub Goes : Course → (before after : Header) → Token → Heading → Type 0
Goes c before after t h = (k : ModuleTree → State) → course c after.name after.params.items k ≡ step (heading_state h before.name before.params.items k) t
