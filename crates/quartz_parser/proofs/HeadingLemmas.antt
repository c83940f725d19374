-- The heads of modules, by the mark that comes.
use Rattle.std.proofs.Common.{◌≡◌, true, false, List, [], ◌∷◌, Option, Some, None, refl}
use Rattle.quartz_tree.specs.declared.declare.Decl.{Decl}
use Rattle.quartz_tree.specs.declared.declare.Flow.TheVariants.{Input, Output}
use Rattle.quartz_parser.specs.declared.symbol.Mark.TheVariants as m
use Rattle.quartz_parser.specs.declared.declaring.Typing.{Typing}
use Rattle.quartz_parser.specs.Grammar.{declared_as, taken}
use Rattle.quartz_parser.specs.Tokens.{Token, mark}
use Rattle.quartz_parser.specs.Machine.{State, a_name, init, flow, after_param, first_param_on, flow_on, head_on}
use Rattle.quartz_parser.specs.Views.{is_mark}

pub first_closes : (next : List Decl → State) (t : Token) → is_mark m.Close t ≡ true → Some (next []) ≡ first_param_on next t
first_closes next (mark m.Close p) h = refl
first_closes next (mark _ p) h = cc
first_closes next _ h = cc

pub first_goes : (next : List Decl → State) (t : Token) → is_mark m.Close t ≡ false →
    head_on (λ ty. flow ty (λ d. after_param (d ∷ []) (taken d) next)) t None ≡ first_param_on next t
first_goes next (mark m.Close p) h = cc
first_goes next (mark _ p) h = refl
first_goes next _ h = refl

module _ (ty : Typing) (next : Decl → State) where
  pub flow_input : (t : Token) (outer : Option State) → is_mark m.Question t ≡ true → Some (a_name (λ x p. next (declared_as ty Input x p None))) ≡ flow_on ty next t outer
  flow_input (mark m.Question p) outer h = refl
  flow_input (mark _ p) outer h = cc
  flow_input _ outer h = cc

  pub flow_output : (t : Token) (outer : Option State) → is_mark m.Bang t ≡ true → Some (a_name (λ x p. init (λ i. next (declared_as ty Output x p i)))) ≡ flow_on ty next t outer
  flow_output (mark m.Bang p) outer h = refl
  flow_output (mark _ p) outer h = cc
  flow_output _ outer h = cc

  pub flow_none : (t : Token) (outer : Option State) → is_mark m.Question t ≡ false → is_mark m.Bang t ≡ false → outer ≡ flow_on ty next t outer
  flow_none (mark m.Question p) outer h g = cc
  flow_none (mark m.Bang p) outer h g = cc
  flow_none (mark _ p) outer h g = refl
  flow_none _ outer h g = refl
