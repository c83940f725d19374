-- Which inputs a header can name.
use Rattle.std.specs.Prelude.{◌≡◌, ℕ, false, List, [], ◌∷◌, ◌++◌, map}
use Rattle.quartz_tree.specs.declared.declare.Decl.{Decl}
use Rattle.quartz_tree.specs.declared.declare.Flow.TheVariants.{Input}
use Rattle.quartz_tree.specs.Surfaces.{ModuleTree}
use Rattle.quartz_lexer.specs.Lexing.{Lexeme, Lexes}
use Rattle.quartz_parser.specs.Parsing.{DerivesText}
use Rattle.quartz_names.specs.NameRules.{repeated}
use Rattle.quartz_expr.specs.Vars.{Vars}
use Rattle.trace_io.specs.Inputs.{same_flow}
use Rattle.trace_writer.specs.Words.{CanBeNamed}

-- none of them is an input
abbrev pub AreNoInputs : List Decl → Type 0
AreNoInputs [] = Unit {0}
AreNoInputs (d ∷ ds) = (same_flow Input d.flow ≡ false) × AreNoInputs ds

-- variables that are declared as the parameters of the first module of a text, none of which has the name of one before, and then others
-- that are no inputs, have inputs that can be named
abbrev pub ParametersCanBeNamed : Type 0
ParametersCanBeNamed = (text : List ℕ) (lexemes : List Lexeme) (m : ModuleTree) (modules : List ModuleTree) (others : List Decl) (vs : Vars)
    → Lexes text lexemes → DerivesText lexemes (m ∷ modules) → repeated m.params ≡ [] → AreNoInputs others → map (λ v. v.decl) vs ≡ m.params ++ others → CanBeNamed vs
