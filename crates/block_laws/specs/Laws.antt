-- What is declared where in a module.
use Rattle.std.specs.Prelude.{◌≡◌, ◌⊎◌, Bool, true, false, List, [], ◌∷◌, All}
use Rattle.quartz_tree.specs.declared.declare.Decl.{Decl}
use Rattle.quartz_tree.specs.declared.declare.Flow.TheVariants.{Input, Output, Inner}
use Rattle.quartz_tree.specs.Expand.{expanded}
use Rattle.quartz_tree.specs.Surfaces.{Written, block, ModuleTree}
use Rattle.quartz_lexer.specs.Lexing.{Lexeme}
use Rattle.quartz_parser.specs.Parsing.{DerivesText}
use Rattle.quartz_names.specs.Numbering.{locals}

-- each is an input or an output
abbrev pub AreOuter : List Decl → Type 0
AreOuter [] = Unit {0}
AreOuter (d ∷ ds) = ((d.flow ≡ Input) ⊎ (d.flow ≡ Output)) × AreOuter ds

-- each is a local
abbrev pub AreInner : List Decl → Type 0
AreInner [] = Unit {0}
AreInner (d ∷ ds) = (d.flow ≡ Inner) × AreInner ds

abbrev pub is_block : Written → Bool
is_block (block _ _) = true
is_block _ = false

-- the parameters are inputs and outputs, the body is a block, and all that is declared in it are locals
pub record DeclaresInPlace (m : ModuleTree) : Type 0 where
  pub params : AreOuter m.params
  pub body : is_block m.body ≡ true
  pub inner : AreInner (locals (expanded m.body))

-- so do the modules that tokens derive
abbrev pub ModulesDeclareInPlace : Type 0
ModulesDeclareInPlace = (lexemes : List Lexeme) (modules : List ModuleTree) → DerivesText lexemes modules → All DeclaresInPlace modules
