-- Each name of a module is a word: a letter or underscore, then letters, digits and underscores.
use Rattle.std.specs.Prelude.{List, All, Option, Some, None}
use Rattle.quartz_tree.specs.declared.declare.Decl.{Decl}
use Rattle.quartz_tree.specs.declared.surface.Arg.{Arg}
use Rattle.quartz_tree.specs.Tree as tree
use Rattle.quartz_tree.specs.Tree.{Tree}
use Rattle.quartz_tree.specs.Surfaces as plain
use Rattle.quartz_tree.specs.Surfaces.{Word, Goal, Written, Branch, Branches, ModuleTree}
use Rattle.quartz_lexer.specs.Spelling.{IsWord}

-- each name in the expression
abbrev pub WordsIn : Tree Word → Type 0
WordsIn (tree.truth _ _) = Unit {0}
WordsIn (tree.number _ _) = Unit {0}
WordsIn (tree.bits _ _ _) = Unit {0}
WordsIn (tree.named x _) = IsWord x
WordsIn (tree.element x e _) = IsWord x × WordsIn e
WordsIn (tree.one _ e _) = WordsIn e
WordsIn (tree.two _ a b _) = WordsIn a × WordsIn b
WordsIn (tree.choice c a b _) = WordsIn c × WordsIn a × WordsIn b
WordsIn (tree.slice e _ _ _) = WordsIn e
WordsIn (tree.to_nat e _) = WordsIn e
WordsIn (tree.to_bv e _ _ _) = WordsIn e
WordsIn (tree.paren e _) = WordsIn e

abbrev pub WordsInIndex : Option (Tree Word) → Type 0
WordsInIndex None = Unit {0}
WordsInIndex (Some e) = WordsIn e

abbrev pub WordsInGoal : Goal → Type 0
WordsInGoal g = IsWord g.name × WordsInIndex g.index

abbrev pub WordsInDecls : List Decl → Type 0
WordsInDecls ds = All (λ d. IsWord d.name) ds

abbrev pub WordsInArgs : List Arg → Type 0
WordsInArgs xs = All (λ x. IsWord x.name) xs

-- each name in the statement
abbrev mutual
  pub WordsInStmt : Written → Type 0
  WordsInStmt plain.empty = Unit {0}
  WordsInStmt plain.pause = Unit {0}
  WordsInStmt (plain.halt _) = Unit {0}
  WordsInStmt (plain.await _ c _) = WordsIn c
  WordsInStmt (plain.emit _ g _) = WordsInGoal g
  WordsInStmt (plain.write _ g e _) = WordsInGoal g × WordsIn e
  WordsInStmt (plain.block ds bs) = WordsInDecls ds × WordsInBranches bs
  WordsInStmt (plain.choose c a b) = WordsIn c × WordsInStmt a × WordsInStmt b
  WordsInStmt (plain.choose_one c a) = WordsIn c × WordsInStmt a
  WordsInStmt (plain.loop s _) = WordsInStmt s
  WordsInStmt (plain.always s _) = WordsInStmt s
  WordsInStmt (plain.while c s _) = WordsIn c × WordsInStmt s
  WordsInStmt (plain.do_while s c _) = WordsInStmt s × WordsIn c
  WordsInStmt (plain.guard _ _ _ s c) = WordsInStmt s × WordsIn c
  WordsInStmt (plain.call x args _) = IsWord x × WordsInArgs args

  pub WordsInBranch : Branch → Type 0
  WordsInBranch plain.done = Unit {0}
  WordsInBranch (plain.then s rest) = WordsInStmt s × WordsInBranch rest

  pub WordsInBranches : Branches → Type 0
  WordsInBranches plain.none = Unit {0}
  WordsInBranches (plain.beside b rest) = WordsInBranch b × WordsInBranches rest

-- the module's name, and each name of its parameters and in its body
pub record WordsInModule (m : ModuleTree) : Type 0 where
  pub name : IsWord m.name
  pub params : WordsInDecls m.params
  pub body : WordsInStmt m.body
