-- What a linked module is, and that it means what the modules with calls mean.
use Rattle.std.specs.Prelude.{◌≡◌, true, List, [], Option, Some}
use Rattle.quartz_tree.specs.Expand.{expanded}
use Rattle.quartz_tree.specs.Surfaces.{Word, ModuleTree}
use Rattle.quartz_names.specs.Numbering.{locals}
use Rattle.quartz_names.specs.Resolving.{module_name_breaks}
use Rattle.linked_trees.specs.Dotted.{is_plain}
use Rattle.linked_trees.specs.Fit.{AllPlain, AreInner, is_block}
use Rattle.linked_trees.specs.Laws.{HaveSameRuns, replaced}
use Rattle.linked_trees.specs.Naming.{module_named}
use Rattle.call_rules.specs.CallRules.{CallsKeep, KeepsS14}

-- a module as texts have it: no name that it declares holds a dot, what its body declares are locals, and its body is a block
pub record IsTextModule (t : ModuleTree) : Type 0 where
  pub plain_params : AllPlain is_plain t.params
  pub plain_locals : AllPlain is_plain (locals (expanded t.body))
  pub inner : AreInner (locals (expanded t.body))
  pub block : is_block t.body ≡ true

abbrev pub AreTextModules : List ModuleTree → Type 0
AreTextModules ms = (x : Word) (t : ModuleTree) → module_named ms x ≡ Some t → IsTextModule t

-- modules are linked to one: those that the main one reaches keep S11 to S14, and the calls of the main one are replaced
pub record IsLinked (ms : List ModuleTree) (main : Word) (whole : ModuleTree) : Type 0 where
  pub first : ModuleTree
  pub found : module_named ms main ≡ Some first
  pub calls : CallsKeep ms main
  pub small : KeepsS14 ms (calls.height main) first
  pub linked : whole ≡ replaced ms (calls.height main) first

-- where the linked module keeps the rule of names, its runs are those of the main module among the modules that it calls
abbrev pub LinkedMeansTheSame : Type 0
LinkedMeansTheSame = (ms : List ModuleTree) (main : Word) (linked : ModuleTree) (h : IsLinked ms main linked) → AreTextModules ms → module_name_breaks linked ≡ [] → HaveSameRuns ms h.first linked
