-- The size of a linked body is told without linking.
use Rattle.std.specs.Prelude.{◌≡◌, ℕ, List}
use Rattle.quartz_tree.specs.Surfaces.{Word, ModuleTree}
use Rattle.linked_trees.specs.Laws.{replaced}
use Rattle.call_rules.specs.Sizes.{level, level_in, size, size_of}

-- the statements and levels of a linked body, told without linking
abbrev pub LinkedHasSize : Type 0
LinkedHasSize = (ms : List ModuleTree) (d : ℕ) (m : ModuleTree) (f : Word → ℕ)
    → (size f (replaced ms d m).body ≡ size (size_of ms d) m.body) × (level f (replaced ms d m).body ≡ level (level_in ms d) m.body)
