-- The texts of pieces of a line, and of the trees of lists and chains as they are put one after another.
use Rattle.std.specs.Prelude.{ℕ, List, replicate, decimal}
use Rattle.std.specs.Fmt.{signed_decimal}
use Rattle.aif_cells.specs.declared.piece.Piece.{Piece}
use Rattle.aif_cells.specs.declared.piece.Piece.TheVariants as piece
use Rattle.aif_cells.specs.declared.tree.Tree.{Tree as Boxes}
use Rattle.aif_cells.specs.Tree.{tree}
use Rattle.aif_cells.specs.Text.{case_text, first_text, next_text, ref_text, texts}

abbrev pub piece_text : ℕ → Piece → List ℕ
piece_text _ (piece.Bytes b) = b.now
piece_text _ (piece.Count n) = decimal n
piece_text _ (piece.Number z) = signed_decimal z
piece_text _ (piece.Of r) = ref_text r

abbrev pub pieces_text : List Piece → List ℕ
pieces_text ps = texts piece_text 0 ps

-- so many closing parentheses
abbrev pub closes : ℕ → List ℕ
closes n = replicate n 41

-- what is put for a tree of a list, for a case before the last tree of a chain, and for an alternative
abbrev pub item_text : ℕ → Boxes → List ℕ
item_text n t = next_text n (tree t)

abbrev pub arm_text : ℕ → Boxes × Boxes → List ℕ
arm_text n a = case_text n (tree a.0, tree a.1)

abbrev pub alternative_text : ℕ → Boxes → List ℕ
alternative_text n t = first_text n (tree t)
