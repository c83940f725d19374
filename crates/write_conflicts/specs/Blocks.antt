-- References in blocks of 64, and what trees say of a block's references, as bits.
use Rattle.std.specs.Prelude.{◌≡◌, ◌↔◌, ℕ, ◌+◌, ◌*◌, ◌/◌, ◌%◌, ◌^◌, ◌<◌, ◌==◌, Bool, true, false, List, [], ◌∷◌, Option, Some, None, slice_index_or, bit_and, bit_or, if◌then◌else◌}
use Rattle.std.specs.Int.{bit_at}
use Rattle.aif_cells.specs.declared.reference.Ref.{Ref}
use Rattle.aif_cells.specs.declared.reference.Ref.TheVariants as ref
use Rattle.aif_cells.specs.declared.tree.TreeOne.{TreeOne}
use Rattle.aif_cells.specs.declared.tree.TreeOne.TheVariants as one_op
use Rattle.aif_cells.specs.declared.tree.TreeTwo.{TreeTwo}
use Rattle.aif_cells.specs.declared.tree.TreeTwo.TheVariants.{And, Or}
use Rattle.aif_cells.specs.Tree.{Tree, value, one, two}
use Rattle.aif_cells.specs.Built.{Defined}
use Rattle.write_conflicts.specs.declared.block.Group.{Group}
use Rattle.write_conflicts.specs.declared.block.Group.TheVariants as group
use Rattle.write_conflicts.specs.declared.block.Block.{Block}
use Rattle.write_conflicts.specs.declared.block.Said.{Said}
use Rattle.write_conflicts.specs.declared.block.Both.{Both}
use Rattle.write_conflicts.specs.Must.{Must}

-- the number of a reference of a group
abbrev pub number_in : Group → Ref → Option ℕ
number_in group.Inputs (ref.Input i) = Some i
number_in group.Registers (ref.Reg k) = Some k
number_in group.Cells (ref.Cell c) = Some c
number_in _ _ = None

-- the reference of a group with this number
abbrev pub ref_of : Group → ℕ → Ref
ref_of group.Inputs n = ref.Input n
ref_of group.Registers n = ref.Reg n
ref_of group.Cells n = ref.Cell n

-- the reference at a place in a block
abbrev pub ref_at : Block → ℕ → Ref
ref_at b k = ref_of b.group (64 * b.at + k)

-- the bits of a word that are set are those of the references of the block with a property
abbrev pub Marks : (w : ℕ) → Block → (Ref → Type 0) → Type 0
Marks w b P = (k : ℕ) → k < 64 → (bit_at w k ≡ 1) ↔ P (ref_at b k)

-- the word with the bit of the number, if the number is in the block
abbrev pub bit_of : Block → Option ℕ → ℕ
bit_of b None = 0
bit_of b (Some n) = if n / 64 == b.at then 2 ^ (n % 64) else 0

abbrev pub silent : Said
silent = record { yes = 0; no = 0 }

-- nothing is said
abbrev pub nothing : Both
nothing = record { plus = silent; minus = silent }

-- what a reference says of itself
abbrev pub own : Block → Ref → Both
own b r = record { plus = record { yes = bit_of b (number_in b.group r); no = 0 }; minus = record { yes = 0; no = bit_of b (number_in b.group r) } }

-- what one of two says, and what both say
abbrev pub united : Said → Said → Said
united v w = record { yes = bit_or v.yes w.yes; no = bit_or v.no w.no }

abbrev pub shared : Said → Said → Said
shared v w = record { yes = bit_and v.yes w.yes; no = bit_and v.no w.no }

abbrev pub swapped : Both → Both
swapped v = record { plus = v.minus; minus = v.plus }

abbrev pub in_addition : Both → Both → Both
in_addition v w = record { plus = united v.plus w.plus; minus = united v.minus w.minus }

abbrev pub conjoined : Both → Both → Both
conjoined v w = record { plus = united v.plus w.plus; minus = shared v.minus w.minus }

abbrev pub disjoined : Both → Both → Both
disjoined v w = record { plus = shared v.plus w.plus; minus = united v.minus w.minus }

-- what a cell's tree says, where the table has the cell
abbrev pub told : List Both → Ref → Both
told τ (ref.Cell c) = slice_index_or τ c nothing
told τ _ = nothing

abbrev pub one_said : TreeOne → Both → Both
one_said one_op.Not v = swapped v
one_said one_op.Neg v = nothing

abbrev pub two_said : TreeTwo → (v w : Both) → Both
two_said And v w = conjoined v w
two_said Or v w = disjoined v w
two_said _ v w = nothing

-- what trees joined by `or` say, by what each of them and the last one say
abbrev pub disjoin_all : List Both → Both → Both
disjoin_all [] v = v
disjoin_all (w ∷ ws) v = disjoined w (disjoin_all ws v)

-- what a tree says of the block's references, by a table of what the cells' trees say
abbrev pub said : Block → List Both → Tree → Both
said b τ (value r) = in_addition (own b r) (told τ r)
said b τ (one op a) = one_said op (said b τ a)
said b τ (two op a c) = two_said op (said b τ a) (said b τ c)
said b τ _ = nothing

-- the word of one sign where the tree has the other
abbrev pub word_of : Said → (its_sign : Bool) → ℕ
word_of v true = v.yes
word_of v false = v.no

abbrev pub side_of : Both → (sign : Bool) → Said
side_of v true = v.plus
side_of v false = v.minus

-- the words say exactly what the tree says
abbrev pub Says : List Defined → Block → Tree → Both → Type 0
Says cs b t v = (s r : Bool) → Marks (word_of (side_of v s) r) b (λ x. Must cs t s x r)
