-- What one action's guard says, and whether two of them exclude one another.
use Rattle.std.specs.Prelude.{◌≡◌, ◌↔◌, ◌⊎◌, ℕ, zero, suc, ◌+◌, ◌*◌, ◌<◌, ◌≤◌, Bool, true, false, List, length, Option, Some, None, Contains, slice_get, slice_index_or}
use Rattle.std.specs.Int.{bit_at}
use Rattle.aif_cells.specs.declared.reference.Ref.TheVariants as ref
use Rattle.aif_cells.specs.declared.cells.Action.{Action}
use Rattle.aif_cells.specs.Tree.{value}
use Rattle.write_conflicts.specs.declared.block.Block.{Block}
use Rattle.write_conflicts.specs.declared.block.Group.TheVariants as group
use Rattle.write_conflicts.specs.declared.block.Said.{Said}
use Rattle.write_conflicts.specs.declared.claims.Claims.{Claims}
use Rattle.write_conflicts.specs.Must.{Must}
use Rattle.write_conflicts.specs.Clash.{Clash, Step, are_apart, way_to}
use Rattle.write_conflicts.specs.Loose.{Scene, is_stored}
use Rattle.write_conflicts.specs.Blocks.{Marks, ref_at}
use Rattle.write_conflicts.specs.Tables.{IsCovered, said_at}

-- the word isn't 0, and stands with the place of its block
abbrev pub IsDeniedAt : (place word p w : ℕ) → Type 0
IsDeniedAt place word p w = (p ≡ place) × (w ≡ word) × (w ≡ 0 → ⊥)

-- a word of references that the action's guard says with minus, which isn't 0, and the place before n of its block
abbrev pub IsDenied : List (List Said) → (i n p w : ℕ) → Type 0
IsDenied columns i n p w = (p < n) × (w ≡ (said_at columns p i).no) × (w ≡ 0 → ⊥)

-- the number of a bit that is set in the word of the block at this place in its group
abbrev pub IsNumberAt : (w at k l : ℕ) → Type 0
IsNumberAt w at k l = (bit_at w k ≡ 1) × (l ≡ 64 * at + k)

-- so for a bit before the place n
abbrev pub IsNumber : (w at n l : ℕ) → Type 0
IsNumber w at n l = (k : ℕ) × (k < n) × IsNumberAt w at k l

-- the word of a block of registers has the bit of this one
abbrev pub IsRegisterOf : Block → (w l : ℕ) → Type 0
IsRegisterOf b w l = (b.group ≡ group.Registers) × IsNumber w b.at 64 l

-- the action's guard says with plus a register of a block before the place n
pub record SaysRegister (bs : List Block) (columns : List (List Said)) (i n l : ℕ) : Type 0 where
  pub place : ℕ
  pub before : place < n
  pub block : Block
  pub is_block : slice_get bs place ≡ Some block
  pub register : IsRegisterOf block (said_at columns place i).yes l

-- what is kept of an action: by the places of the blocks, the words of the references that its guard says with plus, and those
-- that aren't 0 of the ones with minus; the registers with plus; and whether its copy has a store
pub record IsClaimOf (s : Scene) (blocks : List Block) (a : Action) (c : Claims) : Type 0 where
  pub covered : IsCovered s.cells blocks a.guard
  pub yes : (p : ℕ) (b : Block) → slice_get blocks p ≡ Some b → Marks (slice_index_or c.yes p 0) b (λ x. Must s.cells (value a.guard) true x true)
  pub no : (p w : ℕ) (b : Block) → slice_get blocks p ≡ Some b → Contains c.no (p, w) → Marks w b (λ x. Must s.cells (value a.guard) true x false)
  pub no_all : (p k : ℕ) (b : Block) → slice_get blocks p ≡ Some b → k < 64 → Must s.cells (value a.guard) true (ref_at b k) false → (w : ℕ) × Contains c.no (p, w)
  pub no_within : (p w : ℕ) → Contains c.no (p, w) → p < length blocks
  pub registers : (l : ℕ) → Contains c.registers l ↔ Must s.cells (value a.guard) true (ref.Reg l) true
  pub stored : c.stored ≡ is_stored s.made a.var a.copy

-- the words are those that the action's guard says with plus, by the places of the blocks
abbrev pub AreYes : List (List Said) → (i : ℕ) → List ℕ → Type 0
AreYes columns i ys = (p : ℕ) → p < length columns → slice_index_or ys p 0 ≡ (said_at columns p i).yes

-- all but the words of the references with plus is kept
abbrev pub IsClaimButYes : Scene → List Block → List (List Said) → (i : ℕ) → Action → Claims → Type 0
IsClaimButYes s blocks columns i a c = (ys : List ℕ) → AreYes columns i ys → IsClaimOf s blocks a (record c { yes = ys })

-- each action before this one has its claims, and each other one all but the words of the references with plus
pub record AreClaimsFrom (n : ℕ) (s : Scene) (blocks : List Block) (columns : List (List Said)) (actions : List Action) (claims : List Claims) : Type 0 where
  pub size : length claims ≡ length actions
  pub before : (i : ℕ) (a : Action) (c : Claims) → i < n → slice_get actions i ≡ Some a → slice_get claims i ≡ Some c → IsClaimOf s blocks a c
  pub behind : (i : ℕ) (a : Action) (c : Claims) → n ≤ i → slice_get actions i ≡ Some a → slice_get claims i ≡ Some c → IsClaimButYes s blocks columns i a c

-- each action has its claims, by the places of the same blocks
pub record AreClaimsOf (s : Scene) (actions : List Action) (claims : List Claims) : Type 0 where
  pub blocks : List Block
  pub size : length claims ≡ length actions
  pub each : (i : ℕ) (a : Action) (c : Claims) → slice_get actions i ≡ Some a → slice_get claims i ≡ Some c → IsClaimOf s blocks a c

-- two actions have these claims, by the places of the same blocks
pub record AreBothClaimed (s : Scene) (a b : Action) (c d : Claims) : Type 0 where
  pub blocks : List Block
  pub first : IsClaimOf s blocks a c
  pub second : IsClaimOf s blocks b d

-- a bit is set in both words
abbrev pub HaveCommon : (v w : ℕ) → Type 0
HaveCommon v w = (k : ℕ) × (k < 64) × (bit_at v k ≡ 1) × (bit_at w k ≡ 1)

-- a reference that one says with minus the other says with plus
pub record Meets (no : List (ℕ × ℕ)) (yes : List ℕ) : Type 0 where
  pub place : ℕ
  pub word : ℕ
  pub denied : Contains no (place, word)
  pub common : HaveCommon word (slice_index_or yes place 0)

abbrev pub is_way : Option (List Step) → Bool
is_way (Some p) = true
is_way None = false

abbrev pub ways_part : Option (List Step) → Option (List Step) → Bool
ways_part (Some p) (Some q) = are_apart p q
ways_part _ _ = false

-- two registers that with plus exclude one another: the start flag's and a label's, or those of labels that are apart
abbrev pub registers_exclude : List (List Step) → (l m : ℕ) → Bool
registers_exclude ps zero m = is_way (way_to ps m)
registers_exclude ps (suc l) zero = is_way (way_to ps (suc l))
registers_exclude ps (suc l) (suc m) = ways_part (way_to ps (suc l)) (way_to ps (suc m))

-- a register of the one list excludes one of the other
pub record SomeExclude (ps : List (List Step)) (ls ms : List ℕ) : Type 0 where
  pub first : ℕ
  pub second : ℕ
  pub in_first : Contains ls first
  pub in_second : Contains ms second
  pub exclude : registers_exclude ps first second ≡ true

-- by what is kept of them, two guards exclude one another
abbrev pub AreOpposed : List (List Step) → (c d : Claims) → Type 0
AreOpposed ps c d = Meets c.no d.yes ⊎ (Meets d.no c.yes ⊎ SomeExclude ps c.registers d.registers)

-- two actions write one copy, and don't clash
abbrev pub MayMeet : Scene → (a b : Action) → Type 0
MayMeet s a b = (a.copy ≡ b.copy) × (Clash s.cells s.ways a b → ⊥)
