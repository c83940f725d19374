-- The table of a block, filled along the order of the cells.
use Rattle.std.proofs.Common.{◌≡◌, ◌∙◌, ℕ, zero, suc, ◌<◌, ◌≤◌, ◌+◌, inl, inr, List, [], ◌∷◌, ◌++◌, length, map, take, set, Contains, get_or, true, false, Some, None, Option, refl, sym, ap, subst, arith}
use Rattle.std.specs.Prelude.{◌⊎◌, slice_get, slice_index_or}
use Rattle.std.proofs.lemmas.List.{get_or-set_same, get_or-set_other, take_more}
use Rattle.std.proofs.lemmas.List.Elements.{Contains-push_cases}
use Rattle.std.proofs.Math.ListN.{length-set}
use Rattle.aif_cells.specs.declared.cells.Cell.{Cell}
use Rattle.aif_cells.specs.declared.cells.Action.{Action}
use Rattle.aif_cells.specs.Tree.{value}
use Rattle.aif_cells.specs.Built.{Defined, all_defined, defined}
use Rattle.aif_cells.specs.Order.{IsOrder}
use Rattle.write_conflicts.specs.declared.block.Block.{Block}
use Rattle.write_conflicts.specs.declared.block.Both.{Both}
use Rattle.write_conflicts.specs.declared.block.Said.{Said}
use Rattle.write_conflicts.specs.Blocks.{Says, in_addition, nothing, own, said, silent, told}
use Rattle.write_conflicts.specs.Tables.{AreColumns, IsTable, IsTableFor, Tells, guard_says, said_at}
use Rattle.write_conflicts.proofs.MustLemmas.{IsRow, row_of_none, row_of_tree, said_says, value_says}
use Rattle.write_conflicts.proofs.OrderLemmas.{contained, got_at, mapped_item, new_item, none_there, old_item, past, split}
use Rattle.aif_cells.proofs.ItemLemmas.{at_place}
use Rattle.aif_cells.proofs.SolutionLemmas.{there}

module _ (cs : List Defined) (b : Block) where
  row_by : (τ : List Both) (c : ℕ) → length τ ≡ length cs → ((d : Defined) → slice_get cs c ≡ Some d → Says cs b d.tree (slice_index_or τ c nothing)) → IsRow cs b τ c
  row_by τ c size f = at (slice_get cs c) refl
    where
      at : (o : Option Defined) → slice_get cs c ≡ o → IsRow cs b τ c
      at None e = row_of_none cs b τ c e (past τ c nothing (let h : length cs ≤ c = none_there cs c e in omega (arith, h, size)))
      at (Some d) e = row_of_tree cs b τ c d e (f d e)

  -- what a cell's tree says, where the table has the cells that it names
  pub cell_said : (order : List ℕ) → IsOrder cs order → (τ : List Both) (i k : ℕ) (d : Defined) → slice_get order i ≡ Some k → IsTableFor cs b (take i order) τ → slice_get cs k ≡ Some d → Says cs b d.tree (said b τ d.tree)
  cell_said order is τ i k d e t f = said_says cs b τ d.tree (λ c m. let taken = (is.in_turn i k e).ready.free c (d, f, m) in row_by τ c t.size (λ g h. t.rows c g taken h))

  -- one more cell
  pub table_more : (order : List ℕ) → IsOrder cs order → (τ : List Both) (i k : ℕ) (d : Defined) (v : Both) → slice_get order i ≡ Some k → IsTableFor cs b (take i order) τ → slice_get cs k ≡ Some d → v ≡ said b τ d.tree
      → IsTableFor cs b (take (i + 1) order) (set τ k v)
  table_more order is τ i k d v e t f q = record { size = length-set τ k v ∙ t.size; rows = rows }
    where
      lt : i < length order
      lt = there order i k e

      within : k < length τ
      within = let h : k < length cs = there cs k d f in let s = t.size in omega (arith, h, s)

      is_k : get_or order i 0 ≡ k
      is_k = got_at order i 0 k e

      rows : (c : ℕ) (g : Defined) → Contains (take (i + 1) order) c → slice_get cs c ≡ Some g → Says cs b g.tree (slice_index_or (set τ k v) c nothing)
      rows c g m h = at (Contains-push_cases (take i order) k c (subst (λ (xs : List ℕ). Contains xs c) (take_more order i 0 lt ∙ ap (λ (x : ℕ). take i order ++ x ∷ []) is_k) m))
        where
          old : Contains (take i order) c → Says cs b g.tree (slice_index_or (set τ k v) c nothing)
          old n = subst (Says cs b g.tree) (sym (get_or-set_other τ k c v nothing (λ r. (is.in_turn i k e).ready.left (subst (Contains (take i order)) r n)))) (t.rows c g n h)

          new : k ≡ c → Says cs b g.tree (slice_index_or (set τ k v) c nothing)
          new r = subst (λ (j : ℕ). Says cs b g.tree (slice_index_or (set τ k v) j nothing)) r
              (subst (Says cs b g.tree) (sym (get_or-set_same τ k v nothing within)) (subst (λ (u : Defined). Says cs b u.tree v) (same g (sym h ∙ (ap (slice_get cs) (sym r) ∙ f))) (subst (Says cs b d.tree) (sym q) (cell_said order is τ i k d e t f))))
            where
              same : (u : Defined) → Some u ≡ Some d → d ≡ u
              same u w = cc

          at : Contains (take i order) c ⊎ (k ≡ c) → Says cs b g.tree (slice_index_or (set τ k v) c nothing)
          at (inl n) = old n
          at (inr r) = new r

  pub table_none : (order : List ℕ) (τ : List Both) → length τ ≡ length cs → IsTableFor cs b (take 0 order) τ
  table_none order τ size = record { size = size; rows = λ c d m e. absurd (omega (arith, m.1)) }

  pub table_all : (order : List ℕ) → IsOrder cs order → (τ : List Both) → IsTableFor cs b order τ → IsTable cs b τ
  table_all order is τ t = record { size = t.size; rows = λ c d e. t.rows c d (contained cs order is c (there cs c d e)) e }

  -- what a guard says
  pub guard_tells : (τ : List Both) → IsTable cs b τ → (a : Action) → Tells cs b a.guard (guard_says b τ a)
  guard_tells τ t a = record { yes = says true true; no = says true false }
    where
      says : Says cs b (value a.guard) (in_addition (own b a.guard) (told τ a.guard))
      says = value_says cs b τ a.guard (λ c e. row_by τ c t.size (λ d f. t.rows c d f))

-- a cell of the module as a plain cell
pub defined_at : (cells : List Cell) (k : ℕ) (x : Cell) → k < length cells → x ≡ get_or cells k x → slice_get (all_defined cells) k ≡ Some (defined x)
defined_at [] k x l e = absurd (omega (arith, l))
defined_at (c ∷ cells) zero x l e = ap (λ (y : Cell). Some (defined y)) (sym e)
defined_at (c ∷ cells) (suc k) x l e = defined_at cells k x (omega (arith, l)) e

-- what an action's guard says, in the column of the block
pub column_tells : (cs : List Defined) (b : Block) (τ : List Both) (actions : List Action) (col : List Said) → IsTable cs b τ → col ≡ map (guard_says b τ) actions → (i : ℕ) (a : Action) → slice_get actions i ≡ Some a → Tells cs b a.guard (slice_index_or col i silent)
column_tells cs b τ actions col t e i a f = subst (Tells cs b a.guard) (sym (ap (λ (xs : List Said). slice_index_or xs i silent) e ∙ mapped_item (guard_says b τ) actions i a silent f)) (guard_tells cs b τ t a)

-- one more column
pub columns_more : (cs : List Defined) (bs : List Block) (actions : List Action) (cols : List (List Said)) (n : ℕ) (b : Block) (col : List Said) → length cols ≡ n → slice_get bs n ≡ Some b → ((i : ℕ) (a : Action) → slice_get actions i ≡ Some a → Tells cs b a.guard (slice_index_or col i silent))
    → ((p i : ℕ) (d : Block) (a : Action) → p < n → slice_get bs p ≡ Some d → slice_get actions i ≡ Some a → Tells cs d a.guard (said_at cols p i))
    → (p i : ℕ) (d : Block) (a : Action) → p < n + 1 → slice_get bs p ≡ Some d → slice_get actions i ≡ Some a → Tells cs d a.guard (said_at (cols ++ col ∷ []) p i)
columns_more cs bs actions cols n b col size e f g p i d a l h k = at (split p n l)
  where
    same : (c : Block) → Some b ≡ Some c → b ≡ c
    same c q = cc

    at : (p < n) ⊎ (p ≡ n) → Tells cs d a.guard (said_at (cols ++ col ∷ []) p i)
    at (inl q) = subst (λ (xs : List Said). Tells cs d a.guard (slice_index_or xs i silent)) (sym (old_item cols col p [] (omega (arith, q, size)))) (g p i d a q h k)
    at (inr q) = subst (λ (xs : List Said). Tells cs d a.guard (slice_index_or xs i silent)) (sym (ap (λ (j : ℕ). get_or (cols ++ col ∷ []) j []) (q ∙ sym size) ∙ new_item cols col []))
        (subst (λ (c : Block). Tells cs c a.guard (slice_index_or col i silent)) (same d (sym e ∙ (ap (slice_get bs) (sym q) ∙ h))) (f i a k))

pub columns_at : (cs : List Defined) (bs : List Block) (actions : List Action) (cols new : List (List Said)) (n : ℕ) (d : Block) (τ row : List Both) (col : List Said) → new ≡ cols ++ col ∷ [] → length cols ≡ n → n < length bs → IsTable cs (get_or bs n d) τ → row ≡ τ → col ≡ map (guard_says (get_or bs n d) row) actions
    → ((p i : ℕ) (b : Block) (a : Action) → p < n → slice_get bs p ≡ Some b → slice_get actions i ≡ Some a → Tells cs b a.guard (said_at cols p i))
    → (p i : ℕ) (b : Block) (a : Action) → p < n + 1 → slice_get bs p ≡ Some b → slice_get actions i ≡ Some a → Tells cs b a.guard (said_at new p i)
columns_at cs bs actions cols new n d τ row col q size lt t r e g p i b a l h k = subst (λ (xs : List (List Said)). Tells cs b a.guard (said_at xs p i)) (sym q)
    (columns_more cs bs actions cols n (get_or bs n d) col size (at_place bs n d lt) (column_tells cs (get_or bs n d) τ actions col t (e ∙ ap (λ (v : List Both). map (guard_says (get_or bs n d) v) actions) r)) g p i b a l h k)

pub columns_all : (cs : List Defined) (bs : List Block) (actions : List Action) (cols : List (List Said)) (n : ℕ) → length cols ≡ n → n ≡ length bs
    → ((p i : ℕ) (b : Block) (a : Action) → p < n → slice_get bs p ≡ Some b → slice_get actions i ≡ Some a → Tells cs b a.guard (said_at cols p i)) → AreColumns cs bs actions cols
columns_all cs bs actions cols n size all f = record { size = size ∙ all; tells = λ p i b a e g. f p i b a (let h = there bs p b e in omega (arith, h, all)) e g }
