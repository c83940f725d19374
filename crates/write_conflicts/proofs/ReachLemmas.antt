-- The blocks hold all that guards say something of.
use Rattle.std.proofs.Common.{◌≡◌, ◌∙◌, ℕ, zero, suc, ◌<◌, ◌≤◌, ◌+◌, ◌*◌, ◌/◌, ◌%◌, max, inl, inr, Bool, true, List, [], ◌∷◌, ◌++◌, length, All, Contains, get_or, Some, refl, sym, ap, subst, arith}
use Rattle.std.specs.Prelude.{◌⊎◌, slice_get}
use Rattle.std.proofs.lemmas.List.Elements.{Contains-append_left, Contains-push}
use Rattle.aif_cells.specs.declared.cells.Action.{Action}
use Rattle.aif_cells.specs.declared.cells.Cell.{Cell}
use Rattle.aif_cells.specs.declared.reference.Ref.{Ref}
use Rattle.aif_cells.specs.declared.reference.Ref.TheVariants as ref
use Rattle.aif_cells.specs.Tree.{Tree, tree, value}
use Rattle.aif_cells.specs.Built.{Defined, all_defined, defined}
use Rattle.write_conflicts.specs.declared.block.Group.{Group}
use Rattle.write_conflicts.specs.declared.block.Group.TheVariants as group
use Rattle.write_conflicts.specs.declared.block.Block.{Block}
use Rattle.write_conflicts.specs.Must.{Must, of_input, of_register, of_cell, of_cell_tree, of_not, of_left_and, of_right_and, of_left_or, of_right_or, of_both_or, of_both_and}
use Rattle.write_conflicts.specs.Blocks.{ref_of}
use Rattle.write_conflicts.specs.Tables.{AreCovered, HasPlace, HoldsGroup, greatest_in, greatest_number}
use Rattle.write_conflicts.proofs.OrderLemmas.{got_at, split}
use Rattle.aif_cells.proofs.ItemLemmas.{at_place}
use Rattle.aif_cells.proofs.SolutionLemmas.{there}

-- a reference with a number that the tree or a cell reaches to
record IsReached (most : Group → ℕ) (t : Tree) (r : Ref) : Type 0 where
  in_group : Group
  number : ℕ
  is : ref_of in_group number ≡ r
  within : number ≤ max (greatest_in in_group t) (most in_group)

module _ (cs : List Defined) (most : Group → ℕ) (cells : (g : Group) (c : ℕ) (d : Defined) → slice_get cs c ≡ Some d → greatest_in g d.tree ≤ most g) where
  wider : (t u : Tree) (r : Ref) → ((g : Group) → greatest_in g t ≤ max (greatest_in g u) (most g)) → IsReached most t r → IsReached most u r
  wider t u r f p = let h : greatest_in p.in_group t ≤ max (greatest_in p.in_group u) (most p.in_group) = f p.in_group in record { in_group = p.in_group; number = p.number; is = p.is; within = (let w = p.within in omega (arith, h, w)) }

  reached : (t : Tree) (s : Bool) (r : Ref) (u : Bool) → Must cs t s r u → IsReached most t r
  reached t s r u (of_input i _) = record { in_group = group.Inputs; number = i; is = refl; within = omega arith }
  reached t s r u (of_register i _) = record { in_group = group.Registers; number = i; is = refl; within = omega arith }
  reached t s r u (of_cell i _) = record { in_group = group.Cells; number = i; is = refl; within = omega arith }
  reached t s r u (of_cell_tree c _ d _ _ e m) = wider d.tree (value (ref.Cell c)) r (λ g. let h : greatest_in g d.tree ≤ most g = cells g c d e in omega (arith, h)) (reached d.tree s r u m)
  reached t s r u (of_not a _ _ _ m) = wider a t r (λ g. omega arith) (reached a _ r u m)
  reached t s r u (of_left_and a b _ _ m) = wider a t r (λ g. omega arith) (reached a _ r u m)
  reached t s r u (of_right_and a b _ _ m) = wider b t r (λ g. omega arith) (reached b _ r u m)
  reached t s r u (of_left_or a b _ _ m) = wider a t r (λ g. omega arith) (reached a _ r u m)
  reached t s r u (of_right_or a b _ _ m) = wider b t r (λ g. omega arith) (reached b _ r u m)
  reached t s r u (of_both_or a b _ _ m n) = wider a t r (λ g. omega arith) (reached a _ r u m)
  reached t s r u (of_both_and a b _ _ m n) = wider a t r (λ g. omega arith) (reached a _ r u m)

place_in_block : (bs : List Block) (g : Group) (n : ℕ) → Contains bs (record { group = g; at = n / 64 }) → HasPlace bs (ref_of g n)
place_in_block bs g n m = record {
  block = record { group = g; at = n / 64 };
  at_block = m.0;
  is_block = at_place bs m.0 (record { group = g; at = n / 64 }) m.1 ∙ ap Some m.2;
  at_bit = n % 64;
  within = omega arith;
  is_there = (let e : 64 * (n / 64) + n % 64 ≡ n = omega arith in ap (ref_of g) e);
}

pub are_covered : (cs : List Defined) (actions : List Action) (bs : List Block) → HoldsGroup cs actions bs group.Inputs → HoldsGroup cs actions bs group.Registers → HoldsGroup cs actions bs group.Cells → AreCovered cs bs actions
are_covered cs actions bs p q o i a e r s m = subst (HasPlace bs) here.is (place_in_block bs here.in_group here.number ((held here.in_group).held (here.number / 64) (let w = here.within in let g : greatest_number here.in_group a.guard ≤ (held here.in_group).greatest = (held here.in_group).of_guards i a e in omega (arith, w, g))))
  where
    held : (g : Group) → HoldsGroup cs actions bs g
    held group.Inputs = p
    held group.Registers = q
    held group.Cells = o

    here : IsReached (λ g. (held g).greatest) (value a.guard) r
    here = reached cs (λ g. (held g).greatest) (λ g. (held g).of_cells) (value a.guard) true r s m

pub still_held : (cs : List Defined) (actions : List Action) (bs ds : List Block) (g : Group) → ((b : Block) → Contains bs b → Contains ds b) → HoldsGroup cs actions bs g → HoldsGroup cs actions ds g
still_held cs actions bs ds g f p = record { greatest = p.greatest; of_cells = p.of_cells; of_guards = p.of_guards; held = λ n l. f (record { group = g; at = n }) (p.held n l) }

cell_back : (cells : List Cell) (c : ℕ) (d : Defined) → slice_get (all_defined cells) c ≡ Some d → (x : Cell) × (c < length cells) × (get_or cells c x ≡ x) × (d ≡ defined x)
cell_back [] c d e = absurd (cc)
cell_back (x ∷ cells) zero d e = (x, omega arith, refl, cc)
cell_back (x ∷ cells) (suc c) d e = let p = cell_back cells c d e in (p.0, omega (arith, p.1), p.2, p.3)

pub holds_group : (cells : List Cell) (actions : List Action) (bs : List Block) (g : Group) (m n k : ℕ) → All (λ c. greatest_in g (tree c.tree) ≤ m) cells → All (λ a. greatest_number g a.guard ≤ n) actions → k ≡ max n m
    → ((j : ℕ) → j ≤ k / 64 → Contains bs (record { group = g; at = j })) → HoldsGroup (all_defined cells) actions bs g
holds_group cells actions bs g m n k p q e f = record {
  greatest = k;
  of_cells = λ c d h. (let x = cell_back cells c d h in let w : greatest_in g (tree x.0.tree) ≤ m = subst (λ (y : Cell). greatest_in g (tree y.tree) ≤ m) x.2 (p c x.0 x.1) in subst (λ (y : Defined). greatest_in g y.tree ≤ k) (sym x.3) (omega (arith, w, e)));
  of_guards = λ i a h. (let w : greatest_number g a.guard ≤ n = subst (λ (y : Action). greatest_number g y.guard ≤ n) (got_at actions i a a h) (q i a (there actions i a h)) in omega (arith, w, e));
  held = f;
}

-- one more block
pub kept_more : (mid new : List Block) (x b : Block) → new ≡ mid ++ x ∷ [] → Contains mid b → Contains new b
kept_more mid new x b e m = subst (λ (bs : List Block). Contains bs b) (sym e) (Contains-append_left mid (x ∷ []) b m)

pub added_more : (mid new : List Block) (g : Group) (n : ℕ) → new ≡ mid ++ record { group = g; at = n } ∷ [] → ((k : ℕ) → k < n → Contains mid (record { group = g; at = k })) → (k : ℕ) → k < n + 1 → Contains new (record { group = g; at = k })
added_more mid new g n e f k l = at (split k n l)
  where
    at : (k < n) ⊎ (k ≡ n) → Contains new (record { group = g; at = k })
    at (inl h) = kept_more mid new (record { group = g; at = n }) (record { group = g; at = k }) e (f k h)
    at (inr h) = subst (λ (j : ℕ). Contains new (record { group = g; at = j })) (sym h) (subst (λ (bs : List Block). Contains bs (record { group = g; at = n })) (sym e) (Contains-push mid (record { group = g; at = n })))
