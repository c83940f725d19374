-- What is made of references and trees.
use Rattle.std.proofs.Common.{◌≡◌, ◌∙◌, ℕ, zero, suc, ◌+◌, ◌-◌, ◌<◌, arith, ◌++◌, List, [], ◌∷◌, length, map, refl, sym, ap, subst, Option, Some, None, pos, negsuc}
use Rattle.aif_cells.specs.declared.cells.Cell.{Cell}
use Rattle.aif_cells.specs.declared.reference.Ref.{Ref}
use Rattle.aif_cells.specs.declared.reference.Ref.TheVariants as ref
use Rattle.aif_cells.specs.declared.tree.TreeOne.TheVariants.{Not}
use Rattle.aif_cells.specs.declared.tree.TreeTwo.TheVariants.{And, Or}
use Rattle.aif_cells.specs.declared.tree.Tree.{Tree as Boxes}
use Rattle.aif_cells.specs.Tree.{Tree, value, one, two, any, tree}
use Rattle.aif_cells.specs.Built.{Defined, Made as CellMade, all_defined, new as new_cell, reference_in}
use Rattle.statement_cells.specs.Builder as plain
use Rattle.statement_cells.specs.Builder.{Builder as Plain, Made, Short, and_of, cell_of, given, in_of, labels_tree, new, not_of, nowhere, one_ref, or_of, pick, short_and, short_or, zero_ref}
use Rattle.statement_builder.specs.declared.builder.Builder.{Builder}
use Rattle.statement_builder.specs.Built.{Makes}
use Rattle.statement_builder.specs.Shorts.{negated}
use Rattle.statement_builder.proofs.StepLemmas.{kept, made_as}

-- a new cell
pub added : (b : Builder) (cs : List Cell) (t : Tree) (r : Ref) → record { ref = r; cells = all_defined cs } ≡ new_cell t nowhere (all_defined b.aif.cells)
    → Makes b (record b { aif = record b.aif { cells = cs } }) r (λ κ. new t)
unfolding new
added b cs t r e = record {
  over = λ vs h. record { vars = h.vars; variables = h.variables; copies = h.copies };
  made = λ κ front β h. (
    ap (λ (m : CellMade). m.ref) e ∙ ap (λ (ds : List Defined). ref.Cell (length ds)) h.cells,
    record {
      current = h.current;
      cells = ap (λ (m : CellMade). m.cells) e ∙ ap (λ (ds : List Defined). ds ++ record { tree = t; place = nowhere } ∷ []) h.cells;
      monitors = h.monitors;
      actions = h.actions;
      made = h.made;
      entries = h.entries;
      stays = h.stays;
      entered = h.entered;
      depths = h.depths;
      writes = h.writes;
      numbers = h.numbers;
    },
  );
}

not_of_by : Option Ref → Ref → Plain → Made
not_of_by (Some r) a β = given r β
not_of_by None a β = new (one Not (value a)) β

not_of_is : (a : Ref) (β : Plain) → not_of a β ≡ not_of_by (negated a) a β
unfolding not_of not_of_by
not_of_is (ref.Lit (pos zero)) β = refl
not_of_is (ref.Lit (pos (suc n))) β = refl
not_of_is (ref.Lit (negsuc n)) β = refl
not_of_is (ref.Input i) β = refl
not_of_is (ref.Reg i) β = refl
not_of_is (ref.Cell i) β = refl

pub not_literal : (b : Builder) (a r : Ref) → Some r ≡ negated a → Makes b b r (λ κ. not_of a)
unfolding not_of_by
not_literal b a r e = kept b r (λ κ. not_of a) (λ κ β. not_of_is a β ∙ ap (λ (o : Option Ref). not_of_by o a β) (sym e))

pub not_other : (b b' : Builder) (a r : Ref) → None ≡ negated a → Makes b b' r (λ κ. new (one Not (value a))) → Makes b b' r (λ κ. not_of a)
unfolding not_of_by
not_other b b' a r e h = made_as b b' r (λ κ. new (one Not (value a))) (λ κ. not_of a) (λ κ β. sym (not_of_is a β ∙ ap (λ (o : Option Ref). not_of_by o a β) (sym e))) h

-- a new cell whose plain tree is known by another name
pub made_of_tree : (b b' : Builder) (r : Ref) (t u : Tree) → t ≡ u → Makes b b' r (λ κ. new t) → Makes b b' r (λ κ. new u)
made_of_tree b b' r t u e h = subst (λ (x : Tree). Makes b b' r (λ κ. new x)) e h

-- an `and`, an `or` by what a literal leaves of it
pub and_first : (b : Builder) (a c : Ref) → plain.first ≡ short_and a c → Makes b b a (λ κ. and_of a c)
unfolding and_of
and_first b a c e = kept b a (λ κ. and_of a c) (λ κ β. ap (λ (s : Short). pick s (two And (value a) (value c)) a c β) (sym e))

pub and_second : (b : Builder) (a c : Ref) → plain.second ≡ short_and a c → Makes b b c (λ κ. and_of a c)
unfolding and_of
and_second b a c e = kept b c (λ κ. and_of a c) (λ κ β. ap (λ (s : Short). pick s (two And (value a) (value c)) a c β) (sym e))

pub and_both : (b b' : Builder) (a c r : Ref) → plain.both ≡ short_and a c → Makes b b' r (λ κ. new (two And (value a) (value c))) → Makes b b' r (λ κ. and_of a c)
unfolding and_of
and_both b b' a c r e h = made_as b b' r (λ κ. new (two And (value a) (value c))) (λ κ. and_of a c) (λ κ β. ap (λ (s : Short). pick s (two And (value a) (value c)) a c β) e) h

pub or_first : (b : Builder) (a c : Ref) → plain.first ≡ short_or a c → Makes b b a (λ κ. or_of a c)
unfolding or_of
or_first b a c e = kept b a (λ κ. or_of a c) (λ κ β. ap (λ (s : Short). pick s (two Or (value a) (value c)) a c β) (sym e))

pub or_second : (b : Builder) (a c : Ref) → plain.second ≡ short_or a c → Makes b b c (λ κ. or_of a c)
unfolding or_of
or_second b a c e = kept b c (λ κ. or_of a c) (λ κ β. ap (λ (s : Short). pick s (two Or (value a) (value c)) a c β) (sym e))

pub or_both : (b b' : Builder) (a c r : Ref) → plain.both ≡ short_or a c → Makes b b' r (λ κ. new (two Or (value a) (value c))) → Makes b b' r (λ κ. or_of a c)
unfolding or_of
or_both b b' a c r e h = made_as b b' r (λ κ. new (two Or (value a) (value c))) (λ κ. or_of a c) (λ κ β. ap (λ (s : Short). pick s (two Or (value a) (value c)) a c β) e) h

-- ---- labels

any_more : (ts : List Tree) (t u : Tree) → any (ts ++ t ∷ []) u ≡ any ts (two Or t u)
any_more [] t u = refl
any_more (s ∷ ts) t u = ap (λ (x : Tree). two Or s x) (any_more ts t u)

map-push : (ts : List Boxes) (t : Boxes) → map tree (ts ++ t ∷ []) ≡ map tree ts ++ tree t ∷ []
map-push [] t = refl
map-push (s ∷ ts) t = ap (λ (us : List Tree). tree s ∷ us) (map-push ts t)

-- one label more
pub label_more : (ts us : List Boxes) (t : Boxes) (l last : ℕ) (target : Tree) → l < last → us ≡ ts ++ t ∷ [] → tree t ≡ value (ref.Reg l)
    → any (map tree ts) (labels_tree l (last - l)) ≡ target → any (map tree us) (labels_tree (l + 1) (last - (l + 1))) ≡ target
label_more ts us t l last target lt e f h =
    let rest : Tree = labels_tree (l + 1) (last - (l + 1)) in
    let n : last - l ≡ suc (last - (l + 1)) = omega arith in
    ap (λ (vs : List Boxes). any (map tree vs) rest) e ∙ (ap (λ (vs : List Tree). any vs rest) (map-push ts t) ∙ (any_more (map tree ts) (tree t) rest
    ∙ (ap (λ (x : Tree). any (map tree ts) (two Or x rest)) f ∙ (sym (ap (λ (m : ℕ). any (map tree ts) (labels_tree l m)) n) ∙ h))))

pub label_begin : (first more last : ℕ) → last ≡ first + more → labels_tree first (last - first) ≡ labels_tree first more
label_begin first more last e = let n : last - first ≡ more = omega arith in ap (labels_tree first) n

pub label_end : (ts : List Boxes) (t : Boxes) (l last : ℕ) (target : Tree) → l ≡ last → tree t ≡ value (ref.Reg last) → any (map tree ts) (labels_tree l (last - l)) ≡ target → any (map tree ts) (tree t) ≡ target
label_end ts t l last target e f h =
    let n : last - l ≡ 0 = omega arith in
    ap (any (map tree ts)) (f ∙ ap (λ (k : ℕ). value (ref.Reg k)) (sym e)) ∙ (sym (ap (λ (m : ℕ). any (map tree ts) (labels_tree l m)) n) ∙ h)

pub in_none : (b : Builder) (l n : ℕ) → n ≡ 0 → Makes b b zero_ref (λ κ. in_of l n)
unfolding in_of
in_none b l n e = kept b zero_ref (λ κ. in_of l n) (λ κ β. ap (λ (m : ℕ). in_of l m β) e)

pub in_one : (b : Builder) (l n : ℕ) → n ≡ 1 → Makes b b (ref.Reg l) (λ κ. in_of l n)
unfolding in_of
in_one b l n e = let f : n ≡ suc zero = omega arith in kept b (ref.Reg l) (λ κ. in_of l n) (λ κ β. ap (λ (m : ℕ). in_of l m β) f)

pub in_several : (b b' : Builder) (l n : ℕ) (r : Ref) (t : Tree) → 1 < n → t ≡ labels_tree l (n - 1) → Makes b b' r (λ κ. new t) → Makes b b' r (λ κ. in_of l n)
unfolding in_of
in_several b b' l n r t lt e h =
    let f : n ≡ suc (suc (n - 2)) = omega arith in
    let g : n - 1 ≡ suc (n - 2) = omega arith in
    made_as b b' r (λ κ. new t) (λ κ. in_of l n) (λ κ β. ap (λ (u : Tree). new u β) (e ∙ ap (labels_tree l) g) ∙ sym (ap (λ (m : ℕ). in_of l m β) f)) h

-- ---- trees

pub cell_alone : (b : Builder) (t : Tree) (r : Ref) → Some r ≡ reference_in t → Makes b b r (λ κ. cell_of t)
unfolding cell_of
cell_alone b t r e = kept b r (λ κ. cell_of t) (λ κ β. ap (λ (o : Option Ref). plain.given_or_new o t β) (sym e))

pub cell_made : (b b' : Builder) (t : Tree) (r : Ref) → None ≡ reference_in t → Makes b b' r (λ κ. new t) → Makes b b' r (λ κ. cell_of t)
unfolding cell_of
cell_made b b' t r e h = made_as b b' r (λ κ. new t) (λ κ. cell_of t) (λ κ β. ap (λ (o : Option Ref). plain.given_or_new o t β) e) h
