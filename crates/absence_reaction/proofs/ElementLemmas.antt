-- The cells of an element, step by step.
use Rattle.std.proofs.Common.{◌≡◌, ℕ, zero, suc, ◌≤◌, Bool, true, false, List, [], ◌∷◌, length, map, Option, Some, None, refl, ap, ◌∙◌, arith, length-append}
use Rattle.std.specs.Prelude.{slice_set, filter, if◌then◌else◌}
use Rattle.quartz_tree.specs.declared.place.Place.{Place}
use Rattle.aif_cells.specs.declared.reference.Ref.{Ref}
use Rattle.aif_cells.specs.declared.reference.Ref.TheVariants as ref
use Rattle.aif_cells.specs.declared.cells.Cell.{Cell}
use Rattle.aif_cells.specs.declared.cells.Monitor.{Monitor}
use Rattle.aif_cells.specs.Tree.{Tree}
use Rattle.aif_cells.specs.Built.{Defined, Made, all_defined, defined, given_or_new, is_not_nought, join, join_alone, or_all}
use Rattle.absence_reaction.specs.declared.copy.VarCopy.{VarCopy}
use Rattle.absence_reaction.specs.declared.copy.Shape.{Shape}
use Rattle.absence_reaction.specs.Closing.{Built, Element, arms_for, built, closed_element, conflict_made, disagrees, flag_made, has_pending, pending_made, value_tree, watched_by, can_conflict}
use Rattle.aif_cells.proofs.ItemLemmas.{set_longer}

abbrev pub made_of : Ref → List Defined → Made
made_of r cs = record { ref = r; cells = cs }

abbrev pub element_of : Ref → Ref → Built → Element
element_of f p b = record { flag = f; pending = p; built = b }

-- a cell that is set is set among the plain cells
pub map_set : (cs : List Cell) (k : ℕ) (x : Cell) → all_defined (slice_set cs k x) ≡ slice_set (all_defined cs) k (defined x)
map_set [] k x = refl
map_set (c ∷ cs) zero x = refl
map_set (c ∷ cs) (suc k) x = ap (λ l. defined c ∷ l) (map_set cs k x)

-- what an element is closed with, from what each step makes
pub closed_by : (v : Shape) (c : VarCopy) (j k : ℕ) (β : Built) (cs1 cs2 cs3 : List Defined) (gs : List Tree) (f p : Ref) (beside : Bool) (b4 b5 : Built)
    → cs1 ≡ slice_set β.cells k (record { tree = value_tree v c j; place = v.place })
    → gs ≡ map (λ a. a.0) (arms_for j c.next)
    → made_of f cs2 ≡ join v.place gs cs1
    → made_of p cs3 ≡ pending_made v.place (arms_for j c.next) cs2
    → beside ≡ has_pending v c
    → b4 ≡ conflict_made v.place beside (ref.Cell k) (arms_for j c.now) (record { cells = cs3; monitors = β.monitors })
    → b5 ≡ conflict_made v.place false p (arms_for j c.next) b4
    → element_of f p b5 ≡ closed_element v c j k β
closed_by v c j k β cs1 cs2 cs3 gs f p beside b4 b5 e1 e2 e3 e4 e5 e6 e7 =
    let nexts : List (Tree × Tree) = arms_for j c.next in
    let last : Ref → Built → Element = λ r b. element_of f r (conflict_made v.place false r nexts b) in
    let beside_of : Bool → Built → Built = λ x b. conflict_made v.place x (ref.Cell k) (arms_for j c.now) b in
    let of_pending : Made → Element = λ m. last m.ref (beside_of (has_pending v c) (record { cells = m.cells; monitors = β.monitors })) in
    let of_flag : Made → Element = λ m.
    let n : Made = pending_made v.place nexts m.cells in
    element_of m.ref n.ref (conflict_made v.place false n.ref nexts (beside_of (has_pending v c) (record { cells = n.cells; monitors = β.monitors }))) in
    ap (element_of f p) e7 ∙ ap (last p) e6 ∙ ap (λ x. last p (beside_of x (record { cells = cs3; monitors = β.monitors }))) e5
    ∙ ap of_pending e4 ∙ ap of_flag e3 ∙ ap (λ g. of_flag (join v.place g cs1)) e2 ∙ ap (λ l. of_flag (join v.place (map (λ a. a.0) nexts) l)) e1

-- ---- no cell is taken away

given_longer : (o : Option Ref) (t : Tree) (p : Place) (cs : List Defined) → length cs ≤ length (given_or_new o t p cs).cells
given_longer (Some r) t p cs = omega arith
given_longer None t p cs = omega (arith, length-append cs (record { tree = t; place = p } ∷ []))

join_longer : (p : Place) (ts : List Tree) (cs : List Defined) → length cs ≤ length (join p ts cs).cells
join_longer p ts cs = given_longer (join_alone (filter is_not_nought ts)) (or_all (filter is_not_nought ts)) p cs

pending_longer : (p : Place) (arms : List (Tree × Tree)) (cs : List Defined) → length cs ≤ length (pending_made p arms cs).cells
pending_longer p [] cs = omega arith
pending_longer p (a ∷ arms) cs = given_longer None _ p cs

watched_longer : (b : Bool) (p : Place) (t : Tree) (β : Built) → length β.cells ≤ length (if b then watched_by p t β else β).cells
watched_longer true p t β = omega (arith, length-append β.cells (record { tree = t; place = p } ∷ []))
watched_longer false p t β = omega arith

conflict_longer : (p : Place) (beside : Bool) (r : Ref) (arms : List (Tree × Tree)) (β : Built) → length β.cells ≤ length (conflict_made p beside r arms β).cells
conflict_longer p beside r arms β = watched_longer (can_conflict beside (length arms)) p (or_all (map (disagrees r) arms)) β

element_longer : (v : Shape) (c : VarCopy) (j k : ℕ) (β : Built) → length β.cells ≤ length (closed_element v c j k β).built.cells
element_longer v c j k β =
    let nexts : List (Tree × Tree) = arms_for j c.next in
    let x : Defined = record { tree = value_tree v c j; place = v.place } in
    let flag : Made = flag_made v.place nexts (slice_set β.cells k x) in
    let pending : Made = pending_made v.place nexts flag.cells in
    let first : Built = conflict_made v.place (has_pending v c) (ref.Cell k) (arms_for j c.now) (record β { cells = pending.cells }) in
    omega (
      arith,
      set_longer β.cells k x,
      join_longer v.place (map (λ a. a.0) nexts) (slice_set β.cells k x),
      pending_longer v.place nexts flag.cells,
      conflict_longer v.place (has_pending v c) (ref.Cell k) (arms_for j c.now) (record β { cells = pending.cells }),
      conflict_longer v.place false pending.ref nexts first,
    )

pub length_defined : (cs : List Cell) → length (all_defined cs) ≡ length cs
length_defined [] = refl
length_defined (c ∷ cs) = let e : length (all_defined cs) ≡ length cs = length_defined cs in omega (arith, e)

pub cells_longer : (v : Shape) (c : VarCopy) (j k : ℕ) (old new : List Cell) (before after : List Monitor) (f p : Ref) → element_of f p (built new after) ≡ closed_element v c j k (built old before) → length old ≤ length new
cells_longer v c j k old new before after f p e =
    let h : length (all_defined new) ≡ length (closed_element v c j k (built old before)).built.cells = ap (λ (x : Element). length x.built.cells) e in
    omega (arith, h, length_defined old, length_defined new, element_longer v c j k (built old before))
