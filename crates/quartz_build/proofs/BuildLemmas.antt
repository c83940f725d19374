-- What the build of a text answers.
use Rattle.std.proofs.Common.{◌≡◌, ◌↔◌, ℕ, Bool, true, false, List, [], ◌∷◌, map, Contains, Option, Some, None, Result, Ok, Err, refl, sym, ap, ap₂, subst, subst₂, ◌∙◌}
use Rattle.quartz_tree.specs.declared.place.Place.{Place}
use Rattle.quartz_tree.specs.Kernel.{Kernel, kernel}
use Rattle.quartz_tree.specs.Least.{is_before, least_place}
use Rattle.quartz_tree.specs.Surfaces.{ModuleTree}
use Rattle.quartz_expr.specs.Terms.{Term, term_of}
use Rattle.quartz_expr.specs.Vars.{Vars}
use Rattle.quartz_names.specs.Resolving.{resolved_body, resolved_vars}
use Rattle.quartz_types.specs.declared.typed.Typed.{Typed}
use Rattle.aif_cells.specs.Aif.{input_count}
use Rattle.aif_cells.specs.Built.{Defined, all_defined}
use Rattle.aif_cells.specs.Order.{IsOrder}
use Rattle.aif_cells.specs.declared.aif.Aif.{Aif}
use Rattle.aif_cells.specs.declared.cells.Action.{Action}
use Rattle.causality_check.proofs.GraphLemmas.{not_in_none}
use Rattle.quartz_build.proofs.LeastLemmas.{none_before_least, none_is_least, one_has_least}
use Rattle.causality_check.specs.Order.{HasNoCycle, IsCycleAt, IsFaultOf, NamesCells}
use Rattle.causality_check.specs.declared.fault.OrderFault.{OrderFault}
use Rattle.causality_check.specs.declared.fault.OrderFault.TheVariants as ordering
use Rattle.statement_cells.specs.Meaning.{IsSoundModule}
use Rattle.statement_cells.specs.Whole.{Compiled, compiled}
use Rattle.statement_cells.proofs.EarlierCompiledLemmas.{compiled_names_before}
use Rattle.surface_depth.specs.Compiling.{compiled_in, is_too_large}
use Rattle.surface_depth.specs.declared.fault.CompileFault.{CompileFault}
use Rattle.surface_depth.specs.declared.fault.CompileFault.TheVariants as compiling
use Rattle.typed_terms.proofs.TypedLemmas.{typed_is_sound}
use Rattle.write_conflicts.specs.Loose.{Scene, IsLoosePair, later_place}
use Rattle.write_conflicts.specs.Pairs.{ArePairsOf, place_in, place_of, scene}
use Rattle.write_conflicts.specs.declared.pairs.Pairs.{Pairs}
use Rattle.quartz_build.specs.declared.building.Built.{Built}
use Rattle.quartz_build.specs.declared.fault.BuildFault.{BuildFault}
use Rattle.quartz_build.specs.declared.fault.BuildFault.TheVariants as fault
use Rattle.quartz_build.specs.Broken.{BreaksEarly, BreaksLate, by_size, by_cycle, by_pair, CanRun, HasGoodCells, HasNoPair, IsLeastPlace, IsPlaceOfPair, Refuses, early, late, Scrutiny, Front, Cells, Strict, compiled_of, judges_cells, scene_in, scrutiny_of, term_in}
use Rattle.quartz_build.specs.Parts.{AllowedAs, AreWanted, ArePartsOf, BuildsAs, CellsAs, FrontAs, IsAifOf, IsTypedOf, refused_pair}
use Rattle.quartz_build.specs.Refusals.{compile_refusal, order_refusal}

-- what a typed module is compiled to
abbrev compiled_typed : Typed → Compiled
compiled_typed t = compiled t.resolved.vars (term_of (kernel t.resolved.body))

same_term : (m : ModuleTree) (t : Typed) → IsTypedOf m t → term_of (kernel t.resolved.body) ≡ term_in m
same_term m t i = ap term_of i.body_is

same_compiled : (m : ModuleTree) (t : Typed) → IsTypedOf m t → compiled_typed t ≡ compiled_of m
same_compiled m t i = ap₂ compiled i.vars_are (same_term m t i)

same_size : (m : ModuleTree) (t : Typed) → IsTypedOf m t → is_too_large t.resolved.vars (term_of (kernel t.resolved.body)) ≡ is_too_large (resolved_vars m) (term_in m)
same_size m t i = ap₂ is_too_large i.vars_are (same_term m t i)

pub size_refused : (wants : Bool) (t : Typed) (f : CompileFault) → (f ≡ compiling.S8 → is_too_large t.resolved.vars (term_of (kernel t.resolved.body)) ≡ true) → CellsAs Cells wants t (Err (compile_refusal f))
size_refused wants t compiling.S8 h = λ m i. by_size refl (sym (same_size m t i) ∙ h refl)
size_refused wants t compiling.NoMemory h = tt

pub order_refused : (wants : Bool) (t : Typed) (a : Aif) (f : OrderFault) → is_too_large t.resolved.vars (term_of (kernel t.resolved.body)) ≡ false → compiled_in a ≡ compiled_typed t → IsFaultOf (all_defined a.cells) f
    → CellsAs Cells wants t (Err (order_refusal f))
order_refused wants t a (ordering.Cycle cells p) l e c =
    λ m i. by_cycle cells.items p refl (sym (same_size m t i) ∙ l) (subst (λ (ds : List Defined). IsCycleAt ds cells.items p) (ap (λ (d : Compiled). d.cells) (e ∙ same_compiled m t i)) c)
order_refused wants t a ordering.NoMemory l e c = tt

pub names_cells : (t : Typed) (a : Aif) → compiled_in a ≡ compiled_typed t → NamesCells (all_defined a.cells)
names_cells t a e =
    subst NamesCells (sym (ap (λ (d : Compiled). d.cells) e)) (λ i d dep. (compiled_names_before t.resolved.vars (term_of (kernel t.resolved.body))).named i d dep)

pub cells_built : (wants : Bool) (t : Typed) (b : Built) → is_too_large t.resolved.vars (term_of (kernel t.resolved.body)) ≡ false
    → b.aif.name ≡ t.resolved.name → b.aif.vars ≡ t.resolved.vars → b.aif.inputs ≡ input_count t.resolved.vars → compiled_in b.aif ≡ compiled_typed t
    → HasNoCycle (all_defined b.aif.cells) → IsOrder (all_defined b.aif.cells) b.order.cells → AreWanted wants b.aif b.pairs → CellsAs Cells wants t (Ok b)
cells_built wants t b l n v k e c o w = λ m i. (good m i, parts m i)
  where
    good : (m : ModuleTree) → IsTypedOf m t → CanRun m
    good m i = record { fits = sym (same_size m t i) ∙ l; acyclic = subst HasNoCycle (ap (λ (d : Compiled). d.cells) (e ∙ same_compiled m t i)) c }

    sound : (m : ModuleTree) → IsTypedOf m t → IsSoundModule (resolved_vars m) (term_in m)
    sound m i = subst₂ (λ (vs : Vars) (body : Term). IsSoundModule vs body) i.vars_are (same_term m t i) (typed_is_sound t)

    parts : (m : ModuleTree) → IsTypedOf m t → ArePartsOf wants m b
    parts m i =
        let of_module : IsAifOf m b.aif =
        record {
          name_is = n ∙ i.name_is;
          vars_are = v ∙ i.vars_are;
          inputs_are = k ∙ ap input_count i.vars_are;
          compiled_to = e ∙ same_compiled m t i;
        } in
        record { cells_are = of_module; ordered = o; sound = sound m i; pairs_are = w }

-- ---- loose pairs that are refused

-- the scene of a module's cells is that of the module
pub same_scene : (m : ModuleTree) (a : Aif) → IsAifOf m a → scene a ≡ scene_in m
same_scene m a i = ap (λ (d : Compiled). let s : Scene = record { cells = d.cells; ways = d.paths; made = d.made } in s) i.compiled_to

pub same_actions : (m : ModuleTree) (a : Aif) → IsAifOf m a → a.actions ≡ (compiled_of m).actions
same_actions m a i = ap (λ (d : Compiled). d.actions) i.compiled_to

-- the place of a pair by the numbers of its actions
place_at : (s : Scene) (acts : List Action) (j k : ℕ) (pair : IsLoosePair s acts j k) → place_of acts (j, k) ≡ later_place pair.first.place pair.second.place
place_at s acts j k pair = ap₂ later_place (ap place_in pair.is_first) (ap place_in pair.is_second)

-- a list has the loose pairs of a module
abbrev pub AreListed : ModuleTree → List (ℕ × ℕ) → Type 0
AreListed m pairs = (i j : ℕ) → Contains pairs (i, j) ↔ IsLoosePair (scene_in m) (compiled_of m).actions i j

-- the least place of the list is the least of a loose pair
pub least_listed : (m : ModuleTree) (pairs : List (ℕ × ℕ)) (p : Place) → AreListed m pairs → least_place (map (place_of (compiled_of m).actions) pairs) ≡ Some p → IsLeastPlace m p
least_listed m pairs p exact least = record { of_pair = of_pair; none_before = none_before }
  where
    of_pair : IsPlaceOfPair m p
    of_pair =
        let (pair, stands, here) = one_has_least (place_of (compiled_of m).actions) pairs p least in
        let loose : IsLoosePair (scene_in m) (compiled_of m).actions pair.0 pair.1 = (exact pair.0 pair.1).0 stands in
        record { i = pair.0; j = pair.1; pair = loose; later = sym (place_at (scene_in m) (compiled_of m).actions pair.0 pair.1 loose) ∙ here }

    none_before : (q : Place) → IsPlaceOfPair m q → is_before q p ≡ false
    none_before q other =
        let stands = (exact other.i other.j).1 other.pair in
        let before : is_before (place_of (compiled_of m).actions (other.i, other.j)) p ≡ false = none_before_least (place_of (compiled_of m).actions) pairs p (other.i, other.j) least stands in
        subst (λ (z : Place). is_before z p ≡ false) (place_at (scene_in m) (compiled_of m).actions other.i other.j other.pair ∙ other.later) before

-- and without one there is no loose pair
pub none_listed : (m : ModuleTree) (pairs : List (ℕ × ℕ)) → AreListed m pairs → least_place (map (place_of (compiled_of m).actions) pairs) ≡ None → HasNoPair m
none_listed m pairs exact none = λ j k pair.
    let empty : pairs ≡ [] = none_is_least (place_of (compiled_of m).actions) pairs none in
    not_in_none (j, k) (subst (λ (ps : List (ℕ × ℕ)). Contains ps (j, k)) empty ((exact j k).1 pair))

-- the pairs of a module's cells are listed, and their least place is told
are_listed : (m : ModuleTree) (a : Aif) (told : Pairs) → IsAifOf m a → (w : ArePairsOf a told) → AreListed m w.pairs
are_listed m a told i w = λ j k. subst₂ (λ (s : Scene) (acts : List Action). Contains w.pairs (j, k) ↔ IsLoosePair s acts j k) (same_scene m a i) (same_actions m a i) (w.exact j k)

least_is_told : (m : ModuleTree) (a : Aif) (told : Pairs) → IsAifOf m a → (w : ArePairsOf a told) → told.least ≡ least_place (map (place_of (compiled_of m).actions) w.pairs)
least_is_told m a told i w = w.least ∙ ap (λ (acts : List Action). least_place (map (place_of acts) w.pairs)) (same_actions m a i)

pair_refused : (m : ModuleTree) (a : Aif) (told : Option Pairs) (wants : Bool) (p : Place) (scrutiny : Scrutiny) → IsAifOf m a → AreWanted wants a told → refused_pair scrutiny told ≡ Some p → IsLeastPlace m p
pair_refused m a (Some told) true p Strict i w e = least_listed m w.pairs p (are_listed m a told i w) (sym (least_is_told m a told i w) ∙ e)
pair_refused m a (Some told) false p Strict i w e = absurd w
pair_refused m a None wants p Strict i w e = cc
pair_refused m a told wants p Cells i w e = cc
pair_refused m a told wants p Front i w e = cc

-- where no pair is refused there is none
none_loose : (m : ModuleTree) (a : Aif) (told : Option Pairs) (wants : Bool) → (true ≡ true → wants ≡ true) → IsAifOf m a → AreWanted wants a told → refused_pair Strict told ≡ None → HasNoPair m
none_loose m a (Some told) true h i w e = none_listed m w.pairs (are_listed m a told i w) (sym (least_is_told m a told i w) ∙ e)
none_loose m a (Some told) false h i w e = absurd w
none_loose m a None true h i w e = absurd w
none_loose m a None false h i w e =
    let wanted : false ≡ true = h refl in
    cc

-- what was built without refusing loose pairs, and allowed
pub allowed_as : (strict wants : Bool) (t : Typed) (b : Built) (r : Result Built BuildFault) → (strict ≡ true → wants ≡ true) → CellsAs Cells wants t (Ok b) → AllowedAs (scrutiny_of strict) b r → CellsAs (scrutiny_of strict) wants t r
allowed_as strict wants t b (Ok c) h cells k =
    subst (λ (d : Built). CellsAs (scrutiny_of strict) wants t (Ok d)) (sym k.0) (λ m i. (tightened strict h k.1 m (cells m i).0 (cells m i).1, (cells m i).1))
  where
    tightened : (s : Bool) → (s ≡ true → wants ≡ true) → refused_pair (scrutiny_of s) b.pairs ≡ None → (m : ModuleTree) → CanRun m → ArePartsOf wants m b → HasGoodCells (scrutiny_of s) m
    tightened false g e m run parts = run
    tightened true g e m run parts = (run, none_loose m b.aif b.pairs wants g parts.cells_are parts.pairs_are e)
allowed_as strict wants t b (Err (fault.Refused q p)) h cells k =
    λ m i. subst (λ (r : ℕ). BreaksLate (scrutiny_of strict) m r p) (sym k.0)
    (by_pair p (is_strict strict k.1) (cells m i).0 (pair_refused m b.aif b.pairs wants p (scrutiny_of strict) (cells m i).1.cells_are (cells m i).1.pairs_are k.1))
  where
    is_strict : (s : Bool) → refused_pair (scrutiny_of s) b.pairs ≡ Some p → scrutiny_of s ≡ Strict
    is_strict true e = refl
    is_strict false e = cc
allowed_as strict wants t b (Err fault.NoMemory) h cells k = absurd k

pub cells_judged : (strict : Bool) → judges_cells (scrutiny_of strict) ≡ true
cells_judged true = refl
cells_judged false = refl

-- a refusal for size or for a cycle doesn't ask whether loose pairs are refused
refused_alike : (strict : Bool) (m : ModuleTree) (r : ℕ) (p : Place) → BreaksLate Cells m r p → BreaksLate (scrutiny_of strict) m r p
refused_alike strict m r p (by_size _ l) = by_size (cells_judged strict) l
refused_alike strict m r p (by_cycle cycle _ _ l c) = by_cycle cycle p (cells_judged strict) l c
refused_alike strict m r p (by_pair _ s run k) =
    let never : Cells ≡ Strict = s in
    cc

pub refused_as : (strict wants : Bool) (t : Typed) (f : BuildFault) → CellsAs Cells wants t (Err f) → CellsAs (scrutiny_of strict) wants t (Err f)
refused_as strict wants t fault.NoMemory h = tt
refused_as strict wants t (fault.Refused r p) h = λ m i. refused_alike strict m r p (h m i)

pub built_as : (scrutiny : Scrutiny) (wants : Bool) (text : List ℕ) (t : Typed) (r : Result Built BuildFault) → FrontAs text (Ok t) → CellsAs scrutiny wants t r → BuildsAs scrutiny wants text r
built_as scrutiny wants text t (Ok b) (m, k, i) h = (m, record { typed = k.typed; good = (h m i).0 }, (h m i).1)
built_as scrutiny wants text t (Err fault.NoMemory) (m, k, i) h = tt
built_as scrutiny wants text t (Err (fault.Refused r p)) (m, k, i) h = late text m r p k.typed (h m i)

-- no rule on cells is asked of a front
none_late : (m : ModuleTree) (r : ℕ) (p : Place) → BreaksLate Front m r p → ⊥
none_late m r p (by_size j _) =
    let never : false ≡ true = j in
    cc
none_late m r p (by_cycle _ _ j _ _) =
    let never : false ≡ true = j in
    cc
none_late m r p (by_pair _ s _ _) =
    let never : Front ≡ Strict = s in
    cc

-- so a front is refused by one of the first rules
breaks_early : (text : List ℕ) (r : ℕ) (p : Place) → Refuses Front text r p → BreaksEarly text r p
breaks_early text r p (early _ _ _ b) = b
breaks_early text r p (late _ m _ _ _ b) = absurd (none_late m r p b)

pub front_refused : (scrutiny : Scrutiny) (wants : Bool) (text : List ℕ) (f : BuildFault) → FrontAs text (Err f) → BuildsAs scrutiny wants text (Err f)
front_refused scrutiny wants text fault.NoMemory h = tt
front_refused scrutiny wants text (fault.Refused r p) h = early text r p (breaks_early text r p h)
