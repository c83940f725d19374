-- Scopes that are opened and closed.
use Rattle.std.proofs.Common.{◌≡◌, ◌∙◌, ℕ, zero, suc, ◌+◌, ◌<◌, ◌++◌, List, [], ◌∷◌, length, map, replicate, refl, sym, ap, subst, append_assoc, append-nil, arith, Bool, true, false, Vec, Global, pos}
use Rattle.std.specs.Prelude.{◌==◌, ◌&&◌, count_by, cond, slice_get, slice_set, Option, Some, if◌then◌else◌}
use Rattle.std.proofs.lemmas.List.{length-map, length-set}
use Rattle.std.proofs.lemmas.List.Sums.{sum_by_push}
use Rattle.std.proofs.lemmas.Bool.Decides.{nat_tests}
use Rattle.quartz_tree.specs.declared.place.Place.{Place}
use Rattle.quartz_tree.specs.declared.declare.Var.{Var}
use Rattle.quartz_expr.specs.Vars.{Vars, count_of, declared_at, read}
use Rattle.quartz_expr.specs.Resolve.{same_bool}
use Rattle.aif_cells.specs.declared.reference.Ref.{Ref}
use Rattle.aif_cells.specs.declared.reference.Ref.TheVariants as ref
use Rattle.aif_cells.specs.declared.cells.Action.{Action}
use Rattle.aif_cells.specs.declared.cells.Cell.{Cell}
use Rattle.aif_cells.specs.declared.cells.Made.{Made as MadeCopy}
use Rattle.aif_cells.specs.Built.{Defined, all_defined, defined}
use Rattle.aif_cells.specs.declared.aif.Aif.{Aif}
use Rattle.absence_reaction.specs.declared.copy.Shape.{Shape}
use Rattle.absence_reaction.specs.declared.copy.VarCopy.{VarCopy}
use Rattle.absence_reaction.specs.Closing.{Copy, built as cells_built, closed_copy, shape_of}
use Rattle.reincarnation.proofs.CarryLemmas.{var_at}
use Rattle.quartz_tree.specs.declared.declare.Storage.TheVariants.{Mem}
use Rattle.statement_cells.specs.Labels.{shape_in}
use Rattle.reincarnation.specs.Entering.{copies_of, numbers_from, reserved}
use Rattle.statement_cells.specs.declared.current.Current.{Current}
use Rattle.statement_cells.specs.Expressions.{Copies}
use Rattle.statement_cells.specs.Builder.{Builder as Plain, action_if, built_of, close_scope, closed_refs, copy_at, new_cells, reserve, writes_to, writes_to_others}
use Rattle.statement_builder.specs.declared.builder.Builder.{Builder}
use Rattle.statement_builder.specs.declared.builder.OpenVar.{OpenVar}
use Rattle.statement_builder.specs.declared.scoping.Scope.{Scope}
use Rattle.statement_builder.specs.Built.{HasCopies, HasWrites, IsBuilt, IsOver, open_copies, open_writes, writes_of}
use Rattle.statement_builder.specs.Scopes.{Closes, Opens, fresh_open, front_inside, restored_open}
use Rattle.statement_builder.proofs.NotingLemmas.{get_set_other, get_set_same, is_number, is_other, writes-append}

-- ---- writes to others

writes_step_same : (x y : ℕ) (d b : Bool) (a : Action) (ws : List Action) → (y ≡ x → ⊥) → (a.var == x) ≡ b
    → writes_to y d (writes_to_others x ws) ≡ writes_to y d ws → writes_to y d (if b then writes_to_others x ws else a ∷ writes_to_others x ws) ≡ action_if ((a.var == y) && same_bool a.delayed d) a (writes_to y d ws)
writes_step_same x y d true a ws h e f =
    let g : (a.var == y) ≡ false = not_number a.var y (λ i. h (sym i ∙ is_number a.var x e)) in
    f ∙ ap (λ (c : Bool). action_if (c && same_bool a.delayed d) a (writes_to y d ws)) (sym g)
  where
    not_number : (k n : ℕ) → (k ≡ n → ⊥) → (k == n) ≡ false
    not_number k n i = grind (arith, nat_tests)
writes_step_same x y d false a ws h e f = ap (action_if ((a.var == y) && same_bool a.delayed d) a) f

-- of another variable all writes stay
pub writes_other : (x y : ℕ) (d : Bool) (ws : List Action) → (y ≡ x → ⊥) → writes_to y d (writes_to_others x ws) ≡ writes_to y d ws
writes_other x y d [] h = refl
writes_other x y d (a ∷ ws) h = writes_step_same x y d (a.var == x) a ws h refl (writes_other x y d ws h)

none_step : (x : ℕ) (d b : Bool) (a : Action) (ws : List Action) → (a.var == x) ≡ b → writes_to x d (writes_to_others x ws) ≡ []
    → writes_to x d (if b then writes_to_others x ws else a ∷ writes_to_others x ws) ≡ []
none_step x d true a ws e f = f
none_step x d false a ws e f = ap (λ (c : Bool). action_if (c && same_bool a.delayed d) a (writes_to x d (writes_to_others x ws))) e ∙ f

-- of the variable itself none
pub writes_own : (x : ℕ) (d : Bool) (ws : List Action) → writes_to x d (writes_to_others x ws) ≡ []
writes_own x d [] = refl
writes_own x d (a ∷ ws) = none_step x d (a.var == x) a ws refl (writes_own x d ws)

-- ---- the number of copies

count_push : (p : MadeCopy → Bool) (ms : List MadeCopy) (m : MadeCopy) → count_by p (ms ++ m ∷ []) ≡ count_by p ms + cond (p m) 1 0
count_push p ms m = sum_by_push (λ (n : MadeCopy). cond (p n) 1 0) ms m

copies_more : (x y : ℕ) (b stored : Bool) (ms : List MadeCopy) (n m : ℕ) → (x == y) ≡ b → n ≡ copies_of y ms → m ≡ n + cond b 1 0 → m ≡ copies_of y (ms ++ record { var = x; stored = stored } ∷ [])
copies_more x y b stored ms n m e f g =
    g ∙ (ap (λ (k : ℕ). k + cond b 1 0) f ∙ (ap (λ (c : Bool). copies_of y ms + cond c 1 0) (sym e) ∙ sym (count_push (λ k. k.var == y) ms (record { var = x; stored = stored }))))

-- ---- opening

cells_same : (b : Builder) (κ : Copies) (front : List Action) (β : Plain) → IsBuilt κ front b β → length b.aif.cells ≡ length β.cells
cells_same b κ front β h = sym (length-map b.aif.cells defined) ∙ ap length h.cells

fresh_writes : (os : List OpenVar) (outer : OpenVar) (x : ℕ) (ws : List Action) → x < length os → HasWrites os ws → HasWrites (slice_set os x (fresh_open outer)) (writes_to_others x ws ++ [])
fresh_writes os outer x ws lt h y d k = at (x == y) refl ∙ ap (writes_to y d) (sym (append-nil (writes_to_others x ws)))
  where
    none : (e : Bool) → writes_of e (fresh_open outer) ≡ []
    none true = refl
    none false = refl

    at : (b : Bool) → (x == y) ≡ b → open_writes d (slice_get (slice_set os x (fresh_open outer)) y) ≡ writes_to y d (writes_to_others x ws)
    at true e =
        let g : x ≡ y = is_number x y e in
        ap (λ (z : ℕ). open_writes d (slice_get (slice_set os x (fresh_open outer)) z)) (sym g)
        ∙ (ap (open_writes d) (get_set_same os x (fresh_open outer) lt) ∙ (none d ∙ (sym (writes_own x d ws) ∙ ap (λ (z : ℕ). writes_to z d (writes_to_others x ws)) g)))
    at false e =
        let g : (y ≡ x → ⊥) = λ i. is_other x y e (sym i) in
        ap (open_writes d) (get_set_other os x y (fresh_open outer) (is_other x y e))
        ∙ (h y d (subst (λ (n : ℕ). y < n) (length-set os x (fresh_open outer)) k) ∙ sym (writes_other x y d ws g))

fresh_copies : (os : List OpenVar) (outer : OpenVar) (x : ℕ) (stored : Bool) (β γ : Plain) → x < length os → slice_get os x ≡ Some outer → HasCopies os β → γ.made ≡ β.made ++ record { var = x; stored = stored } ∷ []
    → HasCopies (slice_set os x (fresh_open outer)) γ
fresh_copies os outer x stored β γ lt o h m y k = at (x == y) refl ∙ ap (copies_of y) (sym m)
  where
    within : y < length os
    within = subst (λ (n : ℕ). y < n) (length-set os x (fresh_open outer)) k

    at : (b : Bool) → (x == y) ≡ b → open_copies (slice_get (slice_set os x (fresh_open outer)) y) ≡ copies_of y (β.made ++ record { var = x; stored = stored } ∷ [])
    at true e =
        let g : x ≡ y = is_number x y e in
        let i : open_copies (slice_get (slice_set os x (fresh_open outer)) y) ≡ outer.copies + 1 = ap (λ (z : ℕ). open_copies (slice_get (slice_set os x (fresh_open outer)) z)) (sym g) ∙ ap open_copies (get_set_same os x (fresh_open outer) lt) in
        let j : outer.copies ≡ copies_of y β.made = sym (ap open_copies o) ∙ (ap (λ (z : ℕ). open_copies (slice_get os z)) g ∙ h y within) in
        copies_more x y true stored β.made outer.copies (open_copies (slice_get (slice_set os x (fresh_open outer)) y)) e j i
    at false e =
        let i : open_copies (slice_get (slice_set os x (fresh_open outer)) y) ≡ open_copies (slice_get os y) + 0 = ap open_copies (get_set_other os x y (fresh_open outer) (is_other x y e)) ∙ plus_nothing (open_copies (slice_get os y)) in
        copies_more x y false stored β.made (open_copies (slice_get os y)) (open_copies (slice_get (slice_set os x (fresh_open outer)) y)) e (h y within) i
      where
        plus_nothing : (n : ℕ) → n ≡ n + 0
        plus_nothing n = omega arith

pub scope_opened : (vs : Vars) (b : Builder) (x first count : ℕ) (stored : Bool) (cs : List Cell) (ms : List MadeCopy) (v : Vec OpenVar Global) (k : Vec Current Global) (place : Place) (values : List ℕ) (outer : OpenVar) (refs : List Ref) (cur : Current)
    → IsOver vs b → x < length vs → place ≡ declared_at vs x → count ≡ count_of vs x → values ≡ numbers_from (length b.aif.cells) count
    → all_defined cs ≡ all_defined b.aif.cells ++ replicate count (reserved place) → ms ≡ b.aif.made ++ record { var = x; stored = stored } ∷ []
    → slice_get b.variables.items x ≡ Some outer → v.items ≡ slice_set b.variables.items x (fresh_open outer) → refs ≡ map ref.Cell values
    → slice_get b.copies.items x ≡ Some cur → k.items ≡ slice_set b.copies.items x (record { copy = outer.copies; values = refs })
    → Opens vs b x stored first (record { var = x; stored = stored; first = first; copy = outer.copies; values = values; current = cur; outer = outer }) (record b { aif = record b.aif { made = ms; cells = cs }; copies = k; variables = v })
unfolding reserve
scope_opened vs b x first count stored cs ms v k place values outer refs cur o lt ep ec ev es em eo en er eu ek = record {
  var = refl;
  stored_is = refl;
  first_is = refl;
  over = λ ws h. record {
    vars = h.vars;
    variables = ap length en ∙ (length-set b.variables.items x (fresh_open outer) ∙ h.variables);
    copies = ap length ek ∙ (length-set b.copies.items x (record { copy = outer.copies; values = refs }) ∙ h.copies);
  };
  opened = λ κ front β h. record {
    copy = number κ front β h;
    values = numbers κ front β h;
    current = ap (λ (c : Copies). slice_get c x) (sym h.current) ∙ eu;
    outer = λ d. sym (ap (open_writes d) eo) ∙ h.writes x d within;
  };
  built = λ κ front β h. record {
    current = ek ∙ (ap (λ (n : ℕ). slice_set b.copies.items x (record { copy = n; values = refs })) (number κ front β h)
        ∙ (ap (λ (rs : List Ref). slice_set b.copies.items x (record { copy = copies_of x β.made; values = rs })) (er ∙ ap (map ref.Cell) (numbers κ front β h))
        ∙ ap (λ (c : Copies). slice_set c x (record { copy = copies_of x β.made; values = map ref.Cell (new_cells vs x β) })) h.current));
    cells = es ∙ (ap (λ (ds : List Defined). ds ++ replicate count (reserved place)) h.cells ∙ (ap (λ (n : ℕ). β.cells ++ replicate n (reserved place)) ec ∙ ap (λ (p : Place). β.cells ++ replicate (count_of vs x) (reserved p)) ep));
    monitors = h.monitors;
    actions = h.actions;
    made = em ∙ ap (λ (m : List MadeCopy). m ++ record { var = x; stored = stored } ∷ []) h.made;
    entries = h.entries;
    stays = h.stays;
    entered = h.entered;
    depths = h.depths;
    writes = subst (λ (os : List OpenVar). HasWrites os (front_inside x front β ++ [])) (sym en) (fresh_writes b.variables.items outer x (front ++ β.writes) within h.writes);
    numbers = subst (λ (os : List OpenVar). HasCopies os (reserve vs x stored β)) (sym en) (fresh_copies b.variables.items outer x stored β (reserve vs x stored β) within eo h.numbers refl);
  };
}
  where
    within : x < length b.variables.items
    within = subst (λ (n : ℕ). x < n) (sym o.variables) lt

    number : (κ : Copies) (front : List Action) (β : Plain) → IsBuilt κ front b β → outer.copies ≡ copies_of x β.made
    number κ front β h = sym (ap open_copies eo) ∙ h.numbers x within

    numbers : (κ : Copies) (front : List Action) (β : Plain) → IsBuilt κ front b β → values ≡ new_cells vs x β
    numbers κ front β h = ev ∙ (ap (λ (n : ℕ). numbers_from n count) (cells_same b κ front β h) ∙ ap (numbers_from (length β.cells)) ec)

-- ---- closing

set_back : (κ : Copies) (x : ℕ) (c d : Current) → slice_get κ x ≡ Some d → slice_set (slice_set κ x c) x d ≡ κ
set_back [] x c d e = refl
set_back (k ∷ κ) zero c d e = ap (λ (j : Current). j ∷ κ) (sym (some_is k d e))
  where
    some_is : (i j : Current) → Some i ≡ Some j → i ≡ j
    some_is i j f = cc
set_back (k ∷ κ) (suc x) c d e = ap (λ (cs : Copies). k ∷ cs) (set_back κ x c d e)

-- what closing asks of the variable that is there
shape_by : Option Var → Shape
shape_by o = record { storage = read Mem (λ v. v.decl.storage) o; delayed = read false (λ v. v.delayed) o; start = read (pos 0) (λ v. v.start) o; place = read (record { line = 0; col = 0 }) (λ v. v.decl.place) o }

shape_is : (vs : Vars) (x : ℕ) (v : Var) → slice_get vs x ≡ Some v → shape_of v ≡ shape_in vs x
unfolding shape_by
shape_is vs x v e = sym (ap shape_by e)

inner_writes : (os : List OpenVar) (i : OpenVar) (x : ℕ) (d : Bool) (ws us : List Action) → x < length os → slice_get os x ≡ Some i → HasWrites os (writes_to_others x ws ++ us) → writes_of d i ≡ writes_to x d us
inner_writes os i x d ws us lt e h =
    sym (ap (open_writes d) e) ∙ (h x d lt ∙ (writes-append x d (writes_to_others x ws) us ∙ ap (λ (xs : List Action). xs ++ writes_to x d us) (writes_own x d ws)))

restored_writes : (os : List OpenVar) (i o : OpenVar) (x : ℕ) (front mine us : List Action) → x < length os → ((d : Bool) → writes_of d o ≡ writes_to x d (front ++ mine)) → HasWrites os (writes_to_others x (front ++ mine) ++ us)
    → HasWrites (slice_set os x (restored_open i o)) (front ++ (mine ++ writes_to_others x us))
restored_writes os i o x front mine us lt h g y d k = at (x == y) refl ∙ ap (writes_to y d) (append_assoc front mine (writes_to_others x us))
  where
    same : (e : Bool) → writes_of e (restored_open i o) ≡ writes_of e o
    same true = refl
    same false = refl

    at : (b : Bool) → (x == y) ≡ b → open_writes d (slice_get (slice_set os x (restored_open i o)) y) ≡ writes_to y d ((front ++ mine) ++ writes_to_others x us)
    at true e =
        let f : x ≡ y = is_number x y e in
        ap (λ (z : ℕ). open_writes d (slice_get (slice_set os x (restored_open i o)) z)) (sym f)
        ∙ (ap (open_writes d) (get_set_same os x (restored_open i o) lt) ∙ (same d ∙ (h d ∙ (sym (append-nil (writes_to x d (front ++ mine)))
        ∙ (ap (λ (xs : List Action). writes_to x d (front ++ mine) ++ xs) (sym (writes_own x d us)) ∙ (sym (writes-append x d (front ++ mine) (writes_to_others x us))
        ∙ ap (λ (z : ℕ). writes_to z d ((front ++ mine) ++ writes_to_others x us)) f))))))
    at false e =
        let f : (y ≡ x → ⊥) = λ j. is_other x y e (sym j) in
        ap (open_writes d) (get_set_other os x y (restored_open i o) (is_other x y e))
        ∙ (g y d (subst (λ (n : ℕ). y < n) (length-set os x (restored_open i o)) k) ∙ (writes-append y d (writes_to_others x (front ++ mine)) us
        ∙ (ap (λ (xs : List Action). xs ++ writes_to y d us) (writes_other x y d (front ++ mine) f) ∙ (ap (λ (xs : List Action). writes_to y d (front ++ mine) ++ xs) (sym (writes_other x y d us f))
        ∙ sym (writes-append y d (front ++ mine) (writes_to_others x us))))))

restored_copies : (os : List OpenVar) (i o : OpenVar) (x : ℕ) (β γ : Plain) → x < length os → slice_get os x ≡ Some i → HasCopies os β → β.made ≡ γ.made → HasCopies (slice_set os x (restored_open i o)) γ
restored_copies os i o x β γ lt e h m y k = at (x == y) refl ∙ (h y (subst (λ (n : ℕ). y < n) (length-set os x (restored_open i o)) k) ∙ ap (copies_of y) m)
  where
    at : (b : Bool) → (x == y) ≡ b → open_copies (slice_get (slice_set os x (restored_open i o)) y) ≡ open_copies (slice_get os y)
    at true f =
        let g : x ≡ y = is_number x y f in
        ap (λ (z : ℕ). open_copies (slice_get (slice_set os x (restored_open i o)) z)) (sym g) ∙ (ap open_copies (get_set_same os x (restored_open i o) lt) ∙ (sym (ap open_copies e) ∙ ap (λ (z : ℕ). open_copies (slice_get os z)) g))
    at false f = ap open_copies (get_set_other os x y (restored_open i o) (is_other x y f))

-- the copy that is closed
abbrev copy_with : Scope → OpenVar → VarCopy
copy_with s i = record { var = s.var; copy = s.copy; stored = s.stored; first = s.first; values = s.values; now = i.now; next = i.next }

pub scope_closed : (vs : Vars) (b : Builder) (s : Scope) (i : OpenVar) (v : Vec OpenVar Global) (k : Vec Current Global) (aif : Aif) (values flags pending : List Ref)
    → IsOver vs b → s.var < length vs → slice_get b.variables.items s.var ≡ Some i → v.items ≡ slice_set b.variables.items s.var (restored_open i s.outer) → k.items ≡ slice_set b.copies.items s.var s.current
    → ((w : Var) → slice_get b.aif.vars s.var ≡ Some w → record { values = values; flags = flags; pending = pending; built = cells_built aif.cells aif.monitors } ≡ closed_copy (shape_of w) (copy_with s i) (cells_built b.aif.cells b.aif.monitors))
    → aif ≡ record b.aif { cells = aif.cells; monitors = aif.monitors }
    → Closes vs b s (record { values = values; flags = flags; pending = pending }) (record b { aif = aif; copies = k; variables = v })
unfolding close_scope
scope_closed vs b s i v k aif values flags pending o lt ei ev ek made rest = record {
  over = λ ws h. record {
    vars = ap (λ (a : Aif). a.vars) rest ∙ h.vars;
    variables = ap length ev ∙ (length-set b.variables.items s.var (restored_open i s.outer) ∙ h.variables);
    copies = ap length ek ∙ (length-set b.copies.items s.var s.current ∙ h.copies);
  };
  built = λ κ front β inner active h g.
      let w : (w : Var) × (slice_get vs s.var ≡ Some w) = var_at vs s.var lt in
      let copied : copy_with s i ≡ copy_at vs s.var s.stored s.first β inner = λ j. record {
        var = s.var;
        copy = h.copy j;
        stored = s.stored;
        first = s.first;
        values = h.values j;
        now = inner_writes b.variables.items i s.var false (front ++ β.writes) inner.writes within ei g.writes j;
        next = inner_writes b.variables.items i s.var true (front ++ β.writes) inner.writes within ei g.writes j;
      } in
      let before : cells_built b.aif.cells b.aif.monitors ≡ built_of inner = λ j. record { cells = g.cells j; monitors = g.monitors j } in
      let all : record { values = values; flags = flags; pending = pending; built = cells_built aif.cells aif.monitors } ≡ closed_copy (shape_in vs s.var) (copy_at vs s.var s.stored s.first β inner) (built_of inner) =
      made w.0 (ap (λ (us : Vars). slice_get us s.var) o.vars ∙ w.1)
      ∙ (ap (λ (p : Shape). closed_copy p (copy_with s i) (cells_built b.aif.cells b.aif.monitors)) (shape_is vs s.var w.0 w.1)
      ∙ (ap (λ (c : VarCopy). closed_copy (shape_in vs s.var) c (cells_built b.aif.cells b.aif.monitors)) copied
      ∙ ap (closed_copy (shape_in vs s.var) (copy_at vs s.var s.stored s.first β inner)) before)) in (
        ap (λ (c : Copy). closed_refs c) all,
        record {
          current = ek ∙ (ap (λ (c : Copies). slice_set c s.var s.current) g.current ∙ set_back κ s.var (record { copy = copies_of s.var β.made; values = map ref.Cell (new_cells vs s.var β) }) s.current h.current);
          cells = ap (λ (c : Copy). c.built.cells) all;
          monitors = ap (λ (c : Copy). c.built.monitors) all;
          actions = ap (λ (a : Aif). a.actions) rest ∙ g.actions;
          made = ap (λ (a : Aif). a.made) rest ∙ g.made;
          entries = g.entries;
          stays = g.stays;
          entered = g.entered;
          depths = g.depths;
          writes = subst (λ (os : List OpenVar). HasWrites os (front ++ (β.writes ++ writes_to_others s.var inner.writes))) (sym ev) (restored_writes b.variables.items i s.outer s.var front β.writes inner.writes within h.outer g.writes);
          numbers = subst (λ (os : List OpenVar). HasCopies os (close_scope vs s.var s.stored s.first active β inner).built) (sym ev) (restored_copies b.variables.items i s.outer s.var inner (close_scope vs s.var s.stored s.first active β inner).built within ei g.numbers refl);
        },
      );
}
  where
    within : s.var < length b.variables.items
    within = subst (λ (n : ℕ). s.var < n) (sym o.variables) lt
