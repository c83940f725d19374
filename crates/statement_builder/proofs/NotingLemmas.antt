-- Labels, actions and monitors.
use Rattle.std.proofs.Common.{◌≡◌, ◌∙◌, ℕ, zero, suc, ◌<◌, ◌++◌, List, [], ◌∷◌, length, map, reverse, refl, sym, ap, subst, append_assoc, append-nil, arith, Bool, true, false, Vec, Global}
use Rattle.std.specs.Prelude.{◌==◌, ◌&&◌, slice_get, slice_set, Some}
use Rattle.std.proofs.lemmas.List.{length-set, reverse-append, reverse-reverse}
use Rattle.std.proofs.lemmas.Bool.Decides.{nat_tests}
use Rattle.statement_builder.proofs.StepLemmas.{then_done}
use Rattle.quartz_expr.specs.Resolve.{same_bool}
use Rattle.aif_cells.specs.declared.reference.Ref.{Ref}
use Rattle.aif_cells.specs.declared.cells.Action.{Action}
use Rattle.statement_cells.specs.Expressions.{Test}
use Rattle.statement_cells.specs.Builder.{Entry as PlainEntry, act, action_if, enter, stay_at, watch, watch_one, writes_to}
use Rattle.expression_cells.specs.declared.fault_test.Test.{Test as Boxed}
use Rattle.expression_cells.specs.Tests.{all_tests, test_of}
use Rattle.statement_builder.specs.declared.builder.Builder.{Builder}
use Rattle.statement_builder.specs.declared.builder.Entry.{Entry}
use Rattle.statement_builder.specs.declared.builder.OpenVar.{OpenVar}
use Rattle.statement_builder.specs.Built.{Does, HasMoreWrites, WritesMore, entry, open_writes, open_copies}

entries_more : (es : List Entry) (e : Entry) → map entry (es ++ e ∷ []) ≡ map entry es ++ entry e ∷ []
entries_more [] e = refl
entries_more (d ∷ es) e = ap (λ (xs : List PlainEntry). entry d ∷ xs) (entries_more es e)

pub entered : (b : Builder) (es : List Entry) (l : ℕ) (r : Ref) → es ≡ b.entries ++ record { label = l; under = r } ∷ [] → Does b (record b { entries = es }) (λ κ. enter l r)
unfolding enter
entered b es l r e = record {
  over = λ vs h. record { vars = h.vars; variables = h.variables; copies = h.copies };
  built = λ κ front β h. record {
    current = h.current;
    cells = h.cells;
    monitors = h.monitors;
    actions = h.actions;
    made = h.made;
    entries = ap (map entry) e ∙ (entries_more b.entries (record { label = l; under = r }) ∙ ap (λ (xs : List PlainEntry). xs ++ record { label = l; under = r } ∷ []) h.entries);
    stays = h.stays;
    entered = h.entered;
    depths = h.depths;
    writes = h.writes;
    numbers = h.numbers;
  };
}

pub stayed : (b : Builder) (es : List Entry) (l : ℕ) (r : Ref) → es ≡ b.stays ++ record { label = l; under = r } ∷ [] → Does b (record b { stays = es }) (λ κ. stay_at l r)
unfolding stay_at
stayed b es l r e = record {
  over = λ vs h. record { vars = h.vars; variables = h.variables; copies = h.copies };
  built = λ κ front β h. record {
    current = h.current;
    cells = h.cells;
    monitors = h.monitors;
    actions = h.actions;
    made = h.made;
    entries = h.entries;
    stays = ap (map entry) e ∙ (entries_more b.stays (record { label = l; under = r }) ∙ ap (λ (xs : List PlainEntry). xs ++ record { label = l; under = r } ∷ []) h.stays);
    entered = h.entered;
    depths = h.depths;
    writes = h.writes;
    numbers = h.numbers;
  };
}

-- ---- actions

action_step : (b : Bool) (a : Action) (xs ys : List Action) → action_if b a (xs ++ ys) ≡ action_if b a xs ++ ys
action_step true a xs ys = refl
action_step false a xs ys = refl

-- writes that stand one behind another
pub writes-append : (x : ℕ) (d : Bool) (xs ys : List Action) → writes_to x d (xs ++ ys) ≡ writes_to x d xs ++ writes_to x d ys
writes-append x d [] ys = refl
writes-append x d (a ∷ xs) ys =
    ap (action_if ((a.var == x) && same_bool a.delayed d) a) (writes-append x d xs ys) ∙ action_step ((a.var == x) && same_bool a.delayed d) a (writes_to x d xs) (writes_to x d ys)

pub get_set_same : (os : List OpenVar) (k : ℕ) (o : OpenVar) → k < length os → slice_get (slice_set os k o) k ≡ Some o
get_set_same [] k o h = absurd (omega arith)
get_set_same (p ∷ os) zero o h = refl
get_set_same (p ∷ os) (suc k) o h = get_set_same os k o (omega (arith, h))

pub get_set_other : (os : List OpenVar) (k x : ℕ) (o : OpenVar) → (k ≡ x → ⊥) → slice_get (slice_set os k o) x ≡ slice_get os x
get_set_other [] k x o h = refl
get_set_other (p ∷ os) zero zero o h = absurd (h refl)
get_set_other (p ∷ os) zero (suc x) o h = refl
get_set_other (p ∷ os) (suc k) zero o h = refl
get_set_other (p ∷ os) (suc k) (suc x) o h = get_set_other os k x o (λ e. h (ap suc e))

pub is_number : (k x : ℕ) → (k == x) ≡ true → k ≡ x
is_number k x h = grind (arith, nat_tests)

pub is_other : (k x : ℕ) → (k == x) ≡ false → k ≡ x → ⊥
is_other k x h e = grind (arith, nat_tests)

-- an action behind the others of its variable
pub more_writes : (os : List OpenVar) (a : Action) (before after : OpenVar) → a.var < length os → slice_get os a.var ≡ Some before → WritesMore before a after → HasMoreWrites os a (slice_set os a.var after)
more_writes os a before after lt e h = record {
  count = length-set os a.var after;
  copies = λ x. copies_at x (a.var == x) refl;
  writes = λ x d k. writes_at x d (a.var == x) refl;
}
  where
    here : (x : ℕ) → a.var ≡ x → slice_get (slice_set os a.var after) x ≡ Some after
    here x f = ap (slice_get (slice_set os a.var after)) (sym f) ∙ get_set_same os a.var after lt

    there : (x : ℕ) → a.var ≡ x → slice_get os x ≡ Some before
    there x f = ap (slice_get os) (sym f) ∙ e

    copies_at : (x : ℕ) (b : Bool) → (a.var == x) ≡ b → open_copies (slice_get (slice_set os a.var after) x) ≡ open_copies (slice_get os x)
    copies_at x true f = let g : a.var ≡ x = is_number a.var x f in ap open_copies (here x g) ∙ (h.copies ∙ sym (ap open_copies (there x g)))
    copies_at x false f = ap open_copies (get_set_other os a.var x after (is_other a.var x f))

    writes_at : (x : ℕ) (d b : Bool) → (a.var == x) ≡ b → open_writes d (slice_get (slice_set os a.var after) x) ≡ open_writes d (slice_get os x) ++ action_if ((a.var == x) && same_bool a.delayed d) a []
    writes_at x d true f =
        let g : a.var ≡ x = is_number a.var x f in
        ap (open_writes d) (here x g) ∙ (h.writes d ∙ (ap (λ (ws : List Action). ws ++ action_if (same_bool a.delayed d) a []) (sym (ap (open_writes d) (there x g)))
        ∙ ap (λ (b : Bool). open_writes d (slice_get os x) ++ action_if (b && same_bool a.delayed d) a []) (sym f)))
    writes_at x d false f =
        ap (open_writes d) (get_set_other os a.var x after (is_other a.var x f))
        ∙ (sym (append-nil (open_writes d (slice_get os x))) ∙ ap (λ (b : Bool). open_writes d (slice_get os x) ++ action_if (b && same_bool a.delayed d) a []) (sym f))

pub acted : (b : Builder) (as' : List Action) (v : Vec OpenVar Global) (a : Action) → HasMoreWrites b.variables.items a v.items → as' ≡ b.aif.actions ++ a ∷ []
    → Does b (record b { aif = record b.aif { actions = as' }; variables = v }) (λ κ. act a)
unfolding act
acted b as' v a more e = record {
  over = λ vs h. record { vars = h.vars; variables = more.count ∙ h.variables; copies = h.copies };
  built = λ κ front β h. record {
    current = h.current;
    cells = h.cells;
    monitors = h.monitors;
    actions = e ∙ ap (λ (xs : List Action). xs ++ a ∷ []) h.actions;
    made = h.made;
    entries = h.entries;
    stays = h.stays;
    entered = h.entered;
    depths = h.depths;
    writes = λ x d k.
        let j : x < length b.variables.items = subst (λ (n : ℕ). x < n) more.count k in
        more.writes x d j ∙ (ap (λ (ws : List Action). ws ++ writes_to x d (a ∷ [])) (h.writes x d j)
        ∙ (sym (writes-append x d (front ++ β.writes) (a ∷ [])) ∙ ap (writes_to x d) (append_assoc front β.writes (a ∷ []))));
    numbers = λ x k. more.copies x ∙ h.numbers x (subst (λ (n : ℕ). x < n) more.count k);
  };
}

-- ---- monitors

pub watch_more : (b0 b1 b : Builder) (ts us : List Boxed) (t : Boxed) → ts ≡ us ++ t ∷ [] → Does b0 b1 (λ κ. watch_one (test_of t)) → Does b1 b (λ κ. watch (all_tests (reverse us)))
    → Does b0 b (λ κ. watch (all_tests (reverse ts)))
unfolding watch
watch_more b0 b1 b ts us t e h k =
    let f : reverse ts ≡ t ∷ reverse us = ap reverse e ∙ reverse-append us (t ∷ []) in
    subst (λ (xs : List Boxed). Does b0 b (λ κ. watch (all_tests xs))) (sym f) (then_done b0 b1 b (λ κ. watch_one (test_of t)) (λ κ. watch (all_tests (reverse us))) h k)

pub watch_end : (b : Builder) (ts : List Boxed) → ts ≡ [] → Does b b (λ κ. watch (all_tests (reverse ts)))
unfolding watch
watch_end b ts e = subst (λ (xs : List Boxed). Does b b (λ κ. watch (all_tests (reverse xs)))) (sym e) (record { over = λ vs h. h; built = λ κ front β h. h })

pub watch_turned : (b0 b : Builder) (ts us : List Boxed) → us ≡ reverse ts → Does b0 b (λ κ. watch (all_tests (reverse us))) → Does b0 b (λ κ. watch (all_tests ts))
watch_turned b0 b ts us e h = subst (λ (xs : List Boxed). Does b0 b (λ κ. watch (all_tests xs))) (ap reverse e ∙ reverse-reverse ts) h
