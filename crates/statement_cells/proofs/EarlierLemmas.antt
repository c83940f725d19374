-- Builders in order: what is there stays there, and each new cell names only cells before it.
use Rattle.std.proofs.Common.{◌≡◌, ◌∙◌, ◌⊎◌, inl, inr, ℕ, zero, suc, ◌+◌, ◌<◌, ◌≤◌, ℤ, pos, List, [], ◌∷◌, ◌++◌, length, All, Some, refl, sym, ap, subst, arith, length-append, append-nil, append_assoc}
use Rattle.std.specs.Prelude.{slice_get}
use Rattle.std.proofs.lemmas.Bool.{cases_lt}
use Rattle.std.proofs.lemmas.List.Elements.{All-append, All-cons, All-contains, All-head, All-nil, All-tail}
use Rattle.aif_cells.specs.declared.reference.Ref.{Ref}
use Rattle.aif_cells.specs.declared.reference.Ref.TheVariants as ref
use Rattle.aif_cells.specs.declared.cells.Action.{Action}
use Rattle.aif_cells.specs.declared.cells.Monitor.{Monitor}
use Rattle.aif_cells.specs.declared.tree.TreeOne.TheVariants as tree_one
use Rattle.aif_cells.specs.declared.tree.TreeTwo.TheVariants as tree_two
use Rattle.aif_cells.specs.Tree.{Tree, value, one, two}
use Rattle.aif_cells.specs.Built.{Defined}
use Rattle.aif_cells.specs.Dependences.{DependsOn, cells_in, cells_named}
use Rattle.aif_cells.proofs.SolutionLemmas.{there}
use Rattle.absence_reaction.specs.Earlier.{ActionIsBelow, IsBelow, MonitorsAreBelow}
use Rattle.statement_cells.specs.Expressions.{Copies, Test}
use Rattle.statement_cells.specs.Builder.{Builder, Entry, Made, Reserved, Short, first, second, both, act, and_of, cell_of, enter, given, in_of, labels_tree, new, nowhere, not_of, or_of, pick, stay_at, watch, watch_one}
use Rattle.statement_cells.specs.Earlier.{AreCopiesThere, HoldsBelow, IsOrdered, IsRefThere}
use Rattle.statement_cells.proofs.EarlierTreeLemmas.{Below, TestsBelow}
use Rattle.statement_cells.proofs.EarlierMoreLemmas.{copies_more, holds_more, monitors_more, ref_more, tests_more}
use Rattle.absence_reaction.proofs.EarlierLemmas.{the_one}
use Rattle.aif_cells.proofs.ItemLemmas.{get_before, get_new}

-- ---- later builders

-- the later one has no fewer cells, and more value cells stand behind those that were there
pub record Later (before after : Builder) : Type 0 where
  pub longer : length before.cells ≤ length after.cells
  pub more : List Reserved
  pub reserved : after.reserved ≡ before.reserved ++ more

-- a builder is no earlier than itself
pub same : (β : Builder) → Later β β
same β = record { longer = omega arith; more = []; reserved = sym (append-nil β.reserved) }

-- later than a later one is later
pub follows : {a b c : Builder} → Later a b → Later b c → Later a c
follows {a = a} {b = b} {c = c} g h = record {
  longer = omega (arith, g.longer, h.longer);
  more = g.more ++ h.more;
  reserved = h.reserved ∙ ap (λ l. l ++ h.more) g.reserved ∙ append_assoc a.reserved g.more h.more;
}

-- a reference to a cell that is there
pub record Held (β : Builder) (r : Ref) : Type 0 where
  pub below : IsRefThere β r

-- current copies that are there
pub record CopiesHeld (β : Builder) (κ : Copies) : Type 0 where
  pub below : AreCopiesThere β κ

-- a reference to a cell that is there stays so
pub up : {β γ : Builder} {r : Ref} → Later β γ → Held β r → Held γ r
up {β = β} {γ = γ} {r = r} g h = record { below = ref_more (length β.cells) (length γ.cells) g.longer r h.below }

-- and so do current copies
pub up_copies : {β γ : Builder} {κ : Copies} → Later β γ → CopiesHeld β κ → CopiesHeld γ κ
up_copies {β = β} {γ = γ} {κ = κ} g h = record { below = copies_more (length β.cells) (length γ.cells) g.longer κ h.below }

-- from a builder in order comes another one
pub record GoesTo (before after : Builder) : Type 0 where
  pub later : Later before after
  pub built : IsOrdered after

-- and a reference in it
pub record Goes (before : Builder) (m : Made) : Type 0 where
  pub later : Later before m.built
  pub built : IsOrdered m.built
  pub ref : Held m.built m.ref

-- what goes on from a later builder goes on from the one before
pub behind : {a b : Builder} {m : Made} → Later a b → Goes b m → Goes a m
behind g h = record { later = follows g h.later; built = h.built; ref = h.ref }

-- a reference that is given
pub here : {β : Builder} {r : Ref} → IsOrdered β → Held β r → Goes β (given r β)
here {β = β} w h = record { later = same β; built = w; ref = h }

-- what names no cell is there
pub literal_held : {β : Builder} (z : ℤ) → Held β (ref.Lit z)
literal_held {β = β} z = record { below = All-nil (λ d. d < length β.cells) }

-- neither does a register
pub register_held : {β : Builder} (i : ℕ) → Held β (ref.Reg i)
register_held {β = β} i = record { below = All-nil (λ d. d < length β.cells) }

-- ---- a new cell

-- a cell depends on what it did, or it is the new one
pub split : (cs : List Defined) (x : Defined) (k d : ℕ) → Below (length cs) x.tree → DependsOn (cs ++ x ∷ []) k d → DependsOn cs k d ⊎ ((k ≡ length cs) × (d < length cs))
split cs x k d h dep = elim (cases_lt k (length cs)) [
  | inl lt ↦ inl (dep.0, sym (get_before cs (x ∷ []) k lt) ∙ dep.1, dep.2)
  | inr ge ↦
      let lt : k < length (cs ++ x ∷ []) = there (cs ++ x ∷ []) k dep.0 dep.1 in
      let at : k ≡ length cs = omega (arith, lt, ge, length-append cs (x ∷ [])) in
      let it : x ≡ dep.0 = the_one x dep.0 (sym (ap (slice_get (cs ++ x ∷ [])) at ∙ get_new cs x) ∙ dep.1) in
      inr (at, All-contains (λ d. d < length cs) (cells_in dep.0.tree) d (subst (λ (y : Defined). Below (length cs) y.tree) it h) dep.2)
]

-- a builder with one more cell, and with these monitors
abbrev pub with_cell : Defined → List Monitor → Builder → Builder
with_cell x ms β = record β { cells = β.cells ++ x ∷ []; monitors = ms }

-- one cell more
one_more : (β : Builder) (x : Defined) → length (β.cells ++ x ∷ []) ≡ length β.cells + 1
one_more β x = length-append β.cells (x ∷ [])

-- a new cell that names cells that are there leaves all in order
pub cell_to : (x : Defined) (ms : List Monitor) (β : Builder) → IsOrdered β → Below (length β.cells) x.tree → MonitorsAreBelow (length β.cells + 1) ms → GoesTo β (with_cell x ms β)
cell_to x ms β w h i =
    let n : ℕ = length β.cells in
    let size : length (β.cells ++ x ∷ []) ≡ n + 1 = one_more β x in
    let up : HoldsBelow (length (β.cells ++ x ∷ [])) β = holds_more n (length (β.cells ++ x ∷ [])) (omega (arith, size)) β w.there in
    record {
      later = record { longer = omega (arith, size); more = []; reserved = sym (append-nil β.reserved) };
      built = record {
        before = λ k d e dep. elim (split β.cells x k d h dep) [
          | inl old ↦ w.before k d e old
          | inr it ↦ omega (arith, it.0, it.1)
        ];
        there = record {
          named = λ k d dep. elim (split β.cells x k d h dep) [
            | inl old ↦ up.named k d old
            | inr it ↦ omega (arith, it.1, size)
          ];
          monitors = subst (λ (m : ℕ). MonitorsAreBelow m ms) (sym size) i;
          actions = up.actions;
          writes = up.writes;
          entries = up.entries;
          stays = up.stays;
          scopes = up.scopes;
          entered = up.entered;
          depths = up.depths;
        };
      };
    }

-- and there is a reference to it
pub new_goes : (t : Tree) (β : Builder) → IsOrdered β → Below (length β.cells) t → Goes β (new t β)
unfolding new
new_goes t β w h =
    let x : Defined = record { tree = t; place = nowhere } in
    let n : ℕ = length β.cells in
    let size : length (β.cells ++ x ∷ []) ≡ n + 1 = one_more β x in
    let g = cell_to x β.monitors β w h (monitors_more n (n + 1) (omega arith) β.monitors w.there.monitors) in
    record {
      later = g.later;
      built = g.built;
      ref = record { below = All-cons (λ d. d < length (β.cells ++ x ∷ [])) n [] (omega (arith, size)) (All-nil (λ d. d < length (β.cells ++ x ∷ []))) };
    }

-- ---- `not`, `and`, `or`

-- the cells that two references name
both_below : (β : Builder) (a b : Ref) → Held β a → Held β b → All (λ d. d < length β.cells) (cells_named a ++ cells_named b)
both_below β a b g h = All-append (λ d. d < length β.cells) (cells_named a) (cells_named b) g.below h.below

-- by cases of the reference
not_at : (a : Ref) (β : Builder) → IsOrdered β → Held β a → Goes β (not_of a β)
unfolding not_of
not_at (ref.Lit (pos zero)) β w h = here w (literal_held (pos 1))
not_at (ref.Lit z) β w h = here w (literal_held (pos 0))
not_at a β w h = new_goes (one tree_one.Not (value a)) β w h.below

-- `not` of a reference
pub not_goes : {β : Builder} {a : Ref} → IsOrdered β → Held β a → Goes β (not_of a β)
not_goes {β = β} {a = a} w h = not_at a β w h

-- what literals leave of `and` and `or`
pick_goes : (s : Short) (t : Tree) (a b : Ref) (β : Builder) → IsOrdered β → Below (length β.cells) t → Held β a → Held β b → Goes β (pick s t a b β)
pick_goes first t a b β w i g h = here w g
pick_goes second t a b β w i g h = here w h
pick_goes both t a b β w i g h = new_goes t β w i

-- `and` of two references
pub and_goes : {β : Builder} {a b : Ref} → IsOrdered β → Held β a → Held β b → Goes β (and_of a b β)
unfolding and_of
and_goes {β = β} {a = a} {b = b} w g h = pick_goes _ (two tree_two.And (value a) (value b)) a b β w (both_below β a b g h) g h

-- `or` of two references
pub or_goes : {β : Builder} {a b : Ref} → IsOrdered β → Held β a → Held β b → Goes β (or_of a b β)
unfolding or_of
or_goes {β = β} {a = a} {b = b} w g h = pick_goes _ (two tree_two.Or (value a) (value b)) a b β w (both_below β a b g h) g h

-- labels name no cell
labels_below : (n l m : ℕ) → Below n (labels_tree l m)
labels_below n l zero = All-nil (λ d. d < n)
labels_below n l (suc m) = labels_below n (l + 1) m

-- one of the labels is 1
pub in_goes : {β : Builder} (l n : ℕ) → IsOrdered β → Goes β (in_of l n β)
unfolding in_of
in_goes l zero w = here w (literal_held (pos 0))
in_goes l (suc zero) w = here w (register_held l)
in_goes {β = β} l (suc (suc n)) w = new_goes (labels_tree l (suc n)) β w (labels_below (length β.cells) l (suc n))

-- a tree as a reference
pub cell_goes : (t : Tree) (β : Builder) → IsOrdered β → Below (length β.cells) t → Goes β (cell_of t β)
unfolding cell_of
cell_goes (value r) β w h = here w (record { below = h })
cell_goes t β w h = new_goes t β w h

-- ---- labels, actions, monitors

-- a label is entered
pub enter_goes : {β : Builder} {r : Ref} (l : ℕ) → IsOrdered β → Held β r → GoesTo β (enter l r β)
unfolding enter
enter_goes {β = β} {r = r} l w h = record {
  later = record { longer = omega arith; more = []; reserved = sym (append-nil β.reserved) };
  built = record {
    before = w.before;
    there = record {
      named = w.there.named;
      monitors = w.there.monitors;
      actions = w.there.actions;
      writes = w.there.writes;
      entries = All-append (λ (e : Entry). IsBelow (length β.cells) e.under) β.entries (record { label = l; under = r } ∷ []) w.there.entries
          (All-cons (λ (e : Entry). IsBelow (length β.cells) e.under) (record { label = l; under = r }) [] h.below (All-nil (λ (e : Entry). IsBelow (length β.cells) e.under)));
      stays = w.there.stays;
      scopes = w.there.scopes;
      entered = w.there.entered;
      depths = w.there.depths;
    };
  };
}

-- a label stays
pub stay_goes : {β : Builder} {r : Ref} (l : ℕ) → IsOrdered β → Held β r → GoesTo β (stay_at l r β)
unfolding stay_at
stay_goes {β = β} {r = r} l w h = record {
  later = record { longer = omega arith; more = []; reserved = sym (append-nil β.reserved) };
  built = record {
    before = w.before;
    there = record {
      named = w.there.named;
      monitors = w.there.monitors;
      actions = w.there.actions;
      writes = w.there.writes;
      entries = w.there.entries;
      stays = All-append (λ (e : Entry). IsBelow (length β.cells) e.under) β.stays (record { label = l; under = r } ∷ []) w.there.stays
          (All-cons (λ (e : Entry). IsBelow (length β.cells) e.under) (record { label = l; under = r }) [] h.below (All-nil (λ (e : Entry). IsBelow (length β.cells) e.under)));
      scopes = w.there.scopes;
      entered = w.there.entered;
      depths = w.there.depths;
    };
  };
}

-- an action acts
pub act_goes : (a : Action) (β : Builder) → IsOrdered β → ActionIsBelow (length β.cells) a → GoesTo β (act a β)
unfolding act
act_goes a β w h = record {
  later = record { longer = omega arith; more = []; reserved = sym (append-nil β.reserved) };
  built = record {
    before = w.before;
    there = record {
      named = w.there.named;
      monitors = w.there.monitors;
      actions = one_action β.actions w.there.actions;
      writes = one_action β.writes w.there.writes;
      entries = w.there.entries;
      stays = w.there.stays;
      scopes = w.there.scopes;
      entered = w.there.entered;
      depths = w.there.depths;
    };
  };
}
  where
    one_action : (ws : List Action) → All (ActionIsBelow (length β.cells)) ws → All (ActionIsBelow (length β.cells)) (ws ++ a ∷ [])
    one_action ws g = All-append (ActionIsBelow (length β.cells)) ws (a ∷ []) g (All-cons (ActionIsBelow (length β.cells)) a [] h (All-nil (ActionIsBelow (length β.cells))))

-- a test is watched
watch_one_goes : (t : Test) (β : Builder) → IsOrdered β → Below (length β.cells) t.tree → GoesTo β (watch_one t β)
watch_one_goes t β w h =
    let n : ℕ = length β.cells in
    let m : Monitor = record { cell = n; place = t.place; kind = t.kind } in
    cell_to (record { tree = t.tree; place = nowhere }) (β.monitors ++ m ∷ []) β w h
    (All-append (λ (x : Monitor). x.cell < n + 1) β.monitors (m ∷ []) (monitors_more n (n + 1) (omega arith) β.monitors w.there.monitors)
    (All-cons (λ (x : Monitor). x.cell < n + 1) m [] (omega arith) (All-nil (λ (x : Monitor). x.cell < n + 1))))

-- tests are watched
pub watch_goes : (ts : List Test) (β : Builder) → IsOrdered β → TestsBelow (length β.cells) ts → GoesTo β (watch ts β)
unfolding watch
watch_goes [] β w h = record { later = same β; built = w }
watch_goes (t ∷ ts) β w h =
    let n : ℕ = length β.cells in
    let g : GoesTo β (watch_one t β) = watch_one_goes t β w (All-head (λ (u : Test). Below n u.tree) t ts h) in
    let rest = watch_goes ts (watch_one t β) g.built (tests_more n (length (watch_one t β).cells) g.later.longer ts (All-tail (λ (u : Test). Below n u.tree) t ts h)) in
    record { later = follows g.later rest.later; built = rest.built }
