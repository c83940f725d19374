-- Builders in order by the surface of a statement.
use Rattle.std.proofs.Common.{ℕ, zero, suc, ◌+◌, pos, negsuc, Bool, true, false, List, [], ◌∷◌, ◌++◌, length, All, Option, Some, None}
use Rattle.std.proofs.lemmas.List.Elements.{All-cons, All-head, All-nil, All-tail}
use Rattle.quartz_tree.specs.declared.place.Place.{Place}
use Rattle.quartz_tree.specs.Tree.{Tree as Expr}
use Rattle.quartz_expr.specs.Vars.{Vars}
use Rattle.quartz_expr.specs.Terms.{Term, nothing, pause, write, choose, seq, par, loop, abort, suspend, scope, Terms, none, part}
use Rattle.aif_cells.specs.declared.reference.Ref.{Ref}
use Rattle.aif_cells.specs.declared.reference.Ref.TheVariants as ref
use Rattle.aif_cells.specs.Tree.{value}
use Rattle.absence_reaction.specs.Earlier.{IsBelow, IsIndexBelow}
use Rattle.statement_cells.specs.Labels.{labels, registers, scope_registers}
use Rattle.statement_cells.specs.Expressions.{Copies, Test, element_tests, fitted_tree, range_tests, target_tests, tests_of, tree_of}
use Rattle.statement_cells.specs.Builder.{Builder, Made, entering, reserve, watch}
use Rattle.statement_cells.specs.Surface.{MadeAll, MadeIndex, and_all, and_more, if_labels, index_of, start, start_each, start_in_turn, surface, tested, unless_zero, unless_zero_watch, watched, written}
use Rattle.statement_cells.specs.Earlier.{IsOrdered, SurfaceNamesBefore}
use Rattle.statement_cells.proofs.EarlierTreeLemmas.{TestsBelow, both_tests, fitted_below, own_element_below, range_below, target_below, tests_below, tree_below}
use Rattle.statement_cells.proofs.EarlierLemmas.{CopiesHeld, Goes, GoesTo, Held, Later, act_goes, and_goes, behind, cell_goes, enter_goes, follows, here, literal_held, not_goes, or_goes, same, up, up_copies, watch_goes}
use Rattle.statement_cells.proofs.EarlierMoreLemmas.{all_more, ref_more}
use Rattle.statement_cells.proofs.EarlierScopeLemmas.{entering_held, reserve_goes, scope_started_goes}

-- ---- several references

-- references to cells that are there
pub record AllHeld (β : Builder) (rs : List Ref) : Type 0 where
  pub below : All (IsBelow (length β.cells)) rs

-- they stay so
pub up_all : {β γ : Builder} {rs : List Ref} → Later β γ → AllHeld β rs → AllHeld γ rs
up_all {β = β} {γ = γ} {rs = rs} g h =
    record { below = all_more (IsBelow (length β.cells)) (IsBelow (length γ.cells)) rs (λ r i. ref_more (length β.cells) (length γ.cells) g.longer r i) h.below }

-- no reference
pub none_held : {β : Builder} → AllHeld β []
none_held {β = β} = record { below = All-nil (IsBelow (length β.cells)) }

-- one more reference
pub one_held : {β : Builder} {r : Ref} {rs : List Ref} → Held β r → AllHeld β rs → AllHeld β (r ∷ rs)
one_held {β = β} {r = r} {rs = rs} h g = record { below = All-cons (IsBelow (length β.cells)) r rs h.below g.below }

-- the first of them
pub first_held : {β : Builder} {r : Ref} {rs : List Ref} → AllHeld β (r ∷ rs) → Held β r
first_held {β = β} {r = r} {rs = rs} h = record { below = All-head (IsBelow (length β.cells)) r rs h.below }

-- and the others
pub others_held : {β : Builder} {r : Ref} {rs : List Ref} → AllHeld β (r ∷ rs) → AllHeld β rs
others_held {β = β} {r = r} {rs = rs} h = record { below = All-tail (IsBelow (length β.cells)) r rs h.below }

-- from a builder in order comes another one, and references in it
pub record GoesAll (before : Builder) (m : MadeAll) : Type 0 where
  pub later : Later before m.built
  pub built : IsOrdered m.built
  pub refs : AllHeld m.built m.refs

-- `and` of a reference and of others
pub more_goes : (rs : List Ref) (e : Ref) (β : Builder) → IsOrdered β → Held β e → AllHeld β rs → Goes β (and_more e rs β)
unfolding and_more
more_goes [] e β w h hs = here w h
more_goes (r ∷ rs) e β w h hs =
    let m = and_goes w h (first_held hs) in
    behind m.later (more_goes rs _ _ m.built m.ref (up_all m.later (others_held hs)))

-- `and` of all
all_goes : (rs : List Ref) (e : Ref) (β : Builder) → IsOrdered β → Held β e → AllHeld β rs → Goes β (and_all e rs β)
unfolding and_all
all_goes [] e β w h hs = here w h
all_goes (r ∷ rs) e β w h hs = more_goes rs r β w (first_held hs) (others_held hs)

-- ---- what isn't always made

-- by cases of the reference
unless_at : (r : Ref) (β : Builder) (m : Made) → IsOrdered β → Goes β m → Goes β (unless_zero r β m)
unless_at (ref.Lit (pos zero)) β m w g = here w (literal_held (pos 0))
unless_at (ref.Lit (pos (suc n))) β m w g = g
unless_at (ref.Lit (negsuc n)) β m w g = g
unless_at (ref.Input i) β m w g = g
unless_at (ref.Reg i) β m w g = g
unless_at (ref.Cell i) β m w g = g

-- with the literal 0 nothing is made
pub unless_goes : {β γ : Builder} {r : Ref} {m : Made} → Held γ r → IsOrdered β → Goes β m → Goes β (unless_zero r β m)
unless_goes {β = β} {r = r} {m = m} h w g = unless_at r β m w g

-- without labels nothing is made
pub labels_goes : {β : Builder} {m : Made} (n : ℕ) → IsOrdered β → Goes β m → Goes β (if_labels n β m)
labels_goes zero w g = here w (literal_held (pos 0))
labels_goes (suc n) w g = g

module _ (vs : Vars) where
  -- ---- conditions

  -- tests are watched, unless the guard is the literal 0
  unless_watch : (g : Ref) (ts : List Test) (β : Builder) → IsOrdered β → TestsBelow (length β.cells) ts → GoesTo β (unless_zero_watch g β (watch ts β))
  unless_watch (ref.Lit (pos zero)) ts β w h = record { later = same β; built = w }
  unless_watch g ts β w h = watch_goes ts β w h

  -- the faults of an expression are watched
  watched_goes : (κ : Copies) (e : Expr ℕ) (g : Ref) (β : Builder) → IsOrdered β → CopiesHeld β κ → Held β g → GoesTo β (watched vs κ e g β)
  unfolding watched
  watched_goes κ e g β w ks h = unless_watch g (tests_of vs κ (value g) e) β w (tests_below (length β.cells) vs κ ks.below (value g) e h.below)

  -- a condition, with all that is given
  tested_at : (κ : Copies) (c : Expr ℕ) (g : Ref) (β : Builder) → IsOrdered β → CopiesHeld β κ → Held β g → Goes β (tested vs κ c g β)
  unfolding tested
  tested_at κ c g β w ks h =
      let t = watched_goes κ c g β w ks h in
      behind t.later (cell_goes (tree_of vs κ c) (watched vs κ c g β) t.built (tree_below (length (watched vs κ c g β).cells) vs κ (up_copies t.later ks).below c))

  -- a condition is tested
  pub tested_goes : {β : Builder} {κ : Copies} {g : Ref} (c : Expr ℕ) → IsOrdered β → CopiesHeld β κ → Held β g → Goes β (tested vs κ c g β)
  tested_goes {β = β} {κ = κ} {g = g} c w ks h = tested_at κ c g β w ks h

  -- ---- writes

  -- from a builder in order comes another one, and an index, if there is one
  record GoesIndex (before : Builder) (m : MadeIndex) : Type 0 where
    later : Later before m.built
    built : IsOrdered m.built
    index : IsIndexBelow (length m.built.cells) m.ref

  -- an index is made
  index_goes : (κ : Copies) (i : Option (Expr ℕ)) (β : Builder) → IsOrdered β → CopiesHeld β κ → GoesIndex β (index_of vs κ i β)
  index_goes κ None β w ks = record { later = same β; built = w; index = tt }
  index_goes κ (Some i) β w ks =
      let m = cell_goes (tree_of vs κ i) β w (tree_below (length β.cells) vs κ ks.below i) in
      record { later = m.later; built = m.built; index = m.ref.below }

  -- what holds of references holds of an index
  up_index : (n m : ℕ) (o : Option Ref) → ((r : Ref) → IsBelow n r → IsBelow m r) → IsIndexBelow n o → IsIndexBelow m o
  up_index n m None f h = tt
  up_index n m (Some r) f h = f r h

  -- a write is watched and acts
  pub written_goes : (κ : Copies) (x : ℕ) (i : Option (Expr ℕ)) (e : Expr ℕ) (d : Bool) (p q : Place) (go : Ref) (β : Builder) → IsOrdered β → CopiesHeld β κ → Held β go → GoesTo β (written vs κ x i e d p q go β)
  unfolding written
  written_goes κ x i e d p q go β w ks gs =
      let g = value go in
      let parts = target_tests vs κ g i ++ tests_of vs κ g e in
      let n : ℕ = length β.cells in
      let a = watch_goes parts β w (both_tests n vs κ ks.below (target_tests vs κ g i) (tests_of vs κ g e) (target_below n vs κ ks.below g i gs.below) (tests_below n vs κ ks.below g e gs.below)) in
      let index = index_of vs κ i (watch parts β) in
      let b = index_goes κ i (watch parts β) a.built (up_copies a.later ks) in
      let ab = follows a.later b.later in
      let own = element_tests vs κ g x i q ++ range_tests vs κ g x e p in
      let ks2 = up_copies ab ks in
      let gs2 = up ab gs in
      let k : ℕ = length index.built.cells in
      let c = watch_goes own index.built b.built (both_tests k vs κ ks2.below (element_tests vs κ g x i q) (range_tests vs κ g x e p) (own_element_below k vs κ ks2.below g x i q gs2.below) (range_below k vs κ ks2.below g x e p gs2.below)) in
      let ks3 = up_copies c.later ks2 in
      let v = cell_goes (fitted_tree vs κ x e) (watch own index.built) c.built (fitted_below (length (watch own index.built).cells) vs κ ks3.below x e) in
      let cv = follows c.later v.later in
      let all = follows ab cv in
      let t = act_goes _ _ v.built (record { guard = (up all gs).below; index = up_index _ _ index.ref (λ r h. ref_more _ _ cv.longer r h) b.index; value = v.ref.below }) in
      record { later = follows all t.later; built = t.built }

  -- ---- the surface

  mutual
    unfolding start

    -- the surface of a statement that starts
    start_goes : (s : Term) (κ : Copies) (l v : ℕ) (go move : Ref) (β : Builder) → IsOrdered β → CopiesHeld β κ → Held β go → Held β move → Goes β (start vs κ l v s go move β)
    start_goes nothing κ l v go move β w ks gs ms = here w gs
    start_goes pause κ l v go move β w ks gs ms =
        let g = and_goes w gs ms in
        let e = enter_goes l g.built g.ref in
        record { later = follows g.later e.later; built = e.built; ref = literal_held (pos 0) }
    start_goes (write x i e d p q) κ l v go move β w ks gs ms =
        let t = written_goes κ x i e d p q go β w ks gs in
        record { later = t.later; built = t.built; ref = up t.later gs }
    start_goes (choose c a b) κ l v go move β w ks gs ms =
        let k = tested_goes c w ks gs in
        let g = and_goes k.built (up k.later gs) k.ref in
        let l2 = follows k.later g.later in
        let s = unless_goes g.ref g.built (start_goes a κ l v _ move _ g.built (up_copies l2 ks) g.ref (up l2 ms)) in
        let gs3 = follows g.later s.later in
        let n = not_goes s.built (up gs3 k.ref) in
        let l4 = follows (follows k.later gs3) n.later in
        let h = and_goes n.built (up l4 gs) n.ref in
        let l5 = follows l4 h.later in
        let t = unless_goes h.ref h.built (start_goes b κ (l + labels a) (v + registers vs a) _ move _ h.built (up_copies l5 ks) h.ref (up l5 ms)) in
        behind (follows l5 t.later) (or_goes t.built (up (follows n.later (follows h.later t.later)) s.ref) t.ref)
    start_goes (seq ts) κ l v go move β w ks gs ms = turn_goes ts κ l v go move β w ks gs ms
    start_goes (par ts) κ l v go move β w ks gs ms =
        let s = each_goes ts κ l v go move β w ks gs ms in
        behind s.later (all_goes _ go _ s.built (up s.later gs) s.refs)
    start_goes (loop t c) κ l v go move β w ks gs ms =
        let s = unless_goes gs w (start_goes t κ l v go move β w ks gs ms) in
        record { later = s.later; built = s.built; ref = literal_held (pos 0) }
    start_goes (abort weak false t c) κ l v go move β w ks gs ms = unless_goes gs w (start_goes t κ l v go move β w ks gs ms)
    start_goes (abort false true t c) κ l v go move β w ks gs ms =
        let k = tested_goes c w ks gs in
        let n = not_goes k.built k.ref in
        let l2 = follows k.later n.later in
        let g = and_goes n.built (up l2 gs) n.ref in
        let l3 = follows l2 g.later in
        let s = unless_goes g.ref g.built (start_goes t κ l v _ move _ g.built (up_copies l3 ks) g.ref (up l3 ms)) in
        let l4 = follows l3 s.later in
        let h = and_goes s.built (up l4 gs) (up (follows n.later (follows g.later s.later)) k.ref) in
        behind (follows l4 h.later) (or_goes h.built (up h.later s.ref) h.ref)
    start_goes (abort true true t c) κ l v go move β w ks gs ms =
        let k = tested_goes c w ks gs in
        let n = not_goes k.built k.ref in
        let l2 = follows k.later n.later in
        let m = and_goes n.built (up l2 ms) n.ref in
        let l3 = follows l2 m.later in
        let s = unless_goes (up l3 gs) m.built (start_goes t κ l v go _ _ m.built (up_copies l3 ks) (up l3 gs) m.ref) in
        let l4 = follows l3 s.later in
        let h = and_goes s.built (up l4 gs) (up (follows n.later (follows m.later s.later)) k.ref) in
        behind (follows l4 h.later) (or_goes h.built (up h.later s.ref) h.ref)
    start_goes (suspend weak false t c) κ l v go move β w ks gs ms = unless_goes gs w (start_goes t κ l v go move β w ks gs ms)
    start_goes (suspend false true t c) κ l v go move β w ks gs ms =
        let k = tested_goes c w ks gs in
        let b = and_goes k.built (up k.later gs) k.ref in
        let l2 = follows k.later b.later in
        let y = and_goes b.built b.ref (up l2 ms) in
        let e = enter_goes l y.built y.ref in
        let ke = follows b.later (follows y.later e.later) in
        let n = not_goes e.built (up ke k.ref) in
        let l3 = follows k.later (follows ke n.later) in
        let g = and_goes n.built (up l3 gs) n.ref in
        let l4 = follows l3 g.later in
        behind l4 (unless_goes g.ref g.built (start_goes t κ (l + 1) v _ move _ g.built (up_copies l4 ks) g.ref (up l4 ms)))
    start_goes (suspend true true t c) κ l v go move β w ks gs ms =
        let k = tested_goes c w ks gs in
        let b = and_goes k.built (up k.later gs) k.ref in
        let l2 = follows k.later b.later in
        let y = and_goes b.built b.ref (up l2 ms) in
        let e = enter_goes l y.built y.ref in
        let ke = follows b.later (follows y.later e.later) in
        let n = not_goes e.built (up ke k.ref) in
        let l3 = follows k.later (follows ke n.later) in
        let m = and_goes n.built (up l3 ms) n.ref in
        let l4 = follows l3 m.later in
        let s = unless_goes (up l4 gs) m.built (start_goes t κ (l + 1) v go _ _ m.built (up_copies l4 ks) (up l4 gs) m.ref) in
        let o = not_goes s.built (up (follows ke (follows n.later (follows m.later s.later))) k.ref) in
        behind (follows l4 (follows s.later o.later)) (and_goes o.built (up o.later s.ref) o.ref)
    start_goes (scope x s t) κ l v go move β w ks gs ms =
        let r = reserve_goes vs x false β w in
        let inner = reserve vs x false β in
        let held = entering_held vs x false κ β (up_copies r.later ks) in
        let g = up r.later gs in
        let i = unless_goes g r.built (start_goes t (entering vs x κ β) l (v + scope_registers vs (labels t) x) go move inner r.built held g (up r.later ms)) in
        scope_started_goes vs x (labels t) v go move β (surface vs (entering vs x κ β) l (v + scope_registers vs (labels t) x) t go move inner) w gs ms r i

    -- of parts in turn
    turn_goes : (ts : Terms) (κ : Copies) (l v : ℕ) (go move : Ref) (β : Builder) → IsOrdered β → CopiesHeld β κ → Held β go → Held β move → Goes β (start_in_turn vs κ l v ts go move β)
    turn_goes none κ l v go move β w ks gs ms = here w gs
    turn_goes (part t ts) κ l v go move β w ks gs ms =
        let s = unless_goes gs w (start_goes t κ l v go move β w ks gs ms) in
        behind s.later (turn_goes ts κ (l + labels t) (v + registers vs t) _ move _ s.built (up_copies s.later ks) s.ref (up s.later ms))

    -- of parts beside each other
    each_goes : (ts : Terms) (κ : Copies) (l v : ℕ) (go move : Ref) (β : Builder) → IsOrdered β → CopiesHeld β κ → Held β go → Held β move → GoesAll β (start_each vs κ l v ts go move β)
    each_goes none κ l v go move β w ks gs ms = record { later = same β; built = w; refs = none_held }
    each_goes (part t ts) κ l v go move β w ks gs ms =
        let s = unless_goes gs w (start_goes t κ l v go move β w ks gs ms) in
        let more = each_goes ts κ (l + labels t) (v + registers vs t) go move _ s.built (up_copies s.later ks) (up s.later gs) (up s.later ms) in
        record { later = follows s.later more.later; built = more.built; refs = one_held (up more.later s.ref) more.refs }

  -- the surface of a statement
  pub surface_goes : {κ : Copies} {go move : Ref} {β : Builder} (s : Term) (l v : ℕ) → IsOrdered β → CopiesHeld β κ → Held β go → Held β move → Goes β (surface vs κ l v s go move β)
  surface_goes {κ = κ} {go = go} {move = move} {β = β} s l v w ks gs ms = unless_goes gs w (start_goes s κ l v go move β w ks gs ms)

-- the surface of a statement is made in order
pub surface_names_before : SurfaceNamesBefore
surface_names_before vs κ l v s go move β w ks gs ms =
    let m : Goes β (surface vs κ l v s go move β) = surface_goes vs s l v w (record { below = ks }) (record { below = gs }) (record { below = ms }) in
    record { built = m.built; ref = m.ref.below }
