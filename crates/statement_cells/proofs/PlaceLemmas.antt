-- Copies with registers stand at the scopes of the statement, and each such scope has one copy with store.
use Rattle.std.proofs.Common.{◌≡◌, ℕ, zero, suc, ◌+◌, pos, negsuc, Bool, List, [], ◌∷◌, Option, Some, None, refl, ◌∙◌}
use Rattle.quartz_tree.specs.declared.place.Place.{Place}
use Rattle.quartz_tree.specs.Tree.{Tree as Expr}
use Rattle.quartz_expr.specs.Vars.{Vars}
use Rattle.quartz_expr.specs.Terms.{Terms, none, part}
use Rattle.aif_cells.specs.declared.reference.Ref.{Ref}
use Rattle.aif_cells.specs.declared.reference.Ref.TheVariants as ref
use Rattle.aif_cells.specs.declared.cells.Action.{Action}
use Rattle.aif_cells.specs.Tree.{Tree}
use Rattle.statement_cells.specs.Labels.{labels}
use Rattle.statement_cells.specs.Expressions.{Copies, Test}
use Rattle.statement_cells.specs.Builder.{Builder, Short, first, second, both, act, and_of, cell_of, enter, given_or_new, in_of, new, not_of, or_of, pick, stay_at, watch, watch_one}
use Rattle.statement_cells.specs.Surface.{MadeAll, all_if_labels, and_all, and_more, at_end, index_of, suspended, tested, unless_zero_watch, watched, written}

-- ---- what makes no copy with registers

-- copies with registers are as before
pub record Same (before after : Builder) : Type 0 where
  pub entered : after.entered ≡ before.entered
  pub depths : after.depths ≡ before.depths
  pub scopes : after.scopes ≡ before.scopes
  pub reserved : after.reserved ≡ before.reserved

abbrev pub same : (β : Builder) → Same β β
same β = record { entered = refl; depths = refl; scopes = refl; reserved = refl }

pub then_same : {a b c : Builder} → Same a b → Same b c → Same a c
then_same g h = record { entered = h.entered ∙ g.entered; depths = h.depths ∙ g.depths; scopes = h.scopes ∙ g.scopes; reserved = h.reserved ∙ g.reserved }

new_same : (t : Tree) (β : Builder) → Same β (new t β).built
unfolding new
new_same t β = record { entered = refl; depths = refl; scopes = refl; reserved = refl }

pub not_same : (a : Ref) (β : Builder) → Same β (not_of a β).built
unfolding not_of
not_same (ref.Lit (pos zero)) β = same β
not_same (ref.Lit z) β = same β
not_same a β = new_same _ β

pick_same : (s : Short) (t : Tree) (a b : Ref) (β : Builder) → Same β (pick s t a b β).built
pick_same first t a b β = same β
pick_same second t a b β = same β
pick_same both t a b β = new_same t β

pub and_same : (a b : Ref) (β : Builder) → Same β (and_of a b β).built
unfolding and_of
and_same a b β = pick_same _ _ a b β

pub or_same : (a b : Ref) (β : Builder) → Same β (or_of a b β).built
unfolding or_of
or_same a b β = pick_same _ _ a b β

pub in_same : (l n : ℕ) (β : Builder) → Same β (in_of l n β).built
unfolding in_of
in_same l zero β = same β
in_same l (suc zero) β = same β
in_same l (suc (suc n)) β = new_same _ β

given_same : (o : Option Ref) (t : Tree) (β : Builder) → Same β (given_or_new o t β).built
given_same (Some r) t β = same β
given_same None t β = new_same t β

cell_same : (t : Tree) (β : Builder) → Same β (cell_of t β).built
unfolding cell_of
cell_same t β = given_same _ t β

pub enter_same : (l : ℕ) (r : Ref) (β : Builder) → Same β (enter l r β)
unfolding enter
enter_same l r β = record { entered = refl; depths = refl; scopes = refl; reserved = refl }

pub stay_same : (l : ℕ) (r : Ref) (β : Builder) → Same β (stay_at l r β)
unfolding stay_at
stay_same l r β = record { entered = refl; depths = refl; scopes = refl; reserved = refl }

act_same : (a : Action) (β : Builder) → Same β (act a β)
unfolding act
act_same a β = record { entered = refl; depths = refl; scopes = refl; reserved = refl }

watch_same : (ts : List Test) (β : Builder) → Same β (watch ts β)
unfolding watch
watch_same [] β = same β
watch_same (t ∷ ts) β = let m = watch_same ts (watch_one t β) in record { entered = m.entered; depths = m.depths; scopes = m.scopes; reserved = m.reserved }

unless_watch_same : (r : Ref) (β γ : Builder) → Same β γ → Same β (unless_zero_watch r β γ)
unless_watch_same (ref.Lit (pos zero)) β γ g = same β
unless_watch_same (ref.Lit (pos (suc n))) β γ g = g
unless_watch_same (ref.Lit (negsuc n)) β γ g = g
unless_watch_same (ref.Input i) β γ g = g
unless_watch_same (ref.Reg i) β γ g = g
unless_watch_same (ref.Cell i) β γ g = g

watched_same : (vs : Vars) (κ : Copies) (e : Expr ℕ) (g : Ref) (β : Builder) → Same β (watched vs κ e g β)
unfolding watched
watched_same vs κ e g β = unless_watch_same g β _ (watch_same _ β)

pub tested_same : (vs : Vars) (κ : Copies) (e : Expr ℕ) (g : Ref) (β : Builder) → Same β (tested vs κ e g β).built
unfolding tested
tested_same vs κ e g β = then_same (watched_same vs κ e g β) (cell_same _ (watched vs κ e g β))

index_same : (vs : Vars) (κ : Copies) (i : Option (Expr ℕ)) (β : Builder) → Same β (index_of vs κ i β).built
index_same vs κ None β = same β
index_same vs κ (Some i) β = cell_same _ β

pub written_same : (vs : Vars) (κ : Copies) (x : ℕ) (i : Option (Expr ℕ)) (e : Expr ℕ) (d : Bool) (p q : Place) (go : Ref) (β : Builder) → Same β (written vs κ x i e d p q go β)
unfolding written
written_same vs κ x i e d p q go β = then_same (watch_same _ β) (then_same (index_same vs κ i _) (then_same (watch_same _ _) (then_same (cell_same _ _) (act_same _ _))))

pub and_more_same : (rs : List Ref) (e : Ref) (β : Builder) → Same β (and_more e rs β).built
unfolding and_more
and_more_same [] e β = same β
and_more_same (r ∷ rs) e β = then_same (and_same e r β) (and_more_same rs (and_of e r β).ref (and_of e r β).built)

pub and_all_same : (rs : List Ref) (e : Ref) (β : Builder) → Same β (and_all e rs β).built
unfolding and_all
and_all_same [] e β = same β
and_all_same (r ∷ rs) e β = and_more_same rs r β

if_all_same : (vs : Vars) (n : ℕ) (β : Builder) (m o : MadeAll) → Same β m.built → Same β o.built → Same β (all_if_labels vs n m o).built
if_all_same vs zero β m o g h = g
if_all_same vs (suc n) β m o g h = h

pub end_same : (vs : Vars) (ts : Terms) (l : ℕ) (rs : List Ref) (β : Builder) → Same β (at_end vs l ts rs β).built
unfolding at_end
end_same vs none l rs β = same β
end_same vs (part t ts) l [] β = same β
end_same vs (part t ts) l (r ∷ rs) β =
    let i = in_of l (labels t) β in
    let o = not_of i.ref i.built in
    let e = or_of r o.ref o.built in
    if_all_same vs (labels t) β _ _ (end_same vs ts (l + labels t) rs β)
    (then_same (in_same l (labels t) β) (then_same (not_same i.ref i.built) (then_same (or_same r o.ref o.built) (end_same vs ts (l + labels t) rs e.built))))

pub suspended_same : (vs : Vars) (κ : Copies) (l n : ℕ) (c : Expr ℕ) (res move stay : Ref) (β : Builder) → Same β (suspended vs κ l n c res move stay β).built
unfolding suspended
suspended_same vs κ l n c res move stay β =
    let i = in_of l n β in
    let a = and_of i.ref res i.built in
    let k = tested vs κ c a.ref a.built in
    let x = and_of move a.ref k.built in
    let y = and_of x.ref k.ref x.built in
    then_same (in_same l n β) (then_same (and_same i.ref res i.built) (then_same (tested_same vs κ c a.ref a.built) (then_same (and_same move a.ref k.built) (then_same (and_same x.ref k.ref x.built) (or_same stay y.ref y.built)))))
