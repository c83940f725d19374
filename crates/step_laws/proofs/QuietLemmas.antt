-- Helpers of the builder that add cells and monitors alone.
use Rattle.std.proofs.Common.{◌≡◌, ℕ, zero, suc, List, [], ◌∷◌, Option, Some, None, pos, negsuc, refl, ◌∙◌}
use Rattle.quartz_tree.specs.Tree.{Tree as Expr}
use Rattle.quartz_expr.specs.Vars.{Vars}
use Rattle.aif_cells.specs.declared.reference.Ref.{Ref}
use Rattle.aif_cells.specs.declared.reference.Ref.TheVariants as ref
use Rattle.aif_cells.specs.Tree.{Tree}
use Rattle.statement_cells.specs.Expressions.{Copies, Test}
use Rattle.statement_cells.specs.Builder.{Builder, Short, first, second, both, and_of, cell_of, given_or_new, in_of, new, not_of, or_of, pick, watch, watch_one}
use Rattle.statement_cells.specs.Surface.{index_of, unless_zero_watch, watched}

-- nothing else changes
pub record Quiet (before after : Builder) : Type 0 where
  pub actions : after.actions ≡ before.actions
  pub writes : after.writes ≡ before.writes
  pub entries : after.entries ≡ before.entries
  pub stays : after.stays ≡ before.stays
  pub entered : after.entered ≡ before.entered
  pub depths : after.depths ≡ before.depths
  pub reserved : after.reserved ≡ before.reserved

pub quiet : (β : Builder) → Quiet β β
quiet β = record { actions = refl; writes = refl; entries = refl; stays = refl; entered = refl; depths = refl; reserved = refl }

pub then_quiet : {a b c : Builder} → Quiet a b → Quiet b c → Quiet a c
then_quiet g h = record {
  actions = h.actions ∙ g.actions;
  writes = h.writes ∙ g.writes;
  entries = h.entries ∙ g.entries;
  stays = h.stays ∙ g.stays;
  entered = h.entered ∙ g.entered;
  depths = h.depths ∙ g.depths;
  reserved = h.reserved ∙ g.reserved;
}

pub new_quiet : (t : Tree) (β : Builder) → Quiet β (new t β).built
unfolding new
new_quiet t β = record { actions = refl; writes = refl; entries = refl; stays = refl; entered = refl; depths = refl; reserved = refl }

pub not_quiet : (a : Ref) (β : Builder) → Quiet β (not_of a β).built
unfolding not_of
not_quiet (ref.Lit (pos zero)) β = quiet β
not_quiet (ref.Lit z) β = quiet β
not_quiet a β = new_quiet _ β

pub pick_quiet : (s : Short) (t : Tree) (a b : Ref) (β : Builder) → Quiet β (pick s t a b β).built
pick_quiet first t a b β = quiet β
pick_quiet second t a b β = quiet β
pick_quiet both t a b β = new_quiet t β

given_quiet : (o : Option Ref) (t : Tree) (β : Builder) → Quiet β (given_or_new o t β).built
given_quiet (Some r) t β = quiet β
given_quiet None t β = new_quiet t β

pub cell_quiet : (t : Tree) (β : Builder) → Quiet β (cell_of t β).built
unfolding cell_of
cell_quiet t β = given_quiet _ t β

pub watch_quiet : (ts : List Test) (β : Builder) → Quiet β (watch ts β)
unfolding watch
watch_quiet [] β = quiet β
watch_quiet (t ∷ ts) β =
    let m = watch_quiet ts (watch_one t β) in
    record { actions = m.actions; writes = m.writes; entries = m.entries; stays = m.stays; entered = m.entered; depths = m.depths; reserved = m.reserved }

unless_quiet : (r : Ref) (β γ : Builder) → Quiet β γ → Quiet β (unless_zero_watch r β γ)
unless_quiet (ref.Lit (pos zero)) β γ g = quiet β
unless_quiet (ref.Lit (pos (suc n))) β γ g = g
unless_quiet (ref.Lit (negsuc n)) β γ g = g
unless_quiet (ref.Input i) β γ g = g
unless_quiet (ref.Reg i) β γ g = g
unless_quiet (ref.Cell i) β γ g = g

pub watched_quiet : (vs : Vars) (κ : Copies) (e : Expr ℕ) (g : Ref) (β : Builder) → Quiet β (watched vs κ e g β)
unfolding watched
watched_quiet vs κ e g β = unless_quiet g β _ (watch_quiet _ β)

pub index_quiet : (vs : Vars) (κ : Copies) (i : Option (Expr ℕ)) (β : Builder) → Quiet β (index_of vs κ i β).built
index_quiet vs κ None β = quiet β
index_quiet vs κ (Some i) β = cell_quiet _ β
