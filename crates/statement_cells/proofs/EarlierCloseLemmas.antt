-- Builders in order by closing a copy whose value cells were reserved.
use Rattle.std.proofs.Common.{◌≡◌, ◌∙◌, inl, inr, ℕ, ◌<◌, ◌==◌, ◌||◌, ◌&&◌, Bool, true, false, List, [], ◌∷◌, length, All, refl, sym, arith, append-nil}
use Rattle.std.proofs.lemmas.Bool.{cases_lt}
use Rattle.std.proofs.lemmas.List.Elements.{All-cons, All-head, All-tail}
use Rattle.quartz_expr.specs.Resolve.{same_bool}
use Rattle.aif_cells.specs.declared.cells.Action.{Action}
use Rattle.aif_cells.specs.Dependences.{DependsOn}
use Rattle.aif_cells.proofs.SolutionLemmas.{there}
use Rattle.absence_reaction.specs.declared.copy.Shape.{Shape}
use Rattle.absence_reaction.specs.declared.copy.VarCopy.{VarCopy}
use Rattle.absence_reaction.specs.Closing.{Copy, closed_copy}
use Rattle.absence_reaction.specs.Earlier.{ActionIsBelow, NamesEarlier, NamesThere}
use Rattle.absence_reaction.specs.Meaning.{Keeps, is_among}
use Rattle.absence_reaction.proofs.CopyMeaning.{closing_keeps}
use Rattle.absence_reaction.proofs.EarlierLemmas.{closing_names_earlier}
use Rattle.reincarnation.specs.Meaning.{ClosedIsBelow}
use Rattle.statement_cells.specs.Builder.{Builder, action_if, built_of, closed_refs, writes_to}
use Rattle.statement_cells.specs.Walk.{cells_of}
use Rattle.statement_cells.specs.Earlier.{HoldsBelow, IsOrdered}
use Rattle.statement_cells.proofs.EarlierLemmas.{GoesTo}
use Rattle.statement_cells.proofs.EarlierMoreLemmas.{holds_more, refs_more}
use Rattle.quartz_expr.proofs.TruthLemmas.{or_left, or_right}

-- ---- truth values

-- ---- the actions on the variable

module _ (x n : ℕ) where
  -- an action, if it is one of them
  one_if_below : (b : Bool) (a : Action) (ws : List Action) → ActionIsBelow n a → All (ActionIsBelow n) ws → All (ActionIsBelow n) (action_if b a ws)
  one_if_below true a ws h g = All-cons (ActionIsBelow n) a ws h g
  one_if_below false a ws h g = g

  -- they name what all actions do
  pub written_below : (d : Bool) (ws : List Action) → All (ActionIsBelow n) ws → All (ActionIsBelow n) (writes_to x d ws)
  written_below d [] h = h
  written_below d (a ∷ ws) h = one_if_below ((a.var == x) && same_bool a.delayed d) a (writes_to x d ws) (All-head (ActionIsBelow n) a ws h) (written_below d ws (All-tail (ActionIsBelow n) a ws h))

-- ---- closing

-- the copy's value cells are different reserved cells, and its actions name cells that are there
pub record CanClose (c : VarCopy) (β : Builder) : Type 0 where
  pub names : NamesThere c (length β.cells)
  pub reserved : (k : ℕ) → is_among k (cells_of β.reserved) ≡ false → is_among k c.values ≡ false

module _ (s : Shape) (c : VarCopy) (β : Builder) (w : IsOrdered β) (h : CanClose c β) where
  -- the closed copy
  abbrev closed : Copy
  closed = closed_copy s c (built_of β)

  -- the number of cells before closing
  abbrev n : ℕ
  n = length β.cells

  -- and behind it
  abbrev m : ℕ
  m = length closed.built.cells

  -- closing keeps all cells but the value cells
  keeps : Keeps c (built_of β) closed.built
  keeps = closing_keeps s c (built_of β)

  -- and the cells that it adds name only cells before them
  names : NamesEarlier c (built_of β) closed
  names = closing_names_earlier s c (built_of β) h.names

  -- a cell that is no value cell of the copy names what it did
  back : (k d : ℕ) → is_among k c.values ≡ false → k < n → DependsOn closed.built.cells k d → DependsOn β.cells k d
  back k d e lt dep = (dep.0, sym (keeps.cells.kept k lt e) ∙ dep.1, dep.2)

  -- all that cells name is there
  named_there : (k d : ℕ) → DependsOn closed.built.cells k d → d < m
  named_there k d dep = at (is_among k c.values) refl
    where
      at : (b : Bool) → is_among k c.values ≡ b → d < m
      at true e = let lt : d < n = names.values k d e dep in omega (arith, lt, keeps.cells.longer)
      at false e = elim (cases_lt k n) [
        | inl lt ↦ let less : d < n = w.there.named k d (back k d e lt dep) in omega (arith, less, keeps.cells.longer)
        | inr ge ↦ let less : d < k = names.new k d ge dep in omega (arith, less, there closed.built.cells k dep.0 dep.1)
      ]

  -- what the copy is closed with is there
  pub closed_refs_below : ClosedIsBelow (length (closed_copy s c (built_of β)).built.cells) (closed_refs (closed_copy s c (built_of β)))
  closed_refs_below = record { values = refs_more n m keeps.cells.longer closed.values names.given; flags = names.flags; pending = names.pending }

  -- and what is built is in order
  pub closed_goes : GoesTo β (record β { cells = (closed_copy s c (built_of β)).built.cells; monitors = (closed_copy s c (built_of β)).built.monitors })
  closed_goes =
      let up : HoldsBelow m β = holds_more n m keeps.cells.longer β w.there in
      record {
        later = record { longer = keeps.cells.longer; more = []; reserved = sym (append-nil β.reserved) };
        built = record {
          before = λ k d e dep. elim (cases_lt k n) [
            | inl lt ↦ w.before k d e (back k d (h.reserved k e) lt dep)
            | inr ge ↦ names.new k d ge dep
          ];
          there = record {
            named = named_there;
            monitors = names.monitors w.there.monitors;
            actions = up.actions;
            writes = up.writes;
            entries = up.entries;
            stays = up.stays;
            scopes = up.scopes;
            entered = up.entered;
            depths = up.depths;
          };
        };
      }
