-- What is among so many cells is among more.
use Rattle.std.proofs.Common.{ℕ, ◌<◌, ◌≤◌, List, All, Option, Some, None, arith}
use Rattle.std.specs.Prelude.{slice_index_or}
use Rattle.aif_cells.specs.declared.reference.Ref.{Ref}
use Rattle.aif_cells.specs.declared.cells.Action.{Action}
use Rattle.aif_cells.specs.declared.cells.Monitor.{Monitor}
use Rattle.aif_cells.specs.Dependences.{cells_in, cells_named}
use Rattle.absence_reaction.specs.Earlier.{ActionIsBelow, IsBelow, IsIndexBelow, MonitorsAreBelow}
use Rattle.reincarnation.specs.declared.copy.ClosedRefs.{ClosedRefs}
use Rattle.reincarnation.specs.declared.copy.Entered.{Entered}
use Rattle.reincarnation.specs.Meaning.{ClosedIsBelow, EnteredIsBelow}
use Rattle.statement_cells.specs.Expressions.{Copies, Current, Test}
use Rattle.statement_cells.specs.Builder.{Activity, started, resumed, Builder, DepthCopy, EnteredCopy, Entry, Scoped}
use Rattle.statement_cells.specs.Earlier.{ActivityIsBelow, EntriesAreBelow, HoldsBelow, ScopeIsBelow}
use Rattle.statement_cells.proofs.EarlierTreeLemmas.{Below, TestsBelow}

-- what follows for each item holds of all
pub all_more : {A : Type 0} (P Q : A → Type 0) (xs : List A) → ((x : A) → P x → Q x) → All P xs → All Q xs
all_more P Q xs f h k d lt = f (slice_index_or xs k d) (h k d lt)

module _ (n m : ℕ) (le : n ≤ m) where
  -- of numbers
  pub numbers_more : (ds : List ℕ) → All (λ d. d < n) ds → All (λ d. d < m) ds
  numbers_more ds h k x lt = let at : slice_index_or ds k x < n = h k x lt in omega (arith, at, le)

  -- of a reference
  pub ref_more : (r : Ref) → IsBelow n r → IsBelow m r
  ref_more r h = numbers_more (cells_named r) h

  -- of references
  pub refs_more : (rs : List Ref) → All (IsBelow n) rs → All (IsBelow m) rs
  refs_more rs h = all_more (IsBelow n) (IsBelow m) rs ref_more h

  -- of current copies
  pub copies_more : (κ : Copies) → All (λ c. All (IsBelow n) c.values) κ → All (λ c. All (IsBelow m) c.values) κ
  copies_more κ h = all_more (λ (c : Current). All (IsBelow n) c.values) (λ (c : Current). All (IsBelow m) c.values) κ (λ c g. refs_more c.values g) h

  -- of tests
  pub tests_more : (ts : List Test) → TestsBelow n ts → TestsBelow m ts
  tests_more ts h = all_more (λ (t : Test). Below n t.tree) (λ (t : Test). Below m t.tree) ts (λ t g. numbers_more (cells_in t.tree) g) h

  -- of an index
  index_more : (i : Option Ref) → IsIndexBelow n i → IsIndexBelow m i
  index_more None h = tt
  index_more (Some r) h = ref_more r h

  -- of actions
  pub actions_more : (ws : List Action) → All (ActionIsBelow n) ws → All (ActionIsBelow m) ws
  actions_more ws h = all_more (ActionIsBelow n) (ActionIsBelow m) ws (λ a g. record { guard = ref_more a.guard g.guard; index = index_more a.index g.index; value = ref_more a.value g.value }) h

  -- of monitors
  pub monitors_more : (ms : List Monitor) → MonitorsAreBelow n ms → MonitorsAreBelow m ms
  monitors_more ms h k d lt = let at : (slice_index_or ms k d).cell < n = h k d lt in omega (arith, at, le)

  -- of labels that are entered or stay
  entries_more : (es : List Entry) → EntriesAreBelow n es → EntriesAreBelow m es
  entries_more es h = all_more (λ (e : Entry). IsBelow n e.under) (λ (e : Entry). IsBelow m e.under) es (λ e g. ref_more e.under g) h

  -- of where a copy is active
  pub activity_more : (a : Activity) → ActivityIsBelow n a → ActivityIsBelow m a
  activity_more (started go) h = ref_more go h
  activity_more (resumed l k res) h = ref_more res h

  -- of copies of scopes
  pub scopes_more : (ss : List Scoped) → All (ScopeIsBelow n) ss → All (ScopeIsBelow m) ss
  scopes_more ss h = all_more (ScopeIsBelow n) (ScopeIsBelow m) ss (λ s g. (activity_more s.active g.0, g.1)) h

  -- of a closed copy
  pub closed_more : (c : ClosedRefs) → ClosedIsBelow n c → ClosedIsBelow m c
  closed_more c h = record { values = refs_more c.values h.values; flags = refs_more c.flags h.flags; pending = refs_more c.pending h.pending }

  -- of a copy that may have been entered
  pub entered_more : (e : Entered) → EnteredIsBelow n e → EnteredIsBelow m e
  entered_more e h = record { enter = ref_more e.enter h.enter; closed = closed_more e.closed h.closed }

  -- all that a builder refers to
  pub holds_more : (β : Builder) → HoldsBelow n β → HoldsBelow m β
  holds_more β h = record {
    named = λ k d dep. let lt : d < n = h.named k d dep in omega (arith, lt, le);
    monitors = monitors_more β.monitors h.monitors;
    actions = actions_more β.actions h.actions;
    writes = actions_more β.writes h.writes;
    entries = entries_more β.entries h.entries;
    stays = entries_more β.stays h.stays;
    scopes = scopes_more β.scopes h.scopes;
    entered = all_more (λ (e : EnteredCopy). EnteredIsBelow n e.entered) (λ (e : EnteredCopy). EnteredIsBelow m e.entered) β.entered (λ e g. entered_more e.entered g) h.entered;
    depths = all_more (λ (d : DepthCopy). ClosedIsBelow n d.closed) (λ (d : DepthCopy). ClosedIsBelow m d.closed) β.depths (λ d g. closed_more d.closed g) h.depths;
  }
