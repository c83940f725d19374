-- What the cells of a statement say: under every assignment that meets their equations, but perhaps those of value cells,
-- they are a reaction of the term for which labels and registers stand.
use Rattle.std.specs.Prelude.{◌≡◌, ◌⊎◌, ℕ, zero, suc, ◌+◌, ◌≤◌, ◌<◌, ℤ, Bool, true, false, ◌==◌, ◌&&◌, ◌||◌, List, [], ◌∷◌, ◌++◌, length, map, slice_index_or, Option, Some, None, if◌then◌else◌}
use Rattle.quartz_tree.specs.declared.fault.Fault.{Fault}
use Rattle.quartz_expr.specs.declared.act.Act.{Act}
use Rattle.quartz_expr.specs.Values.{Values}
use Rattle.quartz_expr.specs.Vars.{Vars, count_of}
use Rattle.quartz_expr.specs.Intervals.{Lies, range_of}
use Rattle.quartz_expr.specs.Typed.{AllLie, AreSound as AreSoundVars, Fits}
use Rattle.quartz_expr.specs.Terms.{Term}
use Rattle.quartz_expr.specs.React.{Met, Reaction, React, AllResolved, meetings}
use Rattle.quartz_expr.specs.Tick.{tick}
use Rattle.aif_cells.specs.declared.reference.Ref.{Ref}
use Rattle.aif_cells.specs.declared.reference.Ref.TheVariants as ref
use Rattle.aif_cells.specs.declared.cells.Action.{Action}
use Rattle.aif_cells.specs.Worth.{Assignment, read, truth, worth}
use Rattle.aif_cells.specs.Tree.{Tree}
use Rattle.aif_cells.specs.Solution.{MeetsBut}
use Rattle.absence_reaction.specs.declared.copy.Shape.{Shape}
use Rattle.absence_reaction.specs.Closing.{register_of, flag_of, pending_of}
use Rattle.quartz_tree.specs.Storage.{is_memorized}
use Rattle.absence_reaction.specs.Meaning.{act_of, raised, is_among}
use Rattle.reincarnation.specs.declared.copy.ClosedRefs.{ClosedRefs}
use Rattle.statement_cells.specs.Labels.{is_delayed, labels, registers, shape_in}
use Rattle.statement_cells.specs.Expressions.{Copies, env_of}
use Rattle.statement_cells.specs.Builder.{Activity, started, resumed, Entry, Reserved, Scoped, EnteredCopy, DepthCopy, Builder, Made, zero_ref}
use Rattle.statement_cells.specs.Surface.{surface, depth}
use Rattle.statement_cells.specs.Stands.{Marks, Registers, some, at, plain, AtOne}
use Rattle.statement_cells.specs.Sound.{IsSound}

-- ---- what cells say

-- the acts of actions, in order
unfoldable pub acted : Vars → Assignment → List Action → List Act
acted vs σ [] = []
acted vs σ (a ∷ more) = act_of σ (count_of vs a.var) a ++ acted vs σ more

-- the labels under one of whose references a value isn't 0
unfoldable pub marked : Assignment → List Entry → Marks
marked σ [] i = false
marked σ (e ∷ es) i = ((e.label == i) && truth σ e.under) || marked σ es i

-- the labels that are 1 now
abbrev pub now : Assignment → Marks
now σ l = truth σ (ref.Reg l)

abbrev pub is_active : Assignment → Activity → Bool
is_active σ (started go) = truth σ go
is_active σ (resumed l n res) = some (now σ) l n && truth σ res

-- the values of cells, and the values of trees
abbrev pub cell_values : Assignment → List ℕ → List ℤ
cell_values σ cs = map σ.cells cs

abbrev pub worths_of : Assignment → List Tree → List ℤ
worths_of σ ts = map (worth σ) ts

abbrev pub met_if : Bool → List Met → List Met
met_if true ms = ms
met_if false ms = []

-- the elements of active copies in order: the value of the cell, and that of its tree
unfoldable pub met_by : Assignment → List Scoped → List Met
met_by σ [] = []
met_by σ (s ∷ ss) = met_if (is_active σ s.active) (meetings s.var (cell_values σ s.cells) (worths_of σ s.trees)) ++ met_by σ ss

-- which registers take which values
abbrev pub Takes : Type 0
Takes = ℕ → Option ℤ

abbrev pub no_takes : Takes
no_takes r = None

abbrev pub or_else : Option ℤ → Option ℤ → Option ℤ
or_else (Some z) b = Some z
or_else None b = b

abbrev pub else_takes : Takes → Takes → Takes
else_takes f g r = or_else (f r) (g r)

abbrev pub takes_if : Bool → Takes → Takes
takes_if true f = f
takes_if false f = no_takes

-- that register takes that value
abbrev pub takes_one : (register : ℕ) → ℤ → Takes
takes_one n z r = if n == r then Some z else None

-- the reference with that number, and 0 where there is none
abbrev pub ref_at : List Ref → ℕ → Ref
ref_at rs j = slice_index_or rs j zero_ref

-- what the registers of element j take of a closed copy
abbrev pub takes_element : Assignment → Shape → (first j : ℕ) → ClosedRefs → Takes
takes_element σ s v j c =
    else_takes (takes_if (is_memorized s.storage) (takes_one (register_of s v j) (read σ (ref_at c.values j))))
    (takes_if s.delayed (else_takes (takes_one (flag_of s v j) (read σ (ref_at c.flags j))) (takes_one (pending_of s v j) (read σ (ref_at c.pending j)))))

-- those of so many elements from number j on
abbrev pub takes_from : Assignment → Shape → (first j count : ℕ) → ClosedRefs → Takes
takes_from σ s v j zero c = no_takes
takes_from σ s v j (suc n) c = else_takes (takes_element σ s v j c) (takes_from σ s v (j + 1) n c)

abbrev pub takes_copy : Vars → Assignment → (var first : ℕ) → ClosedRefs → Takes
takes_copy vs σ x v c = takes_from σ (shape_in vs x) v 0 (count_of vs x) c

-- registers take what the first copy has that was entered
unfoldable pub entered_takes : Vars → Assignment → List EnteredCopy → Takes
entered_takes vs σ [] = no_takes
entered_takes vs σ (e ∷ es) = else_takes (takes_if (truth σ e.entered.enter) (takes_copy vs σ e.var e.first e.entered.closed)) (entered_takes vs σ es)

-- else what the depth copy has of a scope with a label that is 1
unfoldable pub depth_takes : Vars → Assignment → List DepthCopy → Takes
depth_takes vs σ [] = no_takes
depth_takes vs σ (d ∷ ds) = else_takes (takes_if (some (now σ) d.label d.labels) (takes_copy vs σ d.var d.first d.closed)) (depth_takes vs σ ds)

-- what was built says: acts, faults, scopes that are met, the labels that are 1 next, and what registers take
pub record Trail : Type 0 where
  pub acts : List Act
  pub faults : List Fault
  pub met : List Met
  pub marks : Marks
  pub takes : Takes
  pub defaults : Takes

abbrev pub no_marks : Marks
no_marks i = false

abbrev pub union : Marks → Marks → Marks
union m n i = m i || n i

abbrev pub plus : Trail → Trail → Trail
plus a b = record {
  acts = a.acts ++ b.acts;
  faults = a.faults ++ b.faults;
  met = a.met ++ b.met;
  marks = union a.marks b.marks;
  takes = else_takes a.takes b.takes;
  defaults = else_takes a.defaults b.defaults;
}

abbrev pub no_trail : Trail
no_trail = record { acts = []; faults = []; met = []; marks = no_marks; takes = no_takes; defaults = no_takes }

-- the labels that are 1 next: those that are entered, and those of now that stay
abbrev pub next_marks : Assignment → Builder → Marks
next_marks σ β i = marked σ β.entries i || (now σ i && marked σ β.stays i)

unfoldable pub trail : Vars → Assignment → Builder → Trail
trail vs σ β = record {
  acts = acted vs σ β.writes;
  faults = raised σ β.monitors;
  met = met_by σ β.scopes;
  marks = next_marks σ β;
  takes = entered_takes vs σ β.entered;
  defaults = depth_takes vs σ β.depths;
}

-- ---- which equations are met

abbrev pub cells_of : List Reserved → List ℕ
cells_of [] = []
cells_of (r ∷ rs) = r.cell ∷ cells_of rs

-- value cells lie in the ranges of their variables
abbrev pub AllInRange : Vars → Assignment → List Reserved → Type 0
AllInRange vs σ [] = Unit {0}
AllInRange vs σ (r ∷ rs) = Lies (range_of vs r.var) (σ.cells r.cell) × AllInRange vs σ rs

-- each cell has the value of its tree, or what it has where nothing is written
abbrev pub AreMetOrAbsent : Assignment → List ℕ → (trees absent : List Tree) → Type 0
AreMetOrAbsent σ [] [] [] = Unit {0}
AreMetOrAbsent σ (k ∷ ks) (t ∷ ts) (u ∷ us) = ((σ.cells k ≡ worth σ t) ⊎ (σ.cells k ≡ worth σ u)) × AreMetOrAbsent σ ks ts us
AreMetOrAbsent σ _ _ _ = ⊥

-- the cells of copies that aren't active meet their equations, or have what they have where nothing is written
abbrev pub InactiveAreMet : Assignment → List Scoped → Type 0
InactiveAreMet σ [] = Unit {0}
InactiveAreMet σ (s ∷ ss) = (is_active σ s.active ≡ false → AreMetOrAbsent σ s.cells s.trees s.absent) × InactiveAreMet σ ss

-- the trees of copies that aren't active say what cells have where nothing is written
abbrev pub InactiveAreAbsent : Assignment → List Scoped → Type 0
InactiveAreAbsent σ [] = Unit {0}
InactiveAreAbsent σ (s ∷ ss) = (is_active σ s.active ≡ false → worths_of σ s.trees ≡ worths_of σ s.absent) × InactiveAreAbsent σ ss

-- a closed copy has values and pending values in its variable's range
abbrev pub CopyLies : Vars → Assignment → (var : ℕ) → ClosedRefs → Type 0
CopyLies vs σ x c = AllLie (range_of vs x) (map (read σ) c.values) × AllLie (range_of vs x) (map (read σ) c.pending)

abbrev pub EnteredLie : Vars → Assignment → List EnteredCopy → Type 0
EnteredLie vs σ [] = Unit {0}
EnteredLie vs σ (e ∷ es) = CopyLies vs σ e.var e.entered.closed × EnteredLie vs σ es

abbrev pub DepthsLie : Vars → Assignment → List DepthCopy → Type 0
DepthsLie vs σ [] = Unit {0}
DepthsLie vs σ (d ∷ ds) = CopyLies vs σ d.var d.closed × DepthsLie vs σ ds

-- the closed copies of scopes: without writes where they aren't active, and in their ranges
abbrev pub Settled : Vars → Assignment → Builder → Type 0
Settled vs σ β = InactiveAreAbsent σ β.scopes × EnteredLie vs σ β.entered × DepthsLie vs σ β.depths

abbrev pub Settles : Vars → Assignment → (before after : Builder) → Type 0
Settles vs σ β γ = Settled vs σ β → Settled vs σ γ

-- each cell that isn't a value cell meets its equation, value cells lie in their ranges, and those of copies that aren't
-- active meet their equations or have what they have where nothing is written
pub record Good (vs : Vars) (σ : Assignment) (β : Builder) : Type 0 where
  pub met : MeetsBut (λ k. is_among k (cells_of β.reserved)) σ β.cells
  pub ranges : AllInRange vs σ β.reserved
  pub inactive : InactiveAreMet σ β.scopes

-- an action writes an element of an array or the only element, and is delayed only where a `next` targets the variable
pub record IsSoundWrite (vs : Vars) (a : Action) : Type 0 where
  pub indexed : a.index ≡ None → count_of vs a.var ≡ 1
  pub delayed : a.delayed ≡ true → is_delayed vs a.var ≡ true

abbrev pub AreSoundWrites : Vars → List Action → Type 0
AreSoundWrites vs [] = Unit {0}
AreSoundWrites vs (a ∷ more) = IsSoundWrite vs a × AreSoundWrites vs more

-- each value cell is there, and the writes are sound
pub record IsBuilt (vs : Vars) (β : Builder) : Type 0 where
  pub cells : (k : ℕ) → is_among k (cells_of β.reserved) ≡ true → k < length β.cells
  pub writes : AreSoundWrites vs β.writes

-- the current copies have the elements of all variables, each in its range
pub record IsCurrent (vs : Vars) (σ : Assignment) (κ : Copies) : Type 0 where
  pub all : length κ ≡ length vs
  pub fits : Fits vs (env_of σ κ)

-- ---- what was added is a reaction

-- the label is one of the n from l on
abbrev pub is_within : (l n : ℕ) → ℕ → Bool
is_within l zero i = false
is_within l (suc n) i = (l == i) || is_within (l + 1) n i

-- the labels of a statement that are 1, if they stay
abbrev pub kept_marks : Marks → (stay : Bool) → (l n : ℕ) → Marks
kept_marks m stay l n i = stay && (m i && is_within l n i)

-- marks and registers of one range alone
pub record MarksIn (l n : ℕ) (m : Marks) : Type 0 where
  pub below : (i : ℕ) → i < l → m i ≡ false
  pub above : (i : ℕ) → l + n ≤ i → m i ≡ false

pub record TakesIn (v n : ℕ) (f : Takes) : Type 0 where
  pub below : (r : ℕ) → r < v → f r ≡ None
  pub above : (r : ℕ) → v + n ≤ r → f r ≡ None

-- the registers hold what they take
abbrev pub Holds : Takes → Registers → Type 0
Holds f k = (r : ℕ) (z : ℤ) → f r ≡ Some z → k r ≡ z

-- the labels and the registers are the statement's own, and without a label that is 1 no register has a default
pub record Bounded (vs : Vars) (m : Marks) (l v : ℕ) (s : Term) (o : Trail) : Type 0 where
  pub marks : MarksIn l (labels s) o.marks
  pub takes : TakesIn v (registers vs s) o.takes
  pub defaults : TakesIn v (registers vs s) o.defaults
  pub rests : some m l (labels s) ≡ false → o.defaults ≡ no_takes

-- the term t reacts, a rest of the statement s with these labels and registers, and what was added says so
pub record Live (vs : Vars) (env : Values) (t : Term) (m : Marks) (l v : ℕ) (s : Term) (move stay ended : Bool) (o : Trail) : Type 0 where
  pub reaction : Reaction
  pub reacts : React vs env t reaction
  pub ends : reaction.ended ≡ ended
  pub acts : reaction.acts ≡ o.acts
  pub met : reaction.met ≡ o.met
  pub faults : AllResolved o.met → reaction.faults ≡ o.faults
  -- where control moves, what ended has no label that is 1 next
  pub stops : move ≡ true → ended ≡ true → (o.marks ≡ no_marks) × (o.takes ≡ no_takes)
  -- and for what didn't end the next labels and registers stand
  pub goes : move ≡ true → ended ≡ false → (some o.marks l (labels s) ≡ true) × AtOne o.marks l s
      × ((k : Registers) → Holds (else_takes o.takes o.defaults) k → at vs o.marks k l v s ≡ plain vs reaction.residual)
  -- where it doesn't move, the labels of now may stay
  pub stays : move ≡ false → (o.marks ≡ kept_marks m stay l (labels s)) × (o.takes ≡ no_takes)
  -- for what is held the labels of now and the next registers stand
  pub held : some m l (labels s) ≡ true → (k : Registers) → Holds o.defaults k → at vs m k l v s ≡ plain vs reaction.held
  pub bounded : Bounded vs m l v s o

-- the statement doesn't react: its scopes advance, and its labels may stay
pub record Idle (vs : Vars) (m : Marks) (now : Registers) (l v : ℕ) (s : Term) (stay ended : Bool) (o : Trail) : Type 0 where
  pub ends : ended ≡ false
  pub acts : o.acts ≡ []
  pub faults : o.faults ≡ []
  pub met : o.met ≡ []
  pub marks : o.marks ≡ kept_marks m stay l (labels s)
  pub takes : o.takes ≡ no_takes
  pub held : some m l (labels s) ≡ true → (k : Registers) → Holds o.defaults k → at vs m k l v s ≡ plain vs (tick vs (at vs m now l v s))
  pub bounded : Bounded vs m l v s o

abbrev pub Runs : Vars → Values → (t : Term) → Marks → (now : Registers) → (l v : ℕ) → (s : Term) → (go move stay ended : Bool) → Trail → Type 0
Runs vs env t m k l v s false move stay ended o = Idle vs m k l v s stay ended o
Runs vs env t m k l v s true move stay ended o = Live vs env t m l v s move stay ended o

-- from a builder to what was made of it: the earlier cells are good too, what was added is a run, and closed copies are
-- settled
pub record Walked (vs : Vars) (σ : Assignment) (κ : Copies) (t : Term) (m : Marks) (l v : ℕ) (s : Term) (go move stay : Bool) (β : Builder) (made : Made) : Type 0 where
  pub good : Good vs σ β
  pub added : Trail
  pub adds : trail vs σ made.built ≡ plus (trail vs σ β) added
  pub runs : Runs vs (env_of σ κ) t m σ.registers l v s go move stay (truth σ made.ref) added
  pub settled : Settles vs σ β made.built

-- starting a statement; none of its labels counts as one of now
abbrev pub Starts : Type 0
Starts = (vs : Vars) (σ : Assignment) (κ : Copies) (l v : ℕ) (s : Term) (go move : Ref) (β : Builder)
    → AreSoundVars vs → IsCurrent vs σ κ → IsSound vs s → IsBuilt vs β → Good vs σ (surface vs κ l v s go move β).built
    → Walked vs σ κ s no_marks l v s (truth σ go) (truth σ move) false β (surface vs κ l v s go move β)

-- going on with it, from the labels that are 1
abbrev pub GoesOn : Type 0
GoesOn = (vs : Vars) (σ : Assignment) (κ : Copies) (l v : ℕ) (s : Term) (res move stay : Ref) (β : Builder)
    → AreSoundVars vs → IsCurrent vs σ κ → IsSound vs s → IsBuilt vs β → AtOne (now σ) l s
    → (truth σ res && (truth σ move && truth σ stay)) ≡ false → Good vs σ (depth vs κ l v s res move stay β).built
    → Walked vs σ κ (at vs (now σ) σ.registers l v s) (now σ) l v s (some (now σ) l (labels s) && truth σ res) (truth σ move) (truth σ stay) β (depth vs κ l v s res move stay β)
