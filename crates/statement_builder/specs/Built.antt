-- What the builder holds, as the definition's builder.
use Rattle.std.specs.Prelude.{◌≡◌, ℕ, ◌<◌, Bool, true, false, List, [], ◌++◌, length, map, slice_get, Option, Some, None, ◌==◌, ◌&&◌}
use Rattle.quartz_expr.specs.Vars.{Vars}
use Rattle.aif_cells.specs.declared.reference.Ref.{Ref}
use Rattle.aif_cells.specs.declared.cells.Action.{Action}
use Rattle.aif_cells.specs.Built.{all_defined}
use Rattle.reincarnation.specs.Entering.{copies_of}
use Rattle.statement_cells.specs.Expressions.{Copies}
use Rattle.statement_cells.specs.Builder.{Builder as Plain, Made, Entry as PlainEntry, EnteredCopy as PlainEntered, DepthCopy as PlainDepth, action_if, writes_to}
use Rattle.quartz_expr.specs.Resolve.{same_bool}
use Rattle.statement_cells.specs.Surface.{MadeAll, MadeIndex, Suspended}
use Rattle.statement_builder.specs.declared.builder.Builder.{Builder}
use Rattle.statement_builder.specs.declared.builder.OpenVar.{OpenVar}
use Rattle.statement_builder.specs.declared.builder.Entry.{Entry}
use Rattle.statement_builder.specs.declared.builder.EnteredCopy.{EnteredCopy}
use Rattle.statement_builder.specs.declared.builder.DepthCopy.{DepthCopy}

-- ---- the parts

abbrev pub entry : Entry → PlainEntry
entry e = record { label = e.label; under = e.under }

abbrev pub entered_copy : EnteredCopy → PlainEntered
entered_copy e = record { var = e.var; first = e.first; entered = e.entered }

abbrev pub depth_copy : DepthCopy → PlainDepth
depth_copy d = record { var = d.var; label = d.label; labels = d.labels; first = d.first; closed = d.closed }

-- the actions that write to the copy of a variable that isn't closed, now or for the next macro step
abbrev pub writes_of : (delayed : Bool) → OpenVar → List Action
writes_of false o = o.now
writes_of true o = o.next

abbrev pub open_writes : (delayed : Bool) → Option OpenVar → List Action
open_writes d None = []
open_writes d (Some o) = writes_of d o

abbrev pub open_copies : Option OpenVar → ℕ
open_copies None = 0
open_copies (Some o) = o.copies

-- behind the actions of its kind stands one more
pub record WritesMore (before : OpenVar) (a : Action) (after : OpenVar) : Type 0 where
  pub copies : after.copies ≡ before.copies
  pub writes : (d : Bool) → writes_of d after ≡ writes_of d before ++ action_if (same_bool a.delayed d) a []

-- an action more writes to its variable
pub record HasMoreWrites (before : List OpenVar) (a : Action) (after : List OpenVar) : Type 0 where
  pub count : length after ≡ length before
  pub copies : (x : ℕ) → open_copies (slice_get after x) ≡ open_copies (slice_get before x)
  pub writes : (x : ℕ) (d : Bool) → x < length before → open_writes d (slice_get after x) ≡ open_writes d (slice_get before x) ++ action_if ((a.var == x) && same_bool a.delayed d) a []

-- ---- the whole

-- for each variable there are the writes to its copy that isn't closed
abbrev pub HasWrites : List OpenVar → List Action → Type 0
HasWrites os ws = (x : ℕ) (d : Bool) → x < length os → open_writes d (slice_get os x) ≡ writes_to x d ws

-- for each variable there is the number of its copies
abbrev pub HasCopies : List OpenVar → Plain → Type 0
HasCopies os β = (x : ℕ) → x < length os → open_copies (slice_get os x) ≡ copies_of x β.made

-- the builder, which has these current copies, is the definition's builder but for what is reserved and for the trees of
-- scopes, where the writes in front are those of the copies around
pub record IsBuilt (κ : Copies) (front : List Action) (b : Builder) (β : Plain) : Type 0 where
  pub current : b.copies.items ≡ κ
  pub cells : all_defined b.aif.cells ≡ β.cells
  pub monitors : b.aif.monitors ≡ β.monitors
  pub actions : b.aif.actions ≡ β.actions
  pub made : b.aif.made ≡ β.made
  pub entries : map entry b.entries ≡ β.entries
  pub stays : map entry b.stays ≡ β.stays
  pub entered : map entered_copy b.entered ≡ β.entered
  pub depths : map depth_copy b.depths ≡ β.depths
  pub writes : HasWrites b.variables.items (front ++ β.writes)
  pub numbers : HasCopies b.variables.items β

-- the builder is over these variables
pub record IsOver (vs : Vars) (b : Builder) : Type 0 where
  pub vars : b.aif.vars ≡ vs
  pub variables : length b.variables.items ≡ length vs
  pub copies : length b.copies.items ≡ length vs

-- ---- what is done to it

-- the builder goes on over the same variables, and what is done is what the definition does
pub record Does (before after : Builder) (f : Copies → Plain → Plain) : Type 0 where
  pub over : (vs : Vars) → IsOver vs before → IsOver vs after
  pub built : (κ : Copies) (front : List Action) (β : Plain) → IsBuilt κ front before β → IsBuilt κ front after (f κ β)

-- likewise, and the reference is the definition's
pub record Makes (before after : Builder) (r : Ref) (f : Copies → Plain → Made) : Type 0 where
  pub over : (vs : Vars) → IsOver vs before → IsOver vs after
  pub made : (κ : Copies) (front : List Action) (β : Plain) → IsBuilt κ front before β → (r ≡ (f κ β).ref) × IsBuilt κ front after (f κ β).built

-- likewise, and what is given is the definition's
pub record Gives (A : Type 0) (before after : Builder) (a : A) (f : Copies → Plain → A × Plain) : Type 0 where
  pub over : (vs : Vars) → IsOver vs before → IsOver vs after
  pub made : (κ : Copies) (front : List Action) (β : Plain) → IsBuilt κ front before β → (a ≡ (f κ β).0) × IsBuilt κ front after (f κ β).1

-- likewise, and the condition of a suspension is the definition's, and so is where its labels stay
pub record Suspends (vs : Vars) (before after : Builder) (cond stay : Ref) (f : Copies → Plain → Suspended vs) : Type 0 where
  pub over : (ws : Vars) → IsOver ws before → IsOver ws after
  pub made : (κ : Copies) (front : List Action) (β : Plain) → IsBuilt κ front before β → (cond ≡ (f κ β).cond) × (stay ≡ (f κ β).stay) × IsBuilt κ front after (f κ β).built

-- likewise, and the index, if there is one, is the definition's
pub record MakesIndex (before after : Builder) (i : Option Ref) (f : Copies → Plain → MadeIndex) : Type 0 where
  pub over : (vs : Vars) → IsOver vs before → IsOver vs after
  pub made : (κ : Copies) (front : List Action) (β : Plain) → IsBuilt κ front before β → (i ≡ (f κ β).ref) × IsBuilt κ front after (f κ β).built

-- likewise, and the references are the definition's
pub record MakesAll (before after : Builder) (rs : List Ref) (f : Copies → Plain → MadeAll) : Type 0 where
  pub over : (vs : Vars) → IsOver vs before → IsOver vs after
  pub made : (κ : Copies) (front : List Action) (β : Plain) → IsBuilt κ front before β → (rs ≡ (f κ β).refs) × IsBuilt κ front after (f κ β).built
