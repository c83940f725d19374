-- The cells, registers, actions and monitors of a whole module.
use Rattle.std.specs.Prelude.{ℕ, zero, suc, ◌+◌, ◌*◌, ℤ, pos, Bool, true, false, ◌==◌, List, [], ◌∷◌, ◌++◌, map, replicate, slice_get, slice_set, Option, Some, None, if◌then◌else◌}
use Rattle.quartz_tree.specs.declared.declare.Flow.{Flow}
use Rattle.quartz_tree.specs.declared.declare.Flow.TheVariants.{Input, Output, Inner}
use Rattle.quartz_tree.specs.declared.declare.Var.{Var}
use Rattle.quartz_expr.specs.Vars.{Vars, count_of}
use Rattle.quartz_expr.specs.Steps.{outputs_of}
use Rattle.quartz_expr.specs.Terms.{Term, nothing, pause, write, choose, seq, par, loop, abort, suspend, scope, Terms, none, part}
use Rattle.aif_cells.specs.declared.reference.Ref.{Ref}
use Rattle.aif_cells.specs.declared.reference.Ref.TheVariants as ref
use Rattle.aif_cells.specs.declared.cells.Action.{Action}
use Rattle.aif_cells.specs.declared.cells.Monitor.{Monitor}
use Rattle.aif_cells.specs.declared.cells.Register.{Register}
use Rattle.aif_cells.specs.declared.cells.Made.{Made as MadeCopy}
use Rattle.aif_cells.specs.Aif.{elements_of}
use Rattle.aif_cells.specs.Tree.{value}
use Rattle.aif_cells.specs.Built.{Defined, join}
use Rattle.absence_reaction.specs.declared.copy.Shape.{Shape}
use Rattle.absence_reaction.specs.Closing.{closed_copy, one_if, registers_each}
use Rattle.quartz_tree.specs.Storage.{is_memorized}
use Rattle.reincarnation.specs.declared.copy.ClosedRefs.{ClosedRefs}
use Rattle.reincarnation.specs.declared.copy.Entered.{Entered}
use Rattle.reincarnation.specs.Entering.{numbers_from}
use Rattle.reincarnation.specs.Carrying.{Stores, carried, with_next}
use Rattle.statement_cells.specs.Labels.{labels, registers, scope_registers, shape_in}
use Rattle.statement_cells.specs.Expressions.{Current, Copies}
use Rattle.statement_cells.specs.Builder.{Builder, Entry, EnteredCopy, DepthCopy, zero_ref, one_ref, nowhere, and_of, new_cells, reserve, writes_to, built_of, closed_refs}
use Rattle.statement_cells.specs.Surface.{surface, depth}

-- ---- the paths of labels

-- a step on the way from the body to a label: whether the statement is a parallel, and which of its parts it goes to
abbrev pub Step : Type 0
Step = Bool × ℕ

abbrev pub one_step : List Step → Bool → ℕ → List Step
one_step front b n = front ++ (b, n) ∷ []

-- the paths of a statement's labels, behind the way to the statement
abbrev mutual
  pub paths : List Step → Term → List (List Step)
  paths front nothing = []
  paths front pause = front ∷ []
  paths front (write _ _ _ _ _ _) = []
  paths front (choose _ a b) = paths (one_step front false 0) a ++ paths (one_step front false 1) b
  paths front (seq ts) = paths_all front false 0 ts
  paths front (par ts) = paths_all front true 0 ts
  paths front (loop t _) = paths (one_step front false 0) t
  paths front (abort _ _ t _) = paths (one_step front false 0) t
  paths front (suspend _ true t _) = one_step front false 0 ∷ paths (one_step front false 1) t
  paths front (suspend _ false t _) = paths (one_step front false 1) t
  paths front (scope _ _ t) = paths (one_step front false 0) t

  pub paths_all : List Step → Bool → ℕ → Terms → List (List Step)
  paths_all front b n none = []
  paths_all front b n (part t ts) = paths (one_step front b n) t ++ paths_all front b (n + 1) ts

-- ---- the copies at the start

-- the elements of an input have the next numbers; an output has its value cells later; a local has its start values, which
-- nothing reads outside its scope
abbrev pub first_copy : Flow → (start : ℤ) → (first count : ℕ) → Current
first_copy Input z i n = record { copy = 0; values = map ref.Input (numbers_from i n) }
first_copy Output z i n = record { copy = 0; values = [] }
first_copy Inner z i n = record { copy = 0; values = replicate n (ref.Lit z) }

abbrev pub after_flow : Flow → (first count : ℕ) → ℕ
after_flow Input i n = i + n
after_flow Output i n = i
after_flow Inner i n = i

abbrev pub first_copies : Vars → (input : ℕ) → Copies
first_copies [] i = []
first_copies (v ∷ vs) i = first_copy v.decl.flow v.start i (elements_of v) ∷ first_copies vs (after_flow v.decl.flow i (elements_of v))

abbrev pub nothing_built : Builder
nothing_built = record { cells = []; monitors = []; actions = []; made = []; entries = []; stays = []; writes = []; reserved = []; scopes = []; entered = []; depths = [] }

-- an output's number and its value cells
pub record OutputCopy : Type 0 where
  pub var : ℕ
  pub cells : List ℕ

-- the outputs' copies with store, reserved in order
pub record Begun : Type 0 where
  pub copies : Copies
  pub outputs : List OutputCopy
  pub built : Builder

abbrev pub begun : Vars → List ℕ → Copies → Builder → Begun
begun vs [] κ β = record { copies = κ; outputs = []; built = β }
begun vs (x ∷ xs) κ β =
    let cells = new_cells vs x β in
    let more = begun vs xs (slice_set κ x (record { copy = 0; values = map ref.Cell cells })) (reserve vs x true β) in
    record more { outputs = record { var = x; cells = cells } ∷ more.outputs }

abbrev pub beginning : Vars → Begun
beginning vs = begun vs (outputs_of vs) (first_copies vs 0) nothing_built

-- ---- the registers' numbers: the start flag, the labels, the outputs' and the scopes'

abbrev pub variable_registers : Vars → (var : ℕ) → ℕ
variable_registers vs x = count_of vs x * registers_each (shape_in vs x)

abbrev pub first_label : ℕ
first_label = 1

abbrev pub first_output : Term → ℕ
first_output t = 1 + labels t

abbrev pub output_registers : Vars → List ℕ → ℕ
output_registers vs [] = 0
output_registers vs (x ∷ xs) = variable_registers vs x + output_registers vs xs

abbrev pub first_scope : Vars → Term → ℕ
first_scope vs t = first_output t + output_registers vs (outputs_of vs)

-- ---- the body

-- the surface starts in the first step, and the depth goes on in all others
abbrev pub body_built : Vars → Term → Builder
body_built vs t =
    let b = beginning vs in
    let s = surface vs b.copies first_label (first_scope vs t) t (ref.Reg 0) one_ref b.built in
    (depth vs b.copies first_label (first_scope vs t) t one_ref one_ref zero_ref s.built).built

-- ---- closing the outputs

-- a closed output, with its first register
pub record ClosedOutput : Type 0 where
  pub var : ℕ
  pub first : ℕ
  pub closed : ClosedRefs

pub record Ended : Type 0 where
  pub outputs : List ClosedOutput
  pub built : Builder

abbrev pub closed_output : Vars → OutputCopy → (first : ℕ) → Builder → Ended
closed_output vs o v β =
    let c = closed_copy (shape_in vs o.var) (record {
      var = o.var;
      copy = 0;
      stored = true;
      first = v;
      values = o.cells;
      now = writes_to o.var false β.writes;
      next = writes_to o.var true β.writes;
    }) (built_of β) in
    record { outputs = record { var = o.var; first = v; closed = closed_refs c } ∷ []; built = record β { cells = c.built.cells; monitors = c.built.monitors } }

abbrev pub ended : Vars → List OutputCopy → (first : ℕ) → Builder → Ended
ended vs [] v β = record { outputs = []; built = β }
ended vs (o ∷ os) v β =
    let c = closed_output vs o v β in
    let more = ended vs os (v + variable_registers vs o.var) c.built in
    record { outputs = c.outputs ++ more.outputs; built = more.built }

-- ---- what registers take

abbrev pub registers_and_cells : List Register → Builder → Stores
registers_and_cells rs β = record { registers = rs; cells = β.cells }

-- the references under which a label is entered, and those under which it stays, which is one
abbrev pub refs_for : (label : ℕ) → List Entry → List Ref
refs_for l [] = []
refs_for l (e ∷ es) = if e.label == l then e.under ∷ refs_for l es else refs_for l es

-- a label that is 1 and stays
abbrev pub staying : (label : ℕ) → List Ref → Builder → List Ref × Builder
staying l [] β = ([], β)
staying l (r ∷ rs) β =
    let m = and_of (ref.Reg l) r β in
    let more = staying l rs m.built in
    (m.ref ∷ more.0, more.1)

-- a label is 1 next where it is entered or stays
abbrev pub label_taken : (label : ℕ) → List Register → Builder → List Register × Builder
label_taken l rs β =
    let s = staying l (refs_for l β.stays) β in
    let j = join nowhere (map value (refs_for l β.entries ++ s.0)) s.1.cells in
    (with_next rs l j.ref, record s.1 { cells = j.cells })

abbrev pub labels_taken : (label count : ℕ) → List Register → Builder → List Register × Builder
labels_taken l zero rs β = (rs, β)
labels_taken l (suc n) rs β = let m = label_taken l rs β in labels_taken (l + 1) n m.0 m.1

-- registers of outputs take what the closed copy has, as those of a scope without surface copies do
abbrev var_in : Option Var → Stores → (Var → Stores) → Stores
var_in None σ f = σ
var_in (Some v) σ f = f v

abbrev pub carried_in : Vars → (var : ℕ) → List Entered → ClosedRefs → (first : ℕ) → Stores → Stores
carried_in vs x es c v σ = var_in (slice_get vs x) σ (λ w. carried w es c v σ)

abbrev pub outputs_taken : Vars → List ClosedOutput → Stores → Stores
outputs_taken vs [] σ = σ
outputs_taken vs (o ∷ os) σ = outputs_taken vs os (carried_in vs o.var [] o.closed o.first σ)

-- the copies of the scope whose registers begin there
abbrev pub entered_at : (first : ℕ) → List EnteredCopy → List Entered
entered_at v [] = []
entered_at v (e ∷ es) = if e.first == v then e.entered ∷ entered_at v es else entered_at v es

abbrev pub depths_at : (first : ℕ) → List DepthCopy → List DepthCopy
depths_at v [] = []
depths_at v (d ∷ ds) = if d.first == v then d ∷ depths_at v ds else depths_at v ds

abbrev pub depth_taken : Vars → List EnteredCopy → List DepthCopy → Stores → Stores
depth_taken vs es [] σ = σ
depth_taken vs es (d ∷ ds) σ = depth_taken vs es ds (carried_in vs d.var (entered_at d.first es) d.closed d.first σ)

-- scopes with registers in textual order
abbrev pub scope_taken : Vars → List EnteredCopy → List DepthCopy → (registers first : ℕ) → Stores → Stores
scope_taken vs es ds zero v σ = σ
scope_taken vs es ds (suc _) v σ = depth_taken vs es (depths_at v ds) σ

abbrev mutual
  pub scopes_taken : Vars → List EnteredCopy → List DepthCopy → (first : ℕ) → Term → Stores → Stores
  scopes_taken vs es ds v nothing σ = σ
  scopes_taken vs es ds v pause σ = σ
  scopes_taken vs es ds v (write _ _ _ _ _ _) σ = σ
  scopes_taken vs es ds v (choose _ a b) σ = scopes_taken vs es ds (v + registers vs a) b (scopes_taken vs es ds v a σ)
  scopes_taken vs es ds v (seq ts) σ = all_scopes_taken vs es ds v ts σ
  scopes_taken vs es ds v (par ts) σ = all_scopes_taken vs es ds v ts σ
  scopes_taken vs es ds v (loop t _) σ = scopes_taken vs es ds v t σ
  scopes_taken vs es ds v (abort _ _ t _) σ = scopes_taken vs es ds v t σ
  scopes_taken vs es ds v (suspend _ _ t _) σ = scopes_taken vs es ds v t σ
  scopes_taken vs es ds v (scope x _ t) σ =
      let n = scope_registers vs (labels t) x in
      scopes_taken vs es ds (v + n) t (scope_taken vs es ds n v σ)

  pub all_scopes_taken : Vars → List EnteredCopy → List DepthCopy → (first : ℕ) → Terms → Stores → Stores
  all_scopes_taken vs es ds v none σ = σ
  all_scopes_taken vs es ds v (part t ts) σ = all_scopes_taken vs es ds (v + registers vs t) ts (scopes_taken vs es ds v t σ)

-- ---- the registers before they are told what they take

abbrev pub register_of : ℤ → Register
register_of z = record { initial = z; next = zero_ref }

-- an output's registers start at its start value, with nothing pending
abbrev pub element_registers : Shape → List Register
element_registers s =
    replicate (one_if (is_memorized s.storage)) (register_of s.start) ++ replicate (one_if s.delayed + one_if s.delayed) (register_of (pos 0))

abbrev pub repeated : ℕ → List Register → List Register
repeated zero rs = []
repeated (suc n) rs = rs ++ repeated n rs

abbrev pub outputs_registers : Vars → List ℕ → List Register
outputs_registers vs [] = []
outputs_registers vs (x ∷ xs) = repeated (count_of vs x) (element_registers (shape_in vs x)) ++ outputs_registers vs xs

abbrev pub first_registers : Vars → Term → List Register
first_registers vs t =
    register_of (pos 1) ∷ (replicate (labels t) (register_of (pos 0)) ++ (outputs_registers vs (outputs_of vs) ++ replicate (registers vs t) (register_of (pos 0))))

-- ---- the whole

pub record Compiled : Type 0 where
  pub outputs : List ℕ
  pub paths : List (List Step)
  pub made : List MadeCopy
  pub registers : List Register
  pub cells : List Defined
  pub actions : List Action
  pub monitors : List Monitor

abbrev pub output_cells : List OutputCopy → List ℕ
output_cells [] = []
output_cells (o ∷ os) = o.cells ++ output_cells os

-- the body is built, the outputs are closed, and the registers of labels, of outputs and of scopes are told what they take
abbrev pub compiled : Vars → Term → Compiled
compiled vs t =
    let outs = (beginning vs).outputs in
    let e = ended vs outs (first_output t) (body_built vs t) in
    let l = labels_taken first_label (labels t) (first_registers vs t) e.built in
    let o = outputs_taken vs e.outputs (registers_and_cells l.0 l.1) in
    let s = scopes_taken vs l.1.entered l.1.depths (first_scope vs t) t o in
    record {
      outputs = output_cells outs;
      paths = paths [] t;
      made = l.1.made;
      registers = s.registers;
      cells = s.cells;
      actions = l.1.actions;
      monitors = l.1.monitors;
    }
