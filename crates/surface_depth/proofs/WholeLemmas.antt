-- The whole module is what the stages make.
use Rattle.std.proofs.Common.{◌≡◌, ℕ, ◌+◌, ◌<◌, ◌≤◌, Bool, true, nat_lt, List, [], ◌∷◌, ◌++◌, length, map, replicate, pos, refl, sym, ap, ap₂, ◌∙◌, subst, arith}
use Rattle.std.proofs.lemmas.Bool.Decides.{nat_tests}
use Rattle.std.proofs.lemmas.List.{length-append, length-map, length-replicate}
use Rattle.quartz_expr.specs.Vars.{Vars}
use Rattle.quartz_expr.specs.Terms.{Term}
use Rattle.aif_cells.specs.declared.aif.Aif.{Aif}
use Rattle.aif_cells.specs.declared.cells.Path.{Path}
use Rattle.aif_cells.specs.declared.cells.Register.{Register}
use Rattle.aif_cells.specs.Aif.{input_count}
use Rattle.aif_cells.specs.Built.{Defined, all_defined, defined}
use Rattle.reincarnation.specs.declared.copy.Entered.{Entered}
use Rattle.reincarnation.specs.Carrying.{Stores, stores}
use Rattle.quartz_expr.specs.Vars.{count_of}
use Rattle.quartz_expr.specs.Steps.{outputs_of}
use Rattle.statement_cells.specs.Expressions.{Copies}
use Rattle.statement_cells.specs.Labels.{labels, registers, shape_in}
use Rattle.statement_cells.proofs.StartLemmas.{compiled_starts, length_repeated}
use Rattle.statement_cells.specs.Builder.{Builder as Plain, DepthCopy}
use Rattle.statement_cells.specs.Whole.{ClosedOutput as PlainClosed, Compiled, Ended, OutputCopy as PlainOutput, beginning, body_built, compiled, element_registers, ended, first_output, first_registers, first_scope, labels_taken, output_registers, outputs_registers, register_of, repeated, output_cells, outputs_taken, paths, registers_and_cells, scopes_taken}
use Rattle.statement_builder.specs.declared.builder.Builder.{Builder}
use Rattle.statement_builder.specs.Built.{IsBuilt, depth_copy, entered_copy}
use Rattle.surface_depth.specs.declared.beginning.OutputCopy.{OutputCopy}
use Rattle.surface_depth.specs.declared.carrying.ClosedOutput.{ClosedOutput}
use Rattle.surface_depth.specs.declared.carrying.ScopeCopies.{ScopeCopies}
use Rattle.surface_depth.specs.Begins.{output_copy}
use Rattle.surface_depth.specs.Carrying.{ChangesStores, closed_output, scopes_from, scopes_of}
use Rattle.surface_depth.specs.Compiling.{HasSizes, IsAssembled, IsBody, IsLabelled, compiled_in, ended_of, is_too_large, labelled_of, size_of}
use Rattle.surface_depth.specs.declared.sizes.Sizes.{Sizes}
use Rattle.surface_depth.specs.Ends.{EndsAll}
use Rattle.surface_depth.specs.Labels.{TakesLabels}
use Rattle.surface_depth.specs.Lists.{depths_by, entered_by}
use Rattle.surface_depth.specs.Ways.{steps_of}
use Rattle.surface_depth.proofs.ScopeLemmas.{scopes_are}
use Rattle.statement_cells.proofs.NextLemmas.{length_outputs}

-- what the registers take at the end
stores_of : Vars → Term → Stores
stores_of vs t = scopes_taken vs (labelled_of vs t).1.entered (labelled_of vs t).1.depths (first_scope vs t) t (outputs_taken vs (ended_of vs t).outputs (registers_and_cells (labelled_of vs t).0 (labelled_of vs t).1))

compiled_by : (vs : Vars) (t : Term) → compiled vs t ≡ record {
  outputs = output_cells (beginning vs).outputs;
  paths = paths [] t;
  made = (labelled_of vs t).1.made;
  registers = (stores_of vs t).registers;
  cells = (stores_of vs t).cells;
  actions = (labelled_of vs t).1.actions;
  monitors = (labelled_of vs t).1.monitors;
}
unfolding ended_of labelled_of stores_of
compiled_by vs t = refl

pub module_compiled : (vs : Vars) (t : Term) (b : Builder) (os : List OutputCopy) (cs : List ClosedOutput) (rs : List Register) (a m z : Aif) (k : ScopeCopies) (n v : ℕ)
    → map output_copy os ≡ (beginning vs).outputs → IsLabelled vs t b cs rs → IsAssembled vs t b os rs a
    → k.entered.items ≡ entered_by 0 n (map entered_copy b.entered) → map (map depth_copy) k.depths.items ≡ depths_by 0 n (map depth_copy b.depths) → v ≡ first_scope vs t → v + registers vs t ≤ n
    → stores m.registers m.cells ≡ outputs_taken a.vars (map closed_output cs) (stores a.registers a.cells) → ChangesStores a m
    → stores z.registers z.cells ≡ scopes_of k m.vars v t (stores m.registers m.cells) → ChangesStores m z → compiled_in z ≡ compiled vs t
unfolding stores_of
module_compiled vs t b os cs rs a m z k n v outs h s es ds same room taken rest scoped end =
    let r : List Register = (labelled_of vs t).0 in
    let β : Plain = (labelled_of vs t).1 in
    let one : stores a.registers a.cells ≡ registers_and_cells r β =
    ap (λ (x : List Register). record { registers = x; cells = all_defined a.cells }) (s.registers ∙ h.registers) ∙ ap (λ (x : List Defined). record { registers = r; cells = x }) (ap all_defined s.cells ∙ h.built.cells) in
    let two : stores m.registers m.cells ≡ outputs_taken vs (ended_of vs t).outputs (registers_and_cells r β) =
    taken ∙ (ap (λ (x : Vars). outputs_taken x (map closed_output cs) (stores a.registers a.cells)) s.vars
    ∙ (ap (λ (x : List PlainClosed). outputs_taken vs x (stores a.registers a.cells)) h.closed ∙ ap (outputs_taken vs (ended_of vs t).outputs) one)) in
    let vars : m.vars ≡ vs = ap (λ (x : Aif). x.vars) rest ∙ s.vars in
    let entered : k.entered.items ≡ entered_by 0 n β.entered = es ∙ ap (entered_by 0 n) h.built.entered in
    let depths : map (map depth_copy) k.depths.items ≡ depths_by 0 n β.depths = ds ∙ ap (depths_by 0 n) h.built.depths in
    let σ : Stores = outputs_taken vs (ended_of vs t).outputs (registers_and_cells r β) in
    let three : stores z.registers z.cells ≡ scopes_taken vs β.entered β.depths (first_scope vs t) t σ =
    scoped ∙ (ap (λ (x : Vars). scopes_of k x v t (stores m.registers m.cells)) vars
    ∙ (ap (λ (x : Stores). scopes_from vs k.entered.items (map (map depth_copy) k.depths.items) v t x) two
    ∙ (ap (λ (x : List (List Entered)). scopes_from vs x (map (map depth_copy) k.depths.items) v t σ) entered
    ∙ (ap (λ (x : List (List DepthCopy)). scopes_from vs (entered_by 0 n β.entered) x v t σ) depths
    ∙ (scopes_are vs n β.entered β.depths t v σ room ∙ ap (λ (j : ℕ). scopes_taken vs β.entered β.depths j t σ) same))))) in
    let outputs : z.outputs ≡ output_cells (beginning vs).outputs =
    ap (λ (x : Aif). x.outputs) end ∙ (ap (λ (x : Aif). x.outputs) rest ∙ (s.outputs ∙ ap output_cells outs)) in
    let ways : map steps_of z.paths ≡ paths [] t = ap (λ (x : Aif). map steps_of x.paths) end ∙ (ap (λ (x : Aif). map steps_of x.paths) rest ∙ s.paths) in
    let made : z.made ≡ β.made = ap (λ (x : Aif). x.made) end ∙ (ap (λ (x : Aif). x.made) rest ∙ (s.made ∙ h.built.made)) in
    let actions : z.actions ≡ β.actions = ap (λ (x : Aif). x.actions) end ∙ (ap (λ (x : Aif). x.actions) rest ∙ (s.actions ∙ h.built.actions)) in
    let monitors : z.monitors ≡ β.monitors = ap (λ (x : Aif). x.monitors) end ∙ (ap (λ (x : Aif). x.monitors) rest ∙ (s.monitors ∙ h.built.monitors)) in
    let all : compiled_in z ≡ record {
      outputs = output_cells (beginning vs).outputs;
      paths = paths [] t;
      made = (labelled_of vs t).1.made;
      registers = (stores_of vs t).registers;
      cells = (stores_of vs t).cells;
      actions = (labelled_of vs t).1.actions;
      monitors = (labelled_of vs t).1.monitors;
    } = λ i. record { outputs = outputs i; paths = ways i; made = made i; registers = (three i).registers; cells = (three i).cells; actions = actions i; monitors = monitors i } in
    all ∙ sym (compiled_by vs t)

-- ---- the registers' count

pub count_first : (vs : Vars) (xs : List ℕ) (n m : ℕ) (rs : List Register) → rs ≡ register_of (pos 1) ∷ (replicate n (register_of (pos 0)) ++ (outputs_registers vs xs ++ replicate m (register_of (pos 0))))
    → length rs ≡ 1 + (n + (output_registers vs xs + m))
count_first vs xs n m rs e =
    let a : length (replicate n (register_of (pos 0)) ++ (outputs_registers vs xs ++ replicate m (register_of (pos 0)))) ≡ n + (output_registers vs xs + m) =
    length-append (replicate n (register_of (pos 0))) (outputs_registers vs xs ++ replicate m (register_of (pos 0)))
    ∙ ap₂ (λ a b. a + b) (length-replicate n (register_of (pos 0))) (length-append (outputs_registers vs xs) (replicate m (register_of (pos 0))) ∙ ap₂ (λ a b. a + b) (length_outputs vs xs) (length-replicate m (register_of (pos 0)))) in
    omega (arith, ap length e, a)

-- ---- outputs are closed, and labels' registers are told what they take

pub labelled_is : (vs : Vars) (t : Term) (b m z : Builder) (os : List OutputCopy) (cs : List ClosedOutput) (v n : ℕ) (rs rs' : List Register) → IsBody vs t b os → EndsAll vs b os v cs m → v ≡ first_output t
    → rs ≡ first_registers vs t → n ≡ labels t → TakesLabels m rs n z rs' → IsLabelled vs t z cs rs'
unfolding ended_of labelled_of
labelled_is vs t b m z os cs v n rs rs' body ends first firsts count taken =
    let κ : Copies = (beginning vs).copies in
    let β : Plain = body_built vs t in
    let p : (map closed_output cs ≡ (ended vs (map output_copy os) v β).outputs) × IsBuilt κ [] m (ended vs (map output_copy os) v β).built = ends.ended κ β body.built in
    let q : (map closed_output cs ≡ (ended_of vs t).outputs) × IsBuilt κ [] m (ended_of vs t).built =
    subst (λ (e : Ended). (map closed_output cs ≡ e.outputs) × IsBuilt κ [] m e.built) (ap (λ (xs : List PlainOutput). ended vs xs v β) body.outputs ∙ ap (λ (k : ℕ). ended vs (beginning vs).outputs k β) first) p in
    let r : (rs' ≡ (labels_taken 1 n rs (ended_of vs t).built).0) × IsBuilt κ [] z (labels_taken 1 n rs (ended_of vs t).built).1 = taken.built κ [] (ended_of vs t).built q.1 in
    let s : (rs' ≡ (labelled_of vs t).0) × IsBuilt κ [] z (labelled_of vs t).1 =
    subst (λ (l : List Register × Plain). (rs' ≡ l.0) × IsBuilt κ [] z l.1)
    (ap (λ (k : ℕ). labels_taken 1 k rs (ended_of vs t).built) count ∙ ap (λ (x : List Register). labels_taken 1 (labels t) x (ended_of vs t).built) firsts) r in
    record { closed = q.0; registers = s.0; built = s.1 }

pub firsts_are : (vs : Vars) (t : Term) (xs : List ℕ) (n m : ℕ) (rs : List Register) → xs ≡ outputs_of vs → n ≡ labels t → m ≡ registers vs t
    → rs ≡ register_of (pos 1) ∷ (replicate n (register_of (pos 0)) ++ (outputs_registers vs xs ++ replicate m (register_of (pos 0)))) → rs ≡ first_registers vs t
firsts_are vs t xs n m rs outs ls ss e =
    e ∙ (ap (λ (k : ℕ). register_of (pos 1) ∷ (replicate k (register_of (pos 0)) ++ (outputs_registers vs xs ++ replicate m (register_of (pos 0))))) ls
    ∙ (ap (λ (ys : List ℕ). register_of (pos 1) ∷ (replicate (labels t) (register_of (pos 0)) ++ (outputs_registers vs ys ++ replicate m (register_of (pos 0))))) outs
    ∙ ap (λ (k : ℕ). register_of (pos 1) ∷ (replicate (labels t) (register_of (pos 0)) ++ (outputs_registers vs (outputs_of vs) ++ replicate k (register_of (pos 0))))) ss))

pub labelled_by : (ws vs : Vars) (t : Term) (b m z : Builder) (os os' : List OutputCopy) (cs : List ClosedOutput) (xs : List ℕ) (v n sc : ℕ) (rs rs' : List Register) → ws ≡ vs → os' ≡ os → IsBody vs t b os → EndsAll ws b os' v cs m → v ≡ 1 + n
    → n ≡ labels t → xs ≡ outputs_of vs → sc ≡ registers vs t → rs ≡ register_of (pos 1) ∷ (replicate n (register_of (pos 0)) ++ (outputs_registers ws xs ++ replicate sc (register_of (pos 0))))
    → TakesLabels m rs n z rs' → IsLabelled vs t z cs rs'
labelled_by ws vs t b m z os os' cs xs v n sc rs rs' same items body ends first count outs scopes firsts taken =
    let e : EndsAll vs b os v cs m = subst (λ (us : List OutputCopy). EndsAll vs b us v cs m) items (subst (λ (us : Vars). EndsAll us b os' v cs m) same ends) in
    let f : rs ≡ register_of (pos 1) ∷ (replicate n (register_of (pos 0)) ++ (outputs_registers vs xs ++ replicate sc (register_of (pos 0)))) =
    firsts ∙ ap (λ (us : Vars). register_of (pos 1) ∷ (replicate n (register_of (pos 0)) ++ (outputs_registers us xs ++ replicate sc (register_of (pos 0))))) same in
    labelled_is vs t b m z os cs v n rs rs' body e (first ∙ ap (λ (k : ℕ). 1 + k) count) (firsts_are vs t xs n sc rs outs count scopes f) count taken

pub count_is : (ws vs : Vars) (xs : List ℕ) (n s m : ℕ) (rs : List Register) → ws ≡ vs → xs ≡ outputs_of vs → s ≡ output_registers vs (outputs_of vs)
    → rs ≡ register_of (pos 1) ∷ (replicate n (register_of (pos 0)) ++ (outputs_registers ws xs ++ replicate m (register_of (pos 0)))) → length rs ≡ 1 + (n + (s + m))
count_is ws vs xs n s m rs same outs own e =
    let a : output_registers ws xs ≡ s = ap (λ (us : Vars). output_registers us xs) same ∙ (ap (output_registers vs) outs ∙ sym own) in
    omega (arith, count_first ws xs n m rs e, a)

pub assembled_is : (vs : Vars) (t : Term) (b : Builder) (os : List OutputCopy) (rs : List Register) (a : Aif) (name cells : List ℕ) (inputs : ℕ) (ways : List Path) → b.aif.vars ≡ vs → cells ≡ output_cells (map output_copy os)
    → map steps_of ways ≡ paths [] t → a ≡ record b.aif { name = name; inputs = inputs; outputs = cells; paths = ways; registers = rs } → IsAssembled vs t b os rs a
assembled_is vs t b os rs a name cells inputs ways vars outputs own is = record {
  vars = ap (λ (x : Aif). x.vars) is ∙ vars;
  outputs = ap (λ (x : Aif). x.outputs) is ∙ outputs;
  paths = ap (λ (x : Aif). map steps_of x.paths) is ∙ own;
  registers = ap (λ (x : Aif). x.registers) is;
  made = ap (λ (x : Aif). x.made) is;
  cells = ap (λ (x : Aif). x.cells) is;
  actions = ap (λ (x : Aif). x.actions) is;
  monitors = ap (λ (x : Aif). x.monitors) is;
}

-- ---- sizes

length_compiled : (vs : Vars) (t : Term) → length (compiled vs t).registers ≡ length (first_registers vs t)
length_compiled vs t = sym (length-map (compiled vs t).registers (λ x. x.initial)) ∙ (ap length (compiled_starts vs t) ∙ length-map (first_registers vs t) (λ x. x.initial))

large : (c r i m : ℕ) → r ≡ m → 65536 < m + i → nat_lt 65536 (c + r + i) ≡ true
large c r i m e h = let l : 65536 < c + r + i = omega (arith, e, h) in grind (arith, nat_tests, l)

-- a module with too many registers and inputs is too large
pub early_large : (vs : Vars) (t : Term) (s : Sizes) → HasSizes vs t s → 65536 < 1 + (s.labels + (s.outputs + s.scopes)) + s.inputs → is_too_large vs t ≡ true
early_large vs t s h l =
    let n : length (first_registers vs t) ≡ 1 + (labels t + (output_registers vs (outputs_of vs) + registers vs t)) = count_first vs (outputs_of vs) (labels t) (registers vs t) (first_registers vs t) refl in
    large (length (compiled vs t).cells) (length (compiled vs t).registers) (input_count vs) (1 + (labels t + (output_registers vs (outputs_of vs) + registers vs t))) (length_compiled vs t ∙ n)
    (omega (arith, l, h.inputs, h.labels_are, h.outputs, h.scopes))

-- the size of a module that is compiled
pub size_is : (vs : Vars) (t : Term) (a : Aif) → compiled_in a ≡ compiled vs t → a.inputs ≡ input_count vs → length a.cells + length a.registers + a.inputs ≡ size_of vs t
size_is vs t a e f =
    let c : length a.cells ≡ length (compiled vs t).cells = sym (length-map a.cells defined) ∙ ap (λ (k : Compiled). length k.cells) e in
    let r : length a.registers ≡ length (compiled vs t).registers = ap (λ (k : Compiled). length k.registers) e in
    ap₂ (λ x y. x + y) (ap₂ (λ x y. x + y) c r) f

pub large_is : (vs : Vars) (t : Term) (a : Aif) (b : Bool) → compiled_in a ≡ compiled vs t → a.inputs ≡ input_count vs → b ≡ nat_lt 65536 (length a.cells + length a.registers + a.inputs) → b ≡ is_too_large vs t
large_is vs t a b e f g = g ∙ ap (nat_lt 65536) (size_is vs t a e f)
