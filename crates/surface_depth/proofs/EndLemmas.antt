-- How outputs' copies are closed.
use Rattle.std.proofs.Common.{◌≡◌, ℕ, ◌+◌, ◌<◌, true, false, nat_lt, List, [], ◌∷◌, ◌++◌, length, map, take, get_or, Some, refl, sym, ap, ◌∙◌, subst, append_assoc, arith}
use Rattle.std.specs.Prelude.{slice_get}
use Rattle.std.proofs.lemmas.Bool.Decides.{nat_tests}
use Rattle.std.proofs.lemmas.List.{take_more}
use Rattle.quartz_tree.specs.declared.declare.Var.{Var}
use Rattle.quartz_expr.specs.Vars.{Vars}
use Rattle.aif_cells.specs.declared.aif.Aif.{Aif}
use Rattle.aif_cells.specs.declared.cells.Action.{Action}
use Rattle.aif_cells.specs.declared.cells.Monitor.{Monitor}
use Rattle.aif_cells.specs.Built.{Defined}
use Rattle.absence_reaction.specs.declared.copy.Closed.{Closed}
use Rattle.absence_reaction.specs.declared.copy.Shape.{Shape}
use Rattle.absence_reaction.specs.declared.copy.VarCopy.{VarCopy}
use Rattle.absence_reaction.specs.Closing.{AreBelow, Built, Copy, built, closed_copy, shape_of}
use Rattle.statement_cells.specs.Labels.{shape_in}
use Rattle.statement_cells.specs.Expressions.{Copies}
use Rattle.statement_cells.specs.Builder.{Builder as Plain, built_of, closed_refs, writes_to}
use Rattle.statement_cells.specs.Whole.{ClosedOutput as PlainClosed, Ended, OutputCopy as PlainOutput, closed_output as plain_closed, ended, variable_registers}
use Rattle.statement_builder.specs.declared.builder.Builder.{Builder}
use Rattle.statement_builder.specs.Built.{IsBuilt, IsOver}
use Rattle.surface_depth.specs.declared.beginning.OutputCopy.{OutputCopy}
use Rattle.surface_depth.specs.declared.carrying.ClosedOutput.{ClosedOutput}
use Rattle.surface_depth.specs.Begins.{output_copy}
use Rattle.surface_depth.specs.Carrying.{closed_output}
use Rattle.surface_depth.specs.Ends.{Ends, EndsAll, are_below, count_of_outputs, open_copy}
use Rattle.surface_depth.proofs.CarryLemmas.{there}
use Rattle.quartz_expr.proofs.TruthLemmas.{and_parts}

pub all_below : (n : ℕ) (ks : List ℕ) → are_below n ks ≡ true → AreBelow n ks
all_below n [] h = tt
all_below n (k ∷ ks) h =
    let b = and_parts (nat_lt k n) (are_below n ks) h in
    let l : k < n = grind (arith, nat_tests, b.0) in
    (l, all_below n ks b.1)

shape_there : (vs : Vars) (x : ℕ) (v : Var) → slice_get vs x ≡ Some v → shape_in vs x ≡ shape_of v
shape_there vs x v e = rw e refl

-- the definition's copy of an output
abbrev plain_copy : OutputCopy → (first : ℕ) → Plain → VarCopy
plain_copy o v β = record { var = o.var; copy = 0; stored = true; first = v; values = o.cells; now = writes_to o.var false β.writes; next = writes_to o.var true β.writes }

copy_is : (vs : Vars) (κ : Copies) (b : Builder) (β : Plain) (o : OutputCopy) (v : ℕ) → IsBuilt κ [] b β → o.var < length b.variables.items → open_copy b o v ≡ plain_copy o v β
copy_is vs κ b β o v h l =
    ap (λ (ws : List Action). record (open_copy b o v) { now = ws }) (h.writes o.var false l)
    ∙ ap (λ (ws : List Action). record (plain_copy o v β) { next = ws }) (h.writes o.var true l)

built_is : (κ : Copies) (b : Builder) (β : Plain) → IsBuilt κ [] b β → built b.aif.cells b.aif.monitors ≡ built_of β
built_is κ b β h = ap (λ (ds : List Defined). record { cells = ds; monitors = b.aif.monitors }) h.cells ∙ ap (λ (ms : List Monitor). record { cells = β.cells; monitors = ms }) h.monitors

-- what a copy is closed with
abbrev closed_with : Closed → Aif → Copy
closed_with c a = record { values = c.values; flags = c.flags; pending = c.pending; built = built a.cells a.monitors }

pub output_ended : (vs : Vars) (b : Builder) (a : Aif) (o : OutputCopy) (v : ℕ) (copy : VarCopy) (c : Closed) → IsOver vs b → o.var < length b.variables.items → copy ≡ open_copy b o v
    → ((w : Var) → slice_get b.aif.vars copy.var ≡ Some w → closed_with c a ≡ closed_copy (shape_of w) copy (built b.aif.cells b.aif.monitors))
    → a ≡ record b.aif { cells = a.cells; monitors = a.monitors }
    → Ends vs b o v (record { var = o.var; first = v; closed = record { values = c.values; flags = c.flags; pending = c.pending } }) (record b { aif = a })
output_ended vs b a o v copy c over l is closes rest = record {
  over = λ h. record { vars = ap (λ (x : Aif). x.vars) rest ∙ h.vars; variables = h.variables; copies = h.copies };
  ended = λ κ β h.
      let w : (w : Var) × (slice_get vs o.var ≡ Some w) = there vs o.var (subst (λ k. o.var < k) over.variables l) in
      let at : slice_get b.aif.vars copy.var ≡ Some w.0 = ap (λ (k : VarCopy). slice_get b.aif.vars k.var) is ∙ (ap (λ (xs : List Var). slice_get xs o.var) over.vars ∙ w.1) in
      let e : closed_with c a ≡ closed_copy (shape_in vs o.var) (plain_copy o v β) (built_of β) =
      closes w.0 at ∙ (ap (λ (s : Shape). closed_copy s copy (built b.aif.cells b.aif.monitors)) (sym (shape_there vs o.var w.0 w.1))
      ∙ (ap (λ (k : VarCopy). closed_copy (shape_in vs o.var) k (built b.aif.cells b.aif.monitors)) (is ∙ copy_is vs κ b β o v h l)
      ∙ ap (λ (u : Built). closed_copy (shape_in vs o.var) (plain_copy o v β) u) (built_is κ b β h))) in (
        ap (λ (k : Copy). record { var = o.var; first = v; closed = closed_refs k } ∷ []) e,
        record {
          current = h.current;
          cells = ap (λ (k : Copy). k.built.cells) e;
          monitors = ap (λ (k : Copy). k.built.monitors) e;
          actions = ap (λ (x : Aif). x.actions) rest ∙ h.actions;
          made = ap (λ (x : Aif). x.made) rest ∙ h.made;
          entries = h.entries;
          stays = h.stays;
          entered = h.entered;
          depths = h.depths;
          writes = h.writes;
          numbers = h.numbers;
        },
      );
}

-- ---- all outputs

ended_more : (vs : Vars) (os : List PlainOutput) (o : PlainOutput) (v : ℕ) (β : Plain) → ended vs (os ++ o ∷ []) v β
    ≡ record { outputs = (ended vs os v β).outputs ++ (plain_closed vs o (v + count_of_outputs vs os) (ended vs os v β).built).outputs; built = (plain_closed vs o (v + count_of_outputs vs os) (ended vs os v β).built).built }
ended_more vs [] o v β = let e : v ≡ v + 0 = omega arith in ap (λ (k : ℕ). record { outputs = (plain_closed vs o k β).outputs; built = (plain_closed vs o k β).built }) e
ended_more vs (p ∷ os) o v β =
    let c : Ended = plain_closed vs p v β in
    let k : ℕ = v + variable_registers vs p.var in
    let e : k + count_of_outputs vs os ≡ v + (variable_registers vs p.var + count_of_outputs vs os) = omega arith in
    ap (λ (m : Ended). record { outputs = c.outputs ++ m.outputs; built = m.built }) (ended_more vs os o k c.built)
    ∙ (ap (λ (ps : List PlainClosed). record { outputs = ps; built = (plain_closed vs o (k + count_of_outputs vs os) (ended vs os k c.built).built).built }) (sym (append_assoc c.outputs (ended vs os k c.built).outputs (plain_closed vs o (k + count_of_outputs vs os) (ended vs os k c.built).built).outputs))
    ∙ ap (λ (j : ℕ). record { outputs = (c.outputs ++ (ended vs os k c.built).outputs) ++ (plain_closed vs o j (ended vs os k c.built).built).outputs; built = (plain_closed vs o j (ended vs os k c.built).built).built }) e)

map_one_more : {X Y : Type 0} (f : X → Y) (xs : List X) (x : X) → map f (xs ++ x ∷ []) ≡ map f xs ++ f x ∷ []
map_one_more f [] x = refl
map_one_more f (y ∷ xs) x = ap (λ (ys : List _). f y ∷ ys) (map_one_more f xs x)

pub ends_none : (vs : Vars) (b : Builder) (v : ℕ) → EndsAll vs b [] v [] b
ends_none vs b v = record { over = λ h. h; ended = λ κ β h. (refl, h) }

ends_one : (vs : Vars) (b m a : Builder) (os : List OutputCopy) (o : OutputCopy) (v r : ℕ) (cs : List ClosedOutput) (c : ClosedOutput) → r ≡ v + count_of_outputs vs (map output_copy os)
    → EndsAll vs b os v cs m → Ends vs m o r c a → EndsAll vs b (os ++ o ∷ []) v (cs ++ c ∷ []) a
ends_one vs b m a os o v r cs c same all one = record {
  over = λ h. one.over (all.over h);
  ended = λ κ β h.
      let ps : List PlainOutput = map output_copy os in
      let g : Ended = ended vs ps v β in
      let p : (map closed_output cs ≡ g.outputs) × IsBuilt κ [] m g.built = all.ended κ β h in
      let q : (closed_output c ∷ [] ≡ (plain_closed vs (output_copy o) r g.built).outputs) × IsBuilt κ [] a (plain_closed vs (output_copy o) r g.built).built = one.ended κ g.built p.1 in
      let t : (closed_output c ∷ [] ≡ (plain_closed vs (output_copy o) (v + count_of_outputs vs ps) g.built).outputs) × IsBuilt κ [] a (plain_closed vs (output_copy o) (v + count_of_outputs vs ps) g.built).built =
      subst (λ (k : ℕ). (closed_output c ∷ [] ≡ (plain_closed vs (output_copy o) k g.built).outputs) × IsBuilt κ [] a (plain_closed vs (output_copy o) k g.built).built) same q in
      subst (λ (e : Ended). (map closed_output (cs ++ c ∷ []) ≡ e.outputs) × IsBuilt κ [] a e.built) (sym (ap (λ (xs : List PlainOutput). ended vs xs v β) (map_one_more output_copy os o) ∙ ended_more vs ps (output_copy o) v β))
      (map_one_more closed_output cs c ∙ (ap (λ (ks : List PlainClosed). ks ++ closed_output c ∷ []) p.0 ∙ ap (λ (ks : List PlainClosed). g.outputs ++ ks) t.0), t.1);
}

pub ends_more : (vs : Vars) (b m a : Builder) (os : List OutputCopy) (i v r : ℕ) (o : OutputCopy) (cs after : List ClosedOutput) (c : ClosedOutput) → i < length os → o ≡ get_or os i o → after ≡ cs ++ c ∷ []
    → r ≡ v + count_of_outputs vs (map output_copy (take i os)) → EndsAll vs b (take i os) v cs m → Ends vs m o r c a → EndsAll vs b (take (i + 1) os) v after a
ends_more vs b m a os i v r o cs after c h e f same all one =
    subst (λ (xs : List OutputCopy). EndsAll vs b xs v after a) (ap (λ (k : OutputCopy). take i os ++ k ∷ []) e ∙ sym (take_more os i o h))
    (subst (λ (ks : List ClosedOutput). EndsAll vs b (take i os ++ o ∷ []) v ks a) (sym f) (ends_one vs b m a (take i os) o v r cs c same all one))

count_one : (vs : Vars) (ps : List PlainOutput) (p : PlainOutput) → count_of_outputs vs (ps ++ p ∷ []) ≡ count_of_outputs vs ps + variable_registers vs p.var
count_one vs [] p = omega arith
count_one vs (q ∷ ps) p = omega (arith, count_one vs ps p)

pub count_more : (vs : Vars) (os : List OutputCopy) (i : ℕ) (o : OutputCopy) → i < length os → o ≡ get_or os i o
    → count_of_outputs vs (map output_copy (take (i + 1) os)) ≡ count_of_outputs vs (map output_copy (take i os)) + variable_registers vs o.var
count_more vs os i o h e =
    ap (λ (xs : List OutputCopy). count_of_outputs vs (map output_copy xs)) (take_more os i o h ∙ ap (λ (k : OutputCopy). take i os ++ k ∷ []) (sym e))
    ∙ (ap (count_of_outputs vs) (map_one_more output_copy (take i os) o) ∙ count_one vs (map output_copy (take i os)) (output_copy o))
