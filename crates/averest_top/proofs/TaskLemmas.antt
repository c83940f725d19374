-- What the tasks do with the parts of a module.
use Rattle.std.proofs.Common.{◌≡◌, ◌⊎◌, ◌≤◌, ◌<◌, ◌↔◌, ◌+◌, ℕ, Bool, true, false, List, length, Contains, Option, Some, None, sym, ap, ap₂, subst, ◌∙◌, arith}
use Rattle.std.specs.Prelude.{nat_lt}
use Rattle.std.proofs.lemmas.Bool.Decides.{nat_tests}
use Rattle.quartz_tree.specs.Surfaces.{ModuleTree}
use Rattle.quartz_expr.specs.Vars.{Vars, start_of}
use Rattle.quartz_expr.specs.Intervals.{Lies, range_of}
use Rattle.quartz_expr.specs.Typed.{AreSound}
use Rattle.quartz_names.specs.Resolving.{resolved_body, resolved_vars}
use Rattle.outside.specs.declared.status.Status.{Status}
use Rattle.outside.specs.declared.status.Status.TheVariants.{NoMemory}
use Rattle.aif_cells.specs.declared.aif.Aif.{Aif}
use Rattle.aif_cells.specs.declared.cells.Action.{Action}
use Rattle.aif_cells.specs.Aif.{input_count}
use Rattle.aif_cells.specs.Text.{aif_text}
use Rattle.statement_cells.specs.Whole.{Compiled}
use Rattle.trace_io.specs.Inputs.{output_types}
use Rattle.write_conflicts.specs.declared.pairs.Pairs.{Pairs}
use Rattle.write_conflicts.specs.Loose.{Scene, IsLoosePair}
use Rattle.write_conflicts.specs.Pairs.{ArePairsOf, scene}
use Rattle.command_texts.specs.Texts.{accepted_text}
use Rattle.command_texts.specs.Written.{IsWritten}
use Rattle.cell_run.specs.Machine.{Executes, IsCompiled}
use Rattle.cell_run.proofs.ExecuteLemmas.{compiled_cells_execute, outputs_counted}
use Rattle.quartz_build.specs.declared.building.Built.{Built}
use Rattle.quartz_build.specs.Broken.{IsAccepted, compiled_of, scrutiny_of, term_in}
use Rattle.quartz_build.specs.Parts.{AreWanted, ArePartsOf, IsAifOf}
use Rattle.trace_writer.specs.declared.format.Format.{Format}
use Rattle.convert_run.specs.Told.{Converts}
use Rattle.averest_top.specs.Commands.{most_converted}
use Rattle.averest_top.specs.Tasks.{ConvertsAs, IsLooseCount, IsReady, SaysSize, WritesCells, loose_in}
use Rattle.averest_top.proofs.SizeLemmas.{outputs_few}
use Rattle.absence_reaction.proofs.ElementLemmas.{length_defined}
use Rattle.quartz_build.proofs.BuildLemmas.{cells_judged, same_scene, same_actions}
use Rattle.quartz_build.proofs.OneLemmas.{good_can_run}

-- ---- the cells of a module

is_compiled : (m : ModuleTree) (a : Aif) → IsAifOf m a → IsCompiled (resolved_vars m) (resolved_body m) a
is_compiled m a i = record {
  vars = i.vars_are;
  outputs = ap (λ (c : Compiled). c.outputs) i.compiled_to;
  registers = ap (λ (c : Compiled). c.registers) i.compiled_to;
  cells = ap (λ (c : Compiled). c.cells) i.compiled_to;
  monitors = ap (λ (c : Compiled). c.monitors) i.compiled_to;
}

-- they execute it
pub parts_execute : (wants : Bool) (m : ModuleTree) (b : Built) → ArePartsOf wants m b → Executes (resolved_vars m) (resolved_body m) b.aif
parts_execute wants m b p = compiled_cells_execute (resolved_vars m) (resolved_body m) b.aif b.order.cells p.sound (is_compiled m b.aif p.cells_are) p.ordered

-- their loose pairs are counted
counted_pairs : (m : ModuleTree) (a : Aif) (told : Pairs) → IsAifOf m a → ArePairsOf a told → IsLooseCount m told.count
counted_pairs m a told i p = record {
  pairs = p.pairs;
  once = p.once;
  exact = λ j k. subst (λ (s : Scene). (Contains p.pairs (j, k)) ↔ IsLoosePair s (compiled_of m).actions j k) (same_scene m a i)
      (subst (λ (ws : List Action). (Contains p.pairs (j, k)) ↔ IsLoosePair (scene a) ws j k) (same_actions m a i) (p.exact j k));
  counted = p.counted;
}

-- what is said of a module's size
pub says_size : (m : ModuleTree) (b : Built) (before after : List ℕ → Type 0) (rose : Type 0) (s : Status) → ArePartsOf true m b
    → IsWritten (accepted_text (length b.aif.cells) (length b.aif.registers) (loose_in b.pairs)) before after rose s → SaysSize m before after rose s
says_size m b before after rose s p w = by_pairs b.pairs p.pairs_are w
  where
    cells : length b.aif.cells ≡ length (compiled_of m).cells
    cells = sym (length_defined b.aif.cells) ∙ ap (λ (c : Compiled). length c.cells) p.cells_are.compiled_to

    registers : length b.aif.registers ≡ length (compiled_of m).registers
    registers = ap (λ (c : Compiled). length c.registers) p.cells_are.compiled_to

    by_pairs : (ps : Option Pairs) → AreWanted true b.aif ps → IsWritten (accepted_text (length b.aif.cells) (length b.aif.registers) (loose_in ps)) before after rose s → SaysSize m before after rose s
    by_pairs None a v = absurd a
    by_pairs (Some told) a v = record {
      loose = told.count;
      counted = counted_pairs m b.aif told p.cells_are a;
      written = subst (λ (l : List ℕ). IsWritten l before after rose s) (ap₂ (λ (c r : ℕ). accepted_text c r told.count) cells registers) v;
    }

-- what is written of its cells
pub writes_cells : (wants : Bool) (m : ModuleTree) (b : Built) (before after : List ℕ → Type 0) (rose : Type 0) (s : Status) → ArePartsOf wants m b → IsWritten (aif_text b.aif) before after rose s → WritesCells m before after rose s
writes_cells wants m b before after rose s p w = record { aif = b.aif; cells_are = p.cells_are; written = w }

-- what is told of a trace that is converted, by the format and the variables themselves
pub convert_told : (f g : Format) (us vs : Vars) (left left' : Option (List ℕ)) (before after : List ℕ → Type 0) (s : Status) → f ≡ g → us ≡ vs
    → ((trace : List ℕ) → left ≡ Some trace → Converts f us trace most_converted before after left' s) → (trace : List ℕ) → left ≡ Some trace → Converts g vs trace most_converted before after left' s
convert_told f g us vs left left' before after s same_format same_vars told trace e =
    subst (λ (ws : Vars). Converts g ws trace most_converted before after left' s) same_vars
    (subst (λ (h : Format). Converts h us trace most_converted before after left' s) same_format (told trace e))

-- what is told of the cells' variables is told of the module's
pub converts : (wants : Bool) (m : ModuleTree) (b : Built) (f : Format) (left left' : Option (List ℕ)) (before after : List ℕ → Type 0) (input out : Type 0) (s : Status) → ArePartsOf wants m b
    → (s ≡ NoMemory) ⊎ ConvertsAs f b.aif.vars left left' before after input out s → (s ≡ NoMemory) ⊎ ConvertsAs f (resolved_vars m) left left' before after input out s
converts wants m b f left left' before after input out s p h = subst (λ (vs : Vars). (s ≡ NoMemory) ⊎ ConvertsAs f vs left left' before after input out s) p.cells_are.vars_are h

-- ---- a module that is accepted is ready for each task

sized : (n : ℕ) → nat_lt 65536 n ≡ false → n ≤ 65536
sized n h = grind (arith, nat_tests)

pub parts_ready : (strict wants : Bool) (text : List ℕ) (m : ModuleTree) (b : Built) → IsAccepted (scrutiny_of strict) text m → ArePartsOf wants m b → IsReady b
parts_ready strict wants text m b a p =
    let i = p.cells_are in
    let vs : Vars = resolved_vars m in
    let size : length (compiled_of m).cells + length (compiled_of m).registers + input_count vs ≤ 65536 = sized _ (good_can_run (scrutiny_of strict) m (cells_judged strict) a.good).fits in
    let counted : length b.aif.outputs ≡ length (output_types b.aif.vars) = outputs_counted vs (resolved_body m) b.aif (is_compiled m b.aif i) in
    let same : length b.aif.outputs ≡ length (compiled_of m).outputs = ap (λ (c : Compiled). length c.outputs) i.compiled_to in
    let few : length (compiled_of m).outputs ≤ length (compiled_of m).cells = outputs_few vs (term_in m) p.sound in
    let inputs : input_count b.aif.vars ≡ input_count vs = ap (λ (us : Vars). input_count us) i.vars_are in
    record {
      short = record {
        types = subst AreSound (sym i.vars_are) p.sound.types;
        starts = subst (λ (us : Vars). (x : ℕ) → x < length us → Lies (range_of us x) (start_of us x)) (sym i.vars_are) p.sound.starts;
        few = omega (arith, size, counted, same, few);
      };
      ordered = p.ordered;
      outputs = omega (arith, counted);
      inputs = omega (arith, size, inputs);
    }
