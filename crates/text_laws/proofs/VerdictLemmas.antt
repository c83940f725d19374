-- A text has one verdict at most, what a module is compiled to has one text, and a well-typed module meets what its compilation needs.
use Rattle.std.proofs.Common.{◌≡◌, ℕ, ◌+◌, Bool, true, false, List, [], ◌∷◌, ◌++◌, Option, Some, None, if◌then◌else◌, refl, sym, ap, ◌∙◌, codes}
use Rattle.std.specs.Prelude.{decimal}
use Rattle.quartz_tree.specs.declared.declare.Var.{Var}
use Rattle.quartz_tree.specs.declared.place.Place.{Place}
use Rattle.quartz_tree.specs.Least.{least_place}
use Rattle.quartz_tree.specs.Surfaces.{ModuleTree}
use Rattle.quartz_names.specs.Resolving.{has_call, module_name_breaks, resolved_body, resolved_vars}
use Rattle.quartz_names.proofs.NumberedLemmas.{numbered_well}
use Rattle.quartz_types.specs.Rules.{first_break, with_rule}
use Rattle.typed_terms.proofs.TypedLemmas.{sound_module}
use Rattle.aif_cells.specs.declared.aif.Aif.{Aif}
use Rattle.aif_cells.specs.declared.cells.Cell.{Cell}
use Rattle.aif_cells.specs.Built.{Defined, all_defined}
use Rattle.aif_cells.specs.Text.{action_line, aif_text, cell_line, input_lines, local_line, monitor_line, output_lines, register_line, texts, tree_text, vars_text}
use Rattle.statement_cells.specs.Whole.{Compiled}
use Rattle.surface_depth.specs.Compiling.{compiled_in}
use Rattle.quartz_build.specs.Broken.{compiled_of, unbuilt}
use Rattle.quartz_build.specs.Parts.{IsAifOf}
use Rattle.quartz_build.proofs.OneLemmas.{not_refused, one_module, one_refusal}
use Rattle.text_laws.specs.Verdicts.{CellsHaveOneText, TextsHaveOneVerdict, WellTypedModulesAreSound}
use Rattle.text_laws.proofs.CountLemmas.{variables_few}

pub one_verdict : TextsHaveOneVerdict
one_verdict scrutiny text = record { one_refusal = one_refusal scrutiny text; one_module = one_module scrutiny scrutiny text; not_both = not_refused scrutiny text }

-- ---- the text of cells

abbrev defined_line : ℕ → Defined → List ℕ
defined_line n d = (codes "cell c" ++ (decimal n ++ codes " = ")) ++ (tree_text d.tree ++ codes "\n")

cell_lines : (n : ℕ) (cs : List Cell) → texts cell_line n cs ≡ texts defined_line n (all_defined cs)
cell_lines n [] = refl
cell_lines n (c ∷ cs) = ap (λ (rest : List ℕ). cell_line n c ++ rest) (cell_lines (n + 1) cs)

-- the text by a module's name, its variables, and what it is compiled to
abbrev text_by : List ℕ → List Var → Compiled → List ℕ
text_by name vars c =
    (codes "module " ++ (name ++ codes "\n"))
    ++ ((input_lines 0 0 vars ++ (output_lines 0 c.outputs vars ++ texts local_line 0 vars))
    ++ (texts register_line 0 c.registers ++ (texts defined_line 0 c.cells ++ (texts action_line 0 c.actions ++ texts monitor_line 0 c.monitors))))

text_is : (a : Aif) → aif_text a ≡ text_by a.name a.vars (compiled_in a)
text_is a =
    ap (λ (lines : List ℕ). (codes "module " ++ (a.name ++ codes "\n")) ++ (vars_text a ++ (texts register_line 0 a.registers ++ (lines ++ (texts action_line 0 a.actions ++ texts monitor_line 0 a.monitors)))))
    (cell_lines 0 a.cells)

text_of_module : (m : ModuleTree) (a : Aif) → IsAifOf m a → aif_text a ≡ text_by m.name (resolved_vars m) (compiled_of m)
text_of_module m a i =
    text_is a ∙ (ap (λ (name : List ℕ). text_by name a.vars (compiled_in a)) i.name_is
    ∙ (ap (λ (vars : List Var). text_by m.name vars (compiled_in a)) i.vars_are ∙ ap (λ (c : Compiled). text_by m.name (resolved_vars m) c) i.compiled_to))

pub one_text_of_cells : CellsHaveOneText
one_text_of_cells m a b i j = text_of_module m a i ∙ sym (text_of_module m b j)

-- ---- well-typed modules

no_rule : (b : Bool) (p : Option Place) (later : Option (ℕ × Place)) → (if b then unbuilt else with_rule 3 p later) ≡ None → (p ≡ None) × (later ≡ None)
no_rule true p later e = absurd (cc)
no_rule false None later e = (refl, e)
no_rule false (Some p) later e = absurd (cc)

pub well_typed_is_sound : WellTypedModulesAreSound
well_typed_is_sound text m w =
    let parts = no_rule (has_call m.body) (least_place (module_name_breaks m)) (first_break (resolved_vars m) (resolved_body m)) w.unbroken in
    sound_module (resolved_vars m) (resolved_body m) (numbered_well m parts.0 (variables_few text m w.read)) parts.1
