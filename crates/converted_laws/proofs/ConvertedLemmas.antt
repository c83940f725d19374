-- A well-typed module keeps the rule of names, so its parameters differ in their names; its locals are no inputs, since blocks declare
-- them. So its inputs can be named in a header, and as its variables are sound, a converted trace says the same.
use Rattle.std.proofs.Common.{◌≡◌, ◌+◌, ℕ, Bool, true, false, List, [], ◌∷◌, map, Option, Some, None, if◌then◌else◌, refl, ap}
use Rattle.std.proofs.lemmas.List.Elements.{All-head}
use Rattle.quartz_tree.specs.declared.declare.Decl.{Decl}
use Rattle.quartz_tree.specs.declared.declare.Flow.TheVariants.{Input}
use Rattle.quartz_tree.specs.declared.declare.Var.{Var}
use Rattle.quartz_tree.specs.declared.place.Place.{Place}
use Rattle.quartz_tree.specs.Expand.{expanded}
use Rattle.quartz_tree.specs.Least.{least_place}
use Rattle.quartz_tree.specs.Surfaces.{ModuleTree}
use Rattle.quartz_expr.specs.Typed.{AreSound}
use Rattle.quartz_expr.proofs.TruthLemmas.{none_left}
use Rattle.quartz_names.specs.NameRules.{repeated}
use Rattle.quartz_names.specs.Numbering.{locals}
use Rattle.quartz_names.specs.Resolving.{declarations, has_call, module_name_breaks, resolved_body, resolved_vars, variables_from}
use Rattle.quartz_names.specs.Targets.{next_targets}
use Rattle.quartz_names.proofs.NumberedLemmas.{no_place}
use Rattle.quartz_types.specs.Rules.{first_break, with_rule}
use Rattle.quartz_build.specs.Broken.{IsWellTyped, unbuilt}
use Rattle.text_laws.proofs.VerdictLemmas.{well_typed_is_sound}
use Rattle.block_laws.specs.Laws.{AreInner, DeclaresInPlace}
use Rattle.block_laws.proofs.BlockLemmas.{modules_declare_in_place}
use Rattle.trace_io.specs.Inputs.{same_flow}
use Rattle.trace_writer.specs.declared.format.Format.{Format}
use Rattle.trace_writer.specs.declared.format.Format.TheVariants.{Plain, Headed}
use Rattle.trace_writer.specs.Words.{CanBeNamed}
use Rattle.header_laws.specs.Laws.{AreNoInputs}
use Rattle.header_laws.proofs.HeaderLemmas.{parameters_can_be_named}
use Rattle.convert_laws.specs.Laws.{CanBeHeaded}
use Rattle.convert_laws.proofs.SameLemmas.{new_traces_run_the_same, new_traces_say_the_same}
use Rattle.converted_laws.specs.Laws.{ConvertedTextsRunTheSame, ConvertedTextsSayTheSame}

-- ---- names

names_unbroken : (b : Bool) (o : Option Place) (later : Option (ℕ × Place)) → (if b then unbuilt else with_rule 3 o later) ≡ None → o ≡ None
names_unbroken true o later e = absurd (cc)
names_unbroken false None later e = refl
names_unbroken false (Some p) later e = absurd (cc)

params_differ : (text : List ℕ) (m : ModuleTree) → IsWellTyped text m → repeated m.params ≡ []
params_differ text m w =
    let none = names_unbroken (has_call m.body) (least_place (module_name_breaks m)) (first_break (resolved_vars m) (resolved_body m)) w.unbroken in
    (none_left (repeated m.params) _ (no_place (module_name_breaks m) none)).0

-- ---- variables

decls_of : (targets : List ℕ) (n : ℕ) (ds : List Decl) → map (λ (v : Var). v.decl) (variables_from targets n ds) ≡ ds
decls_of targets n [] = refl
decls_of targets n (d ∷ ds) = ap (λ (es : List Decl). d ∷ es) (decls_of targets (n + 1) ds)

no_inputs : (ds : List Decl) → AreInner ds → AreNoInputs ds
no_inputs [] h = tt
no_inputs (d ∷ ds) h = (ap (same_flow Input) h.0, no_inputs ds h.1)

inputs_named : (text : List ℕ) (m : ModuleTree) → IsWellTyped text m → CanBeNamed (resolved_vars m)
inputs_named text m w =
    let read = w.read in
    let place : DeclaresInPlace m = All-head DeclaresInPlace m [] (modules_declare_in_place read.tokens (m ∷ []) read.derives) in
    parameters_can_be_named text read.tokens m [] (locals (expanded m.body)) (resolved_vars m) read.lexes read.derives (params_differ text m w)
    (no_inputs (locals (expanded m.body)) place.inner) (decls_of (next_targets (resolved_body m)) 0 (declarations m))

headed : (f : Format) (text : List ℕ) (m : ModuleTree) → IsWellTyped text m → CanBeHeaded f (resolved_vars m)
headed Plain text m w = tt
headed Headed text m w = inputs_named text m w

sound : (text : List ℕ) (m : ModuleTree) → IsWellTyped text m → AreSound (resolved_vars m)
sound text m w = (well_typed_is_sound text m w).types

-- ---- converted traces

pub converted_texts_say_the_same : ConvertedTextsSayTheSame
converted_texts_say_the_same scrutiny text m f greatest trace a e =
    new_traces_say_the_same f (resolved_vars m) greatest trace (sound text m a.typed) (headed f text m a.typed) e

pub converted_texts_run_the_same : ConvertedTextsRunTheSame
converted_texts_run_the_same scrutiny text m f greatest trace a e most written end =
    new_traces_run_the_same f (resolved_vars m) greatest trace (sound text m a.typed) (headed f text m a.typed) e (resolved_body m) most written end
