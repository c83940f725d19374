-- A header that names all inputs in declared order names their elements in order.
use Rattle.std.proofs.Common.{◌≡◌, ◌+◌, ℕ, Bool, true, false, not, ◌&&◌, ◌||◌, if◌then◌else◌, List, [], ◌∷◌, ◌++◌, length, Option, Some, None, refl, sym, ap, ap₂, ◌∙◌, arith}
use Rattle.std.specs.Str.{bytes_eq}
use Rattle.std.specs.List.{list_any}
use Rattle.std.proofs.lemmas.List.{length-replicate}
use Rattle.std.proofs.lemmas.Slice.Eq.{bytes_eq-Decides}
use Rattle.quartz_tree.specs.declared.declare.Base.{Base}
use Rattle.quartz_tree.specs.declared.declare.Flow.TheVariants.{Input}
use Rattle.quartz_tree.specs.declared.declare.Var.{Var}
use Rattle.quartz_expr.specs.Vars.{Vars}
use Rattle.quartz_expr.proofs.TruthLemmas.{and_parts, or_parts}
use Rattle.trace_io.specs.declared.field.Field.{Field}
use Rattle.trace_io.specs.Lines.{words, text_in, is_short}
use Rattle.trace_io.specs.Inputs.{same_flow, count_in, scalars, types_with, input_types, fields_from, fields_named, all_named, and_then_fields, are_different}
use Rattle.trace_io.specs.Reading.{behind_first, named_by, head}
use Rattle.trace_writer.specs.declared.format.Format.TheVariants.{Headed}
use Rattle.trace_writer.specs.Anew.{input_names, new_header, spaced_words}
use Rattle.trace_writer.proofs.BackLemmas.{AreOpen, spaced_open, spaced_back, text_back}
use Rattle.trace_writer.specs.Words.{CanBeNamed}

-- the elements of the inputs with these names, counted from n
abbrev named_from : ℕ → Vars → List (List ℕ) → Option (List Field)
named_from n vs [] = Some []
named_from n vs (w ∷ ws) = and_then_fields (fields_named n vs w) (named_from n vs ws)

from_first : (vs : Vars) (ws : List (List ℕ)) → all_named vs ws ≡ named_from 0 vs ws
from_first vs [] = refl
from_first vs (w ∷ ws) = ap (and_then_fields (fields_named 0 vs w)) (from_first vs ws)

-- a variable with none of these names is passed over
no_input : (n : ℕ) (v : Var) (vs : Vars) (ws : List (List ℕ)) → same_flow Input v.decl.flow ≡ false → named_from n (v ∷ vs) ws ≡ named_from n vs ws
no_input n v vs [] e = refl
no_input n v vs (w ∷ ws) e =
    ap₂ and_then_fields
    (ap (λ (t : Bool). if t then (if bytes_eq v.decl.name w then Some (fields_from n (scalars v)) else fields_named (n + count_in v) vs w) else fields_named n vs w) e)
    (no_input n v vs ws e)

other_name : (n : ℕ) (v : Var) (vs : Vars) (ws : List (List ℕ)) → same_flow Input v.decl.flow ≡ true → list_any (bytes_eq v.decl.name) ws ≡ false → named_from n (v ∷ vs) ws ≡ named_from (n + count_in v) vs ws
other_name n v vs [] e d = refl
other_name n v vs (w ∷ ws) e d =
    let parts = or_parts (bytes_eq v.decl.name w) (list_any (bytes_eq v.decl.name) ws) d in
    ap₂ and_then_fields
    (ap₂ (λ (t u : Bool). if t then (if u then Some (fields_from n (scalars v)) else fields_named (n + count_in v) vs w) else fields_named n vs w) e parts.0)
    (other_name n v vs ws e parts.1)

same_bytes : (w : List ℕ) → bytes_eq w w ≡ true
same_bytes w = (bytes_eq-Decides w w).1 refl

own_name : (n : ℕ) (v : Var) (vs : Vars) → same_flow Input v.decl.flow ≡ true → fields_named n (v ∷ vs) v.decl.name ≡ Some (fields_from n (scalars v))
own_name n v vs e =
    ap₂ (λ (t u : Bool). if t then (if u then Some (fields_from n (scalars v)) else fields_named (n + count_in v) vs v.decl.name) else fields_named n vs v.decl.name) e (same_bytes v.decl.name)

fields_both : (n : ℕ) (bs cs : List Base) → fields_from n bs ++ fields_from (n + length bs) cs ≡ fields_from n (bs ++ cs)
fields_both n [] cs = let e : n + 0 ≡ n = omega arith in ap (λ (m : ℕ). fields_from m cs) e
fields_both n (b ∷ bs) cs =
    let e : n + length (b ∷ bs) ≡ n + 1 + length bs = omega arith in
    ap (λ (fs : List Field). record { place = n; base = b } ∷ fs) (ap (λ (m : ℕ). fields_from (n + 1) bs ++ fields_from m cs) e ∙ fields_both (n + 1) bs cs)

not_any : (a : Bool) → not a ≡ true → a ≡ false
not_any true h = absurd (cc h)
not_any false h = refl

all_from : (n : ℕ) (vs : Vars) → are_different (input_names vs) ≡ true → named_from n vs (input_names vs) ≡ Some (fields_from n (input_types vs))
all_from n [] d = refl
all_from n (v ∷ vs) d = by_flow (same_flow Input v.decl.flow) refl d (all_from n vs) (all_from (n + count_in v) vs)
  where
    together : named_from (n + count_in v) vs (input_names vs) ≡ Some (fields_from (n + count_in v) (input_types vs))
        → and_then_fields (Some (fields_from n (scalars v))) (named_from (n + count_in v) vs (input_names vs)) ≡ Some (fields_from n (scalars v ++ input_types vs))
    together h =
        ap (and_then_fields (Some (fields_from n (scalars v)))) h
        ∙ ap Some (ap (λ (m : ℕ). fields_from n (scalars v) ++ fields_from (n + m) (input_types vs)) (sym (length-replicate (count_in v) v.decl.ty.base)) ∙ fields_both n (scalars v) (input_types vs))

    by_flow : (t : Bool) → same_flow Input v.decl.flow ≡ t → are_different (if t then v.decl.name ∷ input_names vs else input_names vs) ≡ true
        → (are_different (input_names vs) ≡ true → named_from n vs (input_names vs) ≡ Some (fields_from n (input_types vs)))
        → (are_different (input_names vs) ≡ true → named_from (n + count_in v) vs (input_names vs) ≡ Some (fields_from (n + count_in v) (input_types vs)))
        → named_from n (v ∷ vs) (if t then v.decl.name ∷ input_names vs else input_names vs) ≡ Some (fields_from n (if t then scalars v ++ input_types vs else input_types vs))
    by_flow false e d same more = no_input n v vs (input_names vs) e ∙ same d
    by_flow true e d same more =
        let parts = and_parts (not (list_any (bytes_eq v.decl.name) (input_names vs))) (are_different (input_names vs)) d in
        ap₂ and_then_fields (own_name n v vs e) (other_name n v vs (input_names vs) e (not_any (list_any (bytes_eq v.decl.name) (input_names vs)) parts.0))
        ∙ together (more parts.1)

-- the new header names all elements in order
pub header_back : (vs : Vars) → CanBeNamed vs → head vs (new_header Headed vs) ≡ Some (fields_from 0 (input_types vs))
header_back vs c =
    let names = input_names vs in
    let plain : AreOpen (35 ∷ spaced_words names) = (refl, refl, spaced_open names c.words) in
    let text : words (behind_first (text_in (new_header Headed vs))) ≡ names = ap (λ (l : List ℕ). words (behind_first l)) (text_back (35 ∷ spaced_words names) plain) ∙ spaced_back names c.words in
    ap (λ (t : Bool). if t then named_by vs (words (behind_first (text_in (new_header Headed vs)))) else None) c.short
    ∙ (ap (named_by vs) text
    ∙ (ap (λ (t : Bool). if t then all_named vs names else None) c.different
    ∙ (from_first vs names ∙ all_from 0 vs c.different)))
