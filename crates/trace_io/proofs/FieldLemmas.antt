-- The elements of types in their order.
use Rattle.std.proofs.Common.{◌≡◌, ◌<◌, ◌≤◌, ◌+◌, ℕ, zero, suc, true, List, [], ◌∷◌, ◌++◌, length, drop, get_or, All, sym, ap, ◌∙◌, arith, append_assoc, append-nil}
use Rattle.std.proofs.lemmas.List.{drop_more}
use Rattle.std.proofs.Math.ListN.{drop_of_length-le}
use Rattle.quartz_tree.specs.declared.declare.Base.{Base}
use Rattle.quartz_expr.specs.Intervals.{is_sound_base}
use Rattle.trace_io.specs.declared.field.Field.{Field}
use Rattle.trace_io.specs.Inputs.{fields_from}
use Rattle.trace_io.specs.Scan.{AreFields}

-- one element more
pub field_more : (types : List Base) (i : ℕ) (d : Base) (fs new all : List Field) → i < length types → fs ++ fields_from i (drop i types) ≡ all → new ≡ fs ++ ((record { place = i; base = get_or types i d }) ∷ [])
    → new ++ fields_from (i + 1) (drop (i + 1) types) ≡ all
field_more types i d fs new all h e f =
    ap (λ (l : List Field). l ++ fields_from (i + 1) (drop (i + 1) types)) f
    ∙ (append_assoc fs ((record { place = i; base = get_or types i d }) ∷ []) (fields_from (i + 1) (drop (i + 1) types)) ∙ (ap (λ (bs : List Base). fs ++ fields_from i bs) (sym (drop_more types i d h)) ∙ e))

pub fields_all : (types : List Base) (i : ℕ) (fs all : List Field) → length types ≤ i → fs ++ fields_from i (drop i types) ≡ all → fs ≡ all
fields_all types i fs all h e = sym (append-nil fs) ∙ (ap (λ (bs : List Base). fs ++ fields_from i bs) (sym (drop_of_length-le types h)) ∙ e)

-- they have different places below their number, and sound types
pub fields_sound : (n count : ℕ) (types : List Base) → n + length types ≤ count → All (λ b. is_sound_base b ≡ true) types → AreFields count (fields_from n types)
fields_sound n count [] h s = λ k d l. absurd (omega (arith, l))
fields_sound n count (b ∷ bs) h s = step (fields_sound (n + 1) count bs (omega (arith, h)) (λ k d l. s (suc k) d (omega (arith, l))))
  where
    step : AreFields count (fields_from (n + 1) bs) → AreFields count (fields_from n (b ∷ bs))
    step r zero d l = (omega (arith, h), s 0 b (omega arith))
    step r (suc k) d l = r k d (omega (arith, l))
