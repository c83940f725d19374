-- The steps of a trace: each value lies in the range of its element's type.
use Rattle.std.proofs.Common.{◌≡◌, ℕ, zero, suc, ◌+◌, ℤ, pos, Bool, true, false, ◌&&◌, if◌then◌else◌, List, [], ◌∷◌, ◌++◌, length, replicate, Option, Some, None, option_map, option_and_then, slice_get, slice_set, refl, sym, ap, subst, ◌∙◌, append_assoc}
use Rattle.std.specs.Str.{bytes_eq}
use Rattle.std.proofs.lemmas.List.{length-append, length-replicate, length_push}
use Rattle.quartz_tree.specs.declared.declare.Base.{Base}
use Rattle.quartz_tree.specs.declared.declare.Flow.TheVariants.{Input}
use Rattle.quartz_expr.specs.Vars.{Vars}
use Rattle.quartz_expr.specs.Intervals.{base_interval, is_in, is_sound_base, is_sound_length, is_sound_type}
use Rattle.quartz_expr.specs.Typed.{have_sound_types}
use Rattle.trace_io.specs.declared.field.Field.{Field}
use Rattle.trace_io.specs.Lines.{words, text_in, is_short}
use Rattle.trace_io.specs.Values.{if_in_range, reads_value, spelled}
use Rattle.trace_io.specs.Inputs.{same_flow, count_in, scalars, types_with, input_types, fields_from, fields_named, all_named, and_then_fields, are_different}
use Rattle.trace_io.specs.Reading.{up_to_none, before_values, reads_values, reads_line, keeps, next_value, reads_fields, reads_next, is_header, behind_first, named_by, head, line_steps, next_steps, zeros, headed_steps, steps_of}
use Rattle.cell_run.specs.Machine.{AreOfTypes}
use Rattle.quartz_expr.proofs.TruthLemmas.{and_parts}
use Rattle.quartz_expr.proofs.RangeLemmas.{zero_in_base}

-- each of these steps that is read has a value for each type
abbrev pub AreStepsOf : List Base → List (Option (List ℤ)) → Type 0
AreStepsOf bs [] = Unit {0}
AreStepsOf bs (None ∷ rest) = AreStepsOf bs rest
AreStepsOf bs (Some zs ∷ rest) = AreOfTypes bs zs × AreStepsOf bs rest

-- ---- a line of format 1

chosen : (b : Base) (z y : ℤ) (t : Bool) → is_in (base_interval b) z ≡ t → (if t then Some z else None) ≡ Some y → is_in (base_interval b) y ≡ true
chosen b z y true e h = let same : z ≡ y = cc h in subst (λ (x : ℤ). is_in (base_interval b) x ≡ true) same e
chosen b z y false e h = absurd (cc h)

in_range_read : (b : Base) (x : Option ℤ) (y : ℤ) → option_and_then (if_in_range b) x ≡ Some y → is_in (base_interval b) y ≡ true
in_range_read b None y h = absurd (cc h)
in_range_read b (Some z) y h = chosen b z y (is_in (base_interval b) z) refl h

value_read : (b : Base) (w : List ℕ) (z : ℤ) → reads_value b w ≡ Some z → is_in (base_interval b) z ≡ true
value_read b w z h = in_range_read b (spelled b w) z h

step_more : (b : Base) (bs : List Base) (x : Option ℤ) (y : Option (List ℤ)) (zs : List ℤ) → ((z : ℤ) → x ≡ Some z → is_in (base_interval b) z ≡ true)
    → ((ys : List ℤ) → y ≡ Some ys → AreOfTypes bs ys) → before_values x y ≡ Some zs → AreOfTypes (b ∷ bs) zs
step_more b bs None None zs f g h = absurd (cc h)
step_more b bs None (Some ys) zs f g h = absurd (cc h)
step_more b bs (Some z) None zs f g h = absurd (cc h)
step_more b bs (Some z) (Some ys) zs f g h =
    let same : z ∷ ys ≡ zs = cc h in
    subst (AreOfTypes (b ∷ bs)) same (f z refl, g ys refl)

values_read : (bs : List Base) (ws : List (List ℕ)) (zs : List ℤ) → reads_values bs ws ≡ Some zs → AreOfTypes bs zs
values_read [] [] zs h = let same : [] ≡ zs = cc h in subst (AreOfTypes []) same tt
values_read [] (w ∷ ws) zs h = absurd (cc h)
values_read (b ∷ bs) [] zs h = absurd (cc h)
values_read (b ∷ bs) (w ∷ ws) zs h = step_more b bs (reads_value b w) (reads_values bs ws) zs (value_read b w) (values_read bs ws) h

if_some : {A : Type 0} → (b : Bool) (x : Option A) (a : A) → (if b then x else None) ≡ Some a → x ≡ Some a
if_some true x a h = h
if_some false x a h = absurd (cc h)

lines_read : (vs : Vars) (ls : List (List ℕ)) → AreStepsOf (input_types vs) (line_steps vs ls)
lines_read vs [] = tt
lines_read vs (line ∷ ls) =
    by_line (lines_read vs ls) (reads_line vs line) (λ zs h. values_read (input_types vs) (words (text_in line)) zs (if_some (is_short line) (reads_values (input_types vs) (words (text_in line))) zs h))
  where
    by_line : AreStepsOf (input_types vs) (line_steps vs ls) → (x : Option (List ℤ)) → ((zs : List ℤ) → x ≡ Some zs → AreOfTypes (input_types vs) zs) → AreStepsOf (input_types vs) (up_to_none x (λ zs. line_steps vs ls))
    by_line rest None f = tt
    by_line rest (Some zs) f = (f zs refl, rest)

-- ---- lines of format 2

-- each of the fields has the type of the element in its place
abbrev AreFieldsOf : List Base → List Field → Type 0
AreFieldsOf bs [] = Unit {0}
AreFieldsOf bs (f ∷ fs) = (slice_get bs f.place ≡ Some f.base) × AreFieldsOf bs fs

value_put : (bs : List Base) (last : List ℤ) (i : ℕ) (b : Base) (z : ℤ) → AreOfTypes bs last → slice_get bs i ≡ Some b → is_in (base_interval b) z ≡ true → AreOfTypes bs (slice_set last i z)
value_put [] [] i b z s e h = tt
value_put [] (y ∷ last) i b z s e h = absurd s
value_put (c ∷ bs) [] i b z s e h = absurd s
value_put (c ∷ bs) (y ∷ last) zero b z s e h = let same : c ≡ b = cc in (subst (λ (x : Base). is_in (base_interval x) z ≡ true) (sym same) h, s.1)
value_put (c ∷ bs) (y ∷ last) (suc i) b z s e h = (s.0, value_put bs last i b z s.1 e h)

value_set : (bs : List Base) (i : ℕ) (b : Base) (last zs : List ℤ) (x : Option ℤ) → AreOfTypes bs last → slice_get bs i ≡ Some b → ((z : ℤ) → x ≡ Some z → is_in (base_interval b) z ≡ true)
    → option_map (λ z. slice_set last i z) x ≡ Some zs → AreOfTypes bs zs
value_set bs i b last zs None s e f h = absurd (cc h)
value_set bs i b last zs (Some z) s e f h = let same : slice_set last i z ≡ zs = cc h in subst (AreOfTypes bs) same (value_put bs last i b z s e (f z refl))

next_step : (bs : List Base) (f : Field) (w : List ℕ) (last zs : List ℤ) → slice_get bs f.place ≡ Some f.base → AreOfTypes bs last → next_value f w last ≡ Some zs → AreOfTypes bs zs
next_step bs f w last zs e s h = by_test (keeps w) h
  where
    by_test : (t : Bool) → (if t then Some last else option_map (λ z. slice_set last f.place z) (reads_value f.base w)) ≡ Some zs → AreOfTypes bs zs
    by_test true h = let same : last ≡ zs = cc h in subst (AreOfTypes bs) same s
    by_test false h = value_set bs f.place f.base last zs (reads_value f.base w) s e (λ z k. value_read f.base w z k) h

fields_read : (bs : List Base) (fs : List Field) (ws : List (List ℕ)) (last zs : List ℤ) → AreFieldsOf bs fs → AreOfTypes bs last → reads_fields fs ws last ≡ Some zs → AreOfTypes bs zs
fields_read bs [] [] last zs b s h = let same : last ≡ zs = cc h in subst (AreOfTypes bs) same s
fields_read bs [] (w ∷ ws) last zs b s h = absurd (cc h)
fields_read bs (f ∷ fs) [] last zs b s h = absurd (cc h)
fields_read bs (f ∷ fs) (w ∷ ws) last zs b s h = by_next (λ ys. fields_read bs fs ws ys zs b.1) (next_value f w last) refl h
  where
    by_next : ((ys : List ℤ) → AreOfTypes bs ys → reads_fields fs ws ys ≡ Some zs → AreOfTypes bs zs) → (x : Option (List ℤ)) → next_value f w last ≡ x → option_and_then (reads_fields fs ws) x ≡ Some zs → AreOfTypes bs zs
    by_next on None e h = absurd (cc h)
    by_next on (Some ys) e h = on ys (next_step bs f w last ys b.0 s e) h

behind_read : (bs : List Base) (fs : List Field) (last : List ℤ) (ls : List (List ℕ)) → AreFieldsOf bs fs → AreOfTypes bs last → AreStepsOf bs (next_steps fs last ls)
behind_read bs fs last [] b s = tt
behind_read bs fs last (line ∷ ls) b s =
    by_line (λ zs. behind_read bs fs zs ls b) (reads_next fs last line) (λ zs h. fields_read bs fs (words (text_in line)) last zs b s (if_some (is_short line) (reads_fields fs (words (text_in line)) last) zs h))
  where
    by_line : ((zs : List ℤ) → AreOfTypes bs zs → AreStepsOf bs (next_steps fs zs ls)) → (x : Option (List ℤ)) → ((zs : List ℤ) → x ≡ Some zs → AreOfTypes bs zs) → AreStepsOf bs (up_to_none x (λ zs. next_steps fs zs ls))
    by_line on None f = tt
    by_line on (Some zs) f = (f zs refl, on zs (f zs refl))

both_fields : (bs : List Base) (fs gs : List Field) → AreFieldsOf bs fs → AreFieldsOf bs gs → AreFieldsOf bs (fs ++ gs)
both_fields bs [] gs a b = b
both_fields bs (f ∷ fs) gs a b = (a.0, both_fields bs fs gs a.1 b)

-- behind so many types, the next one has that place
at_place : (front : List Base) (b : Base) (rest : List Base) → slice_get (front ++ b ∷ rest) (length front) ≡ Some b
at_place [] b rest = refl
at_place (c ∷ front) b rest = at_place front b rest

-- fields that are counted behind a front have the types that stand there
fields_behind : (front xs rest : List Base) (n : ℕ) → n ≡ length front → AreFieldsOf (front ++ (xs ++ rest)) (fields_from n xs)
fields_behind front [] rest n e = tt
fields_behind front (x ∷ xs) rest n e =
    let at : slice_get (front ++ (x ∷ (xs ++ rest))) n ≡ Some x = ap (slice_get (front ++ (x ∷ (xs ++ rest)))) e ∙ at_place front x (xs ++ rest) in
    let shift : (front ++ x ∷ []) ++ (xs ++ rest) ≡ front ++ (x ∷ (xs ++ rest)) = append_assoc front (x ∷ []) (xs ++ rest) in
    (at, subst (λ (bs : List Base). AreFieldsOf bs (fields_from (n + 1) xs)) shift (fields_behind (front ++ x ∷ []) xs rest (n + 1) (longer e)))
  where
    longer : n ≡ length front → n + 1 ≡ length (front ++ x ∷ [])
    longer h = ap (λ (m : ℕ). m + 1) h ∙ sym (length_push front x)

named_behind : (front : List Base) (n : ℕ) (vs : Vars) (name : List ℕ) (fs : List Field) → n ≡ length front → fields_named n vs name ≡ Some fs → AreFieldsOf (front ++ types_with Input vs) fs
named_behind front n [] name fs e h = absurd (cc h)
named_behind front n (v ∷ vs) name fs e h = by_flow (λ before m same found. named_behind before m vs name fs same found) (same_flow Input v.decl.flow) h
  where
    longer : n + count_in v ≡ length (front ++ scalars v)
    longer = ap (λ (m : ℕ). m + count_in v) e ∙ (ap (λ (m : ℕ). length front + m) (sym (length-replicate (count_in v) v.decl.ty.base)) ∙ sym (length-append front (scalars v)))

    by_name : ((before : List Base) (m : ℕ) → m ≡ length before → fields_named m vs name ≡ Some fs → AreFieldsOf (before ++ types_with Input vs) fs)
        → (t : Bool) → (if t then Some (fields_from n (scalars v)) else fields_named (n + count_in v) vs name) ≡ Some fs → AreFieldsOf (front ++ (scalars v ++ types_with Input vs)) fs
    by_name on true found = let same : fields_from n (scalars v) ≡ fs = cc found in subst (AreFieldsOf (front ++ (scalars v ++ types_with Input vs))) same (fields_behind front (scalars v) (types_with Input vs) n e)
    by_name on false found = subst (λ (bs : List Base). AreFieldsOf bs fs) (append_assoc front (scalars v) (types_with Input vs)) (on (front ++ scalars v) (n + count_in v) longer found)

    by_flow : ((before : List Base) (m : ℕ) → m ≡ length before → fields_named m vs name ≡ Some fs → AreFieldsOf (before ++ types_with Input vs) fs)
        → (t : Bool) → (if t then (if bytes_eq v.decl.name name then Some (fields_from n (scalars v)) else fields_named (n + count_in v) vs name) else fields_named n vs name) ≡ Some fs
        → AreFieldsOf (front ++ (if t then scalars v ++ types_with Input vs else types_with Input vs)) fs
    by_flow on true found = by_name on (bytes_eq v.decl.name name) found
    by_flow on false found = on front n e found

all_named_are : (vs : Vars) (names : List (List ℕ)) (fs : List Field) → all_named vs names ≡ Some fs → AreFieldsOf (input_types vs) fs
all_named_are vs [] fs h = let same : [] ≡ fs = cc h in subst (AreFieldsOf (input_types vs)) same tt
all_named_are vs (name ∷ names) fs h = by_both (fields_named 0 vs name) (all_named vs names) (λ gs. named_behind [] 0 vs name gs refl) (λ gs. all_named_are vs names gs) h
  where
    by_both : (x y : Option (List Field)) → ((gs : List Field) → x ≡ Some gs → AreFieldsOf (input_types vs) gs) → ((gs : List Field) → y ≡ Some gs → AreFieldsOf (input_types vs) gs) → and_then_fields x y ≡ Some fs → AreFieldsOf (input_types vs) fs
    by_both None None f g h = absurd (cc h)
    by_both None (Some b) f g h = absurd (cc h)
    by_both (Some a) None f g h = absurd (cc h)
    by_both (Some a) (Some b) f g h = let same : a ++ b ≡ fs = cc h in subst (AreFieldsOf (input_types vs)) same (both_fields (input_types vs) a b (f a refl) (g b refl))

head_fields : (vs : Vars) (line : List ℕ) (fs : List Field) → head vs line ≡ Some fs → AreFieldsOf (input_types vs) fs
head_fields vs line fs h =
    let names : List (List ℕ) = words (behind_first (text_in line)) in
    all_named_are vs names fs (if_some (are_different names) (all_named vs names) fs (if_some (is_header line && is_short line) (named_by vs names) fs h))

-- ---- all steps

-- 0 lies in the range of each type
abbrev pub HaveZero : List Base → Type 0
HaveZero [] = Unit {0}
HaveZero (b ∷ bs) = (is_in (base_interval b) (pos 0) ≡ true) × HaveZero bs

zeros_in : (n : ℕ) (b : Base) → is_sound_base b ≡ true → HaveZero (replicate n b)
zeros_in zero b h = tt
zeros_in (suc n) b h = (zero_in_base b h, zeros_in n b h)

zeros_both : (bs cs : List Base) → HaveZero bs → HaveZero cs → HaveZero (bs ++ cs)
zeros_both [] cs h k = k
zeros_both (b ∷ bs) cs h k = (h.0, zeros_both bs cs h.1 k)

pub have_zero : (vs : Vars) → have_sound_types vs ≡ true → HaveZero (input_types vs)
have_zero [] h = tt
have_zero (v ∷ vs) h =
    let both : (is_sound_type v.decl.ty ≡ true) × (have_sound_types vs ≡ true) = and_parts (is_sound_type v.decl.ty) (have_sound_types vs) h in
    let base_is : (is_sound_base v.decl.ty.base ≡ true) × (is_sound_length v.decl.ty.len ≡ true) = and_parts (is_sound_base v.decl.ty.base) (is_sound_length v.decl.ty.len) both.0 in
    by_flow (same_flow Input v.decl.flow) (zeros_in (count_in v) v.decl.ty.base base_is.0) (have_zero vs both.1)
  where
    by_flow : (t : Bool) → HaveZero (scalars v) → HaveZero (types_with Input vs) → HaveZero (if t then scalars v ++ types_with Input vs else types_with Input vs)
    by_flow true own more = zeros_both (scalars v) (types_with Input vs) own more
    by_flow false own more = more

zeros_are : (bs : List Base) → HaveZero bs → AreOfTypes bs (replicate (length bs) (pos 0))
zeros_are [] h = tt
zeros_are (b ∷ bs) h = (h.0, zeros_are bs h.1)

pub steps_are : (vs : Vars) (ls : List (List ℕ)) → HaveZero (input_types vs) → AreStepsOf (input_types vs) (steps_of vs ls)
steps_are vs [] z = tt
steps_are vs (line ∷ rest) z = by_header (is_header line)
  where
    headed : (x : Option (List Field)) → ((fs : List Field) → x ≡ Some fs → AreFieldsOf (input_types vs) fs) → AreStepsOf (input_types vs) (headed_steps vs x rest)
    headed None f = tt
    headed (Some fs) f = behind_read (input_types vs) fs (zeros vs) rest (f fs refl) (zeros_are (input_types vs) z)

    by_header : (t : Bool) → AreStepsOf (input_types vs) (if t then headed_steps vs (head vs line) rest else line_steps vs (line ∷ rest))
    by_header true = headed (head vs line) (head_fields vs line)
    by_header false = lines_read vs (line ∷ rest)
