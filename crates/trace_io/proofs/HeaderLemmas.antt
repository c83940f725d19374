-- The inputs of a module, and the names of a header.
use Rattle.std.proofs.Common.{◌≡◌, ◌<◌, ◌≤◌, ◌+◌, ◌-◌, ℕ, zero, suc, Bool, true, false, ◌&&◌, ◌||◌, not, ◌==◌, if◌then◌else◌, List, [], ◌∷◌, ◌++◌, length, take, drop, get_or, All, Option, Some, None, refl, sym, ap, ap₂, subst, ◌∙◌, arith, append_assoc, append-nil, length-append}
use Rattle.std.specs.Prelude.{slice_set, replicate, option_map, option_and_then}
use Rattle.std.specs.Str.{bytes_eq}
use Rattle.std.specs.List.{list_any}
use Rattle.std.specs.Bool.{one_answer}
use Rattle.std.proofs.lemmas.Bool.Decides.{Decides-like, nat_tests}
use Rattle.std.proofs.lemmas.Slice.Eq.{bytes_eq-Decides}
use Rattle.std.proofs.lemmas.List.{drop_more, length-set, length-replicate, length-drop}
use Rattle.std.proofs.lemmas.List.Elements.{All-append, All-replicate}
use Rattle.std.proofs.Math.ListN.{drop_of_length-le}
use Rattle.quartz_tree.specs.declared.declare.Base.{Base}
use Rattle.quartz_tree.specs.declared.declare.Var.{Var}
use Rattle.quartz_tree.specs.declared.declare.Flow.TheVariants.{Input}
use Rattle.quartz_expr.specs.Vars.{Vars}
use Rattle.quartz_expr.specs.Intervals.{is_sound_base, is_sound_type}
use Rattle.quartz_expr.specs.Typed.{have_sound_types}
use Rattle.trace_io.specs.declared.field.Field.{Field}
use Rattle.trace_io.specs.Lines.{is_blank, words, text_in, is_short}
use Rattle.trace_io.specs.Inputs.{same_flow, count_in, scalars, types_with, fields_from, fields_named, all_named, and_then_fields, are_different}
use Rattle.trace_io.specs.Reading.{is_header, behind_first, named_by, head}
use Rattle.trace_io.specs.Scan.{AreFields, unblanked, front_word, behind_word}
use Rattle.trace_io.proofs.LineLemmas.{words_unblanked, first_word, no_word, some_words}
use Rattle.trace_io.proofs.FieldLemmas.{fields_sound}
use Rattle.trace_io.proofs.TypeLemmas.{base_sound}
use Rattle.trace_io.specs.Header.{Named, inputs_from, number_named, fields_at, is_marked, names_by, no_marks, header_by, unmarked_count, Listed, Adds}
use Rattle.quartz_expr.proofs.TruthLemmas.{and_parts}

-- one element more
pub field_pushed : (b : Base) (at behind : ℕ) (fs new all : List Field) → at < behind → fs ++ fields_from at (replicate (behind - at) b) ≡ all → new ≡ fs ++ ((record { place = at; base = b }) ∷ [])
    → new ++ fields_from (at + 1) (replicate (behind - (at + 1)) b) ≡ all
field_pushed b at behind fs new all h e f =
    let n : behind - at ≡ suc (behind - (at + 1)) = omega (arith, h) in
    ap (λ (l : List Field). l ++ fields_from (at + 1) (replicate (behind - (at + 1)) b)) f
    ∙ (append_assoc fs ((record { place = at; base = b }) ∷ []) (fields_from (at + 1) (replicate (behind - (at + 1)) b)) ∙ (ap (λ (m : ℕ). fs ++ fields_from at (replicate m b)) (sym n) ∙ e))

pub fields_pushed : (b : Base) (at behind : ℕ) (fs all : List Field) → behind ≤ at → fs ++ fields_from at (replicate (behind - at) b) ≡ all → fs ≡ all
fields_pushed b at behind fs all h e =
    let n : behind - at ≡ 0 = omega (arith, h) in
    sym (append-nil fs) ∙ (ap (λ (m : ℕ). fs ++ fields_from at (replicate m b)) (sym n) ∙ e)

-- one input more
pub input_pushed : (vs : Vars) (i n : ℕ) (d : Var) (is new all : List Named) → i < length vs → is ++ inputs_from n (drop i vs) ≡ all → same_flow Input (get_or vs i d).decl.flow ≡ true
    → new ≡ is ++ ((record { name = (get_or vs i d).decl.name; fields = fields_from n (scalars (get_or vs i d)) }) ∷ []) → new ++ inputs_from (n + count_in (get_or vs i d)) (drop (i + 1) vs) ≡ all
input_pushed vs i n d is new all h e flow f =
    let v = get_or vs i d in
    let x : Named = record { name = v.decl.name; fields = fields_from n (scalars v) } in
    let rest = inputs_from (n + count_in v) (drop (i + 1) vs) in
    let one : inputs_from n (drop i vs) ≡ x ∷ rest = ap (inputs_from n) (drop_more vs i d h) ∙ ap (λ (b : Bool). if b then x ∷ rest else inputs_from n (drop (i + 1) vs)) flow in
    ap (λ (l : List Named). l ++ rest) f ∙ (append_assoc is (x ∷ []) rest ∙ (ap (λ (l : List Named). is ++ l) (sym one) ∙ e))

-- a variable that is no input
pub no_input : (vs : Vars) (i n : ℕ) (d : Var) (is all : List Named) → i < length vs → is ++ inputs_from n (drop i vs) ≡ all → same_flow Input (get_or vs i d).decl.flow ≡ false → is ++ inputs_from n (drop (i + 1) vs) ≡ all
no_input vs i n d is all h e flow =
    let v = get_or vs i d in
    let one : inputs_from n (drop i vs) ≡ inputs_from n (drop (i + 1) vs) =
    ap (inputs_from n) (drop_more vs i d h) ∙ ap (λ (b : Bool). if b then ((record { name = v.decl.name; fields = fields_from n (scalars v) }) ∷ inputs_from (n + count_in v) (drop (i + 1) vs)) else inputs_from n (drop (i + 1) vs)) flow in
    ap (λ (l : List Named). is ++ l) (sym one) ∙ e

pub inputs_pushed : (vs : Vars) (i n : ℕ) (is all : List Named) → length vs ≤ i → is ++ inputs_from n (drop i vs) ≡ all → is ≡ all
inputs_pushed vs i n is all h e = sym (append-nil is) ∙ (ap (λ (l : Vars). is ++ inputs_from n l) (sym (drop_of_length-le vs h)) ∙ e)

-- the number of a name, looked for one input after another

abbrev pub shifted : ℕ → Option ℕ → Option ℕ
shifted k = option_map (λ n. n + k)

pub not_shifted : (x : Option ℕ) → x ≡ shifted 0 x
not_shifted None = refl
not_shifted (Some n) = ap Some (omega arith)

shifted_more : (k : ℕ) (x : Option ℕ) → shifted k (option_map (λ n. suc n) x) ≡ shifted (k + 1) x
shifted_more k None = refl
shifted_more k (Some n) = ap Some (omega arith)

abbrev pub nobody : Named
nobody = record { name = []; fields = [] }

pub name_differs : (is : List Named) (k : ℕ) (name : List ℕ) (x : Option ℕ) → k < length is → x ≡ shifted k (number_named (drop k is) name) → bytes_eq (get_or is k nobody).name name ≡ false
    → x ≡ shifted (k + 1) (number_named (drop (k + 1) is) name)
name_differs is k name x h e f =
    e ∙ (ap (λ (l : List Named). shifted k (number_named l name)) (drop_more is k nobody h)
    ∙ (ap (λ (b : Bool). shifted k (if b then Some 0 else option_map (λ n. suc n) (number_named (drop (k + 1) is) name))) f ∙ shifted_more k (number_named (drop (k + 1) is) name)))

pub name_found : (is : List Named) (k : ℕ) (name : List ℕ) (x : Option ℕ) → k < length is → x ≡ shifted k (number_named (drop k is) name) → bytes_eq (get_or is k nobody).name name ≡ true → Some k ≡ x
name_found is k name x h e f =
    sym (e ∙ (ap (λ (l : List Named). shifted k (number_named l name)) (drop_more is k nobody h) ∙ (ap (λ (b : Bool). shifted k (if b then Some 0 else option_map (λ n. suc n) (number_named (drop (k + 1) is) name))) f ∙ ap Some (omega arith))))

pub no_name : (is : List Named) (k : ℕ) (name : List ℕ) (x : Option ℕ) → length is ≤ k → x ≡ shifted k (number_named (drop k is) name) → None ≡ x
no_name is k name x h e = sym (e ∙ ap (λ (l : List Named). shifted k (number_named l name)) (drop_of_length-le is h))

-- marks

pub marked_at : (ms : List Bool) (n : ℕ) → is_marked ms n ≡ get_or ms n false
marked_at [] zero = refl
marked_at [] (suc n) = refl
marked_at (m ∷ ms) zero = refl
marked_at (m ∷ ms) (suc n) = marked_at ms n

pub fields_of_input : (is : List Named) (n : ℕ) → fields_at is n ≡ (get_or is n nobody).fields
fields_of_input [] zero = refl
fields_of_input [] (suc n) = refl
fields_of_input (i ∷ is) zero = refl
fields_of_input (i ∷ is) (suc n) = fields_of_input is n

-- marks that are written back into a list of the same length
pub marks_back : (new old : List Bool) (n : ℕ) → n ≡ length old → length new ≡ length old → take n (new ++ drop (length new) old) ≡ new
marks_back new old n e f =
    let l : n ≡ length new = e ∙ sym f in
    let m : length old ≤ length new = omega (arith, f) in
    ap₂ (λ (k : ℕ) (rest : List Bool). take k (new ++ rest)) l (drop_of_length-le old m) ∙ (ap (take (length new)) (append-nil new) ∙ whole new)
  where
    whole : (l : List Bool) → take (length l) l ≡ l
    whole [] = refl
    whole (b ∷ bs) = ap (λ (l : List Bool). b ∷ l) (whole bs)

-- a mark takes the elements of its input from those that may still be named
pub count_marked : (is : List Named) (ms : List Bool) (n : ℕ) → length is ≡ length ms → n < length is → is_marked ms n ≡ false → length (fields_at is n) + unmarked_count is (slice_set ms n true) ≡ unmarked_count is ms
count_marked [] ms n l h e = absurd (omega (arith, h))
count_marked (i ∷ is) [] n l h e = absurd (omega (arith, l))
count_marked (i ∷ is) (m ∷ ms) zero l h e = none_before (length i.fields) (unmarked_count is ms) (if m then 0 else length i.fields) (ap (λ (b : Bool). if b then 0 else length i.fields) e)
  where
    none_before : (a u x : ℕ) → x ≡ a → a + (0 + u) ≡ x + u
    none_before a u x k = omega (arith, k)
count_marked (i ∷ is) (m ∷ ms) (suc n) l h e =
    let k : length (fields_at is n) + unmarked_count is (slice_set ms n true) ≡ unmarked_count is ms = count_marked is ms n (omega (arith, l)) (omega (arith, h)) e in
    move (if m then 0 else length i.fields) (length (fields_at is n)) (unmarked_count is (slice_set ms n true)) (unmarked_count is ms) k
  where
    move : (a b d e : ℕ) → b + d ≡ e → b + (a + d) ≡ a + e
    move a b d e k = omega (arith, k)

pub fields_at_sound : (count : ℕ) (is : List Named) (n : ℕ) → All (λ i. AreFields count i.fields) is → AreFields count (fields_at is n)
fields_at_sound count [] n s = λ k d l. absurd (omega (arith, l))
fields_at_sound count (i ∷ is) zero s = s 0 nobody (omega arith)
fields_at_sound count (i ∷ is) (suc n) s = fields_at_sound count is n (λ k d l. s (suc k) d (omega (arith, l)))

pub fields_added : (count : ℕ) (is : List Named) (n : ℕ) (fs new : List Field) → new ≡ fs ++ fields_at is n → All (λ i. AreFields count i.fields) is → AreFields count fs → AreFields count new
fields_added count is n fs new e s f = subst (λ (l : List Field). AreFields count l) (sym e) (All-append (λ f. (f.place < count) × (is_sound_base f.base ≡ true)) fs (fields_at is n) f (fields_at_sound count is n s))

-- one name more is read
pub name_added : (is : List Named) (ms new_ms : List Bool) (fs new_fs : List Field) (w : List ℕ) (ws : List (List ℕ)) → Adds (number_named is w) is ms fs true new_ms new_fs → names_by is ms fs (w ∷ ws) ≡ names_by is new_ms new_fs ws
name_added is ms new_ms fs new_fs w ws a = known (number_named is w) a
  where
    known : (x : Option ℕ) → Adds x is ms fs true new_ms new_fs → option_and_then (λ n. if is_marked ms n then None else names_by is (slice_set ms n true) (fs ++ fields_at is n) ws) x ≡ names_by is new_ms new_fs ws
    known None a = absurd (cc a)
    known (Some n) a = ap (λ (b : Bool). if b then None else names_by is (slice_set ms n true) (fs ++ fields_at is n) ws) a.0 ∙ ap₂ (λ (x : List Bool) (y : List Field). names_by is x y ws) (sym a.1) (sym a.2)

pub name_refused : (is : List Named) (ms new_ms : List Bool) (fs new_fs : List Field) (w : List ℕ) (ws : List (List ℕ)) → Adds (number_named is w) is ms fs false new_ms new_fs → names_by is ms fs (w ∷ ws) ≡ None
name_refused is ms new_ms fs new_fs w ws a = known (number_named is w) a
  where
    known : (x : Option ℕ) → Adds x is ms fs false new_ms new_fs → option_and_then (λ n. if is_marked ms n then None else names_by is (slice_set ms n true) (fs ++ fields_at is n) ws) x ≡ None
    known None a = refl
    known (Some n) a = ap (λ (b : Bool). if b then None else names_by is (slice_set ms n true) (fs ++ fields_at is n) ws) a

-- what came of a name, by its number
pub not_added : (is : List Named) (ms : List Bool) (fs : List Field) (x : Option ℕ) (n : ℕ) → x ≡ Some n → get_or ms n false ≡ true → Adds x is ms fs false ms fs
not_added is ms fs x n e m = subst (λ (y : Option ℕ). Adds y is ms fs false ms fs) (sym e) (marked_at ms n ∙ m)

pub is_added : (is : List Named) (ms : List Bool) (fs new : List Field) (x : Option ℕ) (n : ℕ) → x ≡ Some n → get_or ms n false ≡ false → new ≡ fs ++ (get_or is n nobody).fields → Adds x is ms fs true (slice_set ms n true) new
is_added is ms fs new x n e m f = subst (λ (y : Option ℕ). Adds y is ms fs true (slice_set ms n true) new) (sym e) (marked_at ms n ∙ m, refl, f ∙ ap (λ (l : List Field). fs ++ l) (sym (fields_of_input is n)))

-- there is room for the elements of an input that isn't marked, and then for the others
pub room_left : (is : List Named) (ms : List Bool) (n len room : ℕ) → length is ≡ length ms → n < length is → get_or ms n false ≡ false → len + unmarked_count is ms ≤ room
    → (len + length (get_or is n nobody).fields) + unmarked_count is (slice_set ms n true) ≤ room
room_left is ms n len room l h m r =
    let k : length (fields_at is n) + unmarked_count is (slice_set ms n true) ≡ unmarked_count is ms = count_marked is ms n l h (marked_at ms n ∙ m) in
    let e : length (fields_at is n) ≡ length (get_or is n nobody).fields = ap length (fields_of_input is n) in
    omega (arith, k, e, r)

-- what stands at a number, whatever would stand behind the list
at_number : (is : List Named) (n : ℕ) (d : Named) → n < length is → get_or is n d ≡ get_or is n nobody
at_number [] n d h = absurd (omega (arith, h))
at_number (i ∷ is) zero d h = refl
at_number (i ∷ is) (suc n) d h = at_number is n d (omega (arith, h))

pub found_fields : (is : List Named) (n : ℕ) (d x : Named) (gs : List Field) → n < length is → gs ≡ x.fields → x ≡ get_or is n d → gs ≡ (get_or is n nobody).fields
found_fields is n d x gs h e f = e ∙ ap (λ (i : Named). i.fields) (f ∙ at_number is n d h)

pub elements_fit : (is : List Named) (ms : List Bool) (n : ℕ) (fs gs : List Field) (room : ℕ) → length is ≡ length ms → n < length is → get_or ms n false ≡ false → length fs + unmarked_count is ms ≤ room
    → gs ≡ (get_or is n nobody).fields → length fs + length gs ≤ room
elements_fit is ms n fs gs room l h m r e =
    let k = room_left is ms n (length fs) room l h m r in
    let g : length gs ≡ length (get_or is n nobody).fields = ap length e in
    omega (arith, k, g)

pub room_then : (is : List Named) (ms : List Bool) (n : ℕ) (fs gs new : List Field) (room new_room : ℕ) → length is ≡ length ms → n < length is → get_or ms n false ≡ false → length fs + unmarked_count is ms ≤ room
    → gs ≡ (get_or is n nobody).fields → new ≡ fs ++ gs → room ≤ new_room → length new + unmarked_count is (slice_set ms n true) ≤ new_room
room_then is ms n fs gs new room new_room l h m r e f more =
    let k = room_left is ms n (length fs) room l h m r in
    let g : length gs ≡ length (get_or is n nobody).fields = ap length e in
    let a : length new ≡ length fs + length gs = ap length f ∙ length-append fs gs in
    omega (arith, k, g, a, more)

-- the words of a text from one name to the next

unblanked_twice : (t : List ℕ) → unblanked (unblanked t) ≡ unblanked t
unblanked_twice [] = refl
unblanked_twice (c ∷ cs) = step (is_blank c) refl (unblanked_twice cs)
  where
    step : (b : Bool) → is_blank c ≡ b → unblanked (unblanked cs) ≡ unblanked cs → unblanked (if b then unblanked cs else c ∷ cs) ≡ (if b then unblanked cs else c ∷ cs)
    step true e k = k
    step false e k = ap (λ (b : Bool). if b then unblanked cs else c ∷ cs) e

pub trimmed_twice : (text front : List ℕ) → front ≡ unblanked text → unblanked front ≡ front
trimmed_twice text front e = ap unblanked e ∙ (unblanked_twice text ∙ sym e)

unblanked_shorter : (t : List ℕ) → length (unblanked t) ≤ length t
unblanked_shorter [] = omega arith
unblanked_shorter (c ∷ cs) = step (is_blank c) (unblanked_shorter cs)
  where
    step : (b : Bool) → length (unblanked cs) ≤ length cs → length (if b then unblanked cs else c ∷ cs) ≤ length (c ∷ cs)
    step true k = omega (arith, k)
    step false k = omega arith

pub is_some_text : (rest : List ℕ) (b : Bool) → b ≡ (length rest == 0) → b ≡ false → ¬ (length rest ≡ 0)
is_some_text rest b e f = known (length rest) (sym e ∙ f)
  where
    known : (n : ℕ) → (n == 0) ≡ false → ¬ (n ≡ 0)
    known n k z = grind (arith, nat_tests, k, z)

pub is_no_text : (rest : List ℕ) (b : Bool) → b ≡ (length rest == 0) → b ≡ true → length rest ≡ 0
is_no_text rest b e f = known (length rest) (sym e ∙ f)
  where
    known : (n : ℕ) → (n == 0) ≡ true → n ≡ 0
    known n k = grind (arith, nat_tests, k)

-- a word stands at the front, where that is no blank
pub word_at_front : (rest : List ℕ) (n : ℕ) → unblanked rest ≡ rest → take n rest ≡ front_word rest → drop n rest ≡ behind_word rest → n ≤ length rest → ¬ (length rest ≡ 0) → words rest ≡ take n rest ∷ words (drop n rest)
word_at_front rest n t f b h u = first_word rest rest n (sym t) f b h (λ z. some rest t u (no_word rest rest n (sym t) f z))
  where
    some : (rest : List ℕ) → unblanked rest ≡ rest → ¬ (length rest ≡ 0) → words rest ≡ [] → ⊥
    some [] t u e = u refl
    some (c ∷ cs) t u e = let (w, ws, k) = some_words (c ∷ cs) c cs t in cc (sym k ∙ e)

pub front_shorter : (rest next : List ℕ) (n : ℕ) → unblanked rest ≡ rest → take n rest ≡ front_word rest → n ≤ length rest → ¬ (length rest ≡ 0) → next ≡ unblanked (drop n rest) → length next < length rest
front_shorter rest next n t f h u e =
    let some : ¬ (n ≡ 0) = λ z. none rest t u (no_word rest rest n (sym t) f z) in
    let a : length next ≤ length (drop n rest) = subst (λ (l : List ℕ). length l ≤ length (drop n rest)) (sym e) (unblanked_shorter (drop n rest)) in
    let b : length (drop n rest) ≡ length rest - n = length-drop n rest in
    omega (arith, some, a, b, h)
  where
    none : (rest : List ℕ) → unblanked rest ≡ rest → ¬ (length rest ≡ 0) → words rest ≡ [] → ⊥
    none [] t u e = u refl
    none (c ∷ cs) t u e = let (w, ws, k) = some_words (c ∷ cs) c cs t in cc (sym k ∙ e)

pub words_behind_blanks : (text front : List ℕ) → front ≡ unblanked text → words front ≡ words text
words_behind_blanks text front e = ap words e ∙ words_unblanked text

pub not_listed : (x y : Option (List Field)) (fs : List Field) → x ≡ y → y ≡ None → Listed x false fs
not_listed x y fs e f = rw (e, f) refl

pub all_listed : (x : Option (List Field)) (is : List Named) (ms : List Bool) (fs : List Field) (rest : List ℕ) → x ≡ names_by is ms fs (words rest) → length rest ≡ 0 → Listed x true fs
all_listed x is ms fs rest e h = subst (λ (y : Option (List Field)). Listed y true fs) (sym (e ∙ ap (λ (l : List ℕ). names_by is ms fs (words l)) (empty rest h))) (refl, refl)
  where
    empty : (l : List ℕ) → length l ≡ 0 → l ≡ []
    empty [] h = refl
    empty (c ∷ cs) h = absurd (omega (arith, h))

-- each of the elements of the inputs has a place among all, and a sound type
pub inputs_sound : (count n : ℕ) (vs : Vars) → n + length (types_with Input vs) ≤ count → have_sound_types vs ≡ true → All (λ i. AreFields count i.fields) (inputs_from n vs)
inputs_sound count n [] h s = λ k d l. absurd (omega (arith, l))
inputs_sound count n (v ∷ vs) h s = flow (same_flow Input v.decl.flow) (and_parts (is_sound_type v.decl.ty) (have_sound_types vs) s) h (inputs_sound count (n + count_in v) vs) (inputs_sound count n vs)
  where
    long : length (scalars v ++ types_with Input vs) ≡ count_in v + length (types_with Input vs)
    long = length-append (scalars v) (types_with Input vs) ∙ ap (λ (m : ℕ). m + length (types_with Input vs)) (length-replicate (count_in v) v.decl.ty.base)

    flow : (b : Bool) → (is_sound_type v.decl.ty ≡ true) × (have_sound_types vs ≡ true) → n + length (if b then scalars v ++ types_with Input vs else types_with Input vs) ≤ count
        → (n + count_in v + length (types_with Input vs) ≤ count → have_sound_types vs ≡ true → All (λ i. AreFields count i.fields) (inputs_from (n + count_in v) vs))
        → (n + length (types_with Input vs) ≤ count → have_sound_types vs ≡ true → All (λ i. AreFields count i.fields) (inputs_from n vs))
        → All (λ i. AreFields count i.fields) (if b then ((record { name = v.decl.name; fields = fields_from n (scalars v) }) ∷ inputs_from (n + count_in v) vs) else inputs_from n vs)
    flow true s h k l = first
      where
        within : n + length (scalars v) ≤ count
        within = let m : length (scalars v) ≡ count_in v = length-replicate (count_in v) v.decl.ty.base in let e = long in omega (arith, m, e, h)

        first : All (λ i. AreFields count i.fields) ((record { name = v.decl.name; fields = fields_from n (scalars v) }) ∷ inputs_from (n + count_in v) vs)
        first zero d u = fields_sound n count (scalars v) within (All-replicate (λ b. is_sound_base b ≡ true) (count_in v) v.decl.ty.base (base_sound v s.0))
        first (suc i) d u = k (let e = long in omega (arith, e, h)) s.1 i d (omega (arith, u))
    flow false s h k l = l h s.1

-- before the header all elements may be named
pub count_fields : (n : ℕ) (types : List Base) → length (fields_from n types) ≡ length types
count_fields n [] = refl
count_fields n (b ∷ bs) = ap (λ (m : ℕ). suc m) (count_fields (n + 1) bs)

pub count_unmarked : (n : ℕ) (vs : Vars) → unmarked_count (inputs_from n vs) (no_marks (inputs_from n vs)) ≡ length (types_with Input vs)
count_unmarked n [] = refl
count_unmarked n (v ∷ vs) = flow (same_flow Input v.decl.flow) (count_unmarked (n + count_in v) vs) (count_unmarked n vs)
  where
    flow : (b : Bool) → unmarked_count (inputs_from (n + count_in v) vs) (no_marks (inputs_from (n + count_in v) vs)) ≡ length (types_with Input vs) → unmarked_count (inputs_from n vs) (no_marks (inputs_from n vs)) ≡ length (types_with Input vs)
        → unmarked_count (if b then ((record { name = v.decl.name; fields = fields_from n (scalars v) }) ∷ inputs_from (n + count_in v) vs) else inputs_from n vs)
        (no_marks (if b then ((record { name = v.decl.name; fields = fields_from n (scalars v) }) ∷ inputs_from (n + count_in v) vs) else inputs_from n vs))
        ≡ length (if b then scalars v ++ types_with Input vs else types_with Input vs)
    flow true k l = ap₂ (λ (a b : ℕ). a + b) (count_fields n (scalars v)) k ∙ sym (length-append (scalars v) (types_with Input vs))
    flow false k l = l

-- the names of a header one after another, or all at once

same_bytes : (v w : List ℕ) → bytes_eq v w ≡ true → v ≡ w
same_bytes v w = (bytes_eq-Decides v w).0

same_test : (v w : List ℕ) → bytes_eq v w ≡ bytes_eq w v
same_test v w = one_answer (bytes_eq v w) (bytes_eq w v) (bytes_eq-Decides v w) (Decides-like (bytes_eq w v) sym sym (bytes_eq-Decides w v))

-- an input has one name, and its number is below that of all
same_name : (is : List Named) (v w : List ℕ) (n : ℕ) → number_named is v ≡ Some n → number_named is w ≡ Some n → v ≡ w
same_name [] v w n e f = absurd (cc e)
same_name (i ∷ is) v w n e f = step (bytes_eq i.name v) refl (bytes_eq i.name w) refl (same_name is v w)
  where
    behind : (x y : Option ℕ) (n : ℕ) → option_map (λ n. suc n) x ≡ Some n → option_map (λ n. suc n) y ≡ Some n → (m : ℕ) × (x ≡ Some m) × (y ≡ Some m)
    behind None y n e f = absurd (cc e)
    behind (Some a) None n e f = absurd (cc f)
    behind (Some a) (Some b) n e f = let same : a ≡ b = cc (e, f) in (a, refl, ap Some (sym same))

    zero_first : (x : Option ℕ) (n : ℕ) → Some 0 ≡ Some n → option_map (λ n. suc n) x ≡ Some n → ⊥
    zero_first None n e f = cc f
    zero_first (Some a) n e f = let same : 0 ≡ suc a = cc (e, f) in omega (arith, same)

    step : (a : Bool) → bytes_eq i.name v ≡ a → (b : Bool) → bytes_eq i.name w ≡ b → ((m : ℕ) → number_named is v ≡ Some m → number_named is w ≡ Some m → v ≡ w) → v ≡ w
    step true j true k again = sym (same_bytes i.name v j) ∙ same_bytes i.name w k
    step true j false k again = absurd (zero_first (number_named is w) n
        (sym (ap (λ (t : Bool). if t then Some 0 else option_map (λ n. suc n) (number_named is v)) j) ∙ e)
        (sym (ap (λ (t : Bool). if t then Some 0 else option_map (λ n. suc n) (number_named is w)) k) ∙ f))
    step false j true k again = absurd (zero_first (number_named is v) n
        (sym (ap (λ (t : Bool). if t then Some 0 else option_map (λ n. suc n) (number_named is w)) k) ∙ f)
        (sym (ap (λ (t : Bool). if t then Some 0 else option_map (λ n. suc n) (number_named is v)) j) ∙ e))
    step false j false k again =
        let (m, x, y) = behind (number_named is v) (number_named is w) n
        (sym (ap (λ (t : Bool). if t then Some 0 else option_map (λ n. suc n) (number_named is v)) j) ∙ e)
        (sym (ap (λ (t : Bool). if t then Some 0 else option_map (λ n. suc n) (number_named is w)) k) ∙ f) in
        again m x y

pub number_within : (is : List Named) (w : List ℕ) (n : ℕ) → number_named is w ≡ Some n → n < length is
number_within [] w n e = absurd (cc e)
number_within (i ∷ is) w n e = step (bytes_eq i.name w) refl (number_within is w)
  where
    behind : (x : Option ℕ) → option_map (λ n. suc n) x ≡ Some n → ((m : ℕ) → x ≡ Some m → m < length is) → n < length (i ∷ is)
    behind None e k = absurd (cc e)
    behind (Some m) e k = let same : suc m ≡ n = cc e in let l = k m refl in omega (arith, same, l)

    step : (b : Bool) → bytes_eq i.name w ≡ b → ((m : ℕ) → number_named is w ≡ Some m → m < length is) → n < length (i ∷ is)
    step true j again = let same : 0 ≡ n = cc (sym (ap (λ (t : Bool). if t then Some 0 else option_map (λ n. suc n) (number_named is w)) j) ∙ e) in omega (arith, same)
    step false j again = behind (number_named is w) (sym (ap (λ (t : Bool). if t then Some 0 else option_map (λ n. suc n) (number_named is w)) j) ∙ e) again

-- the marks are those of the names that were read
abbrev Marked : List Named → List Bool → (done : List (List ℕ)) → Type 0
Marked is ms done = (w : List ℕ) (n : ℕ) → number_named is w ≡ Some n → is_marked ms n ≡ list_any (bytes_eq w) done

never_marked : (k n : ℕ) → is_marked (replicate k false) n ≡ false
never_marked zero n = refl
never_marked (suc k) zero = refl
never_marked (suc k) (suc n) = never_marked k n

now_marked : (ms : List Bool) (n : ℕ) → n < length ms → is_marked (slice_set ms n true) n ≡ true
now_marked [] n h = absurd (omega (arith, h))
now_marked (m ∷ ms) zero h = refl
now_marked (m ∷ ms) (suc n) h = now_marked ms n (omega (arith, h))

other_mark : (ms : List Bool) (k n : ℕ) → ¬ (n ≡ k) → is_marked (slice_set ms k true) n ≡ is_marked ms n
other_mark [] k n u = refl
other_mark (m ∷ ms) zero zero u = absurd (u refl)
other_mark (m ∷ ms) zero (suc n) u = refl
other_mark (m ∷ ms) (suc k) zero u = refl
other_mark (m ∷ ms) (suc k) (suc n) u = other_mark ms k n (λ e. u (ap (λ (x : ℕ). suc x) e))

marked_more : (is : List Named) (ms : List Bool) (done : List (List ℕ)) (v : List ℕ) (k : ℕ) → Marked is ms done → number_named is v ≡ Some k → k < length ms → Marked is (slice_set ms k true) (v ∷ done)
marked_more is ms done v k marked e h = λ w n f. step w n f (bytes_eq w v) refl
  where
    step : (w : List ℕ) (n : ℕ) → number_named is w ≡ Some n → (b : Bool) → bytes_eq w v ≡ b → is_marked (slice_set ms k true) n ≡ (bytes_eq w v || list_any (bytes_eq w) done)
    step w n f true j =
        let same : k ≡ n = cc (sym e ∙ (ap (number_named is) (sym (same_bytes w v j)) ∙ f)) in
        ap (is_marked (slice_set ms k true)) (sym same) ∙ (now_marked ms k h ∙ sym (ap (λ (b : Bool). b || list_any (bytes_eq w) done) j))
    step w n f false j =
        let differs : ¬ (n ≡ k) = λ g. cc (sym j ∙ (bytes_eq-Decides w v).1 (same_name is w v k (f ∙ ap Some g) e)) in
        other_mark ms k n differs ∙ (marked w n f ∙ sym (ap (λ (b : Bool). b || list_any (bytes_eq w) done) j))

-- the elements by name and by number
fields_by_number : (n : ℕ) (vs : Vars) (w : List ℕ) → fields_named n vs w ≡ option_map (fields_at (inputs_from n vs)) (number_named (inputs_from n vs) w)
fields_by_number n [] w = refl
fields_by_number n (v ∷ vs) w = flow (same_flow Input v.decl.flow) (fields_by_number (n + count_in v) vs w) (fields_by_number n vs w)
  where
    x : Named
    x = record { name = v.decl.name; fields = fields_from n (scalars v) }

    further : (is : List Named) (y : Option ℕ) → option_map (fields_at is) y ≡ option_map (fields_at (x ∷ is)) (option_map (λ n. suc n) y)
    further is None = refl
    further is (Some m) = refl

    named : (is : List Named) (b : Bool) → fields_named (n + count_in v) vs w ≡ option_map (fields_at is) (number_named is w)
        → (if b then Some (fields_from n (scalars v)) else fields_named (n + count_in v) vs w) ≡ option_map (fields_at (x ∷ is)) (if b then Some 0 else option_map (λ n. suc n) (number_named is w))
    named is true k = refl
    named is false k = k ∙ further is (number_named is w)

    flow : (b : Bool) → fields_named (n + count_in v) vs w ≡ option_map (fields_at (inputs_from (n + count_in v) vs)) (number_named (inputs_from (n + count_in v) vs) w)
        → fields_named n vs w ≡ option_map (fields_at (inputs_from n vs)) (number_named (inputs_from n vs) w)
        → (if b then (if bytes_eq v.decl.name w then Some (fields_from n (scalars v)) else fields_named (n + count_in v) vs w) else fields_named n vs w)
        ≡ option_map (fields_at (if b then (x ∷ inputs_from (n + count_in v) vs) else inputs_from n vs)) (number_named (if b then (x ∷ inputs_from (n + count_in v) vs) else inputs_from n vs) w)
    flow true k l = named (inputs_from (n + count_in v) vs) (bytes_eq v.decl.name w) k
    flow false k l = l

-- none of the words is among those that were read
abbrev are_new : (done words : List (List ℕ)) → Bool
are_new done [] = true
are_new done (w ∷ ws) = not (list_any (bytes_eq w) done) && are_new done ws

new_behind : (w : List ℕ) (done ws : List (List ℕ)) → are_new (w ∷ done) ws ≡ (are_new done ws && not (list_any (bytes_eq w) ws))
new_behind w done [] = refl
new_behind w done (v ∷ vs) =
    ap₂ (λ (a b : Bool). not (a || list_any (bytes_eq v) done) && b) (same_test v w) (new_behind w done vs) ∙ shuffled (bytes_eq w v) (list_any (bytes_eq v) done) (are_new done vs) (list_any (bytes_eq w) vs)
  where
    shuffled : (e x p q : Bool) → (not (e || x) && (p && not q)) ≡ ((not x && p) && not (e || q))
    shuffled true true p q = refl
    shuffled true false true q = refl
    shuffled true false false q = refl
    shuffled false true p q = refl
    shuffled false false p q = refl

all_new : (ws : List (List ℕ)) → are_new [] ws ≡ true
all_new [] = refl
all_new (w ∷ ws) = all_new ws

abbrev names_behind : Vars → (fields : List Field) → (done words : List (List ℕ)) → Option (List Field)
names_behind vs fs done ws = if are_new done ws && are_different ws then option_map (λ gs. fs ++ gs) (all_named vs ws) else None

names_in_turn : (vs : Vars) (ms : List Bool) (fs : List Field) (done ws : List (List ℕ)) → length (inputs_from 0 vs) ≡ length ms → Marked (inputs_from 0 vs) ms done → names_by (inputs_from 0 vs) ms fs ws ≡ names_behind vs fs done ws
names_in_turn vs ms fs done [] l marked = ap Some (sym (append-nil fs))
names_in_turn vs ms fs done (w ∷ ws) l marked = step (λ new_ms gs seen. names_in_turn vs new_ms gs seen ws) (number_named is w) refl
  where
    is : List Named
    is = inputs_from 0 vs

    rest : Bool
    rest = (not (list_any (bytes_eq w) done) && are_new done ws) && (not (list_any (bytes_eq w) ws) && are_different ws)

    nothing : (b : Bool) (f : List Field → List Field) → None ≡ (if b then option_map f None else None)
    nothing true f = refl
    nothing false f = refl

    joined : (gs : List Field) (b d : Bool) (x : Option (List Field)) → b ≡ d → (if b then option_map (λ hs. (fs ++ gs) ++ hs) x else None) ≡ (if d then option_map (λ hs. fs ++ hs) (and_then_fields (Some gs) x) else None)
    joined gs true d None e = rw (sym e) refl
    joined gs true d (Some hs) e = rw (sym e) (ap Some (append_assoc fs gs hs))
    joined gs false d x e = rw (sym e) refl

    ordered : (n p q a : Bool) → n ≡ false → ((p && not q) && a) ≡ ((not n && p) && (not q && a))
    ordered true p q a e = absurd (cc e)
    ordered false true q a e = refl
    ordered false false q a e = refl

    Again : Type 0
    Again = (ms : List Bool) (fs : List Field) (done : List (List ℕ)) → length is ≡ length ms → Marked is ms done → names_by is ms fs ws ≡ names_behind vs fs done ws

    found : Again → (n : ℕ) → number_named is w ≡ Some n → (b : Bool) → is_marked ms n ≡ b
        → (if is_marked ms n then None else names_by is (slice_set ms n true) (fs ++ fields_at is n) ws) ≡ (if rest then option_map (λ gs. fs ++ gs) (and_then_fields (Some (fields_at is n)) (all_named vs ws)) else None)
    found again n e true m =
        ap (λ (b : Bool). if b then None else names_by is (slice_set ms n true) (fs ++ fields_at is n) ws) m
        ∙ ap (λ (b : Bool). if (not b && are_new done ws) && (not (list_any (bytes_eq w) ws) && are_different ws) then option_map (λ gs. fs ++ gs) (and_then_fields (Some (fields_at is n)) (all_named vs ws)) else None) (sym m ∙ marked w n e)
    found again n e false m =
        ap (λ (b : Bool). if b then None else names_by is (slice_set ms n true) (fs ++ fields_at is n) ws) m
        ∙ (again (slice_set ms n true) (fs ++ fields_at is n) (w ∷ done) (l ∙ sym (length-set ms n true)) (marked_more is ms done w n marked e (subst (λ (k : ℕ). n < k) l (number_within is w n e)))
        ∙ joined (fields_at is n) (are_new (w ∷ done) ws && are_different ws) rest (all_named vs ws)
        (ap (λ (b : Bool). b && are_different ws) (new_behind w done ws) ∙ ordered (list_any (bytes_eq w) done) (are_new done ws) (list_any (bytes_eq w) ws) (are_different ws) (sym (marked w n e) ∙ m)))

    step : Again → (x : Option ℕ) → number_named is w ≡ x
        → option_and_then (λ n. if is_marked ms n then None else names_by is (slice_set ms n true) (fs ++ fields_at is n) ws) (number_named is w)
        ≡ (if rest then option_map (λ gs. fs ++ gs) (and_then_fields (fields_named 0 vs w) (all_named vs ws)) else None)
    step again None e =
        ap (option_and_then (λ n. if is_marked ms n then None else names_by is (slice_set ms n true) (fs ++ fields_at is n) ws)) e
        ∙ (nothing rest (λ gs. fs ++ gs) ∙ sym (ap (λ (y : Option (List Field)). if rest then option_map (λ gs. fs ++ gs) (and_then_fields y (all_named vs ws)) else None) (fields_by_number 0 vs w ∙ ap (option_map (fields_at is)) e)))
    step again (Some n) e =
        ap (option_and_then (λ n. if is_marked ms n then None else names_by is (slice_set ms n true) (fs ++ fields_at is n) ws)) e
        ∙ (found again n e (is_marked ms n) refl ∙ sym (ap (λ (y : Option (List Field)). if rest then option_map (λ gs. fs ++ gs) (and_then_fields y (all_named vs ws)) else None) (fields_by_number 0 vs w ∙ ap (option_map (fields_at is)) e)))

names_at_once : (vs : Vars) (ws : List (List ℕ)) → names_by (inputs_from 0 vs) (no_marks (inputs_from 0 vs)) [] ws ≡ named_by vs ws
names_at_once vs ws =
    names_in_turn vs (no_marks (inputs_from 0 vs)) [] [] ws (sym (length-replicate (length (inputs_from 0 vs)) false)) (λ w n e. never_marked (length (inputs_from 0 vs)) n)
    ∙ (ap (λ (b : Bool). if b && are_different ws then option_map (λ gs. gs) (all_named vs ws) else None) (all_new ws) ∙ ap (λ (x : Option (List Field)). if are_different ws then x else None) (same_option (all_named vs ws)))
  where
    same_option : (x : Option (List Field)) → option_map (λ gs. gs) x ≡ x
    same_option None = refl
    same_option (Some gs) = refl

pub header_at_once : (vs : Vars) (line : List ℕ) → header_by (inputs_from 0 vs) line ≡ head vs line
header_at_once vs line = ap (λ (x : Option (List Field)). if is_header line && is_short line then x else None) (names_at_once vs (words (behind_first (text_in line))))
