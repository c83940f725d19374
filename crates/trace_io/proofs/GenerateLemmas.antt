-- Generated values lie in their types' ranges, and their lines follow one another.
use Rattle.std.proofs.Common.{◌≡◌, ◌<◌, ◌≤◌, ◌+◌, ◌-◌, ◌/◌, ◌%◌, ◌^◌, ◌⊎◌, ◌↔◌, inl, inr, ℕ, zero, suc, ℤ, pos, negsuc, ◌+ℤ◌, ◌-ℤ◌, ◌≤ℤ◌, Bool, true, if◌then◌else◌, List, [], ◌∷◌, ◌++◌, length, take, drop, get_or, All, refl, sym, ap, ap₂, subst, ◌∙◌, arith, append_assoc}
use Rattle.std.specs.Prelude.{unsigned_abs, min, Some}
use Rattle.std.proofs.lemmas.List.{drop_more, drop-append-le, take-append-le, drop-drop, length-drop}
use Rattle.std.proofs.lemmas.Int.{ints}
use Rattle.std.proofs.lemmas.Bool.Decides.{nat_tests}
use Rattle.quartz_tree.specs.declared.declare.Base.{Base}
use Rattle.quartz_expr.specs.Intervals.{Interval, base_interval, is_in, is_sound_base}
use Rattle.trace_io.specs.Values.{in_range, value_text}
use Rattle.trace_io.specs.Writing.{next_number, size_of, drawn, drawn_values, number_behind, all_in_range, line_of_types, rest_of_line, generated_of}
use Rattle.trace_io.specs.Generator.{Generator, bytes_left}
use Rattle.quartz_expr.proofs.RangeLemmas.{base_ordered}

-- one value more
pub drawn_more : (types : List Base) (i s t : ℕ) (d : Base) (z : ℤ) (zs new all : List ℤ) → i < length types → zs ++ drawn_values (drop i types) s ≡ all
    → t ≡ next_number s → z ≡ drawn (base_interval (get_or types i d)) t → new ≡ zs ++ (z ∷ []) → new ++ drawn_values (drop (i + 1) types) t ≡ all
drawn_more types i s t d z zs new all h e n v f =
    let b = base_interval (get_or types i d) in
    ap₂ (λ (l : List ℤ) (m : ℕ). l ++ drawn_values (drop (i + 1) types) m) (f ∙ ap (λ (x : ℤ). zs ++ (x ∷ [])) (v ∙ ap (drawn b) n)) n
    ∙ (append_assoc zs (drawn b (next_number s) ∷ []) (drawn_values (drop (i + 1) types) (next_number s))
    ∙ (ap (λ (bs : List Base). zs ++ drawn_values bs s) (sym (drop_more types i d h)) ∙ e))

pub number_more : (types : List Base) (i s t : ℕ) (d : Base) (n : ℕ) → i < length types → number_behind (drop i types) s ≡ n → t ≡ next_number s → number_behind (drop (i + 1) types) t ≡ n
number_more types i s t d n h e f = ap (number_behind (drop (i + 1) types)) f ∙ (ap (λ (bs : List Base). number_behind bs s) (sym (drop_more types i d h)) ∙ e)

-- a value that is drawn lies in the interval
drawn_lies : (i : Interval) (s : ℕ) → i.low ≤ℤ i.high → is_in i (drawn i s) ≡ true
drawn_lies i s h = lies (s / 2 ^ 33) (size_of i) (sized ((i.high -ℤ i.low) +ℤ pos 1) (omega (arith, ints, h)))
  where
    sized : (z : ℤ) → pos 1 ≤ℤ z → pos (unsigned_abs z) ≡ z
    sized (pos n) k = refl
    sized (negsuc n) k = absurd (omega (arith, ints, k))

    lies : (x n : ℕ) → pos n ≡ (i.high -ℤ i.low) +ℤ pos 1 → is_in i (i.low +ℤ pos (x % n)) ≡ true
    lies x n k = within (x % n) (below x n (omega (arith, ints, k, h)))
      where
        below : (x n : ℕ) → 0 < n → x % n < n
        below x n p = omega arith

        within : (r : ℕ) → r < n → is_in i (i.low +ℤ pos r) ≡ true
        within r p = grind (arith, ints, nat_tests)

drawn_stays : (b : Base) (s : ℕ) → is_sound_base b ≡ true → in_range b (drawn (base_interval b) s) ≡ drawn (base_interval b) s
drawn_stays b s h = ap (λ (t : Bool). if t then drawn (base_interval b) s else pos 0) (drawn_lies (base_interval b) s (base_ordered b h))

pub drawn_in_range : (types : List Base) (s : ℕ) → All (λ b. is_sound_base b ≡ true) types → all_in_range types (drawn_values types s) ≡ drawn_values types s
drawn_in_range [] s h = refl
drawn_in_range (b ∷ bs) s h = ap₂ (λ (z : ℤ) (zs : List ℤ). z ∷ zs) (drawn_stays b (next_number s) (h 0 b (omega arith))) (drawn_in_range bs (next_number s) (λ k d l. h (suc k) d (omega (arith, l))))

-- a line has at least its LF
some_more : (types : List Base) (zs : List ℤ) → 0 < length (rest_of_line types zs)
some_more [] zs = omega arith
some_more (b ∷ bs) [] = omega arith
some_more (b ∷ bs) (z ∷ zs) = omega arith

pub some_line : (types : List Base) (zs : List ℤ) → 0 < length (line_of_types types zs)
some_line [] zs = omega arith
some_line (b ∷ bs) [] = omega arith
some_line (b ∷ bs) (z ∷ zs) = longer (value_text b z) (rest_of_line bs zs) (some_more bs zs)
  where
    longer : (xs ys : List ℕ) → 0 < length ys → 0 < length (xs ++ ys)
    longer [] ys h = h
    longer (x ∷ xs) ys h = omega arith

-- the next line and those behind it are what was to come
pub next_line : (types : List Base) (s s2 m steps : ℕ) (line rest : List ℕ) (zs : List ℤ) → All (λ b. is_sound_base b ≡ true) types → rest ≡ [] → 0 < steps → m ≡ steps - 1
    → line ≡ line_of_types types (all_in_range types zs) → zs ≡ drawn_values types s → s2 ≡ number_behind types s
    → line ++ generated_of types s2 m ≡ rest ++ generated_of types s steps
next_line types s s2 m zero line rest zs all e h k f v w = absurd (omega (arith, h))
next_line types s s2 m (suc n) line rest zs all e h k f v w =
    let same : m ≡ n = omega (arith, k) in
    let is : line ≡ line_of_types types (drawn_values types s) = f ∙ ap (line_of_types types) (ap (all_in_range types) v ∙ drawn_in_range types s all) in
    ap (λ (x : ℕ). line ++ generated_of types x m) w ∙ ap₂ (λ (l : List ℕ) (i : ℕ). l ++ generated_of types (number_behind types s) i) is same ∙ ap (λ (r : List ℕ). r ++ generated_of types s (suc n)) (sym e)

-- what a read takes of the bytes that are to come
pub took : (rest more buf : List ℕ) (n room : ℕ) → 0 < room → (n ≡ room) ⊎ (n ≡ length rest) → n ≤ length rest → take n buf ≡ take n rest → (0 < length rest) ⊎ (rest ++ more ≡ [])
    → (n ≤ length (rest ++ more)) × (drop n rest ++ more ≡ drop n (rest ++ more)) × (take n buf ≡ take n (rest ++ more)) × ((n ≡ 0) ↔ (rest ++ more ≡ []))
took rest more buf n room p which h e begun =
    (longer rest h, sym (drop-append-le n rest more h), e ∙ sym (take-append-le n rest more h), (λ z. none z which begun, λ z. zero_of rest z h))
  where
    longer : (xs : List ℕ) → n ≤ length xs → n ≤ length (xs ++ more)
    longer xs k = let a : length xs ≤ length (xs ++ more) = first xs in omega (arith, k, a)
      where
        first : (xs : List ℕ) → length xs ≤ length (xs ++ more)
        first [] = omega arith
        first (x ∷ xs) = let a : length xs ≤ length (xs ++ more) = first xs in omega (arith, a)

    none : n ≡ 0 → (n ≡ room) ⊎ (n ≡ length rest) → (0 < length rest) ⊎ (rest ++ more ≡ []) → rest ++ more ≡ []
    none z w (inr b) = b
    none z (inl w) (inl b) = absurd (omega (arith, z, w, p))
    none z (inr w) (inl b) = absurd (omega (arith, z, w, b))

    zero_of : (xs : List ℕ) → xs ++ more ≡ [] → n ≤ length xs → n ≡ 0
    zero_of [] z k = omega (arith, k)
    zero_of (x ∷ xs) z k = absurd (cc z)

pub took_all : (line more buf bytes : List ℕ) (at n room size : ℕ) → drop at line ++ more ≡ bytes → 0 < room → n ≡ min room (size - at) → size ≡ length line → at ≤ size → take n buf ≡ take n (drop at line) → (0 < length (drop at line)) ⊎ (bytes ≡ [])
    → (n ≤ length bytes) × (Some (drop (at + n) line ++ more) ≡ Some (drop n bytes)) × (take n buf ≡ take n bytes) × ((n ≡ 0) ↔ (bytes ≡ []))
took_all line more buf bytes at n room size e p h s w c b =
    let long : length (drop at line) ≡ length line - at = length-drop at line in
    let all = took (drop at line) more buf n room p (which n room (size - at) (length (drop at line)) h (omega (arith, long, s))) (omega (arith, h, long, s)) c (begun b) in
    subst (λ (bs : List ℕ). (n ≤ length bs) × (Some (drop (at + n) line ++ more) ≡ Some (drop n bs)) × (take n buf ≡ take n bs) × ((n ≡ 0) ↔ (bs ≡ []))) e
    (all.0, ap Some (ap (λ (l : List ℕ). l ++ more) (sym (drop-drop n at line)) ∙ all.1), all.2, all.3)
  where
    which : (n a b d : ℕ) → n ≡ min a b → b ≡ d → (n ≡ a) ⊎ (n ≡ d)
    which n a b d h e = grind arith

    begun : (0 < length (drop at line)) ⊎ (bytes ≡ []) → (0 < length (drop at line)) ⊎ (drop at line ++ more ≡ [])
    begun (inl x) = inl x
    begun (inr x) = inr (e ∙ x)

pub started : (g h : Generator) (bytes : List ℕ) → g ≡ h → bytes_left h ≡ bytes → (0 < length h.rest) ⊎ (bytes_left h ≡ []) → (0 < length g.rest) ⊎ (bytes ≡ [])
started g h bytes v s (inl x) = inl (subst (λ (k : Generator). 0 < length k.rest) (sym v) x)
started g h bytes v s (inr x) = inr (sym s ∙ x)

take_twice : (n : ℕ) (xs : List ℕ) → take n (take n xs) ≡ take n xs
take_twice zero xs = refl
take_twice (suc n) [] = refl
take_twice (suc n) (x ∷ xs) = ap (λ (l : List ℕ). x ∷ l) (take_twice n xs)

pub copied : (line line2 new rest : List ℕ) (at n : ℕ) → line2 ≡ line → new ≡ take (at + n - at) (drop at line2) → n ≤ length new → take n (new ++ rest) ≡ take n (drop at line)
copied line line2 new rest at n e f h =
    let k : at + n - at ≡ n = omega arith in
    take-append-le n new rest h ∙ (ap (take n) (f ∙ ap₂ (λ (m : ℕ) (l : List ℕ). take m (drop at l)) k e) ∙ take_twice n (drop at line))
