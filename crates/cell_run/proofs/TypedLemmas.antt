-- Values of inputs and outputs, one after another and by variable.
use Rattle.std.proofs.Common.{◌≡◌, ◌+◌, ℕ, zero, suc, ℤ, Bool, true, false, if◌then◌else◌, List, [], ◌∷◌, ◌++◌, length, take, drop, replicate, refl, sym, ap, ap₂, subst, ◌∙◌, arith, append_assoc}
use Rattle.std.proofs.lemmas.List.{length_push}
use Rattle.quartz_tree.specs.declared.declare.Base.{Base}
use Rattle.quartz_tree.specs.declared.declare.Flow.{Flow}
use Rattle.quartz_tree.specs.declared.declare.Flow.TheVariants.{Input, Output, Inner}
use Rattle.quartz_tree.specs.declared.declare.Ty.{Ty}
use Rattle.quartz_tree.specs.declared.declare.Var.{Var}
use Rattle.quartz_expr.specs.Vars.{Vars, count_of}
use Rattle.quartz_expr.specs.Intervals.{Interval, base_interval, is_sound_type, range_of, sound_or_nought, type_interval}
use Rattle.quartz_expr.specs.Typed.{AllLie, Fits, have_sound_types}
use Rattle.quartz_expr.specs.Steps.{after_input, after_output, environment, first_list, if_output, outputs_from, rest_of, shown}
use Rattle.statement_cells.specs.Meaning.{AreInputs, if_input, inputs_from}
use Rattle.statement_cells.specs.Meaning as meaning
use Rattle.trace_io.specs.Inputs.{count_in, input_types, same_flow, scalars, types_with}
use Rattle.trace_io.specs.Story.{by_input, elements}
use Rattle.cell_run.specs.Machine.{AreOfTypes}
use Rattle.quartz_expr.proofs.TruthLemmas.{and_parts}
use Rattle.quartz_expr.proofs.RangeLemmas.{in_lies, lies_in}

-- ---- values of one type

range_is : (t : Ty) → is_sound_type t ≡ true → type_interval t ≡ base_interval t.base
range_is t h = ap (λ (b : Bool). sound_or_nought b (base_interval t.base)) h

-- the first values, which lie in the range, and those behind them
pub record Split (b : Base) (n : ℕ) (bs : List Base) (zs : List ℤ) : Type 0 where
  pub long : length (take n zs) ≡ n
  pub lie : AllLie (base_interval b) (take n zs)
  pub rest : AreOfTypes bs (drop n zs)
  pub whole : take n zs ++ drop n zs ≡ zs

split : (b : Base) (n : ℕ) (bs : List Base) (zs : List ℤ) → AreOfTypes (replicate n b ++ bs) zs → Split b n bs zs
split b zero bs [] h = record { long = refl; lie = tt; rest = h; whole = refl }
split b zero bs (z ∷ zs) h = record { long = refl; lie = tt; rest = h; whole = refl }
split b (suc n) bs [] h = absurd h
split b (suc n) bs (z ∷ zs) h =
    let more : Split b n bs zs = split b n bs zs h.1 in
    record { long = ap suc more.long; lie = (in_lies (base_interval b) z h.0, more.lie); rest = more.rest; whole = ap (λ (ys : List ℤ). z ∷ ys) more.whole }

joined : (b : Base) (n : ℕ) (bs : List Base) (ys zs : List ℤ) → length ys ≡ n → AllLie (base_interval b) ys → AreOfTypes bs zs → AreOfTypes (replicate n b ++ bs) (ys ++ zs)
joined b zero bs [] zs e l h = h
joined b zero bs (y ∷ ys) zs e l h = absurd (omega (arith, e))
joined b (suc n) bs [] zs e l h = absurd (omega (arith, e))
joined b (suc n) bs (y ∷ ys) zs e l h = (lies_in (base_interval b) y l.0, joined b n bs ys zs (omega (arith, e)) l.1 h)

-- ---- inputs

pub count_behind : (q : Vars) (v : Var) (us : Vars) → count_of (q ++ v ∷ us) (length q) ≡ count_in v
count_behind [] v us = refl
count_behind (w ∷ q) v us = count_behind q v us

range_behind : (q : Vars) (v : Var) (us : Vars) → range_of (q ++ v ∷ us) (length q) ≡ type_interval v.decl.ty
range_behind [] v us = refl
range_behind (w ∷ q) v us = range_behind q v us

inputs_behind : (vs : Vars) (us q : Vars) (n : ℕ) (zs : List ℤ) → vs ≡ q ++ us → n ≡ length q → have_sound_types us ≡ true → AreOfTypes (types_with Input us) zs → AreInputs vs (inputs_from n us) (by_input us zs)
inputs_behind vs [] q n [] e a s h = tt
inputs_behind vs [] q n (z ∷ zs) e a s h = absurd h
inputs_behind vs (v ∷ us) q n zs e a s h =
    let sound : (is_sound_type v.decl.ty ≡ true) × (have_sound_types us ≡ true) = and_parts (is_sound_type v.decl.ty) (have_sound_types us) s in
    by_flow v.decl.flow sound.0 (λ ys k. inputs_behind vs us (q ++ v ∷ []) (n + 1) ys (e ∙ sym (append_assoc q (v ∷ []) us)) (ap (λ (m : ℕ). m + 1) a ∙ sym (length_push q v)) sound.1 k) h
  where
    by_flow : (f : Flow) → is_sound_type v.decl.ty ≡ true → ((ys : List ℤ) → AreOfTypes (types_with Input us) ys → AreInputs vs (inputs_from (n + 1) us) (by_input us ys))
        → AreOfTypes (if same_flow Input f then scalars v ++ types_with Input us else types_with Input us) zs
        → AreInputs vs (if_input f n (inputs_from (n + 1) us)) (if same_flow Input f then take (count_in v) zs ∷ by_input us (drop (count_in v) zs) else by_input us zs)
    by_flow Input s on h =
        let parts : Split v.decl.ty.base (count_in v) (types_with Input us) zs = split v.decl.ty.base (count_in v) (types_with Input us) zs h in
        let counted : count_of vs n ≡ count_in v = ap₂ (λ (ws : Vars) (m : ℕ). count_of ws m) e a ∙ count_behind q v us in
        let ranged : range_of vs n ≡ base_interval v.decl.ty.base = ap₂ (λ (ws : Vars) (m : ℕ). range_of ws m) e a ∙ (range_behind q v us ∙ range_is v.decl.ty s) in
        (parts.long ∙ sym counted, subst (λ (i : Interval). AllLie i (take (count_in v) zs)) (sym ranged) parts.lie, on (drop (count_in v) zs) parts.rest)
    by_flow Output s on h = on zs h
    by_flow Inner s on h = on zs h

pub inputs_are : (vs : Vars) (zs : List ℤ) → have_sound_types vs ≡ true → AreOfTypes (input_types vs) zs → AreInputs vs (inputs_from 0 vs) (by_input vs zs)
inputs_are vs zs s h = inputs_behind vs vs [] 0 zs refl refl s h

-- the elements by input are the elements
pub elements_of_inputs : (us : Vars) (zs : List ℤ) → AreOfTypes (types_with Input us) zs → meaning.elements (by_input us zs) ≡ zs
elements_of_inputs [] [] h = refl
elements_of_inputs [] (z ∷ zs) h = absurd h
elements_of_inputs (v ∷ us) zs h = by_flow (same_flow Input v.decl.flow) (elements_of_inputs us) h
  where
    by_flow : (t : Bool) → ((ys : List ℤ) → AreOfTypes (types_with Input us) ys → meaning.elements (by_input us ys) ≡ ys)
        → AreOfTypes (if t then scalars v ++ types_with Input us else types_with Input us) zs
        → meaning.elements (if t then take (count_in v) zs ∷ by_input us (drop (count_in v) zs) else by_input us zs) ≡ zs
    by_flow true on h =
        let parts : Split v.decl.ty.base (count_in v) (types_with Input us) zs = split v.decl.ty.base (count_in v) (types_with Input us) zs h in
        ap (λ (ys : List ℤ). take (count_in v) zs ++ ys) (on (drop (count_in v) zs) parts.rest) ∙ parts.whole
    by_flow false on h = on zs h

-- ---- outputs

shown_output : (v : Var) (ins outs : List (List ℤ)) → v.decl.flow ≡ Output → shown v ins outs ≡ first_list outs
shown_output v ins outs e = rw e refl

pub outputs_are : (us : Vars) (n : ℕ) (ins outs : List (List ℤ)) → have_sound_types us ≡ true → length outs ≡ length (outputs_from n us) → Fits us (environment us ins outs) → AreOfTypes (types_with Output us) (elements outs)
outputs_are [] n ins [] s l f = tt
outputs_are [] n ins (o ∷ outs) s l f = absurd (omega (arith, l))
outputs_are (v ∷ us) n ins outs s l f =
    let sound : (is_sound_type v.decl.ty ≡ true) × (have_sound_types us ≡ true) = and_parts (is_sound_type v.decl.ty) (have_sound_types us) s in
    by_flow v.decl.flow refl sound.0 (λ is os. outputs_are us (n + 1) is os sound.1) (f.counts 0 (omega arith)) (subst (λ (i : Interval). AllLie i (shown v ins outs)) (range_is v.decl.ty sound.0) (f.ranges 0 (omega arith)))
    (record { counts = λ x h. f.counts (suc x) (omega (arith, h)); ranges = λ x h. f.ranges (suc x) (omega (arith, h)) }) l
  where
    by_flow : (g : Flow) → v.decl.flow ≡ g → is_sound_type v.decl.ty ≡ true
        → ((is os : List (List ℤ)) → length os ≡ length (outputs_from (n + 1) us) → Fits us (environment us is os) → AreOfTypes (types_with Output us) (elements os))
        → length (shown v ins outs) ≡ count_in v → AllLie (base_interval v.decl.ty.base) (shown v ins outs)
        → Fits us (environment us (after_input v.decl.flow ins) (after_output v.decl.flow outs)) → length outs ≡ length (if_output v.decl.flow n (outputs_from (n + 1) us))
        → AreOfTypes (types_with Output (v ∷ us)) (elements outs)
    by_flow Input e s on c r f l =
        let fits : Fits us (environment us (rest_of ins) outs) = subst (λ (h : Flow). Fits us (environment us (after_input h ins) (after_output h outs))) e f in
        let long : length outs ≡ length (outputs_from (n + 1) us) = subst (λ (h : Flow). length outs ≡ length (if_output h n (outputs_from (n + 1) us))) e l in
        subst (λ (h : Flow). AreOfTypes (if same_flow Output h then scalars v ++ types_with Output us else types_with Output us) (elements outs)) (sym e) (on (rest_of ins) outs long fits)
    by_flow Inner e s on c r f l =
        let fits : Fits us (environment us ins outs) = subst (λ (h : Flow). Fits us (environment us (after_input h ins) (after_output h outs))) e f in
        let long : length outs ≡ length (outputs_from (n + 1) us) = subst (λ (h : Flow). length outs ≡ length (if_output h n (outputs_from (n + 1) us))) e l in
        subst (λ (h : Flow). AreOfTypes (if same_flow Output h then scalars v ++ types_with Output us else types_with Output us) (elements outs)) (sym e) (on ins outs long fits)
    by_flow Output e s on c r f l =
        let fits : Fits us (environment us ins (rest_of outs)) = subst (λ (h : Flow). Fits us (environment us (after_input h ins) (after_output h outs))) e f in
        let long : length outs ≡ suc (length (outputs_from (n + 1) us)) = subst (λ (h : Flow). length outs ≡ length (if_output h n (outputs_from (n + 1) us))) e l in
        let first : shown v ins outs ≡ first_list outs = shown_output v ins outs e in
        subst (λ (h : Flow). AreOfTypes (if same_flow Output h then scalars v ++ types_with Output us else types_with Output us) (elements outs)) (sym e)
        (with_first outs (ap length (sym first) ∙ c) (subst (AllLie (base_interval v.decl.ty.base)) first r) long (on ins (rest_of outs)) fits)
      where
        with_first : (os : List (List ℤ)) → length (first_list os) ≡ count_in v → AllLie (base_interval v.decl.ty.base) (first_list os) → length os ≡ suc (length (outputs_from (n + 1) us))
            → (length (rest_of os) ≡ length (outputs_from (n + 1) us) → Fits us (environment us ins (rest_of os)) → AreOfTypes (types_with Output us) (elements (rest_of os)))
            → Fits us (environment us ins (rest_of os)) → AreOfTypes (scalars v ++ types_with Output us) (elements os)
        with_first [] c r l on f = absurd (omega (arith, l))
        with_first (o ∷ os) c r l on f = joined v.decl.ty.base (count_in v) (types_with Output us) o (elements os) c r (on (omega (arith, l)) f)
