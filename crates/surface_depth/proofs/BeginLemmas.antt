-- How a builder begins.
use Rattle.std.proofs.Common.{◌≡◌, ℕ, zero, suc, ◌+◌, ◌<◌, ◌≤◌, Bool, true, false, List, [], ◌∷◌, ◌++◌, length, map, replicate, get_or, set, take, Some, refl, sym, ap, ◌∙◌, subst, arith}
use Rattle.std.specs.Prelude.{◌==◌, cond, option_map, slice_get, slice_set}
use Rattle.std.proofs.lemmas.Bool.Decides.{nat_tests}
use Rattle.std.proofs.lemmas.List.{length-map, length-replicate, take_more}
use Rattle.std.proofs.lemmas.List.Sums.{sum_by_push}
use Rattle.quartz_expr.specs.Vars.{Vars, count_of, declared_at}
use Rattle.absence_reaction.specs.Closing.{one_if}
use Rattle.aif_cells.specs.declared.cells.Cell.{Cell as CodeCell}
use Rattle.aif_cells.specs.declared.cells.Made.{Made as MadeCopy}
use Rattle.aif_cells.specs.Built.{Defined, all_defined, defined}
use Rattle.reincarnation.specs.Entering.{copies_of, reserved}
use Rattle.statement_cells.specs.declared.current.Current.{Current}
use Rattle.statement_cells.specs.Expressions.{Copies}
use Rattle.statement_cells.specs.Builder.{Builder as Plain, new_cells, reserve, writes_to}
use Rattle.statement_cells.specs.Whole.{Begun, OutputCopy as PlainOutput, begun, first_copies, nothing_built}
use Rattle.quartz_tree.specs.declared.declare.Flow.{Flow}
use Rattle.quartz_tree.specs.declared.declare.Flow.TheVariants.{Input as In, Output as Out, Inner}
use Rattle.quartz_expr.specs.Steps.{if_output, outputs_from, outputs_of}
use Rattle.statement_builder.specs.declared.builder.Builder.{Builder}
use Rattle.statement_builder.specs.declared.builder.OpenVar.{OpenVar}
use Rattle.statement_builder.specs.Built.{IsBuilt, IsOver, depth_copy, entered_copy, entry, open_copies, open_writes}
use Rattle.surface_depth.specs.declared.beginning.OutputCopy.{OutputCopy}
use Rattle.surface_depth.specs.Begins.{Begins, BeginsAll, output_copy, output_current, unknown, with_copy}
use Rattle.aif_cells.specs.declared.reference.Ref.{Ref}
use Rattle.aif_cells.specs.declared.reference.Ref.TheVariants.{Input, Cell}
use Rattle.reincarnation.specs.Entering.{numbers_from}

pub inputs_more : (first n : ℕ) → map Input (numbers_from first (n + 1)) ≡ map Input (numbers_from first n) ++ Input (first + n) ∷ []
inputs_more first zero = let e : first ≡ first + 0 = omega arith in ap (λ (k : ℕ). Input k ∷ []) e
inputs_more first (suc n) =
    let e : first + 1 + n ≡ first + suc n = omega arith in
    let f : suc n + 1 ≡ suc (n + 1) = omega arith in
    ap (λ (k : ℕ). map Input (numbers_from first k)) f
    ∙ ap (λ (xs : List Ref). Input first ∷ xs) (inputs_more (first + 1) n ∙ ap (λ (k : ℕ). map Input (numbers_from (first + 1) n) ++ Input k ∷ []) e)

-- ---- one copy more

pub with_one : (os : List OpenVar) (x : ℕ) (o : OpenVar) (n : ℕ) → x < length os → o ≡ get_or os x o → Some n ≡ option_map (λ (p : OpenVar). p.copies) (slice_get os x) → set os x (record o { copies = n + 1 }) ≡ with_copy os x
with_one [] x o n h e f = absurd (omega (arith, h))
with_one (p ∷ os) zero o n h e f = ap (λ (k : ℕ). record o { copies = k + 1 } ∷ os) (cc) ∙ ap (λ (q : OpenVar). record q { copies = p.copies + 1 } ∷ os) e
with_one (p ∷ os) (suc x) o n h e f = ap (λ (qs : List OpenVar). p ∷ qs) (with_one os x o n (omega (arith, h)) e f)

counted : (os : List OpenVar) (x y : ℕ) → y < length os → open_copies (slice_get (with_copy os x) y) ≡ open_copies (slice_get os y) + one_if (x == y)
counted [] x y h = absurd (omega (arith, h))
counted (o ∷ os) zero zero h = refl
counted (o ∷ os) zero (suc y) h = let e : (0 == suc y) ≡ false = grind (arith, nat_tests) in let f : one_if (0 == suc y) ≡ 0 = ap one_if e in omega (arith, f)
counted (o ∷ os) (suc x) zero h = let e : (suc x == 0) ≡ false = grind (arith, nat_tests) in let f : one_if (suc x == 0) ≡ 0 = ap one_if e in omega (arith, f)
counted (o ∷ os) (suc x) (suc y) h = let e : (x == y) ≡ (suc x == suc y) = grind (arith, nat_tests) in counted os x y (omega (arith, h)) ∙ ap (λ b. open_copies (slice_get os y) + one_if b) e

unwritten : (os : List OpenVar) (x y : ℕ) (d : Bool) → open_writes d (slice_get (with_copy os x) y) ≡ open_writes d (slice_get os y)
unwritten [] x y d = refl
unwritten (o ∷ os) zero zero true = refl
unwritten (o ∷ os) zero zero false = refl
unwritten (o ∷ os) zero (suc y) d = refl
unwritten (o ∷ os) (suc x) zero d = refl
unwritten (o ∷ os) (suc x) (suc y) d = unwritten os x y d

count_with : (os : List OpenVar) (x : ℕ) → length (with_copy os x) ≡ length os
count_with [] x = refl
count_with (o ∷ os) zero = refl
count_with (o ∷ os) (suc x) = ap suc (count_with os x)

as_one : (b : Bool) → cond b 1 0 ≡ one_if b
as_one true = refl
as_one false = refl

copies_more : (made : List MadeCopy) (m : MadeCopy) (y : ℕ) → copies_of y (made ++ m ∷ []) ≡ copies_of y made + one_if (m.var == y)
copies_more made m y = sum_by_push (λ (c : MadeCopy). cond (c.var == y) 1 0) made m ∙ ap (λ k. copies_of y made + k) (as_one (m.var == y))

length_current : (cs : List Current) (x : ℕ) (c : Current) → length (slice_set cs x c) ≡ length cs
length_current [] x c = refl
length_current (d ∷ cs) zero c = refl
length_current (d ∷ cs) (suc x) c = ap suc (length_current cs x c)

length_all : (cs : List CodeCell) → length (all_defined cs) ≡ length cs
length_all cs = length-map cs defined

-- an output's copy is reserved
pub output_begun : (vs : Vars) (b a : Builder) (o : OutputCopy) → o.cells ≡ numbers_from (length b.aif.cells) (count_of vs o.var)
    → all_defined a.aif.cells ≡ all_defined b.aif.cells ++ replicate (count_of vs o.var) (reserved (declared_at vs o.var))
    → a.aif.made ≡ b.aif.made ++ record { var = o.var; stored = true } ∷ [] → a.copies.items ≡ slice_set b.copies.items o.var (record { copy = 0; values = map Cell o.cells })
    → a.variables.items ≡ with_copy b.variables.items o.var → a.aif.vars ≡ b.aif.vars → a.aif.monitors ≡ b.aif.monitors → a.aif.actions ≡ b.aif.actions
    → a.entries ≡ b.entries → a.stays ≡ b.stays → a.entered ≡ b.entered → a.depths ≡ b.depths → Begins vs b o a
unfolding reserve
output_begun vs b a o numbers cells made current variables vars monitors actions entries stays entered depths = record {
  over = λ h. record {
    vars = vars ∙ h.vars;
    variables = ap length variables ∙ (count_with b.variables.items o.var ∙ h.variables);
    copies = ap length current ∙ (length_current b.copies.items o.var _ ∙ h.copies);
  };
  begun = λ κ β h none.
      let same : length b.aif.cells ≡ length β.cells = sym (length_all b.aif.cells) ∙ ap length h.cells in
      let own : o.cells ≡ new_cells vs o.var β = numbers ∙ ap (λ k. numbers_from k (count_of vs o.var)) same in (
        own,
        record {
          current = current ∙ (ap (λ (cs : List Current). slice_set cs o.var (record { copy = 0; values = map Cell o.cells })) h.current ∙ ap (λ (ns : List ℕ). slice_set κ o.var (record { copy = 0; values = map Cell ns })) own);
          cells = cells ∙ ap (λ (ds : List Defined). ds ++ replicate (count_of vs o.var) (reserved (declared_at vs o.var))) h.cells;
          monitors = monitors ∙ h.monitors;
          actions = actions ∙ h.actions;
          made = made ∙ ap (λ (ms : List MadeCopy). ms ++ record { var = o.var; stored = true } ∷ []) h.made;
          entries = ap (map entry) entries ∙ h.entries;
          stays = ap (map entry) stays ∙ h.stays;
          entered = ap (map entered_copy) entered ∙ h.entered;
          depths = ap (map depth_copy) depths ∙ h.depths;
          writes = λ y d l.
              let n : y < length b.variables.items = subst (λ k. y < k) (ap length variables ∙ count_with b.variables.items o.var) l in
              ap (λ (os : List OpenVar). open_writes d (slice_get os y)) variables ∙ (unwritten b.variables.items o.var y d ∙ (h.writes y d n ∙ ap (writes_to y d) none));
          numbers = λ y l.
              let n : y < length b.variables.items = subst (λ k. y < k) (ap length variables ∙ count_with b.variables.items o.var) l in
              ap (λ (os : List OpenVar). open_copies (slice_get os y)) variables ∙ (counted b.variables.items o.var y n ∙ (ap (λ k. k + one_if (o.var == y)) (h.numbers y n)
              ∙ sym (copies_more β.made (record { var = o.var; stored = true }) y)));
        },
      );
}

-- ---- the outputs

-- an output behind others
abbrev begun_one : Vars → (var : ℕ) → Begun → Begun
begun_one vs x b = record {
  copies = slice_set b.copies x (output_current vs x b.built);
  outputs = b.outputs ++ record { var = x; cells = new_cells vs x b.built } ∷ [];
  built = reserve vs x true b.built;
}

begun_more : (vs : Vars) (xs : List ℕ) (x : ℕ) (κ : Copies) (β : Plain) → begun vs (xs ++ x ∷ []) κ β ≡ begun_one vs x (begun vs xs κ β)
begun_more vs [] x κ β = refl
begun_more vs (y ∷ xs) x κ β =
    ap (λ (b : Begun). record b { outputs = record { var = y; cells = new_cells vs y β } ∷ b.outputs }) (begun_more vs xs x (slice_set κ y (output_current vs y β)) (reserve vs y true β))

outputs_more : (os : List OutputCopy) (o : OutputCopy) → map output_copy (os ++ o ∷ []) ≡ map output_copy os ++ output_copy o ∷ []
outputs_more [] o = refl
outputs_more (p ∷ os) o = ap (λ (qs : List PlainOutput). output_copy p ∷ qs) (outputs_more os o)

pub begins_none : (vs : Vars) (b : Builder) → BeginsAll vs b [] [] b
begins_none vs b = record { over = λ h. h; begun = λ κ β h none. (refl, h, none) }

begins_one : (vs : Vars) (b m a : Builder) (xs : List ℕ) (os : List OutputCopy) (o : OutputCopy) → BeginsAll vs b xs os m → Begins vs m o a → BeginsAll vs b (xs ++ o.var ∷ []) (os ++ o ∷ []) a
unfolding reserve
begins_one vs b m a xs os o all one = record {
  over = λ h. one.over (all.over h);
  begun = λ κ β h none.
      let g : Begun = begun vs xs κ β in
      let p : (map output_copy os ≡ g.outputs) × IsBuilt g.copies [] m g.built × (g.built.writes ≡ []) = all.begun κ β h none in
      let q : (o.cells ≡ new_cells vs o.var g.built) × IsBuilt (slice_set g.copies o.var (output_current vs o.var g.built)) [] a (reserve vs o.var true g.built) = one.begun g.copies g.built p.1 p.2 in
      subst (λ (c : Begun). (map output_copy (os ++ o ∷ []) ≡ c.outputs) × IsBuilt c.copies [] a c.built × (c.built.writes ≡ [])) (sym (begun_more vs xs o.var κ β))
      (outputs_more os o ∙ (ap (λ (ps : List PlainOutput). ps ++ output_copy o ∷ []) p.0 ∙ ap (λ (cs : List ℕ). g.outputs ++ record { var = o.var; cells = cs } ∷ []) q.0), q.1, refl);
}

pub begins_more : (vs : Vars) (b m a : Builder) (xs : List ℕ) (i : ℕ) (os after : List OutputCopy) (o : OutputCopy) → i < length xs → o.var ≡ get_or xs i 0 → after ≡ os ++ o ∷ []
    → BeginsAll vs b (take i xs) os m → Begins vs m o a → BeginsAll vs b (take (i + 1) xs) after a
begins_more vs b m a xs i os after o h e f all one =
    subst (λ (ys : List ℕ). BeginsAll vs b ys after a) (ap (λ k. take i xs ++ k ∷ []) e ∙ sym (take_more xs i 0 h))
    (subst (λ (ps : List OutputCopy). BeginsAll vs b (take i xs ++ o.var ∷ []) ps a) (sym f) (begins_one vs b m a (take i xs) os o all one))

below_at : (n m x j : ℕ) (xs : List ℕ) → n < m → ((k : ℕ) → k < length xs → x ≡ get_or xs k 0 → x < m) → j < length (n ∷ xs) → x ≡ get_or (n ∷ xs) j 0 → x < m
below_at n m x zero xs l f h e = omega (arith, e, l)
below_at n m x (suc j) xs l f h e = f j (omega (arith, h)) e

below_flow : (f : Flow) (n m x i : ℕ) (xs : List ℕ) → n < m → ((k : ℕ) → k < length xs → x ≡ get_or xs k 0 → x < m) → i < length (if_output f n xs) → x ≡ get_or (if_output f n xs) i 0 → x < m
below_flow In n m x i xs l f h e = f i h e
below_flow Inner n m x i xs l f h e = f i h e
below_flow Out n m x i xs l f h e = below_at n m x i xs l f h e

below_from : (us : Vars) (n m x i : ℕ) → i < length (outputs_from n us) → x ≡ get_or (outputs_from n us) i 0 → n + length us ≤ m → x < m
below_from [] n m x i h e l = absurd (omega (arith, h))
below_from (u ∷ us) n m x i h e l = below_flow u.decl.flow n m x i (outputs_from (n + 1) us) (omega (arith, l)) (λ k q r. below_from us (n + 1) m x k q r (omega (arith, l))) h e

pub below_in : (vs : Vars) (x i : ℕ) → i < length (outputs_of vs) → x ≡ get_or (outputs_of vs) i 0 → x < length vs
below_in vs x i h e = below_from vs 0 (length vs) x i h e (omega arith)

pub below_these : (vs : Vars) (xs : List ℕ) (i : ℕ) → xs ≡ outputs_of vs → i < length xs → get_or xs i 0 < length vs
below_these vs xs i e h = below_in vs (get_or xs i 0) i (subst (λ (ys : List ℕ). i < length ys) e h) (ap (λ (ys : List ℕ). get_or ys i 0) e)

-- ---- the start

nothing_written : (n x : ℕ) (d : Bool) → open_writes d (slice_get (replicate n unknown) x) ≡ []
nothing_written zero x d = refl
nothing_written (suc n) zero true = refl
nothing_written (suc n) zero false = refl
nothing_written (suc n) (suc x) d = nothing_written n x d

no_copies : (n x : ℕ) → open_copies (slice_get (replicate n unknown) x) ≡ 0
no_copies zero x = refl
no_copies (suc n) zero = refl
no_copies (suc n) (suc x) = no_copies n x

-- a fresh builder
pub fresh_built : (b : Builder) (κ : Copies) (n : ℕ) → b.copies.items ≡ κ → b.aif.cells ≡ [] → b.aif.monitors ≡ [] → b.aif.actions ≡ [] → b.aif.made ≡ [] → b.entries ≡ [] → b.stays ≡ [] → b.entered ≡ [] → b.depths ≡ []
    → b.variables.items ≡ replicate n unknown → IsBuilt κ [] b nothing_built
fresh_built b κ n current cells monitors actions made entries stays entered depths variables = record {
  current = current;
  cells = ap all_defined cells;
  monitors = monitors;
  actions = actions;
  made = made;
  entries = ap (map entry) entries;
  stays = ap (map entry) stays;
  entered = ap (map entered_copy) entered;
  depths = ap (map depth_copy) depths;
  writes = λ x d l. ap (λ (os : List OpenVar). open_writes d (slice_get os x)) variables ∙ nothing_written n x d;
  numbers = λ x l. ap (λ (os : List OpenVar). open_copies (slice_get os x)) variables ∙ no_copies n x;
}

length_copies : (vs : Vars) (i : ℕ) → length (first_copies vs i) ≡ length vs
length_copies [] i = refl
length_copies (v ∷ vs) i = ap suc (length_copies vs _)

pub fresh_over : (b : Builder) (vs : Vars) → b.aif.vars ≡ vs → b.copies.items ≡ first_copies vs 0 → b.variables.items ≡ replicate (length vs) unknown → IsOver vs b
fresh_over b vs vars copies variables = record {
  vars = vars;
  variables = ap length variables ∙ length-replicate (length vs) unknown;
  copies = ap length copies ∙ length_copies vs 0;
}
