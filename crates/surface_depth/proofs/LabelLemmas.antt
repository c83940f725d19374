-- Labels: lists of references by label, and what the labels' registers take over cells alone.
use Rattle.std.proofs.Common.{◌≡◌, ℕ, zero, suc, ◌+◌, ◌<◌, pos, negsuc, Bool, true, false, List, [], ◌∷◌, ◌++◌, length, map, replicate, refl, sym, subst, ap, ◌∙◌, arith}
use Rattle.std.specs.Prelude.{◌==◌, if◌then◌else◌}
use Rattle.std.proofs.lemmas.Bool.Decides.{nat_tests}
use Rattle.aif_cells.specs.declared.reference.Ref.{Ref}
use Rattle.aif_cells.specs.declared.reference.Ref.TheVariants as ref
use Rattle.aif_cells.specs.declared.cells.Register.{Register}
use Rattle.aif_cells.specs.Tree.{Tree, value}
use Rattle.aif_cells.specs.Built.{Defined, join}
use Rattle.reincarnation.specs.Carrying.{Stores, stores, with_next}
use Rattle.statement_cells.specs.Builder.{Builder, Entry, Made, and_of, new, nowhere}
use Rattle.statement_cells.specs.Whole.{label_taken, labels_taken, refs_for, registers_and_cells, staying}
use Rattle.aif_cells.specs.declared.cells.Cell.{Cell as CodeCell}
use Rattle.statement_builder.specs.declared.builder.Builder.{Builder as CodeBuilder}
use Rattle.statement_builder.specs.Built.{IsBuilt, entry}
use Rattle.surface_depth.specs.Labels.{TakesLabels}
use Rattle.surface_depth.specs.Labelling.{Staying, by_label, label_in, labels_in, staying_in, stays_in}
use Rattle.surface_depth.specs.Lists.{pushed}

-- ---- lists by label

pub other : (l m : ℕ) → (l ≡ m → ⊥) → (m == l) ≡ false
other l m h = grind (arith, nat_tests, h)

same : (l m : ℕ) → l ≡ m → (m == l) ≡ true
same l m h = grind (arith, nat_tests, h)

-- the references of a label, with one more entry
refs_more : (l : ℕ) (es : List Entry) (e : Entry) (b : Bool) → (e.label == l) ≡ b → refs_for l (es ++ e ∷ []) ≡ refs_for l es ++ (if b then e.under ∷ [] else [])
refs_more l [] e b h = ap (λ (q : Bool). if q then e.under ∷ [] else []) h
refs_more l (d ∷ es) e b h = at (d.label == l) (refs_for l (es ++ e ∷ [])) (refs_more l es e b h)
  where
    at : (q : Bool) (xs : List Ref) → xs ≡ refs_for l es ++ (if b then e.under ∷ [] else []) → (if q then d.under ∷ xs else xs) ≡ (if q then d.under ∷ refs_for l es else refs_for l es) ++ (if b then e.under ∷ [] else [])
    at true xs k = ap (λ (ys : List Ref). d.under ∷ ys) k
    at false xs k = k

list-append-nil : (xs : List Ref) → xs ++ [] ≡ xs
list-append-nil [] = refl
list-append-nil (x ∷ xs) = ap (λ (ys : List Ref). x ∷ ys) (list-append-nil xs)

-- an entry of a label before the first one changes nothing
label_below : (n l : ℕ) (es : List Entry) (e : Entry) → e.label < l → by_label l n (es ++ e ∷ []) ≡ by_label l n es
label_below zero l es e h = refl
label_below (suc n) l es e h =
    let f : refs_for l (es ++ e ∷ []) ≡ refs_for l es = refs_more l es e false (other l e.label (λ k. omega (arith, h, k))) ∙ list-append-nil (refs_for l es) in
    ap (λ (xs : List Ref). xs ∷ by_label (l + 1) n (es ++ e ∷ [])) f ∙ ap (λ (xs : List (List Ref)). refs_for l es ∷ xs) (label_below n (l + 1) es e (omega (arith, h)))

-- one entry more
pub label_more : (n l k : ℕ) (es : List Entry) (e : Entry) → e.label ≡ l + k → by_label l n (es ++ e ∷ []) ≡ pushed (by_label l n es) k e.under
label_more zero l k es e h = refl
label_more (suc n) l zero es e h =
    let f : refs_for l (es ++ e ∷ []) ≡ refs_for l es ++ e.under ∷ [] = refs_more l es e true (same l e.label (omega (arith, h))) in
    ap (λ (xs : List Ref). xs ∷ by_label (l + 1) n (es ++ e ∷ [])) f ∙ ap (λ (xs : List (List Ref)). (refs_for l es ++ e.under ∷ []) ∷ xs) (label_below n (l + 1) es e (omega (arith, h)))
label_more (suc n) l (suc k) es e h =
    let f : refs_for l (es ++ e ∷ []) ≡ refs_for l es = refs_more l es e false (other l e.label (λ m. omega (arith, h, m))) ∙ list-append-nil (refs_for l es) in
    ap (λ (xs : List Ref). xs ∷ by_label (l + 1) n (es ++ e ∷ [])) f ∙ ap (λ (xs : List (List Ref)). refs_for l es ∷ xs) (label_more n (l + 1) k es e (omega (arith, h)))

-- no label is 0
pub label_none : (n : ℕ) (es : List Entry) (e : Entry) → e.label < 1 → by_label 1 n (es ++ e ∷ []) ≡ by_label 1 n es
label_none n es e h = label_below n 1 es e h

no_entries : (n l : ℕ) → by_label l n [] ≡ replicate n []
no_entries zero l = refl
no_entries (suc n) l = ap (λ (xs : List (List Ref)). [] ∷ xs) (no_entries n (l + 1))

pub begins : (n l : ℕ) → replicate n [] ≡ by_label l n []
begins n l = sym (no_entries n l)

pub count_labels : (n l : ℕ) (es : List Entry) → length (by_label l n es) ≡ n
count_labels zero l es = refl
count_labels (suc n) l es = ap suc (count_labels n (l + 1) es)

-- ---- over cells alone

and_is : (l : ℕ) (r : Ref) (β : Builder) → and_of (ref.Reg l) r β ≡ record { ref = (stays_in l r β.cells).ref; built = record β { cells = (stays_in l r β.cells).cells } }
unfolding and_of new
and_is l (ref.Lit (pos zero)) β = refl
and_is l (ref.Lit (pos (suc n))) β = refl
and_is l (ref.Lit (negsuc n)) β = refl
and_is l (ref.Input i) β = refl
and_is l (ref.Reg i) β = refl
and_is l (ref.Cell i) β = refl

staying_is : (l : ℕ) (rs : List Ref) (β : Builder) → staying l rs β ≡ ((staying_in l rs β.cells).refs, record β { cells = (staying_in l rs β.cells).cells })
staying_is l [] β = refl
staying_is l (r ∷ rs) β =
    ap (λ (m : Made). (m.ref ∷ (staying l rs m.built).0, (staying l rs m.built).1)) (and_is l r β)
    ∙ ap (λ (p : List Ref × Builder). ((stays_in l r β.cells).ref ∷ p.0, p.1)) (staying_is l rs (record β { cells = (stays_in l r β.cells).cells }))

values-append : (xs ys : List Ref) → map value (xs ++ ys) ≡ map value xs ++ map value ys
values-append [] ys = refl
values-append (x ∷ xs) ys = ap (λ (ts : List Tree). value x ∷ ts) (values-append xs ys)

label_is : (l : ℕ) (rs : List Register) (β : Builder) → label_taken l rs β
    ≡ ((label_in l (refs_for l β.entries) (refs_for l β.stays) (registers_and_cells rs β)).registers, record β { cells = (label_in l (refs_for l β.entries) (refs_for l β.stays) (registers_and_cells rs β)).cells })
label_is l rs β =
    let s : Staying = staying_in l (refs_for l β.stays) β.cells in
    ap (λ (p : List Ref × Builder). (with_next rs l (join nowhere (map value (refs_for l β.entries ++ p.0)) p.1.cells).ref, record p.1 { cells = (join nowhere (map value (refs_for l β.entries ++ p.0)) p.1.cells).cells })) (staying_is l (refs_for l β.stays) β)
    ∙ ap (λ (ts : List Tree). (with_next rs l (join nowhere ts s.cells).ref, record β { cells = (join nowhere ts s.cells).cells })) (values-append (refs_for l β.entries) s.refs)

-- what the registers of labels take
pub labels_are : (n l : ℕ) (rs : List Register) (β : Builder) → labels_taken l n rs β
    ≡ ((labels_in l (by_label l n β.entries) (by_label l n β.stays) (registers_and_cells rs β)).registers, record β { cells = (labels_in l (by_label l n β.entries) (by_label l n β.stays) (registers_and_cells rs β)).cells })
labels_are zero l rs β = refl
labels_are (suc n) l rs β =
    let τ : Stores = label_in l (refs_for l β.entries) (refs_for l β.stays) (registers_and_cells rs β) in
    ap (λ (p : List Register × Builder). labels_taken (l + 1) n p.0 p.1) (label_is l rs β) ∙ labels_are n (l + 1) τ.registers (record β { cells = τ.cells })

-- ---- the builder

pub builder_labelled : (b : CodeBuilder) (cs : List CodeCell) (rs rs' : List Register) (n : ℕ) (es ss : List (List Ref)) → es ≡ by_label 1 n (map entry b.entries) → ss ≡ by_label 1 n (map entry b.stays)
    → stores rs' cs ≡ labels_in 1 es ss (stores rs b.aif.cells) → TakesLabels b rs n (record b { aif = record b.aif { cells = cs } }) rs'
builder_labelled b cs rs rs' n es ss e f g = record {
  over = λ vs h. record { vars = h.vars; variables = h.variables; copies = h.copies };
  built = λ κ front β h.
      let τ : Stores = labels_in 1 (by_label 1 n β.entries) (by_label 1 n β.stays) (registers_and_cells rs β) in
      let entries : es ≡ by_label 1 n β.entries = e ∙ ap (by_label 1 n) h.entries in
      let stays : ss ≡ by_label 1 n β.stays = f ∙ ap (by_label 1 n) h.stays in
      let all : stores rs' cs ≡ τ =
      g ∙ (ap (λ (x : List (List Ref)). labels_in 1 x ss (stores rs b.aif.cells)) entries ∙ (ap (λ (x : List (List Ref)). labels_in 1 (by_label 1 n β.entries) x (stores rs b.aif.cells)) stays
      ∙ ap (λ (ds : List Defined). labels_in 1 (by_label 1 n β.entries) (by_label 1 n β.stays) (record { registers = rs; cells = ds })) h.cells)) in
      subst (λ (p : List Register × Builder). (rs' ≡ p.0) × IsBuilt κ front (record b { aif = record b.aif { cells = cs } }) p.1) (sym (labels_are n 1 rs β)) (
        ap (λ (σ : Stores). σ.registers) all,
        record {
          current = h.current;
          cells = ap (λ (σ : Stores). σ.cells) all;
          monitors = h.monitors;
          actions = h.actions;
          made = h.made;
          entries = h.entries;
          stays = h.stays;
          entered = h.entered;
          depths = h.depths;
          writes = h.writes;
          numbers = h.numbers;
        },
      );
}
