-- An environment is coherent exactly where its macro step has no fault.
use Rattle.std.proofs.Common.{◌≡◌, ℕ, ◌+◌, ℤ, pos, negsuc, Bool, true, false, ◌||◌, List, [], ◌∷◌, ◌++◌, length, map, Option, Some, None, refl, sym, ap, ap₂, ◌∙◌, arith}
use Rattle.std.proofs.lemmas.Bool.Decides.{nat_tests}
use Rattle.std.specs.Prelude.{not, option_to_list, unwrap_or}
use Rattle.quartz_tree.specs.declared.declare.Storage.{Storage}
use Rattle.quartz_tree.specs.declared.place.Place.{Place}
use Rattle.quartz_tree.specs.declared.fault.Kind.TheVariants.{Conflict}
use Rattle.quartz_expr.specs.declared.act.Act.{Act}
use Rattle.quartz_expr.specs.declared.act.Kept.{Kept}
use Rattle.quartz_expr.specs.Values.{same_value}
use Rattle.quartz_expr.specs.Vars.{Vars, storage_of, declared_at}
use Rattle.quartz_expr.specs.Faults.{fault_if}
use Rattle.quartz_expr.specs.Terms.{Store}
use Rattle.quartz_expr.specs.Resolve.{writes_of, first_of_all, absence, resolved, differs_from, conflicts, resolved_store, store_conflicts, values_of}
use Rattle.quartz_expr.specs.Steps.{State, next_stores, output_conflicts, outputs_of, Macro, state_after}
use Rattle.quartz_expr.specs.Coherent.{AllEqual, IsAgreed, AreAgreed, OutputsAgree, IsCoherent}
use Rattle.quartz_expr.proofs.LawLemmas.{same_refl}
use Rattle.quartz_expr.proofs.TruthLemmas.{none_left, heads}

pub same_is : (y z : ℤ) → same_value y z ≡ true → y ≡ z
same_is (pos m) (pos n) e = let f : m ≡ n = grind (arith, nat_tests, e) in ap pos f
same_is (pos m) (negsuc n) e = absurd (cc)
same_is (negsuc m) (pos n) e = absurd (cc)
same_is (negsuc m) (negsuc n) e = let f : m ≡ n = grind (arith, nat_tests, e) in ap negsuc f

no_fault : (b : Bool) (p : Place) → fault_if b Conflict p ≡ [] → b ≡ false
no_fault true p e = absurd (cc)
no_fault false p e = refl

-- values that equal this one, and values of which none differs from it
equal_same : (z : ℤ) (ys : List ℤ) → AllEqual z ys → differs_from z ys ≡ false
equal_same z [] h = refl
equal_same z (y ∷ ys) h = rw (ap (λ y. same_value y z) h.0 ∙ same_refl z) (equal_same z ys h.1)

neither : (a b : Bool) → (not a || b) ≡ false → (a ≡ true) × (b ≡ false)
neither true b e = (refl, e)
neither false b e = absurd (cc)

same_equal : (z : ℤ) (ys : List ℤ) → differs_from z ys ≡ false → AllEqual z ys
same_equal z [] e = tt
same_equal z (y ∷ ys) e =
    let f = neither (same_value y z) (differs_from z ys) e in
    (same_is y z f.0, same_equal z ys f.1)

-- ---- one element

agreed_resolves : (s : Storage) (k : Kept) (z : ℤ) (now next : List ℤ) → IsAgreed s k z now next → z ≡ resolved s k now
agreed_resolves s k z now next h = at k.pending now h.written h.absent
  where
    at : (p : Option ℤ) (now : List ℤ) → AllEqual z (option_to_list p ++ now) → (option_to_list p ++ now ≡ [] → z ≡ absence s k.value) → z ≡ unwrap_or p (unwrap_or (first_of_all now) (absence s k.value))
    at (Some y) now w a = sym w.0
    at None (y ∷ ys) w a = sym w.0
    at None [] w a = a refl

agreed_now : (z : ℤ) (p : Option ℤ) (now : List ℤ) → AllEqual z (option_to_list p ++ now) → AllEqual z now
agreed_now z None now w = w
agreed_now z (Some y) now w = w.1

agreed_sound : (p : Place) (s : Storage) (k : Kept) (z : ℤ) (now next : List ℤ) → IsAgreed s k z now next → conflicts p z now next ≡ []
agreed_sound p s k z now next h = rw (equal_same z now (agreed_now z k.pending now h.written), h.delayed) refl

sound_agrees : (p : Place) (s : Storage) (k : Kept) (z : ℤ) (now next : List ℤ) → z ≡ resolved s k now → conflicts p z now next ≡ [] → IsAgreed s k z now next
sound_agrees p s k z now next e f =
    let g = none_left (fault_if (differs_from z now) Conflict p) _ f in
    let w = same_equal z now (no_fault _ p g.0) in
    record {
      written = whole k.pending now e w;
      absent = quiet k.pending now e;
      delayed = no_fault _ p g.1;
    }
  where
    whole : (o : Option ℤ) (now : List ℤ) → z ≡ unwrap_or o (unwrap_or (first_of_all now) (absence s k.value)) → AllEqual z now → AllEqual z (option_to_list o ++ now)
    whole None now e w = w
    whole (Some y) now e w = (sym e, w)

    quiet : (o : Option ℤ) (now : List ℤ) → z ≡ unwrap_or o (unwrap_or (first_of_all now) (absence s k.value)) → option_to_list o ++ now ≡ [] → z ≡ absence s k.value
    quiet None [] e n = e
    quiet None (y ∷ ys) e n = absurd (cc)
    quiet (Some y) now e n = absurd (cc)

-- ---- a variable

joined_none : {A : Type 0} (xs ys : List A) → xs ≡ [] → ys ≡ [] → xs ++ ys ≡ []
joined_none xs ys e f = ap₂ (λ a b. a ++ b) e f

all_agreed : (p : Place) (s : Storage) (x : ℕ) (ws : List Act) (n : ℕ) (ks : Store) (zs : List ℤ) → AreAgreed s x ws n ks zs
    → (zs ≡ values_of (resolved_store s x ws n ks)) × (store_conflicts p x ws n zs ≡ [])
all_agreed p s x ws n [] [] h = (refl, refl)
all_agreed p s x ws n (k ∷ ks) (z ∷ zs) h =
    let r = all_agreed p s x ws (n + 1) ks zs h.1 in
    (ap₂ (λ a b. a ∷ b) (agreed_resolves s k z _ _ h.0) r.0, joined_none (conflicts p z (writes_of x n false ws) (writes_of x n true ws)) _ (agreed_sound p s k z _ _ h.0) r.1)
all_agreed p s x ws n [] (z ∷ zs) h = absurd h
all_agreed p s x ws n (k ∷ ks) [] h = absurd h

all_sound : (p : Place) (s : Storage) (x : ℕ) (ws : List Act) (n : ℕ) (ks : Store) (zs : List ℤ) → zs ≡ values_of (resolved_store s x ws n ks) → store_conflicts p x ws n zs ≡ []
    → AreAgreed s x ws n ks zs
all_sound p s x ws n [] [] e f = tt
all_sound p s x ws n (k ∷ ks) (z ∷ zs) e f =
    let g = none_left (conflicts p z (writes_of x n false ws) (writes_of x n true ws)) _ f in
    let h = heads z _ zs _ e in
    (sound_agrees p s k z _ _ h.0 g.0, all_sound p s x ws (n + 1) ks zs h.1 g.1)
all_sound p s x ws n [] (z ∷ zs) e f = absurd (cc)
all_sound p s x ws n (k ∷ ks) [] e f = absurd (cc)

-- ---- all outputs

outputs_agreed : (vs : Vars) (xs : List ℕ) (ws : List Act) (ss : List Store) (os : List (List ℤ)) → OutputsAgree vs xs ws ss os
    → (os ≡ map values_of (next_stores vs xs ws ss)) × (output_conflicts vs xs ws os ≡ [])
outputs_agreed vs [] ws [] [] h = (refl, refl)
outputs_agreed vs (x ∷ xs) ws (s ∷ ss) (o ∷ os) h =
    let r = outputs_agreed vs xs ws ss os h.1 in
    let a = all_agreed (declared_at vs x) (storage_of vs x) x ws 0 s o h.0 in
    (ap₂ (λ a b. a ∷ b) a.0 r.0, joined_none (store_conflicts (declared_at vs x) x ws 0 o) _ a.1 r.1)
outputs_agreed vs [] ws (s ∷ ss) os h = absurd h
outputs_agreed vs [] ws [] (o ∷ os) h = absurd h
outputs_agreed vs (x ∷ xs) ws [] os h = absurd h
outputs_agreed vs (x ∷ xs) ws (s ∷ ss) [] h = absurd h

outputs_sound : (vs : Vars) (xs : List ℕ) (ws : List Act) (ss : List Store) (os : List (List ℤ)) → length ss ≡ length xs
    → os ≡ map values_of (next_stores vs xs ws ss) → output_conflicts vs xs ws os ≡ [] → OutputsAgree vs xs ws ss os
outputs_sound vs [] ws [] [] l e f = tt
outputs_sound vs (x ∷ xs) ws (s ∷ ss) (o ∷ os) l e f =
    let g = none_left (store_conflicts (declared_at vs x) x ws 0 o) _ f in
    let h = heads o _ os _ e in
    (all_sound (declared_at vs x) (storage_of vs x) x ws 0 s o h.0 g.0, outputs_sound vs xs ws ss os (omega arith) h.1 g.1)
outputs_sound vs [] ws [] (o ∷ os) l e f = absurd (cc)
outputs_sound vs [] ws (s ∷ ss) os l e f = absurd (omega arith)
outputs_sound vs (x ∷ xs) ws [] os l e f = absurd (omega arith)
outputs_sound vs (x ∷ xs) ws (s ∷ ss) [] l e f = absurd (cc)

-- ---- a macro step

pub coherent_steps : (vs : Vars) (s : State) (ins outs : List (List ℤ)) → IsCoherent vs s ins outs → (next : State) × Macro vs s ins outs next []
coherent_steps vs s ins outs h =
    let a = outputs_agreed vs (outputs_of vs) h.reaction.acts s.stores outs h.agrees in (
      state_after vs s h.reaction,
      record {
        reaction = h.reaction;
        reacts = h.reacts;
        resolved = a.0;
        goes = refl;
        fails = sym (joined_none h.reaction.faults _ h.sound a.1);
      },
    )

pub step_coheres : (vs : Vars) (s : State) (ins outs : List (List ℤ)) (next : State) → length s.stores ≡ length (outputs_of vs) → Macro vs s ins outs next [] → IsCoherent vs s ins outs
step_coheres vs s ins outs next l m =
    let f = none_left m.reaction.faults _ (sym m.fails) in
    record {
      reaction = m.reaction;
      reacts = m.reacts;
      sound = f.0;
      agrees = outputs_sound vs (outputs_of vs) m.reaction.acts s.stores outs l m.resolved f.1;
    }
