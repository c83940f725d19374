-- How a run of a scope comes from a run of its body.
use Rattle.std.proofs.Common.{◌≡◌, ℕ, zero, suc, ◌+◌, ◌≤◌, ◌<◌, ◌&&◌, not, nat_lt, ℤ, Bool, true, false, List, [], ◌∷◌, ◌++◌, length, map, Option, Some, None, refl, sym, ap, ap₂, ◌∙◌, subst, arith}
use Rattle.std.specs.Prelude.{slice_set}
use Rattle.std.proofs.lemmas.Bool.Decides.{nat_tests}
use Rattle.quartz_tree.specs.declared.place.Place.{Place}
use Rattle.quartz_tree.specs.declared.fault.Fault.{Fault}
use Rattle.quartz_tree.specs.declared.declare.Storage.{Storage}
use Rattle.quartz_expr.specs.declared.act.Act.{Act}
use Rattle.quartz_expr.specs.Values.{Values}
use Rattle.quartz_expr.specs.Vars.{Vars, count_of, declared_at, storage_of}
use Rattle.quartz_expr.specs.Terms.{Store, Term, scope}
use Rattle.quartz_expr.specs.React.{AllResolved, Met, meetings, of_scope, scoped, unless_ended}
use Rattle.quartz_expr.specs.Resolve.{absent, fresh_store, given_store, others, resolved_store, store_conflicts, values_of}
use Rattle.absence_reaction.specs.declared.copy.Shape.{Shape}
use Rattle.statement_cells.specs.Labels.{labels, registers, scope_registers}
use Rattle.statement_cells.specs.Stands.{Marks, Registers, at, kept_from, plain, plain_store, some, store_in}
use Rattle.statement_cells.specs.Walk.{Bounded, Holds, Runs, Takes, TakesIn, Trail, else_takes, met_if, no_marks, no_takes, or_else, takes_if}
use Rattle.statement_cells.proofs.MarkLemmas.{some_none, takes_both, takes_left, takes_none, takes_right}
use Rattle.statement_cells.proofs.TrailLemmas.{else_none}
use Rattle.statement_cells.proofs.BoolLemmas.{and_false}
use Rattle.statement_cells.proofs.ScopeTakesLemmas.{free_before, if_in}
use Rattle.statement_cells.proofs.ScopeCloseLemmas.{scope_trail}

-- ---- lists

length_values : (st : Storage) (x : ℕ) (ws : List Act) (n : ℕ) (s : Store) → length (values_of (resolved_store st x ws n s)) ≡ length s
length_values st x ws n [] = refl
length_values st x ws n (k ∷ s) = ap suc (length_values st x ws (n + 1) s)

pub length_kept : (s : Shape) (k : Registers) (v j n : ℕ) → length (kept_from s k v j n) ≡ n
length_kept s k v j zero = refl
length_kept s k v j (suc n) = ap suc (length_kept s k v (j + 1) n)

no_conflicts : (p : Place) (x n : ℕ) (zs : List ℤ) → store_conflicts p x [] n zs ≡ []
no_conflicts p x n [] = refl
no_conflicts p x n (z ∷ zs) = no_conflicts p x (n + 1) zs

-- without acts the wanted values are those of the store that advanced
advanced_is : (st : Storage) (x n : ℕ) (s : Store) → given_store x [] n (values_of (resolved_store st x [] n s)) ≡ map (absent st) s
advanced_is st x n [] = refl
advanced_is st x n (k ∷ s) = ap (λ l. absent st k ∷ l) (advanced_is st x (n + 1) s)

-- each given value is the wanted one
resolved_apart : (x : ℕ) (zs us : List ℤ) (ms : List Met) → length zs ≡ length us → AllResolved (meetings x zs us ++ ms) → (zs ≡ us) × AllResolved ms
resolved_apart x [] [] ms e h = (refl, h)
resolved_apart x [] (u ∷ us) ms e h = absurd (omega (arith, e))
resolved_apart x (z ∷ zs) [] ms e h = absurd (omega (arith, e))
resolved_apart x (z ∷ zs) (u ∷ us) ms e h = let r = resolved_apart x zs us ms (omega (arith, e)) h.1 in (ap₂ (λ a l. a ∷ l) h.0 r.0, r.1)

some_labels : (m : Marks) (l n : ℕ) → some m l n ≡ true → n ≡ zero → ⊥
unfolding some
some_labels m l zero h e = absurd (cc)
some_labels m l (suc n) h e = absurd (omega (arith, e))

-- ---- registers

-- what takes of a range takes nothing behind it
free_behind : (v a b : ℕ) (f g : Takes) → TakesIn v a f → TakesIn (v + a) b g → (r : ℕ) (z : ℤ) → f r ≡ Some z → g r ≡ None
free_behind v a b f g p q r z e = at (nat_lt r (v + a)) refl
  where
    wrong : None ≡ Some z → ⊥
    wrong e = cc

    less : nat_lt r (v + a) ≡ true → r < v + a
    less h = grind (arith, nat_tests, h)

    more : nat_lt r (v + a) ≡ false → v + a ≤ r
    more h = grind (arith, nat_tests, h)

    at : (t : Bool) → nat_lt r (v + a) ≡ t → g r ≡ None
    at true h = q.below r (less h)
    at false h = absurd (wrong (sym (p.above r (more h)) ∙ e))

-- what a scope takes and what its body takes are held apart
held_apart : (v n b : ℕ) (f g a d : Takes) (k : Registers) → TakesIn v n f → TakesIn v n g → TakesIn (v + n) b a → TakesIn (v + n) b d
    → Holds (else_takes (else_takes a f) (else_takes d g)) k → Holds (else_takes a d) k × Holds (else_takes f g) k
held_apart v n b f g a d k inf ing ina ind h = (λ r z e. body r z e, λ r z e. own r z e)
  where
    body : (r : ℕ) (z : ℤ) → else_takes a d r ≡ Some z → k r ≡ z
    body r z e =
        let both : TakesIn (v + n) b (else_takes a d) = takes_both (v + n) b a d ina ind in
        h r z (ap₂ (λ p q. or_else (or_else (a r) p) (or_else (d r) q)) (free_before v n b f (else_takes a d) inf both r z e) (free_before v n b g (else_takes a d) ing both r z e)
        ∙ ap₂ or_else (else_none (a r)) (else_none (d r)) ∙ e)

    own : (r : ℕ) (z : ℤ) → else_takes f g r ≡ Some z → k r ≡ z
    own r z e =
        let both : TakesIn v n (else_takes f g) = takes_both v n f g inf ing in
        h r z (ap₂ (λ p q. or_else (or_else p (f r)) (or_else q (g r))) (free_behind v n b (else_takes f g) a both ina r z e) (free_behind v n b (else_takes f g) d both ind r z e) ∙ e)

-- a closed copy of a scope: it resolves from a store and the body's acts, and for what its registers take the new store stands
pub record Closes (vs : Vars) (x v : ℕ) (t : Term) (s : Store) (ws : List Act) (given wanted : List ℤ) (fs : List Fault) (f : Takes) : Type 0 where
  pub count : length given ≡ count_of vs x
  pub stored : length s ≡ count_of vs x
  pub wants : wanted ≡ values_of (resolved_store (storage_of vs x) x ws 0 s)
  pub conflicts : given ≡ wanted → fs ≡ store_conflicts (declared_at vs x) x ws 0 given
  pub within : TakesIn v (scope_registers vs (labels t) x) f
  pub stands : (labels t ≡ zero → ⊥) → (k : Registers) → Holds f k → store_in vs x k v ≡ plain_store vs x (given_store x ws 0 given)

module _ (vs : Vars) (env : Values) (x : ℕ) (t : Term) (l v : ℕ) (given wanted : List ℤ) (fs : List Fault) (f : Takes) where
  abbrev own : ℕ
  own = scope_registers vs (labels t) x

  many : (s : Store) (ws : List Act) → Closes vs x v t s ws given wanted fs f → length given ≡ length wanted
  many s ws c = c.count ∙ sym c.stored ∙ sym (length_values (storage_of vs x) x ws 0 s) ∙ ap length (sym c.wants)

  -- the faults of a scope: those of the body, and the conflicts
  scope_faults : (s : Store) (ws us : List Act) (gs hs : List Fault) (ms : List Met) → Closes vs x v t s us given wanted fs f → ws ≡ us → (AllResolved ms → gs ≡ hs)
      → AllResolved (meetings x given wanted ++ ms) → gs ++ store_conflicts (declared_at vs x) x ws 0 given ≡ hs ++ fs
  scope_faults s ws us gs hs ms c e h all =
      let r = resolved_apart x given wanted ms (many s us c) all in
      ap₂ (λ a b. a ++ store_conflicts (declared_at vs x) x b 0 given) (h r.1) e ∙ ap (λ l. hs ++ l) (sym (c.conflicts r.0))

  idle_faults : (s : Store) (ws : List Act) (hs : List Fault) → Closes vs x v t s ws given wanted fs f → given ≡ wanted → ws ≡ [] → hs ≡ [] → hs ++ fs ≡ []
  idle_faults s ws hs c e w h = ap₂ (λ a b. a ++ b) h (c.conflicts e ∙ ap (λ a. store_conflicts (declared_at vs x) x a 0 given) w ∙ no_conflicts (declared_at vs x) x 0 given)

  -- what a scope adds lies in its ranges
  scope_bounded : (m : Marks) (s : Option Store) (ms : List Met) (taken default : Takes) (o : Trail) → TakesIn v own taken → TakesIn v own default → (some m l (labels t) ≡ false → default ≡ no_takes)
      → Bounded vs m l (v + own) t o → Bounded vs m l v (scope x s t) (scope_trail x ms fs taken default o)
  scope_bounded m s ms g d o p q none b = record {
    marks = b.marks;
    takes = takes_both v (own + registers vs t) o.takes g (takes_right v own (registers vs t) o.takes b.takes) (takes_left v own (registers vs t) g p);
    defaults = takes_both v (own + registers vs t) o.defaults d (takes_right v own (registers vs t) o.defaults b.defaults) (takes_left v own (registers vs t) d q);
    rests = λ h. ap₂ else_takes (b.rests h) (none h);
  }

  -- a scope that is entered
  abbrev entered : (go move ended : Bool) → Trail → Trail
  entered go move ended o = scope_trail x (met_if go (meetings x given wanted)) fs (takes_if ((go && move) && not ended) f) no_takes o

  pub starts_scope : (k : Registers) (go move ended : Bool) (o : Trail) → Closes vs x v t (fresh_store vs x) o.acts given wanted fs f → (go ≡ false → given ≡ wanted)
      → Runs vs (slice_set env x given) t no_marks k l (v + own) t go move false ended o → Runs vs env (scope x None t) no_marks k l v (scope x None t) go move false ended (entered go move ended o)
  starts_scope k true move ended o c same h = record {
    reaction = scoped vs x None t given h.reaction;
    reacts = of_scope env x None t given h.reaction (c.count ∙ sym c.stored) h.reacts;
    ends = h.ends;
    acts = ap (others x) h.acts;
    met = ap₂ (λ (a : List Act) b. meetings x given (values_of (resolved_store (storage_of vs x) x a 0 (fresh_store vs x))) ++ b) h.acts h.met ∙ ap (λ w. meetings x given w ++ o.met) (sym c.wants);
    faults = λ all. scope_faults (fresh_store vs x) h.reaction.acts o.acts h.reaction.faults o.faults o.met c h.acts h.faults all;
    stops = λ p q. let g = h.stops p q in (g.0, ap₂ (λ a b. else_takes a (takes_if b f)) g.1 (ap (λ b. move && not b) q ∙ and_false move));
    goes = λ p q.
        let g = h.goes p q in (
          g.0,
          g.1,
          λ j held.
              let apart = held_apart v own (registers vs t) f no_takes o.takes o.defaults j c.within (takes_none v own) h.bounded.takes h.bounded.defaults (subst (λ b. Holds (else_takes (else_takes o.takes (takes_if b f)) (else_takes o.defaults no_takes)) j) (ap₂ (λ a b. a && not b) p q) held) in
              let store = c.stands (some_labels o.marks l (labels t) g.0) j (subst (λ f. Holds f j) (λ i r. else_none (f r) i) apart.1) ∙ ap (λ a. plain_store vs x (given_store x a 0 given)) (sym h.acts) in
              ap₂ (λ a b. scope x (Some a) b) store (g.2 j apart.0) ∙ sym (ap (λ b. plain vs (unless_ended b (scope x (Some (given_store x h.reaction.acts 0 given)) h.reaction.residual))) (h.ends ∙ q)),
        );
    stays = λ p. let g = h.stays p in (g.0, ap₂ (λ a b. else_takes a (takes_if (b && not ended) f)) g.1 p);
    held = λ p. absurd (none p);
    bounded = scope_bounded no_marks None (meetings x given wanted) (takes_if (move && not ended) f) no_takes o (if_in v own (move && not ended) f (λ e. c.within)) (takes_none v own) (λ e. refl) h.bounded;
  }
    where
      none : some no_marks l (labels t) ≡ true → ⊥
      none p = let q = some_none l (labels t) in absurd (cc)
  starts_scope k false move ended o c same h = record {
    ends = h.ends;
    acts = ap (others x) h.acts;
    faults = idle_faults (fresh_store vs x) o.acts o.faults c (same refl) h.acts h.faults;
    met = h.met;
    marks = h.marks;
    takes = ap (λ a. else_takes a no_takes) h.takes;
    held = λ p. absurd (none p);
    bounded = scope_bounded no_marks None [] no_takes no_takes o (takes_none v own) (takes_none v own) (λ e. refl) h.bounded;
  }
    where
      none : some no_marks l (labels t) ≡ true → ⊥
      none p = let q = some_none l (labels t) in absurd (cc)

  -- a scope that goes on
  abbrev resumed : (act some_now : Bool) → Trail → Trail
  resumed act now o = scope_trail x (met_if act (meetings x given wanted)) fs no_takes (takes_if now f) o

  pub resumes_scope : (m : Marks) (k : Registers) (s : Option Store) (act move stay ended : Bool) (o : Trail) → Closes vs x v t (store_in vs x k v) o.acts given wanted fs f → (act ≡ false → given ≡ wanted) → (act ≡ true → some m l (labels t) ≡ true)
      → Runs vs (slice_set env x given) (at vs m k l (v + own) t) m k l (v + own) t act move stay ended o
      → Runs vs env (at vs m k l v (scope x s t)) m k l v (scope x s t) act move stay ended (resumed act (some m l (labels t)) o)
  resumes_scope m k s true move stay ended o c same alive h = record {
    reaction = scoped vs x (Some (store_in vs x k v)) (at vs m k l (v + own) t) given h.reaction;
    reacts = of_scope env x (Some (store_in vs x k v)) (at vs m k l (v + own) t) given h.reaction (c.count ∙ sym c.stored) h.reacts;
    ends = h.ends;
    acts = ap (others x) h.acts;
    met = ap₂ (λ (a : List Act) b. meetings x given (values_of (resolved_store (storage_of vs x) x a 0 (store_in vs x k v))) ++ b) h.acts h.met ∙ ap (λ w. meetings x given w ++ o.met) (sym c.wants);
    faults = λ all. scope_faults (store_in vs x k v) h.reaction.acts o.acts h.reaction.faults o.faults o.met c h.acts h.faults all;
    stops = λ p q. let g = h.stops p q in (g.0, ap (λ a. else_takes a no_takes) g.1);
    goes = λ p q.
        let g = h.goes p q in (
          g.0,
          g.1,
          λ j held.
              let apart = held_apart v own (registers vs t) no_takes f o.takes o.defaults j (takes_none v own) c.within h.bounded.takes h.bounded.defaults (subst (λ b. Holds (else_takes (else_takes o.takes no_takes) (else_takes o.defaults (takes_if b f))) j) (alive refl) held) in
              let store = c.stands (some_labels m l (labels t) (alive refl)) j apart.1 ∙ ap (λ a. plain_store vs x (given_store x a 0 given)) (sym h.acts) in
              ap₂ (λ a b. scope x (Some a) b) store (g.2 j apart.0) ∙ sym (ap (λ b. plain vs (unless_ended b (scope x (Some (given_store x h.reaction.acts 0 given)) h.reaction.residual))) (h.ends ∙ q)),
        );
    stays = λ p. let g = h.stays p in (g.0, ap (λ a. else_takes a no_takes) g.1);
    held = λ p j held.
        let apart = held_apart v own (registers vs t) no_takes f no_takes o.defaults j (takes_none v own) c.within (takes_none (v + own) (registers vs t)) h.bounded.defaults (subst (λ b. Holds (else_takes o.defaults (takes_if b f)) j) p held) in
        let store = c.stands (some_labels m l (labels t) p) j apart.1 ∙ ap (λ a. plain_store vs x (given_store x a 0 given)) (sym h.acts) in
        ap₂ (λ a b. scope x (Some a) b) store (h.held p j apart.0);
    bounded = scope_bounded m s (meetings x given wanted) no_takes (takes_if (some m l (labels t)) f) o (takes_none v own) (if_in v own (some m l (labels t)) f (λ e. c.within)) (λ e. ap (λ b. takes_if b f) e) h.bounded;
  }
  resumes_scope m k s false move stay ended o c same alive h = record {
    ends = h.ends;
    acts = ap (others x) h.acts;
    faults = idle_faults (store_in vs x k v) o.acts o.faults c (same refl) h.acts h.faults;
    met = h.met;
    marks = h.marks;
    takes = ap (λ a. else_takes a no_takes) h.takes;
    held = λ p j held.
        let apart = held_apart v own (registers vs t) no_takes f no_takes o.defaults j (takes_none v own) c.within (takes_none (v + own) (registers vs t)) h.bounded.defaults (subst (λ b. Holds (else_takes o.defaults (takes_if b f)) j) p held) in
        let values : given ≡ values_of (resolved_store (storage_of vs x) x [] 0 (store_in vs x k v)) = same refl ∙ c.wants ∙ ap (λ a. values_of (resolved_store (storage_of vs x) x a 0 (store_in vs x k v))) h.acts in
        let store = c.stands (some_labels m l (labels t) p) j apart.1 ∙ ap₂ (λ a z. plain_store vs x (given_store x a 0 z)) h.acts values ∙ ap (plain_store vs x) (advanced_is (storage_of vs x) x 0 (store_in vs x k v)) in
        ap₂ (λ a b. scope x (Some a) b) store (h.held p j apart.0);
    bounded = scope_bounded m s [] no_takes (takes_if (some m l (labels t)) f) o (takes_none v own) (if_in v own (some m l (labels t)) f (λ e. c.within)) (λ e. ap (λ b. takes_if b f) e) h.bounded;
  }
