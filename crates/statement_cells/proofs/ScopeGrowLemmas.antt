-- How builders grow by a scope.
use Rattle.std.proofs.Common.{◌≡◌, ℕ, zero, suc, ◌+◌, ◌≤◌, ◌<◌, ◌==◌, ◌||◌, Bool, true, false, List, [], ◌∷◌, ◌++◌, length, refl, sym, ap, ◌∙◌, arith, length-append, append-nil}
use Rattle.std.specs.Prelude.{map, replicate, if◌then◌else◌}
use Rattle.std.proofs.lemmas.Bool.Decides.{nat_tests}
use Rattle.quartz_expr.specs.Vars.{Vars, count_of, declared_at}
use Rattle.aif_cells.specs.declared.reference.Ref.{Ref}
use Rattle.aif_cells.specs.declared.cells.Action.{Action}
use Rattle.aif_cells.specs.Built.{Defined}
use Rattle.aif_cells.proofs.SolutionLemmas.{there}
use Rattle.absence_reaction.specs.Meaning.{is_among, Keeps}
use Rattle.absence_reaction.specs.Closing.{Copy, closed_copy}
use Rattle.absence_reaction.proofs.CopyMeaning.{closing_keeps}
use Rattle.reincarnation.specs.declared.copy.ClosedRefs.{ClosedRefs}
use Rattle.reincarnation.specs.Entering.{numbers_from, reserved}
use Rattle.statement_cells.specs.Labels.{shape_in}
use Rattle.statement_cells.specs.Builder.{Activity, Builder, Reserved, DepthCopy, built_of, close_scope, copy_at, keep_depth, keep_entered, new_cells, reserve, reserved_cells, tree_at, writes_to_others, absent_from}
use Rattle.statement_cells.specs.Walk.{AreSoundWrites, IsBuilt, cells_of}
use Rattle.statement_cells.proofs.GrowLemmas.{AllRecorded, Grows, HasTree, HaveTrees, get_front, recorded_both, recorded_kept, stays, then_grows, writes_both, AreBetween, between_bounds, between_wider, between_both, between_from}
use Rattle.statement_cells.proofs.BoolLemmas.{or_assoc}
use Rattle.absence_reaction.specs.declared.copy.Shape.{Shape}
use Rattle.absence_reaction.specs.declared.copy.VarCopy.{VarCopy}

-- ---- value cells

pub length_replicate : {A : Type 0} (n : ℕ) (a : A) → length (replicate n a) ≡ n
length_replicate zero a = refl
length_replicate (suc n) a = ap suc (length_replicate n a)

pub length_numbers : (f n : ℕ) → length (numbers_from f n) ≡ n
length_numbers f zero = refl
length_numbers f (suc n) = ap suc (length_numbers (f + 1) n)

-- the number is one of the n from f on
pub among_numbers : (f n k : ℕ) → is_among k (numbers_from f n) ≡ true → (f ≤ k) × (k < f + n)
among_numbers f zero k h = absurd (cc)
among_numbers f (suc n) k h = at (k == f) refl (λ g. among_numbers (f + 1) n k g)
  where
    at : (b : Bool) → (k == f) ≡ b → (is_among k (numbers_from (f + 1) n) ≡ true → (f + 1 ≤ k) × (k < f + 1 + n)) → (f ≤ k) × (k < f + suc n)
    at true e g = let same : k ≡ f = grind (arith, nat_tests, e) in (omega (arith, same), omega (arith, same))
    at false e g = let r = g (sym (ap (λ b. b || is_among k (numbers_from (f + 1) n)) e) ∙ h) in (omega (arith, r.0), omega (arith, r.1))

pub is_not : (b : Bool) → (b ≡ true → ⊥) → b ≡ false
is_not true h = absurd (h refl)
is_not false h = refl

-- no number below the first one is
pub below_numbers : (f n k : ℕ) → k < f → is_among k (numbers_from f n) ≡ false
below_numbers f n k h = is_not (is_among k (numbers_from f n)) (λ e. out (among_numbers f n k e))
  where
    out : (f ≤ k) × (k < f + n) → ⊥
    out g = omega (arith, h, g.0)

pub cells_both : (a b : List Reserved) (k : ℕ) → is_among k (cells_of (a ++ b)) ≡ (is_among k (cells_of a) || is_among k (cells_of b))
cells_both [] b k = refl
cells_both (r ∷ a) b k = ap (λ t. (k == r.cell) || t) (cells_both a b k) ∙ sym (or_assoc (k == r.cell) (is_among k (cells_of a)) (is_among k (cells_of b)))

pub cells_reserved : (x : ℕ) (ks : List ℕ) → cells_of (reserved_cells x ks) ≡ ks
cells_reserved x [] = refl
cells_reserved x (k ∷ ks) = ap (λ l. k ∷ l) (cells_reserved x ks)

pub has_tree : (cs : List Defined) (k : ℕ) → k < length cs → HasTree cs k (tree_at cs k)
has_tree [] k h = absurd (omega (arith, h))
has_tree (c ∷ cs) zero h = record { place = c.place; is = refl }
has_tree (c ∷ cs) (suc k) h = let r = has_tree cs k (omega (arith, h)) in record { place = r.place; is = r.is }

pub absent_count : (s : Shape) (c : VarCopy) (j : ℕ) (ks : List ℕ) → length (absent_from s c j ks) ≡ length ks
absent_count s c j [] = refl
absent_count s c j (k ∷ ks) = ap suc (absent_count s c (j + 1) ks)

-- ---- reserving

module _ (vs : Vars) (x : ℕ) where
  pub reserve_longer : (stored : Bool) (β : Builder) → length (reserve vs x stored β).cells ≡ length β.cells + count_of vs x
  unfolding reserve
  reserve_longer stored β = length-append β.cells (replicate (count_of vs x) (reserved (declared_at vs x))) ∙ ap (λ n. length β.cells + n) (length_replicate (count_of vs x) (reserved (declared_at vs x)))

  reserve_built : (stored : Bool) (β : Builder) → IsBuilt vs β → IsBuilt vs (reserve vs x stored β)
  unfolding reserve
  reserve_built stored β w = record {
    cells = λ k h. at k (is_among k (cells_of β.reserved)) refl (sym (ap (λ l. is_among k (cells_of β.reserved) || is_among k l) (cells_reserved x (new_cells vs x β))) ∙ sym (cells_both β.reserved (reserved_cells x (new_cells vs x β)) k) ∙ h);
    writes = tt;
  }
    where
      at : (k : ℕ) (b : Bool) → is_among k (cells_of β.reserved) ≡ b → (is_among k (cells_of β.reserved) || is_among k (new_cells vs x β)) ≡ true → k < length (reserve vs x stored β).cells
      at k true e h = let less : k < length β.cells = w.cells k e in omega (arith, less, reserve_longer stored β)
      at k false e h =
          let new = among_numbers (length β.cells) (count_of vs x) k (sym (ap (λ b. b || is_among k (new_cells vs x β)) e) ∙ h) in
          omega (arith, new.1, reserve_longer stored β)

  -- reserving keeps the cells before it
  pub reserve_grows : (stored : Bool) (β : Builder) → Grows vs β (reserve vs x stored β)
  unfolding reserve
  reserve_grows stored β = record {
    longer = omega (arith, reserve_longer stored β);
    kept = λ k c h. get_front β.cells (replicate (count_of vs x) (reserved (declared_at vs x))) k c h;
    built = reserve_built stored β;
    more = reserved_cells x (new_cells vs x β);
    reserved = refl;
    recorded = λ n le r. tt;
    placed = λ lo r. let le = between_bounds lo (length β.cells) β.scopes r in omega (arith, le, reserve_longer stored β);
  }

  others_sound : (ws : List Action) → AreSoundWrites vs ws → AreSoundWrites vs (writes_to_others x ws)
  others_sound [] h = tt
  others_sound (a ∷ ws) h = at (a.var == x) (others_sound ws h.1)
    where
      at : (b : Bool) → AreSoundWrites vs (writes_to_others x ws) → AreSoundWrites vs (if b then writes_to_others x ws else a ∷ writes_to_others x ws)
      at true g = g
      at false g = (h.0, g)

  -- ---- closing

  module _ (stored : Bool) (v : ℕ) (active : Activity) (β inner : Builder) where
    abbrev pub closed_here : Copy
    closed_here = closed_copy (shape_in vs x) (copy_at vs x stored v β inner) (built_of inner)

    closing : Keeps (copy_at vs x stored v β inner) (built_of inner) closed_here.built
    closing = closing_keeps (shape_in vs x) (copy_at vs x stored v β inner) (built_of inner)

    beyond : (k : ℕ) → length (reserve vs x stored β).cells ≤ k → (length β.cells ≤ k) × (k < length β.cells + count_of vs x) → ⊥
    beyond k m h = omega (arith, m, h.1, reserve_longer stored β)

    none_recorded : (n : ℕ) (cs : List Defined) → AllRecorded n cs (reserve vs x stored β).scopes
    unfolding reserve
    none_recorded n cs = tt

    none_placed : AreBetween (length (reserve vs x stored β).cells) (length (reserve vs x stored β).cells) (reserve vs x stored β).scopes
    unfolding reserve
    none_placed = omega arith

    -- the copy's own cells have the trees that are recorded
    numbers_recorded : (n f m : ℕ) → n ≤ f → f + m ≤ length closed_here.built.cells → HaveTrees n closed_here.built.cells (numbers_from f m) (map (tree_at closed_here.built.cells) (numbers_from f m))
    numbers_recorded n f zero le h = tt
    numbers_recorded n f (suc m) le h = (le, has_tree closed_here.built.cells f (omega (arith, h)), numbers_recorded n (f + 1) m (omega (arith, le)) (omega (arith, h)))

    own_recorded : (n : ℕ) → n ≤ length β.cells → Grows vs (reserve vs x stored β) inner → HaveTrees n closed_here.built.cells (new_cells vs x β) (map (tree_at closed_here.built.cells) (new_cells vs x β))
    own_recorded n le g = numbers_recorded n (length β.cells) (count_of vs x) le (omega (arith, g.longer, reserve_longer stored β, closing.cells.longer))

    -- closing a copy keeps the cells before it was reserved
    pub close_grows : Grows vs (reserve vs x stored β) inner → Grows vs β (close_scope vs x stored v active β inner).built
    unfolding close_scope
    close_grows g =
        let all = then_grows vs β (reserve vs x stored β) inner (reserve_grows stored β) g in
        record {
          longer = omega (arith, all.longer, closing.cells.longer);
          kept = λ k c h. let less : k < length β.cells = there β.cells k c h in closing.cells.kept k (omega (arith, less, all.longer)) (below_numbers (length β.cells) (count_of vs x) k less) ∙ all.kept k c h;
          built = λ w.
              let i = all.built w in
              record {
                cells = λ k h. let less : k < length inner.cells = i.cells k h in omega (arith, less, closing.cells.longer);
                writes = writes_both vs β.writes (writes_to_others x inner.writes) w.writes (others_sound inner.writes i.writes);
              };
          more = all.more;
          reserved = all.reserved;
          placed = λ lo r.
              let room : length (reserve vs x stored β).cells ≤ length closed_here.built.cells = omega (arith, g.longer, closing.cells.longer) in
              let after = between_wider (length (reserve vs x stored β).cells) (length inner.cells) (length closed_here.built.cells) inner.scopes closing.cells.longer (g.placed (length (reserve vs x stored β).cells) none_placed) in
              between_both lo (length β.cells) (length closed_here.built.cells) β.scopes (_ ∷ inner.scopes) r
              (length β.cells, count_of vs x, omega arith, refl, between_from (length β.cells + count_of vs x) (length (reserve vs x stored β).cells) (length closed_here.built.cells) inner.scopes (omega (arith, reserve_longer stored β)) after);
          recorded = λ n le r.
              recorded_both n closed_here.built.cells β.scopes (_ ∷ inner.scopes)
              (recorded_kept n n β.cells closed_here.built.cells β.scopes (omega arith)
              (λ k c m h. let less : k < length β.cells = there β.cells k c h in closing.cells.kept k (omega (arith, less, all.longer)) (below_numbers (length β.cells) (count_of vs x) k less) ∙ all.kept k c h) r) (
                own_recorded n le g,
                absent_count (shape_in vs x) (copy_at vs x stored v β inner) 0 (new_cells vs x β),
                recorded_kept n (length (reserve vs x stored β).cells) inner.cells closed_here.built.cells inner.scopes (omega (arith, le, reserve_longer stored β))
                    (λ k c m h. closing.cells.kept k (there inner.cells k c h) (is_not (is_among k (new_cells vs x β)) (λ e. beyond k m (among_numbers (length β.cells) (count_of vs x) k e))) ∙ h)
                    (g.recorded (length (reserve vs x stored β).cells) (omega arith) (none_recorded (length (reserve vs x stored β).cells) (reserve vs x stored β).cells)),
              );
        }

pub keep_entered_grows : (vs : Vars) (r x v : ℕ) (e : Ref) (c : ClosedRefs) (β : Builder) → Grows vs β (keep_entered r x v e c β)
unfolding keep_entered
keep_entered_grows vs zero x v e c β = stays vs β
keep_entered_grows vs (suc r) x v e c β = record { longer = omega arith; kept = λ k c e. e; built = λ w. record { cells = w.cells; writes = w.writes }; more = []; reserved = sym (append-nil β.reserved); recorded = λ n le r. r; placed = λ lo r. r }

pub keep_depth_grows : (vs : Vars) (r : ℕ) (d : DepthCopy) (β : Builder) → Grows vs β (keep_depth r d β)
unfolding keep_depth
keep_depth_grows vs zero d β = stays vs β
keep_depth_grows vs (suc r) d β = record { longer = omega arith; kept = λ k c e. e; built = λ w. record { cells = w.cells; writes = w.writes }; more = []; reserved = sym (append-nil β.reserved); recorded = λ n le r. r; placed = λ lo r. r }
