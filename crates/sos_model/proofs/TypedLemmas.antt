-- The parts of a typed expression are typed.
use Rattle.std.proofs.Common.{◌≡◌, ℕ, true, nat_lt, List, [], ◌∷◌, ◌++◌, length, Option, refl}
use Rattle.quartz_tree.specs.declared.place.Place.{Place}
use Rattle.quartz_tree.specs.declared.expr.Unary.{Unary}
use Rattle.quartz_tree.specs.declared.expr.Binary.{Binary}
use Rattle.quartz_tree.specs.Tree.{Tree, truth, number, bits, named, element, one, two, choice, slice, to_nat, to_bv, paren}
use Rattle.quartz_expr.specs.Vars.{Vars}
use Rattle.quartz_expr.specs.Kinds.{kind_breaks}
use Rattle.quartz_expr.specs.Intervals.{bound_breaks}
use Rattle.quartz_expr.specs.Typed.{is_over, has_sound_bits, IsTyped}
use Rattle.sos_model.specs.Sound.{HasTypedParts, is_typed, no_places}
use Rattle.quartz_expr.proofs.TruthLemmas.{and_left, and_right}

left_empty : (ps qs : List Place) → ps ++ qs ≡ [] → ps ≡ []
left_empty [] qs h = refl
left_empty (p ∷ ps) qs h = absurd (cc)

right_empty : (ps qs : List Place) → ps ++ qs ≡ [] → qs ≡ []
right_empty [] qs h = h
right_empty (p ∷ ps) qs h = absurd (cc)

typed_element : (vs : Vars) (x : ℕ) (i : Tree ℕ) (p : Place) → IsTyped vs (element x i p) → IsTyped vs i
typed_element vs x i p h = record {
  over = and_right (nat_lt x (length vs)) (is_over (length vs) i) h.over;
  written = h.written;
  kinds = right_empty _ (kind_breaks vs i) h.kinds;
  bounds = h.bounds;
}

typed_one : (vs : Vars) (op : Unary) (a : Tree ℕ) (p : Place) → IsTyped vs (one op a p) → IsTyped vs a
typed_one vs op a p h = record { over = h.over; written = h.written; kinds = left_empty (kind_breaks vs a) _ h.kinds; bounds = left_empty (bound_breaks vs a) _ h.bounds }

typed_left : (vs : Vars) (op : Binary) (a b : Tree ℕ) (p : Place) → IsTyped vs (two op a b p) → IsTyped vs a
typed_left vs op a b p h = record {
  over = and_left (is_over (length vs) a) (is_over (length vs) b) h.over;
  written = and_left (has_sound_bits a) (has_sound_bits b) h.written;
  kinds = left_empty (kind_breaks vs a) _ h.kinds;
  bounds = left_empty (bound_breaks vs a) _ h.bounds;
}

typed_right : (vs : Vars) (op : Binary) (a b : Tree ℕ) (p : Place) → IsTyped vs (two op a b p) → IsTyped vs b
typed_right vs op a b p h = record {
  over = and_right (is_over (length vs) a) (is_over (length vs) b) h.over;
  written = and_right (has_sound_bits a) (has_sound_bits b) h.written;
  kinds = left_empty (kind_breaks vs b) _ (right_empty (kind_breaks vs a) _ h.kinds);
  bounds = left_empty (bound_breaks vs b) _ (right_empty (bound_breaks vs a) _ h.bounds);
}

typed_cond : (vs : Vars) (c a b : Tree ℕ) (p : Place) → IsTyped vs (choice c a b p) → IsTyped vs c
typed_cond vs c a b p h = record {
  over = and_left (is_over (length vs) c) _ h.over;
  written = and_left (has_sound_bits c) _ h.written;
  kinds = left_empty (kind_breaks vs c) _ h.kinds;
  bounds = left_empty (bound_breaks vs c) _ h.bounds;
}

typed_yes : (vs : Vars) (c a b : Tree ℕ) (p : Place) → IsTyped vs (choice c a b p) → IsTyped vs a
typed_yes vs c a b p h = record {
  over = and_left (is_over (length vs) a) _ (and_right (is_over (length vs) c) _ h.over);
  written = and_left (has_sound_bits a) _ (and_right (has_sound_bits c) _ h.written);
  kinds = left_empty (kind_breaks vs a) _ (right_empty (kind_breaks vs c) _ h.kinds);
  bounds = left_empty (bound_breaks vs a) _ (right_empty (bound_breaks vs c) _ h.bounds);
}

typed_no : (vs : Vars) (c a b : Tree ℕ) (p : Place) → IsTyped vs (choice c a b p) → IsTyped vs b
typed_no vs c a b p h = record {
  over = and_right (is_over (length vs) a) (is_over (length vs) b) (and_right (is_over (length vs) c) _ h.over);
  written = and_right (has_sound_bits a) (has_sound_bits b) (and_right (has_sound_bits c) _ h.written);
  kinds = left_empty (kind_breaks vs b) _ (right_empty (kind_breaks vs a) _ (right_empty (kind_breaks vs c) _ h.kinds));
  bounds = right_empty (bound_breaks vs a) (bound_breaks vs b) (right_empty (bound_breaks vs c) _ h.bounds);
}

typed_slice : (vs : Vars) (a : Tree ℕ) (high : ℕ) (low : Option ℕ) (p : Place) → IsTyped vs (slice a high low p) → IsTyped vs a
typed_slice vs a high low p h = record { over = h.over; written = h.written; kinds = left_empty (kind_breaks vs a) _ h.kinds; bounds = left_empty (bound_breaks vs a) _ h.bounds }

typed_to_nat : (vs : Vars) (a : Tree ℕ) (p : Place) → IsTyped vs (to_nat a p) → IsTyped vs a
typed_to_nat vs a p h = record { over = h.over; written = h.written; kinds = left_empty (kind_breaks vs a) _ h.kinds; bounds = h.bounds }

typed_to_bv : (vs : Vars) (a : Tree ℕ) (n : ℕ) (q p : Place) → IsTyped vs (to_bv a n q p) → IsTyped vs a
typed_to_bv vs a n q p h = record { over = h.over; written = h.written; kinds = left_empty (kind_breaks vs a) _ h.kinds; bounds = left_empty (bound_breaks vs a) _ h.bounds }

typed_paren : (vs : Vars) (a : Tree ℕ) (p : Place) → IsTyped vs (paren a p) → IsTyped vs a
typed_paren vs a p h = record { over = h.over; written = h.written; kinds = h.kinds; bounds = h.bounds }

pub typed_parts : (vs : Vars) (e : Tree ℕ) → IsTyped vs e → HasTypedParts vs e
typed_parts vs (truth _ _) h = tt
typed_parts vs (number _ _) h = tt
typed_parts vs (bits _ _ _) h = tt
typed_parts vs (named _ _) h = tt
typed_parts vs (element x i p) h = let k = typed_element vs x i p h in (k, typed_parts vs i k)
typed_parts vs (one op a p) h = typed_parts vs a (typed_one vs op a p h)
typed_parts vs (two op a b p) h = let k = typed_right vs op a b p h in (k, typed_parts vs a (typed_left vs op a b p h), typed_parts vs b k)
typed_parts vs (choice c a b p) h =
    let k = typed_cond vs c a b p h in
    (k, typed_parts vs c k, typed_parts vs a (typed_yes vs c a b p h), typed_parts vs b (typed_no vs c a b p h))
typed_parts vs (slice a high low p) h = typed_parts vs a (typed_slice vs a high low p h)
typed_parts vs (to_nat a p) h = typed_parts vs a (typed_to_nat vs a p h)
typed_parts vs (to_bv a n q p) h = typed_parts vs a (typed_to_bv vs a n q p h)
typed_parts vs (paren a p) h = typed_parts vs a (typed_paren vs a p h)

-- what the test of an expression says
none_there : (ps : List Place) → no_places ps ≡ true → ps ≡ []
none_there [] h = refl
none_there (p ∷ ps) h = absurd (cc)

pub typed_by_test : (vs : Vars) (e : Tree ℕ) → is_typed vs e ≡ true → IsTyped vs e
typed_by_test vs e h =
    let a = and_right (is_over (length vs) e) _ h in
    let b = and_right (has_sound_bits e) _ a in
    record {
      over = and_left (is_over (length vs) e) _ h;
      written = and_left (has_sound_bits e) _ a;
      kinds = none_there (kind_breaks vs e) (and_left (no_places (kind_breaks vs e)) _ b);
      bounds = none_there (bound_breaks vs e) (and_right (no_places (kind_breaks vs e)) _ b);
    }
