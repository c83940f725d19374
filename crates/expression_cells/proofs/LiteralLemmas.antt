-- The numbers of a typed expression fit those of trees, and variables have few elements.
use Rattle.std.proofs.Common.{◌≡◌, ℕ, zero, suc, ◌^◌, ◌<◌, ◌≤◌, Bool, true, false, not, ◌&&◌, nat_le, nat_lt, List, [], ◌∷◌, ◌++◌, Option, Some, None, refl, arith}
use Rattle.std.specs.Prelude.{unwrap_or}
use Rattle.std.proofs.Math.Nat.{pow-le-pow_right}
use Rattle.std.proofs.lemmas.Bool.Decides.{nat_tests}
use Rattle.quartz_tree.specs.declared.place.Place.{Place}
use Rattle.quartz_tree.specs.Tree.{Tree, truth, number, bits, named, element, one, two, choice, slice, to_nat, to_bv, paren}
use Rattle.quartz_expr.specs.Vars.{Vars, count_of}
use Rattle.quartz_expr.specs.Kinds.{kind, place_if}
use Rattle.quartz_expr.specs.Value.{width_in}
use Rattle.quartz_expr.specs.Intervals.{are_sound_bits, bound_breaks, is_sound_base, is_sound_length, is_sound_slice, is_sound_type}
use Rattle.quartz_expr.specs.Typed.{IsTyped, have_sound_types}
use Rattle.quartz_types.proofs.WidthLemmas.{kind_small}
use Rattle.expression_cells.specs.Literals.{fits}
use Rattle.quartz_expr.proofs.TruthLemmas.{and_parts, and_intro, none_left}
use Rattle.quartz_expr.proofs.RangeLemmas.{small_length, count_small}
use Rattle.quartz_expr.proofs.TypingLemmas.{kept}

below_width : (w n : ℕ) → w ≤ 32 → n < 2 ^ w → nat_lt n (2 ^ 32) ≡ true
below_width w n h k =
    let p : 2 ^ w ≤ 2 ^ 32 = pow-le-pow_right (omega arith) h in
    let q : n < 2 ^ 32 = omega (arith, k, p) in
    grind (arith, nat_tests, q)

sound_bits : (w n : ℕ) → are_sound_bits w n ≡ true → nat_lt n (2 ^ 32) ≡ true
sound_bits w n h =
    let k = and_parts (nat_le 1 w) (nat_le w 32 && nat_lt n (2 ^ w)) h in
    let j = and_parts (nat_le w 32) (nat_lt n (2 ^ w)) k.1 in
    let a : w ≤ 32 = grind (arith, nat_tests, j.0) in
    let b : n < 2 ^ w = grind (arith, nat_tests, j.1) in
    below_width w n a b

is_few : (n w : ℕ) → w ≤ 33 → n < w → nat_lt n (2 ^ 32) ≡ true
is_few n w h k = let q : n < 2 ^ 32 = omega (arith, h, k) in grind (arith, nat_tests, q)

sound_slice : (w high : ℕ) (low : Option ℕ) → w ≤ 33 → is_sound_slice w high low ≡ true → (nat_lt high (2 ^ 32) && nat_lt (unwrap_or low high) (2 ^ 32)) ≡ true
sound_slice w high None h k =
    let b : high < w = grind (arith, nat_tests, k) in
    and_intro _ _ (is_few high w h b) (is_few high w h b)
sound_slice w high (Some low) h k =
    let j = and_parts (nat_lt high w) (nat_le low high) k in
    let b : high < w = grind (arith, nat_tests, j.0) in
    let l : low ≤ high = grind (arith, nat_tests, j.1) in
    and_intro _ _ (is_few high w h b) (is_few low w h (omega (arith, b, l)))

fits_bounded : (vs : Vars) (t : Tree ℕ) → bound_breaks vs t ≡ [] → fits t ≡ true
fits_bounded vs (truth _ _) h = refl
fits_bounded vs (number n p) h = kept (nat_le n (2 ^ 62)) p h
fits_bounded vs (bits w n p) h = sound_bits w n (kept (are_sound_bits w n) p h)
fits_bounded vs (named _ _) h = refl
fits_bounded vs (element _ i _) h = fits_bounded vs i h
fits_bounded vs (one _ a _) h = fits_bounded vs a (none_left (bound_breaks vs a) _ h).0
fits_bounded vs (two _ a b _) h =
    let k = none_left (bound_breaks vs a) _ h in
    and_intro _ _ (fits_bounded vs a k.0) (fits_bounded vs b (none_left (bound_breaks vs b) _ k.1).0)
fits_bounded vs (choice c a b _) h =
    let k = none_left (bound_breaks vs c) _ h in
    let j = none_left (bound_breaks vs a) _ k.1 in
    and_intro _ _ (fits_bounded vs c k.0) (and_intro _ _ (fits_bounded vs a j.0) (fits_bounded vs b j.1))
fits_bounded vs (slice a high low p) h =
    let k = none_left (bound_breaks vs a) _ h in
    and_intro _ _ (fits_bounded vs a k.0) (sound_slice (width_in (kind vs a)) high low (kind_small vs a) (kept (is_sound_slice (width_in (kind vs a)) high low) p k.1))
fits_bounded vs (to_nat a _) h = fits_bounded vs a h
fits_bounded vs (to_bv a _ _ _) h = fits_bounded vs a (none_left (bound_breaks vs a) _ h).0
fits_bounded vs (paren a _) h = fits_bounded vs a h

-- the numbers of a typed expression fit
pub fits_typed : (vs : Vars) (t : Tree ℕ) → IsTyped vs t → fits t ≡ true
fits_typed vs t h = fits_bounded vs t h.bounds
