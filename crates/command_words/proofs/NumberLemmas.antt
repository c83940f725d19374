-- Numbers in texts: what `parse` finds in a text is the number that the grammar reads, where that lies in its range. A text
-- that `parse` refuses, or whose number lies outside, is none of the grammar's either.
use Rattle.std.proofs.Common.{◌≡◌, ◌≤◌, ◌<◌, ℕ, Bool, true, false, [], ◌∷◌, Some, None, refl, ap, sym, arith, true≢false, ◌&&◌}
use Rattle.std.specs.Prelude.{nat_le}
use Rattle.std.specs.Str.{all_ascii_digits}
use Rattle.std.specs.Str.Parse.{IsNumeral, digits_value, without_leading_plus}
use Rattle.std.proofs.lemmas.Str.Parse.{numerals_by_value, tells_all_ascii_digits}
use Rattle.std.proofs.lemmas.Bool.Decides.{nat_tests}
use Rattle.command_words.specs.Arguments.{Word, is_numeral, number_within}

numeral_test : (ds : Word) → IsNumeral 10 ds → is_numeral ds ≡ true
numeral_test [] h = let bad : 0 < 0 = h.0 in absurd (omega arith)
numeral_test (c ∷ cs) h = (numerals_by_value (λ ds. all_ascii_digits ds ≡ true) tells_all_ascii_digits).from (c ∷ cs) h.1

numeral_is : (ds : Word) → is_numeral ds ≡ true → IsNumeral 10 ds
numeral_is [] h = absurd (true≢false (sym h))
numeral_is (c ∷ cs) h = (omega arith, (numerals_by_value (λ ds. all_ascii_digits ds ≡ true) tells_all_ascii_digits).to (c ∷ cs) h)

module _ (low high : ℕ) (w : Word) where
  abbrev digits : Word
  digits = without_leading_plus w

  abbrev value : ℕ
  value = digits_value 10 digits

  -- a number is that of its digits, if it is in its range
  pub parsed_within : (n : ℕ) → IsNumeral 10 digits → n ≡ value → low ≤ n → n ≤ high → Some n ≡ number_within low high w
  parsed_within n h e l u =
      let between : (nat_le low value && nat_le value high) ≡ true = grind (arith, nat_tests) in
      let same : Some n ≡ Some value = ap Some e in
      rw (numeral_test digits h, between) same

  -- where the digits are none of a number below a bound, they are none of the range
  pub unparsed : (bound : ℕ) → ¬ (IsNumeral 10 digits × (value < bound)) → high < bound → None ≡ number_within low high w
  unparsed bound h fits = go (is_numeral digits) refl (nat_le low value && nat_le value high) refl
    where
      go : (t : Bool) → is_numeral digits ≡ t → (u : Bool) → (nat_le low value && nat_le value high) ≡ u → None ≡ number_within low high w
      go false u a b = rw u refl
      go true u false b = rw (u, b) refl
      go true u true b =
          let below : value ≤ high = grind (arith, nat_tests) in
          absurd (h (numeral_is digits u, omega arith))
