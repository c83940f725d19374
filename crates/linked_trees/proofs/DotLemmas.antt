-- A name with a number behind a dot tells both: the number stands behind the last dot, since digits hold none, and a number is
-- told by its digits.
use Rattle.std.proofs.Common.{◌≡◌, ◌<◌, ◌≤◌, ℕ, suc, ◌^◌, Bool, true, false, not, ◌&&◌, ◌||◌, List, [], ◌∷◌, ◌++◌, decimal, if◌then◌else◌, refl, sym, ap, ap₂, ◌∙◌, subst, arith}
use Rattle.std.proofs.lemmas.Bool.Decides.{nat_tests}
use Rattle.std.proofs.lemmas.List.{append_cancel_right}
use Rattle.std.proofs.lemmas.Fmt.{decimal_is_IsNumeral_wide}
use Rattle.std.specs.Prelude.{◌==◌}
use Rattle.std.specs.Char.{digit_value}
use Rattle.std.specs.Str.Parse.{IsNumeral, AllDigits, digits_value}
use Rattle.quartz_tree.specs.Surfaces.{Word}
use Rattle.linked_trees.specs.Dotted.{Dots, has_dot, is_plain, with_number}

-- what stands behind the last dot
abbrev behind : Word → Word
behind [] = []
behind (c ∷ cs) = if (c == 46) && not (has_dot cs) then cs else behind cs

dotted_has : (x d : Word) → has_dot (x ++ 46 ∷ d) ≡ true
dotted_has [] d = refl
dotted_has (c ∷ x) d = at (c == 46) (dotted_has x d)
  where
    at : (b : Bool) → has_dot (x ++ 46 ∷ d) ≡ true → (b || has_dot (x ++ 46 ∷ d)) ≡ true
    at true e = refl
    at false e = e

no_test : (b c : Bool) → c ≡ true → (b && not c) ≡ false
no_test true c e = ap not e
no_test false c e = refl

behind_is : (x d : Word) → has_dot d ≡ false → behind (x ++ 46 ∷ d) ≡ d
behind_is [] d e = ap (λ (b : Bool). if not b then d else behind d) e
behind_is (c ∷ x) d e = ap (λ (b : Bool). if b then x ++ 46 ∷ d else behind (x ++ 46 ∷ d)) (no_test (c == 46) _ (dotted_has x d)) ∙ behind_is x d e

digits_plain : (ds : List ℕ) → AllDigits 10 ds → has_dot ds ≡ false
digits_plain [] h = refl
digits_plain (d ∷ ds) h = at (d == 46) refl (digits_plain ds h.1)
  where
    at : (b : Bool) → (d == 46) ≡ b → has_dot ds ≡ false → (b || has_dot ds) ≡ false
    at true e g =
        let i : d ≡ 46 = grind (arith, nat_tests, e) in
        let k : digit_value 46 < 10 = subst (λ (n : ℕ). digit_value n < 10) i h.0 in
        absurd (omega (arith, k))
    at false e g = g

decimal_plain : (n : ℕ) → n < 2 ^ 32 → has_dot (decimal n) ≡ false
decimal_plain n h = digits_plain (decimal n) (decimal_is_IsNumeral_wide n (omega (arith, h))).0.1

pub dots : Dots is_plain with_number (2 ^ 32)
dots = record {
  name = λ x y n e. append_cancel_right x y (46 ∷ decimal n) e;
  number = λ x y m n h g e.
      let s : decimal m ≡ decimal n = sym (behind_is x (decimal m) (decimal_plain m h)) ∙ ap behind e ∙ behind_is y (decimal n) (decimal_plain n g) in
      sym (decimal_is_IsNumeral_wide m (omega (arith, h))).1 ∙ ap (digits_value 10) s ∙ (decimal_is_IsNumeral_wide n (omega (arith, g))).1;
  apart = λ x y n p e. let t : has_dot x ≡ true = ap has_dot e ∙ dotted_has y (decimal n) in absurd (cc);
}
