-- Names with the number of a call behind a dot, which no name of a text has.
use Rattle.std.specs.Prelude.{◌≡◌, ℕ, ◌<◌, ◌==◌, Bool, true, false, not, ◌||◌, List, [], ◌∷◌, ◌++◌, decimal}
use Rattle.quartz_tree.specs.Surfaces.{Word}

abbrev pub has_dot : Word → Bool
has_dot [] = false
has_dot (c ∷ cs) = (c == 46) || has_dot cs

-- a name as a text may have it
abbrev pub is_plain : Word → Bool
is_plain x = not (has_dot x)

-- `y.n`
abbrev pub with_number : Word → ℕ → Word
with_number x n = x ++ 46 ∷ decimal n

-- names with numbers below a bound are told apart, from each other and from plain ones
pub record Dots (is_plain : Word → Bool) (dotted : Word → ℕ → Word) (most : ℕ) : Type 0 where
  pub name : (x y : Word) (n : ℕ) → dotted x n ≡ dotted y n → x ≡ y
  pub number : (x y : Word) (m n : ℕ) → m < most → n < most → dotted x m ≡ dotted y n → m ≡ n
  pub apart : (x y : Word) (n : ℕ) → is_plain x ≡ true → x ≡ dotted y n → ⊥
