-- Typed expressions, and environments that fit the variables.
use Rattle.std.specs.Prelude.{◌≡◌, ℕ, ◌<◌, ◌^◌, ℤ, Bool, true, ◌&&◌, ◌||◌, nat_lt, nat_le, List, [], ◌∷◌, length}
use Rattle.quartz_tree.specs.Tree.{Tree, truth, number, bits, named, element, one, two, choice, slice, to_nat, to_bv, paren}
use Rattle.quartz_expr.specs.Values.{Values, elements_in}
use Rattle.quartz_expr.specs.Vars.{Vars, count_of}
use Rattle.quartz_expr.specs.Kinds.{kind_breaks}
use Rattle.quartz_expr.specs.Intervals.{Interval, Lies, is_sound_type, range_of, bound_breaks}

-- each variable that the expression names is one of so many
abbrev pub is_over : ℕ → Tree ℕ → Bool
is_over n (truth _ _) = true
is_over n (number _ _) = true
is_over n (bits _ _ _) = true
is_over n (named x _) = nat_lt x n
is_over n (element x i _) = nat_lt x n && is_over n i
is_over n (one _ a _) = is_over n a
is_over n (two _ a b _) = is_over n a && is_over n b
is_over n (choice c a b _) = is_over n c && (is_over n a && is_over n b)
is_over n (slice a _ _ _) = is_over n a
is_over n (to_nat a _) = is_over n a
is_over n (to_bv a _ _ _) = is_over n a
is_over n (paren a _) = is_over n a

-- bits have a digit at least, and of at most 32 digits the value fits the width
abbrev pub has_sound_bits : {V : Type 0} → Tree V → Bool
has_sound_bits (truth _ _) = true
has_sound_bits (number _ _) = true
has_sound_bits (bits w n _) = nat_le 1 w && (nat_lt 32 w || nat_lt n (2 ^ w))
has_sound_bits (named _ _) = true
has_sound_bits (element _ i _) = has_sound_bits i
has_sound_bits (one _ a _) = has_sound_bits a
has_sound_bits (two _ a b _) = has_sound_bits a && has_sound_bits b
has_sound_bits (choice c a b _) = has_sound_bits c && (has_sound_bits a && has_sound_bits b)
has_sound_bits (slice a _ _ _) = has_sound_bits a
has_sound_bits (to_nat a _) = has_sound_bits a
has_sound_bits (to_bv a _ _ _) = has_sound_bits a
has_sound_bits (paren a _) = has_sound_bits a

-- the expression names variables alone, and breaks neither the rule of kinds nor that of bounds
pub record IsTyped (vs : Vars) (t : Tree ℕ) : Type 0 where
  pub over : is_over (length vs) t ≡ true
  pub written : has_sound_bits t ≡ true
  pub kinds : kind_breaks vs t ≡ []
  pub bounds : bound_breaks vs t ≡ []

-- no type breaks its bounds
abbrev pub have_sound_types : Vars → Bool
have_sound_types [] = true
have_sound_types (v ∷ vs) = is_sound_type v.decl.ty && have_sound_types vs

-- fewer than 2^32 variables, whose types break no bounds
pub record AreSound (vs : Vars) : Type 0 where
  pub few : length vs < 2 ^ 32
  pub types : have_sound_types vs ≡ true

-- each of the values lies in the interval
abbrev pub AllLie : Interval → List ℤ → Type 0
AllLie i [] = Unit {0}
AllLie i (z ∷ zs) = Lies i z × AllLie i zs

-- the environment gives each variable its elements, each in its type's range
pub record Fits (vs : Vars) (env : Values) : Type 0 where
  pub counts : (x : ℕ) → x < length vs → length (elements_in env x) ≡ count_of vs x
  pub ranges : (x : ℕ) → x < length vs → AllLie (range_of vs x) (elements_in env x)
