-- What steps mean on slots.
use Rattle.std.specs.Prelude.{ℕ, ◌<◌, ◌≤◌, ℤ, List, [], ◌∷◌, slice_set, if◌then◌else◌}
use Rattle.quartz_expr.specs.Values.{same_value}
use Rattle.aif_cells.specs.Worth.{apply_one, apply_two, bits_between, fitted, flipped, holds, number_at, stacked}
use Rattle.flat_steps.specs.declared.step.Operation.{Operation}
use Rattle.flat_steps.specs.declared.step.Operation.TheVariants as op
use Rattle.flat_steps.specs.declared.step.Step.{Step}

-- one number where the index is the item's, else the other
abbrev pub picked : (item index a b : ℤ) → ℤ
picked item index a b = if same_value index item then a else b

-- what an operation makes of the slots
abbrev pub made : Operation → List ℤ → ℤ
made (op.Literal z) s = z
made (op.Same a) s = number_at s a
made (op.One f a) s = apply_one f (number_at s a)
made (op.Two f a b) s = apply_two f (number_at s a) (number_at s b)
made (op.Ite c a b) s = if holds (number_at s c) then number_at s a else number_at s b
made (op.Pick i item a b) s = picked item (number_at s i) (number_at s a) (number_at s b)
made (op.Fit a low high) s = fitted low high (number_at s a)
made (op.Bnot a n) s = flipped n (number_at s a)
made (op.Cat a b n) s = stacked n (number_at s a) (number_at s b)
made (op.Bits a high low) s = bits_between high low (number_at s a)

-- the slots after a step, and after steps one after another
abbrev pub after_step : Step → List ℤ → List ℤ
after_step i s = slice_set s i.to (made i.operation s)

abbrev pub after : List Step → List ℤ → List ℤ
after [] s = s
after (i ∷ is) s = after is (after_step i s)

-- an operation reads slots below this number alone
abbrev pub ReadsWithin : ℕ → Operation → Type 0
ReadsWithin n (op.Literal z) = Unit {0}
ReadsWithin n (op.Same a) = a < n
ReadsWithin n (op.One f a) = a < n
ReadsWithin n (op.Two f a b) = (a < n) × (b < n)
ReadsWithin n (op.Ite c a b) = (c < n) × (a < n) × (b < n)
ReadsWithin n (op.Pick i item a b) = (i < n) × (a < n) × (b < n)
ReadsWithin n (op.Fit a low high) = a < n
ReadsWithin n (op.Bnot a w) = a < n
ReadsWithin n (op.Cat a b w) = (a < n) × (b < n)
ReadsWithin n (op.Bits a high low) = a < n

-- a step reads and writes slots below this number alone
abbrev pub IsWithin : ℕ → Step → Type 0
IsWithin n i = (i.to < n) × ReadsWithin n i.operation

abbrev pub AreWithin : ℕ → List Step → Type 0
AreWithin n [] = Unit {0}
AreWithin n (i ∷ is) = IsWithin n i × AreWithin n is

-- no step writes a slot below this number
abbrev pub WriteFrom : ℕ → List Step → Type 0
WriteFrom n [] = Unit {0}
WriteFrom n (i ∷ is) = (n ≤ i.to) × WriteFrom n is
