use Rattle.std.proofs.Common.{◌≡◌, ◌<◌, ◌+◌, ℕ, zero, suc, ℤ, List, [], ◌∷◌, ◌++◌, length, get_or, map, take, ap, ap₂, ◌∙◌, arith, rules}
use Rattle.quartz_expr.specs.Writes.{in_range}
use Rattle.sos_model.proofs.entering.read_values.Goals as goal

taken_more : (f : ℤ → ℤ) (xs : List ℤ) (i : ℕ) (z : ℤ) → i < length xs → z ≡ get_or xs i z → map f (take i xs) ++ f z ∷ [] ≡ map f (take (suc i) xs)
taken_more f [] i z h e = absurd (omega (arith, h))
taken_more f (x ∷ xs) zero z h e = ap (λ (y : ℤ). f y ∷ []) e
taken_more f (x ∷ xs) (suc i) z h e = ap (λ (l : List ℤ). f x ∷ l) (taken_more f xs i z (omega (arith, h)) e)

read_more : (f : ℤ → ℤ) (xs : List ℤ) (i : ℕ) (z : ℤ) (ys : List ℤ) (r : ℤ) → ys ≡ map f (take i xs) → r ≡ f z → i < length xs → z ≡ get_or xs i z → ys ++ r ∷ [] ≡ map f (take (i + 1) xs)
read_more f xs i z ys r e k h n =
    let next : suc i ≡ i + 1 = omega arith in
    ap₂ (λ (l : List ℤ) (y : ℤ). l ++ y ∷ []) e k ∙ taken_more f xs i z h n ∙ ap (λ (m : ℕ). map f (take m xs)) next

pub loop-value-preserved : goal.loop-value-preserved
loop-value-preserved c =
    let pushed : c.push.new.self.items ≡ c.loop-value.all.items ++ c.in_range_value.result ∷ [] = search rules in
    pushed ∙ read_more (in_range c.args.vars.now c.args.var) c.args.given.now c.loop-value.value-index _ c.loop-value.all.items c.in_range_value.result c.loop-value.invariant c.in_range_value.ensures (omega arith) (search rules)
