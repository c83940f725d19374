use Rattle.std.proofs.Common.{ℕ, List, ◌≡◌, ◌++◌, [], ◌∷◌, subst}
use Rattle.causality_check.specs.Search.{EndsIn}
use Rattle.causality_check.proofs.SearchLemmas.{begins_with, dropped_up, kept_below, popped}
use Rattle.causality_check.proofs.components.drop_above.Goals as goal

pub loop-number-preserved : goal.loop-number-preserved
loop-number-preserved c =
    let xs : List ℕ = c.loop-number.numbers.items in
    let e : EndsIn xs c.in-Some.number = subst (λ (ys : List ℕ). EndsIn ys c.in-Some.number) c.as_slice.ensures.value c.in-Some.ensures in
    let f : xs ≡ c.pop.new.self.items ++ c.in-Some.number ∷ [] = popped xs c.pop.new.self.items c.in-Some.number c.loop-number.numbers.len e c.loop-number.numbers.ok.0 c.pop.ensures.rest in
    record {
      up = dropped_up xs c.pop.new.self.items c.in-Some.number f c.loop-number.invariant.up;
      from = λ s k. c.loop-number.invariant.from s (begins_with xs c.pop.new.self.items c.in-Some.number s f k);
      kept = kept_below c.args.numbers.now.items xs c.pop.new.self.items c.in-Some.number c.in-Some.number c.args.bound e f c.if-number-bound.false c.loop-number.invariant.kept;
    }
