use Rattle.std.proofs.Common.{rules, ◌∙◌, ap, ℤ, w64, [], ◌∷◌, ◌++◌, SFits}
use Rattle.std.proofs.lemmas.Int.{to_z-of_z}
use Rattle.trace_io.proofs.GenerateLemmas.{drawn_more, number_more}
use Rattle.quartz_tree.specs.declared.declare.Base.TheVariants as base
use Rattle.trace_io.proofs.generate.draw_values.Goals as goal

pub loop-base-preserved : goal.loop-base-preserved
loop-base-preserved c =
    let fits : SFits w64 c.draw.result = search rules in
    record {
      many = search rules;
      values = drawn_more c.args.types.now c.loop-base.base-index c.loop-base.last c.number_after-last.result base.Bool c.draw.result c.loop-base.values.items c.push_reserved.new.self.items _ c.loop-base-test.true c.loop-base.invariant.values c.number_after-last.ensures c.draw.ensures (c.push_reserved.ensures.items ∙ ap (λ (z : ℤ). c.loop-base.values.items ++ (z ∷ [])) (to_z-of_z w64 c.draw.result fits));
      number = number_more c.args.types.now c.loop-base.base-index c.loop-base.last c.number_after-last.result base.Bool _ c.loop-base-test.true c.loop-base.invariant.number c.number_after-last.ensures;
      room = search rules;
      stays = search rules;
    }
