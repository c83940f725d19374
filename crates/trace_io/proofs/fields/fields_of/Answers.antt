use Rattle.std.proofs.Common.{List, subst, sym, length, arith}
use Rattle.quartz_tree.specs.declared.declare.Base.TheVariants as base
use Rattle.trace_io.specs.declared.field.Field.{Field}
use Rattle.trace_io.specs.Scan.{AreFields}
use Rattle.trace_io.proofs.FieldLemmas.{field_more, fields_all, fields_sound}
use Rattle.trace_io.proofs.fields.fields_of.Goals as goal

pub loop-place-preserved : goal.loop-place-preserved
loop-place-preserved c = field_more c.args.types.now c.loop-place.place base.Bool c.loop-place.fields.items c.push.new.self.items _ c.loop-place-test.true c.loop-place.invariant c.in_ok-push.ensures.items

pub returns-clause-fields : goal.returns-clause-fields
returns-clause-fields c = fields_all c.args.types.now c.loop-place.place c.loop-place.fields.items _ c.loop-place-test.false c.loop-place.invariant

pub returns-clause-sound : goal.returns-clause-sound
returns-clause-sound c =
    subst (λ (fs : List Field). AreFields (length c.args.types.now) fs) (sym (fields_all c.args.types.now c.loop-place.place c.loop-place.fields.items _ c.loop-place-test.false c.loop-place.invariant))
    (fields_sound 0 (length c.args.types.now) c.args.types.now (omega arith) c.requires)
