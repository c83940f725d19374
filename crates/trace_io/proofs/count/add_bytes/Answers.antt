use Rattle.std.proofs.Common.{rules, inl, refl}
use Rattle.trace_io.proofs.CountLemmas.{kept_more, kept_all}
use Rattle.trace_io.proofs.count.add_bytes.Goals as goal

pub loop-byte-init : goal.loop-byte-init
loop-byte-init c = record { kept = inl (refl, λ x. x); within = search rules; room = search rules; stays = search rules }

pub loop-byte-preserved : goal.loop-byte-preserved
loop-byte-preserved c = record {
  kept = kept_more c.args.line.now.items c.args.bytes.now c.loop-byte.line.items c.add_byte.new.line.items c.loop-byte.byte-index c.loop-byte-test.true c.loop-byte.invariant.kept c.add_byte.ensures.added;
  within = search rules;
  room = search rules;
  stays = search rules;
}

pub returns-clause-added : goal.returns-clause-added
returns-clause-added c = kept_all c.args.line.now.items c.args.bytes.now c.loop-byte.line.items c.loop-byte.byte-index c.loop-byte-test.false c.loop-byte.invariant.kept
