use Rattle.std.proofs.Common.{Err, ap}
use Rattle.typed_terms.proofs.TypedLemmas.{typed_is_sound}
use Rattle.quartz_build.specs.declared.building.Built.{Built}
use Rattle.quartz_build.proofs.BuildLemmas.{cells_built, names_cells, order_refused, size_refused}
use Rattle.quartz_build.proofs.building.build_typed.Goals as goal

pub compile-requires-clause-types : goal.compile-requires-clause-types
compile-requires-clause-types c = (typed_is_sound c.args.typed.now).types

pub compile-requires-clause-sound : goal.compile-requires-clause-sound
compile-requires-clause-sound c = (typed_is_sound c.args.typed.now).sound

pub order-requires-clause-named : goal.order-requires-clause-named
order-requires-clause-named c = names_cells c.args.typed.now c.in-Ok.aif c.in-Ok.ensures.compiled

pub returns-in-Err : goal.returns-in-Err
returns-in-Err c = rw c.from.ensures (size_refused c.args.wants_pairs c.args.typed.now c.in-Err.fault (λ e. c.in-Err.ensures.too_large (ap Err e)))

pub returns-in-Err-order : goal.returns-in-Err-order
returns-in-Err-order c = rw c.from-in-Err-order.ensures (order_refused c.args.wants_pairs c.args.typed.now c.in-Ok.aif c.in-Err-order.fault c.in-Ok.ensures.fits c.in-Ok.ensures.compiled c.in-Err-order.ensures.fault)

pub returns-in-Ok-tell_pairs : goal.returns-in-Ok-tell_pairs
returns-in-Ok-tell_pairs c =
    let built : Built = record { aif = c.in-Ok.aif; order = c.in-Ok-order.order; pairs = c.in-Ok-tell_pairs.pairs } in
    cells_built c.args.wants_pairs c.args.typed.now built c.in-Ok.ensures.fits c.in-Ok.ensures.name c.in-Ok.ensures.vars c.in-Ok.ensures.inputs c.in-Ok.ensures.compiled c.in-Ok-order.ensures.acyclic c.in-Ok-order.ensures.ordered c.in-Ok-tell_pairs.ensures
