use Rattle.quartz_build.proofs.BuildLemmas.{allowed_as, refused_as}
use Rattle.quartz_build.proofs.building.build_strictly.Goals as goal

pub returns-in-Ok : goal.returns-in-Ok
returns-in-Ok c = allowed_as c.args.is_strict c.args.wants_pairs c.args.typed.now c.in-Ok.built c.allow.result c.requires c.in-Ok.ensures c.allow.ensures

pub returns-in-Err : goal.returns-in-Err
returns-in-Err c = refused_as c.args.is_strict c.args.wants_pairs c.args.typed.now c.in-Err.fault c.in-Err.ensures
