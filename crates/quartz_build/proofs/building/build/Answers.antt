use Rattle.quartz_build.specs.Broken.{scrutiny_of}
use Rattle.quartz_build.proofs.BuildLemmas.{built_as, front_refused}
use Rattle.quartz_build.proofs.building.build.Goals as goal

pub returns-in-Ok : goal.returns-in-Ok
returns-in-Ok c = built_as (scrutiny_of c.args.is_strict) c.args.wants_pairs c.args.text.now c.in-Ok.typed c.build_strictly.result c.in-Ok.ensures c.build_strictly.ensures

pub returns-in-Err : goal.returns-in-Err
returns-in-Err c = front_refused (scrutiny_of c.args.is_strict) c.args.wants_pairs c.args.text.now c.in-Err.fault c.in-Err.ensures
