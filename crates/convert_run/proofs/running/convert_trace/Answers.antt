use Rattle.convert_run.proofs.running.convert_trace.Goals as goal

pub returns-clause-told : goal.returns-clause-told
returns-clause-told g c = c.convert_in-status.ensures.told c.args.format c.args.vars.now c.requires c.in_ok-room.ensures
