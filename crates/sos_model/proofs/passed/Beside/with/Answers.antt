use Rattle.sos_model.specs.FormTerms.{term}
use Rattle.sos_model.specs.declared.passed.Beside.{Beside}
use Rattle.sos_model.proofs.PassedLemmas.{beside_more}
use Rattle.sos_model.proofs.passed.Beside.with.Goals as goal

pub returns-clause-passed : goal.returns-clause-passed
returns-clause-passed c = λ p.
    let next : Beside = record {
      residuals = c.in_ok-residuals.residuals;
      helds = c.in_ok-helds.helds;
      acts = c.in_ok-acts.acts;
      faults = c.in_ok-faults.faults;
      met = c.in_ok-met.met;
      ended = c.both-ended.result;
      used = 0;
    } in
    beside_more c.args.self next (term c.args.form.now) c.args.found c.in_ok-held.held p c.in_ok-residuals.ensures c.in_ok-helds.ensures c.in_ok-held.ensures c.in_ok-acts.ensures c.in_ok-faults.ensures c.in_ok-met.ensures c.both-ended.ensures
