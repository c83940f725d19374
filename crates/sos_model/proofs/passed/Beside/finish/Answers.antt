use Rattle.std.proofs.Common.{Some, refl}
use Rattle.sos_model.specs.declared.form.Form.TheVariants.{Par}
use Rattle.sos_model.specs.declared.found.Found.{Found}
use Rattle.sos_model.proofs.FormLemmas.{term_par}
use Rattle.sos_model.proofs.PassedLemmas.{finished}
use Rattle.sos_model.proofs.passed.Beside.finish.Goals as goal

pub returns-clause-reaction : goal.returns-clause-reaction
returns-clause-reaction c = λ t.
    let all : Found = record {
      residual = c.residual_beside.result;
      held = Some (Par c.args.self.helds);
      acts = c.args.self.acts;
      faults = c.args.self.faults;
      met = c.args.self.met;
      ended = c.args.self.ended;
      used = c.args.self.used;
    } in
    finished c.args.self t all c.residual_beside.ensures (term_par c.args.self.helds) refl refl refl refl
