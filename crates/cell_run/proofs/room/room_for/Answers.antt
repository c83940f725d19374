use Rattle.std.proofs.Common.{◌∙◌, length, ap, rules}
use Rattle.std.proofs.lemmas.List.{length-map}
use Rattle.cell_run.proofs.room.room_for.Goals as goal

pub returns : goal.returns
returns c = record {
  fits = record {
    registers = ap length c.in_ok-registers.ensures ∙ (length-map _ _ ∙ search rules);
    next = search rules;
    cells = search rules;
    inputs = search rules;
    outputs = search rules;
    writer = search rules;
  };
  first = search rules;
  new = record { means = search rules; holds = search rules; fresh = search rules; goes_on = search rules };
}
