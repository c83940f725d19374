use Rattle.statement_cells.specs.Builder.{and_of, enter, zero_ref}
use Rattle.statement_builder.proofs.StepLemmas.{made_then_done, done_giving}
use Rattle.statement_builder.proofs.builder.Builder.start_pause.Goals as goal

pub returns : goal.returns
returns c = done_giving c.args.self.now c.enter.new.self zero_ref _ (made_then_done c.args.self.now c.and_of.new.self c.enter.new.self c.in_ok-entered.entered (λ κ. and_of c.args.go c.args.step) (λ x κ. enter c.args.label x) c.in_ok-entered.ensures c.in_ok-enter.ensures)
