-- What is put, one after another, and the part of it where a put failed.
use Rattle.std.proofs.Common.{rules}
use Rattle.aif_cells.proofs.PutLemmas.{puts_more, puts_part}
use Rattle.aif_cells.specs.Text.{register_line}
use Rattle.aif_cells.proofs.text.put_registers.Goals as goal

pub returns-in_err-put_register : goal.returns-in_err-put_register
returns-in_err-put_register g c = puts_part register_line c.args.registers.now c.loop-number.number _ (search rules) (search rules) c.loop-number.invariant c.in_err-put_register.ensures

pub loop-number-preserved : goal.loop-number-preserved
loop-number-preserved g c = puts_more register_line c.args.registers.now c.loop-number.number _ (search rules) c.loop-number.invariant c.in_ok-put_register.ensures
