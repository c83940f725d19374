-- What is put, one after another, and the part of it where a put failed.
use Rattle.std.proofs.Common.{rules, sym}
use Rattle.outside.proofs.PutsLemmas.{puts_first, puts_same, puts_then}
use Rattle.aif_cells.proofs.ListLemmas.{left_on, output_lines_apart, output_lines_more, output_text_is}
use Rattle.aif_cells.proofs.text.put_outputs.Goals as goal

pub returns-in_err-put_if_output : goal.returns-in_err-put_if_output
returns-in_err-put_if_output g c = puts_same (sym (output_lines_apart c.args.outputs.now c.args.vars.now c.loop-number.number c.index-vars-number.result (search rules))) (puts_first _ (search rules) (puts_then c.loop-number.invariant.puts (puts_same (output_text_is c.args.outputs.now c.loop-number.left.now c.args.vars.now c.loop-number.number c.index-vars-number.result c.index-vars-number.is c.loop-number.invariant.cells) c.in_err-put_if_output.ensures)))

pub loop-number-preserved : goal.loop-number-preserved
loop-number-preserved g c = record {
  cells = left_on c.args.outputs.now c.loop-number.left.now c.behind-left.result.now c.args.vars.now c.loop-number.number c.index-vars-number.result c.count_output_elements.result (search rules) c.index-vars-number.is c.loop-number.invariant.cells c.count_output_elements.ensures c.behind-left.ensures;
  puts = puts_same (sym (output_lines_more c.args.outputs.now c.args.vars.now c.loop-number.number c.index-vars-number.result (search rules))) (puts_then c.loop-number.invariant.puts (puts_same (output_text_is c.args.outputs.now c.loop-number.left.now c.args.vars.now c.loop-number.number c.index-vars-number.result c.index-vars-number.is c.loop-number.invariant.cells) c.in_ok-put_if_output.ensures));
}
