-- What is put, one after another, and the part of it where a put failed.
use Rattle.std.proofs.Common.{rules, arith, sym}
use Rattle.outside.proofs.PutsLemmas.{puts_first, puts_same, puts_then}
use Rattle.aif_cells.proofs.ListLemmas.{counted_on, input_lines_apart, input_lines_more, input_text_is, within_inputs}
use Rattle.aif_cells.proofs.text.put_inputs.Goals as goal

pub put_if_input-requires : goal.put_if_input-requires
put_if_input-requires g c = omega (arith, within_inputs c.args.vars.now c.loop-number.number c.index-vars-number.result c.loop-number.first (search rules) c.index-vars-number.is c.loop-number.invariant.counted)

pub overflow_cast-first : goal.overflow_cast-first
overflow_cast-first g c = omega (arith, c.count_input_elements.ensures, within_inputs c.args.vars.now c.loop-number.number c.index-vars-number.result c.loop-number.first (search rules) c.index-vars-number.is c.loop-number.invariant.counted)

pub overflow_add-first : goal.overflow_add-first
overflow_add-first g c = omega (arith, c.count_input_elements.ensures, within_inputs c.args.vars.now c.loop-number.number c.index-vars-number.result c.loop-number.first (search rules) c.index-vars-number.is c.loop-number.invariant.counted)

pub returns-in_err-put_if_input : goal.returns-in_err-put_if_input
returns-in_err-put_if_input g c = puts_same (sym (input_lines_apart c.args.vars.now c.loop-number.number c.index-vars-number.result (search rules))) (puts_first _ (search rules) (puts_then c.loop-number.invariant.puts (puts_same (input_text_is c.args.vars.now c.loop-number.number c.index-vars-number.result c.loop-number.first c.index-vars-number.is c.loop-number.invariant.counted) c.in_err-put_if_input.ensures)))

pub loop-number-preserved : goal.loop-number-preserved
loop-number-preserved g c = record {
  counted = counted_on c.args.vars.now c.loop-number.number c.index-vars-number.result c.loop-number.first c.count_input_elements.result (search rules) c.index-vars-number.is c.loop-number.invariant.counted c.count_input_elements.ensures;
  puts = puts_same (sym (input_lines_more c.args.vars.now c.loop-number.number c.index-vars-number.result (search rules))) (puts_then c.loop-number.invariant.puts (puts_same (input_text_is c.args.vars.now c.loop-number.number c.index-vars-number.result c.loop-number.first c.index-vars-number.is c.loop-number.invariant.counted) c.in_ok-put_if_input.ensures));
}
