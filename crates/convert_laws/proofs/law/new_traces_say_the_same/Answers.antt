use Rattle.convert_laws.proofs.SameLemmas as same
use Rattle.convert_laws.proofs.law.new_traces_say_the_same.Goals as goal

pub returns : goal.returns
returns c = record { same = same.new_traces_say_the_same; plain = same.plain_lines_are_as_outputs }
