use Rattle.quartz_parser.proofs.Agreement.{one_module, one_text, reads_modules, reads_texts}
use Rattle.quartz_parser.proofs.law.law_of_reading.Goals as goal

pub returns : goal.returns
returns c = record { one_module = one_module; one_text = one_text; modules = reads_modules; texts = reads_texts }
