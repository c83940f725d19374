-- How the faults of tokens, of the grammar, of names, of kinds, of sizes and of orders are refused.
use Rattle.quartz_lexer.specs.declared.fault.LexFault.{LexFault}
use Rattle.quartz_lexer.specs.declared.fault.LexFault.TheVariants as lexing
use Rattle.quartz_parser.specs.declared.fault.ParseFault.{ParseFault}
use Rattle.quartz_parser.specs.declared.fault.ParseFault.TheVariants as parsing
use Rattle.quartz_names.specs.declared.fault.NamesFault.{NamesFault}
use Rattle.quartz_names.specs.declared.fault.NamesFault.TheVariants as naming
use Rattle.quartz_types.specs.declared.fault.TypeFault.{TypeFault}
use Rattle.quartz_types.specs.declared.fault.TypeFault.TheVariants as typing
use Rattle.quartz_lexer.specs.Lexing.{origin}
use Rattle.surface_depth.specs.declared.fault.CompileFault.{CompileFault}
use Rattle.surface_depth.specs.declared.fault.CompileFault.TheVariants as compiling
use Rattle.causality_check.specs.declared.fault.OrderFault.{OrderFault}
use Rattle.causality_check.specs.declared.fault.OrderFault.TheVariants as ordering
use Rattle.quartz_build.specs.declared.fault.BuildFault.{BuildFault}
use Rattle.quartz_build.specs.declared.fault.BuildFault.TheVariants.{Refused, NoMemory}

abbrev pub lex_refusal : LexFault → BuildFault
lex_refusal (lexing.S1 p) = Refused 1 p
lex_refusal lexing.NoMemory = NoMemory

abbrev pub parse_refusal : ParseFault → BuildFault
parse_refusal (parsing.S2 p) = Refused 2 p
parse_refusal parsing.NoMemory = NoMemory

abbrev pub names_refusal : NamesFault → BuildFault
names_refusal (naming.S3 p) = Refused 3 p
names_refusal naming.NoMemory = NoMemory

abbrev pub types_refusal : TypeFault → BuildFault
types_refusal (typing.Rule r p) = Refused r p
types_refusal typing.NoMemory = NoMemory

abbrev pub compile_refusal : CompileFault → BuildFault
compile_refusal compiling.S8 = Refused 8 origin
compile_refusal compiling.NoMemory = NoMemory

abbrev pub order_refusal : OrderFault → BuildFault
order_refusal (ordering.Cycle cells p) = Refused 9 p
order_refusal ordering.NoMemory = NoMemory
