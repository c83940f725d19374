-- What a command writes of how it ended, and the number that it ends with.
use Rattle.std.specs.Prelude.{ℕ, List, [], ◌∷◌, ◌++◌, codes, decimal}
use Rattle.quartz_tree.specs.declared.place.Place.{Place}
use Rattle.quartz_tree.specs.declared.fault.Kind.{Kind}
use Rattle.quartz_tree.specs.declared.fault.Kind.TheVariants.{Range, Index, Divisor, Conflict}
use Rattle.outside.specs.declared.status.Status.{Status}
use Rattle.outside.specs.declared.status.Status.TheVariants as status

-- the exit status
abbrev pub number_of : Status → ℕ
number_of status.Ok = 0
number_of status.Usage = 1
number_of status.ModuleUnavailable = 2
number_of (status.Refused _ _) = 3
number_of (status.BadInput _) = 4
number_of (status.RunFault _ _ _) = 5
number_of status.ReadFault = 6
number_of status.WriteFault = 7
number_of status.StepLimit = 8
number_of status.NoMemory = 9
number_of (status.BadWitness _) = 10

abbrev pub line_end : List ℕ
line_end = 10 ∷ []

-- a line, a colon, a column and the line's end
abbrev pub place_text : Place → List ℕ
place_text p = decimal p.line ++ (codes ":" ++ (decimal p.col ++ line_end))

abbrev pub kind_text : Kind → List ℕ
kind_text Range = codes "range"
kind_text Index = codes "index"
kind_text Divisor = codes "divisor"
kind_text Conflict = codes "conflict"

abbrev pub refusal_text : ℕ → Place → List ℕ
refusal_text rule place = codes "averest: refused S" ++ (decimal rule ++ (codes " at " ++ place_text place))

abbrev pub fault_text : ℕ → Kind → Place → List ℕ
fault_text step kind place = codes "averest: " ++ (kind_text kind ++ (codes " at step " ++ (decimal step ++ (codes ", " ++ place_text place))))

-- the report line of a status, with its LF, and nothing where the command was done
abbrev pub report_line : Status → List ℕ
report_line status.Ok = []
report_line status.Usage = codes "averest: usage\n"
report_line status.ModuleUnavailable = codes "averest: module unavailable\n"
report_line (status.Refused rule place) = refusal_text rule place
report_line (status.BadInput step) = codes "averest: bad input at step " ++ (decimal step ++ line_end)
report_line (status.RunFault step kind place) = fault_text step kind place
report_line status.ReadFault = codes "averest: read fault\n"
report_line status.WriteFault = codes "averest: write fault\n"
report_line status.StepLimit = codes "averest: step limit\n"
report_line status.NoMemory = codes "averest: no memory\n"
report_line (status.BadWitness step) = codes "averest: bad witness at step " ++ (decimal step ++ line_end)
