-- What the program's values for texts stand for in the reader.
use Rattle.std.specs.Prelude.{◌≡◌, ◌<◌, ℕ, Bool, true, false, length, List, [], ◌∷◌, ◌++◌, Option, Some, None, map}
use Rattle.quartz_tree.specs.Surfaces.{Written, ModuleTree, module_tree}
use Rattle.quartz_tree.specs.declared.surface.Module.{Module}
use Rattle.quartz_parser.specs.declared.marks.Marks.{Marks}
use Rattle.quartz_parser.specs.declared.reader.Rest.{Rest}
use Rattle.quartz_parser.specs.declared.reader.Rest.TheVariants.{Between, Alone, Head, Body}
use Rattle.quartz_parser.specs.declared.reader.Control.{Control}
use Rattle.quartz_parser.specs.declared.reader.Reader.{Reader}
use Rattle.quartz_parser.specs.declared.reader.Act.{Act}
use Rattle.quartz_parser.specs.declared.reader.Act.TheVariants as a
use Rattle.quartz_parser.specs.declared.reader.End.{End}
use Rattle.quartz_parser.specs.declared.reader.End.TheVariants as e
use Rattle.quartz_parser.specs.Tokens.{Token}
use Rattle.quartz_parser.specs.Machine.{State, alone, several, module_start, text_start, step, ended}
use Rattle.quartz_parser.specs.Views.{behind}
use Rattle.quartz_parser.specs.StatementViews.{open_next, part_state, weight}
use Rattle.quartz_parser.specs.HeadingViews.{heading_state}

-- where a text, or one module, begins
abbrev pub start_state : (many : Bool) → State
start_state true = text_start
start_state false = module_start

-- what comes behind a module
abbrev pub module_next : (many : Bool) → List Module → ModuleTree → State
module_next true ms n = several (map module_tree ms ++ n ∷ [])
module_next false ms n = alone n

-- what comes behind the body of the module that is read
abbrev pub body_next : (many : Bool) → Reader → Written → State
body_next many r b = module_next many r.modules.items (record { name = r.header.name; params = r.header.params.items; body = b })

abbrev pub rest_state : (many : Bool) → Rest → Reader → State
rest_state true Between r = several (map module_tree r.modules.items)
rest_state false Between r = module_start
rest_state many (Alone n) r = alone (module_tree n)
rest_state many (Head h) r = heading_state h r.header.name r.header.params.items (module_next many r.modules.items)
rest_state many (Body p) r = part_state p (open_next r.waiting.items (body_next many r))

abbrev pub control_state : (many : Bool) → Control → Reader → State
control_state many c r = behind c.marks (rest_state many c.rest r)

-- how often the token can still be for what comes in place of this
abbrev pub rest_weight : Marks → Rest → Reader → ℕ
rest_weight marks (Body p) r = weight marks p (length r.waiting.items)
rest_weight marks _ r = 0

abbrev pub control_weight : Control → Reader → ℕ
control_weight c r = rest_weight c.marks c.rest r

-- the state behind a token, by what it does to a text
abbrev pub stepped : (many : Bool) → Act → Reader → Token → Option State
stepped many (a.Taken c) r t = Some (control_state many c r)
stepped many (a.Past c) r t = step (control_state many c r) t
stepped many a.Stuck r t = None

-- the token is passed on to what can pass it on less often
abbrev pub Drops : Act → Reader → (before : ℕ) → Type 0
Drops (a.Past c) r w = control_weight c r < w
Drops (a.Taken c) r w = Unit {0}
Drops a.Stuck r w = Unit {0}

-- the modules that were read where the tokens end
abbrev pub left_by : (many : Bool) → End → Reader → Option (List ModuleTree)
left_by many (e.Past c) r = ended (control_state many c r)
left_by many (e.Module n) r = Some (module_tree n ∷ [])
left_by true e.Modules r = ended (several (map module_tree r.modules.items))
left_by false e.Modules r = None
left_by many e.Broken r = None

abbrev pub LeavesLess : End → Reader → (before : ℕ) → Type 0
LeavesLess (e.Past c) r w = control_weight c r < w
LeavesLess (e.Module n) r w = Unit {0}
LeavesLess e.Modules r w = Unit {0}
LeavesLess e.Broken r w = Unit {0}

-- nothing is left to be seen
abbrev pub IsLast : End → Type 0
IsLast (e.Past c) = ⊥
IsLast (e.Module n) = Unit {0}
IsLast e.Modules = Unit {0}
IsLast e.Broken = Unit {0}
