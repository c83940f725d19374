-- A reader of traces of both formats: what it means, and what it promises of each step.
use Rattle.std.specs.Prelude.{◌≡◌, ◌≤◌, ℕ, ℤ, Bool, true, false, ◌&&◌, ◌⊎◌, List, [], ◌∷◌, ◌++◌, length, Option, Some, None, if◌then◌else◌}
use Rattle.outside.specs.Bytes.{Rose}
use Rattle.trace_io.specs.declared.field.Field.{Field}
use Rattle.trace_io.specs.declared.step.ReadStep.{ReadStep}
use Rattle.trace_io.specs.declared.step.ReadStep.TheVariants as step
use Rattle.trace_io.specs.Lines.{lines, joined_lines, is_ended}
use Rattle.trace_io.specs.Reading.{is_header, up_to_none}
use Rattle.trace_io.specs.Held.{CalledAtMost, has_line_end}
use Rattle.trace_io.specs.Header.{Named, header_by}
use Rattle.trace_io.specs.Next.{Course, line_by}

-- how far a reader is: its course, the inputs, and whether nothing was read yet
pub record Trail : Type 0 where
  pub course : Course
  pub inputs : List Named
  pub is_fresh : Bool

-- a reader of a trace: how far it is, and the answer that it stays with, if there is one
pub record Reader : Type 0 where
  pub trail : Trail
  pub over : Option ReadStep

-- the steps of lines that each give the elements of a course, from the last values on
abbrev pub course_steps : (may_keep : Bool) → List Field → (last : List ℤ) → (lines : List (List ℕ)) → List (Option (List ℤ))
course_steps k fs last [] = []
course_steps k fs last (line ∷ rest) = up_to_none (line_by k fs last line) (λ zs. course_steps k fs zs rest)

-- the steps behind a header that names these elements
abbrev pub behind_header : Option (List Field) → (last : List ℤ) → (lines : List (List ℕ)) → List (Option (List ℤ))
behind_header None last rest = None ∷ []
behind_header (Some fs) last rest = course_steps true fs last rest

-- the steps of lines, the first of which may be a header
abbrev pub first_steps : List Named → Course → (lines : List (List ℕ)) → List (Option (List ℤ))
first_steps is c [] = []
first_steps is c (line ∷ rest) = if is_header line then behind_header (header_by is line) c.last rest else course_steps c.may_keep c.fields c.last (line ∷ rest)

-- the steps that a reader gives for the lines that are to come
abbrev pub coming : Trail → (lines : List (List ℕ)) → List (Option (List ℤ))
coming t ls = if t.is_fresh then first_steps t.inputs t.course ls else course_steps t.course.may_keep t.course.fields t.course.last ls

-- each of the lines has its LF
abbrev pub are_ended : List (List ℕ) → Bool
are_ended [] = true
are_ended (line ∷ rest) = is_ended line && are_ended rest

-- a step: the lines that were taken for it, a header among them or not, and what is left; whatever lines follow, it is the next step
pub record Gives (start : Trail) (bytes : List ℕ) (now : Trail) (values : List ℤ) (left : Option (List ℕ)) : Type 0 where
  pub taken : List (List ℕ)
  pub rest : List ℕ
  pub left_is : left ≡ Some rest
  pub cut : lines bytes ≡ taken ++ lines (now.course.held.waiting ++ rest)
  pub all : joined_lines taken ++ (now.course.held.waiting ++ rest) ≡ bytes
  pub whole : (are_ended taken ≡ true) ⊎ ((now.course.held.ended ≡ true) × (now.course.held.waiting ≡ []))
  pub next : (ls : List (List ℕ)) → coming start (taken ++ ls) ≡ Some values ∷ coming now ls

-- the end: no line was left, or a header alone
pub record Ends (start : Trail) (bytes : List ℕ) (now : Trail) (left : Option (List ℕ)) : Type 0 where
  pub left_is : left ≡ Some []
  pub none_waits : now.course.held.waiting ≡ []
  pub no_more : coming start (lines bytes) ≡ []

-- a line that isn't readable, a header or a step; whatever follows it, the next step is none
pub record Breaks (start : Trail) (bytes : List ℕ) : Type 0 where
  pub taken : List (List ℕ)
  pub others : List (List ℕ)
  pub cut : lines bytes ≡ taken ++ others
  pub unread : (ls : List (List ℕ)) → coming start (taken ++ ls) ≡ None ∷ []

-- a failed read: the whole lines that were taken are a readable header or none, the bytes behind them are all still there, and none of what is held is whole
pub record Fails (start : Trail) (bytes : List ℕ) (now : Trail) (left : Option (List ℕ)) : Type 0 where
  pub taken : List (List ℕ)
  pub rest : List ℕ
  pub left_is : left ≡ Some rest
  pub none_waits : now.course.held.waiting ≡ []
  pub cut : lines bytes ≡ taken ++ lines (now.course.held.line ++ rest)
  pub all : joined_lines taken ++ (now.course.held.line ++ rest) ≡ bytes
  pub whole : are_ended taken ≡ true
  pub not_whole : has_line_end now.course.held.line ≡ false
  pub short : length now.course.held.line ≤ 65536
  pub none_given : coming start taken ≡ []

-- what came of reading a step
abbrev pub Answers : ReadStep → (start : Trail) → (bytes : List ℕ) → (now : Trail) → (values : List ℤ) → (left : Option (List ℕ)) → Type 0
Answers step.Step start bytes now values left = Gives start bytes now values left
Answers step.End start bytes now values left = Ends start bytes now left
Answers step.Bad start bytes now values left = Breaks start bytes
Answers step.ReadFault start bytes now values left = Fails start bytes now left

-- how often the source is asked: for each line that is taken, which are two where the first is a header
abbrev pub most_calls : (start now : Trail) → ℕ
most_calls start now = if start.is_fresh && now.course.may_keep then 131076 else 65538

-- what a reader promises of a step, over the bytes that waited and those left in the source, the count of faults and the number of calls
pub record ReadTrace (start : Trail) (left_before : Option (List ℕ)) (faults_before : ℕ) (calls_before : Option ℕ) (r : ReadStep) (now : Trail) (values : List ℤ) (left : Option (List ℕ)) (faults : ℕ) (calls : Option ℕ) : Type 0 where
  pub never_falls : faults_before ≤ faults
  pub counted : CalledAtMost (most_calls start now) calls_before calls
  pub rose : r ≡ step.ReadFault → Rose faults_before faults
  pub asked : r ≡ step.ReadFault → start.course.held.ended ≡ false
  pub told : (bytes : List ℕ) → left_before ≡ Some bytes → (start.course.held.ended ≡ true → bytes ≡ []) → Answers r start (start.course.held.waiting ++ bytes) now values left × (now.course.held.ended ≡ true → left ≡ Some [])

-- the answer that a reader stays with behind this one
abbrev pub over_by : ReadStep → Option ReadStep
over_by step.Step = None
over_by r = Some r
