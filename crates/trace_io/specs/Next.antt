-- The next step of a trace behind its header, from the last values on.
use Rattle.std.specs.Prelude.{◌≡◌, ◌≤◌, ℕ, ℤ, Bool, true, false, List, [], ◌∷◌, ◌++◌, length, Option, Some, None, if◌then◌else◌}
use Rattle.outside.specs.Bytes.{Rose}
use Rattle.trace_io.specs.declared.field.Field.{Field}
use Rattle.trace_io.specs.declared.step.ReadStep.{ReadStep}
use Rattle.trace_io.specs.declared.step.ReadStep.TheVariants as step
use Rattle.trace_io.specs.Lines.{lines, words, text_in, is_short}
use Rattle.trace_io.specs.Scan.{reads_by}
use Rattle.trace_io.specs.Held.{Held, CalledAtMost, WasWhole, has_line_end}

-- what a reader of steps holds: its lines, the elements in the order of reading, whether `_` keeps a value, and the last values
pub record Course : Type 0 where
  pub held : Held
  pub fields : List Field
  pub may_keep : Bool
  pub last : List ℤ

-- the values behind a line
abbrev pub line_by : (may_keep : Bool) → List Field → (last : List ℤ) → (line : List ℕ) → Option (List ℤ)
line_by k fs last line = if is_short line then reads_by k fs (words (text_in line)) last else None

-- a line that was read: the values behind it, and what is left then
pub record Stepped (start : Course) (bytes : List ℕ) (c : Course) (values : List ℤ) (left : Option (List ℕ)) : Type 0 where
  pub line : List ℕ
  pub rest : List ℕ
  pub first : lines bytes ≡ line ∷ lines (c.held.waiting ++ rest)
  pub left_is : left ≡ Some rest
  pub all : line ++ (c.held.waiting ++ rest) ≡ bytes
  pub whole : WasWhole line c.held
  pub read : line_by start.may_keep start.fields start.last line ≡ Some c.last
  pub given : values ≡ c.last

-- a line that isn't readable
pub record Unreadable (start : Course) (bytes : List ℕ) : Type 0 where
  pub line : List ℕ
  pub others : List (List ℕ)
  pub first : lines bytes ≡ line ∷ others
  pub unread : line_by start.may_keep start.fields start.last line ≡ None

-- all bytes are still there after a failed read, and no line of them is whole
pub record Untaken (bytes : List ℕ) (h : Held) (left : Option (List ℕ)) : Type 0 where
  pub rest : List ℕ
  pub left_is : left ≡ Some rest
  pub none_waits : h.waiting ≡ []
  pub all : h.line ++ rest ≡ bytes
  pub not_whole : has_line_end h.line ≡ false
  pub short : length h.line ≤ 65536

-- what came of reading a step
abbrev pub Comes : ReadStep → (start : Course) → (bytes : List ℕ) → (c : Course) → (values : List ℤ) → (left : Option (List ℕ)) → Type 0
Comes step.Step start bytes c values left = Stepped start bytes c values left
Comes step.End start bytes c values left = (bytes ≡ []) × (left ≡ Some []) × (c.held.waiting ≡ [])
Comes step.Bad start bytes c values left = Unreadable start bytes
Comes step.ReadFault start bytes c values left = Untaken bytes c.held left

-- what a reader of steps promises, over the bytes that waited and those left in the source, the count of faults and the number of calls
pub record ReadNext (start : Course) (left_before : Option (List ℕ)) (faults_before : ℕ) (calls_before : Option ℕ) (r : ReadStep) (c : Course) (values : List ℤ) (left : Option (List ℕ)) (faults : ℕ) (calls : Option ℕ) : Type 0 where
  pub never_falls : faults_before ≤ faults
  pub counted : CalledAtMost 65538 calls_before calls
  pub rose : r ≡ step.ReadFault → Rose faults_before faults
  pub asked : r ≡ step.ReadFault → start.held.ended ≡ false
  pub told : (bytes : List ℕ) → left_before ≡ Some bytes → (start.held.ended ≡ true → bytes ≡ []) → Comes r start (start.held.waiting ++ bytes) c values left × (c.held.ended ≡ true → left ≡ Some [])
