-- What a reader of lines holds, and what it finds.
use Rattle.std.specs.Prelude.{◌≡◌, ◌≤◌, ◌+◌, ℕ, Bool, true, false, ◌==◌, ◌||◌, ◌⊎◌, List, [], ◌∷◌, ◌++◌, length, min, Option, Some, None}
use Rattle.outside.specs.Bytes.{Rose}
use Rattle.trace_io.specs.declared.lines.Found.{Found}
use Rattle.trace_io.specs.declared.lines.Found.TheVariants as found
use Rattle.trace_io.specs.Lines.{lines, is_short, is_ended}

-- the line that was read last, or its bytes so far; the bytes that were taken and belong to no line yet; and whether the source has ended
pub record Held : Type 0 where
  pub line : List ℕ
  pub waiting : List ℕ
  pub ended : Bool

-- an LF stands in the bytes
abbrev pub has_line_end : List ℕ → Bool
has_line_end [] = false
has_line_end (c ∷ cs) = c == 10 || has_line_end cs

-- an LF stands at the end, and none before
pub record IsClosed (line : List ℕ) : Type 0 where
  pub front : List ℕ
  pub is : line ≡ front ++ (10 ∷ [])
  pub open_front : has_line_end front ≡ false

-- what adding bytes to a line came to, and what waits then: it is closed, or it isn't and no byte waits, or it is too long
abbrev pub Came : (closes : Bool) → (line waiting : List ℕ) → Type 0
Came true line waiting = IsClosed line
Came false line waiting = (has_line_end line ≡ false) × ((waiting ≡ []) ⊎ (length line ≡ 65537))

-- the first of the lines of some bytes isn't short
pub record StartsLong (bytes : List ℕ) : Type 0 where
  pub line : List ℕ
  pub others : List (List ℕ)
  pub is : lines bytes ≡ line ∷ others
  pub long : is_short line ≡ false

-- a line ends with its LF, or it was the last piece, and nothing is left
abbrev pub WasWhole : (line : List ℕ) → Held → Type 0
WasWhole line h = (is_ended line ≡ true) ⊎ ((h.ended ≡ true) × (h.waiting ≡ []))

-- what was found at the front of the bytes: a line, their end, or a line that is too long; after a failed read all bytes are still there, and no whole line is held
abbrev pub Finds : Found → (bytes : List ℕ) → Held → (left : Option (List ℕ)) → Type 0
Finds found.Line bytes h left = (rest : List ℕ) × (left ≡ Some rest) × (lines bytes ≡ h.line ∷ lines (h.waiting ++ rest)) × (is_short h.line ≡ true) × (h.line ++ (h.waiting ++ rest) ≡ bytes) × WasWhole h.line h
Finds found.End bytes h left = (bytes ≡ []) × (left ≡ Some []) × (h.waiting ≡ [])
Finds found.TooLong bytes h left = StartsLong bytes
Finds found.Failed bytes h left = (rest : List ℕ) × (left ≡ Some rest) × (h.waiting ≡ []) × (h.line ++ rest ≡ bytes) × (has_line_end h.line ≡ false) × (length h.line ≤ 65536)

-- at most so many calls, where calls are told
abbrev pub CalledAtMost : ℕ → (before after : Option ℕ) → Type 0
CalledAtMost n None after = after ≡ None
CalledAtMost n (Some a) after = (b : ℕ) × (after ≡ Some b) × (b ≤ a + n)

-- what a reader promises of a read: over the bytes that waited and those left in the source, the count of faults and the number of calls
pub record Read (start : Held) (left_before : Option (List ℕ)) (faults_before : ℕ) (calls_before : Option ℕ) (f : Found) (h : Held) (left : Option (List ℕ)) (faults : ℕ) (calls : Option ℕ) : Type 0 where
  pub never_falls : faults_before ≤ faults
  pub counted : CalledAtMost 65538 calls_before calls
  pub rose : f ≡ found.Failed → Rose faults_before faults
  pub asked : f ≡ found.Failed → start.ended ≡ false
  pub told : (bytes : List ℕ) → left_before ≡ Some bytes → (start.ended ≡ true → bytes ≡ []) → Finds f (start.waiting ++ bytes) h left × (h.ended ≡ true → left ≡ Some [])

-- while a line is read: what was moved into it and what waits, before what is left
pub record Reading (start : Held) (left_before : Option (List ℕ)) (faults_before : ℕ) (calls_before : Option ℕ) (h : Held) (left : Option (List ℕ)) (faults : ℕ) (calls : Option ℕ) : Type 0 where
  pub still_open : has_line_end h.line ≡ false
  pub short : length h.line ≤ 65536
  pub never_falls : faults_before ≤ faults
  pub counted : CalledAtMost (length h.line + min 1 (length h.waiting)) calls_before calls
  pub told : (bytes : List ℕ) → left_before ≡ Some bytes → (start.ended ≡ true → bytes ≡ []) → (rest : List ℕ) × (left ≡ Some rest) × (h.line ++ (h.waiting ++ rest) ≡ start.waiting ++ bytes) × (h.ended ≡ true → rest ≡ [])

-- nothing has been done yet, or the source was asked since no LF waited and it hadn't ended
abbrev pub Begun : (start h : Held) → (untouched : Type 0) → Type 0
Begun start h untouched = ((h.line ≡ []) × (h.waiting ≡ start.waiting) × (h.ended ≡ start.ended) × untouched) ⊎ ((has_line_end start.waiting ≡ false) × (start.ended ≡ false))
