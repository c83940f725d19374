-- The sources, sinks and shelves in memory, of which some calls fail. Calls are counted from 0.
use Rattle.std.specs.Prelude.{ℕ, ◌-◌, List, [], ◌∷◌, ◌++◌, length, drop, min, slice_get, Option, Some, None, unwrap_or, if◌then◌else◌}
use Rattle.std.specs.Str.{bytes_eq}
use Rattle.outside.specs.Bytes.{one_more}

-- a source: the bytes left, the sizes of its pieces, the calls that fail, the calls made and the faults
pub record Supply : Type 0 where
  pub left : List ℕ
  pub pieces : List ℕ
  pub fails : List ℕ
  pub calls : ℕ
  pub faults : ℕ

-- the bound on call j's piece: its own size, the last one's for later calls, or none
abbrev pub piece_bound : List ℕ → ℕ → Option ℕ
piece_bound pieces j = slice_get pieces (min j (length pieces - 1))

-- how many bytes the next call gives to a buffer of this size
abbrev pub portion : Supply → ℕ → ℕ
portion s room = min (unwrap_or (piece_bound s.pieces s.calls) room) (min room (length s.left))

-- after a call that gave n bytes
abbrev pub supplied : Supply → ℕ → Supply
supplied s n = record s { left = drop n s.left; calls = one_more s.calls }

-- after a call that failed
abbrev pub missed : Supply → Supply
missed s = record s { calls = one_more s.calls; faults = one_more s.faults }

-- a sink: the bytes that it holds, for how many it has room, the calls that fail, the calls made and the faults
pub record Cellar : Type 0 where
  pub bytes : List ℕ
  pub room : ℕ
  pub fails : List ℕ
  pub calls : ℕ
  pub faults : ℕ

-- after a call that took these bytes
abbrev pub filled : Cellar → List ℕ → Cellar
filled s piece = record s { bytes = s.bytes ++ piece; calls = one_more s.calls }

-- after a call that failed
abbrev pub refused : Cellar → Cellar
refused s = record s { calls = one_more s.calls; faults = one_more s.faults }

-- a named text
pub record Text : Type 0 where
  pub name : List ℕ
  pub bytes : List ℕ

-- a shelf: its texts, the newest first, the calls that fail, the calls made and the faults
pub record Books : Type 0 where
  pub texts : List Text
  pub fails : List ℕ
  pub calls : ℕ
  pub faults : ℕ

-- the newest text of a name
abbrev pub text_of : List Text → List ℕ → Option (List ℕ)
text_of [] name = None
text_of (t ∷ ts) name = if bytes_eq t.name name then Some t.bytes else text_of ts name

-- with this text of a name
abbrev pub with_text : Books → List ℕ → List ℕ → Books
with_text s name bytes = record s { texts = record { name = name; bytes = bytes } ∷ s.texts }

-- after a fetch that filled the buffer, or that found no such name
abbrev pub looked_up : Books → Books
looked_up s = record s { calls = one_more s.calls }

-- after a fetch that failed
abbrev pub unread : Books → Books
unread s = record s { calls = one_more s.calls; faults = one_more s.faults }
