-- What a source gives, what a sink takes and what a shelf has.
use Rattle.std.specs.Prelude.{◌≡◌, ℕ, ◌+◌, ◌-◌, ◌^◌, ◌<◌, ◌≤◌, ◌⊎◌, ◌↔◌, List, [], ◌++◌, length, take, drop, min, Option, Some, None}

-- the last value of a count
abbrev pub greatest_count : ℕ
greatest_count = 2 ^ 64 - 1

-- a count that goes up by one, and stays at its last value
abbrev pub one_more : ℕ → ℕ
one_more n = min (n + 1) greatest_count

-- a count rose, or stands at its last value
abbrev pub Rose : ℕ → ℕ → Type 0
Rose before after = (before < after) ⊎ (after ≡ greatest_count)

-- one more call, where calls are told
abbrev pub Counted : Option ℕ → Option ℕ → Type 0
Counted None after = after ≡ None
Counted (Some n) after = after ≡ Some (one_more n)

-- the first n of the bytes left went to the front of the buffer, and n is 0 exactly where none were left
abbrev pub Moved : Option (List ℕ) → Option (List ℕ) → ℕ → List ℕ → Type 0
Moved None after n buf = after ≡ None
Moved (Some bytes) after n buf = (n ≤ length bytes) × (after ≡ Some (drop n bytes)) × (take n buf ≡ take n bytes) × ((n ≡ 0) ↔ (bytes ≡ []))

-- the sink stands for each list for which it stood
abbrev pub StillStands : (before after : List ℕ → Type 0) → Type 0
StillStands before after = (bs : List ℕ) → before bs → after bs

-- for each list for which it stood, it stands for that list followed by these bytes
abbrev pub Gains : (before after : List ℕ → Type 0) → List ℕ → Type 0
Gains before after bytes = (bs : List ℕ) → before bs → after (bs ++ bytes)

-- it gains a prefix of these bytes that lacks at least one
abbrev pub GainsBegun : (before after : List ℕ → Type 0) → List ℕ → Type 0
GainsBegun before after bytes = (n : ℕ) × (n < length bytes) × Gains before after (take n bytes)

-- the buffer begins with the n first bytes of the text, as many as both have
abbrev pub BeginsWith : List ℕ → List ℕ → ℕ → Type 0
BeginsWith text buf n = (n ≡ min (length text) (length buf)) × (take n buf ≡ take n text)

-- what a fetch that did not fail says of the named text
abbrev pub Fetched : Option (List ℕ → Option (List ℕ)) → List ℕ → ℕ → List ℕ → Type 0
Fetched None name n buf = Unit {0}
Fetched (Some texts) name n buf = (text : List ℕ) × (texts name ≡ Some text) × BeginsWith text buf n

-- what a fetch that failed says: a fault, or a name that the told texts lack
abbrev pub Unfetched : Option (List ℕ → Option (List ℕ)) → List ℕ → (before after : ℕ) → Type 0
Unfetched None name before after = Rose before after
Unfetched (Some texts) name before after = Rose before after ⊎ (texts name ≡ None)
