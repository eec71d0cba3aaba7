-- What reading a source to its end gives.
use Rattle.std.specs.Prelude.{◌≡◌, ◌<◌, ◌≤◌, ℕ, ◌+◌, List, [], ◌++◌, length, Option, Some, None}
use Rattle.shake_streams.specs.Moves.{HasFailed}
use Rattle.shake_streams.specs.Past.{Past, with_bytes, with_end, with_fault}
use Rattle.shake_streams.specs.declared.read.ReadAllError.{ReadAllError}
use Rattle.shake_streams.specs.declared.read.ReadAllError.TheVariants.{Fault, TooLong, OutOfMemory}

-- the bytes are all that was left, and nothing is left
abbrev pub Ends : Option (List ℕ) → Option (List ℕ) → List ℕ → Type 0
Ends None now bytes = Unit {0}
Ends (Some left) now bytes = (bytes ≡ left) × (now ≡ Some [])

-- more bytes were left than the limit
abbrev pub IsLonger : Option (List ℕ) → ℕ → Type 0
IsLonger None limit = Unit {0}
IsLonger (Some left) limit = limit < length left

-- the cause of each error; that memory is left can't be promised
abbrev pub ReadsNot : ReadAllError → Option (List ℕ) → ℕ → ℕ → ℕ → Type 0
ReadsNot Fault left limit old new = HasFailed old new
ReadsNot TooLong left limit old new = IsLonger left limit
ReadsNot OutOfMemory left limit old new = Unit {0}

-- some front was read, of at most so many bytes, and the rest is left
abbrev pub LeavesRest : Option (List ℕ) → Option (List ℕ) → ℕ → Type 0
LeavesRest None now most = Unit {0}
LeavesRest (Some left) now most = (front rest : List ℕ) × (left ≡ front ++ rest) × (length front ≤ most) × (now ≡ Some rest)

-- the pulls gave these bytes, then told the end, and none failed
abbrev pub GivesAll : Past → Past → List ℕ → Type 0
GivesAll old now bytes = now ≡ with_end (with_bytes old bytes)

-- what they gave before each error: bytes within the limit and then a fault, more bytes than the limit, or bytes for which memory was short
abbrev pub GivesNot : ReadAllError → Past → Past → ℕ → Type 0
GivesNot Fault old now limit = (bytes : List ℕ) × (length bytes ≤ limit) × (now ≡ with_fault (with_bytes old bytes))
GivesNot TooLong old now limit = (bytes : List ℕ) × (limit < length bytes) × (now ≡ with_bytes old bytes)
GivesNot OutOfMemory old now limit = (bytes : List ℕ) × (length bytes ≤ limit + 1) × (now ≡ with_bytes old bytes)
