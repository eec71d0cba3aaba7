-- What one call of a source or a sink does, and what a text sent in pieces leaves behind.
use Rattle.std.specs.Prelude.{◌≡◌, ◌<◌, ◌≤◌, ◌^◌, ◌-◌, ◌⊎◌, ℕ, List, [], ◌++◌, length, take, drop, Option, Some, None, Result, Ok, Err, OnErr, IfOk}
use Rattle.shake_streams.specs.Past.{Past, with_bytes, with_fault, with_pull, with_push}
use Rattle.shake_streams.specs.declared.traits.Failed.{Failed}

-- a count of 64 bits rises no more from here
abbrev pub last_count : ℕ
last_count = 2 ^ 64 - 1

-- a fault was counted in between, or the count had no room for one
abbrev pub HasFailed : ℕ → ℕ → Type 0
HasFailed before now = (before < now) ⊎ (now ≡ last_count)

-- bytes that were known are known still, and are f of what they were
abbrev pub Known : (List ℕ → List ℕ) → Option (List ℕ) → Option (List ℕ) → Type 0
Known f None now = Unit {0}
Known f (Some bytes) now = now ≡ Some (f bytes)

-- n bytes came, the next ones; none for a piece with room says that none is left
abbrev pub Came : ℕ → List ℕ → List ℕ → Option (List ℕ) → Type 0
Came n old new None = Unit {0}
Came n old new (Some left) = (n ≤ length left) × (take n new ≡ take n left) × (n ≡ 0 → 0 < length old → left ≡ [])

-- the bytes that came are no longer left; a failed call takes none
abbrev pub Leaves : Result ℕ Failed → Option (List ℕ) → Option (List ℕ) → Type 0
Leaves (Ok n) old new = Known (drop n) old new
Leaves (Err e) old new = Known (λ bytes. bytes) old new

-- a call of `pull`: the piece before and after, the bytes left before and after, the faults before and after, the history before and after
pub record Pulls (result : Result ℕ Failed) (old new : List ℕ) (left_old left_new : Option (List ℕ)) (faults_old faults_new : ℕ) (given_old given_new : Past) : Type 0 where
  pub within : IfOk result (λ n. n ≤ length old)
  pub came : IfOk result (λ n. Came n old new left_old)
  pub left : Leaves result left_old left_new
  pub later : faults_old ≤ faults_new
  pub failed : OnErr result (HasFailed faults_old faults_new)
  pub given : given_new ≡ with_pull given_old result (length old) new

-- a front of the piece was written; a failed call writes nothing
abbrev pub Went : Result ℕ Failed → List ℕ → Option (List ℕ) → Option (List ℕ) → Type 0
Went (Ok n) piece old new = Known (λ bytes. bytes ++ take n piece) old new
Went (Err e) piece old new = Known (λ bytes. bytes) old new

-- a call of `push`: the piece, the bytes written before and after, the faults before and after, the history before and after
pub record Pushes (result : Result ℕ Failed) (piece : List ℕ) (written_old written_new : Option (List ℕ)) (faults_old faults_new : ℕ) (taken_old taken_new : Past) : Type 0 where
  pub within : IfOk result (λ n. n ≤ length piece)
  -- a sink that takes nothing of a piece with bytes answers `Failed`
  pub some : IfOk result (λ n. 0 < length piece → 0 < n)
  pub went : Went result piece written_old written_new
  pub later : faults_old ≤ faults_new
  pub failed : OnErr result (HasFailed faults_old faults_new)
  pub taken : taken_new ≡ with_push taken_old result piece

-- the text begins with this front
abbrev pub IsPrefixOf : List ℕ → List ℕ → Type 0
IsPrefixOf front text = (rest : List ℕ) × (text ≡ front ++ rest)

-- some front of the text was written, and nothing else
abbrev pub SendsFront : List ℕ → Option (List ℕ) → Option (List ℕ) → Type 0
SendsFront text None now = Unit {0}
SendsFront text (Some old) now = (front : List ℕ) × IsPrefixOf front text × (now ≡ Some (old ++ front))

-- a front of the text was taken, and then a push failed
abbrev pub TakesFront : List ℕ → Past → Past → Type 0
TakesFront text old now = (front : List ℕ) × IsPrefixOf front text × (now ≡ with_fault (with_bytes old front))
